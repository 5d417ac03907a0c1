use Rattle.std.proofs.Common.{◌≡◌, ◌∙◌, ℕ, ◌+◌, cond, sym, ap, subst, Option, None, Some}
use Rattle.std.specs.Option.{is_some}
use Rattle.std.specs.BTreeMap.{Updates, btree_map_len, get}
use Rattle.path_lines.specs.Numbering.{pair_cmp}
use Rattle.path_lines.proofs.Pairs.{extends_more, numbered_more}
use Rattle.path_claims.proofs.numbering.numbered.Goals as goal

pub returns-clause-numbered : goal.returns-clause-numbered
returns-clause-numbered c =
    let none : get pair_cmp c.args.pairs.now c.args.pair ≡ None = sym c.in_default.ensures.value in
    let long : btree_map_len c.insert.new.self ≡ btree_map_len c.args.pairs.now + 1 =
    c.in_ok-insert.ensures.len ∙ ap (λ (o : Option ℕ). btree_map_len c.args.pairs.now + cond (is_some o) 0 1) (c.in_ok-insert.ensures.old ∙ none) in
    numbered_more c.args.pairs.now c.insert.new.self c.args.pair c.requires
    (subst (λ (n : ℕ). Updates pair_cmp c.args.pairs.now c.insert.new.self c.args.pair (Some n)) c.len-number.ensures.len c.in_ok-insert.ensures.updates) long

pub returns-clause-extends : goal.returns-clause-extends
returns-clause-extends c =
    let none : get pair_cmp c.args.pairs.now c.args.pair ≡ None = sym c.in_default.ensures.value in
    extends_more c.args.pairs.now c.insert.new.self c.args.pair c.len-number.result c.in_ok-insert.ensures.updates none
