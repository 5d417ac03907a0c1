use Rattle.std.proofs.Common.{rules, ◌≡◌, ◌∙◌, ◌+◌, ◌<◌, ◌≤◌, suc, slice_index_or, ap, subst, sym, arith}
use Rattle.row_core.specs.Rows.{Term}
use Rattle.corner_writings.proofs.Readings.EntryFacts.{before_but, behind_but, same_default}
use Rattle.corner_writings.proofs.writings.column_but.Goals as goal

pub returns-then-at-from : goal.returns-then-at-from
returns-then-at-from c =
    let e : c.at.inside.col.0 ≡ (slice_index_or c.args.entries.now c.args.i c.index-entries-i.result).col = ap (λ (t : Term). t.col) (c.at.view_is ∙ c.index-entries-i.is) in
    let less : c.at.inside.col.0 < c.args.w = search rules in
    let within = c.requires.within in
    e ∙ sym (before_but c.args.w c.args.entries.now c.args.i c.index-entries-i.result c.requires.rising c.requires.has (omega (arith, within)) (subst (λ n. n < c.args.w) e less))

pub returns-else-at-from : goal.returns-else-at-from
returns-else-at-from c =
    let within = c.requires.within in
    let e : c.at.inside.col.0 ≡ (slice_index_or c.args.entries.now c.args.i c.index-entries-i.result).col = ap (λ (t : Term). t.col) (c.at.view_is ∙ c.index-entries-i.is) in
    let n : c.args.i + 1 ≡ suc c.args.i = omega arith in
    let f : c.next.inside.col.0 ≡ (slice_index_or c.args.entries.now (suc c.args.i) c.index-entries-i.result).col =
    ap (λ (t : Term). t.col) (c.next.view_is ∙ c.index-entries-i-2.is ∙ same_default c.args.entries.now (c.args.i + 1) c.index-entries-i-2.result c.index-entries-i.result within)
    ∙ ap (λ k. (slice_index_or c.args.entries.now k c.index-entries-i.result).col) n in
    let le : c.args.w ≤ c.at.inside.col.0 = search rules in
    f ∙ sym (behind_but c.args.w c.args.entries.now c.args.i c.index-entries-i.result c.requires.rising c.requires.has (omega (arith, within)) (subst (λ k. c.args.w ≤ k) e le))
