use Rattle.std.proofs.Common.{◌≡◌, ◌∙◌, ℕ, ℤ, List, Bool, true, false, not, pos, refl, sym, ap, subst, SFits, to_z, of_z}
use Rattle.std.specs.Int.{w64}
use Rattle.std.proofs.lemmas.Bool.{eqb-true}
use Rattle.std.proofs.lemmas.Int.{to_z-of_z}
use lib.Dec.{eqb}
use Rattle.path_lines.specs.Numbers.{number_at}
use Rattle.path_lines.proofs.Pairs.{not_both}
use Rattle.path_levels.proofs.Exchanges.Untouched.{untouched_next}
use Rattle.path_levels.proofs.levels_after.is_touched.Goals as goal

not_false : (b : Bool) → not b ≡ false → b ≡ true
not_false true e = refl
not_false false e = absurd (not_both (sym e))

pub returns : goal.returns
returns c = λ down p at are is ex.
    let fits : SFits w64 c.number_of.result = record { sfits = c.number_of.type_inv } in
    let zero : to_z w64 0 ≡ pos 0 = refl in
    let code : of_z w64 c.number_of.result ≡ 0 = eqb-true (of_z w64 c.number_of.result) 0 (not_false (eqb (of_z w64 c.number_of.result) 0) down) in
    let none : c.number_of.result ≡ pos 0 = sym (to_z-of_z w64 c.number_of.result fits) ∙ ap (λ (n : ℕ). to_z w64 n) code ∙ zero in
    untouched_next c.args.exchange.corner.outline.now c.args.exchange.corner.lines.now c.args.exchange.step c.args.row.place c.args.row.sum.now c.args.pivot.now c.index.result.now c.index-2.result.now c.requires.place c.requires.pivot.step_is c.index.ensures c.index-2.ensures
    c.if-index-row.false c.if-index-row-2.false (subst (λ (zs : List ℤ). number_at zs c.args.pivot.now.step.enter.at ≡ pos 0) c.deref.ensures.value (sym c.number_of.ensures ∙ none)) c.requires.pivot.gives p at are is ex
