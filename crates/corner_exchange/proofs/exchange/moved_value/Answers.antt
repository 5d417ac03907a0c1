use Rattle.std.proofs.Common.{rules, SFits, w64, ◌≡◌, ◌∙◌, ◌*ℤ◌, ◌<ℤ◌, inr, ℤ, pos, neg_ℤ, sym, ap, ap₂, subst}
use Rattle.std.proofs.lemmas.Int.{to_z-of_z}
use Rattle.frac_core.specs.Fraction.{IsKept, IsLowest}
use Rattle.problem_core.specs.Corners.{Swap}
use Rattle.problem_core.specs.Changes.Stops.{TableStop}
use Rattle.corner_view.specs.Stops.{IsUnfitStop}
use Rattle.corner_exchange.specs.Swaps.Exchanges.{IsPivotAt, IsValueAfter, marks_after, moved_by}
use Rattle.corner_table.specs.Tables.{lists_of, problem_of}
use Rattle.corner_exchange.proofs.Pivots.LineSlots.{own_above, unfit_after, value_after, what_moves, what_stop}
use Rattle.corner_exchange.proofs.exchange.moved_value.Goals as goal
use Rattle.frac_core.proofs.Results.{ok_implies, err_implies as err_all}

pub named_sum-requires-clause-above : goal.named_sum-requires-clause-above
named_sum-requires-clause-above c =
    let own : SFits w64 c.own_of.result = search rules in
    simp to_z-of_z (subst (λ (z : ℤ). pos 0 <ℤ z) (sym c.own_of.ensures.value)
    (own_above (lists_of c.args.table.now) c.args.pivot.now.pair c.requires.pivot.swap c.args.w c.args.what
    (what_moves (lists_of c.args.table.now) c.args.pivot.now c.requires.pivot.swap c.args.w c.args.what c.requires.pivot.kept c.requires.pivot.is c.requires.moved.slot c.requires.moved.other c.requires.moved.stands c.requires.what)))

number : (c : goal.After-named_sum) → c.opposite-n.result ≡ moved_by (lists_of c.args.table.now) c.args.pivot.now.pair c.args.w c.args.what
number c =
    let e : SFits w64 c.entry-c.result = search rules in
    let one : SFits w64 c.sign.result = search rules in
    let two : SFits w64 c.what_sign.result = search rules in
    let n : SFits w64 c.with_signs.result = search rules in
    (simp to_z-of_z at c.opposite-n.ensures.value) ∙ ap neg_ℤ ((simp to_z-of_z at c.with_signs.ensures.value) ∙ ap₂ ◌*ℤ◌ (ap₂ ◌*ℤ◌ c.entry-c.ensures.value c.sign.ensures.value) c.what_sign.ensures.value)

pub returns-clause-ok : goal.returns-clause-ok
returns-clause-ok c =
    let n : SFits w64 c.opposite-n.result = search rules in
    let d : SFits w64 c.own_of.result = search rules in
    ok_implies c.named_sum.result _ (IsValueAfter (lists_of c.args.table.now) c.args.pivot.now c.args.w c.args.what)
    (λ f ratio. value_after (lists_of c.args.table.now) c.args.pivot.now c.args.w c.args.what c.value_at.result f c.opposite-n.result c.own_of.result c.value_at.ensures (number c) c.own_of.ensures.value (simp to_z-of_z at ratio))
    c.named_sum.ensures.ok

pub returns-clause-lowest : goal.returns-clause-lowest
returns-clause-lowest c = ok_implies c.named_sum.result IsKept IsLowest (λ f kept. kept.lowest) c.named_sum.ensures.kept

pub returns-clause-stop : goal.returns-clause-stop
returns-clause-stop c =
    let n : SFits w64 c.opposite-n.result = search rules in
    let d : SFits w64 c.own_of.result = search rules in
    err_all c.named_sum.result _ (λ stop. (s : Swap) → IsPivotAt (lists_of c.args.table.now) c.args.pivot.now s → IsUnfitStop (problem_of (lists_of c.args.table.now)) (marks_after (lists_of c.args.table.now) s) stop)
    (λ stop h s at. subst (λ (e : TableStop). IsUnfitStop (problem_of (lists_of c.args.table.now)) (marks_after (lists_of c.args.table.now) s) e) (sym (h.0 ∙ c.unfit.ensures))
    (what_stop (lists_of c.args.table.now) c.args.pivot.now s c.args.w c.args.what c.requires.pivot.kept at c.requires.moved.slot c.requires.moved.other c.requires.moved.stands c.requires.what
    (inr (unfit_after (lists_of c.args.table.now) c.args.pivot.now c.args.w c.args.what c.value_at.result c.opposite-n.result c.own_of.result c.value_at.ensures (number c) c.own_of.ensures.value (simp to_z-of_z at h.1)))))
    c.named_sum.ensures.err
