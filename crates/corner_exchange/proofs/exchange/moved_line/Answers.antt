use Rattle.std.proofs.Common.{rules, SFits, w64, ◌≡◌, ◌∙◌, ◌*ℤ◌, ℤ, pos, sym, ap, subst}
use Rattle.std.proofs.lemmas.Int.{to_z-of_z}
use Rattle.std.proofs.lemmas.Result.{err_from_is_err_and}
use Rattle.frac_core.specs.Fraction.{IsFitting}
use Rattle.row_core.specs.Rows.{coefficient}
use Rattle.problem_core.specs.Corners.{Swap}
use Rattle.problem_core.specs.Changes.Stops.{TableStop}
use Rattle.corner_view.specs.Stops.{IsUnfitStop}
use Rattle.corner_exchange.specs.Swaps.Exchanges.{IsOwnerRow, IsPivotAt, marks_after}
use Rattle.corner_table.specs.Tables.{lists_of, problem_of, slot_at, standing_at}
use Rattle.corner_exchange.proofs.Pivots.LineSlots.{moved_change, moved_large, what_row}
use Rattle.corner_exchange.proofs.exchange.moved_line.Goals as goal

pub returns-clause-ok : goal.returns-clause-ok
returns-clause-ok c =
    let own : SFits w64 c.entry-own.result = search rules in
    let row : (s : Swap) → IsPivotAt (lists_of c.args.table.now) c.args.pivot.now s
    → IsOwnerRow (lists_of c.args.table.now) (marks_after (lists_of c.args.table.now) s) c.args.change.at (slot_at (lists_of c.args.table.now) c.args.change.at).owner (standing_at (lists_of c.args.table.now) c.args.change.at).side c.args.change.row c.args.change.value =
    λ s at. what_row (lists_of c.args.table.now) c.args.pivot.now s c.args.change.at c.args.what c.args.change.row c.args.change.value c.requires.pivot.kept at c.requires.moved.slot c.requires.moved.other c.requires.moved.stands c.requires.what
    c.entry-own.ensures.kept.lowest c.requires.row c.requires.lowest c.requires.value in
    let own_is : c.entry-own.result ≡ coefficient c.args.change.at c.args.change.row = c.entry-own.ensures.value ∙ ap (λ k. coefficient k c.args.change.row) c.from.ensures in
    λ s at. moved_change (lists_of c.args.table.now) c.args.pivot.now.pair s c.args.change.at c.args.change.row c.args.change.value c.requires.pivot.kept at.pair c.requires.moved.slot c.requires.moved.other c.requires.moved.stands
    c.entry-own.ensures.kept.lowest c.requires.row (row s at)
    (λ stay. subst (λ (z : ℤ). IsFitting (pos 2 *ℤ z)) own_is (simp to_z-of_z at (c.in_ok-check_stay.ensures.ok stay)))

pub returns-in_err-check_stay-clause-stop : goal.returns-in_err-check_stay-clause-stop
returns-in_err-check_stay-clause-stop c =
    let exit = err_from_is_err_and c.from_residual.result c.from_residual.ensures.1 in
    let own : SFits w64 c.entry-own.result = search rules in
    let large : IsFitting (pos 2 *ℤ c.entry-own.result) → ⊥ = simp to_z-of_z at c.in_err-check_stay.ensures.unfit in
    let row : (s : Swap) → IsPivotAt (lists_of c.args.table.now) c.args.pivot.now s
    → IsOwnerRow (lists_of c.args.table.now) (marks_after (lists_of c.args.table.now) s) c.args.change.at (slot_at (lists_of c.args.table.now) c.args.change.at).owner (standing_at (lists_of c.args.table.now) c.args.change.at).side c.args.change.row c.args.change.value =
    λ s at. what_row (lists_of c.args.table.now) c.args.pivot.now s c.args.change.at c.args.what c.args.change.row c.args.change.value c.requires.pivot.kept at c.requires.moved.slot c.requires.moved.other c.requires.moved.stands c.requires.what
    c.entry-own.ensures.kept.lowest c.requires.row c.requires.lowest c.requires.value in
    let own_is : c.entry-own.result ≡ coefficient c.args.change.at c.args.change.row = c.entry-own.ensures.value ∙ ap (λ k. coefficient k c.args.change.row) c.from.ensures in
    rw (exit.1, exit.2) (λ s at.
    let h = moved_large (lists_of c.args.table.now) c.args.pivot.now.pair s c.args.change.at c.args.change.row c.args.change.value c.requires.pivot.kept at.pair c.requires.moved.other (row s at) c.requires.lowest c.in_err-check_stay.ensures.stay
    (λ f. large (subst (λ (z : ℤ). IsFitting (pos 2 *ℤ z)) (sym own_is) f)) in
    subst (λ (e : TableStop). IsUnfitStop (problem_of (lists_of c.args.table.now)) (marks_after (lists_of c.args.table.now) s) e) (sym (c.in_err-check_stay.ensures.stop h.0 h.1)) h.2)
