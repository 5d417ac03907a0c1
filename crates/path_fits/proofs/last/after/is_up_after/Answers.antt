use Rattle.std.proofs.Common.{Some, subst, inl, inr, refl, true}
use Rattle.std.proofs.lemmas.Bool.{cases_Bool}
use Rattle.path_lines.specs.Exchanges.Pivots.{next_marks}
use Rattle.path_lines.specs.Tables.{name_at}
use Rattle.path_lines.proofs.Iffs.{always, through}
use Rattle.path_lines.proofs.Arithmetic.ValueSigns.{outside_is_up}
use Rattle.path_fits.specs.Sums.{IsMoverOf, IsSideAt}
use Rattle.path_fits.proofs.LastCorner.SumsAfter.{up_moved, up_turned}
use Rattle.path_fits.proofs.last.after.is_up_after.Goals as goal

pub returns-in-Some : goal.returns-in-Some
returns-in-Some c = λ p marks is count within line.
    let inside : IsSideAt (next_marks p c.args.pivot.now marks) (name_at p c.args.line.at) (Some c.in-Some.side) =
    subst (IsSideAt (next_marks p c.args.pivot.now marks) (name_at p c.args.line.at)) c.in-Some.is (c.side_after.ensures p marks is.there is.exchange is.sized.enter_at is.sized.leave_at within line) in
    let mover : IsMoverOf p marks (name_at p c.args.line.at) (name_at p c.args.pivot.now.step.enter.at) c.mover_of.result = c.mover_of.ensures.mover p marks is.there count within line in
    elim (cases_Bool c.args.pivot.now.is_turn) [
      | inl turn ↦ through c.is_on_side.result (c.is_on_side.ensures _ (c.sign_after.ensures.turn turn)) (up_turned p marks c.args.pivot.now c.args.line.at c.in-Some.side c.mover_of.result is turn within inside mover)
      | inr other ↦ through c.is_on_side.result (c.is_on_side.ensures _ (c.sign_after.ensures.other other)) (up_moved p marks c.args.pivot.now c.args.line.at c.in-Some.side c.mover_of.result is other within inside c.mover_of.ensures.sized.above mover)
    ]

pub returns-in-None : goal.returns-in-None
returns-in-None c = λ p marks is count within line.
    always true refl (outside_is_up p (next_marks p c.args.pivot.now marks) (name_at p c.args.line.at)
    (subst (IsSideAt (next_marks p c.args.pivot.now marks) (name_at p c.args.line.at)) c.in-None.is (c.side_after.ensures p marks is.there is.exchange is.sized.enter_at is.sized.leave_at within line)))
