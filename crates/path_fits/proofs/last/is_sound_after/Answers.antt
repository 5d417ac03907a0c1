use Rattle.std.proofs.Common.{◌≡◌, ◌↔◌, Bool, IsTrue, true, false, sym, subst, rules}
use Rattle.problem_core.specs.Changes.Paths.{IsSound}
use Rattle.path_lines.proofs.Exchanges.Leading.{ok_then}
use Rattle.path_lines.proofs.Stops.{is_refused}
use Rattle.path_fits.specs.Fits.{marks_after}
use Rattle.path_levels.specs.Exchanges.Pivots.{IsExchangePivot}
use Rattle.path_fits.proofs.LastCorner.SignsAfter.{sound_iff}
use Rattle.path_fits.proofs.last.is_sound_after.Goals as goal

pub returns-then-dual : goal.returns-then-dual
returns-then-dual c =
    let dual : c.args.dual ≡ true = search rules in
    ok_then c.has_no_negative_column_after.result (λ holds h p at is. subst (λ (d : Bool). IsTrue holds ↔ IsSound d p (marks_after p c.args.last at)) (sym dual) (h p at is.kept is.levels is.exchange)) c.has_no_negative_column_after.ensures

pub returns-in-Ok : goal.returns-in-Ok
returns-in-Ok c = λ p at is.
    let primal : c.args.dual ≡ false = search rules in
    let turn : IsExchangePivot p at c.in-Ok.pivot = c.in-Ok.ensures.pivot p at is.kept.there is.kept.lines_are is.exchange in
    sound_iff p at c.args.last c.in-Ok.pivot _ _ c.args.dual c.are_up_after.result primal turn c.in-Ok.ensures.step is.kept.lines_are.count (c.are_up_after.ensures p at turn is.kept.lines_are)

pub returns-in-Err-Refused : goal.returns-in-Err-Refused
returns-in-Err-Refused c = λ p at is. absurd (c.in-Err-Refused.ensures.unfit (is_refused _ _ c.in-Err-Refused.field-0-is) p at is.kept.there is.kept.lines_are is.exchange)
