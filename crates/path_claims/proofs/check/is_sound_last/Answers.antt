use Rattle.std.proofs.Common.{◌∙◌, ◌↔◌, ℕ, List, length, sym, subst, IsTrue, Bool, Option}
use Rattle.problem_core.specs.Layout.{Row}
use Rattle.problem_core.specs.Changes.Paths.{IsSound}
use Rattle.path_lines.specs.Tables.{AreJudged}
use Rattle.path_lines.proofs.Exchanges.Leading.{ok_then}
use Rattle.path_fits.specs.Fits.{marks_after}
use Rattle.path_claims.specs.Judging.{IsSoundFrom}
use Rattle.path_claims.proofs.check.is_sound_last.Goals as goal

pub returns-in-Some : goal.returns-in-Some
returns-in-Some c =
    ok_then c.has_no_negative_before_after.result (λ holds h at after.
    subst (λ (o : Option ℕ). IsTrue holds ↔ IsSoundFrom c.args.case.path.now.dual c.args.case.p.now (marks_after c.args.case.p.now c.args.last at) o) (sym (sym c.unjudged_row.ensures ∙ c.in-Some.is))
    (h c.args.case.p.now at c.in-Some.id after (subst (λ (rs : List Row). AreJudged c.args.case.p.now c.in-Some.id c.rows_before-judged.result (length rs)) (sym c.rows.ensures) c.rows_before-judged.ensures))) c.has_no_negative_before_after.ensures

pub returns-in-None : goal.returns-in-None
returns-in-None c =
    ok_then c.is_sound_after.result (λ holds h at after.
    subst (λ (o : Option ℕ). IsTrue holds ↔ IsSoundFrom c.args.case.path.now.dual c.args.case.p.now (marks_after c.args.case.p.now c.args.last at) o) (sym (sym c.unjudged_row.ensures ∙ c.in-None.is)) (subst (λ (b : Bool). IsTrue holds ↔ IsSound b c.args.case.p.now (marks_after c.args.case.p.now c.args.last at)) c.dual.ensures (h c.args.case.p.now at after))) c.is_sound_after.ensures
