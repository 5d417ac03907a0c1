-- Stops of probes that are called for, and that are not; answers.
use Rattle.std.proofs.Common.{◌≡◌, ℕ, true, false, pos, refl, sym, subst}
use Rattle.frac_core.specs.Fraction.{Fraction, IsUnfitRatio}
use Rattle.problem_core.specs.Layout.{Problem}
use Rattle.problem_core.specs.Gaps.{value_of}
use Rattle.cert_core.specs.Paths.{Path}
use Rattle.layout_solver.specs.Layouts.{Layout}
use Rattle.diagnosis.specs.declared.probing.Answer.TheVariants.{Fixed, Moves}
use Rattle.diagnosis.specs.declared.probing.DiagnoseStop.TheVariants.{Spent, Target}
use Rattle.diagnosis.specs.Ambiguity.{GoesAbove}
use Rattle.diagnosis.specs.Examples.{free, held, whole}
use Rattle.diagnosis.specs.Probes.{IsAnswer, IsDiagnoseStop, next_num}
use Rattle.diagnosis.proofs.Examples.AmbiguityExamples.{above_zero, free_ambiguous, free_moves, held_not_ambiguous}
use Rattle.diagnosis.proofs.Examples.UnmetExamples.{one_fits, one_lowest, past_the_greatest}

-- ---- answers

pub free_is_answered : IsAnswer free 1 (whole 0) (Moves (whole 1))
free_is_answered = (one_lowest, free_ambiguous, free_moves)

pub free_is_not_fixed : IsAnswer free 1 (whole 0) Fixed → ⊥
free_is_not_fixed answer = answer free_ambiguous

pub held_is_fixed : IsAnswer held 1 (whole 0) Fixed
held_is_fixed = held_not_ambiguous

pub held_is_not_said_to_move : (f : Fraction) → IsAnswer held 1 (whole 0) (Moves f) → ⊥
held_is_not_said_to_move f answer = held_not_ambiguous answer.1

-- ---- stops

-- a free attribute at the greatest value can't be wished a point more
pub free_has_no_target : (l : Layout) (budget : ℕ) → value_of l.values 1 ≡ whole 4398046511103 → IsDiagnoseStop l 1 budget (Target true)
free_has_no_target l budget at = ((λ up. absurd cc), subst (λ (v : Fraction). IsUnfitRatio (next_num true v) (pos v.den)) (sym at) past_the_greatest)

-- at 0 it can
pub free_has_a_target : (l : Layout) (budget : ℕ) → value_of l.values 1 ≡ whole 0 → IsDiagnoseStop l 1 budget (Target true) → ⊥
free_has_a_target l budget at (called, unfit) = one_fits (subst (λ (v : Fraction). IsUnfitRatio (next_num true v) (pos v.den)) at unfit)

-- and no probe down is called for
pub free_is_not_probed_down : (l : Layout) (budget : ℕ) (path : Path) → l.problem ≡ free → value_of l.values 1 ≡ whole 0 → IsDiagnoseStop l 1 budget (Spent false path) → ⊥
free_is_not_probed_down l budget path is at (called, stop) =
    called refl (subst (λ (p : Problem). GoesAbove p 1 (value_of l.values 1)) (sym is) (subst (λ (v : Fraction). GoesAbove free 1 v) (sym at) above_zero))
