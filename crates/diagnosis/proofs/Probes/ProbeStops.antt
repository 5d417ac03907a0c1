-- Why a probe stops.
use Rattle.std.proofs.Common.{◌≡◌, ℕ, Bool, true, false, [], ◌∷◌, pos, refl, sym, subst, arith}
use Rattle.std.proofs.lemmas.List.Elements.{All-push}
use Rattle.frac_core.specs.Fraction.{Fraction, IsKept, IsUnfitRatio}
use Rattle.problem_core.specs.Layout.{Assignment, Satisfies, error, line_of_row}
use Rattle.problem_core.specs.Kept.{IsWhole}
use Rattle.problem_core.specs.Gaps.{value_of}
use Rattle.cert_core.specs.Stops.{IsStopOf}
use Rattle.cert_core.specs.declared.stops.RunStop.{RunStop}
use Rattle.cert_core.specs.declared.stops.RunStop.TheVariants as run
use Rattle.corner_view.specs.AddStops.{FromAdded}
use Rattle.layout_solver.specs.Layouts.{AreBest, Layout}
use Rattle.layout_solver.proofs.Removals.LeftEnds.{no_conflict}
use Rattle.diagnosis.specs.declared.probing.DiagnoseStop.{DiagnoseStop}
use Rattle.diagnosis.specs.declared.probing.DiagnoseStop.TheVariants.{Unfit, Spent, Target, OutOfMemory}
use Rattle.diagnosis.specs.Probes.{CanProbe, IsBeside, IsCalledFor, IsDiagnoseStop, IsProbeStop, IsStopAt, IsStopped, NoConflict, next_num, probe_row, turned, with_probe}

abbrev IsStop : Layout → ℕ → Fraction → ℕ → RunStop → Type 0
IsStop l attr t budget stop = IsStopOf false (with_probe l attr t) l.problem.rows (FromAdded (with_probe l attr t) l.corner (probe_row l attr t ∷ [])) budget stop

-- what satisfies the required rows satisfies them beside a probe
still-satisfied : (l : Layout) (attr : ℕ) (t : Fraction) (x : Assignment) → Satisfies l.problem x → Satisfies (with_probe l attr t) x
still-satisfied l attr t x h = All-push (λ r. r.rank ≡ 1000 → error x (line_of_row r) ≡ 0) l.problem.rows (probe_row l attr t) h (λ e. absurd (omega (arith, e)))

pub stop_not_conflict : (l : Layout) (attr : ℕ) (t : Fraction) (budget : ℕ) (stop : RunStop) → AreBest l.problem l.values → IsWhole (with_probe l attr t) → IsStop l attr t budget stop → NoConflict stop
stop_not_conflict l attr t budget (run.Conflict by) best more h = no_conflict (with_probe l attr t) best.best.0 by more (still-satisfied l attr t best.best.0 best.best.1.0) h
stop_not_conflict l attr t budget (run.Unfit at) best more h = tt
stop_not_conflict l attr t budget (run.Spent path) best more h = tt
stop_not_conflict l attr t budget run.OutOfMemory best more h = tt

pub stopped : (l : Layout) (attr : ℕ) (up : Bool) (t : Fraction) (budget : ℕ) (stop : RunStop) → IsBeside up (value_of l.values attr) t → IsKept t → IsStop l attr t budget stop → IsStopped l attr up budget (turned up stop)
stopped l attr up t budget (run.Conflict by) beside kept h = tt
stopped l attr up t budget (run.Unfit at) beside kept h = (refl, (t, beside, kept, h))
stopped l attr up t budget (run.Spent path) beside kept h = (refl, (t, beside, kept, h))
stopped l attr up t budget run.OutOfMemory beside kept h = tt

pub called_for : (l : Layout) (attr : ℕ) (up : Bool) (budget : ℕ) (stop : DiagnoseStop) → IsCalledFor l attr up → IsStopped l attr up budget stop → IsDiagnoseStop l attr budget stop
called_for l attr up budget (Unfit way at) called (same, h) =
    (subst (λ (b : Bool). IsCalledFor l attr b) (sym same) called, subst (λ (b : Bool). IsProbeStop l attr b budget (run.Unfit at)) (sym same) h)
called_for l attr up budget (Spent way path) called (same, h) =
    (subst (λ (b : Bool). IsCalledFor l attr b) (sym same) called, subst (λ (b : Bool). IsProbeStop l attr b budget (run.Spent path)) (sym same) h)
called_for l attr up budget (Target way) called (same, h) = (
  subst (λ (b : Bool). IsCalledFor l attr b) (sym same) called,
  subst (λ (b : Bool). IsUnfitRatio (next_num b (value_of l.values attr)) (pos (value_of l.values attr).den)) (sym same) h,
)
called_for l attr up budget OutOfMemory called h = tt

-- a probe up is always made
pub up_called_for : (l : Layout) (attr : ℕ) → IsCalledFor l attr true
up_called_for l attr e = absurd cc

-- the stop of an attribute that is held, with its number
pub stop_at : (l : Layout) (budget attr : ℕ) (stop : DiagnoseStop) → CanProbe l attr → IsDiagnoseStop l attr budget stop → IsStopAt l budget attr stop
stop_at l budget attr (Unfit up at) can h = (can.held, h)
stop_at l budget attr (Spent up path) can h = (can.held, h)
stop_at l budget attr (Target up) can h = (can.held, h)
stop_at l budget attr OutOfMemory can h = tt
