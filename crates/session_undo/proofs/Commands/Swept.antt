-- The answers to a sweep, and to what stops it.
use Rattle.std.proofs.Common.{List, inl, inr, refl}
use Rattle.frac_core.specs.Fraction.{Fraction}
use Rattle.scenes.specs.Sweeping.{AreSweptOf, IsSweepStopOf}
use Rattle.sweep_laws.specs.Stretches.{Stretch}
use Rattle.sweep_run.specs.declared.stretches.SweepStop.{SweepStop}
use Rattle.sweep_run.specs.declared.stretches.SweepStop.TheVariants as sweep
use Rattle.session_undo.specs.Machine.{IsSweepFree, Sweeps, TriedSweep}
use Rattle.session_undo.specs.Probed.{sweep_refusal}
use Rattle.session_undo.specs.Replies.{MayRefuse, Swept}
use Rattle.session_undo.specs.State.{State}

module _ (old : State) (from to : Fraction) where
  pub swept-answer : (stretches : List Stretch) → IsSweepFree old.scene from to → AreSweptOf old.scene from to stretches → TriedSweep old from to (Sweeps old from to) (Swept stretches) old
  swept-answer stretches free are =
      inr (free.0, inr (free.1, inl (record { stretches = stretches; are = are; told = (refl, refl) })))

  pub sweep-stops : (stop : SweepStop) → IsSweepFree old.scene from to → IsSweepStopOf old.scene from to old.budget stop → MayRefuse (λ reply. TriedSweep old from to (Sweeps old from to) reply old) (sweep_refusal stop)
  sweep-stops (sweep.Unfit width path what) free h =
      inr (free.0, inr (free.1, inr (inl (record { width = width; path = path; what = what; stopped = h; refused = (refl, refl) }))))
  sweep-stops (sweep.Spent width path) free h =
      inr (free.0, inr (free.1, inr (inr (record { width = width; path = path; stopped = h; refused = (refl, refl) }))))
  sweep-stops sweep.OutOfMemory free h = tt
