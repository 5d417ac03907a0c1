-- With room nothing stops but for want of memory.
use Rattle.std.proofs.Common.{◌≡◌, ◌∙◌, ◌⊎◌, inl, inr, ℕ, ◌+◌, ◌<◌, ◌^◌, ◌≤◌, true, false, List, [], length, refl, sym, subst}
use Rattle.std.proofs.lemmas.List.{length-map}
use Rattle.frac_core.specs.Fraction.{Fraction, IsKept, IsLowest}
use Rattle.problem_core.specs.declared.parts.Mark.{Mark}
use Rattle.problem_core.specs.declared.stops.Quantity.TheVariants.{Plain, Terms, Rows, Shifts}
use Rattle.problem_core.specs.declared.stops.What.{What}
use Rattle.problem_core.specs.Layout.{Problem}
use Rattle.problem_core.specs.Kept.{IsWhole}
use Rattle.problem_core.specs.Corners.{IsCorner}
use Rattle.problem_core.specs.Changes.Paths.{last_marks}
use Rattle.cert_core.specs.Paths.{Path}
use Rattle.cert_core.specs.declared.stops.RunStop.TheVariants as run
use Rattle.corner_view.specs.AddStops.{FromAdded}
use Rattle.corner_view.proofs.Seen.ShiftedLines.{shift_whole}
use Rattle.corner_laws.proofs.PathEnds.Complete.{stops_are_conflicts}
use Rattle.corner_laws.proofs.PathEnds.Few.{last_corner}
use Rattle.corner_lines.specs.Shifts.{has_constant, with_constant}
use Rattle.problem_core.specs.declared.stops.Quantity.{Quantity}
use Rattle.sweep_laws.specs.Fractions.{IsBetween}
use Rattle.sweep_laws.specs.Stops.{HasConstant, IsSlideEnd, IsSlideFar, IsSlidePath, IsSlideSpent, IsSlideUnfit, IsToldAt}
use Rattle.sweep_laws.proofs.EachCorner.{corner_at_each}
use Rattle.sweep_run.specs.declared.stretches.SweepQuantity.TheVariants.{At, Breakpoint}
use Rattle.sweep_run.specs.declared.stretches.SweepStop.{SweepStop}
use Rattle.sweep_run.specs.declared.stretches.SweepStop.TheVariants.{Unfit, Spent, OutOfMemory}
use Rattle.sweep_param.specs.Sweeps.{IsStartSpent, IsStartUnfit, IsSweepStop}
use Rattle.sweep_param.specs.Laws.{HasRoomToSweep, IsMet, SweepsAreAnswered}
use Rattle.sweep_param.proofs.Constants.{constant_here, constant_kept}

module _ (p : Problem) (row : ℕ) (from to : Fraction) (budget : ℕ) (whole : IsWhole p) (kept_from : IsKept from) (kept_to : IsKept to) (room : HasRoomToSweep p row from to budget) where
  no-start-unfit : (path : Path) (q : Quantity) → IsStartUnfit p budget path q → ⊥
  no-start-unfit path q h = stops_are_conflicts false p [] (FromAdded p [] p.rows) budget (run.Unfit (record { path = path; quantity = q })) whole room.start room.exchanges h

  no-start-spent : (path : Path) → IsStartSpent p budget path → ⊥
  no-start-spent path h = stops_are_conflicts false p [] (FromAdded p [] p.rows) budget (run.Spent path) whole room.start room.exchanges h

  -- ---- a slide

  kept-end : (present end : Fraction) → IsSlideEnd present from to end → IsKept end
  kept-end present end (inl (e, less)) = subst IsKept (sym e) kept_to
  kept-end present end (inr (e, less)) = subst IsKept (sym e) kept_from

  an-end : (present end : Fraction) → IsSlideEnd present from to end → (end ≡ from) ⊎ (end ≡ to)
  an-end present end (inl (e, less)) = inr e
  an-end present end (inr (e, less)) = inl e

  -- a corner with one constant is one with the present constant
  corner-here : (present w : Fraction) (at : List Mark) → HasConstant p row present → 0 < w.den → IsCorner (with_constant row w p) at → IsCorner p at
  corner-here present w at held above corner =
      subst (λ (q : Problem). IsCorner q at) (constant_here p row present whole held)
      (corner_at_each p row at w present whole above (constant_kept p row present whole held).lowest.above corner)

  path-corner : (kept : List Mark) (w : Fraction) (path : Path) → IsSlidePath p row kept w budget path → IsCorner (with_constant row w p) (last_marks path.corner path.swaps)
  path-corner kept w path leads = last_corner true (with_constant row w p) path.corner path.swaps leads.lawful.corner leads.lawful.lawful

  -- where it is told is met
  is-met : (present end w : Fraction) (at : List Mark) → IsSlideEnd present from to end → IsCorner p at → IsToldAt p row present from to end at w → IsMet p row present from to w
  is-met present end w at (inl (e, less)) corner (inl same) = inr (inr (inl (same ∙ e)))
  is-met present end w at (inr (e, less)) corner (inl same) = inr (inl (same ∙ e))
  is-met present end w at is_end corner (inr (inl same)) = inr (inl same)
  is-met present end w at is_end corner (inr (inr (inl same))) = inr (inr (inl same))
  is-met present end w at (inl (e, less)) corner (inr (inr (inr (between, (m, turns))))) =
      inr (inr (inr (inr (subst (λ (f : Fraction). IsBetween present f w) e between), (at, m, corner, turns))))
  is-met present end w at (inr (e, less)) corner (inr (inr (inr (between, (m, turns))))) =
      inr (inr (inr (inl (subst (λ (f : Fraction). IsBetween present f w) e between), (at, m, corner, turns))))

  no-unfit : (kept : List Mark) (present end w : Fraction) (path : Path) (what : What) → HasConstant p row present → IsSlideEnd present from to end → IsLowest w → IsSlideUnfit p row kept present from to end budget w path what → ⊥
  no-unfit kept present end w path what held is_end low h =
      let corner = path-corner kept w path h.leads in
      room.fits present w held low
      (is-met present end w (last_marks path.corner path.swaps) is_end (corner-here present w (last_marks path.corner path.swaps) held low.above corner) h.told)
      (last_marks path.corner path.swaps) (Plain what) corner h.unfit

  no-far : (kept : List Mark) (present end : Fraction) (path : Path) (m : Mark) → HasConstant p row present → IsSlideEnd present from to end → IsSlideFar p row kept present end budget path m → ⊥
  no-far kept present end path m held is_end h =
      room.turns present end (last_marks path.corner path.swaps) m held (an-end present end is_end)
      (corner-here present end (last_marks path.corner path.swaps) held (kept-end present end is_end).lowest.above (path-corner kept end path h.leads)) h.turn

  end-met : (present end : Fraction) → IsSlideEnd present from to end → IsMet p row present from to end
  end-met present end (inl (e, less)) = inr (inr (inl e))
  end-met present end (inr (e, less)) = inr (inl e)

  no-spent : (kept : List Mark) (present end : Fraction) (path : Path) → HasConstant p row present → IsSlideEnd present from to end → IsSlideSpent p row kept end budget path → ⊥
  no-spent kept present end path held is_end h =
      let kept_end = kept-end present end is_end in
      let exchanges : 3 ^ (length (with_constant row end p).rows + length p.stays) ≤ budget =
      subst (λ (n : ℕ). 3 ^ (n + length p.stays) ≤ budget) (sym (length-map p.rows (has_constant row end))) room.exchanges in
      stops_are_conflicts true (with_constant row end p) (with_constant row end p).rows (λ rest at. (rest ≡ []) × (at ≡ kept)) budget (run.Spent path) (shift_whole p row end kept_end whole)
      (room.fits present end held kept_end.lowest (end-met present end is_end)) exchanges h

  answered : (stop : SweepStop) → IsSweepStop p row from to budget stop → stop ≡ OutOfMemory
  answered OutOfMemory h = refl
  answered (Unfit width path (At q)) (inl (held, start)) = absurd (no-start-unfit path q start)
  answered (Unfit width path (At (Plain what))) (inr (low, (kept, started, (present, end, held, is_end, h)))) = absurd (no-unfit kept present end width path what held is_end low h)
  answered (Unfit width path (At (Terms m j))) (inr h) = absurd h
  answered (Unfit width path (At (Rows level j))) (inr h) = absurd h
  answered (Unfit width path (At (Shifts what j))) (inr h) = absurd h
  answered (Unfit width path (Breakpoint m)) (kept, started, (present, end, held, is_end, (e, h))) = absurd (no-far kept present end path m held is_end h)
  answered (Spent width path) (inl (held, start)) = absurd (no-start-spent path start)
  answered (Spent width path) (inr (kept, started, (present, end, held, is_end, (e, h)))) = absurd (no-spent kept present end path held is_end h)

pub sweeps_are_answered : SweepsAreAnswered
sweeps_are_answered p row from to budget stop whole kept_from kept_to room h = answered p row from to budget whole kept_from kept_to room stop h
