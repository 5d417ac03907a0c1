-- The stops of slides as those of a sweep.
use Rattle.std.proofs.Common.{◌≡◌, inl, inr, ℕ, Bool, List, refl, sym, subst}
use Rattle.frac_core.specs.Fraction.{Fraction}
use Rattle.problem_core.specs.declared.parts.Mark.{Mark}
use Rattle.problem_core.specs.declared.stops.Quantity.TheVariants.{Plain, Terms, Rows, Shifts}
use Rattle.problem_core.specs.Layout.{Problem}
use Rattle.problem_core.specs.Changes.Paths.{last_marks}
use Rattle.sweep_laws.specs.Stops.{HasConstant, IsSlideEnd, IsSlideFar, IsSlideSpent, IsSlideUnfit, IsToldAt}
use Rattle.sweep_run.specs.Slides.{IsSlideStop}
use Rattle.sweep_run.specs.Ways.{ComesBefore, IsWay}
use Rattle.sweep_run.specs.declared.stretches.SweepQuantity.TheVariants.{At, Breakpoint}
use Rattle.sweep_run.specs.declared.stretches.SweepStop.{SweepStop}
use Rattle.sweep_run.specs.declared.stretches.SweepStop.TheVariants.{Unfit, Spent, OutOfMemory}
use Rattle.sweep_run.specs.declared.ways.Way.{Way}
use Rattle.sweep_param.specs.declared.sweeps.Range.{Range}
use Rattle.sweep_param.specs.Joining.{IsRangeOf, IsSlidesStop}
use Rattle.sweep_param.specs.Sweeps.{HasLowestWidth, IsStarted, IsStartStop, IsSweepStop}

-- the stop of a slide with these constants
abbrev IsStopTo : Problem → List Mark → ℕ → SweepStop → ℕ → Fraction → Fraction → Fraction → Type 0
IsStopTo p kept budget (Unfit width path (At (Plain what))) row present near end = IsSlideUnfit p row kept present near end end budget width path what
IsStopTo p kept budget (Unfit width path (At (Terms m j))) row present near end = ⊥
IsStopTo p kept budget (Unfit width path (At (Rows level j))) row present near end = ⊥
IsStopTo p kept budget (Unfit width path (At (Shifts what j))) row present near end = ⊥
IsStopTo p kept budget (Unfit width path (Breakpoint m)) row present near end = (width ≡ end) × IsSlideFar p row kept present end budget path m
IsStopTo p kept budget (Spent width path) row present near end = (width ≡ end) × IsSlideSpent p row kept end budget path
IsStopTo p kept budget OutOfMemory row present near end = Unit {0}

of-way : (p : Problem) (kept : List Mark) (way : Way) (budget : ℕ) (stop : SweepStop) → IsSlideStop p kept way budget stop → IsStopTo p kept budget stop way.row way.first.width way.near.width way.end
of-way p kept way budget (Unfit width path (At (Plain what))) h = h
of-way p kept way budget (Unfit width path (At (Terms m j))) h = h
of-way p kept way budget (Unfit width path (At (Rows level j))) h = h
of-way p kept way budget (Unfit width path (At (Shifts what j))) h = h
of-way p kept way budget (Unfit width path (Breakpoint m)) h = h
of-way p kept way budget (Spent width path) h = h
of-way p kept way budget OutOfMemory h = h

stop-to : (p : Problem) (kept : List Mark) (budget : ℕ) (stop : SweepStop) (row : ℕ) (present near end : Fraction) (way : Way) → IsWay row present near end way → IsSlideStop p kept way budget stop → IsStopTo p kept budget stop row present near end
stop-to p kept budget stop row present near end way is h =
    subst (IsStopTo p kept budget stop row present near) is.end_is
    (subst (λ (f : Fraction). IsStopTo p kept budget stop row present f way.end) is.near_is
    (subst (λ (f : Fraction). IsStopTo p kept budget stop row f way.near.width way.end) is.first_is
    (subst (λ (n : ℕ). IsStopTo p kept budget stop n way.first.width way.near.width way.end) is.row_is (of-way p kept way budget stop h))))

module _ (p : Problem) (r : Range) (range : IsRangeOf p r) (kept : List Mark) (started : IsStarted p r.budget kept) (near end : Fraction) (is_end : IsSlideEnd r.present r.from r.to end)
    (told : (at : List Mark) (w : Fraction) → IsToldAt p r.row r.present near end end at w → IsToldAt p r.row r.present r.from r.to end at w) where
  as-sweep : (stop : SweepStop) → HasLowestWidth stop → IsStopTo p kept r.budget stop r.row r.present near end → IsSweepStop p r.row r.from r.to r.budget stop
  as-sweep (Unfit width path (At (Plain what))) low h =
      inr (low, (kept, started, (r.present, end, range.held, is_end, record { leads = h.leads; told = told (last_marks path.corner path.swaps) width h.told; unfit = h.unfit })))
  as-sweep (Unfit width path (At (Terms m j))) low h = absurd h
  as-sweep (Unfit width path (At (Rows level j))) low h = absurd h
  as-sweep (Unfit width path (At (Shifts what j))) low h = absurd h
  as-sweep (Unfit width path (Breakpoint m)) low h = (kept, started, (r.present, end, range.held, is_end, h))
  as-sweep (Spent width path) low h = inr (kept, started, (r.present, end, range.held, is_end, h))
  as-sweep OutOfMemory low h = tt

told-turned : (p : Problem) (row : ℕ) (present from to : Fraction) (at : List Mark) (w : Fraction) → IsToldAt p row present to from from at w → IsToldAt p row present from to from at w
told-turned p row present from to at w (inl e) = inl e
told-turned p row present from to at w (inr (inl e)) = inr (inr (inl e))
told-turned p row present from to at w (inr (inr (inl e))) = inr (inl e)
told-turned p row present from to at w (inr (inr (inr e))) = inr (inr (inr e))

-- a stop of a slide from the corner that the start found
pub slides_stop : (p : Problem) (r : Range) (kept : List Mark) (stop : SweepStop) → HasLowestWidth stop → IsRangeOf p r → IsStarted p r.budget kept → IsSlidesStop p kept r stop → IsSweepStop p r.row r.from r.to r.budget stop
slides_stop p r kept stop low range started (inl e) = subst (IsSweepStop p r.row r.from r.to r.budget) (sym e) tt
slides_stop p r kept stop low range started (inr (inl (way, (up, is), h))) =
    as-sweep p r range kept started r.from r.to (inl (refl, subst (λ (b : Bool). ComesBefore b r.present r.to) up is.forward)) (λ at w t. t) stop low
    (stop-to p kept r.budget stop r.row r.present r.from r.to way is h)
slides_stop p r kept stop low range started (inr (inr (way, (down, is), h))) =
    as-sweep p r range kept started r.to r.from (inr (refl, subst (λ (b : Bool). ComesBefore b r.present r.from) down is.forward)) (told-turned p r.row r.present r.from r.to) stop low
    (stop-to p kept r.budget stop r.row r.present r.to r.from way is h)

-- a stop of the start
pub starts_stop : (p : Problem) (row : ℕ) (present from to : Fraction) (budget : ℕ) (stop : SweepStop) → HasConstant p row present → IsStartStop p present budget stop → IsSweepStop p row from to budget stop
starts_stop p row present from to budget (Unfit width path (At q)) held h = inl (subst (HasConstant p row) (sym h.0) held, h.1)
starts_stop p row present from to budget (Unfit width path (Breakpoint m)) held h = absurd h
starts_stop p row present from to budget (Spent width path) held h = inl (subst (HasConstant p row) (sym h.0) held, h.1)
starts_stop p row present from to budget OutOfMemory held h = tt
