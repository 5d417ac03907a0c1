-- Why a slide stops: what a run's stop, or a value that doesn't fit, says of it.
use Rattle.std.proofs.Common.{◌≡◌, ◌≢◌, ◌∙◌, ◌⊎◌, inl, inr, ℕ, ◌+◌, ◌<◌, ◌≤◌, Bool, true, false, cond, nat_eq, List, [], ◌∷◌, ◌++◌, length, filter, refl, sym, ap, subst, arith, ℤ, pos, ◌-ℤ◌, nat_abs, eq-eqb}
use Rattle.std.specs.List.{AllByRecursion as Each}
use Rattle.std.proofs.lemmas.List.Elements.{recursion_from_All}
use borrow.Author.Differences.{ints}
use Rattle.frac_core.specs.Fraction.{Fraction}
use Rattle.frac_core.specs.declared.memory.Stop.{Stop}
use Rattle.frac_core.specs.declared.memory.Stop.TheVariants.{Refused, OutOfMemory as NoMemory}
use Rattle.frac_core.proofs.Lists.{each-right}
use Rattle.problem_core.specs.declared.parts.Mark.{Mark}
use Rattle.problem_core.specs.declared.stops.Quantity.{Quantity}
use Rattle.problem_core.specs.declared.stops.Quantity.TheVariants.{Plain, Terms, Rows, Shifts}
use Rattle.problem_core.specs.declared.stops.What.TheVariants.{Attr}
use Rattle.problem_core.specs.Layout.{Problem, Row}
use Rattle.problem_core.specs.Corners.{SameMarks, Swap}
use Rattle.problem_core.specs.Changes.Paths.{IsEndOf, IsPath, last_marks}
use Rattle.problem_core.specs.Unfit.{IsNewAt, IsUnfitWhat, changes, same_constant}
use Rattle.problem_core.proofs.Forms.{each-filter}
use Rattle.problem_core.proofs.Marks.{same-back}
use Rattle.cert_core.specs.Paths.{Path}
use Rattle.cert_core.specs.Stops.{IsSpentPath, IsStopOf, IsUnfitPath}
use Rattle.cert_core.specs.declared.stops.RunStop.{RunStop}
use Rattle.cert_core.specs.declared.stops.RunStop.TheVariants as run
use Rattle.corner_view.specs.Seen.{CornerView}
use Rattle.corner_ends.specs.Runs.{FromHere}
use Rattle.corner_ends.specs.Trails.{HasRun, IsNoConflict, IsTrailOf, Trail}
use Rattle.corner_ends.proofs.MarkOrders.{unfit_same}
use Rattle.corner_ends.proofs.Trails.{run_lawful, spent_stop}
use Rattle.sweep_laws.specs.Fractions.{IsLess, IsNoMore}
use Rattle.sweep_laws.specs.Laws.{LeavesAt}
use Rattle.sweep_laws.specs.Stops.{IsSlidePath, IsSlideSpent, IsSlideUnfit, IsToldAt, Turns}
use Rattle.sweep_laws.proofs.EachCorner.{corner_at_each}
use Rattle.sweep_laws.proofs.Farther.{path_farther}
use Rattle.sweep_run.specs.declared.slides.Slid.{Slid}
use Rattle.sweep_run.specs.declared.stretches.SweepQuantity.{SweepQuantity}
use Rattle.sweep_run.specs.declared.stretches.SweepQuantity.TheVariants.{At}
use Rattle.sweep_run.specs.declared.stretches.SweepStop.{SweepStop}
use Rattle.sweep_run.specs.declared.stretches.SweepStop.TheVariants.{Unfit, Spent, OutOfMemory}
use Rattle.sweep_run.specs.declared.ways.Place.{Place}
use Rattle.sweep_run.specs.declared.ways.Way.{Way}
use Rattle.sweep_run.specs.Slides.{IsReadStop, IsSlideStop, IsSlidingFrom, IsSpentWith, IsUnfitWith, IsValueStop, run_stop}
use Rattle.sweep_run.specs.Ways.{ComesBefore, IsAtEnd, IsNoLater, IsPlace, IsUnfitStopThere, there}
use Rattle.sweep_run.proofs.EndFacts.{end_is_kept, there_is_here}
use Rattle.sweep_run.proofs.FarStops.{between-on, turns-alike}

-- ---- what no exchange stops for

true-false : true ≡ false → ⊥
true-false e = cc

-- a problem's own rows aren't new
none-new : (rows : List Row) (j : ℕ) (f : Row → Bool) → IsNewAt rows j (filter f rows) → ⊥
none-new rows j f (before, r, after, e, count, new) =
    let each : Each (λ (s : Row). s.id ≢ r.id) (before ++ (r ∷ after)) = subst (Each (λ (s : Row). s.id ≢ r.id)) e (each-filter (λ (s : Row). s.id ≢ r.id) f rows (recursion_from_All (λ (s : Row). s.id ≢ r.id) rows new)) in
    (each-right (λ (s : Row). s.id ≢ r.id) before (r ∷ after) each).0 refl

own-constant : (f : Fraction) → same_constant f f ≡ true
own-constant f =
    let den : nat_eq f.den f.den ≡ true = eq-eqb f.den f.den refl in
    let none : f.num -ℤ f.num ≡ pos 0 = omega (arith, ints) in
    ap (λ (b : Bool). cond b (nat_eq (nat_abs (f.num -ℤ f.num)) 0) false) den ∙ ap (λ (z : ℤ). nat_eq (nat_abs z) 0) none

no-changes : (rows : List Row) → changes rows rows ≡ 0
no-changes [] = refl
no-changes (r ∷ rows) = ap (λ (b : Bool). cond b (changes rows rows) (1 + changes rows rows)) (own-constant r.constant) ∙ no-changes rows

-- ---- at the slide's end

module _ (c : CornerView) (way : Way) (at_end : IsAtEnd way c) where
  abbrev at_last : there c.problem way way.end ≡ c.problem
  at_last = there_is_here way c at_end

  slide-path : (first : List Mark) (budget : ℕ) (path : Path) → path.dual ≡ true → path.corner ≡ first → IsPath true c.problem path.corner path.swaps → length path.swaps ≤ budget → IsSlidePath c.problem way.row first way.end budget path
  slide-path first budget path kind begins lawful few = record {
    kind = kind;
    begins = begins;
    lawful = subst (λ (k : Problem). IsPath true k path.corner path.swaps) (sym at_last) lawful;
    few = few;
  }

  unfit-run : (first : List Mark) (budget : ℕ) (path : Path) (quantity : Quantity) → path.dual ≡ true → length path.swaps ≤ budget → IsUnfitPath true c.problem c.problem.rows (FromHere first) path quantity → IsSlideStop c.problem first way budget (Unfit way.end path (At quantity))
  unfit-run first budget path (Plain what) kind few (begins, lawful, unfit) = record {
    leads = slide-path first budget path kind begins.1 lawful few;
    told = inl refl;
    unfit = subst (λ (k : Problem). IsUnfitWhat k (last_marks path.corner path.swaps) what) (sym at_last) unfit;
  }
  unfit-run first budget path (Terms m j) kind few h = absurd (true-false h.0)
  unfit-run first budget path (Rows level j) kind few (none, begins, lawful, (unfit, (k, level-is, new))) = absurd (none-new c.problem.rows j _ new)
  unfit-run first budget path (Shifts what j) kind few (same-kind, none, begins, lawful, (same, least, most, unfit)) = let no = no-changes c.problem.rows in absurd (omega (arith, least, most, no))

  spent-run : (first : List Mark) (budget : ℕ) (path : Path) → path.dual ≡ true → IsSpentPath true c.problem (FromHere first) budget path → IsSlideSpent c.problem way.row first way.end budget path
  spent-run first budget path kind h = (kind, subst (λ (k : Problem). IsSpentPath true k (λ rest at. (rest ≡ []) × (at ≡ first)) budget path) (sym at_last) h)

  -- what a run stops for is what the slide stops for
  pub slide_stop : (first : List Mark) (budget : ℕ) (stop : RunStop) → IsNoConflict stop → IsStopOf true c.problem c.problem.rows (FromHere first) budget stop → IsSlideStop c.problem first way budget (run_stop way.end stop)
  slide_stop first budget (run.Conflict by) none h = absurd none
  slide_stop first budget (run.Unfit at) none (kind, few, h) = unfit-run first budget at.path at.quantity kind few h
  slide_stop first budget (run.Spent path) none (kind, h) = (refl, spent-run first budget path kind h)
  slide_stop first budget run.OutOfMemory none h = tt

  -- the exchanges are used up
  pub used_up : (first : List Mark) (trail : Trail) (budget : ℕ) (stop : SweepStop) → IsTrailOf true c.problem first trail c.marks → (IsEndOf true c.problem c.marks → ⊥) → length trail.swaps ≡ budget → IsSpentWith c trail way.end stop → IsSlideStop c.problem first way budget stop
  used_up first trail budget (Unfit width path what) is no_end full h = absurd h
  used_up first trail budget (Spent width path) is no_end full (width_is, by) =
      let told : IsStopOf true c.problem c.problem.rows (FromHere first) (length trail.swaps) (run.Spent path) = spent_stop true c.problem first c.marks trail.swaps path is.swapped no_end (by true first is) in
      (width_is, spent-run first budget path told.0 (subst (λ (n : ℕ). IsSpentPath true c.problem (FromHere first) n path) full told.1))
  used_up first trail budget OutOfMemory is no_end full h = tt

  -- ---- at a place before the end

  -- w is beyond a, and no later than the end
  beyond-on : (up : Bool) (a w end : Fraction) → ComesBefore up a w → IsNoLater up w end → (IsLess a w × IsNoMore w end) ⊎ (IsNoMore end w × IsLess w a)
  beyond-on true a w end first last = inl (first, last)
  beyond-on false a w end first last = inr (last, first)

  pub path_there : (first : List Mark) (swaps : List Swap) (a w : Fraction) → 0 < a.den → 0 < w.den → HasRun true (there c.problem way way.end) first swaps c.marks → LeavesAt (there c.problem way a) first swaps → ComesBefore way.up a w → IsNoLater way.up w way.end → IsPath true (there c.problem way w) first swaps
  path_there first swaps a w ha hw run leaves less last =
      let he = (end_is_kept way c at_end).lowest.above in
      let lawful = run_lawful true (there c.problem way way.end) first c.marks swaps run in
      record {
        corner = corner_at_each c.problem way.row first way.end w at_end.whole he hw run.corner;
        apart = lawful.apart;
        lawful = path_farther c.problem way.row first swaps a w way.end at_end.whole ha hw he (beyond-on way.up a w way.end less last) run.corner lawful.lawful leaves;
      }

  -- where a quantity may be told
  abbrev pub MayTell : Place → Type 0
  MayTell place = (place.width ≡ way.end) ⊎ ((place.width ≡ way.near.width) ⊎ ((m : Mark) × Turns c.problem way.row c.marks m place.width))

  told-there : (place : Place) (other : List Mark) → SameMarks other c.marks → IsNoLater way.up way.first.width place.width → IsNoLater way.up place.width way.end → MayTell place → IsToldAt c.problem way.row way.first.width way.near.width way.end way.end other place.width
  told-there place other same first last (inl e) = inl e
  told-there place other same first last (inr (inl e)) = inr (inl e)
  told-there place other same first last (inr (inr turns)) =
      inr (inr (inr (between-on way.up way.first.width place.width way.end first last, (turns.0, turns-alike c.problem way.row c.marks other turns.0 place.width same turns.1))))

  module _ (first : List Mark) (trail : Trail) (slid : Slid) (budget : ℕ) (sliding : IsSlidingFrom first c way trail slid) (few : length trail.swaps ≤ budget) (place : Place) (is : IsPlace way.up way.end place) (first_place : IsNoLater way.up way.first.width place.width) (less : ComesBefore way.up slid.at.width place.width) (may : MayTell place) where
    trail-here : IsTrailOf true c.problem first trail c.marks
    trail-here = subst (λ (k : Problem). IsTrailOf true k first trail c.marks) at_last sliding.on_way.trail_is

    unfit-there : (attr : ℕ) → IsUnfitWhat (there c.problem way place.width) c.marks (Attr attr) → IsSlideUnfit c.problem way.row first way.first.width way.near.width way.end way.end budget place.width (record { dual = true; corner = first; swaps = trail.swaps }) (Attr attr)
    unfit-there attr unfit =
        let run = sliding.on_way.trail_is.swapped in
        record {
          leads = record {
            kind = refl;
            begins = refl;
            lawful = path_there first trail.swaps slid.at.width place.width sliding.on_way.behind.reached.is.width.lowest.above is.width.lowest.above run sliding.on_way.leaves less is.no_later;
            few = few;
          };
          told = told-there place (last_marks first trail.swaps) run.here first_place is.no_later may;
          unfit = unfit_same (there c.problem way place.width) c.marks (last_marks first trail.swaps) (Refused (Plain (Attr attr))) (same-back (last_marks first trail.swaps) c.marks run.here) unfit;
        }

    unfit-with : (attr : ℕ) (stop : SweepStop) → IsUnfitWhat (there c.problem way place.width) c.marks (Attr attr) → IsUnfitWith c trail place.width (At (Plain (Attr attr))) stop → IsSlideStop c.problem first way budget stop
    unfit-with attr (Unfit width path what) unfit (width_is, what_is, by) =
        subst (λ (q : SweepQuantity). IsSlideStop c.problem first way budget (Unfit width path q)) (sym what_is)
        (subst (λ (w : Fraction). IsSlideUnfit c.problem way.row first way.first.width way.near.width way.end way.end budget w path (Attr attr)) (sym width_is)
        (subst (λ (route : Path). IsSlideUnfit c.problem way.row first way.first.width way.near.width way.end way.end budget place.width route (Attr attr)) (sym (by true first trail-here)) (unfit-there attr unfit)))
    unfit-with attr (Spent width path) unfit h = absurd h
    unfit-with attr OutOfMemory unfit h = tt

    by-cause : (cause : Stop ℕ) (stop : SweepStop) → IsUnfitStopThere c way place cause → IsValueStop c trail place.width cause stop → IsSlideStop c.problem first way budget stop
    by-cause (Refused attr) stop unfit h = unfit-with attr stop unfit h
    by-cause NoMemory stop unfit h = subst (IsSlideStop c.problem first way budget) (sym h) tt

    pub read_stop : (stop : SweepStop) → IsReadStop c way trail place stop → IsSlideStop c.problem first way budget stop
    read_stop stop (cause, unfit, h) = by-cause cause stop unfit h
