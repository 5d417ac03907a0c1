-- The marks that are negative at a slide's end are those of the row's list: no value was negative at the place
-- reached, so each of them moves with the row's constant.
use Rattle.std.proofs.Common.{◌≡◌, ◌≢◌, ◌∙◌, inl, inr, ℕ, ◌<◌, Bool, true, false, List, [], ℤ, pos, ◌*ℤ◌, ◌<ℤ◌, refl, sym, ap, subst, arith, Any, Contains}
use Rattle.std.proofs.lemmas.Bool.{cases_Bool, cases_eq}
use borrow.Author.Differences.{ints}
use lib.IntN.{*ℤ_comm}
use Rattle.frac_core.specs.Fraction.{Fraction, IsFitting}
use Rattle.frac_core.proofs.Integers.{mul-zero_ℤ, zero_from_mul}
use Rattle.frac_core.proofs.Numbers.{as-natural}
use Rattle.problem_core.specs.declared.parts.Mark.{Mark}
use Rattle.problem_core.specs.declared.parts.RowName.{RowName}
use Rattle.problem_core.specs.declared.parts.RowName.TheVariants.{Held}
use Rattle.problem_core.specs.declared.parts.Side.TheVariants.{Over}
use Rattle.problem_core.specs.declared.stops.What.TheVariants.{Mark as MarkOf}
use Rattle.problem_core.specs.Layout.{Problem, coefficient}
use Rattle.problem_core.specs.Corners.{IsIn, one_column, place, place_of}
use Rattle.problem_core.proofs.Corners.CornerFacts.{is_place}
use Rattle.corner_laws.proofs.Counting.{IsIn-from_is_place}
use Rattle.corner_laws.proofs.MarkWritings.Directions.{ray_number}
use Rattle.corner_laws.proofs.MarkWritings.LowestForms.{column_has_writing}
use Rattle.corner_laws.proofs.ZeroColumns.{not-in}
use Rattle.corner_view.proofs.Facts.{same_mark}
use Rattle.corner_view.specs.Lows.{HasValueUp, IsListedIfLow, ListsLow}
use Rattle.corner_view.specs.Seen.{HasValueAt, IsCoefficientOf, IsKeptCorner, IsScaleOf, MovesWith}
use Rattle.corner_ends.proofs.Marks.{in_mark}
use Rattle.dual_run.specs.Leaving.{AreLowLines, IsLow}
use Rattle.dual_run.proofs.Lows.{no_low_value}
use Rattle.sweep_run.specs.declared.rates.Rate.{Rate}
use Rattle.sweep_run.specs.declared.ways.Way.{Way}
use Rattle.sweep_run.specs.Ways.{HasReached, IsBackRate, backwards, own}
use Rattle.sweep_run.proofs.BackRates.{coefficient_fits, over_is_mark, rate_none, rate_outside}
use Rattle.sweep_run.proofs.Moves.{HasOwn}
use Rattle.sweep_run.proofs.Soonest.{rate-above}

back-none : (up : Bool) (k : ℤ) → k ≡ pos 0 → pos 0 <ℤ backwards up k → ⊥
back-none true k e up = omega (arith, ints, e, up)
back-none false k e up = omega (arith, ints, e, up)

pub back_fits : (up : Bool) (k : ℤ) → IsFitting k → IsFitting (backwards up k)
back_fits true k fits = omega (arith, ints, fits)
back_fits false k fits = fits

some-moves : (s : ℕ) (a k r : ℤ) → k ≢ pos 0 → pos 0 <ℤ r → pos s *ℤ a ≡ k *ℤ r → a ≢ pos 0
some-moves s a k r some up e none =
    let n = as-natural r up in
    some (zero_from_mul n.0 k n.1 (*ℤ_comm (pos n.0) k ∙ ap (λ (z : ℤ). k *ℤ z) (sym n.2) ∙ sym e ∙ ap (λ (z : ℤ). pos s *ℤ z) none ∙ mul-zero_ℤ (pos s)))

module _ (p : Problem) (at : List Mark) (way : Way) (kept : IsKeptCorner p at) (held : Any (λ r. r.id ≡ way.row) p.rows) (own_constant : HasOwn p way.row way.end) (he : 0 < way.end.den) (before : HasReached p way at) where
  value_of : (c : ℕ) → (f : Fraction) × (0 < f.den) × HasValueAt p at c f
  value_of c =
      let x = kept.corner.point in
      let n = as-natural (x.num one_column) x.positive in
      (record { num = x.num c; den = n.0 }, n.1, (x, kept.corner.stands, ap (λ (z : ℤ). x.num c *ℤ z) (sym n.2)))

  -- a mark that is negative at the end grows towards the beginning
  grows-back : (m : Mark) (rate : Rate) → IsLow p at m → IsBackRate p at way (MarkOf m) rate → pos 0 <ℤ rate.n
  grows-back m rate low is =
      let f = value_of (place m) in
      let d = as-natural rate.d is.above in
      rate-above p at way kept held own_constant he m f.0 f.1 f.2 low rate d.0 d.1 d.2 is before.0 before.1

  own-low : (m : Mark) → IsIn (place_of (Held way.row) Over) at → IsLow p at m → m.row ≡ Held way.row
  own-low m inside low = elim (cases_eq (place m) (place_of (Held way.row) Over)) [
    | inl e ↦ ap (λ (k : Mark). k.row) (same_mark m (own way.row Over) e)
    | inr n ↦
        let rate : Rate = record { n = pos 0; d = pos 1 } in
        let up : pos 0 <ℤ pos 0 = grows-back m rate low (rate_none p at way kept held own_constant he (MarkOf m) rate (place m, (low.inside, refl)) (λ e. n (ap place e)) inside refl refl) in
        absurd (omega (arith, ints, up))
  ]

  moves-along : (m : Mark) → (IsIn (place_of (Held way.row) Over) at → ⊥) → IsLow p at m → MovesWith p at (own way.row Over) (MarkOf m)
  moves-along m out low =
      let t = column_has_writing p at (place m) kept.corner kept.rays (inl (in_mark p at m kept low.inside)) in
      let k : ℤ = coefficient (place_of (Held way.row) Over) t.1 in
      let f : Fraction = record { num = t.2; den = t.3 } in
      let coefficient-is : IsCoefficientOf p at (MarkOf m) (own way.row Over) k = (place m, (low.inside, refl), (t.0, t.1, f, t.4, refl)) in
      let scale-is : IsScaleOf p at (MarkOf m) (pos t.0) = (place m, (low.inside, refl), (t.0, t.1, f, t.4, refl)) in
      let rate : Rate = record { n = backwards way.up k; d = pos t.0 } in
      let is : IsBackRate p at way (MarkOf m) rate =
      rate_outside p at way kept held own_constant he (MarkOf m) k rate (λ e. out (subst (λ (n : Mark). IsIn (place n) at) e low.inside)) coefficient-is scale-is refl
      (back_fits way.up k (coefficient_fits p at (MarkOf m) (own way.row Over) k kept coefficient-is)) in
      let up : pos 0 <ℤ backwards way.up k = grows-back m rate low is in
      let r = kept.rays (place_of (Held way.row) Over) (over_is_mark p way.row held) out in
      let moved : pos t.0 *ℤ r.0 (place m) ≡ k *ℤ r.0 (place_of (Held way.row) Over) =
      ray_number p at (place m) t.0 t.1 t.2 t.3 kept.corner.point (place_of (Held way.row) Over) r.0 kept.corner.stands.0 t.4 r.1 in
      (place m, (low.inside, refl), (r.0, r.1, some-moves t.0 (r.0 (place m)) k (r.0 (place_of (Held way.row) Over)) (λ e. back-none way.up k e up) r.1.here moved))

  listed : (m : Mark) (names : List RowName) → IsLow p at m → IsListedIfLow p at names m → Contains names m.row
  listed m names low h = elim h [
    | inl there ↦ there
    | inr up ↦ absurd (not-up up)
  ]
    where
      not-up : HasValueUp p at m → ⊥
      not-up (f, den, has, up) = no_low_value p at m f kept (in_mark p at m kept low.inside) den has up low.value

  pub lows_listed : (names : List RowName) → ListsLow p at (Held way.row) [] names → AreLowLines p at names
  lows_listed names lists = record {
    named = lists.named (λ k d within. absurd (omega (arith, within)));
    low = λ m low. listed m names low (elim (cases_Bool (is_place at (place_of (Held way.row) Over))) [
      | inl i ↦ lists.own m (own-low m (IsIn-from_is_place (place_of (Held way.row) Over) at i) low) low.inside
      | inr o ↦
          let out : IsIn (place_of (Held way.row) Over) at → ⊥ = not-in at (place_of (Held way.row) Over) o in
          lists.moved Over (over_is_mark p way.row held, out) m (moves-along m out low)
    ]);
  }
