-- A corner's values: that there are some, and what they say.
use Rattle.std.proofs.Common.{◌≡◌, ◌∙◌, ℕ, zero, suc, ◌<◌, Bool, cond, List, [], ◌∷◌, map, ℤ, pos, ◌+ℤ◌, ◌*ℤ◌, ◌<ℤ◌, nat_abs, unsigned_abs, refl, sym, ap, subst, arith, inl, inr, All, ne_eqb}
use Rattle.std.specs.Int.{◌∣◌}
use Rattle.std.specs.List.{AllByRecursion as Each}
use Rattle.std.proofs.Math.Nat.{one-dvd}
use Rattle.std.proofs.lemmas.Bool.{cases_lt}
use Rattle.std.proofs.lemmas.Nat.Gcd.{dvd-zero, dvd_refl}
use Rattle.std.proofs.lemmas.List.Elements.{All-from_recursion, recursion_from_All}
use lib.IntN.{*ℤ_comm}
use borrow.Author.Differences.{ints}
use Rattle.frac_core.specs.Fraction.{Fits, Fraction, IsKept, IsLowest}
use Rattle.frac_core.specs.declared.frac.TheConstants.{PART_BOUND}
use Rattle.frac_core.proofs.Integers.{mul-zero_ℤ, zero_from_mul}
use Rattle.problem_core.specs.declared.parts.Mark.{Mark}
use Rattle.problem_core.specs.declared.parts.Stay.{Stay}
use Rattle.problem_core.specs.declared.parts.Term.{Term}
use Rattle.problem_core.specs.declared.stops.What.TheVariants.{Attr}
use Rattle.problem_core.specs.Layout.{Gives, HasStay, Problem, coefficient}
use Rattle.problem_core.specs.Kept.{IsWhole}
use Rattle.problem_core.specs.Unfit.{HasNoWriting}
use Rattle.problem_core.specs.Corners.{IsCorner, IsWritingOf, Point, StandsAt, assignment_at, attr_column, one_column}
use Rattle.problem_core.proofs.Forms.{each-both, each-impl}
use Rattle.corner_laws.proofs.PathEnds.Ends.{end_is_best}
use Rattle.corner_laws.proofs.MarkWritings.LowestForms.{lowest_exists}
use Rattle.corner_laws.proofs.WrittenValues.{value_there}
use Rattle.corner_laws.specs.Equations.{AreLowest}
use Rattle.corner_view.specs.Seen.{CornerView, HasValueAt, IsKeptCorner}
use Rattle.corner_ends.specs.Runs.{IsBestEnd}
use Rattle.corner_view.specs.Changes.{scene_of}
use Rattle.layout_solver.specs.Layouts.{AreBest}
use Rattle.layout_solver.specs.Engines.{AreItsValues}
use Rattle.layout_solver.specs.ValuesUnique.{IsFixed, fixed_attrs, one_number}
use Rattle.corner_laws.proofs.PathEnds.BeginsUnique.{agree-both}
use Rattle.corner_lines.proofs.ProblemChanges.MovedStays.{own-stays}
use Rattle.problem_core.proofs.Corners.Ends.{abs_same}
use Rattle.frac_core.proofs.Numbers.{as-natural as above-zero}

-- ---- a fraction in lowest terms

abbrev one_term : ℤ → List Term
one_term n = record { attr = 0; by = n } ∷ []

here-alone : (n : ℤ) → coefficient 0 (one_term n) ≡ n
here-alone n = omega (arith, ints)

lowest-parts : (n : ℤ) (d low : ℕ) (part : ℕ → ℤ) → 0 < d → AreLowest d (λ v. coefficient v (one_term n)) low part → (k : ℕ) → k ∣ unsigned_abs (part 0) → (v : ℕ) → k ∣ unsigned_abs (part v)
lowest-parts n d low part above h k first zero = first
lowest-parts n d low part above h k first (suc m) =
    let other : coefficient (suc m) (one_term n) ≡ pos 0 = ap (λ (b : Bool). cond b n (pos 0) +ℤ pos 0) (ne_eqb 0 (suc m) (λ e. absurd (omega (arith, e)))) in
    let none : part (suc m) ≡ pos 0 = zero_from_mul d (part (suc m)) above (h.same (suc m) ∙ ap (λ (z : ℤ). pos low *ℤ z) other ∙ mul-zero_ℤ (pos low)) in
    subst (λ (z : ℤ). k ∣ unsigned_abs z) (sym none) (dvd-zero k)

-- a number over a positive one, as a fraction in lowest terms
fraction-of : (n : ℤ) (d low : ℕ) (part : ℕ → ℤ) → 0 < d → AreLowest d (λ v. coefficient v (one_term n)) low part → (f : Fraction) × IsLowest f × (n *ℤ pos f.den ≡ f.num *ℤ pos d)
fraction-of n d low part above h = (
  record { num = part 0; den = low },
  record {
    above = h.low_positive;
    coprime = (one-dvd (unsigned_abs (part 0)), one-dvd low, λ k a b. subst (λ (m : ℕ). m ∣ 1) (sym (h.lowest k b (lowest-parts n d low part above h k a))) (dvd_refl 1));
  },
  *ℤ_comm n (pos low) ∙ ap (λ (z : ℤ). pos low *ℤ z) (sym (here-alone n)) ∙ sym (h.same 0) ∙ *ℤ_comm (pos d) (part 0),
)

pub fraction_exists : (n : ℤ) (d : ℕ) → 0 < d → (f : Fraction) × IsLowest f × (n *ℤ pos f.den ≡ f.num *ℤ pos d)
fraction_exists n d above = let l = lowest_exists d (one_term n) above in fraction-of n d l.0 (λ v. coefficient v l.1) above l.2

-- ---- the values of a corner

-- the column's value at a point that stands there
value-at : (p : Problem) (at : List Mark) (x : Point) (c : ℕ) → StandsAt p at x → (f : Fraction) × IsLowest f × HasValueAt p at c f
value-at p at x c stands =
    let one = above-zero (x.num one_column) x.positive in
    let f = fraction_exists (x.num c) one.0 one.1 in
    (f.0, f.1, (x, stands, f.2 ∙ ap (λ (z : ℤ). f.0.num *ℤ z) (sym one.2)))

record AreOf (p : Problem) (at : List Mark) (stays : List Stay) (values : List (ℕ × Fraction)) : Type 0 where
  attributes : map (λ v. v.0) values ≡ map (λ s. s.attr) stays
  lowest : Each (λ v. IsLowest v.1) values
  stand : Each (λ v. HasValueAt p at (attr_column v.0) v.1) values

values-of : (p : Problem) (at : List Mark) (x : Point) → StandsAt p at x → (stays : List Stay) → (values : List (ℕ × Fraction)) × AreOf p at stays values
values-of p at x stands [] = ([], record { attributes = refl; lowest = tt; stand = tt })
values-of p at x stands (s ∷ stays) =
    let f = value-at p at x (attr_column s.attr) stands in
    let rest = values-of p at x stands stays in (
      (s.attr, f.0) ∷ rest.0,
      record {
        attributes = ap (λ (ns : List ℕ). s.attr ∷ ns) rest.1.attributes;
        lowest = (f.1, rest.1.lowest);
        stand = (f.2, rest.1.stand);
      },
    )

pub values_exist : (c : CornerView) → IsCorner c.problem c.marks → (values : List (ℕ × Fraction)) × AreItsValues (scene_of c) values
values_exist c corner =
    let v = values-of c.problem c.marks corner.point corner.stands c.problem.stays in (
      v.0,
      record {
        corner = corner;
        attributes = v.1.attributes;
        lowest = All-from_recursion (λ w. IsLowest w.1) v.0 v.1.lowest;
        stand = All-from_recursion (λ w. HasValueAt c.problem c.marks (attr_column w.0) w.1) v.0 v.1.stand;
      },
    )

-- ---- what they say at each point that stands there

number-here : (f : Fraction) (p p1 x x1 y y1 : ℤ) → pos 0 <ℤ p1 → pos 0 <ℤ y1 → p *ℤ x1 ≡ x *ℤ p1 → p *ℤ y1 ≡ y *ℤ p1 → y *ℤ pos f.den ≡ f.num *ℤ y1 → x *ℤ pos f.den ≡ f.num *ℤ x1
number-here f p p1 x x1 y y1 above over hx hy given =
    sym (agree-both f.num x y (pos f.den) x1 y1 over given (sym (agree-both x y p x1 y1 p1 above hx hy)))

fixed-at : (p : Problem) (at : List Mark) (x : Point) (stays : List Stay) (values : List (ℕ × Fraction)) → map (λ v. v.0) values ≡ map (λ s. s.attr) stays → Each (λ s. IsFixed p at x (attr_column s.attr)) stays → Each (λ v. IsFixed p at x (attr_column v.0)) values
fixed-at p at x [] [] e h = tt
fixed-at p at x [] (v ∷ values) e h = cc
fixed-at p at x (s ∷ stays) [] e h = tt
fixed-at p at x (s ∷ stays) (v ∷ values) e h =
    let head : v.0 ≡ s.attr = cc in
    let tail : map (λ v. v.0) values ≡ map (λ s. s.attr) stays = cc in
    (subst (λ (n : ℕ). IsFixed p at x (attr_column n)) (sym head) h.0, fixed-at p at x stays values tail h.1)

-- the corner fixes what stands in the column of each value
pub fixed_at : (p : Problem) (at : List Mark) (corner : IsCorner p at) (values : List (ℕ × Fraction)) → map (λ v. v.0) values ≡ map (λ s. s.attr) p.stays → Each (λ v. IsFixed p at corner.point (attr_column v.0)) values
fixed_at p at corner values e = fixed-at p at corner.point p.stays values e (fixed_attrs p at corner)

-- the number at the column of each value
abbrev pub AreNumbers : Point → List (ℕ × Fraction) → Type 0
AreNumbers x values = Each (λ v. x.num (attr_column v.0) *ℤ pos v.1.den ≡ v.1.num *ℤ x.num one_column) values

pub numbers_here : (c : CornerView) (values : List (ℕ × Fraction)) (x : Point) → AreItsValues (scene_of c) values → StandsAt c.problem c.marks x → AreNumbers x values
numbers_here c values x h stands =
    each-impl (λ v. IsFixed c.problem c.marks h.corner.point (attr_column v.0) × HasValueAt c.problem c.marks (attr_column v.0) v.1) _ values
    (λ v k. number-here v.1 (h.corner.point.num (attr_column v.0)) (h.corner.point.num one_column) (x.num (attr_column v.0)) (x.num one_column) (k.1.0.num (attr_column v.0)) (k.1.0.num one_column) h.corner.point.positive k.1.0.positive
    (k.0 x stands) (k.0 k.1.0 k.1.1) k.1.2)
    (each-both _ _ values (fixed-at c.problem c.marks h.corner.point c.problem.stays values h.attributes (fixed_attrs c.problem c.marks h.corner)) (recursion_from_All (λ v. HasValueAt c.problem c.marks (attr_column v.0) v.1) values h.stand))

pub given_here : (x : Point) (values : List (ℕ × Fraction)) → AreNumbers x values → Gives values (assignment_at x)
given_here x values h =
    All-from_recursion (λ v. x.num (attr_column v.0) *ℤ pos v.1.den ≡ v.1.num *ℤ pos (nat_abs (x.num one_column))) values
    (each-impl (λ v. x.num (attr_column v.0) *ℤ pos v.1.den ≡ v.1.num *ℤ x.num one_column) _ values (λ v e. e ∙ ap (λ (z : ℤ). v.1.num *ℤ z) (sym (abs_same (x.num one_column) x.positive))) h)

-- the values of an end are best
pub best_there : (c : CornerView) (values : List (ℕ × Fraction)) → AreItsValues (scene_of c) values → IsWhole c.problem → IsBestEnd c.problem c.marks → AreBest c.problem values
best_there c values h whole end =
    let best = end_is_best c.problem c.marks whole end.values end.columns end.required in record {
      attributes = h.attributes;
      lowest = h.lowest;
      best = (assignment_at best.0, best.2, given_here best.0 values (numbers_here c values best.0 h best.1));
    }

-- ---- they fit

-- a value in lowest terms is that of each writing
written-is : (p : Problem) (at : List Mark) (corner : IsCorner p at) (c : ℕ) (f value : Fraction) (scale : ℕ) (form : List Term) → IsFixed p at corner.point c → IsLowest f → IsLowest value → HasValueAt p at c f → IsWritingOf p at (λ x. x c) scale form value.num value.den → value ≡ f
written-is p at corner c f value scale form fixed low_f low has w =
    one_number p at corner.point c value f fixed low low_f
    (corner.point, corner.stands, *ℤ_comm (corner.point.num c) (pos value.den) ∙ value_there p at (λ x. x c) scale form value.num value.den corner.point w corner.stands) has

unfit-none : (p : Problem) (at : List Mark) (corner : IsCorner p at) (c : ℕ) (f : Fraction) → IsFixed p at corner.point c → IsLowest f → HasValueAt p at c f → (Fits f → ⊥) → HasNoWriting p at (λ x. x c)
unfit-none p at corner c f fixed low has none = λ scale form value w fit_scale fit_form kept. none (subst Fits (written-is p at corner c f value scale form fixed low kept.lowest has w) kept.fits)

fits-or-not : (f : Fraction) → ((Fits f → ⊥) → ⊥) → Fits f
fits-or-not f h =
    record {
      num_fits = elim (cases_lt (unsigned_abs f.num) PART_BOUND) [
        | inl lt ↦ lt
        | inr ge ↦ absurd (h (λ fits. absurd (omega (arith, ge, fits.num_fits))))
      ];
      den_fits = elim (cases_lt f.den PART_BOUND) [
        | inl lt ↦ lt
        | inr ge ↦ absurd (h (λ fits. absurd (omega (arith, ge, fits.den_fits))))
      ];
    }

of-attrs : (Q : ℕ → Type 0) (stays : List Stay) (values : List (ℕ × Fraction)) → map (λ v. v.0) values ≡ map (λ s. s.attr) stays → Each (λ (s : Stay). Q s.attr) stays → Each (λ (v : ℕ × Fraction). Q v.0) values
of-attrs Q [] [] e h = tt
of-attrs Q [] (v ∷ values) e h = cc
of-attrs Q (s ∷ stays) [] e h = tt
of-attrs Q (s ∷ stays) (v ∷ values) e h =
    let head : v.0 ≡ s.attr = cc in
    let tail : map (λ v. v.0) values ≡ map (λ s. s.attr) stays = cc in
    (subst Q (sym head) h.0, of-attrs Q stays values tail h.1)

-- at a kept corner each value fits
pub values_fit : (c : CornerView) (values : List (ℕ × Fraction)) → AreItsValues (scene_of c) values → IsKeptCorner c.problem c.marks → All (λ v. IsKept v.1) values
values_fit c values h kept =
    All-from_recursion (λ v. IsKept v.1) values
    (each-impl (λ v. (HasStay c.problem.stays v.0 × IsFixed c.problem c.marks kept.corner.point (attr_column v.0)) × (IsLowest v.1 × HasValueAt c.problem c.marks (attr_column v.0) v.1)) (λ v. IsKept v.1) values
    (λ v k. record {
      lowest = k.1.0;
      fits = fits-or-not v.1 (λ none. kept.fits (Attr v.0) (k.0.0, unfit-none c.problem c.marks kept.corner (attr_column v.0) v.1 k.0.1 k.1.0 k.1.1 none));
    })
    (each-both _ _ values
    (each-both _ _ values (of-attrs (λ (a : ℕ). HasStay c.problem.stays a) c.problem.stays values h.attributes (own-stays c.problem.stays)) (fixed_at c.problem c.marks kept.corner values h.attributes))
    (each-both _ _ values (recursion_from_All (λ v. IsLowest v.1) values h.lowest) (recursion_from_All (λ v. HasValueAt c.problem c.marks (attr_column v.0) v.1) values h.stand))))
