-- The lines of a problem whose rows bound one attribute each: at a corner each attribute has one line outside.
use Rattle.std.proofs.Common.{◌≡◌, ◌≢◌, ◌∙◌, ℕ, ◌+◌, ◌<◌, ◌≤◌, List, [], ◌∷◌, map, ℤ, pos, negsuc, ◌+ℤ◌, ◌-ℤ◌, ◌*ℤ◌, neg_ℤ, unsigned_abs, refl, sym, ap, ap₂, subst, arith, inl, inr, ◌⊎◌, All, Contains}
use Rattle.std.specs.List.{AllByRecursion as Each}
use Rattle.std.proofs.lemmas.Bool.{cases_Bool, cases_eq}
use Rattle.std.proofs.lemmas.List.Elements.{recursion_from_All}
use borrow.Author.Differences.{ints}
use Rattle.frac_core.proofs.Bools.{count-other as cond_other, count-same as cond_same}
use Rattle.frac_core.proofs.Integers.{mul-zero_ℤ, zero-mul_ℤ}
use Rattle.frac_core.proofs.Lists.{any-here, any-later, each-joined}
use Rattle.frac_core.proofs.Numbers.{one-times, one-times-plus, zero-or-not}
use Rattle.problem_core.specs.declared.parts.Mark.{Mark}
use Rattle.problem_core.specs.declared.parts.Side.TheVariants.{Under, Over}
use Rattle.problem_core.specs.declared.parts.Stay.{Stay}
use Rattle.problem_core.specs.declared.parts.Term.{Term}
use Rattle.problem_core.specs.Kept.{IsRow}
use Rattle.problem_core.specs.Layout.{HasStay, IsCovered, Line, Problem, Row, coefficient, line_of_row, lines, stay_lines, sum_of, value_at}
use Rattle.problem_core.specs.Corners.{IsCorner, IsIn, attr_column, equation, marks_of, one_column, place, place_of}
use Rattle.problem_core.specs.Rays.{HasRays}
use Rattle.problem_core.proofs.Corners.CornerFacts.{is_place}
use Rattle.problem_core.proofs.Corners.Tableaus.{unit_at}
use Rattle.problem_core.proofs.Forms.{each-both, each-impl, value-plus, value-scaled}
use Rattle.corner_laws.proofs.CornerRays.{corner_has_rays}
use Rattle.corner_laws.proofs.Counting.{IsIn-from_is_place, IsSmall, over_next, sides_apart, unit_value}
use Rattle.corner_laws.proofs.LevelCosts.Gaps.{deviation, form_value, line_gap}
use Rattle.corner_laws.proofs.LinePlaces.{IsSmallLine, lines_small, whole-placed}
use Rattle.corner_laws.proofs.MarkWritings.Directions.{along, attr_ray, entries-opposite, none-unless, placed-direction, small-mark, spread, spread-none, spread-value}
use Rattle.corner_laws.proofs.MarkWritings.LowestForms.{column_has_writing}
use Rattle.corner_laws.proofs.WrittenValues.{contains_each}
use Rattle.corner_laws.proofs.ZeroColumns.{here-in, not-in}
use Rattle.session_laws.specs.Answered.Bounds.{AreBounds, IsBound, IsSmallWhole}

-- ---- lines

-- the line bounds one attribute of the problem by a small whole number
pub record IsPlain (p : Problem) (l : Line) : Type 0 where
  pub attr : ℕ
  pub stay : HasStay p.stays attr
  pub form : l.form ≡ record { attr = attr; by = pos 1 } ∷ []
  pub scale : l.scale ≡ 1
  pub den : l.den ≡ 1
  pub weight : l.weight ≤ 1000
  pub small : unsigned_abs l.num ≤ 65536

plain-row : (p : Problem) (r : Row) → IsRow r → IsCovered p.stays r → IsBound r → IsPlain p (line_of_row r)
plain-row p r row covered bound = record {
  attr = bound.attr;
  stay = (recursion_from_All (λ (t : Term). HasStay p.stays t.attr) (record { attr = bound.attr; by = pos 1 } ∷ []) (subst (All (λ (t : Term). HasStay p.stays t.attr)) bound.terms covered)).0;
  form = bound.terms;
  scale = bound.scale;
  den = bound.constant.whole;
  weight = row.weight.1;
  small = bound.constant.small;
}

plain-rows : (p : Problem) (rows : List Row) → Each IsRow rows → Each (IsCovered p.stays) rows → Each IsBound rows → Each (IsPlain p) (map line_of_row rows)
plain-rows p [] a b c = tt
plain-rows p (r ∷ rows) a b c = (plain-row p r a.0 b.0 c.0, plain-rows p rows a.1 b.1 c.1)

own-stays : (stays : List Stay) → Each (λ (s : Stay). HasStay stays s.attr) stays
own-stays [] = tt
own-stays (s ∷ stays) = (any-here (λ (t : Stay). t.attr ≡ s.attr) s stays refl, each-impl (λ (u : Stay). HasStay stays u.attr) (λ u. HasStay (s ∷ stays) u.attr) stays (λ u h. any-later (λ (t : Stay). t.attr ≡ u.attr) s stays h) (own-stays stays))

plain-stays : (p : Problem) (level : ℕ) (stays : List Stay) → Each (λ (s : Stay). HasStay p.stays s.attr) stays → Each (λ (s : Stay). IsSmallWhole s.target) stays → Each (IsPlain p) (stay_lines level stays)
plain-stays p level [] a b = tt
plain-stays p level (s ∷ stays) a b = (
  record { attr = s.attr; stay = a.0; form = refl; scale = refl; den = b.0.whole; weight = omega arith; small = b.0.small },
  plain-stays p (level + 1) stays a.1 b.1,
)

pub plain-lines : (p : Problem) → AreBounds p → Each (IsPlain p) (lines p)
plain-lines p b =
    each-joined (IsPlain p) (map line_of_row p.rows) (stay_lines 1001 p.stays)
    (plain-rows p p.rows (recursion_from_All IsRow p.rows b.whole.rows) (recursion_from_All (IsCovered p.stays) p.rows b.whole.covered) (recursion_from_All IsBound p.rows b.rows))
    (plain-stays p 1001 p.stays (own-stays p.stays) (recursion_from_All (λ (s : Stay). IsSmallWhole s.target) p.stays b.stays))

-- ---- what the line says

-- its deviation and the attribute, of whatever solves the lines
abbrev pub Says : Problem → Line → ℕ → Type 0
Says p l a = (x : ℕ → ℤ) → All (λ k. value_at x (equation k) ≡ pos 0) (lines p) → (x (place_of l.name Under) -ℤ x (place_of l.name Over)) +ℤ x (attr_column a) ≡ l.num *ℤ x one_column

plain-gap : (p : Problem) (l : Line) (h : IsPlain p l) (x : ℕ → ℤ) → value_at x (equation l) ≡ pos 0 → (x (place_of l.name Under) -ℤ x (place_of l.name Over)) +ℤ x (attr_column h.attr) ≡ l.num *ℤ x one_column
plain-gap p l h x e =
    let form : form_value x l ≡ x (attr_column h.attr) = ap (λ (f : List Term). value_at (λ v. x (attr_column v)) f) h.form ∙ one-times-plus (x (attr_column h.attr)) in
    let whole : pos 1 *ℤ (deviation x l +ℤ form_value x l) ≡ l.num *ℤ x one_column = sym (ap (λ (d : ℕ). pos d *ℤ (deviation x l +ℤ form_value x l)) h.den) ∙ line_gap x l e in
    ap (λ (z : ℤ). deviation x l +ℤ z) (sym form) ∙ sym (one-times (deviation x l +ℤ form_value x l)) ∙ whole

own-equations : (ls : List Line) → Each (λ l. (x : ℕ → ℤ) → Each (λ k. value_at x (equation k) ≡ pos 0) ls → value_at x (equation l) ≡ pos 0) ls
own-equations [] = tt
own-equations (l ∷ ls) = (λ x h. h.0, each-impl (λ k. (x : ℕ → ℤ) → Each (λ j. value_at x (equation j) ≡ pos 0) ls → value_at x (equation k) ≡ pos 0) (λ k. (x : ℕ → ℤ) → Each (λ j. value_at x (equation j) ≡ pos 0) (l ∷ ls) → value_at x (equation k) ≡ pos 0) ls (λ k f x h. f x h.1) (own-equations ls))

-- a line with all that is known of it
pub record IsKnown (p : Problem) (l : Line) : Type 0 where
  pub plain : IsPlain p l
  pub says : Says p l plain.attr
  pub under : Contains (map place (marks_of (lines p))) (place_of l.name Under)
  pub over : Contains (map place (marks_of (lines p))) (place_of l.name Over)
  pub places : IsSmallLine l

pub known-lines : (p : Problem) → AreBounds p → Each (IsKnown p) (lines p)
known-lines p b =
    each-impl (λ l. IsPlain p l × (((x : ℕ → ℤ) → Each (λ k. value_at x (equation k) ≡ pos 0) (lines p) → value_at x (equation l) ≡ pos 0) × ((Contains (map place (marks_of (lines p))) (place_of l.name Under) × Contains (map place (marks_of (lines p))) (place_of l.name Over)) × IsSmallLine l))) (IsKnown p) (lines p)
    (λ l h. record {
      plain = h.0;
      says = λ x all. plain-gap p l h.0 x (h.1.0 x (recursion_from_All (λ k. value_at x (equation k) ≡ pos 0) (lines p) all));
      under = h.1.1.0.0;
      over = h.1.1.0.1;
      places = h.1.1.1;
    })
    (each-both (IsPlain p) _ (lines p) (plain-lines p b) (each-both _ _ (lines p) (own-equations (lines p)) (each-both _ IsSmallLine (lines p) (here-in (lines p)) (lines_small p b.whole))))

-- ---- lines outside

abbrev pub IsOutside : List Mark → Line → Type 0
IsOutside at l = (IsIn (place_of l.name Under) at → ⊥) × (IsIn (place_of l.name Over) at → ⊥)

-- a line of the attribute of which no mark is inside
pub record HasLine (p : Problem) (at : List Mark) (a : ℕ) : Type 0 where
  pub line : Line
  pub known : IsKnown p line
  pub attr : known.plain.attr ≡ a
  pub outside : IsOutside at line

pub in-or-out : (at : List Mark) (c : ℕ) → IsIn c at ⊎ (IsIn c at → ⊥)
in-or-out at c = elim (cases_Bool (is_place at c)) [
  | inl on ↦ inl (IsIn-from_is_place c at on)
  | inr off ↦ inr (not-in at c off)
]

some-term : (f : Line → ℤ) (P : Line → Type 0) (ls : List Line) → Each P ls → sum_of f ls ≢ pos 0 → (l : Line) × P l × (f l ≢ pos 0)
some-term f P [] h some = absurd (some refl)
some-term f P (l ∷ ls) h some = elim (zero-or-not (f l)) [
  | inr here ↦ (l, h.0, here)
  | inl none ↦ some-term f P ls h.1 (λ e. some (ap₂ ◌+ℤ◌ none e))
]

factors : (a b : ℤ) → a *ℤ b ≢ pos 0 → (a ≢ pos 0) × (b ≢ pos 0)
factors a b some = ((λ e. some (ap (λ (z : ℤ). z *ℤ b) e ∙ zero-mul_ℤ b)), (λ e. some (ap (λ (z : ℤ). a *ℤ z) e ∙ mul-zero_ℤ a)))

own-attr : (a b : ℕ) (form : List Term) → form ≡ record { attr = a; by = pos 1 } ∷ [] → coefficient b form ≢ pos 0 → a ≡ b
own-attr a b form e some = elim (cases_eq a b) [
  | inl is ↦ is
  | inr n ↦ absurd (some (ap (coefficient b) e ∙ ap (λ (z : ℤ). z +ℤ pos 0) (cond_other a b (pos 1) n)))
]

module _ (p : Problem) (b : AreBounds p) (at : List Mark) (corner : IsCorner p at) where
  rays : HasRays p at
  rays = corner_has_rays p at b.whole corner

  attr-low : (a : ℕ) → HasStay p.stays a → a ≢ attr_column 0
  attr-low a (k, s, within, is, e) = λ q. (let low = (b.whole.stays k s within).attr.1 in let same = ap (λ (t : Stay). t.attr) is ∙ e in absurd (omega (arith, low, same, q)))

  from-sum : (s : ℕ) (u f t : ℤ) → 0 < s → u ≡ pos 1 → f ≡ pos 0 → pos s *ℤ u ≡ f +ℤ negsuc 0 *ℤ t → t ≢ pos 0
  from-sum s u f t above one none e = λ z. (let h : pos s *ℤ u ≡ pos s *ℤ pos 1 = ap (λ (y : ℤ). pos s *ℤ y) one in absurd (omega (arith, ints, above, none, e, z, h)))

  opposite : (s u o f g : ℤ) → u ≡ pos 0 → o ≡ pos 0 → s *ℤ o -ℤ g ≡ neg_ℤ (s *ℤ u -ℤ f) → f ≢ pos 0 → g ≢ pos 0
  opposite s u o f g eu eo e some none = some (let a : s *ℤ o ≡ pos 0 = ap (λ (z : ℤ). s *ℤ z) eo ∙ mul-zero_ℤ s in let c : s *ℤ u ≡ pos 0 = ap (λ (z : ℤ). s *ℤ z) eu ∙ mul-zero_ℤ s in omega (arith, ints, a, c, e, none))

  -- an attribute has a line outside
  pub line-of : (a : ℕ) → HasStay p.stays a → HasLine p at a
  line-of a stay =
      let w = column_has_writing p at (attr_column a) corner rays (inr (a, stay, refl)) in
      let moves = along p at (attr_column a) w.0 w.1 w.2 w.3 corner.point (attr_ray a (lines p)) corner.stands.0 w.4 (placed-direction p a (whole-placed p b.whole) (attr-low a stay)) in
      let own : attr_ray a (lines p) (attr_column a) ≡ pos 1 =
      ap₂ (λ (y z : ℤ). y +ℤ negsuc 0 *ℤ z) (cond_same (attr_column a) (attr_column a) (pos 1) refl) (spread-none a (attr_column a) (lines p) (each-impl IsSmallLine (λ l. attr_column a ≢ place_of l.name Under) (lines p) (λ l s e. absurd (omega (arith, s.under, e))) (lines_small p b.whole))) in
      let value : value_at (attr_ray a (lines p)) w.1 ≡ coefficient (attr_column a) w.1 +ℤ negsuc 0 *ℤ sum_of (λ l. coefficient a l.form *ℤ coefficient (place_of l.name Under) w.1) (lines p) =
      value-plus (unit_at (attr_column a)) (λ u. negsuc 0 *ℤ spread a (lines p) u) w.1
      ∙ ap₂ ◌+ℤ◌ (unit_value (attr_column a) w.1) (value-scaled (negsuc 0) (spread a (lines p)) w.1 ∙ ap (λ (z : ℤ). negsuc 0 *ℤ z) (spread-value a (lines p) w.1)) in
      let none : coefficient (attr_column a) w.1 ≡ pos 0 = none-unless p at w.1 (attr_column a) w.4.outside (λ o. (let h = small-mark p (attr_column a) b.whole o.0 in absurd (omega (arith, h)))) in
      let some : sum_of (λ l. coefficient a l.form *ℤ coefficient (place_of l.name Under) w.1) (lines p) ≢ pos 0 =
      from-sum w.0 (attr_ray a (lines p) (attr_column a)) (coefficient (attr_column a) w.1) (sum_of (λ l. coefficient a l.form *ℤ coefficient (place_of l.name Under) w.1) (lines p)) w.4.scale_positive own none (moves ∙ value) in
      let found = some-term (λ l. coefficient a l.form *ℤ coefficient (place_of l.name Under) w.1) (IsKnown p) (lines p) (known-lines p b) some in
      let both = factors (coefficient a found.0.form) (coefficient (place_of found.0.name Under) w.1) found.2 in
      let small : IsSmall found.0.name = (let next = over_next found.0.name in omega (arith, found.1.places.over, next)) in
      let other : coefficient (place_of found.0.name Over) w.1 ≢ pos 0 =
      opposite (pos w.0) (unit_at (attr_column a) (place_of found.0.name Under)) (unit_at (attr_column a) (place_of found.0.name Over)) (coefficient (place_of found.0.name Under) w.1) (coefficient (place_of found.0.name Over) w.1)
      (cond_other (place_of found.0.name Under) (attr_column a) (pos 1) (λ e. absurd (omega (arith, found.1.places.under, e)))) (cond_other (place_of found.0.name Over) (attr_column a) (pos 1) (λ e. absurd (omega (arith, found.1.places.over, e))))
      (entries-opposite p at (attr_column a) w.0 w.1 w.2 w.3 corner.point found.0.name corner.stands.0 w.4 small) both.1 in
      record {
        line = found.0;
        known = found.1;
        attr = own-attr found.1.plain.attr a found.0.form found.1.plain.form both.0;
        outside = ((w.4.outside (place_of found.0.name Under) both.1).1, (w.4.outside (place_of found.0.name Over) other).1);
      }

  still-parts : (u o a n one : ℤ) → u ≡ pos 0 → one ≡ pos 0 → (u -ℤ o) +ℤ a ≡ n *ℤ one → a ≡ o
  still-parts u o a n one e f h = let z : n *ℤ one ≡ pos 0 = ap (λ (y : ℤ). n *ℤ y) f ∙ mul-zero_ℤ n in omega (arith, ints, e, z, h)

  -- and one alone
  pub line-alone : (l k : Line) (kl : IsKnown p l) (kk : IsKnown p k) → kl.plain.attr ≡ kk.plain.attr → IsOutside at l → IsOutside at k → place_of l.name Under ≢ place_of k.name Under → ⊥
  line-alone l k kl kk same ol ok ne =
      let ray = rays (place_of l.name Over) kl.over ol.1 in
      let zero : (v : ℕ) → Contains (map place (marks_of (lines p))) v → (IsIn v at → ⊥) → v ≢ place_of l.name Over → ray.0 v ≡ pos 0 =
      λ v is out far. contains_each (λ u. (IsIn u at → ⊥) → u ≢ place_of l.name Over → ray.0 u ≡ pos 0) (marks_of (lines p)) v (recursion_from_All (λ m. (IsIn (place m) at → ⊥) → place m ≢ place_of l.name Over → ray.0 (place m) ≡ pos 0) (marks_of (lines p)) ray.1.other) is out far in
      let first = still-parts (ray.0 (place_of l.name Under)) (ray.0 (place_of l.name Over)) (ray.0 (attr_column kl.plain.attr)) l.num (ray.0 one_column) (zero (place_of l.name Under) kl.under ol.0 (λ e. sides_apart l.name l.name (sym e))) ray.1.still (kl.says ray.0 ray.1.holds) in
      let next = still-parts (ray.0 (place_of k.name Under)) (ray.0 (place_of k.name Over)) (ray.0 (attr_column kk.plain.attr)) k.num (ray.0 one_column) (zero (place_of k.name Under) kk.under ok.0 (λ e. sides_apart l.name k.name (sym e))) ray.1.still (kk.says ray.0 ray.1.holds) in
      let none = zero (place_of k.name Over) kk.over ok.1 (λ e. (let a = over_next l.name in let c = over_next k.name in ne (omega (arith, e, a, c)))) in
      let both : ray.0 (attr_column kl.plain.attr) ≡ ray.0 (attr_column kk.plain.attr) = ap (λ (a : ℕ). ray.0 (attr_column a)) same in
      let here = ray.1.here in
      absurd (omega (arith, ints, first, next, none, both, here))
