-- Constants that mix, and the points that stand at a corner with them.
use Rattle.std.proofs.Common.{◌≡◌, ◌∙◌, ℕ, zero, suc, ◌+◌, ◌*◌, ◌<◌, inl, inr, ◌++◌, List, [], ◌∷◌, map, ℤ, pos, ◌+ℤ◌, ◌-ℤ◌, ◌*ℤ◌, ◌≤ℤ◌, ◌<ℤ◌, refl, sym, ap, ap₂, subst, arith, mul-pos, All}
use Rattle.std.specs.List.{AllByRecursion as Each}
use Rattle.std.proofs.lemmas.Bool.{cases_eq}
use Rattle.std.proofs.lemmas.List.Elements.{All-from_recursion, recursion_from_All}
use borrow.Author.Differences.{ints}
use Rattle.frac_core.specs.Fraction.{Fraction}
use lib.IntN.{*ℤ_comm}
use Rattle.frac_core.proofs.Integers.{mul-add_left, mul-sub_left, mul_assoc_ℤ, mul_not_negative}
use Rattle.frac_core.proofs.Numbers.{up-times, zero-sum}
use Rattle.problem_core.specs.declared.parts.Mark.{Mark}
use Rattle.problem_core.specs.declared.parts.RowName.TheVariants.{Held}
use Rattle.problem_core.specs.declared.parts.Side.TheVariants.{Under, Over}
use Rattle.problem_core.specs.declared.parts.Term.{Term}
use Rattle.problem_core.specs.Layout.{Line, Problem, Row, line_of_row, lines, stay_lines, value_at}
use Rattle.problem_core.specs.Corners.{IsIn, Point, StandsAt, attr_column, equation, marks_of, one_column, place, place_of}
use Rattle.problem_core.proofs.Forms.{each-both, each-impl, value-plus, value-scaled}
use Rattle.corner_laws.proofs.LevelCosts.Gaps.{form_value}
use Rattle.corner_lines.specs.Shifts.{has_constant, with_constant}
use Rattle.corner_lines.proofs.ProblemChanges.Shifted.{changed, row-holds, row-solves, same-marks, shift-off, shift-on}
use Rattle.sweep_laws.specs.Fractions.{IsNoMore}
use Rattle.sweep_laws.specs.Laws.{BetweenMixes, IsMix, MixStands, Mixes, ValuesBetween}
use Rattle.sweep_laws.proofs.Ring.{as-count, mixed-equation, mixed-one, mixes-between, mixes-first}

-- ---- a constant between two

some-product : (u v da db : ℕ) → 0 < da → 0 < db → 0 < v + u → 0 < v * da + u * db
some-product zero v da db ha hb h = omega (arith, mul-pos (let k : 0 < v = omega (arith, h) in k) ha)
some-product (suc u) v da db ha hb h = omega (arith, mul-pos (let k : 0 < suc u = omega arith in k) hb)

-- how far w is above a and below b
pub record Places (a b w : Fraction) : Type 0 where
  pub above : ℕ
  pub below : ℕ
  pub from_a : w.num *ℤ pos a.den ≡ a.num *ℤ pos w.den +ℤ pos above
  pub to_b : b.num *ℤ pos w.den ≡ w.num *ℤ pos b.den +ℤ pos below

pub less-by : (x y : ℤ) (n : ℕ) → x -ℤ y ≡ pos n → x ≡ y +ℤ pos n
less-by x y n e = omega (arith, ints, e)

pub places : (a b w : Fraction) → IsNoMore a w → IsNoMore w b → Places a b w
places a b w low up =
    let u = as-count (w.num *ℤ pos a.den -ℤ a.num *ℤ pos w.den) (omega (arith, ints, low)) in
    let v = as-count (b.num *ℤ pos w.den -ℤ w.num *ℤ pos b.den) (omega (arith, ints, up)) in
    record { above = u.0; below = v.0; from_a = less-by _ _ u.0 u.1; to_b = less-by _ _ v.0 v.1 }

-- where they are apart
pub apart-mixes : (a b w : Fraction) (s : Places a b w) → 0 < a.den → 0 < b.den → 0 < s.below + s.above → Mixes a b w (s.above * b.den) (s.below * a.den)
apart-mixes a b w s ha hb some = record {
  some = some-product s.above s.below a.den b.den ha hb some;
  is = mixes-between a.den b.den w.den s.above s.below a.num b.num w.num s.from_a s.to_b;
}

pub first-mixes : (a b w : Fraction) → w.num *ℤ pos a.den ≡ a.num *ℤ pos w.den → Mixes a b w 0 1
first-mixes a b w e = record { some = omega arith; is = mixes-first a.den b.den w.den a.num b.num w.num e }

no-more : (x y : ℤ) (n : ℕ) → x ≡ y +ℤ pos n → n ≡ 0 → x ≡ y
no-more x y n e z = omega (arith, ints, e, z)

pub between_mixes : BetweenMixes
between_mixes a b w ha hb hw low up =
    let s = places a b w low up in
    elim (cases_eq (s.below + s.above) 0) [
      | inl none ↦ (0, 1, first-mixes a b w (no-more _ _ s.above s.from_a (omega (arith, none))))
      | inr some ↦ (s.above * b.den, s.below * a.den, apart-mixes a b w s ha hb (omega (arith, some)))
    ]

-- ---- the numbers of a mix

value-cong : (m n : ℕ → ℤ) (form : List Term) → ((c : ℕ) → m c ≡ n c) → value_at m form ≡ value_at n form
value-cong m n [] h = refl
value-cong m n (e ∷ form) h = ap₂ ◌+ℤ◌ (ap (λ (z : ℤ). e.by *ℤ z) (h e.attr)) (value-cong m n form h)

pub value-mixed : (x y z : ℕ → ℤ) (k h : ℤ) (form : List Term) → ((c : ℕ) → z c ≡ k *ℤ x c +ℤ h *ℤ y c) → value_at z form ≡ k *ℤ value_at x form +ℤ h *ℤ value_at y form
value-mixed x y z k h form is =
    value-cong z (λ c. k *ℤ x c +ℤ h *ℤ y c) form is
    ∙ value-plus (λ c. k *ℤ x c) (λ c. h *ℤ y c) form
    ∙ ap₂ ◌+ℤ◌ (value-scaled k x form) (value-scaled h y form)

-- what the row's terms and deviations are
abbrev pub side_of : (ℕ → ℤ) → Row → ℤ
side_of n r = (n (place_of (Held r.id) Under) -ℤ n (place_of (Held r.id) Over)) +ℤ form_value n (line_of_row r)

side-parts : (k h xu xo xf yu yo yf zu zo zf : ℤ) → zu ≡ k *ℤ xu +ℤ h *ℤ yu → zo ≡ k *ℤ xo +ℤ h *ℤ yo → zf ≡ k *ℤ xf +ℤ h *ℤ yf → (zu -ℤ zo) +ℤ zf ≡ k *ℤ ((xu -ℤ xo) +ℤ xf) +ℤ h *ℤ ((yu -ℤ yo) +ℤ yf)
side-parts k h xu xo xf yu yo yf zu zo zf u o f =
    let a = mul-add_left k (xu -ℤ xo) xf in
    let b = mul-sub_left k xu xo in
    let c = mul-add_left h (yu -ℤ yo) yf in
    let d = mul-sub_left h yu yo in
    omega (arith, ints, a, b, c, d, u, o, f)

pub side-mixed : (x y z : ℕ → ℤ) (k h : ℤ) (r : Row) → ((c : ℕ) → z c ≡ k *ℤ x c +ℤ h *ℤ y c) → side_of z r ≡ k *ℤ side_of x r +ℤ h *ℤ side_of y r
side-mixed x y z k h r is =
    side-parts k h (x (place_of (Held r.id) Under)) (x (place_of (Held r.id) Over)) (form_value x (line_of_row r)) (y (place_of (Held r.id) Under)) (y (place_of (Held r.id) Over)) (form_value y (line_of_row r))
    (z (place_of (Held r.id) Under)) (z (place_of (Held r.id) Over)) (form_value z (line_of_row r)) (is (place_of (Held r.id) Under)) (is (place_of (Held r.id) Over))
    (value-mixed (λ c. x (attr_column c)) (λ c. y (attr_column c)) (λ c. z (attr_column c)) k h r.terms (λ c. is (attr_column c)))

-- ---- the equations of a mix

abbrev pub Holds : (ℕ → ℤ) → Line → Type 0
Holds n l = value_at n (equation l) ≡ pos 0

module _ (a b w : Fraction) (near far : ℕ) (x y z : ℕ → ℤ) (ha : 0 < a.den) (hb : 0 < b.den) (mixes : Mixes a b w near far) (is : (c : ℕ) → z c ≡ (pos far *ℤ y one_column) *ℤ x c +ℤ (pos near *ℤ x one_column) *ℤ y c) where
  plain-line : (l : Line) → Holds x l → Holds y l → Holds z l
  plain-line l hx hy =
      value-mixed x y z (pos far *ℤ y one_column) (pos near *ℤ x one_column) (equation l) is
      ∙ zero-sum (pos far *ℤ y one_column) (pos near *ℤ x one_column) (value_at x (equation l)) (value_at y (equation l)) hx hy

  own-line : (r : Row) → Holds x (line_of_row (changed a r)) → Holds y (line_of_row (changed b r)) → Holds z (line_of_row (changed w r))
  own-line r hx hy =
      row-solves z (changed w r)
      (ap (λ (e : ℤ). pos w.den *ℤ e) (side-mixed x y z (pos far *ℤ y one_column) (pos near *ℤ x one_column) r is)
      ∙ mixed-equation a.den b.den w.den far near a.num b.num w.num (side_of x r) (side_of y r) (x one_column) (y one_column) ha hb mixes.is (row-holds x (changed a r) hx) (row-holds y (changed b r) hy)
      ∙ ap (λ (e : ℤ). w.num *ℤ e) (sym (is one_column)))

  mixed-lines : (id : ℕ) (rows : List Row) (rest : List Line) → Each (Holds x) (map line_of_row (map (has_constant id a) rows) ++ rest) → Each (Holds y) (map line_of_row (map (has_constant id b) rows) ++ rest) → Each (Holds z) (map line_of_row (map (has_constant id w) rows) ++ rest)
  mixed-lines id [] rest hx hy = each-impl (λ l. Holds x l × Holds y l) (Holds z) rest (λ l h. plain-line l h.0 h.1) (each-both (Holds x) (Holds y) rest hx hy)
  mixed-lines id (r ∷ rows) rest hx hy = (
    elim (cases_eq r.id id) [
      | inl e ↦
          subst (λ (s : Row). Holds z (line_of_row s)) (sym (shift-on id w r e))
          (own-line r (subst (λ (s : Row). Holds x (line_of_row s)) (shift-on id a r e) hx.0) (subst (λ (s : Row). Holds y (line_of_row s)) (shift-on id b r e) hy.0))
      | inr n ↦
          subst (λ (s : Row). Holds z (line_of_row s)) (sym (shift-off id w r n))
          (plain-line (line_of_row r) (subst (λ (s : Row). Holds x (line_of_row s)) (shift-off id a r n) hx.0) (subst (λ (s : Row). Holds y (line_of_row s)) (shift-off id b r n) hy.0))
    ],
    mixed-lines id rows rest hx.1 hy.1,
  )

-- the outside marks are 0, by the problem's own marks
abbrev pub IsZeroOutside : List Mark → (ℕ → ℤ) → Mark → Type 0
IsZeroOutside at n m = (IsIn (place m) at → ⊥) → n (place m) ≡ pos 0

pub zeros-there : (p : Problem) (row : ℕ) (a : Fraction) (at : List Mark) (x : Point) → StandsAt (with_constant row a p) at x → Each (IsZeroOutside at x.num) (marks_of (lines p))
zeros-there p row a at x stands =
    recursion_from_All (IsZeroOutside at x.num) (marks_of (lines p)) (subst (λ (ms : List Mark). All (IsZeroOutside at x.num) ms) (same-marks row a p) stands.1)

pub mix_stands : MixStands
mix_stands p row at a b w near far x y z ha hb mixes hx hy is = (
  All-from_recursion (Holds z.num) (lines (with_constant row w p))
      (mixed-lines a b w near far x.num y.num z.num ha hb mixes is.each row p.rows (stay_lines 1001 p.stays) (recursion_from_All (Holds x.num) (lines (with_constant row a p)) hx.0) (recursion_from_All (Holds y.num) (lines (with_constant row b p)) hy.0)),
  subst (λ (ms : List Mark). All (IsZeroOutside at z.num) ms) (sym (same-marks row w p))
      (All-from_recursion (IsZeroOutside at z.num) (marks_of (lines p))
      (each-impl (λ m. IsZeroOutside at x.num m × IsZeroOutside at y.num m) (IsZeroOutside at z.num) (marks_of (lines p))
      (λ m h out. is.each (place m) ∙ zero-sum (pos far *ℤ y.num one_column) (pos near *ℤ x.num one_column) (x.num (place m)) (y.num (place m)) (h.0 out) (h.1 out))
      (each-both (IsZeroOutside at x.num) (IsZeroOutside at y.num) (marks_of (lines p)) (zeros-there p row a at x hx) (zeros-there p row b at y hy)))),
)

-- ---- the mix of two points

unfoldable pub mix : (near far : ℕ) → 0 < far + near → Point → Point → Point
mix near far some x y = record {
  num = λ c. (pos far *ℤ y.num one_column) *ℤ x.num c +ℤ (pos near *ℤ x.num one_column) *ℤ y.num c;
  positive = mixed-one far near (x.num one_column) (y.num one_column) some x.positive y.positive;
}

pub mix-is : (near far : ℕ) (some : 0 < far + near) (x y : Point) → IsMix x y near far (mix near far some x y)
unfolding mix
mix-is near far some x y = record { each = λ c. refl }

pub up-part : (s : ℕ) (y x : ℤ) → pos 0 <ℤ y → pos 0 ≤ℤ x → pos 0 ≤ℤ ((pos s *ℤ y) *ℤ x)
up-part s y x hy hx = subst (λ (z : ℤ). pos 0 ≤ℤ z) (sym (mul_assoc_ℤ (pos s) y x)) (mul_not_negative s (y *ℤ x) (subst (λ (z : ℤ). pos 0 ≤ℤ z) (*ℤ_comm x y) (up-times x y hx hy)))

both-parts : (a b : ℤ) → pos 0 ≤ℤ a → pos 0 ≤ℤ b → pos 0 ≤ℤ (a +ℤ b)
both-parts a b h k = omega (arith, ints, h, k)

-- no value of the mix is negative where neither is
pub up-mixed : (x y z : Point) (near far c : ℕ) → IsMix x y near far z → pos 0 ≤ℤ x.num c → pos 0 ≤ℤ y.num c → pos 0 ≤ℤ z.num c
up-mixed x y z near far c is hx hy =
    subst (λ (e : ℤ). pos 0 ≤ℤ e) (sym (is.each c)) (both-parts _ _ (up-part far (y.num one_column) (x.num c) y.positive hx) (up-part near (x.num one_column) (y.num c) x.positive hy))

pub values_between : ValuesBetween
values_between p row at a b w ha hb hw low up (x, hx, ux) (y, hy, uy) =
    let m = between_mixes a b w ha hb hw low up in
    let z : Point = mix m.0 m.1 m.2.some x y in
    let is : IsMix x y m.0 m.1 z = mix-is m.0 m.1 m.2.some x y in (
      z,
      mix_stands p row at a b w m.0 m.1 x y z ha hb m.2 hx hy is,
      All-from_recursion (λ k. pos 0 ≤ℤ z.num (place k)) at
          (each-impl (λ k. (pos 0 ≤ℤ x.num (place k)) × (pos 0 ≤ℤ y.num (place k))) (λ k. pos 0 ≤ℤ z.num (place k)) at (λ k h. up-mixed x y z m.0 m.1 (place k) is h.0 h.1)
          (each-both (λ k. pos 0 ≤ℤ x.num (place k)) (λ k. pos 0 ≤ℤ y.num (place k)) at (recursion_from_All (λ k. pos 0 ≤ℤ x.num (place k)) at ux) (recursion_from_All (λ k. pos 0 ≤ℤ y.num (place k)) at uy))),
    )
