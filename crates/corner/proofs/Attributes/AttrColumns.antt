-- No column becomes negative where an attribute joins.
use Rattle.std.proofs.Common.{◌≡◌, ◌≢◌, ◌∙◌, ◌⊎◌, ℕ, zero, suc, ◌+◌, ◌*◌, ◌++◌, Bool, cond, nat_eq, List, [], ◌∷◌, map, length, refl, sym, ap, ap₂, subst, arith, inl, inr, ℤ, pos, ◌+ℤ◌, ◌*ℤ◌, ◌-ℤ◌, ◌<ℤ◌, ne_eqb, eq-eqb, slice_index_or, All, Any, Contains}
use borrow.Author.Differences.{ints}
use Rattle.frac_core.proofs.Integers.{mul-zero_ℤ, zero-mul_ℤ}
use Rattle.frac_core.specs.Fraction.{Fraction}
use Rattle.problem_core.specs.declared.parts.Mark.{Mark}
use Rattle.problem_core.specs.declared.parts.Side.{Side}
use Rattle.problem_core.specs.declared.parts.Side.TheVariants.{Under, Over}
use Rattle.problem_core.specs.declared.parts.Stay.{Stay}
use Rattle.problem_core.specs.declared.parts.RowName.TheVariants.{Stay as StayOf}
use Rattle.problem_core.specs.Layout.{HasStay, Line, Problem, Row, coefficient, line_of_row, lines, stay_lines, sum_of}
use Rattle.problem_core.specs.Kept.{IsWhole}
use Rattle.problem_core.specs.Certificates.{Multipliers}
use Rattle.problem_core.specs.Corners.{AreMultipliersAt, HasNegativeColumn, IsIn, IsLexNegative, column, marks_of, place, place_of}
use Rattle.corner_lines.specs.Joins.{with_attr}
use Rattle.corner_leaving.proofs.Attributes.DroppedAttrLevels.{absent, one_time}
use Rattle.corner_view.specs.Seen.{IsMarkOf}
use Rattle.corner_joins.proofs.Attributes.AttrJoins.{lines_more, new_line}
use Rattle.corner_table.proofs.Basics.SmallFacts.{own_stay}
use Rattle.corner_joins.proofs.Attributes.AttrLevels.{each_old, sum_push}

-- ---- the new attribute stands in no line before

stays_absent : (attr level : ℕ) (stays : List Stay) → All (λ (s : Stay). s.attr ≢ attr) stays → All (λ l. coefficient attr l.form ≡ pos 0) (stay_lines level stays)
stays_absent attr level [] h k x lt = absurd (omega (arith, lt))
stays_absent attr level (s ∷ stays) h zero x lt = ap (λ (b : Bool). cond b (pos 1) (pos 0) +ℤ pos 0) (ne_eqb s.attr attr (h zero s (omega arith)))
stays_absent attr level (s ∷ stays) h (suc k) x lt = stays_absent attr (level + 1) stays (λ i y within. h (suc i) y (omega (arith, within))) k x (omega (arith, lt))

rows_absent : (attr : ℕ) (rows : List Row) (rest : List Line) → All (λ (r : Row). coefficient attr r.terms ≡ pos 0) rows → All (λ l. coefficient attr l.form ≡ pos 0) rest → All (λ l. coefficient attr l.form ≡ pos 0) (map line_of_row rows ++ rest)
rows_absent attr [] rest h g k x lt = g k x lt
rows_absent attr (r ∷ rows) rest h g zero x lt = h zero r (omega arith)
rows_absent attr (r ∷ rows) rest h g (suc k) x lt = rows_absent attr rows rest (λ i y within. h (suc i) y (omega (arith, within))) g k x (omega (arith, lt))

lines_absent : (p : Problem) (attr : ℕ) → IsWhole p → (HasStay p.stays attr → ⊥) → All (λ l. coefficient attr l.form ≡ pos 0) (lines p)
lines_absent p attr whole fresh =
    rows_absent attr p.rows (stay_lines 1001 p.stays)
    (λ k x lt. absent attr (slice_index_or p.rows k x).terms (λ i y within e. fresh (subst (HasStay p.stays) e (whole.covered k x lt i y within))))
    (stays_absent attr 1001 p.stays (λ k x lt e. fresh (subst (HasStay p.stays) e (own_stay p.stays k x lt))))

sum_none : (f : Line → ℤ) (xs : List Line) → All (λ l. f l ≡ pos 0) xs → sum_of f xs ≡ pos 0
sum_none f [] h = refl
sum_none f (x ∷ xs) h = ap₂ (λ (y z : ℤ). y +ℤ z) (h zero x (omega arith)) (sum_none f xs (λ k y lt. h (suc k) y (omega (arith, lt))))

sum_last : (f : Line → ℤ) (xs : List Line) (y : Line) → sum_of f (xs ++ (y ∷ [])) ≡ sum_of f xs +ℤ f y
sum_last f [] y = omega (arith, ints)
sum_last f (x ∷ xs) y = let e = sum_last f xs y in omega (arith, ints, e)

-- ---- its stay is taken no times

times_none : (p : Problem) (at : List Mark) (attr : ℕ) (target : Fraction) (level : ℕ) (m : Multipliers) → IsWhole p → (HasStay p.stays attr → ⊥) → AreMultipliersAt (with_attr attr target p) at m → m.times level (StayOf attr) ≡ pos 0
times_none p at attr target level m whole fresh are =
    let f : Line → ℤ = λ l. m.times level l.name *ℤ coefficient attr l.form in
    let all : sum_of f (lines p) +ℤ f (new_line p attr target) ≡ pos 0 = sym (sum_last f (lines p) (new_line p attr target)) ∙ ap (sum_of f) (sym (lines_more p attr target)) ∙ are.cancel level attr in
    let none : sum_of f (lines p) ≡ pos 0 = sum_none f (lines p) (λ k x lt. ap (λ (z : ℤ). m.times level (slice_index_or (lines p) k x).name *ℤ z) (lines_absent p attr whole fresh k x lt) ∙ mul-zero_ℤ (m.times level (slice_index_or (lines p) k x).name)) in
    let one : f (new_line p attr target) ≡ m.times level (StayOf attr) = ap (λ (b : Bool). m.times level (StayOf attr) *ℤ (cond b (pos 1) (pos 0) +ℤ pos 0)) (eq-eqb attr attr refl) ∙ one_time (m.times level (StayOf attr)) in
    omega (arith, ints, all, none, one)

multipliers_before : (p : Problem) (at : List Mark) (attr : ℕ) (target : Fraction) (m : Multipliers) → IsWhole p → (HasStay p.stays attr → ⊥) → AreMultipliersAt (with_attr attr target p) at m → AreMultipliersAt p at m
multipliers_before p at attr target m whole fresh are = record {
  scales = are.scales;
  cancel = λ level v.
      let f : Line → ℤ = λ l. m.times level l.name *ℤ coefficient v l.form in
      let none : f (new_line p attr target) ≡ pos 0 = ap (λ (z : ℤ). z *ℤ coefficient v (new_line p attr target).form) (times_none p at attr target level m whole fresh are) ∙ zero-mul_ℤ (coefficient v (new_line p attr target).form) in
      sym (sum_push f (lines p) (new_line p attr target) none) ∙ ap (sum_of f) (sym (lines_more p attr target)) ∙ are.cancel level v;
  inside_zero = λ side. each_old (λ l. IsIn (place_of l.name side) at → (level : ℕ) → column m side l level ≡ pos 0) p attr target (are.inside_zero side);
}

-- ---- columns

none_below : (n : ℕ) → pos n <ℤ pos 0 → ⊥
none_below n h = absurd (omega (arith, ints, h))

less_none : (n : ℕ) (z t : ℤ) → z ≡ pos n -ℤ pos 1 *ℤ t → t ≡ pos 0 → z ≡ pos n
less_none n z t e d = omega (arith, ints, e, d)

more_none : (n : ℕ) (z t : ℤ) → z ≡ pos n +ℤ pos 1 *ℤ t → t ≡ pos 0 → z ≡ pos n
more_none n z t e d = omega (arith, ints, e, d)

new_column : (p : Problem) (at : List Mark) (attr : ℕ) (target : Fraction) (m : Multipliers) (side : Side) → IsWhole p → (HasStay p.stays attr → ⊥) → AreMultipliersAt (with_attr attr target p) at m → IsLexNegative (column m side (new_line p attr target)) → ⊥
new_column p at attr target m Under whole fresh are (level, zeros, h) =
    let none = times_none p at attr target level m whole fresh are in
    let n : ℕ = m.scale level * cond (nat_eq (1001 + length p.stays) level) 1 0 in
    none_below n (subst (λ (z : ℤ). z <ℤ pos 0) (less_none n (column m Under (new_line p attr target) level) (m.times level (StayOf attr)) refl none) h)
new_column p at attr target m Over whole fresh are (level, zeros, h) =
    let none = times_none p at attr target level m whole fresh are in
    let n : ℕ = m.scale level * cond (nat_eq (1001 + length p.stays) level) 1 0 in
    none_below n (subst (λ (z : ℤ). z <ℤ pos 0) (more_none n (column m Over (new_line p attr target) level) (m.times level (StayOf attr)) refl none) h)

split_later : (P : Line → Type 0) (z : Line) (xs : List Line) (y : Line) → Any P xs ⊎ P y → Any P (z ∷ xs) ⊎ P y
split_later P z xs y (inl (k, x, lt, e, h)) = inl (suc k, x, omega (arith, lt), e, h)
split_later P z xs y (inr h) = inr h

pub any_split : (P : Line → Type 0) (xs : List Line) (y : Line) → Any P (xs ++ (y ∷ [])) → Any P xs ⊎ P y
any_split P [] y (zero, x, lt, e, h) = inr (subst P (sym e) h)
any_split P [] y (suc k, x, lt, e, h) = absurd (omega (arith, lt))
any_split P (z ∷ xs) y (zero, x, lt, e, h) = inl (zero, x, omega arith, e, h)
any_split P (z ∷ xs) y (suc k, x, lt, e, h) = split_later P z xs y (any_split P xs y (k, x, omega (arith, lt), e, h))

old_some : (p : Problem) (at : List Mark) (attr : ℕ) (target : Fraction) (mark : Mark) (m : Multipliers) → IsWhole p → (HasStay p.stays attr → ⊥) → AreMultipliersAt (with_attr attr target p) at m
    → Any (λ l. (place_of l.name mark.side ≡ place mark) × IsLexNegative (column m mark.side l)) (lines p) ⊎ ((place_of (StayOf attr) mark.side ≡ place mark) × IsLexNegative (column m mark.side (new_line p attr target)))
    → Any (λ l. (place_of l.name mark.side ≡ place mark) × IsLexNegative (column m mark.side l)) (lines p)
old_some p at attr target mark m whole fresh are (inl h) = h
old_some p at attr target mark m whole fresh are (inr h) = absurd (new_column p at attr target m mark.side whole fresh are h.1)

pub negative_before : (p : Problem) (at : List Mark) (attr : ℕ) (target : Fraction) (mark : Mark) → IsWhole p → (HasStay p.stays attr → ⊥) → HasNegativeColumn (with_attr attr target p) at mark → HasNegativeColumn p at mark
negative_before p at attr target mark whole fresh (m, are, some) = (
  m,
  multipliers_before p at attr target m whole fresh are,
  old_some p at attr target mark m whole fresh are (any_split (λ l. (place_of l.name mark.side ≡ place mark) × IsLexNegative (column m mark.side l)) (lines p) (new_line p attr target)
      (subst (Any (λ l. (place_of l.name mark.side ≡ place mark) × IsLexNegative (column m mark.side l))) (lines_more p attr target) some)),
)

-- a mark of one of the lines is one of theirs
pub line_mark : (ls : List Line) (side : Side) (c : ℕ) → Any (λ l. place_of l.name side ≡ c) ls → Contains (map place (marks_of ls)) c
line_mark [] side c (k, x, lt, e, h) = absurd (omega (arith, lt))
line_mark (l ∷ ls) Under c (zero, x, lt, e, h) = (0, omega arith, ap (λ (k : Line). place_of k.name Under) e ∙ h)
line_mark (l ∷ ls) Over c (zero, x, lt, e, h) = (1, omega arith, ap (λ (k : Line). place_of k.name Over) e ∙ h)
line_mark (l ∷ ls) side c (suc k, x, lt, e, h) = let i = line_mark ls side c (k, x, omega (arith, lt), e, h) in (suc (suc i.0), omega (arith, i.1), i.2)

pub negative_mark : (p : Problem) (at : List Mark) (mark : Mark) → HasNegativeColumn p at mark → IsMarkOf p mark
negative_mark p at mark (m, are, (k, x, lt, e, h)) = line_mark (lines p) mark.side (place mark) (k, x, lt, e, h.0)
