-- A line's equation is a writing: of an attribute, and of an inside mark.
use Rattle.std.proofs.Common.{◌≡◌, ◌≢◌, ◌∙◌, ℕ, ◌*◌, List, [], ◌∷◌, map, ℤ, pos, negsuc, ◌+ℤ◌, ◌-ℤ◌, ◌*ℤ◌, neg_ℤ, unsigned_abs, refl, sym, ap, subst, arith, inl, inr, ◌⊎◌, All, Contains}
use Rattle.std.specs.Int.{◌∣◌}
use Rattle.std.proofs.Math.Nat.{dvd-mul_right}
use Rattle.std.specs.List.{AllByRecursion as Each}
use Rattle.std.proofs.lemmas.Bool.{cases_eq}
use Rattle.std.proofs.lemmas.List.Elements.{All-from_recursion, recursion_from_All}
use lib.IntN.{*ℤ_comm}
use borrow.Author.Differences.{ints}
use Rattle.frac_core.proofs.Integers.{mul-add_left, mul-sub_left, mul_assoc_ℤ, mul_left_comm_ℤ, mul-zero_ℤ, zero-add_ℤ, sign_cases}
use Rattle.problem_core.specs.declared.parts.Mark.{Mark}
use Rattle.problem_core.specs.declared.parts.RowName.{RowName}
use Rattle.problem_core.specs.declared.parts.Side.{Side}
use Rattle.problem_core.specs.declared.parts.Side.TheVariants.{Under, Over}
use Rattle.problem_core.specs.Layout.{Line, Problem, lines, stay_lines, coefficient, sum_of}
use Rattle.problem_core.specs.Kept.{IsWhole}
use Rattle.problem_core.specs.Corners.{IsCorner, IsIn, marks_of, one_column, place, place_of}
use Rattle.problem_core.specs.Unfit.{IsWritingOf}
use Rattle.problem_core.proofs.Forms.{each-impl, each-both, mul-sum, sum-cong}
use Rattle.corner_laws.proofs.Swaps.ColumnsStay.{each_marks}
use Rattle.corner_laws.proofs.Counting.{IsSmall, one_mark, rows_small, stays_small}
use Rattle.corner_laws.proofs.LinePlaces.{lines_apart}
use Rattle.corner_laws.proofs.WrittenValues.{contains_each, value_there}
use Rattle.corner_laws.proofs.ZeroColumns.{here-in}
use Rattle.corner_laws.specs.Runs.{other_side}
use Rattle.corner_lines.specs.LineEquations.{IsLineEquation, IsOutsideLine, deviation, inside_form, mark_form, sign_of, HasValue}
use Rattle.corner_lines.proofs.Lines.MarkForms.{by-places, each-coefficient, form-value, same-name}
use Rattle.frac_core.proofs.Numbers.{divides-zero as no-part, plus-zero as at-zero, signed-not-zero as not_zero, divides-multiple as divisor}
use Rattle.frac_core.proofs.Bools.{count-other as cond_other, count-same as cond_same}

-- ---- lines and their marks

-- the line is among these
abbrev pub Named : RowName → List Line → Type 0
Named name [] = ⊥
Named name (l ∷ ls) = (l.name ≡ name) ⊎ Named name ls

pub own-named : (ls : List Line) → Each (λ l. Named l.name ls) ls
own-named [] = tt
own-named (l ∷ ls) = (inl refl, each-impl (λ k. Named k.name ls) _ ls (λ k h. inr h) (own-named ls))

-- what holds of each line holds of the one with this name
pub at-name : (P : RowName → Type 0) (name : RowName) (ls : List Line) → Named name ls → Each (λ l. P l.name) ls → P name
at-name P name [] n h = absurd n
at-name P name (l ∷ ls) (inl e) h = subst P e h.0
at-name P name (l ∷ ls) (inr n) h = at-name P name ls n h.1

-- a mark of the problem is a line's
pub mark-named : (p : Problem) (name : RowName) (side : Side) → Contains (map place (marks_of (lines p))) (place_of name side) → Named name (lines p)
mark-named p name side is =
    contains_each (λ c. c ≡ place_of name side → Named name (lines p)) (marks_of (lines p)) (place_of name side)
    (each_marks (λ c. c ≡ place_of name side → Named name (lines p)) (lines p)
    (each-impl (λ l. Named l.name (lines p)) _ (lines p) (λ l n e. subst (λ (k : RowName). Named k (lines p)) (same-name l.name name Under side e) n) (own-named (lines p)))
    (each-impl (λ l. Named l.name (lines p)) _ (lines p) (λ l n e. subst (λ (k : RowName). Named k (lines p)) (same-name l.name name Over side e) n) (own-named (lines p)))) is refl

pub named-mark : (p : Problem) (name : RowName) (side : Side) → Named name (lines p) → Contains (map place (marks_of (lines p))) (place_of name side)
named-mark p name Under n = at-name (λ k. Contains (map place (marks_of (lines p))) (place_of k Under)) name (lines p) n (each-impl _ (λ l. Contains (map place (marks_of (lines p))) (place_of l.name Under)) (lines p) (λ l h. h.0) (here-in (lines p)))
named-mark p name Over n = at-name (λ k. Contains (map place (marks_of (lines p))) (place_of k Over)) name (lines p) n (each-impl _ (λ l. Contains (map place (marks_of (lines p))) (place_of l.name Over)) (lines p) (λ l h. h.1) (here-in (lines p)))

pub inside-named : (p : Problem) (at : List Mark) (name : RowName) (side : Side) → IsCorner p at → IsIn (place_of name side) at → Named name (lines p)
inside-named p at name side corner inside =
    mark-named p name side (contains_each (λ c. Contains (map place (marks_of (lines p))) c) at (place_of name side) (recursion_from_All (λ m. Contains (map place (marks_of (lines p))) (place m)) at corner.marks) inside)

pub all-small : (p : Problem) → IsWhole p → Each (λ l. IsSmall l.name) (lines p)
all-small p whole = rows_small p.rows (stay_lines 1001 p.stays) (recursion_from_All _ _ whole.rows) (stays_small 1001 p.stays (recursion_from_All _ _ whole.stays))

-- the other mark of an inside one is outside
pub other-out : (p : Problem) (at : List Mark) (name : RowName) (side : Side) → IsWhole p → IsCorner p at → IsIn (place_of name side) at → IsIn (place_of name (other_side side)) at → ⊥
other-out p at name Under whole corner i o = one_mark p at name (at-name IsSmall name (lines p) (inside-named p at name Under corner i) (all-small p whole)) corner i o
other-out p at name Over whole corner i o = one_mark p at name (at-name IsSmall name (lines p) (inside-named p at name Over corner i) (all-small p whole)) corner o i

pub no-side : (at : List Mark) (name : RowName) (side : Side) → IsOutsideLine at name → IsIn (place_of name side) at → ⊥
no-side at name Under out = out.under
no-side at name Over out = out.over

-- an inside line has no number
pub none-inside : (p : Problem) (at : List Mark) (by : RowName → ℤ) (name : RowName) (side : Side) → All (λ l. by l.name ≢ pos 0 → IsOutsideLine at l.name) (lines p) → IsCorner p at → IsIn (place_of name side) at → by name ≡ pos 0
none-inside p at by name side outside corner inside =
    elim (sign_cases (by name)) [
      | inl z ↦ z
      | inr s ↦ absurd (no-side at name side (at-name (λ k. by k ≢ pos 0 → IsOutsideLine at k) name (lines p) (inside-named p at name side corner inside) (recursion_from_All _ (lines p) outside) (not_zero (by name) s)) inside)
    ]

-- ---- what the form needs

neg-some : (z : ℤ) → neg_ℤ z ≢ pos 0 → z ≢ pos 0
neg-some z some e = some (ap neg_ℤ e)

pub form-outside : (p : Problem) (at : List Mark) (by : RowName → ℤ) → IsWhole p → All (λ l. by l.name ≢ pos 0 → IsOutsideLine at l.name) (lines p) → (v : ℕ) → coefficient v (mark_form by (lines p)) ≢ pos 0 → Contains (map place (marks_of (lines p))) v × (IsIn v at → ⊥)
form-outside p at by whole outside =
    by-places (λ v z. z ≢ pos 0 → Contains (map place (marks_of (lines p))) v × (IsIn v at → ⊥)) by (lines p) (lines_apart p whole) (λ v some. absurd (some refl))
    (each-impl (λ l. (Contains (map place (marks_of (lines p))) (place_of l.name Under) × Contains (map place (marks_of (lines p))) (place_of l.name Over)) × (by l.name ≢ pos 0 → IsOutsideLine at l.name)) _ (lines p)
    (λ l h. (λ some. (h.0.1, (h.1 some).over), λ some. (h.0.0, (h.1 (neg-some (by l.name) some)).under)))
    (each-both _ _ (lines p) (here-in (lines p)) (recursion_from_All _ (lines p) outside)))

pub factor-of : (k own n : ℕ) → own ≡ k * n → k ∣ own
factor-of k own n e = subst (λ (m : ℕ). k ∣ m) (sym e) (dvd-mul_right k n)

pub same-abs : (side : Side) (z : ℤ) → unsigned_abs (sign_of side *ℤ z) ≡ unsigned_abs z
same-abs Under (pos n) = omega (arith, ints)
same-abs Under (negsuc n) = omega (arith, ints)
same-abs Over z = ap unsigned_abs (let h : pos 1 *ℤ z ≡ z = omega (arith, ints) in h)

-- ---- of any quantity

-- a line's equation is the quantity's writing
pub line_writing : (p : Problem) (at : List Mark) (quantity : (ℕ → ℤ) → ℤ) (own : ℕ) (by : RowName → ℤ) (num : ℤ) (den : ℕ) → IsWhole p → IsLineEquation p at quantity own by num den → IsWritingOf p at quantity own (mark_form by (lines p)) num den
line_writing p at quantity own by num den whole e = record {
  scale_positive = e.own_positive;
  den_positive = e.den_positive;
  outside = form-outside p at by whole e.outside;
  holds = λ x solves. ap (λ (z : ℤ). pos den *ℤ (pos own *ℤ quantity x.num -ℤ z)) (form-value by x.num (lines p)) ∙ e.holds x solves;
  lowest = λ k h n. e.lowest k (factor-of k own n.0 n.1)
      (All-from_recursion (λ l. k ∣ unsigned_abs (by l.name)) (lines p)
      (each-impl (λ l. coefficient (place_of l.name Over) (mark_form by (lines p)) ≡ pos 1 *ℤ by l.name) _ (lines p)
      (λ l c. let d = h (place_of l.name Over) in divisor k (by l.name) d.0 ((let o : by l.name ≡ pos 1 *ℤ by l.name = omega (arith, ints) in o) ∙ sym c ∙ d.1))
      (each-coefficient by Over (lines p) (lines_apart p whole))));
}

-- it has the value of its equation
pub line_value : (p : Problem) (at : List Mark) (quantity : (ℕ → ℤ) → ℤ) (own : ℕ) (by : RowName → ℤ) (num : ℤ) (den : ℕ) → IsWhole p → IsCorner p at → IsLineEquation p at quantity own by num den → HasValue p at quantity num den
line_value p at quantity own by num den whole corner e =
    (corner.point, corner.stands, *ℤ_comm (quantity corner.point.num) (pos den) ∙ value_there p at quantity own (mark_form by (lines p)) num den corner.point (line_writing p at quantity own by num den whole e) corner.stands)

-- ---- of an inside mark

-- how a mark stands to the deviation and the other mark
pub side-value : (name : RowName) (side : Side) (x : ℕ → ℤ) → x (place_of name side) ≡ x (place_of name (other_side side)) +ℤ sign_of side *ℤ deviation name x
side-value name Under x = omega (arith, ints)
side-value name Over x = omega (arith, ints)

signed-sum : (s : ℤ) (by : RowName → ℤ) (x : ℕ → ℤ) (ls : List Line) → sum_of (λ l. (s *ℤ by l.name) *ℤ deviation l.name x) ls ≡ s *ℤ sum_of (λ l. by l.name *ℤ deviation l.name x) ls
signed-sum s by x ls =
    sum-cong (λ l. (s *ℤ by l.name) *ℤ deviation l.name x) (λ l. s *ℤ (by l.name *ℤ deviation l.name x)) ls (λ l. mul_assoc_ℤ s (by l.name) (deviation l.name x))
    ∙ mul-sum s (λ l. by l.name *ℤ deviation l.name x) ls

-- den*(own*dev - sum) = own*(num*one) gives that of the mark m = o + s*dev
signed-parts : (den own : ℕ) (s m o dev sum num one : ℤ) → m ≡ o +ℤ s *ℤ dev → pos den *ℤ (pos own *ℤ dev -ℤ sum) ≡ pos own *ℤ (num *ℤ one) → pos den *ℤ (pos own *ℤ m -ℤ (pos own *ℤ o +ℤ s *ℤ sum)) ≡ pos own *ℤ ((s *ℤ num) *ℤ one)
signed-parts den own s m o dev sum num one e h =
    let a : pos own *ℤ m ≡ pos own *ℤ o +ℤ s *ℤ (pos own *ℤ dev) = ap (λ (z : ℤ). pos own *ℤ z) e ∙ mul-add_left (pos own) o (s *ℤ dev) ∙ ap (λ (z : ℤ). pos own *ℤ o +ℤ z) (mul_left_comm_ℤ (pos own) s dev) in
    let b = mul-sub_left s (pos own *ℤ dev) sum in
    let inner : pos own *ℤ m -ℤ (pos own *ℤ o +ℤ s *ℤ sum) ≡ s *ℤ (pos own *ℤ dev -ℤ sum) = omega (arith, ints, a, b) in
    ap (λ (z : ℤ). pos den *ℤ z) inner ∙ mul_left_comm_ℤ (pos den) s (pos own *ℤ dev -ℤ sum) ∙ ap (λ (z : ℤ). s *ℤ z) h ∙ mul_left_comm_ℤ s (pos own) (num *ℤ one)
    ∙ ap (λ (z : ℤ). pos own *ℤ z) (sym (mul_assoc_ℤ s num one))

signed-some : (s z : ℤ) → s *ℤ z ≢ pos 0 → z ≢ pos 0
signed-some s z some e = some (ap (λ (t : ℤ). s *ℤ t) e ∙ mul-zero_ℤ s)

pub signed-outside : (p : Problem) (at : List Mark) (s : ℤ) (by : RowName → ℤ) → All (λ l. by l.name ≢ pos 0 → IsOutsideLine at l.name) (lines p) → All (λ l. s *ℤ by l.name ≢ pos 0 → IsOutsideLine at l.name) (lines p)
signed-outside p at s by outside = All-from_recursion (λ l. s *ℤ by l.name ≢ pos 0 → IsOutsideLine at l.name) (lines p) (each-impl (λ l. by l.name ≢ pos 0 → IsOutsideLine at l.name) (λ l. s *ℤ by l.name ≢ pos 0 → IsOutsideLine at l.name) (lines p) (λ l h some. h (signed-some s (by l.name) some)) (recursion_from_All _ (lines p) outside))

pub inside-other : (side : Side) (name : RowName) (own : ℕ) (by : RowName → ℤ) (ls : List Line) (v : ℕ) → place_of name (other_side side) ≢ v → coefficient v (inside_form side name own by ls) ≡ coefficient v (mark_form (λ n. sign_of side *ℤ by n) ls)
inside-other side name own by ls v ne = ap (λ (z : ℤ). z +ℤ coefficient v (mark_form (λ n. sign_of side *ℤ by n) ls)) (cond_other (place_of name (other_side side)) v (pos own) ne) ∙ zero-add_ℤ _

inside-outside : (p : Problem) (at : List Mark) (side : Side) (name : RowName) (own : ℕ) (by : RowName → ℤ) → IsWhole p → IsCorner p at → IsIn (place_of name side) at → All (λ l. by l.name ≢ pos 0 → IsOutsideLine at l.name) (lines p)
    → (v : ℕ) → coefficient v (inside_form side name own by (lines p)) ≢ pos 0 → Contains (map place (marks_of (lines p))) v × (IsIn v at → ⊥)
inside-outside p at side name own by whole corner inside outside v some =
    elim (cases_eq (place_of name (other_side side)) v) [
      | inl e ↦ subst (λ (c : ℕ). Contains (map place (marks_of (lines p))) c × (IsIn c at → ⊥)) e (named-mark p name (other_side side) (inside-named p at name side corner inside), other-out p at name side whole corner inside)
      | inr n ↦ form-outside p at (λ k. sign_of side *ℤ by k) whole (signed-outside p at (sign_of side) by outside) v (λ z. some (inside-other side name own by (lines p) v n ∙ z))
    ]

inside-divides : (p : Problem) (side : Side) (name : RowName) (own : ℕ) (by : RowName → ℤ) (k : ℕ) (l : Line) → by name ≡ pos 0 → coefficient (place_of l.name Over) (mark_form (λ n. sign_of side *ℤ by n) (lines p)) ≡ pos 1 *ℤ (sign_of side *ℤ by l.name)
    → ((v : ℕ) → (z : ℤ) × (coefficient v (inside_form side name own by (lines p)) ≡ pos k *ℤ z)) → k ∣ unsigned_abs (by l.name)
inside-divides p side name own by k l none c h =
    elim (cases_eq (place_of name (other_side side)) (place_of l.name Over)) [
      | inl e ↦ no-part k (by l.name) (ap by (sym (same-name name l.name (other_side side) Over e)) ∙ none)
      | inr n ↦
          let d = h (place_of l.name Over) in
          let signed : sign_of side *ℤ by l.name ≡ pos k *ℤ d.0 = (let o : sign_of side *ℤ by l.name ≡ pos 1 *ℤ (sign_of side *ℤ by l.name) = omega (arith, ints) in o) ∙ sym c ∙ sym (inside-other side name own by (lines p) (place_of l.name Over) n) ∙ d.1 in
          subst (λ (n : ℕ). k ∣ n) (same-abs side (by l.name)) (divisor k (sign_of side *ℤ by l.name) d.0 signed)
    ]

-- the equation of an inside line's deviation gives the writing of its inside mark
pub mark_writing : (p : Problem) (at : List Mark) (name : RowName) (side : Side) (own : ℕ) (by : RowName → ℤ) (num : ℤ) (den : ℕ) → IsWhole p → IsCorner p at → IsIn (place_of name side) at → IsLineEquation p at (deviation name) own by num den
    → IsWritingOf p at (λ x. x (place_of name side)) own (inside_form side name own by (lines p)) (sign_of side *ℤ num) den
mark_writing p at name side own by num den whole corner inside e =
    let none : by name ≡ pos 0 = none-inside p at by name side e.outside corner inside in
    record {
      scale_positive = e.own_positive;
      den_positive = e.den_positive;
      outside = inside-outside p at side name own by whole corner inside e.outside;
      holds = λ x solves.
          ap (λ (z : ℤ). pos den *ℤ (pos own *ℤ x.num (place_of name side) -ℤ (pos own *ℤ x.num (place_of name (other_side side)) +ℤ z)))
          (form-value (λ n. sign_of side *ℤ by n) x.num (lines p) ∙ signed-sum (sign_of side) by x.num (lines p))
          ∙ signed-parts den own (sign_of side) (x.num (place_of name side)) (x.num (place_of name (other_side side))) (deviation name x.num) (sum_of (λ l. by l.name *ℤ deviation l.name x.num) (lines p)) num (x.num one_column)
          (side-value name side x.num) (e.holds x solves);
      lowest = λ k h n. e.lowest k (factor-of k own n.0 n.1)
          (All-from_recursion (λ l. k ∣ unsigned_abs (by l.name)) (lines p)
          (each-impl (λ l. coefficient (place_of l.name Over) (mark_form (λ n. sign_of side *ℤ by n) (lines p)) ≡ pos 1 *ℤ (sign_of side *ℤ by l.name)) _ (lines p)
          (λ l c. inside-divides p side name own by k l none c h)
          (each-coefficient (λ n. sign_of side *ℤ by n) Over (lines p) (lines_apart p whole))));
    }

pub mark_value : (p : Problem) (at : List Mark) (name : RowName) (side : Side) (own : ℕ) (by : RowName → ℤ) (num : ℤ) (den : ℕ) → IsWhole p → IsCorner p at → IsIn (place_of name side) at → IsLineEquation p at (deviation name) own by num den
    → HasValue p at (λ x. x (place_of name side)) (sign_of side *ℤ num) den
mark_value p at name side own by num den whole corner inside e = (
  corner.point,
  corner.stands,
  *ℤ_comm (corner.point.num (place_of name side)) (pos den)
      ∙ value_there p at (λ x. x (place_of name side)) own (inside_form side name own by (lines p)) (sign_of side *ℤ num) den corner.point (mark_writing p at name side own by num den whole corner inside e) corner.stands,
)

-- ---- the coefficients

pub mark_coefficients : (p : Problem) (by : RowName → ℤ) (side : Side) → IsWhole p → All (λ l. coefficient (place_of l.name side) (mark_form by (lines p)) ≡ sign_of side *ℤ by l.name) (lines p)
mark_coefficients p by side whole = All-from_recursion (λ l. coefficient (place_of l.name side) (mark_form by (lines p)) ≡ sign_of side *ℤ by l.name) (lines p) (each-coefficient by side (lines p) (lines_apart p whole))

pub inside_coefficients : (p : Problem) (side : Side) (name : RowName) (own : ℕ) (by : RowName → ℤ) (at : Side) → IsWhole p
    → All (λ l. l.name ≢ name → coefficient (place_of l.name at) (inside_form side name own by (lines p)) ≡ sign_of at *ℤ (sign_of side *ℤ by l.name)) (lines p)
inside_coefficients p side name own by at whole =
    All-from_recursion (λ l. l.name ≢ name → coefficient (place_of l.name at) (inside_form side name own by (lines p)) ≡ sign_of at *ℤ (sign_of side *ℤ by l.name)) (lines p)
    (each-impl (λ l. coefficient (place_of l.name at) (mark_form (λ n. sign_of side *ℤ by n) (lines p)) ≡ sign_of at *ℤ (sign_of side *ℤ by l.name)) _ (lines p)
    (λ l c ne. inside-other side name own by (lines p) (place_of l.name at) (λ e. ne (sym (same-name name l.name (other_side side) at e))) ∙ c)
    (each-coefficient (λ n. sign_of side *ℤ by n) at (lines p) (lines_apart p whole)))

-- at the other mark stands `own`
pub other_coefficient : (p : Problem) (at : List Mark) (name : RowName) (side : Side) (own : ℕ) (by : RowName → ℤ) (num : ℤ) (den : ℕ) → IsWhole p → IsCorner p at → IsIn (place_of name side) at → IsLineEquation p at (deviation name) own by num den
    → coefficient (place_of name (other_side side)) (inside_form side name own by (lines p)) ≡ pos own
other_coefficient p at name side own by num den whole corner inside e =
    let none : by name ≡ pos 0 = none-inside p at by name side e.outside corner inside in
    let c : coefficient (place_of name (other_side side)) (mark_form (λ n. sign_of side *ℤ by n) (lines p)) ≡ sign_of (other_side side) *ℤ (sign_of side *ℤ by name) =
    at-name (λ k. coefficient (place_of k (other_side side)) (mark_form (λ n. sign_of side *ℤ by n) (lines p)) ≡ sign_of (other_side side) *ℤ (sign_of side *ℤ by k)) name (lines p) (inside-named p at name side corner inside)
    (each-coefficient (λ n. sign_of side *ℤ by n) (other_side side) (lines p) (lines_apart p whole)) in
    ap (λ (z : ℤ). z +ℤ coefficient (place_of name (other_side side)) (mark_form (λ n. sign_of side *ℤ by n) (lines p))) (cond_same (place_of name (other_side side)) (place_of name (other_side side)) (pos own) refl)
    ∙ at-zero (pos own) (coefficient (place_of name (other_side side)) (mark_form (λ n. sign_of side *ℤ by n) (lines p)))
    (c ∙ ap (λ (z : ℤ). sign_of (other_side side) *ℤ (sign_of side *ℤ z)) none ∙ ap (λ (z : ℤ). sign_of (other_side side) *ℤ z) (mul-zero_ℤ (sign_of side)) ∙ mul-zero_ℤ (sign_of (other_side side)))
