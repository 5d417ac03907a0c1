-- Rows of slots in lowest terms as equations of lines.
use Rattle.std.proofs.Common.{◌≡◌, ◌≢◌, ◌∙◌, ℕ, zero, suc, ◌+◌, ◌*◌, ◌<◌, ◌≤◌, Bool, true, false, cond, nat_eq, length, get_or, List, [], ◌∷◌, refl, sym, ap, subst, arith, inl, inr, ℤ, pos, negsuc, neg_ℤ, ◌*ℤ◌, ◌<ℤ◌, unsigned_abs, All, Any, ne_eqb}
use Rattle.std.specs.Int.{◌∣◌}
use Rattle.std.proofs.lemmas.Bool.Decides.{nat_tests}
use Rattle.std.proofs.lemmas.Bool.{cases_Bool, cases_lt, cases_order}
use Rattle.std.proofs.lemmas.List.Elements.{All-cons, All-nil}
use Rattle.std.proofs.lemmas.List.Kept.{AllPairs-cons}
use Rattle.std.proofs.lemmas.Nat.Gcd.{dvd-zero}
use borrow.Author.Differences.{ints}
use Rattle.frac_core.specs.Fraction.{IsFitting}
use Rattle.frac_core.proofs.Integers.{mul-zero_ℤ, neg-neg, positive_from, sign_cases, zero_from_mul}
use Rattle.row_core.specs.Rows.{Term, coefficient, DividesAll, IsLowestRow, IsReduced, IsRising, IsUnfit}
use Rattle.frac_core.specs.declared.frac.TheConstants.{PART_BOUND}
use Rattle.row_core.proofs.Places.{absent, at-elsewhere, at-here, coefficient_at, number_of, of_coefficients}
use Rattle.problem_core.specs.declared.parts.RowName.{RowName}
use Rattle.problem_core.specs.Layout.{Line, lines}
use Rattle.corner_lines.specs.LineEquations.{AreReduced, IsUnfitLine}
use Rattle.corner_view.specs.declared.types.Owner.{Owner}
use Rattle.corner_view.specs.declared.types.Owner.TheVariants.{Level as LevelSlot, Attr as AttrSlot, Line as LineSlot}
use Rattle.corner_table.specs.Tables.{Lists, line_slot, problem_of, slot_at}
use Rattle.corner_table.specs.Kept.{AreSlots, IsLineSlot}
use Rattle.corner_writings.specs.Rows.{row_number}
use Rattle.corner_table.proofs.Readings.SlotFacts.{any_is}
use Rattle.frac_core.proofs.Quotients.{size_opposite}
use Rattle.frac_core.proofs.Numbers.{signed-not-zero as nonzero-signed, mul-neg}
use Rattle.frac_core.proofs.Bools.{nat_eq-self as refl_eqb}
use Rattle.corner_table.proofs.Basics.OwnerFacts.{line-like, past-slots, line-owned}

-- ---- numbers

-- a part of a number above 0
pub positive_part : (g n : ℕ) (z : ℤ) → 0 < n → pos g *ℤ z ≡ pos n → (low : ℕ) × (z ≡ pos low) × (0 < low) × (g * low ≡ n)
positive_part g n (pos low) above e =
    let k : g * low ≡ n = omega (arith, ints, e) in
    elim (cases_order low 0) [
      | inl none ↦ absurd (omega (arith, k, above, ap (λ m. g * m) none))
      | inr (inl less) ↦ absurd (omega (arith, less))
      | inr (inr more) ↦ (low, refl, more, k)
    ]
positive_part g n (negsuc m) above e =
    let up : pos 0 <ℤ (pos g *ℤ negsuc m) = subst (λ (z : ℤ). pos 0 <ℤ z) (sym e) (omega (arith, ints, above)) in
    absurd (omega (arith, ints, positive_from g (negsuc m) up))

-- ---- rows and columns

-- what divides each number of the row's columns divides all
pub divides_terms : (k : ℕ) (row : List Term) → IsRising row → ((c : ℕ) → coefficient c row ≢ pos 0 → k ∣ unsigned_abs (coefficient c row)) → ((i : ℕ) (d : Term) → i < length row → (get_or row i d).by ≢ pos 0) → DividesAll k row
divides_terms k row rising each nonzero = λ i d within.
    let here : coefficient (get_or row i d).col row ≡ (get_or row i d).by = coefficient_at row i d rising within in
    subst (λ (z : ℤ). k ∣ unsigned_abs z) here (each (get_or row i d).col (λ e. nonzero i d within (sym here ∙ e)))

-- ---- the numbers of lines

-- these numbers by slot are `own` at the slot w, and at each line's slot that of the line with the other sign
pub record AreTermsOf (t : Lists) (w : ℕ) (whole : ℕ → ℤ) (own : ℕ) (by : RowName → ℤ) : Type 0 where
  pub own_is : whole w ≡ pos own
  pub by_is : All (λ l. by l.name ≡ cond (nat_eq (line_slot t l.name) w) (pos 0) (neg_ℤ (whole (line_slot t l.name)))) (lines (problem_of t))
  pub columns : (c : ℕ) → whole c ≢ pos 0 → c ≢ w → Any (λ l. line_slot t l.name ≡ c) (lines (problem_of t))

scaled-cond : (g : ℕ) (x y : ℤ) (b : Bool) → pos g *ℤ x ≡ y → pos g *ℤ cond b (pos 0) (neg_ℤ x) ≡ cond b (pos 0) (neg_ℤ y)
scaled-cond g x y true e = mul-zero_ℤ (pos g)
scaled-cond g x y false e = mul-neg (pos g) x ∙ ap neg_ℤ e

pub other-slot : (a b : ℕ) (z : ℤ) → a ≢ b → cond (nat_eq a b) (pos 0) z ≡ z
other-slot a b z ne = ap (λ t. cond t (pos 0) z) (ne_eqb a b ne)

some-length : (w low : ℕ) (row : List Term) → coefficient w row ≡ pos low → 0 < low → 0 < length row
some-length w low [] e above = let k : pos 0 ≡ pos low = e in absurd (omega (arith, ints, k, above))
some-length w low (x ∷ row) e above = omega arith

pub some-whole : (g : ℕ) (z w : ℤ) → 0 < g → pos g *ℤ z ≡ w → z ≢ pos 0 → w ≢ pos 0
some-whole g z w above e some none = some (zero_from_mul g z above (e ∙ none))

-- what divides the own number and each line's divides the numbers of all columns
pub line-columns : (t : Lists) (w : ℕ) (whole : ℕ → ℤ) (own : ℕ) (by : RowName → ℤ) (row : List Term) (k low : ℕ) → AreTermsOf t w whole own by → (red : IsReduced row whole)
    → coefficient w row ≡ pos low → k ∣ low → All (λ l. k ∣ unsigned_abs (row_number t w row l.name)) (lines (problem_of t)) → (c : ℕ) → coefficient c row ≢ pos 0 → k ∣ unsigned_abs (coefficient c row)
line-columns t w whole own by row k low are red low_is divides each c some =
    elim (cases_Bool (nat_eq c w)) [
      | inl same ↦
          let e : c ≡ w = grind (arith, nat_tests) in
          subst (λ n. k ∣ n) (sym (ap (λ d. unsigned_abs (coefficient d row)) e ∙ ap unsigned_abs low_is)) divides
      | inr other ↦
          let ne : c ≢ w = grind (arith, nat_tests) in
          any_is (λ l. k ∣ unsigned_abs (row_number t w row l.name)) (λ l. line_slot t l.name ≡ c) (lines (problem_of t)) each (are.columns c (some-whole red.factor (coefficient c row) (whole c) red.above (red.same c) some) ne)
          (λ l d e. subst (λ n. k ∣ n)
          (ap unsigned_abs (other-slot (line_slot t l.name) w (neg_ℤ (coefficient (line_slot t l.name) row)) (λ z. ne (sym e ∙ z))) ∙ size_opposite (coefficient (line_slot t l.name) row) ∙ ap (λ d. unsigned_abs (coefficient d row)) e) d)
    ]

-- a row in lowest terms has the numbers in lowest terms
pub reduced_terms : (t : Lists) (w : ℕ) (whole : ℕ → ℤ) (own : ℕ) (by : RowName → ℤ) (row : List Term) → 0 < own → AreTermsOf t w whole own by → IsLowestRow row → IsReduced row whole
    → (low : ℕ) × (coefficient w row ≡ pos low) × AreReduced (lines (problem_of t)) own by low (row_number t w row)
reduced_terms t w whole own by row above are lowest red =
    let part = positive_part red.factor own (coefficient w row) above (red.same w ∙ are.own_is) in (
      part.0,
      part.1,
      record {
        factor = red.factor;
        factor_positive = red.above;
        low_positive = part.2;
        own_same = part.3;
        same = λ i d within.
            scaled-cond red.factor (coefficient (line_slot t (get_or (lines (problem_of t)) i d).name) row) (whole (line_slot t (get_or (lines (problem_of t)) i d).name))
            (nat_eq (line_slot t (get_or (lines (problem_of t)) i d).name) w) (red.same (line_slot t (get_or (lines (problem_of t)) i d).name)) ∙ sym (are.by_is i d within);
        lowest = λ k divides each.
            lowest.coprime k (some-length w part.0 row part.1 part.2)
            (divides_terms k row lowest.rising (line-columns t w whole own by row k part.0 are red part.1 divides each) (λ i d within. lowest.nonzero i d within));
      },
    )

-- ---- a row from its numbers

abbrev keep-some : ℤ → Term → List Term → List Term
keep-some (pos zero) t ts = ts
keep-some (pos (suc n)) t ts = t ∷ ts
keep-some (negsuc n) t ts = t ∷ ts

-- the columns from c on, so many of them, where the numbers are not 0
abbrev row_from : (ℕ → ℤ) → ℕ → ℕ → List Term
row_from f c zero = []
row_from f c (suc m) = keep-some (f c) (record { col = c; by = f c }) (row_from f (c + 1) m)

kept-or : (P : List Term → Type 0) (z : ℤ) (t : Term) (ts : List Term) → (z ≡ pos 0 → P ts) → (z ≢ pos 0 → P (t ∷ ts)) → P (keep-some z t ts)
kept-or P (pos zero) t ts none some = none refl
kept-or P (pos (suc n)) t ts none some = some (λ e. omega (arith, ints, e))
kept-or P (negsuc n) t ts none some = some (λ e. omega (arith, ints, e))

from-below : (f : ℕ → ℤ) (c m : ℕ) → All (λ t. c ≤ t.col) (row_from f c m)
from-below f c zero = All-nil (λ (t : Term). c ≤ t.col)
from-below f c (suc m) =
    let rest : All (λ t. c ≤ t.col) (row_from f (c + 1) m) = λ i d within. let k : c + 1 ≤ (get_or (row_from f (c + 1) m) i d).col = from-below f (c + 1) m i d within in omega (arith, k) in
    kept-or (λ ts. All (λ t. c ≤ t.col) ts) (f c) (record { col = c; by = f c }) (row_from f (c + 1) m) (λ e. rest)
    (λ e. All-cons (λ (t : Term). c ≤ t.col) (record { col = c; by = f c }) (row_from f (c + 1) m) (omega arith) rest)

from-rising : (f : ℕ → ℤ) (c m : ℕ) → IsRising (row_from f c m)
from-rising f c zero = λ i j d less within. absurd (omega (arith, within))
from-rising f c (suc m) =
    kept-or (λ ts. IsRising ts) (f c) (record { col = c; by = f c }) (row_from f (c + 1) m) (λ e. from-rising f (c + 1) m)
    (λ e. AllPairs-cons (λ (s t : Term). s.col < t.col) (record { col = c; by = f c }) (row_from f (c + 1) m)
    (λ i d within. let k : c + 1 ≤ (get_or (row_from f (c + 1) m) i d).col = from-below f (c + 1) m i d within in omega (arith, k)) (from-rising f (c + 1) m))

from-all : (P : ℤ → Type 0) (f : ℕ → ℤ) (c m : ℕ) → ((d : ℕ) → f d ≢ pos 0 → P (f d)) → All (λ t. P t.by) (row_from f c m)
from-all P f c zero h = All-nil (λ (t : Term). P t.by)
from-all P f c (suc m) h =
    kept-or (λ ts. All (λ t. P t.by) ts) (f c) (record { col = c; by = f c }) (row_from f (c + 1) m) (λ e. from-all P f (c + 1) m h)
    (λ e. All-cons (λ (t : Term). P t.by) (record { col = c; by = f c }) (row_from f (c + 1) m) (h c e) (from-all P f (c + 1) m h))

from-above : (f : ℕ → ℤ) (c m d : ℕ) → d < c → coefficient d (row_from f c m) ≡ pos 0
from-above f c m d less = absent d (row_from f c m) (λ i t within. let k : c ≤ (get_or (row_from f c m) i t).col = from-below f c m i t within in λ e. omega (arith, k, less, e))

from-coefficient : (f : ℕ → ℤ) (c m d : ℕ) → c ≤ d → d < c + m → coefficient d (row_from f c m) ≡ f d
from-coefficient f c zero d le less = absurd (omega (arith, le, less))
from-coefficient f c (suc m) d le less =
    elim (cases_order c d) [
      | inl same ↦
          let rest : coefficient d (row_from f (c + 1) m) ≡ pos 0 = from-above f (c + 1) m d (omega (arith, same)) in
          kept-or (λ ts. coefficient d ts ≡ f d) (f c) (record { col = c; by = f c }) (row_from f (c + 1) m) (λ e. rest ∙ sym e ∙ ap f same)
          (λ e.
          let first : number_of d (record { col = c; by = f c }) ≡ f c = at-here d (record { col = c; by = f c }) same in
          let same_f : f c ≡ f d = ap f same in
          omega (arith, ints, first, rest, same_f))
      | inr (inl below) ↦
          let rest : coefficient d (row_from f (c + 1) m) ≡ f d = from-coefficient f (c + 1) m d (omega (arith, below)) (omega (arith, less)) in
          kept-or (λ ts. coefficient d ts ≡ f d) (f c) (record { col = c; by = f c }) (row_from f (c + 1) m) (λ e. rest)
          (λ e.
          let first : number_of d (record { col = c; by = f c }) ≡ pos 0 = at-elsewhere d (record { col = c; by = f c }) (omega (arith, below)) in
          omega (arith, ints, first, rest))
      | inr (inr above) ↦ absurd (omega (arith, above, le))
    ]

from-past : (f : ℕ → ℤ) (c m d : ℕ) → c + m ≤ d → coefficient d (row_from f c m) ≡ pos 0
from-past f c zero d le = refl
from-past f c (suc m) d le =
    let rest : coefficient d (row_from f (c + 1) m) ≡ pos 0 = from-past f (c + 1) m d (omega (arith, le)) in
    kept-or (λ ts. coefficient d ts ≡ pos 0) (f c) (record { col = c; by = f c }) (row_from f (c + 1) m) (λ e. rest)
    (λ e.
    let first : number_of d (record { col = c; by = f c }) ≡ pos 0 = at-elsewhere d (record { col = c; by = f c }) (omega (arith, le)) in
    omega (arith, ints, first, rest))

-- ---- numbers that do not fit

abbrev owner-part : (RowName → ℤ) → Owner → ℤ
owner-part part LevelSlot = pos 0
owner-part part (AttrSlot attr) = pos 0
owner-part part (LineSlot name) = neg_ℤ (part name)

-- the numbers by slot, of `low` at w and the parts of the lines
abbrev slot-part : Lists → ℕ → ℕ → (RowName → ℤ) → ℕ → ℤ
slot-part t w low part c = cond (nat_eq c w) (pos low) (owner-part part (slot_at t c).owner)

-- a column of the whole that is no line's is 0
no-line : (t : Lists) (w : ℕ) (whole : ℕ → ℤ) (own : ℕ) (by : RowName → ℤ) (c : ℕ) → AreSlots t → AreTermsOf t w whole own by → c ≢ w → (line-like (slot_at t c).owner → ⊥) → whole c ≡ pos 0
no-line t w whole own by c slots are ne other =
    elim (sign_cases (whole c)) [
      | inl none ↦ none
      | inr signed ↦ absurd (any_is (IsLineSlot t) (λ l. line_slot t l.name ≡ c) (lines (problem_of t)) slots.lines (are.columns c (nonzero-signed (whole c) signed) ne)
          (λ l s e. other (subst line-like (sym (ap (λ d. (slot_at t d).owner) (sym e) ∙ s.owner)) tt)))
    ]

owner-same : (t : Lists) (w : ℕ) (whole : ℕ → ℤ) (own : ℕ) (by : RowName → ℤ) (low : ℕ) (part : RowName → ℤ) (c : ℕ) (o : Owner) → AreSlots t → AreTermsOf t w whole own by → (red : AreReduced (lines (problem_of t)) own by low part)
    → c ≢ w → (slot_at t c).owner ≡ o → pos red.factor *ℤ owner-part part o ≡ whole c
owner-same t w whole own by low part c LevelSlot slots are red ne e = mul-zero_ℤ (pos red.factor) ∙ sym (no-line t w whole own by c slots are ne (λ k. subst line-like e k))
owner-same t w whole own by low part c (AttrSlot attr) slots are red ne e = mul-zero_ℤ (pos red.factor) ∙ sym (no-line t w whole own by c slots are ne (λ k. subst line-like e k))
owner-same t w whole own by low part c (LineSlot name) slots are red ne e =
    let owned = line-owned t c name slots e in
    let same : pos red.factor *ℤ part name ≡ by name = any_is (λ l. pos red.factor *ℤ part l.name ≡ by l.name) (λ l. l.name ≡ name) (lines (problem_of t)) red.same owned.0 (λ l h n. subst (λ (m : RowName). pos red.factor *ℤ part m ≡ by m) n h) in
    let is : by name ≡ cond (nat_eq (line_slot t name) w) (pos 0) (neg_ℤ (whole (line_slot t name))) =
    any_is (λ l. by l.name ≡ cond (nat_eq (line_slot t l.name) w) (pos 0) (neg_ℤ (whole (line_slot t l.name)))) (λ l. l.name ≡ name) (lines (problem_of t)) are.by_is owned.0
    (λ l h n. subst (λ (m : RowName). by m ≡ cond (nat_eq (line_slot t m) w) (pos 0) (neg_ℤ (whole (line_slot t m)))) n h) in
    let there : by name ≡ neg_ℤ (whole c) = is ∙ other-slot (line_slot t name) w (neg_ℤ (whole (line_slot t name))) (λ z. ne (sym owned.1 ∙ z)) ∙ ap (λ d. neg_ℤ (whole d)) owned.1 in
    mul-neg (pos red.factor) (part name) ∙ ap neg_ℤ (same ∙ there) ∙ neg-neg (whole c)

slot-same : (t : Lists) (w : ℕ) (whole : ℕ → ℤ) (own : ℕ) (by : RowName → ℤ) (low : ℕ) (part : RowName → ℤ) (c : ℕ) → AreSlots t → AreTermsOf t w whole own by → (red : AreReduced (lines (problem_of t)) own by low part)
    → pos red.factor *ℤ slot-part t w low part c ≡ whole c
slot-same t w whole own by low part c slots are red =
    elim (cases_Bool (nat_eq c w)) [
      | inl same ↦
          let e : c ≡ w = grind (arith, nat_tests) in
          ap (λ b. pos red.factor *ℤ cond b (pos low) (owner-part part (slot_at t c).owner)) same ∙ ap pos red.own_same ∙ sym are.own_is ∙ ap whole (sym e)
      | inr other ↦
          let ne : c ≢ w = grind (arith, nat_tests) in
          ap (λ b. pos red.factor *ℤ cond b (pos low) (owner-part part (slot_at t c).owner)) other ∙ owner-same t w whole own by low part c (slot_at t c).owner slots are red ne refl
    ]

abbrev slot-row : Lists → ℕ → ℕ → (RowName → ℤ) → List Term
slot-row t w low part = row_from (slot-part t w low part) 0 (length t.slots + (w + 1))

row-part : (t : Lists) (w low : ℕ) (part : RowName → ℤ) (c : ℕ) → coefficient c (slot-row t w low part) ≡ slot-part t w low part c
row-part t w low part c =
    elim (cases_lt c (length t.slots + (w + 1))) [
      | inl within ↦ from-coefficient (slot-part t w low part) 0 (length t.slots + (w + 1)) c (omega arith) (omega (arith, within))
      | inr past ↦
          from-past (slot-part t w low part) 0 (length t.slots + (w + 1)) c (omega (arith, past))
          ∙ sym (ap (λ b. cond b (pos low) (owner-part part (slot_at t c).owner)) (ne_eqb c w (λ e. omega (arith, past, e))) ∙ ap (owner-part part) (past-slots t c (omega (arith, past))))
    ]

owner-fits : (t : Lists) (part : RowName → ℤ) (c : ℕ) (o : Owner) → AreSlots t → All (λ l. IsFitting (part l.name)) (lines (problem_of t)) → (slot_at t c).owner ≡ o → IsFitting (owner-part part o)
owner-fits t part c LevelSlot slots fits e = omega arith
owner-fits t part c (AttrSlot attr) slots fits e = omega arith
owner-fits t part c (LineSlot name) slots fits e =
    any_is (λ l. IsFitting (part l.name)) (λ l. l.name ≡ name) (lines (problem_of t)) fits (line-owned t c name slots e).0
    (λ l h n. subst (λ k. k < PART_BOUND) (sym (size_opposite (part name))) (subst (λ (m : RowName). IsFitting (part m)) n h))

slot-fits : (t : Lists) (w low : ℕ) (part : RowName → ℤ) (c : ℕ) → AreSlots t → IsFitting (pos low) → All (λ l. IsFitting (part l.name)) (lines (problem_of t)) → IsFitting (slot-part t w low part c)
slot-fits t w low part c slots own fits =
    elim (cases_Bool (nat_eq c w)) [
      | inl same ↦ subst (λ (b : Bool). IsFitting (cond b (pos low) (owner-part part (slot_at t c).owner))) (sym same) own
      | inr other ↦ subst (λ (b : Bool). IsFitting (cond b (pos low) (owner-part part (slot_at t c).owner))) (sym other) (owner-fits t part c (slot_at t c).owner slots fits refl)
    ]

part-divides : (t : Lists) (w : ℕ) (whole : ℕ → ℤ) (own : ℕ) (by : RowName → ℤ) (low : ℕ) (part : RowName → ℤ) (d : ℕ) (l : Line) → IsLineSlot t l → (red : AreReduced (lines (problem_of t)) own by low part)
    → pos red.factor *ℤ part l.name ≡ by l.name → by l.name ≡ cond (nat_eq (line_slot t l.name) w) (pos 0) (neg_ℤ (whole (line_slot t l.name)))
    → d ∣ unsigned_abs (slot-part t w low part (line_slot t l.name)) → d ∣ unsigned_abs (part l.name)
part-divides t w whole own by low part d l slot red same is divides =
    elim (cases_Bool (nat_eq (line_slot t l.name) w)) [
      | inl here ↦
          let none : part l.name ≡ pos 0 = zero_from_mul red.factor (part l.name) red.factor_positive (same ∙ is ∙ ap (λ b. cond b (pos 0) (neg_ℤ (whole (line_slot t l.name)))) here) in
          subst (λ (z : ℤ). d ∣ unsigned_abs z) (sym none) (dvd-zero d)
      | inr other ↦
          let e : slot-part t w low part (line_slot t l.name) ≡ neg_ℤ (part l.name) = ap (λ b. cond b (pos low) (owner-part part (slot_at t (line_slot t l.name)).owner)) other ∙ ap (owner-part part) slot.owner in
          subst (λ n. d ∣ n) (ap unsigned_abs e ∙ size_opposite (part l.name)) divides
    ]

slot-lowest : (t : Lists) (w : ℕ) (whole : ℕ → ℤ) (own : ℕ) (by : RowName → ℤ) (low : ℕ) (part : RowName → ℤ) → AreSlots t → AreTermsOf t w whole own by → AreReduced (lines (problem_of t)) own by low part → IsLowestRow (slot-row t w low part)
slot-lowest t w whole own by low part slots are red =
    let rising : IsRising (slot-row t w low part) = from-rising (slot-part t w low part) 0 (length t.slots + (w + 1)) in
    record {
      rising = rising;
      nonzero = from-all (λ z. z ≢ pos 0) (slot-part t w low part) 0 (length t.slots + (w + 1)) (λ d some. some);
      coprime = λ d some all.
          let each : (c : ℕ) → d ∣ unsigned_abs (slot-part t w low part c) = λ c. subst (λ (z : ℤ). d ∣ unsigned_abs z) (row-part t w low part c) (of_coefficients (λ z. d ∣ unsigned_abs z) (dvd-zero d) (slot-row t w low part) rising all c) in
          red.lowest d (subst (λ (z : ℤ). d ∣ unsigned_abs z) (ap (λ b. cond b (pos low) (owner-part part (slot_at t w).owner)) (refl_eqb w)) (each w))
          (λ i l within. part-divides t w whole own by low part d (get_or (lines (problem_of t)) i l) (slots.lines i l within) red (red.same i l within) (are.by_is i l within) (each (line_slot t (get_or (lines (problem_of t)) i l).name)));
    }

-- where no row in lowest terms with these numbers fits, the line's sum does not
pub unfit_terms : (t : Lists) (w : ℕ) (whole : ℕ → ℤ) (own : ℕ) (by : RowName → ℤ) (num : ℤ) (den : ℕ) → AreSlots t → AreTermsOf t w whole own by → IsUnfit whole → IsUnfitLine (problem_of t) own by num den
unfit_terms t w whole own by num den slots are unfit low part value red ratio low_fits fits kept =
    unfit (slot-row t w low part) (slot-lowest t w whole own by low part slots are red)
    (record { factor = red.factor; above = red.factor_positive; same = λ c. ap (λ (z : ℤ). pos red.factor *ℤ z) (row-part t w low part c) ∙ slot-same t w whole own by low part c slots are red })
    (from-all IsFitting (slot-part t w low part) 0 (length t.slots + (w + 1)) (λ c some. slot-fits t w low part c slots low_fits fits))
