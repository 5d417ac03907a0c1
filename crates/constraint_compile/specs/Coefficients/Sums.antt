-- Sums of terms as the code keeps them: whole numbers by attribute, over a common scale.
use Rattle.std.specs.Prelude.{◌≡◌, ◌≢◌, ℕ, ◌+◌, ◌*◌, ◌<◌, ◌≤◌, List, length, take, slice_index_or, ℤ}
use Rattle.std.specs.Prelude.{pos, ◌+ℤ◌, ◌*ℤ◌, unsigned_abs, All, AllPairs}
use Prim.Native.Nat.{◌∣◌}
use Rattle.frac_core.specs.Fraction.{Fraction}
use Rattle.problem_core.specs.declared.parts.Term.{Term as RowTerm}
use Rattle.problem_core.specs.Kept.{IsTerm}
use Rattle.problem_core.specs.Layout.{coefficient}
use Rattle.problem_core.specs.declared.limits.TheConstants.{COEFFICIENT_LIMIT, TERM_LIMIT}
use Rattle.view_tree.specs.Views.{LiveView}
use Rattle.script_text.specs.Meaning.{Term}
use Rattle.compile_parts.specs.Meaning.{sum_at}
use Rattle.compile_parts.specs.Addends.{Addend, first_of, with_addend}
use Rattle.compile_parts.specs.Fractions.{plus, IsOver, IsScale, AreSmall}
use Rattle.compile_parts.specs.Shares.{IsOff, share_fraction, form}
use Rattle.compile_parts.specs.declared.shares.Share.{Share}

-- the attribute at a place, and 0 past the end
abbrev pub attr_at : List ℕ → ℕ → ℕ
attr_at attrs i = slice_index_or attrs i 0

-- the number at a place, and 0 past the end
abbrev pub number_at : List ℤ → ℕ → ℤ
number_at numbers i = slice_index_or numbers i (pos 0)

-- the numbers over k are the coefficients of the attributes
abbrev pub AreOver : ℕ → (ℕ → Fraction) → List ℕ → List ℤ → Type 0
AreOver k b attrs numbers = (i : ℕ) → i < length attrs → IsOver k (b (attr_at attrs i)) (number_at numbers i)

-- b has these attributes alone, and no denominator is 0
pub record HasOnly (b : ℕ → Fraction) (attrs : List ℕ) : Type 0 where
  pub off : (v : ℕ) → IsOff attrs v → (b v).num ≡ pos 0
  pub above : (v : ℕ) → 0 < (b v).den

-- the invariant of the numbers, whatever their meaning
pub record AreKept (attrs : List ℕ) (scale : ℕ) (numbers : List ℤ) : Type 0 where
  pub long : length numbers ≡ length attrs
  pub above : 0 < scale
  pub small_scale : scale ≤ COEFFICIENT_LIMIT
  pub small : All (λ z. unsigned_abs z ≤ COEFFICIENT_LIMIT) numbers

-- the numbers over the scale are the coefficients b, and the scale is b's
pub record IsSum (b : ℕ → Fraction) (attrs : List ℕ) (scale : ℕ) (numbers : List ℤ) : Type 0 where
  pub only : HasOnly b attrs
  pub over : AreOver scale b attrs numbers
  pub is_scale : IsScale b scale

-- the coefficients with one more share
abbrev pub with_share : (ℕ → Fraction) → Share → ℕ → Fraction
with_share b s v = plus (b v) (share_fraction s v)

-- the number over k times the share's denominator, if z over k was the number before
abbrev pub with_share_number : ℤ → ℕ → Share → ℕ → ℤ
with_share_number z k s v = z *ℤ pos (s.by.den * 2) +ℤ s.by.num *ℤ (pos k *ℤ coefficient v (form s.of))

-- the share has no other attributes
abbrev pub IsCovered : List ℕ → Share → Type 0
IsCovered attrs s = (v : ℕ) → IsOff attrs v → (share_fraction s v).num ≡ pos 0

-- if the numbers over the scale are some coefficients, the next numbers over the next scale are those with
-- one more share
abbrev pub IsSumWithShare : List ℕ → Share → ℕ → List ℤ → ℕ → List ℤ → Type 0
IsSumWithShare attrs s scale numbers next_scale next = (b : ℕ → Fraction) → IsSum b attrs scale numbers
    → IsCovered attrs s → IsSum (with_share b s) attrs next_scale next

-- if the numbers over the scale are some coefficients, those with one more share aren't small
abbrev pub IsPastWithShare : List ℕ → Share → ℕ → List ℤ → Type 0
IsPastWithShare attrs s scale numbers = (b : ℕ → Fraction) → IsSum b attrs scale numbers
    → IsCovered attrs s → AreSmall (with_share b s) → ⊥

-- the addend has no other attributes
abbrev pub IsCoveredAddend : List ℕ → Addend → Type 0
IsCoveredAddend attrs a = (v : ℕ) → IsOff attrs v → (a.share v).num ≡ pos 0

-- if the numbers over the scale are some coefficients, the next numbers over the next scale are those with
-- one more addend
abbrev pub IsSumWithAddend : List ℕ → Addend → ℕ → List ℤ → ℕ → List ℤ → Type 0
IsSumWithAddend attrs a scale numbers next_scale next = (b : ℕ → Fraction) → IsSum b attrs scale numbers
    → IsCoveredAddend attrs a → IsSum (with_addend b a) attrs next_scale next

-- if the numbers over the scale are some coefficients, those with one more addend aren't small
abbrev pub IsPastWithAddend : List ℕ → Addend → ℕ → List ℤ → Type 0
IsPastWithAddend attrs a scale numbers = (b : ℕ → Fraction) → IsSum b attrs scale numbers
    → IsCoveredAddend attrs a → AreSmall (with_addend b a) → ⊥

-- a common divisor of the whole number and the others, which each of their common divisors divides, and so
-- for their multiples
pub record IsDivisor (whole : ℕ) (numbers : List ℤ) (divisor : ℕ) : Type 0 where
  pub of_whole : divisor ∣ whole
  pub of_each : All (λ z. divisor ∣ unsigned_abs z) numbers
  pub greatest : (x j : ℕ) → x ∣ whole * j → All (λ z. x ∣ unsigned_abs z * j) numbers → x ∣ divisor * j

-- the numbers are these times the divisor, and none is past the limit of coefficients
pub record AreDivided (wide : List ℤ) (divisor : ℤ) (numbers : List ℤ) : Type 0 where
  pub long : length numbers ≡ length wide
  pub each : (i : ℕ) → i < length wide → divisor *ℤ number_at numbers i ≡ number_at wide i
  pub small : All (λ z. unsigned_abs z ≤ COEFFICIENT_LIMIT) numbers

-- the numbers over 1 with the share added, none of which is past the limit of coefficients
pub record AreWhole (attrs : List ℕ) (numbers : List ℤ) (s : Share) (next : List ℤ) : Type 0 where
  pub long : length next ≡ length attrs
  pub each : (i : ℕ) → i < length attrs → pos 2 *ℤ number_at next i
      ≡ with_share_number (number_at numbers i) 1 s (attr_at attrs i)
  pub small : All (λ z. unsigned_abs z ≤ COEFFICIENT_LIMIT) next

-- one of the numbers divided is past the limit of coefficients
pub record IsPast (wide : List ℤ) (divisor : ℤ) : Type 0 where
  pub place : ℕ
  pub within : place < length wide
  pub past : unsigned_abs divisor * COEFFICIENT_LIMIT < unsigned_abs (number_at wide place)

-- the coefficients of the first n terms
abbrev pub first_sum : List LiveView → List Term → ℕ → ℕ → Fraction
first_sum views terms n = sum_at views (take n terms)

-- after each of the first n the sum has this scale, and is small
pub record AreScales (added : List Addend) (n : ℕ) (scales : List ℕ) : Type 0 where
  pub long : length scales ≡ n
  pub each : (i : ℕ) → i < n → IsScale (first_of added (i + 1)) (slice_index_or scales i 0)
  pub low : All (λ k. k ≤ COEFFICIENT_LIMIT) scales
  pub small : (i : ℕ) → i < n → AreSmall (first_of added (i + 1))

-- more attributes than a row may have terms have coefficients that aren't 0
pub record HasTooMany (b : ℕ → Fraction) : Type 0 where
  pub attrs : List ℕ
  pub rising : AllPairs (λ v w. v < w) attrs
  pub nonzero : All (λ v. (b v).num ≢ pos 0) attrs
  pub many : TERM_LIMIT < length attrs

-- the terms have the numbers of the first n attributes
pub record HasFirst (attrs : List ℕ) (numbers : List ℤ) (n : ℕ) (out : List RowTerm) : Type 0 where
  pub here : (i : ℕ) → i < n → coefficient (attr_at attrs i) out ≡ number_at numbers i
  pub none : (v : ℕ) → ((i : ℕ) → i < n → attr_at attrs i ≢ v) → coefficient v out ≡ pos 0
  pub below : All (λ t. (j : ℕ) → n ≤ j → j < length attrs → t.attr < attr_at attrs j) out
  pub terms : All IsTerm out
  pub rising : AllPairs (λ s t. s.attr < t.attr) out

-- the terms are those of the coefficients b over the scale
pub record AreTerms (b : ℕ → Fraction) (scale : ℕ) (terms : List RowTerm) : Type 0 where
  pub over : (v : ℕ) → IsOver scale (b v) (coefficient v terms)
  pub each : All IsTerm terms
  pub rising : AllPairs (λ s t. s.attr < t.attr) terms
