-- Rows of whole numbers by column: a row says that the sum of by*col is 0.
use Rattle.std.specs.Prelude.{◌≡◌, ◌≢◌, ℕ, ◌<◌, cond, nat_eq, List, length, ℤ, pos, ◌+ℤ◌, ◌*ℤ◌}
use Rattle.std.specs.Prelude.{unsigned_abs, All, AllPairs}
use Prim.Native.Nat.{◌∣◌}
use Rattle.frac_core.specs.Fraction.{IsFitting}
use Rattle.frac_core.specs.Sums.{sum_of}

-- by*col
pub record Term : Type 0 where
  pub col : ℕ
  pub by : ℤ

-- the number at the column c
abbrev pub coefficient : ℕ → List Term → ℤ
coefficient c row = sum_of (λ t. cond (nat_eq t.col c) t.by (pos 0)) row

-- each column is below all later ones
abbrev pub IsRising : List Term → Type 0
IsRising row = AllPairs (λ s t. s.col < t.col) row

-- no number is 0
abbrev pub AllNonzero : List Term → Type 0
AllNonzero row = All (λ t. t.by ≢ pos 0) row

-- each number fits
abbrev pub AllFit : List Term → Type 0
AllFit row = All (λ t. IsFitting t.by) row

-- d divides each number
abbrev pub DividesAll : ℕ → List Term → Type 0
DividesAll d row = All (λ t. d ∣ unsigned_abs t.by) row

-- the columns rise, no number is 0, and the numbers have no common divisor but 1
pub record IsLowestRow (row : List Term) : Type 0 where
  pub rising : IsRising row
  pub nonzero : AllNonzero row
  pub coprime : (d : ℕ) → 0 < length row → DividesAll d row → d ≡ 1

-- in lowest terms, and fitting
pub record IsKeptRow (row : List Term) : Type 0 where
  pub lowest : IsLowestRow row
  pub fits : AllFit row

-- a factor above 0 times the row has these coefficients
pub record IsReduced (row : List Term) (whole : ℕ → ℤ) : Type 0 where
  pub factor : ℕ
  pub above : 0 < factor
  pub same : (c : ℕ) → pos factor *ℤ coefficient c row ≡ whole c

-- the row in lowest terms with these coefficients up to a factor does not fit
abbrev pub IsUnfit : (ℕ → ℤ) → Type 0
IsUnfit whole = (row : List Term) → IsLowestRow row → IsReduced row whole → AllFit row → ⊥

-- the coefficients of k*r + n*p
abbrev pub combination : ℤ → List Term → ℤ → List Term → ℕ → ℤ
combination k r n p c = k *ℤ coefficient c r +ℤ n *ℤ coefficient c p
