-- Fractions that need not be in lowest terms, as the code keeps them, and their sums doubled.
use Rattle.std.specs.Prelude.{◌≡◌, ◌≢◌, ℕ, AllPairs, ◌*◌, ◌<◌, ◌≤◌, ◌^◌, List, length, ℤ, pos, ◌+ℤ◌, ◌*ℤ◌}
use Rattle.std.specs.Prelude.{◌<ℤ◌, unsigned_abs, All}
use Rattle.frac_core.specs.Fraction.{Fraction}
use Rattle.compile_parts.specs.Fractions.{total}
use Rattle.compile_parts.specs.Shares.{IsOff}
use Rattle.constraint_compile.specs.Coefficients.Sums.{attr_at}
use Rattle.constraint_compile.specs.declared.line.nonzero.Piece.{Piece}
use Rattle.constraint_compile.specs.declared.line.nonzero.TheConstants.{DEN_BITS}

-- the fraction that the piece is
abbrev pub piece_value : Piece → Fraction
piece_value p = record { num = p.num; den = unsigned_abs p.den }

-- both parts of the piece are within their bounds, and its denominator is above 0
pub record IsPiece (p : Piece) : Type 0 where
  pub num : unsigned_abs p.num < 2 ^ 44
  pub above : pos 0 <ℤ p.den
  pub den : unsigned_abs p.den ≤ 2 ^ DEN_BITS

-- twice the sum of the pieces is the whole number and the sum of the rests, which is at most their count in
-- size
pub record AreDoubled (pieces : List Piece) (whole : ℤ) (rests : List Piece) : Type 0 where
  pub long : length rests ≡ length pieces
  pub kept : All IsPiece rests
  pub den : (total piece_value rests).den ≡ (total piece_value pieces).den
  pub value : whole *ℤ pos (total piece_value pieces).den +ℤ (total piece_value rests).num
      ≡ pos 2 *ℤ (total piece_value pieces).num
  pub low : unsigned_abs (total piece_value rests).num ≤ length pieces * (total piece_value pieces).den
  pub small : unsigned_abs whole ≤ length pieces * 2 ^ 45

-- the attributes are those of the first n whose coefficients aren't 0
pub record HasFound (b : ℕ → Fraction) (attrs : List ℕ) (n : ℕ) (found : List ℕ) : Type 0 where
  pub rising : AllPairs (λ v w. v < w) found
  pub below : All (λ a. (j : ℕ) → n ≤ j → j < length attrs → a < attr_at attrs j) found
  pub nonzero : All (λ v. (b v).num ≢ pos 0) found
  pub off : (v : ℕ) → IsOff found v → (i : ℕ) → i < n → attr_at attrs i ≡ v → (b v).num ≡ pos 0
