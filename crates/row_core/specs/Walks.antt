-- The columns of two rows, from the lowest up.
use Rattle.std.specs.Prelude.{◌≡◌, ◌≢◌, ℕ, ◌+◌, ◌-◌, ◌*◌, ◌<◌, ◌≤◌, ◌^◌, true, false, ◌&&◌, cond, nat_eq}
use Rattle.std.specs.Prelude.{List, [], ◌∷◌, ◌++◌, length, slice_index_or, ℤ, pos, ◌<ℤ◌, ◌+ℤ◌, ◌*ℤ◌}
use Rattle.std.specs.Prelude.{unsigned_abs, ◌⊎◌}
use Prim.Native.Nat.{◌∣◌}
use Rattle.frac_core.specs.Fraction.{IsFitting}
use Rattle.frac_core.specs.declared.frac.TheConstants.{PART_BOUND}
use Rattle.row_core.specs.Rows.{Term, AllFit, AllNonzero, IsRising, coefficient, combination}
use Rattle.row_core.specs.Combinations.{IsFactor}
use Rattle.row_core.specs.declared.walk.TheConstants.{NARROW_FACTOR, NARROW_PRODUCT}
use Rattle.row_core.specs.declared.walk.Sum.{Sum}
use Rattle.row_core.specs.declared.walk.Place.{Place}
use Rattle.row_core.specs.declared.walk.RowsRead.{RowsRead}
use Rattle.row_core.specs.declared.walk.Reading.{Reading}

-- small enough for the sum of two products and a factor to have 128 bits
abbrev pub IsSmallProduct : ℤ → ℤ → Type 0
IsSmallProduct k by = unsigned_abs (k *ℤ by) < 2 ^ 126 - 2 ^ 84

-- the factor is one, and the numbers fit unless it is 1 in size or 0
pub record IsFactorOf (k : ℤ) (row : List Term) : Type 0 where
  pub factor : IsFactor k
  pub room : AllFit row ⊎ (unsigned_abs k ≤ 1)

-- each factor is such a one of its row, and what is added is no larger than a factor may be
pub record HasSmallProducts (sum : Sum) : Type 0 where
  pub left : IsFactorOf sum.k sum.r.now
  pub right : IsFactorOf sum.n sum.p.now
  pub extra : IsFactor sum.extra

-- the columns of both rows rise
pub record HasRisingRows (sum : Sum) : Type 0 where
  pub left : IsRising sum.r.now
  pub right : IsRising sum.p.now

-- both rows rise, and the sum's numbers have 128 bits
pub record CanBeAdded (sum : Sum) : Type 0 where
  pub rising : HasRisingRows sum
  pub products : HasSmallProducts sum

-- the sum's number at the column c where that of the two rows is z
abbrev pub whole_of : Sum → ℕ → ℤ → ℤ
whole_of sum c z =
    cond (sum.leaves && nat_eq c sum.without.0) (pos 0) (z +ℤ cond (nat_eq c sum.at.0) sum.extra (pos 0))

-- the sum's numbers
abbrev pub whole : Sum → ℕ → ℤ
whole sum c = whole_of sum c (combination sum.k sum.r.now sum.n sum.p.now c)

-- the column at the row's place i, 0 past its end
abbrev pub column_at : List Term → ℕ → ℕ
column_at row i = (slice_index_or row i (record { col = 0; by = pos 0 })).col

-- the first i terms of the row are those below the column
pub record IsRead (row : List Term) (i floor : ℕ) : Type 0 where
  pub within : i ≤ length row
  pub before : (m : ℕ) → m < i → column_at row m < floor
  pub behind : (m : ℕ) → i ≤ m → m < length row → floor ≤ column_at row m

-- no more of the rows, whose columns rise, has been read than there is
pub record IsPlaceOf (sum : Sum) (at : Place) : Type 0 where
  pub rising : HasRisingRows sum
  pub left : at.left ≤ length sum.r.now
  pub right : at.right ≤ length sum.p.now

-- all below the column has been read, and nothing else
pub record AreRead (sum : Sum) (at : Place) (floor : ℕ) : Type 0 where
  pub left : IsRead sum.r.now at.left floor
  pub right : IsRead sum.p.now at.right floor
  pub added : at.is_added ≡ true → (sum.at.0 < floor) ⊎ (sum.extra ≡ pos 0)
  pub waiting : at.is_added ≡ false → floor ≤ sum.at.0

-- the row's place i has this column
abbrev pub HasNext : List Term → ℕ → ℕ → Type 0
HasNext row i col = (i < length row) × (col ≡ column_at row i)

-- the column is the lowest that has not been read
pub record IsFirst (sum : Sum) (at : Place) (col : ℕ) : Type 0 where
  pub left : at.left < length sum.r.now → col ≤ column_at sum.r.now at.left
  pub right : at.right < length sum.p.now → col ≤ column_at sum.p.now at.right
  pub waiting : at.is_added ≡ false → col ≤ sum.at.0
  pub one : HasNext sum.r.now at.left col
      ⊎ (HasNext sum.p.now at.right col ⊎ ((at.is_added ≡ false) × (col ≡ sum.at.0)))

-- all columns have been read
pub record IsEnd (sum : Sum) (at : Place) : Type 0 where
  pub left : length sum.r.now ≤ at.left
  pub right : length sum.p.now ≤ at.right
  pub added : at.is_added ≡ true

-- how many of the entries and of the numbers at one column have been read
abbrev pub steps : Place → ℕ
steps at = at.left + (at.right + cond at.is_added 1 0)

-- the row has this number at a column up to its next one, and then next terms have been read
pub record IsRowRead (row : List Term) (i col : ℕ) (by : ℤ) (next : ℕ) : Type 0 where
  pub first : i < length row → col ≤ column_at row i
  pub value : (floor : ℕ) → IsRead row i floor → floor ≤ col → by ≡ coefficient col row
  pub read : (floor : ℕ) → IsRead row i floor → floor ≤ col → IsRead row next (col + 1)
  pub small : (k : ℤ) → IsFactorOf k row → IsSmallProduct k by
  pub fits : AllFit row → IsFitting by
  pub further : i ≤ next
  pub here : i < length row → col ≡ column_at row i → i < next

-- the first row's next entry has been read, and the second has none at its column
abbrev pub from_left : Place → Term → RowsRead
from_left at t =
    record {
      col = t.col;
      left = t.by;
      right = pos 0;
      next = record { left = at.left + 1; right = at.right; is_added = at.is_added };
    }

-- the second row's next entry has been read, and the first has none at its column
abbrev pub from_right : Place → Term → RowsRead
from_right at t =
    record {
      col = t.col;
      left = pos 0;
      right = t.by;
      next = record { left = at.left; right = at.right + 1; is_added = at.is_added };
    }

-- the next entries of both rows have been read, which are at one column
abbrev pub from_both : Place → Term → Term → RowsRead
from_both at s t =
    record {
      col = s.col;
      left = s.by;
      right = t.by;
      next = record { left = at.left + 1; right = at.right + 1; is_added = at.is_added };
    }

-- of the two rows' next entries the lower one has been read, or both where they are at one column
abbrev pub IsLowestOf : Place → Term → Term → RowsRead → Type 0
IsLowestOf at s t x =
    ((s.col < t.col) × (x ≡ from_left at s))
    ⊎ (((t.col < s.col) × (x ≡ from_right at t))
    ⊎ ((s.col ≡ t.col) × (x ≡ from_both at s t)))

-- the number at one column alone has been read
abbrev pub alone : Place → ℕ → RowsRead
alone at col =
    record {
      col = col;
      left = pos 0;
      right = pos 0;
      next = record { left = at.left; right = at.right; is_added = true };
    }

-- the two rows have been read at the sum's lowest column
pub record IsSumRead (sum : Sum) (at : Place) (x : RowsRead) : Type 0 where
  pub left : IsRowRead sum.r.now at.left x.col x.left x.next.left
  pub right : IsRowRead sum.p.now at.right x.col x.right x.next.right
  pub first : IsFirst sum at x.col
  pub read : (floor : ℕ) → AreRead sum at floor → AreRead sum x.next (x.col + 1)
  pub further : steps at < steps x.next

-- the sum has this number at its lowest column that has not been read
pub record IsReading (sum : Sum) (at : Place) (x : Reading) : Type 0 where
  pub value : (floor : ℕ) → AreRead sum at floor → x.by ≡ whole sum x.col
  pub first : IsFirst sum at x.col
  pub read : (floor : ℕ) → AreRead sum at floor → AreRead sum x.next (x.col + 1)
  pub further : steps at < steps x.next

-- small enough for its product with a fitting number to be below NARROW_PRODUCT
abbrev pub IsNarrow : ℤ → Type 0
IsNarrow k = unsigned_abs k < NARROW_FACTOR

-- all its numbers have 64 bits where those of the rows fit
pub record IsNarrowSum (sum : Sum) : Type 0 where
  pub k : IsNarrow sum.k
  pub n : IsNarrow sum.n
  pub extra : unsigned_abs sum.extra < NARROW_PRODUCT

-- all numbers of the sum have 64 bits
pub record HasNarrowProducts (sum : Sum) : Type 0 where
  pub narrow : IsNarrowSum sum
  pub left : AllFit sum.r.now
  pub right : AllFit sum.p.now

-- d divides each of the numbers
abbrev pub DividesWhole : ℕ → (ℕ → ℤ) → Type 0
DividesWhole d whole = (c : ℕ) → d ∣ unsigned_abs (whole c)

-- the greatest common divisor of the numbers, or a number above 0 where all are 0
pub record IsDivisor (divisor : ℤ) (whole : ℕ → ℤ) : Type 0 where
  pub above : pos 0 <ℤ divisor
  pub divides : DividesWhole (unsigned_abs divisor) whole
  pub greatest : (d c : ℕ) → whole c ≢ pos 0 → DividesWhole d whole → d ∣ unsigned_abs divisor

-- the row has one more term, whose number times the divisor is this one, unless that is 0
abbrev pub IsPushed : ℤ → ℕ → ℤ → List Term → List Term → Type 0
IsPushed divisor col by old new =
    ((by ≡ pos 0) × (new ≡ old))
    ⊎ ((q : ℤ) × (by ≢ pos 0) × (divisor *ℤ q ≡ by) × IsFitting q
    × (new ≡ old ++ record { col = col; by = q } ∷ []))

-- the row has one more term with this number, unless that is 0
abbrev pub IsPut : ℕ → ℤ → List Term → List Term → Type 0
IsPut col by old new =
    ((by ≡ pos 0) × (new ≡ old))
    ⊎ ((by ≢ pos 0) × (new ≡ old ++ record { col = col; by = by } ∷ []))

-- the row has these numbers, its columns rise, no number is 0, and each fits
pub record IsWritten (row : List Term) (whole : ℕ → ℤ) : Type 0 where
  pub same : (c : ℕ) → coefficient c row ≡ whole c
  pub rising : IsRising row
  pub nonzero : AllNonzero row
  pub fits : AllFit row

-- the quotient does not fit
abbrev pub IsTooLarge : ℤ → ℤ → Type 0
IsTooLarge divisor by = unsigned_abs divisor * PART_BOUND ≤ unsigned_abs by
