-- The next entries of two rows.
use Rattle.std.proofs.Common.{◌≡◌, ℕ, ◌+◌, ◌<◌, ◌^◌, length, get_or, List, ℤ, pos, sym, subst, ap, arith, ◌⊎◌, inl, inr}
use Rattle.std.specs.Prelude.{unsigned_abs}
use Rattle.row_core.specs.declared.walk.Place.{Place}
use Rattle.row_core.specs.declared.walk.RowsRead.{RowsRead}
use Rattle.row_core.specs.Rows.{Term, IsRising}
use Rattle.row_core.specs.Walks.{IsRowRead, IsLowestOf, column_at, from_left, from_right, from_both}
use Rattle.row_core.proofs.Sizes.{small_product}
use Rattle.row_core.proofs.Walks.{nothing, at_place, entry_read, past_read}

-- a row's next entry, whose number has 64 bits
pub next_read : (row : List Term) (i : ℕ) (t : Term) → IsRising row → i < length row → t ≡ get_or row i t → unsigned_abs t.by < 2 ^ 64 → IsRowRead row i t.col t.by (i + 1)
next_read row i t rising within is size =
    let here : t ≡ get_or row i nothing = at_place row i t within is in
    entry_read row i t rising within here (λ k factor. small_product k t.by row i factor within (ap (λ (s : Term). s.by) here) size)

pub left_only_read : (row : List Term) (at : Place) (t : Term) (x : RowsRead) → IsRising row → at.left < length row → t ≡ get_or row at.left t → unsigned_abs x.left < 2 ^ 64
    → x ≡ from_left at t → IsRowRead row at.left x.col x.left x.next.left
left_only_read row at t x rising within is size same =
    let by : unsigned_abs x.left ≡ unsigned_abs t.by = ap (λ (y : RowsRead). unsigned_abs y.left) same in
    subst (λ (y : RowsRead). IsRowRead row at.left y.col y.left y.next.left) (sym same) (next_read row at.left t rising within is (omega (arith, size, by)))

pub right_only_read : (row : List Term) (at : Place) (t : Term) (x : RowsRead) → IsRising row → at.right < length row → t ≡ get_or row at.right t → unsigned_abs x.right < 2 ^ 64
    → x ≡ from_right at t → IsRowRead row at.right x.col x.right x.next.right
right_only_read row at t x rising within is size same =
    let by : unsigned_abs x.right ≡ unsigned_abs t.by = ap (λ (y : RowsRead). unsigned_abs y.right) same in
    subst (λ (y : RowsRead). IsRowRead row at.right y.col y.right y.next.right) (sym same) (next_read row at.right t rising within is (omega (arith, size, by)))

-- the other row has nothing at the column
pub left_passed : (row : List Term) (at : Place) (t : Term) (x : RowsRead) → IsRising row → (at.left < length row → t.col < column_at row at.left)
    → x ≡ from_right at t → IsRowRead row at.left x.col x.left x.next.left
left_passed row at t x rising past same =
    subst (λ (y : RowsRead). IsRowRead row at.left y.col y.left y.next.left) (sym same) (past_read row at.left t.col rising past)

pub right_passed : (row : List Term) (at : Place) (t : Term) (x : RowsRead) → IsRising row → (at.right < length row → t.col < column_at row at.right)
    → x ≡ from_left at t → IsRowRead row at.right x.col x.right x.next.right
right_passed row at t x rising past same =
    subst (λ (y : RowsRead). IsRowRead row at.right y.col y.right y.next.right) (sym same) (past_read row at.right t.col rising past)

column_is : (row : List Term) (i : ℕ) (t : Term) → i < length row → t ≡ get_or row i t → t.col ≡ column_at row i
column_is row i t within is = ap (λ (s : Term). s.col) (at_place row i t within is)

pub lowest_left : (row : List Term) (at : Place) (s t : Term) (x : RowsRead) → IsRising row → at.left < length row → s ≡ get_or row at.left s → unsigned_abs x.left < 2 ^ 64
    → IsLowestOf at s t x → IsRowRead row at.left x.col x.left x.next.left
lowest_left row at s t x rising within is size low =
    let col : s.col ≡ column_at row at.left = column_is row at.left s within is in
    elim low [
      | inl l ↦ left_only_read row at s x rising within is size l.1
      | inr (inl r) ↦ left_passed row at t x rising (λ inside. omega (arith, r.0, col)) r.1
      | inr (inr b) ↦
          let by : unsigned_abs x.left ≡ unsigned_abs s.by = ap (λ (y : RowsRead). unsigned_abs y.left) b.1 in
          subst (λ (y : RowsRead). IsRowRead row at.left y.col y.left y.next.left) (sym b.1) (next_read row at.left s rising within is (omega (arith, size, by)))
    ]

pub lowest_right : (row : List Term) (at : Place) (s t : Term) (x : RowsRead) → IsRising row → at.right < length row → t ≡ get_or row at.right t → unsigned_abs x.right < 2 ^ 64
    → IsLowestOf at s t x → IsRowRead row at.right x.col x.right x.next.right
lowest_right row at s t x rising within is size low =
    let col : t.col ≡ column_at row at.right = column_is row at.right t within is in
    elim low [
      | inl l ↦ right_passed row at s x rising (λ inside. omega (arith, l.0, col)) l.1
      | inr (inl r) ↦ right_only_read row at t x rising within is size r.1
      | inr (inr b) ↦
          let by : unsigned_abs x.right ≡ unsigned_abs t.by = ap (λ (y : RowsRead). unsigned_abs y.right) b.1 in
          subst (λ (y : RowsRead). IsRowRead row at.right y.col y.right y.next.right) (sym b.1)
          (subst (λ (q : ℕ). IsRowRead row at.right q t.by (at.right + 1)) (sym b.0) (next_read row at.right t rising within is (omega (arith, size, by))))
    ]
