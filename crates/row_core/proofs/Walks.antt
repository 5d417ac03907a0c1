-- The reading of two rows from the lowest column up.
use Rattle.std.proofs.Common.{Option, Some, None, IfSome, ◌≡◌, ◌≢◌, ℕ, ◌+◌, ◌<◌, ◌≤◌, length, get_or, Bool, true, false, cond, nat_eq, List, ℤ, pos, ◌+ℤ◌, ◌*ℤ◌, sym, subst, refl, ap, ap₂, ◌∙◌, arith, ◌⊎◌, inl, inr, ne_eqb, eq-eqb}
use Rattle.std.specs.Prelude.{◌&&◌, unsigned_abs}
use Rattle.std.proofs.lemmas.List.{get_or_default}
use Rattle.std.proofs.lemmas.Bool.{cases_Bool, cases_lt}
use Rattle.std.proofs.lemmas.Bool.Decides.{nat_tests}
use Rattle.frac_core.proofs.Integers.{mul-zero_ℤ, add-zero_ℤ}
use Rattle.row_core.specs.declared.walk.Sum.{Sum}
use Rattle.row_core.specs.declared.walk.Place.{Place}
use Rattle.row_core.specs.Rows.{Term, coefficient, IsRising, combination}
use Rattle.row_core.specs.declared.walk.RowsRead.{RowsRead}
use Rattle.frac_core.specs.Fraction.{IsFitting}
use Rattle.row_core.specs.Walks.{IsFactorOf, IsRowRead, IsSumRead, HasNext, HasRisingRows, IsSmallProduct, IsRead, AreRead, IsFirst, IsEnd, column_at, whole, whole_of, steps}
use Rattle.row_core.proofs.Places.{absent, coefficient_at}
use Rattle.row_core.proofs.Patches.{none_either}
use Rattle.frac_core.proofs.Bools.{count-other as not_here, true-not-false as differ}

abbrev pub nothing : Term
nothing = record { col = 0; by = pos 0 }

rises : (row : List Term) (i m : ℕ) → IsRising row → i < m → m < length row → column_at row i < column_at row m
rises row i m rising less within = rising i m nothing less within

rises_from : (row : List Term) (i m : ℕ) → IsRising row → i ≤ m → m < length row → column_at row i ≤ column_at row m
rises_from row i m rising le within =
    elim (cases_lt i m) [
      | inl less ↦ omega (arith, rises row i m rising less within)
      | inr ge ↦
          let same : i ≡ m = omega arith in
          rw same (omega arith)
    ]

-- a term that was read
pub at_place : (row : List Term) (i : ℕ) (t : Term) → i < length row → t ≡ get_or row i t → t ≡ get_or row i nothing
at_place row i t h e = e ∙ get_or_default row i t nothing h

-- the row has an entry at the column
pub number_here : (row : List Term) (i c : ℕ) → IsRising row → i < length row → c ≡ column_at row i → coefficient c row ≡ (get_or row i nothing).by
number_here row i c rising within here = ap (λ (q : ℕ). coefficient q row) here ∙ coefficient_at row i nothing rising within

-- the row has none
pub read_past : (row : List Term) (i floor c : ℕ) → IsRising row → IsRead row i floor → floor ≤ c → (i < length row → c < column_at row i) → IsRead row i (c + 1)
read_past row i floor c rising is le past = record {
  within = is.within;
  before = λ m less. omega (arith, is.before m less, le);
  behind = λ m from inside. omega (arith, past (omega (arith, from, inside)), rises_from row i m rising from inside);
}

pub no_number : (row : List Term) (i floor c : ℕ) → IsRising row → IsRead row i floor → floor ≤ c → (i < length row → c < column_at row i) → coefficient c row ≡ pos 0
no_number row i floor c rising is le past =
    absent c row
    (λ k d inside same.
    let col : (get_or row k d).col ≡ column_at row k = ap (λ (t : Term). t.col) (get_or_default row k d nothing inside) in
    elim (cases_lt k i) [
      | inl below ↦ absurd (omega (arith, col, same, is.before k below, le))
      | inr from ↦ absurd (omega (arith, col, same, past (omega (arith, from, inside)), rises_from row i k rising from inside))
    ])

no_extra : (sum : Sum) (at : Place) (floor c : ℕ) → AreRead sum at floor → floor ≤ c → (at.is_added ≡ false → c < sum.at.0) → cond (nat_eq c sum.at.0) sum.extra (pos 0) ≡ pos 0
no_extra sum at floor c are le past =
    elim (cases_Bool at.is_added) [
      | inl added ↦
          elim (are.added added) [
            | inl below ↦ not_here c sum.at.0 sum.extra (λ e. absurd (omega (arith, e, below, le)))
            | inr none ↦ ap (λ (z : ℤ). cond (nat_eq c sum.at.0) z (pos 0)) none ∙ none_either (nat_eq c sum.at.0)
          ]
      | inr waits ↦ not_here c sum.at.0 sum.extra (λ e. absurd (omega (arith, e, past waits)))
    ]

none_whole : (sum : Sum) (c : ℕ) (z : ℤ) → z ≡ pos 0 → cond (nat_eq c sum.at.0) sum.extra (pos 0) ≡ pos 0 → whole_of sum c z ≡ pos 0
none_whole sum c z none extra =
    ap₂ (λ (x y : ℤ). cond (sum.leaves && nat_eq c sum.without.0) (pos 0) (x +ℤ y)) none extra ∙ none_either (sum.leaves && nat_eq c sum.without.0)

no_combination : (k n : ℤ) (r p : List Term) (c : ℕ) → coefficient c r ≡ pos 0 → coefficient c p ≡ pos 0 → combination k r n p c ≡ pos 0
no_combination k n r p c left right =
    ap₂ (λ (x y : ℤ). k *ℤ x +ℤ n *ℤ y) left right ∙ ap₂ ◌+ℤ◌ (mul-zero_ℤ k) (mul-zero_ℤ n)

-- a column that is left out by the rows and by the number at one column
pub gap : (sum : Sum) (at : Place) (floor c : ℕ) → HasRisingRows sum → AreRead sum at floor → floor ≤ c
    → (at.left < length sum.r.now → c < column_at sum.r.now at.left) → (at.right < length sum.p.now → c < column_at sum.p.now at.right) → (at.is_added ≡ false → c < sum.at.0) → whole sum c ≡ pos 0
gap sum at floor c rising are le left right waiting =
    none_whole sum c (combination sum.k sum.r.now sum.n sum.p.now c)
    (no_combination sum.k sum.n sum.r.now sum.p.now c (no_number sum.r.now at.left floor c rising.left are.left le left) (no_number sum.p.now at.right floor c rising.right are.right le right))
    (no_extra sum at floor c are le waiting)

pub before_first : (sum : Sum) (at : Place) (floor col c : ℕ) → HasRisingRows sum → AreRead sum at floor → IsFirst sum at col → floor ≤ c → c < col → whole sum c ≡ pos 0
before_first sum at floor col c rising are first le less =
    gap sum at floor c rising are le
    (λ within. omega (arith, less, first.left within)) (λ within. omega (arith, less, first.right within)) (λ waits. omega (arith, less, first.waiting waits))

pub past_end : (sum : Sum) (at : Place) (floor c : ℕ) → HasRisingRows sum → AreRead sum at floor → IsEnd sum at → floor ≤ c → whole sum c ≡ pos 0
past_end sum at floor c rising are end le =
    gap sum at floor c rising are le
    (λ within. absurd (omega (arith, within, end.left))) (λ within. absurd (omega (arith, within, end.right))) (λ waits. absurd (differ (sym end.added ∙ waits)))

pub floor_below : (sum : Sum) (at : Place) (floor col : ℕ) → AreRead sum at floor → IsFirst sum at col → floor ≤ col
floor_below sum at floor col are first =
    elim first.one [
      | inl left ↦ omega (arith, left.1, are.left.behind at.left (omega arith) left.0)
      | inr (inl right) ↦ omega (arith, right.1, are.right.behind at.right (omega arith) right.0)
      | inr (inr waits) ↦ omega (arith, waits.1, are.waiting waits.0)
    ]

-- nothing has been read at the start
pub starts : (sum : Sum) (at : Place) → at.left ≡ 0 → at.right ≡ 0 → (at.is_added ≡ true → sum.extra ≡ pos 0) → AreRead sum at 0
starts sum at left right added = record {
  left = record { within = omega (arith, left); before = λ m less. absurd (omega (arith, left, less)); behind = λ m from inside. omega arith };
  right = record { within = omega (arith, right); before = λ m less. absurd (omega (arith, right, less)); behind = λ m from inside. omega arith };
  added = λ is. inr (added is);
  waiting = λ waits. omega arith;
}

pub added_now : (col at : ℕ) → nat_eq col at ≡ true → at < col + 1
added_now col at is = grind (arith, nat_tests)

pub waits_on : (col at : ℕ) → nat_eq col at ≡ false → col ≤ at → col + 1 ≤ at
waits_on col at is le = grind (arith, nat_tests)

-- the sum's number at a column that is not left out
pub whole_there : (sum : Sum) (c : ℕ) (z : ℤ) → (sum.leaves && nat_eq c sum.without.0) ≡ false → c ≡ sum.at.0 → z +ℤ sum.extra ≡ whole_of sum c z
whole_there sum c z stays here =
    sym (ap₂ (λ (b d : Bool). cond b (pos 0) (z +ℤ cond d sum.extra (pos 0))) stays (eq-eqb c sum.at.0 here))

pub whole_elsewhere : (sum : Sum) (c : ℕ) (z : ℤ) → (sum.leaves && nat_eq c sum.without.0) ≡ false → c ≢ sum.at.0 → z ≡ whole_of sum c z
whole_elsewhere sum c z stays other =
    sym (ap₂ (λ (b d : Bool). cond b (pos 0) (z +ℤ cond d sum.extra (pos 0))) stays (ne_eqb c sum.at.0 other) ∙ add-zero_ℤ z)

-- the next place where the number at one column had been added before
read_added : (sum : Sum) (at next : Place) (floor col : ℕ) → AreRead sum at floor → floor ≤ col → at.is_added ≡ true → next.is_added ≡ at.is_added
    → IsRead sum.r.now next.left (col + 1) → IsRead sum.p.now next.right (col + 1) → AreRead sum next (col + 1)
read_added sum at next floor col are le added same r_read p_read = record {
  left = r_read;
  right = p_read;
  added = λ is.
      elim (are.added added) [
        | inl below ↦ inl (omega (arith, below, le))
        | inr none ↦ inr none
      ];
  waiting = λ waits. absurd (differ (sym (same ∙ added) ∙ waits));
}

read_waiting : (sum : Sum) (at next : Place) (col : ℕ) → IsFirst sum at col → at.is_added ≡ false → next.is_added ≡ nat_eq col sum.at.0
    → IsRead sum.r.now next.left (col + 1) → IsRead sum.p.now next.right (col + 1) → AreRead sum next (col + 1)
read_waiting sum at next col first waits same r_read p_read = record {
  left = r_read;
  right = p_read;
  added = λ is. inl (added_now col sum.at.0 (sym same ∙ is));
  waiting = λ on. waits_on col sum.at.0 (sym same ∙ on) (first.waiting waits);
}

count_same : (a b : Bool) → a ≡ b → ◌≡◌ {A = ℕ} (cond a 1 0) (cond b 1 0)
count_same a b same = ap (λ (d : Bool). cond d 1 0) same

count_none : (b : Bool) → b ≡ false → ◌≡◌ {A = ℕ} (cond b 1 0) 0
count_none b waits = ap (λ (d : Bool). cond d 1 0) waits

count_here : (col at : ℕ) → col ≡ at → ◌≡◌ {A = ℕ} (cond (nat_eq col at) 1 0) 1
count_here col at here = ap (λ (d : Bool). cond d 1 0) (eq-eqb col at here)

-- more has been read than before
further_added : (sum : Sum) (at next : Place) (col : ℕ) → IsFirst sum at col → at.is_added ≡ true → next.is_added ≡ at.is_added → at.left ≤ next.left → at.right ≤ next.right
    → (at.left < length sum.r.now → col ≡ column_at sum.r.now at.left → at.left < next.left) → (at.right < length sum.p.now → col ≡ column_at sum.p.now at.right → at.right < next.right)
    → steps at < steps next
further_added sum at next col first added same left_on right_on left_here right_here =
    let count : ◌≡◌ {A = ℕ} (cond next.is_added 1 0) (cond at.is_added 1 0) = count_same next.is_added at.is_added same in
    elim first.one [
      | inl l ↦ omega (arith, count, right_on, left_here l.0 l.1)
      | inr (inl q) ↦ omega (arith, count, left_on, right_here q.0 q.1)
      | inr (inr w) ↦ absurd (differ (sym added ∙ w.0))
    ]

further_waiting : (sum : Sum) (at next : Place) (col : ℕ) → IsFirst sum at col → at.is_added ≡ false → next.is_added ≡ nat_eq col sum.at.0 → at.left ≤ next.left → at.right ≤ next.right
    → (at.left < length sum.r.now → col ≡ column_at sum.r.now at.left → at.left < next.left) → (at.right < length sum.p.now → col ≡ column_at sum.p.now at.right → at.right < next.right)
    → steps at < steps next
further_waiting sum at next col first waits same left_on right_on left_here right_here =
    let none : ◌≡◌ {A = ℕ} (cond at.is_added 1 0) 0 = count_none at.is_added waits in
    let count : ◌≡◌ {A = ℕ} (cond next.is_added 1 0) (cond (nat_eq col sum.at.0) 1 0) = count_same next.is_added (nat_eq col sum.at.0) same in
    elim first.one [
      | inl l ↦ omega (arith, none, count, right_on, left_here l.0 l.1)
      | inr (inl q) ↦ omega (arith, none, count, left_on, right_here q.0 q.1)
      | inr (inr w) ↦ omega (arith, none, count, left_on, right_on, count_here col sum.at.0 w.1)
    ]

-- where the number at one column has been added, the rows alone are read
added_read : (sum : Sum) (at : Place) (x : RowsRead) → at.is_added ≡ true → IsRowRead sum.r.now at.left x.col x.left x.next.left → IsRowRead sum.p.now at.right x.col x.right x.next.right
    → x.next.is_added ≡ at.is_added → HasNext sum.r.now at.left x.col ⊎ HasNext sum.p.now at.right x.col → IsSumRead sum at x
added_read sum at x added left right same one =
    let first : IsFirst sum at x.col =
    record {
      left = left.first;
      right = right.first;
      waiting = λ waits. absurd (differ (sym added ∙ waits));
      one = elim one [
        | inl l ↦ inl l
        | inr q ↦ inr (inl q)
      ];
    } in
    record {
      left = left;
      right = right;
      first = first;
      read = λ floor are.
          let le : floor ≤ x.col = floor_below sum at floor x.col are first in
          read_added sum at x.next floor x.col are le added same (left.read floor are.left le) (right.read floor are.right le);
      further = further_added sum at x.next x.col first added same left.further right.further left.here right.here;
    }

pub added_reads : (sum : Sum) (at : Place) (o : Option RowsRead) → at.is_added ≡ true → IfSome o (λ x. IsRowRead sum.r.now at.left x.col x.left x.next.left)
    → IfSome o (λ x. IsRowRead sum.p.now at.right x.col x.right x.next.right) → IfSome o (λ x. x.next.is_added ≡ at.is_added)
    → IfSome o (λ x. HasNext sum.r.now at.left x.col ⊎ HasNext sum.p.now at.right x.col) → IfSome o (IsSumRead sum at)
added_reads sum at None added left right same one = tt
added_reads sum at (Some x) added left right same one = added_read sum at x added left right same one

-- with the rows' lowest column not above that of the number
waiting_read : (sum : Sum) (at next : Place) (col : ℕ) (left_by right_by : ℤ) → at.is_added ≡ false → IsRowRead sum.r.now at.left col left_by next.left → IsRowRead sum.p.now at.right col right_by next.right
    → HasNext sum.r.now at.left col ⊎ HasNext sum.p.now at.right col → col ≤ sum.at.0 → next.is_added ≡ nat_eq col sum.at.0 → IsSumRead sum at (record { col = col; left = left_by; right = right_by; next = next })
waiting_read sum at next col left_by right_by waits left right one le added =
    let first : IsFirst sum at col =
    record {
      left = left.first;
      right = right.first;
      waiting = λ on. le;
      one = elim one [
        | inl l ↦ inl l
        | inr q ↦ inr (inl q)
      ];
    } in
    record {
      left = left;
      right = right;
      first = first;
      read = λ floor are.
          let from : floor ≤ col = floor_below sum at floor col are first in
          read_waiting sum at next col first waits added (left.read floor are.left from) (right.read floor are.right from);
      further = further_waiting sum at next col first waits added left.further right.further left.here right.here;
    }

pub waiting_reads : (sum : Sum) (at : Place) (x y : RowsRead) → at.is_added ≡ false → IsRowRead sum.r.now at.left x.col x.left x.next.left → IsRowRead sum.p.now at.right x.col x.right x.next.right
    → HasNext sum.r.now at.left x.col ⊎ HasNext sum.p.now at.right x.col → x.col ≤ sum.at.0 → y.col ≡ x.col → y.left ≡ x.left → y.right ≡ x.right → y.next.left ≡ x.next.left → y.next.right ≡ x.next.right
    → y.next.is_added ≡ nat_eq x.col sum.at.0 → IsSumRead sum at y
waiting_reads sum at x y waits left right one le col left_by right_by left_next right_next added =
    waiting_read sum at y.next y.col y.left y.right waits
    (rw (col, left_by, left_next) left) (rw (col, right_by, right_next) right) (rw col one) (rw col le) (rw col added)

zero_product : (k : ℤ) → IsSmallProduct k (pos 0)
zero_product k = let none : unsigned_abs (k *ℤ pos 0) ≡ 0 = ap unsigned_abs (mul-zero_ℤ k) in omega (arith, none)

-- a row that has no number there
pub past_read : (row : List Term) (i col : ℕ) → IsRising row → (i < length row → col < column_at row i) → IsRowRead row i col (pos 0) i
past_read row i col rising past = record {
  first = λ within. omega (arith, past within);
  value = λ floor is le. sym (no_number row i floor col rising is le past);
  read = λ floor is le. read_past row i floor col rising is le past;
  small = λ k factor. zero_product k;
  fits = λ all. omega arith;
  further = omega arith;
  here = λ within here. absurd (omega (arith, past within, here));
}

-- the number at one column alone
pub alone_read : (sum : Sum) (at : Place) → HasRisingRows sum → at.is_added ≡ false
    → (at.left < length sum.r.now → sum.at.0 < column_at sum.r.now at.left) → (at.right < length sum.p.now → sum.at.0 < column_at sum.p.now at.right)
    → IsSumRead sum at (record { col = sum.at.0; left = pos 0; right = pos 0; next = record { left = at.left; right = at.right; is_added = true } })
alone_read sum at rising waits r_past p_past =
    let left : IsRowRead sum.r.now at.left sum.at.0 (pos 0) at.left = past_read sum.r.now at.left sum.at.0 rising.left r_past in
    let right : IsRowRead sum.p.now at.right sum.at.0 (pos 0) at.right = past_read sum.p.now at.right sum.at.0 rising.right p_past in
    let next : Place = record { left = at.left; right = at.right; is_added = true } in
    let first : IsFirst sum at sum.at.0 =
    record { left = left.first; right = right.first; waiting = λ on. omega arith; one = inr (inr (waits, refl)) } in
    let added : true ≡ nat_eq sum.at.0 sum.at.0 = sym (eq-eqb sum.at.0 sum.at.0 refl) in
    record {
      left = left;
      right = right;
      first = first;
      read = λ floor are.
          let from : floor ≤ sum.at.0 = floor_below sum at floor sum.at.0 are first in
          read_waiting sum at next sum.at.0 first waits added (left.read floor are.left from) (right.read floor are.right from);
      further = further_waiting sum at next sum.at.0 first waits added left.further right.further left.here right.here;
    }

-- the row's next entry, at its column
pub entry_read : (row : List Term) (i : ℕ) (t : Term) → IsRising row → i < length row → t ≡ get_or row i nothing → ((k : ℤ) → IsFactorOf k row → IsSmallProduct k t.by) → IsRowRead row i t.col t.by (i + 1)
entry_read row i t rising within is small =
    let col : t.col ≡ column_at row i = ap (λ (s : Term). s.col) is in
    let by : t.by ≡ (get_or row i nothing).by = ap (λ (s : Term). s.by) is in
    record {
      first = λ inside. omega (arith, col);
      value = λ floor read le. by ∙ sym (number_here row i t.col rising within col);
      read = λ floor read le.
          record {
            within = omega (arith, within);
            before = λ m less.
                elim (cases_lt m i) [
                  | inl below ↦ omega (arith, read.before m below, le)
                  | inr from ↦
                      let on : m ≡ i = omega (arith, less, from) in
                      rw on (omega (arith, col))
                ];
            behind = λ m from inside. omega (arith, col, rises row i m rising (omega (arith, from)) inside);
          };
      small = small;
      fits = λ all. subst (λ (z : ℤ). IsFitting z) (sym by) (all i nothing within);
      further = omega arith;
      here = λ inside same. omega arith;
    }
