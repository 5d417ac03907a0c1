-- The divisor of a sum's numbers, and the row that is divided by it.
use Rattle.std.proofs.Common.{◌≡◌, ◌≢◌, ℕ, zero, suc, ◌+◌, ◌<◌, ◌≤◌, ◌^◌, ◌++◌, length, List, [], ◌∷◌, ℤ, pos, ◌+ℤ◌, ◌*ℤ◌, sym, subst, ap, ◌∙◌, arith, ◌⊎◌, inl, inr, All}
use Prim.Native.Nat.{◌∣◌}
use Rattle.std.specs.Prelude.{unsigned_abs}
use Rattle.std.specs.Int.{IsGcd}
use Rattle.std.proofs.lemmas.Bool.{cases_lt}
use Rattle.std.proofs.lemmas.List.Elements.{All-push}
use Rattle.std.proofs.lemmas.List.Quantifiers.{all_pairs_push}
use Rattle.std.proofs.lemmas.Nat.Gcd.{dvd_trans, dvd-zero, le_of_dvd}
use Rattle.std.proofs.Math.Nat.{eq-zero_of_zero-dvd, one-dvd}
use borrow.Author.Differences.{ints}
use Rattle.frac_core.specs.Fraction.{IsFitting}
use Rattle.frac_core.proofs.Integers.{add-zero_ℤ}
use Rattle.frac_core.proofs.Sums.{sum-push}
use Rattle.row_core.specs.declared.walk.Sum.{Sum}
use Rattle.row_core.specs.declared.walk.Place.{Place}
use Rattle.row_core.specs.Rows.{Term, coefficient, IsRising, AllNonzero, AllFit}
use Rattle.row_core.specs.Walks.{AreRead, HasRisingRows, IsFirst, IsEnd, DividesWhole, IsDivisor, IsPushed, steps, whole}
use Rattle.row_core.proofs.Places.{absent, at-here, at-elsewhere, number_of}
use Rattle.row_core.proofs.Walks.{before_first, past_end, floor_below}
use Rattle.frac_core.proofs.Numbers.{divides-zero as divides_none, times-zero as times_none, zero-divides as size_some}
use Rattle.frac_core.proofs.Bools.{bit-most as added_once}

-- ---- the divisor

-- the divisor of the numbers below a column, which is the end of what has been read
pub record IsDivisorSoFar (sum : Sum) (at : Place) (divisor : ℕ) : Type 0 where
  pub floor : ℕ
  pub are : AreRead sum at floor
  pub divides : (c : ℕ) → c < floor → divisor ∣ unsigned_abs (whole sum c)
  pub greatest : (d : ℕ) → DividesWhole d (whole sum) → d ∣ divisor
  pub small : divisor < 2 ^ 127

pub gcd_small : (a b g n : ℕ) → IsGcd a b g → a < n → b < n → g < n
gcd_small zero zero g n is a_small b_small =
    let none : g ≡ 0 = eq-zero_of_zero-dvd (is.2 0 (dvd-zero 0) (dvd-zero 0)) in
    omega (arith, none, a_small)
gcd_small zero (suc b) g n is a_small b_small =
    let le : g ≤ suc b = le_of_dvd (omega arith) is.1 in
    omega (arith, le, b_small)
gcd_small (suc a) b g n is a_small b_small =
    let le : g ≤ suc a = le_of_dvd (omega arith) is.0 in
    omega (arith, le, a_small)

-- a column below one, or the first that is read
split : (c floor col : ℕ) → c < col + 1 → (c < floor) ⊎ (((floor ≤ c) × (c < col)) ⊎ (c ≡ col))
split c floor col less =
    elim (cases_lt c floor) [
      | inl below ↦ inl below
      | inr from ↦
          elim (cases_lt c col) [
            | inl before ↦ inr (inl (from, before))
            | inr on ↦ inr (inr (omega (arith, less, on)))
          ]
    ]

pub divisor_more : (sum : Sum) (at next : Place) (old new col : ℕ) (v : ℤ) → HasRisingRows sum → IsDivisorSoFar sum at old → IsFirst sum at col
    → ((floor : ℕ) → AreRead sum at floor → v ≡ whole sum col) → ((floor : ℕ) → AreRead sum at floor → AreRead sum next (col + 1))
    → unsigned_abs v < 2 ^ 127 → IsGcd (unsigned_abs v) old new → IsDivisorSoFar sum next new
divisor_more sum at next old new col v rising is first value read small gcd =
    let here : v ≡ whole sum col = value is.floor is.are in
    record {
      floor = col + 1;
      are = read is.floor is.are;
      divides = λ c less.
          elim (split c is.floor col less) [
            | inl below ↦ dvd_trans new gcd.1 (is.divides c below)
            | inr (inl between) ↦ divides_none new (whole sum c) (before_first sum at is.floor col c rising is.are first between.0 between.1)
            | inr (inr same) ↦ subst (λ (q : ℕ). new ∣ unsigned_abs (whole sum q)) (sym same) (subst (λ (z : ℤ). new ∣ unsigned_abs z) here gcd.0)
          ];
      greatest = λ d all. gcd.2 d (subst (λ (z : ℤ). d ∣ unsigned_abs z) (sym here) (all col)) (is.greatest d all);
      small = gcd_small (unsigned_abs v) old new (2 ^ 127) gcd small is.small;
    }

pub divisor_ends : (sum : Sum) (at : Place) (g : ℕ) → HasRisingRows sum → IsDivisorSoFar sum at g → IsEnd sum at → DividesWhole g (whole sum)
divisor_ends sum at g rising is end c =
    elim (cases_lt c is.floor) [
      | inl below ↦ is.divides c below
      | inr from ↦ divides_none g (whole sum c) (past_end sum at is.floor c rising is.are end from)
    ]

pub steps_within : (sum : Sum) (at : Place) (floor : ℕ) → AreRead sum at floor → steps at ≤ length sum.r.now + (length sum.p.now + 1)
steps_within sum at floor are = omega (arith, are.left.within, are.right.within, added_once at.is_added)

pub divisor_of_none : (whole : ℕ → ℤ) (g : ℕ) → DividesWhole g whole → g ≡ 0 → IsDivisor (pos 1) whole
divisor_of_none whole g divides none = record {
  above = omega (arith, ints);
  divides = λ c. one-dvd (unsigned_abs (whole c));
  greatest = λ d c some all. absurd (some (size_some (whole c) (subst (λ (n : ℕ). n ∣ unsigned_abs (whole c)) none (divides c))));
}

pub divisor_of_some : (whole : ℕ → ℤ) (g : ℕ) (z : ℤ) → DividesWhole g whole → ((d : ℕ) → DividesWhole d whole → d ∣ g) → 0 < g → z ≡ pos g → IsDivisor z whole
divisor_of_some whole g z divides greatest some is =
    subst (λ (y : ℤ). IsDivisor y whole) (sym is)
    (record { above = omega (arith, ints); divides = divides; greatest = λ d c filled all. greatest d all })

-- ---- the divided row

-- the row has the numbers below a column, divided
pub record IsDividedSoFar (sum : Sum) (at : Place) (divisor : ℤ) (out : List Term) : Type 0 where
  pub floor : ℕ
  pub are : AreRead sum at floor
  pub same : (c : ℕ) → c < floor → divisor *ℤ coefficient c out ≡ whole sum c
  pub below : All (λ t. t.col < floor) out
  pub rising : IsRising out
  pub nonzero : AllNonzero out
  pub fits : AllFit out

-- what is behind all terms
none_behind : (out : List Term) (floor c : ℕ) → All (λ t. t.col < floor) out → floor ≤ c → coefficient c out ≡ pos 0
none_behind out floor c below from = absent c out (λ k d within same. absurd (omega (arith, below k d within, same, from)))

same_none : (g v w : ℤ) → v ≡ pos 0 → w ≡ pos 0 → g *ℤ v ≡ w
same_none g v w none absent = times_none g v none ∙ sym absent

pub divided_more : (sum : Sum) (at next : Place) (divisor : ℤ) (out new : List Term) (col : ℕ) (v : ℤ) → HasRisingRows sum
    → IsDividedSoFar sum at divisor out → IsFirst sum at col
    → ((floor : ℕ) → AreRead sum at floor → v ≡ whole sum col) → ((floor : ℕ) → AreRead sum at floor → AreRead sum next (col + 1))
    → IsPushed divisor col v out new → IsDividedSoFar sum next divisor new
divided_more sum at next divisor out new col v rising is first value read pushed =
    let here : v ≡ whole sum col = value is.floor is.are in
    let le : is.floor ≤ col = floor_below sum at is.floor col is.are first in
    let further : All (λ t. t.col < col + 1) out = λ k d within. omega (arith, is.below k d within, le) in
    elim pushed [
      | inl kept ↦
          subst (λ (row : List Term). IsDividedSoFar sum next divisor row) (sym kept.1)
          (record {
            floor = col + 1;
            are = read is.floor is.are;
            same = λ c less.
                elim (split c is.floor col less) [
                  | inl low ↦ is.same c low
                  | inr (inl between) ↦
                      same_none divisor (coefficient c out) (whole sum c) (none_behind out is.floor c is.below between.0)
                      (before_first sum at is.floor col c rising is.are first between.0 between.1)
                  | inr (inr on) ↦
                      same_none divisor (coefficient c out) (whole sum c) (none_behind out is.floor c is.below (omega (arith, le, on)))
                      (ap (whole sum) on ∙ sym here ∙ kept.0)
                ];
            below = further;
            rising = is.rising;
            nonzero = is.nonzero;
            fits = is.fits;
          })
      | inr more ↦
          let q : ℤ = more.0 in
          let t : Term = record { col = col; by = q } in
          subst (λ (row : List Term). IsDividedSoFar sum next divisor row) (sym more.4)
          (record {
            floor = col + 1;
            are = read is.floor is.are;
            same = λ c less.
                let push : coefficient c (out ++ t ∷ []) ≡ coefficient c out +ℤ number_of c t = sum-push (number_of c) out t in
                elim (split c is.floor col less) [
                  | inl low ↦
                      let other : number_of c t ≡ pos 0 = at-elsewhere c t (λ e. absurd (omega (arith, e, low, le))) in
                      ap (λ (z : ℤ). divisor *ℤ z) (push ∙ ap (λ (z : ℤ). coefficient c out +ℤ z) other ∙ add-zero_ℤ (coefficient c out)) ∙ is.same c low
                  | inr (inl between) ↦
                      let other : number_of c t ≡ pos 0 = at-elsewhere c t (λ e. absurd (omega (arith, e, between.1))) in
                      same_none divisor (coefficient c (out ++ t ∷ [])) (whole sum c)
                      (push ∙ ap (λ (z : ℤ). coefficient c out +ℤ z) other ∙ add-zero_ℤ (coefficient c out) ∙ none_behind out is.floor c is.below between.0)
                      (before_first sum at is.floor col c rising is.are first between.0 between.1)
                  | inr (inr on) ↦
                      let this : number_of c t ≡ q = at-here c t (sym on) in
                      let number : coefficient c (out ++ t ∷ []) ≡ q = omega (arith, ints, push, this, none_behind out is.floor c is.below (omega (arith, le, on))) in
                      ap (λ (z : ℤ). divisor *ℤ z) number ∙ more.2 ∙ here ∙ ap (whole sum) (sym on)
                ];
            below = All-push (λ s. s.col < col + 1) out t further (omega arith);
            rising = all_pairs_push (λ x y. x.col < y.col) out t is.rising (λ k d within. omega (arith, is.below k d within, le));
            nonzero = All-push (λ s. s.by ≢ pos 0) out t is.nonzero (λ none. more.1 (sym more.2 ∙ times_none divisor q none));
            fits = All-push (λ s. IsFitting s.by) out t is.fits more.3;
          })
    ]

pub divided_ends : (sum : Sum) (at : Place) (divisor : ℤ) (out : List Term) → HasRisingRows sum → IsDividedSoFar sum at divisor out → IsEnd sum at
    → (c : ℕ) → divisor *ℤ coefficient c out ≡ whole sum c
divided_ends sum at divisor out rising is end c =
    elim (cases_lt c is.floor) [
      | inl low ↦ is.same c low
      | inr from ↦ same_none divisor (coefficient c out) (whole sum c) (none_behind out is.floor c is.below from) (past_end sum at is.floor c rising is.are end from)
    ]
