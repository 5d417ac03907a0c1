-- Rows of opposite numbers.
use Rattle.std.proofs.Common.{◌≡◌, ◌≢◌, ℕ, zero, suc, ◌+◌, ◌<◌, ◌++◌, length, take, drop, get_or, map, List, [], ◌∷◌, ℤ, pos, neg_ℤ, ◌+ℤ◌, refl, subst, ap, ap₂, ◌∙◌, arith, All, Bool, true, false, cond, nat_eq, ◌-ℤ◌, to_z, of_z}
use Prim.Native.Nat.{◌∣◌}
use Rattle.std.proofs.Math.ListN.{set}
use Rattle.std.specs.Prelude.{unsigned_abs}
use borrow.Author.Differences.{ints}
use Rattle.std.specs.Int.{w64}
use Rattle.std.proofs.lemmas.Int.{to_z-of_z, fits_signed_from_abs}
use Rattle.std.proofs.lemmas.List.{get_or-map, length-map}
use Rattle.std.proofs.lemmas.List.Elements.{All-map}
use Rattle.frac_core.specs.Fraction.{IsFitting}
use Rattle.row_core.specs.Rows.{Term, coefficient, IsRising, IsKeptRow}
use Rattle.row_core.proofs.Places.{number_of}
use Rattle.frac_core.proofs.Quotients.{size_opposite}
use Rattle.frac_core.proofs.Numbers.{zero-minus as less_is}

abbrev pub opposite : Term → Term
opposite t = record { col = t.col; by = neg_ℤ t.by }

cond-opposite : (b : Bool) (z : ℤ) → cond b (neg_ℤ z) (pos 0) ≡ neg_ℤ (cond b z (pos 0))
cond-opposite true z = refl
cond-opposite false z = refl

neg_sum : (x y : ℤ) → neg_ℤ x +ℤ neg_ℤ y ≡ neg_ℤ (x +ℤ y)
neg_sum x y = omega (arith, ints)

neg_none : (z : ℤ) → neg_ℤ z ≡ pos 0 → z ≡ pos 0
neg_none z none = omega (arith, ints, none)

at-opposite : (c : ℕ) (t : Term) → number_of c (opposite t) ≡ neg_ℤ (number_of c t)
at-opposite c t = cond-opposite (nat_eq t.col c) t.by

pub coefficient-opposite : (c : ℕ) (row : List Term) → coefficient c (map opposite row) ≡ neg_ℤ (coefficient c row)
coefficient-opposite c [] = refl
coefficient-opposite c (x ∷ row) = ap₂ ◌+ℤ◌ (at-opposite c x) (coefficient-opposite c row) ∙ neg_sum (number_of c x) (coefficient c row)

-- an element of the mapped row
after_map : (row : List Term) (k : ℕ) (d : Term) → k < length row → get_or (map opposite row) k (opposite d) ≡ opposite (get_or row k d)
after_map row k d within = get_or-map opposite row k d (opposite d) within

all_opposite : (P Q : Term → Type 0) (row : List Term) → ((t : Term) → P t → Q (opposite t)) → All P row → All Q (map opposite row)
all_opposite P Q row turn all = All-map Q opposite row (λ k d within. turn (get_or row k d) (all k d within))

of_opposite : (P Q : Term → Type 0) (row : List Term) → ((t : Term) → P (opposite t) → Q t) → All P (map opposite row) → All Q row
of_opposite P Q row back all k d within =
    back (get_or row k d) (subst P (after_map row k d within) (all k (opposite d) (rw (length-map row opposite) within)))

opposite_rising : (row : List Term) → IsRising row → IsRising (map opposite row)
opposite_rising row rising i j d less within =
    let inside : j < length row = rw (length-map row opposite) at within in
    let first : get_or (map opposite row) i d ≡ opposite (get_or row i (opposite d)) = get_or-map opposite row i (opposite d) d (omega (arith, less, inside)) in
    let second : get_or (map opposite row) j d ≡ opposite (get_or row j (opposite d)) = get_or-map opposite row j (opposite d) d inside in
    rw (first, second) (rising i j (opposite d) less inside)

pub opposite_kept : (row : List Term) → IsKeptRow row → IsKeptRow (map opposite row)
opposite_kept row kept = record {
  lowest = record {
    rising = opposite_rising row kept.lowest.rising;
    nonzero = all_opposite (λ t. t.by ≢ pos 0) (λ t. t.by ≢ pos 0) row (λ t some none. some (neg_none t.by none)) kept.lowest.nonzero;
    coprime = λ d some all.
        kept.lowest.coprime d (rw (length-map row opposite) at some)
        (of_opposite (λ t. d ∣ unsigned_abs t.by) (λ t. d ∣ unsigned_abs t.by) row (λ t h. subst (λ (n : ℕ). d ∣ n) (size_opposite t.by) h) all);
  };
  fits = all_opposite (λ t. IsFitting t.by) (λ t. IsFitting t.by) row (λ t fits. rw (size_opposite t.by) fits) kept.fits;
}

turned_next : (row : List Term) (i : ℕ) (t : Term) → i < length row → t ≡ get_or row i t
    → set (map opposite (take i row) ++ drop i row) i (opposite t) ≡ map opposite (take (suc i) row) ++ drop (suc i) row
turned_next [] i t within here = absurd (omega arith)
turned_next (x ∷ row) zero t within here = ap (λ (s : Term). opposite s ∷ row) here
turned_next (x ∷ row) (suc i) t within here = ap (λ (rest : List Term). opposite x ∷ rest) (turned_next row i t (omega arith) here)

-- one more number is turned round
pub turned_more : (row : List Term) (i : ℕ) (t : Term) → i < length row → t ≡ get_or row i t
    → set (map opposite (take i row) ++ drop i row) i (opposite t) ≡ map opposite (take (i + 1) row) ++ drop (i + 1) row
turned_more row i t within here =
    let next : suc i ≡ i + 1 = omega arith in
    subst (λ (n : ℕ). set (map opposite (take i row) ++ drop i row) i (opposite t) ≡ map opposite (take n row) ++ drop n row) next (turned_next row i t within here)

-- the next number is still as it was
pub unturned : (row : List Term) (i : ℕ) (d : Term) → get_or (map opposite (take i row) ++ drop i row) i d ≡ get_or row i d
unturned [] zero d = refl
unturned [] (suc i) d = refl
unturned (x ∷ row) zero d = refl
unturned (x ∷ row) (suc i) d = unturned row i d

-- all have been turned round
pub turned_all : (row : List Term) (i : ℕ) → (i < length row → ⊥) → map opposite (take i row) ++ drop i row ≡ map opposite row
turned_all [] zero end = refl
turned_all [] (suc i) end = refl
turned_all (x ∷ row) zero end = absurd (end (omega arith))
turned_all (x ∷ row) (suc i) end = ap (λ (rest : List Term). opposite x ∷ rest) (turned_all row i (λ less. end (omega (arith, less))))

less_size : (z : ℤ) → IsFitting z → unsigned_abs (pos 0 -ℤ z) < 9223372036854775808
less_size z fits = rw (less_is z, size_opposite z) (omega (arith, fits))

-- the opposite of a fitting number, as it is computed
pub turned_number : (z : ℤ) → IsFitting z → to_z w64 (of_z w64 (pos 0 -ℤ to_z w64 (of_z w64 z))) ≡ neg_ℤ z
turned_number z fits =
    let same : to_z w64 (of_z w64 z) ≡ z = to_z-of_z w64 z (fits_signed_from_abs w64 z (omega (arith, fits))) in
    rw same (to_z-of_z w64 (pos 0 -ℤ z) (fits_signed_from_abs w64 (pos 0 -ℤ z) (omega (arith, less_size z fits))) ∙ less_is z)
