-- Rows whose columns have other places.
use Rattle.std.proofs.Common.{◌≡◌, ◌≢◌, ℕ, zero, ◌<◌, length, get_or, List, [], ◌∷◌, pos, ◌+ℤ◌, sym, refl, subst, ap, ap₂, ◌∙◌, arith, All, inl, inr}
use Prim.Native.Nat.{◌∣◌}
use Rattle.std.specs.Prelude.{unsigned_abs}
use Rattle.std.proofs.lemmas.Bool.{cases_eq}
use Rattle.std.proofs.lemmas.List.{get_or-map, length-map}
use Rattle.std.proofs.lemmas.List.Elements.{All-map}
use Rattle.frac_core.specs.Fraction.{IsFitting}
use Rattle.row_core.specs.Rows.{Term, coefficient, IsRising, IsKeptRow}
use Rattle.row_core.specs.Renames.{place_in, renamed, AreKeptApart}
use Rattle.row_core.proofs.Places.{number_of, at-here, at-elsewhere, absent, all_tail}

-- the term with its column's place
abbrev pub placed : List ℕ → Term → Term
placed places t = record { col = place_in places t.col; by = t.by }

same_part : (places : List ℕ) (c : ℕ) (t : Term) → (place_in places t.col ≡ place_in places c → t.col ≡ c)
    → number_of (place_in places c) (placed places t) ≡ number_of c t
same_part places c t same =
    elim (cases_eq (place_in places t.col) (place_in places c)) [
      | inl here ↦ at-here (place_in places c) (placed places t) here ∙ sym (at-here c t (same here))
      | inr other ↦
          at-elsewhere (place_in places c) (placed places t) other
          ∙ sym (at-elsewhere c t (λ e. other (ap (λ v. place_in places v) e)))
    ]

-- the number at a column whose place no other column has
pub renamed_coefficient : (places : List ℕ) (row : List Term) (c : ℕ) → All (λ t. place_in places t.col ≡ place_in places c → t.col ≡ c) row
    → coefficient (place_in places c) (renamed places row) ≡ coefficient c row
renamed_coefficient places [] c same = refl
renamed_coefficient places (x ∷ row) c same =
    ap₂ ◌+ℤ◌ (same_part places c x (same zero x (omega arith)))
    (renamed_coefficient places row c (all_tail (λ t. place_in places t.col ≡ place_in places c → t.col ≡ c) x row same))

-- what holds of each term with its place holds of each of the renamed row
pub all_placed : (P : Term → Type 0) (places : List ℕ) (row : List Term) → All (λ t. P (placed places t)) row → All P (renamed places row)
all_placed P places row all = All-map P (placed places) row all

-- the number at a column that is no place
pub renamed_absent : (places : List ℕ) (row : List Term) (v : ℕ) → All (λ t. place_in places t.col ≢ v) row → coefficient v (renamed places row) ≡ pos 0
renamed_absent places row v none = absent v (renamed places row) (all_placed (λ t. t.col ≢ v) places row none)

-- the places are below n
pub renamed_below : (places : List ℕ) (row : List Term) (n : ℕ) → All (λ t. place_in places t.col < n) row → All (λ t. t.col < n) (renamed places row)
renamed_below places row n below = all_placed (λ t. t.col < n) places row below

of_placed : (P : Term → Type 0) (places : List ℕ) (row : List Term) → ((t : Term) → P (placed places t) → P t) → All P (renamed places row) → All P row
of_placed P places row back all k d within =
    back (get_or row k d)
    (subst P (get_or-map (placed places) row k d (placed places d) within) (all k (placed places d) (rw (length-map row (placed places)) within)))

renamed_rising : (places : List ℕ) (row : List Term) → AreKeptApart places row → IsRising (renamed places row)
renamed_rising places row apart i j d less within =
    let inside : j < length row = rw (length-map row (placed places)) at within in
    let first : get_or (renamed places row) i d ≡ placed places (get_or row i d) = get_or-map (placed places) row i d d (omega (arith, less, inside)) in
    let second : get_or (renamed places row) j d ≡ placed places (get_or row j d) = get_or-map (placed places) row j d d inside in
    rw (first, second) (apart.rising i j d less inside)

-- the row is still in lowest terms, and fits
pub renamed_kept : (places : List ℕ) (row : List Term) → IsKeptRow row → AreKeptApart places row → IsKeptRow (renamed places row)
renamed_kept places row kept apart = record {
  lowest = record {
    rising = renamed_rising places row apart;
    nonzero = all_placed (λ t. t.by ≢ pos 0) places row kept.lowest.nonzero;
    coprime = λ d some all.
        kept.lowest.coprime d (rw (length-map row (placed places)) at some)
        (of_placed (λ t. d ∣ unsigned_abs t.by) places row (λ t h. h) all);
  };
  fits = all_placed (λ t. IsFitting t.by) places row kept.fits;
}
