-- The attributes that have coefficients.
use Rattle.std.proofs.Common.{◌≡◌, ℕ, zero, suc, ◌<◌, ◌≤◌, List, [], ◌∷◌, length, get_or, All, AllPairs, pos, ℤ, ◌+ℤ◌, ◌*ℤ◌, refl, sym, arith, ◌⊎◌, inl, inr}
use Rattle.std.proofs.lemmas.Bool.{cases_eq}
use borrow.Author.Differences.{ints}
use Rattle.compile_parts.specs.Addends.{addend_view, addends_view, sum_of}
use Rattle.compile_parts.specs.declared.addends.Addend.{Addend}
use Rattle.frac_core.specs.Fraction.{Fraction}
use Rattle.compile_parts.specs.Shares.{IsOff}
use Rattle.constraint_compile.specs.Coefficients.Sums.{HasTooMany, attr_at}
use Rattle.constraint_compile.specs.Coefficients.Pieces.{HasFound}
use Rattle.constraint_compile.proofs.Sums.Joint.{find_place}

-- ---- lists of rising numbers

off_more : (y v : ℕ) (ys : List ℕ) → (y ≡ v → ⊥) → IsOff ys v → IsOff (y ∷ ys) v
off_more y v ys other off zero d h = other
off_more y v ys other off (suc k) d h = off k d (omega (arith, h))

later : (x : ℕ) (xs : List ℕ) → AllPairs (λ a b. a < b) (x ∷ xs) → AllPairs (λ a b. a < b) xs
later x xs rising = λ i j d less h. rising (suc i) (suc j) d (omega (arith, less)) (omega (arith, h))

first_less : (x : ℕ) (xs : List ℕ) (k d : ℕ) → AllPairs (λ a b. a < b) (x ∷ xs) → k < length xs → x < get_or xs k d
first_less x xs k d rising h = rising zero (suc k) d (omega arith) (omega (arith, h))

at_least : (x : ℕ) (xs : List ℕ) (k d : ℕ) → AllPairs (λ a b. a < b) (x ∷ xs) → k < length (x ∷ xs) → x ≤ get_or (x ∷ xs) k d
at_least x xs zero d rising h = omega arith
at_least x xs (suc k) d rising h = omega (arith, first_less x xs k d rising (omega (arith, h)))

-- rising numbers that are all among others are no more than they
pub no_more : (xs ys : List ℕ) → AllPairs (λ a b. a < b) xs → AllPairs (λ a b. a < b) ys → ((k d : ℕ) → k < length xs → IsOff ys (get_or xs k d) → ⊥) → length xs ≤ length ys
no_more [] ys rising_x rising_y among = omega arith
no_more (x ∷ xs) [] rising_x rising_y among = absurd (among zero x (omega arith) (λ k d h. absurd (omega (arith, h))))
no_more (x ∷ xs) (y ∷ ys) rising_x rising_y among = elim (cases_eq x y) [
  | inl same ↦
      let rest : length xs ≤ length ys = no_more xs ys (later x xs rising_x) (later y ys rising_y) (λ k d h off. among (suc k) d (omega (arith, h)) (off_more y (get_or xs k d) ys (λ e. omega (arith, e, same, first_less x xs k d rising_x h)) off)) in
      omega (arith, rest)
  | inr other ↦
      let less : y < x = below (find_place ys x) other in
      let rest : length (x ∷ xs) ≤ length ys = no_more (x ∷ xs) ys rising_x (later y ys rising_y) (λ k d h off. among k d h (off_more y (get_or (x ∷ xs) k d) ys (λ e. omega (arith, e, less, at_least x xs k d rising_x h)) off)) in
      omega (arith, rest)
]
  where
    below : ((i : ℕ) × (i < length ys) × (attr_at ys i ≡ x)) ⊎ IsOff ys x → (x ≡ y → ⊥) → y < x
    below (inl (i, within, at)) other = omega (arith, first_less y ys i 0 rising_y within, at)
    below (inr off) other = absurd (among zero x (omega arith) (off_more y x ys (λ e. other (sym e)) off))

-- ---- all of them

pub found_few : (b : ℕ → Fraction) (attrs found : List ℕ) → HasFound b attrs (length attrs) found → ((v : ℕ) → IsOff attrs v → (b v).num ≡ pos 0) → length found ≤ 32 → HasTooMany b → ⊥
found_few b attrs found all off few many =
    let most : length many.attrs ≤ length found = no_more many.attrs found many.rising all.rising (λ k d h not. many.nonzero k d h (nothing (get_or many.attrs k d) not (find_place attrs (get_or many.attrs k d)))) in
    omega (arith, most, few, many.many)
  where
    nothing : (v : ℕ) → IsOff found v → ((i : ℕ) × (i < length attrs) × (attr_at attrs i ≡ v)) ⊎ IsOff attrs v → (b v).num ≡ pos 0
    nothing v not (inl (i, within, at)) = all.off v not i within at
    nothing v not (inr else_off) = off v else_off

pub attrs_few : (b : ℕ → Fraction) (attrs : List ℕ) → AllPairs (λ v w. v < w) attrs → ((v : ℕ) → IsOff attrs v → (b v).num ≡ pos 0) → length attrs ≤ 32 → HasTooMany b → ⊥
attrs_few b attrs rising off few many =
    let most : length many.attrs ≤ length attrs = no_more many.attrs attrs many.rising rising (λ k d h not. many.nonzero k d h (off (get_or many.attrs k d) not)) in
    omega (arith, most, few, many.many)

pub zeros : (d e : ℕ) (x y : ℤ) → x ≡ pos 0 → y ≡ pos 0 → x *ℤ pos e +ℤ y *ℤ pos d ≡ pos 0
zeros d e x y h k = rw (h, k) (let z : pos 0 *ℤ pos e +ℤ pos 0 *ℤ pos d ≡ pos 0 = omega (arith, ints) in z)

pub zero_shares : (v : ℕ) (added : List Addend) → All (λ a. ((addend_view a).share v).num ≡ pos 0) added → (sum_of (addends_view added) v).num ≡ pos 0
zero_shares v [] all = refl
zero_shares v (a ∷ added) all =
    zeros ((addend_view a).share v).den (sum_of (addends_view added) v).den ((addend_view a).share v).num (sum_of (addends_view added) v).num (all zero a (omega arith)) (zero_shares v added (λ k d less. all (suc k) d (omega (arith, less))))
