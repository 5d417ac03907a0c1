-- Common divisors.
use Rattle.std.proofs.Common.{◌≡◌, ℕ, zero, suc, ◌+◌, ◌*◌, ◌<◌, List, [], ◌∷◌, ◌++◌, length, take, get_or, All, ℤ, pos, subst, arith}
use Prim.Native.Nat.{◌∣◌}
use Rattle.std.specs.Prelude.{unsigned_abs}
use Rattle.std.specs.Int.{IsGcd}
use Rattle.std.proofs.lemmas.List.{take_more}
use Rattle.std.proofs.lemmas.List.Elements.{All-cons, All-push}
use Rattle.std.proofs.lemmas.Nat.Gcd.{dvd_trans, same_from_IsGcd}
use Rattle.frac_core.proofs.Gauss.{scaled}
use Rattle.constraint_compile.specs.Coefficients.Sums.{IsDivisor}

-- what divides two multiples divides the multiple of the greatest common divisor
gcd_multiple : (a b g x j : ℕ) → IsGcd a b g → x ∣ a * j → x ∣ b * j → x ∣ g * j
gcd_multiple a b g x j is h k =
    let has = scaled b a b (omega arith) in
    let same : has.0 ≡ g = same_from_IsGcd a b has.0 g has.1 is in
    subst (λ (n : ℕ). x ∣ n * j) same ((has.2 j).2 x h k)

tail_of : (P : ℤ → Type 0) (x : ℤ) (xs : List ℤ) → All P (x ∷ xs) → All P xs
tail_of P x xs all = λ k d within. all (suc k) d (omega (arith, within))

pushed_all : (P : ℤ → Type 0) (xs : List ℤ) (x : ℤ) → All P (xs ++ x ∷ []) → All P xs × P x
pushed_all P [] x all = ((λ k d within. absurd (omega (arith, within))), all zero x (omega arith))
pushed_all P (y ∷ xs) x all =
    let rest = pushed_all P xs x (tail_of P y (xs ++ x ∷ []) all) in
    (All-cons P y xs (all zero y (omega arith)) rest.0, rest.1)

pub divisor_more : (whole : ℕ) (numbers : List ℤ) (i old new : ℕ) → i < length numbers → IsGcd (unsigned_abs (get_or numbers i (pos 0))) old new → IsDivisor whole (take i numbers) old → IsDivisor whole (take (i + 1) numbers) new
divisor_more whole numbers i old new within gcd is =
    let next : take (i + 1) numbers ≡ take i numbers ++ get_or numbers i (pos 0) ∷ [] = take_more numbers i (pos 0) within in
    rw next (record {
      of_whole = dvd_trans new gcd.1 is.of_whole;
      of_each = All-push (λ z. new ∣ unsigned_abs z) (take i numbers) (get_or numbers i (pos 0)) (λ k d h. dvd_trans new gcd.1 (is.of_each k d h)) gcd.0;
      greatest = λ x j h all.
          let parts = pushed_all (λ z. x ∣ unsigned_abs z * j) (take i numbers) (get_or numbers i (pos 0)) all in
          gcd_multiple (unsigned_abs (get_or numbers i (pos 0))) old new x j gcd parts.1 (is.greatest x j h parts.0);
    })
