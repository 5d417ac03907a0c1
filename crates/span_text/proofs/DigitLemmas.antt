-- Digits are read one after the other.
use Rattle.std.proofs.Common.{◌≡◌, ℕ, zero, suc, ◌+◌, ◌-◌, ◌*◌, ◌^◌, ◌<◌, ◌≤◌, true, false, cond, List, [], ◌∷◌, length, Result, Ok, Err, inl, inr, refl, sym, ap, ◌∙◌, add-one, arith, get_or, drop}
use Rattle.std.proofs.Math.Nat.{pow-succ', pow-le-pow_right}
use Rattle.std.proofs.lemmas.Bool.Decides.{nat_tests, eqb_tells}
use Rattle.span_text.proofs.PieceLemmas.{bool_tells}
use Rattle.span_text.specs.Classes.{is_digit}
use Rattle.span_text.specs.Reading.{◌>>=◌, one_at, few_at, put}
use Rattle.span_text.specs.Digits.{digits, nonzero_at}
use Rattle.span_text.specs.Tokens.{digits_at, valued, valued_at}

abbrev pub stop : ℕ → ℕ → List ℕ → Result (ℕ × ℕ × List ℕ) ℕ
stop a zero s = Err (length s)
stop a (suc k) s = Ok (a, suc k, s)

-- at most m digits more, behind k digits of the value a
unfoldable pub run_at : ℕ → ℕ → ℕ → List ℕ → Result (ℕ × ℕ × List ℕ) ℕ
run_at m a k [] = stop a k []
run_at zero a k (b ∷ s) = cond (is_digit b) (Err (length (b ∷ s))) (stop a k (b ∷ s))
run_at (suc m) a k (b ∷ s) = cond (is_digit b) (run_at m (10 * a + (b - 48)) (suc k) s) (stop a k (b ∷ s))

abbrev rest_valued : ℕ → ℕ → List ℕ × List ℕ → Result (ℕ × ℕ × List ℕ) ℕ
rest_valued a k r = Ok (digits a r.0, suc k + length r.0, r.1)

run_few : (m a k : ℕ) (s : List ℕ) → (few_at is_digit m s >>= rest_valued a k) ≡ run_at m a (suc k) s
unfolding few_at run_at
run_few m a k [] = ap (λ (n : ℕ). Ok (a, n, [])) (omega arith)
run_few zero a k (b ∷ s) = elim (bool_tells (is_digit b)) [ inl t ↦ rw t refl | inr t ↦ rw t (ap (λ (n : ℕ). Ok (a, n, b ∷ s)) (omega arith)) ]
run_few (suc m) a k (b ∷ s) = elim (bool_tells (is_digit b)) [
  | inl t ↦ rw t (run_few_put (few_at is_digit m s) ∙ run_few m (10 * a + (b - 48)) (suc k) s)
  | inr t ↦ rw t (ap (λ (n : ℕ). Ok (a, n, b ∷ s)) (omega arith))
]
  where
    run_few_put : (r : Result (List ℕ × List ℕ) ℕ) → ((r >>= put b) >>= rest_valued a k) ≡ (r >>= rest_valued (10 * a + (b - 48)) (suc k))
    run_few_put (Ok r) = ap (λ (n : ℕ). Ok (digits (10 * a + (b - 48)) r.0, n, r.1)) (omega arith)
    run_few_put (Err e) = refl

pub run_valued : (m : ℕ) (s : List ℕ) → valued_at m s ≡ run_at (suc m) 0 0 s
unfolding valued_at digits_at one_at run_at
run_valued m [] = refl
run_valued m (b ∷ s) = elim (bool_tells (is_digit b)) [
  | inl t ↦ rw t (run_valued_put (few_at is_digit m s) ∙ run_few m (10 * 0 + (b - 48)) 0 s)
  | inr t ↦ rw t refl
]
  where
    run_valued_put : (r : Result (List ℕ × List ℕ) ℕ) → ((r >>= λ o. Ok (b ∷ o.0, o.1)) >>= valued) ≡ (r >>= rest_valued (10 * 0 + (b - 48)) 0)
    run_valued_put (Ok r) = ap (λ (n : ℕ). Ok (digits (10 * 0 + (b - 48)) r.0, n, r.1)) (omega arith)
    run_valued_put (Err e) = refl

pub run_begins : (m n : ℕ) (s : List ℕ) → n ≡ suc m → run_at n 0 0 s ≡ valued_at m s
run_begins m n s e = ap (λ (x : ℕ). run_at x 0 0 s) e ∙ sym (run_valued m s)

pub run_step : (m n a k : ℕ) (s t : List ℕ) → m ≡ suc n → t ≡ drop 1 s → 1 ≤ length s → is_digit (get_or s 0 0) ≡ true → run_at n (10 * a + (get_or s 0 0 - 48)) (k + 1) t ≡ run_at m a k s
unfolding run_at
run_step m n a k [] t e f l d = absurd (omega arith)
run_step m n a k (b ∷ s) t e f l d = rw (e, f, d, add-one) refl

pub run_full : (m a k : ℕ) (s : List ℕ) → m ≡ 0 → 1 ≤ length s → is_digit (get_or s 0 0) ≡ true → run_at m a k s ≡ Err (length s)
unfolding run_at
run_full m a k [] e l d = absurd (omega arith)
run_full m a k (b ∷ s) e l d = rw (e, d) refl

pub run_nil : (m a k : ℕ) (s : List ℕ) → length s < 1 → run_at m a k s ≡ stop a k s
unfolding run_at
run_nil m a k [] l = refl
run_nil m a k (b ∷ s) l = absurd (omega arith)

pub run_other : (m a k : ℕ) (s : List ℕ) → 1 ≤ length s → is_digit (get_or s 0 0) ≡ false → run_at m a k s ≡ stop a k s
unfolding run_at
run_other m a k [] l d = absurd (omega arith)
run_other zero a k (b ∷ s) l d = rw d refl
run_other (suc m) a k (b ∷ s) l d = rw d refl

pub stop_none : (a k : ℕ) (s : List ℕ) → k ≡ 0 → stop a k s ≡ Err (length s)
stop_none a k s e = rw e refl

pub stop_some : (a k : ℕ) (s : List ℕ) → (k ≡ 0 → ⊥) → stop a k s ≡ Ok (a, k, s)
stop_some a zero s e = absurd (e refl)
stop_some a (suc k) s e = refl

pub digit_below : (b : ℕ) → is_digit b ≡ true → b - 48 < 10
digit_below b d = grind (arith, nat_tests)

pub more_below : (v d c : ℕ) → v < 10 ^ c → d < 10 → 10 * v + d < 10 ^ (c + 1)
more_below v d c h i = rw (add-one, pow-succ') (omega arith)

pub below_power : (v c m : ℕ) → v < 10 ^ c → c ≤ m → v < 10 ^ m
below_power v c m h l = let p : 10 ^ c ≤ 10 ^ m = pow-le-pow_right {n = 10} (omega arith) l in omega arith

-- a digit more of a number that may not be 0
pub nonzero_goes_on : (m n a : ℕ) (s t : List ℕ) → m ≡ suc n → t ≡ drop 1 s → 1 ≤ length s → is_digit (get_or s 0 0) ≡ true → (m ≡ 1 → 10 * a + (get_or s 0 0 - 48) ≡ 0 → ⊥) → nonzero_at n (10 * a + (get_or s 0 0 - 48)) t ≡ nonzero_at m a s
unfolding nonzero_at
nonzero_goes_on m n a [] t e f l d some = absurd (omega arith)
nonzero_goes_on m zero a (b ∷ s) t e f l d some = elim (eqb_tells (10 * a + (b - 48)) 0) [ inl q ↦ absurd (some e q.1) | inr q ↦ rw (e, f, d, q.0) refl ]
nonzero_goes_on m (suc n) a (b ∷ s) t e f l d some = rw (e, f, d) refl

pub more_room : (v d r : ℕ) → v < 10 ^ (4 - r) → d < 10 → 1 ≤ r → r ≤ 4 → 10 * v + d < 10 ^ (4 - (r - 1))
more_room v d r h i j k = let e : 4 - (r - 1) ≡ (4 - r) + 1 = omega arith in rw e (more_below v d (4 - r) h i)
