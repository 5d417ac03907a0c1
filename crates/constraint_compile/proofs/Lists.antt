-- What holds of the first elements of a list.
use Rattle.std.proofs.Common.{ℕ, ◌+◌, ◌<◌, List, [], ◌∷◌, ◌++◌, length, get_or, sym, subst, ap, ◌∙◌, ℤ, pos, ◌≡◌, arith, inl, inr}
use Rattle.std.proofs.Math.ListN.{get_or-append}
use Rattle.std.proofs.Math.Seq.{get_or-append_seam}
use Rattle.frac_core.proofs.Numbers.{less-or-here as lt_or_eq}

-- what holds of the first elements of a list and of one more
pub each_pushed_by : {A : Type 0} (P : ℕ → A → Type 0) (xs : List A) (n : ℕ) (x d : A) → length xs ≡ n → ((i : ℕ) → i < n → P i (get_or xs i d)) → P n x → (i : ℕ) → i < n + 1 → P i (get_or (xs ++ x ∷ []) i d)
each_pushed_by {A} P xs n x d long each here i within = elim (lt_or_eq i n within) [
  | inl less ↦ subst (λ (y : A). P i y) (sym (get_or-append xs (x ∷ []) d i (omega (arith, less, long)))) (each i less)
  | inr same ↦
      let last : get_or (xs ++ x ∷ []) i d ≡ x = ap (λ (k : ℕ). get_or (xs ++ x ∷ []) k d) (let e : i ≡ length xs = omega (arith, same, long) in e) ∙ get_or-append_seam xs x [] d in
      subst (λ (k : ℕ). P k (get_or (xs ++ x ∷ []) i d)) (sym same) (subst (λ (y : A). P n y) (sym last) here)
]

pub each_pushed : (f : ℕ → ℤ) (xs : List ℤ) (n : ℕ) (x : ℤ) → length xs ≡ n → ((i : ℕ) → i < n → get_or xs i (pos 0) ≡ f i) → x ≡ f n → (i : ℕ) → i < n + 1 → get_or (xs ++ x ∷ []) i (pos 0) ≡ f i
each_pushed f xs n x long each here = each_pushed_by (λ (i : ℕ) (z : ℤ). z ≡ f i) xs n x (pos 0) long each here
