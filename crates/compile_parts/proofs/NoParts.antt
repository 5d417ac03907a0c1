-- Attributes that are left out.
use Rattle.std.proofs.Common.{◌≡◌, ℕ, [], ◌∷◌, ℤ, pos, ◌+ℤ◌, ◌*ℤ◌, cond, nat_eq, true, false, refl, ap, ap₂, ◌∙◌, arith, inl, inr}
use Rattle.std.proofs.lemmas.Bool.{cases_eq}
use Rattle.std.proofs.lemmas.Bool.Decides.{nat_tests}
use Rattle.frac_core.proofs.Integers.{mul-zero_ℤ}
use Rattle.problem_core.specs.declared.parts.Term.{Term}
use Rattle.problem_core.specs.Layout.{coefficient}

zero_at : (v a : ℕ) (b : ℤ) → (a ≡ v → b ≡ pos 0) → cond (nat_eq a v) b (pos 0) ≡ pos 0
zero_at v a b none = elim (cases_eq a v) [
  | inl same ↦ (let yes : nat_eq a v ≡ true = grind (arith, nat_tests) in rw yes (none same))
  | inr other ↦ (let no : nat_eq a v ≡ false = grind (arith, nat_tests) in rw no refl)
]

-- what has no part of v has none of it
pub no_part : (v : ℕ) (n : ℤ) (edge size : Term) → (edge.attr ≡ v → edge.by ≡ pos 0) → (size.attr ≡ v → size.by ≡ pos 0) → n *ℤ coefficient v (edge ∷ size ∷ []) ≡ pos 0
no_part v n edge size no_edge no_size =
    ap (λ (z : ℤ). n *ℤ z) (ap₂ (λ (x y : ℤ). x +ℤ (y +ℤ pos 0)) (zero_at v edge.attr edge.by no_edge) (zero_at v size.attr size.by no_size)) ∙ mul-zero_ℤ n
