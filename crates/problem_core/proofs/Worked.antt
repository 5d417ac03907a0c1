-- A worked conflict.
use Rattle.std.proofs.Common.{◌≡◌, Bool, true, false, cond, nat_eq, [], ◌∷◌, pos, negsuc, ◌+ℤ◌, ◌*ℤ◌, refl}
use Rattle.std.proofs.lemmas.List.Elements.{All-from_recursion}
use Rattle.problem_core.specs.declared.parts.Rel.TheVariants.{Ge, Le}
use Rattle.problem_core.specs.Layout.{Problem}
use Rattle.problem_core.specs.Certificates.{IsRefutation, HasSign, required}

-- x at least 200 and at most 100
apart : Problem
apart = record {
  rows = record { id = 7; rank = 1000; weight = 1; rel = Ge; scale = 1; constant = record { num = pos 200; den = 1 }; terms = record { attr = 7; by = pos 1 } ∷ [] }
      ∷ record { id = 8; rank = 1000; weight = 1; rel = Le; scale = 1; constant = record { num = pos 100; den = 1 }; terms = record { attr = 7; by = pos 1 } ∷ [] } ∷ [];
  stays = [];
}

refuted : IsRefutation apart (λ id. cond (nat_eq id 7) (pos 1) (negsuc 0))
unfolding apart
refuted = record {
  cancel = λ v. elim (nat_eq 7 v) as (λ (b : Bool). pos 1 *ℤ (cond b (pos 1) (pos 0) +ℤ pos 0) +ℤ (negsuc 0 *ℤ (cond b (pos 1) (pos 0) +ℤ pos 0) +ℤ pos 0) ≡ pos 0) [ true ↦ refl | false ↦ refl ];
  signs = All-from_recursion (λ r. HasSign r.rel (cond (nat_eq r.id 7) (pos 1) (negsuc 0))) (required apart) (record { le = tt }, (record { le = tt }, tt));
  above_zero = record { lt = tt };
}
