-- Multipliers that show a conflict: `x >= 7` and `x <= 5`.
use Rattle.std.proofs.Common.{◌≡◌, ◌≢◌, ℕ, List, [], ◌∷◌, ℤ, pos, negsuc, ◌+ℤ◌, ◌*ℤ◌, unsigned_abs, refl, arith, Any}
use Rattle.std.specs.Int.{◌∣◌}
use Rattle.std.proofs.lemmas.List.Elements.{All-from_recursion, recursion_from_All}
use Rattle.std.proofs.lemmas.List.Kept.{AllPairs-cons}
use Rattle.std.proofs.lemmas.Nat.Gcd.{dvd_refl, dvd_antisymm}
use Rattle.std.proofs.Math.Nat.{one-dvd}
use borrow.Author.Differences.{ints}
use Rattle.problem_core.specs.declared.parts.Rel.TheVariants.{Ge, Le}
use Rattle.problem_core.specs.declared.parts.RowName.TheVariants.{Held}
use Rattle.problem_core.specs.Layout.{Problem, Row, coefficient}
use Rattle.problem_core.specs.Certificates.{HasSign, required}
use Rattle.cert_core.specs.declared.by.By.{By}
use Rattle.cert_core.specs.Claims.{times_of}
use Rattle.cert_core.specs.Stops.{ComesBefore, IsShownConflict}

abbrev pub seven : Row
seven = record { id = 1; rank = 1000; weight = 1; rel = Ge; scale = 1; constant = record { num = pos 7; den = 1 }; terms = record { attr = 1; by = pos 1 } ∷ [] }

abbrev pub five : Row
five = record { id = 2; rank = 1000; weight = 1; rel = Le; scale = 1; constant = record { num = pos 5; den = 1 }; terms = record { attr = 1; by = pos 1 } ∷ [] }

abbrev pub opposed : Problem
opposed = record { rows = seven ∷ five ∷ []; stays = record { attr = 1; target = record { num = pos 0; den = 1 } } ∷ [] }

abbrev pub one_each : List By
one_each = record { row = Held 1; times = pos 1 } ∷ record { row = Held 2; times = negsuc 0 } ∷ []

abbrev pub two_each : List By
two_each = record { row = Held 1; times = pos 2 } ∷ record { row = Held 2; times = negsuc 1 } ∷ []

difference : (c : ℤ) → (pos 1 +ℤ (pos 0 +ℤ pos 0)) *ℤ c +ℤ ((pos 0 +ℤ (negsuc 0 +ℤ pos 0)) *ℤ c +ℤ pos 0) ≡ pos 0
difference c = omega (arith, ints)

pub shown : IsShownConflict opposed one_each
shown = record {
  refutes = record {
    cancel = λ v. difference (coefficient v seven.terms);
    signs = All-from_recursion (λ r. HasSign r.rel (times_of one_each (Held r.id))) (required opposed) (record { le = tt }, (record { le = tt }, tt));
    above_zero = record { lt = tt };
  };
  named = All-from_recursion (λ b. Any (λ r. b.row ≡ Held r.id) (required opposed)) one_each ((0, seven, omega arith, refl, refl), ((1, five, omega arith, refl, refl), tt));
  nonzero = All-from_recursion (λ b. b.times ≢ pos 0) one_each ((λ e. absurd (omega (arith, ints, e))), ((λ e. absurd (omega (arith, ints, e))), tt));
  rising = AllPairs-cons (λ (a b : By). ComesBefore a.row b.row) (record { row = Held 1; times = pos 1 }) (record { row = Held 2; times = negsuc 0 } ∷ []) (All-from_recursion (λ (b : By). ComesBefore (Held 1) b.row) (record { row = Held 2; times = negsuc 0 } ∷ []) (omega arith, tt)) (λ i j d less within. absurd (omega (arith, less, within)));
  lowest = λ k h. dvd_antisymm ((recursion_from_All (λ b. k ∣ unsigned_abs b.times) one_each h).0) (one-dvd k);
}

two-one : ◌≡◌ {A = ℕ} 2 1 → ⊥
two-one e = absurd (omega (arith, e))

-- with the factor 2 they are not shown
pub not_shown : IsShownConflict opposed two_each → ⊥
not_shown h = two-one (h.lowest 2 (All-from_recursion (λ b. 2 ∣ unsigned_abs b.times) two_each (dvd_refl 2, (dvd_refl 2, tt))))
