-- Numbers of rows that aren't named.
use Rattle.std.proofs.Common.{◌≡◌, ◌≢◌, ℕ, Bool, cond, ap, ℤ, pos, neg_ℤ, ne_eqb, ◌∙◌, ◌*◌, ◌/◌, sym, arith, ◌*ℤ◌}
use Rattle.problem_core.specs.declared.parts.RowName.{RowName}
use Rattle.problem_core.specs.declared.parts.Side.TheVariants.{Under}
use Rattle.problem_core.specs.Corners.{place_of}
use Rattle.corner_laws.proofs.LevelCosts.Unique.{same-name}
use Rattle.corner_lines.specs.Levels.LevelRows.{line_numbers}
use Rattle.frac_core.proofs.Integers.{mul_assoc_ℤ}

pub same-parts : (k times g : ℕ) (z : ℤ) → times / g * g ≡ times → pos (k * g) *ℤ (pos (times / g) *ℤ z) ≡ pos (k * times) *ℤ z
same-parts k times g z e =
    sym (mul_assoc_ℤ (pos (k * g)) (pos (times / g)) z) ∙ ap (λ (n : ℕ). pos n *ℤ z) (let q : ℕ = times / g in let f : k * g * (times / g) ≡ k * (times / g * g) = omega arith in f ∙ ap (λ (m : ℕ). k * m) e)

pub other-number : (name : RowName) (own : ℕ) (by : RowName → ℤ) (l : RowName) → l ≢ name → line_numbers name own by l ≡ by l
other-number name own by l ne = ap (λ (b : Bool). cond b (neg_ℤ (pos own)) (by l)) (ne_eqb (place_of l Under) (place_of name Under) (λ e. ne (same-name l name e)))
