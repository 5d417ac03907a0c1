-- A stay costs nothing at another level than its own.
use Rattle.std.proofs.Common.{◌≡◌, ◌≢◌, ◌∙◌, ℕ, ◌+◌, ◌/◌, ◌<◌, Bool, cond, List, [], ◌∷◌, refl, ap, ap₂, arith, ℤ, pos, ◌+ℤ◌, ◌*ℤ◌, ne_eqb}
use Rattle.frac_core.proofs.Integers.{mul-zero_ℤ, zero-mul_ℤ}
use Rattle.frac_core.specs.Fraction.{Fraction}
use Rattle.problem_core.specs.declared.parts.RowName.TheVariants.{Stay as StayOf}
use Rattle.problem_core.specs.declared.parts.Side.TheVariants.{Under, Over}
use Rattle.problem_core.specs.declared.parts.Stay.{Stay}
use Rattle.problem_core.specs.Layout.{line_of_stay, stay_lines, sum_of}
use Rattle.problem_core.specs.Certificates.{weight_at}
use Rattle.problem_core.specs.Corners.{place_of}
use Rattle.problem_core.specs.Levels.{line_cost}
use Rattle.corner_lines.specs.Joins.{new_stay}

pub free_stay : (q k level : ℕ) (attr : ℕ) (target : Fraction) (x : ℕ → ℤ) → level ≢ k → pos q *ℤ line_cost k x (line_of_stay level (new_stay attr target)) ≡ pos 0
free_stay q k level attr target x ne =
    let none : weight_at (line_of_stay level (new_stay attr target)) k ≡ 0 = ap (λ (b : Bool). cond b 1 0) (ne_eqb level k ne) in
    ap (λ (n : ℕ). pos q *ℤ (pos n *ℤ x (place_of (StayOf attr) Under) +ℤ pos n *ℤ x (place_of (StayOf attr) Over))) none
    ∙ ap₂ (λ (y z : ℤ). pos q *ℤ (y +ℤ z)) (zero-mul_ℤ (x (place_of (StayOf attr) Under))) (zero-mul_ℤ (x (place_of (StayOf attr) Over)))
    ∙ mul-zero_ℤ (pos q)

-- stays cost nothing at a level before theirs
pub stays_cost : (s k base : ℕ) (x : ℕ → ℤ) (stays : List Stay) → k < base → sum_of (λ l. pos (s / l.scale) *ℤ line_cost k x l) (stay_lines base stays) ≡ pos 0
stays_cost s k base x [] lt = refl
stays_cost s k base x (r ∷ stays) lt =
    ap₂ ◌+ℤ◌ (free_stay (s / 1) k base r.attr r.target x (λ e. absurd (omega (arith, e, lt)))) (stays_cost s k (base + 1) x stays (omega (arith, lt)))
