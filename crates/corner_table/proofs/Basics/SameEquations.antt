-- Of the equation of a quantity by lines, the numbers of lines alone count.
use Rattle.std.proofs.Common.{◌≡◌, zero, suc, List, [], ◌∷◌, refl, ap₂, arith, ℤ, ◌+ℤ◌, All, ◌∙◌, ℕ, ap, subst}
use Rattle.std.proofs.Common.{pos, ◌*ℤ◌, ◌-ℤ◌, slice_index_or, unsigned_abs}
use Rattle.problem_core.specs.Layout.{Line, sum_of, Problem, lines}
use Rattle.std.specs.Int.{◌∣◌}
use Rattle.problem_core.specs.declared.parts.Mark.{Mark}
use Rattle.problem_core.specs.declared.parts.RowName.{RowName}
use Rattle.corner_lines.specs.LineEquations.{IsLineEquation, deviation}

pub sum_same : (f g : Line → ℤ) (ls : List Line) → All (λ l. f l ≡ g l) ls → sum_of f ls ≡ sum_of g ls
sum_same f g [] h = refl
sum_same f g (l ∷ ls) h = ap₂ ◌+ℤ◌ (h zero l (omega arith)) (sum_same f g ls (λ k x lt. h (suc k) x (omega (arith, lt))))

-- the numbers of lines alone count
pub same_numbers : (p : Problem) (at : List Mark) (quantity : (ℕ → ℤ) → ℤ) (own : ℕ) (by to : RowName → ℤ) (num : ℤ) (den : ℕ) → All (λ l. to l.name ≡ by l.name) (lines p) → IsLineEquation p at quantity own by num den → IsLineEquation p at quantity own to num den
same_numbers p at quantity own by to num den same e = record {
  own_positive = e.own_positive;
  den_positive = e.den_positive;
  outside = λ k x lt ne. e.outside k x lt (λ z. ne (same k x lt ∙ z));
  holds = λ x solves. ap (λ (z : ℤ). pos den *ℤ (pos own *ℤ quantity x.num -ℤ z))
      (sum_same (λ l. to l.name *ℤ deviation l.name x.num) (λ l. by l.name *ℤ deviation l.name x.num) (lines p) (λ k y lt. ap (λ (z : ℤ). z *ℤ deviation (slice_index_or (lines p) k y).name x.num) (same k y lt)))
      ∙ e.holds x solves;
  lowest = λ d h each. e.lowest d h (λ k x lt. subst (λ (z : ℤ). d ∣ unsigned_abs z) (same k x lt) (each k x lt));
}
