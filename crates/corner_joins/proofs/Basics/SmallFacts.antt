-- What is used everywhere and says little: numbers, the weight of a line.
use Rattle.std.proofs.Common.{◌≡◌, ◌∙◌, sym, ℤ, pos, ◌*ℤ◌, ℕ, ◌-◌, Bool, cond, ap, eq-eqb, suc, ◌+◌, arith}
use Rattle.frac_core.proofs.Numbers.{times-one}
use Rattle.problem_core.specs.Layout.{Row, line_of_row}
use Rattle.problem_core.specs.Certificates.{weight_at}

pub one-step : (a b : ℤ) → a ≡ b → a ≡ b *ℤ pos 1
one-step a b e = e ∙ sym (times-one b)

pub weight-there : (r : Row) (l : ℕ) → l ≡ 1000 - r.rank → weight_at (line_of_row r) l ≡ r.weight
weight-there r l e = ap (λ (b : Bool). cond b r.weight 0) (eq-eqb (1000 - r.rank) l (sym e))

pub no-more : (n : ℕ) → suc n ≡ n + 1
no-more n = omega arith
