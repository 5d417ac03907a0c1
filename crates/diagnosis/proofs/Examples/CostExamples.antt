-- A priority at which something is lacking.
use Rattle.std.proofs.Common.{◌≡◌, ◌≢◌, ◌∙◌, ℕ, ◌+◌, ◌-◌, ◌*◌, ◌<◌, ◌≤◌, ◌%◌, Bool, cond, [], ◌∷◌, pos, ◌*ℤ◌, refl, sym, ap, arith, ne_eqb}
use Rattle.std.proofs.lemmas.List.Elements.{All-from_recursion, All-nil}
use Rattle.std.proofs.lemmas.Nat.Gcd.{IsGcd-from_mod, IsGcd-from_zero}
use borrow.Author.Differences.{ints}
use Rattle.frac_core.specs.Fraction.{Fraction, IsLowest}
use Rattle.problem_core.specs.Layout.{Assignment, Gives, Problem, cost, error, line_of_row, lines, share}
use Rattle.cert_checker.specs.Certifying.{EachGiven}
use Rattle.certificates.specs.Errors.{IsLevelCost}
use Rattle.diagnosis.specs.Costs.{AreCosts}
use Rattle.diagnosis.specs.Examples.{whole, wish_row}
use Rattle.diagnosis.proofs.Examples.UnmetExamples.{at, at_gives, values, wish_error}

abbrev wish : Problem
wish = record { rows = wish_row ∷ []; stays = [] }

-- the wish of weight 2 lacks 3, so that its priority lacks 6
cost-there : (x : Assignment) → Gives (values 3) x → cost (lines wish) x 980 ≡ 6 * x.den
cost-there x gives =
    let e : 2 * error x (line_of_row wish_row) * 1 + 0 ≡ 2 * (3 * x.den) * 1 + 0 = ap (λ (n : ℕ). 2 * n * 1 + 0) (wish_error 3 x gives) in
    e ∙ (let q : 2 * (3 * x.den) * 1 + 0 ≡ 6 * x.den = omega arith in q)

six-there : EachGiven (values 3) (λ x. IsLevelCost wish x 980 (whole 6))
six-there x gives =
    let d : pos 6 *ℤ pos (x.den * 1) ≡ pos (6 * x.den) *ℤ pos 1 = ap pos (let q : 6 * (x.den * 1) ≡ 6 * x.den * 1 = omega arith in q) in
    d ∙ ap (λ (k : ℕ). pos k *ℤ pos 1) (sym (cost-there x gives))

none-elsewhere : (x : Assignment) (level : ℕ) → 980 ≢ level → cost (lines wish) x level ≡ 0
none-elsewhere x level other = ap (λ (b : Bool). cond b (2 * error x (line_of_row wish_row) * share (lines wish) (line_of_row wish_row)) 0 + 0) (ne_eqb 980 level other)

six-lowest : IsLowest (whole 6)
six-lowest = record { above = omega arith; coprime = IsGcd-from_mod 6 1 1 (IsGcd-from_zero 1 (6 % 1) refl) }

pub wish_costs : AreCosts wish (values 3) 1 ((20, whole 6) ∷ [])
wish_costs = record {
  sums = All-from_recursion (λ c. (1 ≤ c.0) × (c.0 < 1000) × EachGiven (values 3) (λ x. IsLevelCost wish x (1000 - c.0) c.1)) ((20, whole 6) ∷ []) ((omega arith, omega arith, six-there), tt);
  lowest = All-from_recursion (λ (c : ℕ × Fraction). IsLowest c.1) ((20, whole 6) ∷ []) (six-lowest, tt);
  lacking = All-from_recursion (λ (c : ℕ × Fraction). c.1.num ≢ pos 0) ((20, whole 6) ∷ []) ((λ e. absurd (omega (arith, ints, e))), tt);
  falling = λ i j d less within. absurd (omega (arith, less, within));
  all = λ rank high low apart x gives.
      none-elsewhere x (1000 - rank) (λ e. apart 0 (20, whole 6) (omega arith) (let q : 20 ≡ rank = omega (arith, low, e) in q));
}

-- it lacks more than nothing
pub wish_not_costless : AreCosts wish (values 3) 1 [] → ⊥
unfolding at
wish_not_costless are =
    let none = are.all 20 (omega arith) (omega arith) (All-nil (λ (c : ℕ × Fraction). c.0 ≢ 20)) (at 3) (at_gives 3) in
    let six = cost-there (at 3) (at_gives 3) in
    absurd (omega (arith, none, six))

-- and not 3, which no weight counts in
pub wish_not_unweighted : AreCosts wish (values 3) 1 ((20, whole 3) ∷ []) → ⊥
unfolding at
wish_not_unweighted are =
    let three : pos 3 *ℤ pos (1 * 1) ≡ pos (cost (lines wish) (at 3) 980) *ℤ pos 1 = (are.sums 0 (20, whole 3) (omega arith)).2 (at 3) (at_gives 3) in
    let six = cost-there (at 3) (at_gives 3) in
    absurd (omega (arith, ints, three, six))
