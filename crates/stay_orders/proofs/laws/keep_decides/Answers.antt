use Rattle.std.proofs.Common.{◌≡◌, ℕ, Bool, true, false, cond, List, [], ◌∷◌, refl, ap, arith, rules, ne_eqb}
use Rattle.std.proofs.lemmas.List.Elements.{All-from_recursion}
use Rattle.problem_core.specs.declared.limits.TheConstants.{REQUIRED}
use Rattle.problem_core.specs.Layout.{Row, error, line_of_row}
use Rattle.stay_orders.specs.Examples.{both, ten}
use Rattle.stay_orders.proofs.laws.keep_decides.Goals as goal

pub returns : goal.returns
returns c = record {
  first = All-from_recursion (λ r. r.rank ≡ REQUIRED → error (both 0 10) (line_of_row r) ≡ 0) (ten ∷ []) ((λ e. refl), tt);
  second = All-from_recursion (λ r. r.rank ≡ REQUIRED → error (both 10 0) (line_of_row r) ≡ 0) (ten ∷ []) ((λ e. refl), tt);
  plain_is = (1001, (λ k lt. let a = ne_eqb 1001 k (λ e. omega (arith, e, lt)) in let b = ne_eqb 1002 k (λ e. omega (arith, e, lt)) in rw (a, b) (search rules)), search rules);
  kept_is = (1001, (λ k lt. let a = ne_eqb 1001 k (λ e. omega (arith, e, lt)) in let b = ne_eqb 1002 k (λ e. omega (arith, e, lt)) in rw (a, b) (search rules)), search rules);
}
