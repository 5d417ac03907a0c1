-- Which columns may turn negative where some stays come first.
use Rattle.std.specs.Prelude.{◌≡◌, ℕ, List, [], ◌∷◌, ℤ, pos, negsuc, cond, nat_eq, All, Contains}
use Rattle.std.specs.Ordering.{int_eq}
use Rattle.problem_core.specs.declared.parts.Stay.{Stay}
use Rattle.stay_orders.specs.Examples.{four}
use Rattle.stay_orders.specs.Orders.{with_front}

-- the first of what a column costs at the stays' levels that isn't 0, and 0 where there is none
abbrev pub first_cost : (Stay → ℤ) → List Stay → ℤ
first_cost f [] = pos 0
first_cost f (s ∷ stays) = cond (int_eq (f s) (pos 0)) (first_cost f stays) (f s)

-- where a column costs nothing at a stay that comes first, its first cost is that of before
abbrev pub OnlyFrontedTurn : Type 0
OnlyFrontedTurn = (f : Stay → ℤ) (attrs : List ℕ) (stays : List Stay)
    → All (λ s. Contains attrs s.attr → f s ≡ pos 0) stays
    → first_cost f (with_front attrs stays) ≡ first_cost f stays

-- a column with 1 at the stay of 2 and -1 at that of 3
abbrev pub column : Stay → ℤ
column s = cond (nat_eq s.attr 2) (pos 1) (cond (nat_eq s.attr 3) (negsuc 0) (pos 0))

-- it turns negative where 3 comes first, and only then
pub record SomeTurn : Type 0 where
  pub before : first_cost column four ≡ pos 1
  pub turned : first_cost column (with_front (3 ∷ []) four) ≡ negsuc 0
  pub other : first_cost column (with_front (4 ∷ []) four) ≡ pos 1
  pub behind : first_cost column (with_front (2 ∷ 3 ∷ []) four) ≡ pos 1
