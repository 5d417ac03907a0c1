-- The attributes of stays, by number.
use Rattle.std.specs.Prelude.{ℕ, ◌<◌, List, map, AllPairs}
use Rattle.std.specs.List.Sorted.{IsPermutation}
use Rattle.problem_core.specs.declared.parts.Stay.{Stay}

-- the attributes are those of the stays, by rising number
pub record AreNumbersOf (stays : List Stay) (attrs : List ℕ) : Type 0 where
  pub same : IsPermutation (map (λ s. s.attr) stays) attrs
  pub rising : AllPairs (λ a b. a < b) attrs
