-- Lists of no name.
use Rattle.std.proofs.Common.{◌≡◌, List, [], ◌∷◌, length, refl, arith}
use Rattle.problem_core.specs.declared.parts.RowName.{RowName}

pub no_name : (names : List RowName) → length names ≡ 0 → names ≡ []
no_name [] e = refl
no_name (name ∷ names) e = absurd (omega (arith, e))
