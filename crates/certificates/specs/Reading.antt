-- What is read of a level.
use Rattle.std.specs.Prelude.{◌≡◌, ◌≢◌, ◌⊎◌, ℕ, List, [], ◌∷◌, ◌++◌, ℤ}
use Rattle.problem_core.specs.declared.parts.Level.{Level}
use Rattle.problem_core.specs.declared.parts.Mark.{Mark}
use Rattle.problem_core.specs.declared.parts.RowName.{RowName}
use Rattle.problem_core.specs.Layout.{Problem}
use Rattle.problem_core.specs.Levels.{IsLevelAt, IsLevelWriting}
use Rattle.cert_core.specs.Claims.{BestLevel}
use Rattle.certificates.specs.OwnLevels.{HasNoNeed, IsOwnLevel}

-- the scale and the multipliers of the writing of the level's cost
pub record AreNumbersAt (p : Problem) (at : List Mark) (level : Level) (scale : ℕ) (times : RowName → ℤ)
    : Type 0 where
  pub number : ℕ
  pub place : IsLevelAt p level number
  pub reduced : ℕ → ℤ
  pub writing : IsLevelWriting p at number scale times reduced

-- the level's numbers stand at the end, or all its multipliers are 0
abbrev pub IsPushed : Problem → List Mark → Level → List BestLevel → List BestLevel → Type 0
IsPushed p at level old new = ((new ≡ old) × HasNoNeed p at level)
    ⊎ ((l : BestLevel) × (new ≡ old ++ l ∷ []) × (l.level ≡ level) × IsOwnLevel p at l × (l.by ≢ []))
