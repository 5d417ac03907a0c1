-- A corner's own certificate: the multipliers of its levels, each level in lowest terms.
use Rattle.std.specs.Prelude.{◌≡◌, ◌≢◌, ℕ, cond, nat_eq, List, [], ◌∷◌, map, ℤ, pos, ◌*ℤ◌, unsigned_abs, All}
use Rattle.std.specs.Prelude.{AllPairs}
use Rattle.std.specs.Int.{◌∣◌}
use Rattle.problem_core.specs.declared.parts.Level.{Level}
use Rattle.problem_core.specs.declared.parts.Mark.{Mark}
use Rattle.problem_core.specs.declared.parts.RowName.{RowName}
use Rattle.problem_core.specs.Layout.{Problem, lines}
use Rattle.problem_core.specs.Levels.{IsLevelAt, IsLevelWriting}
use Rattle.cert_core.specs.declared.by.By.{By}
use Rattle.cert_core.specs.Claims.{BestLevel}
use Rattle.cert_checker.specs.LinePlaces.{names}
use Rattle.corner_view.specs.Seen.{HasNumbers, IsInUse, IsStronger}

-- the multipliers that are not 0, in the order of the names
abbrev pub nonzero_times : (RowName → ℤ) → List RowName → List By
nonzero_times times [] = []
nonzero_times times (name ∷ rest) = cond (nat_eq (unsigned_abs (times name)) 0) (nonzero_times times rest)
    (record { row = name; times = times name } ∷ nonzero_times times rest)

-- each multiplier times a factor
abbrev pub multiplied : ℕ → List By → List By
multiplied factor bys = map (λ b. record { row = b.row; times = pos factor *ℤ b.times }) bys

-- the scale and the multipliers of the level's cost at the corner, those that are not 0 in the order of the
-- lines, all divided by the factor that they share
pub record IsOwnLevel (p : Problem) (at : List Mark) (l : BestLevel) : Type 0 where
  pub number : ℕ
  pub place : IsLevelAt p l.level number
  pub scale : ℕ
  pub times : RowName → ℤ
  pub reduced : ℕ → ℤ
  pub writing : IsLevelWriting p at number scale times reduced
  pub factor : ℕ
  pub scale_is : pos factor *ℤ l.scale ≡ pos scale
  pub by_is : multiplied factor l.by ≡ nonzero_times times (names p)
  pub lowest : (k : ℕ) → k ∣ unsigned_abs l.scale → All (λ b. k ∣ unsigned_abs b.times) l.by → k ≡ 1

-- all multipliers of the level are 0
abbrev pub HasNoNeed : Problem → List Mark → Level → Type 0
HasNoNeed p at level = HasNumbers p at level
    (λ scale times reduced. All (λ l. times l.name ≡ pos 0) (lines p))

-- the corner's own levels, strongest first, and no level without need
pub record IsOwnBest (p : Problem) (at : List Mark) (levels : List BestLevel) : Type 0 where
  pub own : All (IsOwnLevel p at) levels
  pub needed : All (λ l. l.by ≢ []) levels
  pub order : AllPairs (λ l m. IsStronger p l.level m.level) levels
  pub missing : (level : Level) → IsInUse p level → All (λ l. l.level ≢ level) levels → HasNoNeed p at level
