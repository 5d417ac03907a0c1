-- Sums of lines: a level's cost, and what moves an inside mark.
use Rattle.std.specs.Prelude.{◌≡◌, ◌≢◌, ◌⊎◌, ℕ, ◌*◌, List, ℤ, pos, ◌-ℤ◌, ◌*ℤ◌, neg_ℤ, ◌≤ℤ◌, ◌<ℤ◌, All}
use Rattle.problem_core.specs.declared.parts.Mark.{Mark}
use Rattle.problem_core.specs.declared.parts.Side.{Side}
use Rattle.problem_core.specs.declared.parts.Side.TheVariants.{Under, Over}
use Rattle.problem_core.specs.declared.parts.RowName.{RowName}
use Rattle.problem_core.specs.declared.parts.Term.{Term}
use Rattle.problem_core.specs.Layout.{Problem, lines, coefficient, sum_of}
use Rattle.problem_core.specs.Certificates.{IsLexNonnegative}
use Rattle.problem_core.specs.Corners.{IsIn, Swap, place, place_of}
use Rattle.problem_core.specs.Levels.{IsLevelWriting}
pub use Rattle.corner_laws.specs.Equations.{IsLevelSum}
use Rattle.problem_core.specs.Unfit.{IsWritingOf}

-- the lines, each as often as its multiplier says, are an equation between the mark with the column c and the
-- outside marks
pub record IsRowOf (p : Problem) (at : List Mark) (c : ℕ) (times : RowName → ℤ) (entry : ℕ → ℤ) : Type 0 where
  pub cancel : (v : ℕ) → sum_of (λ l. times l.name *ℤ coefficient v l.form) (lines p) ≡ pos 0
  pub under : All (λ l. entry (place_of l.name Under) ≡ times l.name) (lines p)
  pub over : All (λ l. entry (place_of l.name Over) ≡ neg_ℤ (times l.name)) (lines p)
  pub inside_zero : (side : Side) → All (λ l. IsIn (place_of l.name side) at → place_of l.name side ≢ c
      → entry (place_of l.name side) ≡ pos 0) (lines p)

-- ---- the dual ratio rule

-- at each level the cost's sum
abbrev pub AreLevelSums : Problem → List Mark → (ℕ → ℕ) → (ℕ → RowName → ℤ) → (ℕ → ℕ → ℤ) → Type 0
AreLevelSums p at scale times reduced = (level : ℕ)
    → IsLevelSum p at level (scale level) (times level) (reduced level)

-- in the leaving mark's row the entering one has a number of the other sign; and of all marks with such a
-- number it has the least column over the size of its number
pub record IsLeastRatio (p : Problem) (s : Swap) (entry : ℕ → ℤ) (reduced : ℕ → ℕ → ℤ) : Type 0 where
  pub leaving : pos 0 <ℤ entry (place s.leave)
  pub entering : entry (place s.enter) <ℤ pos 0
  pub least : (side : Side) → All (λ l. entry (place_of l.name side) <ℤ pos 0
      → IsLexNonnegative (λ level. entry (place_of l.name side) *ℤ reduced level (place s.enter)
      -ℤ entry (place s.enter) *ℤ reduced level (place_of l.name side))) (lines p)

-- the same by writings: of the outside marks with which the leaving one grows, the entering one has the least
-- column over its number
abbrev pub IsDualChoice : Problem → ℕ → List Term → (ℕ → ℕ → ℤ) → Type 0
IsDualChoice p enter form reduced = (pos 0 <ℤ coefficient enter form)
    × ((side : Side) → All (λ l. pos 0 <ℤ coefficient (place_of l.name side) form
    → IsLexNonnegative (λ level. coefficient enter form *ℤ reduced level (place_of l.name side)
    -ℤ coefficient (place_of l.name side) form *ℤ reduced level enter)) (lines p))

-- the reduced costs of a level: those of its writing, and 0 where no line stands
abbrev pub AreReducedAt : Problem → List Mark → ℕ → (ℕ → ℤ) → Type 0
AreReducedAt p at level reduced = ((scale : ℕ) × (times : RowName → ℤ)
    × IsLevelWriting p at level scale times reduced)
    ⊎ (All (λ l. l.level ≢ level) (lines p) × ((v : ℕ) → reduced v ≡ pos 0))

-- ---- the primal ratio rule

-- the writings of the marks inside, by column
pub record Writings : Type 0 where
  pub scale : ℕ → ℕ
  pub form : ℕ → List Term
  pub num : ℕ → ℤ
  pub den : ℕ → ℕ

-- they are the writings of the marks inside
abbrev pub AreWritings : Problem → List Mark → Writings → Type 0
AreWritings p at w = All (λ m. IsWritingOf p at (λ x. x (place m)) (w.scale (place m)) (w.form (place m))
    (w.num (place m)) (w.den (place m))) at

-- of the inside marks that fall where the entering one grows, the leaving one has the least value times its
-- scale over the size of its coefficient
abbrev pub IsPrimalChoice : List Mark → Swap → Writings → Type 0
IsPrimalChoice at s w =
    (coefficient (place s.enter) (w.form (place s.leave)) <ℤ pos 0)
    × All (λ m. coefficient (place s.enter) (w.form (place m)) <ℤ pos 0
    → (w.num (place m) *ℤ (coefficient (place s.enter) (w.form (place s.leave))
    *ℤ pos (w.scale (place m) * w.den (place s.leave))))
    ≤ℤ (w.num (place s.leave) *ℤ (coefficient (place s.enter) (w.form (place m))
    *ℤ pos (w.scale (place s.leave) * w.den (place m))))) at
