-- The laws of cores, and of what shows one.
use Rattle.std.specs.Prelude.{◌≡◌, ◌≢◌, ℕ, ◌+◌, ◌^◌, ◌≤◌, List, [], length, All, Contains}
use Rattle.frac_core.specs.Fraction.{Fraction}
use Rattle.problem_core.specs.Layout.{IsInConflict, Problem}
use Rattle.problem_core.specs.Kept.{IsWhole}
use Rattle.cert_core.specs.declared.by.By.{By}
use Rattle.corner_laws.specs.Laws.{AllFit}
use Rattle.conflict_core.specs.Cores.{AreRequired, IsCore, trial}
use Rattle.conflict_core.specs.Shown.{IsFound, IsShownCore}
use Rattle.conflict_core.specs.Trials.{IsCoreStop}
use Rattle.conflict_core.specs.declared.found.Found.{Found}
use Rattle.conflict_core.specs.declared.found.Found.TheVariants.{Solvable}
use Rattle.conflict_core.specs.declared.found.CoreStop.{CoreStop}
use Rattle.conflict_core.specs.declared.found.CoreStop.TheVariants.{OutOfMemory}

-- what has a core is in conflict
abbrev pub CoreIsConflict : Type 0
CoreIsConflict = (p : Problem) (ids : List ℕ) → IsCore p ids → IsInConflict p

-- what is shown is a core
abbrev pub ShownIsCore : Type 0
ShownIsCore = (p : Problem) (ids : List ℕ) (by : List By) (values : List (ℕ × List (ℕ × Fraction)))
    → IsWhole p → IsShownCore p ids by values → IsCore p ids

-- some of a core's rows, but not all, have a solution
abbrev pub ProperPartsAreSolvable : Type 0
ProperPartsAreSolvable = (p : Problem) (ids part : List ℕ) (id : ℕ) → IsCore p ids
    → All (Contains ids) part → Contains ids id → (Contains part id → ⊥) → IsInConflict (trial p part) → ⊥

-- a problem is found solvable exactly if it isn't in conflict
pub record FoundDecides : Type 0 where
  pub solvable : (p : Problem) (f : Found) → IsFound p f → f ≡ Solvable → IsInConflict p → ⊥
  pub core : (p : Problem) (f : Found) → IsWhole p → IsFound p f → f ≢ Solvable → IsInConflict p

-- the budget is at least 3^N, where N counts rows and stays, and each quantity fits at each corner of each
-- trial
pub record HasRoom (p : Problem) (budget : ℕ) : Type 0 where
  pub exchanges : 3 ^ (length p.rows + length p.stays) ≤ budget
  pub fits : (ids : List ℕ) → AreRequired p ids → AllFit (trial p ids) []

-- with room, a trial stops only if memory runs out
abbrev pub CoresAreFound : Type 0
CoresAreFound = (p : Problem) (budget : ℕ) (stop : CoreStop) → IsWhole p → HasRoom p budget
    → IsCoreStop p budget stop → stop ≡ OutOfMemory
