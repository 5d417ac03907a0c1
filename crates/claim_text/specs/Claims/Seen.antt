-- The stays that a claim has named so far.
use Rattle.std.specs.Prelude.{◌≡◌, ℕ, List, [], None, map, All, MatchOption}
use Rattle.std.specs.Ordering.{nat_cmp}
use Rattle.std.specs.BTreeMap.{BTreeMap, get}
use Rattle.problem_core.specs.declared.parts.RowName.{RowName}
use Rattle.problem_core.specs.declared.parts.RowName.TheVariants.{Held, Stay as StayRow}
use Rattle.problem_core.specs.declared.parts.Level.{Level}
use Rattle.problem_core.specs.declared.parts.Level.TheVariants.{Stay as StayLevel}
use Rattle.claim_text.specs.declared.claim.seen.Seen.{Seen}
use Rattle.claim_text.specs.declared.claim.draft.Stage.{Stage}
use Rattle.claim_text.specs.declared.claim.draft.Stage.TheVariants.{Values, Levels, Bys, Conflict, Path}
use Rattle.claim_text.specs.Claims.ClaimTexts.{Draft, closed}
use Rattle.claim_writing.specs.Names.{IsRowBefore, IsLevelBefore}

-- a stay of the attribute may follow all of these exactly if the attribute is no key
abbrev pub AreKeys : {A : Type 0} → (A → ℕ → Type 0) → List A → BTreeMap ℕ ℕ → Type 0
AreKeys MayPrecede xs keys = (attr : ℕ) → MatchOption (get nat_cmp keys attr)
    (All (λ x. MayPrecede x attr) xs) (λ _. All (λ x. MayPrecede x attr) xs → ⊥)

-- the keys are the attributes of the stays among these rows
abbrev pub AreRowKeys : List RowName → BTreeMap ℕ ℕ → Type 0
AreRowKeys rows keys = AreKeys (λ row attr. IsRowBefore row (StayRow attr)) rows keys

-- the row may follow rows whose last one this is, if the stays among them are the keys
abbrev pub MayStandBehind : BTreeMap ℕ ℕ → RowName → RowName → Type 0
MayStandBehind keys last (Held id) = IsRowBefore last (Held id)
MayStandBehind keys last (StayRow attr) = get nat_cmp keys attr ≡ None

-- the keys are the attributes of the stays among these levels
abbrev pub AreLevelKeys : List Level → BTreeMap ℕ ℕ → Type 0
AreLevelKeys levels keys = AreKeys (λ level attr. IsLevelBefore level (StayLevel attr)) levels keys

-- the rows that have multipliers at the open level, or in a conflict
abbrev pub rows_of : Draft → List RowName
rows_of d = map (λ b. b.row) d.bys

-- the levels so far, the open one among them
abbrev pub levels_of : Draft → List Level
levels_of d = map (λ l. l.level) (closed d.stage d.levels d.bys)

-- the rows of the marks of a path's first corner
abbrev pub marked_rows : Stage → List RowName
marked_rows Values = []
marked_rows Levels = []
marked_rows (Bys l) = []
marked_rows Conflict = []
marked_rows (Path d) = map (λ m. m.row) d.corner

-- the stays named so far: by multipliers of the open list, by a path's first corner, and by levels
pub record AreSeen (d : Draft) (seen : Seen) : Type 0 where
  pub rows : AreRowKeys (rows_of d) seen.rows
  pub marks : AreRowKeys (marked_rows d.stage) seen.marks
  pub levels : AreLevelKeys (levels_of d) seen.levels
