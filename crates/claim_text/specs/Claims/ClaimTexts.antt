-- Which texts are claims, and the line at which a text stops being one.
use Rattle.std.specs.Prelude.{◌≡◌, ℕ, ◌+◌, ◌<◌, ◌≤◌, ◌⊎◌, List, [], ◌∷◌, ◌++◌, length, All, AllPairs}
use Rattle.frac_core.specs.Fraction.{Fraction, IsFitting}
use Rattle.cert_core.specs.declared.by.By.{By}
use Rattle.cert_core.specs.Claims.{BestLevel}
use Rattle.claim_text.specs.declared.claim.lines.ClaimLine.{ClaimLine}
use Rattle.claim_text.specs.declared.claim.lines.ClaimLine.TheVariants.{OfValue, OfBest, OfConflict, OfLevel}
use Rattle.claim_text.specs.declared.claim.lines.ClaimLine.TheVariants.{OfBy, OfPath, OfPart}
use Rattle.claim_text.specs.declared.claim.draft.Stage.{Stage}
use Rattle.claim_text.specs.declared.claim.draft.Stage.TheVariants.{Values, Levels, Bys, Conflict, Path}
use Rattle.claim_writing.specs.declared.claim.Claim.{Claim}
use Rattle.claim_writing.specs.declared.claim.Claim.TheVariants.{IsBest, IsConflict, IsPath}
use Rattle.problem_reading.specs.Stops.{ReadStop}
use Rattle.problem_reading.specs.FirstBad.{IsFirstBad}
use Rattle.frac_core.specs.declared.memory.Stop.TheVariants.{OutOfMemory, Refused}
use Rattle.problem_reading.specs.Words.{words}
use Rattle.claim_writing.specs.ClaimLines.{value_words, level_words, by_words, best_words, conflict_words}
use Rattle.claim_writing.specs.ClaimLines.{IsValue, IsLevelLine, IsBy}
use Rattle.claim_writing.specs.Names.{IsLevelName, IsRowBefore, IsLevelBefore}
use Rattle.claim_text.specs.declared.claim.path_lines.PathLine.{PathLine}
use Rattle.claim_writing.specs.PathTexts.{kind_words}
use Rattle.claim_text.specs.Paths.PathForms.{PathDraft, SaysPart, PartMayFollow, path_begun, with_part}
use Rattle.claim_text.specs.Paths.PathForms.{path_of}
use Rattle.claim_text.specs.Paths.PathForms.{IsPathWritten}

-- the content of a line by itself
abbrev pub Says : List ℕ → ClaimLine → Type 0
Says line (OfValue v) = IsValue v × (words line ≡ value_words v)
Says line OfBest = words line ≡ best_words
Says line OfConflict = words line ≡ conflict_words
Says line (OfLevel l) = IsLevelLine l × (words line ≡ level_words l)
Says line (OfBy b) = IsBy b × (words line ≡ by_words b)
Says line (OfPath dual) = words line ≡ kind_words dual
Says line (OfPart part) = SaysPart line part

-- ---- reading line by line

-- the parts read so far: values, levels that have ended, and the multipliers of the open level or of a
-- conflict; a path is in its stage
pub record Draft : Type 0 where
  pub stage : Stage
  pub values : List (ℕ × Fraction)
  pub levels : List BestLevel
  pub bys : List By

-- nothing, before the first line
abbrev pub nothing_read : Draft
nothing_read = record { stage = Values; values = []; levels = []; bys = [] }

-- the levels, the open one with its multipliers among them
abbrev pub closed : Stage → List BestLevel → List By → List BestLevel
closed Values levels bys = levels
closed Levels levels bys = levels
closed (Bys l) levels bys = levels ++ record { level = l.level; scale = l.scale; by = bys } ∷ []
closed Conflict levels bys = levels
closed (Path d) levels bys = levels

-- the stage is one at which a level may come
abbrev pub TakesLevels : Stage → Type 0
TakesLevels Values = ⊥
TakesLevels Levels = Unit {0}
TakesLevels (Bys l) = Unit {0}
TakesLevels Conflict = ⊥
TakesLevels (Path d) = ⊥

-- the stage is one at which a multiplier may come
abbrev pub TakesBys : Stage → Type 0
TakesBys Values = ⊥
TakesBys Levels = ⊥
TakesBys (Bys l) = Unit {0}
TakesBys Conflict = Unit {0}
TakesBys (Path d) = ⊥

-- a line with this content may follow the parts read so far
abbrev pub MayFollow : Draft → ClaimLine → Type 0
MayFollow old (OfValue v) = (old.stage ≡ Values) × All (λ u. u.0 < v.0) old.values
MayFollow old OfBest = old.stage ≡ Values
MayFollow old OfConflict = (old.stage ≡ Values) × (old.values ≡ [])
MayFollow old (OfLevel l) = TakesLevels old.stage
    × All (λ k. IsLevelBefore k.level l.level) (closed old.stage old.levels old.bys)
MayFollow old (OfBy b) = TakesBys old.stage × All (λ k. IsRowBefore k.row b.row) old.bys
MayFollow old (OfPath dual) = (old.stage ≡ Values) × (old.values ≡ [])
MayFollow old (OfPart part) = (d : PathDraft) × (old.stage ≡ Path d) × PartMayFollow d part

-- the path with one part more
abbrev pub stage_with : Stage → PathLine → Stage
stage_with Values part = Values
stage_with Levels part = Levels
stage_with (Bys l) part = Bys l
stage_with Conflict part = Conflict
stage_with (Path d) part = Path (with_part d part)

-- the parts read so far, with the content of a line
abbrev pub with_line : Draft → ClaimLine → Draft
with_line old (OfValue v) = record {
  stage = old.stage;
  values = old.values
      ++ v ∷ [];
  levels = old.levels;
  bys = old.bys;
}
with_line old OfBest = record { stage = Levels; values = old.values; levels = old.levels; bys = old.bys }
with_line old OfConflict = record {
  stage = Conflict;
  values = old.values;
  levels = old.levels;
  bys = old.bys;
}
with_line old (OfLevel l) = record {
  stage = Bys l;
  values = old.values;
  levels = closed old.stage old.levels old.bys;
  bys = [];
}
with_line old (OfBy b) = record {
  stage = old.stage;
  values = old.values;
  levels = old.levels;
  bys = old.bys
      ++ b ∷ [];
}
with_line old (OfPath dual) = record {
  stage = Path (path_begun dual);
  values = old.values;
  levels = old.levels;
  bys = old.bys;
}
with_line old (OfPart part) = record {
  stage = stage_with old.stage part;
  values = old.values;
  levels = old.levels;
  bys = old.bys;
}

-- the draft before and after the line
pub record Step (old : Draft) (line : List ℕ) (new : Draft) : Type 0 where
  pub item : ClaimLine
  pub says : Says line item
  pub may : MayFollow old item
  pub is : new ≡ with_line old item

-- the lines, one after the other, lead from the old draft to the new one
abbrev pub ReadFrom : Draft → List (List ℕ) → Draft → Type 0
ReadFrom old [] new = new ≡ old
ReadFrom old (line ∷ more) new = (mid : Draft) × Step old line mid × ReadFrom mid more new

-- the draft is all of the claim
abbrev pub Ends : Draft → Claim → Type 0
Ends d (IsBest values best) = TakesLevels d.stage × (values ≡ d.values)
    × (best ≡ closed d.stage d.levels d.bys)
Ends d (IsConflict bys) = (d.stage ≡ Conflict) × (bys ≡ d.bys)
Ends d (IsPath path unfit) = (read : PathDraft) × (d.stage ≡ Path read) × (path ≡ path_of read)
    × (unfit ≡ read.unfit)

-- the lines have this claim
abbrev pub Reads : List (List ℕ) → Claim → Type 0
Reads all claim = (last : Draft) × ReadFrom nothing_read all last × Ends last claim

-- The text ends before the line that says which claim it is, after all but the n-th line.
pub record EndsEarly (all : List (List ℕ)) (n : ℕ) : Type 0 where
  pub number : n ≡ length all + 1
  pub so_far : Draft
  pub reads : ReadFrom nothing_read all so_far
  pub waits : so_far.stage ≡ Values

-- the line at which the text stops being a claim, unless memory ran out
abbrev pub IsClaimStop : List (List ℕ) → ReadStop → Type 0
IsClaimStop all (Refused bad) = IsFirstBad (ReadFrom nothing_read) Step all bad.0 ⊎ EndsEarly all bad.0
IsClaimStop all OutOfMemory = Unit {0}

-- ---- the result of the reader of lines

-- the lines lead to this draft, and there are so many
pub record IsRead (all : List (List ℕ)) (draft : Draft) (count : ℕ) : Type 0 where
  pub reads : ReadFrom nothing_read all draft
  pub count_is : count ≡ length all

-- the first line that may not follow those before it, unless memory ran out
abbrev pub LinesStopAt : List (List ℕ) → ReadStop → Type 0
LinesStopAt all (Refused bad) = IsFirstBad (ReadFrom nothing_read) Step all bad.0
LinesStopAt all OutOfMemory = Unit {0}

-- ---- the invariant of a draft

-- rows with multipliers, as a draft has them
pub record AreRead (bys : List By) : Type 0 where
  pub each : All IsBy bys
  pub order : AllPairs (λ a b. IsRowBefore a.row b.row) bys

-- a level, as a draft has it: it may be named, its scale fits, and its rows with multipliers are as a draft
-- has them
pub record IsLevelRead (l : BestLevel) : Type 0 where
  pub level : IsLevelName l.level
  pub scale : IsFitting l.scale
  pub by : AreRead l.by

-- the invariant of a stage: the open level may be named and its scale fits; the path can be written
abbrev pub IsStage : Stage → Type 0
IsStage Values = Unit {0}
IsStage Levels = Unit {0}
IsStage (Bys l) = IsLevelLine l
IsStage Conflict = Unit {0}
IsStage (Path d) = IsPathWritten (path_of d) d.unfit

-- the draft has the order of a claim: values by rising attribute, and levels and rows as a draft has them
pub record IsDraft (d : Draft) : Type 0 where
  pub stage : IsStage d.stage
  pub values : AllPairs (λ u v. u.0 < v.0) d.values
  pub levels : All IsLevelRead (closed d.stage d.levels d.bys)
  pub level_order : AllPairs (λ k l. IsLevelBefore k.level l.level) (closed d.stage d.levels d.bys)
  pub bys : AreRead d.bys

-- ---- the claims that can be written and read back

-- values by rising attribute, and levels in their order, all within their limits
pub record IsBestWritten (pairs : List (ℕ × Fraction)) (best : List BestLevel) : Type 0 where
  pub values : All IsValue pairs
  pub rising : AllPairs (λ u v. u.0 < v.0) pairs
  pub levels : All IsLevelRead best
  pub level_order : AllPairs (λ k l. IsLevelBefore k.level l.level) best

-- the parts of the claim are in their order and within their limits
abbrev pub IsWritten : Claim → Type 0
IsWritten (IsBest values best) = IsBestWritten values best
IsWritten (IsConflict bys) = AreRead bys
IsWritten (IsPath path unfit) = IsPathWritten path unfit

-- a path has no more marks and exchanges than this
abbrev pub HasNoMoreParts : Claim → ℕ → Type 0
HasNoMoreParts (IsBest values best) n = Unit {0}
HasNoMoreParts (IsConflict bys) n = Unit {0}
HasNoMoreParts (IsPath path unfit) n = length path.corner + length path.swaps ≤ n
