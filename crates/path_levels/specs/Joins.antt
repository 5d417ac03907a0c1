-- A line that joins the row of its level.
use Rattle.std.specs.Prelude.{◌≡◌, ◌≢◌, ◌⊎◌, ℕ, ◌*◌, ◌/◌, ◌<◌, ◌≤◌, List, ℤ, pos, ◌*ℤ◌, ◌<ℤ◌, neg_ℤ}
use Rattle.std.specs.Prelude.{All, length, unsigned_abs}
use Rattle.std.specs.Prelude.{◌+ℤ◌, ◌-ℤ◌, get_or, Option, None, Some}
use Rattle.std.specs.Int.{IsGcd}
use Rattle.frac_core.specs.Fraction.{Fits, Fraction, IsFitting, IsLowest, IsRatio, IsUnfitRatio, sum_den}
use Rattle.frac_core.specs.Fraction.{sum_num}
use Rattle.problem_core.specs.declared.limits.TheConstants.{COEFFICIENT_LIMIT}
use Rattle.problem_core.specs.declared.parts.Side.{Side}
use Rattle.problem_core.specs.declared.parts.Side.TheVariants.{Under, Over}
use Rattle.corner_lines.specs.Levels.LevelJoins.{IsLeastMultiple}
use Rattle.path_lines.specs.declared.numbers.Wide.{Wide}
use Rattle.path_lines.specs.declared.table.Inside.{Inside}
use Rattle.path_lines.specs.Numbers.{AreFitting, AreLowest, AreUnfit, IsCombined, number_at}
use Rattle.path_levels.specs.declared.outline.Outline.{Outline}
use Rattle.path_levels.specs.declared.outline.LineFacts.{LineFacts}
use Rattle.path_levels.specs.declared.joins.Draft.{Draft}
use Rattle.path_levels.specs.declared.sums.LevelSum.{LevelSum}

-- the count of its deviation in a row of so many units, with the other sign
abbrev pub counted_number : Side → LineFacts → (unit own : ℕ) → ℤ
counted_number Under f unit own = neg_ℤ (pos (own * (unit * unsigned_abs f.under / unsigned_abs f.scale)))
counted_number Over f unit own = pos (own * (unit * unsigned_abs f.over / unsigned_abs f.scale))

-- and its cost
abbrev pub cost_number : Side → LineFacts → ℤ
cost_number Under f = neg_ℤ f.under
cost_number Over f = f.over

-- the line's weight, on one side or on both
pub record IsWeightOf (f : LineFacts) (weight : ℤ) : Type 0 where
  pub over : f.under ≡ pos 0 → weight ≡ f.over
  pub under : f.under ≢ pos 0 → weight ≡ f.under

-- the unit times this is the least multiple in which the line's share is whole
pub record IsRise (f : LineFacts) (unit times : ℕ) : Type 0 where
  pub weight : ℤ
  pub weight_is : IsWeightOf f weight
  pub divisor : ℕ
  pub divides : IsGcd (unsigned_abs f.scale) (unsigned_abs weight) divisor
  pub least : IsLeastMultiple unit (unsigned_abs f.scale / divisor) (times * unit)
  pub above : 0 < times
  pub small : times ≤ COEFFICIENT_LIMIT

-- ---- the row

-- the level's numbers in the new unit, with the line's numbers if a mark of it is inside, before they are
-- divided
abbrev pub IsJoinedList : LevelSum → LineFacts → Option Inside → ℕ → ℤ → List ℤ → Type 0
IsJoinedList old f None times own out = (own ≡ old.own)
    × IsCombined (pos times) old.by.items (pos 0) old.by.items out
IsJoinedList old f (Some inside) times own out = (own ≡ inside.sum.own *ℤ old.own)
    × IsCombined (inside.sum.own *ℤ pos times) old.by.items
    (counted_number inside.side f (times * unsigned_abs old.unit) (unsigned_abs old.own))
    inside.sum.by.items out

-- the same by the kept row's own unit, if this mark is inside
abbrev pub IsJoinedWide : LevelSum → LineFacts → Inside → (times : ℤ) → Wide → Type 0
IsJoinedWide old f inside times w = IsCombined (inside.sum.own *ℤ times) old.by.items
    (counted_number inside.side f (unsigned_abs times * unsigned_abs old.unit) (unsigned_abs old.own))
    inside.sum.by.items w.by.items

-- the cost with the line's cost
abbrev pub IsJoinedCost : Fraction → LineFacts → Option Inside → Fraction → Type 0
IsJoinedCost old f None cost = cost ≡ old
IsJoinedCost old f (Some inside) cost = IsLowest cost × Fits cost
    × IsRatio cost (sum_num old (cost_number inside.side f) f.scale inside.sum.value)
    (sum_den old f.scale inside.sum.value)

-- a mark of the line is inside, and the cost with the line's cost does not fit
abbrev pub IsUnfitJoinedCost : Fraction → LineFacts → Option Inside → Type 0
IsUnfitJoinedCost old f None = ⊥
IsUnfitJoinedCost old f (Some inside) =
    IsUnfitRatio (sum_num old (cost_number inside.side f) f.scale inside.sum.value)
    (sum_den old f.scale inside.sum.value)

-- numbers in lowest terms and the cost
pub record IsDraft (old : LevelSum) (f : LineFacts) (kept : Option Inside) (draft : Draft) : Type 0 where
  pub times : ℕ
  pub rise : IsRise f (unsigned_abs old.unit) times
  pub unit_is : draft.unit ≡ pos (times * unsigned_abs old.unit)
  pub own : ℤ
  pub out : List ℤ
  pub list : IsJoinedList old f kept times own out
  pub lowest : AreLowest own out draft.own draft.by.items
  pub above : pos 0 <ℤ draft.own
  pub fits : AreFitting draft.own draft.by.items
  pub cost : IsJoinedCost old.cost f kept draft.cost

-- no lowest terms of the numbers fit, or the cost doesn't
pub record HasNoDraft (old : LevelSum) (f : LineFacts) (kept : Option Inside) : Type 0 where
  pub times : ℕ
  pub rise : IsRise f (unsigned_abs old.unit) times
  pub unfit : ((own : ℤ) × (out : List ℤ) × IsJoinedList old f kept times own out × AreUnfit own out)
      ⊎ IsUnfitJoinedCost old.cost f kept

-- ---- what has to fit

-- it has a number for each of so many lines, each of them fits, and its unit and its own number are above 0
pub record IsMadeDraft (count : ℕ) (draft : Draft) : Type 0 where
  pub count_is : length draft.by.items ≡ count
  pub unit_above : pos 0 <ℤ draft.unit
  pub own_above : pos 0 <ℤ draft.own
  pub fits : All IsFitting draft.by.items

-- the count of the line's deviation on one side
abbrev pub side_count : Side → LineFacts → (unit own : ℕ) → ℕ
side_count Under f unit own = own * (unit * unsigned_abs f.under / unsigned_abs f.scale)
side_count Over f unit own = own * (unit * unsigned_abs f.over / unsigned_abs f.scale)

-- both reduced costs of the line fit. If it is outside, it has this number
abbrev pub AreFittingCosts : LineFacts → Option Inside → (unit own : ℕ) → ℤ → Type 0
AreFittingCosts f None unit own number = IsFitting (pos (side_count Under f unit own) -ℤ number)
    × IsFitting (pos (side_count Over f unit own) +ℤ number)
AreFittingCosts f (Some inside) unit own number =
    IsFitting (pos (side_count Under f unit own) +ℤ pos (side_count Over f unit own))

-- they do for the line at a place, if it is of the level
abbrev pub IsFittingAt : Outline → List (Option Inside) → (place : ℕ) → Draft → ℕ → Type 0
IsFittingAt outline kept place draft k = (f : LineFacts) (d : Option Inside)
    → (get_or outline.lines.items k f).level ≡ place
    → AreFittingCosts (get_or outline.lines.items k f) (get_or kept k d) (unsigned_abs draft.unit)
    (unsigned_abs draft.own) (number_at draft.by.items k)

-- they do for the lines before a place
abbrev pub AreFittingTo : Outline → List (Option Inside) → (place upto : ℕ) → Draft → Type 0
AreFittingTo outline kept place upto draft = (k : ℕ) → k < upto → IsFittingAt outline kept place draft k

-- and the scale fits
abbrev pub IsFittingTo : Outline → List (Option Inside) → (place upto : ℕ) → Draft → Type 0
IsFittingTo outline kept place upto draft = IsFitting (draft.own *ℤ draft.unit)
    × AreFittingTo outline kept place upto draft
