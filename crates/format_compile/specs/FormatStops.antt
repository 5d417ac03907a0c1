-- When a format is refused, before its rows are made.
use Rattle.std.specs.Prelude.{◌≡◌, ℕ, ◌+◌, ◌<◌, true, false, List, length, Option, None, Some, ⊤}
use Rattle.std.specs.List.{list_any}
use Rattle.problem_core.specs.declared.limits.TheConstants.{NUMBER_LIMIT}
use Rattle.name_tables.specs.declared.stops.LimitWord.TheVariants as limit
use Rattle.vfl_text.specs.declared.parts.Axis.{Axis}
use Rattle.script_text.specs.declared.words.Align.{Align}
use Rattle.view_tree.specs.Views.{LiveView}
use Rattle.compile_parts.specs.Meaning.{MetricList}
use Rattle.format_compile.specs.FormatParts.{Part}
use Rattle.format_compile.specs.FormatLines.{lines_of}
use Rattle.format_compile.specs.FormatRefusals.{unknown_parts, is_along, lacks_parent}
use Rattle.format_compile.specs.FormatRefusals.{has_view_space}
use Rattle.format_compile.specs.FormatRefusals.{HaveRanks}
use Rattle.compile_parts.specs.declared.stops.CompileStop.{CompileStop}
use Rattle.compile_parts.specs.declared.stops.CompileStop.TheVariants.{Unknown, Kind, Limit, OutOfMemory}
use Rattle.compile_parts.specs.declared.stops.KindWord.{KindWord}
use Rattle.compile_parts.specs.declared.stops.KindWord.TheVariants as kind

-- how many rows the parts ask for
abbrev pub row_count : List LiveView → List Part → ℕ
row_count views parts = length (lines_of views parts)

-- one of so many rows, numbered from the first number, has a number that isn't below the limit
pub record IsPastNumbers (first count : ℕ) : Type 0 where
  pub some : 0 < count
  pub past : NUMBER_LIMIT < first + count

-- each name is known, and no use is wrong
pub record IsUsableFormat (views : List LiveView) (metrics : MetricList) (axis : Axis) (align : Option Align)
    (parts : List Part) : Type 0 where
  pub known : unknown_parts views metrics parts ≡ None
  pub across : is_along axis align ≡ false
  pub parents : list_any (lacks_parent views) parts ≡ false
  pub numbers : list_any (has_view_space views) parts ≡ false
  pub ranks : HaveRanks views metrics parts

-- the first wrong use
abbrev pub IsWrongFormat : List LiveView → MetricList → Axis → Option Align → List Part → KindWord → Type 0
IsWrongFormat views metrics axis align parts kind.Align = is_along axis align ≡ true
IsWrongFormat views metrics axis align parts kind.Parent = (is_along axis align ≡ false)
    × (list_any (lacks_parent views) parts ≡ true)
IsWrongFormat views metrics axis align parts kind.Object = (is_along axis align ≡ false)
    × (list_any (lacks_parent views) parts ≡ false) × (list_any (has_view_space views) parts ≡ true)
IsWrongFormat views metrics axis align parts kind.Priority = (is_along axis align ≡ false)
    × (list_any (lacks_parent views) parts ≡ false) × (list_any (has_view_space views) parts ≡ false)
    × (HaveRanks views metrics parts → ⊥)
IsWrongFormat views metrics axis align parts _ = ⊥

-- when a name may be refused
abbrev pub MayBeUnknown : List LiveView → MetricList → List Part → CompileStop → Type 0
MayBeUnknown views metrics parts (Unknown name) = unknown_parts views metrics parts ≡ Some name
MayBeUnknown views metrics parts OutOfMemory = ⊤
MayBeUnknown views metrics parts (Kind word) = ⊥
MayBeUnknown views metrics parts (Limit word) = ⊥

-- when a format may be refused, numbered from the first number
abbrev pub MayStopBefore : List LiveView → MetricList → Axis → Option Align → List Part → ℕ → CompileStop
    → Type 0
MayStopBefore views metrics axis align parts first (Unknown name) = unknown_parts views metrics parts
    ≡ Some name
MayStopBefore views metrics axis align parts first (Kind word) = (unknown_parts views metrics parts ≡ None)
    × IsWrongFormat views metrics axis align parts word
MayStopBefore views metrics axis align parts first
    (Limit word) = IsUsableFormat views metrics axis align parts × (word ≡ limit.Rows)
    × IsPastNumbers first (row_count views parts)
MayStopBefore views metrics axis align parts first OutOfMemory = ⊤
