-- The rows of a format, and when it has none.
use Rattle.std.specs.Prelude.{⊤, ◌≡◌, ℕ, ◌+◌, List, [], ◌∷◌, All, Option, None, Some}
use Rattle.std.specs.List.{Any}
use Rattle.name_tables.specs.declared.stops.LimitWord.{LimitWord}
use Rattle.name_tables.specs.declared.stops.LimitWord.TheVariants as limit
use Rattle.vfl_text.specs.Formats.{FormatMeaning}
use Rattle.script_text.specs.declared.words.Align.{Align}
use Rattle.script_text.specs.declared.words.Direction.{Direction}
use Rattle.script_text.specs.Meaning.{Linear}
use Rattle.view_tree.specs.Views.{LiveView}
use Rattle.compile_parts.specs.Meaning.{MetricList, terms_of}
use Rattle.constraint_compile.specs.Compiled.{RowForm, CompiledLine}
use Rattle.constraint_compile.specs.Stops.{IsRowOf, IsWithinLimits, PassesRowLimit}
use Rattle.format_compile.specs.FormatParts.{Part, parts}
use Rattle.format_compile.specs.FormatLines.{lines_of, parts_views}
use Rattle.format_compile.specs.FormatRefusals.{unknown_parts}
use Rattle.format_compile.specs.FormatStops.{row_count, IsPastNumbers, IsUsableFormat}
use Rattle.format_compile.specs.FormatStops.{IsWrongFormat}
use Rattle.compile_parts.specs.declared.stops.CompileStop.{CompileStop}
use Rattle.compile_parts.specs.declared.stops.CompileStop.TheVariants.{Unknown, Kind, Limit, OutOfMemory}

-- ---- limits

-- the first limit that the row of a line passes
abbrev pub Passes : List LiveView → MetricList → LimitWord → Linear → Type 0
Passes views metrics word l = PassesRowLimit views metrics (terms_of l) word

-- no row of the lines passes the limit
abbrev pub NonePass : List LiveView → MetricList → List Linear → LimitWord → Type 0
NonePass views metrics lines word = All (λ l. Passes views metrics word l → ⊥) lines

-- the first limit that a row of the lines passes, limit by limit
abbrev pub PassesFirst : List LiveView → MetricList → List Linear → LimitWord → Type 0
PassesFirst views metrics lines limit.Attributes = Any (Passes views metrics limit.Attributes) lines
PassesFirst views metrics lines limit.Coefficient = NonePass views metrics lines limit.Attributes
    × Any (Passes views metrics limit.Coefficient) lines
PassesFirst views metrics lines limit.Constant = NonePass views metrics lines limit.Attributes
    × NonePass views metrics lines limit.Coefficient × Any (Passes views metrics limit.Constant) lines
PassesFirst views metrics lines _ = ⊥

-- the first limit that a format passes whose rows are numbered from the first number
abbrev pub PassesInFormat : List LiveView → MetricList → List Part → ℕ → LimitWord → Type 0
PassesInFormat views metrics ps first limit.Rows = IsPastNumbers first (row_count views ps)
PassesInFormat views metrics ps first word = (IsPastNumbers first (row_count views ps) → ⊥)
    × PassesFirst views metrics (lines_of views ps) word

-- ---- rows

-- the row of the line, within all limits
pub record IsRowWithin (views : List LiveView) (metrics : MetricList) (l : Linear) (number : ℕ)
    (row : RowForm) : Type 0 where
  pub is_row : IsRowOf views metrics l number row
  pub within : IsWithinLimits views metrics (terms_of l) row.steps

-- the rows are those of the lines, numbered from this number
abbrev pub AreRowsOf : List LiveView → MetricList → List Linear → ℕ → List RowForm → Type 0
AreRowsOf views metrics [] number [] = ⊤
AreRowsOf views metrics [] number (r ∷ rows) = ⊥
AreRowsOf views metrics (l ∷ lines) number [] = ⊥
AreRowsOf views metrics (l ∷ lines) number (r ∷ rows) = IsRowWithin views metrics l number r
    × AreRowsOf views metrics lines (number + 1) rows

-- ---- formats

-- a format without a wrong use and within all limits, and its compiled form
pub record IsCompiledFormat (views : List LiveView) (metrics : MetricList) (f : FormatMeaning)
    (align : Option Align) (d : Direction) (first : ℕ) (c : CompiledLine) : Type 0 where
  pub usable : IsUsableFormat views metrics f.axis align (parts f align d)
  pub numbers : IsPastNumbers first (row_count views (parts f align d)) → ⊥
  pub rows : AreRowsOf views metrics (lines_of views (parts f align d)) first c.rows
  pub views_named : c.views ≡ parts_views views (parts f align d)

-- when a format may be refused
abbrev pub MayStopFormat : List LiveView → MetricList → FormatMeaning → Option Align → Direction → ℕ
    → CompileStop → Type 0
MayStopFormat views metrics f align d first (Unknown name) = unknown_parts views metrics (parts f align d)
    ≡ Some name
MayStopFormat views metrics f align d first (Kind word) =
    (unknown_parts views metrics (parts f align d) ≡ None)
    × IsWrongFormat views metrics f.axis align (parts f align d) word
MayStopFormat views metrics f align d first (Limit word) = IsUsableFormat views metrics f.axis align
    (parts f align d) × PassesInFormat views metrics (parts f align d) first word
MayStopFormat views metrics f align d first OutOfMemory = ⊤
