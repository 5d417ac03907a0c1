-- The rows of a format while they are made.
use Rattle.std.specs.Prelude.{◌≡◌, ⊤, ℕ, ◌+◌, List, [], ◌∷◌, ◌++◌, length, map, Option, None, Some}
use Rattle.std.specs.List.{Any}
use Rattle.std.specs.Option.{option_or}
use Rattle.name_tables.specs.declared.stops.LimitWord.{LimitWord}
use Rattle.name_tables.specs.declared.stops.LimitWord.TheVariants as limit
use Rattle.script_text.specs.Meaning.{Linear}
use Rattle.view_tree.specs.Views.{LiveView}
use Rattle.compile_parts.specs.Meaning.{MetricList}
use Rattle.constraint_compile.specs.Compiled.{RowForm}
use Rattle.constraint_compile.specs.Inside.{form_view}
use Rattle.format_compile.specs.Asks.{IsAsk}
use Rattle.format_compile.specs.FormatRows.{Passes, PassesFirst, AreRowsOf}
use Rattle.format_compile.specs.declared.asks.Ask.{Ask}
use Rattle.format_compile.specs.declared.rows.Found.{Found}
use Rattle.compile_parts.specs.declared.stops.CompileStop.{CompileStop}
use Rattle.compile_parts.specs.declared.stops.CompileStop.TheVariants.{Unknown, Kind, Limit, OutOfMemory}

-- the rows of the lines, or the first limit that they pass, if it isn't the first of all
abbrev pub IsFound : List LiveView → MetricList → List Linear → ℕ → List RowForm → Option LimitWord → Type 0
IsFound views metrics lines first rows None = AreRowsOf views metrics lines first rows
IsFound views metrics lines first rows
    (Some limit.Coefficient) = PassesFirst views metrics lines limit.Coefficient
IsFound views metrics lines first rows (Some limit.Constant) = PassesFirst views metrics lines limit.Constant
IsFound views metrics lines first rows (Some _) = ⊥

-- if the old rows or limit are found for some lines, the new ones are found for these and the line of the
-- ask, whose row has this number
abbrev pub IsFoundWith : MetricList → Ask → ℕ → Found → Found → Type 0
IsFoundWith metrics ask id old new = (views : List LiveView) (lines : List Linear) (l : Linear) (first : ℕ)
    → IsAsk views metrics l ask → id ≡ first + length lines
    → IsFound views metrics lines first (map form_view old.rows.items) old.limit
    → IsFound views metrics (lines ++ l ∷ []) first (map form_view new.rows.items) new.limit

-- a limit of a row that isn't the first of all
abbrev pub IsLater : CompileStop → Type 0
IsLater (Limit limit.Coefficient) = ⊤
IsLater (Limit limit.Constant) = ⊤
IsLater (Limit _) = ⊥
IsLater OutOfMemory = ⊥
IsLater (Unknown name) = ⊥
IsLater (Kind word) = ⊥

-- the limit after another row's limit: coefficients come before constants
abbrev pub noted : Option LimitWord → CompileStop → Option LimitWord
noted past (Limit limit.Coefficient) = Some limit.Coefficient
noted past (Limit limit.Constant) = option_or past (Some limit.Constant)
noted past _ = past

-- why no more rows are made: one of these lines passes the first limit of all
abbrev pub EndsRows : List LiveView → MetricList → List Linear → CompileStop → Type 0
EndsRows views metrics lines (Limit limit.Attributes) = Any (Passes views metrics limit.Attributes) lines
EndsRows views metrics lines (Limit _) = ⊥
EndsRows views metrics lines OutOfMemory = ⊤
EndsRows views metrics lines (Unknown name) = ⊥
EndsRows views metrics lines (Kind word) = ⊥

-- why lines have no rows
abbrev pub HaveNoRows : List LiveView → MetricList → List Linear → CompileStop → Type 0
HaveNoRows views metrics lines (Limit word) = PassesFirst views metrics lines word
HaveNoRows views metrics lines OutOfMemory = ⊤
HaveNoRows views metrics lines (Unknown name) = ⊥
HaveNoRows views metrics lines (Kind word) = ⊥
