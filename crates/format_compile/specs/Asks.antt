-- The rows that a format asks for, without names of views.
use Rattle.std.specs.Prelude.{◌≡◌, ◌≤◌, List, [], ◌∷◌, ◌++◌, All, Option, true, false}
use Rattle.std.specs.List.{AllZip}
use Rattle.std.specs.Option.{option_to_list}
use Rattle.problem_core.specs.declared.limits.TheConstants.{REQUIRED}
use Rattle.script_text.specs.declared.words.Align.{Align}
use Rattle.script_text.specs.Meaning.{Linear}
use Rattle.vfl_text.specs.declared.parts.Axis.{Axis}
use Rattle.view_tree.specs.Views.{LiveView}
use Rattle.compile_parts.specs.Meaning.{MetricList, IsRank, terms_of}
use Rattle.compile_parts.specs.Addends.{addends, addends_view, IsKept}
use Rattle.compile_parts.specs.declared.addends.Addend.{Addend}
use Rattle.format_compile.specs.FormatRefusals.{is_along}
use Rattle.format_compile.specs.declared.asks.Ask.{Ask}
use Rattle.format_compile.specs.declared.asks.Asked.{Asked}
use Rattle.compile_parts.specs.declared.stops.KindWord.{KindWord}
use Rattle.compile_parts.specs.declared.stops.KindWord.TheVariants as kind

-- the row's addends on its left side, in order
abbrev pub added : Ask → List Addend
added a = a.plus ∷ (option_to_list a.minus ++ a.object ∷ [])

-- the invariant of a row that a format asks for, whatever the names were
pub record IsKeptAsk (a : Ask) : Type 0 where
  pub added : All IsKept (added a)
  pub rank : a.rank ≤ REQUIRED

-- the row is the line's
pub record IsAsk (views : List LiveView) (metrics : MetricList) (l : Linear) (a : Ask) : Type 0 where
  pub added : addends_view (added a) ≡ addends views (terms_of l)
  pub rel : a.rel ≡ l.rel
  pub weight : l.weight ≡ 1
  pub rank : IsRank views metrics l.priority a.rank

-- the rows are the lines', in order
abbrev pub AreAsks : List LiveView → MetricList → List Linear → List Ask → Type 0
AreAsks views metrics lines asks = AllZip (IsAsk views metrics) lines asks

-- ---- wrong uses

-- no use is wrong
pub record IsUsableAsked (axis : Axis) (align : Option Align) (a : Asked) : Type 0 where
  pub across : is_along axis align ≡ false
  pub parents : a.lacks_parent ≡ false
  pub numbers : a.has_view_space ≡ false
  pub ranks : a.lacks_rank ≡ false

-- the first wrong use
abbrev pub IsWrongAsked : Axis → Option Align → Asked → KindWord → Type 0
IsWrongAsked axis align a kind.Align = is_along axis align ≡ true
IsWrongAsked axis align a kind.Parent = (is_along axis align ≡ false) × (a.lacks_parent ≡ true)
IsWrongAsked axis align a kind.Object = (is_along axis align ≡ false) × (a.lacks_parent ≡ false)
    × (a.has_view_space ≡ true)
IsWrongAsked axis align a kind.Priority = (is_along axis align ≡ false) × (a.lacks_parent ≡ false)
    × (a.has_view_space ≡ false) × (a.lacks_rank ≡ true)
IsWrongAsked axis align a _ = ⊥
