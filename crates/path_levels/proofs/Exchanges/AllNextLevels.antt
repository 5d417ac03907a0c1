-- The rows of all levels at the next corner, or the cost of one does not fit there.
use Rattle.std.proofs.Common.{◌≡◌, ◌∙◌, ℕ, ◌<◌, List, map, length, get_or, sym, subst, arith, Option}
use Rattle.std.proofs.lemmas.List.{get_or_default, length-map}
use Rattle.std.proofs.Math.ListN.{get_or-map}
use Rattle.problem_core.specs.declared.parts.Mark.{Mark}
use Rattle.problem_core.specs.Layout.{Problem}
use Rattle.problem_core.specs.Corners.{IsExchange, exchanged}
use Rattle.problem_core.specs.Levels.{HasNoLevelWriting, IsLevelAt}
use Rattle.path_lines.specs.declared.spots.Step.{Step}
use Rattle.path_lines.specs.declared.table.Inside.{Inside}
use Rattle.path_lines.specs.Tables.{swap_of}
use Rattle.path_levels.specs.declared.outline.Outline.{Outline}
use Rattle.path_levels.specs.declared.outline.LevelFacts.{LevelFacts}
use Rattle.path_levels.specs.declared.sums.LevelSum.{LevelSum}
use Rattle.path_levels.specs.Outlines.{number_at}
use Rattle.path_levels.specs.Levels.{AreLevels, HasUnfitLevel, IsLevelSum}
use Rattle.path_levels.specs.Rows.{AreKept}
use Rattle.path_levels.proofs.Exchanges.MultipleFacts.{any_level}

-- the row of the level at the place is that of the next corner
abbrev pub IsNextAt : Outline → List (Option Inside) → Step → ℕ → LevelSum → LevelSum → Type 0
IsNextAt outline kept step k sum next = (p : Problem) (at : List Mark) → AreKept p at outline kept → IsLevelSum p at (number_at outline.levels.items k) sum → IsExchange p at (swap_of p step)
    → IsLevelSum p (exchanged (swap_of p step) at) (number_at outline.levels.items k) next

pub all_next : (outline : Outline) (kept : List (Option Inside)) (step : Step) (levels out : List LevelSum) → length levels ≡ length outline.levels.items → length out ≡ length levels
    → ((k : ℕ) (d : LevelSum) → k < length levels → IsNextAt outline kept step k (get_or levels k d) (get_or out k d))
    → (p : Problem) (at : List Mark) → AreKept p at outline kept → AreLevels p at outline levels → IsExchange p at (swap_of p step) → AreLevels p (exchanged (swap_of p step) at) outline out
all_next outline kept step levels out count long next p at are levels_are ex = record {
  count = long ∙ count;
  each = λ k d within. next k d (omega (arith, within, count)) p at are (levels_are.each k d within) ex;
}

pub one_unfit : (outline : Outline) (kept : List (Option Inside)) (step : Step) (levels : List LevelSum) (k : ℕ) (sum : LevelSum) → k < length outline.levels.items → length levels ≡ length outline.levels.items → sum ≡ get_or levels k sum
    → ((p : Problem) (at : List Mark) → AreKept p at outline kept → IsLevelSum p at (number_at outline.levels.items k) sum → IsExchange p at (swap_of p step) → HasNoLevelWriting p (exchanged (swap_of p step) at) (number_at outline.levels.items k))
    → (p : Problem) (at : List Mark) → AreKept p at outline kept → AreLevels p at outline levels → IsExchange p at (swap_of p step) → HasUnfitLevel p (exchanged (swap_of p step) at)
one_unfit outline kept step levels k sum within count sum_is unfit p at are levels_are ex =
    let number : number_at outline.levels.items k ≡ (get_or outline.levels.items k any_level).number =
    get_or_default (map (λ (f : LevelFacts). f.number) outline.levels.items) k 0 any_level.number (omega (arith, within, length-map outline.levels.items (λ (f : LevelFacts). f.number)))
    ∙ get_or-map (λ (f : LevelFacts). f.number) outline.levels.items k any_level in (
      (get_or outline.levels.items k any_level).level,
      (
        number_at outline.levels.items k,
        subst (IsLevelAt p (get_or outline.levels.items k any_level).level) (sym number) (are.outline_is.levels_are.each k any_level within),
        unfit p at are (subst (λ (s : LevelSum). IsLevelSum p at (number_at outline.levels.items k) s) (sym sum_is) (levels_are.each k sum within)) ex,
      ),
    )
