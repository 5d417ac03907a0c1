-- A draft is the row of the level that the line has joined.
use Rattle.std.proofs.Common.{◌≡◌, ◌∙◌, ℕ, ◌*◌, List, length, ℤ, pos, unsigned_abs, sym, ap, subst, inl, inr}
use Rattle.std.specs.declared.option.Option.{Option}
use Rattle.problem_core.specs.declared.parts.Mark.{Mark}
use Rattle.problem_core.specs.declared.parts.RowName.{RowName}
use Rattle.problem_core.specs.Layout.{Problem, lines}
use Rattle.problem_core.specs.Levels.{HasNoLevelWriting}
use Rattle.corner_laws.specs.Units.{IsLevelUnit}
use Rattle.corner_lines.specs.Levels.LevelFits.{IsLevelThere}
use Rattle.corner_lines.specs.Levels.LevelRows.{HasLevelRow}
use Rattle.path_lines.specs.declared.table.Inside.{Inside}
use Rattle.path_lines.specs.Numbers.{AreLowest}
use Rattle.path_lines.specs.Tables.{numbers_of}
use Rattle.path_levels.specs.declared.outline.LineFacts.{LineFacts}
use Rattle.path_levels.specs.declared.joins.Draft.{Draft}
use Rattle.path_levels.specs.declared.sums.LevelSum.{LevelSum}
use Rattle.path_levels.specs.Joins.{HasNoDraft, IsDraft}
use Rattle.path_levels.proofs.Joining.LineJoins.{IsLineJoin}
use Rattle.path_levels.proofs.Joining.LineLists.{HasZeros}
use Rattle.path_levels.proofs.Joining.JoinRows.{joined_row, joined_unfit, started}
use Rattle.path_levels.proofs.Joining.JoinCosts.{cost_there, unfit_cost}
use Rattle.corner_lines.proofs.LevelRows.Units.{positive_is}

-- all but whether it fits
pub record IsDraftThere (q : Problem) (at : List Mark) (level : ℕ) (draft : Draft) : Type 0 where
  pub there : IsLevelThere q at level (unsigned_abs draft.unit) (unsigned_abs draft.own) (numbers_of (lines q) draft.by.items) draft.cost
  pub zeros : HasZeros at (lines q) draft.by.items
  pub count : length draft.by.items ≡ length (lines q)

pub draft_there : (p q : Problem) (at : List Mark) (level : ℕ) (name : RowName) (old : LevelSum) (f : LineFacts) (kept : Option Inside) (draft : Draft) → IsLineJoin p q at level name old f kept → IsDraft old f kept draft → IsDraftThere q at level draft
draft_there p q at level name old f kept draft j d =
    let s = started p q at level name old f kept d.times j d.rise in
    let unit : unsigned_abs draft.unit ≡ d.times * s.unit = ap unsigned_abs d.unit_is ∙ ap (λ (n : ℕ). d.times * n) s.unit_is in
    let low : draft.own ≡ pos (unsigned_abs draft.own) = positive_is draft.own d.above in
    let row = joined_row p q at level name old f kept d.times d.own d.out (unsigned_abs draft.own) draft.by.items j s d.list (subst (λ (z : ℤ). AreLowest d.own d.out z draft.by.items) low d.lowest) in
    let cost = cost_there p q at level name old f kept d.times draft.cost j s d.cost in
    record {
      there = record {
        sound = j.sound;
        corner = j.corner;
        rays = j.rays;
        unit_is = subst (λ (n : ℕ). IsLevelUnit q level n) (sym unit) s.next_unit;
        row = subst (λ (n : ℕ). HasLevelRow q at level n (unsigned_abs draft.own) (numbers_of (lines q) draft.by.items)) (sym unit) row.0;
        cost_is = cost.0;
        lowest = cost.1;
      };
      zeros = row.1;
      count = row.2;
    }

pub no_draft : (p q : Problem) (at : List Mark) (level : ℕ) (name : RowName) (old : LevelSum) (f : LineFacts) (kept : Option Inside) → IsLineJoin p q at level name old f kept → HasNoDraft old f kept → HasNoLevelWriting q at level
no_draft p q at level name old f kept j d =
    let s = started p q at level name old f kept d.times j d.rise in
    elim d.unfit [
      | inl h ↦ joined_unfit p q at level name old f kept d.times h.0 h.1 j s h.2 h.3
      | inr h ↦ unfit_cost p q at level name old f kept d.times j s h
    ]
