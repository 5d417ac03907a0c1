-- Whether a level's cost fits where its next row joins it.
use Rattle.std.proofs.Common.{◌≡◌, ◌∙◌, ◌↔◌, ℕ, ◌+◌, ◌-◌, ◌*◌, ◌≤◌, Bool, true, false, cond, nat_eq, List, [], ◌∷◌, sym, ap, ap₂, subst, arith, inl, inr, ℤ, pos, Some, None, eq-eqb, ne_eqb, get_or, length}
use Rattle.std.specs.declared.option.Option.{Option}
use Rattle.std.specs.List.{filter}
use Rattle.std.proofs.lemmas.List.{length-append}
use Rattle.std.proofs.lemmas.Bool.{cases_eq}
use Rattle.frac_core.specs.Fraction.{IsKept}
use Rattle.row_core.specs.Rows.{Term, IsKeptRow}
use Rattle.problem_core.specs.declared.parts.Side.{Side}
use Rattle.problem_core.specs.declared.parts.RowName.{RowName}
use Rattle.problem_core.specs.Layout.{Row, lines}
use Rattle.problem_core.specs.Corners.{IsIn, place_of}
use Rattle.problem_core.specs.Levels.{HasNoLevelWriting, IsCostAt}
use Rattle.corner_lines.specs.Levels.LevelFits.{IsFittingRow}
use Rattle.corner_lines.proofs.Costs.LevelFits.{reduced-by, reduced_by}
use Rattle.corner_exchange.specs.declared.exchange.Change.{Change}
use Rattle.corner_writings.specs.declared.levels.fitting.Draft.{Draft}
use Rattle.corner_joins.specs.declared.joining.Rise.{Rise}
use Rattle.corner_table.specs.Tables.{Lists, line_slot, marks_at, priority_at, problem_of, standing_at}
use Rattle.corner_writings.specs.Rows.{row_number}
use Rattle.corner_writings.specs.Fitting.{AreSidesAfter, HasFittingRow, HasNoFittingRow, IsDraftAt, side_after}
use Rattle.corner_view.specs.Seen.{IsNamed}
use Rattle.corner_joins.specs.Additions.Parts.{IsNextRow, IsPartlyKept}
use Rattle.corner_joins.specs.Additions.CostJoins.{IsJoinedCost, IsJoinedRow, home_at, with_next}
use Rattle.corner_table.proofs.Readings.MarkFacts.{inside_stands, stands_inside}
use Rattle.corner_table.proofs.Readings.ReadFacts.{is_some}
use Rattle.corner_exchange.proofs.Pivots.PairFacts.{named_mark, side-stands}
use Rattle.corner_table.proofs.Basics.SmallFacts.{own_name}
use Rattle.corner_joins.proofs.Costs.CostLines.{next_sound}
use Rattle.corner_joins.proofs.Costs.CostJoins.{joined_unit, part_of, row_fits, row_unfit}
use Rattle.corner_joins.proofs.Costs.CostFound.{IsFound}

-- a pair of one line that keeps its side changes no side
same-sides : (t : Lists) (line : ℕ) (side : Side) (c : ℕ) → (standing_at t line).side ≡ Some side → side_after t (record { enter = line; side = side; leave = line }) c ≡ (standing_at t c).side
same-sides t line side c e =
    elim (cases_eq c line) [
      | inl here ↦ ap (λ (b : Bool). cond b (Some side) (cond b None (standing_at t c).side)) (eq-eqb c line here) ∙ sym e ∙ ap (λ (w : ℕ). (standing_at t w).side) (sym here)
      | inr ne ↦ ap (λ (b : Bool). cond b (Some side) (cond b None (standing_at t c).side)) (ne_eqb c line ne)
    ]

stands-side : (t : Lists) (name : RowName) (side : Side) → IsNamed (problem_of t) name → IsIn (place_of name side) (marks_at t) ↔ ((standing_at t (line_slot t name)).side ≡ Some side)
stands-side t name side named = (
  (λ i. is_some (standing_at t (line_slot t name)).side side (inside_stands t (record { row = name; side = side }) i)),
  (λ e. stands_inside t (record { row = name; side = side }) (named_mark t (record { row = name; side = side }) named) (side-stands t (record { row = name; side = side }) e)),
)

pub sides : (t : Lists) (line : ℕ) (side : Side) → (standing_at t line).side ≡ Some side → AreSidesAfter t (record { enter = line; side = side; leave = line }) (marks_at t)
sides t line side e i x lt s =
    subst (λ (o : Option Side). IsIn (place_of (get_or (lines (problem_of t)) i x).name s) (marks_at t) ↔ (o ≡ Some s)) (sym (same-sides t line side (line_slot t (get_or (lines (problem_of t)) i x).name) e))
    (stands-side t (get_or (lines (problem_of t)) i x).name s (own_name (lines (problem_of t)) i x lt))

-- the draft of the row
abbrev pub draft_of : Lists → ℕ → ℕ → ℤ → Side → Draft
draft_of t line l unit side = record { level = l; unit = unit; pair = record { enter = line; side = side; leave = line }; rows = (priority_at t l).rows + 1 }

draft-at : (t : Lists) (line : ℕ) (unit : ℤ) (u : ℕ) (row : List Term) (side : Side) → unit ≡ pos u → (j : IsJoinedRow t line (pos u) row) → (standing_at t line).side ≡ Some side → IsDraftAt t (draft_of t line (home_at t line) unit side) row (marks_at t) u j.own
draft-at t line unit u row side e j s = record { unit_is = e; own_is = j.own_is; sides = sides t line side s }

pub fitting_joined : (t : Lists) (line : ℕ) (rise : Rise) (change : Change) → (f : IsFound t line rise) → change.at ≡ home_at t line → IsJoinedRow t line rise.unit change.row → IsKeptRow change.row → IsCostAt (with_next t (home_at t line)) (marks_at t) (home_at t line) change.value → IsKept change.value
    → HasFittingRow t (draft_of t line (home_at t line) rise.unit f.side) change.row → IsJoinedCost t line rise.unit change
fitting_joined t line rise change f at row row_kept cost value_kept fit =
    let l : ℕ = home_at t line in
    let u : ℕ = f.times * (part_of t f.row line f.side (home_at t line) f.times f.join).unit in
    let sound = next_sound t (home_at t line) ((priority_at t (home_at t line)).rows + 1) f.join.next.kept in
    let j : IsJoinedRow t line (pos (f.times * (part_of t f.row line f.side (home_at t line) f.times f.join).unit)) change.row = subst (λ (z : ℤ). IsJoinedRow t line z change.row) f.unit_is row in
    let fits : IsFittingRow (with_next t (home_at t line)) (marks_at t) (home_at t line) (f.times * (part_of t f.row line f.side (home_at t line) f.times f.join).unit) j.own (row_number t (home_at t line) change.row) =
    fit (marks_at t) (f.times * (part_of t f.row line f.side (home_at t line) f.times f.join).unit) j.own
    (draft-at t line rise.unit (f.times * (part_of t f.row line f.side (home_at t line) f.times f.join).unit) change.row f.side f.unit_is j f.join.next.side_is) in
    record {
      at_is = at;
      size = f.times * (part_of t f.row line f.side (home_at t line) f.times f.join).unit;
      unit_is = f.unit_is;
      row = j;
      least = joined_unit t f.row line f.side (home_at t line) f.times f.join;
      reduced = reduced_by (with_next t (home_at t line)) (home_at t line) (f.times * (part_of t f.row line f.side (home_at t line) f.times f.join).unit) j.own j.level_row.by;
      reduced_by = reduced-by (with_next t (home_at t line)) (home_at t line) (f.times * (part_of t f.row line f.side (home_at t line) f.times f.join).unit) j.own j.level_row.by sound.0;
      fits = row_fits (with_next t (home_at t line)) (marks_at t) (home_at t line) (f.times * (part_of t f.row line f.side (home_at t line) f.times f.join).unit) j.own (row_number t (home_at t line) change.row) sound.0 j.level_row fits;
      cost = cost;
      row_kept = row_kept;
      value_kept = value_kept;
    }

pub unfit_joined : (t : Lists) (line : ℕ) (rise : Rise) (row : List Term) → (f : IsFound t line rise) → IsJoinedRow t line rise.unit row → HasNoFittingRow t (draft_of t line (home_at t line) rise.unit f.side) row → HasNoLevelWriting (with_next t (home_at t line)) (marks_at t) (home_at t line)
unfit_joined t line rise row f joined unfit =
    let u : ℕ = f.times * (part_of t f.row line f.side (home_at t line) f.times f.join).unit in
    let sound = next_sound t (home_at t line) ((priority_at t (home_at t line)).rows + 1) f.join.next.kept in
    let j : IsJoinedRow t line (pos (f.times * (part_of t f.row line f.side (home_at t line) f.times f.join).unit)) row = subst (λ (z : ℤ). IsJoinedRow t line z row) f.unit_is joined in
    row_unfit (with_next t (home_at t line)) (marks_at t) (home_at t line) (f.times * (part_of t f.row line f.side (home_at t line) f.times f.join).unit) j.own (row_number t (home_at t line) row) sound.0 sound.1 sound.2
    (joined_unit t f.row line f.side (home_at t line) f.times f.join) j.level_row
    (λ fit. unfit (marks_at t) (f.times * (part_of t f.row line f.side (home_at t line) f.times f.join).unit) j.own (draft-at t line rise.unit (f.times * (part_of t f.row line f.side (home_at t line) f.times f.join).unit) row f.side f.unit_is j f.join.next.side_is) fit)

-- ---- the draft as the code makes it

pub draft_same : (t : Lists) (line l0 l rows : ℕ) (unit : ℤ) (a b : Side) → l0 ≡ l → a ≡ b → rows ≡ (priority_at t l).rows + 1
    → record { level = l0; unit = unit; pair = record { enter = line; side = a; leave = line }; rows = rows } ≡ draft_of t line l unit b
draft_same t line l0 l rows unit a b e f g =
    ap (λ (k : ℕ). record { level = k; unit = unit; pair = record { enter = line; side = a; leave = line }; rows = rows }) e
    ∙ ap₂ (λ (s : Side) (n : ℕ). record { level = l; unit = unit; pair = record { enter = line; side = s; leave = line }; rows = n }) f g

either-few : (b : Bool) (x : Row) (xs ys : List Row) → length ys ≤ length xs → length (cond b (x ∷ ys) ys) ≤ length (x ∷ xs)
either-few true x xs ys h = omega (arith, h)
either-few false x xs ys h = omega (arith, h)

filter-few : (p : Row → Bool) (xs : List Row) → length (filter p xs) ≤ length xs
filter-few p [] = omega arith
filter-few p (x ∷ xs) = either-few (p x) x xs (filter p xs) (filter-few p xs)

-- a level has few rows
pub next_count : (t : Lists) (r : Row) → IsPartlyKept t → (n : IsNextRow t r) → (priority_at t (1000 - r.rank)).rows + 1 ≤ 4096
next_count t r kept n =
    let few = filter-few (λ s. nat_eq (1000 - s.rank) (1000 - r.rank)) n.0 in
    let all : length n.0 + length (r ∷ n.1) ≤ 4096 = subst (λ (m : ℕ). m ≤ 4096) (ap (λ (xs : List Row). length xs) n.2 ∙ length-append n.0 (r ∷ n.1)) kept.whole.row_count in
    let e = n.3 in
    omega (arith, few, all, e)

pub found_count_small : (t : Lists) (line : ℕ) (rise : Rise) → IsFound t line rise → (priority_at t (home_at t line)).rows + 1 ≤ 4096
found_count_small t line rise f = subst (λ (l : ℕ). (priority_at t l).rows + 1 ≤ 4096) (sym f.join.level) (next_count t f.row f.join.next.kept f.join.next.next)
