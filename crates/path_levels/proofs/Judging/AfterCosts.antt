-- What a line's marks cost after an exchange, and which lines are outside there.
use Rattle.std.proofs.Common.{◌≡◌, ◌≢◌, ◌∙◌, ◌↔◌, ℕ, ◌<◌, Bool, false, IsTrue, List, [], ◌∷◌, length, get_or, ℤ, unsigned_abs, refl, sym, ap, subst, arith, All, inl, inr, None, Some}
use Rattle.problem_core.specs.declared.parts.Mark.{Mark}
use Rattle.problem_core.specs.declared.parts.Side.{Side}
use Rattle.problem_core.specs.declared.parts.Side.TheVariants.{Under, Over}
use Rattle.problem_core.specs.Layout.{Problem}
use Rattle.problem_core.specs.Corners.{IsExchange, IsIn, NoNegativeColumn, exchanged, place, place_of}
use Rattle.corner_laws.proofs.Exchanged.{exchanged_in}
use Rattle.corner_laws.proofs.Rays.{rays_after}
use Rattle.corner_laws.specs.Units.{IsLevelUnit}
use Rattle.corner_lines.specs.LineEquations.{IsOutsideLine}
use Rattle.corner_lines.proofs.LevelRows.LevelExchanges.{by-sides}
use Rattle.path_lines.specs.declared.numbers.Wide.{Wide}
use Rattle.path_lines.specs.declared.spots.Step.{Step}
use Rattle.path_lines.specs.declared.table.Inside.{Inside}
use Rattle.path_lines.specs.Tables.{IsLineAt, IsThere, line_count, mark_of, name_at, swap_of}
use Rattle.path_lines.proofs.Exchanges.Exchanging.{one_side}
use Rattle.path_lines.proofs.Iffs.{never, through}
use Rattle.path_lines.proofs.Places.{mark_is_there, names_differ}
use Rattle.path_levels.specs.declared.columns_after.WideLevel.{WideLevel}
use Rattle.path_levels.specs.declared.outline.Outline.{Outline}
use Rattle.path_levels.specs.declared.outline.LineFacts.{LineFacts}
use Rattle.path_levels.specs.Costs.{HasNegative, IsNegativeFirst}
use Rattle.path_levels.specs.Outlines.{IsOutline}
use Rattle.path_levels.specs.Exchanges.Pivots.{IsMultipleAt, IsWideLevel}
use Rattle.path_levels.specs.Exchanges.WideCosts.{AreWideAt, IsSizedWide, IsWideAt, IsWideNegative, wide_cost}
use Rattle.path_levels.proofs.Judging.LineCosts.{inside_decided, levels_rise, lines_stand, negative_by, no_numbers, none_are, none_unit, placed_all, placed_by}
use Rattle.path_levels.proofs.Judging.PlacedRows.{ArePlaced}
use Rattle.problem_core.proofs.Marks.{entered-in as enter_in, kept-in as kept_in}

-- ---- the next corner

pub there_after : (p : Problem) (at : List Mark) (step : Step) → IsThere p at → step.enter.at < line_count p → IsExchange p at (swap_of p step) → IsThere p (exchanged (swap_of p step) at)
there_after p at step there within ex = record {
  whole = there.whole;
  corner = ex.corner;
  rays = rays_after p at (swap_of p step) (mark_is_there p step.enter.at step.enter.side within) ex there.rays;
}

pub entered_inside : (p : Problem) (at : List Mark) (step : Step) (k : ℕ) → IsExchange p at (swap_of p step) → k ≡ step.enter.at → (side : Side) × IsIn (place_of (name_at p k) side) (exchanged (swap_of p step) at)
entered_inside p at step k ex e = (step.enter.side, subst (λ (j : ℕ). IsIn (place_of (name_at p j) step.enter.side) (exchanged (swap_of p step) at)) (sym e) (enter_in (swap_of p step) at ex.leaves))

pub kept_inside : (p : Problem) (at : List Mark) (step : Step) (k : ℕ) (inside : Inside) → IsThere p at → k < line_count p → step.leave.at < line_count p → k ≢ step.leave.at → IsLineAt p at (name_at p k) (Some inside)
    → (side : Side) × IsIn (place_of (name_at p k) side) (exchanged (swap_of p step) at)
kept_inside p at step k inside there within leave ne line =
    (inside.side, kept_in (swap_of p step) at (place_of (name_at p k) inside.side) line.0 (λ same. names_differ p k step.leave.at there.whole within leave ne (by-sides (name_at p k) (name_at p step.leave.at) inside.side step.leave.side same).0))

-- where it was not there but for the leaving mark, it isn't
out-after : (p : Problem) (at : List Mark) (step : Step) (k : ℕ) (side : Side) → IsThere p at → k < line_count p → step.enter.at < line_count p → k ≢ step.enter.at → (IsIn (place_of (name_at p k) side) at → place_of (name_at p k) side ≢ place (mark_of p step.leave) → ⊥)
    → IsIn (place_of (name_at p k) side) (exchanged (swap_of p step) at) → ⊥
out-after p at step k side there within enter ne none i =
    elim (exchanged_in (swap_of p step) at (place_of (name_at p k) side) i) [
      | inl same ↦ names_differ p k step.enter.at there.whole within enter ne (by-sides (name_at p k) (name_at p step.enter.at) side step.enter.side same).0
      | inr (before, apart) ↦ none before apart
    ]

pub kept_outside : (p : Problem) (at : List Mark) (step : Step) (k : ℕ) → IsThere p at → k < line_count p → step.enter.at < line_count p → k ≢ step.enter.at → IsLineAt p at (name_at p k) None → IsOutsideLine (exchanged (swap_of p step) at) (name_at p k)
kept_outside p at step k there within enter ne line = record {
  under = out-after p at step k Under there within enter ne (λ i apart. line.under i);
  over = out-after p at step k Over there within enter ne (λ i apart. line.over i);
}

pub left_outside : (p : Problem) (at : List Mark) (step : Step) (k : ℕ) → IsThere p at → IsExchange p at (swap_of p step) → k < line_count p → step.enter.at < line_count p → k ≢ step.enter.at → k ≡ step.leave.at → IsOutsideLine (exchanged (swap_of p step) at) (name_at p k)
left_outside p at step k there ex within enter ne e = record {
  under = out-after p at step k Under there within enter ne (gone Under);
  over = out-after p at step k Over there within enter ne (gone Over);
}
  where
    leaves : IsIn (place_of (name_at p k) step.leave.side) at
    leaves = subst (λ (j : ℕ). IsIn (place_of (name_at p j) step.leave.side) at) (sym e) ex.leaves

    gone : (side : Side) → IsIn (place_of (name_at p k) side) at → place_of (name_at p k) side ≢ place (mark_of p step.leave) → ⊥
    gone side i apart = apart (ap (place_of (name_at p k)) (one_side p at (name_at p k) side step.leave.side there i leaves) ∙ ap (λ (j : ℕ). place_of (name_at p j) step.leave.side) e)

-- ---- its columns

abbrev pub wide_unit : List WideLevel → WideLevel → ℕ → ℕ
wide_unit next d k = unsigned_abs (get_or next k d).unit

abbrev pub wide_own : List WideLevel → WideLevel → ℕ → ℕ
wide_own next d k = unsigned_abs (get_or next k d).wide.own

abbrev pub wide_by : List WideLevel → WideLevel → ℕ → List ℤ
wide_by next d k = (get_or next k d).wide.by.items

wide-placed : (p : Problem) (at : List Mark) (outline : Outline) (next : List WideLevel) (d : WideLevel) → IsOutline p outline → AreWideAt p at outline next → ArePlaced p at (placed_by outline (wide_unit next d) (wide_own next d) (wide_by next d))
wide-placed p at outline next d is are = record {
  rising = levels_rise p outline.levels.items is.levels_are;
  rows = λ k within. let level = are.each k d within in (level.unit_is, record { by = level.row.by; row = level.row.multiple; outside = level.row.outside });
  all = λ i e within. lines_stand p outline i e is within;
}

-- a line outside there has a mark with a negative column exactly where the test says so
pub wide_decided : (b : Bool) (p : Problem) (at : List Mark) (outline : Outline) (next : List WideLevel) (f : LineFacts) (i : ℕ) → IsThere p at → IsOutline p outline → AreWideAt p at outline next → All (IsSizedWide (line_count p)) next → i < line_count p → IsOutsideLine at (name_at p i)
    → (next ≡ [] → b ≡ false) → ((d : WideLevel) → IsTrue b ↔ IsWideNegative (get_or outline.lines.items i f) i next d) → IsTrue b ↔ HasNegative p at i
wide_decided b p at outline [] f i there is are sized within outside none first =
    let empty : length outline.levels.items ≡ 0 = omega (arith, are.count) in
    let iff = λ (side : Side). negative_by p at outline none_unit none_unit no_numbers side f i there is (none_are p at outline is empty) (λ k less. absurd (omega (arith, less, empty))) within outside in
    never b (none refl) (λ negative. let low = ((iff negative.0).0 negative.1).within in absurd (omega (arith, low, empty)))
wide_decided b p at outline (d ∷ next) f i there is are sized within outside none first =
    let iff = λ (side : Side). negative_by p at outline (wide_unit (d ∷ next) d) (wide_own (d ∷ next) d) (wide_by (d ∷ next) d) side f i there is (wide-placed p at outline (d ∷ next) d is are) (λ k less. (sized k d (omega (arith, less, are.count))).count_is) within outside in
    let same : length (d ∷ next) ≡ length outline.levels.items = are.count in
    through b (first d) (
      λ low. (low.0, (iff low.0).1 (subst (λ (n : ℕ). IsNegativeFirst n (λ k. wide_cost low.0 (get_or outline.lines.items i f) i k (get_or (d ∷ next) k d))) same low.1)),
      λ negative. (negative.0, subst (λ (n : ℕ). IsNegativeFirst n (λ k. wide_cost negative.0 (get_or outline.lines.items i f) i k (get_or (d ∷ next) k d))) (sym same) ((iff negative.0).0 negative.1)),
    )

pub wide_all : (p : Problem) (at : List Mark) (outline : Outline) (next : List WideLevel) → IsThere p at → IsOutline p outline → AreWideAt p at outline next → ((k : ℕ) → k < line_count p → HasNegative p at k → ⊥) ↔ NoNegativeColumn p at
wide_all p at outline [] there is are = placed_all p at (placed_by outline none_unit none_unit no_numbers) there (none_are p at outline is (omega (arith, are.count)))
wide_all p at outline (d ∷ next) there is are = placed_all p at (placed_by outline (wide_unit (d ∷ next) d) (wide_own (d ∷ next) d) (wide_by (d ∷ next) d)) there (wide-placed p at outline (d ∷ next) d is are)

pub inside_all : (p : Problem) (at : List Mark) (i : ℕ) → IsThere p at → i < line_count p → (side : Side) × IsIn (place_of (name_at p i) side) at → HasNegative p at i → ⊥
inside_all p at i there within inside negative = inside_decided p at i negative.0 inside.0 there within inside.1 negative.1

-- ---- the rows there

pub sized_wide : (n : ℕ) (unit : ℤ) (wide : Wide) (level : WideLevel) → level.unit ≡ unit → level.wide ≡ wide → IsWideLevel n unit wide → IsSizedWide n level
sized_wide n unit wide level e f h = subst (λ (z : ℤ). IsWideLevel n z level.wide) (sym e) (subst (λ (w : Wide). IsWideLevel n unit w) (sym f) h)

pub wide_at : (p : Problem) (at : List Mark) (number : ℕ) (unit : ℤ) (wide : Wide) (level : WideLevel) → level.unit ≡ unit → level.wide ≡ wide → IsLevelUnit p number (unsigned_abs unit) → IsMultipleAt p at number unit wide → IsWideAt p at number level
wide_at p at number unit wide level e f unit_is row = record {
  unit_is = subst (λ (z : ℤ). IsLevelUnit p number (unsigned_abs z)) (sym e) unit_is;
  row = subst (λ (z : ℤ). IsMultipleAt p at number z level.wide) (sym e) (subst (λ (w : Wide). IsMultipleAt p at number unit w) (sym f) row);
}
