-- What a line's marks cost, by what is kept of the line and of the levels.
use Rattle.std.proofs.Common.{◌≡◌, ◌≢◌, ◌∙◌, ◌↔◌, ℕ, ◌*◌, ◌/◌, ◌<◌, cond, Bool, true, false, IsTrue, List, [], ◌∷◌, length, ℤ, pos, ◌+ℤ◌, ◌-ℤ◌, unsigned_abs, get_or, refl, sym, ap, ap₂, subst, arith, eq-eqb, ne_eqb, inl, inr, Option}
use Rattle.std.proofs.lemmas.Bool.{cases_eq}
use Rattle.std.proofs.Math.ListN.{get_or-map}
use Rattle.problem_core.specs.declared.parts.Mark.{Mark}
use Rattle.problem_core.specs.declared.parts.Side.{Side}
use Rattle.problem_core.specs.declared.parts.Side.TheVariants.{Under, Over}
use Rattle.problem_core.specs.Layout.{Line, Problem, lines}
use Rattle.problem_core.specs.Kept.{IsWhole}
use Rattle.problem_core.specs.Certificates.{over_weight, under_weight}
use Rattle.problem_core.specs.Corners.{HasNegativeColumn, IsIn, NoNegativeColumn, place_of}
use Rattle.corner_laws.specs.Units.{over_share, under_share}
use Rattle.corner_laws.proofs.LevelCosts.LevelSizes.{no-over, no-under}
use Rattle.corner_lines.specs.LineEquations.{IsOutsideLine}
use Rattle.corner_lines.specs.Levels.LevelRows.{reduced_number}
use Rattle.corner_lines.specs.Fronts.{costs_of}
use Rattle.path_lines.specs.Numbers.{number_at as number_of}
use Rattle.path_lines.specs.Tables.{IsThere, line_count, name_at, numbers_of}
use Rattle.path_lines.proofs.Iffs.{always, never, right_then, through, wrong_then}
use Rattle.path_lines.proofs.Places.{any_line, name_there, number_there}
use Rattle.path_lines.specs.declared.table.Inside.{Inside}
use Rattle.path_levels.specs.declared.outline.Outline.{Outline}
use Rattle.path_levels.specs.declared.outline.LevelFacts.{LevelFacts}
use Rattle.path_levels.specs.declared.outline.LineFacts.{LineFacts}
use Rattle.path_levels.specs.declared.sums.LevelSum.{LevelSum}
use Rattle.path_levels.specs.Levels.{AreLevels}
use Rattle.path_levels.specs.Rows.{AreKept}
use Rattle.path_levels.specs.Costs.{HasNegative, IsNegativeFirst, cost_in, cost_of, counted}
use Rattle.path_levels.specs.Shares.{share_of}
use Rattle.path_levels.specs.Outlines.{AreLevelFacts, IsFactsOf, IsOutline, number_at}
use Rattle.path_levels.proofs.Judging.FirstSigns.{IsRising, first_by_places, first_same, rising_same}
use Rattle.path_levels.proofs.Judging.OwnColumns.{are_multipliers, inner_column, line_at, mark_at, none_negative, outer_negative, own_multipliers, row_is_multiple}
use Rattle.path_levels.proofs.Judging.PlacedRows.{ArePlaced, Placed, are_multiples, place_cost, placed_costs, rows_of}
use Rattle.path_levels.proofs.Exchanges.MultipleFacts.{any_level}
use Rattle.path_levels.proofs.Exchanges.FitFacts.{any_facts}
use Rattle.path_levels.proofs.Joining.JoinRows.{under-quotient as under-share, over-quotient as over-share}
use Rattle.path_levels.proofs.Parts.PartLines.{facts_at}
use Rattle.frac_core.proofs.Numbers.{no-product as no-share}
use Rattle.problem_core.proofs.Lines.{own-weight as own_weight}

-- ---- facts

pub levels_rise : (p : Problem) (levels : List LevelFacts) → AreLevelFacts p levels → IsRising (length levels) (number_at levels)
levels_rise p levels are j k less within =
    let e = get_or-map (λ (f : LevelFacts). f.number) levels j any_level in
    let g = get_or-map (λ (f : LevelFacts). f.number) levels k any_level in
    let h = are.rising j k any_level less within in
    omega (arith, e, g, h)

-- ---- shares

under-there : (unit level : ℕ) (l : Line) (f : LineFacts) → l.level ≡ level → f.under ≡ pos (under_weight l.rel l.weight) → f.scale ≡ pos l.scale → under_share unit level l ≡ share_of Under unit f
under-there unit level l f e under scale =
    ap (λ (w : ℕ). under_weight l.rel (unit * w / l.scale)) (own_weight l level e) ∙ under-share l.rel unit l.weight l.scale
    ∙ sym (ap₂ (λ (u s : ℕ). unit * u / s) (ap unsigned_abs under) (ap unsigned_abs scale))

over-there : (unit level : ℕ) (l : Line) (f : LineFacts) → l.level ≡ level → f.over ≡ pos (over_weight l.rel l.weight) → f.scale ≡ pos l.scale → over_share unit level l ≡ share_of Over unit f
over-there unit level l f e over scale =
    ap (λ (w : ℕ). over_weight l.rel (unit * w / l.scale)) (own_weight l level e) ∙ over-share l.rel unit l.weight l.scale
    ∙ sym (ap₂ (λ (u s : ℕ). unit * u / s) (ap unsigned_abs over) (ap unsigned_abs scale))

counted-there : (side : Side) (place unit own n : ℕ) (f : LineFacts) → f.level ≡ place → n ≡ share_of side unit f → own * n ≡ counted side place unit own f
counted-there side place unit own n f here e = ap (λ (m : ℕ). own * m) e ∙ sym (ap (λ (b : Bool). cond b (own * share_of side unit f) 0) (eq-eqb f.level place here))

counted-elsewhere : (side : Side) (place unit own n : ℕ) (f : LineFacts) → f.level ≢ place → n ≡ 0 → own * n ≡ counted side place unit own f
counted-elsewhere side place unit own n f ne e = no-share own n e ∙ sym (ap (λ (b : Bool). cond b (own * share_of side unit f) 0) (ne_eqb f.level place ne))

reduced-same : (side : Side) (level place unit own : ℕ) (y : ℤ) (l : Line) (f : LineFacts) → own * under_share unit level l ≡ counted Under place unit own f → own * over_share unit level l ≡ counted Over place unit own f
    → reduced_number side level unit own y l ≡ cost_of side place unit own f y
reduced-same Under level place unit own y l f under over = ap (λ (n : ℕ). pos n -ℤ y) under
reduced-same Over level place unit own y l f under over = ap (λ (n : ℕ). pos n +ℤ y) over

-- the reduced cost is what is counted from the facts
pub reduced_there : (side : Side) (levels : List LevelFacts) (place unit own : ℕ) (y : ℤ) (l : Line) (f : LineFacts) → IsRising (length levels) (number_at levels) → IsFactsOf levels l f → place < length levels
    → reduced_number side (number_at levels place) unit own y l ≡ cost_of side place unit own f y
reduced_there side levels place unit own y l f rising is within =
    elim (cases_eq f.level place) [
      | inl here ↦
          let e : l.level ≡ number_at levels place = sym is.number ∙ ap (number_at levels) here in
          reduced-same side (number_at levels place) place unit own y l f
          (counted-there Under place unit own (under_share unit (number_at levels place) l) f here (under-there unit (number_at levels place) l f e is.under is.scale))
          (counted-there Over place unit own (over_share unit (number_at levels place) l) f here (over-there unit (number_at levels place) l f e is.over is.scale))
      | inr ne ↦
          let apart : l.level ≢ number_at levels place = λ same. ne (rising_same (length levels) (number_at levels) f.level place rising is.level within (is.number ∙ same)) in
          reduced-same side (number_at levels place) place unit own y l f
          (counted-elsewhere Under place unit own (under_share unit (number_at levels place) l) f ne (no-under unit (number_at levels place) l apart))
          (counted-elsewhere Over place unit own (over_share unit (number_at levels place) l) f ne (no-over unit (number_at levels place) l apart))
    ]

-- ---- costs by places

abbrev pub placed_by : Outline → (ℕ → ℕ) → (ℕ → ℕ) → (ℕ → List ℤ) → Placed
placed_by outline unit own by = record { count = length outline.levels.items; level = number_at outline.levels.items; unit = unit; own = own; by = by }

abbrev pub cost_by : Side → LineFacts → ℕ → (ℕ → ℕ) → (ℕ → ℕ) → (ℕ → List ℤ) → ℕ → ℤ
cost_by side facts at unit own by place = cost_of side place (unit place) (own place) facts (number_of (by place) at)

pub cost_same : (p : Problem) (outline : Outline) (unit own : ℕ → ℕ) (by : ℕ → List ℤ) (side : Side) (f : LineFacts) (i k : ℕ) → IsWhole p → IsOutline p outline → i < line_count p → k < length outline.levels.items → length (by k) ≡ line_count p
    → place_cost p (placed_by outline unit own by) side (line_at p i) k ≡ cost_by side (get_or outline.lines.items i f) i unit own by k
cost_same p outline unit own by side f i k whole is within less count =
    let y : numbers_of (lines p) (by k) (line_at p i).name ≡ number_of (by k) i = ap (numbers_of (lines p) (by k)) (name_there p i any_line within) ∙ number_there p (by k) i whole count within in
    ap (λ (z : ℤ). reduced_number side (number_at outline.levels.items k) (unit k) (own k) z (line_at p i)) y
    ∙ reduced_there side outline.levels.items k (unit k) (own k) (number_of (by k) i) (line_at p i) (get_or outline.lines.items i f) (levels_rise p outline.levels.items is.levels_are) (facts_at outline.levels.items (lines p) outline.lines.items i any_line f is.lines_are within) less

-- the line's mark has a negative column exactly where the first of these that isn't 0 is below 0
pub negative_by : (p : Problem) (at : List Mark) (outline : Outline) (unit own : ℕ → ℕ) (by : ℕ → List ℤ) (side : Side) (f : LineFacts) (i : ℕ) → IsThere p at → IsOutline p outline → ArePlaced p at (placed_by outline unit own by) → ((k : ℕ) → k < length outline.levels.items → length (by k) ≡ line_count p) → i < line_count p
    → IsOutsideLine at (name_at p i) → HasNegativeColumn p at (mark_at p i side) ↔ IsNegativeFirst (length outline.levels.items) (cost_by side (get_or outline.lines.items i f) i unit own by)
negative_by p at outline unit own by side f i there is are counts within outside =
    let q : Placed = placed_by outline unit own by in
    let iff = outer_negative p at (rows_of p q) i side there.whole there.rays (are_multiples p at q are) within outside in
    let first = first_by_places q.count q.level (costs_of (rows_of p q) side (line_at p i)) (place_cost p q side (line_at p i)) (placed_costs p at q side i are within) in
    let same : (k : ℕ) → k < length outline.levels.items → place_cost p q side (line_at p i) k ≡ cost_by side (get_or outline.lines.items i f) i unit own by k =
    λ k less. cost_same p outline unit own by side f i k there.whole is within less (counts k less) in (
      λ negative. first_same q.count (place_cost p q side (line_at p i)) (cost_by side (get_or outline.lines.items i f) i unit own by) same (first.0 (iff.0 negative)),
      λ low. iff.1 (first.1 (first_same q.count (cost_by side (get_or outline.lines.items i f) i unit own by) (place_cost p q side (line_at p i)) (λ k less. sym (same k less)) low)),
    )

-- ---- by the sums of levels

abbrev pub unit_at : List LevelSum → LevelSum → ℕ → ℕ
unit_at levels d k = unsigned_abs (get_or levels k d).unit

abbrev pub own_at : List LevelSum → LevelSum → ℕ → ℕ
own_at levels d k = unsigned_abs (get_or levels k d).own

abbrev pub by_at : List LevelSum → LevelSum → ℕ → List ℤ
by_at levels d k = (get_or levels k d).by.items

-- each line stands at one of the levels
pub lines_stand : (p : Problem) (outline : Outline) (i : ℕ) (d : Line) → IsOutline p outline → i < line_count p → (k : ℕ) × (k < length outline.levels.items) × (number_at outline.levels.items k ≡ (get_or (lines p) i d).level)
lines_stand p outline i d is within =
    let f = facts_at outline.levels.items (lines p) outline.lines.items i d any_facts is.lines_are within in
    ((get_or outline.lines.items i any_facts).level, f.level, f.number)

pub sums_are : (p : Problem) (at : List Mark) (outline : Outline) (kept : List (Option Inside)) (levels : List LevelSum) (d : LevelSum) → AreKept p at outline kept → AreLevels p at outline levels → ArePlaced p at (placed_by outline (unit_at levels d) (own_at levels d) (by_at levels d))
sums_are p at outline kept levels d are sums = record {
  rising = levels_rise p outline.levels.items are.outline_is.levels_are;
  rows = λ k within. let sum = sums.each k d within in (sum.there.unit_is, row_is_multiple p at (number_at outline.levels.items k) (unit_at levels d k) (own_at levels d k) (numbers_of (lines p) (by_at levels d k)) sum.there.row);
  all = λ i e within. lines_stand p outline i e are.outline_is within;
}

pub negative_at : (p : Problem) (at : List Mark) (outline : Outline) (kept : List (Option Inside)) (levels : List LevelSum) (d : LevelSum) (f : LineFacts) (i : ℕ) (side : Side) → AreKept p at outline kept → AreLevels p at outline levels → i < line_count p → IsOutsideLine at (name_at p i)
    → HasNegativeColumn p at (mark_at p i side) ↔ IsNegativeFirst (length levels) (λ k. cost_in side (get_or outline.lines.items i f) i k (get_or levels k d))
negative_at p at outline kept levels d f i side are sums within outside =
    subst (λ (n : ℕ). HasNegativeColumn p at (mark_at p i side) ↔ IsNegativeFirst n (λ k. cost_in side (get_or outline.lines.items i f) i k (get_or levels k d))) (sym sums.count)
    (negative_by p at outline (unit_at levels d) (own_at levels d) (by_at levels d) side f i are.there are.outline_is (sums_are p at outline kept levels d are sums) (λ k less. (sums.each k d less).sized.count_is) within outside)

-- ---- with levels or without

pub none_unit : ℕ → ℕ
none_unit k = 1

pub no_numbers : ℕ → List ℤ
no_numbers k = []

pub none_are : (p : Problem) (at : List Mark) (outline : Outline) → IsOutline p outline → length outline.levels.items ≡ 0 → ArePlaced p at (placed_by outline none_unit none_unit no_numbers)
none_are p at outline is none = record {
  rising = levels_rise p outline.levels.items is.levels_are;
  rows = λ k within. absurd (omega (arith, within, none));
  all = λ i e within. lines_stand p outline i e is within;
}

pub outside_decided : (b : Bool) (p : Problem) (at : List Mark) (outline : Outline) (kept : List (Option Inside)) (levels : List LevelSum) (f : LineFacts) (i : ℕ) (side : Side) → AreKept p at outline kept → AreLevels p at outline levels → i < line_count p → IsOutsideLine at (name_at p i)
    → (levels ≡ [] → b ≡ false) → ((d : LevelSum) → IsTrue b ↔ IsNegativeFirst (length levels) (λ k. cost_in side (get_or outline.lines.items i f) i k (get_or levels k d))) → IsTrue b ↔ HasNegativeColumn p at (mark_at p i side)
outside_decided b p at outline kept [] f i side are sums within outside none first =
    let empty : length outline.levels.items ≡ 0 = omega (arith, sums.count) in
    let iff = negative_by p at outline none_unit none_unit no_numbers side f i are.there are.outline_is (none_are p at outline are.outline_is empty) (λ k less. absurd (omega (arith, less, empty))) within outside in
    never b (none refl) (λ negative. let low = (iff.0 negative).within in absurd (omega (arith, low, empty)))
outside_decided b p at outline kept (d ∷ levels) f i side are sums within outside none first =
    let iff = negative_at p at outline kept (d ∷ levels) d f i side are sums within outside in
    through b (first d) (iff.1, iff.0)

-- ---- inside, and all

pub inside_decided : (p : Problem) (at : List Mark) (i : ℕ) (side inside : Side) → IsThere p at → i < line_count p → IsIn (place_of (name_at p i) inside) at → HasNegativeColumn p at (mark_at p i side) → ⊥
inside_decided p at i side inside there within here negative = inner_column p at i inside side negative.0 there.whole there.rays negative.1 within here negative

pub placed_all : (p : Problem) (at : List Mark) (q : Placed) → IsThere p at → ArePlaced p at q → ((k : ℕ) → k < line_count p → HasNegative p at k → ⊥) ↔ NoNegativeColumn p at
placed_all p at q there are =
    let rows = are_multiples p at q are in
    let iff = none_negative p at (own_multipliers p at (rows_of p q) rows) there.whole there.rays (are_multipliers p at (rows_of p q) rows) in (
      λ none. iff.0 (λ k side within negative. none k within (side, negative)),
      λ up k within negative. iff.1 up k negative.0 within negative.1,
    )

pub all_decided : (p : Problem) (at : List Mark) (outline : Outline) (kept : List (Option Inside)) (levels : List LevelSum) → AreKept p at outline kept → AreLevels p at outline levels
    → ((k : ℕ) → k < line_count p → HasNegative p at k → ⊥) ↔ NoNegativeColumn p at
all_decided p at outline kept [] are sums = placed_all p at (placed_by outline none_unit none_unit no_numbers) are.there (none_are p at outline are.outline_is (omega (arith, sums.count)))
all_decided p at outline kept (d ∷ levels) are sums =
    placed_all p at (placed_by outline (unit_at (d ∷ levels) d) (own_at (d ∷ levels) d) (by_at (d ∷ levels) d)) are.there (sums_are p at outline kept (d ∷ levels) d are sums)

-- ---- the two marks of a line

pub under_is : (N : Side → Type 0) (a : Bool) → a ≡ true → IsTrue a ↔ N Under → IsTrue a ↔ ((side : Side) × N side)
under_is N a found under = always a found (Under, right_then a found under)

pub over_is : (N : Side → Type 0) (a b : Bool) → a ≡ false → IsTrue a ↔ N Under → IsTrue b ↔ N Over → IsTrue b ↔ ((side : Side) × N side)
over_is N a b none under over = (λ is. (Over, over.0 is), λ found. by-side found.0 found.1)
  where
    by-side : (side : Side) → N side → IsTrue b
    by-side Under found = absurd (wrong_then a none under found)
    by-side Over found = over.1 found
