-- A level none of whose rows has joined yet.
use Rattle.std.proofs.Common.{◌≡◌, ◌∙◌, ℕ, ◌/◌, ◌<◌, ◌≤◌, ◌^◌, nat_eq, List, [], ◌∷◌, length, take, get_or, ℤ, pos, ◌*ℤ◌, unsigned_abs, refl, sym, ap, subst, arith, inr, All}
use Rattle.std.specs.List.{filter}
use Rattle.std.proofs.lemmas.List.Elements.{recursion_from_All}
use Rattle.frac_core.specs.Fraction.{Fits, Fraction, IsLowest}
use Rattle.frac_core.proofs.Integers.{zero-mul_ℤ}
use Rattle.problem_core.specs.declared.parts.Mark.{Mark}
use Rattle.problem_core.specs.declared.parts.RowName.{RowName}
use Rattle.problem_core.specs.Layout.{Line, Problem, lines, sum_of}
use Rattle.problem_core.specs.Certificates.{weight_at}
use Rattle.problem_core.specs.Corners.{IsCorner, Point, one_column}
use Rattle.problem_core.specs.Levels.{HasNoLevelWriting, IsCostAt, line_cost, scales}
use Rattle.problem_core.specs.Window.{zero_fraction}
use Rattle.problem_core.proofs.Forms.{each-impl, mul-sum}
use Rattle.corner_laws.specs.Units.{IsLevelUnit}
use Rattle.corner_lines.specs.Levels.LevelFits.{IsFittingRow}
use Rattle.corner_lines.specs.Levels.LevelRows.{HasLevelRow}
use Rattle.corner_lines.proofs.Costs.LevelFits.{fitting_row_has_writing, small_row_fits}
use Rattle.corner_lines.proofs.LevelRows.LevelJoins.{empty_level_has_row}
use Rattle.corner_lines.proofs.LevelRows.LevelSound.{first_rows_are_sound}
use Rattle.path_lines.specs.Tables.{IsThere, line_count, numbers_of}
use Rattle.path_levels.specs.declared.sums.LevelSum.{LevelSum}
use Rattle.path_levels.specs.Levels.{IsLevelSum, IsSizedLevel}
use Rattle.path_levels.specs.Parts.{IsEmptySum, part}
use Rattle.path_levels.specs.Rows.{level_place}
use Rattle.path_levels.proofs.Parts.PartLines.{part_lines}
use Rattle.path_levels.proofs.Parts.Weighed.{weighed_later, weighed_length}
use Rattle.problem_core.proofs.Corners.Conflicts.{sum-each}
use Rattle.problem_core.proofs.Sides.{zero-lowest}
use Rattle.path_lines.proofs.Walking.FirstLines.{numbers_zero as zeros-none}
use Rattle.problem_core.proofs.Lines.{free-cost}

-- ---- it costs nothing

pub free_costs_nothing : (p : Problem) (at : List Mark) (level : ℕ) → IsCorner p at → All (λ l. weight_at l level ≡ 0) (lines p) → IsCostAt p at level zero_fraction
free_costs_nothing p at level corner none =
    let x : Point = corner.point in (
      corner.point,
      corner.stands,
      ap (λ (z : ℤ). z *ℤ pos 1)
          (sum-each (λ l. pos (scales p / l.scale) *ℤ line_cost level corner.point.num l) (λ l. pos 0 *ℤ pos 0) (lines p)
          (each-impl (λ l. weight_at l level ≡ 0) _ (lines p) (λ l e. free-cost (scales p / l.scale) level corner.point.num l e) (recursion_from_All _ (lines p) none))
          ∙ mul-sum (pos 0) (λ (l : Line). pos 0) (lines p) ∙ zero-mul_ℤ (sum_of (λ (l : Line). pos 0) (lines p)))
          ∙ sym (zero-mul_ℤ (pos (scales p) *ℤ corner.point.num one_column)),
    )

-- ---- its lines

none-taken : (ls : List Line) → take 0 ls ≡ []
none-taken [] = refl
none-taken (l ∷ ls) = refl

pub none_joined : (p : Problem) (level : ℕ) → level_place p level 0 ≡ 0
none_joined p level = ap (λ (ls : List Line). length (filter (λ l. nat_eq l.level level) ls)) (none-taken (lines p))

pub none_weighs : (p : Problem) (level : ℕ) → level ≤ 1000 → All (λ l. weight_at l level ≡ 0) (lines (part p level 0))
none_weighs p level h =
    subst (λ (ls : List Line). All (λ l. weight_at l level ≡ 0) ls) (sym (part_lines p level 0 h))
    (λ k d within. weighed_later level 0 k (lines p) d (omega arith) (omega (arith, within, weighed_length level 0 (lines p))))

zero-small : unsigned_abs (pos 0) < 2 ^ 41
zero-small = omega arith

zero-fits : Fits zero_fraction
zero-fits = record { num_fits = omega arith; den_fits = omega arith }

pub empty_fits : (count : ℕ) (sum : LevelSum) → IsEmptySum count sum → Fits sum.cost
empty_fits count sum empty = subst Fits (sym empty.cost) zero-fits

-- ---- its row

pub empty_part : (p : Problem) (at : List Mark) (level : ℕ) (sum : LevelSum) → level ≤ 1000 → IsThere p at → IsSizedLevel (line_count p) sum → IsEmptySum (line_count p) sum → IsLevelSum (part p level 0) at level sum
empty_part p at level sum h there sized empty =
    let q : Problem = part p level 0 in
    let sound = first_rows_are_sound p at level (level_place p level 0) there.whole there.corner there.rays in
    let none : All (λ l. weight_at l level ≡ 0) (lines q) = none_weighs p level h in
    let is = empty_level_has_row q at level none in
    let zeros : (name : RowName) → numbers_of (lines q) sum.by.items name ≡ pos 0 = λ name. zeros-none (lines q) sum.by.items name (recursion_from_All (λ z. z ≡ pos 0) sum.by.items empty.zero) in
    let unit : 1 ≡ unsigned_abs sum.unit = sym (ap unsigned_abs empty.unit) in
    let own : 1 ≡ unsigned_abs sum.own = sym (ap unsigned_abs empty.own) in
    let count : line_count p ≡ line_count q = sym (ap (λ (ls : List Line). length ls) (part_lines p level 0 h) ∙ weighed_length level 0 (lines p)) in
    let row : HasLevelRow q at level 1 1 (numbers_of (lines q) sum.by.items) = record { by = is.1.by; row = is.1.row; outside = λ i d within out. is.1.outside i d within out ∙ sym (zeros (get_or (lines q) i d).name) } in
    let fit : IsFittingRow q at level 1 1 (numbers_of (lines q) sum.by.items) =
    small_row_fits q at level 1 1 (numbers_of (lines q) sum.by.items) sound.0 (omega arith) (λ i d within out. subst (λ (z : ℤ). unsigned_abs z < 2 ^ 41) (sym (zeros (get_or (lines q) i d).name)) zero-small) in
    record {
      sized = subst (λ (n : ℕ). IsSizedLevel n sum) count sized;
      there = record {
        sound = sound.0;
        corner = sound.1;
        rays = sound.2;
        unit_is = subst (λ (n : ℕ). IsLevelUnit q level n) unit is.0;
        row = subst (λ (n : ℕ). HasLevelRow q at level (unsigned_abs sum.unit) n (numbers_of (lines q) sum.by.items)) own (subst (λ (n : ℕ). HasLevelRow q at level n 1 (numbers_of (lines q) sum.by.items)) unit row);
        cost_is = subst (λ (f : Fraction). IsCostAt q at level f) (sym empty.cost) (free_costs_nothing q at level sound.1 none);
        lowest = subst IsLowest (sym empty.cost) zero-lowest;
      };
      fitting = subst (λ (n : ℕ). IsFittingRow q at level (unsigned_abs sum.unit) n (numbers_of (lines q) sum.by.items)) own (subst (λ (n : ℕ). IsFittingRow q at level n 1 (numbers_of (lines q) sum.by.items)) unit fit);
      inside = λ i d within. inr (zeros (get_or (lines q) i d).name);
    }

-- what fits has a writing that fits
pub sum_fits : (q : Problem) (at : List Mark) (level : ℕ) (sum : LevelSum) → Fits sum.cost → IsLevelSum q at level sum → HasNoLevelWriting q at level → ⊥
sum_fits q at level sum fits is none = fitting_row_has_writing q at level (unsigned_abs sum.unit) (unsigned_abs sum.own) (numbers_of (lines q) sum.by.items) sum.cost is.there is.fitting fits none
