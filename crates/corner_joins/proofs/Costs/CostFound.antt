-- What is found where a line joins its level, as the contracts say it.
use Rattle.std.specs.Result.{IsErrAnd}
use Rattle.std.proofs.Common.{Result, Ok, Err, IfErr, ◌≡◌, ◌∙◌, ℕ, ◌*◌, ◌<◌, ◌≤◌, List, [], ◌∷◌, sym, ap, subst, arith, inl, inr, ℤ, pos, neg_ℤ, ◌*ℤ◌, ◌<ℤ◌, unsigned_abs}
use borrow.Author.Differences.{ints}
use Rattle.frac_core.specs.Fraction.{IsFitting}
use Rattle.frac_core.specs.declared.frac.TheConstants.{PART_BOUND}
use Rattle.row_core.specs.Rows.{Term, coefficient, IsKeptRow}
use Rattle.problem_core.specs.declared.parts.Side.{Side}
use Rattle.problem_core.specs.Changes.Stops.{TableStop}
use Rattle.problem_core.specs.Layout.{Line, Row, line_of_row, lines}
use Rattle.problem_core.specs.Levels.{HasNoLevelWriting}
use Rattle.corner_lines.specs.LineEquations.{sign_of}
use Rattle.corner_lines.specs.Levels.LevelRows.{HasLevelRow, inside_number}
use Rattle.corner_joins.specs.declared.joining.Rise.{Rise}
use Rattle.corner_table.specs.declared.table.TheConstants.{LEVELS}
use Rattle.corner_table.specs.Tables.{Lists, problem_of, entry, marks_at, priority_at, row_at, slot_at}
use Rattle.corner_writings.specs.Rows.{row_number}
use Rattle.corner_table.specs.Reads.LevelNumbers.{share_of}
use Rattle.corner_joins.specs.Additions.Parts.{IsPartlyKept}
use Rattle.corner_joins.specs.Additions.CostJoins.{IsCostStop, IsInUnit, IsJoinedRow, IsJoining, IsRiseAt, IsShared, IsShareStop, IsSignedCount, IsUnitStop, home_at, with_next}
use Rattle.std.proofs.lemmas.List.Elements.{All-from_recursion}
use Rattle.problem_core.specs.declared.parts.Side.TheVariants.{Under, Over}
use Rattle.corner_laws.proofs.LevelCosts.LevelSmall.{lines_light}
use Rattle.corner_lines.proofs.LevelRows.LevelSound.{whole_is_sound}
use Rattle.corner_table.specs.Reads.LevelNumbers.{IsCounted}
use Rattle.corner_table.proofs.Readings.SlotFacts.{any_is}
use Rattle.corner_joins.proofs.Costs.CostLines.{next-row, next_slot}
use Rattle.corner_joins.proofs.Costs.CostJoins.{IsCostJoin, below_levels, part_of, size_of}
use Rattle.corner_joins.proofs.Costs.CostTerms.{IsCostRow, size-above, size-is}
use Rattle.corner_joins.proofs.Costs.CostSteps.{cost_row_is, count_is, joined_ok, rise_join, share_unfit, shared_above, sum_unfit, unit_unfit}
use Rattle.frac_core.proofs.Products.{above_zero as positive-pos}

-- a line that joins its level, with the rise of the unit
pub record IsFound (t : Lists) (line : ℕ) (rise : Rise) : Type 0 where
  pub row : Row
  pub side : Side
  pub times : ℕ
  pub times_is : rise.times ≡ pos times
  pub join : IsCostJoin t row line side (home_at t line) times
  pub unit_is : rise.unit ≡ pos (times * (part_of t row line side (home_at t line) times join).unit)

pub found : (t : Lists) (r : Row) (line : ℕ) (rise : Rise) → IsPartlyKept t → IsJoining t r line → IsRiseAt t line rise → IsFound t line rise
found t r line rise kept joins h =
    let j = rise_join t r line rise kept joins h in
    record {
      row = r;
      side = j.0;
      times = h.times;
      times_is = h.times_is;
      join = j.1;
      unit_is = h.unit_is ∙ ap (λ (z : ℤ). pos (h.times * unsigned_abs z)) (part_of t r line j.0 (home_at t line) h.times j.1).unit_is;
    }

-- its number in the new unit
pub found_count : (t : Lists) (line : ℕ) (rise : Rise) (count : ℤ) → (f : IsFound t line rise) → IsSignedCount t line rise.unit count
    → count ≡ neg_ℤ (inside_number f.side (home_at t line) (f.times * (part_of t f.row line f.side (home_at t line) f.times f.join).unit) 1 (line_of_row f.row))
found_count t line rise count f counts = counts f.side f.join.next.side_is ∙ count_is t f.row line f.side (home_at t line) f.times rise.unit f.join f.unit_is

pub found_below : (t : Lists) (line : ℕ) (rise : Rise) → IsFound t line rise → home_at t line < LEVELS
found_below t line rise f = below_levels (home_at t line) f.row f.join.level

pub found_size : (t : Lists) (line : ℕ) (rise : Rise) → IsFound t line rise → pos 0 <ℤ entry t line line
found_size t line rise f = subst (λ (z : ℤ). pos 0 <ℤ z) (sym (size-is t f.row line f.side f.join.next)) (positive-pos (size_of t f.row line f.side f.join.next) (size-above t f.row line f.side f.join.next))

pub found_old : (t : Lists) (line : ℕ) (rise : Rise) (old : List Term) → IsFound t line rise → ((priority_at t (home_at t line)).rows ≡ 0 → old ≡ record { col = home_at t line; by = pos 1 } ∷ []) → (((priority_at t (home_at t line)).rows ≡ 0 → ⊥) → old ≡ row_at t (home_at t line))
    → IsCostRow t (home_at t line) old
found_old t line rise old f none some = cost_row_is t (home_at t line) old (part_of t f.row line f.side (home_at t line) f.times f.join).empty none some

pub found_level : (t : Lists) (line : ℕ) (rise : Rise) (old : List Term) → IsFound t line rise → IsCostRow t (home_at t line) old → pos 0 <ℤ coefficient (home_at t line) old
found_level t line rise old f row =
    let part = part_of t f.row line f.side (home_at t line) f.times f.join in
    subst (λ (z : ℤ). pos 0 <ℤ z) (sym (row.own ∙ part.own_is)) (positive-pos part.own part.numbers.row.own_positive)

pub found_own : (t : Lists) (line : ℕ) (rise : Rise) (count : ℤ) (old row : List Term) → IsFound t line rise → IsCostRow t (home_at t line) old → IsShared t old line count rise.times row → pos 0 <ℤ coefficient (home_at t line) row
found_own t line rise count old row f cost shared =
    shared_above t f.row line f.side (home_at t line) f.times count old row f.join cost (subst (λ (z : ℤ). IsShared t old line count z row) f.times_is shared)

pub found_share_stop : (t : Lists) (line : ℕ) (rise : Rise) (count : ℤ) (old : List Term) (stop e : TableStop) → IsFound t line rise → IsCostRow t (home_at t line) old → IsSignedCount t line rise.unit count
    → IsShareStop t old line count rise.times stop e → IsCostStop t line stop e
found_share_stop t line rise count old stop e f cost counts (inl none) = inl none
found_share_stop t line rise count old stop e f cost counts (inr h) =
    let there : IsShareStop t old line count (pos f.times) stop e = subst (λ (z : ℤ). IsShareStop t old line count z stop e) f.times_is (inr h) in
    with-times there
  where
    with-times : IsShareStop t old line count (pos f.times) stop e → IsCostStop t line stop e
    with-times (inl none) = inl none
    with-times (inr (same, h)) = inr (same, sum_unfit t f.row line f.side (home_at t line) f.times count old f.join cost (found_count t line rise count f counts) h)

pub found_unit_stop : (t : Lists) (line : ℕ) (rise : Rise) (count : ℤ) (old row : List Term) (stop e : TableStop) → IsFound t line rise → IsCostRow t (home_at t line) old → IsSignedCount t line rise.unit count
    → IsShared t old line count rise.times row → IsUnitStop row (home_at t line) rise.times stop e → IsCostStop t line stop e
found_unit_stop t line rise count old row stop e f cost counts shared h =
    with-times (subst (λ (z : ℤ). IsShared t old line count z row) f.times_is shared) (subst (λ (z : ℤ). IsUnitStop row (home_at t line) z stop e) f.times_is h)
  where
    with-times : IsShared t old line count (pos f.times) row → IsUnitStop row (home_at t line) (pos f.times) stop e → IsCostStop t line stop e
    with-times shared (inl none) = inl none
    with-times shared (inr (same, h)) = inr (same, unit_unfit t f.row line f.side (home_at t line) f.times count old row f.join cost (found_count t line rise count f counts) shared h)

pub found_row : (t : Lists) (line : ℕ) (rise : Rise) (count : ℤ) (old row new : List Term) → IsFound t line rise → IsCostRow t (home_at t line) old → IsSignedCount t line rise.unit count → IsShared t old line count rise.times row
    → IsInUnit row (home_at t line) rise.times new → IsKeptRow new → IsJoinedRow t line rise.unit new
found_row t line rise count old row new f cost counts shared made kept =
    let u : ℕ = f.times * (part_of t f.row line f.side (home_at t line) f.times f.join).unit in
    let h = joined_ok t f.row line f.side (home_at t line) f.times count old row new f.join cost (found_count t line rise count f counts) (subst (λ (z : ℤ). IsShared t old line count z row) f.times_is shared)
    (subst (λ (z : ℤ). IsInUnit row (home_at t line) z new) f.times_is made) kept.lowest in
    record {
      own = h.0;
      own_is = h.1;
      level_row = subst (λ (n : ℕ). HasLevelRow (with_next t (home_at t line)) (marks_at t) (home_at t line) n h.0 (row_number t (home_at t line) new)) (sym (ap unsigned_abs f.unit_is)) h.2;
      columns = h.3;
    }

-- an error that is passed on
pub passed_on : {T E : Type 0} (r : Result T E) (x : E) (P : E → Type 0) → IsErrAnd r (λ e. e ≡ x) → P x → IfErr r P
passed_on (Ok a) x P h k = absurd h
passed_on (Err e) x P h k = subst P (sym h) k

-- the line's slot and the new unit
pub found_counted : (t : Lists) (line : ℕ) (rise : Rise) → IsFound t line rise → IsFitting rise.unit → IsCounted (slot_at t line) rise.unit
found_counted t line rise f fits =
    let s = next_slot t f.row line f.side f.join.next in
    let w : (slot_at t line).weight ≡ pos f.row.weight = ap (λ (n : ℕ). (slot_at t n).weight) (sym f.join.next.slot_is) ∙ s.weight in
    let k : (slot_at t line).scale ≡ pos f.row.scale = ap (λ (n : ℕ). (slot_at t n).scale) (sym f.join.next.slot_is) ∙ s.scale in
    let light : f.row.weight ≤ 1000 = any_is (λ l. l.weight ≤ 1000) (λ l. l ≡ line_of_row f.row) (lines (problem_of t)) (All-from_recursion (λ l. l.weight ≤ 1000) (lines (problem_of t)) (lines_light (problem_of t) f.join.next.kept.whole)) (next-row t f.row f.join.next.next)
    (λ l h e. subst (λ (m : Line). m.weight ≤ 1000) e h) in
    let above : 0 < f.row.scale = any_is (λ l. (0 < l.scale) × (0 < l.den)) (λ l. l ≡ line_of_row f.row) (lines (problem_of t)) (whole_is_sound (problem_of t) f.join.next.kept.whole).problem (next-row t f.row f.join.next.next)
    (λ l h e. subst (λ (m : Line). 0 < m.scale) e h.0) in
    record {
      weight_is = w ∙ sym (ap (λ (z : ℤ). pos (unsigned_abs z)) w);
      light = subst (λ (z : ℤ). unsigned_abs z ≤ 1000) (sym w) light;
      scale_is = k ∙ sym (ap (λ (z : ℤ). pos (unsigned_abs z)) k);
      scale_positive = subst (λ (z : ℤ). 0 < unsigned_abs z) (sym k) above;
      unit_is = f.unit_is ∙ sym (ap (λ (z : ℤ). pos (unsigned_abs z)) f.unit_is);
      fits = fits;
    }

pub found_share_unfit : (t : Lists) (line : ℕ) (rise : Rise) → IsFound t line rise → PART_BOUND ≤ share_of (slot_at t line) rise.unit → HasNoLevelWriting (with_next t (home_at t line)) (marks_at t) (home_at t line)
found_share_unfit t line rise f large = share_unfit t f.row line f.side (home_at t line) f.times rise.unit f.join f.unit_is large

pub signed_fits : (n : ℤ) (side : Side) → IsFitting n → IsFitting (n *ℤ sign_of side)
signed_fits n Under h = omega (arith, ints, h)
signed_fits n Over h = omega (arith, ints, h)
