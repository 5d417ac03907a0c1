-- Where all rows have joined their levels, the lists keep all.
use Rattle.std.proofs.Common.{◌≡◌, ◌∙◌, ◌<◌, ◌*◌, ℕ, sym, subst, arith, All}
use Rattle.problem_core.specs.Layout.{Problem, lines}
use Rattle.problem_core.specs.Levels.{AreFitting, IsCostAt}
use Rattle.corner_laws.specs.Units.{IsLevelRow, IsLevelUnit, IsReducedBy}
use Rattle.corner_lines.specs.LineEquations.{IsOutsideLine}
use Rattle.corner_lines.proofs.LevelRows.LevelRests.{all_rows_have_joined}
use Rattle.corner_table.specs.declared.table.TheConstants.{LEVELS}
use Rattle.corner_table.specs.Tables.{Lists, marks_at, number, priority_at, problem_of, standing_at}
use Rattle.corner_table.specs.Kept.{IsKept, IsLevelKept, row_count}
use Rattle.corner_joins.specs.Additions.Parts.{IsLevelPart, IsPartlyKept, joined_at}

all_joined : (t : Lists) (k : ℕ) → (priority_at t k).rows ≡ row_count t k → joined_at t k ≡ problem_of t
all_joined t k e = all_rows_have_joined (problem_of t) k (priority_at t k).rows (omega (arith, e))

level_whole : (t : Lists) (k : ℕ) → IsLevelPart t k → (priority_at t k).rows ≡ row_count t k → IsLevelKept t k
level_whole t k l h =
    let e = all_joined t k h in
    record {
      unit = l.unit;
      own = l.own;
      unit_is = l.unit_is;
      own_is = l.own_is;
      rows = h;
      empty = λ z. l.empty (h ∙ z);
      least = subst (λ (p : Problem). IsLevelUnit p k l.unit) e l.least;
      numbers = record {
        by = l.numbers.by;
        reduced = l.numbers.reduced;
        row = subst (λ (p : Problem). IsLevelRow p (marks_at t) k l.unit l.own l.numbers.by) e l.numbers.row;
        outside = subst (λ (p : Problem). All (λ l'. IsOutsideLine (marks_at t) l'.name → l.numbers.by l'.name ≡ number t k l'.name) (lines p)) e l.numbers.outside;
        reduced_by = subst (λ (p : Problem). IsReducedBy p k l.unit l.own l.numbers.by l.numbers.reduced) e l.numbers.reduced_by;
        fits = subst (λ (p : Problem). AreFitting p (l.own * l.unit) l.numbers.by l.numbers.reduced) e l.numbers.fits;
      };
      cost = subst (λ (p : Problem). IsCostAt p (marks_at t) k (standing_at t k).value) e l.cost;
    }

level_part : (t : Lists) (k : ℕ) → IsLevelKept t k → IsLevelPart t k
level_part t k l =
    let e : problem_of t ≡ joined_at t k = sym (all_joined t k l.rows) in
    record {
      unit = l.unit;
      own = l.own;
      unit_is = l.unit_is;
      own_is = l.own_is;
      rows = omega (arith, l.rows);
      empty = λ z. l.empty (sym l.rows ∙ z);
      least = subst (λ (p : Problem). IsLevelUnit p k l.unit) e l.least;
      numbers = record {
        by = l.numbers.by;
        reduced = l.numbers.reduced;
        row = subst (λ (p : Problem). IsLevelRow p (marks_at t) k l.unit l.own l.numbers.by) e l.numbers.row;
        outside = subst (λ (p : Problem). All (λ l'. IsOutsideLine (marks_at t) l'.name → l.numbers.by l'.name ≡ number t k l'.name) (lines p)) e l.numbers.outside;
        reduced_by = subst (λ (p : Problem). IsReducedBy p k l.unit l.own l.numbers.by l.numbers.reduced) e l.numbers.reduced_by;
        fits = subst (λ (p : Problem). AreFitting p (l.own * l.unit) l.numbers.by l.numbers.reduced) e l.numbers.fits;
      };
      cost = subst (λ (p : Problem). IsCostAt p (marks_at t) k (standing_at t k).value) e l.cost;
    }

pub part_kept : (t : Lists) → IsPartlyKept t → ((k : ℕ) → k < LEVELS → (priority_at t k).rows ≡ row_count t k) → IsKept t
part_kept t p all = record {
  whole = p.whole;
  corner = p.corner;
  rays = p.rays;
  slots = p.slots;
  stored = p.stored;
  matrix = p.matrix;
  values = p.values;
  attrs = p.attrs;
  lines = p.lines;
  outside = p.outside;
  levels = λ k lt. level_whole t k (p.levels k lt) (all k lt);
  stay_levels = p.stay_levels;
}

pub kept_part : (t : Lists) → IsKept t → IsPartlyKept t
kept_part t p = record {
  whole = p.whole;
  corner = p.corner;
  rays = p.rays;
  slots = p.slots;
  stored = p.stored;
  matrix = p.matrix;
  values = p.values;
  attrs = p.attrs;
  lines = p.lines;
  outside = p.outside;
  levels = λ k lt. level_part t k (p.levels k lt);
  stay_levels = p.stay_levels;
}
