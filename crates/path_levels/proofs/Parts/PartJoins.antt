-- An inside line of a whole problem, seen in one of its parts.
use Rattle.std.proofs.Common.{◌≡◌, ◌≢◌, ◌∙◌, ℕ, List, ℤ, pos, ◌*ℤ◌, refl, sym, All}
use Rattle.std.proofs.lemmas.List.Elements.{All-from_recursion, recursion_from_All}
use Rattle.problem_core.specs.declared.parts.Mark.{Mark}
use Rattle.problem_core.specs.declared.parts.Side.{Side}
use Rattle.problem_core.specs.declared.parts.RowName.{RowName}
use Rattle.problem_core.specs.Layout.{Problem, coefficient, lines, stay_lines}
use Rattle.problem_core.specs.Kept.{IsWhole}
use Rattle.problem_core.specs.Corners.{IsCorner, IsIn, place_of}
use Rattle.corner_lines.specs.LineEquations.{IsLineEquation, deviation}
use Rattle.corner_lines.specs.Levels.LevelCosts.{HasDeviation}
use Rattle.corner_lines.specs.Levels.LevelRows.{IsPivot, line_numbers}
use Rattle.corner_lines.proofs.LevelRows.LevelSound.{first-seen, same-stands, seen-each, seen-same}
use Rattle.corner_lines.proofs.Lines.LinePivots.{equation_is_pivot}
use Rattle.corner_lines.proofs.Lines.LineWritings.{line_value}
use Rattle.path_levels.specs.Parts.{part}
use Rattle.path_levels.specs.Rows.{level_place}
use Rattle.problem_core.proofs.Lines.{sum-seen}

-- what is said of names alone
pub part_names : (P : RowName → Type 0) (p : Problem) (level upto : ℕ) → All (λ l. P l.name) (lines p) → All (λ l. P l.name) (lines (part p level upto))
part_names P p level upto h =
    All-from_recursion (λ l. P l.name) (lines (part p level upto))
    (seen-each (λ l. l.name) P (lines p) (lines (part p level upto)) (sym (seen-same (λ l. l.name) (λ r. refl) level (level_place p level upto) p.rows (stay_lines 1001 p.stays))) (recursion_from_All (λ l. P l.name) (lines p) h))

pub part_pivot : (p : Problem) (at : List Mark) (level upto : ℕ) (name : RowName) (side : Side) (own : ℕ) (by : RowName → ℤ) (num : ℤ) (den : ℕ) → IsWhole p → IsCorner p at → IsIn (place_of name side) at → IsLineEquation p at (deviation name) own by num den
    → IsPivot (part p level upto) at name name own (line_numbers name own by)
part_pivot p at level upto name side own by num den whole corner within equation =
    let is : IsPivot p at name name own (line_numbers name own by) = equation_is_pivot p at (record { row = name; side = side }) own by num den whole corner within equation in
    record {
      size_positive = is.size_positive;
      cancel = λ v.
          sum-seen (λ l. line_numbers name own by l.name *ℤ coefficient v l.form) (lines (part p level upto)) (lines p) (seen-same (λ l. line_numbers name own by l.name *ℤ coefficient v l.form) (λ r. refl) level (level_place p level upto) p.rows (stay_lines 1001 p.stays))
          ∙ is.cancel v;
      enter_is = is.enter_is;
      inside_zero = λ s. part_names (λ n. IsIn (place_of n s) at → n ≢ name → line_numbers name own by n ≡ pos 0) p level upto (is.inside_zero s);
    }

pub part_deviation : (p : Problem) (at : List Mark) (level upto : ℕ) (name : RowName) (own : ℕ) (by : RowName → ℤ) (num : ℤ) (den : ℕ) → IsWhole p → IsCorner p at → IsLineEquation p at (deviation name) own by num den
    → HasDeviation (part p level upto) at name (record { num = num; den = den })
part_deviation p at level upto name own by num den whole corner equation =
    let v = line_value p at (deviation name) own by num den whole corner equation in
    (v.0, same-stands p (part p level upto) at v.0 (first-seen p level (level_place p level upto)) v.1, v.2)
