use Rattle.std.proofs.Common.{◌≡◌, ◌++◌, List, ℕ, length}
use Rattle.std.specs.Prelude.{Contains}
use Rattle.std.specs.Str.Lines.{lines}
use Rattle.span_text.specs.TextCuts.Lines.{lines_left}
use Rattle.problem_reading.specs.Problems.{ReadFrom, nothing_read}
use Rattle.problem_reading.proofs.problem.reader.read_lines.Given as goal

abbrev pub invariant-loop-line : goal.invariant-loop-line
invariant-loop-line l =
    (goal.iterator-loop-line).can_next l.line-iterator
    × (goal.iterator-loop-line).is_finite l.line-iterator
    × ((before : List (List ℕ)) × (lines l.text ≡ before ++ lines_left l.line-iterator) × (l.number ≡ length before)
    × ReadFrom (λ a. Contains l.covered a) nothing_read before l.draft)
