use Rattle.std.proofs.Common.{◌≡◌, ◌+◌, ◌≤◌, ℕ, length}
use Rattle.std.specs.Str.Lines.{lines}
use Rattle.span_text.specs.TextCuts.Lines.{lines_left}
use Rattle.session_undo.specs.State.{State}
use Rattle.layout_cli.specs.Making.{Refuses}
use Rattle.layout_cli.proofs.making.answer_lines.Given as goal

abbrev pub invariant-loop-line : goal.invariant-loop-line
invariant-loop-line l =
    (goal.iterator-loop-line).can_next l.line-iterator
    × (goal.iterator-loop-line).is_finite l.line-iterator
    × (l.count + length (lines_left l.line-iterator) ≡ length (lines l.script))
    × (l.refused ≤ l.count)
    × ((rest : ℕ) (last : State) → Refuses l.session (lines_left l.line-iterator) rest last
    → Refuses l.fn.session (lines l.script) (l.refused + rest) last)
