use Rattle.std.proofs.Common.{◌≡◌, ◌++◌, List, ℕ, length}
use Rattle.std.specs.Str.Lines.{lines}
use Rattle.span_text.specs.TextCuts.Lines.{lines_left}
use Rattle.claim_text.specs.Claims.ClaimTexts.{ReadFrom, nothing_read}
use Rattle.claim_text.specs.Claims.Seen.{AreSeen}
use Rattle.claim_text.proofs.claim.reader.read_lines.Given as goal

abbrev pub invariant-loop-line : goal.invariant-loop-line
invariant-loop-line l =
    (goal.iterator-loop-line).can_next l.line-iterator
    × (goal.iterator-loop-line).is_finite l.line-iterator
    × ((before : List (List ℕ)) × (lines l.text ≡ before ++ lines_left l.line-iterator) × (l.count ≡ length before)
    × ReadFrom nothing_read before l.draft × AreSeen l.draft l.seen)
