use Rattle.std.proofs.Common.{◌≡◌, length, ◌+◌, drop}
use Rattle.span_text.specs.Reading.{front}
use Rattle.span_text.specs.Classes.{is_word}
use Rattle.span_text.proofs.pieces.word_len.Given as goal

abbrev pub invariant-loop-i : goal.invariant-loop-i
invariant-loop-i l = length (front is_word l.text) ≡ l.i + length (front is_word (drop l.i l.text))
