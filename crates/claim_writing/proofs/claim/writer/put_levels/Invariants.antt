use Rattle.std.proofs.Common.{◌≡◌, ◌++◌, take, string_bytes}
use Rattle.claim_writing.specs.Lines.{text_of_lines}
use Rattle.claim_writing.specs.ClaimLines.{lines_of_levels}
use Rattle.claim_writing.proofs.claim.writer.put_levels.Given as goal

abbrev pub invariant-loop-level : goal.invariant-loop-level
invariant-loop-level l = string_bytes l.text ≡ string_bytes l.fn.text ++ text_of_lines (lines_of_levels (take l.level-index l.levels))
