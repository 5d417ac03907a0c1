use Rattle.std.proofs.Common.{◌≡◌, ◌++◌, take, map, string_bytes}
use Rattle.claim_writing.specs.Lines.{text_of_lines}
use Rattle.claim_writing.specs.ClaimLines.{value_line}
use Rattle.claim_writing.proofs.claim.writer.put_values.Given as goal

abbrev pub invariant-loop-pair : goal.invariant-loop-pair
invariant-loop-pair l = string_bytes l.text ≡ string_bytes l.fn.text ++ text_of_lines (map value_line (take l.pair-index l.values))
