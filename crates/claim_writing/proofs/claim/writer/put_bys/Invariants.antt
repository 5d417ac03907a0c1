use Rattle.std.proofs.Common.{◌≡◌, ◌++◌, take, map, string_bytes}
use Rattle.claim_writing.specs.Lines.{text_of_lines}
use Rattle.claim_writing.specs.ClaimLines.{by_line}
use Rattle.claim_writing.proofs.claim.writer.put_bys.Given as goal

abbrev pub invariant-loop-by : goal.invariant-loop-by
invariant-loop-by l = string_bytes l.text ≡ string_bytes l.fn.text ++ text_of_lines (map by_line (take l.by-index l.bys))
