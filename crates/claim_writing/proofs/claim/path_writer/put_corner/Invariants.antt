use Rattle.std.proofs.Common.{◌≡◌, ◌++◌, take, map, string_bytes}
use Rattle.claim_writing.specs.Lines.{text_of_lines}
use Rattle.claim_writing.specs.PathTexts.{in_line}
use Rattle.claim_writing.proofs.claim.path_writer.put_corner.Given as goal

abbrev pub invariant-loop-mark : goal.invariant-loop-mark
invariant-loop-mark l = string_bytes l.text ≡ string_bytes l.fn.text ++ text_of_lines (map in_line (take l.mark-index l.marks))
