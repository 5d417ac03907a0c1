use Rattle.std.proofs.Common.{◌≡◌, ◌++◌, take, map, string_bytes}
use Rattle.claim_writing.specs.Lines.{text_of_lines, stay_line}
use Rattle.claim_writing.proofs.problem.writer.put_stays.Given as goal

abbrev pub invariant-loop-stay : goal.invariant-loop-stay
invariant-loop-stay l = string_bytes l.text ≡ string_bytes l.fn.text ++ text_of_lines (map stay_line (take l.stay-index l.stays))
