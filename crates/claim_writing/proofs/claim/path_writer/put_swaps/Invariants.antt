use Rattle.std.proofs.Common.{◌≡◌, ◌++◌, take, map, string_bytes}
use Rattle.claim_writing.specs.Lines.{text_of_lines}
use Rattle.claim_writing.specs.PathTexts.{swap_line}
use Rattle.claim_writing.proofs.claim.path_writer.put_swaps.Given as goal

abbrev pub invariant-loop-swap : goal.invariant-loop-swap
invariant-loop-swap l = string_bytes l.text ≡ string_bytes l.fn.text ++ text_of_lines (map swap_line (take l.swap-index l.swaps))
