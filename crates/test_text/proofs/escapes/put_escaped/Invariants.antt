use Rattle.std.proofs.Common.{◌≡◌, ◌++◌, drop}
use Rattle.test_text.specs.Escapes.{IsHalf, bytes_behind, line_bytes}
use Rattle.test_text.proofs.escapes.put_escaped.Given as goal

abbrev pub invariant-loop-byte : goal.invariant-loop-byte
invariant-loop-byte l = record {
  half : IsHalf l.before;
  bytes : l.out.items ++ bytes_behind l.before (drop l.byte-index l.bytes) ≡ l.fn.out.items ++ line_bytes l.bytes;
}
