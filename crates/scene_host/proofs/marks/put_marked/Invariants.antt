use Rattle.std.proofs.Common.{◌≡◌, ◌≤◌, ◌++◌, ℕ, List, drop, vec_capacity}
use Rattle.scene_host.specs.Marks.{marked, marked_from}
use Rattle.scene_host.proofs.marks.put_marked.Given as goal

abbrev pub invariant-loop-byte : goal.invariant-loop-byte
invariant-loop-byte l = record {
  all : l.out.items ++ marked_from l.before l.begins (drop l.byte-index l.text) ≡ l.fn.out.items ++ marked l.before l.text;
  front : (part : List ℕ) × (l.out.items ≡ l.fn.out.items ++ part);
  grown : vec_capacity l.fn.out ≤ vec_capacity l.out;
}
