use Rattle.std.proofs.Common.{◌≡◌, ◌-◌, ◌<◌, ◌≤◌, ◌++◌, string_bytes}
use Rattle.make_script.specs.Script.{part_of, after}
use Rattle.make_script.proofs.script.put_part.Given as goal

abbrev pub invariant-loop-i : goal.invariant-loop-i
invariant-loop-i l = record {
  positive : 0 < l.i;
  within : l.i ≤ l.i-end;
  text : string_bytes l.text ++ part_of l.part (l.i-end - l.i) l.i l.now ≡ string_bytes l.fn.text ++ part_of l.fn.part l.fn.count l.fn.from_view l.fn.state;
  state : after l.part (l.i-end - l.i) l.now ≡ after l.fn.part l.fn.count l.fn.state;
}
