use Rattle.std.proofs.Math.Nat.{one-dvd}
use Rattle.compile_parts.proofs.wide.ratios.divisor_of.Goals as goal

pub returns-then-whole-eq1 : goal.returns-then-whole-eq1
returns-then-whole-eq1 c = (one-dvd c.args.size, rw c.if-whole-eq1.true (one-dvd 1), λ d size whole. rw (← c.if-whole-eq1.true) whole)
