use Rattle.std.proofs.Common.{rules, ◌≡◌, length, arith, sym}
use Rattle.corner_ends.proofs.Marks.{none_here}
use Rattle.dual_run.proofs.Lows.{no_low_left, sorted}
use Rattle.dual_run.proofs.Names.{no_name}
use Rattle.dual_run.proofs.leaving.strongest.Goals as goal

pub loop-at-init : goal.loop-at-init
loop-at-init g c =
    let all : c.len-at.result ≡ length c.sort.new.low.items = search rules in
    record {
      low = sorted c.args.c.now.problem c.args.c.now.marks c.args.low.now.items c.sort.new.low.items c.sort.ensures c.requires;
      within = omega (arith, all);
      some = tt;
      none = sym all;
    }

pub returns-in-None-clause-none : goal.returns-in-None-clause-none
returns-in-None-clause-none g c =
    let all : length c.loop-at.low.items ≡ c.loop-at.at = none_here c.loop-at.best c.loop-at.best (length c.loop-at.low.items ≡ c.loop-at.at) (length c.loop-at.low.items ≡ c.loop-at.at) c.loop-at.invariant.none c.in-None.is in
    let over = c.loop-at-test.false in
    no_low_left c.args.c.now.problem c.args.c.now.marks c.loop-at.low.items c.show_corner.ensures.kept (no_name c.loop-at.low.items (omega (arith, all, over))) c.loop-at.invariant.low
