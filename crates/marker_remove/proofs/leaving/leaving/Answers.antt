use Rattle.std.proofs.Common.{arith}
use Rattle.corner_ends.proofs.Marks.{took_more}
use Rattle.marker_remove.proofs.StayMoves.{IsNoStay, stay_found, stays_run_out}
use Rattle.marker_remove.proofs.leaving.leaving.Goals as goal
use Rattle.frac_core.proofs.Lists.{all-whole as took_all}

pub mover-requires-clause-within : goal.mover-requires-clause-within
mover-requires-clause-within g c =
    let m = c.movers-count.ensures in
    let within = c.loop-i-test.true in
    let same = m.2 in
    (m.0, m.1, omega (arith, within, same))

pub loop-i-preserved : goal.loop-i-preserved
loop-i-preserved g c = λ whats are.
    took_more IsNoStay whats c.loop-i.i c.mover.result (c.loop-i.invariant whats are) (c.mover.ensures whats are) c.in_default.ensures.none

pub unreachable-requires : goal.unreachable-requires
unreachable-requires g c =
    let m = c.movers-count.ensures in
    let same = m.2 in
    let over = c.loop-i-test.false in
    stays_run_out c.args.c.now c.args.enter m.0 m.1 c.requires.some (took_all IsNoStay m.0 c.loop-i.i (omega (arith, same, over)) (c.loop-i.invariant m.0 m.1))

pub returns-in-Some : goal.returns-in-Some
returns-in-Some g c =
    let m = c.movers-count.ensures in
    stay_found c.args.c.now c.args.enter m.0 c.loop-i.i c.mover.result c.in-Some.mark c.in-Some.ensures.some.1.0 m.1 (c.mover.ensures m.0 m.1) c.in-Some.ensures.some.0 c.in-Some.ensures.some.1.1
