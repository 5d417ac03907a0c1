use Rattle.path_lines.proofs.Exchanges.Leading.{ok_then}
use Rattle.path_claims.proofs.FirstClauses.{once_then, twice_then}
use Rattle.path_lines.proofs.Iffs.{right_then, wrong_then}
use Rattle.path_claims.proofs.LastSteps.{comes_again, stopped_along}
use Rattle.path_claims.proofs.check.along_verdict.Goals as goal

pub returns-in-Err : goal.returns-in-Err
returns-in-Err c = ok_then c.ended.result (λ v is. stopped_along c.args.case.p.now c.args.case.path.now c.args.unfit c.in-Err.stop v c.requires.first.corner c.in-Err.ensures.stop is) c.ended.ensures

pub returns-then-is_twice : goal.returns-then-is_twice
returns-then-is_twice c =
    comes_again c.args.case.p.now c.args.case.path.now c.args.unfit c.requires.first.corner c.in-Ok.ensures.exchanges
    (twice_then c.args.case.p.now c.args.case.path.now c.args.case.wanted.now c.args.steps.now c.show_whole.ensures c.requires.first.corner c.requires.case.wanted_are c.requires.steps c.in-Ok.ensures.exchanges
    (right_then c.in_ok-is_twice.is_twice c.if-is_twice.true c.in_ok-is_twice.ensures))

pub last_verdict-requires-clause-walked : goal.last_verdict-requires-clause-walked
last_verdict-requires-clause-walked c = record {
  holds = (
    record { corner = c.requires.first.corner; exchanges = c.in-Ok.ensures.exchanges },
    once_then c.args.case.p.now c.args.case.path.now c.args.case.wanted.now c.args.steps.now c.show_whole.ensures c.requires.first.corner c.requires.case.wanted_are c.requires.steps c.in-Ok.ensures.exchanges
        (wrong_then c.in_ok-is_twice.is_twice c.if-is_twice.false c.in_ok-is_twice.ensures),
  );
  usable = c.in-Ok.ensures.usable;
  arrived = c.in-Ok.ensures.arrived;
  sound = c.in-Ok.ensures.sound;
  called = c.in-Ok.ensures.called;
}
