use Rattle.std.proofs.Common.{subst, arith}
use Rattle.std.specs.Prelude.{All}
use Rattle.std.proofs.lemmas.List.{take_all}
use Rattle.corner_table.specs.Moves.{IsListed}
use Rattle.corner_table.specs.Tables.{lists_of}
use Rattle.corner_table.proofs.Readings.MoveFacts.{next_listed}
use Rattle.corner_table.proofs.moved.push_present.Goals as goal

pub loop-w-init : goal.loop-w-init
loop-w-init c = record {
  keeps = λ x has. has;
  now_listed = λ k d within. absurd (omega (arith, within));
  then_listed = λ k d within. absurd (omega (arith, within));
}

pub loop-w-preserved : goal.loop-w-preserved
loop-w-preserved c =
    next_listed (lists_of c.args.table.now) (lists_of c.args.table.now) c.args.out.now.items c.loop-w.out.items c.push_now.new.out.items
    c.push_now.new.out.items c.args.places.now c.loop-w.w-index c.loop-w-test.true c.loop-w.invariant c.in_ok-push_now.ensures.keeps
    c.in_ok-push_now.ensures.listed (λ x has. has) c.in_ok-push_now.ensures.listed

pub returns-clause-keeps : goal.returns-clause-keeps
returns-clause-keeps c = c.loop-w.invariant.keeps

pub returns-clause-now : goal.returns-clause-now
returns-clause-now c =
    subst (All (IsListed (lists_of c.args.table.now) c.loop-w.out.items)) (take_all c.loop-w.w-index c.args.places.now (omega (arith, c.loop-w-test.false)))
    c.loop-w.invariant.now_listed
