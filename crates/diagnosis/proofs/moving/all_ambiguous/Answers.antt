use Rattle.std.proofs.lemmas.Result.{IfOk-weaker}
use Rattle.problem_core.proofs.StayNumbers.{all_held}
use Rattle.diagnosis.specs.Probes.{AreMoving, AreMovingAmong}
use Rattle.diagnosis.proofs.MovingAttributes.{moving_of}
use Rattle.diagnosis.proofs.moving.all_ambiguous.Goals as goal

pub numbers_of-requires : goal.numbers_of-requires
numbers_of-requires g c = rw c.stays.ensures c.show_layout.ensures.whole.apart

pub moving_among-requires-clause-held : goal.moving_among-requires-clause-held
moving_among-requires-clause-held g c =
    rw c.deref.ensures.value
    (all_held c.args.e.now.problem.stays c.in_ok-attrs.attrs.items (rw c.stays.ensures at c.in_ok-attrs.ensures))

pub moving_among-requires-clause-rising : goal.moving_among-requires-clause-rising
moving_among-requires-clause-rising g c = rw c.deref.ensures.value c.in_ok-attrs.ensures.rising

pub returns-clause-moving : goal.returns-clause-moving
returns-clause-moving g c =
    IfOk-weaker c.moving_among.result (λ out. AreMovingAmong c.args.e.now.problem c.args.e.now.values c.in_ok-attrs.attrs.items out.items)
    (λ out. AreMoving c.args.e.now.problem c.args.e.now.values c.args.e.now.problem.stays out.items)
    (λ out. moving_of c.args.e.now.problem c.args.e.now.values c.in_ok-attrs.attrs.items out.items (rw c.stays.ensures at c.in_ok-attrs.ensures))
    (rw c.deref.ensures.value at c.moving_among.ensures.moving)
