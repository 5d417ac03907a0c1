use Rattle.std.proofs.lemmas.Result.{IfOk-weaker}
use Rattle.cert_checker.proofs.Certificates.Certified.{rows-valued, yes-certifies, yes-best}
use Rattle.cert_checker.proofs.judging.check_best.Goals as goal

pub first_without_room-requires : goal.first_without_room-requires
first_without_room-requires c = rows-valued c.args.p.now c.show_whole.ensures c.args.values.now (c.are_of_stays.ensures.0 c.if-not-are_of_stays.false)

pub are_met-requires-clause-values : goal.are_met-requires-clause-values
are_met-requires-clause-values c = rows-valued c.args.p.now c.show_whole.ensures c.args.values.now (c.are_of_stays.ensures.0 c.if-not-are_of_stays.false)

pub returns-clause-certified : goal.returns-clause-certified
returns-clause-certified c = IfOk-weaker c.judge.result _ _ (λ v h. yes-certifies c.args.p.now c.args.values.now c.args.best.now c.levels.ensures.kept v h) c.judge.ensures

pub returns-clause-best : goal.returns-clause-best
returns-clause-best c = IfOk-weaker c.judge.result _ _ (λ v h. yes-best c.args.p.now c.show_whole.ensures c.args.values.now c.args.best.now c.levels.ensures.kept v h) c.judge.ensures
