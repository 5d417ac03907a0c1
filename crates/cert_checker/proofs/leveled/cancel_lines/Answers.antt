use Rattle.std.proofs.lemmas.Result.{IfOk-weaker}
use Rattle.cert_checker.proofs.Refuted.{lines-count}
use Rattle.cert_checker.proofs.Written.Weighing.{weighed-fit}
use Rattle.cert_checker.proofs.Certificates.Levels.{level-cancel}
use Rattle.cert_checker.proofs.leveled.cancel_lines.Goals as goal

pub cancel-requires-clause-weighted : goal.cancel-requires-clause-weighted
cancel-requires-clause-weighted c = weighed-fit c.args.p.now c.args.l.now.by c.args.weighted.now c.requires.weighted c.requires.level.by

pub cancel-requires-clause-count : goal.cancel-requires-clause-count
cancel-requires-clause-count c = lines-count c.args.p.now c.show_whole.ensures c.args.l.now.by c.args.weighted.now c.requires.weighted c.requires.level.by

pub returns : goal.returns
returns c = IfOk-weaker c.cancel.result _ _ (λ ok h. level-cancel c.args.p.now c.show_whole.ensures c.args.l.now c.args.weighted.now c.requires.weighted ok h) c.cancel.ensures
