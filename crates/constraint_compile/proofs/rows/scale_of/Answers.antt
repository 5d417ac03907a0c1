use Rattle.std.proofs.Common.{◌-◌, length, arith}
use Rattle.std.proofs.lemmas.Bool.Decides.{nat_tests}
use Rattle.constraint_compile.proofs.Lines.{last_at}
use Rattle.constraint_compile.proofs.rows.scale_of.Goals as goal

pub returns-clause-scale : goal.returns-clause-scale
returns-clause-scale c = λ names. last_at names c.args.steps.now (length c.args.steps.now - 1) c.index-steps-steps.result (grind (arith, nat_tests, c.is_empty.ensures, c.if-is_empty.false))
