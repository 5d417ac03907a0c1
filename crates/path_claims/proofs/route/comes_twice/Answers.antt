use Rattle.std.proofs.Common.{◌↔◌, ℕ, List, subst, IsTrue}
use Rattle.path_lines.specs.Numbering.{HasDouble}
use Rattle.path_lines.proofs.Iffs.{through}
use Rattle.path_claims.proofs.CornerNumbers.Corners.{double_is_twice, some_line}
use Rattle.path_lines.proofs.Exchanges.Leading.{ok_then}
use Rattle.path_claims.proofs.route.comes_twice.Goals as goal

pub corner_numbers-requires-clause-some : goal.corner_numbers-requires-clause-some
corner_numbers-requires-clause-some c = some_line c.args.first.now c.args.steps.now c.requires c.if-is_empty.ensures

pub returns : goal.returns
returns c =
    ok_then c.has_double.result
    (λ double is. through double (subst (λ (ns : List ℕ). IsTrue double ↔ HasDouble ns) c.deref.ensures.value is) (double_is_twice c.args.first.now c.args.steps.now c.in_ok-numbers.numbers.items c.in_ok-numbers.ensures))
    c.has_double.ensures
