use Rattle.std.proofs.Common.{Some, subst}
use Rattle.path_lines.specs.Tables.{IsLineAt}
use Rattle.path_lines.proofs.Iffs.{through}
use Rattle.path_lines.proofs.Arithmetic.ValueSigns.{value_sign}
use Rattle.path_lines.proofs.signs.is_up.Goals as goal

pub returns-in-Some : goal.returns-in-Some
returns-in-Some c = λ p at name there line.
    let kept : IsLineAt p at name (Some c.in-Some.inside) = subst (IsLineAt p at name) c.in-Some.is line in
    through c.is_on_side.result (c.is_on_side.ensures c.in-Some.inside.sum.value.num c.sign.ensures) (value_sign p at name c.in-Some.inside there kept)
