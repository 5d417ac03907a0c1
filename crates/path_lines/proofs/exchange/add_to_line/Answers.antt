use Rattle.std.proofs.Common.{Option, Some, sym, subst, refl}
use Rattle.path_lines.specs.declared.table.Inside.{Inside}
use Rattle.path_lines.specs.Exchanges.Pivots.{IsNextLine, IsUnfitNext}
use Rattle.path_lines.proofs.Exchanges.Leading.{err_then, ok_then}
use Rattle.path_lines.proofs.Exchanges.PlainSums.{plain_line, plain_line_unfit}
use Rattle.path_lines.proofs.exchange.add_to_line.Goals as goal

pub returns-in-Some-clause-line : goal.returns-in-Some-clause-line
returns-in-Some-clause-line c =
    ok_then c.add_pivot.result
    (λ done is. subst (λ (o : Option Inside). IsNextLine c.args.pivot.now c.args.enters c.args.at o (Some (record { side = c.in-Some.inside.side; sum = c.add_pivot.new.sum }))) (sym c.in-Some.is)
    (plain_line c.args.pivot.now c.args.enters c.args.at c.in-Some.inside (record { side = c.in-Some.inside.side; sum = c.add_pivot.new.sum }) c.requires.leave refl is))
    c.add_pivot.ensures.sum

pub returns-in-Some-clause-unfit : goal.returns-in-Some-clause-unfit
returns-in-Some-clause-unfit c =
    err_then c.add_pivot.result
    (λ stop unfit. subst (λ (o : Option Inside). IsUnfitNext c.args.pivot.now c.args.enters c.args.at o) (sym c.in-Some.is) (plain_line_unfit c.args.pivot.now c.args.enters c.args.at c.in-Some.inside c.requires.leave unfit))
    c.add_pivot.ensures.unfit
