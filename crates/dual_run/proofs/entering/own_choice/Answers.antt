use Rattle.std.proofs.Common.{rules, SFits}
use Rattle.std.specs.Int.{w64}
use Rattle.std.proofs.lemmas.Int.{to_z-of_z}
use Rattle.dual_run.proofs.Choices.{own_before, own_is_choice}
use Rattle.dual_run.proofs.entering.own_choice.Goals as goal

pub returns-clause-choice : goal.returns-clause-choice
returns-clause-choice g c =
    let fits : SFits w64 c.denominator.result = search rules in
    simp to_z-of_z (own_is_choice c.args.c.now.problem c.args.c.now.marks c.args.leave c.other.result c.denominator.result c.show_corner.ensures.kept c.requires c.other.ensures c.denominator.ensures)

pub returns-clause-line : goal.returns-clause-line
returns-clause-line g c =
    let fits : SFits w64 c.denominator.result = search rules in
    simp to_z-of_z (own_before c.args.c.now.problem c.args.c.now.marks c.args.leave (record { mark = c.other.result; by = c.denominator.result }) c.requires
    (own_is_choice c.args.c.now.problem c.args.c.now.marks c.args.leave c.other.result c.denominator.result c.show_corner.ensures.kept c.requires c.other.ensures c.denominator.ensures) c.other.ensures)
