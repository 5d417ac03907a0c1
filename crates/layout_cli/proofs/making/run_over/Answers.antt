use Rattle.std.specs.Str.Lines.{lines}
use Rattle.std.proofs.lemmas.Result.{IfOk-weaker}
use Rattle.layout_cli.specs.Making.{IsSummedUp, Refuses, SumsUp}
use Rattle.layout_cli.proofs.making.run_over.Goals as goal

pub returns : goal.returns
returns c =
    IfOk-weaker c.summed_up-output.result
    (λ output. (refused : _) × Refuses c.in_ok-session.session (lines c.args.script.now) refused c.summed_up-output.new.session × SumsUp (lines c.args.script.now) refused c.summed_up-output.new.session output.text.items output.is_good)
    (λ output. IsSummedUp (lines c.args.script.now) output.text.items output.is_good)
    (λ output told. (c.in_ok-session.session, told.0, c.summed_up-output.new.session, c.in_ok-session.ensures, told.1, told.2))
    c.summed_up-output.ensures
