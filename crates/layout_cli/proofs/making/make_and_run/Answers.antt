use Rattle.std.proofs.Common.{◌≡◌, ◌∙◌, ◌++◌, List, ℕ, ap, subst}
use Rattle.std.specs.Prelude.{IfOk}
use Rattle.std.specs.Str.Lines.{lines}
use Rattle.make_script.specs.Script.{script}
use Rattle.layout_cli.specs.Making.{IsSummedUp}
use Rattle.layout_cli.proofs.making.make_and_run.Goals as goal

pub returns : goal.returns
returns c =
    let made : c.deref.result.now ≡ script c.args.seed c.args.views =
    c.deref.ensures.value ∙ (c.in_ok-make_script.ensures.ok ∙ ap (λ (bytes : List ℕ). bytes ++ script c.args.seed c.args.views) c.new-script.ensures.items) in
    subst (λ (bytes : List ℕ). IfOk c.run_over.result (λ output. IsSummedUp (lines bytes) output.text.items output.is_good)) made c.run_over.ensures
