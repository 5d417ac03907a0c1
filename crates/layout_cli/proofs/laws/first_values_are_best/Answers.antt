use Rattle.std.proofs.Common.{sym, subst, arith}
use Rattle.session_undo.specs.State.{IsBestState}
use Rattle.scenes.proofs.First.{first-AreBest}
use Rattle.layout_cli.proofs.laws.first_values_are_best.Goals as goal

pub returns : goal.returns
returns c = λ first new.
    subst IsBestState (sym new.1) (first-AreBest, λ k d within. absurd (omega (arith, within)))
