use Rattle.std.proofs.Common.{ℕ, List, inl, sym, subst}
use Rattle.script_text.specs.Meaning as mean
use Rattle.session_undo.specs.Machine.{ChangeStep}
use Rattle.layout_c.specs.Calls.{Steps}
use Rattle.layout_c.proofs.calls.release.Goals as goal

pub returns : goal.returns
returns c =
    let w = c.in-Some-word_of.word in let old = c.args.desk.now in
    inl (w, sym c.in-Some-word_of.ensures, subst (λ (name : List ℕ). Steps (ChangeStep old.state (mean.Leave (mean.Release name w))) old c.act.new.desk c.act.result) c.in-Some.ensures.some c.act.ensures)
