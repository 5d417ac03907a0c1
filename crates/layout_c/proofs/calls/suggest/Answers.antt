use Rattle.std.proofs.Common.{ℕ, List, None, inl, sym, subst}
use Rattle.script_text.specs.Meaning as mean
use Rattle.session_undo.specs.Machine.{ChangeStep}
use Rattle.layout_c.specs.Calls.{Steps}
use Rattle.layout_c.proofs.calls.suggest.Goals as goal

pub returns : goal.returns
returns c =
    let w = c.in-Some-word_of.word in let v = c.in-Some-frac_of.value in let old = c.args.desk.now in
    inl (w, v, sym c.in-Some-word_of.ensures, c.in-Some-frac_of.ensures.some, subst (λ (name : List ℕ). Steps (ChangeStep old.state (mean.Update (mean.Suggest name w v None))) old c.act.new.desk c.act.result) c.in-Some.ensures.some c.act.ensures)
