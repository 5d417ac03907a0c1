use Rattle.std.proofs.Common.{arith, sym, ◌∙◌}
use Rattle.std.proofs.lemmas.List.{take_rest}
use Rattle.span_text.proofs.names.name_bytes.Goals as goal
use Rattle.span_text.proofs.TextCuts.Fronts.{name_taken}

pub returns-else-not-is_letter-clause-gives : goal.returns-else-not-is_letter-clause-gives
returns-else-not-is_letter-clause-gives c = rw take_rest (name_taken c.args.text.now _ (omega arith) (sym c.is_letter.ensures ∙ c.if-not-is_letter.false)
    (simp take_rest at c.word_len-len.ensures.len))
