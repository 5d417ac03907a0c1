use Rattle.std.proofs.Common.{rules, ap, sym, ◌∙◌, SFits, w64, to_z}
use Rattle.std.proofs.lemmas.Int.{to_z-of_z}
use Rattle.claim_text.proofs.Names.{zero_alone}
use Rattle.claim_text.proofs.claim.fields.next_nonzero.Goals as goal

pub returns-then-number-eq0-clause-none : goal.returns-then-number-eq0-clause-none
returns-then-number-eq0-clause-none c = λ z more small nonzero is.
    let fits : SFits w64 c.in_ok-number.number = search rules in
    let zero = sym (to_z-of_z w64 c.in_ok-number.number fits) ∙ ap (to_z w64) c.if-number-eq0.true in
    zero_alone c.args.words.now more c.next_integer.new.words c.args.most c.in_ok-number.number z c.requires zero c.in_ok-number.ensures.some.0 c.in_ok-number.ensures.some.1 small nonzero is
