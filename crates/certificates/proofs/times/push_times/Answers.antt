use Rattle.std.proofs.Common.{rules, SFits, List, ℤ, ◌++◌, ◌∙◌, of_z, sym, ap, to_z}
use Rattle.std.specs.Int.{w64}
use Rattle.std.proofs.lemmas.Int.{to_z-of_z}
use Rattle.std.proofs.lemmas.List.{append-nil}
use Rattle.cert_core.specs.declared.by.By.{By}
use Rattle.certificates.proofs.MultiplierLists.{some_written, zero_unwritten}
use Rattle.certificates.proofs.times.push_times.Goals as goal

pub returns-in_ok-push-clause-pushed : goal.returns-in_ok-push-clause-pushed
returns-in_ok-push-clause-pushed g c = λ scale times are.
    let fits : SFits w64 c.multiplier-times.result = search rules in
    let items = simp to_z-of_z at c.in_ok-push.ensures.items in
    items ∙ ap (λ (bys : List By). c.args.out.now.items ++ bys)
    (sym (some_written times c.args.row c.multiplier-times.result (c.multiplier-times.ensures.value scale times are) (λ e. c.if-times-ne0.true (ap (λ (z : ℤ). of_z w64 z) e))))

pub returns-else-times-ne0-clause-pushed : goal.returns-else-times-ne0-clause-pushed
returns-else-times-ne0-clause-pushed g c = λ scale times are.
    let fits : SFits w64 c.multiplier-times.result = search rules in
    let none = sym (to_z-of_z w64 c.multiplier-times.result fits) ∙ ap (to_z w64) c.if-times-ne0.false in
    sym (append-nil c.args.out.now.items)
    ∙ ap (λ (bys : List By). c.args.out.now.items ++ bys) (sym (zero_unwritten times c.args.row c.multiplier-times.result (c.multiplier-times.ensures.value scale times are) none))
