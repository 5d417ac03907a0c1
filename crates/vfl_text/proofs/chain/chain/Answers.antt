use Rattle.std.proofs.Common.{◌≡◌, ◌+◌, ◌-◌, suc, length, sym, ◌∙◌, arith}
use Rattle.std.proofs.lemmas.Result.{err_from_is_err_and}
use Rattle.span_text.specs.Loops.{rounds_at}
use Rattle.vfl_text.specs.Reading.{round_at}
use Rattle.vfl_text.specs.View.{meaning}
use Rattle.vfl_text.specs.Reading.{spacing_at, item_at}
use Rattle.vfl_text.proofs.ChainSteps.{chain_begins, chain_ends, chain_end_fails, spacing_fails, view_fails, view_goes_on, parent_ends, stops_alike, gives_alike}
use Rattle.vfl_text.proofs.chain.chain.Goals as goal

pub loop-alloc-init : goal.loop-alloc-init
loop-alloc-init c = record { same = chain_begins _ (meaning c.args.first) c.args.text.now (omega arith); room = omega arith }

pub returns-in_err-spacing : goal.returns-in_err-spacing
returns-in_err-spacing c =
    let p = err_from_is_err_and c.from_residual.result c.from_residual.ensures.1 in
    rw (p.1, p.2) (stops_alike _ (spacing_at c.loop-alloc.rest.now) _ c.in_err-spacing.ensures.gives (λ m e. sym c.loop-alloc.invariant.same ∙ spacing_fails _ (length c.args.text.now + length c.args.first.items.items - length c.loop-alloc.format.items.items) (meaning c.loop-alloc.format) c.loop-alloc.rest.now (omega arith) m (sym c.goes_on.ensures ∙ c.loop-alloc-test.true) e))

pub returns-then-not-begins : goal.returns-then-not-begins
returns-then-not-begins c = gives_alike meaning c.to_parent.result _ _ c.to_parent.ensures
    (sym (sym c.loop-alloc.invariant.same ∙ parent_ends _ (length c.args.text.now + length c.args.first.items.items - length c.loop-alloc.format.items.items) (meaning c.loop-alloc.format) c.loop-alloc.rest.now (omega arith) _ _ (sym c.goes_on.ensures ∙ c.loop-alloc-test.true) c.in_ok-spacing.ensures.gives (sym c.begins.ensures ∙ c.if-not-begins.true)))

pub returns-in_err-item : goal.returns-in_err-item
returns-in_err-item c =
    let p = err_from_is_err_and c.from_residual-in_err-item.result c.from_residual-in_err-item.ensures.1 in
    rw (p.1, p.2) (stops_alike _ (item_at c.in_ok-spacing.after.now) _ c.in_err-item.ensures.gives (λ m e. sym c.loop-alloc.invariant.same ∙ view_fails _ (length c.args.text.now + length c.args.first.items.items - length c.loop-alloc.format.items.items) (meaning c.loop-alloc.format) c.loop-alloc.rest.now (omega arith) _ _ (sym c.goes_on.ensures ∙ c.loop-alloc-test.true) c.in_ok-spacing.ensures.gives m (sym c.begins.ensures ∙ c.if-not-begins.false) e))

pub loop-alloc-preserved : goal.loop-alloc-preserved
loop-alloc-preserved c =
    let k = c.in_ok-format.ensures.grows in
    let one : rounds_at round_at (suc (length c.args.text.now) + length c.args.first.items.items - length c.loop-alloc.format.items.items) (meaning c.loop-alloc.format) c.loop-alloc.rest.now
    ≡ rounds_at round_at (suc (length c.args.text.now) + length c.args.first.items.items - length c.in_ok-format.format.items.items) _ c.in_ok-item.after.now
    = view_goes_on _ _ (meaning c.loop-alloc.format) c.loop-alloc.rest.now (omega (arith, k)) _ _ (sym c.goes_on.ensures ∙ c.loop-alloc-test.true) c.in_ok-spacing.ensures.gives _ _ (sym c.begins.ensures ∙ c.if-not-begins.false) c.in_ok-item.ensures.gives in
    record { same = rw c.in_ok-format.ensures.ok (sym one ∙ c.loop-alloc.invariant.same); room = omega (arith, k, c.in_ok-spacing.ensures.within, c.in_ok-item.ensures.shorter) }

pub returns-in_err-end : goal.returns-in_err-end
returns-in_err-end c =
    let p = err_from_is_err_and c.from_residual-in_err-end.result c.from_residual-in_err-end.ensures.1 in
    rw (p.1, p.2) (sym c.loop-alloc.invariant.same ∙ chain_end_fails _ (length c.args.text.now + length c.args.first.items.items - length c.loop-alloc.format.items.items) (meaning c.loop-alloc.format) c.loop-alloc.rest.now (omega arith) _ (sym c.goes_on.ensures ∙ c.loop-alloc-test.false) c.in_err-end.ensures)

pub returns : goal.returns
returns c = sym c.loop-alloc.invariant.same ∙ chain_ends _ (length c.args.text.now + length c.args.first.items.items - length c.loop-alloc.format.items.items) (meaning c.loop-alloc.format) c.loop-alloc.rest.now (omega arith) _ (sym c.goes_on.ensures ∙ c.loop-alloc-test.false) c.in_ok-end.ensures
