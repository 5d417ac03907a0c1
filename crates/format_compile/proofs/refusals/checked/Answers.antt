use Rattle.std.proofs.lemmas.Result.{err_from_is_err_and}
use Rattle.std.proofs.Common.{◌≡◌, ◌∙◌, length, subst, refl, ℕ}
use Rattle.format_compile.specs.FormatLines.{lines_of}
use Rattle.format_compile.specs.FormatStops.{IsPastNumbers, row_count}
use Rattle.format_compile.specs.FormatViews.{parts_view}
use Rattle.format_compile.proofs.Asked.{asks_long, usable, wrong}
use Rattle.format_compile.proofs.refusals.checked.Goals as goal

pub returns-in_err-used-clause-stop : goal.returns-in_err-used-clause-stop
returns-in_err-used-clause-stop c =
    let exit = err_from_is_err_and c.from_residual-in_err-used.result c.from_residual-in_err-used.ensures.1 in
    rw (exit.1, exit.2) (c.in_ok-asked.ensures.known, wrong c.args.tree.now.views c.args.metrics.now c.args.axis c.args.align (parts_view c.args.parts.now) c.in_ok-asked.asked c.in_err-used.field-0.0 c.in_ok-asked.ensures.parent c.in_ok-asked.ensures.space c.in_ok-asked.ensures.rank c.in_err-used.ensures.stop)

pub returns-clause-count : goal.returns-clause-count
returns-clause-count c = asks_long c.args.tree.now.views c.args.metrics.now (lines_of c.args.tree.now.views (parts_view c.args.parts.now)) c.in_ok-asked.asked.rows.items (c.in_ok-asked.ensures.asks c.in_ok-used.ensures.ok.ranks)

pub returns-clause-usable : goal.returns-clause-usable
returns-clause-usable c = usable c.args.tree.now.views c.args.metrics.now c.args.axis c.args.align (parts_view c.args.parts.now) c.in_ok-asked.asked c.in_ok-asked.ensures.known c.in_ok-asked.ensures.parent c.in_ok-asked.ensures.space c.in_ok-asked.ensures.asks c.in_ok-used.ensures.ok

pub returns-clause-numbers : goal.returns-clause-numbers
returns-clause-numbers c =
    let count : length c.in_ok-asked.asked.rows.items ≡ row_count c.args.tree.now.views (parts_view c.args.parts.now) = asks_long c.args.tree.now.views c.args.metrics.now (lines_of c.args.tree.now.views (parts_view c.args.parts.now)) c.in_ok-asked.asked.rows.items (c.in_ok-asked.ensures.asks c.in_ok-used.ensures.ok.ranks) in
    let len : c.len.result ≡ length c.in_ok-asked.asked.rows.items = c.len.ensures ∙ c.in_ok-asked.asked.rows.ok.0 in
    subst (λ (n : ℕ). IsPastNumbers c.args.first_row n → ⊥) (len ∙ count) (c.if-is_past_numbers.ensures.no refl)

pub returns-then-is_past_numbers-clause-stop : goal.returns-then-is_past_numbers-clause-stop
returns-then-is_past_numbers-clause-stop c =
    let count : length c.in_ok-asked.asked.rows.items ≡ row_count c.args.tree.now.views (parts_view c.args.parts.now) = asks_long c.args.tree.now.views c.args.metrics.now (lines_of c.args.tree.now.views (parts_view c.args.parts.now)) c.in_ok-asked.asked.rows.items (c.in_ok-asked.ensures.asks c.in_ok-used.ensures.ok.ranks) in
    let len : c.len.result ≡ length c.in_ok-asked.asked.rows.items = c.len.ensures ∙ c.in_ok-asked.asked.rows.ok.0 in (
      usable c.args.tree.now.views c.args.metrics.now c.args.axis c.args.align (parts_view c.args.parts.now) c.in_ok-asked.asked c.in_ok-asked.ensures.known c.in_ok-asked.ensures.parent c.in_ok-asked.ensures.space c.in_ok-asked.ensures.asks c.in_ok-used.ensures.ok,
      refl,
      subst (IsPastNumbers c.args.first_row) (len ∙ count) (c.if-is_past_numbers.ensures.yes refl),
    )
