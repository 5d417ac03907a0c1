use Rattle.std.proofs.Common.{◌≡◌, ◌∙◌, ◌∷◌, [], All, ap₂, subst, sym}
use Rattle.std.proofs.lemmas.List.Elements.{All-from_recursion}
use Rattle.std.proofs.lemmas.Result.{IfOk-weaker}
use Rattle.problem_core.specs.Kept.{IsRow}
use Rattle.problem_core.specs.Layout.{Row}
use Rattle.held_items.specs.Items.{size_rows}
use Rattle.held_items.proofs.item.rows.size_rows.Goals as goal

pub returns-clause-rows : goal.returns-clause-rows
returns-clause-rows c =
    IfOk-weaker c.pair.result (λ rows. rows.items ≡ c.in_ok-width.width ∷ c.in_ok-height.height ∷ []) (λ rows. rows.items ≡ size_rows c.args.first_row c.args.size.now.width c.args.size.now.height)
    (λ rows are. are ∙ ap₂ (λ (w h : Row). w ∷ h ∷ []) (rw c.attributes-attrs.ensures at c.in_ok-width.ensures.row) (rw c.attributes-attrs.ensures at c.in_ok-height.ensures.row)) c.pair.ensures

pub returns-clause-each : goal.returns-clause-each
returns-clause-each c =
    IfOk-weaker c.pair.result (λ rows. rows.items ≡ c.in_ok-width.width ∷ c.in_ok-height.height ∷ []) (λ rows. All IsRow rows.items)
    (λ rows are. subst (All IsRow) (sym are) (All-from_recursion IsRow (c.in_ok-width.width ∷ c.in_ok-height.height ∷ []) (c.in_ok-width.ensures.kept, (c.in_ok-height.ensures.kept, tt)))) c.pair.ensures
