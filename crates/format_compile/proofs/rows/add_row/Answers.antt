use Rattle.std.proofs.Common.{◌≡◌, ◌∷◌, [], List, map, ◌++◌, sym, ap, ◌∙◌, subst, All, Option}
use Rattle.std.proofs.lemmas.List.{map_push}
use Rattle.std.proofs.lemmas.List.Elements.{All-push}
use Rattle.std.proofs.lemmas.Result.{on_ok_weaker}
use Rattle.name_tables.specs.declared.stops.LimitWord.{LimitWord}
use Rattle.constraint_compile.specs.Compiled as compiled
use Rattle.constraint_compile.specs.Inside.{form_view, IsForm}
use Rattle.format_compile.specs.FormatFound.{IsFound}
use Rattle.format_compile.proofs.Numbered.{found_row, found_stop}
use Rattle.format_compile.proofs.rows.add_row.Goals as goal

pub returns-in_ok-push_row-in-Ok-clause-forms : goal.returns-in_ok-push_row-in-Ok-clause-forms
returns-in_ok-push_row-in-Ok-clause-forms c = subst (All IsForm) (sym c.in_ok-push_row-in-Ok.ensures) (All-push IsForm c.args.found.now.rows.items c.in-Ok.row c.requires.forms c.in-Ok.ensures.form)

pub returns-in_ok-push_row-in-Ok-clause-found : goal.returns-in_ok-push_row-in-Ok-clause-found
returns-in_ok-push_row-in-Ok-clause-found c = λ views lines l first is number found.
    let more : map form_view c.push_row.new.rows.items ≡ map form_view c.args.found.now.rows.items ++ form_view c.in-Ok.row ∷ [] = ap (map form_view) c.in_ok-push_row-in-Ok.ensures ∙ map_push form_view c.args.found.now.rows.items c.in-Ok.row in
    subst (λ (rows : List compiled.RowForm). IsFound views c.args.metrics.now (lines ++ l ∷ []) first rows c.args.found.now.limit) (sym more)
    (found_row views c.args.metrics.now lines l first c.args.id (map form_view c.args.found.now.rows.items) (form_view c.in-Ok.row) c.args.found.now.limit number (c.in-Ok.ensures.row views l is) found)

pub returns-in-Err-clause-found : goal.returns-in-Err-clause-found
returns-in-Err-clause-found c = on_ok_weaker c.note.result (λ both views lines l first is number found.
    subst (λ (past : Option LimitWord). IsFound views c.args.metrics.now (lines ++ l ∷ []) first (map form_view c.args.found.now.rows.items) past) (sym both.0)
    (found_stop views c.args.metrics.now lines l first (map form_view c.args.found.now.rows.items) (map form_view c.args.found.now.rows.items) c.args.found.now.limit c.in-Err.stop both.1 (c.in-Err.ensures.stop views l is) found)) c.note.ensures.noted
