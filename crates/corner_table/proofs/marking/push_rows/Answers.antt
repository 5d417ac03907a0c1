use Rattle.std.proofs.Common.{rules, ◌≡◌, ◌∙◌, ◌++◌, ◌<◌, ◌∷◌, [], length, map, take, slice_index_or, ap, sym, subst}
use Rattle.problem_core.specs.declared.parts.RowName.TheVariants.{Held}
use Rattle.corner_table.specs.Tables.{inside_of, lists_of, problem_of}
use Rattle.corner_view.specs.Seen.{IsNamed}
use Rattle.corner_view.proofs.Facts.{append_more}
use Rattle.corner_table.proofs.Readings.MarkingFacts.{inside_more, map_next, row_named}
use Rattle.corner_table.proofs.marking.push_rows.Goals as goal

pub push_inside-requires-clause-row : goal.push_inside-requires-clause-row
push_inside-requires-clause-row c =
    let lt : c.loop-row.row-index < length c.args.table.now.rows.items = search rules in
    let e : slice_index_or c.args.table.now.rows.items c.loop-row.row-index c.row-item.result ≡ c.row-item.result = search rules in
    subst (λ n. IsNamed (problem_of (lists_of c.args.table.now)) (Held n)) (sym c.id.ensures) (row_named (problem_of (lists_of c.args.table.now)) c.loop-row.row-index c.row-item.result lt e)

pub loop-row-preserved : goal.loop-row-preserved
loop-row-preserved c =
    let lt : c.loop-row.row-index < length c.args.table.now.rows.items = search rules in
    let e : slice_index_or c.args.table.now.rows.items c.loop-row.row-index c.row-item.result ≡ c.row-item.result = search rules in
    let one : c.push_inside.new.out.items ≡ c.loop-row.out.items ++ inside_of (lists_of c.args.table.now) ((Held c.id.result) ∷ []) = search rules in
    let pushed : c.push_inside.new.out.items ≡ c.loop-row.out.items ++ inside_of (lists_of c.args.table.now) ((Held c.row-item.result.id) ∷ []) =
    subst (λ n. c.push_inside.new.out.items ≡ c.loop-row.out.items ++ inside_of (lists_of c.args.table.now) ((Held n) ∷ [])) c.id.ensures one in
    pushed ∙ ap (λ ms. ms ++ inside_of (lists_of c.args.table.now) ((Held c.row-item.result.id) ∷ [])) c.loop-row.invariant
    ∙ append_more c.args.out.now.items (inside_of (lists_of c.args.table.now) (map (λ r. Held r.id) (take c.loop-row.row-index c.args.table.now.rows.items))) (inside_of (lists_of c.args.table.now) ((Held c.row-item.result.id) ∷ []))
    ∙ ap (λ ms. c.args.out.now.items ++ ms) (sym (ap (inside_of (lists_of c.args.table.now)) (map_next (λ r. Held r.id) c.args.table.now.rows.items c.loop-row.row-index c.row-item.result lt e)
    ∙ inside_more (lists_of c.args.table.now) (map (λ r. Held r.id) (take c.loop-row.row-index c.args.table.now.rows.items)) ((Held c.row-item.result.id) ∷ [])))
