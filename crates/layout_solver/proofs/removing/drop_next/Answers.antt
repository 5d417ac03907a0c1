use Rattle.std.proofs.Common.{rules, ◌≡◌, ℕ, List, [], ◌∷◌, ◌+◌, false, get_or, subst}
use Rattle.frac_core.specs.declared.memory.Stop.TheVariants.{Refused}
use Rattle.problem_core.specs.Changes.Begins.{without_marks}
use Rattle.corner_view.specs.Seen.{CornerView}
use Rattle.corner_view.specs.Stops.{IsUnfitStop}
use Rattle.corner_lines.specs.Removals.{without_row}
use Rattle.std.proofs.lemmas.List.{take_rest}
use Rattle.layout_solver.specs.Removals.{IsUnfitOf}
use Rattle.layout_solver.proofs.Removals.LeftEnds.{has_mark, row_dropped, unfit_dropped}
use Rattle.layout_solver.proofs.removing.drop_next.Goals as goal

pub drop_row-requires-clause-inside : goal.drop_row-requires-clause-inside
drop_row-requires-clause-inside g c = has_mark c.args.c.now.marks _ c.requires.inside

pub returns-in-Ok-clause-gone : goal.returns-in-Ok-clause-gone
returns-in-Ok-clause-gone g c = λ p kept h.
    row_dropped p kept c.args.rows.now c.args.gone c.requires.within c.args.c.now c.drop_row.new.self c.in-Ok.ensures.problem c.in-Ok.ensures.marks h

pub returns-in_ok-path-in-Err-Refused-clause-stop : goal.returns-in_ok-path-in-Err-Refused-clause-stop
returns-in_ok-path-in-Err-Refused-clause-stop g c = λ p kept h.
    let same : c.drop_row.new.self ≡ c.args.c.now = search rules in
    let unfit : IsUnfitStop (without_row (get_or c.args.rows.now c.args.gone 0) c.args.c.now.problem) (without_marks (get_or c.args.rows.now c.args.gone 0 ∷ []) c.args.c.now.marks) (Refused c.in-Err-Refused.quantity) = search rules in
    unfit_dropped p kept c.args.rows.now c.args.gone c.requires.within c.args.c.now c.in_ok-path-in-Err-Refused.path c.in-Err-Refused.quantity c.held_stop.result c.show_corner.ensures.kept c.requires.inside
    (subst (λ (v : CornerView). c.in_ok-path-in-Err-Refused.path ≡ record { dual = false; corner = without_marks (get_or c.args.rows.now c.args.gone 0 ∷ []) v.marks; swaps = [] }) same c.in_ok-path-in-Err-Refused.ensures)
    unfit h
    (subst (λ (ids : List ℕ). IsUnfitOf ids (record { path = c.in_ok-path-in-Err-Refused.path; quantity = c.in-Err-Refused.quantity }) c.held_stop.result) (take_rest c.args.rows.now (c.args.gone + 1)) c.held_stop.ensures)
