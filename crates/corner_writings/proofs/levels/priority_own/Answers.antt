use Rattle.std.proofs.Common.{rules, ◌≡◌, ◌∙◌, [], ap, subst, sym, SFits}
use Rattle.std.specs.Int.{w64}
use Rattle.std.proofs.lemmas.Int.{to_z-of_z}
use Rattle.std.proofs.lemmas.Option.{get_or_from_slice_get}
use Rattle.row_core.specs.Rows.{IsKeptRow, Term}
use Rattle.corner_table.specs.Tables.{lists_of, row_at}
use Rattle.corner_writings.proofs.LevelFacts.FirstNumbers.{first_is_own}
use Rattle.corner_writings.proofs.levels.priority_own.Goals as goal

pub returns-in-Some-clause-value : goal.returns-in-Some-clause-value
returns-in-Some-clause-value c =
    let fits : SFits w64 c.e.inside.by = search rules in
    let col : c.in-Some.e.now.col ≡ c.args.l = sym (ap (λ (t : Term). t.col) c.e.view_is) ∙ (c.if-e-from.true ∙ c.from.ensures) in
    let same : row_at (lists_of c.args.table.now) c.args.l ≡ c.entries.result.now = get_or_from_slice_get c.args.table.now.matrix.rows c.args.l c.row.result.now [] c.row.ensures.value ∙ sym c.entries.ensures.value in
    let kept : IsKeptRow c.entries.result.now = subst IsKeptRow (sym c.entries.ensures.value) c.row.ensures.kept in
    to_z-of_z w64 c.e.inside.by fits
    ∙ (ap (λ (t : Term). t.by) c.e.view_is
    ∙ first_is_own (lists_of c.args.table.now) c.args.l c.entries.result.now c.in-Some.e.now c.requires.kept c.requires.level same kept (sym c.in-Some.ensures.value) col)
