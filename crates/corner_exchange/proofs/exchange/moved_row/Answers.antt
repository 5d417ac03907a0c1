use Rattle.std.proofs.Common.{rules, SFits, w64, ◌≡◌, ◌∙◌, inl, inr, ℤ, pos, neg_ℤ, sym, ap, ap₂, subst, unsigned_abs}
use Rattle.std.proofs.lemmas.Int.{to_z-of_z}
use Rattle.frac_core.specs.Fraction.{IsFitting}
use Rattle.problem_core.specs.Corners.{Swap}
use Rattle.problem_core.specs.Changes.Stops.{TableStop}
use Rattle.row_core.specs.Rows.{IsKeptRow, IsReduced}
use Rattle.corner_view.specs.Stops.{IsUnfitStop}
use Rattle.corner_exchange.specs.Swaps.Exchanges.{IsPivotAt, marks_after, moved, signed}
use Rattle.corner_table.specs.Tables.{entry, lists_of, problem_of}
use Rattle.corner_exchange.proofs.Pivots.LineSlots.{err_of, ok_of, read_row, reduced_moved, unfit_moved, what_stop}
use Rattle.corner_exchange.proofs.exchange.moved_row.Goals as goal
use Rattle.frac_core.proofs.Results.{ok_implies, err_implies as err_all}

pub size-requires : goal.size-requires
size-requires c =
    let fits : IsFitting c.args.pivot.now.by = c.requires.pivot.is.fits in
    let by : SFits w64 c.args.pivot.now.by = search rules in
    simp to_z-of_z fits

size-is : (c : goal.After-named_row) → c.size.result ≡ pos (unsigned_abs (entry (lists_of c.args.table.now) c.args.pivot.now.pair.leave c.args.pivot.now.pair.enter))
size-is c =
    let fits : IsFitting c.args.pivot.now.by = c.requires.pivot.is.fits in
    let by : SFits w64 c.args.pivot.now.by = search rules in
    (simp to_z-of_z at c.size.ensures.value) ∙ ap (λ (z : ℤ). pos (unsigned_abs z)) c.requires.pivot.is.by

by-is : (c : goal.After-named_row) → c.opposite.result ≡ neg_ℤ (signed (entry (lists_of c.args.table.now) c.args.pivot.now.pair.leave c.args.pivot.now.pair.enter) (entry (lists_of c.args.table.now) c.args.w c.args.pivot.now.pair.enter))
by-is c =
    let fits : IsFitting c.args.pivot.now.by = c.requires.pivot.is.fits in
    let by : SFits w64 c.args.pivot.now.by = search rules in
    let e : SFits w64 c.entry-c.result = search rules in
    let n : SFits w64 c.signed.result = search rules in
    (simp to_z-of_z at c.opposite.ensures.value) ∙ ap neg_ℤ ((simp to_z-of_z at c.signed.ensures.value) ∙ ap₂ signed c.requires.pivot.is.by c.entry-c.ensures.value)

pub returns-clause-ok : goal.returns-clause-ok
returns-clause-ok c =
    let k : SFits w64 c.size.result = search rules in
    let n : SFits w64 c.opposite.result = search rules in
    ok_implies c.named_row.result _ (λ row. IsReduced row (moved (lists_of c.args.table.now) c.args.pivot.now.pair c.args.w))
    (λ row e. reduced_moved (lists_of c.args.table.now) c.args.pivot.now.pair c.args.w c.size.result c.opposite.result c.row-r.result.now c.row-p.result.now row (size-is c) (by-is c)
    (read_row c.args.table.now.matrix.rows c.args.w c.row-r.result.now c.row-r.ensures.value) (read_row c.args.table.now.matrix.rows c.args.pivot.now.pair.leave c.row-p.result.now c.row-p.ensures.value)
    (simp to_z-of_z at (ok_of c.combine-made.result row _ e c.combine-made.ensures.value)))
    c.named_row.ensures.ok

pub returns-clause-kept : goal.returns-clause-kept
returns-clause-kept c = ok_implies c.named_row.result _ IsKeptRow (λ row e. ok_of c.combine-made.result row IsKeptRow e c.combine-made.ensures.kept) c.named_row.ensures.ok

pub returns-clause-stop : goal.returns-clause-stop
returns-clause-stop c =
    let k : SFits w64 c.size.result = search rules in
    let n : SFits w64 c.opposite.result = search rules in
    err_all c.named_row.result _ (λ stop. (s : Swap) → IsPivotAt (lists_of c.args.table.now) c.args.pivot.now s → IsUnfitStop (problem_of (lists_of c.args.table.now)) (marks_after (lists_of c.args.table.now) s) stop)
    (λ stop h s at. elim h [
      | inl e ↦ subst (λ (x : TableStop). IsUnfitStop (problem_of (lists_of c.args.table.now)) (marks_after (lists_of c.args.table.now) s) x) (sym e) tt
      | inr (e, made) ↦ subst (λ (x : TableStop). IsUnfitStop (problem_of (lists_of c.args.table.now)) (marks_after (lists_of c.args.table.now) s) x) (sym (e ∙ c.unfit.ensures))
          (what_stop (lists_of c.args.table.now) c.args.pivot.now s c.args.w c.args.what c.requires.pivot.kept at c.requires.moved.slot c.requires.moved.other c.requires.moved.stands c.requires.what
          (inl (unfit_moved (lists_of c.args.table.now) c.args.pivot.now.pair c.args.w c.size.result c.opposite.result c.row-r.result.now c.row-p.result.now (size-is c) (by-is c)
          (read_row c.args.table.now.matrix.rows c.args.w c.row-r.result.now c.row-r.ensures.value) (read_row c.args.table.now.matrix.rows c.args.pivot.now.pair.leave c.row-p.result.now c.row-p.ensures.value)
          (simp to_z-of_z at (err_of c.combine-made.result made.0 _ made.1 c.combine-made.ensures.unfit made.2)))))
    ])
    c.named_row.ensures.err
