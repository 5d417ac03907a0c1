use Rattle.std.proofs.Common.{◌≡◌, ◌∙◌, ◌+◌, get_or, rules, arith, sym, ap, subst}
use Rattle.frac_core.specs.Fraction.{IsKept}
use Rattle.problem_core.specs.declared.parts.Level.{Level}
use Rattle.path_levels.specs.declared.outline.LevelFacts.{LevelFacts}
use Rattle.path_levels.specs.declared.outline.LineFacts.{LineFacts}
use Rattle.path_levels.specs.Rows.{unfit_rows}
use Rattle.path_levels.proofs.Parts.RowsLoop.{join_next, none_yet, rows_are, skip_full, skip_other, stop_is}
use Rattle.path_levels.proofs.rows.rows_level.Goals.{then-index-place+then-first-most+in-Ok, else-index-place, else-index-place-via-then-index-place+else-first-most, else-index-place-via-else-index-place}
use Rattle.path_levels.proofs.rows.rows_level.Goals as goal

pub loop-at-init : goal.loop-at-init
loop-at-init c = none_yet c.args.corner.outline.now c.args.corner.lines.now c.args.place c.args.most c.in_ok-sum.sum c.in_ok-sum.ensures.sized c.in_ok-sum.ensures.empty

pub returns-clause-row : goal.returns-clause-row
returns-clause-row c = λ p at are low. rows_are c.args.corner.outline.now c.args.corner.lines.now c.args.place c.args.most c.loop-at.at c.loop-at.first c.loop-at.sum (omega (arith, c.loop-at-test.false)) c.loop-at.invariant p at low are

pub loop-at-preserved : goal.loop-at-preserved
loop-at-preserved c =
    let line : (get_or c.args.corner.outline.now.lines.items c.loop-at.at c.index.result.now).level ≡ c.index.result.now.level = sym (ap (λ (f : LineFacts). f.level) c.index.ensures) in
    elim c.if-index-place.branch [
      | then-index-place+then-first-most+in-Ok w ↦
          let kept : IsKept w.in-Ok.next.cost = search rules in
          rw (w.sum-is, w.first-is)
          (join_next c.args.corner.outline.now c.args.corner.lines.now c.args.place c.args.most c.loop-at.at c.loop-at.first c.index.result.now c.loop-at.sum w.in-Ok.next c.requires.corner.outline.count c.requires.place c.loop-at-test.true w.if-first-most.true
          (line ∙ w.if-index-place.true) kept.fits w.in-Ok.ensures.sized w.in-Ok.ensures.row c.loop-at.invariant)
      | else-index-place w ↦
          rw (w.sum-is, w.first-is)
          (elim w.else-index-place.branch [
            | else-index-place-via-then-index-place+else-first-most v ↦
                skip_full c.args.corner.outline.now c.args.corner.lines.now c.args.place c.args.most c.loop-at.at c.loop-at.first c.loop-at.sum v.if-first-most.false c.loop-at.invariant
            | else-index-place-via-else-index-place v ↦
                skip_other c.args.corner.outline.now c.args.corner.lines.now c.args.place c.args.most c.loop-at.at c.loop-at.first c.index.result.now c.loop-at.sum c.requires.place c.loop-at-test.true (λ e. v.if-index-place.false (sym line ∙ e)) c.loop-at.invariant
          ])
    ]

pub returns-in-Err-clause-unfit : goal.returns-in-Err-clause-unfit
returns-in-Err-clause-unfit c =
    let line : (get_or c.args.corner.outline.now.lines.items c.loop-at.at c.index.result.now).level ≡ c.index.result.now.level = sym (ap (λ (f : LineFacts). f.level) c.index.ensures) in
    stop_is c.args.corner c.args.place c.args.most c.loop-at.at c.loop-at.first c.index.result.now c.loop-at.sum c.index-in-Err.result.now c.in-Err.stop c.rows_stop.result c.requires.corner.outline.count c.requires.place c.loop-at-test.true c.if-first-most.true
    (line ∙ c.if-index-place.true)
    (λ e. subst (λ (l : Level). c.rows_stop.result ≡ unfit_rows l (c.loop-at.first + 1)) (ap (λ (f : LevelFacts). f.level) c.index-in-Err.ensures) (c.rows_stop.ensures.unfit e))
    c.rows_stop.ensures.memory c.in-Err.ensures.unfit c.loop-at.invariant
