use Rattle.std.proofs.Common.{◌≡◌, ◌∙◌, ◌<◌, get_or, length, arith}
use Rattle.std.proofs.lemmas.List.{get_or_default}
use Rattle.std.proofs.lemmas.Result.{err_from_is_err_and}
use Rattle.path_lines.proofs.Replacing.{none_done, one_replaced, one_stays}
use Rattle.path_levels.specs.declared.sums.LevelSum.{LevelSum}
use Rattle.path_levels.specs.Levels.{IsSizedLevel}
use Rattle.path_levels.proofs.Exchanges.AllNextLevels.{IsNextAt, all_next, one_unfit}
use Rattle.path_levels.proofs.levels_after.levels_by.Goals.{then-is_touched+in_ok-out, else-is_touched}
use Rattle.path_levels.proofs.levels_after.levels_by.Goals as goal

pub loop-place-init : goal.loop-place-init
loop-place-init c = record {
  end = omega (arith, c.len-place-end.ensures, c.args.levels.ok.0);
  done = none_done (IsNextAt c.args.exchange.corner.outline.now c.args.exchange.corner.lines.now c.args.exchange.step) (IsSizedLevel (length c.args.exchange.corner.lines.now)) c.args.levels.items c.requires.levels;
}

pub loop-place-preserved : goal.loop-place-preserved
loop-place-preserved c =
    let within : c.loop-place.place < length c.args.levels.items = omega (arith, c.loop-place-test.true, c.loop-place.invariant.end) in
    let inside : c.loop-place.place < length c.loop-place.out.items = omega (arith, within, c.loop-place.invariant.done.count) in
    let here : (d : LevelSum) → c.index.result.now ≡ get_or c.loop-place.out.items c.loop-place.place d = λ d. c.index.ensures ∙ get_or_default c.loop-place.out.items c.loop-place.place c.index.result.now d inside in
    record {
      end = c.loop-place.invariant.end;
      done = elim c.if-is_touched.branch [
        | then-is_touched+in_ok-out w ↦
            rw w.out-is
            (one_replaced (IsNextAt c.args.exchange.corner.outline.now c.args.exchange.corner.lines.now c.args.exchange.step) (IsSizedLevel (length c.args.exchange.corner.lines.now)) c.args.levels.items c.loop-place.out.items c.loop-place.place c.index.result.now w.in_ok-out.field-0 within here
            w.in_ok-out.ensures.sized w.in_ok-out.ensures.next c.loop-place.invariant.done)
        | else-is_touched w ↦
            rw w.out-is
            (one_stays (IsNextAt c.args.exchange.corner.outline.now c.args.exchange.corner.lines.now c.args.exchange.step) (IsSizedLevel (length c.args.exchange.corner.lines.now)) c.args.levels.items c.loop-place.out.items c.loop-place.place c.index.result.now here
            (c.is_touched.ensures w.if-is_touched.false) c.loop-place.invariant.done)
      ];
    }

pub returns-in_err-out-clause-unfit : goal.returns-in_err-out-clause-unfit
returns-in_err-out-clause-unfit c =
    let exit = err_from_is_err_and c.from_residual.result c.from_residual.ensures.1 in
    rw (exit.1, exit.2) (λ same.
    one_unfit c.args.exchange.corner.outline.now c.args.exchange.corner.lines.now c.args.exchange.step c.args.levels.items c.loop-place.place c.index.result.now (omega (arith, c.loop-place-test.true, c.loop-place.invariant.end, c.requires.level_count)) c.requires.level_count
    (c.index.ensures ∙ c.loop-place.invariant.done.rest c.loop-place.place c.index.result.now (omega arith)) (c.in_err-out.ensures.unfit same))

pub returns-clause-sized : goal.returns-clause-sized
returns-clause-sized c = c.loop-place.invariant.done.sized

pub returns-clause-level_count : goal.returns-clause-level_count
returns-clause-level_count c = c.loop-place.invariant.done.count ∙ c.requires.level_count

pub returns-clause-next : goal.returns-clause-next
returns-clause-next c =
    all_next c.args.exchange.corner.outline.now c.args.exchange.corner.lines.now c.args.exchange.step c.args.levels.items c.loop-place.out.items c.requires.level_count c.loop-place.invariant.done.count
    (λ k d within. c.loop-place.invariant.done.done k d (omega (arith, within, c.loop-place-test.false, c.loop-place.invariant.end)))
