use Rattle.std.proofs.Common.{◌≡◌, ◌∙◌, ◌<◌, ℕ, get_or, length, Option, arith, sym, subst, subst₂}
use Rattle.std.proofs.lemmas.List.{get_or_default}
use Rattle.std.proofs.lemmas.Result.{err_from_is_err_and}
use Rattle.path_lines.specs.declared.table.Inside.{Inside}
use Rattle.path_lines.specs.Exchanges.Pivots.{IsNextLine}
use Rattle.path_lines.specs.Tables.{IsLineAt, IsSizedLine, line_count, name_at}
use Rattle.path_lines.proofs.Replacing.{none_done, one_replaced, one_stays}
use Rattle.path_lines.proofs.exchange.exchanged_lines.Goals.{then-is_touched+in_ok-put_line, else-is_touched}
use Rattle.path_lines.proofs.exchange.exchanged_lines.Goals as goal

pub loop-at-init : goal.loop-at-init
loop-at-init c = record {
  end = omega (arith, c.len-at-end.ensures, c.args.lines.ok.0);
  done = none_done (IsNextLine c.args.pivot.now c.args.enters) (IsSizedLine (length c.args.lines.items)) c.args.lines.items c.requires.sized;
}

pub is_touched-requires-clause-sized : goal.is_touched-requires-clause-sized
is_touched-requires-clause-sized c =
    let within : c.loop-at.at < length c.args.lines.items = omega (arith, c.loop-at-test.true, c.loop-at.invariant.end) in
    subst₂ (λ (n : ℕ) (o : Option Inside). IsSizedLine n o) (sym c.requires.count) (sym c.index.ensures) (c.loop-at.invariant.done.sized c.loop-at.at c.index.result.now (omega (arith, within, c.loop-at.invariant.done.count)))

pub put_line-requires-clause-sized : goal.put_line-requires-clause-sized
put_line-requires-clause-sized c =
    let within : c.loop-at.at < length c.args.lines.items = omega (arith, c.loop-at-test.true, c.loop-at.invariant.end) in
    subst₂ (λ (n : ℕ) (o : Option Inside). IsSizedLine n o) (sym c.requires.count) (sym c.index_mut.ensures.value) (c.loop-at.invariant.done.sized c.loop-at.at c.index_mut.result.now (omega (arith, within, c.loop-at.invariant.done.count)))

pub returns-in_err-put_line-clause-unfit : goal.returns-in_err-put_line-clause-unfit
returns-in_err-put_line-clause-unfit c =
    let exit = err_from_is_err_and c.from_residual-in_err-put_line.result c.from_residual-in_err-put_line.ensures.1 in
    rw (exit.1, exit.2) (λ same p at is entered lines.
    let within : c.loop-at.at < line_count p = omega (arith, c.loop-at-test.true, c.loop-at.invariant.end, lines.count) in
    c.in_err-put_line.ensures.unfit same p at is entered within
    (subst (IsLineAt p at (name_at p c.loop-at.at)) (sym (c.index_mut.ensures.value ∙ c.loop-at.invariant.done.rest c.loop-at.at c.index_mut.result.now (omega arith))) (lines.each c.loop-at.at c.index_mut.result.now within)))

pub loop-at-preserved : goal.loop-at-preserved
loop-at-preserved c =
    let within : c.loop-at.at < length c.args.lines.items = omega (arith, c.loop-at-test.true, c.loop-at.invariant.end) in
    let inside : c.loop-at.at < length c.loop-at.out.items = omega (arith, within, c.loop-at.invariant.done.count) in
    let here : (d : Option Inside) → c.index.result.now ≡ get_or c.loop-at.out.items c.loop-at.at d = λ d. c.index.ensures ∙ get_or_default c.loop-at.out.items c.loop-at.at c.index.result.now d inside in
    record {
      end = c.loop-at.invariant.end;
      done = elim c.if-is_touched.branch [
        | then-is_touched+in_ok-put_line w ↦
            rw w.out-is
            (one_replaced (IsNextLine c.args.pivot.now c.args.enters) (IsSizedLine (length c.args.lines.items)) c.args.lines.items c.loop-at.out.items c.loop-at.at w.index_mut.result.now w.put_line.new.line within
            (λ d. w.index_mut.ensures.value ∙ get_or_default c.loop-at.out.items c.loop-at.at w.index_mut.result.now d inside)
            (subst (λ (n : ℕ). IsSizedLine n w.put_line.new.line) c.requires.count w.in_ok-put_line.ensures.sized) w.in_ok-put_line.ensures.line c.loop-at.invariant.done)
        | else-is_touched w ↦
            rw w.out-is
            (one_stays (IsNextLine c.args.pivot.now c.args.enters) (IsSizedLine (length c.args.lines.items)) c.args.lines.items c.loop-at.out.items c.loop-at.at c.index.result.now here (c.is_touched.ensures w.if-is_touched.false c.args.enters) c.loop-at.invariant.done)
      ];
    }

pub returns-clause-sized : goal.returns-clause-sized
returns-clause-sized c = subst (λ (n : ℕ). (k : ℕ) (d : Option Inside) → k < n → IsSizedLine n (get_or c.loop-at.out.items k d)) (sym c.loop-at.invariant.done.count)
    (λ k d within. c.loop-at.invariant.done.sized k d (omega (arith, within, c.loop-at.invariant.done.count)))

pub returns-clause-lines : goal.returns-clause-lines
returns-clause-lines c = λ p at is entered lines. record {
  count = c.loop-at.invariant.done.count ∙ lines.count;
  each = λ k d within. c.loop-at.invariant.done.done k d (omega (arith, within, lines.count, c.loop-at-test.false, c.loop-at.invariant.end)) p at is entered within (lines.each k d within);
}
