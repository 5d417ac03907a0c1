use Rattle.std.proofs.Common.{◌≡◌, ◌+◌, ◌<◌, ◌^◌, List, length, length-take, map, take, take_all, Option, sym, subst, arith}
use Rattle.std.proofs.lemmas.Result.{err_from_is_err_and}
use Rattle.script_text.specs.Meaning.{Linear}
use Rattle.name_tables.specs.declared.stops.LimitWord.{LimitWord}
use Rattle.format_compile.specs.Asks.{AreAsks}
use Rattle.constraint_compile.specs.Inside.{form_view}
use Rattle.format_compile.specs.FormatFound.{IsFound, HaveNoRows}
use Rattle.format_compile.proofs.Asked.{no_asks, asks_long, line_of_last, line_of_place, HasLine, below_limit}
use Rattle.format_compile.proofs.Numbered.{found_passes, line_ends}
use Rattle.format_compile.proofs.rows.rows_of.Goals as goal

pub add_row-requires-clause-number : goal.add_row-requires-clause-number
add_row-requires-clause-number c =
    let below : c.args.first_row + c.loop-ask.ask-index < 2 ^ 31 = below_limit c.args.first_row (length c.args.asks.now) c.loop-ask.ask-index c.requires.numbers c.loop-ask-test.true in
    (omega (arith, c.loop-ask.invariant.number, c.requires.first), omega (arith, c.loop-ask.invariant.number, below))

pub loop-ask-init : goal.loop-ask-init
loop-ask-init c = record {
  forms = rw c.new.ensures.items (λ k d h. absurd (omega (arith, h)));
  found = λ views lines are. rw c.new.ensures.items (no_asks views c.args.metrics.now lines c.args.first_row are);
  number = omega arith;
}

pub loop-ask-preserved : goal.loop-ask-preserved
loop-ask-preserved c =
    record {
      forms = c.in_ok-add_row.ensures.forms;
      found = λ views lines are.
          let last = line_of_last views c.args.metrics.now lines c.args.asks.now c.loop-ask.ask-index c.ask-item.result c.loop-ask-test.true c.ask-item.is are in
          let long : length (take c.loop-ask.ask-index c.args.asks.now) ≡ length last.0 = asks_long views c.args.metrics.now last.0 (take c.loop-ask.ask-index c.args.asks.now) last.3 in
          let here : c.loop-ask.id ≡ c.args.first_row + length last.0 = omega (arith, c.loop-ask.invariant.number, long, length-take c.loop-ask.ask-index c.args.asks.now, c.loop-ask-test.true) in
          subst (λ (ls : List Linear). IsFound views c.args.metrics.now ls c.args.first_row (map form_view c.add_row.new.found.rows.items) c.add_row.new.found.limit) (sym last.2)
          (c.in_ok-add_row.ensures.found views last.0 last.1 c.args.first_row last.4 here (c.loop-ask.invariant.found views last.0 last.3));
      number = omega (arith, c.loop-ask.invariant.number);
    }

pub returns-in_err-add_row-clause-stop : goal.returns-in_err-add_row-clause-stop
returns-in_err-add_row-clause-stop c =
    let exit = err_from_is_err_and c.from_residual.result c.from_residual.ensures.1 in
    rw (exit.1, exit.2) (λ views lines are.
    let at : HasLine views c.args.metrics.now lines (take c.loop-ask.ask-index c.args.asks.now) c.ask-item.result = line_of_place views c.args.metrics.now lines c.args.asks.now c.loop-ask.ask-index c.ask-item.result c.loop-ask-test.true c.ask-item.is are in
    subst (λ (ls : List Linear). HaveNoRows views c.args.metrics.now ls c.in_err-add_row.field-0.0) (sym at.whole) (line_ends views c.args.metrics.now at.before at.behind at.line c.in_err-add_row.field-0.0 (c.in_err-add_row.ensures.stop views at.line at.is)))

pub returns-in-Some-clause-stop : goal.returns-in-Some-clause-stop
returns-in-Some-clause-stop c = λ views lines are.
    let whole : take c.loop-ask.ask-index c.args.asks.now ≡ c.args.asks.now = take_all c.loop-ask.ask-index c.args.asks.now c.loop-ask-test.false in
    found_passes views c.args.metrics.now lines c.args.first_row (map form_view c.loop-ask.found.rows.items) c.in-Some.word
    (subst (λ (past : Option LimitWord). IsFound views c.args.metrics.now lines c.args.first_row (map form_view c.loop-ask.found.rows.items) past) c.in-Some.is
    (c.loop-ask.invariant.found views lines (subst (AreAsks views c.args.metrics.now lines) (sym whole) are)))

pub returns-in-None-clause-rows : goal.returns-in-None-clause-rows
returns-in-None-clause-rows c = λ views lines are.
    let whole : take c.loop-ask.ask-index c.args.asks.now ≡ c.args.asks.now = take_all c.loop-ask.ask-index c.args.asks.now c.loop-ask-test.false in
    subst (λ (past : Option LimitWord). IsFound views c.args.metrics.now lines c.args.first_row (map form_view c.loop-ask.found.rows.items) past) c.in-None.is
    (c.loop-ask.invariant.found views lines (subst (AreAsks views c.args.metrics.now lines) (sym whole) are))
