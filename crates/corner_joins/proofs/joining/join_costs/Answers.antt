use Rattle.std.proofs.Common.{◌∙◌, ℕ, ◌++◌, ◌+◌, ap, sym, subst, take, drop, List}
use Rattle.problem_core.specs.declared.parts.RowName.TheVariants.{Held}
use Rattle.problem_core.specs.Layout.{Row}
use Rattle.corner_table.specs.Tables.{line_slot, lists_of, problem_of}
use Rattle.corner_view.specs.Seen.{IsNamed}
use Rattle.corner_joins.specs.Additions.CostJoins.{AreToJoin, IsCostsStop}
use Rattle.corner_joins.proofs.Costs.CostFound.{passed_on}
use Rattle.corner_joins.proofs.Costs.CostLoops.{here_joins, joins_at, last_kept, step_joined, step_joins, step_kept, step_stop, to_join_named}
use Rattle.corner_joins.proofs.Costs.CostSums.{all_costs_fit, next_costs_fit}
use Rattle.corner_joins.proofs.joining.join_costs.Goals as goal

pub line_slot-line-requires-clause-row : goal.line_slot-line-requires-clause-row
line_slot-line-requires-clause-row c =
    subst (λ (n : ℕ). IsNamed (problem_of (lists_of c.loop-i.table)) (Held n)) (sym c.id.ensures)
    (to_join_named (lists_of c.loop-i.table) (c.requires.rows.0 ++ take c.loop-i.i c.args.rows.now) (drop (c.loop-i.i + 1) c.args.rows.now) c.index-rows-i.result
    (here_joins (lists_of c.loop-i.table) c.requires.rows.0 c.args.rows.now c.loop-i.i c.index-rows-i.result c.loop-i-test.true c.index-rows-i.is (c.loop-i.invariant.joins c.requires.rows.0 c.requires.rows.1)).rows)

pub join_next-requires : goal.join_next-requires
join_next-requires c = record {
  joins = record {
    kept = c.loop-i.invariant.kept;
    row = c.index-rows-i.result;
    is = joins_at (lists_of c.loop-i.table) (c.requires.rows.0 ++ take c.loop-i.i c.args.rows.now) c.index-rows-i.result (drop (c.loop-i.i + 1) c.args.rows.now) c.line_slot-line.result (c.line_slot-line.ensures.value ∙ ap (λ (n : ℕ). line_slot (lists_of c.loop-i.table) (Held n)) c.id.ensures)
        (here_joins (lists_of c.loop-i.table) c.requires.rows.0 c.args.rows.now c.loop-i.i c.index-rows-i.result c.loop-i-test.true c.index-rows-i.is (c.loop-i.invariant.joins c.requires.rows.0 c.requires.rows.1));
    within = c.line_slot-line.ensures.within;
  };
}

pub returns-in_err-join_next-clause-stop : goal.returns-in_err-join_next-clause-stop
returns-in_err-join_next-clause-stop c =
    passed_on c.from_residual.result c.in_err-join_next.field-0.0 (λ stop. (first : List Row) → AreToJoin (lists_of c.args.table.now) first c.args.rows.now → IsCostsStop (lists_of c.args.table.now) first c.args.rows.now stop) c.from_residual.ensures.1
    (λ first h. step_stop (lists_of c.args.table.now) (lists_of c.loop-i.table) first c.args.rows.now c.loop-i.i c.index-rows-i.result c.line_slot-line.result c.args.listed.now c.loop-i.listed c.in_err-join_next.field-0.0 c.loop-i.invariant.kept c.loop-i-test.true c.index-rows-i.is (c.line_slot-line.ensures.value ∙ ap (λ (n : ℕ). line_slot (lists_of c.loop-i.table) (Held n)) c.id.ensures) (c.loop-i.invariant.joins first h)
    c.loop-i.invariant.joined c.in_err-join_next.ensures.stop)

pub loop-i-preserved : goal.loop-i-preserved
loop-i-preserved c = record {
  kept = step_kept (lists_of c.loop-i.table) (lists_of c.join_next.new.table) c.requires.rows.0 c.args.rows.now c.loop-i.i c.index-rows-i.result c.line_slot-line.result c.loop-i.invariant.kept c.loop-i-test.true c.index-rows-i.is (c.line_slot-line.ensures.value ∙ ap (λ (n : ℕ). line_slot (lists_of c.loop-i.table) (Held n)) c.id.ensures) c.in_ok-join_next.ensures.joined (c.loop-i.invariant.joins c.requires.rows.0 c.requires.rows.1);
  joins = λ first h. step_joins (lists_of c.loop-i.table) (lists_of c.join_next.new.table) first c.args.rows.now c.loop-i.i c.index-rows-i.result c.line_slot-line.result c.loop-i.invariant.kept c.loop-i-test.true c.index-rows-i.is (c.line_slot-line.ensures.value ∙ ap (λ (n : ℕ). line_slot (lists_of c.loop-i.table) (Held n)) c.id.ensures) c.in_ok-join_next.ensures.joined (c.loop-i.invariant.joins first h);
  joined = step_joined (lists_of c.args.table.now) (lists_of c.loop-i.table) (lists_of c.join_next.new.table) c.requires.rows.0 c.args.rows.now c.loop-i.i c.index-rows-i.result c.line_slot-line.result c.args.listed.now c.loop-i.listed c.join_next.new.listed c.loop-i.invariant.kept c.loop-i-test.true c.index-rows-i.is (c.line_slot-line.ensures.value ∙ ap (λ (n : ℕ). line_slot (lists_of c.loop-i.table) (Held n)) c.id.ensures)
      c.in_ok-join_next.ensures.joined c.in_ok-join_next.ensures.listed (c.loop-i.invariant.joins c.requires.rows.0 c.requires.rows.1) c.loop-i.invariant.joined;
  fits = λ first h. next_costs_fit (lists_of c.args.table.now) (lists_of c.loop-i.table) (lists_of c.join_next.new.table) first c.args.rows.now c.loop-i.i c.index-rows-i.result c.line_slot-line.result c.args.listed.now c.loop-i.listed c.loop-i.invariant.kept c.loop-i-test.true c.index-rows-i.is (c.line_slot-line.ensures.value ∙ ap (λ (n : ℕ). line_slot (lists_of c.loop-i.table) (Held n)) c.id.ensures) c.in_ok-join_next.ensures.joined (c.loop-i.invariant.joins first h) c.loop-i.invariant.joined
      (c.loop-i.invariant.fits first h);
  before = c.join_next.ensures.before ∙ c.loop-i.invariant.before;
  alike = λ h. c.join_next.ensures.alike (c.loop-i.invariant.alike h);
}

pub returns-clause-kept : goal.returns-clause-kept
returns-clause-kept c = last_kept (lists_of c.loop-i.table) c.requires.rows.0 c.args.rows.now c.loop-i.i c.loop-i.invariant.kept c.loop-i-test.false (c.loop-i.invariant.joins c.requires.rows.0 c.requires.rows.1)

pub returns-clause-fits : goal.returns-clause-fits
returns-clause-fits c = λ first h. all_costs_fit (lists_of c.args.table.now) first c.args.rows.now c.loop-i.i c.loop-i-test.false (c.loop-i.invariant.fits first h)
