use Rattle.std.proofs.Common.{arith, subst, sym, ap, ◌∙◌}
use Rattle.dual_run.specs.declared.ratios.Choice.{Choice}
use Rattle.dual_run.specs.Entering.{IsBeforeLine, IsFree}
use Rattle.dual_run.proofs.Choices.{all_entries, entry_outside, first_more, line_through}
use Rattle.dual_run.proofs.Turns.{entry_other, free_through}
use Rattle.dual_run.proofs.entering.least.Goals as goal

pub loop-i-init : goal.loop-i-init
loop-i-init g c = record {
  found = c.found_at-found.ensures.found;
  free = λ yes. subst (IsFree c.args.c.now.problem c.args.c.now.marks) (sym (ap (λ (f : Choice). f.mark) c.found_at-found.ensures.choice ∙ c.own_choice.ensures.mark)) (c.requires.free yes);
  own = subst (λ (f : Choice). IsBeforeLine c.args.c.now.problem c.args.c.now.marks c.args.leave f c.args.leave.row) (sym c.found_at-found.ensures.choice) c.own_choice.ensures.line;
  least = λ names are k name less got. absurd (omega (arith, less));
}

pub entry-requires-clause-within : goal.entry-requires-clause-within
entry-requires-clause-within g c =
    let m = c.entries-count.ensures in
    let within = c.loop-i-test.true in
    let same = m.2 in
    (m.0, m.1, omega (arith, within, same))

pub better_of-requires-clause-row : goal.better_of-requires-clause-row
better_of-requires-clause-row g c =
    let m = c.entries-count.ensures in
    entry_outside c.args.c.now c.args.leave m.0 c.loop-i.i c.entry.result m.1 (c.entry.ensures m.0 m.1)

pub better_of-requires-clause-other : goal.better_of-requires-clause-other
better_of-requires-clause-other g c =
    let m = c.entries-count.ensures in
    entry_other c.args.c.now c.args.leave m.0 c.loop-i.i c.entry.result m.1 (c.entry.ensures m.0 m.1)

pub loop-i-preserved : goal.loop-i-preserved
loop-i-preserved g c = record {
  found = c.in_ok-best.ensures.found;
  free = λ yes. free_through c.args.c.now.problem c.args.c.now.marks c.args.leave c.in_ok-best.best.choice c.loop-i.found.choice c.show_corner.ensures.kept c.requires.columns c.loop-i.invariant.found.choice (c.loop-i.invariant.free yes) c.in_ok-best.ensures.least;
  own = line_through c.args.c.now.problem c.args.c.now.marks c.args.leave c.in_ok-best.best.choice c.loop-i.found.choice c.args.leave.row c.in_ok-best.ensures.found.choice c.loop-i.invariant.found.choice c.in_ok-best.ensures.least c.loop-i.invariant.own;
  least = first_more c.args.c.now c.args.leave c.in_ok-best.best.choice c.loop-i.found.choice c.loop-i.i c.entry.result c.in_ok-best.ensures.found.choice c.loop-i.invariant.found.choice c.in_ok-best.ensures.least c.entry.ensures c.in_ok-best.ensures.line c.loop-i.invariant.least;
}

pub returns-clause-choice : goal.returns-clause-choice
returns-clause-choice g c = c.loop-i.invariant.found.choice

pub returns-clause-least : goal.returns-clause-least
returns-clause-least g c =
    let m = c.entries-count.ensures in
    let same = m.2 in
    let over = c.loop-i-test.false in
    all_entries c.args.c.now c.args.leave c.loop-i.found.choice m.0 c.loop-i.i m.1 (omega (arith, same, over)) c.loop-i.invariant.least
