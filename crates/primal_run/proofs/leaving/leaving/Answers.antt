use Rattle.std.proofs.Common.{List, take, subst, Some, arith}
use Rattle.std.specs.declared.option.Option.{Option}
use Rattle.std.specs.Prelude.{None}
use Rattle.std.proofs.lemmas.List.{take_all}
use Rattle.problem_core.specs.declared.stops.What.{What}
use Rattle.problem_core.specs.Corners.{place}
use Rattle.corner_view.specs.Seen.{MovesWith}
use Rattle.corner_ends.specs.Trails.{in_tie_order}
use Rattle.primal_run.specs.Leaving.{IsFirstOf, IsRatioOrNone}
use Rattle.primal_run.specs.declared.ties.Ratio.{Ratio}
use Rattle.primal_run.proofs.Leaves.{first_leaves, moves_with, none_leaves, took_next}
use Rattle.corner_ends.proofs.Marks.{got_holds}
use Rattle.primal_run.proofs.leaving.leaving.Goals as goal

pub mover-requires-clause-within : goal.mover-requires-clause-within
mover-requires-clause-within g c =
    let m = c.movers-count.ensures in
    let within = c.loop-i-test.true in
    let same = m.2 in
    (m.0, m.1, omega (arith, within, same))

pub next_first-found-requires-clause-moves : goal.next_first-found-requires-clause-moves
next_first-found-requires-clause-moves g c =
    let m = c.movers-count.ensures in
    got_holds (MovesWith c.args.c.now.problem c.args.c.now.marks c.args.enter) m.0 c.loop-i.i c.mover.result m.1.move (c.mover.ensures m.0 m.1)

pub loop-i-preserved : goal.loop-i-preserved
loop-i-preserved g c = record {
  ratio = c.next_first-found.ensures.ratio;
  first = λ first run whats are.
      subst (λ (xs : List What). IsFirstOf c.args.c.now.problem c.args.c.now.marks (place c.args.enter) (in_tie_order first) xs c.next_first-found.result) (took_next whats c.loop-i.i c.mover.result (c.mover.ensures whats are))
      (c.next_first-found.ensures.first first run (take c.loop-i.i whats) (c.loop-i.invariant.first first run whats are));
}

pub unreachable-requires : goal.unreachable-requires
unreachable-requires g c =
    let first = c.requires.trail.0 in
    let run = c.requires.trail.1 in
    let m = c.movers-count.ensures in
    let same = m.2 in
    let over = c.loop-i-test.false in
    none_leaves c.args.c.now c.args.enter (in_tie_order first) m.0 c.show_corner.ensures.kept c.requires.enter m.1
    (subst (λ (xs : List What). IsFirstOf c.args.c.now.problem c.args.c.now.marks (place c.args.enter) (in_tie_order first) xs None) (take_all c.loop-i.i m.0 (omega (arith, same, over)))
    (subst (λ (f : Option Ratio). IsFirstOf c.args.c.now.problem c.args.c.now.marks (place c.args.enter) (in_tie_order first) (take c.loop-i.i m.0) f) c.in-None.is (c.loop-i.invariant.first first run m.0 m.1)))

pub returns-clause-moves : goal.returns-clause-moves
returns-clause-moves g c =
    moves_with c.args.c.now.problem c.args.c.now.marks c.args.enter c.in-Some.ratio c.show_corner.ensures.kept c.requires.enter.outside
    (subst (IsRatioOrNone c.args.c.now.problem c.args.c.now.marks (place c.args.enter)) c.in-Some.is c.loop-i.invariant.ratio)

pub returns-clause-first : goal.returns-clause-first
returns-clause-first g c = λ first run.
    let m = c.movers-count.ensures in
    let same = m.2 in
    let over = c.loop-i-test.false in
    first_leaves c.args.c.now c.args.enter (in_tie_order first) m.0 c.in-Some.ratio c.show_corner.ensures.kept m.1
    (subst (λ (xs : List What). IsFirstOf c.args.c.now.problem c.args.c.now.marks (place c.args.enter) (in_tie_order first) xs (Some c.in-Some.ratio)) (take_all c.loop-i.i m.0 (omega (arith, same, over)))
    (subst (λ (f : Option Ratio). IsFirstOf c.args.c.now.problem c.args.c.now.marks (place c.args.enter) (in_tie_order first) (take c.loop-i.i m.0) f) c.in-Some.is (c.loop-i.invariant.first first run m.0 m.1)))
