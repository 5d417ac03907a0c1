use Rattle.std.proofs.Common.{subst, IfSome}
use Rattle.std.specs.declared.option.Option.{Option}
use Rattle.problem_core.specs.declared.parts.Mark.{Mark}
use Rattle.problem_core.specs.Corners.{place}
use Rattle.primal_run.specs.declared.deciding.Decider.{Decider}
use Rattle.primal_run.specs.declared.deciding.Tie.{Tie}
use Rattle.primal_run.specs.Deciding.{HasBegun, IsDecider, IsSeen}
use Rattle.primal_run.proofs.Deciders.{first_wins, none_wins, second_wins}
use Rattle.primal_run.proofs.deciding.breaks_tie.Goals as goal

pub returns-in-Some-clause-yes : goal.returns-in-Some-clause-yes
returns-in-Some-clause-yes g c = λ yes first run.
    let tie : Tie = record { a = c.args.a; b = c.args.b } in
    first_wins c.args.c.now c.args.trail.now (place c.args.enter) tie c.in-Some.decider first c.show_corner.ensures.kept c.requires.a c.requires.b
    (subst (λ (o : Option Decider). IfSome o (IsDecider c.args.c.now.problem c.args.c.now.marks tie)) c.in-Some.is c.deciding-found.ensures.decider)
    (subst (HasBegun c.args.c.now c.args.trail.now) c.in-Some.is c.deciding-found.ensures.begun)
    (subst (λ (o : Option Decider). (f : Mark) → IsSeen c.args.c.now c.args.trail.now tie o f) c.in-Some.is c.deciding-found.ensures.seen)
    (c.is_less.ensures.yes yes) run

pub returns-in-Some-clause-no : goal.returns-in-Some-clause-no
returns-in-Some-clause-no g c = λ no first run.
    let tie : Tie = record { a = c.args.a; b = c.args.b } in
    second_wins c.args.c.now c.args.trail.now (place c.args.enter) tie c.in-Some.decider first c.show_corner.ensures.kept c.requires.a c.requires.b
    (subst (λ (o : Option Decider). IfSome o (IsDecider c.args.c.now.problem c.args.c.now.marks tie)) c.in-Some.is c.deciding-found.ensures.decider)
    (subst (HasBegun c.args.c.now c.args.trail.now) c.in-Some.is c.deciding-found.ensures.begun)
    (subst (λ (o : Option Decider). (f : Mark) → IsSeen c.args.c.now c.args.trail.now tie o f) c.in-Some.is c.deciding-found.ensures.seen)
    (c.is_less.ensures.no no) run

pub returns-in-None-clause-no : goal.returns-in-None-clause-no
returns-in-None-clause-no g c = λ no first run.
    let tie : Tie = record { a = c.args.a; b = c.args.b } in
    none_wins c.args.c.now c.args.trail.now (place c.args.enter) tie first c.show_corner.ensures.kept c.requires.a c.requires.b
    (subst (λ (o : Option Decider). (f : Mark) → IsSeen c.args.c.now c.args.trail.now tie o f) c.in-None.is c.deciding-found.ensures.seen) run
