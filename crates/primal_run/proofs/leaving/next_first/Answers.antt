use Rattle.std.proofs.Common.{sym, subst, Some, ◌++◌, ◌∷◌, []}
use Rattle.std.specs.declared.option.Option.{Option}
use Rattle.problem_core.specs.declared.stops.What.{What}
use Rattle.problem_core.specs.Corners.{place}
use Rattle.corner_view.specs.Seen.{MovesWith}
use Rattle.corner_ends.specs.Trails.{in_tie_order}
use Rattle.primal_run.specs.Leaving.{IsFirstOf}
use Rattle.primal_run.specs.declared.ties.Ratio.{Ratio}
use Rattle.primal_run.proofs.Counts.{earlier_mark, first_mark, mark_inside, no_mark, never_mark}
use Rattle.primal_run.proofs.leaving.next_first.Goals as goal

pub ratio_of-requires-clause-inside : goal.ratio_of-requires-clause-inside
ratio_of-requires-clause-inside g c = mark_inside c.args.c.now.problem c.args.c.now.marks c.args.enter c.in-Mark.m (subst (MovesWith c.args.c.now.problem c.args.c.now.marks c.args.enter) c.in-Mark.is c.requires.moves)

pub returns-in_default-clause-first : goal.returns-in_default-clause-first
returns-in_default-clause-first g c = λ first run list are.
    no_mark c.args.c.now.problem c.args.c.now.marks (place c.args.enter) (in_tie_order first) list c.args.what c.args.found (λ n e. absurd (c.in_default.not-Mark n e)) are

pub returns-in_default-ratio_of-clause-first : goal.returns-in_default-ratio_of-clause-first
returns-in_default-ratio_of-clause-first g c = λ first run list are.
    no_mark c.args.c.now.problem c.args.c.now.marks (place c.args.enter) (in_tie_order first) list c.args.what c.args.found
    (never_mark c.args.c.now.problem c.args.c.now.marks (place c.args.enter) c.args.what c.in-Mark.m c.in-Mark.is c.in_default-ratio_of.ensures.none) are

pub returns-in-Some-found-clause-first : goal.returns-in-Some-found-clause-first
returns-in-Some-found-clause-first g c = λ first run list are.
    subst (λ (x : What). IsFirstOf c.args.c.now.problem c.args.c.now.marks (place c.args.enter) (in_tie_order first) (list ++ x ∷ []) (Some c.earlier.result)) (sym c.in-Mark.is)
    (earlier_mark c.args.c.now.problem c.args.c.now.marks (place c.args.enter) (in_tie_order first) list c.in-Mark.m c.in-Some.ratio c.in-Some-found.other c.earlier.result c.show_corner.ensures.kept c.in-Some.ensures.some.0 (c.earlier.ensures.earlier first run)
    (subst (λ (f : Option Ratio). IsFirstOf c.args.c.now.problem c.args.c.now.marks (place c.args.enter) (in_tie_order first) list f) c.in-Some-found.is are))

pub returns-in-None-clause-first : goal.returns-in-None-clause-first
returns-in-None-clause-first g c = λ first run list are.
    subst (λ (x : What). IsFirstOf c.args.c.now.problem c.args.c.now.marks (place c.args.enter) (in_tie_order first) (list ++ x ∷ []) (Some c.in-Some.ratio)) (sym c.in-Mark.is)
    (first_mark c.args.c.now.problem c.args.c.now.marks (place c.args.enter) (in_tie_order first) list c.in-Mark.m c.in-Some.ratio c.show_corner.ensures.kept c.in-Some.ensures.some.0 c.in-Some.ensures.some.1
    (subst (λ (f : Option Ratio). IsFirstOf c.args.c.now.problem c.args.c.now.marks (place c.args.enter) (in_tie_order first) list f) c.in-None.is are))
