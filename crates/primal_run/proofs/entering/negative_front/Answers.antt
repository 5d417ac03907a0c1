use Rattle.std.proofs.Common.{rules, subst, IfNone, SFits}
use Rattle.std.specs.Int.{w64}
use Rattle.std.specs.declared.option.Option.{Option}
use Rattle.std.proofs.lemmas.Int.{to_z-of_z}
use Rattle.corner_view.specs.Fronts.{HasNoFront, IsFrontOf}
use Rattle.corner_ends.proofs.Fronts.{front_above, front_below, no_front}
use Rattle.corner_ends.proofs.Marks.{some_here}
use Rattle.corner_view.specs.declared.types.Front.{Front}
use Rattle.primal_run.proofs.entering.negative_front.Goals as goal

pub returns-then-is_below-clause-some : goal.returns-then-is_below-clause-some
returns-then-is_below-clause-some g c =
    let fits : SFits w64 c.in_ok-front.front.reduced = search rules in
    let low = simp to_z-of_z at c.is_below.ensures.yes in
    front_below c.args.c.now.problem c.args.c.now.marks c.args.mark c.in_ok-front.front c.show_corner.ensures.kept c.requires.mark
    (some_here c.args.found (IsFrontOf c.args.c.now.problem c.args.c.now.marks c.args.mark) c.in_ok-front.front c.requires.found.0 c.in_ok-front.was) (low c.if-is_below.true)

pub returns-then-is_below-clause-front : goal.returns-then-is_below-clause-front
returns-then-is_below-clause-front g c = some_here c.args.found (IsFrontOf c.args.c.now.problem c.args.c.now.marks c.args.mark) c.in_ok-front.front c.requires.found.0 c.in_ok-front.was

pub returns-else-is_below-clause-none : goal.returns-else-is_below-clause-none
returns-else-is_below-clause-none g c =
    let fits : SFits w64 c.in_ok-front.front.reduced = search rules in
    let up = simp to_z-of_z at c.is_below.ensures.no in
    front_above c.args.c.now.problem c.args.c.now.marks c.args.mark c.in_ok-front.front c.show_corner.ensures.kept c.requires.mark
    (some_here c.args.found (IsFrontOf c.args.c.now.problem c.args.c.now.marks c.args.mark) c.in_ok-front.front c.requires.found.0 c.in_ok-front.was) (up c.if-is_below.false)

pub returns-in_err-front-clause-none : goal.returns-in_err-front-clause-none
returns-in_err-front-clause-none g c =
    rw c.from_residual.ensures (no_front c.args.c.now.problem c.args.c.now.marks c.args.mark c.show_corner.ensures.kept c.requires.mark
    (subst (λ (o : Option Front). IfNone o (HasNoFront c.args.c.now.problem c.args.c.now.marks c.args.mark)) c.in_err-front.was c.requires.found.1))

pub returns-then-is_below-clause-below : goal.returns-then-is_below-clause-below
returns-then-is_below-clause-below g c =
    let fits : SFits w64 c.in_ok-front.front.reduced = search rules in
    let low = simp to_z-of_z at c.is_below.ensures.yes in
    low c.if-is_below.true
