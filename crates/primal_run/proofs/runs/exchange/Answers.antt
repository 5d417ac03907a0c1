use Rattle.std.proofs.Common.{rules, false, ◌≡◌, ℕ, List, [], ◌∷◌, ◌++◌, ◌<◌, sym, subst, length}
use Rattle.problem_core.specs.Layout.{Problem}
use Rattle.problem_core.specs.declared.parts.Mark.{Mark}
use Rattle.frac_core.specs.declared.memory.Stop.TheVariants.{Refused}
use Rattle.problem_core.specs.Corners.{Swap, exchanged}
use Rattle.cert_core.specs.Stops.{IsStopOf}
use Rattle.corner_view.specs.Seen.{CornerView}
use Rattle.corner_view.specs.Stops.{IsUnfitStop}
use Rattle.corner_ends.specs.Runs.{FromHere}
use Rattle.corner_ends.specs.Trails.{HasRun, IsTrailOf}
use Rattle.corner_ends.proofs.MarkOrders.{same_self}
use Rattle.primal_run.proofs.RunFacts.{swap_more}
use Rattle.primal_run.proofs.runs.exchange.Goals as goal

pub returns-in_ok-push-in-Ok-clause-trail : goal.returns-in_ok-push-in-Ok-clause-trail
returns-in_ok-push-in-Ok-clause-trail g c = λ first trail.
    let s : Swap = record { enter = c.args.enter; leave = c.leaving-leave.result } in
    subst (λ (p : Problem). IsTrailOf false p first c.push.new.self c.swap.new.self.marks) (sym c.in-Ok.ensures.problem)
    (c.in_ok-push-in-Ok.ensures.trail false c.args.c.now.problem first c.args.c.now.marks c.swap.new.self.marks trail
    (swap_more c.args.c.now.problem first c.args.c.now.marks c.swap.new.self.marks c.args.trail.now.swaps s trail.swapped c.requires.enter c.leaving-leave.ensures.inside (c.leaving-leave.ensures.first first trail) c.in-Ok.ensures.marks))

pub returns-in-Err-Refused-clause-stop : goal.returns-in-Err-Refused-clause-stop
returns-in-Err-Refused-clause-stop g c = λ first trail budget short.
    let s : Swap = record { enter = c.args.enter; leave = c.leaving-leave.result } in
    let next : List Mark = exchanged s c.args.c.now.marks in
    let same : c.swap.new.self ≡ c.args.c.now = search rules in
    let told : IsTrailOf false c.args.c.now.problem first c.args.trail.now c.args.c.now.marks → HasRun false c.args.c.now.problem first (c.args.trail.now.swaps ++ s ∷ []) next → IsUnfitStop c.args.c.now.problem next (Refused c.in-Err-Refused.quantity) → (most : ℕ) → length c.args.trail.now.swaps < most → IsStopOf false c.args.c.now.problem c.args.c.now.problem.rows (FromHere first) most c.unfit.result =
    subst (λ (v : CornerView). IsTrailOf false v.problem first c.args.trail.now v.marks → HasRun false v.problem first (c.args.trail.now.swaps ++ s ∷ []) next → IsUnfitStop v.problem next (Refused c.in-Err-Refused.quantity) → (most : ℕ) → length c.args.trail.now.swaps < most → IsStopOf false v.problem v.problem.rows (FromHere first) most c.unfit.result) same (c.unfit.ensures.after false first next) in
    told trail
    (swap_more c.args.c.now.problem first c.args.c.now.marks next c.args.trail.now.swaps s trail.swapped c.requires.enter c.leaving-leave.ensures.inside (c.leaving-leave.ensures.first first trail) (same_self next))
    (search rules)
    budget short
