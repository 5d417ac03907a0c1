use Rattle.std.proofs.Common.{rules, true, ◌≡◌, ℕ, List, [], ◌∷◌, ◌++◌, ◌<◌, sym, subst, length}
use Rattle.problem_core.specs.Layout.{Problem}
use Rattle.problem_core.specs.declared.parts.Mark.{Mark}
use Rattle.frac_core.specs.declared.memory.Stop.TheVariants.{Refused}
use Rattle.problem_core.specs.Corners.{Swap, exchanged}
use Rattle.cert_core.specs.Stops.{IsStopOf}
use Rattle.corner_view.specs.Seen.{CornerView, IsNamed}
use Rattle.corner_view.specs.Stops.{IsUnfitStop}
use Rattle.corner_ends.specs.Runs.{FromHere}
use Rattle.corner_ends.specs.Trails.{HasRun, IsTrailOf}
use Rattle.corner_ends.proofs.Marks.{in_mark}
use Rattle.corner_ends.proofs.MarkOrders.{same_self}
use Rattle.dual_run.proofs.Moved.{lows_swapped}
use Rattle.dual_run.proofs.RunFacts.{none_settled, swap_more}
use Rattle.dual_run.proofs.runs.exchange_with.Goals as goal
use Rattle.corner_view.proofs.Facts.{mark_named}

pub returns-in_ok-push-in-Ok-clause-trail : goal.returns-in_ok-push-in-Ok-clause-trail
returns-in_ok-push-in-Ok-clause-trail g c = λ first trail.
    let s : Swap = record { enter = c.args.enter; leave = c.args.leave } in
    subst (λ (p : Problem). IsTrailOf true p first c.push.new.self c.swap_settled.new.self.marks) (sym c.in-Ok.ensures.problem)
    (c.in_ok-push-in-Ok.ensures.trail true c.args.c.now.problem first c.args.c.now.marks c.swap_settled.new.self.marks trail
    (swap_more c.args.c.now.problem first c.args.c.now.marks c.swap_settled.new.self.marks c.args.trail.now.swaps s trail.swapped c.requires.swap c.in-Ok.ensures.marks))

pub list_swapped-requires-clause-enter : goal.list_swapped-requires-clause-enter
list_swapped-requires-clause-enter g c = subst (λ (p : Problem). IsNamed p c.args.enter.row) (sym c.in-Ok.ensures.problem) (mark_named c.args.c.now.problem c.args.enter c.requires.outside.0)

pub list_swapped-requires-clause-leave : goal.list_swapped-requires-clause-leave
list_swapped-requires-clause-leave g c =
    subst (λ (p : Problem). IsNamed p c.args.leave.row) (sym c.in-Ok.ensures.problem)
    (mark_named c.args.c.now.problem c.args.leave (in_mark c.args.c.now.problem c.args.c.now.marks c.args.leave c.show_corner.ensures.kept c.requires.leave.inside))

pub returns-in_ok-push-in-Ok-clause-low : goal.returns-in_ok-push-in-Ok-clause-low
returns-in_ok-push-in-Ok-clause-low g c =
    lows_swapped c.args.c.now.problem c.swap_settled.new.self.problem c.args.c.now.marks c.swap_settled.new.self.marks (record { enter = c.args.enter; leave = c.args.leave }) c.args.low.now.items c.list_swapped.new.low.items
    c.show_corner.ensures.kept c.show_corner-in-Ok.ensures.kept c.in-Ok.ensures.problem c.in-Ok.ensures.marks c.requires.low c.requires.leave c.requires.outside c.in_ok-list_swapped-in-Ok.ensures

pub returns-in-Err-Refused-clause-stop : goal.returns-in-Err-Refused-clause-stop
returns-in-Err-Refused-clause-stop g c = λ first trail budget short.
    let s : Swap = record { enter = c.args.enter; leave = c.args.leave } in
    let next : List Mark = exchanged s c.args.c.now.marks in
    let same : c.swap_settled.new.self ≡ c.args.c.now = search rules in
    let told : IsTrailOf true c.args.c.now.problem first c.args.trail.now c.args.c.now.marks → HasRun true c.args.c.now.problem first (c.args.trail.now.swaps ++ s ∷ []) next → IsUnfitStop c.args.c.now.problem next (Refused c.in-Err-Refused.quantity) → (most : ℕ) → length c.args.trail.now.swaps < most → IsStopOf true c.args.c.now.problem c.args.c.now.problem.rows (FromHere first) most c.unfit.result =
    subst (λ (v : CornerView). IsTrailOf true v.problem first c.args.trail.now v.marks → HasRun true v.problem first (c.args.trail.now.swaps ++ s ∷ []) next → IsUnfitStop v.problem next (Refused c.in-Err-Refused.quantity) → (most : ℕ) → length c.args.trail.now.swaps < most → IsStopOf true v.problem v.problem.rows (FromHere first) most c.unfit.result) same (c.unfit.ensures.after true first next) in
    told trail
    (swap_more c.args.c.now.problem first c.args.c.now.marks next c.args.trail.now.swaps s trail.swapped c.requires.swap (same_self next))
    (search rules)
    budget short

pub returns-in_ok-push-in-Ok-clause-swap : goal.returns-in_ok-push-in-Ok-clause-swap
returns-in_ok-push-in-Ok-clause-swap g c = (c.args.enter, c.in_ok-push-in-Ok.ensures.swaps)

pub swap_settled-requires-clause-settled : goal.swap_settled-requires-clause-settled
swap_settled-requires-clause-settled g c =
    let s : Swap = record { enter = c.args.enter; leave = c.args.leave } in
    let next : List Mark = exchanged s c.args.c.now.marks in
    let (first, trail) = c.requires.trail in
    let run : HasRun true c.args.c.now.problem first (c.args.trail.now.swaps ++ s ∷ []) next = swap_more c.args.c.now.problem first c.args.c.now.marks next c.args.trail.now.swaps s trail.swapped c.requires.swap (same_self next) in
    none_settled c.args.c.now.problem first next (c.args.trail.now.swaps ++ s ∷ []) run
