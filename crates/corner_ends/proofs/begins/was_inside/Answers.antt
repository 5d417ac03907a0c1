use Rattle.std.proofs.Common.{rules, ◌≡◌, ap, sym}
use Rattle.problem_core.specs.Corners.{place}
use Rattle.corner_ends.proofs.FirstMarks.{IsElsewhere, mark_entered, mark_left, mark_stays}
use Rattle.corner_ends.proofs.Marks.{one_mark}
use Rattle.corner_ends.proofs.begins.was_inside.Goals as goal
use Rattle.frac_core.proofs.Lists.{all-whole as all_done, all-more as all_more}

pub returns-then-eq : goal.returns-then-eq
returns-then-eq g c = λ first run.
    let same : c.swap-item.result.enter ≡ c.args.mark = search rules in
    mark_entered first c.args.c.now.marks c.args.swaps.now c.loop-swap.swap-index c.swap-item.result (place c.args.mark) run c.loop-swap.invariant c.loop-swap-test.true c.swap-item.is (ap place same)

pub returns-then-eq-2 : goal.returns-then-eq-2
returns-then-eq-2 g c = λ first run.
    let same : c.swap-item.result.leave ≡ c.args.mark = search rules in
    mark_left first c.args.c.now.marks c.args.swaps.now c.loop-swap.swap-index c.swap-item.result (place c.args.mark) run c.loop-swap.invariant c.loop-swap-test.true c.swap-item.is (ap place same)

pub loop-swap-preserved : goal.loop-swap-preserved
loop-swap-preserved g c =
    let enters : c.swap-item.result.enter ≡ c.args.mark → ⊥ = search rules in
    let leaves : c.swap-item.result.leave ≡ c.args.mark → ⊥ = search rules in
    all_more (IsElsewhere (place c.args.mark)) c.args.swaps.now c.loop-swap.swap-index c.swap-item.result c.loop-swap-test.true c.swap-item.is c.loop-swap.invariant
    ((λ e. enters (one_mark c.swap-item.result.enter c.args.mark (sym e))), (λ e. leaves (one_mark c.swap-item.result.leave c.args.mark (sym e))))

pub returns : goal.returns
returns g c = λ first run.
    mark_stays first c.args.c.now.marks c.args.swaps.now (place c.args.mark) c.is_inside.result run
    (all_done (IsElsewhere (place c.args.mark)) c.args.swaps.now c.loop-swap.swap-index c.loop-swap-test.false c.loop-swap.invariant) c.is_inside.ensures.0 c.is_inside.ensures.1
