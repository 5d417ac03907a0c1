use Rattle.std.proofs.Common.{◌≡◌, ◌++◌, ◌+◌, ℕ, [], ◌∷◌, List, length, arith, sym, ap, subst, Option, None}
use Rattle.problem_core.specs.declared.parts.Stay.{Stay}
use Rattle.path_lines.specs.declared.table.Inside.{Inside}
use Rattle.path_lines.specs.Walking.FirstLines.{AreFirstLines}
use Rattle.path_lines.specs.Route.{over_marks}
use Rattle.path_lines.specs.Tables.{line_count}
use Rattle.path_lines.proofs.Walking.FirstLines.{count_lines, first_are_lines, lines_sized, one_line_more, outside_line}
use Rattle.path_lines.proofs.first.with_stays.Goals as goal

all_made : (c : goal.After-loop) → AreFirstLines c.args.p.now (line_count c.args.p.now) c.loop.out.items
all_made c =
    let stays : length c.stays-end.result.now ≡ length c.args.p.now.stays = ap (λ (ss : List Stay). length ss) c.stays-end.ensures in
    let all : length c.args.p.now.rows + c.loop.counter ≡ line_count c.args.p.now = omega (arith, stays, c.loop-test.false, c.loop.auto.counter-end, count_lines c.args.p.now) in
    subst (λ (n : ℕ). AreFirstLines c.args.p.now n c.loop.out.items) all c.loop.invariant

pub loop-preserved : goal.loop-preserved
loop-preserved c =
    let stays : length c.stays-end.result.now ≡ length c.args.p.now.stays = ap (λ (ss : List Stay). length ss) c.stays-end.ensures in
    let next : (length c.args.p.now.rows + c.loop.counter) + 1 ≡ length c.args.p.now.rows + (c.loop.counter + 1) = omega arith in
    subst (λ (zs : List (Option Inside)). AreFirstLines c.args.p.now (length c.args.p.now.rows + (c.loop.counter + 1)) zs) (sym c.in_ok-push.ensures.items)
    (subst (λ (n : ℕ). AreFirstLines c.args.p.now n (c.loop.out.items ++ None ∷ [])) next
    (one_line_more c.args.p.now (length c.args.p.now.rows + c.loop.counter) c.loop.out.items None c.loop.invariant
    (outside_line c.args.p.now (length c.args.p.now.rows + c.loop.counter) c.loop.counter (omega arith) (omega (arith, stays, c.loop-test.true)))))

pub returns-clause-sized : goal.returns-clause-sized
returns-clause-sized c = lines_sized c.args.p.now (over_marks c.args.p.now) c.loop.out.items (first_are_lines c.args.p.now c.loop.out.items (all_made c))

pub returns-clause-lines : goal.returns-clause-lines
returns-clause-lines c = first_are_lines c.args.p.now c.loop.out.items (all_made c)

pub returns-clause-count : goal.returns-clause-count
returns-clause-count c = (first_are_lines c.args.p.now c.loop.out.items (all_made c)).count
