use Rattle.std.proofs.Common.{◌≡◌, ◌++◌, ◌+◌, ℕ, [], ◌∷◌, List, length, arith, sym, ap, subst, Option, None}
use Rattle.problem_core.specs.declared.parts.Side.{Side}
use Rattle.problem_core.specs.declared.parts.Stay.{Stay}
use Rattle.path_claims.specs.Ways.{AreFirstSides}
use Rattle.path_lines.specs.Tables.{line_count}
use Rattle.path_lines.proofs.Walking.FirstLines.{count_lines}
use Rattle.path_claims.proofs.Walking.WayBegins.{one_side_more, stay_none}
use Rattle.path_lines.proofs.Places.{any_stay}
use Rattle.path_claims.proofs.way.first_sides.Goals as goal

pub loop-preserved : goal.loop-preserved
loop-preserved c =
    let stays : length c.stays-end.result.now ≡ length c.args.p.now.stays = ap (λ (ss : List Stay). length ss) c.stays-end.ensures in
    let next : (length c.args.p.now.rows + c.loop.counter) + 1 ≡ length c.args.p.now.rows + (c.loop.counter + 1) = omega arith in
    subst (λ (zs : List (Option Side)). AreFirstSides c.args.p.now (length c.args.p.now.rows + (c.loop.counter + 1)) zs) (sym c.in_ok-push.ensures.items)
    (subst (λ (n : ℕ). AreFirstSides c.args.p.now n (c.loop.out.items ++ None ∷ [])) next
    (one_side_more c.args.p.now (length c.args.p.now.rows + c.loop.counter) c.loop.out.items None c.loop.invariant
    (λ side. stay_none c.args.p.now c.loop.counter any_stay side (omega (arith, stays, c.loop-test.true)))))

pub returns : goal.returns
returns c =
    let stays : length c.stays-end.result.now ≡ length c.args.p.now.stays = ap (λ (ss : List Stay). length ss) c.stays-end.ensures in
    let all : length c.args.p.now.rows + c.loop.counter ≡ line_count c.args.p.now = omega (arith, stays, c.loop-test.false, c.loop.auto.counter-end, count_lines c.args.p.now) in
    subst (λ (n : ℕ). AreFirstSides c.args.p.now n c.loop.out.items) all c.loop.invariant
