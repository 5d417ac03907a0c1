use Rattle.std.proofs.Common.{◌≡◌, true, rules}
use Rattle.held_items.proofs.Constants.NearMoves.{moves-next}
use Rattle.held_items.proofs.item.moving.moves.Goals as goal

pub loop-constant-preserved : goal.loop-constant-preserved
loop-constant-preserved c =
    let near : c.in_ok-push_change.field-0 ≡ true = search rules in
    record {
      moves = moves-next c.args.rows.now c.args.constants.now c.loop-constant.constant-index c.constant-item.result c.loop-constant.to.items c.push_change.new.to.items c.loop-constant-test.true c.constant-item.is c.loop-constant.invariant.moves (c.in_ok-push_change.ensures.near near);
      kept = c.in_ok-push_change.ensures.kept c.loop-constant.invariant.kept;
    }
