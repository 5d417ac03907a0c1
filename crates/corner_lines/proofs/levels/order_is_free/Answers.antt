use Rattle.corner_lines.proofs.LevelRows.LevelOrders.{order_is_free}
use Rattle.corner_lines.proofs.levels.order_is_free.Goals as goal

pub returns : goal.returns
returns c = order_is_free
