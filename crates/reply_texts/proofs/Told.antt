-- What holds of the reply that is told.
use Rattle.std.specs.declared.result.Result.{Result}
use Rattle.std.specs.declared.result.Result.TheVariants.{Ok, Err}
use Rattle.session_undo.specs.declared.reply.Refusal.{Refusal}
use Rattle.session_undo.specs.declared.reply.Refusal.TheVariants as refusal
use Rattle.session_undo.specs.declared.reply.Reply as answer
use Rattle.session_undo.specs.Replies.{Reply, Tells, IsTold, accepted, place_of, Outside, Unknown, Taken, Limit, Kind, Conflict, NoEarlier, Overflow, Spent, NoTarget, SweepOverflow}

told_as : (P Q : Reply → Type 0) (r : Refusal) → ((told : Reply) → P told → Q told) → IsTold P r → IsTold Q r
told_as P Q (refusal.Syntax at) to is = to (Outside at) is
told_as P Q (refusal.Unknown name) to is = to (Unknown name) is
told_as P Q (refusal.Taken name) to is = to (Taken name) is
told_as P Q (refusal.Limit word) to is = to (Limit word) is
told_as P Q (refusal.Kind word) to is = to (Kind word) is
told_as P Q (refusal.Conflict by) to is = to (Conflict by) is
told_as P Q refusal.NoEarlier to is = to NoEarlier is
told_as P Q (refusal.Overflow place at) to is = to (Overflow (place_of place) at.path at.quantity) is
told_as P Q (refusal.Spent place path) to is = to (Spent (place_of place) path) is
told_as P Q (refusal.NoTarget attr up) to is = to (NoTarget attr up) is
told_as P Q (refusal.SweepOverflow width path what) to is = to (SweepOverflow width path what) is
told_as P Q refusal.OutOfMemory to is = is

pub tells_as : (P Q : Reply → Type 0) (r : Result answer.Reply Refusal) → ((told : Reply) → P told → Q told) → Tells P r → Tells Q r
tells_as P Q (Ok reply) to is = to (accepted reply) is
tells_as P Q (Err refused) to is = told_as P Q refused to is
