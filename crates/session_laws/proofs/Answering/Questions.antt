-- With room for each trial, why a command would clash is told.
use Rattle.std.proofs.Common.{◌≡◌, inl, inr}
use Rattle.problem_core.specs.Layout.{Problem}
use Rattle.conflict_core.specs.declared.found.CoreStop.TheVariants.{OutOfMemory, Spent, Unfit}
use Rattle.conflict_core.proofs.CoreStops.{cores_are_found}
use Rattle.session_undo.specs.Explaining.{Explains}
use Rattle.session_undo.specs.Replies.{Reply}
use Rattle.session_undo.specs.State.{State}
use Rattle.session_laws.specs.Answered.Laws.{IsExplained, QuestionsAreAnswered}
use Rattle.session_laws.specs.Answered.Room.{HasRoomToExplain}

explained : (old : State) (p : Problem) (reply : Reply) (new : State) → HasRoomToExplain old.budget p → Explains old p reply new → (new ≡ old) × IsExplained p reply
explained old p reply new room (inl none) = (none.told.1, inl ((none.solution, none.satisfies), none.told.0))
explained old p reply new room (inr (inl core)) =
    (core.told.1, inr (core.ids, core.by, core.values, core.core, core.told.0))
explained old p reply new room (inr (inr (inl over))) =
    absurd (let never : Unfit over.held over.at ≡ OutOfMemory = cores_are_found p old.budget (Unfit over.held over.at) room.whole room.trials over.stopped in cc)
explained old p reply new room (inr (inr (inr spent))) =
    absurd (let never : Spent spent.held spent.path ≡ OutOfMemory = cores_are_found p old.budget (Spent spent.held spent.path) room.whole room.trials spent.stopped in cc)

pub questions-answered : QuestionsAreAnswered
questions-answered old m reply new room (inl refused) = inl refused
questions-answered old m reply new room (inr (p, poses, explains)) =
    let is = explained old p reply new (room p poses) explains in
    inr (is.0, (p, poses, is.1))
