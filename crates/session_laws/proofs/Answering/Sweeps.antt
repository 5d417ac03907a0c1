-- With room for it a sweep is answered.
use Rattle.std.proofs.Common.{◌≡◌, inl, inr}
use Rattle.scenes.specs.Sweeping.{problem_here}
use Rattle.sweep_param.specs.Laws as sweeps
use Rattle.sweep_run.specs.declared.stretches.SweepStop.TheVariants as stop
use Rattle.session_laws.specs.Answered.Laws.{SweepsAreAnswered}

-- where the sweep of a problem is
pub sweeps-answered : sweeps.SweepsAreAnswered → SweepsAreAnswered
sweeps-answered answered old from to reply new room (inl refused) = inl (inl refused)
sweeps-answered answered old from to reply new room (inr (a, inl refused)) = inl (inr (a, inl refused))
sweeps-answered answered old from to reply new room (inr (a, inr (b, inl told))) = inr told
sweeps-answered answered old from to reply new room (inr (a, inr (b, inr (inl over)))) =
    let (row, is, stopped) = over.stopped in
    absurd (let never : stop.Unfit over.width over.path over.what ≡ stop.OutOfMemory = answered (problem_here old.scene) row from to old.budget (stop.Unfit over.width over.path over.what) room.whole room.from_kept room.to_kept (room.rooms row is) stopped in cc)
sweeps-answered answered old from to reply new room (inr (a, inr (b, inr (inr spent)))) =
    let (row, is, stopped) = spent.stopped in
    absurd (let never : stop.Spent spent.width spent.path ≡ stop.OutOfMemory = answered (problem_here old.scene) row from to old.budget (stop.Spent spent.width spent.path) room.whole room.from_kept room.to_kept (room.rooms row is) stopped in cc)
