-- With room for each trial nothing stops the search for a core.
use Rattle.std.proofs.Common.{ℕ, ◌+◌, ◌^◌, ◌≤◌, false, List, [], length, refl, arith}
use Rattle.std.proofs.Math.Nat.{pow-le-pow_right}
use Rattle.problem_core.specs.Layout.{Problem}
use Rattle.problem_core.specs.Kept.{IsWhole}
use Rattle.cert_core.specs.declared.stops.RunStop.{RunStop}
use Rattle.cert_core.specs.declared.stops.RunStop.TheVariants as run
use Rattle.corner_view.specs.AddStops.{FromAdded}
use Rattle.corner_laws.specs.Laws.{IsConflict}
use Rattle.corner_laws.proofs.PathEnds.Complete.{stops_are_conflicts}
use Rattle.conflict_core.specs.Cores.{AreRequired, trial}
use Rattle.conflict_core.specs.Trials.{IsStopOfTrial}
use Rattle.conflict_core.specs.Laws.{CoresAreFound, HasRoom}
use Rattle.conflict_core.specs.declared.found.CoreStop.TheVariants.{Unfit, Spent, OutOfMemory}
use Rattle.conflict_core.proofs.TrialWhole.{trial_few, trial_whole}

enough : (p : Problem) (budget : ℕ) (ids : List ℕ) → HasRoom p budget → 3 ^ (length (trial p ids).rows + length (trial p ids).stays) ≤ budget
enough p budget ids room =
    let few = trial_few p ids in
    let less : length (trial p ids).rows + length (trial p ids).stays ≤ length p.rows + length p.stays = (let a = few.0 in let b = few.1 in omega (arith, a, b)) in
    let power : 3 ^ (length (trial p ids).rows + length (trial p ids).stays) ≤ 3 ^ (length p.rows + length p.stays) = pow-le-pow_right (omega arith) less in
    let most = room.exchanges in
    omega (arith, power, most)

no-stop : (p : Problem) (budget : ℕ) (ids : List ℕ) (stop : RunStop) → IsWhole p → HasRoom p budget → AreRequired p ids → IsStopOfTrial p ids budget stop → IsConflict stop
no-stop p budget ids stop whole room rows h =
    stops_are_conflicts false (trial p ids) [] (FromAdded (trial p ids) [] (trial p ids).rows) budget stop (trial_whole p ids whole) (room.fits ids rows) (enough p budget ids room) h

pub cores_are_found : CoresAreFound
cores_are_found p budget (Unfit held at) whole room (rows, h) = absurd (no-stop p budget held.items (run.Unfit at) whole room rows h)
cores_are_found p budget (Spent held path) whole room (rows, h) = absurd (no-stop p budget held.items (run.Spent path) whole room rows h)
cores_are_found p budget OutOfMemory whole room h = refl
