-- What a draft with room comes to.
use Rattle.std.proofs.Common.{◌≡◌, ◌≢◌, ◌∙◌, ℕ, zero, suc, ◌+◌, ◌^◌, ◌≤◌, ◌++◌, Bool, false, List, [], ◌∷◌, length, take, pos, refl, sym, ap, subst, arith, inl, inr, ◌⊎◌}
use Rattle.frac_core.specs.Fraction.{Fraction, IsKept, IsUnfitRatio}
use Rattle.problem_core.specs.declared.parts.Mark.{Mark}
use Rattle.problem_core.specs.declared.parts.RowName.TheVariants.{Held}
use Rattle.problem_core.specs.Gaps.{value_of}
use Rattle.problem_core.specs.Layout.{HasStay, IsInConflict, Problem, Row}
use Rattle.problem_core.specs.Changes.Paths.{IsPath}
use Rattle.problem_core.proofs.Refutations.{refutation-IsInConflict}
use Rattle.problem_core.proofs.Wholes.{whole-IsProblem}
use Rattle.cert_core.specs.Claims.{times_of}
use Rattle.cert_core.specs.Paths.{Path}
use Rattle.cert_core.specs.Stops.{IsStopOf}
use Rattle.cert_core.specs.declared.stops.UnfitPath.{UnfitPath}
use Rattle.cert_core.specs.declared.stops.RunStop.{RunStop}
use Rattle.cert_core.specs.declared.stops.RunStop.TheVariants as run
use Rattle.corner_laws.specs.Laws.{IsConflict}
use Rattle.corner_laws.proofs.PathEnds.Complete.{stops_are_conflicts, unfit-none as unfit-there}
use Rattle.corner_laws.proofs.PathEnds.Few.{path_few}
use Rattle.layout_solver.specs.Begins.{FromStart}
use Rattle.layout_solver.specs.Layouts.{Layout}
use Rattle.layout_solver.specs.Removals.{FromRemoved, IsHeldPath, IsLeftStop, Leaving, without, without_rows}
use Rattle.layout_solver.specs.declared.request.RequestStop.{RequestStop}
use Rattle.layout_solver.specs.declared.request.RequestStop.TheVariants as request
use Rattle.corner_view.specs.AddStops.{FromAdded}
use Rattle.diagnosis.specs.Probes.{IsBeside, IsProbeStop, next_num, probe_row, with_probe}
use Rattle.diagnosis.specs.declared.probing.DiagnoseStop.TheVariants as probed
use Rattle.scenes.specs.Diagnosing.{IsLayoutOf, IsProbedStop}
use Rattle.scenes.specs.Leaving.{stood_of}
use Rattle.scenes.specs.Steps.{CannotLeave, IsLeaving, IsProblemOf, IsStopped}
use Rattle.session_undo.specs.Machine.{Conflicts, Diagnoses, Finds, LeavesFree, LeftSpends, Solves, SolvesFree, Spends, Stands, TellsStill}
use Rattle.session_undo.specs.Replies.{Done, Reply}
use Rattle.scenes.specs.Scene.{Becomes, Scene, draft_problem, problem_of}
use Rattle.session_undo.specs.State.{State}
use Rattle.session_laws.specs.Answered.Room.{FitsOnTheWay, HasRoom, HasRoomToLeave, HasRoomToProbe, IsLarge, IsProbed, probe_problem}
use Rattle.session_laws.specs.Answered.Laws.{IsAccepted, IsDecided, LargeBudgetsAreNeverSpent}

-- ---- budgets

three-four : (n : ℕ) → 3 ^ n ≤ 4 ^ n
three-four zero = omega arith
three-four (suc n) = let rest = three-four n in omega (arith, rest)

enough : (budget : ℕ) (p : Problem) → IsLarge budget p → 3 ^ (length p.rows + length p.stays) ≤ budget
enough budget p large = let less = three-four (length p.rows + length p.stays) in omega (arith, less, large.exchanges)

-- no path uses up a large budget
unspent : (dual : Bool) (p : Problem) (budget : ℕ) (path : Path) → IsLarge budget p → IsPath dual p path.corner path.swaps → length path.swaps ≡ budget → ⊥
unspent dual p budget path large lawful count =
    let few = path_few dual p path.corner path.swaps large.whole lawful in
    let most = enough budget p large in
    absurd (omega (arith, few, count, most))

-- ---- stops

-- a stop with room is a conflict, or want of memory
stops : (dual : Bool) (p : Problem) (before : List Row) (Begins : List Row → List Mark → Type 0) (budget : ℕ) (stop : RunStop) → HasRoom before budget p → IsStopOf dual p before Begins budget stop → IsConflict stop
stops dual p before Begins budget stop room h = stops_are_conflicts dual p before Begins budget stop room.large.whole room.fits (enough budget p room.large) h

-- ---- drafts

-- each problem of the draft has room
abbrev pub HasRoomFor : State → Scene → Type 0
HasRoomFor old draft = (p : Problem) → IsProblemOf draft p → HasRoom old.scene.rows old.budget p

-- the draft has a problem of which P holds
abbrev pub HasProblem : Scene → (Problem → Type 0) → Type 0
HasProblem draft P = (p : Problem) × IsProblemOf draft p × P p

becomes : (draft new : Scene) (reply : Reply) → Becomes draft new → reply ≡ Done → HasProblem draft (λ p. IsAccepted p reply)
becomes draft new reply is done =
    let best = is.best.best in
    (problem_of new, (is.rows, ap (λ (s : Scene). s.stays) is.same), ((best.0, best.1.0), done))

module _ (old : State) (draft : Scene) (reply : Reply) (new : State) where
  stopped : (stop : RunStop) → HasRoomFor old draft → IsStopped old.scene draft old.budget stop → IsConflict stop
  stopped stop room h =
      let p : Problem = draft_problem draft h.rows in
      let has : HasRoom old.scene.rows old.budget p = room p (h.are, refl) in
      stops h.start.dual p h.start.before (FromStart h.start.dual h.start.kept h.start.joining p) old.budget stop
      (subst (λ (rows : List Row). HasRoom rows old.budget p) (sym h.begins.before) has) h.stops

  conflicts : HasRoomFor old draft → Conflicts draft old reply new → HasProblem draft (λ p. IsDecided p reply)
  conflicts room h =
      let p : Problem = draft_problem draft h.rows in
      let has : HasRoom old.scene.rows old.budget p = room p (h.are, refl) in
      let none : IsInConflict p = refutation-IsInConflict p (whole-IsProblem p has.large.whole) (λ id. times_of h.by (Held id)) h.shown.refutes in
      (p, (h.are, refl), inr (none, (h.by, h.refused.0)))

  pub free : HasRoomFor old draft → SolvesFree old draft reply new → HasProblem draft (λ p. IsAccepted p reply)
  free room (inl h) = becomes draft new.scene reply h.solved.becomes h.done
  free room (inr (inl h)) = absurd (stopped (run.Unfit h.at) room h.stopped)
  free room (inr (inr h)) = absurd (stopped (run.Spent h.path) room h.stopped)

  pub decides : HasRoomFor old draft → Solves old draft reply new → HasProblem draft (λ p. IsDecided p reply)
  decides room (inl h) = conflicts room h
  decides room (inr h) = let is = free room h in (is.0, is.1, inl is.2)

  -- a draft that stands has its values, whatever the room
  pub stands : Stands old draft reply new → HasProblem draft (λ p. IsAccepted p reply)
  stands h =
      let best = h.best.best in
      (problem_of draft, (h.rows, refl), ((best.0, best.1.0), h.done))

  -- ---- removals

  -- each problem that the removal may leave has room over its own rows, also on the way
  abbrev pub HasLeavingRoom : Type 0
  HasLeavingRoom = (p : Problem) → IsProblemOf draft p → HasRoomToLeave old p

  left : (rows : List Row) (l : Leaving) (stop : RunStop) → HasRoomToLeave old (draft_problem draft rows) → IsLeaving old.scene draft rows l → IsLeftStop (stood_of old.scene) old.scene.corner l old.budget stop → IsConflict stop
  left rows l stop room leaves h =
      let q : Problem = without l (stood_of old.scene) in
      stops false q q.rows (FromRemoved (stood_of old.scene) old.scene.corner l.rows l.rows q) old.budget stop
      (subst (λ (p : Problem). HasRoom p.rows old.budget p) leaves.left room.0) h

  held : (rows : List Row) (l : Leaving) (still : List ℕ) (at : UnfitPath) → FitsOnTheWay old.scene (draft_problem draft rows) → IsLeaving old.scene draft rows l → still ≢ [] → IsHeldPath (stood_of old.scene) old.scene.corner l.rows still at → ⊥
  held rows l still at fits leaves some h =
      let q : Problem = without_rows h.gone (stood_of old.scene) in
      unfit-there false q q.rows (FromRemoved (stood_of old.scene) old.scene.corner (h.gone ++ take 1 still) h.gone q) at.path at.quantity
      (fits l leaves.can leaves.rising leaves.left h.gone still h.in_order some) h.stop.2

  cannot : (stop : RequestStop) → HasLeavingRoom → CannotLeave old.scene draft old.budget stop → TellsStill old stop reply new → ⊥
  cannot (request.Unfit still at) room h told =
      let roomy : HasRoomToLeave old (draft_problem draft h.rows) = room (draft_problem draft h.rows) (h.are, refl) in
      elim h.stops [
        | inl way ↦ held h.rows h.leaving still.items at roomy.1 h.leaves way.0 way.1
        | inr end ↦ left h.rows h.leaving (run.Unfit at) roomy h.leaves end.1
      ]
  cannot (request.Conflict by) room h told = told
  cannot (request.Spent path) room h told = told
  cannot request.OutOfMemory room h told = told

  pub leaves-free : HasLeavingRoom → LeavesFree old draft reply new → HasProblem draft (λ p. IsAccepted p reply)
  leaves-free room (inl h) = becomes draft new.scene reply h.left.becomes h.done
  leaves-free room (inr (inl h)) = absurd (cannot h.stop room h.stopped h.told)
  leaves-free room (inr (inr h)) =
      let s = h.stopped in
      absurd (left s.rows s.leaving (run.Spent h.path) (room (draft_problem draft s.rows) (s.are, refl)) s.leaves s.stops)

-- ---- probes

abbrev layout_at : Problem → List (ℕ × Fraction) → Layout
layout_at p values = record { problem = p; values = values; corner = []; earlier = [] }

-- a layout of the scene has its probes
same-probe : (scene : Scene) (l : Layout) (attr : ℕ) (f : Fraction) → IsLayoutOf scene l → with_probe l attr f ≡ probe_problem scene attr f
same-probe scene l attr f is =
    ap (λ (p : Problem). with_probe (layout_at p l.values) attr f) is.problem ∙ ap (λ (vs : List (ℕ × Fraction)). with_probe (layout_at (problem_of scene) vs) attr f) is.values

is-probed : (scene : Scene) (l : Layout) (attr : ℕ) (up : Bool) (f : Fraction) → IsLayoutOf scene l → HasStay l.problem.stays attr → IsBeside up (value_of l.values attr) f → IsKept f → IsProbed scene attr f
is-probed scene l attr up f is has beside kept = record {
  stays = subst (λ (p : Problem). HasStay p.stays attr) is.problem has;
  kept = kept;
  up = up;
  beside = subst (λ (vs : List (ℕ × Fraction)). IsBeside up (value_of vs attr) f) is.values beside;
}

probe-stops : (old : State) (l : Layout) (attr : ℕ) (up : Bool) (stop : RunStop) → HasRoomToProbe old → IsLayoutOf old.scene l → HasStay l.problem.stays attr → IsProbeStop l attr up old.budget stop → IsConflict stop
probe-stops old l attr up stop room is has (f, beside, kept, h) =
    let roomy : HasRoom old.scene.rows old.budget (probe_problem old.scene attr f) = room.rooms attr f (is-probed old.scene l attr up f is has beside kept) in
    let same : HasRoom l.problem.rows old.budget (with_probe l attr f) =
    subst (λ (p : Problem). HasRoom p.rows old.budget (with_probe l attr f)) (sym is.problem) (subst (HasRoom old.scene.rows old.budget) (sym (same-probe old.scene l attr f is)) roomy) in
    stops false (with_probe l attr f) l.problem.rows (FromAdded (with_probe l attr f) l.corner (probe_row l attr f ∷ [])) old.budget stop same h

probe-overflows : (old : State) (attr : ℕ) (up : Bool) (at : UnfitPath) → HasRoomToProbe old → IsProbedStop old.scene old.budget attr (probed.Unfit up at) → ⊥
probe-overflows old attr up at room (l, is, (has, (called, stop))) = probe-stops old l attr up (run.Unfit at) room is has stop

probe-spends : (old : State) (attr : ℕ) (up : Bool) (path : Path) → HasRoomToProbe old → IsProbedStop old.scene old.budget attr (probed.Spent up path) → ⊥
probe-spends old attr up path room (l, is, (has, (called, stop))) = probe-stops old l attr up (run.Spent path) room is has stop

lacks-target : (old : State) (attr : ℕ) (up : Bool) → HasRoomToProbe old → IsProbedStop old.scene old.budget attr (probed.Target up) → ⊥
lacks-target old attr up room (l, is, (has, (called, none))) =
    room.wishes attr up (subst (λ (p : Problem). HasStay p.stays attr) is.problem has)
    (subst (λ (vs : List (ℕ × Fraction)). IsUnfitRatio (next_num up (value_of vs attr)) (pos (value_of vs attr).den)) is.values none)

pub finds : (old : State) (reply : Reply) (new : State) → HasRoomToProbe old → Diagnoses old reply new → Finds old reply new
finds old reply new room (inl h) = h
finds old reply new room (inr (inl h)) = absurd (probe-overflows old h.attr h.up h.at room h.stopped)
finds old reply new room (inr (inr (inl h))) = absurd (probe-spends old h.attr h.up h.path room h.stopped)
finds old reply new room (inr (inr (inr h))) = absurd (lacks-target old h.attr h.up room h.stopped)

-- ---- large budgets

large-stopped : (old : State) (draft : Scene) (path : Path) → ((p : Problem) → IsProblemOf draft p → IsLarge old.budget p) → IsStopped old.scene draft old.budget (run.Spent path) → ⊥
large-stopped old draft path large h =
    unspent h.start.dual (draft_problem draft h.rows) old.budget path (large (draft_problem draft h.rows) (h.are, refl)) h.stops.1.lawful h.stops.1.count

large-left : (old : State) (draft : Scene) (path : Path) → ((p : Problem) → IsProblemOf draft p → IsLarge old.budget p) → CannotLeave old.scene draft old.budget (request.Spent path) → ⊥
large-left old draft path large h =
    unspent false (without h.leaving (stood_of old.scene)) old.budget path (subst (IsLarge old.budget) h.leaves.left (large (draft_problem draft h.rows) (h.are, refl))) h.stops.1.lawful h.stops.1.count

draft-unspent : (old : State) (draft : Scene) (reply : Reply) (new : State) → ((p : Problem) → IsProblemOf draft p → IsLarge old.budget p) → Spends draft old reply new ⊎ LeftSpends draft old reply new → ⊥
draft-unspent old draft reply new large (inl h) = large-stopped old draft h.path large h.stopped
draft-unspent old draft reply new large (inr h) = large-left old draft h.path large h.stopped

abbrev AreLarge : State → Type 0
AreLarge old = (attr : ℕ) (f : Fraction) → IsProbed old.scene attr f → IsLarge old.budget (probe_problem old.scene attr f)

probe-unspent : (old : State) (attr : ℕ) (up : Bool) (path : Path) → AreLarge old → IsProbedStop old.scene old.budget attr (probed.Spent up path) → ⊥
probe-unspent old attr up path large (l, is, (has, (called, (f, beside, kept, stop)))) =
    unspent false (with_probe l attr f) old.budget path
    (subst (IsLarge old.budget) (sym (same-probe old.scene l attr f is)) (large attr f (is-probed old.scene l attr up f is has beside kept))) stop.1.lawful stop.1.count

pub never-spent : LargeBudgetsAreNeverSpent
never-spent = record { drafts = draft-unspent; probes = λ old reply new large h. probe-unspent old h.attr h.up h.path large h.stopped }
