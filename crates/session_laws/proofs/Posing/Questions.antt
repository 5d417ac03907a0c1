-- The answer to `why` foretells the reply to the change itself.
use Rattle.std.proofs.Common.{◌≡◌, ◌∙◌, inl, inr, ℕ, Bool, true, false, List, [], refl, sym, ap, subst, true≢false}
use Rattle.frac_core.specs.Fraction.{Fraction}
use Rattle.problem_core.specs.declared.parts.RowName.TheVariants.{Held}
use Rattle.problem_core.specs.Kept.{IsWhole}
use Rattle.problem_core.specs.Layout.{Assignment, IsInConflict, Problem, Satisfies}
use Rattle.problem_core.proofs.Refutations.{refutation-IsInConflict}
use Rattle.problem_core.proofs.Wholes.{whole-IsProblem}
use Rattle.cert_core.specs.declared.by.By.{By}
use Rattle.cert_core.specs.Claims.{times_of}
use Rattle.cert_core.specs.Stops.{IsShownConflict}
use Rattle.layout_solver.specs.Layouts.{AreBest}
use Rattle.layout_solver.specs.declared.request.RequestStop.{RequestStop}
use Rattle.layout_solver.specs.declared.request.RequestStop.TheVariants as request
use Rattle.scenes.specs.Drafts.{Any, Free, Kind, Left, Turned}
use Rattle.conflict_core.specs.Cores.{IsCore}
use Rattle.conflict_core.proofs.CoreLaws.{core_is_conflict}
use Rattle.script_text.specs.Meaning.{Change}
use Rattle.scenes.specs.Scene.{Becomes, Scene, draft_problem, problem_of}
use Rattle.scenes.specs.Steps.{IsProblemOf}
use Rattle.session_undo.specs.Adding.{NoEnd}
use Rattle.session_undo.specs.Explaining.{WhyStep}
use Rattle.session_undo.specs.Machine.{ChangeStep, EndsAs, LeavesFree, PosesChange, PosesDraft, Solves, SolvesFree, Stands, TellsStill, Tried, kind_for, still_place}
use Rattle.session_undo.specs.Replies.{Conflict, Core, Done, Held as Trial, Overflow, Reply, Solvable, Spent, Step}
use Rattle.session_undo.specs.State.{State}
use Rattle.session_laws.specs.Posed.Definite.{IsDefinite, IsDefiniteChange}
use Rattle.session_laws.specs.Posed.Questions.{CoreIsNotAccepted, CoresArePosed, SolvableIsNotRefused}
use Rattle.session_undo.proofs.Commands.Resolved.{Makes, comes, is_cause}
use Rattle.session_laws.proofs.Posing.Posed.{draft-of, same-drafts}

-- ---- replies

-- the reply reports a conflict
abbrev is_conflict : Reply → Bool
is_conflict (Conflict by) = true
is_conflict _ = false

-- a change was made
abbrev is_done : Reply → Bool
is_done Done = true
is_done _ = false

-- the reply says that there is no conflict
abbrev is_solvable : Reply → Bool
is_solvable Solvable = true
is_solvable _ = false

-- the reply shows a core
abbrev is_core : Reply → Bool
is_core (Core ids by values) = true
is_core _ = false

differ : (test : Reply → Bool) (a b : Reply) → test a ≡ true → test b ≡ false → a ≡ b → ⊥
differ test a b holds fails same = true≢false (sym holds ∙ (ap test same ∙ fails))

-- ---- causes

-- if there is a cause against a change, the reply is its refusal
cause-told : (old : State) (c : Change) (r : Reply) (s : State) → Tried old c NoEnd r s → is_cause r ≡ true
cause-told old c r s h = elim (comes old Problem NoEnd PosesDraft r r s s c h) [
  | inl refused ↦ refused.0
  | inr draft ↦ absurd draft.2
]

-- ---- the reply about the posed problem

abbrev HasSolution : Problem → Type 0
HasSolution p = (x : Assignment) × Satisfies p x

-- if the reply says that there is no conflict, the change's problem has a solution
pub solvable-posed : (old : State) (m : Change) (new : State) → WhyStep old m Solvable new → (p : Problem) × PosesChange old m p × IsWhole p × HasSolution p
solvable-posed old m new (inl cause) = absurd (true≢false (sym (cause-told old m Solvable new cause)))
solvable-posed old m new (inr (p, poses, inl none)) = (p, poses, none.whole, (none.solution, none.satisfies))
solvable-posed old m new (inr (p, poses, inr (inl core))) = absurd (differ is_solvable Solvable (Core core.ids core.by core.values) refl refl core.told.0)
solvable-posed old m new (inr (p, poses, inr (inr (inl over)))) = absurd (differ is_solvable Solvable (Overflow (Trial over.held.items) over.at.path over.at.quantity) refl refl over.refused.0)
solvable-posed old m new (inr (p, poses, inr (inr (inr spent)))) = absurd (differ is_solvable Solvable (Spent (Trial spent.held.items) spent.path) refl refl spent.refused.0)

-- the rows of a core in the reply
abbrev core_ids : Reply → List ℕ
core_ids (Core ids by values) = ids
core_ids _ = []

pub cores-posed : CoresArePosed
cores-posed old m ids by values new (inl cause) = absurd (true≢false (sym (cause-told old m (Core ids by values) new cause)))
cores-posed old m ids by values new (inr (p, poses, inl none)) = absurd (differ is_core (Core ids by values) Solvable refl refl none.told.0)
cores-posed old m ids by values new (inr (p, poses, inr (inl core))) =
    (p, poses, subst (IsCore p) (sym (ap core_ids core.told.0)) core.core)
cores-posed old m ids by values new (inr (p, poses, inr (inr (inl over)))) = absurd (differ is_core (Core ids by values) (Overflow (Trial over.held.items) over.at.path over.at.quantity) refl refl over.refused.0)
cores-posed old m ids by values new (inr (p, poses, inr (inr (inr spent)))) = absurd (differ is_core (Core ids by values) (Spent (Trial spent.held.items) spent.path) refl refl spent.refused.0)

-- ---- how a draft ends

-- the problem of the draft is shown to be in conflict
abbrev IsClash : Scene → Type 0
IsClash d = (q : Problem) × IsProblemOf d q × ((by : List By) × IsShownConflict q by)

-- it has a solution
abbrev IsSolved : Scene → Type 0
IsSolved d = (q : Problem) × IsProblemOf d q × HasSolution q

module _ (old : State) (by : List By) (after : State) (d : Scene) where
  free-clash : SolvesFree old d (Conflict by) after → IsClash d
  free-clash (inl a) = absurd (differ is_conflict (Conflict by) Done refl refl a.done)
  free-clash (inr (inl o)) = absurd (differ is_conflict (Conflict by) (Overflow Step o.at.path o.at.quantity) refl refl o.refused.0)
  free-clash (inr (inr s)) = absurd (differ is_conflict (Conflict by) (Spent Step s.path) refl refl s.refused.0)

  solves-clash : Solves old d (Conflict by) after → IsClash d
  solves-clash (inl c) = (draft_problem d c.rows, (c.are, refl), (c.by, c.shown))
  solves-clash (inr free) = free-clash free

  still-clash : (stop : RequestStop) → TellsStill old stop (Conflict by) after → IsClash d
  still-clash (request.Unfit still at) is = absurd (differ is_conflict (Conflict by) (Overflow (still_place still.items) at.path at.quantity) refl refl is.0)
  still-clash (request.Conflict c) is = absurd is
  still-clash (request.Spent path) is = absurd is
  still-clash request.OutOfMemory is = absurd is

  leaves-clash : LeavesFree old d (Conflict by) after → IsClash d
  leaves-clash (inl l) = absurd (differ is_conflict (Conflict by) Done refl refl l.done)
  leaves-clash (inr (inl o)) = still-clash o.stop o.told
  leaves-clash (inr (inr s)) = absurd (differ is_conflict (Conflict by) (Spent Step s.path) refl refl s.refused.0)

  stands-clash : Stands old d (Conflict by) after → IsClash d
  stands-clash s = absurd (differ is_conflict (Conflict by) Done refl refl s.done)

  ends-clash : (kind : Kind) → EndsAs old kind d (Conflict by) after → IsClash d
  ends-clash Free e = free-clash e
  ends-clash Any e = solves-clash e
  ends-clash Left e = leaves-clash e
  ends-clash Turned e = stands-clash e

-- best values satisfy the required rows
best-solves : (p : Problem) (values : List (ℕ × Fraction)) → AreBest p values → HasSolution p
best-solves p values are = let (x, best, gives) = are.best in (x, best.0)

become-solved : (d new : Scene) → Becomes d new → IsSolved d
become-solved d new becomes =
    (problem_of new, (becomes.rows, ap (λ (s : Scene). s.stays) becomes.same), best-solves (problem_of new) new.values becomes.best)

module _ (old after : State) (d : Scene) where
  free-solved : SolvesFree old d Done after → IsSolved d
  free-solved (inl a) = become-solved d after.scene a.solved.becomes
  free-solved (inr (inl o)) = absurd (differ is_done Done (Overflow Step o.at.path o.at.quantity) refl refl o.refused.0)
  free-solved (inr (inr s)) = absurd (differ is_done Done (Spent Step s.path) refl refl s.refused.0)

  solves-solved : Solves old d Done after → IsSolved d
  solves-solved (inl c) = absurd (differ is_done Done (Conflict c.by) refl refl c.refused.0)
  solves-solved (inr free) = free-solved free

  still-solved : (stop : RequestStop) → TellsStill old stop Done after → IsSolved d
  still-solved (request.Unfit still at) is = absurd (differ is_done Done (Overflow (still_place still.items) at.path at.quantity) refl refl is.0)
  still-solved (request.Conflict c) is = absurd is
  still-solved (request.Spent path) is = absurd is
  still-solved request.OutOfMemory is = absurd is

  leaves-solved : LeavesFree old d Done after → IsSolved d
  leaves-solved (inl l) = become-solved d after.scene l.left.becomes
  leaves-solved (inr (inl o)) = still-solved o.stop o.told
  leaves-solved (inr (inr s)) = absurd (differ is_done Done (Spent Step s.path) refl refl s.refused.0)

  stands-solved : Stands old d Done after → IsSolved d
  stands-solved s = (problem_of d, (s.rows, refl), best-solves (problem_of d) d.values s.best)

  ends-solved : (kind : Kind) → EndsAs old kind d Done after → IsSolved d
  ends-solved Free e = free-solved e
  ends-solved Any e = solves-solved e
  ends-solved Left e = leaves-solved e
  ends-solved Turned e = stands-solved e

-- ---- the same problem

-- the draft's problem is the one that is posed
module _ (old : State) (c : Change) (p : Problem) (definite : IsDefinite old.scene) (ok : IsDefiniteChange c) (poses : PosesChange old c p) where
  as-posed : (d : Scene) (q : Problem) → Makes old c d → IsProblemOf d q → q ≡ p
  as-posed d q made of = same-drafts old c q p definite ok (d, made, of) (draft-of old c p poses)

  -- it has a solution, so no reply reports a conflict of it
  not-refused : (by : List By) (after : State) → IsWhole p → HasSolution p → ChangeStep old c (Conflict by) after → ⊥
  not-refused by after whole (x, sat) step = elim (comes old Problem (EndsAs old (kind_for c)) PosesDraft (Conflict by) Done after old c step) [
    | inl refused ↦ true≢false (sym refused.0)
    | inr draft ↦ (
        let clash = ends-clash old by after draft.0 (kind_for c) draft.2 in
        let shown : IsShownConflict p clash.2.0 = subst (λ (q : Problem). IsShownConflict q clash.2.0) (as-posed draft.0 clash.0 draft.1 clash.1) clash.2.1 in
        refutation-IsInConflict p (whole-IsProblem p whole) (λ id. times_of clash.2.0 (Held id)) shown.refutes x sat)
  ]

  -- it is in conflict, so no change is made
  not-accepted : (after : State) → IsInConflict p → ChangeStep old c Done after → ⊥
  not-accepted after none step = elim (comes old Problem (EndsAs old (kind_for c)) PosesDraft Done Done after old c step) [
    | inl refused ↦ true≢false (sym refused.0)
    | inr draft ↦ (
        let solved = ends-solved old after draft.0 (kind_for c) draft.2 in
        let (x, sat) = subst HasSolution (as-posed draft.0 solved.0 draft.1 solved.1) solved.2 in
        none x sat)
  ]

pub solvable-not-refused : SolvableIsNotRefused
solvable-not-refused old c told after by definite ok why step =
    let (p, poses, whole, solution) = solvable-posed old c told why in
    not-refused old c p definite ok poses by after whole solution step

pub core-not-accepted : CoreIsNotAccepted
core-not-accepted old c ids by values told after definite ok why step =
    let (p, poses, core) = cores-posed old c ids by values told why in
    not-accepted old c p definite ok poses after (core_is_conflict p ids core) step
