-- What the end of a scene's step comes to for the session, by the kind of its draft.
use Rattle.std.proofs.Common.{◌≡◌, ◌∙◌, ℕ, List, [], refl, sym, ap, subst, inl, inr}
use Rattle.std.specs.Prelude.{IfOk, IfErr, OnOk}
use Rattle.std.specs.declared.result.Result.{Result}
use Rattle.std.specs.declared.result.Result.TheVariants.{Ok, Err}
use Rattle.cert_core.specs.declared.stops.UnfitPath.{UnfitPath}
use Rattle.layout_solver.specs.declared.request.RequestStop.{RequestStop}
use Rattle.layout_solver.specs.declared.request.RequestStop.TheVariants as request
use Rattle.layout_solver.specs.Keeping.{NoConflict}
use Rattle.layout_solver.specs.Requests.{run_of, still_of}
use Rattle.scenes.specs.Drafts.{Any, Free, Kind, Left, Turned}
use Rattle.scenes.specs.Scene.{History, Scene}
use Rattle.scenes.specs.Steps.{ComesTo, LeaveStopsAt, RunStopsAt, StopsAs}
use Rattle.session_undo.specs.Adding.{IsAnswerOf, TellsStop}
use Rattle.session_undo.specs.Machine.{EndsAs, LeavesFree, Solves, SolvesFree, still_place}
use Rattle.session_undo.specs.Replies.{Done, MayRefuse, Overflow, Place, Reply, Step, accepted, place_of}
use Rattle.session_undo.specs.State.{State}
use Rattle.session_undo.specs.declared.reply.Refusal.{Refusal}
use Rattle.session_undo.specs.declared.reply.Reply as answer
use Rattle.session_undo.proofs.Commands.Steps.{IsKeptIn, after, kept-after, run-accepts, stands}

module _ (draft : Scene) (old : State) where
  -- ---- accepted

  accepts : (kind : Kind) (history : History) → ComesTo kind old.scene draft old.budget history.scene → IsKeptIn old history → EndsAs old kind draft Done (after old history)
  accepts Free history solved kept = run-accepts draft old history solved kept
  accepts Any history solved kept = inr (run-accepts draft old history solved kept)
  accepts Left history left kept = inl (record { done = refl; left = left; kept = kept-after old history kept })
  accepts Turned history turned kept = stands draft old history turned.same turned.rows turned.best kept

  pub step-accepted : (kind : Kind) (history : History) (end : Result (Unit {0}) RequestStop) (told : Result answer.Reply Refusal) → IsAnswerOf end told → IfOk end (λ done. ComesTo kind old.scene draft old.budget history.scene)
      → OnOk end (IsKeptIn old history) → IfOk told (λ reply. EndsAs old kind draft (accepted reply) (after old history))
  step-accepted kind history (Ok done) told is comes kept =
      subst (λ (t : Result answer.Reply Refusal). IfOk t (λ reply. EndsAs old kind draft (accepted reply) (after old history))) (sym is) (accepts kind history comes kept)
  step-accepted kind history (Err stop) told (refused, is, tells) comes kept =
      subst (λ (t : Result answer.Reply Refusal). IfOk t (λ reply. EndsAs old kind draft (accepted reply) (after old history))) (sym is) tt

  -- ---- refused

  -- an overflow with no row still held is one of the step
  told-at-step : (F : Reply → Type 0) (place : Place) (still : List ℕ) (at : UnfitPath) → still ≡ [] → place ≡ still_place still → F (Overflow Step at.path at.quantity) → F (Overflow place at.path at.quantity)
  told-at-step F place still at none is h = subst (λ (p : Place). F (Overflow p at.path at.quantity)) (sym (is ∙ ap still_place none)) h

  free-refuses : (stop : RequestStop) (told : Refusal) → TellsStop stop told → still_of stop ≡ [] → RunStopsAt old.scene draft old.budget (run_of stop) → NoConflict (run_of stop) → MayRefuse (λ reply. SolvesFree old draft reply old) told
  free-refuses (request.Conflict by) told is none stopped free = absurd free
  free-refuses (request.Unfit still at) told (place, place_is, is) none stopped free =
      subst (MayRefuse (λ reply. SolvesFree old draft reply old)) (sym is)
      (told-at-step (λ reply. SolvesFree old draft reply old) (place_of place) still.items at none place_is (inr (inl (record { at = at; stopped = stopped; refused = (refl, refl) }))))
  free-refuses (request.Spent path) told is none stopped free =
      subst (MayRefuse (λ reply. SolvesFree old draft reply old)) (sym is) (inr (inr (record { path = path; stopped = stopped; refused = (refl, refl) })))
  free-refuses request.OutOfMemory told is none stopped free = subst (MayRefuse (λ reply. SolvesFree old draft reply old)) (sym is) tt

  any-refuses : (stop : RequestStop) (told : Refusal) → TellsStop stop told → still_of stop ≡ [] → RunStopsAt old.scene draft old.budget (run_of stop) → MayRefuse (λ reply. Solves old draft reply old) told
  any-refuses (request.Conflict by) told is none stopped =
      subst (MayRefuse (λ reply. Solves old draft reply old)) (sym is) (inl (record { by = by; rows = stopped.rows; are = stopped.are; shown = stopped.stops; refused = (refl, refl) }))
  any-refuses (request.Unfit still at) told (place, place_is, is) none stopped =
      subst (MayRefuse (λ reply. Solves old draft reply old)) (sym is)
      (told-at-step (λ reply. Solves old draft reply old) (place_of place) still.items at none place_is (inr (inr (inl (record { at = at; stopped = stopped; refused = (refl, refl) })))))
  any-refuses (request.Spent path) told is none stopped =
      subst (MayRefuse (λ reply. Solves old draft reply old)) (sym is) (inr (inr (inr (record { path = path; stopped = stopped; refused = (refl, refl) }))))
  any-refuses request.OutOfMemory told is none stopped = subst (MayRefuse (λ reply. Solves old draft reply old)) (sym is) tt

  left-refuses : (stop : RequestStop) (told : Refusal) → TellsStop stop told → LeaveStopsAt old.scene draft old.budget stop → MayRefuse (λ reply. LeavesFree old draft reply old) told
  left-refuses (request.Conflict by) told is stopped = absurd stopped
  left-refuses (request.Unfit still at) told (place, place_is, is) stopped =
      subst (MayRefuse (λ reply. LeavesFree old draft reply old)) (sym is)
      (subst (λ (p : Place). LeavesFree old draft (Overflow p at.path at.quantity) old) (sym place_is)
      (inr (inl (record { stop = request.Unfit still at; stopped = stopped; told = (refl, refl) }))))
  left-refuses (request.Spent path) told is stopped =
      subst (MayRefuse (λ reply. LeavesFree old draft reply old)) (sym is) (inr (inr (record { path = path; stopped = stopped; refused = (refl, refl) })))
  left-refuses request.OutOfMemory told is stopped = subst (MayRefuse (λ reply. LeavesFree old draft reply old)) (sym is) tt

  turned-refuses : (stop : RequestStop) (told : Refusal) → TellsStop stop told → StopsAs Turned old.scene draft old.budget stop → MayRefuse (λ reply. EndsAs old Turned draft reply old) told
  turned-refuses stop told is stopped = subst (MayRefuse (λ reply. EndsAs old Turned draft reply old)) (sym (subst (λ (s : RequestStop). TellsStop s told) stopped is)) tt

  refuses-as : (kind : Kind) (stop : RequestStop) (told : Refusal) → TellsStop stop told → StopsAs kind old.scene draft old.budget stop → MayRefuse (λ reply. EndsAs old kind draft reply old) told
  refuses-as Free stop told is stops = free-refuses stop told is stops.0.none stops.0.stops stops.1
  refuses-as Any stop told is stops = any-refuses stop told is stops.none stops.stops
  refuses-as Left stop told is stops = left-refuses stop told is stops
  refuses-as Turned stop told is stops = turned-refuses stop told is stops

  pub step-refused : (kind : Kind) (end : Result (Unit {0}) RequestStop) (told : Result answer.Reply Refusal) → IsAnswerOf end told → IfErr end (StopsAs kind old.scene draft old.budget) → IfErr told (MayRefuse (λ reply. EndsAs old kind draft reply old))
  step-refused kind (Ok done) told is stops = subst (λ (t : Result answer.Reply Refusal). IfErr t (MayRefuse (λ reply. EndsAs old kind draft reply old))) (sym is) tt
  step-refused kind (Err stop) told (refused, is, tells) stops =
      subst (λ (t : Result answer.Reply Refusal). IfErr t (MayRefuse (λ reply. EndsAs old kind draft reply old))) (sym is) (refuses-as kind stop refused tells stops)
