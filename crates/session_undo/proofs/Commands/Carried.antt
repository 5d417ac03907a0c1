-- What comes of a draft comes of its change, and a cause stays one whatever the end.
use Rattle.std.proofs.Common.{true≢false, sym, subst, inl, inr}
use Rattle.problem_core.specs.Layout.{Problem}
use Rattle.script_text.specs.Meaning.{Change, Plain}
use Rattle.script_text.specs.Meaning as mean
use Rattle.scenes.specs.Drafts.{Kind, drafted, kind_of}
use Rattle.scenes.specs.Scene.{Scene}
use Rattle.scenes.specs.Steps.{IsProblemOf}
use Rattle.scenes.specs.declared.scene.draft.Draft.{Draft}
use Rattle.session_undo.specs.Adding.{NoAnswer, NoEnd}
use Rattle.session_undo.specs.Asking.{AsksFor, IsDraft}
use Rattle.session_undo.specs.Machine.{ChangeStep, EndsAs, PosesChange, PosesDraft, Tried, TriedPlain, kind_for}
use Rattle.session_undo.specs.Replies.{Done, Reply}
use Rattle.session_undo.specs.State.{State}
use Rattle.session_undo.proofs.Commands.Resolved.{comes}

-- ---- what no cause is against

carried : (old : State) (scene : Scene) (End : Scene → Reply → State → Type 0) (reply : Reply) (new : State) → End scene reply new → (c : Change) → Tried old c (AsksFor scene) Done old → Tried old c End reply new
carried old scene End reply new end c h = elim (comes old (Unit {0}) (AsksFor scene) (λ i. End) Done reply old new c h) [
  | inl cause ↦ absurd (true≢false (sym cause.0))
  | inr draft ↦ draft.3 tt (subst (λ (d : Scene). End d reply new) (sym draft.2) end)
]

-- ---- causes

pub caused : (old : State) (c : Change) (End : Scene → Reply → State → Type 0) (reply : Reply) (new : State) → Tried old c NoEnd reply new → Tried old c End reply new
caused old c End reply new h = elim (comes old (Unit {0}) NoEnd (λ i. End) reply reply new new c h) [
  | inl cause ↦ cause.3 tt
  | inr draft ↦ absurd draft.2
]

-- the same of another command
pub plain-caused : (old : State) (c : Plain) (Answer : Reply → State → Type 0) (reply : Reply) (new : State) → TriedPlain old c NoAnswer reply new → TriedPlain old c Answer reply new
plain-caused old mean.Undo Answer reply new (inl h) = inl h
plain-caused old mean.Undo Answer reply new (inr (a, never)) = absurd never
plain-caused old (mean.Budget exchanges) Answer reply new (inl h) = inl h
plain-caused old (mean.Budget exchanges) Answer reply new (inr (a, never)) = absurd never
plain-caused old mean.Frames Answer reply new h = absurd h
plain-caused old mean.Rows Answer reply new h = absurd h
plain-caused old mean.Diagnose Answer reply new h = absurd h
plain-caused old mean.Certify Answer reply new h = absurd h
plain-caused old (mean.Sweep from to) Answer reply new (inl h) = inl h
plain-caused old (mean.Sweep from to) Answer reply new (inr (a, inl h)) = inr (a, inl h)
plain-caused old (mean.Sweep from to) Answer reply new (inr (a, inr (b, never))) = absurd never

-- ---- what a draft comes to

-- a step to a draft is one of its change
pub drafted-step : (old : State) (c : Change) (d : Draft) (reply : Reply) (new : State) → IsDraft old c d → EndsAs old (kind_of d) (drafted old.scene d) reply new → ChangeStep old c reply new
drafted-step old c d reply new is end =
    carried old (drafted old.scene d) (EndsAs old (kind_for c)) reply new
    (subst (λ (k : Kind). EndsAs old k (drafted old.scene d) reply new) is.kind_is end) c is.asks

-- the problem of a draft is its change's
pub drafted-poses : (old : State) (c : Change) (d : Draft) (p : Problem) → IsDraft old c d → IsProblemOf (drafted old.scene d) p → PosesChange old c p
drafted-poses old c d p is of = carried old (drafted old.scene d) (PosesDraft p) Done old of c is.asks
