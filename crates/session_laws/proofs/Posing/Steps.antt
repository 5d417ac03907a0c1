-- A session that is definite is so after each line.
use Rattle.std.proofs.Common.{◌≡◌, inl, inr, ◌∷◌, List, All, sym, subst}
use Rattle.std.proofs.lemmas.List.Elements.{All-cons, All-head, All-tail, All-take}
use Rattle.problem_core.specs.Layout.{Problem}
use Rattle.script_text.specs.Meaning.{Change, Plain}
use Rattle.script_text.specs.Meaning as mean
use Rattle.layout_solver.specs.declared.request.RequestStop.{RequestStop}
use Rattle.layout_solver.specs.declared.request.RequestStop.TheVariants as request
use Rattle.scenes.specs.Drafts.{Any, Free, Kind, Left, Turned}
use Rattle.scenes.specs.Scene.{Becomes, Scene, with_earlier}
use Rattle.session_undo.specs.Machine.{ChangeStep, Diagnoses, EndsAs, LeavesFree, PlainStep, PosesDraft, Solves, SolvesFree, Stands, TellsStill, kind_for}
use Rattle.session_undo.specs.Replies.{Done, Reply}
use Rattle.session_undo.proofs.Commands.Resolved.{comes}
use Rattle.session_undo.specs.State.{State}
use Rattle.session_laws.specs.Posed.Definite.{IsDefinite, IsDefiniteChange, IsDefiniteState}
use Rattle.session_laws.specs.Posed.Laws.{StepsStayDefinite}
use Rattle.session_laws.proofs.Posing.OneDraft.{draft-definite}

-- ---- scenes

-- rows, values and a corner make no difference
become-definite : (draft new : Scene) → Becomes draft new → IsDefinite draft → IsDefinite new
become-definite draft new becomes is =
    subst IsDefinite (sym becomes.same) (record { metrics = is.metrics; held = is.held; below = is.below; older = is.older })

module _ (old : State) (is : IsDefiniteState old) where
  -- the same of no change
  keep : (s : State) → s ≡ old → IsDefiniteState s
  keep s same = subst IsDefiniteState (sym same) is

  -- and of a scene more
  go-on : (s : State) (scene : Scene) → s ≡ record old { scene = scene; earlier = with_earlier old.limits.undo old.scene old.earlier } → IsDefinite scene → IsDefiniteState s
  go-on s scene same definite =
      subst IsDefiniteState (sym same)
      (record { scene = definite; earlier = All-take IsDefinite old.limits.undo (old.scene ∷ old.earlier) (All-cons IsDefinite old.scene old.earlier is.scene is.earlier) })

  solves-free : (d : Scene) (r : Reply) (s : State) → IsDefinite d → SolvesFree old d r s → IsDefiniteState s
  solves-free d r s definite (inl h) = go-on s s.scene h.kept (become-definite d s.scene h.solved.becomes definite)
  solves-free d r s definite (inr (inl h)) = keep s h.refused.1
  solves-free d r s definite (inr (inr h)) = keep s h.refused.1

  solves : (d : Scene) (r : Reply) (s : State) → IsDefinite d → Solves old d r s → IsDefiniteState s
  solves d r s definite (inl h) = keep s h.refused.1
  solves d r s definite (inr h) = solves-free d r s definite h

  still : (stop : RequestStop) (r : Reply) (s : State) → TellsStill old stop r s → IsDefiniteState s
  still (request.Unfit rows at) r s told = keep s told.1
  still (request.Conflict by) r s told = absurd told
  still (request.Spent path) r s told = absurd told
  still request.OutOfMemory r s told = absurd told

  leaves : (d : Scene) (r : Reply) (s : State) → IsDefinite d → LeavesFree old d r s → IsDefiniteState s
  leaves d r s definite (inl h) = go-on s s.scene h.kept (become-definite d s.scene h.left.becomes definite)
  leaves d r s definite (inr (inl h)) = still h.stop r s h.told
  leaves d r s definite (inr (inr h)) = keep s h.refused.1

  stands : (d : Scene) (r : Reply) (s : State) → IsDefinite d → Stands old d r s → IsDefiniteState s
  stands d r s definite h = go-on s d h.kept definite

  found : (r : Reply) (s : State) → Diagnoses old r s → IsDefiniteState s
  found r s (inl h) = keep s h.told.1
  found r s (inr (inl h)) = keep s h.refused.1
  found r s (inr (inr (inl h))) = keep s h.refused.1
  found r s (inr (inr (inr h))) = keep s h.refused.1

  ends : (kind : Kind) (d : Scene) (r : Reply) (s : State) → IsDefinite d → EndsAs old kind d r s → IsDefiniteState s
  ends Free d r s definite h = solves-free d r s definite h
  ends Any d r s definite h = solves d r s definite h
  ends Left d r s definite h = leaves d r s definite h
  ends Turned d r s definite h = stands d r s definite h

  -- ---- lines

  changed : (c : Change) (r : Reply) (s : State) → IsDefiniteChange c → ChangeStep old c r s → IsDefiniteState s
  changed c r s ok h = elim (comes old Problem (EndsAs old (kind_for c)) PosesDraft r Done s old c h) [
    | inl cause ↦ keep s cause.1
    | inr draft ↦ ends (kind_for c) draft.0 r s (draft-definite old is.scene c draft.0 ok draft.1) draft.2
  ]

  -- the latest of those before it
  undone : (scene : Scene) (earlier : List Scene) (s : State) → old.earlier ≡ scene ∷ earlier → s ≡ record old { scene = scene; earlier = earlier } → IsDefiniteState s
  undone scene earlier s before same =
      let all : All IsDefinite (scene ∷ earlier) = subst (All IsDefinite) before is.earlier in
      subst IsDefiniteState (sym same) (record { scene = All-head IsDefinite scene earlier all; earlier = All-tail IsDefinite scene earlier all })

  stay : (c : Plain) (r : Reply) (s : State) → PlainStep old c r s → IsDefiniteState s
  stay mean.Undo r s (inl h) = keep s h.2
  stay mean.Undo r s (inr (some, h)) = undone h.scene h.earlier s h.latest h.back
  stay (mean.Budget exchanges) r s (inl h) = keep s h.2
  stay (mean.Budget exchanges) r s (inr h) = subst IsDefiniteState (sym h.1.1) (record { scene = is.scene; earlier = is.earlier })
  stay mean.Frames r s h = keep s h.1
  stay mean.Rows r s h = keep s h.1
  stay mean.Diagnose r s h = found r s h
  stay mean.Certify r s h = keep s h.2.1
  stay (mean.Sweep from to) r s (inl h) = keep s h.2
  stay (mean.Sweep from to) r s (inr (a, inl h)) = keep s h.2
  stay (mean.Sweep from to) r s (inr (a, inr (b, inl h))) = keep s h.told.1
  stay (mean.Sweep from to) r s (inr (a, inr (b, inr (inl h)))) = keep s h.refused.1
  stay (mean.Sweep from to) r s (inr (a, inr (b, inr (inr h)))) = keep s h.refused.1

pub stay-definite : StepsStayDefinite
stay-definite old (mean.Changes c) reply new is ok h = changed old is c reply new ok h
stay-definite old (mean.Other c) reply new is ok h = stay old is c reply new h
