-- One problem at most is posed by a command.
use Rattle.std.proofs.Common.{◌≡◌, ◌∙◌, ◌⊎◌, inl, inr, false, List, refl, sym, ap, ap₂, subst, true≢false}
use Rattle.problem_core.specs.declared.parts.Stay.{Stay}
use Rattle.problem_core.specs.Layout.{Problem, Row}
use Rattle.script_text.specs.Meaning.{Change, Plain}
use Rattle.script_text.specs.Meaning as mean
use Rattle.scenes.specs.Scene.{Scene}
use Rattle.scenes.specs.Steps.{IsProblemOf}
use Rattle.session_undo.specs.Machine.{Poses, PosesChange, PosesDraft}
use Rattle.session_undo.specs.Replies.{Done, Kind, Limit, NoEarlier, Reply, is_accepted}
use Rattle.compile_parts.specs.declared.stops.KindWord.TheVariants as kind
use Rattle.name_tables.specs.declared.stops.LimitWord.TheVariants as word
use Rattle.session_undo.specs.State.{State}
use Rattle.session_undo.proofs.Commands.Resolved.{Makes, comes}
use Rattle.session_laws.specs.Posed.Definite.{IsDefinite, IsDefiniteChange}
use Rattle.session_laws.specs.Posed.Laws.{OneProblemIsPosed}
use Rattle.session_laws.proofs.Posing.HeldRows.{one-rows}
use Rattle.session_laws.proofs.Posing.OneDraft.{draft-definite, one-draft}

-- a draft that is definite has one problem
one-problem : (draft : Scene) (p q : Problem) → IsDefinite draft → IsProblemOf draft p → IsProblemOf draft q → p ≡ q
one-problem draft p q definite is also =
    ap₂ (λ (rs : List Row) (ss : List Stay). (let r : Problem = record { rows = rs; stays = ss } in r))
    (one-rows draft.metrics draft.held p.rows q.rows definite.metrics definite.held is.0 also.0) (is.1 ∙ sym also.1)

-- if a change poses a problem, a draft has this problem
pub draft-of : (old : State) (c : Change) (p : Problem) → PosesChange old c p → (d : Scene) × Makes old c d × IsProblemOf d p
draft-of old c p posed = elim (comes old Problem (PosesDraft p) PosesDraft Done Done old old c posed) [
  | inl bad ↦ absurd (true≢false (sym bad.0))
  | inr x ↦ (x.0, x.1, x.2)
]

pub same-drafts : (old : State) (c : Change) (p q : Problem) → IsDefinite old.scene → IsDefiniteChange c → (d : Scene) × Makes old c d × IsProblemOf d p → (d : Scene) × Makes old c d × IsProblemOf d q → p ≡ q
same-drafts old c p q definite ok (d, made, is) (e, made2, also) =
    one-problem e p q (draft-definite old definite c e ok made2) (subst (λ (x : Scene). IsProblemOf x p) (one-draft old definite c d e ok made made2) is) also

pub one-change : (old : State) (c : Change) (p q : Problem) → IsDefinite old.scene → IsDefiniteChange c → PosesChange old c p → PosesChange old c q → p ≡ q
one-change old c p q definite ok posed also = same-drafts old c p q definite ok (draft-of old c p posed) (draft-of old c q also)

-- past a cause, the problem is the scene's
past : {Fact Same N A : Type 0} (refusal : Reply) → is_accepted refusal ≡ false → (Fact × (Done ≡ refusal) × Same) ⊎ (N × A) → A
past refusal bad (inl x) = absurd (true≢false (ap is_accepted x.1 ∙ bad))
past refusal bad (inr x) = x.1

one-plain : (old : State) (c : Plain) (p q : Problem) → Poses old (mean.Other c) p → Poses old (mean.Other c) q → p ≡ q
one-plain old mean.Undo p q is also = past NoEarlier refl is ∙ sym (past NoEarlier refl also)
one-plain old (mean.Budget exchanges) p q is also = past (Limit word.Budget) refl is ∙ sym (past (Limit word.Budget) refl also)
one-plain old mean.Frames p q is also = is ∙ sym also
one-plain old mean.Rows p q is also = is ∙ sym also
one-plain old mean.Diagnose p q is also = is ∙ sym also
one-plain old mean.Certify p q is also = is ∙ sym also
one-plain old (mean.Sweep from to) p q is also =
    past (Limit word.Constant) refl (past (Kind kind.Sweep) refl is) ∙ sym (past (Limit word.Constant) refl (past (Kind kind.Sweep) refl also))

pub one-posed : OneProblemIsPosed
one-posed old (mean.Changes c) p q definite ok is also = one-change old c p q definite ok is also
one-posed old (mean.Other c) p q definite ok is also = one-plain old c p q is also
