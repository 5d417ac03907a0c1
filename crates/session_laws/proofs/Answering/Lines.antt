-- What a line comes to, whatever its command.
use Rattle.std.proofs.Common.{◌≡◌, ap, arith, inl, inr, ◌⊎◌, true}
use Rattle.problem_core.specs.Layout.{Problem}
use Rattle.script_text.specs.Meaning.{Change, Plain, Said}
use Rattle.script_text.specs.Meaning as mean
use Rattle.scenes.specs.Scene.{Scene}
use Rattle.scenes.specs.Steps.{IsProblemOf}
use Rattle.session_undo.specs.Adding.{NoEnd}
use Rattle.session_undo.specs.Explaining.{SaidStep}
use Rattle.session_undo.specs.Machine.{ChangeStep, EndsAs, PlainStep, PosesChange, PosesDraft, Tried, kind_for}
use Rattle.session_undo.specs.Replies.{Done, Reply, is_accepted}
use Rattle.session_undo.specs.State.{State}
use Rattle.session_undo.proofs.Commands.Resolved.{comes}
use Rattle.session_laws.specs.Answered.Room.{HasRoomToStep}
use Rattle.session_laws.specs.Answered.Laws.{ComesTo, NeedsNoRoom, SaysNoRoom}
use Rattle.session_laws.proofs.Answering.Drafts.{decides, free, leaves-free, stands}

module _ (old : State) (reply : Reply) (new : State) (d : Scene) where
  -- each problem of the draft is the change's
  abbrev AreIts : Change → Type 0
  AreIts c = (p : Problem) → IsProblemOf d p → PosesChange old c p

  as-its : (c : Change) (P : Problem → Type 0) → AreIts c → (p : Problem) × IsProblemOf d p × P p → (p : Problem) × PosesChange old c p × P p
  as-its c P its (p, of, h) = (p, its p of, h)

  ended : (c : Change) → ((p : Problem) → PosesChange old c p → HasRoomToStep old c p) → EndsAs old (kind_for c) d reply new → AreIts c → (p : Problem) × PosesChange old c p × ComesTo c p reply
  ended (mean.Views views) room end its = as-its (mean.Views views) (λ p. ComesTo (mean.Views views) p reply) its (free old d reply new (λ p of. room p (its p of)) end)
  ended (mean.Update to) room end its = as-its (mean.Update to) (λ p. ComesTo (mean.Update to) p reply) its (decides old d reply new (λ p of. room p (its p of)) end)
  ended (mean.Leave gone) room end its = as-its (mean.Leave gone) (λ p. ComesTo (mean.Leave gone) p reply) its (leaves-free old d reply new (λ p of. room p (its p of)) end)
  ended (mean.Turn to) room end its = as-its (mean.Turn to) (λ p. ComesTo (mean.Turn to) p reply) its (stands old d reply new end)
  ended (mean.Keep name) room end its = as-its (mean.Keep name) (λ p. ComesTo (mean.Keep name) p reply) its (free old d reply new (λ p of. room p (its p of)) end)

pub changes-answered : (old : State) (c : Change) (reply : Reply) (new : State) → ((p : Problem) → PosesChange old c p → HasRoomToStep old c p) → ChangeStep old c reply new
    → Tried old c NoEnd reply new ⊎ ((p : Problem) × PosesChange old c p × ComesTo c p reply)
changes-answered old c reply new room h = elim (comes old Problem (EndsAs old (kind_for c)) PosesDraft reply Done new old c h) [
  | inl cause ↦ inl cause.2
  | inr draft ↦ inr (ended old reply new draft.0 c room draft.2 draft.3)
]

-- ---- what needs no room

plain-accepted : (old : State) (c : Plain) (reply : Reply) (new : State) → NeedsNoRoom old c → PlainStep old c reply new → is_accepted reply ≡ true
plain-accepted old mean.Undo reply new need (inl cause) = absurd (need cause.0)
plain-accepted old mean.Undo reply new need (inr (some, back)) = ap is_accepted back.done
plain-accepted old (mean.Budget exchanges) reply new need (inl (inl none, told, same)) = absurd (omega (arith, need.0, none))
plain-accepted old (mean.Budget exchanges) reply new need (inl (inr over, told, same)) = absurd (omega (arith, need.1, over))
plain-accepted old (mean.Budget exchanges) reply new need (inr (within, h)) = ap is_accepted h.0
plain-accepted old mean.Frames reply new need h = ap is_accepted h.0
plain-accepted old mean.Rows reply new need h = ap is_accepted h.0
plain-accepted old mean.Certify reply new need (levels, are, h) = ap is_accepted h.0
plain-accepted old (mean.Sweep from to) reply new need h = absurd need
plain-accepted old mean.Diagnose reply new need h = absurd need

pub others-accepted : (old : State) (said : Said) (reply : Reply) (new : State) → SaysNoRoom old said → SaidStep old said reply new → is_accepted reply ≡ true
others-accepted old mean.Nothing reply new need h = ap is_accepted h.0
others-accepted old (mean.Does (mean.Changes c)) reply new need h = absurd need
others-accepted old (mean.Does (mean.Other c)) reply new need h = plain-accepted old c reply new need h
others-accepted old (mean.Why c) reply new need h = absurd need
