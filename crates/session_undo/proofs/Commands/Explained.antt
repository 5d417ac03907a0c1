-- What a trial's end is told as.
use Rattle.std.proofs.Common.{inl, inr, refl}
use Rattle.problem_core.specs.Kept.{IsWhole}
use Rattle.problem_core.specs.Layout.{Problem}
use Rattle.conflict_core.specs.Shown.{IsFound}
use Rattle.conflict_core.specs.Trials.{IsCoreStop}
use Rattle.conflict_core.specs.declared.found.Found.{Found}
use Rattle.conflict_core.specs.declared.found.Found.TheVariants.{Core, Solvable}
use Rattle.conflict_core.specs.declared.found.CoreStop.{CoreStop}
use Rattle.conflict_core.specs.declared.found.CoreStop.TheVariants as trial
use Rattle.conflict_core.proofs.CoreLaws.{shown_is_core}
use Rattle.session_undo.specs.Explained.{core_refusal}
use Rattle.scenes.specs.Scene.{Scene}
use Rattle.scenes.specs.Steps.{IsProblemOf}
use Rattle.session_undo.specs.Explaining.{Explains, ExplainsDraft}
use Rattle.session_undo.specs.Replies.{MayRefuse, Reply, found_reply}
use Rattle.session_undo.proofs.Commands.Steps.{refuses}
use Rattle.session_undo.specs.State.{State}

module _ (old : State) (p : Problem) where
  -- what is found explains the problem
  pub found-explains : IsWhole p → (f : Found) → IsFound p f → Explains old p (found_reply f) old
  found-explains whole Solvable (x, sat) = inl (record { whole = whole; solution = x; satisfies = sat; told = (refl, refl) })
  found-explains whole (Core rows by values) shown = inr (inl (record {
    ids = rows.items;
    by = by;
    values = values.items;
    core = shown_is_core p rows.items by values.items whole shown;
    shown = shown;
    told = (refl, refl);
  }))

  -- so does why a trial stops
  pub stop-explains : (s : CoreStop) → IsCoreStop p old.budget s → MayRefuse (λ reply. Explains old p reply old) (core_refusal s)
  stop-explains (trial.Unfit held at) stopped = inr (inr (inl (record { held = held; at = at; stopped = stopped; refused = (refl, refl) })))
  stop-explains (trial.Spent held path) stopped = inr (inr (inr (record { held = held; path = path; stopped = stopped; refused = (refl, refl) })))
  stop-explains trial.OutOfMemory stopped = tt

-- the same of the problem of a draft
pub draft-stop-explains : (old : State) (draft : Scene) (p : Problem) → IsProblemOf draft p → (s : CoreStop) → IsCoreStop p old.budget s → MayRefuse (λ reply. ExplainsDraft old draft reply old) (core_refusal s)
draft-stop-explains old draft p of s stopped =
    refuses (λ (reply : Reply). Explains old p reply old) (λ (reply : Reply). ExplainsDraft old draft reply old) (core_refusal s) (λ reply explains. (p, of, explains)) (stop-explains old p s stopped)
