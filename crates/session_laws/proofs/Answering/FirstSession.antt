-- In the first session the draft of each metric has room, and its required rows have a solution.
use Rattle.std.proofs.Common.{◌≡◌, ◌∙◌, ℕ, List, ◌++◌, pos, refl, sym, ap, ap₂, subst, arith, inl, inr, ◌⊎◌, false, true≢false}
use Rattle.std.proofs.lemmas.List.Elements.{All-from_recursion}
use Rattle.frac_core.specs.Fraction.{Fraction}
use Rattle.problem_core.specs.declared.parts.Mark.{Mark}
use Rattle.problem_core.specs.declared.parts.Stay.{Stay}
use Rattle.problem_core.specs.Layout.{Assignment, IsInConflict, Problem, Row, Satisfies, error, line_of_row}
use Rattle.problem_core.specs.Window.{structural_rows}
use Rattle.script_text.specs.Meaning as mean
use Rattle.name_tables.specs.declared.stops.LimitWord.TheVariants as word
use Rattle.scenes.specs.Steps.{IsProblemOf}
use Rattle.session_undo.specs.Adding.{NoEnd}
use Rattle.session_undo.specs.Machine.{ChangeStep, PosesChange, TriedMetric}
use Rattle.session_undo.specs.Replies.{Done, Limit, Reply, Taken, is_accepted}
use Rattle.session_undo.specs.State.{State, first_state}
use Rattle.script_text.specs.declared.words.Version.TheVariants as version
use Rattle.scenes.specs.Scene.{first_scene, with_metric}
use Rattle.session_laws.specs.Answered.Examples.{first}
use Rattle.session_laws.specs.Answered.Room.{HasRoom}
use Rattle.session_laws.specs.Answered.Laws.{FirstMetricsAreAccepted, IsDecided}
use Rattle.session_laws.proofs.Answering.FirstBlocks.{first-whole}
use Rattle.session_laws.proofs.Answering.FirstFits.{first-fits}
use Rattle.session_laws.proofs.Answering.Lines.{changes-answered}

-- the draft of a metric has the first scene's problem
same-problem : (corner : List Mark) (name : List ℕ) (value : Fraction) (p : Problem) → IsProblemOf (with_metric (first_scene corner) name value) p → p ≡ first
same-problem corner name value p ((front, back, is, front_is, back_is), stays) =
    let rows : p.rows ≡ structural_rows = is ∙ ap₂ (λ (a b : List Row). a ++ b) front_is back_is in
    ap₂ (λ (rs : List Row) (ss : List Stay). (let q : Problem = record { rows = rs; stays = ss } in q)) rows stays

has-room : HasRoom structural_rows 100000 first
has-room = record { large = record { whole = first-whole; exchanges = omega arith }; fits = first-fits }

-- the reply to a change is no refusal
no-refusal : (refusal : Reply) → is_accepted refusal ≡ false → Done ≡ refusal → ⊥
no-refusal refusal bad is = true≢false (ap is_accepted is ∙ bad)

pub no-cause : {Fact Same N A : Type 0} (refusal : Reply) → is_accepted refusal ≡ false → (Fact × (Done ≡ refusal) × Same) ⊎ (N × A) → A
no-cause refusal bad (inl (fact, is, same)) = absurd (no-refusal refusal bad is)
no-cause refusal bad (inr (n, a)) = a

first-problem : (corner : List Mark) (name : List ℕ) (value : Fraction) (p : Problem) → PosesChange (first_state version.One corner) (mean.Update (mean.Metric name value)) p → p ≡ first
first-problem corner name value p h =
    let rest = no-cause (Limit word.Constant) refl (no-cause (Limit word.Metrics) refl (no-cause (Limit word.Name) refl (no-cause (Taken name) refl h))) in
    same-problem corner name value p (no-cause (Limit word.Constant) refl rest.2)

first-room : (corner : List Mark) (name : List ℕ) (value : Fraction) (p : Problem) → PosesChange (first_state version.One corner) (mean.Update (mean.Metric name value)) p → HasRoom structural_rows 100000 p
first-room corner name value p h = subst (HasRoom structural_rows 100000) (sym (first-problem corner name value p h)) has-room

-- all is 0
nothing : Assignment
nothing = record { den = 1; num = λ v. pos 0; positive = omega arith }

satisfied : Satisfies first nothing
unfolding nothing
satisfied = All-from_recursion (λ r. r.rank ≡ 1000 → error nothing (line_of_row r) ≡ 0) first.rows ((λ e. refl), ((λ e. refl), ((λ e. refl), ((λ e. refl), tt))))

done : (corner : List Mark) (name : List ℕ) (value : Fraction) (reply : Reply) (p : Problem) → PosesChange (first_state version.One corner) (mean.Update (mean.Metric name value)) p → IsDecided p reply → reply ≡ Done
done corner name value reply p h (inl (possible, is)) = is
done corner name value reply p h (inr (none, told)) = absurd (subst IsInConflict (first-problem corner name value p h) none nothing satisfied)

first-metrics-at : (corner : List Mark) (name : List ℕ) (value : Fraction) (reply : Reply) (new : State) → ChangeStep (first_state version.One corner) (mean.Update (mean.Metric name value)) reply new → TriedMetric (first_state version.One corner) name value NoEnd reply new ⊎ (reply ≡ Done)
first-metrics-at corner name value reply new h =
    elim (changes-answered (first_state version.One corner) (mean.Update (mean.Metric name value)) reply new (first-room corner name value) h) [
      | inl cause ↦ inl cause
      | inr answer ↦ inr (done corner name value reply answer.0 answer.1 answer.2)
    ]

pub first-metrics : FirstMetricsAreAccepted
first-metrics first new-session name value reply new h =
    subst (λ (s : State). TriedMetric s name value NoEnd reply new ⊎ (reply ≡ Done)) (sym new-session.1)
    (first-metrics-at first.scene.corner name value reply new (subst (λ (s : State). ChangeStep s (mean.Update (mean.Metric name value)) reply new) new-session.1 h))
