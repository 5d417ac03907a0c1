-- What a line changes, and that a run leads from best values to best values.
use Rattle.std.proofs.Common.{◌≡◌, ◌∙◌, ℕ, Bool, true, false, List, [], ◌∷◌, Option, Some, None, refl, sym, ap, subst, inl, inr, ◌⊎◌, true≢false}
use Rattle.std.specs.Prelude.{All}
use Rattle.std.proofs.lemmas.List.Elements.{All-cons, All-head, All-tail, All-take}
use Rattle.name_tables.specs.declared.stops.LimitWord.TheVariants as word
use Rattle.compile_parts.specs.declared.stops.KindWord.TheVariants as kind
use Rattle.script_text.specs.Meaning.{Change, Command, Plain, Said}
use Rattle.script_text.specs.Meaning as mean
use Rattle.frac_core.specs.Fraction.{Fraction}
use Rattle.scenes.specs.Drafts.{Any, Free, Kind, Left, Turned}
use Rattle.scenes.specs.Scene.{Scene, IsBestScene, with_earlier}
use Rattle.session_undo.specs.State.{State, IsBestState}
use Rattle.session_undo.specs.Replies.{Reply, Nothing, Done, Frames, Rows, Certificate, Diagnosed, Outside, Unknown, Taken, Limit, Conflict, NoEarlier, Overflow, Spent, NoTarget, Step as OfStep, Probe, Core, Held, Solvable, Place, Swept, SweepOverflow, Sweep}
use Rattle.problem_core.specs.Layout.{Problem}
use Rattle.session_undo.specs.Explaining.{Explains, SaidStep, WhyStep}
use Rattle.session_undo.specs.Replies as answers
use Rattle.session_undo.proofs.Commands.Carried.{caused}
use Rattle.session_undo.proofs.Commands.Resolved.{comes, is_cause}
use Rattle.layout_solver.specs.declared.request.RequestStop.{RequestStop}
use Rattle.layout_solver.specs.declared.request.RequestStop.TheVariants as request
use Rattle.session_undo.specs.Machine.{Diagnoses, Accepts, ChangeStep, CommandStep, EndsAs, LeavesFree, PlainStep, PosesDraft, Solves, SolvesFree, Stands, Sweeps, TakesBack, TellsStill, kind_for, still_place}
use Rattle.layout_cli.specs.Machine.{GrammarStep, Step, Run}

kept : (old new : State) → IsBestState old → new ≡ old → IsBestState new
kept old new best is = subst IsBestState (sym is) best

-- the scene before is a best one among the earlier
best-kept : (old : State) → IsBestState old → All IsBestScene (with_earlier old.limits.undo old.scene old.earlier)
best-kept old best = All-take IsBestScene old.limits.undo (old.scene ∷ old.earlier) (All-cons IsBestScene old.scene old.earlier best.0 best.1)

-- there is no reply
abbrev pub is_nothing : Reply → Bool
is_nothing Nothing = true
is_nothing _ = false

-- a cause is told
cause-some : (reply : Reply) → is_cause reply ≡ true → is_nothing reply ≡ false
cause-some Nothing is = absurd (true≢false (sym is))
cause-some Done is = refl
cause-some Frames is = refl
cause-some Rows is = refl
cause-some (Certificate levels) is = refl
cause-some (Diagnosed findings) is = refl
cause-some Solvable is = refl
cause-some (Core ids by values) is = refl
cause-some (Swept stretches) is = refl
cause-some (Outside at) is = refl
cause-some (Unknown name) is = refl
cause-some (Taken name) is = refl
cause-some (Limit limit) is = refl
cause-some (answers.Kind wrong) is = refl
cause-some (Conflict by) is = refl
cause-some NoEarlier is = refl
cause-some (Overflow place path quantity) is = refl
cause-some (Spent place path) is = refl
cause-some (NoTarget attr up) is = refl
cause-some (SweepOverflow width path what) is = refl

-- what changes something is answered `Done`, and leads from best values to best values
abbrev pub MayChange : State → Reply → State → Type 0
MayChange old reply new = (new ≡ old) ⊎ ((reply ≡ Done) × (IsBestState old → IsBestState new))

-- the same where there is some reply
abbrev pub MaySay : State → Reply → State → Type 0
MaySay old reply new = ((is_nothing reply ≡ false) × (new ≡ old)) ⊎ ((reply ≡ Done) × (IsBestState old → IsBestState new))

-- what is left when one of them comes back
best-back : (old : State) (scene : Scene) (earlier : List Scene) → old.earlier ≡ scene ∷ earlier → IsBestState old → IsBestState (record old { scene = scene; earlier = earlier })
best-back old scene earlier is best =
    let all : All IsBestScene (scene ∷ earlier) = subst (λ (scenes : List Scene). All IsBestScene scenes) is best.1 in
    (All-head IsBestScene scene earlier all, All-tail IsBestScene scene earlier all)

module _ (old : State) (reply : Reply) (new : State) where
  -- this is told, and nothing changes
  told : (answer : Reply) → is_nothing answer ≡ false → reply ≡ answer → new ≡ old → MaySay old reply new
  told answer some is same = inl (ap is_nothing is ∙ some, same)

  -- past a cause
  past : {Fact N A : Type 0} (refusal : Reply) → is_nothing refusal ≡ false → (A → MaySay old reply new) → (Fact × (reply ≡ refusal) × (new ≡ old)) ⊎ (N × A) → MaySay old reply new
  past refusal some go (inl (fact, is, same)) = told refusal some is same
  past refusal some go (inr (none, rest)) = go rest

  -- ---- how a draft ends

  accepts-change : (draft : Scene) → Accepts draft old reply new → MaySay old reply new
  accepts-change draft accepts = inr (accepts.done, λ best. subst IsBestState (sym accepts.kept) (accepts.solved.becomes.best, best-kept old best))

  free-change : (draft : Scene) → SolvesFree old draft reply new → MaySay old reply new
  free-change draft (inl accepts) = accepts-change draft accepts
  free-change draft (inr (inl over)) = told (Overflow OfStep over.at.path over.at.quantity) refl over.refused.0 over.refused.1
  free-change draft (inr (inr spent)) = told (Spent OfStep spent.path) refl spent.refused.0 spent.refused.1

  solves-change : (draft : Scene) → Solves old draft reply new → MaySay old reply new
  solves-change draft (inl conflict) = told (Conflict conflict.by) refl conflict.refused.0 conflict.refused.1
  solves-change draft (inr free) = free-change draft free

  -- a removal that is told to have stopped changes nothing
  still-change : (stop : RequestStop) → TellsStill old stop reply new → MaySay old reply new
  still-change (request.Unfit still at) is = told (Overflow (still_place still.items) at.path at.quantity) refl is.0 is.1
  still-change (request.Conflict by) is = absurd is
  still-change (request.Spent path) is = absurd is
  still-change request.OutOfMemory is = absurd is

  leaves-change : (draft : Scene) → LeavesFree old draft reply new → MaySay old reply new
  leaves-change draft (inl leaves) = inr (leaves.done, λ best. subst IsBestState (sym leaves.kept) (leaves.left.becomes.best, best-kept old best))
  leaves-change draft (inr (inl over)) = still-change over.stop over.told
  leaves-change draft (inr (inr spent)) = told (Spent OfStep spent.path) refl spent.refused.0 spent.refused.1

  stands-change : (draft : Scene) → Stands old draft reply new → MaySay old reply new
  stands-change draft stands = inr (stands.done, λ best. subst IsBestState (sym stands.kept) (stands.best, best-kept old best))

  -- ---- commands

  undo-change : TakesBack old reply new → MaySay old reply new
  undo-change back = inr (back.done, λ best. subst IsBestState (sym back.back) (best-back old back.scene back.earlier back.latest best))

  -- a diagnosis changes nothing
  diagnose-change : Diagnoses old reply new → MaySay old reply new
  diagnose-change (inl found) = told (Diagnosed found.findings) refl found.told.0 found.told.1
  diagnose-change (inr (inl stop)) = told (Overflow (Probe stop.attr stop.up) stop.at.path stop.at.quantity) refl stop.refused.0 stop.refused.1
  diagnose-change (inr (inr (inl stop))) = told (Spent (Probe stop.attr stop.up) stop.path) refl stop.refused.0 stop.refused.1
  diagnose-change (inr (inr (inr stop))) = told (NoTarget stop.attr stop.up) refl stop.refused.0 stop.refused.1

  -- so does what explains a problem
  explains-say : (p : Problem) → Explains old p reply new → MaySay old reply new
  explains-say p (inl none) = told Solvable refl none.told.0 none.told.1
  explains-say p (inr (inl core)) = told (Core core.ids core.by core.values) refl core.told.0 core.told.1
  explains-say p (inr (inr (inl over))) = told (Overflow (Held over.held.items) over.at.path over.at.quantity) refl over.refused.0 over.refused.1
  explains-say p (inr (inr (inr spent))) = told (Spent (Held spent.held.items) spent.path) refl spent.refused.0 spent.refused.1

  -- nor does a sweep
  swept-change : {from to : Fraction} → Sweeps old from to reply new → MaySay old reply new
  swept-change (inl sweep) = told (Swept sweep.stretches) refl sweep.told.0 sweep.told.1
  swept-change (inr (inl stop)) = told (SweepOverflow stop.width stop.path stop.what) refl stop.refused.0 stop.refused.1
  swept-change (inr (inr stop)) = told (Spent (Sweep stop.width) stop.path) refl stop.refused.0 stop.refused.1

  -- ---- what gets some reply

  ends-say : (kind : Kind) (draft : Scene) → EndsAs old kind draft reply new → MaySay old reply new
  ends-say Free draft end = free-change draft end
  ends-say Any draft end = solves-change draft end
  ends-say Left draft end = leaves-change draft end
  ends-say Turned draft end = stands-change draft end

  change-says : (c : Change) → ChangeStep old c reply new → MaySay old reply new
  change-says c step = elim (comes old Problem (EndsAs old (kind_for c)) PosesDraft reply Done new old c step) [
    | inl cause ↦ inl (cause-some reply cause.0, cause.1)
    | inr draft ↦ ends-say (kind_for c) draft.0 draft.2
  ]

  plain-says : (c : Plain) → PlainStep old c reply new → MaySay old reply new
  plain-says mean.Undo step = past NoEarlier refl undo-change step
  plain-says (mean.Budget n) step = past (Limit word.Budget) refl (λ (done, is). inr (done, λ best. subst IsBestState (sym is) best)) step
  plain-says mean.Frames step = told Frames refl step.0 step.1
  plain-says mean.Rows step = told Rows refl step.0 step.1
  plain-says mean.Certify (levels, certified, step) = told (Certificate levels) refl step.0 step.1
  plain-says mean.Diagnose step = diagnose-change step
  plain-says (mean.Sweep from to) step = past (answers.Kind kind.Sweep) refl (past (Limit word.Constant) refl swept-change) step

  pub command-says : (c : Command) → CommandStep old c reply new → MaySay old reply new
  command-says (mean.Changes c) step = change-says c step
  command-says (mean.Other c) step = plain-says c step

  -- the question why gets one
  pub why-says : (c : Change) → WhyStep old c reply new → MaySay old reply new
  why-says c (inl cause) = change-says c (caused old c (EndsAs old (kind_for c)) reply new cause)
  why-says c (inr (p, poses, explains)) = explains-say p explains

-- ---- lines

-- what says something may change something
said-change : (old : State) (reply : Reply) (new : State) → MaySay old reply new → MayChange old reply new
said-change old reply new (inl (some, same)) = inl same
said-change old reply new (inr done) = inr done

saying-change : (old : State) (said : Said) (reply : Reply) (new : State) → SaidStep old said reply new → MayChange old reply new
saying-change old mean.Nothing reply new step = inl step.1
saying-change old (mean.Does c) reply new step = said-change old reply new (command-says old reply new c step)
saying-change old (mean.Why c) reply new step = said-change old reply new (why-says old reply new c step)

grammar-change : (old : State) (line : List ℕ) (reply : Reply) (new : State) → GrammarStep old line reply new → MayChange old reply new
grammar-change old line reply new (inl (at, leaves, keeps)) = inl keeps.1
grammar-change old line reply new (inr (said, reads, step)) = saying-change old said reply new step

pub step-change : (old : State) (line : List ℕ) (reply : Reply) (new : State) → Step old line reply new → MayChange old reply new
step-change old line reply new (inl x) = inl x.2
step-change old line reply new (inr (short, step)) = grammar-change old line reply new step

changed-AreBest : (old : State) (reply : Reply) (new : State) → IsBestState old → MayChange old reply new → IsBestState new
changed-AreBest old reply new best (inl same) = kept old new best same
changed-AreBest old reply new best (inr (done, to)) = to best

pub run-AreBest : (old new : State) (lines : List (List ℕ)) (text : List ℕ) (good : Bool) → IsBestState old → Run old lines text good new → IsBestState new
run-AreBest old new [] text good best run = kept old new best run.2
run-AreBest old new (line ∷ more) text good best (reply, mid, rest, rest_good, step, text_is, good_is, run) =
    run-AreBest mid new more rest rest_good (changed-AreBest old reply mid best (step-change old line reply mid step)) run
