-- What a command led to.
use Rattle.sweep_run.specs.Told.{stretches_of}
use Rattle.std.proofs.Common.{◌≡◌, ◌∙◌, ◌≤◌, ℕ, Bool, true, false, List, length, refl, sym, ap, ap₂, inl, inr, arith, true≢false}
use Rattle.std.specs.Prelude.{IfOk, OnErr}
use Rattle.std.specs.declared.result.Result.{Result}
use Rattle.std.specs.declared.result.Result.TheVariants.{Ok, Err}
use Rattle.session_undo.specs.declared.reply.Refusal.{Refusal}
use Rattle.session_undo.specs.declared.reply.Reply as answer
use Rattle.session_undo.specs.declared.reply.Reply.TheVariants as good
use Rattle.session_undo.specs.State.{State}
use Rattle.session_undo.specs.Explaining.{SaidStep}
use Rattle.script_text.specs.Meaning.{Said}
use Rattle.script_text.specs.Grammar.{Line, words_of}
use Rattle.layout_cli.specs.Machine.{LeadsTo, Step, Talking}
use Rattle.session_undo.specs.Replies.{Reply, IsChange, accepted, Nothing, Done, Frames, Rows, Certificate, Core, Diagnosed, Solvable, Swept}
use Rattle.conflict_core.specs.declared.found.Found.TheVariants as found
use Rattle.diagnosis.specs.Diagnoses.{findings_of}
use Rattle.layout_cli.proofs.BestRuns.{step-change, MayChange}

-- a line that is read does what it says
pub step-read : (old : State) (line : List ℕ) (said : Said) → length line ≤ 4096 → Line (words_of old.version) line said → (reply : Reply) (new : State) → SaidStep old said reply new → Step old line reply new
step-read old line said short reads reply new step = inr ((λ long. omega (arith, short, long)), inr (said, reads, step))

-- ---- where no change was made

abbrev is_done : Reply → Bool
is_done Done = true
is_done _ = false

not-done : (old : State) (reply : Reply) (new : State) → is_done reply ≡ false → MayChange old reply new → new ≡ old
not-done old reply new never (inl same) = same
not-done old reply new never (inr (done, to)) = absurd (true≢false (sym (ap is_done done) ∙ never))

-- all is as before where the line led to another reply than `Done`
not-led : (old new : Talking) (line : List ℕ) (reply : Reply) → is_done reply ≡ false → new.begun ≡ old.begun → LeadsTo old line reply new.state → new ≡ old
not-led old new line reply never same (inl (opens, done, first)) = absurd (true≢false (sym (ap is_done done) ∙ never))
not-led old new line reply never same (inr (other, step)) =
    ap₂ (λ (s : State) (b : Bool). (let t : Talking = record { state = s; begun = b } in t)) (not-done old.state reply new.state never (step-change old.state line reply new.state step)) same

-- where no change was made all is as before
pub unchanged : (old new : Talking) (line : List ℕ) (r : Result answer.Reply Refusal) → new.begun ≡ old.begun → IfOk r (λ reply. LeadsTo old line (accepted reply) new.state) → OnErr r (new ≡ old) → (IsChange r → ⊥) → new ≡ old
unchanged old new line (Ok good.Silent) same leads kept never = not-led old new line Nothing refl same leads
unchanged old new line (Ok good.Done) same leads kept never = absurd (never tt)
unchanged old new line (Ok good.Frames) same leads kept never = not-led old new line Frames refl same leads
unchanged old new line (Ok good.Rows) same leads kept never = not-led old new line Rows refl same leads
unchanged old new line (Ok (good.Certificate levels)) same leads kept never = not-led old new line (Certificate levels) refl same leads
unchanged old new line (Ok (good.Diagnosed d)) same leads kept never = not-led old new line (Diagnosed (findings_of d)) refl same leads
unchanged old new line (Ok (good.Why found.Solvable)) same leads kept never = not-led old new line Solvable refl same leads
unchanged old new line (Ok (good.Why (found.Core rows by without))) same leads kept never = not-led old new line (Core rows.items by without.items) refl same leads
unchanged old new line (Ok (good.Swept s)) same leads kept never = not-led old new line (Swept (stretches_of s.0.items)) refl same leads
unchanged old new line (Err stop) same leads kept never = kept
