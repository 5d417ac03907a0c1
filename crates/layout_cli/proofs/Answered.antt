-- What a line led to, and what was put of its reply.
use Rattle.std.proofs.Common.{◌≡◌, ◌∙◌, ◌⊎◌, ◌<◌, Bool, true, false, is_ok, List, ℕ, length, refl, sym, ap, ap₂, subst, inl, inr, arith, true≢false, []}
use Rattle.sweep_run.specs.Told.{stretches_of}
use Rattle.std.specs.Prelude.{IfOk, IfErr, OnErr, OnOk, not}
use Rattle.std.specs.declared.result.Result.{Result}
use Rattle.std.specs.declared.result.Result.TheVariants.{Ok, Err}
use Rattle.name_tables.specs.declared.stops.LimitWord.TheVariants as word
use Rattle.script_text.specs.Grammar.{Line, words_of}
use Rattle.script_text.specs.Meaning.{Said}
use Rattle.script_text.specs.Meaning as mean
use Rattle.script_text.specs.declared.words.Version.TheVariants as version
use Rattle.script_text.proofs.LineLemmas.{one_reading}
use Rattle.session_undo.specs.declared.reply.Refusal.{Refusal}
use Rattle.session_undo.specs.declared.reply.Refusal.TheVariants as refusal
use Rattle.session_undo.specs.declared.reply.Reply as answer
use Rattle.session_undo.specs.declared.reply.Reply.TheVariants as good
use Rattle.session_undo.specs.State.{IsFirstWith, State}
use Rattle.session_undo.specs.Explaining.{SaidStep}
use Rattle.conflict_core.specs.declared.found.Found.TheVariants as found
use Rattle.session_undo.specs.Replies.{Reply, MayRefuse, IsTold, Tells, accepted, is_accepted, Nothing, Done, Frames, Rows, Certificate, Core, Diagnosed, Solvable, Outside, Unknown, Taken, Limit, Kind, Conflict, NoEarlier, Overflow, Spent, NoTarget, place_of, Swept, SweepOverflow}
use Rattle.diagnosis.specs.Diagnoses.{findings_of}
use Rattle.reply_texts.specs.Replies.{text_of}
use Rattle.layout_cli.specs.Machine.{Answers, Begins, GoesOn, IsSilent, LeadsTo, Step, Talking, Talks, TalksAfter}
use Rattle.layout_cli.proofs.BestRuns.{MaySay, command-says, is_nothing, why-says}
use Rattle.layout_cli.proofs.Versions.{blank_before, line_later}

-- ---- lines to which nothing is said

says-something : (old : State) (reply : Reply) (new : State) → MaySay old reply new → reply ≡ Nothing → ⊥
says-something old reply new (inl (some, same)) none = true≢false (sym (ap is_nothing none) ∙ some)
says-something old reply new (inr (done, to)) none = true≢false (sym (ap is_nothing none) ∙ ap is_nothing done)

-- what gets no reply is no command and no question, and nothing changes
silent_saying : (old : State) (line : List ℕ) (reply : Reply) (new : State) → (4096 < length line → ⊥) → (said : Said) → Line (words_of old.version) line said → SaidStep old said reply new → reply ≡ Nothing → IsSilent line × (new ≡ old)
silent_saying old line reply new short mean.Nothing reads step none = ((omega (arith, short), blank_before old.version line reads), step.1)
silent_saying old line reply new short (mean.Does c) reads step none = absurd (says-something old reply new (command-says old reply new c step) none)
silent_saying old line reply new short (mean.Why c) reads step none = absurd (says-something old reply new (why-says old reply new c step) none)

-- where a line gets no reply it is blank or a comment, and nothing changes
silent_line : (old : State) (line : List ℕ) (reply : Reply) (new : State) → Step old line reply new → reply ≡ Nothing → IsSilent line × (new ≡ old)
silent_line old line reply new (inl (long, is, same)) none = absurd (true≢false (sym (ap is_nothing none) ∙ ap is_nothing is))
silent_line old line reply new (inr (short, inl (at, leaves, (is, same)))) none = absurd (true≢false (sym (ap is_nothing none) ∙ ap is_nothing is))
silent_line old line reply new (inr (short, inr (said, reads, step))) none = silent_saying old line reply new short said reads step none

-- where it gets one it isn't
spoken_line : (old : State) (line : List ℕ) (reply : Reply) (new : State) → Step old line reply new → (reply ≡ Nothing → ⊥) → IsSilent line → ⊥
spoken_line old line reply new (inl (long, is, same)) some silent = omega (arith, long, silent.0)
spoken_line old line reply new (inr (short, inl (at, leaves, keeps))) some silent = leaves.outside mean.Nothing (line_later old.version line mean.Nothing silent.1)
spoken_line old line reply new (inr (short, inr (said, reads, step))) some silent =
    let blank : said ≡ mean.Nothing = one_reading old.version line said mean.Nothing reads (line_later old.version line mean.Nothing silent.1) in
    some (subst (λ (s : Said). SaidStep old s reply new) blank step).0

-- ---- what is kept in mind

-- Whether a line with a reply came: a reply is kept in mind, and all is as before where there is none.
abbrev pub Heard : Reply → Talking → Talking → Type 0
Heard reply mid last = ((reply ≡ Nothing) × (last ≡ mid)) ⊎ ((reply ≡ Nothing → ⊥) × (last.begun ≡ true))

-- the same of what a line led to
pub record Hears (r : Result answer.Reply Refusal) (mid last : Talking) : Type 0 where
  pub state : last.state ≡ mid.state
  pub silent : r ≡ Ok good.Silent → last ≡ mid
  pub told : (r ≡ Ok good.Silent → ⊥) → last.begun ≡ true

abbrev is_silent : Result answer.Reply Refusal → Bool
is_silent (Ok good.Silent) = true
is_silent _ = false

some_heard : (r : Result answer.Reply Refusal) (reply : Reply) (mid last : Talking) → is_silent r ≡ false → is_nothing reply ≡ false → Hears r mid last → Heard reply mid last
some_heard r reply mid last loud some hears =
    inr ((λ is. true≢false (sym (ap is_nothing is) ∙ some)), hears.told (λ is. true≢false (sym (ap is_silent is) ∙ loud)))

heard : (r : answer.Reply) (mid last : Talking) → Hears (Ok r) mid last → Heard (accepted r) mid last
heard good.Silent mid last hears = inl (refl, hears.silent refl)
heard good.Done mid last hears = some_heard (Ok good.Done) Done mid last refl refl hears
heard good.Frames mid last hears = some_heard (Ok good.Frames) Frames mid last refl refl hears
heard good.Rows mid last hears = some_heard (Ok good.Rows) Rows mid last refl refl hears
heard (good.Certificate levels) mid last hears = some_heard (Ok (good.Certificate levels)) (Certificate levels) mid last refl refl hears
heard (good.Diagnosed d) mid last hears = some_heard (Ok (good.Diagnosed d)) (Diagnosed (findings_of d)) mid last refl refl hears
heard (good.Why found.Solvable) mid last hears = some_heard (Ok (good.Why found.Solvable)) Solvable mid last refl refl hears
heard (good.Why (found.Core rows by without)) mid last hears = some_heard (Ok (good.Why (found.Core rows by without))) (Core rows.items by without.items) mid last refl refl hears
heard (good.Swept s) mid last hears = some_heard (Ok (good.Swept s)) (Swept (stretches_of s.0.items)) mid last refl refl hears

-- the talking that comes of what a line led to
abbrev pub kept_in_mind : Result answer.Reply Refusal → Talking → Talking
kept_in_mind (Ok good.Silent) mid = mid
kept_in_mind _ mid = record { state = mid.state; begun = true }

pub mind_hears : (r : Result answer.Reply Refusal) (mid : Talking) → Hears r mid (kept_in_mind r mid)
mind_hears (Ok good.Silent) mid = record { state = refl; silent = λ is. refl; told = λ loud. absurd (loud refl) }
mind_hears (Ok good.Done) mid = record { state = refl; silent = λ is. absurd (true≢false (sym (ap is_silent is))); told = λ loud. refl }
mind_hears (Ok good.Frames) mid = record { state = refl; silent = λ is. absurd (true≢false (sym (ap is_silent is))); told = λ loud. refl }
mind_hears (Ok good.Rows) mid = record { state = refl; silent = λ is. absurd (true≢false (sym (ap is_silent is))); told = λ loud. refl }
mind_hears (Ok (good.Certificate levels)) mid = record { state = refl; silent = λ is. absurd (true≢false (sym (ap is_silent is))); told = λ loud. refl }
mind_hears (Ok (good.Diagnosed d)) mid = record { state = refl; silent = λ is. absurd (true≢false (sym (ap is_silent is))); told = λ loud. refl }
mind_hears (Ok (good.Why f)) mid = record { state = refl; silent = λ is. absurd (true≢false (sym (ap is_silent is))); told = λ loud. refl }
mind_hears (Ok (good.Swept s)) mid = record { state = refl; silent = λ is. absurd (true≢false (sym (ap is_silent is))); told = λ loud. refl }
mind_hears (Err stop) mid = record { state = refl; silent = λ is. absurd (true≢false (sym (ap is_silent is))); told = λ loud. refl }

-- ---- the reply that is told

is_good : (r : answer.Reply) → true ≡ is_accepted (accepted r)
is_good good.Silent = refl
is_good good.Done = refl
is_good good.Frames = refl
is_good good.Rows = refl
is_good (good.Certificate levels) = refl
is_good (good.Diagnosed d) = refl
is_good (good.Why found.Solvable) = refl
is_good (good.Why (found.Core rows by without)) = refl
is_good (good.Swept s) = refl

-- the refusal that is told is one that P allows
told_as : (P F : Reply → Type 0) (r : Refusal) → MayRefuse P r → IsTold F r → (reply : Reply) × P reply × F reply × (false ≡ is_accepted reply) × (is_nothing reply ≡ false)
told_as P F (refusal.Syntax at) may is = (Outside at, may, is, refl, refl)
told_as P F (refusal.Unknown name) may is = (Unknown name, may, is, refl, refl)
told_as P F (refusal.Taken name) may is = (Taken name, may, is, refl, refl)
told_as P F (refusal.Limit word) may is = (Limit word, may, is, refl, refl)
told_as P F (refusal.Kind word) may is = (Kind word, may, is, refl, refl)
told_as P F (refusal.Conflict by) may is = (Conflict by, may, is, refl, refl)
told_as P F refusal.NoEarlier may is = (NoEarlier, may, is, refl, refl)
told_as P F (refusal.Overflow place at) may is = (Overflow (place_of place) at.path at.quantity, may, is, refl, refl)
told_as P F (refusal.Spent place path) may is = (Spent (place_of place) path, may, is, refl, refl)
told_as P F (refusal.NoTarget attr up) may is = (NoTarget attr up, may, is, refl, refl)
told_as P F (refusal.SweepOverflow width path what) may is = (SweepOverflow width path what, may, is, refl, refl)
told_as P F refusal.OutOfMemory may is = absurd is

-- what a line led to is told by a reply of which F holds, and is kept in mind
abbrev pub IsToldOf : Talking → List ℕ → (Reply → Type 0) → Bool → Talking → Talking → Type 0
IsToldOf old line F good mid last = (reply : Reply) × LeadsTo old line reply mid.state × F reply × (good ≡ is_accepted reply) × Heard reply mid last

told_of : (old mid last : Talking) (line : List ℕ) (F : Reply → Type 0) (r : Result answer.Reply Refusal) → IfOk r (λ reply. LeadsTo old line (accepted reply) mid.state)
    → IfErr r (MayRefuse (λ reply. LeadsTo old line reply old.state)) → OnErr r (mid ≡ old) → Tells F r → Hears r mid last → IsToldOf old line F (is_ok r) mid last
told_of old mid last line F (Ok reply) leads may same tells hears = (accepted reply, leads, tells, is_good reply, heard reply mid last hears)
told_of old mid last line F (Err stop) leads may same tells hears =
    let told = told_as (λ reply. LeadsTo old line reply old.state) F stop may tells in
    let is_state : mid.state ≡ old.state = ap (λ (t : Talking). t.state) same in
    (told.0, subst (λ (s : State). LeadsTo old line told.0 s) (sym is_state) told.1, told.2, told.3, some_heard (Err stop) told.0 mid last refl told.4 hears)

-- ---- talking

-- a session, and whether a line with a reply came
known : (t : Talking) (state : State) (begun : Bool) → t.state ≡ state → t.begun ≡ begun → t ≡ record { state = state; begun = begun }
known t state begun is was = ap₂ (λ (s : State) (b : Bool). (let u : Talking = record { state = s; begun = b } in u)) is was

-- the reply to a step, where the last session is the one behind it
answers : (old mid last : State) (line : List ℕ) (reply : Reply) → last ≡ mid → Step old line reply mid → Answers old line (text_of mid.scene reply) (is_accepted reply) last
answers old mid last line reply is step = subst (λ (s : State). Answers old line (text_of mid.scene reply) (is_accepted reply) s) (sym is) (reply, step, refl, refl)

goes-on : (old mid last : Talking) (line : List ℕ) (reply : Reply) → old.begun ≡ true → mid.begun ≡ old.begun → LeadsTo old line reply mid.state → Heard reply mid last → last.state ≡ mid.state
    → GoesOn old.state line (text_of mid.state.scene reply) (is_accepted reply) last
goes-on old mid last line reply began same (inl ((unbegun, opening), done, first)) hears is = absurd (true≢false (sym began ∙ unbegun))
goes-on old mid last line reply began same (inr (other, step)) hears is = (answers old.state mid.state last.state line reply is step, still hears)
  where
    still : Heard reply mid last → last.begun ≡ true
    still (inl (none, as_mid)) = ap (λ (t : Talking). t.begun) as_mid ∙ (same ∙ began)
    still (inr (some, now)) = now

begins : (old mid last : Talking) (line : List ℕ) (reply : Reply) → old.begun ≡ false → mid.begun ≡ old.begun → LeadsTo old line reply mid.state → Heard reply mid last → last.state ≡ mid.state
    → Begins old.state line (text_of mid.state.scene reply) (is_accepted reply) last
begins old mid last line reply unbegun same (inl (opens, done, first)) (inl (none, as_mid)) is = absurd (true≢false (sym (ap is_nothing none) ∙ ap is_nothing done))
begins old mid last line reply unbegun same (inl (opens, done, first)) (inr (some, now)) is =
    inr (inl (opens.1, ap (text_of mid.state.scene) done, ap is_accepted done, subst (IsFirstWith old.state.limits version.Two) (sym is) first, now))
begins old mid last line reply unbegun same (inr (other, step)) (inl (none, as_mid)) is =
    let silent = silent_line old.state line reply mid.state step none in
    inl (silent.0, ap (text_of mid.state.scene) none, ap is_accepted none, as_mid ∙ known mid old.state false silent.1 (same ∙ unbegun))
begins old mid last line reply unbegun same (inr (other, step)) (inr (some, now)) is =
    inr (inr (spoken_line old.state line reply mid.state step some, (λ opening. other (unbegun, opening)), answers old.state mid.state last.state line reply is step, now))

talks : (old mid last : Talking) (line : List ℕ) (reply : Reply) → mid.begun ≡ old.begun → LeadsTo old line reply mid.state → Heard reply mid last → last.state ≡ mid.state
    → Talks old line (text_of mid.state.scene reply) (is_accepted reply) last
talks old mid last line reply same leads hears is = talks_by old.begun refl
  where
    talks_by : (b : Bool) → old.begun ≡ b → TalksAfter b old.state line (text_of mid.state.scene reply) (is_accepted reply) last
    talks_by true was = goes-on old mid last line reply was same leads hears is
    talks_by false was = begins old mid last line reply was same leads hears is

-- what a line led to, and is told and kept in mind, is what it may get
pub talked : (old mid last : Talking) (line : List ℕ) (F : List ℕ → Type 0) (r : Result answer.Reply Refusal) → mid.begun ≡ old.begun → IfOk r (λ reply. LeadsTo old line (accepted reply) mid.state)
    → IfErr r (MayRefuse (λ reply. LeadsTo old line reply old.state)) → OnErr r (mid ≡ old) → Tells (λ reply. F (text_of mid.state.scene reply)) r → Hears r mid last
    → (text : List ℕ) × Talks old line text (is_ok r) last × F text
talked old mid last line F r same leads may kept tells hears =
    let told = told_of old mid last line (λ reply. F (text_of mid.state.scene reply)) r leads may kept tells hears in
    let now = talks old mid last line told.0 same told.1 told.4 hears.state in
    (text_of mid.state.scene told.0, subst (λ (b : Bool). Talks old line (text_of mid.state.scene told.0) b last) (sym told.3) now, told.2)

-- ---- results

pub at_ok : {T E P : Type 0} {x : T} (r : Result T E) → r ≡ Ok x → OnOk r P → P
at_ok {P = P} r is h = subst (λ (e : Result _ _). OnOk e P) is h

pub not_not : (b : Bool) → not (not b) ≡ b
not_not true = refl
not_not false = refl

-- ---- lines that are too long

-- a line that is too long is refused
pub long_step : (old : State) (line : List ℕ) → 4096 < length line → Step old line (Limit word.Line) old
long_step old line long = inl (long, refl, refl)

-- it is no first line that says nothing or the version
pub long_talks : (old : Talking) (line : List ℕ) → 4096 < length line → Talks old line (text_of old.state.scene (Limit word.Line)) false (record { state = old.state; begun = true })
long_talks old line long = long_by old.begun
  where
    long_by : (b : Bool) → TalksAfter b old.state line (text_of old.state.scene (Limit word.Line)) false (record { state = old.state; begun = true })
    long_by true = ((Limit word.Line, long_step old.state line long, refl, refl), refl)
    long_by false = inr (inr ((λ silent. omega (arith, long, silent.0)), (λ opening. omega (arith, long, opening.0)), (Limit word.Line, long_step old.state line long, refl, refl), refl))
