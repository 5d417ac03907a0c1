-- The lines of a script that is made: how many, and how many are refused.
use Rattle.std.proofs.Common.{◌≡◌, ◌∙◌, ◌++◌, ◌+◌, ◌≤◌, ◌==◌, ◌&&◌, ℕ, Bool, true, false, List, [], ◌∷◌, refl, sym, ap, subst, arith, ne_eqb}
use Rattle.std.specs.Prelude.{cond, is_ok, IfOk, IfErr, OnErr}
use Rattle.std.specs.declared.result.Result.{Result}
use Rattle.std.specs.declared.result.Result.TheVariants.{Ok, Err}
use Rattle.session_undo.specs.State.{State}
use Rattle.session_undo.specs.Replies.{Reply, MayRefuse, accepted, is_accepted, place_of, Outside, Unknown, Taken, Limit, Kind, Conflict, NoEarlier, Overflow, Spent, NoTarget, SweepOverflow}
use Rattle.conflict_core.specs.declared.found.Found.TheVariants as found
use Rattle.session_undo.specs.declared.reply.Refusal.{Refusal}
use Rattle.session_undo.specs.declared.reply.Refusal.TheVariants as refusal
use Rattle.session_undo.specs.declared.reply.Reply as answer
use Rattle.session_undo.specs.declared.reply.Reply.TheVariants as good
use Rattle.reply_texts.specs.Replies.{text_of}
use Rattle.layout_cli.specs.Machine.{Step, Run}
use Rattle.layout_cli.specs.Making.{Refuses, refusal_count}

-- ---- one line

-- no accepted reply counts
accepted_count : (r : answer.Reply) → 0 ≡ refusal_count (accepted r)
accepted_count good.Silent = refl
accepted_count good.Done = refl
accepted_count good.Frames = refl
accepted_count good.Rows = refl
accepted_count (good.Certificate levels) = refl
accepted_count (good.Diagnosed d) = refl
accepted_count (good.Why found.Solvable) = refl
accepted_count (good.Why (found.Core rows by without)) = refl
accepted_count (good.Swept s) = refl

-- a refusal that is told is one that F allows, and counts 1
refused_count : (F : Reply → Type 0) (r : Refusal) → (r ≡ refusal.OutOfMemory → ⊥) → MayRefuse F r → (reply : Reply) × F reply × (1 ≡ refusal_count reply)
refused_count F (refusal.Syntax at) told may = (Outside at, may, refl)
refused_count F (refusal.Unknown name) told may = (Unknown name, may, refl)
refused_count F (refusal.Taken name) told may = (Taken name, may, refl)
refused_count F (refusal.Limit word) told may = (Limit word, may, refl)
refused_count F (refusal.Kind word) told may = (Kind word, may, refl)
refused_count F (refusal.Conflict by) told may = (Conflict by, may, refl)
refused_count F refusal.NoEarlier told may = (NoEarlier, may, refl)
refused_count F (refusal.Overflow place at) told may = (Overflow (place_of place) at.path at.quantity, may, refl)
refused_count F (refusal.Spent place path) told may = (Spent (place_of place) path, may, refl)
refused_count F (refusal.NoTarget attr up) told may = (NoTarget attr up, may, refl)
refused_count F (refusal.SweepOverflow width path what) told may = (SweepOverflow width path what, may, refl)
refused_count F refusal.OutOfMemory told may = absurd (told refl)

refused_step : (old new : State) (line : List ℕ) (r : Refusal) → (r ≡ refusal.OutOfMemory → ⊥) → MayRefuse (λ reply. Step old line reply old) r → new ≡ old
    → (reply : Reply) × Step old line reply new × (1 ≡ refusal_count reply)
refused_step old new line r told may same =
    let reply = refused_count (λ (reply : Reply). Step old line reply old) r told may in
    (reply.0, subst (λ (s : State). Step old line reply.0 s) (sym same) reply.1, reply.2)

-- what a reply counts, where it is told
pub counted_reply : {E : Type 0} (old new : State) (line : List ℕ) (r : Result answer.Reply Refusal) → IfOk r (λ reply. Step old line (accepted reply) new) → IfErr r (MayRefuse (λ reply. Step old line reply old)) → OnErr r (new ≡ old)
    → (end : Result ℕ E) → IfOk end (λ count. r ≡ Err refusal.OutOfMemory → ⊥) → IfOk end (λ count. count ≡ cond (is_ok r) 0 1) → IfOk end (λ count. (reply : Reply) × Step old line reply new × (count ≡ refusal_count reply))
counted_reply old new line (Ok reply) step may same (Ok count) told one = (accepted reply, step, one ∙ accepted_count reply)
counted_reply old new line (Err refused) step may same (Ok count) told one =
    let step = refused_step old new line refused (λ is. told (ap (λ (e : Refusal). Err e) is)) may same in
    (step.0, step.1, one ∙ step.2)
counted_reply old new line r step may same (Err stop) told one = tt

-- each counts 1 at most
pub small_count : {A B E : Type 0} (end : Result ℕ E) (r : Result A B) → IfOk end (λ count. count ≡ cond (is_ok r) 0 1) → IfOk end (λ count. count ≤ 1)
small_count (Ok count) (Ok x) one = omega (arith, one)
small_count (Ok count) (Err e) one = omega (arith, one)
small_count (Err stop) r one = tt

-- ---- all lines

-- the replies to all lines are those to the lines that are left at the start
pub refuses_begin : (start old : State) (all left : List (List ℕ)) → old ≡ start → left ≡ all → (rest : ℕ) (last : State) → Refuses old left rest last → Refuses start all (0 + rest) last
refuses_begin start old all left begun left_are rest last run =
    let same : rest ≡ 0 + rest = omega arith in
    subst (λ (k : ℕ). Refuses start all k last) same (subst (λ (ls : List (List ℕ)). Refuses start ls rest last) left_are (subst (λ (s : State). Refuses s left rest last) begun run))

-- What follows from the replies to the lines that were left follows from those to the others.
pub refuses_more : (start old mid : State) (all left more : List (List ℕ)) (line : List ℕ) (n m : ℕ) (reply : Reply)
    → left ≡ line ∷ more → Step old line reply mid → m ≡ n + refusal_count reply
    → ((rest : ℕ) (last : State) → Refuses old left rest last → Refuses start all (n + rest) last)
    → (rest : ℕ) (last : State) → Refuses mid more rest last → Refuses start all (m + rest) last
refuses_more start old mid all left more line n m reply left_is step m_is before rest last run =
    let whole : Refuses start all (n + (refusal_count reply + rest)) last =
    before (refusal_count reply + rest) last (rw left_is (reply, mid, rest, step, refl, run)) in
    let same : n + (refusal_count reply + rest) ≡ m + rest = omega (arith, m_is) in
    rw same at whole

pub refuses_end : (start old : State) (all left : List (List ℕ)) (n : ℕ) → left ≡ []
    → ((rest : ℕ) (last : State) → Refuses old left rest last → Refuses start all (n + rest) last)
    → Refuses start all n old
refuses_end start old all left n left_is before =
    let whole : Refuses start all (n + 0) old = before 0 old (rw left_is (refl, refl)) in
    let same : n + 0 ≡ n = omega arith in
    rw same at whole

-- ---- the count and the run

none_refused : (b : Bool) (rest n : ℕ) → n ≡ cond b 0 1 + rest → (b && (rest == 0)) ≡ (n == 0)
none_refused true rest n is = let same : rest ≡ n = omega (arith, is) in ap (λ (k : ℕ). k == 0) same
none_refused false rest n is = sym (ne_eqb n 0 (λ none. omega (arith, is, none)))

pub counted-run : (old new : State) (lines : List (List ℕ)) (refused : ℕ) → Refuses old lines refused new → (text : List ℕ) × (good : Bool) × Run old lines text good new × (good ≡ (refused == 0))
counted-run old new [] refused (none, same) = ([], true, (refl, refl, same), ap (λ (k : ℕ). k == 0) (sym none))
counted-run old new (line ∷ more) refused (reply, mid, rest, step, count, run) =
    let after = counted-run mid new more rest run in (
      text_of mid.scene reply ++ after.0,
      is_accepted reply && after.1,
      (reply, mid, after.0, after.1, step, refl, refl, after.2),
      ap (λ (b : Bool). is_accepted reply && b) after.3 ∙ none_refused (is_accepted reply) rest refused count,
    )
