-- A construct that comes again behind itself.
use Rattle.std.specs.Prelude.{ℕ, zero, suc, List, length, Result, Err}
use Rattle.span_text.specs.Language.{Rel}

-- at most n rounds of B, from a state
abbrev pub Rounds : {S A : Type 0} → ((S → Rel A) → S → Rel A) → ℕ → S → Rel A
Rounds B zero x s v = ⊥
Rounds B (suc n) x s v = B (Rounds B n) x s v

-- any number of rounds of B, from a state
abbrev pub Loop : {S A : Type 0} → ((S → Rel A) → S → Rel A) → S → Rel A
Loop B x s v = (n : ℕ) × Rounds B n x s v

-- reads at most n rounds by b, from a state; a further one is an error where it would begin
unfoldable pub rounds_at : {S V : Type 0} → ((S → List ℕ → Result V ℕ) → S → List ℕ → Result V ℕ) → ℕ → S
    → List ℕ → Result V ℕ
rounds_at b zero x s = Err (length s)
rounds_at b (suc n) x s = b (rounds_at b n) x s

-- Reads rounds by b, from a state: at most one more than the text has bytes, which is enough where each but
-- the last takes a byte.
unfoldable pub loop_at : {S V : Type 0} → ((S → List ℕ → Result V ℕ) → S → List ℕ → Result V ℕ) → S → List ℕ
    → Result V ℕ
loop_at b x s = rounds_at b (suc (length s)) x s
