-- A loop has its reader in texts up to a length, so that a loop may stand in another one.
use Rattle.std.proofs.Common.{ℕ, zero, suc, ◌<◌, ◌≤◌, List, length, Result, arith}
use Rattle.span_text.specs.Language.{Rel, Answers}
use Rattle.span_text.specs.Classes.{is_space}
use Rattle.span_text.specs.Reading.{◌>>=◌}
use Rattle.span_text.specs.Loops.{Rounds, Loop, rounds_at, loop_at}
use Rattle.span_text.proofs.PieceLemmas.{Lives, begins, agree_same}
use Rattle.span_text.proofs.Loops.LoopLemmas.{Once, loop_opens}

module _ {S V A : Type 0} (B : (S → Rel A) → S → Rel A) (b : (S → List ℕ → Result V ℕ) → S → List ℕ → Result V ℕ) (k : V → Result A ℕ)
    (once : Once B)
    -- a round can end
    (lives : (G : S → Rel A) (x : S) → Lives is_space (B G x))
    (m : ℕ)
    -- a round in at most m bytes is read, if what stands behind it is
    (reads : (G : S → Rel A) (g : S → List ℕ → Result V ℕ) → ((y : S) → Lives is_space (G y)) → (x : S) (s : List ℕ) → length s ≤ m → ((y : S) (u : List ℕ) → length u < length s → Answers (G y) u (g y u >>= k)) → Answers (B G x) s (b g x s >>= k))
  where
    bounded_lives : (x : S) → Lives is_space (Loop B x)
    bounded_lives x = let l = lives (Rounds B zero) x in record { text = l.text; value = l.value; apart = l.apart; bytes = l.bytes; reads = (suc zero, l.reads) }

    bounded_rounds : (n : ℕ) (x : S) (s : List ℕ) → length s ≤ m → length s < n → Answers (Loop B x) s (rounds_at b n x s >>= k)
    unfolding rounds_at
    bounded_rounds zero x s within room = absurd (omega arith)
    bounded_rounds (suc n) x s within room = agree_same (Loop B x) (B (Loop B) x) s (b (rounds_at b n) x s >>= k) (begins (bounded_lives x)) (loop_opens B once x)
        (reads (Loop B) (rounds_at b n) bounded_lives x s within (λ y u h. bounded_rounds n y u (omega arith) (omega arith)))

    pub bounded_answers : (x : S) (s : List ℕ) → length s ≤ m → Answers (Loop B x) s (loop_at b x s >>= k)
    unfolding loop_at
    bounded_answers x s within = bounded_rounds (suc (length s)) x s within (omega arith)

-- a loop can go on where a round can
pub bounded_loop_lives : {S A : Type 0} (B : (S → Rel A) → S → Rel A) → ((G : S → Rel A) (x : S) → Lives is_space (B G x)) → (x : S) → Lives is_space (Loop B x)
bounded_loop_lives B lives x = let l = lives (Rounds B zero) x in record { text = l.text; value = l.value; apart = l.apart; bytes = l.bytes; reads = (suc zero, l.reads) }
