-- A loop has its reader.
use Rattle.std.proofs.Common.{ℕ, zero, suc, ◌<◌, List, length, Result, ◌⊎◌, inl, inr, arith}
use Rattle.span_text.specs.Language.{Rel, Answers}
use Rattle.span_text.specs.Classes.{is_space}
use Rattle.span_text.specs.Reading.{◌>>=◌}
use Rattle.span_text.specs.Loops.{Rounds, Loop, rounds_at, loop_at}
use Rattle.span_text.proofs.PieceLemmas.{Lives, begins, Same, agree_same}

-- A text of a round goes on at one place and state at most, and does so whatever is to stand there.
abbrev pub Once : {S A : Type 0} → ((S → Rel A) → S → Rel A) → Type 1
Once {S} {A} B = (G : S → Rel A) (x : S) (s : List ℕ) (v : A) → B G x s v
    → ((y : S) × (u : List ℕ) × G y u v × ((H : S → Rel A) → H y u v → B H x s v)) ⊎ ((H : S → Rel A) → B H x s v)

pub loop_opens : {S A : Type 0} (B : (S → Rel A) → S → Rel A) → Once B → (x : S) → Same (Loop B x) (B (Loop B) x)
loop_opens B once x s v = (λ (n, h). loop_opens_to B once x s v n h, λ h. loop_opens_from B x s v (once (Loop B) x s v h))
  where
    loop_opens_to : {S A : Type 0} (B : (S → Rel A) → S → Rel A) → Once B → (x : S) (s : List ℕ) (v : A) (n : ℕ) → Rounds B n x s v → B (Loop B) x s v
    loop_opens_to B once x s v zero h = absurd h
    loop_opens_to B once x s v (suc n) h = elim (once (Rounds B n) x s v h) [ inl (y, u, g, back) ↦ back (Loop B) (n, g) | inr f ↦ f (Loop B) ]

    loop_opens_from : {S A : Type 0} (B : (S → Rel A) → S → Rel A) (x : S) (s : List ℕ) (v : A)
        → ((y : S) × (u : List ℕ) × Loop B y u v × ((H : S → Rel A) → H y u v → B H x s v)) ⊎ ((H : S → Rel A) → B H x s v) → Loop B x s v
    loop_opens_from B x s v (inl (y, u, (n, g), back)) = (suc n, back (Rounds B n) g)
    loop_opens_from B x s v (inr f) = (suc zero, f (Rounds B zero))

module _ {S V A : Type 0} (B : (S → Rel A) → S → Rel A) (b : (S → List ℕ → Result V ℕ) → S → List ℕ → Result V ℕ) (k : V → Result A ℕ)
    (once : Once B)
    -- a round can end
    (lives : (G : S → Rel A) (x : S) → Lives is_space (B G x))
    -- a round is read, if what stands behind it is
    (reads : (G : S → Rel A) (g : S → List ℕ → Result V ℕ) → ((y : S) → Lives is_space (G y)) → (x : S) (s : List ℕ) → ((y : S) (u : List ℕ) → length u < length s → Answers (G y) u (g y u >>= k)) → Answers (B G x) s (b g x s >>= k))
  where
    pub loop_lives : (x : S) → Lives is_space (Loop B x)
    loop_lives x = let l = lives (Rounds B zero) x in record { text = l.text; value = l.value; apart = l.apart; bytes = l.bytes; reads = (suc zero, l.reads) }

    rounds_answers : (n : ℕ) (x : S) (s : List ℕ) → length s < n → Answers (Loop B x) s (rounds_at b n x s >>= k)
    unfolding rounds_at
    rounds_answers zero x s room = absurd (omega arith)
    rounds_answers (suc n) x s room = agree_same (Loop B x) (B (Loop B) x) s (b (rounds_at b n) x s >>= k) (begins (loop_lives x)) (loop_opens B once x)
        (reads (Loop B) (rounds_at b n) loop_lives x s (λ y u h. rounds_answers n y u (omega arith)))

    pub loop_answers : (x : S) (s : List ℕ) → Answers (Loop B x) s (loop_at b x s >>= k)
    unfolding loop_at
    loop_answers x s = rounds_answers (suc (length s)) x s (omega arith)
