-- One of several words, by its letters.
use Rattle.std.proofs.Common.{◌≡◌, ℕ, Bool, true, ◌&&◌, ◌≤◌, List, [], ◌∷◌, ◌++◌, length, Result, Ok, Err, if◌then◌else◌, ◌==◌, inl, inr, refl, sym, ap, subst, ◌∙◌, arith}
use Rattle.std.proofs.lemmas.Bool.Decides.{eqb_tells}
use Rattle.span_text.specs.Language.{Rel, Lit, Words, Begins, Answers, are_bytes, are_words}
use Rattle.span_text.specs.Classes.{is_byte}
use Rattle.span_text.specs.Reading.{◌>>=◌, lit_at, apart, all_apart, is_free, with_word, either, tried}
use Rattle.span_text.proofs.Answering.{halt, step}
use Rattle.span_text.proofs.PieceLemmas.{and_parts, bytes_before, agree_same, lit_answers}

-- ---- a table read byte by byte

-- these words, and in front of them what is left of one more behind this byte, if it begins with it
abbrev pub tail_of : {K : Type 0} → ℕ → List ℕ → K → List (List ℕ × K) → List (List ℕ × K)
tail_of b [] k ws = ws
tail_of b (c ∷ w) k ws = if b == c then (w, k) ∷ ws else ws

-- what is left of the words behind this byte, of those that begin with it
abbrev pub after : {K : Type 0} → ℕ → List (List ℕ × K) → List (List ℕ × K)
after b [] = []
after b (w ∷ ws) = tail_of b w.0 w.1 (after b ws)

-- the answer r where words are left behind the byte b, and an error at b where none is
abbrev pub stepped : {K : Type 0} → List (List ℕ × K) → ℕ → List ℕ → Result (K × List ℕ) ℕ
    → Result (K × List ℕ) ℕ
stepped [] b s r = Err (length (b ∷ s))
stepped (w ∷ ws) b s r = r

-- a word of a table in which none begins another, told byte by byte: its meaning, and the text behind it
unfoldable pub words_at : {K : Type 0} → List (List ℕ × K) → List ℕ → Result (K × List ℕ) ℕ
words_at [] s = Err (length s)
words_at (w ∷ []) s = lit_at w.0 s >>= with_word w.1
words_at (w ∷ u ∷ ws) [] = Err 0
words_at (w ∷ u ∷ ws) (b ∷ s) = stepped (after b (w ∷ u ∷ ws)) b s (words_at (after b (w ∷ u ∷ ws)) s)

-- ---- that this is the same as trying each word

and_made : (a b : Bool) → a ≡ true → b ≡ true → (a && b) ≡ true
and_made a b e f = rw (e, f) refl

apart_right : (w x : List ℕ) → apart w x ≡ true → x ≡ [] → ⊥
apart_right [] x h e = cc
apart_right (c ∷ w) [] h e = cc
apart_right (c ∷ w) (d ∷ x) h e = cc

apart_left : (w x : List ℕ) → apart w x ≡ true → w ≡ [] → ⊥
apart_left [] x h e = cc
apart_left (c ∷ w) x h e = cc

abbrev AllFull : {K : Type 0} → List (List ℕ × K) → Type 0
AllFull [] = Unit {0}
AllFull (w ∷ ws) = (w.0 ≡ [] → ⊥) × AllFull ws

full_tail : {K : Type 0} (w : List ℕ) (ws : List (List ℕ × K)) → all_apart w ws ≡ true → AllFull ws
full_tail w [] h = tt
full_tail w (u ∷ ws) h = let p = and_parts (apart w u.0) (all_apart w ws) h in (apart_right w u.0 p.0, full_tail w ws p.1)

full : {K : Type 0} (w u : List ℕ × K) (ws : List (List ℕ × K)) → is_free (w ∷ u ∷ ws) ≡ true → AllFull (w ∷ u ∷ ws)
full w u ws h =
    let p = and_parts (all_apart w.0 (u ∷ ws)) (is_free (u ∷ ws)) h in
    let q = and_parts (apart w.0 u.0) (all_apart w.0 ws) p.0 in
    (apart_left w.0 u.0 q.0, full_tail w.0 (u ∷ ws) p.0)

words_dead : {K A : Type 0} (F : K → Rel A) (ws : List (List ℕ × K)) → AllFull ws → (v : A) → Words ws F [] v → ⊥
words_dead F [] f v h = h
words_dead F ((w, k) ∷ ws) f v (inl (t, e, h)) = words_dead_one w t e f.0
  where
    words_dead_one : (w t : List ℕ) → [] ≡ w ++ t → (w ≡ [] → ⊥) → ⊥
    words_dead_one [] t e n = n refl
    words_dead_one (c ∷ w) t e n = cc
words_dead F ((w, k) ∷ ws) f v (inr h) = words_dead F ws f.1 v h

words_after : {K A : Type 0} (F : K → Rel A) (b : ℕ) (ws : List (List ℕ × K)) → AllFull ws → (t : List ℕ) (v : A) → (Words ws F (b ∷ t) v → Words (after b ws) F t v) × (Words (after b ws) F t v → Words ws F (b ∷ t) v)
words_after F b [] f t v = (λ h. h, λ h. h)
words_after F b (([], k) ∷ ws) f t v = absurd (f.0 refl)
words_after F b ((c ∷ w, k) ∷ ws) f t v =
    let i = words_after F b ws f.1 t v in
    elim (eqb_tells b c) [
      | inl q ↦ rw q.0 (
        λ h. elim h [ inl (z, e, x) ↦ inl (z, cc, x) | inr y ↦ inr (i.0 y) ],
        λ h. elim h [ inl (z, e, x) ↦ inl (z, cc, x) | inr y ↦ inr (i.1 y) ],
      )
      | inr q ↦ rw q.0 (
        λ h. elim h [ inl (z, e, x) ↦ absurd (q.1 cc) | inr y ↦ i.0 y ],
        λ h. inr (i.1 h),
      )
    ]

apart_after : {K : Type 0} (b : ℕ) (w : List ℕ) (ws : List (List ℕ × K)) → all_apart (b ∷ w) ws ≡ true → all_apart w (after b ws) ≡ true
apart_after b w [] h = refl
apart_after b w (([], k) ∷ ws) h = absurd cc
apart_after b w ((d ∷ u, k) ∷ ws) h =
    let p = and_parts (apart (b ∷ w) (d ∷ u)) (all_apart (b ∷ w) ws) h in
    let i = apart_after b w ws p.1 in
    elim (eqb_tells b d) [
      | inl q ↦ rw q.0 (let p0 : apart w u ≡ true = rw q.0 at p.0 in and_made (apart w u) (all_apart w (after b ws)) p0 i)
      | inr q ↦ rw q.0 i
    ]

free_after : {K : Type 0} (b : ℕ) (ws : List (List ℕ × K)) → is_free ws ≡ true → is_free (after b ws) ≡ true
free_after b [] h = refl
free_after b (([], k) ∷ ws) h = free_after b ws (and_parts (all_apart [] ws) (is_free ws) h).1
free_after b ((c ∷ w, k) ∷ ws) h =
    let p = and_parts (all_apart (c ∷ w) ws) (is_free ws) h in
    let i = free_after b ws p.1 in
    elim (eqb_tells b c) [
      | inl q ↦ rw q.0 (and_made (all_apart w (after b ws)) (is_free (after b ws)) (apart_after b w ws (subst (λ (x : ℕ). all_apart (x ∷ w) ws ≡ true) (sym q.1) p.0)) i)
      | inr q ↦ rw q.0 i
    ]

bytes_after : {K : Type 0} (b : ℕ) (ws : List (List ℕ × K)) → are_words ws ≡ true → are_words (after b ws) ≡ true
bytes_after b [] h = refl
bytes_after b (([], k) ∷ ws) h = bytes_after b ws h
bytes_after b ((c ∷ w, k) ∷ ws) h =
    let p = and_parts (are_bytes (c ∷ w)) (are_words ws) h in
    let i = bytes_after b ws p.1 in
    elim (eqb_tells b c) [
      | inl q ↦ rw q.0 (and_made (are_bytes w) (are_words (after b ws)) (and_parts (is_byte c) (are_bytes w) p.0).1 i)
      | inr q ↦ rw q.0 i
    ]

words_begin : {K A : Type 0} (F : K → Rel A) (w : List ℕ × K) (ws : List (List ℕ × K)) → are_words (w ∷ ws) ≡ true → ((j : K) → Begins (F j) []) → Begins (Words (w ∷ ws) F) []
words_begin F w ws ok lives = let l = lives w.1 in (w.0 ++ l.0, l.1, bytes_before w.0 l.0 (and_parts (are_bytes w.0) (are_words ws) ok).0 l.2, inl (l.0, refl, l.3))

word_bind : {K A : Type 0} (j : K) (k : K → List ℕ → Result A ℕ) (r : Result (List ℕ) ℕ) → ((r >>= with_word j) >>= λ p. k p.0 p.1) ≡ (r >>= k j)
word_bind j k (Ok t) = refl
word_bind j k (Err m) = refl

pub words_answers : {K A : Type 0} (F : K → Rel A) (k : K → List ℕ → Result A ℕ) → ((j : K) → Begins (F j) []) → (s : List ℕ) → ((j : K) (t : List ℕ) → length t ≤ length s → Answers (F j) t (k j t)) → (w : List ℕ × K) (ws : List (List ℕ × K)) → is_free (w ∷ ws) ≡ true → are_words (w ∷ ws) ≡ true → Answers (Words (w ∷ ws) F) s (words_at (w ∷ ws) s >>= λ r. k r.0 r.1)
unfolding words_at
words_answers F k lives s goes w [] free ok =
    rw (word_bind w.1 k (lit_at w.0 s)) (agree_same (Words (w ∷ []) F) (Lit w.0 (F w.1)) s (lit_at w.0 s >>= k w.1) (words_begin F w [] ok lives)
    (λ t v. (λ h. elim h [ inl x ↦ x | inr y ↦ absurd y ], λ x. inl x))
    (lit_answers (F w.1) (k w.1) (lives w.1) w.0 s (and_parts (are_bytes w.0) true ok).0 (λ t h. goes w.1 t (omega arith))))
words_answers F k lives [] goes w (u ∷ ws) free ok = halt (Words (w ∷ u ∷ ws) F) [] (words_begin F w (u ∷ ws) ok lives) (words_dead F (w ∷ u ∷ ws) (full w u ws free))
words_answers {K} {A} F k lives (b ∷ s) goes w (u ∷ ws) free ok =
    words_next (after b (w ∷ u ∷ ws)) (free_after b (w ∷ u ∷ ws) free) (bytes_after b (w ∷ u ∷ ws) ok) (words_after F b (w ∷ u ∷ ws) (full w u ws free)) (λ x xs f g. words_answers F k lives s (λ j t h. goes j t (omega arith)) x xs f g)
  where
    words_next : (xs : List (List ℕ × K)) → is_free xs ≡ true → are_words xs ≡ true → ((t : List ℕ) (v : A) → (Words (w ∷ u ∷ ws) F (b ∷ t) v → Words xs F t v) × (Words xs F t v → Words (w ∷ u ∷ ws) F (b ∷ t) v))
        → ((x : List ℕ × K) (ys : List (List ℕ × K)) → is_free (x ∷ ys) ≡ true → are_words (x ∷ ys) ≡ true → Answers (Words (x ∷ ys) F) s (words_at (x ∷ ys) s >>= λ r. k r.0 r.1))
        → Answers (Words (w ∷ u ∷ ws) F) (b ∷ s) (stepped xs b s (words_at xs s) >>= λ r. k r.0 r.1)
    words_next [] f g same go = halt (Words (w ∷ u ∷ ws) F) (b ∷ s) (words_begin F w (u ∷ ws) ok lives) (λ t v h. (same t v).0 h)
    words_next (x ∷ xs) f g same go = step (Words (w ∷ u ∷ ws) F) b s (words_at (x ∷ xs) s >>= λ r. k r.0 r.1)
        (agree_same (λ t v. Words (w ∷ u ∷ ws) F (b ∷ t) v) (Words (x ∷ xs) F) s (words_at (x ∷ xs) s >>= λ r. k r.0 r.1)
        (let l = words_begin F x xs g lives in (l.0, l.1, l.2, (same l.0 l.1).1 l.3)) same (go x xs f g))

abbrev Within : {A : Type 0} → ℕ → Result A ℕ → Type 0
Within n (Ok x) = Unit {0}
Within n (Err m) = m ≤ n

lit_within : {K : Type 0} (k : K) (w s : List ℕ) → Within (length s) (lit_at w s >>= with_word k)
unfolding lit_at
lit_within k [] s = tt
lit_within k (c ∷ w) [] = omega arith
lit_within {K} k (c ∷ w) (b ∷ s) = elim (eqb_tells b c) [ inl q ↦ rw q.0 (lit_within_more (lit_at w s >>= with_word k) (lit_within k w s)) | inr q ↦ rw q.0 (omega arith) ]
  where
    lit_within_more : (r : Result (K × List ℕ) ℕ) → Within (length s) r → Within (length (b ∷ s)) r
    lit_within_more (Ok x) h = tt
    lit_within_more (Err m) h = omega arith

tried_within : {K : Type 0} (ws : List (List ℕ × K)) (s : List ℕ) → Within (length s) (tried ws s)
tried_within [] s = omega arith
tried_within {K} (w ∷ ws) s = tried_within_either (lit_at w.0 s >>= with_word w.1) (tried ws s) (lit_within w.1 w.0 s) (tried_within ws s)
  where
    tried_within_either : (r q : Result (K × List ℕ) ℕ) → Within (length s) r → Within (length s) q → Within (length s) (either r q)
    tried_within_either (Ok x) q h i = tt
    tried_within_either (Err m) (Ok x) h i = tt
    tried_within_either (Err m) (Err n) h i = omega arith

-- behind a byte, each full word is tried without it
tried_step : {K : Type 0} (b : ℕ) (s : List ℕ) (ws : List (List ℕ × K)) → AllFull ws → tried ws (b ∷ s) ≡ stepped (after b ws) b s (tried (after b ws) s)
unfolding lit_at
tried_step b s [] f = refl
tried_step b s (([], k) ∷ ws) f = absurd (f.0 refl)
tried_step {K} b s ((c ∷ w, k) ∷ ws) f =
    let i = tried_step b s ws f.1 in
    elim (eqb_tells b c) [ inl q ↦ rw (q.0, i) (tried_more (after b ws) (lit_at w s >>= with_word k) (lit_within k w s)) | inr q ↦ rw (q.0, i) (tried_not (after b ws) (tried_within (after b ws) s)) ]
  where
    tried_more : (xs : List (List ℕ × K)) (r : Result (K × List ℕ) ℕ) → Within (length s) r → either r (stepped xs b s (tried xs s)) ≡ either r (tried xs s)
    tried_more [] (Ok x) h = refl
    tried_more [] (Err m) h = ap (λ (z : ℕ). Err z) (omega arith)
    tried_more (x ∷ xs) r h = refl

    tried_not : (xs : List (List ℕ × K)) → Within (length s) (tried xs s) → either (Err (length (b ∷ s))) (stepped xs b s (tried xs s)) ≡ stepped xs b s (tried xs s)
    tried_not [] h = ap (λ (z : ℕ). Err z) (omega arith)
    tried_not (x ∷ xs) h = tried_not_more (tried (x ∷ xs) s) h
      where
        tried_not_more : (r : Result (K × List ℕ) ℕ) → Within (length s) r → either (Err (length (b ∷ s))) r ≡ r
        tried_not_more (Ok y) h = refl
        tried_not_more (Err m) h = ap (λ (z : ℕ). Err z) (omega arith)

tried_full : {K : Type 0} (ws : List (List ℕ × K)) → AllFull ws → tried ws [] ≡ Err 0
unfolding lit_at
tried_full [] f = refl
tried_full (([], k) ∷ ws) f = absurd (f.0 refl)
tried_full ((c ∷ w, k) ∷ ws) f = rw (tried_full ws f.1) refl

-- trying each word is reading one of the words
pub tried_reads : {K : Type 0} (s : List ℕ) (ws : List (List ℕ × K)) → is_free ws ≡ true → tried ws s ≡ words_at ws s
unfolding words_at
tried_reads s [] free = refl
tried_reads s (w ∷ []) free = tried_one s (lit_at w.0 s >>= with_word w.1) (lit_within w.1 w.0 s)
  where
    tried_one : {A : Type 0} (s : List ℕ) (r : Result A ℕ) → Within (length s) r → either r (Err (length s)) ≡ r
    tried_one s (Ok x) h = refl
    tried_one s (Err m) h = ap (λ (z : ℕ). Err z) (omega arith)
tried_reads [] (w ∷ u ∷ ws) free = tried_full (w ∷ u ∷ ws) (full w u ws free)
tried_reads (b ∷ s) (w ∷ u ∷ ws) free = tried_step b s (w ∷ u ∷ ws) (full w u ws free) ∙ ap (stepped (after b (w ∷ u ∷ ws)) b s) (tried_reads s (after b (w ∷ u ∷ ws)) (free_after b (w ∷ u ∷ ws) free))
