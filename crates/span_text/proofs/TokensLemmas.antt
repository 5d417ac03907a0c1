-- Each token has its reader.
use Rattle.std.proofs.Common.{◌≡◌, ℕ, ◌+◌, ◌-◌, ◌^◌, ◌*◌, Bool, true, false, not, ◌&&◌, cond, List, [], ◌∷◌, ◌++◌, length, ◌≤◌, ◌<◌, Result, Ok, Err, inl, inr, refl, sym, ap, subst, ◌∙◌, arith}
use Rattle.span_text.specs.Language.{Rel, End, Lit, One, Run, Few, Not, Or, Words, Begins, Answers, are_bytes, are_words}
use Rattle.span_text.specs.Classes.{is_byte, is_space, is_digit, is_letter, is_word}
use Rattle.span_text.specs.Digits.{digits, Nonzero}
use Rattle.span_text.specs.Reading.{◌>>=◌, front, back, few_at, starts}
use Rattle.span_text.specs.Tokens.{Blanks, Tail, Word, Sign, Name, Digits, Number, Whole, Ratio, RawName, decimals, is_point, skip, tail_at, word_at, sign_at, name_at, raw_name_at, whole_at, with_parts, below_at, ratio_at, digits_at, valued_at, decimals_at, no_decimals_at, number_at}
use Rattle.span_text.proofs.PieceLemmas.{Lives, begins, and_parts, bytes_before, lit_answers, one_answers, not_answers, run_answers, few_answers, or_answers, Only, Never}
use Rattle.span_text.proofs.NonzeroLemmas.{nonzero_answers}

pub bind_assoc : {A B C : Type 0} (r : Result A ℕ) (f : A → Result B ℕ) (g : B → Result C ℕ) → ((r >>= f) >>= g) ≡ (r >>= λ x. f x >>= g)
bind_assoc (Ok x) f g = refl
bind_assoc (Err m) f g = refl

pub bind_cond : {A B : Type 0} (b : Bool) (x y : Result A ℕ) (g : A → Result B ℕ) → (cond b x y >>= g) ≡ cond b (x >>= g) (y >>= g)
bind_cond true x y g = refl
bind_cond false x y g = refl

pub blanks_lives : {A : Type 0} {F : Rel A} (c : ℕ → Bool) → c 32 ≡ false → Lives is_space F → Lives c (Blanks F)
blanks_lives c e l = record { text = 32 ∷ l.text; value = l.value; apart = e; bytes = (refl, l.bytes); reads = (32 ∷ [], l.text, refl, (refl, tt), l.apart, l.reads) }

pub tail_lives : {A : Type 0} {F : Rel A} (c : ℕ → Bool) → c 32 ≡ false → Lives is_space F → Lives c (Tail F)
tail_lives c e l = record { text = 32 ∷ l.text; value = l.value; apart = e; bytes = (refl, l.bytes); reads = (refl, (32 ∷ [], l.text, refl, (refl, tt), l.apart, l.reads)) }

pub end_lives : {A : Type 0} (c : ℕ → Bool) (a : A) → Lives c (End a)
end_lives c a = record { text = []; value = a; apart = tt; bytes = tt; reads = (refl, refl) }

pub sign_lives : {A : Type 0} {F : Rel A} (d : ℕ → Bool) (c : ℕ) → d c ≡ false → is_byte c ≡ true → Lives is_space F → Lives d (Sign c F)
sign_lives d c e ok l = record { text = c ∷ l.text; value = l.value; apart = e; bytes = (ok, l.bytes); reads = (l.text, refl, ([], l.text, refl, tt, l.apart, l.reads)) }

pub name_lives : {A : Type 0} {F : List ℕ → Rel A} (d : ℕ → Bool) → d 97 ≡ false → ((n : List ℕ) → Lives is_space (F n)) → Lives d (Name F)
name_lives d e lives = let l = lives (97 ∷ []) in record {
  text = 97 ∷ 32 ∷ l.text;
  value = l.value;
  apart = e;
  bytes = (refl, (refl, l.bytes));
  reads = (97, 32 ∷ l.text, refl, refl, ([], 32 ∷ l.text, refl, tt, refl, (32 ∷ [], l.text, refl, (refl, tt), l.apart, l.reads)));
}

-- a digit begins digits
pub digits_lives : {A : Type 0} {F : List ℕ → Rel A} (d : ℕ → Bool) (n : ℕ) → d 48 ≡ false → ((x : List ℕ) → Lives is_digit (F x)) → Lives d (Digits n F)
digits_lives d n e lives = let l = lives (48 ∷ []) in record {
  text = 48 ∷ l.text;
  value = l.value;
  apart = e;
  bytes = (refl, l.bytes);
  reads = (48, l.text, refl, refl, ([], l.text, refl, tt, omega arith, l.apart, l.reads));
}

pub lit_lives : {A : Type 0} {F : Rel A} (d : ℕ → Bool) (c : ℕ) (w : List ℕ) → d c ≡ false → are_bytes (c ∷ w) ≡ true → Begins F [] → Lives d (Lit (c ∷ w) F)
lit_lives d c w e ok l = record { text = (c ∷ w) ++ l.0; value = l.1; apart = e; bytes = bytes_before (c ∷ w) l.0 ok l.2; reads = (l.0, refl, l.3) }

pub number_end_lives : {A : Type 0} (F : ℕ → Rel A) (x : List ℕ) → ((n : ℕ) → Lives is_space (F n)) → Lives is_digit (Or (Lit (46 ∷ []) (Digits 2 (λ y. Tail (F (digits 0 x * 1000 + decimals y))))) (Not is_point (Tail (F (digits 0 x * 1000)))))
number_end_lives F x lives =
    let l : Lives is_digit (Lit (46 ∷ []) (Digits 2 (λ y. Tail (F (digits 0 x * 1000 + decimals y))))) =
    lit_lives is_digit 46 [] refl refl (begins (digits_lives is_space 2 refl (λ y. tail_lives is_digit refl (lives (digits 0 x * 1000 + decimals y))))) in
    record { text = l.text; value = l.value; apart = l.apart; bytes = l.bytes; reads = inl l.reads }

pub number_lives : {A : Type 0} {F : ℕ → Rel A} (d : ℕ → Bool) → d 48 ≡ false → ((n : ℕ) → Lives is_space (F n)) → Lives d (Number F)
number_lives {F} d e lives = digits_lives d 5 e (λ x. number_end_lives F x lives)

pub blanks_answers : {A : Type 0} (F : Rel A) (k : List ℕ → Result A ℕ) → Lives is_space F → (s : List ℕ) → ((t : List ℕ) → length t ≤ length s → Answers F t (k t)) → Answers (Blanks F) s (k (skip s))
blanks_answers F k l s goes = run_answers is_space (λ _. F) (λ _ t. k t) (λ x a. l) s (λ x t a h. goes t h)

pub tail_answers : {A : Type 0} (F : Rel A) (k : List ℕ → Result A ℕ) → Lives is_space F → (s : List ℕ) → ((t : List ℕ) → length t ≤ length s → Answers F t (k t)) → Answers (Tail F) s (tail_at s >>= k)
unfolding tail_at
tail_answers F k l s goes = rw bind_assoc (not_answers is_word (Blanks F) (λ t. k (skip t)) (blanks_lives is_word refl l) s (λ t h. blanks_answers F k l t (λ u i. goes u (omega arith))))

pub word_answers : {A : Type 0} (w : List ℕ) (F : Rel A) (k : List ℕ → Result A ℕ) → are_bytes w ≡ true → Lives is_space F → (s : List ℕ) → ((t : List ℕ) → length t ≤ length s → Answers F t (k t)) → Answers (Word w F) s (word_at w s >>= k)
unfolding word_at
word_answers w F k ok l s goes = rw bind_assoc (lit_answers (Tail F) (λ t. tail_at t >>= k) (begins (tail_lives is_word refl l)) w s ok (λ t h. tail_answers F k l t (λ u i. goes u (omega arith))))

pub sign_answers : {A : Type 0} (c : ℕ) (F : Rel A) (k : List ℕ → Result A ℕ) → is_byte c ≡ true → Lives is_space F → (s : List ℕ) → ((t : List ℕ) → length t < length s → Answers F t (k t)) → Answers (Sign c F) s (sign_at c s >>= k)
unfolding sign_at
sign_answers c F k ok l s goes = rw bind_assoc (lit_answers (Blanks F) (λ t. k (skip t)) (begins (blanks_lives is_word refl l)) (c ∷ []) s (let e : are_bytes (c ∷ []) ≡ true = rw ok refl in e) (λ t h. blanks_answers F k l t (λ u i. goes u (omega arith))))

pub name_answers : {A : Type 0} (F : List ℕ → Rel A) (k : List ℕ → List ℕ → Result A ℕ) → ((n : List ℕ) → Lives is_space (F n)) → (s : List ℕ) → ((n t : List ℕ) → length t < length s → Answers (F n) t (k n t)) → Answers (Name F) s (name_at s >>= λ r. k r.0 r.1)
unfolding name_at
name_answers F k lives s goes = rw bind_assoc
    (one_answers is_letter (λ b. Run is_word (λ x. Blanks (F (b ∷ x)))) (λ b t. k (b ∷ front is_word t) (skip (back is_word t)))
    (begins (name_lives is_space refl lives))
    (λ b e. let l = blanks_lives is_word refl (lives (b ∷ [])) in (l.text, l.value, l.bytes, ([], l.text, refl, tt, l.apart, l.reads)))
    s
    (λ b t e h. run_answers is_word (λ x. Blanks (F (b ∷ x))) (λ x u. k (b ∷ x) (skip u)) (λ x a. blanks_lives is_word refl (lives (b ∷ x))) t (λ x u a i. blanks_answers (F (b ∷ x)) (k (b ∷ x)) (lives (b ∷ x)) u (λ z j. goes (b ∷ x) z (omega arith)))))

pub digits_answers : {A : Type 0} (n : ℕ) (F : List ℕ → Rel A) (k : List ℕ → List ℕ → Result A ℕ) → ((x : List ℕ) → Lives is_digit (F x)) → (s : List ℕ) → ((x t : List ℕ) → length t < length s → Answers (F x) t (k x t)) → Answers (Digits n F) s (digits_at n s >>= λ r. k r.0 r.1)
unfolding digits_at
digits_answers n F k lives s goes = rw bind_assoc
    (one_answers is_digit (λ b. Few is_digit n (λ x. F (b ∷ x))) (λ b t. (few_at is_digit n t >>= λ x. Ok (b ∷ x.0, x.1)) >>= λ r. k r.0 r.1)
    (begins (digits_lives is_space n refl lives))
    (λ b e. let l = lives (b ∷ []) in (l.text, l.value, l.bytes, ([], l.text, refl, tt, omega arith, l.apart, l.reads)))
    s
    (λ b t e h. rw bind_assoc (few_answers is_digit n (λ x. F (b ∷ x)) (λ x. k (b ∷ x)) (λ x a. lives (b ∷ x)) t (λ x u a i. goes (b ∷ x) u (omega arith)))))

pub valued_answers : {A : Type 0} (n : ℕ) (F : List ℕ → Rel A) (k : ℕ → ℕ → List ℕ → Result A ℕ) → ((x : List ℕ) → Lives is_digit (F x)) → (s : List ℕ) → ((x t : List ℕ) → length t < length s → Answers (F x) t (k (digits 0 x) (length x) t)) → Answers (Digits n F) s (valued_at n s >>= λ r. k r.0 r.1 r.2)
unfolding valued_at
valued_answers n F k lives s goes = rw bind_assoc (digits_answers n F (λ x t. k (digits 0 x) (length x) t) lives s goes)

pub lit_only : {A : Type 0} (F : Rel A) (d : ℕ → Bool) (c : ℕ) (w : List ℕ) → d c ≡ true → Only d (Lit (c ∷ w) F)
lit_only F d c w h [] v (t, e, f) = absurd cc
lit_only F d c w h (b ∷ s) v (t, e, f) = let q : b ≡ c = cc in ap d q ∙ h

pub not_never : {A : Type 0} (F : Rel A) (d : ℕ → Bool) → Never d (Not d F)
not_never F d [] v h = refl
not_never F d (b ∷ s) v h = h.0

pub end_never : {A : Type 0} (d : ℕ → Bool) (a : A) → Never d (End a)
end_never d a [] v h = refl
end_never d a (b ∷ s) v h = absurd (let e = h.0 in cc)

pub number_part : {A : Type 0} (F : ℕ → Rel A) (k : ℕ → List ℕ → Result A ℕ) → ((n : ℕ) → Lives is_space (F n)) → (x u : List ℕ) → ((n : ℕ) (t : List ℕ) → length t ≤ length u → Answers (F n) t (k n t)) → Answers (Lit (46 ∷ []) (Digits 2 (λ y. Tail (F (digits 0 x * 1000 + decimals y))))) u (decimals_at (digits 0 x) u >>= λ r. k r.0 r.1)
unfolding decimals_at
number_part F k lives x u goes = rw bind_assoc
    (lit_answers (Digits 2 (λ y. Tail (F (digits 0 x * 1000 + decimals y)))) _
    (begins (digits_lives is_space 2 refl (λ y. tail_lives is_digit refl (lives (digits 0 x * 1000 + decimals y)))))
    (46 ∷ []) u refl
    (λ t h. rw bind_assoc (valued_answers 2 (λ y. Tail (F (digits 0 x * 1000 + decimals y))) (λ v c z. (tail_at z >>= λ q. Ok (digits 0 x * 1000 + v * 10 ^ (3 - c), q)) >>= λ r. k r.0 r.1)
    (λ y. tail_lives is_digit refl (lives (digits 0 x * 1000 + decimals y)))
    t (λ y z i. rw bind_assoc (tail_answers (F (digits 0 x * 1000 + decimals y)) (k (digits 0 x * 1000 + decimals y)) (lives (digits 0 x * 1000 + decimals y)) z (λ q j. goes (digits 0 x * 1000 + decimals y) q (omega arith)))))))

pub number_whole : {A : Type 0} (F : ℕ → Rel A) (k : ℕ → List ℕ → Result A ℕ) → ((n : ℕ) → Lives is_space (F n)) → (x u : List ℕ) → ((n : ℕ) (t : List ℕ) → length t ≤ length u → Answers (F n) t (k n t)) → Answers (Not is_point (Tail (F (digits 0 x * 1000)))) u (no_decimals_at (digits 0 x) u >>= λ r. k r.0 r.1)
unfolding no_decimals_at
number_whole F k lives x u goes = rw bind_assoc
    (not_answers is_point (Tail (F (digits 0 x * 1000))) (λ t. (tail_at t >>= λ q. Ok (digits 0 x * 1000, q)) >>= λ r. k r.0 r.1)
    (tail_lives is_point refl (lives (digits 0 x * 1000)))
    u (λ t h. rw bind_assoc (tail_answers (F (digits 0 x * 1000)) (k (digits 0 x * 1000)) (lives (digits 0 x * 1000)) t (λ q j. goes (digits 0 x * 1000) q (omega arith)))))

pub number_answers : {A : Type 0} (F : ℕ → Rel A) (k : ℕ → List ℕ → Result A ℕ) → ((n : ℕ) → Lives is_space (F n)) → (s : List ℕ) → ((n : ℕ) (t : List ℕ) → length t < length s → Answers (F n) t (k n t)) → Answers (Number F) s (number_at s >>= λ r. k r.0 r.1)
unfolding number_at
number_answers F k lives s goes = rw bind_assoc
    (valued_answers 5 (λ x. Or (Lit (46 ∷ []) (Digits 2 (λ y. Tail (F (digits 0 x * 1000 + decimals y))))) (Not is_point (Tail (F (digits 0 x * 1000)))))
    (λ v c t. cond (starts is_point t) (decimals_at v t) (no_decimals_at v t) >>= λ r. k r.0 r.1)
    (λ x. number_end_lives F x lives)
    s (λ x t h. rw bind_cond (or_answers is_point (Lit (46 ∷ []) (Digits 2 (λ y. Tail (F (digits 0 x * 1000 + decimals y))))) (Not is_point (Tail (F (digits 0 x * 1000))))
    _ _
    (lit_only _ is_point 46 [] refl) (not_never _ is_point) (begins (number_end_lives F x lives))
    t (number_part F k lives x t (λ n q j. goes n q (omega arith))) (number_whole F k lives x t (λ n q j. goes n q (omega arith))))))

pub left_lives : {A : Type 0} {F : Rel A} (d : ℕ → Bool) (G : Rel A) → Lives d F → Lives d (Or F G)
left_lives d G l = record { text = l.text; value = l.value; apart = l.apart; bytes = l.bytes; reads = inl l.reads }

pub right_lives : {A : Type 0} {G : Rel A} (d : ℕ → Bool) (F : Rel A) → Lives d G → Lives d (Or F G)
right_lives d F l = record { text = l.text; value = l.value; apart = l.apart; bytes = l.bytes; reads = inr l.reads }

pub number_never : {A : Type 0} (F : ℕ → Rel A) (d : ℕ → Bool) → ((b : ℕ) → is_digit b ≡ true → d b ≡ false) → Never d (Number F)
number_never F d h s v (b, t, e, g, f) = subst (λ (x : List ℕ). starts d x ≡ false) (sym e) (h b g)

-- the table has a first word, which begins outside the class
abbrev pub word_outside : (ℕ → Bool) → List ℕ → Bool
word_outside d [] = false
word_outside d (c ∷ w) = not (d c)

abbrev pub table_outside : {K : Type 0} → (ℕ → Bool) → List (List ℕ × K) → Bool
table_outside d [] = false
table_outside d (w ∷ ws) = word_outside d w.0

pub not_true : (b : Bool) → not b ≡ true → b ≡ false
not_true true e = absurd cc
not_true false e = refl

pub words_lives : {K A : Type 0} (F : K → Rel A) (d : ℕ → Bool) (ws : List (List ℕ × K)) → table_outside d ws ≡ true → are_words ws ≡ true → ((j : K) → Begins (F j) []) → Lives d (Words ws F)
words_lives F d [] e ok lives = absurd cc
words_lives F d (([], j) ∷ ws) e ok lives = absurd cc
words_lives F d ((c ∷ w, j) ∷ ws) e ok lives = let l = lives j in record { text = (c ∷ w) ++ l.0; value = l.1; apart = not_true (d c) e; bytes = bytes_before (c ∷ w) l.0 (and_parts (are_bytes (c ∷ w)) (are_words ws) ok).0 l.2; reads = inl (l.0, refl, l.3) }

-- a name behind which no letter, digit or _ follows
pub raw_name_lives : {A : Type 0} {F : List ℕ → Rel A} (d : ℕ → Bool) → d 97 ≡ false → ((n : List ℕ) → Lives is_word (F n)) → Lives d (RawName F)
raw_name_lives d e lives = let l = lives (97 ∷ []) in record {
  text = 97 ∷ l.text;
  value = l.value;
  apart = e;
  bytes = (refl, l.bytes);
  reads = (97, l.text, refl, refl, ([], l.text, refl, tt, l.apart, l.reads));
}

pub raw_name_answers : {A : Type 0} (F : List ℕ → Rel A) (k : List ℕ → List ℕ → Result A ℕ) → ((n : List ℕ) → Lives is_word (F n)) → (s : List ℕ) → ((n t : List ℕ) → length t < length s → Answers (F n) t (k n t)) → Answers (RawName F) s (raw_name_at s >>= λ r. k r.0 r.1)
unfolding raw_name_at
raw_name_answers F k lives s goes = rw bind_assoc
    (one_answers is_letter (λ b. Run is_word (λ x. F (b ∷ x))) (λ b t. k (b ∷ front is_word t) (back is_word t))
    (begins (raw_name_lives is_space refl lives))
    (λ b e. let l = lives (b ∷ []) in (l.text, l.value, l.bytes, ([], l.text, refl, tt, l.apart, l.reads)))
    s
    (λ b t e h. run_answers is_word (λ x. F (b ∷ x)) (λ x u. k (b ∷ x) u) (λ x a. lives (b ∷ x)) t (λ x u a i. goes (b ∷ x) u (omega arith))))

pub whole_lives : {A : Type 0} {F : ℕ → Rel A} (d : ℕ → Bool) → d 48 ≡ false → ((n : ℕ) → Lives is_space (F n)) → Lives d (Whole F)
whole_lives {F} d e lives = digits_lives d 18 e (λ x. tail_lives is_digit refl (lives (digits 0 x)))

pub whole_answers : {A : Type 0} (F : ℕ → Rel A) (k : ℕ → List ℕ → Result A ℕ) → ((n : ℕ) → Lives is_space (F n)) → (s : List ℕ) → ((n : ℕ) (t : List ℕ) → length t < length s → Answers (F n) t (k n t)) → Answers (Whole F) s (whole_at s >>= λ r. k r.0 r.1)
unfolding whole_at
whole_answers F k lives s goes = rw bind_assoc
    (valued_answers 18 (λ x. Tail (F (digits 0 x))) (λ v c t. (tail_at t >>= λ q. Ok (v, q)) >>= λ r. k r.0 r.1) (λ x. tail_lives is_digit refl (lives (digits 0 x))) s
    (λ x t h. rw bind_assoc (tail_answers (F (digits 0 x)) (k (digits 0 x)) (lives (digits 0 x)) t (λ q j. goes (digits 0 x) q (omega arith)))))

nonzero_lives : {A : Type 0} {F : ℕ → Rel A} (d : ℕ → Bool) → d 49 ≡ false → ((m : ℕ) → Lives is_digit (F m)) → Lives d (Nonzero 4 0 F)
nonzero_lives {F} d e lives = let l = lives 1 in record {
  text = 49 ∷ l.text;
  value = l.value;
  apart = e;
  bytes = (refl, l.bytes);
  reads = (49 ∷ [], l.text, refl, (refl, tt), omega arith, l.apart, (λ z. omega arith), l.reads);
}

pub below_lives : {A : Type 0} (F : ℕ → Rel A) → ((m : ℕ) → Lives is_space (F m)) → Lives is_digit (Lit (47 ∷ []) (Nonzero 4 0 (λ m. Tail (F m))))
below_lives F lives = lit_lives is_digit 47 [] refl refl (begins (nonzero_lives is_space refl (λ m. tail_lives is_digit refl (lives m))))

pub below_answers : {A : Type 0} (v : ℕ) (F : ℕ → Rel A) (k : ℕ → ℕ → List ℕ → Result A ℕ) → ((m : ℕ) → Lives is_space (F m)) → (s : List ℕ) → ((m : ℕ) (t : List ℕ) → length t ≤ length s → Answers (F m) t (k v m t)) → Answers (Lit (47 ∷ []) (Nonzero 4 0 (λ m. Tail (F m)))) s (below_at v s >>= λ r. k r.0 r.1 r.2)
unfolding below_at
below_answers v F k lives s goes = rw bind_assoc (lit_answers (Nonzero 4 0 (λ m. Tail (F m))) _ (begins (nonzero_lives is_space refl (λ m. tail_lives is_digit refl (lives m)))) (47 ∷ []) s refl
    (λ u h. rw bind_assoc (nonzero_answers (λ m. Tail (F m)) (λ m z. (tail_at z >>= with_parts v m) >>= λ r. k r.0 r.1 r.2) (λ m. tail_lives is_digit refl (lives m)) 4 0 (λ e. omega arith) u
    (λ m z i. rw bind_assoc (tail_answers (F m) (k v m) (lives m) z (λ q j. goes m q (omega arith)))))))

pub ratio_answers : {A : Type 0} (F : ℕ → ℕ → Rel A) (k : ℕ → ℕ → List ℕ → Result A ℕ) → ((n m : ℕ) → Lives is_space (F n m)) → (s : List ℕ) → ((n m : ℕ) (t : List ℕ) → length t < length s → Answers (F n m) t (k n m t)) → Answers (Ratio F) s (ratio_at s >>= λ r. k r.0 r.1 r.2)
unfolding ratio_at
ratio_answers F k lives s goes = rw bind_assoc
    (valued_answers 3 (λ x. Lit (47 ∷ []) (Nonzero 4 0 (λ m. Tail (F (digits 0 x) m)))) (λ v c t. below_at v t >>= λ r. k r.0 r.1 r.2)
    (λ x. below_lives (F (digits 0 x)) (lives (digits 0 x))) s (λ x t h. below_answers (digits 0 x) (F (digits 0 x)) k (lives (digits 0 x)) t (λ m q j. goes (digits 0 x) m q (omega arith))))

-- what a text of a language may begin with
pub one_only : {A : Type 0} (c : ℕ → Bool) (F : ℕ → Rel A) (d : ℕ → Bool) → ((b : ℕ) → c b ≡ true → d b ≡ true) → Only d (One c F)
one_only c F d h s v (b, t, e, g, f) = subst (λ (x : List ℕ). starts d x ≡ true) (sym e) (h b g)

pub one_never : {A : Type 0} (c : ℕ → Bool) (F : ℕ → Rel A) (d : ℕ → Bool) → ((b : ℕ) → c b ≡ true → d b ≡ false) → Never d (One c F)
one_never c F d h s v (b, t, e, g, f) = subst (λ (x : List ℕ). starts d x ≡ false) (sym e) (h b g)

pub lit_never : {A : Type 0} (F : Rel A) (d : ℕ → Bool) (c : ℕ) (w : List ℕ) → d c ≡ false → Never d (Lit (c ∷ w) F)
lit_never F d c w h [] v (t, e, f) = absurd cc
lit_never F d c w h (b ∷ s) v (t, e, f) = let q : b ≡ c = cc in ap d q ∙ h

pub or_only : {A : Type 0} (d : ℕ → Bool) (F G : Rel A) → Only d F → Only d G → Only d (Or F G)
or_only d F G f g s v (inl h) = f s v h
or_only d F G f g s v (inr h) = g s v h

pub or_never : {A : Type 0} (d : ℕ → Bool) (F G : Rel A) → Never d F → Never d G → Never d (Or F G)
or_never d F G f g s v (inl h) = f s v h
or_never d F G f g s v (inr h) = g s v h

-- each word of the table begins with the class, or none
abbrev pub table_inside : {K : Type 0} → (ℕ → Bool) → List (List ℕ × K) → Bool
table_inside d [] = true
table_inside d (w ∷ ws) = starts d w.0 && table_inside d ws

abbrev pub table_apart : {K : Type 0} → (ℕ → Bool) → List (List ℕ × K) → Bool
table_apart d [] = true
table_apart d (w ∷ ws) = word_outside d w.0 && table_apart d ws

pub words_only : {K A : Type 0} (F : K → Rel A) (d : ℕ → Bool) (ws : List (List ℕ × K)) → table_inside d ws ≡ true → Only d (Words ws F)
words_only F d [] e s v h = absurd h
words_only F d (([], j) ∷ ws) e s v h = absurd cc
words_only F d ((c ∷ w, j) ∷ ws) e s v (inl h) = lit_only (F j) d c w (and_parts (d c) (table_inside d ws) e).0 s v h
words_only F d ((c ∷ w, j) ∷ ws) e s v (inr h) = words_only F d ws (and_parts (d c) (table_inside d ws) e).1 s v h

pub words_never : {K A : Type 0} (F : K → Rel A) (d : ℕ → Bool) (ws : List (List ℕ × K)) → table_apart d ws ≡ true → Never d (Words ws F)
words_never F d [] e s v h = absurd h
words_never F d (([], j) ∷ ws) e s v h = absurd cc
words_never F d ((c ∷ w, j) ∷ ws) e s v (inl h) = lit_never (F j) d c w (not_true (d c) (and_parts (not (d c)) (table_apart d ws) e).0) s v h
words_never F d ((c ∷ w, j) ∷ ws) e s v (inr h) = words_never F d ws (and_parts (not (d c)) (table_apart d ws) e).1 s v h
