-- Each construct goes on at one place at most, so it may stand in a loop.
use Rattle.std.proofs.Common.{ℕ, ◌+◌, ◌*◌, Bool, List, [], ◌∷◌, ◌⊎◌, inl, inr}
use Rattle.span_text.specs.Language.{Rel, Or, Lit, One, Run, Few, Not, Words}
use Rattle.span_text.specs.Classes.{is_space, is_digit, is_word, is_letter}
use Rattle.span_text.specs.Digits.{digits, Nonzero}
use Rattle.span_text.specs.Tokens.{Blanks, Tail, Sign, Name, RawName, Digits, Number, Ratio, decimals, is_point}

-- as Once, for a part of a round
abbrev pub OnceIn : {S A : Type 0} → ((S → Rel A) → Rel A) → Type 1
OnceIn {S} {A} T = (G : S → Rel A) (s : List ℕ) (v : A) → T G s v → ((y : S) × (u : List ℕ) × G y u v × ((H : S → Rel A) → H y u v → T H s v)) ⊎ ((H : S → Rel A) → T H s v)

pub once_go : {S A : Type 0} (y : S) → OnceIn {S = S} {A = A} (λ G. G y)
once_go y G s v h = inl (y, s, h, λ H k. k)

pub once_end : {S A : Type 0} (F : Rel A) → OnceIn {S = S} {A = A} (λ G. F)
once_end F G s v h = inr (λ H. h)

pub once_or : {S A : Type 0} (T U : (S → Rel A) → Rel A) → OnceIn T → OnceIn U → OnceIn (λ G. Or (T G) (U G))
once_or T U t u G s v (inl h) = elim (t G s v h) [ inl (y, w, g, back) ↦ inl (y, w, g, λ H k. inl (back H k)) | inr f ↦ inr (λ H. inl (f H)) ]
once_or T U t u G s v (inr h) = elim (u G s v h) [ inl (y, w, g, back) ↦ inl (y, w, g, λ H k. inr (back H k)) | inr f ↦ inr (λ H. inr (f H)) ]

pub once_lit : {S A : Type 0} (c : List ℕ) (T : (S → Rel A) → Rel A) → OnceIn T → OnceIn (λ G. Lit c (T G))
once_lit c T t G s v (z, e, h) = elim (t G z v h) [ inl (y, w, g, back) ↦ inl (y, w, g, λ H k. (z, e, back H k)) | inr f ↦ inr (λ H. (z, e, f H)) ]

pub once_not : {S A : Type 0} (c : ℕ → Bool) (T : (S → Rel A) → Rel A) → OnceIn T → OnceIn (λ G. Not c (T G))
once_not c T t G s v (n, h) = elim (t G s v h) [ inl (y, w, g, back) ↦ inl (y, w, g, λ H k. (n, back H k)) | inr f ↦ inr (λ H. (n, f H)) ]

pub once_one : {S A : Type 0} (c : ℕ → Bool) (T : ℕ → (S → Rel A) → Rel A) → ((b : ℕ) → OnceIn (T b)) → OnceIn (λ G. One c (λ b. T b G))
once_one c T t G s v (b, z, e, l, h) = elim (t b G z v h) [ inl (y, w, g, back) ↦ inl (y, w, g, λ H k. (b, z, e, l, back H k)) | inr f ↦ inr (λ H. (b, z, e, l, f H)) ]

pub once_run : {S A : Type 0} (c : ℕ → Bool) (T : List ℕ → (S → Rel A) → Rel A) → ((x : List ℕ) → OnceIn (T x)) → OnceIn (λ G. Run c (λ x. T x G))
once_run c T t G s v (x, z, e, a, n, h) = elim (t x G z v h) [ inl (y, w, g, back) ↦ inl (y, w, g, λ H k. (x, z, e, a, n, back H k)) | inr f ↦ inr (λ H. (x, z, e, a, n, f H)) ]

pub once_few : {S A : Type 0} (c : ℕ → Bool) (m : ℕ) (T : List ℕ → (S → Rel A) → Rel A) → ((x : List ℕ) → OnceIn (T x)) → OnceIn (λ G. Few c m (λ x. T x G))
once_few c m T t G s v (x, z, e, a, l, n, h) = elim (t x G z v h) [ inl (y, w, g, back) ↦ inl (y, w, g, λ H k. (x, z, e, a, l, n, back H k)) | inr f ↦ inr (λ H. (x, z, e, a, l, n, f H)) ]

pub once_blanks : {S A : Type 0} (T : (S → Rel A) → Rel A) → OnceIn T → OnceIn (λ G. Blanks (T G))
once_blanks T t = once_run is_space (λ x. T) (λ x. t)

pub once_sign : {S A : Type 0} (c : ℕ) (T : (S → Rel A) → Rel A) → OnceIn T → OnceIn (λ G. Sign c (T G))
once_sign c T t = once_lit (c ∷ []) (λ G. Blanks (T G)) (once_blanks T t)

pub once_name : {S A : Type 0} (T : List ℕ → (S → Rel A) → Rel A) → ((n : List ℕ) → OnceIn (T n)) → OnceIn (λ G. Name (λ n. T n G))
once_name T t = once_one is_letter (λ b G. Run is_word (λ x. Blanks (T (b ∷ x) G))) (λ b. once_run is_word (λ x G. Blanks (T (b ∷ x) G)) (λ x. once_blanks (T (b ∷ x)) (t (b ∷ x))))

pub once_digits : {S A : Type 0} (m : ℕ) (T : List ℕ → (S → Rel A) → Rel A) → ((x : List ℕ) → OnceIn (T x)) → OnceIn (λ G. Digits m (λ x. T x G))
once_digits m T t = once_one is_digit (λ b G. Few is_digit m (λ x. T (b ∷ x) G)) (λ b. once_few is_digit m (λ x. T (b ∷ x)) (λ x. t (b ∷ x)))

pub once_tail : {S A : Type 0} (T : (S → Rel A) → Rel A) → OnceIn T → OnceIn (λ G. Tail (T G))
once_tail T t = once_not is_word (λ G. Blanks (T G)) (once_blanks T t)

pub once_number : {S A : Type 0} (T : ℕ → (S → Rel A) → Rel A) → ((n : ℕ) → OnceIn (T n)) → OnceIn (λ G. Number (λ n. T n G))
once_number T t = once_digits 5 (λ x G. Or (Lit (46 ∷ []) (Digits 2 (λ y. Tail (T (digits 0 x * 1000 + decimals y) G)))) (Not is_point (Tail (T (digits 0 x * 1000) G))))
    (λ x. once_or (λ G. Lit (46 ∷ []) (Digits 2 (λ y. Tail (T (digits 0 x * 1000 + decimals y) G)))) (λ G. Not is_point (Tail (T (digits 0 x * 1000) G)))
    (once_lit (46 ∷ []) (λ G. Digits 2 (λ y. Tail (T (digits 0 x * 1000 + decimals y) G))) (once_digits 2 (λ y G. Tail (T (digits 0 x * 1000 + decimals y) G)) (λ y. once_tail (T (digits 0 x * 1000 + decimals y)) (t (digits 0 x * 1000 + decimals y)))))
    (once_not is_point (λ G. Tail (T (digits 0 x * 1000) G)) (once_tail (T (digits 0 x * 1000)) (t (digits 0 x * 1000)))))

pub once_words : {S A K : Type 0} (ws : List (List ℕ × K)) (T : K → (S → Rel A) → Rel A) → ((j : K) → OnceIn (T j)) → OnceIn (λ G. Words ws (λ j. T j G))
once_words [] T t G s v h = absurd h
once_words (w ∷ ws) T t G s v (inl h) = elim (once_lit w.0 (T w.1) (t w.1) G s v h) [ inl (y, u, g, back) ↦ inl (y, u, g, λ H k. inl (back H k)) | inr f ↦ inr (λ H. inl (f H)) ]
once_words (w ∷ ws) T t G s v (inr h) = elim (once_words ws T t G s v h) [ inl (y, u, g, back) ↦ inl (y, u, g, λ H k. inr (back H k)) | inr f ↦ inr (λ H. inr (f H)) ]

pub once_raw_name : {S A : Type 0} (T : List ℕ → (S → Rel A) → Rel A) → ((n : List ℕ) → OnceIn (T n)) → OnceIn (λ G. RawName (λ n. T n G))
once_raw_name T t = once_one is_letter (λ b G. Run is_word (λ x. T (b ∷ x) G)) (λ b. once_run is_word (λ x G. T (b ∷ x) G) (λ x. t (b ∷ x)))

pub once_nonzero : {S A : Type 0} (m a : ℕ) (T : ℕ → (S → Rel A) → Rel A) → ((n : ℕ) → OnceIn (T n)) → OnceIn (λ G. Nonzero m a (λ n. T n G))
once_nonzero m a T t G s v (x, z, e, i, l, n, nz, h) = elim (t (digits a x) G z v h) [ inl (y, w, g, back) ↦ inl (y, w, g, λ H k. (x, z, e, i, l, n, nz, back H k)) | inr f ↦ inr (λ H. (x, z, e, i, l, n, nz, f H)) ]

pub once_ratio : {S A : Type 0} (T : ℕ → ℕ → (S → Rel A) → Rel A) → ((n m : ℕ) → OnceIn (T n m)) → OnceIn (λ G. Ratio (λ n m. T n m G))
once_ratio T t = once_digits 3 (λ x G. Lit (47 ∷ []) (Nonzero 4 0 (λ m. Tail (T (digits 0 x) m G))))
    (λ x. once_lit (47 ∷ []) (λ G. Nonzero 4 0 (λ m. Tail (T (digits 0 x) m G))) (once_nonzero 4 0 (λ m G. Tail (T (digits 0 x) m G)) (λ m. once_tail (T (digits 0 x) m) (t (digits 0 x) m))))
