-- A number or a ratio has its reader.
use Rattle.std.proofs.Common.{◌≡◌, ℕ, ◌<◌, ◌≤◌, ◌*◌, ◌+◌, true, false, cond, nat_le, List, [], ◌∷◌, length, Result, Err, inl, inr, refl, sym, ap, ◌∙◌, arith}
use Rattle.std.proofs.lemmas.Bool.Decides.{nat_tests, eqb_tells}
use Rattle.span_text.specs.Language.{Rel, Lit, Not, Or, Where, Answers}
use Rattle.span_text.specs.Classes.{is_space, is_digit}
use Rattle.span_text.specs.Digits.{digits, Nonzero}
use Rattle.span_text.specs.Reading.{◌>>=◌, starts}
use Rattle.span_text.specs.Tokens.{Tail, Digits, Number, Ratio, decimals, is_point, below_at}
use Rattle.span_text.specs.Multiples.{is_slash, number_end_at, as_number, as_ratio, multiple_at}
use Rattle.span_text.specs.declared.multiples.Multiple.{Multiple}
use Rattle.span_text.specs.declared.multiples.Multiple.TheVariants as multiple
use Rattle.span_text.proofs.PieceLemmas.{Lives, begins, agree_same, or_answers, Never}
use Rattle.span_text.proofs.TokensLemmas.{bind_assoc, bind_cond, number_end_lives, number_lives, number_part, number_whole, below_answers, valued_answers, lit_only, lit_never, not_never, or_never, left_lives}
use Rattle.span_text.proofs.Factors.{digits_or, blanks_never, or_where_answers}

-- behind a number's whole digits
abbrev NumberEnd : {A : Type 0} → (ℕ → Rel A) → List ℕ → Rel A
NumberEnd F x = Or (Lit (46 ∷ []) (Digits 2 (λ y. Tail (F (digits 0 x * 1000 + decimals y))))) (Not is_point (Tail (F (digits 0 x * 1000))))

-- behind a ratio's upper digits
abbrev RatioEnd : {A : Type 0} → (ℕ → ℕ → Rel A) → List ℕ → Rel A
RatioEnd G x = Lit (47 ∷ []) (Nonzero 4 0 (λ d. Tail (G (digits 0 x) d)))

pub space_is_no_slash : (b : ℕ) → is_space b ≡ true → is_slash b ≡ false
space_is_no_slash b h = elim (eqb_tells b 47) [ inl q ↦ (let e : is_space 47 ≡ true = ap is_space (sym q.1) ∙ h in absurd cc) | inr q ↦ q.0 ]

tail_never : {A : Type 0} (F : Rel A) → Never is_slash F → Never is_slash (Tail F)
tail_never F never s v h = blanks_never is_slash F space_is_no_slash never s v h.1

number_end_never : {A : Type 0} (F : ℕ → Rel A) → ((n : ℕ) → Never is_slash (F n)) → (x : List ℕ) → Never is_slash (NumberEnd F x)
number_end_never F never x = or_never is_slash (Lit (46 ∷ []) (Digits 2 (λ y. Tail (F (digits 0 x * 1000 + decimals y))))) (Not is_point (Tail (F (digits 0 x * 1000))))
    (lit_never _ is_slash 46 [] refl) (λ s v h. tail_never (F (digits 0 x * 1000)) (never (digits 0 x * 1000)) s v h.1)

number_end_answers : {A : Type 0} (F : ℕ → Rel A) (k : ℕ → List ℕ → Result A ℕ) → ((n : ℕ) → Lives is_space (F n)) → (x u : List ℕ) → ((n : ℕ) (t : List ℕ) → length t ≤ length u → Answers (F n) t (k n t)) → Answers (NumberEnd F x) u (number_end_at (digits 0 x) u >>= λ r. k r.0 r.1)
unfolding number_end_at
number_end_answers F k lives x u goes = rw bind_cond (or_answers is_point (Lit (46 ∷ []) (Digits 2 (λ y. Tail (F (digits 0 x * 1000 + decimals y))))) (Not is_point (Tail (F (digits 0 x * 1000)))) _ _
    (lit_only _ is_point 46 [] refl) (not_never _ is_point) (begins (number_end_lives F x lives)) u (number_part F k lives x u goes) (number_whole F k lives x u goes))

four_from_test : (n : ℕ) → nat_le n 4 ≡ true → n ≤ 4
four_from_test n h = grind (arith, nat_tests)

test_from_four : (n : ℕ) → n ≤ 4 → nat_le n 4 ≡ true
test_from_four n h = grind (arith, nat_tests)

pub multiple_answers : {A : Type 0} (F : ℕ → Rel A) (G : ℕ → ℕ → Rel A) (k : Multiple → List ℕ → Result A ℕ)
    → ((n : ℕ) → Lives is_space (F n)) → ((n m : ℕ) → Lives is_space (G n m)) → ((n : ℕ) → Never is_slash (F n)) → (s : List ℕ)
    → ((n : ℕ) (t : List ℕ) → length t < length s → Answers (F n) t (k (multiple.Number n) t))
    → ((n m : ℕ) (t : List ℕ) → length t < length s → Answers (G n m) t (k (multiple.Ratio n m) t))
    → Answers (Or (Number F) (Ratio G)) s (multiple_at s >>= λ r. k r.0 r.1)
unfolding multiple_at
multiple_answers F G k lives ratio_lives never s goes ratio_goes = rw bind_assoc
    (agree_same (Or (Number F) (Ratio G)) (Digits 5 (λ x. Or (NumberEnd F x) (Where (length x ≤ 4) (RatioEnd G x)))) s _
    (begins (left_lives is_space (Ratio G) (number_lives is_space refl lives)))
    (digits_or 5 3 (omega arith) (NumberEnd F) (RatioEnd G))
    (valued_answers 5 (λ x. Or (NumberEnd F x) (Where (length x ≤ 4) (RatioEnd G x)))
    (λ v c t. cond (starts is_slash t) (cond (nat_le c 4) (below_at v t >>= as_ratio) (Err (length t))) (number_end_at v t >>= as_number) >>= λ r. k r.0 r.1)
    (λ x. left_lives is_digit (Where (length x ≤ 4) (RatioEnd G x)) (number_end_lives F x lives)) s
    (λ x t h. rw (bind_cond, bind_cond) (or_where_answers is_slash (NumberEnd F x) (RatioEnd G x) (length x ≤ 4) (nat_le (length x) 4) _ _
    (four_from_test (length x)) (test_from_four (length x))
    (lit_only _ is_slash 47 [] refl) (number_end_never F never x) (begins (number_end_lives F x lives)) t
    (rw bind_assoc (number_end_answers F (λ n u. k (multiple.Number n) u) lives x t (λ n u i. goes n u (omega arith))))
    (rw bind_assoc (below_answers (digits 0 x) (G (digits 0 x)) (λ n m u. k (multiple.Ratio n m) u) (ratio_lives (digits 0 x)) t (λ m u i. ratio_goes (digits 0 x) m u (omega arith))))))))
