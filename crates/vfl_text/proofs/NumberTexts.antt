-- The text of a number is a number of the grammar.
use Rattle.std.proofs.Common.{◌≡◌, ℕ, ◌+◌, ◌-◌, ◌*◌, ◌/◌, ◌%◌, ◌^◌, ◌<◌, ◌≤◌, Bool, true, false, List, [], ◌∷◌, ◌++◌, length, inl, inr, refl, subst, ◌∙◌, arith, length-append, append_assoc}
use Rattle.std.specs.Prelude.{decimal}
use Rattle.std.proofs.lemmas.Bool.Decides.{nat_tests, eqb_tells}
use Rattle.std.proofs.lemmas.Fmt.{decimal_by_steps, length-decimal-le}
use Rattle.span_text.specs.Language.{Rel, AllIn, NotStart, Lit, Not, Or}
use Rattle.span_text.specs.Classes.{is_space, is_digit, is_letter, is_word}
use Rattle.span_text.specs.Digits.{digits}
use Rattle.span_text.specs.Tokens.{Blanks, Tail, Sign, Name, Digits, Number, decimals, is_point}
use Rattle.vfl_text.specs.Text.{decimals_text, number_text}
use Rattle.vfl_text.specs.Writable.{IsName}

-- what may stand behind a name or a number with no space between them
pub record IsApart (s : List ℕ) : Type 0 where
  pub word : NotStart is_word s
  pub space : NotStart is_space s
  pub point : NotStart is_point s

digits_more : (a : ℕ) (x : List ℕ) (b : ℕ) → digits a (x ++ b ∷ []) ≡ 10 * digits a x + (b - 48)
digits_more a [] b = refl
digits_more a (c ∷ x) b = digits_more (10 * a + (c - 48)) x b

all_more : (c : ℕ → Bool) (x : List ℕ) (b : ℕ) → AllIn c x → c b ≡ true → AllIn c (x ++ b ∷ [])
all_more c [] b h e = (e, tt)
all_more c (d ∷ x) b h e = (h.0, all_more c x b h.1 e)

digit_is : (d : ℕ) → d < 10 → is_digit (48 + d) ≡ true
digit_is d h = grind (arith, nat_tests)

abbrev IsText : ℕ → List ℕ → Type 0
IsText n x = AllIn is_digit x × (digits 0 x ≡ n) × (1 ≤ length x)

decimal_is : (n : ℕ) → n < 2 ^ 64 → IsText n (decimal n)
decimal_is n small = decimal_by_steps IsText
    (λ m h. ((digit_is m h, tt), omega arith, omega arith))
    (λ m ds h t. (all_more is_digit ds (48 + m % 10) t.0 (digit_is (m % 10) (omega arith)), digits_more 0 ds (48 + m % 10) ∙ (let e = t.1 in omega (arith, e)), (let l = length-append ds ((48 + m % 10) ∷ []) in omega (arith, l))))
    n small

-- a text that stands where one of the language may
pub blanks_made : {A : Type 0} (F : Rel A) (s : List ℕ) (v : A) → NotStart is_space s → F s v → Blanks F s v
blanks_made F s v n h = ([], s, refl, tt, n, h)

pub tail_made : {A : Type 0} (F : Rel A) (s : List ℕ) (v : A) → IsApart s → F s v → Tail F s v
tail_made F s v apart h = (apart.word, blanks_made F s v apart.space h)

pub sign_made : {A : Type 0} (c : ℕ) (F : Rel A) (s : List ℕ) (v : A) → NotStart is_space s → F s v → Sign c F (c ∷ s) v
sign_made c F s v n h = (s, refl, blanks_made F s v n h)

pub name_made : {A : Type 0} (F : List ℕ → Rel A) (n s : List ℕ) (v : A) → IsName n → IsApart s → F n s v → Name F (n ++ s) v
name_made F [] s v is apart h = absurd is
name_made F (b ∷ x) s v is apart h = (b, x ++ s, refl, is.0, (x, s, refl, is.1, apart.word, blanks_made (F (b ∷ x)) s v apart.space h))

digits_made : {A : Type 0} (n : ℕ) (F : List ℕ → Rel A) (x s : List ℕ) (v : A) → AllIn is_digit x → 1 ≤ length x → length x ≤ n + 1 → NotStart is_digit s → F x s v → Digits n F (x ++ s) v
digits_made n F [] s v all some few apart h = absurd (omega arith)
digits_made n F (b ∷ x) s v all some few apart h = (b, x ++ s, refl, all.0, (x, s, refl, all.1, omega arith, apart, h))

word_digit : (s : List ℕ) → NotStart is_word s → NotStart is_digit s
word_digit [] h = tt
word_digit (b ∷ s) h = grind (arith, nat_tests)

-- the decimals of thousandths below 1000, where there are any
decimals_made : {A : Type 0} (w f : ℕ) (F : ℕ → Rel A) (s : List ℕ) (v : A) → f < 1000 → (f ≡ 0 → ⊥) → IsApart s → F (w * 1000 + f) s v
    → (y : List ℕ) × (decimals_text f ≡ 46 ∷ y) × Digits 2 (λ y. Tail (F (w * 1000 + decimals y))) (y ++ s) v
unfolding decimals_text
decimals_made {A} w f F s v small some apart h = elim (eqb_tells f 0) [
  | inl q ↦ absurd (some q.1)
  | inr q ↦ rw q.0 (elim (eqb_tells (f % 100) 0) [
    | inl p ↦ rw p.0 (
      (48 + f / 100) ∷ [],
      refl,
      digits_made 2 (λ y. Tail (F (w * 1000 + decimals y))) ((48 + f / 100) ∷ []) s v (digit_is (f / 100) (omega arith), tt) (omega arith) (omega arith) (word_digit s apart.word)
          (tail_made (F (w * 1000 + decimals ((48 + f / 100) ∷ []))) s v apart (subst (λ (n : ℕ). F (w * 1000 + n) s v) (let e = p.1 in omega (arith, e)) h)),
    )
    | inr p ↦ rw p.0 (elim (eqb_tells (f % 10) 0) [
      | inl o ↦ rw o.0 (
        (48 + f / 100) ∷ (48 + f / 10 % 10) ∷ [],
        refl,
        digits_made 2 (λ y. Tail (F (w * 1000 + decimals y))) ((48 + f / 100) ∷ (48 + f / 10 % 10) ∷ []) s v (digit_is (f / 100) (omega arith), (digit_is (f / 10 % 10) (omega arith), tt)) (omega arith) (omega arith) (word_digit s apart.word)
            (tail_made (F (w * 1000 + decimals ((48 + f / 100) ∷ (48 + f / 10 % 10) ∷ []))) s v apart (subst (λ (n : ℕ). F (w * 1000 + n) s v) (let e = o.1 in omega (arith, e)) h)),
      )
      | inr o ↦ rw o.0 (
        (48 + f / 100) ∷ (48 + f / 10 % 10) ∷ (48 + f % 10) ∷ [],
        refl,
        digits_made 2 (λ y. Tail (F (w * 1000 + decimals y))) ((48 + f / 100) ∷ (48 + f / 10 % 10) ∷ (48 + f % 10) ∷ []) s v (digit_is (f / 100) (omega arith), (digit_is (f / 10 % 10) (omega arith), (digit_is (f % 10) (omega arith), tt))) (omega arith) (omega arith) (word_digit s apart.word)
            (tail_made (F (w * 1000 + decimals ((48 + f / 100) ∷ (48 + f / 10 % 10) ∷ (48 + f % 10) ∷ []))) s v apart (subst (λ (n : ℕ). F (w * 1000 + n) s v) (omega arith) h)),
      )
    ])
  ])
]

decimals_none : (f : ℕ) → f ≡ 0 → decimals_text f ≡ []
unfolding decimals_text
decimals_none f e = rw e refl

decimals_apart : (f : ℕ) (s : List ℕ) → NotStart is_digit s → NotStart is_digit (decimals_text f ++ s)
unfolding decimals_text
decimals_apart f s h = elim (eqb_tells f 0) [ inl q ↦ rw q.0 h | inr q ↦ rw q.0 refl ]

-- behind the digits before the point
number_end : {A : Type 0} (w f : ℕ) (F : ℕ → Rel A) (s : List ℕ) (v : A) → f < 1000 → IsApart s → F (w * 1000 + f) s v
    → Or (Lit (46 ∷ []) (Digits 2 (λ y. Tail (F (w * 1000 + decimals y))))) (Not is_point (Tail (F (w * 1000)))) (decimals_text f ++ s) v
number_end w f F s v small apart h = elim (eqb_tells f 0) [
  | inl q ↦ rw (decimals_none f q.1) (inr (apart.point, tail_made (F (w * 1000)) s v apart (subst (λ (n : ℕ). F n s v) (let e = q.1 in omega (arith, e)) h)))
  | inr q ↦ (let d = decimals_made w f F s v small q.1 apart h in rw d.1 (inl (d.0 ++ s, refl, d.2)))
]

pub number_made : {A : Type 0} (F : ℕ → Rel A) (n : ℕ) (s : List ℕ) (v : A) → n < 10 ^ 9 → IsApart s → F n s v → Number F (number_text n ++ s) v
unfolding number_text
number_made {A} F n s v small apart h =
    let d : IsText (n / 1000) (decimal (n / 1000)) = decimal_is (n / 1000) (omega arith) in
    let short : length (decimal (n / 1000)) ≤ 6 = length-decimal-le 6 (n / 1000) (omega arith) (omega arith) (omega arith) in
    rw (append_assoc (decimal (n / 1000)) (decimals_text (n % 1000)) s)
    (digits_made 5 (λ x. Or (Lit (46 ∷ []) (Digits 2 (λ y. Tail (F (digits 0 x * 1000 + decimals y))))) (Not is_point (Tail (F (digits 0 x * 1000))))) (decimal (n / 1000)) (decimals_text (n % 1000) ++ s) v d.0 d.2 (omega (arith, short))
    (decimals_apart (n % 1000) s (word_digit s apart.word))
    (number_end (digits 0 (decimal (n / 1000))) (n % 1000) F s v (omega arith) apart (subst (λ (m : ℕ). F m s v) (let e = d.1 in omega (arith, e)) h)))

-- what the text of a number or a name doesn't begin with
digits_apart : (d : ℕ → Bool) → ((b : ℕ) → is_digit b ≡ true → d b ≡ false) → (x s : List ℕ) → AllIn is_digit x → 1 ≤ length x → NotStart d (x ++ s)
digits_apart d outside [] s all some = absurd (omega arith)
digits_apart d outside (b ∷ x) s all some = outside b all.0

pub number_apart : (d : ℕ → Bool) → ((b : ℕ) → is_digit b ≡ true → d b ≡ false) → (n : ℕ) (s : List ℕ) → n < 10 ^ 9 → NotStart d (number_text n ++ s)
unfolding number_text
number_apart d outside n s small =
    let t : IsText (n / 1000) (decimal (n / 1000)) = decimal_is (n / 1000) (omega arith) in
    rw (append_assoc (decimal (n / 1000)) (decimals_text (n % 1000)) s) (digits_apart d outside (decimal (n / 1000)) (decimals_text (n % 1000) ++ s) t.0 t.2)

pub name_apart : (d : ℕ → Bool) → ((b : ℕ) → is_letter b ≡ true → d b ≡ false) → (n s : List ℕ) → IsName n → NotStart d (n ++ s)
name_apart d outside [] s is = absurd is
name_apart d outside (b ∷ x) s is = outside b is.0
