-- Two alternatives that begin alike are one.
use Rattle.std.proofs.Common.{◌≡◌, ℕ, suc, ◌≤◌, Bool, true, false, cond, List, [], ◌∷◌, length, Result, Err, ◌⊎◌, inl, inr, sym, subst, arith}
use Rattle.span_text.specs.Classes.{is_space}
use Rattle.span_text.specs.Language.{Rel, Or, Where, Begins, Answers}
use Rattle.span_text.specs.Reading.{starts}
use Rattle.span_text.specs.Tokens.{Digits, Blanks, Number}
use Rattle.span_text.proofs.Answering.{halt, agree}
use Rattle.span_text.proofs.PieceLemmas.{bool_tells, Same, Only, Never}

-- at most n digits or at most m: at most n digits, and then either, the second only behind at most m
pub digits_or : {A : Type 0} (n m : ℕ) → m ≤ n → (F G : List ℕ → Rel A) → Same (Or (Digits n F) (Digits m G)) (Digits n (λ x. Or (F x) (Where (length x ≤ suc m) (G x))))
digits_or n m l F G s v = (
  λ h. elim h [
    | inl (b, t, e, c, (x, u, f, a, k, q, r)) ↦ (b, t, e, c, (x, u, f, a, k, q, inl r))
    | inr (b, t, e, c, (x, u, f, a, k, q, r)) ↦ (b, t, e, c, (x, u, f, a, omega arith, q, inr (omega arith, r)))
  ],
  λ (b, t, e, c, (x, u, f, a, k, q, h)). elim h [
    | inl r ↦ inl (b, t, e, c, (x, u, f, a, k, q, r))
    | inr (i, r) ↦ inr (b, t, e, c, (x, u, f, a, omega arith, q, r))
  ],
)

-- a number behind which stands one thing or another
pub number_or : {A : Type 0} (F G : ℕ → Rel A) → Same (Or (Number F) (Number G)) (Number (λ n. Or (F n) (G n)))
number_or F G s v = (λ h. elim h [ inl y ↦ number_left F G s v y | inr y ↦ number_right F G s v y ], λ h. number_split F G s v h)
  where
    number_left : {A : Type 0} (F G : ℕ → Rel A) (s : List ℕ) (v : A) → Number F s v → Number (λ n. Or (F n) (G n)) s v
    number_left F G s v (b, t, e, c, (x, u, f, a, k, q, inl (z, g, (d, w, i, j, (y, o, l, m, p, r, (n, (g2, h2, i2, j2, k2, y2)))))))
        = (b, t, e, c, (x, u, f, a, k, q, inl (z, g, (d, w, i, j, (y, o, l, m, p, r, (n, (g2, h2, i2, j2, k2, inl y2)))))))
    number_left F G s v (b, t, e, c, (x, u, f, a, k, q, inr (m, (n, (g2, h2, i2, j2, k2, y2))))) = (b, t, e, c, (x, u, f, a, k, q, inr (m, (n, (g2, h2, i2, j2, k2, inl y2)))))

    number_right : {A : Type 0} (F G : ℕ → Rel A) (s : List ℕ) (v : A) → Number G s v → Number (λ n. Or (F n) (G n)) s v
    number_right F G s v (b, t, e, c, (x, u, f, a, k, q, inl (z, g, (d, w, i, j, (y, o, l, m, p, r, (n, (g2, h2, i2, j2, k2, y2)))))))
        = (b, t, e, c, (x, u, f, a, k, q, inl (z, g, (d, w, i, j, (y, o, l, m, p, r, (n, (g2, h2, i2, j2, k2, inr y2)))))))
    number_right F G s v (b, t, e, c, (x, u, f, a, k, q, inr (m, (n, (g2, h2, i2, j2, k2, y2))))) = (b, t, e, c, (x, u, f, a, k, q, inr (m, (n, (g2, h2, i2, j2, k2, inr y2)))))

    number_split : {A : Type 0} (F G : ℕ → Rel A) (s : List ℕ) (v : A) → Number (λ n. Or (F n) (G n)) s v → Number F s v ⊎ Number G s v
    number_split F G s v (b, t, e, c, (x, u, f, a, k, q, inl (z, g, (d, w, i, j, (y, o, l, m, p, r, (n, (g2, h2, i2, j2, k2, inl y2)))))))
        = inl (b, t, e, c, (x, u, f, a, k, q, inl (z, g, (d, w, i, j, (y, o, l, m, p, r, (n, (g2, h2, i2, j2, k2, y2)))))))
    number_split F G s v (b, t, e, c, (x, u, f, a, k, q, inl (z, g, (d, w, i, j, (y, o, l, m, p, r, (n, (g2, h2, i2, j2, k2, inr y2)))))))
        = inr (b, t, e, c, (x, u, f, a, k, q, inl (z, g, (d, w, i, j, (y, o, l, m, p, r, (n, (g2, h2, i2, j2, k2, y2)))))))
    number_split F G s v (b, t, e, c, (x, u, f, a, k, q, inr (m, (n, (g2, h2, i2, j2, k2, inl y2))))) = inl (b, t, e, c, (x, u, f, a, k, q, inr (m, (n, (g2, h2, i2, j2, k2, y2)))))
    number_split F G s v (b, t, e, c, (x, u, f, a, k, q, inr (m, (n, (g2, h2, i2, j2, k2, inr y2))))) = inr (b, t, e, c, (x, u, f, a, k, q, inr (m, (n, (g2, h2, i2, j2, k2, y2)))))

-- spaces are outside the class, so what begins with the class stands without them
pub blanks_never : {A : Type 0} (d : ℕ → Bool) (F : Rel A) → ((b : ℕ) → is_space b ≡ true → d b ≡ false) → Never d F → Never d (Blanks F)
blanks_never d F outside never s v ([], t, e, a, n, h) = subst (λ (x : List ℕ). starts d x ≡ false) (sym e) (never t v h)
blanks_never d F outside never s v (b ∷ x, t, e, a, n, h) = subst (λ (z : List ℕ). starts d z ≡ false) (sym e) (outside b a.0)

-- an alternative that stands only where a test holds
pub or_where_answers : {A : Type 0} (d : ℕ → Bool) (F G : Rel A) (P : Type 0) (c : Bool) (f g : Result A ℕ) → (c ≡ true → P) → (P → c ≡ true) → Only d G → Never d F → Begins F [] → (s : List ℕ)
    → Answers F s f → Answers G s g → Answers (Or F (Where P G)) s (cond (starts d s) (cond c g (Err (length s))) f)
or_where_answers d F G P c f g gives tells only never here [] left right =
    agree (Or F (Where P G)) F [] f (here.0, here.1, here.2, inl here.3) (λ v. (λ h. elim h [ inl y ↦ y | inr (p, y) ↦ absurd (let e : false ≡ true = only [] v y in cc) ], λ y. inl y)) left
or_where_answers d F G P c f g gives tells only never here (b ∷ s) left right = elim (bool_tells (d b)) [
  | inl t ↦ elim (bool_tells c) [
    | inl k ↦ rw (t, k) (agree (Or F (Where P G)) G (b ∷ s) g (here.0, here.1, here.2, inl here.3)
        (λ u v. (λ h. elim h [ inl y ↦ absurd (let e : d b ≡ false = never (b ∷ u) v y in cc) | inr (p, y) ↦ y ], λ y. inr (gives k, y))) right)
    | inr k ↦ rw (t, k) (halt (Or F (Where P G)) (b ∷ s) (here.0, here.1, here.2, inl here.3)
        (λ u v h. elim h [ inl y ↦ (let e : d b ≡ false = never (b ∷ u) v y in cc) | inr (p, y) ↦ (let e : c ≡ true = tells p in cc) ]))
  ]
  | inr t ↦ rw t (agree (Or F (Where P G)) F (b ∷ s) f (here.0, here.1, here.2, inl here.3)
      (λ u v. (λ h. elim h [ inl y ↦ y | inr (p, y) ↦ absurd (let e : d b ≡ true = only (b ∷ u) v y in cc) ], λ y. inl y)) left)
]
