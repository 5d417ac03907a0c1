-- From constant to constant.
use Rattle.std.proofs.Common.{◌≡◌, true, false, List, [], ◌∷◌, ◌++◌, sym, subst}
use Rattle.frac_core.specs.Fraction.{Fraction}
use Rattle.sweep_laws.specs.Stretches.{Cover, Stretch, end_of, start_of}
use Rattle.sweep_run.specs.Slides.{CoverTo, rising}

-- each begins where the one before ends, from `a` to `b`
abbrev pub Steps : Fraction → Fraction → List Stretch → Type 0
Steps a b [] = a ≡ b
Steps a b (s ∷ xs) = (start_of s ≡ a) × Steps (end_of s) b xs

pub steps-append : (a b c : Fraction) (xs ys : List Stretch) → Steps a b xs → Steps b c ys → Steps a c (xs ++ ys)
steps-append a b c [] ys e k = subst (λ (f : Fraction). Steps f c ys) (sym e) k
steps-append a b c (s ∷ xs) ys h k = (h.0, steps-append (end_of s) b c xs ys h.1 k)

pub cover-steps : (a b : Fraction) (xs : List Stretch) → Cover a b xs → Steps a b xs
cover-steps a b [] h = absurd h
cover-steps a b (s ∷ []) h = h
cover-steps a b (s ∷ t ∷ xs) h = (h.0, cover-steps (end_of s) b (t ∷ xs) h.1)

pub steps-cover : (a b : Fraction) (s : Stretch) (xs : List Stretch) → Steps a b (s ∷ xs) → Cover a b (s ∷ xs)
steps-cover a b s [] h = h
steps-cover a b s (t ∷ xs) h = (h.0, steps-cover (end_of s) b t xs h.1)

pub up-steps : (a b : Fraction) (xs : List Stretch) → CoverTo true a b xs → Steps a b xs
up-steps a b [] e = e
up-steps a b (s ∷ xs) h = cover-steps a b (s ∷ xs) h

pub down-steps : (a b : Fraction) (xs : List Stretch) → CoverTo false a b xs → Steps b a (rising false xs)
down-steps a b [] e = sym e
down-steps a b (s ∷ xs) h = cover-steps b a (rising false (s ∷ xs)) h
