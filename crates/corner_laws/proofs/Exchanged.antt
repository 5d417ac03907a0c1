-- How writings change by an exchange.
use Rattle.std.proofs.Common.{◌≡◌, ◌≢◌, ◌∙◌, ℕ, zero, suc, cond, nat_eq, List, [], ◌∷◌, ◌++◌, map, ℤ, pos, ◌+ℤ◌, ◌*ℤ◌, neg_ℤ, sym, ap, ap₂, arith, inl, inr, ◌⊎◌, Contains, eq-eqb, ne_eqb}
use Rattle.std.proofs.lemmas.Bool.{cases_eq}
use Rattle.frac_core.proofs.Integers.{sign_cases, add-zero_ℤ}
use Rattle.problem_core.specs.declared.parts.Mark.{Mark}
use Rattle.problem_core.specs.declared.parts.Term.{Term}
use Rattle.problem_core.specs.Layout.{Problem, lines, coefficient, value_at}
use Rattle.problem_core.specs.Corners.{IsIn, Swap, exchanged, marks_of, place}
use Rattle.frac_core.proofs.Sums.{sum-append}
use Rattle.problem_core.proofs.Forms.{times, coefficient-times, value-times}
pub use Rattle.corner_laws.specs.Equations.{IsEquationOf}
use Rattle.frac_core.proofs.Numbers.{signed-not-zero as not_zero}

-- ---- the marks after an exchange

pub exchanged_in : (s : Swap) (at : List Mark) (c : ℕ) → IsIn c (exchanged s at) → (c ≡ place s.enter) ⊎ (IsIn c at × (c ≢ place s.leave))
exchanged_in s [] c (k, within, is) = absurd (omega (arith, within))
exchanged_in s (m ∷ ms) c (zero, within, is) =
    elim (cases_eq (place m) (place s.leave)) [
      | inl e ↦ inl (sym is ∙ ap (λ b. place (cond b s.enter m)) (eq-eqb (place m) (place s.leave) e))
      | inr n ↦
          let same : c ≡ place m = sym is ∙ ap (λ b. place (cond b s.enter m)) (ne_eqb (place m) (place s.leave) n) in
          inr ((0, omega arith, sym same), λ e. n (sym same ∙ e))
    ]
exchanged_in s (m ∷ ms) c (suc k, within, is) =
    elim (exchanged_in s ms c (k, omega (arith, within), is)) [
      | inl e ↦ inl e
      | inr r ↦ inr ((suc r.0.0, omega (arith, r.0.1), r.0.2), r.1)
    ]

-- ---- the equation after an exchange

-- g times the form less t times the leaving mark's form, and t times its scale at the leaving mark
abbrev pub combined_form : ℕ → ℤ → ℕ → ℕ → List Term → List Term → List Term
combined_form leave t scale g f l = times (pos g) f ++ (times (neg_ℤ t) l ++ (record { attr = leave; by = t *ℤ pos scale } ∷ []))

one_term : (u v : ℕ) (k : ℤ) → cond (nat_eq u v) k (pos 0) +ℤ pos 0 ≡ cond (nat_eq u v) k (pos 0)
one_term u v k = add-zero_ℤ (cond (nat_eq u v) k (pos 0))

pub combined_coefficient : (leave : ℕ) (t : ℤ) (scale g : ℕ) (f l : List Term) (v : ℕ) → coefficient v (combined_form leave t scale g f l) ≡ pos g *ℤ coefficient v f +ℤ (neg_ℤ t *ℤ coefficient v l +ℤ cond (nat_eq leave v) (t *ℤ pos scale) (pos 0))
combined_coefficient leave t scale g f l v =
    sum-append (λ e. cond (nat_eq e.attr v) e.by (pos 0)) (times (pos g) f) (times (neg_ℤ t) l ++ (record { attr = leave; by = t *ℤ pos scale } ∷ []))
    ∙ ap₂ ◌+ℤ◌ (coefficient-times v (pos g) f)
    (sum-append (λ e. cond (nat_eq e.attr v) e.by (pos 0)) (times (neg_ℤ t) l) (record { attr = leave; by = t *ℤ pos scale } ∷ [])
    ∙ ap₂ ◌+ℤ◌ (coefficient-times v (neg_ℤ t) l) (one_term leave v (t *ℤ pos scale)))

pub combined_value : (n : ℕ → ℤ) (leave : ℕ) (t : ℤ) (scale g : ℕ) (f l : List Term) → value_at n (combined_form leave t scale g f l) ≡ pos g *ℤ value_at n f +ℤ (neg_ℤ t *ℤ value_at n l +ℤ ((t *ℤ pos scale) *ℤ n leave +ℤ pos 0))
combined_value n leave t scale g f l =
    sum-append (λ e. e.by *ℤ n e.attr) (times (pos g) f) (times (neg_ℤ t) l ++ (record { attr = leave; by = t *ℤ pos scale } ∷ []))
    ∙ ap₂ ◌+ℤ◌ (value-times n (pos g) f)
    (sum-append (λ e. e.by *ℤ n e.attr) (times (neg_ℤ t) l) (record { attr = leave; by = t *ℤ pos scale } ∷ [])
    ∙ ap (λ (z : ℤ). z +ℤ ((t *ℤ pos scale) *ℤ n leave +ℤ pos 0)) (value-times n (neg_ℤ t) l))

-- whether the form's coefficient is 0, or the column is an outside mark's
pub zero-or-out : (p : Problem) (at : List Mark) (form : List Term) (v : ℕ) → ((u : ℕ) → coefficient u form ≢ pos 0 → Contains (map place (marks_of (lines p))) u × (IsIn u at → ⊥)) → (coefficient v form ≡ pos 0) ⊎ (Contains (map place (marks_of (lines p))) v × (IsIn v at → ⊥))
zero-or-out p at form v out =
    elim (sign_cases (coefficient v form)) [
      | inl z ↦ inl z
      | inr s ↦ inr (out v (not_zero (coefficient v form) s))
    ]

-- ---- an exchange that takes a mark of the problem out and brings another one in
pub record MayExchange (p : Problem) (at : List Mark) (s : Swap) : Type 0 where
  pub mark : Contains (map place (marks_of (lines p))) (place s.leave)
  pub other : place s.enter ≢ place s.leave
