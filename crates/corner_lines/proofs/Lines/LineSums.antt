-- Sums of lines that cancel.
use Rattle.std.proofs.Common.{◌≡◌, ◌∙◌, ℕ, ℤ, pos, ◌+ℤ◌, ◌*ℤ◌, ap, ap₂}
use Rattle.frac_core.proofs.Integers.{add-mul_right, mul_assoc_ℤ, mul-zero_ℤ}
use Rattle.problem_core.specs.declared.parts.RowName.{RowName}
use Rattle.problem_core.specs.Layout.{Problem, coefficient, lines, sum_of}
use Rattle.problem_core.proofs.Forms.{mul-sum, sum-add, sum-cong}

-- the lines cancel when each is taken so often
abbrev pub Cancel : Problem → (RowName → ℤ) → Type 0
Cancel p y = (v : ℕ) → sum_of (λ l. y l.name *ℤ coefficient v l.form) (lines p) ≡ pos 0

both-times : (g t a b c : ℤ) → (g *ℤ a +ℤ t *ℤ b) *ℤ c ≡ g *ℤ (a *ℤ c) +ℤ t *ℤ (b *ℤ c)
both-times g t a b c = add-mul_right (g *ℤ a) (t *ℤ b) c ∙ ap₂ ◌+ℤ◌ (mul_assoc_ℤ g a c) (mul_assoc_ℤ t b c)

pub both-cancel : (p : Problem) (g t : ℤ) (a b : RowName → ℤ) → Cancel p a → Cancel p b → Cancel p (λ name. g *ℤ a name +ℤ t *ℤ b name)
both-cancel p g t a b h k v =
    sum-cong (λ l. (g *ℤ a l.name +ℤ t *ℤ b l.name) *ℤ coefficient v l.form) (λ l. g *ℤ (a l.name *ℤ coefficient v l.form) +ℤ t *ℤ (b l.name *ℤ coefficient v l.form)) (lines p) (λ l. both-times g t (a l.name) (b l.name) (coefficient v l.form))
    ∙ sum-add (λ l. g *ℤ (a l.name *ℤ coefficient v l.form)) (λ l. t *ℤ (b l.name *ℤ coefficient v l.form)) (lines p)
    ∙ ap₂ ◌+ℤ◌ (mul-sum g (λ l. a l.name *ℤ coefficient v l.form) (lines p) ∙ ap (λ (z : ℤ). g *ℤ z) (h v) ∙ mul-zero_ℤ g)
    (mul-sum t (λ l. b l.name *ℤ coefficient v l.form) (lines p) ∙ ap (λ (z : ℤ). t *ℤ z) (k v) ∙ mul-zero_ℤ t)
