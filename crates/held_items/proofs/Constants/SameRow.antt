-- Rows with the same parts are one row.
use Rattle.std.proofs.Common.{◌≡◌, ℕ, List, ap, ◌∙◌}
use Rattle.frac_core.specs.Fraction.{Fraction}
use Rattle.problem_core.specs.declared.parts.Rel.{Rel}
use Rattle.problem_core.specs.declared.parts.Term.{Term}
use Rattle.problem_core.specs.Layout.{Row}

row_of : ℕ → ℕ → ℕ → Rel → ℕ → Fraction → List Term → Row
row_of id rank weight rel scale constant terms = record { id = id; rank = rank; weight = weight; rel = rel; scale = scale; constant = constant; terms = terms }

pub same-row : (a b : Row) → (a.id ≡ b.id) × (a.rank ≡ b.rank) × (a.weight ≡ b.weight) × (a.rel ≡ b.rel) → (a.scale ≡ b.scale) × (a.constant ≡ b.constant) × (a.terms ≡ b.terms) → a ≡ b
unfolding row_of
same-row a b (id, rank, weight, rel) (scale, constant, terms) =
    ap (λ (n : ℕ). row_of n a.rank a.weight a.rel a.scale a.constant a.terms) id
    ∙ ap (λ (n : ℕ). row_of b.id n a.weight a.rel a.scale a.constant a.terms) rank
    ∙ ap (λ (n : ℕ). row_of b.id b.rank n a.rel a.scale a.constant a.terms) weight
    ∙ ap (λ (r : Rel). row_of b.id b.rank b.weight r a.scale a.constant a.terms) rel
    ∙ ap (λ (n : ℕ). row_of b.id b.rank b.weight b.rel n a.constant a.terms) scale
    ∙ ap (λ (f : Fraction). row_of b.id b.rank b.weight b.rel b.scale f a.terms) constant
    ∙ ap (λ (ts : List Term). row_of b.id b.rank b.weight b.rel b.scale b.constant ts) terms
