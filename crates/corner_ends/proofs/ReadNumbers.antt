-- What is read of an inside mark's writing.
use Rattle.std.proofs.Common.{◌≡◌, ◌∙◌, ℕ, List, ℤ, pos, ◌*ℤ◌, ap, subst}
use Rattle.frac_core.specs.Fraction.{Fraction}
use Rattle.problem_core.specs.declared.parts.Mark.{Mark}
use Rattle.problem_core.specs.declared.parts.Term.{Term}
use Rattle.problem_core.specs.declared.stops.What.TheVariants.{Mark as MarkOf}
use Rattle.problem_core.specs.Layout.{Problem, coefficient}
use Rattle.problem_core.specs.Corners.{IsWritingOf, place}
use Rattle.corner_laws.specs.Runs.{Writes, Writing}
use Rattle.corner_laws.proofs.MarkWritings.Equations.{writings_are_equal}
use Rattle.corner_view.specs.Seen.{IsCoefficientOf, IsKeptCorner, IsScaleOf}

same-writing : (p : Problem) (at : List Mark) (c d : ℕ) (scale : ℕ) (form : List Term) (value : Fraction) (w : Writing) → IsKeptCorner p at → d ≡ c → IsWritingOf p at (λ x. x d) scale form value.num value.den → Writes p at c w
    → (scale ≡ w.scale) × ((v : ℕ) → coefficient v form ≡ coefficient v w.form) × (value.num *ℤ pos w.den ≡ w.num *ℤ pos value.den)
same-writing p at c d scale form value w kept e h g =
    writings_are_equal p at (λ x. x c) scale w.scale form w.form value.num w.num value.den w.den kept.corner kept.rays (subst (λ (k : ℕ). IsWritingOf p at (λ x. x k) scale form value.num value.den) e h) g

pub coefficient_is : (p : Problem) (at : List Mark) (m enter : Mark) (z : ℤ) (w : Writing) → IsKeptCorner p at → IsCoefficientOf p at (MarkOf m) enter z → Writes p at (place m) w → z ≡ coefficient (place enter) w.form
coefficient_is p at m enter z w kept (c, (inside, column), (scale, form, value, h, e)) g = e ∙ (same-writing p at (place m) c scale form value w kept column h g).1 (place enter)

pub scale_is : (p : Problem) (at : List Mark) (m : Mark) (z : ℤ) (w : Writing) → IsKeptCorner p at → IsScaleOf p at (MarkOf m) z → Writes p at (place m) w → z ≡ pos w.scale
scale_is p at m z w kept (c, (inside, column), (scale, form, value, h, e)) g = e ∙ ap pos (same-writing p at (place m) c scale form value w kept column h g).0
