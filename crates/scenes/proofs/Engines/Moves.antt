-- Stays that move to the values of their attributes.
use Rattle.std.proofs.Common.{◌≡◌, ℕ, List, [], ◌++◌, map, sym, ap, ◌∙◌}
use Rattle.std.proofs.lemmas.List.{append-nil}
use Rattle.frac_core.specs.Fraction.{Fraction}
use Rattle.problem_core.specs.declared.parts.Stay.{Stay}
use Rattle.layout_solver.specs.Layouts.{AreApart, stays_at, zeros}
use Rattle.layout_solver.proofs.Posed.Moves.{moved-is, stays-added}
use Rattle.scenes.specs.Scene.{moved}

abbrev at : ℕ × Fraction → ℕ
at v = v.0

-- no attribute is new
pub moved-still : (stays : List Stay) (values : List (ℕ × Fraction)) → map at values ≡ map (λ s. s.attr) stays → AreApart values → moved stays values ≡ stays_at (values ++ zeros [])
moved-still stays values same apart = moved-is stays values same apart ∙ ap stays_at (sym (append-nil values))

-- some attributes are new
pub moved-added : (stays : List Stay) (values : List (ℕ × Fraction)) (attrs : List ℕ) → map at values ≡ map (λ s. s.attr) stays → AreApart values → moved stays values ++ stays_at (zeros attrs) ≡ stays_at (values ++ zeros attrs)
moved-added stays values attrs same apart =
    ap (λ (ss : List Stay). ss ++ stays_at (zeros attrs)) (moved-is stays values same apart) ∙ stays-added values attrs
