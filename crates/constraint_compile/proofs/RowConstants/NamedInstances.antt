-- A row that names a metric in its second term alone, and one that names none.
use Rattle.std.proofs.Common.{◌≡◌, ℕ, true, false, List, [], ◌∷◌, pos, refl}
use Rattle.frac_core.specs.Fraction.{Fraction}
use Rattle.problem_core.specs.declared.parts.Rel.TheVariants.{Eq}
use Rattle.compile_parts.specs.Meaning.{Part, Nothing, Number, Multiple}
use Rattle.constraint_compile.specs.Compiled.{RowForm}
use Rattle.compile_parts.specs.Steps.{Step}
use Rattle.constraint_compile.specs.Naming.{names_metric, naming}

abbrev gap : List ℕ
gap = 103 ∷ 97 ∷ 112 ∷ []

abbrev pad : List ℕ
pad = 112 ∷ 97 ∷ 100 ∷ []

abbrev whole : ℕ → Fraction
whole n = record { num = pos n; den = 1 }

abbrev step : Part → Step
step part = record { scale = 1; part = part }

abbrev row : ℕ → List Step → RowForm
row id steps = record { id = id; rank = 1000; weight = 1; rel = Eq; terms = []; steps = steps }

abbrev second : RowForm
second = row 1 (step Nothing ∷ step (Multiple (whole 2) gap) ∷ [])

abbrev none : RowForm
none = row 2 (step Nothing ∷ step (Number (whole 8)) ∷ [])

pub second-names : names_metric gap second ≡ true
second-names = refl

pub second-names-no-other : names_metric pad second ≡ false
second-names-no-other = refl

pub none-names : names_metric gap none ≡ false
none-names = refl

pub naming-one : naming gap (none ∷ second ∷ []) ≡ second ∷ []
naming-one = refl
