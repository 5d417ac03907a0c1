-- The parts of a compiled line.
use Rattle.std.specs.Prelude.{◌≡◌, ◌<◌, ◌≤◌, List, map, length, All, AllPairs}
use Rattle.std.specs.String.{string_bytes}
use Rattle.frac_core.specs.Fraction.{Fraction}
use Rattle.problem_core.specs.Layout.{Row}
use Rattle.problem_core.specs.Kept.{IsTerm}
use Rattle.problem_core.specs.declared.limits.TheConstants.{NUMBER_LIMIT, REQUIRED, TERM_LIMIT}
use Rattle.view_tree.specs.declared.view.ViewId.{ViewId}
use Rattle.constraint_compile.specs.Compiled as compiled
use Rattle.compile_parts.specs.Meaning.{IsWeight}
use Rattle.compile_parts.specs.Steps.{last_scale}
use Rattle.compile_parts.specs.Keeps.{steps_view, AreScalesKept}
use Rattle.constraint_compile.specs.declared.compiled.RowForm.{RowForm}

-- a row without its constant, with the names of the metrics in its steps
abbrev pub form_view : RowForm → compiled.RowForm
form_view r = record {
  id = r.id;
  rank = r.rank;
  weight = r.weight;
  rel = r.rel;
  terms = r.terms.items;
  steps = steps_view (map string_bytes r.names.items) r.steps.items;
}

-- the row of this form with this constant
abbrev pub IsRowWith : RowForm → Fraction → Row → Type 0
IsRowWith form constant row = (row.id ≡ form.id) × (row.rank ≡ form.rank) × (row.weight ≡ form.weight)
    × (row.rel ≡ form.rel) × (row.scale ≡ last_scale (form_view form).steps)
    × (row.terms ≡ form.terms.items) × (row.constant ≡ constant)

-- the line of these rows and these views
abbrev pub compiled_line : List RowForm → List ViewId → compiled.CompiledLine
compiled_line rows views = record { rows = map form_view rows; views = map (λ v. v.0) views }

-- the invariant of each row of a compiled line, whatever its constant
pub record IsForm (r : RowForm) : Type 0 where
  pub number : (0 < r.id) × (r.id < NUMBER_LIMIT)
  pub rank : r.rank ≤ REQUIRED
  pub weight : IsWeight r.weight
  pub each : All IsTerm r.terms.items
  pub rising : AllPairs (λ s t. s.attr < t.attr) r.terms.items
  pub count : length r.terms.items ≤ TERM_LIMIT
  pub scales : AreScalesKept r.steps.items

-- each of the rows keeps it
abbrev pub AreForms : List RowForm → Type 0
AreForms rows = All IsForm rows
