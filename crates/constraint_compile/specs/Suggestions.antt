-- The row of a suggestion that an attribute of a view has a value.
use Rattle.std.specs.Prelude.{ℕ, ◌*◌, ◌<◌, ◌≤◌, ◌==◌, if◌then◌else◌, List, [], ◌∷◌, ◌++◌}
use Rattle.std.specs.Prelude.{Option, Some, None, pos}
use Rattle.problem_core.specs.declared.parts.Rel.TheVariants.{Eq}
use Rattle.problem_core.specs.declared.parts.Term.{Term}
use Rattle.problem_core.specs.Layout.{Row}
use Rattle.problem_core.specs.declared.limits.TheConstants.{NUMBER_LIMIT, REQUIRED}
use Rattle.span_text.specs.Objects.{Meant}
use Rattle.span_text.specs.Objects as object
use Rattle.span_text.specs.declared.limits.TheConstants.{UNIT}
use Rattle.script_text.specs.Directions.{turned}
use Rattle.script_text.specs.declared.words.AttrWord.{AttrWord}
use Rattle.view_tree.specs.declared.limits.TheConstants.{ID_LIMIT}
use Rattle.compile_parts.specs.Meaning.{attr_sum, edge_in, size_in}
use Rattle.compile_parts.specs.declared.shares.AttrSum.{AttrSum}
use Rattle.constraint_compile.specs.declared.suggestion.Suggestion.{Suggestion}
use Rattle.constraint_compile.specs.declared.suggestion.TheConstants.{USUAL_RANK}

-- so many times the attribute of this number
abbrev pub one_term : ℕ → ℕ → Term
one_term attr by = record { attr = attr; by = pos by }

-- the number that makes the attribute's halves whole
abbrev pub scale_of : AttrWord → ℕ
scale_of w = (attr_sum w).scale

-- so many times the attribute of this number, unless that is 0
abbrev pub some_term : ℕ → ℕ → List Term
some_term attr by = if by == 0 then [] else one_term attr by ∷ []

-- the sum in the attributes of the view v
abbrev pub terms_in : ℕ → AttrSum → List Term
terms_in v s = some_term (edge_in s.is_across v) s.edge ++ some_term (size_in s.is_across v) s.size

-- so many times the attribute of the view v, by the four kept ones
abbrev pub suggested_terms : ℕ → AttrWord → List Term
suggested_terms v w = terms_in v (attr_sum w)

-- the row with these terms
abbrev pub with_terms : Suggestion → List Term → Row
with_terms s terms = record {
  id = s.row;
  rank = s.rank;
  weight = 1;
  rel = Eq;
  scale = scale_of s.word;
  constant = s.constant;
  terms = terms;
}

-- the row of a suggestion: the attribute that its word names in its direction, so many times as makes its
-- halves whole, is the constant (`leading` and `trailing` have no halves in either direction)
abbrev pub suggested_row : Suggestion → Row
suggested_row s = with_terms s (suggested_terms s.view (turned s.direction s.word))

-- the numbers are those of a row and of a view
pub record IsSuggestion (s : Suggestion) : Type 0 where
  pub row : (0 < s.row) × (s.row < NUMBER_LIMIT)
  pub rank : s.rank ≤ REQUIRED
  pub view : s.view < ID_LIMIT

-- the priority, or this usual one if none is written
abbrev pub priority_or : ℕ → Option Meant → Option Meant
priority_or usual None = Some (object.Number (pos (usual * UNIT)))
priority_or usual (Some priority) = Some priority

-- the priority of a suggestion
abbrev pub suggested_priority : Option Meant → Option Meant
suggested_priority priority = priority_or USUAL_RANK priority
