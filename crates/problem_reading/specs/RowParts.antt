-- The two parts of a row's line: what stands before its terms, and the terms.
use Rattle.std.specs.Prelude.{◌≤◌, ◌<◌, List, [], ◌∷◌, ℕ, length, All, AllPairs, codes, decimal}
use Rattle.frac_core.specs.Fraction.{IsKept}
use Rattle.frac_core.specs.Text.{fraction_text}
use Rattle.problem_core.specs.declared.parts.Term.{Term}
use Rattle.problem_core.specs.Kept.{IsNumber, IsTerm}
use Rattle.problem_core.specs.declared.limits.TheConstants.{COEFFICIENT_LIMIT, REQUIRED, TERM_LIMIT}
use Rattle.problem_core.specs.declared.limits.TheConstants.{WEIGHT_LIMIT}
use Rattle.problem_core.specs.Layout.{Row, rel_word}
use Rattle.problem_reading.specs.declared.problem.row_lines.Head.{Head}

-- the words of a row before its terms
abbrev pub head_words : Head → List (List ℕ)
head_words h = codes "row" ∷ decimal h.id ∷ decimal h.rank ∷ decimal h.weight ∷ rel_word h.rel
    ∷ decimal h.scale ∷ fraction_text h.constant ∷ []

-- the numbers before the terms are within their limits, and the constant is in lowest terms and fits
pub record IsHead (h : Head) : Type 0 where
  pub number : IsNumber h.id
  pub rank : h.rank ≤ REQUIRED
  pub weight_above : 1 ≤ h.weight
  pub weight : h.weight ≤ WEIGHT_LIMIT
  pub scale_above : 1 ≤ h.scale
  pub scale : h.scale ≤ COEFFICIENT_LIMIT
  pub constant : IsKept h.constant

-- the terms of a row: not too many, and their attributes rise
pub record AreTerms (terms : List Term) : Type 0 where
  pub each : All IsTerm terms
  pub rising : AllPairs (λ s t. s.attr < t.attr) terms
  pub count : length terms ≤ TERM_LIMIT

-- the row of these parts
abbrev pub row_from : Head → List Term → Row
row_from h terms = record {
  id = h.id;
  rank = h.rank;
  weight = h.weight;
  rel = h.rel;
  scale = h.scale;
  constant = h.constant;
  terms = terms;
}
