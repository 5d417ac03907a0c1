-- When a line isn't compiled.
use Rattle.std.specs.Prelude.{◌≡◌, ℕ, ◌+◌, ◌<◌, ◌≤◌, true, false, List, [], ◌∷◌, length, map}
use Rattle.std.specs.Prelude.{Bool, Option, None, Some, IfSome, IfNone, slice_index_or, ⊤}
use Rattle.problem_core.specs.declared.limits.TheConstants.{NUMBER_LIMIT, TERM_LIMIT}
use Rattle.name_tables.specs.declared.stops.LimitWord.{LimitWord}
use Rattle.name_tables.specs.declared.stops.LimitWord.TheVariants as limit
use Rattle.view_tree.specs.Views.{LiveView}
use Rattle.script_text.specs.Meaning.{Term, Linear}
use Rattle.compile_parts.specs.Fractions.{IsScale, AreSmall}
use Rattle.compile_parts.specs.Meaning.{MetricList, part, terms_of, sum_at, first_unknown}
use Rattle.compile_parts.specs.Meaning.{has_view_number, IsRank, IsWeight, views_in}
use Rattle.constraint_compile.specs.Coefficients.Sums.{first_sum, HasTooMany, AreTerms}
use Rattle.compile_parts.specs.Steps.{Step, AreSmallSteps}
use Rattle.constraint_compile.specs.Compiled.{RowForm, CompiledLine, AreSmallForms}
use Rattle.compile_parts.specs.Steps.{last_scale}
use Rattle.frac_core.specs.declared.memory.Stop.{Stop}
use Rattle.frac_core.specs.declared.memory.Stop.TheVariants as stop
use Rattle.compile_parts.specs.declared.stops.LargeConstant.{LargeConstant}
use Rattle.compile_parts.specs.declared.stops.CompileStop.{CompileStop}
use Rattle.compile_parts.specs.declared.stops.CompileStop.TheVariants.{Unknown, Kind, Limit, OutOfMemory}
use Rattle.compile_parts.specs.declared.stops.KindWord.{KindWord}
use Rattle.compile_parts.specs.declared.stops.KindWord.TheVariants as kind
use Rattle.compile_parts.specs.declared.limits.TheConstants.{ADDEND_LIMIT}

-- each name of the line that must be a view's or a metric's is one
abbrev pub AreKnown : List LiveView → MetricList → Linear → Type 0
AreKnown views metrics l = first_unknown views metrics l ≡ None

-- the line's priority has a rank
abbrev pub HasRank : List LiveView → MetricList → Linear → Type 0
HasRank views metrics l = (rank : ℕ) × IsRank views metrics l.priority rank

-- the first wrong use of the line
abbrev pub IsWrongUse : List LiveView → MetricList → Linear → KindWord → Type 0
IsWrongUse views metrics l kind.Object = has_view_number views (terms_of l) ≡ true
IsWrongUse views metrics l kind.Priority = (has_view_number views (terms_of l) ≡ false)
    × (HasRank views metrics l → ⊥)
IsWrongUse views metrics l kind.Weight = (has_view_number views (terms_of l) ≡ false)
    × HasRank views metrics l × (IsWeight l.weight → ⊥)
IsWrongUse views metrics l _ = ⊥

-- it is the first wrong use of the line for all views and metrics with which a view is or isn't in place of a
-- number, and the priority has this rank or none
abbrev pub IsWrongNamed : Bool → Option ℕ → Linear → KindWord → Type 0
IsWrongNamed has_number rank l word = (views : List LiveView) (metrics : MetricList)
    → has_number ≡ has_view_number views (terms_of l) → IfSome rank (IsRank views metrics l.priority)
    → IfNone rank (HasRank views metrics l → ⊥) → IsWrongUse views metrics l word

-- each name of the line is known, and no use in it is wrong
pub record IsUsable (views : List LiveView) (metrics : MetricList) (l : Linear) : Type 0 where
  pub known : AreKnown views metrics l
  pub numbers : has_view_number views (terms_of l) ≡ false
  pub rank : HasRank views metrics l
  pub weight : IsWeight l.weight

-- after each term the scale and the coefficients are small
abbrev pub AreSmallSums : List LiveView → List Term → Type 0
AreSmallSums views terms = (i : ℕ) → i < length terms → AreSmall (first_sum views terms (i + 1))

-- the steps are the terms': the scale after each, and its contribution to the constant
pub record AreSteps (views : List LiveView) (terms : List Term) (steps : List Step) : Type 0 where
  pub long : length steps ≡ length terms
  pub scales : (i : ℕ) (d : Step) → i < length terms
      → IsScale (first_sum views terms (i + 1)) (slice_index_or steps i d).scale
  pub parts : map (λ s. s.part) steps ≡ map part terms

-- the row of a sum of terms: its scale, its coefficients, and the steps of its constant
pub record IsSumRow (views : List LiveView) (summed : List Term) (row : RowForm) : Type 0 where
  pub scale : IsScale (sum_at views summed) (last_scale row.steps)
  pub terms : AreTerms (sum_at views summed) (last_scale row.steps) row.terms
  pub few : length row.terms ≤ TERM_LIMIT
  pub steps : AreSteps views summed row.steps

-- the row of a line: its number, rank, weight and relation, and the row of the sum of its terms
pub record IsRowOf (views : List LiveView) (metrics : MetricList) (l : Linear) (number : ℕ)
    (row : RowForm) : Type 0 where
  pub id : row.id ≡ number
  pub rank : IsRank views metrics l.priority row.rank
  pub weight : row.weight ≡ l.weight
  pub rel : row.rel ≡ l.rel
  pub sum : IsSumRow views (terms_of l) row

-- the terms pass no limit of a row whose constant has these steps
pub record IsWithinLimits (views : List LiveView) (metrics : MetricList) (terms : List Term)
    (steps : List Step) : Type 0 where
  pub few : HasTooMany (sum_at views terms) → ⊥
  pub small : AreSmallSums views terms
  pub constants : AreSmallSteps metrics steps

-- a line within all limits, and its compiled form
pub record IsCompiled (views : List LiveView) (metrics : MetricList) (l : Linear) (number : ℕ)
    (c : CompiledLine) : Type 0 where
  pub usable : IsUsable views metrics l
  pub numbers : number < NUMBER_LIMIT
  pub count : length (terms_of l) ≤ ADDEND_LIMIT
  pub row : (r : RowForm) × (c.rows ≡ r ∷ []) × IsRowOf views metrics l number r
      × IsWithinLimits views metrics (terms_of l) r.steps
  pub views_named : c.views ≡ views_in views (terms_of l)

-- the first limit of a row that the terms pass
abbrev pub PassesRowLimit : List LiveView → MetricList → List Term → LimitWord → Type 0
PassesRowLimit views metrics terms limit.Attributes = HasTooMany (sum_at views terms)
PassesRowLimit views metrics terms limit.Coefficient = (HasTooMany (sum_at views terms) → ⊥)
    × (AreSmallSums views terms → ⊥)
PassesRowLimit views metrics terms limit.Constant = (HasTooMany (sum_at views terms) → ⊥)
    × AreSmallSums views terms
    × ((steps : List Step) × AreSteps views terms steps × (AreSmallSteps metrics steps → ⊥))
PassesRowLimit views metrics terms _ = ⊥

-- the first limit that the line passes
abbrev pub PassesLimit : List LiveView → MetricList → Linear → ℕ → LimitWord → Type 0
PassesLimit views metrics l number limit.Rows = NUMBER_LIMIT ≤ number
PassesLimit views metrics l number limit.Terms = (number < NUMBER_LIMIT)
    × (ADDEND_LIMIT < length (terms_of l))
PassesLimit views metrics l number word = (number < NUMBER_LIMIT) × (length (terms_of l) ≤ ADDEND_LIMIT)
    × PassesRowLimit views metrics (terms_of l) word

-- when a line may be refused
abbrev pub MayStop : List LiveView → MetricList → Linear → ℕ → CompileStop → Type 0
MayStop views metrics l number (Unknown name) = first_unknown views metrics l ≡ Some name
MayStop views metrics l number (Kind word) = AreKnown views metrics l × IsWrongUse views metrics l word
MayStop views metrics l number (Limit word) = IsUsable views metrics l
    × PassesLimit views metrics l number word
MayStop views metrics l number OutOfMemory = ⊤

-- why terms have no row
abbrev pub IsRowStop : List LiveView → MetricList → List Term → CompileStop → Type 0
IsRowStop views metrics terms (Limit word) = PassesRowLimit views metrics terms word
IsRowStop views metrics terms OutOfMemory = ⊤
IsRowStop views metrics terms (Unknown name) = ⊥
IsRowStop views metrics terms (Kind word) = ⊥

-- why rows have no constants for these metrics
abbrev pub IsConstantStop : MetricList → List RowForm → Stop LargeConstant → Type 0
IsConstantStop metrics forms (stop.Refused cause) = AreSmallForms metrics forms → ⊥
IsConstantStop metrics forms stop.OutOfMemory = ⊤
