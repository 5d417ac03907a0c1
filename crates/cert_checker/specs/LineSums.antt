-- Sums of rows by attribute.
use Rattle.std.specs.Prelude.{◌≡◌, ◌≢◌, ◌+ℤ◌, ℕ, ◌+◌, ◌≤◌, List, [], map, length, ℤ, pos, unwrap_or}
use Rattle.std.specs.Prelude.{slice_index_or, unsigned_abs}
use Rattle.std.specs.Ordering.{nat_cmp}
use Rattle.std.specs.BTreeMap.{BTreeMap, get}
use Rattle.problem_core.specs.declared.parts.Term.{Term}
use Rattle.problem_core.specs.Layout.{Problem, lines}
use Rattle.problem_core.specs.declared.limits.TheConstants.{COEFFICIENT_LIMIT}

-- the sum that is kept for an attribute
abbrev pub sum_at : BTreeMap ℕ ℤ → ℕ → ℤ
sum_at sums v = unwrap_or (get nat_cmp sums v) (pos 0)

-- the attribute's sum is more, and the others are as before
pub record IsAdded (old new : BTreeMap ℕ ℤ) (attr : ℕ) (more : ℤ) : Type 0 where
  pub here : sum_at new attr ≡ sum_at old attr +ℤ more
  pub others : (v : ℕ) → v ≢ attr → sum_at new v ≡ sum_at old v

-- the term's coefficient is within its limit
abbrev pub IsSmall : Term → Type 0
IsSmall t = unsigned_abs t.by ≤ COEFFICIENT_LIMIT

-- how many lines the problem has
abbrev pub line_count : Problem → ℕ
line_count p = length p.rows + length p.stays

-- the form of the line at a place
abbrev pub form_at : Problem → ℕ → List Term
form_at p k = slice_index_or (map (λ l. l.form) (lines p)) k []
