-- The places of rows and stays among the lines of a problem.
use Rattle.std.specs.Prelude.{◌≡◌, ℕ, ◌<◌, List, map, length, MatchOption, Contains, All, slice_index_or}
use Rattle.std.specs.Ordering.{nat_cmp}
use Rattle.std.specs.BTreeMap.{BTreeMap, get}
use Rattle.problem_core.specs.declared.parts.RowName.{RowName}
use Rattle.problem_core.specs.declared.parts.RowName.TheVariants.{Held}
use Rattle.problem_core.specs.Layout.{Problem, lines}
use Rattle.cert_core.specs.declared.by.By.{By}
use Rattle.cert_checker.specs.declared.places.Places.{Places}
use Rattle.cert_checker.specs.declared.sums.Weighted.{Weighted}
use Rattle.cert_checker.specs.LineSums.{line_count}

-- each number that stands in the list is found at one of its places
abbrev pub IsIndex : List ℕ → BTreeMap ℕ ℕ → Type 0
IsIndex numbers places = (q : ℕ) → MatchOption (get nat_cmp places q) (Contains numbers q
    → ⊥) (λ k. (k < length numbers) × (slice_index_or numbers k 0 ≡ q))

-- where each row stands among the rows, by its number, and each stay among the stays, by its attribute
pub record ArePlaces (p : Problem) (places : Places) : Type 0 where
  pub rows : IsIndex (map (λ r. r.id) p.rows) places.rows
  pub stays : IsIndex (map (λ s. s.attr) p.stays) places.stays

-- the names of the lines, in their order
abbrev pub names : Problem → List RowName
names p = map (λ l. l.name) (lines p)

-- the name of the line at a place
abbrev pub name_at : Problem → ℕ → RowName
name_at p k = slice_index_or (names p) k (Held 0)

-- the multiplier of the line at a place, by the line's name
abbrev pub by_at : Problem → Weighted → By
by_at p w = record { row = name_at p w.at; times = w.times }

-- the multipliers, each with its line's place
pub record AreWeighed (p : Problem) (bys : List By) (ws : List Weighted) : Type 0 where
  pub same : map (by_at p) ws ≡ bys
  pub below : All (λ w. w.at < line_count p) ws
