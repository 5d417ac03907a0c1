-- The corners of a path by numbers, and the tree over the lines by which they are numbered.
use Rattle.std.specs.Prelude.{◌≡◌, ◌↔◌, ℕ, ◌+◌, ◌*◌, ◌<◌, ◌≤◌, List, [], ◌∷◌, length, get_or, slice_index_or}
use Rattle.std.specs.Prelude.{Option, None, Some}
use Rattle.std.specs.Ordering.{nat_cmp, ordering_then}
use Rattle.std.specs.declared.cmp.Ordering.{Ordering}
use Rattle.std.specs.BTreeMap.{get}
use Rattle.std.specs.BTreeMap.{BTreeMap, btree_map_len}
use Rattle.problem_core.specs.declared.parts.Side.{Side}
use Rattle.problem_core.specs.declared.parts.Side.TheVariants.{Under, Over}
use Rattle.path_lines.specs.declared.spots.Step.{Step}
use Rattle.path_lines.specs.Sides.{walk}

-- ---- numbers of corners

-- some number comes twice
abbrev pub HasDouble : List ℕ → Type 0
HasDouble numbers = (i j : ℕ) × (i < j) × (j < length numbers)
    × (slice_index_or numbers i 0 ≡ slice_index_or numbers j 0)

-- the corner after so many of the exchanges
abbrev pub corner_at : List (Option Side) → List Step → ℕ → List (Option Side)
corner_at first steps i = get_or (first ∷ walk first steps) i []

-- a number for each corner, the first one too: two are the same exactly if the corners are
pub record AreCornerNumbers (first : List (Option Side)) (steps : List Step) (numbers : List ℕ) : Type 0 where
  pub count : length numbers ≡ length steps + 1
  pub same : (i j : ℕ) → i < length numbers → j < length numbers
      → (slice_index_or numbers i 0 ≡ slice_index_or numbers j 0)
      ↔ (corner_at first steps i ≡ corner_at first steps j)

-- ---- numbers of pairs

-- the order of pairs
abbrev pub pair_cmp : ℕ × ℕ → ℕ × ℕ → Ordering
pair_cmp x y = ordering_then (nat_cmp x.0 y.0) (nat_cmp x.1 y.1)

-- the pair has the number
abbrev pub HasNumber : BTreeMap (ℕ × ℕ) ℕ → ℕ × ℕ → ℕ → Type 0
HasNumber pairs pair number = get pair_cmp pairs pair ≡ Some number

-- the numbers are below the count, and no two pairs have the same one
pub record AreNumbered (pairs : BTreeMap (ℕ × ℕ) ℕ) : Type 0 where
  pub below : (pair : ℕ × ℕ) (number : ℕ) → HasNumber pairs pair number → number < btree_map_len pairs
  pub apart : (pair other : ℕ × ℕ) (number : ℕ) → HasNumber pairs pair number
      → HasNumber pairs other number → pair ≡ other

-- each pair keeps its number
abbrev pub Extends : (old new : BTreeMap (ℕ × ℕ) ℕ) → Type 0
Extends old new = (pair : ℕ × ℕ) (number : ℕ) → HasNumber old pair number → HasNumber new pair number

-- ---- the tree

-- the entry at a place
abbrev pub entry : List ℕ → ℕ → ℕ
entry nodes at = slice_index_or nodes at 0

-- the number of a line's inside mark: 0 for none, 1 for under, 2 for over
abbrev pub number_of : Option Side → ℕ
number_of None = 0
number_of (Some Under) = 1
number_of (Some Over) = 2

-- the later half are the numbers of the lines
abbrev pub AreNodes : List ℕ → List (Option Side) → Type 0
AreNodes nodes sides = (k : ℕ) → k < length sides
    → entry nodes (length sides + k) ≡ number_of (slice_index_or sides k None)

-- the node has the number of its pair
abbrev pub IsNode : BTreeMap (ℕ × ℕ) ℕ → List ℕ → ℕ → Type 0
IsNode pairs nodes node =
    HasNumber pairs (entry nodes (2 * node), entry nodes (2 * node + 1)) (entry nodes node)

-- each inner node has the number of its pair
pub record IsTree (pairs : BTreeMap (ℕ × ℕ) ℕ) (nodes : List ℕ) (sides : List (Option Side)) : Type 0 where
  pub count : length nodes ≡ 2 * length sides
  pub leaves : AreNodes nodes sides
  pub inner : (node : ℕ) → 1 ≤ node → node < length sides → IsNode pairs nodes node
