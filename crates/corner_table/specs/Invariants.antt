-- What a corner's lists stand for, and what they keep.
use Rattle.std.specs.Prelude.{ℕ, List, [], map, drop, All}
use Rattle.problem_core.specs.declared.parts.RowName.{RowName}
use Rattle.problem_core.specs.declared.parts.RowName.TheVariants.{Held, Stay as StayOf}
use Rattle.corner_view.specs.declared.types.Owner.{Owner}
use Rattle.corner_view.specs.declared.types.Owner.TheVariants.{Level as LevelSlot, Attr as AttrSlot}
use Rattle.corner_view.specs.declared.types.Owner.TheVariants.{Line as LineSlot}
use Rattle.corner_table.specs.declared.table.TheConstants.{LEVELS}
use Rattle.corner_table.specs.declared.table.Table.{Table}
use Rattle.corner_view.specs.Seen.{AreCandidates, CornerView, IsNamed}
use Rattle.corner_table.specs.Tables.{Lists, lists_of, marks_at, problem_of, scene_at, slot_at}
use Rattle.corner_table.specs.Kept.{IsKept, IsSlot}
use Rattle.corner_table.specs.Histories.{AreAlike, lists_before}

-- a line's name, of an attribute that of its stay, and of all else that of row 0, which is no row's
abbrev pub name_of : Owner → RowName
name_of LevelSlot = Held 0
name_of (AttrSlot attr) = StayOf attr
name_of (LineSlot name) = name

-- the names of the listed slots
abbrev pub names_of : Lists → List ℕ → List RowName
names_of t slots = map (λ w. name_of (slot_at t w).owner) slots

-- the attributes and lines in the order in which they came
abbrev pub order_of : Lists → List Owner
order_of t = map (λ s. s.owner) (drop LEVELS t.slots)

-- what is seen of the corner that the table keeps, where these slots are listed
abbrev pub view_of : Table → List ℕ → CornerView
view_of t listed = record {
  problem = problem_of (lists_of t);
  marks = marks_at (lists_of t);
  before = map scene_at (lists_before t);
  candidates = names_of (lists_of t) listed;
  order = order_of (lists_of t);
}

-- what is seen of the lists alone
abbrev pub seen_of : Lists → CornerView
seen_of t = record {
  problem = problem_of t;
  marks = marks_at t;
  before = [];
  candidates = [];
  order = order_of t;
}

-- the lists of an earlier mark, at which no column is negative
pub record IsEarlier (t : Lists) : Type 0 where
  pub kept : IsKept t
  pub candidates : AreCandidates (problem_of t) (marks_at t) []

-- of now, and of the earlier marks
pub record IsConsistent (t : Table) (listed : List ℕ) : Type 0 where
  pub alike : AreAlike t
  pub before : All IsEarlier (lists_before t)
  pub kept : IsKept (lists_of t)
  pub slots : All (IsSlot (lists_of t)) listed
  pub named : All (IsNamed (problem_of (lists_of t))) (names_of (lists_of t) listed)
  pub candidates : AreCandidates (problem_of (lists_of t)) (marks_at (lists_of t))
      (names_of (lists_of t) listed)
