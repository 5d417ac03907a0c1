-- Lists that are kept at marks in another order are kept.
use Rattle.std.proofs.Common.{◌≡◌, ◌≢◌, ℕ, List, length, slice_index_or, ℤ, ◌*ℤ◌, All, AllPairs, Some, None}
use Rattle.std.specs.declared.option.Option.{Option}
use Rattle.std.proofs.lemmas.List.Elements.{recursion_from_All}
use Rattle.std.proofs.lemmas.List.Kept.{AllPairs-filter}
use Rattle.row_core.specs.Rows.{Term}
use Rattle.problem_core.specs.declared.parts.Mark.{Mark}
use Rattle.problem_core.specs.declared.parts.RowName.{RowName}
use Rattle.problem_core.specs.declared.parts.Side.{Side}
use Rattle.problem_core.specs.declared.parts.Side.TheVariants.{Under, Over}
use Rattle.problem_core.specs.Layout.{Problem, lines}
use Rattle.problem_core.specs.Kept.{IsWhole}
use Rattle.problem_core.specs.Corners.{IsIn, SameMarks, attr_column, marks_of, place, place_of}
use Rattle.corner_laws.proofs.LinePlaces.{marks-apart}
use Rattle.corner_lines.specs.LineEquations.{IsOutsideLine, deviation, sign_of}
use Rattle.corner_laws.proofs.WrittenValues.{contains_each}
use Rattle.corner_laws.specs.Units.{IsLevelRow}
use Rattle.corner_lines.proofs.SameMarks.{same_corner, same_line, same_rays}
use Rattle.corner_lines.proofs.LevelRows.LevelOrders.{order_is_free}
use Rattle.corner_table.specs.declared.table.Standing.{Standing}
use Rattle.corner_table.specs.Tables.{Lists, attr_slot, line_slot, marks_at, number, problem_of, row_at, standing_at, stands_in}
use Rattle.corner_table.specs.Kept.{AreSlots, IsEquationAt, IsKept, IsLevelKept, IsLineRow}
use Rattle.corner_exchange.specs.Swaps.Exchanges.{IsEquationBy}
use Rattle.corner_exchange.specs.Swaps.NextLists.{IsKeptBy, IsLevelNext, IsLineBy, over}

-- ---- no mark comes twice

pub marks_apart : (t : Lists) → IsWhole (problem_of t) → AllPairs (λ m n. place m ≢ place n) (marks_at t)
marks_apart t whole =
    AllPairs-filter (λ (m n : Mark). place m ≢ place n) (stands_in t) (marks_of (lines (problem_of t)))
    (marks-apart (problem_of t) whole)

-- ---- equations

equation-here : (t : Lists) (at : List Mark) (quantity : (ℕ → ℤ) → ℤ) (w : ℕ) (num : ℤ) (den : ℕ) → SameMarks at (marks_at t)
    → IsEquationBy t at quantity w (row_at t w) num den → IsEquationAt t quantity w num den
equation-here t at quantity w num den same e = (e.0, e.1, same_line (problem_of t) at (marks_at t) quantity e.0 (number t w) num den same e.2)

line-here : (t : Lists) (at : List Mark) (name : RowName) (side : Option Side) → SameMarks at (marks_at t)
    → IsLineBy t at name (line_slot t name) (row_at t (line_slot t name)) side (standing_at t (line_slot t name)).value → IsLineRow t name side
line-here t at name None same h = h
line-here t at name (Some side) same h =
    equation-here t at (deviation name) (line_slot t name) (sign_of side *ℤ (standing_at t (line_slot t name)).value.num) (standing_at t (line_slot t name)).value.den same h

-- ---- levels

in-other : (a b : List Mark) (c : ℕ) → All (λ m. IsIn (place m) a) b → IsIn c b → IsIn c a
in-other a b c h i = contains_each (λ n. IsIn n a) b c (recursion_from_All (λ (m : Mark). IsIn (place m) a) b h) i

outside-other : (a b : List Mark) (name : RowName) → All (λ m. IsIn (place m) b) a → IsOutsideLine b name → IsOutsideLine a name
outside-other a b name h out = record {
  under = λ i. out.under (in-other b a (place_of name Under) h i);
  over = λ i. out.over (in-other b a (place_of name Over) h i);
}

row-other : (p : Problem) (a b : List Mark) (k unit own : ℕ) (by : RowName → ℤ) → SameMarks a b → IsLevelRow p a k unit own by → IsLevelRow p b k unit own by
row-other p a b k unit own by same r = record {
  own_positive = r.own_positive;
  cancel = r.cancel;
  under = λ i d within inside. r.under i d within (in-other a b (place_of (slice_index_or (lines p) i d).name Under) same.1 inside);
  over = λ i d within inside. r.over i d within (in-other a b (place_of (slice_index_or (lines p) i d).name Over) same.1 inside);
  lowest = λ n divides each. r.lowest n divides (λ i d within no_under no_over.
      each i d within (λ inside. no_under (in-other a b (place_of (slice_index_or (lines p) i d).name Under) same.1 inside))
      (λ inside. no_over (in-other a b (place_of (slice_index_or (lines p) i d).name Over) same.1 inside)));
}

level-here : (t : Lists) (at : List Mark) (k : ℕ) → SameMarks at (marks_at t) → IsLevelNext t at k → IsLevelKept t k
level-here t at k same h =
    let p : Problem = problem_of t in
    let free = order_is_free p at (marks_at t) k h.unit h.own (number t k) same in
    record {
      unit = h.unit;
      own = h.own;
      unit_is = h.unit_is;
      own_is = h.own_is;
      rows = h.rows;
      empty = h.empty;
      least = h.least;
      numbers = record {
        by = h.by;
        reduced = h.reduced;
        row = row-other p at (marks_at t) k h.unit h.own h.by same h.row;
        outside = λ i d within out. h.outside i d within (outside-other at (marks_at t) (slice_index_or (lines p) i d).name same.0 out);
        reduced_by = h.reduced_by;
        fits = h.fits;
      };
      cost = free.1 (standing_at t k).value h.cost;
    }

-- ---- all of it

pub kept_by : (t : Lists) (at : List Mark) → IsKeptBy t at → IsKept t
kept_by t at h = record {
  whole = h.whole;
  corner = same_corner (problem_of t) at (marks_at t) h.marks (marks_apart t h.whole) h.corner;
  rays = same_rays (problem_of t) at (marks_at t) h.marks h.rays;
  slots = h.slots;
  stored = h.stored;
  matrix = h.matrix;
  values = h.values;
  attrs = λ i x lt. equation-here t at (λ y. y (attr_column (slice_index_or t.stays i x).attr)) (attr_slot t (slice_index_or t.stays i x).attr)
      (standing_at t (attr_slot t (slice_index_or t.stays i x).attr)).value.num (standing_at t (attr_slot t (slice_index_or t.stays i x).attr)).value.den h.marks (h.attrs i x lt);
  lines = λ i x lt. line-here t at (slice_index_or (lines (problem_of t)) i x).name (standing_at t (line_slot t (slice_index_or (lines (problem_of t)) i x).name)).side h.marks (h.lines i x lt);
  outside = h.outside;
  levels = λ k lt. level-here t at k h.marks (h.levels k lt);
  stay_levels = h.stay_levels;
}

-- ---- slots of lists with other standings and rows

pub over_slots : (t : Lists) (v : List Standing) (m : List (List Term)) → AreSlots t → length v ≡ length t.slots → length m ≡ length t.slots → AreSlots (over t v m)
over_slots t v m h vs ms = record {
  standings = vs;
  matrix = ms;
  levels = h.levels;
  room = h.room;
  priorities = h.priorities;
  attrs = λ i d within. record { slot = (h.attrs i d within).slot; owner = (h.attrs i d within).owner };
  lines = λ i d within. record {
    slot = (h.lines i d within).slot;
    owner = (h.lines i d within).owner;
    home = (h.lines i d within).home;
    weight = (h.lines i d within).weight;
    scale = (h.lines i d within).scale;
    rel = (h.lines i d within).rel;
  };
  owners = h.owners;
  level_owners = h.level_owners;
  level_homes = h.level_homes;
  level_ranks = h.level_ranks;
  stay_ranks = h.stay_ranks;
  stays_rise = h.stays_rise;
  ranks = h.ranks;
  own_last = h.own_last;
}
