-- What the lists keep where a row's constant has changed.
use Rattle.std.proofs.Common.{◌≡◌, ◌∙◌, ℕ, suc, ◌-◌, ◌*◌, ◌<◌, Bool, true, false, cond, nat_eq, List, [], ◌∷◌, filter, length, map, refl, sym, ap, subst, All, slice_index_or}
use Rattle.frac_core.specs.Fraction.{Fraction}
use Rattle.problem_core.specs.declared.parts.Mark.{Mark}
use Rattle.problem_core.specs.declared.parts.RowName.{RowName}
use Rattle.problem_core.specs.Layout.{Line, Problem, Row, lines}
use Rattle.problem_core.specs.Corners.{IsCorner}
use Rattle.problem_core.specs.Rays.{HasRays}
use Rattle.problem_core.specs.Levels.{IsCostAt}
use Rattle.corner_laws.specs.Units.{IsLevelRow}
use Rattle.corner_lines.specs.Fronts.{constantless}
use Rattle.corner_lines.specs.LineEquations.{IsOutsideLine}
use Rattle.corner_lines.specs.Shifts.{AreSeenAlike, has_constant, with_constant}
use Rattle.corner_lines.proofs.ProblemChanges.Shifted.{changed, shift_rays}
use Rattle.corner_view.specs.declared.types.Owner.{Owner}
use Rattle.corner_view.specs.declared.types.Owner.TheVariants.{Level as LevelSlot, Attr as AttrSlot, Line as LineSlot}
use Rattle.corner_table.specs.declared.table.Standing.{Standing}
use Rattle.corner_table.specs.declared.table.TheConstants.{LEVELS}
use Rattle.corner_table.specs.Tables.{Lists, line_slot, marks_at, number, problem_of, slot_at, standing_at}
use Rattle.corner_table.specs.Kept.{AreSlots, HasLevelNumbers, IsKept, IsLevelKept, IsLineRow, IsLineSlot, IsOwned, row_count}
use Rattle.corner_shifts.specs.Shifting.{AreShifted, with_shifted}
use Rattle.corner_table.proofs.Basics.SmallFacts.{own_name, own_stay}
use Rattle.corner_table.proofs.Readings.KeptFacts.{value_kept}
use Rattle.corner_shifts.proofs.Shifts.ShiftCosts.{after_corner, shifted_cost}
use Rattle.corner_shifts.proofs.Shifts.ShiftGrowths.{IsShiftOf, level_grown, shift_here}
use Rattle.corner_view.proofs.Seen.ShiftedLines.{fitting_seen, reduced_seen, row_seen_alike, shift_named, shift_seen, shift_whole, unit_seen}
use Rattle.corner_shifts.proofs.Shifts.ShiftValues.{attr_shifted, line_shifted, shift_marks_at}
use Rattle.corner_view.proofs.Seen.SeenLines.{each_seen}
use Rattle.corner_shifts.proofs.Stays.StoodKept.{home_seen, slot_back}

-- ---- slots

slot-seen : (t : Lists) (id : ℕ) (to : Fraction) (standings : List Standing) (l : Line) → IsLineSlot t l → IsLineSlot (with_shifted id to standings t) (constantless l)
slot-seen t id to standings l s = record {
  slot = s.slot;
  owner = s.owner;
  home = s.home ∙ sym (home_seen t (with_shifted id to standings t) l l.name (λ n. refl));
  weight = s.weight;
  scale = s.scale;
  rel = s.rel;
}

owned-after : (t : Lists) (id : ℕ) (to : Fraction) (standings : List Standing) (w : ℕ) (o : Owner) → IsOwned t w o → IsOwned (with_shifted id to standings t) w o
owned-after t id to standings w LevelSlot own = own
owned-after t id to standings w (AttrSlot attr) own = own
owned-after t id to standings w (LineSlot name) own = (shift_named (problem_of t) id to name own.0, own.1)

pub shift_slots : (t : Lists) (id : ℕ) (to : Fraction) (standings : List Standing) → AreSlots t → length standings ≡ length t.standings → AreSlots (with_shifted id to standings t)
shift_slots t id to standings slots count = record {
  standings = count ∙ slots.standings;
  matrix = slots.matrix;
  levels = slots.levels;
  room = slots.room;
  priorities = slots.priorities;
  attrs = λ i s lt. let is = slots.attrs i s lt in record { slot = is.slot; owner = is.owner };
  lines = after;
  owners = λ w is. owned-after t id to standings w (slot_at t w).owner (slots.owners w is);
  level_owners = slots.level_owners;
  level_homes = slots.level_homes;
  level_ranks = slots.level_ranks;
  stay_ranks = slots.stay_ranks;
  stays_rise = slots.stays_rise;
  ranks = slots.ranks;
  own_last = slots.own_last;
}
  where
    u : Lists
    u = with_shifted id to standings t

    q : Problem
    q = with_constant id to (problem_of t)

    after : All (IsLineSlot u) (lines q)
    after i x lt =
        slot_back u (slice_index_or (lines q) i x)
        (each_seen (IsLineSlot u) (problem_of t) q (sym (shift_seen (problem_of t) id to)) (λ k y within. slot-seen t id to standings (slice_index_or (lines (problem_of t)) k y) (slots.lines k y within)) i x lt)

-- ---- how many rows a level has

row-rank : (b : Bool) (f : Fraction) (r : Row) → (cond b (changed f r) r).rank ≡ r.rank
row-rank true f r = refl
row-rank false f r = refl

one-more : {X : Type 0} (b : Bool) (x y : X) (xs ys : List X) → length xs ≡ length ys → length (cond b (x ∷ xs) xs) ≡ length (cond b (y ∷ ys) ys)
one-more true x y xs ys e = ap (λ (n : ℕ). suc n) e
one-more false x y xs ys e = e

rows-counted : (id k : ℕ) (f : Fraction) (rows : List Row) → length (filter (λ r. nat_eq (1000 - r.rank) k) (map (has_constant id f) rows)) ≡ length (filter (λ r. nat_eq (1000 - r.rank) k) rows)
rows-counted id k f [] = refl
rows-counted id k f (r ∷ rows) =
    ap (λ (n : ℕ). length (cond (nat_eq (1000 - n) k) (has_constant id f r ∷ filter (λ s. nat_eq (1000 - s.rank) k) (map (has_constant id f) rows)) (filter (λ s. nat_eq (1000 - s.rank) k) (map (has_constant id f) rows)))) (row-rank (nat_eq r.id id) f r)
    ∙ one-more (nat_eq (1000 - r.rank) k) (has_constant id f r) r (filter (λ s. nat_eq (1000 - s.rank) k) (map (has_constant id f) rows)) (filter (λ s. nat_eq (1000 - s.rank) k) rows) (rows-counted id k f rows)

-- ---- levels

numbers-shifted : (t : Lists) (id : ℕ) (to more : Fraction) (standings : List Standing) (k unit own : ℕ) → AreShifted t id more standings → HasLevelNumbers t k unit own → HasLevelNumbers (with_shifted id to standings t) k unit own
numbers-shifted t id to more standings k unit own s n =
    let p : Problem = problem_of t in
    let q : Problem = with_constant id to p in
    let same : AreSeenAlike p q = sym (shift_seen p id to) in
    let marks = sym (shift_marks_at t id to more standings s) in
    record {
      by = n.by;
      reduced = n.reduced;
      row = subst (λ (ms : List Mark). IsLevelRow q ms k unit own n.by) marks (row_seen_alike p q (marks_at t) k unit own n.by same n.row);
      outside = subst (λ (ms : List Mark). All (λ l. IsOutsideLine ms l.name → n.by l.name ≡ number t k l.name) (lines q)) marks (each_seen (λ l. IsOutsideLine (marks_at t) l.name → n.by l.name ≡ number t k l.name) p q same n.outside);
      reduced_by = reduced_seen p q k unit own n.by n.reduced same n.reduced_by;
      fits = fitting_seen p q (own * unit) n.by n.reduced same n.fits;
    }

level-shifted : (t : Lists) (id : ℕ) (from to more : Fraction) (standings : List Standing) (k : ℕ) → IsShiftOf t id from to more → AreShifted t id more standings → k < LEVELS → IsLevelKept (with_shifted id to standings t) k
level-shifted t id from to more standings k h s low =
    let p : Problem = problem_of t in
    let q : Problem = with_constant id to p in
    let l : IsLevelKept t k = h.kept.levels k low in
    let count : row_count (with_shifted id to standings t) k ≡ row_count t k = rows-counted id k to t.rows in
    record {
      unit = l.unit;
      own = l.own;
      unit_is = l.unit_is;
      own_is = l.own_is;
      rows = l.rows ∙ sym count;
      empty = λ none. l.empty (sym count ∙ none);
      least = unit_seen p q k l.unit (sym (shift_seen p id to)) l.least;
      numbers = numbers-shifted t id to more standings k l.unit l.own s l.numbers;
      cost = subst (λ (ms : List Mark). IsCostAt q ms k (standing_at (with_shifted id to standings t) k).value) (sym (shift_marks_at t id to more standings s))
          (shifted_cost p (marks_at t) id from to more k l.unit l.own l.numbers.by (standing_at t k).value (standing_at (with_shifted id to standings t) k).value (shift_here t id from to more h) l.least l.numbers.row
          (value_kept t k h.kept).lowest.above l.cost (level_grown t id from to more standings k h s low));
    }

-- ---- all of it

lines-shifted : (t : Lists) (id : ℕ) (from to more : Fraction) (standings : List Standing) → IsShiftOf t id from to more → AreShifted t id more standings
    → All (λ l. IsLineRow (with_shifted id to standings t) l.name (standing_at (with_shifted id to standings t) (line_slot t l.name)).side) (lines (with_constant id to (problem_of t)))
lines-shifted t id from to more standings h s =
    each_seen (λ l. IsLineRow (with_shifted id to standings t) l.name (standing_at (with_shifted id to standings t) (line_slot t l.name)).side) (problem_of t) (with_constant id to (problem_of t)) (sym (shift_seen (problem_of t) id to))
    (λ k x lt.
    let name : RowName = (slice_index_or (lines (problem_of t)) k x).name in
    subst (IsLineRow (with_shifted id to standings t) name) (sym (s.sides (line_slot t name)))
    (line_shifted t id from to more standings name (standing_at t (line_slot t name)).side h s (own_name (lines (problem_of t)) k x lt) refl (h.kept.lines k x lt)))

pub shift_kept : (t : Lists) (id : ℕ) (from to more : Fraction) (standings : List Standing) → IsShiftOf t id from to more → AreShifted t id more standings → IsKept (with_shifted id to standings t)
shift_kept t id from to more standings h s =
    let p : Problem = problem_of t in
    let q : Problem = with_constant id to p in
    let marks = sym (shift_marks_at t id to more standings s) in
    record {
      whole = shift_whole p id to h.to_kept h.kept.whole;
      corner = subst (IsCorner q) marks (after_corner p (marks_at t) id from to more (shift_here t id from to more h));
      rays = subst (HasRays q) marks (shift_rays p (marks_at t) id from to more h.shift h.kept.rays);
      slots = shift_slots t id to standings h.kept.slots s.count;
      stored = record { few = h.kept.stored.few; empty = h.kept.stored.empty };
      matrix = h.kept.matrix;
      values = s.values;
      attrs = λ i x lt. attr_shifted t id (slice_index_or t.stays i x).attr from to more standings h s (own_stay t.stays i x lt);
      lines = lines-shifted t id from to more standings h s;
      outside = λ w c ne other. let out = h.kept.outside w c ne other in (out.0, s.sides c ∙ out.1, out.2);
      levels = λ k low. level-shifted t id from to more standings k h s low;
      stay_levels = h.kept.stay_levels;
    }
