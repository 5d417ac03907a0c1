-- The marks inside, and the levels, once slots are at their places: `packed_levels`. A level's slot stays.
use Rattle.std.proofs.Common.{◌≡◌, ◌∙◌, ℕ, ◌<◌, cond, nat_eq, List, slice_index_or, sym, ap, subst, inl, ℤ, pos, ◌*ℤ◌, All}
use Rattle.frac_core.specs.Fraction.{IsFitting}
use Rattle.row_core.specs.Renames.{renamed}
use Rattle.problem_core.specs.declared.parts.Mark.{Mark}
use Rattle.problem_core.specs.declared.parts.RowName.{RowName}
use Rattle.problem_core.specs.declared.parts.RowName.TheVariants.{Stay as StayOf}
use Rattle.problem_core.specs.declared.parts.Stay.{Stay}
use Rattle.problem_core.specs.Layout.{HasStay, Problem, lines}
use Rattle.problem_core.specs.Corners.{marks_of, place}
use Rattle.problem_core.specs.Levels.{IsCostAt}
use Rattle.corner_laws.specs.Units.{IsLevelRow}
use Rattle.corner_lines.specs.LineEquations.{IsOutsideLine}
use Rattle.corner_table.specs.declared.table.Standing.{Standing}
use Rattle.corner_table.specs.declared.table.TheConstants.{LEVELS}
use Rattle.corner_view.specs.Seen.{IsNamed}
use Rattle.corner_table.specs.Tables.{Lists, entry, is_side, line_slot, marks_at, number, priority_at, problem_of, row_at, standing_at, stands_in}
use Rattle.corner_table.specs.Kept.{HasStayRoom, IsLevelKept}
use Rattle.corner_table.proofs.Basics.ListFacts.{to_map}
use Rattle.corner_table.proofs.Readings.KeptFacts.{filter_same}
use Rattle.corner_view.proofs.Facts.{mark_named}
use Rattle.corner_table.proofs.Basics.OwnerFacts.{stay_named}
use Rattle.corner_table.proofs.Basics.SmallFacts.{own_name}
use Rattle.corner_packing.proofs.PackedPlaces.{IsPacking, after, line_place, line_taken}
use Rattle.corner_packing.proofs.PackedRows.{entry_there, line_standing, number_there}

-- ---- marks

pub marks_after : (places : List ℕ) (count : ℕ) (t u : Lists) → IsPacking places count t u → marks_at (after t u) ≡ marks_at t
marks_after places count t u f =
    let marks : List Mark = marks_of (lines (problem_of t)) in
    filter_same (stands_in (after t u)) (stands_in t) marks
    (λ m has. ap (λ (s : Standing). is_side s.side m.side) (line_standing places count t u m.row f (mark_named (problem_of t) m (to_map place marks m has))))

-- ---- levels

level-row : (places : List ℕ) (count : ℕ) (t u : Lists) (k : ℕ) → IsPacking places count t u → k < LEVELS → row_at u k ≡ renamed places (row_at t k)
level-row places count t u k f low = ap (row_at u) (sym (f.are.levels k low)) ∙ f.packed.matrix k (inl low)

level-standing : (places : List ℕ) (count : ℕ) (t u : Lists) (k : ℕ) → IsPacking places count t u → k < LEVELS → standing_at u k ≡ standing_at t k
level-standing places count t u k f low = ap (standing_at u) (sym (f.are.levels k low)) ∙ f.packed.standings k (inl low)

level-entry : (places : List ℕ) (count : ℕ) (t u : Lists) (k : ℕ) → IsPacking places count t u → k < LEVELS → entry u k k ≡ entry t k k
level-entry places count t u k f low = ap (λ (n : ℕ). entry u n n) (sym (f.are.levels k low)) ∙ entry_there places count t u k k f (inl low) (inl low)

level-number : (places : List ℕ) (count : ℕ) (t u : Lists) (k : ℕ) (name : RowName) → IsPacking places count t u → k < LEVELS → IsNamed (problem_of t) name → number (after t u) k name ≡ number t k name
level-number places count t u k name f low named = ap (λ (n : ℕ). number (after t u) n name) (sym (f.are.levels k low)) ∙ number_there places count t u k name f (inl low) named

level-kept : (places : List ℕ) (count : ℕ) (t u : Lists) (k : ℕ) → IsPacking places count t u → k < LEVELS → IsLevelKept (after t u) k
level-kept places count t u k f low =
    let p : Problem = problem_of t in
    let l = f.kept.levels k low in
    let marks = sym (marks_after places count t u f) in
    record {
      unit = l.unit;
      own = l.own;
      unit_is = l.unit_is;
      own_is = ap (λ (z : ℤ). cond (nat_eq (priority_at t k).rows 0) (pos 1) z) (level-entry places count t u k f low) ∙ l.own_is;
      rows = l.rows;
      empty = λ none. level-row places count t u k f low ∙ ap (renamed places) (l.empty none);
      least = l.least;
      numbers = record {
        by = l.numbers.by;
        reduced = l.numbers.reduced;
        row = subst (λ (at : List Mark). IsLevelRow p at k l.unit l.own l.numbers.by) marks l.numbers.row;
        outside = subst (λ (at : List Mark). All (λ m. IsOutsideLine at m.name → l.numbers.by m.name ≡ number (after t u) k m.name) (lines p)) marks
            (λ i x lt out. l.numbers.outside i x lt out ∙ sym (level-number places count t u k (slice_index_or (lines p) i x).name f low (own_name (lines p) i x lt)));
        reduced_by = l.numbers.reduced_by;
        fits = l.numbers.fits;
      };
      cost = subst (λ (at : List Mark). IsCostAt p at k (standing_at u k).value) marks
          (subst (λ (s : Standing). IsCostAt p (marks_at t) k s.value) (sym (level-standing places count t u k f low)) l.cost);
    }

pub packed_levels : (places : List ℕ) (count : ℕ) (t u : Lists) → IsPacking places count t u → (k : ℕ) → k < LEVELS → IsLevelKept (after t u) k
packed_levels places count t u f k low = level-kept places count t u k f low

-- a stay's level has the room that it had
pub stay_room : (places : List ℕ) (count : ℕ) (t u : Lists) (s : Stay) → IsPacking places count t u → HasStay t.stays s.attr → HasStayRoom t s → HasStayRoom (after t u) s
stay_room places count t u s f has room =
    let named = stay_named (problem_of t) s.attr has in
    let w : ℕ = line_slot t (StayOf s.attr) in
    let taken = line_taken t (StayOf s.attr) f.kept.slots named in
    subst (λ (z : ℤ). IsFitting (pos 2 *ℤ z))
    (sym (ap (λ (n : ℕ). entry u n n) (line_place places count t u (StayOf s.attr) f named) ∙ entry_there places count t u w w f taken taken)) room
