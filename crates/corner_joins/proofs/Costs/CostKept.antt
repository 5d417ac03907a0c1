-- What the lists keep where a row has joined the cost of its level.
use Rattle.std.proofs.Common.{◌≡◌, ◌≢◌, ◌∙◌, ℕ, ◌+◌, ◌-◌, ◌*◌, ◌<◌, ◌≤◌, ◌++◌, Bool, cond, nat_eq, List, [], ◌∷◌, length, length-set, refl, sym, ap, subst, arith, inl, inr, ℤ, pos, ◌*ℤ◌, neg_ℤ, true, false, All, Some, None, get_or, slice_index_or, eq-eqb, ne_eqb}
use Rattle.std.specs.declared.option.Option.{Option}
use Rattle.std.specs.List.{filter}
use Rattle.std.proofs.lemmas.Bool.{cases_eq}
use Rattle.std.proofs.lemmas.Grind.{get_or-set_at}
use Rattle.std.proofs.lemmas.List.{get_or-set_other}
use Rattle.std.proofs.lemmas.List.Elements.{All-set}
use Rattle.frac_core.specs.Fraction.{Fraction}
use Rattle.frac_core.specs.Fraction as fractions
use Rattle.row_core.specs.Rows.{Term, coefficient, IsKeptRow}
use Rattle.problem_core.specs.declared.parts.Mark.{Mark}
use Rattle.problem_core.specs.declared.parts.Side.{Side}
use Rattle.problem_core.specs.declared.parts.RowName.{RowName}
use Rattle.problem_core.specs.declared.parts.RowName.TheVariants.{Stay as StayOf}
use Rattle.problem_core.specs.Layout.{Row, lines}
use Rattle.problem_core.specs.Window.{zero_fraction}
use Rattle.problem_core.specs.Corners.{IsCorner, attr_column}
use Rattle.problem_core.specs.Levels.{AreFitting, IsCostAt}
use Rattle.problem_core.specs.Rays.{HasRays}
use Rattle.problem_core.specs.Unfit.{with_first_rows}
use Rattle.corner_laws.specs.Units.{IsLevelRow, IsLevelUnit, IsReducedBy}
use Rattle.corner_lines.specs.LineEquations.{IsLineEquation, IsOutsideLine, deviation, sign_of}
use Rattle.corner_exchange.specs.declared.exchange.Change.{Change}
use Rattle.corner_table.specs.declared.table.Priority.{Priority}
use Rattle.corner_table.specs.declared.table.Standing.{Standing}
use Rattle.corner_table.specs.declared.table.TheConstants.{LEVELS}
use Rattle.corner_table.specs.Tables.{Lists, attr_slot, entry, is_side, line_slot, marks_at, priority_at, problem_of, row_at, standing_at, stands_in}
use Rattle.corner_table.specs.Kept.{AreOutside, AreSlots, IsAttrRow, IsEquationAt, IsLineRow, row_count}
use Rattle.corner_joins.specs.Additions.Parts.{IsLevelPart, IsNextRow, IsPartlyKept}
use Rattle.corner_table.specs.Kept.{IsOutsideSlot}
use Rattle.corner_joins.specs.Additions.CostJoins.{HasOutside, IsJoinedCost, home_at, with_cost}
use Rattle.corner_joins.proofs.Attributes.AttrJoins.{filter_same}

-- ---- what is read of them

pub cost_row : (t : Lists) (l : ℕ) (row : List Term) (value : Fraction) (unit : ℤ) (w : ℕ) → w ≢ l → row_at (with_cost t l row value unit) w ≡ row_at t w
cost_row t l row value unit w ne = get_or-set_other t.matrix l w row [] ne

pub cost_row_here : (t : Lists) (l : ℕ) (row : List Term) (value : Fraction) (unit : ℤ) → AreSlots t → l < LEVELS → row_at (with_cost t l row value unit) l ≡ row
cost_row_here t l row value unit slots lt = get_or-set_at t.matrix l l row [] refl (let a = slots.matrix in let b = slots.levels in omega (arith, a, b, lt))

pub cost_standing : (t : Lists) (l : ℕ) (row : List Term) (value : Fraction) (unit : ℤ) (w : ℕ) → w ≢ l → standing_at (with_cost t l row value unit) w ≡ standing_at t w
cost_standing t l row value unit w ne = get_or-set_other t.standings l w (record { side = (standing_at t l).side; value = value }) (record { side = None; value = zero_fraction }) ne

cost-standing-here : (t : Lists) (l : ℕ) (row : List Term) (value : Fraction) (unit : ℤ) → AreSlots t → l < LEVELS → standing_at (with_cost t l row value unit) l ≡ record { side = (standing_at t l).side; value = value }
cost-standing-here t l row value unit slots lt = get_or-set_at t.standings l l (record { side = (standing_at t l).side; value = value }) (record { side = None; value = zero_fraction }) refl (let a = slots.standings in let b = slots.levels in omega (arith, a, b, lt))

pub cost_side : (t : Lists) (l : ℕ) (row : List Term) (value : Fraction) (unit : ℤ) (w : ℕ) → AreSlots t → l < LEVELS → (standing_at (with_cost t l row value unit) w).side ≡ (standing_at t w).side
cost_side t l row value unit w slots lt =
    elim (cases_eq w l) [
      | inl e ↦ ap (λ (n : ℕ). (standing_at (with_cost t l row value unit) n).side) e ∙ ap (λ (s : Standing). s.side) (cost-standing-here t l row value unit slots lt) ∙ ap (λ (n : ℕ). (standing_at t n).side) (sym e)
      | inr ne ↦ ap (λ (s : Standing). s.side) (cost_standing t l row value unit w ne)
    ]

pub cost_priority : (t : Lists) (l : ℕ) (row : List Term) (value : Fraction) (unit : ℤ) (k : ℕ) → k ≢ l → priority_at (with_cost t l row value unit) k ≡ priority_at t k
cost_priority t l row value unit k ne = get_or-set_other t.priorities l k (record { unit = unit; rows = (priority_at t l).rows + 1 }) (record { unit = pos 1; rows = 0 }) ne

pub cost_priority_here : (t : Lists) (l : ℕ) (row : List Term) (value : Fraction) (unit : ℤ) → AreSlots t → l < LEVELS → priority_at (with_cost t l row value unit) l ≡ record { unit = unit; rows = (priority_at t l).rows + 1 }
cost_priority_here t l row value unit slots lt = get_or-set_at t.priorities l l (record { unit = unit; rows = (priority_at t l).rows + 1 }) (record { unit = pos 1; rows = 0 }) refl (let a = slots.priorities in omega (arith, a, lt))

pub cost_marks : (t : Lists) (l : ℕ) (row : List Term) (value : Fraction) (unit : ℤ) → AreSlots t → l < LEVELS → marks_at (with_cost t l row value unit) ≡ marks_at t
cost_marks t l row value unit slots lt =
    filter_same (stands_in (with_cost t l row value unit)) (stands_in t) (lines (problem_of t))
    (λ i x within side. ap (λ (o : Option Side). is_side o side) (cost_side t l row value unit (line_slot t (slice_index_or (lines (problem_of t)) i x).name) slots lt))

-- ---- slots, rows and values

cost-slots : (t : Lists) (l : ℕ) (row : List Term) (value : Fraction) (unit : ℤ) → AreSlots t → AreSlots (with_cost t l row value unit)
cost-slots t l row value unit h = record {
  standings = length-set t.standings l (record { side = (standing_at t l).side; value = value }) ∙ h.standings;
  matrix = length-set t.matrix l row ∙ h.matrix;
  levels = h.levels;
  room = h.room;
  priorities = length-set t.priorities l (record { unit = unit; rows = (priority_at t l).rows + 1 }) ∙ h.priorities;
  attrs = λ i d within. record { slot = (h.attrs i d within).slot; owner = (h.attrs i d within).owner };
  lines = λ i d within. record {
    slot = (h.lines i d within).slot;
    owner = (h.lines i d within).owner;
    home = (h.lines i d within).home;
    weight = (h.lines i d within).weight;
    scale = (h.lines i d within).scale;
    rel = (h.lines i d within).rel;
  };
  owners = h.owners;
  level_owners = h.level_owners;
  level_homes = h.level_homes;
  level_ranks = h.level_ranks;
  stay_ranks = h.stay_ranks;
  stays_rise = h.stays_rise;
  ranks = h.ranks;
  own_last = h.own_last;
}

-- an equation by its row and the marks
abbrev EquationBy : Lists → List Mark → ((ℕ → ℤ) → ℤ) → ℕ → List Term → ℤ → ℕ → Type 0
EquationBy t at quantity w row num den = (own : ℕ) × (coefficient w row ≡ pos own)
    × IsLineEquation (problem_of t) at quantity own (λ name. cond (nat_eq (line_slot t name) w) (pos 0) (neg_ℤ (coefficient (line_slot t name) row))) num den

moved-equation : (t : Lists) (l : ℕ) (row : List Term) (value : Fraction) (unit : ℤ) (quantity : (ℕ → ℤ) → ℤ) (w : ℕ) (num : ℤ) (den : ℕ) → AreSlots t → l < LEVELS → w ≢ l → IsEquationAt t quantity w num den → IsEquationAt (with_cost t l row value unit) quantity w num den
moved-equation t l row value unit quantity w num den slots lt ne h =
    subst (λ (at : List Mark). EquationBy t at quantity w (row_at (with_cost t l row value unit) w) num den) (sym (cost_marks t l row value unit slots lt))
    (subst (λ (r : List Term). EquationBy t (marks_at t) quantity w r num den) (sym (cost_row t l row value unit w ne)) h)

pub high : (l w : ℕ) → l < LEVELS → LEVELS ≤ w → w ≢ l
high l w a b e = omega (arith, a, b, e)

cost-attr : (t : Lists) (l : ℕ) (row : List Term) (value : Fraction) (unit : ℤ) (attr : ℕ) → AreSlots t → l < LEVELS → LEVELS ≤ attr_slot t attr → IsAttrRow t attr → IsAttrRow (with_cost t l row value unit) attr
cost-attr t l row value unit attr slots lt up h =
    let ne = high l (attr_slot t attr) lt up in
    subst (λ (s : Standing). IsEquationAt (with_cost t l row value unit) (λ x. x (attr_column attr)) (attr_slot t attr) s.value.num s.value.den) (sym (cost_standing t l row value unit (attr_slot t attr) ne))
    (moved-equation t l row value unit (λ x. x (attr_column attr)) (attr_slot t attr) (standing_at t (attr_slot t attr)).value.num (standing_at t (attr_slot t attr)).value.den slots lt ne h)

cost-line : (t : Lists) (l : ℕ) (row : List Term) (value : Fraction) (unit : ℤ) (name : RowName) (side : Option Side) → AreSlots t → l < LEVELS → line_slot t name ≢ l → IsLineRow t name side → IsLineRow (with_cost t l row value unit) name side
cost-line t l row value unit name (Some side) slots lt ne h =
    subst (λ (s : Standing). IsEquationAt (with_cost t l row value unit) (deviation name) (line_slot t name) (sign_of side *ℤ s.value.num) s.value.den) (sym (cost_standing t l row value unit (line_slot t name) ne))
    (moved-equation t l row value unit (deviation name) (line_slot t name) (sign_of side *ℤ (standing_at t (line_slot t name)).value.num) (standing_at t (line_slot t name)).value.den slots lt ne h)
cost-line t l row value unit name None slots lt ne h =
    (cost_row t l row value unit (line_slot t name) ne ∙ h.0, ap (λ (s : Standing). s.value) (cost_standing t l row value unit (line_slot t name) ne) ∙ h.1)

cost-outside : (t : Lists) (l : ℕ) (row : List Term) (value : Fraction) (unit : ℤ) → AreSlots t → l < LEVELS → AreOutside t → HasOutside t l row → AreOutside (with_cost t l row value unit)
cost-outside t l row value unit slots lt old new w c some ne =
    let o : IsOutsideSlot t c = elim (cases_eq w l) [
      | inl e ↦
          new c (λ none. some (ap (λ (n : ℕ). entry (with_cost t l row value unit) n c) e ∙ ap (coefficient c) (cost_row_here t l row value unit slots lt) ∙ none)) (λ q. ne (q ∙ sym e))
      | inr other ↦ old w c (λ none. some (ap (coefficient c) (cost_row t l row value unit w other) ∙ none)) ne
    ] in
    (o.0, cost_side t l row value unit c slots lt ∙ o.1, o.2)

-- ---- levels

-- a level's part by its priority, row, standing and the marks
record PartBy (t : Lists) (at : List Mark) (k : ℕ) (p : Priority) (row : List Term) (value : Fraction) : Type 0 where
  unit : ℕ
  own : ℕ
  unit_is : p.unit ≡ pos unit
  own_is : cond (nat_eq p.rows 0) (pos 1) (coefficient k row) ≡ pos own
  rows : p.rows ≤ row_count t k
  empty : p.rows ≡ 0 → row ≡ []
  least : IsLevelUnit (with_first_rows k p.rows (problem_of t)) k unit
  by : RowName → ℤ
  reduced : ℕ → ℤ
  level_row : IsLevelRow (with_first_rows k p.rows (problem_of t)) at k unit own by
  outside : All (λ m. IsOutsideLine at m.name → by m.name ≡ cond (nat_eq (line_slot t m.name) k) (pos 0) (neg_ℤ (coefficient (line_slot t m.name) row))) (lines (with_first_rows k p.rows (problem_of t)))
  reduced_by : IsReducedBy (with_first_rows k p.rows (problem_of t)) k unit own by reduced
  fits : AreFitting (with_first_rows k p.rows (problem_of t)) (own * unit) by reduced
  cost : IsCostAt (with_first_rows k p.rows (problem_of t)) at k value

as-part : (t : Lists) (k : ℕ) → IsLevelPart t k → PartBy t (marks_at t) k (priority_at t k) (row_at t k) (standing_at t k).value
as-part t k h = record {
  unit = h.unit;
  own = h.own;
  unit_is = h.unit_is;
  own_is = h.own_is;
  rows = h.rows;
  empty = h.empty;
  least = h.least;
  by = h.numbers.by;
  reduced = h.numbers.reduced;
  level_row = h.numbers.row;
  outside = h.numbers.outside;
  reduced_by = h.numbers.reduced_by;
  fits = h.numbers.fits;
  cost = h.cost;
}

from-part : (t : Lists) (l : ℕ) (row : List Term) (value : Fraction) (unit : ℤ) (k : ℕ)
    → PartBy t (marks_at (with_cost t l row value unit)) k (priority_at (with_cost t l row value unit) k) (row_at (with_cost t l row value unit) k) (standing_at (with_cost t l row value unit) k).value → IsLevelPart (with_cost t l row value unit) k
from-part t l row value unit k h = record {
  unit = h.unit;
  own = h.own;
  unit_is = h.unit_is;
  own_is = h.own_is;
  rows = h.rows;
  empty = h.empty;
  least = h.least;
  numbers = record { by = h.by; reduced = h.reduced; row = h.level_row; outside = h.outside; reduced_by = h.reduced_by; fits = h.fits };
  cost = h.cost;
}

level-other : (t : Lists) (l : ℕ) (row : List Term) (value : Fraction) (unit : ℤ) (k : ℕ) → AreSlots t → l < LEVELS → k ≢ l → IsLevelPart t k → IsLevelPart (with_cost t l row value unit) k
level-other t l row value unit k slots lt ne h =
    from-part t l row value unit k
    (subst (λ (at : List Mark). PartBy t at k (priority_at (with_cost t l row value unit) k) (row_at (with_cost t l row value unit) k) (standing_at (with_cost t l row value unit) k).value) (sym (cost_marks t l row value unit slots lt))
    (subst (λ (p : Priority). PartBy t (marks_at t) k p (row_at (with_cost t l row value unit) k) (standing_at (with_cost t l row value unit) k).value) (sym (cost_priority t l row value unit k ne))
    (subst (λ (r : List Term). PartBy t (marks_at t) k (priority_at t k) r (standing_at (with_cost t l row value unit) k).value) (sym (cost_row t l row value unit k ne))
    (subst (λ (s : Standing). PartBy t (marks_at t) k (priority_at t k) (row_at t k) s.value) (sym (cost_standing t l row value unit k ne)) (as-part t k h)))))

-- ---- the level of the line

-- it has this many rows
pub next_within : (t : Lists) (r : Row) (l : ℕ) → IsNextRow t r → l ≡ 1000 - r.rank → (priority_at t l).rows + 1 ≤ row_count t l
next_within t r l n e =
    subst (λ (k : ℕ). (priority_at t k).rows + 1 ≤ row_count t k) (sym e)
    (subst (λ (rows : List Row). (priority_at t (1000 - r.rank)).rows + 1 ≤ length (filter (λ s. nat_eq (1000 - s.rank) (1000 - r.rank)) rows)) (sym n.2)
    (subst (λ (m : ℕ). m + 1 ≤ length (filter (λ s. nat_eq (1000 - s.rank) (1000 - r.rank)) (n.0 ++ (r ∷ n.1)))) (sym n.3) (more n.0)))
  where
    kept-first : (b : Bool) (s : Row) (xs : List Row) (m : ℕ) → m ≤ length xs → m ≤ length (cond b (s ∷ xs) xs)
    kept-first true s xs m h = omega (arith, h)
    kept-first false s xs m h = h

    either : (b : Bool) (s : Row) (xs ys : List Row) → length xs + 1 ≤ length ys → length (cond b (s ∷ xs) xs) + 1 ≤ length (cond b (s ∷ ys) ys)
    either true s xs ys h = omega (arith, h)
    either false s xs ys h = h

    here : (b : Bool) (xs : List Row) → b ≡ true → 1 ≤ length (cond b (r ∷ xs) xs)
    here true xs e = omega arith
    here false xs e = absurd (subst (λ (b : Bool). cond b ⊥ (Unit {0})) e tt)

    more : (before : List Row) → length (filter (λ s. nat_eq (1000 - s.rank) (1000 - r.rank)) before) + 1 ≤ length (filter (λ s. nat_eq (1000 - s.rank) (1000 - r.rank)) (before ++ (r ∷ n.1)))
    more [] = here (nat_eq (1000 - r.rank) (1000 - r.rank)) (filter (λ s. nat_eq (1000 - s.rank) (1000 - r.rank)) n.1) (eq-eqb (1000 - r.rank) (1000 - r.rank) refl)
    more (s ∷ before) = either (nat_eq (1000 - s.rank) (1000 - r.rank)) s (filter (λ s. nat_eq (1000 - s.rank) (1000 - r.rank)) before) (filter (λ s. nat_eq (1000 - s.rank) (1000 - r.rank)) (before ++ (r ∷ n.1))) (more before)

level-here : (t : Lists) (line : ℕ) (unit : ℤ) (change : Change) → AreSlots t → home_at t line < LEVELS → (priority_at t (home_at t line)).rows + 1 ≤ row_count t (home_at t line) → IsJoinedCost t line unit change
    → IsLevelPart (with_cost t (home_at t line) change.row change.value unit) (home_at t line)
level-here t line unit change slots lt few c =
    let l : ℕ = home_at t line in
    from-part t (home_at t line) change.row change.value unit (home_at t line)
    (subst (λ (at : List Mark). PartBy t at (home_at t line) (priority_at (with_cost t (home_at t line) change.row change.value unit) (home_at t line)) (row_at (with_cost t (home_at t line) change.row change.value unit) (home_at t line)) (standing_at (with_cost t (home_at t line) change.row change.value unit) (home_at t line)).value) (sym (cost_marks t (home_at t line) change.row change.value unit slots lt))
    (subst (λ (p : Priority). PartBy t (marks_at t) (home_at t line) p (row_at (with_cost t (home_at t line) change.row change.value unit) (home_at t line)) (standing_at (with_cost t (home_at t line) change.row change.value unit) (home_at t line)).value) (sym (cost_priority_here t (home_at t line) change.row change.value unit slots lt))
    (subst (λ (r : List Term). PartBy t (marks_at t) (home_at t line) (record { unit = unit; rows = (priority_at t (home_at t line)).rows + 1 }) r (standing_at (with_cost t (home_at t line) change.row change.value unit) (home_at t line)).value) (sym (cost_row_here t (home_at t line) change.row change.value unit slots lt))
    (subst (λ (s : Standing). PartBy t (marks_at t) (home_at t line) (record { unit = unit; rows = (priority_at t (home_at t line)).rows + 1 }) change.row s.value) (sym (cost-standing-here t (home_at t line) change.row change.value unit slots lt))
    (record {
      unit = c.size;
      own = c.row.own;
      unit_is = c.unit_is;
      own_is = ap (λ (b : Bool). cond b (pos 1) (coefficient (home_at t line) change.row)) (ne_eqb ((priority_at t (home_at t line)).rows + 1) 0 (λ e. omega (arith, e))) ∙ c.row.own_is;
      rows = few;
      empty = λ e. absurd (omega (arith, e));
      least = c.least;
      by = c.row.level_row.by;
      reduced = c.reduced;
      level_row = c.row.level_row.row;
      outside = c.row.level_row.outside;
      reduced_by = c.reduced_by;
      fits = c.fits;
      cost = c.cost;
    })))))

-- ---- all of it

pub cost_kept : (t : Lists) (line : ℕ) (unit : ℤ) (change : Change) → IsPartlyKept t → home_at t line < LEVELS → (priority_at t (home_at t line)).rows + 1 ≤ row_count t (home_at t line) → IsJoinedCost t line unit change
    → IsPartlyKept (with_cost t (home_at t line) change.row change.value unit)
cost_kept t line unit change kept lt few c =
    let l : ℕ = home_at t line in
    let slots = kept.slots in
    let marks = sym (cost_marks t (home_at t line) change.row change.value unit kept.slots lt) in
    record {
      whole = kept.whole;
      corner = subst (λ (at : List Mark). IsCorner (problem_of t) at) marks kept.corner;
      rays = subst (λ (at : List Mark). HasRays (problem_of t) at) marks kept.rays;
      slots = cost-slots t (home_at t line) change.row change.value unit kept.slots;
      stored = record {
        few = kept.stored.few;
        empty = λ w high free. cost_row t (home_at t line) change.row change.value unit w (λ e. omega (arith, lt, high, e)) ∙ kept.stored.empty w high free;
      };
      matrix = All-set IsKeptRow t.matrix (home_at t line) change.row c.row_kept kept.matrix;
      values = All-set (λ (s : Standing). fractions.IsKept s.value) t.standings (home_at t line) (record { side = (standing_at t (home_at t line)).side; value = change.value }) c.value_kept kept.values;
      attrs = λ i x within. cost-attr t (home_at t line) change.row change.value unit (get_or t.stays i x).attr kept.slots lt (kept.slots.attrs i x within).slot.0 (kept.attrs i x within);
      lines = λ i x within.
          let name : RowName = (get_or (lines (problem_of t)) i x).name in
          subst (λ (o : Option Side). IsLineRow (with_cost t (home_at t line) change.row change.value unit) (get_or (lines (problem_of t)) i x).name o) (sym (cost_side t (home_at t line) change.row change.value unit (line_slot t (get_or (lines (problem_of t)) i x).name) kept.slots lt))
          (cost-line t (home_at t line) change.row change.value unit (get_or (lines (problem_of t)) i x).name (standing_at t (line_slot t (get_or (lines (problem_of t)) i x).name)).side kept.slots lt
          (high (home_at t line) (line_slot t (get_or (lines (problem_of t)) i x).name) lt (kept.slots.lines i x within).slot.0) (kept.lines i x within));
      outside = cost-outside t (home_at t line) change.row change.value unit kept.slots lt kept.outside c.row.columns;
      levels = λ k within. elim (cases_eq k (home_at t line)) [
        | inl e ↦ subst (IsLevelPart (with_cost t (home_at t line) change.row change.value unit)) (sym e) (level-here t line unit change kept.slots lt few c)
        | inr ne ↦ level-other t (home_at t line) change.row change.value unit k kept.slots lt ne (kept.levels k within)
      ];
      stay_levels = λ i x within.
          subst (λ (r : List Term). fractions.IsFitting (pos 2 *ℤ coefficient (line_slot t (StayOf (get_or t.stays i x).attr)) r))
          (sym (cost_row t (home_at t line) change.row change.value unit (line_slot t (StayOf (get_or t.stays i x).attr)) (stay-high t (home_at t line) (get_or t.stays i x).attr lt (kept.slots.attrs i x within).slot.0)))
          (kept.stay_levels i x within);
    }
  where
    stay-high : (t : Lists) (l attr : ℕ) → l < LEVELS → LEVELS ≤ attr_slot t attr → attr_slot t attr + 1 ≢ l
    stay-high t l attr lt up e = omega (arith, lt, up, e)
