-- A row that has joined the corner, before it joins its level.
use Rattle.std.proofs.Common.{◌≡◌, ◌≢◌, ◌∙◌, ℕ, zero, suc, ◌+◌, ◌-◌, ◌++◌, Bool, cond, nat_eq, List, [], ◌∷◌, map, length, refl, sym, ap, subst, arith, inl, inr, ℤ, pos, ◌*ℤ◌, All, Any, Some, None, eq-eqb}
use Rattle.std.specs.List.{AllByRecursion as Each, filter}
use Rattle.std.specs.declared.option.Option.{Option}
use Rattle.std.proofs.lemmas.Bool.{cases_Bool}
use Rattle.std.proofs.lemmas.List.Elements.{All-from_recursion, recursion_from_All}
use Rattle.problem_core.specs.declared.parts.Mark.{Mark}
use Rattle.problem_core.specs.declared.parts.Side.{Side}
use Rattle.problem_core.specs.declared.parts.Side.TheVariants.{Under, Over}
use Rattle.problem_core.specs.declared.parts.RowName.{RowName}
use Rattle.problem_core.specs.declared.parts.RowName.TheVariants.{Held}
use Rattle.problem_core.specs.Layout.{Line, Problem, Row, coefficient, line_of_row, lines, stay_lines}
use Rattle.problem_core.specs.Corners.{IsCorner, IsIn, place_of}
use Rattle.problem_core.specs.Rays.{HasRays}
use Rattle.problem_core.specs.Unfit.{lightened, over_mark, under_mark, with_first_rows, without_weight}
use Rattle.problem_core.proofs.Forms.{each-impl}
use Rattle.corner_laws.specs.Lifts.{HasOneIn}
use Rattle.corner_lines.specs.LineEquations.{deviation, sign_of}
use Rattle.corner_lines.specs.Levels.LevelCosts.{AreDifferent, HasDeviation, IsSound}
use Rattle.corner_lines.specs.Levels.LevelJoins.{AreLinesBefore, level_count}
use Rattle.corner_lines.specs.Levels.LevelRows.{IsPivot, line_numbers}
use Rattle.corner_lines.proofs.LevelRows.LevelRests.{one_row_more_joins}
use Rattle.corner_lines.proofs.LevelRows.LevelSound.{first-seen, first_rows_are_sound, same-stands, seen-each, seen-same}
use Rattle.corner_lines.proofs.Lines.LinePivots.{equation_is_pivot}
use Rattle.corner_lines.proofs.Lines.LineWritings.{line_value}
use Rattle.corner_table.specs.Tables.{Lists, line_slot, marks_at, number, priority_at, problem_of, slot_at, standing_at}
use Rattle.corner_table.specs.Kept.{IsEquationAt, IsLineRow, IsLineSlot}
use Rattle.corner_view.specs.Seen.{IsNamed}
use Rattle.corner_joins.specs.Additions.Parts.{IsNextRow, IsPartlyKept, joined_at}
use Rattle.corner_joins.specs.Additions.CostJoins.{IsJoining, with_next}
use Rattle.corner_table.proofs.Readings.SlotFacts.{any_impl, any_is}
use Rattle.corner_table.proofs.Readings.MarkFacts.{inside_stands, stands_inside}
use Rattle.corner_table.proofs.Readings.ReadFacts.{is_some}
use Rattle.corner_exchange.proofs.Pivots.PairFacts.{named_mark, side-stands}
use Rattle.problem_core.proofs.Lines.{sum-seen}
use Rattle.corner_joins.proofs.Basics.SmallFacts.{no-more as one_more}

-- ---- the row among the lines

pub row_among : (before : List Row) (r : Row) (after : List Row) (ls : List Line) → Any (λ l. l ≡ line_of_row r) (map line_of_row (before ++ (r ∷ after)) ++ ls)
row_among [] r after ls = (0, line_of_row r, omega arith, refl, refl)
row_among (s ∷ before) r after ls = let h = row_among before r after ls in (suc h.0, h.1, omega (arith, h.2), h.3, h.4)

later : (P : Row → Type 0) (s : Row) (rows : List Row) → Any P rows → Any P (s ∷ rows)
later P s rows h = (suc h.0, h.1, omega (arith, h.2), h.3, h.4)

first_any : (P : Row → Type 0) (s : Row) (rows : List Row) → P s → Any P (s ∷ rows)
first_any P s rows h = (0, s, omega arith, refl, h)

-- it keeps its weight
weighted : (l : ℕ) (before : List Row) (r : Row) (after : List Row) → l ≡ 1000 - r.rank → Any (λ s. s ≡ r) (lightened l (level_count l before + 1) (before ++ (r ∷ after)))
weighted l [] r after e =
    subst (λ (b : Bool). Any (λ s. s ≡ r) (cond b (r ∷ lightened l 0 after) (r ∷ lightened l 1 after))) (sym (eq-eqb (1000 - r.rank) l (sym e))) (first_any (λ s. s ≡ r) r (lightened l 0 after) refl)
weighted l (s ∷ before) r after e =
    elim (cases_Bool (nat_eq (1000 - s.rank) l)) [
      | inl i ↦
          let count : level_count l (s ∷ before) ≡ level_count l before + 1 = ap (λ (b : Bool). length (cond b (s ∷ filter (λ r. nat_eq (1000 - r.rank) l) before) (filter (λ r. nat_eq (1000 - r.rank) l) before))) i ∙ one_more (level_count l before) in
          subst (λ (k : ℕ). Any (λ x. x ≡ r) (lightened l (k + 1) ((s ∷ before) ++ (r ∷ after)))) (sym count)
          (subst (λ (b : Bool). Any (λ x. x ≡ r) (cond b (cond (nat_eq (level_count l before + 1 + 1) 0) (without_weight s) s ∷ lightened l (level_count l before + 1 + 1 - 1) (before ++ (r ∷ after))) (s ∷ lightened l (level_count l before + 1 + 1) (before ++ (r ∷ after))))) (sym i)
          (later (λ x. x ≡ r) (cond (nat_eq (level_count l before + 1 + 1) 0) (without_weight s) s) (lightened l (level_count l before + 1 + 1 - 1) (before ++ (r ∷ after)))
          (subst (λ (k : ℕ). Any (λ x. x ≡ r) (lightened l k (before ++ (r ∷ after)))) (let e : level_count l before + 1 ≡ level_count l before + 1 + 1 - 1 = omega arith in e) (weighted l before r after e))))
      | inr i ↦
          let count : level_count l (s ∷ before) ≡ level_count l before = ap (λ (b : Bool). length (cond b (s ∷ filter (λ r. nat_eq (1000 - r.rank) l) before) (filter (λ r. nat_eq (1000 - r.rank) l) before))) i in
          subst (λ (k : ℕ). Any (λ x. x ≡ r) (lightened l (k + 1) ((s ∷ before) ++ (r ∷ after)))) (sym count)
          (subst (λ (b : Bool). Any (λ x. x ≡ r) (cond b (cond (nat_eq (level_count l before + 1) 0) (without_weight s) s ∷ lightened l (level_count l before + 1 - 1) (before ++ (r ∷ after))) (s ∷ lightened l (level_count l before + 1) (before ++ (r ∷ after))))) (sym i)
          (later (λ x. x ≡ r) s (lightened l (level_count l before + 1) (before ++ (r ∷ after))) (weighted l before r after e)))
    ]

pub as_line : (r : Row) (rows : List Row) (ls : List Line) → Any (λ s. s ≡ r) rows → Any (λ l. l ≡ line_of_row r) (map line_of_row rows ++ ls)
as_line r [] ls h = absurd (omega (arith, h.2))
as_line r (s ∷ rows) ls (zero, x, lt, e, h) = (0, line_of_row s, omega arith, refl, ap line_of_row (e ∙ h))
as_line r (s ∷ rows) ls (suc k, x, lt, e, h) = let i = as_line r rows ls (k, x, omega (arith, lt), e, h) in (suc i.0, i.1, omega (arith, i.2), i.3, i.4)

-- names tell lines apart
pub only_named : (x : Line) (ls : List Line) → AreDifferent (map (λ l. l.name) ls) → Any (λ l. l ≡ x) ls → Each (λ l. l.name ≡ x.name → l ≡ x) ls
only_named x [] d h = tt
only_named x (l ∷ ls) d (zero, y, lt, e, h) = ((λ n. e ∙ h), none ls (recursion_from_All (λ m. l.name ≢ m) (map (λ (l : Line). l.name) ls) d.0))
  where
    none : (ms : List Line) → Each (λ m. l.name ≢ m) (map (λ (l : Line). l.name) ms) → Each (λ m. m.name ≡ x.name → m ≡ x) ms
    none [] k = tt
    none (m ∷ ms) k = ((λ n. absurd (k.0 (ap (λ (l : Line). l.name) (e ∙ h) ∙ sym n))), none ms k.1)
only_named x (l ∷ ls) d (suc k, y, lt, e, h) = (
  (λ n. absurd (there ls (recursion_from_All (λ m. l.name ≢ m) (map (λ (l : Line). l.name) ls) d.0) (k, y, omega (arith, lt), e, h) n)),
  only_named x ls d.1 (k, y, omega (arith, lt), e, h),
)
  where
    there : (ms : List Line) → Each (λ m. l.name ≢ m) (map (λ (l : Line). l.name) ms) → Any (λ m. m ≡ x) ms → l.name ≡ x.name → ⊥
    there [] a i n = omega (arith, i.2)
    there (m ∷ ms) a (zero, z, less, f, g) n = a.0 (n ∙ sym (ap (λ (l : Line). l.name) (f ∙ g)))
    there (m ∷ ms) a (suc j, z, less, f, g) n = there ms a.1 (j, z, omega (arith, less), f, g) n

-- ---- its slot, side and equation

pub next-row : (t : Lists) (r : Row) (n : IsNextRow t r) → Any (λ l. l ≡ line_of_row r) (lines (problem_of t))
next-row t r n = subst (λ (rows : List Row). Any (λ l. l ≡ line_of_row r) (map line_of_row rows ++ stay_lines 1001 t.stays)) (sym n.2) (row_among n.0 r n.1 (stay_lines 1001 t.stays))

-- a row that is the next of its level, at its slot, with the side of its inside mark
pub record IsNextAt (t : Lists) (r : Row) (line : ℕ) (side : Side) : Type 0 where
  pub kept : IsPartlyKept t
  pub next : IsNextRow t r
  pub slot_is : line_slot t (Held r.id) ≡ line
  pub side_is : (standing_at t line).side ≡ Some side

pub next_named : (t : Lists) (r : Row) (line : ℕ) (side : Side) → IsNextAt t r line side → IsNamed (problem_of t) (Held r.id)
next_named t r line side n = any_impl (λ l. l ≡ line_of_row r) (λ l. l.name ≡ Held r.id) (lines (problem_of t)) (λ l e. ap (λ (k : Line). k.name) e) (next-row t r n.next)

pub one-side : (t : Lists) (r : Row) → HasOneIn (marks_at t) r → (side : Side) × ((standing_at t (line_slot t (Held r.id))).side ≡ Some side)
one-side t r (inl i) = (Under, is_some (standing_at t (line_slot t (Held r.id))).side Under (inside_stands t (under_mark r.id) i))
one-side t r (inr i) = (Over, is_some (standing_at t (line_slot t (Held r.id))).side Over (inside_stands t (over_mark r.id) i))

pub next_at : (t : Lists) (r : Row) (line : ℕ) → IsPartlyKept t → IsJoining t r line → (side : Side) × IsNextAt t r line side
next_at t r line kept j =
    let s = one-side t r j.inside in
    (s.0, record { kept = kept; next = j.next; slot_is = j.slot_is; side_is = ap (λ (w : ℕ). (standing_at t w).side) (sym j.slot_is) ∙ s.1 })

-- what the slot says of the line
pub next_slot : (t : Lists) (r : Row) (line : ℕ) (side : Side) → IsNextAt t r line side → IsLineSlot t (line_of_row r)
next_slot t r line side n = any_is (IsLineSlot t) (λ l. l ≡ line_of_row r) (lines (problem_of t)) n.kept.slots.lines (next-row t r n.next) (λ l h e. subst (IsLineSlot t) e h)

pub next_home : (t : Lists) (r : Row) (line : ℕ) (side : Side) → IsNextAt t r line side → (slot_at t line).home ≡ 1000 - r.rank
next_home t r line side n = ap (λ (w : ℕ). (slot_at t w).home) (sym n.slot_is) ∙ (next_slot t r line side n).home

pub next_in : (t : Lists) (r : Row) (line : ℕ) (side : Side) → IsNextAt t r line side → IsIn (place_of (Held r.id) side) (marks_at t)
next_in t r line side n =
    let m : Mark = record { row = Held r.id; side = side } in
    stands_inside t m (named_mark t m (next_named t r line side n)) (side-stands t m (ap (λ (w : ℕ). (standing_at t w).side) n.slot_is ∙ n.side_is))

abbrev is_that : Option Side → Option Side → Type 0
is_that None o = Unit {0}
is_that (Some s) None = Unit {0}
is_that (Some s) (Some r) = r ≡ s

itself : (x : Option Side) → is_that x x
itself None = tt
itself (Some s) = refl

pub some-side : (a b : Side) (o : Option Side) → o ≡ Some a → o ≡ Some b → b ≡ a
some-side a b o e f = subst (is_that (Some a)) (sym e ∙ f) (itself (Some a))

pub no_other_side : (t : Lists) (r : Row) (line : ℕ) (side other : Side) → IsNextAt t r line side → IsIn (place_of (Held r.id) other) (marks_at t) → other ≡ side
no_other_side t r line side other n i =
    some-side side other (standing_at t line).side n.side_is
    (ap (λ (w : ℕ). (standing_at t w).side) (sym n.slot_is) ∙ is_some (standing_at t (line_slot t (Held r.id))).side other (inside_stands t (record { row = Held r.id; side = other }) i))

pub next_equation : (t : Lists) (r : Row) (line : ℕ) (side : Side) → IsNextAt t r line side
    → IsEquationAt t (deviation (Held r.id)) line (sign_of side *ℤ (standing_at t line).value.num) (standing_at t line).value.den
next_equation t r line side n =
    let row : IsLineRow t (Held r.id) (standing_at t (line_slot t (Held r.id))).side = any_is (λ l. IsLineRow t l.name (standing_at t (line_slot t l.name)).side) (λ l. l ≡ line_of_row r) (lines (problem_of t)) n.kept.lines (next-row t r n.next)
    (λ l h e. subst (λ (name : RowName). IsLineRow t name (standing_at t (line_slot t name)).side) (ap (λ (k : Line). k.name) e) h) in
    let here : IsLineRow t (Held r.id) (Some side) = subst (λ (o : Option Side). IsLineRow t (Held r.id) o) (ap (λ (w : ℕ). (standing_at t w).side) n.slot_is ∙ n.side_is) row in
    subst (λ (w : ℕ). IsEquationAt t (deviation (Held r.id)) w (sign_of side *ℤ (standing_at t w).value.num) (standing_at t w).value.den) n.slot_is here

-- ---- in the problem with its weight

-- what is said of names alone
pub first_names : (P : RowName → Type 0) (p : Problem) (level j : ℕ) → All (λ l. P l.name) (lines p) → All (λ l. P l.name) (lines (with_first_rows level j p))
first_names P p level j h =
    All-from_recursion (λ l. P l.name) (lines (with_first_rows level j p))
    (seen-each (λ l. l.name) P (lines p) (lines (with_first_rows level j p)) (sym (seen-same (λ l. l.name) (λ r. refl) level j p.rows (stay_lines 1001 p.stays))) (recursion_from_All (λ l. P l.name) (lines p) h))

pub whole_names : (P : RowName → Type 0) (p : Problem) (level j : ℕ) → All (λ l. P l.name) (lines (with_first_rows level j p)) → All (λ l. P l.name) (lines p)
whole_names P p level j h =
    All-from_recursion (λ l. P l.name) (lines p)
    (seen-each (λ l. l.name) P (lines (with_first_rows level j p)) (lines p) (seen-same (λ l. l.name) (λ r. refl) level j p.rows (stay_lines 1001 p.stays)) (recursion_from_All (λ l. P l.name) (lines (with_first_rows level j p)) h))

first-pivot : (p : Problem) (at : List Mark) (level j : ℕ) (name : RowName) (size : ℕ) (pivot : RowName → ℤ) → IsPivot p at name name size pivot → IsPivot (with_first_rows level j p) at name name size pivot
first-pivot p at level j name size pivot is = record {
  size_positive = is.size_positive;
  cancel = λ v.
      sum-seen (λ l. pivot l.name *ℤ coefficient v l.form) (lines (with_first_rows level j p)) (lines p) (seen-same (λ l. pivot l.name *ℤ coefficient v l.form) (λ r. refl) level j p.rows (stay_lines 1001 p.stays))
      ∙ is.cancel v;
  enter_is = is.enter_is;
  inside_zero = λ side. first_names (λ n. IsIn (place_of n side) at → n ≢ name → pivot n ≡ pos 0) p level j (is.inside_zero side);
}

pub next_pivot : (t : Lists) (r : Row) (line : ℕ) (side : Side) (level j : ℕ) → (n : IsNextAt t r line side)
    → IsPivot (with_first_rows level j (problem_of t)) (marks_at t) (Held r.id) (Held r.id) (next_equation t r line side n).0 (line_numbers (Held r.id) (next_equation t r line side n).0 (number t line))
next_pivot t r line side level j n =
    let e = next_equation t r line side n in
    first-pivot (problem_of t) (marks_at t) level j (Held r.id) e.0 (line_numbers (Held r.id) e.0 (number t line))
    (equation_is_pivot (problem_of t) (marks_at t) (record { row = Held r.id; side = side }) e.0 (number t line) (sign_of side *ℤ (standing_at t line).value.num) (standing_at t line).value.den n.kept.whole n.kept.corner (next_in t r line side n) e.2)

pub next_deviation : (t : Lists) (r : Row) (line : ℕ) (side : Side) (level j : ℕ) → IsNextAt t r line side
    → HasDeviation (with_first_rows level j (problem_of t)) (marks_at t) (Held r.id) (record { num = sign_of side *ℤ (standing_at t line).value.num; den = (standing_at t line).value.den })
next_deviation t r line side level j n =
    let e = next_equation t r line side n in
    let v = line_value (problem_of t) (marks_at t) (deviation (Held r.id)) e.0 (number t line) (sign_of side *ℤ (standing_at t line).value.num) (standing_at t line).value.den n.kept.whole n.kept.corner e.2 in
    (v.0, same-stands (problem_of t) (with_first_rows level j (problem_of t)) (marks_at t) v.0 (first-seen (problem_of t) level j) v.1, v.2)

pub next_sound : (t : Lists) (level j : ℕ) → IsPartlyKept t → IsSound (with_first_rows level j (problem_of t)) × IsCorner (with_first_rows level j (problem_of t)) (marks_at t) × HasRays (with_first_rows level j (problem_of t)) (marks_at t)
next_sound t level j kept = first_rows_are_sound (problem_of t) (marks_at t) level j kept.whole kept.corner kept.rays

pub lines_before : (t : Lists) (r : Row) (l : ℕ) → IsPartlyKept t → IsNextRow t r → l ≡ 1000 - r.rank → AreLinesBefore (Held r.id) (lines (joined_at t l)) (lines (with_next t l))
lines_before t r l kept n e =
    let count : (priority_at t l).rows ≡ level_count l n.0 = subst (λ (k : ℕ). (priority_at t k).rows ≡ level_count k n.0) (sym e) n.3 in
    subst (λ (j : ℕ). AreLinesBefore (Held r.id) (lines (with_first_rows l j (problem_of t))) (lines (with_first_rows l (j + 1) (problem_of t)))) (sym count)
    (one_row_more_joins (problem_of t) n.0 r n.1 l kept.whole n.2 e)

-- its line there
pub next_line : (t : Lists) (r : Row) (l : ℕ) → IsNextRow t r → l ≡ 1000 - r.rank → Any (λ k. k ≡ line_of_row r) (lines (with_next t l))
next_line t r l n e =
    let count : (priority_at t l).rows ≡ level_count l n.0 = subst (λ (k : ℕ). (priority_at t k).rows ≡ level_count k n.0) (sym e) n.3 in
    subst (λ (j : ℕ). Any (λ k. k ≡ line_of_row r) (lines (with_first_rows l (j + 1) (problem_of t)))) (sym count)
    (as_line r (lightened l (level_count l n.0 + 1) t.rows) (stay_lines 1001 t.stays)
    (subst (λ (rows : List Row). Any (λ s. s ≡ r) (lightened l (level_count l n.0 + 1) rows)) (sym n.2) (weighted l n.0 r n.1 e)))

-- and no other has its name
pub next_only : (t : Lists) (r : Row) (l : ℕ) → IsPartlyKept t → IsNextRow t r → l ≡ 1000 - r.rank → Each (λ k. k.name ≡ Held r.id → k ≡ line_of_row r) (lines (with_next t l))
next_only t r l kept n e = only_named (line_of_row r) (lines (with_next t l)) (next_sound t l ((priority_at t l).rows + 1) kept).0.names (next_line t r l n e)

-- what holds of it holds of each line of its name
pub next_each : (P : Line → Type 0) (t : Lists) (r : Row) (l : ℕ) → IsPartlyKept t → IsNextRow t r → l ≡ 1000 - r.rank → P (line_of_row r) → All (λ k. k.name ≡ Held r.id → P k) (lines (with_next t l))
next_each P t r l kept n e h =
    All-from_recursion (λ k. k.name ≡ Held r.id → P k) (lines (with_next t l))
    (each-impl (λ k. k.name ≡ Held r.id → k ≡ line_of_row r) _ (lines (with_next t l)) (λ k same name. subst P (sym (same name)) h) (next_only t r l kept n e))
