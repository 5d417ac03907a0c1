-- A stay's mark is at 0 where the stays stand at the present values, and its exchange changes no value.
use Rattle.std.proofs.Common.{◌≡◌, ◌∙◌, ℕ, ◌+◌, ◌++◌, List, [], ◌∷◌, map, ℤ, pos, ◌+ℤ◌, ◌-ℤ◌, ◌*ℤ◌, ◌<ℤ◌, ◌≤ℤ◌, sym, ap, subst, arith, Contains, inl, inr}
use Rattle.std.specs.List.{AllByRecursion as Each}
use Rattle.std.proofs.lemmas.Bool.{cases_eq}
use Rattle.std.proofs.lemmas.List.Elements.{All-from_recursion, recursion_from_All}
use lib.IntN.{*ℤ_comm}
use borrow.Author.Differences.{ints}
use Rattle.frac_core.proofs.Integers.{zero-mul_ℤ, zero_from_mul, mul-add_left, same_from_sub as sides-same}
use Rattle.problem_core.specs.declared.parts.Mark.{Mark}
use Rattle.problem_core.specs.declared.parts.RowName.{RowName}
use Rattle.problem_core.specs.declared.parts.RowName.TheVariants.{Stay as StayOf}
use Rattle.problem_core.specs.declared.parts.Side.{Side}
use Rattle.problem_core.specs.declared.parts.Side.TheVariants.{Under, Over}
use Rattle.problem_core.specs.declared.parts.Stay.{Stay}
use Rattle.problem_core.specs.Kept.{IsStay, IsWhole}
use Rattle.problem_core.specs.Changes.Begins.{ChangesNoValue}
use Rattle.problem_core.specs.Layout.{Line, Problem, Row, line_of_row, line_of_stay, lines, stay_lines, value_at}
use Rattle.problem_core.specs.Corners.{Agree, IsCorner, IsExchange, IsIn, NoNegativeValue, Point, SameMarks, StandsAt, Swap, attr_column, equation, exchanged, marks_of, one_column, place, place_of}
use Rattle.problem_core.proofs.Forms.{each-impl, each-both}
use Rattle.corner_laws.proofs.Exchanged.{exchanged_in}
use Rattle.corner_laws.proofs.LevelCosts.Gaps.{line_gap}
use Rattle.corner_laws.proofs.Rays.{cancel-right}
use Rattle.corner_laws.proofs.RunSteps.RunPaths.{contains_in, same_stands}
use Rattle.corner_laws.proofs.WrittenValues.{contains_each, nothing_outside}
use Rattle.corner_laws.specs.Runs.{other_side}
use Rattle.corner_lines.proofs.Lines.LineWritings.{Named, inside-named, named-mark, other-out}
use Rattle.corner_view.specs.Seen.{HasValueAt}
use Rattle.marker_remove.specs.Freed.{DoStand, HasSameValues}
use Rattle.corner_view.proofs.Facts.{stays_part}
use Rattle.problem_core.proofs.RowNames.{held-not-stay as held-stay, stay-same}
use Rattle.frac_core.proofs.Numbers.{zero-up as zero-fits}
use Rattle.problem_core.proofs.Marks.{entered-in as enter_in, kept-in as kept_in, in-list as in_list}

-- ---- the stay of a name

named-stay : (a : ℕ) (rows : List Row) (ls : List Line) → Named (StayOf a) (map line_of_row rows ++ ls) → Named (StayOf a) ls
named-stay a [] ls n = n
named-stay a (r ∷ rows) ls (inl e) = absurd (held-stay r.id a e)
named-stay a (r ∷ rows) ls (inr n) = named-stay a rows ls n

-- the stay of this attribute, with its level
stay-of : (Q : Stay → Type 0) (a n : ℕ) (stays : List Stay) → Each Q stays → Named (StayOf a) (stay_lines n stays) → (s : Stay) × (s.attr ≡ a) × Q s
stay-of Q a n [] q h = absurd h
stay-of Q a n (s ∷ stays) q (inl e) = (s, stay-same s.attr a e, q.0)
stay-of Q a n (s ∷ stays) q (inr h) = stay-of Q a (n + 1) stays q.1 h

each-stay : (P : Line → Type 0) (n : ℕ) (stays : List Stay) → Each P (stay_lines n stays) → Each (λ s. (k : ℕ) × P (line_of_stay k s)) stays
each-stay P n [] h = tt
each-stay P n (s ∷ stays) h = ((n, h.0), each-stay P (n + 1) stays h.1)

-- ---- its mark is at 0

no-way : (d : ℕ) (u o a n one : ℤ) → pos d *ℤ ((u -ℤ o) +ℤ (pos 1 *ℤ a +ℤ pos 0)) ≡ n *ℤ one → a *ℤ pos d ≡ n *ℤ one → pos d *ℤ (u -ℤ o) ≡ pos 0
no-way d u o a n one gap value =
    let one-a : pos 1 *ℤ a +ℤ pos 0 ≡ a = omega (arith, ints) in
    let split : pos d *ℤ ((u -ℤ o) +ℤ a) ≡ pos d *ℤ (u -ℤ o) +ℤ pos d *ℤ a = mul-add_left (pos d) (u -ℤ o) a in
    let gap-a : pos d *ℤ ((u -ℤ o) +ℤ a) ≡ n *ℤ one = ap (λ (z : ℤ). pos d *ℤ ((u -ℤ o) +ℤ z)) (sym one-a) ∙ gap in
    omega (arith, ints, split, gap-a, value, *ℤ_comm (pos d) a)

-- the marks of a stay at its value are equal
marks-same : (x : ℕ → ℤ) (k : ℕ) (s : Stay) → IsStay s → value_at x (equation (line_of_stay k s)) ≡ pos 0 → x (attr_column s.attr) *ℤ pos s.target.den ≡ s.target.num *ℤ x one_column → x (place_of (StayOf s.attr) Under) ≡ x (place_of (StayOf s.attr) Over)
marks-same x k s kept holds value =
    sides-same (x (place_of (StayOf s.attr) Under)) (x (place_of (StayOf s.attr) Over))
    (zero_from_mul s.target.den (x (place_of (StayOf s.attr) Under) -ℤ x (place_of (StayOf s.attr) Over)) kept.target.lowest.above
    (no-way s.target.den (x (place_of (StayOf s.attr) Under)) (x (place_of (StayOf s.attr) Over)) (x (attr_column s.attr)) s.target.num (x one_column) (line_gap x (line_of_stay k s) holds) value))

either-side : (x : ℕ → ℤ) (name : RowName) (side : Side) → x (place_of name Under) ≡ x (place_of name Over) → x (place_of name (other_side side)) ≡ pos 0 → x (place_of name side) ≡ pos 0
either-side x name Under e h = e ∙ h
either-side x name Over e h = sym e ∙ h

zero-moved : (a b one two : ℤ) → pos 0 <ℤ two → a ≡ pos 0 → b *ℤ two ≡ a *ℤ one → b ≡ pos 0
zero-moved a b one two above none e = cancel-right b (pos 0) two above (e ∙ ap (λ (z : ℤ). z *ℤ one) none ∙ zero-mul_ℤ one ∙ sym (zero-mul_ℤ two))

-- what is known of a stay at the corner
record IsStanding (p : Problem) (at : List Mark) (s : Stay) : Type 0 where
  kept : IsStay s
  value : HasValueAt p at (attr_column s.attr) s.target
  level : ℕ
  holds : (x : Point) → StandsAt p at x → value_at x.num (equation (line_of_stay level s)) ≡ pos 0

module _ (p : Problem) (at : List Mark) (whole : IsWhole p) (corner : IsCorner p at) (standing : DoStand p at) where
  each-standing : Each (IsStanding p at) p.stays
  each-standing =
      each-impl (λ s. ((k : ℕ) × ((x : Point) → StandsAt p at x → value_at x.num (equation (line_of_stay k s)) ≡ pos 0)) × (IsStay s × HasValueAt p at (attr_column s.attr) s.target)) (IsStanding p at) p.stays
      (λ s h. record { kept = h.1.0; value = h.1.1; level = h.0.0; holds = h.0.1 })
      (each-both (λ s. (k : ℕ) × ((x : Point) → StandsAt p at x → value_at x.num (equation (line_of_stay k s)) ≡ pos 0)) (λ s. IsStay s × HasValueAt p at (attr_column s.attr) s.target) p.stays
      (each-stay (λ l. (x : Point) → StandsAt p at x → value_at x.num (equation l) ≡ pos 0) 1001 p.stays
      (stays_part (λ l. (x : Point) → StandsAt p at x → value_at x.num (equation l) ≡ pos 0) p.rows (stay_lines 1001 p.stays)
      (recursion_from_All (λ l. (x : Point) → StandsAt p at x → value_at x.num (equation l) ≡ pos 0) (lines p) (λ i d within x stands. stands.0 i d within))))
      (each-both IsStay (λ s. HasValueAt p at (attr_column s.attr) s.target) p.stays (recursion_from_All IsStay p.stays whole.stays) (recursion_from_All (λ s. HasValueAt p at (attr_column s.attr) s.target) p.stays standing)))

  -- at the point at which the stay's value is told
  there : (a : ℕ) (side : Side) → IsIn (place_of (StayOf a) side) at → (x : Point) × StandsAt p at x × (x.num (place_of (StayOf a) side) ≡ pos 0)
  there a side inside =
      let named = inside-named p at (StayOf a) side corner inside in
      let s = stay-of (IsStanding p at) a 1001 p.stays each-standing (named-stay a p.rows (stay_lines 1001 p.stays) named) in
      let x : Point = s.2.value.0 in
      let stands : StandsAt p at x = s.2.value.1 in
      let same : x.num (place_of (StayOf a) Under) ≡ x.num (place_of (StayOf a) Over) =
      subst (λ (b : ℕ). x.num (place_of (StayOf b) Under) ≡ x.num (place_of (StayOf b) Over)) s.1
      (marks-same x.num s.2.level s.0 s.2.kept (s.2.holds x stands) s.2.value.2) in
      let other : x.num (place_of (StayOf a) (other_side side)) ≡ pos 0 =
      nothing_outside p at x (place_of (StayOf a) (other_side side)) stands (named-mark p (StayOf a) (other_side side) named) (λ i. other-out p at (StayOf a) side whole corner inside i) in
      (x, stands, either-side x.num (StayOf a) side same other)

  -- and so at each
  pub zero_there : (m : Mark) (a : ℕ) (y : Point) → m.row ≡ StayOf a → IsIn (place m) at → StandsAt p at y → y.num (place m) ≡ pos 0
  zero_there m a y e inside stands =
      let c : ℕ = place_of (StayOf a) m.side in
      let is : place m ≡ place_of (StayOf a) m.side = ap (λ (n : RowName). place_of n m.side) e in
      let here : IsIn (place_of (StayOf a) m.side) at = subst (λ (v : ℕ). IsIn v at) is inside in
      let h = there a m.side here in
      let mark : Contains (map place (marks_of (lines p))) (place_of (StayOf a) m.side) = named-mark p (StayOf a) m.side (inside-named p at (StayOf a) m.side corner here) in
      let agree : (z : Point) → StandsAt p at z → Agree (place_of (StayOf a) m.side) corner.point z = λ z s. contains_each (λ v. Agree v corner.point z) (marks_of (lines p)) (place_of (StayOf a) m.side) (recursion_from_All (λ m. Agree (place m) corner.point z) (marks_of (lines p)) (corner.marks_fixed z s)) mark in
      let none : corner.point.num (place_of (StayOf a) m.side) ≡ pos 0 =
      zero-moved (h.0.num (place_of (StayOf a) m.side)) (corner.point.num (place_of (StayOf a) m.side)) (corner.point.num one_column) (h.0.num one_column) h.0.positive h.2 (agree h.0 h.1) in
      ap y.num is ∙ zero-moved (corner.point.num (place_of (StayOf a) m.side)) (y.num (place_of (StayOf a) m.side)) (y.num one_column) (corner.point.num one_column) corner.point.positive none (sym (agree y stands))

-- ---- an exchange for a mark at 0

-- a point at which the leaving mark is 0 stands at the next corner too
pub next_stands : (p : Problem) (at : List Mark) (s : Swap) (x : Point) → StandsAt p at x → x.num (place s.leave) ≡ pos 0 → StandsAt p (exchanged s at) x
next_stands p at s x stands none = (
  stands.0,
  All-from_recursion (λ m. (IsIn (place m) (exchanged s at) → ⊥) → x.num (place m) ≡ pos 0) (marks_of (lines p))
      (each-impl (λ m. (IsIn (place m) at → ⊥) → x.num (place m) ≡ pos 0) (λ m. (IsIn (place m) (exchanged s at) → ⊥) → x.num (place m) ≡ pos 0) (marks_of (lines p))
      (λ m h out. elim (cases_eq (place m) (place s.leave)) [
        | inl e ↦ ap x.num e ∙ none
        | inr n ↦ h (λ i. out (kept_in s at (place m) i n))
      ])
      (recursion_from_All (λ m. (IsIn (place m) at → ⊥) → x.num (place m) ≡ pos 0) (marks_of (lines p)) stands.1)),
)

pub no_value : (p : Problem) (at : List Mark) (s : Swap) (a : ℕ) → IsWhole p → IsCorner p at → DoStand p at → s.leave.row ≡ StayOf a → IsIn (place s.leave) at → ChangesNoValue p at s
no_value p at s a whole corner standing e leaves x stands = next_stands p at s x stands (zero_there p at whole corner standing s.leave a x e leaves stands)

pub same_values : (p : Problem) (at new : List Mark) (s : Swap) (a : ℕ) → IsWhole p → IsCorner p at → DoStand p at → s.leave.row ≡ StayOf a → IsIn (place s.leave) at → SameMarks (exchanged s at) new → HasSameValues p at new
same_values p at new s a whole corner standing e leaves same c f (x, stands, value) = (
  x,
  same_stands p new (exchanged s at) x (λ v i. contains_in (exchanged s at) new v same.0 i) (no_value p at s a whole corner standing e leaves x stands),
  value,
)

-- no value turns negative
pub same_up : (p : Problem) (at new : List Mark) (s : Swap) (a : ℕ) → IsWhole p → IsCorner p at → DoStand p at → s.leave.row ≡ StayOf a → IsExchange p at s → SameMarks (exchanged s at) new → NoNegativeValue p at → NoNegativeValue p new
same_up p at new s a whole corner standing e ex same (x, stands, up) = (
  x,
  same_stands p new (exchanged s at) x (λ v i. contains_in (exchanged s at) new v same.0 i) next,
  All-from_recursion (λ m. pos 0 ≤ℤ x.num (place m)) new
      (each-impl (λ m. IsIn (place m) new) (λ m. pos 0 ≤ℤ x.num (place m)) new
      (λ m i. elim (exchanged_in s at (place m) (contains_in new (exchanged s at) (place m) same.1 i)) [
        | inl q ↦ zero-fits (x.num (place m)) (ap x.num q ∙ enter-zero)
        | inr old ↦ contains_each (λ v. pos 0 ≤ℤ x.num v) at (place m) (recursion_from_All (λ m. pos 0 ≤ℤ x.num (place m)) at up) old.0
      ])
      (in_list new)),
)
  where
    next : StandsAt p (exchanged s at) x
    next = no_value p at s a whole corner standing e ex.leaves x stands

    enter-in : Contains (map place (marks_of (lines p))) (place s.enter)
    enter-in = contains_each (λ c. Contains (map place (marks_of (lines p))) c) (exchanged s at) (place s.enter) (recursion_from_All (λ m. Contains (map place (marks_of (lines p))) (place m)) (exchanged s at) ex.corner.marks) (enter_in s at ex.leaves)

    enter-zero : x.num (place s.enter) ≡ pos 0
    enter-zero = nothing_outside p at x (place s.enter) stands enter-in ex.enters
