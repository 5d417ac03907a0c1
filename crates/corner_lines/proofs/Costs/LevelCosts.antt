-- What a level costs after an exchange or a turn.
use Rattle.std.proofs.Common.{◌≡◌, ◌≢◌, ◌∙◌, ℕ, ◌*◌, ◌/◌, ◌<◌, cond, nat_eq, List, map, ℤ, pos, negsuc, ◌+ℤ◌, ◌-ℤ◌, ◌*ℤ◌, neg_ℤ, ◌<ℤ◌, refl, sym, ap, ap₂, subst, arith, inl, inr, All, Contains, mul-pos}
use Rattle.std.specs.List.{AllByRecursion as Each}
use Rattle.std.specs.Int.{◌∣◌}
use Rattle.std.proofs.lemmas.Bool.{cases_eq, cases_Bool}
use Rattle.std.proofs.lemmas.List.Elements.{All-from_recursion, recursion_from_All}
use borrow.Author.Differences.{ints}
use Rattle.frac_core.specs.Fraction.{Fraction, IsRatio, sum_den, sum_num}
use Rattle.frac_core.proofs.Integers.{cancel_mul, diff, diff_eq, diff-add, diff-mul, diff-neg, diff-pos, neg-pos, mul-add_left, mul-sub_left, mul-zero_ℤ, mul_assoc_ℤ, mul_left_comm_ℤ, on_2, on_3, same_from_sub, zero-mul_ℤ}
use Rattle.problem_core.specs.declared.parts.Mark.{Mark}
use Rattle.problem_core.specs.declared.parts.Side.{Side}
use Rattle.problem_core.specs.declared.parts.Side.TheVariants.{Under, Over}
use Rattle.problem_core.specs.declared.parts.RowName.{RowName}
use Rattle.problem_core.specs.Layout.{Line, Problem, lines, sum_of, value_at}
use Rattle.problem_core.specs.Kept.{IsWhole}
use Rattle.problem_core.specs.Certificates.{under_weight, over_weight, weight_at}
use Rattle.problem_core.specs.Corners.{IsCorner, IsExchange, IsIn, Point, StandsAt, Swap, column, equation, exchanged, marks_of, one_column, place, place_of}
use Rattle.problem_core.proofs.Corners.CornerFacts.{is_place}
use Rattle.problem_core.proofs.Forms.{each-impl, each-both, value-plus, value-scaled}
use Rattle.problem_core.proofs.Wholes.{whole-IsProblem}
use Rattle.problem_core.specs.Levels.{HasNoLevelWriting, IsCostAt, alone, cost_at, scales}
use Rattle.corner_laws.specs.Units.{IsLevelRow, IsLevelUnit, over_share, under_share}
use Rattle.corner_laws.proofs.Swaps.ColumnsStay.{each_marks}
use Rattle.corner_laws.proofs.Counting.{IsIn-from_is_place, IsSmall}
use Rattle.corner_laws.proofs.Exchanged.{exchanged_in}
use Rattle.corner_laws.proofs.LevelCosts.Gaps.{direction_cost, moved_columns, shares}
use Rattle.corner_laws.proofs.LinePlaces.{AreApart, lines_apart, sum-single}
use Rattle.corner_laws.proofs.PathEnds.Rises.{cost_linear, step, both-none}
use Rattle.corner_laws.proofs.LevelCosts.Unique.{same-name}
use Rattle.corner_laws.proofs.WrittenValues.{contains_each, nothing_outside}
use Rattle.corner_laws.proofs.ZeroColumns.{here-in, not-in, scales-above}
use Rattle.corner_lines.specs.LineEquations.{deviation}
use Rattle.corner_lines.specs.Levels.LevelRows.{inside_number, reduced_number}
use Rattle.corner_lines.specs.Levels.LevelCosts.{ExchangedCostIsCost, HasDeviation, IsCostStep, IsUnfitStep, TurnedCostIsCost, UnfitExchangedCost, UnfitTurnedCost}
use Rattle.corner_lines.proofs.Costs.LevelPlaces.{cost_everywhere}
use Rattle.corner_lines.proofs.LevelRows.LevelExchanges.{by-sides, entering-number, inside-numbers, turning-number, two-marks}
use Rattle.problem_core.proofs.Corners.Conflicts.{sum-each}
use Rattle.corner_laws.proofs.LevelCosts.ExchangedLevels.{left-zero}
use Rattle.corner_lines.proofs.Lines.LineWritings.{all-small}
use Rattle.corner_laws.proofs.LevelCosts.LevelNumbers.{under-whole, over-whole, moved-in}
use Rattle.frac_core.proofs.Numbers.{neg-times, mul-neg as mul-opp, turned-cancels as same-ones}
use Rattle.frac_core.proofs.Bools.{count-other as cond_other, count-same as cond_same}
use Rattle.problem_core.proofs.Marks.{entered-in as exchanged_has}

ruleset ring = (diff-add, diff-mul, diff-neg, diff-pos, neg-pos)

-- ---- columns as reduced numbers

under-column : (k own u m w : ℕ) (y : ℤ) → k * u ≡ m * w → pos (own * m * w) -ℤ pos k *ℤ y ≡ pos k *ℤ (pos (own * u) -ℤ y)
under-column k own u m w y e = sym (mul-sub_left (pos k) (pos (own * u)) y ∙ ap (λ (n : ℕ). pos n -ℤ pos k *ℤ y) (moved-in k own u m w e))

over-column : (k own u m w : ℕ) (y : ℤ) → k * u ≡ m * w → pos (own * m * w) +ℤ pos k *ℤ y ≡ pos k *ℤ (pos (own * u) +ℤ y)
over-column k own u m w y e = sym (mul-add_left (pos k) (pos (own * u)) y ∙ ap (λ (n : ℕ). pos n +ℤ pos k *ℤ y) (moved-in k own u m w e))

pub column-is : (side : Side) (level unit own : ℕ) (by : RowName → ℤ) (l : Line) → l.scale ∣ unit * weight_at l level → column (alone (own * unit) by) side l level ≡ pos l.scale *ℤ reduced_number side level unit own (by l.name) l
column-is Under level unit own by l d = under-column l.scale own (under_share unit level l) unit (under_weight l.rel (weight_at l level)) (by l.name) (under-whole l.rel l.scale unit (weight_at l level) d)
column-is Over level unit own by l d = over-column l.scale own (over_share unit level l) unit (over_weight l.rel (weight_at l level)) (by l.name) (over-whole l.rel l.scale unit (weight_at l level) d)

-- an inside mark's is 0
pub reduced-none : (side : Side) (level unit own : ℕ) (y : ℤ) (l : Line) → y ≡ inside_number side level unit own l → reduced_number side level unit own y l ≡ pos 0
reduced-none Under level unit own y l e = let a : ℤ = pos (own * under_share unit level l) in omega (arith, ints, e)
reduced-none Over level unit own y l e = let a : ℤ = pos (own * over_share unit level l) in omega (arith, ints, e)

-- the sides are apart
one-of : Side → ℕ
one-of Under = 0
one-of Over = 1

pub over-not : Over ≢ Under
unfolding one-of
over-not e = let h : 1 ≡ 0 = ap one-of e in absurd (omega (arith, h))

-- ---- from one point to another

first-only : (a b x y : ℤ) → x ≡ pos 0 → a *ℤ y +ℤ neg_ℤ b *ℤ x ≡ a *ℤ y
first-only a b x y e = let h : neg_ℤ b *ℤ x ≡ pos 0 = ap (λ (z : ℤ). neg_ℤ b *ℤ z) e ∙ mul-zero_ℤ (neg_ℤ b) in omega (arith, ints, h)

pub step-solves : (p : Problem) (x y : Point) → All (λ l. value_at x.num (equation l) ≡ pos 0) (lines p) → All (λ l. value_at y.num (equation l) ≡ pos 0) (lines p) → All (λ l. value_at (step x y) (equation l) ≡ pos 0) (lines p)
step-solves p x y h k =
    All-from_recursion (λ l. value_at (step x y) (equation l) ≡ pos 0) (lines p)
    (each-impl (λ l. (value_at x.num (equation l) ≡ pos 0) × (value_at y.num (equation l) ≡ pos 0)) _ (lines p)
    (λ l e. value-plus (λ v. x.num one_column *ℤ y.num v) (λ v. neg_ℤ (y.num one_column) *ℤ x.num v) (equation l)
    ∙ ap₂ ◌+ℤ◌ (value-scaled (x.num one_column) y.num (equation l)) (value-scaled (neg_ℤ (y.num one_column)) x.num (equation l))
    ∙ both-none (x.num one_column) (y.num one_column) (value_at x.num (equation l)) (value_at y.num (equation l)) e.0 e.1)
    (each-both _ _ (lines p) (recursion_from_All _ (lines p) h) (recursion_from_All _ (lines p) k)))

-- ---- one mark

-- of each mark but the entering one the column is 0, or it does not move
record Stays (at : List Mark) (s : Swap) (x z : ℕ → ℤ) (v : ℕ) : Type 0 where
  before : (IsIn v at → ⊥) → x v ≡ pos 0
  after : (IsIn v (exchanged s at) → ⊥) → z v ≡ pos 0

not-after : (s : Swap) (at : List Mark) (v : ℕ) → (IsIn v at → ⊥) → v ≢ place s.enter → IsIn v (exchanged s at) → ⊥
not-after s at v out ne i = elim (exchanged_in s at v i) [
  | inl e ↦ ne e
  | inr r ↦ out r.0
]

-- the column k of the mark, times how far it moves
mark-part : (at : List Mark) (s : Swap) (a b : ℤ) (x z : ℕ → ℤ) (v : ℕ) (k : ℤ) → Stays at s x z v → v ≢ place s.enter → (IsIn v at → k ≡ pos 0) → k *ℤ (a *ℤ z v +ℤ neg_ℤ b *ℤ x v) ≡ pos 0
mark-part at s a b x z v k st ne none =
    elim (cases_Bool (is_place at v)) [
      | inl i ↦ ap (λ (c : ℤ). c *ℤ (a *ℤ z v +ℤ neg_ℤ b *ℤ x v)) (none (IsIn-from_is_place v at i)) ∙ zero-mul_ℤ (a *ℤ z v +ℤ neg_ℤ b *ℤ x v)
      | inr o ↦
          let out = not-in at v o in
          ap (λ (c : ℤ). k *ℤ c) (both-none a b (x v) (z v) (st.before out) (st.after (not-after s at v out ne))) ∙ mul-zero_ℤ k
    ]

-- ---- one line

record Facts (p : Problem) (at : List Mark) (s : Swap) (level unit own : ℕ) (by : RowName → ℤ) (n : ℤ) (x z : ℕ → ℤ) (l : Line) : Type 0 where
  small : IsSmall l.name
  share : scales p / l.scale * l.scale ≡ scales p
  whole : l.scale ∣ unit * weight_at l level
  inside : (side : Side) → IsIn (place_of l.name side) at → by l.name ≡ inside_number side level unit own l
  change : l.name ≡ s.enter.row → n ≡ by l.name -ℤ inside_number s.enter.side level unit own l
  stays : (side : Side) → Stays at s x z (place_of l.name side)

column-none : (p : Problem) (at : List Mark) (s : Swap) (level unit own : ℕ) (by : RowName → ℤ) (n : ℤ) (x z : ℕ → ℤ) (l : Line) (side : Side) → Facts p at s level unit own by n x z l → IsIn (place_of l.name side) at → column (alone (own * unit) by) side l level ≡ pos 0
column-none p at s level unit own by n x z l side f i = column-is side level unit own by l f.whole ∙ ap (λ (c : ℤ). pos l.scale *ℤ c) (reduced-none side level unit own (by l.name) l (f.inside side i)) ∙ mul-zero_ℤ (pos l.scale)

side-part : (p : Problem) (at : List Mark) (s : Swap) (level unit own : ℕ) (by : RowName → ℤ) (n : ℤ) (x z : Point) (l : Line) (side : Side) → Facts p at s level unit own by n x.num z.num l → place_of l.name side ≢ place s.enter → column (alone (own * unit) by) side l level *ℤ step x z (place_of l.name side) ≡ pos 0
side-part p at s level unit own by n x z l side f ne =
    mark-part at s (x.num one_column) (z.num one_column) x.num z.num (place_of l.name side) (column (alone (own * unit) by) side l level) (f.stays side) ne (λ i. column-none p at s level unit own by n x.num z.num l side f i)

-- reduced cost times how far the mark is, as n times the deviation
reduced-dev : (side : Side) (level unit own : ℕ) (y n : ℤ) (name : RowName) (z : ℕ → ℤ) (l : Line) → n ≡ y -ℤ inside_number side level unit own l → ((other : Side) → other ≢ side → z (place_of name other) ≡ pos 0) → reduced_number side level unit own y l *ℤ z (place_of name side) ≡ n *ℤ deviation name z
reduced-dev Under level unit own y n name z l e nil =
    let none : z (place_of name Over) ≡ pos 0 = nil Over over-not in
    let r : pos (own * under_share unit level l) -ℤ y ≡ neg_ℤ n = omega (arith, ints, e) in
    let g : z (place_of name Over) -ℤ z (place_of name Under) ≡ neg_ℤ (z (place_of name Under)) = omega (arith, ints, none) in
    ap (λ (c : ℤ). c *ℤ z (place_of name Under)) r ∙ neg-times n (z (place_of name Under)) ∙ sym (ap (λ (c : ℤ). n *ℤ c) g ∙ mul-opp n (z (place_of name Under)))
reduced-dev Over level unit own y n name z l e nil =
    let none : z (place_of name Under) ≡ pos 0 = nil Under (λ e. over-not (sym e)) in
    let r : pos (own * over_share unit level l) +ℤ y ≡ n = omega (arith, ints, e) in
    let g : z (place_of name Over) -ℤ z (place_of name Under) ≡ z (place_of name Over) = omega (arith, ints, none) in
    ap (λ (c : ℤ). c *ℤ z (place_of name Over)) r ∙ sym (ap (λ (c : ℤ). n *ℤ c) g)

-- q*(k*r*m) = w*(r*m)
entering-part : (q k whole : ℕ) (col r a v n d : ℤ) → q * k ≡ whole → col ≡ pos k *ℤ r → r *ℤ v ≡ n *ℤ d → pos q *ℤ (col *ℤ (a *ℤ v)) ≡ pos whole *ℤ (n *ℤ (a *ℤ d))
entering-part q k whole col r a v n d e f h =
    let one : col *ℤ (a *ℤ v) ≡ pos k *ℤ (a *ℤ (n *ℤ d)) = ap (λ (c : ℤ). c *ℤ (a *ℤ v)) f ∙ mul_assoc_ℤ (pos k) r (a *ℤ v) ∙ ap (λ (c : ℤ). pos k *ℤ c) (mul_left_comm_ℤ r a v ∙ ap (λ (c : ℤ). a *ℤ c) h) in
    ap (λ (c : ℤ). pos q *ℤ c) one ∙ sym (mul_assoc_ℤ (pos q) (pos k) (a *ℤ (n *ℤ d))) ∙ ap (λ (m : ℕ). pos m *ℤ (a *ℤ (n *ℤ d))) e ∙ ap (λ (c : ℤ). pos whole *ℤ c) (mul_left_comm_ℤ a n d)

sum-first : (q : ℕ) (a b v : ℤ) → b ≡ pos 0 → pos q *ℤ a ≡ v → pos q *ℤ (a +ℤ b) ≡ v
sum-first q a b v e h = ap (λ (c : ℤ). pos q *ℤ c) (let k : a +ℤ b ≡ a = omega (arith, ints, e) in k) ∙ h

sum-second : (q : ℕ) (a b v : ℤ) → a ≡ pos 0 → pos q *ℤ b ≡ v → pos q *ℤ (a +ℤ b) ≡ v
sum-second q a b v e h = ap (λ (c : ℤ). pos q *ℤ c) (let k : a +ℤ b ≡ b = omega (arith, ints, e) in k) ∙ h

-- the entering line's part
line-enters : (p : Problem) (at : List Mark) (s : Swap) (level unit own : ℕ) (by : RowName → ℤ) (n : ℤ) (x z : Point) (l : Line) (side : Side) → Facts p at s level unit own by n x.num z.num l → IsCorner p (exchanged s at) → IsIn (place s.leave) at → (IsIn (place s.enter) at → ⊥) → l.name ≡ s.enter.row → side ≡ s.enter.side
    → pos (scales p / l.scale) *ℤ moved_columns (alone (own * unit) by) (step x z) level l ≡ pos (scales p) *ℤ (n *ℤ (x.num one_column *ℤ deviation s.enter.row z.num))
line-enters p at s level unit own by n x z l side f corner leaves out e same =
    let there : IsIn (place_of l.name side) (exchanged s at) = subst (λ (a : RowName). IsIn (place_of a side) (exchanged s at)) (sym e) (subst (λ (b : Side). IsIn (place_of s.enter.row b) (exchanged s at)) (sym same) (exchanged_has s at leaves)) in
    let gone : IsIn (place_of l.name side) at → ⊥ = λ i. out (subst (λ (b : Side). IsIn (place_of s.enter.row b) at) same (subst (λ (a : RowName). IsIn (place_of a side) at) e i)) in
    let nil : (other : Side) → other ≢ side → z.num (place_of l.name other) ≡ pos 0 = λ other ne. (f.stays other).after (λ i. two-marks p (exchanged s at) l.name other side f.small corner i there ne) in
    let dev : reduced_number side level unit own (by l.name) l *ℤ z.num (place_of l.name side) ≡ n *ℤ deviation s.enter.row z.num =
    reduced-dev side level unit own (by l.name) n l.name z.num l (subst (λ (b : Side). n ≡ by l.name -ℤ inside_number b level unit own l) (sym same) (f.change e)) nil ∙ ap (λ (a : RowName). n *ℤ deviation a z.num) e in
    let own_part : pos (scales p / l.scale) *ℤ (column (alone (own * unit) by) side l level *ℤ step x z (place_of l.name side)) ≡ pos (scales p) *ℤ (n *ℤ (x.num one_column *ℤ deviation s.enter.row z.num)) =
    ap (λ (c : ℤ). pos (scales p / l.scale) *ℤ (column (alone (own * unit) by) side l level *ℤ c)) (first-only (x.num one_column) (z.num one_column) (x.num (place_of l.name side)) (z.num (place_of l.name side)) ((f.stays side).before gone))
    ∙ entering-part (scales p / l.scale) l.scale (scales p) (column (alone (own * unit) by) side l level) (reduced_number side level unit own (by l.name) l) (x.num one_column) (z.num (place_of l.name side)) n (deviation s.enter.row z.num) f.share (column-is side level unit own by l f.whole) dev in
    with-side p at s level unit own by n x z l side f e same own_part
  where
    with-side : (p : Problem) (at : List Mark) (s : Swap) (level unit own : ℕ) (by : RowName → ℤ) (n : ℤ) (x z : Point) (l : Line) (side : Side) → Facts p at s level unit own by n x.num z.num l → l.name ≡ s.enter.row → side ≡ s.enter.side
        → {v : ℤ} → pos (scales p / l.scale) *ℤ (column (alone (own * unit) by) side l level *ℤ step x z (place_of l.name side)) ≡ v → pos (scales p / l.scale) *ℤ moved_columns (alone (own * unit) by) (step x z) level l ≡ v
    with-side p at s level unit own by n x z l Under f e same {v} h =
        sum-first (scales p / l.scale) (column (alone (own * unit) by) Under l level *ℤ step x z (place_of l.name Under)) (column (alone (own * unit) by) Over l level *ℤ step x z (place_of l.name Over)) v
        (side-part p at s level unit own by n x z l Over f (λ q. over-not ((by-sides l.name s.enter.row Over s.enter.side q).1 ∙ sym same))) h
    with-side p at s level unit own by n x z l Over f e same {v} h =
        sum-second (scales p / l.scale) (column (alone (own * unit) by) Under l level *ℤ step x z (place_of l.name Under)) (column (alone (own * unit) by) Over l level *ℤ step x z (place_of l.name Over)) v
        (side-part p at s level unit own by n x z l Under f (λ q. over-not (sym ((by-sides l.name s.enter.row Under s.enter.side q).1 ∙ sym same)))) h

-- another line's
line-stays : (p : Problem) (at : List Mark) (s : Swap) (level unit own : ℕ) (by : RowName → ℤ) (n : ℤ) (x z : Point) (l : Line) → Facts p at s level unit own by n x.num z.num l → l.name ≢ s.enter.row → pos (scales p / l.scale) *ℤ moved_columns (alone (own * unit) by) (step x z) level l ≡ pos 0
line-stays p at s level unit own by n x z l f ne =
    sum-first (scales p / l.scale) (column (alone (own * unit) by) Under l level *ℤ step x z (place_of l.name Under)) (column (alone (own * unit) by) Over l level *ℤ step x z (place_of l.name Over)) (pos 0)
    (side-part p at s level unit own by n x z l Over f (λ q. ne (by-sides l.name s.enter.row Over s.enter.side q).0))
    (ap (λ (c : ℤ). pos (scales p / l.scale) *ℤ c) (side-part p at s level unit own by n x z l Under f (λ q. ne (by-sides l.name s.enter.row Under s.enter.side q).0)) ∙ mul-zero_ℤ (pos (scales p / l.scale)))

-- ---- a sum in which one line counts

named : (l k : Line) (v : ℤ) → AreApart k l → cond (nat_eq (place_of l.name Under) (place_of k.name Under)) v (pos 0) ≡ pos 0
named l k v a = cond_other (place_of l.name Under) (place_of k.name Under) v (λ e. a.under_under (sym e))

pub one-line : (p : Problem) (m : Mark) (v : ℤ) → IsWhole p → Contains (map place (marks_of (lines p))) (place m) → sum_of (λ l. cond (nat_eq (place_of l.name Under) (place_of m.row Under)) v (pos 0)) (lines p) ≡ v
one-line p m v whole is =
    contains_each (λ c. c ≡ place m → sum_of (λ l. cond (nat_eq (place_of l.name Under) (place_of m.row Under)) v (pos 0)) (lines p) ≡ v) (marks_of (lines p)) (place m)
    (each_marks (λ c. c ≡ place m → sum_of (λ l. cond (nat_eq (place_of l.name Under) (place_of m.row Under)) v (pos 0)) (lines p) ≡ v) (lines p)
    (each-impl (λ k. sum_of (λ l. cond (nat_eq (place_of l.name Under) (place_of k.name Under)) v (pos 0)) (lines p) ≡ cond (nat_eq (place_of k.name Under) (place_of k.name Under)) v (pos 0)) _ (lines p) (λ k h e. here k Under h e) all)
    (each-impl (λ k. sum_of (λ l. cond (nat_eq (place_of l.name Under) (place_of k.name Under)) v (pos 0)) (lines p) ≡ cond (nat_eq (place_of k.name Under) (place_of k.name Under)) v (pos 0)) _ (lines p) (λ k h e. here k Over h e) all)) is refl
  where
    all : Each (λ k. sum_of (λ l. cond (nat_eq (place_of l.name Under) (place_of k.name Under)) v (pos 0)) (lines p) ≡ cond (nat_eq (place_of k.name Under) (place_of k.name Under)) v (pos 0)) (lines p)
    all = sum-single (λ k l. cond (nat_eq (place_of l.name Under) (place_of k.name Under)) v (pos 0)) (λ k l a. named l k v a) (lines p) (lines_apart p whole)

    here : (k : Line) (side : Side) → sum_of (λ l. cond (nat_eq (place_of l.name Under) (place_of k.name Under)) v (pos 0)) (lines p) ≡ cond (nat_eq (place_of k.name Under) (place_of k.name Under)) v (pos 0) → place_of k.name side ≡ place m → sum_of (λ l. cond (nat_eq (place_of l.name Under) (place_of m.row Under)) v (pos 0)) (lines p) ≡ v
    here k side h e =
        subst (λ (a : RowName). sum_of (λ l. cond (nat_eq (place_of l.name Under) (place_of a Under)) v (pos 0)) (lines p) ≡ v) (by-sides k.name m.row side m.side e).0
        (h ∙ cond_same (place_of k.name Under) (place_of k.name Under) v refl)

-- ---- all lines

stays-both : (at : List Mark) (s : Swap) (x z : ℕ → ℤ) (l : Line) → Stays at s x z (place_of l.name Under) → Stays at s x z (place_of l.name Over) → (side : Side) → Stays at s x z (place_of l.name side)
stays-both at s x z l u o Under = u
stays-both at s x z l u o Over = o

all-facts : (p : Problem) (at : List Mark) (s : Swap) (level unit own : ℕ) (by : RowName → ℤ) (n : ℤ) (x z : Point) → IsWhole p → IsLevelUnit p level unit → IsLevelRow p at level unit own by → Each (λ l. l.name ≡ s.enter.row → n ≡ by l.name -ℤ inside_number s.enter.side level unit own l) (lines p)
    → StandsAt p at x → StandsAt p (exchanged s at) z → Each (Facts p at s level unit own by n x.num z.num) (lines p)
all-facts p at s level unit own by n x z whole is row changes here there =
    each-impl (λ l. ((IsSmall l.name × (scales p / l.scale * l.scale ≡ scales p)) × (l.scale ∣ unit * weight_at l level))
    × ((((side : Side) → IsIn (place_of l.name side) at → by l.name ≡ inside_number side level unit own l) × (l.name ≡ s.enter.row → n ≡ by l.name -ℤ inside_number s.enter.side level unit own l))
    × (Contains (map place (marks_of (lines p))) (place_of l.name Under) × Contains (map place (marks_of (lines p))) (place_of l.name Over)))) _ (lines p)
    (λ l h. record {
      small = h.0.0.0;
      share = h.0.0.1;
      whole = h.0.1;
      inside = h.1.0.0;
      change = h.1.0.1;
      stays = stays-both at s x.num z.num l (record { before = λ o. nothing_outside p at x (place_of l.name Under) here h.1.1.0 o; after = λ o. nothing_outside p (exchanged s at) z (place_of l.name Under) there h.1.1.0 o })
          (record { before = λ o. nothing_outside p at x (place_of l.name Over) here h.1.1.1 o; after = λ o. nothing_outside p (exchanged s at) z (place_of l.name Over) there h.1.1.1 o });
    })
    (each-both _ _ (lines p)
    (each-both _ _ (lines p) (each-both _ _ (lines p) (all-small p whole) (shares p (whole-IsProblem p whole))) (recursion_from_All _ (lines p) is.whole))
    (each-both _ _ (lines p) (each-both _ _ (lines p) (inside-numbers p at level unit own by row) changes) (here-in (lines p))))

-- the cost's change, times its scale
moved-cost : (p : Problem) (at : List Mark) (s : Swap) (level unit own : ℕ) (by : RowName → ℤ) (n : ℤ) (x z : Point) → IsWhole p → IsLevelUnit p level unit → IsExchange p at s → IsLevelRow p at level unit own by → Each (λ l. l.name ≡ s.enter.row → n ≡ by l.name -ℤ inside_number s.enter.side level unit own l) (lines p)
    → StandsAt p at x → StandsAt p (exchanged s at) z
    → pos (own * unit) *ℤ (x.num one_column *ℤ cost_at p level z.num +ℤ neg_ℤ (z.num one_column) *ℤ cost_at p level x.num) ≡ pos (scales p) *ℤ (n *ℤ (x.num one_column *ℤ deviation s.enter.row z.num))
moved-cost p at s level unit own by n x z whole is ex row changes here there =
    let value : ℤ = pos (scales p) *ℤ (n *ℤ (x.num one_column *ℤ deviation s.enter.row z.num)) in
    let facts = all-facts p at s level unit own by n x z whole is row changes here there in
    let mark : Contains (map place (marks_of (lines p))) (place s.enter) =
    contains_each (λ c. Contains (map place (marks_of (lines p))) c) (exchanged s at) (place s.enter) (recursion_from_All (λ m. Contains (map place (marks_of (lines p))) (place m)) (exchanged s at) ex.corner.marks) (exchanged_has s at ex.leaves) in
    ap (λ (c : ℤ). pos (own * unit) *ℤ c) (sym (cost_linear p level (x.num one_column) (neg_ℤ (z.num one_column)) z.num x.num))
    ∙ direction_cost p (alone (own * unit) by) (step x z) level (whole-IsProblem p whole) row.cancel (same-ones (x.num one_column) (z.num one_column)) (step-solves p x z here.0 there.0)
    ∙ sum-each (λ l. pos (scales p / l.scale) *ℤ moved_columns (alone (own * unit) by) (step x z) level l) (λ l. cond (nat_eq (place_of l.name Under) (place_of s.enter.row Under)) (pos (scales p) *ℤ (n *ℤ (x.num one_column *ℤ deviation s.enter.row z.num))) (pos 0)) (lines p)
    (each-impl (Facts p at s level unit own by n x.num z.num) _ (lines p)
    (λ l f. elim (cases_eq (place_of l.name Under) (place_of s.enter.row Under)) [
      | inl e ↦ line-enters p at s level unit own by n x z l s.enter.side f ex.corner ex.leaves ex.enters (same-name l.name s.enter.row e) refl ∙ sym (cond_same (place_of l.name Under) (place_of s.enter.row Under) (pos (scales p) *ℤ (n *ℤ (x.num one_column *ℤ deviation s.enter.row z.num))) e)
      | inr ne ↦ line-stays p at s level unit own by n x z l f (λ e. ne (ap (λ (a : RowName). place_of a Under) e)) ∙ sym (cond_other (place_of l.name Under) (place_of s.enter.row Under) (pos (scales p) *ℤ (n *ℤ (x.num one_column *ℤ deviation s.enter.row z.num))) ne)
    ]) facts)
    ∙ one-line p s.enter (pos (scales p) *ℤ (n *ℤ (x.num one_column *ℤ deviation s.enter.row z.num))) whole mark

-- ---- fractions

on_4 : (P : ℤ → ℤ → ℤ → ℤ → Type 0) → ((a a' b b' c c' d d' : ℕ) → P (diff a a') (diff b b') (diff c c') (diff d d')) → (x y z w : ℤ) → P x y z w
on_4 P f x y z w = on_2 (λ s t. P s t z w) (λ a a' b b'. on_2 (λ s t. P (diff a a') (diff b b') s t) (λ c c' d d'. f a a' b b' c c' d d') z w) x y

on_5 : (P : ℤ → ℤ → ℤ → ℤ → ℤ → Type 0) → ((a a' b b' c c' d d' e e' : ℕ) → P (diff a a') (diff b b') (diff c c') (diff d d') (diff e e')) → (x y z w v : ℤ) → P x y z w v
on_5 P f x y z w v = on_2 (λ s t. P s t z w v) (λ a a' b b'. on_3 (λ s t u. P (diff a a') (diff b b') s t u) (λ c c' d d' e e'. f a a' b b' c c' d d' e e') z w v) x y

-- without the denominator of the first point
first-identity : (X Z D S fd : ℕ) (cx cz fn w : ℤ) → pos X *ℤ (pos D *ℤ (cz *ℤ pos fd) -ℤ pos S *ℤ (pos D *ℤ (pos Z *ℤ fn) +ℤ w *ℤ pos fd))
    ≡ pos fd *ℤ (pos D *ℤ (pos X *ℤ cz +ℤ neg_ℤ (pos Z) *ℤ cx) -ℤ pos S *ℤ (pos X *ℤ w)) +ℤ pos (D * Z) *ℤ (cx *ℤ pos fd -ℤ fn *ℤ (pos S *ℤ pos X))
first-identity X Z D S fd = on_4 (λ cx cz fn w. pos X *ℤ (pos D *ℤ (cz *ℤ pos fd) -ℤ pos S *ℤ (pos D *ℤ (pos Z *ℤ fn) +ℤ w *ℤ pos fd))
    ≡ pos fd *ℤ (pos D *ℤ (pos X *ℤ cz +ℤ neg_ℤ (pos Z) *ℤ cx) -ℤ pos S *ℤ (pos X *ℤ w)) +ℤ pos (D * Z) *ℤ (cx *ℤ pos fd -ℤ fn *ℤ (pos S *ℤ pos X)))
    (λ a a' b b' c c' d d'. simp ring (diff_eq _ _ _ _ (omega arith)))

second-identity : (Z D S fd vd gd : ℕ) (cz fn w q gn : ℤ) → pos (fd * (D * vd)) *ℤ (cz *ℤ pos gd -ℤ gn *ℤ (pos S *ℤ pos Z))
    ≡ pos (vd * gd) *ℤ (pos D *ℤ (cz *ℤ pos fd) -ℤ pos S *ℤ (pos D *ℤ (pos Z *ℤ fn) +ℤ w *ℤ pos fd)) +ℤ (pos (S * (fd * gd)) *ℤ (w *ℤ pos vd -ℤ q *ℤ pos Z) +ℤ pos (S * Z) *ℤ ((fn *ℤ (pos D *ℤ pos vd) +ℤ q *ℤ pos fd) *ℤ pos gd -ℤ gn *ℤ (pos fd *ℤ (pos D *ℤ pos vd))))
second-identity Z D S fd vd gd = on_5 (λ cz fn w q gn. pos (fd * (D * vd)) *ℤ (cz *ℤ pos gd -ℤ gn *ℤ (pos S *ℤ pos Z))
    ≡ pos (vd * gd) *ℤ (pos D *ℤ (cz *ℤ pos fd) -ℤ pos S *ℤ (pos D *ℤ (pos Z *ℤ fn) +ℤ w *ℤ pos fd)) +ℤ (pos (S * (fd * gd)) *ℤ (w *ℤ pos vd -ℤ q *ℤ pos Z) +ℤ pos (S * Z) *ℤ ((fn *ℤ (pos D *ℤ pos vd) +ℤ q *ℤ pos fd) *ℤ pos gd -ℤ gn *ℤ (pos fd *ℤ (pos D *ℤ pos vd)))))
    (λ a a' b b' c c' d d' e e'. simp ring (diff_eq _ _ _ _ (omega arith)))

two-none : (a b : ℤ) (k m : ℕ) → a ≡ pos 0 → b ≡ pos 0 → pos k *ℤ a +ℤ pos m *ℤ b ≡ pos 0
two-none a b k m e f = ap₂ ◌+ℤ◌ (ap (λ (z : ℤ). pos k *ℤ z) e ∙ mul-zero_ℤ (pos k)) (ap (λ (z : ℤ). pos m *ℤ z) f ∙ mul-zero_ℤ (pos m))

from-none : (k : ℕ) (a b t : ℤ) → 0 < k → pos k *ℤ (a -ℤ b) ≡ t → t ≡ pos 0 → a ≡ b
from-none k a b t above e f = same_from_sub a b (cancel_mul k (a -ℤ b) (pos 0) above (e ∙ f ∙ sym (mul-zero_ℤ (pos k))))

cost-there : (X Z D S fd vd gd : ℕ) (cx cz fn vn gn n dev : ℤ) → 0 < X → 0 < fd → 0 < vd → 0 < D
    → pos D *ℤ (pos X *ℤ cz +ℤ neg_ℤ (pos Z) *ℤ cx) ≡ pos S *ℤ (n *ℤ (pos X *ℤ dev)) → cx *ℤ pos fd ≡ fn *ℤ (pos S *ℤ pos X) → dev *ℤ pos vd ≡ vn *ℤ pos Z
    → gn *ℤ (pos fd *ℤ (pos D *ℤ pos vd)) ≡ (fn *ℤ (pos D *ℤ pos vd) +ℤ n *ℤ (vn *ℤ pos fd)) *ℤ pos gd → cz *ℤ pos gd ≡ gn *ℤ (pos S *ℤ pos Z)
cost-there X Z D S fd vd gd cx cz fn vn gn n dev upX upf upv upD one two three four =
    let w : ℤ = n *ℤ dev in
    let q : ℤ = n *ℤ vn in
    let first : pos D *ℤ (cz *ℤ pos fd) ≡ pos S *ℤ (pos D *ℤ (pos Z *ℤ fn) +ℤ (n *ℤ dev) *ℤ pos fd) =
    from-none X (pos D *ℤ (cz *ℤ pos fd)) (pos S *ℤ (pos D *ℤ (pos Z *ℤ fn) +ℤ (n *ℤ dev) *ℤ pos fd)) _ upX (first-identity X Z D S fd cx cz fn (n *ℤ dev))
    (two-none (pos D *ℤ (pos X *ℤ cz +ℤ neg_ℤ (pos Z) *ℤ cx) -ℤ pos S *ℤ (pos X *ℤ (n *ℤ dev))) (cx *ℤ pos fd -ℤ fn *ℤ (pos S *ℤ pos X)) fd (D * Z)
    (left-zero _ _ (one ∙ ap (λ (z : ℤ). pos S *ℤ z) (mul_left_comm_ℤ n (pos X) dev))) (left-zero _ _ two)) in
    let third : (n *ℤ dev) *ℤ pos vd ≡ (n *ℤ vn) *ℤ pos Z = mul_assoc_ℤ n dev (pos vd) ∙ ap (λ (z : ℤ). n *ℤ z) three ∙ sym (mul_assoc_ℤ n vn (pos Z)) in
    let fourth : (fn *ℤ (pos D *ℤ pos vd) +ℤ (n *ℤ vn) *ℤ pos fd) *ℤ pos gd ≡ gn *ℤ (pos fd *ℤ (pos D *ℤ pos vd)) = ap (λ (z : ℤ). (fn *ℤ (pos D *ℤ pos vd) +ℤ z) *ℤ pos gd) (mul_assoc_ℤ n vn (pos fd)) ∙ sym four in
    from-none (fd * (D * vd)) (cz *ℤ pos gd) (gn *ℤ (pos S *ℤ pos Z)) _ (mul-pos upf (mul-pos upD upv)) (second-identity Z D S fd vd gd cz fn (n *ℤ dev) (n *ℤ vn) gn)
    (ap₂ ◌+ℤ◌ (ap (λ (z : ℤ). pos (vd * gd) *ℤ z) (left-zero _ _ first) ∙ mul-zero_ℤ (pos (vd * gd)))
    (two-none ((n *ℤ dev) *ℤ pos vd -ℤ (n *ℤ vn) *ℤ pos Z) ((fn *ℤ (pos D *ℤ pos vd) +ℤ (n *ℤ vn) *ℤ pos fd) *ℤ pos gd -ℤ gn *ℤ (pos fd *ℤ (pos D *ℤ pos vd))) (S * (fd * gd)) (S * Z) (left-zero _ _ third) (left-zero _ _ fourth)))

pub cost-step : (x1 z1 : ℤ) (D S : ℕ) (cost value next : Fraction) (cx cz n dev : ℤ) → pos 0 <ℤ x1 → pos 0 <ℤ z1 → 0 < D → IsCostStep cost n D value next
    → pos D *ℤ (x1 *ℤ cz +ℤ neg_ℤ z1 *ℤ cx) ≡ pos S *ℤ (n *ℤ (x1 *ℤ dev)) → cx *ℤ pos cost.den ≡ cost.num *ℤ (pos S *ℤ x1) → dev *ℤ pos value.den ≡ value.num *ℤ z1 → cz *ℤ pos next.den ≡ next.num *ℤ (pos S *ℤ z1)
cost-step (pos X) (pos Z) D S cost value next cx cz n dev upx upz upD st one two three = cost-there X Z D S cost.den value.den next.den cx cz cost.num value.num next.num n dev (omega (arith, ints, upx)) st.cost_den st.value_den upD one two three st.ratio
cost-step (negsuc X) z1 D S cost value next cx cz n dev upx upz upD st one two three = absurd upx.lt
cost-step (pos X) (negsuc Z) D S cost value next cx cz n dev upx upz upD st one two three = absurd upz.lt

exchanged-cost : (p : Problem) (at : List Mark) (s : Swap) (level unit own : ℕ) (by : RowName → ℤ) (n : ℤ) (cost value next : Fraction) → IsWhole p → IsLevelUnit p level unit → IsExchange p at s → IsLevelRow p at level unit own by → Each (λ l. l.name ≡ s.enter.row → n ≡ by l.name -ℤ inside_number s.enter.side level unit own l) (lines p)
    → IsCostAt p at level cost → HasDeviation p (exchanged s at) s.enter.row value → IsCostStep cost n (own * unit) value next → IsCostAt p (exchanged s at) level next
exchanged-cost p at s level unit own by n cost value next whole is ex row changes (x, here, e) (z, there, f) st = (
  z,
  there,
  cost-step (x.num one_column) (z.num one_column) (own * unit) (scales p) cost value next (cost_at p level x.num) (cost_at p level z.num) n (deviation s.enter.row z.num) x.positive z.positive (mul-pos row.own_positive is.above) st
      (moved-cost p at s level unit own by n x z whole is ex row changes here there) e f,
)

-- ---- the sum is the cost

third-identity : (Z D S fd vd gd : ℕ) (cz fn w q gn : ℤ) → pos (S * Z) *ℤ (gn *ℤ (pos fd *ℤ (pos D *ℤ pos vd)) -ℤ (fn *ℤ (pos D *ℤ pos vd) +ℤ q *ℤ pos fd) *ℤ pos gd)
    ≡ pos (vd * gd) *ℤ (pos D *ℤ (cz *ℤ pos fd) -ℤ pos S *ℤ (pos D *ℤ (pos Z *ℤ fn) +ℤ w *ℤ pos fd)) +ℤ (pos (S * (fd * gd)) *ℤ (w *ℤ pos vd -ℤ q *ℤ pos Z) +ℤ pos (fd * (D * vd)) *ℤ (gn *ℤ (pos S *ℤ pos Z) -ℤ cz *ℤ pos gd))
third-identity Z D S fd vd gd = on_5 (λ cz fn w q gn. pos (S * Z) *ℤ (gn *ℤ (pos fd *ℤ (pos D *ℤ pos vd)) -ℤ (fn *ℤ (pos D *ℤ pos vd) +ℤ q *ℤ pos fd) *ℤ pos gd)
    ≡ pos (vd * gd) *ℤ (pos D *ℤ (cz *ℤ pos fd) -ℤ pos S *ℤ (pos D *ℤ (pos Z *ℤ fn) +ℤ w *ℤ pos fd)) +ℤ (pos (S * (fd * gd)) *ℤ (w *ℤ pos vd -ℤ q *ℤ pos Z) +ℤ pos (fd * (D * vd)) *ℤ (gn *ℤ (pos S *ℤ pos Z) -ℤ cz *ℤ pos gd)))
    (λ a a' b b' c c' d d' e e'. simp ring (diff_eq _ _ _ _ (omega arith)))

ratio-there : (X Z D S fd vd gd : ℕ) (cx cz fn vn gn n dev : ℤ) → 0 < X → 0 < Z → 0 < S
    → pos D *ℤ (pos X *ℤ cz +ℤ neg_ℤ (pos Z) *ℤ cx) ≡ pos S *ℤ (n *ℤ (pos X *ℤ dev)) → cx *ℤ pos fd ≡ fn *ℤ (pos S *ℤ pos X) → dev *ℤ pos vd ≡ vn *ℤ pos Z
    → cz *ℤ pos gd ≡ gn *ℤ (pos S *ℤ pos Z) → gn *ℤ (pos fd *ℤ (pos D *ℤ pos vd)) ≡ (fn *ℤ (pos D *ℤ pos vd) +ℤ n *ℤ (vn *ℤ pos fd)) *ℤ pos gd
ratio-there X Z D S fd vd gd cx cz fn vn gn n dev upX upZ upS one two three goal =
    let first : pos D *ℤ (cz *ℤ pos fd) ≡ pos S *ℤ (pos D *ℤ (pos Z *ℤ fn) +ℤ (n *ℤ dev) *ℤ pos fd) =
    from-none X (pos D *ℤ (cz *ℤ pos fd)) (pos S *ℤ (pos D *ℤ (pos Z *ℤ fn) +ℤ (n *ℤ dev) *ℤ pos fd)) _ upX (first-identity X Z D S fd cx cz fn (n *ℤ dev))
    (two-none (pos D *ℤ (pos X *ℤ cz +ℤ neg_ℤ (pos Z) *ℤ cx) -ℤ pos S *ℤ (pos X *ℤ (n *ℤ dev))) (cx *ℤ pos fd -ℤ fn *ℤ (pos S *ℤ pos X)) fd (D * Z)
    (left-zero _ _ (one ∙ ap (λ (z : ℤ). pos S *ℤ z) (mul_left_comm_ℤ n (pos X) dev))) (left-zero _ _ two)) in
    let third : (n *ℤ dev) *ℤ pos vd ≡ (n *ℤ vn) *ℤ pos Z = mul_assoc_ℤ n dev (pos vd) ∙ ap (λ (z : ℤ). n *ℤ z) three ∙ sym (mul_assoc_ℤ n vn (pos Z)) in
    from-none (S * Z) (gn *ℤ (pos fd *ℤ (pos D *ℤ pos vd))) ((fn *ℤ (pos D *ℤ pos vd) +ℤ (n *ℤ vn) *ℤ pos fd) *ℤ pos gd) _ (mul-pos upS upZ) (third-identity Z D S fd vd gd cz fn (n *ℤ dev) (n *ℤ vn) gn)
    (ap₂ ◌+ℤ◌ (ap (λ (z : ℤ). pos (vd * gd) *ℤ z) (left-zero _ _ first) ∙ mul-zero_ℤ (pos (vd * gd)))
    (two-none ((n *ℤ dev) *ℤ pos vd -ℤ (n *ℤ vn) *ℤ pos Z) (gn *ℤ (pos S *ℤ pos Z) -ℤ cz *ℤ pos gd) (S * (fd * gd)) (fd * (D * vd)) (left-zero _ _ third) (left-zero _ _ (sym goal))))
    ∙ ap (λ (z : ℤ). (fn *ℤ (pos D *ℤ pos vd) +ℤ z) *ℤ pos gd) (mul_assoc_ℤ n vn (pos fd))

pub cost-ratio : (x1 z1 : ℤ) (D S : ℕ) (cost value next : Fraction) (cx cz n dev : ℤ) → pos 0 <ℤ x1 → pos 0 <ℤ z1 → 0 < S
    → pos D *ℤ (x1 *ℤ cz +ℤ neg_ℤ z1 *ℤ cx) ≡ pos S *ℤ (n *ℤ (x1 *ℤ dev)) → cx *ℤ pos cost.den ≡ cost.num *ℤ (pos S *ℤ x1) → dev *ℤ pos value.den ≡ value.num *ℤ z1 → cz *ℤ pos next.den ≡ next.num *ℤ (pos S *ℤ z1)
    → IsRatio next (sum_num cost n (pos D) value) (sum_den cost (pos D) value)
cost-ratio (pos X) (pos Z) D S cost value next cx cz n dev upx upz upS one two three goal = ratio-there X Z D S cost.den value.den next.den cx cz cost.num value.num next.num n dev (omega (arith, ints, upx)) (omega (arith, ints, upz)) upS one two three goal
cost-ratio (negsuc X) z1 D S cost value next cx cz n dev upx upz upS one two three goal = absurd upx.lt
cost-ratio (pos X) (negsuc Z) D S cost value next cx cz n dev upx upz upS one two three goal = absurd upz.lt

unfit-exchanged : (p : Problem) (at : List Mark) (s : Swap) (level unit own : ℕ) (by : RowName → ℤ) (n : ℤ) (cost value : Fraction) → IsWhole p → IsLevelUnit p level unit → IsExchange p at s → IsLevelRow p at level unit own by → Each (λ l. l.name ≡ s.enter.row → n ≡ by l.name -ℤ inside_number s.enter.side level unit own l) (lines p)
    → IsCostAt p at level cost → HasDeviation p (exchanged s at) s.enter.row value → IsUnfitStep cost n (own * unit) value → HasNoLevelWriting p (exchanged s at) level
unfit-exchanged p at s level unit own by n cost value whole is ex row changes (x, here, e) (z, there, f) unfit scale times reduced next w c fit kept =
    unfit next kept.lowest
    (cost-ratio (x.num one_column) (z.num one_column) (own * unit) (scales p) cost value next (cost_at p level x.num) (cost_at p level z.num) n (deviation s.enter.row z.num) x.positive z.positive (scales-above p (whole-IsProblem p whole))
    (moved-cost p at s level unit own by n x z whole is ex row changes here there) e f (cost_everywhere p (exchanged s at) level next z ex.corner c there))
    kept.fits

pub unfit_exchanged_cost : UnfitExchangedCost
unfit_exchanged_cost p at s level unit own size number pivot n cost value ex is out enters c v unfit =
    unfit-exchanged p at s level unit own ex.row.by n cost value ex.whole is ex.exchange ex.row.row (entering-number p at s.enter level unit own number n ex.row.by out ex.row.outside enters) c v unfit

pub unfit_turned_cost : UnfitTurnedCost
unfit_turned_cost p at s level unit own size number line n cost value ex is one turns c v unfit =
    unfit-exchanged p at s level unit own ex.row.by n cost value ex.whole is ex.exchange ex.row.row (turning-number p at s level unit own number n ex.row one ex.exchange.leaves turns) c v unfit

pub exchanged_cost_is_cost : ExchangedCostIsCost
exchanged_cost_is_cost p at s level unit own size number pivot n cost value next ex is out enters c v st =
    exchanged-cost p at s level unit own ex.row.by n cost value next ex.whole is ex.exchange ex.row.row (entering-number p at s.enter level unit own number n ex.row.by out ex.row.outside enters) c v st

pub turned_cost_is_cost : TurnedCostIsCost
turned_cost_is_cost p at s level unit own size number line n cost value next ex is one turns c v st =
    exchanged-cost p at s level unit own ex.row.by n cost value next ex.whole is ex.exchange ex.row.row (turning-number p at s level unit own number n ex.row one ex.exchange.leaves turns) c v st
