-- A mark that has a negative column once stays have come first had one before, or its line stands in the row of one of
-- these stays: `fronted_negative`.
use Rattle.std.proofs.Common.{◌≡◌, ◌≢◌, ◌∙◌, ◌⊎◌, ℕ, zero, suc, ◌+◌, ◌/◌, ◌*◌, ◌<◌, ◌≤◌, List, [], ◌∷◌, length, slice_index_or, ℤ, pos, negsuc, neg_ℤ, ◌+ℤ◌, ◌*ℤ◌, ◌<ℤ◌, ◌≤ℤ◌, refl, sym, ap, ap₂, subst, arith, inl, inr, Any}
use Rattle.std.specs.List.{AllByRecursion as Each}
use Rattle.std.proofs.lemmas.Bool.{cases_eq, cases_Bool}
use Rattle.std.proofs.lemmas.List.Elements.{recursion_from_All, All-from_recursion}
use lib.IntN.{*ℤ_comm}
use borrow.Author.Differences.{ints}
use Rattle.frac_core.proofs.Integers.{add-zero_ℤ, zero-add_ℤ, mul_positive, mul_not_negative}
use Rattle.frac_core.proofs.Lists.{any-here, any-later}
use Rattle.frac_core.proofs.Numbers.{neg-times, share-above, weakly-up, zero-up}
use Rattle.problem_core.proofs.Forms.{each-both, each-impl}
use Rattle.problem_core.proofs.Lines.{free-cost, weight-none}
use Rattle.problem_core.proofs.Refutations.{sum-not_negative}
use Rattle.problem_core.proofs.Wholes.{whole-IsProblem}
use Rattle.problem_core.proofs.Corners.CornerFacts.{is_place}
use Rattle.problem_core.specs.declared.parts.Mark.{Mark}
use Rattle.problem_core.specs.declared.parts.RowName.{RowName}
use Rattle.problem_core.specs.declared.parts.RowName.TheVariants.{Stay as StayOf}
use Rattle.problem_core.specs.declared.parts.Side.{Side}
use Rattle.problem_core.specs.declared.parts.Side.TheVariants.{Under, Over}
use Rattle.problem_core.specs.declared.stops.What.TheVariants.{Mark as MarkOf}
use Rattle.problem_core.specs.Certificates.{Multipliers, over_weight, under_weight, weight_at}
use Rattle.problem_core.specs.Kept.{IsWhole}
use Rattle.problem_core.specs.Layout.{HasStay, Line, Problem, lines, sum_of}
use Rattle.problem_core.specs.Levels.{cost_at, line_cost, scales}
use Rattle.problem_core.specs.Corners.{AreMultipliersAt, HasNegativeColumn, IsIn, column, place, place_of}
use Rattle.problem_core.specs.Rays.{IsRay}
use Rattle.corner_laws.specs.Runs.{other_side}
use Rattle.corner_laws.proofs.Counting.{IsIn-from_is_place}
use Rattle.corner_laws.specs.Laws.{IsMarkAt}
use Rattle.corner_laws.proofs.LevelCosts.Gaps.{direction_cost, moved_columns, shares}
use Rattle.corner_laws.proofs.LinePlaces.{AllApart, AreApart, IsSmallLine, apart-sym, lines_apart, lines_small}
use Rattle.corner_laws.proofs.RunSteps.ColumnSigns.{nothing, pick}
use Rattle.corner_laws.proofs.ZeroColumns.{both-up, here-in, not-in, one-column, outside-still, scales-above}
use Rattle.corner_lines.proofs.LevelRows.LevelExchanges.{by-sides}
use Rattle.stay_orders.specs.Orders.{fronted}
use Rattle.stay_orders.proofs.LevelRows.{ray_there}
use Rattle.stay_orders.proofs.Wholes.{front_apart, held_there, whole_there}
use Rattle.corner_view.specs.Seen.{IsOutside}
use Rattle.corner_table.specs.Tables.{Lists, entry, line_slot, marks_at, problem_of}
use Rattle.corner_table.specs.Kept.{IsKept}
use Rattle.corner_view.proofs.Facts.{named_in}
use Rattle.corner_table.proofs.Basics.OwnerFacts.{stay_named}
use Rattle.corner_writings.proofs.Basics.SmallFacts.{zero_unless}
use Rattle.corner_writings.proofs.Readings.MovedFacts.{moves_entry}
use Rattle.corner_orders.proofs.Orders.FrontedLevels.{IsNegativeFirst, first_turns, first_level}
use Rattle.corner_exchange.proofs.Swaps.ColumnReturns.{inside_not_negative}

-- ---- a sum in which the line of one mark alone counts

abbrev IsElsewhere : ℕ → (Line → ℤ) → Line → Type 0
IsElsewhere c f l = place_of l.name Under ≢ c → place_of l.name Over ≢ c → f l ≡ pos 0

abbrev IsMarked : ℕ → Line → Type 0
IsMarked c l = (place_of l.name Under ≡ c) ⊎ (place_of l.name Over ≡ c)

apart-none : (f : Line → ℤ) (c : ℕ) (k l : Line) → AreApart k l → IsMarked c k → IsElsewhere c f l → f l ≡ pos 0
apart-none f c k l a (inl e) h = h (λ q. a.under_under (e ∙ sym q)) (λ q. a.under_over (e ∙ sym q))
apart-none f c k l a (inr e) h = h (λ q. a.over_under (e ∙ sym q)) (λ q. a.over_over (e ∙ sym q))

rest-none : (f : Line → ℤ) (c : ℕ) (k : Line) (ls : List Line) → IsMarked c k → Each (AreApart k) ls → Each (IsElsewhere c f) ls → sum_of f ls ≡ pos 0
rest-none f c k [] is a h = refl
rest-none f c k (l ∷ ls) is a h = ap₂ ◌+ℤ◌ (apart-none f c k l a.0 is h.0) (rest-none f c k ls is a.1 h.1)

only_line : (f : Line → ℤ) (c : ℕ) (ls : List Line) (k : ℕ) (x : Line) → AllApart ls → Each (IsElsewhere c f) ls → k < length ls → slice_index_or ls k x ≡ x → IsMarked c x → sum_of f ls ≡ f x
only_line f c [] k x a h within is marked = absurd (omega (arith, within))
only_line f c (y ∷ ls) zero x a h within is marked =
    ap (λ (z : ℤ). f y +ℤ z) (rest-none f c y ls (subst (λ (l : Line). IsMarked c l) (sym is) marked) a.0 h.1) ∙ add-zero_ℤ (f y) ∙ ap f is
only_line f c (y ∷ ls) (suc k) x a h within is marked =
    let apart : AreApart y x = subst (λ (l : Line). AreApart y l) is (All-from_recursion (AreApart y) ls a.0 k x (omega (arith, within))) in
    ap₂ ◌+ℤ◌ (apart-none f c x y (apart-sym y x apart) marked h.0) (only_line f c ls k x a.1 h.1 (omega (arith, within)) is marked) ∙ zero-add_ℤ (f x)

-- ---- the cost where one mark grows

abbrev Zeros : Problem → List Mark → Multipliers → Line → Type 0
Zeros p at m l = (IsMarkAt p (place_of l.name Under) × IsMarkAt p (place_of l.name Over))
    × ((IsIn (place_of l.name Under) at → (level : ℕ) → column m Under l level ≡ pos 0) × (IsIn (place_of l.name Over) at → (level : ℕ) → column m Over l level ≡ pos 0))

zeros : (p : Problem) (at : List Mark) (m : Multipliers) → AreMultipliersAt p at m → Each (Zeros p at m) (lines p)
zeros p at m is = each-both _ _ (lines p) (here-in (lines p)) (each-both _ _ (lines p) (recursion_from_All _ (lines p) (is.inside_zero Under)) (recursion_from_All _ (lines p) (is.inside_zero Over)))

elsewhere : (p : Problem) (at : List Mark) (m : Multipliers) (c : ℕ) (ray : ℕ → ℤ) (level : ℕ) (l : Line) → IsRay p at c ray → Zeros p at m l → IsElsewhere c (λ l. pos (scales p / l.scale) *ℤ moved_columns m ray level l) l
elsewhere p at m c ray level l r z u o =
    nothing (scales p / l.scale) (column m Under l level *ℤ ray (place_of l.name Under)) (column m Over l level *ℤ ray (place_of l.name Over))
    (one-column p at c ray (column m Under l level) (place_of l.name Under) r z.0.0 (λ i. z.1.0 i level) (λ e. absurd (u e)))
    (one-column p at c ray (column m Over l level) (place_of l.name Over) r z.0.1 (λ i. z.1.1 i level) (λ e. absurd (o e)))

first-only : (q : ℕ) (a b : ℤ) → b ≡ pos 0 → pos q *ℤ (a +ℤ b) ≡ pos q *ℤ a
first-only q a b e = ap (λ (z : ℤ). pos q *ℤ z) (ap (λ (z : ℤ). a +ℤ z) e ∙ add-zero_ℤ a)

second-only : (q : ℕ) (a b : ℤ) → a ≡ pos 0 → pos q *ℤ (a +ℤ b) ≡ pos q *ℤ b
second-only q a b e = ap (λ (z : ℤ). pos q *ℤ z) (ap (λ (z : ℤ). z +ℤ b) e ∙ zero-add_ℤ b)

own_line : (p : Problem) (at : List Mark) (m : Multipliers) (c : ℕ) (ray : ℕ → ℤ) (level : ℕ) (side : Side) (l : Line) → IsRay p at c ray → Zeros p at m l → place_of l.name Under ≢ place_of l.name Over → place_of l.name side ≡ c → pos (scales p / l.scale) *ℤ moved_columns m ray level l ≡ pos (scales p / l.scale) *ℤ (column m side l level *ℤ ray c)
own_line p at m c ray level Under l r z sides e =
    first-only (scales p / l.scale) (column m Under l level *ℤ ray (place_of l.name Under)) (column m Over l level *ℤ ray (place_of l.name Over))
    (one-column p at c ray (column m Over l level) (place_of l.name Over) r z.0.1 (λ i. z.1.1 i level) (λ q. absurd (sides (e ∙ sym q))))
    ∙ ap (λ (v : ℕ). pos (scales p / l.scale) *ℤ (column m Under l level *ℤ ray v)) e
own_line p at m c ray level Over l r z sides e =
    second-only (scales p / l.scale) (column m Under l level *ℤ ray (place_of l.name Under)) (column m Over l level *ℤ ray (place_of l.name Over))
    (one-column p at c ray (column m Under l level) (place_of l.name Under) r z.0.0 (λ i. z.1.0 i level) (λ q. absurd (sides (q ∙ sym e))))
    ∙ ap (λ (v : ℕ). pos (scales p / l.scale) *ℤ (column m Over l level *ℤ ray v)) e

is-marked : (side : Side) (c : ℕ) (l : Line) → place_of l.name side ≡ c → IsMarked c l
is-marked Under c l e = inl e
is-marked Over c l e = inr e

cost_of_ray : (p : Problem) (at : List Mark) (m : Multipliers) (c : ℕ) (ray : ℕ → ℤ) (level : ℕ) (side : Side) (k : ℕ) (x : Line) → IsWhole p → AreMultipliersAt p at m → IsRay p at c ray → k < length (lines p) → slice_index_or (lines p) k x ≡ x → place_of x.name side ≡ c
    → pos (m.scale level) *ℤ cost_at p level ray ≡ pos (scales p / x.scale) *ℤ (column m side x level *ℤ ray c)
cost_of_ray p at m c ray level side k x whole is r within found e =
    let problem = whole-IsProblem p whole in
    let known = zeros p at m is in
    direction_cost p m ray level problem (is.cancel level) r.still r.holds
    ∙ only_line (λ l. pos (scales p / l.scale) *ℤ moved_columns m ray level l) c (lines p) k x (lines_apart p whole)
    (each-impl (Zeros p at m) _ (lines p) (λ l z. elsewhere p at m c ray level l r z) known) within found (is-marked side c x e)
    ∙ own_line p at m c ray level side x r (pick (Zeros p at m) (lines p) k x known within found) (pick IsSmallLine (lines p) k x (lines_small p whole) within found).sides e

-- ---- what the first stay's level costs where a mark grows

-- s*z = q*(k*r)
low-from : (s q : ℕ) (z k r : ℤ) → 0 < q → pos s *ℤ z ≡ pos q *ℤ (k *ℤ r) → k <ℤ pos 0 → pos 0 <ℤ r → z <ℤ pos 0
low-from s q (negsuc z) k r above e low up = omega (arith, ints)
low-from s q (pos z) (pos k) r above e low up = absurd (omega (arith, ints, low))
low-from s q (pos z) (negsuc k) r above e low up =
    let a : pos 0 <ℤ (pos q *ℤ (pos (suc k) *ℤ r)) = mul_positive q (pos (suc k) *ℤ r) above (mul_positive (suc k) r (omega arith) up) in
    let b : pos q *ℤ (negsuc k *ℤ r) ≡ neg_ℤ (pos q *ℤ (pos (suc k) *ℤ r)) =
    ap (λ (t : ℤ). pos q *ℤ t) (neg-times (pos (suc k)) r) ∙ *ℤ_comm (pos q) (neg_ℤ (pos (suc k) *ℤ r)) ∙ neg-times (pos (suc k) *ℤ r) (pos q) ∙ ap neg_ℤ (*ℤ_comm (pos (suc k) *ℤ r) (pos q)) in
    let d : pos 0 ≤ℤ (pos s *ℤ pos z) = mul_not_negative s (pos z) (omega (arith, ints)) in
    absurd (omega (arith, ints, a, b, d, e))

first-falls : (q : Problem) (at : List Mark) (m : Mark) (ray : ℕ → ℤ) → IsWhole q → IsNegativeFirst q at m → IsRay q at (place m) ray → cost_at q 1001 ray <ℤ pos 0
first-falls q at m ray whole (by, are, (k, x, within, found, (e, low))) r =
    let problem = whole-IsProblem q whole in
    low-from (by.scale 1001) (scales q / x.scale) (cost_at q 1001 ray) (column by m.side x 1001) (ray (place m))
    (share-above (scales q) x.scale (scales-above q problem) (pick (λ l. scales q / l.scale * l.scale ≡ scales q) (lines q) k x (shares q problem) within found))
    (cost_of_ray q at by (place m) ray 1001 m.side k x whole are r within found e) low r.here

-- what another stay or a row costs there is nothing, and the first one's cost isn't below 0 where its marks aren't
line-up : (attr n : ℕ) (ray : ℕ → ℤ) (l : Line) → pos 0 ≤ℤ ray (place_of (StayOf attr) Under) → pos 0 ≤ℤ ray (place_of (StayOf attr) Over) → (l.level ≡ 1001 → l.name ≡ StayOf attr) → pos 0 ≤ℤ (pos n *ℤ line_cost 1001 ray l)
line-up attr n ray l u o named = elim (cases_eq l.level 1001) [
  | inl e ↦
      let name = named e in
      mul_not_negative n (line_cost 1001 ray l)
      (both-up (pos (under_weight l.rel (weight_at l 1001)) *ℤ ray (place_of l.name Under)) (pos (over_weight l.rel (weight_at l 1001)) *ℤ ray (place_of l.name Over))
      (mul_not_negative (under_weight l.rel (weight_at l 1001)) (ray (place_of l.name Under)) (subst (λ (r : RowName). pos 0 ≤ℤ ray (place_of r Under)) (sym name) u))
      (mul_not_negative (over_weight l.rel (weight_at l 1001)) (ray (place_of l.name Over)) (subst (λ (r : RowName). pos 0 ≤ℤ ray (place_of r Over)) (sym name) o)))
  | inr ne ↦ zero-up (pos n *ℤ line_cost 1001 ray l) (free-cost n 1001 ray l (weight-none l 1001 ne))
]

cost-up : (attr : ℕ) (q : Problem) (ray : ℕ → ℤ) → Each (λ l. l.level ≡ 1001 → l.name ≡ StayOf attr) (lines q) → pos 0 ≤ℤ ray (place_of (StayOf attr) Under) → pos 0 ≤ℤ ray (place_of (StayOf attr) Over) → pos 0 ≤ℤ cost_at q 1001 ray
cost-up attr q ray named u o =
    sum-not_negative (λ l. pos (scales q / l.scale) *ℤ line_cost 1001 ray l) (lines q)
    (each-impl (λ l. l.level ≡ 1001 → l.name ≡ StayOf attr) (λ l. pos 0 ≤ℤ (pos (scales q / l.scale) *ℤ line_cost 1001 ray l)) (lines q)
    (λ l h. line-up attr (scales q / l.scale) ray l u o h) named)

-- ---- the marks of the first stay

-- one that the mark's line doesn't stand in the row of doesn't move
still-mark : (t : Lists) (m : Mark) (attr : ℕ) (side : Side) (ray : ℕ → ℤ) → IsKept t → HasStay t.stays attr → IsOutside (problem_of t) (marks_at t) m → IsRay (problem_of t) (marks_at t) (place m) ray → m.row ≢ StayOf attr
    → entry t (line_slot t (StayOf attr)) (line_slot t m.row) ≡ pos 0 → ray (place_of (StayOf attr) side) ≡ pos 0
still-mark t m attr side ray kept has out r other none =
    let c : ℕ = place_of (StayOf attr) side in
    let own : Mark = record { row = StayOf attr; side = side } in
    elim (cases_Bool (is_place (marks_at t) c)) [
      | inl i ↦
          zero_unless (ray c)
          (λ ne. moves_entry t m (MarkOf own) kept out (λ e. other (sym e))
          (c, (IsIn-from_is_place c (marks_at t) i, refl), (ray, r, ne)) none)
      | inr o ↦
          outside-still (problem_of t) (marks_at t) (place m) ray c r (named_in (problem_of t) (StayOf attr) side (stay_named (problem_of t) attr has)) (not-in (marks_at t) c o)
          (λ e. other (sym (by-sides (StayOf attr) m.row side m.side e).0))
    ]

abbrev side-number : Side → ℕ
side-number Under = 0
side-number Over = 1

other-not : (a : Side) → other_side a ≢ a
other-not Under q = let n : 1 ≡ 0 = ap side-number q in absurd (omega (arith, n))
other-not Over q = let n : 0 ≡ 1 = ap side-number q in absurd (omega (arith, n))

side-cases : (a b : Side) → (a ≡ b) ⊎ (a ≡ other_side b)
side-cases Under Under = inl refl
side-cases Under Over = inr refl
side-cases Over Under = inr refl
side-cases Over Over = inl refl

-- where the mark is the stay's own, and its other mark isn't inside, neither falls
own-up : (t : Lists) (m : Mark) (attr : ℕ) (side : Side) (ray : ℕ → ℤ) → HasStay t.stays attr → IsRay (problem_of t) (marks_at t) (place m) ray → m.row ≡ StayOf attr → (IsIn (place_of (StayOf attr) (other_side m.side)) (marks_at t) → ⊥)
    → pos 0 ≤ℤ ray (place_of (StayOf attr) side)
own-up t m attr side ray has r e out = elim (side-cases side m.side) [
  | inl s ↦ weakly-up (ray (place_of (StayOf attr) side)) (subst (λ (k : Side). pos 0 <ℤ ray (place_of (StayOf attr) k)) (sym s) (subst (λ (n : RowName). pos 0 <ℤ ray (place_of n m.side)) e r.here))
  | inr s ↦
      zero-up (ray (place_of (StayOf attr) side))
      (subst (λ (k : Side). ray (place_of (StayOf attr) k) ≡ pos 0) (sym s)
      (outside-still (problem_of t) (marks_at t) (place m) ray (place_of (StayOf attr) (other_side m.side)) r
      (named_in (problem_of t) (StayOf attr) (other_side m.side) (stay_named (problem_of t) attr has)) out
      (λ q. other-not m.side (by-sides (StayOf attr) m.row (other_side m.side) m.side q).1)))
]

not-both : (z : ℤ) → pos 0 ≤ℤ z → z <ℤ pos 0 → ⊥
not-both z up low = omega (arith, ints, up, low)

-- ---- all of it

-- the mark's line is another than the stay's, and stands in its row
abbrev pub StandsIn : Lists → Mark → ℕ → Type 0
StandsIn t m attr = (m.row ≢ StayOf attr) × (entry t (line_slot t (StayOf attr)) (line_slot t m.row) ≢ pos 0)

first-stands : (t : Lists) (attrs : List ℕ) (attr : ℕ) (m : Mark) → IsKept t → HasStay t.stays attr → IsOutside (problem_of t) (marks_at t) m
    → HasNegativeColumn (fronted (attr ∷ attrs) (problem_of t)) (marks_at t) m → IsNegativeFirst (fronted (attr ∷ attrs) (problem_of t)) (marks_at t) m → StandsIn t m attr
first-stands t attrs attr m kept has out negative low =
    let p : Problem = problem_of t in
    let q : Problem = fronted (attr ∷ attrs) p in
    let at : List Mark = marks_at t in
    let r = kept.rays (place m) out.0 out.1 in
    let falls = first-falls q at m r.0 (whole_there (attr ∷ attrs) p kept.whole) low (ray_there (attr ∷ attrs) p at (place m) r.0 r.1) in
    let named : Each (λ l. l.level ≡ 1001 → l.name ≡ StayOf attr) (lines q) = first_level attr (fronted attrs p) (held_there attrs p.stays attr has) (front_apart attrs p.stays kept.whole.apart) in
    let other : m.row ≢ StayOf attr = λ e.
    let free : IsIn (place_of (StayOf attr) (other_side m.side)) at → ⊥ = λ i.
    inside_not_negative q at m (other_side m.side) (subst (λ (n : RowName). IsIn (place_of n (other_side m.side)) at) (sym e) i) negative in
    not-both (cost_at q 1001 r.0) (cost-up attr q r.0 named (own-up t m attr Under r.0 has r.1 e free) (own-up t m attr Over r.0 has r.1 e free)) falls in (
      other,
      λ none. not-both (cost_at q 1001 r.0)
          (cost-up attr q r.0 named (zero-up (r.0 (place_of (StayOf attr) Under)) (still-mark t m attr Under r.0 kept has out r.1 other none))
          (zero-up (r.0 (place_of (StayOf attr) Over)) (still-mark t m attr Over r.0 kept has out r.1 other none))) falls,
    )

pub fronted_negative : (t : Lists) (attrs : List ℕ) (m : Mark) → IsKept t → Each (HasStay t.stays) attrs → IsOutside (problem_of t) (marks_at t) m → HasNegativeColumn (fronted attrs (problem_of t)) (marks_at t) m
    → HasNegativeColumn (problem_of t) (marks_at t) m ⊎ Any (StandsIn t m) attrs
fronted_negative t [] m kept has out negative = inl negative
fronted_negative t (attr ∷ attrs) m kept has out negative =
    let p : Problem = problem_of t in
    elim (first_turns (fronted attrs p) (marks_at t) attr m (held_there attrs p.stays attr has.0) (front_apart attrs p.stays kept.whole.apart) negative) [
      | inl before ↦ elim (fronted_negative t attrs m kept has.1 out before) [
        | inl still ↦ inl still
        | inr some ↦ inr (any-later (StandsIn t m) attr attrs some)
      ]
      | inr low ↦ inr (any-here (StandsIn t m) attr attrs (first-stands t attrs attr m kept has.0 out negative low))
    ]
