-- What does not fit beside an attribute that no row names does not fit without it.
use Rattle.std.proofs.Common.{◌≡◌, ◌≢◌, ◌∙◌, ℕ, zero, suc, ◌+◌, ◌-◌, ◌*◌, ◌/◌, ◌<◌, ◌≤◌, ◌++◌, Bool, true, false, cond, nat_eq, List, [], ◌∷◌, filter, map, ℤ, pos, negsuc, ◌+ℤ◌, ◌-ℤ◌, ◌*ℤ◌, unsigned_abs, refl, sym, ap, ap₂, subst, arith, inl, inr, All, Contains, eq-eqb, ne_eqb, true≢false}
use Rattle.std.specs.Int.{◌∣◌}
use Rattle.std.specs.List.{Any, AllByRecursion as Each}
use Rattle.std.proofs.lemmas.Bool.{cases_eq}
use Rattle.std.proofs.lemmas.List.Elements.{All-from_recursion, recursion_from_All}
use borrow.Author.Differences.{ints}
use Rattle.frac_core.specs.Fraction.{Fraction, IsFitting}
use Rattle.frac_core.proofs.Integers.{mul-zero_ℤ, mul_assoc_ℤ, mul_left_comm_ℤ, mul-add_left, zero-mul_ℤ}
use Rattle.frac_core.proofs.Lists.{any-later, any-here, any-cases, each-joined, each-left, each-right}
use Rattle.frac_core.proofs.Numbers.{one-times}
use Rattle.frac_core.proofs.Sums.{sum-append}
use Rattle.problem_core.specs.declared.parts.Mark.{Mark}
use Rattle.problem_core.specs.declared.parts.RowName.{RowName}
use Rattle.problem_core.specs.declared.parts.RowName.TheVariants.{Held, Stay as StayOf}
use Rattle.problem_core.specs.declared.parts.Level.TheVariants.{Priority, Stay as StayLevel}
use Rattle.problem_core.specs.declared.parts.Side.{Side}
use Rattle.problem_core.specs.declared.parts.Side.TheVariants.{Under, Over}
use Rattle.problem_core.specs.declared.parts.Stay.{Stay}
use Rattle.problem_core.specs.declared.parts.Term.{Term}
use Rattle.problem_core.specs.declared.stops.What.{What}
use Rattle.problem_core.specs.declared.stops.What.TheVariants.{Attr, Mark as MarkOf, Level as LevelOf}
use Rattle.problem_core.specs.Certificates.{over_weight, under_weight, weight_at}
use Rattle.problem_core.specs.Kept.{IsRow, IsStay, IsWhole}
use Rattle.problem_core.specs.Layout.{HasStay, Line, Problem, Row, coefficient, line_of_row, line_of_stay, lines, product_of, stay_lines, sum_of, value_at}
use Rattle.problem_core.specs.Levels.{AreFitting, HasNoLevelWriting, IsCostAt, IsLevelWriting, alone, cost_at, line_cost, scales}
use Rattle.problem_core.specs.Corners.{IsCorner, IsIn, Point, Solves, attr_column, column, equation, marks_of, one_column, place, place_of}
use Rattle.problem_core.specs.Unfit.{HasNoWriting, IsUnfitWhat, IsWritingOf}
use Rattle.problem_core.proofs.Forms.{each-both, each-impl}
use Rattle.problem_core.proofs.Lines.{later-line}
use Rattle.corner_laws.proofs.CornerRays.{corner_has_rays}
use Rattle.corner_laws.proofs.MarkWritings.Fits.{difference, difference-at, one_factor, small-by}
use Rattle.corner_laws.proofs.ZeroColumns.{here-in}
use Rattle.corner_lines.specs.Removals.{IsFree, without_attr}
use Rattle.corner_lines.proofs.Costs.StayFits.{outside_stay_level_fits}
use Rattle.corner_lines.proofs.Lines.MarkForms.{same-name}
use Rattle.corner_lines.proofs.ProblemChanges.DroppedAttr.{IsTheStay, filter-off, filter-on, left-far, lines-left, mark-was, other_stay, restored, restored-far, restored-one, restored-point, small-attr, stands-back, stay-out, the-held}
use Rattle.corner_lines.proofs.ProblemChanges.LeftWholes.{others-held}
use Rattle.corner_lines.proofs.ProblemChanges.MovedStays.{stay-holds}
use Rattle.problem_core.proofs.RowNames.{held-not-stay, stay-same}

-- ---- writings

solves-left : (p : Problem) (attr : ℕ) (x : Point) → Solves p x → Solves (without_attr attr p) x
solves-left p attr x h =
    All-from_recursion (λ l. value_at x.num (equation l) ≡ pos 0) (lines (without_attr attr p))
    (lines-left (λ l. value_at x.num (equation l) ≡ pos 0) attr p (λ n m s k. k) (recursion_from_All (λ l. value_at x.num (equation l) ≡ pos 0) (lines p) h))

-- a writing without the attribute is one with it
writing-back : (p : Problem) (at : List Mark) (attr : ℕ) (quantity : (ℕ → ℤ) → ℤ) (scale : ℕ) (form : List Term) (num : ℤ) (den : ℕ) → IsWritingOf (without_attr attr p) at quantity scale form num den → IsWritingOf p at quantity scale form num den
writing-back p at attr quantity scale form num den w = record {
  scale_positive = w.scale_positive;
  den_positive = w.den_positive;
  outside = λ v some. (let o = w.outside v some in (mark-was p attr v o.0, o.1));
  holds = λ x solves. w.holds x (solves-left p attr x solves);
  lowest = w.lowest;
}

unwritten-left : (p : Problem) (at : List Mark) (attr : ℕ) (quantity : (ℕ → ℤ) → ℤ) → HasNoWriting p at quantity → HasNoWriting (without_attr attr p) at quantity
unwritten-left p at attr quantity none scale form value w a b kept = none scale form value (writing-back p at attr quantity scale form value.num value.den w) a b kept

-- ---- the attribute itself

at-stay : (P : Line → Type 0) (attr n : ℕ) (s : Stay) (stays : List Stay) → HasStay stays attr → Each (λ (t : Stay). t.attr ≡ attr → t ≡ s) stays → Each P (stay_lines n stays) → (m : ℕ) × P (line_of_stay m s)
at-stay P attr n s [] (k, t, within, is, e) only h = absurd (omega (arith, within))
at-stay P attr n s (u ∷ stays) (zero, t, within, is, e) only h = (n, subst (λ (v : Stay). P (line_of_stay n v)) (only.0 (ap (λ (v : Stay). v.attr) is ∙ e)) h.0)
at-stay P attr n s (u ∷ stays) (suc k, t, within, is, e) only h = at-stay P attr (n + 1) s stays (k, t, omega (arith, within), is, e) only.1 h.1

target-holds : (d : ℕ) (u o a k one : ℤ) → pos d *ℤ ((u -ℤ o) +ℤ a) ≡ k *ℤ one → pos d *ℤ (pos 1 *ℤ a -ℤ (pos 1 *ℤ o +ℤ (negsuc 0 *ℤ u +ℤ pos 0))) ≡ pos 1 *ℤ (k *ℤ one)
target-holds d u o a k one e = ap (λ (z : ℤ). pos d *ℤ z) (let same : pos 1 *ℤ a -ℤ (pos 1 *ℤ o +ℤ (negsuc 0 *ℤ u +ℤ pos 0)) ≡ (u -ℤ o) +ℤ a = omega (arith, ints) in same) ∙ e ∙ sym (one-times (k *ℤ one))

-- it is at its target, which fits
own-fits : (p : Problem) (at : List Mark) (attr : ℕ) → IsWhole p → IsCorner p at → IsFree p attr → HasNoWriting p at (λ x. x (attr_column attr)) → ⊥
own-fits p at attr whole corner free none =
    let t = the-held p attr whole free in
    let marks = (at-stay (λ l. Contains (map place (marks_of (lines p))) (place_of l.name Under) × Contains (map place (marks_of (lines p))) (place_of l.name Over)) attr 1001 t.0 p.stays free.held t.1.only
    (each-right (λ l. Contains (map place (marks_of (lines p))) (place_of l.name Under) × Contains (map place (marks_of (lines p))) (place_of l.name Over)) (map line_of_row p.rows) (stay_lines 1001 p.stays) (here-in (lines p)))).1 in
    let under : Contains (map place (marks_of (lines p))) (place_of (StayOf attr) Under) = subst (λ (a : ℕ). Contains (map place (marks_of (lines p))) (place_of (StayOf a) Under)) t.1.is marks.0 in
    let over : Contains (map place (marks_of (lines p))) (place_of (StayOf attr) Over) = subst (λ (a : ℕ). Contains (map place (marks_of (lines p))) (place_of (StayOf a) Over)) t.1.is marks.1 in
    none 1 (difference (place_of (StayOf attr) Over) (place_of (StayOf attr) Under)) t.0.target
    (record {
      scale_positive = omega arith;
      den_positive = t.1.stay.target.lowest.above;
      outside = λ v some. elim (difference-at (place_of (StayOf attr) Over) (place_of (StayOf attr) Under) v some) [
        | inl e ↦ subst (λ (c : ℕ). Contains (map place (marks_of (lines p))) c × (IsIn c at → ⊥)) (sym e) (over, stay-out p at attr Over whole corner free)
        | inr e ↦ subst (λ (c : ℕ). Contains (map place (marks_of (lines p))) c × (IsIn c at → ⊥)) (sym e) (under, stay-out p at attr Under whole corner free)
      ];
      holds = λ x solves.
          target-holds t.0.target.den (x.num (place_of (StayOf attr) Under)) (x.num (place_of (StayOf attr) Over)) (x.num (attr_column attr)) t.0.target.num (x.num one_column)
          (let here = at-stay (λ l. value_at x.num (equation l) ≡ pos 0) attr 1001 t.0 p.stays free.held t.1.only (each-right (λ l. value_at x.num (equation l) ≡ pos 0) (map line_of_row p.rows) (stay_lines 1001 p.stays) (recursion_from_All (λ l. value_at x.num (equation l) ≡ pos 0) (lines p) solves)) in
          subst (λ (a : ℕ). pos t.0.target.den *ℤ ((x.num (place_of (StayOf a) Under) -ℤ x.num (place_of (StayOf a) Over)) +ℤ x.num (attr_column a)) ≡ t.0.target.num *ℤ x.num one_column) t.1.is (stay-holds here.0 t.0 x.num here.1));
      lowest = λ k each all. one_factor k all.0 all.1;
    })
    (omega arith) (small-by (place_of (StayOf attr) Over) (place_of (StayOf attr) Under)) t.1.stay.target

-- ---- levels

-- the line, at this level
abbrev leveled : ℕ → Line → Line
leveled n l = record { name = l.name; level = n; weight = l.weight; rel = l.rel; scale = l.scale; num = l.num; den = l.den; form = l.form }

-- the stays' lines, from n on, stand at the level k just where those without the attribute's, from m on, stand at j
abbrev AreLeveled : ℕ → ℕ → ℕ → ℕ → ℕ → List Stay → Type 0
AreLeveled attr n m k j [] = Unit {0}
AreLeveled attr n m k j (s ∷ stays) = cond (nat_eq s.attr attr) ((n ≢ k) × AreLeveled attr (n + 1) m k j stays) ((nat_eq n k ≡ nat_eq m j) × AreLeveled attr (n + 1) (m + 1) k j stays)

gone-leveled : (attr n m k j : ℕ) (s : Stay) (stays : List Stay) → s.attr ≡ attr → AreLeveled attr n m k j (s ∷ stays) → (n ≢ k) × AreLeveled attr (n + 1) m k j stays
gone-leveled attr n m k j s stays e h = subst (λ (b : Bool). cond b ((n ≢ k) × AreLeveled attr (n + 1) m k j stays) ((nat_eq n k ≡ nat_eq m j) × AreLeveled attr (n + 1) (m + 1) k j stays)) (eq-eqb s.attr attr e) h

left-leveled : (attr n m k j : ℕ) (s : Stay) (stays : List Stay) → s.attr ≢ attr → AreLeveled attr n m k j (s ∷ stays) → (nat_eq n k ≡ nat_eq m j) × AreLeveled attr (n + 1) (m + 1) k j stays
left-leveled attr n m k j s stays e h = subst (λ (b : Bool). cond b ((n ≢ k) × AreLeveled attr (n + 1) m k j stays) ((nat_eq n k ≡ nat_eq m j) × AreLeveled attr (n + 1) (m + 1) k j stays)) (ne_eqb s.attr attr e) h

put-gone : (attr n m k j : ℕ) (s : Stay) (stays : List Stay) → s.attr ≡ attr → n ≢ k → AreLeveled attr (n + 1) m k j stays → AreLeveled attr n m k j (s ∷ stays)
put-gone attr n m k j s stays e ne h = subst (λ (b : Bool). cond b ((n ≢ k) × AreLeveled attr (n + 1) m k j stays) ((nat_eq n k ≡ nat_eq m j) × AreLeveled attr (n + 1) (m + 1) k j stays)) (sym (eq-eqb s.attr attr e)) (ne, h)

put-left : (attr n m k j : ℕ) (s : Stay) (stays : List Stay) → s.attr ≢ attr → nat_eq n k ≡ nat_eq m j → AreLeveled attr (n + 1) (m + 1) k j stays → AreLeveled attr n m k j (s ∷ stays)
put-left attr n m k j s stays e same h = subst (λ (b : Bool). cond b ((n ≢ k) × AreLeveled attr (n + 1) m k j stays) ((nat_eq n k ≡ nat_eq m j) × AreLeveled attr (n + 1) (m + 1) k j stays)) (sym (ne_eqb s.attr attr e)) (same, h)

both-false : (n m k j : ℕ) → n ≢ k → m ≢ j → nat_eq n k ≡ nat_eq m j
both-false n m k j a b = ne_eqb n k a ∙ sym (ne_eqb m j b)

-- past both levels
past-leveled : (attr n m k j : ℕ) (stays : List Stay) → k < n → j < m → AreLeveled attr n m k j stays
past-leveled attr n m k j [] a b = tt
past-leveled attr n m k j (s ∷ stays) a b = elim (cases_eq s.attr attr) [
  | inl e ↦ put-gone attr n m k j s stays e (λ q. absurd (omega (arith, a, q))) (past-leveled attr (n + 1) m k j stays (omega (arith, a)) b)
  | inr e ↦ put-left attr n m k j s stays e (both-false n m k j (λ q. absurd (omega (arith, a, q))) (λ q. absurd (omega (arith, b, q)))) (past-leveled attr (n + 1) (m + 1) k j stays (omega (arith, a)) (omega (arith, b)))
]

abbrev IsStayAt : ℕ → ℕ → Line → Type 0
IsStayAt a k l = (l.name ≡ StayOf a) × (l.level ≡ k)

later-level : (a k n : ℕ) (stays : List Stay) → Any (IsStayAt a k) (stay_lines n stays) → n ≤ k
later-level a k n [] (i, l, within, is, h) = absurd (omega (arith, within))
later-level a k n (s ∷ stays) h = elim (any-cases (IsStayAt a k) (line_of_stay n s) (stay_lines (n + 1) stays) h) [
  | inl here ↦ (let e = here.1 in omega (arith, e))
  | inr later ↦ (let e = later-level a k (n + 1) stays later in omega (arith, e))
]

-- the level of another stay, and that which it has without the attribute's
find-level : (attr a k n m : ℕ) (stays : List Stay) → a ≢ attr → Any (IsStayAt a k) (stay_lines n stays) → (j : ℕ) × AreLeveled attr n m k j stays × Any (IsStayAt a j) (stay_lines m (filter (other_stay attr) stays))
find-level attr a k n m [] ne (i, l, within, is, h) = absurd (omega (arith, within))
find-level attr a k n m (s ∷ stays) ne h = elim (cases_eq s.attr attr) [
  | inl e ↦ elim (any-cases (IsStayAt a k) (line_of_stay n s) (stay_lines (n + 1) stays) h) [
    | inl here ↦ absurd (ne (sym (stay-same s.attr a here.0) ∙ e))
    | inr later ↦
        let r = find-level attr a k (n + 1) m stays ne later in
        let low = later-level a k (n + 1) stays later in
        (r.0, put-gone attr n m k r.0 s stays e (λ q. absurd (omega (arith, low, q))) r.1, subst (λ (ss : List Stay). Any (IsStayAt a r.0) (stay_lines m ss)) (sym (filter-on attr s stays e)) r.2)
  ]
  | inr e ↦ elim (any-cases (IsStayAt a k) (line_of_stay n s) (stay_lines (n + 1) stays) h) [
    | inl here ↦ (
      m,
      put-left attr n m k m s stays e (eq-eqb n k here.1 ∙ sym (eq-eqb m m refl)) (past-leveled attr (n + 1) (m + 1) k m stays (let q = here.1 in omega (arith, q)) (omega arith)),
      subst (λ (ss : List Stay). Any (IsStayAt a m) (stay_lines m ss)) (sym (filter-off attr s stays e)) (any-here (IsStayAt a m) (line_of_stay m s) (stay_lines (m + 1) (filter (other_stay attr) stays)) (here.0, refl)),
    )
    | inr later ↦
        let r = find-level attr a k (n + 1) (m + 1) stays ne later in
        let low = later-level a k (n + 1) stays later in
        let next = later-level a r.0 (m + 1) (filter (other_stay attr) stays) r.2 in
        (r.0, put-left attr n m k r.0 s stays e (both-false n m k r.0 (λ q. absurd (omega (arith, low, q))) (λ q. absurd (omega (arith, next, q)))) r.1, subst (λ (ss : List Stay). Any (IsStayAt a r.0) (stay_lines m ss)) (sym (filter-off attr s stays e)) (any-later (IsStayAt a r.0) (line_of_stay m s) (stay_lines (m + 1) (filter (other_stay attr) stays)) r.2))
  ]
]

-- the rows stand at the level k just where they stand at j
abbrev AreRowsLeveled : ℕ → ℕ → List Row → Type 0
AreRowsLeveled k j rows = Each (λ r. nat_eq (line_of_row r).level k ≡ nat_eq (line_of_row r).level j) rows

-- both of all lines
record IsShift (p : Problem) (attr k j : ℕ) : Type 0 where
  rows : AreRowsLeveled k j p.rows
  stays : AreLeveled attr 1001 1001 k j p.stays

stays-back : (P Q : Line → Type 0) (attr n m k j : ℕ) (stays : List Stay) → AreLeveled attr n m k j stays → ((n m : ℕ) (s : Stay) → s.attr ≢ attr → nat_eq n k ≡ nat_eq m j → P (line_of_stay m s) → Q (line_of_stay n s)) → ((n : ℕ) (s : Stay) → s.attr ≡ attr → n ≢ k → Q (line_of_stay n s))
    → Each P (stay_lines m (filter (other_stay attr) stays)) → Each Q (stay_lines n stays)
stays-back P Q attr n m k j [] are off on h = tt
stays-back P Q attr n m k j (s ∷ stays) are off on h = elim (cases_eq s.attr attr) [
  | inl e ↦
      let r = gone-leveled attr n m k j s stays e are in
      (on n s e r.0, stays-back P Q attr (n + 1) m k j stays r.1 off on (subst (λ (ss : List Stay). Each P (stay_lines m ss)) (filter-on attr s stays e) h))
  | inr e ↦
      let r = left-leveled attr n m k j s stays e are in
      let l : Each P (stay_lines m (s ∷ filter (other_stay attr) stays)) = subst (λ (ss : List Stay). Each P (stay_lines m ss)) (filter-off attr s stays e) h in
      (off n m s e r.0 l.0, stays-back P Q attr (n + 1) (m + 1) k j stays r.1 off on l.1)
]

stays-sum : (F G : Line → ℤ) (c : ℤ) (attr n m k j : ℕ) (stays : List Stay) → AreLeveled attr n m k j stays → Each IsStay stays → ((n m : ℕ) (s : Stay) → IsStay s → s.attr ≢ attr → nat_eq n k ≡ nat_eq m j → F (line_of_stay n s) ≡ c *ℤ G (line_of_stay m s)) → ((n : ℕ) (s : Stay) → s.attr ≡ attr → n ≢ k → F (line_of_stay n s) ≡ pos 0)
    → sum_of F (stay_lines n stays) ≡ c *ℤ sum_of G (stay_lines m (filter (other_stay attr) stays))
stays-sum F G c attr n m k j [] are each off on = sym (mul-zero_ℤ c)
stays-sum F G c attr n m k j (s ∷ stays) are each off on = elim (cases_eq s.attr attr) [
  | inl e ↦
      let r = gone-leveled attr n m k j s stays e are in
      ap₂ ◌+ℤ◌ (on n s e r.0) (stays-sum F G c attr (n + 1) m k j stays r.1 each.1 off on) ∙ none-first (c *ℤ sum_of G (stay_lines m (filter (other_stay attr) stays))) ∙ ap (λ (ss : List Stay). c *ℤ sum_of G (stay_lines m ss)) (sym (filter-on attr s stays e))
  | inr e ↦
      let r = left-leveled attr n m k j s stays e are in
      ap₂ ◌+ℤ◌ (off n m s each.0 e r.0) (stays-sum F G c attr (n + 1) (m + 1) k j stays r.1 each.1 off on) ∙ sym (mul-add_left c (G (line_of_stay m s)) (sum_of G (stay_lines (m + 1) (filter (other_stay attr) stays)))) ∙ ap (λ (ss : List Stay). c *ℤ sum_of G (stay_lines m ss)) (sym (filter-off attr s stays e))
]
  where
    none-first : (z : ℤ) → pos 0 +ℤ z ≡ z
    none-first z = omega (arith, ints)

rows-sum : (F G : Line → ℤ) (c : ℤ) (rows : List Row) → Each (λ r. F (line_of_row r) ≡ c *ℤ G (line_of_row r)) rows → sum_of F (map line_of_row rows) ≡ c *ℤ sum_of G (map line_of_row rows)
rows-sum F G c [] h = sym (mul-zero_ℤ c)
rows-sum F G c (r ∷ rows) h = ap₂ ◌+ℤ◌ h.0 (rows-sum F G c rows h.1) ∙ sym (mul-add_left c (G (line_of_row r)) (sum_of G (map line_of_row rows)))

all-sum : (F G : Line → ℤ) (c : ℤ) (p : Problem) (attr k j : ℕ) → IsShift p attr k j → All IsStay p.stays → Each (λ r. F (line_of_row r) ≡ c *ℤ G (line_of_row r)) p.rows → ((n m : ℕ) (s : Stay) → IsStay s → s.attr ≢ attr → nat_eq n k ≡ nat_eq m j → F (line_of_stay n s) ≡ c *ℤ G (line_of_stay m s)) → ((n : ℕ) (s : Stay) → s.attr ≡ attr → n ≢ k → F (line_of_stay n s) ≡ pos 0)
    → sum_of F (lines p) ≡ c *ℤ sum_of G (lines (without_attr attr p))
all-sum F G c p attr k j shift each rows off on =
    sum-append F (map line_of_row p.rows) (stay_lines 1001 p.stays)
    ∙ ap₂ ◌+ℤ◌ (rows-sum F G c p.rows rows) (stays-sum F G c attr 1001 1001 k j p.stays shift.stays (recursion_from_All IsStay p.stays each) off on)
    ∙ sym (mul-add_left c (sum_of G (map line_of_row p.rows)) (sum_of G (stay_lines 1001 (without_attr attr p).stays)))
    ∙ ap (λ (z : ℤ). c *ℤ z) (sym (sum-append G (map line_of_row p.rows) (stay_lines 1001 (without_attr attr p).stays)))

all-back : (P Q : Line → Type 0) (p : Problem) (attr k j : ℕ) → IsShift p attr k j → Each (λ r. P (line_of_row r) → Q (line_of_row r)) p.rows → ((n m : ℕ) (s : Stay) → s.attr ≢ attr → nat_eq n k ≡ nat_eq m j → P (line_of_stay m s) → Q (line_of_stay n s)) → ((n : ℕ) (s : Stay) → s.attr ≡ attr → n ≢ k → Q (line_of_stay n s))
    → Each P (lines (without_attr attr p)) → Each Q (lines p)
all-back P Q p attr k j shift rows off on h =
    each-joined Q (map line_of_row p.rows) (stay_lines 1001 p.stays)
    (each-row p.rows rows (each-left P (map line_of_row p.rows) (stay_lines 1001 (without_attr attr p).stays) h))
    (stays-back P Q attr 1001 1001 k j p.stays shift.stays off on (each-right P (map line_of_row p.rows) (stay_lines 1001 (without_attr attr p).stays) h))
  where
    each-row : (rs : List Row) → Each (λ r. P (line_of_row r) → Q (line_of_row r)) rs → Each P (map line_of_row rs) → Each Q (map line_of_row rs)
    each-row [] f g = tt
    each-row (r ∷ rs) f g = (f.0 g.0, each-row rs f.1 g.1)

-- ---- the scales

stays-product : (attr n m : ℕ) (stays : List Stay) → product_of (λ (l : Line). l.scale) (stay_lines n stays) ≡ product_of (λ (l : Line). l.scale) (stay_lines m (filter (other_stay attr) stays))
stays-product attr n m [] = refl
stays-product attr n m (s ∷ stays) = elim (cases_eq s.attr attr) [
  | inl e ↦ one-first (product_of (λ (l : Line). l.scale) (stay_lines (n + 1) stays)) ∙ stays-product attr (n + 1) m stays ∙ ap (λ (ss : List Stay). product_of (λ (l : Line). l.scale) (stay_lines m ss)) (sym (filter-on attr s stays e))
  | inr e ↦ ap (λ (z : ℕ). 1 * z) (stays-product attr (n + 1) (m + 1) stays) ∙ ap (λ (ss : List Stay). product_of (λ (l : Line). l.scale) (stay_lines m ss)) (sym (filter-off attr s stays e))
]
  where
    one-first : (z : ℕ) → 1 * z ≡ z
    one-first z = omega arith

scales-left : (p : Problem) (attr : ℕ) → scales p ≡ scales (without_attr attr p)
scales-left p attr = rows p.rows
  where
    rows : (rs : List Row) → product_of (λ (l : Line). l.scale) (map line_of_row rs ++ stay_lines 1001 p.stays) ≡ product_of (λ (l : Line). l.scale) (map line_of_row rs ++ stay_lines 1001 (without_attr attr p).stays)
    rows [] = stays-product attr 1001 1001 p.stays
    rows (r ∷ rs) = ap (λ (z : ℕ). r.scale * z) (rows rs)

-- ---- the numbers of a level's writing, with none for the attribute's stay

abbrev is_own : ℕ → RowName → Bool
is_own attr (Held n) = false
is_own attr (StayOf a) = nat_eq a attr

abbrev no_times : ℕ → (RowName → ℤ) → RowName → ℤ
no_times attr times name = cond (is_own attr name) (pos 0) (times name)

abbrev no_reduced : ℕ → (ℕ → ℤ) → ℕ → ℤ
no_reduced attr reduced v = cond (nat_eq v (place_of (StayOf attr) Under)) (pos 0) (cond (nat_eq v (place_of (StayOf attr) Over)) (pos 0) (reduced v))

other-times : (attr : ℕ) (times : RowName → ℤ) (name : RowName) → name ≢ StayOf attr → no_times attr times name ≡ times name
other-times attr times (Held n) ne = refl
other-times attr times (StayOf a) ne = ap (λ (b : Bool). cond b (pos 0) (times (StayOf a))) (ne_eqb a attr (λ e. ne (ap StayOf e)))

own-times : (attr a : ℕ) (times : RowName → ℤ) → a ≡ attr → no_times attr times (StayOf a) ≡ pos 0
own-times attr a times e = ap (λ (b : Bool). cond b (pos 0) (times (StayOf a))) (eq-eqb a attr e)

other-reduced : (attr : ℕ) (reduced : ℕ → ℤ) (name : RowName) (side : Side) → name ≢ StayOf attr → no_reduced attr reduced (place_of name side) ≡ reduced (place_of name side)
other-reduced attr reduced name side ne =
    ap (λ (b : Bool). cond b (pos 0) (cond (nat_eq (place_of name side) (place_of (StayOf attr) Over)) (pos 0) (reduced (place_of name side)))) (ne_eqb (place_of name side) (place_of (StayOf attr) Under) (λ e. ne (same-name name (StayOf attr) side Under e)))
    ∙ ap (λ (b : Bool). cond b (pos 0) (reduced (place_of name side))) (ne_eqb (place_of name side) (place_of (StayOf attr) Over) (λ e. ne (same-name name (StayOf attr) side Over e)))

own-reduced : (attr a : ℕ) (reduced : ℕ → ℤ) (side : Side) → a ≡ attr → no_reduced attr reduced (place_of (StayOf a) side) ≡ pos 0
own-reduced attr a reduced Under e = ap (λ (b : Bool). cond b (pos 0) (cond (nat_eq (place_of (StayOf a) Under) (place_of (StayOf attr) Over)) (pos 0) (reduced (place_of (StayOf a) Under)))) (eq-eqb (place_of (StayOf a) Under) (place_of (StayOf attr) Under) (ap (λ (n : ℕ). place_of (StayOf n) Under) e))
own-reduced attr a reduced Over e =
    ap (λ (b : Bool). cond b (pos 0) (cond (nat_eq (place_of (StayOf a) Over) (place_of (StayOf attr) Over)) (pos 0) (reduced (place_of (StayOf a) Over)))) (ne_eqb (place_of (StayOf a) Over) (place_of (StayOf attr) Under) (λ q. absurd (omega (arith, q))))
    ∙ ap (λ (b : Bool). cond b (pos 0) (reduced (place_of (StayOf a) Over))) (eq-eqb (place_of (StayOf a) Over) (place_of (StayOf attr) Over) (ap (λ (n : ℕ). place_of (StayOf n) Over) e))

own-under-column : (sc : ℕ) (b : Bool) (r t : ℤ) → b ≡ false → r ≡ pos 0 → t ≡ pos 0 → pos 1 *ℤ r ≡ pos (sc * cond b 1 0) -ℤ pos 1 *ℤ t
own-under-column sc true r t e f g = absurd (true≢false e)
own-under-column sc false r t e f g = let none : sc * 0 ≡ 0 = omega arith in let z : pos (sc * 0) ≡ pos 0 = ap pos none in omega (arith, ints, f, g, z)

own-over-column : (sc : ℕ) (b : Bool) (r t : ℤ) → b ≡ false → r ≡ pos 0 → t ≡ pos 0 → pos 1 *ℤ r ≡ pos (sc * cond b 1 0) +ℤ pos 1 *ℤ t
own-over-column sc true r t e f g = absurd (true≢false e)
own-over-column sc false r t e f g = let none : sc * 0 ≡ 0 = omega arith in let z : pos (sc * 0) ≡ pos 0 = ap pos none in omega (arith, ints, f, g, z)

cost-scaled : (q r w v : ℕ) (d u o x y : ℤ) → q ≡ r → x ≡ d *ℤ u → y ≡ d *ℤ o → pos q *ℤ (pos w *ℤ x +ℤ pos v *ℤ y) ≡ d *ℤ (pos r *ℤ (pos w *ℤ u +ℤ pos v *ℤ o))
cost-scaled q r w v d u o x y e f g =
    ap₂ (λ (n : ℕ) (z : ℤ). pos n *ℤ z) e
    (ap₂ (λ (a b : ℤ). pos w *ℤ a +ℤ pos v *ℤ b) f g ∙ ap₂ ◌+ℤ◌ (mul_left_comm_ℤ (pos w) d u) (mul_left_comm_ℤ (pos v) d o) ∙ sym (mul-add_left d (pos w *ℤ u) (pos v *ℤ o)))
    ∙ mul_left_comm_ℤ (pos r) d (pos w *ℤ u +ℤ pos v *ℤ o)

no-line-cost : (q : ℕ) (b : Bool) (u o : ℤ) → b ≡ false → pos q *ℤ (pos (cond b 1 0) *ℤ u +ℤ pos (cond b 1 0) *ℤ o) ≡ pos 0
no-line-cost q true u o e = absurd (true≢false e)
no-line-cost q false u o e = ap (λ (z : ℤ). pos q *ℤ z) (let h : pos 0 *ℤ u +ℤ pos 0 *ℤ o ≡ pos 0 = omega (arith, ints) in h) ∙ mul-zero_ℤ (pos q)

scaled-cost : (d c e n s t one : ℤ) → c *ℤ e ≡ n *ℤ (t *ℤ one) → s ≡ t → (d *ℤ c) *ℤ e ≡ n *ℤ (s *ℤ (d *ℤ one))
scaled-cost d c e n s t one h same =
    mul_assoc_ℤ d c e ∙ ap (λ (z : ℤ). d *ℤ z) h ∙ mul_left_comm_ℤ d n (t *ℤ one) ∙ ap (λ (z : ℤ). n *ℤ z) (mul_left_comm_ℤ d t one) ∙ ap (λ (z : ℤ). n *ℤ (z *ℤ (d *ℤ one))) (sym same)

-- neither a mark of the attribute's stay nor the attribute
abbrev IsFarPlace : ℕ → RowName → Side → Type 0
IsFarPlace attr name side = (place_of name side ≢ place_of (StayOf attr) Under) × (place_of name side ≢ place_of (StayOf attr) Over) × (place_of name side ≢ attr_column attr)

module _ (p : Problem) (at : List Mark) (attr : ℕ) (whole : IsWhole p) (corner : IsCorner p at) (free : IsFree p attr) (k j : ℕ) (shift : IsShift p attr k j) where
  abbrev less : Problem
  less = without_attr attr p

  -- what holds of the other lines, whatever their levels, and of the stay's
  plain-back : (P Q : Line → Type 0) → ((l : Line) → l.name ≢ StayOf attr → P l → Q l) → ((n m : ℕ) (s : Stay) → P (line_of_stay m s) → P (line_of_stay n s)) → ((n : ℕ) (s : Stay) → s.attr ≡ attr → Q (line_of_stay n s)) → Each P (lines less) → Each Q (lines p)
  plain-back P Q other move own h =
      all-back P Q p attr k j shift (all-rows p.rows) (λ n m s ne same x. other (line_of_stay n s) (λ e. ne (stay-same s.attr attr e)) (move n m s x)) (λ n s e ne. own n s e) h
    where
      all-rows : (rs : List Row) → Each (λ r. P (line_of_row r) → Q (line_of_row r)) rs
      all-rows [] = tt
      all-rows (r ∷ rs) = (other (line_of_row r) (held-not-stay r.id attr), all-rows rs)

  columns-back : (scale : ℕ) (times : RowName → ℤ) (reduced : ℕ → ℤ) → IsLevelWriting less at j scale times reduced → (side : Side) → All (λ l. pos l.scale *ℤ no_reduced attr reduced (place_of l.name side) ≡ column (alone scale (no_times attr times)) side l k) (lines p)
  columns-back scale times reduced w Under =
      All-from_recursion (λ l. pos l.scale *ℤ no_reduced attr reduced (place_of l.name Under) ≡ column (alone scale (no_times attr times)) Under l k) (lines p)
      (all-back (λ l. pos l.scale *ℤ reduced (place_of l.name Under) ≡ column (alone scale times) Under l j) (λ l. pos l.scale *ℤ no_reduced attr reduced (place_of l.name Under) ≡ column (alone scale (no_times attr times)) Under l k) p attr k j shift
      (each-impl (λ r. nat_eq (line_of_row r).level k ≡ nat_eq (line_of_row r).level j) (λ r. pos r.scale *ℤ reduced (place_of (Held r.id) Under) ≡ column (alone scale times) Under (line_of_row r) j → pos r.scale *ℤ no_reduced attr reduced (place_of (Held r.id) Under) ≡ column (alone scale (no_times attr times)) Under (line_of_row r) k) p.rows
      (λ r same e. ap (λ (z : ℤ). pos r.scale *ℤ z) (other-reduced attr reduced (Held r.id) Under (held-not-stay r.id attr)) ∙ e ∙ ap (λ (b : Bool). pos (scale * under_weight r.rel (cond b r.weight 0)) -ℤ pos r.scale *ℤ times (Held r.id)) (sym same)) shift.rows)
      (λ n m s ne same e. ap (λ (z : ℤ). pos 1 *ℤ z) (other-reduced attr reduced (StayOf s.attr) Under (λ q. ne (stay-same s.attr attr q))) ∙ e ∙ ap₂ (λ (b : Bool) (z : ℤ). pos (scale * cond b 1 0) -ℤ pos 1 *ℤ z) (sym same) (sym (other-times attr times (StayOf s.attr) (λ q. ne (stay-same s.attr attr q)))))
      (λ n s e ne. own-under-column scale (nat_eq n k) (no_reduced attr reduced (place_of (StayOf s.attr) Under)) (no_times attr times (StayOf s.attr)) (ne_eqb n k ne) (own-reduced attr s.attr reduced Under e) (own-times attr s.attr times e))
      (recursion_from_All (λ l. pos l.scale *ℤ reduced (place_of l.name Under) ≡ column (alone scale times) Under l j) (lines less) (w.columns Under)))
  columns-back scale times reduced w Over =
      All-from_recursion (λ l. pos l.scale *ℤ no_reduced attr reduced (place_of l.name Over) ≡ column (alone scale (no_times attr times)) Over l k) (lines p)
      (all-back (λ l. pos l.scale *ℤ reduced (place_of l.name Over) ≡ column (alone scale times) Over l j) (λ l. pos l.scale *ℤ no_reduced attr reduced (place_of l.name Over) ≡ column (alone scale (no_times attr times)) Over l k) p attr k j shift
      (each-impl (λ r. nat_eq (line_of_row r).level k ≡ nat_eq (line_of_row r).level j) (λ r. pos r.scale *ℤ reduced (place_of (Held r.id) Over) ≡ column (alone scale times) Over (line_of_row r) j → pos r.scale *ℤ no_reduced attr reduced (place_of (Held r.id) Over) ≡ column (alone scale (no_times attr times)) Over (line_of_row r) k) p.rows
      (λ r same e. ap (λ (z : ℤ). pos r.scale *ℤ z) (other-reduced attr reduced (Held r.id) Over (held-not-stay r.id attr)) ∙ e ∙ ap (λ (b : Bool). pos (scale * over_weight r.rel (cond b r.weight 0)) +ℤ pos r.scale *ℤ times (Held r.id)) (sym same)) shift.rows)
      (λ n m s ne same e. ap (λ (z : ℤ). pos 1 *ℤ z) (other-reduced attr reduced (StayOf s.attr) Over (λ q. ne (stay-same s.attr attr q))) ∙ e ∙ ap₂ (λ (b : Bool) (z : ℤ). pos (scale * cond b 1 0) +ℤ pos 1 *ℤ z) (sym same) (sym (other-times attr times (StayOf s.attr) (λ q. ne (stay-same s.attr attr q)))))
      (λ n s e ne. own-over-column scale (nat_eq n k) (no_reduced attr reduced (place_of (StayOf s.attr) Over)) (no_times attr times (StayOf s.attr)) (ne_eqb n k ne) (own-reduced attr s.attr reduced Over e) (own-times attr s.attr times e))
      (recursion_from_All (λ l. pos l.scale *ℤ reduced (place_of l.name Over) ≡ column (alone scale times) Over l j) (lines less) (w.columns Over)))

  cancels-back : (scale : ℕ) (times : RowName → ℤ) (reduced : ℕ → ℤ) → IsLevelWriting less at j scale times reduced → (v : ℕ) → sum_of (λ l. no_times attr times l.name *ℤ coefficient v l.form) (lines p) ≡ pos 0
  cancels-back scale times reduced w v =
      all-sum (λ l. no_times attr times l.name *ℤ coefficient v l.form) (λ l. times l.name *ℤ coefficient v l.form) (pos 1) p attr k j shift whole.stays
      (all-rows p.rows)
      (λ n m s stay ne same. ap (λ (z : ℤ). z *ℤ coefficient v (line_of_stay m s).form) (other-times attr times (StayOf s.attr) (λ q. ne (stay-same s.attr attr q))) ∙ sym (one-times (times (StayOf s.attr) *ℤ coefficient v (line_of_stay m s).form)))
      (λ n s e ne. ap (λ (z : ℤ). z *ℤ coefficient v (line_of_stay n s).form) (own-times attr s.attr times e) ∙ zero-mul_ℤ (coefficient v (line_of_stay n s).form))
      ∙ one-times (sum_of (λ l. times l.name *ℤ coefficient v l.form) (lines less)) ∙ w.cancel v
    where
      all-rows : (rs : List Row) → Each (λ r. times (Held r.id) *ℤ coefficient v r.terms ≡ pos 1 *ℤ (times (Held r.id) *ℤ coefficient v r.terms)) rs
      all-rows [] = tt
      all-rows (r ∷ rs) = (sym (one-times (times (Held r.id) *ℤ coefficient v r.terms)), all-rows rs)

  abbrev Divides : ℕ → (RowName → ℤ) → (ℕ → ℤ) → Line → Type 0
  Divides d times reduced l = (d ∣ unsigned_abs (times l.name)) × (d ∣ unsigned_abs (reduced (place_of l.name Under))) × (d ∣ unsigned_abs (reduced (place_of l.name Over)))

  level-back : (scale : ℕ) (times : RowName → ℤ) (reduced : ℕ → ℤ) → IsLevelWriting less at j scale times reduced → IsLevelWriting p at k scale (no_times attr times) (no_reduced attr reduced)
  level-back scale times reduced w = record {
    scale_positive = w.scale_positive;
    cancel = cancels-back scale times reduced w;
    columns = columns-back scale times reduced w;
    inside_zero = λ side. All-from_recursion (λ l. IsIn (place_of l.name side) at → no_reduced attr reduced (place_of l.name side) ≡ pos 0) (lines p)
        (plain-back (λ l. IsIn (place_of l.name side) at → reduced (place_of l.name side) ≡ pos 0) (λ l. IsIn (place_of l.name side) at → no_reduced attr reduced (place_of l.name side) ≡ pos 0)
        (λ l ne h i. other-reduced attr reduced l.name side ne ∙ h i) (λ n m s h. h) (λ n s e i. own-reduced attr s.attr reduced side e)
        (recursion_from_All (λ l. IsIn (place_of l.name side) at → reduced (place_of l.name side) ≡ pos 0) (lines less) (w.inside_zero side)));
    lowest = λ d h each. w.lowest d h
        (All-from_recursion (Divides d times reduced) (lines less)
        (each-impl (λ l. (l.name ≢ StayOf attr) × Divides d (no_times attr times) (no_reduced attr reduced) l) (Divides d times reduced) (lines less)
        (λ l g. (subst (λ (z : ℤ). d ∣ unsigned_abs z) (other-times attr times l.name g.0) g.1.0, subst (λ (z : ℤ). d ∣ unsigned_abs z) (other-reduced attr reduced l.name Under g.0) g.1.1, subst (λ (z : ℤ). d ∣ unsigned_abs z) (other-reduced attr reduced l.name Over g.0) g.1.2))
        (each-both (λ l. l.name ≢ StayOf attr) (Divides d (no_times attr times) (no_reduced attr reduced)) (lines less) (left-far p attr)
        (lines-left (Divides d (no_times attr times) (no_reduced attr reduced)) attr p (λ n m s g. g) (recursion_from_All (Divides d (no_times attr times) (no_reduced attr reduced)) (lines p) each)))));
  }

  zero-fits : (z : ℤ) → z ≡ pos 0 → IsFitting z
  zero-fits z e = subst IsFitting (sym e) (omega arith)

  fits-back : (scale : ℕ) (times : RowName → ℤ) (reduced : ℕ → ℤ) → AreFitting less scale times reduced → AreFitting p scale (no_times attr times) (no_reduced attr reduced)
  fits-back scale times reduced f = record {
    scale_fits = f.scale_fits;
    times_fit = All-from_recursion (λ l. IsFitting (no_times attr times l.name)) (lines p)
        (plain-back (λ l. IsFitting (times l.name)) (λ l. IsFitting (no_times attr times l.name)) (λ l ne h. subst IsFitting (sym (other-times attr times l.name ne)) h) (λ n m s h. h) (λ n s e. zero-fits (no_times attr times (StayOf s.attr)) (own-times attr s.attr times e))
        (recursion_from_All (λ l. IsFitting (times l.name)) (lines less) f.times_fit));
    reduced_fit = λ side. All-from_recursion (λ l. IsFitting (no_reduced attr reduced (place_of l.name side))) (lines p)
        (plain-back (λ l. IsFitting (reduced (place_of l.name side))) (λ l. IsFitting (no_reduced attr reduced (place_of l.name side))) (λ l ne h. subst IsFitting (sym (other-reduced attr reduced l.name side ne)) h) (λ n m s h. h) (λ n s e. zero-fits (no_reduced attr reduced (place_of (StayOf s.attr) side)) (own-reduced attr s.attr reduced side e))
        (recursion_from_All (λ l. IsFitting (reduced (place_of l.name side))) (lines less) (f.reduced_fit side)));
  }

  -- the cost, where the attribute is at its target
  cost-there : (t : Stay) → IsTheStay attr p.stays t → (y : ℕ → ℤ) → cost_at p k (restored attr t y) ≡ pos t.target.den *ℤ cost_at less j y
  cost-there t the y =
      all-sum (λ l. pos (scales p / l.scale) *ℤ line_cost k (restored attr t y) l) (λ l. pos (scales less / l.scale) *ℤ line_cost j y l) (pos t.target.den) p attr k j shift whole.stays
      (each-impl (λ r. IsRow r × (nat_eq (line_of_row r).level k ≡ nat_eq (line_of_row r).level j)) (λ r. pos (scales p / r.scale) *ℤ line_cost k (restored attr t y) (line_of_row r) ≡ pos t.target.den *ℤ (pos (scales less / r.scale) *ℤ line_cost j y (line_of_row r))) p.rows
      (λ r h.
      ap (λ (b : Bool). pos (scales p / r.scale) *ℤ (pos (under_weight r.rel (cond b r.weight 0)) *ℤ restored attr t y (place_of (Held r.id) Under) +ℤ pos (over_weight r.rel (cond b r.weight 0)) *ℤ restored attr t y (place_of (Held r.id) Over))) h.1
      ∙ cost-scaled (scales p / r.scale) (scales less / r.scale) (under_weight r.rel (weight_at (line_of_row r) j)) (over_weight r.rel (weight_at (line_of_row r) j)) (pos t.target.den) (y (place_of (Held r.id) Under)) (y (place_of (Held r.id) Over)) (restored attr t y (place_of (Held r.id) Under)) (restored attr t y (place_of (Held r.id) Over))
      (ap (λ (n : ℕ). n / r.scale) (scales-left p attr)) (restored-far attr t y (place_of (Held r.id) Under) (row-far r Under h.0)) (restored-far attr t y (place_of (Held r.id) Over) (row-far r Over h.0)))
      (each-both IsRow (λ r. nat_eq (line_of_row r).level k ≡ nat_eq (line_of_row r).level j) p.rows (recursion_from_All IsRow p.rows whole.rows) shift.rows))
      (λ n m s stay ne same.
      ap (λ (b : Bool). pos (scales p / 1) *ℤ (pos (cond b 1 0) *ℤ restored attr t y (place_of (StayOf s.attr) Under) +ℤ pos (cond b 1 0) *ℤ restored attr t y (place_of (StayOf s.attr) Over))) same
      ∙ cost-scaled (scales p / 1) (scales less / 1) (weight_at (line_of_stay m s) j) (weight_at (line_of_stay m s) j) (pos t.target.den) (y (place_of (StayOf s.attr) Under)) (y (place_of (StayOf s.attr) Over)) (restored attr t y (place_of (StayOf s.attr) Under)) (restored attr t y (place_of (StayOf s.attr) Over))
      (ap (λ (n : ℕ). n / 1) (scales-left p attr)) (restored-far attr t y (place_of (StayOf s.attr) Under) (stay-far s Under stay ne)) (restored-far attr t y (place_of (StayOf s.attr) Over) (stay-far s Over stay ne)))
      (λ n s e ne. no-line-cost (scales p / 1) (nat_eq n k) (restored attr t y (place_of (StayOf s.attr) Under)) (restored attr t y (place_of (StayOf s.attr) Over)) (ne_eqb n k ne))
    where
      row-far : (r : Row) (side : Side) → IsRow r → IsFarPlace attr (Held r.id) side
      row-far r Under h = ((λ e. held-not-stay r.id attr (same-name (Held r.id) (StayOf attr) Under Under e)), (λ e. held-not-stay r.id attr (same-name (Held r.id) (StayOf attr) Under Over e)), (λ e. (let n = h.number.1 in absurd (omega (arith, n, e)))))
      row-far r Over h = ((λ e. held-not-stay r.id attr (same-name (Held r.id) (StayOf attr) Over Under e)), (λ e. held-not-stay r.id attr (same-name (Held r.id) (StayOf attr) Over Over e)), (λ e. (let n = h.number.1 in absurd (omega (arith, n, e)))))

      stay-far : (s : Stay) (side : Side) → IsStay s → s.attr ≢ attr → IsFarPlace attr (StayOf s.attr) side
      stay-far s Under h ne = ((λ e. ne (stay-same s.attr attr (same-name (StayOf s.attr) (StayOf attr) Under Under e))), (λ e. ne (stay-same s.attr attr (same-name (StayOf s.attr) (StayOf attr) Under Over e))), (λ e. (let n = h.attr.1 in absurd (omega (arith, n, e)))))
      stay-far s Over h ne = ((λ e. ne (stay-same s.attr attr (same-name (StayOf s.attr) (StayOf attr) Over Under e))), (λ e. ne (stay-same s.attr attr (same-name (StayOf s.attr) (StayOf attr) Over Over e))), (λ e. (let n = h.attr.1 in absurd (omega (arith, n, e)))))

  cost-back : (value : Fraction) → IsCostAt less at j value → IsCostAt p at k value
  unfolding restored-point
  cost-back value (y, stands, is) =
      let t = the-held p attr whole free in (
        restored-point attr t.0 t.1.stay t.1.is y,
        stands-back p at attr t.0 whole free t.1 y stands,
        ap (λ (z : ℤ). z *ℤ pos value.den) (cost-there t.0 t.1 y.num)
            ∙ scaled-cost (pos t.0.target.den) (cost_at less j y.num) (pos value.den) value.num (pos (scales p)) (pos (scales less)) (y.num one_column) is (ap pos (scales-left p attr))
            ∙ ap (λ (z : ℤ). value.num *ℤ (pos (scales p) *ℤ z)) (sym (restored-one attr t.0 y.num (small-attr t.0 attr t.1.stay t.1.is))),
      )

  level-left : HasNoLevelWriting p at k → HasNoLevelWriting (without_attr attr p) at j
  level-left none scale times reduced value w cost fits kept = none scale (no_times attr times) (no_reduced attr reduced) value (level-back scale times reduced w) (cost-back value cost) (fits-back scale times reduced fits) kept

-- ---- whatever it is

stays-alone : (P : Line → Type 0) (rows : List Row) (ls : List Line) → ((r : Row) → P (line_of_row r) → ⊥) → Any P (map line_of_row rows ++ ls) → Any P ls
stays-alone P [] ls none h = h
stays-alone P (r ∷ rows) ls none h = elim (any-cases P (line_of_row r) (map line_of_row rows ++ ls) h) [
  | inl here ↦ absurd (none r here)
  | inr later ↦ stays-alone P rows ls none later
]

low-rows : (k j : ℕ) (rows : List Row) → 1001 ≤ k → 1001 ≤ j → AreRowsLeveled k j rows
low-rows k j [] a b = tt
low-rows k j (r ∷ rows) a b = (both-false (1000 - r.rank) (1000 - r.rank) k j (λ e. absurd (omega (arith, a, e))) (λ e. absurd (omega (arith, b, e))), low-rows k j rows a b)

same-rows : (k : ℕ) (rows : List Row) → AreRowsLeveled k k rows
same-rows k [] = tt
same-rows k (r ∷ rows) = (refl, same-rows k rows)

pub left_is_unfit : (p : Problem) (at : List Mark) (attr : ℕ) (what : What) → IsWhole p → IsCorner p at → IsFree p attr → IsUnfitWhat p at what → IsUnfitWhat (without_attr attr p) at what
left_is_unfit p at attr (Attr a) whole corner free (has, none) = elim (cases_eq a attr) [
  | inl e ↦ absurd (own-fits p at attr whole corner free (subst (λ (c : ℕ). HasNoWriting p at (λ x. x (attr_column c))) e none))
  | inr ne ↦ (others-held attr a p.stays ne has, unwritten-left p at attr (λ x. x (attr_column a)) none)
]
left_is_unfit p at attr (MarkOf m) whole corner free (i, none) = (i, unwritten-left p at attr (λ x. x (place m)) none)
left_is_unfit p at attr (LevelOf (Priority rank)) whole corner free (k, is, none) = (
  k,
  is,
  level-left p at attr whole corner free k k (record { rows = same-rows k p.rows; stays = past-leveled attr 1001 1001 k k p.stays (omega (arith, is)) (omega (arith, is)) }) none,
)
left_is_unfit p at attr (LevelOf (StayLevel a)) whole corner free (k, is, none) = elim (cases_eq a attr) [
  | inl e ↦ absurd (outside_stay_level_fits p at attr whole corner (corner_has_rays p at whole corner) (record { under = stay-out p at attr Under whole corner free; over = stay-out p at attr Over whole corner free }) (subst (λ (c : ℕ). IsUnfitWhat p at (LevelOf (StayLevel c))) e (k, is, none)))
  | inr ne ↦
      let there = stays-alone (IsStayAt a k) p.rows (stay_lines 1001 p.stays) (λ r h. held-not-stay r.id a h.0) is in
      let found = find-level attr a k 1001 1001 p.stays ne there in
      let first = later-level a k 1001 p.stays there in
      let next = later-level a found.0 1001 (filter (other_stay attr) p.stays) found.2 in (
        found.0,
        later-line (IsStayAt a found.0) p.rows (stay_lines 1001 (filter (other_stay attr) p.stays)) found.2,
        level-left p at attr whole corner free k found.0 (record { rows = low-rows k found.0 p.rows first next; stays = found.1 }) none,
      )
]
