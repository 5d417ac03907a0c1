-- The levels of rows, where an attribute that no row names is taken out.
use Rattle.std.proofs.Common.{◌≡◌, ◌≢◌, ◌∙◌, ℕ, zero, suc, ◌+◌, ◌*◌, ◌/◌, ◌<◌, ◌++◌, Bool, cond, List, [], ◌∷◌, filter, map, ℤ, pos, ◌+ℤ◌, ◌*ℤ◌, neg_ℤ, unsigned_abs, ne_eqb, eq-eqb, refl, sym, ap, ap₂, subst, arith, inl, inr, All, AllPairs}
use Rattle.std.specs.Int.{◌∣◌}
use borrow.Author.Differences.{ints}
use Rattle.std.specs.List.{AllByRecursion as Each}
use Rattle.std.proofs.lemmas.Bool.{cases_eq}
use Rattle.std.proofs.lemmas.Nat.Gcd.{dvd-zero}
use Rattle.std.proofs.lemmas.List.Elements.{recursion_from_All, All-from_recursion}
use Rattle.frac_core.specs.Fraction.{Fraction}
use Rattle.frac_core.proofs.Integers.{add-zero_ℤ, mul-zero_ℤ, zero-add_ℤ, zero-mul_ℤ}
use Rattle.problem_core.specs.declared.parts.Mark.{Mark}
use Rattle.problem_core.specs.declared.parts.Rel.TheVariants.{Eq}
use Rattle.problem_core.specs.declared.parts.RowName.{RowName}
use Rattle.problem_core.specs.declared.parts.RowName.TheVariants.{Held, Stay as StayOf}
use Rattle.problem_core.specs.declared.parts.Side.TheVariants.{Under, Over}
use Rattle.problem_core.specs.declared.parts.Stay.{Stay}
use Rattle.problem_core.specs.declared.parts.Term.{Term}
use Rattle.problem_core.specs.Certificates.{over_weight, under_weight, weight_at}
use Rattle.problem_core.specs.Kept.{IsWhole}
use Rattle.problem_core.specs.Layout.{HasStay, Line, Problem, Row, coefficient, line_of_row, line_of_stay, lines, product_of, stay_lines, sum_of}
use Rattle.problem_core.specs.Corners.{IsCorner, IsIn, one_column, place_of}
use Rattle.problem_core.specs.Levels.{IsCostAt, cost_at, line_cost, scales}
use Rattle.problem_core.proofs.Forms.{each-impl}
use Rattle.corner_laws.specs.Units.{IsLevelRow, IsLevelUnit, over_share, under_share}
use Rattle.corner_laws.proofs.Counting.{head_pairs}
use Rattle.corner_lines.specs.Removals.{IsFree, without_attr}
use Rattle.corner_lines.proofs.ProblemChanges.DroppedAttr.{filter-on, filter-off, other_stay, still-stands}
use Rattle.corner_view.proofs.Facts.{stays_part}
use Rattle.corner_table.proofs.Basics.StayCosts.{stays_cost as stays-cost}
use Rattle.frac_core.proofs.Numbers.{no-product as no-weight}
use Rattle.frac_core.proofs.Lists.{pairs-rest as tail_pairs}

-- ---- numbers

pub absent : (v : ℕ) (form : List Term) → All (λ e. e.attr ≢ v) form → coefficient v form ≡ pos 0
absent v [] h = refl
absent v (e ∷ es) h =
    ap₂ (λ (b : Bool) (z : ℤ). cond b e.by (pos 0) +ℤ z) (ne_eqb e.attr v (h zero e (omega arith))) (absent v es (λ k x lt. h (suc k) x (omega (arith, lt))))

pub one_time : (z : ℤ) → z *ℤ (pos 1 +ℤ pos 0) ≡ z
one_time z = omega (arith, ints)

-- ---- the lines without the stay

pub swap_stays : (P : Line → Type 0) (rows : List Row) (ls ms : List Line) → Each P (map line_of_row rows ++ ls) → Each P ms → Each P (map line_of_row rows ++ ms)
swap_stays P [] ls ms h k = k
swap_stays P (r ∷ rows) ls ms h k = (h.0, swap_stays P rows ls ms h.1 k)

-- what holds of a stay's line at a level behind k holds of it at each
abbrev Moves : ℕ → (Line → Type 0) → Type 0
Moves k P = (i j : ℕ) (s : Stay) → k < i → k < j → P (line_of_stay i s) → P (line_of_stay j s)

stays-left : (P : Line → Type 0) (k attr n m : ℕ) (stays : List Stay) → Moves k P → k < n → k < m → Each P (stay_lines n stays) → Each P (stay_lines m (filter (other_stay attr) stays))
stays-left P k attr n m [] move first second h = tt
stays-left P k attr n m (s ∷ stays) move first second h = elim (cases_eq s.attr attr) [
  | inl e ↦ subst (λ (ss : List Stay). Each P (stay_lines m ss)) (sym (filter-on attr s stays e)) (stays-left P k attr (n + 1) m stays move (omega (arith, first)) second h.1)
  | inr d ↦ subst (λ (ss : List Stay). Each P (stay_lines m ss)) (sym (filter-off attr s stays d)) (move n m s first second h.0, stays-left P k attr (n + 1) (m + 1) stays move (omega (arith, first)) (omega (arith, second)) h.1)
]

stays-back : (P : Line → Type 0) (k attr n m : ℕ) (stays : List Stay) → Moves k P → ((i : ℕ) (s : Stay) → s.attr ≡ attr → k < i → P (line_of_stay i s)) → k < n → k < m → Each P (stay_lines m (filter (other_stay attr) stays)) → Each P (stay_lines n stays)
stays-back P k attr n m [] move own first second h = tt
stays-back P k attr n m (s ∷ stays) move own first second h = elim (cases_eq s.attr attr) [
  | inl e ↦ (own n s e first, stays-back P k attr (n + 1) m stays move own (omega (arith, first)) second (subst (λ (ss : List Stay). Each P (stay_lines m ss)) (filter-on attr s stays e) h))
  | inr d ↦
      let l : Each P (stay_lines m (s ∷ filter (other_stay attr) stays)) = subst (λ (ss : List Stay). Each P (stay_lines m ss)) (filter-off attr s stays d) h in
      (move m n s second first l.0, stays-back P k attr (n + 1) (m + 1) stays move own (omega (arith, first)) (omega (arith, second)) l.1)
]

lines-left : (P : Line → Type 0) (k attr : ℕ) (p : Problem) → k < 1001 → Moves k P → Each P (lines p) → Each P (lines (without_attr attr p))
lines-left P k attr p below move h =
    swap_stays P p.rows (stay_lines 1001 p.stays) (stay_lines 1001 (filter (other_stay attr) p.stays)) h
    (stays-left P k attr 1001 1001 p.stays move below below (stays_part P p.rows (stay_lines 1001 p.stays) h))

lines-back : (P : Line → Type 0) (k attr : ℕ) (p : Problem) → k < 1001 → Moves k P → ((i : ℕ) (s : Stay) → s.attr ≡ attr → k < i → P (line_of_stay i s)) → Each P (lines (without_attr attr p)) → Each P (lines p)
lines-back P k attr p below move own h =
    swap_stays P p.rows (stay_lines 1001 (filter (other_stay attr) p.stays)) (stay_lines 1001 p.stays) h
    (stays-back P k attr 1001 1001 p.stays move own below below (stays_part P p.rows (stay_lines 1001 (filter (other_stay attr) p.stays)) h))

-- ---- a stay counts nothing at the level of a row

weightless : (i k : ℕ) (s : Stay) → k < i → weight_at (line_of_stay i s) k ≡ 0
weightless i k s above = ap (λ (b : Bool). cond b 1 0) (ne_eqb i k (λ e. absurd (omega (arith, above, e))))

same-weight : (i j k : ℕ) (s : Stay) → k < i → k < j → weight_at (line_of_stay i s) k ≡ weight_at (line_of_stay j s) k
same-weight i j k s a b = weightless i k s a ∙ sym (weightless j k s b)

-- ---- the unit

unit-moves : (n k : ℕ) → Moves k (λ l. l.scale ∣ n * weight_at l k)
unit-moves n k i j s a b h = subst (λ (w : ℕ). 1 ∣ n * w) (same-weight i j k s a b) h

unit-own : (n k attr i : ℕ) (s : Stay) → s.attr ≡ attr → k < i → 1 ∣ n * weight_at (line_of_stay i s) k
unit-own n k attr i s e above = subst (λ (m : ℕ). 1 ∣ m) (sym (no-weight n (weight_at (line_of_stay i s) k) (weightless i k s above))) (dvd-zero 1)

pub attr_left_unit : (p : Problem) (attr k unit : ℕ) → k < 1001 → IsLevelUnit p k unit → IsLevelUnit (without_attr attr p) k unit
attr_left_unit p attr k unit below is = record {
  above = is.above;
  whole = All-from_recursion (λ l. l.scale ∣ unit * weight_at l k) (lines (without_attr attr p))
      (lines-left (λ l. l.scale ∣ unit * weight_at l k) k attr p below (unit-moves unit k) (recursion_from_All (λ l. l.scale ∣ unit * weight_at l k) (lines p) is.whole));
  least = λ n h. is.least n (All-from_recursion (λ l. l.scale ∣ n * weight_at l k) (lines p)
      (lines-back (λ l. l.scale ∣ n * weight_at l k) k attr p below (unit-moves n k) (unit-own n k attr) (recursion_from_All (λ l. l.scale ∣ n * weight_at l k) (lines (without_attr attr p)) h)));
}

-- ---- sums over the lines

abbrev pub taken_sum : (RowName → ℤ) → ℕ → List Line → ℤ
taken_sum by v ls = sum_of (λ l. by l.name *ℤ coefficient v l.form) ls

stays-sum : (by : RowName → ℤ) (v attr n m : ℕ) (stays : List Stay) → by (StayOf attr) ≡ pos 0 → taken_sum by v (stay_lines n stays) ≡ taken_sum by v (stay_lines m (filter (other_stay attr) stays))
stays-sum by v attr n m [] none = refl
stays-sum by v attr n m (s ∷ stays) none = elim (cases_eq s.attr attr) [
  | inl e ↦
      ap₂ (λ (x y : ℤ). x +ℤ y)
      (ap (λ (a : ℕ). by (StayOf a) *ℤ coefficient v (line_of_stay n s).form) e ∙ ap (λ (z : ℤ). z *ℤ coefficient v (line_of_stay n s).form) none ∙ zero-mul_ℤ (coefficient v (line_of_stay n s).form))
      (stays-sum by v attr (n + 1) m stays none)
      ∙ zero-add_ℤ (taken_sum by v (stay_lines m (filter (other_stay attr) stays)))
      ∙ ap (λ (ss : List Stay). taken_sum by v (stay_lines m ss)) (sym (filter-on attr s stays e))
  | inr d ↦
      ap (λ (z : ℤ). by (StayOf s.attr) *ℤ coefficient v (line_of_stay n s).form +ℤ z) (stays-sum by v attr (n + 1) (m + 1) stays none)
      ∙ ap (λ (ss : List Stay). taken_sum by v (stay_lines m ss)) (sym (filter-off attr s stays d))
]

rows-sum : (f : Line → ℤ) (rows : List Row) (ls ms : List Line) → sum_of f ls ≡ sum_of f ms → sum_of f (map line_of_row rows ++ ls) ≡ sum_of f (map line_of_row rows ++ ms)
rows-sum f [] ls ms e = e
rows-sum f (r ∷ rows) ls ms e = ap (λ (z : ℤ). f (line_of_row r) +ℤ z) (rows-sum f rows ls ms e)

-- a stay that is taken no times can go
pub attr_sum : (by : RowName → ℤ) (v attr : ℕ) (p : Problem) → by (StayOf attr) ≡ pos 0 → taken_sum by v (lines p) ≡ taken_sum by v (lines (without_attr attr p))
attr_sum by v attr p none =
    rows-sum (λ l. by l.name *ℤ coefficient v l.form) p.rows (stay_lines 1001 p.stays) (stay_lines 1001 (filter (other_stay attr) p.stays))
    (stays-sum by v attr 1001 1001 p.stays none)

-- ---- the stay of an attribute that no row names is taken no times

rows-none : (by : RowName → ℤ) (attr : ℕ) (rows : List Row) (ls : List Line) → All (λ (r : Row). All (λ t. t.attr ≢ attr) r.terms) rows → taken_sum by attr (map line_of_row rows ++ ls) ≡ taken_sum by attr ls
rows-none by attr [] ls free = refl
rows-none by attr (r ∷ rows) ls free =
    ap₂ (λ (x y : ℤ). x +ℤ y)
    (ap (λ (z : ℤ). by (Held r.id) *ℤ z) (absent attr r.terms (free zero r (omega arith))) ∙ mul-zero_ℤ (by (Held r.id)))
    (rows-none by attr rows ls (λ k x lt. free (suc k) x (omega (arith, lt))))
    ∙ zero-add_ℤ (taken_sum by attr ls)

other-stay : (by : RowName → ℤ) (attr n : ℕ) (s : Stay) → s.attr ≢ attr → by (StayOf s.attr) *ℤ coefficient attr (line_of_stay n s).form ≡ pos 0
other-stay by attr n s d = ap (λ (b : Bool). by (StayOf s.attr) *ℤ (cond b (pos 1) (pos 0) +ℤ pos 0)) (ne_eqb s.attr attr d) ∙ mul-zero_ℤ (by (StayOf s.attr))

others-none : (by : RowName → ℤ) (attr n : ℕ) (stays : List Stay) → Each (λ (s : Stay). s.attr ≢ attr) stays → taken_sum by attr (stay_lines n stays) ≡ pos 0
others-none by attr n [] others = refl
others-none by attr n (s ∷ stays) others = ap₂ (λ (x y : ℤ). x +ℤ y) (other-stay by attr n s others.0) (others-none by attr (n + 1) stays others.1)

-- each stay behind is of another attribute
pub stays_behind : (attr : ℕ) (s : Stay) (stays : List Stay) → s.attr ≡ attr → AllPairs (λ (s t : Stay). s.attr ≢ t.attr) (s ∷ stays) → Each (λ (t : Stay). t.attr ≢ attr) stays
stays_behind attr s stays e apart =
    each-impl (λ (t : Stay). s.attr ≢ t.attr) (λ (t : Stay). t.attr ≢ attr) stays (λ t n q. n (e ∙ sym q))
    (recursion_from_All (λ (t : Stay). s.attr ≢ t.attr) stays (head_pairs (λ (s t : Stay). s.attr ≢ t.attr) s stays apart))

own-stay : (by : RowName → ℤ) (attr n : ℕ) (stays : List Stay) → AllPairs (λ (s t : Stay). s.attr ≢ t.attr) stays → HasStay stays attr → taken_sum by attr (stay_lines n stays) ≡ by (StayOf attr)
own-stay by attr n [] apart h = absurd (omega (arith, h.2))
own-stay by attr n (s ∷ stays) apart h = elim (cases_eq s.attr attr) [
  | inl e ↦
      ap₂ (λ (x y : ℤ). x +ℤ y)
      (ap (λ (b : Bool). by (StayOf s.attr) *ℤ (cond b (pos 1) (pos 0) +ℤ pos 0)) (eq-eqb s.attr attr e) ∙ one_time (by (StayOf s.attr)) ∙ ap (λ (a : ℕ). by (StayOf a)) e)
      (others-none by attr (n + 1) stays (stays_behind attr s stays e apart))
      ∙ add-zero_ℤ (by (StayOf attr))
  | inr d ↦
      ap₂ (λ (x y : ℤ). x +ℤ y) (other-stay by attr n s d) (own-stay by attr (n + 1) stays (tail_pairs (λ (s t : Stay). s.attr ≢ t.attr) s stays apart) (further h d))
      ∙ zero-add_ℤ (by (StayOf attr))
]
  where
    further : HasStay (s ∷ stays) attr → s.attr ≢ attr → HasStay stays attr
    further (zero, t, within, is, e) d = absurd (d (ap (λ (u : Stay). u.attr) is ∙ e))
    further (suc k, t, within, is, e) d = (k, t, omega (arith, within), is, e)

pub stay_none : (p : Problem) (attr : ℕ) (by : RowName → ℤ) → IsWhole p → IsFree p attr → taken_sum by attr (lines p) ≡ pos 0 → by (StayOf attr) ≡ pos 0
stay_none p attr by whole free cancel =
    sym (own-stay by attr 1001 p.stays whole.apart free.held) ∙ sym (rows-none by attr p.rows (stay_lines 1001 p.stays) free.free) ∙ cancel

-- ---- the row

pub attr_level_none : (p : Problem) (at : List Mark) (attr k unit own : ℕ) (by : RowName → ℤ) → IsWhole p → IsCorner p at → IsFree p attr → k < 1001 → IsLevelRow p at k unit own by → by (StayOf attr) ≡ pos 0
attr_level_none p at attr k unit own by whole corner free below is = stay_none p attr by whole free (is.cancel attr)

pub attr_left_level : (p : Problem) (at : List Mark) (attr k unit own : ℕ) (by : RowName → ℤ) → IsWhole p → IsCorner p at → IsFree p attr → k < 1001 → IsLevelRow p at k unit own by → IsLevelRow (without_attr attr p) at k unit own by
attr_left_level p at attr k unit own by whole corner free below is =
    let none : by (StayOf attr) ≡ pos 0 = stay_none p attr by whole free (is.cancel attr) in
    record {
      own_positive = is.own_positive;
      cancel = λ v. sym (attr_sum by v attr p none) ∙ is.cancel v;
      under = All-from_recursion (λ l. IsIn (place_of l.name Under) at → by l.name ≡ pos (own * under_share unit k l)) (lines (without_attr attr p))
          (lines-left (λ l. IsIn (place_of l.name Under) at → by l.name ≡ pos (own * under_share unit k l)) k attr p below
          (λ i j s a b h inside. h inside ∙ ap (λ (w : ℕ). pos (own * under_weight Eq (unit * w / 1))) (same-weight i j k s a b))
          (recursion_from_All (λ l. IsIn (place_of l.name Under) at → by l.name ≡ pos (own * under_share unit k l)) (lines p) is.under));
      over = All-from_recursion (λ l. IsIn (place_of l.name Over) at → by l.name ≡ neg_ℤ (pos (own * over_share unit k l))) (lines (without_attr attr p))
          (lines-left (λ l. IsIn (place_of l.name Over) at → by l.name ≡ neg_ℤ (pos (own * over_share unit k l))) k attr p below
          (λ i j s a b h inside. h inside ∙ ap (λ (w : ℕ). neg_ℤ (pos (own * over_weight Eq (unit * w / 1)))) (same-weight i j k s a b))
          (recursion_from_All (λ l. IsIn (place_of l.name Over) at → by l.name ≡ neg_ℤ (pos (own * over_share unit k l))) (lines p) is.over));
      lowest = λ q divides all. is.lowest q divides
          (All-from_recursion (λ l. (IsIn (place_of l.name Under) at → ⊥) → (IsIn (place_of l.name Over) at → ⊥) → q ∣ unsigned_abs (by l.name)) (lines p)
          (lines-back (λ l. (IsIn (place_of l.name Under) at → ⊥) → (IsIn (place_of l.name Over) at → ⊥) → q ∣ unsigned_abs (by l.name)) k attr p below (λ i j s a b h. h)
          (λ i s e above u o. subst (λ (z : ℤ). q ∣ unsigned_abs z) (sym (ap (λ (a : ℕ). by (StayOf a)) e ∙ none)) (dvd-zero q))
          (recursion_from_All (λ l. (IsIn (place_of l.name Under) at → ⊥) → (IsIn (place_of l.name Over) at → ⊥) → q ∣ unsigned_abs (by l.name)) (lines (without_attr attr p)) all)));
    }

-- ---- the cost

stays-product : (n : ℕ) (stays : List Stay) → product_of (λ (l : Line). l.scale) (stay_lines n stays) ≡ 1
stays-product n [] = refl
stays-product n (s ∷ stays) = let e = stays-product (n + 1) stays in omega (arith, e)

rows-product : (rows : List Row) (ls ms : List Line) → product_of (λ (l : Line). l.scale) ls ≡ product_of (λ (l : Line). l.scale) ms → product_of (λ (l : Line). l.scale) (map line_of_row rows ++ ls) ≡ product_of (λ (l : Line). l.scale) (map line_of_row rows ++ ms)
rows-product [] ls ms e = e
rows-product (r ∷ rows) ls ms e = ap (λ (n : ℕ). r.scale * n) (rows-product rows ls ms e)

same-scales : (attr : ℕ) (p : Problem) → scales (without_attr attr p) ≡ scales p
same-scales attr p =
    rows-product p.rows (stay_lines 1001 (filter (other_stay attr) p.stays)) (stay_lines 1001 p.stays)
    (stays-product 1001 (filter (other_stay attr) p.stays) ∙ sym (stays-product 1001 p.stays))

same-cost : (p : Problem) (attr k : ℕ) (x : ℕ → ℤ) → k < 1001 → cost_at (without_attr attr p) k x ≡ cost_at p k x
same-cost p attr k x below =
    ap (λ (n : ℕ). sum_of (λ l. pos (n / l.scale) *ℤ line_cost k x l) (lines (without_attr attr p))) (same-scales attr p)
    ∙ rows-sum (λ l. pos (scales p / l.scale) *ℤ line_cost k x l) p.rows (stay_lines 1001 (filter (other_stay attr) p.stays)) (stay_lines 1001 p.stays)
    (stays-cost (scales p) k 1001 x (filter (other_stay attr) p.stays) below ∙ sym (stays-cost (scales p) k 1001 x p.stays below))

pub attr_left_cost : (p : Problem) (at : List Mark) (attr k : ℕ) (f : Fraction) → IsWhole p → IsCorner p at → IsFree p attr → k < 1001 → IsCostAt p at k f → IsCostAt (without_attr attr p) at k f
attr_left_cost p at attr k f whole corner free below (x, stands, e) = (
  x,
  still-stands p at attr x stands,
  ap (λ (z : ℤ). z *ℤ pos f.den) (same-cost p attr k x.num below) ∙ e ∙ ap (λ (n : ℕ). f.num *ℤ (pos n *ℤ x.num one_column)) (sym (same-scales attr p)),
)
