-- After an exchange a level's row and the pivot give the level's row.
use Rattle.std.proofs.Common.{◌≡◌, ◌≢◌, ◌∙◌, ℕ, zero, ◌*◌, Bool, cond, List, [], ℤ, pos, ◌+ℤ◌, ◌-ℤ◌, ◌*ℤ◌, neg_ℤ, unsigned_abs, refl, sym, ap, ap₂, subst, arith, inl, inr, All, mul-pos, eq-eqb, ne_eqb}
use Rattle.std.specs.List.{AllByRecursion as Each}
use Rattle.std.specs.Int.{◌∣◌}
use Rattle.std.proofs.Math.Nat.{dvd-mul_right_of_dvd}
use Rattle.frac_core.proofs.Signs.{unsigned_abs-neg}
use Rattle.std.proofs.lemmas.Bool.{cases_eq}
use Rattle.std.proofs.lemmas.List.Elements.{All-from_recursion, recursion_from_All}
use lib.IntN.{*ℤ_comm}
use borrow.Author.Differences.{ints}
use Rattle.frac_core.proofs.Integers.{mul-sub_left, mul-zero_ℤ, zero-mul_ℤ}
use Rattle.problem_core.specs.declared.parts.Mark.{Mark}
use Rattle.problem_core.specs.declared.parts.Side.{Side}
use Rattle.problem_core.specs.declared.parts.Side.TheVariants.{Under, Over}
use Rattle.problem_core.specs.declared.parts.RowName.{RowName}
use Rattle.problem_core.specs.Layout.{Line, Problem, lines}
use Rattle.problem_core.specs.Kept.{IsWhole}
use Rattle.problem_core.specs.Corners.{IsCorner, IsExchange, IsIn, Swap, exchanged, place, place_of}
use Rattle.problem_core.proofs.Forms.{each-impl, each-both}
use Rattle.corner_laws.specs.Units.{IsLevelRow, over_share, under_share}
use Rattle.corner_laws.proofs.Counting.{IsSmall, one_mark, sides_apart}
use Rattle.corner_laws.proofs.MarkWritings.Directions.{each-of}
use Rattle.corner_laws.proofs.Exchanged.{exchanged_in}
use Rattle.corner_laws.proofs.LevelCosts.Unique.{same-name}
use Rattle.corner_lines.proofs.Lines.LineSums.{both-cancel}
use Rattle.corner_lines.proofs.LevelRows.LevelDivided.{divided-same, divided_row_is_row}
use Rattle.corner_lines.specs.LineEquations.{IsOutsideLine}
use Rattle.corner_lines.specs.Levels.LevelRows.{AreFactors, ExchangedRowIsMultiple, ExchangedRowIsRow, HasLevelRow, IsEnteringNumber, IsTurningNumber, IsLevelMultiple, IsPivot, TurnedRowIsMultiple, TurnedRowIsRow, UntouchedRowStays, exchanged_sum, inside_number, sum_by}
use Rattle.corner_laws.proofs.LevelCosts.StayLevels.{same-over}
use Rattle.corner_lines.proofs.Lines.LineWritings.{all-small}
use Rattle.problem_core.proofs.Marks.{entered-in as exchanged_has, kept-in as kept_in}
use Rattle.frac_core.proofs.Numbers.{mul-neg as mul-opp}

-- ---- numbers

-- k*y + m*e, where y less n is what the line counts
pub entered : (size k : ℕ) (y n m e i : ℤ) → e ≡ neg_ℤ (pos size) → n ≡ y -ℤ i → m *ℤ pos size ≡ n *ℤ pos k → pos k *ℤ y +ℤ m *ℤ e ≡ pos k *ℤ i
entered size k y n m e i is h same =
    let a : m *ℤ e ≡ neg_ℤ (m *ℤ pos size) = ap (λ (z : ℤ). m *ℤ z) is ∙ mul-opp m (pos size) in
    let b : n *ℤ pos k ≡ pos k *ℤ y -ℤ pos k *ℤ i = *ℤ_comm n (pos k) ∙ ap (λ (z : ℤ). pos k *ℤ z) h ∙ mul-sub_left (pos k) y i in
    omega (arith, ints, a, b, same)

pub kept : (k : ℕ) (y m e i : ℤ) → e ≡ pos 0 → y ≡ i → pos k *ℤ y +ℤ m *ℤ e ≡ pos k *ℤ i
kept k y m e i is h =
    let a : m *ℤ e ≡ pos 0 = ap (λ (z : ℤ). m *ℤ z) is ∙ mul-zero_ℤ m in
    let b : pos k *ℤ y ≡ pos k *ℤ i = ap (λ (z : ℤ). pos k *ℤ z) h in
    omega (arith, ints, a, b)

pub times-under : (k own u : ℕ) → pos k *ℤ pos (own * u) ≡ pos (k * own * u)
times-under k own u = ap pos (omega arith)

pub times-over : (k own u : ℕ) → pos k *ℤ neg_ℤ (pos (own * u)) ≡ neg_ℤ (pos (k * own * u))
times-over k own u = mul-opp (pos k) (pos (own * u)) ∙ ap neg_ℤ (times-under k own u)

-- k times what a line counts
pub times-inside : (side : Side) (level unit own k : ℕ) (l : Line) → pos k *ℤ inside_number side level unit own l ≡ inside_number side level unit (k * own) l
times-inside Under level unit own k l = times-under k own (under_share unit level l)
times-inside Over level unit own k l = times-over k own (over_share unit level l)

-- ---- a line's mark that is inside after the exchange

pub by-sides : (a b : RowName) (x y : Side) → place_of a x ≡ place_of b y → (a ≡ b) × (x ≡ y)
by-sides a b Under Under e = (same-name a b e, refl)
by-sides a b Over Over e = (same-over a b e, refl)
by-sides a b Under Over e = absurd (sides_apart b a (sym e))
by-sides a b Over Under e = absurd (sides_apart a b e)

pub two-marks : (p : Problem) (at : List Mark) (name : RowName) (x y : Side) → IsSmall name → IsCorner p at → IsIn (place_of name x) at → IsIn (place_of name y) at → x ≢ y → ⊥
two-marks p at name Under Under small corner i j ne = ne refl
two-marks p at name Over Over small corner i j ne = ne refl
two-marks p at name Under Over small corner i j ne = one_mark p at name small corner i j
two-marks p at name Over Under small corner i j ne = one_mark p at name small corner j i

-- a line that has a mark inside besides the leaving mark is another line
not-leaving : (p : Problem) (at : List Mark) (s : Swap) (l : Line) (side : Side) → IsSmall l.name → IsCorner p at → IsIn (place s.leave) at → IsIn (place_of l.name side) at → place_of l.name side ≢ place s.leave → l.name ≢ s.leave.row
not-leaving p at s l side small corner leaves i ne e = two-marks p at l.name side s.leave.side small corner i (subst (λ (n : RowName). IsIn (place_of n s.leave.side) at) (sym e) leaves) (λ same. ne (ap₂ place_of e same))

-- what is known of a line
record Known (at : List Mark) (s : Swap) (level unit own : ℕ) (by pivot : RowName → ℤ) (n : ℤ) (l : Line) : Type 0 where
  small : IsSmall l.name
  inside : (side : Side) → IsIn (place_of l.name side) at → by l.name ≡ inside_number side level unit own l
  zero : (side : Side) → IsIn (place_of l.name side) at → l.name ≢ s.leave.row → pivot l.name ≡ pos 0
  change : l.name ≡ s.enter.row → n ≡ by l.name -ℤ inside_number s.enter.side level unit own l

by-side : (at : List Mark) (level unit own : ℕ) (by : RowName → ℤ) (l : Line) → (IsIn (place_of l.name Under) at → by l.name ≡ pos (own * under_share unit level l)) → (IsIn (place_of l.name Over) at → by l.name ≡ neg_ℤ (pos (own * over_share unit level l)))
    → (side : Side) → IsIn (place_of l.name side) at → by l.name ≡ inside_number side level unit own l
by-side at level unit own by l u o Under i = u i
by-side at level unit own by l u o Over i = o i

zero-side : (at : List Mark) (leave : RowName) (pivot : RowName → ℤ) (l : Line) → (IsIn (place_of l.name Under) at → l.name ≢ leave → pivot l.name ≡ pos 0) → (IsIn (place_of l.name Over) at → l.name ≢ leave → pivot l.name ≡ pos 0)
    → (side : Side) → IsIn (place_of l.name side) at → l.name ≢ leave → pivot l.name ≡ pos 0
zero-side at leave pivot l u o Under i ne = u i ne
zero-side at leave pivot l u o Over i ne = o i ne

pub inside-numbers : (p : Problem) (at : List Mark) (level unit own : ℕ) (by : RowName → ℤ) → IsLevelRow p at level unit own by → Each (λ l. (side : Side) → IsIn (place_of l.name side) at → by l.name ≡ inside_number side level unit own l) (lines p)
inside-numbers p at level unit own by row =
    each-impl (λ l. (IsIn (place_of l.name Under) at → by l.name ≡ pos (own * under_share unit level l)) × (IsIn (place_of l.name Over) at → by l.name ≡ neg_ℤ (pos (own * over_share unit level l)))) _ (lines p)
    (λ l h side i. by-side at level unit own by l h.0 h.1 side i)
    (each-both _ _ (lines p) (recursion_from_All _ (lines p) row.under) (recursion_from_All _ (lines p) row.over))

pub multiple-numbers : (p : Problem) (at : List Mark) (level unit own : ℕ) (by : RowName → ℤ) → IsLevelMultiple p at level unit own by → Each (λ l. (side : Side) → IsIn (place_of l.name side) at → by l.name ≡ inside_number side level unit own l) (lines p)
multiple-numbers p at level unit own by row =
    each-impl (λ l. (IsIn (place_of l.name Under) at → by l.name ≡ pos (own * under_share unit level l)) × (IsIn (place_of l.name Over) at → by l.name ≡ neg_ℤ (pos (own * over_share unit level l)))) _ (lines p)
    (λ l h side i. by-side at level unit own by l h.0 h.1 side i)
    (each-both _ _ (lines p) (recursion_from_All _ (lines p) row.under) (recursion_from_All _ (lines p) row.over))

pub pivot-zeros : (p : Problem) (at : List Mark) (enter leave : RowName) (size : ℕ) (pivot : RowName → ℤ) → IsPivot p at enter leave size pivot → Each (λ l. (side : Side) → IsIn (place_of l.name side) at → l.name ≢ leave → pivot l.name ≡ pos 0) (lines p)
pivot-zeros p at enter leave size pivot pi =
    each-impl (λ l. (IsIn (place_of l.name Under) at → l.name ≢ leave → pivot l.name ≡ pos 0) × (IsIn (place_of l.name Over) at → l.name ≢ leave → pivot l.name ≡ pos 0)) _ (lines p)
    (λ l h side i ne. zero-side at leave pivot l h.0 h.1 side i ne)
    (each-both _ _ (lines p) (recursion_from_All _ (lines p) (pi.inside_zero Under)) (recursion_from_All _ (lines p) (pi.inside_zero Over)))

-- the number of a line whose mark is inside after the exchange
after : (p : Problem) (at : List Mark) (s : Swap) (level unit own size k : ℕ) (by pivot : RowName → ℤ) (n m : ℤ) (l : Line) (side : Side) → IsCorner p at → IsIn (place s.leave) at → pivot s.enter.row ≡ neg_ℤ (pos size) → m *ℤ pos size ≡ n *ℤ pos k
    → Known at s level unit own by pivot n l → IsIn (place_of l.name side) (exchanged s at) → sum_by k by m pivot l.name ≡ inside_number side level unit (k * own) l
after p at s level unit own size k by pivot n m l side corner leaves enters same known i =
    (elim (exchanged_in s at (place_of l.name side) i) [
      | inl e ↦
          let is = by-sides l.name s.enter.row side s.enter.side e in
          entered size k (by l.name) n m (pivot l.name) (inside_number side level unit own l) (ap pivot is.0 ∙ enters) (subst (λ (x : Side). n ≡ by l.name -ℤ inside_number x level unit own l) (sym is.1) (known.change is.0)) same
      | inr r ↦ kept k (by l.name) m (pivot l.name) (inside_number side level unit own l) (known.zero side r.0 (not-leaving p at s l side known.small corner leaves r.0 r.1)) (known.inside side r.0)
    ])
    ∙ times-inside side level unit own k l

-- after an exchange or a turn, where n is what the entering line's number in the row changes by
pub exchanged-multiple : (p : Problem) (at : List Mark) (s : Swap) (level unit own size k : ℕ) (by pivot : RowName → ℤ) (n m : ℤ) → IsWhole p → IsCorner p at → IsExchange p at s → IsLevelRow p at level unit own by → IsPivot p at s.enter.row s.leave.row size pivot
    → Each (λ l. l.name ≡ s.enter.row → n ≡ by l.name -ℤ inside_number s.enter.side level unit own l) (lines p) → AreFactors size n k m → IsLevelMultiple p (exchanged s at) level unit (k * own) (sum_by k by m pivot)
exchanged-multiple p at s level unit own size k by pivot n m whole corner exchange row pi changes f =
    let known : Each (Known at s level unit own by pivot n) (lines p) =
    each-impl (λ l. (IsSmall l.name × (l.name ≡ s.enter.row → n ≡ by l.name -ℤ inside_number s.enter.side level unit own l))
    × (((side : Side) → IsIn (place_of l.name side) at → by l.name ≡ inside_number side level unit own l) × ((side : Side) → IsIn (place_of l.name side) at → l.name ≢ s.leave.row → pivot l.name ≡ pos 0))) _ (lines p)
    (λ l h. record { small = h.0.0; inside = h.1.0; zero = h.1.1; change = h.0.1 })
    (each-both _ _ (lines p) (each-both _ _ (lines p) (all-small p whole) changes)
    (each-both _ _ (lines p) (inside-numbers p at level unit own by row) (pivot-zeros p at s.enter.row s.leave.row size pivot pi))) in
    record {
      own_positive = mul-pos f.above row.own_positive;
      cancel = both-cancel p (pos k) m by pivot row.cancel pi.cancel;
      under = All-from_recursion (λ l. IsIn (place_of l.name Under) (exchanged s at) → sum_by k by m pivot l.name ≡ pos (k * own * under_share unit level l)) (lines p)
          (each-impl (Known at s level unit own by pivot n) _ (lines p) (λ l h i. after p at s level unit own size k by pivot n m l Under corner exchange.leaves pi.enter_is f.same h i) known);
      over = All-from_recursion (λ l. IsIn (place_of l.name Over) (exchanged s at) → sum_by k by m pivot l.name ≡ neg_ℤ (pos (k * own * over_share unit level l))) (lines p)
          (each-impl (Known at s level unit own by pivot n) _ (lines p) (λ l h i. after p at s level unit own size k by pivot n m l Over corner exchange.leaves pi.enter_is f.same h i) known);
    }

-- ---- the outside lines

-- a line outside after the exchange was outside, or is the leaving line
pub was-outside : (s : Swap) (at : List Mark) (name : RowName) → IsOutsideLine (exchanged s at) name → name ≢ s.leave.row → IsOutsideLine at name
was-outside s at name out ne = record {
  under = λ i. out.under (kept_in s at (place_of name Under) i (λ e. ne (by-sides name s.leave.row Under s.leave.side e).0));
  over = λ i. out.over (kept_in s at (place_of name Over) i (λ e. ne (by-sides name s.leave.row Over s.leave.side e).0));
}

exchanged-here : (k : ℕ) (number : RowName → ℤ) (m : ℤ) (pivot : RowName → ℤ) (leave : RowName) (extra : ℤ) (name : RowName) → name ≡ leave → exchanged_sum k number m pivot leave extra name ≡ extra +ℤ m *ℤ pivot name
exchanged-here k number m pivot leave extra name e = ap (λ (b : Bool). cond b (extra +ℤ m *ℤ pivot name) (sum_by k number m pivot name)) (eq-eqb (place_of name Under) (place_of leave Under) (ap (λ (n : RowName). place_of n Under) e))

exchanged-there : (k : ℕ) (number : RowName → ℤ) (m : ℤ) (pivot : RowName → ℤ) (leave : RowName) (extra : ℤ) (name : RowName) → place_of name Under ≢ place_of leave Under → exchanged_sum k number m pivot leave extra name ≡ sum_by k number m pivot name
exchanged-there k number m pivot leave extra name ne = ap (λ (b : Bool). cond b (extra +ℤ m *ℤ pivot name) (sum_by k number m pivot name)) (ne_eqb (place_of name Under) (place_of leave Under) ne)

-- what is known of a line outside
record Outer (at : List Mark) (s : Swap) (level unit own k : ℕ) (by number : RowName → ℤ) (extra : ℤ) (l : Line) : Type 0 where
  outside : IsOutsideLine at l.name → by l.name ≡ number l.name
  inside : (side : Side) → IsIn (place_of l.name side) at → by l.name ≡ inside_number side level unit own l
  leaving : l.name ≡ s.leave.row → extra ≡ pos k *ℤ inside_number s.leave.side level unit own l

outer : (at : List Mark) (s : Swap) (level unit own k : ℕ) (by number pivot : RowName → ℤ) (m extra : ℤ) (l : Line) → IsIn (place s.leave) at → Outer at s level unit own k by number extra l → IsOutsideLine (exchanged s at) l.name → sum_by k by m pivot l.name ≡ exchanged_sum k number m pivot s.leave.row extra l.name
outer at s level unit own k by number pivot m extra l leaves known out =
    elim (cases_eq (place_of l.name Under) (place_of s.leave.row Under)) [
      | inl e ↦
          let is : l.name ≡ s.leave.row = same-name l.name s.leave.row e in
          let here : by l.name ≡ inside_number s.leave.side level unit own l = known.inside s.leave.side (subst (λ (n : RowName). IsIn (place_of n s.leave.side) at) (sym is) leaves) in
          ap (λ (z : ℤ). pos k *ℤ z +ℤ m *ℤ pivot l.name) here ∙ ap (λ (z : ℤ). z +ℤ m *ℤ pivot l.name) (sym (known.leaving is)) ∙ sym (exchanged-here k number m pivot s.leave.row extra l.name is)
      | inr ne ↦
          ap (λ (z : ℤ). pos k *ℤ z +ℤ m *ℤ pivot l.name) (known.outside (was-outside s at l.name out (λ e. ne (ap (λ (n : RowName). place_of n Under) e)))) ∙ sym (exchanged-there k number m pivot s.leave.row extra l.name ne)
    ]

-- the row's number of an outside line that enters
pub entering-number : (p : Problem) (at : List Mark) (enter : Mark) (level unit own : ℕ) (number : RowName → ℤ) (n : ℤ) (by : RowName → ℤ) → IsOutsideLine at enter.row → All (λ l. IsOutsideLine at l.name → by l.name ≡ number l.name) (lines p) → IsEnteringNumber p enter level unit own number n
    → Each (λ l. l.name ≡ enter.row → n ≡ by l.name -ℤ inside_number enter.side level unit own l) (lines p)
entering-number p at enter level unit own number n by out same is =
    each-impl (λ l. (IsOutsideLine at l.name → by l.name ≡ number l.name) × (l.name ≡ enter.row → n ≡ number l.name -ℤ inside_number enter.side level unit own l)) _ (lines p)
    (λ l h e. h.1 e ∙ ap (λ (z : ℤ). z -ℤ inside_number enter.side level unit own l) (sym (h.0 (subst (λ (n : RowName). IsOutsideLine at n) (sym e) out))))
    (each-both _ _ (lines p) (recursion_from_All _ (lines p) same) (recursion_from_All _ (lines p) is))

pub at-side : (side : Side) (marks : List Mark) (name : RowName) → IsOutsideLine marks name → IsIn (place_of name side) marks → ⊥
at-side Under marks name out i = out.under i
at-side Over marks name out i = out.over i

-- a line that is turned stays inside
turned-out : (s : Swap) (at : List Mark) (name : RowName) → s.enter.row ≡ s.leave.row → IsIn (place s.enter) (exchanged s at) → IsOutsideLine (exchanged s at) name → name ≢ s.leave.row
turned-out s at name one i out e = at-side s.enter.side (exchanged s at) name out (subst (λ (n : RowName). IsIn (place_of n s.enter.side) (exchanged s at)) (one ∙ sym e) i)

-- after an exchange
pub exchanged_row_is_multiple : ExchangedRowIsMultiple
exchanged_row_is_multiple p at s level unit own size k number pivot n m extra ex out enters leaving f = (
  sum_by k ex.row.by m pivot,
  exchanged-multiple p at s level unit own size k ex.row.by pivot n m ex.whole ex.corner ex.exchange ex.row.row ex.pivot_is (entering-number p at s.enter level unit own number n ex.row.by out ex.row.outside enters) f,
  All-from_recursion (λ l. IsOutsideLine (exchanged s at) l.name → sum_by k ex.row.by m pivot l.name ≡ exchanged_sum k number m pivot s.leave.row extra l.name) (lines p)
      (each-impl (λ l. ((IsOutsideLine at l.name → ex.row.by l.name ≡ number l.name) × (l.name ≡ s.leave.row → extra ≡ pos k *ℤ inside_number s.leave.side level unit own l)) × ((side : Side) → IsIn (place_of l.name side) at → ex.row.by l.name ≡ inside_number side level unit own l)) _ (lines p)
      (λ l h o. outer at s level unit own k ex.row.by number pivot m extra l ex.exchange.leaves (record { outside = h.0.0; inside = h.1; leaving = h.0.1 }) o)
      (each-both _ _ (lines p) (each-both _ _ (lines p) (recursion_from_All _ (lines p) ex.row.outside) (recursion_from_All _ (lines p) leaving)) (inside-numbers p at level unit own ex.row.by ex.row.row))),
)

pub exchanged_row_is_row : ExchangedRowIsRow
exchanged_row_is_row p at s level unit own size k low number pivot next n m extra ex out enters leaving f d =
    let is = exchanged_row_is_multiple p at s level unit own size k number pivot n m extra ex out enters leaving f in
    divided_row_is_row p (exchanged s at) level unit (k * own) low is.0 next is.1 (divided-same p (exchanged s at) (k * own) low (exchanged_sum k number m pivot s.leave.row extra) is.0 next is.2 d)

-- what a turned line's number changes by
pub turning-number : (p : Problem) (at : List Mark) (s : Swap) (level unit own : ℕ) (number : RowName → ℤ) (n : ℤ) (h : HasLevelRow p at level unit own number) → s.enter.row ≡ s.leave.row → IsIn (place s.leave) at → IsTurningNumber p s level unit own n
    → Each (λ l. l.name ≡ s.enter.row → n ≡ h.by l.name -ℤ inside_number s.enter.side level unit own l) (lines p)
turning-number p at s level unit own number n h one leaves turns =
    each-impl (λ l. (l.name ≡ s.leave.row → n ≡ inside_number s.leave.side level unit own l -ℤ inside_number s.enter.side level unit own l) × ((side : Side) → IsIn (place_of l.name side) at → h.by l.name ≡ inside_number side level unit own l)) _ (lines p)
    (λ l k e. k.0 (e ∙ one) ∙ ap (λ (z : ℤ). z -ℤ inside_number s.enter.side level unit own l) (sym (k.1 s.leave.side (subst (λ (n : RowName). IsIn (place_of n s.leave.side) at) (sym (e ∙ one)) leaves))))
    (each-both _ _ (lines p) (recursion_from_All _ (lines p) turns) (inside-numbers p at level unit own h.by h.row))

-- after a turn
pub turned_row_is_multiple : TurnedRowIsMultiple
turned_row_is_multiple p at s level unit own size k number line n m ex one turns f = (
  sum_by k ex.row.by m line,
  exchanged-multiple p at s level unit own size k ex.row.by line n m ex.whole ex.corner ex.exchange ex.row.row ex.pivot_is (turning-number p at s level unit own number n ex.row one ex.exchange.leaves turns) f,
  All-from_recursion (λ l. IsOutsideLine (exchanged s at) l.name → sum_by k ex.row.by m line l.name ≡ sum_by k number m line l.name) (lines p)
      (each-impl (λ l. IsOutsideLine at l.name → ex.row.by l.name ≡ number l.name) _ (lines p)
      (λ l h o. ap (λ (z : ℤ). pos k *ℤ z +ℤ m *ℤ line l.name) (h (was-outside s at l.name o (turned-out s at l.name one (exchanged_has s at ex.exchange.leaves) o))))
      (recursion_from_All _ (lines p) ex.row.outside)),
)

pub turned_row_is_row : TurnedRowIsRow
turned_row_is_row p at s level unit own size k low number line next n m ex one turns f d =
    let is = turned_row_is_multiple p at s level unit own size k number line n m ex one turns f in
    divided_row_is_row p (exchanged s at) level unit (k * own) low is.0 next is.1 (divided-same p (exchanged s at) (k * own) low (sum_by k number m line) is.0 next is.2 d)

-- ---- a level that is left alone

leave-nothing : (m e : ℤ) → m ≡ pos 0 → pos 0 +ℤ m *ℤ e ≡ pos 0
leave-nothing m e h = let a : m *ℤ e ≡ pos 0 = ap (λ (z : ℤ). z *ℤ e) h ∙ zero-mul_ℤ e in omega (arith, ints, a)

pub plain-sum : (y e : ℤ) → pos 1 *ℤ y +ℤ pos 0 *ℤ e ≡ y
plain-sum y e = let a = zero-mul_ℤ e in omega (arith, ints, a)

same-sum : (number pivot : RowName → ℤ) (leave name : RowName) → number leave ≡ pos 0 → exchanged_sum 1 number (pos 0) pivot leave (pos 0) name ≡ number name
same-sum number pivot leave name none =
    elim (cases_eq (place_of name Under) (place_of leave Under)) [
      | inl e ↦ exchanged-here 1 number (pos 0) pivot leave (pos 0) name (same-name name leave e) ∙ leave-nothing (pos 0) (pivot name) refl ∙ sym (ap number (same-name name leave e) ∙ none)
      | inr ne ↦ exchanged-there 1 number (pos 0) pivot leave (pos 0) name ne ∙ plain-sum (number name) (pivot name)
    ]

-- a line outside before is outside after, or it enters
pub left-outside : (s : Swap) (at : List Mark) (name : RowName) → IsOutsideLine at name → name ≢ s.enter.row → IsOutsideLine (exchanged s at) name
left-outside s at name out ne = record {
  under = λ i. elim (exchanged_in s at (place_of name Under) i) [
    | inl e ↦ ne (by-sides name s.enter.row Under s.enter.side e).0
    | inr r ↦ out.under r.0
  ];
  over = λ i. elim (exchanged_in s at (place_of name Over) i) [
    | inl e ↦ ne (by-sides name s.enter.row Over s.enter.side e).0
    | inr r ↦ out.over r.0
  ];
}

inside-divides : (side : Side) (level unit own k : ℕ) (l : Line) → k ∣ own → k ∣ unsigned_abs (inside_number side level unit own l)
inside-divides Under level unit own k l d = dvd-mul_right_of_dvd k d (under_share unit level l)
inside-divides Over level unit own k l d = subst (λ (n : ℕ). k ∣ n) (sym (unsigned_abs-neg (own * over_share unit level l))) (dvd-mul_right_of_dvd k d (over_share unit level l))

no-change : (y i : ℤ) → pos 0 ≡ y -ℤ i → y ≡ i
no-change y i e = omega (arith, ints, e)

pub untouched_row_stays : UntouchedRowStays
untouched_row_stays p at s level unit own size number pivot ex out enters leaving none =
    exchanged_row_is_row p at s level unit own size 1 own number pivot number (pos 0) (pos 0) (pos 0) ex out enters leaving
    (record { above = omega arith; same = zero-mul_ℤ (pos size) ∙ sym (zero-mul_ℤ (pos 1)) })
    (record {
      factor = 1;
      above = omega arith;
      own_is = refl;
      same = All-from_recursion (λ l. IsOutsideLine (exchanged s at) l.name → pos 1 *ℤ number l.name ≡ exchanged_sum 1 number (pos 0) pivot s.leave.row (pos 0) l.name) (lines p)
          (each-of (λ l. IsOutsideLine (exchanged s at) l.name → pos 1 *ℤ number l.name ≡ exchanged_sum 1 number (pos 0) pivot s.leave.row (pos 0) l.name) (lines p)
          (λ l o. (let h : pos 1 *ℤ number l.name ≡ number l.name = omega (arith, ints) in h) ∙ sym (same-sum number pivot s.leave.row l.name none)));
      lowest = λ k d each.
          ex.row.row.lowest k d
          (All-from_recursion (λ l. (IsIn (place_of l.name Under) at → ⊥) → (IsIn (place_of l.name Over) at → ⊥) → k ∣ unsigned_abs (ex.row.by l.name)) (lines p)
          (each-impl (λ l. ((IsOutsideLine at l.name → ex.row.by l.name ≡ number l.name) × (l.name ≡ s.enter.row → pos 0 ≡ number l.name -ℤ inside_number s.enter.side level unit own l)) × (IsOutsideLine (exchanged s at) l.name → k ∣ unsigned_abs (number l.name))) _ (lines p)
          (λ l h u o. subst (λ (z : ℤ). k ∣ unsigned_abs z) (sym (h.0.0 (record { under = u; over = o })))
          (elim (cases_eq (place_of l.name Under) (place_of s.enter.row Under)) [
            | inl e ↦ subst (λ (z : ℤ). k ∣ unsigned_abs z) (sym (no-change (number l.name) (inside_number s.enter.side level unit own l) (h.0.1 (same-name l.name s.enter.row e)))) (inside-divides s.enter.side level unit own k l d)
            | inr ne ↦ h.1 (left-outside s at l.name (record { under = u; over = o }) (λ e. ne (ap (λ (n : RowName). place_of n Under) e)))
          ]))
          (each-both _ _ (lines p) (each-both _ _ (lines p) (recursion_from_All _ (lines p) ex.row.outside) (recursion_from_All _ (lines p) enters)) (recursion_from_All _ (lines p) each))));
    })
