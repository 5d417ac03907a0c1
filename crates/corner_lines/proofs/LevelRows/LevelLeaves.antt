-- How a row leaves the row of its level.
use Rattle.std.proofs.Common.{◌≡◌, ◌≢◌, ◌∙◌, ℕ, ◌*◌, ◌<◌, List, ℤ, pos, ◌+ℤ◌, ◌-ℤ◌, ◌*ℤ◌, neg_ℤ, sym, ap, subst, arith, inl, inr, All, mul-pos}
use Rattle.std.specs.List.{AllByRecursion as Each}
use Rattle.std.specs.Int.{◌∣◌}
use Rattle.std.proofs.lemmas.Bool.{cases_eq}
use Rattle.std.proofs.lemmas.List.Elements.{All-from_recursion, recursion_from_All}
use borrow.Author.Differences.{ints}
use Rattle.problem_core.specs.declared.parts.Mark.{Mark}
use Rattle.problem_core.specs.declared.parts.Side.{Side}
use Rattle.problem_core.specs.declared.parts.Side.TheVariants.{Under, Over}
use Rattle.problem_core.specs.declared.parts.RowName.{RowName}
use Rattle.problem_core.specs.Layout.{Line, Problem, coefficient, lines}
use Rattle.problem_core.specs.Certificates.{weight_at}
use Rattle.problem_core.specs.Corners.{IsIn, place_of}
use Rattle.problem_core.proofs.Forms.{each-impl, each-both}
use Rattle.corner_laws.specs.Units.{over_share, under_share}
use Rattle.corner_laws.proofs.LevelCosts.Unique.{same-name}
use Rattle.corner_lines.specs.LineEquations.{IsOutsideLine}
use Rattle.corner_lines.specs.Levels.LevelRows.{inside_number, sum_by}
use Rattle.corner_lines.specs.Levels.LevelJoins.{IsLevelLeave, IsLineBefore, LeftRowIsMultiple, LeftRowIsRow, ShrunkRowIsRow, weightless}
use Rattle.corner_lines.proofs.Lines.LineSums.{both-cancel}
use Rattle.corner_lines.proofs.LevelRows.LevelDivided.{divided-same, divided_row_is_row}
use Rattle.corner_lines.proofs.LevelRows.LevelExchanges.{entered, inside-numbers, kept, pivot-zeros, times-inside}
use Rattle.corner_lines.proofs.LevelRows.LevelJoins.{each-after, free-number, grown-over, grown-under, sum-before, weightless-none}

-- what is known of a line with its weight
record With (at : List Mark) (name : RowName) (side : Side) (level unit own : ℕ) (by number : RowName → ℤ) (n : ℤ) (m : Line) : Type 0 where
  inside : (x : Side) → IsIn (place_of m.name x) at → by m.name ≡ inside_number x level unit own m
  outside : IsOutsideLine at m.name → by m.name ≡ number m.name
  leaving : m.name ≡ name → n ≡ inside_number side level unit own m

-- and without
record Without (at : List Mark) (name : RowName) (level unit own : ℕ) (by number : RowName → ℤ) (n : ℤ) (l : Line) : Type 0 where
  inside : (x : Side) → IsIn (place_of l.name x) at → l.name ≢ name → by l.name ≡ inside_number x level unit own l
  outside : IsOutsideLine at l.name → by l.name ≡ number l.name
  leaving : (x : Side) → IsIn (place_of l.name x) at → l.name ≡ name → n ≡ by l.name -ℤ inside_number x level unit own l

all-left : (y n i j : ℤ) → y ≡ i → n ≡ i → j ≡ pos 0 → n ≡ y -ℤ j
all-left y n i j e f h = omega (arith, ints, e, f, h)

without-weight : (at : List Mark) (name : RowName) (side : Side) (level unit own : ℕ) (by number : RowName → ℤ) (n : ℤ) (l m : Line) → ((x : Side) → IsIn (place_of name x) at → x ≡ side) → IsLineBefore name l m → With at name side level unit own by number n m → Without at name level unit own by number n l
without-weight at name side level unit own by number n l m only (inl e) w =
    subst (Without at name level unit own by number n) (sym e.0) (record { inside = λ x i ne. w.inside x i; outside = w.outside; leaving = λ x i is. absurd (e.1 is) })
without-weight at name side level unit own by number n l m only (inr e) w =
    subst (Without at name level unit own by number n) (sym e.0)
    (record {
      inside = λ x i ne. absurd (ne e.1);
      outside = w.outside;
      leaving = λ x i is.
          let one : x ≡ side = only x (subst (λ (a : RowName). IsIn (place_of a x) at) is i) in
          all-left (by m.name) n (inside_number x level unit own m) (inside_number x level unit own (weightless m)) (w.inside x i) (w.leaving e.1 ∙ ap (λ (s : Side). inside_number s level unit own m) (sym one)) (free-number x level unit own (weightless m) (weightless-none level m));
    })

all-without : (p q : Problem) (at : List Mark) (level unit own : ℕ) (number : RowName → ℤ) (name : RowName) (side : Side) (size : ℕ) (line : RowName → ℤ) (n : ℤ) (leave : IsLevelLeave p q at level unit own number name side size line)
    → All (λ l. l.name ≡ name → n ≡ inside_number side level unit own l) (lines p) → Each (Without at name level unit own leave.row.by number n) (lines q)
all-without p q at level unit own number name side size line n leave counts =
    each-after name (Without at name level unit own leave.row.by number n) (With at name side level unit own leave.row.by number n) (lines q) (lines p)
    (λ l m b w. without-weight at name side level unit own leave.row.by number n l m leave.no_other b w) leave.before
    (each-impl (λ l. (((x : Side) → IsIn (place_of l.name x) at → leave.row.by l.name ≡ inside_number x level unit own l) × (IsOutsideLine at l.name → leave.row.by l.name ≡ number l.name)) × (l.name ≡ name → n ≡ inside_number side level unit own l)) _ (lines p)
    (λ l h. record { inside = h.0.0; outside = h.0.1; leaving = h.1 })
    (each-both _ _ (lines p) (each-both _ _ (lines p) (inside-numbers p at level unit own leave.row.by leave.row.row) (recursion_from_All _ (lines p) leave.row.outside)) (recursion_from_All _ (lines p) counts)))

left-inside : (at : List Mark) (name : RowName) (level unit own size k : ℕ) (by number line : RowName → ℤ) (n m : ℤ) (l : Line) (x : Side) → line name ≡ neg_ℤ (pos size) → m *ℤ pos size ≡ n *ℤ pos k → Without at name level unit own by number n l
    → ((x : Side) → IsIn (place_of l.name x) at → l.name ≢ name → line l.name ≡ pos 0) → IsIn (place_of l.name x) at → sum_by k by m line l.name ≡ inside_number x level unit (k * own) l
left-inside at name level unit own size k by number line n m l x is same w nils i =
    (elim (cases_eq (place_of l.name Under) (place_of name Under)) [
      | inl e ↦
          let own_name : l.name ≡ name = same-name l.name name e in
          entered size k (by l.name) n m (line l.name) (inside_number x level unit own l) (ap line own_name ∙ is) (w.leaving x i own_name) same
      | inr ne ↦
          let not_own : l.name ≢ name = λ e. ne (ap (λ (a : RowName). place_of a Under) e) in
          kept k (by l.name) m (line l.name) (inside_number x level unit own l) (nils x i not_own) (w.inside x i not_own)
    ])
    ∙ times-inside x level unit own k l

same-part : (name : RowName) (y : RowName → ℤ) (v : ℕ) (l m : Line) → IsLineBefore name l m → y l.name *ℤ coefficient v l.form ≡ y m.name *ℤ coefficient v m.form
same-part name y v l m (inl e) = ap (λ (k : Line). y k.name *ℤ coefficient v k.form) e.0
same-part name y v l m (inr e) = ap (λ (k : Line). y k.name *ℤ coefficient v k.form) e.0

pub left_row_is_multiple : LeftRowIsMultiple
left_row_is_multiple p q at level unit own number name side size k line n m leave counts f =
    let without = all-without p q at level unit own number name side size line n leave counts in
    let known = each-both _ _ (lines q) without (pivot-zeros q at name name size line leave.line_is) in (
      sum_by k leave.row.by m line,
      record {
        own_positive = mul-pos f.above leave.row.row.own_positive;
        cancel = both-cancel q (pos k) m leave.row.by line
            (λ v. sum-before name (λ l. leave.row.by l.name *ℤ coefficient v l.form) (λ l. leave.row.by l.name *ℤ coefficient v l.form) (lines q) (lines p) (λ l m b. same-part name leave.row.by v l m b) leave.before ∙ leave.row.row.cancel v)
            leave.line_is.cancel;
        under = All-from_recursion (λ l. IsIn (place_of l.name Under) at → sum_by k leave.row.by m line l.name ≡ pos (k * own * under_share unit level l)) (lines q)
            (each-impl _ _ (lines q) (λ l h i. left-inside at name level unit own size k leave.row.by number line n m l Under leave.line_is.enter_is f.same h.0 h.1 i) known);
        over = All-from_recursion (λ l. IsIn (place_of l.name Over) at → sum_by k leave.row.by m line l.name ≡ neg_ℤ (pos (k * own * over_share unit level l))) (lines q)
            (each-impl _ _ (lines q) (λ l h i. left-inside at name level unit own size k leave.row.by number line n m l Over leave.line_is.enter_is f.same h.0 h.1 i) known);
      },
      All-from_recursion (λ l. IsOutsideLine at l.name → sum_by k leave.row.by m line l.name ≡ sum_by k number m line l.name) (lines q)
          (each-impl (Without at name level unit own leave.row.by number n) _ (lines q) (λ l w out. ap (λ (z : ℤ). pos k *ℤ z +ℤ m *ℤ line l.name) (w.outside out)) without),
    )

pub left_row_is_row : LeftRowIsRow
left_row_is_row p q at level unit own number name side size k low line next n m leave counts f d =
    let is = left_row_is_multiple p q at level unit own number name side size k line n m leave counts f in
    divided_row_is_row q at level unit (k * own) low is.0 next is.1 (divided-same q at (k * own) low (sum_by k number m line) is.0 next is.2 d)

-- ---- a unit that shrinks

pub moved-factor : (own t u w : ℕ) → w ≡ t * u → own * w ≡ own * t * u
moved-factor own t u w e = ap (λ (n : ℕ). own * n) e ∙ omega arith

pub shrunk_row_is_row : ShrunkRowIsRow
shrunk_row_is_row p at level unit own t low number next problem is above h d =
    let known : Each (λ l. ((0 < l.scale) × (0 < l.den)) × (l.scale ∣ unit * weight_at l level)) (lines p) = each-both _ _ (lines p) (recursion_from_All _ (lines p) problem) (recursion_from_All _ (lines p) is.whole) in
    divided_row_is_row p at level unit (own * t) low h.by next
    (record {
      own_positive = mul-pos h.row.own_positive above;
      cancel = h.row.cancel;
      under = All-from_recursion (λ l. IsIn (place_of l.name Under) at → h.by l.name ≡ pos (own * t * under_share unit level l)) (lines p)
          (each-impl (λ l. (((0 < l.scale) × (0 < l.den)) × (l.scale ∣ unit * weight_at l level)) × (IsIn (place_of l.name Under) at → h.by l.name ≡ pos (own * under_share (t * unit) level l))) _ (lines p)
          (λ l k i. k.1 i ∙ ap pos (moved-factor own t (under_share unit level l) (under_share (t * unit) level l) (grown-under t unit level l k.0.0.0 k.0.1)))
          (each-both _ _ (lines p) known (recursion_from_All _ (lines p) h.row.under)));
      over = All-from_recursion (λ l. IsIn (place_of l.name Over) at → h.by l.name ≡ neg_ℤ (pos (own * t * over_share unit level l))) (lines p)
          (each-impl (λ l. (((0 < l.scale) × (0 < l.den)) × (l.scale ∣ unit * weight_at l level)) × (IsIn (place_of l.name Over) at → h.by l.name ≡ neg_ℤ (pos (own * over_share (t * unit) level l)))) _ (lines p)
          (λ l k i. k.1 i ∙ ap (λ (n : ℕ). neg_ℤ (pos n)) (moved-factor own t (over_share unit level l) (over_share (t * unit) level l) (grown-over t unit level l k.0.0.0 k.0.1)))
          (each-both _ _ (lines p) known (recursion_from_All _ (lines p) h.row.over)));
    })
    (divided-same p at (own * t) low number h.by next h.outside d)
