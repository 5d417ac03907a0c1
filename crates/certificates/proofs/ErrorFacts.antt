-- Errors and costs at a corner where no value is negative.
use Rattle.std.proofs.Common.{◌≡◌, ◌≢◌, ◌∙◌, ◌⊎◌, inl, inr, ℕ, zero, suc, ◌+◌, ◌*◌, ◌/◌, ◌<◌, Bool, true, false, cond, nat_eq, List, [], ◌∷◌, ◌++◌, map, ℤ, pos, negsuc, ◌+ℤ◌, ◌-ℤ◌, ◌*ℤ◌, neg_ℤ, ◌<ℤ◌, ◌≤ℤ◌, nat_abs, refl, sym, ap, ap₂, subst, arith, All, Any, Contains, one-mul}
use Rattle.std.specs.List.{AllByRecursion as Each}
use Rattle.std.proofs.lemmas.List.Elements.{All-from_recursion, recursion_from_All}
use lib.IntN.{*ℤ_comm}
use borrow.Author.Differences.{ints}
use Rattle.frac_core.specs.Fraction.{Fraction, IsRatio}
use Rattle.frac_core.proofs.Integers.{cancel_mul, mul_assoc_ℤ, mul-sub_left, mul-zero_ℤ}
use Rattle.problem_core.specs.declared.parts.Mark.{Mark}
use Rattle.problem_core.specs.declared.parts.Rel.{Rel}
use Rattle.problem_core.specs.declared.parts.Rel.TheVariants.{Eq, Le, Ge}
use Rattle.problem_core.specs.declared.parts.RowName.{RowName}
use Rattle.problem_core.specs.declared.parts.RowName.TheVariants.{Held}
use Rattle.problem_core.specs.declared.parts.Side.{Side}
use Rattle.problem_core.specs.declared.parts.Side.TheVariants.{Under, Over}
use Rattle.problem_core.specs.Layout.{Line, Problem, Row, above, below, common, cost, count_of, error, error_of, gap, line_of_row, lines, share, stay_lines, sum_of, value_at}
use Rattle.problem_core.specs.Kept.{IsRow, IsWhole}
use Rattle.problem_core.specs.Certificates.{over_weight, under_weight, weight_at}
use Rattle.problem_core.specs.Corners.{IsCorner, IsIn, NoNegativeValue, Point, StandsAt, assignment_at, equation, marks_of, one_column, place, place_of}
use Rattle.problem_core.specs.Levels.{IsCostAt, cost_at, line_cost, scales}
use Rattle.problem_core.proofs.Forms.{each-both, each-impl, product-positive, product-shares}
use Rattle.problem_core.proofs.Best.Midpoints.{cancel}
use Rattle.problem_core.proofs.Wholes.{whole-IsProblem}
use Rattle.corner_laws.proofs.Counting.{IsSmall, one_mark}
use Rattle.corner_laws.proofs.PathEnds.Ends.{all_up, both_marks, decided, line-gap-is as gap-there}
use Rattle.corner_laws.proofs.LevelCosts.Gaps.{shares}
use Rattle.corner_laws.proofs.LevelCosts.LevelExists.{cost_fixed}
use Rattle.corner_laws.proofs.MarkWritings.LowestForms.{marks_are_fixed}
use Rattle.corner_laws.proofs.ZeroColumns.{scales-above}
use Rattle.corner_view.specs.Seen.{HasValueAt}
use Rattle.certificates.specs.Errors.{IsErrorAt, IsLack, IsLevelCost}
use Rattle.certificates.proofs.Certified.{values_up}
use Rattle.corner_lines.proofs.Lines.LineWritings.{all-small as lines-small}
use Rattle.frac_core.proofs.Numbers.{zero-or-not, as-natural as above-zero}

-- ---- what a line lacks, by its deviations

abbrev pub lack : Rel → ℕ → ℕ → ℕ
lack Eq u o = u + o
lack Ge u o = u
lack Le u o = o

-- one of the two is 0
abbrev OneNone : ℕ → ℕ → Type 0
OneNone u o = (u ≡ 0) ⊎ (o ≡ 0)

over-gap : (d o : ℕ) → pos d *ℤ (pos o -ℤ pos 0) ≡ pos (d * o)
over-gap d o = ap (λ (z : ℤ). pos d *ℤ z) (let e : pos o -ℤ pos 0 ≡ pos o = omega (arith, ints) in e)

under-gap : (d u : ℕ) → pos d *ℤ (pos 0 -ℤ pos u) ≡ neg_ℤ (pos (d * u))
under-gap d u = mul-sub_left (pos d) (pos 0) (pos u) ∙ (let e : pos d *ℤ pos 0 ≡ pos 0 = mul-zero_ℤ (pos d) in omega (arith, ints, e))

below-neg : (n : ℕ) → below (neg_ℤ (pos n)) ≡ n
below-neg zero = refl
below-neg (suc n) = omega arith

above-neg : (n : ℕ) → above (neg_ℤ (pos n)) ≡ 0
above-neg zero = refl
above-neg (suc n) = refl

over-error : (rel : Rel) (d o : ℕ) → error_of rel (pos (d * o)) ≡ d * lack rel 0 o
over-error Eq d o = omega arith
over-error Ge d o = omega arith
over-error Le d o = omega arith

under-error : (rel : Rel) (d u : ℕ) → error_of rel (neg_ℤ (pos (d * u))) ≡ d * lack rel u 0
under-error Eq d u = ap₂ ◌+◌ (above-neg (d * u)) (below-neg (d * u)) ∙ (let e : 0 + d * u ≡ d * (u + 0) = omega arith in e)
under-error Ge d u = below-neg (d * u)
under-error Le d u = above-neg (d * u) ∙ (let e : 0 ≡ d * 0 = omega arith in e)

pub error_is : (rel : Rel) (d u o : ℕ) (g : ℤ) → OneNone u o → g ≡ pos d *ℤ (pos o -ℤ pos u) → error_of rel g ≡ d * lack rel u o
error_is rel d u o g (inl e) h =
    ap (error_of rel) (h ∙ ap (λ (n : ℕ). pos d *ℤ (pos o -ℤ pos n)) e ∙ over-gap d o) ∙ over-error rel d o ∙ ap (λ (n : ℕ). d * lack rel n o) (sym e)
error_is rel d u o g (inr e) h =
    ap (error_of rel) (h ∙ ap (λ (n : ℕ). pos d *ℤ (pos n -ℤ pos u)) e ∙ under-gap d u) ∙ under-error rel d u ∙ ap (λ (n : ℕ). d * lack rel u n) (sym e)

-- ---- the deviations of a line at a point that stands there

pub record Deviations (x : Point) (l : Line) : Type 0 where
  pub under : ℕ
  pub over : ℕ
  pub under_is : x.num (place_of l.name Under) ≡ pos under
  pub over_is : x.num (place_of l.name Over) ≡ pos over
  pub one : OneNone under over
  pub gap_is : gap (assignment_at x) l ≡ pos l.den *ℤ (pos over -ℤ pos under)

natural : (z : ℤ) → pos 0 ≤ℤ z → (n : ℕ) × (z ≡ pos n)
natural (pos n) h = (n, refl)
natural (negsuc n) h = absurd h.le

abbrev OutsideNone : Point → List Mark → RowName → Side → Type 0
OutsideNone x at name side = (IsIn (place_of name side) at → ⊥) → x.num (place_of name side) ≡ pos 0

none-of : (n : ℕ) (z : ℤ) → z ≡ pos n → z ≡ pos 0 → n ≡ 0
none-of n z e h = omega (arith, ints, e, h)

one-none : (p : Problem) (at : List Mark) (x : Point) (name : RowName) (u o : ℕ) → IsCorner p at → IsSmall name → OutsideNone x at name Under → OutsideNone x at name Over → x.num (place_of name Under) ≡ pos u → x.num (place_of name Over) ≡ pos o → OneNone u o
one-none p at x name u o corner small under over eu eo =
    elim (decided at (record { row = name; side = Under })) [
      | inl inside ↦ inr (none-of o (x.num (place_of name Over)) eo (over (λ also. one_mark p at name small corner inside also)))
      | inr outside ↦ inl (none-of u (x.num (place_of name Under)) eu (under outside))
    ]

abbrev Facts : Problem → List Mark → Point → Line → Type 0
Facts p at x l = IsSmall l.name × ((value_at x.num (equation l) ≡ pos 0) × (((pos 0 ≤ℤ x.num (place_of l.name Under)) × (pos 0 ≤ℤ x.num (place_of l.name Over)))
    × (OutsideNone x at l.name Under × OutsideNone x at l.name Over)))

deviations-of : (p : Problem) (at : List Mark) (x : Point) (l : Line) → IsCorner p at → Facts p at x l → Deviations x l
deviations-of p at x l corner (small, (solves, ((up, op), (under, over)))) =
    let u = natural (x.num (place_of l.name Under)) up in
    let o = natural (x.num (place_of l.name Over)) op in
    record {
      under = u.0;
      over = o.0;
      under_is = u.1;
      over_is = o.1;
      one = one-none p at x l.name u.0 o.0 corner small under over u.1 o.1;
      gap_is = gap-there x l solves ∙ ap₂ (λ (a b : ℤ). pos l.den *ℤ (a -ℤ b)) o.1 u.1;
    }

pub deviations : (p : Problem) (at : List Mark) (x : Point) → IsWhole p → IsCorner p at → NoNegativeValue p at → StandsAt p at x → Each (Deviations x) (lines p)
deviations p at x whole corner values stands =
    let up = all_up p at x stands (values_up p at x corner values stands) in
    each-impl (Facts p at x) (Deviations x) (lines p) (λ l h. deviations-of p at x l corner h)
    (each-both _ _ (lines p) (lines-small p whole)
    (each-both _ _ (lines p) (recursion_from_All (λ l. value_at x.num (equation l) ≡ pos 0) (lines p) stands.0)
    (each-both _ _ (lines p) (both_marks (λ v. pos 0 ≤ℤ x.num v) (lines p) (recursion_from_All (λ k. pos 0 ≤ℤ x.num (place k)) (marks_of (lines p)) up))
    (both_marks (λ v. (IsIn v at → ⊥) → x.num v ≡ pos 0) (lines p) (recursion_from_All (λ k. (IsIn (place k) at → ⊥) → x.num (place k) ≡ pos 0) (marks_of (lines p)) stands.1)))))

-- ---- a row's error

-- the deviation is the fraction
abbrev Is : ℕ → Fraction → ℤ → Type 0
Is n f one = pos n *ℤ pos f.den ≡ f.num *ℤ one

pub turned_value : (a b d n u v : ℤ) → pos 0 <ℤ v → a *ℤ v ≡ b *ℤ u → b *ℤ d ≡ n *ℤ v → a *ℤ d ≡ n *ℤ u
turned_value a b d n u v above e h =
    let c = above-zero v above in
    cancel_mul c.0 (a *ℤ d) (n *ℤ u) c.1
    (subst (λ (z : ℤ). z *ℤ (a *ℤ d) ≡ z *ℤ (n *ℤ u)) c.2
    (let s : v *ℤ (a *ℤ d) ≡ (a *ℤ v) *ℤ d = sym (mul_assoc_ℤ v a d) ∙ ap (λ (z : ℤ). z *ℤ d) (*ℤ_comm v a) in
    let t : (b *ℤ u) *ℤ d ≡ (b *ℤ d) *ℤ u = mul_assoc_ℤ b u d ∙ ap (λ (z : ℤ). b *ℤ z) (*ℤ_comm u d) ∙ sym (mul_assoc_ℤ b d u) in
    let r : (n *ℤ v) *ℤ u ≡ v *ℤ (n *ℤ u) = ap (λ (z : ℤ). z *ℤ u) (*ℤ_comm n v) ∙ mul_assoc_ℤ v n u in
    s ∙ ap (λ (z : ℤ). z *ℤ d) e ∙ t ∙ ap (λ (z : ℤ). z *ℤ u) h ∙ r))

-- the value of a mark at each point that stands there
mark-value : (p : Problem) (at : List Mark) (x : Point) (c : ℕ) (f : Fraction) → IsCorner p at → Contains (map place (marks_of (lines p))) c → StandsAt p at x → HasValueAt p at c f → x.num c *ℤ pos f.den ≡ f.num *ℤ x.num one_column
mark-value p at x c f corner mark stands (y, there, e) =
    turned_value (x.num c) (y.num c) (pos f.den) f.num (x.num one_column) (y.num one_column) y.positive (marks_are_fixed p at c corner mark x y stands there) e

nothing : (n : ℕ) (f : Fraction) (one : ℤ) → 0 < f.den → Is n f one → f.num ≡ pos 0 → n ≡ 0
nothing n f one above e h =
    let none : pos n *ℤ pos f.den ≡ pos 0 = e ∙ ap (λ (z : ℤ). z *ℤ one) h ∙ (let q = mul-zero_ℤ one in *ℤ_comm (pos 0) one ∙ q) in
    zero-left n f.den above (let m : n * f.den ≡ 0 = omega (arith, ints, none) in m)
  where
    zero-left : (a b : ℕ) → 0 < b → a * b ≡ 0 → a ≡ 0
    zero-left zero b h e = refl
    zero-left (suc a) b h e = absurd (omega (arith, h, e))

something : (n : ℕ) (f : Fraction) (one : ℤ) → pos 0 <ℤ one → Is n f one → f.num ≢ pos 0 → n ≢ 0
something n f one above e some none =
    let c = above-zero one above in
    let prod : pos c.0 *ℤ f.num ≡ pos 0 = ap (λ (z : ℤ). z *ℤ f.num) (sym c.2) ∙ *ℤ_comm one f.num ∙ sym e ∙ ap (λ (m : ℕ). pos m *ℤ pos f.den) none ∙ (let q : pos 0 *ℤ pos f.den ≡ pos 0 = *ℤ_comm (pos 0) (pos f.den) ∙ mul-zero_ℤ (pos f.den) in q) in
    some (cancel_mul c.0 f.num (pos 0) c.1 (prod ∙ sym (mul-zero_ℤ (pos c.0))))

num-none : (o : ℕ) (g : Fraction) (one : ℤ) → pos 0 <ℤ one → Is o g one → o ≡ 0 → g.num ≡ pos 0
num-none o g one up ho z = elim (zero-or-not g.num) [ inl e ↦ e | inr some ↦ absurd (something o g one up ho some z) ]

lack-is : (rel : Rel) (u o : ℕ) (f g k : Fraction) (one : ℤ) → pos 0 <ℤ one → 0 < g.den → OneNone u o → Is u f one → Is o g one → IsLack rel f g k → Is (lack rel u o) k one
lack-is Le u o f g k one up above e hu ho h = subst (λ (q : Fraction). Is o q one) (sym h) ho
lack-is Ge u o f g k one up above e hu ho h = subst (λ (q : Fraction). Is u q one) (sym h) hu
lack-is Eq u o f g k one up above (inr none) hu ho h =
    let zero-num : g.num ≡ pos 0 = num-none o g one up ho none in
    subst (λ (n : ℕ). Is n k one) (let q : u ≡ u + o = omega (arith, none) in q) (subst (λ (q : Fraction). Is u q one) (sym (h.0 zero-num)) hu)
lack-is Eq u o f g k one up above (inl none) hu ho h =
    elim (zero-or-not g.num) [
      | inl e ↦
          let o-none : o ≡ 0 = nothing o g one above ho e in
          subst (λ (n : ℕ). Is n k one) (let q : u ≡ u + o = omega (arith, o-none) in q) (subst (λ (q : Fraction). Is u q one) (sym (h.0 e)) hu)
      | inr some ↦ subst (λ (n : ℕ). Is n k one) (let q : o ≡ u + o = omega (arith, none) in q) (subst (λ (q : Fraction). Is o q one) (sym (h.1 some)) ho)
    ]

-- f = g/(gd*s) over fd, and g = n/one
size-error : (n d s one F fd G gd : ℕ) → 0 < gd → F * (gd * s) ≡ G * fd → n * gd ≡ G * one → F * (one * (d * s)) ≡ d * n * fd
size-error n d s one F fd G gd above e h =
    cancel gd (F * (one * (d * s))) (d * n * fd) above
    (let a : F * (gd * s) * (one * d) ≡ G * fd * (one * d) = ap (λ (z : ℕ). z * (one * d)) e in
    let b : n * gd * (d * fd) ≡ G * one * (d * fd) = ap (λ (z : ℕ). z * (d * fd)) h in
    omega (arith, a, b))

num-natural : (z : ℤ) (n d : ℕ) (one : ℕ) → 0 < one → pos n *ℤ pos d ≡ z *ℤ pos one → (m : ℕ) × (z ≡ pos m)
num-natural (pos m) n d one above e = (m, refl)
num-natural (negsuc m) n d zero above e = absurd (omega (arith, above))
num-natural (negsuc m) n d (suc one) above e = absurd (omega (arith, ints, e))

ratio-error : (n d s one : ℕ) (f g : Fraction) → 0 < one → 0 < g.den → 0 < s → Is n g (pos one) → IsRatio f g.num (pos (g.den * s)) → IsRatio f (pos (d * n)) (pos (one * (d * s)))
ratio-error n d s one f g up above some e h =
    let G = num-natural g.num n g.den one up e in
    let F = num-natural f.num G.0 f.den (g.den * s) (positive g.den s above some) (ap (λ (z : ℤ). z *ℤ pos f.den) (sym G.1) ∙ sym h) in
    let eF : F.0 * (g.den * s) ≡ G.0 * f.den = whole F.0 (g.den * s) G.0 f.den (ap (λ (z : ℤ). z *ℤ pos (g.den * s)) (sym F.1) ∙ h ∙ ap (λ (z : ℤ). z *ℤ pos f.den) G.1) in
    let eG : n * g.den ≡ G.0 * one = whole n g.den G.0 one (e ∙ ap (λ (z : ℤ). z *ℤ pos one) G.1) in
    ap (λ (z : ℤ). z *ℤ pos (one * (d * s))) F.1 ∙ ap pos (size-error n d s one F.0 f.den G.0 g.den above eF eG)
  where
    positive : (a b : ℕ) → 0 < a → 0 < b → 0 < a * b
    positive (suc a) (suc b) h k = omega arith
    positive zero b h k = absurd (omega (arith, h))
    positive (suc a) zero h k = absurd (omega (arith, k))

    whole : (a b c e : ℕ) → pos a *ℤ pos b ≡ pos c *ℤ pos e → a * b ≡ c * e
    whole a b c e h = omega (arith, ints, h)

row-line : (rows : List Row) (ls : List Line) (r : Row) → Any (λ s. s ≡ r) rows → Any (λ l. l ≡ line_of_row r) (map line_of_row rows ++ ls)
row-line [] ls r (i, s, within, is, e) = absurd (omega (arith, within))
row-line (q ∷ rows) ls r (zero, s, within, is, e) = (0, line_of_row q, omega arith, refl, ap line_of_row (is ∙ e))
row-line (q ∷ rows) ls r (suc i, s, within, is, e) =
    let t = row-line rows ls r (i, s, omega (arith, within), is, e) in
    (suc t.0, t.1, (let less = t.2 in omega (arith, less)), t.3, t.4)

at-line : (P : Line → Type 0) (ls : List Line) (l : Line) → Each P ls → Any (λ k. k ≡ l) ls → P l
at-line P ls l each (i, k, within, is, e) = subst P (is ∙ e) (All-from_recursion P ls each i k within)

line-mark : (ls : List Line) (l : Line) (side : Side) → Any (λ k. k ≡ l) ls → Contains (map place (marks_of ls)) (place_of l.name side)
line-mark [] l side (i, k, within, is, e) = absurd (omega (arith, within))
line-mark (m ∷ ls) l Under (zero, k, within, is, e) = (0, omega arith, ap (λ (n : Line). place_of n.name Under) (is ∙ e))
line-mark (m ∷ ls) l Over (zero, k, within, is, e) = (1, omega arith, ap (λ (n : Line). place_of n.name Over) (is ∙ e))
line-mark (m ∷ ls) l side (suc i, k, within, is, e) =
    let t = line-mark ls l side (i, k, omega (arith, within), is, e) in
    (suc (suc t.0), (let less = t.1 in omega (arith, less)), t.2)

-- a row's marks are the problem's
pub row_mark : (p : Problem) (r : Row) (m : Mark) (side : Side) → Any (λ s. s ≡ r) p.rows → m ≡ record { row = Held r.id; side = side } → Contains (map place (marks_of (lines p))) (place m)
row_mark p r m side held e = subst (λ (k : Mark). Contains (map place (marks_of (lines p))) (place k)) (sym e) (line-mark (lines p) (line_of_row r) side (row-line p.rows (stay_lines 1001 p.stays) r held))

pub row_kept : (rows : List Row) (r : Row) → All IsRow rows → Any (λ s. s ≡ r) rows → IsRow r
row_kept rows r all (i, s, within, is, e) = subst IsRow (is ∙ e) (all i s within)

pub row_error : (p : Problem) (at : List Mark) (r : Row) (under over lacking f : Fraction) → IsWhole p → IsCorner p at → NoNegativeValue p at → Any (λ s. s ≡ r) p.rows
    → HasValueAt p at (place_of (line_of_row r).name Under) under → HasValueAt p at (place_of (line_of_row r).name Over) over → 0 < over.den → 0 < lacking.den → IsLack r.rel under over lacking
    → IsRatio f lacking.num (pos r.scale *ℤ pos lacking.den) → (x : Point) → StandsAt p at x → IsErrorAt (assignment_at x) (line_of_row r) f
row_error p at r under over lacking f whole corner values held hu ho above some lacks ratio x stands =
    let there = row-line p.rows (stay_lines 1001 p.stays) r held in
    let dev : Deviations x (line_of_row r) = at-line (Deviations x) (lines p) (line_of_row r) (deviations p at x whole corner values stands) there in
    let kept : IsRow r = row_kept p.rows r whole.rows held in
    let up = above-zero (x.num one_column) x.positive in
    let mu = line-mark (lines p) (line_of_row r) Under there in
    let mo = line-mark (lines p) (line_of_row r) Over there in
    let vu : Is dev.under under (pos up.0) = ap (λ (z : ℤ). z *ℤ pos under.den) (sym dev.under_is) ∙ mark-value p at x _ under corner mu stands hu ∙ ap (λ (z : ℤ). under.num *ℤ z) up.2 in
    let vo : Is dev.over over (pos up.0) = ap (λ (z : ℤ). z *ℤ pos over.den) (sym dev.over_is) ∙ mark-value p at x _ over corner mo stands ho ∙ ap (λ (z : ℤ). over.num *ℤ z) up.2 in
    let lacked : Is (lack r.rel dev.under dev.over) lacking (pos up.0) = lack-is r.rel dev.under dev.over under over lacking (pos up.0) (omega (arith, ints, up.1)) above dev.one vu vo lacks in
    let same : (assignment_at x).den ≡ up.0 = ap nat_abs up.2 in
    subst (λ (n : ℕ). IsRatio f (pos (error (assignment_at x) (line_of_row r))) (pos (n * (r.constant.den * r.scale)))) (sym same)
    (subst (λ (n : ℕ). IsRatio f (pos n) (pos (up.0 * (r.constant.den * r.scale)))) (sym (error_is r.rel r.constant.den dev.under dev.over (gap (assignment_at x) (line_of_row r)) dev.one dev.gap_is))
    (ratio-error (lack r.rel dev.under dev.over) r.constant.den r.scale up.0 f lacking up.1 some kept.scale.0 lacked (subst (λ (n : ℕ). IsRatio f lacking.num (pos n)) (let turn : r.scale * lacking.den ≡ lacking.den * r.scale = omega arith in turn) ratio)))

-- ---- a level's cost

abbrev size : Point → Line → Side → ℕ
size x l side = nat_abs (x.num (place_of l.name side))

-- what the line lacks at the point
abbrev lacked : Point → Line → ℕ
lacked x l = lack l.rel (size x l Under) (size x l Over)

weighted : (rel : Rel) (w u o : ℕ) → pos (under_weight rel w) *ℤ pos u +ℤ pos (over_weight rel w) *ℤ pos o ≡ pos (w * lack rel u o)
weighted Eq w u o = ap pos (let e : w * u + w * o ≡ w * (u + o) = omega arith in e)
weighted Ge w u o = ap pos (let e : w * u + 0 * o ≡ w * u = omega arith in e)
weighted Le w u o = ap pos (let e : 0 * u + w * o ≡ w * o = omega arith in e)

abbrev level_part : Problem → Point → ℕ → Line → ℕ
level_part p x k l = scales p / l.scale * (weight_at l k * lacked x l)

line-part : (p : Problem) (x : Point) (k : ℕ) (l : Line) → Deviations x l → pos (scales p / l.scale) *ℤ line_cost k x.num l ≡ pos (level_part p x k l)
line-part p x k l d =
    let u : size x l Under ≡ d.under = ap nat_abs d.under_is in
    let o : size x l Over ≡ d.over = ap nat_abs d.over_is in
    ap (λ (z : ℤ). pos (scales p / l.scale) *ℤ z)
    (ap₂ (λ (a b : ℤ). pos (under_weight l.rel (weight_at l k)) *ℤ a +ℤ pos (over_weight l.rel (weight_at l k)) *ℤ b) d.under_is d.over_is
    ∙ weighted l.rel (weight_at l k) d.under d.over
    ∙ ap₂ (λ (a b : ℕ). pos (weight_at l k * lack l.rel a b)) (sym u) (sym o))

sum-natural : (f : Line → ℤ) (g : Line → ℕ) (ls : List Line) → Each (λ l. f l ≡ pos (g l)) ls → sum_of f ls ≡ pos (count_of g ls)
sum-natural f g [] h = refl
sum-natural f g (l ∷ ls) h = ap₂ ◌+ℤ◌ h.0 (sum-natural f g ls h.1)

pub counts-alike : (f g : Line → ℕ) (s c : ℕ) (ls : List Line) → Each (λ l. f l * s ≡ g l * c) ls → count_of f ls * s ≡ count_of g ls * c
counts-alike f g s c [] h = omega arith
counts-alike f g s c (l ∷ ls) h =
    let here = h.0 in
    let rest = counts-alike f g s c ls h.1 in
    let a : (f l + count_of f ls) * s ≡ f l * s + count_of f ls * s = omega arith in
    let b : (g l + count_of g ls) * c ≡ g l * c + count_of g ls * c = omega arith in
    omega (arith, here, rest, a, b)

costs-alike : (b : Bool) (w d n sh s q S C : ℕ) → q * s ≡ S → sh * (s * d) ≡ C → cond b (w * (d * n) * sh) 0 * S ≡ q * (cond b w 0 * n) * C
costs-alike false w d n sh s q S C e h = omega arith
costs-alike true w d n sh s q S C e h =
    let a : w * (d * n) * sh * S ≡ w * (d * n) * sh * (q * s) = ap (λ (z : ℕ). w * (d * n) * sh * z) (sym e) in
    let c : q * (w * n) * C ≡ q * (w * n) * (sh * (s * d)) = ap (λ (z : ℕ). q * (w * n) * z) (sym h) in
    omega (arith, a, c)

line-costs : (p : Problem) (x : Point) (k : ℕ) (l : Line) → Deviations x l → scales p / l.scale * l.scale ≡ scales p → share (lines p) l * (l.scale * l.den) ≡ common (lines p)
    → cond (nat_eq l.level k) (l.weight * error (assignment_at x) l * share (lines p) l) 0 * scales p ≡ level_part p x k l * common (lines p)
line-costs p x k l d e h =
    let u : size x l Under ≡ d.under = ap nat_abs d.under_is in
    let o : size x l Over ≡ d.over = ap nat_abs d.over_is in
    let err : error (assignment_at x) l ≡ l.den * lacked x l =
    error_is l.rel l.den d.under d.over (gap (assignment_at x) l) d.one d.gap_is ∙ ap₂ (λ (a b : ℕ). l.den * lack l.rel a b) (sym u) (sym o) in
    ap (λ (n : ℕ). cond (nat_eq l.level k) (l.weight * n * share (lines p) l) 0 * scales p) err
    ∙ costs-alike (nat_eq l.level k) l.weight l.den (lacked x l) (share (lines p) l) l.scale (scales p / l.scale) (scales p) (common (lines p)) e h

common-shares : (p : Problem) → IsWhole p → Each (λ l. share (lines p) l * (l.scale * l.den) ≡ common (lines p)) (lines p)
common-shares p whole =
    product-shares (λ (l : Line). l.scale * l.den) (lines p) (common (lines p)) 1 (sym (one-mul (common (lines p))))
    (each-impl (λ l. (0 < l.scale) × (0 < l.den)) (λ l. 0 < l.scale * l.den) (lines p) (λ l h. product-above l.scale l.den h.0 h.1) (recursion_from_All _ (lines p) (whole-IsProblem p whole)))
  where
    product-above : (a b : ℕ) → 0 < a → 0 < b → 0 < a * b
    product-above (suc a) (suc b) h k = omega arith
    product-above zero b h k = absurd (omega (arith, h))
    product-above (suc a) zero h k = absurd (omega (arith, k))

pub common_above : (p : Problem) → IsWhole p → 0 < common (lines p)
common_above p whole =
    product-positive (λ (l : Line). l.scale * l.den) (lines p)
    (each-impl (λ l. (0 < l.scale) × (0 < l.den)) (λ l. 0 < l.scale * l.den) (lines p) (λ l h. product-over l.scale l.den h.0 h.1) (recursion_from_All _ (lines p) (whole-IsProblem p whole)))
  where
    product-over : (a b : ℕ) → 0 < a → 0 < b → 0 < a * b
    product-over (suc a) (suc b) h k = omega arith
    product-over zero b h k = absurd (omega (arith, h))
    product-over (suc a) zero h k = absurd (omega (arith, k))

-- F*(S*one) = K*fd, and cost*S = K*C
cost-ratio : (cost K C S F fd one : ℕ) → 0 < S → K * fd ≡ F * (S * one) → cost * S ≡ K * C → F * (one * C) ≡ cost * fd
cost-ratio cost K C S F fd one above e h =
    cancel S (F * (one * C)) (cost * fd) above
    (let a : K * fd * C ≡ F * (S * one) * C = ap (λ (z : ℕ). z * C) e in
    let b : cost * S * fd ≡ K * C * fd = ap (λ (z : ℕ). z * fd) h in
    omega (arith, a, b))

cost-whole : (cost K C S one : ℕ) (f : Fraction) → 0 < S → 0 < one → pos K *ℤ pos f.den ≡ f.num *ℤ (pos S *ℤ pos one) → cost * S ≡ K * C → IsRatio f (pos cost) (pos (one * C))
cost-whole cost K C S one f above up e h =
    let F = num-natural f.num K f.den (S * one) (product-up S one above up) e in
    let whole : K * f.den ≡ F.0 * (S * one) = naturals K f.den F.0 (S * one) (e ∙ ap (λ (z : ℤ). z *ℤ pos (S * one)) F.1) in
    ap (λ (z : ℤ). z *ℤ pos (one * C)) F.1 ∙ ap pos (cost-ratio cost K C S F.0 f.den one above whole h)
  where
    product-up : (a b : ℕ) → 0 < a → 0 < b → 0 < a * b
    product-up (suc a) (suc b) h k = omega arith
    product-up zero b h k = absurd (omega (arith, h))
    product-up (suc a) zero h k = absurd (omega (arith, k))

    naturals : (a b c e : ℕ) → pos a *ℤ pos b ≡ pos c *ℤ pos e → a * b ≡ c * e
    naturals a b c e h = omega (arith, ints, h)

-- the level's cost at each point that stands there
cost-value : (p : Problem) (at : List Mark) (x : Point) (k : ℕ) (f : Fraction) → IsCorner p at → StandsAt p at x → IsCostAt p at k f → cost_at p k x.num *ℤ pos f.den ≡ f.num *ℤ (pos (scales p) *ℤ x.num one_column)
cost-value p at x k f corner stands (y, there, e) =
    turned_value (cost_at p k x.num) (cost_at p k y.num) (pos f.den) (f.num *ℤ pos (scales p)) (x.num one_column) (y.num one_column) y.positive (cost_fixed p at k corner x y stands there)
    (e ∙ sym (mul_assoc_ℤ f.num (pos (scales p)) (y.num one_column)))
    ∙ mul_assoc_ℤ f.num (pos (scales p)) (x.num one_column)

pub level_cost : (p : Problem) (at : List Mark) (k : ℕ) (f : Fraction) → IsWhole p → IsCorner p at → NoNegativeValue p at → IsCostAt p at k f → (x : Point) → StandsAt p at x → IsLevelCost p (assignment_at x) k f
level_cost p at k f whole corner values is x stands =
    let problem = whole-IsProblem p whole in
    let devs = deviations p at x whole corner values stands in
    let up = above-zero (x.num one_column) x.positive in
    let same : (assignment_at x).den ≡ up.0 = ap nat_abs up.2 in
    let sums : cost_at p k x.num ≡ pos (count_of (level_part p x k) (lines p)) =
    sum-natural (λ l. pos (scales p / l.scale) *ℤ line_cost k x.num l) (level_part p x k) (lines p) (each-impl (Deviations x) _ (lines p) (λ l d. line-part p x k l d) devs) in
    let counts : cost (lines p) (assignment_at x) k * scales p ≡ count_of (level_part p x k) (lines p) * common (lines p) =
    counts-alike (λ l. cond (nat_eq l.level k) (l.weight * error (assignment_at x) l * share (lines p) l) 0) (level_part p x k) (scales p) (common (lines p)) (lines p)
    (each-impl (λ l. Deviations x l × ((scales p / l.scale * l.scale ≡ scales p) × (share (lines p) l * (l.scale * l.den) ≡ common (lines p)))) _ (lines p) (λ l h. line-costs p x k l h.0 h.1.0 h.1.1)
    (each-both _ _ (lines p) devs (each-both _ _ (lines p) (shares p problem) (common-shares p whole)))) in
    let value = ap (λ (z : ℤ). z *ℤ pos f.den) (sym sums) ∙ cost-value p at x k f corner stands is ∙ ap (λ (z : ℤ). f.num *ℤ (pos (scales p) *ℤ z)) up.2 in
    subst (λ (n : ℕ). IsRatio f (pos (cost (lines p) (assignment_at x) k)) (pos (n * common (lines p)))) (sym same)
    (cost-whole (cost (lines p) (assignment_at x) k) (count_of (level_part p x k) (lines p)) (common (lines p)) (scales p) up.0 f (scales-above p problem) up.1 value counts)
