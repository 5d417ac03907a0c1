-- An attribute that no row names is taken out: the marks stay a corner, and the equations stay.
use Rattle.std.proofs.Common.{◌≡◌, ◌≢◌, ◌∙◌, ℕ, zero, suc, ◌+◌, ◌<◌, ◌≤◌, ◌++◌, Bool, true, false, cond, nat_eq, List, [], ◌∷◌, filter, map, ℤ, pos, ◌+ℤ◌, ◌-ℤ◌, ◌*ℤ◌, ◌<ℤ◌, unsigned_abs, refl, sym, ap, ap₂, subst, arith, All, AllPairs, Contains, inl, inr, eq-eqb, ne_eqb}
use Rattle.std.specs.Int.{◌∣◌}
use Rattle.std.proofs.lemmas.Nat.Gcd.{dvd-zero}
use Rattle.std.specs.List.{AllByRecursion as Each}
use Rattle.std.proofs.lemmas.Bool.{cases_eq}
use Rattle.std.proofs.lemmas.List.Elements.{recursion_from_All, All-from_recursion}
use borrow.Author.Differences.{ints}
use Rattle.frac_core.proofs.Integers.{mul-zero_ℤ, mul_left_comm_ℤ, mul_positive, zero-mul_ℤ, zero-add_ℤ, sign_cases}
use Rattle.problem_core.specs.declared.parts.Mark.{Mark}
use Rattle.problem_core.specs.declared.parts.RowName.{RowName}
use Rattle.problem_core.specs.declared.parts.RowName.TheVariants.{Held, Stay as StayOf}
use Rattle.problem_core.specs.declared.parts.Side.{Side}
use Rattle.problem_core.specs.declared.parts.Side.TheVariants.{Under, Over}
use Rattle.problem_core.specs.declared.parts.Stay.{Stay}
use Rattle.problem_core.specs.declared.parts.Term.{Term}
use Rattle.problem_core.specs.Kept.{IsStay, IsWhole}
use Rattle.problem_core.specs.Layout.{HasStay, Line, Problem, Row, line_of_row, line_of_stay, lines, stay_lines, sum_of, value_at}
use Rattle.problem_core.specs.Corners.{Agree, IsCorner, IsIn, Point, StandsAt, attr_column, equation, marks_of, one_column, place, place_of}
use Rattle.problem_core.specs.Rays.{HasRays, IsRay}
use Rattle.problem_core.proofs.Forms.{each-both, each-impl, mul-sum, sum-zero, value-scaled}
use Rattle.corner_laws.proofs.Swaps.ColumnsStay.{each_marks}
use Rattle.corner_laws.proofs.Counting.{head_pairs}
use Rattle.corner_laws.proofs.LinePlaces.{IsSmallLine, lines_small}
use Rattle.corner_laws.proofs.WrittenValues.{contains_each, nothing_outside}
use Rattle.corner_laws.proofs.ZeroColumns.{IsDirection, direction_zero, here-in}
use Rattle.corner_lines.specs.LineEquations.{IsLineEquation, IsOutsideLine, deviation}
use Rattle.corner_lines.specs.Removals.{IsFree, without_attr}
use Rattle.corner_lines.proofs.ProblemChanges.Dropped.{agree-less, each-in, same-deviation}
use Rattle.corner_lines.proofs.Lines.LineMoves.{line_moves, mark_moves, one-above}
use Rattle.corner_lines.proofs.Lines.LineWritings.{Named, inside-named, named-mark}
use Rattle.corner_lines.proofs.Lines.MarkForms.{same-name}
use Rattle.corner_lines.proofs.ProblemChanges.MovedStays.{stay-solves}
use Rattle.corner_lines.proofs.ProblemChanges.NewStays.{attr_grows, grows-here, grows-none, grows-stay, small-mark}
use Rattle.problem_core.proofs.Corners.Conflicts.{sum-each}
use Rattle.problem_core.proofs.RowNames.{held-not-stay, stay-same}
use Rattle.frac_core.proofs.Numbers.{signed-not-zero as not_zero, cancel-scale as without-unit}
use Rattle.frac_core.proofs.Lists.{pairs-rest as tail_pairs, each-joined}

-- ---- the lines without the stay

abbrev pub other_stay : ℕ → Stay → Bool
other_stay attr s = cond (nat_eq s.attr attr) false true

pub filter-on : (attr : ℕ) (s : Stay) (stays : List Stay) → s.attr ≡ attr → filter (other_stay attr) (s ∷ stays) ≡ filter (other_stay attr) stays
filter-on attr s stays e = ap (λ (b : Bool). cond (cond b false true) (s ∷ filter (other_stay attr) stays) (filter (other_stay attr) stays)) (eq-eqb s.attr attr e)

pub filter-off : (attr : ℕ) (s : Stay) (stays : List Stay) → s.attr ≢ attr → filter (other_stay attr) (s ∷ stays) ≡ s ∷ filter (other_stay attr) stays
filter-off attr s stays n = ap (λ (b : Bool). cond (cond b false true) (s ∷ filter (other_stay attr) stays) (filter (other_stay attr) stays)) (ne_eqb s.attr attr n)

-- a property that does not speak of levels
abbrev pub NoLevel : (Line → Type 0) → Type 0
NoLevel P = (n m : ℕ) (s : Stay) → P (line_of_stay n s) → P (line_of_stay m s)

stays-left : (P : Line → Type 0) (attr n m : ℕ) (stays : List Stay) → NoLevel P → Each P (stay_lines n stays) → Each P (stay_lines m (filter (other_stay attr) stays))
stays-left P attr n m [] move h = tt
stays-left P attr n m (s ∷ stays) move h = elim (cases_eq s.attr attr) [
  | inl e ↦ subst (λ (ss : List Stay). Each P (stay_lines m ss)) (sym (filter-on attr s stays e)) (stays-left P attr (n + 1) m stays move h.1)
  | inr k ↦ subst (λ (ss : List Stay). Each P (stay_lines m ss)) (sym (filter-off attr s stays k)) (move n m s h.0, stays-left P attr (n + 1) (m + 1) stays move h.1)
]

stays-back : (P Q : Line → Type 0) (attr n m : ℕ) (stays : List Stay) → ((n m : ℕ) (s : Stay) → s.attr ≢ attr → P (line_of_stay m s) → Q (line_of_stay n s)) → Each (λ (s : Stay). s.attr ≡ attr → (n : ℕ) → Q (line_of_stay n s)) stays → Each P (stay_lines m (filter (other_stay attr) stays)) → Each Q (stay_lines n stays)
stays-back P Q attr n m [] off on h = tt
stays-back P Q attr n m (s ∷ stays) off on h = elim (cases_eq s.attr attr) [
  | inl e ↦ (on.0 e n, stays-back P Q attr (n + 1) m stays off on.1 (subst (λ (ss : List Stay). Each P (stay_lines m ss)) (filter-on attr s stays e) h))
  | inr k ↦ (let l : Each P (stay_lines m (s ∷ filter (other_stay attr) stays)) = subst (λ (ss : List Stay). Each P (stay_lines m ss)) (filter-off attr s stays k) h in (off n m s k l.0, stays-back P Q attr (n + 1) (m + 1) stays off on.1 l.1))
]

rows-split : (P : Line → Type 0) (rows : List Row) (ls : List Line) → Each P (map line_of_row rows ++ ls) → Each P (map line_of_row rows) × Each P ls
rows-split P [] ls h = (tt, h)
rows-split P (r ∷ rows) ls h = let k = rows-split P rows ls h.1 in ((h.0, k.0), k.1)

pub lines-left : (P : Line → Type 0) (attr : ℕ) (p : Problem) → NoLevel P → Each P (lines p) → Each P (lines (without_attr attr p))
lines-left P attr p move h =
    let k = rows-split P p.rows (stay_lines 1001 p.stays) h in
    each-joined P (map line_of_row p.rows) (stay_lines 1001 (without_attr attr p).stays) k.0 (stays-left P attr 1001 1001 p.stays move k.1)

lines-back : (P Q : Line → Type 0) (attr : ℕ) (p : Problem) → (Each P (map line_of_row p.rows) → Each Q (map line_of_row p.rows)) → ((n m : ℕ) (s : Stay) → s.attr ≢ attr → P (line_of_stay m s) → Q (line_of_stay n s)) → Each (λ (s : Stay). s.attr ≡ attr → (n : ℕ) → Q (line_of_stay n s)) p.stays → Each P (lines (without_attr attr p)) → Each Q (lines p)
lines-back P Q attr p rows off on h =
    let k = rows-split P p.rows (stay_lines 1001 (without_attr attr p).stays) h in
    each-joined Q (map line_of_row p.rows) (stay_lines 1001 p.stays) (rows k.0) (stays-back P Q attr 1001 1001 p.stays off on k.1)

stays-sum : (F : RowName → ℤ) (attr n m : ℕ) (stays : List Stay) → F (StayOf attr) ≡ pos 0 → sum_of (λ l. F l.name) (stay_lines n stays) ≡ sum_of (λ l. F l.name) (stay_lines m (filter (other_stay attr) stays))
stays-sum F attr n m [] none = refl
stays-sum F attr n m (s ∷ stays) none = elim (cases_eq s.attr attr) [
  | inl e ↦ ap₂ ◌+ℤ◌ (ap (λ (a : ℕ). F (StayOf a)) e ∙ none) (stays-sum F attr (n + 1) m stays none) ∙ zero-add_ℤ _ ∙ ap (λ (ss : List Stay). sum_of (λ l. F l.name) (stay_lines m ss)) (sym (filter-on attr s stays e))
  | inr k ↦ ap (λ (z : ℤ). F (StayOf s.attr) +ℤ z) (stays-sum F attr (n + 1) (m + 1) stays none) ∙ ap (λ (ss : List Stay). sum_of (λ l. F l.name) (stay_lines m ss)) (sym (filter-off attr s stays k))
]

sum-left : (F : RowName → ℤ) (attr : ℕ) (p : Problem) → F (StayOf attr) ≡ pos 0 → sum_of (λ l. F l.name) (lines p) ≡ sum_of (λ l. F l.name) (lines (without_attr attr p))
sum-left F attr p none = rows p.rows
  where
    rows : (rs : List Row) → sum_of (λ l. F l.name) (map line_of_row rs ++ stay_lines 1001 p.stays) ≡ sum_of (λ l. F l.name) (map line_of_row rs ++ stay_lines 1001 (without_attr attr p).stays)
    rows [] = stays-sum F attr 1001 1001 p.stays none
    rows (r ∷ rs) = ap (λ (z : ℤ). F (Held r.id) +ℤ z) (rows rs)

-- ---- the stay

pub record IsTheStay (attr : ℕ) (stays : List Stay) (s : Stay) : Type 0 where
  pub is : s.attr ≡ attr
  pub stay : IsStay s
  pub only : Each (λ (t : Stay). t.attr ≡ attr → t ≡ s) stays

the-stay : (attr : ℕ) (stays : List Stay) → Each IsStay stays → AllPairs (λ s t. s.attr ≢ t.attr) stays → HasStay stays attr → (s : Stay) × IsTheStay attr stays s
the-stay attr [] whole apart (k, t, within, is, e) = absurd (omega (arith, within))
the-stay attr (s ∷ stays) whole apart h = elim (cases_eq s.attr attr) [
  | inl e ↦ (
    s,
    record {
      is = e;
      stay = whole.0;
      only = ((λ q. refl), each-impl (λ (t : Stay). s.attr ≢ t.attr) (λ (t : Stay). t.attr ≡ attr → t ≡ s) stays (λ t n q. absurd (n (e ∙ sym q))) (recursion_from_All (λ (t : Stay). s.attr ≢ t.attr) stays (head_pairs (λ (s t : Stay). s.attr ≢ t.attr) s stays apart)));
    },
  )
  | inr n ↦
      let t = the-stay attr stays whole.1 (tail_pairs (λ (s t : Stay). s.attr ≢ t.attr) s stays apart) (further h n) in
      (t.0, record { is = t.1.is; stay = t.1.stay; only = ((λ q. absurd (n q)), t.1.only) })
]
  where
    further : HasStay (s ∷ stays) attr → s.attr ≢ attr → HasStay stays attr
    further (zero, t, within, is, e) n = absurd (n (ap (λ (u : Stay). u.attr) is ∙ e))
    further (suc k, t, within, is, e) n = (k, t, omega (arith, within), is, e)

pub the-held : (p : Problem) (attr : ℕ) → IsWhole p → IsFree p attr → (s : Stay) × IsTheStay attr p.stays s
the-held p attr whole free = the-stay attr p.stays (recursion_from_All IsStay p.stays whole.stays) whole.apart free.held

stay-named : (p : Problem) (attr : ℕ) → HasStay p.stays attr → Named (StayOf attr) (lines p)
stay-named p attr h = rows p.rows
  where
    stays : (n : ℕ) (ss : List Stay) → HasStay ss attr → Named (StayOf attr) (stay_lines n ss)
    stays n [] (k, t, within, is, e) = absurd (omega (arith, within))
    stays n (s ∷ ss) (zero, t, within, is, e) = inl (ap (λ (u : Stay). StayOf u.attr) is ∙ ap StayOf e)
    stays n (s ∷ ss) (suc k, t, within, is, e) = inr (stays (n + 1) ss (k, t, omega (arith, within), is, e))

    rows : (rs : List Row) → Named (StayOf attr) (map line_of_row rs ++ stay_lines 1001 p.stays)
    rows [] = stays 1001 p.stays h
    rows (r ∷ rs) = inr (rows rs)

-- ---- the columns of other lines

-- none of the stay's marks, nor the attribute
abbrev pub IsFar : ℕ → ℕ → Type 0
IsFar attr v = (v ≢ place_of (StayOf attr) Under) × (v ≢ place_of (StayOf attr) Over) × (v ≢ attr_column attr)

far-form : (attr d : ℕ) (form : List Term) → attr ≤ 2147483648 → Each (λ (e : Term). e.attr ≢ attr) form → Each (λ (e : Term). IsFar attr e.attr) (map (λ (e : Term). record { attr = attr_column e.attr; by = pos d *ℤ e.by }) form)
far-form attr d [] small h = tt
far-form attr d (e ∷ form) small h = (((λ q. absurd (omega (arith, small, q))), (λ q. absurd (omega (arith, small, q))), (λ q. h.0 (omega (arith, q)))), far-form attr d form small h.1)

far-equation : (attr : ℕ) (l : Line) → attr ≤ 2147483648 → l.name ≢ StayOf attr → IsSmallLine l → Each (λ (e : Term). e.attr ≢ attr) l.form → Each (λ (e : Term). IsFar attr e.attr) (equation l)
far-equation attr l small ne tiny form = (
  ((λ e. ne (same-name l.name (StayOf attr) Under Under e)), (λ e. ne (same-name l.name (StayOf attr) Under Over e)), (λ e. absurd (let t = tiny.under in omega (arith, t, e)))),
  (
    ((λ e. ne (same-name l.name (StayOf attr) Over Under e)), (λ e. ne (same-name l.name (StayOf attr) Over Over e)), (λ e. absurd (let t = tiny.over in omega (arith, t, e)))),
    (((λ e. absurd (omega (arith, small, e))), (λ e. absurd (omega (arith, small, e))), (λ e. absurd (omega (arith, small, e)))), far-form attr l.den l.form small form),
  ),
)

-- ---- a solution with the attribute, from one without it

pub small-attr : (s : Stay) (attr : ℕ) → IsStay s → s.attr ≡ attr → attr ≤ 2147483648
small-attr s attr h e = let n = h.attr.1 in omega (arith, n, e)

-- the attribute is at its stay's target, whose marks are 0
abbrev pub restored : ℕ → Stay → (ℕ → ℤ) → ℕ → ℤ
restored attr s y v = cond (nat_eq v (place_of (StayOf attr) Under)) (pos 0) (cond (nat_eq v (place_of (StayOf attr) Over)) (pos 0) (cond (nat_eq v (attr_column attr)) (s.target.num *ℤ y one_column) (pos s.target.den *ℤ y v)))

pub restored-far : (attr : ℕ) (s : Stay) (y : ℕ → ℤ) (v : ℕ) → IsFar attr v → restored attr s y v ≡ pos s.target.den *ℤ y v
restored-far attr s y v f =
    ap (λ (b : Bool). cond b (pos 0) (cond (nat_eq v (place_of (StayOf attr) Over)) (pos 0) (cond (nat_eq v (attr_column attr)) (s.target.num *ℤ y one_column) (pos s.target.den *ℤ y v)))) (ne_eqb v (place_of (StayOf attr) Under) f.0)
    ∙ ap (λ (b : Bool). cond b (pos 0) (cond (nat_eq v (attr_column attr)) (s.target.num *ℤ y one_column) (pos s.target.den *ℤ y v))) (ne_eqb v (place_of (StayOf attr) Over) f.1)
    ∙ ap (λ (b : Bool). cond b (s.target.num *ℤ y one_column) (pos s.target.den *ℤ y v)) (ne_eqb v (attr_column attr) f.2)

restored-under : (attr : ℕ) (s : Stay) (y : ℕ → ℤ) → restored attr s y (place_of (StayOf attr) Under) ≡ pos 0
restored-under attr s y = ap (λ (b : Bool). cond b (pos 0) (cond (nat_eq (place_of (StayOf attr) Under) (place_of (StayOf attr) Over)) (pos 0) (cond (nat_eq (place_of (StayOf attr) Under) (attr_column attr)) (s.target.num *ℤ y one_column) (pos s.target.den *ℤ y (place_of (StayOf attr) Under))))) (eq-eqb (place_of (StayOf attr) Under) (place_of (StayOf attr) Under) refl)

restored-over : (attr : ℕ) (s : Stay) (y : ℕ → ℤ) → restored attr s y (place_of (StayOf attr) Over) ≡ pos 0
restored-over attr s y =
    ap (λ (b : Bool). cond b (pos 0) (cond (nat_eq (place_of (StayOf attr) Over) (place_of (StayOf attr) Over)) (pos 0) (cond (nat_eq (place_of (StayOf attr) Over) (attr_column attr)) (s.target.num *ℤ y one_column) (pos s.target.den *ℤ y (place_of (StayOf attr) Over))))) (ne_eqb (place_of (StayOf attr) Over) (place_of (StayOf attr) Under) (λ e. absurd (omega (arith, e))))
    ∙ ap (λ (b : Bool). cond b (pos 0) (cond (nat_eq (place_of (StayOf attr) Over) (attr_column attr)) (s.target.num *ℤ y one_column) (pos s.target.den *ℤ y (place_of (StayOf attr) Over)))) (eq-eqb (place_of (StayOf attr) Over) (place_of (StayOf attr) Over) refl)

restored-attr : (attr : ℕ) (s : Stay) (y : ℕ → ℤ) → attr ≤ 2147483648 → restored attr s y (attr_column attr) ≡ s.target.num *ℤ y one_column
restored-attr attr s y small =
    ap (λ (b : Bool). cond b (pos 0) (cond (nat_eq (attr_column attr) (place_of (StayOf attr) Over)) (pos 0) (cond (nat_eq (attr_column attr) (attr_column attr)) (s.target.num *ℤ y one_column) (pos s.target.den *ℤ y (attr_column attr))))) (ne_eqb (attr_column attr) (place_of (StayOf attr) Under) (λ e. absurd (omega (arith, small, e))))
    ∙ ap (λ (b : Bool). cond b (pos 0) (cond (nat_eq (attr_column attr) (attr_column attr)) (s.target.num *ℤ y one_column) (pos s.target.den *ℤ y (attr_column attr)))) (ne_eqb (attr_column attr) (place_of (StayOf attr) Over) (λ e. absurd (omega (arith, small, e))))
    ∙ ap (λ (b : Bool). cond b (s.target.num *ℤ y one_column) (pos s.target.den *ℤ y (attr_column attr))) (eq-eqb (attr_column attr) (attr_column attr) refl)

far-one : (attr : ℕ) → attr ≤ 2147483648 → IsFar attr one_column
far-one attr small = ((λ e. absurd (omega (arith, small, e))), (λ e. absurd (omega (arith, small, e))), (λ e. absurd (omega (arith, small, e))))

pub restored-one : (attr : ℕ) (s : Stay) (y : ℕ → ℤ) → attr ≤ 2147483648 → restored attr s y one_column ≡ pos s.target.den *ℤ y one_column
restored-one attr s y small = restored-far attr s y one_column (far-one attr small)

-- the lines that are left, by their columns
columns-back : (Q : Line → Type 0) (p : Problem) (attr : ℕ) (s : Stay) (P : Line → Type 0) → IsWhole p → IsFree p attr → IsTheStay attr p.stays s → ((l : Line) → Each (λ (e : Term). IsFar attr e.attr) (equation l) → P l → Q l) → ((n : ℕ) → Q (line_of_stay n s)) → NoLevel P → Each P (lines (without_attr attr p)) → Each Q (lines p)
columns-back Q p attr s P whole free the f own move h =
    let small : attr ≤ 2147483648 = small-attr s attr the.stay the.is in
    lines-back (λ l. P l × IsSmallLine l) Q attr p
    (λ k. rows p.rows (recursion_from_All (λ r. All (λ t. t.attr ≢ attr) r.terms) p.rows free.free) k)
    (λ n m t ne k. f (line_of_stay n t) (far-equation attr (line_of_stay n t) (small-attr s attr the.stay the.is) (λ e. ne (stay-same t.attr attr e)) (record { under = k.1.under; over = k.1.over; sides = k.1.sides }) (ne, tt)) (move m n t k.0))
    (each-impl (λ (t : Stay). t.attr ≡ attr → t ≡ s) (λ (t : Stay). t.attr ≡ attr → (n : ℕ) → Q (line_of_stay n t)) p.stays (λ t g e n. subst (λ (u : Stay). Q (line_of_stay n u)) (sym (g e)) (own n)) the.only)
    (each-both P IsSmallLine (lines (without_attr attr p)) h (lines-left IsSmallLine attr p (λ n m t k. record { under = k.under; over = k.over; sides = k.sides }) (lines_small p whole)))
  where
    rows : (rs : List Row) → Each (λ (r : Row). All (λ t. t.attr ≢ attr) r.terms) rs → Each (λ l. P l × IsSmallLine l) (map line_of_row rs) → Each Q (map line_of_row rs)
    rows [] g k = tt
    rows (r ∷ rs) g k = (f (line_of_row r) (far-equation attr (line_of_row r) (small-attr s attr the.stay the.is) (held-not-stay r.id attr) k.0.1 (recursion_from_All (λ t. t.attr ≢ attr) r.terms g.0)) k.0.0, rows rs g.1 k.1)

restored-solves : (p : Problem) (attr : ℕ) (s : Stay) (y : ℕ → ℤ) → IsWhole p → IsFree p attr → IsTheStay attr p.stays s → All (λ l. value_at y (equation l) ≡ pos 0) (lines (without_attr attr p)) → All (λ l. value_at (restored attr s y) (equation l) ≡ pos 0) (lines p)
restored-solves p attr s y whole free the h =
    All-from_recursion (λ l. value_at (restored attr s y) (equation l) ≡ pos 0) (lines p)
    (columns-back (λ l. value_at (restored attr s y) (equation l) ≡ pos 0) p attr s (λ l. value_at y (equation l) ≡ pos 0) whole free the
    (λ l far k. sum-each (λ e. e.by *ℤ restored attr s y e.attr) (λ e. e.by *ℤ (pos s.target.den *ℤ y e.attr)) (equation l) (each-impl (λ (e : Term). IsFar attr e.attr) _ (equation l) (λ e g. ap (λ (z : ℤ). e.by *ℤ z) (restored-far attr s y e.attr g)) far)
    ∙ value-scaled (pos s.target.den) y (equation l) ∙ ap (λ (z : ℤ). pos s.target.den *ℤ z) k ∙ mul-zero_ℤ (pos s.target.den))
    (λ n. stay-solves n s (restored attr s y)
    (subst (λ (a : ℕ). pos s.target.den *ℤ ((restored attr s y (place_of (StayOf a) Under) -ℤ restored attr s y (place_of (StayOf a) Over)) +ℤ restored attr s y (attr_column a)) ≡ s.target.num *ℤ restored attr s y one_column) (sym the.is)
    (target-parts s.target.den s.target.num (y one_column) (restored attr s y (place_of (StayOf attr) Under)) (restored attr s y (place_of (StayOf attr) Over)) (restored attr s y (attr_column attr)) (restored attr s y one_column)
    (restored-under attr s y) (restored-over attr s y) (restored-attr attr s y small) (restored-one attr s y small))))
    (λ n m t k. k) (recursion_from_All (λ l. value_at y (equation l) ≡ pos 0) (lines (without_attr attr p)) h))
  where
    small : attr ≤ 2147483648
    small = small-attr s attr the.stay the.is

    target-parts : (d : ℕ) (k y1 u o a w : ℤ) → u ≡ pos 0 → o ≡ pos 0 → a ≡ k *ℤ y1 → w ≡ pos d *ℤ y1 → pos d *ℤ ((u -ℤ o) +ℤ a) ≡ k *ℤ w
    target-parts d k y1 u o a w e f g h = ap (λ (z : ℤ). pos d *ℤ z) (let i : (u -ℤ o) +ℤ a ≡ k *ℤ y1 = omega (arith, ints, e, f, g) in i) ∙ mul_left_comm_ℤ (pos d) k y1 ∙ ap (λ (z : ℤ). k *ℤ z) (sym h)

unfoldable pub restored-point : (attr : ℕ) (s : Stay) → IsStay s → s.attr ≡ attr → Point → Point
restored-point attr s h e y = record { num = restored attr s y.num; positive = subst (λ (z : ℤ). pos 0 <ℤ z) (sym (restored-one attr s y.num (small-attr s attr h e))) (mul_positive s.target.den (y.num one_column) h.target.lowest.above y.positive) }

-- ---- the marks

pub mark-was : (p : Problem) (attr c : ℕ) → Contains (map place (marks_of (lines (without_attr attr p)))) c → Contains (map place (marks_of (lines p))) c
mark-was p attr c is =
    let here = lines-left (λ l. Contains (map place (marks_of (lines p))) (place_of l.name Under) × Contains (map place (marks_of (lines p))) (place_of l.name Over)) attr p (λ n m s k. k) (here-in (lines p)) in
    contains_each (λ v. Contains (map place (marks_of (lines p))) v) (marks_of (lines (without_attr attr p))) c
    (each_marks (λ v. Contains (map place (marks_of (lines p))) v) (lines (without_attr attr p))
    (each-impl (λ l. Contains (map place (marks_of (lines p))) (place_of l.name Under) × Contains (map place (marks_of (lines p))) (place_of l.name Over)) _ (lines (without_attr attr p)) (λ l h. h.0) here)
    (each-impl (λ l. Contains (map place (marks_of (lines p))) (place_of l.name Under) × Contains (map place (marks_of (lines p))) (place_of l.name Over)) _ (lines (without_attr attr p)) (λ l h. h.1) here)) is

stays-far : (attr n : ℕ) (stays : List Stay) → Each (λ l. l.name ≢ StayOf attr) (stay_lines n (filter (other_stay attr) stays))
stays-far attr n [] = tt
stays-far attr n (s ∷ stays) = elim (cases_eq s.attr attr) [
  | inl e ↦ subst (λ (ss : List Stay). Each (λ l. l.name ≢ StayOf attr) (stay_lines n ss)) (sym (filter-on attr s stays e)) (stays-far attr n stays)
  | inr k ↦ subst (λ (ss : List Stay). Each (λ l. l.name ≢ StayOf attr) (stay_lines n ss)) (sym (filter-off attr s stays k)) ((λ e. k (stay-same s.attr attr e)), stays-far attr (n + 1) stays)
]

rows-far : (attr : ℕ) (rows : List Row) → Each (λ l. l.name ≢ StayOf attr) (map line_of_row rows)
rows-far attr [] = tt
rows-far attr (r ∷ rows) = (held-not-stay r.id attr, rows-far attr rows)

pub left-far : (p : Problem) (attr : ℕ) → Each (λ l. l.name ≢ StayOf attr) (lines (without_attr attr p))
left-far p attr = each-joined (λ l. l.name ≢ StayOf attr) (map line_of_row p.rows) (stay_lines 1001 (without_attr attr p).stays) (rows-far attr p.rows) (stays-far attr 1001 p.stays)

small-left : (p : Problem) (attr c : ℕ) → IsWhole p → Contains (map place (marks_of (lines (without_attr attr p)))) c → (c < 17179869184) × ((side : Side) → c ≢ place_of (StayOf attr) side)
small-left p attr c whole is =
    let facts : Each (λ l. IsSmallLine l × (l.name ≢ StayOf attr)) (lines (without_attr attr p)) = each-both IsSmallLine (λ l. l.name ≢ StayOf attr) (lines (without_attr attr p)) (lines-left IsSmallLine attr p (λ n m t k. record { under = k.under; over = k.over; sides = k.sides }) (lines_small p whole)) (left-far p attr) in
    contains_each (λ v. (v < 17179869184) × ((side : Side) → v ≢ place_of (StayOf attr) side)) (marks_of (lines (without_attr attr p))) c
    (each_marks (λ v. (v < 17179869184) × ((side : Side) → v ≢ place_of (StayOf attr) side)) (lines (without_attr attr p))
    (each-impl (λ l. IsSmallLine l × (l.name ≢ StayOf attr)) _ (lines (without_attr attr p)) (λ l h. (h.0.under, λ side e. h.1 (same-name l.name (StayOf attr) Under side e))) facts)
    (each-impl (λ l. IsSmallLine l × (l.name ≢ StayOf attr)) _ (lines (without_attr attr p)) (λ l h. (h.0.over, λ side e. h.1 (same-name l.name (StayOf attr) Over side e))) facts)) is

mark-far : (p : Problem) (attr c : ℕ) → IsWhole p → Contains (map place (marks_of (lines (without_attr attr p)))) c → IsFar attr c
mark-far p attr c whole is = let f = small-left p attr c whole is in (f.1 Under, f.1 Over, λ e. absurd (let t = f.0 in omega (arith, t, e)))

each-was : (P : ℕ → Type 0) (p : Problem) (attr : ℕ) → ((c : ℕ) → Contains (map place (marks_of (lines (without_attr attr p)))) c → P c) → ((side : Side) → P (place_of (StayOf attr) side)) → Each (λ m. P (place m)) (marks_of (lines p))
each-was P p attr old own = each_marks P (lines p) (on-side Under) (on-side Over)
  where
    owns : (side : Side) (ss : List Stay) → Each (λ (s : Stay). s.attr ≡ attr → (n : ℕ) → P (place_of (StayOf s.attr) side)) ss
    owns side [] = tt
    owns side (s ∷ ss) = ((λ e n. subst (λ (a : ℕ). P (place_of (StayOf a) side)) (sym e) (own side)), owns side ss)

    both : (side : Side) → Each (λ l. P (place_of l.name side)) (lines (without_attr attr p))
    both Under = each-impl (λ l. Contains (map place (marks_of (lines (without_attr attr p)))) (place_of l.name Under) × Contains (map place (marks_of (lines (without_attr attr p)))) (place_of l.name Over)) (λ l. P (place_of l.name Under)) (lines (without_attr attr p)) (λ l h. old (place_of l.name Under) h.0) (here-in (lines (without_attr attr p)))
    both Over = each-impl (λ l. Contains (map place (marks_of (lines (without_attr attr p)))) (place_of l.name Under) × Contains (map place (marks_of (lines (without_attr attr p)))) (place_of l.name Over)) (λ l. P (place_of l.name Over)) (lines (without_attr attr p)) (λ l h. old (place_of l.name Over) h.1) (here-in (lines (without_attr attr p)))

    on-side : (side : Side) → Each (λ l. P (place_of l.name side)) (lines p)
    on-side side = lines-back (λ l. P (place_of l.name side)) (λ l. P (place_of l.name side)) attr p (λ k. k) (λ n m s ne k. k) (owns side p.stays) (both side)

-- a mark of the stay moves its attribute alone
free-direction : (p : Problem) (attr : ℕ) (side : Side) → IsWhole p → IsFree p attr → IsDirection p (attr_grows attr side)
free-direction p attr side whole free =
    let t = the-held p attr whole free in
    let number = subst (λ (a : ℕ). (0 < a) × (a ≤ 2147483648)) t.1.is t.1.stay.attr in
    record {
      still = grows-none attr side one_column (one-far side number.1) (λ e. absurd (let n = number.1 in omega (arith, n, e)));
      holds = All-from_recursion (λ l. value_at (attr_grows attr side) (equation l) ≡ pos 0) (lines p)
          (columns-back (λ l. value_at (attr_grows attr side) (equation l) ≡ pos 0) p attr t.0 (λ l. Unit {0}) whole free t.1
          (λ l far k. sum-zero (λ e. e.by *ℤ attr_grows attr side e.attr) (equation l) (each-impl (λ (e : Term). IsFar attr e.attr) _ (equation l) (λ e g. ap (λ (z : ℤ). e.by *ℤ z) (grows-none attr side e.attr (side-far side e.attr g) g.2) ∙ mul-zero_ℤ e.by) far))
          (λ n. stay-solves n t.0 (attr_grows attr side)
          (subst (λ (a : ℕ). pos t.0.target.den *ℤ ((attr_grows attr side (place_of (StayOf a) Under) -ℤ attr_grows attr side (place_of (StayOf a) Over)) +ℤ attr_grows attr side (attr_column a)) ≡ t.0.target.num *ℤ attr_grows attr side one_column) (sym t.1.is)
          (none-parts t.0.target.den t.0.target.num (attr_grows attr side (place_of (StayOf attr) Under)) (attr_grows attr side (place_of (StayOf attr) Over)) (attr_grows attr side (attr_column attr)) (attr_grows attr side one_column) (grows-stay attr side number)
          (grows-none attr side one_column (one-far side number.1) (λ e. absurd (let n = number.1 in omega (arith, n, e)))))))
          (λ n m s k. tt) (units (lines (without_attr attr p))));
    }
  where
    units : (ls : List Line) → Each (λ l. Unit {0}) ls
    units [] = tt
    units (l ∷ ls) = (tt, units ls)

    side-far : (side : Side) (v : ℕ) → IsFar attr v → v ≢ place_of (StayOf attr) side
    side-far Under v f = f.0
    side-far Over v f = f.1

    one-far : (side : Side) → attr ≤ 2147483648 → one_column ≢ place_of (StayOf attr) side
    one-far Under n e = absurd (omega (arith, n, e))
    one-far Over n e = absurd (omega (arith, n, e))

    none-parts : (d : ℕ) (k u o a w : ℤ) → a ≡ o -ℤ u → w ≡ pos 0 → pos d *ℤ ((u -ℤ o) +ℤ a) ≡ k *ℤ w
    none-parts d k u o a w e f = ap (λ (z : ℤ). pos d *ℤ z) (let i : (u -ℤ o) +ℤ a ≡ pos 0 = omega (arith, ints, e) in i) ∙ mul-zero_ℤ (pos d) ∙ sym (ap (λ (z : ℤ). k *ℤ z) f ∙ mul-zero_ℤ k)

-- the stay is outside: its mark would move its attribute alone
pub stay-out : (p : Problem) (at : List Mark) (attr : ℕ) (side : Side) → IsWhole p → IsCorner p at → IsFree p attr → IsIn (place_of (StayOf attr) side) at → ⊥
stay-out p at attr side whole corner free inside =
    let t = the-held p attr whole free in
    let number = subst (λ (a : ℕ). (0 < a) × (a ≤ 2147483648)) t.1.is t.1.stay.attr in
    let mark : Contains (map place (marks_of (lines p))) (place_of (StayOf attr) side) = contains_each (λ c. Contains (map place (marks_of (lines p))) c) at (place_of (StayOf attr) side) (recursion_from_All (λ m. Contains (map place (marks_of (lines p))) (place m)) at corner.marks) inside in
    let none : attr_grows attr side (place_of (StayOf attr) side) ≡ pos 0 =
    direction_zero p at (attr_grows attr side) (place_of (StayOf attr) side) corner (free-direction p attr side whole free)
    (λ v out is. grows-none attr side v (λ e. out (subst (λ (c : ℕ). IsIn c at) (sym e) inside)) (λ e. absurd (let b = small-mark p v whole is in omega (arith, b, e)))) mark in
    absurd (let one = one-above (attr_grows attr side (place_of (StayOf attr) side)) (grows-here attr side number) in omega (arith, ints, none, one))

-- ---- the stay stands in its attribute's equation alone

stay-mark : (p : Problem) (attr : ℕ) → IsWhole p → IsFree p attr → Contains (map place (marks_of (lines p))) (place_of (StayOf attr) Over)
stay-mark p attr whole free = named-mark p (StayOf attr) Over (stay-named p attr free.held)

free-ray : (p : Problem) (at : List Mark) (attr : ℕ) → IsWhole p → IsFree p attr → IsRay p at (place_of (StayOf attr) Over) (attr_grows attr Over)
free-ray p at attr whole free =
    let t = the-held p attr whole free in
    let number = subst (λ (a : ℕ). (0 < a) × (a ≤ 2147483648)) t.1.is t.1.stay.attr in
    let d = free-direction p attr Over whole free in
    record {
      holds = d.holds;
      still = d.still;
      here = one-above (attr_grows attr Over (place_of (StayOf attr) Over)) (grows-here attr Over number);
      other = All-from_recursion (λ m. (IsIn (place m) at → ⊥) → place m ≢ place_of (StayOf attr) Over → attr_grows attr Over (place m) ≡ pos 0) (marks_of (lines p))
          (each-impl (λ m. Contains (map place (marks_of (lines p))) (place m)) _ (marks_of (lines p)) (λ m is out ne. grows-none attr Over (place m) ne (λ e. absurd (let b = small-mark p (place m) whole is in omega (arith, b, e)))) (each-in (marks_of (lines p)) (marks_of (lines p)) (λ c i. i)));
    }

none-unless : (b r : ℤ) → r ≡ pos 0 → (b ≢ pos 0 → r ≢ pos 0) → b ≡ pos 0
none-unless b r e f = elim (sign_cases b) [
  | inl z ↦ z
  | inr s ↦ absurd (f (not_zero b s) e)
]

pub attr_none : (p : Problem) (at : List Mark) (attr a own : ℕ) (by : RowName → ℤ) (num : ℤ) (den : ℕ) → IsWhole p → IsCorner p at → IsFree p attr → a ≢ attr → IsLineEquation p at (λ x. x (attr_column a)) own by num den → by (StayOf attr) ≡ pos 0
attr_none p at attr a own by num den whole corner free ne e =
    let t = the-held p attr whole free in
    let small : attr ≤ 2147483648 = small-attr t.0 attr t.1.stay t.1.is in
    none-unless (by (StayOf attr)) (attr_grows attr Over (attr_column a)) (grows-none attr Over (attr_column a) (λ q. absurd (omega (arith, small, q))) (λ q. ne (omega (arith, q))))
    (λ some. (line_moves p at (StayOf attr) Over (attr_column a) own by num den (attr_grows attr Over) whole corner (stay-mark p attr whole free) (free-ray p at attr whole free) e).1 some)

pub line_none : (p : Problem) (at : List Mark) (attr : ℕ) (name : RowName) (side : Side) (own : ℕ) (by : RowName → ℤ) (num : ℤ) (den : ℕ) → IsWhole p → IsCorner p at → IsFree p attr → IsIn (place_of name side) at → IsLineEquation p at (deviation name) own by num den → by (StayOf attr) ≡ pos 0
line_none p at attr name side own by num den whole corner free inside e =
    let mark : Contains (map place (marks_of (lines p))) (place_of name side) = contains_each (λ c. Contains (map place (marks_of (lines p))) c) at (place_of name side) (recursion_from_All (λ m. Contains (map place (marks_of (lines p))) (place m)) at corner.marks) inside in
    none-unless (by (StayOf attr)) (attr_grows attr Over (place_of name side))
    (grows-none attr Over (place_of name side)
    (λ q. stay-out p at attr Over whole corner free (subst (λ (c : ℕ). IsIn c at) q inside))
    (λ q. absurd (let b = small-mark p (place_of name side) whole mark in omega (arith, b, q))))
    (λ some. (mark_moves p at (StayOf attr) Over name side own by num den (attr_grows attr Over) whole corner (stay-mark p attr whole free) inside (free-ray p at attr whole free) e).1 (inl some))

-- ---- the corner

pub stands-back : (p : Problem) (at : List Mark) (attr : ℕ) (s : Stay) (whole : IsWhole p) (free : IsFree p attr) (the : IsTheStay attr p.stays s) (y : Point) → StandsAt (without_attr attr p) at y → StandsAt p at (restored-point attr s the.stay the.is y)
unfolding restored-point
stands-back p at attr s whole free the y stands = (
  restored-solves p attr s y.num whole free the stands.0,
  All-from_recursion (λ m. (IsIn (place m) at → ⊥) → restored attr s y.num (place m) ≡ pos 0) (marks_of (lines p))
      (each-was (λ c. (IsIn c at → ⊥) → restored attr s y.num c ≡ pos 0) p attr
      (λ c is out. restored-far attr s y.num c (mark-far p attr c whole is) ∙ ap (λ (z : ℤ). pos s.target.den *ℤ z) (nothing_outside (without_attr attr p) at y c stands is out) ∙ mul-zero_ℤ (pos s.target.den))
      (λ side out. own side)),
)
  where
    own : (side : Side) → restored attr s y.num (place_of (StayOf attr) side) ≡ pos 0
    own Under = restored-under attr s y.num
    own Over = restored-over attr s y.num

pub still-stands : (p : Problem) (at : List Mark) (attr : ℕ) (x : Point) → StandsAt p at x → StandsAt (without_attr attr p) at x
still-stands p at attr x stands = (
  All-from_recursion (λ l. value_at x.num (equation l) ≡ pos 0) (lines (without_attr attr p)) (lines-left (λ l. value_at x.num (equation l) ≡ pos 0) attr p (λ n m s k. k) (recursion_from_All (λ l. value_at x.num (equation l) ≡ pos 0) (lines p) stands.0)),
  All-from_recursion (λ m. (IsIn (place m) at → ⊥) → x.num (place m) ≡ pos 0) (marks_of (lines (without_attr attr p)))
      (each-impl (λ m. Contains (map place (marks_of (lines (without_attr attr p)))) (place m)) _ (marks_of (lines (without_attr attr p)))
      (λ m is out. nothing_outside p at x (place m) stands (mark-was p attr (place m) is) out)
      (each-in (marks_of (lines (without_attr attr p))) (marks_of (lines (without_attr attr p))) (λ c i. i))),
)

others-left : (attr : ℕ) (P : ℕ → Type 0) (stays : List Stay) → Each (λ (s : Stay). s.attr ≢ attr → P s.attr) stays → Each (λ (s : Stay). P s.attr) (filter (other_stay attr) stays)
others-left attr P [] h = tt
others-left attr P (s ∷ stays) h = elim (cases_eq s.attr attr) [
  | inl e ↦ subst (λ (ss : List Stay). Each (λ (s : Stay). P s.attr) ss) (sym (filter-on attr s stays e)) (others-left attr P stays h.1)
  | inr n ↦ subst (λ (ss : List Stay). Each (λ (s : Stay). P s.attr) ss) (sym (filter-off attr s stays n)) (h.0 n, others-left attr P stays h.1)
]

pub attr_left_corner : (p : Problem) (at : List Mark) (attr : ℕ) → IsWhole p → IsCorner p at → IsFree p attr → IsCorner (without_attr attr p) at
unfolding restored-point
attr_left_corner p at attr whole corner free =
    let t = the-held p attr whole free in
    let small : attr ≤ 2147483648 = small-attr t.0 attr t.1.stay t.1.is in
    record {
      count = corner.count;
      marks = All-from_recursion (λ m. Contains (map place (marks_of (lines (without_attr attr p)))) (place m)) at
          (each-impl (λ m. Contains (map place (marks_of (lines p))) (place m) × IsIn (place m) at) _ at
          (λ m h. mark-left (place m) (λ side e. stay-out p at attr side whole corner free (subst (λ (c : ℕ). IsIn c at) e h.1)) h.0)
          (each-both _ _ at (recursion_from_All (λ m. Contains (map place (marks_of (lines p))) (place m)) at corner.marks) (each-in at at (λ c i. i))));
      apart = corner.apart;
      point = corner.point;
      stands = still-stands p at attr corner.point corner.stands;
      marks_fixed = λ y stands.
          All-from_recursion (λ m. Agree (place m) corner.point y) (marks_of (lines (without_attr attr p)))
          (each-impl (λ m. Contains (map place (marks_of (lines (without_attr attr p)))) (place m)) _ (marks_of (lines (without_attr attr p)))
          (λ m is. agree-less t.0.target.den (corner.point.num (place m)) (y.num (place m)) (corner.point.num one_column) (y.num one_column) (restored attr t.0 y.num (place m)) (restored attr t.0 y.num one_column) t.1.stay.target.lowest.above
          (restored-far attr t.0 y.num (place m) (mark-far p attr (place m) whole is)) (restored-one attr t.0 y.num small)
          (contains_each (λ c. Agree c corner.point (restored-point attr t.0 t.1.stay t.1.is y)) (marks_of (lines p)) (place m)
          (recursion_from_All (λ m. Agree (place m) corner.point (restored-point attr t.0 t.1.stay t.1.is y)) (marks_of (lines p)) (corner.marks_fixed (restored-point attr t.0 t.1.stay t.1.is y) (stands-back p at attr t.0 whole free t.1 y stands))) (mark-was p attr (place m) is)))
          (each-in (marks_of (lines (without_attr attr p))) (marks_of (lines (without_attr attr p))) (λ c i. i)));
      attrs_fixed = λ y stands.
          All-from_recursion (λ (s : Stay). Agree (attr_column s.attr) corner.point y) (without_attr attr p).stays
          (others-left attr (λ a. Agree (attr_column a) corner.point y) p.stays
          (each-impl (λ (s : Stay). Agree (attr_column s.attr) corner.point (restored-point attr t.0 t.1.stay t.1.is y)) _ p.stays
          (λ s h ne. agree-less t.0.target.den (corner.point.num (attr_column s.attr)) (y.num (attr_column s.attr)) (corner.point.num one_column) (y.num one_column) (restored attr t.0 y.num (attr_column s.attr)) (restored attr t.0 y.num one_column) t.1.stay.target.lowest.above
          (restored-far attr t.0 y.num (attr_column s.attr) (far-attr s.attr small ne)) (restored-one attr t.0 y.num small) h)
          (recursion_from_All (λ (s : Stay). Agree (attr_column s.attr) corner.point (restored-point attr t.0 t.1.stay t.1.is y)) p.stays (corner.attrs_fixed (restored-point attr t.0 t.1.stay t.1.is y) (stands-back p at attr t.0 whole free t.1 y stands)))));
    }
  where
    far-attr : (a : ℕ) → attr ≤ 2147483648 → a ≢ attr → IsFar attr (attr_column a)
    far-attr a n ne = ((λ e. absurd (omega (arith, n, e))), (λ e. absurd (omega (arith, n, e))), (λ e. ne (omega (arith, e))))

    mark-left : (c : ℕ) → ((side : Side) → c ≢ place_of (StayOf attr) side) → Contains (map place (marks_of (lines p))) c → Contains (map place (marks_of (lines (without_attr attr p)))) c
    mark-left c far is =
        contains_each (λ v. ((side : Side) → v ≢ place_of (StayOf attr) side) → Contains (map place (marks_of (lines (without_attr attr p)))) v) (marks_of (lines p)) c
        (each-was (λ v. ((side : Side) → v ≢ place_of (StayOf attr) side) → Contains (map place (marks_of (lines (without_attr attr p)))) v) p attr (λ v k g. k) (λ side g. absurd (g side refl))) is far

pub attr_left_rays : (p : Problem) (at : List Mark) (attr : ℕ) → HasRays p at → HasRays (without_attr attr p) at
attr_left_rays p at attr rays c is out =
    let r = rays c (mark-was p attr c is) out in (
      r.0,
      record {
        holds = All-from_recursion (λ l. value_at r.0 (equation l) ≡ pos 0) (lines (without_attr attr p)) (lines-left (λ l. value_at r.0 (equation l) ≡ pos 0) attr p (λ n m s k. k) (recursion_from_All (λ l. value_at r.0 (equation l) ≡ pos 0) (lines p) r.1.holds));
        still = r.1.still;
        here = r.1.here;
        other = All-from_recursion (λ m. (IsIn (place m) at → ⊥) → place m ≢ c → r.0 (place m) ≡ pos 0) (marks_of (lines (without_attr attr p)))
            (each-impl (λ m. Contains (map place (marks_of (lines (without_attr attr p)))) (place m)) _ (marks_of (lines (without_attr attr p)))
            (λ m k gone ne. contains_each (λ v. (IsIn v at → ⊥) → v ≢ c → r.0 v ≡ pos 0) (marks_of (lines p)) (place m) (recursion_from_All (λ m. (IsIn (place m) at → ⊥) → place m ≢ c → r.0 (place m) ≡ pos 0) (marks_of (lines p)) r.1.other) (mark-was p attr (place m) k) gone ne)
            (each-in (marks_of (lines (without_attr attr p))) (marks_of (lines (without_attr attr p))) (λ c i. i)));
      },
    )

-- ---- the equations

restored-deviation : (attr : ℕ) (s : Stay) (y : ℕ → ℤ) (name : RowName) → name ≢ StayOf attr → (place_of name Over < 17179869184) × (place_of name Under < 17179869184) → deviation name (restored attr s y) ≡ pos s.target.den *ℤ deviation name y
restored-deviation attr s y name ne small =
    same-deviation s.target.den (y (place_of name Over)) (y (place_of name Under)) (restored attr s y (place_of name Over)) (restored attr s y (place_of name Under))
    (restored-far attr s y (place_of name Over) ((λ e. ne (same-name name (StayOf attr) Over Under e)), (λ e. ne (same-name name (StayOf attr) Over Over e)), (λ e. absurd (let t = small.0 in omega (arith, t, e)))))
    (restored-far attr s y (place_of name Under) ((λ e. ne (same-name name (StayOf attr) Under Under e)), (λ e. ne (same-name name (StayOf attr) Under Over e)), (λ e. absurd (let t = small.1 in omega (arith, t, e)))))

-- a quantity in which neither the attribute nor its stay's marks stand
abbrev pub IsWithoutAttr : ℕ → ((ℕ → ℤ) → ℤ) → Type 0
IsWithoutAttr attr quantity = (s : Stay) → IsStay s → s.attr ≡ attr → (y : ℕ → ℤ) → quantity (restored attr s y) ≡ pos s.target.den *ℤ quantity y

pub other_attr_without : (attr a : ℕ) → a ≢ attr → IsWithoutAttr attr (λ x. x (attr_column a))
other_attr_without attr a ne s h e y = let n = small-attr s attr h e in restored-far attr s y (attr_column a) ((λ q. absurd (omega (arith, n, q))), (λ q. absurd (omega (arith, n, q))), (λ q. ne (omega (arith, q))))

pub other_line_without : (attr : ℕ) (name : RowName) → name ≢ StayOf attr → (place_of name Over < 17179869184) × (place_of name Under < 17179869184) → IsWithoutAttr attr (deviation name)
other_line_without attr name ne small s h e y = restored-deviation attr s y name ne small

pub attr_left_line : (p : Problem) (at : List Mark) (attr : ℕ) (quantity : (ℕ → ℤ) → ℤ) (own : ℕ) (by : RowName → ℤ) (num : ℤ) (den : ℕ) → IsWhole p → IsFree p attr → IsWithoutAttr attr quantity → IsLineEquation p at quantity own by num den → by (StayOf attr) ≡ pos 0 → IsLineEquation (without_attr attr p) at quantity own by num den
unfolding restored-point
attr_left_line p at attr quantity own by num den whole free apart e none =
    let t = the-held p attr whole free in
    let small : attr ≤ 2147483648 = small-attr t.0 attr t.1.stay t.1.is in
    record {
      own_positive = e.own_positive;
      den_positive = e.den_positive;
      outside = All-from_recursion (λ l. by l.name ≢ pos 0 → IsOutsideLine at l.name) (lines (without_attr attr p))
          (lines-left (λ l. by l.name ≢ pos 0 → IsOutsideLine at l.name) attr p (λ n m s k. k) (recursion_from_All (λ l. by l.name ≢ pos 0 → IsOutsideLine at l.name) (lines p) e.outside));
      holds = λ y solves.
          let S : ℤ = sum_of (λ l. by l.name *ℤ deviation l.name y.num) (lines (without_attr attr p)) in
          let facts : Each (λ l. IsSmallLine l × (l.name ≢ StayOf attr)) (lines (without_attr attr p)) = each-both IsSmallLine (λ l. l.name ≢ StayOf attr) (lines (without_attr attr p)) (lines-left IsSmallLine attr p (λ n m s k. record { under = k.under; over = k.over; sides = k.sides }) (lines_small p whole)) (left-far p attr) in
          let sum : sum_of (λ l. by l.name *ℤ deviation l.name (restored attr t.0 y.num)) (lines p) ≡ pos t.0.target.den *ℤ S =
          sum-left (λ n. by n *ℤ deviation n (restored attr t.0 y.num)) attr p (ap (λ (z : ℤ). z *ℤ deviation (StayOf attr) (restored attr t.0 y.num)) none ∙ zero-mul_ℤ (deviation (StayOf attr) (restored attr t.0 y.num)))
          ∙ sum-each (λ l. by l.name *ℤ deviation l.name (restored attr t.0 y.num)) (λ l. pos t.0.target.den *ℤ (by l.name *ℤ deviation l.name y.num)) (lines (without_attr attr p))
          (each-impl (λ l. IsSmallLine l × (l.name ≢ StayOf attr)) _ (lines (without_attr attr p)) (λ l k. ap (λ (z : ℤ). by l.name *ℤ z) (restored-deviation attr t.0 y.num l.name k.1 (k.0.over, k.0.under)) ∙ mul_left_comm_ℤ (by l.name) (pos t.0.target.den) (deviation l.name y.num)) facts)
          ∙ mul-sum (pos t.0.target.den) (λ l. by l.name *ℤ deviation l.name y.num) (lines (without_attr attr p)) in
          without-unit t.0.target.den den own (quantity y.num) S num (y.num one_column) t.1.stay.target.lowest.above
          (ap₂ (λ (a b : ℤ). pos den *ℤ (pos own *ℤ a -ℤ b)) (sym (apart t.0 t.1.stay t.1.is y.num)) (sym sum)
          ∙ e.holds (restored-point attr t.0 t.1.stay t.1.is y) (restored-solves p attr t.0 y.num whole free t.1 solves)
          ∙ ap (λ (z : ℤ). pos own *ℤ (num *ℤ z)) (restored-one attr t.0 y.num small));
      lowest = λ k d all. e.lowest k d
          (All-from_recursion (λ l. k ∣ unsigned_abs (by l.name)) (lines p)
          (lines-back (λ l. k ∣ unsigned_abs (by l.name)) (λ l. k ∣ unsigned_abs (by l.name)) attr p (λ h. h) (λ n m s ne h. h) (own-divides k p.stays) (recursion_from_All (λ l. k ∣ unsigned_abs (by l.name)) (lines (without_attr attr p)) all)));
    }
  where
    own-divides : (k : ℕ) (ss : List Stay) → Each (λ (s : Stay). s.attr ≡ attr → (n : ℕ) → k ∣ unsigned_abs (by (StayOf s.attr))) ss
    own-divides k [] = tt
    own-divides k (s ∷ ss) = ((λ q n. subst (λ (z : ℤ). k ∣ unsigned_abs z) (sym (ap (λ (a : ℕ). by (StayOf a)) q ∙ none)) (dvd-zero k)), own-divides k ss)

small-inside : (p : Problem) (at : List Mark) (name : RowName) (side : Side) → IsWhole p → IsCorner p at → IsIn (place_of name side) at → (place_of name Over < 17179869184) × (place_of name Under < 17179869184)
small-inside p at name side whole corner inside =
    let named = inside-named p at name side corner inside in
    (small-mark p (place_of name Over) whole (named-mark p name Over named), small-mark p (place_of name Under) whole (named-mark p name Under named))

pub attr_left_attr : (p : Problem) (at : List Mark) (attr a : ℕ) (own : ℕ) (by : RowName → ℤ) (num : ℤ) (den : ℕ) → IsWhole p → IsCorner p at → IsFree p attr → a ≢ attr → IsLineEquation p at (λ x. x (attr_column a)) own by num den → IsLineEquation (without_attr attr p) at (λ x. x (attr_column a)) own by num den
attr_left_attr p at attr a own by num den whole corner free ne e =
    attr_left_line p at attr (λ x. x (attr_column a)) own by num den whole free (other_attr_without attr a ne) e (attr_none p at attr a own by num den whole corner free ne e)

pub attr_left_inside : (p : Problem) (at : List Mark) (attr : ℕ) (name : RowName) (side : Side) (own : ℕ) (by : RowName → ℤ) (num : ℤ) (den : ℕ) → IsWhole p → IsCorner p at → IsFree p attr → IsIn (place_of name side) at → IsLineEquation p at (deviation name) own by num den → IsLineEquation (without_attr attr p) at (deviation name) own by num den
attr_left_inside p at attr name side own by num den whole corner free inside e =
    attr_left_line p at attr (deviation name) own by num den whole free
    (other_line_without attr name (λ q. stay-out p at attr side whole corner free (subst (λ (k : RowName). IsIn (place_of k side) at) q inside)) (small-inside p at name side whole corner inside))
    e (line_none p at attr name side own by num den whole corner free inside e)
