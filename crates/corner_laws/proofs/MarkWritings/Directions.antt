-- Along a direction a mark's writing says how it moves; and a writing is a sum of lines.
use Rattle.std.proofs.Common.{◌≡◌, ◌≢◌, ◌∙◌, ℕ, ◌<◌, cond, nat_eq, List, [], ◌∷◌, map, ℤ, pos, negsuc, ◌+ℤ◌, ◌-ℤ◌, ◌*ℤ◌, neg_ℤ, ◌<ℤ◌, refl, sym, ap, ap₂, subst, arith, inl, inr, Contains}
use Rattle.std.specs.List.{AllByRecursion as Each}
use Rattle.std.proofs.lemmas.Bool.{cases_eq}
use Rattle.std.proofs.lemmas.List.Elements.{All-from_recursion, recursion_from_All}
use lib.IntN.{*ℤ_comm}
use borrow.Author.Differences.{ints}
use Rattle.frac_core.proofs.Integers.{add-mul_right, cancel_mul, mul_assoc_ℤ, mul-add_left, mul-zero_ℤ, sign_cases}
use Rattle.problem_core.specs.declared.parts.Mark.{Mark}
use Rattle.problem_core.specs.declared.parts.Side.TheVariants.{Under, Over}
use Rattle.problem_core.specs.declared.parts.RowName.{RowName}
use Rattle.problem_core.specs.declared.parts.Term.{Term}
use Rattle.problem_core.specs.Layout.{Line, Problem, coefficient, lines, stay_lines, sum_of, value_at}
use Rattle.problem_core.specs.Kept.{IsWhole}
use Rattle.problem_core.specs.Corners.{IsCorner, IsIn, Point, Solves, attr_column, equation, marks_of, one_column, place, place_of}
use Rattle.problem_core.proofs.Forms.{each-impl, each-both, mul-sum, sum-add, sum-cong, sum-zero, value-plus, value-scaled}
use Rattle.problem_core.proofs.Corners.Tableaus.{unit_at}
use Rattle.problem_core.specs.Rays.{IsRay}
use Rattle.corner_laws.specs.Sums.{IsRowOf}
use Rattle.problem_core.specs.Unfit.{IsWritingOf}
use Rattle.corner_laws.proofs.Swaps.ColumnsStay.{each_marks}
use Rattle.corner_laws.proofs.Counting.{IsSmall, bump, bump_one, cancels, rows_small, sides_apart, stays_small, unit_value}
use Rattle.corner_laws.proofs.LinePlaces.{AllApart, IsPlaced, IsSmallLine, lines_attrs, placed_apart, placed_small, sum-single, whole-placed}
use Rattle.corner_laws.proofs.Rays.{ray_form}
use Rattle.corner_laws.proofs.WrittenValues.{contains_each}
use Rattle.corner_laws.proofs.ZeroColumns.{IsDirection}
use Rattle.problem_core.proofs.Corners.Ends.{value-columns}
use Rattle.frac_core.proofs.Numbers.{times-one, times-zero as no-part, signed-not-zero as not_zero, neg-times}
use Rattle.frac_core.proofs.Bools.{count-other as cond_other, count-same as cond_same}

-- ---- along a direction

pub along-parts : (d s : ℕ) (q r f g k o e : ℤ) → 0 < d → e ≡ pos 0 → pos d *ℤ (pos s *ℤ q -ℤ f) ≡ pos s *ℤ (k *ℤ o) → pos d *ℤ (pos s *ℤ (q +ℤ r) -ℤ (f +ℤ g)) ≡ pos s *ℤ (k *ℤ (o +ℤ e)) → pos s *ℤ r ≡ g
along-parts d s q r f g k o e above none a b =
    let same : o +ℤ e ≡ o = omega (arith, ints, none) in
    let all : pos s *ℤ (q +ℤ r) -ℤ (f +ℤ g) ≡ pos s *ℤ q -ℤ f = cancel_mul d (pos s *ℤ (q +ℤ r) -ℤ (f +ℤ g)) (pos s *ℤ q -ℤ f) above (b ∙ ap (λ (z : ℤ). pos s *ℤ (k *ℤ z)) same ∙ sym a) in
    omega (arith, ints, all, mul-add_left (pos s) q r)

pub moved-one : (x : Point) (n : ℕ → ℤ) → n one_column ≡ pos 0 → x.num one_column ≡ x.num one_column +ℤ n one_column
moved-one x n e = omega (arith, ints, e)

-- scale times what the mark moves is the form's value along the direction
pub along : (p : Problem) (at : List Mark) (c scale : ℕ) (form : List Term) (num : ℤ) (den : ℕ) (x : Point) (n : ℕ → ℤ) → Solves p x → IsWritingOf p at (λ y. y c) scale form num den → IsDirection p n → pos scale *ℤ n c ≡ value_at n form
along p at c scale form num den x n solves w d =
    let y : Point = record { num = λ v. x.num v +ℤ n v; positive = subst (λ (z : ℤ). pos 0 <ℤ z) (moved-one x n d.still) x.positive } in
    let there : Solves p y =
    All-from_recursion (λ l. value_at y.num (equation l) ≡ pos 0) (lines p)
    (each-impl (λ l. (value_at x.num (equation l) ≡ pos 0) × (value_at n (equation l) ≡ pos 0)) _ (lines p)
    (λ l e. value-plus x.num n (equation l) ∙ ap₂ ◌+ℤ◌ e.0 e.1)
    (each-both _ _ (lines p) (recursion_from_All _ (lines p) solves) (recursion_from_All _ (lines p) d.holds))) in
    along-parts den scale (x.num c) (n c) (value_at x.num form) (value_at n form) num (x.num one_column) (n one_column) w.den_positive d.still (w.holds x solves)
    (ap (λ (z : ℤ). pos den *ℤ (pos scale *ℤ (x.num c +ℤ n c) -ℤ z)) (sym (value-plus x.num n form)) ∙ w.holds y there)

-- how far the mark with the column c moves where the outside mark with the column v grows
pub ray_number : (p : Problem) (at : List Mark) (c scale : ℕ) (form : List Term) (num : ℤ) (den : ℕ) (x : Point) (v : ℕ) (ray : ℕ → ℤ) → Solves p x → IsWritingOf p at (λ y. y c) scale form num den → IsRay p at v ray → pos scale *ℤ ray c ≡ coefficient v form *ℤ ray v
ray_number p at c scale form num den x v ray solves w r = along p at c scale form num den x ray solves w (record { holds = r.holds; still = r.still }) ∙ ray_form p at v ray form r w.outside

-- ---- the numbers of the writing as those of a row

-- the scale at the mark itself, less the form's coefficients
abbrev pub entry_of : ℕ → ℕ → List Term → ℕ → ℤ
entry_of c scale form v = pos scale *ℤ unit_at c v -ℤ coefficient v form

unit-swap : (a b : ℕ) → unit_at a b ≡ unit_at b a
unit-swap a b = elim (cases_eq a b) [
  | inl e ↦ cond_same b a (pos 1) (sym e) ∙ sym (cond_same a b (pos 1) e)
  | inr n ↦ cond_other b a (pos 1) (λ e. n (sym e)) ∙ sym (cond_other a b (pos 1) n)
]

opposite-entries : (s u o f g : ℤ) → s *ℤ (u +ℤ o) ≡ f +ℤ g → s *ℤ o -ℤ g ≡ neg_ℤ (s *ℤ u -ℤ f)
opposite-entries s u o f g e = omega (arith, ints, e, mul-add_left s u o)

pub each-of : {X : Type 0} (P : X → Type 0) (xs : List X) → ((x : X) → P x) → Each P xs
each-of P [] h = tt
each-of P (x ∷ xs) h = (h x, each-of P xs h)

pub bump-direction : (p : Problem) (name : RowName) → IsSmall name → IsDirection p (bump name)
bump-direction p name small = record {
  holds = All-from_recursion (λ l. value_at (bump name) (equation l) ≡ pos 0) (lines p)
      (each-of (λ l. value_at (bump name) (equation l) ≡ pos 0) (lines p)
      (λ l. value-plus (unit_at (place_of name Under)) (unit_at (place_of name Over)) (equation l)
      ∙ ap₂ ◌+ℤ◌ (unit_value (place_of name Under) (equation l)) (unit_value (place_of name Over) (equation l)) ∙ cancels l name small));
  still = bump_one name small;
}

-- the two marks of a line have opposite numbers
pub entries-opposite : (p : Problem) (at : List Mark) (c scale : ℕ) (form : List Term) (num : ℤ) (den : ℕ) (x : Point) (name : RowName) → Solves p x → IsWritingOf p at (λ y. y c) scale form num den → IsSmall name → entry_of c scale form (place_of name Over) ≡ neg_ℤ (entry_of c scale form (place_of name Under))
entries-opposite p at c scale form num den x name solves w small =
    opposite-entries (pos scale) (unit_at c (place_of name Under)) (unit_at c (place_of name Over)) (coefficient (place_of name Under) form) (coefficient (place_of name Over) form)
    (ap (λ (z : ℤ). pos scale *ℤ z) (ap₂ ◌+ℤ◌ (unit-swap c (place_of name Under)) (unit-swap c (place_of name Over)))
    ∙ along p at c scale form num den x (bump name) solves w (bump-direction p name small)
    ∙ value-plus (unit_at (place_of name Under)) (unit_at (place_of name Over)) form
    ∙ ap₂ ◌+ℤ◌ (unit_value (place_of name Under) form) (unit_value (place_of name Over) form))

-- ---- the direction in which one attribute grows, and each line's under mark falls

-- how often the column is a line's under mark, each as often as the attribute is in the line
abbrev pub spread : ℕ → List Line → ℕ → ℤ
spread v ls w = sum_of (λ l. coefficient v l.form *ℤ unit_at (place_of l.name Under) w) ls

abbrev pub attr_ray : ℕ → List Line → ℕ → ℤ
attr_ray v ls w = unit_at (attr_column v) w +ℤ negsuc 0 *ℤ spread v ls w

pub spread-none : (v w : ℕ) (ls : List Line) → Each (λ l. w ≢ place_of l.name Under) ls → spread v ls w ≡ pos 0
spread-none v w ls h = sum-zero (λ l. coefficient v l.form *ℤ unit_at (place_of l.name Under) w) ls (each-impl (λ l. w ≢ place_of l.name Under) _ ls (λ l ne. no-part (coefficient v l.form) (unit_at (place_of l.name Under) w) (cond_other w (place_of l.name Under) (pos 1) ne)) h)

pub spread-own : (v : ℕ) (ls : List Line) → AllApart ls → Each (λ l. spread v ls (place_of l.name Under) ≡ coefficient v l.form) ls
spread-own v ls apart =
    each-impl (λ k. spread v ls (place_of k.name Under) ≡ coefficient v k.form *ℤ unit_at (place_of k.name Under) (place_of k.name Under)) _ ls
    (λ k e. e ∙ ap (λ (z : ℤ). coefficient v k.form *ℤ z) (cond_same (place_of k.name Under) (place_of k.name Under) (pos 1) refl) ∙ times-one (coefficient v k.form))
    (sum-single (λ k l. coefficient v l.form *ℤ unit_at (place_of l.name Under) (place_of k.name Under)) (λ k l a. no-part (coefficient v l.form) (unit_at (place_of l.name Under) (place_of k.name Under)) (cond_other (place_of k.name Under) (place_of l.name Under) (pos 1) a.under_under)) ls apart)

zero-value : (form : List Term) → value_at (λ w. pos 0) form ≡ pos 0
zero-value form = sum-zero (λ (e : Term). e.by *ℤ pos 0) form (each-of (λ e. e.by *ℤ pos 0 ≡ pos 0) form (λ e. mul-zero_ℤ e.by))

pub spread-value : (v : ℕ) (ls : List Line) (form : List Term) → value_at (spread v ls) form ≡ sum_of (λ l. coefficient v l.form *ℤ coefficient (place_of l.name Under) form) ls
spread-value v [] form = zero-value form
spread-value v (l ∷ ls) form =
    value-plus (λ w. coefficient v l.form *ℤ unit_at (place_of l.name Under) w) (spread v ls) form
    ∙ ap₂ ◌+ℤ◌ (value-scaled (coefficient v l.form) (unit_at (place_of l.name Under)) form ∙ ap (λ (z : ℤ). coefficient v l.form *ℤ z) (unit_value (place_of l.name Under) form)) (spread-value v ls form)

pub only-first : (u s : ℤ) → s ≡ pos 0 → u +ℤ negsuc 0 *ℤ s ≡ u
only-first u s e = let h : negsuc 0 *ℤ s ≡ pos 0 = no-part (negsuc 0) s e in omega (arith, ints, h)

pub only-rest : (u s c : ℤ) → u ≡ pos 0 → s ≡ c → u +ℤ negsuc 0 *ℤ s ≡ neg_ℤ c
only-rest u s c e f = let h : negsuc 0 *ℤ s ≡ neg_ℤ s = omega (arith, ints) in omega (arith, ints, h, e, f)

pub attr-unit : (v w : ℕ) → unit_at (attr_column v) (attr_column w) ≡ unit_at v w
attr-unit v w = elim (cases_eq w v) [
  | inl e ↦ cond_same (attr_column w) (attr_column v) (pos 1) (ap attr_column e) ∙ sym (cond_same w v (pos 1) e)
  | inr n ↦ cond_other (attr_column w) (attr_column v) (pos 1) (λ e. n (omega (arith, e))) ∙ sym (cond_other w v (pos 1) n)
]

pub parts-none : (q u o k one w c : ℤ) → u ≡ neg_ℤ c → o ≡ pos 0 → one ≡ pos 0 → w ≡ q *ℤ c → q *ℤ u +ℤ (neg_ℤ q *ℤ o +ℤ (k *ℤ one +ℤ w)) ≡ pos 0
parts-none q u o k one w c e f g h =
    let a : q *ℤ u ≡ neg_ℤ (q *ℤ c) = ap (λ (z : ℤ). q *ℤ z) e ∙ *ℤ_comm q (neg_ℤ c) ∙ neg-times c q ∙ ap neg_ℤ (*ℤ_comm c q) in
    let b = no-part (neg_ℤ q) o f in
    let d = no-part k one g in
    omega (arith, ints, a, b, d, h)

pub placed-direction : (p : Problem) (v : ℕ) → IsPlaced p → v ≢ attr_column 0 → IsDirection p (attr_ray v (lines p))
placed-direction p v placed ne =
    let small = placed_small p placed in
    let still : attr_ray v (lines p) one_column ≡ pos 0 =
    only-first (unit_at (attr_column v) one_column) (spread v (lines p) one_column) (spread-none v one_column (lines p) (each-impl IsSmallLine _ (lines p) (λ l s e. absurd (omega (arith, s.under, e))) small))
    ∙ cond_other one_column (attr_column v) (pos 1) (λ e. ne (omega (arith, e))) in
    record {
      still = still;
      holds = All-from_recursion (λ l. value_at (attr_ray v (lines p)) (equation l) ≡ pos 0) (lines p)
          (each-impl (λ l. IsSmallLine l × (spread v (lines p) (place_of l.name Under) ≡ coefficient v l.form)) _ (lines p)
          (λ l h. parts-none (pos l.den) (attr_ray v (lines p) (place_of l.name Under)) (attr_ray v (lines p) (place_of l.name Over)) (neg_ℤ l.num) (attr_ray v (lines p) one_column) (value_at (attr_ray v (lines p)) (map (λ (e : Term). record { attr = attr_column e.attr; by = pos l.den *ℤ e.by }) l.form)) (coefficient v l.form)
          (only-rest (unit_at (attr_column v) (place_of l.name Under)) (spread v (lines p) (place_of l.name Under)) (coefficient v l.form) (cond_other (place_of l.name Under) (attr_column v) (pos 1) (λ e. absurd (omega (arith, h.0.under, e)))) h.1)
          (only-first (unit_at (attr_column v) (place_of l.name Over)) (spread v (lines p) (place_of l.name Over)) (spread-none v (place_of l.name Over) (lines p) (each-of (λ k. place_of l.name Over ≢ place_of k.name Under) (lines p) (λ k. sides_apart l.name k.name)))
          ∙ cond_other (place_of l.name Over) (attr_column v) (pos 1) (λ e. absurd (omega (arith, h.0.over, e))))
          still
          (value-columns (attr_ray v (lines p)) (pos l.den) l.form
          ∙ ap (λ (z : ℤ). pos l.den *ℤ z)
          (sum-cong (λ (e : Term). e.by *ℤ attr_ray v (lines p) (attr_column e.attr)) (λ (e : Term). e.by *ℤ unit_at v e.attr) l.form
          (λ e. ap (λ (z : ℤ). e.by *ℤ z)
          (only-first (unit_at (attr_column v) (attr_column e.attr)) (spread v (lines p) (attr_column e.attr)) (spread-none v (attr_column e.attr) (lines p) (each-impl IsSmallLine _ (lines p) (λ l s e. absurd (omega (arith, s.under, e))) small))
          ∙ attr-unit v e.attr))
          ∙ unit_value v l.form)))
          (each-both _ _ (lines p) small (spread-own v (lines p) (placed_apart p placed))));
    }

attr-direction : (p : Problem) (v : ℕ) → IsWhole p → v ≢ attr_column 0 → IsDirection p (attr_ray v (lines p))
attr-direction p v whole ne = placed-direction p v (whole-placed p whole) ne

-- ---- the lines cancel

entry-times : (s u f c : ℤ) → (s *ℤ u -ℤ f) *ℤ c ≡ s *ℤ (c *ℤ u) +ℤ negsuc 0 *ℤ (c *ℤ f)
entry-times s u f c =
    let one : (s *ℤ u +ℤ neg_ℤ f) *ℤ c ≡ (s *ℤ u) *ℤ c +ℤ neg_ℤ f *ℤ c = add-mul_right (s *ℤ u) (neg_ℤ f) c in
    let same : s *ℤ u -ℤ f ≡ s *ℤ u +ℤ neg_ℤ f = omega (arith, ints) in
    let two : (s *ℤ u) *ℤ c ≡ s *ℤ (c *ℤ u) = mul_assoc_ℤ s u c ∙ ap (λ (z : ℤ). s *ℤ z) (*ℤ_comm u c) in
    let three : neg_ℤ f *ℤ c ≡ neg_ℤ (c *ℤ f) = neg-times f c ∙ ap neg_ℤ (*ℤ_comm f c) in
    let four : negsuc 0 *ℤ (c *ℤ f) ≡ neg_ℤ (c *ℤ f) = omega (arith, ints) in
    ap (λ (z : ℤ). z *ℤ c) same ∙ omega (arith, ints, one, two, three, four)

from-along : (s a m f t : ℤ) → a ≡ pos 0 → f ≡ pos 0 → s *ℤ (a +ℤ negsuc 0 *ℤ m) ≡ f +ℤ negsuc 0 *ℤ t → s *ℤ m +ℤ negsuc 0 *ℤ t ≡ pos 0
from-along s a m f t e g h =
    let one : a +ℤ negsuc 0 *ℤ m ≡ neg_ℤ m = only-rest a m m e refl in
    let two : s *ℤ neg_ℤ m ≡ neg_ℤ (s *ℤ m) = *ℤ_comm s (neg_ℤ m) ∙ neg-times m s ∙ ap neg_ℤ (*ℤ_comm m s) in
    let three : s *ℤ neg_ℤ m ≡ f +ℤ negsuc 0 *ℤ t = ap (λ (z : ℤ). s *ℤ z) (sym one) ∙ h in
    omega (arith, ints, two, three, g)

-- a mark's column is below those of attributes
pub placed-mark : (p : Problem) (c : ℕ) → IsPlaced p → Contains (map place (marks_of (lines p))) c → c < attr_column 0
placed-mark p c placed is =
    contains_each (λ u. u < attr_column 0) (marks_of (lines p)) c
    (each_marks (λ u. u < attr_column 0) (lines p) (each-impl IsSmallLine _ (lines p) (λ l s. s.under) (placed_small p placed)) (each-impl IsSmallLine _ (lines p) (λ l s. s.over) (placed_small p placed))) is

pub small-mark : (p : Problem) (c : ℕ) → IsWhole p → Contains (map place (marks_of (lines p))) c → c < attr_column 0
small-mark p c whole is = placed-mark p c (whole-placed p whole) is

pub none-unless : (p : Problem) (at : List Mark) (form : List Term) (v : ℕ) → ((u : ℕ) → coefficient u form ≢ pos 0 → Contains (map place (marks_of (lines p))) u × (IsIn u at → ⊥)) → ((Contains (map place (marks_of (lines p))) v × (IsIn v at → ⊥)) → ⊥) → coefficient v form ≡ pos 0
none-unless p at form v outside never = elim (sign_cases (coefficient v form)) [
  | inl z ↦ z
  | inr s ↦ absurd (never (outside v (not_zero (coefficient v form) s)))
]

pub no-attr : (v : ℕ) (form : List Term) → Each (λ e. e.attr < attr_column 0) form → v ≡ attr_column 0 → coefficient v form ≡ pos 0
no-attr v form small e = sum-zero (λ (t : Term). cond (nat_eq t.attr v) t.by (pos 0)) form (each-impl (λ (t : Term). t.attr < attr_column 0) _ form (λ t lt. cond_other t.attr v t.by (λ q. absurd (omega (arith, lt, e, q)))) small)

entries-cancel : (p : Problem) (at : List Mark) (c scale : ℕ) (form : List Term) (num : ℤ) (den : ℕ) (x : Point) → IsWhole p → Solves p x → Contains (map place (marks_of (lines p))) c → IsWritingOf p at (λ y. y c) scale form num den
    → (v : ℕ) → sum_of (λ l. entry_of c scale form (place_of l.name Under) *ℤ coefficient v l.form) (lines p) ≡ pos 0
entries-cancel p at c scale form num den x whole solves mark w v =
    elim (cases_eq v (attr_column 0)) [
      | inl e ↦
          sum-zero (λ l. entry_of c scale form (place_of l.name Under) *ℤ coefficient v l.form) (lines p)
          (each-impl (λ l. Each (λ t. t.attr < attr_column 0) l.form) _ (lines p) (λ l h. no-part (entry_of c scale form (place_of l.name Under)) (coefficient v l.form) (no-attr v l.form h e)) (lines_attrs p whole))
      | inr ne ↦
          let moves : pos scale *ℤ attr_ray v (lines p) c ≡ value_at (attr_ray v (lines p)) form = along p at c scale form num den x (attr_ray v (lines p)) solves w (attr-direction p v whole ne) in
          let value : value_at (attr_ray v (lines p)) form ≡ coefficient (attr_column v) form +ℤ negsuc 0 *ℤ sum_of (λ l. coefficient v l.form *ℤ coefficient (place_of l.name Under) form) (lines p) =
          value-plus (unit_at (attr_column v)) (λ u. negsuc 0 *ℤ spread v (lines p) u) form
          ∙ ap₂ ◌+ℤ◌ (unit_value (attr_column v) form) (value-scaled (negsuc 0) (spread v (lines p)) form ∙ ap (λ (z : ℤ). negsuc 0 *ℤ z) (spread-value v (lines p) form)) in
          let below = small-mark p c whole mark in
          sum-cong (λ l. entry_of c scale form (place_of l.name Under) *ℤ coefficient v l.form) (λ l. pos scale *ℤ (coefficient v l.form *ℤ unit_at (place_of l.name Under) c) +ℤ negsuc 0 *ℤ (coefficient v l.form *ℤ coefficient (place_of l.name Under) form)) (lines p)
          (λ l. entry-times (pos scale) (unit_at c (place_of l.name Under)) (coefficient (place_of l.name Under) form) (coefficient v l.form)
          ∙ ap (λ (z : ℤ). pos scale *ℤ (coefficient v l.form *ℤ z) +ℤ negsuc 0 *ℤ (coefficient v l.form *ℤ coefficient (place_of l.name Under) form)) (unit-swap c (place_of l.name Under)))
          ∙ sum-add (λ l. pos scale *ℤ (coefficient v l.form *ℤ unit_at (place_of l.name Under) c)) (λ l. negsuc 0 *ℤ (coefficient v l.form *ℤ coefficient (place_of l.name Under) form)) (lines p)
          ∙ ap₂ ◌+ℤ◌ (mul-sum (pos scale) (λ l. coefficient v l.form *ℤ unit_at (place_of l.name Under) c) (lines p)) (mul-sum (negsuc 0) (λ l. coefficient v l.form *ℤ coefficient (place_of l.name Under) form) (lines p))
          ∙ from-along (pos scale) (unit_at (attr_column v) c) (spread v (lines p) c) (coefficient (attr_column v) form) (sum_of (λ l. coefficient v l.form *ℤ coefficient (place_of l.name Under) form) (lines p))
          (cond_other c (attr_column v) (pos 1) (λ e. absurd (omega (arith, below, e))))
          (none-unless p at form (attr_column v) w.outside (λ o. let h = small-mark p (attr_column v) whole o.0 in absurd (omega (arith, h))))
          (moves ∙ value)
    ]

-- ---- the row

at-own : (s u f : ℤ) → u ≡ pos 1 → f ≡ pos 0 → s *ℤ u -ℤ f ≡ s
at-own s u f e g = ap₂ (λ (a b : ℤ). s *ℤ a -ℤ b) e g ∙ (let h : s *ℤ pos 1 -ℤ pos 0 ≡ s = omega (arith, ints) in h)

at-other : (s u f : ℤ) → u ≡ pos 0 → s *ℤ u -ℤ f ≡ neg_ℤ f
at-other s u f e = let h = no-part s u e in omega (arith, ints, h)

entry-other : (c scale v : ℕ) (form : List Term) → v ≢ c → entry_of c scale form v ≡ neg_ℤ (coefficient v form)
entry-other c scale v form ne = at-other (pos scale) (unit_at c v) (coefficient v form) (cond_other v c (pos 1) ne)

-- an inside mark's writing is a row
pub writing_is_row : (p : Problem) (at : List Mark) (c scale : ℕ) (form : List Term) (num : ℤ) (den : ℕ) → IsWhole p → IsCorner p at → IsIn c at → IsWritingOf p at (λ x. x c) scale form num den
    → (row : RowName → ℤ) × (entry : ℕ → ℤ) × IsRowOf p at c row entry × (entry c ≡ pos scale) × ((v : ℕ) → v ≢ c → entry v ≡ neg_ℤ (coefficient v form))
writing_is_row p at c scale form num den whole corner inside w =
    let mark : Contains (map place (marks_of (lines p))) c = contains_each (λ u. Contains (map place (marks_of (lines p))) u) at c (recursion_from_All (λ m. Contains (map place (marks_of (lines p))) (place m)) at corner.marks) inside in
    let none : (v : ℕ) → IsIn v at → coefficient v form ≡ pos 0 = λ v i. none-unless p at form v w.outside (λ o. o.1 i) in (
      λ name. entry_of c scale form (place_of name Under),
      entry_of c scale form,
      record {
        cancel = entries-cancel p at c scale form num den corner.point whole corner.stands.0 mark w;
        under = All-from_recursion (λ l. entry_of c scale form (place_of l.name Under) ≡ entry_of c scale form (place_of l.name Under)) (lines p) (each-of (λ l. entry_of c scale form (place_of l.name Under) ≡ entry_of c scale form (place_of l.name Under)) (lines p) (λ l. refl));
        over = All-from_recursion (λ l. entry_of c scale form (place_of l.name Over) ≡ neg_ℤ (entry_of c scale form (place_of l.name Under))) (lines p)
            (each-impl (λ l. IsSmall l.name) _ (lines p) (λ l s. entries-opposite p at c scale form num den corner.point l.name corner.stands.0 w s)
            (rows_small p.rows (stay_lines 1001 p.stays) (recursion_from_All _ _ whole.rows) (stays_small 1001 p.stays (recursion_from_All _ _ whole.stays))));
        inside_zero = λ side. All-from_recursion (λ l. IsIn (place_of l.name side) at → place_of l.name side ≢ c → entry_of c scale form (place_of l.name side) ≡ pos 0) (lines p)
            (each-of (λ l. IsIn (place_of l.name side) at → place_of l.name side ≢ c → entry_of c scale form (place_of l.name side) ≡ pos 0) (lines p)
            (λ l i ne. entry-other c scale (place_of l.name side) form ne ∙ ap neg_ℤ (none (place_of l.name side) i)));
      },
      at-own (pos scale) (unit_at c c) (coefficient c form) (cond_same c c (pos 1) refl) (none c inside),
      λ v ne. entry-other c scale v form ne,
    )

-- the same at a corner, which has a point to start from
pub writing_moves : (p : Problem) (at : List Mark) (c scale : ℕ) (form : List Term) (num : ℤ) (den : ℕ) (v : ℕ) (ray : ℕ → ℤ) → IsCorner p at → IsWritingOf p at (λ x. x c) scale form num den → IsRay p at v ray → pos scale *ℤ ray c ≡ coefficient v form *ℤ ray v
writing_moves p at c scale form num den v ray corner w r = ray_number p at c scale form num den corner.point v ray corner.stands.0 w r
