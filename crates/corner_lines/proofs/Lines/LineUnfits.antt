-- Lowest terms of a line's sum; where they do not fit, the quantity has no writing.
use Rattle.std.proofs.Common.{◌≡◌, ◌≢◌, ◌∙◌, ℕ, ◌*◌, ◌/◌, ◌<◌, cond, nat_eq, List, [], ◌∷◌, ◌++◌, ℤ, pos, ◌+ℤ◌, ◌-ℤ◌, ◌*ℤ◌, neg_ℤ, unsigned_abs, sym, ap, ap₂, subst, arith, inl, inr, ◌⊎◌, mul-pos}
use Rattle.std.specs.Int.{◌∣◌, IsGcd}
use Rattle.std.proofs.Math.Nat.{div-mul_cancel}
use Rattle.std.specs.List.{AllByRecursion as Each}
use Rattle.std.proofs.lemmas.Bool.{cases_eq}
use Rattle.std.proofs.lemmas.List.Elements.{All-from_recursion, recursion_from_All}
use lib.IntN.{*ℤ_comm}
use borrow.Author.Differences.{ints}
use Rattle.frac_core.specs.Fraction.{Fraction, IsFitting, IsKept, IsRatio}
use Rattle.frac_core.proofs.Integers.{cancel_mul, mul-add_left, mul-sub_left, mul_assoc_ℤ, mul_left_comm_ℤ, zero_from_mul}
use Rattle.problem_core.specs.declared.parts.Mark.{Mark}
use Rattle.problem_core.specs.declared.parts.RowName.{RowName}
use Rattle.problem_core.specs.declared.parts.Side.{Side}
use Rattle.problem_core.specs.declared.parts.Side.TheVariants.{Under, Over}
use Rattle.problem_core.specs.declared.parts.Term.{Term}
use Rattle.problem_core.specs.Layout.{Line, Problem, lines, coefficient, sum_of, value_at}
use Rattle.problem_core.specs.Kept.{IsWhole}
use Rattle.problem_core.specs.Corners.{IsCorner, IsIn, one_column, place_of}
use Rattle.problem_core.specs.Unfit.{HasNoWriting, IsWritingOf}
use Rattle.problem_core.specs.Rays.{HasRays}
use Rattle.frac_core.proofs.Sums.{sum-append}
use Rattle.problem_core.proofs.Forms.{each-impl, each-both, times, coefficient-times, value-times, mul-sum}
use Rattle.problem_core.proofs.Lowest.{lowest-dvd}
use Rattle.corner_laws.specs.Equations.{IsEquationOf}
use Rattle.corner_laws.proofs.MarkWritings.Directions.{writing_is_row, each-of}
use Rattle.corner_laws.proofs.MarkWritings.Equations.{constant_same, whole_share, writing-lowest, writing_same, spread, not-zero}
use Rattle.corner_laws.proofs.LinePlaces.{AllApart, lines_apart}
use Rattle.corner_laws.specs.Runs.{other_side}
use Rattle.corner_lines.specs.LineEquations.{AreReduced, IsLineEquation, IsLineSum, IsOutsideLine, IsUnfitLine, deviation, mark_form, sign_of}
use Rattle.corner_lines.proofs.Lines.MarkForms.{by-places, each-coefficient, form-value}
use Rattle.corner_lines.proofs.Lines.LineWritings.{at-name, form-outside, inside-named, other-out, same-abs, side-value}
use Rattle.problem_core.proofs.Corners.Conflicts.{sum-each}
use Rattle.frac_core.proofs.Gauss.{above_left as positive-factor}
use Rattle.frac_core.proofs.Numbers.{one-times as plain, times-zero as signed-none, divides-zero as no-part, neg-times, divides-multiple as divisor}
use Rattle.frac_core.proofs.Bools.{count-other as cond_other, count-same as cond_same}

-- ---- an equation without its common factor

pub line_sum : (p : Problem) (at : List Mark) (quantity : (ℕ → ℤ) → ℤ) (own : ℕ) (by : RowName → ℤ) (num : ℤ) (den : ℕ) → IsLineEquation p at quantity own by num den → IsLineSum p at quantity own by num den
line_sum p at quantity own by num den e = record { own_positive = e.own_positive; den_positive = e.den_positive; outside = e.outside; holds = e.holds }

some-part : (g : ℕ) (a b : ℤ) → pos g *ℤ a ≡ b → a ≢ pos 0 → 0 < g → b ≢ pos 0
some-part g a b e some above none = some (zero_from_mul g a above (e ∙ none))

-- den*(own*q - sum) = own*(num*one), own = g*low, sum = g*part, n*den = num*d: without g
reduced-parts : (den d own g low : ℕ) (q sum part num n one : ℤ) → 0 < g → 0 < den → g * low ≡ own → pos g *ℤ part ≡ sum → n *ℤ pos den ≡ num *ℤ pos d → pos den *ℤ (pos own *ℤ q -ℤ sum) ≡ pos own *ℤ (num *ℤ one) → pos d *ℤ (pos low *ℤ q -ℤ part) ≡ pos low *ℤ (n *ℤ one)
reduced-parts den d own g low q sum part num n one above dens e f r h =
    let a : pos own *ℤ q ≡ pos g *ℤ (pos low *ℤ q) = ap (λ (k : ℕ). pos k *ℤ q) (sym e) ∙ mul_assoc_ℤ (pos g) (pos low) q in
    let b : pos own *ℤ (num *ℤ one) ≡ pos g *ℤ (pos low *ℤ (num *ℤ one)) = ap (λ (k : ℕ). pos k *ℤ (num *ℤ one)) (sym e) ∙ mul_assoc_ℤ (pos g) (pos low) (num *ℤ one) in
    let inner : pos own *ℤ q -ℤ sum ≡ pos g *ℤ (pos low *ℤ q -ℤ part) = ap₂ ◌-ℤ◌ a (sym f) ∙ sym (mul-sub_left (pos g) (pos low *ℤ q) part) in
    let less : pos den *ℤ (pos low *ℤ q -ℤ part) ≡ pos low *ℤ (num *ℤ one) =
    cancel_mul g (pos den *ℤ (pos low *ℤ q -ℤ part)) (pos low *ℤ (num *ℤ one)) above
    (mul_left_comm_ℤ (pos g) (pos den) (pos low *ℤ q -ℤ part) ∙ ap (λ (z : ℤ). pos den *ℤ z) (sym inner) ∙ h ∙ b) in
    let turned : pos d *ℤ (num *ℤ one) ≡ pos den *ℤ (n *ℤ one) =
    sym (mul_assoc_ℤ (pos d) num one) ∙ ap (λ (z : ℤ). z *ℤ one) (*ℤ_comm (pos d) num ∙ sym r ∙ *ℤ_comm n (pos den)) ∙ mul_assoc_ℤ (pos den) n one in
    cancel_mul den (pos d *ℤ (pos low *ℤ q -ℤ part)) (pos low *ℤ (n *ℤ one)) dens
    (mul_left_comm_ℤ (pos den) (pos d) (pos low *ℤ q -ℤ part) ∙ ap (λ (z : ℤ). pos d *ℤ z) less ∙ mul_left_comm_ℤ (pos d) (pos low) (num *ℤ one)
    ∙ ap (λ (z : ℤ). pos low *ℤ z) turned ∙ mul_left_comm_ℤ (pos low) (pos den) (n *ℤ one))

pub part-sum : (g : ℕ) (part by : RowName → ℤ) (x : ℕ → ℤ) (ls : List Line) → Each (λ l. pos g *ℤ part l.name ≡ by l.name) ls → pos g *ℤ sum_of (λ l. part l.name *ℤ deviation l.name x) ls ≡ sum_of (λ l. by l.name *ℤ deviation l.name x) ls
part-sum g part by x ls same =
    sym (mul-sum (pos g) (λ l. part l.name *ℤ deviation l.name x) ls)
    ∙ sum-each (λ l. pos g *ℤ (part l.name *ℤ deviation l.name x)) (λ l. by l.name *ℤ deviation l.name x) ls
    (each-impl (λ l. pos g *ℤ part l.name ≡ by l.name) _ ls (λ l e. sym (mul_assoc_ℤ (pos g) (part l.name) (deviation l.name x)) ∙ ap (λ (z : ℤ). z *ℤ deviation l.name x) e) same)

-- the lowest terms of a line's sum are its equation
pub reduced_line : (p : Problem) (at : List Mark) (quantity : (ℕ → ℤ) → ℤ) (own : ℕ) (by : RowName → ℤ) (num : ℤ) (den low : ℕ) (part : RowName → ℤ) (value : Fraction)
    → IsLineSum p at quantity own by num den → AreReduced (lines p) own by low part → 0 < value.den → IsRatio value num (pos den) → IsLineEquation p at quantity low part value.num value.den
reduced_line p at quantity own by num den low part value e r above ratio = record {
  own_positive = r.low_positive;
  den_positive = above;
  outside = All-from_recursion (λ l. part l.name ≢ pos 0 → IsOutsideLine at l.name) (lines p)
      (each-impl (λ l. (pos r.factor *ℤ part l.name ≡ by l.name) × (by l.name ≢ pos 0 → IsOutsideLine at l.name)) (λ l. part l.name ≢ pos 0 → IsOutsideLine at l.name) (lines p)
      (λ l h some. h.1 (some-part r.factor (part l.name) (by l.name) h.0 some r.factor_positive))
      (each-both _ _ (lines p) (recursion_from_All _ (lines p) r.same) (recursion_from_All _ (lines p) e.outside)));
  holds = λ x solves.
      reduced-parts den value.den own r.factor low (quantity x.num) (sum_of (λ l. by l.name *ℤ deviation l.name x.num) (lines p)) (sum_of (λ l. part l.name *ℤ deviation l.name x.num) (lines p)) num value.num (x.num one_column)
      r.factor_positive e.den_positive r.own_same (part-sum r.factor part by x.num (lines p) (recursion_from_All _ (lines p) r.same)) ratio (e.holds x solves);
  lowest = r.lowest;
}

-- ---- what does not fit

-- a line's sum as an equation of marks
pub sum-equation : (p : Problem) (at : List Mark) (quantity : (ℕ → ℤ) → ℤ) (own : ℕ) (by : RowName → ℤ) (num : ℤ) (den : ℕ) → IsWhole p → IsLineSum p at quantity own by num den → IsEquationOf p at quantity (den * own) (times (pos den) (mark_form by (lines p))) (pos own *ℤ num)
sum-equation p at quantity own by num den whole e = record {
  scale_positive = mul-pos e.den_positive e.own_positive;
  outside = λ v some. form-outside p at by whole e.outside v (not-zero den (coefficient v (mark_form by (lines p))) (coefficient v (times (pos den) (mark_form by (lines p)))) (coefficient-times v (pos den) (mark_form by (lines p))) some);
  holds = λ x solves.
      spread den own (quantity x.num) (sum_of (λ l. by l.name *ℤ deviation l.name x.num) (lines p)) num (x.num one_column) (e.holds x solves)
      ∙ ap (λ (z : ℤ). z +ℤ (pos own *ℤ num) *ℤ x.num one_column) (ap (λ (z : ℤ). pos den *ℤ z) (sym (form-value by x.num (lines p))) ∙ sym (value-times x.num (pos den) (mark_form by (lines p))));
}

-- t*(d*f) = (d*s)*l
without-den : (d s t : ℕ) (f l : ℤ) → 0 < d → pos t *ℤ (pos d *ℤ f) ≡ pos (d * s) *ℤ l → pos t *ℤ f ≡ pos s *ℤ l
without-den d s t f l above e = cancel_mul d (pos t *ℤ f) (pos s *ℤ l) above (mul_left_comm_ℤ (pos d) (pos t) f ∙ e ∙ mul_assoc_ℤ (pos d) (pos s) l)

-- v*(d*s) = (s*n)*e
without-own : (d s e : ℕ) (v n : ℤ) → 0 < s → v *ℤ pos (d * s) ≡ (pos s *ℤ n) *ℤ pos e → v *ℤ pos d ≡ n *ℤ pos e
without-own d s e v n above h =
    cancel_mul s (v *ℤ pos d) (n *ℤ pos e) above
    (mul_left_comm_ℤ (pos s) v (pos d) ∙ ap (λ (z : ℤ). v *ℤ z) (*ℤ_comm (pos s) (pos d)) ∙ h ∙ mul_assoc_ℤ (pos s) n (pos e))

neg-divides : (k : ℕ) (z : ℤ) → k ∣ unsigned_abs z → k ∣ unsigned_abs (neg_ℤ z)
neg-divides k z d =
    let w = whole_share k z d in
    divisor k (neg_ℤ z) (neg_ℤ w.0) (ap neg_ℤ (w.1 ∙ *ℤ_comm (pos k) w.0) ∙ sym (neg-times w.0 (pos k)) ∙ *ℤ_comm (neg_ℤ w.0) (pos k))

-- factor times the parts are the numbers: what divides each line's part divides each
parts-divided : (m g : ℕ) (by part : RowName → ℤ) (ls : List Line) → 0 < g → AllApart ls → Each (λ l. (pos g *ℤ part l.name ≡ by l.name) × (m ∣ unsigned_abs (part l.name))) ls → (v : ℕ) (u : ℤ) → pos g *ℤ u ≡ coefficient v (mark_form by ls) → m ∣ unsigned_abs u
parts-divided m g by part ls above apart h v =
    by-places (λ v z. (u : ℤ) → pos g *ℤ u ≡ z → m ∣ unsigned_abs u) by ls apart
    (λ v u e. no-part m u (zero_from_mul g u above e))
    (each-impl (λ l. (pos g *ℤ part l.name ≡ by l.name) × (m ∣ unsigned_abs (part l.name))) _ ls
    (λ l k. (
      λ u e. subst (λ (z : ℤ). m ∣ unsigned_abs z) (cancel_mul g (part l.name) u above (k.0 ∙ sym e)) k.1,
      λ u e. subst (λ (z : ℤ). m ∣ unsigned_abs z) (cancel_mul g (neg_ℤ (part l.name)) u above (*ℤ_comm (pos g) (neg_ℤ (part l.name)) ∙ neg-times (part l.name) (pos g) ∙ ap neg_ℤ (*ℤ_comm (part l.name) (pos g) ∙ k.0) ∙ sym e)) (neg-divides m (part l.name) k.1),
    )) h) v

-- t is a divisor of own
taken-factor : (own t f : ℕ) (c l : ℤ) → 0 < t → f * t ≡ own → pos t *ℤ c ≡ pos own *ℤ l → pos f *ℤ l ≡ c
taken-factor own t f c l above e h =
    cancel_mul t (pos f *ℤ l) c above (sym (mul_assoc_ℤ (pos t) (pos f) l) ∙ ap (λ (n : ℕ). pos n *ℤ l) (let k : t * f ≡ own = omega (arith, e) in k) ∙ sym h)

-- a writing of the quantity has the lowest terms of its sum
pub writing-reduced : (p : Problem) (own t : ℕ) (by : RowName → ℤ) (form : List Term) → IsWhole p → 0 < own → 0 < t → ((v : ℕ) → pos t *ℤ coefficient v (mark_form by (lines p)) ≡ pos own *ℤ coefficient v form)
    → ((k : ℕ) → k ∣ t → ((v : ℕ) → k ∣ unsigned_abs (coefficient v form)) → k ≡ 1) → AreReduced (lines p) own by t (λ name. coefficient (place_of name Over) form)
writing-reduced p own t by form whole owns above e lowest =
    let d : t ∣ own = lowest-dvd t own (λ (v : ℕ). coefficient v form) (λ v. coefficient v (mark_form by (lines p))) above lowest e in
    let f : own / t * t ≡ own = div-mul_cancel t d in
    let fs : 0 < own / t = positive-factor (own / t) t own f owns in
    let each : Each (λ l. pos (own / t) *ℤ coefficient (place_of l.name Over) form ≡ by l.name) (lines p) =
    each-impl (λ l. coefficient (place_of l.name Over) (mark_form by (lines p)) ≡ pos 1 *ℤ by l.name) _ (lines p)
    (λ l c. taken-factor own t (own / t) (coefficient (place_of l.name Over) (mark_form by (lines p))) (coefficient (place_of l.name Over) form) above f (e (place_of l.name Over)) ∙ c ∙ plain (by l.name))
    (each-coefficient by Over (lines p) (lines_apart p whole)) in
    record {
      factor = own / t;
      factor_positive = fs;
      low_positive = above;
      own_same = f;
      same = All-from_recursion (λ l. pos (own / t) *ℤ coefficient (place_of l.name Over) form ≡ by l.name) (lines p) each;
      lowest = λ m dm all. lowest m dm (λ v.
          parts-divided m (own / t) by (λ name. coefficient (place_of name Over) form) (lines p) fs (lines_apart p whole)
          (each-both (λ l. pos (own / t) *ℤ coefficient (place_of l.name Over) form ≡ by l.name) (λ l. m ∣ unsigned_abs (coefficient (place_of l.name Over) form)) (lines p) each (recursion_from_All (λ l. m ∣ unsigned_abs (coefficient (place_of l.name Over) form)) (lines p) all)) v (coefficient v form)
          (taken-factor own t (own / t) (coefficient v (mark_form by (lines p))) (coefficient v form) above f (e v)));
    }

-- where the lowest terms or the value of a line's sum do not fit, its quantity has no writing that fits
pub line_unfit : (p : Problem) (at : List Mark) (quantity : (ℕ → ℤ) → ℤ) (own : ℕ) (by : RowName → ℤ) (num : ℤ) (den : ℕ) → IsWhole p → IsCorner p at → HasRays p at → IsLineSum p at quantity own by num den → IsUnfitLine p own by num den → HasNoWriting p at quantity
line_unfit p at quantity own by num den whole corner rays is unfit t form value w fits each kept =
    let sum = sum-equation p at quantity own by num den whole is in
    let f : List Term = times (pos den) (mark_form by (lines p)) in
    let e : (v : ℕ) → pos t *ℤ coefficient v (mark_form by (lines p)) ≡ pos own *ℤ coefficient v form = λ v.
    without-den den own t (coefficient v (mark_form by (lines p))) (coefficient v form) is.den_positive
    (ap (λ (z : ℤ). pos t *ℤ z) (sym (coefficient-times v (pos den) (mark_form by (lines p))))
    ∙ writing_same p at quantity (den * own) t (times (pos den) (mark_form by (lines p))) form (pos own *ℤ num) value.num value.den corner rays sum w v) in
    unfit t (λ name. coefficient (place_of name Over) form) value
    (writing-reduced p own t by form whole is.own_positive w.scale_positive e (writing-lowest p at quantity t form value.num value.den w))
    (without-own den own value.den value.num num is.own_positive (constant_same p at quantity (den * own) t (times (pos den) (mark_form by (lines p))) form (pos own *ℤ num) value.num value.den corner sum w))
    fits (All-from_recursion (λ l. IsFitting (coefficient (place_of l.name Over) form)) (lines p) (each-of (λ l. IsFitting (coefficient (place_of l.name Over) form)) (lines p) (λ l. each (place_of l.name Over)))) kept

-- ---- of an inside mark

-- the form of the deviation, from that of the mark: its sign times it, less the scale at the other mark
abbrev deviation_form : Side → RowName → ℕ → List Term → List Term
deviation_form side name t form = times (sign_of side) form ++ (record { attr = place_of name (other_side side); by = neg_ℤ (sign_of side *ℤ pos t) } ∷ [])

deviation-coefficient : (side : Side) (name : RowName) (t : ℕ) (form : List Term) (v : ℕ) → coefficient v (deviation_form side name t form) ≡ sign_of side *ℤ coefficient v form +ℤ (cond (nat_eq (place_of name (other_side side)) v) (neg_ℤ (sign_of side *ℤ pos t)) (pos 0) +ℤ pos 0)
deviation-coefficient side name t form v =
    sum-append (λ e. cond (nat_eq e.attr v) e.by (pos 0)) (times (sign_of side) form) (record { attr = place_of name (other_side side); by = neg_ℤ (sign_of side *ℤ pos t) } ∷ [])
    ∙ ap (λ (z : ℤ). z +ℤ (cond (nat_eq (place_of name (other_side side)) v) (neg_ℤ (sign_of side *ℤ pos t)) (pos 0) +ℤ pos 0)) (coefficient-times v (sign_of side) form)

gone : (a b z : ℤ) → z ≡ neg_ℤ b → a ≡ b → a +ℤ (z +ℤ pos 0) ≡ pos 0
gone a b z e f = omega (arith, ints, e, f)

kept-part : (a z : ℤ) → z ≡ pos 0 → a +ℤ (z +ℤ pos 0) ≡ a
kept-part a z e = omega (arith, ints, e)

-- 0 at the other mark, and the sign times the coefficient elsewhere
deviation-cases : (side : Side) (name : RowName) (t : ℕ) (form : List Term) → coefficient (place_of name (other_side side)) form ≡ pos t → (v : ℕ) → ((place_of name (other_side side) ≡ v) × (coefficient v (deviation_form side name t form) ≡ pos 0)) ⊎ (coefficient v (deviation_form side name t form) ≡ sign_of side *ℤ coefficient v form)
deviation-cases side name t form own v =
    elim (cases_eq (place_of name (other_side side)) v) [
      | inl e ↦ inl (
        e,
        deviation-coefficient side name t form v
            ∙ gone (sign_of side *ℤ coefficient v form) (sign_of side *ℤ pos t) (cond (nat_eq (place_of name (other_side side)) v) (neg_ℤ (sign_of side *ℤ pos t)) (pos 0)) (cond_same (place_of name (other_side side)) v (neg_ℤ (sign_of side *ℤ pos t)) e)
            (ap (λ (z : ℤ). sign_of side *ℤ z) (subst (λ (c : ℕ). coefficient c form ≡ pos t) e own)),
      )
      | inr n ↦ inr (deviation-coefficient side name t form v ∙ kept-part (sign_of side *ℤ coefficient v form) (cond (nat_eq (place_of name (other_side side)) v) (neg_ℤ (sign_of side *ℤ pos t)) (pos 0)) (cond_other (place_of name (other_side side)) v (neg_ℤ (sign_of side *ℤ pos t)) n))
    ]

pub twice : (side : Side) (z : ℤ) → sign_of side *ℤ (sign_of side *ℤ z) ≡ z
twice Under z = omega (arith, ints)
twice Over z = omega (arith, ints)

-- den*(t*m - f) = t*(n*one), where m = o + s*dev and s*(s*z) = z
deviation-parts : (den t : ℕ) (side : Side) (m o dev f n one : ℤ) → m ≡ o +ℤ sign_of side *ℤ dev → pos den *ℤ (pos t *ℤ m -ℤ f) ≡ pos t *ℤ (n *ℤ one) → pos den *ℤ (pos t *ℤ dev -ℤ (sign_of side *ℤ f +ℤ (neg_ℤ (sign_of side *ℤ pos t) *ℤ o +ℤ pos 0))) ≡ pos t *ℤ ((sign_of side *ℤ n) *ℤ one)
deviation-parts den t side m o dev f n one e h =
    let s : ℤ = sign_of side in
    let a : s *ℤ (pos t *ℤ m) ≡ (s *ℤ pos t) *ℤ o +ℤ pos t *ℤ dev =
    ap (λ (z : ℤ). s *ℤ (pos t *ℤ z)) e ∙ sym (mul_assoc_ℤ s (pos t) (o +ℤ s *ℤ dev)) ∙ mul-add_left (s *ℤ pos t) o (s *ℤ dev)
    ∙ ap (λ (z : ℤ). (s *ℤ pos t) *ℤ o +ℤ z) (mul_assoc_ℤ s (pos t) (s *ℤ dev) ∙ ap (λ (z : ℤ). s *ℤ z) (mul_left_comm_ℤ (pos t) s dev) ∙ twice side (pos t *ℤ dev)) in
    let b = mul-sub_left s (pos t *ℤ m) f in
    let c = neg-times (s *ℤ pos t) o in
    let inner : pos t *ℤ dev -ℤ (s *ℤ f +ℤ (neg_ℤ (s *ℤ pos t) *ℤ o +ℤ pos 0)) ≡ s *ℤ (pos t *ℤ m -ℤ f) = omega (arith, ints, a, b, c) in
    ap (λ (z : ℤ). pos den *ℤ z) inner ∙ mul_left_comm_ℤ (pos den) s (pos t *ℤ m -ℤ f) ∙ ap (λ (z : ℤ). s *ℤ z) h ∙ mul_left_comm_ℤ s (pos t) (n *ℤ one)
    ∙ ap (λ (z : ℤ). pos t *ℤ z) (sym (mul_assoc_ℤ s n one))

-- the other mark's coefficient in a mark's writing is the scale
other-scale : (p : Problem) (at : List Mark) (name : RowName) (side : Side) (t : ℕ) (form : List Term) (num : ℤ) (den : ℕ) → IsWhole p → IsCorner p at → IsIn (place_of name side) at → IsWritingOf p at (λ x. x (place_of name side)) t form num den → coefficient (place_of name (other_side side)) form ≡ pos t
other-scale p at name side t form num den whole corner inside w = by-side side inside w
  where
    opposite : (a b c d t f : ℤ) → a ≡ b → c ≡ neg_ℤ b → a ≡ t → c ≡ neg_ℤ f → f ≡ t
    opposite a b c d t f e g h k = omega (arith, ints, e, g, h, k)

    by-side : (side : Side) → IsIn (place_of name side) at → IsWritingOf p at (λ x. x (place_of name side)) t form num den → coefficient (place_of name (other_side side)) form ≡ pos t
    by-side Under i w =
        let r = writing_is_row p at (place_of name Under) t form num den whole corner i w in
        let n = inside-named p at name Under corner i in
        opposite (r.1 (place_of name Under)) (r.0 name) (r.1 (place_of name Over)) (pos 0) (pos t) (coefficient (place_of name Over) form)
        (at-name (λ k. r.1 (place_of k Under) ≡ r.0 k) name (lines p) n (recursion_from_All (λ l. r.1 (place_of l.name Under) ≡ r.0 l.name) (lines p) r.2.under))
        (at-name (λ k. r.1 (place_of k Over) ≡ neg_ℤ (r.0 k)) name (lines p) n (recursion_from_All (λ l. r.1 (place_of l.name Over) ≡ neg_ℤ (r.0 l.name)) (lines p) r.2.over))
        r.3 (r.4 (place_of name Over) (λ e. other-out p at name Under whole corner i (subst (λ (c : ℕ). IsIn c at) (sym e) i)))
    by-side Over i w =
        let r = writing_is_row p at (place_of name Over) t form num den whole corner i w in
        let n = inside-named p at name Over corner i in
        let u = at-name (λ k. r.1 (place_of k Under) ≡ r.0 k) name (lines p) n (recursion_from_All (λ l. r.1 (place_of l.name Under) ≡ r.0 l.name) (lines p) r.2.under) in
        let o = at-name (λ k. r.1 (place_of k Over) ≡ neg_ℤ (r.0 k)) name (lines p) n (recursion_from_All (λ l. r.1 (place_of l.name Over) ≡ neg_ℤ (r.0 l.name)) (lines p) r.2.over) in
        let f = r.4 (place_of name Under) (λ e. other-out p at name Over whole corner i (subst (λ (c : ℕ). IsIn c at) (sym e) i)) in
        omega (arith, ints, u, o, r.3, f)

pub signed-kept : (side : Side) (f : Fraction) → IsKept f → IsKept (record { num = sign_of side *ℤ f.num; den = f.den })
signed-kept side f k = record {
  lowest = record { above = k.lowest.above; coprime = subst (λ (n : ℕ). IsGcd n f.den 1) (sym (same-abs side f.num)) k.lowest.coprime };
  fits = record { num_fits = subst (λ (n : ℕ). n < 4398046511104) (sym (same-abs side f.num)) k.fits.num_fits; den_fits = k.fits.den_fits };
}

multiple-back : (side : Side) (k n t : ℕ) (z a d c : ℤ) → a ≡ sign_of side *ℤ c → a ≡ pos k *ℤ z → c ≡ pos k *ℤ (sign_of side *ℤ z)
multiple-back side k n t z a d c e h = sym (twice side c) ∙ ap (λ (w : ℤ). sign_of side *ℤ w) (sym e ∙ h) ∙ mul_left_comm_ℤ (sign_of side) (pos k) z

-- a writing of the inside mark gives one of its line's deviation
deviation-writing : (p : Problem) (at : List Mark) (name : RowName) (side : Side) (t : ℕ) (form : List Term) (num : ℤ) (den : ℕ) → IsWhole p → IsCorner p at → IsIn (place_of name side) at → IsWritingOf p at (λ x. x (place_of name side)) t form num den → IsWritingOf p at (deviation name) t (deviation_form side name t form) (sign_of side *ℤ num) den
deviation-writing p at name side t form num den whole corner inside w =
    let own = other-scale p at name side t form num den whole corner inside w in
    record {
      scale_positive = w.scale_positive;
      den_positive = w.den_positive;
      outside = λ v some. elim (deviation-cases side name t form own v) [
        | inl e ↦ absurd (some e.1)
        | inr e ↦ w.outside v (λ z. some (e ∙ signed-none (sign_of side) (coefficient v form) z))
      ];
      holds = λ x solves.
          ap (λ (z : ℤ). pos den *ℤ (pos t *ℤ deviation name x.num -ℤ z))
          (sum-append (λ e. e.by *ℤ x.num e.attr) (times (sign_of side) form) (record { attr = place_of name (other_side side); by = neg_ℤ (sign_of side *ℤ pos t) } ∷ [])
          ∙ ap (λ (z : ℤ). z +ℤ (neg_ℤ (sign_of side *ℤ pos t) *ℤ x.num (place_of name (other_side side)) +ℤ pos 0)) (value-times x.num (sign_of side) form))
          ∙ deviation-parts den t side (x.num (place_of name side)) (x.num (place_of name (other_side side))) (deviation name x.num) (value_at x.num form) num (x.num one_column) (side-value name side x.num) (w.holds x solves);
      lowest = λ k h n. w.lowest k
          (λ v. elim (deviation-cases side name t form own v) [
            | inl e ↦ (pos n.0, subst (λ (c : ℕ). coefficient c form ≡ pos t) e.0 own ∙ ap pos n.1)
            | inr e ↦ (sign_of side *ℤ (h v).0, multiple-back side k 0 0 (h v).0 (coefficient v (deviation_form side name t form)) (pos 0) (coefficient v form) e (h v).1)
          ]) n;
    }

-- where the deviation has no writing that fits, its inside mark has none
pub mark_has_none : (p : Problem) (at : List Mark) (name : RowName) (side : Side) → IsWhole p → IsCorner p at → IsIn (place_of name side) at → HasNoWriting p at (deviation name) → HasNoWriting p at (λ x. x (place_of name side))
mark_has_none p at name side whole corner inside none t form value w fits each kept =
    let own = other-scale p at name side t form value.num value.den whole corner inside w in
    none t (deviation_form side name t form) (record { num = sign_of side *ℤ value.num; den = value.den })
    (deviation-writing p at name side t form value.num value.den whole corner inside w) fits
    (λ v. elim (deviation-cases side name t form own v) [
      | inl e ↦ subst IsFitting (sym e.1) (omega arith)
      | inr e ↦ subst IsFitting (sym e) (subst (λ (n : ℕ). n < 4398046511104) (sym (same-abs side (coefficient v form))) (each v))
    ])
    (signed-kept side value kept)

pub mark_unfit : (p : Problem) (at : List Mark) (name : RowName) (side : Side) (own : ℕ) (by : RowName → ℤ) (num : ℤ) (den : ℕ) → IsWhole p → IsCorner p at → HasRays p at → IsIn (place_of name side) at → IsLineSum p at (deviation name) own by num den → IsUnfitLine p own by num den → HasNoWriting p at (λ x. x (place_of name side))
mark_unfit p at name side own by num den whole corner rays inside is unfit =
    mark_has_none p at name side whole corner inside (line_unfit p at (deviation name) own by num den whole corner rays is unfit)
