-- Of the marks that are negative at the end the one that is 0 first.
use Rattle.std.proofs.Common.{◌≡◌, ◌∙◌, inl, inr, ℕ, ◌*◌, ◌<◌, Bool, true, false, List, ℤ, pos, negsuc, ◌+ℤ◌, ◌*ℤ◌, neg_ℤ, ◌≤ℤ◌, ◌<ℤ◌, refl, sym, ap, ap₂, subst, arith, Any}
use Rattle.std.proofs.lemmas.List.Elements.{recursion_from_All}
use borrow.Author.Differences.{ints}
use Rattle.frac_core.specs.Fraction.{Fraction, IsRatio, sum_den, sum_num}
use Rattle.frac_core.proofs.Integers.{diff-add, diff-mul, diff-neg, diff-pos, diff_eq, mul_not_negative, neg-pos, on_2}
use Rattle.frac_core.proofs.Numbers.{as-natural, low-or-up, product-above, product-up, swap-last, up-from}
use Rattle.frac_core.proofs.Products.{above_zero as den-up}
use Rattle.problem_core.specs.declared.parts.Mark.{Mark}
use Rattle.problem_core.specs.declared.parts.RowName.{RowName}
use Rattle.problem_core.specs.declared.parts.Side.{Side}
use Rattle.problem_core.specs.declared.stops.What.TheVariants.{Mark as MarkOf}
use Rattle.problem_core.specs.Layout.{Problem}
use Rattle.problem_core.specs.Corners.{HasNegativeValue, IsCorner, NoNegativeValue, one_column, place}
use Rattle.corner_laws.proofs.MarkWritings.LowestForms.{marks_are_fixed}
use Rattle.corner_laws.proofs.WrittenValues.{contains_each}
use Rattle.corner_lines.proofs.ProblemChanges.ShiftedCorner.{shift_corner}
use Rattle.corner_view.specs.Seen.{HasValueAt, IsKeptCorner}
use Rattle.corner_ends.proofs.Marks.{in_mark}
use Rattle.dual_run.specs.Leaving.{IsLow}
use Rattle.dual_run.proofs.Lows.{low_everywhere, other_not_low, same_or_other, same_sign}
use Rattle.sweep_laws.specs.Fractions.{difference}
use Rattle.sweep_laws.proofs.Farther.{inside-mark}
use Rattle.sweep_run.specs.declared.rates.Crossing.{Crossing}
use Rattle.sweep_run.specs.declared.rates.Rate.{Rate}
use Rattle.sweep_run.specs.declared.ways.Place.{Place}
use Rattle.sweep_run.specs.declared.ways.Way.{Way}
use Rattle.sweep_run.specs.Ways.{HasReached, IsAsFar, IsBackRate, IsCrossing, IsNoLater, IsReached, far_back, there}
use Rattle.sweep_run.proofs.BackRates.{at_its_end}
use Rattle.sweep_run.proofs.Crossings.{numerator-up, rate-up, value-den, zero-there}
use Rattle.sweep_run.proofs.Moves.{HasOwn, shift-to}

ruleset ring = (diff-add, diff-mul, diff-neg, diff-pos, neg-pos)

-- ---- how far back

back-up : (a b : ℤ) → a ≤ℤ b → (x y : ℤ) → x ≡ b → y ≡ neg_ℤ a → pos 0 ≤ℤ (x +ℤ y)
back-up a b h x y e f = omega (arith, ints, h, e, f)

one-times-here : (z : ℤ) (d : ℕ) → z *ℤ (pos 1 *ℤ pos d) ≡ z *ℤ pos d
one-times-here z d = ap (λ (k : ℤ). z *ℤ k) (let e : pos 1 *ℤ pos d ≡ pos d = omega (arith, ints) in e)

minus-here : (z : ℤ) → negsuc 0 *ℤ z ≡ neg_ℤ z
minus-here z = omega (arith, ints)

-- the distance of what is no later isn't below 0
pub far_up : (up : Bool) (w end : Fraction) → IsNoLater up w end → pos 0 ≤ℤ (far_back up w end).num
far_up true w end h = back-up (w.num *ℤ pos end.den) (end.num *ℤ pos w.den) h (end.num *ℤ (pos 1 *ℤ pos w.den)) (negsuc 0 *ℤ (w.num *ℤ pos end.den)) (one-times-here end.num w.den) (minus-here (w.num *ℤ pos end.den))
far_up false w end h = back-up (end.num *ℤ pos w.den) (w.num *ℤ pos end.den) h (w.num *ℤ (pos 1 *ℤ pos end.den)) (negsuc 0 *ℤ (end.num *ℤ pos w.den)) (one-times-here w.num end.den) (minus-here (end.num *ℤ pos w.den))

pub far_den : (up : Bool) (w end : Fraction) → 0 < w.den → 0 < end.den → 0 < (far_back up w end).den
far_den true w end hw he = product-above end.den w.den he hw
far_den false w end hw he = product-above w.den end.den hw he

-- ---- one mark's crossing

zero-value : (y one : ℤ) → y *ℤ pos 1 ≡ pos 0 *ℤ one → y ≡ pos 0
zero-value y one e = let none : pos 0 *ℤ one ≡ pos 0 = omega (arith, ints) in omega (arith, ints, e, none)

zero-ratio : (q s : ℤ) → s ≡ pos 0 → pos 0 *ℤ q ≡ s *ℤ pos 1
zero-ratio q s e = let none : pos 0 *ℤ q ≡ pos 0 = omega (arith, ints) in omega (arith, ints, e, none)

module _ (p : Problem) (at : List Mark) (way : Way) (kept : IsKeptCorner p at) (held : Any (λ r. r.id ≡ way.row) p.rows) (own : HasOwn p way.row way.end) (he : 0 < way.end.den) (m : Mark) (f : Fraction) (hf : 0 < f.den) (has : HasValueAt p at (place m) f) (low : IsLow p at m) where
  pub value_low : f.num <ℤ pos 0
  value_low =
      same_sign (has.0.num (place m)) f.num (pos f.den) (has.0.num one_column) (den-up f.den hf) has.0.positive has.2
      (low_everywhere p at m has.0 kept (in_mark p at m kept low.inside) has.1 low.value)

  value-there : HasValueAt (there p way way.end) at (place m) f
  value-there = subst (λ (q : Problem). HasValueAt q at (place m) f) (sym (at_its_end p at way kept held own he)) has

  -- the value so far back, as it is
  abbrev moved_to : Fraction → ℤ → ℕ → Fraction
  moved_to w n d = record { num = sum_num f n (pos d) (far_back way.up w way.end); den = f.den * (d * (far_back way.up w way.end).den) }

  moved-is : (w : Fraction) (n : ℤ) (d : ℕ) → IsRatio (moved_to w n d) (sum_num f n (pos d) (far_back way.up w way.end)) (sum_den f (pos d) (far_back way.up w way.end))
  moved-is w n d = ap (λ (q : ℤ). sum_num f n (pos d) (far_back way.up w way.end) *ℤ q) (value-den f.den (far_back way.up w way.end).den d)

  corner-there : (w : Fraction) → 0 < w.den → IsCorner (there p way w) at
  corner-there w hw = shift_corner p at way.row way.end w (difference w way.end) kept.whole kept.corner kept.rays (shift-to p way.row way.end w held own he hw)

  -- where no value is negative, neither is that of the moved fraction
  not-low : (w g : Fraction) → 0 < w.den → 0 < g.den → NoNegativeValue (there p way w) at → HasValueAt (there p way w) at (place m) g → pos 0 ≤ℤ g.num
  not-low w g hw hg (x, stands, up) (y, there_y, e) = elim (low-or-up g.num) [
    | inr fine ↦ fine
    | inl down ↦
        let y-low : y.num (place m) <ℤ pos 0 = same_sign g.num (y.num (place m)) (y.num one_column) (pos g.den) y.positive (den-up g.den hg) (sym e) down in
        let x-low : x.num (place m) <ℤ pos 0 = same_sign (y.num (place m)) (x.num (place m)) (x.num one_column) (y.num one_column) x.positive y.positive (marks_are_fixed (there p way w) at (place m) (corner-there w hw) (inside-mark (there p way w) at m (corner-there w hw) low.inside) y x there_y stands) y-low in
        let x-up : pos 0 ≤ℤ x.num (place m) = contains_each (λ c. pos 0 ≤ℤ x.num c) at (place m) (recursion_from_All (λ k. pos 0 ≤ℤ x.num (place k)) at up) low.inside in
        absurd (omega (arith, ints, x-low, x-up))
  ]

  pub rate-above : (rate : Rate) (d : ℕ) → 0 < d → rate.d ≡ pos d → IsBackRate p at way (MarkOf m) rate → (before : Place) → IsReached p way at before → pos 0 <ℤ rate.n
  rate-above rate d hd e is before reached =
      let w : Fraction = before.width in
      let hw : 0 < w.den = reached.is.width.lowest.above in
      let far = far_back way.up w way.end in
      let moved = is.moves (place m) f w (moved_to w rate.n d) refl hf hw value-there
      (subst (λ (z : ℤ). IsRatio (moved_to w rate.n d) (sum_num f rate.n z far) (sum_den f z far)) (sym e) (moved-is w rate.n d)) in
      let den : 0 < (moved_to w rate.n d).den = product-above f.den (d * far.den) hf (product-above d far.den hd (far_den way.up w way.end hw he)) in
      let sum : pos 0 ≤ℤ (moved_to w rate.n d).num = not-low w (moved_to w rate.n d) hw den reached.best.values moved in
      rate-up f.num (pos d) rate.n far.num f.den far.den value_low (den-up d hd) (far_den way.up w way.end hw he) (far_up way.up w way.end reached.is.no_later) sum

  pub crossing_is : (rate : Rate) (x : Crossing) → IsBackRate p at way (MarkOf m) rate → HasReached p way at → x.mark ≡ m → x.p ≡ neg_ℤ (f.num *ℤ rate.d) → x.q ≡ pos f.den *ℤ rate.n → IsCrossing p at way x
  crossing_is rate x is (before, reached) mark num den =
      let d = as-natural rate.d is.above in
      let up : pos 0 <ℤ rate.n = rate-above rate d.0 d.1 d.2 is before reached in
      record {
        above_p = subst (λ (z : ℤ). pos 0 <ℤ z) (sym num) (numerator-up f.num rate.d value_low is.above);
        above_q = subst (λ (z : ℤ). pos 0 <ℤ z) (sym den) (product-up (pos f.den) rate.n (den-up f.den hf) up);
        low = subst (λ (q : Problem). IsLow q at x.mark) (sym (at_its_end p at way kept held own he)) (subst (IsLow p at) (sym mark) low);
        zero = λ w hw there_w.
            let far = far_back way.up w way.end in
            let at_zero : neg_ℤ (f.num *ℤ rate.d) *ℤ pos far.den ≡ far.num *ℤ (pos f.den *ℤ rate.n) = ap (λ (z : ℤ). z *ℤ pos far.den) (sym num) ∙ there_w ∙ ap (λ (z : ℤ). far.num *ℤ z) den in
            let moved = is.moves (place m) f w (record { num = pos 0; den = 1 }) refl hf hw value-there (zero-ratio (sum_den f rate.d far) (sum_num f rate.n rate.d far) (zero-there f.num rate.d rate.n far.num f.den far.den at_zero)) in
            (moved.0, moved.1, ap (λ (k : Mark). moved.0.num (place k)) mark ∙ zero-value (moved.0.num (place m)) (moved.0.num one_column) moved.2);
      }

-- ---- the farthest

pub as_far_self : (x : Crossing) → IsAsFar x x
as_far_self x = let same : x.p *ℤ x.q ≡ x.p *ℤ x.q = refl in omega (arith, ints)

left-far : (yq : ℕ) (zp xq : ℤ) → (zp *ℤ pos yq) *ℤ xq ≡ pos yq *ℤ (zp *ℤ xq)
left-far yq = on_2 (λ zp xq. (zp *ℤ pos yq) *ℤ xq ≡ pos yq *ℤ (zp *ℤ xq)) (λ a a' b b'. simp ring (diff_eq _ _ _ _ (omega arith)))

pub times-right : (a b : ℤ) (n : ℕ) → a ≤ℤ b → (a *ℤ pos n) ≤ℤ (b *ℤ pos n)
times-right a b n h =
    let up : pos 0 ≤ℤ (pos n *ℤ (b +ℤ neg_ℤ a)) = mul_not_negative n (b +ℤ neg_ℤ a) (omega (arith, ints, h)) in
    let same : pos n *ℤ (b +ℤ neg_ℤ a) ≡ b *ℤ pos n +ℤ neg_ℤ (a *ℤ pos n) = on_2 (λ a b. pos n *ℤ (b +ℤ neg_ℤ a) ≡ b *ℤ pos n +ℤ neg_ℤ (a *ℤ pos n)) (λ a a' b b'. simp ring (diff_eq _ _ _ _ (omega arith))) a b in
    omega (arith, ints, up, same)

pub cancel-far : (n : ℕ) (a b : ℤ) → 0 < n → (pos n *ℤ a) ≤ℤ (pos n *ℤ b) → a ≤ℤ b
cancel-far n a b above h =
    let same : pos n *ℤ (b +ℤ neg_ℤ a) ≡ pos n *ℤ b +ℤ neg_ℤ (pos n *ℤ a) = on_2 (λ a b. pos n *ℤ (b +ℤ neg_ℤ a) ≡ pos n *ℤ b +ℤ neg_ℤ (pos n *ℤ a)) (λ a a' b b'. simp ring (diff_eq _ _ _ _ (omega arith))) a b in
    let up : pos 0 ≤ℤ (b +ℤ neg_ℤ a) = up-from n (b +ℤ neg_ℤ a) above (subst (λ (z : ℤ). pos 0 ≤ℤ z) (sym same) (omega (arith, ints, h))) in
    omega (arith, ints, up)

pub counts-far : (xq yq zq : ℕ) (xp yp zp : ℤ) → 0 < yq → (yp *ℤ pos xq) ≤ℤ (xp *ℤ pos yq) → (zp *ℤ pos yq) ≤ℤ (yp *ℤ pos zq) → (zp *ℤ pos xq) ≤ℤ (xp *ℤ pos zq)
counts-far xq yq zq xp yp zp above first second =
    let a = times-right (zp *ℤ pos yq) (yp *ℤ pos zq) xq second in
    let b = times-right (yp *ℤ pos xq) (xp *ℤ pos yq) zq first in
    let c = left-far yq zp (pos xq) in
    let d = left-far yq xp (pos zq) in
    let turn : (yp *ℤ pos zq) *ℤ pos xq ≡ (yp *ℤ pos xq) *ℤ pos zq = on_turn yp in
    cancel-far yq (zp *ℤ pos xq) (xp *ℤ pos zq) above (omega (arith, ints, a, b, c, d, turn))
  where
    on_turn : (yp : ℤ) → (yp *ℤ pos zq) *ℤ pos xq ≡ (yp *ℤ pos xq) *ℤ pos zq
    on_turn yp = swap-last yp (pos zq) (pos xq)

pub as_far_trans : (x y z : Crossing) → pos 0 <ℤ x.q → pos 0 <ℤ y.q → pos 0 <ℤ z.q → IsAsFar x y → IsAsFar y z → IsAsFar x z
as_far_trans x y z hx hy hz first second =
    let a = as-natural x.q hx in
    let b = as-natural y.q hy in
    let c = as-natural z.q hz in
    subst (λ (q : ℤ). (z.p *ℤ q) ≤ℤ (x.p *ℤ z.q)) (sym a.2)
    (subst (λ (q : ℤ). (z.p *ℤ pos a.0) ≤ℤ (x.p *ℤ q)) (sym c.2)
    (counts-far a.0 b.0 c.0 x.p y.p z.p b.1
    (subst (λ (q : ℤ). (y.p *ℤ pos a.0) ≤ℤ (x.p *ℤ q)) b.2 (subst (λ (q : ℤ). (y.p *ℤ q) ≤ℤ (x.p *ℤ y.q)) a.2 first))
    (subst (λ (q : ℤ). (z.p *ℤ pos b.0) ≤ℤ (y.p *ℤ q)) c.2 (subst (λ (q : ℤ). (z.p *ℤ q) ≤ℤ (y.p *ℤ z.q)) b.2 second))))

-- ---- a line has one low mark

pub one_low : (p : Problem) (at : List Mark) (m n : Mark) → IsKeptCorner p at → IsLow p at m → IsLow p at n → n.row ≡ m.row → n ≡ m
one_low p at m n kept low-m low-n e = elim (same_or_other m.side n.side) [
  | inl s ↦ ap₂ (λ (row : RowName) (side : Side). record { row = row; side = side }) e s
  | inr o ↦
      absurd (other_not_low p at m kept low-m.inside
      (subst (HasNegativeValue p at) (ap₂ (λ (row : RowName) (side : Side). record { row = row; side = side }) e o) low-n.value))
]
