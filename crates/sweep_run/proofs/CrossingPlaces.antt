-- The place of a crossing: its constant is so far before the end as the crossing says.
use Rattle.std.proofs.Common.{◌≡◌, ◌∙◌, inl, inr, ℕ, ◌<◌, Bool, true, false, ℤ, pos, negsuc, ◌*ℤ◌, ◌<ℤ◌, sym, ap, subst}
use lib.IntN.{*ℤ_comm}
use Rattle.frac_core.specs.Fraction.{Fraction, IsKept, IsRatio, IsUnfitRatio, sum_den, sum_num}
use Rattle.frac_core.proofs.Integers.{cancel_mul}
use Rattle.frac_core.proofs.Numbers.{as-natural, product-above, swap-last}
use Rattle.sweep_run.specs.declared.rates.Crossing.{Crossing}
use Rattle.sweep_run.specs.declared.ways.Place.{Place}
use Rattle.sweep_run.specs.declared.ways.Way.{Way}
use Rattle.sweep_run.specs.Ways.{IsPlace, IsPlaceOf, IsUnfitBefore, IsUnfitCrossing, far_back}
use Rattle.sweep_run.proofs.Backs.{gap-down, gap-up, less-by-gap, more-by-gap}

-- a/b is x/y, which is w/z
pub through : (a b x w z : ℤ) (y : ℕ) → 0 < y → a *ℤ pos y ≡ x *ℤ b → x *ℤ z ≡ w *ℤ pos y → a *ℤ z ≡ w *ℤ b
through a b x w z y above first second =
    cancel_mul y (a *ℤ z) (w *ℤ b) above
    (*ℤ_comm (pos y) (a *ℤ z)
    ∙ swap-last a z (pos y)
    ∙ ap (λ (k : ℤ). k *ℤ z) first
    ∙ swap-last x b z
    ∙ ap (λ (k : ℤ). k *ℤ b) second
    ∙ swap-last w (pos y) b
    ∙ *ℤ_comm (w *ℤ b) (pos y))

pub through-up : (a b x w z y : ℤ) → pos 0 <ℤ y → a *ℤ y ≡ x *ℤ b → x *ℤ z ≡ w *ℤ y → a *ℤ z ≡ w *ℤ b
through-up a b x w z y above first second =
    let n = as-natural y above in
    through a b x w z n.0 n.1 (subst (λ (k : ℤ). a *ℤ k ≡ x *ℤ b) n.2 first) (subst (λ (k : ℤ). x *ℤ z ≡ w *ℤ k) n.2 second)

far-above : (up : Bool) (w end : Fraction) → 0 < w.den → 0 < end.den → 0 < (far_back up w end).den
far-above true w end hw he = product-above end.den w.den he hw
far-above false w end hw he = product-above w.den end.den hw he

-- ---- the place

pub place_is : (way : Way) (x : Crossing) (back : Fraction) (place : Place) → IsKept back → IsRatio back x.p x.q → IsPlace way.up way.end place → place.back ≡ back → IsPlaceOf way x place
place_is way x back place kept ratio is same =
    let far = far_back way.up place.width way.end in
    record {
      is = is;
      at =
          through x.p x.q back.num far.num (pos far.den) back.den kept.lowest.above (sym ratio)
          (subst (λ (b : Fraction). IsRatio b far.num (pos far.den)) same is.is);
    }

-- the distance doesn't fit
pub far_unfit : (way : Way) (x : Crossing) → 0 < way.end.den → IsUnfitRatio x.p x.q → IsUnfitCrossing way x
far_unfit way x he unfit = λ w hw at_w. inr (λ g kept r.
    let far = far_back way.up w way.end in
    unfit g kept.lowest (through g.num (pos g.den) far.num x.p x.q far.den (far-above way.up w way.end hw he) r (sym at_w)) kept.fits)

-- ---- the constant

-- a fraction of the same value is as far before the end
same-far : (up : Bool) (w g end back : Fraction) → 0 < w.den → IsRatio g w.num (pos w.den) → IsRatio back (far_back up w end).num (pos (far_back up w end).den) → IsRatio back (far_back up g end).num (pos (far_back up g end).den)
same-far true w g end back hw same r =
    gap-up g.num g.den end.num end.den back.num back.den
    (through g.num (pos g.den) w.num (sum_num end (negsuc 0) (pos 1) back) (sum_den end (pos 1) back) w.den hw same
    (less-by-gap w.num w.den end.num end.den back.num back.den r))
same-far false w g end back hw same r =
    gap-down g.num g.den end.num end.den back.num back.den
    (through g.num (pos g.den) w.num (sum_num end (pos 1) (pos 1) back) (sum_den end (pos 1) back) w.den hw same
    (more-by-gap w.num w.den end.num end.den back.num back.den r))

pub constant_unfit : (way : Way) (x : Crossing) (back : Fraction) → pos 0 <ℤ x.q → IsRatio back x.p x.q → IsUnfitBefore way back → IsUnfitCrossing way x
constant_unfit way x back above ratio unfit = λ w hw at_w. inl (λ g kept r.
    let far = far_back way.up w way.end in
    unfit g kept
    (same-far way.up w g way.end back hw r
    (through-up back.num (pos back.den) x.p far.num (pos far.den) x.q above ratio at_w)))
