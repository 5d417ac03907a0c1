-- The value of an attribute at a place, and why it doesn't fit there.
use Rattle.std.proofs.Common.{◌≡◌, ◌∙◌, ℕ, ◌*◌, ◌<◌, List, ℤ, pos, ◌+ℤ◌, ◌*ℤ◌, refl, sym, ap, subst, arith}
use lib.IntN.{*ℤ_comm}
use Rattle.frac_core.specs.Fraction.{Fraction, IsRatio, IsUnfitRatio, sum_den, sum_num}
use Rattle.frac_core.proofs.Integers.{cancel_mul, diff-add, diff-mul, diff-neg, diff-pos, diff_eq, neg-pos, on_2, on_3}
use Rattle.frac_core.proofs.Numbers.{as-natural}
use Rattle.problem_core.specs.declared.parts.Mark.{Mark}
use Rattle.problem_core.specs.declared.parts.Stay.{Stay}
use Rattle.problem_core.specs.declared.parts.Term.{Term}
use Rattle.problem_core.specs.declared.stops.What.TheVariants.{Attr}
use Rattle.problem_core.specs.Layout.{HasStay, Problem}
use Rattle.problem_core.specs.Corners.{Agree, IsCorner, Point, StandsAt, attr_column, one_column}
use Rattle.problem_core.specs.Unfit.{IsUnfitWhat, IsWritingOf}
use Rattle.corner_laws.proofs.WrittenValues.{crossed, value_there}
use Rattle.corner_view.specs.Seen.{HasValueAt}
use Rattle.sweep_run.specs.declared.rates.Rate.{Rate}
use Rattle.sweep_run.specs.declared.ways.Place.{Place}
use Rattle.sweep_run.specs.declared.ways.Way.{Way}
use Rattle.sweep_run.specs.Ways.{IsBackRate, IsPlace, far_back, there}
use Rattle.sweep_run.proofs.Shares.{points-agree}

ruleset ring = (diff-add, diff-mul, diff-neg, diff-pos, neg-pos)

-- ---- the distance in other parts

left-part : (fd bd gd : ℕ) (v d : ℤ) → pos bd *ℤ (v *ℤ (pos fd *ℤ (d *ℤ pos gd))) ≡ pos gd *ℤ (v *ℤ (pos fd *ℤ (d *ℤ pos bd)))
left-part fd bd gd = on_2 (λ v d. pos bd *ℤ (v *ℤ (pos fd *ℤ (d *ℤ pos gd))) ≡ pos gd *ℤ (v *ℤ (pos fd *ℤ (d *ℤ pos bd)))) (λ a a' b b'. simp ring (diff_eq _ _ _ _ (omega arith)))

-- over one denominator
right-part : (fd gd : ℕ) (fn d : ℤ) (bd vd : ℕ) (n b : ℤ) → pos gd *ℤ ((fn *ℤ (d *ℤ pos bd) +ℤ n *ℤ (b *ℤ pos fd)) *ℤ pos vd) ≡ pos gd *ℤ ((fn *ℤ (d *ℤ pos bd)) *ℤ pos vd) +ℤ (n *ℤ ((b *ℤ pos gd) *ℤ pos fd)) *ℤ pos vd
right-part fd gd fn d bd vd n b = whole (fn *ℤ (d *ℤ pos bd)) n b
  where
    whole : (k n b : ℤ) → pos gd *ℤ ((k +ℤ n *ℤ (b *ℤ pos fd)) *ℤ pos vd) ≡ pos gd *ℤ (k *ℤ pos vd) +ℤ (n *ℤ ((b *ℤ pos gd) *ℤ pos fd)) *ℤ pos vd
    whole = on_3 (λ k n b. pos gd *ℤ ((k +ℤ n *ℤ (b *ℤ pos fd)) *ℤ pos vd) ≡ pos gd *ℤ (k *ℤ pos vd) +ℤ (n *ℤ ((b *ℤ pos gd) *ℤ pos fd)) *ℤ pos vd) (λ a a' b b' c c'. simp ring (diff_eq _ _ _ _ (omega arith)))

moved-first : (gd bd vd : ℕ) (fn d : ℤ) → pos gd *ℤ ((fn *ℤ (d *ℤ pos bd)) *ℤ pos vd) ≡ pos bd *ℤ ((fn *ℤ (d *ℤ pos gd)) *ℤ pos vd)
moved-first gd bd vd = on_2 (λ fn d. pos gd *ℤ ((fn *ℤ (d *ℤ pos bd)) *ℤ pos vd) ≡ pos bd *ℤ ((fn *ℤ (d *ℤ pos gd)) *ℤ pos vd)) (λ a a' b b'. simp ring (diff_eq _ _ _ _ (omega arith)))

moved-last : (fd bd vd : ℕ) (n g : ℤ) → (n *ℤ ((g *ℤ pos bd) *ℤ pos fd)) *ℤ pos vd ≡ pos bd *ℤ ((n *ℤ (g *ℤ pos fd)) *ℤ pos vd)
moved-last fd bd vd = on_2 (λ n g. (n *ℤ ((g *ℤ pos bd) *ℤ pos fd)) *ℤ pos vd ≡ pos bd *ℤ ((n *ℤ (g *ℤ pos fd)) *ℤ pos vd)) (λ a a' b b'. simp ring (diff_eq _ _ _ _ (omega arith)))

joined : (bd vd : ℕ) (x y : ℤ) → pos bd *ℤ (x *ℤ pos vd) +ℤ pos bd *ℤ (y *ℤ pos vd) ≡ pos bd *ℤ ((x +ℤ y) *ℤ pos vd)
joined bd vd = on_2 (λ x y. pos bd *ℤ (x *ℤ pos vd) +ℤ pos bd *ℤ (y *ℤ pos vd) ≡ pos bd *ℤ ((x +ℤ y) *ℤ pos vd)) (λ a a' b b'. simp ring (diff_eq _ _ _ _ (omega arith)))

-- what is so far back by the one fraction is so by the other
pub other-distance : (f v b g : Fraction) (n d : ℤ) → 0 < b.den → b.num *ℤ pos g.den ≡ g.num *ℤ pos b.den → IsRatio v (sum_num f n d b) (sum_den f d b) → IsRatio v (sum_num f n d g) (sum_den f d g)
other-distance f v b g n d above same ratio =
    cancel_mul b.den (v.num *ℤ (pos f.den *ℤ (d *ℤ pos g.den))) ((f.num *ℤ (d *ℤ pos g.den) +ℤ n *ℤ (g.num *ℤ pos f.den)) *ℤ pos v.den) above
    (left-part f.den b.den g.den v.num d
    ∙ ap (λ (z : ℤ). pos g.den *ℤ z) ratio
    ∙ right-part f.den g.den f.num d b.den v.den n b.num
    ∙ ap (λ (z : ℤ). pos g.den *ℤ ((f.num *ℤ (d *ℤ pos b.den)) *ℤ pos v.den) +ℤ (n *ℤ (z *ℤ pos f.den)) *ℤ pos v.den) same
    ∙ ap (λ (z : ℤ). z +ℤ (n *ℤ ((g.num *ℤ pos b.den) *ℤ pos f.den)) *ℤ pos v.den) (moved-first g.den b.den v.den f.num d)
    ∙ ap (λ (z : ℤ). pos b.den *ℤ ((f.num *ℤ (d *ℤ pos g.den)) *ℤ pos v.den) +ℤ z) (moved-last f.den b.den v.den n g.num)
    ∙ joined b.den v.den (f.num *ℤ (d *ℤ pos g.den)) (n *ℤ (g.num *ℤ pos f.den)))

-- ---- at a place

module _ (p : Problem) (at : List Mark) (way : Way) (attr : ℕ) (place : Place) (rate : Rate) (f : Fraction) (is : IsPlace way.up way.end place) (moves : IsBackRate p at way (Attr attr) rate) (hf : 0 < f.den) (has : HasValueAt (there p way way.end) at (attr_column attr) f) where
  abbrev far : Fraction
  far = far_back way.up place.width way.end

  pub value_there_is : (v : Fraction) → IsRatio v (sum_num f rate.n rate.d place.back) (sum_den f rate.d place.back) → HasValueAt (there p way place.width) at (attr_column attr) v
  value_there_is v ratio = moves.moves (attr_column attr) f place.width v refl hf is.width.lowest.above has (other-distance f v place.back far rate.n rate.d is.back.lowest.above is.is ratio)

  -- ---- what doesn't fit

  abbrev moved : ℕ → Fraction
  moved d = record { num = sum_num f rate.n (pos d) place.back; den = f.den * (d * place.back.den) }

  value-den : (d : ℕ) → pos f.den *ℤ (pos d *ℤ pos place.back.den) ≡ pos (f.den * (d * place.back.den))
  value-den d = simp ring (diff_eq _ _ _ _ (omega arith))

  moved-is : (d : ℕ) → IsRatio (moved d) (sum_num f rate.n (pos d) place.back) (sum_den f (pos d) place.back)
  moved-is d = ap (λ (q : ℤ). sum_num f rate.n (pos d) place.back *ℤ q) (value-den d)

  one-fraction : (corner : IsCorner (there p way place.width) at) → HasStay p.stays attr → (g h : Fraction) → HasValueAt (there p way place.width) at (attr_column attr) g → HasValueAt (there p way place.width) at (attr_column attr) h → g.num *ℤ pos h.den ≡ h.num *ℤ pos g.den
  one-fraction corner (i, s, within, same, e) g h (x, hx, vx) (y, hy, vy) =
      let agree : (z : Point) → StandsAt (there p way place.width) at z → Agree (attr_column attr) corner.point z = λ z hz. subst (λ (n : ℕ). Agree (attr_column n) corner.point z) (ap (λ (t : Stay). t.attr) same ∙ e) (corner.attrs_fixed z hz i s within) in
      crossed g.num h.num (corner.point.num (attr_column attr)) g.den h.den (corner.point.num one_column) corner.point.positive
      (points-agree g.den (x.num (attr_column attr)) (x.num one_column) (corner.point.num (attr_column attr)) g.num (corner.point.num one_column) x.positive (sym (agree x hx)) vx)
      (points-agree h.den (y.num (attr_column attr)) (y.num one_column) (corner.point.num (attr_column attr)) h.num (corner.point.num one_column) y.positive (sym (agree y hy)) vy)

  written-value : (corner : IsCorner (there p way place.width) at) → (value : Fraction) (scale : ℕ) (w : List Term) → IsWritingOf (there p way place.width) at (λ x. x (attr_column attr)) scale w value.num value.den → HasValueAt (there p way place.width) at (attr_column attr) value
  written-value corner value scale w is = (corner.point, corner.stands, *ℤ_comm (corner.point.num (attr_column attr)) (pos value.den) ∙ value_there (there p way place.width) at (λ x. x (attr_column attr)) scale w value.num value.den corner.point is corner.stands)

  -- an equal fraction is the same ratio
  carried-ratio : (g : Fraction) (d : ℕ) → g.num *ℤ pos (f.den * (d * place.back.den)) ≡ sum_num f rate.n (pos d) place.back *ℤ pos g.den → IsRatio g (sum_num f rate.n (pos d) place.back) (sum_den f (pos d) place.back)
  carried-ratio g d e = ap (λ (q : ℤ). g.num *ℤ q) (value-den d) ∙ e

  pub value_unfit : IsCorner (there p way place.width) at → HasStay p.stays attr → IsUnfitRatio (sum_num f rate.n rate.d place.back) (sum_den f rate.d place.back) → IsUnfitWhat (there p way place.width) at (Attr attr)
  value_unfit corner stay unfit = (
    stay,
    λ scale form value is fits small kept.
        let d = as-natural rate.d moves.above in
        let moved_value : HasValueAt (there p way place.width) at (attr_column attr) (moved d.0) =
        value_there_is (moved d.0) (subst (λ (z : ℤ). IsRatio (moved d.0) (sum_num f rate.n z place.back) (sum_den f z place.back)) (sym d.2) (moved-is d.0)) in
        let one : value.num *ℤ pos (moved d.0).den ≡ (moved d.0).num *ℤ pos value.den = one-fraction corner stay value (moved d.0) (written-value corner value scale form is) moved_value in
        unfit value kept.lowest (subst (λ (z : ℤ). IsRatio value (sum_num f rate.n z place.back) (sum_den f z place.back)) (sym d.2) (carried-ratio value d.0 one)) kept.fits,
  )
