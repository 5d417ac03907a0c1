-- The constants of crossings, and which comes first.
use Rattle.std.proofs.Common.{◌≡◌, ◌∙◌, ℕ, ◌*◌, ◌/◌, ◌<◌, Bool, true, false, ℤ, pos, negsuc, ◌+ℤ◌, ◌-ℤ◌, ◌*ℤ◌, neg_ℤ, ◌≤ℤ◌, ◌<ℤ◌, refl, sym, ap, subst, arith, unsigned_abs}
use Rattle.std.specs.Prelude.{if◌then◌else◌}
use borrow.Author.Differences.{ints}
use lib.IntN.{*ℤ_comm}
use lib.Signed.{lt_z}
use Rattle.frac_core.specs.Fraction.{Fraction, IsLowest, IsRatio, sum_num}
use Rattle.frac_core.proofs.Gauss.{scaled}
use Rattle.frac_core.proofs.Integers.{mul-sub_left, mul_assoc_ℤ}
use Rattle.frac_core.proofs.Made.{AreSizes, is_lowest, ratio}
use Rattle.frac_core.proofs.Numbers.{as-natural, product-above, swap-last, up-from}
use Rattle.sweep_laws.specs.Fractions.{IsNoMore, difference}
use Rattle.sweep_run.specs.Ways.{IsNoLater, far_back}
use Rattle.sweep_run.proofs.Backs.{gap-down, gap-part, gap-up, no-later-down, no-later-up, over-both, over-part}
use Rattle.sweep_run.proofs.Soonest.{counts-far, times-right}

-- ---- lowest terms

pub lowest_there : (p : ℤ) (q : ℕ) → 0 < q → (f : Fraction) × IsLowest f × IsRatio f p (pos q)
lowest_there p q above =
    let g = scaled q (unsigned_abs p) q (omega arith) in
    let are : AreSizes p (pos q) (unsigned_abs p) q g.0 = record { above = omega (arith, ints, above); size_is = refl; whole_is = refl; divisor = g.1 } in (
      record { num = if lt_z p (pos 0) then neg_ℤ (pos (unsigned_abs p / g.0)) else pos (unsigned_abs p / g.0); den = q / g.0 },
      is_lowest p (pos q) (if lt_z p (pos 0) then neg_ℤ (pos (unsigned_abs p / g.0)) else pos (unsigned_abs p / g.0)) (lt_z p (pos 0)) (unsigned_abs p) q g.0 are refl,
      ratio p (pos q) (if lt_z p (pos 0) then neg_ℤ (pos (unsigned_abs p / g.0)) else pos (unsigned_abs p / g.0)) (unsigned_abs p) q g.0 are refl,
    )

-- ---- the constant that is p/q before the end

pub record ConstantAt (up : Bool) (end : Fraction) (p q : ℤ) : Type 0 where
  pub w : Fraction
  pub lowest : IsLowest w
  pub at : p *ℤ pos (far_back up w end).den ≡ (far_back up w end).num *ℤ q
  pub to_end : IsNoLater up w end

abbrev so_far : ℤ → ℕ → Fraction
so_far p q = record { num = p; den = q }

constant-at : (up : Bool) (end : Fraction) (p : ℤ) (q : ℕ) → 0 < end.den → pos 0 ≤ℤ p → 0 < q → ConstantAt up end p (pos q)
constant-at true end p q he up above =
    let f = lowest_there (sum_num end (negsuc 0) (pos 1) (so_far p q)) (end.den * q) (product-above end.den q he above) in
    let gap = gap-up f.0.num f.0.den end.num end.den p q (subst (λ (z : ℤ). IsRatio f.0 (sum_num end (negsuc 0) (pos 1) (so_far p q)) z) (sym (over-both end.den q)) f.2) in
    record { w = f.0; lowest = f.1; at = gap; to_end = no-later-up f.0.num f.0.den end.num end.den p q above up gap }
constant-at false end p q he up above =
    let f = lowest_there (sum_num end (pos 1) (pos 1) (so_far p q)) (end.den * q) (product-above end.den q he above) in
    let gap = gap-down f.0.num f.0.den end.num end.den p q (subst (λ (z : ℤ). IsRatio f.0 (sum_num end (pos 1) (pos 1) (so_far p q)) z) (sym (over-both end.den q)) f.2) in
    record { w = f.0; lowest = f.1; at = gap; to_end = no-later-down f.0.num f.0.den end.num end.den p q above up gap }

pub constant_at : (up : Bool) (end : Fraction) (p q : ℤ) → 0 < end.den → pos 0 <ℤ p → pos 0 <ℤ q → ConstantAt up end p q
constant_at up end p q he above den =
    let n = as-natural q den in
    subst (ConstantAt up end p) (sym n.2) (constant-at up end p n.0 he (omega (arith, ints, above)) n.1)

-- ---- the farther one comes first

spread : (z : ℤ) (a b c d : ℕ) → a * b ≡ c * d → (z *ℤ pos a) *ℤ pos b ≡ (z *ℤ pos c) *ℤ pos d
spread z a b c d e = mul_assoc_ℤ z (pos a) (pos b) ∙ ap (λ (n : ℕ). z *ℤ pos n) e ∙ sym (mul_assoc_ℤ z (pos c) (pos d))

out-first : (ed k : ℕ) (w : ℤ) → (w *ℤ pos ed) *ℤ pos k ≡ pos ed *ℤ (w *ℤ pos k)
out-first ed k w = ap (λ (z : ℤ). z *ℤ pos k) (*ℤ_comm w (pos ed)) ∙ mul_assoc_ℤ (pos ed) w (pos k)

-- two distances p/(ed*pd) and .., as numerators over denominators
gap-up-from : (ed pd wd qx qy : ℕ) (px py gp gw delta : ℤ) → 0 < ed → 0 < qx → 0 < qy → px *ℤ pos (ed * pd) ≡ gp *ℤ pos qx → py *ℤ pos (ed * wd) ≡ gw *ℤ pos qy
    → gp *ℤ pos wd -ℤ gw *ℤ pos pd ≡ pos ed *ℤ delta → (py *ℤ pos qx) ≤ℤ (px *ℤ pos qy) → pos 0 ≤ℤ delta
gap-up-from ed pd wd qx qy px py gp gw delta he hx hy x y is far =
    let a : (px *ℤ pos qy) *ℤ pos (ed * (pd * wd)) ≡ (gp *ℤ pos wd) *ℤ pos (qx * qy) =
    spread px qy (ed * (pd * wd)) (ed * pd) (qy * wd) (omega arith) ∙ ap (λ (z : ℤ). z *ℤ pos (qy * wd)) x ∙ spread gp qx (qy * wd) wd (qx * qy) (omega arith) in
    let b : (py *ℤ pos qx) *ℤ pos (ed * (pd * wd)) ≡ (gw *ℤ pos pd) *ℤ pos (qx * qy) =
    spread py qx (ed * (pd * wd)) (ed * wd) (qx * pd) (omega arith) ∙ ap (λ (z : ℤ). z *ℤ pos (qx * pd)) y ∙ spread gw qy (qx * pd) pd (qx * qy) (omega arith) in
    let c = times-right (py *ℤ pos qx) (px *ℤ pos qy) (ed * (pd * wd)) far in
    let d : pos (qx * qy) *ℤ (pos ed *ℤ delta) ≡ (gp *ℤ pos wd) *ℤ pos (qx * qy) -ℤ (gw *ℤ pos pd) *ℤ pos (qx * qy) =
    ap (λ (z : ℤ). pos (qx * qy) *ℤ z) (sym is) ∙ mul-sub_left (pos (qx * qy)) (gp *ℤ pos wd) (gw *ℤ pos pd) ∙ both-turned (qx * qy) (gp *ℤ pos wd) (gw *ℤ pos pd) in
    let up : pos 0 ≤ℤ (pos ed *ℤ delta) = up-from (qx * qy) (pos ed *ℤ delta) (product-above qx qy hx hy) (omega (arith, ints, a, b, c, d)) in
    up-from ed delta he up
  where
    both-turned : (n : ℕ) (u v : ℤ) → pos n *ℤ u -ℤ pos n *ℤ v ≡ u *ℤ pos n -ℤ v *ℤ pos n
    both-turned n u v = let e = *ℤ_comm (pos n) u in let f = *ℤ_comm (pos n) v in omega (arith, ints, e, f)

gap-is : (ed pd wd : ℕ) (e p w : ℤ) → (e *ℤ (pos 1 *ℤ pos pd) +ℤ negsuc 0 *ℤ (p *ℤ pos ed)) *ℤ pos wd -ℤ (e *ℤ (pos 1 *ℤ pos wd) +ℤ negsuc 0 *ℤ (w *ℤ pos ed)) *ℤ pos pd ≡ pos ed *ℤ (w *ℤ pos pd -ℤ p *ℤ pos wd)
gap-is ed pd wd e p w =
    let a = gap-part ed pd wd e p in
    let b = gap-part ed wd pd e w in
    let c = swap-last e (pos pd) (pos wd) in
    let d = mul-sub_left (pos ed) (w *ℤ pos pd) (p *ℤ pos wd) in
    let f = out-first ed pd w in
    let g = out-first ed wd p in
    omega (arith, ints, a, b, c, d, f, g)

over-is : (ed pd wd : ℕ) (e p w : ℤ) → (p *ℤ (pos 1 *ℤ pos ed) +ℤ negsuc 0 *ℤ (e *ℤ pos pd)) *ℤ pos wd -ℤ (w *ℤ (pos 1 *ℤ pos ed) +ℤ negsuc 0 *ℤ (e *ℤ pos wd)) *ℤ pos pd ≡ pos ed *ℤ (p *ℤ pos wd -ℤ w *ℤ pos pd)
over-is ed pd wd e p w =
    let a = over-part ed pd wd e p in
    let b = over-part ed wd pd e w in
    let c = swap-last e (pos pd) (pos wd) in
    let d = mul-sub_left (pos ed) (p *ℤ pos wd) (w *ℤ pos pd) in
    let f = out-first ed pd w in
    let g = out-first ed wd p in
    omega (arith, ints, a, b, c, d, f, g)

turned-den : (a b : ℕ) (z y : ℤ) → z *ℤ pos (a * b) ≡ y → z *ℤ pos (b * a) ≡ y
turned-den a b z y h = ap (λ (n : ℕ). z *ℤ pos n) (let e : b * a ≡ a * b = omega arith in e) ∙ h

not-less : (u v : ℤ) → pos 0 ≤ℤ (v -ℤ u) → u ≤ℤ v
not-less u v h = omega (arith, ints, h)

farther-by : (up : Bool) (end a b : Fraction) (xp yp : ℤ) (xq yq : ℕ) → 0 < end.den → 0 < xq → 0 < yq → xp *ℤ pos (far_back up a end).den ≡ (far_back up a end).num *ℤ pos xq → yp *ℤ pos (far_back up b end).den ≡ (far_back up b end).num *ℤ pos yq
    → (yp *ℤ pos xq) ≤ℤ (xp *ℤ pos yq) → IsNoLater up a b
farther-by true end a b xp yp xq yq he hx hy x y far =
    not-less (a.num *ℤ pos b.den) (b.num *ℤ pos a.den)
    (gap-up-from end.den a.den b.den xq yq xp yp (difference end a).num (difference end b).num (b.num *ℤ pos a.den -ℤ a.num *ℤ pos b.den) he hx hy x y
    (gap-is end.den a.den b.den end.num a.num b.num) far)
farther-by false end a b xp yp xq yq he hx hy x y far =
    not-less (b.num *ℤ pos a.den) (a.num *ℤ pos b.den)
    (gap-up-from end.den a.den b.den xq yq xp yp (difference a end).num (difference b end).num (a.num *ℤ pos b.den -ℤ b.num *ℤ pos a.den) he hx hy
    (turned-den a.den end.den xp ((difference a end).num *ℤ pos xq) x) (turned-den b.den end.den yp ((difference b end).num *ℤ pos yq) y)
    (over-is end.den a.den b.den end.num a.num b.num) far)

pub farther_first : (up : Bool) (end a b : Fraction) (xp xq yp yq : ℤ) → 0 < end.den → pos 0 <ℤ xq → pos 0 <ℤ yq → xp *ℤ pos (far_back up a end).den ≡ (far_back up a end).num *ℤ xq → yp *ℤ pos (far_back up b end).den ≡ (far_back up b end).num *ℤ yq
    → (yp *ℤ xq) ≤ℤ (xp *ℤ yq) → IsNoLater up a b
farther_first up end a b xp xq yp yq he hx hy x y far =
    let m = as-natural xq hx in
    let n = as-natural yq hy in
    farther-by up end a b xp yp m.0 n.0 he m.1 n.1
    (subst (λ (z : ℤ). xp *ℤ pos (far_back up a end).den ≡ (far_back up a end).num *ℤ z) m.2 x)
    (subst (λ (z : ℤ). yp *ℤ pos (far_back up b end).den ≡ (far_back up b end).num *ℤ z) n.2 y)
    (subst (λ (z : ℤ). (yp *ℤ pos m.0) ≤ℤ (xp *ℤ z)) n.2 (subst (λ (z : ℤ). (yp *ℤ z) ≤ℤ (xp *ℤ yq)) m.2 far))

-- ---- one after the other

pub no_more_through : (a b c : Fraction) → 0 < b.den → IsNoMore a b → IsNoMore b c → IsNoMore a c
no_more_through a b c hb first second = counts-far c.den b.den a.den c.num b.num a.num hb second first

pub no_later_through : (up : Bool) (a b c : Fraction) → 0 < b.den → IsNoLater up a b → IsNoLater up b c → IsNoLater up a c
no_later_through true a b c hb first second = no_more_through a b c hb first second
no_later_through false a b c hb first second = no_more_through c b a hb second first
