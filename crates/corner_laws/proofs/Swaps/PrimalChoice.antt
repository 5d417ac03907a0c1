-- The primal ratio rule by the writings of the marks inside.
use Rattle.std.proofs.Common.{◌≡◌, ◌∙◌, ℕ, ◌*◌, ◌<◌, List, ℤ, pos, negsuc, ◌+ℤ◌, ◌-ℤ◌, ◌*ℤ◌, neg_ℤ, ◌<ℤ◌, ◌≤ℤ◌, sym, ap, ap₂, arith, mul-pos}
use Rattle.std.proofs.lemmas.List.Elements.{All-from_recursion, recursion_from_All}
use lib.IntN.{*ℤ_comm}
use borrow.Author.Differences.{ints}
use Rattle.frac_core.proofs.Integers.{add-mul_right, mul_assoc_ℤ, mul_left_comm_ℤ, mul-sub_left, mul_not_negative, mul_positive}
use Rattle.problem_core.specs.declared.parts.Mark.{Mark}
use Rattle.problem_core.specs.Layout.{Problem, coefficient}
use Rattle.problem_core.specs.Corners.{IsIn, NoNegativeValue, Swap, exchanged, one_column, place}
use Rattle.problem_core.proofs.Forms.{each-impl, each-both}
use Rattle.corner_laws.specs.Laws.{IsMarkAt}
use Rattle.problem_core.specs.Rays.{HasRays}
use Rattle.corner_laws.specs.Sums.{AreWritings, IsPrimalChoice, Writings}
use Rattle.problem_core.specs.Unfit.{IsWritingOf}
use Rattle.corner_laws.proofs.MarkWritings.Directions.{ray_number}
use Rattle.corner_laws.proofs.Swaps.ValuesStay.{values_stay}
use Rattle.corner_laws.proofs.WrittenValues.{contains_each, value_there}
use Rattle.frac_core.proofs.Numbers.{swap-last, product-up as up-both, low-back as down-back, neg-times, up-times, up-from as sign-from}

-- ---- signs: scale*a = z*r, where r is above 0

pub down-from : (s : ℕ) (a z r : ℤ) → 0 < s → pos 0 <ℤ r → pos s *ℤ a ≡ z *ℤ r → z <ℤ pos 0 → a <ℤ pos 0
down-from s a z (negsuc r) above up e low = absurd (omega (arith, ints, up))
down-from s (negsuc a) z (pos r) above up e low = omega (arith, ints)
down-from s (pos a) z (pos r) above up e low =
    let one : pos 0 <ℤ (pos r *ℤ neg_ℤ z) = mul_positive r (neg_ℤ z) (omega (arith, ints, up)) (omega (arith, ints, low)) in
    let two : pos r *ℤ neg_ℤ z ≡ neg_ℤ (z *ℤ pos r) = *ℤ_comm (pos r) (neg_ℤ z) ∙ neg-times z (pos r) in
    let three : pos 0 ≤ℤ (pos s *ℤ pos a) = mul_not_negative s (pos a) (omega (arith, ints)) in
    absurd (omega (arith, ints, one, two, three, e))

-- ---- products

pub interchange : (a b c d : ℤ) → (a *ℤ b) *ℤ (c *ℤ d) ≡ (a *ℤ c) *ℤ (b *ℤ d)
interchange a b c d = mul_assoc_ℤ a b (c *ℤ d) ∙ ap (λ (z : ℤ). a *ℤ z) (mul_left_comm_ℤ b c d) ∙ sym (mul_assoc_ℤ a c (b *ℤ d))

-- d*x = n*o and t*y = z*r
pub both-scaled : (d t k x y n o z r : ℤ) → d *ℤ x ≡ n *ℤ o → t *ℤ y ≡ z *ℤ r → (d *ℤ (t *ℤ k)) *ℤ (x *ℤ y) ≡ (n *ℤ (z *ℤ k)) *ℤ (o *ℤ r)
both-scaled d t k x y n o z r e f =
    interchange d (t *ℤ k) x y ∙ ap₂ ◌*ℤ◌ e (swap-last t k y ∙ ap (λ (q : ℤ). q *ℤ k) f ∙ swap-last z r k) ∙ interchange n o (z *ℤ k) r

less-times : (a b c : ℤ) → pos 0 <ℤ c → a ≤ℤ b → (a *ℤ c) ≤ℤ (b *ℤ c)
less-times a b c up h =
    let one : pos 0 ≤ℤ ((b +ℤ neg_ℤ a) *ℤ c) = up-times (b +ℤ neg_ℤ a) c (omega (arith, ints, h)) up in
    omega (arith, ints, one, add-mul_right b (neg_ℤ a) c, neg-times a c)

less-from : (n : ℕ) (a b : ℤ) → 0 < n → (pos n *ℤ a) ≤ℤ (pos n *ℤ b) → a ≤ℤ b
less-from n a b above h =
    let one : pos 0 ≤ℤ (b -ℤ a) = sign-from n (b -ℤ a) above (omega (arith, ints, h, mul-sub_left (pos n) b a)) in
    omega (arith, ints, one)

-- the ratios of x over y and u over v, by whole numbers
ratio : (d s e t : ℕ) (x y u v n m z q o r : ℤ) → 0 < d → 0 < s → 0 < e → 0 < t → pos 0 <ℤ o → pos 0 <ℤ r → pos d *ℤ x ≡ n *ℤ o → pos s *ℤ y ≡ z *ℤ r → pos e *ℤ u ≡ m *ℤ o → pos t *ℤ v ≡ q *ℤ r
    → (n *ℤ (q *ℤ pos (s * e))) ≤ℤ (m *ℤ (z *ℤ pos (t * d))) → (x *ℤ v) ≤ℤ (u *ℤ y)
ratio d s e t x y u v n m z q o r da sa ea ta oa ra xe ye ue ve h =
    let whole : 0 < d * (t * (s * e)) = mul-pos da (mul-pos ta (mul-pos sa ea)) in
    let left : pos (d * (t * (s * e))) *ℤ (x *ℤ v) ≡ (n *ℤ (q *ℤ pos (s * e))) *ℤ (o *ℤ r) = both-scaled (pos d) (pos t) (pos (s * e)) x v n o q r xe ve in
    let same : d * (t * (s * e)) ≡ e * (s * (t * d)) = omega arith in
    let right : pos (d * (t * (s * e))) *ℤ (u *ℤ y) ≡ (m *ℤ (z *ℤ pos (t * d))) *ℤ (o *ℤ r) = ap (λ (k : ℕ). pos k *ℤ (u *ℤ y)) same ∙ both-scaled (pos e) (pos s) (pos (t * d)) u y m o z r ue ye in
    let all = less-times (n *ℤ (q *ℤ pos (s * e))) (m *ℤ (z *ℤ pos (t * d))) (o *ℤ r) (up-both o r oa ra) h in
    less-from (d * (t * (s * e))) (x *ℤ v) (u *ℤ y) whole (omega (arith, ints, all, left, right))

-- ---- all marks

-- where the mark of the least ratio by writings leaves, no value is negative at the next corner
pub primal_choice_stays : (p : Problem) (at : List Mark) (s : Swap) (w : Writings) → HasRays p at → IsMarkAt p (place s.enter) → (IsIn (place s.enter) at → ⊥) → IsIn (place s.leave) at → AreWritings p at w → IsPrimalChoice at s w → NoNegativeValue p at → NoNegativeValue p (exchanged s at)
primal_choice_stays p at s w rays mark enters leaves writes (low, least) (x, stands, values) =
    let r = rays (place s.enter) mark enters in
    let each = recursion_from_All (λ m. IsWritingOf p at (λ x. x (place m)) (w.scale (place m)) (w.form (place m)) (w.num (place m)) (w.den (place m))) at writes in
    let own : IsWritingOf p at (λ x. x (place s.leave)) (w.scale (place s.leave)) (w.form (place s.leave)) (w.num (place s.leave)) (w.den (place s.leave)) =
    contains_each (λ c. IsWritingOf p at (λ x. x c) (w.scale c) (w.form c) (w.num c) (w.den c)) at (place s.leave) each leaves in
    let moves : (c : ℕ) → IsWritingOf p at (λ x. x c) (w.scale c) (w.form c) (w.num c) (w.den c) → pos (w.scale c) *ℤ r.0 c ≡ coefficient (place s.enter) (w.form c) *ℤ r.0 (place s.enter) =
    λ c h. ray_number p at c (w.scale c) (w.form c) (w.num c) (w.den c) x (place s.enter) r.0 stands.0 h r.1 in
    let there : (c : ℕ) → IsWritingOf p at (λ x. x c) (w.scale c) (w.form c) (w.num c) (w.den c) → pos (w.den c) *ℤ x.num c ≡ w.num c *ℤ x.num one_column =
    λ c h. value_there p at (λ y. y c) (w.scale c) (w.form c) (w.num c) (w.den c) x h stands in
    values_stay p at s x r.0 mark enters leaves r.1 stands values (
      down-from (w.scale (place s.leave)) (r.0 (place s.leave)) (coefficient (place s.enter) (w.form (place s.leave))) (r.0 (place s.enter)) own.scale_positive r.1.here (moves (place s.leave) own) low,
      All-from_recursion (λ m. r.0 (place m) <ℤ pos 0 → (x.num (place m) *ℤ r.0 (place s.leave)) ≤ℤ (x.num (place s.leave) *ℤ r.0 (place m))) at
          (each-impl (λ m. IsWritingOf p at (λ x. x (place m)) (w.scale (place m)) (w.form (place m)) (w.num (place m)) (w.den (place m)) × (coefficient (place s.enter) (w.form (place m)) <ℤ pos 0
          → (w.num (place m) *ℤ (coefficient (place s.enter) (w.form (place s.leave)) *ℤ pos (w.scale (place m) * w.den (place s.leave)))) ≤ℤ (w.num (place s.leave) *ℤ (coefficient (place s.enter) (w.form (place m)) *ℤ pos (w.scale (place s.leave) * w.den (place m)))))) _ at
          (λ m h down.
          ratio (w.den (place m)) (w.scale (place m)) (w.den (place s.leave)) (w.scale (place s.leave)) (x.num (place m)) (r.0 (place m)) (x.num (place s.leave)) (r.0 (place s.leave)) (w.num (place m)) (w.num (place s.leave))
          (coefficient (place s.enter) (w.form (place m))) (coefficient (place s.enter) (w.form (place s.leave))) (x.num one_column) (r.0 (place s.enter))
          h.0.den_positive h.0.scale_positive own.den_positive own.scale_positive x.positive r.1.here (there (place m) h.0) (moves (place m) h.0) (there (place s.leave) own) (moves (place s.leave) own)
          (h.1 (down-back (w.scale (place m)) (r.0 (place m)) (coefficient (place s.enter) (w.form (place m))) (r.0 (place s.enter)) h.0.scale_positive r.1.here (moves (place m) h.0) down)))
          (each-both _ _ at each (recursion_from_All (λ m. coefficient (place s.enter) (w.form (place m)) <ℤ pos 0
          → (w.num (place m) *ℤ (coefficient (place s.enter) (w.form (place s.leave)) *ℤ pos (w.scale (place m) * w.den (place s.leave)))) ≤ℤ (w.num (place s.leave) *ℤ (coefficient (place s.enter) (w.form (place m)) *ℤ pos (w.scale (place s.leave) * w.den (place m))))) at least))),
    )
