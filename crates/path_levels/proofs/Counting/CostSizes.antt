-- The sizes of reduced costs.
use Rattle.std.proofs.Common.{◌≡◌, ℕ, ◌*◌, ◌/◌, ◌<◌, ◌≤◌, ◌^◌, ℤ, pos, negsuc, ◌≤ℤ◌, unsigned_abs, arith, sym, subst}
use borrow.Author.Differences.{ints}
use Rattle.std.proofs.lemmas.Nat.{mul-le}
use Rattle.std.proofs.Math.Nat.{div-le_self}
use Rattle.problem_core.specs.declared.parts.Side.{Side}
use Rattle.problem_core.specs.declared.parts.Side.TheVariants.{Under, Over}
use Rattle.path_levels.specs.declared.outline.LineFacts.{LineFacts}
use Rattle.path_levels.specs.Outlines.{IsPriced}
use Rattle.path_levels.specs.Shares.{share_of, weight_on}

size-within : (z : ℤ) (n : ℕ) → pos 0 ≤ℤ z → z ≤ℤ pos n → unsigned_abs z ≤ n
size-within (pos k) n low high = omega (arith, ints, high)
size-within (negsuc k) n low high = absurd low.le

weight-small : (side : Side) (f : LineFacts) → IsPriced f → unsigned_abs (weight_on side f) ≤ 1000
weight-small Under f is = size-within f.under 1000 is.under.0 is.under.1
weight-small Over f is = size-within f.over 1000 is.over.0 is.over.1

share-small : (own unit w s : ℕ) → own * unit < 2 ^ 84 → w ≤ 1000 → own * (unit * w / s) < 2 ^ 94
share-small own unit w s less small =
    let d = div-le_self (unit * w) s in
    let h = mul-le own (unit * w / s) own (unit * w) (omega arith) d in
    let g = mul-le (own * unit) w (2 ^ 84) 1000 (omega (arith, less)) small in
    let e : own * (unit * w) ≡ own * unit * w = omega arith in
    omega (arith, h, g, e)

pub counted_small : (side : Side) (own unit n : ℕ) (f : LineFacts) → IsPriced f → own * unit < 2 ^ 84 → n ≡ share_of side unit f → own * n < 2 ^ 94
counted_small side own unit n f is less e =
    subst (λ (m : ℕ). own * m < 2 ^ 94) (sym e) (share-small own unit (unsigned_abs (weight_on side f)) (unsigned_abs f.scale) less (weight-small side f is))
