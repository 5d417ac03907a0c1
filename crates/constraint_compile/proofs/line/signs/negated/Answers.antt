use Rattle.std.proofs.Common.{◌≡◌, SFits, pos, ◌*ℤ◌, ◌-ℤ◌, ℤ, neg_ℤ, sym, ap, ◌∙◌, arith}
use Rattle.std.specs.Int.{w64, w128}
use Rattle.std.proofs.lemmas.Int.{to_z-of_z, fits_signed_from_abs}
use borrow.Author.Differences.{ints}
use Rattle.frac_core.specs.Fraction.{IsKept, IsFitting}
use Rattle.compile_parts.specs.Fractions.{negated}
use Rattle.constraint_compile.proofs.Lowest.{negated_kept}
use Rattle.constraint_compile.proofs.line.signs.negated.Goals as goal
use Rattle.frac_core.proofs.Made.{same_fraction as one_lowest}

opposite_fits : (z : ℤ) → IsFitting z → SFits w128 (pos 0 -ℤ z)
opposite_fits z h = fits_signed_from_abs w128 _ (omega (arith, ints, h))

fits : (z : ℤ) → IsFitting z → SFits w64 z
fits z h = fits_signed_from_abs w64 z (omega (arith, h))

opposite : (z : ℤ) → neg_ℤ z ≡ pos 0 -ℤ z
opposite z = omega (arith, ints)

pub unreachable-requires : goal.unreachable-requires
unreachable-requires c =
    let kept : IsKept c.args.f = c.num.ensures.kept in
    let num_fits : SFits w64 c.num.result = fits _ c.num.ensures.fits in
    let den_fits : SFits w64 c.den.result = fits _ c.den.ensures.fits in
    let num : c.from.result ≡ c.args.f.num = simp to_z-of_z at c.from.ensures ∙ c.num.ensures.value in
    let den : c.from-2.result ≡ pos c.args.f.den = simp to_z-of_z at c.from-2.ensures ∙ c.den.ensures.value in
    let whole : SFits w128 c.from.result = record { sfits = c.from.type_inv } in
    let whole_den : SFits w128 c.from-2.result = record { sfits = c.from-2.type_inv } in
    let made : SFits w128 (pos 0 -ℤ c.from.result) = rw num (opposite_fits c.args.f.num kept.fits.num_fits) in
    let unfit = simp to_z-of_z at c.in-Err.ensures.unfit in
    let none = rw (num, den) at unfit in
    none (negated c.args.f) (negated_kept c.args.f kept).lowest (ap (λ (z : ℤ). z *ℤ pos c.args.f.den) (opposite c.args.f.num)) (negated_kept c.args.f kept).fits

pub returns : goal.returns
returns c =
    let kept : IsKept c.args.f = c.num.ensures.kept in
    let num_fits : SFits w64 c.num.result = fits _ c.num.ensures.fits in
    let den_fits : SFits w64 c.den.result = fits _ c.den.ensures.fits in
    let num : c.from.result ≡ c.args.f.num = simp to_z-of_z at c.from.ensures ∙ c.num.ensures.value in
    let den : c.from-2.result ≡ pos c.args.f.den = simp to_z-of_z at c.from-2.ensures ∙ c.den.ensures.value in
    let whole : SFits w128 c.from.result = record { sfits = c.from.type_inv } in
    let whole_den : SFits w128 c.from-2.result = record { sfits = c.from-2.type_inv } in
    let made : SFits w128 (pos 0 -ℤ c.from.result) = rw num (opposite_fits c.args.f.num kept.fits.num_fits) in
    let value = rw (num, den) at (simp to_z-of_z at c.in-Ok.ensures.value) in
    one_lowest c.in-Ok.fraction (negated c.args.f) c.in-Ok.ensures.lowest (negated_kept c.args.f kept).lowest (value ∙ ap (λ (z : ℤ). z *ℤ pos c.in-Ok.fraction.den) (sym (opposite c.args.f.num)))
