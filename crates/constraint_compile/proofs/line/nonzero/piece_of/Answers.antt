use Rattle.std.proofs.Common.{◌<◌, ◌*◌, ◌<ℤ◌, ℕ, pos, SFits, arith, refl}
use Rattle.std.specs.Int.{w64}
use borrow.Author.Differences.{ints}
use Rattle.std.proofs.lemmas.Int.{to_z-of_z}
use Rattle.frac_core.specs.Fraction.{IsKept}
use Rattle.constraint_compile.proofs.line.nonzero.piece_of.Goals as goal

above : (n : ℕ) → 0 < n → pos 0 <ℤ pos (n * 2)
above n h = omega (arith, ints)

pub returns-in-Some-clause-value : goal.returns-in-Some-clause-value
returns-in-Some-clause-value c =
    let num_fits : SFits w64 c.num.result = record { sfits = c.num.type_inv } in
    let halves_fits : SFits w64 c.halves.result = record { sfits = c.halves.type_inv } in
    let times_fits : SFits w64 c.times_halves.result = record { sfits = c.times_halves.type_inv } in
    let den_fits : SFits w64 c.double_den.result = record { sfits = c.double_den.type_inv } in
    let num = rw (c.num.ensures.value, c.halves.ensures.value) at (simp to_z-of_z at c.times_halves.ensures.value) in
    simp to_z-of_z (rw (num, c.double_den.ensures.value, c.in-Some.ensures.some c.args.attr) refl)

pub returns-in-Some-clause-kept : goal.returns-in-Some-clause-kept
returns-in-Some-clause-kept c =
    let times_fits : SFits w64 c.times_halves.result = record { sfits = c.times_halves.type_inv } in
    let den_fits : SFits w64 c.double_den.result = record { sfits = c.double_den.type_inv } in
    let kept : IsKept c.in-Some.share.by = c.num.ensures.kept in
    simp to_z-of_z (rw c.double_den.ensures.value (record { num = c.times_halves.ensures.small; above = above c.in-Some.share.by.den c.double_den.ensures.above; den = omega (arith, kept.fits.den_fits) }))
