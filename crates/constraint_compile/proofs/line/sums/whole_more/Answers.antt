use Rattle.std.proofs.Common.{◌≡◌, ◌<◌, ◌≤◌, ◌^◌, ℤ, pos, ◌+ℤ◌, ◌*ℤ◌, SFits, arith, unsigned_abs}
use Rattle.std.specs.Int.{w64}
use borrow.Author.Differences.{ints}
use Rattle.std.proofs.lemmas.Int.{to_z-of_z, fits_signed_from_abs}
use Rattle.problem_core.specs.Layout.{coefficient}
use Rattle.compile_parts.specs.Shares.{form}
use Rattle.constraint_compile.proofs.Sums.Wholes.{whole_value}
use Rattle.constraint_compile.proofs.line.sums.whole_more.Goals as goal

sum_fits : (n w : ℤ) → unsigned_abs n ≤ 2 ^ 30 → unsigned_abs w < 2 ^ 44 → SFits w64 (n +ℤ w)
sum_fits n w h k = fits_signed_from_abs w64 (n +ℤ w) (omega (arith, ints, h, k))

pub returns-clause-value : goal.returns-clause-value
returns-clause-value c =
    let num_fits : SFits w64 c.num.result = record { sfits = c.num.type_inv } in
    let halves_fits : SFits w64 c.halves.result = record { sfits = c.halves.type_inv } in
    let times_fits : SFits w64 c.times_halves.result = record { sfits = c.times_halves.type_inv } in
    let times : c.times_halves.result ≡ c.args.share.now.by.num *ℤ coefficient c.args.attr (form c.args.share.now.of) = rw (c.num.ensures.value, c.halves.ensures.value) at (simp to_z-of_z at c.times_halves.ensures.value) in
    let exact : c.in_ok-more.more *ℤ pos 2 ≡ c.times_halves.result = simp (to_z-of_z, times_fits) at c.in_ok-more.ensures.value in
    let sum : SFits w64 (c.args.number +ℤ c.in_ok-more.more) = sum_fits c.args.number c.in_ok-more.more c.requires.number c.in_ok-more.ensures.small in
    let more : SFits w64 c.in_ok-more.more = fits_signed_from_abs w64 c.in_ok-more.more (omega (arith, c.in_ok-more.ensures.small)) in
    simp (to_z-of_z, c.ranges.number, more, sum) (whole_value c.args.number c.in_ok-more.more c.args.share.now.by.num (coefficient c.args.attr (form c.args.share.now.of)) c.args.share.now.by.den c.requires.den (rw times at exact))
