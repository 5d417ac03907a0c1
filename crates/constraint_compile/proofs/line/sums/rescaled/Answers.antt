use Rattle.std.proofs.Common.{◌≡◌, ℕ, ◌<◌, ◌/◌, ◌^◌, pos, arith, to_z}
use Prim.Native.Nat.{◌∣◌}
use Rattle.std.specs.Int.{w128}
use borrow.Author.Differences.{ints}
use Rattle.std.proofs.lemmas.Nat.Gcd.{le_of_dvd}
use Rattle.frac_core.specs.Fraction.{Fraction}
use Rattle.constraint_compile.specs.Coefficients.Sums.{IsSum, IsCovered, IsDivisor, AreDivided, IsPast}
use Rattle.constraint_compile.proofs.Sums.Joint.{IsStep, divisor_above, step_sum, step_kept, past_scale, past_number}
use Rattle.constraint_compile.proofs.line.sums.rescaled.Goals as goal

small : (whole g : ℕ) → 0 < whole → whole < 2 ^ 80 → g ∣ whole → g < 2 ^ 80
small whole g some less divides = omega (arith, le_of_dvd some divides, less)

cast : (g : ℕ) → g < 2 ^ 80 → to_z w128 g ≡ pos g
cast g h = omega (arith, ints, h)

pub nonzero_div-scale : goal.nonzero_div-scale
nonzero_div-scale c =
    let divisor : IsDivisor c.whole_of-whole.result c.in_ok-wide.wide.items c.common_divisor-divisor.result = rw c.deref.ensures.value at c.common_divisor-divisor.ensures in
    divisor_above c.whole_of-whole.result c.common_divisor-divisor.result c.whole_of-whole.ensures.above divisor.of_whole

pub returns-then-scale-from-clause-past : goal.returns-then-scale-from-clause-past
returns-then-scale-from-clause-past c =
    let divisor : IsDivisor c.whole_of-whole.result c.in_ok-wide.wide.items c.common_divisor-divisor.result = rw c.deref.ensures.value at c.common_divisor-divisor.ensures in
    let step : (b : ℕ → Fraction) → IsSum b c.args.attrs.now c.args.sum.now.scale c.args.sum.now.numbers.items → IsCovered c.args.attrs.now c.args.share.now
    → IsStep b c.args.attrs.now c.args.sum.now.scale c.args.sum.now.numbers.items c.args.share.now c.in_ok-wide.wide.items c.common_divisor-divisor.result = λ b sum covered. record {
      kept = c.requires.kept;
      sum = sum;
      covered = covered;
      den = c.whole_of-whole.ensures.den;
      long = c.in_ok-wide.ensures.long;
      each = c.in_ok-wide.ensures.each;
      divisor = rw c.whole_of-whole.ensures.value at divisor;
    } in
    let past : 2 ^ 30 < c.whole_of-whole.result / c.common_divisor-divisor.result = omega (arith, c.if-scale-from.true, c.from.ensures) in
    λ b sum covered. past_scale b c.args.attrs.now c.args.sum.now.scale c.args.sum.now.numbers.items c.args.share.now c.in_ok-wide.wide.items c.common_divisor-divisor.result (step b sum covered) (rw c.whole_of-whole.ensures.value at past)

pub overflow_cast-divisor : goal.overflow_cast-divisor
overflow_cast-divisor c =
    let divisor : IsDivisor c.whole_of-whole.result c.in_ok-wide.wide.items c.common_divisor-divisor.result = rw c.deref.ensures.value at c.common_divisor-divisor.ensures in
    omega (arith, small c.whole_of-whole.result c.common_divisor-divisor.result c.whole_of-whole.ensures.above c.whole_of-whole.ensures.small divisor.of_whole)

pub divided-requires-clause-above : goal.divided-requires-clause-above
divided-requires-clause-above c =
    let divisor : IsDivisor c.whole_of-whole.result c.in_ok-wide.wide.items c.common_divisor-divisor.result = rw c.deref.ensures.value at c.common_divisor-divisor.ensures in
    let is_cast : to_z w128 c.common_divisor-divisor.result ≡ pos c.common_divisor-divisor.result = cast _ (small c.whole_of-whole.result c.common_divisor-divisor.result c.whole_of-whole.ensures.above c.whole_of-whole.ensures.small divisor.of_whole) in
    let some : 0 < c.common_divisor-divisor.result = divisor_above c.whole_of-whole.result c.common_divisor-divisor.result c.whole_of-whole.ensures.above divisor.of_whole in
    rw is_cast (omega (arith, ints, some))

pub divided-requires-clause-divides : goal.divided-requires-clause-divides
divided-requires-clause-divides c =
    let divisor : IsDivisor c.whole_of-whole.result c.in_ok-wide.wide.items c.common_divisor-divisor.result = rw c.deref.ensures.value at c.common_divisor-divisor.ensures in
    let is_cast : to_z w128 c.common_divisor-divisor.result ≡ pos c.common_divisor-divisor.result = cast _ (small c.whole_of-whole.result c.common_divisor-divisor.result c.whole_of-whole.ensures.above c.whole_of-whole.ensures.small divisor.of_whole) in
    rw (is_cast, c.deref-2.ensures.value) divisor.of_each

pub returns-clause-kept : goal.returns-clause-kept
returns-clause-kept c =
    let divisor : IsDivisor c.whole_of-whole.result c.in_ok-wide.wide.items c.common_divisor-divisor.result = rw c.deref.ensures.value at c.common_divisor-divisor.ensures in
    let is_cast : to_z w128 c.common_divisor-divisor.result ≡ pos c.common_divisor-divisor.result = cast _ (small c.whole_of-whole.result c.common_divisor-divisor.result c.whole_of-whole.ensures.above c.whole_of-whole.ensures.small divisor.of_whole) in
    let divided : AreDivided c.in_ok-wide.wide.items (pos c.common_divisor-divisor.result) c.in-Some.numbers.items = rw (c.deref-2.ensures.value, is_cast) at (rw c.in-Some.is at c.in_ok-numbers.ensures.some) in
    step_kept c.args.attrs.now c.whole_of-whole.result c.common_divisor-divisor.result c.in_ok-wide.wide.items c.in-Some.numbers.items c.in_ok-wide.ensures.long c.whole_of-whole.ensures.above divisor.of_whole (omega (arith, c.if-scale-from.false, c.from.ensures)) divided

pub returns-clause-sum : goal.returns-clause-sum
returns-clause-sum c =
    let divisor : IsDivisor c.whole_of-whole.result c.in_ok-wide.wide.items c.common_divisor-divisor.result = rw c.deref.ensures.value at c.common_divisor-divisor.ensures in
    let is_cast : to_z w128 c.common_divisor-divisor.result ≡ pos c.common_divisor-divisor.result = cast _ (small c.whole_of-whole.result c.common_divisor-divisor.result c.whole_of-whole.ensures.above c.whole_of-whole.ensures.small divisor.of_whole) in
    let step : (b : ℕ → Fraction) → IsSum b c.args.attrs.now c.args.sum.now.scale c.args.sum.now.numbers.items → IsCovered c.args.attrs.now c.args.share.now
    → IsStep b c.args.attrs.now c.args.sum.now.scale c.args.sum.now.numbers.items c.args.share.now c.in_ok-wide.wide.items c.common_divisor-divisor.result = λ b sum covered. record {
      kept = c.requires.kept;
      sum = sum;
      covered = covered;
      den = c.whole_of-whole.ensures.den;
      long = c.in_ok-wide.ensures.long;
      each = c.in_ok-wide.ensures.each;
      divisor = rw c.whole_of-whole.ensures.value at divisor;
    } in
    let divided : AreDivided c.in_ok-wide.wide.items (pos c.common_divisor-divisor.result) c.in-Some.numbers.items = rw (c.deref-2.ensures.value, is_cast) at (rw c.in-Some.is at c.in_ok-numbers.ensures.some) in
    λ b sum covered. rw c.whole_of-whole.ensures.value (step_sum b c.args.attrs.now c.args.sum.now.scale c.args.sum.now.numbers.items c.args.share.now c.in_ok-wide.wide.items c.common_divisor-divisor.result c.in-Some.numbers.items (step b sum covered) divided)

pub returns-in_default-clause-past : goal.returns-in_default-clause-past
returns-in_default-clause-past c =
    let divisor : IsDivisor c.whole_of-whole.result c.in_ok-wide.wide.items c.common_divisor-divisor.result = rw c.deref.ensures.value at c.common_divisor-divisor.ensures in
    let is_cast : to_z w128 c.common_divisor-divisor.result ≡ pos c.common_divisor-divisor.result = cast _ (small c.whole_of-whole.result c.common_divisor-divisor.result c.whole_of-whole.ensures.above c.whole_of-whole.ensures.small divisor.of_whole) in
    let step : (b : ℕ → Fraction) → IsSum b c.args.attrs.now c.args.sum.now.scale c.args.sum.now.numbers.items → IsCovered c.args.attrs.now c.args.share.now
    → IsStep b c.args.attrs.now c.args.sum.now.scale c.args.sum.now.numbers.items c.args.share.now c.in_ok-wide.wide.items c.common_divisor-divisor.result = λ b sum covered. record {
      kept = c.requires.kept;
      sum = sum;
      covered = covered;
      den = c.whole_of-whole.ensures.den;
      long = c.in_ok-wide.ensures.long;
      each = c.in_ok-wide.ensures.each;
      divisor = rw c.whole_of-whole.ensures.value at divisor;
    } in
    let past : IsPast c.in_ok-wide.wide.items (pos c.common_divisor-divisor.result) = rw (c.deref-2.ensures.value, is_cast) at (rw c.in_default.is at c.in_ok-numbers.ensures.none) in
    λ b sum covered. past_number b c.args.attrs.now c.args.sum.now.scale c.args.sum.now.numbers.items c.args.share.now c.in_ok-wide.wide.items c.common_divisor-divisor.result (step b sum covered) past
