use Rattle.std.proofs.Common.{◌≡◌, ◌<◌, ◌^◌, ℕ, [], pos, sym, subst, arith, take, SFits, rules, to_z, of_z}
use Rattle.std.specs.Prelude.{unsigned_abs, slice_index_or}
use Rattle.std.specs.Int.{◌∣◌, w128, IsGcd}
use Rattle.std.proofs.Math.Nat.{one-dvd}
use Rattle.std.proofs.lemmas.List.Elements.{All-take}
use Rattle.std.proofs.lemmas.Int.{to_z-of_z}
use Rattle.std.proofs.lemmas.List.{take_all}
use Rattle.path_lines.proofs.Arithmetic.LowestTerms.{IsDivisorSoFar, divisor_starts, divisor_more}
use Rattle.path_lines.proofs.numbers.common_divisor.Goals as goal

pub loop-number-init : goal.loop-number-init
loop-number-init c =
    let fits : SFits w128 c.args.own = c.ranges.own in
    let same : c.unsigned_abs-divisor.result ≡ unsigned_abs c.args.own = simp to_z-of_z at c.unsigned_abs-divisor.ensures.value in
    let small : unsigned_abs c.args.own < 2 ^ 127 = search rules in
    let own : to_z w128 (of_z w128 c.args.own) ≡ c.args.own = to_z-of_z w128 c.args.own c.ranges.own in
    rw own (subst (λ (n : ℕ). IsDivisorSoFar c.args.own [] n) (sym same) (divisor_starts c.args.own c.args.by.now c.requires small))

pub loop-number-preserved : goal.loop-number-preserved
loop-number-preserved c =
    let fits : SFits w128 (slice_index_or c.args.by.now c.loop-number.number-index (pos 0)) = search rules in
    let size : c.unsigned_abs.result ≡ unsigned_abs (slice_index_or c.args.by.now c.loop-number.number-index (pos 0)) = simp to_z-of_z at c.unsigned_abs.ensures.value in
    let own : to_z w128 (of_z w128 c.args.own) ≡ c.args.own = to_z-of_z w128 c.args.own c.ranges.own in
    let before : IsDivisorSoFar c.args.own (take c.loop-number.number-index c.args.by.now) c.loop-number.divisor = rw own at c.loop-number.invariant in
    rw own (divisor_more c.args.own c.args.by.now c.loop-number.number-index (pos 0) c.loop-number.divisor c.gcd-divisor.result c.loop-number-test.true before
    (subst (λ (n : ℕ). IsGcd n c.loop-number.divisor c.gcd-divisor.result) size c.gcd-divisor.ensures))

pub returns-clause-divides : goal.returns-clause-divides
returns-clause-divides c =
    let whole : take c.loop-number.number-index c.args.by.now ≡ c.args.by.now = take_all c.loop-number.number-index c.args.by.now (omega (arith, c.loop-number-test.false)) in
    let own : to_z w128 (of_z w128 c.args.own) ≡ c.args.own = to_z-of_z w128 c.args.own c.ranges.own in
    (rw (own, whole) at c.loop-number.invariant.divides)

pub returns-clause-greatest : goal.returns-clause-greatest
returns-clause-greatest c =
    let whole : take c.loop-number.number-index c.args.by.now ≡ c.args.by.now = take_all c.loop-number.number-index c.args.by.now (omega (arith, c.loop-number-test.false)) in
    let own : to_z w128 (of_z w128 c.args.own) ≡ c.args.own = to_z-of_z w128 c.args.own c.ranges.own in
    (rw (own, whole) at c.loop-number.invariant.greatest)

pub returns-then-divisor-eq1-clause-divides : goal.returns-then-divisor-eq1-clause-divides
returns-then-divisor-eq1-clause-divides c = (one-dvd (unsigned_abs c.args.own), λ k d within. one-dvd (unsigned_abs (slice_index_or c.args.by.now k d)))

pub returns-then-divisor-eq1-clause-greatest : goal.returns-then-divisor-eq1-clause-greatest
returns-then-divisor-eq1-clause-greatest c =
    let own : to_z w128 (of_z w128 c.args.own) ≡ c.args.own = to_z-of_z w128 c.args.own c.ranges.own in
    let before : IsDivisorSoFar c.args.own (take c.loop-number.number-index c.args.by.now) c.loop-number.divisor = rw own at c.loop-number.invariant in
    λ k divides. subst (λ (n : ℕ). k ∣ n) c.if-divisor-eq1.true (before.greatest k (divides.0, All-take (λ z. k ∣ unsigned_abs z) c.loop-number.number-index c.args.by.now divides.1))
