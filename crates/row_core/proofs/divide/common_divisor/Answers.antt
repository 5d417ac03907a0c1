use Rattle.std.proofs.Common.{◌≡◌, ℕ, subst, SFits, rules}
use Prim.Native.Nat.{◌∣◌}
use Rattle.std.specs.Prelude.{unsigned_abs}
use Rattle.std.specs.Int.{w128, IsGcd}
use Rattle.std.proofs.lemmas.Int.{to_z-of_z}
use Rattle.std.proofs.Math.Nat.{one-dvd}
use Rattle.row_core.specs.Walks.{whole}
use Rattle.row_core.proofs.Dividing.{IsDivisorSoFar, divisor_more, divisor_ends}
use Rattle.row_core.proofs.divide.common_divisor.Goals as goal

pub returns-then-divisor-eq1-clause-divides : goal.returns-then-divisor-eq1-clause-divides
returns-then-divisor-eq1-clause-divides c = λ q. one-dvd (unsigned_abs (whole c.args.sum.now q))

pub returns-then-divisor-eq1-clause-greatest : goal.returns-then-divisor-eq1-clause-greatest
returns-then-divisor-eq1-clause-greatest c =
    let by : SFits w128 c.in-Some.read.by = search rules in
    let size : c.unsigned_abs.result ≡ unsigned_abs c.in-Some.read.by = simp to_z-of_z at c.unsigned_abs.ensures.value in
    let more : IsDivisorSoFar c.args.sum.now c.in-Some.read.next c.gcd-divisor.result =
    divisor_more c.args.sum.now c.loop-read.at c.in-Some.read.next c.loop-read.divisor c.gcd-divisor.result c.in-Some.read.col c.in-Some.read.by
    c.requires.rising c.loop-read.invariant c.in-Some.ensures.read.first c.in-Some.ensures.read.value c.in-Some.ensures.read.read c.in-Some.ensures.small
    (subst (λ (n : ℕ). IsGcd n c.loop-read.divisor c.gcd-divisor.result) size c.gcd-divisor.ensures) in
    λ d all. subst (λ (n : ℕ). d ∣ n) c.if-divisor-eq1.true (more.greatest d all)

pub loop-read-preserved : goal.loop-read-preserved
loop-read-preserved c =
    let by : SFits w128 c.in-Some.read.by = search rules in
    let size : c.unsigned_abs.result ≡ unsigned_abs c.in-Some.read.by = simp to_z-of_z at c.unsigned_abs.ensures.value in
    divisor_more c.args.sum.now c.loop-read.at c.in-Some.read.next c.loop-read.divisor c.gcd-divisor.result c.in-Some.read.col c.in-Some.read.by
    c.requires.rising c.loop-read.invariant c.in-Some.ensures.read.first c.in-Some.ensures.read.value c.in-Some.ensures.read.read c.in-Some.ensures.small
    (subst (λ (n : ℕ). IsGcd n c.loop-read.divisor c.gcd-divisor.result) size c.gcd-divisor.ensures)

pub returns-clause-divides : goal.returns-clause-divides
returns-clause-divides c = divisor_ends c.args.sum.now c.loop-read.at c.loop-read.divisor c.requires.rising c.loop-read.invariant c.in_default.ensures.end
