use Rattle.std.proofs.Common.{◌≡◌, ◌+◌, ◌≤◌, ℕ, arith, SFits, rules}
use Rattle.std.specs.Prelude.{unsigned_abs}
use Rattle.std.specs.Int.{IsGcd, w64, w128}
use Rattle.std.proofs.lemmas.Int.{to_z-of_z}
use Rattle.row_core.specs.Walks.{IsPut}
use Rattle.row_core.proofs.Dividing.{divisor_ends, steps_within}
use Rattle.row_core.proofs.Gathering.{gathered_more, gathered_ends}
use Rattle.row_core.proofs.gather.gathered.Goals as goal

pub loop-read-smaller : goal.loop-read-smaller
loop-read-smaller c =
    let is = c.loop-read.invariant.divides in
    let next = c.in-Some.ensures.read.read is.floor is.are in
    omega (arith, c.in-Some.ensures.read.further, steps_within c.args.sum.now c.in-Some.read.next (c.in-Some.read.col + 1) next)

pub returns-clause-divides : goal.returns-clause-divides
returns-clause-divides c =
    divisor_ends c.args.sum.now c.loop-read.at c.loop-read.tally.divisor c.requires.rising c.loop-read.invariant.divides c.in_default.ensures.end

pub returns-clause-written : goal.returns-clause-written
returns-clause-written c =
    gathered_ends c.args.sum.now c.loop-read.at c.loop-read.tally.divisor c.loop-read.tally.most c.loop-read.entries.items c.requires.rising c.loop-read.invariant c.in_default.ensures.end

pub loop-read-preserved : goal.loop-read-preserved
loop-read-preserved c =
    let fits : SFits w64 c.in-Some.read.by = c.in-Some.ensures.narrow in
    let wide : SFits w128 c.in-Some.read.by = search rules in
    let gcd : IsGcd (unsigned_abs c.in-Some.read.by) c.loop-read.tally.divisor c.tallied-tally.result.divisor = simp to_z-of_z at c.tallied-tally.ensures.divisor in
    let here : unsigned_abs c.in-Some.read.by ≤ c.tallied-tally.result.most = simp to_z-of_z at c.tallied-tally.ensures.here in
    let put : IsPut c.in-Some.read.col c.in-Some.read.by c.loop-read.entries.items c.put.new.out.items = simp to_z-of_z at c.in_ok-put.ensures in
    gathered_more c.args.sum.now c.loop-read.at c.in-Some.read.next c.loop-read.tally.divisor c.tallied-tally.result.divisor c.loop-read.tally.most c.tallied-tally.result.most
    c.loop-read.entries.items c.put.new.out.items c.in-Some.read.col c.in-Some.read.by c.requires.rising c.loop-read.invariant
    c.in-Some.ensures.read.first c.in-Some.ensures.read.value c.in-Some.ensures.read.read c.in-Some.ensures.small gcd c.tallied-tally.ensures.before here put
