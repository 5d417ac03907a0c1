use Rattle.std.proofs.Common.{◌≡◌, ℕ, subst}
use Rattle.std.specs.Prelude.{unsigned_abs}
use Rattle.std.specs.Int.{IsGcd}
use Rattle.std.proofs.lemmas.Int.{to_z-of_z}
use Rattle.row_core.proofs.gather.tallied.Goals as goal

pub returns-clause-divisor : goal.returns-clause-divisor
returns-clause-divisor c =
    let size : c.unsigned_abs-size.result ≡ unsigned_abs c.args.by = simp (to_z-of_z, c.ranges.by) at c.unsigned_abs-size.ensures.value in
    subst (λ (n : ℕ). IsGcd n c.args.tally.divisor c.joined.result) size c.joined.ensures
