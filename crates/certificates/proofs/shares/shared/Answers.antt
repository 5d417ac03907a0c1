use Rattle.std.proofs.Common.{◌≡◌, ◌∙◌, ℕ, subst, unsigned_abs}
use Rattle.std.specs.Int.{IsGcd}
use Rattle.std.proofs.lemmas.Int.{to_z-of_z}
use Rattle.certificates.proofs.shares.shared.Goals as goal

pub returns : goal.returns
returns c =
    let size = simp (to_z-of_z, c.ranges.times) at c.unsigned_abs.ensures.value in
    let same : c.from.result ≡ unsigned_abs c.args.times = c.from.ensures ∙ size in
    subst (λ (n : ℕ). IsGcd c.args.factor n c.gcd.result) same c.gcd.ensures
