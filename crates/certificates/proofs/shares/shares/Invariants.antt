use Rattle.std.proofs.Common.{◌≡◌, take, unsigned_abs, All}
use Rattle.frac_core.specs.Fraction.{IsFitting}
use Rattle.certificates.specs.OwnLevels.{multiplied}
use Rattle.certificates.proofs.shares.shares.Given as goal

abbrev pub invariant-loop-b : goal.invariant-loop-b
invariant-loop-b l = (multiplied (unsigned_abs l.factor) l.out.items ≡ take l.b-index l.by) × All (λ b. IsFitting b.times) l.out.items
