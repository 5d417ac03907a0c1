-- Names of rows and names of stays: none is both, and equal names have equal numbers.
use Rattle.std.proofs.Common.{◌≡◌, ◌≢◌, ℕ}
use Rattle.problem_core.specs.declared.parts.RowName.TheVariants.{Held, Stay as StayOf}

pub held-not-stay : (a b : ℕ) → Held a ≢ StayOf b
held-not-stay a b e = cc

pub stay-not-held : (a b : ℕ) → StayOf a ≢ Held b
stay-not-held a b e = cc

pub stay-same : (a b : ℕ) → StayOf a ≡ StayOf b → a ≡ b
stay-same a b e = cc

pub held-same : (a b : ℕ) → Held a ≡ Held b → a ≡ b
held-same a b e = cc
