-- Units of rows that fit.
use Rattle.std.proofs.Common.{◌<◌, ◌^◌, ℤ, pos, arith, ◌*ℤ◌, ◌<ℤ◌, unsigned_abs, SFits, w64}
use borrow.Author.Differences.{ints}
use Rattle.frac_core.specs.Fraction.{IsFitting}
use Rattle.path_levels.proofs.Joining.JoinShares.{unit_bound}

fits-word : (z : ℤ) → unsigned_abs z < 2 ^ 42 → SFits w64 z
fits-word z h = omega (arith, ints, h)

pub unit_sfits : (own unit : ℤ) → pos 0 <ℤ own → IsFitting (own *ℤ unit) → SFits w64 unit
unit_sfits own unit h k = fits-word unit (unit_bound own unit (2 ^ 42) h k)
