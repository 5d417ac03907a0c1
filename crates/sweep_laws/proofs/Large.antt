-- Fractions that are too large, and that aren't.
use Rattle.std.proofs.Common.{◌≡◌, ℕ, zero, suc, ◌<◌, ℤ, pos, negsuc, ◌*ℤ◌, refl, arith}
use Rattle.std.proofs.Math.Nat.{one-dvd}
use borrow.Author.Differences.{ints}
use Rattle.frac_core.specs.declared.frac.TheConstants.{PART_BOUND}
use Rattle.frac_core.specs.Fraction.{Fraction, IsKept}
use Rattle.sweep_laws.specs.Instances.{SomeAreTooLarge}

-- one part of so many
abbrev part_of : ℕ → Fraction
part_of n = record { num = pos 1; den = n }

part-kept : (n : ℕ) → 0 < n → n < PART_BOUND → IsKept (part_of n)
part-kept n some few = record { lowest = record { above = some; coprime = (one-dvd 1, one-dvd n, λ d p q. p) }; fits = record { num_fits = omega arith; den_fits = few } }

no-such : (z : ℤ) (d : ℕ) → 0 < d → d < PART_BOUND → z *ℤ pos PART_BOUND ≡ pos 1 *ℤ pos d → ⊥
no-such (pos zero) d some few e = omega (arith, ints, e, some)
no-such (pos (suc n)) d some few e = omega (arith, ints, e, few)
no-such (negsuc n) d some few e = omega (arith, ints, e)

pub some_are_too_large : SomeAreTooLarge
some_are_too_large = record {
  large = λ g kept e. no-such g.num g.den kept.lowest.above kept.fits.den_fits e;
  small = λ none. none (part_of 3) (part-kept 3 (omega arith) (omega arith)) refl;
  reducible = λ none. none (part_of 2199023255552) (part-kept 2199023255552 (omega arith) (omega arith)) refl;
}
