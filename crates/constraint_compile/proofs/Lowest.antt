-- A value has one fraction in lowest terms.
use Rattle.frac_core.specs.Fraction.{Fraction, IsKept}
use Rattle.compile_parts.specs.Fractions.{negated}
use Rattle.frac_core.proofs.Quotients.{size_opposite as size-neg}

pub negated_kept : (f : Fraction) → IsKept f → IsKept (negated f)
negated_kept f is = record {
  lowest = record { above = is.lowest.above; coprime = rw (size-neg f.num) is.lowest.coprime };
  fits = record { num_fits = rw (size-neg f.num) is.fits.num_fits; den_fits = is.fits.den_fits };
}
