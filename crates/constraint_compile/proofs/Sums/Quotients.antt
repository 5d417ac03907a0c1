-- Exact divisions.
use Rattle.std.proofs.Common.{◌≡◌, ℕ, suc, ◌/◌, ℤ, pos, negsuc, neg_ℤ, ◌*ℤ◌, ap, ◌∙◌}
use Prim.Native.Nat.{◌∣◌}
use Rattle.std.specs.Prelude.{unsigned_abs}
use Rattle.frac_core.proofs.Quotients.{swapped_cancel, times_neg}

-- what is divided exactly has a quotient
pub has_quotient : (a : ℤ) (d : ℕ) → d ∣ unsigned_abs a → (z : ℤ) × (pos d *ℤ z ≡ a)
has_quotient (pos m) d divides = (pos (m / d), ap pos (swapped_cancel m d divides))
has_quotient (negsuc m) d divides = (neg_ℤ (pos (suc m / d)), times_neg d (suc m / d) ∙ ap (λ (k : ℕ). neg_ℤ (pos k)) (swapped_cancel (suc m) d divides))
