-- Sides, numbers and lists.
use Rattle.std.proofs.Common.{◌≡◌, ◌≢◌, ℕ, zero, suc, ◌<◌, true, List, ◌∷◌, refl, ap, subst, arith, ℤ, pos, negsuc, ◌<ℤ◌, unsigned_abs, All, Any, Contains}
use borrow.Author.Differences.{ints}
use Rattle.problem_core.specs.declared.parts.Side.{Side}
use Rattle.problem_core.specs.declared.parts.Side.TheVariants.{Under, Over}
use Rattle.corner_table.specs.Tables.{same_side}

pub self_side : (s : Side) → same_side s s ≡ true
self_side Under = refl
self_side Over = refl

pub zero_unless : (z : ℤ) → (z ≢ pos 0 → ⊥) → z ≡ pos 0
zero_unless (pos zero) h = refl
zero_unless (pos (suc k)) h = absurd (h (λ e. let q : suc k ≡ 0 = ap unsigned_abs e in omega (arith, q)))
zero_unless (negsuc k) h = absurd (h (λ e. let q : suc k ≡ 0 = ap unsigned_abs e in omega (arith, q)))

pub behind : (w : ℕ) (ws : List ℕ) (v : ℕ) → Contains (w ∷ ws) v → (w ≡ v → ⊥) → Contains ws v
behind w ws v (zero, lt, x) never = absurd (never x)
behind w ws v (suc k, lt, x) never = (k, omega (arith, lt), x)

pub any-with : {X : Type 0} (P Q R : X → Type 0) (xs : List X) → All P xs → Any Q xs → ((x : X) → P x → Q x → R x) → Any R xs
any-with P Q R xs a h f = (h.0, h.1, h.2, h.3, f h.1 (subst P h.3 (a h.0 h.1 h.2)) h.4)
