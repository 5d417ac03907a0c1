-- Units of levels' costs, and their common multiples.
use Rattle.std.proofs.Common.{◌≡◌, ℕ, ◌*◌, ◌/◌, ◌<◌, ◌≤◌, ◌^◌, arith, sym, ap, subst, ℤ, pos, negsuc, ◌<ℤ◌, ◌≤ℤ◌, unsigned_abs}
use Rattle.std.specs.Int.{IsGcd}
use Rattle.std.proofs.Math.Nat.{div-le_self}
use borrow.Author.Differences.{ints}
use Rattle.corner_lines.specs.Levels.LevelJoins.{IsLeastMultiple}
use Rattle.path_levels.specs.declared.outline.LineFacts.{LineFacts}
use Rattle.path_levels.specs.Joins.{IsRise, IsWeightOf}
use Rattle.corner_lines.proofs.LevelRows.Units.{part_above, least_multiple}
use Rattle.frac_core.proofs.Divisors.{size_above}

-- ---- what the code finds

pub record IsRisen (f : LineFacts) (unit weight d part g times : ℤ) : Type 0 where
  pub scale_above : pos 0 <ℤ f.scale
  pub small : f.scale ≤ℤ pos 1073741824
  pub unit_above : pos 0 <ℤ unit
  pub weight_is : IsWeightOf f weight
  pub divides : IsGcd (unsigned_abs f.scale) (unsigned_abs weight) (unsigned_abs d)
  pub part_is : part ≡ pos (unsigned_abs f.scale / unsigned_abs d)
  pub shares : IsGcd (unsigned_abs part) (unsigned_abs unit) (unsigned_abs g)
  pub times_is : times ≡ pos (unsigned_abs part / unsigned_abs g)

part-up : (f : LineFacts) (unit weight d part g times : ℤ) → IsRisen f unit weight d part g times → 0 < unsigned_abs part
part-up f unit weight d part g times r = subst (λ (z : ℤ). 0 < unsigned_abs z) (sym r.part_is) (part_above (unsigned_abs f.scale) (unsigned_abs weight) (unsigned_abs d) r.divides (size_above f.scale r.scale_above))

small-size : (z : ℤ) → z ≤ℤ pos 1073741824 → pos 0 <ℤ z → unsigned_abs z ≤ 2 ^ 30
small-size (pos n) h k = omega (arith, ints, h)
small-size (negsuc n) h k = absurd k.lt

small-parts : (a b c s : ℕ) → a ≤ b → b ≤ c → c ≤ s → a ≤ s
small-parts a b c s h k l = omega (arith, h, k, l)

pub rise_of : (f : LineFacts) (unit weight d part g times : ℤ) → IsRisen f unit weight d part g times → IsRise f (unsigned_abs unit) (unsigned_abs times)
rise_of f unit weight d part g times r =
    let e : unsigned_abs times ≡ unsigned_abs part / unsigned_abs g = ap unsigned_abs r.times_is in
    let p : unsigned_abs part ≡ unsigned_abs f.scale / unsigned_abs d = ap unsigned_abs r.part_is in
    record {
      weight = weight;
      weight_is = r.weight_is;
      divisor = unsigned_abs d;
      divides = r.divides;
      least = subst (λ (n : ℕ). IsLeastMultiple (unsigned_abs unit) n (unsigned_abs times * unsigned_abs unit)) p
          (subst (λ (n : ℕ). IsLeastMultiple (unsigned_abs unit) (unsigned_abs part) (n * unsigned_abs unit)) (sym e)
          (least_multiple (unsigned_abs part) (unsigned_abs unit) (unsigned_abs g) r.shares (part-up f unit weight d part g times r) (size_above unit r.unit_above)));
      above = subst (λ (n : ℕ). 0 < n) (sym e) (part_above (unsigned_abs part) (unsigned_abs unit) (unsigned_abs g) r.shares (part-up f unit weight d part g times r));
      small = subst (λ (n : ℕ). n ≤ 2 ^ 30) (sym e)
          (small-parts (unsigned_abs part / unsigned_abs g) (unsigned_abs part) (unsigned_abs f.scale) (2 ^ 30) (div-le_self (unsigned_abs part) (unsigned_abs g))
          (subst (λ (n : ℕ). n ≤ unsigned_abs f.scale) (sym p) (div-le_self (unsigned_abs f.scale) (unsigned_abs d))) (small-size f.scale r.small r.scale_above));
    }

pub rise_above : (f : LineFacts) (unit weight d part g times : ℤ) → IsRisen f unit weight d part g times → pos 0 <ℤ times
rise_above f unit weight d part g times r =
    subst (λ (z : ℤ). pos 0 <ℤ z) (sym r.times_is)
    (up (unsigned_abs part / unsigned_abs g) (part_above (unsigned_abs part) (unsigned_abs unit) (unsigned_abs g) r.shares (part-up f unit weight d part g times r)))
  where
    up : (n : ℕ) → 0 < n → pos 0 <ℤ pos n
    up n h = omega (arith, ints, h)
