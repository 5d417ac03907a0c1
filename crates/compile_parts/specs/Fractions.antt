-- Sums of fractions that need not be in lowest terms, and the numbers that make them whole.
use Rattle.std.specs.Prelude.{◌≡◌, ℕ, ◌*◌, ◌<◌, ◌≤◌, List, [], ◌∷◌, ℤ, pos, neg_ℤ, ◌+ℤ◌, ◌*ℤ◌}
use Rattle.std.specs.Prelude.{unsigned_abs}
use Rattle.frac_core.specs.Fraction.{Fraction, IsLowest, IsRatio}
use Rattle.problem_core.specs.Window.{zero_fraction}
use Rattle.problem_core.specs.declared.limits.TheConstants.{COEFFICIENT_LIMIT}
use Rattle.compile_parts.specs.declared.limits.TheConstants.{CONSTANT_LIMIT}

-- the sum, over the product of the denominators
abbrev pub plus : Fraction → Fraction → Fraction
plus f g = record { num = f.num *ℤ pos g.den +ℤ g.num *ℤ pos f.den; den = f.den * g.den }

-- the product of the numerators over that of the denominators
abbrev pub times : Fraction → Fraction → Fraction
times f g = record { num = f.num *ℤ g.num; den = f.den * g.den }

-- the fraction with the other sign
abbrev pub negated : Fraction → Fraction
negated f = record { num = neg_ℤ f.num; den = f.den }

-- the sum of f over a list
abbrev pub total : {A : Type 0} → (A → Fraction) → List A → Fraction
total f [] = zero_fraction
total f (x ∷ xs) = plus (f x) (total f xs)

-- z over k is the fraction
abbrev pub IsOver : ℕ → Fraction → ℤ → Type 0
IsOver k f z = z *ℤ pos f.den ≡ pos k *ℤ f.num

-- k times each of the coefficients is whole
abbrev pub MakesWhole : ℕ → (ℕ → Fraction) → Type 0
MakesWhole k b = (v : ℕ) → (z : ℤ) × IsOver k (b v) z

-- k is the least number of at least 1 that makes each coefficient whole
pub record IsScale (b : ℕ → Fraction) (k : ℕ) : Type 0 where
  pub above : 0 < k
  pub whole : MakesWhole k b
  pub least : (j : ℕ) → 0 < j → MakesWhole j b → k ≤ j

-- the scale, and each coefficient times the scale, are within the limit of coefficients
pub record AreSmall (b : ℕ → Fraction) : Type 0 where
  pub scale : ℕ
  pub is_scale : IsScale b scale
  pub small_scale : scale ≤ COEFFICIENT_LIMIT
  pub small : (v : ℕ) (z : ℤ) → IsOver scale (b v) z → unsigned_abs z ≤ COEFFICIENT_LIMIT

-- c is -k*e in lowest terms
pub record IsConstant (k : ℕ) (e c : Fraction) : Type 0 where
  pub lowest : IsLowest c
  pub value : IsRatio c (neg_ℤ (pos k *ℤ e.num)) (pos e.den)

-- both parts are below the limit of constants in size
abbrev pub HasSmallParts : Fraction → Type 0
HasSmallParts f = (unsigned_abs f.num < CONSTANT_LIMIT) × (f.den < CONSTANT_LIMIT)

-- both parts of -k*e in lowest terms are below the limit of constants in size
pub record IsSmallConstant (k : ℕ) (e : Fraction) : Type 0 where
  pub constant : Fraction
  pub is_constant : IsConstant k e constant
  pub num_small : unsigned_abs constant.num < CONSTANT_LIMIT
  pub den_small : constant.den < CONSTANT_LIMIT
