-- The unit of a level is a least common multiple.
use Rattle.std.proofs.Common.{◌≡◌, ◌∙◌, ℕ, ◌*◌, ◌/◌, ◌<◌, sym, ap, subst, arith, inl, inr, mul-zero}
use Rattle.std.specs.Int.{◌∣◌, IsGcd}
use Rattle.std.proofs.lemmas.Bool.{cases_eq}
use Rattle.std.proofs.lemmas.Nat.Gcd.{IsGcd-swap, dvd-zero}
use Rattle.std.proofs.Math.Nat.{dvd-mul_right_of_dvd, dvd_of_mul-dvd-mul_right, mul-dvd-mul_right}
use Rattle.std.proofs.lemmas.List.Elements.{All-from_recursion, recursion_from_All}
use Rattle.frac_core.proofs.Gauss.{Reduces, gauss, reduces}
use Rattle.problem_core.specs.Layout.{IsProblem, Line, Problem, lines}
use Rattle.problem_core.specs.Certificates.{weight_at}
use Rattle.problem_core.proofs.Forms.{each-impl, each-both}
use Rattle.corner_laws.specs.Units.{IsCommonShare, IsLevelUnit}
use Rattle.problem_core.proofs.Lines.{weight-none as no_weight, own-weight as own_weight}

-- ---- one line

pub grown : (n w k g : ℕ) → Reduces w k g → (k / g) ∣ n → k ∣ n * w
grown n w k g r d =
    let same : n * (w / g) * g ≡ n * w = let h : n * (w / g * g) ≡ n * w = ap (λ (m : ℕ). n * m) r.num_is in omega (arith, h) in
    subst (λ (m : ℕ). k ∣ m) same (subst (λ (m : ℕ). m ∣ n * (w / g) * g) r.den_is (mul-dvd-mul_right (k / g) (dvd-mul_right_of_dvd (k / g) d (w / g)) g))

pub shrunk : (n w k g : ℕ) → Reduces w k g → k ∣ n * w → (k / g) ∣ n
shrunk n w k g r d =
    let same : w / g * n * g ≡ n * w = let h : n * (w / g * g) ≡ n * w = ap (λ (m : ℕ). n * m) r.num_is in omega (arith, h) in
    gauss (w / g) (k / g) n r.apart (dvd_of_mul-dvd-mul_right (k / g) r.g_above (subst (λ (m : ℕ). m ∣ w / g * n * g) (sym r.den_is) (subst (λ (m : ℕ). k ∣ m) (sym same) d)))

whole-there : (l : Line) (level n g : ℕ) → 0 < l.scale → (l.level ≡ level → IsGcd l.scale l.weight g) → (l.level ≡ level → (l.scale / g) ∣ n) → l.scale ∣ n * weight_at l level
whole-there l level n g above is d =
    elim (cases_eq l.level level) [
      | inl e ↦ subst (λ (w : ℕ). l.scale ∣ n * w) (sym (own_weight l level e)) (grown n l.weight l.scale g (reduces l.weight l.scale g above (IsGcd-swap l.scale l.weight g (is e))) (d e))
      | inr ne ↦ subst (λ (m : ℕ). l.scale ∣ m) (sym (ap (λ (w : ℕ). n * w) (no_weight l level ne) ∙ mul-zero n)) (dvd-zero l.scale)
    ]

share-there : (l : Line) (level n g : ℕ) → 0 < l.scale → (l.level ≡ level → IsGcd l.scale l.weight g) → l.scale ∣ n * weight_at l level → l.level ≡ level → (l.scale / g) ∣ n
share-there l level n g above is d e = shrunk n l.weight l.scale g (reduces l.weight l.scale g above (IsGcd-swap l.scale l.weight g (is e))) (subst (λ (w : ℕ). l.scale ∣ n * w) (own_weight l level e) d)

-- ---- all lines

-- the least common multiple of the scales, each over its common divisor with the weight, is the level's unit
pub common_share_is_unit : (p : Problem) (level unit : ℕ) (divisor : Line → ℕ) → IsProblem p → IsCommonShare p level unit divisor → IsLevelUnit p level unit
common_share_is_unit p level unit divisor problem is = record {
  above = is.above;
  whole = All-from_recursion (λ l. l.scale ∣ unit * weight_at l level) (lines p)
      (each-impl (λ l. ((0 < l.scale) × (0 < l.den)) × ((l.level ≡ level → IsGcd l.scale l.weight (divisor l)) × (l.level ≡ level → (l.scale / divisor l) ∣ unit))) _ (lines p)
      (λ l h. whole-there l level unit (divisor l) h.0.0 h.1.0 h.1.1)
      (each-both _ _ (lines p) (recursion_from_All _ (lines p) problem) (each-both _ _ (lines p) (recursion_from_All _ (lines p) is.divisors) (recursion_from_All _ (lines p) is.common))));
  least = λ n each.
      is.least n
      (All-from_recursion (λ l. l.level ≡ level → (l.scale / divisor l) ∣ n) (lines p)
      (each-impl (λ l. ((0 < l.scale) × (0 < l.den)) × ((l.level ≡ level → IsGcd l.scale l.weight (divisor l)) × (l.scale ∣ n * weight_at l level))) _ (lines p)
      (λ l h. share-there l level n (divisor l) h.0.0 h.1.0 h.1.1)
      (each-both _ _ (lines p) (recursion_from_All _ (lines p) problem) (each-both _ _ (lines p) (recursion_from_All _ (lines p) is.divisors) (recursion_from_All _ (lines p) each)))));
}
