-- What the checker says of a certificate.
use Rattle.std.specs.Prelude.{ℕ, ◌<◌, List, All}
use Rattle.frac_core.specs.Fraction.{Fraction}
use Rattle.problem_core.specs.Layout.{Problem}
use Rattle.problem_core.specs.Kept.{AreRising}
use Rattle.problem_core.specs.Certificates.{IsCertificate}
use Rattle.cert_core.specs.Claims.{BestLevel, multipliers_of}
use Rattle.cert_checker.specs.declared.verdict.Verdict.{Verdict}
use Rattle.cert_checker.specs.declared.verdict.Verdict.TheVariants.{Yes, No, NoRoom}
use Rattle.cert_checker.specs.Certifying.{AreOfStays, Balances, EachGiven, IsBestVerdict}

-- the values are those of the stays, the levels name what the problem has and balance, and the multipliers
-- are a certificate of each assignment that gives the values
pub record IsCertified (p : Problem) (values : List (ℕ × Fraction)) (levels : List BestLevel) : Type 0 where
  pub valued : AreOfStays p values
  pub balanced : Balances p levels
  pub certified : EachGiven values (λ x. IsCertificate p x (multipliers_of p levels))

-- the checker has no objection: it says yes, or that it has no room for some row's values
abbrev pub IsAccepted : Verdict → Type 0
IsAccepted Yes = Unit {0}
IsAccepted (No clause) = ⊥
IsAccepted (NoRoom row) = Unit {0}

-- what is certified is accepted
abbrev pub CertifiedIsAccepted : Type 0
CertifiedIsAccepted = (p : Problem) (values : List (ℕ × Fraction)) (levels : List BestLevel)
    (verdict : Verdict) → AreRising values → All (λ v. 0 < v.1.den) values → IsCertified p values levels
    → IsBestVerdict p values levels verdict → IsAccepted verdict
