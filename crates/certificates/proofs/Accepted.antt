-- What is certified is accepted.
use Rattle.std.proofs.Common.{ℕ, ◌<◌, List, All, inl, inr}
use Rattle.frac_core.specs.Fraction.{Fraction}
use Rattle.problem_core.specs.Kept.{AreRising}
use Rattle.problem_core.specs.Layout.{Problem}
use Rattle.problem_core.specs.Certificates.{IsCertificate}
use Rattle.cert_core.specs.Claims.{BestLevel, multipliers_of}
use Rattle.cert_checker.specs.declared.verdict.Verdict.{Verdict}
use Rattle.cert_checker.specs.declared.verdict.Verdict.TheVariants.{Yes, No, NoRoom}
use Rattle.cert_checker.specs.Certifying.{AreFree, AreNotNegative, IsBestVerdict}
use Rattle.cert_checker.proofs.Givens.{some-Gives}
use Rattle.certificates.specs.Accepted.{IsAccepted, IsCertified}

no-negative : (p : Problem) (levels : List BestLevel) (x : _) → IsCertificate p x (multipliers_of p levels) → AreNotNegative p (multipliers_of p levels)
no-negative p levels x c = record { below = c.under_columns; above = c.over_columns }

used-free : (p : Problem) (levels : List BestLevel) (x : _) → IsCertificate p x (multipliers_of p levels) → AreFree p (multipliers_of p levels) x
used-free p levels x c = record { below = c.under_used; above = c.over_used }

-- no clause fails
pub accepted : (p : Problem) (values : List (ℕ × Fraction)) (levels : List BestLevel) (verdict : Verdict) → AreRising values → All (λ v. 0 < v.1.den) values → IsCertified p values levels → IsBestVerdict p values levels verdict → IsAccepted verdict
accepted p values levels Yes rising above c h = tt
accepted p values levels (NoRoom n) rising above c h = tt
accepted p values levels (No clause) rising above c h =
    let x = some-Gives values rising above in
    let cert : IsCertificate p x.0 (multipliers_of p levels) = c.certified x.0 x.1 in
    elim h [
      | inl (e, none) ↦ none c.valued
      | inr (inl (e, of, room, none)) ↦ none x.0 x.1 cert.required
      | inr (inr (inl (e, of, room, met, none))) ↦ none c.balanced
      | inr (inr (inr (inl (e, of, room, met, balanced, none)))) ↦ none (no-negative p levels x.0 cert)
      | inr (inr (inr (inr (e, of, room, met, balanced, columns, none)))) ↦ none x.0 x.1 (used-free p levels x.0 cert)
    ]
