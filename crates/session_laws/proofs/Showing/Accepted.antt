-- What is shown of best values and of a conflict is accepted.
use Rattle.std.proofs.Common.{◌≡◌, ◌≢◌, ℕ, ◌/◌, ◌<◌, List, [], ◌∷◌, filter, get_or, nat_eq, cond, ℤ, pos, ◌+ℤ◌, ◌*ℤ◌, ◌<ℤ◌, refl, ap₂, subst, arith, inl, inr, All, Any, Bool, eqb-true}
use Rattle.std.proofs.lemmas.Bool.{cases_Bool}
use borrow.Author.Differences.{ints}
use Rattle.frac_core.specs.Fraction.{Fraction}
use Rattle.frac_core.proofs.Integers.{zero-mul_ℤ}
use Rattle.frac_core.proofs.Lists.{any-cases, any-here, any-later}
use Rattle.problem_core.specs.declared.parts.RowName.TheVariants.{Held}
use Rattle.problem_core.specs.Layout.{Problem, Row, product_of, sum_of}
use Rattle.problem_core.specs.Certificates.{required}
use Rattle.cert_core.specs.declared.by.By.{By}
use Rattle.cert_core.specs.Stops.{IsShownConflict}
use Rattle.certificates.specs.Accepted.{IsAccepted}
use Rattle.certificates.proofs.Accepted.{accepted}
use Rattle.cert_checker.specs.declared.verdict.Verdict.{Verdict}
use Rattle.cert_checker.specs.declared.verdict.Verdict.TheVariants.{Yes, No, NoRoom}
use Rattle.cert_checker.specs.Refuting.{Cancels, IsAboveZero, IsConflictVerdict}
use Rattle.claim_writing.specs.declared.claim.Claim.{Claim}
use Rattle.claim_writing.specs.declared.claim.Claim.TheVariants.{IsBest, IsConflict}
use Rattle.claim_writing.specs.ClaimLines.{IsValue}
use Rattle.claim_check.specs.Checks.{IsVerdictOn, verdict_text}
use Rattle.session_laws.specs.Shown.Shown.{CanBeShown, CertificatesAreAccepted, ConflictsAreAccepted, IsAcceptance, IsAcceptedClaim}
use Rattle.session_laws.proofs.Showing.Judged.{shown-judged}
use Rattle.session_laws.proofs.Showing.Written.{best-written, conflict-written}

-- the line of a verdict that accepts the claim
acceptance : (p : Problem) (c : Claim) (v : Verdict) (told : List ℕ) → IsVerdictOn p c v → IsAccepted v → told ≡ verdict_text v → IsAcceptance p c told
acceptance p c Yes told is accepts e = inl e
acceptance p c (NoRoom n) told is accepts e = inr (n, is, e)
acceptance p c (No clause) told is accepts e = absurd accepts

-- where each verdict on a claim accepts it, whatever is written of its text does
pub text-accepted : (p : Problem) (c : Claim) → CanBeShown p c → ((v : Verdict) → IsVerdictOn p c v → IsAccepted v) → IsAcceptedClaim p c
text-accepted p c can accepts comments ended told good are check =
    let judged = shown-judged comments p c ended told good are can check in
    acceptance p c judged.0 told judged.1 (accepts judged.0 judged.1) judged.2

-- ---- best values

-- the denominators of values that are kept are above 0
dens : (values : List (ℕ × Fraction)) → All IsValue values → All (λ v. 0 < v.1.den) values
dens values each k d within = (each k d within).value.lowest.above

pub certificates-accepted : CertificatesAreAccepted
certificates-accepted p at values levels is =
    text-accepted p (IsBest values levels) (record { whole = is.whole; small = is.small; written = best-written p at values levels is.whole is.valued is.rising is.kept is.own })
    (λ v judged. accepted p values levels v is.rising (dens values is.valued) is.certified judged)

-- ---- conflicts

-- a required row is one of rank 1000
any-required : (P : Row → Type 0) (rows : List Row) → Any P (filter (λ (r : Row). nat_eq r.rank 1000) rows) → Any (λ (r : Row). (r.rank ≡ 1000) × P r) rows
any-required P [] (k, r, within, is, h) = absurd (omega (arith, within))
any-required P (r ∷ rows) some =
    let others : List Row = filter (λ (s : Row). nat_eq s.rank 1000) rows in
    elim (cases_Bool (nat_eq r.rank 1000)) [
      | inl is ↦
          elim (any-cases P r others (subst (λ (b : Bool). Any P (cond b (r ∷ others) others)) is some)) [
            | inl here ↦ any-here (λ (s : Row). (s.rank ≡ 1000) × P s) r rows (eqb-true r.rank 1000 is, here)
            | inr later ↦ any-later (λ (s : Row). (s.rank ≡ 1000) × P s) r rows (any-required P rows later)
          ]
      | inr off ↦ any-later (λ (s : Row). (s.rank ≡ 1000) × P s) r rows (any-required P rows (subst (λ (b : Bool). Any P (cond b (r ∷ others) others)) off some))
    ]

-- no multiplier, no sum
no-sum : (F : Row → ℤ) (rows : List Row) → sum_of (λ r. pos 0 *ℤ F r) rows ≡ pos 0
no-sum F [] = refl
no-sum F (r ∷ rows) = ap₂ ◌+ℤ◌ (zero-mul_ℤ (F r)) (no-sum F rows)

not-above : (z : ℤ) → z ≡ pos 0 → pos 0 <ℤ z → ⊥
not-above z none above = let h : pos 0 <ℤ pos 0 = subst (λ (w : ℤ). pos 0 <ℤ w) none above in absurd (omega (arith, ints, h))

-- there is a multiplier, since the sum is above 0
some-by : (p : Problem) (by : List By) → IsAboveZero p by → by ≢ []
some-by p by above none =
    let h : IsAboveZero p [] = subst (λ (bys : List By). IsAboveZero p bys) none above in
    not-above _ (no-sum (λ r. r.constant.num *ℤ pos (product_of (λ (s : Row). s.constant.den) (required p) / r.constant.den)) (required p)) h

conflict-cancels : (p : Problem) (by : List By) → IsShownConflict p by → Cancels p by
conflict-cancels p by shown = record {
  some = some-by p by shown.refutes.above_zero;
  named = λ k d within. any-required (λ (r : Row). (get_or by k d).row ≡ Held r.id) p.rows (shown.named k d within);
  cancel = shown.refutes.cancel;
}

-- no clause fails
conflict-accepted : (p : Problem) (by : List By) (v : Verdict) → IsShownConflict p by → IsConflictVerdict p by v → IsAccepted v
conflict-accepted p by Yes shown h = tt
conflict-accepted p by (NoRoom n) shown h = tt
conflict-accepted p by (No clause) shown h =
    elim h [
      | inl (e, none) ↦ none (conflict-cancels p by shown)
      | inr (inl (e, cancels, none)) ↦ none shown.refutes.signs
      | inr (inr (e, cancels, signed, room, none)) ↦ none shown.refutes.above_zero
    ]

pub conflicts-accepted : ConflictsAreAccepted
conflicts-accepted p by is =
    text-accepted p (IsConflict by) (record { whole = is.whole; small = is.small; written = conflict-written p by is.whole is.kept is.shown })
    (λ v judged. conflict-accepted p by v is.shown judged)
