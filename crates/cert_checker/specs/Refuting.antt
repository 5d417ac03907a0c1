-- The clauses of a conflict, and the checker's verdict on one.
use Rattle.std.specs.Prelude.{◌≡◌, ◌≢◌, ◌⊎◌, ℕ, ◌+◌, ◌<◌, ◌/◌, List, [], take, length, pos, ◌*ℤ◌, ◌<ℤ◌}
use Rattle.std.specs.Prelude.{All}
use Rattle.std.specs.Int.{◌∣◌}
use Rattle.std.specs.List.{Any, HoldsAt}
use Rattle.problem_core.specs.declared.parts.RowName.{RowName}
use Rattle.problem_core.specs.declared.parts.RowName.TheVariants.{Held}
use Rattle.problem_core.specs.Layout.{Problem, coefficient, sum_of, product_of}
use Rattle.problem_core.specs.Certificates.{HasSign, required}
use Rattle.problem_core.specs.declared.limits.TheConstants.{REQUIRED}
use Rattle.cert_core.specs.declared.by.By.{By}
use Rattle.cert_core.specs.Claims.{times_of}
use Rattle.cert_checker.specs.declared.refuting.TheConstants.{ROOM}
use Rattle.cert_checker.specs.declared.verdict.Verdict.{Verdict}
use Rattle.cert_checker.specs.declared.verdict.Verdict.TheVariants.{Yes, No, NoRoom}
use Rattle.cert_checker.specs.declared.verdict.TheConstants.{CANCEL_CLAUSE, SIGNS_CLAUSE, SUM_CLAUSE}

-- ---- the clauses

-- the name is that of a required row
abbrev pub IsRequired : Problem → RowName → Type 0
IsRequired p row = Any (λ r. (r.rank ≡ REQUIRED) × (row ≡ Held r.id)) p.rows

-- there is a multiplier, all are of required rows, and they cancel at each attribute
pub record Cancels (p : Problem) (bys : List By) : Type 0 where
  pub some : bys ≢ []
  pub named : All (λ b. IsRequired p b.row) bys
  pub cancel : (v : ℕ) → sum_of (λ r. times_of bys (Held r.id) *ℤ coefficient v r.terms) (required p) ≡ pos 0

-- each required row's relation allows the sign of its multiplier
abbrev pub AreSigned : Problem → List By → Type 0
AreSigned p bys = All (λ r. HasSign r.rel (times_of bys (Held r.id))) (required p)

-- the constants of the required rows, each times its multiplier, add up to more than 0
abbrev pub IsAboveZero : Problem → List By → Type 0
IsAboveZero p bys = pos 0 <ℤ sum_of (λ r. times_of bys (Held r.id)
    *ℤ (r.constant.num *ℤ pos (product_of (λ s. s.constant.den) (required p) / r.constant.den))) (required p)

-- ---- room

-- the constants of the named rows have a common denominator for which their sum has room
abbrev pub HasSumRoom : Problem → List By → Type 0
HasSumRoom p bys = (d : ℕ) × (0 < d) × (d < ROOM)
    × All (λ b. All (λ r. b.row ≡ Held r.id → r.constant.den ∣ d) p.rows) bys

-- the row n is the first with which the rows named so far have none
abbrev pub IsFirstWithoutRoom : Problem → List By → ℕ → Type 0
IsFirstWithoutRoom p bys n =
    (k : ℕ)
    × (k < length bys)
    × HoldsAt (λ b. b.row ≡ Held n) bys k
    × HasSumRoom p (take k bys)
    × (HasSumRoom p (take (k + 1) bys) → ⊥)

-- ---- the verdict

-- clause 6 is that the rows cancel, 7 that their signs are allowed, and 8, after the test of room, that the
-- constants' sum is above 0
abbrev pub IsConflictVerdict : Problem → List By → Verdict → Type 0
IsConflictVerdict p bys Yes = Cancels p bys × AreSigned p bys × HasSumRoom p bys × IsAboveZero p bys
IsConflictVerdict p bys (NoRoom n) = Cancels p bys × AreSigned p bys × IsFirstWithoutRoom p bys n
IsConflictVerdict p bys (No clause) =
    ((clause ≡ CANCEL_CLAUSE) × (Cancels p bys → ⊥))
    ⊎ ((clause ≡ SIGNS_CLAUSE) × Cancels p bys × (AreSigned p bys → ⊥))
    ⊎ ((clause ≡ SUM_CLAUSE) × Cancels p bys × AreSigned p bys × HasSumRoom p bys × (IsAboveZero p bys → ⊥))
