-- The clauses of a certificate, and the checker's verdict on one.
use Rattle.std.specs.Prelude.{◌≡◌, ◌⊎◌, ℕ, ◌<◌, List, take, length, ℤ, pos, ◌*ℤ◌, ◌<ℤ◌, All, Contains, Bool}
use Rattle.std.specs.List.{HoldsAt}
use Rattle.std.specs.declared.cmp.Ordering.{Ordering}
use Rattle.std.specs.Ordering.{is_eq, is_ge, is_le}
use Rattle.frac_core.specs.Fraction.{Fraction}
use Rattle.problem_core.specs.declared.parts.Rel.{Rel}
use Rattle.problem_core.specs.declared.parts.Rel.TheVariants.{Eq, Le, Ge}
use Rattle.problem_core.specs.declared.parts.Level.{Level}
use Rattle.problem_core.specs.declared.parts.Level.TheVariants.{Priority, Stay as StayLevel}
use Rattle.problem_core.specs.Layout.{Row, Line, Problem, Assignment, Gives, Satisfies, HasStay, coefficient}
use Rattle.problem_core.specs.Layout.{sum_of, lines, gap}
use Rattle.problem_core.specs.Certificates.{Multipliers, IsLexNonnegative, under, over}
use Rattle.problem_core.specs.Gaps.{HasValue, HasGapRoom}
use Rattle.cert_core.specs.Claims.{BestLevel, multipliers_of}
use Rattle.cert_checker.specs.LinePlaces.{names}
use Rattle.cert_checker.specs.declared.verdict.Verdict.{Verdict}
use Rattle.cert_checker.specs.declared.verdict.Verdict.TheVariants.{Yes, No, NoRoom}
use Rattle.cert_checker.specs.declared.verdict.TheConstants.{BALANCE_CLAUSE, COLUMNS_CLAUSE}
use Rattle.cert_checker.specs.declared.verdict.TheConstants.{FREE_CLAUSE, GIVEN_CLAUSE, REQUIRED_CLAUSE}

-- ---- the clauses

-- each attribute with a stay has a value, and no other has one
pub record AreOfStays (p : Problem) (values : List (ℕ × Fraction)) : Type 0 where
  pub valued : All (λ s. HasValue values s.attr) p.stays
  pub held : All (λ v. HasStay p.stays v.0) values

-- the level is one of the problem's
abbrev pub HasLevel : Problem → Level → Type 0
HasLevel p (Priority rank) = Unit {0}
HasLevel p (StayLevel attr) = HasStay p.stays attr

-- scales are above 0, what is named is in the problem, and at each level the lines cancel at each attribute
pub record Balances (p : Problem) (levels : List BestLevel) : Type 0 where
  pub scales : All (λ l. pos 0 <ℤ l.scale) levels
  pub levels_held : All (λ l. HasLevel p l.level) levels
  pub rows_held : All (λ l. All (λ b. Contains (names p) b.row) l.by) levels
  pub cancel : (k v : ℕ) → sum_of (λ l. (multipliers_of p levels).times k l.name
      *ℤ coefficient v l.form) (lines p) ≡ pos 0

-- neither column of the line is lexicographically negative
abbrev pub IsNotNegative : Multipliers → Line → Type 0
IsNotNegative m l = IsLexNonnegative (under m l) × IsLexNonnegative (over m l)

-- the column of the side that the number's sign uses is all 0
abbrev pub IsFree : (ℕ → ℤ) → (ℕ → ℤ) → ℤ → Type 0
IsFree below above z = (z <ℤ pos 0 → (level : ℕ) → below level ≡ pos 0)
    × (pos 0 <ℤ z → (level : ℕ) → above level ≡ pos 0)

-- every column is lexicographically not negative
pub record AreNotNegative (p : Problem) (m : Multipliers) : Type 0 where
  pub below : All (λ l. IsLexNonnegative (under m l)) (lines p)
  pub above : All (λ l. IsLexNonnegative (over m l)) (lines p)

-- the column of each used side is all 0
pub record AreFree (p : Problem) (m : Multipliers) (x : Assignment) : Type 0 where
  pub below : All (λ l. gap x l <ℤ pos 0 → (level : ℕ) → under m l level ≡ pos 0) (lines p)
  pub above : All (λ l. pos 0 <ℤ gap x l → (level : ℕ) → over m l level ≡ pos 0) (lines p)

-- ---- room

-- each of the rows has room for its gap at the values
abbrev pub HaveGapRoom : List Row → List (ℕ × Fraction) → Type 0
HaveGapRoom rows values = All (λ r. HasGapRoom r values) rows

-- n is the number of the first row without room
abbrev pub IsFirstRowWithoutRoom : Problem → List (ℕ × Fraction) → ℕ → Type 0
IsFirstRowWithoutRoom p values n =
    (k : ℕ)
    × (k < length p.rows)
    × HoldsAt (λ r. (r.id ≡ n) × (HasGapRoom r values → ⊥)) p.rows k
    × HaveGapRoom (take k p.rows) values

-- ---- signs

-- the relation holds where the gap has this order to 0
abbrev pub is_met : Rel → Ordering → Bool
is_met Eq sign = is_eq sign
is_met Ge sign = is_ge sign
is_met Le sign = is_le sign

-- ---- the verdict

-- it holds of every assignment that gives the values
abbrev pub EachGiven : List (ℕ × Fraction) → (Assignment → Type 0) → Type 0
EachGiven values P = (x : Assignment) → Gives values x → P x

-- clause 1 is that the values are those of the stays; then comes the test of room; 2 is that the required
-- rows hold, 3 that the levels balance, 4 that no column is negative, and 5 that the columns of used sides
-- are 0
abbrev pub IsBestVerdict : Problem → List (ℕ × Fraction) → List BestLevel → Verdict → Type 0
IsBestVerdict p values levels Yes =
    AreOfStays p values
    × HaveGapRoom p.rows values
    × EachGiven values (Satisfies p)
    × Balances p levels
    × AreNotNegative p (multipliers_of p levels)
    × EachGiven values (AreFree p (multipliers_of p levels))
IsBestVerdict p values levels (NoRoom n) = AreOfStays p values × IsFirstRowWithoutRoom p values n
IsBestVerdict p values levels (No clause) =
    ((clause ≡ GIVEN_CLAUSE) × (AreOfStays p values → ⊥))
    ⊎ ((clause ≡ REQUIRED_CLAUSE) × AreOfStays p values × HaveGapRoom p.rows values
    × EachGiven values (λ x. Satisfies p x → ⊥))
    ⊎ ((clause ≡ BALANCE_CLAUSE) × AreOfStays p values × HaveGapRoom p.rows values
    × EachGiven values (Satisfies p) × (Balances p levels → ⊥))
    ⊎ ((clause ≡ COLUMNS_CLAUSE) × AreOfStays p values × HaveGapRoom p.rows values
    × EachGiven values (Satisfies p) × Balances p levels × (AreNotNegative p (multipliers_of p levels) → ⊥))
    ⊎ ((clause ≡ FREE_CLAUSE) × AreOfStays p values × HaveGapRoom p.rows values
    × EachGiven values (Satisfies p) × Balances p levels × AreNotNegative p (multipliers_of p levels)
    × EachGiven values (λ x. AreFree p (multipliers_of p levels) x → ⊥))
