-- Something is shown: best values of one stay, a conflict, and a path of no exchange.
use Rattle.std.proofs.Common.{◌∙◌, ap, Contains, inl, inr, false, ◌≡◌, ◌≢◌, ℕ, ◌*◌, ◌<◌, List, [], ◌∷◌, ℤ, pos, negsuc, ◌+ℤ◌, ◌-ℤ◌, ◌*ℤ◌, ◌<ℤ◌, ◌≤ℤ◌, refl, sym, subst, arith, All}
use Rattle.std.proofs.lemmas.Bool.{cond_both}
use Rattle.std.proofs.lemmas.List.Elements.{All-from_recursion, All-nil, recursion_from_All}
use Rattle.std.proofs.lemmas.List.Kept.{AllPairs-cons}
use Rattle.std.proofs.lemmas.Nat.Gcd.{dvd_antisymm}
use Rattle.std.proofs.Math.Nat.{one-dvd}
use borrow.Author.Differences.{ints}
use Rattle.frac_core.specs.Fraction.{Fraction, IsFitting}
use Rattle.frac_core.proofs.Lists.{any-cases, pairs-nil}
use Rattle.problem_core.specs.declared.parts.Level.{Level}
use Rattle.problem_core.specs.declared.parts.Level.TheVariants.{Priority, Stay as StayLevel}
use Rattle.problem_core.specs.declared.parts.RowName.TheVariants.{Held, Stay as StayOf}
use Rattle.problem_core.specs.declared.parts.Side.{Side}
use Rattle.problem_core.specs.declared.parts.Side.TheVariants.{Under, Over}
use Rattle.problem_core.specs.declared.parts.Stay.{Stay}
use Rattle.problem_core.specs.declared.parts.Term.{Term}
use Rattle.problem_core.specs.Layout.{Assignment, Gives, HasStay, IsCovered, Line, Problem, Row, coefficient, gap, line_of_stay, lines}
use Rattle.problem_core.specs.Gaps.{HasValue}
use Rattle.problem_core.specs.Kept.{IsRow, IsStay, IsTerm, IsWhole}
use Rattle.problem_core.specs.Certificates.{IsCertificate, IsLexNonnegative, Multipliers, over, under, weight_at}
use Rattle.problem_core.specs.Corners.{IsIn, column, place_of}
use Rattle.problem_core.specs.Levels.{IsLevelAt, IsLevelWriting, alone}
use Rattle.cert_core.specs.declared.by.By.{By}
use Rattle.cert_core.specs.Claims.{AreBys, AreLevels, BestLevel, IsLevel, bys_of, level_at, multipliers_of, same_level, scale_of, times_of}
use Rattle.cert_core.specs.Paths.{Path}
use Rattle.corner_laws.specs.Examples.{single, under_row}
use Rattle.corner_laws.proofs.Instances.RunExamples.{single_whole}
use Rattle.corner_laws.proofs.Instances.Shown.{five, one_each, opposed, seven, shown}
use Rattle.corner_laws.proofs.Instances.StopExamples.{spent_stops}
use Rattle.corner_laws.proofs.MarkWritings.Fits.{whole_is_kept}
use Rattle.corner_view.specs.Seen.{IsInUse, IsStronger}
use Rattle.cert_checker.specs.Certifying.{AreOfStays, HasLevel}
use Rattle.cert_checker.specs.LinePlaces.{names}
use Rattle.certificates.specs.Accepted.{IsCertified}
use Rattle.certificates.specs.OwnLevels.{HasNoNeed, IsOwnBest, IsOwnLevel}
use Rattle.claim_writing.specs.ClaimLines.{IsValue}
use Rattle.session_laws.proofs.Showing.UnfitInstance.{near, near-shown, near_path}
use Rattle.session_laws.specs.Shown.Shown.{CertifiedIsNotEnough, IsBestShown, IsConflictShown, IsSpentShown, SomeAreShown}

-- ---- one stay, of the attribute 1 at 0, and no row

abbrev still : Stay
still = record { attr = 1; target = record { num = pos 0; den = 1 } }

abbrev resting : Problem
resting = record { rows = []; stays = still ∷ [] }

abbrev resting_line : Line
resting_line = line_of_stay 1001 still

abbrev at_rest : List (ℕ × Fraction)
at_rest = (1, record { num = pos 0; den = 1 }) ∷ []

still-kept : IsStay still
still-kept = record { attr = (omega arith, omega arith); target = whole_is_kept 0 (omega arith) }

resting-whole : IsWhole resting
resting-whole = record {
  rows = All-nil IsRow;
  stays = All-from_recursion IsStay (still ∷ []) (still-kept, tt);
  rising = λ i j d less within. absurd (omega (arith, within));
  apart = λ i j d less within. absurd (omega (arith, less, within));
  covered = All-nil (IsCovered resting.stays);
  row_count = omega arith;
  stay_count = omega arith;
}

no-times : (c : ℤ) → pos 0 *ℤ c +ℤ pos 0 ≡ pos 0
no-times c = omega (arith, ints)

-- without multipliers a column is what the side costs
under-not-low : (s w : ℕ) (t : ℤ) → t ≡ pos 0 → pos 0 ≤ℤ (pos (s * w) -ℤ pos 1 *ℤ t)
under-not-low s w t e = omega (arith, ints, e)

over-not-low : (s w : ℕ) (t : ℤ) → t ≡ pos 0 → pos 0 ≤ℤ (pos (s * w) +ℤ pos 1 *ℤ t)
over-not-low s w t e = omega (arith, ints, e)

none-cancels : (t c : ℤ) → t ≡ pos 0 → t *ℤ c +ℤ pos 0 ≡ pos 0
none-cancels t c e = ap (λ (z : ℤ). z *ℤ c +ℤ pos 0) e ∙ no-times c

no-gap : (z d : ℤ) → z *ℤ pos 1 ≡ pos 0 *ℤ d → pos 1 *ℤ (pos 1 *ℤ z +ℤ pos 0) -ℤ pos 0 *ℤ d ≡ pos 0
no-gap z d e = omega (arith, ints, e)

not-low : (z : ℤ) → z ≡ pos 0 → z <ℤ pos 0 → ⊥
not-low z e h = absurd (omega (arith, ints, e, h))

not-high : (z : ℤ) → z ≡ pos 0 → pos 0 <ℤ z → ⊥
not-high z e h = absurd (omega (arith, ints, e, h))

-- the stay has no gap where its attribute is given 0
gap-none : (x : Assignment) → Gives at_rest x → gap x resting_line ≡ pos 0
gap-none x gives = no-gap (x.num 1) (pos x.den) (recursion_from_All (λ (v : ℕ × Fraction). x.num v.0 *ℤ pos v.1.den ≡ v.1.num *ℤ pos x.den) at_rest gives).0

-- levels that name no multiplier, and scales above 0
record AreBlank (m : Multipliers) : Type 0 where
  above : (level : ℕ) → 0 < m.scale level
  none : (level : ℕ) → m.times level (StayOf 1) ≡ pos 0

resting-certificate : (m : Multipliers) → AreBlank m → (x : Assignment) → Gives at_rest x → IsCertificate resting x m
resting-certificate m blank x gives = record {
  required = λ k d within. absurd (omega (arith, within));
  scales = blank.above;
  cancel = λ level v. none-cancels (m.times level (StayOf 1)) (coefficient v resting_line.form) (blank.none level);
  under_columns = All-from_recursion (λ l. IsLexNonnegative (under m l)) (lines resting) ((λ level before. under-not-low (m.scale level) (weight_at resting_line level) (m.times level (StayOf 1)) (blank.none level)), tt);
  over_columns = All-from_recursion (λ l. IsLexNonnegative (over m l)) (lines resting) ((λ level before. over-not-low (m.scale level) (weight_at resting_line level) (m.times level (StayOf 1)) (blank.none level)), tt);
  under_used = All-from_recursion (λ l. gap x l <ℤ pos 0 → (level : ℕ) → under m l level ≡ pos 0) (lines resting) ((λ low. absurd (not-low (gap x resting_line) (gap-none x gives) low)), tt);
  over_used = All-from_recursion (λ l. pos 0 <ℤ gap x l → (level : ℕ) → over m l level ≡ pos 0) (lines resting) ((λ high. absurd (not-high (gap x resting_line) (gap-none x gives) high)), tt);
}

at-stays : AreOfStays resting at_rest
at-stays = record {
  valued = All-from_recursion (λ (s : Stay). HasValue at_rest s.attr) resting.stays ((0, (1, record { num = pos 0; den = 1 }), omega arith, refl, refl), tt);
  held = All-from_recursion (λ (v : ℕ × Fraction). HasStay resting.stays v.0) at_rest ((0, still, omega arith, refl, refl), tt);
}

no-levels-blank : AreBlank (multipliers_of resting [])
no-levels-blank = record { above = λ level. omega arith; none = λ level. refl }

resting-certified : IsCertified resting at_rest []
resting-certified = record {
  valued = at-stays;
  balanced = record {
    scales = All-nil _;
    levels_held = All-nil _;
    rows_held = All-nil _;
    cancel = λ k v. no-times (coefficient v resting_line.form);
  };
  certified = resting-certificate (multipliers_of resting []) no-levels-blank;
}

-- ---- levels without multipliers, the weaker one first

abbrev stay_level : BestLevel
stay_level = record { level = StayLevel 1; scale = pos 1; by = [] }

abbrev weak_level : BestLevel
weak_level = record { level = Priority 0; scale = pos 1; by = [] }

abbrev backward : List BestLevel
backward = stay_level ∷ weak_level ∷ []

backward-bys : (level : Level) → bys_of backward level ≡ []
backward-bys level =
    cond_both (same_level (StayLevel 1) level) [] (bys_of (weak_level ∷ []) level) (λ (bys : List By). bys ≡ []) (λ _. refl)
    (λ _. cond_both (same_level (Priority 0) level) [] [] (λ (bys : List By). bys ≡ []) (λ _. refl) (λ _. refl))

backward-scales : (level : Level) → scale_of backward level ≡ 1
backward-scales level =
    cond_both (same_level (StayLevel 1) level) 1 (scale_of (weak_level ∷ []) level) (λ (s : ℕ). s ≡ 1) (λ _. refl)
    (λ _. cond_both (same_level (Priority 0) level) 1 1 (λ (s : ℕ). s ≡ 1) (λ _. refl) (λ _. refl))

backward-blank : AreBlank (multipliers_of resting backward)
backward-blank = record {
  above = λ level. subst (λ (s : ℕ). 0 < s) (sym (backward-scales (level_at resting level))) (omega arith);
  none = λ level. ap (λ (bys : List By). times_of bys (StayOf 1)) (backward-bys (level_at resting level));
}

no-bys : AreBys []
no-bys = record { fitting = All-nil (λ (b : By). IsFitting b.times); apart = pairs-nil (λ (b c : By). b.row ≢ c.row) }

other-levels : StayLevel 1 ≢ Priority 0
other-levels e = cc

backward-kept : AreLevels backward
backward-kept = record {
  each = All-from_recursion IsLevel backward (record { ranked = tt; scale = omega arith; by = no-bys }, (record { ranked = omega arith; scale = omega arith; by = no-bys }, tt));
  apart = AllPairs-cons (λ (l m : BestLevel). l.level ≢ m.level) stay_level (weak_level ∷ []) (All-from_recursion (λ (m : BestLevel). StayLevel 1 ≢ m.level) (weak_level ∷ []) (other-levels, tt)) (λ i j d less within. absurd (omega (arith, less, within)));
}

backward-certified : IsCertified resting at_rest backward
backward-certified = record {
  valued = at-stays;
  balanced = record {
    scales = All-from_recursion (λ (l : BestLevel). pos 0 <ℤ l.scale) backward (record { lt = tt }, (record { lt = tt }, tt));
    levels_held = All-from_recursion (λ (l : BestLevel). HasLevel resting l.level) backward ((0, still, omega arith, refl, refl), (tt, tt));
    rows_held = All-from_recursion (λ (l : BestLevel). All (λ (b : By). Contains (names resting) b.row) l.by) backward (All-nil (λ (b : By). Contains (names resting) b.row), (All-nil (λ (b : By). Contains (names resting) b.row), tt));
    cancel = λ k v. none-cancels ((multipliers_of resting backward).times k (StayOf 1)) (coefficient v resting_line.form) (backward-blank.none k);
  };
  certified = resting-certificate (multipliers_of resting backward) backward-blank;
}

pub not-enough : CertifiedIsNotEnough
not-enough = (resting, at_rest, backward, resting-whole, backward-kept, backward-certified, λ is. is.level_order 0 1 stay_level (omega arith) (omega arith))

-- the stay's level has no multiplier: each side of it costs 1
resting-columns : (side : Side) → All (λ l. pos l.scale *ℤ pos 1 ≡ column (alone 1 (λ name. pos 0)) side l 1001) (lines resting)
resting-columns Under = All-from_recursion (λ l. pos l.scale *ℤ pos 1 ≡ column (alone 1 (λ name. pos 0)) Under l 1001) (lines resting) (refl, tt)
resting-columns Over = All-from_recursion (λ l. pos l.scale *ℤ pos 1 ≡ column (alone 1 (λ name. pos 0)) Over l 1001) (lines resting) (refl, tt)

none-inside : (c : ℕ) → IsIn c [] → ⊥
none-inside c (k, within, is) = absurd (omega (arith, within))

resting-writing : IsLevelWriting resting [] 1001 1 (λ name. pos 0) (λ v. pos 1)
resting-writing = record {
  scale_positive = omega arith;
  cancel = λ v. no-times (coefficient v resting_line.form);
  columns = resting-columns;
  inside_zero = λ side. All-from_recursion (λ l. IsIn (place_of l.name side) [] → pos 1 ≡ pos 0) (lines resting) ((λ i. absurd (none-inside (place_of (StayOf 1) side) i)), tt);
  lowest = λ k h rest. dvd_antisymm h (one-dvd k);
}

no-need : (level : Level) → IsLevelAt resting level 1001 → HasNoNeed resting [] level
no-need level place = (1001, place, (1, (λ name. pos 0), (λ v. pos 1), resting-writing, All-from_recursion (λ (l : Line). pos 0 ≡ pos 0) (lines resting) (refl, tt)))

in-use : (level : Level) → IsInUse resting level → IsLevelAt resting level 1001
in-use level used =
    elim (any-cases (λ (l : Line). IsLevelAt resting level l.level) resting_line [] used) [
      | inl here ↦ here
      | inr (k, l, within, is, place) ↦ absurd (omega (arith, within))
    ]

resting-own : IsOwnBest resting [] []
resting-own = record {
  own = All-nil (IsOwnLevel resting []);
  needed = All-nil (λ (l : BestLevel). l.by ≢ []);
  order = pairs-nil (λ (l m : BestLevel). IsStronger resting l.level m.level);
  missing = λ level used none. no-need level (in-use level used);
}

best-shown : IsBestShown resting [] at_rest []
best-shown = record {
  whole = resting-whole;
  small = record { rows = omega arith; stays = omega arith };
  valued = All-from_recursion IsValue at_rest (record { attr = (omega arith, omega arith); value = whole_is_kept 0 (omega arith) }, tt);
  rising = λ i j d less within. absurd (omega (arith, less, within));
  kept = record { each = All-nil IsLevel; apart = pairs-nil (λ (l m : BestLevel). l.level ≢ m.level) };
  certified = resting-certified;
  own = resting-own;
}

-- ---- the conflict of `x >= 7` and `x <= 5`

own-term : IsTerm (record { attr = 1; by = pos 1 })
own-term = record { attr = (omega arith, omega arith); nonzero = λ e. absurd (omega (arith, ints, e)); small = omega arith }

seven-kept : IsRow seven
seven-kept = record {
  number = (omega arith, omega arith);
  rank = omega arith;
  weight = (omega arith, omega arith);
  scale = (omega arith, omega arith);
  constant = whole_is_kept 7 (omega arith);
  terms = All-from_recursion IsTerm seven.terms (own-term, tt);
  rising = λ i j d less within. absurd (omega (arith, less, within));
  count = omega arith;
}

five-kept : IsRow five
five-kept = record {
  number = (omega arith, omega arith);
  rank = omega arith;
  weight = (omega arith, omega arith);
  scale = (omega arith, omega arith);
  constant = whole_is_kept 5 (omega arith);
  terms = All-from_recursion IsTerm five.terms (own-term, tt);
  rising = λ i j d less within. absurd (omega (arith, less, within));
  count = omega arith;
}

term-covered : (r : Row) → r.terms ≡ record { attr = 1; by = pos 1 } ∷ [] → IsCovered opposed.stays r
term-covered r e =
    subst (λ (ts : List Term). All (λ t. HasStay opposed.stays t.attr) ts) (sym e)
    (All-from_recursion (λ t. HasStay opposed.stays t.attr) (record { attr = 1; by = pos 1 } ∷ []) ((0, still, omega arith, refl, refl), tt))

opposed-whole : IsWhole opposed
opposed-whole = record {
  rows = All-from_recursion IsRow opposed.rows (seven-kept, (five-kept, tt));
  stays = All-from_recursion IsStay opposed.stays (still-kept, tt);
  rising = AllPairs-cons (λ (r s : Row). r.id < s.id) seven (five ∷ []) (All-from_recursion (λ (s : Row). 1 < s.id) (five ∷ []) (omega arith, tt)) (λ i j d less within. absurd (omega (arith, less, within)));
  apart = λ i j d less within. absurd (omega (arith, less, within));
  covered = All-from_recursion (IsCovered opposed.stays) opposed.rows (term-covered seven refl, (term-covered five refl, tt));
  row_count = omega arith;
  stay_count = omega arith;
}

other-rows : Held 1 ≢ Held 2
other-rows e = cc

one-each-kept : AreBys one_each
one-each-kept = record {
  fitting = All-from_recursion (λ (b : By). IsFitting b.times) one_each (omega arith, (omega arith, tt));
  apart = AllPairs-cons (λ (b c : By). b.row ≢ c.row) (record { row = Held 1; times = pos 1 }) (record { row = Held 2; times = negsuc 0 } ∷ [])
      (All-from_recursion (λ (c : By). Held 1 ≢ c.row) (record { row = Held 2; times = negsuc 0 } ∷ []) (other-rows, tt)) (λ i j d less within. absurd (omega (arith, less, within)));
}

conflict-shown : IsConflictShown opposed one_each
conflict-shown = record { whole = opposed-whole; small = record { rows = omega arith; stays = omega arith }; kept = one-each-kept; shown = shown }

-- ---- a budget that is used up

abbrev resting_path : Path
resting_path = record { dual = false; corner = under_row ∷ []; swaps = [] }

spent-shown : IsSpentShown false (single 5) [] 0 resting_path
spent-shown = record { whole = single_whole; small = record { rows = omega arith; stays = omega arith }; ordered = refl; stops = spent_stops }

pub some-shown : SomeAreShown
some-shown = record {
  best = (resting, [], at_rest, [], best-shown);
  conflict = (opposed, one_each, conflict-shown);
  unfit = (near, near_path, near-shown);
  spent = (single 5, resting_path, spent-shown);
}
