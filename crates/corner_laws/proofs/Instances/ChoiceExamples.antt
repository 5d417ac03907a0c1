-- The words of writings, reduced costs and exchanges of a run: `x >= 5` where x is 0.
use Rattle.std.proofs.Common.{◌≡◌, ◌≢◌, ◌⊎◌, ℕ, ◌*◌, ◌<◌, List, [], ◌∷◌, ℤ, pos, negsuc, ◌+ℤ◌, ◌-ℤ◌, ◌*ℤ◌, ◌<ℤ◌, ◌≤ℤ◌, refl, sym, arith, inl, inr, ne_eqb}
use Rattle.std.proofs.lemmas.Bool.{cases_eq}
use Rattle.std.proofs.lemmas.List.Elements.{All-from_recursion, recursion_from_All}
use borrow.Author.Differences.{ints}
use Rattle.problem_core.specs.declared.parts.RowName.TheVariants.{Held}
use Rattle.problem_core.specs.declared.parts.Side.TheVariants.{Under, Over}
use Rattle.problem_core.specs.declared.parts.Term.{Term}
use Rattle.problem_core.specs.Layout.{coefficient, lines, value_at}
use Rattle.problem_core.specs.Corners.{IsWritingOf, column, equation, one_column, place, attr_column}
use Rattle.problem_core.specs.Levels.{alone}
use Rattle.corner_laws.specs.Examples.{over_row, over_stay, single, under_row}
use Rattle.corner_laws.specs.Runs.{FallsFirst, IsFirstToLeave, IsRunSwap, Writes, Writing}
use Rattle.corner_laws.specs.Sums.{AreReducedAt, AreWritings, IsPrimalChoice, Writings}
use Rattle.corner_laws.proofs.MarkWritings.Fits.{one_factor}
use Rattle.corner_laws.proofs.Instances.LevelFits.{reduced_there, writes}
use Rattle.corner_laws.proofs.Instances.PathExamples.{alone-in, no, under-negative, under-stands, under_no_end, under_point}
use Rattle.corner_laws.proofs.WrittenValues.{value_there}

-- ---- writings: the row's under deviation is 5 and its over one, and the stay's under one less its over one

abbrev pub under_form : List Term
under_form = record { attr = 5; by = pos 1 } ∷ record { attr = 6; by = pos 1 } ∷ record { attr = 7; by = negsuc 0 } ∷ []

form-at : (v : ℕ) → coefficient v under_form ≢ pos 0 → (v ≡ 5) ⊎ ((v ≡ 6) ⊎ (v ≡ 7))
form-at v some =
    elim (cases_eq 5 v) [
      | inl e ↦ inl (sym e)
      | inr n ↦ elim (cases_eq 6 v) [
        | inl e ↦ inr (inl (sym e))
        | inr m ↦ elim (cases_eq 7 v) [
          | inl e ↦ inr (inr (sym e))
          | inr k ↦ absurd (some (rw (ne_eqb 5 v n, ne_eqb 6 v m, ne_eqb 7 v k) refl))
        ]
      ]
    ]

under-holds : (u o p q one a : ℤ) → pos 1 *ℤ u +ℤ (negsuc 0 *ℤ o +ℤ (negsuc 4 *ℤ one +ℤ (pos 1 *ℤ a +ℤ pos 0))) ≡ pos 0 → pos 1 *ℤ p +ℤ (negsuc 0 *ℤ q +ℤ (pos 0 *ℤ one +ℤ (pos 1 *ℤ a +ℤ pos 0))) ≡ pos 0
    → pos 1 *ℤ (pos 1 *ℤ u -ℤ (pos 1 *ℤ o +ℤ (pos 1 *ℤ p +ℤ (negsuc 0 *ℤ q +ℤ pos 0)))) ≡ pos 1 *ℤ (pos 5 *ℤ one)
under-holds u o p q one a e f = omega (arith, ints, e, f)

under-writing : IsWritingOf (single 5) (under_row ∷ []) (λ x. x 4) 1 under_form (pos 5) 1
under-writing = record {
  scale_positive = omega arith;
  den_positive = omega arith;
  outside = λ v some. elim (form-at v some) [
    | inl e ↦ ((1, omega arith, sym e), alone-in under_row v (λ q. omega (arith, e, q)))
    | inr (inl e) ↦ ((2, omega arith, sym e), alone-in under_row v (λ q. omega (arith, e, q)))
    | inr (inr e) ↦ ((3, omega arith, sym e), alone-in under_row v (λ q. omega (arith, e, q)))
  ];
  holds = λ x solves.
      let e = recursion_from_All (λ l. value_at x.num (equation l) ≡ pos 0) (lines (single 5)) solves in
      under-holds (x.num 4) (x.num 5) (x.num 6) (x.num 7) (x.num one_column) (x.num (attr_column 1)) e.0 e.1.0;
  lowest = λ k each whole. one_factor k whole.0 whole.1;
}

-- the same form with the value n
abbrev numbers_at : ℤ → Writings
numbers_at n = record { scale = λ c. 1; form = λ c. under_form; num = λ c. n; den = λ c. 1 }

pub are_writings : AreWritings (single 5) (under_row ∷ []) (numbers_at (pos 5))
are_writings = All-from_recursion (λ m. IsWritingOf (single 5) (under_row ∷ []) (λ x. x (place m)) 1 under_form (pos 5) 1) (under_row ∷ []) (under-writing, tt)

-- the value is not 4
pub are_not_writings : AreWritings (single 5) (under_row ∷ []) (numbers_at (pos 4)) → ⊥
are_not_writings h =
    let w = (recursion_from_All (λ m. IsWritingOf (single 5) (under_row ∷ []) (λ x. x (place m)) 1 under_form (pos 4) 1) (under_row ∷ []) h).0 in
    let e : pos 1 *ℤ pos 5 ≡ pos 4 *ℤ pos 1 = value_there (single 5) (under_row ∷ []) (λ x. x 4) 1 under_form (pos 4) 1 under_point w under-stands in
    absurd (omega (arith, ints, e))

-- where the stay's over mark grows, the row's under mark falls, and alone
pub under_leaves : IsPrimalChoice (under_row ∷ []) (record { enter = over_stay; leave = under_row }) (numbers_at (pos 5))
under_leaves = (
  omega (arith, ints),
  All-from_recursion (λ m. coefficient 7 under_form <ℤ pos 0 → (pos 5 *ℤ (coefficient 7 under_form *ℤ pos (1 * 1))) ≤ℤ (pos 5 *ℤ (coefficient 7 under_form *ℤ pos (1 * 1)))) (under_row ∷ []) ((λ h. omega (arith, ints)), tt),
)

-- where the row's over mark grows it rises
pub under_rises : IsPrimalChoice (under_row ∷ []) (record { enter = over_row; leave = under_row }) (numbers_at (pos 5)) → ⊥
under_rises (low, least) = absurd (omega (arith, ints, low))

-- ---- reduced costs

pub reduced_first : AreReducedAt (single 5) (under_row ∷ []) 0 reduced_there
reduced_first = inl (1, _, writes)

-- no line stands at the eighth level
pub reduced_unused : AreReducedAt (single 5) (under_row ∷ []) 7 (λ v. pos 0)
reduced_unused = inr (All-from_recursion (λ l. l.level ≢ 7) (lines (single 5)) ((λ e. absurd (omega (arith, e))), ((λ e. absurd (omega (arith, e))), tt)), λ v. refl)

no-scale : (s : ℕ) (y : ℤ) → 0 < s → pos 1 *ℤ pos 0 ≡ pos (s * 1) -ℤ pos 1 *ℤ y → pos 1 *ℤ pos 0 ≡ pos (s * 0) +ℤ pos 1 *ℤ y → ⊥
no-scale s y above e f = absurd (omega (arith, ints, above, e, f))

-- the row's marks cost something
pub reduced_not : AreReducedAt (single 5) (under_row ∷ []) 0 (λ v. pos 0) → ⊥
reduced_not (inr (unused, none)) = absurd ((recursion_from_All (λ l. l.level ≢ 0) (lines (single 5)) unused).0 refl)
reduced_not (inl (scale, times, w)) =
    no-scale scale (times (Held 1)) w.scale_positive
    ((recursion_from_All (λ l. pos l.scale *ℤ pos 0 ≡ column (alone scale times) Under l 0) (lines (single 5)) (w.columns Under)).0)
    ((recursion_from_All (λ l. pos l.scale *ℤ pos 0 ≡ column (alone scale times) Over l 0) (lines (single 5)) (w.columns Over)).0)

-- ---- an exchange of a run

abbrev under_writing : Writing
under_writing = record { scale = 1; form = under_form; num = pos 5; den = 1 }

pub under_first : IsFirstToLeave (single 5) (under_row ∷ []) (under_row ∷ []) (record { enter = over_stay; leave = under_row })
under_first = record {
  leaving = under_writing;
  writes = under-writing;
  falls = omega (arith, ints);
  least = λ ray r.
      All-from_recursion (λ m. ray (place m) <ℤ pos 0 → (w : Writing) × Writes (single 5) (under_row ∷ []) (place m) w × FallsFirst (4 ∷ []) 7 4 under_writing (place m) w) (under_row ∷ [])
      ((λ down. (under_writing, under-writing, inr (refl, inr (refl, tt)))), tt);
}

-- where x is 0 the stay's over mark enters, and the row's under mark leaves
pub run_begins : IsRunSwap (single 5) (under_row ∷ []) (under_row ∷ []) (record { enter = over_stay; leave = under_row })
run_begins = record {
  no_end = under_no_end;
  mark = (3, omega arith, refl);
  enters = alone-in under_row 7 (no 7 4 (inr (omega arith)));
  leaves = (0, omega arith, refl);
  column = under-negative;
  first_to_leave = under_first;
}

-- what is outside does not leave
pub run_does_not : IsRunSwap (single 5) (under_row ∷ []) (under_row ∷ []) (record { enter = over_stay; leave = over_row }) → ⊥
run_does_not h = alone-in under_row 5 (no 5 4 (inr (omega arith))) h.leaves

-- ---- ties

-- a mark that falls as fast as the one with the column 7 grows
abbrev falling : ℤ → Writing
falling n = record { scale = 1; form = record { attr = 7; by = negsuc 0 } ∷ []; num = n; den = 1 }

-- the one at 3 falls before the one at 5
pub third_falls : FallsFirst (4 ∷ 9 ∷ []) 7 9 (falling (pos 3)) 4 (falling (pos 5))
third_falls = inl (omega (arith, ints))

pub fifth_falls_not : FallsFirst (4 ∷ 9 ∷ []) 7 4 (falling (pos 5)) 9 (falling (pos 3)) → ⊥
fifth_falls_not (inl h) = absurd (omega (arith, ints, h))
fifth_falls_not (inr h) = let e = h.0 in absurd (omega (arith, ints, e))

-- both are at 5, and the run began with both inside: the later one leaves
pub later_breaks : FallsFirst (4 ∷ 9 ∷ []) 7 9 (falling (pos 5)) 4 (falling (pos 5))
later_breaks = inr (refl, inl (omega (arith, ints)))

pub earlier_breaks_not : FallsFirst (4 ∷ 9 ∷ []) 7 4 (falling (pos 5)) 9 (falling (pos 5)) → ⊥
earlier_breaks_not (inl h) = absurd (omega (arith, ints, h))
earlier_breaks_not (inr (e, inl h)) = absurd (omega (arith, ints, h))
earlier_breaks_not (inr (e, inr h)) = let f = h.0 in absurd (omega (arith, ints, f))
