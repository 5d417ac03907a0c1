-- In a new session a width of the window is in no conflict, or clashes with the window's own row.
use Rattle.std.proofs.Common.{◌≡◌, ◌≢◌, inl, inr, ℕ, zero, suc, ◌<◌, cond, nat_eq, List, [], ◌∷◌, ℤ, pos, negsuc, ◌+ℤ◌, ◌*ℤ◌, unsigned_abs, refl, subst, arith, lit<, AllPairs, Any}
use Rattle.std.specs.Int.{◌∣◌}
use Rattle.std.specs.List.Sorted.{IsStrictlyIncreasing}
use Rattle.std.proofs.lemmas.List.Elements.{recursion_from_All, All-from_recursion}
use Rattle.std.proofs.lemmas.List.Kept.{AllPairs-cons, AllPairs-from_increasing}
use Rattle.std.proofs.lemmas.Nat.Gcd.{dvd_antisymm}
use Rattle.std.proofs.Math.Nat.{one-dvd}
use borrow.Author.Differences.{ints}
use Rattle.frac_core.specs.Fraction.{Fraction, IsKept}
use Rattle.frac_core.proofs.Lists.{pairs-unmapped}
use Rattle.problem_core.specs.declared.limits.TheConstants.{REQUIRED}
use Rattle.problem_core.specs.declared.parts.Mark.{Mark}
use Rattle.problem_core.specs.declared.parts.Rel.{Rel}
use Rattle.problem_core.specs.declared.parts.Rel.TheVariants.{Eq, Ge}
use Rattle.problem_core.specs.declared.parts.RowName.TheVariants.{Held}
use Rattle.problem_core.specs.declared.parts.Stay.{Stay}
use Rattle.problem_core.specs.declared.parts.Term.{Term}
use Rattle.problem_core.specs.Certificates.{HasSign}
use Rattle.problem_core.specs.Gaps.{HasValue}
use Rattle.problem_core.specs.Kept.{IsRow, IsStay, IsTerm, IsWhole}
use Rattle.problem_core.specs.Layout.{Assignment, HasStay, IsCovered, Problem, Row, Satisfies, coefficient, error, line_of_row}
use Rattle.problem_core.specs.Window.{required_row, window_values, zero_fraction}
use Rattle.problem_core.proofs.Sides.{zero-kept}
use Rattle.cert_core.specs.declared.by.By.{By}
use Rattle.cert_core.specs.Claims.{times_of}
use Rattle.cert_core.specs.Stops.{ComesBefore, IsShownConflict}
use Rattle.conflict_core.specs.Cores.{AreRequired, IsCore, trial}
use Rattle.conflict_core.specs.Shown.{DoWithout, IsShownCore, IsSolution}
use Rattle.conflict_core.proofs.CoreLaws.{core_is_conflict, shown_is_core}
use Rattle.script_text.specs.declared.words.Version.{Version}
use Rattle.session_undo.specs.Explaining.{WhyStep}
use Rattle.session_undo.specs.Machine.{PosesChange}
use Rattle.session_undo.specs.Replies.{Core, Solvable}
use Rattle.session_undo.specs.State.{State, first_state}
use Rattle.session_laws.specs.Posed.Laws.{sized_window}
use Rattle.session_laws.specs.Posed.Questions.{SizesAreExplained, own_less_size, points, width_of_window, widths}
use Rattle.session_laws.proofs.Posing.First.{first-scene, sizes-posed}
use Rattle.session_laws.proofs.Posing.Posed.{one-change}
use Rattle.session_laws.proofs.Posing.Questions.{cores-posed, solvable-posed}

-- ---- the problem of a width

abbrev of_width : ℤ → Problem
of_width n = sized_window (points n) (points (pos 1))

one-kept : IsKept (points (pos 1))
one-kept = record {
  lowest = record { above = lit< tt; coprime = (one-dvd 1, one-dvd 1, λ d a b. b) };
  fits = record { num_fits = lit< tt; den_fits = lit< tt };
}

less-kept : IsKept (points (negsuc 0))
less-kept = record {
  lowest = record { above = lit< tt; coprime = (one-dvd 1, one-dvd 1, λ d a b. b) };
  fits = record { num_fits = lit< tt; den_fits = lit< tt };
}

term-kept : (attr : ℕ) → 0 < attr → attr < 5 → IsTerm (record { attr = attr; by = pos 1 })
term-kept attr up small = record { attr = (up, omega (arith, small)); nonzero = λ e. absurd (omega (arith, ints, e)); small = omega arith }

row-kept : (id attr : ℕ) (rel : Rel) (c : Fraction) → 0 < id → id < 7 → 0 < attr → attr < 5 → IsKept c → IsRow (required_row id attr rel c)
row-kept id attr rel c above few up small kept = record {
  number = (above, omega (arith, few));
  rank = omega arith;
  weight = (omega arith, omega arith);
  scale = (omega arith, omega arith);
  constant = kept;
  terms = All-from_recursion IsTerm (required_row id attr rel c).terms (term-kept attr up small, tt);
  rising = λ i j d less within. absurd (omega (arith, less, within));
  count = omega arith;
}

abbrev still : ℕ → Stay
still attr = record { attr = attr; target = zero_fraction }

stay-kept : (attr : ℕ) → 0 < attr → attr < 5 → IsStay (still attr)
stay-kept attr up small = record { attr = (up, omega (arith, small)); target = zero-kept }

abbrev one_to_four : List ℕ
one_to_four = 1 ∷ 2 ∷ 3 ∷ 4 ∷ []

abbrev one_to_six : List ℕ
one_to_six = 1 ∷ 2 ∷ 3 ∷ 4 ∷ 5 ∷ 6 ∷ []

four-increasing : IsStrictlyIncreasing one_to_four
four-increasing zero h = omega arith
four-increasing (suc zero) h = omega arith
four-increasing (suc (suc zero)) h = omega arith
four-increasing (suc (suc (suc k))) h = absurd (omega (arith, h))

six-increasing : IsStrictlyIncreasing one_to_six
six-increasing zero h = omega arith
six-increasing (suc zero) h = omega arith
six-increasing (suc (suc zero)) h = omega arith
six-increasing (suc (suc (suc zero))) h = omega arith
six-increasing (suc (suc (suc (suc zero)))) h = omega arith
six-increasing (suc (suc (suc (suc (suc k))))) h = absurd (omega (arith, h))

abbrev stays : List Stay
stays = (of_width (pos 0)).stays

stays-rise : AllPairs (λ (s t : Stay). s.attr < t.attr) stays
stays-rise = pairs-unmapped (λ (s : Stay). s.attr) (λ (a b : ℕ). a < b) stays (AllPairs-from_increasing one_to_four four-increasing)

-- each attribute of the window has a stay
has-left : HasStay stays 1
has-left = (0, still 1, omega arith, refl, refl)

has-top : HasStay stays 2
has-top = (1, still 2, omega arith, refl, refl)

has-width : HasStay stays 3
has-width = (2, still 3, omega arith, refl, refl)

has-height : HasStay stays 4
has-height = (3, still 4, omega arith, refl, refl)

covered-by : (id attr : ℕ) (rel : Rel) (c : Fraction) → HasStay stays attr → IsCovered stays (required_row id attr rel c)
covered-by id attr rel c has = All-from_recursion (λ (t : Term). HasStay stays t.attr) (required_row id attr rel c).terms (has, tt)

module _ (n : ℤ) (kept : IsKept (points n)) where
  width-whole : IsWhole (of_width n)
  width-whole = record {
    rows = All-from_recursion IsRow (of_width n).rows (
      row-kept 1 1 Eq zero_fraction (omega arith) (omega arith) (omega arith) (omega arith) zero-kept,
      (
        row-kept 2 2 Eq zero_fraction (omega arith) (omega arith) (omega arith) (omega arith) zero-kept,
        (
          row-kept 3 3 Ge zero_fraction (omega arith) (omega arith) (omega arith) (omega arith) zero-kept,
          (
            row-kept 4 4 Ge zero_fraction (omega arith) (omega arith) (omega arith) (omega arith) zero-kept,
            (
              row-kept 5 3 Eq (points n) (omega arith) (omega arith) (omega arith) (omega arith) kept,
              (row-kept 6 4 Eq (points (pos 1)) (omega arith) (omega arith) (omega arith) (omega arith) one-kept, tt),
            ),
          ),
        ),
      ),
    );
    stays = All-from_recursion IsStay stays (
      stay-kept 1 (omega arith) (omega arith),
      (stay-kept 2 (omega arith) (omega arith), (stay-kept 3 (omega arith) (omega arith), (stay-kept 4 (omega arith) (omega arith), tt))),
    );
    rising = pairs-unmapped (λ (r : Row). r.id) (λ (a b : ℕ). a < b) (of_width n).rows (AllPairs-from_increasing one_to_six six-increasing);
    apart = λ i j d less within same. (let below = stays-rise i j d less within in absurd (omega (arith, below, same)));
    covered = All-from_recursion (IsCovered stays) (of_width n).rows (
      covered-by 1 1 Eq zero_fraction has-left,
      (
        covered-by 2 2 Eq zero_fraction has-top,
        (
          covered-by 3 3 Ge zero_fraction has-width,
          (
            covered-by 4 4 Ge zero_fraction has-height,
            (
              covered-by 5 3 Eq (points n) has-width,
              (covered-by 6 4 Eq (points (pos 1)) has-height, tt),
            ),
          ),
        ),
      ),
    );
    row_count = omega arith;
    stay_count = omega arith;
  }

-- ---- assignments

abbrev IsMet : Assignment → Row → Type 0
IsMet x r = r.rank ≡ REQUIRED → error x (line_of_row r) ≡ 0

-- the width is n, the height m, and left and top are 0
abbrev at_size : ℤ → ℤ → Assignment
at_size n m = record { den = 1; num = λ v. cond (nat_eq v 3) n (cond (nat_eq v 4) m (pos 0)); positive = omega arith }

fitting : Satisfies (of_width (pos 1)) (at_size (pos 1) (pos 1))
fitting = All-from_recursion (IsMet (at_size (pos 1) (pos 1))) (of_width (pos 1)).rows
    ((λ e. refl), ((λ e. refl), ((λ e. refl), ((λ e. refl), ((λ e. refl), ((λ e. refl), tt))))))

-- ---- the core

abbrev narrow : Problem
narrow = of_width (negsuc 0)

abbrev own_row : Row
own_row = required_row 3 3 Ge zero_fraction

abbrev size_row : Row
size_row = required_row 5 3 Eq (points (negsuc 0))

abbrev own : By
own = record { row = Held 3; times = pos 1 }

abbrev size : By
size = record { row = Held 5; times = negsuc 0 }

two-increasing : IsStrictlyIncreasing (3 ∷ 5 ∷ [])
two-increasing zero h = omega arith
two-increasing (suc k) h = absurd (omega (arith, h))

are-required : AreRequired narrow (3 ∷ 5 ∷ [])
are-required = record {
  rising = AllPairs-from_increasing (3 ∷ 5 ∷ []) two-increasing;
  held = All-from_recursion (λ (id : ℕ). Any (λ (r : Row). (r.id ≡ id) × (r.rank ≡ REQUIRED)) narrow.rows) (3 ∷ 5 ∷ [])
      ((2, own_row, omega arith, refl, (refl, refl)), ((4, size_row, omega arith, refl, (refl, refl)), tt));
}

difference : (c : ℤ) → (pos 1 +ℤ (pos 0 +ℤ pos 0)) *ℤ c +ℤ ((pos 0 +ℤ (negsuc 0 +ℤ pos 0)) *ℤ c +ℤ pos 0) ≡ pos 0
difference c = omega (arith, ints)

refuted : IsShownConflict (trial narrow (3 ∷ 5 ∷ [])) own_less_size
refuted = record {
  refutes = record {
    cancel = λ v. difference (coefficient v own_row.terms);
    signs = All-from_recursion (λ r. HasSign r.rel (times_of own_less_size (Held r.id))) (own_row ∷ size_row ∷ []) (record { le = tt }, (tt, tt));
    above_zero = record { lt = tt };
  };
  named = All-from_recursion (λ b. Any (λ r. b.row ≡ Held r.id) (own_row ∷ size_row ∷ [])) own_less_size ((0, own_row, omega arith, refl, refl), ((1, size_row, omega arith, refl, refl), tt));
  nonzero = All-from_recursion (λ b. b.times ≢ pos 0) own_less_size ((λ e. absurd (omega (arith, ints, e))), ((λ e. absurd (omega (arith, ints, e))), tt));
  rising = AllPairs-cons (λ (a b : By). ComesBefore a.row b.row) own (size ∷ []) (All-from_recursion (λ (b : By). ComesBefore (Held 3) b.row) (size ∷ []) (omega arith, tt)) (λ i j d less within. absurd (omega (arith, less, within)));
  lowest = λ k h. dvd_antisymm ((recursion_from_All (λ b. k ∣ unsigned_abs b.times) own_less_size h).0) (one-dvd k);
}

-- values of the width alone, where they satisfy these rows
module _ (n : ℤ) (kept : IsKept (points n)) where
  abbrev values : List (ℕ × Fraction)
  values = window_values (points n) zero_fraction

  solution : (ids : List ℕ) → Satisfies (trial narrow ids) (at_size n (pos 0)) → IsSolution (trial narrow ids) values
  solution ids sat = record {
    all = record {
      attributes = record {
        valued = All-from_recursion (λ (s : Stay). HasValue values s.attr) stays
            ((0, (1, zero_fraction), omega arith, refl, refl), ((1, (2, zero_fraction), omega arith, refl, refl), ((2, (3, points n), omega arith, refl, refl), ((3, (4, zero_fraction), omega arith, refl, refl), tt))));
        held = All-from_recursion (λ (v : ℕ × Fraction). HasStay stays v.0) values (has-left, (has-top, (has-width, (has-height, tt))));
      };
      rising = pairs-unmapped (λ (v : ℕ × Fraction). v.0) (λ (a b : ℕ). a < b) values (AllPairs-from_increasing one_to_four four-increasing);
      kept = All-from_recursion (λ (v : ℕ × Fraction). IsKept v.1) values (zero-kept, (zero-kept, (kept, (zero-kept, tt))));
    };
    satisfies = (
      at_size n (pos 0),
      sat,
      All-from_recursion (λ (v : ℕ × Fraction). (at_size n (pos 0)).num v.0 *ℤ pos v.1.den ≡ v.1.num *ℤ pos 1) values (refl, (refl, (refl, (refl, tt)))),
    );
  }

-- the width alone satisfies its size's row, and without it the window's own
sized-alone : Satisfies (trial narrow (5 ∷ [])) (at_size (negsuc 0) (pos 0))
sized-alone = All-from_recursion (IsMet (at_size (negsuc 0) (pos 0))) (size_row ∷ []) ((λ e. refl), tt)

own-alone : Satisfies (trial narrow (3 ∷ [])) (at_size (pos 0) (pos 0))
own-alone = All-from_recursion (IsMet (at_size (pos 0) (pos 0))) (own_row ∷ []) ((λ e. refl), tt)

shown : IsShownCore narrow (3 ∷ 5 ∷ []) own_less_size widths
shown = record {
  rows = are-required;
  refuted = refuted;
  named = refl;
  each = refl;
  others = All-from_recursion (DoWithout narrow (3 ∷ 5 ∷ [])) widths (solution (negsuc 0) less-kept (5 ∷ []) sized-alone, (solution (pos 0) zero-kept (3 ∷ []) own-alone, tt));
}

core : IsCore narrow (3 ∷ 5 ∷ [])
core = shown_is_core narrow (3 ∷ 5 ∷ []) own_less_size widths (width-whole (negsuc 0) less-kept) shown

-- ---- what is told

module _ (v : Version) (corner : List Mark) where
  abbrev first : State
  first = first_state v corner

  posed : (n : ℤ) → PosesChange first (width_of_window n) (of_width n)
  posed n = sizes-posed v corner (points n) (points (pos 1))

  one : (n : ℤ) (p : Problem) → PosesChange first (width_of_window n) p → p ≡ of_width n
  one n p is = one-change first (width_of_window n) p (of_width n) (first-scene corner) tt is (posed n)

  fits-told : WhyStep first (width_of_window (pos 1)) Solvable first
  fits-told = inr (of_width (pos 1), posed (pos 1), inl (record { whole = width-whole (pos 1) one-kept; solution = at_size (pos 1) (pos 1); satisfies = fitting; told = (refl, refl) }))

  core-told : WhyStep first (width_of_window (negsuc 0)) (Core (3 ∷ 5 ∷ []) own_less_size widths) first
  core-told = inr (narrow, posed (negsuc 0), inr (inl (record { ids = 3 ∷ 5 ∷ []; by = own_less_size; values = widths; core = core; shown = shown; told = (refl, refl) })))

  no-core : (ids : List ℕ) (by : List By) (values : List (ℕ × List (ℕ × Fraction))) (new : State) → WhyStep first (width_of_window (pos 1)) (Core ids by values) new → ⊥
  no-core ids by values new why =
      let (p, poses, is) = cores-posed first (width_of_window (pos 1)) ids by values new why in
      core_is_conflict (of_width (pos 1)) ids (subst (λ (q : Problem). IsCore q ids) (one (pos 1) p poses) is) (at_size (pos 1) (pos 1)) fitting

  clashing : (new : State) → WhyStep first (width_of_window (negsuc 0)) Solvable new → ⊥
  clashing new why =
      let (p, poses, whole, (x, sat)) = solvable-posed first (width_of_window (negsuc 0)) new why in
      core_is_conflict narrow (3 ∷ 5 ∷ []) core x (subst (λ (q : Problem). Satisfies q x) (one (negsuc 0) p poses) sat)

pub sizes-explained : SizesAreExplained
sizes-explained v corner = record {
  solvable = fits-told v corner;
  no_core = no-core v corner;
  core = core-told v corner;
  clashing = clashing v corner;
}
