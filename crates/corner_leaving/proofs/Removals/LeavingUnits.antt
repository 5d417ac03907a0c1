-- The unit of a level's cost where a row has left it.
use Rattle.std.proofs.Common.{◌≡◌, ◌≢◌, ◌∙◌, ℕ, zero, suc, ◌+◌, ◌-◌, ◌*◌, ◌/◌, ◌<◌, ◌≤◌, ◌++◌, List, [], ◌∷◌, length, map, refl, sym, ap, subst, arith, inl, inr, ℤ, pos, negsuc, ◌<ℤ◌, unsigned_abs, All, Any, get_or}
use Rattle.std.specs.List.{AllByRecursion as Each}
use Rattle.std.specs.Int.{◌∣◌, IsGcd}
use Rattle.std.proofs.lemmas.Bool.{cases_eq}
use Rattle.std.proofs.lemmas.Nat.Gcd.{IsGcd-swap, dvd_trans}
use Rattle.std.proofs.Math.Nat.{dvd-mul_left, mul-div_cancel', mul-dvd-mul_right, one-dvd}
use Rattle.std.proofs.lemmas.List.Elements.{All-from_recursion, recursion_from_All}
use Rattle.frac_core.specs.declared.frac.TheConstants.{PART_BOUND}
use Rattle.frac_core.proofs.Gauss.{Reduces, reduces}
use Rattle.problem_core.specs.declared.parts.RowName.{RowName}
use Rattle.problem_core.specs.declared.parts.RowName.TheVariants.{Held}
use Rattle.problem_core.specs.declared.parts.Side.TheVariants.{Under}
use Rattle.problem_core.specs.Layout.{Line, Problem, Row, line_of_row, lines, stay_lines}
use Rattle.problem_core.specs.Corners.{place_of}
use Rattle.problem_core.specs.Certificates.{weight_at}
use Rattle.problem_core.proofs.Forms.{each-both, each-impl}
use Rattle.corner_laws.proofs.LevelCosts.LevelUnits.{grown, shrunk}
use Rattle.corner_lines.specs.Levels.LevelJoins.{IsLeastMultiple}
use Rattle.corner_lines.proofs.LevelRows.LevelJoins.{whole-none}
use Rattle.corner_lines.proofs.Lines.MarkForms.{same-name}
use Rattle.corner_leaving.specs.declared.leaving.Leaver.{Leaver}
use Rattle.corner_table.specs.declared.table.Slot.{Slot}
use Rattle.corner_table.specs.Tables.{Lists, priority_at, problem_of}
use Rattle.corner_joins.specs.Additions.CostJoins.{IsLeastUnit, IsUnfitRise}
use Rattle.corner_leaving.specs.Leaving.{HasMultiple, IsLeftUnit, problem_left}
use Rattle.corner_table.proofs.Readings.SlotFacts.{any_is}
use Rattle.corner_writings.proofs.LevelFacts.FittingRows.{stays_above}
use Rattle.corner_leaving.proofs.Removals.LeavingRows.{IsLeavingRow, its_each, its_level, level_kept}
use Rattle.corner_leaving.proofs.Removals.LeftLists.{all_left, left_rows, lines_back, rows_left}
use Rattle.frac_core.proofs.Numbers.{less-or-here as split}
use Rattle.problem_core.proofs.Lines.{weight-none as no-weight, own-weight as own_weight}

-- ---- the row's share is whole in each unit

pub share_free : (scale weight n : ℕ) → scale ∣ weight → scale ∣ n * weight
share_free scale weight n d = dvd_trans scale d (dvd-mul_left weight n)

by-name : (P : Line → Type 0) (id : ℕ) (l : Line) → (l.name ≢ Held id → P l) → (l.name ≡ Held id → P l) → P l
by-name P id l f g = elim (cases_eq (place_of l.name Under) (place_of (Held id) Under)) [
  | inl e ↦ g (same-name l.name (Held id) Under Under e)
  | inr n ↦ f (λ e. n (ap (λ (a : RowName). place_of a Under) e))
]

whole-there : (r : Row) (level n : ℕ) → level ≡ 1000 - r.rank → r.scale ∣ n * r.weight → r.scale ∣ n * weight_at (line_of_row r) level
whole-there r level n e d = subst (λ (w : ℕ). r.scale ∣ n * w) (sym (own_weight (line_of_row r) level (sym e))) d

-- the unit stays
pub unit_stays : (t : Lists) (r : Row) (x : Leaver) → (h : IsLeavingRow t r x) → r.scale ∣ r.weight → IsLeftUnit t x (priority_at t x.level).unit
unit_stays t r x h free =
    let lev = level_kept t r x h in
    let p : Problem = problem_of t in
    record {
      size = lev.unit;
      unit_is = lev.unit_is;
      least = record {
        above = lev.least.above;
        whole = all_left (λ l. l.scale ∣ lev.unit * weight_at l x.level) x.id (problem_of t) lev.least.whole;
        least = λ n each.
            lev.least.least n
            (All-from_recursion (λ l. l.scale ∣ n * weight_at l x.level) (lines (problem_of t))
            (each-impl (λ l. (l.name ≢ Held r.id → l.scale ∣ n * weight_at l x.level) × (l.name ≡ Held r.id → l.scale ∣ n * weight_at l x.level)) _ (lines (problem_of t))
            (λ l k. by-name (λ l. l.scale ∣ n * weight_at l x.level) r.id l k.0 k.1)
            (each-both _ _ (lines (problem_of t))
            (subst (λ (i : ℕ). Each (λ l. l.name ≢ Held i → l.scale ∣ n * weight_at l x.level) (lines (problem_of t))) h.is.id_is (lines_back (λ l. l.scale ∣ n * weight_at l x.level) x.id (problem_of t) (recursion_from_All _ (lines (problem_left t x)) each)))
            (recursion_from_All _ (lines (problem_of t)) (its_each (λ l. l.scale ∣ n * weight_at l x.level) t r x h (whole-there r x.level n h.is.level_is (share_free r.scale r.weight n free)))))));
      };
    }

-- ---- over the rows that are left

-- what the row counts is whole
abbrev pub CountsWhole : Leaver → ℕ → Row → Type 0
CountsWhole x n s = 1000 - s.rank ≡ x.level → s.id ≢ x.id → s.scale ∣ n * s.weight

abbrev pub AllTo : ℕ → (Row → Type 0) → List Row → Type 0
AllTo i P rows = (j : ℕ) (d : Row) → j < i → j < length rows → P (get_or rows j d)

-- the least unit of the first rows
pub record IsUnitTo (x : Leaver) (rows : List Row) (i : ℕ) (unit : ℤ) : Type 0 where
  pub size : ℕ
  pub unit_is : unit ≡ pos size
  pub above : 0 < size
  pub whole : AllTo i (CountsWhole x size) rows
  pub least : (n : ℕ) → AllTo i (CountsWhole x n) rows → size ∣ n

pub no_rows_yet : (x : Leaver) (rows : List Row) → IsUnitTo x rows 0 (pos 1)
no_rows_yet x rows = record {
  size = 1;
  unit_is = refl;
  above = omega arith;
  whole = λ j d lt within. absurd (omega (arith, lt));
  least = λ n h. one-dvd n;
}

pub next-to : (P : Row → Type 0) (rows : List Row) (i : ℕ) (r : Row) → i < length rows → get_or rows i r ≡ r → AllTo i P rows → P r → AllTo (i + 1) P rows
next-to P rows i r lt e h k j d within there =
    elim (split j i within) [
      | inl less ↦ h j d less there
      | inr same ↦ subst (λ (m : ℕ). P (get_or rows m d)) (sym same) (subst P (sym (within-same rows i d r lt ∙ e)) k)
    ]
  where
    within-same : (xs : List Row) (i : ℕ) (a b : Row) → i < length xs → get_or xs i a ≡ get_or xs i b
    within-same [] i a b lt = absurd (omega (arith, lt))
    within-same (y ∷ xs) zero a b lt = refl
    within-same (y ∷ xs) (suc i) a b lt = within-same xs i a b (omega (arith, lt))

earlier : (P : Row → Type 0) (rows : List Row) (i : ℕ) → AllTo (i + 1) P rows → AllTo i P rows
earlier P rows i h j d lt within = h j d (omega (arith, lt)) within

last-of : (P : Row → Type 0) (rows : List Row) (i : ℕ) (r : Row) → i < length rows → get_or rows i r ≡ r → AllTo (i + 1) P rows → P r
last-of P rows i r lt e h = subst P e (h i r (omega arith) lt)

-- a row of another level, or the one that leaves
pub other_row_passes : (x : Leaver) (rows : List Row) (i : ℕ) (r : Row) (unit : ℤ) → i < length rows → get_or rows i r ≡ r → (1000 - r.rank ≡ x.level → r.id ≢ x.id → ⊥) → IsUnitTo x rows i unit → IsUnitTo x rows (i + 1) unit
other_row_passes x rows i r unit lt e none h = record {
  size = h.size;
  unit_is = h.unit_is;
  above = h.above;
  whole = next-to (CountsWhole x h.size) rows i r lt e h.whole (λ a b. absurd (none a b));
  least = λ n k. h.least n (earlier (CountsWhole x n) rows i k);
}

-- one of the level
pub one_row_more : (x : Leaver) (rows : List Row) (i : ℕ) (r : Row) (slot : Slot) (unit next : ℤ) → i < length rows → get_or rows i r ≡ r → 1000 - r.rank ≡ x.level → r.id ≢ x.id → 0 < r.scale → unsigned_abs slot.scale ≡ r.scale → unsigned_abs slot.weight ≡ r.weight
    → IsUnitTo x rows i unit → pos 0 <ℤ next → IsLeastUnit slot unit (unsigned_abs next) → IsUnitTo x rows (i + 1) next
one_row_more x rows i r slot unit next lt e level other up scale weight h above least =
    let d : ℕ = least.divisor in
    let n : ℕ = unsigned_abs next in
    let gcd : IsGcd r.scale r.weight least.divisor = subst (λ (m : ℕ). IsGcd m r.weight least.divisor) scale (subst (λ (m : ℕ). IsGcd (unsigned_abs slot.scale) m least.divisor) weight least.divides) in
    let red : Reduces r.weight r.scale least.divisor = reduces r.weight r.scale least.divisor up (IsGcd-swap r.scale r.weight least.divisor gcd) in
    let multiple : IsLeastMultiple h.size (r.scale / least.divisor) (unsigned_abs next) =
    subst (λ (m : ℕ). IsLeastMultiple m (r.scale / least.divisor) (unsigned_abs next)) (ap unsigned_abs h.unit_is)
    (subst (λ (m : ℕ). IsLeastMultiple (unsigned_abs unit) (m / least.divisor) (unsigned_abs next)) scale least.least) in
    record {
      size = unsigned_abs next;
      unit_is = above-is next above;
      above = multiple.above;
      whole = next-to (CountsWhole x (unsigned_abs next)) rows i r lt e
          (λ j d less there a b. times-more (get_or rows j d).scale h.size (get_or rows j d).weight (unsigned_abs next) (h.whole j d less there a b) multiple.left)
          (λ a b. grown (unsigned_abs next) r.weight r.scale least.divisor red multiple.right);
      least = λ n k.
          multiple.least n (h.least n (earlier (CountsWhole x n) rows i k))
          (shrunk n r.weight r.scale least.divisor red (last-of (CountsWhole x n) rows i r lt e k level other));
    }
  where
    times-more : (k unit w next : ℕ) → k ∣ unit * w → unit ∣ next → k ∣ next * w
    times-more k unit w next d e = dvd_trans k d (mul-dvd-mul_right unit e w)

    above-is : (z : ℤ) → pos 0 <ℤ z → z ≡ pos (unsigned_abs z)
    above-is (pos n) h = refl
    above-is (negsuc n) h = absurd h.lt

whole-at : (l : Line) (level n : ℕ) → (l.level ≡ level → l.scale ∣ n * l.weight) → l.scale ∣ n * weight_at l level
whole-at l level n f = elim (cases_eq l.level level) [
  | inl e ↦ subst (λ (w : ℕ). l.scale ∣ n * w) (sym (own_weight l level e)) (f e)
  | inr ne ↦ whole-none l.scale n (weight_at l level) (no-weight l level ne)
]

at-whole : (l : Line) (level n : ℕ) → l.level ≡ level → l.scale ∣ n * weight_at l level → l.scale ∣ n * l.weight
at-whole l level n e d = subst (λ (w : ℕ). l.scale ∣ n * w) (own_weight l level e) d

pub from-all : (P : Row → Type 0) (rows : List Row) (i : ℕ) → length rows ≤ i → AllTo i P rows → Each P rows
from-all P rows i le h = recursion_from_All P rows (λ j d lt. h j d (omega (arith, lt, le)) lt)

-- all rows
pub unit_of_all : (t : Lists) (r : Row) (x : Leaver) (i : ℕ) (unit : ℤ) → IsLeavingRow t r x → length t.rows ≤ i → IsUnitTo x t.rows i unit → IsLeftUnit t x unit
unit_of_all t r x i unit h le u = record {
  size = u.size;
  unit_is = u.unit_is;
  least = record {
    above = u.above;
    whole = All-from_recursion (λ l. l.scale ∣ u.size * weight_at l x.level) (lines (problem_left t x))
        (rows_left (λ l. l.scale ∣ u.size * weight_at l x.level) x.id t.rows (stay_lines 1001 t.stays)
        (each-impl (CountsWhole x u.size) _ t.rows (λ s k other. whole-at (line_of_row s) x.level u.size (λ e. k e other)) (from-all (CountsWhole x u.size) t.rows i le u.whole))
        (each-impl (λ l. 1001 ≤ l.level) _ (stay_lines 1001 t.stays) (λ l above. whole-none l.scale u.size (weight_at l x.level) (no-weight l x.level (λ e. (let low = its_level t r x h in omega (arith, low, above, e))))) (stays_above 1001 t.stays (omega arith))));
    least = λ n each.
        let rows : All (λ (s : Row). s.id ≢ x.id → s.scale ∣ n * weight_at (line_of_row s) x.level) t.rows =
        All-from_recursion (λ (s : Row). s.id ≢ x.id → s.scale ∣ n * weight_at (line_of_row s) x.level) t.rows (left_rows (λ l. l.scale ∣ n * weight_at l x.level) x.id t.rows (stay_lines 1001 t.stays) (recursion_from_All _ (lines (problem_left t x)) each)) in
        u.least n (λ j d less there a b. at-whole (line_of_row (get_or t.rows j d)) x.level n a (rows j d there b));
  };
}

-- ---- a row more never takes the unit past what fits

pub row_room : (t : Lists) (r s : Row) (x : Leaver) (i : ℕ) (unit : ℤ) → (h : IsLeavingRow t r x) → Any (λ o. o ≡ s) t.rows → 1000 - s.rank ≡ x.level → s.id ≢ x.id → IsUnitTo x t.rows i unit → HasMultiple s unit
row_room t r s x i unit h there level other u =
    let lev = level_kept t r x h in
    let all : All (λ (o : Row). 1000 - o.rank ≡ x.level → o.scale ∣ lev.unit * o.weight) t.rows =
    All-from_recursion (λ (o : Row). 1000 - o.rank ≡ x.level → o.scale ∣ lev.unit * o.weight) t.rows
    (each-impl (λ (o : Row). o.scale ∣ lev.unit * weight_at (line_of_row o) x.level) _ t.rows (λ o d e. at-whole (line_of_row o) x.level lev.unit e d)
    (first-lines (λ l. l.scale ∣ lev.unit * weight_at l x.level) t.rows (stay_lines 1001 t.stays) (recursion_from_All _ (lines (problem_of t)) lev.least.whole))) in
    record {
      size = u.size;
      unit_is = u.unit_is;
      most = lev.unit;
      above = lev.least.above;
      fits = unit-part lev.own lev.unit lev.numbers.row.own_positive lev.numbers.fits.scale_fits;
      whole = u.least lev.unit (λ j d less within a b. all j d within a);
      whole_too = any_is (λ (o : Row). 1000 - o.rank ≡ x.level → o.scale ∣ lev.unit * o.weight) (λ o. o ≡ s) t.rows all there (λ o k e. subst (λ (o : Row). 1000 - o.rank ≡ x.level → o.scale ∣ lev.unit * o.weight) e k level);
    }
  where
    first-lines : (P : Line → Type 0) (rows : List Row) (ls : List Line) → Each P (map line_of_row rows ++ ls) → Each (λ r. P (line_of_row r)) rows
    first-lines P [] ls h = tt
    first-lines P (r ∷ rows) ls h = (h.0, first-lines P rows ls h.1)

    unit-part : (own unit : ℕ) → 0 < own → own * unit < PART_BOUND → unit < PART_BOUND
    unit-part zero unit up h = absurd (omega (arith, up))
    unit-part (suc o) unit up h = let n : ℕ = o * unit in let e : suc o * unit ≡ o * unit + unit = omega arith in omega (arith, e, h)

-- so the next unit fits
pub never_unfit : (r : Row) (slot : Slot) (unit : ℤ) → 0 < r.scale → unsigned_abs slot.scale ≡ r.scale → unsigned_abs slot.weight ≡ r.weight → HasMultiple r unit → IsUnfitRise slot unit → ⊥
never_unfit r slot unit up scale weight room rise =
    let least = rise.least in
    let gcd : IsGcd r.scale r.weight least.divisor = subst (λ (m : ℕ). IsGcd m r.weight least.divisor) scale (subst (λ (m : ℕ). IsGcd (unsigned_abs slot.scale) m least.divisor) weight least.divides) in
    let red : Reduces r.weight r.scale least.divisor = reduces r.weight r.scale least.divisor up (IsGcd-swap r.scale r.weight least.divisor gcd) in
    let part : (unsigned_abs slot.scale / least.divisor) ∣ room.most = subst (λ (m : ℕ). (m / least.divisor) ∣ room.most) (sym scale) (shrunk room.most r.weight r.scale least.divisor red room.whole_too) in
    let d = least.least.least room.most (subst (λ (m : ℕ). m ∣ room.most) (sym (ap unsigned_abs room.unit_is)) room.whole) part in
    too-large (room.most / (rise.times * unsigned_abs unit)) (rise.times * unsigned_abs unit) room.most room.above (mul-div_cancel' (rise.times * unsigned_abs unit) d) room.fits rise.unfit
  where
    too-large : (q n m : ℕ) → 0 < m → n * q ≡ m → m < PART_BOUND → PART_BOUND ≤ n → ⊥
    too-large zero n m up e h k = omega (arith, up, e)
    too-large (suc q) n m up e h k = let p : ℕ = n * q in let f : n * suc q ≡ n * q + n = omega arith in omega (arith, f, e, h, k)
