-- What is kept of a corner's lists, as callers see it: the marks in order, and that each quantity fits.
use Rattle.std.proofs.Common.{◌≡◌, ◌≢◌, ◌∙◌, ℕ, zero, suc, ◌*◌, Bool, true, cond, nat_eq, List, [], ◌∷◌, map, filter, slice_index_or, refl, sym, ap, subst, arith, inl, inr, ◌⊎◌, ℤ, pos, negsuc, neg_ℤ, ◌*ℤ◌, unsigned_abs, All, Contains, Some, None, ne_eqb}
use Rattle.std.specs.Int.{◌∣◌, IsGcd}
use Rattle.std.specs.declared.option.Option.{Option}
use Rattle.std.specs.List.{AllByRecursion as Each}
use Rattle.std.proofs.lemmas.Bool.{cases_eq, cond_both}
use Rattle.std.proofs.lemmas.Nat.Gcd.{dvd_refl, dvd-zero}
use Rattle.std.proofs.lemmas.List.Elements.{All-from_recursion, recursion_from_All}
use borrow.Author.Differences.{ints}
use Rattle.frac_core.specs.Fraction.{Fraction, IsFitting, IsLowest}
use Rattle.frac_core.specs.Fraction as fractions
use Rattle.row_core.specs.Rows.{IsKeptRow, Term, coefficient}
use Rattle.row_core.proofs.Places.{of_coefficients}
use Rattle.version_lists.proofs.Indexing.{none_kept}
use Rattle.problem_core.specs.declared.parts.Mark.{Mark}
use Rattle.problem_core.specs.declared.parts.RowName.{RowName}
use Rattle.problem_core.specs.declared.parts.RowName.TheVariants.{Stay as StayOf}
use Rattle.problem_core.specs.declared.parts.Side.{Side}
use Rattle.problem_core.specs.declared.parts.Side.TheVariants.{Under, Over}
use Rattle.problem_core.specs.declared.parts.Level.{Level}
use Rattle.problem_core.specs.declared.parts.Level.TheVariants.{Priority, Stay as StayLevel}
use Rattle.problem_core.specs.declared.stops.What.{What}
use Rattle.problem_core.specs.declared.stops.What.TheVariants.{Attr as AttrOf, Mark as MarkOf, Level as LevelOf}
use Rattle.problem_core.specs.Layout as layout
use Rattle.problem_core.specs.Layout.{Problem, lines}
use Rattle.problem_core.specs.Kept.{IsWhole}
use Rattle.problem_core.specs.Window.{zero_fraction}
use Rattle.problem_core.proofs.Forms.{each-impl, each-both}
use Rattle.problem_core.specs.Corners.{IsIn, IsWritingOf, attr_column, marks_of, place, place_of}
use Rattle.problem_core.specs.Unfit.{IsUnfitWhat}
use Rattle.corner_laws.proofs.LevelCosts.LevelNumbers.{level_numbers}
use Rattle.corner_laws.proofs.LinePlaces.{lines_apart}
use Rattle.corner_laws.specs.Runs.{other_side}
use Rattle.corner_lines.specs.LineEquations.{IsLineEquation, IsOutsideLine, deviation, inside_form, mark_form, sign_of}
use Rattle.corner_lines.specs.Levels.LevelRows.{line_numbers}
use Rattle.corner_lines.proofs.Lines.LinePivots.{equation_is_pivot}
use Rattle.corner_lines.proofs.Lines.LineWritings.{inside-other, line_value, line_writing, mark_writing, other_coefficient, same-abs}
use Rattle.corner_lines.proofs.Lines.MarkForms.{by-places, same-name}
use Rattle.corner_lines.proofs.Costs.StayFits.{outside_stay_level_fits, stay_level_fits}
use Rattle.corner_lines.proofs.LevelRows.StayRows.{stay_stands_alone}
use Rattle.corner_table.specs.declared.table.Standing.{Standing}
use Rattle.corner_view.specs.Seen.{in_order, is_mark, IsKeptCorner, IsNamed, IsSettled}
use Rattle.corner_table.specs.Tables.{Lists, attr_slot, entry, is_side, line_slot, marks_at, number, problem_of, row_at, scene_at, standing_at, stands_in}
use Rattle.corner_table.specs.Kept.{HasStayRoom, IsKept, IsLineRow}
use Rattle.corner_table.specs.Invariants.{IsEarlier}
use Rattle.corner_table.proofs.Readings.SlotFacts.{any_impl, any_is, level_stay}
use Rattle.corner_table.proofs.Readings.MarkFacts.{inside_stands, stands_inside}
use Rattle.corner_view.proofs.Facts.{in_is, is_in, named_in}
use Rattle.corner_table.proofs.Readings.ReadFacts.{attr_equation, inside_equation}
use Rattle.corner_table.proofs.Readings.WritingFacts.{in_mark}
use Rattle.corner_table.proofs.Basics.ListFacts.{further}
use Rattle.corner_lines.proofs.Lines.LineUnfits.{twice as sign_twice}
use Rattle.corner_laws.proofs.MarkWritings.Directions.{each-of}
use Rattle.frac_core.proofs.Fitting.{neg-fits as opposite_fits}
use Rattle.frac_core.proofs.Bools.{bools-same as both_ways, not-both as not_both}

-- ---- in order

pub filter_same : {X : Type 0} (p q : X → Bool) (xs : List X) → ((x : X) → Contains xs x → p x ≡ q x) → filter p xs ≡ filter q xs
filter_same p q [] h = refl
filter_same p q (x ∷ xs) h =
    ap (λ (b : Bool). cond b (x ∷ filter p xs) (filter p xs)) (h x (0, omega arith, refl))
    ∙ ap (λ ys. cond (q x) (x ∷ ys) ys) (filter_same p q xs (λ y c. h y (further x xs y c)))

place_in : (ms : List Mark) (m : Mark) → Contains ms m → Contains (map place ms) (place m)
place_in [] m (k, within, is) = absurd (omega (arith, within))
place_in (n ∷ ms) m (zero, within, is) = (0, omega arith, ap place is)
place_in (n ∷ ms) m (suc k, within, is) = further (place n) (map place ms) (place m) (place_in ms m (k, omega (arith, within), is))

pub marks_ordered : (t : Lists) → marks_at t ≡ in_order (problem_of t) (marks_at t)
marks_ordered t =
    filter_same (stands_in t) (λ m. is_mark (marks_at t) (place m)) (marks_of (lines (problem_of t)))
    (λ m c. both_ways (stands_in t m) (is_mark (marks_at t) (place m))
    (λ e. in_is (marks_at t) (place m) (stands_inside t m (place_in (marks_of (lines (problem_of t))) m c) e))
    (λ e. inside_stands t m (is_in (marks_at t) (place m) e)))

-- ---- numbers that fit

each_at : {X : Type 0} (P : X → Type 0) (xs : List X) (k : ℕ) (d : X) → Each P xs → P d → P (slice_index_or xs k d)
each_at P [] k d h p = p
each_at P (x ∷ xs) zero d h p = h.0
each_at P (x ∷ xs) (suc k) d h p = each_at P xs k d h.1 p

pub entry_fits : (t : Lists) (w c : ℕ) → IsKept t → IsFitting (entry t w c)
entry_fits t w c kept =
    each_at (λ row. (v : ℕ) → IsFitting (coefficient v row)) t.matrix w []
    (row_fits t.matrix (recursion_from_All IsKeptRow t.matrix kept.matrix)) (λ v. omega arith) c
  where
    row_fits : (rows : List (List Term)) → Each IsKeptRow rows → Each (λ row. (v : ℕ) → IsFitting (coefficient v row)) rows
    row_fits [] h = tt
    row_fits (row ∷ rows) h = (λ v. of_coefficients IsFitting (omega arith) row h.0.lowest.rising h.0.fits v, row_fits rows h.1)

pub zero_kept : fractions.IsKept zero_fraction
zero_kept = record {
  lowest = record { above = omega arith; coprime = (dvd-zero 1, dvd_refl 1, λ d a b. b) };
  fits = record { num_fits = omega arith; den_fits = omega arith };
}

pub value_kept : (t : Lists) (w : ℕ) → IsKept t → fractions.IsKept (standing_at t w).value
value_kept t w kept =
    each_at (λ (s : Standing). fractions.IsKept s.value) t.standings w (record { side = None; value = zero_fraction })
    (recursion_from_All (λ (s : Standing). fractions.IsKept s.value) t.standings kept.values) zero_kept

pub row_kept : (t : Lists) (w : ℕ) → IsKept t → IsKeptRow (row_at t w)
row_kept t w kept = each_at IsKeptRow t.matrix w [] (recursion_from_All IsKeptRow t.matrix kept.matrix) none_kept

signed_fits : (side : Side) (z : ℤ) → IsFitting z → IsFitting (sign_of side *ℤ z)
signed_fits side z h = subst (λ (n : ℕ). IsFitting (pos n)) (sym (same-abs side z)) h

pub number_fits : (t : Lists) (w : ℕ) (name : RowName) → IsKept t → IsFitting (number t w name)
number_fits t w name kept =
    cond_both (nat_eq (line_slot t name) w) (pos 0) (neg_ℤ (entry t w (line_slot t name))) IsFitting (λ e. omega arith)
    (λ e. opposite_fits (entry t w (line_slot t name)) (entry_fits t w (line_slot t name) kept))

form_fits : (p : Problem) (by : RowName → ℤ) → IsWhole p → ((name : RowName) → IsFitting (by name)) → (v : ℕ) → IsFitting (layout.coefficient v (mark_form by (lines p)))
form_fits p by whole h v =
    by-places (λ c z. IsFitting z) by (lines p) (lines_apart p whole) (λ c. omega arith)
    (each-of (λ l. IsFitting (by l.name) × IsFitting (neg_ℤ (by l.name))) (lines p) (λ l. (h l.name, opposite_fits (by l.name) (h l.name)))) v

-- ---- attributes and marks

pub attr_fits : (t : Lists) (attr : ℕ) → IsKept t → IsUnfitWhat (problem_of t) (marks_at t) (AttrOf attr) → ⊥
attr_fits t attr kept (has, none) =
    let e = attr_equation t attr kept has in
    let f : Fraction = (standing_at t (attr_slot t attr)).value in
    none e.0 (mark_form (number t (attr_slot t attr)) (lines (problem_of t))) f
    (line_writing (problem_of t) (marks_at t) (λ x. x (attr_column attr)) e.0 (number t (attr_slot t attr)) f.num f.den kept.whole e.2)
    (subst IsFitting e.1 (entry_fits t (attr_slot t attr) (attr_slot t attr) kept))
    (form_fits (problem_of t) (number t (attr_slot t attr)) kept.whole (λ name. number_fits t (attr_slot t attr) name kept))
    (value_kept t (attr_slot t attr) kept)

inside_fits : (t : Lists) (m : Mark) (own : ℕ) (num : ℤ) (den : ℕ) → IsKept t → IsIn (place m) (marks_at t) → IsFitting (pos own)
    → IsLineEquation (problem_of t) (marks_at t) (deviation m.row) own (number t (line_slot t m.row)) num den
    → (v : ℕ) → IsFitting (layout.coefficient v (inside_form m.side m.row own (number t (line_slot t m.row)) (lines (problem_of t))))
inside_fits t m own num den kept i fits e v =
    elim (cases_eq (place_of m.row (other_side m.side)) v) [
      | inl same ↦ subst (λ (c : ℕ). IsFitting (layout.coefficient c (inside_form m.side m.row own (number t (line_slot t m.row)) (lines (problem_of t))))) same
          (subst IsFitting (sym (other_coefficient (problem_of t) (marks_at t) m.row m.side own (number t (line_slot t m.row)) num den kept.whole kept.corner i e)) fits)
      | inr other ↦ subst IsFitting (sym (inside-other m.side m.row own (number t (line_slot t m.row)) (lines (problem_of t)) v other))
          (form_fits (problem_of t) (λ n. sign_of m.side *ℤ number t (line_slot t m.row) n) kept.whole (λ name. signed_fits m.side (number t (line_slot t m.row) name) (number_fits t (line_slot t m.row) name kept)) v)
    ]

pub mark_fits : (t : Lists) (m : Mark) → IsKept t → IsUnfitWhat (problem_of t) (marks_at t) (MarkOf m) → ⊥
mark_fits t m kept (i, none) =
    let e = inside_equation t m kept (in_mark t m kept i) (inside_stands t m i) in
    let f : Fraction = (standing_at t (line_slot t m.row)).value in
    let own : IsFitting (pos e.0) = subst IsFitting e.1 (entry_fits t (line_slot t m.row) (line_slot t m.row) kept) in
    none e.0 (inside_form m.side m.row e.0 (number t (line_slot t m.row)) (lines (problem_of t))) f
    (subst (λ (z : ℤ). IsWritingOf (problem_of t) (marks_at t) (λ x. x (place m)) e.0 (inside_form m.side m.row e.0 (number t (line_slot t m.row)) (lines (problem_of t))) z f.den) (sign_twice m.side f.num)
    (mark_writing (problem_of t) (marks_at t) m.row m.side e.0 (number t (line_slot t m.row)) (sign_of m.side *ℤ f.num) f.den kept.whole kept.corner i e.2))
    own (inside_fits t m e.0 (sign_of m.side *ℤ f.num) f.den kept i own e.2) (value_kept t (line_slot t m.row) kept)

-- ---- levels

priority_fits : (t : Lists) (rank : ℕ) → IsKept t → IsUnfitWhat (problem_of t) (marks_at t) (LevelOf (Priority rank)) → ⊥
priority_fits t rank kept (k, there, none) =
    let is = kept.levels k (omega (arith, there)) in
    none (is.own * is.unit) is.numbers.by is.numbers.reduced (standing_at t k).value
    (level_numbers (problem_of t) (marks_at t) k is.unit is.own is.numbers.by is.numbers.reduced is.least is.numbers.row is.numbers.reduced_by)
    is.cost is.numbers.fits (value_kept t k kept)

twice : (z : ℤ) (own : ℕ) → z ≡ pos own → IsFitting (pos 2 *ℤ z) → IsFitting (pos (2 * own))
twice z own e h = let same : pos 2 *ℤ z ≡ pos (2 * own) = ap (λ (y : ℤ). pos 2 *ℤ y) e ∙ doubled own in subst IsFitting same h
  where
    doubled : (own : ℕ) → pos 2 *ℤ pos own ≡ pos (2 * own)
    doubled own = omega (arith, ints)

signed_lowest : (side : Side) (f : Fraction) → IsLowest f → IsLowest (record { num = sign_of side *ℤ f.num; den = f.den })
signed_lowest side f h = record { above = h.above; coprime = subst (λ (n : ℕ). IsGcd n f.den 1) (sym (same-abs side f.num)) h.coprime }

signed_small : (side : Side) (f : Fraction) → fractions.Fits f → fractions.Fits (record { num = sign_of side *ℤ f.num; den = f.den })
signed_small side f h = record { num_fits = signed_fits side f.num h.num_fits; den_fits = h.den_fits }

divides_by : (at : List Mark) (name row : RowName) (own k : ℕ) (by : RowName → ℤ) (side : Side) → IsIn (place_of row side) at → (by name ≢ pos 0 → IsOutsideLine at name)
    → (IsOutsideLine at name → k ∣ unsigned_abs (line_numbers row own by name)) → k ∣ unsigned_abs (by name)
divides_by at name row own k by side i out h =
    elim (zero_or (by name)) [
      | inl none ↦ subst (λ (z : ℤ). k ∣ unsigned_abs z) (sym none) (dvd-zero k)
      | inr some ↦ subst (λ (z : ℤ). k ∣ unsigned_abs z) (other_number (λ e. not_out side (same-name name row Under Under e) (out some))) (h (out some))
    ]
  where
    zero_or : (z : ℤ) → (z ≡ pos 0) ⊎ (z ≢ pos 0)
    zero_or (pos zero) = inl refl
    zero_or (pos (suc n)) = inr (λ e. let h : suc n ≡ 0 = ap unsigned_abs e in omega (arith, h))
    zero_or (negsuc n) = inr (λ e. let h : suc n ≡ 0 = ap unsigned_abs e in omega (arith, h))

    other_number : place_of name Under ≢ place_of row Under → line_numbers row own by name ≡ by name
    other_number ne = ap (λ (b : Bool). cond b (neg_ℤ (pos own)) (by name)) (ne_eqb (place_of name Under) (place_of row Under) ne)

    at_side : (s : Side) → IsIn (place_of name s) at → IsOutsideLine at name → ⊥
    at_side Under j o = o.under j
    at_side Over j o = o.over j

    not_out : (s : Side) → name ≡ row → IsOutsideLine at name → ⊥
    not_out s e o = at_side side (subst (λ (r : RowName). IsIn (place_of r side) at) (sym e) i) o

own_or_by : (row name : RowName) (own : ℕ) (by : RowName → ℤ) → IsFitting (pos own) → IsFitting (by name) → IsFitting (line_numbers row own by name)
own_or_by row name own by o h = cond_both (nat_eq (place_of name Under) (place_of row Under)) (neg_ℤ (pos own)) (by name) IsFitting (λ e. opposite_fits (pos own) o) (λ e. h)

stay_fits : (t : Lists) (attr : ℕ) (o : Option Side) → IsKept t → IsNamed (problem_of t) (StayOf attr) → (standing_at t (line_slot t (StayOf attr))).side ≡ o → IsLineRow t (StayOf attr) o
    → HasStayRoom t (record { attr = attr; target = zero_fraction }) → IsUnfitWhat (problem_of t) (marks_at t) (LevelOf (StayLevel attr)) → ⊥
stay_fits t attr None kept named is row room unfit =
    outside_stay_level_fits (problem_of t) (marks_at t) attr kept.whole kept.corner kept.rays (record { under = none Under; over = none Over }) unfit
  where
    none : (side : Side) → IsIn (place_of (StayOf attr) side) (marks_at t) → ⊥
    none side i = not_both (is_side None side) (subst (λ (o : Option Side). is_side o side ≡ true) is (inside_stands t (record { row = StayOf attr; side = side }) i)) refl
stay_fits t attr (Some side) kept named is (own, own_is, e) room (k, there, unfit) =
    let m : Mark = record { row = StayOf attr; side = side } in
    let f : Fraction = (standing_at t (line_slot t (StayOf attr))).value in
    let i : IsIn (place_of (StayOf attr) side) (marks_at t) = stands_inside t m (named_in (problem_of t) (StayOf attr) side named) (subst (λ (o : Option Side). is_side o side ≡ true) (sym is) (side_itself side)) in
    let fits : IsFitting (pos own) = subst IsFitting own_is (entry_fits t (line_slot t (StayOf attr)) (line_slot t (StayOf attr)) kept) in
    stay_level_fits (problem_of t) (marks_at t) k attr side own (line_numbers (StayOf attr) own (number t (line_slot t (StayOf attr)))) (record { num = sign_of side *ℤ f.num; den = f.den })
    (record {
      whole = kept.whole;
      corner = kept.corner;
      alone = stay_stands_alone (problem_of t) attr k kept.whole there;
      inside = i;
      line_is = equation_is_pivot (problem_of t) (marks_at t) m own (number t (line_slot t (StayOf attr))) (sign_of side *ℤ f.num) f.den kept.whole kept.corner i e;
      lowest = λ n divides all. e.lowest n divides (All-from_recursion (λ l. n ∣ unsigned_abs (number t (line_slot t (StayOf attr)) l.name)) (lines (problem_of t))
          (each-impl (λ l. (number t (line_slot t (StayOf attr)) l.name ≢ pos 0 → IsOutsideLine (marks_at t) l.name) × (IsOutsideLine (marks_at t) l.name → n ∣ unsigned_abs (line_numbers (StayOf attr) own (number t (line_slot t (StayOf attr))) l.name)))
          (λ l. n ∣ unsigned_abs (number t (line_slot t (StayOf attr)) l.name)) (lines (problem_of t))
          (λ l h. divides_by (marks_at t) l.name (StayOf attr) own n (number t (line_slot t (StayOf attr))) side i h.0 h.1)
          (each-both _ _ (lines (problem_of t)) (recursion_from_All _ (lines (problem_of t)) e.outside) (recursion_from_All _ (lines (problem_of t)) all))));
    })
    kept.rays
    (line_value (problem_of t) (marks_at t) (deviation (StayOf attr)) own (number t (line_slot t (StayOf attr))) (sign_of side *ℤ f.num) f.den kept.whole kept.corner e)
    (signed_lowest side f (value_kept t (line_slot t (StayOf attr)) kept).lowest) (signed_small side f (value_kept t (line_slot t (StayOf attr)) kept).fits)
    (All-from_recursion (λ l. IsOutsideLine (marks_at t) l.name → IsFitting (line_numbers (StayOf attr) own (number t (line_slot t (StayOf attr))) l.name)) (lines (problem_of t))
    (each-of (λ l. IsOutsideLine (marks_at t) l.name → IsFitting (line_numbers (StayOf attr) own (number t (line_slot t (StayOf attr))) l.name)) (lines (problem_of t))
    (λ l out. own_or_by (StayOf attr) l.name own (number t (line_slot t (StayOf attr))) fits (number_fits t (line_slot t (StayOf attr)) l.name kept))))
    (twice (entry t (line_slot t (StayOf attr)) (line_slot t (StayOf attr))) own own_is room) (k, there, unfit)
  where
    side_itself : (s : Side) → is_side (Some s) s ≡ true
    side_itself Under = refl
    side_itself Over = refl

level_fits : (t : Lists) (level : Level) → IsKept t → IsUnfitWhat (problem_of t) (marks_at t) (LevelOf level) → ⊥
level_fits t (Priority rank) kept unfit = priority_fits t rank kept unfit
level_fits t (StayLevel attr) kept unfit =
    let named : IsNamed (problem_of t) (StayOf attr) = any_impl (λ l. (l.name ≡ StayOf attr) × (l.level ≡ unfit.0)) (λ l. l.name ≡ StayOf attr) (lines (problem_of t)) (λ l h. h.0) unfit.1 in
    let has = level_stay (problem_of t) attr (unfit.0, unfit.1) in
    let row : IsLineRow t (StayOf attr) (standing_at t (line_slot t (StayOf attr))).side =
    any_is (λ l. IsLineRow t l.name (standing_at t (line_slot t l.name)).side) (λ l. l.name ≡ StayOf attr) (lines (problem_of t)) kept.lines named
    (λ l h e. subst (λ (n : RowName). IsLineRow t n (standing_at t (line_slot t n)).side) e h) in
    let room : HasStayRoom t (record { attr = attr; target = zero_fraction }) =
    any_is (HasStayRoom t) (λ s. s.attr ≡ attr) t.stays kept.stay_levels has
    (λ s h e. subst (λ (a : ℕ). IsFitting (pos 2 *ℤ entry t (line_slot t (StayOf a)) (line_slot t (StayOf a)))) e h) in
    stay_fits t attr (standing_at t (line_slot t (StayOf attr))).side kept named refl row room unfit

-- ---- all of it

pub all_fits : (t : Lists) (what : What) → IsKept t → IsUnfitWhat (problem_of t) (marks_at t) what → ⊥
all_fits t (AttrOf attr) kept unfit = attr_fits t attr kept unfit
all_fits t (MarkOf m) kept unfit = mark_fits t m kept unfit
all_fits t (LevelOf level) kept unfit = level_fits t level kept unfit

pub corner_kept : (t : Lists) → IsKept t → IsKeptCorner (problem_of t) (marks_at t)
corner_kept t kept = record {
  whole = kept.whole;
  corner = kept.corner;
  ordered = marks_ordered t;
  rays = kept.rays;
  fits = λ what. all_fits t what kept;
}

pub settled : (ts : List Lists) → All IsEarlier ts → All IsSettled (map scene_at ts)
settled ts h = All-from_recursion IsSettled (map scene_at ts) (each_settled ts (recursion_from_All IsEarlier ts h))
  where
    each_settled : (ts : List Lists) → Each IsEarlier ts → Each IsSettled (map scene_at ts)
    each_settled [] h = tt
    each_settled (t ∷ ts) h = (record { kept = corner_kept t h.0.kept; candidates = h.0.candidates }, each_settled ts h.1)
