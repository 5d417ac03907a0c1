-- Marks that keep the sign of their value where others move.
use Rattle.std.proofs.Common.{◌≡◌, ◌≢◌, ◌∙◌, ◌⊎◌, inl, inr, ℕ, zero, suc, List, ◌∷◌, map, ℤ, pos, negsuc, ◌*ℤ◌, ◌<ℤ◌, refl, sym, ap, subst, arith, All, Contains}
use Rattle.std.proofs.lemmas.Bool.{cases_eq}
use Rattle.std.proofs.lemmas.List.Elements.{recursion_from_All, All-from_recursion}
use borrow.Author.Differences.{ints}
use lib.IntN.{*ℤ_comm}
use Rattle.frac_core.specs.Fraction.{Fraction}
use Rattle.frac_core.proofs.Integers.{mul-zero_ℤ, mul_positive}
use Rattle.problem_core.specs.declared.parts.Mark.{Mark}
use Rattle.problem_core.specs.declared.parts.RowName.{RowName}
use Rattle.problem_core.specs.declared.parts.RowName.TheVariants.{Held}
use Rattle.problem_core.specs.declared.parts.Side.{Side}
use Rattle.problem_core.specs.declared.parts.Side.TheVariants.{Under, Over}
use Rattle.problem_core.specs.declared.stops.What.TheVariants.{Mark as MarkOf}
use Rattle.problem_core.specs.Layout.{Problem, coefficient, lines}
use Rattle.problem_core.specs.Corners.{HasNegativeValue, IsIn, Point, SameMarks, StandsAt, Swap, exchanged, marks_of, one_column, place, place_of}
use Rattle.problem_core.proofs.Forms.{each-impl}
use Rattle.corner_laws.specs.Runs.{Writes, Writing, other_mark, other_side}
use Rattle.corner_laws.proofs.Exchanged.{exchanged_in}
use Rattle.corner_laws.proofs.MarkWritings.LowestForms.{column_has_writing}
use Rattle.corner_laws.proofs.RunSteps.RunPaths.{contains_in}
use Rattle.corner_laws.proofs.WrittenValues.{value_there}
use Rattle.corner_lines.specs.Shifts.{IsShift, with_constant}
use Rattle.corner_lines.proofs.ProblemChanges.Shifted.{raised, raised-other, same-marks, shift-small, shift_direction, unshift-solves}
use Rattle.corner_view.proofs.Facts.{mark_named, moves_where, named_in as named_mark}
use Rattle.corner_view.specs.Seen.{IsKeptCorner, IsNamed, IsOutside, MovesWith}
use Rattle.corner_view.specs.Lows.{IsListedIfLow, ListsLow}
use Rattle.corner_ends.proofs.Marks.{in_mark, one_mark}
use Rattle.dual_run.specs.Leaving.{AreLowLines, IsLow, ListsSwapped}
use Rattle.dual_run.proofs.Lows.{no_low_value, same_or_other, same_sign}
use Rattle.dual_run.proofs.Turns.{opposite_numbers}
use Rattle.frac_core.proofs.Numbers.{low-times}
use Rattle.problem_core.proofs.Marks.{kept-in as in_exchanged, later-in}
use Rattle.corner_view.proofs.Seen.ShiftedLines.{shift_named as named_shifted}
use Rattle.frac_core.proofs.Products.{above_zero as den-up}

-- ---- one mark

-- the form has no mark that is inside at the other marks
abbrev IsApart : Problem → List Mark → Writing → Type 0
IsApart p more w = (v : ℕ) → coefficient v w.form ≢ pos 0 → Contains (map place (marks_of (lines p))) v × (IsIn v more → ⊥)

writes_more : (p : Problem) (at more : List Mark) (n : Mark) (w : Writing) → Writes p at (place n) w → IsApart p more w → Writes p more (place n) w
writes_more p at more n w writes apart = record {
  scale_positive = writes.scale_positive;
  den_positive = writes.den_positive;
  outside = apart;
  holds = writes.holds;
  lowest = writes.lowest;
}

-- a value that is negative where none of the form's marks moves is negative at the corner
still_low : (p : Problem) (at more : List Mark) (n : Mark) (w : Writing) (y : Point) → IsKeptCorner p at → Writes p at (place n) w → IsApart p more w → StandsAt p more y → y.num (place n) <ℤ pos 0 → HasNegativeValue p at n
still_low p at more n w y kept writes apart stands low =
    let x = kept.corner.point in
    let there : pos w.den *ℤ y.num (place n) ≡ w.num *ℤ y.num one_column = value_there p more (λ z. z (place n)) w.scale w.form w.num w.den y (writes_more p at more n w writes apart) stands in
    let here : pos w.den *ℤ x.num (place n) ≡ w.num *ℤ x.num one_column = value_there p at (λ z. z (place n)) w.scale w.form w.num w.den x writes kept.corner.stands in
    let down : w.num <ℤ pos 0 = same_sign (y.num (place n)) w.num (pos w.den) (y.num one_column) (den-up w.den writes.den_positive) y.positive (*ℤ_comm (y.num (place n)) (pos w.den) ∙ there) low in
    (x, kept.corner.stands, same_sign w.num (x.num (place n)) (x.num one_column) (pos w.den) x.positive (den-up w.den writes.den_positive) (sym here ∙ *ℤ_comm (pos w.den) (x.num (place n))) down)

none_or : (A : Type 0) (z : ℤ) → (z ≢ pos 0 → A) → (z ≡ pos 0) ⊎ A
none_or A (pos zero) h = inl refl
none_or A (pos (suc k)) h = inr (h (λ e. absurd (omega (arith, ints, e))))
none_or A (negsuc k) h = inr (h (λ e. absurd (omega (arith, ints, e))))

-- the mark's number is 0, or it is outside and the inside mark moves with it
still_or_moves : (p : Problem) (at : List Mark) (m n : Mark) (w : Writing) → IsKeptCorner p at → IsIn (place n) at → Writes p at (place n) w → (coefficient (place m) w.form ≡ pos 0) ⊎ ((IsIn (place m) at → ⊥) × MovesWith p at m (MarkOf n))
still_or_moves p at m n w kept inside writes =
    none_or ((IsIn (place m) at → ⊥) × MovesWith p at m (MarkOf n)) (coefficient (place m) w.form)
    (λ some. let out = writes.outside (place m) some in (
      out.1,
      moves_where p at m (MarkOf n) (coefficient (place m) w.form) kept.corner kept.rays out (place n, (inside, refl), (w.scale, w.form, record { num = w.num; den = w.den }, writes, refl)) some,
    ))

record HasForm (p : Problem) (at : List Mark) (n : Mark) : Type 0 where
  pub w : Writing
  pub writes : Writes p at (place n) w

form_of : (p : Problem) (at : List Mark) (n : Mark) → IsKeptCorner p at → IsIn (place n) at → HasForm p at n
form_of p at n kept inside =
    let w = column_has_writing p at (place n) kept.corner kept.rays (inl (in_mark p at n kept inside)) in
    record { w = record { scale = w.0; form = w.1; num = w.2; den = w.3 }; writes = w.4 }

-- ---- after an exchange

after_apart : (p : Problem) (at new : List Mark) (s : Swap) (w : Writing) (c : ℕ) → Writes p at c w → SameMarks new (exchanged s at) → coefficient (place s.enter) w.form ≡ pos 0 → IsApart p new w
after_apart p at new s w c writes same none v some =
    let out = writes.outside v some in (
      out.0,
      λ i. elim (exchanged_in s at v (contains_in new (exchanged s at) v same.0 i)) [
        | inl e ↦ some (subst (λ (u : ℕ). coefficient u w.form ≡ pos 0) (sym e) none)
        | inr old ↦ out.1 old.0
      ],
    )

-- the form of an inside mark after it has none that was inside before
before_apart : (p : Problem) (at new : List Mark) (s : Swap) (w : Writing) (c : ℕ) → Writes p new c w → SameMarks new (exchanged s at) → coefficient (place s.leave) w.form ≡ pos 0 → IsApart p at w
before_apart p at new s w c writes same none v some =
    let out = writes.outside v some in (
      out.0,
      λ i. elim (cases_eq v (place s.leave)) [
        | inl e ↦ some (subst (λ (u : ℕ). coefficient u w.form ≡ pos 0) (sym e) none)
        | inr ne ↦ out.1 (contains_in (exchanged s at) new v same.1 (in_exchanged s at v i ne))
      ],
    )

-- a listed line's mark is one whose value is negative
listed_low : (p : Problem) (at : List Mark) (names : List RowName) (m : Mark) → IsKeptCorner p at → IsLow p at m → IsListedIfLow p at names m → Contains names m.row
listed_low p at names m kept low (inl c) = c
listed_low p at names m kept low (inr (f, den, value, up)) = absurd (no_low_value p at m f kept (in_mark p at m kept low.inside) den value up low.value)

left_outside : (p : Problem) (at new : List Mark) (s : Swap) → IsKeptCorner p at → SameMarks new (exchanged s at) → IsIn (place s.leave) at → (IsIn (place s.enter) at → ⊥) → IsOutside p new s.leave
left_outside p at new s kept same leaves enters = (
  in_mark p at s.leave kept leaves,
  λ i. elim (exchanged_in s at (place s.leave) (contains_in new (exchanged s at) (place s.leave) same.0 i)) [
    | inl e ↦ enters (subst (λ (c : ℕ). IsIn c at) e leaves)
    | inr old ↦ old.1 refl
  ],
)

low_after : (p : Problem) (at new : List Mark) (s : Swap) (n : Mark) (old mid now : List RowName) → IsKeptCorner p at → IsKeptCorner p new → SameMarks new (exchanged s at) → IsIn (place s.leave) at → (IsIn (place s.enter) at → ⊥)
    → AreLowLines p at old → ListsLow p new s.enter.row old mid → ListsLow p new s.leave.row mid now → IsLow p new n → Contains now n.row
low_after p at new s n old mid now kept kept-new same leaves enters lows entering leaving low =
    elim (exchanged_in s at (place n) (contains_in new (exchanged s at) (place n) same.0 low.inside)) [
      | inl e ↦ leaving.keeps n.row (listed_low p new mid n kept-new low (entering.own n (ap (λ (m : Mark). m.row) (sym (one_mark s.enter n e))) low.inside))
      | inr before ↦
          let f = form_of p new n kept-new low.inside in
          elim (still_or_moves p new s.leave n f.w kept-new low.inside f.writes) [
            | inl none ↦
                leaving.keeps n.row (entering.keeps n.row (lows.low n (record {
                  inside = before.0;
                  value = (let h = low.value in still_low p at new n f.w h.0 kept (writes_more p new at n f.w f.writes (before_apart p at new s f.w (place n) f.writes same none)) (λ v some. f.writes.outside v some) h.1 h.2);
                })))
            | inr moves ↦ listed_low p new now n kept-new low (leaving.moved s.leave.side (left_outside p at new s kept same leaves enters) n moves.1)
          ]
    ]

-- ---- after a turn

none-other : (p : Problem) (at : List Mark) (c : ℕ) (name : RowName) (side : Side) (w : Writing) → IsKeptCorner p at → IsNamed p name → ((d : Side) → place_of name d ≢ c) → Writes p at c w → coefficient (place_of name side) w.form ≡ pos 0 → coefficient (place_of name (other_side side)) w.form ≡ pos 0
none-other p at c name Under w kept named apart writes none =
    let e = opposite_numbers p at c name w kept named apart writes in
    omega (arith, ints, e, none)
none-other p at c name Over w kept named apart writes none =
    let e = opposite_numbers p at c name w kept named apart writes in
    omega (arith, ints, e, none)

none-inside : (p : Problem) (at : List Mark) (c : ℕ) (m : Mark) (w : Writing) → IsIn (place m) at → Writes p at c w → coefficient (place m) w.form ≡ pos 0
none-inside p at c m w inside writes = elim (none_or ⊥ (coefficient (place m) w.form) (λ some. (writes.outside (place m) some).1 inside)) [
  | inl e ↦ e
  | inr never ↦ absurd never
]

-- no other line's mark moves with the other mark of an inside one's line
none_turned : (p : Problem) (at : List Mark) (s : Swap) (n : Mark) (w : Writing) → IsKeptCorner p at → IsIn (place n) at → place n ≢ place s.leave → IsIn (place s.leave) at → IsOutside p at s.enter → s.enter.row ≡ s.leave.row → Writes p at (place n) w → coefficient (place s.enter) w.form ≡ pos 0
none_turned p at s n w kept inside other leaves out e writes =
    elim (same_or_other s.leave.side s.enter.side) [
      | inl same ↦ absurd (out.1 (subst (λ (m : Mark). IsIn (place m) at) (sym (is-mark s.enter s.leave e same)) leaves))
      | inr turned ↦
          let is : s.enter ≡ other_mark s.leave = is-mark s.enter (other_mark s.leave) e turned in
          subst (λ (m : Mark). coefficient (place m) w.form ≡ pos 0) (sym is)
          (none-other p at (place n) s.leave.row s.leave.side w kept (subst (IsNamed p) e (mark_named p s.enter out.0)) (apart is) writes (none-inside p at (place n) s.leave w leaves writes))
    ]
  where
    is-mark : (a b : Mark) → a.row ≡ b.row → a.side ≡ b.side → a ≡ b
    is-mark a b f g = subst (λ (r : RowName). a ≡ record { row = r; side = b.side }) f (subst (λ (d : Side). a ≡ record { row = a.row; side = d }) g refl)

    apart : s.enter ≡ other_mark s.leave → (d : Side) → place_of s.leave.row d ≢ place n
    apart is d f = elim (same_or_other s.leave.side d) [
      | inl g ↦ other (sym f ∙ ap (λ (k : Side). place_of s.leave.row k) g)
      | inr g ↦ out.1 (subst (λ (c : ℕ). IsIn c at) (sym f ∙ ap (λ (k : Side). place_of s.leave.row k) g ∙ ap place (sym is)) inside)
    ]

low_turned : (p : Problem) (at new : List Mark) (s : Swap) (n : Mark) (low : List RowName) → IsKeptCorner p at → SameMarks new (exchanged s at) → AreLowLines p at low → IsLow p at s.leave → IsOutside p at s.enter → s.enter.row ≡ s.leave.row → IsLow p new n → Contains low n.row
low_turned p at new s n low kept same lows leave out e here =
    elim (exchanged_in s at (place n) (contains_in new (exchanged s at) (place n) same.0 here.inside)) [
      | inl is ↦ subst (λ (m : Mark). Contains low m.row) (one_mark s.enter n is) (subst (Contains low) (sym e) (lows.low s.leave leave))
      | inr before ↦
          let f = form_of p at n kept before.0 in
          lows.low n (record {
            inside = before.0;
            value = (let h = here.value in still_low p at new n f.w h.0 kept f.writes (after_apart p at new s f.w (place n) f.writes same (none_turned p at s n f.w kept before.0 before.1 leave.inside out e f.writes)) h.1 h.2);
          })
    ]

lows_turned : (p : Problem) (at new : List Mark) (s : Swap) (low : List RowName) → IsKeptCorner p at → SameMarks new (exchanged s at) → AreLowLines p at low → IsLow p at s.leave → IsOutside p at s.enter → s.enter.row ≡ s.leave.row → AreLowLines p new low
lows_turned p at new s low kept same lows leave out e = record {
  named = lows.named;
  low = λ m here. low_turned p at new s m low kept same lows leave out e here;
}

-- ---- after an exchange or a turn

pub lows_swapped : (p q : Problem) (at new : List Mark) (s : Swap) (old now : List RowName) → IsKeptCorner p at → IsKeptCorner q new → q ≡ p → SameMarks new (exchanged s at) → AreLowLines p at old → IsLow p at s.leave → IsOutside p at s.enter → ListsSwapped q new s.enter.row s.leave.row old now → AreLowLines q new now
lows_swapped p q at new s old now kept kept-new e same lows leave enter lists =
    subst (λ (k : Problem). IsKeptCorner k new → ListsSwapped k new s.enter.row s.leave.row old now → AreLowLines k new now) (sym e) here kept-new lists
  where
    here : IsKeptCorner p new → ListsSwapped p new s.enter.row s.leave.row old now → AreLowLines p new now
    here k (inl (row, is)) = subst (AreLowLines p new) (sym is) (lows_turned p at new s old kept same lows leave enter row)
    here k (inr (mid, entering, leaving)) = record {
      named = leaving.named (entering.named lows.named);
      low = λ m low. low_after p at new s m old mid now kept k same leave.inside enter.1 lows entering leaving low;
    }

-- ---- after a change of a constant

-- the point with the row's over mark moved solves the problem with the old constant
record IsUnshifted (p : Problem) (at : List Mark) (id : ℕ) (y : Point) : Type 0 where
  pub point : Point
  pub stands : StandsAt p (record { row = Held id; side = Over } ∷ at) point
  pub low : (v : ℕ) → v ≢ place_of (Held id) Over → y.num v <ℤ pos 0 → point.num v <ℤ pos 0

unshifted : (p : Problem) (at : List Mark) (id : ℕ) (from to more : Fraction) (y : Point) → IsKeptCorner p at → IsShift p id from to more → StandsAt (with_constant id to p) at y → IsUnshifted p at id y
unshifted p at id from to more y kept s stands =
    let small = shift-small p id from to more kept.whole s in
    let c = place_of (Held id) Over in
    let other : one_column ≢ c = λ e. absurd (omega (arith, small, e)) in
    let e = more.num *ℤ y.num one_column in
    record {
      point = record {
        num = raised more.den e c y.num;
        positive = subst (λ (z : ℤ). pos 0 <ℤ z) (sym (raised-other more.den e c y.num one_column other)) (mul_positive more.den (y.num one_column) s.more_positive y.positive);
      };
      stands = (
        unshift-solves p id from to more y.num small s stands.0,
        All-from_recursion (λ m. (IsIn (place m) (record { row = Held id; side = Over } ∷ at) → ⊥) → raised more.den e c y.num (place m) ≡ pos 0) (marks_of (lines p))
            (each-impl (λ m. (IsIn (place m) at → ⊥) → y.num (place m) ≡ pos 0) _ (marks_of (lines p))
            (λ m h out.
            raised-other more.den e c y.num (place m) (λ q. out (0, omega arith, sym q))
            ∙ ap (λ (z : ℤ). pos more.den *ℤ z) (h (λ i. out (later-in (record { row = Held id; side = Over }) at (place m) i)))
            ∙ mul-zero_ℤ (pos more.den))
            (recursion_from_All (λ m. (IsIn (place m) at → ⊥) → y.num (place m) ≡ pos 0) (marks_of (lines p))
            (subst (All (λ m. (IsIn (place m) at → ⊥) → y.num (place m) ≡ pos 0)) (same-marks id to p) stands.1))),
      );
      low = λ v ne low. subst (λ (z : ℤ). z <ℤ pos 0) (sym (raised-other more.den e c y.num v ne)) (low-times more.den (y.num v) s.more_positive low);
    }

over_apart : (p : Problem) (at : List Mark) (id : ℕ) (w : Writing) (c : ℕ) → Writes p at c w → coefficient (place_of (Held id) Over) w.form ≡ pos 0 → IsApart p (record { row = Held id; side = Over } ∷ at) w
over_apart p at id w c writes none v some =
    let out = writes.outside v some in (
      out.0,
      λ i. elim (first-or i) [
        | inl e ↦ some (subst (λ (u : ℕ). coefficient u w.form ≡ pos 0) e none)
        | inr old ↦ out.1 old
      ],
    )
  where
    first-or : IsIn v (record { row = Held id; side = Over } ∷ at) → (place_of (Held id) Over ≡ v) ⊎ IsIn v at
    first-or (zero, within, is) = inl is
    first-or (suc k, within, is) = inr (k, omega (arith, within), is)

-- what moves with a mark does so whatever the constant
moves_shifted : (p : Problem) (at : List Mark) (id : ℕ) (from to more : Fraction) (m n : Mark) → IsShift p id from to more → MovesWith p at m (MarkOf n) → MovesWith (with_constant id to p) at m (MarkOf n)
moves_shifted p at id from to more m n s (c, column, (ray, is, some)) = (
  c,
  column,
  (
    ray,
    record {
      holds = shift_direction p id from to more ray s is.still is.holds;
      still = is.still;
      here = is.here;
      other = subst (All (λ k. (IsIn (place k) at → ⊥) → place k ≢ place m → ray (place k) ≡ pos 0)) (sym (same-marks id to p)) is.other;
    },
    some,
  ),
)

low_shifted : (p : Problem) (at : List Mark) (id : ℕ) (from to more : Fraction) (n : Mark) (old now : List RowName) → IsKeptCorner p at → IsKeptCorner (with_constant id to p) at → IsNamed p (Held id) → IsShift p id from to more → AreLowLines p at old → ListsLow (with_constant id to p) at (Held id) old now → IsLow (with_constant id to p) at n → Contains now n.row
low_shifted p at id from to more n old now kept kept-new held s lows lists low =
    let over : Mark = record { row = Held id; side = Over } in
    elim (cases_eq (place n) (place over)) [
      | inl e ↦ listed_low (with_constant id to p) at now n kept-new low (lists.own n (ap (λ (m : Mark). m.row) (one_mark n over (sym e))) low.inside)
      | inr ne ↦
          let f = form_of p at n kept low.inside in
          elim (still_or_moves p at over n f.w kept low.inside f.writes) [
            | inl none ↦
                let h = low.value in
                let z = unshifted p at id from to more h.0 kept s h.1 in
                lists.keeps n.row (lows.low n (record {
                  inside = low.inside;
                  value = still_low p at (over ∷ at) n f.w z.point kept f.writes (over_apart p at id f.w (place n) f.writes none) z.stands (z.low (place n) ne h.2);
                }))
            | inr moves ↦
                listed_low (with_constant id to p) at now n kept-new low
                (lists.moved Over (named_mark (with_constant id to p) (Held id) Over (named_shifted p id to (Held id) held), moves.0) n (moves_shifted p at id from to more over n s moves.1))
          ]
    ]

pub lows_shifted : (p q : Problem) (at new : List Mark) (id : ℕ) (from to more : Fraction) (old now : List RowName) → IsKeptCorner p at → IsKeptCorner q new → IsNamed p (Held id) → IsShift p id from to more → q ≡ with_constant id to p → new ≡ at → ListsLow q new (Held id) old now → AreLowLines p at old → AreLowLines q new now
lows_shifted p q at new id from to more old now kept kept-new held s e f lists lows = moved_back e f kept-new lists
  where
    here : IsKeptCorner (with_constant id to p) at → ListsLow (with_constant id to p) at (Held id) old now → AreLowLines (with_constant id to p) at now
    here k l = record {
      named = l.named (λ i d within. named_shifted p id to _ (lows.named i d within));
      low = λ m low. low_shifted p at id from to more m old now kept k held s lows l low;
    }

    moved_back : q ≡ with_constant id to p → new ≡ at → IsKeptCorner q new → ListsLow q new (Held id) old now → AreLowLines q new now
    moved_back e f =
        subst (λ (k : Problem). IsKeptCorner k new → ListsLow k new (Held id) old now → AreLowLines k new now) (sym e)
        (subst (λ (ms : List Mark). IsKeptCorner (with_constant id to p) ms → ListsLow (with_constant id to p) ms (Held id) old now → AreLowLines (with_constant id to p) ms now) (sym f) here)
