-- Which mark of the first corner decides: the first in the order of ties, and what counts 0.
use Rattle.std.proofs.Common.{◌≡◌, ◌≢◌, ◌∙◌, ◌⊎◌, inl, inr, ℕ, zero, suc, ◌+◌, ◌<◌, ◌≤◌, Bool, false, cond, List, [], ◌∷◌, map, get_or, length, take, slice_get, Some, None, ℤ, pos, negsuc, ◌*ℤ◌, ◌<ℤ◌, neg_ℤ, refl, sym, ap, ap₂, subst, arith, ne_eqb, All}
use Rattle.std.specs.declared.cmp.Ordering.{Ordering}
use Rattle.std.specs.declared.cmp.Ordering.TheVariants.{Less, Equal, Greater}
use Rattle.std.specs.declared.option.Option.{Option}
use Rattle.std.specs.Ordering.{int_cmp}
use Rattle.std.specs.List.{AllByRecursion as Each}
use Rattle.std.proofs.lemmas.Bool.{cases_eq}
use Rattle.std.proofs.lemmas.Cmp.{int_ranked}
use Rattle.std.proofs.lemmas.List.{take_all}
use borrow.Author.Differences.{ints}
use Rattle.frac_core.proofs.Integers.{zero-mul_ℤ}
use Rattle.problem_core.specs.declared.parts.Mark.{Mark}
use Rattle.problem_core.specs.declared.parts.RowName.{RowName}
use Rattle.problem_core.specs.declared.parts.Side.{Side}
use Rattle.problem_core.specs.declared.parts.Side.TheVariants.{Under, Over}
use Rattle.problem_core.specs.declared.parts.Stay.{Stay}
use Rattle.problem_core.specs.Layout.{Problem, coefficient}
use Rattle.problem_core.specs.Corners.{IsIn, SameMarks, Swap, place, place_of}
use Rattle.problem_core.specs.Changes.Paths.{last_marks}
use Rattle.problem_core.proofs.Forms.{each-impl}
use Rattle.corner_laws.specs.Runs.{BreaksTie, Writes, Writing, count_at}
use Rattle.corner_laws.proofs.RunSteps.RunPaths.{contains_in}
use Rattle.corner_laws.proofs.MarkWritings.Equations.{writings_are_equal}
use Rattle.corner_laws.proofs.MarkWritings.LowestForms.{column_has_writing}
use Rattle.corner_view.proofs.Facts.{in_is, is_in}
use Rattle.corner_view.specs.Seen.{CornerView, IsKeptCorner}
use Rattle.corner_view.specs.Entries.{AreBothOutside, AreEntries}
use Rattle.corner_ends.specs.Trails.{IsTrailOf, Trail, in_tie_order}
use Rattle.corner_ends.proofs.TieOrders.{all_from, tied_same}
use Rattle.primal_run.proofs.TieKeys.{AreTieRising, IsTieAbove, ties_rising}
use Rattle.corner_ends.proofs.Marks.{contained, in_mark, one_mark, took_more}
use Rattle.primal_run.specs.declared.deciding.Decider.{Decider}
use Rattle.primal_run.specs.declared.deciding.Tie.{Tie}
use Rattle.primal_run.specs.Deciding.{HasBegun, IsDecider, IsNoLater, IsOfRow, IsOrderAt, IsSeen, tie_key}
use Rattle.primal_run.specs.Leaving.{IsRatioAt, WinsTie}
use Rattle.primal_run.proofs.Counts.{by_numbers, less_numbers, same_numbers}

-- ---- the first mark at which the two count differently decides

in-rest : (f g : Mark) (fs : List Mark) → IsIn (place g) (f ∷ fs) → place f ≢ place g → IsIn (place g) fs
in-rest f g fs (zero, within, is) other = absurd (other is)
in-rest f g fs (suc k, within, is) other = (k, omega (arith, within), is)

each-in : (P : Mark → Type 0) (g : Mark) (fs : List Mark) → Each P fs → IsIn (place g) fs → P g
each-in P g [] h (k, within, is) = absurd (omega (arith, within))
each-in P g (f ∷ fs) h (zero, within, is) = subst P (one_mark f g (sym is)) h.0
each-in P g (f ∷ fs) h (suc k, within, is) = each-in P g fs h.1 (k, omega (arith, within), is)

-- the two count the same at the mark, each over its coefficient
abbrev IsEven : ℕ → ℕ → Writing → ℕ → Writing → Mark → Type 0
IsEven e c v d w f = count_at d w (place f) *ℤ coefficient e v.form ≡ count_at c v (place f) *ℤ coefficient e w.form

tie_made : (all : List Stay) (e c d : ℕ) (v w : Writing) (g : Mark) (fs : List Mark) → AreTieRising all fs → IsIn (place g) fs → (count_at d w (place g) *ℤ coefficient e v.form) <ℤ (count_at c v (place g) *ℤ coefficient e w.form)
    → Each (λ f. tie_key all f < tie_key all g → IsEven e c v d w f) fs → BreaksTie e c v d w (map place fs)
tie_made all e c d v w g [] rising i less evens = tt
tie_made all e c d v w g (f ∷ fs) rising i less evens =
    elim (cases_eq (place f) (place g)) [
      | inl same ↦ inl (subst (λ (k : ℕ). (count_at d w k *ℤ coefficient e v.form) <ℤ (count_at c v k *ℤ coefficient e w.form)) (sym same) less)
      | inr other ↦
          let later = in-rest f g fs i other in
          inr (evens.0 (each-in (IsTieAbove all (tie_key all f)) g fs rising.0 later), tie_made all e c d v w g fs rising.1 later less evens.1)
    ]

tie_even : (e c d : ℕ) (v w : Writing) (fs : List Mark) → Each (IsEven e c v d w) fs → BreaksTie e c v d w (map place fs)
tie_even e c d v w [] evens = tt
tie_even e c d v w (f ∷ fs) evens = inr (evens.0, tie_even e c d v w fs evens.1)

-- ---- what counts 0

zero-or : (z : ℤ) → (z ≡ pos 0) ⊎ (z ≢ pos 0)
zero-or (pos zero) = inl refl
zero-or (pos (suc n)) = inr (λ e. let one : pos (suc n) ≡ pos 0 = e in omega (arith, ints, one))
zero-or (negsuc n) = inr (λ e. let one : negsuc n ≡ pos 0 = e in omega (arith, ints, one))

-- the inside mark counts 0 at the mark
abbrev CountsZero : Problem → List Mark → Mark → Mark → Type 0
CountsZero p at m f = (w : Writing) → Writes p at (place m) w → count_at (place m) w (place f) ≡ pos 0

zero-count : (p : Problem) (at : List Mark) (m f : Mark) (v : Writing) → IsKeptCorner p at → Writes p at (place m) v → place f ≢ place m → coefficient (place f) v.form ≡ pos 0 → CountsZero p at m f
zero-count p at m f v kept h other none w g =
    let same = (writings_are_equal p at (λ x. x (place m)) v.scale w.scale v.form w.form v.num w.num v.den w.den kept.corner kept.rays h g).1 (place f) in
    ap (λ (b : Bool). cond b (pos w.scale) (neg_ℤ (coefficient (place f) w.form))) (ne_eqb (place f) (place m) other) ∙ ap neg_ℤ (sym same ∙ none)

-- the mark's line is of the row, or the inside mark counts 0 at it
row-or-zero : (p : Problem) (at : List Mark) (m f : Mark) → IsKeptCorner p at → IsIn (place m) at → IsOfRow p at m f.row ⊎ CountsZero p at m f
row-or-zero p at m f kept inside =
    let t = column_has_writing p at (place m) kept.corner kept.rays (inl (in_mark p at m kept inside)) in
    let v : Writing = record { scale = t.0; form = t.1; num = t.2; den = t.3 } in
    elim (cases_eq (place_of f.row Under) (place_of m.row Under)) [
      | inl e ↦ inl (inl (ap (λ (x : Mark). x.row) (one_mark (record { row = f.row; side = Under }) (record { row = m.row; side = Under }) (sym e))))
      | inr ne ↦
          let apart : f.row ≢ m.row = λ e. ne (ap (λ (n : RowName). place_of n Under) e) in
          elim (zero-or (coefficient (place f) t.1)) [
            | inl none ↦ inr (zero-count p at m f v kept t.4 (λ e. apart (ap (λ (x : Mark). x.row) (one_mark f m (sym e)))) none)
            | inr some ↦ inl (inr (record {
              other = apart;
              side = f.side;
              outside = t.4.outside (place f) some;
              number = coefficient (place f) t.1;
              is = (place m, (inside, refl), (t.0, t.1, record { num = t.2; den = t.3 }, t.4, refl));
              nonzero = some;
            }))
          ]
    ]

-- ---- what is seen

pub late_seen : (c : CornerView) (trail : Trail) (tie : Tie) (before now : Option Decider) (f : Mark) → IsNoLater c.problem before now → IsSeen c trail tie before f → IsSeen c trail tie now f
late_seen c trail tie before now f later h first run among =
    elim (h first run among) [
      | inl even ↦ inl even
      | inr late ↦ inr (later f late)
    ]

-- no number in either row
both-zero : (c : CornerView) (trail : Trail) (tie : Tie) (found : Option Decider) (f : Mark) → CountsZero c.problem c.marks tie.a.mark f → CountsZero c.problem c.marks tie.b.mark f → IsSeen c trail tie found f
both-zero c trail tie found f a b first run among =
    inl (λ v w h g. sym (ap₂ int_cmp (ap (λ (z : ℤ). z *ℤ tie.a.by) (b w g) ∙ zero-mul_ℤ tie.a.by) (ap (λ (z : ℤ). z *ℤ tie.b.by) (a v h) ∙ zero-mul_ℤ tie.b.by)))

pub all_seen : (c : CornerView) (trail : Trail) (tie : Tie) (before now : Option Decider) (f : Mark) → IsKeptCorner c.problem c.marks → IsIn (place tie.a.mark) c.marks → IsIn (place tie.b.mark) c.marks
    → (IsOfRow c.problem c.marks tie.a.mark f.row → IsSeen c trail tie before f) → IsNoLater c.problem before now → (IsOfRow c.problem c.marks tie.b.mark f.row → IsSeen c trail tie now f) → IsSeen c trail tie now f
all_seen c trail tie before now f kept a b in-a later in-b =
    elim (row-or-zero c.problem c.marks tie.a.mark f kept a) [
      | inl here ↦ late_seen c trail tie before now f later (in-a here)
      | inr zero-a ↦ elim (row-or-zero c.problem c.marks tie.b.mark f kept b) [
        | inl here ↦ in-b here
        | inr zero-b ↦ both-zero c trail tie now f zero-a zero-b
      ]
    ]

pub both_seen : (c : CornerView) (trail : Trail) (tie : Tie) (before now : Option Decider) (name : RowName) → IsNoLater c.problem before now → IsSeen c trail tie before (record { row = name; side = Under }) → IsSeen c trail tie now (record { row = name; side = Over })
    → (side : Side) → IsSeen c trail tie now (record { row = name; side = side })
both_seen c trail tie before now name later under over Under = late_seen c trail tie before now (record { row = name; side = Under }) later under
both_seen c trail tie before now name later under over Over = over

-- the marks of the lines are seen
abbrev pub AreSeenLines : CornerView → Trail → Tie → Option Decider → List RowName → Type 0
AreSeenLines c trail tie found names = All (λ name. (side : Side) → IsSeen c trail tie found (record { row = name; side = side })) names

pub lines_more : (c : CornerView) (trail : Trail) (tie : Tie) (before now : Option Decider) (names : List RowName) (i : ℕ) (row : RowName) → IsNoLater c.problem before now → slice_get names i ≡ Some row
    → ((side : Side) → IsSeen c trail tie now (record { row = row; side = side })) → AreSeenLines c trail tie before (take i names) → AreSeenLines c trail tie now (take (i + 1) names)
lines_more c trail tie before now names i row later got seen h =
    took_more (λ name. (side : Side) → IsSeen c trail tie now (record { row = name; side = side })) names i row
    (λ j d within side. late_seen c trail tie before now (record { row = get_or (take i names) j d; side = side }) later (h j d within side)) got seen

pub row_seen : (c : CornerView) (trail : Trail) (tie : Tie) (found : Option Decider) (m f : Mark) (names : List RowName) (i : ℕ) → AreEntries c m names → length names ≤ i → AreSeenLines c trail tie found (take i names)
    → ((side : Side) → IsSeen c trail tie found (record { row = m.row; side = side })) → IsOfRow c.problem c.marks m f.row → IsSeen c trail tie found f
row_seen c trail tie found m f names i are over h own here =
    elim here [
      | inl e ↦ subst (λ (name : RowName). IsSeen c trail tie found (record { row = name; side = f.side })) (sym e) (own f.side)
      | inr entry ↦
          contained (λ name. (side : Side) → IsSeen c trail tie found (record { row = name; side = side })) names f.row
          (subst (AreSeenLines c trail tie found) (take_all i names over) h) (are.all f.row entry) f.side
    ]

-- where nothing is exchanged, what was inside the first corner is inside
began-here : (first at : List Mark) (swaps : List Swap) (k : ℕ) → length swaps < 1 → SameMarks (last_marks first swaps) at → IsIn k first → IsIn k at
began-here first at [] k few same i = contains_in first at k same.0 i
began-here first at (s ∷ swaps) k few same i = absurd (omega (arith, few))

pub unexchanged_seen : (c : CornerView) (trail : Trail) (tie : Tie) (found : Option Decider) (m f : Mark) (names : List RowName) → AreEntries c m names → length trail.swaps < 1
    → ((side : Side) → IsSeen c trail tie found (record { row = m.row; side = side })) → IsOfRow c.problem c.marks m f.row → IsSeen c trail tie found f
unexchanged_seen c trail tie found m f names are few own here =
    elim here [
      | inl e ↦ subst (λ (name : RowName). IsSeen c trail tie found (record { row = name; side = f.side })) (sym e) (own f.side)
      | inr entry ↦ λ first run among.
          let both : AreBothOutside c.problem c.marks f.row = contained (AreBothOutside c.problem c.marks) names f.row are.outside (are.all f.row entry) in
          absurd ((both f.side).1 (began-here first c.marks trail.swaps (place f) few run.swapped.here (is_in first (place f) among)))
    ]

-- ---- which of two wins the tie

greater-left : (o : Ordering) → o ≢ Less → o ≢ Equal → o ≡ Greater
greater-left Less less even = absurd (less refl)
greater-left Equal less even = absurd (even refl)
greater-left Greater less even = refl

-- two ratios that are compared
record AreRatios (p : Problem) (at : List Mark) (enter : ℕ) (tie : Tie) : Type 0 where
  pub kept : IsKeptCorner p at
  pub a : IsRatioAt p at enter tie.a
  pub b : IsRatioAt p at enter tie.b

even-numbers : (p : Problem) (at : List Mark) (enter : ℕ) (tie : Tie) (f : Mark) (v w : Writing) → AreRatios p at enter tie → Writes p at (place tie.a.mark) v → Writes p at (place tie.b.mark) w → IsOrderAt p at tie f Equal → IsEven enter (place tie.a.mark) v (place tie.b.mark) w f
even-numbers p at enter tie f v w are h g even =
    same_numbers _ _ _ _ _ _ (by_numbers p at enter tie.a v are.kept are.a h) (by_numbers p at enter tie.b w are.kept are.b g) (int_ranked _ _ Equal (even v w h g))

evens-before : (c : CornerView) (trail : Trail) (enter : ℕ) (tie : Tie) (d : Decider) (first : List Mark) (v w : Writing) → AreRatios c.problem c.marks enter tie → Writes c.problem c.marks (place tie.a.mark) v → Writes c.problem c.marks (place tie.b.mark) w
    → ((f : Mark) → IsSeen c trail tie (Some d) f) → IsTrailOf false c.problem first trail c.marks
    → Each (λ f. tie_key c.problem.stays f < tie_key c.problem.stays d.mark → IsEven enter (place tie.a.mark) v (place tie.b.mark) w f) (in_tie_order first)
evens-before c trail enter tie d first v w are h g seen run =
    each-impl (λ m. IsIn (place m) first) _ (in_tie_order first)
    (λ f i less. elim (seen f first run (in_is first (place f) i)) [
      | inl even ↦ even-numbers c.problem c.marks enter tie f v w are h g even
      | inr late ↦ absurd (omega (arith, less, late))
    ])
    (all_from first)

evens-all : (c : CornerView) (trail : Trail) (enter : ℕ) (tie : Tie) (first : List Mark) (v w : Writing) → AreRatios c.problem c.marks enter tie → Writes c.problem c.marks (place tie.a.mark) v → Writes c.problem c.marks (place tie.b.mark) w
    → ((f : Mark) → IsSeen c trail tie None f) → IsTrailOf false c.problem first trail c.marks → Each (IsEven enter (place tie.a.mark) v (place tie.b.mark) w) (in_tie_order first)
evens-all c trail enter tie first v w are h g seen run =
    each-impl (λ m. IsIn (place m) first) _ (in_tie_order first)
    (λ f i. elim (seen f first run (in_is first (place f) i)) [
      | inl even ↦ even-numbers c.problem c.marks enter tie f v w are h g even
      | inr late ↦ absurd late
    ])
    (all_from first)

pub first_wins : (c : CornerView) (trail : Trail) (enter : ℕ) (tie : Tie) (d : Decider) (first : List Mark) → IsKeptCorner c.problem c.marks → IsRatioAt c.problem c.marks enter tie.a → IsRatioAt c.problem c.marks enter tie.b
    → IsDecider c.problem c.marks tie d → HasBegun c trail (Some d) → ((f : Mark) → IsSeen c trail tie (Some d) f) → d.order ≡ Less → IsTrailOf false c.problem first trail c.marks → WinsTie c.problem c.marks enter (in_tie_order first) tie.a.mark tie.b.mark
first_wins c trail enter tie d first kept ra rb decider begun seen e run v w h g =
    let are : AreRatios c.problem c.marks enter tie = record { kept = kept; a = ra; b = rb } in
    tie_made c.problem.stays enter (place tie.a.mark) (place tie.b.mark) v w d.mark (in_tie_order first) (ties_rising c.problem first kept.whole run.ordered) (contains_in first (in_tie_order first) (place d.mark) (tied_same first).0 (is_in first (place d.mark) (begun first run)))
    (less_numbers _ _ _ _ _ _ (by_numbers c.problem c.marks enter tie.a v kept ra h) (by_numbers c.problem c.marks enter tie.b w kept rb g) (int_ranked _ _ Less (sym e ∙ decider.order v w h g)))
    (evens-before c trail enter tie d first v w are h g seen run)

pub second_wins : (c : CornerView) (trail : Trail) (enter : ℕ) (tie : Tie) (d : Decider) (first : List Mark) → IsKeptCorner c.problem c.marks → IsRatioAt c.problem c.marks enter tie.a → IsRatioAt c.problem c.marks enter tie.b
    → IsDecider c.problem c.marks tie d → HasBegun c trail (Some d) → ((f : Mark) → IsSeen c trail tie (Some d) f) → (d.order ≡ Less → ⊥) → IsTrailOf false c.problem first trail c.marks → WinsTie c.problem c.marks enter (in_tie_order first) tie.b.mark tie.a.mark
second_wins c trail enter tie d first kept ra rb decider begun seen not run w v g h =
    let are : AreRatios c.problem c.marks enter tie = record { kept = kept; a = ra; b = rb } in
    let e : d.order ≡ Greater = greater-left d.order not decider.uneven in
    tie_made c.problem.stays enter (place tie.b.mark) (place tie.a.mark) w v d.mark (in_tie_order first) (ties_rising c.problem first kept.whole run.ordered) (contains_in first (in_tie_order first) (place d.mark) (tied_same first).0 (is_in first (place d.mark) (begun first run)))
    (less_numbers _ _ _ _ _ _ (by_numbers c.problem c.marks enter tie.b w kept rb g) (by_numbers c.problem c.marks enter tie.a v kept ra h) (int_ranked _ _ Greater (sym e ∙ decider.order v w h g)))
    (each-impl _ _ (in_tie_order first) (λ f even less. sym (even less)) (evens-before c trail enter tie d first v w are h g seen run))

pub none_wins : (c : CornerView) (trail : Trail) (enter : ℕ) (tie : Tie) (first : List Mark) → IsKeptCorner c.problem c.marks → IsRatioAt c.problem c.marks enter tie.a → IsRatioAt c.problem c.marks enter tie.b
    → ((f : Mark) → IsSeen c trail tie None f) → IsTrailOf false c.problem first trail c.marks → WinsTie c.problem c.marks enter (in_tie_order first) tie.b.mark tie.a.mark
none_wins c trail enter tie first kept ra rb seen run w v g h =
    let are : AreRatios c.problem c.marks enter tie = record { kept = kept; a = ra; b = rb } in
    tie_even enter (place tie.b.mark) (place tie.a.mark) w v (in_tie_order first) (each-impl _ _ (in_tie_order first) (λ f even. sym even) (evens-all c trail enter tie first v w are h g seen run))
