-- The marks after the exchange in order, and the path there.
use Rattle.std.proofs.Common.{◌≡◌, ◌≢◌, ◌∙◌, ℕ, zero, suc, Bool, true, false, cond, List, [], ◌∷◌, filter, map, refl, sym, ap, subst, arith, Contains, inl, inr}
use Rattle.std.specs.List.{AllByRecursion as Each}
use Rattle.std.proofs.lemmas.Bool.{cases_Bool, cases_eq}
use Rattle.std.proofs.lemmas.List.Elements.{All-from_recursion, recursion_from_All}
use Rattle.std.proofs.lemmas.List.Kept.{AllPairs-filter}
use Rattle.problem_core.specs.declared.parts.Mark.{Mark}
use Rattle.problem_core.specs.declared.parts.RowName.TheVariants.{Held}
use Rattle.problem_core.specs.declared.parts.Side.TheVariants.{Over}
use Rattle.problem_core.specs.declared.stops.What.{What}
use Rattle.problem_core.specs.declared.stops.Quantity.{Quantity}
use Rattle.problem_core.specs.declared.stops.Quantity.TheVariants.{Plain, Terms, Rows, Shifts}
use Rattle.frac_core.specs.declared.memory.Stop.TheVariants.{Refused}
use Rattle.problem_core.specs.Layout.{Problem, lines}
use Rattle.problem_core.specs.Corners.{IsCorner, IsExchange, IsIn, NoNegativeValue, SameMarks, Swap, exchanged, marks_of, place}
use Rattle.problem_core.specs.Unfit.{IsUnfitWhat, over_mark}
use Rattle.problem_core.proofs.Forms.{each-impl}
use Rattle.cert_core.specs.Paths.{Path}
use Rattle.corner_laws.proofs.Exchanged.{exchanged_in}
use Rattle.corner_laws.proofs.LinePlaces.{marks-apart as marks_apart}
use Rattle.corner_laws.proofs.RunSteps.RunPaths.{contains_in}
use Rattle.corner_laws.proofs.WrittenValues.{contains_each}
use Rattle.corner_view.specs.Seen.{in_order, is_mark, IsKeptCorner}
use Rattle.corner_view.specs.Stops.{IsUnfitStop}
use Rattle.corner_lines.proofs.SameMarks.{same_corner}
use Rattle.corner_ends.specs.Begins.{HasExchanged}
use Rattle.corner_ends.proofs.MarkOrders.{unfit_same}
use Rattle.marker_remove.specs.Freed.{DoStand, HasMarkIn, IsFreedPath, IsStayMover}
use Rattle.marker_remove.proofs.ZeroSwaps.{no_value, same_up}
use Rattle.frac_core.proofs.Bools.{bools-same as same_bool}
use Rattle.corner_laws.proofs.Swaps.Pivots.{leave-gone as left-out}
use Rattle.corner_view.proofs.Facts.{in_is, is_in}
use Rattle.problem_core.proofs.Marks.{entered-in as enter_in, same-back as same_back, kept-in as kept_in, later-in, in-list as in_list, no-swaps as path_here}

-- ---- marks in order

-- those of the list that are among the marks
abbrev pub among : List Mark → List Mark → List Mark
among ms list = filter (λ m. is_mark ms (place m)) list

among-on : (ms : List Mark) (m : Mark) (list : List Mark) → is_mark ms (place m) ≡ true → among ms (m ∷ list) ≡ m ∷ among ms list
among-on ms m list e = ap (λ (b : Bool). cond b (m ∷ among ms list) (among ms list)) e

among-off : (ms : List Mark) (m : Mark) (list : List Mark) → is_mark ms (place m) ≡ false → among ms (m ∷ list) ≡ among ms list
among-off ms m list e = ap (λ (b : Bool). cond b (m ∷ among ms list) (among ms list)) e

among-all : (ms list : List Mark) (c : ℕ) → IsIn c list → is_mark ms c ≡ true → IsIn c (among ms list)
among-all ms [] c (k, within, is) e = absurd (omega (arith, within))
among-all ms (m ∷ list) c (zero, within, is) e =
    subst (IsIn c) (sym (among-on ms m list (ap (is_mark ms) is ∙ e))) (0, omega arith, is)
among-all ms (m ∷ list) c (suc k, within, is) e = elim (cases_Bool (is_mark ms (place m))) [
  | inl on ↦ subst (IsIn c) (sym (among-on ms m list on)) (later-in m (among ms list) c (among-all ms list c (k, omega (arith, within), is) e))
  | inr off ↦ subst (IsIn c) (sym (among-off ms m list off)) (among-all ms list c (k, omega (arith, within), is) e)
]

among-only : (ms list : List Mark) → Each (λ m. is_mark ms (place m) ≡ true) (among ms list)
among-only ms [] = tt
among-only ms (m ∷ list) = elim (cases_Bool (is_mark ms (place m))) [
  | inl on ↦ subst (Each (λ m. is_mark ms (place m) ≡ true)) (sym (among-on ms m list on)) (on, among-only ms list)
  | inr off ↦ subst (Each (λ m. is_mark ms (place m) ≡ true)) (sym (among-off ms m list off)) (among-only ms list)
]

-- where each of the marks is in the list
pub same_among : (ms list : List Mark) → ((c : ℕ) → IsIn c ms → IsIn c list) → SameMarks (among ms list) ms
same_among ms list all = (
  All-from_recursion (λ m. IsIn (place m) ms) (among ms list) (each-impl (λ m. is_mark ms (place m) ≡ true) (λ m. IsIn (place m) ms) (among ms list) (λ m e. is_in ms (place m) e) (among-only ms list)),
  All-from_recursion (λ m. IsIn (place m) (among ms list)) ms (each-impl (λ m. IsIn (place m) ms) (λ m. IsIn (place m) (among ms list)) ms (λ m i. among-all ms list (place m) (all (place m) i) (in_is ms (place m) i)) (in_list ms)),
)

same-filter : (f g : Mark → Bool) (xs : List Mark) → ((m : Mark) → f m ≡ g m) → filter f xs ≡ filter g xs
same-filter f g [] h = refl
same-filter f g (m ∷ xs) h = ap (λ (b : Bool). cond b (m ∷ filter f xs) (filter f xs)) (h m) ∙ ap (λ (ys : List Mark). cond (g m) (m ∷ ys) ys) (same-filter f g xs h)

-- the same marks are in one order
pub one_order : (p : Problem) (a b : List Mark) → SameMarks a b → in_order p a ≡ in_order p b
one_order p a b same =
    same-filter (λ m. is_mark a (place m)) (λ m. is_mark b (place m)) (marks_of (lines p))
    (λ m. same_bool (is_mark a (place m)) (is_mark b (place m)) (λ e. in_is b (place m) (contains_in a b (place m) same.0 (is_in a (place m) e))) (λ e. in_is a (place m) (contains_in b a (place m) same.1 (is_in b (place m) e))))

pub ordered_same : (p : Problem) (ms : List Mark) → IsCorner p ms → SameMarks (in_order p ms) ms
ordered_same p ms corner =
    same_among ms (marks_of (lines p)) (λ c i. contains_each (λ v. Contains (map place (marks_of (lines p))) v) ms c (recursion_from_All (λ m. Contains (map place (marks_of (lines p))) (place m)) ms corner.marks) i)

pub ordered_again : (p : Problem) (ms : List Mark) → IsCorner p ms → in_order p ms ≡ in_order p (in_order p ms)
ordered_again p ms corner = one_order p ms (in_order p ms) (same_back (in_order p ms) ms (ordered_same p ms corner))

-- ---- back by the opposite exchange

abbrev pub back_of : Swap → Swap
back_of s = record { enter = s.leave; leave = s.enter }

module _ (at first : List Mark) (s : Swap) (enters : IsIn (place s.enter) at → ⊥) (leaves : IsIn (place s.leave) at) (same : SameMarks first (exchanged s at)) where
  to-first : (c : ℕ) → IsIn c (exchanged s at) → IsIn c first
  to-first c i = contains_in (exchanged s at) first c same.1 i

  from-first : (c : ℕ) → IsIn c first → IsIn c (exchanged s at)
  from-first c i = contains_in first (exchanged s at) c same.0 i

  was-there : (c : ℕ) → IsIn c (exchanged (back_of s) first) → IsIn c at
  was-there c i = elim (exchanged_in (back_of s) first c i) [
    | inl e ↦ subst (λ (v : ℕ). IsIn v at) (sym e) leaves
    | inr old ↦ elim (exchanged_in s at c (from-first c old.0)) [
      | inl e ↦ absurd (old.1 e)
      | inr h ↦ h.0
    ]
  ]

  is-there : (c : ℕ) → IsIn c at → IsIn c (exchanged (back_of s) first)
  is-there c i = elim (cases_eq c (place s.leave)) [
    | inl e ↦ subst (λ (v : ℕ). IsIn v (exchanged (back_of s) first)) (sym e) (enter_in (back_of s) first (to-first (place s.enter) (enter_in s at leaves)))
    | inr n ↦ kept_in (back_of s) first c (to-first c (kept_in s at c i n)) (λ e. enters (subst (λ (v : ℕ). IsIn v at) e i))
  ]

  pub went_back : HasExchanged first (back_of s ∷ []) at
  went_back = record {
    swapped = ((λ i. left-out s at enters leaves (from-first (place s.leave) i)), to-first (place s.enter) (enter_in s at leaves), tt);
    here = (
      All-from_recursion (λ m. IsIn (place m) at) (exchanged (back_of s) first) (each-impl (λ m. IsIn (place m) (exchanged (back_of s) first)) (λ m. IsIn (place m) at) (exchanged (back_of s) first) (λ m i. was-there (place m) i) (in_list (exchanged (back_of s) first))),
      All-from_recursion (λ m. IsIn (place m) (exchanged (back_of s) first)) at (each-impl (λ m. IsIn (place m) at) (λ m. IsIn (place m) (exchanged (back_of s) first)) at (λ m i. is-there (place m) i) (in_list at)),
    );
  }

-- ---- the path

-- the path at the corner after the exchange
pub freed_path : (p : Problem) (at : List Mark) (id : ℕ) (s : Swap) (path : Path) → IsKeptCorner p at → (HasMarkIn at id → ⊥) → s.enter ≡ over_mark id → IsStayMover p at s.enter s.leave → IsExchange p at s → NoNegativeValue p at → DoStand p at
    → path ≡ record { dual = false; corner = in_order p (exchanged s at); swaps = [] } → IsFreedPath p at id path
freed_path p at id s path kept fresh enter stay ex up standing e =
    let same : SameMarks (in_order p (exchanged s at)) (exchanged s at) = ordered_same p (exchanged s at) ex.corner in
    let back : SameMarks (exchanged s at) (in_order p (exchanged s at)) = same_back (in_order p (exchanged s at)) (exchanged s at) same in
    let corner : IsCorner p (in_order p (exchanged s at)) =
    same_corner p (exchanged s at) (in_order p (exchanged s at)) back (AllPairs-filter (λ (m n : Mark). place m ≢ place n) (λ m. is_mark (exchanged s at) (place m)) (marks_of (lines p)) (marks_apart p kept.whole)) ex.corner in
    subst (IsFreedPath p at id) (sym e)
    (record {
      kind = refl;
      none = refl;
      fresh = fresh;
      freed = (s, record { enter = enter; stay = (stay.attr, stay.stay); exchange = ex; same = no_value p at s stay.attr kept.whole kept.corner standing stay.stay ex.leaves; marks = back });
      ordered = ordered_again p (exchanged s at) ex.corner;
      lawful = path_here p (in_order p (exchanged s at)) corner (same_up p at (in_order p (exchanged s at)) s stay.attr kept.whole kept.corner standing stay.stay ex back up);
    })

plain_quantity : (p : Problem) (ms : List Mark) (quantity : Quantity) → IsUnfitStop p ms (Refused quantity) → (what : What) × (quantity ≡ Plain what) × IsUnfitWhat p ms what
plain_quantity p ms (Plain what) h = (what, refl, h)
plain_quantity p ms (Terms mark j) h = absurd h
plain_quantity p ms (Rows level j) h = absurd h
plain_quantity p ms (Shifts what j) h = absurd h

pub unfit_there : (p : Problem) (at : List Mark) (s : Swap) (path : Path) (quantity : Quantity) → IsExchange p at s → path ≡ record { dual = false; corner = in_order p (exchanged s at); swaps = [] } → IsUnfitStop p (exchanged s at) (Refused quantity) → (what : What) × (quantity ≡ Plain what) × IsUnfitWhat p path.corner what
unfit_there p at s path quantity ex e h =
    subst (λ (q : Path). (what : What) × (quantity ≡ Plain what) × IsUnfitWhat p q.corner what) (sym e)
    (plain_quantity p (in_order p (exchanged s at)) quantity
    (unfit_same p (exchanged s at) (in_order p (exchanged s at)) (Refused quantity) (same_back (in_order p (exchanged s at)) (exchanged s at) (ordered_same p (exchanged s at) ex.corner)) h))

-- a mark of the row is inside after the exchange
pub freed_inside : (at new : List Mark) (id : ℕ) (s : Swap) → IsIn (place s.leave) at → s.enter ≡ record { row = Held id; side = Over } → SameMarks new (exchanged s at) → HasMarkIn new id
freed_inside at new id s leaves e same =
    inr (subst (λ (m : Mark). IsIn (place m) new) e (contains_in (exchanged s at) new (place s.enter) same.1 (enter_in s at leaves)))
