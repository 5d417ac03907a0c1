-- The marks of a run's first corner, found from those of now and the exchanges.
use Rattle.std.proofs.Common.{◌≡◌, ◌≢◌, ◌∙◌, inl, inr, ℕ, zero, suc, ◌+◌, ◌<◌, Bool, true, false, cond, List, [], ◌∷◌, ◌++◌, map, length, take, get_or, refl, sym, ap, subst, arith, All}
use Rattle.std.specs.List.{AllByRecursion as Each}
use Rattle.std.proofs.lemmas.Bool.{cases_Bool}
use Rattle.std.proofs.lemmas.List.Elements.{recursion_from_All}
use Rattle.problem_core.specs.declared.parts.Mark.{Mark}
use Rattle.problem_core.specs.declared.parts.RowName.{RowName}
use Rattle.problem_core.specs.declared.parts.RowName.TheVariants.{Held, Stay as StayOf}
use Rattle.problem_core.specs.declared.parts.Side.TheVariants.{Under, Over}
use Rattle.problem_core.specs.declared.parts.Stay.{Stay}
use Rattle.problem_core.specs.Layout.{Line, Problem, Row, line_of_row, stay_lines}
use Rattle.problem_core.specs.Corners.{IsIn, Swap, exchanged, marks_of, place}
use Rattle.problem_core.specs.Changes.Paths.{last_marks}
use Rattle.corner_laws.proofs.Exchanged.{exchanged_in}
use Rattle.corner_laws.proofs.RunSteps.RunPaths.{contains_in}
use Rattle.corner_view.specs.Seen.{in_order, is_mark, IsNamed}
use Rattle.corner_ends.specs.Among.{lines_among, marks_among}
use Rattle.corner_ends.specs.Begins.{AreExchanges, HasExchanged}
use Rattle.corner_ends.proofs.MarkOrders.{kept_in}
use Rattle.corner_view.proofs.Facts.{append_more, in_is as in-mark, is_in as mark-in}
use Rattle.frac_core.proofs.Bools.{bools-same as same-bool}
use Rattle.problem_core.proofs.Lines.{past-rows, stay-line}

-- ---- what exchanges leave alone

-- the exchange does not name the mark with this column
abbrev pub IsElsewhere : ℕ → Swap → Type 0
IsElsewhere c s = (place s.enter ≢ c) × (place s.leave ≢ c)

in-after : (s : Swap) (at : List Mark) (c : ℕ) → IsElsewhere c s → IsIn c at → IsIn c (exchanged s at)
in-after s at c other i = kept_in s at c (λ e. other.1 (sym e)) i

in-before : (s : Swap) (at : List Mark) (c : ℕ) → IsElsewhere c s → IsIn c (exchanged s at) → IsIn c at
in-before s at c other i = elim (exchanged_in s at c i) [
  | inl e ↦ absurd (other.0 (sym e))
  | inr old ↦ old.0
]

in-last : (swaps : List Swap) (at : List Mark) (c : ℕ) → Each (IsElsewhere c) swaps → IsIn c at → IsIn c (last_marks at swaps)
in-last [] at c others i = i
in-last (s ∷ swaps) at c others i = in-last swaps (exchanged s at) c others.1 (in-after s at c others.0 i)

in-first : (swaps : List Swap) (at : List Mark) (c : ℕ) → Each (IsElsewhere c) swaps → IsIn c (last_marks at swaps) → IsIn c at
in-first [] at c others i = i
in-first (s ∷ swaps) at c others i = in-before s at c others.0 (in-first swaps (exchanged s at) c others.1 i)

-- the first exchange that names a mark takes it in or out
entered : (at : List Mark) (swaps : List Swap) (i : ℕ) (s : Swap) (c : ℕ) → AreExchanges at swaps → Each (IsElsewhere c) (take i swaps) → i < length swaps → get_or swaps i s ≡ s → place s.enter ≡ c → IsIn c at → ⊥
entered at [] i s c run others within is e inside = absurd (omega (arith, within))
entered at (t ∷ swaps) zero s c run others within is e inside = run.0 (subst (λ (v : ℕ). IsIn v at) (sym (ap (λ (q : Swap). place q.enter) is ∙ e)) inside)
entered at (t ∷ swaps) (suc i) s c run others within is e inside =
    entered (exchanged t at) swaps i s c run.2 others.1 (omega (arith, within)) is e (in-after t at c others.0 inside)

left : (at : List Mark) (swaps : List Swap) (i : ℕ) (s : Swap) (c : ℕ) → AreExchanges at swaps → Each (IsElsewhere c) (take i swaps) → i < length swaps → get_or swaps i s ≡ s → place s.leave ≡ c → IsIn c at
left at [] i s c run others within is e = absurd (omega (arith, within))
left at (t ∷ swaps) zero s c run others within is e = subst (λ (v : ℕ). IsIn v at) (ap (λ (q : Swap). place q.leave) is ∙ e) run.1
left at (t ∷ swaps) (suc i) s c run others within is e =
    in-before t at c others.0 (left (exchanged t at) swaps i s c run.2 others.1 (omega (arith, within)) is e)

-- ---- at a mark

pub mark_entered : (first at : List Mark) (swaps : List Swap) (i : ℕ) (s : Swap) (c : ℕ) → HasExchanged first swaps at → All (IsElsewhere c) (take i swaps) → i < length swaps → s ≡ get_or swaps i s → place s.enter ≡ c → false ≡ is_mark first c
mark_entered first at swaps i s c run others within is e =
    elim (cases_Bool (is_mark first c)) [
      | inl among ↦ absurd (entered first swaps i s c run.swapped (recursion_from_All (IsElsewhere c) (take i swaps) others) within (sym is) e (mark-in first c among))
      | inr apart ↦ sym apart
    ]

pub mark_left : (first at : List Mark) (swaps : List Swap) (i : ℕ) (s : Swap) (c : ℕ) → HasExchanged first swaps at → All (IsElsewhere c) (take i swaps) → i < length swaps → s ≡ get_or swaps i s → place s.leave ≡ c → true ≡ is_mark first c
mark_left first at swaps i s c run others within is e =
    sym (in-mark first c (left first swaps i s c run.swapped (recursion_from_All (IsElsewhere c) (take i swaps) others) within (sym is) e))

pub mark_stays : (first at : List Mark) (swaps : List Swap) (c : ℕ) (b : Bool) → HasExchanged first swaps at → All (IsElsewhere c) swaps → (b ≡ true → IsIn c at) → (IsIn c at → b ≡ true) → b ≡ is_mark first c
mark_stays first at swaps c b run others to back =
    let each = recursion_from_All (IsElsewhere c) swaps others in
    same-bool b (is_mark first c)
    (λ here. in-mark first c (in-first swaps first c each (contains_in at (last_marks first swaps) c run.here.1 (to here))))
    (λ among. back (contains_in (last_marks first swaps) at c run.here.0 (in-last swaps first c each (mark-in first c among))))

-- ---- lists

filter-two : (p : Mark → Bool) (m : Mark) (b : Bool) (ms us vs : List Mark) → ms ≡ us ++ vs → cond b (m ∷ ms) ms ≡ cond b (m ∷ us) us ++ vs
filter-two p m true ms us vs e = ap (λ xs. m ∷ xs) e
filter-two p m false ms us vs e = e

-- one mark more, and one line more
pub mark_more : (first : List Mark) (m : Mark) (ms : List Mark) → marks_among first (m ∷ ms) ≡ marks_among first (m ∷ []) ++ marks_among first ms
mark_more first m ms = filter-two (λ n. is_mark first (place n)) m (is_mark first (place m)) (marks_among first ms) [] (marks_among first ms) refl

pub lines_more : (first : List Mark) (names more : List RowName) → lines_among first (names ++ more) ≡ lines_among first names ++ lines_among first more
lines_more first [] more = refl
lines_more first (n ∷ names) more =
    ap (λ ms. marks_among first (record { row = n; side = Under } ∷ record { row = n; side = Over } ∷ []) ++ ms) (lines_more first names more)
    ∙ sym (append_more (marks_among first (record { row = n; side = Under } ∷ record { row = n; side = Over } ∷ [])) (lines_among first names) (lines_among first more))

-- the first elements, and one more
map-next : {X Y : Type 0} (f : X → Y) (xs : List X) (k : ℕ) (x : X) → k < length xs → get_or xs k x ≡ x → map f (take (k + 1) xs) ≡ map f (take k xs) ++ (f x ∷ [])
map-next f [] k x lt e = absurd (omega (arith, lt))
map-next f (y ∷ xs) zero x lt e = ap (λ u. f u ∷ []) e
map-next f (y ∷ xs) (suc k) x lt e =
    let n : suc (k + 1) ≡ suc k + 1 = omega arith in
    subst (λ j. map f (take j (y ∷ xs)) ≡ f y ∷ (map f (take k xs) ++ (f x ∷ []))) n (ap (λ us. f y ∷ us) (map-next f xs k x (omega (arith, lt)) e))

pub lines_next : {X : Type 0} (first begin old new : List Mark) (f : X → RowName) (xs : List X) (k : ℕ) (x : X) (name : RowName) → k < length xs → x ≡ get_or xs k x → name ≡ f x
    → old ≡ begin ++ lines_among first (map f (take k xs)) → new ≡ old ++ lines_among first (name ∷ []) → new ≡ begin ++ lines_among first (map f (take (k + 1) xs))
lines_next first begin old new f xs k x name lt is same e g =
    g ∙ ap (λ (ms : List Mark). ms ++ lines_among first (name ∷ [])) e
    ∙ ap (λ (n : RowName). (begin ++ lines_among first (map f (take k xs))) ++ lines_among first (n ∷ [])) same
    ∙ append_more begin (lines_among first (map f (take k xs))) (lines_among first (f x ∷ []))
    ∙ ap (λ (ms : List Mark). begin ++ ms) (sym (lines_more first (map f (take k xs)) (f x ∷ [])))
    ∙ ap (λ (names : List RowName). begin ++ lines_among first names) (sym (map-next f xs k x lt (sym is)))

-- ---- all of them

rows-among : (first : List Mark) (rows : List Row) (rest : List Line) → marks_among first (marks_of (map line_of_row rows ++ rest)) ≡ lines_among first (map (λ r. Held r.id) rows) ++ marks_among first (marks_of rest)
rows-among first [] rest = refl
rows-among first (r ∷ rows) rest =
    two-more first (record { row = Held r.id; side = Under }) (record { row = Held r.id; side = Over }) (marks_of (map line_of_row rows ++ rest))
    ∙ ap (λ (ms : List Mark). marks_among first (record { row = Held r.id; side = Under } ∷ record { row = Held r.id; side = Over } ∷ []) ++ ms) (rows-among first rows rest)
    ∙ sym (append_more (marks_among first (record { row = Held r.id; side = Under } ∷ record { row = Held r.id; side = Over } ∷ [])) (lines_among first (map (λ r. Held r.id) rows)) (marks_among first (marks_of rest)))
  where
    two-more : (first : List Mark) (m n : Mark) (ms : List Mark) → marks_among first (m ∷ n ∷ ms) ≡ marks_among first (m ∷ n ∷ []) ++ marks_among first ms
    two-more first m n ms = filter-two (λ k. is_mark first (place k)) m (is_mark first (place m)) (marks_among first (n ∷ ms)) (marks_among first (n ∷ [])) (marks_among first ms) (mark_more first n ms)

stays-among : (first : List Mark) (level : ℕ) (stays : List Stay) → marks_among first (marks_of (stay_lines level stays)) ≡ lines_among first (map (λ s. StayOf s.attr) stays)
stays-among first level [] = refl
stays-among first level (s ∷ stays) =
    two-more first (record { row = StayOf s.attr; side = Under }) (record { row = StayOf s.attr; side = Over }) (marks_of (stay_lines (level + 1) stays))
    ∙ ap (λ (ms : List Mark). marks_among first (record { row = StayOf s.attr; side = Under } ∷ record { row = StayOf s.attr; side = Over } ∷ []) ++ ms) (stays-among first (level + 1) stays)
  where
    two-more : (first : List Mark) (m n : Mark) (ms : List Mark) → marks_among first (m ∷ n ∷ ms) ≡ marks_among first (m ∷ n ∷ []) ++ marks_among first ms
    two-more first m n ms = filter-two (λ k. is_mark first (place k)) m (is_mark first (place m)) (marks_among first (n ∷ ms)) (marks_among first (n ∷ [])) (marks_among first ms) (mark_more first n ms)

-- rows, then stays, in their order
pub all_among : (p : Problem) (first rows all : List Mark) → rows ≡ [] ++ lines_among first (map (λ r. Held r.id) p.rows) → all ≡ rows ++ lines_among first (map (λ s. StayOf s.attr) p.stays) → first ≡ in_order p first → all ≡ first
all_among p first rows all e f ordered =
    f ∙ ap (λ (ms : List Mark). ms ++ lines_among first (map (λ s. StayOf s.attr) p.stays)) e
    ∙ ap (λ (ms : List Mark). lines_among first (map (λ r. Held r.id) p.rows) ++ ms) (sym (stays-among first 1001 p.stays))
    ∙ sym (rows-among first p.rows (stay_lines 1001 p.stays)) ∙ sym ordered

-- ---- names

pub stay_named : (p : Problem) (k : ℕ) (s : Stay) (name : RowName) → k < length p.stays → s ≡ get_or p.stays k s → name ≡ StayOf s.attr → IsNamed p name
stay_named p k s name lt e same = subst (IsNamed p) (sym same) (past-rows (StayOf s.attr) p.rows (stay_lines 1001 p.stays) (stay-line 1001 p.stays k s lt (sym e)))
