-- The marks inside, line by line.
use Rattle.std.proofs.Common.{◌≡◌, ◌∙◌, ℕ, zero, suc, ◌+◌, ◌<◌, Bool, true, false, cond, List, [], ◌∷◌, ◌++◌, map, filter, length, take, slice_index_or, refl, sym, ap, subst, arith, Any}
use Rattle.problem_core.specs.declared.parts.Mark.{Mark}
use Rattle.problem_core.specs.declared.parts.RowName.{RowName}
use Rattle.problem_core.specs.declared.parts.RowName.TheVariants.{Held, Stay as StayOf}
use Rattle.problem_core.specs.declared.parts.Side.TheVariants.{Under, Over}
use Rattle.problem_core.specs.declared.parts.Stay.{Stay}
use Rattle.problem_core.specs.Layout.{Line, Problem, Row, line_of_row, line_of_stay, stay_lines}
use Rattle.problem_core.specs.Corners.{marks_of}
use Rattle.corner_view.specs.Seen.{IsNamed}
use Rattle.corner_table.specs.Tables.{Lists, inside_of, marks_at, marks_over, row_names, stands_in}
use Rattle.problem_core.proofs.Lines.{past-rows as past}
use Rattle.corner_view.proofs.Facts.{append_more}

-- one line more
pub inside_more : (t : Lists) (names more : List RowName) → inside_of t (names ++ more) ≡ inside_of t names ++ inside_of t more
inside_more t [] more = refl
inside_more t (n ∷ names) more =
    ap (λ ms. filter (stands_in t) (record { row = n; side = Under } ∷ record { row = n; side = Over } ∷ []) ++ ms) (inside_more t names more)
    ∙ sym (append_more (filter (stands_in t) (record { row = n; side = Under } ∷ record { row = n; side = Over } ∷ [])) (inside_of t names) (inside_of t more))

-- the first elements, and one more
pub map_next : {X Y : Type 0} (f : X → Y) (xs : List X) (k : ℕ) (x : X) → k < length xs → slice_index_or xs k x ≡ x → map f (take (k + 1) xs) ≡ map f (take k xs) ++ (f x ∷ [])
map_next f [] k x lt e = absurd (omega (arith, lt))
map_next f (y ∷ xs) zero x lt e = ap (λ u. f u ∷ []) e
map_next f (y ∷ xs) (suc k) x lt e =
    let n : suc (k + 1) ≡ suc k + 1 = omega arith in
    subst (λ j. map f (take j (y ∷ xs)) ≡ f y ∷ (map f (take k xs) ++ (f x ∷ []))) n (ap (λ us. f y ∷ us) (map_next f xs k x (omega (arith, lt)) e))

-- ---- names

row_in : (rows : List Row) (rest : List Line) (k : ℕ) (r : Row) → k < length rows → slice_index_or rows k r ≡ r → Any (λ l. l.name ≡ Held r.id) (map line_of_row rows ++ rest)
row_in [] rest k r lt e = absurd (omega (arith, lt))
row_in (x ∷ rows) rest zero r lt e = (0, line_of_row x, omega arith, refl, ap (λ (y : Row). Held y.id) e)
row_in (x ∷ rows) rest (suc k) r lt e = let i = row_in rows rest k r (omega (arith, lt)) e in (suc i.0, i.1, omega (arith, i.2), i.3, i.4)

pub row_named : (p : Problem) (k : ℕ) (r : Row) → k < length p.rows → slice_index_or p.rows k r ≡ r → IsNamed p (Held r.id)
row_named p k r lt e = row_in p.rows (stay_lines 1001 p.stays) k r lt e

stay_in : (level : ℕ) (stays : List Stay) (k : ℕ) (s : Stay) → k < length stays → slice_index_or stays k s ≡ s → Any (λ l. l.name ≡ StayOf s.attr) (stay_lines level stays)
stay_in level [] k s lt e = absurd (omega (arith, lt))
stay_in level (x ∷ stays) zero s lt e = (0, line_of_stay level x, omega arith, refl, ap (λ (y : Stay). StayOf y.attr) e)
stay_in level (x ∷ stays) (suc k) s lt e = let i = stay_in (level + 1) stays k s (omega (arith, lt)) e in (suc i.0, i.1, omega (arith, i.2), i.3, i.4)

pub stay_named : (p : Problem) (k : ℕ) (s : Stay) → k < length p.stays → slice_index_or p.stays k s ≡ s → IsNamed p (StayOf s.attr)
stay_named p k s lt e = past (StayOf s.attr) p.rows (stay_lines 1001 p.stays) (stay_in 1001 p.stays k s lt e)

-- ---- all of them

rows_inside : (t : Lists) (rows : List Row) (rest : List Line) → filter (stands_in t) (marks_of (map line_of_row rows ++ rest)) ≡ inside_of t (map (λ r. Held r.id) rows) ++ filter (stands_in t) (marks_of rest)
rows_inside t [] rest = refl
rows_inside t (r ∷ rows) rest = two_more (stands_in t) (record { row = Held r.id; side = Under }) (record { row = Held r.id; side = Over }) (marks_of (map line_of_row rows ++ rest)) (inside_of t (map (λ r. Held r.id) rows)) (filter (stands_in t) (marks_of rest)) (rows_inside t rows rest)
  where
    one_more : (p : Mark → Bool) (m : Mark) (b : Bool) (ms us vs ws : List Mark) → ms ≡ us ++ (vs ++ ws) → cond b (m ∷ ms) ms ≡ cond b (m ∷ us) us ++ (vs ++ ws)
    one_more p m true ms us vs ws e = ap (λ xs. m ∷ xs) e
    one_more p m false ms us vs ws e = e

    two_more : (p : Mark → Bool) (m n : Mark) (ms vs ws : List Mark) → filter p ms ≡ vs ++ ws → filter p (m ∷ n ∷ ms) ≡ (filter p (m ∷ n ∷ []) ++ vs) ++ ws
    two_more p m n ms vs ws e =
        one_more p m (p m) (filter p (n ∷ ms)) (filter p (n ∷ [])) vs ws (one_more p n (p n) (filter p ms) [] vs ws e)
        ∙ sym (append_more (filter p (m ∷ n ∷ [])) vs ws)

stays_inside : (t : Lists) (level : ℕ) (stays : List Stay) → filter (stands_in t) (marks_of (stay_lines level stays)) ≡ inside_of t (map (λ s. StayOf s.attr) stays)
stays_inside t level [] = refl
stays_inside t level (s ∷ stays) =
    filter_two (stands_in t) (record { row = StayOf s.attr; side = Under }) (record { row = StayOf s.attr; side = Over }) (marks_of (stay_lines (level + 1) stays))
    ∙ ap (λ ms. filter (stands_in t) (record { row = StayOf s.attr; side = Under } ∷ record { row = StayOf s.attr; side = Over } ∷ []) ++ ms) (stays_inside t (level + 1) stays)
  where
    one_before : (p : Mark → Bool) (m : Mark) (b : Bool) (ms us vs : List Mark) → ms ≡ us ++ vs → cond b (m ∷ ms) ms ≡ cond b (m ∷ us) us ++ vs
    one_before p m true ms us vs e = ap (λ xs. m ∷ xs) e
    one_before p m false ms us vs e = e

    filter_two : (p : Mark → Bool) (m n : Mark) (ms : List Mark) → filter p (m ∷ n ∷ ms) ≡ filter p (m ∷ n ∷ []) ++ filter p ms
    filter_two p m n ms = one_before p m (p m) (filter p (n ∷ ms)) (filter p (n ∷ [])) (filter p ms) (one_before p n (p n) (filter p ms) [] (filter p ms) refl)

pub marks_inside : (t : Lists) → marks_over t [] ≡ marks_at t
marks_inside t = sym (rows_inside t t.rows (stay_lines 1001 t.stays) ∙ ap (λ ms. inside_of t (row_names t) ++ ms) (stays_inside t 1001 t.stays))
