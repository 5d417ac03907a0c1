-- The stops of a removal.
use Rattle.std.proofs.Common.{◌≡◌, ◌≢◌, ◌∙◌, ℕ, ◌+◌, ◌++◌, Bool, true, false, cond, List, [], ◌∷◌, filter, map, refl, sym, ap, inl, inr}
use Rattle.std.proofs.lemmas.Bool.{cases_Bool, cases_eq}
use Rattle.problem_core.specs.declared.parts.Mark.{Mark}
use Rattle.problem_core.specs.declared.parts.RowName.TheVariants.{Held, Stay as StayOf}
use Rattle.problem_core.specs.declared.parts.Side.{Side}
use Rattle.problem_core.specs.declared.parts.Side.TheVariants.{Under, Over}
use Rattle.problem_core.specs.declared.parts.Stay.{Stay}
use Rattle.problem_core.specs.Changes.Begins.{is_one_of, without_marks}
use Rattle.problem_core.specs.Layout.{Problem, Row, line_of_row, stay_lines}
use Rattle.problem_core.specs.Corners.{marks_of, place}
use Rattle.corner_view.specs.Seen.{in_order, is_mark}
use Rattle.corner_lines.specs.Removals.{without_row}
use Rattle.layout_solver.proofs.Removals.LeftMarks.{far_in, is_row-own, is_row-other, was_in}
use Rattle.corner_lines.proofs.ProblemChanges.Dropped.{filter-on, filter-off, left_mark, other_row}
use Rattle.frac_core.proofs.Bools.{bools-same as same_bool}
use Rattle.corner_view.proofs.Facts.{in_is as is_in, is_in as in_is}

-- ---- the marks that are left are in order

module _ (f g k : Mark → Bool) where
  step-off : (m : Mark) (ms : List Mark) → g m ≡ false → filter g (filter f (m ∷ ms)) ≡ filter g (filter f ms)
  step-off m ms off = elim (cases_Bool (f m)) [
    | inl on-it ↦ ap (λ (b : Bool). filter g (cond b (m ∷ filter f ms) (filter f ms))) on-it ∙ ap (λ (b : Bool). cond b (m ∷ filter g (filter f ms)) (filter g (filter f ms))) off
    | inr off-it ↦ ap (λ (b : Bool). filter g (cond b (m ∷ filter f ms) (filter f ms))) off-it
  ]

  step-on : (m : Mark) (ms left : List Mark) → g m ≡ true → k m ≡ f m → filter g (filter f ms) ≡ filter k left → filter g (filter f (m ∷ ms)) ≡ filter k (m ∷ left)
  step-on m ms left on same rest = elim (cases_Bool (f m)) [
    | inl on-it ↦
        ap (λ (b : Bool). filter g (cond b (m ∷ filter f ms) (filter f ms))) on-it
        ∙ ap (λ (b : Bool). cond b (m ∷ filter g (filter f ms)) (filter g (filter f ms))) on
        ∙ ap (λ (xs : List Mark). m ∷ xs) rest
        ∙ sym (ap (λ (b : Bool). cond b (m ∷ filter k left) (filter k left)) (same ∙ on-it))
    | inr off-it ↦
        ap (λ (b : Bool). filter g (cond b (m ∷ filter f ms) (filter f ms))) off-it
        ∙ rest
        ∙ sym (ap (λ (b : Bool). cond b (m ∷ filter k left) (filter k left)) (same ∙ off-it))
  ]

keeps-own : (id : ℕ) (n : ℕ) (side : Side) → n ≡ id → left_mark id (record { row = Held n; side = side }) ≡ false
keeps-own id n side e = ap (λ (t : Bool). cond (cond t true false) false true) (is_row-own n id e)

keeps-other : (id : ℕ) (n : ℕ) (side : Side) → n ≢ id → left_mark id (record { row = Held n; side = side }) ≡ true
keeps-other id n side ne = ap (λ (t : Bool). cond (cond t true false) false true) (is_row-other n id ne)

-- what is left of a mark of another line
same-there : (at : List Mark) (id : ℕ) (m : Mark) → is_one_of (id ∷ []) m.row ≡ false → is_mark (without_marks (id ∷ []) at) (place m) ≡ is_mark at (place m)
same-there at id m far =
    same_bool (is_mark (without_marks (id ∷ []) at) (place m)) (is_mark at (place m))
    (λ e. is_in at (place m) (was_in (id ∷ []) at (place m) (in_is (without_marks (id ∷ []) at) (place m) e)))
    (λ e. is_in (without_marks (id ∷ []) at) (place m) (far_in (id ∷ []) at m far (in_is at (place m) e)))

abbrev was : List Mark → Mark → Bool
was at m = is_mark at (place m)

abbrev left : ℕ → List Mark → List Mark
left id at = without_marks (id ∷ []) at

far-row : (id n : ℕ) → n ≢ id → is_one_of (id ∷ []) (Held n) ≡ false
far-row id n ne = ap (λ (t : Bool). cond t true false) (is_row-other n id ne)

order-stays : (at : List Mark) (id n : ℕ) (stays : List Stay) → filter (left_mark id) (filter (was at) (marks_of (stay_lines n stays))) ≡ filter (was (left id at)) (marks_of (stay_lines n stays))
order-stays at id n [] = refl
order-stays at id n (s ∷ stays) =
    let under : Mark = record { row = StayOf s.attr; side = Under } in
    let over : Mark = record { row = StayOf s.attr; side = Over } in
    step-on (was at) (left_mark id) (was (left id at)) (record { row = StayOf s.attr; side = Under }) (record { row = StayOf s.attr; side = Over } ∷ marks_of (stay_lines (n + 1) stays)) (record { row = StayOf s.attr; side = Over } ∷ marks_of (stay_lines (n + 1) stays))
    refl (same-there at id (record { row = StayOf s.attr; side = Under }) refl)
    (step-on (was at) (left_mark id) (was (left id at)) (record { row = StayOf s.attr; side = Over }) (marks_of (stay_lines (n + 1) stays)) (marks_of (stay_lines (n + 1) stays))
    refl (same-there at id (record { row = StayOf s.attr; side = Over }) refl) (order-stays at id (n + 1) stays))

order-rows : (at : List Mark) (id : ℕ) (stays : List Stay) (rows : List Row) → filter (left_mark id) (filter (was at) (marks_of (map line_of_row rows ++ stay_lines 1001 stays))) ≡ filter (was (left id at)) (marks_of (map line_of_row (filter (other_row id) rows) ++ stay_lines 1001 stays))
order-rows at id stays [] = order-stays at id 1001 stays
order-rows at id stays (r ∷ rows) = elim (cases_eq r.id id) [
  | inl e ↦
      step-off (was at) (left_mark id) (was (left id at)) (record { row = Held r.id; side = Under }) (record { row = Held r.id; side = Over } ∷ marks_of (map line_of_row rows ++ stay_lines 1001 stays)) (keeps-own id r.id Under e)
      ∙ step-off (was at) (left_mark id) (was (left id at)) (record { row = Held r.id; side = Over }) (marks_of (map line_of_row rows ++ stay_lines 1001 stays)) (keeps-own id r.id Over e)
      ∙ order-rows at id stays rows
      ∙ ap (λ (rs : List Row). filter (was (left id at)) (marks_of (map line_of_row rs ++ stay_lines 1001 stays))) (sym (filter-on id r rows e))
  | inr n ↦
      step-on (was at) (left_mark id) (was (left id at)) (record { row = Held r.id; side = Under }) (record { row = Held r.id; side = Over } ∷ marks_of (map line_of_row rows ++ stay_lines 1001 stays))
      (record { row = Held r.id; side = Over } ∷ marks_of (map line_of_row (filter (other_row id) rows) ++ stay_lines 1001 stays))
      (keeps-other id r.id Under n) (same-there at id (record { row = Held r.id; side = Under }) (far-row id r.id n))
      (step-on (was at) (left_mark id) (was (left id at)) (record { row = Held r.id; side = Over }) (marks_of (map line_of_row rows ++ stay_lines 1001 stays))
      (marks_of (map line_of_row (filter (other_row id) rows) ++ stay_lines 1001 stays))
      (keeps-other id r.id Over n) (same-there at id (record { row = Held r.id; side = Over }) (far-row id r.id n)) (order-rows at id stays rows))
      ∙ ap (λ (rs : List Row). filter (was (left id at)) (marks_of (map line_of_row rs ++ stay_lines 1001 stays))) (sym (filter-off id r rows n))
]

pub order_left : (p : Problem) (at : List Mark) (id : ℕ) → at ≡ in_order p at → without_marks (id ∷ []) at ≡ in_order (without_row id p) (without_marks (id ∷ []) at)
order_left p at id e = ap (λ (ms : List Mark). filter (left_mark id) ms) e ∙ order-rows at id p.stays p.rows
