-- The levels where a row has been pushed, which has not joined their costs.
use Rattle.std.proofs.Common.{◌≡◌, ◌∙◌, ℕ, ◌-◌, ◌*◌, ◌/◌, ◌<◌, ◌≤◌, ◌++◌, Bool, true, false, cond, nat_eq, List, [], ◌∷◌, length, map, filter, refl, sym, ap, subst, arith, inl, inr, ℤ, pos, neg_ℤ, ◌+ℤ◌, ◌-ℤ◌, ◌*ℤ◌, slice_index_or, All, Some}
use Rattle.std.specs.List.{AllByRecursion as Each}
use Rattle.std.proofs.Common.{Contains}
use Rattle.std.proofs.lemmas.Bool.{cases_Bool}
use Rattle.std.proofs.lemmas.List.{length_push}
use Rattle.std.proofs.Math.ListN.{get_or-append}
use Rattle.std.proofs.lemmas.List.Elements.{All-cons, All-nil, All-from_recursion, recursion_from_All}
use Rattle.std.specs.Int.{◌∣◌}
use Rattle.std.proofs.Math.Nat.{div-mul_cancel, dvd-mul_left_of_dvd, dvd-mul_right}
use borrow.Author.Differences.{ints}
use Rattle.frac_core.specs.Fraction.{Fraction, IsFitting}
use Rattle.frac_core.proofs.Integers.{mul_assoc_ℤ}
use Rattle.row_core.specs.Rows.{Term, coefficient}
use Rattle.problem_core.specs.declared.parts.Mark.{Mark}
use Rattle.problem_core.specs.declared.parts.Side.{Side}
use Rattle.problem_core.specs.declared.parts.Side.TheVariants.{Under, Over}
use Rattle.problem_core.specs.declared.parts.RowName.{RowName}
use Rattle.problem_core.specs.declared.parts.RowName.TheVariants.{Held}
use Rattle.problem_core.specs.Layout.{IsProblem, Line, Problem, Row, line_of_row, lines, product_of, stay_lines, value_at}
use Rattle.problem_core.specs.Certificates.{weight_at}
use Rattle.problem_core.specs.Corners.{IsCorner, IsIn, Point, equation, StandsAt, marks_of, one_column, place, place_of}
use Rattle.problem_core.specs.Levels.{AreFitting, IsCostAt, cost_at, line_cost, scales}
use Rattle.problem_core.specs.Unfit.{lightened, with_first_rows, without_weight}
use Rattle.problem_core.proofs.Forms.{each-both, each-impl, mul-sum}
use Rattle.corner_laws.specs.Lifts.{AreJoined, HasOneIn, with_rows}
use Rattle.corner_laws.specs.Units.{AreFittingThere, IsLevelRow, IsLevelUnit, IsReducedBy, over_share, under_share}
use Rattle.corner_laws.proofs.PathEnds.Ends.{both_marks, decided}
use Rattle.corner_laws.proofs.MarkWritings.Lifts.{each_drop}
use Rattle.corner_laws.proofs.MarkWritings.Lifts as lifts
use Rattle.corner_laws.proofs.WrittenValues.{contains_each}
use Rattle.corner_laws.proofs.LevelCosts.LevelSizes.{level_fits}
use Rattle.corner_lines.specs.Joins.{with_row}
use Rattle.corner_lines.specs.LineEquations.{IsOutsideLine}
use Rattle.corner_lines.specs.Levels.LevelRows.{HasLevelRow}
use Rattle.corner_lines.specs.Levels.LevelJoins.{level_count}
use Rattle.corner_lines.specs.Levels.LevelCosts.{IsSound}
use Rattle.corner_lines.proofs.ProblemChanges.JoinedRows.{fresh-mark, in-parts}
use Rattle.corner_lines.proofs.Costs.LevelFits.{reduced-by, reduced_by}
use Rattle.corner_lines.proofs.LevelRows.LevelJoins.{free-number}
use Rattle.corner_lines.proofs.Costs.LevelPlaces.{cost_everywhere}
use Rattle.corner_lines.proofs.LevelRows.LevelRests.{joining_rows_are_free, lightened_append, sum-more}
use Rattle.corner_lines.proofs.LevelRows.LevelSound.{first_rows_are_sound, seen-each, seen-same}
use Rattle.corner_table.specs.declared.table.Standing.{Standing}
use Rattle.corner_table.specs.declared.table.TheConstants.{LEVELS}
use Rattle.corner_view.specs.Seen.{IsNamed}
use Rattle.corner_table.specs.Tables.{Lists, marks_at, number, priority_at, problem_of, standing_at}
use Rattle.corner_table.specs.Kept.{row_count}
use Rattle.corner_joins.specs.Additions.Parts.{HasPartNumbers, IsLevelPart, joined_at}
use Rattle.corner_joins.specs.Additions.RowSums.{with_pushed}
use Rattle.corner_table.proofs.Basics.SmallFacts.{own_name}
use Rattle.corner_joins.proofs.Additions.RowPlaces.{IsPush, each_new, each_old, last_of, marks_pushed, old_row, old_standing, put_line, next}
use Rattle.corner_joins.proofs.Additions.RowKept.{corner_pushed, rays_pushed}
use Rattle.corner_joins.proofs.Additions.RowTerms.{old_number}
use Rattle.problem_core.proofs.Corners.Conflicts.{sum-each}
use Rattle.corner_laws.proofs.LevelCosts.LevelLifts.{no-weight-left}
use Rattle.frac_core.proofs.Numbers.{quotient-times as quotient_more, with-factor as with_factor}
use Rattle.problem_core.proofs.Lines.{free-cost as free_cost}
use Rattle.frac_core.proofs.Fitting.{zero-fits as zero_fits}
use Rattle.corner_view.proofs.Facts.{named_in as mark_of_line}

-- ---- the first rows with the new one

-- without its weight at its own level
abbrev pub light : ℕ → Row → Row
light k r = cond (nat_eq (1000 - r.rank) k) (without_weight r) r

light_one : (k : ℕ) (r : Row) → lightened k 0 (r ∷ []) ≡ light k r ∷ []
light_one k r = one (nat_eq (1000 - r.rank) k)
  where
    one : (b : Bool) → cond b (without_weight r ∷ []) (r ∷ []) ≡ cond b (without_weight r) r ∷ []
    one true = refl
    one false = refl

push_step : (b : Bool) (k j : ℕ) (x r : Row) (xs found : List Row) → j ≤ length (cond b (x ∷ found) found) → ((i : ℕ) → i ≤ length found → lightened k i (xs ++ (r ∷ [])) ≡ lightened k i xs ++ (light k r ∷ []))
    → cond b (cond (nat_eq j 0) (without_weight x) x ∷ lightened k (j - 1) (xs ++ (r ∷ []))) (x ∷ lightened k j (xs ++ (r ∷ [])))
    ≡ cond b (cond (nat_eq j 0) (without_weight x) x ∷ lightened k (j - 1) xs) (x ∷ lightened k j xs) ++ (light k r ∷ [])
push_step true k j x r xs found le h = ap (λ (ys : List Row). cond (nat_eq j 0) (without_weight x) x ∷ ys) (h (j - 1) (omega (arith, le)))
push_step false k j x r xs found le h = ap (λ (ys : List Row). x ∷ ys) (h j le)

light_push : (k j : ℕ) (rows : List Row) (r : Row) → j ≤ level_count k rows → lightened k j (rows ++ (r ∷ [])) ≡ lightened k j rows ++ (light k r ∷ [])
light_push k j [] r le = let z : j ≡ 0 = omega (arith, le) in ap (λ (n : ℕ). lightened k n (r ∷ [])) z ∙ light_one k r
light_push k j (x ∷ rows) r le = push_step (nat_eq (1000 - x.rank) k) k j x r rows (filter (λ (s : Row). nat_eq (1000 - s.rank) k) rows) le (λ i h. light_push k i rows r h)

-- the pushed row comes behind the level's first rows
pub part_pushed : (p : Problem) (r : Row) (k j : ℕ) → j ≤ level_count k p.rows → with_first_rows k j (with_row r p) ≡ with_row (light k r) (with_first_rows k j p)
part_pushed p r k j le = ap (λ (rows : List Row). record { rows = rows; stays = p.stays }) (light_push k j p.rows r le)

-- as the law has it
part_law : (p : Problem) (r : Row) (k j : ℕ) → with_first_rows k (level_count k (with_first_rows k j p).rows) (with_rows (r ∷ []) (with_first_rows k j p)) ≡ with_row (light k r) (with_first_rows k j p)
part_law p r k j =
    ap (λ (rows : List Row). record { rows = rows; stays = p.stays })
    (lightened_append k (level_count k (lightened k j p.rows)) (lightened k j p.rows) (r ∷ []) refl ∙ ap (λ (xs : List Row). lightened k j p.rows ++ xs) (light_one k r))

light_id : (k : ℕ) (r : Row) → (light k r).id ≡ r.id
light_id k r = same (nat_eq (1000 - r.rank) k)
  where
    same : (b : Bool) → (cond b (without_weight r) r).id ≡ r.id
    same true = refl
    same false = refl

-- the lines of the first rows have the names of all
pub part_named : (p : Problem) (k j : ℕ) → All (λ l. IsNamed p l.name) (lines (with_first_rows k j p))
part_named p k j =
    All-from_recursion (λ l. IsNamed p l.name) (lines (with_first_rows k j p))
    (seen-each (λ l. l.name) (IsNamed p) (lines p) (lines (with_first_rows k j p)) (sym (seen-same (λ l. l.name) (λ r. refl) k j p.rows (stay_lines 1001 p.stays)))
    (recursion_from_All (λ l. IsNamed p l.name) (lines p) (λ i x lt. own_name (lines p) i x lt)))

-- ---- the marks

each_front : {X : Type 0} (P : X → Type 0) (xs : List X) (y : X) → All P (xs ++ (y ∷ [])) → All P xs
each_front P xs y h k x lt = subst P (get_or-append xs (y ∷ []) x k lt) (h k x (omega (arith, lt, length_push xs y)))

-- the marks before are inside
to_new : (t : Lists) (r : Row) (v : Standing) (o : List Term) (a : List ℕ) (s : Side) (c : ℕ) → IsPush t r a → v.side ≡ Some s → IsIn c (marks_at t) → IsIn c (marks_at (with_pushed r v o a t))
to_new t r v o a s c j side i =
    contains_each (λ d. IsIn d (marks_at (with_pushed r v o a t))) (marks_at t) c
    (recursion_from_All (λ m. IsIn (place m) (marks_at (with_pushed r v o a t))) (marks_at t) (each_front (λ m. IsIn (place m) (marks_at (with_pushed r v o a t))) (marks_at t) (record { row = Held r.id; side = s }) (marks_pushed t r v o a s (next t r a j) side).0)) i

-- and of the lines before no others are
to_old : (t : Lists) (r : Row) (v : Standing) (o : List Term) (a : List ℕ) (s : Side) (name : RowName) (c : Side) → IsPush t r a → v.side ≡ Some s → IsNamed (problem_of t) name → IsIn (place_of name c) (marks_at (with_pushed r v o a t)) → IsIn (place_of name c) (marks_at t)
to_old t r v o a s name c j side named i =
    let mark : Mark = record { row = Held r.id; side = s } in
    let there : IsIn (place_of name c) (marks_at t ++ (mark ∷ [])) =
    contains_each (λ d. IsIn d (marks_at t ++ (mark ∷ []))) (marks_at (with_pushed r v o a t)) (place_of name c) (recursion_from_All (λ m. IsIn (place m) (marks_at t ++ (mark ∷ []))) (marks_at (with_pushed r v o a t)) (marks_pushed t r v o a s (next t r a j) side).1) i in
    elim (in-parts (marks_at t) mark (place_of name c) there) [
      | inl k ↦ k
      | inr e ↦ absurd (fresh-mark (problem_of t) r (place_of name c) s j.whole (mark_of_line (problem_of t) name c named) e)
    ]

own_in : (t : Lists) (r : Row) (v : Standing) (o : List Term) (a : List ℕ) (s : Side) → IsPush t r a → v.side ≡ Some s → IsIn (place_of (Held r.id) s) (marks_at (with_pushed r v o a t))
own_in t r v o a s j side = last_of (λ m. IsIn (place m) (marks_at (with_pushed r v o a t))) (marks_at t) (record { row = Held r.id; side = s }) (marks_pushed t r v o a s (next t r a j) side).0

one_in : (t : Lists) (r : Row) (v : Standing) (o : List Term) (a : List ℕ) (s : Side) → IsPush t r a → v.side ≡ Some s → HasOneIn (marks_at (with_pushed r v o a t)) r
one_in t r v o a Under j side = inl (own_in t r v o a Under j side)
one_in t r v o a Over j side = inr (own_in t r v o a Over j side)

was_outside : (t : Lists) (r : Row) (v : Standing) (o : List Term) (a : List ℕ) → IsPush t r a → IsOutsideLine (marks_at t) (Held r.id)
was_outside t r v o a j =
    let marks = recursion_from_All (λ m. Contains (map place (marks_of (lines (problem_of t)))) (place m)) (marks_at t) j.kept.corner.marks in
    record {
      under = λ i. fresh-mark (problem_of t) r (place_of (Held r.id) Under) Under j.whole (contains_each (λ c. Contains (map place (marks_of (lines (problem_of t)))) c) (marks_at t) (place_of (Held r.id) Under) marks i) refl;
      over = λ i. fresh-mark (problem_of t) r (place_of (Held r.id) Over) Over j.whole (contains_each (λ c. Contains (map place (marks_of (lines (problem_of t)))) c) (marks_at t) (place_of (Held r.id) Over) marks i) refl;
    }

are_joined : (t : Lists) (r : Row) (v : Standing) (o : List Term) (a : List ℕ) (s : Side) (k i : ℕ) → IsPush t r a → v.side ≡ Some s → AreJoined (with_first_rows k i (problem_of t)) (marks_at t) (marks_at (with_pushed r v o a t))
are_joined t r v o a s k i j side =
    let p1 : Problem = with_first_rows k i (problem_of t) in
    record {
      kept = each_front (λ m. IsIn (place m) (marks_at (with_pushed r v o a t))) (marks_at t) (record { row = Held r.id; side = s }) (marks_pushed t r v o a s (next t r a j) side).0;
      no_other = All-from_recursion (λ m. IsIn (place m) (marks_at (with_pushed r v o a t)) → IsIn (place m) (marks_at t)) (marks_of (lines p1))
          (lifts.each_marks (λ c. IsIn c (marks_at (with_pushed r v o a t)) → IsIn c (marks_at t)) (lines p1)
          (each-impl (λ l. IsNamed (problem_of t) l.name) (λ l. (IsIn (place_of l.name Under) (marks_at (with_pushed r v o a t)) → IsIn (place_of l.name Under) (marks_at t)) × (IsIn (place_of l.name Over) (marks_at (with_pushed r v o a t)) → IsIn (place_of l.name Over) (marks_at t))) (lines p1)
          (λ l named. (to_old t r v o a s l.name Under j side named, to_old t r v o a s l.name Over j side named))
          (recursion_from_All (λ l. IsNamed (problem_of t) l.name) (lines p1) (part_named (problem_of t) k i))));
    }

-- ---- the level's row

level_before : (t : Lists) (r : Row) (v : Standing) (o : List Term) (a : List ℕ) (k unit own : ℕ) → IsPush t r a → k < length t.slots → HasPartNumbers t k unit own → HasLevelRow (joined_at t k) (marks_at t) k unit own (number (with_pushed r v o a t) k)
level_before t r v o a k unit own j lt n = record {
  by = n.by;
  row = n.row;
  outside = λ i x within out. n.outside i x within out ∙ sym (old_number t r v o a k (slice_index_or (lines (joined_at t k)) i x).name j lt (part_named (problem_of t) k (priority_at t k).rows i x within));
}

level_after : (t : Lists) (r : Row) (v : Standing) (o : List Term) (a : List ℕ) (s : Side) (k unit own : ℕ) → IsPush t r a → v.side ≡ Some s → k < LEVELS → IsLevelUnit (joined_at t k) k unit → HasPartNumbers t k unit own
    → IsLevelUnit (with_row (light k r) (joined_at t k)) k unit × HasLevelRow (with_row (light k r) (joined_at t k)) (marks_at (with_pushed r v o a t)) k unit own (number (with_pushed r v o a t) k)
level_after t r v o a s k unit own j side lt least n =
    let below : k < length t.slots = omega (arith, lt, j.kept.slots.levels) in
    subst (λ (x : Problem). IsLevelUnit x k unit × HasLevelRow x (marks_at (with_pushed r v o a t)) k unit own (number (with_pushed r v o a t) k)) (part_law (problem_of t) r k (priority_at t k).rows)
    (joining_rows_are_free (joined_at t k) (r ∷ []) (marks_at t) (marks_at (with_pushed r v o a t)) k unit own (number (with_pushed r v o a t) k) (are_joined t r v o a s k (priority_at t k).rows j side)
    (All-cons (HasOneIn (marks_at (with_pushed r v o a t))) r [] (one_in t r v o a s j side) (All-nil (HasOneIn (marks_at (with_pushed r v o a t)))))
    (All-cons (λ (x : Row). IsOutsideLine (marks_at t) (Held x.id)) r [] (was_outside t r v o a j) (All-nil (λ (x : Row). IsOutsideLine (marks_at t) (Held x.id))))
    least (level_before t r v o a k unit own j below n))

-- each line before has the number that it had
number_same : (t : Lists) (r : Row) (v : Standing) (o : List Term) (a : List ℕ) (s : Side) (k unit own : ℕ) → IsPush t r a → v.side ≡ Some s → k < length t.slots → (n : HasPartNumbers t k unit own) (h : HasLevelRow (with_row (light k r) (joined_at t k)) (marks_at (with_pushed r v o a t)) k unit own (number (with_pushed r v o a t) k))
    → All (λ l. h.by l.name ≡ n.by l.name) (lines (joined_at t k))
number_same t r v o a s k unit own j side lt n h i x within =
    let p1 : Problem = joined_at t k in
    let l : Line = slice_index_or (lines p1) i x in
    let named : IsNamed (problem_of t) l.name = part_named (problem_of t) k (priority_at t k).rows i x within in
    let under = each_old (λ l. IsIn (place_of l.name Under) (marks_at (with_pushed r v o a t)) → h.by l.name ≡ pos (own * under_share unit k l)) p1 (light k r) h.row.under i x within in
    let over = each_old (λ l. IsIn (place_of l.name Over) (marks_at (with_pushed r v o a t)) → h.by l.name ≡ neg_ℤ (pos (own * over_share unit k l))) p1 (light k r) h.row.over i x within in
    let outside = each_old (λ l. IsOutsideLine (marks_at (with_pushed r v o a t)) l.name → h.by l.name ≡ number (with_pushed r v o a t) k l.name) p1 (light k r) h.outside i x within in
    elim (decided (marks_at t) (record { row = l.name; side = Under })) [
      | inl u ↦ under (to_new t r v o a s (place_of l.name Under) j side u) ∙ sym (n.row.under i x within u)
      | inr nu ↦
          elim (decided (marks_at t) (record { row = l.name; side = Over })) [
            | inl ov ↦ over (to_new t r v o a s (place_of l.name Over) j side ov) ∙ sym (n.row.over i x within ov)
            | inr none ↦
                outside (record { under = λ i. nu (to_old t r v o a s l.name Under j side named i); over = λ i. none (to_old t r v o a s l.name Over j side named i) })
                ∙ old_number t r v o a k l.name j lt named ∙ sym (n.outside i x within (record { under = nu; over = none }))
          ]
    ]

-- the pushed row has no weight at the level
light_weight : (k : ℕ) (r : Row) → weight_at (line_of_row (light k r)) k ≡ 0
light_weight k r =
    elim (cases_Bool (nat_eq (1000 - r.rank) k)) [
      | inl e ↦ subst (λ (b : Bool). weight_at (line_of_row (cond b (without_weight r) r)) k ≡ 0) (sym e) (no-weight-left (nat_eq (1000 - r.rank) k))
      | inr e ↦ subst (λ (b : Bool). weight_at (line_of_row (cond b (without_weight r) r)) k ≡ 0) (sym e) (ap (λ (b : Bool). cond b r.weight 0) e)
    ]

none_over : (n : ℕ) → neg_ℤ (pos n) ≡ pos 0 → pos n ≡ pos 0
none_over n e = omega (arith, ints, e)

less_none : (z a b : ℤ) → z ≡ a -ℤ b → a ≡ pos 0 → b ≡ pos 0 → z ≡ pos 0
less_none z a b e f g = omega (arith, ints, e, f, g)

plus_none : (z a b : ℤ) → z ≡ a +ℤ b → a ≡ pos 0 → b ≡ pos 0 → z ≡ pos 0
plus_none z a b e f g = omega (arith, ints, e, f, g)

-- its own number is 0
own_number : (t : Lists) (r : Row) (v : Standing) (o : List Term) (a : List ℕ) (s : Side) (k unit own : ℕ) → IsPush t r a → v.side ≡ Some s → (h : HasLevelRow (with_row (light k r) (joined_at t k)) (marks_at (with_pushed r v o a t)) k unit own (number (with_pushed r v o a t) k)) → h.by (Held (light k r).id) ≡ pos 0
own_number t r v o a Under k unit own j side h =
    each_new (λ l. IsIn (place_of l.name Under) (marks_at (with_pushed r v o a t)) → h.by l.name ≡ pos (own * under_share unit k l)) (joined_at t k) (light k r) h.row.under
    (subst (λ (n : ℕ). IsIn (place_of (Held n) Under) (marks_at (with_pushed r v o a t))) (sym (light_id k r)) (own_in t r v o a Under j side))
    ∙ free-number Under k unit own (line_of_row (light k r)) (light_weight k r)
own_number t r v o a Over k unit own j side h =
    each_new (λ l. IsIn (place_of l.name Over) (marks_at (with_pushed r v o a t)) → h.by l.name ≡ neg_ℤ (pos (own * over_share unit k l))) (joined_at t k) (light k r) h.row.over
    (subst (λ (n : ℕ). IsIn (place_of (Held n) Over) (marks_at (with_pushed r v o a t))) (sym (light_id k r)) (own_in t r v o a Over j side))
    ∙ free-number Over k unit own (line_of_row (light k r)) (light_weight k r)

not_out : (t : Lists) (r : Row) (v : Standing) (o : List Term) (a : List ℕ) (s : Side) (k : ℕ) → IsPush t r a → v.side ≡ Some s → (IsIn (place_of (Held (light k r).id) Under) (marks_at (with_pushed r v o a t)) → ⊥) → (IsIn (place_of (Held (light k r).id) Over) (marks_at (with_pushed r v o a t)) → ⊥) → ⊥
not_out t r v o a Under k j side un ov = un (subst (λ (n : ℕ). IsIn (place_of (Held n) Under) (marks_at (with_pushed r v o a t))) (sym (light_id k r)) (own_in t r v o a Under j side))
not_out t r v o a Over k j side un ov = ov (subst (λ (n : ℕ). IsIn (place_of (Held n) Over) (marks_at (with_pushed r v o a t))) (sym (light_id k r)) (own_in t r v o a Over j side))

-- what holds of the first rows with the new one
first_with : (t : Lists) (r : Row) (v : Standing) (o : List Term) (a : List ℕ) (k : ℕ) → (priority_at t k).rows ≤ row_count t k → with_row (light k r) (joined_at t k) ≡ joined_at (with_pushed r v o a t) k
first_with t r v o a k le = sym (part_pushed (problem_of t) r k (priority_at t k).rows le)

level_numbers : (t : Lists) (r : Row) (v : Standing) (o : List Term) (a : List ℕ) (s : Side) (k unit own : ℕ) → IsPush t r a → v.side ≡ Some s → k < LEVELS → (priority_at t k).rows ≤ row_count t k → HasPartNumbers t k unit own
    → HasLevelRow (with_row (light k r) (joined_at t k)) (marks_at (with_pushed r v o a t)) k unit own (number (with_pushed r v o a t) k) → HasPartNumbers (with_pushed r v o a t) k unit own
level_numbers t r v o a s k unit own j side lt le n h =
    let p1 : Problem = joined_at t k in
    let q : Problem = with_row (light k r) p1 in
    let e : q ≡ joined_at (with_pushed r v o a t) k = first_with t r v o a k le in
    let below : k < length t.slots = omega (arith, lt, j.kept.slots.levels) in
    let sound : IsSound q = subst IsSound (sym e) (first_rows_are_sound (with_row r (problem_of t)) (marks_at (with_pushed r v o a t)) k (priority_at t k).rows j.whole (corner_pushed t r v o a s j side) (rays_pushed t r v o a s j side)).0 in
    let reduced : ℕ → ℤ = reduced_by q k unit own h.by in
    let left : IsReducedBy q k unit own h.by reduced = reduced-by q k unit own h.by sound in
    let same : All (λ l. h.by l.name ≡ n.by l.name) (lines p1) = number_same t r v o a s k unit own j side below n h in
    let under = each_old (λ l. reduced (place_of l.name Under) ≡ pos (own * under_share unit k l) -ℤ h.by l.name) p1 (light k r) left.under in
    let over = each_old (λ l. reduced (place_of l.name Over) ≡ pos (own * over_share unit k l) +ℤ h.by l.name) p1 (light k r) left.over in
    let none = own_number t r v o a s k unit own j side h in
    let no_under : pos (own * under_share unit k (line_of_row (light k r))) ≡ pos 0 = free-number Under k unit own (line_of_row (light k r)) (light_weight k r) in
    let no_over : pos (own * over_share unit k (line_of_row (light k r))) ≡ pos 0 = none_over (own * over_share unit k (line_of_row (light k r))) (free-number Over k unit own (line_of_row (light k r)) (light_weight k r)) in
    let there : AreFittingThere q (marks_at (with_pushed r v o a t)) k (own * unit) h.by reduced =
    record {
      scale_fits = n.fits.scale_fits;
      outside_fit = put_line (λ l. (IsIn (place_of l.name Under) (marks_at (with_pushed r v o a t)) → ⊥) → (IsIn (place_of l.name Over) (marks_at (with_pushed r v o a t)) → ⊥) → IsFitting (h.by l.name)) p1 (light k r)
          (λ i x within un ov. subst IsFitting (sym (same i x within)) (n.fits.times_fit i x within))
          (λ un ov. absurd (not_out t r v o a s k j side un ov));
      own_fit = put_line (λ l. l.level ≡ k → IsFitting (reduced (place_of l.name Under)) × IsFitting (reduced (place_of l.name Over))) p1 (light k r)
          (λ i x within z. (
            subst IsFitting (sym (under i x within ∙ ap (λ (y : ℤ). pos (own * under_share unit k (slice_index_or (lines p1) i x)) -ℤ y) (same i x within) ∙ sym (n.reduced_by.under i x within))) (n.fits.reduced_fit Under i x within),
            subst IsFitting (sym (over i x within ∙ ap (λ (y : ℤ). pos (own * over_share unit k (slice_index_or (lines p1) i x)) +ℤ y) (same i x within) ∙ sym (n.reduced_by.over i x within))) (n.fits.reduced_fit Over i x within),
          ))
          (λ z. (
            zero_fits (reduced (place_of (Held (light k r).id) Under))
                (less_none (reduced (place_of (Held (light k r).id) Under)) (pos (own * under_share unit k (line_of_row (light k r)))) (h.by (Held (light k r).id))
                (each_new (λ l. reduced (place_of l.name Under) ≡ pos (own * under_share unit k l) -ℤ h.by l.name) p1 (light k r) left.under) no_under none),
            zero_fits (reduced (place_of (Held (light k r).id) Over))
                (plus_none (reduced (place_of (Held (light k r).id) Over)) (pos (own * over_share unit k (line_of_row (light k r)))) (h.by (Held (light k r).id))
                (each_new (λ l. reduced (place_of l.name Over) ≡ pos (own * over_share unit k l) +ℤ h.by l.name) p1 (light k r) left.over) no_over none),
          ));
    } in
    record {
      by = h.by;
      reduced = reduced;
      row = subst (λ (x : Problem). IsLevelRow x (marks_at (with_pushed r v o a t)) k unit own h.by) e h.row;
      outside = subst (λ (x : Problem). All (λ l. IsOutsideLine (marks_at (with_pushed r v o a t)) l.name → h.by l.name ≡ number (with_pushed r v o a t) k l.name) (lines x)) e h.outside;
      reduced_by = subst (λ (x : Problem). IsReducedBy x k unit own h.by reduced) e left;
      fits = subst (λ (x : Problem). AreFitting x (own * unit) h.by reduced) e (level_fits q (marks_at (with_pushed r v o a t)) k unit own h.by reduced h.row left there);
    }

-- ---- costs

scales_more : (rows : List Row) (r : Row) (ls : List Line) → product_of (λ l. l.scale) (map line_of_row (rows ++ (r ∷ [])) ++ ls) ≡ r.scale * product_of (λ l. l.scale) (map line_of_row rows ++ ls)
scales_more [] r ls = refl
scales_more (x ∷ rows) r ls = let e : x.scale * product_of (λ l. l.scale) (map line_of_row (rows ++ (r ∷ [])) ++ ls) ≡ x.scale * (r.scale * product_of (λ l. l.scale) (map line_of_row rows ++ ls)) = ap (λ (n : ℕ). x.scale * n) (scales_more rows r ls) in omega (arith, e)

divides_line : (ls : List Line) → Each (λ l. 0 < l.scale) ls → Each (λ l. l.scale ∣ product_of (λ l. l.scale) ls) ls
divides_line [] h = tt
divides_line (l ∷ ls) h = (
  dvd-mul_right l.scale (product_of (λ l. l.scale) ls),
  each-impl (λ m. m.scale ∣ product_of (λ l. l.scale) ls) (λ m. m.scale ∣ (l.scale * product_of (λ l. l.scale) ls)) ls (λ m d. dvd-mul_left_of_dvd m.scale d l.scale) (divides_line ls h.1),
)

cost_more : (p : Problem) (r : Row) (k : ℕ) (x : ℕ → ℤ) → IsProblem p → weight_at (line_of_row r) k ≡ 0 → cost_at (with_row r p) k x ≡ pos r.scale *ℤ cost_at p k x
cost_more p r k x problem none =
    let q : Problem = with_row r p in
    sum-more (λ l. pos (scales q / l.scale) *ℤ line_cost k x l) p.rows (r ∷ []) (stay_lines 1001 p.stays) (free_cost (scales q / r.scale) k x (line_of_row r) none, tt)
    ∙ sum-each (λ l. pos (scales q / l.scale) *ℤ line_cost k x l) (λ l. pos r.scale *ℤ (pos (scales p / l.scale) *ℤ line_cost k x l)) (lines p)
    (each-impl (λ l. ((0 < l.scale) × (0 < l.den)) × (l.scale ∣ scales p)) _ (lines p)
    (λ l h. ap (λ (n : ℕ). pos n *ℤ line_cost k x l) (quotient_more (scales p) (scales q) r.scale l.scale h.0.0 (div-mul_cancel l.scale h.1) (scales_more p.rows r (stay_lines 1001 p.stays))) ∙ mul_assoc_ℤ (pos r.scale) (pos (scales p / l.scale)) (line_cost k x l))
    (each-both _ _ (lines p) (recursion_from_All _ (lines p) problem)
    (divides_line (lines p) (each-impl (λ l. (0 < l.scale) × (0 < l.den)) (λ l. 0 < l.scale) (lines p) (λ l h. h.0) (recursion_from_All _ (lines p) problem)))))
    ∙ mul-sum (pos r.scale) (λ l. pos (scales p / l.scale) *ℤ line_cost k x l) (lines p)

-- a point of the problem with the row stands without it
pub stands_before : (p : Problem) (r : Row) (at joined : List Mark) (x : Point) → AreJoined p at joined → StandsAt (with_row r p) joined x → StandsAt p at x
stands_before p r at joined x are h = (
  each_old (λ l. value_at x.num (equation l) ≡ pos 0) p r h.0,
  All-from_recursion (λ m. (IsIn (place m) at → ⊥) → x.num (place m) ≡ pos 0) (marks_of (lines p))
      (each-impl (λ m. ((IsIn (place m) joined → ⊥) → x.num (place m) ≡ pos 0) × (IsIn (place m) joined → IsIn (place m) at)) _ (marks_of (lines p)) (λ m k out. k.0 (λ i. out (k.1 i)))
      (each-both _ _ (marks_of (lines p))
      (lifts.each_marks (λ c. (IsIn c joined → ⊥) → x.num c ≡ pos 0) (lines p)
      (each_drop (λ l. ((IsIn (place_of l.name Under) joined → ⊥) → x.num (place_of l.name Under) ≡ pos 0) × ((IsIn (place_of l.name Over) joined → ⊥) → x.num (place_of l.name Over) ≡ pos 0)) p.rows r (stay_lines 1001 p.stays)
      (both_marks (λ c. (IsIn c joined → ⊥) → x.num c ≡ pos 0) (lines (with_row r p)) (recursion_from_All _ (marks_of (lines (with_row r p))) h.1))).0)
      (recursion_from_All _ (marks_of (lines p)) are.no_other))),
)

cost_pushed : (t : Lists) (r : Row) (v : Standing) (o : List Term) (a : List ℕ) (s : Side) (k : ℕ) (f : Fraction) → IsPush t r a → v.side ≡ Some s → (priority_at t k).rows ≤ row_count t k → IsCostAt (joined_at t k) (marks_at t) k f → IsCostAt (joined_at (with_pushed r v o a t) k) (marks_at (with_pushed r v o a t)) k f
cost_pushed t r v o a s k f j side le cost =
    let p1 : Problem = joined_at t k in
    let q : Problem = with_row (light k r) p1 in
    let e : q ≡ joined_at (with_pushed r v o a t) k = first_with t r v o a k le in
    let before = first_rows_are_sound (problem_of t) (marks_at t) k (priority_at t k).rows j.kept.whole j.kept.corner j.kept.rays in
    let corner : IsCorner q (marks_at (with_pushed r v o a t)) = subst (λ (x : Problem). IsCorner x (marks_at (with_pushed r v o a t))) (sym e) (first_rows_are_sound (with_row r (problem_of t)) (marks_at (with_pushed r v o a t)) k (priority_at t k).rows j.whole (corner_pushed t r v o a s j side) (rays_pushed t r v o a s j side)).1 in
    let y : Point = corner.point in
    let same = cost_everywhere p1 (marks_at t) k f y before.1 cost (stands_before p1 (light k r) (marks_at t) (marks_at (with_pushed r v o a t)) y (are_joined t r v o a s k (priority_at t k).rows j side) corner.stands) in
    subst (λ (x : Problem). IsCostAt x (marks_at (with_pushed r v o a t)) k f) e (
      y,
      corner.stands,
      ap (λ (z : ℤ). z *ℤ pos f.den) (cost_more p1 (light k r) k y.num before.0.problem (light_weight k r))
          ∙ with_factor (light k r).scale (scales p1) (cost_at p1 k y.num) f.num (y.num one_column) f.den same
          ∙ ap (λ (n : ℕ). f.num *ℤ (pos n *ℤ y.num one_column)) (sym (scales_more p1.rows (light k r) (stay_lines 1001 p1.stays))),
    )

-- ---- all of a level

more_rows : (f : Row → Bool) (rows : List Row) (r : Row) → length (filter f rows) ≤ length (filter f (rows ++ (r ∷ [])))
more_rows f [] r = omega arith
more_rows f (x ∷ rows) r = step (f x) (more_rows f rows r)
  where
    step : (b : Bool) → length (filter f rows) ≤ length (filter f (rows ++ (r ∷ []))) → length (cond b (x ∷ filter f rows) (filter f rows)) ≤ length (cond b (x ∷ filter f (rows ++ (r ∷ []))) (filter f (rows ++ (r ∷ []))))
    step true h = omega (arith, h)
    step false h = h

pub level_pushed : (t : Lists) (r : Row) (v : Standing) (o : List Term) (a : List ℕ) (s : Side) (k : ℕ) → IsPush t r a → v.side ≡ Some s → k < LEVELS → IsLevelPart t k → IsLevelPart (with_pushed r v o a t) k
level_pushed t r v o a s k j side lt l =
    let below : k < length t.slots = omega (arith, lt, j.kept.slots.levels) in
    let row = old_row t r v o a k j.kept.slots below in
    let law = level_after t r v o a s k l.unit l.own j side lt l.least l.numbers in
    let more = more_rows (λ (x : Row). nat_eq (1000 - x.rank) k) t.rows r in
    record {
      unit = l.unit;
      own = l.own;
      unit_is = l.unit_is;
      own_is = ap (λ (x : List Term). cond (nat_eq (priority_at t k).rows 0) (pos 1) (coefficient k x)) row ∙ l.own_is;
      rows = omega (arith, l.rows, more);
      empty = λ z. row ∙ l.empty z;
      least = subst (λ (x : Problem). IsLevelUnit x k l.unit) (first_with t r v o a k l.rows) law.0;
      numbers = level_numbers t r v o a s k l.unit l.own j side lt l.rows l.numbers law.1;
      cost = subst (λ (x : Standing). IsCostAt (joined_at (with_pushed r v o a t) k) (marks_at (with_pushed r v o a t)) k x.value) (sym (old_standing t r v o a k j.kept.slots below)) (cost_pushed t r v o a s k (standing_at t k).value j side l.rows l.cost);
    }
