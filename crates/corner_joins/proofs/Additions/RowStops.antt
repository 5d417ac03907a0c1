-- Where a sum of a new row's terms doesn't fit: the path to where the row and those after it are over.
use Rattle.std.proofs.Common.{◌-◌, take, drop, ◌≡◌, ◌≢◌, ◌∙◌, ℕ, zero, suc, ◌+◌, ◌<◌, ◌≤◌, ◌++◌, Bool, false, cond, List, [], ◌∷◌, length, map, filter, refl, sym, ap, ap₂, subst, arith, inl, inr, ℤ, pos, ◌*ℤ◌, ◌<ℤ◌, ◌≤ℤ◌, unsigned_abs, slice_index_or, All, AllPairs, Contains, Some}
use Rattle.std.specs.List.{AllByRecursion as Each, AllZip}
use Rattle.std.proofs.lemmas.List.{get_or_default, length-drop, append-nil as append_none}
use Rattle.std.proofs.lemmas.List.Elements.{All-push, All-from_recursion, recursion_from_All}
use borrow.Author.Differences.{ints}
use Rattle.problem_core.specs.Window.{zero_fraction}
use Rattle.problem_core.specs.declared.parts.Mark.{Mark}
use Rattle.problem_core.specs.declared.parts.Side.{Side}
use Rattle.problem_core.specs.declared.parts.Side.TheVariants.{Under, Over}
use Rattle.problem_core.specs.declared.parts.Stay.{Stay}
use Rattle.problem_core.specs.declared.parts.RowName.{RowName}
use Rattle.problem_core.specs.declared.parts.RowName.TheVariants.{Held, Stay as StayOf}
use Rattle.problem_core.specs.Layout.{Problem, Row, lines}
use Rattle.problem_core.specs.Kept.{IsWhole}
use Rattle.problem_core.specs.Changes.Begins.{BeginsWith, IsJoined}
use Rattle.problem_core.specs.Corners.{Agree, IsCorner, IsIn, NoNegativeValue, Point, SameMarks, StandsAt, marks_of, one_column, place}
use Rattle.problem_core.specs.Unfit.{IsUnfitTerms, over_mark}
use Rattle.problem_core.proofs.Forms.{each-impl}
use Rattle.cert_core.specs.Stops.{IsBefore}
use Rattle.cert_core.specs.declared.stops.RunStop.{RunStop}
use Rattle.cert_core.specs.declared.stops.RunStop.TheVariants.{Conflict, Unfit, Spent, OutOfMemory}
use Rattle.problem_core.specs.declared.stops.Quantity.{Quantity}
use Rattle.problem_core.specs.declared.stops.Quantity.TheVariants.{Plain, Terms, Rows, Shifts}
use Rattle.problem_core.specs.Changes.Stops.{TableStop}
use Rattle.frac_core.specs.declared.memory.Stop.TheVariants.{Refused}
use Rattle.corner_laws.specs.Lifts.{AreJoined, with_rows}
use Rattle.corner_laws.proofs.Counting.{head_pairs}
use Rattle.corner_laws.proofs.MarkWritings.TermLifts.{terms_lift}
use Rattle.corner_laws.proofs.WrittenValues.{contains_each}
use Rattle.corner_lines.specs.Joins.{over_joined, with_row}
use Rattle.corner_lines.proofs.ProblemChanges.JoinedRows.{fresh-mark, in-parts, joined_corner, old-in}
use Rattle.corner_lines.proofs.SameMarks.{same_corner, stands-there as stands_there}
use Rattle.corner_view.specs.Seen.{in_order}
use Rattle.corner_view.specs.AddStops.{IsAddStop}
use Rattle.corner_table.specs.Paths.{IsPathStop}
use Rattle.corner_table.specs.Invariants.{seen_of}
use Rattle.corner_table.specs.Tables.{Lists, inside_of, marks_at, marks_over, problem_of, row_names, stands_in, stay_names}
use Rattle.corner_table.specs.Kept.{AreSlots}
use Rattle.corner_joins.specs.Additions.Parts.{IsPartlyKept, IsTermsStop, IsWithRow}
use Rattle.corner_joins.specs.Additions.RowJoins.{AreAsBefore, ArePushed}
use Rattle.corner_joins.specs.Additions.RowSums.{with_pushed}
use Rattle.corner_table.proofs.Readings.KeptFacts.{marks_ordered}
use Rattle.corner_view.proofs.Facts.{append_more, positive_is, same_mark, same_trans}
use Rattle.corner_table.proofs.Readings.MarkingFacts.{inside_more, marks_inside, row_named, stay_named}
use Rattle.corner_joins.proofs.Additions.RowJoins.{not_below, not_less}
use Rattle.corner_joins.proofs.Additions.RowLevels.{stands_before}
use Rattle.corner_joins.proofs.Additions.RowPaths.{self_in, map_append, moved_last, named_so_far, problem_so_far, drop_next, take_all, take_next}
use Rattle.corner_joins.proofs.Additions.RowPlaces.{IsNext, other_name, row_stands, slots_pushed, stand_same}
use Rattle.corner_joins.proofs.Additions.RowTerms.{numbered, with_number}
use Rattle.corner_lines.proofs.ProblemChanges.JoinedBegins.{in-left, in-right, in-either, each-of-all}
use Rattle.frac_core.proofs.Lists.{each-onto_map as each_mapped, pairs-rest as tail_pairs, take-drop as take_drop}
use Rattle.corner_laws.proofs.RunSteps.RunPaths.{contains_in as in_by}
use Rattle.problem_core.proofs.Marks.{same-back as same_sym}
use Rattle.problem_core.proofs.Lines.{whole-front as whole_front}
use Rattle.corner_exchange.proofs.Swaps.NextFacts.{marks_apart as marks_different}

-- ---- the marks with the rest over

-- with a row over in the next slot
abbrev over_pushed : Row → Lists → Lists
over_pushed r t = with_pushed r (record { side = Some Over; value = zero_fraction }) [] (with_number r.id (length t.slots) t.row_slots) t

abbrev rest_over : List Row → Lists → Lists
rest_over [] t = t
rest_over (r ∷ rest) t = rest_over rest (over_pushed r t)

inside_same : (t u : Lists) (names : List RowName) → Each (λ n. (side : Side) → stands_in u (record { row = n; side = side }) ≡ stands_in t (record { row = n; side = side })) names → inside_of u names ≡ inside_of t names
inside_same t u [] h = refl
inside_same t u (n ∷ names) h =
    ap₂ (λ (a b : Bool). cond a (record { row = n; side = Under } ∷ cond b (record { row = n; side = Over } ∷ []) []) (cond b (record { row = n; side = Over } ∷ []) []) ++ inside_of u names) (h.0 Under) (h.0 Over)
    ∙ ap (λ (ms : List Mark). filter (stands_in t) (record { row = n; side = Under } ∷ record { row = n; side = Over } ∷ []) ++ ms) (inside_same t u names h.1)

next_of : (t : Lists) (r : Row) → AreSlots t → IsWhole (with_row r (problem_of t)) → IsNext t r (with_number r.id (length t.slots) t.row_slots)
next_of t r slots whole = record { slots = slots; whole = whole; numbers = numbered r.id (length t.slots) t.row_slots }

rows_same : (t : Lists) (r : Row) → AreSlots t → IsWhole (with_row r (problem_of t)) → inside_of (over_pushed r t) (row_names t) ≡ inside_of t (row_names t)
rows_same t r slots whole =
    inside_same t (over_pushed r t) (row_names t)
    (each_mapped (λ n. (side : Side) → stands_in (over_pushed r t) (record { row = n; side = side }) ≡ stands_in t (record { row = n; side = side })) (λ (x : Row). Held x.id) t.rows
    (recursion_from_All (λ (x : Row). (side : Side) → stands_in (over_pushed r t) (record { row = Held x.id; side = side }) ≡ stands_in t (record { row = Held x.id; side = side })) t.rows
    (λ k x lt side. stand_same t r (record { side = Some Over; value = zero_fraction }) [] (with_number r.id (length t.slots) t.row_slots) (Held (slice_index_or t.rows k x).id) side (next_of t r slots whole)
    (row_named (problem_of t) k (slice_index_or t.rows k x) lt (get_or_default t.rows k (slice_index_or t.rows k x) x lt)))))

stays_same : (t : Lists) (r : Row) → AreSlots t → IsWhole (with_row r (problem_of t)) → inside_of (over_pushed r t) (stay_names t) ≡ inside_of t (stay_names t)
stays_same t r slots whole =
    inside_same t (over_pushed r t) (stay_names t)
    (each_mapped (λ n. (side : Side) → stands_in (over_pushed r t) (record { row = n; side = side }) ≡ stands_in t (record { row = n; side = side })) (λ (x : Stay). StayOf x.attr) t.stays
    (recursion_from_All (λ (x : Stay). (side : Side) → stands_in (over_pushed r t) (record { row = StayOf x.attr; side = side }) ≡ stands_in t (record { row = StayOf x.attr; side = side })) t.stays
    (λ k x lt side. stand_same t r (record { side = Some Over; value = zero_fraction }) [] (with_number r.id (length t.slots) t.row_slots) (StayOf (slice_index_or t.stays k x).attr) side (next_of t r slots whole)
    (stay_named (problem_of t) k (slice_index_or t.stays k x) lt (get_or_default t.stays k (slice_index_or t.stays k x) x lt)))))

own_over : (t : Lists) (r : Row) → AreSlots t → IsWhole (with_row r (problem_of t)) → inside_of (over_pushed r t) (Held r.id ∷ []) ≡ over_mark r.id ∷ []
own_over t r slots whole =
    ap₂ (λ (a b : Bool). cond a (record { row = Held r.id; side = Under } ∷ cond b (record { row = Held r.id; side = Over } ∷ []) []) (cond b (record { row = Held r.id; side = Over } ∷ []) []) ++ [])
    (row_stands t r (record { side = Some Over; value = zero_fraction }) [] (with_number r.id (length t.slots) t.row_slots) Under (next_of t r slots whole))
    (row_stands t r (record { side = Some Over; value = zero_fraction }) [] (with_number r.id (length t.slots) t.row_slots) Over (next_of t r slots whole))

over_step : (t : Lists) (r : Row) (rest : List Row) → AreSlots t → IsWhole (with_row r (problem_of t)) → marks_over (over_pushed r t) rest ≡ marks_over t (r ∷ rest)
over_step t r rest slots whole =
    let u : Lists = over_pushed r t in
    let rows : inside_of u (row_names u) ≡ inside_of t (row_names t) ++ (over_mark r.id ∷ []) =
    ap (inside_of u) (map_append (λ (x : Row). Held x.id) t.rows r) ∙ inside_more u (row_names t) (Held r.id ∷ []) ∙ ap₂ ◌++◌ (rows_same t r slots whole) (own_over t r slots whole) in
    ap₂ (λ (xs ys : List Mark). xs ++ (map (λ r. over_mark r.id) rest ++ ys)) rows (stays_same t r slots whole)
    ∙ append_more (inside_of t (row_names t)) (over_mark r.id ∷ []) (map (λ r. over_mark r.id) rest ++ inside_of t (stay_names t))

-- the problem with the row, and then with the rest
pub then_rest : (rows : List Row) (r : Row) (rest : List Row) (stays : List Stay) → IsWhole (record { rows = rows ++ (r ∷ rest); stays = stays }) → IsWhole (record { rows = (rows ++ (r ∷ [])) ++ rest; stays = stays })
then_rest rows r rest stays h = subst (λ (x : List Row). IsWhole (record { rows = x; stays = stays })) (sym (append_more rows (r ∷ []) rest)) h

pub first_whole : (p : Problem) (r : Row) (rest : List Row) → IsWhole (with_rows (r ∷ rest) p) → IsWhole (with_row r p)
first_whole p r rest h = whole_front (p.rows ++ (r ∷ [])) rest p.stays (then_rest p.rows r rest p.stays h)

over_marks : (rest : List Row) (t : Lists) → AreSlots t → IsWhole (with_rows rest (problem_of t)) → marks_over t rest ≡ marks_at (rest_over rest t)
over_marks [] t slots whole = marks_inside t
over_marks (r ∷ rest) t slots whole =
    let one = first_whole (problem_of t) r rest whole in
    sym (over_step t r rest slots one)
    ∙ over_marks rest (over_pushed r t) (slots_pushed t r (record { side = Some Over; value = zero_fraction }) [] (with_number r.id (length t.slots) t.row_slots) (next_of t r slots one)) (then_rest t.rows r rest t.stays whole)

over_problem : (rest : List Row) (t : Lists) → problem_of (rest_over rest t) ≡ with_rows rest (problem_of t)
over_problem [] t = ap (λ (x : List Row). record { rows = x; stays = t.stays }) (sym (append_none t.rows))
over_problem (r ∷ rest) t = over_problem rest (over_pushed r t) ∙ ap (λ (x : List Row). record { rows = x; stays = t.stays }) (append_more t.rows (r ∷ []) rest)

pub over_ordered : (rest : List Row) (t : Lists) → AreSlots t → IsWhole (with_rows rest (problem_of t)) → marks_over t rest ≡ in_order (with_rows rest (problem_of t)) (marks_over t rest)
over_ordered rest t slots whole =
    over_marks rest t slots whole ∙ marks_ordered (rest_over rest t)
    ∙ ap₂ (λ (p : Problem) (ms : List Mark). in_order p ms) (over_problem rest t) (sym (over_marks rest t slots whole))

over_apart : (rest : List Row) (t : Lists) → AreSlots t → IsWhole (with_rows rest (problem_of t)) → AllPairs (λ m n. place m ≢ place n) (marks_over t rest)
over_apart rest t slots whole =
    subst (λ (ms : List Mark). AllPairs (λ m n. place m ≢ place n) ms) (sym (over_marks rest t slots whole))
    (marks_different (rest_over rest t) (subst IsWhole (sym (over_problem rest t)) whole))

-- ---- the order of the marks

same_by : (a b : List Mark) → ((c : ℕ) → IsIn c a → IsIn c b) → ((c : ℕ) → IsIn c b → IsIn c a) → SameMarks a b
same_by a b f g = (All-from_recursion (λ m. IsIn (place m) b) a (each-of-all (λ c. IsIn c b) a f), All-from_recursion (λ m. IsIn (place m) a) b (each-of-all (λ c. IsIn c a) b g))

same_behind : (a b more : List Mark) → SameMarks a b → SameMarks (a ++ more) (b ++ more)
same_behind a b more same =
    same_by (a ++ more) (b ++ more)
    (λ c i. elim (in-either c a more i) [ inl j ↦ in-left c b more (in_by a b c same.0 j) | inr j ↦ in-right c b more j ])
    (λ c i. elim (in-either c b more i) [ inl j ↦ in-left c a more (in_by b a c same.1 j) | inr j ↦ in-right c a more j ])

same_middle : (a b c : List Mark) → SameMarks (a ++ (b ++ c)) ((a ++ c) ++ b)
same_middle a b c =
    same_by (a ++ (b ++ c)) ((a ++ c) ++ b)
    (λ d i. elim (in-either d a (b ++ c) i) [
      | inl j ↦ in-left d (a ++ c) b (in-left d a c j)
      | inr j ↦ elim (in-either d b c j) [ inl k ↦ in-right d (a ++ c) b k | inr k ↦ in-left d (a ++ c) b (in-right d a c k) ]
    ])
    (λ d i. elim (in-either d (a ++ c) b i) [
      | inl j ↦ elim (in-either d a c j) [ inl k ↦ in-left d a (b ++ c) k | inr k ↦ in-right d a (b ++ c) (in-right d b c k) ]
      | inr j ↦ in-right d a (b ++ c) (in-left d b c j)
    ])

pub over_same : (t : Lists) (rest : List Row) → SameMarks (marks_over t rest) (marks_at t ++ map (λ r. over_mark r.id) rest)
over_same t rest =
    subst (λ (ms : List Mark). SameMarks (marks_over t rest) (ms ++ map (λ r. over_mark r.id) rest)) (marks_inside t)
    (same_middle (inside_of t (row_names t)) (map (λ r. over_mark r.id) rest) (inside_of t (stay_names t)))

-- a mark of the one list is one of the other
find_mark : (P : Mark → Type 0) (ms : List Mark) (m : Mark) → Each P ms → IsIn (place m) ms → P m
find_mark P [] m h (k, within, is) = absurd (omega (arith, within))
find_mark P (n ∷ ms) m h (zero, within, is) = subst P (same_mark n m is) h.0
find_mark P (n ∷ ms) m h (suc k, within, is) = find_mark P ms m h.1 (k, omega (arith, within), is)

moved_all : (P : Mark → Type 0) (a b : List Mark) → SameMarks b a → All P a → All P b
moved_all P a b same h k x lt = find_mark P a (slice_index_or b k x) (recursion_from_All P a h) (same.0 k x lt)

-- ---- signs

agree_below : (c : ℕ) (x y : Point) → Agree c x y → pos 0 ≤ℤ x.num c → pos 0 ≤ℤ y.num c
agree_below c x y e h =
    let up = positive_is (x.num one_column) x.positive in
    not_below (y.num c) (x.num c) (unsigned_abs (x.num one_column)) (y.num one_column) up.0 y.positive (ap (λ (z : ℤ). y.num c *ℤ z) up.1 ∙ sym e) h

agree_less : (c : ℕ) (x y : Point) → Agree c x y → pos 0 <ℤ x.num c → pos 0 <ℤ y.num c
agree_less c x y e h =
    let up = positive_is (x.num one_column) x.positive in
    not_less (y.num c) (x.num c) (unsigned_abs (x.num one_column)) (y.num one_column) up.0 y.positive (ap (λ (z : ℤ). y.num c *ℤ z) up.1 ∙ sym e) h

-- an inside mark's column
in_column : (p : Problem) (at : List Mark) (c : ℕ) → IsCorner p at → IsIn c at → Contains (map place (marks_of (lines p))) c
in_column p at c corner i = contains_each (λ d. Contains (map place (marks_of (lines p))) d) at c (recursion_from_All (λ m. Contains (map place (marks_of (lines p))) (place m)) at corner.marks) i

agree_at : (p : Problem) (at : List Mark) (c : ℕ) (y : Point) → (corner : IsCorner p at) → IsIn c at → StandsAt p at y → Agree c corner.point y
agree_at p at c y corner i stands =
    contains_each (λ d. Agree d corner.point y) (marks_of (lines p)) c (recursion_from_All (λ m. Agree (place m) corner.point y) (marks_of (lines p)) (corner.marks_fixed y stands)) (in_column p at c corner i)

agree_sym : (c : ℕ) (x y : Point) → Agree c x y → Agree c y x
agree_sym c x y e = sym e

-- two points at one corner
pub sign_below : (p : Problem) (at : List Mark) (c : ℕ) (x y : Point) → IsCorner p at → IsIn c at → StandsAt p at x → StandsAt p at y → pos 0 ≤ℤ x.num c → pos 0 ≤ℤ y.num c
sign_below p at c x y corner i sx sy h =
    agree_below c corner.point y (agree_at p at c y corner i sy) (agree_below c x corner.point (agree_sym c corner.point x (agree_at p at c x corner i sx)) h)

sign_less : (p : Problem) (at : List Mark) (c : ℕ) (x y : Point) → IsCorner p at → IsIn c at → StandsAt p at x → StandsAt p at y → pos 0 <ℤ x.num c → pos 0 <ℤ y.num c
sign_less p at c x y corner i sx sy h =
    agree_less c corner.point y (agree_at p at c y corner i sy) (agree_less c x corner.point (agree_sym c corner.point x (agree_at p at c x corner i sx)) h)

zip_moves : (p : Problem) (at : List Mark) (x y : Point) (joined : List Row) (news : List Mark) → IsCorner p at → StandsAt p at x → StandsAt p at y → Each (λ m. IsIn (place m) at) news → AllZip (IsJoined x) joined news → AllZip (IsJoined y) joined news
zip_moves p at x y [] [] corner sx sy a z = tt
zip_moves p at x y [] (m ∷ news) corner sx sy a z = absurd z
zip_moves p at x y (r ∷ joined) [] corner sx sy a z = absurd z
zip_moves p at x y (r ∷ joined) (m ∷ news) corner sx sy a (inl (e, up), z) = (inl (e, sign_below p at (place m) x y corner a.0 sx sy up), zip_moves p at x y joined news corner sx sy a.1 z)
zip_moves p at x y (r ∷ joined) (m ∷ news) corner sx sy a (inr (e, up), z) = (inr (e, sign_less p at (place m) x y corner a.0 sx sy up), zip_moves p at x y joined news corner sx sy a.1 z)

-- ---- values that are not negative

-- a row that joins with one mark more
one_joined : (p : Problem) (at : List Mark) (r : Row) (side : Side) → IsWhole (with_row r p) → AreJoined p at (at ++ (record { row = Held r.id; side = side } ∷ []))
one_joined p at r side whole = record {
  kept = All-from_recursion (λ m. IsIn (place m) (at ++ (record { row = Held r.id; side = side } ∷ []))) at (each-of-all (λ c. IsIn c (at ++ (record { row = Held r.id; side = side } ∷ []))) at (λ c i. old-in at (record { row = Held r.id; side = side }) c i));
  no_other = All-from_recursion (λ m. IsIn (place m) (at ++ (record { row = Held r.id; side = side } ∷ [])) → IsIn (place m) at) (marks_of (lines p))
      (each-of-all (λ c. IsIn c (at ++ (record { row = Held r.id; side = side } ∷ [])) → IsIn c at) (marks_of (lines p))
      (λ c mark i. elim (in-parts at (record { row = Held r.id; side = side }) c i) [
        | inl j ↦ j
        | inr e ↦ absurd (fresh-mark p r c side whole mark e)
      ]));
}

pub values_one : (t u : Lists) (r : Row) → IsWhole (with_row r (problem_of t)) → IsCorner (problem_of t) (marks_at t) → NoNegativeValue (problem_of t) (marks_at t) → IsWithRow r t u → NoNegativeValue (problem_of u) (marks_at u)
values_one t u r whole corner (x, stands, up) w =
    let p : Problem = problem_of t in
    let q : Problem = with_row r p in
    let at : List Mark = marks_at t in
    let joined = mark_is w.point r w.mark w.joined in
    let new : List Mark = at ++ (record { row = Held r.id; side = joined.0 } ∷ []) in
    let same : SameMarks (marks_at u) new = same_trans (marks_at u) (w.mark ∷ at) new w.marks (subst (λ (m : Mark). SameMarks (w.mark ∷ at) (at ++ (m ∷ []))) joined.1 (moved_last at w.mark)) in
    let there : StandsAt q new w.point = stands_there q (marks_at u) new w.point same.0 (subst (λ (z : Problem). StandsAt z (marks_at u) w.point) w.problem w.stands) in
    let before : StandsAt p at w.point = stands_before p r at new w.point (one_joined p at r joined.0 whole) there in
    let old : All (λ m. pos 0 ≤ℤ w.point.num (place m)) at = λ k m lt. sign_below p at (place (slice_index_or at k m)) x w.point corner (self_in at k m lt) stands before (up k m lt) in
    let all : All (λ m. pos 0 ≤ℤ w.point.num (place m)) new = All-push (λ m. pos 0 ≤ℤ w.point.num (place m)) at (record { row = Held r.id; side = joined.0 }) old (subst (λ (m : Mark). pos 0 ≤ℤ w.point.num (place m)) joined.1 (joined_up w.point r w.mark w.joined)) in
    (w.point, w.stands, moved_all (λ m. pos 0 ≤ℤ w.point.num (place m)) new (marks_at u) same all)
  where
    mark_is : (x : Point) (r : Row) (m : Mark) → IsJoined x r m → (s : Side) × (m ≡ record { row = Held r.id; side = s })
    mark_is x r m (inl h) = (Over, h.0)
    mark_is x r m (inr h) = (Under, h.0)

    joined_up : (x : Point) (r : Row) (m : Mark) → IsJoined x r m → pos 0 ≤ℤ x.num (place m)
    joined_up x r m (inl h) = h.1
    joined_up x r m (inr h) = let k = h.1 in omega (arith, ints, k)

-- ---- the path's beginning while rows are still to join

pub record IsBegun (p : Problem) (kept : List Mark) (more rest : List Row) (at : List Mark) (id : ℕ) : Type 0 where
  pub corner : IsCorner p at
  pub news : List Mark
  pub marks : SameMarks at (kept ++ (news ++ map (λ r. over_mark r.id) rest))
  pub point : Point
  pub stands : StandsAt p at point
  pub each : AllZip (IsJoined point) more news
  pub before : All (λ m. IsBefore id m.row → pos 0 ≤ℤ point.num (place m)) at

start_begun : (p : Problem) (kept : List Mark) (more : List Row) (at : List Mark) (id : ℕ) → IsCorner p at → BeginsWith p kept more [] at → NoNegativeValue p at → IsBegun p kept more [] at id
start_begun p kept more at id corner b (x, stands, up) = record {
  corner = corner;
  news = b.news;
  marks = b.marks;
  point = b.point;
  stands = b.stands;
  each = b.each;
  before = λ k m lt earlier. sign_below p at (place (slice_index_or at k m)) x b.point corner (self_in at k m lt) stands b.stands (up k m lt);
}

over_last : (rest : List Row) (r : Row) → map (λ r. over_mark r.id) (rest ++ (r ∷ [])) ≡ map (λ r. over_mark r.id) rest ++ (over_mark r.id ∷ [])
over_last rest r = map_append (λ (x : Row). over_mark x.id) rest r

begun_marks : (at kept news : List Mark) (rest : List Row) (r : Row) → SameMarks at (kept ++ (news ++ map (λ r. over_mark r.id) rest)) → SameMarks (at ++ (over_mark r.id ∷ [])) (kept ++ (news ++ map (λ r. over_mark r.id) (rest ++ (r ∷ []))))
begun_marks at kept news rest r same =
    subst (λ (ms : List Mark). SameMarks (at ++ (over_mark r.id ∷ [])) ms)
    (append_more kept (news ++ map (λ r. over_mark r.id) rest) (over_mark r.id ∷ []) ∙ ap (λ (ms : List Mark). kept ++ ms) (append_more news (map (λ r. over_mark r.id) rest) (over_mark r.id ∷ []) ∙ ap (λ (ms : List Mark). news ++ ms) (sym (over_last rest r))))
    (same_behind at (kept ++ (news ++ map (λ r. over_mark r.id) rest)) (over_mark r.id ∷ []) same)

-- one row more is over
more_begun : (p : Problem) (kept : List Mark) (more rest : List Row) (at : List Mark) (id : ℕ) (r : Row) → IsWhole (with_row r p) → id ≤ r.id → IsBegun p kept more rest at id → IsBegun (with_row r p) kept more (rest ++ (r ∷ [])) (over_joined r at) id
more_begun p kept more rest at id r whole le h =
    let corner = joined_corner p at r whole h.corner in
    let y : Point = corner.point in
    let before : StandsAt p at y = stands_before p r at (over_joined r at) y (one_joined p at r Over whole) corner.stands in
    record {
      corner = corner;
      news = h.news;
      marks = begun_marks at kept h.news rest r h.marks;
      point = y;
      stands = corner.stands;
      each = zip_moves p at h.point y more h.news h.corner h.stands before
          (each-of-all (λ c. IsIn c at) h.news (λ c i. in_by (kept ++ (h.news ++ map (λ r. over_mark r.id) rest)) at c h.marks.1 (in-right c kept (h.news ++ map (λ r. over_mark r.id) rest) (in-left c h.news (map (λ r. over_mark r.id) rest) i)))) h.each;
      before = All-push (λ m. IsBefore id m.row → pos 0 ≤ℤ y.num (place m)) at (over_mark r.id)
          (λ k m lt earlier. sign_below p at (place (slice_index_or at k m)) h.point y h.corner (self_in at k m lt) h.stands before (h.before k m lt earlier))
          (λ earlier. absurd (omega (arith, le, earlier)));
    }

-- all of them are
rest_begun : (p : Problem) (kept : List Mark) (more done rest : List Row) (at : List Mark) (id : ℕ) → IsWhole (with_rows rest p) → Each (λ r. id ≤ r.id) rest → IsBegun p kept more done at id
    → IsBegun (with_rows rest p) kept more (done ++ rest) (at ++ map (λ r. over_mark r.id) rest) id
rest_begun p kept more done [] at id whole later h =
    subst (λ (ms : List Mark). IsBegun (with_rows [] p) kept more (done ++ []) ms id) (sym (append_none at))
    (subst (λ (rows : List Row). IsBegun (with_rows [] p) kept more rows at id) (sym (append_none done))
    (subst (λ (rows : List Row). IsBegun (record { rows = rows; stays = p.stays }) kept more done at id) (sym (append_none p.rows)) h))
rest_begun p kept more done (r ∷ rest) at id whole later h =
    let one = first_whole p r rest whole in
    let all = rest_begun (with_row r p) kept more (done ++ (r ∷ [])) rest (over_joined r at) id (then_rest p.rows r rest p.stays whole) later.1 (more_begun p kept more done at id r one later.0 h) in
    subst (λ (ms : List Mark). IsBegun (with_rows (r ∷ rest) p) kept more (done ++ (r ∷ rest)) ms id) (append_more at (over_mark r.id ∷ []) (map (λ r. over_mark r.id) rest))
    (subst (λ (rows : List Row). IsBegun (with_rows (r ∷ rest) p) kept more rows ((at ++ (over_mark r.id ∷ [])) ++ map (λ r. over_mark r.id) rest) id) (append_more done (r ∷ []) rest)
    (subst (λ (rows : List Row). IsBegun (record { rows = rows; stays = p.stays }) kept more ((done ++ (r ∷ [])) ++ rest) ((at ++ (over_mark r.id ∷ [])) ++ map (λ r. over_mark r.id) rest) id) (append_more p.rows (r ∷ []) rest) all))

-- the order of the marks is free
other_order : (p : Problem) (kept : List Mark) (more rest : List Row) (a b : List Mark) (id : ℕ) → SameMarks b a → AllPairs (λ m n. place m ≢ place n) b → IsBegun p kept more rest a id → IsBegun p kept more rest b id
other_order p kept more rest a b id same apart h = record {
  corner = same_corner p a b (same_sym b a same) apart h.corner;
  news = h.news;
  marks = same_trans b a (kept ++ (h.news ++ map (λ r. over_mark r.id) rest)) same h.marks;
  point = h.point;
  stands = stands_there p a b h.point same.1 h.stands;
  each = h.each;
  before = moved_all (λ m. IsBefore id m.row → pos 0 ≤ℤ h.point.num (place m)) a b same h.before;
}

pub begun_over : (t : Lists) (kept : List Mark) (more rest : List Row) (id : ℕ) → AreSlots t → IsWhole (with_rows rest (problem_of t)) → Each (λ r. id ≤ r.id) rest → IsCorner (problem_of t) (marks_at t) → BeginsWith (problem_of t) kept more [] (marks_at t) → NoNegativeValue (problem_of t) (marks_at t)
    → IsBegun (with_rows rest (problem_of t)) kept more rest (marks_over t rest) id
begun_over t kept more rest id slots whole later corner b values =
    other_order (with_rows rest (problem_of t)) kept more rest (marks_at t ++ map (λ r. over_mark r.id) rest) (marks_over t rest) id (over_same t rest) (over_apart rest t slots whole)
    (rest_begun (problem_of t) kept more [] rest (marks_at t) id whole later (start_begun (problem_of t) kept more (marks_at t) id corner b values))

pub begun_begins : (p : Problem) (kept : List Mark) (more rest : List Row) (at : List Mark) (id : ℕ) → IsBegun p kept more rest at id → BeginsWith p kept more rest at
begun_begins p kept more rest at id h = record { news = h.news; marks = h.marks; point = h.point; stands = h.stands; each = h.each }

-- the sum of its terms doesn't fit there either
pub terms_over : (t : Lists) (r : Row) (rest : List Row) (mark : Mark) (j : ℕ) → IsWhole (with_rows (r ∷ rest) (problem_of t)) → IsCorner (with_rows (r ∷ rest) (problem_of t)) (marks_over t (r ∷ rest)) → IsUnfitTerms (with_row r (problem_of t)) (over_joined r (marks_at t)) mark j
    → IsUnfitTerms (with_rows (r ∷ rest) (problem_of t)) (marks_over t (r ∷ rest)) mark j
terms_over t r rest mark j whole corner unfit =
    let p : Problem = problem_of t in
    let at : List Mark = marks_over t (r ∷ rest) in
    let same = over_same t (r ∷ rest) in
    let e : (p.rows ++ (r ∷ [])) ++ rest ≡ p.rows ++ (r ∷ rest) = append_more p.rows (r ∷ []) rest in
    let over : Each (λ m. IsIn (place m) at) (marks_at t ++ map (λ r. over_mark r.id) (r ∷ rest)) = recursion_from_All (λ m. IsIn (place m) at) (marks_at t ++ map (λ r. over_mark r.id) (r ∷ rest)) same.1 in
    let split = each_split (λ m. IsIn (place m) at) (marks_at t) (map (λ r. over_mark r.id) (r ∷ rest)) over in
    subst (λ (rows : List Row). IsUnfitTerms (record { rows = rows; stays = p.stays }) at mark j) e
    (terms_lift (with_row r p) rest (over_joined r (marks_at t)) at mark j (then_rest p.rows r rest p.stays whole) (subst (λ (rows : List Row). IsCorner (record { rows = rows; stays = p.stays }) at) (sym e) corner)
    (All-push (λ m. IsIn (place m) at) (marks_at t) (over_mark r.id) (All-from_recursion (λ m. IsIn (place m) at) (marks_at t) split.0) split.1.0)
    (All-from_recursion (λ (s : Row). IsIn (place (over_mark s.id)) at) rest (each_map (λ m. IsIn (place m) at) rest split.1.1)) unfit)
  where
    each_split : (P : Mark → Type 0) (xs ys : List Mark) → Each P (xs ++ ys) → Each P xs × Each P ys
    each_split P [] ys h = (tt, h)
    each_split P (x ∷ xs) ys h = let s = each_split P xs ys h.1 in ((h.0, s.0), s.1)

    each_map : (P : Mark → Type 0) (rows : List Row) → Each P (map (λ r. over_mark r.id) rows) → Each (λ (s : Row). P (over_mark s.id)) rows
    each_map P [] h = tt
    each_map P (s ∷ rows) h = (h.0, each_map P rows h.1)

-- ---- the stop

later_ids : (xs : List Row) (r : Row) (rest : List Row) → AllPairs (λ r s. r.id < s.id) (xs ++ (r ∷ rest)) → Each (λ (s : Row). r.id ≤ s.id) (r ∷ rest)
later_ids [] r rest h = (omega arith, each-impl (λ (s : Row). r.id < s.id) (λ (s : Row). r.id ≤ s.id) rest (λ s lt. omega (arith, lt)) (recursion_from_All (λ (s : Row). r.id < s.id) rest (head_pairs (λ (a b : Row). a.id < b.id) r rest h)))
later_ids (x ∷ xs) r rest h = later_ids xs r rest (tail_pairs (λ (a b : Row). a.id < b.id) x (xs ++ (r ∷ rest)) h)

-- what is known where the row does not join
pub record IsStopped (t0 t : Lists) (rows more : List Row) (r : Row) (rest : List Row) : Type 0 where
  pub parts : more ++ (r ∷ rest) ≡ rows
  pub whole : IsWhole (with_rows rows (problem_of t0))
  pub lists : ArePushed more t0 t
  pub kept : IsPartlyKept t
  pub begins : BeginsWith (problem_of t) (marks_at t0) more [] (marks_at t)
  pub values : NoNegativeValue (problem_of t) (marks_at t)

pub all_problem : (t0 t : Lists) (rows more : List Row) (r : Row) (rest : List Row) → IsStopped t0 t rows more r rest → with_rows (r ∷ rest) (problem_of t) ≡ with_rows rows (problem_of t0)
all_problem t0 t rows more r rest s =
    ap (λ (p : Problem). with_rows (r ∷ rest) p) (problem_so_far more t0 t s.lists)
    ∙ ap (λ (x : List Row). record { rows = x; stays = t0.stays }) (append_more t0.rows more (r ∷ rest) ∙ ap (λ (x : List Row). t0.rows ++ x) s.parts)

pub stop_whole : (t0 t : Lists) (rows more : List Row) (r : Row) (rest : List Row) → IsStopped t0 t rows more r rest → IsWhole (with_rows (r ∷ rest) (problem_of t))
stop_whole t0 t rows more r rest s = subst IsWhole (sym (all_problem t0 t rows more r rest s)) s.whole

pub stop_begun : (t0 t : Lists) (rows more : List Row) (r : Row) (rest : List Row) → (s : IsStopped t0 t rows more r rest) → IsBegun (with_rows (r ∷ rest) (problem_of t)) (marks_at t0) more (r ∷ rest) (marks_over t (r ∷ rest)) r.id
stop_begun t0 t rows more r rest s =
    let whole = stop_whole t0 t rows more r rest s in
    begun_over t (marks_at t0) more (r ∷ rest) r.id s.kept.slots whole (later_ids t.rows r rest whole.rising) s.kept.corner s.begins s.values

stop_old : (t0 t : Lists) (rows more : List Row) (r : Row) (rest : List Row) (mark : Mark) → IsStopped t0 t rows more r rest → mark ≡ over_mark r.id → All (λ (x : Row). Held x.id ≢ mark.row) t0.rows
stop_old t0 t rows more r rest mark s e k x lt same =
    let whole = stop_whole t0 t rows more r rest s in
    other_name (problem_of t) r (Held (slice_index_or t0.rows k x).id) (first_whole (problem_of t) r rest whole)
    (named_so_far more t0 t (Held (slice_index_or t0.rows k x).id) s.lists (row_named (problem_of t0) k (slice_index_or t0.rows k x) lt (get_or_default t0.rows k (slice_index_or t0.rows k x) x lt)))
    (same ∙ ap (λ (m : Mark). m.row) e)

unfit_path : (t0 t : Lists) (rows more : List Row) (r : Row) (rest : List Row) (quantity : Quantity) → IsStopped t0 t rows more r rest → IsTermsStop t r (Refused quantity)
    → IsAddStop (seen_of t0) rows (Unfit (record { path = record { dual = false; corner = marks_over t (r ∷ rest); swaps = [] }; quantity = quantity }))
unfit_path t0 t rows more r rest (Plain what) s h = absurd h
unfit_path t0 t rows more r rest (Rows level j) s h = absurd h
unfit_path t0 t rows more r rest (Shifts what j) s h = absurd h
unfit_path t0 t rows more r rest (Terms mark j) s (e, unfit) =
    let p : Problem = with_rows (r ∷ rest) (problem_of t) in
    let q : Problem = with_rows rows (problem_of t0) in
    let same : p ≡ q = all_problem t0 t rows more r rest s in
    let at : List Mark = marks_over t (r ∷ rest) in
    let whole = stop_whole t0 t rows more r rest s in
    let begun : IsBegun q (marks_at t0) more (r ∷ rest) at r.id = subst (λ (x : Problem). IsBegun x (marks_at t0) more (r ∷ rest) at r.id) same (stop_begun t0 t rows more r rest s) in
    let ordered : at ≡ in_order q at = subst (λ (x : Problem). at ≡ in_order x at) same (over_ordered (r ∷ rest) t s.kept.slots whole) in
    let terms : IsUnfitTerms q at mark j = subst (λ (x : Problem). IsUnfitTerms x at mark j) same (terms_over t r rest mark j whole (stop_begun t0 t rows more r rest s).corner unfit) in (
      tt,
      (
        refl,
        omega arith,
        (
          refl,
          refl,
          begun.corner,
          (r, rest, (more, s.parts, begun_begins q (marks_at t0) more (r ∷ rest) at r.id begun, ordered), e, (begun.point, begun.stands, begun.before)),
          (terms, stop_old t0 t rows more r rest mark s e),
        ),
      ),
    )

pub add_stop : (t0 t u : Lists) (rows more : List Row) (r : Row) (rest : List Row) (stop : TableStop) (result : RunStop) → IsStopped t0 t rows more r rest → IsTermsStop t r stop → AreAsBefore t u stop → IsPathStop u (r ∷ rest) stop result → IsAddStop (seen_of t0) rows result
add_stop t0 t u rows more r rest stop (Conflict by) s h same path = absurd path
add_stop t0 t u rows more r rest stop (Spent p) s h same path = absurd path
add_stop t0 t u rows more r rest stop OutOfMemory s h same path = tt
add_stop t0 t u rows more r rest stop (Unfit at) s h same path =
    let before : u ≡ t = subst (AreAsBefore t u) path.0 same in
    let made : at.path ≡ record { dual = false; corner = marks_over t (r ∷ rest); swaps = [] } = path.1 ∙ ap (λ (l : Lists). record { dual = false; corner = marks_over l (r ∷ rest); swaps = [] }) before in
    subst (λ x. IsAddStop (seen_of t0) rows (Unfit (record { path = x; quantity = at.quantity }))) (sym made)
    (unfit_path t0 t rows more r rest at.quantity s (subst (IsTermsStop t r) path.0 h))

-- ---- the loop

pub loop_whole : (t0 t : Lists) (rows : List Row) (i : ℕ) (r : Row) → ArePushed (take i rows) t0 t → IsWhole (with_rows rows (problem_of t0)) → i < length rows → drop i rows ≡ r ∷ drop (i + 1) rows → IsWhole (with_row r (problem_of t))
loop_whole t0 t rows i r h whole lt e =
    let parts : take i rows ++ (r ∷ drop (i + 1) rows) ≡ rows = ap (λ (x : List Row). take i rows ++ x) (sym e) ∙ take_drop rows i in
    let all : with_rows (r ∷ drop (i + 1) rows) (problem_of t) ≡ with_rows rows (problem_of t0) =
    ap (λ (p : Problem). with_rows (r ∷ drop (i + 1) rows) p) (problem_so_far (take i rows) t0 t h)
    ∙ ap (λ (x : List Row). record { rows = x; stays = t0.stays }) (append_more t0.rows (take i rows) (r ∷ drop (i + 1) rows) ∙ ap (λ (x : List Row). t0.rows ++ x) parts) in
    first_whole (problem_of t) r (drop (i + 1) rows) (subst IsWhole (sym all) whole)

pub this_row : (rows : List Row) (i : ℕ) (r : Row) → i < length rows → r ≡ slice_index_or rows i r → drop i rows ≡ r ∷ drop (i + 1) rows
this_row rows i r lt e = drop_next rows i r lt ∙ ap (λ (x : Row). x ∷ drop (i + 1) rows) (sym e)

pub rest_rows : (rows : List Row) (i : ℕ) (r : Row) → i < length rows → r ≡ slice_index_or rows i r → take (length rows - i) (drop i rows) ≡ r ∷ drop (i + 1) rows
rest_rows rows i r lt e = take_all (drop i rows) (length rows - i) (sym (length-drop i rows)) ∙ this_row rows i r lt e

pub next_rows : (rows : List Row) (i : ℕ) (r : Row) → i < length rows → r ≡ slice_index_or rows i r → take i rows ++ (r ∷ []) ≡ take (i + 1) rows
next_rows rows i r lt e = ap (λ (x : Row). take i rows ++ (x ∷ [])) e ∙ sym (take_next rows i r lt)

pub stopped : (t0 t : Lists) (rows : List Row) (i : ℕ) (r : Row) → ArePushed (take i rows) t0 t → IsWhole (with_rows rows (problem_of t0)) → i < length rows → r ≡ slice_index_or rows i r
    → IsPartlyKept t → BeginsWith (problem_of t) (marks_at t0) (take i rows) [] (marks_at t) → NoNegativeValue (problem_of t) (marks_at t) → IsStopped t0 t rows (take i rows) r (drop (i + 1) rows)
stopped t0 t rows i r lists whole lt e kept begins values = record {
  parts = ap (λ (x : List Row). take i rows ++ x) (sym (this_row rows i r lt e)) ∙ take_drop rows i;
  whole = whole;
  lists = lists;
  kept = kept;
  begins = begins;
  values = values;
}
