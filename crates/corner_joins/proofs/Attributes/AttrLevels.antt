-- What the levels keep when an attribute joins, and all of it.
use Rattle.std.proofs.Common.{◌≡◌, ◌∙◌, ℕ, ◌+◌, ◌*◌, ◌/◌, ◌<◌, ◌++◌, cond, nat_eq, List, [], ◌∷◌, length, refl, sym, ap, subst, arith, inl, inr, ℤ, pos, neg_ℤ, ◌+ℤ◌, ◌*ℤ◌, ◌-ℤ◌, slice_index_or, All}
use Rattle.std.proofs.lemmas.List.{get_or_default, get_or_push, get_or_past, length_push}
use Rattle.std.proofs.lemmas.Bool.{cases_lt}
use Rattle.std.proofs.lemmas.Bool.Decides.{eqb_tells}
use Rattle.corner_joins.proofs.Attributes.AttrJoins.{attr_place, count_two, old_slot}
use Rattle.corner_view.specs.declared.types.Owner.{Owner}
use Rattle.corner_table.specs.Tables.{slot_at}
use Rattle.corner_view.specs.declared.types.Owner.TheVariants.{Level as LevelSlot, Attr as AttrSlot, Line as LineSlot}
use Rattle.std.proofs.lemmas.List.Elements.{All-push}
use Rattle.std.proofs.Math.ListN.{get_or-append}
use Rattle.frac_core.specs.Fraction.{Fraction, IsFitting}
use Rattle.frac_core.specs.Fraction as fractions
use Rattle.row_core.specs.Rows.{IsKeptRow, Term, coefficient}
use Rattle.problem_core.specs.declared.parts.Mark.{Mark}
use Rattle.problem_core.specs.declared.parts.Side.{Side}
use Rattle.problem_core.specs.declared.parts.Side.TheVariants.{Under, Over}
use Rattle.problem_core.specs.declared.parts.Stay.{Stay}
use Rattle.problem_core.specs.declared.parts.RowName.TheVariants.{Stay as StayOf}
use Rattle.problem_core.specs.Layout.{HasStay, Line, Problem, Row, lines, product_of, sum_of}
use Rattle.problem_core.specs.Kept.{IsNumber}
use Rattle.problem_core.specs.Corners.{IsCorner, IsIn, Point, one_column, place_of}
use Rattle.problem_core.specs.Rays.{HasRays}
use Rattle.problem_core.specs.Levels.{IsCostAt, cost_at, line_cost, scales}
use Rattle.corner_laws.specs.Units.{AreFittingThere, IsLevelRow, IsLevelUnit, IsReducedBy, over_share, under_share}
use Rattle.corner_laws.proofs.PathEnds.Ends.{decided}
use Rattle.corner_laws.proofs.LevelCosts.LevelSizes.{level_fits}
use Rattle.corner_lines.specs.LineEquations.{IsOutsideLine}
use Rattle.corner_lines.specs.Levels.LevelRows.{HasLevelRow}
use Rattle.corner_lines.specs.Joins.{new_stay, with_attr}
use Rattle.corner_lines.proofs.FrontsStay.{new_stay_leaves_levels}
use Rattle.corner_lines.proofs.Costs.LevelFits.{reduced-by, reduced_by}
use Rattle.corner_lines.proofs.Costs.LevelPlaces.{cost_everywhere}
use Rattle.corner_lines.proofs.LevelRows.LevelSound.{whole_is_sound}
use Rattle.corner_table.proofs.Basics.StayCosts.{free_stay}
use Rattle.corner_lines.proofs.ProblemChanges.NewStays.{attr_corner, attr_rays, stands-before as stands_before}
use Rattle.corner_table.specs.declared.table.Priority.{Priority}
use Rattle.corner_table.specs.declared.table.Slot.{Slot}
use Rattle.corner_table.specs.declared.table.Standing.{Standing}
use Rattle.corner_table.specs.declared.table.TheConstants.{LEVELS}
use Rattle.corner_view.specs.Seen.{IsNamed}
use Rattle.corner_table.specs.Tables.{Lists, entry, line_slot, marks_at, number, priority_at, problem_of, row_at, standing_at, stands_in}
use Rattle.corner_table.specs.Kept.{AreStored, HasLevelNumbers, HasStayRoom, IsAttrRow, IsKept, IsLevelKept, IsLineRow}
use Rattle.corner_table.specs.Joining.{IsWithAttr, at_value, at_zero, slot_of_attr, slot_of_stay}
use Rattle.corner_table.proofs.Readings.KeptFacts.{row_kept, zero_kept}
use Rattle.corner_table.proofs.Readings.MarkFacts.{inside_stands}
use Rattle.corner_table.proofs.Readings.SlotFacts.{named_slot, named_stay}
use Rattle.corner_joins.proofs.Attributes.AttrJoins.{IsJoin, joined, joined_whole, lines_more, marks_joined, named_by, new_attr_row, new_kept_line, new_line, new_outside, no_number, old_attr_row, old_kept_line, old_number, old_row, old_standing, outside_joined, put_line, slots_joined, stay_here}
use Rattle.corner_table.proofs.Basics.SmallFacts.{own_name, own_stay}
use Rattle.frac_core.proofs.Fitting.{zero-fits as zero_fits}
use Rattle.frac_core.proofs.Bools.{not-both as not_both}
use Rattle.corner_table.proofs.Basics.OwnerFacts.{stay_named}

-- ---- levels

each_front : (P : Line → Type 0) (xs : List Line) (y : Line) → All P (xs ++ (y ∷ [])) → All P xs
each_front P xs y h k x lt = subst P (get_or-append xs (y ∷ []) x k lt) (h k x (omega (arith, lt, length_push xs y)))

pub each_old : (P : Line → Type 0) (p : Problem) (attr : ℕ) (target : Fraction) → All P (lines (with_attr attr target p)) → All P (lines p)
each_old P p attr target h = each_front P (lines p) (new_line p attr target) (subst (All P) (lines_more p attr target) h)

last_of : (P : Line → Type 0) (xs : List Line) (y : Line) → All P (xs ++ (y ∷ [])) → P y
last_of P xs y h = subst P (get_or_push xs y y (length xs) refl) (h (length xs) y (omega (arith, length_push xs y)))

pub each_new : (P : Line → Type 0) (p : Problem) (attr : ℕ) (target : Fraction) → All P (lines (with_attr attr target p)) → P (new_line p attr target)
each_new P p attr target h = last_of P (lines p) (new_line p attr target) (subst (All P) (lines_more p attr target) h)

stay_is_out : (t : Lists) (attr : ℕ) (target : Fraction) (m : List (List Term)) (a : List ℕ) (side : Side) → IsJoin t attr target m a → IsIn (place_of (StayOf attr) side) (marks_at t) → ⊥
stay_is_out t attr target m a side j i =
    let mark : Mark = record { row = StayOf attr; side = side } in
    not_both (stands_in (joined t attr target m a) mark) (inside_stands (joined t attr target m a) mark (subst (λ (ms : List Mark). IsIn (place_of (StayOf attr) side) ms) (sym (marks_joined t attr target m a j)) i)) (new_outside t attr target m a side j)

-- the level's row without the new stay, by the numbers of now
level_before : (t : Lists) (attr : ℕ) (target : Fraction) (m : List (List Term)) (a : List ℕ) (k unit own : ℕ) → IsJoin t attr target m a → k < length t.slots → HasLevelNumbers t k unit own → HasLevelRow (problem_of t) (marks_at t) k unit own (number (joined t attr target m a) k)
level_before t attr target m a k unit own j lt n = record {
  by = n.by;
  row = n.row;
  outside = λ i x within out. n.outside i x within out ∙ sym (old_number t attr target m a k (slice_index_or (lines (problem_of t)) i x).name j lt (own_name (lines (problem_of t)) i x within));
}

level_after : (t : Lists) (attr : ℕ) (target : Fraction) (m : List (List Term)) (a : List ℕ) (k unit own : ℕ) → IsJoin t attr target m a → k < LEVELS → IsLevelUnit (problem_of t) k unit → HasLevelNumbers t k unit own
    → IsLevelUnit (with_attr attr target (problem_of t)) k unit × HasLevelRow (with_attr attr target (problem_of t)) (marks_at t) k unit own (number (joined t attr target m a) k)
level_after t attr target m a k unit own j lt least n =
    let below : k < length t.slots = omega (arith, lt, j.kept.slots.levels) in
    new_stay_leaves_levels (problem_of t) (new_stay attr target) (marks_at t) k unit own (number (joined t attr target m a) k)
    (λ i x within e. j.fresh (named_stay (problem_of t) attr (subst (IsNamed (problem_of t)) e (own_name (lines (problem_of t)) i x within))))
    (record { under = stay_is_out t attr target m a Under j; over = stay_is_out t attr target m a Over j })
    (λ e. absurd (omega (arith, lt, e)))
    (no_number t attr target m a k j below) least (level_before t attr target m a k unit own j below n)

-- each line before has the number that it had
number_same : (t : Lists) (attr : ℕ) (target : Fraction) (m : List (List Term)) (a : List ℕ) (k unit own : ℕ) → IsJoin t attr target m a → k < length t.slots → (n : HasLevelNumbers t k unit own) (r : HasLevelRow (with_attr attr target (problem_of t)) (marks_at t) k unit own (number (joined t attr target m a) k))
    → All (λ l. r.by l.name ≡ n.by l.name) (lines (problem_of t))
number_same t attr target m a k unit own j lt n r i x within =
    let l : Line = slice_index_or (lines (problem_of t)) i x in
    let under = each_old (λ l. IsIn (place_of l.name Under) (marks_at t) → r.by l.name ≡ pos (own * under_share unit k l)) (problem_of t) attr target r.row.under i x within in
    let over = each_old (λ l. IsIn (place_of l.name Over) (marks_at t) → r.by l.name ≡ neg_ℤ (pos (own * over_share unit k l))) (problem_of t) attr target r.row.over i x within in
    let outside = each_old (λ l. IsOutsideLine (marks_at t) l.name → r.by l.name ≡ number (joined t attr target m a) k l.name) (problem_of t) attr target r.outside i x within in
    elim (decided (marks_at t) (record { row = l.name; side = Under })) [
      | inl u ↦ under u ∙ sym (n.row.under i x within u)
      | inr nu ↦
          elim (decided (marks_at t) (record { row = l.name; side = Over })) [
            | inl o ↦ over o ∙ sym (n.row.over i x within o)
            | inr none ↦ outside (record { under = nu; over = none }) ∙ old_number t attr target m a k l.name j lt (own_name (lines (problem_of t)) i x within) ∙ sym (n.outside i x within (record { under = nu; over = none }))
          ]
    ]

level_numbers : (t : Lists) (attr : ℕ) (target : Fraction) (m : List (List Term)) (a : List ℕ) (k unit own : ℕ) → IsJoin t attr target m a → k < LEVELS → HasLevelNumbers t k unit own
    → HasLevelRow (with_attr attr target (problem_of t)) (marks_at t) k unit own (number (joined t attr target m a) k) → HasLevelNumbers (joined t attr target m a) k unit own
level_numbers t attr target m a k unit own j lt n r =
    let p : Problem = problem_of t in
    let q : Problem = with_attr attr target p in
    let below : k < length t.slots = omega (arith, lt, j.kept.slots.levels) in
    let left : IsReducedBy q k unit own r.by (reduced_by q k unit own r.by) = reduced-by q k unit own r.by (whole_is_sound q (joined_whole t attr target m a j)) in
    let same : All (λ l. r.by l.name ≡ n.by l.name) (lines p) = number_same t attr target m a k unit own j below n r in
    let under = each_old (λ l. reduced_by q k unit own r.by (place_of l.name Under) ≡ pos (own * under_share unit k l) -ℤ r.by l.name) p attr target left.under in
    let over = each_old (λ l. reduced_by q k unit own r.by (place_of l.name Over) ≡ pos (own * over_share unit k l) +ℤ r.by l.name) p attr target left.over in
    let there : AreFittingThere q (marks_at t) k (own * unit) r.by (reduced_by q k unit own r.by) =
    record {
      scale_fits = n.fits.scale_fits;
      outside_fit = put_line (λ l. (IsIn (place_of l.name Under) (marks_at t) → ⊥) → (IsIn (place_of l.name Over) (marks_at t) → ⊥) → IsFitting (r.by l.name)) p attr target
          (λ i x within u o. subst IsFitting (sym (same i x within)) (n.fits.times_fit i x within))
          (λ u o. zero_fits (r.by (StayOf attr)) (each_new (λ l. IsOutsideLine (marks_at t) l.name → r.by l.name ≡ number (joined t attr target m a) k l.name) p attr target r.outside (record { under = u; over = o }) ∙ no_number t attr target m a k j below));
      own_fit = put_line (λ l. l.level ≡ k → IsFitting (reduced_by q k unit own r.by (place_of l.name Under)) × IsFitting (reduced_by q k unit own r.by (place_of l.name Over))) p attr target
          (λ i x within e. (
            subst IsFitting (sym (under i x within ∙ ap (λ (z : ℤ). pos (own * under_share unit k (slice_index_or (lines p) i x)) -ℤ z) (same i x within) ∙ sym (n.reduced_by.under i x within))) (n.fits.reduced_fit Under i x within),
            subst IsFitting (sym (over i x within ∙ ap (λ (z : ℤ). pos (own * over_share unit k (slice_index_or (lines p) i x)) +ℤ z) (same i x within) ∙ sym (n.reduced_by.over i x within))) (n.fits.reduced_fit Over i x within),
          ))
          (λ e. absurd (omega (arith, e, lt)));
    } in
    let ms : marks_at t ≡ marks_at (joined t attr target m a) = sym (marks_joined t attr target m a j) in
    record {
      by = r.by;
      reduced = reduced_by q k unit own r.by;
      row = subst (λ (at : List Mark). IsLevelRow q at k unit own r.by) ms r.row;
      outside = λ i x within out. r.outside i x within (subst (λ (at : List Mark). IsOutsideLine at (slice_index_or (lines q) i x).name) (sym ms) out);
      reduced_by = left;
      fits = level_fits q (marks_at t) k unit own r.by (reduced_by q k unit own r.by) r.row left there;
    }

-- ---- costs

product_push : (f : Line → ℕ) (xs : List Line) (y : Line) → f y ≡ 1 → product_of f (xs ++ (y ∷ [])) ≡ product_of f xs
product_push f [] y e = omega (arith, e)
product_push f (x ∷ xs) y e = ap (λ (n : ℕ). f x * n) (product_push f xs y e)

pub sum_push : (f : Line → ℤ) (xs : List Line) (y : Line) → f y ≡ pos 0 → sum_of f (xs ++ (y ∷ [])) ≡ sum_of f xs
sum_push f [] y e = ap (λ (z : ℤ). z +ℤ pos 0) e
sum_push f (x ∷ xs) y e = ap (λ (z : ℤ). f x +ℤ z) (sum_push f xs y e)

same_scales : (p : Problem) (attr : ℕ) (target : Fraction) → scales (with_attr attr target p) ≡ scales p
same_scales p attr target = ap (product_of (λ (l : Line). l.scale)) (lines_more p attr target) ∙ product_push (λ (l : Line). l.scale) (lines p) (new_line p attr target) refl

same_cost : (p : Problem) (attr : ℕ) (target : Fraction) (k : ℕ) (x : ℕ → ℤ) → k < LEVELS → cost_at (with_attr attr target p) k x ≡ cost_at p k x
same_cost p attr target k x lt =
    ap (λ (q : ℕ). sum_of (λ l. pos (q / l.scale) *ℤ line_cost k x l) (lines (with_attr attr target p))) (same_scales p attr target)
    ∙ ap (sum_of (λ (l : Line). pos (scales p / l.scale) *ℤ line_cost k x l)) (lines_more p attr target)
    ∙ sum_push (λ l. pos (scales p / l.scale) *ℤ line_cost k x l) (lines p) (new_line p attr target) (free_stay (scales p / 1) k (1001 + length p.stays) attr target x (λ e. absurd (omega (arith, e, lt))))

cost_joined : (t : Lists) (attr : ℕ) (target : Fraction) (m : List (List Term)) (a : List ℕ) (k : ℕ) (f : Fraction) → IsJoin t attr target m a → k < LEVELS → IsCostAt (problem_of t) (marks_at t) k f → IsCostAt (with_attr attr target (problem_of t)) (marks_at t) k f
cost_joined t attr target m a k f j lt cost =
    let p : Problem = problem_of t in
    let corner : IsCorner (with_attr attr target p) (marks_at t) = attr_corner p (marks_at t) attr target j.kept.whole j.is_number j.fresh j.value.lowest.above j.kept.corner in
    let y : Point = corner.point in
    let same = cost_everywhere p (marks_at t) k f y j.kept.corner cost (stands_before p (marks_at t) attr target y corner.stands) in
    (y, corner.stands, ap (λ (z : ℤ). z *ℤ pos f.den) (same_cost p attr target k y.num lt) ∙ same ∙ ap (λ (q : ℕ). f.num *ℤ (pos q *ℤ y.num one_column)) (sym (same_scales p attr target)))

level_joined : (t : Lists) (attr : ℕ) (target : Fraction) (m : List (List Term)) (a : List ℕ) (k : ℕ) → IsJoin t attr target m a → k < LEVELS → IsLevelKept t k → IsLevelKept (joined t attr target m a) k
level_joined t attr target m a k j lt l =
    let below : k < length t.slots = omega (arith, lt, j.kept.slots.levels) in
    let row = old_row t attr target m a k j below in
    let law = level_after t attr target m a k l.unit l.own j lt l.least l.numbers in
    record {
      unit = l.unit;
      own = l.own;
      unit_is = l.unit_is;
      own_is = ap (λ (r : List Term). cond (nat_eq (priority_at t k).rows 0) (pos 1) (coefficient k r)) row ∙ l.own_is;
      rows = l.rows;
      empty = λ e. row ∙ l.empty e;
      least = law.0;
      numbers = level_numbers t attr target m a k l.unit l.own j lt l.numbers law.1;
      cost = subst (λ (at : List Mark). IsCostAt (with_attr attr target (problem_of t)) at k (standing_at (joined t attr target m a) k).value) (sym (marks_joined t attr target m a j))
          (subst (λ (s : Standing). IsCostAt (with_attr attr target (problem_of t)) (marks_at t) k s.value) (sym (old_standing t attr target m a k j.kept.slots below)) (cost_joined t attr target m a k (standing_at t k).value j lt l.cost));
    }

-- ---- stays' levels

room_kept : (t : Lists) (attr : ℕ) (target : Fraction) (m : List (List Term)) (a : List ℕ) (s : Stay) → IsJoin t attr target m a → HasStay t.stays s.attr → HasStayRoom t s → HasStayRoom (joined t attr target m a) s
room_kept t attr target m a s j has room =
    let named = stay_named (problem_of t) s.attr has in
    let slot = named_slot t (StayOf s.attr) j.kept.slots named in
    let same : entry (joined t attr target m a) (line_slot (joined t attr target m a) (StayOf s.attr)) (line_slot (joined t attr target m a) (StayOf s.attr)) ≡ entry t (line_slot t (StayOf s.attr)) (line_slot t (StayOf s.attr)) =
    ap (λ (w : ℕ). entry (joined t attr target m a) w w) (named_by t attr target m a (StayOf s.attr) j named) ∙ ap (coefficient (line_slot t (StayOf s.attr))) (old_row t attr target m a (line_slot t (StayOf s.attr)) j slot.1) in
    subst (λ (z : ℤ). IsFitting (pos 2 *ℤ z)) (sym same) room

new_room : (t : Lists) (attr : ℕ) (target : Fraction) (m : List (List Term)) (a : List ℕ) → IsJoin t attr target m a → HasStayRoom (joined t attr target m a) (new_stay attr target)
new_room t attr target m a j =
    let none : row_at (joined t attr target m a) (length t.slots + 1) ≡ [] = j.others (length t.slots + 1) (λ e. absurd (omega (arith, e))) ∙ get_or_past t.matrix (length t.slots + 1) [] (omega (arith, j.kept.slots.matrix)) in
    let zero_here : entry (joined t attr target m a) (line_slot (joined t attr target m a) (StayOf attr)) (line_slot (joined t attr target m a) (StayOf attr)) ≡ pos 0 =
    ap (λ (w : ℕ). entry (joined t attr target m a) w w) (stay_here t attr target m a j) ∙ ap (coefficient (length t.slots + 1)) none in
    subst (λ (z : ℤ). IsFitting (pos 2 *ℤ z)) (sym zero_here) (omega arith)

-- ---- all of it

rows_joined : (t : Lists) (attr : ℕ) (target : Fraction) (m : List (List Term)) (a : List ℕ) → IsJoin t attr target m a → All IsKeptRow m
rows_joined t attr target m a j i d lt = subst IsKeptRow (get_or_default m i [] d lt) (elim (eqb_tells i (length t.slots)) [
  | inl (e, same) ↦ subst (λ n. IsKeptRow (slice_index_or m n [])) (sym same) j.own_kept
  | inr (e, other) ↦ subst IsKeptRow (sym (j.others i other)) (row_kept t i j.kept)
])

stored_joined : (t : Lists) (attr : ℕ) (target : Fraction) (m : List (List Term)) (a : List ℕ) → IsJoin t attr target m a → AreStored (joined t attr target m a)
stored_joined t attr target m a j =
    let n = count_two t.slots (slot_of_attr attr (length t.slots)) (slot_of_stay attr (length t.slots + 1)) in
    record {
      few = omega (arith, n, j.room);
      empty = λ w high free. elim (eqb_tells w (length t.slots)) [
        | inl (e, same) ↦ absurd (of_attr attr (sym (ap (λ (x : Slot). x.owner) (ap (slot_at (joined t attr target m a)) same ∙ attr_place t attr target m a)) ∙ free))
        | inr (e, other) ↦ j.others w other ∙ elim (cases_lt w (length t.slots)) [
          | inl lt ↦ j.kept.stored.empty w high (sym (ap (λ (x : Slot). x.owner) (old_slot t attr target m a w lt)) ∙ free)
          | inr past ↦ get_or_past t.matrix w [] (omega (arith, past, j.kept.slots.matrix))
        ]
      ];
    }
  where
    is_attr : Owner → Type 0
    is_attr LevelSlot = ⊥
    is_attr (AttrSlot b) = Unit {0}
    is_attr (LineSlot name) = ⊥

    of_attr : (b : ℕ) → AttrSlot b ≡ LevelSlot → ⊥
    of_attr b e = subst is_attr e tt

pub kept_joined : (t : Lists) (attr : ℕ) (target : Fraction) (m : List (List Term)) (a : List ℕ) → IsJoin t attr target m a → IsKept (joined t attr target m a)
kept_joined t attr target m a j =
    let p : Problem = problem_of t in
    let ms : marks_at t ≡ marks_at (joined t attr target m a) = sym (marks_joined t attr target m a j) in
    let k = j.kept in
    record {
      whole = joined_whole t attr target m a j;
      corner = subst (IsCorner (with_attr attr target p)) ms (attr_corner p (marks_at t) attr target k.whole j.is_number j.fresh j.value.lowest.above k.corner);
      rays = subst (HasRays (with_attr attr target p)) ms (attr_rays p (marks_at t) attr target k.whole j.is_number j.fresh j.value.lowest.above k.rays);
      slots = slots_joined t attr target m a j;
      stored = stored_joined t attr target m a j;
      matrix = rows_joined t attr target m a j;
      values = All-push (λ (s : Standing). fractions.IsKept s.value) (t.standings ++ (at_value target ∷ [])) at_zero
          (All-push (λ (s : Standing). fractions.IsKept s.value) t.standings (at_value target) k.values j.value) zero_kept;
      attrs = All-push (λ (s : Stay). IsAttrRow (joined t attr target m a) s.attr) t.stays (new_stay attr target)
          (λ i x lt. old_attr_row t attr target m a (slice_index_or t.stays i x).attr j (own_stay t.stays i x lt) (k.slots.attrs i x lt) (k.attrs i x lt)) (new_attr_row t attr target m a j);
      lines = put_line (λ l. IsLineRow (joined t attr target m a) l.name (standing_at (joined t attr target m a) (line_slot (joined t attr target m a) l.name)).side) p attr target
          (λ i x lt. old_kept_line t attr target m a (slice_index_or (lines p) i x).name j (own_name (lines p) i x lt) (k.lines i x lt)) (new_kept_line t attr target m a j);
      outside = outside_joined t attr target m a j;
      levels = λ n lt. level_joined t attr target m a n j lt (k.levels n lt);
      stay_levels = All-push (HasStayRoom (joined t attr target m a)) t.stays (new_stay attr target)
          (λ i x lt. room_kept t attr target m a (slice_index_or t.stays i x) j (own_stay t.stays i x lt) (k.stay_levels i x lt)) (new_room t attr target m a j);
    }

abbrev pub made : List Row → List Stay → List Slot → List Standing → List (List Term) → List ℕ → List ℕ → List Priority → Lists
made r s l v m b d p = record { rows = r; stays = s; slots = l; standings = v; matrix = m; attr_slots = b; row_slots = d; priorities = p }

pub joined_is : (t u : Lists) (attr : ℕ) (target : Fraction) → IsWithAttr attr target t u → u ≡ joined t attr target u.matrix u.attr_slots
joined_is t u attr target h =
    ap (λ r. made r u.stays u.slots u.standings u.matrix u.attr_slots u.row_slots u.priorities) h.rows
    ∙ ap (λ s. made t.rows s u.slots u.standings u.matrix u.attr_slots u.row_slots u.priorities) h.stays
    ∙ ap (λ l. made t.rows (t.stays ++ (new_stay attr target ∷ [])) l u.standings u.matrix u.attr_slots u.row_slots u.priorities) h.slots
    ∙ ap (λ v. made t.rows (t.stays ++ (new_stay attr target ∷ [])) (joined t attr target u.matrix u.attr_slots).slots v u.matrix u.attr_slots u.row_slots u.priorities) h.standings
    ∙ ap (λ d. made t.rows (t.stays ++ (new_stay attr target ∷ [])) (joined t attr target u.matrix u.attr_slots).slots (joined t attr target u.matrix u.attr_slots).standings u.matrix u.attr_slots d u.priorities) h.row_slots
    ∙ ap (λ p. made t.rows (t.stays ++ (new_stay attr target ∷ [])) (joined t attr target u.matrix u.attr_slots).slots (joined t attr target u.matrix u.attr_slots).standings u.matrix u.attr_slots t.row_slots p) h.priorities

pub join_of : (t u : Lists) (attr : ℕ) (target : Fraction) → IsKept t → IsNumber attr → fractions.IsKept target → (HasStay t.stays attr → ⊥) → length t.stays < 4096 → IsWithAttr attr target t u → IsJoin t attr target u.matrix u.attr_slots
join_of t u attr target kept is_number value fresh few h = record {
  kept = kept;
  is_number = is_number;
  value = value;
  fresh = fresh;
  few = few;
  room = h.room;
  count = h.count;
  own = h.own;
  own_kept = h.own_kept;
  others = h.others;
  attrs = h.attr_slots;
}

pub attr_kept : (t u : Lists) (attr : ℕ) (target : Fraction) → IsKept t → IsNumber attr → fractions.IsKept target → (HasStay t.stays attr → ⊥) → length t.stays < 4096 → IsWithAttr attr target t u → IsKept u
attr_kept t u attr target kept is_number value fresh few h =
    subst IsKept (sym (joined_is t u attr target h)) (kept_joined t attr target u.matrix u.attr_slots (join_of t u attr target kept is_number value fresh few h))

pub attr_marks : (t u : Lists) (attr : ℕ) (target : Fraction) → IsKept t → IsNumber attr → fractions.IsKept target → (HasStay t.stays attr → ⊥) → length t.stays < 4096 → IsWithAttr attr target t u → marks_at u ≡ marks_at t
attr_marks t u attr target kept is_number value fresh few h =
    ap marks_at (joined_is t u attr target h) ∙ marks_joined t attr target u.matrix u.attr_slots (join_of t u attr target kept is_number value fresh few h)

pub attr_problem : (t u : Lists) (attr : ℕ) (target : Fraction) → IsWithAttr attr target t u → problem_of u ≡ with_attr attr target (problem_of t)
attr_problem t u attr target h = ap problem_of (joined_is t u attr target h)
