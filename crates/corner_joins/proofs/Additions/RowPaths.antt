-- Rows that are pushed one by one.
use Rattle.std.proofs.Common.{◌≡◌, ◌∙◌, ℕ, zero, suc, ◌+◌, ◌<◌, ◌++◌, List, [], ◌∷◌, length, map, take, drop, refl, sym, ap, ap₂, subst, arith, inl, inr, ℤ, ◌*ℤ◌, unsigned_abs, slice_index_or, All, Any}
use Rattle.std.proofs.Common.{length-append}
use Rattle.problem_core.specs.declared.parts.Mark.{Mark}
use Rattle.problem_core.specs.declared.parts.Stay.{Stay}
use Rattle.problem_core.specs.declared.parts.RowName.{RowName}
use Rattle.problem_core.specs.Layout.{Line, Problem, Row, line_of_row, lines, stay_lines}
use Rattle.problem_core.specs.Kept.{IsWhole}
use Rattle.problem_core.specs.Changes.Begins.{BeginsWith, IsJoined}
use Rattle.problem_core.specs.Corners.{IsCorner, IsIn, Point, SameMarks, StandsAt, one_column, place}
use Rattle.corner_lines.specs.Joins.{IsJoinedBy, with_row}
use Rattle.corner_lines.proofs.ProblemChanges.JoinedBegins.{begins_more}
use Rattle.corner_lines.proofs.ProblemChanges.JoinedRows.{in-parts, new-in, old-in}
use Rattle.corner_table.specs.declared.table.Slot.{Slot}
use Rattle.corner_view.specs.Seen.{IsNamed}
use Rattle.corner_laws.specs.Lifts.{with_rows}
use Rattle.corner_table.specs.Tables.{Lists, line_slot, marks_at, problem_of, row_at, standing_at}
use Rattle.corner_view.proofs.Facts.{append_more, positive_is, same_trans}
use Rattle.corner_joins.specs.Additions.Parts.{IsPartlyKept, IsWithRow}
use Rattle.corner_table.specs.Joining.{slot_of_row}
use Rattle.corner_joins.specs.Additions.RowJoins.{ArePushed, IsPushed}
use Rattle.corner_joins.proofs.Additions.RowPlaces.{IsNext, named_by, old_row, old_standing}
use Rattle.corner_joins.proofs.Additions.RowJoins.{pushed_is}
use Rattle.corner_lines.proofs.SameMarks.{stands-there as stands_there}
use Rattle.std.proofs.lemmas.List.{append-nil as append_none}

-- ---- lists

pub map_append : {X Y : Type 0} (f : X → Y) (xs : List X) (y : X) → map f (xs ++ (y ∷ [])) ≡ map f xs ++ (f y ∷ [])
map_append f [] y = refl
map_append f (x ∷ xs) y = ap (λ us. f x ∷ us) (map_append f xs y)

pub take_next : {X : Type 0} (xs : List X) (k : ℕ) (x : X) → k < length xs → take (k + 1) xs ≡ take k xs ++ (slice_index_or xs k x ∷ [])
take_next [] k x lt = absurd (omega (arith, lt))
take_next (y ∷ xs) zero x lt = refl
take_next (y ∷ xs) (suc k) x lt =
    let n : suc (k + 1) ≡ suc k + 1 = omega arith in
    subst (λ j. take j (y ∷ xs) ≡ y ∷ (take k xs ++ (slice_index_or xs k x ∷ []))) n (ap (λ us. y ∷ us) (take_next xs k x (omega (arith, lt))))

pub take_all : {X : Type 0} (xs : List X) (k : ℕ) → k ≡ length xs → take k xs ≡ xs
take_all xs k e = ap (λ n. take n xs) e ∙ whole xs
  where
    whole : {X : Type 0} (ys : List X) → take (length ys) ys ≡ ys
    whole [] = refl
    whole (y ∷ ys) = ap (λ us. y ∷ us) (whole ys)

pub drop_next : {X : Type 0} (xs : List X) (k : ℕ) (x : X) → k < length xs → drop k xs ≡ slice_index_or xs k x ∷ drop (k + 1) xs
drop_next [] k x lt = absurd (omega (arith, lt))
drop_next (y ∷ xs) zero x lt = refl
drop_next (y ∷ xs) (suc k) x lt =
    let n : suc (k + 1) ≡ suc k + 1 = omega arith in
    subst (λ j. drop k xs ≡ slice_index_or xs k x ∷ drop j (y ∷ xs)) n (drop_next xs k x (omega (arith, lt)))

-- ---- the lists

any_more : (P : Line → Type 0) (rows more : List Row) (ls : List Line) → Any P (map line_of_row rows ++ ls) → Any P (map line_of_row (rows ++ more) ++ ls)
any_more P [] [] ls h = h
any_more P [] (r ∷ more) ls h = let i = any_more P [] more ls h in (suc i.0, i.1, omega (arith, i.2), i.3, i.4)
any_more P (s ∷ rows) more ls (zero, x, lt, e, h) = (0, x, omega arith, e, h)
any_more P (s ∷ rows) more ls (suc k, x, lt, e, h) = let i = any_more P rows more ls (k, x, omega (arith, lt), e, h) in (suc i.0, i.1, omega (arith, i.2), i.3, i.4)

pub none_pushed : (t : Lists) → ArePushed [] t t
none_pushed t = record {
  rows = sym (append_none t.rows);
  stays = refl;
  slots = sym (append_none t.slots);
  standings = λ w lt. refl;
  matrix = λ w lt. refl;
  lines = λ name named. refl;
  attr_slots = refl;
  priorities = refl;
}

-- the problem with the rows so far
pub problem_so_far : (more : List Row) (t u : Lists) → ArePushed more t u → problem_of u ≡ with_rows more (problem_of t)
problem_so_far more t u h = ap₂ (λ (rows : List Row) (stays : List Stay). record { rows = rows; stays = stays }) h.rows h.stays

pub named_so_far : (more : List Row) (t u : Lists) (name : RowName) → ArePushed more t u → IsNamed (problem_of t) name → IsNamed (problem_of u) name
named_so_far more t u name h named = subst (λ (p : Problem). IsNamed p name) (sym (problem_so_far more t u h)) (any_more (λ l. l.name ≡ name) t.rows more (stay_lines 1001 t.stays) named)

-- a row more
pub one_pushed : (more : List Row) (t u w : Lists) (r : Row) → ArePushed more t u → IsPushed r u w → IsPartlyKept u → IsWhole (with_row r (problem_of u)) → ArePushed (more ++ (r ∷ [])) t w
one_pushed more t u w r h p kept whole =
    let is = pushed_is u w r p in
    let j : IsNext u r w.row_slots = record { slots = kept.slots; whole = whole; numbers = p.row_slots } in
    let n : length u.slots ≡ length t.slots + length (map slot_of_row more) = ap length h.slots ∙ length-append t.slots (map slot_of_row more) in
    record {
      rows = p.rows ∙ ap (λ (x : List Row). x ++ (r ∷ [])) h.rows ∙ append_more t.rows more (r ∷ []);
      stays = p.stays ∙ h.stays;
      slots = p.slots ∙ ap (λ (x : List Slot). x ++ (slot_of_row r ∷ [])) h.slots ∙ append_more t.slots (map slot_of_row more) (slot_of_row r ∷ []) ∙ ap (λ (x : List Slot). t.slots ++ x) (sym (map_append slot_of_row more r));
      standings = λ x lt. ap (λ (l : Lists). standing_at l x) is ∙ old_standing u r p.standing p.own w.row_slots x kept.slots (omega (arith, lt, n)) ∙ h.standings x lt;
      matrix = λ x lt. ap (λ (l : Lists). row_at l x) is ∙ old_row u r p.standing p.own w.row_slots x kept.slots (omega (arith, lt, n)) ∙ h.matrix x lt;
      lines = λ name named. ap (λ (l : Lists). line_slot l name) is ∙ named_by u r p.standing p.own w.row_slots name j (named_so_far more t u name h named) ∙ h.lines name named;
      attr_slots = p.attr_slots ∙ h.attr_slots;
      priorities = p.priorities ∙ h.priorities;
    }

-- ---- where a path begins

-- each mark is inside
pub self_in : (ms : List Mark) (k : ℕ) (x : Mark) → k < length ms → IsIn (place (slice_index_or ms k x)) ms
self_in [] k x lt = absurd (omega (arith, lt))
self_in (n ∷ ms) zero x lt = (0, omega arith, refl)
self_in (n ∷ ms) (suc k) x lt = let i = self_in ms k x (omega (arith, lt)) in (suc i.0, omega (arith, i.1), i.2)

-- the last one as the first one
pub moved_last : (at : List Mark) (m : Mark) → SameMarks (m ∷ at) (at ++ (m ∷ []))
moved_last at m = (first, λ k x lt. back (place (slice_index_or (at ++ (m ∷ [])) k x)) (self_in (at ++ (m ∷ [])) k x lt))
  where
    first : All (λ n. IsIn (place n) (at ++ (m ∷ []))) (m ∷ at)
    first zero x lt = new-in at m
    first (suc k) x lt = old-in at m (place (slice_index_or at k x)) (self_in at k x (omega (arith, lt)))

    back : (c : ℕ) → IsIn c (at ++ (m ∷ [])) → IsIn c (m ∷ at)
    back c i = elim (in-parts at m c i) [
      | inl (k, within, is) ↦ (suc k, omega (arith, within), is)
      | inr e ↦ (0, omega arith, sym e)
    ]

joined_by : (x : Point) (r : Row) (m : Mark) → IsJoined x r m → IsJoinedBy r m (x.num (place m))
joined_by x r m (inl h) = inl h
joined_by x r m (inr h) = inr h

-- a row more has joined
pub begins_one : (kept : List Mark) (more : List Row) (t u : Lists) (r : Row) → IsWhole (with_row r (problem_of t)) → IsCorner (problem_of t) (marks_at t) → BeginsWith (problem_of t) kept more [] (marks_at t) → IsWithRow r t u
    → BeginsWith (problem_of u) kept (more ++ (r ∷ [])) [] (marks_at u)
begins_one kept more t u r whole corner h w =
    let q : Problem = with_row r (problem_of t) in
    let at : List Mark = marks_at t ++ (w.mark ∷ []) in
    let same : SameMarks (marks_at u) at = same_trans (marks_at u) (w.mark ∷ marks_at t) at w.marks (moved_last (marks_at t) w.mark) in
    let up = positive_is (w.point.num one_column) w.point.positive in
    let stands : StandsAt q at w.point = stands_there q (marks_at u) at w.point same.0 (subst (λ (p : Problem). StandsAt p (marks_at u) w.point) w.problem w.stands) in
    let b : BeginsWith q kept (more ++ (r ∷ [])) [] at =
    begins_more (problem_of t) kept (marks_at t) more r w.mark (w.point.num (place w.mark)) (unsigned_abs (w.point.num one_column)) whole corner h
    (w.point, stands, ap (λ (z : ℤ). w.point.num (place w.mark) *ℤ z) up.1) up.0 (joined_by w.point r w.mark w.joined) in
    subst (λ (p : Problem). BeginsWith p kept (more ++ (r ∷ [])) [] (marks_at u)) (sym w.problem)
    (record {
      news = b.news;
      marks = same_trans (marks_at u) at (kept ++ (b.news ++ [])) same b.marks;
      point = b.point;
      stands = stands_there q at (marks_at u) b.point same.1 b.stands;
      each = b.each;
    })
