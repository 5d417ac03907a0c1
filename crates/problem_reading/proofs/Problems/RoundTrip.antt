-- What is written is read.
use Rattle.std.proofs.Common.{◌≡◌, ◌≢◌, ℕ, ◌<◌, ◌≤◌, List, [], ◌∷◌, ◌++◌, length, map, All, sym, ap, ◌∙◌, refl, arith, zero, suc, get_or, inl, inr, subst}
use Rattle.std.specs.Prelude.{AllPairs}
use Rattle.std.specs.Str.Lines.{lines}
use Rattle.std.proofs.lemmas.List.{append_assoc, append-nil, length-append}
use Rattle.std.proofs.lemmas.List.Elements.{All-append, All-map, All-weaker, All-head, All-tail}
use Rattle.problem_core.specs.declared.parts.Stay.{Stay}
use Rattle.problem_core.specs.declared.parts.Term.{Term}
use Rattle.problem_core.specs.Kept.{IsRow, IsStay, IsWhole}
use Rattle.problem_core.specs.Layout.{Row, Problem, HasStay as HasStayIn, IsCovered}
use Rattle.problem_reading.specs.declared.problem.items.Item.TheVariants.{OfRow, OfStay}
use Rattle.problem_reading.specs.Words.{words}
use Rattle.claim_writing.specs.Lines.{row_words, stay_words, row_line, stay_line, problem_text}
use Rattle.problem_reading.specs.Problems.{with_item, Step, ReadFrom, Reads, nothing_read, HasStayLine, IsProblemStop}
use Rattle.problem_reading.specs.FirstBad.{IsFirstBad}
use Rattle.problem_reading.specs.Stops.{ReadStop}
use Rattle.frac_core.specs.declared.memory.Stop.TheVariants.{OutOfMemory, Refused}
use Rattle.problem_reading.proofs.Problems.Same.{one_item}
use Rattle.problem_reading.proofs.Rising.{All-last, All-at_end}
use Rattle.problem_reading.proofs.Problems.StayAttributes.{HasStayLine-right}
use Rattle.problem_reading.proofs.Visible.{row_visible, stay_visible, words_of_line, line_bytes, lines_of_text}
use Rattle.frac_core.proofs.Lists.{all-front as All-front, pairs-front as AllPairs-front}

-- ---- a text has one reading

step_one : (H : ℕ → Type 0) (old a b : Problem) (line : List ℕ) → Step H old line a → Step H old line b → a ≡ b
step_one H old a b line of_a of_b =
    of_a.is ∙ (ap (with_item old) (one_item line of_a.item of_b.item of_a.says of_b.says) ∙ sym of_b.is)

pub one_reading : (H : ℕ → Type 0) (xs : List (List ℕ)) (old a b : Problem) → ReadFrom H old xs a → ReadFrom H old xs b → a ≡ b
one_reading H [] old a b of_a of_b = of_a ∙ sym of_b
one_reading H (x ∷ xs) old a b of_a of_b =
    let mid : of_a.0 ≡ of_b.0 = step_one H old of_a.0 of_b.0 x of_a.1 of_b.1 in
    one_reading H xs of_b.0 a b (rw mid at of_a.2) of_b.2

read_two : (H : ℕ → Type 0) (xs ys : List (List ℕ)) (old mid new : Problem) → ReadFrom H old xs mid → ReadFrom H mid ys new → ReadFrom H old (xs ++ ys) new
read_two H [] ys old mid new first second = rw (← first) second
read_two H (x ∷ xs) ys old mid new first second = (first.0, first.1, read_two H xs ys first.0 mid new first.2 second)

pub read_split : (H : ℕ → Type 0) (xs ys : List (List ℕ)) (old new : Problem) → ReadFrom H old (xs ++ ys) new → (mid : Problem) × ReadFrom H old xs mid × ReadFrom H mid ys new
read_split H [] ys old new read = (old, refl, read)
read_split H (x ∷ xs) ys old new read =
    let rest = read_split H xs ys read.0 new read.2 in
    (rest.0, (read.0, read.1, rest.1), rest.2)

bad_here : (all : List (List ℕ)) (p : Problem) (n : ℕ) (bad : IsFirstBad (ReadFrom (HasStayLine all) nothing_read) (Step (HasStayLine all)) all n) → ReadFrom (HasStayLine all) nothing_read (bad.before ++ bad.line ∷ bad.after) p → ⊥
bad_here all p n bad read =
    let cut = read_split (HasStayLine all) bad.before (bad.line ∷ bad.after) nothing_read p read in
    let same : cut.0 ≡ bad.so_far = one_reading (HasStayLine all) bad.before nothing_read cut.0 bad.so_far cut.1 bad.reads in
    let next = cut.2 in
    bad.bad next.0 (rw same at next.1)

-- a text that is read to its end has no bad line
pub no_bad_line : (all : List (List ℕ)) (p : Problem) (n : ℕ) → Reads all p → IsFirstBad (ReadFrom (HasStayLine all) nothing_read) (Step (HasStayLine all)) all n → ⊥
no_bad_line all p n read bad =
    let whole : ReadFrom (HasStayLine all) nothing_read (bad.before ++ bad.line ∷ bad.after) p = subst (λ (ls : List (List ℕ)). ReadFrom (HasStayLine all) nothing_read ls p) bad.parts read in
    bad_here all p n bad whole

-- ---- what is written has its reading

-- rows, with what the type of a problem keeps of them
record AreRows (H : ℕ → Type 0) (rows : List Row) : Type 0 where
  each : All IsRow rows
  rising : AllPairs (λ r s. r.id < s.id) rows
  covered : All (λ r. All (λ t. H t.attr) r.terms) rows
  count : length rows ≤ 2001

record AreStays (stays : List Stay) : Type 0 where
  each : All IsStay stays
  apart : AllPairs (λ s t. s.attr ≢ t.attr) stays
  count : length stays ≤ 800

pub row_words_are : (r : Row) → IsRow r → words (row_line r) ≡ row_words r
row_words_are r is = words_of_line _ _ (row_visible r is)

pub stay_words_are : (s : Stay) → IsStay s → words (stay_line s) ≡ stay_words s
stay_words_are s is = words_of_line _ _ (stay_visible s is)

row_step : (H : ℕ → Type 0) (done : List Row) (r : Row) (more : List Row) → AreRows H (done ++ r ∷ more) → Step H (record { rows = done; stays = [] }) (row_line r) (record { rows = done ++ r ∷ []; stays = [] })
row_step H done r more are =
    let joined : done ++ r ∷ more ≡ (done ++ r ∷ []) ++ more = sym (append_assoc done (r ∷ []) more) in
    let each : All IsRow (done ++ r ∷ []) = All-front IsRow (done ++ r ∷ []) more (rw joined at are.each) in
    let rising : AllPairs (λ q s. q.id < s.id) (done ++ r ∷ []) = AllPairs-front (λ (q : Row) (s : Row). q.id < s.id) (done ++ r ∷ []) more (rw joined at are.rising) in
    let covered : All (λ q. All (λ t. H t.attr) q.terms) (done ++ r ∷ []) = All-front (λ (q : Row). All (λ t. H t.attr) q.terms) (done ++ r ∷ []) more (rw joined at are.covered) in
    let is : IsRow r = All-at_end IsRow done r each in
    record {
      item = OfRow r;
      says = (is, row_words_are r is);
      may = record {
        first = refl;
        rises = All-last (λ (q : Row) (s : Row). q.id < s.id) done r rising;
        covered = All-at_end (λ (q : Row). All (λ t. H t.attr) q.terms) done r covered;
        room = omega (arith, length-append done (r ∷ more), are.count);
      };
      is = refl;
    }

unfoldable pub problem_from : List Row → List Stay → Problem
problem_from rows stays = record { rows = rows; stays = stays }

read_rows : (H : ℕ → Type 0) (done todo : List Row) → AreRows H (done ++ todo) → ReadFrom H (record { rows = done; stays = [] }) (map row_line todo) (record { rows = done ++ todo; stays = [] })
unfolding problem_from
read_rows H done [] are = ap (λ (rows : List Row). problem_from rows []) (append-nil done)
read_rows H done (r ∷ todo) are =
    let joined : (done ++ r ∷ []) ++ todo ≡ done ++ r ∷ todo = append_assoc done (r ∷ []) todo in
    let rest = read_rows H (done ++ r ∷ []) todo (rw joined are) in
    (record { rows = done ++ r ∷ []; stays = [] }, row_step H done r todo are, rw joined at rest)

stay_step : (H : ℕ → Type 0) (rows : List Row) (done : List Stay) (s : Stay) (more : List Stay) → AreStays (done ++ s ∷ more) → Step H (record { rows = rows; stays = done }) (stay_line s) (record { rows = rows; stays = done ++ s ∷ [] })
stay_step H rows done s more are =
    let joined : done ++ s ∷ more ≡ (done ++ s ∷ []) ++ more = sym (append_assoc done (s ∷ []) more) in
    let each : All IsStay (done ++ s ∷ []) = All-front IsStay (done ++ s ∷ []) more (rw joined at are.each) in
    let apart : AllPairs (λ q t. q.attr ≢ t.attr) (done ++ s ∷ []) = AllPairs-front (λ (q : Stay) (t : Stay). q.attr ≢ t.attr) (done ++ s ∷ []) more (rw joined at are.apart) in
    let is : IsStay s = All-at_end IsStay done s each in
    record {
      item = OfStay s;
      says = (is, stay_words_are s is);
      may = record {
        fresh = All-last (λ (q : Stay) (t : Stay). q.attr ≢ t.attr) done s apart;
        room = omega (arith, length-append done (s ∷ more), are.count);
      };
      is = refl;
    }

read_stays : (H : ℕ → Type 0) (rows : List Row) (done todo : List Stay) → AreStays (done ++ todo) → ReadFrom H (record { rows = rows; stays = done }) (map stay_line todo) (record { rows = rows; stays = done ++ todo })
unfolding problem_from
read_stays H rows done [] are = ap (λ (stays : List Stay). problem_from rows stays) (append-nil done)
read_stays H rows done (s ∷ todo) are =
    let joined : (done ++ s ∷ []) ++ todo ≡ done ++ s ∷ todo = append_assoc done (s ∷ []) todo in
    let rest = read_stays H rows (done ++ s ∷ []) todo (rw joined are) in
    (record { rows = rows; stays = done ++ s ∷ [] }, stay_step H rows done s todo are, rw joined at rest)

stay_line_at : (stays : List Stay) (k : ℕ) (s : Stay) (attr : ℕ) → All IsStay stays → k < length stays → get_or stays k s ≡ s → s.attr ≡ attr → HasStayLine (map stay_line stays) attr
stay_line_at [] k s attr are lt is same = absurd (omega (arith, lt))
stay_line_at (t ∷ stays) zero s attr are lt is same = inl (t, (All-head IsStay t stays are, stay_words_are t (All-head IsStay t stays are)), ap (λ (u : Stay). u.attr) is ∙ same)
stay_line_at (t ∷ stays) (suc k) s attr are lt is same = inr (stay_line_at stays k s attr (All-tail IsStay t stays are) (omega (arith, lt)) is same)

-- the line of a stay that is there
stay_line_there : (front : List (List ℕ)) (stays : List Stay) (attr : ℕ) → All IsStay stays → HasStayIn stays attr → HasStayLine (front ++ map stay_line stays) attr
stay_line_there front stays attr are has = HasStayLine-right front (map stay_line stays) attr (stay_line_at stays has.0 has.1 attr are has.2 has.3 has.4)

pub written_lines : (p : Problem) → IsWhole p → lines (problem_text p) ≡ map row_line p.rows ++ map stay_line p.stays
written_lines p whole = lines_of_text (map row_line p.rows ++ map stay_line p.stays) (All-append (All (λ b. 31 < b)) (map row_line p.rows) (map stay_line p.stays)
    (All-map (All (λ b. 31 < b)) row_line p.rows (All-weaker IsRow (λ r. All (λ b. 31 < b) (row_line r)) (λ r is. line_bytes (row_words r) (row_visible r is)) p.rows whole.rows))
    (All-map (All (λ b. 31 < b)) stay_line p.stays (All-weaker IsStay (λ s. All (λ b. 31 < b) (stay_line s)) (λ s is. line_bytes (stay_words s) (stay_visible s is)) p.stays whole.stays)))

reads_lines : (p : Problem) → IsWhole p → length p.rows ≤ 2001 → length p.stays ≤ 800 → Reads (map row_line p.rows ++ map stay_line p.stays) p
reads_lines p whole rows stays =
    let all = map row_line p.rows ++ map stay_line p.stays in
    let covered : All (λ r. All (λ t. HasStayLine (map row_line p.rows ++ map stay_line p.stays) t.attr) r.terms) p.rows =
    All-weaker (IsCovered p.stays) (λ (r : Row). All (λ t. HasStayLine (map row_line p.rows ++ map stay_line p.stays) t.attr) r.terms)
    (λ r are. All-weaker (λ (t : Term). HasStayIn p.stays t.attr) (λ (t : Term). HasStayLine (map row_line p.rows ++ map stay_line p.stays) t.attr)
    (λ t has. stay_line_there (map row_line p.rows) p.stays t.attr whole.stays has) r.terms are) p.rows whole.covered in
    read_two (HasStayLine all) (map row_line p.rows) (map stay_line p.stays) nothing_read (record { rows = p.rows; stays = [] }) p
    (read_rows (HasStayLine all) [] p.rows (record { each = whole.rows; rising = whole.rising; covered = covered; count = rows }))
    (read_stays (HasStayLine all) p.rows [] p.stays (record { each = whole.stays; apart = whole.apart; count = stays }))

pub reads_back : (p : Problem) → IsWhole p → length p.rows ≤ 2001 → length p.stays ≤ 800 → Reads (lines (problem_text p)) p
reads_back p whole rows stays = rw (written_lines p whole) (reads_lines p whole rows stays)

-- ---- the reader's answers to what was written

pub read_is : (p q : Problem) (text : List ℕ) → Reads (lines text) q → IsWhole p → length p.rows ≤ 2001 → length p.stays ≤ 800 → text ≡ problem_text p → q ≡ p
read_is p q text read whole rows stays is =
    let all : lines text ≡ lines (problem_text p) = ap lines is in
    one_reading (HasStayLine (lines (problem_text p))) (lines (problem_text p)) nothing_read q p (rw all at read) (reads_back p whole rows stays)

pub stop_is : (p : Problem) (stop : ReadStop) (text : List ℕ) → IsProblemStop (lines text) stop → IsWhole p → length p.rows ≤ 2001 → length p.stays ≤ 800 → text ≡ problem_text p → stop ≡ OutOfMemory
stop_is p (Refused bad) text at whole rows stays is = absurd (no_bad_line (lines text) p bad.0 (rw is (reads_back p whole rows stays)) at)
stop_is p OutOfMemory text at whole rows stays is = refl
