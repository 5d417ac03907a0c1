-- Readings of lines, one after the other.
use Rattle.std.proofs.Common.{◌≡◌, ◌≢◌, ℕ, ◌+◌, ◌<◌, ◌≤◌, List, [], ◌∷◌, ◌++◌, length, All, ap, ◌∙◌, arith, refl, inl, inr, ◌==◌}
use Rattle.std.specs.Prelude.{AllPairs, Contains}
use Rattle.std.specs.List.{slice_split}
use Rattle.std.specs.Str.Lines.{lines, lines_of_parts}
use Rattle.std.proofs.lemmas.List.{length_push, get_or_append_left, length-append}
use Rattle.std.proofs.lemmas.List.Elements.{All-push, All-weaker, All-nil, All-contains}
use Rattle.std.proofs.lemmas.List.Quantifiers.{Any-push, all_pairs_push}
use Rattle.std.proofs.lemmas.List.Splits.{length-slice_split}
use Rattle.std.proofs.lemmas.List.Sums.{count_by-le-length}
use Rattle.std.proofs.lemmas.Grind.{common_steps}
use Rattle.problem_core.specs.declared.parts.Stay.{Stay}
use Rattle.problem_core.specs.declared.parts.Term.{Term}
use Rattle.problem_core.specs.Kept.{IsRow, IsStay, IsWhole}
use Rattle.problem_core.specs.Layout.{Row, Problem, HasStay as HasStayIn, IsCovered}
use Rattle.problem_reading.specs.declared.problem.items.Item.{Item}
use Rattle.problem_reading.specs.declared.problem.items.Item.TheVariants.{Nothing, OfRow, OfStay}
use Rattle.problem_reading.specs.Problems.{Says, MayFollow, with_item, Step, ReadFrom, Reads, nothing_read, HasStayLine, IsStayOf, AreStayAttributes}
use Rattle.problem_reading.specs.FirstBad.{IsFirstBad}
use Rattle.problem_reading.proofs.Problems.Same.{one_item}
use Rattle.problem_reading.proofs.LineLists.{line_here, no_line_left}
use Rattle.frac_core.proofs.Lists.{pairs-nil as none_pairs}

-- ---- one line more, and other words for what has stays

pub read_more : (H : ℕ → Type 0) (xs : List (List ℕ)) (old mid new : Problem) (line : List ℕ) → ReadFrom H old xs mid → Step H mid line new → ReadFrom H old (xs ++ line ∷ []) new
read_more H [] old mid new line read step = (new, (rw read at step), refl)
read_more H (x ∷ xs) old mid new line read step = (read.0, read.1, read_more H xs read.0 mid new line read.2 step)

may_weaker : (H G : ℕ → Type 0) → ((a : ℕ) → H a → G a) → (old : Problem) (item : Item) → MayFollow H old item → MayFollow G old item
may_weaker H G to old Nothing may = may
may_weaker H G to old (OfRow r) may = record {
  first = may.first;
  rises = may.rises;
  covered = All-weaker (λ (t : Term). H t.attr) (λ (t : Term). G t.attr) (λ t has. to t.attr has) r.terms may.covered;
  room = may.room;
}
may_weaker H G to old (OfStay s) may = may

pub step_weaker : (H G : ℕ → Type 0) → ((a : ℕ) → H a → G a) → (old new : Problem) (line : List ℕ) → Step H old line new → Step G old line new
step_weaker H G to old new line step = record { item = step.item; says = step.says; may = may_weaker H G to old step.item step.may; is = step.is }

pub read_weaker : (H G : ℕ → Type 0) → ((a : ℕ) → H a → G a) → (xs : List (List ℕ)) (old new : Problem) → ReadFrom H old xs new → ReadFrom G old xs new
read_weaker H G to [] old new read = read
read_weaker H G to (x ∷ xs) old new read = (read.0, step_weaker H G to old read.0 x read.1, read_weaker H G to xs read.0 new read.2)

-- ---- what a reading keeps

record IsGood (H : ℕ → Type 0) (p : Problem) : Type 0 where
  rows : All IsRow p.rows
  stays : All IsStay p.stays
  rising : AllPairs (λ r s. r.id < s.id) p.rows
  apart : AllPairs (λ s t. s.attr ≢ t.attr) p.stays
  covered : All (λ r. All (λ t. H t.attr) r.terms) p.rows
  row_count : length p.rows ≤ 2001
  stay_count : length p.stays ≤ 800

good_item : (H : ℕ → Type 0) (old : Problem) (line : List ℕ) (item : Item) → Says line item → MayFollow H old item → IsGood H old → IsGood H (with_item old item)
good_item H old line Nothing says may good = good
good_item H old line (OfRow r) says may good = record {
  rows = All-push IsRow old.rows r good.rows says.0;
  stays = good.stays;
  rising = all_pairs_push (λ q s. q.id < s.id) old.rows r good.rising may.rises;
  apart = good.apart;
  covered = All-push (λ q. All (λ t. H t.attr) q.terms) old.rows r good.covered may.covered;
  row_count = omega (arith, length_push old.rows r, may.room);
  stay_count = good.stay_count;
}
good_item H old line (OfStay s) says may good = record {
  rows = good.rows;
  stays = All-push IsStay old.stays s good.stays says.0;
  rising = good.rising;
  apart = all_pairs_push (λ q t. q.attr ≢ t.attr) old.stays s good.apart may.fresh;
  covered = good.covered;
  row_count = good.row_count;
  stay_count = omega (arith, length_push old.stays s, may.room);
}

good_read : (H : ℕ → Type 0) (xs : List (List ℕ)) (old new : Problem) → ReadFrom H old xs new → IsGood H old → IsGood H new
good_read H [] old new read good = rw read good
good_read H (x ∷ xs) old new read good =
    let step = read.1 in
    good_read H xs read.0 new read.2 (rw step.is (good_item H old x step.item step.says step.may good))

good_nothing : (H : ℕ → Type 0) → IsGood H nothing_read
good_nothing H = record {
  rows = All-nil IsRow;
  stays = All-nil IsStay;
  rising = none_pairs (λ (r : Row) (s : Row). r.id < s.id);
  apart = none_pairs (λ (s : Stay) (t : Stay). s.attr ≢ t.attr);
  covered = All-nil (λ (r : Row). All (λ t. H t.attr) r.terms);
  row_count = omega arith;
  stay_count = omega arith;
}

-- ---- the stays of the lines are those that are read

any_left : (xs ys : List Stay) (attr : ℕ) → HasStayIn xs attr → HasStayIn (xs ++ ys) attr
any_left xs ys attr has = (has.0, has.1, omega (arith, length-append xs ys, has.2), rw (get_or_append_left xs ys has.1 has.0 has.2) has.3, has.4)

kept_stay : (old : Problem) (item : Item) (attr : ℕ) → HasStayIn old.stays attr → HasStayIn (with_item old item).stays attr
kept_stay old Nothing attr has = has
kept_stay old (OfRow r) attr has = has
kept_stay old (OfStay s) attr has = any_left old.stays (s ∷ []) attr has

kept_stays : (H : ℕ → Type 0) (xs : List (List ℕ)) (old new : Problem) (attr : ℕ) → ReadFrom H old xs new → HasStayIn old.stays attr → HasStayIn new.stays attr
kept_stays H [] old new attr read has = rw read has
kept_stays H (x ∷ xs) old new attr read has = kept_stays H xs read.0 new attr read.2 (rw (read.1).is (kept_stay old (read.1).item attr has))

stay_now : (H : ℕ → Type 0) (old new : Problem) (line : List ℕ) (attr : ℕ) → Step H old line new → IsStayOf line attr → HasStayIn new.stays attr
stay_now H old new line attr step at =
    let same : step.item ≡ OfStay at.0 = one_item line step.item (OfStay at.0) step.says at.1 in
    let is : new ≡ with_item old (OfStay at.0) = step.is ∙ ap (with_item old) same in
    rw is (Any-push (λ s. s.attr ≡ attr) old.stays at.0 at.2)

pub stays_read : (H : ℕ → Type 0) (xs : List (List ℕ)) (old new : Problem) (attr : ℕ) → ReadFrom H old xs new → HasStayLine xs attr → HasStayIn new.stays attr
stays_read H [] old new attr read has = absurd has
stays_read H (x ∷ xs) old new attr read (inl at) = kept_stays H xs read.0 new attr read.2 (stay_now H old read.0 x attr read.1 at)
stays_read H (x ∷ xs) old new attr read (inr has) = stays_read H xs read.0 new attr read.2 has

-- what is read from a whole text is a problem
pub whole_read : (all : List (List ℕ)) (p : Problem) → Reads all p → IsWhole p
whole_read all p read =
    let good = good_read (HasStayLine all) all nothing_read p read (good_nothing (HasStayLine all)) in
    record {
      rows = good.rows;
      stays = good.stays;
      rising = good.rising;
      apart = good.apart;
      covered = All-weaker (λ (r : Row). All (λ t. HasStayLine all t.attr) r.terms) (IsCovered p.stays)
          (λ r covered. All-weaker (λ (t : Term). HasStayLine all t.attr) (λ (t : Term). HasStayIn p.stays t.attr) (λ t has. stays_read (HasStayLine all) all nothing_read p t.attr read has) r.terms covered) p.rows good.covered;
      row_count = omega (arith, good.row_count);
      stay_count = omega (arith, good.stay_count);
    }

-- ---- counts of lines

parts_count : (ps : List (List ℕ)) → length (lines_of_parts ps) ≤ length ps
parts_count [] = omega arith
parts_count (x ∷ []) = grind (arith, common_steps)
parts_count (x ∷ y ∷ more) = omega (arith, parts_count (y ∷ more))

pub lines_count : (text : List ℕ) → length (lines text) ≤ length text + 1
lines_count text = omega (arith, parts_count (slice_split (λ b. b == 10) text), length-slice_split (λ b. b == 10) text, count_by-le-length (λ b. b == 10) text)

-- ---- the reader's answers

pub first_bad : (all before left : List (List ℕ)) (line : List ℕ) (more : List (List ℕ)) (covered : List ℕ) (so_far : Problem) (n : ℕ)
    → all ≡ before ++ left → left ≡ line ∷ more → n ≡ length before → AreStayAttributes all covered
    → ReadFrom (λ a. Contains covered a) nothing_read before so_far
    → ((new : Problem) → Step (λ a. Contains covered a) so_far line new → ⊥) → IsFirstBad (ReadFrom (HasStayLine all) nothing_read) (Step (HasStayLine all)) all (n + 1)
first_bad all before left line more covered so_far n is left_is count are read none = record {
  before = before;
  line = line;
  after = more;
  parts = line_here all before left line more is left_is;
  number = omega (arith, count);
  so_far = so_far;
  reads = read_weaker (λ a. Contains covered a) (HasStayLine all) (λ a has. All-contains (HasStayLine all) covered a are.each has) before nothing_read so_far read;
  bad = λ new step. none new (step_weaker (HasStayLine all) (λ a. Contains covered a) are.all so_far new line step);
}

pub all_read : (all before left : List (List ℕ)) (covered : List ℕ) (p : Problem) → all ≡ before ++ left → left ≡ [] → AreStayAttributes all covered
    → ReadFrom (λ a. Contains covered a) nothing_read before p → Reads all p
all_read all before left covered p is none are read =
    let same : all ≡ before = no_line_left all before left is none in
    let whole : ReadFrom (λ a. Contains covered a) nothing_read all p = rw same read in
    read_weaker (λ a. Contains covered a) (HasStayLine all) (λ a has. All-contains (HasStayLine all) covered a are.each has) all nothing_read p whole
