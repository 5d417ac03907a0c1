-- Where a run begins after rows have joined, and the answers of one that begins there.
use Rattle.std.proofs.Common.{◌≡◌, ◌∙◌, ℕ, ◌<◌, false, List, [], ◌∷◌, ◌++◌, map, ℤ, pos, negsuc, ◌*ℤ◌, neg_ℤ, ◌<ℤ◌, ◌≤ℤ◌, sym, ap, subst, arith, inl, inr, Contains, append-nil}
use Rattle.std.specs.List.{AllByRecursion as Each, AllZip}
use Rattle.std.proofs.lemmas.List.Elements.{All-from_recursion, recursion_from_All}
use lib.IntN.{*ℤ_comm}
use borrow.Author.Differences.{ints}
use Rattle.frac_core.proofs.Integers.{mul_not_negative, mul_positive, sign_cases}
use Rattle.problem_core.specs.declared.parts.Mark.{Mark}
use Rattle.problem_core.specs.declared.stops.Quantity.{Quantity}
use Rattle.problem_core.specs.declared.stops.Quantity.TheVariants.{Plain, Terms, Rows, Shifts}
use Rattle.problem_core.specs.Layout.{Problem, Row, lines}
use Rattle.problem_core.specs.Kept.{IsWhole}
use Rattle.problem_core.specs.Corners.{Agree, IsCorner, IsIn, NoNegativeValue, Point, StandsAt, marks_of, one_column, place}
use Rattle.problem_core.specs.Changes.Begins.{BeginsWith, IsJoined}
use Rattle.problem_core.proofs.Forms.{each-both, each-impl}
use Rattle.cert_core.specs.Paths.{Path}
use Rattle.cert_core.specs.Stops.{IsStopOf, IsUnfitPath}
use Rattle.cert_core.specs.declared.stops.RunStop.{RunStop}
use Rattle.cert_core.specs.declared.stops.RunStop.TheVariants.{Conflict, Unfit, Spent, OutOfMemory}
use Rattle.corner_laws.proofs.PathEnds.Complete.{plain_alone}
use Rattle.corner_laws.proofs.WrittenValues.{contains_each}
use Rattle.corner_view.specs.Seen.{CornerView, in_order, IsKeptCorner}
use Rattle.corner_laws.specs.Lifts.{with_rows}
use Rattle.corner_view.specs.AddStops.{FromAdded}
use Rattle.corner_ends.specs.Runs.{FromHere, IsRun}
use Rattle.corner_laws.proofs.PathEnds.BeginsUnique.{agree-both, stands-before}
use Rattle.frac_core.proofs.Numbers.{neg-times}
use Rattle.frac_core.proofs.Lists.{each-joined}

-- ---- no value is negative at the beginning

not-opposite : (n m : ℕ) (a b : ℤ) → 0 < n → pos 0 ≤ℤ a → a *ℤ pos m ≡ b *ℤ pos n → pos 0 <ℤ neg_ℤ b → ⊥
not-opposite n m a b above low e under =
    let up : pos 0 ≤ℤ (pos m *ℤ a) = mul_not_negative m a low in
    let down : pos 0 <ℤ (pos n *ℤ neg_ℤ b) = mul_positive n (neg_ℤ b) above under in
    let turned : pos n *ℤ neg_ℤ b ≡ neg_ℤ (pos n *ℤ b) = *ℤ_comm (pos n) (neg_ℤ b) ∙ neg-times b (pos n) ∙ ap neg_ℤ (*ℤ_comm b (pos n)) in
    absurd (omega (arith, ints, up, down, turned, e, *ℤ_comm (pos m) a, *ℤ_comm b (pos n)))

-- what agrees with a number that is not negative is not negative
still-up : (a b one other : ℤ) → pos 0 <ℤ one → pos 0 <ℤ other → pos 0 ≤ℤ a → a *ℤ other ≡ b *ℤ one → pos 0 ≤ℤ b
still-up a b (negsuc n) other up on low e = absurd (omega (arith, ints, up))
still-up a b (pos n) (negsuc m) up on low e = absurd (omega (arith, ints, on))
still-up a b (pos n) (pos m) up on low e = elim (sign_cases b) [
  | inl is ↦ omega (arith, ints, is)
  | inr (inl above) ↦ omega (arith, ints, above)
  | inr (inr below) ↦ absurd (not-opposite n m a b (omega (arith, ints, up)) low e below)
]

news-up : (x : Point) (joined : List Row) (news : List Mark) → AllZip (IsJoined x) joined news → Each (λ m. pos 0 ≤ℤ x.num (place m)) news
news-up x [] [] z = tt
news-up x [] (m ∷ news) z = absurd z
news-up x (r ∷ joined) [] z = absurd z
news-up x (r ∷ joined) (m ∷ news) (inl (e, up), z) = (up, news-up x joined news z)
news-up x (r ∷ joined) (m ∷ news) (inr (e, up), z) = (omega (arith, ints, up), news-up x joined news z)

-- the kept marks' values are those that they had
kept-up : (q : Problem) (kept : List Mark) (y : Point) → IsCorner q kept → StandsAt q kept y → NoNegativeValue q kept → Each (λ m. pos 0 ≤ℤ y.num (place m)) kept
kept-up q kept y corner stands (x, there, up) =
    let agree : (m : Mark) → Contains (map place (marks_of (lines q))) (place m) → x.num (place m) *ℤ y.num one_column ≡ y.num (place m) *ℤ x.num one_column =
    λ m is. agree-both (x.num (place m)) (y.num (place m)) (corner.point.num (place m)) (x.num one_column) (y.num one_column) (corner.point.num one_column) corner.point.positive
    (contains_each (λ c. corner.point.num c *ℤ x.num one_column ≡ x.num c *ℤ corner.point.num one_column) (marks_of (lines q)) (place m) (recursion_from_All (λ n. Agree (place n) corner.point x) (marks_of (lines q)) (corner.marks_fixed x there)) is)
    (contains_each (λ c. corner.point.num c *ℤ y.num one_column ≡ y.num c *ℤ corner.point.num one_column) (marks_of (lines q)) (place m) (recursion_from_All (λ n. Agree (place n) corner.point y) (marks_of (lines q)) (corner.marks_fixed y stands)) is) in
    each-impl (λ m. Contains (map place (marks_of (lines q))) (place m) × (pos 0 ≤ℤ x.num (place m))) (λ m. pos 0 ≤ℤ y.num (place m)) kept
    (λ m h. still-up (x.num (place m)) (y.num (place m)) (x.num one_column) (y.num one_column) x.positive y.positive h.1 (agree m h.0))
    (each-both _ _ kept (recursion_from_All (λ m. Contains (map place (marks_of (lines q))) (place m)) kept corner.marks) (recursion_from_All (λ m. pos 0 ≤ℤ x.num (place m)) kept up))

pub joined_values : (q : Problem) (rows : List Row) (kept at : List Mark) → IsWhole (with_rows rows q) → IsCorner q kept → NoNegativeValue q kept → BeginsWith (with_rows rows q) kept rows [] at → NoNegativeValue (with_rows rows q) at
joined_values q rows kept at whole corner up h =
    let all : rows ≡ rows ++ [] = sym (append-nil rows) in
    let before : StandsAt q kept h.point =
    subst (λ (rs : List Row). (w : IsWhole (record { rows = q.rows ++ rs; stays = q.stays })) (k : BeginsWith (record { rows = q.rows ++ rs; stays = q.stays }) kept rows [] at) → StandsAt q kept k.point)
    (sym all) (λ w k. stands-before q.rows rows [] q.stays kept at w k) whole h in (
      h.point,
      h.stands,
      All-from_recursion (λ m. pos 0 ≤ℤ h.point.num (place m)) at
          (each-impl (λ m. IsIn (place m) (kept ++ (h.news ++ []))) (λ m. pos 0 ≤ℤ h.point.num (place m)) at
          (λ m i. contains_each (λ c. pos 0 ≤ℤ h.point.num c) (kept ++ (h.news ++ [])) (place m)
          (each-joined (λ n. pos 0 ≤ℤ h.point.num (place n)) kept (h.news ++ []) (kept-up q kept h.point corner before up)
          (each-joined (λ n. pos 0 ≤ℤ h.point.num (place n)) h.news [] (news-up h.point rows h.news h.each) tt)) i)
          (recursion_from_All (λ m. IsIn (place m) (kept ++ (h.news ++ []))) at h.marks.0)),
    )

-- ---- the answers of a run from there

pub from_added : (p : Problem) (kept at : List Mark) (rows : List Row) → BeginsWith p kept rows [] at → at ≡ in_order p at → FromAdded p kept rows [] at
from_added p kept at rows begins ordered = (rows, append-nil rows, begins, ordered)

pub run_added : (p : Problem) (kept mid last : List Mark) (rows : List Row) (budget : ℕ) → FromAdded p kept rows [] mid → (path : Path) × IsRun false p (λ at. at ≡ mid) budget last path
    → (path : Path) × IsRun false p (FromAdded p kept rows []) budget last path
run_added p kept mid last rows budget from (path, run) = (
  path,
  record {
    kind = run.kind;
    begins = subst (FromAdded p kept rows []) (sym run.begins) from;
    lawful = run.lawful;
    ends = run.ends;
    few = run.few;
  },
)

pub unfit-added : (p : Problem) (old : List Row) (Begins : List Row → List Mark → Type 0) (mid : List Mark) (path : Path) (quantity : Quantity) → Begins [] mid → IsUnfitPath false p p.rows (FromHere mid) path quantity → IsUnfitPath false p old Begins path quantity
unfit-added p old Begins mid path (Plain what) from (begins, lawful, unfit) = (subst (Begins []) (sym begins.1) from, lawful, unfit)
unfit-added p old Begins mid path (Terms mark j) from (dual, none, corner, begins, unfit) = absurd (plain_alone p path.corner (Terms mark j) unfit)
unfit-added p old Begins mid path (Rows level j) from (none, begins, lawful, unfit) = absurd (plain_alone p path.corner (Rows level j) unfit)
unfit-added p old Begins mid path (Shifts what j) from (dual, none, begins, lawful, unfit) = absurd (plain_alone p path.corner (Shifts what j) unfit)

pub stop_added : (p : Problem) (old : List Row) (kept mid : List Mark) (rows : List Row) (budget : ℕ) (stop : RunStop) → FromAdded p kept rows [] mid → IsStopOf false p p.rows (FromHere mid) budget stop → IsStopOf false p old (FromAdded p kept rows) budget stop
stop_added p old kept mid rows budget (Conflict by) from h = h
stop_added p old kept mid rows budget (Spent path) from (primal, spent) = (
  primal,
  record {
    begins = subst (FromAdded p kept rows []) (sym spent.begins.1) from;
    lawful = spent.lawful;
    count = spent.count;
    no_end = spent.no_end;
  },
)
stop_added p old kept mid rows budget (Unfit at) from (primal, few, unfit) = (primal, few, unfit-added p old (FromAdded p kept rows) mid at.path at.quantity from unfit)
stop_added p old kept mid rows budget OutOfMemory from h = tt

-- ---- a corner at which rows have joined

pub record HasJoined (old new : CornerView) (rows : List Row) : Type 0 where
  pub whole : IsWhole (with_rows rows old.problem)
  pub kept : IsKeptCorner old.problem old.marks
  pub values : NoNegativeValue old.problem old.marks
  pub problem : new.problem ≡ with_rows rows old.problem
  pub begins : BeginsWith new.problem old.marks rows [] new.marks
  pub ordered : new.marks ≡ in_order new.problem new.marks

begins-there : (old new : CornerView) (rows : List Row) → HasJoined old new rows → BeginsWith (with_rows rows old.problem) old.marks rows [] new.marks
begins-there old new rows h = subst (λ (q : Problem). BeginsWith q old.marks rows [] new.marks) h.problem h.begins

from-there : (old new : CornerView) (rows : List Row) → HasJoined old new rows → FromAdded (with_rows rows old.problem) old.marks rows [] new.marks
from-there old new rows h = from_added (with_rows rows old.problem) old.marks new.marks rows (begins-there old new rows h) (subst (λ (q : Problem). new.marks ≡ in_order q new.marks) h.problem h.ordered)

pub values_there : (old new : CornerView) (rows : List Row) → HasJoined old new rows → NoNegativeValue new.problem new.marks
values_there old new rows h =
    subst (λ (q : Problem). NoNegativeValue q new.marks) (sym h.problem)
    (joined_values old.problem rows old.marks new.marks h.whole h.kept.corner h.values (begins-there old new rows h))

pub path_there : (old new : CornerView) (rows : List Row) (budget : ℕ) (last : List Mark) → HasJoined old new rows → (path : Path) × IsRun false new.problem (λ at. at ≡ new.marks) budget last path
    → (path : Path) × IsRun false (with_rows rows old.problem) (FromAdded (with_rows rows old.problem) old.marks rows []) budget last path
path_there old new rows budget last h run =
    run_added (with_rows rows old.problem) old.marks new.marks last rows budget (from-there old new rows h)
    (subst (λ (q : Problem). (path : Path) × IsRun false q (λ at. at ≡ new.marks) budget last path) h.problem run)

pub stop_there : (old new : CornerView) (rows : List Row) (budget : ℕ) (stop : RunStop) → HasJoined old new rows → IsStopOf false new.problem new.problem.rows (FromHere new.marks) budget stop
    → IsStopOf false (with_rows rows old.problem) old.problem.rows (FromAdded (with_rows rows old.problem) old.marks rows) budget stop
stop_there old new rows budget stop h stops =
    stop_added (with_rows rows old.problem) old.problem.rows old.marks new.marks rows budget stop (from-there old new rows h)
    (subst (λ (q : Problem). IsStopOf false q q.rows (FromHere new.marks) budget stop) h.problem stops)
