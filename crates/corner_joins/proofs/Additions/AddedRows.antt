-- Rows that have joined a corner and its levels.
use Rattle.std.proofs.Common.{◌≡◌, ◌≢◌, ◌∙◌, inl, inr, ℕ, ◌+◌, ◌-◌, ◌<◌, ◌≤◌, ◌++◌, Bool, true, false, cond, nat_eq, List, [], ◌∷◌, map, refl, sym, ap, subst, arith, All, AllPairs, slice_index_or, eq-eqb, pos}
use Rattle.std.specs.List.{AllByRecursion as Each, AllZip, filter}
use Rattle.std.proofs.lemmas.List.{append-nil as append_none}
use Rattle.std.proofs.lemmas.List.Elements.{All-from_recursion, recursion_from_All}
use Rattle.cert_core.specs.declared.stops.RunStop.{RunStop}
use Rattle.cert_core.specs.declared.stops.RunStop.TheVariants.{Conflict, Unfit, Spent, OutOfMemory}
use Rattle.problem_core.specs.declared.parts.Mark.{Mark}
use Rattle.problem_core.specs.declared.parts.Level.TheVariants.{Priority as PriorityLevel}
use Rattle.problem_core.specs.declared.stops.Quantity.TheVariants.{Rows}
use Rattle.problem_core.specs.Layout.{Problem, Row}
use Rattle.problem_core.specs.Kept.{IsRow}
use Rattle.problem_core.specs.Changes.Begins.{BeginsWith, IsJoined}
use Rattle.problem_core.specs.Corners.{NoNegativeValue, IsIn, Point, place}
use Rattle.problem_core.specs.Unfit.{IsNewAt, IsUnfitRows, over_mark}
use Rattle.problem_core.specs.Changes.Paths.{IsPath}
use Rattle.corner_laws.specs.Lifts.{HasOneIn, with_rows}
use Rattle.corner_laws.proofs.Counting.{head_pairs}
use Rattle.corner_lines.specs.Levels.LevelJoins.{level_count}
use Rattle.corner_table.specs.declared.table.Priority.{Priority}
use Rattle.corner_view.specs.AddStops.{IsAddStop}
use Rattle.corner_view.specs.Seen.{in_order}
use Rattle.corner_table.specs.Invariants.{seen_of}
use Rattle.corner_table.specs.Tables.{Lists, marks_at, problem_of}
use Rattle.corner_table.specs.Kept.{IsKept}
use Rattle.corner_joins.specs.Additions.Parts.{IsPartlyKept}
use Rattle.corner_joins.specs.Additions.RowJoins.{ArePushed}
use Rattle.corner_joins.specs.Additions.CostJoins.{AreToJoin, IsCostsStop}
use Rattle.corner_table.proofs.Readings.KeptFacts.{marks_ordered}
use Rattle.corner_table.proofs.Readings.MarkingFacts.{marks_inside}
use Rattle.corner_view.proofs.Facts.{append_more}
use Rattle.corner_joins.proofs.Additions.RowPaths.{problem_so_far}
use Rattle.frac_core.proofs.Lists.{pairs-rest as tail_pairs}
use Rattle.problem_core.proofs.Marks.{no-swaps}

-- ---- the rows to join

one-in : (rows : List Row) (news at : List Mark) (x : Point) → AllZip (IsJoined x) rows news → Each (λ m. IsIn (place m) at) news → Each (HasOneIn at) rows
one-in [] [] at x z h = tt
one-in [] (m ∷ news) at x z h = absurd z
one-in (r ∷ rows) [] at x z h = absurd z
one-in (r ∷ rows) (m ∷ news) at x z h = (by-mark z.0, one-in rows news at x z.1 h.1)
  where
    by-mark : IsJoined x r m → HasOneIn at r
    by-mark (inl (e, up)) = inr (subst (λ (n : Mark). IsIn (place n) at) e h.0)
    by-mark (inr (e, up)) = inl (subst (λ (n : Mark). IsIn (place n) at) e h.0)

each-part : (P : Mark → Type 0) (xs ys zs : List Mark) → Each P (xs ++ (ys ++ zs)) → Each P ys
each-part P (x ∷ xs) ys zs h = each-part P xs ys zs h.1
each-part P [] [] zs h = tt
each-part P [] (y ∷ ys) zs h = (h.0, each-part P [] ys zs h.1)

pub begins_one_in : (p : Problem) (kept : List Mark) (rows : List Row) (at : List Mark) → BeginsWith p kept rows [] at → All (HasOneIn at) rows
begins_one_in p kept rows at b =
    All-from_recursion (HasOneIn at) rows
    (one-in rows b.news at b.point b.each
    (each-part (λ m. IsIn (place m) at) kept b.news (map (λ (r : Row). over_mark r.id) []) (recursion_from_All (λ m. IsIn (place m) at) (kept ++ (b.news ++ map (λ (r : Row). over_mark r.id) [])) b.marks.1)))

pub pushed_to_join : (t u : Lists) (rows : List Row) → IsKept t → ArePushed rows t u → BeginsWith (problem_of u) (marks_at t) rows [] (marks_at u) → AreToJoin u t.rows rows
pushed_to_join t u rows kept pushed begins = record {
  rows = pushed.rows;
  counts = λ k lt. ap (λ (xs : List Priority). (slice_index_or xs k (record { unit = pos 1; rows = 0 })).rows) pushed.priorities ∙ (kept.levels k lt).rows;
  inside = begins_one_in (problem_of u) (marks_at t) rows (marks_at u) begins;
}

-- ---- a stop

filter-two : (p : Row → Bool) (xs ys : List Row) → filter p (xs ++ ys) ≡ filter p xs ++ filter p ys
filter-two p [] ys = refl
filter-two p (x ∷ xs) ys = either (p x) x (filter p (xs ++ ys)) (filter p xs) (filter p ys) (filter-two p xs ys)
  where
    either : (b : Bool) (x : Row) (all some rest : List Row) → all ≡ some ++ rest → cond b (x ∷ all) all ≡ cond b (x ∷ some) some ++ rest
    either true x all some rest e = ap (λ (ys : List Row). x ∷ ys) e
    either false x all some rest e = e

-- the row is the first of its level past these
pub new-at : (k : ℕ) (old before : List Row) (r : Row) (rest : List Row) (j : ℕ) → k ≡ 1000 - r.rank → j ≡ level_count k before + 1 → All (λ (s : Row). s.id ≢ r.id) old → IsNewAt old j (filter (λ s. nat_eq (1000 - s.rank) k) (before ++ (r ∷ rest)))
new-at k old before r rest j e c new = (
  filter (λ s. nat_eq (1000 - s.rank) k) before,
  r,
  filter (λ s. nat_eq (1000 - s.rank) k) rest,
  filter-two (λ s. nat_eq (1000 - s.rank) k) before (r ∷ rest)
      ∙ ap (λ (b : Bool). filter (λ s. nat_eq (1000 - s.rank) k) before ++ cond b (r ∷ filter (λ s. nat_eq (1000 - s.rank) k) rest) (filter (λ s. nat_eq (1000 - s.rank) k) rest)) (eq-eqb (1000 - r.rank) k (sym e)),
  sym c,
  new,
)

pick : (P : Row → Type 0) (xs : List Row) (r : Row) (ys : List Row) → Each P (xs ++ (r ∷ ys)) → P r
pick P [] r ys h = h.0
pick P (x ∷ xs) r ys h = pick P xs r ys h.1

left-of : (P : Row → Type 0) (xs ys : List Row) → Each P (xs ++ ys) → Each P xs
left-of P [] ys h = tt
left-of P (x ∷ xs) ys h = (h.0, left-of P xs ys h.1)

before-ids : (xs : List Row) (r : Row) (ys : List Row) → AllPairs (λ r s. r.id < s.id) (xs ++ (r ∷ ys)) → Each (λ (s : Row). s.id ≢ r.id) xs
before-ids [] r ys h = tt
before-ids (x ∷ xs) r ys h = (
  (λ e. let less = pick (λ (s : Row). x.id < s.id) xs r ys (recursion_from_All (λ (s : Row). x.id < s.id) (xs ++ (r ∷ ys)) (head_pairs (λ (a b : Row). a.id < b.id) x (xs ++ (r ∷ ys)) h)) in omega (arith, less, e)),
  before-ids xs r ys (tail_pairs (λ (a b : Row). a.id < b.id) x (xs ++ (r ∷ ys)) h),
)

shown : (t mid : Lists) (rows done : List Row) (r : Row) (rest : List Row) (j : ℕ) → ArePushed rows t mid → BeginsWith (problem_of mid) (marks_at t) rows [] (marks_at mid) → IsPartlyKept mid → NoNegativeValue (problem_of mid) (marks_at mid) → rows ≡ done ++ (r ∷ rest)
    → j ≡ level_count (1000 - r.rank) (t.rows ++ done) + 1 → IsUnfitRows (problem_of mid) (marks_at mid) (PriorityLevel r.rank) j
    → IsAddStop (seen_of t) rows (Unfit (record { path = record { dual = false; corner = marks_at mid; swaps = [] }; quantity = Rows (PriorityLevel r.rank) j }))
shown t mid rows done r rest j pushed begins kept values parts count unfit =
    let p : Problem = with_rows rows (problem_of t) in
    let same : problem_of mid ≡ with_rows rows (problem_of t) = problem_so_far rows t mid pushed in
    let all : mid.rows ≡ (t.rows ++ done) ++ (r ∷ rest) = pushed.rows ∙ ap (λ (xs : List Row). t.rows ++ xs) parts ∙ sym (append_more t.rows done (r ∷ rest)) in
    let new : All (λ (s : Row). s.id ≢ r.id) t.rows = All-from_recursion (λ (s : Row). s.id ≢ r.id) t.rows
    (left-of (λ (s : Row). s.id ≢ r.id) t.rows done (before-ids (t.rows ++ done) r rest (subst (λ (xs : List Row). AllPairs (λ r s. r.id < s.id) xs) all kept.whole.rising))) in
    let is_new : IsNewAt t.rows j (filter (λ s. nat_eq (1000 - s.rank) (1000 - r.rank)) mid.rows) =
    subst (λ (xs : List Row). IsNewAt t.rows j (filter (λ s. nat_eq (1000 - s.rank) (1000 - r.rank)) xs)) (sym all) (new-at (1000 - r.rank) t.rows (t.rows ++ done) r rest j refl count new) in
    let rank : r.rank ≤ 1000 = (subst (λ (xs : List Row). Each IsRow xs → IsRow r) (sym all) (pick IsRow (t.rows ++ done) r rest) (recursion_from_All IsRow mid.rows kept.whole.rows)).rank in (
      tt,
      (
        refl,
        omega arith,
        (
          refl,
          (rows, append_none rows, subst (λ (q : Problem). BeginsWith q (marks_at t) rows [] (marks_at mid)) same begins, subst (λ (q : Problem). marks_at mid ≡ in_order q (marks_at mid)) same (marks_ordered mid)),
          subst (λ (q : Problem). IsPath false q (marks_at mid) []) same (no-swaps (problem_of mid) (marks_at mid) kept.corner values),
          (
            subst (λ (q : Problem). IsUnfitRows q (marks_at mid) (PriorityLevel r.rank) j) same unfit,
            (1000 - r.rank, omega (arith, rank), subst (λ (q : Problem). IsNewAt t.rows j (filter (λ s. nat_eq (1000 - s.rank) (1000 - r.rank)) q.rows)) same is_new),
          ),
        ),
      ),
    )

pub costs_add_stop : (t mid : Lists) (rows : List Row) (stop : RunStop) → ArePushed rows t mid → BeginsWith (problem_of mid) (marks_at t) rows [] (marks_at mid) → IsPartlyKept mid → NoNegativeValue (problem_of mid) (marks_at mid)
    → IsCostsStop mid t.rows rows stop → IsAddStop (seen_of t) rows stop
costs_add_stop t mid rows (Conflict by) pushed begins kept values h = absurd h
costs_add_stop t mid rows (Spent path) pushed begins kept values h = absurd h
costs_add_stop t mid rows OutOfMemory pushed begins kept values h = tt
costs_add_stop t mid rows (Unfit at) pushed begins kept values (path, (done, r, rest, parts, (j, quantity, count, unfit))) =
    subst (λ x. IsAddStop (seen_of t) rows (Unfit (record { path = x; quantity = at.quantity }))) (sym (path ∙ ap (λ (ms : List Mark). record { dual = false; corner = ms; swaps = [] }) (marks_inside mid)))
    (subst (λ x. IsAddStop (seen_of t) rows (Unfit (record { path = record { dual = false; corner = marks_at mid; swaps = [] }; quantity = x }))) (sym quantity)
    (shown t mid rows done r rest j pushed begins kept values parts count unfit))
