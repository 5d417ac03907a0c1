-- A level's cost up to a row that has joined it fits.
use Rattle.std.proofs.Common.{◌≡◌, ◌∙◌, ℕ, ◌+◌, ◌*◌, ◌-◌, ◌<◌, ◌≤◌, ◌++◌, List, ◌∷◌, length, take, drop, sym, ap, ap₂, subst, arith, inl, inr, slice_index_or}
use Rattle.std.proofs.lemmas.Bool.{cases_lt}
use Rattle.problem_core.specs.declared.parts.Mark.{Mark}
use Rattle.problem_core.specs.declared.parts.RowName.TheVariants.{Held}
use Rattle.problem_core.specs.declared.parts.Stay.{Stay}
use Rattle.problem_core.specs.Layout.{Problem, Row}
use Rattle.problem_core.specs.Levels.{HasNoLevelWriting}
use Rattle.problem_core.specs.Unfit.{with_first_rows}
use Rattle.corner_laws.proofs.LevelCosts.LevelNumbers.{level_numbers}
use Rattle.corner_lines.specs.Levels.LevelJoins.{level_count}
use Rattle.corner_table.specs.Tables.{Lists, line_slot, marks_at, priority_at, problem_of}
use Rattle.corner_joins.specs.Additions.Parts.{IsPartlyKept}
use Rattle.corner_joins.specs.Additions.CostJoins.{AreCostsJoined, AreToJoin, IsCostJoined, home_at, with_next}
use Rattle.corner_joins.specs.Additions.SumFits.{DoCostsFit}
use Rattle.corner_joins.proofs.Additions.RowStops.{this_row}
use Rattle.corner_joins.proofs.Costs.CostEnds.{held_home, joining_held}
use Rattle.corner_joins.proofs.Costs.CostLoops.{here_joins, joins_at}

cost-fits : (t : Lists) (line : ℕ) (u : Lists) → IsCostJoined t line u → HasNoLevelWriting (with_next t (home_at t line)) (marks_at t) (home_at t line) → ⊥
cost-fits t line u c none =
    let j = c.joined in
    none (j.row.own * j.size) j.row.level_row.by j.reduced c.change.value
    (level_numbers (with_next t (home_at t line)) (marks_at t) (home_at t line) j.size j.row.own j.row.level_row.by j.reduced j.least j.row.level_row.row j.reduced_by) j.cost j.fits j.value_kept

-- up to the row that joins next
here-fits : (t0 t u : Lists) (first rows : List Row) (i : ℕ) (r : Row) (line : ℕ) (listed0 old : List ℕ) → IsPartlyKept t → i < length rows → r ≡ slice_index_or rows i r → line ≡ line_slot t (Held r.id) → IsCostJoined t line u → AreToJoin t (first ++ take i rows) (drop i rows) → AreCostsJoined (take i rows) t0 listed0 t old
    → HasNoLevelWriting (with_first_rows (1000 - r.rank) (level_count (1000 - r.rank) (first ++ take i rows) + 1) (problem_of t0)) (marks_at t0) (1000 - r.rank) → ⊥
here-fits t0 t u first rows i r line listed0 old kept lt e at c h same none =
    let here = here_joins t first rows i r lt e h in
    let k : ℕ = 1000 - r.rank in
    let n : ℕ = level_count k (first ++ take i rows) + 1 in
    let home : home_at t line ≡ k = held_home t r line kept (joining_held t r line (joins_at t (first ++ take i rows) r (drop (i + 1) rows) line at here)) in
    let count : (priority_at t k).rows ≡ level_count k (first ++ take i rows) = here.counts k (let m : ℕ = r.rank in omega arith) in
    let problems : problem_of t ≡ problem_of t0 = ap₂ (λ (xs : List Row) (ss : List Stay). (let q : Problem = record { rows = xs; stays = ss } in q)) same.rows_same same.stays in
    let a : HasNoLevelWriting (with_first_rows k n (problem_of t)) (marks_at t0) k = subst (λ (p : Problem). HasNoLevelWriting (with_first_rows k n p) (marks_at t0) k) (sym problems) none in
    let b : HasNoLevelWriting (with_first_rows k n (problem_of t)) (marks_at t) k = subst (λ (ms : List Mark). HasNoLevelWriting (with_first_rows k n (problem_of t)) ms k) (sym same.marks) a in
    let d : HasNoLevelWriting (with_next t k) (marks_at t) k = subst (λ (m : ℕ). HasNoLevelWriting (with_first_rows k (m + 1) (problem_of t)) (marks_at t) k) (sym count) b in
    cost-fits t line u c (subst (λ (m : ℕ). HasNoLevelWriting (with_next t m) (marks_at t) m) (sym home) d)

-- ---- the loop

pub no_costs_fit : (t0 : Lists) (first rows : List Row) → DoCostsFit t0 first rows 0
no_costs_fit t0 first rows k r less e = absurd (omega (arith, less))

first-is : (x y : Row) (xs ys : List Row) → x ∷ xs ≡ y ∷ ys → x ≡ y
first-is x y xs ys e = ap (λ (zs : List Row). slice_index_or zs 0 x) e

abbrev FitsAt : Lists → List Row → List Row → ℕ → Row → Type 0
FitsAt t0 first rows k r = HasNoLevelWriting (with_first_rows (1000 - r.rank) (level_count (1000 - r.rank) (first ++ take k rows) + 1) (problem_of t0)) (marks_at t0) (1000 - r.rank) → ⊥

pub next_costs_fit : (t0 t u : Lists) (first rows : List Row) (i : ℕ) (r : Row) (line : ℕ) (listed0 old : List ℕ) → IsPartlyKept t → i < length rows → r ≡ slice_index_or rows i r → line ≡ line_slot t (Held r.id) → IsCostJoined t line u → AreToJoin t (first ++ take i rows) (drop i rows) → AreCostsJoined (take i rows) t0 listed0 t old
    → DoCostsFit t0 first rows i → DoCostsFit t0 first rows (i + 1)
next_costs_fit t0 t u first rows i r line listed0 old kept lt at slot c h same before k x less e = elim (cases_lt k i) [
  | inl lower ↦ before k x lower e
  | inr from ↦
      let equal : k ≡ i = omega (arith, less, from) in
      (subst (λ (n : ℕ). drop n rows ≡ x ∷ drop (n + 1) rows → FitsAt t0 first rows n x) (sym equal)
      (λ here. subst (λ (y : Row). FitsAt t0 first rows i y) (first-is r x (drop (i + 1) rows) (drop (i + 1) rows) (sym (this_row rows i r lt at) ∙ here)) (here-fits t0 t u first rows i r line listed0 old kept lt at slot c h same)))
      e
]

pub all_costs_fit : (t0 : Lists) (first rows : List Row) (i : ℕ) → length rows ≤ i → DoCostsFit t0 first rows i → DoCostsFit t0 first rows (length rows)
all_costs_fit t0 first rows i le h k r less e = h k r (omega (arith, less, le)) e
