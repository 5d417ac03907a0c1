-- Fronts: the first level at which a mark's reduced cost is not 0.
use Rattle.std.proofs.Common.{◌≡◌, ◌≢◌, ◌∙◌, ◌⊎◌, inl, inr, ℕ, suc, ◌+◌, ◌++◌, ◌<◌, List, [], ◌∷◌, map, ℤ, pos, ◌≤ℤ◌, ◌<ℤ◌, refl, sym, ap, subst, arith, All, Any, Contains}
use Rattle.std.specs.List.{AllByRecursion as Each}
use Rattle.std.proofs.lemmas.Bool.{cases_eq}
use Rattle.std.proofs.lemmas.List.Elements.{recursion_from_All, All-from_recursion}
use borrow.Author.Differences.{ints}
use Rattle.problem_core.specs.declared.parts.Mark.{Mark}
use Rattle.problem_core.specs.declared.parts.Side.{Side}
use Rattle.problem_core.specs.declared.parts.Side.TheVariants.{Under, Over}
use Rattle.problem_core.specs.declared.parts.RowName.{RowName}
use Rattle.problem_core.specs.declared.parts.RowName.TheVariants.{Stay as StayOf}
use Rattle.problem_core.specs.declared.parts.Level.{Level}
use Rattle.problem_core.specs.declared.parts.Level.TheVariants.{Priority, Stay as StayLevel}
use Rattle.problem_core.specs.declared.parts.Stay.{Stay}
use Rattle.problem_core.specs.Layout.{Line, Problem, Row, line_of_row, lines, stay_lines}
use Rattle.problem_core.specs.Kept.{IsRow, IsWhole}
use Rattle.problem_core.proofs.Forms.{each-impl}
use Rattle.problem_core.specs.Certificates.{IsLexNonnegative}
use Rattle.problem_core.specs.Corners.{HasNegativeColumn, IsCorner, IsIn, NoNegativeColumn, marks_of, place, place_of}
use Rattle.problem_core.specs.Levels.{IsLevelAt, IsLevelWriting}
use Rattle.problem_core.specs.Rays.{HasRays}
use Rattle.corner_laws.specs.Sums.{AreReducedAt}
use Rattle.corner_laws.proofs.RunSteps.ColumnSigns.{mark_line, negative_by_reduced, none_negative_by_reduced, pick}
use Rattle.corner_laws.proofs.LevelCosts.Equal.{numbers_are_equal}
use Rattle.corner_laws.proofs.LevelCosts.LevelExists.{level_writing_exists}
use Rattle.corner_lines.proofs.LevelRows.StayRows.{level_one}
use Rattle.corner_view.specs.declared.types.Front.{Front}
use Rattle.corner_view.specs.Fronts.{HasNoFront, IsFrontOf}
use Rattle.corner_view.specs.Seen.{IsInUse, IsKeptCorner, IsMarkOf, IsOutside, IsReducedAt}
use Rattle.corner_ends.specs.Columns.{IsNegative, Reduced}
use Rattle.corner_ends.proofs.Signs.{reduced_by_negative}
use Rattle.corner_view.proofs.Facts.{up_or_low}
use Rattle.frac_core.proofs.Orders.{three as order}

-- ---- the reduced costs of all levels

-- a line stands at the level, or none does
pub some_line : (ls : List Line) (k : ℕ) → Any (λ l. l.level ≡ k) ls ⊎ All (λ l. l.level ≢ k) ls
some_line [] k = inr (All-from_recursion (λ l. l.level ≢ k) [] tt)
some_line (l ∷ ls) k =
    elim (cases_eq l.level k) [
      | inl e ↦ inl (0, l, omega arith, refl, e)
      | inr ne ↦ elim (some_line ls k) [
        | inl (i, x, within, is, e) ↦ inl (suc i, x, omega (arith, within), is, e)
        | inr none ↦ inr (All-from_recursion (λ m. m.level ≢ k) (l ∷ ls) (ne, recursion_from_All (λ m. m.level ≢ k) ls none))
      ]
    ]

chosen : (p : Problem) (at : List Mark) (k : ℕ) → IsWhole p → IsCorner p at → HasRays p at → (Any (λ l. l.level ≡ k) (lines p) ⊎ All (λ l. l.level ≢ k) (lines p))
    → (r : ℕ → ℤ) × AreReducedAt p at k r × (All (λ l. l.level ≢ k) (lines p) → (v : ℕ) → r v ≡ pos 0)
chosen p at k whole corner rays (inl (i, x, within, is, e)) =
    let w = level_writing_exists p at k whole corner rays in
    (w.2, inl (w.0, w.1, w.3), λ none. absurd (none i x within (ap (λ (l : Line). l.level) is ∙ e)))
chosen p at k whole corner rays (inr none) = ((λ v. pos 0), inr (none, (λ v. refl)), λ n v. refl)

pub reduced_at_all : (p : Problem) (at : List Mark) → IsKeptCorner p at → HasRays p at → Reduced p at
reduced_at_all p at kept rays =
    let all = λ (k : ℕ). chosen p at k kept.whole kept.corner rays (some_line (lines p) k) in
    record { costs = λ k. (all k).0; are = λ k. (all k).1; unused = λ k. (all k).2 }

-- what is equal at the marks of each line is equal at each mark
at_mark : (p : Problem) (m : Mark) (r q : ℕ → ℤ) → IsMarkOf p m → Each (λ l. (r (place_of l.name Under) ≡ q (place_of l.name Under)) × (r (place_of l.name Over) ≡ q (place_of l.name Over))) (lines p) → r (place m) ≡ q (place m)
at_mark p m r q is same =
    let found = mark_line (lines p) (place m) is in
    by-side found.0 found.2 found.5 (pick (λ l. (r (place_of l.name Under) ≡ q (place_of l.name Under)) × (r (place_of l.name Over) ≡ q (place_of l.name Over))) (lines p) found.1 found.2 same found.3 found.4)
  where
    by-side : (side : Side) (l : Line) → place_of l.name side ≡ place m → (r (place_of l.name Under) ≡ q (place_of l.name Under)) × (r (place_of l.name Over) ≡ q (place_of l.name Over)) → r (place m) ≡ q (place m)
    by-side Under l e h = subst (λ (v : ℕ). r v ≡ q v) e h.0
    by-side Over l e h = subst (λ (v : ℕ). r v ≡ q v) e h.1

drop-first : (p : Problem) (y z : RowName → ℤ) (r q : ℕ → ℤ) → All (λ l. (y l.name ≡ z l.name) × ((r (place_of l.name Under) ≡ q (place_of l.name Under)) × (r (place_of l.name Over) ≡ q (place_of l.name Over)))) (lines p) → Each (λ l. (r (place_of l.name Under) ≡ q (place_of l.name Under)) × (r (place_of l.name Over) ≡ q (place_of l.name Over))) (lines p)
drop-first p y z r q h = recursion_from_All (λ l. (r (place_of l.name Under) ≡ q (place_of l.name Under)) × (r (place_of l.name Over) ≡ q (place_of l.name Over))) (lines p) (λ i d within. (h i d within).1)

-- the mark's reduced cost at a level is the one there
pub reduced_same : (p : Problem) (at : List Mark) (r : Reduced p at) (k : ℕ) (m : Mark) (scale : ℕ) (times : RowName → ℤ) (reduced : ℕ → ℤ) → IsWhole p → HasRays p at → Any (λ l. l.level ≡ k) (lines p) → IsMarkOf p m → IsLevelWriting p at k scale times reduced → r.costs k (place m) ≡ reduced (place m)
reduced_same p at r k m scale times reduced whole rays (i, x, within, is, e) mark w =
    elim (r.are k) [
      | inl (s, t, v) ↦ at_mark p m (r.costs k) reduced mark (drop-first p t times (r.costs k) reduced (numbers_are_equal p at k s scale t times (r.costs k) reduced whole rays v w).1)
      | inr (none, zeros) ↦ absurd (none i x within (ap (λ (l : Line). l.level) is ∙ e))
    ]

-- inside it is 0
pub inside_zero : (p : Problem) (at : List Mark) (r : Reduced p at) (k : ℕ) (m : Mark) → IsMarkOf p m → IsIn (place m) at → r.costs k (place m) ≡ pos 0
inside_zero p at r k m mark i =
    elim (r.are k) [
      | inl (s, t, v) ↦
          let found = mark_line (lines p) (place m) mark in
          subst (λ (c : ℕ). r.costs k c ≡ pos 0) found.5
          (pick (λ l. IsIn (place_of l.name found.0) at → r.costs k (place_of l.name found.0) ≡ pos 0) (lines p) found.1 found.2 (recursion_from_All _ (lines p) (v.inside_zero found.0)) found.3 found.4
          (subst (λ (c : ℕ). IsIn c at) (sym found.5) i))
      | inr (none, zeros) ↦ zeros (place m)
    ]

-- ---- the levels of lines

abbrev LevelOfLine : Line → Type 0
LevelOfLine l = ((rank : ℕ) × (l.level + rank ≡ 1000)) ⊎ ((attr : ℕ) × (l.name ≡ StayOf attr))

row-levels : (rows : List Row) → Each IsRow rows → Each LevelOfLine (map line_of_row rows)
row-levels [] h = tt
row-levels (r ∷ rows) h = (let small = h.0.rank in inl (r.rank, omega (arith, small)), row-levels rows h.1)

stay-levels : (k : ℕ) (stays : List Stay) → Each LevelOfLine (stay_lines k stays)
stay-levels k [] = tt
stay-levels k (s ∷ stays) = (inr (s.attr, refl), stay-levels (k + 1) stays)

both-parts : (xs ys : List Line) → Each LevelOfLine xs → Each LevelOfLine ys → Each LevelOfLine (xs ++ ys)
both-parts [] ys h g = g
both-parts (x ∷ xs) ys h g = (h.0, both-parts xs ys h.1 g)

line-levels : (p : Problem) → IsWhole p → Each LevelOfLine (lines p)
line-levels p whole = both-parts (map line_of_row p.rows) (stay_lines 1001 p.stays) (row-levels p.rows (recursion_from_All IsRow p.rows whole.rows)) (stay-levels 1001 p.stays)

-- a level at which a line stands has a name
pub level_named : (p : Problem) (k : ℕ) → IsWhole p → Any (λ l. l.level ≡ k) (lines p) → (level : Level) × IsLevelAt p level k
level_named p k whole (i, x, within, is, e) =
    elim (pick LevelOfLine (lines p) i x (line-levels p whole) within is) [
      | inl (rank, same) ↦ (Priority rank, subst (λ (n : ℕ). n + rank ≡ 1000) e same)
      | inr (attr, name) ↦ (StayLevel attr, (i, x, within, is, (name, e)))
    ]

pub used_line : (p : Problem) (level : Level) (k : ℕ) → IsWhole p → IsLevelAt p level k → IsInUse p level → Any (λ l. l.level ≡ k) (lines p)
used_line p level k whole here (i, x, within, is, there) = (i, x, within, is, level_one p level x.level k whole there here)

-- the mark's reduced cost at a level in use
pub reduced_there : (p : Problem) (at : List Mark) (r : Reduced p at) (level : Level) (k : ℕ) (m : Mark) (z : ℤ) → IsWhole p → HasRays p at → IsMarkOf p m → Any (λ l. l.level ≡ k) (lines p) → IsLevelAt p level k → IsReducedAt p at level m z → r.costs k (place m) ≡ z
reduced_there p at r level k m z whole rays mark used here (j, there, (scale, times, reduced, w, e)) =
    reduced_same p at r k m scale times reduced whole rays used mark (subst (λ (n : ℕ). IsLevelWriting p at n scale times reduced) (level_one p level j k whole there here) w) ∙ sym e

none_there : (p : Problem) (at : List Mark) (r : Reduced p at) (m : Mark) (k : ℕ) → IsWhole p → HasRays p at → IsMarkOf p m → ((level : Level) → IsLevelAt p level k → IsInUse p level → IsReducedAt p at level m (pos 0)) → r.costs k (place m) ≡ pos 0
none_there p at r m k whole rays mark all =
    elim (some_line (lines p) k) [
      | inl used ↦
          let named = level_named p k whole used in
          reduced_there p at r named.0 k m (pos 0) whole rays mark used named.1
          (all named.0 named.1 (used.0, used.1, used.2, used.3, subst (λ (n : ℕ). IsLevelAt p named.0 n) (sym used.4) named.1))
      | inr none ↦ r.unused k none (place m)
    ]

-- the mark's costs before its front, and there
pub record Fronted (costs : ℕ → ℤ) (front : ℤ) : Type 0 where
  pub level : ℕ
  pub before : (k : ℕ) → k < level → costs k ≡ pos 0
  pub there : costs level ≡ front

pub fronted : (p : Problem) (at : List Mark) (r : Reduced p at) (m : Mark) (f : Front) → IsWhole p → HasRays p at → IsMarkOf p m → IsFrontOf p at m f → Fronted (λ k. r.costs k (place m)) f.reduced
fronted p at r m f whole rays mark h =
    let k = h.reduced.0 in
    let here = h.reduced.1 in
    record {
      level = k;
      before = λ j less.
          none_there p at r m j whole rays mark
          (λ level at_j used.
          h.first level used
          (λ a b first second.
          let x : a ≡ j = level_one p level a j whole first at_j in
          let y : b ≡ k = level_one p f.level b k whole second here in
          omega (arith, x, y, less)));
      there = reduced_there p at r f.level k m f.reduced whole rays mark (used_line p f.level k whole here h.used) here h.reduced;
    }

-- ---- what a front says

pub front_below : (p : Problem) (at : List Mark) (m : Mark) (f : Front) → IsKeptCorner p at → IsMarkOf p m → IsFrontOf p at m f → f.reduced <ℤ pos 0 → IsNegative p at m
front_below p at m f kept mark h low =
    let r = reduced_at_all p at kept kept.rays in
    let front = fronted p at r m f kept.whole kept.rays mark h in
    let down : r.costs front.level (place m) <ℤ pos 0 = subst (λ (z : ℤ). z <ℤ pos 0) (sym front.there) low in
    record {
      outside = (mark, λ i. let zero = inside_zero p at r front.level m mark i in omega (arith, ints, zero, down));
      column = negative_by_reduced p at r.costs m kept.whole r.are mark (front.level, front.before, down);
    }

up-here : (a b : ℕ) (costs : ℕ → ℤ) (front : ℤ) → a ≡ b → costs a ≡ front → costs b <ℤ pos 0 → pos 0 ≤ℤ front → ⊥
up-here a b costs front e there low up = let g : costs b ≡ front = ap costs (sym e) ∙ there in omega (arith, ints, g, low, up)

pub front_above : (p : Problem) (at : List Mark) (m : Mark) (f : Front) → IsKeptCorner p at → IsMarkOf p m → IsFrontOf p at m f → pos 0 ≤ℤ f.reduced → HasNegativeColumn p at m → ⊥
front_above p at m f kept mark h up column =
    let r = reduced_at_all p at kept kept.rays in
    let front = fronted p at r m f kept.whole kept.rays mark h in
    let low = reduced_by_negative p at r.costs m kept.whole kept.rays r.are column in
    elim (order front.level low.0) [
      | inl less ↦ h.nonzero (sym front.there ∙ low.1 front.level less)
      | inr (inl same) ↦ up-here front.level low.0 (λ k. r.costs k (place m)) f.reduced same front.there low.2 up
      | inr (inr more) ↦ let none = front.before low.0 more in let down = low.2 in omega (arith, ints, none, down)
    ]

pub no_front : (p : Problem) (at : List Mark) (m : Mark) → IsKeptCorner p at → IsMarkOf p m → HasNoFront p at m → HasNegativeColumn p at m → ⊥
no_front p at m kept mark h column =
    let r = reduced_at_all p at kept kept.rays in
    let low = reduced_by_negative p at r.costs m kept.whole kept.rays r.are column in
    let none = none_there p at r m low.0 kept.whole kept.rays mark (λ level here used. h level used) in
    let down = low.2 in
    omega (arith, ints, none, down)

-- ---- all marks

pub each_mark : (ls : List Line) → Each (λ m. Contains (map place (marks_of ls)) (place m)) (marks_of ls)
each_mark [] = tt
each_mark (l ∷ ls) = ((0, omega arith, refl), ((1, omega arith, refl), each-impl (λ m. Contains (map place (marks_of ls)) (place m)) (λ m. Contains (map place (marks_of (l ∷ ls))) (place m)) (marks_of ls) (λ m h. (suc (suc h.0), (let within = h.1 in omega (arith, within)), h.2)) (each_mark ls)))

-- where no outside mark has a negative column, no column is negative
pub none_negative : (p : Problem) (at : List Mark) → IsKeptCorner p at → ((m : Mark) → IsOutside p at m → HasNegativeColumn p at m → ⊥) → NoNegativeColumn p at
none_negative p at kept none =
    let r = reduced_at_all p at kept kept.rays in
    none_negative_by_reduced p at r.costs r.are
    (All-from_recursion (λ m. IsLexNonnegative (λ level. r.costs level (place m))) (marks_of (lines p))
    (each-impl (λ m. IsMarkOf p m) _ (marks_of (lines p))
    (λ m mark k before. elim (up_or_low (r.costs k (place m))) [
      | inl up ↦ up
      | inr low ↦
          absurd (none m (mark, λ i. let zero = inside_zero p at r k m mark i in omega (arith, ints, zero, low))
          (negative_by_reduced p at r.costs m kept.whole r.are mark (k, before, low)))
    ])
    (each_mark (lines p))))

-- ---- the level of the required rows

pub level_0 : (p : Problem) (k : ℕ) → IsLevelAt p (Priority 1000) k → k ≡ 0
level_0 p k h = omega (arith, h)

-- a reduced cost at a level, whether or not it is in use
pub any_there : (p : Problem) (at : List Mark) (k : ℕ) (m : Mark) (z : ℤ) → IsReducedAt p at (Priority 1000) m z → (scale : ℕ) × (times : RowName → ℤ) × (reduced : ℕ → ℤ) × IsLevelWriting p at 0 scale times reduced × (z ≡ reduced (place m))
any_there p at k m z (j, there, (scale, times, reduced, w, e)) = (scale, times, reduced, subst (λ (n : ℕ). IsLevelWriting p at n scale times reduced) (level_0 p j there) w, e)
