-- A dual run is a lawful path: its columns stay, its costs rise, and so no corner comes twice.
use Rattle.std.proofs.Common.{◌≡◌, ◌≢◌, ◌∙◌, ℕ, zero, suc, ◌<◌, true, List, [], ◌∷◌, ◌++◌, ℤ, pos, negsuc, ◌-ℤ◌, ◌*ℤ◌, neg_ℤ, ◌<ℤ◌, ◌≤ℤ◌, refl, sym, ap, ap₂, subst, arith, inl, inr, ◌+◌}
use Rattle.std.specs.List.{AllByRecursion as Each}
use Rattle.std.proofs.lemmas.Bool.{cases_eq}
use Rattle.std.proofs.lemmas.List.Elements.{All-from_recursion, recursion_from_All}
use Rattle.std.proofs.lemmas.List.Kept.{AllPairs-cons}
use lib.IntN.{*ℤ_comm}
use borrow.Author.Differences.{ints}
use Rattle.frac_core.proofs.Integers.{cancel_mul, mul_left_comm_ℤ, mul-sub_left, mul-zero_ℤ, mul_not_negative, mul_positive}
use Rattle.problem_core.specs.declared.parts.Mark.{Mark}
use Rattle.problem_core.specs.declared.parts.RowName.{RowName}
use Rattle.problem_core.specs.declared.parts.Side.{Side}
use Rattle.problem_core.specs.declared.parts.Side.TheVariants.{Under, Over}
use Rattle.problem_core.specs.Layout.{Problem, coefficient, lines, stay_lines}
use Rattle.problem_core.specs.Kept.{IsWhole}
use Rattle.problem_core.specs.Corners.{ArePairwiseDifferent, IsCorner, IsExchange, IsIn, NoNegativeColumn, Point, SameMarks, StandsAt, Swap, attr_column, corners, exchanged, one_column, place, place_of}
use Rattle.problem_core.specs.Levels.{cost_at}
use Rattle.problem_core.specs.Changes.Paths.{ArePathSwaps, IsEndOf, IsPath, last_marks}
use Rattle.problem_core.specs.Rays.{HasRays}
use Rattle.problem_core.proofs.Forms.{each-impl}
use Rattle.corner_laws.specs.Laws.{IsMarkAt}
use Rattle.corner_laws.specs.Runs.{AreDualSwaps, IsDualSwap, Writes, Writing, other_mark, other_side}
use Rattle.corner_laws.specs.Sums.{AreReducedAt}
use Rattle.corner_laws.proofs.MarkWritings.LowestForms.{marks_are_fixed}
use Rattle.corner_laws.proofs.RunSteps.ColumnSigns.{mark_line, pick}
use Rattle.corner_laws.proofs.Counting.{IsSmall, one_mark, over_next, rows_small, sides_apart, stays_small}
use Rattle.problem_core.proofs.Corners.Tableaus.{unit_at}
use Rattle.corner_laws.proofs.MarkWritings.Directions.{entries-opposite, entry_of, none-unless, ray_number}
use Rattle.corner_laws.proofs.Swaps.DualChoice.{dual_choice_stays}
use Rattle.corner_laws.proofs.LevelCosts.LevelExists.{cost_fixed}
use Rattle.corner_laws.proofs.Swaps.Pivots.{pivot_is_exchange}
use Rattle.corner_laws.proofs.Rays.{rays_after}
use Rattle.corner_laws.proofs.PathEnds.Rises.{dual_never_falls, dual_rises}
use Rattle.corner_laws.proofs.RunSteps.RunPaths.{contains_in, same_stands, same_writes}
use Rattle.corner_laws.proofs.WrittenValues.{contains_each}
use Rattle.frac_core.proofs.Numbers.{product-up as up-both, as-natural as above-zero, neg-times, up-from as sign-from}
use Rattle.frac_core.proofs.Bools.{count-other as cond_other, count-same as cond_same}

-- ---- costs over two denominators

-- x's cost is that of y
abbrev Same : Problem → Point → Point → ℕ → Type 0
Same p x y k = y.num one_column *ℤ cost_at p k x.num ≡ x.num one_column *ℤ cost_at p k y.num

abbrev NotAbove : Problem → Point → Point → ℕ → Type 0
NotAbove p x y k = (y.num one_column *ℤ cost_at p k x.num) ≤ℤ (x.num one_column *ℤ cost_at p k y.num)

-- at the first level where they differ, y costs more
abbrev Rises : Problem → Point → Point → Type 0
Rises p x y = (level : ℕ) → ((k : ℕ) → k < level → Same p x y k) → NotAbove p x y level

-- o, q, r are denominators: a/o, b/q, c/r
same-from : (o q r : ℕ) (a b c : ℤ) → 0 < r → (pos q *ℤ a) ≤ℤ (pos o *ℤ b) → (pos r *ℤ b) ≤ℤ (pos q *ℤ c) → pos r *ℤ a ≡ pos o *ℤ c → pos q *ℤ a ≡ pos o *ℤ b
same-from o q r a b c above h k e =
    let one : pos 0 ≤ℤ (pos o *ℤ (pos q *ℤ c -ℤ pos r *ℤ b)) = mul_not_negative o (pos q *ℤ c -ℤ pos r *ℤ b) (omega (arith, ints, k)) in
    let two : pos o *ℤ (pos q *ℤ c -ℤ pos r *ℤ b) ≡ pos q *ℤ (pos o *ℤ c) -ℤ pos r *ℤ (pos o *ℤ b) =
    mul-sub_left (pos o) (pos q *ℤ c) (pos r *ℤ b) ∙ ap₂ ◌-ℤ◌ (mul_left_comm_ℤ (pos o) (pos q) c) (mul_left_comm_ℤ (pos o) (pos r) b) in
    let three : pos q *ℤ (pos o *ℤ c) ≡ pos r *ℤ (pos q *ℤ a) = ap (λ (z : ℤ). pos q *ℤ z) (sym e) ∙ mul_left_comm_ℤ (pos q) (pos r) a in
    let four : pos r *ℤ (pos q *ℤ a -ℤ pos o *ℤ b) ≡ pos r *ℤ (pos q *ℤ a) -ℤ pos r *ℤ (pos o *ℤ b) = mul-sub_left (pos r) (pos q *ℤ a) (pos o *ℤ b) in
    let five : pos 0 ≤ℤ (pos q *ℤ a -ℤ pos o *ℤ b) = sign-from r (pos q *ℤ a -ℤ pos o *ℤ b) above (omega (arith, ints, one, two, three, four)) in
    omega (arith, ints, five, h)

same-rest : (o q r : ℕ) (a b c : ℤ) → 0 < o → pos q *ℤ a ≡ pos o *ℤ b → pos r *ℤ a ≡ pos o *ℤ c → pos r *ℤ b ≡ pos q *ℤ c
same-rest o q r a b c above e f =
    cancel_mul o (pos r *ℤ b) (pos q *ℤ c) above
    (mul_left_comm_ℤ (pos o) (pos r) b ∙ ap (λ (z : ℤ). pos r *ℤ z) (sym e) ∙ mul_left_comm_ℤ (pos r) (pos q) a ∙ ap (λ (z : ℤ). pos q *ℤ z) f ∙ mul_left_comm_ℤ (pos q) (pos o) c)

not-above : (o q r : ℕ) (a b c : ℤ) → 0 < q → (pos q *ℤ a) ≤ℤ (pos o *ℤ b) → (pos r *ℤ b) ≤ℤ (pos q *ℤ c) → (pos r *ℤ a) ≤ℤ (pos o *ℤ c)
not-above o q r a b c above h k =
    let one : pos 0 ≤ℤ (pos r *ℤ (pos o *ℤ b -ℤ pos q *ℤ a)) = mul_not_negative r (pos o *ℤ b -ℤ pos q *ℤ a) (omega (arith, ints, h)) in
    let two : pos 0 ≤ℤ (pos o *ℤ (pos q *ℤ c -ℤ pos r *ℤ b)) = mul_not_negative o (pos q *ℤ c -ℤ pos r *ℤ b) (omega (arith, ints, k)) in
    let three : pos r *ℤ (pos o *ℤ b -ℤ pos q *ℤ a) ≡ pos o *ℤ (pos r *ℤ b) -ℤ pos q *ℤ (pos r *ℤ a) =
    mul-sub_left (pos r) (pos o *ℤ b) (pos q *ℤ a) ∙ ap₂ ◌-ℤ◌ (mul_left_comm_ℤ (pos r) (pos o) b) (mul_left_comm_ℤ (pos r) (pos q) a) in
    let four : pos o *ℤ (pos q *ℤ c -ℤ pos r *ℤ b) ≡ pos q *ℤ (pos o *ℤ c) -ℤ pos o *ℤ (pos r *ℤ b) =
    mul-sub_left (pos o) (pos q *ℤ c) (pos r *ℤ b) ∙ ap (λ (z : ℤ). z -ℤ pos o *ℤ (pos r *ℤ b)) (mul_left_comm_ℤ (pos o) (pos q) c) in
    let five : pos q *ℤ (pos o *ℤ c -ℤ pos r *ℤ a) ≡ pos q *ℤ (pos o *ℤ c) -ℤ pos q *ℤ (pos r *ℤ a) = mul-sub_left (pos q) (pos o *ℤ c) (pos r *ℤ a) in
    let six : pos 0 ≤ℤ (pos o *ℤ c -ℤ pos r *ℤ a) = sign-from q (pos o *ℤ c -ℤ pos r *ℤ a) above (omega (arith, ints, one, two, three, four, five)) in
    omega (arith, ints, six)

-- the denominators as numbers
abbrev den : Point → ℕ
den x = (above-zero (x.num one_column) x.positive).0

den-above : (x : Point) → 0 < den x
den-above x = (above-zero (x.num one_column) x.positive).1

den-is : (x : Point) → x.num one_column ≡ pos (den x)
den-is x = (above-zero (x.num one_column) x.positive).2

to-pos : (R : ℤ → ℤ → Type 0) (x y : Point) (a b : ℤ) → R (y.num one_column *ℤ a) (x.num one_column *ℤ b) → R (pos (den y) *ℤ a) (pos (den x) *ℤ b)
to-pos R x y a b h = subst (λ (z : ℤ). R (pos (den y) *ℤ a) (z *ℤ b)) (den-is x) (subst (λ (z : ℤ). R (z *ℤ a) (x.num one_column *ℤ b)) (den-is y) h)

from-pos : (R : ℤ → ℤ → Type 0) (x y : Point) (a b : ℤ) → R (pos (den y) *ℤ a) (pos (den x) *ℤ b) → R (y.num one_column *ℤ a) (x.num one_column *ℤ b)
from-pos R x y a b h = subst (λ (z : ℤ). R (y.num one_column *ℤ a) (z *ℤ b)) (sym (den-is x)) (subst (λ (z : ℤ). R (z *ℤ a) (pos (den x) *ℤ b)) (sym (den-is y)) h)

abbrev Equals : ℤ → ℤ → Type 0
Equals a b = a ≡ b

abbrev AtMost : ℤ → ℤ → Type 0
AtMost a b = a ≤ℤ b

same_rest : (p : Problem) (x y z : Point) (k : ℕ) → Same p x y k → Same p x z k → Same p y z k
same_rest p x y z k e f =
    from-pos Equals y z (cost_at p k y.num) (cost_at p k z.num)
    (same-rest (den x) (den y) (den z) (cost_at p k x.num) (cost_at p k y.num) (cost_at p k z.num) (den-above x)
    (to-pos Equals x y (cost_at p k x.num) (cost_at p k y.num) e) (to-pos Equals x z (cost_at p k x.num) (cost_at p k z.num) f))

-- where the first and the last cost the same up to a level, so does what is between
same_between : (p : Problem) (x y z : Point) → Rises p x y → Rises p y z → (level : ℕ) → ((k : ℕ) → k < level → Same p x z k) → (k : ℕ) → k < level → Same p x y k
same_between p x y z f h zero all k less = absurd (omega (arith, less))
same_between p x y z f h (suc level) all k less =
    let before = same_between p x y z f h level (λ j lt. all j (omega (arith, lt))) in
    elim (cases_eq k level) [
      | inr ne ↦ before k (omega (arith, less, ne))
      | inl e ↦
          let rest : (j : ℕ) → j < level → Same p y z j = λ j lt. same_rest p x y z j (before j lt) (all j (omega (arith, lt))) in
          subst (λ (j : ℕ). Same p x y j) (sym e)
          (from-pos Equals x y (cost_at p level x.num) (cost_at p level y.num)
          (same-from (den x) (den y) (den z) (cost_at p level x.num) (cost_at p level y.num) (cost_at p level z.num) (den-above z)
          (to-pos AtMost x y (cost_at p level x.num) (cost_at p level y.num) (f level before)) (to-pos AtMost y z (cost_at p level y.num) (cost_at p level z.num) (h level rest))
          (to-pos Equals x z (cost_at p level x.num) (cost_at p level z.num) (all level (omega arith)))))
    ]

rises_trans : (p : Problem) (x y z : Point) → Rises p x y → Rises p y z → Rises p x z
rises_trans p x y z f h level all =
    let before = same_between p x y z f h level all in
    let rest : (j : ℕ) → j < level → Same p y z j = λ j lt. same_rest p x y z j (before j lt) (all j lt) in
    from-pos AtMost x z (cost_at p level x.num) (cost_at p level z.num)
    (not-above (den x) (den y) (den z) (cost_at p level x.num) (cost_at p level y.num) (cost_at p level z.num) (den-above y)
    (to-pos AtMost x y (cost_at p level x.num) (cost_at p level y.num) (f level before)) (to-pos AtMost y z (cost_at p level y.num) (cost_at p level z.num) (h level rest)))

-- ---- one exchange

pub record HasGone (p : Problem) (at : List Mark) (s : Swap) : Type 0 where
  pub exchange : IsExchange p at s
  pub columns : NoNegativeColumn p (exchanged s at)

pub up-some : (s : ℕ) (a k r : ℤ) → pos 0 <ℤ k → pos 0 <ℤ r → pos s *ℤ a ≡ k *ℤ r → a ≢ pos 0
up-some s a k r up grow e none =
    let one : pos 0 <ℤ (k *ℤ r) = up-both k r up grow in
    let two : pos s *ℤ a ≡ pos 0 = ap (λ (z : ℤ). pos s *ℤ z) none ∙ mul-zero_ℤ (pos s) in
    absurd (omega (arith, ints, one, two, e))

dual_step : (p : Problem) (at : List Mark) (s : Swap) → IsWhole p → IsCorner p at → HasRays p at → NoNegativeColumn p at → IsDualSwap p at s → HasGone p at s
dual_step p at s whole corner rays columns h =
    let w : Writing = h.leaving in
    let r = rays (place s.enter) h.mark h.enters in
    let moves : pos w.scale *ℤ r.0 (place s.leave) ≡ coefficient (place s.enter) w.form *ℤ r.0 (place s.enter) = ray_number p at (place s.leave) w.scale w.form w.num w.den corner.point (place s.enter) r.0 corner.stands.0 h.writes r.1 in
    record {
      exchange = pivot_is_exchange p at s r.0 corner h.mark h.enters h.leaves r.1 (up-some w.scale (r.0 (place s.leave)) (coefficient (place s.enter) w.form) (r.0 (place s.enter)) h.choice.0 r.1.here moves);
      columns = dual_choice_stays p at s w.scale w.form w.num w.den h.reduced whole corner rays h.mark h.enters h.leaves h.writes h.levels h.choice columns;
    }

-- the leaving mark's value is below 0 at each point of the corner
low_there : (p : Problem) (at : List Mark) (c : ℕ) (x y : Point) → IsCorner p at → IsMarkAt p c → StandsAt p at x → StandsAt p at y → x.num c <ℤ pos 0 → y.num c <ℤ pos 0
low_there p at c x y corner mark here there low =
    low-crossed (x.num c) (y.num c) (den x) (den y) (den-above y) low
    (subst (λ (z : ℤ). x.num c *ℤ pos (den y) ≡ y.num c *ℤ z) (den-is x) (subst (λ (z : ℤ). x.num c *ℤ z ≡ y.num c *ℤ x.num one_column) (den-is y) (marks_are_fixed p at c corner mark x y here there)))
  where
    low-crossed : (a b : ℤ) (n m : ℕ) → 0 < m → a <ℤ pos 0 → a *ℤ pos m ≡ b *ℤ pos n → b <ℤ pos 0
    low-crossed a (negsuc b) n m above h e = omega (arith, ints)
    low-crossed (pos a) (pos b) n m above h e = absurd (omega (arith, ints, h))
    low-crossed (negsuc a) (pos b) n m above h e =
        let one : pos 0 <ℤ (pos m *ℤ neg_ℤ (negsuc a)) = mul_positive m (neg_ℤ (negsuc a)) above (omega (arith, ints)) in
        let two : pos m *ℤ neg_ℤ (negsuc a) ≡ neg_ℤ (negsuc a *ℤ pos m) = *ℤ_comm (pos m) (neg_ℤ (negsuc a)) ∙ neg-times (negsuc a) (pos m) in
        let three : pos 0 ≤ℤ (pos n *ℤ pos b) = mul_not_negative n (pos b) (omega (arith, ints)) in
        absurd (omega (arith, ints, one, two, three, e, *ℤ_comm (pos b) (pos n)))

-- costs do not fall, and do not all stay
pub record HasRisen (p : Problem) (x y : Point) : Type 0 where
  pub rises : Rises p x y
  pub not_same : ((k : ℕ) → Same p x y k) → ⊥

risen_step : (p : Problem) (at : List Mark) (s : Swap) (x y : Point) → IsWhole p → IsCorner p at → IsDualSwap p at s → HasGone p at s → StandsAt p at x → StandsAt p (exchanged s at) y → HasRisen p x y
risen_step p at s x y whole corner h g here there =
    let leaving : IsMarkAt p (place s.leave) = contains_each (λ c. IsMarkAt p c) at (place s.leave) (recursion_from_All (λ m. IsMarkAt p (place m)) at corner.marks) h.leaves in
    let low : x.num (place s.leave) <ℤ pos 0 = low_there p at (place s.leave) h.value.0 x corner leaving h.value.1 here h.value.2 in
    record {
      rises = λ level before. dual_never_falls p at s x y level whole leaving g.exchange here there low g.columns before;
      not_same = λ all. dual_rises p at s x y whole leaving g.exchange here there low g.columns all;
    }

risen_trans : (p : Problem) (x y z : Point) → HasRisen p x y → HasRisen p y z → HasRisen p x z
risen_trans p x y z f h = record {
  rises = rises_trans p x y z f.rises h.rises;
  not_same = λ all. f.not_same (λ k. same_between p x y z f.rises h.rises (suc k) (λ j less. all j) k (omega arith));
}

-- ---- all exchanges

pub record IsHigherCorner (p : Problem) (x : Point) (at : List Mark) : Type 0 where
  pub point : Point
  pub stands : StandsAt p at point
  pub risen : HasRisen p x point

higher_all : (p : Problem) (at : List Mark) (s : Swap) (swaps : List Swap) (x : Point) → IsWhole p → IsCorner p at → HasRays p at → NoNegativeColumn p at → StandsAt p at x → AreDualSwaps p at (s ∷ swaps) → Each (IsHigherCorner p x) (corners (exchanged s at) swaps)
higher_all p at s [] x whole corner rays columns here run =
    let g = dual_step p at s whole corner rays columns run.0 in
    (record { point = g.exchange.corner.point; stands = g.exchange.corner.stands; risen = risen_step p at s x g.exchange.corner.point whole corner run.0 g here g.exchange.corner.stands }, tt)
higher_all p at s (t ∷ swaps) x whole corner rays columns here run =
    let g = dual_step p at s whole corner rays columns run.0 in
    let y : Point = g.exchange.corner.point in
    let first : HasRisen p x y = risen_step p at s x y whole corner run.0 g here g.exchange.corner.stands in (
      record { point = y; stands = g.exchange.corner.stands; risen = first },
      each-impl (IsHigherCorner p y) (IsHigherCorner p x) (corners (exchanged t (exchanged s at)) swaps)
          (λ b l. record { point = l.point; stands = l.stands; risen = risen_trans p x y l.point first l.risen })
          (higher_all p (exchanged s at) t swaps y whole g.exchange.corner (rays_after p at s run.0.mark g.exchange rays) g.columns g.exchange.corner.stands run.1),
    )

-- at the same marks the costs are the same
same_costs : (p : Problem) (at b : List Mark) (x y : Point) → IsCorner p at → SameMarks at b → StandsAt p at x → StandsAt p b y → (k : ℕ) → Same p x y k
same_costs p at b x y corner same here there k =
    *ℤ_comm (y.num one_column) (cost_at p k x.num) ∙ cost_fixed p at k corner x y here (same_stands p at b y (λ v i. contains_in b at v same.1 i) there) ∙ *ℤ_comm (cost_at p k y.num) (x.num one_column)

dual_apart : (p : Problem) (at : List Mark) (swaps : List Swap) → IsWhole p → IsCorner p at → HasRays p at → NoNegativeColumn p at → AreDualSwaps p at swaps → ArePairwiseDifferent (corners at swaps)
dual_apart p at [] whole corner rays columns run = AllPairs-cons (λ (a b : List Mark). SameMarks a b → ⊥) at [] (All-from_recursion (λ b. SameMarks at b → ⊥) [] tt) (λ i j d less within. absurd (omega (arith, within)))
dual_apart p at (s ∷ swaps) whole corner rays columns run =
    let g = dual_step p at s whole corner rays columns run.0 in
    AllPairs-cons (λ (a b : List Mark). SameMarks a b → ⊥) at (corners (exchanged s at) swaps)
    (All-from_recursion (λ b. SameMarks at b → ⊥) (corners (exchanged s at) swaps)
    (each-impl (IsHigherCorner p corner.point) (λ b. SameMarks at b → ⊥) (corners (exchanged s at) swaps)
    (λ b l same. l.risen.not_same (same_costs p at b corner.point l.point corner same corner.stands l.stands))
    (higher_all p at s swaps corner.point whole corner rays columns corner.stands run)))
    (dual_apart p (exchanged s at) swaps whole g.exchange.corner (rays_after p at s run.0.mark g.exchange rays) g.columns run.1)

dual_lawful : (p : Problem) (at : List Mark) (swaps : List Swap) → IsWhole p → IsCorner p at → HasRays p at → NoNegativeColumn p at → AreDualSwaps p at swaps → ArePathSwaps true p at swaps
dual_lawful p at [] whole corner rays columns run = columns
dual_lawful p at (s ∷ swaps) whole corner rays columns run =
    let g = dual_step p at s whole corner rays columns run.0 in
    (columns, run.0.no_end, g.exchange, run.0.value, dual_lawful p (exchanged s at) swaps whole g.exchange.corner (rays_after p at s run.0.mark g.exchange rays) g.columns run.1)

-- ---- the laws

pub dual_run_is_path : (p : Problem) (at : List Mark) (swaps : List Swap) → IsWhole p → IsCorner p at → HasRays p at → NoNegativeColumn p at → AreDualSwaps p at swaps → IsPath true p at swaps
dual_run_is_path p at swaps whole corner rays columns run = record {
  corner = corner;
  apart = dual_apart p at swaps whole corner rays columns run;
  lawful = dual_lawful p at swaps whole corner rays columns run;
}

pub dual_run_grows : (p : Problem) (at : List Mark) (swaps : List Swap) (s : Swap) → AreDualSwaps p at swaps → IsDualSwap p (last_marks at swaps) s → AreDualSwaps p at (swaps ++ s ∷ [])
dual_run_grows p at [] s run swap = (swap, tt)
dual_run_grows p at (t ∷ swaps) s run swap = (run.0, dual_run_grows p (exchanged t at) swaps s run.1 swap)

same_levels : (p : Problem) (at other : List Mark) (level : ℕ) (reduced : ℕ → ℤ) → ((v : ℕ) → IsIn v other → IsIn v at) → AreReducedAt p at level reduced → AreReducedAt p other level reduced
same_levels p at other level reduced back (inr unused) = inr unused
same_levels p at other level reduced back (inl (scale, times, w)) = inl (
  scale,
  times,
  record {
    scale_positive = w.scale_positive;
    cancel = w.cancel;
    columns = w.columns;
    inside_zero = λ side i d within here. w.inside_zero side i d within (back _ here);
    lowest = w.lowest;
  },
)

same_dual_end : (p : Problem) (at other : List Mark) → SameMarks at other → IsEndOf true p other → IsEndOf true p at
same_dual_end p at other same (inl (x, stands, values)) =
    let back : (v : ℕ) → IsIn v other → IsIn v at = λ v i. contains_in other at v same.1 i in
    inl (
      x,
      same_stands p at other x back stands,
      All-from_recursion (λ m. pos 0 ≤ℤ x.num (place m)) at
          (each-impl (λ m. IsIn (place m) other) (λ m. pos 0 ≤ℤ x.num (place m)) at (λ m i. contains_each (λ c. pos 0 ≤ℤ x.num c) other (place m) (recursion_from_All (λ m. pos 0 ≤ℤ x.num (place m)) other values) i) (recursion_from_All (λ m. IsIn (place m) other) at same.0)),
    )
same_dual_end p at other same (inr (x, stands, cost)) = inr (x, same_stands p at other x (λ v i. contains_in other at v same.1 i) stands, cost)

pub dual_order_is_free : (p : Problem) (at other : List Mark) (s : Swap) → SameMarks at other → IsDualSwap p at s → IsDualSwap p other s
dual_order_is_free p at other s same h =
    let to : (v : ℕ) → IsIn v at → IsIn v other = λ v i. contains_in at other v same.0 i in
    let back : (v : ℕ) → IsIn v other → IsIn v at = λ v i. contains_in other at v same.1 i in
    record {
      no_end = λ end. h.no_end (same_dual_end p at other same end);
      mark = h.mark;
      enters = λ i. h.enters (back (place s.enter) i);
      leaves = to (place s.leave) h.leaves;
      value = (h.value.0, same_stands p other at h.value.0 to h.value.1, h.value.2);
      leaving = h.leaving;
      writes = same_writes p at other (place s.leave) h.leaving back h.writes;
      reduced = h.reduced;
      levels = λ level. same_levels p at other level (h.reduced level) back (h.levels level);
      choice = h.choice;
    }

-- ---- the other mark of a line

names-small : (a b : RowName) (s t : Side) → place_of a s ≡ place_of b t → IsSmall a → IsSmall b
names-small a b Under Under e h = subst (λ (n : ℕ). n + 1 < attr_column 0) e h
names-small a b Over Over e h = let f = over_next a in let g = over_next b in let i : place_of b Under + 1 < attr_column 0 = omega (arith, h, e, f, g) in i
names-small a b Under Over e h = absurd (sides_apart b a (sym e))
names-small a b Over Under e h = absurd (sides_apart a b e)

small_row : (p : Problem) (m : Mark) → IsWhole p → IsMarkAt p (place m) → IsSmall m.row
small_row p m whole mark =
    let f = mark_line (lines p) (place m) mark in
    names-small f.2.name m.row f.0 m.side f.5
    (pick (λ l. IsSmall l.name) (lines p) f.1 f.2 (rows_small p.rows (stay_lines 1001 p.stays) (recursion_from_All _ _ whole.rows) (stays_small 1001 p.stays (recursion_from_All _ _ whole.stays))) f.3 f.4)

-- a is the mark's own entry, b that of the other
grown : (s : ℕ) (u o f g : ℤ) → u ≡ pos 1 → o ≡ pos 0 → f ≡ pos 0 → pos s *ℤ o -ℤ g ≡ neg_ℤ (pos s *ℤ u -ℤ f) → g ≡ pos s
grown s u o f g e h k l =
    let a : pos s *ℤ u ≡ pos s = ap (λ (z : ℤ). pos s *ℤ z) e ∙ (let t : pos s *ℤ pos 1 ≡ pos s = omega (arith, ints) in t) in
    let b : pos s *ℤ o ≡ pos 0 = ap (λ (z : ℤ). pos s *ℤ z) h ∙ mul-zero_ℤ (pos s) in
    omega (arith, ints, a, b, k, l)

turned-back : (a b : ℤ) → a ≡ neg_ℤ b → b ≡ neg_ℤ a
turned-back a b e = omega (arith, ints, e)

other-grows : (p : Problem) (at : List Mark) (name : RowName) (side : Side) (w : Writing) → IsSmall name → IsCorner p at → IsIn (place_of name side) at → Writes p at (place_of name side) w → (IsIn (place_of name (other_side side)) at → ⊥) × (coefficient (place_of name (other_side side)) w.form ≡ pos w.scale)
other-grows p at name Under w small corner inside writes = (
  λ i. one_mark p at name small corner inside i,
  grown w.scale (unit_at (place_of name Under) (place_of name Under)) (unit_at (place_of name Under) (place_of name Over)) (coefficient (place_of name Under) w.form) (coefficient (place_of name Over) w.form)
      (cond_same (place_of name Under) (place_of name Under) (pos 1) refl) (cond_other (place_of name Over) (place_of name Under) (pos 1) (sides_apart name name))
      (none-unless p at w.form (place_of name Under) writes.outside (λ o. o.1 inside))
      (entries-opposite p at (place_of name Under) w.scale w.form w.num w.den corner.point name corner.stands.0 writes small),
)
other-grows p at name Over w small corner inside writes = (
  λ i. one_mark p at name small corner i inside,
  grown w.scale (unit_at (place_of name Over) (place_of name Over)) (unit_at (place_of name Over) (place_of name Under)) (coefficient (place_of name Over) w.form) (coefficient (place_of name Under) w.form)
      (cond_same (place_of name Over) (place_of name Over) (pos 1) refl) (cond_other (place_of name Under) (place_of name Over) (pos 1) (λ e. sides_apart name name (sym e)))
      (none-unless p at w.form (place_of name Over) writes.outside (λ o. o.1 inside))
      (turned-back (entry_of (place_of name Over) w.scale w.form (place_of name Over)) (entry_of (place_of name Over) w.scale w.form (place_of name Under)) (entries-opposite p at (place_of name Over) w.scale w.form w.num w.den corner.point name corner.stands.0 writes small)),
)

-- both marks of a line can grow together: so with an inside one the other grows as much
pub other_mark_grows : (p : Problem) (at : List Mark) (m : Mark) (w : Writing) → IsWhole p → IsCorner p at → IsIn (place m) at → Writes p at (place m) w → (IsIn (place (other_mark m)) at → ⊥) × (coefficient (place (other_mark m)) w.form ≡ pos w.scale)
other_mark_grows p at m w whole corner inside writes =
    other-grows p at m.row m.side w (small_row p m whole (contains_each (λ c. IsMarkAt p c) at (place m) (recursion_from_All (λ n. IsMarkAt p (place n)) at corner.marks) inside)) corner inside writes
