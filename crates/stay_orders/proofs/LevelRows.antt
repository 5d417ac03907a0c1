-- Sums over the lines of a problem in another order of its stays, and what priority levels cost there.
use Rattle.std.proofs.Common.{◌≡◌, ℕ, ◌+◌, ◌*◌, ◌/◌, ◌<◌, ◌≤◌, arith, Bool, true, false, cond, nat_eq, not, List, [], ◌∷◌, ◌++◌, refl, filter, map, sym, ap, ap₂, subst, ◌∙◌, ◌≢◌, ℤ, pos, ◌+ℤ◌, ◌*ℤ◌, ◌-ℤ◌, neg_ℤ, ne_eqb}
use Rattle.std.specs.Prelude.{All, Contains, unsigned_abs}
use Rattle.std.specs.Int.{◌∣◌}
use Rattle.std.proofs.lemmas.List.Elements.{recursion_from_All, All-from_recursion}
use borrow.Author.Differences.{ints}
use Rattle.frac_core.proofs.Sums.{sum-append}
use Rattle.problem_core.specs.declared.parts.Mark.{Mark}
use Rattle.problem_core.specs.declared.parts.Side.TheVariants.{Under, Over}
use Rattle.problem_core.specs.declared.parts.RowName.{RowName}
use Rattle.problem_core.specs.declared.parts.Rel.TheVariants.{Eq}
use Rattle.problem_core.specs.declared.parts.RowName.TheVariants.{Stay as StayOf}
use Rattle.problem_core.specs.declared.parts.Stay.{Stay}
use Rattle.problem_core.specs.Certificates.{under_weight, over_weight, weight_at}
use Rattle.problem_core.specs.Corners.{IsIn, equation, marks_of, place, place_of}
use Rattle.problem_core.specs.Layout.{Line, Problem, Row, coefficient, line_of_row, line_of_stay, lines, stay_lines, sum_of, value_at}
use Rattle.problem_core.specs.Rays.{HasRays, IsRay}
use Rattle.corner_laws.specs.Units.{IsLevelRow, IsLevelUnit, IsReducedBy, over_share, under_share}
use Rattle.stay_orders.specs.Orders.{fronted, is_of, with_first, with_front}
use Rattle.stay_orders.specs.Levels.{FrontedLevels}
use Rattle.stay_orders.proofs.Corners.{Unseen, all_marks_back, all_marks_to, lines_back, lines_to}
use Rattle.stay_orders.proofs.Members.{there_before}

-- ---- sums

first-in : (x a b s : ℤ) → a +ℤ b ≡ s → (x +ℤ a) +ℤ b ≡ x +ℤ s
first-in x a b s h = omega (arith, ints, h)

second-in : (x a b s : ℤ) → a +ℤ b ≡ s → a +ℤ (x +ℤ b) ≡ x +ℤ s
second-in x a b s h = omega (arith, ints, h)

split-by : {A : Type 0} (g : A → ℤ) (x : A) (xs ys : List A) (s : ℤ) (b : Bool) → sum_of g xs +ℤ sum_of g ys ≡ s → sum_of g (cond b (x ∷ xs) xs) +ℤ sum_of g (cond (not b) (x ∷ ys) ys) ≡ g x +ℤ s
split-by g x xs ys s true h = first-in (g x) (sum_of g xs) (sum_of g ys) s h
split-by g x xs ys s false h = second-in (g x) (sum_of g xs) (sum_of g ys) s h

split : {A : Type 0} (g : A → ℤ) (f : A → Bool) (xs : List A) → sum_of g (filter f xs) +ℤ sum_of g (filter (λ x. not (f x)) xs) ≡ sum_of g xs
split g f [] = omega (arith, ints)
split g f (x ∷ xs) = split-by g x (filter f xs) (filter (λ y. not (f y)) xs) (sum_of g xs) (f x) (split g f xs)

front_sum : (g : Stay → ℤ) (attrs : List ℕ) (stays : List Stay) → sum_of g (with_front attrs stays) ≡ sum_of g stays
front_sum g [] stays = refl
front_sum g (attr ∷ attrs) stays =
    sum-append g (filter (is_of attr) (with_front attrs stays)) (filter (λ s. not (is_of attr s)) (with_front attrs stays))
    ∙ split g (is_of attr) (with_front attrs stays) ∙ front_sum g attrs stays

-- what is the same at each level that may be a stay's
abbrev pub IsLevelless : (Line → ℤ) → Type 0
IsLevelless f = (j k : ℕ) (s : Stay) → 1001 ≤ j → 1001 ≤ k → f (line_of_stay j s) ≡ f (line_of_stay k s)

stays_sum : (f : Line → ℤ) → IsLevelless f → (n : ℕ) (stays : List Stay) → 1001 ≤ n → sum_of f (stay_lines n stays) ≡ sum_of (λ s. f (line_of_stay 1001 s)) stays
stays_sum f same n [] above = refl
stays_sum f same n (s ∷ stays) above = ap₂ (λ (x y : ℤ). x +ℤ y) (same n 1001 s above (omega arith)) (stays_sum f same (n + 1) stays (omega (arith, above)))

pub lines_sum : (f : Line → ℤ) → IsLevelless f → (attrs : List ℕ) (p : Problem) → sum_of f (lines (fronted attrs p)) ≡ sum_of f (lines p)
lines_sum f same attrs p =
    sum-append f (map line_of_row p.rows) (stay_lines 1001 (with_front attrs p.stays))
    ∙ ap (λ (z : ℤ). sum_of f (map line_of_row p.rows) +ℤ z)
    (stays_sum f same 1001 (with_front attrs p.stays) (omega arith) ∙ front_sum (λ s. f (line_of_stay 1001 s)) attrs p.stays ∙ sym (stays_sum f same 1001 p.stays (omega arith)))
    ∙ sym (sum-append f (map line_of_row p.rows) (stay_lines 1001 p.stays))

-- ---- rays

abbrev Grows : (ℕ → ℤ) → Line → Type 0
Grows ray l = value_at ray (equation l) ≡ pos 0

pub ray_there : (attrs : List ℕ) (p : Problem) (at : List Mark) (c : ℕ) (ray : ℕ → ℤ) → IsRay p at c ray → IsRay (fronted attrs p) at c ray
ray_there attrs p at c ray r = record {
  holds = All-from_recursion (Grows ray) (lines (fronted attrs p))
      (lines_to (Grows ray) (λ j k s above up h. h) attrs p (recursion_from_All (Grows ray) (lines p) r.holds));
  still = r.still;
  here = r.here;
  other = all_marks_to (λ m. (IsIn (place m) at → ⊥) → place m ≢ c → ray (place m) ≡ pos 0) attrs p r.other;
}

pub rays : (attrs : List ℕ) (p : Problem) (at : List Mark) → HasRays p at → HasRays (fronted attrs p) at
rays attrs p at have c named out = let r = have c (there_before attrs p c named) out in (r.0, ray_there attrs p at c r.0 r.1)

-- ---- priority levels

-- a stay has no weight there
no_weight : (j k : ℕ) (s : Stay) → k < 1001 → 1001 ≤ j → weight_at (line_of_stay j s) k ≡ 0
no_weight j k s below above = ap (λ (b : Bool). cond b 1 0) (ne_eqb j k (λ e. omega (arith, e, below, above)))

pub same_weight : (i j k : ℕ) (s : Stay) → k < 1001 → 1001 ≤ i → 1001 ≤ j → weight_at (line_of_stay i s) k ≡ weight_at (line_of_stay j s) k
same_weight i j k s below above up = no_weight i k s below above ∙ sym (no_weight j k s below up)

-- what reads a stay's line by its weight there alone
by_weight : (P : Line → Type 0) (Q : Stay → ℕ → Type 0) (k : ℕ) → k < 1001
    → ((j : ℕ) (s : Stay) → P (line_of_stay j s) → Q s (weight_at (line_of_stay j s) k))
    → ((j : ℕ) (s : Stay) → Q s (weight_at (line_of_stay j s) k) → P (line_of_stay j s)) → Unseen P
by_weight P Q k below to back i j s above up h = back j s (subst (Q s) (same_weight i j k s below above up) (to i s h))

module _ (attrs : List ℕ) (p : Problem) (level : ℕ) (below : level < 1001) where
  abbrev q : Problem
  q = fronted attrs p

  all_to : (P : Line → Type 0) → Unseen P → All P (lines p) → All P (lines q)
  all_to P same h = All-from_recursion P (lines q) (lines_to P same attrs p (recursion_from_All P (lines p) h))

  all_back : (P : Line → Type 0) → Unseen P → All P (lines q) → All P (lines p)
  all_back P same h = All-from_recursion P (lines p) (lines_back P same attrs p (recursion_from_All P (lines q) h))

  abbrev Whole : ℕ → Line → Type 0
  Whole n l = l.scale ∣ n * weight_at l level

  whole_unseen : (n : ℕ) → Unseen (Whole n)
  whole_unseen n = by_weight (Whole n) (λ s w. 1 ∣ n * w) level below (λ j s h. h) (λ j s h. h)

  abbrev InUnder : List Mark → ℕ → ℕ → (RowName → ℤ) → Line → Type 0
  InUnder at unit own by l = IsIn (place_of l.name Under) at → by l.name ≡ pos (own * under_share unit level l)

  under_unseen : (at : List Mark) (unit own : ℕ) (by : RowName → ℤ) → Unseen (InUnder at unit own by)
  under_unseen at unit own by = by_weight (InUnder at unit own by)
      (λ s w. IsIn (place_of (StayOf s.attr) Under) at → by (StayOf s.attr) ≡ pos (own * under_weight Eq (unit * w / 1))) level below (λ j s h. h) (λ j s h. h)

  abbrev InOver : List Mark → ℕ → ℕ → (RowName → ℤ) → Line → Type 0
  InOver at unit own by l = IsIn (place_of l.name Over) at → by l.name ≡ neg_ℤ (pos (own * over_share unit level l))

  over_unseen : (at : List Mark) (unit own : ℕ) (by : RowName → ℤ) → Unseen (InOver at unit own by)
  over_unseen at unit own by = by_weight (InOver at unit own by)
      (λ s w. IsIn (place_of (StayOf s.attr) Over) at → by (StayOf s.attr) ≡ neg_ℤ (pos (own * over_weight Eq (unit * w / 1)))) level below (λ j s h. h) (λ j s h. h)

  abbrev Divided : List Mark → (RowName → ℤ) → ℕ → Line → Type 0
  Divided at by k l = (IsIn (place_of l.name Under) at → ⊥) → (IsIn (place_of l.name Over) at → ⊥) → k ∣ unsigned_abs (by l.name)

  abbrev UnderCost : ℕ → ℕ → (RowName → ℤ) → (ℕ → ℤ) → Line → Type 0
  UnderCost unit own by reduced l = reduced (place_of l.name Under) ≡ pos (own * under_share unit level l) -ℤ by l.name

  abbrev OverCost : ℕ → ℕ → (RowName → ℤ) → (ℕ → ℤ) → Line → Type 0
  OverCost unit own by reduced l = reduced (place_of l.name Over) ≡ pos (own * over_share unit level l) +ℤ by l.name

  pub levels : FrontedLevels attrs p level
  levels = record {
    unit = λ unit is. record {
      above = is.above;
      whole = all_to (Whole unit) (whole_unseen unit) is.whole;
      least = λ n h. is.least n (all_back (Whole n) (whole_unseen n) h);
    };
    row = λ at unit own by is. record {
      own_positive = is.own_positive;
      cancel = λ v. lines_sum (λ l. by l.name *ℤ coefficient v l.form) (λ j k s up above. refl) attrs p ∙ is.cancel v;
      under = all_to (InUnder at unit own by) (under_unseen at unit own by) is.under;
      over = all_to (InOver at unit own by) (over_unseen at unit own by) is.over;
      lowest = λ k divides h. is.lowest k divides (all_back (Divided at by k) (λ i j s above up g. g) h);
    };
    reduced = λ unit own by reduced is. record {
      under = all_to (UnderCost unit own by reduced) (by_weight (UnderCost unit own by reduced)
          (λ s w. reduced (place_of (StayOf s.attr) Under) ≡ pos (own * under_weight Eq (unit * w / 1)) -ℤ by (StayOf s.attr)) level below (λ j s h. h) (λ j s h. h)) is.under;
      over = all_to (OverCost unit own by reduced) (by_weight (OverCost unit own by reduced)
          (λ s w. reduced (place_of (StayOf s.attr) Over) ≡ pos (own * over_weight Eq (unit * w / 1)) +ℤ by (StayOf s.attr)) level below (λ j s h. h) (λ j s h. h)) is.over;
    };
  }
