-- What a negative column says of the costs where its mark grows, and how columns are read off the reduced costs.
use Rattle.std.proofs.Common.{◌≡◌, ◌≢◌, ◌∙◌, ℕ, zero, suc, ◌/◌, ◌*◌, ◌<◌, ◌⊎◌, List, [], ◌∷◌, map, length, slice_index_or, ℤ, pos, negsuc, ◌+ℤ◌, ◌*ℤ◌, neg_ℤ, ◌<ℤ◌, ◌≤ℤ◌, refl, sym, ap, ap₂, subst, arith, inl, inr, All, Contains}
use Rattle.std.specs.List.{AllByRecursion as Each}
use Rattle.std.proofs.lemmas.Bool.{cases_eq, cases_Bool}
use Rattle.std.proofs.lemmas.List.Elements.{All-from_recursion, recursion_from_All}
use lib.IntN.{*ℤ_comm}
use borrow.Author.Differences.{ints}
use Rattle.frac_core.proofs.Integers.{add-zero_ℤ, zero-add_ℤ, mul-zero_ℤ, zero-mul_ℤ, mul_positive, mul_not_negative, zero_from_mul}
use Rattle.problem_core.specs.declared.parts.Mark.{Mark}
use Rattle.problem_core.specs.declared.parts.RowName.{RowName}
use Rattle.problem_core.specs.declared.parts.Side.{Side}
use Rattle.problem_core.specs.declared.parts.Side.TheVariants.{Under, Over}
use Rattle.problem_core.specs.Layout.{IsProblem, Line, Problem, lines, sum_of}
use Rattle.problem_core.specs.Kept.{IsWhole}
use Rattle.problem_core.specs.Certificates.{IsLexNonnegative, Multipliers, over_weight, under_weight, weight_at}
use Rattle.problem_core.specs.Corners.{AreMultipliersAt, HasNegativeColumn, IsIn, IsLexNegative, NoNegativeColumn, column, marks_of, place, place_of}
use Rattle.problem_core.specs.Levels.{cost_at, line_cost, scales}
use Rattle.problem_core.specs.Changes.Paths.{NoNegativeRequired}
use Rattle.problem_core.specs.Rays.{IsRay}
use Rattle.problem_core.proofs.Corners.CornerFacts.{is_place}
use Rattle.problem_core.proofs.Forms.{each-impl, each-both}
use Rattle.problem_core.proofs.Wholes.{whole-IsProblem}
use Rattle.corner_laws.specs.Laws.{IsMarkAt}
use Rattle.corner_laws.specs.RunLaws.{AreReduced}
use Rattle.corner_laws.proofs.Swaps.ColumnsStay.{AreUp-columns, columns-of, sums-AreMultipliersAt, together}
use Rattle.corner_laws.proofs.Counting.{IsIn-from_is_place, sides_apart}
use Rattle.corner_laws.proofs.Swaps.DualChoice.{has-sum}
use Rattle.corner_laws.proofs.LevelCosts.Gaps.{direction_cost, moved_columns, shares}
use Rattle.corner_laws.proofs.LinePlaces.{AllApart, AreApart, IsSmallLine, apart-sym, lines_apart, lines_small}
use Rattle.corner_laws.proofs.WrittenValues.{contains_each}
use Rattle.corner_laws.proofs.ZeroColumns.{both-up, here-in, not-in, one-column, outside-still, scales-above}
use Rattle.corner_laws.proofs.LevelCosts.Equal.{zero-column}
use Rattle.frac_core.proofs.Numbers.{weakly-up as weak, zero-up as zero-fits, share-above as positive-share, neg-times}
use Rattle.problem_core.proofs.Refutations.{sum-not_negative as sum-up}

-- ---- a sum in which the line of one mark alone counts

abbrev IsElsewhere : ℕ → (Line → ℤ) → Line → Type 0
IsElsewhere c f l = place_of l.name Under ≢ c → place_of l.name Over ≢ c → f l ≡ pos 0

abbrev IsMarked : ℕ → Line → Type 0
IsMarked c l = (place_of l.name Under ≡ c) ⊎ (place_of l.name Over ≡ c)

apart-none : (f : Line → ℤ) (c : ℕ) (k l : Line) → AreApart k l → IsMarked c k → IsElsewhere c f l → f l ≡ pos 0
apart-none f c k l a (inl e) h = h (λ q. a.under_under (e ∙ sym q)) (λ q. a.under_over (e ∙ sym q))
apart-none f c k l a (inr e) h = h (λ q. a.over_under (e ∙ sym q)) (λ q. a.over_over (e ∙ sym q))

rest-none : (f : Line → ℤ) (c : ℕ) (k : Line) (ls : List Line) → IsMarked c k → Each (AreApart k) ls → Each (IsElsewhere c f) ls → sum_of f ls ≡ pos 0
rest-none f c k [] is a h = refl
rest-none f c k (l ∷ ls) is a h = ap₂ ◌+ℤ◌ (apart-none f c k l a.0 is h.0) (rest-none f c k ls is a.1 h.1)

only_line : (f : Line → ℤ) (c : ℕ) (ls : List Line) (k : ℕ) (x : Line) → AllApart ls → Each (IsElsewhere c f) ls → k < length ls → slice_index_or ls k x ≡ x → IsMarked c x → sum_of f ls ≡ f x
only_line f c [] k x a h within is marked = absurd (omega (arith, within))
only_line f c (y ∷ ls) zero x a h within is marked =
    ap (λ (z : ℤ). f y +ℤ z) (rest-none f c y ls (subst (λ (l : Line). IsMarked c l) (sym is) marked) a.0 h.1) ∙ add-zero_ℤ (f y) ∙ ap f is
only_line f c (y ∷ ls) (suc k) x a h within is marked =
    let apart : AreApart y x = subst (λ (l : Line). AreApart y l) is (All-from_recursion (AreApart y) ls a.0 k x (omega (arith, within))) in
    ap₂ ◌+ℤ◌ (apart-none f c x y (apart-sym y x apart) marked h.0) (only_line f c ls k x a.1 h.1 (omega (arith, within)) is marked) ∙ zero-add_ℤ (f x)

-- ---- the cost where one mark grows

abbrev Zeros : Problem → List Mark → Multipliers → Line → Type 0
Zeros p at m l = (IsMarkAt p (place_of l.name Under) × IsMarkAt p (place_of l.name Over))
    × ((IsIn (place_of l.name Under) at → (level : ℕ) → column m Under l level ≡ pos 0) × (IsIn (place_of l.name Over) at → (level : ℕ) → column m Over l level ≡ pos 0))

zeros : (p : Problem) (at : List Mark) (m : Multipliers) → AreMultipliersAt p at m → Each (Zeros p at m) (lines p)
zeros p at m is = each-both _ _ (lines p) (here-in (lines p)) (each-both _ _ (lines p) (recursion_from_All _ (lines p) (is.inside_zero Under)) (recursion_from_All _ (lines p) (is.inside_zero Over)))

pub nothing : (q : ℕ) (a b : ℤ) → a ≡ pos 0 → b ≡ pos 0 → pos q *ℤ (a +ℤ b) ≡ pos 0
nothing q a b e f = ap (λ (z : ℤ). pos q *ℤ z) (ap₂ ◌+ℤ◌ e f) ∙ mul-zero_ℤ (pos q)

elsewhere : (p : Problem) (at : List Mark) (m : Multipliers) (c : ℕ) (ray : ℕ → ℤ) (level : ℕ) (l : Line) → IsRay p at c ray → Zeros p at m l → IsElsewhere c (λ l. pos (scales p / l.scale) *ℤ moved_columns m ray level l) l
elsewhere p at m c ray level l r z u o =
    nothing (scales p / l.scale) (column m Under l level *ℤ ray (place_of l.name Under)) (column m Over l level *ℤ ray (place_of l.name Over))
    (one-column p at c ray (column m Under l level) (place_of l.name Under) r z.0.0 (λ i. z.1.0 i level) (λ e. absurd (u e)))
    (one-column p at c ray (column m Over l level) (place_of l.name Over) r z.0.1 (λ i. z.1.1 i level) (λ e. absurd (o e)))

first-only : (q : ℕ) (a b : ℤ) → b ≡ pos 0 → pos q *ℤ (a +ℤ b) ≡ pos q *ℤ a
first-only q a b e = ap (λ (z : ℤ). pos q *ℤ z) (ap (λ (z : ℤ). a +ℤ z) e ∙ add-zero_ℤ a)

second-only : (q : ℕ) (a b : ℤ) → a ≡ pos 0 → pos q *ℤ (a +ℤ b) ≡ pos q *ℤ b
second-only q a b e = ap (λ (z : ℤ). pos q *ℤ z) (ap (λ (z : ℤ). z +ℤ b) e ∙ zero-add_ℤ b)

own_line : (p : Problem) (at : List Mark) (m : Multipliers) (c : ℕ) (ray : ℕ → ℤ) (level : ℕ) (side : Side) (l : Line) → IsRay p at c ray → Zeros p at m l → place_of l.name Under ≢ place_of l.name Over → place_of l.name side ≡ c → pos (scales p / l.scale) *ℤ moved_columns m ray level l ≡ pos (scales p / l.scale) *ℤ (column m side l level *ℤ ray c)
own_line p at m c ray level Under l r z sides e =
    first-only (scales p / l.scale) (column m Under l level *ℤ ray (place_of l.name Under)) (column m Over l level *ℤ ray (place_of l.name Over))
    (one-column p at c ray (column m Over l level) (place_of l.name Over) r z.0.1 (λ i. z.1.1 i level) (λ q. absurd (sides (e ∙ sym q))))
    ∙ ap (λ (v : ℕ). pos (scales p / l.scale) *ℤ (column m Under l level *ℤ ray v)) e
own_line p at m c ray level Over l r z sides e =
    second-only (scales p / l.scale) (column m Under l level *ℤ ray (place_of l.name Under)) (column m Over l level *ℤ ray (place_of l.name Over))
    (one-column p at c ray (column m Under l level) (place_of l.name Under) r z.0.0 (λ i. z.1.0 i level) (λ q. absurd (sides (q ∙ sym e))))
    ∙ ap (λ (v : ℕ). pos (scales p / l.scale) *ℤ (column m Over l level *ℤ ray v)) e

is-marked : (side : Side) (c : ℕ) (l : Line) → place_of l.name side ≡ c → IsMarked c l
is-marked Under c l e = inl e
is-marked Over c l e = inr e

pub pick : {X : Type 0} (P : X → Type 0) (xs : List X) (k : ℕ) (x : X) → Each P xs → k < length xs → slice_index_or xs k x ≡ x → P x
pick P xs k x h within is = subst P is (All-from_recursion P xs h k x within)

cost_of_ray : (p : Problem) (at : List Mark) (m : Multipliers) (c : ℕ) (ray : ℕ → ℤ) (level : ℕ) (side : Side) (k : ℕ) (x : Line) → IsWhole p → AreMultipliersAt p at m → IsRay p at c ray → k < length (lines p) → slice_index_or (lines p) k x ≡ x → place_of x.name side ≡ c
    → pos (m.scale level) *ℤ cost_at p level ray ≡ pos (scales p / x.scale) *ℤ (column m side x level *ℤ ray c)
cost_of_ray p at m c ray level side k x whole is r within found e =
    let problem = whole-IsProblem p whole in
    let known = zeros p at m is in
    direction_cost p m ray level problem (is.cancel level) r.still r.holds
    ∙ only_line (λ l. pos (scales p / l.scale) *ℤ moved_columns m ray level l) c (lines p) k x (lines_apart p whole)
    (each-impl (Zeros p at m) _ (lines p) (λ l z. elsewhere p at m c ray level l r z) known) within found (is-marked side c x e)
    ∙ own_line p at m c ray level side x r (pick (Zeros p at m) (lines p) k x known within found) (pick IsSmallLine (lines p) k x (lines_small p whole) within found).sides e

-- s*z = q*(k*r)
none-from : (s q : ℕ) (z k r : ℤ) → 0 < s → pos s *ℤ z ≡ pos q *ℤ (k *ℤ r) → k ≡ pos 0 → z ≡ pos 0
none-from s q z k r above e h = zero_from_mul s z above (e ∙ ap (λ (t : ℤ). pos q *ℤ t) (ap (λ (t : ℤ). t *ℤ r) h ∙ zero-mul_ℤ r) ∙ mul-zero_ℤ (pos q))

low-from : (s q : ℕ) (z k r : ℤ) → 0 < q → pos s *ℤ z ≡ pos q *ℤ (k *ℤ r) → k <ℤ pos 0 → pos 0 <ℤ r → z <ℤ pos 0
low-from s q (negsuc z) k r above e low up = omega (arith, ints)
low-from s q (pos z) (pos k) r above e low up = absurd (omega (arith, ints, low))
low-from s q (pos z) (negsuc k) r above e low up =
    let a : pos 0 <ℤ (pos q *ℤ (pos (suc k) *ℤ r)) = mul_positive q (pos (suc k) *ℤ r) above (mul_positive (suc k) r (omega arith) up) in
    let b : pos q *ℤ (negsuc k *ℤ r) ≡ neg_ℤ (pos q *ℤ (pos (suc k) *ℤ r)) =
    ap (λ (t : ℤ). pos q *ℤ t) (neg-times (pos (suc k)) r) ∙ *ℤ_comm (pos q) (neg_ℤ (pos (suc k) *ℤ r)) ∙ neg-times (pos (suc k) *ℤ r) (pos q) ∙ ap neg_ℤ (*ℤ_comm (pos (suc k) *ℤ r) (pos q)) in
    let d : pos 0 ≤ℤ (pos s *ℤ pos z) = mul_not_negative s (pos z) (omega (arith, ints)) in
    absurd (omega (arith, ints, a, b, d, e))

share-above : (p : Problem) (k : ℕ) (x : Line) → IsProblem p → k < length (lines p) → slice_index_or (lines p) k x ≡ x → 0 < scales p / x.scale
share-above p k x problem within found = positive-share (scales p) x.scale (scales-above p problem) (pick (λ l. scales p / l.scale * l.scale ≡ scales p) (lines p) k x (shares p problem) within found)

-- where the mark grows, the first cost that moves falls
pub negative_costs : (p : Problem) (at : List Mark) (mark : Mark) (ray : ℕ → ℤ) → IsWhole p → HasNegativeColumn p at mark → IsRay p at (place mark) ray → (level : ℕ) × ((j : ℕ) → j < level → cost_at p j ray ≡ pos 0) × (cost_at p level ray <ℤ pos 0)
negative_costs p at mark ray whole (m, is, (k, x, within, found, (e, (level, before, low)))) r = (
  level,
  λ j less. none-from (m.scale j) (scales p / x.scale) (cost_at p j ray) (column m mark.side x j) (ray (place mark)) (is.scales j)
      (cost_of_ray p at m (place mark) ray j mark.side k x whole is r within found e) (before j less),
  low-from (m.scale level) (scales p / x.scale) (cost_at p level ray) (column m mark.side x level) (ray (place mark)) (share-above p k x (whole-IsProblem p whole) within found)
      (cost_of_ray p at m (place mark) ray level mark.side k x whole is r within found e) low r.here,
)

-- ---- a mark falls

cost_up : (p : Problem) (level : ℕ) (x : ℕ → ℤ) → ((v : ℕ) → IsMarkAt p v → pos 0 ≤ℤ x v) → pos 0 ≤ℤ cost_at p level x
cost_up p level x h =
    sum-up (λ l. pos (scales p / l.scale) *ℤ line_cost level x l) (lines p)
    (each-impl (λ l. IsMarkAt p (place_of l.name Under) × IsMarkAt p (place_of l.name Over)) _ (lines p)
    (λ l g. mul_not_negative (scales p / l.scale) (line_cost level x l)
    (both-up (pos (under_weight l.rel (weight_at l level)) *ℤ x (place_of l.name Under)) (pos (over_weight l.rel (weight_at l level)) *ℤ x (place_of l.name Over))
    (mul_not_negative (under_weight l.rel (weight_at l level)) (x (place_of l.name Under)) (h (place_of l.name Under) g.0))
    (mul_not_negative (over_weight l.rel (weight_at l level)) (x (place_of l.name Over)) (h (place_of l.name Over) g.1))))
    (here-in (lines p)))

-- otherwise no cost would fall
pub some_mark_falls : (p : Problem) (at : List Mark) (enter : Mark) (ray : ℕ → ℤ) → IsWhole p → HasNegativeColumn p at enter → IsRay p at (place enter) ray → All (λ m. pos 0 ≤ℤ ray (place m)) at → ⊥
some_mark_falls p at enter ray whole column r up =
    let falls = negative_costs p at enter ray whole column r in
    let not : pos 0 ≤ℤ cost_at p falls.0 ray =
    cost_up p falls.0 ray
    (λ v mark. elim (cases_Bool (is_place at v)) [
      | inl i ↦ contains_each (λ u. pos 0 ≤ℤ ray u) at v (recursion_from_All (λ m. pos 0 ≤ℤ ray (place m)) at up) (IsIn-from_is_place v at i)
      | inr o ↦ elim (cases_eq v (place enter)) [
        | inl e ↦ weak (ray v) (subst (λ (u : ℕ). pos 0 <ℤ ray u) (sym e) r.here)
        | inr n ↦ zero-fits (ray v) (outside-still p at (place enter) ray v r mark (not-in at v o) n)
      ]
    ]) in
    let low = falls.2 in
    absurd (omega (arith, ints, not, low))

-- ---- columns by the reduced costs

-- a mark of the problem is one of a line's
pub mark_line : (ls : List Line) (c : ℕ) → Contains (map place (marks_of ls)) c → (side : Side) × (k : ℕ) × (x : Line) × (k < length ls) × (slice_index_or ls k x ≡ x) × (place_of x.name side ≡ c)
mark_line [] c (k, within, is) = absurd (omega (arith, within))
mark_line (l ∷ ls) c (zero, within, is) = (Under, zero, l, omega arith, refl, is)
mark_line (l ∷ ls) c (suc zero, within, is) = (Over, zero, l, omega arith, refl, is)
mark_line (l ∷ ls) c (suc (suc k), within, is) =
    let rest = mark_line ls c (k, omega (arith, within), is) in (rest.0, suc rest.1, rest.2, omega (arith, rest.3), rest.4, rest.5)

same-side : (a b : RowName) (s t : Side) → place_of a s ≡ place_of b t → s ≡ t
same-side a b Under Under e = refl
same-side a b Over Over e = refl
same-side a b Under Over e = absurd (sides_apart b a (sym e))
same-side a b Over Under e = absurd (sides_apart a b e)

scaled-low : (k : ℕ) (r c : ℤ) → 0 < k → pos k *ℤ r ≡ c → r <ℤ pos 0 → c <ℤ pos 0
scaled-low k r c above e h =
    let a : pos 0 <ℤ (pos k *ℤ neg_ℤ r) = mul_positive k (neg_ℤ r) above (omega (arith, ints, h)) in
    let b : pos k *ℤ neg_ℤ r ≡ neg_ℤ (pos k *ℤ r) = *ℤ_comm (pos k) (neg_ℤ r) ∙ neg-times r (pos k) ∙ ap neg_ℤ (*ℤ_comm r (pos k)) in
    omega (arith, ints, a, b, e)

pub negative_by_reduced : (p : Problem) (at : List Mark) (reduced : ℕ → ℕ → ℤ) (m : Mark) → IsWhole p → AreReduced p at reduced → IsMarkAt p (place m) → IsLexNegative (λ level. reduced level (place m)) → HasNegativeColumn p at m
negative_by_reduced p at reduced m whole levels mark (level, before, low) =
    let sums = λ (k : ℕ). has-sum p at k (reduced k) (levels k) in
    let all = together (λ k. (sums k).0) (λ k. (sums k).1) in
    let found = mark_line (lines p) (place m) mark in
    let e : place_of found.2.name m.side ≡ place m = subst (λ (s : Side). place_of found.2.name s ≡ place m) (same-side found.2.name m.row found.0 m.side found.5) found.5 in
    let column_is : (k : ℕ) → pos found.2.scale *ℤ reduced k (place m) ≡ column all m.side found.2 k =
    λ k. ap (λ (v : ℕ). pos found.2.scale *ℤ reduced k v) (sym e)
    ∙ pick (λ l. (j : ℕ) → pos l.scale *ℤ reduced j (place_of l.name m.side) ≡ column all m.side l j) (lines p) found.1 found.2
    (recursion_from_All _ (lines p) (columns-of p at (λ k. (sums k).0) (λ k. (sums k).1) reduced (λ k. (sums k).2) m.side)) found.3 found.4 k in
    let above : 0 < found.2.scale = (pick (λ l. (0 < l.scale) × (0 < l.den)) (lines p) found.1 found.2 (recursion_from_All _ (lines p) (whole-IsProblem p whole)) found.3 found.4).0 in (
      all,
      sums-AreMultipliersAt p at (λ k. (sums k).0) (λ k. (sums k).1) reduced (λ k. (sums k).2),
      (
        found.1,
        found.2,
        found.3,
        found.4,
        (
          e,
          (
            level,
            (λ k less. zero-column found.2.scale (reduced k (place m)) (column all m.side found.2 k) (column_is k) (before k less)),
            scaled-low found.2.scale (reduced level (place m)) (column all m.side found.2 level) above (column_is level) low,
          ),
        ),
      ),
    )

by-line : (P : ℕ → Type 0) (ls : List Line) → Each (λ m. P (place m)) (marks_of ls) → (side : Side) → Each (λ l. P (place_of l.name side)) ls
by-line P [] h side = tt
by-line P (l ∷ ls) h Under = (h.0, by-line P ls h.1.1 Under)
by-line P (l ∷ ls) h Over = (h.1.0, by-line P ls h.1.1 Over)

pub none_negative_by_reduced : (p : Problem) (at : List Mark) (reduced : ℕ → ℕ → ℤ) → AreReduced p at reduced → All (λ m. IsLexNonnegative (λ level. reduced level (place m))) (marks_of (lines p)) → NoNegativeColumn p at
none_negative_by_reduced p at reduced levels up =
    let sums = λ (k : ℕ). has-sum p at k (reduced k) (levels k) in
    AreUp-columns p at (λ k. (sums k).0) (λ k. (sums k).1) reduced (λ k. (sums k).2)
    (λ side. All-from_recursion (λ l. IsLexNonnegative (λ level. reduced level (place_of l.name side))) (lines p) (by-line (λ v. IsLexNonnegative (λ level. reduced level v)) (lines p) (recursion_from_All _ (marks_of (lines p)) up) side))

scaled-up : (k : ℕ) (r c : ℤ) → pos k *ℤ r ≡ c → pos 0 ≤ℤ r → pos 0 ≤ℤ c
scaled-up k r c e h = subst (λ (z : ℤ). pos 0 ≤ℤ z) e (mul_not_negative k r h)

pub required_by_reduced : (p : Problem) (at : List Mark) (reduced : ℕ → ℕ → ℤ) → AreReduced p at reduced → All (λ m. pos 0 ≤ℤ reduced 0 (place m)) (marks_of (lines p)) → NoNegativeRequired p at
required_by_reduced p at reduced levels up =
    let sums = λ (k : ℕ). has-sum p at k (reduced k) (levels k) in
    let all = together (λ k. (sums k).0) (λ k. (sums k).1) in (
      all,
      sums-AreMultipliersAt p at (λ k. (sums k).0) (λ k. (sums k).1) reduced (λ k. (sums k).2),
      λ side. All-from_recursion (λ l. pos 0 ≤ℤ column all side l 0) (lines p)
          (each-impl (λ l. ((j : ℕ) → pos l.scale *ℤ reduced j (place_of l.name side) ≡ column all side l j) × (pos 0 ≤ℤ reduced 0 (place_of l.name side))) _ (lines p)
          (λ l h. scaled-up l.scale (reduced 0 (place_of l.name side)) (column all side l 0) (h.0 0) h.1)
          (each-both _ _ (lines p)
          (recursion_from_All _ (lines p) (columns-of p at (λ k. (sums k).0) (λ k. (sums k).1) reduced (λ k. (sums k).2) side))
          (by-line (λ v. pos 0 ≤ℤ reduced 0 v) (lines p) (recursion_from_All _ (marks_of (lines p)) up) side))),
    )
