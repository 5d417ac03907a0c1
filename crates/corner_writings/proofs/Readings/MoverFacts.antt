-- What moves with an outside mark: where it stands in the rows.
use Rattle.std.proofs.Common.{◌≡◌, ◌≢◌, ◌∙◌, ℕ, zero, suc, ◌+◌, ◌<◌, ◌≤◌, Bool, true, false, cond, List, [], ◌∷◌, map, filter, length, drop, slice_index_or, refl, sym, ap, ap₂, subst, arith, inl, inr, ℤ, pos, ◌*ℤ◌, ◌<ℤ◌, All, AllPairs, Contains}
use Rattle.std.specs.List.{AllByRecursion as Each}
use Rattle.std.specs.List.Sorted.{IsNonDecreasingBy}
use Rattle.std.proofs.lemmas.Bool.{cases_eq, cases_lt}
use Rattle.std.proofs.lemmas.List.Elements.{All-contains, filter_passes, recursion_from_All}
use lib.IntN.{*ℤ_comm}
use Rattle.frac_core.proofs.Integers.{cancel_mul, zero-mul_ℤ, mul-zero_ℤ}
use Rattle.problem_core.specs.declared.parts.Mark.{Mark}
use Rattle.problem_core.specs.declared.stops.What.{What}
use Rattle.problem_core.specs.declared.stops.What.TheVariants.{Attr as AttrOf, Mark as MarkOf, Level as LevelOf}
use Rattle.problem_core.specs.Layout.{Problem, coefficient}
use Rattle.problem_core.specs.Corners.{IsCorner, place}
use Rattle.corner_laws.proofs.MarkWritings.Directions.{writing_moves}
use Rattle.corner_view.specs.declared.types.Owner.{Owner}
use Rattle.corner_view.specs.Seen.{AreMovers, CornerView, IsCoefficientOf, IsColumnOf, MovesWith, owner_of}
use Rattle.corner_table.proofs.Basics.ListFacts.{from_map, further, to_map}
use Rattle.corner_table.proofs.Readings.KeptFacts.{filter_same}
use Rattle.corner_writings.proofs.Basics.SmallFacts.{behind}
use Rattle.frac_core.proofs.Bools.{bools-same as both_ways}
use Rattle.frac_core.proofs.Lists.{pairs-rest}
use Rattle.corner_laws.proofs.Counting.{head_pairs as pairs-first}

-- ---- by coefficients

one_column : (p : Problem) (at : List Mark) (what : What) (c d : ℕ) → IsColumnOf p at what c → IsColumnOf p at what d → c ≡ d
one_column p at (AttrOf attr) c d h k = h.1 ∙ sym k.1
one_column p at (MarkOf m) c d h k = h.1 ∙ sym k.1
one_column p at (LevelOf level) c d h k = absurd h

stands_still : (s : ℕ) (y z v : ℤ) → 0 < s → pos s *ℤ y ≡ z *ℤ v → z ≡ pos 0 → y ≡ pos 0
stands_still s y z v above e none = cancel_mul s y (pos 0) above (e ∙ ap (λ (k : ℤ). k *ℤ v) none ∙ zero-mul_ℤ v ∙ sym (mul-zero_ℤ (pos s)))

pub has_where : (p : Problem) (at : List Mark) (m : Mark) (what : What) (z : ℤ) → IsCorner p at → IsCoefficientOf p at what m z → MovesWith p at m what → z ≢ pos 0
has_where p at m what z corner (c, column, (scale, form, value, writing, same)) (d, there, (ray, is, ne)) none =
    ne (ap ray (one_column p at what d c there column)
    ∙ stands_still scale (ray c) (coefficient (place m) form) (ray (place m)) writing.scale_positive (writing_moves p at c scale form value.num value.den (place m) ray corner writing is) (sym same ∙ none))

-- ---- one list of them

pub filter_has : {X : Type 0} (p : X → Bool) (xs : List X) (x : X) → Contains xs x → p x ≡ true → Contains (filter p xs) x
filter_has p [] x (k, within, is) e = absurd (omega (arith, within))
filter_has p (y ∷ xs) x (zero, within, is) e = subst (λ (b : Bool). Contains (cond b (y ∷ filter p xs) (filter p xs)) x) (sym (ap p is ∙ e)) (0, omega arith, is)
filter_has p (y ∷ xs) x (suc k, within, is) e = behind (p y) (filter_has p xs x (k, omega (arith, within), is) e)
  where
    behind : (b : Bool) → Contains (filter p xs) x → Contains (cond b (y ∷ filter p xs) (filter p xs)) x
    behind true h = further y (filter p xs) x h
    behind false h = h

passed : (v : CornerView) (m : Mark) (us ws : List What) (k l : Owner → Bool) → All (MovesWith v.problem v.marks m) us → ((what : What) → MovesWith v.problem v.marks m what → Contains ws what)
    → map owner_of us ≡ filter k v.order → map owner_of ws ≡ filter l v.order → (o : Owner) → Contains v.order o → k o ≡ true → l o ≡ true
passed v m us ws k l move all a b o has e =
    let i = from_map owner_of us o (subst (λ os. Contains os o) (sym a) (filter_has k v.order o has e)) in
    All-contains (λ q. l q ≡ true) (filter l v.order) o (filter_passes l v.order)
    (subst (λ os. Contains os o) b (subst (λ q. Contains (map owner_of ws) q) i.is (to_map owner_of ws i.of (all i.of (All-contains (MovesWith v.problem v.marks m) us i.of move i.has)))))

abbrev first_or : {X : Type 0} → X → List X → X
first_or d [] = d
first_or d (x ∷ xs) = x

pub by_images : {X Y : Type 0} (f : X → Y) (M : X → Type 0) (xs ys : List X) → ((a b : X) → M a → M b → f a ≡ f b → a ≡ b) → Each M xs → Each M ys → map f xs ≡ map f ys → xs ≡ ys
by_images f M [] [] one h k e = refl
by_images f M [] (y ∷ ys) one h k e = let n : 0 ≡ suc (length (map f ys)) = ap length e in absurd (omega (arith, n))
by_images f M (x ∷ xs) [] one h k e = let n : suc (length (map f xs)) ≡ 0 = ap length e in absurd (omega (arith, n))
by_images f M (x ∷ xs) (y ∷ ys) one h k e = ap₂ (λ u us. u ∷ us) (one x y h.0 k.0 (ap (first_or (f x)) e)) (by_images f M xs ys one h.1 k.1 (ap (drop 1) e))

-- where an owner tells what moves, there is one list
pub one_list : (v : CornerView) (m : Mark) (us ws : List What) → ((a b : What) → MovesWith v.problem v.marks m a → MovesWith v.problem v.marks m b → owner_of a ≡ owner_of b → a ≡ b) → AreMovers v m us → AreMovers v m ws → us ≡ ws
one_list v m us ws one a b =
    by_images owner_of (MovesWith v.problem v.marks m) us ws one (recursion_from_All _ us a.move) (recursion_from_All _ ws b.move)
    (a.in_order.1 ∙ filter_same a.in_order.0 b.in_order.0 v.order (λ o has. both_ways (a.in_order.0 o) (b.in_order.0 o)
    (passed v m us ws a.in_order.0 b.in_order.0 a.move b.all a.in_order.1 b.in_order.1 o has) (passed v m ws us b.in_order.0 a.in_order.0 b.move a.all b.in_order.1 a.in_order.1 o has)) ∙ sym b.in_order.1)

-- ---- rising slots

above : (ws : List ℕ) (base w : ℕ) → (Contains ws base → ⊥) → Contains ws w → base ≤ w → base + 1 ≤ w
above ws base w none c le =
    elim (cases_eq w base) [
      | inl e ↦ absurd (none (subst (λ n. Contains ws n) e c))
      | inr ne ↦ greater base w le ne
    ]
  where
    greater : (base w : ℕ) → base ≤ w → w ≢ base → base + 1 ≤ w
    greater base w le ne = omega (arith, le, ne)

pub none_false : (b : Bool) → (b ≡ true → ⊥) → b ≡ false
none_false true h = absurd (h refl)
none_false false h = refl

-- an owner for each slot from a first one on, which passes where the slot does
pub record AreAt (g : ℕ → Owner) (p : ℕ → Bool) (q : Owner → Bool) (os : List Owner) (base : ℕ) : Type 0 where
  pub slot : (k : ℕ) → k < length os → q (g (base + k)) ≡ p (base + k)
  pub at : (k : ℕ) (d : Owner) → k < length os → slice_index_or os k d ≡ g (base + k)

at_next : (g : ℕ → Owner) (p : ℕ → Bool) (q : Owner → Bool) (o : Owner) (os : List Owner) (base : ℕ) → AreAt g p q (o ∷ os) base → AreAt g p q os (base + 1)
at_next g p q o os base h = record {
  slot = λ k lt. subst (λ n. q (g n) ≡ p n) (more base k) (h.slot (suc k) (omega (arith, lt)));
  at = λ k d lt. h.at (suc k) d (omega (arith, lt)) ∙ ap g (more base k);
}
  where
    more : (base k : ℕ) → base + suc k ≡ (base + 1) + k
    more base k = omega arith

first_is : (g : ℕ → Owner) (p : ℕ → Bool) (q : Owner → Bool) (o : Owner) (os : List Owner) (base : ℕ) → AreAt g p q (o ∷ os) base → (o ≡ g base) × (q o ≡ p base)
first_is g p q o os base h =
    let more : base + 0 ≡ base = omega arith in
    let is : o ≡ g base = h.at 0 o (omega arith) ∙ ap g more in
    (is, ap q is ∙ subst (λ n. q (g n) ≡ p n) more (h.slot 0 (omega arith)))

-- the owners of rising slots are those of the list that pass
pub in_slots : (p : ℕ → Bool) (g : ℕ → Owner) (q : Owner → Bool) (os : List Owner) (base : ℕ) (ws : List ℕ) → AllPairs (λ v w. v < w) ws
    → ((w : ℕ) → Contains ws w → (base ≤ w) × (w < base + length os)) → AreAt g p q os base
    → ((w : ℕ) → base ≤ w → p w ≡ true → Contains ws w) → ((w : ℕ) → Contains ws w → p w ≡ true) → map g ws ≡ filter q os
in_slots p g q [] base [] rising within at has is = refl
in_slots p g q [] base (w ∷ ws) rising within at has is = let h = within w (0, omega arith, refl) in absurd (omega (arith, h.0, h.1))
in_slots p g q (o ∷ os) base [] rising within at has is =
    let f = first_is g p q o os base at in
    in_slots p g q os (base + 1) [] rising (λ w c. absurd (omega (arith, c.1))) (at_next g p q o os base at) (λ w le e. has w (omega (arith, le)) e) is
    ∙ sym (ap (λ (b : Bool). cond b (o ∷ filter q os) (filter q os)) (f.1 ∙ none_false (p base) (λ e. let c = has base (omega arith) e in absurd (omega (arith, c.1)))))
in_slots p g q (o ∷ os) base (w ∷ ws) rising within at has is =
    let f = first_is g p q o os base at in
    elim (cases_eq w base) [
      | inl e ↦
          ap₂ (λ u us. u ∷ us) (ap g e ∙ sym f.0)
          (in_slots p g q os (base + 1) ws (pairs-rest (λ v w. v < w) w ws rising)
          (λ v c. let h = within v (further w ws v c) in let less = All-contains (λ u. w < u) ws v (pairs-first (λ v w. v < w) w ws rising) c in (omega (arith, less, e), omega (arith, h.1))) (at_next g p q o os base at)
          (λ v le t. behind w ws v (has v (omega (arith, le)) t) (λ x. let y : v ≡ base = sym x ∙ e in absurd (omega (arith, y, le)))) (λ v c. is v (further w ws v c)))
          ∙ sym (ap (λ (b : Bool). cond b (o ∷ filter q os) (filter q os)) (f.1 ∙ ap p (sym e) ∙ is w (0, omega arith, refl)))
      | inr ne ↦
          let none : Contains (w ∷ ws) base → ⊥ = λ c.
          let le = (within w (0, omega arith, refl)).0 in
          let less = All-contains (λ u. w < u) ws base (pairs-first (λ v w. v < w) w ws rising) (behind w ws base c ne) in absurd (omega (arith, le, less)) in
          in_slots p g q os (base + 1) (w ∷ ws) rising (λ v c. let h = within v c in (above (w ∷ ws) base v none c h.0, omega (arith, h.1))) (at_next g p q o os base at) (λ v le e. has v (omega (arith, le)) e) is
          ∙ sym (ap (λ (b : Bool). cond b (o ∷ filter q os) (filter q os)) (f.1 ∙ none_false (p base) (λ e. none (has base (omega arith) e))))
    ]

-- ---- columns

pub never_falls : (ws : List ℕ) → AllPairs (λ v w. v < w) ws → IsNonDecreasingBy (λ x. x) ws
never_falls ws rising i j d le within =
    elim (cases_lt i j) [
      | inl less ↦ omega (arith, rising i j d less within)
      | inr ge ↦
          let same : i ≡ j = omega (arith, le, ge) in
          rw same (omega arith)
    ]

pub drop_rises : (n : ℕ) (ws : List ℕ) → AllPairs (λ v w. v < w) ws → AllPairs (λ v w. v < w) (drop n ws)
drop_rises zero ws h = h
drop_rises (suc n) [] h = h
drop_rises (suc n) (w ∷ ws) h = drop_rises n ws (pairs-rest (λ v w. v < w) w ws h)

pub drop_has : (n : ℕ) (ws : List ℕ) (w : ℕ) → Contains (drop n ws) w → Contains ws w
drop_has zero ws w c = c
drop_has (suc n) [] w c = c
drop_has (suc n) (v ∷ ws) w c = further v ws w (drop_has n ws w c)

-- those from the first that is not below on are those that are not below
pub drop_above : (low n : ℕ) (ws : List ℕ) → ((k : ℕ) → n ≤ k → k < length ws → low ≤ slice_index_or ws k 0) → (w : ℕ) → Contains (drop n ws) w → low ≤ w
drop_above low zero ws h w (k, within, is) = subst (λ v. low ≤ v) (at_same ws k within is) (h k (omega arith) within)
  where
    at_same : (ws : List ℕ) (k : ℕ) → k < length ws → slice_index_or ws k w ≡ w → slice_index_or ws k 0 ≡ w
    at_same [] k lt e = absurd (omega (arith, lt))
    at_same (v ∷ ws) zero lt e = e
    at_same (v ∷ ws) (suc k) lt e = at_same ws k (omega (arith, lt)) e
drop_above low (suc n) [] h w (k, within, is) = absurd (omega (arith, within))
drop_above low (suc n) (v ∷ ws) h w c = drop_above low n ws (λ k from to. h (suc k) (omega (arith, from)) (omega (arith, to))) w c

pub above_in_drop : (low n : ℕ) (ws : List ℕ) → ((k : ℕ) → k < n → slice_index_or ws k 0 < low) → (w : ℕ) → low ≤ w → Contains ws w → Contains (drop n ws) w
above_in_drop low zero ws h w le c = c
above_in_drop low (suc n) [] h w le c = c
above_in_drop low (suc n) (v ∷ ws) h w le (zero, within, is) = let less : v < low = h 0 (omega arith) in absurd (omega (arith, less, le, is))
above_in_drop low (suc n) (v ∷ ws) h w le (suc k, within, is) = above_in_drop low n ws (λ j less. h (suc j) (omega (arith, less))) w le (k, omega (arith, within), is)
