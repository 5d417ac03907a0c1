-- An exchange for an inside mark that moves on the entering mark's ray leads to a corner.
use Rattle.std.proofs.Common.{◌≡◌, ◌≢◌, ◌∙◌, ℕ, suc, ◌<◌, Bool, cond, nat_eq, List, [], ◌∷◌, length, map, ℤ, pos, ◌+ℤ◌, ◌*ℤ◌, neg_ℤ, refl, sym, ap, ap₂, subst, arith, inl, inr, AllPairs, Contains, eq-eqb, ne_eqb}
use Rattle.std.specs.List.{AllByRecursion as Each}
use Rattle.std.proofs.lemmas.Bool.{cases_eq}
use Rattle.std.proofs.lemmas.List.Elements.{All-from_recursion, recursion_from_All}
use Rattle.std.proofs.lemmas.List.Kept.{AllPairs-cons}
use lib.IntN.{*ℤ_comm}
use borrow.Author.Differences.{ints}
use Rattle.frac_core.proofs.Integers.{cancel_mul, mul_assoc_ℤ, mul_left_comm_ℤ, mul-add_left, add-mul_right, mul-zero_ℤ, sign_cases}
use Rattle.problem_core.specs.declared.parts.Mark.{Mark}
use Rattle.problem_core.specs.Layout.{Problem, lines}
use Rattle.problem_core.specs.Corners.{Agree, IsCorner, IsExchange, IsIn, Point, StandsAt, Swap, attr_column, exchanged, marks_of, one_column, place}
use Rattle.problem_core.proofs.Forms.{each-impl, each-both}
use Rattle.problem_core.specs.Rays.{IsRay}
use Rattle.corner_laws.proofs.Counting.{head_pairs}
use Rattle.corner_laws.proofs.Exchanged.{exchanged_in}
use Rattle.corner_laws.proofs.Rays.{above-here, cancel-right, cancelled, combined-holds, combined-zero, combined_ray, factors}
use Rattle.corner_laws.proofs.WrittenValues.{contains_each, nothing_outside}
use Rattle.problem_core.proofs.Marks.{later-in, entered-in as enter_in, kept-in as kept_in}
use Rattle.frac_core.proofs.Numbers.{as-natural as above-zero, neg-times}
use Rattle.frac_core.proofs.Lists.{pairs-rest as tail_pairs}

-- ---- the list of marks

pub exchanged_each : (s : Swap) (P : Mark → Type 0) (xs : List Mark) → Each (λ m. (place m ≡ place s.leave → P s.enter) × (place m ≢ place s.leave → P m)) xs → Each P (exchanged s xs)
exchanged_each s P [] h = tt
exchanged_each s P (m ∷ xs) h = (
  elim (cases_eq (place m) (place s.leave)) [
    | inl e ↦ subst (λ (b : Bool). P (cond b s.enter m)) (sym (eq-eqb (place m) (place s.leave) e)) (h.0.0 e)
    | inr n ↦ subst (λ (b : Bool). P (cond b s.enter m)) (sym (ne_eqb (place m) (place s.leave) n)) (h.0.1 n)
  ],
  exchanged_each s P xs h.1,
)

exchanged_length : (s : Swap) (xs : List Mark) → length (exchanged s xs) ≡ length xs
exchanged_length s [] = refl
exchanged_length s (m ∷ xs) = ap suc (exchanged_length s xs)

-- the marks stay different
pub first_apart : (s : Swap) (m : Mark) (xs : List Mark) → place m ≢ place s.enter → Each (λ n. place m ≢ place n) xs → Each (λ n. place n ≢ place s.enter) xs → Each (λ n. place (cond (nat_eq (place m) (place s.leave)) s.enter m) ≢ place n) (exchanged s xs)
first_apart s m xs far apart none =
    elim (cases_eq (place m) (place s.leave)) [
      | inl e ↦
          subst (λ (b : Bool). Each (λ n. place (cond b s.enter m) ≢ place n) (exchanged s xs)) (sym (eq-eqb (place m) (place s.leave) e))
          (exchanged_each s (λ n. place s.enter ≢ place n) xs
          (each-impl (λ n. (place m ≢ place n) × (place n ≢ place s.enter)) _ xs (λ n h. (λ q. absurd (h.0 (e ∙ sym q)), λ q k. h.1 (sym k))) (each-both _ _ xs apart none)))
      | inr ne ↦
          subst (λ (b : Bool). Each (λ n. place (cond b s.enter m) ≢ place n) (exchanged s xs)) (sym (ne_eqb (place m) (place s.leave) ne))
          (exchanged_each s (λ n. place m ≢ place n) xs (each-impl (λ n. place m ≢ place n) _ xs (λ n h. (λ q. far, λ q. h)) apart))
    ]

pub exchanged_apart : (s : Swap) (xs : List Mark) → AllPairs (λ m n. place m ≢ place n) xs → Each (λ n. place n ≢ place s.enter) xs → AllPairs (λ m n. place m ≢ place n) (exchanged s xs)
exchanged_apart s [] apart none = apart
exchanged_apart s (m ∷ xs) apart none =
    AllPairs-cons (λ (m n : Mark). place m ≢ place n) (cond (nat_eq (place m) (place s.leave)) s.enter m) (exchanged s xs)
    (All-from_recursion (λ n. place (cond (nat_eq (place m) (place s.leave)) s.enter m) ≢ place n) (exchanged s xs)
    (first_apart s m xs none.0 (recursion_from_All (λ n. place m ≢ place n) xs (head_pairs (λ (m n : Mark). place m ≢ place n) m xs apart)) none.1))
    (exchanged_apart s xs (tail_pairs (λ (m n : Mark). place m ≢ place n) m xs apart) none.1)

pub each-out : (c : ℕ) (xs : List Mark) → (IsIn c xs → ⊥) → Each (λ n. place n ≢ c) xs
each-out c [] out = tt
each-out c (m ∷ xs) out = (λ e. out (0, omega arith, e), each-out c xs (λ i. out (later-in m xs c i)))

-- ---- numbers

cancel-nonzero : (x y z : ℤ) → z ≢ pos 0 → x *ℤ z ≡ y *ℤ z → x ≡ y
cancel-nonzero x y z ne e =
    elim (sign_cases z) [
      | inl none ↦ absurd (ne none)
      | inr (inl h) ↦ cancel-right x y z h e
      | inr (inr h) ↦ cancel-right x y (neg_ℤ z) h (turned x z ∙ ap neg_ℤ e ∙ sym (turned y z))
    ]
  where
    turned : (x z : ℤ) → x *ℤ neg_ℤ z ≡ neg_ℤ (x *ℤ z)
    turned x z = *ℤ_comm x (neg_ℤ z) ∙ neg-times z x ∙ ap neg_ℤ (*ℤ_comm z x)

-- x*(G*w + n*0) = (G*y + n*r)*o
agree-parts : (G : ℕ) (n x w z y r o : ℤ) → z ≡ pos 0 → x *ℤ (pos G *ℤ w +ℤ n *ℤ z) ≡ (pos G *ℤ y +ℤ n *ℤ r) *ℤ o → pos G *ℤ (x *ℤ w) ≡ pos G *ℤ (y *ℤ o) +ℤ n *ℤ (r *ℤ o)
agree-parts G n x w z y r o zero h =
    let none : n *ℤ z ≡ pos 0 = ap (λ (t : ℤ). n *ℤ t) zero ∙ mul-zero_ℤ n in
    let plain : pos G *ℤ w ≡ pos G *ℤ w +ℤ n *ℤ z = omega (arith, ints, none) in
    mul_left_comm_ℤ (pos G) x w ∙ ap (λ (t : ℤ). x *ℤ t) plain ∙ h ∙ add-mul_right (pos G *ℤ y) (n *ℤ r) o ∙ ap₂ ◌+ℤ◌ (mul_assoc_ℤ (pos G) y o) (mul_assoc_ℤ n r o)

no-first : (G : ℕ) (y o k : ℤ) → y ≡ pos 0 → pos G *ℤ (y *ℤ o) +ℤ k ≡ k
no-first G y o k e =
    let none : pos G *ℤ (y *ℤ o) ≡ pos 0 = ap (λ (t : ℤ). pos G *ℤ (t *ℤ o)) e ∙ (let z : pos 0 *ℤ o ≡ pos 0 = omega (arith, ints) in ap (λ (t : ℤ). pos G *ℤ t) z) ∙ mul-zero_ℤ (pos G) in
    omega (arith, ints, none)

-- how far the leaving mark goes back says how far the entering one has come
pivot-parts : (g G : ℕ) (t n l w r o : ℤ) → r ≢ pos 0 → pos G *ℤ (l *ℤ w) ≡ n *ℤ (r *ℤ o) → pos g *ℤ l ≡ t *ℤ r → t *ℤ (pos G *ℤ w) ≡ pos g *ℤ (n *ℤ o)
pivot-parts g G t n l w r o ne h k =
    cancel-nonzero (t *ℤ (pos G *ℤ w)) (pos g *ℤ (n *ℤ o)) r ne
    (*ℤ_comm (t *ℤ (pos G *ℤ w)) r ∙ mul_left_comm_ℤ r t (pos G *ℤ w) ∙ sym (mul_assoc_ℤ t r (pos G *ℤ w)) ∙ ap (λ (z : ℤ). z *ℤ (pos G *ℤ w)) (sym k)
    ∙ mul_assoc_ℤ (pos g) l (pos G *ℤ w) ∙ ap (λ (z : ℤ). pos g *ℤ z) (mul_left_comm_ℤ l (pos G) w ∙ h ∙ mul_left_comm_ℤ n r o)
    ∙ mul_left_comm_ℤ (pos g) r (n *ℤ o) ∙ *ℤ_comm r (pos g *ℤ (n *ℤ o)))

moved-parts : (g G : ℕ) (t n x w y r o : ℤ) → 0 < G → pos G *ℤ (x *ℤ w) ≡ pos G *ℤ (y *ℤ o) +ℤ n *ℤ (r *ℤ o) → t *ℤ (pos G *ℤ w) ≡ pos g *ℤ (n *ℤ o) → pos g *ℤ (x *ℤ w) ≡ pos g *ℤ (y *ℤ o) +ℤ t *ℤ (r *ℤ w)
moved-parts g G t n x w y r o above h k =
    cancel_mul G (pos g *ℤ (x *ℤ w)) (pos g *ℤ (y *ℤ o) +ℤ t *ℤ (r *ℤ w)) above
    (mul_left_comm_ℤ (pos G) (pos g) (x *ℤ w) ∙ ap (λ (z : ℤ). pos g *ℤ z) h ∙ mul-add_left (pos g) (pos G *ℤ (y *ℤ o)) (n *ℤ (r *ℤ o))
    ∙ ap₂ ◌+ℤ◌ (mul_left_comm_ℤ (pos g) (pos G) (y *ℤ o)) (ap (λ (z : ℤ). pos g *ℤ z) (mul_left_comm_ℤ n r o) ∙ mul_left_comm_ℤ (pos g) r (n *ℤ o) ∙ ap (λ (z : ℤ). r *ℤ z) (sym k) ∙ mul_left_comm_ℤ r t (pos G *ℤ w) ∙ ap (λ (z : ℤ). t *ℤ z) (mul_left_comm_ℤ r (pos G) w) ∙ mul_left_comm_ℤ t (pos G) (r *ℤ w))
    ∙ sym (mul-add_left (pos G) (pos g *ℤ (y *ℤ o)) (t *ℤ (r *ℤ w))))

agree-back : (g : ℕ) (t x w z y r o : ℤ) → z ≡ pos 0 → pos g *ℤ (x *ℤ w) ≡ pos g *ℤ (y *ℤ o) +ℤ t *ℤ (r *ℤ w) → (pos g *ℤ x +ℤ neg_ℤ t *ℤ r) *ℤ w ≡ y *ℤ (pos g *ℤ o +ℤ neg_ℤ t *ℤ z)
agree-back g t x w z y r o zero h =
    let none : neg_ℤ t *ℤ z ≡ pos 0 = ap (λ (k : ℤ). neg_ℤ t *ℤ k) zero ∙ mul-zero_ℤ (neg_ℤ t) in
    let plain : pos g *ℤ o +ℤ neg_ℤ t *ℤ z ≡ pos g *ℤ o = omega (arith, ints, none) in
    let left : (pos g *ℤ x +ℤ neg_ℤ t *ℤ r) *ℤ w ≡ pos g *ℤ (x *ℤ w) +ℤ neg_ℤ (t *ℤ (r *ℤ w)) = add-mul_right (pos g *ℤ x) (neg_ℤ t *ℤ r) w ∙ ap₂ ◌+ℤ◌ (mul_assoc_ℤ (pos g) x w) (mul_assoc_ℤ (neg_ℤ t) r w ∙ neg-times t (r *ℤ w)) in
    let same : pos g *ℤ (x *ℤ w) +ℤ neg_ℤ (t *ℤ (r *ℤ w)) ≡ pos g *ℤ (y *ℤ o) = omega (arith, ints, h) in
    left ∙ same ∙ mul_left_comm_ℤ (pos g) y o ∙ ap (λ (k : ℤ). y *ℤ k) (sym plain)

-- ---- points moved by a multiple of the ray

shifted : (p : Problem) (at : List Mark) (c g : ℕ) (t : ℤ) (x : Point) (ray : ℕ → ℤ) → IsRay p at c ray → 0 < g → Point
shifted p at c g t x ray r above = record { num = combined_ray g t x.num ray; positive = above-here g t (x.num one_column) (ray one_column) above x.positive r.still }

-- the corner's point, where the leaving mark has gone to 0
after-stands : (p : Problem) (at : List Mark) (s : Swap) (g : ℕ) (t : ℤ) (x : Point) (ray : ℕ → ℤ) (r : IsRay p at (place s.enter) ray) (above : 0 < g) → IsIn (place s.leave) at → pos g *ℤ x.num (place s.leave) ≡ t *ℤ ray (place s.leave) → StandsAt p at x → StandsAt p (exchanged s at) (shifted p at (place s.enter) g t x ray r above)
unfolding shifted
after-stands p at s g t x ray r above leaves cancels stands = (
  combined-holds p g t x.num ray stands.0 r.holds,
  All-from_recursion (λ m. (IsIn (place m) (exchanged s at) → ⊥) → combined_ray g t x.num ray (place m) ≡ pos 0) (marks_of (lines p))
      (each-impl (λ m. ((IsIn (place m) at → ⊥) → x.num (place m) ≡ pos 0) × ((IsIn (place m) at → ⊥) → place m ≢ place s.enter → ray (place m) ≡ pos 0)) _ (marks_of (lines p))
      (λ m h gone. elim (cases_eq (place m) (place s.leave)) [
        | inl e ↦ cancelled g t (x.num (place m)) (ray (place m)) (subst (λ (v : ℕ). pos g *ℤ x.num v ≡ t *ℤ ray v) (sym e) cancels)
        | inr n ↦
            let before : IsIn (place m) at → ⊥ = λ i. gone (kept_in s at (place m) i n) in
            combined-zero g t (x.num (place m)) (ray (place m)) (h.0 before) (h.1 before (λ e. gone (subst (λ (v : ℕ). IsIn v (exchanged s at)) (sym e) (enter_in s at leaves))))
      ])
      (each-both _ _ (marks_of (lines p)) (recursion_from_All _ (marks_of (lines p)) stands.1) (recursion_from_All _ (marks_of (lines p)) r.other))),
)

-- a point of the next corner, where the entering mark has gone back to 0
before-stands : (p : Problem) (at : List Mark) (s : Swap) (g : ℕ) (t : ℤ) (y : Point) (ray : ℕ → ℤ) (r : IsRay p at (place s.enter) ray) (above : 0 < g) → pos g *ℤ y.num (place s.enter) ≡ t *ℤ ray (place s.enter) → StandsAt p (exchanged s at) y → StandsAt p at (shifted p at (place s.enter) g t y ray r above)
unfolding shifted
before-stands p at s g t y ray r above cancels stands = (
  combined-holds p g t y.num ray stands.0 r.holds,
  All-from_recursion (λ m. (IsIn (place m) at → ⊥) → combined_ray g t y.num ray (place m) ≡ pos 0) (marks_of (lines p))
      (each-impl (λ m. ((IsIn (place m) (exchanged s at) → ⊥) → y.num (place m) ≡ pos 0) × ((IsIn (place m) at → ⊥) → place m ≢ place s.enter → ray (place m) ≡ pos 0)) _ (marks_of (lines p))
      (λ m h out. elim (cases_eq (place m) (place s.enter)) [
        | inl e ↦ cancelled g t (y.num (place m)) (ray (place m)) (subst (λ (v : ℕ). pos g *ℤ y.num v ≡ t *ℤ ray v) (sym e) cancels)
        | inr n ↦
            combined-zero g t (y.num (place m)) (ray (place m))
            (h.0 (λ i. elim (exchanged_in s at (place m) i) [
              | inl e ↦ n e
              | inr k ↦ out k.0
            ]))
            (h.1 out n)
      ])
      (each-both _ _ (marks_of (lines p)) (recursion_from_All _ (marks_of (lines p)) stands.1) (recursion_from_All _ (marks_of (lines p)) r.other))),
)

pub leave-gone : (s : Swap) (at : List Mark) → (IsIn (place s.enter) at → ⊥) → IsIn (place s.leave) at → IsIn (place s.leave) (exchanged s at) → ⊥
leave-gone s at enters leaves i =
    elim (exchanged_in s at (place s.leave) i) [
      | inl e ↦ enters (subst (λ (v : ℕ). IsIn v at) e leaves)
      | inr k ↦ k.1 refl
    ]

-- ---- the exchange

-- a mark inside moves on the ray of one outside: these can be exchanged
pub pivot_is_exchange : (p : Problem) (at : List Mark) (s : Swap) (ray : ℕ → ℤ) → IsCorner p at → Contains (map place (marks_of (lines p))) (place s.enter) → (IsIn (place s.enter) at → ⊥) → IsIn (place s.leave) at → IsRay p at (place s.enter) ray → ray (place s.leave) ≢ pos 0 → IsExchange p at s
unfolding shifted
pivot_is_exchange p at s ray corner mark enters leaves r pivot =
    let x : Point = corner.point in
    let f = factors (x.num (place s.leave)) (ray (place s.leave)) pivot in
    let here = above-zero (ray (place s.enter)) r.here in
    let back : (y : Point) → Point = λ y. shifted p at (place s.enter) here.0 (y.num (place s.enter)) y ray r here.1 in
    let stood : (y : Point) → StandsAt p (exchanged s at) y → StandsAt p at (back y) = λ y stands.
    before-stands p at s here.0 (y.num (place s.enter)) y ray r here.1 (*ℤ_comm (pos here.0) (y.num (place s.enter)) ∙ ap (λ (z : ℤ). y.num (place s.enter) *ℤ z) (sym here.2)) stands in
    let leave-mark : Contains (map place (marks_of (lines p))) (place s.leave) = contains_each (λ c. Contains (map place (marks_of (lines p))) c) at (place s.leave) (recursion_from_All _ at corner.marks) leaves in
    let agree : (y : Point) → StandsAt p (exchanged s at) y → (c : ℕ) → Agree c x (back y) → Agree c (shifted p at (place s.enter) f.0 f.1 x ray r f.2) y = λ y stands c h.
    let gone : y.num (place s.leave) ≡ pos 0 = nothing_outside p (exchanged s at) y (place s.leave) stands leave-mark (leave-gone s at enters leaves) in
    let there : Agree (place s.leave) x (back y) = contains_each (λ c. Agree c x (back y)) (marks_of (lines p)) (place s.leave) (recursion_from_All _ (marks_of (lines p)) (corner.marks_fixed (back y) (stood y stands))) leave-mark in
    let n : ℤ = neg_ℤ (y.num (place s.enter)) in
    let o : ℤ = x.num one_column in
    let w : ℤ = y.num one_column in
    let leaving = agree-parts here.0 n (x.num (place s.leave)) w (ray one_column) (y.num (place s.leave)) (ray (place s.leave)) o r.still there ∙ no-first here.0 (y.num (place s.leave)) o (n *ℤ (ray (place s.leave) *ℤ o)) gone in
    let come = pivot-parts f.0 here.0 f.1 n (x.num (place s.leave)) w (ray (place s.leave)) o pivot leaving f.3 in
    agree-back f.0 f.1 (x.num c) w (ray one_column) (y.num c) (ray c) o r.still
    (moved-parts f.0 here.0 f.1 n (x.num c) w (y.num c) (ray c) o here.1 (agree-parts here.0 n (x.num c) w (ray one_column) (y.num c) (ray c) o r.still h) come) in
    record {
      enters = enters;
      leaves = leaves;
      corner = record {
        count = exchanged_length s at ∙ corner.count;
        marks = All-from_recursion (λ m. Contains (map place (marks_of (lines p))) (place m)) (exchanged s at)
            (exchanged_each s (λ m. Contains (map place (marks_of (lines p))) (place m)) at (each-impl (λ m. Contains (map place (marks_of (lines p))) (place m)) _ at (λ m h. (λ e. mark, λ n. h)) (recursion_from_All _ at corner.marks)));
        apart = exchanged_apart s at corner.apart (each-out (place s.enter) at enters);
        point = shifted p at (place s.enter) f.0 f.1 x ray r f.2;
        stands = after-stands p at s f.0 f.1 x ray r f.2 leaves f.3 corner.stands;
        marks_fixed = λ y stands.
            All-from_recursion (λ m. Agree (place m) (shifted p at (place s.enter) f.0 f.1 x ray r f.2) y) (marks_of (lines p))
            (each-impl (λ m. Agree (place m) x (back y)) _ (marks_of (lines p)) (λ m h. agree y stands (place m) h) (recursion_from_All _ (marks_of (lines p)) (corner.marks_fixed (back y) (stood y stands))));
        attrs_fixed = λ y stands.
            All-from_recursion (λ a. Agree (attr_column a.attr) (shifted p at (place s.enter) f.0 f.1 x ray r f.2) y) p.stays
            (each-impl (λ a. Agree (attr_column a.attr) x (back y)) _ p.stays (λ a h. agree y stands (attr_column a.attr) h) (recursion_from_All _ p.stays (corner.attrs_fixed (back y) (stood y stands))));
      };
    }
