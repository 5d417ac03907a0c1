-- The primal ratio rule: no value turns negative.
use Rattle.std.proofs.Common.{◌≡◌, ◌≢◌, ◌∙◌, ℕ, suc, Bool, cond, List, [], ◌∷◌, ℤ, pos, negsuc, ◌+ℤ◌, ◌*ℤ◌, neg_ℤ, ◌<ℤ◌, ◌≤ℤ◌, refl, sym, ap, ap₂, subst, arith, inl, inr, All, eq-eqb, ne_eqb}
use Rattle.std.specs.List.{AllByRecursion as Each}
use Rattle.std.proofs.lemmas.Bool.{cases_eq}
use Rattle.std.proofs.lemmas.List.Elements.{All-from_recursion, recursion_from_All}
use lib.IntN.{*ℤ_comm}
use borrow.Author.Differences.{ints}
use Rattle.frac_core.proofs.Integers.{mul-zero_ℤ, mul_positive, mul_not_negative}
use Rattle.problem_core.specs.declared.parts.Mark.{Mark}
use Rattle.problem_core.specs.Layout.{Problem, lines, value_at}
use Rattle.problem_core.specs.Corners.{IsIn, NoNegativeValue, Point, StandsAt, Swap, equation, exchanged, marks_of, one_column, place}
use Rattle.problem_core.proofs.Forms.{each-impl, each-both, value-plus, value-scaled}
use Rattle.corner_laws.specs.Laws.{IsFirstDown, IsMarkAt}
use Rattle.problem_core.specs.Rays.{IsRay}
use Rattle.corner_laws.proofs.WrittenValues.{contains_each, nothing_outside}
use Rattle.frac_core.proofs.Numbers.{low-or-up as sign-of, turned-cancels as leave-none, neg-times}
use Rattle.problem_core.proofs.Marks.{entered-in as enter_in, kept-in as kept_in}

-- what holds of the entering mark and of all marks inside holds of those after
pub each_exchanged : (P : ℕ → Type 0) (s : Swap) (at : List Mark) → P (place s.enter) → Each (λ m. P (place m)) at → Each (λ m. P (place m)) (exchanged s at)
each_exchanged P s [] enter h = tt
each_exchanged P s (m ∷ ms) enter h = (
  elim (cases_eq (place m) (place s.leave)) [
    | inl e ↦ subst (λ (b : Bool). P (place (cond b s.enter m))) (sym (eq-eqb (place m) (place s.leave) e)) enter
    | inr n ↦ subst (λ (b : Bool). P (place (cond b s.enter m))) (sym (ne_eqb (place m) (place s.leave) n)) h.0
  ],
  each_exchanged P s ms enter h.1,
)

-- the leaving mark's value times the ray, and as much of the point as the leaving mark falls
abbrev pub landed : ℤ → ℤ → (ℕ → ℤ) → (ℕ → ℤ) → ℕ → ℤ
landed x r ray n v = x *ℤ ray v +ℤ neg_ℤ r *ℤ n v

pub both-none : (a b x y : ℤ) → x ≡ pos 0 → y ≡ pos 0 → a *ℤ x +ℤ neg_ℤ b *ℤ y ≡ pos 0
both-none a b x y e f = ap₂ ◌+ℤ◌ (ap (λ (z : ℤ). a *ℤ z) e ∙ mul-zero_ℤ a) (ap (λ (z : ℤ). neg_ℤ b *ℤ z) f ∙ mul-zero_ℤ (neg_ℤ b))

one-up : (x r a o : ℤ) → r <ℤ pos 0 → a ≡ pos 0 → pos 0 <ℤ o → pos 0 <ℤ (x *ℤ a +ℤ neg_ℤ r *ℤ o)
one-up x (pos r) a o low e up = absurd (omega (arith, ints, low))
one-up x (negsuc r) a o low e up =
    let one : x *ℤ a ≡ pos 0 = ap (λ (z : ℤ). x *ℤ z) e ∙ mul-zero_ℤ x in
    let two : pos 0 <ℤ (neg_ℤ (negsuc r) *ℤ o) = mul_positive (suc r) o (omega arith) up in
    omega (arith, ints, one, two)

-- where the mark does not fall both parts are not negative
rising : (x r a n : ℤ) → pos 0 ≤ℤ x → r <ℤ pos 0 → pos 0 ≤ℤ a → pos 0 ≤ℤ n → pos 0 ≤ℤ (x *ℤ a +ℤ neg_ℤ r *ℤ n)
rising (negsuc x) r a n at low up here = absurd (omega (arith, ints, at))
rising (pos x) (pos r) a n at low up here = absurd (omega (arith, ints, low))
rising (pos x) (negsuc r) a n at low up here =
    let one : pos 0 ≤ℤ (pos x *ℤ a) = mul_not_negative x a up in
    let two : pos 0 ≤ℤ (neg_ℤ (negsuc r) *ℤ n) = mul_not_negative (suc r) n here in
    omega (arith, ints, one, two)

falling : (x r a n : ℤ) → (n *ℤ r) ≤ℤ (x *ℤ a) → pos 0 ≤ℤ (x *ℤ a +ℤ neg_ℤ r *ℤ n)
falling x r a n h = omega (arith, ints, h, neg-times r n, *ℤ_comm n r)

not-negative : (x r a n : ℤ) → pos 0 ≤ℤ x → r <ℤ pos 0 → pos 0 ≤ℤ n → (a <ℤ pos 0 → (n *ℤ r) ≤ℤ (x *ℤ a)) → pos 0 ≤ℤ (x *ℤ a +ℤ neg_ℤ r *ℤ n)
not-negative x r a n at low here h = elim (sign-of a) [
  | inl down ↦ falling x r a n (h down)
  | inr up ↦ rising x r a n at low up here
]

not-low : {z : ℤ} → z ≡ pos 0 → pos 0 ≤ℤ z
not-low {z} e = omega (arith, ints, e)

no-two : {z : ℤ} → z <ℤ pos 0 → pos 0 <ℤ z → ⊥
no-two {z} a b = absurd (omega (arith, ints, a, b))

-- where the leaving mark is 0 for the first time as the entering one grows
pub landing : (p : Problem) (at : List Mark) (s : Swap) (x : Point) (ray : ℕ → ℤ) → IsIn (place s.leave) at → IsRay p at (place s.enter) ray → StandsAt p at x → ray (place s.leave) <ℤ pos 0
    → (y : Point) × StandsAt p (exchanged s at) y × ((v : ℕ) → y.num v ≡ landed (x.num (place s.leave)) (ray (place s.leave)) ray x.num v)
landing p at s x ray leaves r stands low =
    let y : Point = record { num = landed (x.num (place s.leave)) (ray (place s.leave)) ray x.num; positive = one-up (x.num (place s.leave)) (ray (place s.leave)) (ray one_column) (x.num one_column) low r.still x.positive } in (
      y,
      (
        All-from_recursion (λ l. value_at y.num (equation l) ≡ pos 0) (lines p)
            (each-impl (λ l. (value_at ray (equation l) ≡ pos 0) × (value_at x.num (equation l) ≡ pos 0)) _ (lines p)
            (λ l h. value-plus (λ v. x.num (place s.leave) *ℤ ray v) (λ v. neg_ℤ (ray (place s.leave)) *ℤ x.num v) (equation l)
            ∙ ap₂ ◌+ℤ◌ (value-scaled (x.num (place s.leave)) ray (equation l)) (value-scaled (neg_ℤ (ray (place s.leave))) x.num (equation l))
            ∙ both-none (x.num (place s.leave)) (ray (place s.leave)) (value_at ray (equation l)) (value_at x.num (equation l)) h.0 h.1)
            (each-both _ _ (lines p) (recursion_from_All _ (lines p) r.holds) (recursion_from_All _ (lines p) stands.0))),
        All-from_recursion (λ m. (IsIn (place m) (exchanged s at) → ⊥) → y.num (place m) ≡ pos 0) (marks_of (lines p))
            (each-impl (λ m. ((IsIn (place m) at → ⊥) → x.num (place m) ≡ pos 0) × ((IsIn (place m) at → ⊥) → place m ≢ place s.enter → ray (place m) ≡ pos 0)) _ (marks_of (lines p))
            (λ m h out. elim (cases_eq (place m) (place s.leave)) [
              | inl e ↦ ap y.num e ∙ leave-none (x.num (place s.leave)) (ray (place s.leave))
              | inr n ↦
                  let before : IsIn (place m) at → ⊥ = λ i. out (kept_in s at (place m) i n) in
                  both-none (x.num (place s.leave)) (ray (place s.leave)) (ray (place m)) (x.num (place m)) (h.1 before (λ e. out (subst (λ (v : ℕ). IsIn v (exchanged s at)) (sym e) (enter_in s at leaves)))) (h.0 before)
            ])
            (each-both _ _ (marks_of (lines p)) (recursion_from_All (λ m. (IsIn (place m) at → ⊥) → x.num (place m) ≡ pos 0) (marks_of (lines p)) stands.1) (recursion_from_All _ (marks_of (lines p)) r.other))),
      ),
      λ v. refl,
    )

-- where the mark that comes to 0 first leaves, no value is negative at the next corner
pub values_stay : (p : Problem) (at : List Mark) (s : Swap) (x : Point) (ray : ℕ → ℤ) → IsMarkAt p (place s.enter) → (IsIn (place s.enter) at → ⊥) → IsIn (place s.leave) at → IsRay p at (place s.enter) ray → StandsAt p at x → All (λ m. pos 0 ≤ℤ x.num (place m)) at → IsFirstDown at x.num ray (place s.leave) → NoNegativeValue p (exchanged s at)
values_stay p at s x ray mark enters leaves r stands values (low, first) =
    let y = landing p at s x ray leaves r stands low in
    let here = recursion_from_All (λ m. pos 0 ≤ℤ x.num (place m)) at values in
    let up : pos 0 ≤ℤ x.num (place s.leave) = contains_each (λ c. pos 0 ≤ℤ x.num c) at (place s.leave) here leaves in
    let out : x.num (place s.enter) ≡ pos 0 = nothing_outside p at x (place s.enter) stands mark enters in (
      y.0,
      y.1,
      All-from_recursion (λ m. pos 0 ≤ℤ y.0.num (place m)) (exchanged s at)
          (each_exchanged (λ c. pos 0 ≤ℤ y.0.num c) s at
          (subst (λ (z : ℤ). pos 0 ≤ℤ z) (sym (y.2 (place s.enter))) (not-negative (x.num (place s.leave)) (ray (place s.leave)) (ray (place s.enter)) (x.num (place s.enter)) up low (not-low out) (λ down. absurd (no-two down r.here))))
          (each-impl (λ m. (pos 0 ≤ℤ x.num (place m)) × (ray (place m) <ℤ pos 0 → (x.num (place m) *ℤ ray (place s.leave)) ≤ℤ (x.num (place s.leave) *ℤ ray (place m)))) _ at
          (λ m h. subst (λ (z : ℤ). pos 0 ≤ℤ z) (sym (y.2 (place m))) (not-negative (x.num (place s.leave)) (ray (place s.leave)) (ray (place m)) (x.num (place m)) up low h.0 h.1))
          (each-both _ _ at here (recursion_from_All (λ m. ray (place m) <ℤ pos 0 → (x.num (place m) *ℤ ray (place s.leave)) ≤ℤ (x.num (place s.leave) *ℤ ray (place m))) at first)))),
    )
