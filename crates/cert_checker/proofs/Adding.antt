-- One more term in the sums of a row.
use Rattle.std.proofs.Common.{◌≡◌, ℕ, ◌+◌, ◌*◌, ◌<◌, ◌≤◌, ◌^◌, cond, nat_eq, List, length, take, get_or, ℤ, pos, ◌+ℤ◌, ◌*ℤ◌, BTreeMap, refl, sym, ap, ◌∙◌, inl, inr, arith, eq-eqb, ne_eqb}
use Rattle.std.specs.Int.RustNames.{unsigned_abs}
use Rattle.std.proofs.lemmas.Bool.{cases_eq}
use borrow.Author.Differences.{ints}
use Rattle.problem_core.specs.declared.parts.Term.{Term}
use Rattle.problem_core.specs.Layout.{coefficient}
use Rattle.frac_core.proofs.Integers.{mul-add_left}
use Rattle.problem_core.proofs.Forms.{sum-more}
use Rattle.cert_checker.specs.LineSums.{sum_at, IsAdded}
use Rattle.frac_core.proofs.Numbers.{size-sum as size-add}

step : (x y s k p w : ℤ) (times b : ℤ) → p ≡ x +ℤ times *ℤ s → w ≡ times *ℤ b → y ≡ p +ℤ w → y ≡ x +ℤ times *ℤ (s +ℤ b)
step x y s k p w times b e f g = omega (arith, ints, e, f, g, mul-add_left times s b)

pub added-more : (m n base : BTreeMap ℕ ℤ) (terms : List Term) (i : ℕ) (d : Term) (times w : ℤ) → i < length terms → w ≡ times *ℤ (get_or terms i d).by → IsAdded m n (get_or terms i d).attr w → (v : ℕ) → sum_at m v ≡ sum_at base v +ℤ times *ℤ coefficient v (take i terms) → sum_at n v ≡ sum_at base v +ℤ times *ℤ coefficient v (take (i + 1) terms)
added-more m n base terms i d times w l e a v h =
    let t : Term = get_or terms i d in
    let more : coefficient v (take (i + 1) terms) ≡ coefficient v (take i terms) +ℤ cond (nat_eq (get_or terms i d).attr v) (get_or terms i d).by (pos 0) =
    sum-more (λ (e : Term). cond (nat_eq e.attr v) e.by (pos 0)) terms i d l in
    elim (cases_eq (get_or terms i d).attr v) [
      | inl q ↦
          let here : sum_at n v ≡ sum_at m v +ℤ w = ap (sum_at n) (sym q) ∙ a.here ∙ ap (λ (u : ℕ). sum_at m u +ℤ w) q in
          let one : cond (nat_eq (get_or terms i d).attr v) (get_or terms i d).by (pos 0) ≡ (get_or terms i d).by = rw (eq-eqb (get_or terms i d).attr v q) refl in
          step (sum_at base v) (sum_at n v) (coefficient v (take i terms)) (pos 0) (sum_at m v) w times (get_or terms i d).by h e here
          ∙ ap (λ (z : ℤ). sum_at base v +ℤ times *ℤ (coefficient v (take i terms) +ℤ z)) (sym one)
          ∙ ap (λ (z : ℤ). sum_at base v +ℤ times *ℤ z) (sym more)
      | inr q ↦
          let none : cond (nat_eq (get_or terms i d).attr v) (get_or terms i d).by (pos 0) ≡ pos 0 = rw (ne_eqb (get_or terms i d).attr v q) refl in
          let same : coefficient v (take i terms) ≡ coefficient v (take (i + 1) terms) = omega (arith, ints, more, none) in
          a.others v (λ f. q (sym f)) ∙ h ∙ ap (λ (z : ℤ). sum_at base v +ℤ times *ℤ z) same
    ]

pub grown-more : (m n : BTreeMap ℕ ℤ) (attr : ℕ) (w : ℤ) (b i v : ℕ) → IsAdded m n attr w → unsigned_abs w < 2 ^ 84 → unsigned_abs (sum_at m v) ≤ b + i * 2 ^ 84 → unsigned_abs (sum_at n v) ≤ b + (i + 1) * 2 ^ 84
grown-more m n attr w b i v a s h =
    elim (cases_eq attr v) [
      | inl q ↦
          let here : sum_at n v ≡ sum_at m v +ℤ w = ap (sum_at n) (sym q) ∙ a.here ∙ ap (λ (u : ℕ). sum_at m u +ℤ w) q in
          omega (arith, ap unsigned_abs here, size-add (sum_at m v) w, s, h)
      | inr q ↦ omega (arith, ap unsigned_abs (a.others v (λ f. q (sym f))), h)
    ]
