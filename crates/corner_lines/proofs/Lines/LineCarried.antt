-- The equation of a quantity at the next corner.
use Rattle.std.proofs.Common.{◌≡◌, ◌≢◌, ◌∙◌, ℕ, ◌*◌, ◌<◌, List, map, ℤ, pos, negsuc, ◌+ℤ◌, ◌-ℤ◌, ◌*ℤ◌, neg_ℤ, sym, ap, ap₂, arith, inl, inr, ◌⊎◌, All, Contains, mul-pos}
use Rattle.std.proofs.lemmas.List.Elements.{All-from_recursion, recursion_from_All}
use lib.IntN.{*ℤ_comm}
use borrow.Author.Differences.{ints}
use Rattle.frac_core.specs.Fraction.{Fraction, IsRatio, sum_den, sum_num}
use Rattle.frac_core.proofs.Integers.{add-mul_right, cancel_mul, diff_eq, mul-add_left, mul-sub_left, mul_assoc_ℤ, mul_left_comm_ℤ, mul-zero_ℤ, on_2, on_3, zero-mul_ℤ, sign_cases, diff-add, diff-mul, diff-neg, diff-pos, neg-pos}
use Rattle.problem_core.specs.declared.parts.Mark.{Mark}
use Rattle.problem_core.specs.declared.parts.RowName.{RowName}
use Rattle.problem_core.specs.declared.parts.Side.{Side}
use Rattle.problem_core.specs.declared.parts.Side.TheVariants.{Under, Over}
use Rattle.problem_core.specs.Layout.{Line, Problem, lines, sum_of}
use Rattle.problem_core.specs.Kept.{IsWhole}
use Rattle.problem_core.specs.Corners.{IsIn, Swap, exchanged, marks_of, one_column, place, place_of}
use Rattle.problem_core.proofs.Forms.{each-impl, each-both, mul-sum, sum-add, sum-cong}
use Rattle.corner_laws.proofs.LinePlaces.{AllApart, lines_apart}
use Rattle.corner_lines.specs.LineEquations.{IsLineSum, IsOutsideLine, deviation}
use Rattle.corner_lines.specs.LineExchanges.{IsExchangedRow}
use Rattle.corner_lines.proofs.Lines.LineWritings.{Named, at-name, mark-named}
use Rattle.corner_lines.proofs.Lines.LineExchanges.{single, still-outside}
use Rattle.frac_core.proofs.Numbers.{signed-not-zero as not_zero}
use Rattle.problem_core.proofs.Marks.{entered-in as enter_in}

ruleset ring = (diff-add, diff-mul, diff-neg, diff-pos, neg-pos)

-- ---- the sum

pub combined-sum : (p : ℕ) (c : ℤ) (by to : RowName → ℤ) (x : ℕ → ℤ) (ls : List Line) → sum_of (λ l. (pos p *ℤ by l.name +ℤ c *ℤ to l.name) *ℤ deviation l.name x) ls ≡ pos p *ℤ sum_of (λ l. by l.name *ℤ deviation l.name x) ls +ℤ c *ℤ sum_of (λ l. to l.name *ℤ deviation l.name x) ls
combined-sum p c by to x ls =
    sum-cong (λ l. (pos p *ℤ by l.name +ℤ c *ℤ to l.name) *ℤ deviation l.name x) (λ l. pos p *ℤ (by l.name *ℤ deviation l.name x) +ℤ c *ℤ (to l.name *ℤ deviation l.name x)) ls
    (λ l. add-mul_right (pos p *ℤ by l.name) (c *ℤ to l.name) (deviation l.name x) ∙ ap₂ ◌+ℤ◌ (mul_assoc_ℤ (pos p) (by l.name) (deviation l.name x)) (mul_assoc_ℤ c (to l.name) (deviation l.name x)))
    ∙ sum-add (λ l. pos p *ℤ (by l.name *ℤ deviation l.name x)) (λ l. c *ℤ (to l.name *ℤ deviation l.name x)) ls
    ∙ ap₂ ◌+ℤ◌ (mul-sum (pos p) (λ l. by l.name *ℤ deviation l.name x) ls) (mul-sum c (λ l. to l.name *ℤ deviation l.name x) ls)

less-same : (a b d : ℤ) → a ≡ b → a *ℤ d +ℤ negsuc 0 *ℤ (b *ℤ d) ≡ pos 0
less-same a b d e = let h : a *ℤ d ≡ b *ℤ d = ap (λ (z : ℤ). z *ℤ d) e in omega (arith, ints, h)

enter-less : (p : ℕ) (c r t d : ℤ) → r ≡ pos 0 → t ≡ pos 0 → r *ℤ d +ℤ negsuc 0 *ℤ ((pos p *ℤ c +ℤ c *ℤ t) *ℤ d) ≡ neg_ℤ (c *ℤ (pos p *ℤ d))
enter-less p c r t d e f =
    let a : r *ℤ d ≡ pos 0 = ap (λ (z : ℤ). z *ℤ d) e ∙ zero-mul_ℤ d in
    let none : c *ℤ t ≡ pos 0 = ap (λ (z : ℤ). c *ℤ z) f ∙ mul-zero_ℤ c in
    let whole : pos p *ℤ c +ℤ c *ℤ t ≡ c *ℤ pos p = omega (arith, ints, none, *ℤ_comm (pos p) c) in
    let b : (pos p *ℤ c +ℤ c *ℤ t) *ℤ d ≡ c *ℤ (pos p *ℤ d) = ap (λ (z : ℤ). z *ℤ d) whole ∙ mul_assoc_ℤ c (pos p) d in
    omega (arith, ints, a, b)

carried-sum : (ls : List Line) (enter : RowName) (p : ℕ) (to by result : RowName → ℤ) (x : ℕ → ℤ) → AllApart ls → Named enter ls → to enter ≡ pos 0 → IsExchangedRow ls enter p to by result
    → sum_of (λ l. result l.name *ℤ deviation l.name x) ls +ℤ negsuc 0 *ℤ (pos p *ℤ sum_of (λ l. by l.name *ℤ deviation l.name x) ls +ℤ by enter *ℤ sum_of (λ l. to l.name *ℤ deviation l.name x) ls) ≡ neg_ℤ (by enter *ℤ (pos p *ℤ deviation enter x))
carried-sum ls enter p to by result x apart n none r =
    ap (λ (z : ℤ). sum_of (λ l. result l.name *ℤ deviation l.name x) ls +ℤ z)
    (ap (λ (z : ℤ). negsuc 0 *ℤ z) (sym (combined-sum p (by enter) by to x ls)) ∙ sym (mul-sum (negsuc 0) (λ (l : Line). (pos p *ℤ by l.name +ℤ by enter *ℤ to l.name) *ℤ deviation l.name x) ls))
    ∙ sym (sum-add (λ (l : Line). result l.name *ℤ deviation l.name x) (λ l. negsuc 0 *ℤ ((pos p *ℤ by l.name +ℤ by enter *ℤ to l.name) *ℤ deviation l.name x)) ls)
    ∙ single (λ k. result k *ℤ deviation k x +ℤ negsuc 0 *ℤ ((pos p *ℤ by k +ℤ by enter *ℤ to k) *ℤ deviation k x)) enter ls apart n
    (each-impl (λ l. l.name ≢ enter → result l.name ≡ pos p *ℤ by l.name +ℤ by enter *ℤ to l.name) _ ls
    (λ l h ne. less-same (result l.name) (pos p *ℤ by l.name +ℤ by enter *ℤ to l.name) (deviation l.name x) (h ne))
    (recursion_from_All _ ls r.others))
    ∙ enter-less p (by enter) (result enter) (to enter) (deviation enter x) r.at_enter none

-- ---- the value

-- with R = P*S + c*T - c*(P*d): p*own*q - R
inner-parts : (p own : ℕ) (c q S T R d : ℤ) → R +ℤ negsuc 0 *ℤ (pos p *ℤ S +ℤ c *ℤ T) ≡ neg_ℤ (c *ℤ (pos p *ℤ d)) → pos (p * own) *ℤ q -ℤ R ≡ pos p *ℤ (pos own *ℤ q -ℤ S) +ℤ c *ℤ (pos p *ℤ d -ℤ T)
inner-parts p own c q S T R d e =
    let a : pos (p * own) *ℤ q ≡ pos p *ℤ (pos own *ℤ q) = mul_assoc_ℤ (pos p) (pos own) q in
    omega (arith, ints, e, a, mul-sub_left (pos p) (pos own *ℤ q) S, mul-sub_left c (pos p *ℤ d) T)

-- ad*A = own*(an*X), td*B = p*(tn*X), num*(ad*(own*td)) = (an*(own*td) + c*(tn*ad))*den
pub carried-value : (ad td den p own : ℕ) (A B c an tn num X : ℤ) → 0 < ad → 0 < td → pos ad *ℤ A ≡ pos own *ℤ (an *ℤ X) → pos td *ℤ B ≡ pos p *ℤ (tn *ℤ X)
    → num *ℤ (pos ad *ℤ (pos own *ℤ pos td)) ≡ (an *ℤ (pos own *ℤ pos td) +ℤ c *ℤ (tn *ℤ pos ad)) *ℤ pos den → pos den *ℤ (pos p *ℤ A +ℤ c *ℤ B) ≡ pos (p * own) *ℤ (num *ℤ X)
carried-value ad td den p own A B c an tn num X aa ta h k r =
    let Y : ℤ = pos p *ℤ (pos den *ℤ X) in
    -- td*(ad*(den*(p*A))) = (an*(own*td))*Y
    let first : pos td *ℤ (pos ad *ℤ (pos den *ℤ (pos p *ℤ A))) ≡ (an *ℤ (pos own *ℤ pos td)) *ℤ Y =
    ap (λ (z : ℤ). pos td *ℤ z) (mul_left_comm_ℤ (pos ad) (pos den) (pos p *ℤ A) ∙ ap (λ (z : ℤ). pos den *ℤ z) (mul_left_comm_ℤ (pos ad) (pos p) A ∙ ap (λ (z : ℤ). pos p *ℤ z) h))
    ∙ first-turn td den p own an X in
    let second : pos td *ℤ (pos ad *ℤ (pos den *ℤ (c *ℤ B))) ≡ (c *ℤ (tn *ℤ pos ad)) *ℤ Y =
    mul_left_comm_ℤ (pos td) (pos ad) (pos den *ℤ (c *ℤ B)) ∙ ap (λ (z : ℤ). pos ad *ℤ z) (mul_left_comm_ℤ (pos td) (pos den) (c *ℤ B) ∙ ap (λ (z : ℤ). pos den *ℤ z) (mul_left_comm_ℤ (pos td) c B ∙ ap (λ (z : ℤ). c *ℤ z) k))
    ∙ second-turn ad den p c tn X in
    let left : pos td *ℤ (pos ad *ℤ (pos den *ℤ (pos p *ℤ A +ℤ c *ℤ B))) ≡ (an *ℤ (pos own *ℤ pos td) +ℤ c *ℤ (tn *ℤ pos ad)) *ℤ Y =
    ap (λ (z : ℤ). pos td *ℤ (pos ad *ℤ z)) (mul-add_left (pos den) (pos p *ℤ A) (c *ℤ B)) ∙ ap (λ (z : ℤ). pos td *ℤ z) (mul-add_left (pos ad) (pos den *ℤ (pos p *ℤ A)) (pos den *ℤ (c *ℤ B)))
    ∙ mul-add_left (pos td) (pos ad *ℤ (pos den *ℤ (pos p *ℤ A))) (pos ad *ℤ (pos den *ℤ (c *ℤ B))) ∙ ap₂ ◌+ℤ◌ first second ∙ sym (add-mul_right (an *ℤ (pos own *ℤ pos td)) (c *ℤ (tn *ℤ pos ad)) Y) in
    let right : pos td *ℤ (pos ad *ℤ (pos (p * own) *ℤ (num *ℤ X))) ≡ (an *ℤ (pos own *ℤ pos td) +ℤ c *ℤ (tn *ℤ pos ad)) *ℤ Y =
    right-turn ad td p own num X ∙ ap (λ (z : ℤ). z *ℤ (pos p *ℤ X)) r ∙ mul_assoc_ℤ (an *ℤ (pos own *ℤ pos td) +ℤ c *ℤ (tn *ℤ pos ad)) (pos den) (pos p *ℤ X)
    ∙ ap (λ (z : ℤ). (an *ℤ (pos own *ℤ pos td) +ℤ c *ℤ (tn *ℤ pos ad)) *ℤ z) (mul_left_comm_ℤ (pos den) (pos p) X) in
    cancel_mul ad (pos den *ℤ (pos p *ℤ A +ℤ c *ℤ B)) (pos (p * own) *ℤ (num *ℤ X)) aa (cancel_mul td (pos ad *ℤ (pos den *ℤ (pos p *ℤ A +ℤ c *ℤ B))) (pos ad *ℤ (pos (p * own) *ℤ (num *ℤ X))) ta (left ∙ sym right))
  where
    first-turn : (td den p own : ℕ) (an X : ℤ) → pos td *ℤ (pos den *ℤ (pos p *ℤ (pos own *ℤ (an *ℤ X)))) ≡ (an *ℤ (pos own *ℤ pos td)) *ℤ (pos p *ℤ (pos den *ℤ X))
    first-turn td den p own = on_2 (λ an X. pos td *ℤ (pos den *ℤ (pos p *ℤ (pos own *ℤ (an *ℤ X)))) ≡ (an *ℤ (pos own *ℤ pos td)) *ℤ (pos p *ℤ (pos den *ℤ X))) (λ a a' b b'. simp ring (diff_eq _ _ _ _ (omega arith)))

    second-turn : (ad den p : ℕ) (c tn X : ℤ) → pos ad *ℤ (pos den *ℤ (c *ℤ (pos p *ℤ (tn *ℤ X)))) ≡ (c *ℤ (tn *ℤ pos ad)) *ℤ (pos p *ℤ (pos den *ℤ X))
    second-turn ad den p = on_3 (λ c tn X. pos ad *ℤ (pos den *ℤ (c *ℤ (pos p *ℤ (tn *ℤ X)))) ≡ (c *ℤ (tn *ℤ pos ad)) *ℤ (pos p *ℤ (pos den *ℤ X))) (λ a a' b b' c c'. simp ring (diff_eq _ _ _ _ (omega arith)))

    right-turn : (ad td p own : ℕ) (num X : ℤ) → pos td *ℤ (pos ad *ℤ (pos (p * own) *ℤ (num *ℤ X))) ≡ (num *ℤ (pos ad *ℤ (pos own *ℤ pos td))) *ℤ (pos p *ℤ X)
    right-turn ad td p own = on_2 (λ num X. pos td *ℤ (pos ad *ℤ (pos (p * own) *ℤ (num *ℤ X))) ≡ (num *ℤ (pos ad *ℤ (pos own *ℤ pos td))) *ℤ (pos p *ℤ X)) (λ a a' b b'. simp ring (diff_eq _ _ _ _ (omega arith)))

-- ---- the equation

-- the entering line, which is inside there, has no number
none-entering : (p : Problem) (at : List Mark) (s : Swap) (to : RowName → ℤ) → Contains (map place (marks_of (lines p))) (place s.enter) → IsIn (place s.leave) at → All (λ l. to l.name ≢ pos 0 → IsOutsideLine (exchanged s at) l.name) (lines p) → to s.enter.row ≡ pos 0
none-entering p at s to mark leaves outside =
    elim (sign_cases (to s.enter.row)) [
      | inl z ↦ z
      | inr some ↦ absurd (no-side (exchanged s at) s.enter.row s.enter.side
          (at-name (λ k. to k ≢ pos 0 → IsOutsideLine (exchanged s at) k) s.enter.row (lines p) (mark-named p s.enter.row s.enter.side mark) (recursion_from_All (λ l. to l.name ≢ pos 0 → IsOutsideLine (exchanged s at) l.name) (lines p) outside) (not_zero (to s.enter.row) some))
          (enter_in s at leaves))
    ]
  where
    no-side : (at : List Mark) (name : RowName) (side : Side) → IsOutsideLine at name → IsIn (place_of name side) at → ⊥
    no-side at name Under out = out.under
    no-side at name Over out = out.over

pub sum-some : (p : ℕ) (c b t : ℤ) → pos p *ℤ b +ℤ c *ℤ t ≢ pos 0 → (b ≢ pos 0) ⊎ (t ≢ pos 0)
sum-some p c b t some = elim (sign_cases b) [
  | inr h ↦ inl (not_zero b h)
  | inl z ↦ elim (sign_cases t) [
    | inr h ↦ inr (not_zero t h)
    | inl y ↦ absurd (some (ap₂ ◌+ℤ◌ (ap (λ (k : ℤ). pos p *ℤ k) z ∙ mul-zero_ℤ (pos p)) (ap (λ (k : ℤ). c *ℤ k) y ∙ mul-zero_ℤ c)))
  ]
]

-- a quantity's equation, where the entering line's deviation is replaced by its own equation
pub carried : (p : Problem) (at : List Mark) (s : Swap) (quantity : (ℕ → ℤ) → ℤ) → IsWhole p → Contains (map place (marks_of (lines p))) (place s.enter) → IsIn (place s.leave) at
    → (own : ℕ) (by : RowName → ℤ) (value : Fraction) (pivot : ℕ) (to : RowName → ℤ) (enters : Fraction) (result : RowName → ℤ) (num : ℤ) (den : ℕ) → IsLineSum p at quantity own by value.num value.den
    → IsLineSum p (exchanged s at) (deviation s.enter.row) pivot to enters.num enters.den → IsExchangedRow (lines p) s.enter.row pivot to by result
    → 0 < den → IsRatio (record { num = num; den = den }) (sum_num value (by s.enter.row) (pos own) enters) (sum_den value (pos own) enters) → IsLineSum p (exchanged s at) quantity (pivot * own) result num den
carried p at s quantity whole mark leaves own by value pivot to enters result num den e j r above ratio =
    let none : to s.enter.row ≡ pos 0 = none-entering p at s to mark leaves j.outside in
    let n : Named s.enter.row (lines p) = mark-named p s.enter.row s.enter.side mark in
    record {
      own_positive = mul-pos j.own_positive e.own_positive;
      den_positive = above;
      outside = All-from_recursion (λ l. result l.name ≢ pos 0 → IsOutsideLine (exchanged s at) l.name) (lines p)
          (each-impl (λ l. (l.name ≢ s.enter.row → result l.name ≡ pos pivot *ℤ by l.name +ℤ by s.enter.row *ℤ to l.name) × ((by l.name ≢ pos 0 → IsOutsideLine at l.name) × (to l.name ≢ pos 0 → IsOutsideLine (exchanged s at) l.name))) (λ l. result l.name ≢ pos 0 → IsOutsideLine (exchanged s at) l.name) (lines p)
          (λ l h some.
          let far : l.name ≢ s.enter.row = λ q. some (ap result q ∙ r.at_enter) in
          elim (sum-some pivot (by s.enter.row) (by l.name) (to l.name) (λ z. some (h.0 far ∙ z))) [
            | inl b ↦ still-outside s at l.name far (h.1.0 b)
            | inr t ↦ h.1.1 t
          ])
          (each-both (λ l. l.name ≢ s.enter.row → result l.name ≡ pos pivot *ℤ by l.name +ℤ by s.enter.row *ℤ to l.name) (λ l. (by l.name ≢ pos 0 → IsOutsideLine at l.name) × (to l.name ≢ pos 0 → IsOutsideLine (exchanged s at) l.name)) (lines p) (recursion_from_All (λ l. l.name ≢ s.enter.row → result l.name ≡ pos pivot *ℤ by l.name +ℤ by s.enter.row *ℤ to l.name) (lines p) r.others)
          (each-both _ _ (lines p) (recursion_from_All (λ l. by l.name ≢ pos 0 → IsOutsideLine at l.name) (lines p) e.outside) (recursion_from_All (λ l. to l.name ≢ pos 0 → IsOutsideLine (exchanged s at) l.name) (lines p) j.outside))));
      holds = λ x solves.
          ap (λ (z : ℤ). pos den *ℤ z)
          (inner-parts pivot own (by s.enter.row) (quantity x.num) (sum_of (λ l. by l.name *ℤ deviation l.name x.num) (lines p)) (sum_of (λ l. to l.name *ℤ deviation l.name x.num) (lines p)) (sum_of (λ l. result l.name *ℤ deviation l.name x.num) (lines p)) (deviation s.enter.row x.num)
          (carried-sum (lines p) s.enter.row pivot to by result x.num (lines_apart p whole) n none r))
          ∙ carried-value value.den enters.den den pivot own (pos own *ℤ quantity x.num -ℤ sum_of (λ l. by l.name *ℤ deviation l.name x.num) (lines p)) (pos pivot *ℤ deviation s.enter.row x.num -ℤ sum_of (λ l. to l.name *ℤ deviation l.name x.num) (lines p)) (by s.enter.row) value.num enters.num num (x.num one_column)
          e.den_positive j.den_positive (e.holds x solves) (j.holds x solves) ratio;
    }
