-- Writings at a corner: what is written has one value there.
use Rattle.std.proofs.Common.{◌≡◌, ◌≢◌, ◌∙◌, ℕ, zero, suc, List, [], ◌∷◌, map, ℤ, pos, negsuc, ◌-ℤ◌, ◌*ℤ◌, ◌<ℤ◌, sym, ap, subst, arith, inl, inr, Contains}
use Rattle.std.specs.List.{AllByRecursion as Each}
use Rattle.std.proofs.lemmas.List.Elements.{recursion_from_All}
use lib.IntN.{*ℤ_comm}
use borrow.Author.Differences.{ints}
use Rattle.frac_core.proofs.Integers.{cancel_mul, mul_left_comm_ℤ, zero-mul_ℤ, mul-zero_ℤ, sign_cases}
use Rattle.problem_core.specs.declared.parts.Mark.{Mark}
use Rattle.problem_core.specs.declared.parts.Term.{Term}
use Rattle.problem_core.specs.Layout.{Problem, lines, coefficient, value_at}
use Rattle.problem_core.specs.Corners.{Point, IsCorner, IsIn, StandsAt, marks_of, one_column, place}
use Rattle.problem_core.proofs.Forms.{value-single}
use Rattle.problem_core.specs.Unfit.{IsWritingOf}
use Rattle.frac_core.proofs.Numbers.{signed-not-zero as not_zero}

pub contains_each : (P : ℕ → Type 0) (ms : List Mark) (c : ℕ) → Each (λ m. P (place m)) ms → Contains (map place ms) c → P c
contains_each P [] c h (k, within, is) = absurd (omega (arith, within))
contains_each P (m ∷ ms) c h (zero, within, is) = subst P is h.0
contains_each P (m ∷ ms) c h (suc k, within, is) = contains_each P ms c h.1 (k, omega (arith, within), is)

-- each outside mark is 0 at the corner
pub nothing_outside : (p : Problem) (at : List Mark) (x : Point) (v : ℕ) → StandsAt p at x → Contains (map place (marks_of (lines p))) v → (IsIn v at → ⊥) → x.num v ≡ pos 0
nothing_outside p at x v stands mark out =
    contains_each (λ c. (IsIn c at → ⊥) → x.num c ≡ pos 0) (marks_of (lines p)) v (recursion_from_All (λ m. (IsIn (place m) at → ⊥) → x.num (place m) ≡ pos 0) (marks_of (lines p)) stands.1) mark out

-- a form of outside marks is 0 at the corner
pub form_there : (p : Problem) (at : List Mark) (x : Point) (form : List Term) → StandsAt p at x → ((v : ℕ) → coefficient v form ≢ pos 0 → Contains (map place (marks_of (lines p))) v × (IsIn v at → ⊥)) → value_at x.num form ≡ pos 0
form_there p at x form stands outside =
    let each : (v : ℕ) → coefficient v form *ℤ x.num v ≡ pos 0 =
    λ v. elim (sign_cases (coefficient v form)) [
      | inl z ↦ ap (λ (t : ℤ). t *ℤ x.num v) z ∙ zero-mul_ℤ (x.num v)
      | inr s ↦ let out = outside v (not_zero (coefficient v form) s) in
          ap (λ (t : ℤ). coefficient v form *ℤ t) (nothing_outside p at x v stands out.0 out.1) ∙ mul-zero_ℤ (coefficient v form)
    ] in
    value-single x.num 0 form (λ v ne. each v) ∙ each 0

pub less-none : (s : ℕ) (q f : ℤ) → f ≡ pos 0 → pos s *ℤ q ≡ pos s *ℤ q -ℤ f
less-none s q f e = omega (arith, ints, e)

-- what is written has the writing's value there
pub value_there : (p : Problem) (at : List Mark) (quantity : (ℕ → ℤ) → ℤ) (scale : ℕ) (form : List Term) (num : ℤ) (den : ℕ) (x : Point) → IsWritingOf p at quantity scale form num den → StandsAt p at x → pos den *ℤ quantity x.num ≡ num *ℤ x.num one_column
value_there p at quantity scale form num den x w stands =
    cancel_mul scale (pos den *ℤ quantity x.num) (num *ℤ x.num one_column) w.scale_positive
    (mul_left_comm_ℤ (pos scale) (pos den) (quantity x.num)
    ∙ ap (λ (t : ℤ). pos den *ℤ t) (less-none scale (quantity x.num) (value_at x.num form) (form_there p at x form stands w.outside))
    ∙ w.holds x stands.0)

swap-one : (one : ℕ) (n : ℤ) (e : ℕ) → pos one *ℤ (n *ℤ pos e) ≡ pos e *ℤ (n *ℤ pos one)
swap-one one n e = ap (λ (t : ℤ). pos one *ℤ t) (*ℤ_comm n (pos e)) ∙ mul_left_comm_ℤ (pos one) (pos e) n ∙ ap (λ (t : ℤ). pos e *ℤ t) (*ℤ_comm (pos one) n)

pub crossed : (n m z : ℤ) (d e : ℕ) (one : ℤ) → pos 0 <ℤ one → pos d *ℤ z ≡ n *ℤ one → pos e *ℤ z ≡ m *ℤ one → n *ℤ pos e ≡ m *ℤ pos d
crossed n m z d e (pos one) above a b =
    cancel_mul one (n *ℤ pos e) (m *ℤ pos d) (omega (arith, ints, above))
    (swap-one one n e ∙ ap (λ (t : ℤ). pos e *ℤ t) (sym a) ∙ mul_left_comm_ℤ (pos e) (pos d) z ∙ ap (λ (t : ℤ). pos d *ℤ t) b ∙ sym (swap-one one m d))
crossed n m z d e (negsuc one) above a b = absurd above.lt

-- two writings of one quantity at a corner have the same value
pub values_same : (p : Problem) (at : List Mark) (quantity : (ℕ → ℤ) → ℤ) (s t : ℕ) (f g : List Term) (n m : ℤ) (d e : ℕ) → IsCorner p at → IsWritingOf p at quantity s f n d → IsWritingOf p at quantity t g m e → n *ℤ pos e ≡ m *ℤ pos d
values_same p at quantity s t f g n m d e corner v w =
    crossed n m (quantity corner.point.num) d e (corner.point.num one_column) corner.point.positive
    (value_there p at quantity s f n d corner.point v corner.stands)
    (value_there p at quantity t g m e corner.point w corner.stands)
