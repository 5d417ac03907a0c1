-- What a kept layout says: at its corner the attributes have its values.
use Rattle.std.proofs.Common.{◌≡◌, ◌∙◌, ℕ, get_or, ℤ, pos, negsuc, ◌*ℤ◌, ◌<ℤ◌, nat_abs, sym, ap, subst, arith, All}
use Rattle.std.proofs.lemmas.List.Elements.{All-map}
use lib.IntN.{*ℤ_comm}
use borrow.Author.Differences.{ints}
use Rattle.frac_core.specs.Fraction.{Fraction}
use Rattle.frac_core.proofs.Integers.{cancel_mul}
use Rattle.problem_core.specs.declared.parts.Stay.{Stay}
use Rattle.problem_core.specs.Corners.{Point, Agree, StandsAt, attr_column, one_column}
use Rattle.layout_solver.specs.Begins.{IsReached}
use Rattle.layout_solver.specs.Layouts.{GivesAt, IsKeptLayout, Layout}
use Rattle.held_items.proofs.Lists.{all-unmapped}
use Rattle.scenes.proofs.Engines.Wholes.{IsSettled}
use Rattle.problem_core.proofs.Corners.Ends.{abs_same}
use Rattle.frac_core.proofs.Numbers.{swap-last}

-- ---- at one point

-- a value at one point is that at each that agrees
number-here : (f : Fraction) (x x1 y y1 : ℤ) → pos 0 <ℤ y1 → x *ℤ y1 ≡ y *ℤ x1 → y *ℤ pos f.den ≡ f.num *ℤ y1 → x *ℤ pos f.den ≡ f.num *ℤ x1
number-here f x x1 y (pos n) above agree given =
    cancel_mul n (x *ℤ pos f.den) (f.num *ℤ x1) (omega (arith, ints, above))
    (*ℤ_comm (pos n) (x *ℤ pos f.den) ∙ swap-last x (pos f.den) (pos n)
    ∙ ap (λ (z : ℤ). z *ℤ pos f.den) agree ∙ swap-last y x1 (pos f.den)
    ∙ ap (λ (z : ℤ). z *ℤ x1) given ∙ swap-last f.num (pos n) x1
    ∙ *ℤ_comm (f.num *ℤ x1) (pos n))
number-here f x x1 y (negsuc n) above agree given = absurd above.lt

-- the corner fixes the attribute
abbrev IsFixed : Layout → Point → ℕ → Type 0
IsFixed l x a = (y : Point) → StandsAt l.problem l.corner y → Agree (attr_column a) x y

-- what holds of each stay's attribute holds of each value's
all-attributes : (l : Layout) (P : ℕ → Type 0) → IsKeptLayout l → All (λ (s : Stay). P s.attr) l.problem.stays → All (λ v. P v.0) l.values
all-attributes l P h each =
    all-unmapped (λ (v : ℕ × Fraction). v.0) P l.values
    (subst (All P) (sym h.best.attributes) (All-map P (λ (s : Stay). s.attr) l.problem.stays each))

fixed : (l : Layout) (h : IsKeptLayout l) → All (λ v. IsFixed l h.corner.corner.point v.0) l.values
fixed l h =
    all-attributes l (IsFixed l h.corner.corner.point) h (λ k d within y stands. h.corner.corner.attrs_fixed y stands k d within)

abbrev IsGiven : Point → ℕ × Fraction → Type 0
IsGiven x v = x.num (attr_column v.0) *ℤ pos v.1.den ≡ v.1.num *ℤ pos (nat_abs (x.num one_column))

given : (l : Layout) (h : IsKeptLayout l) → All (IsGiven h.corner.corner.point) l.values
given l h k d within =
    let x = h.corner.corner.point in
    let v = get_or l.values k d in
    let at = h.values k d within in
    number-here v.1 (x.num (attr_column v.0)) (x.num one_column) (at.0.num (attr_column v.0)) (at.0.num one_column) at.0.positive (fixed l h k d within at.0 at.1) at.2
    ∙ ap (λ (z : ℤ). v.1.num *ℤ z) (sym (abs_same (x.num one_column) x.positive))

gives : (l : Layout) → IsKeptLayout l → GivesAt l.problem l.corner l.values
gives l h = (h.corner.corner.point, h.corner.corner.stands, given l h)

-- the kept corner is an end, in order, at which the attributes have the values
pub reached : (l : Layout) → IsKeptLayout l → IsReached l.problem l.corner l.values
reached l h = record { ordered = h.corner.ordered; end = h.end; gives = gives l h }

-- ---- for what a session hands on

pub settled : (l : Layout) → IsKeptLayout l → IsSettled l.problem l.values
settled l h = record { whole = h.corner.whole; attributes = h.best.attributes; kept = h.fit; apart = h.apart }
