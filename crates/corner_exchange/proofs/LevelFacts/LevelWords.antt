-- Numbers of levels as the machine computes them.
use Rattle.std.proofs.Common.{◌≡◌, ◌∙◌, ap, ap₂, sym, subst, arith, ℤ, pos, neg_ℤ, ◌-ℤ◌, ◌*ℤ◌, FitsSigned, SFits, to_z, of_z}
use Rattle.std.specs.Int.{w64, w128}
use Rattle.row_core.specs.Combinations.{IsFactor}
use Rattle.std.proofs.lemmas.Int.{to_z-of_z}
use borrow.Author.Differences.{ints}
use Rattle.frac_core.specs.Fraction.{IsFitting}
use Rattle.corner_table.specs.Reads.LevelNumbers.{IsCost}
use Rattle.corner_writings.proofs.LevelFacts.LevelReadFacts.{cost_fits, cost_sfits}
use Rattle.frac_core.proofs.Fitting.{fits-signed as fitting_fits, fits-word as fitting_sfits}

pub product_fits : (b d y z : ℤ) → SFits w64 b → SFits w64 d → b ≡ y → d ≡ z → IsCost (y *ℤ z) → FitsSigned w64 (to_z w64 (of_z w64 b) *ℤ to_z w64 (of_z w64 d))
product_fits b d y z fb fd e f cost = subst (λ (x : ℤ). FitsSigned w64 x) (sym (ap₂ ◌*ℤ◌ (to_z-of_z w64 b fb ∙ e) (to_z-of_z w64 d fd ∙ f))) (cost_fits (y *ℤ z) cost)

pub product_is : (b d y z : ℤ) → SFits w64 b → SFits w64 d → b ≡ y → d ≡ z → IsCost (y *ℤ z) → to_z w64 (of_z w64 (to_z w64 (of_z w64 b) *ℤ to_z w64 (of_z w64 d))) ≡ y *ℤ z
product_is b d y z fb fd e f cost = ap (λ (x : ℤ). to_z w64 (of_z w64 x)) (ap₂ ◌*ℤ◌ (to_z-of_z w64 b fb ∙ e) (to_z-of_z w64 d fd ∙ f)) ∙ to_z-of_z w64 (y *ℤ z) (cost_sfits (y *ℤ z) cost)

-- what is taken from a number that fits, where the rest fits
pub rest_cost : (x b : ℤ) → IsFitting x → IsFitting (x -ℤ b) → IsCost b
rest_cost x b h k = omega (arith, ints, h, k)

pub rest_fits : (a b d x y z : ℤ) → SFits w64 a → SFits w64 b → SFits w64 d → a ≡ x → b ≡ y → d ≡ z → IsFitting x → IsFitting (x -ℤ y *ℤ z)
    → FitsSigned w64 (to_z w64 (of_z w64 a) -ℤ to_z w64 (of_z w64 (to_z w64 (of_z w64 b) *ℤ to_z w64 (of_z w64 d))))
rest_fits a b d x y z fa fb fd e f g fx fits =
    subst (λ (w : ℤ). FitsSigned w64 w) (sym (ap₂ ◌-ℤ◌ (to_z-of_z w64 a fa ∙ e) (product_is b d y z fb fd f g (rest_cost x (y *ℤ z) fx fits)))) (fitting_fits (x -ℤ y *ℤ z) fits)

pub rest_is : (a b d x y z : ℤ) → SFits w64 a → SFits w64 b → SFits w64 d → a ≡ x → b ≡ y → d ≡ z → IsFitting x → IsFitting (x -ℤ y *ℤ z)
    → to_z w64 (of_z w64 (to_z w64 (of_z w64 a) -ℤ to_z w64 (of_z w64 (to_z w64 (of_z w64 b) *ℤ to_z w64 (of_z w64 d))))) ≡ x -ℤ y *ℤ z
rest_is a b d x y z fa fb fd e f g fx fits =
    ap (λ (w : ℤ). to_z w64 (of_z w64 w)) (ap₂ ◌-ℤ◌ (to_z-of_z w64 a fa ∙ e) (product_is b d y z fb fd f g (rest_cost x (y *ℤ z) fx fits))) ∙ to_z-of_z w64 (x -ℤ y *ℤ z) (fitting_sfits (x -ℤ y *ℤ z) fits)

pub negated_is : (z y : ℤ) → SFits w128 z → z ≡ y → IsFitting y → to_z w128 (of_z w128 (pos 0 -ℤ to_z w128 (of_z w128 z))) ≡ neg_ℤ y
negated_is z y f e fits =
    let wide : SFits w128 (pos 0 -ℤ y) = omega (arith, ints, fits) in
    let same : pos 0 -ℤ y ≡ neg_ℤ y = omega (arith, ints) in
    ap (λ (x : ℤ). to_z w128 (of_z w128 (pos 0 -ℤ x))) (to_z-of_z w128 z f ∙ e) ∙ to_z-of_z w128 (pos 0 -ℤ y) wide ∙ same

neg-factor : (y : ℤ) → IsFitting y → IsFactor (neg_ℤ y)
neg-factor y h = omega (arith, ints, h)

pub negated_factor : (z y : ℤ) → SFits w128 z → z ≡ y → IsFitting y → IsFactor (to_z w128 (of_z w128 (pos 0 -ℤ to_z w128 (of_z w128 z))))
negated_factor z y f e fits = subst (λ (x : ℤ). IsFactor x) (sym (negated_is z y f e fits)) (neg-factor y fits)

pub double_fits : (a b s x y z : ℤ) → SFits w64 a → SFits w64 b → SFits w64 s → a ≡ x → b ≡ y → s ≡ z → IsCost (x *ℤ y) → IsCost ((x *ℤ y) *ℤ z)
    → FitsSigned w64 (to_z w64 (of_z w64 (to_z w64 (of_z w64 a) *ℤ to_z w64 (of_z w64 b))) *ℤ to_z w64 (of_z w64 s))
double_fits a b s x y z fa fb fs e f g first all =
    subst (λ (w : ℤ). FitsSigned w64 w) (sym (ap₂ ◌*ℤ◌ (product_is a b x y fa fb e f first) (to_z-of_z w64 s fs ∙ g))) (cost_fits ((x *ℤ y) *ℤ z) all)

pub double_is : (a b s x y z : ℤ) → SFits w64 a → SFits w64 b → SFits w64 s → a ≡ x → b ≡ y → s ≡ z → IsCost (x *ℤ y) → IsCost ((x *ℤ y) *ℤ z)
    → to_z w64 (of_z w64 (to_z w64 (of_z w64 (to_z w64 (of_z w64 a) *ℤ to_z w64 (of_z w64 b))) *ℤ to_z w64 (of_z w64 s))) ≡ (x *ℤ y) *ℤ z
double_is a b s x y z fa fb fs e f g first all =
    ap₂ (λ (u v : ℤ). to_z w64 (of_z w64 (u *ℤ v))) (product_is a b x y fa fb e f first) (to_z-of_z w64 s fs ∙ g) ∙ to_z-of_z w64 ((x *ℤ y) *ℤ z) (cost_sfits ((x *ℤ y) *ℤ z) all)
