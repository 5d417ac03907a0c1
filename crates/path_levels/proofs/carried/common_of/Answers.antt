use Rattle.std.proofs.Common.{◌≡◌, ◌∙◌, ◌<◌, ℕ, pos, arith, SFits, subst, unsigned_abs}
use Rattle.std.specs.Int.{w64, IsGcd}
use Rattle.std.proofs.lemmas.Int.{fits_signed_from_abs, to_z-of_z, to_z_pos}
use Rattle.path_levels.proofs.Exchanges.CarriedFacts.{common_at, common_small}
use Rattle.path_levels.proofs.carried.common_of.Goals as goal

pub overflow_cast-result : goal.overflow_cast-result
overflow_cast-result c =
    let size : SFits w64 c.args.size = c.ranges.size in
    let n : SFits w64 c.args.n = c.ranges.n in
    let first : c.from.result ≡ unsigned_abs c.args.size = c.from.ensures ∙ (simp to_z-of_z at c.unsigned_abs.ensures.value) in
    let is : IsGcd (unsigned_abs c.args.size) c.from-2.result c.gcd.result = subst (λ (s : ℕ). IsGcd s c.from-2.result c.gcd.result) first c.gcd.ensures in
    let small : c.gcd.result < 4398046511104 = common_small c.args.size c.from-2.result c.gcd.result c.requires.above c.requires.fits is in
    fits_signed_from_abs w64 (pos c.gcd.result) (omega (arith, small))

pub returns : goal.returns
returns c =
    let size : SFits w64 c.args.size = c.ranges.size in
    let n : SFits w64 c.args.n = c.ranges.n in
    let first : c.from.result ≡ unsigned_abs c.args.size = c.from.ensures ∙ (simp to_z-of_z at c.unsigned_abs.ensures.value) in
    let second : c.from-2.result ≡ unsigned_abs c.args.n = c.from-2.ensures ∙ (simp to_z-of_z at c.unsigned_abs-2.ensures.value) in
    let half : IsGcd (unsigned_abs c.args.size) c.from-2.result c.gcd.result = subst (λ (s : ℕ). IsGcd s c.from-2.result c.gcd.result) first c.gcd.ensures in
    let is : IsGcd (unsigned_abs c.args.size) (unsigned_abs c.args.n) c.gcd.result = subst (λ (s : ℕ). IsGcd (unsigned_abs c.args.size) s c.gcd.result) second half in
    let small : c.gcd.result < 4398046511104 = common_small c.args.size c.from-2.result c.gcd.result c.requires.above c.requires.fits half in
    common_at c.args.size c.args.n c.gcd.result _ (to_z_pos w64 c.gcd.result (omega (arith, small))) c.requires.above is
