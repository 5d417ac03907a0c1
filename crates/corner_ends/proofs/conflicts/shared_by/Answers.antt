use Rattle.std.proofs.Common.{rules, SFits, ◌∙◌, ℤ, sym, subst}
use Rattle.std.specs.Int.{w64, ◌∣◌}
use Rattle.std.specs.Int.RustNames.{unsigned_abs}
use Rattle.std.proofs.lemmas.Int.{to_z-of_z}
use Rattle.std.proofs.lemmas.Nat.Gcd.{dvd_refl}
use Rattle.corner_ends.proofs.conflicts.shared_by.Goals as goal

pub returns-then-rank-eq-REQUIRED-clause-times : goal.returns-then-rank-eq-REQUIRED-clause-times
returns-then-rank-eq-REQUIRED-clause-times g c = λ y are rank.
    let fits : SFits w64 c.multiplier.result = search rules in
    let divides = simp to_z-of_z at c.shared.ensures.times in
    subst (λ (z : ℤ). ◌∣◌ c.shared.result (unsigned_abs z)) (c.multiplier.ensures.value y are) divides

pub returns-then-rank-eq-REQUIRED-clause-greatest : goal.returns-then-rank-eq-REQUIRED-clause-greatest
returns-then-rank-eq-REQUIRED-clause-greatest g c = λ y are k first own.
    let fits : SFits w64 c.multiplier.result = search rules in
    let greatest = simp to_z-of_z at c.shared.ensures.greatest in
    greatest k first (subst (λ (z : ℤ). ◌∣◌ k (unsigned_abs z)) (sym (c.multiplier.ensures.value y are)) (own (sym c.rank.ensures ∙ c.if-rank-eq-REQUIRED.true)))

pub returns-else-rank-eq-REQUIRED-clause-times : goal.returns-else-rank-eq-REQUIRED-clause-times
returns-else-rank-eq-REQUIRED-clause-times g c = λ y are rank. absurd (c.if-rank-eq-REQUIRED.false (c.rank.ensures ∙ rank))

pub returns-else-rank-eq-REQUIRED-clause-greatest : goal.returns-else-rank-eq-REQUIRED-clause-greatest
returns-else-rank-eq-REQUIRED-clause-greatest g c = λ y are k first own. first

pub returns-else-rank-eq-REQUIRED-clause-factor : goal.returns-else-rank-eq-REQUIRED-clause-factor
returns-else-rank-eq-REQUIRED-clause-factor g c = dvd_refl c.args.factor
