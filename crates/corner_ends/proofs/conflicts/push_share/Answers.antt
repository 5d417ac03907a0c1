use Rattle.std.proofs.Common.{rules, SFits, ◌∙◌, ◌++◌, ◌∷◌, [], ℕ, ℤ, pos, ◌*ℤ◌, ap, sym, subst}
use Rattle.std.specs.Int.{w64, ◌∣◌}
use Rattle.std.specs.Int.RustNames.{unsigned_abs}
use Rattle.std.proofs.lemmas.Int.{to_z-of_z}
use Rattle.frac_core.proofs.Integers.{mul-zero_ℤ}
use Rattle.problem_core.specs.declared.parts.RowName.TheVariants.{Held}
use Rattle.corner_ends.proofs.RequiredTimes.{times_exist}
use Rattle.corner_ends.proofs.SharedTimes.{shares_skip, shares_push}
use Rattle.corner_ends.proofs.conflicts.push_share.Goals as goal

pub share-times-requires-clause-divides : goal.share-times-requires-clause-divides
share-times-requires-clause-divides g c =
    let fits : SFits w64 c.multiplier.result = search rules in
    let t = times_exist c.args.c.now.problem c.args.c.now.marks c.show_corner.ensures.kept in
    simp to_z-of_z (subst (λ (z : ℤ). ◌∣◌ c.args.factor (unsigned_abs z)) (sym (c.multiplier.ensures.value t.0 t.1)) (c.requires.divides t.0 t.1 (sym c.rank.ensures ∙ c.if-rank-eq-REQUIRED.true)))

pub returns-in_ok-push : goal.returns-in_ok-push
returns-in_ok-push g c = λ y is rows below are.
    let fits : SFits w64 c.multiplier.result = search rules in
    let small : SFits w64 c.share-times.result = search rules in
    let same = simp to_z-of_z at c.share-times.ensures.value in
    let items = simp to_z-of_z at c.in_ok-push.ensures.items in
    let some = simp to_z-of_z at c.is_zero.ensures.no in
    shares_push y c.args.factor rows c.args.out.now.items c.push.new.self.items c.args.row.now c.share-times.result below (sym c.rank.ensures ∙ c.if-rank-eq-REQUIRED.true) (some c.if-not-is_zero.true) (same ∙ c.multiplier.ensures.value y is) c.share-times.ensures.fits
    (items ∙ ap (λ (k : ℕ). c.args.out.now.items ++ record { row = Held k; times = c.share-times.result } ∷ []) c.id.ensures) are

pub returns-else-not-is_zero : goal.returns-else-not-is_zero
returns-else-not-is_zero g c = λ y is rows below are.
    let fits : SFits w64 c.multiplier.result = search rules in
    let small : SFits w64 c.share-times.result = search rules in
    let same = simp to_z-of_z at c.share-times.ensures.value in
    let zero = simp to_z-of_z at c.is_zero.ensures.yes in
    shares_skip y c.args.factor rows c.args.out.now.items c.args.row.now below
    (λ _. sym (same ∙ c.multiplier.ensures.value y is) ∙ ap (λ (z : ℤ). pos c.args.factor *ℤ z) (zero c.if-not-is_zero.false) ∙ mul-zero_ℤ (pos c.args.factor)) are

pub returns-else-rank-eq-REQUIRED : goal.returns-else-rank-eq-REQUIRED
returns-else-rank-eq-REQUIRED g c = λ y is rows below are.
    shares_skip y c.args.factor rows c.args.out.now.items c.args.row.now below (λ rank. absurd (c.if-rank-eq-REQUIRED.false (c.rank.ensures ∙ rank))) are
