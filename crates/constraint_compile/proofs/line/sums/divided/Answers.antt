use Rattle.std.proofs.Common.{◌≡◌, ℕ, ◌<◌, ◌≤◌, ◌^◌, ◌++◌, ◌∷◌, [], length-append, ℤ, pos, get_or, ◌*ℤ◌, SFits, rules, arith, unsigned_abs}
use Rattle.std.specs.Int.{w64, w128}
use Rattle.std.proofs.lemmas.Int.{to_z-of_z}
use Rattle.std.proofs.lemmas.List.Elements.{All-push}
use Rattle.constraint_compile.specs.Coefficients.Sums.{number_at}
use Rattle.constraint_compile.proofs.Lists.{each_pushed_by}
use Rattle.constraint_compile.proofs.line.sums.divided.Goals as goal

pub small_quotient-requires-clause-divides : goal.small_quotient-requires-clause-divides
small_quotient-requires-clause-divides c =
    let fits : SFits w128 (get_or c.args.wide.now c.loop-number.number-index (pos 0)) = search rules in
    simp (to_z-of_z, c.ranges.divisor, fits) (c.requires.divides c.loop-number.number-index (pos 0) c.loop-number-test.true)

pub loop-number-preserved : goal.loop-number-preserved
loop-number-preserved c =
    let element : SFits w128 (get_or c.args.wide.now c.loop-number.number-index (pos 0)) = search rules in
    let fits : SFits w64 c.in-Some.small = search rules in
    let items : c.push.new.self.items ≡ c.loop-number.out.items ++ c.in-Some.small ∷ [] = simp to_z-of_z at c.in_ok-push.ensures.items in
    let here : c.args.divisor *ℤ c.in-Some.small ≡ number_at c.args.wide.now c.loop-number.number-index = simp (to_z-of_z, c.ranges.divisor, element) at c.in-Some.ensures.value in
    let before : (i : ℕ) → i < c.loop-number.number-index → c.args.divisor *ℤ number_at c.loop-number.out.items i ≡ number_at c.args.wide.now i = simp (to_z-of_z, c.ranges.divisor) at c.loop-number.invariant.each in
    rw items (record {
      long = omega (arith, length-append c.loop-number.out.items (c.in-Some.small ∷ []), c.loop-number.invariant.long);
      each = simp (to_z-of_z, c.ranges.divisor) (each_pushed_by (λ (i : ℕ) (z : ℤ). c.args.divisor *ℤ z ≡ number_at c.args.wide.now i) c.loop-number.out.items c.loop-number.number-index c.in-Some.small (pos 0) c.loop-number.invariant.long before here);
      small = All-push (λ z. unsigned_abs z ≤ 2 ^ 30) c.loop-number.out.items c.in-Some.small c.loop-number.invariant.small c.in-Some.ensures.small;
    })
