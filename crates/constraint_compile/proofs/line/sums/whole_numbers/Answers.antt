use Rattle.std.proofs.Common.{◌≡◌, ℕ, ◌≤◌, ◌^◌, ◌++◌, ◌∷◌, [], length-append, ℤ, pos, get_or, ◌*ℤ◌, SFits, rules, arith, unsigned_abs}
use Rattle.std.specs.Int.{w64}
use Rattle.std.proofs.lemmas.Int.{to_z-of_z}
use Rattle.std.proofs.lemmas.List.Elements.{All-push}
use Rattle.constraint_compile.specs.Coefficients.Sums.{attr_at, number_at, with_share_number}
use Rattle.constraint_compile.proofs.Lists.{each_pushed_by}
use Rattle.constraint_compile.proofs.line.sums.whole_numbers.Goals as goal

pub whole_more-requires-clause-number : goal.whole_more-requires-clause-number
whole_more-requires-clause-number c =
    let element : SFits w64 (get_or c.args.numbers.now c.loop-place.place (pos 0)) = search rules in
    simp (to_z-of_z, element) (c.requires.kept.small c.loop-place.place (pos 0) (omega (arith, c.requires.kept.long, c.loop-place-test.true)))

pub loop-place-preserved : goal.loop-place-preserved
loop-place-preserved c =
    let element : SFits w64 (get_or c.args.numbers.now c.loop-place.place (pos 0)) = search rules in
    let fits : SFits w64 c.in-Some.next = search rules in
    let items : c.push.new.self.items ≡ c.loop-place.out.items ++ c.in-Some.next ∷ [] = simp to_z-of_z at c.in_ok-push.ensures.items in
    let value : pos 2 *ℤ c.in-Some.next ≡ with_share_number (number_at c.args.numbers.now c.loop-place.place) 1 c.args.share.now (attr_at c.args.attrs.now c.loop-place.place) = simp (to_z-of_z, element) at c.in-Some.ensures.value in
    rw items (record {
      long = omega (arith, length-append c.loop-place.out.items (c.in-Some.next ∷ []), c.loop-place.invariant.long);
      each = each_pushed_by (λ (i : ℕ) (z : ℤ). pos 2 *ℤ z ≡ with_share_number (number_at c.args.numbers.now i) 1 c.args.share.now (attr_at c.args.attrs.now i)) c.loop-place.out.items c.loop-place.place c.in-Some.next (pos 0) c.loop-place.invariant.long c.loop-place.invariant.each value;
      small = All-push (λ z. unsigned_abs z ≤ 2 ^ 30) c.loop-place.out.items c.in-Some.next c.loop-place.invariant.small c.in-Some.ensures.small;
    })
