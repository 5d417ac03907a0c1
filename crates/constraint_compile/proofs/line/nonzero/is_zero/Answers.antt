use Rattle.std.proofs.Common.{◌≡◌, ◌≤◌, ◌<◌, ◌^◌, ◌+ℤ◌, ◌*ℤ◌, pos, SFits, arith, unsigned_abs, refl}
use Rattle.std.specs.Int.{w64}
use Rattle.std.proofs.lemmas.Int.{to_z-of_z, fits_signed_from_abs}
use Rattle.constraint_compile.specs.Coefficients.Pieces.{AreDoubled}
use Rattle.constraint_compile.proofs.Sums.Doubles.{IsRound, first_round, round_small, round_more, round_past, round_last}
use Rattle.constraint_compile.proofs.line.nonzero.is_zero.Goals as goal

pub loop-round-init : goal.loop-round-init
loop-round-init c = first_round c.args.pieces.items c.requires.kept

pub doubled-requires-clause-few : goal.doubled-requires-clause-few
doubled-requires-clause-few c = omega (arith, c.loop-round.invariant.long, c.requires.few, c.deref.ensures.len)

pub doubled-requires-clause-kept : goal.doubled-requires-clause-kept
doubled-requires-clause-kept c = rw c.deref.ensures.value c.loop-round.invariant.kept

pub twice_with-whole-requires-clause-whole : goal.twice_with-whole-requires-clause-whole
twice_with-whole-requires-clause-whole c = c.loop-round.invariant.small

pub twice_with-whole-requires-clause-more : goal.twice_with-whole-requires-clause-more
twice_with-whole-requires-clause-more c =
    let round : IsRound c.args.pieces.items c.loop-round._round c.loop-round.whole c.loop-round.rests.items = rw c.loop-round.whole-is at c.loop-round.invariant in
    let twice : AreDoubled c.loop-round.rests.items c.in_ok-next.next.whole c.in_ok-next.next.rests.items = rw c.deref.ensures.value at c.in_ok-next.ensures in
    let small : unsigned_abs c.in_ok-next.next.whole ≤ 2 ^ 51 = round_small c.args.pieces.items c.loop-round.rests.items c.in_ok-next.next.rests.items c.loop-round._round c.loop-round.whole c.in_ok-next.next.whole c.requires.few round twice in
    let fits : SFits w64 c.in_ok-next.next.whole = fits_signed_from_abs w64 c.in_ok-next.next.whole (omega (arith, small)) in
    simp to_z-of_z small

pub returns-then-is_past-clause-no : goal.returns-then-is_past-clause-no
returns-then-is_past-clause-no c = λ _.
    let round : IsRound c.args.pieces.items c.loop-round._round c.loop-round.whole c.loop-round.rests.items = rw c.loop-round.whole-is at c.loop-round.invariant in
    let twice : AreDoubled c.loop-round.rests.items c.in_ok-next.next.whole c.in_ok-next.next.rests.items = rw c.deref.ensures.value at c.in_ok-next.ensures in
    let small : unsigned_abs c.in_ok-next.next.whole ≤ 2 ^ 51 = round_small c.args.pieces.items c.loop-round.rests.items c.in_ok-next.next.rests.items c.loop-round._round c.loop-round.whole c.in_ok-next.next.whole c.requires.few round twice in
    let fits : SFits w64 c.in_ok-next.next.whole = fits_signed_from_abs w64 c.in_ok-next.next.whole (omega (arith, small)) in
    let made : SFits w64 c.twice_with-whole.result = record { sfits = c.twice_with-whole.type_inv } in
    let is : c.twice_with-whole.result ≡ pos 2 *ℤ c.loop-round.whole +ℤ c.in_ok-next.next.whole = simp (to_z-of_z, c.loop-round.whole-is) at c.twice_with-whole.ensures in
    let past : 64 < unsigned_abs c.twice_with-whole.result = simp to_z-of_z at (c.if-is_past.ensures.yes refl) in
    round_past c.args.pieces.items c.loop-round.rests.items c.in_ok-next.next.rests.items c.loop-round._round c.loop-round.whole c.in_ok-next.next.whole c.requires.kept c.requires.few round twice (rw is at past)

pub loop-round-preserved : goal.loop-round-preserved
loop-round-preserved c =
    let round : IsRound c.args.pieces.items c.loop-round._round c.loop-round.whole c.loop-round.rests.items = rw c.loop-round.whole-is at c.loop-round.invariant in
    let twice : AreDoubled c.loop-round.rests.items c.in_ok-next.next.whole c.in_ok-next.next.rests.items = rw c.deref.ensures.value at c.in_ok-next.ensures in
    let small : unsigned_abs c.in_ok-next.next.whole ≤ 2 ^ 51 = round_small c.args.pieces.items c.loop-round.rests.items c.in_ok-next.next.rests.items c.loop-round._round c.loop-round.whole c.in_ok-next.next.whole c.requires.few round twice in
    let fits : SFits w64 c.in_ok-next.next.whole = fits_signed_from_abs w64 c.in_ok-next.next.whole (omega (arith, small)) in
    let made : SFits w64 c.twice_with-whole.result = record { sfits = c.twice_with-whole.type_inv } in
    let is : c.twice_with-whole.result ≡ pos 2 *ℤ c.loop-round.whole +ℤ c.in_ok-next.next.whole = simp (to_z-of_z, c.loop-round.whole-is) at c.twice_with-whole.ensures in
    let low : unsigned_abs c.twice_with-whole.result ≤ 64 = simp to_z-of_z at (c.if-is_past.ensures.no refl) in
    simp to_z-of_z (rw is (round_more c.args.pieces.items c.loop-round.rests.items c.in_ok-next.next.rests.items c.loop-round._round c.loop-round.whole c.in_ok-next.next.whole c.requires.few round twice (rw is at low)))

pub returns-clause-yes : goal.returns-clause-yes
returns-clause-yes c = λ _.
    let round : IsRound c.args.pieces.items c.loop-round._round c.loop-round.whole c.loop-round.rests.items = rw c.loop-round.whole-is at c.loop-round.invariant in
    round_last c.args.pieces.items c.loop-round.rests.items c.loop-round._round c.loop-round.whole c.requires.kept c.requires.few (omega (arith, c.loop-round-test.false)) round
