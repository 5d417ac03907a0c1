use Rattle.std.proofs.Common.{◌+ℤ◌, take, SFits, arith, pos}
use Rattle.std.specs.Int.{w64}
use Rattle.std.proofs.lemmas.Int.{to_z-of_z, fits_signed_from_abs}
use Rattle.constraint_compile.specs.Coefficients.Pieces.{AreDoubled}
use Rattle.constraint_compile.proofs.Sums.Doubles.{doubled_at, doubled_small}
use Rattle.constraint_compile.proofs.line.nonzero.doubled.Goals as goal

pub loop-piece-preserved : goal.loop-piece-preserved
loop-piece-preserved c =
    let before : AreDoubled (take c.loop-piece.piece-index c.args.pieces.now) c.loop-piece.whole c.loop-piece.rests.items = rw c.loop-piece.whole-is at c.loop-piece.invariant in
    let next : SFits w64 c.twice-next.result.whole = fits_signed_from_abs w64 c.twice-next.result.whole (omega (arith, c.twice-next.ensures.small)) in
    let sum : SFits w64 (c.loop-piece.whole +ℤ c.twice-next.result.whole) = fits_signed_from_abs w64 (c.loop-piece.whole +ℤ c.twice-next.result.whole) (doubled_small c.args.pieces.now c.loop-piece.rests.items c.loop-piece.piece-index c.loop-piece.whole c.twice-next.result.whole c.loop-piece-test.true c.requires.few before c.twice-next.ensures.small) in
    rw c.in_ok-push.ensures.items (simp (to_z-of_z, c.loop-piece.whole-is) (doubled_at c.args.pieces.now c.loop-piece.rests.items c.loop-piece.piece-index c.loop-piece.whole c.twice-next.result.whole (record { num = pos 0; den = pos 0 }) c.twice-next.result.rest c.loop-piece-test.true c.requires.kept before c.twice-next.ensures.kept c.twice-next.ensures.value c.twice-next.ensures.den c.twice-next.ensures.low c.twice-next.ensures.small))
