use Rattle.std.proofs.lemmas.List.Elements.{All-push}
use Rattle.compile_parts.specs.Addends.{Addend, addends_view}
use Rattle.constraint_compile.specs.Coefficients.Pieces.{IsPiece, piece_value}
use Rattle.constraint_compile.proofs.Sums.Doubles.{values_more, values_whole, same_length, same_total}
use Rattle.constraint_compile.proofs.line.nonzero.pieces_of.Goals as goal

pub returns-clause-total : goal.returns-clause-total
returns-clause-total c =
    same_total piece_value (λ (a : Addend). a.share c.args.attr) c.loop-addend.pieces.items (addends_view c.args.added.now)
    (values_whole (λ (a : Addend). a.share c.args.attr) c.args.added.now c.loop-addend.pieces.items c.loop-addend.addend-index c.loop-addend-test.false c.loop-addend.invariant.values)

pub returns-clause-long : goal.returns-clause-long
returns-clause-long c =
    same_length (λ (a : Addend). a.share c.args.attr) c.args.added.now c.loop-addend.pieces.items
    (values_whole (λ (a : Addend). a.share c.args.attr) c.args.added.now c.loop-addend.pieces.items c.loop-addend.addend-index c.loop-addend-test.false c.loop-addend.invariant.values)

pub loop-addend-preserved : goal.loop-addend-preserved
loop-addend-preserved c = rw c.in_ok-push.ensures.items (record {
  values = values_more (λ (a : Addend). a.share c.args.attr) c.args.added.now c.loop-addend.pieces.items c.loop-addend.addend-index c.addend-item.result c.piece_of.result c.loop-addend-test.true c.addend-item.is c.piece_of.ensures.value c.loop-addend.invariant.values;
  kept = All-push IsPiece c.loop-addend.pieces.items c.piece_of.result c.loop-addend.invariant.kept c.piece_of.ensures.kept;
})
