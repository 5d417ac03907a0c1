use Rattle.std.proofs.Common.{◌≡◌, map, take, All}
use Rattle.compile_parts.specs.Addends.{addends_view}
use Rattle.constraint_compile.specs.Coefficients.Pieces.{piece_value, IsPiece}
use Rattle.constraint_compile.proofs.line.nonzero.pieces_of.Given as goal

abbrev pub invariant-loop-addend : goal.invariant-loop-addend
invariant-loop-addend l = record {
  values : map piece_value l.pieces.items ≡ map (λ a. a.share l.attr) (addends_view (take l.addend-index l.added));
  kept : All IsPiece l.pieces.items;
}
