use Rattle.compile_parts.specs.Addends.{addends_view, first_of}
use Rattle.constraint_compile.specs.Coefficients.Sums.{AreKept, IsSum, AreScales}
use Rattle.constraint_compile.proofs.line.scales.scales_of.Given as goal

abbrev pub invariant-loop-addend : goal.invariant-loop-addend
invariant-loop-addend l = record {
  kept : AreKept l.attrs l.sum.scale l.sum.numbers.items;
  sum : IsSum (first_of (addends_view l.added) l.addend-index) l.attrs l.sum.scale l.sum.numbers.items;
  scales : AreScales (addends_view l.added) l.addend-index l.scales.items;
}
