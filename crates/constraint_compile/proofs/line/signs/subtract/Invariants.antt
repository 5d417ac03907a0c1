use Rattle.std.proofs.Common.{◌≡◌, ◌++◌, map, take}
use Rattle.script_text.specs.View.{terms_view}
use Rattle.compile_parts.specs.Meaning.{minus}
use Rattle.constraint_compile.proofs.line.signs.subtract.Given as goal

abbrev pub invariant-loop-term : goal.invariant-loop-term
invariant-loop-term l = terms_view l.out.items ≡ terms_view l.fn.out.items ++ map minus (terms_view (take l.term-index l.terms))
