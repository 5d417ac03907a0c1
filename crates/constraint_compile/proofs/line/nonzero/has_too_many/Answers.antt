use Rattle.std.proofs.Common.{arith, refl}
use Rattle.std.proofs.lemmas.Bool.Decides.{nat_tests}
use Rattle.compile_parts.specs.Addends.{addends_view, sum_of}
use Rattle.constraint_compile.proofs.Sums.Found.{attrs_few, found_few, zero_shares}
use Rattle.constraint_compile.proofs.line.nonzero.has_too_many.Goals as goal

pub returns-clause-no : goal.returns-clause-no
returns-clause-no c = λ few.
    found_few (sum_of (addends_view c.args.added.now)) c.args.attrs.now c.in_ok-found.found.items c.in_ok-found.ensures (λ v off. zero_shares v c.args.added.now (c.requires.off v off))
    (grind (arith, nat_tests, few, c.len.ensures))

pub returns-then-not-may_be_many-clause-no : goal.returns-then-not-may_be_many-clause-no
returns-then-not-may_be_many-clause-no c = λ _.
    attrs_few (sum_of (addends_view c.args.added.now)) c.args.attrs.now c.requires.rising (λ v off. zero_shares v c.args.added.now (c.requires.off v off))
    (c.if-not-may_be_many.ensures.no refl)
