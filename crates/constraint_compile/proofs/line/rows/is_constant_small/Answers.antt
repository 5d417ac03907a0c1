use Rattle.constraint_compile.proofs.line.rows.is_constant_small.Goals as goal

pub returns-in-Some-clause-yes : goal.returns-in-Some-clause-yes
returns-in-Some-clause-yes c = λ _. rw (c.deref.ensures.value, c.deref-2.ensures.value) at c.in-Some.ensures.small

pub returns-in-None-clause-no : goal.returns-in-None-clause-no
returns-in-None-clause-no c = λ _. rw (c.deref.ensures.value, c.deref-2.ensures.value) at c.in-None.ensures.none
