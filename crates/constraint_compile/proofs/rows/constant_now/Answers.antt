use Rattle.constraint_compile.proofs.rows.constant_now.Goals as goal

pub returns-clause-small : goal.returns-clause-small
returns-clause-small c = rw (c.deref.ensures.value, c.deref-2.ensures.value) at c.constant_after.ensures.small

pub returns-clause-none : goal.returns-clause-none
returns-clause-none c = rw (c.deref.ensures.value, c.deref-2.ensures.value) at c.constant_after.ensures.none
