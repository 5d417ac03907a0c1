use Rattle.constraint_compile.proofs.compiled.Compiled.constants_naming.Goals as goal

pub returns-in-None-clause-stop : goal.returns-in-None-clause-stop
returns-in-None-clause-stop c =
    let no = rw c.in-None.is at c.in_ok-constants.ensures.none in
    rw c.forms.ensures.rows at no
