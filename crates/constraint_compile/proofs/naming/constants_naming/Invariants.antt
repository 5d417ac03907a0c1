use Rattle.std.proofs.Common.{take, map}
use Rattle.constraint_compile.specs.Inside.{form_view}
use Rattle.constraint_compile.specs.Naming.{AreConstantsOf, naming}
use Rattle.constraint_compile.proofs.naming.constants_naming.Given as goal

abbrev pub invariant-loop-form : goal.invariant-loop-form
invariant-loop-form l = AreConstantsOf l.metrics (naming l.name (map form_view (take l.form-index l.forms))) l.constants.items
