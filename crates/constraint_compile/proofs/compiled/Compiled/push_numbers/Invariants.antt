use Rattle.std.proofs.Common.{◌≡◌, ◌++◌, map, take}
use Rattle.constraint_compile.specs.Inside.{form_view}
use Rattle.constraint_compile.proofs.compiled.Compiled.push_numbers.Given as goal

abbrev pub invariant-loop-form : goal.invariant-loop-form
invariant-loop-form l = l.numbers.items ≡ l.fn.numbers.items ++ map (λ f. f.id) (map form_view (take l.form-index l.forms))
