use Rattle.std.proofs.Common.{◌≡◌, nat_eq, drop}
use Rattle.std.specs.List.{list_any}
use Rattle.constraint_compile.proofs.compiled.has_view.Given as goal

abbrev pub invariant-loop-v : goal.invariant-loop-v
invariant-loop-v l = list_any (λ v. nat_eq v.0 l.view.0) (drop l.v-index l.views) ≡ list_any (λ v. nat_eq v.0 l.view.0) l.views
