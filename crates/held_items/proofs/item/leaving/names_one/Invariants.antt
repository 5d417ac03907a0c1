use Rattle.std.proofs.Common.{◌≡◌, nat_eq, drop}
use Rattle.std.specs.List.{list_any}
use Rattle.held_items.proofs.item.leaving.names_one.Given as goal

abbrev pub invariant-loop-id : goal.invariant-loop-id
invariant-loop-id l = list_any (λ id. list_any (λ v. nat_eq v id) l.line.views) (drop l.id-index l.gone) ≡ list_any (λ id. list_any (λ v. nat_eq v id) l.line.views) l.gone
