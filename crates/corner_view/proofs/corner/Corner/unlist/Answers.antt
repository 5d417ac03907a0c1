use Rattle.std.proofs.Common.{◌≡◌, Some, slice_get, subst, sym}
use Rattle.problem_core.specs.declared.parts.RowName.{RowName}
use Rattle.corner_view.specs.Seen.{CornerView, HasNoNegative}
use Rattle.corner_view.proofs.corner.Corner.unlist.Goals as goal

pub unlist-requires-clause-settled : goal.unlist-requires-clause-settled
unlist-requires-clause-settled g c = subst (λ (v : CornerView). (name : RowName) → slice_get v.candidates c.args.i ≡ Some name → HasNoNegative v.problem v.marks name) (sym c.self.view_is) c.requires.settled
