use Rattle.std.proofs.Common.{◌≡◌, ◌<◌, sym, subst, length, slice_get, slice_index_or, Some}
use Rattle.problem_core.specs.declared.parts.RowName.{RowName}
use Rattle.corner_view.specs.Seen.{CornerView, HasNoNegative}
use Rattle.corner_table.specs.Invariants.{name_of, names_of}
use Rattle.corner_table.specs.Tables.{lists_of, slot_at}
use Rattle.corner_table.proofs.Basics.ListFacts.{get_mapped, unlist_kept}
use Rattle.corner.proofs.corner.CornerTableau.unlist.Goals as goal
use Rattle.frac_core.proofs.Lists.{length-mapped as map_length}

pub invariant_of-self : goal.invariant_of-self
invariant_of-self c = (
  let within : c.args.i < length (names_of (lists_of c.self.inside.table) c.self.inside.listed) = subst (λ (v : CornerView). c.args.i < length v.candidates) (sym c.self.view_is) c.requires.within in
      unlist_kept c.self.inside.table c.self.inside.listed c.remove.new.self (slice_index_or c.self.inside.listed c.args.i 0) c.self.invariant.0 c.remove.ensures
      (subst (λ (v : CornerView). (name : RowName) → slice_get v.candidates c.args.i ≡ Some name → HasNoNegative v.problem v.marks name) (sym c.self.view_is) c.requires.settled
      (name_of (slot_at (lists_of c.self.inside.table) (slice_index_or c.self.inside.listed c.args.i 0)).owner)
      (get_mapped (λ w. name_of (slot_at (lists_of c.self.inside.table) w).owner) c.self.inside.listed c.args.i 0
      (subst (λ n. c.args.i < n) (map_length (λ w. name_of (slot_at (lists_of c.self.inside.table) w).owner) c.self.inside.listed) within))),
  c.self.invariant.1,
)
