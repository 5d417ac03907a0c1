use Rattle.std.proofs.Common.{rules, ◌≡◌, List, ℕ, [], length, arith, subst, sym}
use Rattle.corner_table.specs.declared.table.TheConstants.{LEVELS}
use Rattle.corner_table.specs.Tables.{lists_of}
use Rattle.corner_packing.specs.Packing.{IsTaken}
use Rattle.corner_packing.specs.Places.{AreDense}
use Rattle.corner_packing.proofs.PlaceFacts.{no_places}
use Rattle.corner_packing.proofs.PackingFacts.{are_places}
use Rattle.corner_packing.proofs.places.places_of.Goals as goal

pub loop-w-init : goal.loop-w-init
loop-w-init c =
    let is : c.in_ok-of.of.items ≡ [] = search rules in
    subst (λ (xs : List ℕ). AreDense (IsTaken (lists_of c.args.table.now)) LEVELS 0 xs 0) (sym is) (no_places (IsTaken (lists_of c.args.table.now)) LEVELS)

pub returns : goal.returns
returns c =
    let n : c.loop-w.w ≡ length c.args.table.now.slots.items = grind (arith, c.loop-w-test.false, c.loop-w.auto.w-end) in
    are_places (lists_of c.args.table.now) c.loop-w.w c.loop-w.places.of.items c.loop-w.places.count n c.requires.slots.levels c.loop-w.invariant
