use Rattle.std.proofs.Common.{rules, ◌≡◌, ◌+◌, ◌++◌, [], ◌∷◌, List, ℕ, subst, sym}
use Rattle.corner_table.specs.declared.table.TheConstants.{LEVELS}
use Rattle.corner_table.specs.Tables.{lists_of}
use Rattle.corner_packing.specs.Packing.{IsTaken}
use Rattle.corner_packing.specs.Places.{AreDense}
use Rattle.corner_packing.proofs.PlaceFacts.{place_more}
use Rattle.corner_packing.proofs.PackingFacts.{none_taken}
use Rattle.corner_packing.proofs.places.push_place.Goals as goal

pub returns-then-not-is_taken : goal.returns-then-not-is_taken
returns-then-not-is_taken c =
    let is : c.push.new.self.items ≡ c.args.places.now.of.items ++ 0 ∷ [] = c.in_ok-push.ensures.items in
    subst (λ (xs : List ℕ). AreDense (IsTaken (lists_of c.args.table.now)) LEVELS (c.args.w + 1) xs c.args.places.now.count) (sym is)
    (none_taken (lists_of c.args.table.now) c.args.w c.args.places.now.of.items c.args.places.now.count c.requires.dense (c.is_taken.ensures.no (search rules)))

pub returns : goal.returns
returns c =
    let is : c.push-2.new.self.items ≡ c.args.places.now.of.items ++ c.args.places.now.count ∷ [] = c.in_ok-push-2.ensures.items in
    subst (λ (xs : List ℕ). AreDense (IsTaken (lists_of c.args.table.now)) LEVELS (c.args.w + 1) xs (c.args.places.now.count + 1)) (sym is)
    (place_more (IsTaken (lists_of c.args.table.now)) LEVELS c.args.w c.args.places.now.of.items c.args.places.now.count c.requires.dense (c.is_taken.ensures.yes (search rules)))
