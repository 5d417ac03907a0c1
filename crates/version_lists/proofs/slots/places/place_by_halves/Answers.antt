use Rattle.std.proofs.Common.{rules}
use Rattle.std.proofs.lemmas.List.Sorted.{answers_always}
use Rattle.version_lists.specs.declared.slots.Numbered.{Numbered}
use Rattle.version_lists.proofs.Searches.{searched}
use Rattle.version_lists.proofs.slots.places.place_by_halves.Goals as goal

-- the closure gives an entry's number
pub returns : goal.returns
returns c =
    let facts = c.binary_search_by_key.ensures in
    let by_number = facts.position (λ (t : Numbered). t.number) (answers_always _ _ _ (λ f a r g called. search rules)) in
    rw c.ok.ensures.value (searched c.args.kept.now c.args.number c.binary_search_by_key.result c.requires facts.bound by_number)
