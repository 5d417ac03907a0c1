use Rattle.std.proofs.lemmas.List.Sorted.{searched, IsNonDecreasingBy-from_sort}
use Rattle.problem_reading.proofs.Problems.StayAttributes.{search_tells}
use Rattle.problem_reading.proofs.problem.attributes.Attributes.contains.Goals as goal

pub returns : goal.returns
returns c =
    let rising = IsNonDecreasingBy-from_sort (λ x. x) c.self.inside.sorted.items c.self.invariant in
    let found = rw c.deref.ensures.value at c.binary_search.ensures.position in
    rw (← c.self.view_is) (search_tells c.self.inside.sorted.items c.args.attr c.binary_search.result c.is_ok.result c.is_ok.ensures.value
    (searched c.self.inside.sorted.items c.args.attr c.binary_search.result found (λ i j le lt. rising i j 0 le lt)))
