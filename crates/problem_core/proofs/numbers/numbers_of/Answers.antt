use Rattle.problem_core.proofs.StayNumbers.{all_read, sorted_numbers}
use Rattle.problem_core.proofs.numbers.numbers_of.Goals as goal

pub returns : goal.returns
returns c =
    sorted_numbers c.args.stays.now c.loop-stay.attrs.items c.sort_unstable.new.self.items c.requires
    (all_read c.args.stays.now c.loop-stay.attrs.items c.loop-stay.stay-index c.loop-stay-test.false c.loop-stay.invariant) c.sort_unstable.ensures.permutation c.sort_unstable.ensures.sorted
