use Rattle.scenes.proofs.MovedFrames.{sorted_owners, sorted_rising}
use Rattle.scenes.proofs.scene.moved.views_of.Goals as goal

pub returns-clause-owners : goal.returns-clause-owners
returns-clause-owners c =
    sorted_owners c.args.attrs.now c.in_ok-out.out.items c.sort_unstable.new.self.items c.dedup.new.self.items c.in_ok-out.ensures
    c.sort_unstable.ensures.permutation c.dedup.ensures.filtered

pub returns-clause-rising : goal.returns-clause-rising
returns-clause-rising c =
    sorted_rising c.sort_unstable.new.self.items c.dedup.new.self.items c.sort_unstable.ensures.sorted c.dedup.ensures.filtered
