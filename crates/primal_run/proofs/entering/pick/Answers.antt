use Rattle.std.proofs.Common.{◌≡◌, ◌∙◌, subst, sym}
use Rattle.corner_ends.proofs.Marks.{none_more, some_maps}
use Rattle.primal_run.specs.Entering.{IsChoice}
use Rattle.primal_run.proofs.entering.pick.Goals as goal

pub loop-i-preserved : goal.loop-i-preserved
loop-i-preserved g c = record {
  problem = c.see-seen.ensures.problem ∙ c.loop-i.invariant.problem;
  marks = c.see-seen.ensures.marks ∙ c.loop-i.invariant.marks;
  before = c.see-seen.ensures.before ∙ c.loop-i.invariant.before;
  found = some_maps c.see-seen.result.found (IsChoice c.loop-i.c.problem c.loop-i.c.marks) (IsChoice c.see-seen.new.c.problem c.see-seen.new.c.marks)
      (λ f h. subst (λ p. IsChoice p c.see-seen.new.c.marks f) (sym c.see-seen.ensures.problem) (subst (λ at. IsChoice c.loop-i.c.problem at f) (sym c.see-seen.ensures.marks) h)) c.see-seen.ensures.found;
  none = none_more c.see-seen.result.found c.loop-i.found (c.see-seen.result.next ≡ c.loop-i.i) (c.loop-i.i ≡ 0) (c.see-seen.result.next ≡ 0) (λ a b. a ∙ b) c.see-seen.ensures.none c.loop-i.invariant.none;
}
