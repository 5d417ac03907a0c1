use Rattle.std.proofs.Common.{refl, pos}
use Rattle.std.proofs.lemmas.List.{take_all}
use Rattle.std.proofs.lemmas.List.Elements.{All-more}
use Rattle.std.specs.Prelude.{Contains}
use Rattle.problem_reading.proofs.problem.draft.are_covered.Goals as goal

pub loop-term-preserved : goal.loop-term-preserved
loop-term-preserved c =
    All-more (λ t. Contains c.args.covered.now t.attr) c.args.terms.now c.loop-term.term-index (record { attr = 0; by = pos 0 }) c.loop-term-test.true c.loop-term.invariant (c.contains.ensures.0 c.if-not-contains.false)

pub returns : goal.returns
returns c = (λ _. rw (take_all c.loop-term.term-index c.args.terms.now c.loop-term-test.false) at c.loop-term.invariant, λ _. refl)
