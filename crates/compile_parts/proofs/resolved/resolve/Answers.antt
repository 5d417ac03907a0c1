use Rattle.std.proofs.Common.{rules, arith}
use Rattle.std.proofs.lemmas.Grind.{common_steps}
use Rattle.std.proofs.lemmas.List.Elements.{All-map}
use Rattle.script_text.specs.View.{term_view}
use Rattle.script_text.specs.declared.command.ExprTerm.{ExprTerm}
use Rattle.compile_parts.specs.Meaning.{HasDenominator}
use Rattle.compile_parts.proofs.resolved.resolve.Goals as goal
use Rattle.frac_core.proofs.Lists.{all-whole as all_whole, all-more as all_more}

pub loop-term-preserved : goal.loop-term-preserved
loop-term-preserved c = record {
  known = grind (arith, common_steps);
  added = grind (arith, common_steps);
  kept = search rules;
  above = all_more (λ (t : ExprTerm). HasDenominator (term_view t)) c.args.terms.now c.loop-term.term-index c.term-item.result c.loop-term-test.true c.term-item.is c.loop-term.invariant.above c.in-Ok.ensures.above;
  views = grind (arith, common_steps);
  number = grind (arith, common_steps);
}

pub returns-clause-above : goal.returns-clause-above
returns-clause-above c =
    All-map HasDenominator term_view c.args.terms.now (all_whole (λ (t : ExprTerm). HasDenominator (term_view t)) c.args.terms.now c.loop-term.term-index c.loop-term-test.false c.loop-term.invariant.above)
