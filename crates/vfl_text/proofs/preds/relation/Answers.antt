use Rattle.vfl_text.specs.Grammar.{relations}
use Rattle.span_text.proofs.Lengths.{tried_within, gives_within}
use Rattle.std.proofs.Common.{length, refl}
use Rattle.span_text.specs.Reading.{tried}
use Rattle.vfl_text.proofs.preds.relation.Goals as goal

pub returns-clause-within : goal.returns-clause-within
returns-clause-within c = gives_within c.or_else.result (tried relations c.args.text.now) (length c.args.text.now) (c.or_else.ensures _ (c.or_else-found-2.ensures _ (c.or_else-found.ensures _ refl))) (tried_within relations c.args.text.now)
