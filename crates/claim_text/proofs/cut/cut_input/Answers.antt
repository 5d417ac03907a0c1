use Rattle.std.proofs.Common.{drop}
use Rattle.std.specs.Str.Lines.{lines}
use Rattle.std.proofs.lemmas.List.{take_rest}
use Rattle.claim_text.proofs.CutPlaces.{place_parts}
use Rattle.claim_text.proofs.cut.cut_input.Goals as goal

pub returns-clause-cut : goal.returns-clause-cut
returns-clause-cut c = record {
  written = lines (drop c.claim_start-start.result.at c.args.input.now);
  parts = place_parts c.args.input.now c.claim_start-start.result.at c.claim_start-start.result.count c.claim_start-start.ensures.place;
  before = c.claim_start-start.ensures.place.before;
  starts = c.claim_start-start.ensures.starts;
  without_ok = rw (take_rest c.args.input.now c.claim_start-start.result.at) at c.without_ok.ensures.without;
}
