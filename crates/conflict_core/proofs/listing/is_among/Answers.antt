use Rattle.std.proofs.Common.{◌∙◌}
use Rattle.conflict_core.proofs.Among.{search_tells}
use Rattle.conflict_core.proofs.listing.is_among.Goals as goal

pub returns : goal.returns
returns c = c.is_ok.ensures.value ∙ search_tells c.args.ids.now c.args.id c.binary_search.result c.requires c.binary_search.ensures.position
