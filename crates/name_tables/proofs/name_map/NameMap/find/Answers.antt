use Rattle.std.proofs.Common.{sym, ◌∙◌}
use Rattle.std.specs.String.{string_bytes}
use Rattle.name_tables.proofs.NameLemmas.{position-seen}
use Rattle.name_tables.proofs.name_map.NameMap.find.Goals as goal

pub returns-clause-place : goal.returns-clause-place
returns-clause-place g c = rw (← c.self.view_is) (c.get_index_of.ensures.index ∙ sym (position-seen string_bytes c.args.name.now c.self.inside.table.entries))
