use Rattle.std.specs.String.{string_bytes}
use Rattle.name_tables.proofs.NameLemmas.{AllPairs-seen}
use Rattle.name_tables.proofs.name_map.NameMap.len.Goals as goal

pub returns-clause-distinct : goal.returns-clause-distinct
returns-clause-distinct g c = rw (← c.self.view_is) (AllPairs-seen string_bytes c.self.inside.table.entries c.len.ensures.unique)
