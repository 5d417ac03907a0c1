use Rattle.std.specs.String.{string_bytes}
use Rattle.name_tables.proofs.NameLemmas.{AllZip-seen}
use Rattle.name_tables.proofs.name_map.NameMap.copy.Goals as goal

pub returns : goal.returns
returns g c = rw (← c.self.view_is) (AllZip-seen string_bytes g.V.Clone.is_clone c.self.inside.table.entries c.in_ok-clone.field-0.entries c.in_ok-clone.ensures.cases)
