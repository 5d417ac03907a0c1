use Rattle.std.proofs.Common.{◌∙◌, sym}
use Rattle.std.specs.String.{string_bytes}
use Rattle.name_tables.proofs.NameLemmas.{values-seen}
use Rattle.name_tables.proofs.name_map.NameMap.values.Goals as goal

pub returns : goal.returns
returns g c = rw (← c.self.view_is) (c.as_slice.ensures ∙ c.values.ensures.rest ∙ sym (values-seen string_bytes c.self.inside.table.entries))
