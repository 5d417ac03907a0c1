use Rattle.std.proofs.Common.{◌∙◌, ap, map}
use Rattle.std.specs.String.{string_bytes}
use Rattle.indexmap.proofs.SetLemmas.{map-remove}
use Rattle.name_tables.proofs.NameLemmas.{seen}
use Rattle.name_tables.proofs.name_map.NameMap.remove.Goals as goal

pub returns : goal.returns
returns g c =
    rw (← c.self.view_is)
    (ap (map (seen string_bytes)) c.shift_remove_index.ensures.entries ∙ map-remove (seen string_bytes) c.self.inside.table.entries c.args.place)
