use Rattle.std.proofs.Common.{◌∙◌, ap, map, sym}
use Rattle.std.proofs.lemmas.List.{take-map}
use Rattle.std.specs.String.{string_bytes}
use Rattle.name_tables.proofs.NameLemmas.{seen}
use Rattle.name_tables.proofs.name_map.NameMap.truncate.Goals as goal

pub returns : goal.returns
returns g c =
    rw (← c.self.view_is)
    (ap (map (seen string_bytes)) c.truncate.ensures.entries ∙ sym (take-map (seen string_bytes) c.args.len c.self.inside.table.entries))
