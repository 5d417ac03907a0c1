use Rattle.std.proofs.Common.{◌∙◌, ap, map, sym}
use Rattle.std.specs.Option.{option_copied_mut}
use Rattle.std.specs.String.{string_bytes}
use Rattle.name_tables.proofs.NameLemmas.{seen, set_value-absent, set_value-seen}
use Rattle.name_tables.proofs.name_map.NameMap.set.Goals as goal
use Rattle.name_tables.proofs.name_map.NameMap.set.Goals.{in-Some, in_default}

pub returns : goal.returns
returns g c =
    elim c.match-get_mut.branch [
      | in-Some w ↦ rw (w.self-inside-is, ← c.self.view_is)
          (ap (map (seen string_bytes)) (c.get_mut.follows.holds c.args.value).0
          ∙ set_value-seen string_bytes c.args.name.now c.args.value c.self.inside.table.entries)
      | in_default w ↦ rw (w.self-inside-is, ← c.self.view_is)
          (ap (λ m. map (seen string_bytes) m.entries) c.get_mut.follows.holds-at-none
          ∙ ap (map (seen string_bytes)) (sym (set_value-absent _ c.self.inside.table.entries c.args.value (sym c.get_mut.ensures.value ∙ ap option_copied_mut w.in_default.is)))
          ∙ set_value-seen string_bytes c.args.name.now c.args.value c.self.inside.table.entries)
    ]
