use Rattle.std.proofs.Common.{◌∙◌, ap, map}
use Rattle.std.specs.String.{string_bytes}
use Rattle.name_tables.proofs.NameLemmas.{seen, insert_entry-seen}
use Rattle.scene_host.proofs.SceneLemmas.{unheld}
use Rattle.scene_host.proofs.scenes.Scenes.add.Goals as goal

pub returns-clause-added : goal.returns-clause-added
returns-clause-added g c =
    rw (← c.self.view_is)
    (ap (map (seen string_bytes)) c.in_ok-insert.ensures.entries
    ∙ insert_entry-seen string_bytes c.in_ok-key.key c.args.scene c.self.inside.table.entries c.args.name.now c.in_ok-key.ensures.ok
    (unheld c.args.name.now (map (seen string_bytes) c.self.inside.table.entries) (rw c.self.view_is c.requires)))
