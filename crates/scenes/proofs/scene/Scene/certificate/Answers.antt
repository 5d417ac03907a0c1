use Rattle.held_items.specs.Kept.{items_of}
use Rattle.scenes.proofs.Diagnosed.{certificate-scene}
use Rattle.scenes.proofs.scene.Scene.certificate.Goals as goal

pub returns : goal.returns
returns g c =
    rw (← c.self.view_is)
    (certificate-scene c.self.inside.tree c.self.inside.metrics (items_of c.self.inside.items.items) c.self.inside.setting c.self.inside.engine c.certificate.result c.show_layout.ensures.layout c.certificate.ensures.own c.certificate.ensures.certified)
