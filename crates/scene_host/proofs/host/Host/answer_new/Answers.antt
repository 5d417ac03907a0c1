use Rattle.std.proofs.Common.{◌∙◌, ap, sym, List, ℕ}
use Rattle.scene_host.specs.Marks.{marked}
use Rattle.scene_host.proofs.SceneLemmas.{on_ok}
use Rattle.scene_host.proofs.host.Host.answer_new.Goals as goal

pub returns-clause-told : goal.returns-clause-told
returns-clause-told g c =
    let told = c.in_ok-refused.ensures.told in (
      marked c.args.before.now told.0,
      (
        c.in_ok-scene.scene,
        c.answer_marked.new.self,
        rw (← c.self.view_is) c.in_ok-scene.ensures,
        (told.0, told.1, ap (λ (mark : List ℕ). marked mark told.0) c.requires.mark),
        rw (← c.self.view_is) (on_ok c.add.result (sym c.is_err.ensures.value ∙ c.if-is_err.false) c.add.ensures.added),
      ),
      told.2,
    )
