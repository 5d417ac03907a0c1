use Rattle.std.proofs.Common.{◌∙◌, ap, map, refl, sym, Some}
use Rattle.std.proofs.lemmas.Map.Steps.{set_value_same}
use Rattle.std.specs.Option.{option_copied_mut}
use Rattle.std.specs.String.{string_bytes}
use Rattle.name_tables.proofs.NameLemmas.{lookup-seen, seen, set_value-seen}
use Rattle.scene_host.proofs.SceneLemmas.{on_err}
use Rattle.scene_host.proofs.scenes.Scenes.answer.Goals as goal
use Rattle.scene_host.proofs.scenes.Scenes.answer.Goals.{in-Some+in_ok-answer_marked-in-Some, in-None}

pub returns-in_err-answer_marked-in-Some-clause-same : goal.returns-in_err-answer_marked-in-Some-clause-same
returns-in_err-answer_marked-in-Some-clause-same g c =
    on_err c.from_residual.result
    (ap (map (seen string_bytes)) ((c.get_mut.follows.holds c.answer_marked.new.self).0 ∙ set_value_same _ c.self.inside.table.entries c.answer_marked.new.self
    (sym c.get_mut.ensures.value ∙ (ap option_copied_mut c.in-Some.is ∙ ap Some (sym c.in_err-answer_marked-in-Some.ensures.same)))) ∙ c.self.view_is)

pub returns-clause-told : goal.returns-clause-told
returns-clause-told g c =
    elim c.match-get_mut.branch [
      | in-Some+in_ok-answer_marked-in-Some w ↦ rw (w.result-is, w.self-inside-is, w.out-is, ← c.self.view_is) (
        w.in-Some.scene.now,
        w.answer_marked.new.self,
        lookup-seen string_bytes c.args.name.now c.self.inside.table.entries ∙ (sym c.get_mut.ensures.value ∙ ap option_copied_mut w.in-Some.is),
        ap (map (seen string_bytes)) (c.get_mut.follows.holds w.answer_marked.new.self).0 ∙ set_value-seen string_bytes c.args.name.now w.answer_marked.new.self c.self.inside.table.entries,
        w.in_ok-answer_marked-in-Some.ensures.told,
      )
      | in-None w ↦ rw w.result-is tt
    ]

pub returns-clause-none : goal.returns-clause-none
returns-clause-none g c =
    elim c.match-get_mut.branch [
      | in-Some+in_ok-answer_marked-in-Some w ↦ rw w.result-is tt
      | in-None w ↦ rw (w.result-is, w.self-inside-is, w.out-is, ← c.self.view_is) (
        lookup-seen string_bytes c.args.name.now c.self.inside.table.entries ∙ (sym c.get_mut.ensures.value ∙ ap option_copied_mut w.in-None.is),
        ap (λ m. map (seen string_bytes) m.entries) c.get_mut.follows.holds-at-none,
        refl,
      )
    ]
