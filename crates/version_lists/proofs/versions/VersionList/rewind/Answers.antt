use Rattle.std.proofs.Common.{◌∙◌, ◌≤◌, length, take, sym, ap, arith}
use Rattle.std.proofs.lemmas.List.{take_all}
use Rattle.version_lists.proofs.UndoLemmas.{length-versions}
use Rattle.version_lists.proofs.versions.VersionList.rewind.Goals as goal

pub returns-else-is_empty-clause-before : goal.returns-else-is_empty-clause-before
returns-else-is_empty-clause-before g c =
    let few : length c.args.self.now.before ≤ 33 =
    rw (← c.self.view_is)
    (omega (arith, length-versions c.self.inside.list.items.items c.self.inside.logs.items, c.self.invariant.few))
    in
    c.mark.ensures.before
    ∙ ap (λ vs. take 33 vs) (sym c.back.ensures.version)
    ∙ take_all 33 c.args.self.now.before few
