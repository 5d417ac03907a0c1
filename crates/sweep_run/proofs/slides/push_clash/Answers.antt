use Rattle.std.proofs.Common.{◌∙◌, ◌++◌, [], ◌∷◌, ap, refl, subst, sym}
use Rattle.problem_core.specs.Layout.{Problem}
use Rattle.problem_core.specs.Corners.{IsCorner}
use Rattle.sweep_laws.specs.Stretches.{Stretch}
use Rattle.sweep_laws.proofs.EachCorner.{corner_at_each}
use Rattle.sweep_run.specs.Told.{stretches_of}
use Rattle.sweep_run.proofs.EndFacts.{end_is_kept, there_is_here}
use Rattle.sweep_run.proofs.Finishing.{clashed_slid, stretches_more}
use Rattle.sweep_run.proofs.slides.push_clash.Goals as goal

pub returns : goal.returns
returns g c =
    let p = c.args.c.now.problem in
    let w = c.args.way.now in
    let last = there_is_here w c.args.c.now c.requires.held in
    let kept = end_is_kept w c.args.c.now c.requires.held in
    clashed_slid p w c.args.c.now.marks c.requires.held.whole
    (λ f hf. corner_at_each p w.row c.args.c.now.marks w.end f c.requires.held.whole kept.lowest.above hf (subst (λ (k : Problem). IsCorner k c.args.c.now.marks) (sym last) c.show_corner.ensures.kept.corner)) last kept c.requires.held.parts c.requires.costs c.in_ok-by.by c.in_ok-by.ensures.elsewhere
    c.args.slid.now _ c.reached.result c.requires.behind refl refl
    (ap stretches_of c.in_ok-push.ensures.items ∙ stretches_more c.args.slid.now.stretches.items c.clash_of-clash.result ∙ ap (λ (s : Stretch). stretches_of c.args.slid.now.stretches.items ++ s ∷ []) c.clash_of-clash.ensures)
    c.reached.ensures.none c.reached.ensures.some
