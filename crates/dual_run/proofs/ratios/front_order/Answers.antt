use Rattle.std.proofs.Common.{◌≡◌, ◌≢◌, ◌∙◌, rules, sym}
use Rattle.std.specs.declared.cmp.Ordering.TheVariants.{Less, Greater}
use Rattle.std.proofs.lemmas.Cmp.{int_ranked}
use Rattle.dual_run.proofs.FrontOrders.{lesser_ratio, other_stronger, weaker_front}
use Rattle.dual_run.proofs.ratios.front_order.Goals as goal

pub is_stronger-requires-clause-a : goal.is_stronger-requires-clause-a
is_stronger-requires-clause-a g c = (c.requires.f.reduced.0, c.requires.f.reduced.1)

pub is_stronger-requires-clause-b : goal.is_stronger-requires-clause-b
is_stronger-requires-clause-b g c = (c.requires.g.reduced.0, c.requires.g.reduced.1)

pub returns-then-eq-clause-less : goal.returns-then-eq-clause-less
returns-then-eq-clause-less g c = λ e.
    let same : c.args.f.level ≡ c.args.g.level = search rules in
    lesser_ratio c.args.c.now.problem c.args.c.now.marks c.args.a c.args.b c.args.f c.args.g c.show_corner.ensures.kept c.requires.a c.requires.b c.requires.f c.requires.g same (int_ranked _ _ Less (sym e ∙ c.ratio_order.ensures))

pub returns-then-eq-clause-greater : goal.returns-then-eq-clause-greater
returns-then-eq-clause-greater g c = λ e.
    let same : c.args.f.level ≡ c.args.g.level = search rules in
    lesser_ratio c.args.c.now.problem c.args.c.now.marks c.args.b c.args.a c.args.g c.args.f c.show_corner.ensures.kept c.requires.b c.requires.a c.requires.g c.requires.f (sym same) (int_ranked _ _ Greater (sym e ∙ c.ratio_order.ensures))

pub returns-then-is_stronger-clause-greater : goal.returns-then-is_stronger-clause-greater
returns-then-is_stronger-clause-greater g c = λ e.
    weaker_front c.args.c.now.problem c.args.c.now.marks c.args.b c.args.a c.args.g c.args.f c.show_corner.ensures.kept c.requires.columns c.requires.b c.requires.a c.requires.g c.requires.f (c.is_stronger.ensures.yes c.if-is_stronger.true)

pub returns-else-is_stronger-clause-less : goal.returns-else-is_stronger-clause-less
returns-else-is_stronger-clause-less g c = λ e.
    let apart : c.args.f.level ≢ c.args.g.level = search rules in
    weaker_front c.args.c.now.problem c.args.c.now.marks c.args.a c.args.b c.args.f c.args.g c.show_corner.ensures.kept c.requires.columns c.requires.a c.requires.b c.requires.f c.requires.g
    (other_stronger c.args.c.now.problem c.args.f.level c.args.g.level c.show_corner.ensures.kept.whole apart (c.is_stronger.ensures.no c.if-is_stronger.false))
