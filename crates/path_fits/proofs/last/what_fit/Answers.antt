use Rattle.std.proofs.Common.{List, sym, subst}
use Rattle.problem_core.specs.declared.parts.Mark.{Mark}
use Rattle.problem_core.specs.declared.stops.What.{What}
use Rattle.problem_core.specs.declared.stops.What.TheVariants.{Level as LevelOf}
use Rattle.problem_core.specs.declared.stops.Quantity.TheVariants.{Plain}
use Rattle.path_lines.specs.Exchanges.Pivots.{next_marks}
use Rattle.path_lines.proofs.Exchanges.Leading.{ok_then}
use Rattle.path_fits.specs.Fits.{IsFitAt}
use Rattle.path_fits.proofs.LastCorner.SignsAfter.{same_next}
use Rattle.path_fits.proofs.last.what_fit.Goals as goal

pub returns-in-Attr : goal.returns-in-Attr
returns-in-Attr c = ok_then c.attr_fit.result (λ fit h at is turn.
    subst (λ (w : What). IsFitAt c.args.p.now (next_marks c.args.p.now c.args.pivot.now at) (Plain w) fit) (sym c.in-Attr.is) (h at turn is.kept.lines_are is.attrs)) c.attr_fit.ensures

pub returns-in-Mark : goal.returns-in-Mark
returns-in-Mark c = ok_then c.mark_fit.result (λ fit h at is turn.
    subst (λ (w : What). IsFitAt c.args.p.now (next_marks c.args.p.now c.args.pivot.now at) (Plain w) fit) (sym c.in-Mark.is) (h at turn is.kept.lines_are)) c.mark_fit.ensures

pub returns-in-Level : goal.returns-in-Level
returns-in-Level c = ok_then c.level_fit.result (λ fit h at is turn.
    subst (λ (w : What). IsFitAt c.args.p.now (next_marks c.args.p.now c.args.pivot.now at) (Plain w) fit) (sym c.in-Level.is)
    (subst (λ (next : List Mark). IsFitAt c.args.p.now next (Plain (LevelOf c.in-Level.level)) fit) (sym (same_next c.args.p.now c.args.last c.args.pivot.now at c.requires.step)) (h at is))) c.level_fit.ensures
