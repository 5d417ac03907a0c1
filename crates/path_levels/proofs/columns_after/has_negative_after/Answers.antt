use Rattle.std.proofs.Common.{◌<◌, ◌↔◌, IsTrue, false, refl, subst, arith, All}
use Rattle.problem_core.specs.Corners.{exchanged}
use Rattle.path_lines.specs.Tables.{line_count, swap_of}
use Rattle.path_lines.proofs.Iffs.{never}
use Rattle.path_levels.specs.declared.columns_after.WideLevel.{WideLevel}
use Rattle.path_levels.specs.declared.outline.LineFacts.{LineFacts}
use Rattle.path_levels.specs.Exchanges.WideCosts.{IsSizedWide, IsWideNegative}
use Rattle.path_levels.proofs.Judging.AfterCosts.{inside_all, there_after, wide_decided}
use Rattle.path_levels.proofs.columns_after.has_negative_after.Goals as goal

pub returns-then-is_outside_after : goal.returns-then-is_outside_after
returns-then-is_outside_after c = λ p marks kept ex wide.
    let within : c.args.at < line_count p = let h = kept.lines_are.count in omega (arith, c.requires.at, h) in
    let enter : c.args.exchange.step.enter.at < line_count p = let h = kept.lines_are.count in omega (arith, c.requires.step, h) in
    wide_decided c.has_negative_first_after.result p (exchanged (swap_of p c.args.exchange.step) marks) c.args.exchange.corner.outline.now c.args.next.now c.index.result.now c.args.at (there_after p marks c.args.exchange.step kept.there enter ex) kept.outline_is wide
    (subst (λ n. All (IsSizedWide n) c.args.next.now) kept.lines_are.count c.requires.next) within
    (c.is_outside_after.ensures.outside c.if-is_outside_after.true p marks kept.there kept.lines_are ex) c.has_negative_first_after.ensures.none
    (subst (λ (f : LineFacts). (d : WideLevel) → IsTrue c.has_negative_first_after.result ↔ IsWideNegative f c.args.at c.args.next.now d) c.index.ensures c.has_negative_first_after.ensures.first)

pub returns-else-is_outside_after : goal.returns-else-is_outside_after
returns-else-is_outside_after c = λ p marks kept ex wide.
    let within : c.args.at < line_count p = let h = kept.lines_are.count in omega (arith, c.requires.at, h) in
    let enter : c.args.exchange.step.enter.at < line_count p = let h = kept.lines_are.count in omega (arith, c.requires.step, h) in
    never false refl
    (inside_all p (exchanged (swap_of p c.args.exchange.step) marks) c.args.at (there_after p marks c.args.exchange.step kept.there enter ex) within
    (c.is_outside_after.ensures.inside c.if-is_outside_after.false p marks kept.there kept.lines_are ex))
