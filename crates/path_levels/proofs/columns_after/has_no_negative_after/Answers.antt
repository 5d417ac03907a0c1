use Rattle.std.proofs.Common.{◌≡◌, ◌<◌, ℕ, true, false, refl, subst, arith, rules, inl, inr}
use Rattle.std.proofs.lemmas.Bool.{cases_eq}
use Rattle.problem_core.specs.Corners.{exchanged}
use Rattle.path_lines.specs.Tables.{line_count, swap_of}
use Rattle.path_lines.proofs.Iffs.{always, never, right_then, wrong_then}
use Rattle.path_levels.specs.Costs.{HasNegative}
use Rattle.path_levels.proofs.Judging.AfterCosts.{there_after, wide_all}
use Rattle.path_levels.proofs.columns_after.has_no_negative_after.Goals as goal

pub returns-then-has_negative_after : goal.returns-then-has_negative_after
returns-then-has_negative_after c = λ p marks kept ex wide.
    let within : c.loop-at.at < line_count p = let h = kept.lines_are.count in omega (arith, c.loop-at-test.true, h) in
    let enter : c.args.exchange.step.enter.at < line_count p = let h = kept.lines_are.count in omega (arith, c.requires.step, h) in
    let yes : c.has_negative_after.result ≡ true = search rules in
    never false refl
    (λ none.
    (wide_all p (exchanged (swap_of p c.args.exchange.step) marks) c.args.exchange.corner.outline.now c.args.next.now (there_after p marks c.args.exchange.step kept.there enter ex) kept.outline_is wide).1 none c.loop-at.at within
    (right_then c.has_negative_after.result yes (c.has_negative_after.ensures p marks kept ex wide)))

pub loop-at-preserved : goal.loop-at-preserved
loop-at-preserved c = λ k less p marks kept ex wide negative.
    elim (cases_eq k c.loop-at.at) [
      | inl e ↦
          let no : c.has_negative_after.result ≡ false = search rules in
          wrong_then c.has_negative_after.result no (c.has_negative_after.ensures p marks kept ex wide) (subst (λ (j : ℕ). HasNegative p (exchanged (swap_of p c.args.exchange.step) marks) j) e negative)
      | inr ne ↦ c.loop-at.invariant k (omega (arith, less, ne)) p marks kept ex wide negative
    ]

pub returns : goal.returns
returns c = λ p marks kept ex wide.
    let enter : c.args.exchange.step.enter.at < line_count p = let h = kept.lines_are.count in omega (arith, c.requires.step, h) in
    always true refl
    ((wide_all p (exchanged (swap_of p c.args.exchange.step) marks) c.args.exchange.corner.outline.now c.args.next.now (there_after p marks c.args.exchange.step kept.there enter ex) kept.outline_is wide).0
    (λ k within negative. c.loop-at.invariant k (let h = kept.lines_are.count in omega (arith, within, h, c.loop-at-test.false)) p marks kept ex wide negative))
