use Rattle.std.proofs.Common.{◌≡◌, ◌<◌, ℕ, true, false, refl, subst, arith, rules, inl, inr}
use Rattle.std.proofs.lemmas.Bool.{cases_eq}
use Rattle.path_lines.specs.Tables.{line_count}
use Rattle.path_lines.proofs.Iffs.{always, never, right_then, wrong_then}
use Rattle.path_levels.specs.Costs.{HasNegative}
use Rattle.path_levels.proofs.Judging.LineCosts.{all_decided}
use Rattle.path_levels.proofs.columns.has_no_negative_column.Goals as goal

pub returns-then-has_negative_column : goal.returns-then-has_negative_column
returns-then-has_negative_column c = λ p marks kept sums.
    let within : c.loop-at.at < line_count p = let h = kept.lines_are.count in omega (arith, c.loop-at-test.true, h) in
    let yes : c.has_negative_column.result ≡ true = search rules in
    never false refl
    (λ none. (all_decided p marks c.args.tableau.corner.outline.now c.args.tableau.corner.lines.now c.args.tableau.levels.now kept sums).1 none c.loop-at.at within (right_then c.has_negative_column.result yes (c.has_negative_column.ensures p marks kept sums)))

pub loop-at-preserved : goal.loop-at-preserved
loop-at-preserved c = λ k less p marks kept sums negative.
    elim (cases_eq k c.loop-at.at) [
      | inl e ↦
          let no : c.has_negative_column.result ≡ false = search rules in
          wrong_then c.has_negative_column.result no (c.has_negative_column.ensures p marks kept sums) (subst (λ (j : ℕ). HasNegative p marks j) e negative)
      | inr ne ↦ c.loop-at.invariant k (omega (arith, less, ne)) p marks kept sums negative
    ]

pub returns : goal.returns
returns c = λ p marks kept sums.
    always true refl
    ((all_decided p marks c.args.tableau.corner.outline.now c.args.tableau.corner.lines.now c.args.tableau.levels.now kept sums).0
    (λ k within negative. c.loop-at.invariant k (let h = kept.lines_are.count in omega (arith, within, h, c.loop-at-test.false)) p marks kept sums negative))
