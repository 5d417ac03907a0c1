use Rattle.std.proofs.Common.{◌≡◌, ◌<◌, ◌≤◌, ℕ, true, false, sym, subst, refl, rules, arith, inl, inr}
use Rattle.std.proofs.lemmas.Bool.{cases_eq}
use Rattle.problem_core.specs.declared.parts.Side.TheVariants.{Over}
use Rattle.problem_core.specs.Corners.{IsIn, place_of}
use Rattle.path_lines.specs.Exchanges.Pivots.{next_marks}
use Rattle.path_lines.specs.Tables.{IsLineAt, line_count, name_at}
use Rattle.path_lines.proofs.Iffs.{always, never, right_then, wrong_then}
use Rattle.path_fits.proofs.last.terms.are_over_from.Goals as goal

pub returns-then-not-is_inside_after : goal.returns-then-not-is_inside_after
returns-then-not-is_inside_after c = λ p marks turn lines.
    let down : c.is_inside_after.result ≡ false = search rules in
    let late : c.args.from ≤ c.loop-at.at = search rules in
    let within : c.loop-at.at < line_count p = omega (arith, c.loop-at-test.true, c.requires, lines.count) in
    let line : IsLineAt p marks (name_at p c.loop-at.at) c.index-lines-at.result = subst (IsLineAt p marks (name_at p c.loop-at.at)) (sym c.index-lines-at.is) (lines.each c.loop-at.at c.index-lines-at.result within) in
    never false refl (λ all. wrong_then c.is_inside_after.result down (c.is_inside_after.ensures p marks turn.there turn.exchange turn.sized.enter_at turn.sized.leave_at within line) (all c.loop-at.at late c.loop-at-test.true))

pub loop-at-preserved : goal.loop-at-preserved
loop-at-preserved c = λ k late less p marks turn lines.
    let up : c.is_inside_after.result ≡ true = search rules in
    let within : c.loop-at.at < line_count p = omega (arith, c.loop-at-test.true, c.requires, lines.count) in
    let line : IsLineAt p marks (name_at p c.loop-at.at) c.index-lines-at.result = subst (IsLineAt p marks (name_at p c.loop-at.at)) (sym c.index-lines-at.is) (lines.each c.loop-at.at c.index-lines-at.result within) in
    elim (cases_eq k c.loop-at.at) [
      | inl e ↦ subst (λ (j : ℕ). IsIn (place_of (name_at p j) Over) (next_marks p c.args.pivot.now marks)) (sym e)
          (right_then c.is_inside_after.result up (c.is_inside_after.ensures p marks turn.there turn.exchange turn.sized.enter_at turn.sized.leave_at within line))
      | inr ne ↦ c.loop-at.invariant k late (omega (arith, less, ne)) p marks turn lines
    ]

pub returns : goal.returns
returns c = λ p marks turn lines. always true refl (λ k late less. c.loop-at.invariant k late (omega (arith, less, c.loop-at-test.false)) p marks turn lines)
