use Rattle.std.proofs.Common.{◌<◌, take_all, refl, arith, All, subst, List}
use Rattle.std.proofs.lemmas.List.Elements.{All-more}
use Rattle.problem_core.specs.Layout.{Line, lines, line_of_row}
use Rattle.cert_checker.specs.LineSums.{line_count}
use Rattle.cert_checker.specs.Certifying.{IsNotNegative}
use Rattle.cert_checker.proofs.Indexes.{length-lines, no_row}
use Rattle.cert_checker.proofs.Certificates.Wholes.{no_sides}
use Rattle.cert_checker.proofs.Certificates.Certified.{not-Negatives, negatives-not}
use Rattle.cert_checker.proofs.judging.are_not_negative.Goals as goal
use Rattle.frac_core.proofs.Bools.{false-not-true as false-true}

pub returns-then-not-is_not_negative : goal.returns-then-not-is_not_negative
unfolding no_sides
returns-then-not-is_not_negative c = λ m seen known fronts.
    let below : c.loop-at.at < line_count c.args.p.now = omega (arith, c.loop-at-test.true, c.requires) in (
      λ h. absurd (false-true h),
      λ h. (c.if-not-is_not_negative.ensures m seen known (λ d. fronts.each c.loop-at.at d no_sides below) (line_of_row no_row)).1 (negatives-not c.args.p.now m h c.loop-at.at (line_of_row no_row) (omega (arith, below, length-lines c.args.p.now))),
    )

pub loop-at-preserved : goal.loop-at-preserved
unfolding no_sides
loop-at-preserved c = λ m seen known fronts.
    let below : c.loop-at.at < line_count c.args.p.now = omega (arith, c.loop-at-test.true, c.requires) in
    All-more (IsNotNegative m) (lines c.args.p.now) c.loop-at.at (line_of_row no_row) (omega (arith, below, length-lines c.args.p.now)) (c.loop-at.invariant m seen known fronts)
    ((c.is_not_negative.ensures m seen known (λ d. fronts.each c.loop-at.at d no_sides below) (line_of_row no_row)).0 c.if-not-is_not_negative.false)

pub returns : goal.returns
returns c = λ m seen known fronts. (
  λ h. not-Negatives c.args.p.now m (subst (λ (ls : List Line). All (IsNotNegative m) ls) (take_all c.loop-at.at (lines c.args.p.now) (omega (arith, c.loop-at-test.false, c.requires, length-lines c.args.p.now))) (c.loop-at.invariant m seen known fronts)),
  λ h. refl,
)
