use Rattle.std.proofs.Common.{◌∙◌, ◌<◌, get_or, take_all, refl, sym, arith, All, subst, List}
use Rattle.std.proofs.lemmas.List.Elements.{All-more}
use Rattle.problem_core.specs.Layout.{Line, gap, lines, line_of_row}
use Rattle.problem_core.specs.Certificates.{under, over}
use Rattle.cert_checker.specs.LineSums.{line_count}
use Rattle.cert_checker.specs.Certifying.{IsFree}
use Rattle.cert_checker.proofs.Indexes.{length-lines, no_row}
use Rattle.cert_checker.proofs.Certificates.Wholes.{free-is, no_sides}
use Rattle.cert_checker.proofs.Certificates.Certified.{frees-are, are-frees}
use Rattle.cert_checker.proofs.judging.are_free.Goals as goal
use Rattle.frac_core.proofs.Bools.{not-both as no_both, false-not-true as false-true}

pub returns-then-not-is_free : goal.returns-then-not-is_free
unfolding no_sides
returns-then-not-is_free c = λ m seen x known fronts gives.
    let below : c.loop-at.at < line_count c.args.p.now = omega (arith, c.loop-at-test.true, c.requires.count) in
    let l : Line = get_or (lines c.args.p.now) c.loop-at.at (line_of_row no_row) in
    let has = c.whole.ensures m seen known (λ d. fronts.each c.loop-at.at d no_sides below) (line_of_row no_row) in
    let free = free-is (under m (get_or (lines c.args.p.now) c.loop-at.at (line_of_row no_row))) (over m (get_or (lines c.args.p.now) c.loop-at.at (line_of_row no_row))) c.whole.result (gap x (get_or (lines c.args.p.now) c.loop-at.at (line_of_row no_row))) c.line_sign.result has.0 has.1 (c.line_sign.ensures x gives (line_of_row no_row)) in (
      λ h. absurd (false-true h),
      λ h. absurd (no_both c.is_free.result (c.is_free.ensures ∙ free.1 (are-frees c.args.p.now m x h c.loop-at.at (line_of_row no_row) (omega (arith, below, length-lines c.args.p.now)))) c.if-not-is_free.true),
    )

pub loop-at-preserved : goal.loop-at-preserved
unfolding no_sides
loop-at-preserved c = λ m seen x known fronts gives.
    let below : c.loop-at.at < line_count c.args.p.now = omega (arith, c.loop-at-test.true, c.requires.count) in
    let has = c.whole.ensures m seen known (λ d. fronts.each c.loop-at.at d no_sides below) (line_of_row no_row) in
    let free = free-is (under m (get_or (lines c.args.p.now) c.loop-at.at (line_of_row no_row))) (over m (get_or (lines c.args.p.now) c.loop-at.at (line_of_row no_row))) c.whole.result (gap x (get_or (lines c.args.p.now) c.loop-at.at (line_of_row no_row))) c.line_sign.result has.0 has.1 (c.line_sign.ensures x gives (line_of_row no_row)) in
    All-more (λ (l : Line). IsFree (under m l) (over m l) (gap x l)) (lines c.args.p.now) c.loop-at.at (line_of_row no_row) (omega (arith, below, length-lines c.args.p.now)) (c.loop-at.invariant m seen x known fronts gives) (free.0 (sym c.is_free.ensures ∙ c.if-not-is_free.false))

pub returns : goal.returns
returns c = λ m seen x known fronts gives. (
  λ h. frees-are c.args.p.now m x (subst (λ (ls : List Line). All (λ l. IsFree (under m l) (over m l) (gap x l)) ls) (take_all c.loop-at.at (lines c.args.p.now) (omega (arith, c.loop-at-test.false, c.requires.count, length-lines c.args.p.now))) (c.loop-at.invariant m seen x known fronts gives)),
  λ h. refl,
)
