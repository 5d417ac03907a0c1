use Rattle.std.proofs.Common.{arith}
use Rattle.cert_checker.proofs.Certificates.Levels.{past-rows, stay-place, stay-has, no-stay}
use Rattle.cert_checker.proofs.leveled.level_place.Goals as goal

pub overflow_sub-result-in-Stay : goal.overflow_sub-result-in-Stay
overflow_sub-result-in-Stay c =
    rw c.rows.ensures (omega (arith, (past-rows c.args.p.now c.in_ok-at-in-Stay.at c.in-Stay.attr c.in_ok-at-in-Stay.ensures.some.0 c.in_ok-at-in-Stay.ensures.some.1).0))

pub returns-in_ok-at-in-Stay-clause-some : goal.returns-in_ok-at-in-Stay-clause-some
returns-in_ok-at-in-Stay-clause-some c = rw (c.rows.ensures, c.in-Stay.is) (stay-place c.args.p.now c.in_ok-at-in-Stay.at c.in-Stay.attr c.in_ok-at-in-Stay.ensures.some.0 c.in_ok-at-in-Stay.ensures.some.1)

pub returns-in_ok-at-in-Stay-clause-held : goal.returns-in_ok-at-in-Stay-clause-held
returns-in_ok-at-in-Stay-clause-held c = rw c.in-Stay.is (stay-has c.args.p.now c.in_ok-at-in-Stay.at c.in-Stay.attr c.in_ok-at-in-Stay.ensures.some.0 c.in_ok-at-in-Stay.ensures.some.1)

pub returns-in_err-at-in-Stay-clause-none : goal.returns-in_err-at-in-Stay-clause-none
returns-in_err-at-in-Stay-clause-none c = rw (c.from_residual.ensures, c.in-Stay.is) (no-stay c.args.p.now c.in-Stay.attr c.in_err-at-in-Stay.ensures.none)
