use Rattle.std.proofs.Common.{◌<◌, ℕ, arith, subst, inl, inr}
use Rattle.std.proofs.lemmas.Bool.{cases_eq}
use Rattle.path_lines.specs.declared.spots.Spot.{Spot}
use Rattle.path_lines.specs.Route.{MayGiveWay}
use Rattle.path_lines.specs.Tables.{line_count, mark_of, name_at}
use Rattle.path_claims.proofs.Walking.GivingWay.{first_gives, no_line_gives}
use Rattle.path_claims.proofs.route.bringing_in.Goals as goal

pub returns-in-Some-clause-some : goal.returns-in-Some-clause-some
returns-in-Some-clause-some c = λ p wanted at way.
    let within : c.in-Some.step.leave.at < line_count p = omega (arith, c.in-Some.ensures.step.1, c.loop-at-test.true, way.lines_are.count) in
    first_gives p wanted at c.in-Some.step way.there within (c.in-Some.ensures.some p wanted at way)
    (λ k side less may.
    c.loop-at.invariant k (subst (λ (n : ℕ). k < n) c.in-Some.ensures.step.1 less) p wanted at side way
    (subst (λ (e : Spot). MayGiveWay p wanted at (record { enter = mark_of p e; leave = record { row = name_at p k; side = side } })) c.in-Some.ensures.step.0 may))

pub loop-at-preserved : goal.loop-at-preserved
loop-at-preserved c = λ k less p wanted at side way may.
    elim (cases_eq k c.loop-at.at) [
      | inl e ↦ c.in_default.ensures.none p wanted at side way (subst (λ (n : ℕ). MayGiveWay p wanted at (record { enter = mark_of p c.args.enter; leave = record { row = name_at p n; side = side } })) e may)
      | inr n ↦ c.loop-at.invariant k (omega (arith, less, n)) p wanted at side way may
    ]

pub returns-clause-none : goal.returns-clause-none
returns-clause-none c = λ p wanted at m way gives.
    no_line_gives p wanted at c.args.enter way.there (λ k side within may. c.loop-at.invariant k (omega (arith, within, way.lines_are.count, c.loop-at-test.false)) p wanted at side way may) m gives
