use Rattle.std.proofs.Common.{◌≡◌, ℤ, List, pos, rules, sym, subst, Some}
use Rattle.path_lines.specs.Numbers.{number_at}
use Rattle.path_lines.specs.Exchanges.Pivots.{next_marks}
use Rattle.path_lines.specs.Tables.{IsLineAt, name_at}
use Rattle.path_lines.proofs.Exchanges.NextLines.{still_inside, still_outside, untouched_sum, zero_then}
use Rattle.path_lines.proofs.exchange.is_touched.Goals as goal

pub returns-in-Some : goal.returns-in-Some
returns-in-Some c = λ down enters p at is entered within line.
    let list : c.deref.result.now ≡ c.in-Some.inside.sum.by.items = search rules in
    let none : number_at c.in-Some.inside.sum.by.items c.args.pivot.now.step.enter.at ≡ pos 0 =
    subst (λ (zs : List ℤ). number_at zs c.args.pivot.now.step.enter.at ≡ pos 0) list (zero_then c.stands.result (number_at c.deref.result.now c.args.pivot.now.step.enter.at) down c.stands.ensures) in
    let kept : IsLineAt p at (name_at p c.args.at) (Some c.in-Some.inside) = subst (IsLineAt p at (name_at p c.args.at)) c.in-Some.is line in
    subst (IsLineAt p (next_marks p c.args.pivot.now at) (name_at p c.args.at)) (sym c.in-Some.is) (
      still_inside p at c.args.pivot.now c.args.at c.in-Some.inside.side is within (λ same. c.if-at-pivot-2.false same) kept.0,
      untouched_sum p at c.args.pivot.now (name_at p c.args.at) c.in-Some.inside.sum is none kept.1,
    )

pub returns-in-None : goal.returns-in-None
returns-in-None c = λ down enters p at is entered within line.
    subst (IsLineAt p (next_marks p c.args.pivot.now at) (name_at p c.args.at)) (sym c.in-None.is)
    (still_outside p at c.args.pivot.now c.args.at is within (λ same. c.if-at-pivot.false same) (subst (IsLineAt p at (name_at p c.args.at)) c.in-None.is line))
