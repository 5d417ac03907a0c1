use Rattle.std.proofs.Common.{◌<◌, sym, subst, arith, Some, None}
use Rattle.path_lines.specs.Tables.{IsLineAt, line_count, name_at}
use Rattle.path_levels.proofs.Judging.AfterCosts.{entered_inside, kept_inside, kept_outside, left_outside}
use Rattle.path_levels.proofs.columns_after.is_outside_after.Goals as goal

pub returns-then-at-step-clause-inside : goal.returns-then-at-step-clause-inside
returns-then-at-step-clause-inside c = λ is p marks there lines ex. entered_inside p marks c.args.step c.args.at ex c.if-at-step.true

pub returns-then-at-step-2-clause-outside : goal.returns-then-at-step-2-clause-outside
returns-then-at-step-2-clause-outside c = λ is p marks there lines ex.
    left_outside p marks c.args.step c.args.at there ex (omega (arith, c.requires.at, lines.count)) (omega (arith, c.requires.step, lines.count)) c.if-at-step.false c.if-at-step-2.true

pub returns-in-Some-clause-inside : goal.returns-in-Some-clause-inside
returns-in-Some-clause-inside c = λ is p marks there lines ex.
    let within : c.args.at < line_count p = omega (arith, c.requires.at, lines.count) in
    let line : IsLineAt p marks (name_at p c.args.at) c.index-lines-at.result = subst (IsLineAt p marks (name_at p c.args.at)) (sym c.index-lines-at.is) (lines.each c.args.at c.index-lines-at.result within) in
    let inside : IsLineAt p marks (name_at p c.args.at) (Some c.in-Some.field-0) = subst (IsLineAt p marks (name_at p c.args.at)) c.in-Some.is line in
    kept_inside p marks c.args.step c.args.at c.in-Some.field-0 there within (omega (arith, c.requires.step, lines.count)) c.if-at-step-2.false inside

pub returns-in-None-clause-outside : goal.returns-in-None-clause-outside
returns-in-None-clause-outside c = λ is p marks there lines ex.
    let within : c.args.at < line_count p = omega (arith, c.requires.at, lines.count) in
    let line : IsLineAt p marks (name_at p c.args.at) c.index-lines-at.result = subst (IsLineAt p marks (name_at p c.args.at)) (sym c.index-lines-at.is) (lines.each c.args.at c.index-lines-at.result within) in
    let outside : IsLineAt p marks (name_at p c.args.at) None = subst (IsLineAt p marks (name_at p c.args.at)) c.in-None.is line in
    kept_outside p marks c.args.step c.args.at there within (omega (arith, c.requires.step, lines.count)) c.if-at-step.false outside
