use Rattle.std.proofs.Common.{rules, ◌≡◌, ◌≢◌, ◌∙◌, ◌<◌, false, arith, sym, subst, Some}
use Rattle.path_lines.specs.Tables.{IsLineAt, line_count, name_at}
use Rattle.path_lines.proofs.Iffs.{either, never}
use Rattle.path_lines.proofs.Exchanges.Exchanging.{other_iff, other_leaves, turn_iff}
use Rattle.path_lines.proofs.exchange.is_exchange.Goals as goal

pub returns-then-eq : goal.returns-then-eq
returns-then-eq c = λ p at there lines.
    let leave : c.args.step.leave.at < line_count p = omega (arith, c.requires.leave, lines.count) in
    let enter : c.args.step.enter.at < line_count p = omega (arith, c.requires.enter, lines.count) in
    let line : IsLineAt p at (name_at p c.args.step.leave.at) (Some c.in-Some.inside) =
    subst (IsLineAt p at (name_at p c.args.step.leave.at)) (sym c.index-lines-step.is ∙ c.in-Some.is) (lines.each c.args.step.leave.at c.index-lines-step.result leave) in
    let side : c.in-Some.inside.side ≡ c.args.step.leave.side = search rules in
    either c.may_enter.result c.args.step.enter.at c.args.step.leave.at c.may_enter.ensures.turn c.may_enter.ensures.other
    (turn_iff p at c.args.step c.in-Some.inside there side line)
    (other_iff p at c.args.step c.in-Some.inside there enter leave side line)

pub returns-else-eq : goal.returns-else-eq
returns-else-eq c = λ p at there lines.
    let leave : c.args.step.leave.at < line_count p = omega (arith, c.requires.leave, lines.count) in
    let line : IsLineAt p at (name_at p c.args.step.leave.at) (Some c.in-Some.inside) =
    subst (IsLineAt p at (name_at p c.args.step.leave.at)) (sym c.index-lines-step.is ∙ c.in-Some.is) (lines.each c.args.step.leave.at c.index-lines-step.result leave) in
    let side : c.in-Some.inside.side ≢ c.args.step.leave.side = search rules in
    let wrong : c.eq.result ≡ false = search rules in
    never c.eq.result wrong (other_leaves p at c.args.step c.in-Some.inside there side line)
