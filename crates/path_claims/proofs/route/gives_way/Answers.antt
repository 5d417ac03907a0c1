use Rattle.std.proofs.Common.{◌≡◌, ◌∙◌, ◌<◌, Some, None, rules, arith, sym, ap, subst, true, false}
use Rattle.std.specs.Prelude.{slice_index_or}
use Rattle.problem_core.specs.declared.parts.Side.{Side}
use Rattle.problem_core.specs.Corners.{IsExchange}
use Rattle.path_lines.specs.Tables.{IsLineAt, line_count, name_at, swap_of}
use Rattle.path_claims.proofs.Walking.GivingWay.{is_unwanted, outside_stays, side_gives, wanted_stays, way_at}
use Rattle.path_lines.proofs.Iffs.{right_then, wrong_then}
use Rattle.path_claims.proofs.route.gives_way.Goals as goal

pub returns-then-is_one-clause-none : goal.returns-then-is_one-clause-none
returns-then-is_one-clause-none c = λ p wanted at side way may.
    let within : c.args.at < line_count p = omega (arith, c.requires.at, way.lines_are.count) in
    let line : IsLineAt p at (name_at p c.args.at) (Some c.in_ok-inside.inside.now) =
    subst (IsLineAt p at (name_at p c.args.at)) (sym c.index-lines-at.is ∙ sym c.in_ok-inside.ensures.value) (way.lines_are.each c.args.at c.index-lines-at.result within) in
    let up : c.is_one.result ≡ true = search rules in
    let is : slice_index_or c.args.wanted.now c.args.at None ≡ Some c.in_ok-inside.inside.now.side = right_then c.is_one.result up c.is_one.ensures in
    wanted_stays p wanted at c.args.wanted.now (way_at p c.args.enter c.args.at side) way.sides_are within (is ∙ ap (λ (s : Side). Some s) (side_gives p wanted at c.args.enter c.args.at c.in_ok-inside.inside.now side way.there line may)) may

pub returns-then-not-is_exchange-clause-none : goal.returns-then-not-is_exchange-clause-none
returns-then-not-is_exchange-clause-none c = λ p wanted at side way may.
    let within : c.args.at < line_count p = omega (arith, c.requires.at, way.lines_are.count) in
    let line : IsLineAt p at (name_at p c.args.at) (Some c.in_ok-inside.inside.now) =
    subst (IsLineAt p at (name_at p c.args.at)) (sym c.index-lines-at.is ∙ sym c.in_ok-inside.ensures.value) (way.lines_are.each c.args.at c.index-lines-at.result within) in
    let down : c.is_exchange.result ≡ false = search rules in
    wrong_then c.is_exchange.result down (c.is_exchange.ensures p at way.there way.lines_are)
    (subst (λ (s : Side). IsExchange p at (swap_of p (way_at p c.args.enter c.args.at s))) (sym (side_gives p wanted at c.args.enter c.args.at c.in_ok-inside.inside.now side way.there line may)) may.exchange)

pub returns-clause-some : goal.returns-clause-some
returns-clause-some c = λ p wanted at way.
    let within : c.args.at < line_count p = omega (arith, c.requires.at, way.lines_are.count) in
    let up : c.is_exchange.result ≡ true = search rules in
    let down : c.is_one.result ≡ false = search rules in
    record {
      unwanted = is_unwanted p wanted c.args.wanted.now (way_at p c.args.enter c.args.at c.in_ok-inside.inside.now.side) way.sides_are within (λ e. wrong_then c.is_one.result down c.is_one.ensures e);
      exchange = right_then c.is_exchange.result up (c.is_exchange.ensures p at way.there way.lines_are);
    }

pub returns-in_err-inside-clause-none : goal.returns-in_err-inside-clause-none
returns-in_err-inside-clause-none c = rw c.from_residual.ensures (λ p wanted at side way may.
    let within : c.args.at < line_count p = omega (arith, c.requires.at, way.lines_are.count) in
    let outside : IsLineAt p at (name_at p c.args.at) None =
    subst (IsLineAt p at (name_at p c.args.at)) (sym c.index-lines-at.is ∙ sym c.in_err-inside.ensures.value) (way.lines_are.each c.args.at c.index-lines-at.result within) in
    outside_stays p wanted at c.args.enter c.args.at side outside may)
