use Rattle.std.proofs.Common.{◌≡◌, ◌∙◌, ℕ, ◌+◌, ◌<◌, List, length, get_or, sym, ap, subst, arith}
use Rattle.problem_core.specs.declared.parts.Stay.{Stay}
use Rattle.path_lines.specs.Tables.{line_count}
use Rattle.path_lines.proofs.Walking.FirstLines.{count_lines}
use Rattle.path_levels.specs.declared.outline.LineFacts.{LineFacts}
use Rattle.path_levels.specs.OutlineParts.{AreFactsTo}
use Rattle.path_levels.proofs.OutlineParts.{stay_more}
use Rattle.path_levels.proofs.outline.lines_of.Goals as goal

pub loop-stay-preserved : goal.loop-stay-preserved
loop-stay-preserved c = record {
  facts = subst (λ (fs : List LineFacts). AreFactsTo c.args.p.now c.args.levels.now (length c.args.p.now.rows + (c.loop-stay.stay-index + 1)) fs) (sym c.in_ok-push.ensures.items)
      (stay_more c.args.p.now c.args.levels.now c.args.ranks c.loop-stay.stay-index c.loop-stay.level c.loop-stay.lines.items c.stay-item.result
      (subst (λ (ss : List Stay). c.loop-stay.stay-index < length ss) c.stays-stay-items.ensures c.loop-stay-test.true)
      (c.stay-item.is ∙ ap (λ (ss : List Stay). get_or ss c.loop-stay.stay-index c.stay-item.result) c.stays-stay-items.ensures)
      c.loop-stay.invariant.level c.requires c.loop-stay.invariant.facts);
  level = omega (arith, c.loop-stay.invariant.level);
}

pub returns : goal.returns
returns c =
    let stays : length c.stays-stay-items.result.now ≡ length c.args.p.now.stays = ap (λ (ss : List Stay). length ss) c.stays-stay-items.ensures in
    let all : length c.args.p.now.rows + c.loop-stay.stay-index ≡ line_count c.args.p.now = omega (arith, stays, c.loop-stay-test.false, c.loop-stay.auto.stay-index-end, count_lines c.args.p.now) in
    subst (λ (n : ℕ). AreFactsTo c.args.p.now c.args.levels.now n c.loop-stay.lines.items) all c.loop-stay.invariant.facts
