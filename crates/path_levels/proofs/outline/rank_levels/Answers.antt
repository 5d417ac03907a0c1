use Rattle.std.proofs.Common.{◌≢◌, ◌∙◌, ◌+◌, ◌-◌, List, sym, ap, subst, arith, All, refl}
use Rattle.problem_core.specs.Layout.{Row}
use Rattle.path_levels.specs.declared.outline.LevelFacts.{LevelFacts}
use Rattle.path_levels.specs.OutlineParts.{AreRankLevels}
use Rattle.path_levels.proofs.OutlineParts.{rank_pushed, rank_skipped}
use Rattle.path_levels.proofs.outline.rank_levels.Goals.{then-has_rank+in_ok-push, else-has_rank}
use Rattle.path_levels.proofs.outline.rank_levels.Goals as goal

pub loop-number-preserved : goal.loop-number-preserved
loop-number-preserved c =
    elim c.if-has_rank.branch [
      | then-has_rank+in_ok-push w ↦
          subst (λ (ls : List LevelFacts). AreRankLevels c.args.p.now.rows (c.loop-number.number + 1) ls) (sym (ap (λ v. v.items) w.levels-is ∙ w.in_ok-push.ensures.items))
          (rank_pushed c.args.p.now.rows c.loop-number.number (1000 - c.loop-number.number) c.loop-number.levels.items (omega (arith, c.loop-number-test.true)) refl c.loop-number.invariant)
      | else-has_rank w ↦
          subst (λ (ls : List LevelFacts). AreRankLevels c.args.p.now.rows (c.loop-number.number + 1) ls) (sym (ap (λ v. v.items) w.levels-is))
          (rank_skipped c.args.p.now.rows c.loop-number.number (1000 - c.loop-number.number) c.loop-number.levels.items (omega (arith, c.loop-number-test.true)) refl c.show_whole.ensures.rows
          (subst (λ (rs : List Row). All (λ (r : Row). r.rank ≢ 1000 - c.loop-number.number) rs) c.rows.ensures (c.has_rank.ensures.none w.if-has_rank.false)) c.loop-number.invariant)
    ]
