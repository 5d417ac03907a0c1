use Rattle.problem_core.specs.declared.parts.Level.{Level}
use Rattle.std.proofs.Common.{rules, ◌≡◌, ◌∙◌, ◌++◌, ◌∷◌, [], ◌+◌, ◌-◌, ◌<◌, ◌≤◌, ap, arith, length, slice_index_or, sym, subst}
use Rattle.corner_table.specs.Tables.{lists_of}
use Rattle.corner_table.specs.declared.table.TheConstants.{LEVELS}
use Rattle.corner_writings.proofs.LevelFacts.UsedLevels.{AreUsedBelow, all_used, push_priority, push_stay, skip_priority}
use Rattle.corner_writings.proofs.levels.used.Goals.{then-priority_at-gt0+in_ok-push, else-priority_at-gt0}
use Rattle.corner_writings.proofs.levels.used.Goals as goal

pub loop-level-preserved : goal.loop-level-preserved
loop-level-preserved c =
    let lt : c.loop-level.level < LEVELS = search rules in
    elim c.if-priority_at-gt0.branch [
      | then-priority_at-gt0+in_ok-push w ↦
          subst (AreUsedBelow (lists_of c.args.table.now) (c.loop-level.level + 1)) (sym (ap (λ out. out.items) w.out-is ∙ w.in_ok-push.ensures.items ∙ ap (λ (l : Level). c.loop-level.out.items ++ (l ∷ [])) w.priority_level.ensures))
          (push_priority (lists_of c.args.table.now) c.loop-level.level (1000 - c.loop-level.level) c.loop-level.out.items c.requires.kept lt (omega (arith, lt))
          (let some = w.if-priority_at-gt0.true in omega (arith, some, ap (λ p. p.rows) c.priority_at.ensures)) c.loop-level.invariant)
      | else-priority_at-gt0 w ↦
          subst (AreUsedBelow (lists_of c.args.table.now) (c.loop-level.level + 1)) (sym (ap (λ out. out.items) w.out-is))
          (skip_priority (lists_of c.args.table.now) c.loop-level.level c.loop-level.out.items c.requires.kept lt
          (let none = w.if-priority_at-gt0.false in omega (arith, none, ap (λ p. p.rows) c.priority_at.ensures)) c.loop-level.invariant)
    ]

pub loop-stay-preserved : goal.loop-stay-preserved
loop-stay-preserved c =
    let lt : c.loop-stay.stay-index < length c.args.table.now.stays.items = search rules in
    let e : slice_index_or c.args.table.now.stays.items c.loop-stay.stay-index c.stay-item.result ≡ c.stay-item.result = search rules in
    subst (AreUsedBelow (lists_of c.args.table.now) (1001 + (c.loop-stay.stay-index + 1))) (sym c.in_ok-push-2.ensures.items)
    (push_stay (lists_of c.args.table.now) c.loop-stay.stay-index c.stay-item.result.attr c.stay-item.result c.loop-stay.out.items c.requires.kept lt (ap (λ s. s.attr) e) c.loop-stay.invariant)

pub returns-clause-all : goal.returns-clause-all
returns-clause-all c =
    let le : length c.args.table.now.stays.items ≤ c.loop-stay.stay-index = search rules in
    all_used (lists_of c.args.table.now) c.loop-stay.stay-index c.loop-stay.out.items le c.loop-stay.invariant
