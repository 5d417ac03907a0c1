use Rattle.std.proofs.Common.{rules, ◌∙◌, ◌<◌, ◌≤◌, ap, subst}
use Rattle.corner_table.specs.Tables.{level_slot, lists_of, slot_at}
use Rattle.corner_writings.proofs.LevelFacts.UsedLevels.{stronger_slot, weaker_slot}
use Rattle.corner_writings.proofs.levels.is_stronger.Goals as goal

-- the ranks that are compared are those of the levels' slots
pub returns-clause-yes : goal.returns-clause-yes
returns-clause-yes c = λ yes j k x y.
    let less : c.rank_at.result < c.rank_at-2.result = search rules in
    let one = c.rank_at.ensures ∙ ap (λ n. (slot_at (lists_of c.args.table.now) n).rank) c.level_slot.ensures.value in
    let two = c.rank_at-2.ensures ∙ ap (λ n. (slot_at (lists_of c.args.table.now) n).rank) c.level_slot-2.ensures.value in
    stronger_slot (lists_of c.args.table.now) c.args.a c.args.b j k c.requires.kept x y
    (subst (λ n. n < (slot_at (lists_of c.args.table.now) (level_slot (lists_of c.args.table.now) c.args.b)).rank) one (subst (λ n. c.rank_at.result < n) two less))

pub returns-clause-no : goal.returns-clause-no
returns-clause-no c = λ no j k x y.
    let le : c.rank_at-2.result ≤ c.rank_at.result = search rules in
    let one = c.rank_at.ensures ∙ ap (λ n. (slot_at (lists_of c.args.table.now) n).rank) c.level_slot.ensures.value in
    let two = c.rank_at-2.ensures ∙ ap (λ n. (slot_at (lists_of c.args.table.now) n).rank) c.level_slot-2.ensures.value in
    weaker_slot (lists_of c.args.table.now) c.args.a c.args.b j k c.requires.kept x y
    (subst (λ n. n ≤ (slot_at (lists_of c.args.table.now) (level_slot (lists_of c.args.table.now) c.args.a)).rank) two (subst (λ n. c.rank_at-2.result ≤ n) one le))
