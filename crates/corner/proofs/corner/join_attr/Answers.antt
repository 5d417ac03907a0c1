use Rattle.std.proofs.Common.{◌∙◌, ◌<◌, ap, length, subst, sym}
use Rattle.problem_core.specs.Layout.{HasStay, Problem}
use Rattle.corner_lines.specs.Joins.{with_attr}
use Rattle.corner_table.specs.declared.table.Table.{Table}
use Rattle.corner_table.specs.Tables.{lists_of}
use Rattle.corner_joins.proofs.Attributes.AttrLevels.{attr_marks, attr_problem}
use Rattle.corner_table.proofs.Basics.SmallFacts.{on_ok}
use Rattle.corner_table.proofs.Corners.HistoryFacts.{alike_same, past_same}
use Rattle.corner_shifts.specs.Astray.{NoneGoesAstray}
use Rattle.corner.proofs.KnownJoins.{attr_stays}
use Rattle.corner.proofs.Attributes.CornerAttrs.{attr_consistent, attr_names}
use Rattle.corner.proofs.corner.join_attr.Goals as goal

pub push_attr-requires-clause-fresh : goal.push_attr-requires-clause-fresh
push_attr-requires-clause-fresh c = subst (λ (p : Problem). HasStay p.stays c.args.attr → ⊥) (sym c.in_ok-make_room.ensures.problem) c.requires.fresh

pub push_attr-requires-clause-room : goal.push_attr-requires-clause-room
push_attr-requires-clause-room c = subst (λ (p : Problem). length p.stays < 4096) (sym c.in_ok-make_room.ensures.problem) c.requires.room

pub returns-clause-consistent : goal.returns-clause-consistent
returns-clause-consistent c =
    on_ok c.push_attr.result _ _
    (λ with. attr_consistent c.make_room.new.table c.push_attr.new.table c.args.attr c.args.target c.make_room.new.listed c.in_ok-make_room.ensures.consistent c.push_attr.ensures.past c.requires.number c.push_attr.ensures.value
    (subst (λ (p : Problem). HasStay p.stays c.args.attr → ⊥) (sym c.in_ok-make_room.ensures.problem) c.requires.fresh)
    (subst (λ (p : Problem). length p.stays < 4096) (sym c.in_ok-make_room.ensures.problem) c.requires.room) with)
    c.push_attr.ensures.lists

pub returns-clause-problem : goal.returns-clause-problem
returns-clause-problem c =
    on_ok c.push_attr.result _ _
    (λ with. attr_problem (lists_of c.make_room.new.table) (lists_of c.push_attr.new.table) c.args.attr c.args.target with ∙ ap (with_attr c.args.attr c.args.target) c.in_ok-make_room.ensures.problem)
    c.push_attr.ensures.lists

pub returns-clause-marks : goal.returns-clause-marks
returns-clause-marks c =
    on_ok c.push_attr.result _ _
    (λ with. attr_marks (lists_of c.make_room.new.table) (lists_of c.push_attr.new.table) c.args.attr c.args.target c.in_ok-make_room.ensures.consistent.kept c.requires.number c.push_attr.ensures.value
    (subst (λ (p : Problem). HasStay p.stays c.args.attr → ⊥) (sym c.in_ok-make_room.ensures.problem) c.requires.fresh)
    (subst (λ (p : Problem). length p.stays < 4096) (sym c.in_ok-make_room.ensures.problem) c.requires.room) with
    ∙ c.in_ok-make_room.ensures.marks)
    c.push_attr.ensures.lists

pub returns-clause-names : goal.returns-clause-names
returns-clause-names c =
    on_ok c.push_attr.result _ _
    (λ with. attr_names (lists_of c.make_room.new.table) (lists_of c.push_attr.new.table) c.args.attr c.args.target c.make_room.new.listed c.in_ok-make_room.ensures.consistent.kept c.in_ok-make_room.ensures.consistent.named with
    ∙ c.in_ok-make_room.ensures.names)
    c.push_attr.ensures.lists

pub returns-clause-before : goal.returns-clause-before
returns-clause-before c = past_same c.make_room.new.table c.push_attr.new.table c.push_attr.ensures.past ∙ c.make_room.ensures.before

pub returns-clause-alike : goal.returns-clause-alike
returns-clause-alike c = alike_same c.make_room.new.table c.push_attr.new.table c.push_attr.ensures.past c.make_room.ensures.alike

pub returns-clause-stays : goal.returns-clause-stays
returns-clause-stays c =
    on_ok c.push_attr.result _ _
    (λ with left. subst (λ (t : Table). NoneGoesAstray (lists_of t) (lists_of c.push_attr.new.table)) (c.make_room.ensures.unmoved left)
    (attr_stays (lists_of c.make_room.new.table) (lists_of c.push_attr.new.table) c.args.attr c.args.target c.in_ok-make_room.ensures.consistent.kept c.requires.number c.push_attr.ensures.value
    (subst (λ (p : Problem). HasStay p.stays c.args.attr → ⊥) (sym c.in_ok-make_room.ensures.problem) c.requires.fresh)
    (subst (λ (p : Problem). length p.stays < 4096) (sym c.in_ok-make_room.ensures.problem) c.requires.room) with))
    c.push_attr.ensures.lists
