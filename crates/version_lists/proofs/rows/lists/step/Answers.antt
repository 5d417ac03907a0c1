use Rattle.std.proofs.Common.{◌≡◌, ◌∙◌, ℕ, ◌<◌, length, refl, sym, subst, ap}
use Rattle.row_core.specs.Rows.{Term}
use Rattle.row_core.specs.Walks.{column_at}
use Rattle.version_lists.specs.Walks.{IsNext}
use Rattle.version_lists.proofs.Relisting.{has_list, read_at, old_step, new_step, both_step, same_with, same_without}
use Rattle.version_lists.proofs.rows.lists.step.Goals as goal

pub unlist_one-requires-clause-within : goal.unlist_one-requires-clause-within
unlist_one-requires-clause-within c =
    let next : IsNext c.args.change.now.old.now c.args.at.old c.args.change.now.new.now c.args.at.new = c.in-Old.ensures.old refl in
    let col : c.entry.inside.col.0 ≡ column_at c.args.change.now.old.now c.args.at.old =
    ap (λ (t : Term). t.col) c.entry.view_is ∙ read_at c.args.change.now.old.now c.args.at.old c.index-change-at.result next.within in
    subst (λ (n : ℕ). n < length c.args.lists.now.items) (sym col)
    (has_list c.args.change.now c.args.at.old c.args.at.new c.args.lists.now.items next.within c.requires.relisted)

pub returns-in_ok-unlist_one-in-Old-clause-relisted : goal.returns-in_ok-unlist_one-in-Old-clause-relisted
returns-in_ok-unlist_one-in-Old-clause-relisted c =
    let next : IsNext c.args.change.now.old.now c.args.at.old c.args.change.now.new.now c.args.at.new = c.in-Old.ensures.old refl in
    let col : c.entry.inside.col.0 ≡ column_at c.args.change.now.old.now c.args.at.old =
    ap (λ (t : Term). t.col) c.entry.view_is ∙ read_at c.args.change.now.old.now c.args.at.old c.index-change-at.result next.within in
    old_step c.args.change.now c.args.at.old c.args.at.new c.args.lists.now.items c.unlist_one.new.lists.items
    c.entry.inside.col.0 c.requires.old next col c.requires.relisted c.in_ok-unlist_one-in-Old.ensures.ok

pub returns-in_ok-unlist_one-in-Old-clause-same : goal.returns-in_ok-unlist_one-in-Old-clause-same
returns-in_ok-unlist_one-in-Old-clause-same c =
    same_without c.args.change.now.w c.entry.inside.col.0 c.args.lists.now.items c.unlist_one.new.lists.items c.in_ok-unlist_one-in-Old.ensures.ok

pub returns-in_ok-list_one-in-New-clause-relisted : goal.returns-in_ok-list_one-in-New-clause-relisted
returns-in_ok-list_one-in-New-clause-relisted c =
    let next : IsNext c.args.change.now.new.now c.args.at.new c.args.change.now.old.now c.args.at.old = c.in-New.ensures.new refl in
    let col : c.entry-in-New.inside.col.0 ≡ column_at c.args.change.now.new.now c.args.at.new =
    ap (λ (t : Term). t.col) c.entry-in-New.view_is ∙ read_at c.args.change.now.new.now c.args.at.new c.index-change-at-in-New.result next.within in
    new_step c.args.change.now c.args.at.old c.args.at.new c.args.lists.now.items c.list_one.new.lists.items
    c.entry-in-New.inside.col.0 c.requires.old next col c.requires.relisted c.in_ok-list_one-in-New.ensures.ok

pub returns-in_ok-list_one-in-New-clause-same : goal.returns-in_ok-list_one-in-New-clause-same
returns-in_ok-list_one-in-New-clause-same c =
    same_with c.args.change.now.w c.entry-in-New.inside.col.0 c.args.lists.now.items c.list_one.new.lists.items c.in_ok-list_one-in-New.ensures.ok

pub returns-in-Both-clause-relisted : goal.returns-in-Both-clause-relisted
returns-in-Both-clause-relisted c =
    both_step c.args.change.now c.args.at.old c.args.at.new c.args.lists.now.items c.requires.old
    (c.in-Both.ensures.both refl) c.requires.relisted
