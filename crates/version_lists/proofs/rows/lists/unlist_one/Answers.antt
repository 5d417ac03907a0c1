use Rattle.std.proofs.Common.{◌≡◌, subst, sym, List, ℕ}
use Rattle.version_lists.specs.Indexes.{IsRisingList, list_at}
use Rattle.version_lists.specs.Lists.{IsWithout}
use Rattle.version_lists.proofs.Columns.{own_list, changed_at}
use Rattle.version_lists.proofs.rows.lists.unlist_one.Goals as goal

pub take_out-requires : goal.take_out-requires
take_out-requires c =
    let same : c.in_ok-list.list.now.slots.items ≡ list_at c.args.lists.now.items c.args.col.0 =
    own_list c.args.lists.now.items c.args.col.0 c.in_ok-list.list.now c.in_ok-list.ensures.value in
    subst IsRisingList (sym same) c.requires.rising

pub returns-clause-ok : goal.returns-clause-ok
returns-clause-ok c =
    let same : c.in_ok-list.list.now.slots.items ≡ list_at c.args.lists.now.items c.args.col.0 =
    own_list c.args.lists.now.items c.args.col.0 c.in_ok-list.list.now c.in_ok-list.ensures.value in
    changed_at (IsWithout c.args.w) c.args.lists.now.items c.args.col.0 (record { slots = c.take_out.new.list }) c.requires.within
    (subst (λ (old : List ℕ). IsWithout c.args.w old c.take_out.new.list.items) same c.take_out.ensures)
