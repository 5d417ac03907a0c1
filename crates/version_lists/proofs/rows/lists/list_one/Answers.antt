use Rattle.std.proofs.Common.{◌≡◌, subst, sym, List, ℕ}
use Rattle.std.proofs.lemmas.Result.{on_ok_weaker}
use Rattle.version_lists.specs.Indexes.{IsRisingList, list_at}
use Rattle.version_lists.specs.Lists.{IsWith}
use Rattle.version_lists.proofs.Columns.{own_list, changed_at}
use Rattle.version_lists.proofs.rows.lists.list_one.Goals as goal

pub put_in-requires : goal.put_in-requires
put_in-requires c =
    let same : c.in_ok-list.list.now.slots.items ≡ list_at c.args.lists.now.items c.args.col.0 =
    own_list c.args.lists.now.items c.args.col.0 c.in_ok-list.list.now c.in_ok-list.ensures.value in
    subst IsRisingList (sym same) c.requires.rising

pub returns-clause-ok : goal.returns-clause-ok
returns-clause-ok c =
    let same : c.in_ok-list.list.now.slots.items ≡ list_at c.args.lists.now.items c.args.col.0 =
    own_list c.args.lists.now.items c.args.col.0 c.in_ok-list.list.now c.in_ok-list.ensures.value in
    on_ok_weaker c.put_in.result
    (λ put.
    changed_at (IsWith c.args.w) c.args.lists.now.items c.args.col.0 (record { slots = c.put_in.new.list }) c.requires.within
    (subst (λ (old : List ℕ). IsWith c.args.w old c.put_in.new.list.items) same put))
    c.put_in.ensures
