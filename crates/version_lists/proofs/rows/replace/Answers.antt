use Rattle.std.proofs.Common.{subst, sym, List}
use Rattle.std.proofs.lemmas.Result.{on_ok_weaker}
use Rattle.row_core.specs.Rows.{Term}
use Rattle.version_lists.specs.Indexes.{IsIndexOf}
use Rattle.version_lists.specs.Lists.{IsListedAt}
use Rattle.version_lists.proofs.Indexing.{row_got, listed_before, index_after}
use Rattle.version_lists.proofs.rows.replace.Goals as goal

pub relist-requires-clause-listed : goal.relist-requires-clause-listed
relist-requires-clause-listed c =
    subst (λ (row : List Term). IsListedAt c.args.w row c.args.lists.now.items) (sym c.entries.ensures.value)
    (listed_before c.args.rows.now.items c.args.lists.now.items c.args.w c.get.result.now c.requires.indexed
    (row_got c.args.rows.now.items c.args.w c.get.result.now c.get.ensures) c.entries.ensures.kept)

pub returns-clause-indexed : goal.returns-clause-indexed
returns-clause-indexed c =
    on_ok_weaker c.put.result
    (λ put.
    subst (λ (rows : List (List Term)). IsIndexOf rows c.relist.new.lists.items) (sym put)
    (index_after c.args.rows.now.items c.args.lists.now.items c.relist.new.lists.items c.args.w c.args.row c.requires.indexed c.requires.slot
    c.entries-2.ensures.kept (subst (λ (row : List Term). IsListedAt c.args.w row c.relist.new.lists.items) c.entries-2.ensures.value c.in_ok-relist.ensures.listed) c.in_ok-relist.ensures.same))
    c.put.ensures.ok
