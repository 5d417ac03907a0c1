use Rattle.std.proofs.Common.{◌∷◌, ◌++◌, [], ℕ, length, subst, sym, List}
use Rattle.std.proofs.lemmas.Result.{on_ok_weaker}
use Rattle.version_lists.specs.declared.rows.list.Column.{Column}
use Rattle.row_core.specs.Rows.{Term}
use Rattle.version_lists.specs.Indexes.{IsIndexOf}
use Rattle.version_lists.specs.Lists.{IsListedAt, IsSameBut}
use Rattle.version_lists.proofs.Indexing.{listed_pushed, index_appended}
use Rattle.version_lists.proofs.rows.append.Goals as goal

pub relist-requires-clause-listed : goal.relist-requires-clause-listed
relist-requires-clause-listed c =
    subst (λ (lists : List Column). IsListedAt c.len-w.result [] lists) (sym c.in_ok-push.ensures.ok)
    (subst (λ (w : ℕ). IsListedAt w [] (c.args.lists.now.items ++ c.new.result ∷ [])) (sym c.len-w.ensures)
    (listed_pushed c.args.rows.now.items c.args.lists.now.items c.new.result c.new.ensures c.requires.indexed))

pub returns-clause-indexed : goal.returns-clause-indexed
returns-clause-indexed c =
    let own : IsListedAt (length c.args.rows.now.items) c.args.row c.relist.new.lists.items =
    subst (λ (w : ℕ). IsListedAt w c.args.row c.relist.new.lists.items) c.len-w.ensures
    (subst (λ (row : List Term). IsListedAt c.len-w.result row c.relist.new.lists.items) c.entries.ensures.value c.in_ok-relist.ensures.listed) in
    let same : IsSameBut (length c.args.rows.now.items) (c.args.lists.now.items ++ c.new.result ∷ []) c.relist.new.lists.items =
    subst (λ (w : ℕ). IsSameBut w (c.args.lists.now.items ++ c.new.result ∷ []) c.relist.new.lists.items) c.len-w.ensures
    (subst (λ (lists : List Column). IsSameBut c.len-w.result lists c.relist.new.lists.items) c.in_ok-push.ensures.ok c.in_ok-relist.ensures.same) in
    on_ok_weaker c.push-2.result
    (λ push.
    subst (λ (rows : List (List Term)). IsIndexOf rows c.relist.new.lists.items) (sym push)
    (index_appended c.args.rows.now.items c.args.lists.now.items c.relist.new.lists.items c.new.result c.args.row c.new.ensures c.requires.indexed c.entries.ensures.kept own same))
    c.push-2.ensures.ok
