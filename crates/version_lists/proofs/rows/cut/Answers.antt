use Rattle.std.proofs.Common.{subst, sym, List, take}
use Rattle.std.proofs.lemmas.Result.{on_ok_weaker}
use Rattle.row_core.specs.Rows.{Term}
use Rattle.version_lists.specs.declared.rows.list.Column.{Column}
use Rattle.version_lists.specs.Indexes.{IsIndexOf}
use Rattle.version_lists.proofs.Indexing.{index_cut}
use Rattle.version_lists.proofs.rows.cut.Goals as goal

pub returns-clause-indexed : goal.returns-clause-indexed
returns-clause-indexed c =
    on_ok_weaker c.truncate-2.result
    (λ lists.
    subst (λ (ls : List Column). IsIndexOf c.truncate.new.self.items ls) (sym lists)
    (subst (λ (rows : List (List Term)). IsIndexOf rows (take c.args.len c.args.lists.now.items)) (sym c.in_ok-truncate.ensures.ok)
    (index_cut c.args.len c.args.rows.now.items c.args.lists.now.items c.requires.empty c.requires.below c.requires.indexed)))
    c.truncate-2.ensures.ok
