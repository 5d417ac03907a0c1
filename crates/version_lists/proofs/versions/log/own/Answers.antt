use Rattle.std.proofs.lemmas.Result.{on_ok_weaker}
use Rattle.version_lists.proofs.UndoLemmas.{own_itself, own_clone}
use Rattle.version_lists.proofs.versions.log.own.Goals as goal

pub returns-then-is_kept-clause-ok : goal.returns-then-is_kept-clause-ok
returns-then-is_kept-clause-ok g c = own_itself g.T.Clone.is_clone c.args.list.now.items.items c.args.at c.requires.item

pub returns-clause-ok : goal.returns-clause-ok
returns-clause-ok g c =
    on_ok_weaker c.replace_at.result
    (λ put. (
      c.in_ok-copy.copy,
      own_clone
          g.T.Clone.is_clone c.args.list.now.items.items c.args.at c.index-2.result.now c.in_ok-copy.copy c.requires.item
          c.index-2.ensures c.in_ok-copy.ensures.cases,
      put,
    ))
    c.replace_at.ensures.ok
