use Rattle.std.proofs.Common.{rules}
use Rattle.version_lists.proofs.UndoLemmas.{versions_without_oldest, AreLogsOf-take, spacious_take}
use Rattle.version_lists.proofs.versions.VersionList.forget.Goals as goal

pub invariant_of-self : goal.invariant_of-self
invariant_of-self g c = record {
  lengths = c.self.invariant.lengths;
  logs = rw c.pop_back.ensures.rest (AreLogsOf-take _ _ _ c.self.invariant.logs);
  few = search rules;
  room = search rules;
  spacious = rw c.pop_back.ensures.rest (spacious_take _ _ _ _ c.self.invariant.spacious);
}

pub returns-clause-before : goal.returns-clause-before
returns-clause-before g c =
    rw (c.pop_back.ensures.rest, ← c.self.view_is) (versions_without_oldest _ _ _ c.self.inside.logs.ok.0)
