use Rattle.std.proofs.Common.{subst, sym}
use Rattle.corner_view.specs.Seen.{CornerView}
use Rattle.corner_view.specs.Entries.{AreEntries}
use Rattle.corner_writings.proofs.Readings.EntryFacts.{entries_seen}
use Rattle.corner.proofs.corner.CornerTableau.entry.Goals as goal

pub entry_in-requires-clause-within : goal.entry_in-requires-clause-within
entry_in-requires-clause-within c =
    let h = c.requires.within in
    (h.0, entries_seen c.self.inside.table c.self.inside.listed c.args.mark h.0 (subst (λ (v : CornerView). AreEntries v c.args.mark h.0) (sym c.self.view_is) h.1), h.2)

pub returns : goal.returns
returns c = λ names are.
    c.entry_in.ensures names (entries_seen c.self.inside.table c.self.inside.listed c.args.mark names (subst (λ (v : CornerView). AreEntries v c.args.mark names) (sym c.self.view_is) are))
