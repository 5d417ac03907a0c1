use Rattle.std.proofs.Common.{subst}
use Rattle.corner_view.specs.Seen.{CornerView}
use Rattle.corner_view.specs.Entries.{AreEntries}
use Rattle.corner_writings.proofs.Readings.EntryFacts.{seen_entries}
use Rattle.corner.proofs.corner.CornerTableau.entries.Goals as goal

pub returns : goal.returns
returns c =
    let h = c.entries_in.ensures in
    (h.0, subst (λ (v : CornerView). AreEntries v c.args.mark h.0) c.self.view_is (seen_entries c.self.inside.table c.self.inside.listed c.args.mark h.0 h.1), h.2)
