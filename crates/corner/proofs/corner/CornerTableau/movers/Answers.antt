use Rattle.std.proofs.Common.{subst}
use Rattle.corner_view.specs.Seen.{AreMovers, CornerView}
use Rattle.corner_writings.proofs.Readings.MovedFacts.{seen_moves}
use Rattle.corner.proofs.corner.CornerTableau.movers.Goals as goal

pub returns : goal.returns
returns c =
    let h = c.movers.ensures in
    (h.0, subst (λ (v : CornerView). AreMovers v c.args.mark h.0) c.self.view_is (seen_moves c.self.inside.table c.self.inside.listed c.args.mark h.0 h.1), h.2)
