use Rattle.std.proofs.Common.{subst, sym}
use Rattle.corner_view.specs.Seen.{AreMovers, CornerView}
use Rattle.corner_writings.proofs.Readings.MovedFacts.{moves_seen}
use Rattle.corner.proofs.corner.CornerTableau.mover.Goals as goal

pub mover-requires-clause-within : goal.mover-requires-clause-within
mover-requires-clause-within c =
    let h = c.requires.within in
    (h.0, moves_seen c.self.inside.table c.self.inside.listed c.args.mark h.0 (subst (λ (v : CornerView). AreMovers v c.args.mark h.0) (sym c.self.view_is) h.1), h.2)

pub returns : goal.returns
returns c = λ whats are.
    c.mover.ensures whats (moves_seen c.self.inside.table c.self.inside.listed c.args.mark whats (subst (λ (v : CornerView). AreMovers v c.args.mark whats) (sym c.self.view_is) are))
