use Rattle.std.proofs.Common.{◌≡◌, ◌⊎◌, ◌<◌, ◌≤◌, ◌∷◌, [], cond, inl, inr, true, None, length, slice_range, sym, subst, refl, arith}
use Rattle.edge_io.specs.Feed.{Pending, IsUnended, given_as, to_come}
use Rattle.edge_io.specs.Feeding.{shown}
use Rattle.edge_io.proofs.Buffers.{length_part}
use Rattle.edge_io.proofs.Feeds.{last_is}
use Rattle.edge_io.proofs.feed.Feed.end.Goals as goal

pub returns-then-start-end : goal.returns-then-start-end
returns-then-start-end c =
    let f = c.self.inside in
    let part = slice_range f.buffer.items f.start f.end in
    let within : f.end ≤ length f.buffer.items = omega (arith, f.buffer.ok.0, c.self.invariant.1) in
    let size = length_part f.buffer.items f.start f.end c.self.invariant.0 within in
    let none : IsUnended part = subst (λ (p : Pending). IsUnended p.bytes) (sym c.self.view_is) c.requires.unended in
    let why : (f.is_cut ≡ true) ⊎ (0 < length part) = elim c.if-start-end.either [
      | inl is ↦ inl is
      | inr is ↦ inr (omega (arith, size, is.1))
    ] in
    let piece : shown c.piece_of.result ≡ cond f.is_cut None (given_as part) = simp c.deref.ensures.value at c.piece_of.ensures in (
      (
        refl,
        (λ _. tt),
        record {
          some = subst (λ (p : Pending). ((p.is_cut ≡ true) ⊎ (0 < length p.bytes)) × (shown c.piece_of.result ≡ cond p.is_cut None (given_as p.bytes)) × (to_come p [] ≡ shown c.piece_of.result ∷ []))
              c.self.view_is (why, piece, last_is part f.is_cut (shown c.piece_of.result) none why piece);
          none = tt;
          as_new = refl;
        },
      ),
      record { last = tt },
    )
