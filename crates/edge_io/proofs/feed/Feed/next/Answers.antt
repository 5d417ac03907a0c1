use Rattle.std.proofs.Common.{◌≡◌, ◌⊎◌, ◌+◌, ◌<◌, ◌≤◌, inl, inr, cond, true, false, None, length, slice_range, sym, subst, ap, ◌∙◌, ℕ, refl, arith}
use Rattle.std.specs.Str.Lines.{strip_carriage_return}
use Rattle.edge_io.specs.Feed.{Pending, cut, given_as, IsUnended}
use Rattle.edge_io.specs.Feeding.{Gives, Waits, shown}
use Rattle.edge_io.proofs.Buffers.{length_part}
use Rattle.edge_io.proofs.Feeds.{gives_at, waits_cut, waits_open}
use Rattle.edge_io.proofs.feed.Feed.next.Goals as goal
use Rattle.edge_io.proofs.feed.Feed.next.Goals.{then-was_cut, then-was_cut-via-then-was_cut, then-was_cut-via-else-was_cut+then-end-start, else-was_cut+else-end-start}

pub returns-in-Some : goal.returns-in-Some
returns-in-Some c =
    let f = c.self.inside in
    let xs = f.buffer.items in
    let within : f.end ≤ length xs = omega (arith, f.buffer.ok.0, c.self.invariant.1) in
    let piece : shown c.piece_of.result ≡ cond f.is_cut None (given_as (strip_carriage_return (slice_range xs f.start (f.start + c.in-Some.len)))) = simp (c.without_return.ensures, c.deref-in-Some.ensures.value) at c.piece_of.ensures in (
      (
        refl,
        (λ _. tt),
        record {
          some = subst (λ (p : Pending). Gives p (shown c.piece_of.result) (record { bytes = slice_range xs (f.start + c.in-Some.len + 1) f.end; is_cut = false })) c.self.view_is
              (gives_at xs f.start f.end c.in-Some.len f.is_cut (shown c.piece_of.result) c.self.invariant.0 within
              (simp c.deref.ensures.value at c.in-Some.ensures.within) (simp c.deref.ensures.value at c.in-Some.ensures.before) (simp c.deref.ensures.value at c.in-Some.ensures.at) piece);
          none = tt;
        },
      ),
      record { next = tt },
    )

pub returns-after-was_cut : goal.returns-after-was_cut
returns-after-was_cut c =
    let f = c.self.inside in
    let part = slice_range f.buffer.items f.start f.end in
    let within : f.end ≤ length f.buffer.items = omega (arith, f.buffer.ok.0, c.self.invariant.1) in
    let size = length_part f.buffer.items f.start f.end c.self.invariant.0 within in
    let none : IsUnended part = simp c.deref.ensures.value at c.in-None.ensures.none in
    let over : (f.is_cut ≡ true) ⊎ (4097 < length part) → Waits c.args.self.now cut = λ why.
    subst (λ (p : Pending). Waits p cut) c.self.view_is (waits_cut part f.is_cut none why) in
    elim c.if-was_cut.branch [
      | then-was_cut w ↦
          let why : (f.is_cut ≡ true) ⊎ (4097 < length part) = elim w.then-was_cut.branch [
            | then-was_cut-via-then-was_cut v ↦ inl v.if-was_cut.true
            | then-was_cut-via-else-was_cut+then-end-start v ↦ inr (omega (arith, size, v.if-end-start.true))
          ] in
          let is : c.if-was_cut.self.0 ≡ cut = ap (λ (p : Pending × ℕ). p.0) w.self-is in
          ((refl, (λ _. tt), record { some = tt; none = subst (λ (p : Pending). Waits c.args.self.now p) (sym is) (over why) }), record { next = tt })
      | else-was_cut+else-end-start w ↦
          let is : c.if-was_cut.self.0 ≡ c.args.self.now = ap (λ (p : Pending × ℕ). p.0) w.self-is ∙ c.self.view_is in
          let waits : Waits c.args.self.now c.args.self.now = subst (λ (p : Pending). Waits p p) c.self.view_is
          (rw w.if-was_cut.false (waits_open part none (omega (arith, size, w.if-end-start.false)))) in
          ((refl, (λ _. tt), record { some = tt; none = subst (λ (p : Pending). Waits c.args.self.now p) (sym is) waits }), record { next = tt })
    ]
