use Rattle.std.proofs.Common.{◌≡◌, ◌<◌, ◌∙◌, ap, take, length, get_or, arith, rules, sym, refl, true≢false, Some}
use Rattle.std.specs.Prelude.{slice_get}
use Rattle.std.proofs.lemmas.Grind.{get_or_default_zero}
use Rattle.std.proofs.lemmas.List.{length-take}
use Rattle.std.proofs.lemmas.Option.{slice_get_past, slice_get_read}
use Rattle.version_lists.specs.Undo.{HasAt, undo}
use Rattle.version_lists.proofs.UndoLemmas.{length-undo, other_place}
use Rattle.version_lists.proofs.SinceLemmas.{HasAt-is, HasAt-within, get_take_below, undo_found, undo_others}
use Rattle.version_lists.proofs.versions.since.given_back.Goals as goal

pub returns-then-at-log-clause-none : goal.returns-then-at-log-clause-none
returns-then-at-log-clause-none g c =
    slice_get_past (undo (λ r. r.value) c.args.log.now.replaced.items (take c.args.log.now.len c.args.list.now.items.items)) c.args.at
    (omega (
      arith,
      c.if-at-log.true,
      length-undo (λ r. r.value) c.args.log.now.replaced.items (take c.args.log.now.len c.args.list.now.items.items),
      length-take c.args.log.now.len c.args.list.now.items.items,
    ))

pub index-requires : goal.index-requires
index-requires g c =
    let within = HasAt-within c.args.log.now.replaced.items c.index-slot.result.now c.args.at (c.has.ensures.0 c.if-has.true) in
    omega (arith, within, c.args.log.now.replaced.ok.0)

pub returns-then-has-clause-some : goal.returns-then-has-clause-some
returns-then-has-clause-some g c =
    let has : HasAt c.args.log.now.replaced.items c.index-slot.result.now c.args.at = c.has.ensures.0 c.if-has.true in
    let below : c.args.at < length (take c.args.log.now.len c.args.list.now.items.items) =
    omega (arith, c.if-at-log.false, c.requires.log.no_longer, c.requires.lengths, length-take c.args.log.now.len c.args.list.now.items.items) in
    undo_found c.args.log.now.replaced.items c.index-slot.result.now c.index.result.now (take c.args.log.now.len c.args.list.now.items.items) c.args.at
    c.requires.log.once (HasAt-within c.args.log.now.replaced.items c.index-slot.result.now c.args.at has)
    (HasAt-is c.args.log.now.replaced.items c.index-slot.result.now c.args.at c.index.result.now has) below
    ∙ ap (λ r. Some r.value) (sym c.index.ensures)

pub returns-clause-some : goal.returns-clause-some
returns-clause-some g c =
    let within : c.args.at < length c.args.list.now.slots.items = omega (arith, c.if-at-log.false, c.requires.log.no_longer) in
    let slot : get_or c.args.list.now.slots.items c.args.at 0 ≡ c.index-slot.result.now =
    sym (get_or_default_zero c.args.list.now.slots.items c.args.at c.index-slot.result.now within) ∙ sym c.index-slot.ensures in
    let unwritten : ¬ HasAt c.args.log.now.replaced.items (get_or c.args.list.now.slots.items c.args.at 0) c.args.at =
    rw slot (λ has. absurd (true≢false (sym (c.has.ensures.1 has) ∙ c.if-has.false))) in
    undo_others c.args.log.now.replaced.items (take c.args.log.now.len c.args.list.now.items.items) c.args.at
    (other_place c.args.list.now.slots.items c.args.log.now c.args.at c.requires.log unwritten)
    ∙ get_take_below c.args.log.now.len c.args.list.now.items.items c.args.at (omega (arith, c.if-at-log.false))
    ∙ slice_get_read c.args.list.now.items.items (length c.args.list.now.items.items) c.args.at c.index-2.result.now refl
    (omega (arith, within, c.requires.lengths)) c.index-2.ensures
