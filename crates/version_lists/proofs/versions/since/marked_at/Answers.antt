use Rattle.std.proofs.Common.{◌≡◌, ◌<◌, ◌+◌, ◌∙◌, ap, drop, length, get_or, take, arith, List}
use Rattle.std.specs.Prelude.{slice_get}
use Rattle.version_lists.specs.Undo.{reopen, undo}
use Rattle.version_lists.proofs.UndoLemmas.{length-undo_taken}
use Rattle.version_lists.proofs.SinceLemmas.{get_inserted_other, gone_here, reopen_here, same_read}
use Rattle.version_lists.proofs.versions.since.marked_at.Goals as goal

pub returns-in-Some-clause-some : goal.returns-in-Some-clause-some
returns-in-Some-clause-some g c =
    let base = undo (λ r. r.value) c.args.log.now.replaced.items (take c.args.log.now.len c.args.list.now.items.items) in
    let within : c.loop-gone.gone-index < length c.args.log.now.removed.items =
    omega (arith, c.loop-gone-test.true, ap length c.as_slice-gone-items.ensures.value) in
    let is = same_read c.as_slice-gone-items.result.now c.args.log.now.removed.items c.loop-gone.gone-index c.gone-item.result
    c.as_slice-gone-items.ensures.value c.gone-item.is in
    let long = length-undo_taken (λ r. r.value) c.args.log.now.replaced.items c.args.log.now.len c.args.list.now.items.items
    (omega (arith, c.requires.log.no_longer, c.requires.lengths)) in
    let place = gone_here c.args.log.now.len c.args.log.now.removed.items c.loop-gone.gone-index c.gone-item.result base within is c.loop-gone.invariant.gone long in
    c.loop-gone.invariant.reads
    ∙ ap (λ xs. slice_get xs c.loop-gone.at) (reopen_here c.args.log.now.removed.items c.loop-gone.gone-index c.gone-item.result base within is)
    ∙ c.in-Some.ensures.some (reopen (λ r. r.value) (drop (c.loop-gone.gone-index + 1) c.args.log.now.removed.items) base) place.at place.earlier

pub loop-gone-preserved : goal.loop-gone-preserved
loop-gone-preserved g c =
    let base = undo (λ r. r.value) c.args.log.now.replaced.items (take c.args.log.now.len c.args.list.now.items.items) in
    let within : c.loop-gone.gone-index < length c.args.log.now.removed.items =
    omega (arith, c.loop-gone-test.true, ap length c.as_slice-gone-items.ensures.value) in
    let is = same_read c.as_slice-gone-items.result.now c.args.log.now.removed.items c.loop-gone.gone-index c.gone-item.result
    c.as_slice-gone-items.ensures.value c.gone-item.is in
    let long = length-undo_taken (λ r. r.value) c.args.log.now.replaced.items c.args.log.now.len c.args.list.now.items.items
    (omega (arith, c.requires.log.no_longer, c.requires.lengths)) in
    let place = gone_here c.args.log.now.len c.args.log.now.removed.items c.loop-gone.gone-index c.gone-item.result base within is c.loop-gone.invariant.gone long in
    let next = reopen (λ r. r.value) (drop (c.loop-gone.gone-index + 1) c.args.log.now.removed.items) base in
    record {
      reads =
          c.loop-gone.invariant.reads
          ∙ ap (λ xs. slice_get xs c.loop-gone.at) (reopen_here c.args.log.now.removed.items c.loop-gone.gone-index c.gone-item.result base within is)
          ∙ c.in_default.ensures.none next
          ∙ get_inserted_other next c.gone-item.result.element.at c.loop-gone.at c.place_without-at.result c.gone-item.result.element.value
          c.in_default.ensures.other c.place_without-at.ensures.below c.place_without-at.ensures.above place.at;
      gone = place.rest;
    }
