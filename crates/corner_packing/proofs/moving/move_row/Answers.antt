use Rattle.std.proofs.Common.{rules, ◌≡◌, ◌∙◌, ℕ, List, [], slice_set, ap, sym, subst, arith}
use Rattle.std.proofs.lemmas.Option.{get_or_from_slice_get}
use Rattle.std.proofs.lemmas.Result.{on_ok_weaker}
use Rattle.row_core.specs.Renames.{AreKeptApart, place_in, renamed}
use Rattle.version_lists.specs.Indexes.{row_at}
use Rattle.version_lists.specs.Matrices.{IsBelow}
use Rattle.corner_packing.specs.Moving.{HasPlaces}
use Rattle.corner_packing.proofs.MovingFacts.{stayed, was_put}
use Rattle.corner_packing.proofs.PackingFacts.{below_count, kept_apart}
use Rattle.corner_packing.proofs.moving.move_row.Goals as goal

pub returns-then-is_still-clause-moved : goal.returns-then-is_still-clause-moved
returns-then-is_still-clause-moved c =
    let got : row_at c.args.matrix.now.rows c.args.w ≡ c.row-row.result.now = get_or_from_slice_get c.args.matrix.now.rows c.args.w c.row-row.result.now [] c.row-row.ensures.value in
    let there : place_in c.args.places.now.of.items c.args.w ≡ c.args.w = sym c.place_at-place.ensures ∙ c.if-place-w.true in
    let same : renamed c.args.places.now.of.items c.row-row.result.now ≡ c.row-row.result.now = c.is_still.ensures c.if-is_still.true in
    stayed c.args.places.now.of.items c.args.w (renamed c.args.places.now.of.items (row_at c.args.matrix.now.rows c.args.w)) [] c.args.matrix.now.rows there
    (ap (renamed c.args.places.now.of.items) got ∙ same ∙ sym got)

pub renamed-requires : goal.renamed-requires
renamed-requires c =
    let got : row_at c.args.matrix.now.rows c.args.w ≡ c.row-row.result.now = get_or_from_slice_get c.args.matrix.now.rows c.args.w c.row-row.result.now [] c.row-row.ensures.value in
    subst (λ (xs : List ℕ). AreKeptApart xs c.row-row.result.now) (sym c.deref.ensures.value)
    (kept_apart c.args.places.now.of.items c.args.places.now.count c.row-row.result.now c.requires.packing c.row-row.ensures.kept (subst (HasPlaces c.args.places.now.of.items) got c.requires.placed))

pub put-requires-clause-columns : goal.put-requires-clause-columns
put-requires-clause-columns c =
    let got : row_at c.args.matrix.now.rows c.args.w ≡ c.row-row.result.now = get_or_from_slice_get c.args.matrix.now.rows c.args.w c.row-row.result.now [] c.row-row.ensures.value in
    let is : c.in_ok-moved.moved ≡ renamed c.args.places.now.of.items c.row-row.result.now = c.in_ok-moved.ensures.value ∙ ap (λ (xs : List ℕ). renamed xs c.row-row.result.now) c.deref.ensures.value in
    let below : IsBelow c.args.places.now.count c.in_ok-moved.moved =
    subst (IsBelow c.args.places.now.count) (sym is) (below_count c.args.places.now.of.items c.args.places.now.count c.row-row.result.now c.requires.packing (subst (HasPlaces c.args.places.now.of.items) got c.requires.placed)) in
    let few = c.requires.packing.few in
    let same = c.requires.length in
    λ k d lt. let one = below k d lt in omega (arith, one, few, same)

pub returns-clause-moved : goal.returns-clause-moved
returns-clause-moved c =
    let got : row_at c.args.matrix.now.rows c.args.w ≡ c.row-row.result.now = get_or_from_slice_get c.args.matrix.now.rows c.args.w c.row-row.result.now [] c.row-row.ensures.value in
    let is : c.in_ok-moved.moved ≡ renamed c.args.places.now.of.items c.row-row.result.now = c.in_ok-moved.ensures.value ∙ ap (λ (xs : List ℕ). renamed xs c.row-row.result.now) c.deref.ensures.value in
    on_ok_weaker c.put.result
    (λ (put : c.put.new.self.rows ≡ slice_set c.args.matrix.now.rows c.place_at-place.result c.in_ok-moved.moved).
    was_put c.args.places.now.of.items c.args.w c.place_at-place.result (renamed c.args.places.now.of.items (row_at c.args.matrix.now.rows c.args.w)) c.in_ok-moved.moved
    c.args.matrix.now.rows c.put.new.self.rows (c.is_placed.ensures.yes (search rules)) c.place_at-place.ensures
    (is ∙ sym (ap (renamed c.args.places.now.of.items) got)) put)
    c.put.ensures.ok
