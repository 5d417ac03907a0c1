use Rattle.std.proofs.Common.{rules, ◌≡◌, ◌<◌, ◌≤◌, length, slice_index_or, All, sym, subst}
use Rattle.std.proofs.lemmas.List.Elements.{All-more}
use Rattle.row_core.specs.Rows.{Term}
use Rattle.row_core.specs.Renames.{place_in}
use Rattle.std.proofs.lemmas.List.{take_all}
use Rattle.corner_packing.proofs.MovingFacts.{still}
use Rattle.corner_packing.proofs.moving.is_still.Goals as goal

pub loop-e-preserved : goal.loop-e-preserved
loop-e-preserved c =
    let lt : c.loop-e.e-index < length c.args.row.now = search rules in
    let is : slice_index_or c.args.row.now c.loop-e.e-index c.e-item.result ≡ c.e-item.result = search rules in
    let here : place_in c.args.places.now.of.items c.e-item.result.col ≡ c.e-item.result.col = c.stays.ensures (search rules) in
    All-more (λ (t : Term). place_in c.args.places.now.of.items t.col ≡ t.col) c.args.row.now c.loop-e.e-index c.e-item.result lt c.loop-e.invariant
    (subst (λ (t : Term). place_in c.args.places.now.of.items t.col ≡ t.col) (sym is) here)

pub returns : goal.returns
returns c =
    let le : length c.args.row.now ≤ c.loop-e.e-index = search rules in
    λ e. still c.args.places.now.of.items c.args.row.now (subst (All (λ (t : Term). place_in c.args.places.now.of.items t.col ≡ t.col)) (take_all c.loop-e.e-index c.args.row.now le) c.loop-e.invariant)
