use Rattle.std.proofs.Common.{◌≡◌, ◌+◌, ◌++◌, [], ◌∷◌, List, ℤ, sym, subst, SFits, to_z, of_z}
use Rattle.std.specs.Int.{w64}
use Rattle.std.proofs.lemmas.Int.{to_z-of_z}
use Rattle.path_fits.specs.Sums.{IsUnitList}
use Rattle.path_fits.proofs.LastCorner.UnitLists.{one_unit_more}
use Rattle.path_fits.proofs.last.line_sums.unit_numbers.Goals as goal

pub loop-place-preserved : goal.loop-place-preserved
loop-place-preserved c =
    let fits : SFits w64 c.own_number.result = record { sfits = c.own_number.type_inv } in
    let number : to_z w64 (of_z w64 c.own_number.result) ≡ c.own_number.result = to_z-of_z w64 c.own_number.result fits in
    subst (IsUnitList (c.loop-place.place + 1) c.args.at) (sym {A = List ℤ} c.in_ok-push.ensures.items)
    (subst (λ (z : ℤ). IsUnitList (c.loop-place.place + 1) c.args.at (c.loop-place.out.items ++ z ∷ [])) (sym number)
    (one_unit_more c.loop-place.place c.args.at c.loop-place.out.items c.own_number.result c.loop-place.invariant c.own_number.ensures.here c.own_number.ensures.other))
