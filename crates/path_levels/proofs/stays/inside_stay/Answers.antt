use Rattle.std.proofs.Common.{◌∙◌, refl, ap, map, SFits, rules, List, ℤ, w64, to_z, of_z}
use Rattle.std.proofs.lemmas.Int.{to_z-of_z}
use Rattle.corner_lines.specs.Levels.StayLevels.{turned as turned_by}
use Rattle.path_levels.proofs.StayLines.StaySizes.{stay_sized}
use Rattle.path_levels.proofs.stays.inside_stay.Goals as goal

pub returns-clause-sized : goal.returns-clause-sized
returns-clause-sized c =
    let own : SFits w64 c.args.inside.now.sum.own = search rules in
    stay_sized c.args.inside.now
    (record { unit = _; own = to_z w64 (of_z w64 c.args.inside.now.sum.own); by = c.in_ok-by.by; cost = c.in_ok-cost.cost })
    c.requires
    (record {
      unit = refl;
      own = simp to_z-of_z;
      by = c.in_ok-by.ensures.each ∙ ap (λ (zs : List ℤ). map (turned_by c.args.inside.now.side) zs) c.deref.ensures.value;
      cost = c.in_ok-cost.ensures.value;
    })
