use Rattle.std.proofs.Common.{◌<◌, length, get_or, arith, ◌-◌}
use Rattle.std.proofs.lemmas.Bool.Decides.{nat_tests}
use Rattle.claim_text.proofs.Claims.SeenStays.{values_below, less_is}
use Rattle.claim_text.proofs.claim.draft.is_above.Goals as goal

pub returns : goal.returns
returns c =
    let some : 0 < length c.args.values.now = grind (arith, nat_tests) in
    let test = less_is (get_or c.args.values.now (length c.args.values.now - 1) c.index-values-values.result).0 c.args.attr in (
      λ yes. values_below c.args.values.now c.args.attr c.index-values-values.result c.requires (test.0 yes),
      λ all. test.1 (all (length c.args.values.now - 1) c.index-values-values.result (omega (arith, some))),
    )
