use Rattle.std.proofs.Common.{◌<ℤ◌, pos, arith, SFits}
use Rattle.std.specs.Int.{w64}
use Rattle.std.proofs.lemmas.Int.{to_z-of_z, ints}
use Rattle.cert_checker.specs.LinePlaces.{AreWeighed}
use Rattle.cert_checker.proofs.Certificates.Levels.{weighed-known}
use Rattle.cert_checker.proofs.leveled.place_level.Goals as goal

pub returns-in_default-2-clause-none : goal.returns-in_default-2-clause-none
returns-in_default-2-clause-none c = λ h. (rw c.by.ensures.value at (rw c.in_default-2.is at c.in_ok-weighted.ensures.none)) h.rows

pub returns-clause-some : goal.returns-clause-some
returns-clause-some c =
    let weighed : AreWeighed c.args.p.now c.args.l.now.by c.in-Some-2.weighted.items = rw c.by.ensures.value at (rw c.in-Some-2.is at c.in_ok-weighted.ensures.some) in
    let above : pos 0 <ℤ c.args.l.now.scale = rw c.scale.ensures.value at (let h : pos 0 <ℤ c.scale.result = omega (arith, ints, c.if-scale-le0.false) in h) in
    let fits : SFits w64 c.scale-2.result = record { sfits = c.scale-2.type_inv } in
    record {
      place = rw c.level.ensures at c.in-Some.ensures.some;
      scale = simp to_z-of_z c.scale-2.ensures.value;
      above = above;
      weighted = weighed;
      balances = record {
        scale = above;
        level = rw c.level.ensures at c.in-Some.ensures.held;
        rows = weighed-known c.args.p.now c.args.l.now.by c.in-Some-2.weighted.items weighed;
        cancel = c.in_ok-cancel_lines.ensures.0 c.if-not-branch.false;
      };
    }
