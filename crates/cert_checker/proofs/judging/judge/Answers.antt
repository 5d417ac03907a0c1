use Rattle.std.proofs.Common.{refl, inl, inr}
use Rattle.cert_core.specs.Claims.{multipliers_of}
use Rattle.cert_checker.specs.Fronts.{AreFronts, seen_by}
use Rattle.cert_checker.specs.PlacedLevels.{ArePlaced}
use Rattle.cert_checker.proofs.Certificates.Certified.{balances-each, placed-balance, placed-ready, placed-levels, placed-known}
use Rattle.cert_checker.proofs.judging.judge.Goals as goal
use Rattle.frac_core.proofs.Bools.{not-both as no_both}

pub returns-in_default : goal.returns-in_default
returns-in_default c =
    let none = rw c.in_default.is at c.in_ok-placed.ensures.none in
    inr (inr (inl (refl, c.requires.values, c.requires.room, c.requires.met, λ h. none (balances-each c.args.p.now c.args.best.now c.levels.ensures.kept h))))

pub fronts-requires : goal.fronts-requires
fronts-requires c =
    let are : ArePlaced c.args.p.now c.args.best.now c.in-Some.placed.items = rw c.in-Some.is at c.in_ok-placed.ensures.some in
    rw c.deref.ensures.value (placed-ready c.args.p.now c.args.best.now c.in-Some.placed.items c.levels.ensures.kept are)

pub are_not_negative-requires : goal.are_not_negative-requires
are_not_negative-requires c = rw c.deref-2.ensures.value c.in_ok-sides.ensures.count

pub are_free-requires-clause-count : goal.are_free-requires-clause-count
are_free-requires-clause-count c = rw c.deref-3.ensures.value c.in_ok-sides.ensures.count

pub returns-then-not-are_not_negative : goal.returns-then-not-are_not_negative
returns-then-not-are_not_negative c =
    let are : ArePlaced c.args.p.now c.args.best.now c.in-Some.placed.items = rw c.in-Some.is at c.in_ok-placed.ensures.some in
    let balances = placed-balance c.args.p.now c.args.best.now c.in-Some.placed.items c.levels.ensures.kept are in
    let known = placed-known c.args.p.now c.show_whole.ensures c.args.best.now c.in-Some.placed.items c.levels.ensures.kept are in
    let fronts : AreFronts c.args.p.now (multipliers_of c.args.p.now c.args.best.now) (seen_by c.in-Some.placed.items) c.in_ok-sides.sides.items =
    (rw c.deref.ensures.value at c.in_ok-sides.ensures.fronts) (multipliers_of c.args.p.now c.args.best.now) (placed-levels c.args.p.now c.args.best.now c.in-Some.placed.items c.levels.ensures.kept are) in
    let negative = (rw c.deref-2.ensures.value at c.are_not_negative.ensures) (multipliers_of c.args.p.now c.args.best.now) (seen_by c.in-Some.placed.items) known fronts in
    inr (inr (inr (inl (refl, c.requires.values, c.requires.room, c.requires.met, balances, λ h. no_both c.are_not_negative.result (negative.1 h) c.if-not-are_not_negative.true))))

pub returns-then-not-are_free : goal.returns-then-not-are_free
returns-then-not-are_free c =
    let are : ArePlaced c.args.p.now c.args.best.now c.in-Some.placed.items = rw c.in-Some.is at c.in_ok-placed.ensures.some in
    let balances = placed-balance c.args.p.now c.args.best.now c.in-Some.placed.items c.levels.ensures.kept are in
    let known = placed-known c.args.p.now c.show_whole.ensures c.args.best.now c.in-Some.placed.items c.levels.ensures.kept are in
    let fronts : AreFronts c.args.p.now (multipliers_of c.args.p.now c.args.best.now) (seen_by c.in-Some.placed.items) c.in_ok-sides.sides.items =
    (rw c.deref.ensures.value at c.in_ok-sides.ensures.fronts) (multipliers_of c.args.p.now c.args.best.now) (placed-levels c.args.p.now c.args.best.now c.in-Some.placed.items c.levels.ensures.kept are) in
    let negative = (rw c.deref-2.ensures.value at c.are_not_negative.ensures) (multipliers_of c.args.p.now c.args.best.now) (seen_by c.in-Some.placed.items) known fronts in
    inr (inr (inr (inr (
      refl,
      c.requires.values,
      c.requires.room,
      c.requires.met,
      balances,
      negative.0 c.if-not-are_not_negative.false,
      λ x gives h. no_both c.are_free.result (((rw c.deref-3.ensures.value at c.are_free.ensures) (multipliers_of c.args.p.now c.args.best.now) (seen_by c.in-Some.placed.items) x known fronts gives).1 h) c.if-not-are_free.true,
    ))))

pub returns : goal.returns
returns c =
    let are : ArePlaced c.args.p.now c.args.best.now c.in-Some.placed.items = rw c.in-Some.is at c.in_ok-placed.ensures.some in
    let balances = placed-balance c.args.p.now c.args.best.now c.in-Some.placed.items c.levels.ensures.kept are in
    let known = placed-known c.args.p.now c.show_whole.ensures c.args.best.now c.in-Some.placed.items c.levels.ensures.kept are in
    let fronts : AreFronts c.args.p.now (multipliers_of c.args.p.now c.args.best.now) (seen_by c.in-Some.placed.items) c.in_ok-sides.sides.items =
    (rw c.deref.ensures.value at c.in_ok-sides.ensures.fronts) (multipliers_of c.args.p.now c.args.best.now) (placed-levels c.args.p.now c.args.best.now c.in-Some.placed.items c.levels.ensures.kept are) in
    let negative = (rw c.deref-2.ensures.value at c.are_not_negative.ensures) (multipliers_of c.args.p.now c.args.best.now) (seen_by c.in-Some.placed.items) known fronts in (
      c.requires.values,
      c.requires.room,
      c.requires.met,
      balances,
      negative.0 c.if-not-are_not_negative.false,
      λ x gives. ((rw c.deref-3.ensures.value at c.are_free.ensures) (multipliers_of c.args.p.now c.args.best.now) (seen_by c.in-Some.placed.items) x known fronts gives).0 c.if-not-are_free.false,
    )
