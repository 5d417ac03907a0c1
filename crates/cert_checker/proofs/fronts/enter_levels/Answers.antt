use Rattle.std.proofs.Common.{◌∙◌, take, take_all, subst, List, SFits}
use Rattle.std.specs.Int.{w64}
use Rattle.std.proofs.lemmas.Int.{to_z-of_z}
use Rattle.cert_checker.specs.declared.leveled.PlacedLevel.{PlacedLevel}
use Rattle.cert_checker.specs.Fronts.{AreFronts, AreOfLevel, IsReady, seen_by}
use Rattle.cert_checker.proofs.Certificates.Valuing.{all-item}
use Rattle.cert_checker.proofs.Certificates.FrontLoops.{blank-fronts, fronts-more}
use Rattle.cert_checker.proofs.fronts.enter_levels.Goals as goal
use Rattle.frac_core.proofs.Fitting.{fits-word as fits-w64}

pub loop-q-init : goal.loop-q-init
loop-q-init c = record { count = c.requires.count; fronts = λ m are. blank-fronts c.args.p.now m c.args.sides.now c.requires.count c.requires.blank }

pub loop-q-preserved : goal.loop-q-preserved
loop-q-preserved c =
    let ready : IsReady c.args.p.now c.q-item.result = all-item (IsReady c.args.p.now) c.args.placed.now c.loop-q.q-index c.q-item.result c.loop-q-test.true c.q-item.is c.requires.placed in
    let fits : SFits w64 c.q-item.result.scale = fits-w64 _ ready.fits in
    let enter = rw c.deref.ensures.value at (simp to_z-of_z at c.enter_lines.ensures) in
    record {
      count = c.enter_lines.auto.sides ∙ c.loop-q.invariant.count;
      fronts = λ m are. fronts-more c.args.p.now m c.args.placed.now c.loop-q.q-index c.q-item.result c.enter_lines.new.sides c.loop-q-test.true c.q-item.is
          (enter m (seen_by (take c.loop-q.q-index c.args.placed.now)) (all-item (λ (q : PlacedLevel). AreOfLevel c.args.p.now m q.level q.scale q.weighted.items) c.args.placed.now c.loop-q.q-index c.q-item.result c.loop-q-test.true c.q-item.is are) (c.loop-q.invariant.fronts m are));
    }

pub returns : goal.returns
returns c = λ m are.
    subst (λ (qs : List PlacedLevel). AreFronts c.args.p.now m (seen_by qs) c.loop-q.sides) (take_all c.loop-q.q-index c.args.placed.now c.loop-q-test.false) (c.loop-q.invariant.fronts m are)
