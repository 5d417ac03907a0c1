use Rattle.std.proofs.Common.{◌≡◌, ◌∙◌, false, refl, sym}
use Rattle.std.specs.BTreeSet.{contains}
use Rattle.std.specs.Ordering.{nat_cmp}
use Rattle.path_lines.specs.Numbering.{entry}
use Rattle.path_claims.proofs.CornerNumbers.Corners.{apart_more, not_true, seen_more}
use Rattle.path_claims.proofs.route.has_double.Goals as goal

pub loop-number-preserved : goal.loop-number-preserved
loop-number-preserved c =
    let new : contains nat_cmp c.loop-number.seen (entry c.args.numbers.now c.loop-number.number-index) ≡ false =
    not_true (contains nat_cmp c.loop-number.seen (entry c.args.numbers.now c.loop-number.number-index)) (sym c.in_ok-insert.ensures.added ∙ c.if-not-branch.false) in
    record {
      seen = seen_more c.args.numbers.now c.loop-number.number-index (entry c.args.numbers.now c.loop-number.number-index) c.loop-number.seen c.insert.new.self refl c.in_ok-insert.ensures.updates c.loop-number.invariant.seen;
      apart = apart_more c.args.numbers.now c.loop-number.number-index (entry c.args.numbers.now c.loop-number.number-index) c.loop-number.seen refl c.loop-number.invariant.seen new c.loop-number.invariant.apart;
    }
