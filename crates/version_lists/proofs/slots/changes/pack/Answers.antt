use Rattle.std.proofs.Common.{◌∙◌, ◌+◌, arith, refl}
use Rattle.version_lists.specs.Numbers.{ArePacked}
use Rattle.version_lists.proofs.Packs.{packed_none}
use Rattle.version_lists.proofs.slots.changes.pack.Goals as goal

pub loop-i-init : goal.loop-i-init
loop-i-init c = record {
  packed = packed_none c.args.places.now c.args.kept.now.items;
  few = omega arith;
  long = refl;
  before = refl;
}

pub loop-i-preserved : goal.loop-i-preserved
loop-i-preserved c =
    let next : ArePacked c.args.places.now c.args.kept.now.items (c.loop-i.i + 1) c.in_ok-k.k c.pack_one.new.kept.items =
    c.in_ok-k.ensures.ok c.args.kept.now.items c.loop-i.invariant.packed in
    record {
      packed = next;
      few = next.few;
      long = next.long;
      before = c.pack_one.ensures.before ∙ c.loop-i.invariant.before;
    }
