use Rattle.std.proofs.Common.{◌∷◌, []}
use Rattle.std.proofs.lemmas.List.Elements.{Contains-append_left}
use Rattle.version_lists.proofs.SinceLemmas.{has_pushed}
use Rattle.version_lists.proofs.versions.since.push_places.Goals as goal

pub loop-i-preserved : goal.loop-i-preserved
loop-i-preserved c = record {
  keeps = λ n had.
      rw c.in_ok-push.ensures.items (Contains-append_left c.loop-i.out.items (c.loop-i.i ∷ []) n (c.loop-i.invariant.keeps n had));
  has = λ n from below.
      rw c.in_ok-push.ensures.items
      (has_pushed c.loop-i.out.items c.args.first c.loop-i.i c.loop-i.invariant.has n from below);
}
