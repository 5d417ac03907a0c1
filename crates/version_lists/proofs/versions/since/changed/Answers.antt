use Rattle.std.proofs.Common.{◌∙◌, ap, map}
use Rattle.version_lists.proofs.SinceLemmas.{changed_all}
use Rattle.version_lists.proofs.versions.since.changed.Goals as goal

pub returns : goal.returns
returns g c =
    λ items long.
    changed_all c.args.log.now items c.args.count c.in_ok-out.out.items c.push_places.new.out.items c.requires.whole c.requires.within long
    (c.in_ok-out.ensures ∙ ap (map (λ r. r.at)) c.deref.ensures.value) c.in_ok-push_places.ensures.keeps c.in_ok-push_places.ensures.has
