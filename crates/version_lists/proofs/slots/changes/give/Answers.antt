use Rattle.std.proofs.Common.{◌<◌, ◌++◌, ◌∷◌, [], subst, All}
use Rattle.version_lists.proofs.Edits.{changed_numbered, push_numbered, put_numbered, put_rising}
use Rattle.version_lists.proofs.slots.changes.give.Goals as goal

pub returns-then-is_above-clause-numbered : goal.returns-then-is_above-clause-numbered
returns-then-is_above-clause-numbered c =
    let below : All (λ n. n.number < c.args.one.number) c.args.kept.now.items =
    subst (All (λ n. n.number < c.args.one.number)) c.as_slice.ensures (c.is_above.ensures c.if-is_above.true) in
    changed_numbered c.args.kept.now.items c.push.new.self.items (c.args.kept.now.items ++ c.args.one ∷ []) c.args.one.number c.args.one.slot c.push.result
    (push_numbered c.args.kept.now.items c.args.one below) c.push.ensures.ok

pub returns-in-Some-clause-rising : goal.returns-in-Some-clause-rising
returns-in-Some-clause-rising c =
    put_rising c.args.kept.now c.put.new.self c.as_slice-2.result.now c.in-Some.i c.args.one c.put.result c.requires c.as_slice-2.ensures
    c.in-Some.ensures.within c.in-Some.ensures.found c.put.ensures.ok c.put.ensures.err c.put.ensures.before

pub returns-in-Some-clause-numbered : goal.returns-in-Some-clause-numbered
returns-in-Some-clause-numbered c =
    put_numbered c.args.kept.now.items c.put.new.self.items c.as_slice-2.result.now c.in-Some.i c.args.one c.put.result c.requires.now c.as_slice-2.ensures
    c.in-Some.ensures.within c.in-Some.ensures.found c.put.ensures.ok
