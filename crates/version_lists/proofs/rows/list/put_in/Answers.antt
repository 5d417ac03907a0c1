use Rattle.std.proofs.Common.{◌<◌, List, ℕ, All, subst, Err}
use Rattle.std.specs.List.Sorted.{IsBinarySearchResult}
use Rattle.std.specs.Ordering.{nat_cmp}
use Rattle.version_lists.proofs.Listed.{place_found, with_inserted, with_pushed}
use Rattle.version_lists.proofs.rows.list.put_in.Goals as goal

pub returns-then-is_above : goal.returns-then-is_above
returns-then-is_above c =
    with_pushed c.args.list.now.items c.args.w c.push.new.self.items c.requires
    (subst (λ (xs : List ℕ). All (λ v. v < c.args.w) xs) c.deref.ensures.value (c.is_above.ensures c.if-is_above.true))
    c.in_ok-push.ensures.items

pub returns-in_ok-insert : goal.returns-in_ok-insert
returns-in_ok-insert c =
    with_inserted c.args.list.now.items c.args.w c.in-Err.place c.insert.new.self.items c.requires
    (place_found c.args.list.now.items c.args.w c.in-Err.place c.requires
    (subst (λ (xs : List ℕ). IsBinarySearchResult (λ y. nat_cmp y c.args.w) xs (Err c.in-Err.place)) c.deref-2.ensures.value c.in-Err.ensures.position))
    c.in_ok-insert.ensures.items
