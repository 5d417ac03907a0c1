use Rattle.std.proofs.Common.{Ordering, List, ℕ, Some, subst, sym, ap, Err, ◌∙◌, ◌<◌, ◌-◌, ◌≡◌, length, take, get_or}
use Rattle.std.specs.Prelude.{slice_get}
use Rattle.std.specs.List.Sorted.{IsBinarySearchResult}
use Rattle.std.specs.Ordering.{nat_cmp}
use Rattle.std.proofs.lemmas.Cmp.{ranked}
use Rattle.version_lists.proofs.Listed.{place_found, without_absent, without_last, without_removed}
use Rattle.version_lists.proofs.rows.list.take_out.Goals as goal

pub returns-then-is_last : goal.returns-then-is_last
returns-then-is_last c =
    without_last c.args.list.now.items c.args.w c.pop.new.self.items c.requires
    (subst (λ (xs : List ℕ). slice_get xs (length xs - 1) ≡ Some c.args.w) c.deref.ensures.value (c.is_last.ensures c.if-is_last.true))
    (c.pop.ensures.rest ∙ ap (λ (n : ℕ). take (n - 1) c.args.list.now.items) c.args.list.now.ok.0)

pub returns-in-Ok : goal.returns-in-Ok
returns-in-Ok c =
    let within : c.in-Ok.place < length c.args.list.now.items =
    subst (λ (xs : List ℕ). c.in-Ok.place < length xs) c.deref-2.ensures.value c.in-Ok.ensures.bound in
    let here : get_or c.args.list.now.items c.in-Ok.place 0 ≡ c.args.w =
    subst (λ (xs : List ℕ). get_or xs c.in-Ok.place 0 ≡ c.args.w) c.deref-2.ensures.value
    (ranked (get_or c.deref-2.result.now c.in-Ok.place 0) c.args.w Ordering.Equal (sym (c.in-Ok.ensures.ok 0))) in
    without_removed c.args.list.now.items c.args.w c.in-Ok.place c.remove.new.self.items c.requires within here c.remove.ensures.items

pub returns-in_default : goal.returns-in_default
returns-in_default c =
    without_absent c.args.list.now.items c.args.w c.in_default.field-0 c.requires
    (place_found c.args.list.now.items c.args.w c.in_default.field-0 c.requires
    (subst (λ (xs : List ℕ). IsBinarySearchResult (λ y. nat_cmp y c.args.w) xs (Err c.in_default.field-0)) c.deref-2.ensures.value c.in_default.ensures.position))
