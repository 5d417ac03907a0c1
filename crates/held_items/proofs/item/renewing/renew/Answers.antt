use Rattle.std.proofs.Common.{◌≡◌, ◌∙◌, ◌<◌, List, length, take, take_all, get_or, refl, sym, ap, arith, false}
use Rattle.std.specs.List.{list_any}
use Rattle.std.proofs.lemmas.Option.{get_or_from_slice_get}
use Rattle.std.proofs.lemmas.Result.{on_ok_weaker}
use Rattle.held_items.specs.declared.item.Item as declared
use Rattle.held_items.specs.Kept.{is_renewed, items_of, renewed}
use Rattle.held_items.proofs.Marks.{marked-all}
use Rattle.held_items.proofs.Removals.LeavingItems.{any-next}
use Rattle.held_items.proofs.FirstItems.{replaced-at, unreplaced}
use Rattle.held_items.proofs.item.renewing.renew.Goals as goal

pub loop-place-init : goal.loop-place-init
loop-place-init c = record {
  within = omega arith;
  is_end = c.len-place-end.ensures;
  same = c.mark.ensures.items;
  before = marked-all c.args.items.now.before c.mark.new.self.before c.args.items.now.items c.requires c.mark.ensures.before;
  none = refl;
}

pub returns-in-Some-clause-items : goal.returns-in-Some-clause-items
returns-in-Some-clause-items c =
    let within : c.loop-place.place < length c.loop-place.items.items = omega (arith, c.loop-place-test.true, c.loop-place.invariant.is_end) in
    let read : c.get.result.now ≡ get_or c.loop-place.items.items c.loop-place.place c.get.result.now = sym (get_or_from_slice_get c.loop-place.items.items c.loop-place.place c.get.result.now c.get.result.now c.get.ensures) in
    rw (← c.loop-place.invariant.same)
    (on_ok_weaker c.put_item.result
    (λ put. ap items_of put
    ∙ replaced-at (is_renewed c.args.to.now) (renewed c.args.to.now) c.loop-place.items.items c.loop-place.place c.get.result.now c.in-Some.new within read c.loop-place.invariant.none c.in-Some.ensures.own c.in-Some.ensures.some)
    c.put_item.ensures.items)

pub loop-place-preserved : goal.loop-place-preserved
loop-place-preserved c =
    let within : c.loop-place.place < length c.loop-place.items.items = omega (arith, c.loop-place-test.true, c.loop-place.invariant.is_end) in
    let read : c.get.result.now ≡ get_or c.loop-place.items.items c.loop-place.place c.get.result.now = sym (get_or_from_slice_get c.loop-place.items.items c.loop-place.place c.get.result.now c.get.result.now c.get.ensures) in
    record {
      within = omega (arith, c.loop-place-test.true);
      is_end = c.loop-place.invariant.is_end;
      same = c.loop-place.invariant.same;
      before = c.loop-place.invariant.before;
      none = any-next (is_renewed c.args.to.now) c.loop-place.items.items c.loop-place.place c.get.result.now within read c.loop-place.invariant.none ∙ c.in_default.ensures.none;
    }

pub returns-clause-items : goal.returns-clause-items
returns-clause-items c =
    let all : take c.loop-place.place c.loop-place.items.items ≡ c.loop-place.items.items = take_all c.loop-place.place c.loop-place.items.items (omega (arith, c.loop-place-test.false, c.loop-place.invariant.is_end)) in
    let none : list_any (is_renewed c.args.to.now) (items_of c.loop-place.items.items) ≡ false =
    ap (λ (xs : List declared.Item). list_any (is_renewed c.args.to.now) (items_of xs)) (sym all) ∙ c.loop-place.invariant.none
    in
    rw (← c.loop-place.invariant.same) (sym (unreplaced (is_renewed c.args.to.now) (renewed c.args.to.now) (items_of c.loop-place.items.items) none))
