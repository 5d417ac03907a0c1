use Rattle.std.proofs.Common.{◌≡◌, ◌∙◌, ℕ, suc, ◌-◌, true, false, length, sym, ap, arith}
use Rattle.held_items.specs.Kept.{is_leaving, item_of, items_of}
use Rattle.held_items.proofs.Marks.{marked-all}
use Rattle.held_items.proofs.Removals.LeavingItems.{left_at, left-all, left-go, left-stay, staying-is}
use Rattle.held_items.proofs.item.leaving.take_leaving_out.Goals as goal

pub loop-place-init : goal.loop-place-init
loop-place-init c =
    let all : c.len-place.result ≡ length c.args.items.now.items = c.len-place.ensures ∙ ap length c.mark.ensures.items in
    record {
      within = omega (arith, all);
      before = marked-all c.args.items.now.before c.mark.new.self.before c.args.items.now.items c.requires c.mark.ensures.before;
      left = c.mark.ensures.items ∙ left-all (is_leaving c.args.leaver.now) c.args.items.now.items c.len-place.result all;
    }

pub loop-place-preserved-in-Continue-1 : goal.loop-place-preserved-in-Continue-1
loop-place-preserved-in-Continue-1 c =
    let next : c.loop-place.place ≡ suc (c.loop-place.place - 1) = omega (arith, c.loop-place-test.true) in
    let is : is_leaving c.args.leaver.now (item_of c.get.result.now) ≡ true = sym c.is_leaving.ensures ∙ c.if-is_leaving.true in
    record {
      within = omega (arith, c.loop-place.invariant.within);
      before = c.in_ok-remove_item.ensures.before ∙ c.loop-place.invariant.before;
      left = c.in_ok-remove_item.ensures.items
          ∙ left-go (is_leaving c.args.leaver.now) c.args.items.now.items c.loop-place.items.items c.loop-place.place (c.loop-place.place - 1) c.get.result.now next c.loop-place.invariant.within c.loop-place.invariant.left c.get.ensures is;
    }

pub loop-place-preserved : goal.loop-place-preserved
loop-place-preserved c =
    let next : c.loop-place.place ≡ suc (c.loop-place.place - 1) = omega (arith, c.loop-place-test.true) in
    let is : is_leaving c.args.leaver.now (item_of c.get.result.now) ≡ false = sym c.is_leaving.ensures ∙ c.if-is_leaving.false in
    record {
      within = omega (arith, c.loop-place.invariant.within);
      before = c.loop-place.invariant.before;
      left = left-stay (is_leaving c.args.leaver.now) c.args.items.now.items c.loop-place.items.items c.loop-place.place (c.loop-place.place - 1) c.get.result.now next c.loop-place.invariant.within c.loop-place.invariant.left c.get.ensures is;
    }

pub returns-clause-items : goal.returns-clause-items
returns-clause-items c =
    let first : c.loop-place.place ≡ 0 = omega (arith, c.loop-place-test.false) in
    ap items_of (c.loop-place.invariant.left ∙ ap (λ (n : ℕ). left_at (is_leaving c.args.leaver.now) n c.args.items.now.items) first)
    ∙ staying-is (is_leaving c.args.leaver.now) c.args.items.now.items
