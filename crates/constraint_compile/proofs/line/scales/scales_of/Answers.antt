use Rattle.std.proofs.Common.{◌≡◌, ℕ, ◌+◌, ◌++◌, ◌∷◌, [], pos, sym, subst}
use Rattle.compile_parts.specs.Addends.{addend_view, addends_view, first_of, with_addend}
use Rattle.compile_parts.specs.declared.addends.Addend.{Addend}
use Rattle.compile_parts.specs.Shares.{IsOff}
use Rattle.constraint_compile.specs.Coefficients.Sums.{AreKept, IsSum}
use Rattle.constraint_compile.proofs.Sums.Beginnings.{AreSame, sum_same, small_same, same_addend, scales_more}
use Rattle.constraint_compile.proofs.line.scales.scales_of.Goals as goal

pub returns-in_default-clause-past : goal.returns-in_default-clause-past
returns-in_default-clause-past c = λ all.
    let off : (v : ℕ) → IsOff c.args.attrs.now v → ((addend_view c.addend-item.result).share v).num ≡ pos 0 = λ v is.
    subst (λ (a : Addend). ((addend_view a).share v).num ≡ pos 0) (sym c.addend-item.is) (c.requires.off v is c.loop-addend.addend-index c.addend-item.result c.loop-addend-test.true) in
    let same : AreSame (with_addend (first_of (addends_view c.args.added.now) c.loop-addend.addend-index) (addend_view c.addend-item.result)) (first_of (addends_view c.args.added.now) (c.loop-addend.addend-index + 1)) =
    same_addend c.args.added.now c.loop-addend.addend-index c.addend-item.result c.loop-addend-test.true c.addend-item.is in
    let past = rw c.in_default.is at c.in_ok-next.ensures.past in
    past (first_of (addends_view c.args.added.now) c.loop-addend.addend-index) c.loop-addend.invariant.sum off
    (small_same (first_of (addends_view c.args.added.now) (c.loop-addend.addend-index + 1)) (with_addend (first_of (addends_view c.args.added.now) c.loop-addend.addend-index) (addend_view c.addend-item.result))
    (λ v. sym (same v)) (all c.loop-addend.addend-index c.loop-addend-test.true))

pub loop-addend-preserved : goal.loop-addend-preserved
loop-addend-preserved c =
    let off : (v : ℕ) → IsOff c.args.attrs.now v → ((addend_view c.addend-item.result).share v).num ≡ pos 0 = λ v is.
    subst (λ (a : Addend). ((addend_view a).share v).num ≡ pos 0) (sym c.addend-item.is) (c.requires.off v is c.loop-addend.addend-index c.addend-item.result c.loop-addend-test.true) in
    let same : AreSame (with_addend (first_of (addends_view c.args.added.now) c.loop-addend.addend-index) (addend_view c.addend-item.result)) (first_of (addends_view c.args.added.now) (c.loop-addend.addend-index + 1)) =
    same_addend c.args.added.now c.loop-addend.addend-index c.addend-item.result c.loop-addend-test.true c.addend-item.is in
    let next = rw c.in-Some.is at c.in_ok-next.ensures.sum in
    let kept : AreKept c.args.attrs.now c.in-Some.next.scale c.in-Some.next.numbers.items = rw c.in-Some.is at c.in_ok-next.ensures.kept in
    let sum : IsSum (first_of (addends_view c.args.added.now) (c.loop-addend.addend-index + 1)) c.args.attrs.now c.in-Some.next.scale c.in-Some.next.numbers.items =
    sum_same (with_addend (first_of (addends_view c.args.added.now) c.loop-addend.addend-index) (addend_view c.addend-item.result)) (first_of (addends_view c.args.added.now) (c.loop-addend.addend-index + 1)) c.args.attrs.now c.in-Some.next.scale c.in-Some.next.numbers.items same
    (next (first_of (addends_view c.args.added.now) c.loop-addend.addend-index) c.loop-addend.invariant.sum off) in
    let items : c.push.new.self.items ≡ c.loop-addend.scales.items ++ c.in-Some.next.scale ∷ [] = c.in_ok-push.ensures.items in
    rw items (record {
      kept = kept;
      sum = sum;
      scales = scales_more (addends_view c.args.added.now) c.args.attrs.now c.loop-addend.addend-index c.loop-addend.scales.items c.in-Some.next.scale c.in-Some.next.numbers.items c.loop-addend.invariant.scales sum kept;
    })
