use Rattle.std.proofs.Common.{◌≡◌, ℕ, ◌<◌, ◌≤◌, length, get_or, arith, refl}
use Rattle.std.specs.List.{insert}
use Rattle.compile_parts.proofs.Insertion.{all_of_insert, rising_insert}
use Rattle.compile_parts.proofs.shares.include.Goals as goal

apart : (x y : ℕ) → x ≤ y → (y ≡ x → ⊥) → x < y
apart x y le ne = omega (arith, le, ne)

pub returns-clause-rising : goal.returns-clause-rising
returns-clause-rising c =
    let is : c.insert.new.self.items ≡ insert c.args.attrs.now.items c.place_of-place.result c.args.attr = c.in_ok-insert.ensures.items in
    let within : c.place_of-place.result ≤ length c.args.attrs.now.items = rw c.deref.ensures.value at c.place_of-place.ensures.within in
    let below : (k d : ℕ) → k < c.place_of-place.result → get_or c.args.attrs.now.items k d < c.args.attr = rw c.deref.ensures.value at c.place_of-place.ensures.below in
    let here : (d : ℕ) → c.place_of-place.result < length c.args.attrs.now.items → c.args.attr ≤ get_or c.args.attrs.now.items c.place_of-place.result d = rw c.deref.ensures.value at c.place_of-place.ensures.here in
    let other : (d : ℕ) → c.place_of-place.result < length c.args.attrs.now.items → get_or c.args.attrs.now.items c.place_of-place.result d ≡ c.args.attr → ⊥ = rw c.deref-2.ensures.value at (c.if-stands_at.ensures.no refl) in
    rw is (rising_insert c.args.attrs.now.items c.place_of-place.result c.args.attr within c.requires.rising below (λ d h. apart _ _ (here d h) (other d h)))

pub returns-clause-off : goal.returns-clause-off
returns-clause-off c =
    let is : c.insert.new.self.items ≡ insert c.args.attrs.now.items c.place_of-place.result c.args.attr = c.in_ok-insert.ensures.items in
    let within : c.place_of-place.result ≤ length c.args.attrs.now.items = rw c.deref.ensures.value at c.place_of-place.ensures.within in
    λ v off. all_of_insert (λ a. a ≡ v → ⊥) c.args.attrs.now.items c.place_of-place.result c.args.attr within (rw is at off)
