use Rattle.std.proofs.Common.{◌≡◌, ◌∙◌, ◌≤◌, ℕ, ℤ, ◌+ℤ◌, ◌*ℤ◌, ap₂, SFits, rules}
use Rattle.std.specs.Int.{w64, w128}
use Rattle.std.proofs.lemmas.Int.{to_z-of_z}
use Rattle.row_core.specs.Walks.{AreRead, whole, whole_of}
use Rattle.row_core.proofs.Walks.{floor_below}
use Rattle.row_core.proofs.walk.read_wide.Goals as goal

pub total-requires-clause-left : goal.total-requires-clause-left
total-requires-clause-left c =
    let left : SFits w64 c.in_ok-read.read.left = search rules in
    simp to_z-of_z (c.in_ok-read.ensures.read.left.small c.args.sum.now.k c.requires.products.left)

pub total-requires-clause-right : goal.total-requires-clause-right
total-requires-clause-right c =
    let right : SFits w64 c.in_ok-read.read.right = search rules in
    simp to_z-of_z (c.in_ok-read.ensures.read.right.small c.args.sum.now.n c.requires.products.right)

pub returns-clause-read : goal.returns-clause-read
returns-clause-read c =
    let is = c.in_ok-read.ensures.read in
    let x = c.in_ok-read.read in
    let left : SFits w64 c.in_ok-read.read.left = search rules in
    let right : SFits w64 c.in_ok-read.read.right = search rules in
    let sum : SFits w128 c.total.result = record { sfits = c.total.type_inv } in
    let made : c.total.result ≡ whole_of c.args.sum.now x.col (c.args.sum.now.k *ℤ x.left +ℤ c.args.sum.now.n *ℤ x.right) = simp to_z-of_z at c.total.ensures.value in
    let value : (floor : ℕ) → AreRead c.args.sum.now c.args.at floor → c.total.result ≡ whole c.args.sum.now x.col =
    λ floor are.
    let le : floor ≤ x.col = floor_below c.args.sum.now c.args.at floor x.col are is.first in
    made ∙ ap₂ (λ (a b : ℤ). whole_of c.args.sum.now x.col (c.args.sum.now.k *ℤ a +ℤ c.args.sum.now.n *ℤ b)) (is.left.value floor are.left le) (is.right.value floor are.right le) in
    record { value = simp to_z-of_z value; first = is.first; read = is.read; further = is.further }
