use Rattle.std.proofs.Common.{◌≡◌, ◌∙◌, ◌≤◌, ℕ, ℤ, ◌+ℤ◌, ◌*ℤ◌, ap₂, SFits, rules}
use Rattle.std.specs.Int.{w64, w128}
use Rattle.std.proofs.lemmas.Int.{to_z-of_z}
use Rattle.row_core.specs.Walks.{AreRead, whole, whole_of}
use Rattle.row_core.proofs.Walks.{floor_below}
use Rattle.row_core.proofs.walk.read_narrow.Goals as goal

pub returns-clause-read : goal.returns-clause-read
returns-clause-read c =
    let is = c.in_ok-read.ensures.read in
    let x = c.in_ok-read.read in
    let left : SFits w64 c.in_ok-read.read.left = search rules in
    let right : SFits w64 c.in_ok-read.read.right = search rules in
    let sum : SFits w64 c.narrow_total.result = record { sfits = c.narrow_total.type_inv } in
    let made : c.narrow_total.result ≡ whole_of c.args.sum.now x.col (c.args.sum.now.k *ℤ x.left +ℤ c.args.sum.now.n *ℤ x.right) = simp to_z-of_z at c.narrow_total.ensures.value in
    let value : (floor : ℕ) → AreRead c.args.sum.now c.args.at floor → c.narrow_total.result ≡ whole c.args.sum.now x.col =
    λ floor are.
    let le : floor ≤ x.col = floor_below c.args.sum.now c.args.at floor x.col are is.first in
    made ∙ ap₂ (λ (a b : ℤ). whole_of c.args.sum.now x.col (c.args.sum.now.k *ℤ a +ℤ c.args.sum.now.n *ℤ b)) (is.left.value floor are.left le) (is.right.value floor are.right le) in
    let out : SFits w128 c.from.result = record { sfits = c.from.type_inv } in
    let same : c.from.result ≡ c.narrow_total.result = simp to_z-of_z at c.from.ensures in
    record { value = simp to_z-of_z (λ floor are. same ∙ value floor are); first = is.first; read = is.read; further = is.further }
