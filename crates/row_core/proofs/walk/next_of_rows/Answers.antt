use Rattle.std.proofs.Common.{◌≡◌, ◌<◌, ◌^◌, length, get_or, sym, subst, arith, SFits, rules, to_z, of_z}
use Rattle.std.specs.Prelude.{unsigned_abs}
use Rattle.std.specs.Int.{w64}
use Rattle.std.proofs.lemmas.Int.{to_z-of_z}
use Rattle.row_core.proofs.Entries.{left_only_read, right_only_read, left_passed, right_passed, lowest_left, lowest_right}
use Rattle.row_core.specs.Rows.{Term}
use Rattle.row_core.specs.Walks.{IsLowestOf, from_left, from_right}
use Rattle.row_core.proofs.walk.next_of_rows.Goals.{After-lowest_of}
use Rattle.row_core.proofs.walk.next_of_rows.Goals as goal

low : (c : After-lowest_of) → IsLowestOf c.args.at c.index-sum-at-2.result c.index-sum-at-3.result c.lowest_of.result
low c =
    subst (λ (s : Term). IsLowestOf c.args.at s c.index-sum-at-3.result c.lowest_of.result) (sym c.index-sum-at-2.is)
    (subst (λ (t : Term). IsLowestOf c.args.at (get_or c.args.sum.now.r.now c.args.at.left c.index-sum-at-2.result) t c.lowest_of.result) (sym c.index-sum-at-3.is) c.lowest_of.ensures)

pub returns-then-at-sum-clause-left : goal.returns-then-at-sum-clause-left
returns-then-at-sum-clause-left c =
    left_passed c.args.sum.now.r.now c.args.at c.index-sum-at.result c.right_only.result c.requires.rising.left
    (λ within. absurd (omega (arith, within, c.if-at-sum.true))) (subst (λ (t : Term). c.right_only.result ≡ from_right c.args.at t) (sym c.index-sum-at.is) c.right_only.ensures)

pub returns-then-at-sum-clause-right : goal.returns-then-at-sum-clause-right
returns-then-at-sum-clause-right c =
    let fits : SFits w64 c.right_only.result.right = search rules in
    let size : unsigned_abs (to_z w64 (of_z w64 c.right_only.result.right)) < 2 ^ 64 = search rules in
    right_only_read c.args.sum.now.p.now c.args.at c.index-sum-at.result c.right_only.result c.requires.rising.right
    (omega (arith, c.requires.right, c.if-at-sum-2.false)) c.index-sum-at.is (simp to_z-of_z at size) (subst (λ (t : Term). c.right_only.result ≡ from_right c.args.at t) (sym c.index-sum-at.is) c.right_only.ensures)

pub returns-then-at-sum-3-clause-left : goal.returns-then-at-sum-3-clause-left
returns-then-at-sum-3-clause-left c =
    let fits : SFits w64 c.left_only.result.left = search rules in
    let size : unsigned_abs (to_z w64 (of_z w64 c.left_only.result.left)) < 2 ^ 64 = search rules in
    left_only_read c.args.sum.now.r.now c.args.at c.index-sum-at-2.result c.left_only.result c.requires.rising.left
    (omega (arith, c.requires.left, c.if-at-sum.false)) c.index-sum-at-2.is (simp to_z-of_z at size) (subst (λ (t : Term). c.left_only.result ≡ from_left c.args.at t) (sym c.index-sum-at-2.is) c.left_only.ensures)

pub returns-then-at-sum-3-clause-right : goal.returns-then-at-sum-3-clause-right
returns-then-at-sum-3-clause-right c =
    right_passed c.args.sum.now.p.now c.args.at c.index-sum-at-2.result c.left_only.result c.requires.rising.right
    (λ within. absurd (omega (arith, within, c.if-at-sum-3.true))) (subst (λ (t : Term). c.left_only.result ≡ from_left c.args.at t) (sym c.index-sum-at-2.is) c.left_only.ensures)

pub returns-clause-left : goal.returns-clause-left
returns-clause-left c =
    let fits : SFits w64 c.lowest_of.result.left = search rules in
    let size : unsigned_abs (to_z w64 (of_z w64 c.lowest_of.result.left)) < 2 ^ 64 = search rules in
    lowest_left c.args.sum.now.r.now c.args.at c.index-sum-at-2.result c.index-sum-at-3.result c.lowest_of.result c.requires.rising.left
    (omega (arith, c.requires.left, c.if-at-sum.false)) c.index-sum-at-2.is (simp to_z-of_z at size) (low c)

pub returns-clause-right : goal.returns-clause-right
returns-clause-right c =
    let fits : SFits w64 c.lowest_of.result.right = search rules in
    let size : unsigned_abs (to_z w64 (of_z w64 c.lowest_of.result.right)) < 2 ^ 64 = search rules in
    lowest_right c.args.sum.now.p.now c.args.at c.index-sum-at-2.result c.index-sum-at-3.result c.lowest_of.result c.requires.rising.right
    (omega (arith, c.requires.right, c.if-at-sum-3.false)) c.index-sum-at-3.is (simp to_z-of_z at size) (low c)
