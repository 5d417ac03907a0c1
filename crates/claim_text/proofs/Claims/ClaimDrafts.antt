-- Which lines may follow.
use Rattle.std.proofs.Common.{◌≡◌, ℕ, List, Bool, false, IsTrue, ◌↔◌}
use Rattle.std.proofs.lemmas.Bool.{false≢true}
use Rattle.claim_text.specs.declared.claim.lines.ClaimLine.{ClaimLine}
use Rattle.claim_text.specs.Claims.ClaimTexts.{Says, MayFollow, Draft, Step}
use Rattle.claim_text.proofs.Claims.SameClaims.{one_line}

pub may_not : (old : Draft) (line : List ℕ) (item : ClaimLine) (b : Bool) → Says line item → IsTrue b ↔ MayFollow old item → b ≡ false → (new : Draft) → Step old line new → ⊥
may_not old line item b says means no_way new step =
    let same : step.item ≡ item = one_line line step.item item step.says says in
    let may : MayFollow old item = rw same at step.may in
    false≢true (rw no_way at (means.1 may))
