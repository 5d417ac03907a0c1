use Rattle.std.proofs.Common.{◌≡◌, All, subst}
use Rattle.corner_table.specs.Kept.{IsStayOwner}
use Rattle.corner_table.specs.declared.table.Slot.{Slot}
use Rattle.corner_table.specs.Tables as tables
use Rattle.corner_table.specs.Tables.{Lists, lists_of}
use Rattle.corner_writings.proofs.LevelFacts.LevelFrontFacts.{none_so}
use Rattle.corner_shifts.proofs.Stays.ListedStays.{IsResting, other_resting}
use Rattle.corner_shifts.proofs.standing.listed.moved_attr.Goals as goal

pub returns-clause-none : goal.returns-clause-none
returns-clause-none c =
    let t : Lists = lists_of c.args.table.now in
    let at : c.slot_at.result ≡ tables.slot_at t c.args.w = c.slot_at.ensures in
    none_so (IsStayOwner c.slot_at.result.owner → ⊥) (All (IsResting t c.args.w) t.stays) c.stay_of.result
    (λ never. other_resting t c.args.w c.requires (subst (λ (s : Slot). IsStayOwner s.owner → ⊥) at never))
    c.stay_of.ensures.none
