use Rattle.std.proofs.Common.{rules, ◌≡◌, ◌∙◌, ◌*ℤ◌, ℤ, ℕ, Bool, ap, ap₂, cond, pos, subst, sym, to_z, of_z, FitsSigned, SFits}
use Rattle.std.specs.Int.{w64}
use Rattle.std.proofs.lemmas.Int.{to_z-of_z}
use Rattle.corner_table.specs.Reads.LevelNumbers.{IsCost, share_of}
use Rattle.corner_writings.specs.Walks.{cost_by}
use Rattle.corner_writings.proofs.LevelFacts.LevelReadFacts.{cost_fits, cost_sfits}
use Rattle.corner_writings.proofs.LevelFacts.LowestFronts.{times_nothing}
use Rattle.corner_writings.proofs.levels.cost_by.Goals as goal

pub overflow_mul-result : goal.overflow_mul-result
overflow_mul-result c =
    let fits : SFits w64 c.args.own = search rules in
    let fits-2 : SFits w64 c.share.result = search rules in
    let fits-3 : SFits w64 c.args.unit = search rules in
    let counts = simp to_z-of_z at c.share.ensures in
    let e : c.args.own *ℤ c.share.result ≡ cost_by c.args.slot c.args.side c.args.own c.args.unit =
    ap (λ (z : ℤ). c.args.own *ℤ z) (counts ∙ ap pos (sym (c.costs.ensures (share_of c.args.slot c.args.unit) ∙ ap (λ (b : Bool). cond b (share_of c.args.slot c.args.unit) 0) c.if-costs.true))) in
    subst (λ (z : ℤ). FitsSigned w64 z) (sym (ap₂ ◌*ℤ◌ (to_z-of_z w64 c.args.own fits) (to_z-of_z w64 c.share.result fits-2) ∙ e)) (cost_fits (cost_by c.args.slot c.args.side c.args.own c.args.unit) c.requires.small)

pub returns-then-costs-clause-value : goal.returns-then-costs-clause-value
returns-then-costs-clause-value c =
    let fits : SFits w64 c.args.own = search rules in
    let fits-2 : SFits w64 c.share.result = search rules in
    let fits-3 : SFits w64 c.args.unit = search rules in
    let counts = simp to_z-of_z at c.share.ensures in
    let e : c.args.own *ℤ c.share.result ≡ cost_by c.args.slot c.args.side c.args.own c.args.unit =
    ap (λ (z : ℤ). c.args.own *ℤ z) (counts ∙ ap pos (sym (c.costs.ensures (share_of c.args.slot c.args.unit) ∙ ap (λ (b : Bool). cond b (share_of c.args.slot c.args.unit) 0) c.if-costs.true))) in
    ap (λ (z : ℤ). to_z w64 (of_z w64 z)) (ap₂ ◌*ℤ◌ (to_z-of_z w64 c.args.own fits) (to_z-of_z w64 c.share.result fits-2) ∙ e)
    ∙ to_z-of_z w64 (cost_by c.args.slot c.args.side c.args.own c.args.unit) (cost_sfits (cost_by c.args.slot c.args.side c.args.own c.args.unit) c.requires.small)

pub returns-then-costs-clause-small : goal.returns-then-costs-clause-small
returns-then-costs-clause-small c = subst (λ (z : ℤ). IsCost z) (sym (returns-then-costs-clause-value c)) c.requires.small

pub returns-else-costs-clause-value : goal.returns-else-costs-clause-value
returns-else-costs-clause-value c =
    times_nothing c.args.own
    ∙ ap (λ (n : ℕ). c.args.own *ℤ pos n) (sym (c.costs.ensures (share_of c.args.slot c.args.unit) ∙ ap (λ (b : Bool). cond b (share_of c.args.slot c.args.unit) 0) c.if-costs.false))
