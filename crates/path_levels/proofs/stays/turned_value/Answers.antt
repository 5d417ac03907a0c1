use Rattle.std.proofs.Common.{◌≡◌, ◌∙◌, ap, subst₂, SFits, pos, ℤ, w64, IfOk, OnErr}
use Rattle.std.specs.Int.{w128}
use Rattle.std.proofs.lemmas.Int.{to_z-of_z}
use Rattle.frac_core.specs.Fraction.{IsRatio, IsUnfitRatio}
use Rattle.corner_lines.specs.Levels.StayLevels.{turned as turned_by}
use Rattle.path_levels.proofs.StayLines.TurnedValues.{made_ok, none_unfit}
use Rattle.path_levels.proofs.stays.turned_value.Goals as goal

-- what is said of the parts as they are passed is said of the turned value's
of_says : (c : goal.After-of) → IfOk c.of.result (λ f. IsRatio f (turned_by c.args.side c.args.value.num) (pos c.args.value.den)) × OnErr c.of.result (IsUnfitRatio (turned_by c.args.side c.args.value.num) (pos c.args.value.den))
of_says c =
    let n : SFits w128 c.from.result = record { sfits = c.from.type_inv } in
    let d : SFits w128 c.from-2.result = record { sfits = c.from-2.type_inv } in
    let n64 : SFits w64 c.turned-num.result = record { sfits = c.turned-num.type_inv } in
    let d64 : SFits w64 c.den.result = record { sfits = c.den.type_inv } in
    let m64 : SFits w64 c.num.result = record { sfits = c.num.type_inv } in
    let num : c.from.result ≡ turned_by c.args.side c.args.value.num = (simp to_z-of_z at c.from.ensures) ∙ (simp to_z-of_z at c.turned-num.ensures.value) ∙ ap (turned_by c.args.side) c.num.ensures.value in
    let den : c.from-2.result ≡ pos c.args.value.den = (simp to_z-of_z at c.from-2.ensures) ∙ c.den.ensures.value in
    subst₂ (λ (p q : ℤ). IfOk c.of.result (λ f. IsRatio f p q) × OnErr c.of.result (IsUnfitRatio p q)) num den (simp to_z-of_z at c.of.ensures.value, simp to_z-of_z at c.of.ensures.unfit)

pub returns-clause-value : goal.returns-clause-value
returns-clause-value c = made_ok c.args.side c.args.value c.of.result c.num.ensures.kept c.of.ensures.lowest (of_says c).0

pub returns-clause-ok : goal.returns-clause-ok
returns-clause-ok c = none_unfit c.args.side c.args.value c.of.result c.num.ensures.kept (of_says c).1
