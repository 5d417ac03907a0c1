use Rattle.std.proofs.Common.{rules, subst, sym, ℤ, SFits}
use Rattle.std.specs.Int.{w64}
use Rattle.std.proofs.lemmas.Int.{to_z-of_z}
use Rattle.corner_view.specs.Seen.{CornerView, IsScaleOf}
use Rattle.corner.proofs.corner.CornerTableau.denominator.Goals as goal

pub returns : goal.returns
returns c =
    let fits : SFits w64 c.denominator.result = search rules in
    subst (λ (z : ℤ). IsScaleOf c.args.self.now.problem c.args.self.now.marks c.args.what z) (sym (to_z-of_z w64 c.denominator.result fits))
    (subst (λ (v : CornerView). IsScaleOf v.problem v.marks c.args.what c.denominator.result) c.self.view_is c.denominator.ensures)
