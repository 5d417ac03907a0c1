use Rattle.std.proofs.Common.{rules, subst, sym, ℤ, SFits}
use Rattle.std.specs.Int.{w64}
use Rattle.std.proofs.lemmas.Int.{to_z-of_z}
use Rattle.corner_view.specs.Seen.{CornerView, IsCoefficientOf}
use Rattle.corner.proofs.corner.CornerTableau.coefficient.Goals as goal

pub returns : goal.returns
returns c =
    let fits : SFits w64 c.coefficient.result = search rules in
    subst (λ (z : ℤ). IsCoefficientOf c.args.self.now.problem c.args.self.now.marks c.args.what c.args.mark z) (sym (to_z-of_z w64 c.coefficient.result fits))
    (subst (λ (v : CornerView). IsCoefficientOf v.problem v.marks c.args.what c.args.mark c.coefficient.result) c.self.view_is c.coefficient.ensures)
