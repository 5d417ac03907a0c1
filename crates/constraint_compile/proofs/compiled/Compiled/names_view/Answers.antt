use Rattle.std.proofs.Common.{◌∙◌}
use Rattle.constraint_compile.proofs.RowConstants.Forms.{any_number}
use Rattle.constraint_compile.proofs.compiled.Compiled.names_view.Goals as goal

pub returns : goal.returns
returns c =
    let is = rw c.deref.ensures.value at c.has_view.ensures in
    rw (← c.self.view_is) (is ∙ any_number c.self.inside.views.items c.args.view.0)
