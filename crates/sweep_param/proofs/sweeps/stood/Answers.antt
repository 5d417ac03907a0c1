use Rattle.std.proofs.Common.{◌≡◌, ◌++◌, [], ◌∷◌, rules, sym, subst}
use Rattle.sweep_laws.specs.Stretches.{IsSweep, Piece}
use Rattle.sweep_run.specs.Told.{stretches_of}
use Rattle.sweep_param.proofs.Standing.{alone_put, stood_sweep}
use Rattle.sweep_param.proofs.sweeps.stood.Goals as goal

pub returns : goal.returns
returns g c =
    let r = c.args.range.now in
    let values = c.in_ok-values.values in
    let put : c.push.new.self.items ≡ c.new-out.result.items ++ (c.in_ok-lone_piece.field-0 ∷ []) = search rules in
    let is : stretches_of c.push.new.self.items ≡ Piece r.present r.present values values ∷ [] =
    alone_put c.new-out.result.items c.push.new.self.items c.in_ok-lone_piece.field-0 (Piece r.present r.present values values) c.new-out.ensures.items put c.in_ok-lone_piece.ensures in
    subst (IsSweep c.args.c.now.problem r.row r.from r.to) (sym is)
    (stood_sweep c.args.c.now.problem c.args.c.now.marks r c.show_corner.ensures.kept c.requires.ended.end c.requires.range c.num.ensures.kept values c.in_ok-values.ensures c.num-2.ensures.kept c.num-3.ensures.kept c.requires.up c.requires.down)
