use Rattle.std.proofs.Common.{inl}
use Rattle.layout_c.proofs.calls.resize.Goals as goal

pub returns : goal.returns
returns c = inl (c.in-Some.width, c.in-Some-frac_of.height, c.in-Some.ensures.some, c.in-Some-frac_of.ensures.some, c.act.ensures)
