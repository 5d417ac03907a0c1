use Rattle.std.proofs.Common.{◌≡◌, ◌++◌, map, take}
use Rattle.problem_core.specs.declared.parts.RowName.TheVariants.{Held, Stay as StayOf}
use Rattle.path_lines.proofs.spots.names.Given as goal

abbrev pub invariant-loop-r : goal.invariant-loop-r
invariant-loop-r l = l.names.items ≡ map (λ r. Held r.id) (take l.r-index l.p.rows)

abbrev pub invariant-loop-s : goal.invariant-loop-s
invariant-loop-s l = l.names.items ≡ map (λ r. Held r.id) l.p.rows ++ map (λ s. StayOf s.attr) (take l.s-index l.p.stays)
