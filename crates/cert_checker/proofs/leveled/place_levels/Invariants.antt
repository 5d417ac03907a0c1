use Rattle.std.proofs.Common.{take}
use Rattle.cert_checker.specs.PlacedLevels.{ArePlaced}
use Rattle.cert_checker.proofs.leveled.place_levels.Given as goal

abbrev pub invariant-loop-level : goal.invariant-loop-level
invariant-loop-level l = ArePlaced l.fn.p (take l.level-index l.fn.best) l.placed.items
