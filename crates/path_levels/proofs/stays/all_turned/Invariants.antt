use Rattle.std.proofs.Common.{◌≡◌, map, take}
use Rattle.corner_lines.specs.Levels.StayLevels.{turned as turned_by}
use Rattle.path_levels.proofs.stays.all_turned.Given as goal

abbrev pub invariant-loop-number : goal.invariant-loop-number
invariant-loop-number l = l.out.items ≡ map (turned_by l.side) (take l.number-index l.numbers)
