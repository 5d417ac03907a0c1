use Rattle.std.proofs.Common.{◌≡◌, length}
use Rattle.path_lines.specs.Tables.{IsSizedLine}
use Rattle.path_lines.specs.Exchanges.Pivots.{IsNextLine}
use Rattle.path_lines.proofs.Replacing.{AreDoneTo}
use Rattle.path_lines.proofs.exchange.exchanged_lines.Given as goal

abbrev pub invariant-loop-at : goal.invariant-loop-at
invariant-loop-at l = record {
  end : l.at-end ≡ length l.fn.lines.items;
  done : AreDoneTo (IsNextLine l.pivot l.enters) (IsSizedLine (length l.fn.lines.items)) l.fn.lines.items l.at l.out.items;
}
