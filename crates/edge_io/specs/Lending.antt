-- What a feed is once the piece that it gave is no longer borrowed.
use Rattle.std.specs.Prelude.{Option}
use Rattle.std.specs.Borrow.{Fml, MutBor}
use Rattle.std.specs.Io.BufRead.{Rests}
use Rattle.edge_io.specs.Feed.{Pending}
use Rattle.edge_io.specs.Feeding.{NextPiece, EndPiece}
use Rattle.edge_io.specs.declared.feed.Piece.{Piece}
use Rattle.edge_io.specs.contracts.feed.Feed.{the_row}

-- the piece is the next one
abbrev pub GivesNext : MutBor Pending → Option Piece → Fml
GivesNext feed result = Rests the_row feed (NextPiece feed.now result)

-- the piece is the last one
abbrev pub GivesLast : MutBor Pending → Option Piece → Fml
GivesLast feed result = Rests the_row feed (EndPiece feed.now result)
