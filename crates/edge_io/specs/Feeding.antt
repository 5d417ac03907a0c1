-- What the calls of a feed do.
use Rattle.std.specs.Prelude.{◌≡◌, ◌⊎◌, ℕ, ◌+◌, ◌<◌, ◌≤◌, true, false, cond, List, [], ◌∷◌, ◌++◌, length}
use Rattle.std.specs.Prelude.{Option, Some, None, IfSome, IfNone}
use Rattle.std.specs.Io.KnownBytes.{Consumes, IsAtEnd}
use Rattle.std.specs.Str.Lines.{strip_carriage_return}
use Rattle.span_text.specs.Bytes.{newline}
use Rattle.edge_io.specs.Feed.{Pending, nothing, cut, IsUnended, IsOpen, given_as, to_come}
use Rattle.edge_io.specs.declared.feed.Piece.{Piece}
use Rattle.edge_io.specs.declared.feed.TheConstants.{LINE_LIMIT}
use Rattle.edge_io.specs.declared.feed.Piece.TheVariants.{Line, Long}

-- a piece's line; none where it is too long
abbrev pub shown : Piece → Option (List ℕ)
shown (Line bytes) = Some bytes.now
shown Long = None

-- so many bytes, at most `most`, left the source and stand behind what was pending; none only at its end
pub record Takes (old new : Pending) (left rest : Option (List ℕ)) (most count : ℕ) : Type 0 where
  pub bytes : List ℕ
  pub counted : length bytes ≡ count
  pub few : count ≤ most
  pub joins : new ≡ record { bytes = old.bytes ++ bytes; is_cut = old.is_cut }
  pub taken : Consumes left rest bytes
  pub at_end : count ≡ 0 → IsAtEnd rest

-- the line that ends first is given, and left what was pending
pub record Gives (old : Pending) (piece : Option (List ℕ)) (new : Pending) : Type 0 where
  pub line : List ℕ
  pub unended : IsUnended line
  pub leaves : old.bytes ≡ line ++ newline ∷ new.bytes
  pub shorter : length new.bytes < length old.bytes
  pub closed : new.is_cut ≡ false
  pub given : piece ≡ cond old.is_cut None (given_as (strip_carriage_return line))
  pub follows : (more : List ℕ) → to_come old more ≡ piece ∷ to_come new more

-- no line ends in what was pending; it is given up where it is the beginning of a line that is too long
pub record Waits (old new : Pending) : Type 0 where
  pub unended : IsUnended old.bytes
  pub long : (old.is_cut ≡ true) ⊎ (LINE_LIMIT + 1 < length old.bytes) → new ≡ cut
  pub short : old.is_cut ≡ false → length old.bytes ≤ LINE_LIMIT + 1 → new ≡ old
  pub ready : IsOpen new
  pub follows : (more : List ℕ) → to_come new more ≡ to_come old more

-- what the next piece is, and what is pending behind it
pub record NextPiece (old : Pending) (result : Option Piece) (new : Pending) : Type 0 where
  pub some : IfSome result (λ piece. Gives old (shown piece) new)
  pub none : IfNone result (Waits old new)

-- What is pending is the last line, if there is one; the feed is as new then.
pub record EndPiece (old : Pending) (result : Option Piece) (new : Pending) : Type 0 where
  pub some : IfSome result (λ piece. ((old.is_cut ≡ true) ⊎ (0 < length old.bytes))
      × (shown piece ≡ cond old.is_cut None (given_as old.bytes)) × (to_come old [] ≡ shown piece ∷ []))
  pub none : IfNone result ((old ≡ nothing) × (to_come old [] ≡ []))
  pub as_new : new ≡ nothing
