-- The reply to one line, written or in part.
use Rattle.std.specs.Prelude.{ℕ, Bool, List, Option}
use Rattle.std.specs.Io.KnownBytes.{Appends}
use Rattle.edge_io.specs.Outside.{HasFront}
use Rattle.layout_cli.specs.Machine.{Talking, Talks}

-- the line gets a reply, which was written, and leads to the new session
abbrev pub IsReplied : Talking → List ℕ → Talking → (before now : Option (List ℕ)) → Bool → Type 0
IsReplied old line new before now good = (text : List ℕ) × Talks old line text good new
    × Appends before now text

-- the line gets a reply, of which a front was written
abbrev pub IsRepliedInPart : Talking → List ℕ → (before now : Option (List ℕ)) → Type 0
IsRepliedInPart old line before now = (text : List ℕ) × (good : Bool) × (mid : Talking)
    × Talks old line text good mid × HasFront before now text
