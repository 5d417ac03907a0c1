-- The clauses of a path, and the checker's verdict on one.
use Rattle.std.specs.Prelude.{◌≡◌, ◌⊎◌, ◌↔◌, ℕ, Bool, true, false, List, [], ◌∷◌, Option, None, Some}
use Rattle.problem_core.specs.declared.parts.RowName.{RowName}
use Rattle.problem_core.specs.declared.parts.RowName.TheVariants.{Held, Stay as StayOf}
use Rattle.problem_core.specs.declared.parts.Mark.{Mark}
use Rattle.problem_core.specs.declared.stops.Quantity.{Quantity}
use Rattle.problem_core.specs.declared.stops.Quantity.TheVariants.{Plain, Terms, Rows, Shifts}
use Rattle.problem_core.specs.Layout.{Problem}
use Rattle.problem_core.specs.Changes.Begins.{AreExchanges}
use Rattle.problem_core.specs.Corners.{ArePairwiseDifferent, IsCorner, Swap, corners, exchanged}
use Rattle.problem_core.specs.Changes.Paths.{ArePathSwaps, IsEndOf, IsPath, IsSound, MaySwap, last_marks}
use Rattle.problem_core.specs.Unfit.{IsUnfitAt}
use Rattle.cert_core.specs.Paths.{Path}
use Rattle.cert_core.specs.Stops.{AreNonnegativeBefore}
use Rattle.path_claims.specs.declared.verdict.PathVerdict.{PathVerdict}
use Rattle.path_claims.specs.declared.verdict.PathVerdict.TheVariants.{Yes, No, NoRoom}
use Rattle.path_lines.specs.Room.{HasNoRoom}
use Rattle.path_claims.specs.declared.verdict.TheConstants.{APART_CLAUSE, CALLED_CLAUSE, CORNER_CLAUSE}
use Rattle.path_claims.specs.declared.verdict.TheConstants.{EXCHANGES_CLAUSE, SOUND_CLAUSE, UNFIT_CLAUSE}

-- each corner is sound: on a primal path no value is negative, on a dual one no column
abbrev pub AreSound : Bool → Problem → List Mark → List Swap → Type 0
AreSound dual p at [] = IsSound dual p at
AreSound dual p at (s ∷ swaps) = IsSound dual p at × AreSound dual p (exchanged s at) swaps

-- no corner before the last is an end, and each exchange is of a mark that may enter or leave there
abbrev pub AreCalledFor : Bool → Problem → List Mark → List Swap → Type 0
AreCalledFor dual p at [] = Unit {0}
AreCalledFor dual p at (s ∷ swaps) = (IsEndOf dual p at → ⊥) × MaySwap dual p at s
    × AreCalledFor dual p (exchanged s at) swaps

-- the clauses of a path by itself
pub record AreClauses (dual : Bool) (p : Problem) (at : List Mark) (swaps : List Swap) : Type 0 where
  pub corner : IsCorner p at
  pub exchanges : AreExchanges p at swaps
  pub apart : ArePairwiseDifferent (corners at swaps)
  pub sound : AreSound dual p at swaps
  pub called_for : AreCalledFor dual p at swaps

-- a path is lawful exactly if its clauses hold
abbrev pub PathIsItsClauses : Type 0
PathIsItsClauses = (dual : Bool) (p : Problem) (at : List Mark) (swaps : List Swap)
    → AreClauses dual p at swaps ↔ IsPath dual p at swaps

-- the number of a held row; a stay has none
abbrev pub held_number : RowName → Option ℕ
held_number (Held id) = Some id
held_number (StayOf attr) = None

-- the row of a sum of first terms
abbrev pub row_of_terms : Option Quantity → Option ℕ
row_of_terms None = None
row_of_terms (Some (Plain what)) = None
row_of_terms (Some (Terms mark j)) = held_number mark.row
row_of_terms (Some (Rows level j)) = None
row_of_terms (Some (Shifts what j)) = None

-- if a primal path without a swap is shown with a sum of first terms, the marks of that row and of rows after
-- it are not judged
abbrev pub AreSoundBefore : Bool → Problem → List Mark → List Swap → Option ℕ → Type 0
AreSoundBefore false p at [] (Some id) = AreNonnegativeBefore p at id
AreSoundBefore false p at [] None = AreSound false p at []
AreSoundBefore false p at (s ∷ swaps) row = AreSound false p at (s ∷ swaps)
AreSoundBefore true p at swaps row = AreSound true p at swaps

-- a lawful path, except for the values that are not judged
abbrev pub AreShownSwaps : Bool → Problem → List Mark → List Swap → Option ℕ → Type 0
AreShownSwaps false p at [] (Some id) = AreNonnegativeBefore p at id
AreShownSwaps false p at [] None = ArePathSwaps false p at []
AreShownSwaps false p at (s ∷ swaps) row = ArePathSwaps false p at (s ∷ swaps)
AreShownSwaps true p at swaps row = ArePathSwaps true p at swaps

-- a path that is shown with this quantity, or with none
pub record IsShownPath (p : Problem) (path : Path) (unfit : Option Quantity) : Type 0 where
  pub corner : IsCorner p path.corner
  pub apart : ArePairwiseDifferent (corners path.corner path.swaps)
  pub lawful : AreShownSwaps path.dual p path.corner path.swaps (row_of_terms unfit)

-- the clauses before 11: the first two
pub record HoldToExchanges (p : Problem) (path : Path) : Type 0 where
  pub corner : IsCorner p path.corner
  pub exchanges : AreExchanges p path.corner path.swaps

-- clause 11: no corner of the path comes twice
abbrev pub AreApart : Path → Type 0
AreApart path = ArePairwiseDifferent (corners path.corner path.swaps)

-- clause 12: each corner is sound, except for the values that are not judged with this quantity
abbrev pub IsSoundPath : Problem → Path → Option Quantity → Type 0
IsSoundPath p path unfit = AreSoundBefore path.dual p path.corner path.swaps (row_of_terms unfit)

-- clause 13: no corner before the last is an end, and each exchange is called for
abbrev pub IsCalledFor : Problem → Path → Type 0
IsCalledFor p path = AreCalledFor path.dual p path.corner path.swaps

-- clause 14: the quantity does not fit at the last corner; it holds if the path is shown with none
abbrev pub EndsInUnfit : Problem → Path → Option Quantity → Type 0
EndsInUnfit p path None = Unit {0}
EndsInUnfit p path (Some named) = IsUnfitAt p (last_marks path.corner path.swaps) named

-- the clauses before 12
abbrev pub HoldToApart : Problem → Path → Type 0
HoldToApart p path = HoldToExchanges p path × AreApart path

-- the clauses before 13
abbrev pub HoldToSound : Problem → Path → Option Quantity → Type 0
HoldToSound p path unfit = HoldToApart p path × IsSoundPath p path unfit

-- the clauses before 14
abbrev pub HoldToCalled : Problem → Path → Option Quantity → Type 0
HoldToCalled p path unfit = HoldToSound p path unfit × IsCalledFor p path

-- clause 9: the first marks are a corner; 10: each swap is an exchange; 11: no corner comes twice; 12: each
-- corner is sound; 13: no corner before the last is an end, and each exchange is called for; 14: the quantity
-- does not fit at the last corner. The verdict is the first that fails, unless there is no room
abbrev pub IsPathVerdict : Problem → Path → Option Quantity → PathVerdict → Type 0
IsPathVerdict p path unfit Yes = HoldToCalled p path unfit × EndsInUnfit p path unfit
IsPathVerdict p path unfit (NoRoom n) = HasNoRoom p path unfit n
IsPathVerdict p path unfit (No clause) =
    ((clause ≡ CORNER_CLAUSE) × (IsCorner p path.corner → ⊥))
    ⊎ ((clause ≡ EXCHANGES_CLAUSE) × IsCorner p path.corner × (AreExchanges p path.corner path.swaps → ⊥))
    ⊎ ((clause ≡ APART_CLAUSE) × HoldToExchanges p path × (AreApart path → ⊥))
    ⊎ ((clause ≡ SOUND_CLAUSE) × HoldToApart p path × (IsSoundPath p path unfit → ⊥))
    ⊎ ((clause ≡ CALLED_CLAUSE) × HoldToSound p path unfit × (IsCalledFor p path → ⊥))
    ⊎ ((clause ≡ UNFIT_CLAUSE) × HoldToCalled p path unfit × (EndsInUnfit p path unfit → ⊥))

-- the answer is Yes exactly for a path at whose last corner the quantity does not fit
abbrev pub YesIsPath : Type 0
YesIsPath = (p : Problem) (path : Path) (unfit : Option Quantity)
    → IsPathVerdict p path unfit Yes ↔ (IsShownPath p path unfit × EndsInUnfit p path unfit)
