-- The clauses of a path together.
use Rattle.std.proofs.Common.{Bool, true, false, ℕ, List, [], ◌∷◌, Option, None, Some}
use Rattle.problem_core.specs.declared.parts.Mark.{Mark}
use Rattle.problem_core.specs.Layout.{Problem}
use Rattle.problem_core.specs.Changes.Begins.{AreExchanges}
use Rattle.problem_core.specs.Corners.{Swap, exchanged}
use Rattle.problem_core.specs.Changes.Paths.{ArePathSwaps}
use Rattle.path_claims.specs.PathClauses.{AreCalledFor, AreShownSwaps, AreSound, AreSoundBefore, PathIsItsClauses, YesIsPath, row_of_terms}

lawful : (dual : Bool) (p : Problem) (at : List Mark) (swaps : List Swap) → AreExchanges p at swaps → AreSound dual p at swaps → AreCalledFor dual p at swaps → ArePathSwaps dual p at swaps
lawful dual p at [] exchanges sound called = sound
lawful dual p at (s ∷ swaps) exchanges sound called = (sound.0, called.0, exchanges.0, called.1, lawful dual p (exchanged s at) swaps exchanges.1 sound.1 called.2)

shown : (dual : Bool) (p : Problem) (at : List Mark) (swaps : List Swap) (row : Option ℕ) → AreExchanges p at swaps → AreSoundBefore dual p at swaps row → AreCalledFor dual p at swaps → AreShownSwaps dual p at swaps row
shown true p at swaps row exchanges sound called = lawful true p at swaps exchanges sound called
shown false p at [] None exchanges sound called = sound
shown false p at [] (Some id) exchanges sound called = sound
shown false p at (s ∷ swaps) row exchanges sound called = lawful false p at (s ∷ swaps) exchanges sound called

exchanges_of : (dual : Bool) (p : Problem) (at : List Mark) (swaps : List Swap) → ArePathSwaps dual p at swaps → AreExchanges p at swaps
exchanges_of dual p at [] h = tt
exchanges_of dual p at (s ∷ swaps) h = (h.2, exchanges_of dual p (exchanged s at) swaps h.4)

sound_of : (dual : Bool) (p : Problem) (at : List Mark) (swaps : List Swap) → ArePathSwaps dual p at swaps → AreSound dual p at swaps
sound_of dual p at [] h = h
sound_of dual p at (s ∷ swaps) h = (h.0, sound_of dual p (exchanged s at) swaps h.4)

called_of : (dual : Bool) (p : Problem) (at : List Mark) (swaps : List Swap) → ArePathSwaps dual p at swaps → AreCalledFor dual p at swaps
called_of dual p at [] h = tt
called_of dual p at (s ∷ swaps) h = (h.1, h.3, called_of dual p (exchanged s at) swaps h.4)

clauses : (dual : Bool) (p : Problem) (at : List Mark) (swaps : List Swap) (row : Option ℕ) → AreShownSwaps dual p at swaps row → AreExchanges p at swaps × AreSoundBefore dual p at swaps row × AreCalledFor dual p at swaps
clauses true p at swaps row h = (exchanges_of true p at swaps h, sound_of true p at swaps h, called_of true p at swaps h)
clauses false p at [] None h = (tt, h, tt)
clauses false p at [] (Some id) h = (tt, h, tt)
clauses false p at (s ∷ swaps) row h = (exchanges_of false p at (s ∷ swaps) h, sound_of false p at (s ∷ swaps) h, called_of false p at (s ∷ swaps) h)

-- a path without a quantity
pub path_is_its_clauses : PathIsItsClauses
path_is_its_clauses dual p at swaps = (
  λ h. record { corner = h.corner; apart = h.apart; lawful = lawful dual p at swaps h.exchanges h.sound h.called_for },
  λ h. record {
    corner = h.corner;
    exchanges = exchanges_of dual p at swaps h.lawful;
    apart = h.apart;
    sound = sound_of dual p at swaps h.lawful;
    called_for = called_of dual p at swaps h.lawful;
  },
)

pub yes_is_path : YesIsPath
yes_is_path p path unfit = (
  λ answer. (
    record {
      corner = answer.0.0.0.0.corner;
      apart = answer.0.0.0.1;
      lawful = shown path.dual p path.corner path.swaps (row_of_terms unfit) answer.0.0.0.0.exchanges answer.0.0.1 answer.0.1;
    },
    answer.1,
  ),
  λ path_is.
      let parts : AreExchanges p path.corner path.swaps × AreSoundBefore path.dual p path.corner path.swaps (row_of_terms unfit) × AreCalledFor path.dual p path.corner path.swaps = clauses path.dual p path.corner path.swaps (row_of_terms unfit) path_is.0.lawful in (
        (((record { corner = path_is.0.corner; exchanges = parts.0 }, path_is.0.apart), parts.1), parts.2),
        path_is.1,
      ),
)
