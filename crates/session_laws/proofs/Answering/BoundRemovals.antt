-- A removal has room where each row bounds one attribute.
use Rattle.std.proofs.Common.{ℕ, Bool, List, [], ◌∷◌, filter}
use Rattle.std.proofs.lemmas.List.Elements.{All-filter}
use Rattle.problem_core.specs.Layout.{Problem, Row}
use Rattle.corner_lines.specs.Removals.{without_row}
use Rattle.corner_lines.proofs.ProblemChanges.Dropped.{other_row}
use Rattle.corner_lines.proofs.ProblemChanges.LeftWholes.{rows_left_whole}
use Rattle.layout_solver.specs.Removals.{without_rows}
use Rattle.scenes.specs.Leaving.{stood_of}
use Rattle.session_undo.specs.State.{State}
use Rattle.session_laws.specs.Answered.Bounds.{AreBounds, IsBound}
use Rattle.session_laws.specs.Answered.Room.{HasRoomToLeave, IsLarge}
use Rattle.session_laws.proofs.Answering.BoundsFit.{bounds-fit}

left-bounds : (test : Row → Bool) (p : Problem) → AreBounds p → AreBounds (record { rows = filter test p.rows; stays = p.stays })
left-bounds test p b = record { whole = rows_left_whole test p b.whole; rows = All-filter test IsBound p.rows b.rows; stays = b.stays }

pub bounds-left : (ids : List ℕ) (p : Problem) → AreBounds p → AreBounds (without_rows ids p)
bounds-left [] p b = b
bounds-left (id ∷ ids) p b = bounds-left ids (without_row id p) (left-bounds (other_row id) p b)

-- the problem before and the one after have such rows, so have those on the way
pub bound-removals : (old : State) (p : Problem) → AreBounds (stood_of old.scene) → AreBounds p → IsLarge old.budget p → HasRoomToLeave old p
bound-removals old p stood after large = (
  record { large = large; fits = bounds-fit p after },
  λ l can rising is gone still order some. bounds-fit (without_rows gone (stood_of old.scene)) (bounds-left gone (stood_of old.scene) stood),
)
