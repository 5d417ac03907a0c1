-- Text written to a sink piece by piece.
use Rattle.std.specs.Prelude.{ℕ, List, [], Option, Some, None, slice_get}
use Rattle.std.specs.Prelude.{Result, OnOk, OnErr}
use Rattle.std.specs.Io.KnownBytes.{Appends}
use Rattle.edge_io.specs.Cause.{HasCause}
use Rattle.edge_io.specs.Outside.{HasFront}
use Rattle.frac_core.specs.Fraction.{Fraction}
use Rattle.view_tree.specs.Views.{LiveView}
use Rattle.scenes.specs.Scene.{Scene}
use Rattle.reply_texts.specs.Frames.{frame_text}

-- the text was written to a sink, or a prefix of it if the sink failed
pub record Puts {K T E : Type 0} (held : K → Option (List ℕ)) (faults : K → ℕ) (old new : K) (text : List ℕ)
    (result : Result T E) : Type 0 where
  pub ok : OnOk result (Appends (held old) (held new) text)
  pub err : OnErr result (HasFront (held old) (held new) text)
  pub cause : HasCause (faults old) (faults new) result

-- the line of the view's frame, or nothing without a view
abbrev pub frame_line_of : List (ℕ × Fraction) → Option LiveView → List ℕ
frame_line_of values None = []
frame_line_of values (Some v) = frame_text values v

-- the line of the frame of the view at this place, if there is one
abbrev pub line_at : Scene → ℕ → List ℕ
line_at scene place = frame_line_of scene.values (slice_get scene.tree.views place)
