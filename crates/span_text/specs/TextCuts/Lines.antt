-- What an iterator over the lines of a script has left.
use Rattle.std.specs.Prelude.{◌≡◌, ℕ, List, IfSome}
use Rattle.std.specs.Str.Lines.{lines}
use Rattle.std.specs.Iterator.{YieldsFirstBy}
use Rattle.std.specs.declared.option.Option.{Option}
use Rattle.span_text.specs.declared.line.Line.{Line}
use Rattle.span_text.specs.declared.line.Lines.{Lines}
use Rattle.span_text.specs.TextCuts.Slices.{IsSliceAt}

-- the lines that are still to come
abbrev pub lines_left : Lines → List (List ℕ)
lines_left l = lines l.rest.now

-- the first of the lines that were left, which stands in the script where it says
pub record NextLine (old : Lines) (result : Option Line) (new : Lines) : Type 0 where
  pub first : YieldsFirstBy (λ (l : Line). l.bytes.now) lines_left old result new
  pub same_script : new.script.now ≡ old.script.now
  pub stands : IfSome result (λ l. IsSliceAt old.script.now l.start l.bytes.now)
