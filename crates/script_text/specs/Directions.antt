-- Which attribute a word names, from left to right and from right to left.
use Rattle.std.specs.Prelude.{map}
use Rattle.script_text.specs.declared.words.AttrWord.{AttrWord}
use Rattle.script_text.specs.declared.words.AttrWord.TheVariants as word
use Rattle.script_text.specs.declared.words.Direction.{Direction}
use Rattle.script_text.specs.declared.words.Direction.TheVariants as direction
use Rattle.script_text.specs.Meaning.{Linear, Operand, Term}
use Rattle.script_text.specs.Meaning as mean

-- the edge at which a text begins
abbrev pub leading : Direction → AttrWord
leading direction.Ltr = word.Left
leading direction.Rtl = word.Right

-- the edge at which a text ends
abbrev pub trailing : Direction → AttrWord
trailing direction.Ltr = word.Right
trailing direction.Rtl = word.Left

-- the attribute that a word names in this direction, by a word that names it in both
abbrev pub turned : Direction → AttrWord → AttrWord
turned d word.Left = word.Left
turned d word.Top = word.Top
turned d word.Width = word.Width
turned d word.Height = word.Height
turned d word.Right = word.Right
turned d word.Bottom = word.Bottom
turned d word.CenterX = word.CenterX
turned d word.CenterY = word.CenterY
turned d word.Leading = leading d
turned d word.Trailing = trailing d

-- the operand, with its attribute by such a word
abbrev pub operand_in : Direction → Operand → Operand
operand_in d (mean.Attr view w) = mean.Attr view (turned d w)
operand_in d (mean.Metric name) = mean.Metric name
operand_in d mean.One = mean.One

-- the same of a term
abbrev pub term_in : Direction → Term → Term
term_in d t = record { by = t.by; of = operand_in d t.of }

-- the linear line that this one means in this direction
abbrev pub line_in : Direction → Linear → Linear
line_in d l = record l { left = map (term_in d) l.left; right = map (term_in d) l.right }
