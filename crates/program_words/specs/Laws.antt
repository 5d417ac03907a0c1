-- The laws of words.
use Rattle.std.specs.Prelude.{◌≡◌, List, [], ◌∷◌, codes}
use Rattle.clap.specs.Words.{Text}
use Rattle.program_words.specs.Words.{AskFor, IsPlain, ArePlain, Says}
use Rattle.program_words.specs.declared.mode.Mode.{Mode}

-- words ask for one mode at most
abbrev pub ModeIsUnique : Type 0
ModeIsUnique = (words : List Text) (m n : Mode) → AskFor words m → AskFor words n → m ≡ n

-- words of which none begins with a hyphen ask for what they say
abbrev pub SaidIsAskedFor : Type 0
SaidIsAskedFor = (name : Text) (numbers : List Text) (mode : Mode) → IsPlain name → ArePlain numbers
    → Says name numbers mode → AskFor (name ∷ numbers) mode

-- they ask for nothing else
abbrev pub AskedForIsSaid : Type 0
AskedForIsSaid = (name : Text) (numbers : List Text) (mode : Mode) → IsPlain name → ArePlain numbers
    → AskFor (name ∷ numbers) mode → Says name numbers mode

-- no words ask for nothing
abbrev pub NoneAskForNothing : Type 0
NoneAskForNothing = (mode : Mode) → AskFor [] mode → ⊥

-- so does `--help`
abbrev pub HelpAsksForNothing : Type 0
HelpAsksForNothing = (mode : Mode) → AskFor (codes "--help" ∷ []) mode → ⊥
