-- The program's words after its name, and the mode that they ask for.
use Rattle.std.specs.Prelude.{◌≡◌, ℕ, ◌<◌, ◌≤◌, ◌^◌, List, [], ◌∷◌, map, length, codes, string_bytes, String}
use Rattle.std.specs.Prelude.{Some, unwrap_or, ◌==◌, false, ⊤}
use Rattle.std.specs.Str.Parse.{IsNumeral, digits_value}
use Rattle.clap.specs.Words.{App, Rule, Row, Text, all_of, fault_of, first_of, matches_of, new_app}
use Rattle.clap.specs.Words.{new_rule, with_rule}
use Rattle.clap.specs.declared.builder.action.ArgAction.TheVariants.{Append}
use Rattle.span_text.specs.Bytes.{minus}
use Rattle.program_words.specs.declared.mode.Mode.{Mode}
use Rattle.program_words.specs.declared.mode.Mode.TheVariants.{Run, Check, Host, Make}
use Rattle.program_words.specs.declared.numbers.TheConstants.{LEAST_VIEWS, MOST_VIEWS, SEED_DIGITS}
use Rattle.program_words.specs.declared.numbers.TheConstants.{VIEWS_DIGITS}

-- ---- the command

-- the argument MODE
abbrev pub mode_rule : Rule
mode_rule = new_rule (codes "MODE")

-- the argument NUMBER, which may come again
abbrev pub number_rule : Rule
number_rule = record (new_rule (codes "NUMBER")) { action = Some Append }

-- one argument MODE, and NUMBER any number of times
abbrev pub program : App
program = with_rule (with_rule (new_app (codes "layout")) mode_rule) number_rule

-- ---- numbers

-- at most so many digits, and nothing else, that write a number below 2^64
pub record IsWritten (most : ℕ) (word : Text) (n : ℕ) : Type 0 where
  pub few : length word ≤ most
  pub digits : IsNumeral 10 word
  pub value : n ≡ digits_value 10 word
  pub small : n < 2 ^ 64

-- no more digits than a number of views has, which write a number of views of a script
abbrev pub AreViews : Text → ℕ → Type 0
AreViews word n = IsWritten VIEWS_DIGITS word n × (LEAST_VIEWS ≤ n) × (n ≤ MOST_VIEWS)

-- ---- modes

-- MODE and the NUMBERs say the mode
abbrev pub Says : Text → List Text → Mode → Type 0
Says name numbers Run = (name ≡ codes "run") × (numbers ≡ [])
Says name numbers Check = (name ≡ codes "check") × (numbers ≡ [])
Says name numbers Host = (name ≡ codes "host") × (numbers ≡ [])
Says name numbers (Make seed views) = (name ≡ codes "make") × (s v : Text) × (numbers ≡ s ∷ v ∷ [])
    × IsWritten SEED_DIGITS s seed × AreViews v views

-- what is found for MODE and the NUMBERs says the mode
abbrev pub IsFound : List Row → Mode → Type 0
IsFound rows mode = (name : Text) × (first_of (codes "MODE") rows ≡ Some name)
    × Says name (unwrap_or (all_of (codes "NUMBER") rows) []) mode

-- `clap` takes the words behind the program's name, and what it finds there says the mode
abbrev pub AskFor : List Text → Mode → Type 0
AskFor words mode = (fault_of program (codes "layout" ∷ words) ≡ [])
    × IsFound (matches_of program (codes "layout" ∷ words)) mode

-- the same of the bytes of these strings
abbrev pub AreWordsOf : {A : Type 0} → List (String A) → Mode → Type 0
AreWordsOf words mode = AskFor (map string_bytes words) mode

-- no mode has these words
abbrev pub AreOther : {A : Type 0} → List (String A) → Type 0
AreOther words = (mode : Mode) → AreWordsOf words mode → ⊥

-- ---- plain words

-- the word doesn't begin with a hyphen
abbrev pub IsPlain : Text → Type 0
IsPlain [] = ⊤
IsPlain (d ∷ ds) = (d == minus) ≡ false

-- none of the words begins with a hyphen
abbrev pub ArePlain : List Text → Type 0
ArePlain [] = ⊤
ArePlain (word ∷ more) = IsPlain word × ArePlain more
