-- What has been written of the answers to a script, where a run ends early too.
use Rattle.std.specs.Prelude.{◌≡◌, ◌⊎◌, ℕ, ◌<◌, ◌≤◌, Bool, true, ◌&&◌, List, [], ◌∷◌, ◌++◌}
use Rattle.std.specs.Prelude.{length, Option, Some, None, Result, IsErrOf, OnOk}
use Rattle.std.specs.Str.Lines.{lines}
use Rattle.std.specs.Io.KnownBytes.{Appends, IsAtEnd}
use Rattle.span_text.specs.Bytes.{newline}
use Rattle.edge_io.specs.Cause.{Rose}
use Rattle.edge_io.specs.Feed.{IsUnended}
use Rattle.edge_io.specs.Outside.{HasFront}
use Rattle.edge_io.specs.declared.feed.TheConstants.{LINE_LIMIT}
use Rattle.edge_io.specs.declared.traits.Failed.{Failed}
use Rattle.frac_core.specs.declared.memory.Stop.{Stop}
use Rattle.frac_core.specs.declared.memory.Stop.TheVariants.{Refused, OutOfMemory}

-- ---- the answers to lines

-- how lines are answered: from one answerer to the next a line may get this text, which is good or not
abbrev pub Machine : Type 0 → Type 1
Machine A = A → List ℕ → List ℕ → Bool → A → Type 0

-- The text is that of answers to the lines, one after the other; all are good, or not; the last answerer.
abbrev pub AreAnswered : {A : Type 0} → Machine A → A → List (List ℕ) → List ℕ → Bool → A → Type 0
AreAnswered {A = A} Is old [] text good new = (text ≡ []) × (good ≡ true) × (new ≡ old)
AreAnswered {A = A} Is old (line ∷ more) text good new = (told : List ℕ) × (is_good : Bool) × (rest : List ℕ)
    × (rest_good : Bool) × (mid : A) × Is old line told is_good mid × (text ≡ told ++ rest)
    × (good ≡ (is_good && rest_good)) × AreAnswered Is mid more rest rest_good new

-- what the texts of scripts are, and whether all in them is good
abbrev pub Texts : Type 1
Texts = (script text : List ℕ) → Bool → Type 0

-- the text is that of the answers to the script's lines, from this answerer on
abbrev pub texts_of : {A : Type 0} → Machine A → A → Texts
texts_of {A = A} Is first = λ script text good. (last : A)
    × AreAnswered Is first (lines script) text good last

-- ---- what was written

-- there is no byte, or the last one ends a line
abbrev pub AreWholeLines : List ℕ → Type 0
AreWholeLines bytes = (bytes ≡ []) ⊎ ((front : List ℕ) × (bytes ≡ front ++ newline ∷ []))

-- what was written are the answers to the whole lines among these bytes, and no others
pub record AnswersWhole (IsTextOf : Texts) (before now : Option (List ℕ)) (taken : List ℕ) : Type 0 where
  pub whole : List ℕ
  pub begun : List ℕ
  pub parts : taken ≡ whole ++ begun
  pub ended : AreWholeLines whole
  pub unended : IsUnended begun
  pub text : List ℕ
  pub good : Bool
  pub run : IsTextOf whole text good
  pub written : Appends before now text

-- what was written are the answers to some first lines of these bytes
pub record AnswersFirst (IsTextOf : Texts) (before now : Option (List ℕ)) (taken : List ℕ) : Type 0 where
  pub whole : List ℕ
  pub rest : List ℕ
  pub parts : taken ≡ whole ++ rest
  pub ended : AreWholeLines whole
  pub text : List ℕ
  pub good : Bool
  pub run : IsTextOf whole text good
  pub written : Appends before now text

-- What was written is a front of the answers to some first lines of these bytes. The last bytes that a source
-- has are a line without an end.
pub record AnswersInPart (IsTextOf : Texts) (before now left : Option (List ℕ)) (taken : List ℕ)
    : Type 0 where
  pub whole : List ℕ
  pub rest : List ℕ
  pub parts : taken ≡ whole ++ rest
  pub ended : AreWholeLines whole ⊎ ((rest ≡ []) × IsAtEnd left)
  pub text : List ℕ
  pub good : Bool
  pub run : IsTextOf whole text good
  pub written : HasFront before now text

-- ---- one line

-- why a line has no whole answer: the sink failed
abbrev pub sink_failed : Stop Failed
sink_failed = Refused (record {})

-- A sink's count of faults didn't fall, it rose where the sink failed, and is as before where there is an
-- answer. The sink is as before where memory was wanting.
pub record HasStopCause {K T : Type 0} (faults : K → ℕ) (old new : K) (result : Result T (Stop Failed))
    : Type 0 where
  pub later : faults old ≤ faults new
  pub failed : IsErrOf result sink_failed → Rose (faults old) (faults new)
  pub unfailed : OnOk result (faults new ≡ faults old)
  pub unwritten : IsErrOf result OutOfMemory → new ≡ old

-- the line is given so: none stands for one that is too long
abbrev pub IsGivenAs : Option (List ℕ) → List ℕ → Type 0
IsGivenAs (Some bytes) line = line ≡ bytes
IsGivenAs None line = LINE_LIMIT < length line

-- the line that was given so gets an answer, which was written, and leads to the new answerer
abbrev pub IsAnswered : {A : Type 0} → Machine A → A → Option (List ℕ) → A → (before now : Option (List ℕ))
    → Bool → Type 0
IsAnswered Is old given new before now good = (line : List ℕ) → IsGivenAs given line
    → (text : List ℕ) × Is old line text good new × Appends before now text

-- the line that was given so gets an answer, of which a front was written
abbrev pub IsAnsweredInPart : {A : Type 0} → Machine A → A → Option (List ℕ)
    → (before now : Option (List ℕ)) → Type 0
IsAnsweredInPart {A = A} Is old given before now = (line : List ℕ) → IsGivenAs given line
    → (text : List ℕ) × (good : Bool) × (mid : A) × Is old line text good mid × HasFront before now text
