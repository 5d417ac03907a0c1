-- A run of a script for many sessions, each behind a name.
use Rattle.std.specs.Prelude.{◌≡◌, ℕ, Bool, false, List, [], Option}
use Rattle.script_text.specs.declared.words.Version.TheVariants as version
use Rattle.session_undo.specs.State.{IsFirstWith, Limits}
use Rattle.layout_cli.specs.declared.hosting.TheConstants.{HOSTED_LINES, HOSTED_ROWS, HOSTED_UNDO}
use Rattle.layout_cli.specs.declared.hosting.TheConstants.{HOSTED_VIEWS}
use Rattle.line_by_line.specs.Answers.{IsGivenAs, texts_of}
use Rattle.scene_host.specs.Hosts.{HostAnswers, Named}
use Rattle.layout_cli.specs.Machine.{Talking, Talks}

-- the limits of each session of a host
abbrev pub hosted_limits : Limits
hosted_limits = record {
  views = HOSTED_VIEWS;
  lines = HOSTED_LINES;
  rows = HOSTED_ROWS;
  undo = HOSTED_UNDO;
}

-- a new session with these limits, where no line came
abbrev pub IsNewTalk : Talking → Type 0
IsNewTalk t = IsFirstWith hosted_limits version.One t.state × (t.begun ≡ false)

-- from these sessions a line may get this text, which is good or not, and these are the sessions then
abbrev pub IsHosted : Named Talking → List ℕ → List ℕ → Bool → Named Talking → Type 0
IsHosted old line text good new = HostAnswers Talks IsNewTalk old line text good new

-- the text is a run of the script for many sessions
abbrev pub IsHostRunOf : List ℕ → List ℕ → Bool → Type 0
IsHostRunOf script text good = texts_of IsHosted [] script text good

-- the line that was given so gets this text, and leads to these sessions
abbrev pub IsSaid : Named Talking → Option (List ℕ) → List ℕ → Named Talking → Bool → Type 0
IsSaid old given text new good = (line : List ℕ) → IsGivenAs given line → IsHosted old line text good new
