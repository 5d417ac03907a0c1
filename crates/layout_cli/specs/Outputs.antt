-- What a run writes for its input.
use Rattle.std.specs.Prelude.{ℕ, Bool, List}
use Rattle.program_words.specs.declared.mode.Mode.{Mode}
use Rattle.program_words.specs.declared.mode.Mode.TheVariants.{Run, Check, Host, Make}
use Rattle.layout_cli.specs.Hosted.{IsHostRunOf}
use Rattle.layout_cli.specs.Machine.{IsRunOf}
use Rattle.claim_check.specs.Checks.{IsCheckOf}
use Rattle.layout_cli.specs.Making.{IsMade}

-- the text is a run of the script, the check of a problem and a claim, a run of the script for many scenes,
-- or what a run of the script that is made comes to; it is good or not
abbrev pub IsOutputOf : Mode → List ℕ → List ℕ → Bool → Type 0
IsOutputOf Run input text good = IsRunOf input text good
IsOutputOf Check input text good = IsCheckOf input text good
IsOutputOf Host input text good = IsHostRunOf input text good
IsOutputOf (Make seed views) input text good = IsMade seed views text good
