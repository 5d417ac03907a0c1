use Rattle.std.proofs.Common.{List, [], map, Some, None}
use Rattle.clap.specs.Words.{Text, found_of, rows_of}
use Rattle.clap.specs.declared.parser.matches.Found.{Found}
use Rattle.program_words.proofs.Asked.{name_of, no_name, numbers_of, said, none_said}
use Rattle.program_words.proofs.command.mode_found.Goals as goal

pub returns-in_err-name-clause-none : goal.returns-in_err-name-clause-none
returns-in_err-name-clause-none c = rw c.from_residual.ensures (no_name (found_of c.args.matches.now) c.in_err-name.ensures)

pub returns-in-Some-clause-some : goal.returns-in-Some-clause-some
returns-in-Some-clause-some c =
    let f : Found = found_of c.args.matches.now in
    let ns : List Text = map (λ s. s.now) c.in-Some.numbers.now in
    said (rows_of f) c.mode_said.result c.in_ok-name.name.now ns (name_of f c.in_ok-name.name.now c.in_ok-name.ensures) (numbers_of f (Some ns) c.in-Some.ensures) c.mode_said.ensures.some

pub returns-in-Some-clause-none : goal.returns-in-Some-clause-none
returns-in-Some-clause-none c =
    let f : Found = found_of c.args.matches.now in
    let ns : List Text = map (λ s. s.now) c.in-Some.numbers.now in
    none_said (rows_of f) c.mode_said.result c.in_ok-name.name.now ns (name_of f c.in_ok-name.name.now c.in_ok-name.ensures) (numbers_of f (Some ns) c.in-Some.ensures) c.mode_said.ensures.none

pub returns-in-None-clause-some : goal.returns-in-None-clause-some
returns-in-None-clause-some c =
    let f : Found = found_of c.args.matches.now in
    said (rows_of f) c.mode_said-in-None.result c.in_ok-name.name.now [] (name_of f c.in_ok-name.name.now c.in_ok-name.ensures) (numbers_of f None c.in-None.ensures) c.mode_said-in-None.ensures.some

pub returns-in-None-clause-none : goal.returns-in-None-clause-none
returns-in-None-clause-none c =
    let f : Found = found_of c.args.matches.now in
    none_said (rows_of f) c.mode_said-in-None.result c.in_ok-name.name.now [] (name_of f c.in_ok-name.name.now c.in_ok-name.ensures) (numbers_of f None c.in-None.ensures) c.mode_said-in-None.ensures.none
