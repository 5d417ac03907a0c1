use Rattle.std.proofs.Common.{◌≡◌, ◌∷◌, List, codes, map, string_bytes, rules}
use Rattle.clap.specs.Words.{Text, app_of}
use Rattle.program_words.proofs.Asked.{asked, unasked, refused}
use Rattle.program_words.proofs.command.mode_of.Goals as goal

pub returns-in-Ok-clause-some : goal.returns-in-Ok-clause-some
returns-in-Ok-clause-some c =
    let all : List Text = map string_bytes c.args.words.now in
    let words : List Text = map (λ s. s.now) c.deref.result.now in
    let words_are : words ≡ codes "layout" ∷ all = search rules in
    asked (app_of c.in_ok-command.command) words all c.in-Ok.matches c.mode_found.result c.in_ok-command.ensures words_are c.in-Ok.ensures.matches c.in-Ok.ensures.kinds c.mode_found.ensures.some

pub returns-in-Ok-clause-none : goal.returns-in-Ok-clause-none
returns-in-Ok-clause-none c =
    let all : List Text = map string_bytes c.args.words.now in
    let words : List Text = map (λ s. s.now) c.deref.result.now in
    let words_are : words ≡ codes "layout" ∷ all = search rules in
    unasked (app_of c.in_ok-command.command) words all c.in-Ok.matches c.mode_found.result c.in_ok-command.ensures words_are c.in-Ok.ensures.matches c.mode_found.ensures.none

pub returns : goal.returns
returns c =
    let all : List Text = map string_bytes c.args.words.now in
    let words : List Text = map (λ s. s.now) c.deref.result.now in
    let words_are : words ≡ codes "layout" ∷ all = search rules in
    record {
      some = tt;
      none = refused (app_of c.in_ok-command.command) words all c.in-Err.error c.in_ok-command.ensures words_are c.in-Err.ensures.kinds (λ memory. c.in_default.not-OutOfMemory (rw c.kind.ensures memory));
    }
