use Rattle.std.proofs.Common.{inr, rules, subst}
use Rattle.program_words.specs.Words.{AreWordsOf}
use Rattle.program_words.specs.declared.mode.Mode.{Mode}
use Rattle.program_words.specs.declared.mode.Mode.TheVariants.{Make}
use Rattle.edge_io.specs.Outside.{Outside}
use Rattle.layout_cli.specs.Ends.{IsEndOf}
use Rattle.layout_cli.specs.declared.program.Status.TheVariants as status
use Rattle.layout_cli.proofs.Stops.{ended_as, none_rose}
use Rattle.layout_cli.proofs.program.run.Goals as goal

pub returns-in-Run-clause-other_words : goal.returns-in-Run-clause-other_words
returns-in-Run-clause-other_words g c =
    let words : AreWordsOf c.args.words.now c.in-Ok-Some.mode = search rules in
    λ other. absurd (other c.in-Ok-Some.mode words)

pub returns-in-Check-clause-other_words : goal.returns-in-Check-clause-other_words
returns-in-Check-clause-other_words g c =
    let words : AreWordsOf c.args.words.now c.in-Ok-Some.mode = search rules in
    λ other. absurd (other c.in-Ok-Some.mode words)

pub returns-in-Host-clause-other_words : goal.returns-in-Host-clause-other_words
returns-in-Host-clause-other_words g c =
    let words : AreWordsOf c.args.words.now c.in-Ok-Some.mode = search rules in
    λ other. absurd (other c.in-Ok-Some.mode words)

pub returns-in-Make-clause-done : goal.returns-in-Make-clause-done
returns-in-Make-clause-done g c =
    let was : AreWordsOf c.args.words.now c.in-Ok-Some.mode = search rules in
    let made : Mode = Make c.in-Make.seed c.in-Make.views in
    let words : AreWordsOf c.args.words.now made = subst (λ (m : Mode). AreWordsOf c.args.words.now m) c.in-Make.is was in
    let old : Outside = record { left = g.S.Source.left c.args.source.now; held = g.K.Sink.held c.args.sink.now; reads_failed = g.S.Source.faults c.args.source.now; writes_failed = g.K.Sink.faults c.args.sink.now } in
    let new : Outside = record { left = g.S.Source.left c.args.source.now; held = g.K.Sink.held c.run_made.new.sink; reads_failed = g.S.Source.faults c.args.source.now; writes_failed = g.K.Sink.faults c.run_made.new.sink } in
    let end : IsEndOf made old new c.run_made.result = c.run_made.ensures.ends (g.S.Source.left c.args.source.now) (g.S.Source.faults c.args.source.now) in
    λ is. (made, words, ended_as made old new _ status.Done is end)

pub returns-in-Make-clause-refused : goal.returns-in-Make-clause-refused
returns-in-Make-clause-refused g c =
    let was : AreWordsOf c.args.words.now c.in-Ok-Some.mode = search rules in
    let made : Mode = Make c.in-Make.seed c.in-Make.views in
    let words : AreWordsOf c.args.words.now made = subst (λ (m : Mode). AreWordsOf c.args.words.now m) c.in-Make.is was in
    let old : Outside = record { left = g.S.Source.left c.args.source.now; held = g.K.Sink.held c.args.sink.now; reads_failed = g.S.Source.faults c.args.source.now; writes_failed = g.K.Sink.faults c.args.sink.now } in
    let new : Outside = record { left = g.S.Source.left c.args.source.now; held = g.K.Sink.held c.run_made.new.sink; reads_failed = g.S.Source.faults c.args.source.now; writes_failed = g.K.Sink.faults c.run_made.new.sink } in
    let end : IsEndOf made old new c.run_made.result = c.run_made.ensures.ends (g.S.Source.left c.args.source.now) (g.S.Source.faults c.args.source.now) in
    λ is. (made, words, ended_as made old new _ status.Refused is end)

pub returns-in-Make-clause-usage : goal.returns-in-Make-clause-usage
returns-in-Make-clause-usage g c =
    let made : Mode = Make c.in-Make.seed c.in-Make.views in
    let old : Outside = record { left = g.S.Source.left c.args.source.now; held = g.K.Sink.held c.args.sink.now; reads_failed = g.S.Source.faults c.args.source.now; writes_failed = g.K.Sink.faults c.args.sink.now } in
    let new : Outside = record { left = g.S.Source.left c.args.source.now; held = g.K.Sink.held c.run_made.new.sink; reads_failed = g.S.Source.faults c.args.source.now; writes_failed = g.K.Sink.faults c.run_made.new.sink } in
    let end : IsEndOf made old new c.run_made.result = c.run_made.ensures.ends (g.S.Source.left c.args.source.now) (g.S.Source.faults c.args.source.now) in
    λ is. absurd (ended_as made old new _ status.Usage is end)

pub returns-in-Make-clause-words : goal.returns-in-Make-clause-words
returns-in-Make-clause-words g c =
    let made : Mode = Make c.in-Make.seed c.in-Make.views in
    let old : Outside = record { left = g.S.Source.left c.args.source.now; held = g.K.Sink.held c.args.sink.now; reads_failed = g.S.Source.faults c.args.source.now; writes_failed = g.K.Sink.faults c.args.sink.now } in
    let new : Outside = record { left = g.S.Source.left c.args.source.now; held = g.K.Sink.held c.run_made.new.sink; reads_failed = g.S.Source.faults c.args.source.now; writes_failed = g.K.Sink.faults c.run_made.new.sink } in
    let end : IsEndOf made old new c.run_made.result = c.run_made.ensures.ends (g.S.Source.left c.args.source.now) (g.S.Source.faults c.args.source.now) in
    λ is. absurd (ended_as made old new _ status.Usage is end)

pub returns-in-Make-clause-other_words : goal.returns-in-Make-clause-other_words
returns-in-Make-clause-other_words g c =
    let words : AreWordsOf c.args.words.now c.in-Ok-Some.mode = search rules in
    λ other. absurd (other c.in-Ok-Some.mode words)

pub returns-in-Make-clause-read_fault : goal.returns-in-Make-clause-read_fault
returns-in-Make-clause-read_fault g c =
    let made : Mode = Make c.in-Make.seed c.in-Make.views in
    let old : Outside = record { left = g.S.Source.left c.args.source.now; held = g.K.Sink.held c.args.sink.now; reads_failed = g.S.Source.faults c.args.source.now; writes_failed = g.K.Sink.faults c.args.sink.now } in
    let new : Outside = record { left = g.S.Source.left c.args.source.now; held = g.K.Sink.held c.run_made.new.sink; reads_failed = g.S.Source.faults c.args.source.now; writes_failed = g.K.Sink.faults c.run_made.new.sink } in
    let end : IsEndOf made old new c.run_made.result = c.run_made.ensures.ends (g.S.Source.left c.args.source.now) (g.S.Source.faults c.args.source.now) in
    λ is. (ended_as made old new _ status.ReadFault is end).0

pub returns-in-Make-clause-after_read_fault : goal.returns-in-Make-clause-after_read_fault
returns-in-Make-clause-after_read_fault g c =
    let made : Mode = Make c.in-Make.seed c.in-Make.views in
    let old : Outside = record { left = g.S.Source.left c.args.source.now; held = g.K.Sink.held c.args.sink.now; reads_failed = 0; writes_failed = g.K.Sink.faults c.args.sink.now } in
    let new : Outside = record { left = g.S.Source.left c.args.source.now; held = g.K.Sink.held c.run_made.new.sink; reads_failed = 0; writes_failed = g.K.Sink.faults c.run_made.new.sink } in
    let end : IsEndOf made old new c.run_made.result = c.run_made.ensures.ends (g.S.Source.left c.args.source.now) 0 in
    λ is. absurd (none_rose (ended_as made old new _ status.ReadFault is end).0)

pub returns-in-Make-clause-write_fault : goal.returns-in-Make-clause-write_fault
returns-in-Make-clause-write_fault g c =
    let made : Mode = Make c.in-Make.seed c.in-Make.views in
    let old : Outside = record { left = g.S.Source.left c.args.source.now; held = g.K.Sink.held c.args.sink.now; reads_failed = g.S.Source.faults c.args.source.now; writes_failed = g.K.Sink.faults c.args.sink.now } in
    let new : Outside = record { left = g.S.Source.left c.args.source.now; held = g.K.Sink.held c.run_made.new.sink; reads_failed = g.S.Source.faults c.args.source.now; writes_failed = g.K.Sink.faults c.run_made.new.sink } in
    let end : IsEndOf made old new c.run_made.result = c.run_made.ensures.ends (g.S.Source.left c.args.source.now) (g.S.Source.faults c.args.source.now) in
    λ is. (ended_as made old new _ status.WriteFault is end).0

pub returns-in-Make-clause-after_write_fault : goal.returns-in-Make-clause-after_write_fault
returns-in-Make-clause-after_write_fault g c =
    let was : AreWordsOf c.args.words.now c.in-Ok-Some.mode = search rules in
    let made : Mode = Make c.in-Make.seed c.in-Make.views in
    let words : AreWordsOf c.args.words.now made = subst (λ (m : Mode). AreWordsOf c.args.words.now m) c.in-Make.is was in
    let old : Outside = record { left = g.S.Source.left c.args.source.now; held = g.K.Sink.held c.args.sink.now; reads_failed = g.S.Source.faults c.args.source.now; writes_failed = g.K.Sink.faults c.args.sink.now } in
    let new : Outside = record { left = g.S.Source.left c.args.source.now; held = g.K.Sink.held c.run_made.new.sink; reads_failed = g.S.Source.faults c.args.source.now; writes_failed = g.K.Sink.faults c.run_made.new.sink } in
    let end : IsEndOf made old new c.run_made.result = c.run_made.ensures.ends (g.S.Source.left c.args.source.now) (g.S.Source.faults c.args.source.now) in
    λ is. inr (made, words, (ended_as made old new _ status.WriteFault is end).1)

pub returns-in-Make-clause-too_long : goal.returns-in-Make-clause-too_long
returns-in-Make-clause-too_long g c =
    let was : AreWordsOf c.args.words.now c.in-Ok-Some.mode = search rules in
    let made : Mode = Make c.in-Make.seed c.in-Make.views in
    let words : AreWordsOf c.args.words.now made = subst (λ (m : Mode). AreWordsOf c.args.words.now m) c.in-Make.is was in
    let old : Outside = record { left = g.S.Source.left c.args.source.now; held = g.K.Sink.held c.args.sink.now; reads_failed = g.S.Source.faults c.args.source.now; writes_failed = g.K.Sink.faults c.args.sink.now } in
    let new : Outside = record { left = g.S.Source.left c.args.source.now; held = g.K.Sink.held c.run_made.new.sink; reads_failed = g.S.Source.faults c.args.source.now; writes_failed = g.K.Sink.faults c.run_made.new.sink } in
    let end : IsEndOf made old new c.run_made.result = c.run_made.ensures.ends (g.S.Source.left c.args.source.now) (g.S.Source.faults c.args.source.now) in
    λ is. (made, words, (ended_as made old new _ status.TooLong is end).0)

pub returns-in-Make-clause-after_too_long : goal.returns-in-Make-clause-after_too_long
returns-in-Make-clause-after_too_long g c =
    let was : AreWordsOf c.args.words.now c.in-Ok-Some.mode = search rules in
    let made : Mode = Make c.in-Make.seed c.in-Make.views in
    let words : AreWordsOf c.args.words.now made = subst (λ (m : Mode). AreWordsOf c.args.words.now m) c.in-Make.is was in
    let old : Outside = record { left = g.S.Source.left c.args.source.now; held = g.K.Sink.held c.args.sink.now; reads_failed = g.S.Source.faults c.args.source.now; writes_failed = g.K.Sink.faults c.args.sink.now } in
    let new : Outside = record { left = g.S.Source.left c.args.source.now; held = g.K.Sink.held c.run_made.new.sink; reads_failed = g.S.Source.faults c.args.source.now; writes_failed = g.K.Sink.faults c.run_made.new.sink } in
    let end : IsEndOf made old new c.run_made.result = c.run_made.ensures.ends (g.S.Source.left c.args.source.now) (g.S.Source.faults c.args.source.now) in
    λ is. (made, words, (ended_as made old new _ status.TooLong is end).1)

pub returns-in-Make-clause-out_of_memory : goal.returns-in-Make-clause-out_of_memory
returns-in-Make-clause-out_of_memory g c =
    let was : AreWordsOf c.args.words.now c.in-Ok-Some.mode = search rules in
    let made : Mode = Make c.in-Make.seed c.in-Make.views in
    let words : AreWordsOf c.args.words.now made = subst (λ (m : Mode). AreWordsOf c.args.words.now m) c.in-Make.is was in
    let old : Outside = record { left = g.S.Source.left c.args.source.now; held = g.K.Sink.held c.args.sink.now; reads_failed = g.S.Source.faults c.args.source.now; writes_failed = g.K.Sink.faults c.args.sink.now } in
    let new : Outside = record { left = g.S.Source.left c.args.source.now; held = g.K.Sink.held c.run_made.new.sink; reads_failed = g.S.Source.faults c.args.source.now; writes_failed = g.K.Sink.faults c.run_made.new.sink } in
    let end : IsEndOf made old new c.run_made.result = c.run_made.ensures.ends (g.S.Source.left c.args.source.now) (g.S.Source.faults c.args.source.now) in
    λ is. inr (made, words, ended_as made old new _ status.OutOfMemory is end)
