-- The same of other words for what is answered.
use Rattle.std.proofs.Common.{ℕ, Bool, true, List, [], Option, Some, None, refl, inl, arith}
use Rattle.std.specs.declared.result.Result.{Result}
use Rattle.std.specs.declared.result.Result.TheVariants.{Ok, Err}
use Rattle.edge_io.specs.Outside.{Outside}
use Rattle.line_by_line.specs.Answers.{AnswersFirst, AnswersInPart, AnswersWhole, Texts}
use Rattle.line_by_line.specs.Ends.{HasAnswers, HasTaken, IsScriptEnd}
use Rattle.edge_io.proofs.Moves.{appends_none, consumes_none}
use Rattle.line_by_line.specs.declared.script.ScriptStop.{ScriptStop}
use Rattle.line_by_line.specs.declared.script.ScriptStop.TheVariants.{ReadFault, TooLong, WriteFault, OutOfMemory}

abbrev pub IsToo : Texts → Texts → Type 0
IsToo T U = (script text : List ℕ) (good : Bool) → T script text good → U script text good

whole_too : (T U : Texts) (before now : Option (List ℕ)) (taken : List ℕ) → IsToo T U → AnswersWhole T before now taken → AnswersWhole U before now taken
whole_too T U before now taken to a = record { whole = a.whole; begun = a.begun; parts = a.parts; ended = a.ended; unended = a.unended; text = a.text; good = a.good; run = to a.whole a.text a.good a.run; written = a.written }

first_too : (T U : Texts) (before now : Option (List ℕ)) (taken : List ℕ) → IsToo T U → AnswersFirst T before now taken → AnswersFirst U before now taken
first_too T U before now taken to a = record { whole = a.whole; rest = a.rest; parts = a.parts; ended = a.ended; text = a.text; good = a.good; run = to a.whole a.text a.good a.run; written = a.written }

part_too : (T U : Texts) (before now left : Option (List ℕ)) (taken : List ℕ) → IsToo T U → AnswersInPart T before now left taken → AnswersInPart U before now left taken
part_too T U before now left taken to a = record { whole = a.whole; rest = a.rest; parts = a.parts; ended = a.ended; text = a.text; good = a.good; run = to a.whole a.text a.good a.run; written = a.written }

answers_too : (T U : Texts) (left before now : Option (List ℕ)) (good : Bool) → IsToo T U → HasAnswers T left before now good → HasAnswers U left before now good
answers_too T U None before now good to has = tt
answers_too T U (Some script) before now good to (short, (text, is, written)) = (short, (text, to script text good is, written))

-- what is answered so may be told in the other words
pub end_too : (T U : Texts) (old new : Outside) (r : Result Bool ScriptStop) → IsToo T U → IsScriptEnd T old new r → IsScriptEnd U old new r
end_too T U old new (Ok good) to end = answers_too T U old.left old.held new.held good to end
end_too T U old new (Err ReadFault) to end = (end.0, (end.1.0, end.1.1, end.1.2, whole_too T U old.held new.held end.1.0 to end.1.3))
end_too T U old new (Err TooLong) to end = (end.0, (end.1.0, end.1.1, end.1.2, end.1.3, whole_too T U old.held new.held end.1.0 to end.1.4))
end_too T U old new (Err WriteFault) to end = (end.0, (end.1.0, end.1.1, end.1.2, part_too T U old.held new.held new.left end.1.0 to end.1.3))
end_too T U old new (Err OutOfMemory) to end = (end.0, end.1, end.2, first_too T U old.held new.held end.0 to end.3)

-- nothing was taken, and nothing was written
pub nothing_answered : (T : Texts) (left before : Option (List ℕ)) → T [] [] true → HasTaken left left (AnswersFirst T before before)
nothing_answered T left before is =
    ([], consumes_none left, omega arith, record { whole = []; rest = []; parts = refl; ended = inl refl; text = []; good = true; run = is; written = appends_none before })
