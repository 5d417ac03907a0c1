-- The answers to a script's lines are a run of the script.
use Rattle.std.proofs.Common.{◌≡◌, ◌∙◌, ◌++◌, ◌&&◌, ℕ, Bool, true, false, List, [], ◌∷◌, refl, sym, ap, subst, inl, inr}
use Rattle.std.specs.Str.Lines.{lines}
use Rattle.script_text.specs.declared.words.Version.TheVariants as version
use Rattle.session_undo.specs.State.{IsFirstOf, IsFirstWith, Limits, State}
use Rattle.line_by_line.specs.Answers.{AreAnswered, Machine, texts_of}
use Rattle.layout_cli.specs.Machine.{Begins, GoesOn, IsRunOf, NewRun, Run, RunOf, Talking, Talks, TalksAfter}

-- what answers lines, by the session that it has and whether a line with a reply came
abbrev pub by_talking : {A : Type 0} → (A → Talking) → Machine A
by_talking at old line text good new = Talks (at old) line text good (at new)

-- no line came, and the session is the first
abbrev pub unbegun : State → Talking
unbegun first = record { state = first; begun = false }

module _ {A : Type 0} (at : A → Talking) where
  -- behind a line with a reply each line gets a step
  goes_on : (old mid : A) (line told : List ℕ) (good : Bool) → (at old).begun ≡ true → Talks (at old) line told good (at mid) → GoesOn (at old).state line told good (at mid)
  goes_on old mid line told good begun talks = subst (λ (b : Bool). TalksAfter b (at old).state line told good (at mid)) begun talks

  begun_run : (lines : List (List ℕ)) (old last : A) (text : List ℕ) (good : Bool) → (at old).begun ≡ true → AreAnswered (by_talking at) old lines text good last → Run (at old).state lines text good (at last).state
  begun_run [] old last text good begun (none, all, same) = (none, all, ap (λ (a : A). (at a).state) same)
  begun_run (line ∷ more) old last text good begun (told, is_good, rest, rest_good, mid, talks, text_is, all, run) =
      let step = goes_on old mid line told is_good begun talks in (
        step.0.0,
        (at mid).state,
        rest,
        rest_good,
        step.0.1,
        text_is ∙ ap (λ (t : List ℕ). t ++ rest) step.0.2,
        all ∙ ap (λ (b : Bool). b && rest_good) step.0.3,
        begun_run more mid last rest rest_good step.1 run,
      )

  -- to the first session a line begins
  begins : (first : State) (old mid : A) (line told : List ℕ) (good : Bool) → at old ≡ unbegun first → Talks (at old) line told good (at mid) → Begins first line told good (at mid)
  begins first old mid line told good is talks = subst (λ (t : Talking). Talks t line told good (at mid)) is talks

  talks_run : (first : State) → IsFirstOf version.One first → (lines : List (List ℕ)) (old last : A) (text : List ℕ) (good : Bool) → at old ≡ unbegun first → AreAnswered (by_talking at) old lines text good last → RunOf lines text good
  talks_run first new [] old last text good is (none, all, same) = (none, all)
  talks_run first new (line ∷ more) old last text good is (told, is_good, rest, rest_good, mid, talks, text_is, all, run) =
      begun_by (λ same. talks_run first new more mid last rest rest_good same run) (begins first old mid line told is_good is talks)
    where
      -- the reply to the line is good, so what is good of all is what is good of the rest
      rest_decides : is_good ≡ true → good ≡ rest_good
      rest_decides so = all ∙ ap (λ (b : Bool). b && rest_good) so

      begun_by : (at mid ≡ unbegun first → RunOf more rest rest_good) → Begins first line told is_good (at mid) → RunOf (line ∷ more) text good
      begun_by after (inl (silent, no_text, so, same)) =
          let whole : text ≡ rest = text_is ∙ ap (λ (t : List ℕ). t ++ rest) no_text in
          inl (silent, subst (λ (t : List ℕ). RunOf more t good) (sym whole) (subst (λ (b : Bool). RunOf more rest b) (sym (rest_decides so)) (after same)))
      begun_by after (inr (inl (opening, told_is, so, first_two, begun))) =
          inr (inl (
            opening,
            (
              rest,
              text_is ∙ ap (λ (t : List ℕ). t ++ rest) told_is,
              subst (λ (b : Bool). NewRun version.Two more rest b) (sym (rest_decides so))
                  ((at mid).state, (at last).state, subst (λ (l : Limits). IsFirstWith l version.Two (at mid).state) (ap (λ (s : State). s.limits) new.1) first_two, begun_run more mid last rest rest_good begun run),
            ),
          ))
      begun_by after (inr (inr (not_silent, not_opening, (reply, step, told_is, good_is), begun))) =
          inr (inr (
            not_silent,
            not_opening,
            (
              first,
              (at last).state,
              new,
              (reply, (at mid).state, rest, rest_good, step, text_is ∙ ap (λ (t : List ℕ). t ++ rest) told_is, all ∙ ap (λ (b : Bool). b && rest_good) good_is, begun_run more mid last rest rest_good begun run),
            ),
          ))

-- the texts of a script's lines are its runs, from where no line came
pub is_run : {A : Type 0} (at : A → Talking) (first : A) → IsFirstOf version.One (at first).state → (at first).begun ≡ false → (script text : List ℕ) (good : Bool) → texts_of (by_talking at) first script text good → IsRunOf script text good
is_run at first new none script text good (last, answered) =
    talks_run at (at first).state new (lines script) first last text good (ap (λ (b : Bool). (let t : Talking = record { state = (at first).state; begun = b } in t)) none) answered

-- no line, no text
pub no_run : IsRunOf [] [] true
no_run = (refl, refl)
