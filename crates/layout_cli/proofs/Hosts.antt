-- The answers to a script's lines are a run of the script for many sessions.
use Rattle.std.proofs.Common.{◌≡◌, ◌<◌, ℕ, Bool, true, false, List, [], ◌∷◌, length, codes, refl, ap, subst, inl}
use Rattle.std.specs.Str.Lines.{lines}
use Rattle.line_by_line.specs.Answers.{AreAnswered, Machine, texts_of}
use Rattle.scene_host.specs.Hosts.{Named, limit_line}
use Rattle.layout_cli.specs.Hosted.{IsHostRunOf, IsHosted}
use Rattle.layout_cli.specs.Machine.{Talking}

-- what answers lines, by what it is seen as
abbrev pub by_part : {A S : Type 0} → (A → S) → Machine S → Machine A
by_part at Is old line text good new = Is (at old) line text good (at new)

seen : {A S : Type 0} (at : A → S) (Is : Machine S) (all : List (List ℕ)) (old last : A) (text : List ℕ) (good : Bool) → AreAnswered (by_part at Is) old all text good last → AreAnswered Is (at old) all text good (at last)
seen at Is [] old last text good (none, all_good, same) = (none, all_good, ap at same)
seen at Is (line ∷ more) old last text good (told, is_good, rest, rest_good, mid, is, text_is, good_is, run) =
    (told, is_good, rest, rest_good, at mid, is, text_is, good_is, seen at Is more mid last rest rest_good run)

-- the texts of a script's lines are its runs, from no session on
pub is_host_run : {A : Type 0} (at : A → Named Talking) (first : A) → at first ≡ [] → (script text : List ℕ) (good : Bool) → texts_of (by_part at IsHosted) first script text good → IsHostRunOf script text good
is_host_run at first none script text good (last, answered) =
    (at last, subst (λ (h : Named Talking). AreAnswered IsHosted h (lines script) text good (at last)) none (seen at IsHosted (lines script) first last text good answered))

-- no line, no text
pub no_host_run : IsHostRunOf [] [] true
no_host_run = ([], (refl, refl, refl))

-- a line that is too long is refused, and nothing changes
pub long_hosted : (old : Named Talking) (line : List ℕ) → 4096 < length line → IsHosted old line (limit_line (codes "line")) false old
long_hosted old line long = inl (long, (refl, refl, refl))
