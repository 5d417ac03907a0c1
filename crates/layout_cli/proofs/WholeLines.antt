-- What a session says is whole lines.
use Rattle.std.proofs.Common.{◌≡◌, ◌∙◌, inl, inr, ℕ, Bool, true, false, List, [], ◌∷◌, ◌++◌, codes, decimal, flat_map, map, refl, sym, ap, subst, append_assoc, append-nil}
use Rattle.line_by_line.specs.Answers.{AreWholeLines}
use Rattle.claim_writing.specs.ClaimLines.{by_line, claim_text, conflict_words}
use Rattle.claim_writing.specs.Lines.{problem_text, text_of_lines}
use Rattle.claim_writing.specs.PathTexts.{mark_text, path_lines, path_text, unfit_line, unfit_text}
use Rattle.claim_writing.specs.Words as words
use Rattle.claim_writing.specs.declared.claim.Claim.TheVariants.{IsBest, IsConflict}
use Rattle.view_tree.specs.Views.{LiveView}
use Rattle.scenes.specs.Scene.{Scene, problem_of, values_by_number}
use Rattle.session_undo.specs.Replies.{Reply, Nothing, Done, Frames, Rows, Certificate, Core, Diagnosed, Solvable, Outside, Unknown, Taken, Limit, Kind, Conflict, NoEarlier, Overflow, Spent, NoTarget, Place, Step, Still, Probe, Held, Sweep, SweepOverflow, Swept}
use Rattle.session_undo.specs.State.{State}
use Rattle.frac_core.specs.Fraction.{Fraction}
use Rattle.sweep_run.specs.declared.stretches.SweepQuantity.{SweepQuantity}
use Rattle.sweep_run.specs.declared.stretches.SweepQuantity.TheVariants.{At, Breakpoint}
use Rattle.reply_texts.specs.Cores.{core_lines, id_line}
use Rattle.reply_texts.specs.Found.{attr_name, findings_text, probe_line, way_text}
use Rattle.reply_texts.specs.Frames.{frame_text, value_text}
use Rattle.reply_texts.specs.Swept.{far_line, stretch_text, width_line}
use Rattle.reply_texts.specs.Replies.{held_line, kind_text, limit_text, line_of, name_lines, place_text, still_line, text_of}
use Rattle.scene_host.specs.Laws.{SaysWholeLines}
use Rattle.layout_cli.specs.Machine.{Talking, Talks, TalksAfter}

-- ---- texts that end with the end of a line

abbrev EndsLine : List ℕ → Type 0
EndsLine text = (front : List ℕ) × (text ≡ front ++ 10 ∷ [])

ended : (front : List ℕ) → EndsLine (front ++ 10 ∷ [])
ended front = (front, refl)

before : (a b : List ℕ) → EndsLine b → EndsLine (a ++ b)
before a b (front, is) = (a ++ front, ap (λ (t : List ℕ). a ++ t) is ∙ sym (append_assoc a front (10 ∷ [])))

both : (a b : List ℕ) → AreWholeLines a → AreWholeLines b → AreWholeLines (a ++ b)
both a b whole (inl none) = subst AreWholeLines (sym (ap (λ (t : List ℕ). a ++ t) none ∙ append-nil a)) whole
both a b whole (inr ends) = inr (before a b ends)

each : {A : Type 0} (text : A → List ℕ) → ((x : A) → EndsLine (text x)) → (xs : List A) → AreWholeLines (flat_map text xs)
each text ends [] = inl refl
each text ends (x ∷ xs) = both (text x) (flat_map text xs) (inr (ends x)) (each text ends xs)

line_first : (line rest : List ℕ) → AreWholeLines rest → EndsLine (line ++ (10 ∷ rest))
line_first line rest (inl none) = (line, ap (λ (t : List ℕ). line ++ (10 ∷ t)) none)
line_first line rest (inr ends) = before line (10 ∷ rest) (before (10 ∷ []) rest ends)

all_lines : (lines : List (List ℕ)) → AreWholeLines (text_of_lines lines)
all_lines [] = inl refl
all_lines (line ∷ more) = inr (line_first line (text_of_lines more) (all_lines more))

-- ---- replies

id_ends : (word : List ℕ) (id : ℕ) → EndsLine (id_line word id)
id_ends word id = before word (decimal id ++ 10 ∷ []) (ended (decimal id))

probe_ends : (views : List LiveView) (attr : ℕ) (up : Bool) → EndsLine (probe_line views attr up)
probe_ends views attr up =
    before (codes "probe ") (attr_name views attr ++ (way_text up ++ 10 ∷ [])) (before (attr_name views attr) (way_text up ++ 10 ∷ []) (ended (way_text up)))

width_ends : (width : Fraction) → EndsLine (width_line width)
width_ends width = before (codes "sweep") (value_text width ++ 10 ∷ []) (ended (value_text width))

far_ends : (what : SweepQuantity) → EndsLine (far_line what)
far_ends (At quantity) = ended (unfit_line quantity)
far_ends (Breakpoint mark) = before (codes "unfit breakpoint ") (mark_text mark ++ 10 ∷ []) (ended (mark_text mark))

place_whole : (views : List LiveView) (place : Place) → AreWholeLines (place_text views place)
place_whole views Step = inl refl
place_whole views (Still ids) = each still_line (id_ends (codes "still ")) ids
place_whole views (Probe attr up) = inr (probe_ends views attr up)
place_whole views (Held ids) = each held_line (id_ends (codes "held ")) ids
place_whole views (Sweep width) = inr (width_ends width)

-- the lines that stand in front of `ok`
then_ok : (front : List ℕ) → AreWholeLines (front ++ line_of (codes "ok"))
then_ok front = inr (before front (line_of (codes "ok")) (ended (codes "ok")))

-- a word and something more, on a line
word_line : (word more : List ℕ) → AreWholeLines (word ++ (more ++ 10 ∷ []))
word_line word more = inr (before word (more ++ 10 ∷ []) (ended more))

reply_whole : (scene : Scene) (reply : Reply) → AreWholeLines (text_of scene reply)
reply_whole scene Nothing = inl refl
reply_whole scene Done = inr (ended (codes "ok"))
reply_whole scene Frames = then_ok (flat_map (frame_text scene.values) scene.tree.views)
reply_whole scene Rows =
    let problem : List ℕ = problem_text (problem_of scene) in
    inr (before (flat_map name_lines scene.tree.views) (problem ++ line_of (codes "ok")) (before problem (line_of (codes "ok")) (ended (codes "ok"))))
reply_whole scene (Certificate levels) =
    let problem : List ℕ = problem_text (problem_of scene) in
    let claim : List ℕ = claim_text (IsBest (values_by_number scene) levels) in
    inr (before (flat_map name_lines scene.tree.views) (problem ++ (claim ++ line_of (codes "ok")))
    (before problem (claim ++ line_of (codes "ok")) (before claim (line_of (codes "ok")) (ended (codes "ok")))))
reply_whole scene (Diagnosed findings) = then_ok (findings_text scene.tree.views findings)
reply_whole scene Solvable = then_ok (line_of (codes "no conflict"))
reply_whole scene (Core ids by values) = then_ok (core_lines ids by values)
reply_whole scene (Swept stretches) = then_ok (flat_map (stretch_text scene.tree.views) stretches)
reply_whole scene (Outside at) = word_line (codes "refused 1 syntax ") (decimal at)
reply_whole scene (Unknown name) = word_line (codes "refused 2 unknown ") name
reply_whole scene (Taken name) = word_line (codes "refused 3 taken ") name
reply_whole scene (Limit word) = word_line (codes "refused 4 limit ") (limit_text word)
reply_whole scene (Kind word) = word_line (codes "refused 5 kind ") (kind_text word)
reply_whole scene (Conflict by) =
    inr (before (codes "refused 6 ") (claim_text (IsConflict by)) (line_first (words.line_of conflict_words) (text_of_lines (map by_line by)) (all_lines (map by_line by))))
reply_whole scene NoEarlier = word_line (codes "refused 9 ") (codes "undo")
reply_whole scene (Overflow place path quantity) =
    let said : List ℕ = place_text scene.tree.views place in
    inr (before (line_of (codes "refused 7 overflow")) (said ++ (path_text path ++ unfit_text quantity))
    (before said (path_text path ++ unfit_text quantity) (before (path_text path) (unfit_text quantity) (ended (unfit_line quantity)))))
reply_whole scene (Spent place path) =
    both (line_of (codes "refused 8 spent")) (place_text scene.tree.views place ++ path_text path) (inr (ended (codes "refused 8 spent")))
    (both (place_text scene.tree.views place) (path_text path) (place_whole scene.tree.views place) (all_lines (path_lines path)))
reply_whole scene (NoTarget attr up) =
    let probe : List ℕ = probe_line scene.tree.views attr up in
    inr (before (line_of (codes "refused 7 overflow")) (probe ++ line_of (codes "unfit target")) (before probe (line_of (codes "unfit target")) (ended (codes "unfit target"))))
reply_whole scene (SweepOverflow width path what) =
    inr (before (line_of (codes "refused 7 overflow")) (width_line width ++ (path_text path ++ far_line what))
    (before (width_line width) (path_text path ++ far_line what) (before (path_text path) (far_line what) (far_ends what))))

-- ---- what is said to a line

talks_whole : (begun : Bool) (old : State) (line text : List ℕ) (good : Bool) (new : Talking) → TalksAfter begun old line text good new → AreWholeLines text
talks_whole true old line text good new ((reply, step, text_is, good_is), begun) = subst AreWholeLines (sym text_is) (reply_whole new.state.scene reply)
talks_whole false old line text good new (inl (silent, none, fine, same)) = inl none
talks_whole false old line text good new (inr (inl (opens, text_is, fine, first, begun))) = subst AreWholeLines (sym text_is) (inr (ended (codes "ok")))
talks_whole false old line text good new (inr (inr (loud, other, (reply, step, text_is, good_is), begun))) =
    subst AreWholeLines (sym text_is) (reply_whole new.state.scene reply)

pub says_whole : SaysWholeLines Talks
says_whole old new line text good talks = talks_whole old.begun old.state line text good new talks
