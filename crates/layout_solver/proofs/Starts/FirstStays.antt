-- Stays that join one after another.
use Rattle.std.proofs.Common.{◌≡◌, ◌≢◌, ◌∙◌, ℕ, suc, ◌+◌, ◌<◌, ◌++◌, List, [], ◌∷◌, length, take, drop, get_or, sym, ap, subst, arith, AllPairs}
use Rattle.std.specs.List.{AllByRecursion as Each}
use Rattle.std.proofs.lemmas.List.{drop_more}
use Rattle.frac_core.proofs.Lists.{take-drop}
use Rattle.problem_core.specs.declared.parts.Mark.{Mark}
use Rattle.problem_core.specs.declared.parts.Stay.{Stay}
use Rattle.problem_core.specs.Layout.{HasStay, Problem, Row}
use Rattle.problem_core.specs.Kept.{IsWhole}
use Rattle.problem_core.specs.Corners.{IsCorner, NoNegativeValue}
use Rattle.problem_core.proofs.Forms.{each-impl}
use Rattle.corner_laws.proofs.MarkWritings.TermLifts.{pairs-across}
use Rattle.corner_view.specs.Seen.{CornerView, Scene}
use Rattle.corner_view.specs.Changes.{scene_of}
use Rattle.corner_ends.specs.Runs.{HasEnded, IsBestEnd}
use Rattle.layout_solver.specs.Starts.{IsMarkedHere, as_problem}
use Rattle.layout_solver.proofs.Starts.Moved.{each_mapped}
use Rattle.layout_solver.proofs.Starts.MovedProblems.{no_stay}

-- a stay's attribute has none among those before it
pub next_fresh : (stays : List Stay) (i : ℕ) (d : Stay) → AllPairs (λ s t. s.attr ≢ t.attr) stays → i < length stays → HasStay (take i stays) (get_or stays i d).attr → ⊥
next_fresh stays i d apart within =
    let s : Stay = get_or stays i d in
    let parts : take i stays ++ (s ∷ drop (i + 1) stays) ≡ stays = ap (λ (ss : List Stay). take i stays ++ ss) (sym (drop_more stays i d within)) ∙ take-drop stays i in
    no_stay (take i stays) s.attr
    (each_mapped (λ (t : Stay). t.attr) (λ (n : ℕ). n ≢ s.attr) (take i stays)
    (each-impl (λ (t : Stay). Each (λ (u : Stay). t.attr ≢ u.attr) (s ∷ drop (i + 1) stays)) (λ (t : Stay). t.attr ≢ s.attr) (take i stays) (λ t k. k.0)
    (pairs-across (λ (t u : Stay). t.attr ≢ u.attr) (take i stays) (s ∷ drop (i + 1) stays) (subst (AllPairs (λ (t u : Stay). t.attr ≢ u.attr)) (sym parts) apart))))

-- the problem of the stays alone is whole
pub stays_whole : (rows : List Row) (stays : List Stay) → IsWhole (as_problem rows stays) → IsWhole (as_problem [] stays)
stays_whole rows stays whole = record {
  rows = λ k d within. absurd (omega (arith, within));
  stays = whole.stays;
  rising = λ i j d less within. absurd (omega (arith, less, within));
  apart = whole.apart;
  covered = λ k d within. absurd (omega (arith, within));
  row_count = omega arith;
  stay_count = whole.stay_count;
}

-- where no mark is inside no value is negative
pub none_negative : (p : Problem) (at : List Mark) → IsCorner p at → at ≡ [] → NoNegativeValue p at
none_negative p at corner e =
    subst (NoNegativeValue p) (sym e)
    (let none : IsCorner p [] = subst (IsCorner p) e corner in (none.point, none.stands, λ k d within. absurd (omega (arith, within))))

-- the corner of now is its newest mark
pub marked_here : (c new : CornerView) (n : ℕ) → scene_of new ≡ scene_of c → new.before ≡ take (suc n) (scene_of c ∷ c.before) → IsMarkedHere new
marked_here c new n scene before = (take n c.before, before ∙ ap (λ (s : Scene). s ∷ take n c.before) (sym scene))

-- so no line is listed there, and it is an end as it was
pub still_ended : (c new : CornerView) → HasEnded c → scene_of new ≡ scene_of c → new.candidates ≡ [] → HasEnded new
still_ended c new ended scene listed = record { end = subst (λ (s : Scene). IsBestEnd s.problem s.marks) (sym scene) ended.end; listed = listed }
