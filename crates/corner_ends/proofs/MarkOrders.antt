-- Marks in another order, and those after an exchange.
use Rattle.std.proofs.Common.{◌≢◌, ◌∙◌, ℕ, zero, suc, Bool, cond, List, [], ◌∷◌, ◌++◌, sym, ap, subst, arith, ne_eqb}
use Rattle.std.proofs.lemmas.List.Elements.{All-from_recursion}
use Rattle.problem_core.specs.declared.parts.Mark.{Mark}
use Rattle.frac_core.specs.declared.memory.Stop.TheVariants.{Refused, OutOfMemory as NoMemory}
use Rattle.problem_core.specs.Changes.Stops.{TableStop}
use Rattle.problem_core.specs.declared.stops.Quantity.TheVariants.{Plain, Terms, Rows, Shifts}
use Rattle.problem_core.specs.Layout.{Problem}
use Rattle.problem_core.specs.Corners.{IsIn, SameMarks, Swap, exchanged, place}
use Rattle.problem_core.specs.Changes.Paths.{last_marks}
use Rattle.corner_laws.proofs.RunSteps.RunPaths.{contains_in}
use Rattle.corner_view.specs.Stops.{IsUnfitStop}
use Rattle.corner_lines.proofs.LevelRows.SameLevels.{what_same as unfit-what}
use Rattle.problem_core.proofs.Marks.{in-list as in_list, last-more as last_more}
use Rattle.corner_lines.proofs.SameMarks.{same_exchanged}

pub same_self : (a : List Mark) → SameMarks a a
same_self a = (All-from_recursion (λ m. IsIn (place m) a) a (in_list a), All-from_recursion (λ m. IsIn (place m) a) a (in_list a))

pub kept_in : (s : Swap) (at : List Mark) (c : ℕ) → c ≢ place s.leave → IsIn c at → IsIn c (exchanged s at)
kept_in s [] c ne i = absurd (let within = i.1 in omega (arith, within))
kept_in s (m ∷ ms) c ne (zero, within, is) = (0, omega arith, ap (λ (b : Bool). place (cond b s.enter m)) (ne_eqb (place m) (place s.leave) (λ e. ne (sym is ∙ e))) ∙ is)
kept_in s (m ∷ ms) c ne (suc k, within, is) = let h = kept_in s ms c ne (k, omega (arith, within), is) in (suc h.0, (let less = h.1 in omega (arith, less)), h.2)

-- the marks after one exchange more
pub last_same : (first at : List Mark) (swaps : List Swap) (s : Swap) → SameMarks (last_marks first swaps) at → IsIn (place s.leave) at → SameMarks (last_marks first (swaps ++ s ∷ [])) (exchanged s at)
last_same first at swaps s here leaves =
    subst (λ (ms : List Mark). SameMarks ms (exchanged s at)) (sym (last_more first swaps s))
    (same_exchanged s (last_marks first swaps) at here (contains_in at (last_marks first swaps) (place s.leave) here.1 leaves) leaves)

pub unfit_same : (p : Problem) (a b : List Mark) (stop : TableStop) → SameMarks a b → IsUnfitStop p a stop → IsUnfitStop p b stop
unfit_same p a b (Refused (Plain what)) same h = unfit-what p a b what same h
unfit_same p a b (Refused (Terms mark j)) same h = absurd h
unfit_same p a b (Refused (Rows level j)) same h = absurd h
unfit_same p a b (Refused (Shifts what j)) same h = absurd h
unfit_same p a b NoMemory same h = h
