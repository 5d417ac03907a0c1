-- The exchanges of a run so far, and where it stops.
use Rattle.std.proofs.Common.{◌≡◌, inl, inr, ℕ, ◌+◌, Bool, true, false, List, [], ◌∷◌, ◌++◌, length, pos, ◌≤ℤ◌, ◌≤◌, refl, sym, subst, arith}
use Rattle.std.proofs.lemmas.List.Elements.{recursion_from_All}
use Rattle.problem_core.specs.declared.parts.Mark.{Mark}
use Rattle.problem_core.specs.declared.stops.Quantity.{Quantity}
use Rattle.problem_core.specs.declared.stops.Quantity.TheVariants.{Plain, Terms, Rows, Shifts}
use Rattle.frac_core.specs.declared.memory.Stop.TheVariants.{Refused}
use Rattle.problem_core.specs.Layout.{Problem}
use Rattle.problem_core.specs.Corners.{IsIn, SameMarks, Swap, exchanged, place}
use Rattle.problem_core.specs.Changes.Paths.{ArePathSwaps, IsEndOf, IsPath, IsSound, last_marks}
use Rattle.corner_laws.specs.Runs.{AreDualSwaps, AreRunSwaps}
use Rattle.corner_laws.proofs.RunSteps.DualRuns.{dual_run_is_path}
use Rattle.corner_laws.proofs.RunSteps.RunPaths.{contains_in, same_stands}
use Rattle.corner_laws.proofs.WrittenValues.{contains_each}
use Rattle.corner_view.specs.Seen.{IsKeptCorner}
use Rattle.corner_view.specs.Stops.{IsUnfitStop}
use Rattle.cert_core.specs.Stops.{IsStopOf, IsUnfitPath}
use Rattle.cert_core.specs.declared.stops.RunStop.TheVariants.{Spent, Unfit}
use Rattle.cert_core.specs.Paths.{Path}
use Rattle.corner_ends.specs.Begins.{AreExchanges, HasExchanged}
use Rattle.corner_ends.specs.Runs.{FromHere}
use Rattle.corner_ends.specs.Trails.{AreSwapsOf, HasRun, in_tie_order}
use Rattle.corner_ends.proofs.MarkOrders.{last_same, same_self, unfit_same}
use Rattle.corner_ends.proofs.RunEnds.{spent_path}
use Rattle.corner_ends.proofs.TieOrders.{tied_is_path}
use Rattle.problem_core.proofs.Marks.{same-back as same_back, same-multipliers as same_multipliers}
use Rattle.corner_view.proofs.Facts.{same_trans as same_through}
use Rattle.corner_lines.proofs.LevelRows.SameLevels.{sound_same as sound-same}

-- ---- a run of no exchange

none-yet : (dual : Bool) (p : Problem) (at : List Mark) → AreSwapsOf dual p at []
none-yet true p at = tt
none-yet false p at = tt

pub run_begins : (dual : Bool) (p : Problem) (at : List Mark) → IsKeptCorner p at → IsSound dual p at → HasRun dual p at [] at
run_begins dual p at kept sound = record { whole = kept.whole; corner = kept.corner; rays = kept.rays; sound = sound; swapped = none-yet dual p at; here = same_self at }

-- ---- an end

same-end : (dual : Bool) (p : Problem) (a b : List Mark) → SameMarks a b → IsEndOf dual p b → IsEndOf dual p a
same-end true p a b same (inl (x, stands, up)) = inl (x, same_stands p a b x (λ v i. contains_in b a v same.1 i) stands, λ i d within. up-at _ (same.0 i d within))
  where
    up-at : (v : ℕ) → IsIn v b → pos 0 ≤ℤ x.num v
    up-at v i = contains_each (λ c. pos 0 ≤ℤ x.num c) b v (recursion_from_All (λ m. pos 0 ≤ℤ x.num (place m)) b up) i
same-end true p a b same (inr (x, stands, cost)) = inr (x, same_stands p a b x (λ v i. contains_in b a v same.1 i) stands, cost)
same-end false p a b same (inl (m, is, up)) = inl (m, same_multipliers p a b m (λ v i. contains_in a b v same.0 i) is, up)
same-end false p a b same (inr ((x, stands, cost), (m, is, up))) = inr ((x, same_stands p a b x (λ v i. contains_in b a v same.1 i) stands, cost), (m, same_multipliers p a b m (λ v i. contains_in a b v same.0 i) is, up))

-- ---- its path

pub run_lawful : (dual : Bool) (p : Problem) (first at : List Mark) (swaps : List Swap) → HasRun dual p first swaps at → IsPath dual p first swaps
run_lawful true p first at swaps run = dual_run_is_path p first swaps run.whole run.corner run.rays run.sound run.swapped
run_lawful false p first at swaps run = tied_is_path p first swaps run.whole run.corner run.rays run.sound (same-end false p) run.swapped

-- what holds at the first corner holds at the last one
ends-up : (dual : Bool) (p : Problem) (at : List Mark) (swaps : List Swap) → ArePathSwaps dual p at swaps → IsSound dual p (last_marks at swaps)
ends-up dual p at [] h = h
ends-up dual p at (s ∷ swaps) h = ends-up dual p (exchanged s at) swaps h.4

pub run_sound : (dual : Bool) (p : Problem) (first at : List Mark) (swaps : List Swap) → HasRun dual p first swaps at → IsSound dual p at
run_sound dual p first at swaps run = sound-same dual p (last_marks first swaps) at run.here (ends-up dual p first swaps (run_lawful dual p first at swaps run).lawful)

-- ---- its exchanges

are-run-exchanges : (p : Problem) (first at : List Mark) (swaps : List Swap) → AreRunSwaps p first at swaps → AreExchanges at swaps
are-run-exchanges p first at [] h = tt
are-run-exchanges p first at (s ∷ swaps) h = (h.0.enters, h.0.leaves, are-run-exchanges p first (exchanged s at) swaps h.1)

are-dual-exchanges : (p : Problem) (at : List Mark) (swaps : List Swap) → AreDualSwaps p at swaps → AreExchanges at swaps
are-dual-exchanges p at [] h = tt
are-dual-exchanges p at (s ∷ swaps) h = (h.0.enters, h.0.leaves, are-dual-exchanges p (exchanged s at) swaps h.1)

are-exchanges : (dual : Bool) (p : Problem) (first : List Mark) (swaps : List Swap) → AreSwapsOf dual p first swaps → AreExchanges first swaps
are-exchanges true p first swaps h = are-dual-exchanges p first swaps h
are-exchanges false p first swaps h = are-run-exchanges p (in_tie_order first) first swaps h

pub run_exchanges : (dual : Bool) (p : Problem) (first at : List Mark) (swaps : List Swap) → HasRun dual p first swaps at → HasExchanged first swaps at
run_exchanges dual p first at swaps run = record { swapped = are-exchanges dual p first swaps run.swapped; here = run.here }

-- ---- its stops

pub spent_stop : (dual : Bool) (p : Problem) (first at : List Mark) (swaps : List Swap) (path : Path) → HasRun dual p first swaps at → (IsEndOf dual p at → ⊥) → path ≡ record { dual = dual; corner = first; swaps = swaps } → IsStopOf dual p p.rows (FromHere first) (length swaps) (Spent path)
spent_stop dual p first at swaps path run no_end e =
    spent_path dual p first swaps path (run_lawful dual p first at swaps run) (λ end. no_end (same-end dual p at (last_marks first swaps) (same_back (last_marks first swaps) at run.here) end)) e

pub unfit_stop : (dual : Bool) (p : Problem) (first new : List Mark) (swaps : List Swap) (path : Path) (quantity : Quantity) (budget : ℕ) → HasRun dual p first swaps new → IsUnfitStop p new (Refused quantity) → length swaps ≤ budget → path ≡ record { dual = dual; corner = first; swaps = swaps } → IsStopOf dual p p.rows (FromHere first) budget (Unfit (record { path = path; quantity = quantity }))
unfit_stop dual p first new swaps path quantity budget run unfit few e =
    let there : IsUnfitStop p (last_marks first swaps) (Refused quantity) = unfit_same p new (last_marks first swaps) (Refused quantity) (same_back (last_marks first swaps) new run.here) unfit in
    subst (λ (q : Path). IsStopOf dual p p.rows (FromHere first) budget (Unfit (record { path = q; quantity = quantity }))) (sym e) (
      refl,
      few,
      unfit-path dual p first swaps quantity (run_lawful dual p first new swaps run) there,
    )
  where
    unfit-path : (dual : Bool) (p : Problem) (first : List Mark) (swaps : List Swap) (quantity : Quantity) → IsPath dual p first swaps → IsUnfitStop p (last_marks first swaps) (Refused quantity) → IsUnfitPath dual p p.rows (FromHere first) (record { dual = dual; corner = first; swaps = swaps }) quantity
    unfit-path dual p first swaps (Plain what) lawful h = ((refl, refl), lawful, h)
    unfit-path dual p first swaps (Terms mark j) lawful h = absurd h
    unfit-path dual p first swaps (Rows level j) lawful h = absurd h
    unfit-path dual p first swaps (Shifts what j) lawful h = absurd h

-- ---- an exchange more

pub run_more : (dual : Bool) (p : Problem) (first at new : List Mark) (swaps : List Swap) (s : Swap) → HasRun dual p first swaps at → AreSwapsOf dual p first (swaps ++ s ∷ []) → IsIn (place s.leave) at → SameMarks new (exchanged s at) → HasRun dual p first (swaps ++ s ∷ []) new
run_more dual p first at new swaps s run swapped leaves same = record {
  whole = run.whole;
  corner = run.corner;
  rays = run.rays;
  sound = run.sound;
  swapped = swapped;
  here = same_through (last_marks first (swaps ++ s ∷ [])) (exchanged s at) new (last_same first at swaps s run.here leaves) (same_back new (exchanged s at) same);
}

-- ---- its parts

pub length_more : {X : Type 0} (xs : List X) (x : X) → length (xs ++ x ∷ []) ≡ length xs + 1
length_more [] x = refl
length_more (y ∷ xs) x = let h = length_more xs x in omega (arith, h)
