-- The marks and swaps of a path by the places of their lines.
use Rattle.std.proofs.Common.{◌≡◌, ◌≢◌, ◌∙◌, ℕ, ◌+◌, ◌<◌, ◌++◌, List, [], ◌∷◌, zero, suc, length, map, take, drop, get_or, refl, sym, ap, ap₂, subst, arith, All, take-append-drop, ◌⊎◌, inl, inr}
use Rattle.std.specs.Prelude.{slice_index_or}
use Rattle.std.proofs.lemmas.List.{length-map, take_more}
use Rattle.std.proofs.lemmas.List.Elements.{All-push}
use Rattle.problem_core.specs.declared.parts.Mark.{Mark}
use Rattle.problem_core.specs.declared.parts.RowName.{RowName}
use Rattle.problem_core.specs.declared.parts.RowName.TheVariants.{Held}
use Rattle.problem_core.specs.Layout.{Line, Problem, lines as lines_of, lines}
use Rattle.problem_core.specs.Changes.Begins.{AreExchanges}
use Rattle.problem_core.specs.Corners.{IsCorner, IsExchange, IsIn, Swap, exchanged, place}
use Rattle.problem_core.specs.Changes.Paths.{last_marks}
use Rattle.path_lines.specs.declared.spots.Step.{Step}
use Rattle.path_lines.specs.Sides.{AreSteps, IsWithin}
use Rattle.path_lines.specs.Tables.{IsSpotOf, line_count, name_at, names_of, swap_of, mark_of}
use Rattle.path_lines.proofs.Arithmetic.ValueSigns.{inside_place}
use Rattle.path_lines.proofs.MarkSides.Walks.{split_there}
use Rattle.problem_core.proofs.Marks.{entered-in as enter_in}
use Rattle.problem_core.specs.declared.parts.Side.{Side}
use Rattle.path_lines.specs.declared.spots.Spot.{Spot}

pub spot_is : (p : Problem) (names : List RowName) (m : Mark) (spot : Spot) → names ≡ names_of p → IsSpotOf names m spot → (spot.at < line_count p) × (m ≡ mark_of p spot)
spot_is p names m spot same is = (
  omega (arith, is.0, ap (λ (z : List RowName). length z) same, length-map (lines p) (λ (l : Line). l.name)),
  sym (ap₂ (λ (n : RowName) (s : Side). record { row = n; side = s }) (ap (λ (z : List RowName). slice_index_or z spot.at (Held 0)) (sym same) ∙ is.1) is.2),
)

pub last_after : (at : List Mark) (a b : List Swap) → last_marks at (a ++ b) ≡ last_marks (last_marks at a) b
last_after at [] b = refl
last_after at (t ∷ a) b = last_after (exchanged t at) a b

pub exchange_there : (p : Problem) (at : List Mark) (a : List Swap) (s : Swap) (b : List Swap) → AreExchanges p at (a ++ s ∷ b) → IsExchange p (last_marks at a) s
exchange_there p at [] s b are = are.0
exchange_there p at (t ∷ a) s b are = exchange_there p (exchanged t at) a s b are.1

pub exchanges_first : (p : Problem) (at : List Mark) (a b : List Swap) → AreExchanges p at (a ++ b) → AreExchanges p at a
exchanges_first p at [] b are = tt
exchanges_first p at (t ∷ a) b are = (are.0, exchanges_first p (exchanged t at) a b are.1)

pub step_is : (p : Problem) (names : List RowName) (swap : Swap) (step : Step) → names ≡ names_of p → IsSpotOf names swap.enter step.enter → IsSpotOf names swap.leave step.leave → IsWithin (line_count p) step × (swap_of p step ≡ swap)
step_is p names swap step same enter leave =
    let e = spot_is p names swap.enter step.enter same enter in
    let l = spot_is p names swap.leave step.leave same leave in
    ((e.0, l.0), ap₂ (λ (a b : Mark). record { enter = a; leave = b }) (sym e.1) (sym l.1))

absent : (p : Problem) (names : List RowName) (at : List Mark) (m : Mark) → names ≡ names_of p → IsCorner p at → IsIn (place m) at → All (λ n. n ≢ m.row) names → ⊥
absent p names at m same corner i none =
    let k : (k : ℕ) × (k < line_count p) × (name_at p k ≡ m.row) = inside_place p at m corner i in
    none k.0 (Held 0) (omega (arith, k.1, ap (λ (z : List RowName). length z) same, length-map (lines_of p) (λ (l : Line). l.name))) (ap (λ (z : List RowName). slice_index_or z k.0 (Held 0)) same ∙ k.2)

pub corner_there : (p : Problem) (at : List Mark) (done : List Swap) → IsCorner p at → AreExchanges p at done → IsCorner p (last_marks at done)
corner_there p at [] corner are = corner
corner_there p at (s ∷ done) corner are = corner_there p (exchanged s at) done are.0.corner are.1

pub no_step : (p : Problem) (names : List RowName) (at : List Mark) (swap : Swap) → IsCorner p at → names ≡ names_of p → All (λ n. n ≢ swap.enter.row) names ⊎ All (λ n. n ≢ swap.leave.row) names → IsExchange p at swap → ⊥
no_step p names at swap corner same (inl none) ex = absent p names (exchanged swap at) swap.enter same ex.corner (enter_in swap at ex.leaves) none
no_step p names at swap corner same (inr none) ex = absent p names at swap.leave same corner ex.leaves none

pub no_steps : (p : Problem) (names : List RowName) (at : List Mark) (swaps : List Swap) (i : ℕ) (d : Swap) → names ≡ names_of p → i < length swaps → All (λ n. n ≢ (get_or swaps i d).enter.row) names ⊎ All (λ n. n ≢ (get_or swaps i d).leave.row) names → IsCorner p at → AreExchanges p at swaps → ⊥
no_steps p names at swaps i d same less none corner are =
    no_step p names (last_marks at (take i swaps)) (get_or swaps i d)
    (corner_there p at (take i swaps) corner (exchanges_first p at (take i swaps) (drop i swaps) (subst (AreExchanges p at) (sym (take-append-drop i swaps)) are))) same none
    (exchange_there p at (take i swaps) (get_or swaps i d) (drop (i + 1) swaps) (subst (AreExchanges p at) (split_there swaps i d less) are))

pub no_steps_yet : (p : Problem) → AreSteps p [] []
no_steps_yet p = record { swaps_are = refl; within = λ k d within. absurd (omega (arith, within)) }

pub one_step_more : (p : Problem) (names : List RowName) (swaps : List Swap) (steps : List Step) (i : ℕ) (d : Swap) (step : Step) → names ≡ names_of p → i < length swaps → IsSpotOf names (get_or swaps i d).enter step.enter → IsSpotOf names (get_or swaps i d).leave step.leave → AreSteps p (take i swaps) steps
    → AreSteps p (take (i + 1) swaps) (steps ++ step ∷ [])
one_step_more p names swaps steps i d step same less enter leave are =
    let is = step_is p names (get_or swaps i d) step same enter leave in
    record {
      swaps_are = map_more (swap_of p) steps step ∙ ap (λ (ss : List Swap). ss ++ swap_of p step ∷ []) are.swaps_are ∙ ap (λ (s : Swap). take i swaps ++ s ∷ []) is.1 ∙ sym (take_more swaps i d less);
      within = All-push (IsWithin (line_count p)) steps step are.within is.0;
    }
  where
    map_more : {X Y : Type 0} (f : X → Y) (xs : List X) (x : X) → map f (xs ++ x ∷ []) ≡ map f xs ++ f x ∷ []
    map_more f [] x = refl
    map_more {Y = Y} f (y ∷ xs) x = ap (λ (zs : List Y). f y ∷ zs) (map_more f xs x)

pub as_many : (p : Problem) (swaps : List Swap) (steps : List Step) → AreSteps p swaps steps → length steps ≡ length swaps
as_many p swaps steps are = sym (length-map steps (swap_of p)) ∙ ap (λ (ss : List Swap). length ss) are.swaps_are

pub step_at : (p : Problem) (swaps : List Swap) (steps : List Step) (i : ℕ) (d : Step) (e : Swap) → AreSteps p swaps steps → i < length steps → IsWithin (line_count p) (get_or steps i d) × (swap_of p (get_or steps i d) ≡ get_or swaps i e)
step_at p swaps steps i d e are less = (are.within i d less, map_at (swap_of p) steps i d e less ∙ ap (λ (ss : List Swap). get_or ss i e) are.swaps_are)
  where
    map_at : {X Y : Type 0} (f : X → Y) (xs : List X) (k : ℕ) (d : X) (e : Y) → k < length xs → f (get_or xs k d) ≡ get_or (map f xs) k e
    map_at f [] k d e less = absurd (omega (arith, less))
    map_at f (x ∷ xs) zero d e less = refl
    map_at f (x ∷ xs) (suc k) d e less = map_at f xs k d e (omega (arith, less))
