-- The exchanges of a primal run, in which the marks of its first corner break ties in an order of their own, are a lawful path.
use Rattle.std.proofs.Common.{◌≢◌, ℕ, zero, suc, List, [], ◌∷◌, ◌++◌, refl, sym, false, arith, AllPairs}
use Rattle.std.specs.List.{AllByRecursion as Each}
use Rattle.std.proofs.lemmas.List.Elements.{All-from_recursion, recursion_from_All}
use Rattle.std.proofs.lemmas.List.Kept.{AllPairs-cons}
use Rattle.frac_core.proofs.Lists.{pairs-rest}
use Rattle.problem_core.specs.declared.parts.Mark.{Mark}
use Rattle.problem_core.specs.declared.parts.RowName.{RowName}
use Rattle.problem_core.specs.declared.parts.RowName.TheVariants.{Held, Stay as StayOf}
use Rattle.problem_core.specs.Layout.{Problem}
use Rattle.problem_core.specs.Kept.{IsWhole}
use Rattle.problem_core.specs.Corners.{ArePairwiseDifferent, IsCorner, IsExchange, IsIn, NoNegativeValue, SameMarks, Swap, corners, exchanged, place}
use Rattle.problem_core.specs.Changes.Paths.{ArePathSwaps, IsEndOf, IsPath}
use Rattle.problem_core.specs.Rays.{HasRays}
use Rattle.problem_core.proofs.Forms.{each-impl}
use Rattle.problem_core.proofs.Marks.{in-list as in_list, later-in as later_in, same-back as same_back, same-multipliers as same_multipliers}
use Rattle.corner_laws.specs.Runs.{AreRunSwaps}
use Rattle.corner_laws.proofs.Counting.{head_pairs}
use Rattle.corner_laws.proofs.RunSteps.RunPaths.{contains_in, order_is_free, run_is_path}
use Rattle.corner_laws.proofs.Swaps.Pivots.{exchanged_apart, each-out}
use Rattle.corner_lines.proofs.SameMarks.{same_corner, same_exchanged, same_rays}
use Rattle.corner_lines.proofs.LevelRows.SameLevels.{sound_same}
use Rattle.corner_view.proofs.Facts.{same_trans as same_through}
use Rattle.corner_ends.specs.Trails.{in_tie_order, put_tied}

-- ---- the same marks

pub each_more : (P : Mark → Type 0) (xs : List Mark) (x : Mark) → Each P xs → P x → Each P (xs ++ x ∷ [])
each_more P [] x h g = (g, tt)
each_more P (y ∷ xs) x h g = (h.0, each_more P xs x h.1 g)

each-put : (P : Mark → Type 0) (name : RowName) (m : Mark) (ms : List Mark) → P m → Each P ms → Each P (put_tied name m ms)
each-put P (Held id) m ms h each = (h, each)
each-put P (StayOf attr) m ms h each = each_more P ms m each h

pub each_tied : (P : Mark → Type 0) (ms : List Mark) → Each P ms → Each P (in_tie_order ms)
each_tied P [] h = tt
each_tied P (m ∷ ms) h = each-put P m.row m (in_tie_order ms) h.0 (each_tied P ms h.1)

in-front : (ms rest : List Mark) (c : ℕ) → IsIn c ms → IsIn c (ms ++ rest)
in-front [] rest c (k, within, is) = absurd (omega (arith, within))
in-front (m ∷ ms) rest c (zero, within, is) = (0, omega arith, is)
in-front (m ∷ ms) rest c (suc k, within, is) = later_in m (ms ++ rest) c (in-front ms rest c (k, omega (arith, within), is))

in-behind : (ms : List Mark) (m : Mark) → IsIn (place m) (ms ++ m ∷ [])
in-behind [] m = (0, omega arith, refl)
in-behind (n ∷ ms) m = later_in n (ms ++ m ∷ []) (place m) (in-behind ms m)

own-put : (name : RowName) (m : Mark) (ms : List Mark) → IsIn (place m) (put_tied name m ms)
own-put (Held id) m ms = (0, omega arith, refl)
own-put (StayOf attr) m ms = in-behind ms m

other-put : (name : RowName) (m : Mark) (ms : List Mark) (c : ℕ) → IsIn c ms → IsIn c (put_tied name m ms)
other-put (Held id) m ms c i = later_in m ms c i
other-put (StayOf attr) m ms c i = in-front ms (m ∷ []) c i

all-there : (ms : List Mark) → Each (λ m. IsIn (place m) (in_tie_order ms)) ms
all-there [] = tt
all-there (m ∷ ms) = (
  own-put m.row m (in_tie_order ms),
  each-impl (λ n. IsIn (place n) (in_tie_order ms)) (λ n. IsIn (place n) (put_tied m.row m (in_tie_order ms))) ms (λ n i. other-put m.row m (in_tie_order ms) (place n) i) (all-there ms),
)

pub all_from : (ms : List Mark) → Each (λ m. IsIn (place m) ms) (in_tie_order ms)
all_from ms = each_tied (λ m. IsIn (place m) ms) ms (in_list ms)

pub tied_same : (ms : List Mark) → SameMarks ms (in_tie_order ms)
tied_same ms = (All-from_recursion (λ m. IsIn (place m) (in_tie_order ms)) ms (all-there ms), All-from_recursion (λ m. IsIn (place m) ms) (in_tie_order ms) (all_from ms))

-- no mark stands twice among them
abbrev Differ : Mark → Mark → Type 0
Differ m n = place m ≢ place n

pairs-more : (xs : List Mark) (x : Mark) → AllPairs Differ xs → Each (λ y. Differ y x) xs → AllPairs Differ (xs ++ x ∷ [])
pairs-more [] x h others = AllPairs-cons Differ x [] (All-from_recursion (Differ x) [] tt) (λ i j d less within. absurd (omega (arith, within)))
pairs-more (y ∷ xs) x h others =
    AllPairs-cons Differ y (xs ++ x ∷ [])
    (All-from_recursion (Differ y) (xs ++ x ∷ []) (each_more (Differ y) xs x (recursion_from_All (Differ y) xs (head_pairs Differ y xs h)) others.0))
    (pairs-more xs x (pairs-rest Differ y xs h) others.1)

pairs-put : (name : RowName) (m : Mark) (ms : List Mark) → AllPairs Differ ms → Each (Differ m) ms → AllPairs Differ (put_tied name m ms)
pairs-put (Held id) m ms h apart = AllPairs-cons Differ m ms (All-from_recursion (Differ m) ms apart) h
pairs-put (StayOf attr) m ms h apart = pairs-more ms m h (each-impl (Differ m) (λ y. Differ y m) ms (λ y ne e. ne (sym e)) apart)

apart-tied : (ms : List Mark) → AllPairs Differ ms → AllPairs Differ (in_tie_order ms)
apart-tied [] h = h
apart-tied (m ∷ ms) h =
    pairs-put m.row m (in_tie_order ms) (apart-tied ms (pairs-rest Differ m ms h)) (each_tied (Differ m) ms (recursion_from_All (Differ m) ms (head_pairs Differ m ms h)))

-- ---- a path from the same marks

exchange-same : (p : Problem) (a b : List Mark) (s : Swap) → SameMarks a b → IsCorner p b → IsExchange p a s → IsExchange p b s
exchange-same p a b s same corner ex =
    let out : IsIn (place s.enter) b → ⊥ = λ i. ex.enters (contains_in b a (place s.enter) same.1 i) in
    let leaves : IsIn (place s.leave) b = contains_in a b (place s.leave) same.0 ex.leaves in
    record {
      enters = out;
      leaves = leaves;
      corner = same_corner p (exchanged s a) (exchanged s b) (same_exchanged s a b same ex.leaves leaves) (exchanged_apart s b corner.apart (each-out (place s.enter) b out)) ex.corner;
    }

lawful-same : (p : Problem) (a b : List Mark) (swaps : List Swap) → SameMarks a b → IsCorner p b → ((x y : List Mark) → SameMarks x y → IsEndOf false p y → IsEndOf false p x) → ArePathSwaps false p a swaps → ArePathSwaps false p b swaps
lawful-same p a b [] same corner end h = sound_same false p a b same h
lawful-same p a b (s ∷ swaps) same corner end h =
    let ex = exchange-same p a b s same corner h.2 in
    let column = h.3 in (
      sound_same false p a b same h.0,
      λ e. h.1 (end a b same e),
      ex,
      (column.0, same_multipliers p b a column.0 (λ v i. contains_in b a v same.1 i) column.1, column.2),
      lawful-same p (exchanged s a) (exchanged s b) swaps (same_exchanged s a b same h.2.leaves ex.leaves) ex.corner end h.4,
    )

differ-same : (p : Problem) (x y a b : List Mark) (swaps : List Swap) → SameMarks x y → SameMarks a b → ArePathSwaps false p a swaps → Each (λ c. SameMarks x c → ⊥) (corners a swaps) → Each (λ c. SameMarks y c → ⊥) (corners b swaps)
differ-same p x y a b [] first same h apart = (λ e. apart.0 (same_through x y a first (same_through y b a e (same_back a b same))), tt)
differ-same p x y a b (s ∷ swaps) first same h apart = (
  λ e. apart.0 (same_through x y a first (same_through y b a e (same_back a b same))),
  differ-same p x y (exchanged s a) (exchanged s b) swaps first (same_exchanged s a b same h.2.leaves (contains_in a b (place s.leave) same.0 h.2.leaves)) h.4 apart.1,
)

-- two corners with different marks
abbrev AreOther : List Mark → List Mark → Type 0
AreOther a b = SameMarks a b → ⊥

apart-same : (p : Problem) (a b : List Mark) (swaps : List Swap) → SameMarks a b → ArePathSwaps false p a swaps → ArePairwiseDifferent (corners a swaps) → ArePairwiseDifferent (corners b swaps)
apart-same p a b [] same h apart = AllPairs-cons AreOther b [] (All-from_recursion (AreOther b) [] tt) (λ i j d less within. absurd (omega (arith, within)))
apart-same p a b (s ∷ swaps) same h apart =
    let next = same_exchanged s a b same h.2.leaves (contains_in a b (place s.leave) same.0 h.2.leaves) in
    AllPairs-cons AreOther b (corners (exchanged s b) swaps)
    (All-from_recursion (AreOther b) (corners (exchanged s b) swaps)
    (differ-same p a b (exchanged s a) (exchanged s b) swaps same next h.4 (recursion_from_All (AreOther a) (corners (exchanged s a) swaps) (head_pairs AreOther a (corners (exchanged s a) swaps) apart))))
    (apart-same p (exchanged s a) (exchanged s b) swaps next h.4 (pairs-rest AreOther a (corners (exchanged s a) swaps) apart))

-- ---- the run

swaps-same : (p : Problem) (ties a b : List Mark) (swaps : List Swap) → SameMarks a b → AreRunSwaps p ties a swaps → AreRunSwaps p ties b swaps
swaps-same p ties a b [] same h = tt
swaps-same p ties a b (s ∷ swaps) same h =
    let swap = order_is_free p ties a b s same h.0 in
    (swap, swaps-same p ties (exchanged s a) (exchanged s b) swaps (same_exchanged s a b same h.0.leaves swap.leaves) h.1)

pub tied_is_path : (p : Problem) (first : List Mark) (swaps : List Swap) → IsWhole p → IsCorner p first → HasRays p first → NoNegativeValue p first → ((x y : List Mark) → SameMarks x y → IsEndOf false p y → IsEndOf false p x) → AreRunSwaps p (in_tie_order first) first swaps → IsPath false p first swaps
tied_is_path p first swaps whole corner rays values end run =
    let ties = in_tie_order first in
    let same = tied_same first in
    let path = run_is_path p ties swaps whole (same_corner p first ties same (apart-tied first corner.apart) corner) (same_rays p first ties same rays) (sound_same false p first ties same values)
    (swaps-same p ties first ties swaps same run) in
    let back = same_back first ties same in
    record {
      corner = corner;
      apart = apart-same p ties first swaps back path.lawful path.apart;
      lawful = lawful-same p ties first swaps back corner end path.lawful;
    }
