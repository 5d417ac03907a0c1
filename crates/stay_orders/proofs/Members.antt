-- A mark of a problem is one in each order of its stays.
use Rattle.std.proofs.Common.{ℕ, List, [], ◌∷◌, map}
use Rattle.std.specs.List.{AllByRecursion as Each}
use Rattle.std.specs.Prelude.{All, Contains}
use Rattle.std.proofs.lemmas.List.Elements.{recursion_from_All, All-from_recursion, All-contains_itself, All-contains, All-map}
use Rattle.problem_core.specs.declared.parts.Mark.{Mark}
use Rattle.problem_core.specs.Layout.{Problem, lines}
use Rattle.problem_core.specs.Corners.{marks_of, place}
use Rattle.stay_orders.specs.Orders.{fronted}
use Rattle.stay_orders.proofs.Corners.{all_marks_back, all_marks_to}

unmapped : {A B : Type 0} (P : B → Type 0) (f : A → B) (xs : List A) → Each P (map f xs) → Each (λ x. P (f x)) xs
unmapped P f [] h = tt
unmapped P f (x ∷ xs) h = (h.0, unmapped P f xs h.1)

-- the columns of the marks
abbrev places : Problem → List ℕ
places p = map place (marks_of (lines p))

pub still_there : (attrs : List ℕ) (p : Problem) (m : Mark) → Contains (places p) (place m) → Contains (places (fronted attrs p)) (place m)
still_there attrs p m h =
    let q = fronted attrs p in
    let own : All (Contains (places q)) (places q) = All-contains_itself (places q) in
    let each : All (λ (n : Mark). Contains (places q) (place n)) (marks_of (lines q)) =
    All-from_recursion (λ (n : Mark). Contains (places q) (place n)) (marks_of (lines q))
    (unmapped (Contains (places q)) place (marks_of (lines q)) (recursion_from_All (Contains (places q)) (places q) own)) in
    All-contains (Contains (places q)) (places p) (place m)
    (All-map (Contains (places q)) place (marks_of (lines p))
    (all_marks_back (λ (n : Mark). Contains (places q) (place n)) attrs p each)) h

-- a column of a mark there is one of a mark before
pub there_before : (attrs : List ℕ) (p : Problem) (c : ℕ) → Contains (places (fronted attrs p)) c → Contains (places p) c
there_before attrs p c h =
    let q = fronted attrs p in
    let own : All (Contains (places p)) (places p) = All-contains_itself (places p) in
    let each : All (λ (n : Mark). Contains (places p) (place n)) (marks_of (lines p)) =
    All-from_recursion (λ (n : Mark). Contains (places p) (place n)) (marks_of (lines p))
    (unmapped (Contains (places p)) place (marks_of (lines p)) (recursion_from_All (Contains (places p)) (places p) own)) in
    All-contains (Contains (places p)) (places q) c
    (All-map (Contains (places p)) place (marks_of (lines q))
    (all_marks_to (λ (n : Mark). Contains (places p) (place n)) attrs p each)) h
