-- Multipliers with the places of their lines: how many there are, and their sums.
use Rattle.std.proofs.Common.{◌≡◌, ◌≢◌, ℕ, ◌+◌, ◌<◌, ◌≤◌, true, List, [], ◌∷◌, ◌++◌, map, length, take, get_or, pos, sym, ap, ap₂, subst, ◌∙◌, arith, All, AllPairs, eqb, eqb-true}
use Rattle.std.proofs.lemmas.List.{take_more, length-map, get_or-map, map-append, get_or_default}
use Rattle.std.proofs.lemmas.List.Elements.{All-push, All-map}
use Rattle.std.proofs.lemmas.List.Folds.{Any-from_list_any}
use Rattle.std.proofs.lemmas.Map.Steps.{length-le_from_distinct_below}
use Rattle.std.proofs.lemmas.Map.Made.{IsDistinct-from_AllPairs}
use Rattle.std.specs.List.{list_any}
use Rattle.std.proofs.lemmas.Bool.Decides.{Decides-eqb}
use Rattle.problem_core.specs.declared.parts.RowName.TheVariants.{Held}
use Rattle.problem_core.specs.Layout.{Problem}
use Rattle.frac_core.specs.Fraction.{IsFitting}
use Rattle.cert_core.specs.declared.by.By.{By}
use Rattle.cert_core.specs.Claims.{AreBys}
use Rattle.cert_checker.specs.declared.sums.Weighted.{Weighted}
use Rattle.cert_checker.specs.LineSums.{line_count}
use Rattle.cert_checker.specs.LinePlaces.{name_at, by_at, AreWeighed}

pub weighed-more : (p : Problem) (bys : List By) (i : ℕ) (d : By) (ws : List Weighted) (w : Weighted) → i < length bys → AreWeighed p (take i bys) ws → w.at < line_count p → by_at p w ≡ get_or bys i d → AreWeighed p (take (i + 1) bys) (ws ++ w ∷ [])
weighed-more p bys i d ws w l are at is = record {
  same = map-append (by_at p) ws (w ∷ []) ∙ ap₂ (λ (xs : List By) (b : By). xs ++ b ∷ []) are.same is ∙ sym (take_more bys i d l);
  below = All-push (λ (w : Weighted). w.at < line_count p) ws w are.below at;
}

pub no_weight : Weighted
no_weight = record { at = 0; times = pos 0 }

-- the multiplier at a place of the list
pub by-of : (p : Problem) (bys : List By) (ws : List Weighted) → AreWeighed p bys ws → (k : ℕ) (d : By) → k < length ws → get_or bys k d ≡ by_at p (get_or ws k no_weight)
by-of p bys ws are k d l = ap (λ (xs : List By). get_or xs k d) (sym are.same) ∙ get_or-map (by_at p) ws k no_weight d l

pub same-length : (p : Problem) (bys : List By) (ws : List Weighted) → AreWeighed p bys ws → length ws ≡ length bys
same-length p bys ws are = sym (length-map ws (by_at p)) ∙ ap (λ (xs : List By). length xs) are.same

pub weighed-fit : (p : Problem) (bys : List By) (ws : List Weighted) → AreWeighed p bys ws → AreBys bys → All (λ w. (w.at < line_count p) × IsFitting w.times) ws
weighed-fit p bys ws are ok k d l =
    let b : By = record { row = Held 0; times = pos 0 } in
    let fits : IsFitting (get_or bys k b).times = ok.fitting k b (omega (arith, l, same-length p bys ws are)) in
    let same : (get_or ws k no_weight).times ≡ (get_or ws k d).times = ap (λ (w : Weighted). w.times) (get_or_default ws k no_weight d l) in
    (are.below k d l, subst IsFitting (ap (λ (b : By). b.times) (by-of p bys ws are k b l) ∙ same) fits)

-- ---- how many there are

places-apart : (p : Problem) (bys : List By) (ws : List Weighted) → AreWeighed p bys ws → AreBys bys → AllPairs (λ x y. x ≢ y) (map (λ w. w.at) ws)
places-apart p bys ws are ok i j d l m same =
    let n : j < length ws = omega (arith, m, length-map ws (λ (w : Weighted). w.at)) in
    let b : By = record { row = Held 0; times = pos 0 } in
    let at_i = get_or-map (λ (w : Weighted). w.at) ws i no_weight d (omega (arith, l, n)) in
    let at_j = get_or-map (λ (w : Weighted). w.at) ws j no_weight d n in
    let row_i = ap (λ (b : By). b.row) (by-of p bys ws are i b (omega (arith, l, n))) in
    let row_j = ap (λ (b : By). b.row) (by-of p bys ws are j b n) in
    ok.apart i j b l (omega (arith, n, same-length p bys ws are)) (row_i ∙ ap (name_at p) (sym at_i ∙ same ∙ at_j) ∙ sym row_j)

listed-below : (n : ℕ) (xs : List ℕ) → All (λ x. x < n) xs → (q : ℕ) → list_any (eqb q) xs ≡ true → q < n
listed-below n xs below q h =
    let found = Any-from_list_any (eqb q) xs h in
    subst (λ (x : ℕ). x < n) (sym (eqb-true q found.1 found.4)) (subst (λ (x : ℕ). x < n) found.3 (below found.0 found.1 found.2))

pub weighed-count : (p : Problem) (bys : List By) (ws : List Weighted) (n : ℕ) → AreWeighed p bys ws → AreBys bys → All (λ w. w.at < n) ws → length ws ≤ n
weighed-count p bys ws n are ok below =
    let few : length (map (λ (w : Weighted). w.at) ws) ≤ n =
    length-le_from_distinct_below (map (λ (w : Weighted). w.at) ws) n
    (IsDistinct-from_AllPairs Decides-eqb (map (λ (w : Weighted). w.at) ws) (places-apart p bys ws are ok))
    (listed-below n (map (λ (w : Weighted). w.at) ws) (All-map (λ x. x < n) (λ (w : Weighted). w.at) ws below)) in
    omega (arith, few, length-map ws (λ (w : Weighted). w.at))
