-- Marks by lines, as they are taken one after the other.
use Rattle.std.proofs.Common.{◌≡◌, ◌≢◌, ◌∙◌, ◌↔◌, ℕ, zero, suc, ◌<◌, List, [], ◌∷◌, ◌++◌, set, get_or, length, refl, sym, ap, ap₂, subst, arith, inl, inr, Option, None, Some, All, AllPairs, length-set, get_or-set_same, get_or-set_other}
use Rattle.std.specs.Prelude.{slice_index_or}
use Rattle.std.specs.List.{AllByRecursion as Each}
use Rattle.std.proofs.lemmas.Bool.{cases_eq}
use Rattle.std.proofs.lemmas.List.{length-map}
use Rattle.std.proofs.lemmas.List.Elements.{All-push, recursion_from_All}
use Rattle.std.proofs.lemmas.List.Kept.{AllPairs-cons}
use Rattle.problem_core.specs.declared.parts.Mark.{Mark}
use Rattle.problem_core.specs.declared.parts.RowName.{RowName}
use Rattle.problem_core.specs.declared.parts.RowName.TheVariants.{Held}
use Rattle.problem_core.specs.declared.parts.Side.{Side}
use Rattle.problem_core.specs.Layout.{Line, Problem, lines}
use Rattle.problem_core.specs.Kept.{IsWhole}
use Rattle.problem_core.specs.Corners.{IsCorner, IsIn, place, place_of}
use Rattle.corner_laws.proofs.Counting.{head_pairs}
use Rattle.corner_lines.proofs.ProblemChanges.JoinedRows.{in-parts, old-in}
use Rattle.corner_lines.proofs.LevelRows.LevelExchanges.{by-sides}
use Rattle.path_lines.specs.declared.spots.Spot.{Spot}
use Rattle.path_lines.specs.Tables.{AreSides, IsSpotOf, line_count, name_at, names_of}
use Rattle.path_lines.proofs.Places.{names_differ}
use Rattle.path_lines.proofs.MarkSides.SidesApart.{one_side}
use Rattle.path_lines.proofs.Arithmetic.ValueSigns.{inside_place}
use Rattle.frac_core.proofs.Lists.{pairs-rest as tail_pairs}
use Rattle.problem_core.proofs.Sides.{none-not-some as none_some, some-same as some_same}

last_in : (at : List Mark) (m : Mark) → IsIn (place m) (at ++ m ∷ [])
last_in [] m = (0, omega arith, refl)
last_in (x ∷ xs) m = let i = last_in xs m in (suc i.0, omega (arith, i.1), i.2)

-- ---- one more

spot_in : (p : Problem) (names : List RowName) (mark : Mark) (spot : Spot) → names ≡ names_of p → IsSpotOf names mark spot → (spot.at < line_count p) × (name_at p spot.at ≡ mark.row)
spot_in p names mark spot same is = (
  omega (arith, is.0, ap (λ (z : List RowName). length z) same, length-map (lines p) (λ (l : Line). l.name)),
  ap (λ (z : List RowName). slice_index_or z spot.at (Held 0)) (sym same) ∙ is.1,
)

same_place : (p : Problem) (k : ℕ) (side : Side) (mark : Mark) → name_at p k ≡ mark.row → side ≡ mark.side → place_of (name_at p k) side ≡ place mark
same_place p k side mark e f = ap₂ place_of e f

abbrev IsTakenAt : Problem → List Mark → ℕ → Option Side → Type 0
IsTakenAt p taken k o = (side : Side) → (o ≡ Some side) ↔ IsIn (place_of (name_at p k) side) taken

at_spot : (p : Problem) (taken : List Mark) (mark : Mark) (spot : Spot) → name_at p spot.at ≡ mark.row → spot.side ≡ mark.side → IsTakenAt p taken spot.at None → IsTakenAt p (taken ++ mark ∷ []) spot.at (Some spot.side)
at_spot p taken mark spot name side_is none side = (
  λ e. subst (λ (c : ℕ). IsIn c (taken ++ mark ∷ [])) (sym (same_place p spot.at side mark name (sym (some_same spot.side side e) ∙ side_is))) (last_in taken mark),
  λ i. elim (in-parts taken mark (place_of (name_at p spot.at) side) i) [
    | inl was ↦ absurd (none_some side ((none side).1 was))
    | inr same ↦ ap Some (side_is ∙ sym (by-sides (name_at p spot.at) mark.row side mark.side same).1)
  ],
)

off_spot : (p : Problem) (taken : List Mark) (mark : Mark) (k e : ℕ) (o : Option Side) → IsWhole p → k < line_count p → e < line_count p → k ≢ e → name_at p e ≡ mark.row → IsTakenAt p taken k o → IsTakenAt p (taken ++ mark ∷ []) k o
off_spot p taken mark k e o whole here there other name is side = (
  λ some. old-in taken mark (place_of (name_at p k) side) ((is side).0 some),
  λ i. elim (in-parts taken mark (place_of (name_at p k) side) i) [
    | inl was ↦ (is side).1 was
    | inr same ↦ absurd (names_differ p k e whole here there other ((by-sides (name_at p k) mark.row side mark.side same).0 ∙ sym name))
  ],
)

pub one_more_taken : (p : Problem) (names : List RowName) (taken : List Mark) (mark : Mark) (spot : Spot) (sides : List (Option Side)) → IsWhole p → names ≡ names_of p → IsSpotOf names mark spot → slice_index_or sides spot.at None ≡ None → AreSides p taken sides
    → AreSides p (taken ++ mark ∷ []) (set sides spot.at (Some spot.side))
one_more_taken p names taken mark spot sides whole same is free are =
    let there : (spot.at < line_count p) × (name_at p spot.at ≡ mark.row) = spot_in p names mark spot same is in
    record {
      count = length-set sides spot.at (Some spot.side) ∙ are.count;
      each = λ k side here.
          elim (cases_eq k spot.at) [
            | inl e ↦
                subst (λ (j : ℕ). IsTakenAt p (taken ++ mark ∷ []) j (slice_index_or (set sides spot.at (Some spot.side)) j None)) (sym e)
                (subst (λ (o : Option Side). IsTakenAt p (taken ++ mark ∷ []) spot.at o) (sym (get_or-set_same sides spot.at (Some spot.side) None (omega (arith, there.0, are.count))))
                (at_spot p taken mark spot there.1 is.2 (subst (λ (o : Option Side). IsTakenAt p taken spot.at o) free (λ s. are.each spot.at s there.0)))) side
            | inr other ↦
                subst (λ (o : Option Side). IsTakenAt p (taken ++ mark ∷ []) k o) (sym (get_or-set_other sides spot.at k (Some spot.side) None other))
                (off_spot p taken mark k spot.at (get_or sides k None) whole here there.0 other there.1 (λ s. are.each k s here)) side
          ];
    }

-- ---- marks of no corner

first_in : (xs ys : List Mark) (c : ℕ) → IsIn c xs → IsIn c (xs ++ ys)
first_in [] ys c (k, within, is) = absurd (omega (arith, within))
first_in (x ∷ xs) ys c (zero, within, is) = (0, omega arith, is)
first_in (x ∷ xs) ys c (suc k, within, is) = let i = first_in xs ys c (k, omega (arith, within), is) in (suc i.0, omega (arith, i.1), i.2)

mid_in : (xs : List Mark) (m : Mark) (ys : List Mark) → IsIn (place m) (xs ++ m ∷ ys)
mid_in [] m ys = (0, omega arith, refl)
mid_in (x ∷ xs) m ys = let i = mid_in xs m ys in (suc i.0, omega (arith, i.1), i.2)

each_mid : (P : Mark → Type 0) (xs : List Mark) (m : Mark) (ys : List Mark) → Each P (xs ++ m ∷ ys) → P m
each_mid P [] m ys all = all.0
each_mid P (x ∷ xs) m ys all = each_mid P xs m ys all.1

twice_in : (xs : List Mark) (m : Mark) (ys : List Mark) → IsIn (place m) xs → AllPairs (λ (a b : Mark). place a ≢ place b) (xs ++ m ∷ ys) → ⊥
twice_in [] m ys (k, within, is) apart = absurd (omega (arith, within))
twice_in (x ∷ xs) m ys (zero, within, is) apart =
    each_mid (λ n. place x ≢ place n) xs m ys (recursion_from_All (λ n. place x ≢ place n) (xs ++ m ∷ ys) (head_pairs (λ (a b : Mark). place a ≢ place b) x (xs ++ m ∷ ys) apart)) is
twice_in (x ∷ xs) m ys (suc k, within, is) apart = twice_in xs m ys (k, omega (arith, within), is) (tail_pairs (λ (a b : Mark). place a ≢ place b) x (xs ++ m ∷ ys) apart)

pub taken_line : (p : Problem) (names : List RowName) (taken rest : List Mark) (mark : Mark) (spot : Spot) (side : Side) (sides : List (Option Side)) → IsWhole p → names ≡ names_of p → IsSpotOf names mark spot → slice_index_or sides spot.at None ≡ Some side
    → AreSides p taken sides → IsCorner p (taken ++ mark ∷ rest) → ⊥
taken_line p names taken rest mark spot side sides whole same is full are corner =
    let there : (spot.at < line_count p) × (name_at p spot.at ≡ mark.row) = spot_in p names mark spot same is in
    let was : IsIn (place_of mark.row side) taken = subst (λ (n : RowName). IsIn (place_of n side) taken) there.1 ((are.each spot.at side there.0).0 full) in
    let one : side ≡ mark.side = one_side p (taken ++ mark ∷ rest) mark.row side mark.side whole corner (first_in taken (mark ∷ rest) (place_of mark.row side) was) (mid_in taken mark rest) in
    twice_in taken mark rest (subst (λ (s : Side). IsIn (place_of mark.row s) taken) one was) corner.apart

pub no_line : (p : Problem) (names : List RowName) (taken rest : List Mark) (mark : Mark) → names ≡ names_of p → All (λ n. n ≢ mark.row) names → IsCorner p (taken ++ mark ∷ rest) → ⊥
no_line p names taken rest mark same none corner =
    let k : (k : ℕ) × (k < line_count p) × (name_at p k ≡ mark.row) = inside_place p (taken ++ mark ∷ rest) mark corner (mid_in taken mark rest) in
    none k.0 (Held 0) (omega (arith, k.1, ap (λ (z : List RowName). length z) same, length-map (lines p) (λ (l : Line). l.name))) (ap (λ (z : List RowName). slice_index_or z k.0 (Held 0)) same ∙ k.2)

-- ---- one more is another one

pub was_free : (p : Problem) (names : List RowName) (taken : List Mark) (mark : Mark) (spot : Spot) (sides : List (Option Side)) → names ≡ names_of p → IsSpotOf names mark spot → slice_index_or sides spot.at None ≡ None → AreSides p taken sides → IsIn (place mark) taken → ⊥
was_free p names taken mark spot sides same is free are i =
    let there : (spot.at < line_count p) × (name_at p spot.at ≡ mark.row) = spot_in p names mark spot same is in
    none_some mark.side (sym free ∙ (are.each spot.at mark.side there.0).1 (subst (λ (n : RowName). IsIn (place_of n mark.side) taken) (sym there.1) i))

pub apart_more : (taken : List Mark) (m : Mark) → AllPairs (λ a b. place a ≢ place b) taken → (IsIn (place m) taken → ⊥) → AllPairs (λ a b. place a ≢ place b) (taken ++ m ∷ [])
apart_more [] m apart out = AllPairs-cons (λ a b. place a ≢ place b) m [] (λ k d within. absurd (omega (arith, within))) (λ i j d before within. absurd (omega (arith, before, within)))
apart_more (x ∷ xs) m apart out =
    AllPairs-cons (λ a b. place a ≢ place b) x (xs ++ m ∷ [])
    (All-push (λ b. place x ≢ place b) xs m (head_pairs (λ (a b : Mark). place a ≢ place b) x xs apart) (λ e. out (0, omega arith, e)))
    (apart_more xs m (tail_pairs (λ (a b : Mark). place a ≢ place b) x xs apart) (λ i. out (let j = i in (suc j.0, omega (arith, j.1), j.2))))
