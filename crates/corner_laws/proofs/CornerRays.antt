-- A corner is a square system: as many columns as equations, and one solution. So each outside mark can grow alone.
use Rattle.std.proofs.Common.{◌≡◌, ◌≢◌, ◌∙◌, ℕ, ◌+◌, ◌<◌, ◌++◌, List, [], ◌∷◌, length, map, ℤ, pos, negsuc, ◌+ℤ◌, ◌*ℤ◌, neg_ℤ, ◌<ℤ◌, refl, sym, ap, ap₂, subst, arith, inl, inr, All, AllPairs, Contains}
use Rattle.std.specs.List.{AllByRecursion as Each}
use Rattle.std.proofs.lemmas.Bool.{cases_eq}
use Rattle.std.proofs.lemmas.List.{length-append}
use Rattle.std.proofs.lemmas.List.Elements.{All-from_recursion, recursion_from_All}
use borrow.Author.Differences.{ints}
use Rattle.frac_core.proofs.Integers.{mul-zero_ℤ, sign_cases}
use Rattle.frac_core.proofs.Lists.{each-at, each-from_map, each-joined, each-onto_map, length-mapped, pairs-rest}
use Rattle.problem_core.specs.declared.parts.Mark.{Mark}
use Rattle.problem_core.specs.declared.parts.Stay.{Stay}
use Rattle.problem_core.specs.declared.parts.Term.{Term}
use Rattle.problem_core.specs.Kept.{IsStay, IsWhole}
use Rattle.problem_core.specs.Layout.{Line, Problem, line_of_row, lines, stay_lines, value_at}
use Rattle.problem_core.specs.Corners.{IsCorner, IsIn, attr_column, equation, marks_of, one_column, place}
use Rattle.problem_core.specs.Rays.{HasRays}
use Rattle.problem_core.proofs.Forms.{each-impl, value-plus, value-scaled}
use Rattle.problem_core.proofs.Lines.{length-stays}
use Rattle.problem_core.proofs.Marks.{in-list}
use Rattle.corner_laws.specs.Laws.{IsLinear}
use Rattle.corner_laws.proofs.Counting.{head_pairs}
use Rattle.corner_laws.proofs.LinePlaces.{IsPlaced, whole-placed}
use Rattle.corner_laws.proofs.MarkWritings.Directions.{placed-mark}
use Rattle.corner_laws.proofs.Systems.{AreDistinct, Equation, HasKernel, kernel}
use Rattle.corner_laws.proofs.WrittenValues.{contains_each}
use Rattle.corner_laws.proofs.ZeroColumns.{IsDirection, all-marks, direction_still, direction_zero}

-- ---- the columns of a corner

-- the columns of the inside marks and of the attributes
abbrev pub columns : Problem → List Mark → List ℕ
columns p at = map place at ++ map (λ (s : Stay). attr_column s.attr) p.stays

-- what each line's equation gives
abbrev pub line_value : Line → Equation
line_value l x = value_at x (equation l)

abbrev pub equations : Problem → List Equation
equations p = map line_value (lines p)

form-linear : (form : List Term) → IsLinear (λ x. value_at x form)
form-linear form a b x y =
    value-plus (λ v. a *ℤ x v) (λ v. b *ℤ y v) form ∙ ap₂ ◌+ℤ◌ (value-scaled a x form) (value-scaled b y form)

pub equations-linear : (p : Problem) → Each IsLinear (equations p)
equations-linear p = each-onto_map IsLinear line_value (lines p) (all (lines p))
  where
    all : (ls : List Line) → Each (λ l. IsLinear (λ x. value_at x (equation l))) ls
    all [] = tt
    all (l ∷ ls) = (form-linear (equation l), all ls)

-- as many as equations
pub columns-count : (p : Problem) (at : List Mark) → length at ≡ length p.rows → length (equations p) ≡ length (columns p at)
columns-count p at count =
    let rows : length (map line_of_row p.rows) ≡ length p.rows = length-mapped line_of_row p.rows in
    let marks : length (map place at) ≡ length at = length-mapped place at in
    let stays : length (map (λ (s : Stay). attr_column s.attr) p.stays) ≡ length p.stays = length-mapped (λ (s : Stay). attr_column s.attr) p.stays in
    let all : length (lines p) ≡ length p.rows + length p.stays = length-append (map line_of_row p.rows) (stay_lines 1001 p.stays) ∙ ap₂ ◌+◌ rows (length-stays 1001 p.stays) in
    let both : length (columns p at) ≡ length at + length p.stays = length-append (map place at) (map (λ (s : Stay). attr_column s.attr) p.stays) ∙ ap₂ ◌+◌ marks stays in
    length-mapped line_value (lines p) ∙ all ∙ ap (λ (n : ℕ). n + length p.stays) (sym count) ∙ sym both

-- ---- they are distinct

distinct-map : {X : Type 0} (f : X → ℕ) (xs : List X) → AllPairs (λ x y. f x ≢ f y) xs → AreDistinct (map f xs)
distinct-map f [] h = tt
distinct-map f (x ∷ xs) h = (
  each-onto_map (λ d. d ≢ f x) f xs (each-impl (λ y. f x ≢ f y) (λ y. f y ≢ f x) xs (λ y n e. n (sym e)) (recursion_from_All (λ y. f x ≢ f y) xs (head_pairs (λ x y. f x ≢ f y) x xs h))),
  distinct-map f xs (pairs-rest (λ x y. f x ≢ f y) x xs h),
)

distinct-both : (xs ys : List ℕ) → AreDistinct xs → AreDistinct ys → Each (λ x. Each (λ y. y ≢ x) ys) xs → AreDistinct (xs ++ ys)
distinct-both [] ys a b h = b
distinct-both (x ∷ xs) ys a b h = (each-joined (λ d. d ≢ x) xs ys a.0 h.0, distinct-both xs ys a.1 b h.1)

-- a column below those of attributes
past-attrs : (v : ℕ) (stays : List Stay) → v < attr_column 0 → Each (λ d. d ≢ v) (map (λ (s : Stay). attr_column s.attr) stays)
past-attrs v [] low = tt
past-attrs v (s ∷ stays) low = ((λ e. absurd (omega (arith, low, e))), past-attrs v stays low)

attr-columns : (stays : List Stay) → AllPairs (λ (s t : Stay). s.attr ≢ t.attr) stays → AreDistinct (map (λ (s : Stay). attr_column s.attr) stays)
attr-columns stays apart = distinct-map (λ (s : Stay). attr_column s.attr) stays (λ i j d less within e. apart i j d less within (omega (arith, e)))

pub inside-marks : (p : Problem) (at : List Mark) → IsCorner p at → Each (λ m. Contains (map place (marks_of (lines p))) (place m)) at
inside-marks p at corner = recursion_from_All (λ m. Contains (map place (marks_of (lines p))) (place m)) at corner.marks

pub columns-distinct : (p : Problem) (at : List Mark) → IsPlaced p → IsCorner p at → AreDistinct (columns p at)
columns-distinct p at placed corner =
    distinct-both (map place at) (map (λ (s : Stay). attr_column s.attr) p.stays) (distinct-map place at corner.apart) (attr-columns p.stays placed.apart)
    (each-onto_map (λ x. Each (λ y. y ≢ x) (map (λ (s : Stay). attr_column s.attr) p.stays)) place at
    (each-impl (λ m. Contains (map place (marks_of (lines p))) (place m)) (λ m. Each (λ y. y ≢ place m) (map (λ (s : Stay). attr_column s.attr) p.stays)) at (λ m is. past-attrs (place m) p.stays (placed-mark p (place m) placed is)) (inside-marks p at corner)))

-- an outside mark's column is none of them
pub outside-column : (p : Problem) (at : List Mark) (v : ℕ) → IsPlaced p → Contains (map place (marks_of (lines p))) v → (IsIn v at → ⊥) → Each (λ d. d ≢ v) (columns p at)
outside-column p at v placed mark out =
    each-joined (λ d. d ≢ v) (map place at) (map (λ (s : Stay). attr_column s.attr) p.stays)
    (each-onto_map (λ d. d ≢ v) place at (each-impl (λ m. IsIn (place m) at) (λ m. place m ≢ v) at (λ m i e. out (subst (λ (c : ℕ). IsIn c at) e i)) (in-list at)))
    (past-attrs v p.stays (placed-mark p v placed mark))

-- nor is the one column
low-stays : (stays : List Stay) → Each IsStay stays → Each (λ d. d ≢ one_column) (map (λ (s : Stay). attr_column s.attr) stays)
low-stays [] h = tt
low-stays (s ∷ stays) h = ((λ e. absurd (omega (arith, h.0.attr.1, e))), low-stays stays h.1)

pub one-outside : (p : Problem) (at : List Mark) → IsPlaced p → IsCorner p at → Each (λ d. d ≢ one_column) (columns p at)
one-outside p at placed corner =
    each-joined (λ d. d ≢ one_column) (map place at) (map (λ (s : Stay). attr_column s.attr) p.stays)
    (each-onto_map (λ d. d ≢ one_column) place at (each-impl (λ m. Contains (map place (marks_of (lines p))) (place m)) (λ m. place m ≢ one_column) at (λ m is e. (let low = placed-mark p (place m) placed is in absurd (omega (arith, low, e)))) (inside-marks p at corner)))
    (low-stays p.stays placed.stays)

-- a direction in which no outside mark moves is 0 at all of them
pub columns-none : (p : Problem) (at : List Mark) (d : ℕ → ℤ) → IsCorner p at → IsDirection p d → ((v : ℕ) → (IsIn v at → ⊥) → Contains (map place (marks_of (lines p))) v → d v ≡ pos 0) → Each (λ c. d c ≡ pos 0) (columns p at)
columns-none p at d corner dir zeros =
    each-joined (λ c. d c ≡ pos 0) (map place at) (map (λ (s : Stay). attr_column s.attr) p.stays)
    (each-onto_map (λ c. d c ≡ pos 0) place at (each-impl (λ m. Contains (map place (marks_of (lines p))) (place m)) (λ m. d (place m) ≡ pos 0) at (λ m is. direction_zero p at d (place m) corner dir zeros is) (inside-marks p at corner)))
    (each-onto_map (λ c. d c ≡ pos 0) (λ (s : Stay). attr_column s.attr) p.stays (direction_still p at d corner dir zeros))

-- ---- the ray of an outside mark

turned-value : (x : ℕ → ℤ) (form : List Term) → value_at x form ≡ pos 0 → value_at (λ v. negsuc 0 *ℤ x v) form ≡ pos 0
turned-value x form e = value-scaled (negsuc 0) x form ∙ ap (λ (z : ℤ). negsuc 0 *ℤ z) e ∙ mul-zero_ℤ (negsuc 0)

turned-none : (z : ℤ) → z ≡ pos 0 → negsuc 0 *ℤ z ≡ pos 0
turned-none z e = ap (λ (y : ℤ). negsuc 0 *ℤ y) e ∙ mul-zero_ℤ (negsuc 0)

turned-up : (z : ℤ) → pos 0 <ℤ neg_ℤ z → pos 0 <ℤ (negsuc 0 *ℤ z)
turned-up z h = omega (arith, ints, h)

pub placed_rays : (p : Problem) (at : List Mark) → IsPlaced p → IsCorner p at → HasRays p at
placed_rays p at placed corner c mark out =
    let apart : AreDistinct (c ∷ columns p at) = (outside-column p at c placed mark out, columns-distinct p at placed corner) in
    let count : length (equations p) ≡ length (columns p at) = columns-count p at corner.count in
    let k : HasKernel (c ∷ columns p at) (equations p) = kernel (c ∷ columns p at) (equations p) (equations-linear p) (omega (arith, count)) apart in
    let low : c < attr_column 0 = placed-mark p c placed mark in
    let still : k.num one_column ≡ pos 0 = k.outside one_column ((λ e. absurd (omega (arith, low, e))), one-outside p at placed corner) in
    let holds : All (λ l. value_at k.num (equation l) ≡ pos 0) (lines p) =
    All-from_recursion (λ l. value_at k.num (equation l) ≡ pos 0) (lines p) (each-from_map (λ (f : Equation). f k.num ≡ pos 0) line_value (lines p) k.holds) in
    let zeros : (v : ℕ) → Contains (map place (marks_of (lines p))) v → (IsIn v at → ⊥) → v ≢ c → k.num v ≡ pos 0 = λ v is none ne. k.outside v ((λ e. ne (sym e)), outside-column p at v placed is none) in
    elim (sign_cases (k.num c)) [
      | inl none ↦
          let all : Each (λ d. k.num d ≡ pos 0) (columns p at) =
          columns-none p at k.num corner (record { holds = holds; still = still }) (λ v gone is. elim (cases_eq v c) [
            | inl e ↦ ap k.num e ∙ none
            | inr n ↦ zeros v is gone n
          ]) in
          absurd (k.some (each-at (λ d. k.num d ≡ pos 0) (c ∷ columns p at) k.at (none, all) k.inside))
      | inr (inl up) ↦ (
        k.num,
        record {
          holds = holds;
          still = still;
          here = up;
          other = All-from_recursion (λ m. (IsIn (place m) at → ⊥) → place m ≢ c → k.num (place m) ≡ pos 0) (marks_of (lines p))
              (each-impl (λ m. Contains (map place (marks_of (lines p))) (place m)) (λ m. (IsIn (place m) at → ⊥) → place m ≢ c → k.num (place m) ≡ pos 0) (marks_of (lines p)) (λ m is gone ne. zeros (place m) is gone ne) (all-marks (marks_of (lines p))));
        },
      )
      | inr (inr down) ↦ (
        λ v. negsuc 0 *ℤ k.num v,
        record {
          holds = All-from_recursion (λ l. value_at (λ v. negsuc 0 *ℤ k.num v) (equation l) ≡ pos 0) (lines p)
              (each-impl (λ l. value_at k.num (equation l) ≡ pos 0) (λ l. value_at (λ v. negsuc 0 *ℤ k.num v) (equation l) ≡ pos 0) (lines p) (λ l e. turned-value k.num (equation l) e) (recursion_from_All (λ l. value_at k.num (equation l) ≡ pos 0) (lines p) holds));
          still = turned-none (k.num one_column) still;
          here = turned-up (k.num c) down;
          other = All-from_recursion (λ m. (IsIn (place m) at → ⊥) → place m ≢ c → negsuc 0 *ℤ k.num (place m) ≡ pos 0) (marks_of (lines p))
              (each-impl (λ m. Contains (map place (marks_of (lines p))) (place m)) (λ m. (IsIn (place m) at → ⊥) → place m ≢ c → negsuc 0 *ℤ k.num (place m) ≡ pos 0) (marks_of (lines p)) (λ m is gone ne. turned-none (k.num (place m)) (zeros (place m) is gone ne)) (all-marks (marks_of (lines p))));
        },
      )
    ]

pub corner_has_rays : (p : Problem) (at : List Mark) → IsWhole p → IsCorner p at → HasRays p at
corner_has_rays p at whole corner = placed_rays p at (whole-placed p whole) corner
