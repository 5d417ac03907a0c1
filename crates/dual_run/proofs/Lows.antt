-- Marks whose values are negative.
use Rattle.std.proofs.Common.{◌≡◌, ◌∙◌, ◌⊎◌, inl, inr, ℕ, zero, suc, ◌+◌, ◌-◌, ◌<◌, List, [], ◌∷◌, length, slice_get, slice_index_or, ℤ, pos, negsuc, ◌*ℤ◌, ◌≤ℤ◌, ◌<ℤ◌, refl, sym, subst, arith, Contains}
use Rattle.std.specs.List.{swap_remove}
use Rattle.std.specs.List.Sorted.{IsPermutation}
use Rattle.std.proofs.lemmas.Bool.{cases_Bool}
use Rattle.std.proofs.lemmas.List.Elements.{recursion_from_All, All-from_recursion}
use Rattle.std.proofs.lemmas.List.Sorted.{All-permutation, Contains-permutation, IsPermutation-swap_remove}
use Rattle.std.proofs.lemmas.Option.{slice_get_read}
use borrow.Author.Differences.{ints}
use lib.IntN.{*ℤ_comm}
use Rattle.frac_core.specs.Fraction.{Fraction}
use Rattle.problem_core.specs.declared.parts.Mark.{Mark}
use Rattle.problem_core.specs.declared.parts.Side.{Side}
use Rattle.problem_core.specs.declared.parts.Side.TheVariants.{Under, Over}
use Rattle.problem_core.specs.declared.parts.RowName.{RowName}
use Rattle.problem_core.specs.Layout.{Problem, lines}
use Rattle.problem_core.specs.Corners.{HasNegativeValue, IsIn, NoNegativeValue, Point, StandsAt, marks_of, one_column, place}
use Rattle.problem_core.specs.Levels.{CostsAbove}
use Rattle.problem_core.proofs.Corners.CornerFacts.{is_place}
use Rattle.problem_core.proofs.Forms.{each-impl}
use Rattle.corner_laws.specs.Runs.{other_mark, other_side}
use Rattle.corner_laws.proofs.Counting.{IsIn-from_is_place}
use Rattle.corner_laws.proofs.RunSteps.DualRuns.{other_mark_grows}
use Rattle.corner_laws.proofs.MarkWritings.LowestForms.{column_has_writing, marks_are_fixed}
use Rattle.corner_laws.proofs.WrittenValues.{contains_each}
use Rattle.corner_laws.proofs.ZeroColumns.{not-in}
use Rattle.corner_view.specs.Seen.{HasValueAt, IsKeptCorner, IsMarkOf, IsNamed}
use Rattle.corner_ends.proofs.Marks.{in_mark, same_got}
use Rattle.dual_run.specs.Leaving.{AreLowLines, HasNoLow, IsLow, MayLeave}
use Rattle.dual_run.specs.FoundLows.{IsTwice}
use Rattle.corner_view.proofs.Facts.{mark_named, named_in as named_mark, up_or_low}
use Rattle.corner_lines.proofs.ColumnsBelow.{low_from}
use Rattle.frac_core.proofs.Numbers.{one-times as times-one, up-times}
use Rattle.frac_core.proofs.Products.{above_zero as den-up}
use Rattle.problem_core.proofs.Marks.{in-list as in_list}

-- ---- signs

down-times : (a o : ℤ) → a <ℤ pos 0 → pos 0 <ℤ o → (a *ℤ o) <ℤ pos 0
down-times a (negsuc n) low up = absurd (omega (arith, ints, up))
down-times a (pos n) low up = low_from 1 n a (a *ℤ pos n) (omega (arith, ints, up)) (times-one (a *ℤ pos n) ∙ *ℤ_comm a (pos n)) low

-- where a*x = b*y, and x and y are above 0
pub same_sign : (a b x y : ℤ) → pos 0 <ℤ x → pos 0 <ℤ y → a *ℤ x ≡ b *ℤ y → a <ℤ pos 0 → b <ℤ pos 0
same_sign a (negsuc b) x y ux uy e low = omega (arith, ints)
same_sign a (pos b) x y ux uy e low =
    let one : (a *ℤ x) <ℤ pos 0 = down-times a x low ux in
    let two : pos 0 ≤ℤ (pos b *ℤ y) = up-times (pos b) y (omega (arith, ints)) uy in
    absurd (omega (arith, ints, one, two, e))

-- ---- one mark

-- the value is negative at each point of the corner
pub low_everywhere : (p : Problem) (at : List Mark) (m : Mark) (x : Point) → IsKeptCorner p at → IsMarkOf p m → StandsAt p at x → HasNegativeValue p at m → x.num (place m) <ℤ pos 0
low_everywhere p at m x kept mark here (y, there, low) =
    same_sign (y.num (place m)) (x.num (place m)) (x.num one_column) (y.num one_column) x.positive y.positive (marks_are_fixed p at (place m) kept.corner mark y x there here) low

inside-low : (p : Problem) (at : List Mark) (m : Mark) (x : Point) → IsMarkOf p m → StandsAt p at x → x.num (place m) <ℤ pos 0 → IsIn (place m) at
inside-low p at m x mark here low =
    elim (cases_Bool (is_place at (place m))) [
      | inl i ↦ IsIn-from_is_place (place m) at i
      | inr o ↦
          let none : x.num (place m) ≡ pos 0 = contains_each (λ c. (IsIn c at → ⊥) → x.num c ≡ pos 0) (marks_of (lines p)) (place m) (recursion_from_All (λ n. (IsIn (place n) at → ⊥) → x.num (place n) ≡ pos 0) (marks_of (lines p)) here.1) mark (not-in at (place m) o) in
          absurd (omega (arith, ints, none, low))
    ]

pub low_value : (p : Problem) (at : List Mark) (m : Mark) (f : Fraction) → IsMarkOf p m → 0 < f.den → HasValueAt p at (place m) f → f.num <ℤ pos 0 → IsLow p at m
low_value p at m f mark den (x, here, e) low =
    let down : x.num (place m) <ℤ pos 0 = same_sign f.num (x.num (place m)) (x.num one_column) (pos f.den) x.positive (den-up f.den den) (sym e) low in
    record { inside = inside-low p at m x mark here down; value = (x, here, down) }

pub no_low_value : (p : Problem) (at : List Mark) (m : Mark) (f : Fraction) → IsKeptCorner p at → IsMarkOf p m → 0 < f.den → HasValueAt p at (place m) f → pos 0 ≤ℤ f.num → HasNegativeValue p at m → ⊥
no_low_value p at m f kept mark den (x, here, e) up value =
    let down : x.num (place m) <ℤ pos 0 = low_everywhere p at m x kept mark here value in
    let low : f.num <ℤ pos 0 = same_sign (x.num (place m)) f.num (pos f.den) (x.num one_column) (den-up f.den den) x.positive e down in
    omega (arith, ints, up, low)

first-or : (xs : List RowName) (x y : RowName) → Contains (x ∷ xs) y → Contains xs y ⊎ (x ≡ y)
first-or xs x y (zero, within, is) = inr is
first-or xs x y (suc k, within, is) = inl (k, omega (arith, within), is)

pub same_or_other : (a b : Side) → (b ≡ a) ⊎ (b ≡ other_side a)
same_or_other Under Under = inl refl
same_or_other Under Over = inr refl
same_or_other Over Under = inr refl
same_or_other Over Over = inl refl

pub outside_not_low : (p : Problem) (at : List Mark) (m : Mark) → IsMarkOf p m → (IsIn (place m) at → ⊥) → HasNegativeValue p at m → ⊥
outside_not_low p at m mark out (x, stands, low) = out (inside-low p at m x mark stands low)

-- ---- the listed lines

-- the other mark of an inside one's line is a mark
pub other_is_mark : (p : Problem) (at : List Mark) (m : Mark) → IsKeptCorner p at → IsIn (place m) at → IsMarkOf p (other_mark m)
other_is_mark p at m kept inside = named_mark p m.row (other_side m.side) (mark_named p m (in_mark p at m kept inside))

-- a line has one inside mark at most
pub other_not_low : (p : Problem) (at : List Mark) (m : Mark) → IsKeptCorner p at → IsIn (place m) at → HasNegativeValue p at (other_mark m) → ⊥
other_not_low p at m kept inside =
    let t = column_has_writing p at (place m) kept.corner kept.rays (inl (in_mark p at m kept inside)) in
    outside_not_low p at (other_mark m) (other_is_mark p at m kept inside)
    (other_mark_grows p at m (record { scale = t.0; form = t.1; num = t.2; den = t.3 }) kept.whole kept.corner inside t.4).0

-- where no line is listed no value is negative
pub no_low_left : (p : Problem) (at : List Mark) (names : List RowName) → IsKeptCorner p at → names ≡ [] → AreLowLines p at names → NoNegativeValue p at
no_low_left p at names kept none lows = (
  kept.corner.point,
  kept.corner.stands,
  All-from_recursion (λ m. pos 0 ≤ℤ kept.corner.point.num (place m)) at
      (each-impl (λ m. IsIn (place m) at) (λ m. pos 0 ≤ℤ kept.corner.point.num (place m)) at
      (λ m inside. elim (up_or_low (kept.corner.point.num (place m))) [
        | inl up ↦ up
        | inr low ↦
            absurd (nothing m.row (subst (λ (xs : List RowName). Contains xs m.row) none (lows.low m (record { inside = inside; value = (kept.corner.point, kept.corner.stands, low) }))))
      ])
      (in_list at)),
)
  where
    nothing : (name : RowName) → Contains [] name → ⊥
    nothing name (k, within, is) = omega (arith, within)

-- the first one of them in some order is listed twice or has no negative value
taken : (p : Problem) (at : List Mark) (names rest : List RowName) (name : RowName) → IsPermutation names (name ∷ rest) → Contains rest name ⊎ HasNoLow p at name → AreLowLines p at names → AreLowLines p at rest
taken p at names rest name moved why lows = record {
  named = All-from_recursion (IsNamed p) rest (recursion_from_All (IsNamed p) (name ∷ rest) (All-permutation (IsNamed p) names (name ∷ rest) moved lows.named)).1;
  low = λ m low. elim (first-or rest name m.row (Contains-permutation names (name ∷ rest) m.row moved (lows.low m low))) [
    | inl in-rest ↦ in-rest
    | inr here ↦ elim why [
      | inl twice ↦ subst (Contains rest) here twice
      | inr none ↦ absurd (none m.side (subst (λ (n : RowName). HasNegativeValue p at (record { row = n; side = m.side })) (sym here) low.value))
    ]
  ];
}

-- the one at this place is taken off
pub without : (p : Problem) (at : List Mark) (names rest : List RowName) (i : ℕ) (name gone : RowName) → i < length names → name ≡ slice_index_or names i name → gone ≡ slice_index_or names i gone → rest ≡ swap_remove names i gone → Contains rest name ⊎ HasNoLow p at name → AreLowLines p at names → AreLowLines p at rest
without p at names rest i name gone within is was e why =
    let same : name ≡ gone = same_got (slice_get names i) name gone (slice_get_read names (length names) i name refl within is) (slice_get_read names (length names) i gone refl within was) in
    taken p at names rest gone
    (subst (λ (xs : List RowName). IsPermutation names (gone ∷ xs)) (sym e) (IsPermutation-swap_remove names i gone within was))
    (subst (λ (n : RowName). Contains rest n ⊎ HasNoLow p at n) same why)

-- the one before it stays
pub twin : (names rest : List RowName) (i : ℕ) (name : RowName) → IsTwice names i → i < length names → name ≡ slice_index_or names i name → length rest + 1 ≡ length names → ((k : ℕ) (d : RowName) → (k ≡ i → ⊥) → k + 1 < length names → slice_index_or rest k d ≡ slice_index_or names k d) → Contains rest name
twin names rest i name (up, same) within is shorter stay =
    (i - 1, omega (arith, up, within, shorter), stay (i - 1) name (λ e. omega (arith, e, up)) (omega (arith, up, within)) ∙ same name ∙ sym is)

pub sorted : (p : Problem) (at : List Mark) (names moved : List RowName) → IsPermutation names moved → AreLowLines p at names → AreLowLines p at moved
sorted p at names moved h lows = record {
  named = All-permutation (IsNamed p) names moved h lows.named;
  low = λ m low. Contains-permutation names moved m.row h (lows.low m low);
}

pub may_leave : (p : Problem) (at : List Mark) (m : Mark) → IsKeptCorner p at → (CostsAbove p at 0 → ⊥) → IsLow p at m → MayLeave p at m
may_leave p at m kept free low = record {
  no_end = λ end. elim end [
    | inl (y, there, ups) ↦
        let up : pos 0 ≤ℤ y.num (place m) = contains_each (λ c. pos 0 ≤ℤ y.num c) at (place m) (recursion_from_All (λ n. pos 0 ≤ℤ y.num (place n)) at ups) low.inside in
        let down : y.num (place m) <ℤ pos 0 = low_everywhere p at m y kept (in_mark p at m kept low.inside) there low.value in
        omega (arith, ints, up, down)
    | inr costs ↦ free costs
  ];
  low = low;
}
