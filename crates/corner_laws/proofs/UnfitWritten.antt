-- What is told as unfit has a writing.
use Rattle.std.proofs.Common.{◌≡◌, ◌∙◌, ℕ, suc, ◌-◌, ◌<◌, ◌++◌, Bool, true, false, cond, nat_eq, nat_lt, List, [], ◌∷◌, length, map, take, drop, ℤ, pos, ◌+ℤ◌, ◌*ℤ◌, refl, sym, ap, ap₂, subst, arith, inl, inr, All}
use Rattle.std.specs.List.{AllByRecursion as Each}
use Rattle.std.proofs.lemmas.List.Elements.{All-from_recursion, recursion_from_All}
use borrow.Author.Differences.{ints}
use Rattle.frac_core.proofs.Integers.{add-mul_right, mul_assoc_ℤ, zero-mul_ℤ}
use Rattle.frac_core.proofs.Lists.{each-from_map, each-left, take-drop}
use Rattle.problem_core.specs.declared.parts.Mark.{Mark}
use Rattle.problem_core.specs.declared.parts.Side.TheVariants.{Under, Over}
use Rattle.problem_core.specs.declared.parts.Term.{Term}
use Rattle.problem_core.specs.declared.stops.What.{What}
use Rattle.problem_core.specs.declared.stops.What.TheVariants.{Attr, Mark as MarkOf, Level as LevelOf}
use Rattle.problem_core.specs.declared.stops.Quantity.{Quantity}
use Rattle.problem_core.specs.declared.stops.Quantity.TheVariants.{Plain, Terms, Rows, Shifts}
use Rattle.problem_core.specs.Layout.{HasStay, IsCovered, Line, Problem, Row, line_of_row, lines, stay_lines, sum_of, value_at}
use Rattle.problem_core.specs.Kept.{IsRow, IsWhole}
use Rattle.problem_core.specs.Corners.{IsCorner, IsIn, Point, StandsAt, attr_column, marks_of, one_column, place, place_of}
use Rattle.problem_core.specs.Unfit.{AreSameButConstants, IsUnfit, IsUnfitWhat, first_shifted, first_terms, over_mark, same_constant, with_first_shifts, without_constant}
use Rattle.problem_core.proofs.Forms.{each-both, each-impl, value-plus, value-scaled}
use Rattle.corner_laws.specs.CornerLaws.{HasWriting, IsWrittenWhat, IsWrittenThere}
use Rattle.corner_laws.specs.Laws.{IsFixedAt, IsLinear, IsMarkAt}
use Rattle.corner_laws.proofs.CornerRays.{corner_has_rays, inside-marks}
use Rattle.corner_laws.proofs.LevelCosts.LevelExists.{level_writing_exists}
use Rattle.corner_laws.proofs.LightRows.{rows-written}
use Rattle.corner_laws.proofs.MarkWritings.LowestForms.{attrs_are_fixed, column_has_writing, marks_are_fixed, writing_exists}
use Rattle.corner_laws.proofs.OtherConstants.{alike-whole, constants_keep_corner}
use Rattle.corner_laws.proofs.WrittenValues.{contains_each}
use Rattle.corner_laws.proofs.ZeroColumns.{here-in}

-- ---- an attribute, a mark or a level

inside-mark : (p : Problem) (at : List Mark) (c : ℕ) → IsCorner p at → IsIn c at → IsMarkAt p c
inside-mark p at c corner i = contains_each (IsMarkAt p) at c (inside-marks p at corner) i

pub what-written : (p : Problem) (at : List Mark) (what : What) → IsWhole p → IsCorner p at → IsUnfitWhat p at what → IsWrittenWhat p at what
what-written p at (Attr attr) whole corner h = column_has_writing p at (attr_column attr) corner (corner_has_rays p at whole corner) (inr (attr, h.0, refl))
what-written p at (MarkOf m) whole corner h = column_has_writing p at (place m) corner (corner_has_rays p at whole corner) (inl (inside-mark p at (place m) corner h.0))
what-written p at (LevelOf level) whole corner h = λ k is. level_writing_exists p at k whole corner (corner_has_rays p at whole corner)

-- ---- a row's first terms

form-linear : (terms : List Term) → IsLinear (λ x. value_at (λ v. x (attr_column v)) terms)
form-linear terms a b x y =
    value-plus (λ v. a *ℤ x (attr_column v)) (λ v. b *ℤ y (attr_column v)) terms
    ∙ ap₂ ◌+ℤ◌ (value-scaled a (λ v. x (attr_column v)) terms) (value-scaled b (λ v. y (attr_column v)) terms)

column-linear : (c : ℕ) → IsLinear (λ x. x c)
column-linear c a b x y = refl

next-fixed : (k a b c d one other : ℤ) → a *ℤ other ≡ b *ℤ one → c *ℤ other ≡ d *ℤ one → (k *ℤ a +ℤ c) *ℤ other ≡ (k *ℤ b +ℤ d) *ℤ one
next-fixed k a b c d one other e f =
    let g : k *ℤ (a *ℤ other) ≡ k *ℤ (b *ℤ one) = ap (λ (z : ℤ). k *ℤ z) e in
    omega (arith, ints, f, g, add-mul_right (k *ℤ a) c other, add-mul_right (k *ℤ b) d one, mul_assoc_ℤ k a other, mul_assoc_ℤ k b one)

form-fixed : (p : Problem) (at : List Mark) (terms : List Term) → IsCorner p at → Each (λ t. HasStay p.stays t.attr) terms → IsFixedAt p at (λ x. value_at (λ v. x (attr_column v)) terms)
form-fixed p at [] corner h x y here there = zero-mul_ℤ (y.num one_column) ∙ sym (zero-mul_ℤ (x.num one_column))
form-fixed p at (t ∷ terms) corner h x y here there =
    next-fixed t.by (x.num (attr_column t.attr)) (y.num (attr_column t.attr)) (value_at (λ v. x.num (attr_column v)) terms) (value_at (λ v. y.num (attr_column v)) terms) (x.num one_column) (y.num one_column)
    (attrs_are_fixed p at t.attr corner h.0 x y here there) (form-fixed p at terms corner h.1 x y here there)

terms-linear : (r : Row) (j : ℕ) → IsLinear (first_terms r j)
terms-linear r j = elim (nat_lt (length r.terms) j) as (λ b. IsLinear (λ x. cond b (x (place (over_mark r.id))) (sum_of (λ t. t.by *ℤ x (attr_column t.attr)) (take j r.terms)))) [
  | true ↦ column-linear (place (over_mark r.id))
  | false ↦ form-linear (take j r.terms)
]

terms-fixed : (p : Problem) (at : List Mark) (r : Row) (j : ℕ) → IsCorner p at → IsMarkAt p (place (over_mark r.id)) → IsCovered p.stays r → IsFixedAt p at (first_terms r j)
terms-fixed p at r j corner mark covered = elim (nat_lt (length r.terms) j) as (λ b. IsFixedAt p at (λ x. cond b (x (place (over_mark r.id))) (sum_of (λ t. t.by *ℤ x (attr_column t.attr)) (take j r.terms)))) [
  | true ↦ marks_are_fixed p at (place (over_mark r.id)) corner mark
  | false ↦ form-fixed p at (take j r.terms) corner (each-left (λ t. HasStay p.stays t.attr) (take j r.terms) (drop j r.terms) (subst (Each (λ t. HasStay p.stays t.attr)) (sym (take-drop r.terms j)) (recursion_from_All (λ t. HasStay p.stays t.attr) r.terms covered)))
]

row-marks : (p : Problem) → Each (λ r. IsMarkAt p (place (over_mark r.id))) p.rows
row-marks p =
    each-from_map (λ (l : Line). IsMarkAt p (place_of l.name Over)) line_of_row p.rows
    (each-left (λ (l : Line). IsMarkAt p (place_of l.name Over)) (map line_of_row p.rows) (stay_lines 1001 p.stays)
    (each-impl (λ l. IsMarkAt p (place_of l.name Under) × IsMarkAt p (place_of l.name Over)) (λ l. IsMarkAt p (place_of l.name Over)) (lines p) (λ l h. h.1) (here-in (lines p))))

pub terms-written : (p : Problem) (at : List Mark) (j : ℕ) → IsWhole p → IsCorner p at → Each (λ r. HasWriting p at (first_terms r j)) p.rows
terms-written p at j whole corner =
    each-impl (λ r. IsMarkAt p (place (over_mark r.id)) × IsCovered p.stays r) (λ r. HasWriting p at (first_terms r j)) p.rows
    (λ r h. writing_exists p at (first_terms r j) corner (corner_has_rays p at whole corner) (terms-linear r j) (terms-fixed p at r j corner h.0 h.1))
    (each-both (λ r. IsMarkAt p (place (over_mark r.id))) (IsCovered p.stays) p.rows (row-marks p) (recursion_from_All (IsCovered p.stays) p.rows whole.covered))

-- ---- the first changed constants

chosen : (b : Bool) (o r : Row) → without_constant o ≡ without_constant r → without_constant r ≡ without_constant (cond b o r)
chosen true o r e = sym e
chosen false o r e = refl

next-alike : (b c : Bool) (o r : Row) (rows same other : List Row) → without_constant o ≡ without_constant r → AreSameButConstants rows same → AreSameButConstants rows other
    → AreSameButConstants (r ∷ rows) (cond b (o ∷ same) (cond c o r ∷ other))
next-alike true c o r rows same other e f g = ap₂ (λ (s : Row) (ss : List Row). s ∷ ss) (sym e) f
next-alike false c o r rows same other e f g = ap₂ (λ (s : Row) (ss : List Row). s ∷ ss) (chosen c o r e) g

pub first-alike : (j : ℕ) (old rows : List Row) → AreSameButConstants old rows → AreSameButConstants rows (first_shifted j old rows)
first-alike j [] [] e = refl
first-alike j [] (r ∷ rows) e = let n = ap length e in absurd (omega (arith, n))
first-alike j (o ∷ old) [] e = let n = ap length e in absurd (omega (arith, n))
first-alike j (o ∷ old) (r ∷ rows) e =
    let head : without_constant o ≡ without_constant r = cc in
    let tail : map without_constant old ≡ map without_constant rows = cc in
    next-alike (same_constant o.constant r.constant) (nat_eq j 0) o r rows (first_shifted j old rows) (first_shifted (j - 1) old rows) head (first-alike j old rows tail) (first-alike (j - 1) old rows tail)

next-rows : (b c : Bool) (o r : Row) (same other : List Row) → IsRow o → IsRow r → Each IsRow same → Each IsRow other → Each IsRow (cond b (o ∷ same) (cond c o r ∷ other))
next-rows true c o r same other e f g h = (e, g)
next-rows false true o r same other e f g h = (e, h)
next-rows false false o r same other e f g h = (f, h)

pub first-rows : (j : ℕ) (old rows : List Row) → Each IsRow old → Each IsRow rows → Each IsRow (first_shifted j old rows)
first-rows j [] rows e f = tt
first-rows j (o ∷ old) [] e f = tt
first-rows j (o ∷ old) (r ∷ rows) e f =
    next-rows (same_constant o.constant r.constant) (nat_eq j 0) o r (first_shifted j old rows) (first_shifted (j - 1) old rows) e.0 f.0 (first-rows j old rows e.1 f.1) (first-rows (j - 1) old rows e.1 f.1)

pub shifts-written : (p : Problem) (old : List Row) (at : List Mark) (what : What) (j : ℕ) → IsWhole p → All IsRow old → IsCorner p at → AreSameButConstants old p.rows → IsUnfitWhat (with_first_shifts old j p) at what → IsWrittenWhat (with_first_shifts old j p) at what
shifts-written p old at what j whole rows corner same h =
    let each : All IsRow (first_shifted j old p.rows) = All-from_recursion IsRow (first_shifted j old p.rows) (first-rows j old p.rows (recursion_from_All IsRow old rows) (recursion_from_All IsRow p.rows whole.rows)) in
    let alike : AreSameButConstants p.rows (first_shifted j old p.rows) = first-alike j old p.rows same in
    what-written (with_first_shifts old j p) at what (alike-whole p (first_shifted j old p.rows) whole each alike) (constants_keep_corner p (first_shifted j old p.rows) at whole each alike corner) h

-- ---- each kind

pub unfit_is_written : (p : Problem) (old : List Row) (at : List Mark) (q : Quantity) → IsWhole p → All IsRow old → IsCorner p at → IsUnfit p old at q → IsWrittenThere p old at q
unfit_is_written p old at (Plain what) whole rows corner h = what-written p at what whole corner h
unfit_is_written p old at (Terms mark j) whole rows corner h =
    All-from_recursion (λ r. mark ≡ over_mark r.id → HasWriting p at (first_terms r j)) p.rows
    (each-impl (λ r. HasWriting p at (first_terms r j)) (λ r. mark ≡ over_mark r.id → HasWriting p at (first_terms r j)) p.rows (λ r w is. w) (terms-written p at j whole corner))
unfit_is_written p old at (Rows level j) whole rows corner h = λ k is. rows-written p k j at whole corner
unfit_is_written p old at (Shifts what j) whole rows corner h = shifts-written p old at what j whole rows corner h.0 h.3
