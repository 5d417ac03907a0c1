-- Scales and coefficients, as the lists have them.
use Rattle.std.proofs.Common.{◌≡◌, ◌≢◌, ◌∙◌, ℕ, cond, map, refl, sym, ap, subst, arith, ℤ, pos, neg_ℤ, ◌*ℤ◌, Contains, ne_eqb}
use Rattle.std.proofs.lemmas.List.Elements.{recursion_from_All}
use borrow.Author.Differences.{ints}
use Rattle.frac_core.specs.Fraction.{Fraction}
use Rattle.problem_core.specs.declared.parts.Mark.{Mark}
use Rattle.problem_core.specs.declared.parts.RowName.{RowName}
use Rattle.problem_core.specs.declared.parts.Side.{Side}
use Rattle.problem_core.specs.declared.parts.Side.TheVariants.{Under, Over}
use Rattle.problem_core.specs.declared.stops.What.{What}
use Rattle.problem_core.specs.declared.stops.What.TheVariants.{Attr as AttrOf, Mark as MarkOf, Level as LevelOf}
use Rattle.problem_core.specs.Layout.{HasStay, coefficient, lines}
use Rattle.problem_core.specs.Corners.{IsIn, IsWritingOf, attr_column, marks_of, place, place_of}
use Rattle.corner_laws.proofs.WrittenValues.{contains_each}
use Rattle.corner_laws.specs.Runs.{other_side}
use Rattle.corner_lines.specs.LineEquations.{inside_form, mark_form, sign_of}
use Rattle.corner_lines.proofs.Lines.LineWritings.{inside_coefficients, line_writing, mark_coefficients, mark_writing, other_coefficient}
use Rattle.corner_view.specs.declared.types.Owner.{Owner}
use Rattle.corner_view.specs.declared.types.Owner.TheVariants.{Level as LevelSlot, Attr as AttrSlot, Line as LineSlot}
use Rattle.corner_view.specs.Seen.{IsCoefficientOf, IsMarkOf, IsNamed, IsOutside, IsScaleOf, IsWritten}
use Rattle.corner_table.specs.Tables.{IsOfLine, Lists, attr_slot, entry, line_slot, marks_at, number, problem_of, sign_of_what, slot_at, standing_at, what_slot}
use Rattle.corner_table.specs.Kept.{AreSlots, IsAttrSlot, IsHeld, IsKept, IsLineSlot}
use Rattle.corner_table.proofs.Readings.SlotFacts.{any_is}
use Rattle.corner_table.proofs.Readings.MarkFacts.{inside_stands}
use Rattle.corner_table.proofs.Readings.ReadFacts.{attr_equation, inside_equation}
use Rattle.corner_view.proofs.Facts.{mark_named}
use Rattle.corner_lines.proofs.Lines.LineUnfits.{twice}

-- an inside mark is one of the problem
pub in_mark : (t : Lists) (m : Mark) → IsKept t → IsIn (place m) (marks_at t) → IsMarkOf (problem_of t) m
in_mark t m kept i = contains_each (λ c. Contains (map place (marks_of (lines (problem_of t)))) c) (marks_at t) (place m) (recursion_from_All (λ n. Contains (map place (marks_of (lines (problem_of t)))) (place n)) (marks_at t) kept.corner.marks) i

pub held_what : (t : Lists) (what : What) → IsKept t → IsWritten (problem_of t) (marks_at t) what → IsHeld (problem_of t) what
held_what t (AttrOf attr) kept h = h.1.0
held_what t (MarkOf m) kept h = mark_named (problem_of t) m (in_mark t m kept h.1.0)
held_what t (LevelOf level) kept h = absurd h.1

-- ---- scales

pub scale_of : (t : Lists) (what : What) → IsKept t → IsWritten (problem_of t) (marks_at t) what → IsScaleOf (problem_of t) (marks_at t) what (entry t (what_slot t what) (what_slot t what))
scale_of t (AttrOf attr) kept h =
    let e = attr_equation t attr kept h.1.0 in
    let f : Fraction = (standing_at t (attr_slot t attr)).value in (
      attr_column attr,
      (h.1.0, refl),
      (
        e.0,
        mark_form (number t (attr_slot t attr)) (lines (problem_of t)),
        f,
        line_writing (problem_of t) (marks_at t) (λ x. x (attr_column attr)) e.0 (number t (attr_slot t attr)) f.num f.den kept.whole e.2,
        e.1,
      ),
    )
scale_of t (MarkOf m) kept h =
    let is = in_mark t m kept h.1.0 in
    let e = inside_equation t m kept is (inside_stands t m h.1.0) in
    let f : Fraction = (standing_at t (line_slot t m.row)).value in (
      place m,
      (h.1.0, refl),
      (
        e.0,
        inside_form m.side m.row e.0 (number t (line_slot t m.row)) (lines (problem_of t)),
        f,
        subst (λ (z : ℤ). IsWritingOf (problem_of t) (marks_at t) (λ x. x (place m)) e.0 (inside_form m.side m.row e.0 (number t (line_slot t m.row)) (lines (problem_of t))) z f.den) (twice m.side f.num)
            (mark_writing (problem_of t) (marks_at t) m.row m.side e.0 (number t (line_slot t m.row)) (sign_of m.side *ℤ f.num) f.den kept.whole kept.corner h.1.0 e.2),
        e.1,
      ),
    )
scale_of t (LevelOf level) kept h = absurd h.1

-- ---- coefficients

pub is_other : (a b : Side) → (a ≡ b → ⊥) → other_side a ≡ b
is_other Under Under ne = absurd (ne refl)
is_other Under Over ne = refl
is_other Over Under ne = refl
is_other Over Over ne = absurd (ne refl)

abbrev line_of : Owner → RowName → Type 0
line_of LevelSlot name = ⊥
line_of (AttrSlot attr) name = ⊥
line_of (LineSlot k) name = k ≡ name

pub line_owner : (t : Lists) (name : RowName) → AreSlots t → IsNamed (problem_of t) name → (slot_at t (line_slot t name)).owner ≡ LineSlot name
line_owner t name h named = any_is (IsLineSlot t) (λ l. l.name ≡ name) (lines (problem_of t)) h.lines named (λ l s e. subst (λ (n : RowName). (slot_at t (line_slot t n)).owner ≡ LineSlot n) e s.owner)

pub attr_owner : (t : Lists) (attr : ℕ) → AreSlots t → HasStay t.stays attr → (slot_at t (attr_slot t attr)).owner ≡ AttrSlot attr
attr_owner t attr h has = any_is (λ s. IsAttrSlot t s.attr) (λ s. s.attr ≡ attr) t.stays h.attrs has (λ s k e. subst (λ (a : ℕ). (slot_at t (attr_slot t a)).owner ≡ AttrSlot a) e k.owner)

-- a line and an attribute have different slots, and so have two lines
pub attr_apart : (t : Lists) (attr : ℕ) (name : RowName) → AreSlots t → HasStay t.stays attr → IsNamed (problem_of t) name → line_slot t name ≢ attr_slot t attr
attr_apart t attr name h has named e = subst (λ (o : Owner). line_of o name) (sym (line_owner t name h named) ∙ ap (λ w. (slot_at t w).owner) e ∙ attr_owner t attr h has) refl

pub lines_apart : (t : Lists) (k name : RowName) → AreSlots t → IsNamed (problem_of t) k → IsNamed (problem_of t) name → line_slot t name ≡ line_slot t k → k ≡ name
lines_apart t k name h is named e = subst (λ (o : Owner). line_of o name) (sym (line_owner t name h named) ∙ ap (λ w. (slot_at t w).owner) e ∙ line_owner t k h is) refl

pub number_is : (t : Lists) (w : ℕ) (name : RowName) → line_slot t name ≢ w → number t w name ≡ neg_ℤ (entry t w (line_slot t name))
number_is t w name ne = ap (λ b. cond b (pos 0) (neg_ℤ (entry t w (line_slot t name)))) (ne_eqb (line_slot t name) w ne)

attr_sign : (side : Side) (y n : ℤ) → n ≡ neg_ℤ y → neg_ℤ (y *ℤ (sign_of side *ℤ pos 1)) ≡ sign_of side *ℤ n
attr_sign Under y n e = omega (arith, ints, e)
attr_sign Over y n e = omega (arith, ints, e)

mark_sign : (to side : Side) (y n : ℤ) → n ≡ neg_ℤ y → neg_ℤ (y *ℤ (sign_of to *ℤ sign_of side)) ≡ sign_of to *ℤ (sign_of side *ℤ n)
mark_sign Under Under y n e = omega (arith, ints, e)
mark_sign Under Over y n e = omega (arith, ints, e)
mark_sign Over Under y n e = omega (arith, ints, e)
mark_sign Over Over y n e = omega (arith, ints, e)

pub attr_coefficient : (t : Lists) (attr : ℕ) (m : Mark) → IsKept t → HasStay t.stays attr → IsMarkOf (problem_of t) m
    → IsCoefficientOf (problem_of t) (marks_at t) (AttrOf attr) m (neg_ℤ (entry t (attr_slot t attr) (line_slot t m.row) *ℤ (sign_of m.side *ℤ pos 1)))
attr_coefficient t attr m kept has is =
    let e = attr_equation t attr kept has in
    let named = mark_named (problem_of t) m is in
    let f : Fraction = (standing_at t (attr_slot t attr)).value in
    let c : coefficient (place m) (mark_form (number t (attr_slot t attr)) (lines (problem_of t))) ≡ sign_of m.side *ℤ number t (attr_slot t attr) m.row =
    any_is (λ l. coefficient (place_of l.name m.side) (mark_form (number t (attr_slot t attr)) (lines (problem_of t))) ≡ sign_of m.side *ℤ number t (attr_slot t attr) l.name) (λ l. l.name ≡ m.row) (lines (problem_of t))
    (mark_coefficients (problem_of t) (number t (attr_slot t attr)) m.side kept.whole) named
    (λ l h n. subst (λ (r : RowName). coefficient (place_of r m.side) (mark_form (number t (attr_slot t attr)) (lines (problem_of t))) ≡ sign_of m.side *ℤ number t (attr_slot t attr) r) n h) in (
      attr_column attr,
      (has, refl),
      (
        e.0,
        mark_form (number t (attr_slot t attr)) (lines (problem_of t)),
        f,
        line_writing (problem_of t) (marks_at t) (λ x. x (attr_column attr)) e.0 (number t (attr_slot t attr)) f.num f.den kept.whole e.2,
        attr_sign m.side (entry t (attr_slot t attr) (line_slot t m.row)) (number t (attr_slot t attr) m.row) (number_is t (attr_slot t attr) m.row (attr_apart t attr m.row kept.slots has named)) ∙ sym c,
      ),
    )

-- of another line's mark
pub mark_coefficient : (t : Lists) (k m : Mark) → IsKept t → IsIn (place k) (marks_at t) → IsMarkOf (problem_of t) m → k.row ≢ m.row
    → IsCoefficientOf (problem_of t) (marks_at t) (MarkOf k) m (neg_ℤ (entry t (line_slot t k.row) (line_slot t m.row) *ℤ (sign_of m.side *ℤ sign_of k.side)))
mark_coefficient t k m kept i is ne =
    let at = in_mark t k kept i in
    let e = inside_equation t k kept at (inside_stands t k i) in
    let named = mark_named (problem_of t) m is in
    let f : Fraction = (standing_at t (line_slot t k.row)).value in
    let c : coefficient (place m) (inside_form k.side k.row e.0 (number t (line_slot t k.row)) (lines (problem_of t))) ≡ sign_of m.side *ℤ (sign_of k.side *ℤ number t (line_slot t k.row) m.row) =
    any_is (λ l. l.name ≢ k.row → coefficient (place_of l.name m.side) (inside_form k.side k.row e.0 (number t (line_slot t k.row)) (lines (problem_of t))) ≡ sign_of m.side *ℤ (sign_of k.side *ℤ number t (line_slot t k.row) l.name)) (λ l. l.name ≡ m.row) (lines (problem_of t))
    (inside_coefficients (problem_of t) k.side k.row e.0 (number t (line_slot t k.row)) m.side kept.whole) named
    (λ l h n. subst (λ (r : RowName). r ≢ k.row → coefficient (place_of r m.side) (inside_form k.side k.row e.0 (number t (line_slot t k.row)) (lines (problem_of t))) ≡ sign_of m.side *ℤ (sign_of k.side *ℤ number t (line_slot t k.row) r)) n h (λ z. ne (sym z))) in (
      place k,
      (i, refl),
      (
        e.0,
        inside_form k.side k.row e.0 (number t (line_slot t k.row)) (lines (problem_of t)),
        f,
        subst (λ (z : ℤ). IsWritingOf (problem_of t) (marks_at t) (λ x. x (place k)) e.0 (inside_form k.side k.row e.0 (number t (line_slot t k.row)) (lines (problem_of t))) z f.den) (twice k.side f.num)
            (mark_writing (problem_of t) (marks_at t) k.row k.side e.0 (number t (line_slot t k.row)) (sign_of k.side *ℤ f.num) f.den kept.whole kept.corner i e.2),
        mark_sign m.side k.side (entry t (line_slot t k.row) (line_slot t m.row)) (number t (line_slot t k.row) m.row)
            (number_is t (line_slot t k.row) m.row (λ z. ne (lines_apart t k.row m.row kept.slots (mark_named (problem_of t) k at) named z))) ∙ sym c,
      ),
    )

-- of the other mark of its line
pub own_coefficient : (t : Lists) (k m : Mark) → IsKept t → IsIn (place k) (marks_at t) → (IsIn (place m) (marks_at t) → ⊥) → k.row ≡ m.row
    → IsCoefficientOf (problem_of t) (marks_at t) (MarkOf k) m (entry t (line_slot t k.row) (line_slot t k.row))
own_coefficient t k m kept i out row =
    let at = in_mark t k kept i in
    let e = inside_equation t k kept at (inside_stands t k i) in
    let f : Fraction = (standing_at t (line_slot t k.row)).value in
    let c : coefficient (place_of k.row (other_side k.side)) (inside_form k.side k.row e.0 (number t (line_slot t k.row)) (lines (problem_of t))) ≡ pos e.0 =
    other_coefficient (problem_of t) (marks_at t) k.row k.side e.0 (number t (line_slot t k.row)) (sign_of k.side *ℤ f.num) f.den kept.whole kept.corner i e.2 in
    let side : other_side k.side ≡ m.side = is_other k.side m.side (λ z. out (subst (λ (n : ℕ). IsIn n (marks_at t)) (ap (λ (s : Side). place_of k.row s) z ∙ ap (λ (r : RowName). place_of r m.side) row) i)) in (
      place k,
      (i, refl),
      (
        e.0,
        inside_form k.side k.row e.0 (number t (line_slot t k.row)) (lines (problem_of t)),
        f,
        subst (λ (z : ℤ). IsWritingOf (problem_of t) (marks_at t) (λ x. x (place k)) e.0 (inside_form k.side k.row e.0 (number t (line_slot t k.row)) (lines (problem_of t))) z f.den) (twice k.side f.num)
            (mark_writing (problem_of t) (marks_at t) k.row k.side e.0 (number t (line_slot t k.row)) (sign_of k.side *ℤ f.num) f.den kept.whole kept.corner i e.2),
        e.1 ∙ sym c ∙ ap (λ (n : ℕ). coefficient n (inside_form k.side k.row e.0 (number t (line_slot t k.row)) (lines (problem_of t)))) (ap (λ (s : Side). place_of k.row s) side ∙ ap (λ (r : RowName). place_of r m.side) row),
      ),
    )

pub own_what : (t : Lists) (what : What) (m : Mark) → IsKept t → IsWritten (problem_of t) (marks_at t) what → IsOutside (problem_of t) (marks_at t) m → IsOfLine what m.row
    → IsCoefficientOf (problem_of t) (marks_at t) what m (entry t (what_slot t what) (what_slot t what))
own_what t (AttrOf attr) m kept h out row = absurd row
own_what t (MarkOf k) m kept h out row = own_coefficient t k m kept h.1.0 out.1 row
own_what t (LevelOf level) m kept h out row = absurd row

pub other_what : (t : Lists) (what : What) (m : Mark) → IsKept t → IsWritten (problem_of t) (marks_at t) what → IsOutside (problem_of t) (marks_at t) m → (IsOfLine what m.row → ⊥)
    → IsCoefficientOf (problem_of t) (marks_at t) what m (neg_ℤ (entry t (what_slot t what) (line_slot t m.row) *ℤ (sign_of m.side *ℤ sign_of_what what)))
other_what t (AttrOf attr) m kept h out row = attr_coefficient t attr m kept h.1.0 out.0
other_what t (MarkOf k) m kept h out row = mark_coefficient t k m kept h.1.0 out.0 row
other_what t (LevelOf level) m kept h out row = absurd h.1
