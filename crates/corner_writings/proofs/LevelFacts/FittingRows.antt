-- The rows of a level whose reduced costs fit.
use Rattle.std.proofs.Common.{◌≡◌, ◌∙◌, ◌↔◌, ℕ, ◌+◌, ◌-◌, ◌*◌, ◌/◌, ◌<◌, ◌≤◌, ◌^◌, Bool, true, false, cond, nat_eq, List, [], ◌∷◌, map, get_or, refl, sym, ap, ap₂, subst, arith, ℤ, pos, negsuc, neg_ℤ, ◌+ℤ◌, ◌-ℤ◌, ◌*ℤ◌, unsigned_abs, All, Some, None, ne_eqb}
use Rattle.std.specs.List.{AllByRecursion as Each}
use Rattle.std.specs.declared.option.Option.{Option}
use Rattle.std.proofs.lemmas.Bool.Decides.{nat_tests}
use Rattle.std.proofs.lemmas.List.Elements.{All-from_recursion, recursion_from_All}
use Rattle.std.proofs.Math.Nat.{div-le_self, mul-le-mul}
use Rattle.std.proofs.lemmas.Int.{unsigned_abs-mul}
use borrow.Author.Differences.{ints}
use Rattle.frac_core.specs.Fraction.{IsFitting}
use Rattle.frac_core.specs.declared.frac.TheConstants.{PART_BOUND}
use Rattle.row_core.specs.Rows.{Term, coefficient, IsKeptRow}
use Rattle.row_core.proofs.Places.{of_coefficients}
use Rattle.problem_core.specs.declared.parts.Mark.{Mark}
use Rattle.problem_core.specs.declared.parts.Rel.{Rel}
use Rattle.problem_core.specs.declared.parts.Rel.TheVariants.{Eq, Le, Ge}
use Rattle.problem_core.specs.declared.parts.RowName.{RowName}
use Rattle.problem_core.specs.declared.parts.RowName.TheVariants.{Held}
use Rattle.problem_core.specs.declared.parts.Side.{Side}
use Rattle.problem_core.specs.declared.parts.Side.TheVariants.{Under, Over}
use Rattle.problem_core.specs.declared.parts.Stay.{Stay}
use Rattle.problem_core.specs.Layout.{Line, Problem, Row, line_of_row, lines, stay_lines}
use Rattle.problem_core.specs.Certificates.{over_weight, under_weight, weight_at}
use Rattle.problem_core.specs.Corners.{IsIn, place_of}
use Rattle.problem_core.specs.Kept.{IsWhole}
use Rattle.problem_core.specs.Unfit.{lightened, with_first_rows, without_weight}
use Rattle.problem_core.proofs.Forms.{each-impl}
use Rattle.corner_lines.specs.LineEquations.{IsOutsideLine, sign_of}
use Rattle.corner_lines.specs.Levels.LevelRows.{inside_number, reduced_number}
use Rattle.corner_lines.specs.Levels.LevelCosts.{AreDifferent, IsSound}
use Rattle.problem_core.specs.declared.limits.TheConstants.{WEIGHT_LIMIT}
use Rattle.corner_laws.specs.LevelLaws.{small_number, small_scale}
use Rattle.corner_lines.proofs.Costs.LevelFits.{small_row_fits}
use Rattle.corner_lines.proofs.LevelRows.LevelSound.{seen-each, seen-same, whole_is_sound, all-light}
use Rattle.corner_writings.specs.declared.levels.fitting.Draft.{Draft}
use Rattle.corner_table.specs.declared.table.Slot.{Slot}
use Rattle.corner_table.specs.declared.table.TheConstants.{LEVELS}
use Rattle.corner_table.specs.Tables.{Lists, line_slot, problem_of, slot_at}
use Rattle.corner_table.specs.Kept.{AreSlots, IsLineSlot}
use Rattle.corner_writings.specs.Rows.{row_number}
use Rattle.corner_table.specs.Reads.LevelNumbers.{IsCounted, share_of, side_share}
use Rattle.corner_writings.specs.Fitting.{AreFittingCosts, AreFittingLines, HasFittingRow, HasNoFittingRow, IsDraftAt, IsFittingDraft, IsFittingLine, counted, drafted, either, line_size, number_by, side_after}
use Rattle.frac_core.proofs.Fitting.{neg-fits}
use Rattle.problem_core.proofs.Sides.{none-not-some as none-some}
use Rattle.corner_lines.proofs.LevelRows.LevelExchanges.{at-side as at_side}
use Rattle.frac_core.proofs.Lists.{each-left as each-first, each-joined}
use Rattle.problem_core.proofs.Lines.{own-weight as own_weight}

-- ---- what a line counts

-- as the code tells it
pub counted_if : (rel : Rel) (side : Side) (b : Bool) (z : ℤ) → ((n : ℕ) → side_share rel side n ≡ cond b n 0) → counted rel side z ≡ cond b z (pos 0)
counted_if Eq Under true z h = refl
counted_if Eq Over true z h = refl
counted_if Eq Under false z h = let e : 1 ≡ 0 = h 1 in absurd (omega (arith, e))
counted_if Eq Over false z h = let e : 1 ≡ 0 = h 1 in absurd (omega (arith, e))
counted_if Le Under true z h = let e : 0 ≡ 1 = h 1 in absurd (omega (arith, e))
counted_if Le Over true z h = refl
counted_if Le Under false z h = refl
counted_if Le Over false z h = let e : 1 ≡ 0 = h 1 in absurd (omega (arith, e))
counted_if Ge Under true z h = refl
counted_if Ge Over true z h = let e : 0 ≡ 1 = h 1 in absurd (omega (arith, e))
counted_if Ge Under false z h = let e : 1 ≡ 0 = h 1 in absurd (omega (arith, e))
counted_if Ge Over false z h = refl

pub none_counted : (own : ℕ) → pos 0 ≡ pos (own * 0)
none_counted own = let e : 0 ≡ own * 0 = omega arith in ap pos e

counted-under : (rel : Rel) (own n : ℕ) → counted rel Under (pos own *ℤ pos n) ≡ pos (own * under_weight rel n)
counted-under Eq own n = refl
counted-under Le own n = none_counted own
counted-under Ge own n = refl

counted-over : (rel : Rel) (own n : ℕ) → counted rel Over (pos own *ℤ pos n) ≡ pos (own * over_weight rel n)
counted-over Eq own n = refl
counted-over Le own n = refl
counted-over Ge own n = none_counted own

-- how often the line counts at the level, taken `own` times
abbrev pub size_at : (unit level own : ℕ) → Line → ℤ
size_at unit level own l = pos own *ℤ pos (unit * weight_at l level / l.scale)

pub to_reduced : (unit level own : ℕ) (l : Line) (times : ℤ) → AreFittingCosts l.rel (size_at unit level own l) times → (side : Side) → IsFitting (reduced_number side level unit own times l)
to_reduced unit level own l times h Under = subst (λ (z : ℤ). IsFitting (z -ℤ times)) (counted-under l.rel own (unit * weight_at l level / l.scale)) h.under
to_reduced unit level own l times h Over = subst (λ (z : ℤ). IsFitting (z +ℤ times)) (counted-over l.rel own (unit * weight_at l level / l.scale)) h.over

pub from_reduced : (unit level own : ℕ) (l : Line) (times : ℤ) → ((side : Side) → IsFitting (reduced_number side level unit own times l)) → AreFittingCosts l.rel (size_at unit level own l) times
from_reduced unit level own l times h = record {
  over = subst (λ (z : ℤ). IsFitting (z +ℤ times)) (sym (counted-over l.rel own (unit * weight_at l level / l.scale))) (h Over);
  under = subst (λ (z : ℤ). IsFitting (z -ℤ times)) (sym (counted-under l.rel own (unit * weight_at l level / l.scale))) (h Under);
}

under-sign : (z : ℤ) → neg_ℤ (negsuc 0 *ℤ z) ≡ z
under-sign z = omega (arith, ints)

over-sign : (z : ℤ) → neg_ℤ (pos 1 *ℤ z) ≡ neg_ℤ z
over-sign z = omega (arith, ints)

pub number_inside : (unit level own : ℕ) (l : Line) (inside : Side) (y : ℤ) → number_by l.rel (Some inside) y (size_at unit level own l) ≡ inside_number inside level unit own l
number_inside unit level own l Under y = under-sign (counted l.rel Under (size_at unit level own l)) ∙ counted-under l.rel own (unit * weight_at l level / l.scale)
number_inside unit level own l Over y = over-sign (counted l.rel Over (size_at unit level own l)) ∙ ap neg_ℤ (counted-over l.rel own (unit * weight_at l level / l.scale))

-- ---- a line at the marks

-- the line's side is this one
abbrev pub StandsBy : List Mark → RowName → Option Side → Type 0
StandsBy at name o = (side : Side) → IsIn (place_of name side) at ↔ (o ≡ Some side)

-- both reduced costs of the line fit
pub record IsFitThere (at : List Mark) (level unit own : ℕ) (y : ℤ) (l : Line) : Type 0 where
  pub own_fit : IsOutsideLine at l.name → (side : Side) → IsFitting (reduced_number side level unit own y l)
  pub inside_fit : (side inside : Side) → IsIn (place_of l.name inside) at → IsFitting (reduced_number side level unit own (inside_number inside level unit own l) l)

abbrev is_some : Option Side → Type 0
is_some None = ⊥
is_some (Some side) = Unit {0}

abbrev side-or : Option Side → Side
side-or None = Under
side-or (Some side) = side

pub to_fit : (at : List Mark) (unit level own : ℕ) (y : ℤ) (l : Line) (o : Option Side) → StandsBy at l.name o → AreFittingCosts l.rel (size_at unit level own l) (number_by l.rel o y (size_at unit level own l)) → IsFitThere at level unit own y l
to_fit at unit level own y l None stands h = record {
  own_fit = λ out side. to_reduced unit level own l y h side;
  inside_fit = λ side inside i. absurd (none-some inside ((stands inside).0 i));
}
to_fit at unit level own y l (Some s) stands h = record {
  own_fit = λ out side. absurd (at_side s at l.name out ((stands s).1 refl));
  inside_fit = λ side inside i.
      let same : s ≡ inside = ap side-or ((stands inside).0 i) in
      subst (λ (d : Side). IsFitting (reduced_number side level unit own (inside_number d level unit own l) l)) same
      (to_reduced unit level own l (inside_number s level unit own l) (subst (AreFittingCosts l.rel (size_at unit level own l)) (number_inside unit level own l s y) h) side);
}

pub none-out : (at : List Mark) (name : RowName) → StandsBy at name None → IsOutsideLine at name
none-out at name stands = record { under = λ i. none-some Under ((stands Under).0 i); over = λ i. none-some Over ((stands Over).0 i) }

pub from_fit : (at : List Mark) (unit level own : ℕ) (y : ℤ) (l : Line) (o : Option Side) → StandsBy at l.name o → IsFitThere at level unit own y l → AreFittingCosts l.rel (size_at unit level own l) (number_by l.rel o y (size_at unit level own l))
from_fit at unit level own y l None stands h = from_reduced unit level own l y (h.own_fit (none-out at l.name stands))
from_fit at unit level own y l (Some s) stands h =
    subst (AreFittingCosts l.rel (size_at unit level own l)) (sym (number_inside unit level own l s y))
    (from_reduced unit level own l (inside_number s level unit own l) (λ side. h.inside_fit side s ((stands s).1 refl)))

-- ---- a line without a weight

pub none_of : (rel : Rel) (side : Side) → counted rel side (pos 0) ≡ pos 0
none_of Eq side = refl
none_of Le Under = refl
none_of Le Over = refl
none_of Ge Under = refl
none_of Ge Over = refl

zero-times : (s : Side) → neg_ℤ (sign_of s *ℤ pos 0) ≡ pos 0
zero-times Under = refl
zero-times Over = refl

number-none : (rel : Rel) (o : Option Side) (y : ℤ) → IsFitting y → IsFitting (number_by rel o y (pos 0))
number-none rel None y h = h
number-none rel (Some s) y h = subst IsFitting (sym (ap (λ (z : ℤ). neg_ℤ (sign_of s *ℤ z)) (none_of rel s) ∙ zero-times s)) (omega arith)

sum-none : (a z : ℤ) → a ≡ pos 0 → IsFitting z → IsFitting (a +ℤ z)
sum-none a z e h = omega (arith, ints, e, h)

rest-none : (a z : ℤ) → a ≡ pos 0 → IsFitting z → IsFitting (a -ℤ z)
rest-none a z e h = omega (arith, ints, e, h)

costs-none : (rel : Rel) (z : ℤ) → IsFitting z → AreFittingCosts rel (pos 0) z
costs-none rel z h = record { over = sum-none (counted rel Over (pos 0)) z (none_of rel Over) h; under = rest-none (counted rel Under (pos 0)) z (none_of rel Under) h }

weightless-size : (unit level own : ℕ) (r : Row) → size_at unit level own (line_of_row (without_weight r)) ≡ pos 0
weightless-size unit level own r =
    ap (λ (w : ℕ). pos own *ℤ pos (unit * w / r.scale)) (both (nat_eq (1000 - r.rank) level) 0) ∙ ap (λ (n : ℕ). pos own *ℤ pos n) (zero-div unit r.scale) ∙ sym (none_counted own)
  where
    both : (b : Bool) (n : ℕ) → cond b n n ≡ n
    both true n = refl
    both false n = refl

    zero-div : (n d : ℕ) → n * 0 / d ≡ 0
    zero-div n d = let le : n * 0 / d ≤ n * 0 = div-le_self (n * 0) d in omega (arith, le)

weightless-fit : (at : List Mark) (unit level own : ℕ) (y : ℤ) (r : Row) (o : Option Side) → StandsBy at (Held r.id) o → IsFitting y → IsFitThere at level unit own y (line_of_row (without_weight r))
weightless-fit at unit level own y r o stands fits =
    let size : size_at unit level own (line_of_row (without_weight r)) ≡ pos 0 = weightless-size unit level own r in
    to_fit at unit level own y (line_of_row (without_weight r)) o stands
    (subst (λ (z : ℤ). AreFittingCosts r.rel z (number_by r.rel o y z)) (sym size) (costs-none r.rel (number_by r.rel o y (pos 0)) (number-none r.rel o y fits)))

-- ---- the rows of the level

-- the draft's numbers, and what is known of the line of a row
pub record IsSeen (t : Lists) (draft : Draft) (at : List Mark) (l : Line) : Type 0 where
  pub slot : IsLineSlot t l
  pub stands : StandsBy at l.name (side_after t draft.pair (line_slot t l.name))

abbrev pub IsFitLine : Lists → Draft → List Term → List Mark → ℕ → ℕ → Line → Type 0
IsFitLine t draft row at unit own l = l.level ≡ draft.level → IsFitThere at draft.level unit own (row_number t draft.level row l.name) l

number-is : (t : Lists) (w : ℕ) (row : List Term) (name : RowName) → w < LEVELS → LEVELS ≤ line_slot t name → row_number t w row name ≡ neg_ℤ (coefficient (line_slot t name) row)
number-is t w row name low high = ap (λ (b : Bool). cond b (pos 0) (neg_ℤ (coefficient (line_slot t name) row))) (ne_eqb (line_slot t name) w (λ e. omega (arith, e, low, high)))

either-fits : (b : Bool) (z : ℤ) → IsFitting z → IsFitting (cond b (pos 0) z)
either-fits true z h = omega arith
either-fits false z h = h

pub number_fits : (t : Lists) (w : ℕ) (row : List Term) (name : RowName) → IsKeptRow row → IsFitting (row_number t w row name)
number_fits t w row name kept = either-fits (nat_eq (line_slot t name) w) (neg_ℤ (coefficient (line_slot t name) row)) (neg-fits (coefficient (line_slot t name) row) (of_coefficients IsFitting (omega arith) row kept.lowest.rising kept.fits (line_slot t name)))

size-is : (t : Lists) (draft : Draft) (row : List Term) (unit own : ℕ) (l : Line) → IsLineSlot t l → draft.unit ≡ pos unit → coefficient draft.level row ≡ pos own → l.level ≡ draft.level → line_size t draft row (line_slot t l.name) ≡ size_at unit draft.level own l
size-is t draft row unit own l slot u o e =
    ap₂ (λ (a : ℤ) (n : ℕ). a *ℤ pos n) o
    (ap (λ (z : ℤ). unsigned_abs z * unsigned_abs (slot_at t (line_slot t l.name)).weight / unsigned_abs (slot_at t (line_slot t l.name)).scale) u
    ∙ ap₂ (λ (a b : ℤ). unit * unsigned_abs a / unsigned_abs b) slot.weight slot.scale
    ∙ ap (λ (w : ℕ). unit * w / l.scale) (sym (own_weight l draft.level e)))

same-costs : (r s : Rel) (o : Option Side) (a b x y : ℤ) → r ≡ s → a ≡ b → x ≡ y → AreFittingCosts r a (number_by r o x a) → AreFittingCosts s b (number_by s o y b)
same-costs r s o a b x y e f g h =
    subst (λ (q : Rel). AreFittingCosts q b (number_by q o y b)) e (subst (λ (z : ℤ). AreFittingCosts r z (number_by r o y z)) f (subst (λ (z : ℤ). AreFittingCosts r a (number_by r o z a)) g h))

-- the draft at these marks, and what is known of its row and of the lists
pub record IsDraftThere (t : Lists) (draft : Draft) (row : List Term) (at : List Mark) (unit own : ℕ) : Type 0 where
  pub slots : AreSlots t
  pub whole : IsWhole (problem_of t)
  pub low : draft.level < LEVELS
  pub kept : IsKeptRow row
  pub draft_at : IsDraftAt t draft row at unit own

pub line-fits : (t : Lists) (draft : Draft) (row : List Term) (at : List Mark) (unit own : ℕ) (l : Line) → IsDraftThere t draft row at unit own → IsSeen t draft at l → IsFittingLine t draft row (line_slot t l.name) → IsFitLine t draft row at unit own l
line-fits t draft row at unit own l d seen h e =
    to_fit at unit draft.level own (row_number t draft.level row l.name) l (side_after t draft.pair (line_slot t l.name)) seen.stands
    (same-costs (slot_at t (line_slot t l.name)).rel l.rel (side_after t draft.pair (line_slot t l.name)) (line_size t draft row (line_slot t l.name)) (size_at unit draft.level own l)
    (neg_ℤ (coefficient (line_slot t l.name) row)) (row_number t draft.level row l.name) seen.slot.rel
    (size-is t draft row unit own l seen.slot d.draft_at.unit_is d.draft_at.own_is e) (sym (number-is t draft.level row l.name d.low seen.slot.slot.0)) h)

pub fits-line : (t : Lists) (draft : Draft) (row : List Term) (at : List Mark) (unit own : ℕ) (l : Line) → IsDraftThere t draft row at unit own → IsSeen t draft at l → l.level ≡ draft.level → IsFitLine t draft row at unit own l → IsFittingLine t draft row (line_slot t l.name)
fits-line t draft row at unit own l d seen e h =
    same-costs l.rel (slot_at t (line_slot t l.name)).rel (side_after t draft.pair (line_slot t l.name)) (size_at unit draft.level own l) (line_size t draft row (line_slot t l.name))
    (row_number t draft.level row l.name) (neg_ℤ (coefficient (line_slot t l.name) row)) (sym seen.slot.rel)
    (sym (size-is t draft row unit own l seen.slot d.draft_at.unit_is d.draft_at.own_is e)) (number-is t draft.level row l.name d.low seen.slot.slot.0)
    (from_fit at unit draft.level own (row_number t draft.level row l.name) l (side_after t draft.pair (line_slot t l.name)) seen.stands (h e))

pub free_lines : (t : Lists) (draft : Draft) (row : List Term) (rows : List Row) → AreFittingLines t draft row 0 rows
free_lines t draft row [] = tt
free_lines t draft row (r ∷ rows) = free (nat_eq (1000 - r.rank) draft.level) (free_lines t draft row rows)
  where
    free : {X : Type 0} (b : Bool) → X → either b (Unit {0}) X
    free true x = tt
    free false x = x

not-equal : (a b : ℕ) → nat_eq a b ≡ false → a ≡ b → ⊥
not-equal a b e f = grind (arith, nat_tests)

is-equal : (a b : ℕ) → nat_eq a b ≡ true → a ≡ b
is-equal a b e = grind (arith, nat_tests)

rows-fit : (t : Lists) (draft : Draft) (row : List Term) (at : List Mark) (unit own : ℕ) → IsDraftThere t draft row at unit own → (j : ℕ) (rows : List Row) → Each (λ r. IsSeen t draft at (line_of_row r)) rows → AreFittingLines t draft row j rows
    → Each (IsFitLine t draft row at unit own) (map line_of_row (lightened draft.level j rows))
rows-fit t draft row at unit own d j [] seen h = tt
rows-fit t draft row at unit own d j (r ∷ rows) seen h =
    one (nat_eq (1000 - r.rank) draft.level) (nat_eq j 0) refl refl (rows-fit t draft row at unit own d (j - 1) rows seen.1) (rows-fit t draft row at unit own d j rows seen.1) h
  where
    one : (b c : Bool) → nat_eq (1000 - r.rank) draft.level ≡ b → nat_eq j 0 ≡ c
        → (AreFittingLines t draft row (j - 1) rows → Each (IsFitLine t draft row at unit own) (map line_of_row (lightened draft.level (j - 1) rows)))
        → (AreFittingLines t draft row j rows → Each (IsFitLine t draft row at unit own) (map line_of_row (lightened draft.level j rows)))
        → either b (either c (Unit {0}) (IsFittingLine t draft row (line_slot t (Held r.id)) × AreFittingLines t draft row (j - 1) rows)) (AreFittingLines t draft row j rows)
        → Each (IsFitLine t draft row at unit own) (map line_of_row (cond b (cond c (without_weight r) r ∷ lightened draft.level (j - 1) rows) (r ∷ lightened draft.level j rows)))
    one true true e f next same g =
        let z : j ≡ 0 = is-equal j 0 f in
        let first : j - 1 ≡ 0 = omega (arith, z) in (
          λ level. weightless-fit at unit draft.level own (row_number t draft.level row (Held r.id)) r (side_after t draft.pair (line_slot t (Held r.id))) seen.0.stands (number_fits t draft.level row (Held r.id) d.kept),
          next (subst (λ n. AreFittingLines t draft row n rows) (sym first) (free_lines t draft row rows)),
        )
    one true false e f next same g = (line-fits t draft row at unit own (line_of_row r) d seen.0 g.0, next g.1)
    one false c e f next same g = (λ level. absurd (not-equal (1000 - r.rank) draft.level e level), same g)

fit-rows : (t : Lists) (draft : Draft) (row : List Term) (at : List Mark) (unit own : ℕ) → IsDraftThere t draft row at unit own → (j : ℕ) (rows : List Row) → Each (λ r. IsSeen t draft at (line_of_row r)) rows
    → Each (IsFitLine t draft row at unit own) (map line_of_row (lightened draft.level j rows)) → AreFittingLines t draft row j rows
fit-rows t draft row at unit own d j [] seen h = tt
fit-rows t draft row at unit own d j (r ∷ rows) seen h =
    one (nat_eq (1000 - r.rank) draft.level) (nat_eq j 0) refl (fit-rows t draft row at unit own d (j - 1) rows seen.1) (fit-rows t draft row at unit own d j rows seen.1) h
  where
    one : (b c : Bool) → nat_eq (1000 - r.rank) draft.level ≡ b
        → (Each (IsFitLine t draft row at unit own) (map line_of_row (lightened draft.level (j - 1) rows)) → AreFittingLines t draft row (j - 1) rows)
        → (Each (IsFitLine t draft row at unit own) (map line_of_row (lightened draft.level j rows)) → AreFittingLines t draft row j rows)
        → Each (IsFitLine t draft row at unit own) (map line_of_row (cond b (cond c (without_weight r) r ∷ lightened draft.level (j - 1) rows) (r ∷ lightened draft.level j rows)))
        → either b (either c (Unit {0}) (IsFittingLine t draft row (line_slot t (Held r.id)) × AreFittingLines t draft row (j - 1) rows)) (AreFittingLines t draft row j rows)
    one true true e next same g = tt
    one true false e next same g = (fits-line t draft row at unit own (line_of_row r) d seen.0 (is-equal (1000 - r.rank) draft.level e) g.0, next g.1)
    one false c e next same g = same g.1

-- ---- all lines

of-rows : (P : Line → Type 0) (rows : List Row) → Each P (map line_of_row rows) → Each (λ r. P (line_of_row r)) rows
of-rows P [] h = tt
of-rows P (r ∷ rows) h = (h.0, of-rows P rows h.1)

pub stays_above : (base : ℕ) (stays : List Stay) → 1001 ≤ base → Each (λ l. 1001 ≤ l.level) (stay_lines base stays)
stays_above base [] h = tt
stays_above base (s ∷ stays) h = (h, stays_above (base + 1) stays (omega (arith, h)))

pub seen-lines : (t : Lists) (draft : Draft) (row : List Term) (at : List Mark) (unit own : ℕ) → IsDraftThere t draft row at unit own → Each (λ r. IsSeen t draft at (line_of_row r)) t.rows
seen-lines t draft row at unit own d =
    let all : All (IsSeen t draft at) (lines (problem_of t)) = λ i w within. record { slot = d.slots.lines i w within; stands = d.draft_at.sides i w within } in
    of-rows (IsSeen t draft at) t.rows (each-first (IsSeen t draft at) (map line_of_row t.rows) (stay_lines 1001 t.stays) (recursion_from_All (IsSeen t draft at) (lines (problem_of t)) all))

all-fit : (t : Lists) (draft : Draft) (row : List Term) (at : List Mark) (unit own : ℕ) → IsDraftThere t draft row at unit own → AreFittingLines t draft row draft.rows t.rows → Each (IsFitLine t draft row at unit own) (lines (drafted t draft))
all-fit t draft row at unit own d h =
    each-joined (IsFitLine t draft row at unit own) (map line_of_row (lightened draft.level draft.rows t.rows)) (stay_lines 1001 t.stays)
    (rows-fit t draft row at unit own d draft.rows t.rows (seen-lines t draft row at unit own d) h)
    (each-impl (λ l. 1001 ≤ l.level) (IsFitLine t draft row at unit own) (stay_lines 1001 t.stays) (λ l above e. let low = d.low in absurd (omega (arith, low, above, e))) (stays_above 1001 t.stays (omega arith)))

pub fits_by_lines : (t : Lists) (draft : Draft) (row : List Term) → AreSlots t → IsWhole (problem_of t) → draft.level < LEVELS → IsKeptRow row → IsFitting (coefficient draft.level row *ℤ draft.unit)
    → AreFittingLines t draft row draft.rows t.rows → HasFittingRow t draft row
fits_by_lines t draft row slots whole low kept scale h at unit own da =
    let d : IsDraftThere t draft row at unit own = record { slots = slots; whole = whole; low = low; kept = kept; draft_at = da } in
    let q : Problem = drafted t draft in
    let each = all-fit t draft row at unit own d h in
    record {
      scale_fits = subst IsFitting (ap₂ ◌*ℤ◌ da.own_is da.unit_is) scale;
      outside_fit = λ i l within out. number_fits t draft.level row (get_or (lines q) i l).name kept;
      own_fit = All-from_recursion (λ l. l.level ≡ draft.level → IsOutsideLine at l.name → (side : Side) → IsFitting (reduced_number side draft.level unit own (row_number t draft.level row l.name) l)) (lines q)
          (each-impl (IsFitLine t draft row at unit own) _ (lines q) (λ l f e out side. (f e).own_fit out side) each);
      inside_fit = All-from_recursion (λ l. l.level ≡ draft.level → (side inside : Side) → IsIn (place_of l.name inside) at → IsFitting (reduced_number side draft.level unit own (inside_number inside draft.level unit own l) l)) (lines q)
          (each-impl (IsFitLine t draft row at unit own) _ (lines q) (λ l f e side inside i. (f e).inside_fit side inside i) each);
    }

lines-fit : (t : Lists) (draft : Draft) (row : List Term) (at : List Mark) (unit own : ℕ) → IsFittingDraft t draft row at unit own → All (IsFitLine t draft row at unit own) (lines (drafted t draft))
lines-fit t draft row at unit own f i l within e = record {
  own_fit = λ out side. f.own_fit i l within e out side;
  inside_fit = λ side inside n. f.inside_fit i l within e side inside n;
}

pub unfit_by_lines : (t : Lists) (draft : Draft) (row : List Term) → AreSlots t → IsWhole (problem_of t) → draft.level < LEVELS → IsKeptRow row
    → (AreFittingLines t draft row draft.rows t.rows → ⊥) → HasNoFittingRow t draft row
unfit_by_lines t draft row slots whole low kept not at unit own da f =
    let d : IsDraftThere t draft row at unit own = record { slots = slots; whole = whole; low = low; kept = kept; draft_at = da } in
    not (fit-rows t draft row at unit own d draft.rows t.rows (seen-lines t draft row at unit own d)
    (each-first (IsFitLine t draft row at unit own) (map line_of_row (lightened draft.level draft.rows t.rows)) (stay_lines 1001 t.stays)
    (recursion_from_All (IsFitLine t draft row at unit own) (lines (drafted t draft)) (lines-fit t draft row at unit own f))))

-- ---- small rows

pub first_sound : (p : Problem) (level j : ℕ) → IsWhole p → IsSound (with_first_rows level j p)
first_sound p level j whole =
    let q : Problem = with_first_rows level j p in
    let s : IsSound p = whole_is_sound p whole in
    record {
      problem = All-from_recursion (λ l. (0 < l.scale) × (0 < l.den)) (lines q)
          (seen-each (λ l. (l.scale, l.den)) (λ (u : ℕ × ℕ). (0 < u.0) × (0 < u.1)) (lines p) (lines q) (sym (seen-same (λ l. (l.scale, l.den)) (λ r. refl) level j p.rows (stay_lines 1001 p.stays))) (recursion_from_All _ (lines p) s.problem));
      names = subst AreDifferent (sym (seen-same (λ l. l.name) (λ r. refl) level j p.rows (stay_lines 1001 p.stays))) s.names;
      weights = All-from_recursion (λ l. l.weight ≤ WEIGHT_LIMIT) (lines q) (all-light level j p.rows (stay_lines 1001 p.stays) (recursion_from_All (λ l. l.weight ≤ WEIGHT_LIMIT) (lines p) s.weights));
    }

neg-small : (z : ℤ) → unsigned_abs z < small_number → unsigned_abs (neg_ℤ z) < small_number
neg-small z h = omega (arith, ints, h)

either-small : (b : Bool) (z : ℤ) → unsigned_abs z < small_number → unsigned_abs (cond b (pos 0) z) < small_number
either-small true z h = omega arith
either-small false z h = h

pub small-numbers : (t : Lists) (w : ℕ) (row : List Term) (name : RowName) → IsKeptRow row → All (λ e. unsigned_abs e.by < small_number) row → unsigned_abs (row_number t w row name) < small_number
small-numbers t w row name kept all =
    either-small (nat_eq (line_slot t name) w) (neg_ℤ (coefficient (line_slot t name) row))
    (neg-small (coefficient (line_slot t name) row) (of_coefficients (λ (z : ℤ). unsigned_abs z < small_number) (omega arith) row kept.lowest.rising all (line_slot t name)))

pub fits_if_small : (t : Lists) (draft : Draft) (row : List Term) → IsWhole (problem_of t) → IsKeptRow row
    → ((n : ℕ) → coefficient draft.level row *ℤ draft.unit ≡ pos n → n < small_scale)
    → All (λ e. unsigned_abs e.by < small_number) row → HasFittingRow t draft row
fits_if_small t draft row whole kept scale small at unit own da =
    small_row_fits (drafted t draft) at draft.level unit own (row_number t draft.level row) (first_sound (problem_of t) draft.level draft.rows whole)
    (scale (own * unit) (ap₂ ◌*ℤ◌ da.own_is da.unit_is))
    (λ i l within out. small-numbers t draft.level row (get_or (lines (drafted t draft)) i l).name kept small)

-- ---- how large a line's size is

share-most : (slot : Slot) (unit : ℤ) → IsCounted slot unit → share_of slot unit ≤ PART_BOUND * WEIGHT_LIMIT
share-most slot unit c =
    let a : share_of slot unit ≤ unsigned_abs unit * unsigned_abs slot.weight = div-le_self (unsigned_abs unit * unsigned_abs slot.weight) (unsigned_abs slot.scale) in
    let fits = c.fits in
    let most : unsigned_abs unit ≤ PART_BOUND = omega (arith, fits) in
    let b : unsigned_abs unit * unsigned_abs slot.weight ≤ PART_BOUND * WEIGHT_LIMIT = mul-le-mul most c.light in
    omega (arith, a, b)

pub small_size : (a : ℤ) (slot : Slot) (unit : ℤ) → IsFitting a → IsCounted slot unit → unsigned_abs (a *ℤ pos (share_of slot unit)) < 2 ^ 100
small_size a slot unit fits c =
    let n : ℕ = share_of slot unit in
    let e : unsigned_abs (a *ℤ pos n) ≡ unsigned_abs a * n = unsigned_abs-mul a (pos n) in
    let most : unsigned_abs a ≤ PART_BOUND = omega (arith, fits) in
    let b : unsigned_abs a * n ≤ PART_BOUND * (PART_BOUND * WEIGHT_LIMIT) = mul-le-mul most (share-most slot unit c) in
    omega (arith, e, b)
