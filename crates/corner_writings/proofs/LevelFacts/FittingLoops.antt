-- The rows of a level, one after the other.
use Rattle.std.proofs.Common.{◌≡◌, ◌≢◌, ◌∙◌, ℕ, zero, suc, ◌+◌, ◌-◌, ◌<◌, ◌≤◌, Bool, true, false, nat_eq, List, [], ◌∷◌, drop, length, slice_index_or, sym, ap, subst, arith, ℤ, pos, ◌<ℤ◌, unsigned_abs}
use Rattle.std.proofs.lemmas.Bool.Decides.{nat_tests}
use Rattle.std.proofs.lemmas.List.Elements.{All-from_recursion, recursion_from_All}
use borrow.Author.Differences.{ints}
use Rattle.frac_core.specs.Fraction.{IsFitting}
use Rattle.row_core.specs.Rows.{Term}
use Rattle.problem_core.specs.declared.parts.RowName.{RowName}
use Rattle.problem_core.specs.declared.parts.RowName.TheVariants.{Held}
use Rattle.problem_core.specs.Layout.{Line, Row, lines}
use Rattle.problem_core.specs.Kept.{IsWhole}
use Rattle.problem_core.proofs.Forms.{each-both}
use Rattle.corner_laws.proofs.LevelCosts.LevelSmall.{lines_light}
use Rattle.problem_core.specs.declared.limits.TheConstants.{WEIGHT_LIMIT}
use Rattle.corner_lines.proofs.LevelRows.LevelSound.{whole_is_sound}
use Rattle.corner_writings.specs.declared.levels.fitting.Draft.{Draft}
use Rattle.corner_table.specs.Tables.{Lists, line_slot, problem_of, slot_at}
use Rattle.corner_table.specs.Kept.{AreSlots, IsLineSlot}
use Rattle.corner_view.specs.Seen.{IsNamed}
use Rattle.corner_table.specs.Reads.LevelNumbers.{IsCounted}
use Rattle.corner_writings.specs.Fitting.{AreFittingLines, IsFittingLine, either}
use Rattle.corner_table.proofs.Readings.SlotFacts.{any_is}

-- ---- a line's slot and a unit

counted-line : (t : Lists) (l : Line) (unit : ℤ) → IsLineSlot t l → l.weight ≤ WEIGHT_LIMIT → 0 < l.scale → pos 0 <ℤ unit → IsFitting unit → IsCounted (slot_at t (line_slot t l.name)) unit
counted-line t l unit slot light scale above fits = record {
  weight_is = slot.weight ∙ sym (ap (λ (z : ℤ). pos (unsigned_abs z)) slot.weight);
  light = subst (λ (z : ℤ). unsigned_abs z ≤ WEIGHT_LIMIT) (sym slot.weight) light;
  scale_is = slot.scale ∙ sym (ap (λ (z : ℤ). pos (unsigned_abs z)) slot.scale);
  scale_positive = subst (λ (z : ℤ). 0 < unsigned_abs z) (sym slot.scale) scale;
  unit_is = omega (arith, ints, above);
  fits = fits;
}

pub counted_named : (t : Lists) (name : RowName) (unit : ℤ) → AreSlots t → IsWhole (problem_of t) → pos 0 <ℤ unit → IsFitting unit → IsNamed (problem_of t) name → IsCounted (slot_at t (line_slot t name)) unit
counted_named t name unit slots whole above fits named =
    let sound = whole_is_sound (problem_of t) whole in
    any_is (λ l. IsLineSlot t l × ((l.weight ≤ 1000) × ((0 < l.scale) × (0 < l.den)))) (λ l. l.name ≡ name) (lines (problem_of t))
    (All-from_recursion (λ l. IsLineSlot t l × ((l.weight ≤ 1000) × ((0 < l.scale) × (0 < l.den)))) (lines (problem_of t))
    (each-both (IsLineSlot t) (λ l. (l.weight ≤ 1000) × ((0 < l.scale) × (0 < l.den))) (lines (problem_of t)) (recursion_from_All (IsLineSlot t) (lines (problem_of t)) slots.lines)
    (each-both (λ l. l.weight ≤ 1000) (λ l. (0 < l.scale) × (0 < l.den)) (lines (problem_of t)) (lines_light (problem_of t) whole) (recursion_from_All (λ l. (0 < l.scale) × (0 < l.den)) (lines (problem_of t)) sound.problem)))) named
    (λ l h e. subst (λ (n : RowName). IsCounted (slot_at t (line_slot t n)) unit) e (counted-line t l unit h.0 h.1.0 h.1.1.0 above fits))

-- ---- the loop

drop-suc : {X : Type 0} (xs : List X) (i : ℕ) (x : X) → i < length xs → slice_index_or xs i x ≡ x → drop i xs ≡ x ∷ drop (suc i) xs
drop-suc [] i x lt e = absurd (omega (arith, lt))
drop-suc (y ∷ xs) zero x lt e = ap (λ z. z ∷ xs) e
drop-suc (y ∷ xs) (suc i) x lt e = drop-suc xs i x (omega (arith, lt)) e

drop-next : {X : Type 0} (xs : List X) (i : ℕ) (x : X) → i < length xs → slice_index_or xs i x ≡ x → drop i xs ≡ x ∷ drop (i + 1) xs
drop-next xs i x lt e = let n : suc i ≡ i + 1 = omega arith in subst (λ k. drop i xs ≡ x ∷ drop k xs) n (drop-suc xs i x lt e)

-- so many of the level's rows are among the first i, and what is left fits exactly where all of them do
pub record AreFittingSoFar (t : Lists) (draft : Draft) (row : List Term) (joined i : ℕ) (rows : List Row) : Type 0 where
  pub within : joined ≤ draft.rows
  pub all : AreFittingLines t draft row (draft.rows - joined) (drop i rows) → AreFittingLines t draft row draft.rows rows
  pub left : AreFittingLines t draft row draft.rows rows → AreFittingLines t draft row (draft.rows - joined) (drop i rows)

pub another_level : (t : Lists) (draft : Draft) (row : List Term) (joined i : ℕ) (rows : List Row) (r : Row) → i < length rows → slice_index_or rows i r ≡ r → nat_eq (1000 - r.rank) draft.level ≡ false
    → AreFittingSoFar t draft row joined i rows → AreFittingSoFar t draft row joined (i + 1) rows
another_level t draft row joined i rows r lt e other h =
    let j : ℕ = draft.rows - joined in
    let next = drop-next rows i r lt e in
    let A : Type 0 = either (nat_eq j 0) (Unit {0}) (IsFittingLine t draft row (line_slot t (Held r.id)) × AreFittingLines t draft row (j - 1) (drop (i + 1) rows)) in
    record {
      within = h.within;
      all = λ f. h.all (subst (AreFittingLines t draft row j) (sym next) (subst (λ (b : Bool). either b A (AreFittingLines t draft row j (drop (i + 1) rows))) (sym other) f));
      left = λ f. subst (λ (b : Bool). either b A (AreFittingLines t draft row j (drop (i + 1) rows))) other (subst (AreFittingLines t draft row j) next (h.left f));
    }

above-none : (a b : ℕ) → a ≤ b → a ≢ b → nat_eq (b - a) 0 ≡ false
above-none a b le ne = let more : 0 < b - a = omega (arith, le, ne) in grind (arith, nat_tests)

-- the parts at a row of the level, where some are still to join
at-row : (t : Lists) (draft : Draft) (row : List Term) (j : ℕ) (rows : List Row) (r : Row) → nat_eq (1000 - r.rank) draft.level ≡ true → nat_eq j 0 ≡ false
    → AreFittingLines t draft row j (r ∷ rows) → IsFittingLine t draft row (line_slot t (Held r.id)) × AreFittingLines t draft row (j - 1) rows
at-row t draft row j rows r same some h =
    subst (λ (b : Bool). either b (Unit {0}) (IsFittingLine t draft row (line_slot t (Held r.id)) × AreFittingLines t draft row (j - 1) rows)) some
    (subst (λ (b : Bool). either b (either (nat_eq j 0) (Unit {0}) (IsFittingLine t draft row (line_slot t (Held r.id)) × AreFittingLines t draft row (j - 1) rows)) (AreFittingLines t draft row j rows)) same h)

row-at : (t : Lists) (draft : Draft) (row : List Term) (j : ℕ) (rows : List Row) (r : Row) → nat_eq (1000 - r.rank) draft.level ≡ true → nat_eq j 0 ≡ false
    → IsFittingLine t draft row (line_slot t (Held r.id)) × AreFittingLines t draft row (j - 1) rows → AreFittingLines t draft row j (r ∷ rows)
row-at t draft row j rows r same some h =
    subst (λ (b : Bool). either b (either (nat_eq j 0) (Unit {0}) (IsFittingLine t draft row (line_slot t (Held r.id)) × AreFittingLines t draft row (j - 1) rows)) (AreFittingLines t draft row j rows)) (sym same)
    (subst (λ (b : Bool). either b (Unit {0}) (IsFittingLine t draft row (line_slot t (Held r.id)) × AreFittingLines t draft row (j - 1) rows)) (sym some) h)

pub one_joined : (t : Lists) (draft : Draft) (row : List Term) (joined i : ℕ) (rows : List Row) (r : Row) → i < length rows → slice_index_or rows i r ≡ r → nat_eq (1000 - r.rank) draft.level ≡ true → joined ≢ draft.rows
    → IsFittingLine t draft row (line_slot t (Held r.id)) → AreFittingSoFar t draft row joined i rows → AreFittingSoFar t draft row (joined + 1) (i + 1) rows
one_joined t draft row joined i rows r lt e same ne fits h =
    let n : ℕ = draft.rows in
    let le = h.within in
    let next = drop-next rows i r lt e in
    let some = above-none joined n le ne in
    let less : n - joined - 1 ≡ n - (joined + 1) = omega (arith, le) in
    record {
      within = omega (arith, le, ne);
      all = λ f. h.all (subst (AreFittingLines t draft row (n - joined)) (sym next)
          (row-at t draft row (n - joined) (drop (i + 1) rows) r same some (fits, subst (λ j. AreFittingLines t draft row j (drop (i + 1) rows)) (sym less) f)));
      left = λ f. subst (λ j. AreFittingLines t draft row j (drop (i + 1) rows)) less
          (at-row t draft row (n - joined) (drop (i + 1) rows) r same some (subst (AreFittingLines t draft row (n - joined)) next (h.left f))).1;
    }
