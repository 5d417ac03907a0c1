-- Lines that are safe to turn stay so where no row changes and no outside line comes inside.
use Rattle.std.proofs.Common.{◌≡◌, ◌≢◌, ◌∙◌, ℕ, Bool, true, false, cond, nat_eq, List, [], slice_index_or, refl, sym, ap, ap₂, subst, arith, inl, inr, ℤ, pos, ◌+ℤ◌, ◌*ℤ◌, ◌<ℤ◌, Contains, None, Some}
use Rattle.std.specs.declared.option.Option.{Option}
use Rattle.std.proofs.lemmas.List.{get_or-set_other}
use Rattle.frac_core.specs.Fraction.{Fraction}
use Rattle.row_core.specs.Rows.{Term}
use Rattle.row_core.proofs.Places.{coefficient_at}
use Rattle.problem_core.specs.Layout.{Row}
use Rattle.problem_core.specs.Corners.{Swap}
use Rattle.problem_core.specs.Window.{zero_fraction}
use Rattle.problem_core.specs.declared.parts.Side.{Side}
use Rattle.problem_core.specs.declared.parts.Side.TheVariants.{Under, Over}
use Rattle.problem_core.specs.declared.parts.Stay.{Stay}
use Rattle.stay_orders.proofs.Wholes.{same_number}
use Rattle.corner_lines.specs.LineEquations.{sign_of}
use Rattle.corner_exchange.specs.Swaps.Exchanges.{opposite, turned_line}
use Rattle.corner_exchange.specs.Swaps.TurnedLevels.{IsTurn}
use Rattle.corner_table.specs.declared.table.Standing.{Standing}
use Rattle.corner_table.specs.Kept.{IsKept}
use Rattle.corner_table.specs.Reads.Listing.{IsListed}
use Rattle.corner_table.specs.Reads.LevelNumbers.{count_of, own_at, own_cost, reduced_at, times_by}
use Rattle.corner_table.specs.Tables.{Lists, entry, row_at, slot_at, standing_at}
use Rattle.corner_table.proofs.Readings.KeptFacts.{row_kept}
use Rattle.corner_writings.specs.Growing.{IsRowDear, growing_side}
use Rattle.corner_writings.proofs.Readings.MovedFacts.{none_some}
use Rattle.corner.specs.declared.safe.Safe.{Safe}
use Rattle.corner.specs.declared.safe.Sides.{Sides}
use Rattle.corner.specs.Safe.{AreSafe, IsNoted, ListsNone, listed_at}
use Rattle.corner_shifts.specs.Shifting.{IsShifted, with_shifted}
use Rattle.corner_shifts.specs.Stood.{AreFirstStood}

-- the lists with other rows, stays, standings and numbers
abbrev pub with_others : List Row → List Stay → List Standing → List ℕ → List ℕ → Lists → Lists
with_others rows stays standings attrs ids t = record {
  rows = rows;
  stays = stays;
  slots = t.slots;
  standings = standings;
  matrix = t.matrix;
  attr_slots = attrs;
  row_slots = ids;
  priorities = t.priorities;
}

-- ---- one entry

cond-same : (b : Bool) (x y z : ℤ) → (b ≡ true → x ≡ y) → cond b x z ≡ cond b y z
cond-same true x y z h = h refl
cond-same false x y z h = refl

own-first : (rows : List Row) (stays : List Stay) (standings : List Standing) (attrs ids : List ℕ) (t : Lists) (home : ℕ) → home ≡ 0 → own_at (with_others rows stays standings attrs ids t) home ≡ own_at t home
own-first rows stays standings attrs ids t home e = subst (λ (h : ℕ). own_at (with_others rows stays standings attrs ids t) h ≡ own_at t h) (sym e) refl

reduced-same : (rows : List Row) (stays : List Stay) (standings : List Standing) (attrs ids : List ℕ) (t : Lists) (c : ℕ) (side : Side)
    → (standing_at t c).side ≡ None → (standing_at (with_others rows stays standings attrs ids t) c).side ≡ None → reduced_at (with_others rows stays standings attrs ids t) 0 c side ≡ reduced_at t 0 c side
reduced-same rows stays standings attrs ids t c side before after =
    let u : Lists = with_others rows stays standings attrs ids t in
    let home : ℕ = (slot_at t c).home in
    let cost = cond-same (nat_eq home 0) (own_cost u (slot_at t c) side) (own_cost t (slot_at t c) side) (pos 0)
    (λ yes. ap (λ (z : ℤ). z *ℤ pos (count_of t (slot_at t c) side)) (own-first rows stays standings attrs ids t home (same_number home 0 yes))) in
    let out : times_by u None 0 c ≡ times_by t None 0 c = refl in
    let times = ap (λ (o : Option Side). times_by u o 0 c) after ∙ (out ∙ sym (ap (λ (o : Option Side). times_by t o 0 c) before)) in
    ap₂ (λ (a b : ℤ). a +ℤ sign_of side *ℤ b) cost times

-- ---- a row

dear-same : (rows : List Row) (stays : List Stay) (standings : List Standing) (attrs ids : List ℕ) (t : Lists) (w : ℕ) (side : Side) → IsKept t
    → ((c : ℕ) → (standing_at t c).side ≡ None → (standing_at (with_others rows stays standings attrs ids t) c).side ≡ None)
    → IsRowDear t w side 0 (row_at t w) → IsRowDear (with_others rows stays standings attrs ids t) w side 0 (row_at t w)
dear-same rows stays standings attrs ids t w side kept outside dear i d within ne =
    let e : Term = slice_index_or (row_at t w) i d in
    let row = row_kept t w kept in
    let some : entry t w e.col ≢ pos 0 = λ z. row.lowest.nonzero i d within (sym (coefficient_at (row_at t w) i d row.lowest.rising within) ∙ z) in
    let out = (kept.outside w e.col some ne).1 in
    subst (λ (z : ℤ). pos 0 <ℤ z) (sym (reduced-same rows stays standings attrs ids t e.col (growing_side e.by side) out (outside e.col out))) (dear i d within ne)

-- ---- all lines

others_safe : (rows : List Row) (stays : List Stay) (standings : List Standing) (attrs ids : List ℕ) (t : Lists) (s : Safe) → IsKept t
    → ((c : ℕ) → (standing_at t c).side ≡ None → (standing_at (with_others rows stays standings attrs ids t) c).side ≡ None)
    → AreSafe t s → AreSafe (with_others rows stays standings attrs ids t) s
others_safe rows stays standings attrs ids t s kept outside safe side w has = dear-same rows stays standings attrs ids t w side kept outside (safe side w has)

-- where a row's constant changes
pub shifted_safe : (t u : Lists) (id : ℕ) (to : Fraction) (s : Safe) → IsKept t → IsShifted id to t u → AreSafe t s → AreSafe u s
shifted_safe t u id to s kept h safe =
    let v : Lists = with_shifted id to u.standings t in
    subst (λ (x : Lists). AreSafe x s) (sym h.5) (others_safe v.rows t.stays u.standings t.attr_slots t.row_slots t s kept (λ c none. h.4.sides c ∙ none) safe)

-- where the stays move to the values of now
pub stood_safe : (n : ℕ) (t u : Lists) (s : Safe) → IsKept t → AreFirstStood n t u → AreSafe t s → AreSafe u s
stood_safe n t u s kept h safe =
    subst (λ (x : Lists). AreSafe x s) (sym h.0) (others_safe t.rows u.stays u.standings t.attr_slots t.row_slots t s kept (λ c none. h.1.sides c ∙ none) safe)

-- where a line turns and its level has no change
pub turned_safe : (t u : Lists) (line : ℕ) (side : Side) (swap : Swap) (s : Safe) → IsKept t → IsTurn t line side swap → u ≡ turned_line t line side → AreSafe t s → AreSafe u s
turned_safe t u line side swap s kept turn same safe =
    let x : Standing = record { side = Some side; value = opposite (standing_at t line).value } in
    let v : Lists = turned_line t line side in
    subst (λ (y : Lists). AreSafe y s) (sym same)
    (others_safe t.rows t.stays v.standings t.attr_slots t.row_slots t s kept
    (λ c none. ap (λ (y : Standing). y.side) (get_or-set_other t.standings line c x (record { side = None; value = zero_fraction }) (λ e. none_some (standing_at t c).side swap.leave.side none (ap (λ (k : ℕ). (standing_at t k).side) e ∙ turn.inside))) ∙ none)
    safe)

-- ---- what is listed

no-element : (w : ℕ) → Contains [] w → ⊥
no-element w i = let within = i.1 in omega (arith, within)

-- no line is
none-listed : (s : Sides) → ListsNone s → (side : Side) → listed_at s side ≡ []
none-listed s none Under = none.0
none-listed s none Over = none.1

pub none_safe : (t : Lists) (s : Safe) → ListsNone s.dear → AreSafe t s
none_safe t s none side w has = absurd (no-element w (subst (λ (l : List ℕ). Contains l w) (none-listed s.dear none side) has))

-- one line more
pub noted_safe : (t : Lists) (line : ℕ) (side : Side) (old new : Safe) → IsRowDear t line side 0 (row_at t line) → IsNoted line side old.dear new.dear → AreSafe t old → AreSafe t new
noted_safe t line side old new dear noted safe d w has = elim (noted d w has) [
  | inl was ↦ safe d w was
  | inr (e, f) ↦ subst (λ (k : ℕ). IsRowDear t k d 0 (row_at t k)) (sym f) (subst (λ (k : Side). IsRowDear t line k 0 (row_at t line)) (sym e) dear)
]

pub noted_under : (line : ℕ) (old : Sides) (under : List ℕ) → IsListed line old.under under → IsNoted line Under old (record { under = under; over = old.over })
noted_under line old under h Under w has = elim (h.others w has) [
  | inl was ↦ inl was
  | inr e ↦ inr (refl, e)
]
noted_under line old under h Over w has = inl has

pub noted_over : (line : ℕ) (old : Sides) (over : List ℕ) → IsListed line old.over over → IsNoted line Over old (record { under = old.under; over = over })
noted_over line old over h Under w has = inl has
noted_over line old over h Over w has = elim (h.others w has) [
  | inl was ↦ inl was
  | inr e ↦ inr (refl, e)
]
