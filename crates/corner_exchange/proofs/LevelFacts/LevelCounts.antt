-- What a line counts at a level of the lists, and the level's row.
use Rattle.std.proofs.Common.{◌≡◌, ◌≢◌, ◌∙◌, inl, inr, ℕ, zero, suc, ◌+◌, ◌*◌, ◌/◌, ◌<◌, ◌≤◌, ◌-◌, Bool, true, false, cond, nat_eq, List, [], ◌∷◌, filter, get_or, length, map, refl, sym, ap, ap₂, subst, arith, ℤ, pos, neg_ℤ, ◌*ℤ◌, unsigned_abs, All, eq-eqb, ne_eqb, lt-ltb}
use Rattle.std.proofs.lemmas.Bool.{cases_eq}
use Rattle.std.proofs.Math.Nat.{div-le_self}
use borrow.Author.Differences.{ints}
use Rattle.frac_core.proofs.Integers.{mul-zero_ℤ, neg-neg}
use Rattle.problem_core.specs.declared.parts.Rel.{Rel}
use Rattle.problem_core.specs.declared.parts.Rel.TheVariants.{Eq, Le, Ge}
use Rattle.problem_core.specs.declared.parts.Side.{Side}
use Rattle.problem_core.specs.declared.parts.Side.TheVariants.{Under, Over}
use Rattle.problem_core.specs.declared.parts.Level.TheVariants.{Priority}
use Rattle.problem_core.specs.Layout.{Line, Row, line_of_row, lines, stay_lines}
use Rattle.problem_core.proofs.Forms.{each-both, each-impl}
use Rattle.corner_table.proofs.Readings.SlotFacts.{any_is}
use Rattle.std.specs.List.{AllByRecursion as Each}
use Rattle.std.proofs.lemmas.List.Elements.{All-from_recursion, recursion_from_All}
use Rattle.problem_core.specs.Certificates.{weight_at}
use Rattle.problem_core.specs.Levels.{IsCostAt}
use Rattle.corner_laws.specs.Units.{IsLevelUnit}
use Rattle.corner_lines.specs.LineEquations.{sign_of}
use Rattle.corner_lines.specs.Levels.LevelFits.{IsFittingRow}
use Rattle.corner_lines.specs.Levels.LevelRows.{HasLevelRow, inside_number}
use Rattle.corner_lines.specs.Levels.StayLevels.{turned}
use Rattle.corner_table.specs.declared.table.Slot.{Slot}
use Rattle.corner_table.specs.declared.table.TheConstants.{LEVELS}
use Rattle.corner_table.specs.Tables.{Lists, entry, line_slot, marks_at, number, priority_at, problem_of, slot_at, standing_at}
use Rattle.corner_table.specs.Kept.{IsKept, level_own}
use Rattle.corner_table.specs.Reads.LevelNumbers.{IsCost, IsLinesSlot, IsSlotOfLevel, IsSlotOfLine, count_of, share_of, side_share, unit_at}
use Rattle.corner_exchange.specs.Swaps.LevelChanges.{count_by}
use Rattle.corner_writings.specs.Fitting.{counted}
use Rattle.corner_writings.proofs.LevelFacts.FittingRows.{none_counted, none_of, number_inside, size_at, stays_above}
use Rattle.corner_writings.proofs.LevelFacts.LevelNumberFacts.{IsKnown, all-known, home_is}
use Rattle.corner_writings.proofs.LevelFacts.LevelReadFacts.{cost_small, home_level, same_level, same_slot}
use Rattle.corner_writings.proofs.LevelFacts.LevelRowFacts.{level_row}
use Rattle.corner_exchange.proofs.LevelFacts.LevelTerms.{numbers_fit}
use Rattle.corner_exchange.proofs.Pivots.PairFacts.{sign-times, times-sign, turned-right}
use Rattle.corner_lines.proofs.LevelRows.StayRows.{turned-zero as turned-none}
use Rattle.frac_core.proofs.Lists.{each-joined}
use Rattle.problem_core.proofs.Lines.{weight-none as no_weight, own-weight as own_weight}

-- ---- counts

counted-share : (rel : Rel) (side : Side) (own n : ℕ) → counted rel side (pos own *ℤ pos n) ≡ pos own *ℤ pos (side_share rel side n)
counted-share Eq Under own n = refl
counted-share Eq Over own n = refl
counted-share Le Under own n = none_counted own
counted-share Le Over own n = refl
counted-share Ge Under own n = refl
counted-share Ge Over own n = none_counted own

pub own_slot : (t : Lists) (l : ℕ) → l < LEVELS → IsSlotOfLevel t l l
own_slot t l low = (Priority (1000 - l), omega (arith, low), omega (arith, low))

count-there : (t : Lists) (l unit : ℕ) (line : Line) (side : Side) → IsKnown t line → l < LEVELS → (priority_at t l).unit ≡ pos unit → line.level ≡ l → (slot_at t (line_slot t line.name)).home ≡ l
    → count_of t (slot_at t (line_slot t line.name)) side ≡ side_share line.rel side (unit * weight_at line l / line.scale)
count-there t l unit line side known low unit_is level home =
    let unit-there : unit_at t (slot_at t (line_slot t line.name)).home ≡ pos unit = ap (unit_at t) home ∙ ap (λ (b : Bool). cond b (priority_at t l).unit (pos 1)) (lt-ltb l LEVELS low) ∙ unit_is in
    let share : share_of (slot_at t (line_slot t line.name)) (unit_at t (slot_at t (line_slot t line.name)).home) ≡ unit * weight_at line l / line.scale =
    ap (λ (z : ℤ). unsigned_abs z * unsigned_abs (slot_at t (line_slot t line.name)).weight / unsigned_abs (slot_at t (line_slot t line.name)).scale) unit-there
    ∙ ap₂ (λ (a b : ℤ). unit * unsigned_abs a / unsigned_abs b) known.slot.weight known.slot.scale
    ∙ ap (λ (w : ℕ). unit * w / line.scale) (sym (own_weight line l level)) in
    ap₂ (λ (r : Rel) (n : ℕ). side_share r side n) known.slot.rel share

inside-counted : (unit level own : ℕ) (line : Line) (side : Side) → neg_ℤ (inside_number side level unit own line) ≡ turned side (counted line.rel side (size_at unit level own line))
inside-counted unit level own line side =
    ap neg_ℤ (sym (number_inside unit level own line side (pos 0))) ∙ neg-neg (sign_of side *ℤ counted line.rel side (size_at unit level own line)) ∙ sign-times side (counted line.rel side (size_at unit level own line))

count-here : (unit level own c : ℕ) (line : Line) (side : Side) → c ≡ side_share line.rel side (unit * weight_at line level / line.scale) → pos own *ℤ (pos c *ℤ sign_of side) ≡ neg_ℤ (inside_number side level unit own line)
count-here unit level own c line side e =
    ap (λ (z : ℤ). pos own *ℤ z) (times-sign side (pos c)) ∙ turned-right side (pos own) (pos c)
    ∙ ap (λ (n : ℕ). turned side (pos own *ℤ pos n)) e ∙ ap (turned side) (sym (counted-share line.rel side own (unit * weight_at line level / line.scale))) ∙ sym (inside-counted unit level own line side)

none-here : (unit level own : ℕ) (line : Line) (side : Side) → line.level ≢ level → neg_ℤ (inside_number side level unit own line) ≡ pos 0
none-here unit level own line side ne =
    let zero-div : unit * 0 / line.scale ≡ 0 = (let le : unit * 0 / line.scale ≤ unit * 0 = div-le_self (unit * 0) line.scale in omega (arith, le)) in
    let size : size_at unit level own line ≡ pos 0 = ap (λ (w : ℕ). pos own *ℤ pos (unit * w / line.scale)) (no_weight line level ne) ∙ ap (λ (n : ℕ). pos own *ℤ pos n) zero-div ∙ sym (none_counted own) in
    inside-counted unit level own line side ∙ ap (λ (z : ℤ). turned side (counted line.rel side z)) size ∙ ap (turned side) (none_of line.rel side) ∙ turned-none side

-- `own` times what the line counts is its number in the level's row, with the other sign
pub count_is : (t : Lists) (l unit own : ℕ) (line : Line) (side : Side) → IsKept t → IsKnown t line → l < LEVELS → (priority_at t l).unit ≡ pos unit
    → pos own *ℤ count_by t l (line_slot t line.name) side ≡ neg_ℤ (inside_number side l unit own line)
count_is t l unit own line side kept known low unit_is =
    let slot = slot_at t (line_slot t line.name) in
    elim (cases_eq line.level l) [
      | inl e ↦
          let home : slot.home ≡ l = same_slot t slot.home l line.level l kept (home_is t line known) (own_slot t l low) e in
          ap (λ (b : Bool). pos own *ℤ cond b (pos (count_of t slot side) *ℤ sign_of side) (pos 0)) (eq-eqb slot.home l home)
          ∙ count-here unit l own (count_of t slot side) line side (count-there t l unit line side known low unit_is e home)
      | inr ne ↦
          let home : slot.home ≢ l = λ h. ne (same_level t slot.home l line.level l kept (home_is t line known) (own_slot t l low) h) in
          ap (λ (b : Bool). pos own *ℤ cond b (pos (count_of t slot side) *ℤ sign_of side) (pos 0)) (ne_eqb slot.home l home)
          ∙ mul-zero_ℤ (pos own) ∙ sym (none-here unit l own line side ne)
    ]

-- ---- the level's row

-- that of a level which has rows
pub record IsAtLevel (t : Lists) (l unit own : ℕ) : Type 0 where
  pub unit_is : (priority_at t l).unit ≡ pos unit
  pub entry_is : entry t l l ≡ pos own
  pub own_is : level_own t l ≡ pos own
  pub least : IsLevelUnit (problem_of t) l unit
  pub row : HasLevelRow (problem_of t) (marks_at t) l unit own (number t l)
  pub fits : IsFittingRow (problem_of t) (marks_at t) l unit own (number t l)
  pub cost : IsCostAt (problem_of t) (marks_at t) l (standing_at t l).value

pub at_level : (t : Lists) (l : ℕ) → IsKept t → l < LEVELS → (priority_at t l).rows ≢ 0 → (unit : ℕ) × (own : ℕ) × IsAtLevel t l unit own
at_level t l kept low some =
    let k = kept.levels l low in
    let n = k.numbers in (
      k.unit,
      k.own,
      record {
        unit_is = k.unit_is;
        entry_is = sym (ap (λ (b : Bool). cond b (pos 1) (entry t l l)) (ne_eqb (priority_at t l).rows 0 some)) ∙ k.own_is;
        own_is = k.own_is;
        least = k.least;
        row = record { by = n.by; row = n.row; outside = n.outside };
        fits = numbers_fit (problem_of t) (marks_at t) l k.unit k.own n.by (number t l) n.reduced n.row n.outside n.reduced_by n.fits;
        cost = k.cost;
      },
    )

-- ---- how large counts are

at-least : (own n : ℕ) → 0 < own → n ≤ own * n
at-least zero n above = absurd (omega (arith, above))
at-least (suc m) n above = let p : ℕ = m * n in let e : suc m * n ≡ m * n + n = omega arith in omega (arith, e)

count-small : (own c : ℕ) → 0 < own → IsCost (pos (own * c)) → IsCost (pos c)
count-small own c above h = let le = at-least own c above in omega (arith, h, le)

signed-small : (side : Side) (z : ℤ) → IsCost z → IsCost (z *ℤ sign_of side)
signed-small side z h = subst (λ (y : ℤ). IsCost y) (sym (times-sign side z)) (turned-small side z h)
  where
    turned-small : (side : Side) (z : ℤ) → IsCost z → IsCost (turned side z)
    turned-small Under z h = omega (arith, ints, h)
    turned-small Over z h = h

pub share_small : (t : Lists) (slot : Slot) (side : Side) → IsKept t → IsLinesSlot t slot → IsCost (pos (count_of t slot side) *ℤ sign_of side)
share_small t slot side kept there =
    let level = home_level t slot kept there in
    let r = level_row t slot.home level.0 kept level.1 in
    let cost : IsCost (pos (r.own * count_of t slot side)) = subst (λ (z : ℤ). IsCost (z *ℤ pos (count_of t slot side))) r.own_is (cost_small t slot side kept there) in
    signed-small side (pos (count_of t slot side)) (count-small r.own (count_of t slot side) r.row.row.own_positive cost)

-- ---- levels of lines have rows

either-some : {X : Type 0} (b : Bool) (x : X) (xs : List X) → length xs ≢ 0 → length (cond b (x ∷ xs) xs) ≢ 0
either-some true x xs some = λ z. omega (arith, z)
either-some false x xs some = some

filter-some : {X : Type 0} (f : X → Bool) (xs : List X) (i : ℕ) (d : X) → i < length xs → f (get_or xs i d) ≡ true → length (filter f xs) ≢ 0
filter-some f [] i d lt e = absurd (omega (arith, lt))
filter-some f (x ∷ xs) zero d lt e = subst (λ (b : Bool). length (cond b (x ∷ filter f xs) (filter f xs)) ≢ 0) (sym e) (λ z. omega (arith, z))
filter-some f (x ∷ xs) (suc i) d lt e = either-some (f x) x (filter f xs) (filter-some f xs i d (omega (arith, lt)) e)

rows-counted : (rows : List Row) → All (λ r. length (filter (λ q. nat_eq (1000 - q.rank) (1000 - r.rank)) rows) ≢ 0) rows
rows-counted rows i d within = filter-some (λ q. nat_eq (1000 - q.rank) (1000 - (get_or rows i d).rank)) rows i d within (eq-eqb (1000 - (get_or rows i d).rank) (1000 - (get_or rows i d).rank) refl)

rows-lines : (P : Line → Type 0) (rows : List Row) → Each (λ r. P (line_of_row r)) rows → Each P (map line_of_row rows)
rows-lines P [] h = tt
rows-lines P (r ∷ rows) h = (h.0, rows-lines P rows h.1)

lines-counted : (t : Lists) → IsKept t → Each (λ l. l.level < LEVELS → (priority_at t l.level).rows ≢ 0) (lines (problem_of t))
lines-counted t kept =
    each-joined (λ l. l.level < LEVELS → (priority_at t l.level).rows ≢ 0) (map line_of_row t.rows) (stay_lines 1001 t.stays)
    (rows-lines (λ l. l.level < LEVELS → (priority_at t l.level).rows ≢ 0) t.rows
    (each-impl (λ r. length (filter (λ q. nat_eq (1000 - q.rank) (1000 - r.rank)) t.rows) ≢ 0) _ t.rows (λ r some low z. some (sym (kept.levels (1000 - r.rank) low).rows ∙ z))
    (recursion_from_All (λ r. length (filter (λ q. nat_eq (1000 - q.rank) (1000 - r.rank)) t.rows) ≢ 0) t.rows (rows-counted t.rows))))
    (each-impl (λ l. 1001 ≤ l.level) (λ l. l.level < LEVELS → (priority_at t l.level).rows ≢ 0) (stay_lines 1001 t.stays) (λ l above low. absurd (omega (arith, above, low))) (stays_above 1001 t.stays (omega arith)))

-- the level of a line has a row
pub home_has_rows : (t : Lists) (w : ℕ) → IsKept t → IsSlotOfLine t w → (slot_at t w).home < LEVELS → (priority_at t (slot_at t w).home).rows ≢ 0
home_has_rows t w kept is low =
    any_is (λ l. IsKnown t l × (l.level < LEVELS → (priority_at t l.level).rows ≢ 0)) (λ l. line_slot t l.name ≡ w) (lines (problem_of t))
    (All-from_recursion (λ l. IsKnown t l × (l.level < LEVELS → (priority_at t l.level).rows ≢ 0)) (lines (problem_of t)) (each-both (IsKnown t) (λ l. l.level < LEVELS → (priority_at t l.level).rows ≢ 0) (lines (problem_of t)) (all-known t kept) (lines-counted t kept))) is
    (λ l h e.
    let home : ℕ = (slot_at t w).home in
    let there : IsSlotOfLevel t (slot_at t w).home l.level = subst (λ c. IsSlotOfLevel t (slot_at t c).home l.level) e (home_is t l h.0) in
    let same : l.level ≡ (slot_at t w).home = same_level t (slot_at t w).home (slot_at t w).home l.level (slot_at t w).home kept there (own_slot t (slot_at t w).home low) refl in
    subst (λ k. (priority_at t k).rows ≢ 0) same (h.1 (subst (λ k. k < LEVELS) (sym same) low)))

-- what a line counts is small
pub count_cost : (t : Lists) (slot : Slot) (side : Side) → IsKept t → IsLinesSlot t slot → IsCost (pos (count_of t slot side))
count_cost t slot side kept there =
    let level = home_level t slot kept there in
    let r = level_row t slot.home level.0 kept level.1 in
    let cost : IsCost (pos (r.own * count_of t slot side)) = subst (λ (z : ℤ). IsCost (z *ℤ pos (count_of t slot side))) r.own_is (cost_small t slot side kept there) in
    count-small r.own (count_of t slot side) r.row.row.own_positive cost
