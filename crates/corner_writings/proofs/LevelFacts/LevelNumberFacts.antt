-- The rows of levels, as the lists have them.
use Rattle.std.proofs.Common.{◌≡◌, ◌∙◌, ℕ, suc, ◌+◌, ◌-◌, ◌<◌, ◌≤◌, List, [], ◌∷◌, map, refl, sym, ap, subst, arith, Any, Contains}
use Rattle.std.specs.List.{AllByRecursion as Each}
use Rattle.std.proofs.lemmas.List.Elements.{All-from_recursion, recursion_from_All}
use Rattle.problem_core.specs.declared.parts.Side.{Side}
use Rattle.problem_core.specs.declared.parts.Side.TheVariants.{Under, Over}
use Rattle.problem_core.specs.declared.parts.RowName.{RowName}
use Rattle.problem_core.specs.declared.parts.RowName.TheVariants.{Held, Stay as StayOf}
use Rattle.problem_core.specs.declared.parts.Level.TheVariants.{Priority, Stay as StayLevel}
use Rattle.problem_core.specs.declared.parts.Stay.{Stay}
use Rattle.problem_core.specs.Layout.{Line, Problem, Row, line_of_row, lines, stay_lines}
use Rattle.problem_core.specs.Corners.{marks_of, place, place_of}
use Rattle.problem_core.specs.Levels.{IsLevelAt}
use Rattle.problem_core.proofs.Forms.{each-impl, each-both}
use Rattle.corner_laws.proofs.LevelCosts.LevelSmall.{lines_light}
use Rattle.corner_laws.proofs.ZeroColumns.{here-in}
use Rattle.problem_core.specs.declared.limits.TheConstants.{WEIGHT_LIMIT}
use Rattle.corner_lines.proofs.LevelRows.LevelSound.{whole_is_sound}
use Rattle.corner_table.specs.Tables.{Lists, line_slot, problem_of, slot_at}
use Rattle.corner_table.specs.Kept.{IsKept, IsLineSlot, home_of}
use Rattle.corner_view.specs.Seen.{IsNamed}
use Rattle.corner_table.specs.Reads.LevelNumbers.{IsSlotOfLevel, IsSlotOfLine}
use Rattle.corner_table.proofs.Readings.SlotFacts.{any_impl, any_is}
use Rattle.frac_core.proofs.Lists.{each-joined}

-- ---- lines and their levels

-- rows stand at the priority levels, stays behind them
abbrev pub AreLevelsOf : RowName → ℕ → Type 0
AreLevelsOf (Held id) level = level ≤ 1000
AreLevelsOf (StayOf attr) level = 1001 ≤ level

rows-below : (rows : List Row) → Each (λ l. AreLevelsOf l.name l.level) (map line_of_row rows)
rows-below [] = tt
rows-below (r ∷ rows) = (let n : ℕ = r.rank in omega arith, rows-below rows)

stays-above : (base : ℕ) (stays : List Stay) → 1001 ≤ base → Each (λ l. AreLevelsOf l.name l.level) (stay_lines base stays)
stays-above base [] h = tt
stays-above base (s ∷ stays) h = (h, stays-above (base + 1) stays (omega (arith, h)))

levels-of : (p : Problem) → Each (λ l. AreLevelsOf l.name l.level) (lines p)
levels-of p = each-joined (λ l. AreLevelsOf l.name l.level) (map line_of_row p.rows) (stay_lines 1001 p.stays) (rows-below p.rows) (stays-above 1001 p.stays (omega arith))

-- what is known of each line
pub record IsKnown (t : Lists) (l : Line) : Type 0 where
  pub slot : IsLineSlot t l
  pub light : l.weight ≤ WEIGHT_LIMIT
  pub scale : 0 < l.scale
  pub levels : AreLevelsOf l.name l.level
  pub marks : (side : Side) → Contains (map place (marks_of (lines (problem_of t)))) (place_of l.name side)
  pub named : IsNamed (problem_of t) l.name
  pub level_is : (attr : ℕ) → l.name ≡ StayOf attr → IsLevelAt (problem_of t) (StayLevel attr) l.level

each-any : (ls : List Line) → Each (λ l. Any (λ m. m ≡ l) ls) ls
each-any [] = tt
each-any (l ∷ ls) = ((0, l, omega arith, refl, refl), each-impl (λ l. Any (λ m. m ≡ l) ls) _ ls (λ k h. (suc h.0, h.1, omega (arith, h.2), h.3, h.4)) (each-any ls))

by-side-in : (p : Problem) (name : RowName) → Contains (map place (marks_of (lines p))) (place_of name Under) × Contains (map place (marks_of (lines p))) (place_of name Over) → (side : Side) → Contains (map place (marks_of (lines p))) (place_of name side)
by-side-in p name h Under = h.0
by-side-in p name h Over = h.1

pub all-known : (t : Lists) → IsKept t → Each (IsKnown t) (lines (problem_of t))
all-known t kept =
    let sound = whole_is_sound (problem_of t) kept.whole in
    each-impl (λ l. (IsLineSlot t l × (l.weight ≤ 1000 × ((0 < l.scale) × (0 < l.den)))) × (AreLevelsOf l.name l.level × ((Contains (map place (marks_of (lines (problem_of t)))) (place_of l.name Under) × Contains (map place (marks_of (lines (problem_of t)))) (place_of l.name Over)) × Any (λ m. m ≡ l) (lines (problem_of t))))) _ (lines (problem_of t))
    (λ l h. record {
      slot = h.0.0;
      light = h.0.1.0;
      scale = h.0.1.1.0;
      levels = h.1.0;
      marks = by-side-in (problem_of t) l.name h.1.1.0;
      named = any_impl (λ m. m ≡ l) (λ m. m.name ≡ l.name) (lines (problem_of t)) (λ m e. ap (λ (k : Line). k.name) e) h.1.1.1;
      level_is = λ attr e. any_impl (λ m. m ≡ l) (λ m. (m.name ≡ StayOf attr) × (m.level ≡ l.level)) (lines (problem_of t)) (λ m q. (ap (λ (k : Line). k.name) q ∙ e, ap (λ (k : Line). k.level) q)) h.1.1.1;
    })
    (each-both _ _ (lines (problem_of t)) (each-both _ _ (lines (problem_of t)) (recursion_from_All _ (lines (problem_of t)) kept.slots.lines) (each-both _ _ (lines (problem_of t)) (lines_light (problem_of t) kept.whole) (recursion_from_All _ (lines (problem_of t)) sound.problem)))
    (each-both _ _ (lines (problem_of t)) (levels-of (problem_of t)) (each-both _ _ (lines (problem_of t)) (here-in (lines (problem_of t))) (each-any (lines (problem_of t))))))

-- a fact of the line of a slot
pub slot_line : {Y : Type 0} (t : Lists) (w : ℕ) → IsKept t → IsSlotOfLine t w → ((l : Line) → IsKnown t l → line_slot t l.name ≡ w → Y) → Y
slot_line t w kept is f = any_is (IsKnown t) (λ l. line_slot t l.name ≡ w) (lines (problem_of t)) (All-from_recursion (IsKnown t) (lines (problem_of t)) (all-known t kept)) is f

pub named_line : {Y : Type 0} (t : Lists) (name : RowName) → IsKept t → IsNamed (problem_of t) name → ((l : Line) → IsKnown t l → l.name ≡ name → Y) → Y
named_line t name kept is f = any_is (IsKnown t) (λ l. l.name ≡ name) (lines (problem_of t)) (All-from_recursion (IsKnown t) (lines (problem_of t)) (all-known t kept)) is f

-- ---- a line's home is its level's slot

home-of : (t : Lists) (l : Line) → (name : RowName) → l.name ≡ name → AreLevelsOf name l.level → IsKnown t l → IsSlotOfLevel t (home_of t l name) l.level
home-of t l (Held id) e h k = (Priority (1000 - l.level), (let n : ℕ = l.level in omega (arith, h)), (let n : ℕ = l.level in omega (arith, h)))
home-of t l (StayOf attr) e h k = (StayLevel attr, k.level_is attr e, refl)

pub home_is : (t : Lists) (l : Line) → IsKnown t l → IsSlotOfLevel t (slot_at t (line_slot t l.name)).home l.level
home_is t l k = subst (λ w. IsSlotOfLevel t w l.level) (sym k.slot.home) (home-of t l l.name refl k.levels k)
