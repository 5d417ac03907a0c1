-- The slots of attributes, lines and levels.
use Rattle.std.proofs.Common.{◌≡◌, ◌∙◌, ℕ, zero, suc, ◌+◌, ◌++◌, List, [], ◌∷◌, map, refl, sym, ap, subst, arith, All, Any}
use Rattle.problem_core.specs.declared.parts.RowName.{RowName}
use Rattle.problem_core.specs.declared.parts.RowName.TheVariants.{Held, Stay as StayOf}
use Rattle.problem_core.specs.declared.parts.Stay.{Stay}
use Rattle.problem_core.specs.Layout.{HasStay, Line, Problem, Row, line_of_row, lines, stay_lines}
use Rattle.corner_table.specs.Tables.{Lists, line_slot, problem_of}
use Rattle.corner_table.specs.Kept.{AreSlots, IsLineSlot, IsSlot}
use Rattle.problem_core.specs.declared.parts.Level.TheVariants.{Stay as StayLevel}
use Rattle.corner_view.specs.Seen.{IsLevelOf, IsNamed}
use Rattle.problem_core.proofs.RowNames.{held-not-stay as not_held, stay-same as same_attr}

pub any_is : {X : Type 0} {Y : Type 0} (P Q : X → Type 0) (xs : List X) → All P xs → Any Q xs → ((x : X) → P x → Q x → Y) → Y
any_is P Q xs a h f = f h.1 (subst P h.3 (a h.0 h.1 h.2)) h.4

pub any_impl : {X : Type 0} (P Q : X → Type 0) (xs : List X) → ((x : X) → P x → Q x) → Any P xs → Any Q xs
any_impl P Q xs f h = (h.0, h.1, h.2, h.3, f h.1 h.4)

any_tail : {X : Type 0} (P : X → Type 0) (x : X) (xs : List X) → (P x → ⊥) → Any P (x ∷ xs) → Any P xs
any_tail P x xs never (zero, y, lt, e, h) = absurd (never (subst P (sym e) h))
any_tail P x xs never (suc k, y, lt, e, h) = (k, y, omega (arith, lt), e, h)

abbrev stay_number : RowName → ℕ
stay_number (Held id) = 0
stay_number (StayOf attr) = attr + 1

past_rows : (attr : ℕ) (rows : List Row) (rest : List Line) → Any (λ l. l.name ≡ StayOf attr) (map line_of_row rows ++ rest) → Any (λ l. l.name ≡ StayOf attr) rest
past_rows attr [] rest h = h
past_rows attr (r ∷ rows) rest h = past_rows attr rows rest (any_tail (λ (l : Line). l.name ≡ StayOf attr) (line_of_row r) (map line_of_row rows ++ rest) (not_held r.id attr) h)

of_stays : (attr level : ℕ) (stays : List Stay) → Any (λ l. l.name ≡ StayOf attr) (stay_lines level stays) → HasStay stays attr
of_stays attr level [] h = absurd (omega (arith, h.2))
of_stays attr level (s ∷ stays) (zero, y, lt, e, h) = (0, s, omega arith, refl, same_attr s.attr attr (ap (λ (l : Line). l.name) e ∙ h))
of_stays attr level (s ∷ stays) (suc k, y, lt, e, h) = let i = of_stays attr (level + 1) stays (k, y, omega (arith, lt), e, h) in (suc i.0, i.1, omega (arith, i.2), i.3, i.4)

-- a line of a stay's name is that of an attribute
pub named_stay : (p : Problem) (attr : ℕ) → IsNamed p (StayOf attr) → HasStay p.stays attr
named_stay p attr h = of_stays attr 1001 p.stays (past_rows attr p.rows (stay_lines 1001 p.stays) h)

pub named_slot : (t : Lists) (name : RowName) → AreSlots t → IsNamed (problem_of t) name → IsSlot t (line_slot t name)
named_slot t name h named = any_is (IsLineSlot t) (λ l. l.name ≡ name) (lines (problem_of t)) h.lines named (λ l s e. subst (λ (n : RowName). IsSlot t (line_slot t n)) e s.slot)

-- a level of a stay's name is that of an attribute
pub level_stay : (p : Problem) (attr : ℕ) → IsLevelOf p (StayLevel attr) → HasStay p.stays attr
level_stay p attr h = named_stay p attr (any_impl (λ l. (l.name ≡ StayOf attr) × (l.level ≡ h.0)) (λ l. l.name ≡ StayOf attr) (lines p) (λ l k. k.0) h.1)
