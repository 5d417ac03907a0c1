-- The numbers that an exchange takes fit where the level's row does.
use Rattle.std.proofs.Common.{◌≡◌, ◌∙◌, ℕ, ◌*◌, ◌<◌, ◌^◌, List, map, ℤ, pos, ◌+ℤ◌, ◌-ℤ◌, neg_ℤ, unsigned_abs, refl, sym, subst, arith, inl, inr, Contains}
use Rattle.std.specs.List.{AllByRecursion as Each}
use Rattle.std.proofs.lemmas.Bool.{cases_eq}
use Rattle.std.proofs.lemmas.List.Elements.{All-from_recursion, recursion_from_All}
use borrow.Author.Differences.{ints}
use Rattle.frac_core.specs.Fraction.{IsFitting}
use Rattle.problem_core.specs.declared.parts.Mark.{Mark}
use Rattle.problem_core.specs.declared.parts.Side.{Side}
use Rattle.problem_core.specs.declared.parts.Side.TheVariants.{Under, Over}
use Rattle.problem_core.specs.declared.parts.RowName.{RowName}
use Rattle.problem_core.specs.Layout.{Line, Problem, lines}
use Rattle.problem_core.specs.Corners.{IsExchange, IsIn, Swap, exchanged, marks_of, place, place_of}
use Rattle.problem_core.proofs.Forms.{each-impl, each-both}
use Rattle.corner_laws.specs.Units.{over_share, under_share}
use Rattle.corner_laws.proofs.Swaps.ColumnsStay.{each_marks}
use Rattle.corner_laws.proofs.WrittenValues.{contains_each}
use Rattle.corner_lines.specs.LineEquations.{IsOutsideLine}
use Rattle.corner_lines.specs.Levels.LevelRows.{inside_number, reduced_number}
use Rattle.corner_lines.specs.Levels.LevelFits.{EnteringNumberFits, LeavingNumberFits, TurningNumberFits}
use Rattle.corner_lines.proofs.LevelRows.LevelExchanges.{by-sides}
use Rattle.corner_lines.proofs.LevelRows.LevelJoins.{free-number}
use Rattle.frac_core.proofs.Fitting.{zero-fits}
use Rattle.problem_core.proofs.Marks.{entered-in as exchanged_has}
use Rattle.problem_core.proofs.Lines.{weight-none as no_weight}

pub opposite-fits : (a b : ℤ) → a ≡ neg_ℤ b → IsFitting b → IsFitting a
opposite-fits a b e h = omega (arith, ints, e, h)

-- a difference of what a line counts is a reduced cost, or its opposite
difference-fits : (side : Side) (level unit own : ℕ) (y n : ℤ) (l : Line) → n ≡ y -ℤ inside_number side level unit own l → IsFitting (reduced_number side level unit own y l) → IsFitting n
difference-fits Under level unit own y n l e h = let a : ℤ = pos (own * under_share unit level l) in opposite-fits n (reduced_number Under level unit own y l) (omega (arith, ints, e)) h
difference-fits Over level unit own y n l e h = let k : n ≡ reduced_number Over level unit own y l = omega (arith, ints, e) in subst IsFitting (sym k) h

no-difference : (y i n : ℤ) → i ≡ pos 0 → n ≡ y -ℤ i → n ≡ y
no-difference y i n e h = omega (arith, ints, e, h)

pub entering-mark : (p : Problem) (at : List Mark) (s : Swap) → IsExchange p at s → Contains (map place (marks_of (lines p))) (place s.enter)
entering-mark p at s ex = contains_each (λ c. Contains (map place (marks_of (lines p))) c) (exchanged s at) (place s.enter) (recursion_from_All (λ m. Contains (map place (marks_of (lines p))) (place m)) (exchanged s at) ex.corner.marks) (exchanged_has s at ex.leaves)

-- what holds wherever there is a line of the entering mark's name holds
from-line : (p : Problem) (at : List Mark) (s : Swap) (P : Type 0) → IsExchange p at s → Each (λ l. l.name ≡ s.enter.row → P) (lines p) → P
from-line p at s P ex h =
    contains_each (λ c. c ≡ place s.enter → P) (marks_of (lines p)) (place s.enter)
    (each_marks (λ c. c ≡ place s.enter → P) (lines p)
    (each-impl (λ l. l.name ≡ s.enter.row → P) _ (lines p) (λ l f e. f (by-sides l.name s.enter.row Under s.enter.side e).0) h)
    (each-impl (λ l. l.name ≡ s.enter.row → P) _ (lines p) (λ l f e. f (by-sides l.name s.enter.row Over s.enter.side e).0) h))
    (entering-mark p at s ex) refl

pub entering_number_fits : EnteringNumberFits
entering_number_fits p at s level unit own number n ex fit out enters =
    from-line p at s (IsFitting n) ex
    (each-impl (λ l. ((IsOutsideLine at l.name → IsFitting (number l.name)) × (l.level ≡ level → IsOutsideLine at l.name → (side : Side) → IsFitting (reduced_number side level unit own (number l.name) l))) × (l.name ≡ s.enter.row → n ≡ number l.name -ℤ inside_number s.enter.side level unit own l)) _ (lines p)
    (λ l h e.
    let o : IsOutsideLine at l.name = subst (λ (name : RowName). IsOutsideLine at name) (sym e) out in
    elim (cases_eq l.level level) [
      | inl same ↦ difference-fits s.enter.side level unit own (number l.name) n l (h.1 e) (h.0.1 same o s.enter.side)
      | inr ne ↦ subst IsFitting (sym (no-difference (number l.name) (inside_number s.enter.side level unit own l) n (free-number s.enter.side level unit own l (no_weight l level ne)) (h.1 e))) (h.0.0 o)
    ])
    (each-both _ _ (lines p) (each-both _ _ (lines p) (recursion_from_All _ (lines p) fit.outside_fit) (recursion_from_All _ (lines p) fit.own_fit)) (recursion_from_All _ (lines p) enters)))

both-none : (a b n : ℤ) → a ≡ pos 0 → b ≡ pos 0 → n ≡ a -ℤ b → IsFitting n
both-none a b n e f h = omega (arith, ints, e, f, h)

pub turning_number_fits : TurningNumberFits
turning_number_fits p at s level unit own number n ex fit one turns =
    from-line p at s (IsFitting n) ex
    (each-impl (λ l. (l.level ≡ level → (side inside : Side) → IsIn (place_of l.name inside) at → IsFitting (reduced_number side level unit own (inside_number inside level unit own l) l)) × (l.name ≡ s.leave.row → n ≡ inside_number s.leave.side level unit own l -ℤ inside_number s.enter.side level unit own l)) _ (lines p)
    (λ l h e. elim (cases_eq l.level level) [
      | inl same ↦ difference-fits s.enter.side level unit own (inside_number s.leave.side level unit own l) n l (h.1 (e ∙ one)) (h.0 same s.enter.side s.leave.side (subst (λ (name : RowName). IsIn (place_of name s.leave.side) at) (sym (e ∙ one)) ex.leaves))
      | inr ne ↦
          both-none (inside_number s.leave.side level unit own l) (inside_number s.enter.side level unit own l) n (free-number s.leave.side level unit own l (no_weight l level ne)) (free-number s.enter.side level unit own l (no_weight l level ne)) (h.1 (e ∙ one))
    ])
    (each-both _ _ (lines p) (recursion_from_All _ (lines p) fit.inside_fit) (recursion_from_All _ (lines p) turns)))

under-less : (a o : ℕ) → unsigned_abs (pos o +ℤ pos a) < 2 ^ 42 → unsigned_abs (pos a) < 2 ^ 42
under-less a o h = omega (arith, ints, h)

over-less : (a u : ℕ) → unsigned_abs (pos u -ℤ neg_ℤ (pos a)) < 2 ^ 42 → unsigned_abs (neg_ℤ (pos a)) < 2 ^ 42
over-less a u h = omega (arith, ints, h)

leaving-fits : (side : Side) (level unit own : ℕ) (l : Line) → ((other : Side) → IsFitting (reduced_number other level unit own (inside_number side level unit own l) l)) → IsFitting (inside_number side level unit own l)
leaving-fits Under level unit own l h = under-less (own * under_share unit level l) (own * over_share unit level l) (h Over)
leaving-fits Over level unit own l h = over-less (own * over_share unit level l) (own * under_share unit level l) (h Under)

pub leaving_number_fits : LeavingNumberFits
leaving_number_fits p at s level unit own number leaves fit =
    All-from_recursion (λ l. l.name ≡ s.leave.row → IsFitting (inside_number s.leave.side level unit own l)) (lines p)
    (each-impl (λ l. l.level ≡ level → (side inside : Side) → IsIn (place_of l.name inside) at → IsFitting (reduced_number side level unit own (inside_number inside level unit own l) l)) _ (lines p)
    (λ l h e. elim (cases_eq l.level level) [
      | inl same ↦ leaving-fits s.leave.side level unit own l (λ other. h same other s.leave.side (subst (λ (name : RowName). IsIn (place_of name s.leave.side) at) (sym e) leaves))
      | inr ne ↦ zero-fits (inside_number s.leave.side level unit own l) (free-number s.leave.side level unit own l (no_weight l level ne))
    ])
    (recursion_from_All _ (lines p) fit.inside_fit))
