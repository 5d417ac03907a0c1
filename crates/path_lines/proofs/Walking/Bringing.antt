-- Which exchanges there are, and when none brings a mark in.
use Rattle.std.proofs.Common.{◌≡◌, ◌≢◌, ◌∙◌, ℕ, List, [], ◌∷◌, zero, suc, pos, sym, ap, subst, arith, inl, inr}
use Rattle.std.proofs.lemmas.List.Elements.{recursion_from_All}
use Rattle.frac_core.proofs.Integers.{sign_cases}
use Rattle.problem_core.specs.declared.parts.Mark.{Mark}
use Rattle.problem_core.specs.declared.parts.Side.TheVariants.{Under}
use Rattle.problem_core.specs.Layout.{lines}
use Rattle.problem_core.specs.Corners.{IsIn, marks_of, place}
use Rattle.corner_laws.proofs.Counting.{IsSmall, one_mark}
use Rattle.corner_laws.proofs.PathEnds.Ends.{decided}
use Rattle.corner_laws.proofs.Swaps.Pivots.{pivot_is_exchange}
use Rattle.corner_laws.proofs.Rays.{pivot_nonzero}
use Rattle.corner_laws.proofs.WrittenValues.{contains_each}
use Rattle.corner_laws.proofs.ZeroColumns.{direction_zero}
use Rattle.corner_lines.proofs.Lines.LineMoves.{mark_moves}
use Rattle.corner_lines.proofs.Lines.LineWritings.{all-small, at-name, inside-named}
use Rattle.path_lines.specs.Laws.{ExchangeNeedsNumber, NoneGivesWay, OneMarkOfLine}
use Rattle.frac_core.proofs.Numbers.{up-not-zero as not_above, signed-not-zero as not_zero}

pub exchange_needs_number : ExchangeNeedsNumber
exchange_needs_number p at s own by num den whole corner rays mark other e ex =
    let r = rays (place s.enter) mark ex.enters in
    elim ((mark_moves p at s.enter.row s.enter.side s.leave.row s.leave.side own by num den r.0 whole corner mark ex.leaves r.1 e).0 (pivot_nonzero p at s r.0 mark ex r.1)) [
      | inl some ↦ some
      | inr same ↦ absurd (other (sym same))
    ]

-- a mark of a list, by its column
pub mark_there : (at : List Mark) (v : ℕ) → IsIn v at → (m : Mark) × (place m ≡ v) × IsIn v at
mark_there [] v (k, within, is) = absurd (omega (arith, within))
mark_there (m ∷ ms) v (zero, within, is) = (m, is, (0, omega arith, is))
mark_there (m ∷ ms) v (suc k, within, is) = let rest = mark_there ms v (k, omega (arith, within), is) in (rest.0, rest.1, (suc k, within, is))

pub none_gives_way : NoneGivesWay
none_gives_way p wanted at m corner rays mark out want none all =
    let r = rays (place m) mark out in
    not_above (r.0 (place m)) r.1.here
    (direction_zero p wanted r.0 (place m) all (record { holds = r.1.holds; still = r.1.still })
    (λ v away there.
    let k : (n : Mark) × (place n ≡ v) × IsIn v (marks_of (lines p)) = mark_there (marks_of (lines p)) v there in
    let gone : IsIn (place k.0) wanted → ⊥ = λ i. away (subst (λ (c : ℕ). IsIn c wanted) k.1 i) in
    let zero : r.0 (place k.0) ≡ pos 0 =
    elim (decided at k.0) [
      | inl i ↦
          elim (sign_cases (r.0 (place k.0))) [
            | inl z ↦ z
            | inr s ↦ absurd (none k.0 (record { unwanted = gone; exchange = pivot_is_exchange p at (record { enter = m; leave = k.0 }) r.0 corner mark out i r.1 (not_zero (r.0 (place k.0)) s) }))
          ]
      | inr o ↦
          contains_each (λ c. (IsIn c at → ⊥) → c ≢ place m → r.0 c ≡ pos 0) (marks_of (lines p)) (place k.0)
          (recursion_from_All (λ n. (IsIn (place n) at → ⊥) → place n ≢ place m → r.0 (place n) ≡ pos 0) (marks_of (lines p)) r.1.other)
          (subst (λ (c : ℕ). IsIn c (marks_of (lines p))) (sym k.1) there) o (λ same. gone (subst (λ (c : ℕ). IsIn c wanted) (sym same) want))
    ] in
    ap r.0 (sym k.1) ∙ zero)
    mark)

pub one_mark_of_line : OneMarkOfLine
one_mark_of_line p at name whole corner under over =
    one_mark p at name (at-name IsSmall name (lines p) (inside-named p at name Under corner under) (all-small p whole)) corner under over
