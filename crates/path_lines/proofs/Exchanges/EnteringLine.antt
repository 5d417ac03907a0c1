-- The entering line's equation, from the pivot.
use Rattle.std.proofs.Common.{◌≡◌, ◌≢◌, ◌∙◌, ℕ, zero, suc, ◌<◌, List, [], ◌∷◌, map, length, get_or, ℤ, pos, ◌-ℤ◌, ◌*ℤ◌, refl, sym, ap, arith, All, inl, inr}
use Rattle.std.proofs.lemmas.Bool.{cases_lt}
use Rattle.std.proofs.lemmas.List.Elements.{All-from_recursion, recursion_from_All}
use Rattle.std.proofs.Math.ListN.{get_or-map}
use Rattle.std.proofs.lemmas.List.{get_or_default, length-map}
use Rattle.frac_core.specs.Fraction.{Fraction}
use Rattle.problem_core.specs.declared.parts.Side.TheVariants.{Under}
use Rattle.problem_core.specs.declared.parts.RowName.{RowName}
use Rattle.problem_core.specs.declared.parts.RowName.TheVariants.{Held}
use Rattle.problem_core.specs.declared.parts.Mark.{Mark}
use Rattle.problem_core.specs.Layout.{Line, Problem, lines, sum_of}
use Rattle.problem_core.specs.Kept.{IsWhole}
use Rattle.problem_core.specs.Corners.{Swap, exchanged, place_of}
use Rattle.corner_laws.proofs.LinePlaces.{AllApart, AreApart, lines_apart}
use Rattle.corner_lines.specs.LineEquations.{IsLineSum, deviation}
use Rattle.corner_lines.proofs.Lines.LineUnfits.{reduced_line, line_sum}
use Rattle.path_lines.specs.Numbers.{IsReplaced, number_at}
use Rattle.path_lines.specs.Tables.{line_count, name_at, numbers_of}
use Rattle.path_lines.specs.Exchanges.Carried.{EnteringIsEquation, IsPivotOf, without}
use Rattle.path_lines.proofs.Arithmetic.NumbersOf.{number_here, number_later, reduced_numbers}
use Rattle.path_lines.proofs.Exchanges.CarriedSums.{without_here, without_other}
use Rattle.problem_core.proofs.Corners.Conflicts.{sum-each}
use Rattle.frac_core.proofs.Numbers.{one-times as one_times}

-- ---- numbers and names at a place

pub at_place : (ls : List Line) (zs : List ℤ) (k : ℕ) (d : Line) → AllApart ls → length zs ≡ length ls → k < length ls → numbers_of ls zs (get_or ls k d).name ≡ number_at zs k
at_place [] zs k d apart count within = absurd (omega (arith, within))
at_place (l ∷ ls) [] k d apart count within = absurd (omega (arith, count))
at_place (l ∷ ls) (z ∷ zs) zero d apart count within = number_here l ls z zs
at_place (l ∷ ls) (z ∷ zs) (suc k) d apart count within =
    number_later l (get_or ls k d) ls z zs (All-from_recursion (AreApart l) ls apart.0 k d (omega (arith, within))) ∙ at_place ls zs k d apart.1 (omega (arith, count)) (omega (arith, within))

pub name_apart : (ls : List Line) (k e : ℕ) (d : Line) → AllApart ls → k < e → e < length ls → (get_or ls k d).name ≢ (get_or ls e d).name
name_apart [] k e d apart less within = absurd (omega (arith, within))
name_apart (l ∷ ls) k zero d apart less within = absurd (omega (arith, less))
name_apart (l ∷ ls) zero (suc e) d apart less within = λ same. (All-from_recursion (AreApart l) ls apart.0 e d (omega (arith, within))).under_under (ap (λ (n : RowName). place_of n Under) same)
name_apart (l ∷ ls) (suc k) (suc e) d apart less within = name_apart ls k e d apart.1 (omega (arith, less)) (omega (arith, within))

-- ---- the same numbers on all lines

sum_same : (p : Problem) (at : List Mark) (quantity : (ℕ → ℤ) → ℤ) (own : ℕ) (f g : RowName → ℤ) (num : ℤ) (den : ℕ) → All (λ l. f l.name ≡ g l.name) (lines p) → IsLineSum p at quantity own f num den
    → IsLineSum p at quantity own g num den
sum_same p at quantity own f g num den same s = record {
  own_positive = s.own_positive;
  den_positive = s.den_positive;
  outside = λ k d within some. s.outside k d within (λ none. some (sym (same k d within) ∙ none));
  holds = λ x solves.
      let sums : sum_of (λ l. f l.name *ℤ deviation l.name x.num) (lines p) ≡ sum_of (λ l. g l.name *ℤ deviation l.name x.num) (lines p) =
      sum-each (λ l. f l.name *ℤ deviation l.name x.num) (λ l. g l.name *ℤ deviation l.name x.num) (lines p)
      (recursion_from_All (λ l. f l.name *ℤ deviation l.name x.num ≡ g l.name *ℤ deviation l.name x.num) (lines p) (λ k d within. ap (λ (z : ℤ). z *ℤ deviation (get_or (lines p) k d).name x.num) (same k d within))) in
      ap (λ (z : ℤ). pos den *ℤ (pos own *ℤ quantity x.num -ℤ z)) (sym sums) ∙ s.holds x solves;
}

-- ---- the entering line

replaced_numbers : (p : Problem) (e : ℕ) (enter : RowName) (pivot out : List ℤ) → IsWhole p → e < line_count p → name_at p e ≡ enter → length pivot ≡ line_count p → IsReplaced (pos 1) pivot e (pos 0) out
    → All (λ l. without enter (numbers_of (lines p) pivot) l.name ≡ numbers_of (lines p) out l.name) (lines p)
replaced_numbers p e enter pivot out whole inside named count is k d within =
    let apart : AllApart (lines p) = lines_apart p whole in
    let long : length out ≡ line_count p = is.count ∙ count in
    let here : (get_or (lines p) e d).name ≡ enter = sym (get_or-map (λ (l : Line). l.name) (lines p) e d)
    ∙ get_or_default (map (λ (l : Line). l.name) (lines p)) e d.name (Held 0) (omega (arith, inside, length-map (lines p) (λ (l : Line). l.name))) ∙ named in
    let old : numbers_of (lines p) pivot (get_or (lines p) k d).name ≡ number_at pivot k = at_place (lines p) pivot k d apart count within in
    let new : numbers_of (lines p) out (get_or (lines p) k d).name ≡ number_at out k = at_place (lines p) out k d apart long within in
    let other : k ≢ e → (get_or (lines p) k d).name ≢ enter → without enter (numbers_of (lines p) pivot) (get_or (lines p) k d).name ≡ numbers_of (lines p) out (get_or (lines p) k d).name =
    λ ne apart_names. without_other enter (numbers_of (lines p) pivot) (get_or (lines p) k d).name apart_names ∙ old ∙ sym (is.others k (omega (arith, count, within)) ne ∙ one_times (number_at pivot k)) ∙ sym new in
    elim (cases_lt k e) [
      | inl before ↦ other (λ same. absurd (omega (arith, before, same))) (λ same. name_apart (lines p) k e d apart before inside (same ∙ sym here))
      | inr from ↦
          elim (cases_lt e k) [
            | inl after ↦ other (λ same. absurd (omega (arith, after, same))) (λ same. name_apart (lines p) e k d apart after within (here ∙ sym same))
            | inr not_after ↦
                let on : k ≡ e = omega (arith, from, not_after) in
                let name : (get_or (lines p) k d).name ≡ enter = ap (λ (n : ℕ). (get_or (lines p) n d).name) on ∙ here in
                ap (without enter (numbers_of (lines p) pivot)) name ∙ without_here enter (numbers_of (lines p) pivot) ∙ sym (new ∙ ap (number_at out) on ∙ is.here (omega (arith, inside, count)))
          ]
    ]

pub entering_line_sum : (p : Problem) (at : List Mark) (s : Swap) (size e : ℕ) (pivot out : List ℤ) (enters : Fraction) → IsWhole p → e < line_count p → name_at p e ≡ s.enter.row → IsPivotOf p at s size pivot enters → IsReplaced (pos 1) pivot e (pos 0) out
    → IsLineSum p (exchanged s at) (deviation s.enter.row) size (numbers_of (lines p) out) enters.num enters.den
entering_line_sum p at s size e pivot out enters whole inside named is replaced =
    sum_same p (exchanged s at) (deviation s.enter.row) size (without s.enter.row (numbers_of (lines p) pivot)) (numbers_of (lines p) out) enters.num enters.den
    (replaced_numbers p e s.enter.row pivot out whole inside named is.count replaced)
    (line_sum p (exchanged s at) (deviation s.enter.row) size (without s.enter.row (numbers_of (lines p) pivot)) enters.num enters.den is.equation)

pub entering_is_equation : EnteringIsEquation
entering_is_equation p at s size low e pivot out part enters whole inside named is replaced are some =
    reduced_line p (exchanged s at) (deviation s.enter.row) size (numbers_of (lines p) out) enters.num enters.den low (numbers_of (lines p) part) enters
    (entering_line_sum p at s size e pivot out enters whole inside named is replaced)
    (reduced_numbers p size low out part whole (replaced.count ∙ is.count) some are) is.equation.den_positive refl
