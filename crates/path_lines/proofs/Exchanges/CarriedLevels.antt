-- A level's row carried over an exchange.
use Rattle.std.proofs.Common.{◌≡◌, ◌∙◌, ℕ, ◌*◌, List, length, get_or, ℤ, pos, ◌*ℤ◌, unsigned_abs, sym, ap, subst, inl, inr}
use Rattle.std.specs.Int.{◌∣◌}
use Rattle.std.proofs.lemmas.List.{length-map}
use Rattle.std.proofs.lemmas.List.Elements.{All-from_recursion, recursion_from_All}
use Rattle.std.proofs.lemmas.Nat.Gcd.{dvd-zero}
use Rattle.frac_core.proofs.Integers.{zero_from_mul}
use Rattle.problem_core.specs.declared.parts.RowName.{RowName}
use Rattle.problem_core.specs.declared.parts.Mark.{Mark}
use Rattle.problem_core.specs.Layout.{Problem, lines}
use Rattle.problem_core.specs.Kept.{IsWhole}
use Rattle.problem_core.specs.Corners.{Swap, exchanged}
use Rattle.corner_laws.proofs.LinePlaces.{lines_apart}
use Rattle.corner_lines.specs.Levels.LevelRows.{IsDividedRow, exchanged_sum}
use Rattle.corner_lines.proofs.LevelRows.LevelExchanges.{exchanged_row_is_row}
use Rattle.path_lines.specs.Numbers.{AreLowest}
use Rattle.path_lines.specs.Tables.{numbers_of}
use Rattle.path_lines.specs.Exchanges.CarriedLevels.{CarriedLevelIsRow, IsLevelList}
use Rattle.path_lines.proofs.Arithmetic.NumbersOf.{each_number, numbers-map}

divided : (p : Problem) (at : List Mark) (s : Swap) (own k low : ℕ) (number pivot out next : List ℤ) (m extra : ℤ) → IsWhole p → IsLevelList p at s k number m pivot extra out
    → AreLowest (pos (k * own)) out (pos low) next
    → IsDividedRow p (exchanged s at) (k * own) (exchanged_sum k (numbers_of (lines p) number) m (numbers_of (lines p) pivot) s.leave.row extra) low (numbers_of (lines p) next)
divided p at s own k low number pivot out next m extra whole is are =
    let long : length next ≡ length (lines p) = sym (length-map next (λ (z : ℤ). pos are.factor *ℤ z)) ∙ ap length are.same ∙ is.count in
    let times : (l : RowName) → pos are.factor *ℤ numbers_of (lines p) next l ≡ numbers_of (lines p) out l =
    λ l. sym (numbers-map (pos are.factor) (lines p) next l) ∙ ap (λ (zs : List ℤ). numbers_of (lines p) zs l) are.same in
    record {
      factor = are.factor;
      above = are.above;
      own_is = ap unsigned_abs are.own_is;
      same = λ i d within outside. times (get_or (lines p) i d).name ∙ is.outside i d within outside;
      lowest = λ g divides all.
          are.lowest g (
            divides,
            All-from_recursion (λ z. g ∣ unsigned_abs z) next
                (each_number (λ z. g ∣ unsigned_abs z) (lines p) next (lines_apart p whole) long
                (recursion_from_All (λ l. g ∣ unsigned_abs (numbers_of (lines p) next l.name)) (lines p)
                (λ i d within. elim (is.inside i d within) [
                  | inl outside ↦ all i d within outside
                  | inr none ↦
                      let zero : numbers_of (lines p) next (get_or (lines p) i d).name ≡ pos 0 = zero_from_mul are.factor (numbers_of (lines p) next (get_or (lines p) i d).name) are.above (times (get_or (lines p) i d).name ∙ none) in
                      subst (λ (z : ℤ). g ∣ unsigned_abs z) (sym zero) (dvd-zero g)
                ]))),
          );
    }

pub carried_level_is_row : CarriedLevelIsRow
carried_level_is_row p at s level unit own size k low number pivot out next n m extra exchange outside entering leaving factors is are =
    exchanged_row_is_row p at s level unit own size k low (numbers_of (lines p) number) (numbers_of (lines p) pivot) (numbers_of (lines p) next) n m extra exchange outside entering leaving factors
    (divided p at s own k low number pivot out next m extra exchange.whole is are)
