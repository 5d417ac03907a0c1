-- No column becomes negative where the stays move: multipliers and reduced costs do not see constants.
use Rattle.std.proofs.Common.{◌≡◌, ◌∙◌, ℕ, List, sym, pos, ◌*ℤ◌, All, Any}
use Rattle.problem_core.specs.declared.parts.Mark.{Mark}
use Rattle.problem_core.specs.declared.parts.Side.{Side}
use Rattle.problem_core.specs.declared.parts.Side.TheVariants.{Under, Over}
use Rattle.problem_core.specs.Layout.{Problem, coefficient, lines}
use Rattle.problem_core.specs.Certificates.{Multipliers}
use Rattle.problem_core.specs.Corners.{AreMultipliersAt, HasNegativeColumn, IsIn, IsLexNegative, column, place, place_of}
use Rattle.corner_lines.specs.Shifts.{AreSeenAlike}
use Rattle.corner_view.proofs.Seen.SeenLines.{any_seen, each_seen, sum_seen}

pub multipliers_seen : (p q : Problem) (at : List Mark) (m : Multipliers) → AreSeenAlike p q → AreMultipliersAt p at m → AreMultipliersAt q at m
multipliers_seen p q at m same are = record {
  scales = are.scales;
  cancel = λ level v. sym (sum_seen (λ l. m.times level l.name *ℤ coefficient v l.form) p q same) ∙ are.cancel level v;
  inside_zero = on_side;
}
  where
    on_side : (side : Side) → All (λ l. IsIn (place_of l.name side) at → (level : ℕ) → column m side l level ≡ pos 0) (lines q)
    on_side Under = each_seen (λ l. IsIn (place_of l.name Under) at → (level : ℕ) → column m Under l level ≡ pos 0) p q same (are.inside_zero Under)
    on_side Over = each_seen (λ l. IsIn (place_of l.name Over) at → (level : ℕ) → column m Over l level ≡ pos 0) p q same (are.inside_zero Over)

column_seen : (p q : Problem) (m : Multipliers) (side : Side) (c : ℕ) → AreSeenAlike p q → Any (λ l. (place_of l.name side ≡ c) × IsLexNegative (column m side l)) (lines p) → Any (λ l. (place_of l.name side ≡ c) × IsLexNegative (column m side l)) (lines q)
column_seen p q m Under c same h = any_seen (λ l. (place_of l.name Under ≡ c) × IsLexNegative (column m Under l)) p q same h
column_seen p q m Over c same h = any_seen (λ l. (place_of l.name Over ≡ c) × IsLexNegative (column m Over l)) p q same h

pub negative_seen : (p q : Problem) (at : List Mark) (mark : Mark) → AreSeenAlike p q → HasNegativeColumn p at mark → HasNegativeColumn q at mark
negative_seen p q at mark same (m, are, some) = (m, multipliers_seen p q at m same are, column_seen p q m mark.side (place mark) same some)
