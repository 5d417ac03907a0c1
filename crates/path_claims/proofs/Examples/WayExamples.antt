-- Marks by lines, and a mark that gives way to another: where they are, and where not.
use Rattle.std.proofs.Common.{◌≡◌, ◌↔◌, ℕ, zero, suc, ◌<◌, List, [], ◌∷◌, refl, sym, subst, arith, inl, inr, Option, None, Some}
use Rattle.std.specs.Prelude.{slice_index_or}
use Rattle.problem_core.specs.declared.parts.Mark.{Mark}
use Rattle.problem_core.specs.declared.parts.RowName.{RowName}
use Rattle.problem_core.specs.declared.parts.RowName.TheVariants.{Held}
use Rattle.problem_core.specs.declared.parts.Side.{Side}
use Rattle.problem_core.specs.declared.parts.Side.TheVariants.{Under, Over}
use Rattle.problem_core.specs.Corners.{IsIn, place, place_of}
use Rattle.cert_core.specs.Stops.{ComesBefore}
use Rattle.corner_laws.specs.Examples.{over_row, over_stay, single}
use Rattle.corner_laws.proofs.Instances.PathExamples.{alone-in, no, stay_corner}
use Rattle.corner_lines.proofs.LevelRows.LevelExchanges.{by-sides}
use Rattle.path_lines.specs.Route.{GivesWay, MayGiveWay}
use Rattle.path_lines.specs.Tables.{AreSides, name_at}
use Rattle.problem_core.proofs.Sides.{none-not-some as none_some}

-- ---- the over mark of `x >= 5` alone, beside the stay

abbrev pub over_alone : List (Option Side)
over_alone = Some Over ∷ None ∷ []

abbrev IsOver : Option Side → Type 0
IsOver None = ⊥
IsOver (Some Under) = ⊥
IsOver (Some Over) = Unit {0}

not_under : Some Over ≡ Some Under → ⊥
not_under e = subst IsOver e tt

each_line : (k : ℕ) (side : Side) → k < 2 → (slice_index_or over_alone k None ≡ Some side) ↔ IsIn (place_of (name_at (single 5) k) side) (over_row ∷ [])
each_line zero Under here = (λ e. absurd (not_under e), λ i. absurd (alone-in over_row 4 (no 4 5 (inl (omega arith))) i))
each_line zero Over here = (λ e. (0, omega arith, refl), λ i. refl)
each_line (suc zero) Under here = (λ e. absurd (none_some Under e), λ i. absurd (alone-in over_row 6 (no 6 5 (inr (omega arith))) i))
each_line (suc zero) Over here = (λ e. absurd (none_some Over e), λ i. absurd (alone-in over_row 7 (no 7 5 (inr (omega arith))) i))
each_line (suc (suc k)) side here = absurd (omega (arith, here))

pub over_is : AreSides (single 5) (over_row ∷ []) over_alone
over_is = record { count = refl; each = each_line }

none_is_not : AreSides (single 5) (over_row ∷ []) (None ∷ None ∷ []) → ⊥
none_is_not are = none_some Over ((are.each 0 Over (omega arith)).1 (0, omega arith, refl))

-- ---- it gives way to the stay's, unless it is wanted itself

row_is_first : (m : Mark) → IsIn (place m) (over_row ∷ []) → ComesBefore m.row (Held 1) → ⊥
row_is_first m (zero, within, is) before =
    let less : 1 < 1 = subst (λ (n : RowName). ComesBefore n (Held 1)) (by-sides m.row (Held 1) m.side Over (sym is)).0 before in
    absurd (omega (arith, less))
row_is_first m (suc k, within, is) before = absurd (omega (arith, within))

gives_way : GivesWay (single 5) (over_stay ∷ []) (over_row ∷ []) (record { enter = over_stay; leave = over_row })
gives_way = record {
  may = record {
    unwanted = alone-in over_stay 5 (no 5 7 (inl (omega arith)));
    exchange = record { enters = alone-in over_row 7 (no 7 5 (inr (omega arith))); leaves = (0, omega arith, refl); corner = stay_corner };
  };
  first = λ m gives before. row_is_first m gives.exchange.leaves before;
}

wanted_stays : MayGiveWay (single 5) (over_row ∷ []) (over_row ∷ []) (record { enter = over_stay; leave = over_row }) → ⊥
wanted_stays may = may.unwanted (0, omega arith, refl)
