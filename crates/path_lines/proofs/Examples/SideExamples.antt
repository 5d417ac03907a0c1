-- Exchanges that lead back to where they begin, and one that does not.
use Rattle.std.proofs.Common.{◌∙◌, zero, suc, List, [], ◌∷◌, refl, sym, subst, arith, inl, inr, Option, None, Some}
use Rattle.problem_core.specs.declared.parts.Side.{Side}
use Rattle.problem_core.specs.declared.parts.Side.TheVariants.{Under, Over}
use Rattle.path_lines.specs.declared.spots.Step.{Step}
use Rattle.path_lines.specs.Sides.{ComesTwice}

abbrev over_in : Step
over_in = record { enter = record { at = 0; side = Over }; leave = record { at = 0; side = Under } }

abbrev under_in : Step
under_in = record { enter = record { at = 0; side = Under }; leave = record { at = 0; side = Over } }

abbrev under_first : List (Option Side)
under_first = Some Under ∷ []

there_and_back : ComesTwice under_first (over_in ∷ under_in ∷ [])
there_and_back = inl (1, under_first, omega arith, refl, refl)

abbrev IsUnderFirst : List (Option Side) → Type 0
IsUnderFirst [] = ⊥
IsUnderFirst (None ∷ rest) = ⊥
IsUnderFirst (Some Under ∷ rest) = Unit {0}
IsUnderFirst (Some Over ∷ rest) = ⊥

there_alone : ComesTwice under_first (over_in ∷ []) → ⊥
there_alone (inl (zero, next, within, is, same)) = subst IsUnderFirst (sym (is ∙ same)) tt
there_alone (inl (suc k, next, within, is, same)) = absurd (omega (arith, within))
there_alone (inr twice) = twice
