-- What the words of a feed say of some bytes.
use Rattle.std.proofs.Common.{◌≡◌, ◌==◌, [], ◌∷◌, Some, None, refl, false, true≢false, arith}
use Rattle.std.proofs.lemmas.List.Elements.{All-nil, All-cons}
use Rattle.edge_io.specs.Feed.{nothing, cut, IsUnended, to_come}

pub two_lines_come : to_come nothing (97 ∷ 13 ∷ 10 ∷ 98 ∷ []) ≡ Some (97 ∷ []) ∷ Some (98 ∷ []) ∷ []
two_lines_come = refl

-- what is pending begins the first line
pub begun_line_comes : to_come (record { bytes = 97 ∷ []; is_cut = false }) (98 ∷ 10 ∷ []) ≡ Some (97 ∷ 98 ∷ []) ∷ []
begun_line_comes = refl

pub long_line_comes : to_come cut (97 ∷ 10 ∷ 98 ∷ 10 ∷ []) ≡ None ∷ Some (98 ∷ []) ∷ []
long_line_comes = refl

-- a line that is too long comes also where no byte is left of it
pub cut_line_comes : to_come cut [] ≡ None ∷ []
cut_line_comes = refl

pub no_line_comes : to_come nothing [] ≡ []
no_line_comes = refl

pub one_is_unended : IsUnended (97 ∷ [])
one_is_unended = All-cons (λ b. (b == 10) ≡ false) 97 [] refl (All-nil (λ b. (b == 10) ≡ false))

pub end_is_not_unended : IsUnended (97 ∷ 10 ∷ []) → ⊥
end_is_not_unended h = true≢false (h 1 0 (omega arith))
