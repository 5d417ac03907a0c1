-- Lists that have 1 at one place and 0 elsewhere, number by number.
use Rattle.std.proofs.Common.{◌≡◌, ◌≢◌, ◌∙◌, ℕ, ◌+◌, ◌++◌, List, [], ◌∷◌, ℤ, pos, sym, arith, inl, inr, length-append}
use Rattle.std.proofs.lemmas.Bool.{cases_eq}
use Rattle.std.proofs.lemmas.List.{get_or_append_left, get_or_push}
use Rattle.path_lines.specs.Numbers.{number_at}
use Rattle.path_fits.specs.Sums.{IsUnitList}

pub one_unit_more : (n at : ℕ) (by : List ℤ) (z : ℤ) → IsUnitList n at by → (n ≡ at → z ≡ pos 1) → (n ≢ at → z ≡ pos 0) → IsUnitList (n + 1) at (by ++ z ∷ [])
one_unit_more n at by z is here other = record {
  count_is = let l = length-append by (z ∷ []) in omega (arith, l, is.count_is);
  here = λ less. elim (cases_eq at n) [
    | inl e ↦ last at e ∙ here (sym e)
    | inr ne ↦ get_or_append_left by (z ∷ []) (pos 0) at (omega (arith, less, ne, is.count_is)) ∙ is.here (omega (arith, less, ne))
  ];
  others = λ k less apart. elim (cases_eq k n) [
    | inl e ↦ last k e ∙ other (λ same. apart (e ∙ same))
    | inr ne ↦ get_or_append_left by (z ∷ []) (pos 0) k (omega (arith, less, ne, is.count_is)) ∙ is.others k (omega (arith, less, ne)) apart
  ];
}
  where
    last : (k : ℕ) → k ≡ n → number_at (by ++ z ∷ []) k ≡ z
    last k e = get_or_push by z (pos 0) k (is.count_is ∙ sym e)
