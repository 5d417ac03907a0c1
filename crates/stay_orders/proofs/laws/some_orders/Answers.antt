use Rattle.std.proofs.Common.{◌≡◌, ℕ, List, refl, ap, slice_index_or, arith}
use Rattle.stay_orders.proofs.laws.some_orders.Goals as goal

pub returns : goal.returns
returns c = record {
  one = refl;
  two = refl;
  later = refl;
  again = refl;
  first = refl;
  absent = refl;
  not_sorted = λ e. let h : 3 ≡ 1 = ap (λ (xs : List ℕ). slice_index_or xs 0 0) e in omega (arith, h);
}
