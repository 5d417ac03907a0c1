-- What holds at a corner holds in another order of its marks.
use Rattle.std.proofs.Common.{inl, inr, ℕ, zero, suc, Bool, true, false, List, [], ◌∷◌, pos, ◌≤ℤ◌, sym, subst, arith, get_or}
use Rattle.std.specs.List.{AllByRecursion as Each}
use Rattle.std.proofs.lemmas.List.Elements.{recursion_from_All}
use Rattle.problem_core.specs.declared.parts.Mark.{Mark}
use Rattle.problem_core.specs.declared.stops.Quantity.{Quantity}
use Rattle.problem_core.specs.declared.stops.Quantity.TheVariants.{Plain, Terms, Rows, Shifts}
use Rattle.problem_core.specs.Layout.{Problem}
use Rattle.problem_core.specs.Changes.Begins.{AreExchanges}
use Rattle.problem_core.specs.Corners.{IsCorner, IsExchange, IsIn, Point, SameMarks, Swap, exchanged, place}
use Rattle.problem_core.specs.Changes.Paths.{IsEndOf, MaySwap, last_marks}
use Rattle.problem_core.specs.Unfit.{AreOverFrom, IsUnfitAt, IsUnfitTerms, first_terms, with_first_rows}
use Rattle.cert_core.specs.Stops.{AreNonnegativeBefore, IsBefore}
use Rattle.corner_laws.proofs.RunSteps.RunPaths.{contains_in, same_stands}
use Rattle.corner_lines.proofs.LevelRows.LevelExchanges.{by-sides}
use Rattle.corner_lines.proofs.SameMarks.{same_corner, same_exchanged}
use Rattle.corner_laws.proofs.Swaps.Pivots.{exchanged_apart, each-out}
use Rattle.corner_lines.proofs.LevelRows.SameLevels.{unfit-level, unfit_writing, what_same, values_same, columns_same}
use Rattle.problem_core.proofs.Marks.{same-multipliers as same_multipliers}

-- ---- the marks stay different

pub exchange_same : (p : Problem) (a b : List Mark) (s : Swap) → SameMarks a b → IsCorner p b → IsExchange p a s → IsExchange p b s
exchange_same p a b s same corner ex =
    let out : IsIn (place s.enter) b → ⊥ = λ i. ex.enters (contains_in b a (place s.enter) same.1 i) in
    let leaves : IsIn (place s.leave) b = contains_in a b (place s.leave) same.0 ex.leaves in
    record {
      enters = out;
      leaves = leaves;
      corner = same_corner p (exchanged s a) (exchanged s b) (same_exchanged s a b same ex.leaves leaves) (exchanged_apart s b corner.apart (each-out (place s.enter) b out)) ex.corner;
    }

-- ---- what is judged at a corner

pub end_same : (dual : Bool) (p : Problem) (a b : List Mark) → SameMarks a b → IsEndOf dual p a → IsEndOf dual p b
end_same true p a b same (inl h) = inl (values_same p a b same h)
end_same true p a b same (inr (x, stands, cost)) = inr (x, same_stands p b a x (λ v i. contains_in a b v same.0 i) stands, cost)
end_same false p a b same (inl h) = inl (columns_same p a b same h)
end_same false p a b same (inr ((x, stands, cost), (m, is, up))) =
    inr ((x, same_stands p b a x (λ v i. contains_in a b v same.0 i) stands, cost), (m, same_multipliers p b a m (λ v i. contains_in b a v same.1 i) is, up))

pub may_same : (dual : Bool) (p : Problem) (a b : List Mark) (s : Swap) → SameMarks a b → MaySwap dual p a s → MaySwap dual p b s
may_same true p a b s same (x, stands, low) = (x, same_stands p b a x (λ v i. contains_in a b v same.0 i) stands, low)
may_same false p a b s same (m, is, low) = (m, same_multipliers p b a m (λ v i. contains_in b a v same.1 i) is, low)

-- the marks of a place are of one row
before_there : (a : List Mark) (x : Point) (id : ℕ) (m : Mark) → Each (λ n. IsBefore id n.row → pos 0 ≤ℤ x.num (place n)) a → IsIn (place m) a → IsBefore id m.row → pos 0 ≤ℤ x.num (place m)
before_there [] x id m all (k, within, is) before = absurd (omega (arith, within))
before_there (n ∷ a) x id m all (zero, within, is) before =
    subst (λ (c : ℕ). pos 0 ≤ℤ x.num c) is (all.0 (subst (IsBefore id) (sym (by-sides n.row m.row n.side m.side is).0) before))
before_there (n ∷ a) x id m all (suc k, within, is) before = before_there a x id m all.1 (k, omega (arith, within), is) before

pub before_same : (p : Problem) (a b : List Mark) (id : ℕ) → SameMarks a b → AreNonnegativeBefore p a id → AreNonnegativeBefore p b id
before_same p a b id same (x, stands, up) = (
  x,
  same_stands p b a x (λ v i. contains_in a b v same.0 i) stands,
  λ i d within before. before_there a x id (get_or b i d) (recursion_from_All (λ n. IsBefore id n.row → pos 0 ≤ℤ x.num (place n)) a up) (same.1 i d within) before,
)

-- ---- what does not fit

over_same : (p : Problem) (a b : List Mark) (id : ℕ) → SameMarks a b → AreOverFrom p a id → AreOverFrom p b id
over_same p a b id same h k d within less = contains_in a b _ same.0 (h k d within less)

terms_same : (p : Problem) (a b : List Mark) (mark : Mark) (j : ℕ) → SameMarks a b → IsUnfitTerms p a mark j → IsUnfitTerms p b mark j
terms_same p a b mark j same (k, r, within, is, h) = (k, r, within, is, (h.0, over_same p a b r.id same h.1, h.2, h.3, unfit_writing p a b (first_terms r j) same h.4))

pub unfit_same : (p : Problem) (a b : List Mark) (q : Quantity) → SameMarks a b → IsUnfitAt p a q → IsUnfitAt p b q
unfit_same p a b (Plain what) same h = what_same p a b what same h
unfit_same p a b (Terms mark j) same h = terms_same p a b mark j same h
unfit_same p a b (Rows level j) same h = (h.0, h.1, h.2, h.3, unfit-level (with_first_rows h.0 j p) a b h.0 same h.4)
unfit_same p a b (Shifts what j) same h = what_same p a b what same h

-- ---- along exchanges

pub exchanges_same : (p : Problem) (a b : List Mark) (swaps : List Swap) → SameMarks a b → IsCorner p b → AreExchanges p a swaps → AreExchanges p b swaps
exchanges_same p a b [] same corner are = tt
exchanges_same p a b (s ∷ swaps) same corner are =
    let ex : IsExchange p b s = exchange_same p a b s same corner are.0 in
    (ex, exchanges_same p (exchanged s a) (exchanged s b) swaps (same_exchanged s a b same are.0.leaves ex.leaves) ex.corner are.1)

pub last_same : (p : Problem) (a b : List Mark) (swaps : List Swap) → SameMarks a b → AreExchanges p a swaps → AreExchanges p b swaps → SameMarks (last_marks a swaps) (last_marks b swaps)
last_same p a b [] same x y = same
last_same p a b (s ∷ swaps) same x y = last_same p (exchanged s a) (exchanged s b) swaps (same_exchanged s a b same x.0.leaves y.0.leaves) x.1 y.1
