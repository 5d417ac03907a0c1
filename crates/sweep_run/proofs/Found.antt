-- The crossing that is found line by line.
use Rattle.std.proofs.Common.{◌≡◌, ◌∙◌, ◌⊎◌, inl, inr, ℕ, ◌+◌, ◌<◌, ◌≤◌, List, length, slice_index_or, pos, ◌≤ℤ◌, sym, ap, subst, arith}
use Rattle.std.specs.declared.option.Option.{Option}
use Rattle.std.specs.Prelude.{Some, None, IfSome, IfNone}
use Rattle.std.proofs.lemmas.Bool.{cases_eq}
use Rattle.std.proofs.lemmas.List.Elements.{All-from_recursion}
use Rattle.frac_core.proofs.Numbers.{low-or-up}
use Rattle.problem_core.specs.declared.parts.Mark.{Mark}
use Rattle.problem_core.specs.declared.parts.RowName.{RowName}
use Rattle.problem_core.specs.Layout.{Problem}
use Rattle.problem_core.specs.Corners.{IsIn, NoNegativeValue, place}
use Rattle.problem_core.proofs.Forms.{each-impl}
use Rattle.problem_core.proofs.Marks.{in-list as in_list}
use Rattle.corner_view.specs.Seen.{CornerView, IsKeptCorner}
use Rattle.dual_run.specs.Leaving.{AreLowLines, IsLow}
use Rattle.sweep_run.specs.declared.rates.Crossing.{Crossing}
use Rattle.sweep_run.specs.declared.ways.Way.{Way}
use Rattle.sweep_run.specs.Ways.{HasCrossingWithin, IsBetterOf, IsCrossing, IsSoonest, there}
use Rattle.sweep_run.proofs.Soonest.{as_far_trans}

-- the mark's crossing is no farther than what is found
abbrev pub IsPassed : CornerView → Way → Option Crossing → Mark → Type 0
IsPassed c way None m = ⊥
IsPassed c way (Some f) m = HasCrossingWithin c.problem c.marks way f m

abbrev pub IsFoundIf : CornerView → Way → Option Crossing → Type 0
IsFoundIf c way found = IfSome found (IsCrossing c.problem c.marks way)

-- of the first lines no negative mark's crossing is farther than what is found, which is a crossing
pub record IsFarthest (c : CornerView) (way : Way) (names : List RowName) (i : ℕ) (found : Option Crossing) : Type 0 where
  pub crossing : IsFoundIf c way found
  pub first : (m : Mark) → IsLow (there c.problem way way.end) c.marks m → (k : ℕ) → k < i → k < length names → slice_index_or names k m.row ≡ m.row → IsPassed c way found m

pub farthest_none : (c : CornerView) (way : Way) (names : List RowName) → IsFarthest c way names 0 None
farthest_none c way names = record { crossing = tt; first = λ m low k less within is. absurd (omega (arith, less)) }

pub found_more : (c : CornerView) (way : Way) (found best : Option Crossing) (line : RowName) → IsFoundIf c way found → IsBetterOf c way found line best → IsFoundIf c way best
found_more c way found None line crossing better = tt
found_more c way found (Some f) line crossing better = elim better.new [
  | inl e ↦ subst (λ (o : Option Crossing). IsFoundIf c way o) e crossing
  | inr is ↦ is
]

passed-more : (c : CornerView) (way : Way) (found best : Option Crossing) (line : RowName) (m : Mark) → IsFoundIf c way found → IsFoundIf c way best → IsBetterOf c way found line best → IsPassed c way found m → IsPassed c way best m
passed-more c way None best line m crossing now better h = absurd h
passed-more c way (Some a) None line m crossing now better h = absurd better.kept.1
passed-more c way (Some a) (Some f) line m crossing now better (y, is, mark, far) = (y, is, mark, as_far_trans f a y now.above_q crossing.above_q is.above_q better.kept.0 far)

passed-line : (c : CornerView) (way : Way) (found best : Option Crossing) (line : RowName) (m : Mark) → IsBetterOf c way found line best → IsLow (there c.problem way way.end) c.marks m → m.row ≡ line → IsPassed c way best m
passed-line c way found None line m better low e = absurd (better.first m low e).1
passed-line c way found (Some f) line m better low e = (better.first m low e).0

earlier-or-last : (k i : ℕ) → k < i + 1 → (k < i) ⊎ (k ≡ i)
earlier-or-last k i less = elim (cases_eq k i) [ inl e ↦ inr e | inr n ↦ inl (omega (arith, less, n)) ]

pub farthest_more : (c : CornerView) (way : Way) (names : List RowName) (i : ℕ) (found best : Option Crossing) (line : RowName) → IsFarthest c way names i found → ((d : RowName) → i < length names → slice_index_or names i d ≡ line) → IsBetterOf c way found line best → IsFarthest c way names (i + 1) best
farthest_more c way names i found best line is here better = record {
  crossing = found_more c way found best line is.crossing better;
  first = λ m low k less within row. elim (earlier-or-last k i less) [
    | inl before ↦ passed-more c way found best line m is.crossing (found_more c way found best line is.crossing better) better (is.first m low k before within row)
    | inr same ↦
        passed-line c way found best line m better low
        (sym row ∙ ap (λ (n : ℕ). slice_index_or names n m.row) same ∙ here m.row (subst (λ (n : ℕ). n < length names) same within))
  ];
}

module _ (c : CornerView) (way : Way) (kept : IsKeptCorner c.problem c.marks) (same : there c.problem way way.end ≡ c.problem) (names : List RowName) (lows : AreLowLines c.problem c.marks names) (i : ℕ) (all : length names ≤ i) where
  passed : (found : Option Crossing) → IsFarthest c way names i found → (m : Mark) → IsLow c.problem c.marks m → IsPassed c way found m
  passed found is m low =
      let there-low = subst (λ (q : Problem). IsLow q c.marks m) (sym same) low in
      let at = lows.low m low in
      is.first m there-low at.0 (let less = at.1 in omega (arith, less, all)) at.1 at.2

  pub soonest_of : (f : Crossing) → IsFarthest c way names i (Some f) → IsSoonest c.problem c.marks way f
  soonest_of f is = record {
    crossing = is.crossing;
    first = λ m low. passed (Some f) is m (subst (λ (q : Problem). IsLow q c.marks m) same low);
  }

  pub none_found : IsFarthest c way names i None → NoNegativeValue c.problem c.marks
  none_found is = (
    kept.corner.point,
    kept.corner.stands,
    All-from_recursion (λ m. pos 0 ≤ℤ kept.corner.point.num (place m)) c.marks
        (each-impl (λ m. IsIn (place m) c.marks) (λ m. pos 0 ≤ℤ kept.corner.point.num (place m)) c.marks
        (λ m inside. elim (low-or-up (kept.corner.point.num (place m))) [
          | inr up ↦ up
          | inl low ↦ absurd (passed None is m (record { inside = inside; value = (kept.corner.point, kept.corner.stands, low) }))
        ])
        (in_list c.marks)),
  )

  pub some_soonest : (found : Option Crossing) → IsFarthest c way names i found → IfSome found (IsSoonest c.problem c.marks way)
  some_soonest None is = tt
  some_soonest (Some f) is = soonest_of f is

  pub none_soonest : (found : Option Crossing) → IsFarthest c way names i found → IfNone found (NoNegativeValue c.problem c.marks)
  none_soonest None is = none_found is
  none_soonest (Some f) is = tt
