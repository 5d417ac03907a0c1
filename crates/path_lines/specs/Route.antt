-- The checker's route: from the over marks of all held rows to the corner of a path, and along its exchanges.
use Rattle.std.specs.Prelude.{◌≡◌, ◌⊎◌, List, [], ◌∷◌, ◌++◌, map, length, take, All}
use Rattle.problem_core.specs.declared.parts.Mark.{Mark}
use Rattle.problem_core.specs.Layout.{Problem}
use Rattle.problem_core.specs.Corners.{IsExchange, IsIn, Swap, exchanged, place}
use Rattle.problem_core.specs.Changes.Begins.{AreExchanges}
use Rattle.problem_core.specs.Changes.Paths.{last_marks}
use Rattle.problem_core.specs.Unfit.{over_mark}
use Rattle.cert_core.specs.Paths.{Path}
use Rattle.cert_core.specs.Stops.{ComesBefore}

-- the marks inside where a route begins: the over marks of all held rows
abbrev pub over_marks : Problem → List Mark
over_marks p = map (λ r. over_mark r.id) p.rows

-- an inside mark that is not one of the path's first corner, and makes an exchange
pub record MayGiveWay (p : Problem) (wanted at : List Mark) (s : Swap) : Type 0 where
  pub unwanted : IsIn (place s.leave) wanted → ⊥
  pub exchange : IsExchange p at s

-- the first such, by its row's number
pub record GivesWay (p : Problem) (wanted at : List Mark) (s : Swap) : Type 0 where
  pub may : MayGiveWay p wanted at s
  pub first : (m : Mark) → MayGiveWay p wanted at (record { enter = s.enter; leave = m })
      → ComesBefore m.row s.leave.row → ⊥

-- the route goes on by these exchanges: the marks that are not inside yet enter one after the other, and then
-- the swaps are made. It may stop on the way
abbrev pub GoesBy : Problem → List Mark → List Swap → List Mark → List Mark → List Swap → Type 0
GoesBy p wanted swaps at [] done = (done ≡ take (length done) swaps) × AreExchanges p at done
GoesBy p wanted swaps at (m ∷ rest) [] = Unit {0}
GoesBy p wanted swaps at (m ∷ rest) (s ∷ done) =
    (IsIn (place m) at × GoesBy p wanted swaps at rest (s ∷ done))
    ⊎ ((IsIn (place m) at → ⊥) × (s.enter ≡ m) × GivesWay p wanted at s
    × GoesBy p wanted swaps (exchanged s at) rest done)

-- the first exchanges of the route for the path
abbrev pub IsRoute : Problem → Path → List Swap → Type 0
IsRoute p path done = GoesBy p path.corner path.swaps (over_marks p) path.corner done

-- the corner that they lead to
abbrev pub corner_after : Problem → List Swap → List Mark
corner_after p done = last_marks (over_marks p) done

-- nothing is left: all marks of the path's first corner are inside before its swaps begin, and all swaps are
-- made
abbrev pub EndsBy : List Mark → List Swap → List Mark → List Swap → Type 0
EndsBy wanted swaps at done = (brings : List Swap) × (done ≡ brings ++ swaps)
    × All (λ m. IsIn (place m) (last_marks at brings)) wanted

-- these are all exchanges of the route for the path
abbrev pub IsWholeRoute : Problem → Path → List Swap → Type 0
IsWholeRoute p path done = IsRoute p path done × EndsBy path.corner path.swaps (over_marks p) done
