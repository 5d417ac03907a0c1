-- Where the path of a change begins: the corner that was kept, changed as the rows are.
use Rattle.std.specs.Prelude.{◌≡◌, ◌≢◌, ◌⊎◌, ℕ, Bool, true, false, cond, nat_eq, List, [], ◌∷◌, ◌++◌, map}
use Rattle.std.specs.Prelude.{filter, pos, ◌≤ℤ◌, ◌<ℤ◌, All, AllPairs}
use Rattle.std.specs.List.{AllZip}
use Rattle.problem_core.specs.declared.parts.RowName.{RowName}
use Rattle.problem_core.specs.declared.parts.RowName.TheVariants.{Held, Stay as StayOf}
use Rattle.problem_core.specs.declared.parts.Mark.{Mark}
use Rattle.problem_core.specs.declared.parts.Side.TheVariants.{Under, Over}
use Rattle.problem_core.specs.Layout.{Row, Problem}
use Rattle.problem_core.specs.Corners.{IsExchange, IsIn, Point, SameMarks, StandsAt, Swap, exchanged}
use Rattle.problem_core.specs.Corners.{place, place_of}
use Rattle.problem_core.specs.Unfit.{over_mark, under_mark}
use Rattle.problem_core.specs.Changes.Paths.{last_marks}

-- the row's mark that is not negative at the point, over at 0
abbrev pub IsJoined : Point → Row → Mark → Type 0
IsJoined x r m = ((m ≡ over_mark r.id) × (pos 0 ≤ℤ x.num (place m)))
    ⊎ ((m ≡ under_mark r.id) × (pos 0 <ℤ x.num (place m)))

-- the kept marks, of each row that has joined its mark that is not negative, and of the rows that are still
-- to join their over marks
pub record BeginsWith (p : Problem) (kept : List Mark) (joined rest : List Row)
    (at : List Mark) : Type 0 where
  pub news : List Mark
  pub marks : SameMarks at (kept ++ (news ++ map (λ r. over_mark r.id) rest))
  pub point : Point
  pub stands : StandsAt p at point
  pub each : AllZip (IsJoined point) joined news

-- ---- after a removal

-- whether the name is that of the held row of this number
abbrev pub is_row : ℕ → RowName → Bool
is_row id (Held n) = nat_eq n id
is_row id (StayOf attr) = false

-- whether the name is that of one of these held rows
abbrev pub is_one_of : List ℕ → RowName → Bool
is_one_of [] name = false
is_one_of (id ∷ ids) name = cond (is_row id name) true (is_one_of ids name)

-- without the marks of these rows
abbrev pub without_marks : List ℕ → List Mark → List Mark
without_marks ids at = filter (λ m. cond (is_one_of ids m.row) false true) at

-- each is an exchange at the corner to which those before it lead
abbrev pub AreExchanges : Problem → List Mark → List Swap → Type 0
AreExchanges p at [] = Unit {0}
AreExchanges p at (s ∷ swaps) = IsExchange p at s × AreExchanges p (exchanged s at) swaps

-- the exchange changes no value: what stands at the corner stands at the next one too
abbrev pub ChangesNoValue : Problem → List Mark → Swap → Type 0
ChangesNoValue p at s = (x : Point) → StandsAt p at x → StandsAt p (exchanged s at) x

-- each changes no value at the corner to which those before it lead
abbrev pub ChangeNoValue : Problem → List Mark → List Swap → Type 0
ChangeNoValue p at [] = Unit {0}
ChangeNoValue p at (s ∷ swaps) = ChangesNoValue p at s × ChangeNoValue p (exchanged s at) swaps

-- a mark of the row or stay is inside
abbrev pub HasMarkOf : List Mark → RowName → Type 0
HasMarkOf at name = IsIn (place_of name Under) at ⊎ IsIn (place_of name Over) at

-- the exchange brings in the over mark of one of these rows, which had no mark inside, for a stay's mark
pub record IsFreeing (kept : List Mark) (leaving : List ℕ) (s : Swap) : Type 0 where
  pub row : is_one_of leaving s.enter.row ≡ true
  pub over : s.enter.side ≡ Over
  pub fresh : HasMarkOf kept s.enter.row → ⊥
  pub stay : (attr : ℕ) × (s.leave.row ≡ StayOf attr)

-- exchanges that change no value, at most one for each leaving row without a mark inside, bring a mark of it
-- in for a stay's; then the marks of the rows that are gone are taken out
pub record ComesFrom (p : Problem) (kept : List Mark) (leaving gone : List ℕ) (at : List Mark) : Type 0 where
  pub frees : List Swap
  pub each : All (IsFreeing kept leaving) frees
  pub apart : AllPairs (λ s t. s.enter.row ≢ t.enter.row) frees
  pub exchanges : AreExchanges p kept frees
  pub same : ChangeNoValue p kept frees
  pub marks : SameMarks at (without_marks gone (last_marks kept frees))
