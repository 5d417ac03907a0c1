-- What a slide keeps, what it comes to, and why it stops.
use Rattle.std.specs.Prelude.{◌≡◌, ◌≤◌, ◌⊎◌, ℕ, Bool, true, false, List, [], ◌∷◌, ◌++◌, length, Option}
use Rattle.std.specs.Prelude.{Some, None, All, IfSome}
use Rattle.frac_core.specs.Fraction.{Fraction}
use Rattle.frac_core.specs.declared.memory.Stop.{Stop}
use Rattle.frac_core.specs.declared.memory.Stop.TheVariants.{Refused, OutOfMemory as NoMemory}
use Rattle.problem_core.specs.declared.parts.Mark.{Mark}
use Rattle.problem_core.specs.declared.stops.Quantity.TheVariants.{Plain, Terms, Rows, Shifts}
use Rattle.problem_core.specs.declared.stops.What.TheVariants.{Attr}
use Rattle.problem_core.specs.Layout.{Problem}
use Rattle.problem_core.specs.Corners.{NoNegativeColumn}
use Rattle.cert_core.specs.declared.by.By.{By}
use Rattle.cert_core.specs.declared.stops.RunStop.{RunStop}
use Rattle.cert_core.specs.declared.stops.RunStop.TheVariants as run
use Rattle.corner_view.specs.Changes.{scene_of}
use Rattle.corner_view.specs.Seen.{CornerView, Scene}
use Rattle.corner_ends.specs.Trails.{IsPathBy, IsTrailOf, Trail}
use Rattle.sweep_laws.specs.Laws.{LeavesAt}
use Rattle.sweep_laws.specs.Stops.{IsSlideFar, IsSlideSpent, IsSlideUnfit, Turns}
use Rattle.sweep_laws.specs.Stretches.{AreRight, Clash, Cover, IsClash, IsLong, IsPieceOf, Piece, Stretch}
use Rattle.sweep_run.specs.declared.slides.Slid.{Slid}
use Rattle.sweep_run.specs.declared.slides.Turn.{Turn}
use Rattle.sweep_run.specs.declared.stretches.SweepQuantity.{SweepQuantity}
use Rattle.sweep_run.specs.declared.stretches.SweepQuantity.TheVariants.{At, Breakpoint}
use Rattle.sweep_run.specs.declared.stretches.SweepStop.{SweepStop}
use Rattle.sweep_run.specs.declared.stretches.SweepStop.TheVariants.{Unfit, Spent, OutOfMemory}
use Rattle.sweep_run.specs.declared.ways.Place.{Place}
use Rattle.sweep_run.specs.declared.ways.Way.{Way}
use Rattle.sweep_run.specs.Told.{stretches_of}
use Rattle.sweep_run.specs.Values.{AreValuesAt}
use Rattle.sweep_run.specs.declared.rates.Crossing.{Crossing}
use Rattle.sweep_run.specs.Ways.{ComesBefore, IsAtEnd, IsNoLater, IsPlaceOf, IsReached, IsSoonest}
use Rattle.sweep_run.specs.Ways.{IsUnfitStopThere, there}

-- ---- stretches

-- the piece from the one constant to the other on the way up, or from the other one on the way down
abbrev pub piece_between : Bool → Fraction → Fraction → List (ℕ × Fraction) → List (ℕ × Fraction) → Stretch
piece_between true a b at_a at_b = Piece a b at_a at_b
piece_between false a b at_a at_b = Piece b a at_b at_a

abbrev pub clash_between : Bool → Fraction → Fraction → List By → Stretch
clash_between true a b by = Clash a b by
clash_between false a b by = Clash b a by

-- by rising constant
abbrev pub rising : Bool → List Stretch → List Stretch
rising true stretches = stretches
rising false [] = []
rising false (s ∷ stretches) = rising false stretches ++ s ∷ []

-- from the one constant to the other, or nothing where that is the same
abbrev pub CoverTo : Bool → Fraction → Fraction → List Stretch → Type 0
CoverTo up a b [] = a ≡ b
CoverTo true a b (s ∷ stretches) = Cover a b (s ∷ stretches)
CoverTo false a b (s ∷ stretches) = Cover b a (rising false (s ∷ stretches))

-- where the way is shown from
abbrev pub IsShownFrom : Way → Fraction → Type 0
IsShownFrom way a = (IsNoLater way.up way.near.width way.first.width × (a ≡ way.first.width))
    ⊎ (ComesBefore way.up way.first.width way.near.width × (a ≡ way.near.width))

-- ---- on the way

-- the values there, once the way is shown; before that there is no stretch
abbrev pub HasShown : Problem → Way → List Mark → Place → Option (List (ℕ × Fraction)) → List Stretch → Type 0
HasShown p way at w None stretches = ComesBefore way.up w.width way.near.width × (stretches ≡ [])
HasShown p way at w (Some values) stretches = IsNoLater way.up way.near.width w.width
    × AreValuesAt (there p way w.width) at values

-- the pieces up to a place at which these marks are still a best end
pub record IsAtPlace (p : Problem) (way : Way) (at : List Mark) (slid : Slid) : Type 0 where
  pub reached : IsReached p way at slid.at
  pub from : Fraction
  pub shown_from : IsShownFrom way from
  pub shown : HasShown p way at slid.at slid.values (stretches_of slid.stretches.items)
  pub covers : IfSome slid.values
      (λ values. CoverTo way.up from slid.at.width (stretches_of slid.stretches.items))
  pub right : AreRight p way.row true (rising way.up (stretches_of slid.stretches.items))
  pub pieces : All IsPieceOf (stretches_of slid.stretches.items)
  pub long : All IsLong (stretches_of slid.stretches.items)

-- the exchanges so far are a dual run with the end's constant, and each took out a mark that isn't above 0 at
-- the place reached
pub record IsOnWay (p : Problem) (way : Way) (first : List Mark) (trail : Trail) (at : List Mark)
    (slid : Slid) : Type 0 where
  pub trail_is : IsTrailOf true (there p way way.end) first trail at
  pub leaves : LeavesAt (there p way slid.at.width) first trail.swaps
  pub behind : IsAtPlace p way at slid

-- where there are values at the place reached, but no piece, these are one, of its constant alone
abbrev pub led_by : Bool → Fraction → Option (List (ℕ × Fraction)) → List Stretch → List Stretch
led_by up w None stretches = stretches
led_by up w (Some values) [] = piece_between up w w values values ∷ []
led_by up w (Some values) (Piece from to low high ∷ rest) = Piece from to low high ∷ rest
led_by up w (Some values) (Clash from to by ∷ rest) =
    piece_between up w w values values ∷ Clash from to by ∷ rest

-- the stretches with that piece
abbrev pub all_of : Way → Slid → List Stretch
all_of way slid = led_by way.up slid.at.width slid.values (stretches_of slid.stretches.items)

-- the slide is through: all from where it is shown is behind it, and right; at most the last stretch is a
-- conflict, which is a single constant only where nothing else is shown. There are values unless the conflict
-- begins before the way is shown, and without a piece they are those where it is shown from
pub record HasSlid (p : Problem) (way : Way) (slid : Slid) : Type 0 where
  pub from : Fraction
  pub shown_from : IsShownFrom way from
  pub covers : CoverTo way.up from way.end (stretches_of slid.stretches.items)
  pub right : AreRight p way.row true (rising way.up (all_of way slid))
  pub pieces : List Stretch
  pub clash : List Stretch
  pub parts : stretches_of slid.stretches.items ≡ pieces ++ clash
  pub are_pieces : All IsPieceOf pieces
  pub are_long : All IsLong pieces
  pub few : length clash ≤ 1
  pub are_clashes : All IsClash clash
  pub long_clash : IfSome slid.values (λ values. All IsLong clash)
  pub not_shown : slid.values ≡ None → (pieces ≡ []) × (length clash ≡ 1)
  pub shown_late : slid.values ≡ None → ComesBefore way.up way.first.width way.near.width
  pub at_start : pieces ≡ [] → IfSome slid.values (λ values. slid.at.width ≡ from)

-- nothing is behind it
abbrev pub HasBegun : Problem → List Mark → Way → Slid → Type 0
HasBegun p at way slid = (slid.stretches.items ≡ []) × (slid.at ≡ way.first) × IsAtPlace p way at slid

-- ---- stops

-- with the path so far
abbrev pub IsUnfitWith : CornerView → Trail → Fraction → SweepQuantity → SweepStop → Type 0
IsUnfitWith c trail w q (Unfit width path what) = (width ≡ w) × (what ≡ q) × IsPathBy c trail trail.swaps path
IsUnfitWith c trail w q (Spent width path) = ⊥
IsUnfitWith c trail w q OutOfMemory = Unit {0}

abbrev pub IsSpentWith : CornerView → Trail → Fraction → SweepStop → Type 0
IsSpentWith c trail w (Unfit width path what) = ⊥
IsSpentWith c trail w (Spent width path) = (width ≡ w) × IsPathBy c trail trail.swaps path
IsSpentWith c trail w OutOfMemory = Unit {0}

abbrev pub IsValueStop : CornerView → Trail → Fraction → Stop ℕ → SweepStop → Type 0
IsValueStop c trail w (Refused attr) stop = IsUnfitWith c trail w (At (Plain (Attr attr))) stop
IsValueStop c trail w NoMemory stop = stop ≡ OutOfMemory

-- why a slide stops: nothing that fits is told, and a path is lawful with the constant that is named
abbrev pub IsSlideStop : Problem → List Mark → Way → ℕ → SweepStop → Type 0
IsSlideStop p kept way budget (Unfit width path (At (Plain what))) =
    IsSlideUnfit p way.row kept way.first.width way.near.width way.end way.end budget width path what
IsSlideStop p kept way budget (Unfit width path (At (Terms m j))) = ⊥
IsSlideStop p kept way budget (Unfit width path (At (Rows level j))) = ⊥
IsSlideStop p kept way budget (Unfit width path (At (Shifts what j))) = ⊥
IsSlideStop p kept way budget (Unfit width path (Breakpoint m)) =
    (width ≡ way.end) × IsSlideFar p way.row kept way.first.width way.end budget path m
IsSlideStop p kept way budget (Spent width path) =
    (width ≡ way.end) × IsSlideSpent p way.row kept way.end budget path
IsSlideStop p kept way budget OutOfMemory = Unit {0}

-- the stop of a run, with this constant (a conflict is none)
abbrev pub run_stop : Fraction → RunStop → SweepStop
run_stop width (run.Conflict by) = OutOfMemory
run_stop width (run.Unfit at) = Unfit width at.path (At at.quantity)
run_stop width (run.Spent path) = Spent width path
run_stop width run.OutOfMemory = OutOfMemory

-- ---- steps

-- the corner is that of the newest mark
abbrev pub IsMarked : CornerView → Type 0
IsMarked c = (rest : List Scene) × (c.before ≡ scene_of c ∷ rest)

-- the corner is that of the end, the exchanges so far are the trail's, from the corner with these marks, and
-- behind them is this
pub record IsSlidingFrom (first : List Mark) (c : CornerView) (way : Way) (trail : Trail) (slid : Slid)
    : Type 0 where
  pub at_end : IsAtEnd way c
  pub columns : NoNegativeColumn c.problem c.marks
  pub on_way : IsOnWay c.problem way first trail c.marks slid

-- from some corner
abbrev pub IsSliding : CornerView → Way → Trail → Slid → Type 0
IsSliding c way trail slid = (first : List Mark) × IsSlidingFrom first c way trail slid

-- the next mark to leave is the one whose value was 0 first, at this place, which is no earlier than any at
-- which the marks are a best end; and they are one there
pub record IsTurn (c : CornerView) (way : Way) (turn : Turn) : Type 0 where
  pub soonest : Crossing
  pub is : IsSoonest c.problem c.marks way soonest
  pub mark_is : turn.mark ≡ soonest.mark
  pub place : IsPlaceOf way soonest turn.place
  pub reached : IsReached c.problem way c.marks turn.place
  pub later : (before : Place) → IsReached c.problem way c.marks before
      → IsNoLater way.up before.width turn.place.width
  pub turns : Turns c.problem way.row c.marks turn.mark turn.place.width

-- the slide stops so after these exchanges, if it may make so many
abbrev pub IsStopAfter : CornerView → Way → Trail → ℕ → SweepStop → Type 0
IsStopAfter c way trail budget stop = (first : List Mark) → IsTrailOf true c.problem first trail c.marks
    → length trail.swaps ≤ budget → IsSlideStop c.problem first way budget stop

-- so does one that is on its way
abbrev pub IsStopOn : CornerView → Way → Trail → Slid → ℕ → SweepStop → Type 0
IsStopOn c way trail slid budget stop = (first : List Mark) → IsSlidingFrom first c way trail slid
    → length trail.swaps ≤ budget → IsSlideStop c.problem first way budget stop

-- a slide that was on its way there is on its way here
abbrev pub StaysSliding : CornerView → Trail → Slid → CornerView → Trail → Slid → Way → Type 0
StaysSliding c trail slid next new_trail new_slid way = (first : List Mark)
    → IsSlidingFrom first c way trail slid → IsSlidingFrom first next way new_trail new_slid

-- the end, or a constant at which an inside mark is 0 and with another one isn't
abbrev pub MayBeTold : CornerView → Way → Fraction → Type 0
MayBeTold c way w = (w ≡ way.end) ⊎ ((m : Mark) × Turns c.problem way.row c.marks m w)

-- the place is at or beyond the one reached, the marks are still a best end there, and what doesn't fit may
-- be told there
pub record MayAdvance (c : CornerView) (way : Way) (slid : Slid) (to : Place) : Type 0 where
  pub reached : IsReached c.problem way c.marks to
  pub later : IsNoLater way.up slid.at.width to.width
  pub told : MayBeTold c way to.width

-- the way is shown from here on
pub record HasEntered (c : CornerView) (way : Way) (old new : Slid) : Type 0 where
  pub was : IfSome old.values (λ values. new ≡ old)
  pub begins : old.values ≡ None → new.at ≡ way.near
  pub some : new.values ≡ None → ⊥
  pub behind : IsAtPlace c.problem way c.marks new

-- a value at the place doesn't fit, after the exchanges so far, or memory is wanting
abbrev pub IsReadStop : CornerView → Way → Trail → Place → SweepStop → Type 0
IsReadStop c way trail place stop = (cause : Stop ℕ) × IsUnfitStopThere c way place cause
    × IsValueStop c trail place.width cause stop

-- the piece up to the place, with these values there, is behind it besides
pub record IsPieceMore (way : Way) (old : Slid) (to : Place) (values : List (ℕ × Fraction)) (new : Slid)
    : Type 0 where
  pub at_is : new.at ≡ to
  pub values_are : new.values ≡ Some values
  pub more : IfSome old.values (λ before. stretches_of new.stretches.items ≡ stretches_of old.stretches.items
      ++ piece_between way.up old.at.width to.width before values ∷ [])
