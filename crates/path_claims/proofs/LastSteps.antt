-- The last corner of a path, and the verdict.
use Rattle.std.proofs.Common.{◌≡◌, ◌≢◌, ◌∙◌, ◌↔◌, ◌⊎◌, inl, inr, ◌+◌, ℕ, ◌-◌, ◌<◌, ◌≤◌, ◌++◌, Bool, true, false, ◌&&◌, IsTrue, List, [], ◌∷◌, length, get_or, refl, sym, ap, subst, subst₂, arith, Option, None, Some, take_all}
use Rattle.std.proofs.lemmas.Bool.{cases_eq, cases_lt}
use Rattle.problem_core.specs.declared.parts.Mark.{Mark}
use Rattle.problem_core.specs.declared.parts.RowName.{RowName}
use Rattle.problem_core.specs.declared.stops.Quantity.{Quantity}
use Rattle.problem_core.specs.Layout.{Problem, Row}
use Rattle.problem_core.specs.Kept.{IsWhole}
use Rattle.problem_core.specs.Changes.Begins.{AreExchanges}
use Rattle.problem_core.specs.Corners.{IsCorner, IsExchange, SameMarks, Swap, exchanged}
use Rattle.problem_core.specs.Changes.Paths.{IsSound, last_marks}
use Rattle.cert_core.specs.Paths.{Path}
use Rattle.cert_core.specs.Stops.{IsBefore}
use Rattle.path_lines.specs.declared.spots.Step.{Step}
use Rattle.path_lines.specs.declared.table.Inside.{Inside}
use Rattle.path_claims.specs.declared.verdict.PathVerdict.{PathVerdict}
use Rattle.path_claims.specs.declared.verdict.PathVerdict.TheVariants.{No}
use Rattle.path_claims.specs.declared.way.WayStop.{WayStop}
use Rattle.path_claims.specs.declared.way.WayStop.TheVariants.{Fails, NoRoom as NoRoomAfter, OutOfMemory}
use Rattle.path_claims.specs.PathClauses.{AreApart, AreSound, AreSoundBefore, IsPathVerdict, row_of_terms}
use Rattle.path_lines.specs.Room.{CountsAtEnd, HasNoRoom, IsPartOf}
use Rattle.path_lines.specs.Route.{IsRoute, IsWholeRoute, corner_after, over_marks}
use Rattle.path_lines.specs.Tables.{AreJudged, name_at, swap_of}
use Rattle.path_claims.specs.Ways.{IsBegun, IsEnded, IsMarkStop, IsSwapStop}
use Rattle.path_lines.proofs.Walking.FirstLines.{count_lines, row_name, stay_name}
use Rattle.path_claims.proofs.Walking.WayBegins.{any_row}
use Rattle.path_lines.proofs.Places.{any_stay}
use Rattle.path_claims.specs.declared.along.Walked.{Walked}
use Rattle.path_claims.specs.declared.journey.PathCase.{PathCase}
use Rattle.path_levels.specs.declared.outline.Outline.{Outline}
use Rattle.path_fits.specs.declared.last.Fit.{Fit}
use Rattle.path_fits.specs.declared.last.Fit.TheVariants.{Fits, Unfit, NoRoom}
use Rattle.path_fits.specs.declared.last.Last.{Last}
use Rattle.path_claims.specs.declared.stations.Station.{Station}
use Rattle.path_claims.specs.declared.stations.Table.{Table}
use Rattle.path_levels.specs.declared.sums.LevelSum.{LevelSum}
use Rattle.path_fits.specs.Fits.{IsFitAt, IsLastAfter, marks_after}
use Rattle.path_claims.specs.Journeys.{AreSoundAhead, IsOnRoute, IsPathCase}
use Rattle.path_claims.specs.Judging.{IsFitFor, IsFound, IsSoundFrom, IsWalked, unjudged_from}
use Rattle.path_levels.specs.Levels.{AreLevels}
use Rattle.path_levels.specs.Rows.{AreKept}
use Rattle.path_claims.specs.Stations.{ComesBy, IsStation, IsStationBy, IsStuckAt, IsTableAt}
use Rattle.path_claims.proofs.AlongSteps.{marks_same, no_room_end, route_is, both_true}
use Rattle.path_claims.proofs.MarkOrders.{before_same, unfit_same}
use Rattle.problem_core.proofs.Marks.{same-back as same_back}
use Rattle.corner_lines.proofs.LevelRows.SameLevels.{sound_same}

-- ---- rows that are judged

pub rows_judged : (p : Problem) (rows : List Row) (id n : ℕ) → IsWhole p → rows ≡ p.rows → n ≤ length rows → ((k : ℕ) (r : Row) → k < n → (get_or rows k r).id < id) → ((r : Row) → n < length rows → id ≤ (get_or rows n r).id) → AreJudged p id n (length p.rows)
rows_judged p rows id n whole same within less more k here =
    elim (cases_lt k (length p.rows)) [
      | inl row ↦ subst (λ (name : RowName). ((k < n) ⊎ (length p.rows ≤ k)) ↔ IsBefore id name) (sym (row_name p k any_row row)) (
        λ case. elim case [
          | inl first ↦ subst (λ (rs : List Row). (get_or rs k any_row).id < id) same (less k any_row first)
          | inr past ↦ absurd (omega (arith, row, past))
        ],
        λ before. elim (cases_lt k n) [
          | inl first ↦ inl first
          | inr past ↦ absurd (after past row before)
        ],
      )
      | inr stay ↦
          let i : ℕ = k - length p.rows in
          let at : k ≡ length p.rows + i = omega (arith, stay) in
          let there : i < length p.stays = omega (arith, at, here, count_lines p) in
          subst (λ (name : RowName). ((k < n) ⊎ (length p.rows ≤ k)) ↔ IsBefore id name) (sym (ap (name_at p) at ∙ stay_name p i any_stay there)) (λ case. tt, λ before. inr stay)
    ]
  where
    after : n ≤ k → k < length p.rows → (get_or p.rows k any_row).id < id → ⊥
    after past row before =
        let first : id ≤ (get_or p.rows n any_row).id = subst (λ (rs : List Row). id ≤ (get_or rs n any_row).id) same (more any_row (omega (arith, past, row, ap (λ (rs : List Row). length rs) same))) in
        elim (cases_eq n k) [
          | inl e ↦ let f : id ≤ (get_or p.rows k any_row).id = subst (λ (j : ℕ). id ≤ (get_or p.rows j any_row).id) e first in omega (arith, f, before)
          | inr ne ↦ let rising = whole.rising n k any_row (omega (arith, past, ne)) row in omega (arith, rising, first, before)
        ]

-- ---- what has to hold at each corner

sound_parts : (dual : Bool) (p : Problem) (at : List Mark) (swaps : List Swap) → AreSound dual p at swaps ↔ (AreSoundAhead dual p at swaps × IsSound dual p (last_marks at swaps))
sound_parts dual p at [] = (λ h. (tt, h), λ h. h.1)
sound_parts dual p at (s ∷ swaps) =
    let rest = sound_parts dual p (exchanged s at) swaps in (
      λ h. let r = rest.0 h.1 in ((h.0, r.0), r.1),
      λ h. (h.0.0, rest.1 (h.0.1, h.1)),
    )

pub before_parts : (dual : Bool) (p : Problem) (at : List Mark) (swaps : List Swap) (row : Option ℕ) → AreSoundBefore dual p at swaps row ↔ (AreSoundAhead dual p at swaps × IsSoundFrom dual p (last_marks at swaps) (unjudged_from dual swaps row))
before_parts true p at swaps row = sound_parts true p at swaps
before_parts false p at [] None = (λ h. (tt, h), λ h. h.1)
before_parts false p at [] (Some id) = (λ h. (tt, h), λ h. h.1)
before_parts false p at (s ∷ swaps) row = sound_parts false p at (s ∷ swaps)

from_same : (dual : Bool) (p : Problem) (a b : List Mark) (row : Option ℕ) → SameMarks a b → IsSoundFrom dual p a row → IsSoundFrom dual p b row
from_same dual p a b None same h = sound_same dual p a b same h
from_same dual p a b (Some id) same h = before_same p a b id same h

-- the route's last corner is the path's, in some order
pub sound_by_last : (dual : Bool) (p : Problem) (first at : List Mark) (swaps : List Swap) (row : Option ℕ) (ahead last : Bool) → SameMarks at (last_marks first swaps) → IsTrue ahead ↔ AreSoundAhead dual p first swaps → IsTrue last ↔ IsSoundFrom dual p at (unjudged_from dual swaps row)
    → IsTrue (ahead && last) ↔ AreSoundBefore dual p first swaps row
sound_by_last dual p first at swaps row ahead last same f g =
    let both = both_true ahead last in
    let parts = before_parts dual p first swaps row in
    let o : Option ℕ = unjudged_from dual swaps row in (
      λ t. let k = both.0 t in parts.1 (f.0 k.0, from_same dual p at (last_marks first swaps) o same (g.0 k.1)),
      λ h. let k = parts.0 h in both.1 (f.1 k.0, g.1 (from_same dual p (last_marks first swaps) at o (same_back at (last_marks first swaps) same) k.1)),
    )

unjudged_none : (dual : Bool) (swaps : List Swap) → unjudged_from dual swaps None ≡ None
unjudged_none true swaps = refl
unjudged_none false [] = refl
unjudged_none false (s ∷ swaps) = refl

pub sound_by_all : (dual : Bool) (p : Problem) (first at : List Mark) (swaps : List Swap) (ahead last : Bool) → SameMarks at (last_marks first swaps) → IsTrue ahead ↔ AreSoundAhead dual p first swaps → IsTrue last ↔ IsSound dual p at → IsTrue (ahead && last) ↔ AreSoundBefore dual p first swaps None
sound_by_all dual p first at swaps ahead last same f g =
    sound_by_last dual p first at swaps None ahead last same f (subst (λ (o : Option ℕ). IsTrue last ↔ IsSoundFrom dual p at o) (sym (unjudged_none dual swaps)) g)

-- ---- the named quantity

pub ended_same : (p : Problem) (path : Path) (outline : Outline) (station : Station) → (is : IsOnRoute p path outline path.swaps station) → AreExchanges p path.corner path.swaps → SameMarks (corner_after p (is.brings ++ path.swaps)) (last_marks path.corner path.swaps)
ended_same p path outline station is are = marks_same p path is.brings path.swaps is.lead are

whole_is : (p : Problem) (path : Path) (outline : Outline) (station : Station) → (is : IsOnRoute p path outline path.swaps station) → AreExchanges p path.corner path.swaps → IsWholeRoute p path (is.brings ++ path.swaps)
whole_is p path outline station is are =
    let all = take_all (length path.swaps) path.swaps (omega arith) in
    (subst (λ (ss : List Swap). IsRoute p path (is.brings ++ ss)) all (route_is p path is.brings (length path.swaps) is.lead (omega arith) are), (is.brings, refl, is.lead.same.1))

counts_part : (dual : Bool) (p : Problem) (done : List Swap) (named q : Quantity) (o : Option Step) (step : Step) → IsBegun done o → o ≡ Some step → IsPartOf p named q → CountsAtEnd dual p done named q
counts_part dual p [] named q o step begun is part = inl part
counts_part dual p (s ∷ done) named q o step begun is part = part

pub fit_by_last : (p : Problem) (path : Path) (outline : Outline) (station : Station) (step : Step) (named : Quantity) (fit : Fit) → (is : IsOnRoute p path outline path.swaps station) → AreExchanges p path.corner path.swaps → station.step ≡ Some step
    → IsFitAt p (corner_after p (is.brings ++ path.swaps)) named fit → IsFitFor p path (Some named) station.count fit
fit_by_last p path outline station step named Fits is are step_is fits = λ unfit. fits (unfit_same p (last_marks path.corner path.swaps) (corner_after p (is.brings ++ path.swaps)) named (same_back (corner_after p (is.brings ++ path.swaps)) (last_marks path.corner path.swaps) (ended_same p path outline station is are)) unfit)
fit_by_last p path outline station step named Unfit is are step_is unfit = unfit_same p (corner_after p (is.brings ++ path.swaps)) (last_marks path.corner path.swaps) named (ended_same p path outline station is are) unfit
fit_by_last p path outline station step named NoRoom is are step_is part =
    let whole : IsWholeRoute p path (is.brings ++ path.swaps) = whole_is p path outline station is are in
    record {
      done = is.brings ++ path.swaps;
      count = is.count;
      route = whole.0;
      quantity = part.0;
      counts = inr (whole, counts_part path.dual p (is.brings ++ path.swaps) named part.0 station.step step is.begun step_is part.1);
      does_not_fit = part.2;
    }

-- ---- by the exchange that leads there

pub last_comes : (p : Problem) (at : List Mark) (outline : Outline) (table : Table) (o : Option Step) (step : Step) → o ≡ Some step → IsStationBy p at outline table o → ComesBy p at outline table step
last_comes p at outline table o step is by = subst (IsStationBy p at outline table) is by

pub last_is : (p : Problem) (at : List Mark) (outline : Outline) (table : Table) (step : Step) (last : Last) → (comes : ComesBy p at outline table step) → last.tableau.corner.outline.now ≡ outline → last.tableau.corner.lines.now ≡ table.lines.items → last.tableau.levels.now ≡ table.levels.items → last.step ≡ step → IsLastAfter p comes.before last
last_is p at outline table step last comes same_outline same_lines same_levels same_step = record {
  kept = subst₂ (λ (f : Outline) (zs : List (Option Inside)). AreKept p comes.before f zs) (sym same_outline) (sym same_lines) comes.table_is.kept;
  levels = subst₂ (λ (f : Outline) (zs : List LevelSum). AreLevels p comes.before f zs) (sym same_outline) (sym same_levels) comes.table_is.levels;
  attrs = comes.table_is.attrs;
  exchange = subst (λ (s : Step). IsExchange p comes.before (swap_of p s)) (sym same_step) comes.exchange;
}

pub last_marks_are : (p : Problem) (at : List Mark) (outline : Outline) (table : Table) (step : Step) (last : Last) → (comes : ComesBy p at outline table step) → last.step ≡ step → marks_after p last comes.before ≡ at
last_marks_are p at outline table step last comes same_step = ap (λ (s : Step). exchanged (swap_of p s) comes.before) same_step ∙ sym comes.next

-- ---- no exchange at all

no_swaps : (a b : List Swap) (o : Option Step) → IsBegun (a ++ b) o → o ≡ None → (a ≡ []) × (b ≡ [])
no_swaps [] [] o begun none = (refl, refl)
no_swaps [] (s ∷ b) o begun none = absurd (begun none)
no_swaps (s ∷ a) b o begun none = absurd (begun none)

pub at_start_marks : (p : Problem) (path : Path) (outline : Outline) (station : Station) → IsOnRoute p path outline path.swaps station → station.step ≡ None → SameMarks path.corner (over_marks p)
at_start_marks p path outline station is none =
    same_back (over_marks p) path.corner (subst (λ (ss : List Swap). SameMarks (corner_after p ss) path.corner) (no_swaps is.brings path.swaps station.step is.begun none).0 is.lead.same)

-- ---- where the route ends early

pub stopped_along : (p : Problem) (path : Path) (unfit : Option Quantity) (stop : WayStop) (v : PathVerdict) → IsCorner p path.corner → IsSwapStop p path stop → IsEnded stop 10 v → IsPathVerdict p path unfit v
stopped_along p path unfit Fails v corner stops ended = subst (IsPathVerdict p path unfit) (sym ended) (inr (inl (refl, corner, stops)))
stopped_along p path unfit (NoRoomAfter n) v corner stops ended = subst (IsPathVerdict p path unfit) (sym ended) (stops unfit)
stopped_along p path unfit OutOfMemory v corner stops ended = absurd ended

pub stopped : (p : Problem) (path : Path) (unfit : Option Quantity) (stop : WayStop) (v : PathVerdict) → IsMarkStop p path stop → IsEnded stop 9 v → IsPathVerdict p path unfit v
stopped p path unfit Fails v stops ended = subst (IsPathVerdict p path unfit) (sym ended) (inl (refl, stops))
stopped p path unfit (NoRoomAfter n) v stops ended = subst (IsPathVerdict p path unfit) (sym ended) (stops unfit)
stopped p path unfit OutOfMemory v stops ended = absurd ended

pub comes_again : (p : Problem) (path : Path) (unfit : Option Quantity) → IsCorner p path.corner → AreExchanges p path.corner path.swaps → (AreApart path → ⊥) → IsPathVerdict p path unfit (No 11)
comes_again p path unfit corner exchanges twice = inr (inr (inl (refl, record { corner = corner; exchanges = exchanges }, twice)))

pub no_room_then : (p : Problem) (path : Path) (stop : WayStop) (n : ℕ) (v : PathVerdict) → (stop ≢ OutOfMemory → (stop ≡ NoRoomAfter n) × HasNoRoom p path None n) → IsEnded stop 9 v → IsPathVerdict p path None v
no_room_then p path Fails n v h ended = let e : Fails ≡ NoRoomAfter n = (h (λ o. cc)).0 in absurd (cc)
no_room_then p path (NoRoomAfter k) n v h ended =
    let there = h (λ o. cc) in
    let e : NoRoomAfter k ≡ NoRoomAfter n = there.0 in
    let same : n ≡ k = cc in
    subst (IsPathVerdict p path None) (sym ended) (subst (HasNoRoom p path None) same there.1)
no_room_then p path OutOfMemory n v h ended = absurd ended

-- ---- all together

pub found_after : (case : PathCase) (walked : Walked) (step : Step) (named : Quantity) (last : Last) (sound : Bool) (fit : Fit) → IsPathCase case → (is : IsWalked case walked) → (e : walked.station.step ≡ Some step) → last.tableau.corner.outline.now ≡ case.outline.now → last.tableau.corner.lines.now ≡ walked.station.table.lines.items → last.tableau.levels.now ≡ walked.station.table.levels.items → last.step ≡ step
    → ((at : List Mark) → IsLastAfter case.p.now at last → IsTrue sound ↔ IsSoundFrom case.path.now.dual case.p.now (marks_after case.p.now last at) (unjudged_from case.path.now.dual case.path.now.swaps (row_of_terms (Some named))))
    → ((at : List Mark) → IsLastAfter case.p.now at last → IsFitAt case.p.now (marks_after case.p.now last at) named fit) → IsFound case.p.now case.path.now (Some named) (walked.is_sound && sound) walked.is_called_for fit walked.station.count
found_after case walked step named last sound fit is_case is e same_outline same_lines same_levels same_step says fits =
    let p : Problem = case.p.now in
    let path : Path = case.path.now in
    let exchanges = is.holds.0.exchanges in
    let at : List Mark = corner_after p (is.arrived.brings ++ path.swaps) in
    let comes : ComesBy p at case.outline.now walked.station.table step = last_comes p at case.outline.now walked.station.table walked.station.step step e is.arrived.station_is in
    let after : IsLastAfter p comes.before last = last_is p at case.outline.now walked.station.table step last comes same_outline same_lines same_levels same_step in
    let there : marks_after p last comes.before ≡ at = last_marks_are p at case.outline.now walked.station.table step last comes same_step in
    record {
      apart = is.holds;
      sound_is = sound_by_last path.dual p path.corner at path.swaps (row_of_terms (Some named)) walked.is_sound sound (ended_same p path case.outline.now walked.station is.arrived exchanges) is.sound
          (subst (λ (ms : List Mark). IsTrue sound ↔ IsSoundFrom path.dual p ms (unjudged_from path.dual path.swaps (row_of_terms (Some named)))) there (says comes.before after));
      called_is = is.called;
      fit_is = fit_by_last p path case.outline.now walked.station step named fit is.arrived exchanges e (subst (λ (ms : List Mark). IsFitAt p ms named fit) there (fits comes.before after));
    }

pub found_there : (case : PathCase) (walked : Walked) (table : Table) (sound : Bool) (count : ℕ) → IsPathCase case → (is : IsWalked case walked) → ((at : List Mark) → IsStation case.p.now at case.outline.now walked.station → IsTableAt case.p.now at case.outline.now table)
    → ((at : List Mark) → IsTableAt case.p.now at case.outline.now table → IsTrue sound ↔ IsSound case.path.now.dual case.p.now at) → IsFound case.p.now case.path.now None (walked.is_sound && sound) walked.is_called_for Unfit count
found_there case walked table sound count is_case is made says =
    let p : Problem = case.p.now in
    let path : Path = case.path.now in
    let exchanges = is.holds.0.exchanges in
    let at : List Mark = corner_after p (is.arrived.brings ++ path.swaps) in
    record {
      apart = is.holds;
      sound_is = sound_by_all path.dual p path.corner at path.swaps walked.is_sound sound (ended_same p path case.outline.now walked.station is.arrived exchanges) is.sound (says at (made at is.arrived.station_is));
      called_is = is.called;
      fit_is = tt;
    }

pub no_room_there : (case : PathCase) (walked : Walked) → IsPathCase case → (is : IsWalked case walked) → ((at : List Mark) → IsStation case.p.now at case.outline.now walked.station → IsStuckAt case.p.now at walked.station.step) → HasNoRoom case.p.now case.path.now None walked.station.count
no_room_there case walked is_case is stuck = no_room_end case.p.now case.path.now case.outline.now walked.station.count walked.station is.arrived is.holds.0.exchanges refl (stuck _ is.arrived.station_is)
