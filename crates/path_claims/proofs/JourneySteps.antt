-- The route to a path's first corner with levels, mark by mark.
use Rattle.std.proofs.Common.{◌≡◌, ◌≢◌, ◌∙◌, ◌+◌, ℕ, ◌<◌, ◌++◌, List, [], ◌∷◌, length, get_or, take, drop, refl, sym, ap, subst, subst₂, arith, inl, inr, Option, None, Some, AllPairs, ◌≤◌, take_all}
use Rattle.std.specs.Prelude.{slice_index_or}
use Rattle.std.proofs.lemmas.List.{drop_all, take_more, append-nil as with_none}
use Rattle.problem_core.specs.declared.parts.Mark.{Mark}
use Rattle.problem_core.specs.declared.parts.RowName.{RowName}
use Rattle.problem_core.specs.declared.stops.Quantity.TheVariants.{Plain, Terms, Rows}
use Rattle.problem_core.specs.Layout.{Problem, lines as lines_of}
use Rattle.problem_core.specs.Kept.{IsWhole}
use Rattle.problem_core.specs.Corners.{IsCorner, IsIn, Swap, exchanged, marks_of, place}
use Rattle.problem_core.specs.Unfit.{over_mark}
use Rattle.cert_core.specs.Paths.{Path}
use Rattle.path_lines.specs.declared.spots.Spot.{Spot}
use Rattle.path_lines.specs.declared.spots.Step.{Step}
use Rattle.path_claims.specs.declared.way.WayStop.{WayStop}
use Rattle.path_claims.specs.declared.way.WayStop.TheVariants.{Fails, NoRoom, OutOfMemory}
use Rattle.path_claims.specs.Bringing.{IsBringing, NothingBrings}
use Rattle.path_lines.specs.Route.{GivesWay, MayGiveWay, corner_after, over_marks}
use Rattle.path_lines.specs.Sides.{IsWithin, moved_sides}
use Rattle.path_lines.specs.Tables.{IsSpotOf, IsThere, line_count, names_of, swap_of}
use Rattle.path_claims.specs.Ways.{AreFirstSides, IsBegun, IsMarkStop}
use Rattle.path_lines.proofs.Walking.Bringing.{none_gives_way}
use Rattle.path_lines.proofs.Walking.FirstCorner.{begins_there}
use Rattle.path_lines.proofs.Places.{mark_is_there}
use Rattle.path_claims.proofs.Walking.WayBegins.{mark_in}
use Rattle.path_lines.proofs.Walking.PlacedSwaps.{spot_is}
use Rattle.path_claims.proofs.Walking.WaySteps.{IsCounting, already_inside, inside_by_sides, no_room_there, one_mark_more, some_apart}
use Rattle.path_lines.proofs.MarkSides.Walks.{first_of_rest}
use Rattle.path_claims.proofs.MarkSides.Pigeons.{corner_of_all}
use Rattle.path_levels.specs.declared.outline.Outline.{Outline}
use Rattle.path_claims.specs.declared.journey.PathCase.{PathCase}
use Rattle.path_claims.specs.declared.journey.Journey.{Journey}
use Rattle.path_claims.specs.declared.stations.Station.{Station}
use Rattle.path_claims.specs.declared.stations.Table.{Table}
use Rattle.path_claims.specs.Journeys.{Brings, BringsNone, HasOneMore, IsBroughtTo, IsJourneyAt, IsPathCase, IsMarkNext, IsOnRoute, StopsAt}
use Rattle.path_levels.specs.Outlines.{IsOutline}
use Rattle.path_claims.specs.Stations.{IsSizedTable, IsStation, IsStationBy, IsStuckAt, IsTableAt, IsUsableBy, IsUsableStation}
use Rattle.path_claims.proofs.StationTables.{outline_long}

-- ---- what counts where the route stops

pub counting_at : (p : Problem) (done : List Swap) (o : Option Step) → IsBegun done o → IsStuckAt p (corner_after p done) o → IsCounting p done
counting_at p [] None begun (inl (k, r, within, is, unfit)) = record { quantity = Terms (over_mark r.id) unfit.0; counts = tt; unfit = unfit.1 }
counting_at p [] None begun (inr (level, j, unfit)) = record { quantity = Rows level j; counts = tt; unfit = unfit }
counting_at p [] (Some step) begun stuck = absurd (some_apart step begun)
counting_at p (s ∷ done) None begun stuck = absurd (begun refl)
counting_at p (s ∷ done) (Some step) begun (what, unfit) = record { quantity = Plain what; counts = tt; unfit = unfit }

-- ---- as the code goes

pub mark_was_inside : (case : PathCase) (journey : Journey) (enter : Spot) → enter.at < line_count case.p.now → slice_index_or journey.sides.items enter.at None ≡ Some enter.side → HasOneMore case journey enter journey
mark_was_inside case journey enter within here before m rest is =
    already_inside case.p.now case.path.now (λ ms. IsStation case.p.now ms case.outline.now journey.station) before rest journey.station.count journey.station.step journey.sides.items m is.journey_is is.wanted
    ((inside_by_sides case.p.now (corner_after case.p.now is.journey_is.done) journey.sides.items m enter is.journey_is.sides is.mark within).0 here)

pub mark_came : (case : PathCase) (journey next : Journey) (station : Station) (enter : Spot) → enter.at < line_count case.p.now → (slice_index_or journey.sides.items enter.at None ≡ Some enter.side → ⊥) → Brings case enter journey.station station → next.station ≡ station
    → ((step : Step) → station.step ≡ Some step → next.sides.items ≡ moved_sides step journey.sides.items) → HasOneMore case journey enter next
mark_came case journey next station enter within out brings station_is sides_is before m rest is =
    let p : Problem = case.p.now in
    let at : List Mark = corner_after p is.journey_is.done in
    let c : IsBroughtTo case at enter journey.station next.station = subst (λ (k : Station). IsBroughtTo case at enter journey.station k) (sym station_is) (brings at is.journey_is.kept) in
    one_mark_more p case.path.now (λ ms. IsStation p ms case.outline.now journey.station) (λ ms. IsStation p ms case.outline.now next.station) before rest journey.station.count next.station.count journey.station.step next.station.step journey.sides.items next.sides.items m enter is.journey_is is.mark is.wanted
    (λ i. out ((inside_by_sides p at journey.sides.items m enter is.journey_is.sides is.mark within).1 i)) c
    (sides_is c.step (sym (ap (λ (k : Station). k.step) station_is) ∙ c.step_is))

stops_there : (case : PathCase) (journey : Journey) (enter : Spot) (stop : WayStop) (before : List Mark) (m : Mark) (rest : List Mark) → (is : IsMarkNext case.p.now case.path.now case.outline.now before m rest journey enter) → enter.at < line_count case.p.now
    → (IsIn (place m) (corner_after case.p.now is.journey_is.done) → ⊥) → BringsNone case enter journey.station stop → IsMarkStop case.p.now case.path.now stop
stops_there case journey enter Fails before m rest is within out stops =
    let p : Problem = case.p.now in
    let at : List Mark = corner_after p is.journey_is.done in
    let none = stops at is.journey_is.kept in
    none_gives_way p case.path.now.corner at m none.0.corner none.0.rays (subst (λ (n : Mark). IsIn (place n) (marks_of (lines_of p))) (sym is.mark) (mark_is_there p enter.at enter.side within)) out is.wanted
    (λ n may. none.1 n (subst (λ (x : Mark). MayGiveWay p case.path.now.corner at (record { enter = x; leave = n })) is.mark may))
stops_there case journey enter (NoRoom n) before m rest is within out stops = λ unfit.
    no_room_there case.p.now case.path.now (λ ms. IsStation case.p.now ms case.outline.now journey.station) before rest journey.station.count journey.station.step journey.sides.items m n unfit is.journey_is is.wanted out stops.0
    (counting_at case.p.now is.journey_is.done journey.station.step is.journey_is.begun (stops.1 (corner_after case.p.now is.journey_is.done) is.journey_is.kept))
stops_there case journey enter OutOfMemory before m rest is within out stops = tt

pub mark_stopped : (case : PathCase) (journey : Journey) (enter : Spot) (stop : WayStop) → enter.at < line_count case.p.now → (slice_index_or journey.sides.items enter.at None ≡ Some enter.side → ⊥) → BringsNone case enter journey.station stop → StopsAt case journey enter stop
mark_stopped case journey enter stop within out stops before m rest is =
    stops_there case journey enter stop before m rest is within
    (λ i. out ((inside_by_sides case.p.now (corner_after case.p.now is.journey_is.done) journey.sides.items m enter is.journey_is.sides is.mark within).1 i)) stops

-- ---- one mark is brought in

pub brings_nothing : (case : PathCase) (enter : Spot) (station : Station) (table : Table) → IsPathCase case → NothingBrings table.lines.items case.wanted.now enter → ((at : List Mark) → IsStation case.p.now at case.outline.now station → IsTableAt case.p.now at case.outline.now table) → BringsNone case enter station Fails
brings_nothing case enter station table is nothing there at by =
    let t : IsTableAt case.p.now at case.outline.now table = there at by in
    (t.kept.there, λ m may. nothing case.p.now case.path.now.corner at m (record { there = t.kept.there; lines_are = t.kept.lines_are; sides_are = is.wanted_are }) may)

pub usable_after : (p : Problem) (outline : Outline) (table : Table) (step : Step) (station : Station) → IsOutline p outline → IsSizedTable outline table → IsWithin (line_count p) step → station.table ≡ table → station.step ≡ Some step → IsUsableStation outline station
usable_after p outline table step station is sized within table_is step_is =
    let long : length table.lines.items ≡ line_count p = sized.count ∙ outline_long p outline is in
    subst₂ (IsUsableBy outline) (sym table_is) (sym step_is) (sized, (omega (arith, within.0, long), omega (arith, within.1, long)))

pub brings_in : (case : PathCase) (enter : Spot) (station next : Station) (table : Table) (step : Step) → IsPathCase case → step.enter ≡ enter → IsWithin (line_count case.p.now) step → IsBringing table.lines.items case.wanted.now step
    → ((at : List Mark) → IsStation case.p.now at case.outline.now station → IsTableAt case.p.now at case.outline.now table) → next.table ≡ table → next.step ≡ Some step → next.count ≡ station.count + 1 → Brings case enter station next
brings_in case enter station next table step is enter_is within brings there table_is step_is count_is at by =
    let p : Problem = case.p.now in
    let t : IsTableAt p at case.outline.now table = there at by in
    let gives : GivesWay p case.path.now.corner at (swap_of p step) = brings p case.path.now.corner at (record { there = t.kept.there; lines_are = t.kept.lines_are; sides_are = is.wanted_are }) in
    record {
      step = step;
      enter_is = enter_is;
      gives = gives;
      within = within;
      count_is = count_is;
      kept_is = subst₂ (λ (k : Table) (o : Option Step). IsStationBy p (exchanged (swap_of p step) at) case.outline.now k o) (sym table_is) (sym step_is)
          (record { before = at; table_is = t; exchange = gives.may.exchange; next = refl });
      step_is = step_is;
    }

pub bring_stuck : (case : PathCase) (enter : Spot) (station : Station) (stop : WayStop) → (stop ≢ OutOfMemory → (stop ≡ NoRoom station.count) × ((at : List Mark) → IsStation case.p.now at case.outline.now station → IsStuckAt case.p.now at station.step)) → BringsNone case enter station stop
bring_stuck case enter station Fails h = let e : Fails ≡ NoRoom station.count = (h (λ o. cc)).0 in absurd (cc)
bring_stuck case enter station (NoRoom n) h =
    let there = h (λ o. cc) in
    let e : NoRoom n ≡ NoRoom station.count = there.0 in
    let same : n ≡ station.count = cc in
    (same, there.1)
bring_stuck case enter station OutOfMemory h = tt

-- ---- where the route begins, and how it goes on

pub journey_begins : (p : Problem) (path : Path) (outline : Outline) (journey : Journey) → IsWhole p → journey.station.step ≡ None → journey.station.count ≡ 0 → AreFirstSides p (line_count p) journey.sides.items → IsJourneyAt p path outline [] path.corner journey
journey_begins p path outline journey whole step_is count_is sides = record {
  done = [];
  count = sym count_is;
  begun = step_is;
  there = begins_there p whole;
  kept = subst (λ (o : Option Step). IsStationBy p (over_marks p) outline journey.station.table o) (sym step_is) refl;
  sides = record { count = sides.count; each = sides.each };
  goes_on = λ more goes. goes;
  inside = λ k d within. absurd (omega (arith, within));
  wanted = λ k d within. absurd (omega (arith, within));
  new = tt;
}

pub next_mark : (p : Problem) (path : Path) (outline : Outline) (items : List Mark) (names : List RowName) (i : ℕ) (d : Mark) (journey : Journey) (enter : Spot) → items ≡ path.corner → names ≡ names_of p → i < length items
    → IsSpotOf names (get_or items i d) enter → IsJourneyAt p path outline (take i path.corner) (drop i path.corner) journey → IsMarkNext p path outline (take i path.corner) (get_or path.corner i d) (drop (i + 1) path.corner) journey enter
next_mark p path outline items names i d journey enter same named within spot is =
    let here : i < length path.corner = subst (λ (ms : List Mark). i < length ms) same within in
    record {
      mark = (spot_is p names (get_or path.corner i d) enter named (subst (λ (ms : List Mark). IsSpotOf names (get_or ms i d) enter) same spot)).1;
      wanted = mark_in path.corner i d here;
      journey_is = subst (λ (ms : List Mark). IsJourneyAt p path outline (take i path.corner) ms journey) (first_of_rest path.corner i d here) is;
    }

pub journey_more : (p : Problem) (path : Path) (outline : Outline) (items : List Mark) (i : ℕ) (d : Mark) (journey : Journey) → items ≡ path.corner → i < length items → IsJourneyAt p path outline (take i path.corner ++ get_or path.corner i d ∷ []) (drop (i + 1) path.corner) journey
    → IsJourneyAt p path outline (take (i + 1) path.corner) (drop (i + 1) path.corner) journey
journey_more p path outline items i d journey same within is =
    subst (λ (ms : List Mark). IsJourneyAt p path outline ms (drop (i + 1) path.corner) journey) (sym (take_more path.corner i d (subst (λ (ms : List Mark). i < length ms) same within))) is

-- ---- all marks are inside

pub journey_done : (p : Problem) (path : Path) (outline : Outline) (i : ℕ) (journey : Journey) → length path.corner ≤ i → IsJourneyAt p path outline (take i path.corner) (drop i path.corner) journey → IsJourneyAt p path outline path.corner [] journey
journey_done p path outline i journey done is = subst₂ (λ (a b : List Mark). IsJourneyAt p path outline a b journey) (take_all i path.corner done) (drop_all i path.corner done) is

pub corner_then : (p : Problem) (path : Path) (outline : Outline) (journey : Journey) → length path.corner ≡ length p.rows → AllPairs (λ m n. place m ≢ place n) path.corner → IsJourneyAt p path outline path.corner [] journey → IsCorner p path.corner
corner_then p path outline journey rows apart is = (corner_of_all p (corner_after p is.done) path.corner is.there.corner is.inside rows apart).0

pub journey_ends : (p : Problem) (path : Path) (outline : Outline) (journey : Journey) → length path.corner ≡ length p.rows → AllPairs (λ m n. place m ≢ place n) path.corner → IsJourneyAt p path outline path.corner [] journey → IsOnRoute p path outline [] journey.station
journey_ends p path outline journey rows apart is =
    let at : List Mark = corner_after p is.done in
    let none : is.done ++ [] ≡ is.done = with_none is.done in
    record {
      brings = is.done;
      lead = record { goes_on = λ more first exchanges. is.goes_on more (first, exchanges); new = is.new; corner = is.there.corner; same = (corner_of_all p at path.corner is.there.corner is.inside rows apart).1 };
      there = subst (λ (ss : List Swap). IsThere p (corner_after p ss)) (sym none) is.there;
      station_is = subst (λ (ss : List Swap). IsStation p (corner_after p ss) outline journey.station) (sym none) is.kept;
      count = ap (λ (ss : List Swap). length ss) none ∙ is.count;
      begun = subst (λ (ss : List Swap). IsBegun ss journey.station.step) (sym none) is.begun;
    }
