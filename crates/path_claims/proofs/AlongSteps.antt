-- The route along the swaps of a path, swap by swap.
use Rattle.std.proofs.Common.{◌≡◌, ◌≢◌, ◌∙◌, ◌↔◌, ◌+◌, ℕ, ◌<◌, ◌≤◌, ◌++◌, Bool, true, false, ◌&&◌, IsTrue, List, [], ◌∷◌, length, get_or, take, drop, refl, sym, ap, subst, subst₂, arith, Option, None, Some, length-append, take-append-drop, take_all}
use Rattle.std.proofs.lemmas.List.{length-take-le}
use Rattle.problem_core.specs.declared.parts.Mark.{Mark}
use Rattle.problem_core.specs.declared.parts.RowName.TheVariants.{Held}
use Rattle.problem_core.specs.declared.parts.Side.TheVariants.{Over, Under}
use Rattle.problem_core.specs.declared.stops.Quantity.{Quantity}
use Rattle.problem_core.specs.Layout.{Problem}
use Rattle.problem_core.specs.Changes.Begins.{AreExchanges}
use Rattle.problem_core.specs.Corners.{IsCorner, IsExchange, SameMarks, Swap, exchanged}
use Rattle.problem_core.specs.Changes.Paths.{IsEndOf, IsSound, MaySwap, last_marks}
use Rattle.corner_laws.proofs.Rays.{rays_after}
use Rattle.cert_core.specs.Paths.{Path}
use Rattle.path_lines.specs.declared.spots.Step.{Step}
use Rattle.path_claims.specs.PathClauses.{AreCalledFor}
use Rattle.path_lines.specs.Room.{HasNoRoom}
use Rattle.path_lines.specs.Route.{IsRoute, corner_after, over_marks}
use Rattle.path_lines.specs.Sides.{AreSteps, IsWithin}
use Rattle.path_lines.specs.Tables.{IsThere, line_count, swap_of}
use Rattle.path_claims.specs.Ways.{IsBegun}
use Rattle.path_claims.proofs.Walking.Following.{no_exchange_here, not_whole, take_next}
use Rattle.path_lines.proofs.Walking.PlacedSwaps.{as_many, corner_there, exchanges_first, last_after, step_at}
use Rattle.path_lines.proofs.Iffs.{never_true, yes}
use Rattle.path_lines.proofs.Places.{mark_is_there}
use Rattle.path_claims.proofs.Walking.WaySteps.{IsCounting, begun_more, counts_there, some_apart}
use Rattle.path_levels.specs.declared.outline.Outline.{Outline}
use Rattle.path_claims.specs.declared.stations.Station.{Station}
use Rattle.path_claims.specs.declared.stations.Table.{Table}
use Rattle.path_claims.specs.Journeys.{AreSoundAhead, IsOnRoute, LeadThere}
use Rattle.path_claims.specs.Stations.{IsStation, IsStationBy, IsStuckAt, IsTableAt, IsUsableStation}
use Rattle.path_claims.proofs.JourneySteps.{counting_at}
use Rattle.path_claims.proofs.MarkOrders.{end_same, exchange_same, exchanges_same, last_same, may_same}
use Rattle.problem_core.proofs.Marks.{exchanges-more as exchanges_more, same-back as same_back, last-more as last_more}
use Rattle.corner_lines.proofs.LevelRows.SameLevels.{sound_same}

-- ---- exchanges

pub first_exchanges : (p : Problem) (path : Path) (i : ℕ) → AreExchanges p path.corner path.swaps → AreExchanges p path.corner (take i path.swaps)
first_exchanges p path i are = exchanges_first p path.corner (take i path.swaps) (drop i path.swaps) (subst (AreExchanges p path.corner) (sym (take-append-drop i path.swaps)) are)

-- the route's corner has the marks of the path's
pub marks_same : (p : Problem) (path : Path) (brings made : List Swap) → LeadThere p path brings → AreExchanges p path.corner made → SameMarks (corner_after p (brings ++ made)) (last_marks path.corner made)
marks_same p path brings made lead are =
    subst (λ (ms : List Mark). SameMarks ms (last_marks path.corner made)) (sym (last_after (over_marks p) brings made))
    (last_same p (corner_after p brings) path.corner made lead.same (exchanges_same p path.corner (corner_after p brings) made (same_back (corner_after p brings) path.corner lead.same) lead.corner are) are)

pub route_upto : (p : Problem) (path : Path) (brings : List Swap) (i : ℕ) → LeadThere p path brings → i ≤ length path.swaps → AreExchanges p path.corner (take i path.swaps) → IsRoute p path (brings ++ take i path.swaps)
route_upto p path brings i lead less are =
    let long : length (take i path.swaps) ≡ i = length-take-le i path.swaps less in
    lead.goes_on (take i path.swaps) (ap (λ (k : ℕ). take k path.swaps) (sym long))
    (exchanges_same p path.corner (corner_after p brings) (take i path.swaps) (same_back (corner_after p brings) path.corner lead.same) lead.corner are)

pub route_is : (p : Problem) (path : Path) (brings : List Swap) (i : ℕ) → LeadThere p path brings → i ≤ length path.swaps → AreExchanges p path.corner path.swaps → IsRoute p path (brings ++ take i path.swaps)
route_is p path brings i lead less are = route_upto p path brings i lead less (first_exchanges p path i are)

-- ---- one corner more

ahead_more : (dual : Bool) (p : Problem) (at : List Mark) (done : List Swap) (s : Swap) → AreSoundAhead dual p at (done ++ s ∷ []) ↔ (AreSoundAhead dual p at done × IsSound dual p (last_marks at done))
ahead_more dual p at [] s = (λ h. (tt, h.0), λ h. (h.1, tt))
ahead_more dual p at (t ∷ done) s =
    let rest = ahead_more dual p (exchanged t at) done s in (
      λ h. let r = rest.0 h.1 in ((h.0, r.0), r.1),
      λ h. (h.0.0, rest.1 (h.0.1, h.1)),
    )

called_more : (dual : Bool) (p : Problem) (at : List Mark) (done : List Swap) (s : Swap) → AreCalledFor dual p at (done ++ s ∷ []) ↔ (AreCalledFor dual p at done × ((IsEndOf dual p (last_marks at done) → ⊥) × MaySwap dual p (last_marks at done) s))
called_more dual p at [] s = (λ h. (tt, (h.0, h.1)), λ h. (h.1.0, h.1.1, tt))
called_more dual p at (t ∷ done) s =
    let rest = called_more dual p (exchanged t at) done s in (
      λ h. let r = rest.0 h.2 in ((h.0, h.1, r.0), r.1),
      λ h. (h.0.0, h.0.1, rest.1 (h.0.2, h.1)),
    )

pub both_true : (a b : Bool) → IsTrue (a && b) ↔ (IsTrue a × IsTrue b)
both_true true b = (λ h. (yes, h), λ h. h.1)
both_true false b = (λ h. absurd (never_true h), λ h. absurd (never_true h.0))

both_are : {P Q R : Type 0} (a b : Bool) → IsTrue a ↔ P → IsTrue b ↔ Q → R ↔ (P × Q) → IsTrue (a && b) ↔ R
both_are a b f g h =
    let both = both_true a b in (
      λ t. let k = both.0 t in h.1 (f.0 k.0, g.0 k.1),
      λ r. let k = h.0 r in both.1 (f.1 k.0, g.1 k.1),
    )

-- ---- as the code goes

-- a swap where there is none, and a step
pub any_swap : Swap
any_swap = let m : Mark = record { row = Held 0; side = Over } in record { enter = m; leave = m }

abbrev pub any_step : Step
any_step = record { enter = record { at = 0; side = Under }; leave = record { at = 0; side = Under } }

pub step_there : (p : Problem) (path : Path) (steps : List Step) (i : ℕ) → AreSteps p path.swaps steps → i < length steps → (i < length path.swaps) × IsWithin (line_count p) (get_or steps i any_step) × (swap_of p (get_or steps i any_step) ≡ get_or path.swaps i any_swap)
step_there p path steps i are less =
    let at = step_at p path.swaps steps i any_step any_swap are less in
    (omega (arith, less, as_many p path.swaps steps are), at.0, at.1)

-- so many swaps are made, each an exchange, and whether all held at each corner before, and each swap was called for
pub record IsWalkedTo (p : Problem) (path : Path) (outline : Outline) (i : ℕ) (station : Station) (sound called : Bool) : Type 0 where
  pub route : IsOnRoute p path outline (take i path.swaps) station
  pub usable : IsUsableStation outline station
  pub exchanges : AreExchanges p path.corner (take i path.swaps)
  pub count : station.count ≤ length path.corner + i
  pub sound_is : IsTrue sound ↔ AreSoundAhead path.dual p path.corner (take i path.swaps)
  pub called_is : IsTrue called ↔ AreCalledFor path.dual p path.corner (take i path.swaps)

route_more : (p : Problem) (path : Path) (outline : Outline) (i : ℕ) (d : Swap) (station next : Station) (table : Table) (step : Step) → (is : IsOnRoute p path outline (take i path.swaps) station) → i < length path.swaps → swap_of p step ≡ get_or path.swaps i d → IsWithin (line_count p) step
    → IsTableAt p (corner_after p (is.brings ++ take i path.swaps)) outline table → IsExchange p (corner_after p (is.brings ++ take i path.swaps)) (swap_of p step) → next.table ≡ table → next.step ≡ Some step → next.count ≡ station.count + 1
    → IsOnRoute p path outline (take (i + 1) path.swaps) next
route_more p path outline i d station next table step is less swap_is within table_is ex same_table same_step count_is =
    let s : Swap = swap_of p step in
    let more : take (i + 1) path.swaps ≡ take i path.swaps ++ s ∷ [] = take_next path i d s less swap_is in
    let at : List Mark = corner_after p (is.brings ++ take i path.swaps) in
    let corner_is : corner_after p (is.brings ++ take (i + 1) path.swaps) ≡ exchanged s at =
    last_after (over_marks p) is.brings (take (i + 1) path.swaps) ∙ ap (last_marks (corner_after p is.brings)) more ∙ last_more (corner_after p is.brings) (take i path.swaps) s ∙ ap (exchanged s) (sym (last_after (over_marks p) is.brings (take i path.swaps))) in
    record {
      brings = is.brings;
      lead = is.lead;
      there = subst (IsThere p) (sym corner_is) (record {
        whole = is.there.whole;
        corner = ex.corner;
        rays = rays_after p at s (mark_is_there p step.enter.at step.enter.side within.0) ex is.there.rays;
      });
      station_is = subst (λ (ms : List Mark). IsStation p ms outline next) (sym corner_is)
          (subst₂ (λ (k : Table) (o : Option Step). IsStationBy p (exchanged s at) outline k o) (sym same_table) (sym same_step) (record { before = at; table_is = table_is; exchange = ex; next = refl }));
      count = let a = length-append is.brings (take i path.swaps) in
          let b = length-append is.brings (take (i + 1) path.swaps) in
          let x : length (take i path.swaps) ≡ i = length-take-le i path.swaps (omega (arith, less)) in
          let y : length (take (i + 1) path.swaps) ≡ i + 1 = length-take-le (i + 1) path.swaps (omega (arith, less)) in
          omega (arith, a, b, x, y, is.count, count_is);
      begun = subst (λ (ss : List Swap). IsBegun (is.brings ++ ss) next.step) (sym more) (begun_last is.brings (take i path.swaps) s next.step (λ none. some_apart step (sym same_step ∙ none)));
    }
  where
    begun_last : (a b : List Swap) (s : Swap) (o : Option Step) → o ≢ None → IsBegun (a ++ (b ++ s ∷ [])) o
    begun_last [] b s o some = begun_more b s o some
    begun_last (t ∷ a) b s o some = some

-- an exchange at the route's corner is one at the path's, and the other way round
there_same : (p : Problem) (path : Path) (outline : Outline) (i : ℕ) (station : Station) (s : Swap) → (is : IsOnRoute p path outline (take i path.swaps) station) → IsCorner p path.corner → AreExchanges p path.corner (take i path.swaps)
    → IsExchange p (corner_after p (is.brings ++ take i path.swaps)) s ↔ IsExchange p (last_marks path.corner (take i path.swaps)) s
there_same p path outline i station s is corner are =
    let at : List Mark = corner_after p (is.brings ++ take i path.swaps) in
    let c : List Mark = last_marks path.corner (take i path.swaps) in
    let same : SameMarks at c = marks_same p path is.brings (take i path.swaps) is.lead are in (
      exchange_same p at c s same (corner_there p path.corner (take i path.swaps) corner are),
      exchange_same p c at s (same_back at c same) is.there.corner,
    )

pub walked_more : (p : Problem) (path : Path) (outline : Outline) (i : ℕ) (d : Swap) (station next : Station) (table : Table) (step : Step) (sound called now call : Bool) → IsWalkedTo p path outline i station sound called → IsCorner p path.corner → i < length path.swaps
    → swap_of p step ≡ get_or path.swaps i d → IsWithin (line_count p) step → ((at : List Mark) → IsStation p at outline station → IsTableAt p at outline table) → ((at : List Mark) → IsTableAt p at outline table → IsExchange p at (swap_of p step)) → ((at : List Mark) → IsTableAt p at outline table → IsTrue now ↔ IsSound path.dual p at)
    → ((at : List Mark) → IsTableAt p at outline table → IsExchange p at (swap_of p step) → IsTrue call ↔ ((IsEndOf path.dual p at → ⊥) × MaySwap path.dual p at (swap_of p step))) → IsUsableStation outline next → next.table ≡ table → next.step ≡ Some step → next.count ≡ station.count + 1
    → IsWalkedTo p path outline (i + 1) next (sound && now) (called && call)
walked_more p path outline i d station next table step sound called now call is corner less swap_is within made makes says calls usable same_table same_step count_is =
    let s : Swap = swap_of p step in
    let more : take (i + 1) path.swaps ≡ take i path.swaps ++ s ∷ [] = take_next path i d s less swap_is in
    let at : List Mark = corner_after p (is.route.brings ++ take i path.swaps) in
    let c : List Mark = last_marks path.corner (take i path.swaps) in
    let same : SameMarks at c = marks_same p path is.route.brings (take i path.swaps) is.route.lead is.exchanges in
    let back : SameMarks c at = same_back at c same in
    let table_is : IsTableAt p at outline table = made at is.route.station_is in
    let ex : IsExchange p at s = makes at table_is in
    let ex_there : IsExchange p c s = (there_same p path outline i station s is.route corner is.exchanges).0 ex in
    let now_is = says at table_is in
    let call_is = calls at table_is ex in
    record {
      route = route_more p path outline i d station next table step is.route less swap_is within table_is ex same_table same_step count_is;
      usable = usable;
      exchanges = subst (AreExchanges p path.corner) (sym more) (exchanges_more p path.corner (take i path.swaps) s is.exchanges ex_there);
      count = omega (arith, is.count, count_is);
      sound_is = subst (λ (ss : List Swap). IsTrue (sound && now) ↔ AreSoundAhead path.dual p path.corner ss) (sym more)
          (both_are sound now is.sound_is (λ t. sound_same path.dual p at c same (now_is.0 t), λ h. now_is.1 (sound_same path.dual p c at back h)) (ahead_more path.dual p path.corner (take i path.swaps) s));
      called_is = subst (λ (ss : List Swap). IsTrue (called && call) ↔ AreCalledFor path.dual p path.corner ss) (sym more)
          (both_are called call is.called_is
          (λ t. (λ end. (call_is.0 t).0 (end_same path.dual p c at back end), may_same path.dual p at c s same (call_is.0 t).1), λ h. call_is.1 (λ end. h.0 (end_same path.dual p at c same end), may_same path.dual p c at s back h.1))
          (called_more path.dual p path.corner (take i path.swaps) s));
    }

-- ---- where it stops

pub no_room_on : (p : Problem) (path : Path) (outline : Outline) (i n : ℕ) (station : Station) (unfit : Option Quantity) → (is : IsOnRoute p path outline (take i path.swaps) station) → AreExchanges p path.corner (take i path.swaps) → i < length path.swaps → n ≡ station.count
    → IsStuckAt p (corner_after p (is.brings ++ take i path.swaps)) station.step → HasNoRoom p path unfit n
no_room_on p path outline i n station unfit is are less same stuck =
    let done : List Swap = is.brings ++ take i path.swaps in
    let counting_is : IsCounting p done = counting_at p done station.step is.begun stuck in
    let long : length (take i path.swaps) ≡ i = length-take-le i path.swaps (omega (arith, less)) in
    record {
      done = done;
      count = is.count ∙ sym same;
      route = route_upto p path is.brings i is.lead (omega (arith, less)) are;
      quantity = counting_is.quantity;
      counts = counts_there p path unfit done counting_is.quantity (not_whole p path is.brings (take i path.swaps) is.lead.new (omega (arith, long, less))) counting_is.counts;
      does_not_fit = counting_is.unfit;
    }

-- without a quantity, the last corner is as each other one
pub no_room_end : (p : Problem) (path : Path) (outline : Outline) (n : ℕ) (station : Station) → (is : IsOnRoute p path outline path.swaps station) → AreExchanges p path.corner path.swaps → n ≡ station.count → IsStuckAt p (corner_after p (is.brings ++ path.swaps)) station.step → HasNoRoom p path None n
no_room_end p path outline n station is are same stuck =
    let done : List Swap = is.brings ++ path.swaps in
    let counting_is : IsCounting p done = counting_at p done station.step is.begun stuck in
    let all : take (length path.swaps) path.swaps ≡ path.swaps = take_all (length path.swaps) path.swaps (omega arith) in
    record {
      done = done;
      count = is.count ∙ sym same;
      route = subst (λ (ss : List Swap). IsRoute p path (is.brings ++ ss)) all (route_is p path is.brings (length path.swaps) is.lead (omega arith) are);
      quantity = counting_is.quantity;
      counts = counting_is.counts;
      does_not_fit = counting_is.unfit;
    }

pub no_swap : (p : Problem) (path : Path) (outline : Outline) (i : ℕ) (d : Swap) (station : Station) (table : Table) (step : Step) (sound called : Bool) → IsWalkedTo p path outline i station sound called → IsCorner p path.corner → i < length path.swaps → swap_of p step ≡ get_or path.swaps i d
    → ((at : List Mark) → IsStation p at outline station → IsTableAt p at outline table) → ((at : List Mark) → IsTableAt p at outline table → IsExchange p at (swap_of p step) → ⊥) → AreExchanges p path.corner path.swaps → ⊥
no_swap p path outline i d station table step sound called is corner less swap_is made none =
    let at : List Mark = corner_after p (is.route.brings ++ take i path.swaps) in
    no_exchange_here p path i d less (λ ex. none at (made at is.route.station_is) ((there_same p path outline i station (swap_of p step) is.route corner is.exchanges).1 (subst (IsExchange p (last_marks path.corner (take i path.swaps))) (sym swap_is) ex)))

pub walk_begins : (p : Problem) (path : Path) (outline : Outline) (station : Station) → IsOnRoute p path outline [] station → IsUsableStation outline station → station.count ≤ length path.corner → IsWalkedTo p path outline 0 station true true
walk_begins p path outline station route usable count = record {
  route = route;
  usable = usable;
  exchanges = tt;
  count = omega (arith, count);
  sound_is = (λ t. tt, λ h. yes);
  called_is = (λ t. tt, λ h. yes);
}
