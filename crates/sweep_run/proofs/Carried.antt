-- What is said with each constant of a row is the same of the problem with one of them.
use Rattle.std.proofs.Common.{◌≡◌, inl, inr, ℕ, Bool, true, false, List, [], ◌∷◌, map, refl, sym, subst}
use Rattle.std.specs.declared.option.Option.{Option}
use Rattle.std.specs.Prelude.{Some, None}
use Rattle.frac_core.specs.Fraction.{Fraction}
use Rattle.problem_core.specs.declared.parts.Mark.{Mark}
use Rattle.problem_core.specs.declared.parts.Stay.{Stay}
use Rattle.problem_core.specs.declared.stops.Quantity.TheVariants.{Plain, Terms, Rows, Shifts}
use Rattle.problem_core.specs.declared.stops.What.{What}
use Rattle.problem_core.specs.Layout.{IsBest, Problem}
use Rattle.problem_core.specs.Corners.{StandsAt, place}
use Rattle.problem_core.specs.Changes.Paths.{IsPath, last_marks}
use Rattle.problem_core.specs.Unfit.{IsUnfitWhat}
use Rattle.problem_core.specs.Numbers.{AreNumbersOf}
use Rattle.cert_core.specs.declared.by.By.{By}
use Rattle.cert_core.specs.Paths.{Path}
use Rattle.cert_core.specs.Stops.{IsShownConflict, IsSpentPath}
use Rattle.corner_lines.specs.Shifts.{with_constant}
use Rattle.corner_ends.specs.Runs.{IsBestEnd}
use Rattle.sweep_laws.specs.Stops.{IsOtherAt, IsSlideFar, IsSlidePath, IsSlideSpent, IsSlideUnfit, IsToldAt, IsUnfitTurn, IsZeroAt, Turns}
use Rattle.sweep_laws.specs.Stretches.{AreAllValues, AreRight, Clash, IsBestAt, IsRightConflict, IsRightPiece, Piece, Rates, Stretch, no_piece_first}
use Rattle.sweep_laws.proofs.OneConstant.{last_constant_stands}
use Rattle.sweep_run.specs.declared.slides.Slid.{Slid}
use Rattle.sweep_run.specs.declared.stretches.SweepQuantity.TheVariants.{At, Breakpoint}
use Rattle.sweep_run.specs.declared.stretches.SweepStop.{SweepStop}
use Rattle.sweep_run.specs.declared.stretches.SweepStop.TheVariants.{Unfit, Spent, OutOfMemory}
use Rattle.sweep_run.specs.declared.ways.Place.{Place}
use Rattle.sweep_run.specs.declared.ways.Way.{Way}
use Rattle.sweep_run.specs.Slides.{HasShown, HasSlid, IsAtPlace, IsSlideStop, all_of, rising}
use Rattle.sweep_run.specs.Told.{stretches_of}
use Rattle.sweep_run.specs.Values.{AreValuesAt}
use Rattle.sweep_run.specs.Ways.{IsReached}

-- the two problems are one with each constant of the row
pub record SameThere (row : ℕ) (p q : Problem) : Type 0 where
  pub stays : p.stays ≡ q.stays
  pub there : (w : Fraction) → with_constant row w p ≡ with_constant row w q

pub same_over : (p : Problem) (row : ℕ) (e : Fraction) → SameThere row (with_constant row e p) p
same_over p row e = record { stays = refl; there = λ w. last_constant_stands p row w e }

pub same_turned : (p q : Problem) (row : ℕ) → SameThere row p q → SameThere row q p
same_turned p q row s = record { stays = sym s.stays; there = λ w. sym (s.there w) }

module _ (p q : Problem) (row : ℕ) (s : SameThere row p q) where
  -- ---- stretches

  all_values_same : (values : List (ℕ × Fraction)) → AreAllValues p values → AreAllValues q values
  all_values_same values h = record { attributes = subst (λ (stays : List Stay). AreNumbersOf stays (map (λ v. v.0) values)) s.stays h.attributes; kept = h.kept }

  best_same : (from w : Fraction) (low : List (ℕ × Fraction)) (rates : Rates) → IsBestAt p row from low rates w → IsBestAt q row from low rates w
  best_same from w low rates (x, best, gives) = (x, subst (λ (k : Problem). IsBest k x) (s.there w) best, gives)

  piece_same : (from to : Fraction) (low high : List (ℕ × Fraction)) → IsRightPiece p row from to low high → IsRightPiece q row from to low high
  piece_same from to low high h = record {
    upwards = h.upwards;
    are_low = all_values_same low h.are_low;
    are_high = all_values_same high h.are_high;
    rates = h.rates;
    are_fractions = h.are_fractions;
    ends = h.ends;
    each = λ w lowest first last. best_same from w low h.rates (h.each w lowest first last);
  }

  conflict_same : (from to : Fraction) (first last : Bool) (by : List By) → IsRightConflict p row from to first last by → IsRightConflict q row from to first last by
  conflict_same from to first last by h = record { upwards = h.upwards; each = λ w lowest within. subst (λ (k : Problem). IsShownConflict k by) (s.there w) (h.each w lowest within) }

  pub right_same : (counts : Bool) (ss : List Stretch) → AreRight p row counts ss → AreRight q row counts ss
  right_same counts [] h = tt
  right_same counts (Piece from to low high ∷ rest) h = (piece_same from to low high h.0, right_same false rest h.1)
  right_same counts (Clash from to by ∷ rest) h = (conflict_same from to counts (no_piece_first rest) by h.0, right_same true rest h.1)

  -- ---- stops

  zero_same : (at : List Mark) (m : Mark) (w : Fraction) → IsZeroAt p row at m w → IsZeroAt q row at m w
  zero_same at m w (x, stands, none) = (x, subst (λ (k : Problem). StandsAt k at x) (s.there w) stands, none)

  other_same : (at : List Mark) (m : Mark) (w : Fraction) → IsOtherAt p row at m w → IsOtherAt q row at m w
  other_same at m w (x, stands, some) = (x, subst (λ (k : Problem). StandsAt k at x) (s.there w) stands, some)

  pub turns_same : (at : List Mark) (m : Mark) (w : Fraction) → Turns p row at m w → Turns q row at m w
  turns_same at m w h = record { inside = h.inside; zero = zero_same at m w h.zero; other = (h.other.0, h.other.1, other_same at m h.other.0 h.other.2) }

  path_same : (kept : List Mark) (w : Fraction) (budget : ℕ) (path : Path) → IsSlidePath p row kept w budget path → IsSlidePath q row kept w budget path
  path_same kept w budget path h = record { kind = h.kind; begins = h.begins; lawful = subst (λ (k : Problem). IsPath true k path.corner path.swaps) (s.there w) h.lawful; few = h.few }

  told_same : (present from to end : Fraction) (at : List Mark) (w : Fraction) → IsToldAt p row present from to end at w → IsToldAt q row present from to end at w
  told_same present from to end at w (inl e) = inl e
  told_same present from to end at w (inr (inl e)) = inr (inl e)
  told_same present from to end at w (inr (inr (inl e))) = inr (inr (inl e))
  told_same present from to end at w (inr (inr (inr (between, some)))) = inr (inr (inr (between, (some.0, turns_same at some.0 w some.1))))

  unfit_same : (kept : List Mark) (present from to end : Fraction) (budget : ℕ) (w : Fraction) (path : Path) (what : What) → IsSlideUnfit p row kept present from to end budget w path what → IsSlideUnfit q row kept present from to end budget w path what
  unfit_same kept present from to end budget w path what h = record {
    leads = path_same kept w budget path h.leads;
    told = told_same present from to end (last_marks path.corner path.swaps) w h.told;
    unfit = subst (λ (k : Problem). IsUnfitWhat k (last_marks path.corner path.swaps) what) (s.there w) h.unfit;
  }

  turn_same : (present end : Fraction) (at : List Mark) (m : Mark) → IsUnfitTurn p row present end at m → IsUnfitTurn q row present end at m
  turn_same present end at m h = record { w = h.w; lowest = h.lowest; between = h.between; turns = turns_same at m h.w h.turns; large = h.large }

  far_same : (kept : List Mark) (present end : Fraction) (budget : ℕ) (path : Path) (m : Mark) → IsSlideFar p row kept present end budget path m → IsSlideFar q row kept present end budget path m
  far_same kept present end budget path m h = record { leads = path_same kept end budget path h.leads; turn = turn_same present end (last_marks path.corner path.swaps) m h.turn }

  spent_same : (kept : List Mark) (end : Fraction) (budget : ℕ) (path : Path) → IsSlideSpent p row kept end budget path → IsSlideSpent q row kept end budget path
  spent_same kept end budget path (kind, spent) = (kind, subst (λ (k : Problem). IsSpentPath true k (λ rest at. (rest ≡ []) × (at ≡ kept)) budget path) (s.there end) spent)

module _ (p q : Problem) (way : Way) (s : SameThere way.row p q) where
  pub stop_same : (kept : List Mark) (budget : ℕ) (stop : SweepStop) → IsSlideStop p kept way budget stop → IsSlideStop q kept way budget stop
  stop_same kept budget (Unfit width path (At (Plain what))) h = unfit_same p q way.row s kept way.first.width way.near.width way.end way.end budget width path what h
  stop_same kept budget (Unfit width path (At (Terms m j))) h = absurd h
  stop_same kept budget (Unfit width path (At (Rows level j))) h = absurd h
  stop_same kept budget (Unfit width path (At (Shifts what j))) h = absurd h
  stop_same kept budget (Unfit width path (Breakpoint m)) (e, h) = (e, far_same p q way.row s kept way.first.width way.end budget path m h)
  stop_same kept budget (Spent width path) (e, h) = (e, spent_same p q way.row s kept way.end budget path h)
  stop_same kept budget OutOfMemory h = tt

  -- ---- places

  pub reached_same : (at : List Mark) (place : Place) → IsReached p way at place → IsReached q way at place
  reached_same at place h = record { is = h.is; on_way = h.on_way; best = subst (λ (k : Problem). IsBestEnd k at) (s.there place.width) h.best }

  shown_same : (at : List Mark) (place : Place) (values : Option (List (ℕ × Fraction))) (ss : List Stretch) → HasShown p way at place values ss → HasShown q way at place values ss
  shown_same at place None ss h = h
  shown_same at place (Some values) ss (later, are) = (later, subst (λ (k : Problem). AreValuesAt k at values) (s.there place.width) are)

  pub at_place_same : (at : List Mark) (slid : Slid) → IsAtPlace p way at slid → IsAtPlace q way at slid
  at_place_same at slid h = record {
    reached = reached_same at slid.at h.reached;
    from = h.from;
    shown_from = h.shown_from;
    shown = shown_same at slid.at slid.values (stretches_of slid.stretches.items) h.shown;
    covers = h.covers;
    right = right_same p q way.row s true (rising way.up (stretches_of slid.stretches.items)) h.right;
    pieces = h.pieces;
    long = h.long;
  }

  pub slid_same : (slid : Slid) → HasSlid p way slid → HasSlid q way slid
  slid_same slid h = record {
    from = h.from;
    shown_from = h.shown_from;
    covers = h.covers;
    right = right_same p q way.row s true (rising way.up (all_of way slid)) h.right;
    pieces = h.pieces;
    clash = h.clash;
    parts = h.parts;
    are_pieces = h.are_pieces;
    are_long = h.are_long;
    few = h.few;
    are_clashes = h.are_clashes;
    long_clash = h.long_clash;
    not_shown = h.not_shown;
    shown_late = h.shown_late;
    at_start = h.at_start;
  }
