-- The slide is through: at its end, or where the required rows cost.
use Rattle.std.proofs.Common.{◌≡◌, ◌∙◌, ◌⊎◌, inl, inr, ℕ, ◌≤◌, Bool, true, false, List, [], ◌∷◌, ◌++◌, length, map, cond, nat_eq, pos, refl, sym, ap, subst, arith, All, append-nil}
use Rattle.std.specs.List.{AllByRecursion as Each}
use Rattle.std.specs.declared.option.Option.{Option}
use Rattle.std.specs.Prelude.{Some, None, IfSome}
use Rattle.std.proofs.lemmas.List.Elements.{All-from_recursion, All-nil, recursion_from_All}
use Rattle.frac_core.specs.Fraction.{Fraction, IsKept, IsLowest}
use Rattle.frac_core.proofs.Lists.{each-onto_map}
use Rattle.problem_core.specs.declared.parts.Mark.{Mark}
use Rattle.problem_core.specs.Kept.{IsRow, IsWhole}
use Rattle.problem_core.specs.Layout.{IsProblem, Problem, Row}
use Rattle.problem_core.specs.Levels.{CostsAbove, cost_at}
use Rattle.problem_core.proofs.Forms.{each-impl}
use Rattle.cert_core.specs.declared.by.By.{By}
use Rattle.cert_core.specs.Stops.{IsShownConflict}
use Rattle.corner_ends.specs.Runs.{IsBestEnd}
use Rattle.corner_lines.specs.Shifts.{AreSeenAlike, has_constant, with_constant}
use Rattle.corner_lines.proofs.ProblemChanges.Shifted.{changed}
use Rattle.sweep_laws.specs.Fractions.{IsLess, IsNoMore}
use Rattle.sweep_laws.specs.Stretches.{AreRight, Clash, IsClash, IsLong, IsPieceOf, Piece, Stretch}
use Rattle.sweep_laws.proofs.Costs.{IsEachCorner, costs_beyond}
use Rattle.sweep_laws.proofs.Ends.{costs_none, weighed-with}
use Rattle.sweep_laws.proofs.OneConstant.{constant_seen}
use Rattle.sweep_laws.proofs.SeenAlike.{cost-own}
use Rattle.sweep_run.specs.declared.slides.Slid.{Slid}
use Rattle.sweep_run.specs.declared.stretches.Stretch as declared
use Rattle.sweep_run.specs.declared.ways.Place.{Place}
use Rattle.sweep_run.specs.declared.ways.Way.{Way}
use Rattle.sweep_run.specs.Slides.{CoverTo, HasShown, HasSlid, IsAtPlace, IsShownFrom, clash_between, led_by, piece_between, rising}
use Rattle.sweep_run.specs.Told.{stretch_of, stretches_of}
use Rattle.sweep_run.specs.Values.{AreValuesAt}
use Rattle.sweep_run.specs.Ways.{ComesBefore, IsAnyWay, IsNoLater, IsPlace, IsReached, there}
use Rattle.sweep_run.proofs.Between.{IsRightBetween, right_between}
use Rattle.sweep_run.proofs.Orders.{before_then, never_before, no_later_or_before, no_later_self, one_constant, then_before}
use Rattle.sweep_run.proofs.ShownFrom.{at_start_of}
use Rattle.sweep_run.proofs.Rising.{IsRightClash, clash_from_to, cover_more, right_clash_more}
use Rattle.sweep_run.proofs.Standing.{IsBehind, Values, behind_of, from_near}

never-some : (values : Values) → Some values ≡ None → ⊥
never-some values = λ e. cc

-- ---- the piece in front

module _ (p : Problem) (way : Way) (at : List Mark) (whole : IsWhole p) (corner : IsEachCorner p way.row at) where
  alone : (up : Bool) (s : Stretch) → rising up (s ∷ []) ≡ s ∷ []
  alone true s = refl
  alone false s = refl

  lone-right : (up : Bool) (w : Fraction) (values : Values) → IsKept w → IsBestEnd (with_constant way.row w p) at → AreValuesAt (with_constant way.row w p) at values → AreRight p way.row true (piece_between up w w values values ∷ [])
  lone-right true w values kept best are = (right_between p way.row at whole corner true w w values values kept kept (no_later_self true w) best best are are, tt)
  lone-right false w values kept best are = (right_between p way.row at whole corner false w w values values kept kept (no_later_self false w) best best are are, tt)

  -- what is behind is right with the piece of one constant in front, where there is no other
  led-right : (up : Bool) (w : Fraction) (values : Values) (ss : List Stretch) → Each IsPieceOf ss → AreRight p way.row true (rising up ss) → IsKept w → IsBestEnd (with_constant way.row w p) at → AreValuesAt (with_constant way.row w p) at values → AreRight p way.row true (rising up (led_by up w (Some values) ss))
  led-right up w values [] pieces h kept best are = subst (AreRight p way.row true) (sym (alone up (piece_between up w w values values))) (lone-right up w values kept best are)
  led-right up w values (Piece from to low high ∷ rest) pieces h kept best are = h
  led-right up w values (Clash from to by ∷ rest) pieces h kept best are = absurd pieces.0

  -- ---- at the end

  pub ended_slid : IsPlace way.up way.end way.near → (slid : Slid) → IsAtPlace p way at slid → slid.at.width ≡ way.end → HasSlid p way slid
  ended_slid near slid h end = by_case slid.values refl
    where
      by_case : (o : Option Values) → slid.values ≡ o → HasSlid p way slid
      by_case None e =
          let hidden : HasShown p way at slid.at None (stretches_of slid.stretches.items) = subst (λ (o : Option Values). HasShown p way at slid.at o (stretches_of slid.stretches.items)) e h.shown in
          absurd (never_before way.up way.end way.near.width (subst (λ (f : Fraction). ComesBefore way.up f way.near.width) end hidden.0) near.no_later)
      by_case (Some values) e =
          let shown : HasShown p way at slid.at (Some values) (stretches_of slid.stretches.items) = subst (λ (o : Option Values). HasShown p way at slid.at o (stretches_of slid.stretches.items)) e h.shown in
          let covers : CoverTo way.up h.from slid.at.width (stretches_of slid.stretches.items) = subst (λ (o : Option Values). IfSome o (λ v. CoverTo way.up h.from slid.at.width (stretches_of slid.stretches.items))) e h.covers in
          record {
            from = h.from;
            shown_from = h.shown_from;
            covers = subst (λ (f : Fraction). CoverTo way.up h.from f (stretches_of slid.stretches.items)) end covers;
            right = subst (λ (o : Option Values). AreRight p way.row true (rising way.up (led_by way.up slid.at.width o (stretches_of slid.stretches.items)))) (sym e)
                (led-right way.up slid.at.width values (stretches_of slid.stretches.items) (recursion_from_All IsPieceOf (stretches_of slid.stretches.items) h.pieces) h.right h.reached.is.width h.reached.best shown.1);
            pieces = stretches_of slid.stretches.items;
            clash = [];
            parts = sym (append-nil (stretches_of slid.stretches.items));
            are_pieces = h.pieces;
            are_long = h.long;
            few = omega arith;
            are_clashes = All-nil IsClash;
            long_clash = subst (λ (o : Option Values). IfSome o (λ v. All IsLong [])) (sym e) (All-nil IsLong);
            not_shown = λ none. absurd (never-some values (sym e ∙ none));
            shown_late = λ none. absurd (never-some values (sym e ∙ none));
            at_start = at_start_of p way at slid h;
          }

-- ---- a slid by its parts

record IsThrough (p : Problem) (way : Way) (w : Fraction) (values : Option Values) (ss : List Stretch) : Type 0 where
  from : Fraction
  shown_from : IsShownFrom way from
  covers : CoverTo way.up from way.end ss
  right : AreRight p way.row true (rising way.up (led_by way.up w values ss))
  pieces : List Stretch
  clash : List Stretch
  parts : ss ≡ pieces ++ clash
  are_pieces : All IsPieceOf pieces
  are_long : All IsLong pieces
  few : length clash ≤ 1
  are_clashes : All IsClash clash
  long_clash : IfSome values (λ v. All IsLong clash)
  not_shown : values ≡ None → (pieces ≡ []) × (length clash ≡ 1)
  shown_late : values ≡ None → ComesBefore way.up way.first.width way.near.width
  at_start : pieces ≡ [] → IfSome values (λ v. w ≡ from)

through-of : (p : Problem) (way : Way) (slid : Slid) → IsThrough p way slid.at.width slid.values (stretches_of slid.stretches.items) → HasSlid p way slid
through-of p way slid h = record {
  from = h.from;
  shown_from = h.shown_from;
  covers = h.covers;
  right = h.right;
  pieces = h.pieces;
  clash = h.clash;
  parts = h.parts;
  are_pieces = h.are_pieces;
  are_long = h.are_long;
  few = h.few;
  are_clashes = h.are_clashes;
  long_clash = h.long_clash;
  not_shown = h.not_shown;
  shown_late = h.shown_late;
  at_start = h.at_start;
}

through-by : (p : Problem) (way : Way) (slid : Slid) (w : Fraction) (values : Option Values) (ss : List Stretch) → slid.at.width ≡ w → slid.values ≡ values → stretches_of slid.stretches.items ≡ ss → IsThrough p way w values ss → HasSlid p way slid
through-by p way slid w values ss a b d h =
    through-of p way slid
    (subst (λ (f : Fraction). IsThrough p way f slid.values (stretches_of slid.stretches.items)) (sym a)
    (subst (λ (v : Option Values). IsThrough p way w v (stretches_of slid.stretches.items)) (sym b)
    (subst (λ (xs : List Stretch). IsThrough p way w values xs) (sym d) h)))

-- ---- where the required rows cost

beyond-on : (up : Bool) (a w end : Fraction) → ComesBefore up a w → IsNoLater up w end → (IsLess a w × IsNoMore w end) ⊎ (IsNoMore end w × IsLess w a)
beyond-on true a w end first last = inl (first, last)
beyond-on false a w end first last = inr (last, first)

ranked : (p : Problem) (row : ℕ) (w : Fraction) → IsWhole p → All (λ r. r.rank ≤ 1000) (with_constant row w p).rows
ranked p row w whole =
    All-from_recursion (λ (r : Row). r.rank ≤ 1000) (map (has_constant row w) p.rows)
    (each-onto_map (λ (r : Row). r.rank ≤ 1000) (has_constant row w) p.rows
    (each-impl IsRow (λ (r : Row). (has_constant row w r).rank ≤ 1000) p.rows (λ r h. by_test (nat_eq r.id row) r h.rank) (recursion_from_All IsRow p.rows whole.rows)))
  where
    by_test : (same : Bool) (r : Row) → r.rank ≤ 1000 → (cond same (changed w r) r).rank ≤ 1000
    by_test true r h = h
    by_test false r h = h

one-clash : (s : Stretch) → IsClash s → All IsClash (s ∷ [])
one-clash s is = All-from_recursion IsClash (s ∷ []) (is, tt)

is-clash : (up : Bool) (a b : Fraction) (by : List By) → IsClash (clash_between up a b by)
is-clash true a b by = tt
is-clash false a b by = tt

clash-long : (up : Bool) (a b : Fraction) (by : List By) → ComesBefore up a b → IsLong (clash_between up a b by)
clash-long true a b by less = less
clash-long false a b by less = less

module _ (p : Problem) (way : Way) (at : List Mark) (whole : IsWhole p) (corner : IsEachCorner p way.row at) (last : there p way way.end ≡ p) (kept_end : IsKept way.end) (parts : IsAnyWay way) (columns : CostsAbove p at 0) (by : List By)
    (refutes : (q : Problem) → IsProblem q → All (λ r. r.rank ≤ 1000) q.rows → AreSeenAlike p q → CostsAbove q at 0 → IsShownConflict q by) where
  refuted : (w0 : Place) → IsReached p way at w0 → (w : Fraction) → IsLowest w → ComesBefore way.up w0.width w → IsNoLater way.up w way.end → IsShownConflict (with_constant way.row w p) by
  refuted w0 reached w lowest less later =
      let v = reached.best.values in
      let none : cost_at p 0 v.0.num ≡ pos 0 = sym (cost-own p way.row 0 w0.width v.0.num) ∙ costs_none (there p way w0.width) at v.0 v.1 v.2 reached.best.required in
      refutes (with_constant way.row w p) (weighed-with p way.row w whole lowest.above).problem (ranked p way.row w whole) (sym (constant_seen p way.row w))
      (costs_beyond p way.row at w0.width way.end w reached.is.width.lowest.above kept_end.lowest.above lowest.above (beyond-on way.up w0.width w way.end less later) v.0 v.1 none (subst (λ (k : Problem). CostsAbove k at 0) (sym last) columns))

  -- the place reached is no end
  before-end : (w0 : Place) → IsReached p way at w0 → ComesBefore way.up w0.width way.end
  before-end w0 reached = elim (no_later_or_before way.up way.end w0.width) [
    | inl back ↦
        let same : w0.width ≡ way.end = one_constant way.up w0.width way.end reached.is.width kept_end reached.is.no_later back in
        absurd (subst (λ (f : Fraction). CostsAbove (there p way f) at 0 → ⊥) same reached.best.required (subst (λ (k : Problem). CostsAbove k at 0) (sym last) columns))
    | inr fine ↦ fine
  ]

  -- from the place reached on, which itself has a solution
  open-clash : (up : Bool) → way.up ≡ up → (w0 : Place) → IsReached p way at w0 → IsRightClash p way.row up w0.width way.end by
  open-clash true e w0 reached = record {
    upwards = record { first = reached.is.width.lowest; last = kept_end.lowest; rises = subst (λ (u : Bool). IsNoLater u w0.width way.end) e reached.is.no_later };
    each = λ w lowest within. refuted w0 reached w lowest (subst (λ (u : Bool). ComesBefore u w0.width w) (sym e) (within.not_first refl)) (subst (λ (u : Bool). IsNoLater u w way.end) (sym e) within.upper);
  }
  open-clash false e w0 reached = record {
    upwards = record { first = kept_end.lowest; last = reached.is.width.lowest; rises = subst (λ (u : Bool). IsNoLater u w0.width way.end) e reached.is.no_later };
    each = λ w lowest within. refuted w0 reached w lowest (subst (λ (u : Bool). ComesBefore u w0.width w) (sym e) (within.not_last refl)) (subst (λ (u : Bool). IsNoLater u w way.end) (sym e) within.lower);
  }

  -- or from a place beyond that on
  closed-clash : (up : Bool) → way.up ≡ up → (w0 : Place) (near : Fraction) → IsReached p way at w0 → IsKept near → ComesBefore way.up w0.width near → IsNoLater way.up near way.end → AreRight p way.row true (rising up (clash_between up near way.end by ∷ []))
  closed-clash true e w0 near reached kept less later = (
    record {
      upwards = record { first = kept.lowest; last = kept_end.lowest; rises = subst (λ (u : Bool). IsNoLater u near way.end) e later };
      each = λ w lowest within. refuted w0 reached w lowest (before_then way.up w0.width near w lowest.above less (subst (λ (u : Bool). IsNoLater u near w) (sym e) within.lower)) (subst (λ (u : Bool). IsNoLater u w way.end) (sym e) within.upper);
    },
    tt,
  )
  closed-clash false e w0 near reached kept less later = (
    record {
      upwards = record { first = kept_end.lowest; last = kept.lowest; rises = subst (λ (u : Bool). IsNoLater u near way.end) e later };
      each = λ w lowest within. refuted w0 reached w lowest (before_then way.up w0.width near w lowest.above less (subst (λ (u : Bool). IsNoLater u near w) (sym e) within.upper)) (subst (λ (u : Bool). IsNoLater u w way.end) (sym e) within.lower);
    },
    tt,
  )

  lone-clash : (up : Bool) (w : Fraction) (values : Values) → IsRightBetween p way.row up w w values values → IsRightClash p way.row up w way.end by → AreRight p way.row true (rising up (led_by up w (Some values) (clash_between up w way.end by ∷ [])))
  lone-clash true w values piece clash = (piece, (clash, tt))
  lone-clash false w values piece clash = (clash, (piece, tt))

  led-clash : (up : Bool) (w : Fraction) (values : Values) (ss : List Stretch) → Each IsPieceOf ss → AreRight p way.row true (rising up ss) → IsRightBetween p way.row up w w values values → IsRightClash p way.row up w way.end by → AreRight p way.row true (rising up (led_by up w (Some values) (ss ++ clash_between up w way.end by ∷ [])))
  led-clash up w values [] pieces h piece clash = lone-clash up w values piece clash
  led-clash up w values (Piece from to low high ∷ rest) pieces h piece clash = right_clash_more p way.row up (Piece from to low high) rest w way.end by pieces h clash
  led-clash up w values (Clash from to k ∷ rest) pieces h piece clash = absurd pieces.0

  through-some : (w0 : Place) (values : Values) (ss : List Stretch) → IsBehind p way at w0 (Some values) ss → IsThrough p way w0.width (Some values) (ss ++ clash_between way.up w0.width way.end by ∷ [])
  through-some w0 values ss h = record {
    from = h.from;
    shown_from = h.shown_from;
    covers = cover_more way.up h.from w0.width way.end ss (clash_between way.up w0.width way.end by) h.covers (clash_from_to way.up w0.width way.end by);
    right = led-clash way.up w0.width values ss (recursion_from_All IsPieceOf ss h.pieces) h.right
        (right_between p way.row at whole corner way.up w0.width w0.width values values h.reached.is.width h.reached.is.width (no_later_self way.up w0.width) h.reached.best h.reached.best h.shown.1 h.shown.1) (open-clash way.up refl w0 h.reached);
    pieces = ss;
    clash = clash_between way.up w0.width way.end by ∷ [];
    parts = refl;
    are_pieces = h.pieces;
    are_long = h.long;
    few = omega arith;
    are_clashes = one-clash (clash_between way.up w0.width way.end by) (is-clash way.up w0.width way.end by);
    long_clash = All-from_recursion IsLong (clash_between way.up w0.width way.end by ∷ []) (clash-long way.up w0.width way.end by (before-end w0 h.reached), tt);
    not_shown = λ none. absurd (never-some values none);
    shown_late = λ none. absurd (never-some values none);
    at_start = λ none. sym (subst (CoverTo way.up h.from w0.width) none h.covers);
  }

  through-none : (w0 : Place) (ss : List Stretch) → IsBehind p way at w0 None ss → IsThrough p way w0.width None ([] ++ clash_between way.up way.near.width way.end by ∷ [])
  through-none w0 ss h =
      let same : h.from ≡ way.near.width = from_near way h.from w0.width parts.first.width.lowest.above h.shown_from h.reached.on_way h.shown.0 in
      record {
        from = h.from;
        shown_from = h.shown_from;
        covers = cover_more way.up h.from way.near.width way.end [] (clash_between way.up way.near.width way.end by) same (clash_from_to way.up way.near.width way.end by);
        right = closed-clash way.up refl w0 way.near.width h.reached parts.near_place.width h.shown.0 parts.near_place.no_later;
        pieces = [];
        clash = clash_between way.up way.near.width way.end by ∷ [];
        parts = refl;
        are_pieces = All-nil IsPieceOf;
        are_long = All-nil IsLong;
        few = omega arith;
        are_clashes = one-clash (clash_between way.up way.near.width way.end by) (is-clash way.up way.near.width way.end by);
        long_clash = tt;
        not_shown = λ none. (refl, refl);
        shown_late = λ none. then_before way.up way.first.width w0.width way.near.width parts.first.width.lowest.above h.reached.on_way h.shown.0;
        at_start = λ none. tt;
      }

  -- the conflict behind what is behind
  pub clashed_slid : (old new : Slid) (from : Fraction) → IsAtPlace p way at old → new.at ≡ old.at → new.values ≡ old.values → stretches_of new.stretches.items ≡ stretches_of old.stretches.items ++ clash_between way.up from way.end by ∷ [] → (old.values ≡ None → from ≡ way.near.width) → IfSome old.values (λ values. from ≡ old.at.width)
      → HasSlid p way new
  clashed_slid old new from h a b d none some = by_case old.values refl
    where
      by_case : (o : Option Values) → old.values ≡ o → HasSlid p way new
      by_case None e =
          let behind : IsBehind p way at old.at None (stretches_of old.stretches.items) = subst (λ (o : Option Values). IsBehind p way at old.at o (stretches_of old.stretches.items)) e (behind_of p way at old h) in
          through-by p way new old.at.width None ([] ++ clash_between way.up way.near.width way.end by ∷ []) (ap (λ (w : Place). w.width) a) (b ∙ e)
          (d ∙ ap (λ (xs : List Stretch). xs ++ clash_between way.up from way.end by ∷ []) behind.shown.1 ∙ ap (λ (f : Fraction). clash_between way.up f way.end by ∷ []) (none e))
          (through-none old.at (stretches_of old.stretches.items) behind)
      by_case (Some values) e =
          let same : from ≡ old.at.width = subst (λ (o : Option Values). IfSome o (λ v. from ≡ old.at.width)) e some in
          through-by p way new old.at.width (Some values) (stretches_of old.stretches.items ++ clash_between way.up old.at.width way.end by ∷ []) (ap (λ (w : Place). w.width) a) (b ∙ e)
          (d ∙ ap (λ (f : Fraction). stretches_of old.stretches.items ++ clash_between way.up f way.end by ∷ []) same)
          (through-some old.at values (stretches_of old.stretches.items) (subst (λ (o : Option Values). IsBehind p way at old.at o (stretches_of old.stretches.items)) e (behind_of p way at old h)))

pub stretches_more : (xs : List declared.Stretch) (y : declared.Stretch) → stretches_of (xs ++ y ∷ []) ≡ stretches_of xs ++ stretch_of y ∷ []
stretches_more [] y = refl
stretches_more (x ∷ xs) y = ap (λ (ss : List Stretch). stretch_of x ∷ ss) (stretches_more xs y)
