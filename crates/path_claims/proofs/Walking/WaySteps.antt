-- The way to a path's first corner, mark by mark.
use Rattle.std.proofs.Common.{◌≡◌, ◌≢◌, ◌∙◌, ◌↔◌, ℕ, ◌<◌, ◌++◌, List, [], ◌∷◌, get_or, sym, ap, subst, subst₂, arith, inl, inr, Option, None, Some, All, length-append}
use Rattle.std.specs.Prelude.{slice_index_or}
use Rattle.std.proofs.lemmas.List.{append_assoc}
use Rattle.std.proofs.lemmas.List.Elements.{All-push}
use Rattle.problem_core.specs.declared.parts.Mark.{Mark}
use Rattle.problem_core.specs.declared.parts.Side.{Side}
use Rattle.problem_core.specs.declared.stops.Quantity.{Quantity}
use Rattle.problem_core.specs.Layout.{Problem}
use Rattle.problem_core.specs.Corners.{IsIn, Swap, exchanged, place}
use Rattle.problem_core.specs.Changes.Paths.{last_marks}
use Rattle.problem_core.specs.Unfit.{IsUnfitAt}
use Rattle.corner_laws.proofs.Rays.{rays_after}
use Rattle.cert_core.specs.Paths.{Path}
use Rattle.path_lines.specs.declared.spots.Spot.{Spot}
use Rattle.path_lines.specs.declared.spots.Step.{Step}
use Rattle.path_lines.specs.Room.{Counts, CountsOnTheWay, HasNoRoom}
use Rattle.path_lines.specs.Route.{GoesBy, IsRoute, IsWholeRoute, corner_after, over_marks}
use Rattle.path_lines.specs.Sides.{moved_sides}
use Rattle.path_lines.specs.Tables.{AreSides, IsThere, line_count, mark_of, swap_of}
use Rattle.path_claims.specs.Ways.{AreNew, IsBegun, IsBroughtBy, IsRouteAt}
use Rattle.path_lines.proofs.Places.{mark_is_there}
use Rattle.path_lines.proofs.MarkSides.SidesApart.{moved_are_sides}
use Rattle.problem_core.proofs.Marks.{last-more as last_more, entered-in as enter_in, kept-in as kept_in}
use Rattle.corner_laws.proofs.RunSteps.RunPaths.{contains_in as in_all}
use Rattle.std.proofs.lemmas.List.{append-nil as with_none}

-- ---- one exchange more

pub begun_more : (done : List Swap) (s : Swap) (o : Option Step) → o ≢ None → IsBegun (done ++ s ∷ []) o
begun_more [] s o some = some
begun_more (t ∷ done) s o some = some

pub new_more : (wanted at : List Mark) (done : List Swap) (s : Swap) → AreNew wanted at done → IsIn (place s.enter) wanted → (IsIn (place s.enter) (last_marks at done) → ⊥) → AreNew wanted at (done ++ s ∷ [])
new_more wanted at [] s new want out = (want, out, tt)
new_more wanted at (t ∷ done) s new want out = (new.0, new.1, new_more wanted (exchanged t at) done s new.2 want out)

pub new_after : (wanted at : List Mark) (b ss : List Swap) → AreNew wanted at (b ++ ss) → AreNew wanted (last_marks at b) ss
new_after wanted at [] ss new = new
new_after wanted at (t ∷ b) ss new = new_after wanted (exchanged t at) b ss new.2

-- not all wanted marks are inside where the exchanges end
pub not_ended : (wanted at : List Mark) (swaps done b : List Swap) (m : Mark) → AreNew wanted at done → done ≡ b ++ swaps → All (λ m. IsIn (place m) (last_marks at b)) wanted → IsIn (place m) wanted → (IsIn (place m) (last_marks at done) → ⊥) → ⊥
not_ended wanted at [] done b m new is all want out =
    out (subst (λ (ss : List Swap). IsIn (place m) (last_marks at ss)) (sym (is ∙ with_none b)) (in_all wanted (last_marks at b) (place m) all want))
not_ended wanted at (s ∷ swaps) done b m new is all want out =
    let here = new_after wanted at b (s ∷ swaps) (subst (AreNew wanted at) is new) in
    here.1 (in_all wanted (last_marks at b) (place s.enter) all here.0)

pub some_apart : (step : Step) → Some step ≡ None → ⊥
some_apart step e = cc

-- ---- what counts where the way stops

pub record IsCounting (p : Problem) (done : List Swap) : Type 0 where
  pub quantity : Quantity
  pub counts : CountsOnTheWay done quantity
  pub unfit : IsUnfitAt p (corner_after p done) quantity

pub counts_there : (p : Problem) (path : Path) (unfit : Option Quantity) (done : List Swap) (q : Quantity) → (IsWholeRoute p path done → ⊥) → CountsOnTheWay done q → Counts p path unfit done q
counts_there p path None done q not_whole counts = counts
counts_there p path (Some named) done q not_whole counts = inl (not_whole, counts)

pub no_room_there : (p : Problem) (path : Path) (holds : List Mark → Type 0) (before rest : List Mark) (made : ℕ) (last : Option Step) (sides : List (Option Side)) (m : Mark) (n : ℕ) (unfit : Option Quantity) → (is : IsRouteAt p path holds before (m ∷ rest) made last sides)
    → IsIn (place m) path.corner → (IsIn (place m) (corner_after p is.done) → ⊥) → n ≡ made → IsCounting p is.done → HasNoRoom p path unfit n
no_room_there p path holds before rest made last sides m n unfit is want out same counting_is = record {
  done = is.done;
  count = is.count ∙ sym same;
  route = subst (IsRoute p path) (with_none is.done) (is.goes_on [] tt);
  quantity = counting_is.quantity;
  counts = counts_there p path unfit is.done counting_is.quantity (λ whole. not_ended path.corner (over_marks p) path.swaps is.done whole.1.0 m is.new whole.1.1 whole.1.2 want out) counting_is.counts;
  does_not_fit = counting_is.unfit;
}

-- ---- one mark more

pub goes_in : (p : Problem) (path : Path) (at : List Mark) (m : Mark) (rest : List Mark) (more : List Swap) → IsIn (place m) at → GoesBy p path.corner path.swaps at rest more → GoesBy p path.corner path.swaps at (m ∷ rest) more
goes_in p path at m rest [] i goes = tt
goes_in p path at m rest (s ∷ more) i goes = inl (i, goes)

pub already_inside : (p : Problem) (path : Path) (holds : List Mark → Type 0) (before rest : List Mark) (made : ℕ) (last : Option Step) (sides : List (Option Side)) (m : Mark) → (is : IsRouteAt p path holds before (m ∷ rest) made last sides)
    → IsIn (place m) path.corner → IsIn (place m) (corner_after p is.done) → IsRouteAt p path holds (before ++ m ∷ []) rest made last sides
already_inside p path holds before rest made last sides m is want here = record {
  done = is.done;
  count = is.count;
  begun = is.begun;
  there = is.there;
  kept = is.kept;
  sides = is.sides;
  goes_on = λ more goes. is.goes_on more (goes_in p path (corner_after p is.done) m rest more here goes);
  inside = All-push (λ m. IsIn (place m) (corner_after p is.done)) before m is.inside here;
  wanted = All-push (λ m. IsIn (place m) path.corner) before m is.wanted want;
  new = is.new;
}

pub one_mark_more : (p : Problem) (path : Path) (holds next_holds : List Mark → Type 0) (before rest : List Mark) (made next_made : ℕ) (last next_last : Option Step) (sides next_sides : List (Option Side)) (m : Mark) (enter : Spot)
    → (is : IsRouteAt p path holds before (m ∷ rest) made last sides) → m ≡ mark_of p enter → IsIn (place m) path.corner → (IsIn (place m) (corner_after p is.done) → ⊥)
    → (b : IsBroughtBy p path.corner (corner_after p is.done) enter next_holds made next_made next_last) → next_sides ≡ moved_sides b.step sides → IsRouteAt p path next_holds (before ++ m ∷ []) rest next_made next_last next_sides
one_mark_more p path holds next_holds before rest made next_made last next_last sides next_sides m enter is mark want out b sides_is =
    let s : Swap = swap_of p b.step in
    let at : List Mark = corner_after p is.done in
    let corner_is : corner_after p (is.done ++ s ∷ []) ≡ exchanged s at = last_more (over_marks p) is.done s in
    let enter_is : s.enter ≡ m = ap (mark_of p) b.enter_is ∙ sym mark in
    let stays : (c : ℕ) → IsIn c path.corner → IsIn c at → IsIn c (exchanged s at) = λ c wanted i. kept_in s at c i (λ e. b.gives.may.unwanted (subst (λ (v : ℕ). IsIn v path.corner) e wanted)) in
    record {
      done = is.done ++ s ∷ [];
      count = let l = length-append is.done (s ∷ []) in omega (arith, l, is.count, b.count_is);
      begun = begun_more is.done s next_last (λ none. some_apart b.step (sym b.step_is ∙ none));
      there = subst (IsThere p) (sym corner_is) (record {
        whole = is.there.whole;
        corner = b.gives.may.exchange.corner;
        rays = rays_after p at s (mark_is_there p b.step.enter.at b.step.enter.side b.within.0) b.gives.may.exchange is.there.rays;
      });
      kept = subst next_holds (sym corner_is) b.kept_is;
      sides = subst₂ (AreSides p) (sym corner_is) (sym sides_is) (moved_are_sides p at sides b.step is.there.whole is.there.corner b.within b.gives.may.exchange is.sides);
      goes_on = λ more goes.
          subst (IsRoute p path) (sym (append_assoc is.done (s ∷ []) more))
          (is.goes_on (s ∷ more) (inr (out, enter_is, b.gives, subst (λ (ms : List Mark). GoesBy p path.corner path.swaps ms rest more) corner_is goes)));
      inside = subst (λ (ms : List Mark). All (λ n. IsIn (place n) ms) (before ++ m ∷ [])) (sym corner_is)
          (All-push (λ n. IsIn (place n) (exchanged s at)) before m (λ k d within. stays (place (get_or before k d)) (is.wanted k d within) (is.inside k d within))
          (subst (λ (n : Mark). IsIn (place n) (exchanged s at)) enter_is (enter_in s at b.gives.may.exchange.leaves)));
      wanted = All-push (λ n. IsIn (place n) path.corner) before m is.wanted want;
      new = new_more path.corner (over_marks p) is.done s is.new (subst (λ (n : Mark). IsIn (place n) path.corner) (sym enter_is) want) b.gives.may.exchange.enters;
    }

-- whether the mark is inside, by the sides
pub inside_by_sides : (p : Problem) (at : List Mark) (sides : List (Option Side)) (m : Mark) (enter : Spot) → AreSides p at sides → m ≡ mark_of p enter → enter.at < line_count p → (slice_index_or sides enter.at None ≡ Some enter.side) ↔ IsIn (place m) at
inside_by_sides p at sides m enter are mark within = subst (λ (n : Mark). (slice_index_or sides enter.at None ≡ Some enter.side) ↔ IsIn (place n) at) (sym mark) (are.each enter.at enter.side within)
