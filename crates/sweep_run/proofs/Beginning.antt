-- Where a slide begins: at the present constant, of which the row has but one.
use Rattle.std.proofs.Common.{◌≡◌, ◌∙◌, inl, inr, ℕ, zero, suc, ◌<◌, Bool, true, false, cond, nat_eq, List, [], ◌∷◌, length, map, get_or, refl, sym, ap, subst, arith, eq-eqb, All, Any}
use Rattle.std.specs.List.{AllByRecursion as Each}
use Rattle.std.specs.declared.option.Option.{Option}
use Rattle.std.specs.Prelude.{Some, None}
use Rattle.std.proofs.lemmas.Bool.{cases_lt}
use Rattle.std.proofs.lemmas.List.{get_or_default}
use Rattle.std.proofs.lemmas.List.Elements.{All-from_recursion, All-nil}
use Rattle.frac_core.specs.Fraction.{Fraction}
use Rattle.frac_core.specs.declared.memory.Stop.TheVariants.{Refused}
use Rattle.frac_core.proofs.Lists.{each-onto_map}
use Rattle.problem_core.specs.declared.parts.Mark.{Mark}
use Rattle.problem_core.specs.declared.stops.Quantity.{Quantity}
use Rattle.problem_core.specs.declared.stops.Quantity.TheVariants.{Plain, Terms, Rows, Shifts}
use Rattle.problem_core.specs.declared.stops.What.{What}
use Rattle.problem_core.specs.Kept.{IsWhole}
use Rattle.problem_core.specs.Layout.{Problem, Row}
use Rattle.problem_core.specs.Corners.{Swap}
use Rattle.problem_core.specs.Changes.Paths.{IsPath}
use Rattle.problem_core.specs.Unfit.{IsUnfitWhat}
use Rattle.cert_core.specs.Paths.{Path}
use Rattle.corner_view.specs.Changes.{IsRewound, scene_of}
use Rattle.corner_view.specs.Stops.{IsUnfitStop}
use Rattle.corner_view.specs.Seen.{CornerView, IsKeptCorner, Scene}
use Rattle.corner_ends.specs.Runs.{IsBestEnd}
use Rattle.corner_ends.specs.Trails.{IsTrailOf, Trail}
use Rattle.corner_lines.specs.Shifts.{has_constant, with_constant}
use Rattle.corner_lines.proofs.ProblemChanges.Shifted.{changed}
use Rattle.corner_lines.proofs.ProblemChanges.ShiftedCorner.{shift_corner}
use Rattle.sweep_laws.specs.Stops.{HasConstant, IsSlideUnfit}
use Rattle.sweep_laws.specs.Stretches.{AreRight, IsLong, IsPieceOf}
use Rattle.sweep_laws.proofs.OneConstant.{constant_seen}
use Rattle.sweep_laws.proofs.SeenAlike.{columns-seen}
use Rattle.sweep_run.specs.declared.slides.Slid.{Slid}
use Rattle.sweep_run.specs.declared.stretches.SweepQuantity.{SweepQuantity}
use Rattle.sweep_run.specs.declared.stretches.SweepQuantity.TheVariants.{At}
use Rattle.sweep_run.specs.declared.stretches.SweepStop.{SweepStop}
use Rattle.sweep_run.specs.declared.stretches.SweepStop.TheVariants.{Unfit, Spent, OutOfMemory}
use Rattle.sweep_run.specs.declared.ways.Way.{Way}
use Rattle.sweep_run.specs.Slides.{CoverTo, HasBegun, HasShown, IsMarked, IsSlideStop, IsUnfitWith, rising}
use Rattle.sweep_run.specs.Told.{stretches_of}
use Rattle.sweep_run.specs.Ways.{IsAtEnd, IsReached, IsWayOf, there}
use Rattle.sweep_run.proofs.Moves.{HasOwn, still}
use Rattle.sweep_run.proofs.Orders.{no_later_self}
use Rattle.sweep_run.proofs.Standing.{IsBehind, Values, at_place_by}

-- ---- the present constant

pub own_of : (p : Problem) (row : ℕ) (f : Fraction) → IsWhole p → HasConstant p row f → HasOwn p row f
own_of p row f whole (i, r, within, is, (id, constant)) k d short same = elim (cases_lt k i) [
  | inl before ↦ absurd (apart k i before within (same-id k d short same) (ap (λ (s : Row). s.id) is ∙ id))
  | inr after ↦ elim (cases_lt i k) [
    | inl behind ↦ absurd (apart i k behind short (ap (λ (s : Row). s.id) is ∙ id) (same-id k d short same))
    | inr here ↦
        let one : k ≡ i = omega (arith, after, here) in
        ap (λ (s : Row). s.constant) (get_or_default p.rows k d r short ∙ ap (λ (n : ℕ). get_or p.rows n r) one ∙ is) ∙ constant
  ]
]
  where
    same-id : (k : ℕ) (d : Row) → k < length p.rows → (get_or p.rows k d).id ≡ row → (get_or p.rows k r).id ≡ row
    same-id k d short same = ap (λ (s : Row). s.id) (get_or_default p.rows k r d short) ∙ same

    apart : (i j : ℕ) → i < j → j < length p.rows → (get_or p.rows i r).id ≡ row → (get_or p.rows j r).id ≡ row → ⊥
    apart i j less within a b = let low = whole.rising i j r less within in omega (arith, low, a, b)

pub there_first : (p : Problem) (way : Way) → IsWhole p → IsWayOf p way → there p way way.first.width ≡ p
there_first p way whole is = still p way.row way.first.width (own_of p way.row way.first.width whole is.held)

-- ---- the end's constant

false-true : false ≡ true → ⊥
false-true e = cc

own-with : (p : Problem) (row : ℕ) (w : Fraction) → All (λ r. r.id ≡ row → r.constant ≡ w) (with_constant row w p).rows
own-with p row w = All-from_recursion (λ (r : Row). r.id ≡ row → r.constant ≡ w) (map (has_constant row w) p.rows) (each-onto_map (λ (r : Row). r.id ≡ row → r.constant ≡ w) (has_constant row w) p.rows (each p.rows))
  where
    by_test : (b : Bool) (r : Row) → nat_eq r.id row ≡ b → (cond b (changed w r) r).id ≡ row → (cond b (changed w r) r).constant ≡ w
    by_test true r e same = refl
    by_test false r e same = absurd (false-true (sym e ∙ eq-eqb r.id row same))

    each : (rows : List Row) → Each (λ (r : Row). (has_constant row w r).id ≡ row → (has_constant row w r).constant ≡ w) rows
    each [] = tt
    each (r ∷ rows) = (by_test (nat_eq r.id row) r refl, each rows)

same-number : (b : Bool) (w : Fraction) (r : Row) → (cond b (changed w r) r).id ≡ r.id
same-number true w r = refl
same-number false w r = refl

held-with : (row : ℕ) (w : Fraction) (rows : List Row) → Any (λ r. r.id ≡ row) rows → Any (λ r. r.id ≡ row) (map (has_constant row w) rows)
held-with row w [] (i, r, within, is, e) = absurd (omega (arith, within))
held-with row w (x ∷ rows) (zero, r, within, is, e) = (0, has_constant row w x, omega arith, refl, same-number (nat_eq x.id row) w x ∙ ap (λ (s : Row). s.id) is ∙ e)
held-with row w (x ∷ rows) (suc i, r, within, is, e) = let h = held-with row w rows (i, r, omega (arith, within), is, e) in (suc h.0, h.1, omega (arith, h.2), h.3, h.4)

held-of : (rows : List Row) (row : ℕ) (f : Fraction) → Any (λ r. (r.id ≡ row) × (r.constant ≡ f)) rows → Any (λ r. r.id ≡ row) rows
held-of rows row f (i, r, within, is, h) = (i, r, within, is, h.0)

pub at_end_of : (p : Problem) (way : Way) (next : CornerView) → next.problem ≡ with_constant way.row way.end p → IsWhole next.problem → IsWayOf p way → IsAtEnd way next
at_end_of p way next e whole is = record {
  whole = whole;
  held = subst (λ (k : Problem). Any (λ r. r.id ≡ way.row) k.rows) (sym e) (held-with way.row way.end p.rows (held-of p.rows way.row way.first.width is.held));
  constant = subst (λ (k : Problem). All (λ r. r.id ≡ way.row → r.constant ≡ way.end) k.rows) (sym e) (own-with p way.row way.end);
  parts = is.is;
}

-- ---- nothing is behind it

begun-behind : (p : Problem) (way : Way) (at : List Mark) (values : Option Values) → IsReached p way at way.first → HasShown p way at way.first values [] → IsBehind p way at way.first values []
begun-behind p way at None reached shown = record {
  reached = reached;
  from = way.near.width;
  shown_from = inr (shown.0, refl);
  shown = shown;
  covers = tt;
  right = none way.up;
  pieces = All-nil IsPieceOf;
  long = All-nil IsLong;
}
  where
    none : (up : Bool) → AreRight p way.row true (rising up [])
    none true = tt
    none false = tt
begun-behind p way at (Some values) reached shown = record {
  reached = reached;
  from = way.first.width;
  shown_from = inl (shown.0, refl);
  shown = shown;
  covers = here way.up;
  right = none way.up;
  pieces = All-nil IsPieceOf;
  long = All-nil IsLong;
}
  where
    none : (up : Bool) → AreRight p way.row true (rising up [])
    none true = tt
    none false = tt

    here : (up : Bool) → CoverTo up way.first.width way.first.width []
    here true = refl
    here false = refl

pub begun_at : (p : Problem) (way : Way) (at : List Mark) (slid : Slid) → IsWhole p → IsWayOf p way → IsBestEnd p at → slid.at ≡ way.first → slid.stretches.items ≡ [] → HasShown p way at way.first slid.values [] → HasBegun p at way slid
begun_at p way at slid whole is best a d shown =
    let reached : IsReached p way at way.first = record { is = is.is.first; on_way = no_later_self way.up way.first.width; best = subst (λ (k : Problem). IsBestEnd k at) (sym (there_first p way whole is)) best } in
    (d, a, at_place_by p way at slid way.first slid.values [] a refl (ap stretches_of d) (begun-behind p way at slid.values reached shown))

-- ---- the end's constant doesn't fit

head-of : Scene → List Scene → Scene
head-of d [] = d
head-of d (s ∷ rest) = s

-- taken back, the corner is as it was
pub rewound : (c back : CornerView) → IsMarked c → IsRewound c back → scene_of back ≡ scene_of c
unfolding head-of
rewound c back marked is = ap (head-of (scene_of c)) (sym is.scene.1 ∙ marked.1)

module _ (c back : CornerView) (way : Way) (kept : IsKeptCorner c.problem c.marks) (is : IsWayOf c.problem way) (best : IsBestEnd c.problem c.marks) (same : scene_of back ≡ scene_of c) (trail : Trail) (trail_is : IsTrailOf true back.problem back.marks trail back.marks) (none : trail.swaps ≡ []) where
  first-path : IsPath true (with_constant way.row way.end c.problem) c.marks []
  first-path = record {
    corner = shift_corner c.problem c.marks way.row is.end_near.0 way.end is.end_near.1 kept.whole kept.corner kept.rays is.end_near.2;
    apart = λ i j d less within. absurd (omega (arith, less, within));
    lawful = columns-seen c.problem (with_constant way.row way.end c.problem) c.marks (sym (constant_seen c.problem way.row way.end)) best.columns;
  }

  first-unfit : (budget : ℕ) (what : What) → IsUnfitWhat (with_constant way.row way.end c.problem) c.marks what → IsSlideUnfit c.problem way.row c.marks way.first.width way.near.width way.end way.end budget way.end (record { dual = true; corner = c.marks; swaps = [] }) what
  first-unfit budget what unfit = record { leads = record { kind = refl; begins = refl; lawful = first-path; few = omega arith }; told = inl refl; unfit = unfit }

  pub shift_stop : (quantity : Quantity) (stop : SweepStop) → IsUnfitStop (with_constant way.row way.end c.problem) c.marks (Refused quantity) → IsUnfitWith back trail way.end (At quantity) stop → (budget : ℕ) → IsSlideStop c.problem c.marks way budget stop
  shift_stop (Plain what) (Unfit width path q) unfit (width_is, q_is, by) budget =
      let route : path ≡ record { dual = true; corner = c.marks; swaps = [] } =
      by true back.marks trail_is ∙ ap (λ (ms : List Mark). record { dual = true; corner = ms; swaps = trail.swaps }) (ap (λ (s : Scene). s.marks) same) ∙ ap (λ (xs : List Swap). record { dual = true; corner = c.marks; swaps = xs }) none in
      subst (λ (k : SweepQuantity). IsSlideStop c.problem c.marks way budget (Unfit width path k)) (sym q_is)
      (subst (λ (w : Fraction). IsSlideUnfit c.problem way.row c.marks way.first.width way.near.width way.end way.end budget w path what) (sym width_is)
      (subst (λ (r : Path). IsSlideUnfit c.problem way.row c.marks way.first.width way.near.width way.end way.end budget way.end r what) (sym route) (first-unfit budget what unfit)))
  shift_stop (Plain what) (Spent width path) unfit h budget = absurd h
  shift_stop (Plain what) OutOfMemory unfit h budget = tt
  shift_stop (Terms m j) stop unfit h budget = absurd unfit
  shift_stop (Rows level j) stop unfit h budget = absurd unfit
  shift_stop (Shifts what j) stop unfit h budget = absurd unfit
