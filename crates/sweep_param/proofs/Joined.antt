-- What both slides came to is a sweep.
use Rattle.std.proofs.Common.{◌≡◌, ◌∙◌, inl, inr, ℕ, Bool, true, false, ◌&&◌, List, [], ◌++◌, refl, sym, ap, subst, arith, append_assoc, Option, Some, None, IfNone, IfSome, All}
use Rattle.std.specs.List.{AllByRecursion as Each}
use Rattle.std.proofs.lemmas.List.Elements.{recursion_from_All}
use borrow.Author.Differences.{ints}
use Rattle.frac_core.specs.Fraction.{Fraction, IsLowest}
use Rattle.frac_core.proofs.Made.{same_fraction}
use Rattle.problem_core.specs.Layout.{Problem}
use Rattle.sweep_laws.specs.Fractions.{IsLess, IsNoMore}
use Rattle.sweep_laws.specs.Stretches.{AreRight, IsClash, IsLong, IsPieceOf, IsSweep, Stretch, no_piece_first}
use Rattle.sweep_run.specs.Slides.{CoverTo, HasSlid, led_by, rising}
use Rattle.sweep_run.specs.Told.{stretches_of}
use Rattle.sweep_run.specs.Ways.{ComesBefore, IsNoLater, IsWay}
use Rattle.sweep_run.specs.declared.slides.Slid.{Slid}
use Rattle.sweep_run.specs.declared.ways.Way.{Way}
use Rattle.sweep_param.specs.declared.joining.Slides.{Slides}
use Rattle.sweep_param.specs.declared.sweeps.Range.{Range}
use Rattle.sweep_param.specs.Joining.{AreSlides, IsDownwards, IsSlidOn, IsUpwards, behind, lone_of, values_at}
use Rattle.sweep_param.proofs.Covers.{Steps, down-steps, up-steps}
use Rattle.sweep_param.proofs.Halves.{IsHalf, at_of, both_sweep, down_alone, up_alone}

abbrev Values : Type 0
Values = List (ℕ × Fraction)

-- the stretches of both, by rising constant
abbrev pub joined_of : Option Slid → Option Slid → List Stretch
joined_of down up = rising false (behind down) ++ (lone_of (no_piece_first (behind down) && no_piece_first (behind up)) (values_at down) (values_at up) ++ behind up)

pub equal-both : (a b : Fraction) → IsLowest a → IsLowest b → IsNoMore a b → IsNoMore b a → a ≡ b
equal-both a b la lb h k = same_fraction a b la lb (omega (arith, ints, h, k))

pub no-less : (a b : Fraction) → IsLess a b → IsNoMore b a → ⊥
no-less a b h k = absurd (omega (arith, ints, h, k))

never-both : (a b : Fraction) → IsLess a b → IsLess b a → ⊥
never-both a b h k = absurd (omega (arith, ints, h, k))

some-weaker : (o : Option Values) (A B : Type 0) → (A → B) → IfSome o (λ v. A) → IfSome o (λ v. B)
some-weaker None A B f h = h
some-weaker (Some v) A B f h = f h

-- ---- a slide as a half

module _ (p : Problem) (way : Way) (slid : Slid) (h : HasSlid p way slid) (mid : Fraction) (e : h.from ≡ mid) where
  half : IsHalf mid slid.at.width slid.values h.pieces h.clash
  half = record {
    one = record { few = h.few; are = recursion_from_All IsClash h.clash h.are_clashes };
    are = record { are = recursion_from_All IsPieceOf h.pieces h.are_pieces; long = recursion_from_All IsLong h.pieces h.are_long };
    long = some-weaker slid.values (All IsLong h.clash) (Each IsLong h.clash) (λ all. recursion_from_All IsLong h.clash all) h.long_clash;
    none = h.not_shown;
    here = λ none. subst (λ (f : Fraction). IfSome slid.values (λ v. slid.at.width ≡ f)) e (h.at_start none);
  }

  half-up : (to : Fraction) → way.up ≡ true → way.end ≡ to → Steps mid to (h.pieces ++ h.clash)
  half-up to up end =
      subst (Steps mid to) h.parts
      (subst (λ (f : Fraction). Steps f to (stretches_of slid.stretches.items)) e
      (subst (λ (f : Fraction). Steps h.from f (stretches_of slid.stretches.items)) end
      (up-steps h.from way.end (stretches_of slid.stretches.items) (subst (λ (b : Bool). CoverTo b h.from way.end (stretches_of slid.stretches.items)) up h.covers))))

  half-down : (from : Fraction) → way.up ≡ false → way.end ≡ from → Steps from mid (rising false (h.pieces ++ h.clash))
  half-down from up end =
      subst (λ (xs : List Stretch). Steps from mid (rising false xs)) h.parts
      (subst (λ (f : Fraction). Steps from f (rising false (stretches_of slid.stretches.items))) e
      (subst (λ (f : Fraction). Steps f h.from (rising false (stretches_of slid.stretches.items))) end
      (down-steps h.from way.end (stretches_of slid.stretches.items) (subst (λ (b : Bool). CoverTo b h.from way.end (stretches_of slid.stretches.items)) up h.covers))))

  half-right : (row : ℕ) (b : Bool) → way.up ≡ b → way.row ≡ row → AreRight p row true (rising b (led_by b slid.at.width slid.values (h.pieces ++ h.clash)))
  half-right row b up is =
      subst (λ (xs : List Stretch). AreRight p row true (rising b (led_by b slid.at.width slid.values xs))) h.parts
      (subst (λ (d : Bool). AreRight p row true (rising d (led_by d slid.at.width slid.values (stretches_of slid.stretches.items)))) up
      (subst (λ (n : ℕ). AreRight p n true (rising way.up (led_by way.up slid.at.width slid.values (stretches_of slid.stretches.items)))) is h.right))

-- ---- where it is shown from

-- with the constants of the way
shown-at : (row : ℕ) (present near end : Fraction) (way : Way) (b : Bool) → way.up ≡ b → IsWay row present near end way → (P : Bool → Fraction → Fraction → Type 0) → P way.up way.first.width way.near.width → P b present near
shown-at row present near end way b up is P h =
    subst (P b present) is.near_is (subst (λ (f : Fraction). P b f way.near.width) is.first_is (subst (λ (d : Bool). P d way.first.width way.near.width) up h))

module _ (row : ℕ) (present near end : Fraction) (p : Problem) (way : Way) (slid : Slid) (b : Bool) (up : way.up ≡ b) (is : IsWay row present near end way) (h : HasSlid p way slid) where
  low-present : IsLowest present
  low-present = subst IsLowest is.first_is is.first.width.lowest

  low-near : IsLowest near
  low-near = subst IsLowest is.near_is is.near_place.width.lowest

  -- where the present constant comes no later than that from which it is shown
  from-near : IsNoLater b present near → h.from ≡ near
  from-near late = elim h.shown_from [
    | inl (before, e) ↦
        let early : IsNoLater b near present = shown-at row present near end way b up is (λ d f n. IsNoLater d n f) before in
        e ∙ (is.first_is ∙ same-place b early late)
    | inr (later, e) ↦ e ∙ is.near_is
  ]
    where
      same-place : (d : Bool) → IsNoLater d near present → IsNoLater d present near → present ≡ near
      same-place true early late = equal-both present near low-present low-near late early
      same-place false early late = equal-both present near low-present low-near early late

  -- where it comes later
  from-present : (ComesBefore b present near → ⊥) → h.from ≡ present
  from-present never = elim h.shown_from [
    | inl (before, e) ↦ e ∙ is.first_is
    | inr (later, e) ↦ absurd (never (shown-at row present near end way b up is ComesBefore later))
  ]

  some-values : (ComesBefore b present near → ⊥) → slid.values ≡ None → ⊥
  some-values never none = never (shown-at row present near end way b up is ComesBefore (h.shown_late none))

-- ---- both

module _ (p : Problem) (row : ℕ) (from mid to w z : Fraction) (down_pieces down_clash up_pieces up_clash : List Stretch) where
  both-given : (v u : Option Values) → IsHalf mid w v down_pieces down_clash → IsHalf mid z u up_pieces up_clash → Steps from mid (rising false (down_pieces ++ down_clash)) → Steps mid to (up_pieces ++ up_clash)
      → AreRight p row true (rising false (led_by false w v (down_pieces ++ down_clash))) → AreRight p row true (led_by true z u (up_pieces ++ up_clash)) → (v ≡ None → ⊥) → (u ≡ None → ⊥)
      → IsSweep p row from to (rising false (down_pieces ++ down_clash) ++ (lone_of (no_piece_first (down_pieces ++ down_clash) && no_piece_first (up_pieces ++ up_clash)) (at_of w v) (at_of z u) ++ (up_pieces ++ up_clash)))
  both-given None u hd hu sd su rd ru nd nu = absurd (nd refl)
  both-given (Some v) None hd hu sd su rd ru nd nu = absurd (nu refl)
  both-given (Some v) (Some u) hd hu sd su rd ru nd nu =
      both_sweep p row from mid to w z v u down_pieces down_clash up_pieces up_clash
      (record { down_half = hd; up_half = hu; down_steps = sd; up_steps = su; down_right = rd; up_right = ru })

sweep-of : (p : Problem) (r : Range) (down up : Option Slid) → IfSome up (IsSlidOn p (IsUpwards r)) → (up ≡ None → IsNoMore r.to r.present) → IfSome down (IsSlidOn p (IsDownwards r)) → (down ≡ None → IsNoMore r.present r.from) → (up ≡ None → down ≡ None → ⊥)
    → IsSweep p r.row r.from r.to (joined_of down up)
sweep-of p r None None hu nu hd nd some = absurd (some refl refl)
sweep-of p r None (Some su) (way, (up, is), h) nu hd nd some =
    let e : h.from ≡ r.from = from-near r.row r.present r.from r.to p way su true up is h (nd refl) in
    subst (λ (xs : List Stretch). IsSweep p r.row r.from r.to (lone_of (no_piece_first xs) None (at_of su.at.width su.values) ++ xs)) (sym h.parts)
    (up_alone p r.row r.from r.to su.at.width su.values h.pieces h.clash (half p way su h r.from e) (half-up p way su h r.from e r.to up is.end_is) (half-right p way su h r.from e r.row true up is.row_is))
sweep-of p r (Some sd) None hu nu (way, (up, is), h) nd some =
    let e : h.from ≡ r.to = from-near r.row r.present r.to r.from p way sd false up is h (nu refl) in
    subst (λ (xs : List Stretch). IsSweep p r.row r.from r.to (rising false xs ++ (lone_of (no_piece_first xs && true) (at_of sd.at.width sd.values) None ++ []))) (sym h.parts)
    (down_alone p r.row r.from r.to sd.at.width sd.values h.pieces h.clash (half p way sd h r.to e) (half-down p way sd h r.to e r.from up is.end_is) (half-right p way sd h r.to e r.row false up is.row_is))
sweep-of p r (Some sd) (Some su) (way, (up, is), h) nu (back, (down, was), k) nd some =
    let above : IsLess r.present r.to = subst (λ (d : Bool). ComesBefore d r.present r.to) up is.forward in
    let below : IsLess r.from r.present = subst (λ (d : Bool). ComesBefore d r.present r.from) down was.forward in
    let e : h.from ≡ r.present = from-present r.row r.present r.from r.to p way su true up is h (never-both r.from r.present below) in
    let f : k.from ≡ r.present = from-present r.row r.present r.to r.from p back sd false down was k (never-both r.present r.to above) in
    subst (λ (xs : List Stretch). IsSweep p r.row r.from r.to (rising false xs ++ (lone_of (no_piece_first xs && no_piece_first (behind (Some su))) (values_at (Some sd)) (values_at (Some su)) ++ behind (Some su)))) (sym k.parts)
    (subst (λ (ys : List Stretch). IsSweep p r.row r.from r.to (rising false (k.pieces ++ k.clash) ++ (lone_of (no_piece_first (k.pieces ++ k.clash) && no_piece_first ys) (values_at (Some sd)) (values_at (Some su)) ++ ys))) (sym h.parts)
    (both-given p r.row r.from r.present r.to sd.at.width su.at.width k.pieces k.clash h.pieces h.clash sd.values su.values
    (half p back sd k r.present f) (half p way su h r.present e)
    (half-down p back sd k r.present f r.from down was.end_is) (half-up p way su h r.present e r.to up is.end_is)
    (half-right p back sd k r.present f r.row false down was.row_is) (half-right p way su h r.present e r.row true up is.row_is)
    (some-values r.row r.present r.to r.from p back sd false down was k (never-both r.present r.to above))
    (some-values r.row r.present r.from r.to p way su true up is h (never-both r.from r.present below))))

if-none : (A : Type 0) (o : Option Slid) → IfNone o A → o ≡ None → A
if-none A None h e = h
if-none A (Some s) h e = cc

-- the stretches of both slides are a sweep
pub joined_sweep : (p : Problem) (r : Range) (slides : Slides) → AreSlides p r slides → (slides.up ≡ None → slides.down ≡ None → ⊥) → IsSweep p r.row r.from r.to (joined_of slides.down slides.up)
joined_sweep p r slides h some =
    sweep-of p r slides.down slides.up h.up (if-none (IsNoMore r.to r.present) slides.up h.no_up) h.down (if-none (IsNoMore r.present r.from) slides.down h.no_down) some

pub put_all : (one two three down lone up : List Stretch) → one ≡ down → two ≡ one ++ lone → three ≡ two ++ up → three ≡ down ++ (lone ++ up)
put_all one two three down lone up e f g = g ∙ (ap (λ (xs : List Stretch). xs ++ up) (f ∙ ap (λ (xs : List Stretch). xs ++ lone) e) ∙ append_assoc down lone up)
