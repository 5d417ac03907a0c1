-- The ways from the present constant to both ends.
use Rattle.std.proofs.Common.{◌≡◌, ◌∙◌, inl, inr, ℕ, ◌*◌, Bool, true, false, ℤ, pos, negsuc, ◌+ℤ◌, ◌-ℤ◌, ◌*ℤ◌, neg_ℤ, refl, sym, ap, subst, arith, Ordering, Option, Some, None, IfSome, IfNone}
use Rattle.std.specs.declared.cmp.Ordering.TheVariants.{Less, Equal, Greater}
use Rattle.std.proofs.lemmas.Cmp.{int_ranked}
use Rattle.std.proofs.lemmas.Option.{IfSome_then}
use borrow.Author.Differences.{ints}
use Rattle.frac_core.specs.Fraction.{Fraction, IsRatio, fraction_order}
use Rattle.frac_core.proofs.Integers.{diff, diff-add, diff-mul, diff-neg, diff-pos, diff_eq, neg-pos, on_1, on_2}
use Rattle.frac_core.proofs.Quotients.{size_opposite as size-neg}
use Rattle.problem_core.specs.Layout.{Problem, Row}
use Rattle.corner_view.specs.Changes.{IsNear}
use Rattle.sweep_laws.specs.Fractions.{IsFittingDifference, IsLess, IsNoMore, IsTooLarge, difference}
use Rattle.sweep_laws.specs.Stops.{HasConstant}
use Rattle.sweep_run.specs.Slides.{HasSlid}
use Rattle.sweep_run.specs.Ways.{ComesBefore, IsAnyWay, IsPlace, IsUnfitWay, IsWay, IsWayOf}
use Rattle.sweep_run.specs.declared.slides.Slid.{Slid}
use Rattle.sweep_run.specs.declared.ways.Way.{Way}
use Rattle.sweep_run.proofs.Places.{formed}
use Rattle.sweep_param.specs.declared.sweeps.Range.{Range}
use Rattle.sweep_param.specs.Joining.{IsDownwards, IsRangeOf, IsSlidOn, IsUpwards}

ruleset ring = (diff-add, diff-mul, diff-neg, diff-pos, neg-pos)

-- ---- the order of two constants

pub is_less : (a b : Fraction) → fraction_order a b ≡ Less → IsLess a b
is_less a b e = int_ranked (a.num *ℤ pos b.den) (b.num *ℤ pos a.den) Less (sym e)

ranked-no-less : (a b : Fraction) (o : Ordering) → o ≡ fraction_order a b → (o ≡ Less → ⊥) → IsNoMore b a
ranked-no-less a b Less e n = absurd (n refl)
ranked-no-less a b Equal e n = let same = int_ranked (a.num *ℤ pos b.den) (b.num *ℤ pos a.den) Equal e in omega (arith, ints, same)
ranked-no-less a b Greater e n = let more = int_ranked (a.num *ℤ pos b.den) (b.num *ℤ pos a.den) Greater e in omega (arith, ints, more)

pub is_no_less : (a b : Fraction) → (fraction_order a b ≡ Less → ⊥) → IsNoMore b a
is_no_less a b n = ranked-no-less a b (fraction_order a b) refl n

-- ---- the other way round

minus-one : (z : ℤ) → negsuc 0 *ℤ z ≡ pos 0 -ℤ z
minus-one z = omega (arith, ints)

parted : (ad bd fd : ℕ) (a b : ℤ) → (a *ℤ (pos 1 *ℤ pos bd) +ℤ negsuc 0 *ℤ (b *ℤ pos ad)) *ℤ pos fd ≡ (a *ℤ pos bd) *ℤ pos fd -ℤ (b *ℤ pos ad) *ℤ pos fd
parted ad bd fd a b =
    ap (λ (z : ℤ). (a *ℤ (pos 1 *ℤ pos bd) +ℤ z) *ℤ pos fd) (minus-one (b *ℤ pos ad))
    ∙ on_2 (λ a b. (a *ℤ (pos 1 *ℤ pos bd) +ℤ (pos 0 -ℤ b *ℤ pos ad)) *ℤ pos fd ≡ (a *ℤ pos bd) *ℤ pos fd -ℤ (b *ℤ pos ad) *ℤ pos fd) (λ a a' b b'. simp ring (diff_eq _ _ _ _ (omega arith))) a b

opposite : (ad bd : ℕ) (f : ℤ) → neg_ℤ f *ℤ pos (bd * ad) ≡ pos 0 -ℤ f *ℤ pos (ad * bd)
opposite ad bd = on_1 (λ f. neg_ℤ f *ℤ pos (bd * ad) ≡ pos 0 -ℤ f *ℤ pos (ad * bd)) (λ a a'. simp ring (diff_eq _ _ _ _ (omega arith)))

turned-parts : (l r u v : ℤ) → l ≡ r → r ≡ u -ℤ v → pos 0 -ℤ l ≡ v -ℤ u
turned-parts l r u v e f = omega (arith, ints, e, f)

pub turned_fits : (a b : Fraction) → IsFittingDifference a b → IsFittingDifference b a
turned_fits a b (f, kept, r) = (
  record { num = neg_ℤ f.num; den = f.den },
  record {
    lowest = record { above = kept.lowest.above; coprime = rw (size-neg f.num) kept.lowest.coprime };
    fits = record { num_fits = rw (size-neg f.num) kept.fits.num_fits; den_fits = kept.fits.den_fits };
  },
  opposite a.den b.den f.num
      ∙ (turned-parts (f.num *ℤ pos (a.den * b.den)) _ ((a.num *ℤ pos b.den) *ℤ pos f.den) ((b.num *ℤ pos a.den) *ℤ pos f.den) r (parted a.den b.den f.den a.num b.num)
      ∙ sym (parted b.den a.den f.den b.num a.num)),
)

-- ---- what a way needs fits

fits-no-more : (a b : Fraction) → IsFittingDifference a b → IsTooLarge (difference a b) → ⊥
fits-no-more a b (f, kept, r) large = large f kept r

less-both : (a b : Fraction) → IsLess a b → IsLess b a → ⊥
less-both a b h k = absurd (omega (arith, ints, h, k))

pub up_fits : (present from to : Fraction) → IsLess present to → IsFittingDifference to present → IsFittingDifference to from → IsUnfitWay present from to → ⊥
up_fits present from to less fits wide (true, forward, inl large) = fits-no-more to present fits large
up_fits present from to less fits wide (true, forward, inr large) = fits-no-more to from wide large
up_fits present from to less fits wide (false, forward, large) = less-both present to less forward

pub down_fits : (present from to : Fraction) → IsLess from present → IsFittingDifference from present → IsFittingDifference to from → IsUnfitWay present to from → ⊥
down_fits present from to less fits wide (false, forward, inl large) = fits-no-more present from (turned_fits from present fits) large
down_fits present from to less fits wide (false, forward, inr large) = fits-no-more to from wide large
down_fits present from to less fits wide (true, forward, large) = less-both from present less forward

-- the way's direction
pub goes_up : (row : ℕ) (present near end : Fraction) (way : Way) → IsWay row present near end way → IsLess present end → way.up ≡ true
goes_up row present near end way is less = direction way.up is.forward
  where
    direction : (b : Bool) → ComesBefore b present end → b ≡ true
    direction true h = refl
    direction false h = absurd (less-both present end less h)

pub goes_down : (row : ℕ) (present near end : Fraction) (way : Way) → IsWay row present near end way → IsLess end present → way.up ≡ false
goes_down row present near end way is less = direction way.up is.forward
  where
    direction : (b : Bool) → ComesBefore b present end → b ≡ false
    direction true h = absurd (less-both end present less h)
    direction false h = refl

pub near_fits : (p : Problem) (row : ℕ) (present to : Fraction) → HasConstant p row present → IsNear p row to → IsFittingDifference to present
near_fits p row present to (k, r, within, is, (named, c)) (from, more, shift, kept) =
    let same : present ≡ from = sym c ∙ subst (λ (s : Row). s.id ≡ row → s.constant ≡ from) is (shift.constant k r within) named in
    (more, kept, subst (λ (f : Fraction). IsRatio more (difference to f).num (pos (difference to f).den)) (sym same) (formed more to from shift.difference))

-- ---- a way of the problem

any-way : (row : ℕ) (present near end : Fraction) (way : Way) → IsWay row present near end way → IsAnyWay way
any-way row present near end way is = record {
  row_is = refl;
  end_is = refl;
  forward = subst (λ (f : Fraction). ComesBefore way.up way.first.width f) (sym is.end_is) (subst (λ (f : Fraction). ComesBefore way.up f end) (sym is.first_is) is.forward);
  first = subst (λ (f : Fraction). IsPlace way.up f way.first) (sym is.end_is) is.first;
  first_is = refl;
  near_place = subst (λ (f : Fraction). IsPlace way.up f way.near) (sym is.end_is) is.near_place;
  near_is = refl;
}

way-of : (p : Problem) (row : ℕ) (present near end : Fraction) (way : Way) → HasConstant p row present → IsNear p row end → IsWay row present near end way → IsWayOf p way
way-of p row present near end way held end_near is = record {
  held = subst (λ (n : ℕ). HasConstant p n way.first.width) (sym is.row_is) (subst (HasConstant p row) (sym is.first_is) held);
  is = any-way row present near end way is;
  end_near = subst (λ (n : ℕ). IsNear p n way.end) (sym is.row_is) (subst (IsNear p row) (sym is.end_is) end_near);
}

pub up_way : (p : Problem) (r : Range) (way : Option Way) → IsRangeOf p r → IfSome way (IsUpwards r) → IfSome way (IsWayOf p)
up_way p r way range h = IfSome_then way h (λ w is. way-of p r.row r.present r.from r.to w range.held range.near.1 is.1)

pub down_way : (p : Problem) (r : Range) (way : Option Way) → IsRangeOf p r → IfSome way (IsDownwards r) → IfSome way (IsWayOf p)
down_way p r way range h = IfSome_then way h (λ w is. way-of p r.row r.present r.to r.from w range.held range.near.0 is.1)

-- ---- the slide on it

pub is_on : (P : Way → Type 0) (way : Option Way) (w : Way) → way ≡ Some w → IfSome way P → P w
is_on P way w e h = subst (λ (o : Option Way). IfSome o P) e h

pub slid_on : (p : Problem) (P : Way → Type 0) (way : Option Way) (s : Option Slid) → IfSome way P → IfSome s (λ slid. (w : Way) × (way ≡ Some w) × HasSlid p w slid) → IfSome s (IsSlidOn p P)
slid_on p P way s h k = IfSome_then s k (λ slid on. (on.0, is_on P way on.0 on.1 h, on.2))

pub none_on : (A : Type 0) (way : Option Way) (s : Option Slid) → IfNone way A → IfNone s (way ≡ None) → IfNone s A
none_on A way None h e = subst (λ (o : Option Way). IfNone o A) e h
none_on A way (Some slid) h e = tt
