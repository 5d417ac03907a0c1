-- Places of a way.
use Rattle.std.proofs.Common.{◌≡◌, ◌∙◌, ℕ, ◌*◌, Bool, true, false, ℤ, pos, negsuc, ◌*ℤ◌, ◌≤ℤ◌, sym, ap, subst, arith}
use borrow.Author.Differences.{ints}
use Rattle.frac_core.specs.Fraction.{Fraction, IsKept, IsRatio, IsUnfitRatio, sum_den, sum_num}
use Rattle.sweep_laws.specs.Fractions.{IsTooLarge, difference}
use Rattle.sweep_run.specs.Ways.{IsNoLater, IsPlace, far_back}
use Rattle.sweep_run.proofs.Backs.{gap-down, gap-up, less-by-gap, more-by-gap, no-gap, no-later-down, no-later-up, over-both}

-- ---- a constant's distance from the end

-- what the one is above the other, as it is formed
pub formed : (f a t : Fraction) → IsRatio f (sum_num a (negsuc 0) (pos 1) t) (sum_den a (pos 1) t) → IsRatio f (difference a t).num (pos (difference a t).den)
formed f a t r = subst (λ (q : ℤ). IsRatio f (sum_num a (negsuc 0) (pos 1) t) q) (over-both a.den t.den) r

pub formed-large : (a t : Fraction) → IsUnfitRatio (sum_num a (negsuc 0) (pos 1) t) (sum_den a (pos 1) t) → IsTooLarge (difference a t)
formed-large a t unfit = λ g kept r. unfit g kept.lowest (subst (λ (q : ℤ). IsRatio g (sum_num a (negsuc 0) (pos 1) t) q) (sym (over-both a.den t.den)) r) kept.fits

-- the place of a constant that comes before the end
pub placed : (up : Bool) (end width back : Fraction) → IsNoLater up width end → IsKept width → IsKept back → IsRatio back (far_back up width end).num (pos (far_back up width end).den) → IsPlace up end (record { width = width; back = back })
placed up end width back no_later kept far is = record { no_later = no_later; width = kept; back = far; is = is }

-- ---- a distance's constant

pub placed-up : (end width back : Fraction) → IsKept width → IsKept back → pos 0 ≤ℤ back.num → IsRatio width (sum_num end (negsuc 0) (pos 1) back) (sum_den end (pos 1) back) → IsPlace true end (record { width = width; back = back })
placed-up end width back kept far above r =
    let gap = gap-up width.num width.den end.num end.den back.num back.den r in
    record {
      no_later = no-later-up width.num width.den end.num end.den back.num back.den far.lowest.above above gap;
      width = kept;
      back = far;
      is = gap;
    }

pub placed-down : (end width back : Fraction) → IsKept width → IsKept back → pos 0 ≤ℤ back.num → IsRatio width (sum_num end (pos 1) (pos 1) back) (sum_den end (pos 1) back) → IsPlace false end (record { width = width; back = back })
placed-down end width back kept far above r =
    let gap = gap-down width.num width.den end.num end.den back.num back.den r in
    record {
      no_later = no-later-down width.num width.den end.num end.den back.num back.den far.lowest.above above gap;
      width = kept;
      back = far;
      is = gap;
    }

pub far-up : (end back : Fraction) → IsUnfitRatio (sum_num end (negsuc 0) (pos 1) back) (sum_den end (pos 1) back) → (w : Fraction) → IsKept w → IsRatio back (far_back true w end).num (pos (far_back true w end).den) → ⊥
far-up end back unfit = λ w kept r. unfit w kept.lowest (less-by-gap w.num w.den end.num end.den back.num back.den r) kept.fits

pub far-down : (end back : Fraction) → IsUnfitRatio (sum_num end (pos 1) (pos 1) back) (sum_den end (pos 1) back) → (w : Fraction) → IsKept w → IsRatio back (far_back false w end).num (pos (far_back false w end).den) → ⊥
far-down end back unfit = λ w kept r. unfit w kept.lowest (more-by-gap w.num w.den end.num end.den back.num back.den r) kept.fits

-- ---- the end itself

never-later : (z : ℤ) → z ≤ℤ z
never-later z = omega (arith, ints)

end-gap : (end zero : Fraction) → zero.num ≡ pos 0 → zero.den ≡ 1 → IsRatio zero (difference end end).num (pos (difference end end).den)
end-gap end zero num den =
    ap (λ (z : ℤ). z *ℤ pos (end.den * end.den)) num
    ∙ no-gap end.num end.den
    ∙ ap (λ (n : ℕ). (difference end end).num *ℤ pos n) (sym den)

pub at-end : (up : Bool) (end zero : Fraction) → IsKept end → IsKept zero → zero.num ≡ pos 0 → zero.den ≡ 1 → IsPlace up end (record { width = end; back = zero })
at-end true end zero kept none num den = record { no_later = never-later (end.num *ℤ pos end.den); width = kept; back = none; is = end-gap end zero num den }
at-end false end zero kept none num den = record { no_later = never-later (end.num *ℤ pos end.den); width = kept; back = none; is = end-gap end zero num den }
