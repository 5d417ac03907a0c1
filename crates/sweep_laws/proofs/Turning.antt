-- Which marks turn, and where, for the view that is as wide as the window but no wider than 150.
use Rattle.std.proofs.Common.{◌≡◌, ◌≢◌, ◌∙◌, ℕ, zero, suc, ◌*◌, ◌%◌, ◌<◌, inl, inr, ◌⊎◌, cond, nat_eq, List, [], ◌∷◌, map, ℤ, pos, negsuc, ◌+ℤ◌, ◌-ℤ◌, ◌*ℤ◌, neg_ℤ, ◌<ℤ◌, refl, sym, ap, arith, AllPairs, Contains}
use Rattle.std.proofs.lemmas.List.Elements.{All-from_recursion, recursion_from_All}
use Rattle.std.proofs.lemmas.List.Kept.{AllPairs-cons}
use Rattle.std.proofs.lemmas.Nat.Gcd.{IsGcd-from_mod, IsGcd-from_zero}
use borrow.Author.Differences.{ints}
use Rattle.frac_core.specs.Fraction.{Fraction, IsKept}
use Rattle.frac_core.proofs.Integers.{cancel_mul, diff-add, diff-mul, diff-neg, diff-pos, diff_eq, mul-zero_ℤ, neg-pos, on_1}
use Rattle.frac_core.proofs.Numbers.{as-natural, neg-times}
use Rattle.problem_core.specs.declared.parts.Mark.{Mark}
use Rattle.problem_core.specs.Layout.{lines, value_at}
use Rattle.problem_core.specs.Corners.{Agree, IsCorner, IsIn, Point, StandsAt, attr_column, equation, marks_of, one_column, place}
use Rattle.corner_laws.proofs.MarkWritings.Fits.{whole_is_kept}
use Rattle.sweep_laws.specs.Fractions.{IsTooLarge, difference}
use Rattle.sweep_laws.specs.Stops.{IsUnfitTurn, IsZeroAt, Turns}
use Rattle.sweep_laws.specs.Instances.{SomeTurn, as_wide, at_stays, bent, mark, over_stay, points}
use Rattle.sweep_laws.proofs.Bends.{bent_at}

ruleset ring = (diff-add, diff-mul, diff-neg, diff-pos, neg-pos)

-- ---- the marks inside

none-of : (c : ℕ) (m n k : Mark) → c ≢ place m → c ≢ place n → c ≢ place k → IsIn c (m ∷ n ∷ k ∷ []) → ⊥
none-of c m n k a b d (zero, within, is) = a (sym is)
none-of c m n k a b d (suc zero, within, is) = b (sym is)
none-of c m n k a b d (suc (suc zero), within, is) = d (sym is)
none-of c m n k a b d (suc (suc (suc i)), within, is) = absurd (omega (arith, within))

apart : (a b : ℕ) → (a < b) ⊎ (b < a) → a ≢ b
apart a b (inl h) e = absurd (omega (arith, e, h))
apart a b (inr h) e = absurd (omega (arith, e, h))

-- outside as_wide, whose columns are 7, 11 and 12
out-wide : (c : ℕ) → c ≢ 7 → c ≢ 11 → c ≢ 12 → IsIn c as_wide → ⊥
out-wide c a b d = none-of c (over_stay 1) (over_stay 2) (mark 3) a b d

-- outside at_stays, whose columns are 4, 8 and 12
out-stays : (c : ℕ) → c ≢ 4 → c ≢ 8 → c ≢ 12 → IsIn c at_stays → ⊥
out-stays c a b d = none-of c (mark 1) (mark 2) (mark 3) a b d

-- ---- the corner where the view is as wide as the window

-- the equations of the rows and the stays
record Equations (v : Fraction) (y : ℕ → ℤ) : Type 0 where
  width : pos v.den *ℤ y 4 +ℤ (neg_ℤ (pos v.den) *ℤ y 5 +ℤ (neg_ℤ v.num *ℤ y one_column +ℤ ((pos v.den *ℤ pos 1) *ℤ y (attr_column 1) +ℤ pos 0))) ≡ pos 0
  view : pos 1 *ℤ y 8 +ℤ (negsuc 0 *ℤ y 9 +ℤ (pos 0 *ℤ y one_column +ℤ (negsuc 0 *ℤ y (attr_column 1) +ℤ (pos 1 *ℤ y (attr_column 2) +ℤ pos 0)))) ≡ pos 0
  bound : pos 1 *ℤ y 12 +ℤ (negsuc 0 *ℤ y 13 +ℤ (negsuc 149 *ℤ y one_column +ℤ (pos 1 *ℤ y (attr_column 2) +ℤ pos 0))) ≡ pos 0
  stay1 : pos 1 *ℤ y 6 +ℤ (negsuc 0 *ℤ y 7 +ℤ (negsuc 99 *ℤ y one_column +ℤ (pos 1 *ℤ y (attr_column 1) +ℤ pos 0))) ≡ pos 0
  stay2 : pos 1 *ℤ y 10 +ℤ (negsuc 0 *ℤ y 11 +ℤ (negsuc 99 *ℤ y one_column +ℤ (pos 1 *ℤ y (attr_column 2) +ℤ pos 0))) ≡ pos 0

equations : (v : Fraction) (at : List Mark) (y : Point) → StandsAt (bent_at v) at y → Equations v y.num
equations v at y h =
    let e = recursion_from_All (λ l. value_at y.num (equation l) ≡ pos 0) (lines (bent_at v)) h.0 in
    record { width = e.0; view = e.1.0; bound = e.1.1.0; stay1 = e.1.1.1.0; stay2 = e.1.1.1.1.0 }

record WideZeros (y : ℕ → ℤ) : Type 0 where
  u1 : y 4 ≡ pos 0
  o1 : y 5 ≡ pos 0
  u2 : y 8 ≡ pos 0
  o2 : y 9 ≡ pos 0
  o3 : y 13 ≡ pos 0
  p1 : y 6 ≡ pos 0
  p2 : y 10 ≡ pos 0

wide-zeros : (v : Fraction) (y : Point) → StandsAt (bent_at v) as_wide y → WideZeros y.num
wide-zeros v y h =
    let z = recursion_from_All (λ m. (IsIn (place m) as_wide → ⊥) → y.num (place m) ≡ pos 0) (marks_of (lines (bent_at v))) h.1 in
    record {
      u1 = z.0 (out-wide 4 (apart 4 7 (inl (omega arith))) (apart 4 11 (inl (omega arith))) (apart 4 12 (inl (omega arith))));
      o1 = z.1.0 (out-wide 5 (apart 5 7 (inl (omega arith))) (apart 5 11 (inl (omega arith))) (apart 5 12 (inl (omega arith))));
      u2 = z.1.1.0 (out-wide 8 (apart 8 7 (inr (omega arith))) (apart 8 11 (inl (omega arith))) (apart 8 12 (inl (omega arith))));
      o2 = z.1.1.1.0 (out-wide 9 (apart 9 7 (inr (omega arith))) (apart 9 11 (inl (omega arith))) (apart 9 12 (inl (omega arith))));
      o3 = z.1.1.1.1.1.0 (out-wide 13 (apart 13 7 (inr (omega arith))) (apart 13 11 (inr (omega arith))) (apart 13 12 (inr (omega arith))));
      p1 = z.1.1.1.1.1.1.0 (out-wide 6 (apart 6 7 (inl (omega arith))) (apart 6 11 (inl (omega arith))) (apart 6 12 (inl (omega arith))));
      p2 = z.1.1.1.1.1.1.1.1.0 (out-wide 10 (apart 10 7 (inr (omega arith))) (apart 10 11 (inl (omega arith))) (apart 10 12 (inl (omega arith))));
    }

-- the values at the corner with n points
record WideValues (n : ℕ) (y : ℕ → ℤ) : Type 0 where
  zeros : WideZeros y
  width : y (attr_column 1) ≡ pos n *ℤ y one_column
  view : y (attr_column 2) ≡ pos n *ℤ y one_column
  room : y 12 ≡ pos 150 *ℤ y one_column -ℤ pos n *ℤ y one_column
  over1 : y 7 ≡ pos n *ℤ y one_column -ℤ pos 100 *ℤ y one_column
  over2 : y 11 ≡ pos n *ℤ y one_column -ℤ pos 100 *ℤ y one_column

width-is : (n : ℕ) (u o one a : ℤ) → u ≡ pos 0 → o ≡ pos 0 → pos 1 *ℤ u +ℤ (neg_ℤ (pos 1) *ℤ o +ℤ (neg_ℤ (pos n) *ℤ one +ℤ ((pos 1 *ℤ pos 1) *ℤ a +ℤ pos 0))) ≡ pos 0 → a ≡ pos n *ℤ one
width-is n u o one a e f h = let t = neg-times (pos n) one in omega (arith, ints, e, f, h, t)

view-is : (u o one a b w : ℤ) → u ≡ pos 0 → o ≡ pos 0 → a ≡ w → pos 1 *ℤ u +ℤ (negsuc 0 *ℤ o +ℤ (pos 0 *ℤ one +ℤ (negsuc 0 *ℤ a +ℤ (pos 1 *ℤ b +ℤ pos 0)))) ≡ pos 0 → b ≡ w
view-is u o one a b w e f g h = omega (arith, ints, e, f, g, h)

room-is : (u o one b w : ℤ) → o ≡ pos 0 → b ≡ w → pos 1 *ℤ u +ℤ (negsuc 0 *ℤ o +ℤ (negsuc 149 *ℤ one +ℤ (pos 1 *ℤ b +ℤ pos 0))) ≡ pos 0 → u ≡ pos 150 *ℤ one -ℤ w
room-is u o one b w f g h = omega (arith, ints, f, g, h)

over-is : (u o one a w : ℤ) → u ≡ pos 0 → a ≡ w → pos 1 *ℤ u +ℤ (negsuc 0 *ℤ o +ℤ (negsuc 99 *ℤ one +ℤ (pos 1 *ℤ a +ℤ pos 0))) ≡ pos 0 → o ≡ w -ℤ pos 100 *ℤ one
over-is u o one a w e g h = omega (arith, ints, e, g, h)

wide-values : (n : ℕ) (y : Point) → StandsAt (bent_at (points n)) as_wide y → WideValues n y.num
wide-values n y h =
    let z = wide-zeros (points n) y h in
    let e = equations (points n) as_wide y h in
    let width = width-is n (y.num 4) (y.num 5) (y.num one_column) (y.num (attr_column 1)) z.u1 z.o1 e.width in
    let view = view-is (y.num 8) (y.num 9) (y.num one_column) (y.num (attr_column 1)) (y.num (attr_column 2)) (pos n *ℤ y.num one_column) z.u2 z.o2 width e.view in
    record {
      zeros = z;
      width = width;
      view = view;
      room = room-is (y.num 12) (y.num 13) (y.num one_column) (y.num (attr_column 2)) (pos n *ℤ y.num one_column) z.o3 view e.bound;
      over1 = over-is (y.num 6) (y.num 7) (y.num one_column) (y.num (attr_column 1)) (pos n *ℤ y.num one_column) z.p1 width e.stay1;
      over2 = over-is (y.num 10) (y.num 11) (y.num one_column) (y.num (attr_column 2)) (pos n *ℤ y.num one_column) z.p2 view e.stay2;
    }

abbrev wide_num : ℤ → ℤ → ℤ → ℕ → ℤ
wide_num room over width v = cond (nat_eq v 12) room (cond (nat_eq v 7) over (cond (nat_eq v 11) over (cond (nat_eq v (attr_column 1)) width (cond (nat_eq v (attr_column 2)) width (cond (nat_eq v one_column) (pos 1) (pos 0))))))

-- with 100 points, and with 150
abbrev at_100 : Point
at_100 = record { num = wide_num (pos 50) (pos 0) (pos 100); positive = record { lt = tt } }

abbrev at_150 : Point
at_150 = record { num = wide_num (pos 0) (pos 50) (pos 150); positive = record { lt = tt } }

stands-100 : StandsAt bent as_wide at_100
stands-100 = (
  All-from_recursion (λ l. value_at (wide_num (pos 50) (pos 0) (pos 100)) (equation l) ≡ pos 0) (lines bent) (refl, (refl, (refl, (refl, (refl, tt))))),
  All-from_recursion (λ m. (IsIn (place m) as_wide → ⊥) → wide_num (pos 50) (pos 0) (pos 100) (place m) ≡ pos 0) (marks_of (lines bent))
      ((λ o. refl), ((λ o. refl), ((λ o. refl), ((λ o. refl), ((λ o. absurd (o (2, omega arith, refl))), ((λ o. refl), ((λ o. refl), ((λ o. refl), ((λ o. refl), ((λ o. refl), tt)))))))))),
)

stands-150 : StandsAt (bent_at (points 150)) as_wide at_150
stands-150 = (
  All-from_recursion (λ l. value_at (wide_num (pos 0) (pos 50) (pos 150)) (equation l) ≡ pos 0) (lines (bent_at (points 150))) (refl, (refl, (refl, (refl, (refl, tt))))),
  All-from_recursion (λ m. (IsIn (place m) as_wide → ⊥) → wide_num (pos 0) (pos 50) (pos 150) (place m) ≡ pos 0) (marks_of (lines (bent_at (points 150))))
      ((λ o. refl), ((λ o. refl), ((λ o. refl), ((λ o. refl), ((λ o. refl), ((λ o. refl), ((λ o. refl), ((λ o. absurd (o (0, omega arith, refl))), ((λ o. refl), ((λ o. absurd (o (1, omega arith, refl))), tt)))))))))),
)

zero-agree : (y one : ℤ) → y ≡ pos 0 → pos 0 *ℤ one ≡ y *ℤ pos 1
zero-agree y one e = omega (arith, ints, e)

room-agree : (y one : ℤ) → y ≡ pos 150 *ℤ one -ℤ pos 100 *ℤ one → pos 50 *ℤ one ≡ y *ℤ pos 1
room-agree y one e = omega (arith, ints, e)

over-agree : (y one : ℤ) → y ≡ pos 100 *ℤ one -ℤ pos 100 *ℤ one → pos 0 *ℤ one ≡ y *ℤ pos 1
over-agree y one e = omega (arith, ints, e)

attr-agree : (y one : ℤ) → y ≡ pos 100 *ℤ one → pos 100 *ℤ one ≡ y *ℤ pos 1
attr-agree y one e = omega (arith, ints, e)

-- the three marks are different
apart-wide : AllPairs (λ (m n : Mark). place m ≢ place n) as_wide
apart-wide =
    AllPairs-cons (λ (m n : Mark). place m ≢ place n) (over_stay 1) (over_stay 2 ∷ mark 3 ∷ []) (All-from_recursion (λ (n : Mark). 7 ≢ place n) (over_stay 2 ∷ mark 3 ∷ []) (apart 7 11 (inl (omega arith)), (apart 7 12 (inl (omega arith)), tt)))
    (AllPairs-cons (λ (m n : Mark). place m ≢ place n) (over_stay 2) (mark 3 ∷ []) (All-from_recursion (λ (n : Mark). 11 ≢ place n) (mark 3 ∷ []) (apart 11 12 (inl (omega arith)), tt)) (λ i j d less within. absurd (omega (arith, less, within))))

wide-corner : IsCorner bent as_wide
wide-corner = record {
  count = refl;
  marks = All-from_recursion (λ m. Contains (map place (marks_of (lines bent))) (place m)) as_wide ((7, omega arith, refl), ((9, omega arith, refl), ((4, omega arith, refl), tt)));
  apart = apart-wide;
  point = at_100;
  stands = stands-100;
  marks_fixed = λ y h.
      let v = wide-values 100 y h in
      All-from_recursion (λ m. Agree (place m) at_100 y) (marks_of (lines bent)) (
        zero-agree (y.num 4) (y.num one_column) v.zeros.u1,
        (
          zero-agree (y.num 5) (y.num one_column) v.zeros.o1,
          (
            zero-agree (y.num 8) (y.num one_column) v.zeros.u2,
            (
              zero-agree (y.num 9) (y.num one_column) v.zeros.o2,
              (
                room-agree (y.num 12) (y.num one_column) v.room,
                (
                  zero-agree (y.num 13) (y.num one_column) v.zeros.o3,
                  (
                    zero-agree (y.num 6) (y.num one_column) v.zeros.p1,
                    (
                      over-agree (y.num 7) (y.num one_column) v.over1,
                      (zero-agree (y.num 10) (y.num one_column) v.zeros.p2, (over-agree (y.num 11) (y.num one_column) v.over2, tt)),
                    ),
                  ),
                ),
              ),
            ),
          ),
        ),
      );
  attrs_fixed = λ y h.
      let v = wide-values 100 y h in
      All-from_recursion (λ s. Agree (attr_column s.attr) at_100 y) bent.stays (attr-agree (y.num (attr_column 1)) (y.num one_column) v.width, (attr-agree (y.num (attr_column 2)) (y.num one_column) v.view, tt));
}

-- ---- where row 3 turns

fifty : pos 50 ≢ pos 0
fifty e = omega (arith, ints, e)

no-room-there : (y one : ℤ) → pos 0 <ℤ one → y ≡ pos 150 *ℤ one -ℤ pos 151 *ℤ one → y ≡ pos 0 → ⊥
no-room-there y one some e f = omega (arith, ints, some, e, f)

turns-at : Turns bent 1 as_wide (mark 3) (points 150)
turns-at = record {
  inside = (2, omega arith, refl);
  zero = (at_150, stands-150, refl);
  other = (points 100, omega arith, (at_100, stands-100, fifty));
}

-- wherever it is 0, there are 150 points
width-there : (d : ℕ) (n u o one a : ℤ) → u ≡ pos 0 → o ≡ pos 0 → pos d *ℤ u +ℤ (neg_ℤ (pos d) *ℤ o +ℤ (neg_ℤ n *ℤ one +ℤ ((pos d *ℤ pos 1) *ℤ a +ℤ pos 0))) ≡ pos 0 → pos d *ℤ a ≡ n *ℤ one
width-there d n u o one a e f h =
    let s : pos d *ℤ u ≡ pos 0 = ap (λ (z : ℤ). pos d *ℤ z) e ∙ mul-zero_ℤ (pos d) in
    let t : neg_ℤ (pos d) *ℤ o ≡ pos 0 = ap (λ (z : ℤ). neg_ℤ (pos d) *ℤ z) f ∙ mul-zero_ℤ (neg_ℤ (pos d)) in
    let k : (pos d *ℤ pos 1) *ℤ a ≡ pos d *ℤ a = ap (λ (z : ℤ). z *ℤ a) (let g : pos d *ℤ pos 1 ≡ pos d = omega (arith, ints) in g) in
    omega (arith, ints, h, s, t, k, neg-times n one)

attr-there : (u2 o2 u3 o3 one a b : ℤ) → u2 ≡ pos 0 → o2 ≡ pos 0 → u3 ≡ pos 0 → o3 ≡ pos 0 → pos 1 *ℤ u2 +ℤ (negsuc 0 *ℤ o2 +ℤ (pos 0 *ℤ one +ℤ (negsuc 0 *ℤ a +ℤ (pos 1 *ℤ b +ℤ pos 0)))) ≡ pos 0 → pos 1 *ℤ u3 +ℤ (negsuc 0 *ℤ o3 +ℤ (negsuc 149 *ℤ one +ℤ (pos 1 *ℤ b +ℤ pos 0))) ≡ pos 0 → a ≡ pos 150 *ℤ one
attr-there u2 o2 u3 o3 one a b e f g h k l = omega (arith, ints, e, f, g, h, k, l)

spread : (d m : ℕ) → pos d *ℤ (pos 150 *ℤ pos m) ≡ pos m *ℤ (pos 150 *ℤ pos d)
spread d m = simp ring (diff_eq _ _ _ _ (omega arith))

turned : (n : ℤ) (m : ℕ) → n *ℤ pos m ≡ pos m *ℤ n
turned n m = on_1 (λ n. n *ℤ pos m ≡ pos m *ℤ n) (λ a a'. simp ring (diff_eq _ _ _ _ (omega arith))) n

whole-there : (d : ℕ) (n one a : ℤ) → pos 0 <ℤ one → pos d *ℤ a ≡ n *ℤ one → a ≡ pos 150 *ℤ one → n ≡ pos 150 *ℤ pos d
whole-there d n one a some e f =
    let m = as-natural one some in
    cancel_mul m.0 n (pos 150 *ℤ pos d) m.1
    (sym (turned n m.0) ∙ ap (λ (z : ℤ). n *ℤ z) (sym m.2) ∙ sym e ∙ ap (λ (z : ℤ). pos d *ℤ z) (f ∙ ap (λ (z : ℤ). pos 150 *ℤ z) m.2) ∙ spread d m.0)

zero-there : (w : Fraction) → IsZeroAt bent 1 as_wide (mark 3) w → w.num ≡ pos 150 *ℤ pos w.den
zero-there w (x, stands, none) =
    let z = wide-zeros w x stands in
    let e = equations w as_wide x stands in
    whole-there w.den w.num (x.num one_column) (x.num (attr_column 1)) x.positive (width-there w.den w.num (x.num 4) (x.num 5) (x.num one_column) (x.num (attr_column 1)) z.u1 z.o1 e.width)
    (attr-there (x.num 8) (x.num 9) (x.num 12) (x.num 13) (x.num one_column) (x.num (attr_column 1)) (x.num (attr_column 2)) z.u2 z.o2 none z.o3 e.view e.bound)

not-large : (w : Fraction) → w.num ≡ pos 150 *ℤ pos w.den → IsTooLarge w → ⊥
not-large w e large = large (points 150) (whole_is_kept 150 (omega arith)) (let f : pos 150 *ℤ pos w.den ≡ w.num *ℤ pos 1 = omega (arith, ints, e) in f)

-- 50 points less
abbrev less_50 : Fraction
less_50 = record { num = negsuc 49; den = 1 }

less-kept : IsKept less_50
less-kept = record {
  lowest = record { above = omega arith; coprime = IsGcd-from_mod 50 1 1 (IsGcd-from_zero 1 (50 % 1) (omega arith)) };
  fits = record { num_fits = omega arith; den_fits = omega arith };
}

not-far : (w : Fraction) → w.num ≡ pos 150 *ℤ pos w.den → IsTooLarge (difference w (points 200)) → ⊥
not-far w e large =
    large less_50 less-kept
    (let f : negsuc 49 *ℤ pos (w.den * 1) ≡ (w.num *ℤ (pos 1 *ℤ pos 1) +ℤ negsuc 0 *ℤ (pos 200 *ℤ pos w.den)) *ℤ pos 1 = omega (arith, ints, e) in f)

fits : IsUnfitTurn bent 1 (points 100) (points 200) as_wide (mark 3) → ⊥
fits unfit =
    let e = zero-there unfit.w unfit.turns.zero in
    elim unfit.large [
      | inl large ↦ not-large unfit.w e large
      | inr far ↦ not-far unfit.w e far
    ]

-- ---- the corner where the attributes are at their stays' targets

no-view : (u o p q r s one a b : ℤ) → o ≡ pos 0 → p ≡ pos 0 → q ≡ pos 0 → r ≡ pos 0 → s ≡ pos 0 → pos 1 *ℤ u +ℤ (negsuc 0 *ℤ o +ℤ (pos 0 *ℤ one +ℤ (negsuc 0 *ℤ a +ℤ (pos 1 *ℤ b +ℤ pos 0)))) ≡ pos 0
    → pos 1 *ℤ p +ℤ (negsuc 0 *ℤ q +ℤ (negsuc 99 *ℤ one +ℤ (pos 1 *ℤ a +ℤ pos 0))) ≡ pos 0 → pos 1 *ℤ r +ℤ (negsuc 0 *ℤ s +ℤ (negsuc 99 *ℤ one +ℤ (pos 1 *ℤ b +ℤ pos 0))) ≡ pos 0 → u ≡ pos 0
no-view u o p q r s one a b e f g h i k l m = omega (arith, ints, e, f, g, h, i, k, l, m)

record StayZeros (y : ℕ → ℤ) : Type 0 where
  o2 : y 9 ≡ pos 0
  o3 : y 13 ≡ pos 0
  p1 : y 6 ≡ pos 0
  q1 : y 7 ≡ pos 0
  p2 : y 10 ≡ pos 0
  q2 : y 11 ≡ pos 0

stay-zeros : (v : Fraction) (y : Point) → StandsAt (bent_at v) at_stays y → StayZeros y.num
stay-zeros v y h =
    let z = recursion_from_All (λ m. (IsIn (place m) at_stays → ⊥) → y.num (place m) ≡ pos 0) (marks_of (lines (bent_at v))) h.1 in
    record {
      o2 = z.1.1.1.0 (out-stays 9 (apart 9 4 (inr (omega arith))) (apart 9 8 (inr (omega arith))) (apart 9 12 (inl (omega arith))));
      o3 = z.1.1.1.1.1.0 (out-stays 13 (apart 13 4 (inr (omega arith))) (apart 13 8 (inr (omega arith))) (apart 13 12 (inr (omega arith))));
      p1 = z.1.1.1.1.1.1.0 (out-stays 6 (apart 6 4 (inr (omega arith))) (apart 6 8 (inl (omega arith))) (apart 6 12 (inl (omega arith))));
      q1 = z.1.1.1.1.1.1.1.0 (out-stays 7 (apart 7 4 (inr (omega arith))) (apart 7 8 (inl (omega arith))) (apart 7 12 (inl (omega arith))));
      p2 = z.1.1.1.1.1.1.1.1.0 (out-stays 10 (apart 10 4 (inr (omega arith))) (apart 10 8 (inr (omega arith))) (apart 10 12 (inl (omega arith))));
      q2 = z.1.1.1.1.1.1.1.1.1.0 (out-stays 11 (apart 11 4 (inr (omega arith))) (apart 11 8 (inr (omega arith))) (apart 11 12 (inl (omega arith))));
    }

never : Turns bent 1 at_stays (mark 2) (points 150) → ⊥
never turns =
    let x = turns.other.2.0 in
    let z = stay-zeros turns.other.0 x turns.other.2.1 in
    let e = equations turns.other.0 at_stays x turns.other.2.1 in
    turns.other.2.2 (no-view (x.num 8) (x.num 9) (x.num 6) (x.num 7) (x.num 10) (x.num 11) (x.num one_column) (x.num (attr_column 1)) (x.num (attr_column 2)) z.o2 z.p1 z.q1 z.p2 z.q2 e.view e.stay1 e.stay2)

same-room : (u o p q one b : ℤ) → pos 0 <ℤ one → u ≡ pos 0 → o ≡ pos 0 → p ≡ pos 0 → q ≡ pos 0 → pos 1 *ℤ u +ℤ (negsuc 0 *ℤ o +ℤ (negsuc 149 *ℤ one +ℤ (pos 1 *ℤ b +ℤ pos 0))) ≡ pos 0 → pos 1 *ℤ p +ℤ (negsuc 0 *ℤ q +ℤ (negsuc 99 *ℤ one +ℤ (pos 1 *ℤ b +ℤ pos 0))) ≡ pos 0 → ⊥
same-room u o p q one b some e f g h k l = omega (arith, ints, some, e, f, g, h, k, l)

same : Turns bent 1 at_stays (mark 3) (points 150) → ⊥
same turns =
    let x = turns.zero.0 in
    let z = stay-zeros (points 150) x turns.zero.1 in
    let e = equations (points 150) at_stays x turns.zero.1 in
    same-room (x.num 12) (x.num 13) (x.num 10) (x.num 11) (x.num one_column) (x.num (attr_column 2)) x.positive turns.zero.2 z.o3 z.p2 z.q2 e.bound e.stay2

pub some_turn : SomeTurn
some_turn = record {
  corner = wide-corner;
  at = turns-at;
  elsewhere = λ turns. no-room-there (turns.zero.0.num 12) (turns.zero.0.num one_column) turns.zero.0.positive (wide-values 151 turns.zero.0 turns.zero.1).room turns.zero.2;
  never = never;
  same = same;
  fits = fits;
}
