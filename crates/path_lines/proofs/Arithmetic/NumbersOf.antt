-- The numbers of lines by name.
use Rattle.std.proofs.Common.{◌≡◌, ◌∙◌, ℕ, zero, suc, ◌*◌, ◌<◌, Bool, true, false, cond, nat_eq, List, [], ◌∷◌, map, length, get_or, ℤ, pos, ◌+ℤ◌, ◌*ℤ◌, unsigned_abs, refl, sym, ap, ap₂, subst, arith, eq-eqb, ne_eqb}
use Rattle.std.specs.Int.{◌∣◌}
use Rattle.std.specs.List.{AllByRecursion as Each}
use Rattle.std.proofs.lemmas.List.Elements.{All-from_recursion, recursion_from_All}
use Rattle.std.proofs.lemmas.List.{length-map}
use Rattle.frac_core.proofs.Integers.{mul-zero_ℤ}
use Rattle.problem_core.specs.declared.parts.Side.TheVariants.{Under}
use Rattle.problem_core.specs.declared.parts.RowName.{RowName}
use Rattle.problem_core.specs.Layout.{Line, Problem, lines}
use Rattle.problem_core.specs.Kept.{IsWhole}
use Rattle.problem_core.specs.Corners.{place_of}
use Rattle.problem_core.proofs.Forms.{each-impl, each-both}
use Rattle.corner_laws.proofs.LinePlaces.{AllApart, AreApart, lines_apart}
use Rattle.corner_lines.specs.LineEquations.{AreReduced}
use Rattle.path_lines.specs.Numbers.{AreLowest, IsCombined}
use Rattle.path_lines.specs.Tables.{line_count, numbers_of}

-- ---- multiples and sums

times_cond : (b : Bool) (g x y z : ℤ) → z ≡ g *ℤ y → cond b (g *ℤ x) z ≡ g *ℤ cond b x y
times_cond true g x y z same = refl
times_cond false g x y z same = same

pub numbers-map : (g : ℤ) (ls : List Line) (zs : List ℤ) (name : RowName) → numbers_of ls (map (λ z. g *ℤ z) zs) name ≡ g *ℤ numbers_of ls zs name
numbers-map g [] zs name = sym (mul-zero_ℤ g)
numbers-map g (l ∷ ls) [] name = sym (mul-zero_ℤ g)
numbers-map g (l ∷ ls) (z ∷ zs) name = times_cond (nat_eq (place_of l.name Under) (place_of name Under)) g z (numbers_of ls zs name) (numbers_of ls (map (λ z. g *ℤ z) zs) name) (numbers-map g ls zs name)

sum_cond : (b : Bool) (k m w x y u v t : ℤ) → w ≡ k *ℤ x +ℤ m *ℤ y → t ≡ k *ℤ u +ℤ m *ℤ v → cond b w t ≡ k *ℤ cond b x u +ℤ m *ℤ cond b y v
sum_cond true k m w x y u v t here rest = here
sum_cond false k m w x y u v t here rest = rest

zero_sum : (k m : ℤ) → pos 0 ≡ k *ℤ pos 0 +ℤ m *ℤ pos 0
zero_sum k m = sym (ap₂ ◌+ℤ◌ (mul-zero_ℤ k) (mul-zero_ℤ m))

rest_combined : (k x : ℤ) (xs : List ℤ) (m y : ℤ) (ys : List ℤ) (z : ℤ) (zs : List ℤ) → IsCombined k (x ∷ xs) m (y ∷ ys) (z ∷ zs) → IsCombined k xs m ys zs
rest_combined k x xs m y ys z zs is = record {
  count = omega (arith, is.count);
  each = λ q less. is.each (suc q) (omega (arith, less));
}

pub numbers-combined : (k m : ℤ) (ls : List Line) (xs ys zs : List ℤ) (name : RowName) → length xs ≡ length ls → length ys ≡ length ls → IsCombined k xs m ys zs
    → numbers_of ls zs name ≡ k *ℤ numbers_of ls xs name +ℤ m *ℤ numbers_of ls ys name
numbers-combined k m [] xs ys zs name c d is = zero_sum k m
numbers-combined k m (l ∷ ls) [] ys zs name c d is = absurd (omega (arith, c))
numbers-combined k m (l ∷ ls) (x ∷ xs) [] zs name c d is = absurd (omega (arith, d))
numbers-combined k m (l ∷ ls) (x ∷ xs) (y ∷ ys) [] name c d is = absurd (omega (arith, is.count))
numbers-combined k m (l ∷ ls) (x ∷ xs) (y ∷ ys) (z ∷ zs) name c d is =
    sum_cond (nat_eq (place_of l.name Under) (place_of name Under)) k m z x y (numbers_of ls xs name) (numbers_of ls ys name) (numbers_of ls zs name)
    (is.each zero (omega arith))
    (numbers-combined k m ls xs ys zs name (omega (arith, c)) (omega (arith, d)) (rest_combined k x xs m y ys z zs is))

-- ---- each number is a line's

cond_true : (b : Bool) (x y : ℤ) → b ≡ true → cond b x y ≡ x
cond_true b x y same = ap (λ (c : Bool). cond c x y) same

cond_false : (b : Bool) (x y : ℤ) → b ≡ false → cond b x y ≡ y
cond_false b x y same = ap (λ (c : Bool). cond c x y) same

pub number_here : (l : Line) (ls : List Line) (z : ℤ) (zs : List ℤ) → numbers_of (l ∷ ls) (z ∷ zs) l.name ≡ z
number_here l ls z zs = cond_true (nat_eq (place_of l.name Under) (place_of l.name Under)) z (numbers_of ls zs l.name) (eq-eqb (place_of l.name Under) (place_of l.name Under) refl)

pub number_later : (l k : Line) (ls : List Line) (z : ℤ) (zs : List ℤ) → AreApart l k → numbers_of (l ∷ ls) (z ∷ zs) k.name ≡ numbers_of ls zs k.name
number_later l k ls z zs apart = cond_false (nat_eq (place_of l.name Under) (place_of k.name Under)) z (numbers_of ls zs k.name) (ne_eqb (place_of l.name Under) (place_of k.name Under) apart.under_under)

pub each_number : (P : ℤ → Type 0) (ls : List Line) (zs : List ℤ) → AllApart ls → length zs ≡ length ls → Each (λ l. P (numbers_of ls zs l.name)) ls → Each P zs
each_number P ls [] apart count all = tt
each_number P [] (z ∷ zs) apart count all = absurd (omega (arith, count))
each_number P (l ∷ ls) (z ∷ zs) apart count all = (
  subst P (number_here l ls z zs) all.0,
  each_number P ls zs apart.1 (omega (arith, count))
      (each-impl (λ k. AreApart l k × P (numbers_of (l ∷ ls) (z ∷ zs) k.name)) (λ k. P (numbers_of ls zs k.name)) ls
      (λ k h. subst P (number_later l k ls z zs h.0) h.1)
      (each-both (AreApart l) (λ k. P (numbers_of (l ∷ ls) (z ∷ zs) k.name)) ls apart.0 all.1)),
)

-- ---- lowest terms

pos-same : (a b : ℕ) → pos a ≡ pos b → a ≡ b
pos-same a b same = ap unsigned_abs same

pub reduced_numbers : (p : Problem) (own low : ℕ) (out part : List ℤ) → IsWhole p → length out ≡ line_count p → 0 < low → AreLowest (pos own) out (pos low) part
    → AreReduced (lines p) own (numbers_of (lines p) out) low (numbers_of (lines p) part)
reduced_numbers p own low out part whole count some are =
    let long : length part ≡ length (lines p) = sym (length-map part (λ (z : ℤ). pos are.factor *ℤ z)) ∙ ap length are.same ∙ count in
    record {
      factor = are.factor;
      factor_positive = are.above;
      low_positive = some;
      own_same = pos-same (are.factor * low) own are.own_is;
      same = λ k d within. sym (numbers-map (pos are.factor) (lines p) part (get_or (lines p) k d).name) ∙ ap (λ (zs : List ℤ). numbers_of (lines p) zs (get_or (lines p) k d).name) are.same;
      lowest = λ k d all.
          are.lowest k (
            d,
            All-from_recursion (λ z. k ∣ unsigned_abs z) part
                (each_number (λ z. k ∣ unsigned_abs z) (lines p) part (lines_apart p whole) long (recursion_from_All (λ l. k ∣ unsigned_abs (numbers_of (lines p) part l.name)) (lines p) all)),
          );
    }
