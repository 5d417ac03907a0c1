-- The least common multiple.
use Rattle.std.proofs.Common.{◌≡◌, ℕ, ◌+◌, ◌*◌, ◌/◌, ◌<◌, List, [], ◌∷◌, ◌++◌, map, length, take, get_or, sym, ap, subst, ◌∙◌, arith, mul-pos}
use Rattle.std.proofs.lemmas.List.{take_more, map-append, get_or_append_left, length-append}
use Rattle.std.proofs.lemmas.List.Elements.{All-nil, All-push, All-weaker}
use Rattle.std.proofs.lemmas.Nat.Gcd.{dvd_trans}
use Rattle.std.proofs.Math.Seq.{get_or-append_seam}
use Rattle.problem_core.specs.Common.{IsLeastCommon}
use Rattle.std.specs.Int.{◌∣◌}
use Rattle.std.proofs.Math.Nat.{one-dvd, dvd-mul_left, mul-dvd-mul_right, dvd_of_mul-dvd-mul_right, div-mul_cancel}
use Rattle.frac_core.proofs.Gauss.{Reduces, gauss}

swapped : (a b g : ℕ) → a * (b * g) ≡ b * (a * g)
swapped a b g = omega arith

same : (x y g : ℕ) → Reduces x y g → x / g * y ≡ y / g * x
same x y g r = ap (λ (t : ℕ). x / g * t) (sym r.den_is) ∙ swapped (x / g) (y / g) g ∙ ap (λ (t : ℕ). y / g * t) r.num_is

pub multiple-above : (x y g : ℕ) → 0 < x → 0 < y → Reduces x y g → 0 < x / g * y
multiple-above x y g some_x some_y r = rw (same x y g r) (mul-pos r.den_above some_x)

pub multiple-left : (x y g : ℕ) → Reduces x y g → x ∣ x / g * y
multiple-left x y g r = rw (same x y g r) (dvd-mul_left x (y / g))

pub multiple-right : (x y g : ℕ) → y ∣ x / g * y
multiple-right x y g = dvd-mul_left y (x / g)

regrouped : (k a g m : ℕ) → k * (a * g) ≡ m → m ≡ (a * k) * g
regrouped k a g m e = omega (arith, e)

pub multiple-least : (x y g : ℕ) → Reduces x y g → (m : ℕ) → x ∣ m → y ∣ m → x / g * y ∣ m
multiple-least x y g r m x_m y_m =
    let times : m / x * x ≡ m = div-mul_cancel x x_m in
    let parts : m / x * (x / g * g) ≡ m = ap (λ (t : ℕ). m / x * t) r.num_is ∙ times in
    let whole : m ≡ (x / g * (m / x)) * g = regrouped (m / x) (x / g) g m parts in
    let divides : y / g * g ∣ (x / g * (m / x)) * g = rw whole at (rw (sym r.den_is) at y_m) in
    let factor : y / g ∣ m / x = gauss (x / g) (y / g) (m / x) r.apart (dvd_of_mul-dvd-mul_right (y / g) r.g_above divides) in
    let scaled : y / g * x ∣ m / x * x = mul-dvd-mul_right (y / g) factor x in
    rw (same x y g r) (rw times at scaled)

-- ---- of a list

pub least-none : IsLeastCommon [] 1
least-none = record { above = omega arith; common = All-nil (λ x. x ∣ 1); least = λ m h. one-dvd m }

pub least-push : (xs : List ℕ) (x d e : ℕ) → IsLeastCommon xs d → 0 < e → d ∣ e → x ∣ e → ((m : ℕ) → d ∣ m → x ∣ m → e ∣ m) → IsLeastCommon (xs ++ x ∷ []) e
least-push xs x d e is above d_e x_e least = record {
  above = above;
  common = All-push (λ y. y ∣ e) xs x (All-weaker (λ y. y ∣ d) (λ y. y ∣ e) (λ y h. dvd_trans y h d_e) xs is.common) x_e;
  least = λ m all.
      let last : x ∣ m = subst (λ y. y ∣ m) (get_or-append_seam xs x [] x) (all (length xs) x (omega (arith, length-append xs (x ∷ [])))) in
      least m (is.least m (λ k t l. subst (λ y. y ∣ m) (get_or_append_left xs (x ∷ []) t k l) (all k t (omega (arith, l, length-append xs (x ∷ [])))))) last;
}

pub least-more : {A : Type 0} (f : A → ℕ) (xs : List A) (i : ℕ) (a : A) (d e : ℕ) → i < length xs → IsLeastCommon (map f (take i xs)) d → 0 < e → d ∣ e → f (get_or xs i a) ∣ e → ((m : ℕ) → d ∣ m → f (get_or xs i a) ∣ m → e ∣ m) → IsLeastCommon (map f (take (i + 1) xs)) e
least-more f xs i a d e l is above d_e x_e least =
    let more : map f (take (i + 1) xs) ≡ map f (take i xs) ++ f (get_or xs i a) ∷ [] = ap (map f) (take_more xs i a l) ∙ map-append f (take i xs) (get_or xs i a ∷ []) in
    rw more (least-push (map f (take i xs)) (f (get_or xs i a)) d e is above d_e x_e least)
