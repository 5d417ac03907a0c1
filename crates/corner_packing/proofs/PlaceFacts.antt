-- The places of the slots, one more at a time.
use Rattle.std.proofs.Common.{◌≡◌, ◌⊎◌, ◌∙◌, ℕ, ◌+◌, ◌<◌, ◌≤◌, ◌++◌, List, [], ◌∷◌, length, refl, sym, arith, inl, inr, subst}
use Rattle.std.proofs.lemmas.List.{get_or_append_left, get_or_push, get_or_past, length-append}
use Rattle.std.proofs.lemmas.Bool.Decides.{eqb_tells, leb_tells}
use Rattle.row_core.specs.Renames.{place_in}
use Rattle.corner_packing.specs.Places.{AreDense}

-- a number below i + 1 is below i, or is i
pub below_or : (w i : ℕ) → w < i + 1 → (w < i) ⊎ (w ≡ i)
below_or w i lt = elim (eqb_tells w i) [
  | inl (e, same) ↦ inr same
  | inr (e, other) ↦ inl (omega (arith, lt, other))
]

pub before_place : (places : List ℕ) (c i w : ℕ) → length places ≡ i → w < i → place_in (places ++ c ∷ []) w ≡ place_in places w
before_place places c i w e lt = get_or_append_left places (c ∷ []) 0 w (omega (arith, e, lt))

pub last_place : (places : List ℕ) (c i w : ℕ) → length places ≡ i → w ≡ i → place_in (places ++ c ∷ []) w ≡ c
last_place places c i w e is = get_or_push places c 0 w (e ∙ sym is)

pub no_place : (places : List ℕ) (w : ℕ) → length places ≤ w → place_in places w ≡ 0
no_place places w le = get_or_past places w 0 le

one_longer : (places : List ℕ) (c i : ℕ) → length places ≡ i → length (places ++ c ∷ []) ≡ i + 1
one_longer places c i e = omega (arith, length-append places (c ∷ []), e)

low_next : (places : List ℕ) (c i w : ℕ) → length places ≡ i → place_in places w ≤ w → c ≤ i → place_in (places ++ c ∷ []) w ≤ w
low_next places c i w e low few = elim (leb_tells (i + 1) w) [
  | inl (t, le) ↦
      let long = one_longer places c i e in
      let never = no_place (places ++ c ∷ []) w (omega (arith, long, le)) in
      omega (arith, never)
  | inr (t, lt) ↦ elim (below_or w i lt) [
    | inl below ↦ let is = before_place places c i w e below in omega (arith, is, low)
    | inr same ↦ let is = last_place places c i w e same in omega (arith, is, same, few)
  ]
]

-- one more that is kept
pub place_more : (P : ℕ → Type 0) (first i : ℕ) (places : List ℕ) (count : ℕ) → AreDense P first i places count → P i → AreDense P first (i + 1) (places ++ count ∷ []) (count + 1)
place_more P first i places count h p = record {
  length_is = one_longer places count i h.length_is;
  own = λ w lt below. elim (below_or w i below) [
    | inl under ↦ before_place places count i w h.length_is under ∙ h.own w lt under
    | inr same ↦ let is = last_place places count i w h.length_is same in let n = h.all (omega (arith, lt, same)) in omega (arith, is, n, same)
  ];
  none = λ w below never. elim (below_or w i below) [
    | inl under ↦ before_place places count i w h.length_is under ∙ h.none w under never
    | inr same ↦ absurd (never (subst P (sym same) p))
  ];
  high = λ w below le held. elim (below_or w i below) [
    | inl under ↦ let is = before_place places count i w h.length_is under in let k = h.high w under le held in omega (arith, is, k)
    | inr same ↦ let is = last_place places count i w h.length_is same in let k = h.above (omega (arith, le, same)) in omega (arith, is, k)
  ];
  within = λ w below held. elim (below_or w i below) [
    | inl under ↦ let is = before_place places count i w h.length_is under in let k = h.within w under held in omega (arith, is, k)
    | inr same ↦ let is = last_place places count i w h.length_is same in omega (arith, is)
  ];
  low = λ w. low_next places count i w h.length_is (h.low w) h.few;
  rising = λ v w below lt first_held held. elim (below_or w i below) [
    | inl under ↦
        let is = before_place places count i w h.length_is under in
        let was = before_place places count i v h.length_is (omega (arith, under, lt)) in
        let k = h.rising v w under lt first_held held in
        omega (arith, is, was, k)
    | inr same ↦
        let is = last_place places count i w h.length_is same in
        let was = before_place places count i v h.length_is (omega (arith, same, lt)) in
        let k = h.within v (omega (arith, same, lt)) first_held in
        omega (arith, is, was, k)
  ];
  next = λ w below held more. elim (below_or (w + 1) i below) [
    | inl under ↦
        let is = before_place places count i (w + 1) h.length_is under in
        let was = before_place places count i w h.length_is (omega (arith, under)) in
        let k = h.next w under held more in
        omega (arith, is, was, k)
    | inr same ↦
        let is = last_place places count i (w + 1) h.length_is same in
        let was = before_place places count i w h.length_is (omega (arith, same)) in
        let k = h.last w same held in
        omega (arith, is, was, k)
  ];
  last = λ w same held. let is = last_place places count i w h.length_is (omega (arith, same)) in omega (arith, is);
  onto = λ v lt. elim (below_or v count lt) [
    | inl under ↦
        let (w, below, held, is) = h.onto v under in
        (w, omega (arith, below), held, before_place places count i w h.length_is below ∙ is)
    | inr same ↦ (i, omega arith, p, last_place places count i i h.length_is refl ∙ sym same)
  ];
  few = let k = h.few in omega (arith, k);
  all = λ le. let k = h.all (omega (arith, le)) in omega (arith, k);
  above = λ le. elim (leb_tells first i) [
    | inl (t, under) ↦ let k = h.above under in omega (arith, k)
    | inr (t, over) ↦ let k = h.all (omega (arith, over)) in omega (arith, k, le)
  ];
}

-- one more that is not kept
pub place_none : (P : ℕ → Type 0) (first i : ℕ) (places : List ℕ) (count : ℕ) → first ≤ i → AreDense P first i places count → (P i → ⊥) → AreDense P first (i + 1) (places ++ 0 ∷ []) count
place_none P first i places count past h never = record {
  length_is = one_longer places 0 i h.length_is;
  own = λ w lt below. let under : w < i = omega (arith, lt, past) in before_place places 0 i w h.length_is under ∙ h.own w lt under;
  none = λ w below free. elim (below_or w i below) [
    | inl under ↦ before_place places 0 i w h.length_is under ∙ h.none w under free
    | inr same ↦ last_place places 0 i w h.length_is same
  ];
  high = λ w below le held. let under = before_it w below held in let is = before_place places 0 i w h.length_is under in let k = h.high w under le held in omega (arith, is, k);
  within = λ w below held. let under = before_it w below held in let is = before_place places 0 i w h.length_is under in let k = h.within w under held in omega (arith, is, k);
  low = λ w. low_next places 0 i w h.length_is (h.low w) (omega arith);
  rising = λ v w below lt first_held held.
      let under = before_it w below held in
      let is = before_place places 0 i w h.length_is under in
      let was = before_place places 0 i v h.length_is (omega (arith, under, lt)) in
      let k = h.rising v w under lt first_held held in
      omega (arith, is, was, k);
  next = λ w below held more.
      let under = before_it (w + 1) below more in
      let is = before_place places 0 i (w + 1) h.length_is under in
      let was = before_place places 0 i w h.length_is (omega (arith, under)) in
      let k = h.next w under held more in
      omega (arith, is, was, k);
  last = λ w same held. absurd (never (subst P (omega (arith, same)) held));
  onto = λ v lt.
      let (w, below, held, is) = h.onto v lt in
      (w, omega (arith, below), held, before_place places 0 i w h.length_is below ∙ is);
  few = let k = h.few in omega (arith, k);
  all = λ le. absurd (omega (arith, le, past));
  above = λ le. h.above past;
}
  where
    before_it : (w : ℕ) → w < i + 1 → P w → w < i
    before_it w below held = elim (below_or w i below) [
      | inl under ↦ under
      | inr same ↦ absurd (never (subst P same held))
    ]

-- no place is given yet
pub no_places : (P : ℕ → Type 0) (first : ℕ) → AreDense P first 0 [] 0
no_places P first = record {
  length_is = refl;
  own = λ w lt below. absurd (omega (arith, below));
  none = λ w below never. absurd (omega (arith, below));
  high = λ w below le held. absurd (omega (arith, below));
  within = λ w below held. absurd (omega (arith, below));
  low = λ w. let never = no_place [] w (omega arith) in omega (arith, never);
  rising = λ v w below lt first_held held. absurd (omega (arith, below));
  next = λ w below held more. absurd (omega (arith, below));
  last = λ w same held. absurd (omega (arith, same));
  onto = λ v lt. absurd (omega (arith, lt));
  few = omega arith;
  all = λ le. refl;
  above = λ le. le;
}
