-- A list that is gone through in order, where each entry is replaced or stays.
use Rattle.std.proofs.Common.{◌≡◌, ◌∙◌, ℕ, ◌+◌, ◌<◌, ◌≤◌, List, set, get_or, length, sym, subst, subst₂, arith, inl, inr, refl, All, length-set, get_or-set_same, get_or-set_other}
use Rattle.std.proofs.lemmas.Bool.{cases_eq}
use Rattle.std.proofs.lemmas.List.Elements.{All-set}

-- the entries before the place are done, and the others as before
pub record AreDoneTo {X : Type 0} (Done : ℕ → X → X → Type 0) (Sized : X → Type 0) (old : List X) (at : ℕ) (out : List X) : Type 0 where
  pub count : length out ≡ length old
  pub sized : All Sized out
  pub done : (k : ℕ) (d : X) → k < at → Done k (get_or old k d) (get_or out k d)
  pub rest : (k : ℕ) (d : X) → at ≤ k → get_or out k d ≡ get_or old k d

pub none_done : {X : Type 0} (Done : ℕ → X → X → Type 0) (Sized : X → Type 0) (old : List X) → All Sized old → AreDoneTo Done Sized old 0 old
none_done Done Sized old sized = record {
  count = refl;
  sized = sized;
  done = λ k d less. absurd (omega (arith, less));
  rest = λ k d from. refl;
}

pub one_stays : {X : Type 0} (Done : ℕ → X → X → Type 0) (Sized : X → Type 0) (old out : List X) (at : ℕ) (x : X) → ((d : X) → x ≡ get_or out at d) → Done at x x → AreDoneTo Done Sized old at out → AreDoneTo Done Sized old (at + 1) out
one_stays Done Sized old out at x x_is here so_far = record {
  count = so_far.count;
  sized = so_far.sized;
  done = λ k d less. elim (cases_eq k at) [
    | inl e ↦ subst (λ (j : ℕ). Done j (get_or old j d) (get_or out j d)) (sym e) (subst₂ (Done at) (x_is d ∙ so_far.rest at d (omega arith)) (x_is d) here)
    | inr ne ↦ so_far.done k d (omega (arith, less, ne))
  ];
  rest = λ k d from. so_far.rest k d (omega (arith, from));
}

pub one_replaced : {X : Type 0} (Done : ℕ → X → X → Type 0) (Sized : X → Type 0) (old out : List X) (at : ℕ) (x y : X) → at < length old → ((d : X) → x ≡ get_or out at d) → Sized y → Done at x y → AreDoneTo Done Sized old at out → AreDoneTo Done Sized old (at + 1) (set out at y)
one_replaced {X = X} Done Sized old out at x y within x_is sized here so_far = record {
  count = length-set out at y ∙ so_far.count;
  sized = All-set Sized out at y sized so_far.sized;
  done = λ k d less. elim (cases_eq k at) [
    | inl e ↦
        subst (λ (j : ℕ). Done j (get_or old j d) (get_or (set out at y) j d)) (sym e)
        (subst₂ (Done at) (x_is d ∙ so_far.rest at d (omega arith)) (sym (get_or-set_same out at y d (omega (arith, within, so_far.count)))) here)
    | inr ne ↦ subst (λ (z : X). Done k (get_or old k d) z) (sym (get_or-set_other out at k y d ne)) (so_far.done k d (omega (arith, less, ne)))
  ];
  rest = λ k d from. get_or-set_other out at k y d (omega (arith, from)) ∙ so_far.rest k d (omega (arith, from));
}
