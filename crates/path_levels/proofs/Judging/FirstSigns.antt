-- The first number that isn't 0, by numbers of levels and by places.
use Rattle.std.proofs.Common.{◌≡◌, ◌≢◌, ◌∙◌, ◌⊎◌, ◌↔◌, ℕ, zero, suc, ◌<◌, Bool, IsTrue, ℤ, pos, negsuc, ◌<ℤ◌, ◌≤ℤ◌, sym, ap, subst, arith, rules, inl, inr}
use Rattle.std.proofs.lemmas.Bool.{cases_eq, cases_lt}
use lib.Signed.{lt_z}
use borrow.Author.Differences.{ints}
use Rattle.problem_core.specs.Corners.{IsLexNegative}
use Rattle.path_lines.proofs.Iffs.{never_true}
use Rattle.path_levels.specs.Costs.{IsNegativeFirst}
use Rattle.frac_core.proofs.Numbers.{low-or-up as sign-of}

-- ---- a number among others

abbrev pub Found : ℕ → (ℕ → ℕ) → ℕ → Type 0
Found count number z = ((k : ℕ) × (k < count) × (number k ≡ z)) ⊎ ((k : ℕ) → k < count → number k ≢ z)

pub find : (count : ℕ) (number : ℕ → ℕ) (z : ℕ) → Found count number z
find zero number z = inr (λ k less. absurd (omega (arith, less)))
find (suc count) number z =
    elim (cases_eq (number count) z) [
      | inl e ↦ inl (count, omega arith, e)
      | inr ne ↦ elim (find count number z) [
        | inl (k, within, e) ↦ inl (k, omega (arith, within), e)
        | inr none ↦
            inr (λ k less. elim (cases_eq k count) [
              | inl same ↦ subst (λ (j : ℕ). number j ≢ z) (sym same) ne
              | inr other ↦ none k (omega (arith, less, other))
            ])
      ]
    ]

abbrev pub IsRising : ℕ → (ℕ → ℕ) → Type 0
IsRising count number = (j k : ℕ) → j < k → k < count → number j < number k

pub before_less : (count : ℕ) (number : ℕ → ℕ) (j k : ℕ) → IsRising count number → j < count → number j < number k → j < k
before_less count number j k rising within less =
    elim (cases_lt j k) [
      | inl h ↦ h
      | inr from ↦ elim (cases_eq j k) [
        | inl same ↦ absurd (let e = ap number same in omega (arith, less, e))
        | inr other ↦ absurd (let h = rising k j (omega (arith, from, other)) within in omega (arith, h, less))
      ]
    ]

pub rising_same : (count : ℕ) (number : ℕ → ℕ) (j k : ℕ) → IsRising count number → j < count → k < count → number j ≡ number k → j ≡ k
rising_same count number j k rising here there same =
    elim (cases_lt j k) [
      | inl h ↦ absurd (let l = rising j k h there in omega (arith, l, same))
      | inr from ↦ elim (cases_lt k j) [
        | inl h ↦ absurd (let l = rising k j h here in omega (arith, l, same))
        | inr back ↦ omega (arith, from, back)
      ]
    ]

-- ---- the numbers of levels, and those by places

pub record ArePlacedCosts (count : ℕ) (number : ℕ → ℕ) (levels places : ℕ → ℤ) : Type 0 where
  pub rising : IsRising count number
  pub same : (k : ℕ) → k < count → levels (number k) ≡ places k
  pub others : (z : ℕ) → ((k : ℕ) × (k < count) × (number k ≡ z)) ⊎ (levels z ≡ pos 0)

not_low : (z : ℤ) → z ≡ pos 0 → z <ℤ pos 0 → ⊥
not_low z none low = omega (arith, ints, none, low)

pub first_by_places : (count : ℕ) (number : ℕ → ℕ) (levels places : ℕ → ℤ) → ArePlacedCosts count number levels places → IsLexNegative levels ↔ IsNegativeFirst count places
first_by_places count number levels places are = (
  λ lex. elim (are.others lex.0) [
    | inl (k, within, e) ↦
        record {
          place = k;
          within = within;
          before = λ j less. sym (are.same j (omega (arith, less, within))) ∙ lex.1 (number j) (let h = are.rising j k less within in omega (arith, h, e));
          below = subst (λ (z : ℤ). z <ℤ pos 0) (ap levels (sym e) ∙ are.same k within) lex.2;
        }
    | inr none ↦ absurd (not_low (levels lex.0) none lex.2)
  ],
  λ first. (
    number first.place,
    (λ z less. elim (are.others z) [
      | inl (j, within, e) ↦ ap levels (sym e) ∙ are.same j within ∙ first.before j (before_less count number j first.place are.rising within (omega (arith, less, e)))
      | inr none ↦ none
    ]),
    subst (λ (z : ℤ). z <ℤ pos 0) (sym (are.same first.place first.within)) first.below,
  ),
)

pub first_same : (count : ℕ) (costs others : ℕ → ℤ) → ((k : ℕ) → k < count → costs k ≡ others k) → IsNegativeFirst count costs → IsNegativeFirst count others
first_same count costs others same first = record {
  place = first.place;
  within = first.within;
  before = λ k less. sym (same k (let h = first.within in omega (arith, less, h))) ∙ first.before k less;
  below = subst (λ (z : ℤ). z <ℤ pos 0) (same first.place first.within) first.below;
}

-- ---- as a loop finds it

pub not_first : (count place : ℕ) (costs : ℕ → ℤ) → ((k : ℕ) → k < place → costs k ≡ pos 0) → costs place ≢ pos 0 → pos 0 ≤ℤ costs place → IsNegativeFirst count costs → ⊥
not_first count place costs before some up first =
    elim (cases_lt first.place place) [
      | inl less ↦ not_low (costs first.place) (before first.place less) first.below
      | inr from ↦ elim (cases_lt place first.place) [
        | inl more ↦ some (first.before place more)
        | inr back ↦
            let same : first.place ≡ place = omega (arith, from, back) in
            let low : costs place <ℤ pos 0 = subst (λ (k : ℕ). costs k <ℤ pos 0) same first.below in
            absurd (omega (arith, ints, low, up))
      ]
    ]

pub decided_first : (b : Bool) (count place : ℕ) (costs : ℕ → ℤ) → place < count → ((k : ℕ) → k < place → costs k ≡ pos 0) → costs place ≢ pos 0 → IsTrue b ↔ (costs place <ℤ pos 0) → IsTrue b ↔ IsNegativeFirst count costs
decided_first b count place costs within before some decides = (
  λ is. record { place = place; within = within; before = before; below = decides.0 is },
  λ first. elim (sign-of (costs place)) [
    | inl low ↦ decides.1 low
    | inr up ↦ absurd (not_first count place costs before some up first)
  ],
)

-- the sign of a number, as a test tells it
pub below_iff : (z y : ℤ) → y ≡ z → IsTrue (lt_z z (pos 0)) ↔ (y <ℤ pos 0)
below_iff (pos n) y e = (λ is. absurd (never_true (subst IsTrue (search rules) is)), λ low. absurd (omega (arith, ints, e, low)))
below_iff (negsuc n) y e = (λ is. omega (arith, ints, e), λ low. search rules)
