-- The attributes that have stays.
use Rattle.std.proofs.Common.{◌≡◌, ℕ, ◌<◌, ◌≤◌, List, [], ◌∷◌, ◌++◌, length, get_or, Bool, IsTrue, ◌↔◌, Ok, Err, Result, sym, ap, ◌∙◌, arith, refl, inl, inr}
use Rattle.std.specs.Prelude.{◌⊎◌, Contains, is_ok, MatchResult}
use Rattle.std.proofs.lemmas.Bool.{false≢true, cases_lt}
use Rattle.std.proofs.lemmas.List.{get_or_default}
use Rattle.std.proofs.lemmas.List.Elements.{Contains-append_left, Contains-push, Contains-get_or, All-push, All-weaker, All-contains}
use Rattle.problem_core.specs.declared.parts.Stay.{Stay}
use Rattle.problem_core.specs.Kept.{IsStay}
use Rattle.problem_reading.specs.Words.{words}
use Rattle.claim_writing.specs.Lines.{stay_words}
use Rattle.problem_reading.specs.Problems.{HasStayLine, IsStayOf, AreStayAttributes}
use Rattle.problem_reading.specs.Sets.{HaveSame}
use Rattle.problem_reading.proofs.Problems.Same.{same_stay}

not_there : (xs : List ℕ) (x i k : ℕ) → k < length xs → get_or xs k 0 ≡ x → ((j : ℕ) → j < i → get_or xs j 0 < x) → ((j : ℕ) → i ≤ j → j < length xs → x < get_or xs j 0) → ⊥
not_there xs x i k lt is below above = elim (cases_lt k i) [
  | inl left ↦ omega (arith, is, below k left)
  | inr right ↦ omega (arith, is, above k right lt)
]

-- what a search in sorted numbers tells
pub search_tells : (xs : List ℕ) (x : ℕ) (r : Result ℕ ℕ) (b : Bool) → b ≡ is_ok r
    → MatchResult r (λ i. (i < length xs) × (get_or xs i 0 ≡ x)) (λ i. (i ≤ length xs) × ((k : ℕ) → k < i → get_or xs k 0 < x) × ((k : ℕ) → i ≤ k → k < length xs → x < get_or xs k 0))
    → IsTrue b ↔ Contains xs x
search_tells xs x (Ok i) b is found = (λ yes. (i, found.0, get_or_default xs i x 0 found.0 ∙ found.1), λ has. is)
search_tells xs x (Err i) b is found = (
  λ yes. absurd (false≢true (sym is ∙ yes)),
  λ has. absurd (not_there xs x i has.0 has.1 (get_or_default xs has.0 0 x has.1 ∙ has.2) found.1 found.2),
)

-- ---- lines with stays

pub HasStayLine-left : (xs ys : List (List ℕ)) (attr : ℕ) → HasStayLine xs attr → HasStayLine (xs ++ ys) attr
HasStayLine-left [] ys attr has = absurd has
HasStayLine-left (x ∷ xs) ys attr (inl at) = inl at
HasStayLine-left (x ∷ xs) ys attr (inr has) = inr (HasStayLine-left xs ys attr has)

pub HasStayLine-right : (xs ys : List (List ℕ)) (attr : ℕ) → HasStayLine ys attr → HasStayLine (xs ++ ys) attr
HasStayLine-right [] ys attr has = has
HasStayLine-right (x ∷ xs) ys attr has = inr (HasStayLine-right xs ys attr has)

pub HasStayLine-cases : (xs ys : List (List ℕ)) (attr : ℕ) → HasStayLine (xs ++ ys) attr → HasStayLine xs attr ⊎ HasStayLine ys attr
HasStayLine-cases [] ys attr has = inr has
HasStayLine-cases (x ∷ xs) ys attr (inl at) = inl (inl at)
HasStayLine-cases (x ∷ xs) ys attr (inr has) = elim (HasStayLine-cases xs ys attr has) [
  | inl left ↦ inl (inr left)
  | inr right ↦ inr right
]

HasStayLine-one : (line : List ℕ) (attr : ℕ) → HasStayLine (line ∷ []) attr → IsStayOf line attr
HasStayLine-one line attr (inl at) = at
HasStayLine-one line attr (inr none) = absurd none

contains_more : (attrs : List ℕ) (a attr : ℕ) → a ≡ attr → Contains (attrs ++ a ∷ []) attr
contains_more attrs a attr same = rw (← same) (Contains-push attrs a)

stay_pushed : (line : List ℕ) (attrs : List ℕ) (s : Stay) (attr : ℕ) → IsStay s → words line ≡ stay_words s → IsStayOf line attr → Contains (attrs ++ s.attr ∷ []) attr
stay_pushed line attrs s attr is said at =
    let same : s ≡ at.0 = same_stay s at.0 is at.1.0 (sym said ∙ at.1.1) in
    contains_more attrs s.attr attr (ap (λ (t : Stay). t.attr) same ∙ at.2)

-- one line more, which is a stay, or isn't
pub attributes_more : (before : List (List ℕ)) (line : List ℕ) (attrs : List ℕ) (s : Stay) → IsStay s → words line ≡ stay_words s → AreStayAttributes before attrs → AreStayAttributes (before ++ line ∷ []) (attrs ++ s.attr ∷ [])
attributes_more before line attrs s is said are = record {
  each = All-push (HasStayLine (before ++ line ∷ [])) attrs s.attr
      (All-weaker (HasStayLine before) (HasStayLine (before ++ line ∷ [])) (λ a has. HasStayLine-left before (line ∷ []) a has) attrs are.each)
      (HasStayLine-right before (line ∷ []) s.attr (inl (s, (is, said), refl)));
  all = λ attr has. elim (HasStayLine-cases before (line ∷ []) attr has) [
    | inl left ↦ Contains-append_left attrs (s.attr ∷ []) attr (are.all attr left)
    | inr right ↦ stay_pushed line attrs s attr is said (HasStayLine-one line attr right)
  ];
}

pub attributes_same : (before : List (List ℕ)) (line : List ℕ) (attrs : List ℕ) → ((s : Stay) → IsStay s → words line ≡ stay_words s → ⊥) → AreStayAttributes before attrs → AreStayAttributes (before ++ line ∷ []) attrs
attributes_same before line attrs none are = record {
  each = All-weaker (HasStayLine before) (HasStayLine (before ++ line ∷ [])) (λ a has. HasStayLine-left before (line ∷ []) a has) attrs are.each;
  all = λ attr has. elim (HasStayLine-cases before (line ∷ []) attr has) [
    | inl left ↦ are.all attr left
    | inr right ↦ (let at = HasStayLine-one line attr right in absurd (none at.0 at.1.0 at.1.1))
  ];
}

has_of : (lines : List (List ℕ)) (attrs : List ℕ) (attr : ℕ) → AreStayAttributes lines attrs → Contains attrs attr → HasStayLine lines attr
has_of lines attrs attr are has = All-contains (HasStayLine lines) attrs attr are.each has

pub attributes_sorted : (lines : List (List ℕ)) (attrs sorted : List ℕ) → AreStayAttributes lines attrs → HaveSame attrs sorted → AreStayAttributes lines sorted
attributes_sorted lines attrs sorted are same = record {
  each = λ k d lt. has_of lines attrs (get_or sorted k d) are (same.back (get_or sorted k d) (Contains-get_or sorted k d lt));
  all = λ attr has. same.forth attr (are.all attr has);
}
