-- Lists without one of their elements.
use Rattle.std.proofs.Common.{◌≡◌, ◌≢◌, ◌∙◌, ℕ, zero, suc, ◌+◌, ◌<◌, ◌≤◌, ◌++◌, List, [], ◌∷◌, map, length, take, slice_index_or, refl, sym, ap, subst, arith, inl, inr, All, Contains, slice_get, Some}
use Rattle.std.specs.List.{AllByRecursion as Each}
use Rattle.std.proofs.lemmas.List.Elements.{All-contains, All-from_recursion}
use Rattle.std.proofs.lemmas.Bool.Decides.{eqb_tells}
use Rattle.problem_core.specs.declared.parts.Mark.{Mark}
use Rattle.problem_core.specs.declared.parts.RowName.{RowName}
use Rattle.problem_core.specs.Corners.{HasNegativeColumn}
use Rattle.corner_table.specs.declared.table.Table.{Table}
use Rattle.corner_view.specs.Seen.{HasNoNegative, IsNamed}
use Rattle.row_core.specs.Rows.{Term}
use Rattle.version_lists.specs.Lists.{HasColumn}
use Rattle.version_lists.proofs.Relisting.{has_cases, has_left, has_right}
use Rattle.corner_table.specs.declared.table.TheConstants.{LEVELS}
use Rattle.corner_table.specs.Tables.{IsListedOf, lists_of, marks_at, problem_of, slot_at}
use Rattle.corner_table.specs.Kept.{IsSlot}
use Rattle.corner_table.specs.Reads.Listing.{IsListed, IsListedBut, IsWithout}
use Rattle.corner_table.specs.Invariants.{IsConsistent, name_of, names_of}

pub further : {X : Type 0} (x : X) (xs : List X) (y : X) → Contains xs y → Contains (x ∷ xs) y
further x xs y (k, within, is) = (suc k, omega (arith, within), is)

pub record IsImage {X Y : Type 0} (f : X → Y) (xs : List X) (y : Y) : Type 0 where
  pub of : X
  pub has : Contains xs of
  pub is : f of ≡ y

pub from_map : {X Y : Type 0} (f : X → Y) (xs : List X) (y : Y) → Contains (map f xs) y → IsImage f xs y
from_map f [] y (k, within, is) = absurd (omega (arith, within))
from_map f (x ∷ xs) y (zero, within, is) = record { of = x; has = (0, omega arith, refl); is = is }
from_map f (x ∷ xs) y (suc k, within, is) =
    let i = from_map f xs y (k, omega (arith, within), is) in
    record { of = i.of; has = further x xs i.of i.has; is = i.is }

pub to_map : {X Y : Type 0} (f : X → Y) (xs : List X) (x : X) → Contains xs x → Contains (map f xs) (f x)
to_map f [] x (k, within, is) = absurd (omega (arith, within))
to_map f (w ∷ xs) x (zero, within, is) = (0, omega arith, ap f is)
to_map f (w ∷ xs) x (suc k, within, is) = further (f w) (map f xs) (f x) (to_map f xs x (k, omega (arith, within), is))

each_from : {X : Type 0} (P : X → Type 0) (xs : List X) → ((x : X) → Contains xs x → P x) → Each P xs
each_from P [] h = tt
each_from P (x ∷ xs) h = (h x (0, omega arith, refl), each_from P xs (λ y c. h y (further x xs y c)))

pub all_from : {X : Type 0} (P : X → Type 0) (xs : List X) → ((x : X) → Contains xs x → P x) → All P xs
all_from P xs h = All-from_recursion P xs (each_from P xs h)

pub get_mapped : {X Y : Type 0} (f : X → Y) (xs : List X) (i : ℕ) (d : X) → i < length xs → slice_get (map f xs) i ≡ Some (f (slice_index_or xs i d))
get_mapped f [] i d lt = absurd (omega (arith, lt))
get_mapped f (x ∷ xs) zero d lt = refl
get_mapped f (x ∷ xs) (suc i) d lt = get_mapped f xs i d (omega (arith, lt))

-- ---- the listed lines without one

left_candidate : (t : Table) (listed new : List ℕ) (line : ℕ) → IsWithout line listed new
    → HasNoNegative (problem_of (lists_of t)) (marks_at (lists_of t)) (name_of (slot_at (lists_of t) line).owner)
    → (m : Mark) → HasNegativeColumn (problem_of (lists_of t)) (marks_at (lists_of t)) m
    → IsImage (λ w. name_of (slot_at (lists_of t) w).owner) listed m.row → Contains (names_of (lists_of t) new) m.row
left_candidate t listed new line less none m negative i =
    elim (eqb_tells i.of line) [
      | inl (e, same) ↦ absurd (subst (λ (r : RowName). HasNoNegative (problem_of (lists_of t)) (marks_at (lists_of t)) r) (ap (λ w. name_of (slot_at (lists_of t) w).owner) (sym same) ∙ i.is) none m.side negative)
      | inr (e, other) ↦ subst (λ (r : RowName). Contains (names_of (lists_of t) new) r) i.is (to_map (λ w. name_of (slot_at (lists_of t) w).owner) new i.of (less.keeps i.of other i.has))
    ]

-- a line neither of whose marks has a negative column need not be listed
pub unlist_kept : (t : Table) (listed new : List ℕ) (line : ℕ) → IsConsistent t listed → IsWithout line listed new
    → HasNoNegative (problem_of (lists_of t)) (marks_at (lists_of t)) (name_of (slot_at (lists_of t) line).owner)
    → IsConsistent t new
unlist_kept t listed new line k less none = record {
  alike = k.alike;
  before = k.before;
  kept = k.kept;
  slots = all_from (IsSlot (lists_of t)) new (λ w c. All-contains (IsSlot (lists_of t)) listed w k.slots (less.others w c));
  named = all_from (IsNamed (problem_of (lists_of t))) (names_of (lists_of t) new) (λ name c.
      let i = from_map (λ w. name_of (slot_at (lists_of t) w).owner) new name c in
      subst (IsNamed (problem_of (lists_of t))) i.is
      (All-contains (IsNamed (problem_of (lists_of t))) (names_of (lists_of t) listed) (name_of (slot_at (lists_of t) i.of).owner) k.named
      (to_map (λ w. name_of (slot_at (lists_of t) w).owner) listed i.of (less.others i.of i.has))));
  candidates = λ m out negative. left_candidate t listed new line less none m negative
      (from_map (λ w. name_of (slot_at (lists_of t) w).owner) listed m.row (k.candidates m out negative));
}

-- ---- the lines of a row

-- one term more, of a line that is listed
pub one_listed : (w : ℕ) (row : List Term) (t : Term) (old mid new : List ℕ) → IsListedOf w row old mid → LEVELS ≤ t.col → t.col ≢ w → IsListed t.col mid new → IsListedOf w (row ++ t ∷ []) old new
one_listed w row t old mid new h le ne listed = record {
  keeps = λ c k. listed.keeps c (h.keeps c k);
  has = λ c above other is. elim (has_cases c row (t ∷ []) is) [
    | inl k ↦ listed.keeps c (h.has c above other k)
    | inr k ↦ subst (λ n. Contains new n) (only_col c t k) listed.has
  ];
  others = λ c k. elim (listed.others c k) [
    | inl j ↦ elim (h.others c j) [
      | inl o ↦ inl o
      | inr (a, b, d) ↦ inr (a, b, has_left c row (t ∷ []) d)
    ]
    | inr e ↦ inr (subst (λ n. LEVELS ≤ n) (sym e) le, (λ z. ne (sym e ∙ z)), has_right c row (t ∷ []) (inl (sym e)))
  ];
}
  where
    only_col : (c : ℕ) (t : Term) → HasColumn c (t ∷ []) → t.col ≡ c
    only_col c t (inl e) = e
    only_col c t (inr k) = absurd k

-- one term more, of no line that is to be listed
pub one_passed : (w : ℕ) (row : List Term) (t : Term) (old mid : List ℕ) → IsListedOf w row old mid → (LEVELS ≤ t.col → t.col ≢ w → ⊥) → IsListedOf w (row ++ t ∷ []) old mid
one_passed w row t old mid h never = record {
  keeps = h.keeps;
  has = λ c above other is. elim (has_cases c row (t ∷ []) is) [
    | inl k ↦ h.has c above other k
    | inr k ↦ absurd (only_col c k above other)
  ];
  others = λ c k. elim (h.others c k) [
    | inl o ↦ inl o
    | inr (a, b, d) ↦ inr (a, b, has_left c row (t ∷ []) d)
  ];
}
  where
    only_col : (c : ℕ) → HasColumn c (t ∷ []) → LEVELS ≤ c → c ≢ w → ⊥
    only_col c (inl e) above other = never (subst (λ n. LEVELS ≤ n) (sym e) above) (λ z. other (sym e ∙ z))
    only_col c (inr k) above other = k

pub one_gone : (w : ℕ) (row : List Term) (t : Term) (old mid new : List ℕ) → IsListedOf w row old mid → IsListedBut w t.col mid new → IsListedOf w (row ++ t ∷ []) old new
one_gone w row t old mid new h (inl (le, ne, listed)) = one_listed w row t old mid new h le ne listed
one_gone w row t old mid new h (inr (never, same)) = subst (IsListedOf w (row ++ t ∷ []) old) (sym same) (one_passed w row t old mid h never)

pub take_next : {X : Type 0} (xs : List X) (k : ℕ) (x : X) → k < length xs → slice_index_or xs k x ≡ x → take (k + 1) xs ≡ take k xs ++ (x ∷ [])
take_next [] k x lt e = absurd (omega (arith, lt))
take_next (y ∷ xs) zero x lt e = ap (λ u. u ∷ []) e
take_next (y ∷ xs) (suc k) x lt e =
    let n : suc (k + 1) ≡ suc k + 1 = omega arith in
    subst (λ j. take j (y ∷ xs) ≡ y ∷ (take k xs ++ (x ∷ []))) n (ap (λ us. y ∷ us) (take_next xs k x (omega (arith, lt)) e))

pub take_all : {X : Type 0} (xs : List X) (k : ℕ) → length xs ≤ k → take k xs ≡ xs
take_all [] zero le = refl
take_all [] (suc k) le = refl
take_all (x ∷ xs) zero le = absurd (omega (arith, le))
take_all (x ∷ xs) (suc k) le = ap (λ us. x ∷ us) (take_all xs k (omega (arith, le)))
