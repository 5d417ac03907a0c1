-- A whole problem is whole in each order of its stays.
use Rattle.std.proofs.Common.{◌≡◌, ◌≢◌, ℕ, ◌+◌, ◌≤◌, arith, Bool, true, false, cond, nat_eq, not, List, [], ◌∷◌, ◌++◌, refl, filter, length, sym, subst, inl, inr, ◌∙◌}
use Rattle.std.specs.List.{AllByRecursion as Each}
use Rattle.std.specs.Prelude.{All, AllPairs, Any}
use Rattle.std.proofs.lemmas.Bool.Decides.{eqb_tells}
use Rattle.std.proofs.lemmas.List.{length-append}
use Rattle.std.proofs.lemmas.List.Elements.{recursion_from_All, All-from_recursion}
use Rattle.std.proofs.lemmas.List.Filters.{length-filter_both}
use Rattle.std.proofs.lemmas.List.Kept.{AllPairs-cons, AllPairs-filter}
use Rattle.frac_core.proofs.Lists.{any-cases, any-here, any-later, each-joined, pairs-rest}
use Rattle.problem_core.proofs.Forms.{each-impl}
use Rattle.corner_laws.proofs.Counting.{head_pairs}
use Rattle.problem_core.specs.declared.parts.Stay.{Stay}
use Rattle.problem_core.specs.declared.parts.Term.{Term}
use Rattle.problem_core.specs.Kept.{IsStay, IsWhole}
use Rattle.problem_core.specs.Layout.{HasStay, IsCovered, Problem, Row}
use Rattle.stay_orders.specs.Orders.{fronted, is_of, with_first, with_front}
use Rattle.stay_orders.proofs.Orders.{front_each}
use Rattle.stay_orders.proofs.Corners.{front_back}

-- ---- some element

each_any : {A : Type 0} (P : A → Type 0) (xs : List A) → Each (λ x. P x → Any P xs) xs
each_any P [] = tt
each_any P (x ∷ xs) = ((λ h. any-here P x xs h), each-impl (λ y. P y → Any P xs) (λ y. P y → Any P (x ∷ xs)) xs (λ y f h. any-later P x xs (f h)) (each_any P xs))

any_elim : {A R : Type 0} (P : A → Type 0) (xs : List A) → Any P xs → Each (λ x. P x → R) xs → R
any_elim P [] (n, x, w, e, h) each = absurd (omega (arith, w))
any_elim P (x ∷ xs) h each = elim (any-cases P x xs h) [ inl here ↦ each.0 here | inr later ↦ any_elim P xs later each.1 ]

pub held_there : (attrs : List ℕ) (stays : List Stay) (attr : ℕ) → HasStay stays attr → HasStay (with_front attrs stays) attr
held_there attrs stays attr h = any_elim (λ s. s.attr ≡ attr) stays h
    (front_back (λ s. s.attr ≡ attr → HasStay (with_front attrs stays) attr) attrs stays (each_any (λ s. s.attr ≡ attr) (with_front attrs stays)))

-- ---- each once

known : {A : Type 0} (Q : A → Type 0) (x : A) (xs : List A) (b : Bool) → (b ≡ true → Q x) → Each Q xs → Each Q (cond b (x ∷ xs) xs)
known Q x xs true h rest = (h refl, rest)
known Q x xs false h rest = rest

pub passes : {A : Type 0} (f : A → Bool) (xs : List A) → Each (λ x. f x ≡ true) (filter f xs)
passes f [] = tt
passes f (x ∷ xs) = known (λ y. f y ≡ true) x (filter f xs) (f x) (λ e. e) (passes f xs)

pub same_number : (a b : ℕ) → nat_eq a b ≡ true → a ≡ b
same_number a b h = elim (eqb_tells a b) [ inl q ↦ q.1 | inr q ↦ absurd (let e : true ≡ false = sym h ∙ q.0 in cc) ]

pub other_number : (a b : ℕ) → not (nat_eq a b) ≡ true → a ≢ b
other_number a b h = elim (eqb_tells a b) [ inl q ↦ absurd (let e : not true ≡ true = subst (λ (c : Bool). not c ≡ true) q.0 h in cc) | inr q ↦ q.1 ]

pairs_joined : {A : Type 0} (R : A → A → Type 0) (xs ys : List A) → AllPairs R xs → AllPairs R ys → Each (λ x. Each (R x) ys) xs → AllPairs R (xs ++ ys)
pairs_joined R [] ys h g across = g
pairs_joined R (x ∷ xs) ys h g across = AllPairs-cons R x (xs ++ ys)
    (All-from_recursion (R x) (xs ++ ys) (each-joined (R x) xs ys (recursion_from_All (R x) xs (head_pairs R x xs h)) across.0))
    (pairs_joined R xs ys (pairs-rest R x xs h) g across.1)

abbrev Differ : Stay → Stay → Type 0
Differ s t = s.attr ≢ t.attr

first_apart : (attr : ℕ) (stays : List Stay) → AllPairs Differ stays → AllPairs Differ (with_first attr stays)
first_apart attr stays h =
    let own = filter (is_of attr) stays in
    let others = filter (λ s. not (is_of attr s)) stays in
    pairs_joined Differ own others (AllPairs-filter Differ (is_of attr) stays h) (AllPairs-filter Differ (λ s. not (is_of attr s)) stays h)
    (each-impl (λ s. is_of attr s ≡ true) (λ s. Each (Differ s) others) own
    (λ s is. each-impl (λ t. not (is_of attr t) ≡ true) (Differ s) others (λ t off e. other_number t.attr attr off (sym e ∙ same_number s.attr attr is)) (passes (λ t. not (is_of attr t)) stays))
    (passes (is_of attr) stays))

pub front_apart : (attrs : List ℕ) (stays : List Stay) → AllPairs Differ stays → AllPairs Differ (with_front attrs stays)
front_apart [] stays h = h
front_apart (attr ∷ attrs) stays h = first_apart attr (with_front attrs stays) (front_apart attrs stays h)

pub front_length : (attrs : List ℕ) (stays : List Stay) → length (with_front attrs stays) ≡ length stays
front_length [] stays = refl
front_length (attr ∷ attrs) stays =
    let rest = with_front attrs stays in
    length-append (filter (is_of attr) rest) (filter (λ s. not (is_of attr s)) rest)
    ∙ length-filter_both (is_of attr) (λ s. not (is_of attr s)) (λ s. refl) rest ∙ front_length attrs stays

-- ---- the whole

covered_there : (attrs : List ℕ) (stays : List Stay) (r : Row) → IsCovered stays r → IsCovered (with_front attrs stays) r
covered_there attrs stays r h = All-from_recursion (λ t. HasStay (with_front attrs stays) t.attr) r.terms
    (each-impl (λ t. HasStay stays t.attr) (λ t. HasStay (with_front attrs stays) t.attr) r.terms (λ t g. held_there attrs stays t.attr g)
    (recursion_from_All (λ t. HasStay stays t.attr) r.terms h))

pub whole_there : (attrs : List ℕ) (p : Problem) → IsWhole p → IsWhole (fronted attrs p)
whole_there attrs p is = record {
  rows = is.rows;
  stays = All-from_recursion IsStay (with_front attrs p.stays) (front_each IsStay attrs p.stays (recursion_from_All IsStay p.stays is.stays));
  rising = is.rising;
  apart = front_apart attrs p.stays is.apart;
  covered = All-from_recursion (IsCovered (with_front attrs p.stays)) p.rows
      (each-impl (IsCovered p.stays) (IsCovered (with_front attrs p.stays)) p.rows (covered_there attrs p.stays) (recursion_from_All (IsCovered p.stays) p.rows is.covered));
  row_count = is.row_count;
  stay_count = let e = front_length attrs p.stays in let h = is.stay_count in omega (arith, e, h);
}
