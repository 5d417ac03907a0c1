-- What is used everywhere and says little: names in lists, an order of two numbers, an answer that is Ok.
use Rattle.std.proofs.Common.{◌≡◌, ℕ, ◌<◌, List, length, refl, slice_index_or, Any, ◌⊎◌, suc, ◌≤◌, arith, inl}
use Rattle.std.proofs.Common.{inr, zero, Result, Ok, Err, OnOk}
use Rattle.std.proofs.lemmas.List.{get_or_default}
use Rattle.problem_core.specs.Layout.{Line, HasStay}
use Rattle.problem_core.specs.declared.parts.Stay.{Stay}

-- a line has its own name
pub own_name : (ls : List Line) (k : ℕ) (x : Line) → k < length ls → Any (λ l. l.name ≡ (slice_index_or ls k x).name) ls
own_name ls k x lt = (k, slice_index_or ls k x, lt, get_or_default ls k (slice_index_or ls k x) x lt, refl)

pub own_stay : (stays : List Stay) (k : ℕ) (x : Stay) → k < length stays → HasStay stays (slice_index_or stays k x).attr
own_stay stays k x lt = (k, slice_index_or stays k x, lt, get_or_default stays k (slice_index_or stays k x) x lt, refl)

next_or : (a b : ℕ) → (a < b) ⊎ (b ≤ a) → (suc a < suc b) ⊎ (suc b ≤ suc a)
next_or a b (inl h) = inl (omega (arith, h))
next_or a b (inr h) = inr (omega (arith, h))

pub below_or : (a b : ℕ) → (a < b) ⊎ (b ≤ a)
below_or a zero = inr (omega arith)
below_or zero (suc b) = inl (omega arith)
below_or (suc a) (suc b) = next_or a b (below_or a b)

pub on_ok : {A E : Type 0} (r : Result A E) (P Q : Type 0) → (P → Q) → OnOk r P → OnOk r Q
on_ok (Ok x) P Q f h = f h
on_ok (Err e) P Q f h = tt
