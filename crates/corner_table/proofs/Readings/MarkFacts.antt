-- The marks of a corner's lists.
use Rattle.std.proofs.Common.{◌≡◌, ℕ, zero, suc, Bool, true, false, cond, List, [], ◌∷◌, filter, sym, subst, arith, inl, inr}
use Rattle.std.proofs.lemmas.Bool.{cases_Bool}
use Rattle.problem_core.specs.declared.parts.Mark.{Mark}
use Rattle.problem_core.specs.Layout.{lines}
use Rattle.problem_core.specs.Corners.{IsIn, marks_of, place}
use Rattle.corner_view.specs.Seen.{IsMarkOf}
use Rattle.corner_table.specs.Tables.{Lists, marks_at, problem_of, stands_in}
use Rattle.frac_core.proofs.Bools.{not-both as not_both}
use Rattle.corner_view.proofs.Facts.{later, same_mark}

abbrev holds_if : Bool → Type 0
holds_if true = Unit {0}
holds_if false = ⊥

keep : (p : Mark → Bool) (m : Mark) (ms : List Mark) (P : List Mark → Type 0) → (p m ≡ true → P (m ∷ filter p ms)) → (p m ≡ false → P (filter p ms)) → P (filter p (m ∷ ms))
keep p m ms P passed other =
    elim (cases_Bool (p m)) [
      | inl e ↦ subst (λ (b : Bool). P (cond b (m ∷ filter p ms) (filter p ms))) (sym e) (passed e)
      | inr e ↦ subst (λ (b : Bool). P (cond b (m ∷ filter p ms) (filter p ms))) (sym e) (other e)
    ]

filter_keeps : (p : Mark → Bool) (ms : List Mark) (c : ℕ) → IsIn c ms → ((m : Mark) → place m ≡ c → p m ≡ true) → IsIn c (filter p ms)
filter_keeps p [] c (k, within, is) all = absurd (omega (arith, within))
filter_keeps p (m ∷ ms) c (zero, within, is) all = keep p m ms (IsIn c) (λ e. (0, omega arith, is)) (λ e. absurd (not_both (p m) (all m is) e))
filter_keeps p (m ∷ ms) c (suc k, within, is) all =
    let i = filter_keeps p ms c (k, omega (arith, within), is) all in
    keep p m ms (IsIn c) (λ e. later c m (filter p ms) i) (λ e. i)

pub record HasPassed (p : Mark → Bool) (c : ℕ) : Type 0 where
  pub mark : Mark
  pub place_is : place mark ≡ c
  pub passes : p mark ≡ true

head_or : (p : Mark → Bool) (m : Mark) (us : List Mark) (c : ℕ) → p m ≡ true → (IsIn c us → HasPassed p c) → IsIn c (m ∷ us) → HasPassed p c
head_or p m us c e rest (zero, within, is) = record { mark = m; place_is = is; passes = e }
head_or p m us c e rest (suc k, within, is) = rest (k, omega (arith, within), is)

filter_has : (p : Mark → Bool) (ms : List Mark) (c : ℕ) → IsIn c (filter p ms) → HasPassed p c
filter_has p [] c (k, within, is) = absurd (omega (arith, within))
filter_has p (m ∷ ms) c i =
    keep p m ms (λ us. IsIn c us → HasPassed p c)
    (λ e j. head_or p m (filter p ms) c e (filter_has p ms c) j)
    (λ e j. filter_has p ms c j) i

-- a mark is inside where the lists say so
pub inside_stands : (t : Lists) (m : Mark) → IsIn (place m) (marks_at t) → stands_in t m ≡ true
inside_stands t m i =
    let h = filter_has (stands_in t) (marks_of (lines (problem_of t))) (place m) i in
    subst (λ (n : Mark). stands_in t n ≡ true) (same_mark h.mark m h.place_is) h.passes

pub stands_inside : (t : Lists) (m : Mark) → IsMarkOf (problem_of t) m → stands_in t m ≡ true → IsIn (place m) (marks_at t)
stands_inside t m is h =
    filter_keeps (stands_in t) (marks_of (lines (problem_of t))) (place m) is (λ n e. subst (λ (k : Mark). stands_in t k ≡ true) (sym (same_mark n m e)) h)
