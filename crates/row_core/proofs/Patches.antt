-- The numbers of the sums that rows are made of.
use Rattle.std.proofs.Common.{◌≡◌, ℕ, ◌+ℤ◌, ◌*ℤ◌, Bool, true, false, cond, nat_eq, List, [], ℤ, pos, refl, ap, ◌∙◌, arith}
use borrow.Author.Differences.{ints}
use Rattle.frac_core.proofs.Integers.{add-zero_ℤ}
use Rattle.row_core.specs.declared.walk.Sum.{Sum}
use Rattle.row_core.specs.declared.entry.Factors.{Factors}
use Rattle.row_core.specs.declared.entry.Patch.{Patch}
use Rattle.row_core.specs.Rows.{Term, coefficient, combination}
use Rattle.row_core.specs.Combinations.{combination_but}
use Rattle.row_core.specs.Walks.{whole}

pub none_either : (b : Bool) → cond b (pos 0) (pos 0) ≡ pos 0
none_either true = refl
none_either false = refl

pub plain_is : (sum : Sum) (r p : List Term) (k n : ℤ) → sum.r.now ≡ r → sum.p.now ≡ p → sum.k ≡ k → sum.n ≡ n → sum.extra ≡ pos 0 → sum.leaves ≡ false → (c : ℕ) → whole sum c ≡ combination k r n p c
plain_is sum r p k n r_is p_is k_is n_is none stays c =
    rw (r_is, p_is, stays, none, k_is, n_is) (ap (λ (z : ℤ). combination k r n p c +ℤ z) (none_either (nat_eq c sum.at.0)) ∙ add-zero_ℤ (combination k r n p c))

pub patched_is : (sum : Sum) (r p : List Term) (by : Factors) (but : Patch) → sum.r.now ≡ r → sum.p.now ≡ p → sum.k ≡ by.k → sum.n ≡ by.n → sum.leaves ≡ true → sum.without ≡ but.without → sum.at ≡ but.at → sum.extra ≡ but.extra
    → (c : ℕ) → whole sum c ≡ combination_but by r p but c
patched_is sum r p by but r_is p_is k n leaves without at extra c = rw (r_is, p_is, leaves, without, at, extra, k, n) refl

one_time : (z : ℤ) → pos 1 *ℤ z +ℤ pos 0 *ℤ pos 0 ≡ z
one_time z = omega (arith, ints)

pub alone_is : (sum : Sum) (r : List Term) → sum.r.now ≡ r → sum.p.now ≡ [] → sum.k ≡ pos 1 → sum.n ≡ pos 0 → sum.extra ≡ pos 0 → sum.leaves ≡ false → (c : ℕ) → whole sum c ≡ coefficient c r
alone_is sum r r_is p_is k n none stays c = plain_is sum r [] (pos 1) (pos 0) r_is p_is k n none stays c ∙ one_time (coefficient c r)
