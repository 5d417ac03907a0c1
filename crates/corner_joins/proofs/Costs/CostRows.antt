-- The rows of levels' costs that the code makes where a line joins.
use Rattle.std.proofs.Common.{◌≡◌, ◌∙◌, inl, inr, ℕ, Bool, cond, nat_eq, List, [], ◌∷◌, sym, ap, ap₂, arith, ℤ, pos, ◌+ℤ◌, ◌*ℤ◌, true, false}
use Rattle.std.proofs.lemmas.Bool.{cases_Bool}
use Rattle.std.proofs.lemmas.Bool.Decides.{nat_tests}
use Rattle.frac_core.proofs.Integers.{mul-zero_ℤ, add-zero_ℤ}
use Rattle.row_core.specs.Rows.{Term, coefficient, combination, IsReduced, IsUnfit}
use Rattle.row_core.specs.Combinations.{combination_but}
use Rattle.row_core.specs.declared.entry.Factors.{Factors}
use Rattle.row_core.specs.declared.entry.Patch.{Patch}
use Rattle.row_core.proofs.Lowest.{reduced_same, unfit_same}
use Rattle.corner_table.specs.Tables.{Lists, entry, row_at, slot_at}
use Rattle.corner_joins.specs.Additions.CostJoins.{AreShareFactors, AreUnitFactors, IsInUnit, IsShare, IsShared, IsUnitPart, shared_whole, unit_whole}
use Rattle.frac_core.proofs.Numbers.{one-times as one-time, times-one}

-- ---- with the share

no-extra : (b : Bool) (z e : ℤ) → e ≡ pos 0 → z +ℤ cond b e (pos 0) ≡ z
no-extra true z e h = ap (λ (x : ℤ). z +ℤ x) h ∙ add-zero_ℤ z
no-extra false z e h = add-zero_ℤ z

shared-is : (t : Lists) (old p : List Term) (line : ℕ) (times : ℤ) (k : ℕ) (by : Factors) (but : Patch) → but.without.0 ≡ line → but.extra ≡ pos 0 → row_at t line ≡ p → by.k ≡ pos k *ℤ times
    → (c : ℕ) → combination_but by old p but c ≡ shared_whole t old line times k by.n c
shared-is t old p line times k by but w x row e c =
    ap (λ (z : ℤ). cond (nat_eq c but.without.0) (pos 0) z) (no-extra (nat_eq c but.at.0) (combination by.k old by.n p c) but.extra x)
    ∙ ap (λ (n : ℕ). cond (nat_eq c n) (pos 0) (combination by.k old by.n p c)) w
    ∙ ap₂ (λ (y : ℤ) (q : List Term). cond (nat_eq c line) (pos 0) (y *ℤ coefficient c old +ℤ by.n *ℤ coefficient c q)) e (sym row)

share-is : (t : Lists) (old : List Term) (line : ℕ) (count times own line_own : ℤ) (by : Factors) → own ≡ coefficient (slot_at t line).home old → line_own ≡ entry t line line → (f : AreShareFactors own line_own count times by) → IsShare t old line count f.k by.n
share-is t old line count times own line_own by e g f = record {
  above = f.above;
  same = ap (λ (z : ℤ). by.n *ℤ z) (sym g) ∙ f.same ∙ ap (λ (z : ℤ). (z *ℤ count) *ℤ pos f.k) e;
}

pub shared_row : (t : Lists) (old p row : List Term) (line : ℕ) (count times own line_own : ℤ) (by : Factors) (but : Patch) → IsReduced row (combination_but by old p but) → but.without.0 ≡ line → but.extra ≡ pos 0 → row_at t line ≡ p
    → own ≡ coefficient (slot_at t line).home old → line_own ≡ entry t line line → AreShareFactors own line_own count times by → IsShared t old line count times row
shared_row t old p row line count times own line_own by but red w x there e g f =
    (f.k, by.n, share-is t old line count times own line_own by e g f, reduced_same row (combination_but by old p but) (shared_whole t old line times f.k by.n) (shared-is t old p line times f.k by but w x there f.k_is) red)

pub unfit_share : (t : Lists) (old p : List Term) (line : ℕ) (count times own line_own : ℤ) (by : Factors) (but : Patch) → IsUnfit (combination_but by old p but) → but.without.0 ≡ line → but.extra ≡ pos 0 → row_at t line ≡ p
    → own ≡ coefficient (slot_at t line).home old → line_own ≡ entry t line line → AreShareFactors own line_own count times by → (k : ℕ) × (n : ℤ) × IsShare t old line count k n × IsUnfit (shared_whole t old line times k n)
unfit_share t old p line count times own line_own by but unfit w x there e g f =
    (f.k, by.n, share-is t old line count times own line_own by e g f, unfit_same (combination_but by old p but) (shared_whole t old line times f.k by.n) (shared-is t old p line times f.k by but w x there f.k_is) unfit)

-- ---- in the new unit

one-at : (l c : ℕ) → coefficient c (record { col = l; by = pos 1 } ∷ []) ≡ cond (nat_eq l c) (pos 1) (pos 0)
one-at l c = add-zero_ℤ (cond (nat_eq l c) (pos 1) (pos 0))

unit-cases : (l c : ℕ) (k n own : ℤ) (row : List Term) → k *ℤ coefficient c row +ℤ n *ℤ cond (nat_eq l c) (pos 1) (pos 0) ≡ cond (nat_eq c l) (k *ℤ coefficient l row +ℤ n) (k *ℤ coefficient c row)
unit-cases l c k n own row =
    elim (cases_Bool (nat_eq c l)) [
      | inl i ↦
          let e : c ≡ l = grind (arith, nat_tests) in
          let j : nat_eq l c ≡ true = grind (arith, nat_tests) in
          ap (λ (b : Bool). k *ℤ coefficient c row +ℤ n *ℤ cond b (pos 1) (pos 0)) j ∙ ap₂ (λ (d : ℕ) (z : ℤ). k *ℤ coefficient d row +ℤ z) e (times-one n)
          ∙ sym (ap (λ (b : Bool). cond b (k *ℤ coefficient l row +ℤ n) (k *ℤ coefficient c row)) i)
      | inr i ↦
          let j : nat_eq l c ≡ false = grind (arith, nat_tests) in
          ap (λ (b : Bool). k *ℤ coefficient c row +ℤ n *ℤ cond b (pos 1) (pos 0)) j ∙ ap (λ (z : ℤ). k *ℤ coefficient c row +ℤ z) (mul-zero_ℤ n) ∙ add-zero_ℤ (k *ℤ coefficient c row)
          ∙ sym (ap (λ (b : Bool). cond b (k *ℤ coefficient l row +ℤ n) (k *ℤ coefficient c row)) i)
    ]

unit-is : (row one : List Term) (l : ℕ) (by : Factors) (k : ℕ) → one ≡ record { col = l; by = pos 1 } ∷ [] → by.k ≡ pos k → (c : ℕ) → combination by.k row by.n one c ≡ unit_whole row l k (pos k *ℤ coefficient l row +ℤ by.n) c
unit-is row one l by k o e c =
    ap₂ (λ (z : ℤ) (p : List Term). z *ℤ coefficient c row +ℤ by.n *ℤ coefficient c p) e o ∙ ap (λ (z : ℤ). pos k *ℤ coefficient c row +ℤ by.n *ℤ z) (one-at l c) ∙ unit-cases l c (pos k) by.n (pos 0) row

part-is : (row : List Term) (l : ℕ) (own times : ℤ) (by : Factors) → own ≡ coefficient l row → (f : AreUnitFactors own times by) → IsUnitPart row l times f.k (pos f.k *ℤ coefficient l row +ℤ by.n)
part-is row l own times by e f = record {
  above = f.above;
  same = ap (λ (z : ℤ). (pos f.k *ℤ z +ℤ by.n) *ℤ times) (sym e) ∙ f.same ∙ ap (λ (z : ℤ). pos f.k *ℤ z) e;
}

pub unit_row : (row one new : List Term) (l : ℕ) (own times : ℤ) (by : Factors) → IsReduced new (combination by.k row by.n one) → one ≡ record { col = l; by = pos 1 } ∷ [] → own ≡ coefficient l row → AreUnitFactors own times by → IsInUnit row l times new
unit_row row one new l own times by red o e f =
    (f.k, pos f.k *ℤ coefficient l row +ℤ by.n, part-is row l own times by e f, reduced_same new (combination by.k row by.n one) (unit_whole row l f.k (pos f.k *ℤ coefficient l row +ℤ by.n)) (unit-is row one l by f.k o f.k_is) red)

pub unfit_unit : (row one : List Term) (l : ℕ) (own times : ℤ) (by : Factors) → IsUnfit (combination by.k row by.n one) → one ≡ record { col = l; by = pos 1 } ∷ [] → own ≡ coefficient l row → AreUnitFactors own times by
    → (k : ℕ) × (z : ℤ) × IsUnitPart row l times k z × IsUnfit (unit_whole row l k z)
unfit_unit row one l own times by unfit o e f =
    (f.k, pos f.k *ℤ coefficient l row +ℤ by.n, part-is row l own times by e f, unfit_same (combination by.k row by.n one) (unit_whole row l f.k (pos f.k *ℤ coefficient l row +ℤ by.n)) (unit-is row one l by f.k o f.k_is) unfit)

same-cond : (l c : ℕ) (row : List Term) → pos 1 *ℤ coefficient c row ≡ cond (nat_eq c l) (coefficient l row) (pos 1 *ℤ coefficient c row)
same-cond l c row =
    elim (cases_Bool (nat_eq c l)) [
      | inl i ↦
          let e : c ≡ l = grind (arith, nat_tests) in
          one-time (coefficient c row) ∙ ap (λ (d : ℕ). coefficient d row) e ∙ sym (ap (λ (b : Bool). cond b (coefficient l row) (pos 1 *ℤ coefficient c row)) i)
      | inr i ↦ sym (ap (λ (b : Bool). cond b (coefficient l row) (pos 1 *ℤ coefficient c row)) i)
    ]

pub same_unit : (row : List Term) (l : ℕ) (times : ℤ) → times ≡ pos 1 → IsInUnit row l times row
same_unit row l times e =
    (1, coefficient l row, record { above = omega arith; same = ap (λ (z : ℤ). coefficient l row *ℤ z) e ∙ times-one (coefficient l row) ∙ sym (one-time (coefficient l row)) }, record { factor = 1; above = omega arith; same = λ c. same-cond l c row })
