-- A line that no placed level names at a level has no multiplier there.
use Rattle.std.proofs.Common.{◌≡◌, ℕ, zero, suc, ◌+◌, ◌-◌, ◌<◌, Bool, true, false, ◌&&◌, nat_eq, List, [], ◌∷◌, map, length, get_or, pos, refl, sym, ap, subst, ◌∙◌, inl, inr, arith, eq-eqb}
use Rattle.std.specs.List.{list_any}
use Rattle.std.proofs.lemmas.Bool.{cases_lt, cases_order, eqb-false}
use Rattle.std.proofs.lemmas.List.{length-map}
use Rattle.std.proofs.Math.ListN.{get_or-eq_default}
use Rattle.problem_core.specs.declared.parts.RowName.TheVariants.{Held}
use Rattle.problem_core.specs.declared.parts.Level.{Level}
use Rattle.problem_core.specs.declared.parts.Level.TheVariants.{Priority, Stay as StayLevel}
use Rattle.problem_core.specs.declared.parts.Stay.{Stay}
use Rattle.problem_core.specs.Layout.{Problem, HasStay}
use Rattle.problem_core.specs.Kept.{IsWhole, IsStay}
use Rattle.cert_core.specs.declared.by.By.{By}
use Rattle.cert_core.specs.Claims.{BestLevel, AreLevels, level_at, multipliers_of, bys_of, times_of}
use Rattle.cert_checker.specs.declared.sums.Weighted.{Weighted}
use Rattle.cert_checker.specs.declared.leveled.PlacedLevel.{PlacedLevel}
use Rattle.cert_checker.specs.LineSums.{line_count}
use Rattle.cert_checker.specs.LinePlaces.{name_at, AreWeighed}
use Rattle.cert_checker.specs.Certifying.{HasLevel}
use Rattle.cert_checker.specs.PlacedLevels.{IsPlaced, ArePlaced}
use Rattle.cert_checker.specs.Fronts.{names_line, seen_by}
use Rattle.cert_checker.proofs.Apart.{one-place, stays-apart}
use Rattle.cert_checker.proofs.Written.Weighing.{no_weight, same-length}
use Rattle.cert_checker.proofs.Written.Naming.{times-none, weighed-name}
use Rattle.cert_checker.proofs.Certificates.Levels.{stay-level, low-level, priority-same, level-same, priority-stay, found-level, written-level, zip-at}
use Rattle.frac_core.proofs.Bools.{neither as none-either}
use Rattle.frac_core.proofs.Lists.{zip-length}

-- ---- tests

not_both : (a b : Bool) → (a && b) ≡ false → b ≡ true → a ≡ false
not_both true true e f = absurd (let g : true ≡ false = e in cc)
not_both true false e f = absurd (let g : false ≡ true = f in cc)
not_both false b e f = refl

any-false : {A : Type 0} (test : A → Bool) (xs : List A) (i : ℕ) (d : A) → list_any test xs ≡ false → i < length xs → test (get_or xs i d) ≡ false
any-false test [] i d e l = absurd (omega (arith, l))
any-false test (x ∷ xs) zero d e l = (none-either (test x) (list_any test xs) e).0
any-false test (x ∷ xs) (suc i) d e l = any-false test xs i d (none-either (test x) (list_any test xs) e).1 (omega (arith, l))

-- ---- a level has one place

high : (p : Problem) (k : ℕ) → 1000 < k → level_at p k ≡ StayLevel (get_or (map (λ s. s.attr) p.stays) (k - 1001) 0)
high p k l = ap (level_at p) (let e : k ≡ 1001 + (k - 1001) = omega (arith, l) in e) ∙ stay-level p (k - 1001)

stay-number : (p : Problem) → IsWhole p → (attr : ℕ) → HasStay p.stays attr → 0 < attr
stay-number p whole attr (k, s, l, is, e) =
    let number : IsStay (get_or p.stays k s) = whole.stays k s l in
    subst (λ (n : ℕ). 0 < n) (ap (λ (s : Stay). s.attr) is ∙ e) number.attr.0

-- the place of a held stay's attribute is below their count
inside : (p : Problem) → IsWhole p → (k attr : ℕ) → HasStay p.stays attr → get_or (map (λ s. s.attr) p.stays) k 0 ≡ attr → k < length p.stays
inside p whole k attr has e =
    elim (cases_lt k (length p.stays)) [
      | inl l ↦ l
      | inr l ↦
          let none : get_or (map (λ s. s.attr) p.stays) k 0 ≡ 0 = get_or-eq_default (map (λ s. s.attr) p.stays) 0 (omega (arith, l, length-map p.stays (λ (s : Stay). s.attr))) in
          absurd (omega (arith, none, e, stay-number p whole attr has))
    ]

stays-one : (p : Problem) → IsWhole p → (j k attr : ℕ) → HasStay p.stays attr → get_or (map (λ s. s.attr) p.stays) j 0 ≡ attr → get_or (map (λ s. s.attr) p.stays) k 0 ≡ attr → j ≡ k
stays-one p whole j k attr has e f =
    elim (cases_order j k) [
      | inl q ↦ q
      | inr q ↦ elim q [
        | inl l ↦ stays-apart p whole j k l (inside p whole k attr has f) (e ∙ sym f)
        | inr l ↦ sym (stays-apart p whole k j l (inside p whole j attr has e) (f ∙ sym e))
      ]
    ]

one-level : (p : Problem) → IsWhole p → (level : Level) → HasLevel p level → (j k : ℕ) → level_at p j ≡ level → level_at p k ≡ level → j ≡ k
one-level p whole level has j k e f =
    elim (cases_lt 1000 j) [
      | inl l ↦ elim (cases_lt 1000 k) [
        | inl m ↦
            let a : ℕ = get_or (map (λ s. s.attr) p.stays) (j - 1001) 0 in
            let held : HasStay p.stays (get_or (map (λ s. s.attr) p.stays) (j - 1001) 0) = subst (HasLevel p) (sym e ∙ high p j l) has in
            let same = level-same (get_or (map (λ s. s.attr) p.stays) (k - 1001) 0) (get_or (map (λ s. s.attr) p.stays) (j - 1001) 0) (sym (high p k m) ∙ f ∙ sym e ∙ high p j l) in
            let places = stays-one p whole (j - 1001) (k - 1001) (get_or (map (λ s. s.attr) p.stays) (j - 1001) 0) held refl same in
            omega (arith, l, m, places)
        | inr m ↦ absurd (priority-stay (1000 - k) (get_or (map (λ s. s.attr) p.stays) (j - 1001) 0) (sym (low-level p k m) ∙ f ∙ sym e ∙ high p j l))
      ]
      | inr l ↦ elim (cases_lt 1000 k) [
        | inl m ↦ absurd (priority-stay (1000 - j) (get_or (map (λ s. s.attr) p.stays) (k - 1001) 0) (sym (low-level p j l) ∙ e ∙ sym f ∙ high p k m))
        | inr m ↦
            let same = priority-same (1000 - j) (1000 - k) (sym (low-level p j l) ∙ e ∙ sym f ∙ low-level p k m) in
            omega (arith, l, m, same)
      ]
    ]

-- ---- what is not seen

unnamed-zero : (p : Problem) → IsWhole p → (bys : List By) (ws : List Weighted) (at : ℕ) → AreWeighed p bys ws → at < line_count p → names_line at ws ≡ false → times_of bys (name_at p at) ≡ pos 0
unnamed-zero p whole bys ws at are below none =
    times-none bys (name_at p at)
    (λ j b l same.
    let m : j < length ws = omega (arith, l, same-length p bys ws are) in
    let place : (get_or ws j no_weight).at ≡ at = one-place p whole (get_or ws j no_weight).at at (Held 0) (are.below j no_weight m) below (sym (weighed-name p bys ws are j b m) ∙ same) in
    eqb-false (get_or ws j no_weight).at at (any-false (λ (w : Weighted). nat_eq w.at at) ws j no_weight none m) place)

pub unseen-zero : (p : Problem) → IsWhole p → (levels : List BestLevel) (placed : List PlacedLevel) → AreLevels levels → ArePlaced p levels placed → (at k : ℕ) → at < line_count p → seen_by placed at k ≡ false → (multipliers_of p levels).times k (name_at p at) ≡ pos 0
unseen-zero p whole levels [] ok are at k below unseen =
    elim (written-level levels (level_at p k)) [
      | inl (i, l, e) ↦ absurd (omega (arith, l, zip-length (IsPlaced p) levels [] are))
      | inr none ↦ ap (λ (bys : List By). times_of bys (name_at p at)) none.1
    ]
unseen-zero p whole levels (first ∷ placed) ok are at k below unseen =
    elim (written-level levels (level_at p k)) [
      | inl (i, l, e) ↦
          let d : BestLevel = record { level = Priority 0; scale = pos 0; by = [] } in
          let all : List PlacedLevel = first ∷ placed in
          let here : IsPlaced p (get_or levels i d) (get_or (first ∷ placed) i first) = zip-at (IsPlaced p) levels (first ∷ placed) i d first are l in
          let place : (get_or (first ∷ placed) i first).level ≡ k = one-level p whole (get_or levels i d).level here.balances.level (get_or (first ∷ placed) i first).level k here.place (sym (e d)) in
          let found = found-level levels i d l (λ j k d m n. ok.apart j k d m n) in
          let short : i < length (first ∷ placed) = omega (arith, l, zip-length (IsPlaced p) levels (first ∷ placed) are) in
          let none : names_line at (get_or (first ∷ placed) i first).weighted.items ≡ false =
          not_both _ _ (any-false (λ (q : PlacedLevel). names_line at q.weighted.items && nat_eq k q.level) (first ∷ placed) i first unseen short) (eq-eqb k (get_or (first ∷ placed) i first).level (sym place)) in
          ap (λ (bys : List By). times_of bys (name_at p at)) (ap (bys_of levels) (sym (e d)) ∙ found.1)
          ∙ unnamed-zero p whole (get_or levels i d).by (get_or (first ∷ placed) i first).weighted.items at here.weighted below none
      | inr none ↦ ap (λ (bys : List By). times_of bys (name_at p at)) none.1
    ]
