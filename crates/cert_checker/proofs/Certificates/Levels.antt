-- Levels at their places.
use Rattle.std.proofs.Common.{◌≡◌, ◌≢◌, ℕ, zero, suc, ◌+◌, ◌-◌, ◌<◌, ◌≤◌, Bool, true, false, cond, nat_lt, List, [], ◌∷◌, ◌++◌, map, length, take, get_or, pos, ◌*ℤ◌, nat_abs, refl, sym, ap, ap₂, subst, ◌∙◌, ◌⊎◌, inl, inr, arith, All, Contains, IsTrue, ◌↔◌, eq-eqb, ne_eqb}
use Rattle.std.proofs.lemmas.List.{get_or-map, get_or_default, take_more}
use Rattle.std.proofs.lemmas.Bool.{cases_lt, cases_eq}
use Rattle.std.proofs.lemmas.Bool.Decides.{nat_tests}
use Rattle.problem_core.specs.declared.parts.RowName.TheVariants.{Held, Stay as StayOf}
use Rattle.problem_core.specs.declared.parts.Level.{Level}
use Rattle.problem_core.specs.declared.parts.Level.TheVariants.{Priority, Stay as StayLevel}
use Rattle.problem_core.specs.declared.parts.Stay.{Stay}
use Rattle.problem_core.specs.declared.parts.Term.{Term}
use Rattle.problem_core.specs.Layout.{Problem, HasStay, lines, line_of_row, coefficient, sum_of}
use Rattle.problem_core.specs.Kept.{IsWhole}
use Rattle.problem_core.proofs.Forms.{each-impl}
use Rattle.problem_core.proofs.Corners.Conflicts.{sum-each}
use Rattle.problem_core.proofs.RowNames.{stay-same, held-not-stay}
use Rattle.std.proofs.lemmas.List.Elements.{recursion_from_All, Contains-get_or}
use Rattle.std.specs.List.{AllZip}
use Rattle.cert_checker.proofs.Written.Weighing.{no_weight, same-length, by-of}
use Rattle.cert_checker.proofs.Written.Naming.{weighed-name, times-found}
use Rattle.cert_core.specs.declared.by.By.{By}
use Rattle.cert_core.specs.Claims.{BestLevel, IsLevel, AreLevels, multipliers_of, level_at, same_level, scale_of, bys_of, times_of}
use Rattle.cert_checker.specs.declared.sums.Weighted.{Weighted}
use Rattle.cert_checker.specs.LineSums.{line_count, form_at}
use Rattle.cert_checker.specs.LinePlaces.{names, name_at, AreWeighed}
use Rattle.cert_checker.specs.PlacedLevels.{CancelAt, IsPlaced, ArePlaced}
use Rattle.cert_checker.specs.declared.leveled.PlacedLevel.{PlacedLevel}
use Rattle.cert_checker.specs.Fronts.{AreOfLevel}
use Rattle.cert_checker.proofs.Indexes.{row_name, stay_name, length-names, no_row, no_stay}
use Rattle.cert_checker.proofs.Refuted.{weighed-sum, form-of}
use Rattle.frac_core.proofs.Lists.{zip-push}

below-top : (k : ℕ) → k ≤ 1000 → nat_lt 1000 k ≡ false
below-top k h = grind (arith, nat_tests)

above-top : (k : ℕ) → nat_lt 1000 (1001 + k) ≡ true
above-top k = grind (arith, nat_tests)

pub low-level : (p : Problem) (k : ℕ) → k ≤ 1000 → level_at p k ≡ Priority (1000 - k)
low-level p k h = ap (λ (b : Bool). cond b (StayLevel (get_or (map (λ s. s.attr) p.stays) (k - 1001) 0)) (Priority (1000 - k))) (below-top k h)

pub priority-level : (p : Problem) (rank : ℕ) → rank ≤ 1000 → level_at p (1000 - rank) ≡ Priority rank
priority-level p rank h =
    ap (λ (b : Bool). cond b (StayLevel (get_or (map (λ s. s.attr) p.stays) (1000 - rank - 1001) 0)) (Priority (1000 - (1000 - rank)))) (below-top (1000 - rank) (omega arith))
    ∙ ap Priority (let e : 1000 - (1000 - rank) ≡ rank = omega (arith, h) in e)

pub stay-level : (p : Problem) (k : ℕ) → level_at p (1001 + k) ≡ StayLevel (get_or (map (λ s. s.attr) p.stays) k 0)
stay-level p k =
    ap (λ (b : Bool). cond b (StayLevel (get_or (map (λ s. s.attr) p.stays) (1001 + k - 1001) 0)) (Priority (1000 - (1001 + k)))) (above-top k)
    ∙ ap (λ (n : ℕ). StayLevel (get_or (map (λ s. s.attr) p.stays) n 0)) (let e : 1001 + k - 1001 ≡ k = omega arith in e)

-- the place of a stay's row is past the rows
pub past-rows : (p : Problem) (at attr : ℕ) → at < line_count p → name_at p at ≡ StayOf attr → (length p.rows ≤ at) × (get_or (map (λ s. s.attr) p.stays) (at - length p.rows) 0 ≡ attr)
past-rows p at attr l e =
    elim (cases_lt at (length p.rows)) [
      | inl m ↦ absurd (held-not-stay (get_or (map (λ r. r.id) p.rows) at 0) attr (sym (row_name p at (Held 0) m) ∙ e))
      | inr m ↦
          let j : at ≡ length p.rows + (at - length p.rows) = omega (arith, m) in
          (m, stay-same (get_or (map (λ s. s.attr) p.stays) (at - length p.rows) 0) attr (sym (stay_name p (at - length p.rows) (Held 0) (omega (arith, l, m))) ∙ ap (name_at p) (sym j) ∙ e))
    ]

pub stay-place : (p : Problem) (at attr : ℕ) → at < line_count p → name_at p at ≡ StayOf attr → level_at p (1001 + at - length p.rows) ≡ StayLevel attr
stay-place p at attr l e =
    let past = past-rows p at attr l e in
    ap (level_at p) (let q : 1001 + at - length p.rows ≡ 1001 + (at - length p.rows) = omega (arith, past.0) in q) ∙ stay-level p (at - length p.rows) ∙ ap StayLevel past.1

pub no-stay : (p : Problem) (attr : ℕ) → (Contains (names p) (StayOf attr) → ⊥) → HasStay p.stays attr → ⊥
no-stay p attr none (k, s, l, is, e) =
    let name : get_or (names p) (length p.rows + k) (StayOf attr) ≡ StayOf attr =
    stay_name p k (StayOf attr) l ∙ ap StayOf (get_or-map (λ (s : Stay). s.attr) p.stays k s 0 l ∙ ap (λ (s : Stay). s.attr) is ∙ e) in
    none (length p.rows + k, omega (arith, l, length-names p), name)

-- ---- the sums of a level

level-sum : (p : Problem) → IsWhole p → (bys : List By) (ws : List Weighted) → AreWeighed p bys ws → (v : ℕ) → sum_of (λ n. times_of bys n.name *ℤ coefficient v n.form) (lines p) ≡ sum_of (λ w. w.times *ℤ coefficient v (form_at p w.at)) ws
level-sum p whole bys ws are v =
    weighed-sum p whole bys ws are (λ l. coefficient v l.form) (line_of_row no_row)
    ∙ sum-each (λ (w : Weighted). w.times *ℤ coefficient v (get_or (lines p) w.at (line_of_row no_row)).form) (λ w. w.times *ℤ coefficient v (form_at p w.at)) ws
    (each-impl (λ w. w.at < line_count p) _ ws (λ w l. ap (λ (f : List Term). w.times *ℤ coefficient v f) (form-of p w.at (line_of_row no_row) l)) (recursion_from_All (λ w. w.at < line_count p) ws are.below))

pub level-cancel : (p : Problem) → IsWhole p → (l : BestLevel) (ws : List Weighted) → AreWeighed p l.by ws → (ok : Bool) → (IsTrue ok ↔ ((v : ℕ) → sum_of (λ w. w.times *ℤ coefficient v (form_at p w.at)) ws ≡ pos 0)) → IsTrue ok ↔ CancelAt p l
level-cancel p whole l ws are ok (f, g) = (λ h v. level-sum p whole l.by ws are v ∙ f h v, λ h. g (λ v. sym (level-sum p whole l.by ws are v) ∙ h v))

pub stay-has : (p : Problem) (at attr : ℕ) → at < line_count p → name_at p at ≡ StayOf attr → HasStay p.stays attr
stay-has p at attr l e =
    let past = past-rows p at attr l e in
    let below : at - length p.rows < length p.stays = omega (arith, l, past.0) in (
      at - length p.rows,
      get_or p.stays (at - length p.rows) no_stay,
      below,
      get_or_default p.stays (at - length p.rows) (get_or p.stays (at - length p.rows) no_stay) no_stay below,
      sym (get_or-map (λ (s : Stay). s.attr) p.stays (at - length p.rows) no_stay 0 below) ∙ past.1,
    )

-- what is weighed is in the problem
pub weighed-known : (p : Problem) (bys : List By) (ws : List Weighted) → AreWeighed p bys ws → All (λ b. Contains (names p) b.row) bys
weighed-known p bys ws are k d l =
    let m : k < length ws = omega (arith, l, same-length p bys ws are) in
    let n : (get_or ws k no_weight).at < length (names p) = omega (arith, are.below k no_weight m, length-names p) in
    subst (Contains (names p)) (sym (weighed-name p bys ws are k d m)) (Contains-get_or (names p) (get_or ws k no_weight).at (Held 0) n)

-- ---- lists of levels

pub zip-more : {A B : Type 0} (R : A → B → Type 0) (xs : List A) (ys : List B) (i : ℕ) (x : A) (y : B) → i < length xs → x ≡ get_or xs i x → AllZip R (take i xs) ys → R x y → AllZip R (take (i + 1) xs) (ys ++ y ∷ [])
zip-more {A = A} R xs ys i x y l is h r =
    subst (λ (zs : List A). AllZip R zs (ys ++ y ∷ [])) (ap (λ (a : A). take i xs ++ a ∷ []) is ∙ sym (take_more xs i x l)) (zip-push R (take i xs) ys x y h r)

-- ---- what is written for a level

same-level-true : (a b : Level) → a ≡ b → same_level a b ≡ true
same-level-true (Priority a) b e = subst (λ (l : Level). same_level (Priority a) l ≡ true) e (eq-eqb a a refl)
same-level-true (StayLevel a) b e = subst (λ (l : Level). same_level (StayLevel a) l ≡ true) e (eq-eqb a a refl)

same-level-false : (a b : Level) → a ≢ b → same_level a b ≡ false
same-level-false (Priority a) (Priority b) n = ne_eqb a b (λ e. n (ap Priority e))
same-level-false (Priority a) (StayLevel b) n = refl
same-level-false (StayLevel a) (Priority b) n = refl
same-level-false (StayLevel a) (StayLevel b) n = ne_eqb a b (λ e. n (ap StayLevel e))

pub found-level : (levels : List BestLevel) (i : ℕ) (d : BestLevel) → i < length levels → ((j k : ℕ) (d : BestLevel) → j < k → k < length levels → (get_or levels j d).level ≢ (get_or levels k d).level)
    → (scale_of levels (get_or levels i d).level ≡ nat_abs (get_or levels i d).scale) × (bys_of levels (get_or levels i d).level ≡ (get_or levels i d).by)
found-level [] i d l apart = absurd (omega (arith, l))
found-level (q ∷ levels) zero d l apart =
    let here = same-level-true q.level q.level refl in
    (ap (λ (b : Bool). cond b (nat_abs q.scale) (scale_of levels q.level)) here, ap (λ (b : Bool). cond b q.by (bys_of levels q.level)) here)
found-level (q ∷ levels) (suc i) d l apart =
    let other = same-level-false q.level (get_or levels i d).level (apart 0 (suc i) d (omega arith) (omega (arith, l))) in
    let rest = found-level levels i d (omega (arith, l)) (λ j k d m n. apart (suc j) (suc k) d (omega (arith, m)) (omega (arith, n))) in (
      ap (λ (b : Bool). cond b (nat_abs q.scale) (scale_of levels (get_or levels i d).level)) other ∙ rest.0,
      ap (λ (b : Bool). cond b q.by (bys_of levels (get_or levels i d).level)) other ∙ rest.1,
    )

-- a level is written, or nothing is written for it
level_number : Level → ℕ
level_number (Priority rank) = rank
level_number (StayLevel attr) = attr

pub priority-same : (a b : ℕ) → Priority a ≡ Priority b → a ≡ b
unfolding level_number
priority-same a b e = ap level_number e

pub level-same : (a b : ℕ) → StayLevel a ≡ StayLevel b → a ≡ b
unfolding level_number
level-same a b e = ap level_number e

pub priority-stay : (a b : ℕ) → Priority a ≡ StayLevel b → ⊥
priority-stay a b e = cc

same-level-cases : (a b : Level) → (a ≡ b) ⊎ (a ≢ b)
same-level-cases (Priority a) (Priority b) = elim (cases_eq a b) [ inl e ↦ inl (ap Priority e) | inr n ↦ inr (λ e. n (priority-same a b e)) ]
same-level-cases (Priority a) (StayLevel b) = inr (λ e. priority-stay a b e)
same-level-cases (StayLevel a) (Priority b) = inr (λ e. priority-stay b a (sym e))
same-level-cases (StayLevel a) (StayLevel b) = elim (cases_eq a b) [ inl e ↦ inl (ap StayLevel e) | inr n ↦ inr (λ e. n (level-same a b e)) ]

pub written-level : (levels : List BestLevel) (level : Level) → ((i : ℕ) × (i < length levels) × ((d : BestLevel) → (get_or levels i d).level ≡ level)) ⊎ ((scale_of levels level ≡ 1) × (bys_of levels level ≡ []))
written-level [] level = inr (refl, refl)
written-level (q ∷ levels) level =
    elim (same-level-cases q.level level) [
      | inl e ↦ inl (0, omega arith, λ d. e)
      | inr n ↦ elim (written-level levels level) [
        | inl (i, l, e) ↦ inl (suc i, omega (arith, l), e)
        | inr none ↦
            let other = same-level-false q.level level n in
            inr (ap (λ (b : Bool). cond b (nat_abs q.scale) (scale_of levels level)) other ∙ none.0, ap (λ (b : Bool). cond b q.by (bys_of levels level)) other ∙ none.1)
      ]
    ]

-- ---- the multipliers of a placed level

pub zip-at : {A B : Type 0} (R : A → B → Type 0) (xs : List A) (ys : List B) (i : ℕ) (a : A) (b : B) → AllZip R xs ys → i < length xs → R (get_or xs i a) (get_or ys i b)
zip-at R [] ys i a b h l = absurd (omega (arith, l))
zip-at R (x ∷ xs) [] i a b h l = absurd h
zip-at R (x ∷ xs) (y ∷ ys) zero a b h l = h.0
zip-at R (x ∷ xs) (y ∷ ys) (suc i) a b h l = zip-at R xs ys i a b h.1 (omega (arith, l))

pub placed-of : (p : Problem) (levels : List BestLevel) (placed : List PlacedLevel) → AreLevels levels → ArePlaced p levels placed → (i : ℕ) (l : BestLevel) (q : PlacedLevel) → i < length levels → AreOfLevel p (multipliers_of p levels) (get_or placed i q).level (get_or placed i q).scale (get_or placed i q).weighted.items
placed-of p levels placed ok are i l q below =
    let at : IsPlaced p (get_or levels i l) (get_or placed i q) = zip-at (IsPlaced p) levels placed i l q are below in
    let found = found-level levels i l below (λ j k d m n. ok.apart j k d m n) in
    let kept : IsLevel (get_or levels i l) = ok.each i l below in
    let bys : bys_of levels (level_at p (get_or placed i q).level) ≡ (get_or levels i l).by = ap (bys_of levels) at.place ∙ found.1 in
    record {
      is_scale = ap (scale_of levels) at.place ∙ found.0 ∙ ap nat_abs (sym at.scale);
      are_times = λ k d m.
          let b : By = record { row = Held 0; times = pos 0 } in
          let ws : List Weighted = (get_or placed i q).weighted.items in
          let n : k < length (get_or levels i l).by = omega (arith, m, same-length p (get_or levels i l).by (get_or placed i q).weighted.items at.weighted) in
          let same : get_or (get_or placed i q).weighted.items k no_weight ≡ get_or (get_or placed i q).weighted.items k d = get_or_default (get_or placed i q).weighted.items k no_weight d m in
          let name : (get_or (get_or levels i l).by k b).row ≡ name_at p (get_or (get_or placed i q).weighted.items k d).at =
          weighed-name p (get_or levels i l).by (get_or placed i q).weighted.items at.weighted k b m ∙ ap (λ (w : Weighted). name_at p w.at) same in
          ap₂ times_of bys (sym name) ∙ times-found (get_or levels i l).by k b n (λ i j d l m. kept.by.apart i j d l m)
          ∙ ap (λ (b : By). b.times) (by-of p (get_or levels i l).by (get_or placed i q).weighted.items at.weighted k b m) ∙ ap (λ (w : Weighted). w.times) same;
    }
