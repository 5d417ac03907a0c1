-- What the written multipliers say of the required rows.
use Rattle.std.proofs.Common.{◌≡◌, ◌≢◌, ℕ, zero, suc, ◌<◌, Bool, cond, List, [], ◌∷◌, length, get_or, pos, refl, sym, ap, ◌∙◌, ◌⊎◌, inl, inr, arith, All}
use Rattle.std.proofs.lemmas.List.{get_or-map, get_or_default}
use borrow.Author.Differences.{ints}
use Rattle.problem_core.specs.declared.parts.RowName.{RowName}
use Rattle.problem_core.specs.declared.parts.RowName.TheVariants.{Held}
use Rattle.problem_core.specs.Layout.{Row, Problem}
use Rattle.problem_core.specs.Kept.{IsWhole}
use Rattle.cert_core.specs.declared.by.By.{By}
use Rattle.cert_core.specs.Claims.{same_row, times_of}
use Rattle.cert_checker.specs.declared.sums.Weighted.{Weighted}
use Rattle.cert_checker.specs.LineSums.{line_count}
use Rattle.cert_checker.specs.LinePlaces.{name_at, AreWeighed}
use Rattle.cert_checker.specs.Required.{IsRequiredAt}
use Rattle.cert_checker.specs.Refuting.{IsRequired}
use Rattle.cert_checker.proofs.Indexes.{row_name, no_row}
use Rattle.cert_checker.proofs.Written.Weighing.{no_weight, by-of, same-length}
use Rattle.cert_checker.proofs.Written.Swapping.{same-true, same-false}
use Rattle.cert_checker.proofs.Apart.{one-place}
use Rattle.problem_core.proofs.Lines.{name-cases as same-cases}

-- ---- the multiplier of a name

pub times-none : (bys : List By) (row : RowName) → ((k : ℕ) (d : By) → k < length bys → (get_or bys k d).row ≢ row) → times_of bys row ≡ pos 0
times-none [] row apart = refl
times-none (b ∷ bys) row apart =
    let other : cond (same_row b.row row) b.times (pos 0) ≡ pos 0 = ap (λ (t : Bool). cond t b.times (pos 0)) (same-false b.row row (apart 0 b (omega arith))) in
    omega (arith, ints, other, times-none bys row (λ k d l. apart (suc k) d (omega (arith, l))))

pub times-found : (bys : List By) (k : ℕ) (d : By) → k < length bys → ((i j : ℕ) (d : By) → i < j → j < length bys → (get_or bys i d).row ≢ (get_or bys j d).row) → times_of bys (get_or bys k d).row ≡ (get_or bys k d).times
times-found [] k d l apart = absurd (omega (arith, l))
times-found (b ∷ bys) zero d l apart =
    let here : cond (same_row b.row b.row) b.times (pos 0) ≡ b.times = ap (λ (t : Bool). cond t b.times (pos 0)) (same-true b.row b.row refl) in
    let rest : times_of bys b.row ≡ pos 0 = times-none bys b.row (λ k d m e. apart 0 (suc k) d (omega arith) (omega (arith, m)) (sym e)) in
    omega (arith, ints, here, rest)
times-found (b ∷ bys) (suc k) d l apart =
    let other : cond (same_row b.row (get_or bys k d).row) b.times (pos 0) ≡ pos 0 =
    ap (λ (t : Bool). cond t b.times (pos 0)) (same-false b.row (get_or bys k d).row (apart 0 (suc k) d (omega arith) (omega (arith, l)))) in
    omega (arith, ints, other, times-found bys k d (omega (arith, l)) (λ i j d m n. apart (suc i) (suc j) d (omega (arith, m)) (omega (arith, n))))

not_written : (b : By) (bys : List By) (row : RowName) → b.row ≢ row → ((k : ℕ) (d : By) → k < length bys → (get_or bys k d).row ≢ row) → (k : ℕ) (d : By) → k < length (b ∷ bys) → (get_or (b ∷ bys) k d).row ≢ row
not_written b bys row n none zero d l = n
not_written b bys row n none (suc k) d l = none k d (omega (arith, l))

-- a name is written at some place, or at none
pub written : (bys : List By) (row : RowName) → ((k : ℕ) × (k < length bys) × ((d : By) → (get_or bys k d).row ≡ row)) ⊎ ((k : ℕ) (d : By) → k < length bys → (get_or bys k d).row ≢ row)
written [] row = inr (λ k d l e. absurd (omega (arith, l)))
written (b ∷ bys) row =
    elim (same-cases b.row row) [
      | inl e ↦ inl (0, omega arith, λ d. e)
      | inr n ↦ elim (written bys row) [
        | inl (k, l, e) ↦ inl (suc k, omega (arith, l), e)
        | inr none ↦ inr (not_written b bys row n none)
      ]
    ]

-- ---- required rows

-- the name at the place of a multiplier
pub weighed-name : (p : Problem) (bys : List By) (ws : List Weighted) → AreWeighed p bys ws → (k : ℕ) (d : By) → k < length ws → (get_or bys k d).row ≡ name_at p (get_or ws k no_weight).at
weighed-name p bys ws are k d l = ap (λ (b : By). b.row) (by-of p bys ws are k d l)

pub required-named : (p : Problem) (bys : List By) (ws : List Weighted) → AreWeighed p bys ws → All (λ w. IsRequiredAt p w.at) ws → All (λ b. IsRequired p b.row) bys
required-named p bys ws are all k d l =
    let m : k < length ws = omega (arith, l, same-length p bys ws are) in
    let at : IsRequiredAt p (get_or ws k no_weight).at = all k no_weight m in
    let name : (get_or bys k d).row ≡ Held (get_or p.rows (get_or ws k no_weight).at no_row).id =
    weighed-name p bys ws are k d m ∙ row_name p (get_or ws k no_weight).at (Held 0) at.row ∙ ap Held (get_or-map (λ (r : Row). r.id) p.rows (get_or ws k no_weight).at no_row 0 at.row) in (
      (get_or ws k no_weight).at,
      get_or p.rows (get_or ws k no_weight).at no_row,
      at.row,
      get_or_default p.rows (get_or ws k no_weight).at (get_or p.rows (get_or ws k no_weight).at no_row) no_row at.row,
      (at.rank no_row, name),
    )

-- the place of a name that is a held row's
pub held-place : (p : Problem) → IsWhole p → (i j : ℕ) (r : Row) → i < line_count p → j < length p.rows → get_or p.rows j r ≡ r → name_at p i ≡ Held r.id → i ≡ j
held-place p w i j r l m is e =
    one-place p w i j (Held 0) l (omega (arith, m)) (e ∙ sym (row_name p j (Held 0) m ∙ ap Held (get_or-map (λ (r : Row). r.id) p.rows j r 0 m ∙ ap (λ (r : Row). r.id) is)))

pub named-required : (p : Problem) → IsWhole p → (bys : List By) (ws : List Weighted) → AreWeighed p bys ws → All (λ b. IsRequired p b.row) bys → All (λ w. IsRequiredAt p w.at) ws
named-required p w bys ws are all k d l =
    let b : By = record { row = Held 0; times = pos 0 } in
    let (j, r, m, is, (rank, name)) = all k b (omega (arith, l, same-length p bys ws are)) in
    let at : (get_or ws k no_weight).at ≡ j = held-place p w (get_or ws k no_weight).at j r (are.below k no_weight l) m is (sym (weighed-name p bys ws are k b l) ∙ name) in
    let same : (get_or ws k d).at ≡ j = ap (λ (w : Weighted). w.at) (get_or_default ws k d no_weight l) ∙ at in
    record {
      row = omega (arith, same, m);
      rank = λ e. ap (λ (i : ℕ). (get_or p.rows i e).rank) same ∙ ap (λ (r : Row). r.rank) (get_or_default p.rows j e r m ∙ is) ∙ rank;
    }
