-- In a whole problem no two lines have one name.
use Rattle.std.proofs.Common.{◌≡◌, ℕ, ◌+◌, ◌-◌, ◌<◌, map, length, get_or, sym, ap, ◌∙◌, inl, inr, arith}
use Rattle.std.proofs.lemmas.Bool.{cases_lt, cases_order}
use Rattle.std.proofs.lemmas.List.{get_or-map}
use Rattle.problem_core.specs.declared.parts.RowName.{RowName}
use Rattle.problem_core.specs.declared.parts.RowName.TheVariants.{Held, Stay as StayOf}
use Rattle.problem_core.specs.declared.parts.Stay.{Stay}
use Rattle.problem_core.specs.Layout.{Row, Line, Problem, lines}
use Rattle.problem_core.specs.Kept.{IsWhole}
use Rattle.problem_core.proofs.RowNames.{held-same, stay-same, held-not-stay}
use Rattle.cert_checker.specs.LineSums.{line_count}
use Rattle.cert_checker.specs.LinePlaces.{names}
use Rattle.cert_checker.proofs.Indexes.{row_name, stay_name, length-lines, no_row, no_stay}
use Rattle.cert_checker.proofs.Written.Swapping.{AreApart}

rows-apart : (p : Problem) → IsWhole p → (i j : ℕ) → i < j → j < length p.rows → get_or (map (λ r. r.id) p.rows) i 0 ≡ get_or (map (λ r. r.id) p.rows) j 0 → i ≡ j
rows-apart p w i j l m e =
    let less = w.rising i j no_row l m in
    let at_i = get_or-map (λ (r : Row). r.id) p.rows i no_row 0 (omega (arith, l, m)) in
    let at_j = get_or-map (λ (r : Row). r.id) p.rows j no_row 0 m in
    absurd (omega (arith, less, at_i, at_j, e))

pub stays-apart : (p : Problem) → IsWhole p → (i j : ℕ) → i < j → j < length p.stays → get_or (map (λ s. s.attr) p.stays) i 0 ≡ get_or (map (λ s. s.attr) p.stays) j 0 → i ≡ j
stays-apart p w i j l m e =
    let at_i = get_or-map (λ (s : Stay). s.attr) p.stays i no_stay 0 (omega (arith, l, m)) in
    let at_j = get_or-map (λ (s : Stay). s.attr) p.stays j no_stay 0 m in
    absurd (w.apart i j no_stay l m (sym at_i ∙ e ∙ at_j))

-- two places with one name are one place
names-apart : (p : Problem) → IsWhole p → (i j : ℕ) (e : RowName) → i < j → j < line_count p → get_or (names p) i e ≡ get_or (names p) j e → i ≡ j
names-apart p w i j e l m same =
    elim (cases_lt j (length p.rows)) [
      | inl n ↦
          let below : i < length p.rows = omega (arith, l, n) in
          rows-apart p w i j l n (held-same _ _ (sym (row_name p i e below) ∙ same ∙ row_name p j e n))
      | inr n ↦
          let to_j : get_or (names p) j e ≡ StayOf (get_or (map (λ s. s.attr) p.stays) (j - length p.rows) 0) =
          ap (λ (k : ℕ). get_or (names p) k e) (let q : j ≡ length p.rows + (j - length p.rows) = omega (arith, n) in q) ∙ stay_name p (j - length p.rows) e (omega (arith, m, n)) in
          elim (cases_lt i (length p.rows)) [
            | inl o ↦ absurd (held-not-stay _ _ (sym (row_name p i e o) ∙ same ∙ to_j))
            | inr o ↦
                let to_i : get_or (names p) i e ≡ StayOf (get_or (map (λ s. s.attr) p.stays) (i - length p.rows) 0) =
                ap (λ (k : ℕ). get_or (names p) k e) (let q : i ≡ length p.rows + (i - length p.rows) = omega (arith, o) in q) ∙ stay_name p (i - length p.rows) e (omega (arith, l, m, n, o)) in
                let less : i - length p.rows < j - length p.rows = omega (arith, l, n, o) in
                let short : j - length p.rows < length p.stays = omega (arith, m, n) in
                let equal = stays-apart p w (i - length p.rows) (j - length p.rows) less short (stay-same _ _ (sym to_i ∙ same ∙ to_j)) in
                absurd (omega (arith, less, equal))
          ]
    ]

pub name-at : (p : Problem) (k : ℕ) (d : Line) (e : RowName) → k < length (lines p) → get_or (names p) k e ≡ (get_or (lines p) k d).name
name-at p k d e l = get_or-map (λ (l : Line). l.name) (lines p) k d e l

pub lines-apart : (p : Problem) → IsWhole p → AreApart (lines p)
unfolding AreApart
lines-apart p w i j d l m same =
    let n : j < line_count p = omega (arith, m, length-lines p) in
    let e : RowName = Held 0 in
    let equal = names-apart p w i j (Held 0) l n (name-at p i d (Held 0) (omega (arith, l, m)) ∙ same ∙ sym (name-at p j d (Held 0) m)) in
    absurd (omega (arith, l, equal))

-- two places with one name are one place, whichever is the first
pub one-place : (p : Problem) → IsWhole p → (i j : ℕ) (e : RowName) → i < line_count p → j < line_count p → get_or (names p) i e ≡ get_or (names p) j e → i ≡ j
one-place p w i j e l m same =
    elim (cases_order i j) [
      | inl q ↦ q
      | inr q ↦ elim q [ inl n ↦ names-apart p w i j e n m same | inr n ↦ sym (names-apart p w j i e n l (sym same)) ]
    ]
