-- The levels of a problem by their numbers.
use Rattle.std.proofs.Common.{◌≡◌, ◌∙◌, inl, inr, ℕ, zero, suc, ◌+◌, ◌-◌, ◌<◌, ◌≤◌, List, [], ◌∷◌, map, length, get_or, refl, sym, ap, subst, arith, Any}
use Rattle.std.proofs.lemmas.Bool.{cases_lt}
use Rattle.std.proofs.lemmas.List.{get_or-map, get_or_default, length-map}
use Rattle.problem_core.specs.declared.parts.Level.{Level}
use Rattle.problem_core.specs.declared.parts.Level.TheVariants.{Priority, Stay as StayLevel}
use Rattle.problem_core.specs.declared.parts.RowName.TheVariants.{Held, Stay as StayOf}
use Rattle.problem_core.specs.declared.parts.Stay.{Stay}
use Rattle.problem_core.specs.Kept.{IsStay, IsWhole}
use Rattle.problem_core.specs.Layout.{HasStay, Line, Problem, line_of_stay, lines}
use Rattle.problem_core.specs.Levels.{IsLevelAt}
use Rattle.cert_core.specs.Claims.{level_at}
use Rattle.cert_checker.specs.LinePlaces.{name_at}
use Rattle.cert_checker.specs.LineSums.{line_count}
use Rattle.cert_checker.proofs.Certificates.Columns.{stay-line}
use Rattle.cert_checker.proofs.Indexes.{length-lines, no_stay, stay_name}
use Rattle.cert_checker.proofs.Certificates.Levels.{level-same, low-level, past-rows, priority-same, priority-stay, stay-has, stay-level, stay-place}
use Rattle.corner_view.specs.Seen.{IsInUse}
use Rattle.corner_ends.proofs.Fronts.{level_named}
use Rattle.corner_lines.proofs.LevelRows.StayRows.{level_one}

-- a stay's line at its place
named-there : (p : Problem) (attr i : ℕ) (x : Line) → i < length (lines p) → get_or (lines p) i x ≡ x → x.name ≡ StayOf attr → (i < line_count p) × (name_at p i ≡ StayOf attr)
named-there p attr i x within is name = (
  omega (arith, within, length-lines p),
  get_or-map (λ (l : Line). l.name) (lines p) i x (Held 0) within ∙ ap (λ (l : Line). l.name) is ∙ name,
)

stay-number : (p : Problem) (attr k i : ℕ) (x : Line) → i < length (lines p) → get_or (lines p) i x ≡ x → x.name ≡ StayOf attr → x.level ≡ k → level_at p k ≡ StayLevel attr
stay-number p attr k i x within is name e =
    let there = named-there p attr i x within is name in
    let past = past-rows p i attr there.0 there.1 in
    let own : x.level ≡ 1001 + (i - length p.rows) = ap (λ (l : Line). l.level) (sym is) ∙ stay-line (λ l. l.level) p i x past.0 there.0 in
    ap (level_at p) (let q : k ≡ 1001 + i - length p.rows = omega (arith, own, e, past.0) in q) ∙ stay-place p i attr there.0 there.1

-- the level with this number
pub level_is : (p : Problem) (level : Level) (k : ℕ) → IsLevelAt p level k → level_at p k ≡ level
level_is p (Priority rank) k h = low-level p k (omega (arith, h)) ∙ ap Priority (let e : 1000 - k ≡ rank = omega (arith, h) in e)
level_is p (StayLevel attr) k (i, x, within, is, (name, e)) = stay-number p attr k i x within is name e

pub stay_there : (p : Problem) (attr k : ℕ) → IsLevelAt p (StayLevel attr) k → HasStay p.stays attr
stay_there p attr k (i, x, within, is, (name, e)) = let there = named-there p attr i x within is name in stay-has p i attr there.0 there.1

no-attr : (p : Problem) → IsWhole p → HasStay p.stays 0 → ⊥
no-attr p whole (k, s, within, is, e) =
    let stay : IsStay s = subst IsStay is (whole.stays k s within) in
    let above : 0 < s.attr = stay.attr.0 in
    absurd (omega (arith, above, e))

-- a place among the stays has a level's number
pub stay_placed : (p : Problem) (attr j : ℕ) → j < length p.stays → get_or (map (λ s. s.attr) p.stays) j 0 ≡ attr → IsLevelAt p (StayLevel attr) (1001 + j)
stay_placed p attr j within e =
    let x : Line = line_of_stay (1001 + j) (get_or p.stays j no_stay) in
    let i : ℕ = length p.rows + j in
    let at : i < length (lines p) = omega (arith, within, length-lines p) in
    let d : Line = get_or (lines p) i x in (
      i,
      d,
      at,
      get_or_default (lines p) i d x at,
      (
        sym (get_or-map (λ (l : Line). l.name) (lines p) i x (Held 0) at) ∙ stay_name p j (Held 0) within ∙ ap StayOf e,
        stay-line (λ l. l.level) p i x (omega arith) (omega (arith, within)) ∙ (let q : 1001 + (length p.rows + j - length p.rows) ≡ 1001 + j = omega arith in q),
      ),
    )

past-list : (xs : List ℕ) (j : ℕ) → length xs ≤ j → get_or xs j 0 ≡ 0
past-list [] j h = refl
past-list (x ∷ xs) zero h = absurd (omega (arith, h))
past-list (x ∷ xs) (suc j) h = past-list xs j (omega (arith, h))

past-end : (p : Problem) (j : ℕ) → length p.stays ≤ j → get_or (map (λ s. s.attr) p.stays) j 0 ≡ 0
past-end p j over = past-list (map (λ s. s.attr) p.stays) j (let same = length-map p.stays (λ (s : Stay). s.attr) in omega (arith, over, same))

number-from-stay : (p : Problem) (attr n j : ℕ) → IsWhole p → get_or (map (λ s. s.attr) p.stays) j 0 ≡ attr → IsLevelAt p (StayLevel attr) n → n ≡ 1001 + j
number-from-stay p attr n j whole e h =
    elim (cases_lt j (length p.stays)) [
      | inl within ↦ level_one p (StayLevel attr) n (1001 + j) whole h (stay_placed p attr j within e)
      | inr over ↦ absurd (no-attr p whole (subst (HasStay p.stays) (sym e ∙ past-end p j over) (stay_there p attr n h)))
    ]

-- the number of the level with this number
pub number_is : (p : Problem) (level : Level) (k n : ℕ) → IsWhole p → level_at p k ≡ level → IsLevelAt p level n → n ≡ k
number_is p (Priority rank) k n whole e h =
    elim (cases_lt 1000 k) [
      | inl above ↦ absurd (priority-stay rank _ (sym e ∙ ap (level_at p) (let q : k ≡ 1001 + (k - 1001) = omega (arith, above) in q) ∙ stay-level p (k - 1001)))
      | inr low ↦
          let same : 1000 - k ≡ rank = priority-same (1000 - k) rank (sym (low-level p k low) ∙ e) in
          omega (arith, h, same, low)
    ]
number_is p (StayLevel attr) k n whole e h =
    elim (cases_lt 1000 k) [
      | inl above ↦
          let q : k ≡ 1001 + (k - 1001) = omega (arith, above) in
          number-from-stay p attr n (k - 1001) whole (level-same _ attr (sym (stay-level p (k - 1001)) ∙ ap (level_at p) (sym q) ∙ e)) h ∙ sym q
      | inr low ↦ absurd (priority-stay (1000 - k) attr (sym (low-level p k low) ∙ e))
    ]

-- a level at which a line stands
pub used_level : (p : Problem) (k : ℕ) → IsWhole p → Any (λ l. l.level ≡ k) (lines p) → IsLevelAt p (level_at p k) k × IsInUse p (level_at p k)
used_level p k whole (i, x, within, is, e) =
    let named = level_named p k whole (i, x, within, is, e) in
    let here : IsLevelAt p (level_at p k) k = subst (λ (l : Level). IsLevelAt p l k) (sym (level_is p named.0 k named.1)) named.1 in
    (here, (i, x, within, is, subst (λ (n : ℕ). IsLevelAt p (level_at p k) n) (sym e) here))

pub stay_level : (p : Problem) (attr : ℕ) → HasStay p.stays attr → (k : ℕ) × IsLevelAt p (StayLevel attr) k
stay_level p attr (j, s, within, is, e) =
    (1001 + j, stay_placed p attr j within (get_or-map (λ (t : Stay). t.attr) p.stays j s 0 within ∙ ap (λ (t : Stay). t.attr) is ∙ e))
