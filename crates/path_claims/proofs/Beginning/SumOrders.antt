-- The order of sums where a route begins.
use Rattle.std.proofs.Common.{◌≡◌, ◌≢◌, ◌∙◌, ◌⊎◌, ℕ, ◌+◌, ◌-◌, ◌<◌, ◌≤◌, ◌++◌, suc, Bool, cond, nat_eq, List, [], ◌∷◌, length, map, filter, get_or, eq-eqb, ne_eqb, pos, refl, sym, ap, ap₂, subst, arith, inl, inr, Some}
use Rattle.std.specs.List.{All, HoldsAt, AllByRecursion as Each}
use Rattle.std.proofs.lemmas.List.Elements.{recursion_from_All}
use Rattle.std.proofs.lemmas.Bool.{cases_eq, cases_lt}
use Rattle.std.proofs.lemmas.List.{get_or_default}
use Rattle.problem_core.specs.declared.parts.Level.TheVariants.{Priority, Stay as StayLevel}
use Rattle.problem_core.specs.declared.parts.Mark.{Mark}
use Rattle.problem_core.specs.declared.parts.RowName.{RowName}
use Rattle.problem_core.specs.declared.parts.RowName.TheVariants.{Held}
use Rattle.problem_core.specs.declared.parts.Stay.{Stay}
use Rattle.problem_core.specs.declared.stops.Quantity.{Quantity}
use Rattle.problem_core.specs.declared.stops.Quantity.TheVariants.{Plain, Terms, Rows, Shifts}
use Rattle.problem_core.specs.Kept.{IsWhole}
use Rattle.problem_core.specs.Layout.{Line, Problem, Row, line_of_row, line_of_stay, stay_lines}
use Rattle.problem_core.specs.Levels.{IsLevelAt}
use Rattle.problem_core.specs.Unfit.{over_mark}
use Rattle.cert_core.specs.Stops.{IsBefore}
use Rattle.path_lines.specs.Room.{ComesBefore, IsSumOf}
use Rattle.path_claims.specs.PathClauses.{held_number, row_of_terms}
use Rattle.path_lines.specs.Tables.{AreJudged, name_at}
use Rattle.path_lines.proofs.Walking.FirstLines.{count_lines, row_name, stay_name}
use Rattle.path_claims.specs.declared.orders.SumAt.{SumAt}
use Rattle.path_claims.specs.Orders.{IsJudgedTo, IsLower, IsSumAt, IsSizeOf, Precedes}
use Rattle.path_levels.proofs.OutlineParts.{stay_level}
use Rattle.path_levels.proofs.LevelsOfLines.{level_unique, stay_of_level}
use Rattle.path_lines.proofs.Places.{any_line}
use Rattle.path_lines.proofs.Places.{any_stay}

abbrev pub any_row : Row
any_row = record { id = 0; rank = 0; weight = 0; rel = any_line.rel; scale = 1; constant = record { num = pos 0; den = 1 }; terms = [] }

-- ---- the numbers of levels

pub stay_number_there : (p : Problem) (stays : List Stay) (attr i : ℕ) → stays ≡ p.stays → i < length stays → HoldsAt (λ (s : Stay). s.attr ≡ attr) stays i → IsLevelAt p (StayLevel attr) (1001 + i)
stay_number_there p stays attr i same within found =
    let here : i < length p.stays = subst (λ (ss : List Stay). i < length ss) same within in
    let attr_is : (get_or p.stays i any_stay).attr ≡ attr = ap (λ (ss : List Stay). (get_or ss i any_stay).attr) (sym same) ∙ found any_stay in
    subst (λ (a : ℕ). IsLevelAt p (StayLevel a) (1001 + i)) attr_is
    (stay_level p i (get_or p.stays i any_stay) here (get_or_default p.stays i any_stay (get_or p.stays i any_stay) here))

pub no_stay_number : (p : Problem) (stays : List Stay) (attr k : ℕ) → stays ≡ p.stays → All (λ (s : Stay). s.attr ≢ attr) stays → IsLevelAt p (StayLevel attr) k → ⊥
no_stay_number p stays attr k same none there =
    let s = stay_of_level p attr k there in
    subst (λ (ss : List Stay). All (λ (s : Stay). s.attr ≢ attr) ss) same none s.0 any_stay s.1 s.3

-- ---- places in order

no_over_sum : (p : Problem) (mark : Mark) (first : ℕ) → ((id : ℕ) → mark ≡ over_mark id → ⊥) → IsSumOf p (Terms mark first) → ⊥
no_over_sum p mark first none (k, s, within, is, (mark_is, low, high)) = none s.id mark_is

pub no_over_place : (p : Problem) (sum : Quantity) (mark : Mark) (first : ℕ) → sum ≡ Terms mark first → ((id : ℕ) → mark ≡ over_mark id → ⊥) → IsSumOf p sum → ⊥
no_over_place p sum mark first is none h = no_over_sum p mark first none (subst (IsSumOf p) is h)

moved_order : (a b : SumAt) (i j : ℕ) → i ≡ a.first → j ≡ b.first → IsLower a b → (a.at < b.at) ⊎ ((a.at ≡ b.at) × (i < j))
moved_order a b i j ia jb (inl less) = inl less
moved_order a b i j ia jb (inr (same, less)) = inr (same, omega (arith, ia, jb, less))

-- lower, higher, or the same
lower_cases : (a b : SumAt) → IsLower a b ⊎ (IsLower b a ⊎ ((a.at ≡ b.at) × (a.first ≡ b.first)))
lower_cases a b =
    elim (cases_lt a.at b.at) [
      | inl less ↦ inl (inl less)
      | inr from ↦ elim (cases_lt b.at a.at) [
        | inl more ↦ inr (inl (inl more))
        | inr to ↦
            let e : a.at ≡ b.at = omega (arith, from, to) in
            elim (cases_lt a.first b.first) [
              | inl less ↦ inl (inr (e, less))
              | inr not_less ↦ elim (cases_lt b.first a.first) [
                | inl more ↦ inr (inl (inr (sym e, more)))
                | inr not_more ↦ inr (inr (e, omega (arith, not_less, not_more)))
              ]
            ]
      ]
    ]

order_back : {P : Type 0} (a b : SumAt) (i j : ℕ) → i ≡ a.first → j ≡ b.first → a.is_rows ≡ b.is_rows → (Precedes a b → ⊥) → ((b.at < a.at) ⊎ ((b.at ≡ a.at) × (j < i)) → P) → ((a.at ≡ b.at) → (i ≡ j) → P) → P
order_back a b i j ia jb kind none lower same =
    elim (lower_cases a b) [
      | inl before ↦ absurd (none (inr (kind, before)))
      | inr (inl after) ↦ lower (moved_order b a j i jb ia after)
      | inr (inr e) ↦ same e.0 (ia ∙ e.1 ∙ sym jb)
    ]

pub placed_after : (p : Problem) (q r : Quantity) (a b : SumAt) → IsSumAt p q a → IsSumAt p r b → (Precedes a b → ⊥) → q ≢ r → ComesBefore p r q
placed_after p (Plain w) r a b h g none ne = absurd h
placed_after p (Shifts w i) r a b h g none ne = absurd h
placed_after p (Terms m i) (Plain w) a b h g none ne = absurd g
placed_after p (Terms m i) (Shifts w j) a b h g none ne = absurd g
placed_after p (Terms m i) (Rows l j) a b h g none ne = absurd (none (inl (h.0, g.0)))
placed_after p (Terms m i) (Terms n j) a b h g none ne =
    order_back a b i j h.2 g.2 (h.0 ∙ sym g.0) none (λ order. (b.at, a.at, g.1, h.1, order))
    (λ at first. absurd (ne (ap₂ Terms (h.1 ∙ ap over_mark at ∙ sym g.1) first)))
placed_after p (Rows l i) (Plain w) a b h g none ne = absurd g
placed_after p (Rows l i) (Shifts w j) a b h g none ne = absurd g
placed_after p (Rows l i) (Terms n j) a b h g none ne = tt
placed_after p (Rows l i) (Rows m j) a b h g none ne =
    order_back a b i j h.2 g.2 (h.0 ∙ sym g.0) none (λ order. (b.at, a.at, g.1, h.1, order))
    (λ at first. absurd (ne (ap₂ Rows (level_unique p l m b.at (subst (IsLevelAt p l) at h.1) g.1) first)))

-- ---- which rows are judged

pub rest_after : (p : Problem) (n id : ℕ) (r : Row) → IsWhole p → n < length p.rows → r ≡ get_or p.rows n r → id ≤ r.id → (k : ℕ) (d : Row) → n ≤ k → k < length p.rows → id ≤ (get_or p.rows k d).id
rest_after p n id r whole here is low k d from within =
    elim (cases_eq n k) [
      | inl e ↦ (let h : r.id ≡ (get_or p.rows k d).id = ap (λ (t : Row). t.id) (is ∙ get_or_default p.rows n r d here ∙ ap (λ (m : ℕ). get_or p.rows m d) e) in omega (arith, h, low))
      | inr ne ↦
          let h = whole.rising n k d (omega (arith, from, ne)) within in
          let e : r.id ≡ (get_or p.rows n d).id = ap (λ (t : Row). t.id) (is ∙ get_or_default p.rows n r d here) in
          omega (arith, h, e, low)
    ]

pub judged_to : (p : Problem) (id n : ℕ) → n ≤ length p.rows → ((k : ℕ) (d : Row) → k < n → (get_or p.rows k d).id < id) → ((k : ℕ) (d : Row) → n ≤ k → k < length p.rows → id ≤ (get_or p.rows k d).id) → AreJudged p id n (length p.rows)
judged_to p id n within before after k there =
    elim (cases_lt k (length p.rows)) [
      | inl row ↦ (
        λ h. subst (IsBefore id) (sym (row_name p k any_row row)) (before k any_row (elim h [
          | inl less ↦ less
          | inr from ↦ absurd (omega (arith, from, row))
        ])),
        λ h. elim (cases_lt k n) [
          | inl less ↦ inl less
          | inr from ↦ (let low = after k any_row from row in let high : (get_or p.rows k any_row).id < id = subst (IsBefore id) (row_name p k any_row row) h in absurd (omega (arith, low, high)))
        ],
      )
      | inr stay ↦ (
        λ h. (let e : length p.rows + (k - length p.rows) ≡ k = omega (arith, stay) in
            subst (λ (m : ℕ). IsBefore id (name_at p m)) e (subst (IsBefore id) (sym (stay_name p (k - length p.rows) any_stay (omega (arith, stay, there, count_lines p)))) tt)),
        λ h. inr stay,
      )
    ]

judged_row : (p : Problem) (mark : Mark) (first id n : ℕ) → mark.row ≡ Held id → (n ≤ length p.rows) × AreJudged p id n (length p.rows) → IsJudgedTo p (row_of_terms (Some (Terms mark first))) n
judged_row p mark first id n is h = subst (λ (name : RowName). IsJudgedTo p (held_number name) n) (sym is) h

pub judged_of : (p : Problem) (named : Quantity) (mark : Mark) (first id n : ℕ) → named ≡ Terms mark first → mark.row ≡ Held id → n ≤ length p.rows → ((k : ℕ) (d : Row) → k < n → (get_or p.rows k d).id < id) → ((k : ℕ) (d : Row) → n ≤ k → k < length p.rows → id ≤ (get_or p.rows k d).id)
    → IsJudgedTo p (row_of_terms (Some named)) n
judged_of p named mark first id n is row within before after =
    subst (λ (q : Quantity). IsJudgedTo p (row_of_terms (Some q)) n) (sym is) (judged_row p mark first id n row (within, judged_to p id n within before after))

-- ---- sums of the problem's

none_later : (n k : ℕ) (stays : List Stay) → k < n → length (filter (λ l. nat_eq l.level k) (stay_lines n stays)) ≡ 0
none_later n k [] less = refl
none_later n k (s ∷ stays) less =
    ap (λ (b : Bool). length (cond b (line_of_stay n s ∷ filter (λ l. nat_eq l.level k) (stay_lines (n + 1) stays)) (filter (λ l. nat_eq l.level k) (stay_lines (n + 1) stays)))) (ne_eqb n k (λ e. absurd (omega (arith, less, e))))
    ∙ none_later (n + 1) k stays (omega (arith, less))

one_later : (n k : ℕ) (stays : List Stay) → length (filter (λ l. nat_eq l.level k) (stay_lines n stays)) ≤ 1
one_later n k [] = omega arith
one_later n k (s ∷ stays) =
    elim (cases_eq n k) [
      | inl e ↦
          let here : length (filter (λ l. nat_eq l.level k) (stay_lines n (s ∷ stays))) ≡ suc (length (filter (λ l. nat_eq l.level k) (stay_lines (n + 1) stays))) =
          ap (λ (b : Bool). length (cond b (line_of_stay n s ∷ filter (λ l. nat_eq l.level k) (stay_lines (n + 1) stays)) (filter (λ l. nat_eq l.level k) (stay_lines (n + 1) stays)))) (eq-eqb n k e) in
          let none = none_later (n + 1) k stays (omega (arith, e)) in
          omega (arith, here, none)
      | inr ne ↦
          let here : length (filter (λ l. nat_eq l.level k) (stay_lines n (s ∷ stays))) ≡ length (filter (λ l. nat_eq l.level k) (stay_lines (n + 1) stays)) =
          ap (λ (b : Bool). length (cond b (line_of_stay n s ∷ filter (λ l. nat_eq l.level k) (stay_lines (n + 1) stays)) (filter (λ l. nat_eq l.level k) (stay_lines (n + 1) stays)))) (ne_eqb n k ne) in
          let rest = one_later (n + 1) k stays in
          omega (arith, here, rest)
    ]

-- rows at a level of priorities
ranked : (k rank : ℕ) (rows : List Row) (ls : List Line) → k + rank ≡ 1000 → Each (λ (r : Row). r.rank ≤ 1000) rows → length (filter (λ l. nat_eq l.level k) ls) ≡ 0
    → length (filter (λ l. nat_eq l.level k) (map line_of_row rows ++ ls)) ≡ length (filter (λ (r : Row). nat_eq r.rank rank) rows)
ranked k rank [] ls sum small none = none
ranked k rank (r ∷ rows) ls sum small none =
    let rest : length (filter (λ l. nat_eq l.level k) (map line_of_row rows ++ ls)) ≡ length (filter (λ (r : Row). nat_eq r.rank rank) rows) = ranked k rank rows ls sum small.1 none in
    let least : r.rank ≤ 1000 = small.0 in
    elim (cases_eq r.rank rank) [
      | inl e ↦
          let here : length (filter (λ l. nat_eq l.level k) (map line_of_row (r ∷ rows) ++ ls)) ≡ suc (length (filter (λ l. nat_eq l.level k) (map line_of_row rows ++ ls))) =
          ap (λ (b : Bool). length (cond b (line_of_row r ∷ filter (λ l. nat_eq l.level k) (map line_of_row rows ++ ls)) (filter (λ l. nat_eq l.level k) (map line_of_row rows ++ ls)))) (eq-eqb (1000 - r.rank) k (omega (arith, sum, e))) in
          let there : length (filter (λ (r : Row). nat_eq r.rank rank) (r ∷ rows)) ≡ suc (length (filter (λ (r : Row). nat_eq r.rank rank) rows)) =
          ap (λ (b : Bool). length (cond b (r ∷ filter (λ (r : Row). nat_eq r.rank rank) rows) (filter (λ (r : Row). nat_eq r.rank rank) rows))) (eq-eqb r.rank rank e) in
          omega (arith, here, there, rest)
      | inr ne ↦
          let here : length (filter (λ l. nat_eq l.level k) (map line_of_row (r ∷ rows) ++ ls)) ≡ length (filter (λ l. nat_eq l.level k) (map line_of_row rows ++ ls)) =
          ap (λ (b : Bool). length (cond b (line_of_row r ∷ filter (λ l. nat_eq l.level k) (map line_of_row rows ++ ls)) (filter (λ l. nat_eq l.level k) (map line_of_row rows ++ ls))))
          (ne_eqb (1000 - r.rank) k (λ e. ne (omega (arith, sum, e, least)))) in
          let there : length (filter (λ (r : Row). nat_eq r.rank rank) (r ∷ rows)) ≡ length (filter (λ (r : Row). nat_eq r.rank rank) rows) =
          ap (λ (b : Bool). length (cond b (r ∷ filter (λ (r : Row). nat_eq r.rank rank) rows) (filter (λ (r : Row). nat_eq r.rank rank) rows))) (ne_eqb r.rank rank ne) in
          omega (arith, here, there, rest)
    ]

no_rows_there : (k : ℕ) (rows : List Row) (ls : List Line) → 1000 < k → length (filter (λ l. nat_eq l.level k) (map line_of_row rows ++ ls)) ≡ length (filter (λ l. nat_eq l.level k) ls)
no_rows_there k [] ls more = refl
no_rows_there k (r ∷ rows) ls more =
    ap (λ (b : Bool). length (cond b (line_of_row r ∷ filter (λ l. nat_eq l.level k) (map line_of_row rows ++ ls)) (filter (λ l. nat_eq l.level k) (map line_of_row rows ++ ls)))) (ne_eqb (1000 - r.rank) k (λ e. absurd (omega (arith, more, e))))
    ∙ no_rows_there k rows ls more

pub rank_size : (p : Problem) (rank size : ℕ) → IsWhole p → size ≡ length (filter (λ (r : Row). nat_eq r.rank rank) p.rows) → IsSizeOf p (Priority rank) size
rank_size p rank size whole is k at =
    let e = ranked k rank p.rows (stay_lines 1001 p.stays) at (recursion_from_All (λ (r : Row). r.rank ≤ 1000) p.rows (λ i d within. (whole.rows i d within).rank)) (none_later 1001 k p.stays (omega (arith, at))) in
    omega (arith, e, is)

pub stay_size : (p : Problem) (attr : ℕ) → IsSizeOf p (StayLevel attr) 1
stay_size p attr k at =
    let s = stay_of_level p attr k at in
    let e = no_rows_there k p.rows (stay_lines 1001 p.stays) (omega (arith, s.2)) in
    let one = one_later 1001 k p.stays in
    omega (arith, e, one)
