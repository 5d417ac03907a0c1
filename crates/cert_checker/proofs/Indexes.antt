-- An index of numbers, one number more at a time, and what it finds among a problem's lines.
use Rattle.std.proofs.Common.{◌≡◌, ℕ, ◌+◌, ◌-◌, ◌<◌, List, [], ◌∷◌, ◌++◌, map, length, take, get_or, Option, Some, None, BTreeMap, sym, ap, subst, ◌∙◌, inl, inr, arith, Contains, MatchOption, IfSome, IfNone, pos}
use Rattle.std.specs.Ordering.{nat_cmp}
use Rattle.std.specs.BTreeMap.{Updates, get}
use Rattle.std.proofs.lemmas.Bool.{cases_eq, cases_lt}
use Rattle.std.proofs.lemmas.List.{take_more, length-map, get_or_append_left, length-take-le, length-append, get_or-map}
use Rattle.std.proofs.Math.Seq.{get_or-append_seam}
use Rattle.std.proofs.lemmas.List.Elements.{Contains-push_cases, Contains-get_or}
use Rattle.frac_core.proofs.Orders.{not-at}
use Rattle.problem_core.specs.declared.parts.RowName.{RowName}
use Rattle.problem_core.specs.declared.parts.RowName.TheVariants.{Held, Stay as StayOf}
use Rattle.problem_core.specs.declared.parts.Stay.{Stay}
use Rattle.problem_core.specs.declared.parts.Rel.TheVariants.{Eq}
use Rattle.problem_core.specs.Layout.{Row, Problem, lines, line_of_row, stay_lines}
use Rattle.problem_core.proofs.RowNames.{held-not-stay, held-same, stay-same}
use Rattle.cert_checker.specs.LineSums.{line_count}
use Rattle.cert_checker.specs.LinePlaces.{IsIndex, names, name_at}
use Rattle.cert_checker.proofs.LinePlaces.{row-at, stay-at}
use Rattle.problem_core.proofs.Lines.{length-stays}

abbrev Found : List ℕ → ℕ → ℕ → Type 0
Found xs q k = (k < length xs) × (get_or xs k 0 ≡ q)

kept : (xs : List ℕ) (x q : ℕ) (o : Option ℕ) → (x ≡ q → ⊥) → MatchOption o (Contains xs q → ⊥) (Found xs q) → MatchOption o (Contains (xs ++ x ∷ []) q → ⊥) (Found (xs ++ x ∷ []) q)
kept xs x q (Some k) n (l, e) = (omega (arith, l, length-append xs (x ∷ [])), get_or_append_left xs (x ∷ []) 0 k l ∙ e)
kept xs x q None n h = λ found. elim (Contains-push_cases xs x q found) [ inl e ↦ h e | inr e ↦ n e ]

push : (m n : BTreeMap ℕ ℕ) (xs : List ℕ) (x : ℕ) → Updates nat_cmp m n x (Some (length xs)) → IsIndex xs m → IsIndex (xs ++ x ∷ []) n
push m n xs x u is q =
    elim (cases_eq x q) [
      | inl e ↦
          let found : get nat_cmp n q ≡ Some (length xs) = ap (get nat_cmp n) (sym e) ∙ u.1 in
          let here : Found (xs ++ x ∷ []) q (length xs) = (omega (arith, length-append xs (x ∷ [])), get_or-append_seam xs x [] 0 ∙ e) in
          subst (λ (o : Option ℕ). MatchOption o (Contains (xs ++ x ∷ []) q → ⊥) (Found (xs ++ x ∷ []) q)) (sym found) here
      | inr e ↦
          subst (λ (o : Option ℕ). MatchOption o (Contains (xs ++ x ∷ []) q → ⊥) (Found (xs ++ x ∷ []) q)) (sym (u.2 q (not-at x q e))) (kept xs x q (get nat_cmp m q) e (is q))
    ]

pub index-more : (m n : BTreeMap ℕ ℕ) (xs : List ℕ) (i : ℕ) → i < length xs → Updates nat_cmp m n (get_or xs i 0) (Some i) → IsIndex (take i xs) m → IsIndex (take (i + 1) xs) n
index-more m n xs i l u is =
    let len : length (take i xs) ≡ i = length-take-le i xs (omega (arith, l)) in
    subst (λ (ys : List ℕ). IsIndex ys n) (sym (take_more xs i 0 l))
    (push m n (take i xs) (get_or xs i 0) (subst (λ (k : ℕ). Updates nat_cmp m n (get_or xs i 0) (Some k)) (sym len) u) is)

-- ---- rows and stays

pub no_row : Row
no_row = record { id = 0; rank = 0; weight = 0; rel = Eq; scale = 0; constant = record { num = pos 0; den = 0 }; terms = [] }

pub no_stay : Stay
no_stay = record { attr = 0; target = record { num = pos 0; den = 0 } }

pub length-lines : (p : Problem) → length (lines p) ≡ line_count p
length-lines p = omega (arith, length-append (map line_of_row p.rows) (stay_lines 1001 p.stays), length-map p.rows line_of_row, length-stays 1001 p.stays)

pub length-names : (p : Problem) → length (names p) ≡ line_count p
length-names p = length-map (lines p) (λ l. l.name) ∙ length-lines p

pub row_name : (p : Problem) (k : ℕ) (e : RowName) → k < length p.rows → get_or (names p) k e ≡ Held (get_or (map (λ r. r.id) p.rows) k 0)
row_name p k e l =
    row-at (λ l. l.name) p.rows (stay_lines 1001 p.stays) k no_row e l ∙ ap Held (sym (get_or-map (λ (r : Row). r.id) p.rows k no_row 0 l))

pub stay_name : (p : Problem) (k : ℕ) (e : RowName) → k < length p.stays → get_or (names p) (length p.rows + k) e ≡ StayOf (get_or (map (λ s. s.attr) p.stays) k 0)
stay_name p k e l = stay-at (λ l. l.name) p k no_stay e l ∙ ap StayOf (sym (get_or-map (λ (s : Stay). s.attr) p.stays k no_stay 0 l))

pub row_found : (p : Problem) (id k : ℕ) → Found (map (λ r. r.id) p.rows) id k → (k < line_count p) × (name_at p k ≡ Held id)
row_found p id k (l, e) =
    let m : k < length p.rows = omega (arith, l, length-map p.rows (λ (r : Row). r.id)) in
    (omega (arith, m), row_name p k (Held 0) m ∙ ap Held e)

pub stay_found : (p : Problem) (attr k : ℕ) → Found (map (λ s. s.attr) p.stays) attr k → (length p.rows + k < line_count p) × (name_at p (length p.rows + k) ≡ StayOf attr)
stay_found p attr k (l, e) =
    let m : k < length p.stays = omega (arith, l, length-map p.stays (λ (s : Stay). s.attr)) in
    (omega (arith, m), stay_name p k (Held 0) m ∙ ap StayOf e)

has : (xs : List ℕ) (k q : ℕ) → k < length xs → get_or xs k 0 ≡ q → Contains xs q
has xs k q l e = subst (Contains xs) e (Contains-get_or xs k 0 l)

pub row_missing : (p : Problem) (id : ℕ) → (Contains (map (λ r. r.id) p.rows) id → ⊥) → Contains (names p) (Held id) → ⊥
row_missing p id none (k, l, e) =
    elim (cases_lt k (length p.rows)) [
      | inl m ↦
          none (has (map (λ r. r.id) p.rows) k id (omega (arith, m, length-map p.rows (λ (r : Row). r.id))) (held-same _ id (sym (row_name p k (Held id) m) ∙ e)))
      | inr m ↦
          let j : k ≡ length p.rows + (k - length p.rows) = omega (arith, m) in
          held-not-stay id (get_or (map (λ s. s.attr) p.stays) (k - length p.rows) 0)
          (sym e ∙ ap (λ (n : ℕ). get_or (names p) n (Held id)) j ∙ stay_name p (k - length p.rows) (Held id) (omega (arith, l, m, length-names p)))
    ]

pub stay_missing : (p : Problem) (attr : ℕ) → (Contains (map (λ s. s.attr) p.stays) attr → ⊥) → Contains (names p) (StayOf attr) → ⊥
stay_missing p attr none (k, l, e) =
    elim (cases_lt k (length p.rows)) [
      | inl m ↦ held-not-stay _ attr (sym (row_name p k (StayOf attr) m) ∙ e)
      | inr m ↦
          let j : k ≡ length p.rows + (k - length p.rows) = omega (arith, m) in
          let short : k - length p.rows < length p.stays = omega (arith, l, m, length-names p) in
          let same : get_or (map (λ s. s.attr) p.stays) (k - length p.rows) 0 ≡ attr =
          stay-same _ attr (sym (stay_name p (k - length p.rows) (StayOf attr) short) ∙ ap (λ (n : ℕ). get_or (names p) n (StayOf attr)) (sym j) ∙ e) in
          none (has (map (λ s. s.attr) p.stays) (k - length p.rows) attr (omega (arith, short, length-map p.stays (λ (s : Stay). s.attr))) same)
    ]

-- ---- what a look-up gives

held_some : (p : Problem) (id : ℕ) (o : Option ℕ) → MatchOption o (Contains (map (λ r. r.id) p.rows) id → ⊥) (Found (map (λ r. r.id) p.rows) id) → IfSome o (λ k. (k < line_count p) × (name_at p k ≡ Held id))
held_some p id (Some k) h = row_found p id k h
held_some p id None h = tt

held_none : (p : Problem) (id : ℕ) (o : Option ℕ) → MatchOption o (Contains (map (λ r. r.id) p.rows) id → ⊥) (Found (map (λ r. r.id) p.rows) id) → IfNone o (Contains (names p) (Held id) → ⊥)
held_none p id (Some k) h = tt
held_none p id None h = row_missing p id h

pub looked-some : (p : Problem) (id : ℕ) (m : BTreeMap ℕ ℕ) (o : Option ℕ) → IsIndex (map (λ r. r.id) p.rows) m → o ≡ get nat_cmp m id → IfSome o (λ k. (k < line_count p) × (name_at p k ≡ Held id))
looked-some p id m o is e = held_some p id o (rw e (is id))

pub looked-none : (p : Problem) (id : ℕ) (m : BTreeMap ℕ ℕ) (o : Option ℕ) → IsIndex (map (λ r. r.id) p.rows) m → o ≡ get nat_cmp m id → IfNone o (Contains (names p) (Held id) → ⊥)
looked-none p id m o is e = held_none p id o (rw e (is id))

pub stay-looked : (p : Problem) (attr k : ℕ) (m : BTreeMap ℕ ℕ) → IsIndex (map (λ s. s.attr) p.stays) m → Some k ≡ get nat_cmp m attr → (length p.rows + k < line_count p) × (name_at p (length p.rows + k) ≡ StayOf attr)
stay-looked p attr k m is e = stay_found p attr k (subst (λ (o : Option ℕ). MatchOption o (Contains (map (λ s. s.attr) p.stays) attr → ⊥) (Found (map (λ s. s.attr) p.stays) attr)) (sym e) (is attr))

pub stay-absent : (p : Problem) (attr : ℕ) (m : BTreeMap ℕ ℕ) → IsIndex (map (λ s. s.attr) p.stays) m → None ≡ get nat_cmp m attr → Contains (names p) (StayOf attr) → ⊥
stay-absent p attr m is e = stay_missing p attr (subst (λ (o : Option ℕ). MatchOption o (Contains (map (λ s. s.attr) p.stays) attr → ⊥) (Found (map (λ s. s.attr) p.stays) attr)) (sym e) (is attr))
