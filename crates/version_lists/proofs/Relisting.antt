-- The walk over the old and the new row.
use Rattle.std.proofs.Common.{◌≡◌, ◌≢◌, ◌↔◌, ◌∙◌, ◌⊎◌, inl, inr, ℕ, zero, suc, ◌+◌, ◌<◌, ◌≤◌, List, [], ◌∷◌, ◌++◌, length, take, drop, get_or, sym, refl, subst, ap, arith, All}
use Rattle.std.specs.List.{Contains}
use Rattle.version_lists.specs.declared.rows.list.Column.{Column}
use Rattle.std.proofs.lemmas.Bool.{cases_eq, cases_lt}
use Rattle.std.proofs.lemmas.List.{take_more, get_or_default, length-drop, get_or-drop}
use Rattle.std.proofs.lemmas.List.Elements.{All-push}
use Rattle.std.proofs.Math.Seq.{drop-cons}
use Rattle.row_core.specs.Rows.{Term, IsRising}
use Rattle.row_core.proofs.Places.{all_tail}
use Rattle.row_core.proofs.Walks.{nothing}
use Rattle.version_lists.specs.Indexes.{IsRisingList, list_at}
use Rattle.version_lists.proofs.Columns.{listed_within}
use Rattle.version_lists.specs.Lists.{HasColumn, IsChangedAt, IsListedAt, IsSameBut, IsWith, IsWithout}
use Rattle.row_core.specs.Walks.{column_at}
use Rattle.version_lists.specs.declared.rows.lists.RowChange.{RowChange}
use Rattle.version_lists.specs.Walks.{IsBehind, IsNext, IsNextInBoth, IsRelisted}
use Rattle.frac_core.proofs.Bools.{iff-through as both_ways}

-- ---- the columns of a row in parts

pub has_left : (c : ℕ) (xs ys : List Term) → HasColumn c xs → HasColumn c (xs ++ ys)
has_left c [] ys h = absurd h
has_left c (x ∷ xs) ys (inl e) = inl e
has_left c (x ∷ xs) ys (inr h) = inr (has_left c xs ys h)

pub has_right : (c : ℕ) (xs ys : List Term) → HasColumn c ys → HasColumn c (xs ++ ys)
has_right c [] ys h = h
has_right c (x ∷ xs) ys h = inr (has_right c xs ys h)

pub has_cases : (c : ℕ) (xs ys : List Term) → HasColumn c (xs ++ ys) → HasColumn c xs ⊎ HasColumn c ys
has_cases c [] ys h = inr h
has_cases c (x ∷ xs) ys (inl e) = inl (inl e)
has_cases c (x ∷ xs) ys (inr h) =
    elim (has_cases c xs ys h) [
      | inl left ↦ inl (inr left)
      | inr right ↦ inr right
    ]

pub has_none : (c : ℕ) (xs : List Term) → All (λ t. t.col ≢ c) xs → HasColumn c xs → ⊥
has_none c [] none h = h
has_none c (x ∷ xs) none (inl e) = none zero x (omega arith) e
has_none c (x ∷ xs) none (inr h) = has_none c xs (all_tail (λ t. t.col ≢ c) x xs none) h

-- an entry between the parts, which is left out
between_without : (c : ℕ) (t : Term) (xs ys : List Term) → c ≢ t.col → HasColumn c (xs ++ ys) ↔ HasColumn c (xs ++ t ∷ ys)
between_without c t xs ys other = (
  λ h.
      elim (has_cases c xs ys h) [
        | inl left ↦ has_left c xs (t ∷ ys) left
        | inr right ↦ has_right c xs (t ∷ ys) (inr right)
      ],
  λ h.
      elim (has_cases c xs (t ∷ ys) h) [
        | inl left ↦ has_left c xs ys left
        | inr (inl e) ↦ absurd (other (sym e))
        | inr (inr right) ↦ has_right c xs ys right
      ],
)

-- an entry behind the first part
between_with : (c : ℕ) (t : Term) (xs ys : List Term) → c ≢ t.col → HasColumn c ((xs ++ t ∷ []) ++ ys) ↔ HasColumn c (xs ++ ys)
between_with c t xs ys other = (
  λ h.
      elim (has_cases c (xs ++ t ∷ []) ys h) [
        | inl left ↦
            elim (has_cases c xs (t ∷ []) left) [
              | inl first ↦ has_left c xs ys first
              | inr (inl e) ↦ absurd (other (sym e))
              | inr (inr none) ↦ absurd none
            ]
        | inr right ↦ has_right c xs ys right
      ],
  λ h.
      elim (has_cases c xs ys h) [
        | inl left ↦ has_left c (xs ++ t ∷ []) ys (has_left c xs (t ∷ []) left)
        | inr right ↦ has_right c (xs ++ t ∷ []) ys right
      ],
)

with_here : (t : Term) (xs ys : List Term) → HasColumn t.col ((xs ++ t ∷ []) ++ ys)
with_here t xs ys = has_left t.col (xs ++ t ∷ []) ys (has_right t.col xs (t ∷ []) (inl refl))

-- an entry in the place of one of its column
between_both : (c : ℕ) (s t : Term) (xs ys : List Term) → s.col ≡ t.col → HasColumn c ((xs ++ s ∷ []) ++ ys) ↔ HasColumn c (xs ++ t ∷ ys)
between_both c s t xs ys same = (
  λ h.
      elim (has_cases c (xs ++ s ∷ []) ys h) [
        | inl left ↦
            elim (has_cases c xs (s ∷ []) left) [
              | inl first ↦ has_left c xs (t ∷ ys) first
              | inr (inl e) ↦ has_right c xs (t ∷ ys) (inl (sym same ∙ e))
              | inr (inr none) ↦ absurd none
            ]
        | inr right ↦ has_right c xs (t ∷ ys) (inr right)
      ],
  λ h.
      elim (has_cases c xs (t ∷ ys) h) [
        | inl left ↦ has_left c (xs ++ s ∷ []) ys (has_left c xs (s ∷ []) left)
        | inr (inl e) ↦ has_left c (xs ++ s ∷ []) ys (has_right c xs (s ∷ []) (inl (same ∙ e)))
        | inr (inr right) ↦ has_right c (xs ++ s ∷ []) ys right
      ],
)

-- ---- w in the lists

turned : {P Q : Type 0} → P ↔ Q → Q ↔ P
turned f = (f.1, f.0)

listed_with : (w c : ℕ) (row more : List Term) (old new : List Column) → IsListedAt w row old → IsChangedAt (IsWith w) c old new
    → ((d : ℕ) → d ≢ c → HasColumn d more ↔ HasColumn d row) → HasColumn c more → IsListedAt w more new
listed_with w c row more old new is changed alike here = record {
  rising = λ d.
      elim (cases_eq d c) [
        | inl e ↦ subst (λ (n : ℕ). IsRisingList (list_at new n)) (sym e) changed.here.rising
        | inr other ↦ subst IsRisingList (sym (changed.elsewhere d other)) (is.rising d)
      ];
  listed = λ d.
      elim (cases_eq d c) [
        | inl e ↦ subst (λ (n : ℕ). Contains (list_at new n) w ↔ HasColumn n more) (sym e) (λ _. here, λ _. changed.here.has)
        | inr other ↦
            subst (λ (list : List ℕ). Contains list w ↔ HasColumn d more) (sym (changed.elsewhere d other))
            (both_ways (is.listed d) (turned (alike d other)))
      ];
}

listed_without : (w c : ℕ) (row less : List Term) (old new : List Column) → IsListedAt w row old → IsChangedAt (IsWithout w) c old new
    → ((d : ℕ) → d ≢ c → HasColumn d less ↔ HasColumn d row) → (HasColumn c less → ⊥) → IsListedAt w less new
listed_without w c row less old new is changed alike none = record {
  rising = λ d.
      elim (cases_eq d c) [
        | inl e ↦ subst (λ (n : ℕ). IsRisingList (list_at new n)) (sym e) changed.here.rising
        | inr other ↦ subst IsRisingList (sym (changed.elsewhere d other)) (is.rising d)
      ];
  listed = λ d.
      elim (cases_eq d c) [
        | inl e ↦ subst (λ (n : ℕ). Contains (list_at new n) w ↔ HasColumn n less) (sym e) (λ h. absurd (changed.here.gone h), λ h. absurd (none h))
        | inr other ↦
            subst (λ (list : List ℕ). Contains list w ↔ HasColumn d less) (sym (changed.elsewhere d other))
            (both_ways (is.listed d) (turned (alike d other)))
      ];
}

listed_alike : (w : ℕ) (row more : List Term) (lists : List Column) → IsListedAt w row lists → ((d : ℕ) → HasColumn d more ↔ HasColumn d row) → IsListedAt w more lists
listed_alike w row more lists is alike = record {
  rising = is.rising;
  listed = λ d. both_ways (is.listed d) (turned (alike d));
}

pub same_with : (w c : ℕ) (old new : List Column) → IsChangedAt (IsWith w) c old new → IsSameBut w old new
same_with w c old new changed = record {
  lengths = changed.lengths;
  others = λ d v other.
      elim (cases_eq d c) [
        | inl e ↦ subst (λ (n : ℕ). Contains (list_at new n) v ↔ Contains (list_at old n) v) (sym e) (changed.here.others v other)
        | inr q ↦ subst (λ (list : List ℕ). Contains list v ↔ Contains (list_at old d) v) (sym (changed.elsewhere d q)) (λ h. h, λ h. h)
      ];
}

pub same_without : (w c : ℕ) (old new : List Column) → IsChangedAt (IsWithout w) c old new → IsSameBut w old new
same_without w c old new changed = record {
  lengths = changed.lengths;
  others = λ d v other.
      elim (cases_eq d c) [
        | inl e ↦ subst (λ (n : ℕ). Contains (list_at new n) v ↔ Contains (list_at old n) v) (sym e) (changed.here.others v other)
        | inr q ↦ subst (λ (list : List ℕ). Contains list v ↔ Contains (list_at old d) v) (sym (changed.elsewhere d q)) (λ h. h, λ h. h)
      ];
}

pub same_then : (w : ℕ) (old mid new : List Column) → IsSameBut w old mid → IsSameBut w mid new → IsSameBut w old new
same_then w old mid new first second = record {
  lengths = second.lengths ∙ first.lengths;
  others = λ c v other. both_ways (second.others c v other) (first.others c v other);
}

-- ---- the steps

pub read_at : (row : List Term) (i : ℕ) (d : Term) → i < length row → (get_or row i d).col ≡ column_at row i
read_at row i d within = ap (λ (t : Term). t.col) (get_or_default row i d nothing within)

-- the old row has the next column
old_mid : (old new : List Term) (i j : ℕ) → i < length old → take j new ++ drop i old ≡ take j new ++ get_or old i nothing ∷ drop (i + 1) old
old_mid old new i j within =
    let next : suc i ≡ i + 1 = omega arith in
    ap (λ (ys : List Term). take j new ++ ys)
    (drop-cons old i nothing within ∙ ap (λ (n : ℕ). get_or old i nothing ∷ drop n old) next)

new_mid : (old new : List Term) (i j : ℕ) → j < length new → take (j + 1) new ++ drop i old ≡ (take j new ++ get_or new j nothing ∷ []) ++ drop i old
new_mid old new i j within = ap (λ (xs : List Term). xs ++ drop i old) (take_more new j nothing within)

-- no later entry of a row that rises has the column
later_none : (old : List Term) (i : ℕ) → IsRising old → i < length old → All (λ t. t.col ≢ column_at old i) (drop (i + 1) old)
later_none old i rising within k d inside same =
    let inside_old : i + 1 + k < length old = omega (arith, inside, length-drop (i + 1) old) in
    let less : column_at old i < (get_or old (i + 1 + k) nothing).col = rising i (i + 1 + k) nothing (omega arith) inside_old in
    let read : get_or (drop (i + 1) old) k d ≡ get_or old (i + 1 + k) nothing = get_or-drop (i + 1) old k d ∙ get_or_default old (i + 1 + k) d nothing inside_old in
    omega (arith, less, same, ap (λ (t : Term). t.col) read)

behind_none : (out row : List Term) (i : ℕ) → IsBehind out row i → i < length row → All (λ t. t.col ≢ column_at row i) out
behind_none out row i behind within k d inside same = omega (arith, behind k d inside i (omega arith) within, same)

old_none : (old new : List Term) (i j : ℕ) → IsRising old → IsBehind (take j new) old i → i < length old → HasColumn (column_at old i) (take j new ++ drop (i + 1) old) → ⊥
old_none old new i j rising behind within h =
    elim (has_cases (column_at old i) (take j new) (drop (i + 1) old) h) [
      | inl left ↦ has_none (column_at old i) (take j new) (behind_none (take j new) old i behind within) left
      | inr right ↦ has_none (column_at old i) (drop (i + 1) old) (later_none old i rising within) right
    ]

behind_later : (out row : List Term) (i : ℕ) → IsBehind out row i → IsBehind out row (i + 1)
behind_later out row i behind k d inside m le within = behind k d inside m (omega arith) within

pub old_step : (change : RowChange) (i j : ℕ) (lists next : List Column) (c : ℕ) → IsRising change.old.now → IsNext change.old.now i change.new.now j → c ≡ column_at change.old.now i
    → IsRelisted change i j lists → IsChangedAt (IsWithout change.w) c lists next → IsRelisted change (i + 1) j next
old_step change i j lists next c rising first col is changed =
    let old : List Term = change.old.now in
    let new : List Term = change.new.now in
    record {
      old_within = omega (arith, first.within);
      new_within = is.new_within;
      behind = behind_later (take j new) old i is.behind;
      listed =
          listed_without change.w c (take j new ++ drop i old) (take j new ++ drop (i + 1) old) lists next is.listed changed
          (λ d other.
          subst (λ (row : List Term). HasColumn d (take j new ++ drop (i + 1) old) ↔ HasColumn d row) (sym (old_mid old new i j first.within))
          (between_without d (get_or old i nothing) (take j new) (drop (i + 1) old) (λ e. other (e ∙ sym col))))
          (λ h. old_none old new i j rising is.behind first.within (subst (λ (n : ℕ). HasColumn n (take j new ++ drop (i + 1) old)) col h));
    }

later_old : (old : List Term) (i m col : ℕ) → IsRising old → col < column_at old i → i ≤ m → m < length old → col < column_at old m
later_old old i m col rising less le within =
    elim (cases_lt i m) [
      | inl later ↦ omega (arith, less, rising i m nothing later within)
      | inr ge ↦
          let same : i ≡ m = omega (arith, le, ge) in
          subst (λ (n : ℕ). col < column_at old n) same less
    ]

-- one more entry, whose column is below those that follow
behind_push : (new row : List Term) (i j : ℕ) → j < length new → IsBehind (take j new) row i
    → ((m : ℕ) → i ≤ m → m < length row → column_at new j < column_at row m) → IsBehind (take (j + 1) new) row i
behind_push new row i j within behind ahead =
    let Behind : Term → Type 0 = λ (t : Term). (m : ℕ) → i ≤ m → m < length row → t.col < column_at row m in
    subst (λ (out : List Term). All Behind out) (sym (take_more new j nothing within))
    (All-push Behind (take j new) (get_or new j nothing) behind ahead)

pub new_step : (change : RowChange) (i j : ℕ) (lists next : List Column) (c : ℕ) → IsRising change.old.now → IsNext change.new.now j change.old.now i → c ≡ column_at change.new.now j
    → IsRelisted change i j lists → IsChangedAt (IsWith change.w) c lists next → IsRelisted change i (j + 1) next
new_step change i j lists next c rising first col is changed =
    let old : List Term = change.old.now in
    let new : List Term = change.new.now in
    record {
      old_within = is.old_within;
      new_within = omega (arith, first.within);
      behind =
          behind_push new old i j first.within is.behind
          (λ m le within. later_old old i m (column_at new j) rising (first.first (omega (arith, le, within))) le within);
      listed =
          listed_with change.w c (take j new ++ drop i old) (take (j + 1) new ++ drop i old) lists next is.listed changed
          (λ d other.
          subst (λ (row : List Term). HasColumn d row ↔ HasColumn d (take j new ++ drop i old)) (sym (new_mid old new i j first.within))
          (between_with d (get_or new j nothing) (take j new) (drop i old) (λ e. other (e ∙ sym col))))
          (subst (λ (row : List Term). HasColumn c row) (sym (new_mid old new i j first.within))
          (subst (λ (n : ℕ). HasColumn n ((take j new ++ get_or new j nothing ∷ []) ++ drop i old)) (sym col)
          (with_here (get_or new j nothing) (take j new) (drop i old))));
    }

pub both_step : (change : RowChange) (i j : ℕ) (lists : List Column) → IsRising change.old.now → IsNextInBoth change.old.now i change.new.now j
    → IsRelisted change i j lists → IsRelisted change (i + 1) (j + 1) lists
both_step change i j lists rising both is =
    let old : List Term = change.old.now in
    let new : List Term = change.new.now in
    record {
      old_within = omega (arith, both.left_within);
      new_within = omega (arith, both.right_within);
      behind =
          behind_push new old (i + 1) j both.right_within (behind_later (take j new) old i is.behind)
          (λ m le within. omega (arith, both.one_column, rising i m nothing (omega (arith, le)) within));
      listed =
          listed_alike change.w (take j new ++ drop i old) (take (j + 1) new ++ drop (i + 1) old) lists is.listed
          (λ d.
          subst (λ (row : List Term). HasColumn d (take (j + 1) new ++ drop (i + 1) old) ↔ HasColumn d row) (sym (old_mid old new i j both.left_within))
          (subst (λ (row : List Term). HasColumn d row ↔ HasColumn d (take j new ++ get_or old i nothing ∷ drop (i + 1) old)) (sym (new_mid old new (i + 1) j both.right_within))
          (between_both d (get_or new j nothing) (get_or old i nothing) (take j new) (drop (i + 1) old) (sym both.one_column))));
    }

-- the next column of the old row has a list
pub has_list : (change : RowChange) (i j : ℕ) (lists : List Column) → i < length change.old.now → IsRelisted change i j lists → column_at change.old.now i < length lists
has_list change i j lists within is =
    let old : List Term = change.old.now in
    let new : List Term = change.new.now in
    let here : HasColumn (column_at old i) (take j new ++ drop i old) =
    subst (HasColumn (column_at old i)) (sym (old_mid old new i j within))
    (has_right (column_at old i) (take j new) (get_or old i nothing ∷ drop (i + 1) old) (inl refl)) in
    listed_within lists (column_at old i) change.w ((is.listed.listed (column_at old i)).1 here)
