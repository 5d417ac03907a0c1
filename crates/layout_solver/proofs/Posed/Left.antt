-- The problem that is left where rows and attributes leave: one after the other, or all at once.
use Rattle.std.proofs.Common.{◌≡◌, ◌||◌, ℕ, ◌+◌, ◌<◌, Bool, true, false, cond, not, List, [], ◌∷◌, ◌++◌, length, take, filter, get_or, nat_eq, refl, sym, ap, ◌∙◌, inl, inr, append-nil, eq-eqb, ne_eqb}
use Rattle.std.proofs.lemmas.Bool.{cases_eq}
use Rattle.std.proofs.lemmas.List.Elements.{filter_more}
use Rattle.problem_core.specs.declared.parts.Stay.{Stay}
use Rattle.problem_core.specs.Layout.{Row, Problem}
use Rattle.corner_lines.specs.Removals.{without_attr, without_row}
use Rattle.corner_view.proofs.Facts.{made_problem}
use Rattle.layout_solver.specs.Removals.{Leaving, is_among, other_rows, other_stays, without, without_attrs, without_rows}

symmetric : (a b : ℕ) → nat_eq a b ≡ nat_eq b a
symmetric a b = elim (cases_eq a b) [
  | inl same ↦ eq-eqb a b same ∙ sym (eq-eqb b a (sym same))
  | inr other ↦ ne_eqb a b other ∙ sym (ne_eqb b a (λ e. other (sym e)))
]

module _ {X : Type 0} (number : X → ℕ) where
  -- the elements that have none of these numbers
  abbrev pub others : List ℕ → List X → List X
  others ns xs = filter (λ x. not (is_among ns (number x))) xs

  abbrev without_one : ℕ → List X → List X
  without_one n xs = filter (λ x. cond (nat_eq (number x) n) false true) xs

  others-none : (xs : List X) → xs ≡ others [] xs
  others-none [] = refl
  others-none (x ∷ xs) = ap (λ ys. x ∷ ys) (others-none xs)

  others-more : (n : ℕ) (ns : List ℕ) (xs : List X) → others ns (without_one n xs) ≡ others (n ∷ ns) xs
  others-more n ns [] = refl
  others-more n ns (x ∷ xs) = by (nat_eq (number x) n) refl (others-more n ns xs)
    where
      by : (b : Bool) → nat_eq (number x) n ≡ b → others ns (without_one n xs) ≡ others (n ∷ ns) xs
          → others ns (cond (cond (nat_eq (number x) n) false true) (x ∷ without_one n xs) (without_one n xs)) ≡ cond (not (nat_eq n (number x) || is_among ns (number x))) (x ∷ others (n ∷ ns) xs) (others (n ∷ ns) xs)
      by true e rest =
          ap (λ b. others ns (cond (cond b false true) (x ∷ without_one n xs) (without_one n xs))) e ∙ rest
          ∙ sym (ap (λ b. cond (not (b || is_among ns (number x))) (x ∷ others (n ∷ ns) xs) (others (n ∷ ns) xs)) (symmetric n (number x) ∙ e))
      by false e rest =
          ap (λ b. others ns (cond (cond b false true) (x ∷ without_one n xs) (without_one n xs))) e
          ∙ ap (λ ys. cond (not (is_among ns (number x))) (x ∷ ys) ys) rest
          ∙ sym (ap (λ b. cond (not (b || is_among ns (number x))) (x ∷ others (n ∷ ns) xs) (others (n ∷ ns) xs)) (symmetric n (number x) ∙ e))

without-rows : (ids : List ℕ) (p : Problem) → without_rows ids p ≡ made_problem (other_rows ids p.rows) p.stays
without-rows [] p = ap (λ rows. made_problem rows p.stays) (others-none (λ (r : Row). r.id) p.rows)
without-rows (id ∷ ids) p = without-rows ids (without_row id p) ∙ ap (λ rows. made_problem rows p.stays) (others-more (λ (r : Row). r.id) id ids p.rows)

without-attrs : (attrs : List ℕ) (p : Problem) → without_attrs attrs p ≡ made_problem p.rows (other_stays attrs p.stays)
without-attrs [] p = ap (λ stays. made_problem p.rows stays) (others-none (λ (s : Stay). s.attr) p.stays)
without-attrs (attr ∷ attrs) p = without-attrs attrs (without_attr attr p) ∙ ap (λ stays. made_problem p.rows stays) (others-more (λ (s : Stay). s.attr) attr attrs p.stays)

pub without-is : (l : Leaving) (p : Problem) → without l p ≡ made_problem (other_rows l.rows p.rows) (other_stays l.attrs p.stays)
without-is l p = without-attrs l.attrs (without_rows l.rows p) ∙ ap (λ (q : Problem). made_problem q.rows (other_stays l.attrs q.stays)) (without-rows l.rows p)

-- ---- elements of others, one after the other

module _ {X : Type 0} (p : X → Bool) (xs : List X) (i : ℕ) (x : X) (old new : List X) (within : i < length xs) (read : x ≡ get_or xs i x) (before : old ≡ filter p (take i xs)) where
  pub kept-next : p x ≡ true → new ≡ old ++ x ∷ [] → new ≡ filter p (take (i + 1) xs)
  kept-next is pushed =
      pushed ∙ ap (λ ys. ys ++ x ∷ []) before ∙ ap (λ b. filter p (take i xs) ++ cond b (x ∷ []) []) (sym is)
      ∙ ap (λ y. filter p (take i xs) ++ cond (p y) (y ∷ []) []) read ∙ sym (filter_more p xs i x within)

  pub left-next : p x ≡ false → new ≡ old → new ≡ filter p (take (i + 1) xs)
  left-next is same =
      same ∙ before ∙ sym (append-nil (filter p (take i xs))) ∙ ap (λ b. filter p (take i xs) ++ cond b (x ∷ []) []) (sym is)
      ∙ ap (λ y. filter p (take i xs) ++ cond (p y) (y ∷ []) []) read ∙ sym (filter_more p xs i x within)
