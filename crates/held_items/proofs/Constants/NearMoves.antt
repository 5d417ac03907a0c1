-- Which constants move, and whether they are near.
use Rattle.std.proofs.Common.{◌≡◌, ◌≢◌, ◌∙◌, inl, inr, ℕ, zero, suc, ◌+◌, ◌<◌, List, [], ◌∷◌, ◌++◌, length, take, get_or, refl, sym, ap, subst, arith, All, AllPairs, Any}
use Rattle.std.specs.List.{AllByRecursion as Each}
use Rattle.std.proofs.lemmas.Bool.{cases_lt}
use Rattle.std.proofs.lemmas.List.{get_or_default, take_more}
use Rattle.std.proofs.lemmas.List.Elements.{All-head, All-tail}
use Rattle.frac_core.specs.Fraction.{Fraction}
use Rattle.frac_core.proofs.Lists.{each-onto_map}
use Rattle.problem_core.specs.Layout.{Row}
use Rattle.constraint_compile.specs.Compiled.{IsFittingSum}
use Rattle.compile_parts.specs.Fractions.{plus, negated}
use Rattle.constraint_compile.specs.declared.naming.RowConstant.{RowConstant}
use Rattle.layout_solver.specs.declared.engine.Change.{Change}
use Rattle.held_items.specs.Moving.{AreNear, IsNear}
use Rattle.held_items.specs.Moving.{IsStill, IsMoved, IsFar, AreMoves, IsPushed, change_to}
use Rattle.held_items.proofs.Constants.ConstantChanges.{AreChanges, above-after, change, each-change}
use Rattle.held_items.proofs.Constants.MovedRows.{changes_to}
use Rattle.held_items.proofs.Constants.Nears.{still-near}

-- ---- constant by constant

moves-still : (rows : List Row) (cs : List RowConstant) (to : List Change) (c : RowConstant) → AreMoves rows cs to → IsStill rows c → AreMoves rows (cs ++ c ∷ []) to
moves-still rows [] to c are is = inl (is, are)
moves-still rows (x ∷ cs) to c (inl (x_is, are)) is = inl (x_is, moves-still rows cs to c are is)
moves-still rows (x ∷ cs) to c (inr (x_is, (rest, e, are))) is = inr (x_is, (rest, e, moves-still rows cs rest c are is))

moves-moved : (rows : List Row) (cs : List RowConstant) (to : List Change) (c : RowConstant) → AreMoves rows cs to → IsMoved rows c → AreMoves rows (cs ++ c ∷ []) (to ++ change_to c ∷ [])
moves-moved rows [] to c are is = inr (is, ([], ap (λ (cs : List Change). cs ++ change_to c ∷ []) are, refl))
moves-moved rows (x ∷ cs) to c (inl (x_is, are)) is = inl (x_is, moves-moved rows cs to c are is)
moves-moved rows (x ∷ cs) to c (inr (x_is, (rest, e, are))) is = inr (x_is, (rest ++ change_to c ∷ [], ap (λ (cs : List Change). cs ++ change_to c ∷ []) e, moves-moved rows cs rest c are is))

moves-more : (rows : List Row) (cs : List RowConstant) (old new : List Change) (c : RowConstant) → AreMoves rows cs old → IsPushed rows c old new → AreMoves rows (cs ++ c ∷ []) new
moves-more rows cs old new c are (inl (is, e)) = subst (AreMoves rows (cs ++ c ∷ [])) (sym e) (moves-still rows cs old c are is)
moves-more rows cs old new c are (inr (is, e)) = subst (AreMoves rows (cs ++ c ∷ [])) (sym e) (moves-moved rows cs old c are is)

-- with the next of the constants
pub moves-next : (rows : List Row) (cs : List RowConstant) (i : ℕ) (c : RowConstant) (old new : List Change) → i < length cs → c ≡ get_or cs i c → AreMoves rows (take i cs) old → IsPushed rows c old new → AreMoves rows (take (i + 1) cs) new
moves-next rows cs i c old new within read are pushed =
    subst (λ (xs : List RowConstant). AreMoves rows xs new) (sym (take_more cs i c within ∙ ap (λ (x : RowConstant). take i cs ++ x ∷ []) (sym read)))
    (moves-more rows (take i cs) old new c are pushed)

-- ---- one row has the number

pub one-place : (rows : List Row) → AllPairs (λ r s. r.id < s.id) rows → (i j : ℕ) (d e : Row) → i < length rows → j < length rows → (get_or rows i d).id ≡ (get_or rows j e).id → i ≡ j
one-place rows rising i j d e in_i in_j same =
    let same_d : (get_or rows i d).id ≡ (get_or rows j d).id = same ∙ ap (λ (r : Row). r.id) (get_or_default rows j e d in_j) in
    elim (cases_lt i j) [
      | inl less ↦ absurd (let up : (get_or rows i d).id < (get_or rows j d).id = rising i j d less in_j in omega (arith, up, same_d))
      | inr ge ↦ elim (cases_lt j i) [
        | inl more ↦ absurd (let up : (get_or rows j d).id < (get_or rows i d).id = rising j i d more in_i in omega (arith, up, same_d))
        | inr le ↦ omega (arith, ge, le)
      ]
    ]

-- what holds of the row at a place holds of each row of its number
pub one-row : (P : Row → Type 0) (rows : List Row) (i : ℕ) (d : Row) → AllPairs (λ r s. r.id < s.id) rows → i < length rows → P (get_or rows i d) → All (λ r. r.id ≡ (get_or rows i d).id → P r) rows
one-row P rows i d rising within here k e inside same =
    let at : k ≡ i = one-place rows rising k i e d inside within same in
    subst P (sym (ap (λ (j : ℕ). get_or rows j e) at ∙ get_or_default rows i e d within)) here

-- ---- the constant of one row

module _ (rows : List Row) (i : ℕ) (r : Row) (c : RowConstant) (rising : AllPairs (λ a b. a.id < b.id) rows) (within : i < length rows) (read : r ≡ get_or rows i r) (own : (d : Row) → (get_or rows i d).id ≡ c.row) where
  of-row : (P : Row → Type 0) → P r → All (λ s. s.id ≡ c.row → P s) rows
  of-row P here = subst (λ (n : ℕ). All (λ s. s.id ≡ n → P s) rows) (own r) (one-row P rows i r rising within (subst P read here))

  pub held-still : r.constant ≡ c.constant → IsStill rows c
  held-still same = of-row (λ s. s.constant ≡ c.constant) same

  pub held-moved : r.constant ≢ c.constant → IsFittingSum (plus c.constant (negated r.constant)) → IsMoved rows c
  held-moved other near = of-row (λ s. (s.constant ≢ c.constant) × IsFittingSum (plus c.constant (negated s.constant))) (other, near)

-- ---- the changes without those to what is held

-- fewer rows
moves-tail : (r : Row) (rows : List Row) (cs : List RowConstant) (to : List Change) → AreMoves (r ∷ rows) cs to → AreMoves rows cs to
moves-tail r rows [] to are = are
moves-tail r rows (c ∷ cs) to (inl (is, are)) = inl (All-tail (λ (s : Row). s.id ≡ c.row → s.constant ≡ c.constant) r rows is, moves-tail r rows cs to are)
moves-tail r rows (c ∷ cs) to (inr (is, (rest, e, are))) =
    inr (All-tail (λ (s : Row). s.id ≡ c.row → (s.constant ≢ c.constant) × IsFittingSum (plus c.constant (negated s.constant))) r rows is, (rest, e, moves-tail r rows cs rest are))

no-constants : (cs : List RowConstant) (to : List Change) → changes_to cs ≡ [] → AreMoves [] cs to → to ≡ []
no-constants [] to none are = are
no-constants (c ∷ cs) to none are = cc

same-head : {X : Type 0} (x y : X) (xs ys : List X) → x ∷ xs ≡ y ∷ ys → x ≡ y
same-head x y xs ys e = cc

same-tail : {X : Type 0} (x y : X) (xs ys : List X) → x ∷ xs ≡ y ∷ ys → xs ≡ ys
same-tail x y xs ys e = cc

-- of the first row, where the rest is known
first-moved : (b a : Row) (xs ys : List Row) (c : RowConstant) (cs : List RowConstant) (to : List Change) → change_to c ≡ change b.id a.constant → ((t : List Change) → AreMoves xs cs t → AreChanges xs ys t) → AreMoves (b ∷ xs) (c ∷ cs) to
    → AreChanges (b ∷ xs) (a ∷ ys) to
first-moved b a xs ys c cs to own later (inl (is, left)) =
    inl (
      All-head (λ (s : Row). s.id ≡ c.row → s.constant ≡ c.constant) b xs is (sym (ap (λ (x : Change). x.row) own)) ∙ ap (λ (x : Change). x.constant) own,
      later to (moves-tail b xs cs to left),
    )
first-moved b a xs ys c cs to own later (inr (is, (rest, made, left))) = inr (rest, made ∙ ap (λ (x : Change). x ∷ rest) own, later rest (moves-tail b xs cs rest left))

pub moved-changes : (xs ys : List Row) (cs : List RowConstant) (to : List Change) → AreChanges xs ys (changes_to cs) → AreMoves xs cs to → AreChanges xs ys to
moved-changes [] [] cs to are moves = no-constants cs to are moves
moved-changes [] (a ∷ ys) cs to are moves = absurd are
moved-changes (b ∷ xs) [] cs to are moves = absurd are
moved-changes (b ∷ xs) (a ∷ ys) cs to (inl (e, are)) moves = inl (e, moved-changes xs ys cs to are (moves-tail b xs cs to moves))
moved-changes (b ∷ xs) (a ∷ ys) [] to (inr (more, e, are)) moves = cc
moved-changes (b ∷ xs) (a ∷ ys) (c ∷ cs) to (inr (more, e, are)) moves =
    let rest : AreChanges xs ys (changes_to cs) = subst (AreChanges xs ys) (sym (same-tail (change_to c) (change b.id a.constant) (changes_to cs) more e)) are in
    first-moved b a xs ys c cs to (same-head (change_to c) (change b.id a.constant) (changes_to cs) more e) (λ t left. moved-changes xs ys cs t rest left) moves

-- ---- near

abbrev IsNearBy : List Row → ℕ → Fraction → Type 0
IsNearBy rows n f = All (λ r. r.id ≡ n → IsFittingSum (plus f (negated r.constant))) rows

each-near : (rows : List Row) (cs : List RowConstant) (to : List Change) → AreMoves rows cs to → Each (λ c. IsNearBy rows c.row c.constant) to
each-near rows [] to are = subst (Each (λ (c : Change). IsNearBy rows c.row c.constant)) (sym are) tt
each-near rows (c ∷ cs) to (inl (is, are)) = each-near rows cs to are
each-near rows (c ∷ cs) to (inr (is, (rest, e, are))) = subst (Each (λ (c : Change). IsNearBy rows c.row c.constant)) (sym e) ((λ k d within same. (is k d within same).1), each-near rows cs rest are)

near-tail : (r : Row) (rows : List Row) (to : List Change) → Each (λ c. IsNearBy (r ∷ rows) c.row c.constant) to → Each (λ c. IsNearBy rows c.row c.constant) to
near-tail r rows [] near = tt
near-tail r rows (c ∷ to) near = (All-tail (λ (s : Row). s.id ≡ c.row → IsFittingSum (plus c.constant (negated s.constant))) r rows near.0, near-tail r rows to near.1)

changes-long : (xs ys : List Row) (to : List Change) → AreChanges xs ys to → length ys ≡ length xs
changes-long [] [] to are = refl
changes-long [] (y ∷ ys) to are = absurd are
changes-long (x ∷ xs) [] to are = absurd are
changes-long (x ∷ xs) (y ∷ ys) to (inl (e, are)) = ap suc (changes-long xs ys to are)
changes-long (x ∷ xs) (y ∷ ys) to (inr (more, e, are)) = ap suc (changes-long xs ys more are)

changes-near : (xs ys : List Row) (to : List Change) → AreChanges xs ys to → Each (λ c. IsNearBy xs c.row c.constant) to → (i : ℕ) (b a : Row) → i < length xs → IsNear (get_or xs i b) (get_or ys i a)
changes-near [] ys to are near i b a within = absurd (omega (arith, within))
changes-near (x ∷ xs) [] to are near i b a within = absurd are
changes-near (x ∷ xs) (y ∷ ys) to (inl (e, are)) near zero b a within = still-near x.constant y.constant e
changes-near (x ∷ xs) (y ∷ ys) to (inl (e, are)) near (suc i) b a within = changes-near xs ys to are (near-tail x xs to near) i b a (omega (arith, within))
changes-near (x ∷ xs) (y ∷ ys) to (inr (more, e, are)) near zero b a within =
    All-head (λ (s : Row). s.id ≡ x.id → IsFittingSum (plus y.constant (negated s.constant))) x xs (subst (Each (λ (c : Change). IsNearBy (x ∷ xs) c.row c.constant)) e near).0 refl
changes-near (x ∷ xs) (y ∷ ys) to (inr (more, e, are)) near (suc i) b a within =
    changes-near xs ys more are (near-tail x xs more (subst (Each (λ (c : Change). IsNearBy (x ∷ xs) c.row c.constant)) e near).1) i b a (omega (arith, within))

-- the rows after the moves are near
pub moves-near : (xs ys : List Row) (cs : List RowConstant) (to : List Change) → AreChanges xs ys (changes_to cs) → AreMoves xs cs to → AreNear xs ys
moves-near xs ys cs to are moves = record {
  long = changes-long xs ys (changes_to cs) are;
  each = changes-near xs ys to (moved-changes xs ys cs to are moves) (each-near xs cs to moves);
}

-- one that is far is not near
pub far-moves : (xs ys : List Row) (cs : List RowConstant) → AllPairs (λ r s. r.id < s.id) xs → AreChanges xs ys (changes_to cs) → Any (IsFar xs) cs → AreNear xs ys → ⊥
far-moves xs ys cs rising are (k, c, within, c_is, (j, r, inside, r_is, (same, far))) near =
    far (subst (λ (s : Row). IsFittingSum (plus c.constant (negated s.constant))) r_is (by j r inside (ap (λ (s : Row). s.id) r_is ∙ same)))
  where
    each : Each (λ c. IsNearBy xs c.row c.constant) (changes_to cs)
    each = each-change (IsNearBy xs) xs ys (changes_to cs) are
        (λ i b a in_i. one-row (λ s. IsFittingSum (plus (get_or ys i a).constant (negated s.constant))) xs i b rising in_i (near.each i b a in_i))

    by : IsNearBy xs c.row c.constant
    by = subst (λ (x : RowConstant). IsNearBy xs x.row x.constant) c_is (at cs k within each)
      where
        at : (ds : List RowConstant) (i : ℕ) → i < length ds → Each (λ d. IsNearBy xs d.row d.constant) (changes_to ds) → IsNearBy xs (get_or ds i c).row (get_or ds i c).constant
        at [] i in_i h = absurd (omega (arith, in_i))
        at (d ∷ ds) zero in_i h = h.0
        at (d ∷ ds) (suc i) in_i h = at ds i (omega (arith, in_i)) h.1

-- ---- denominators

pub above-zero : (xs ys : List Row) (cs : List RowConstant) → AreChanges xs ys (changes_to cs) → Each (λ c. 0 < c.constant.den) cs → Each (λ r. 0 < r.constant.den) xs → Each (λ r. 0 < r.constant.den) ys
above-zero xs ys cs are of_cs of_xs = above-after xs ys (changes_to cs) are of_xs (each-onto_map (λ (c : Change). 0 < c.constant.den) change_to cs of_cs)
