-- A conflict, pieces and a conflict as a sweep.
use Rattle.std.proofs.Common.{◌≡◌, ◌∙◌, ◌⊎◌, inl, inr, ℕ, ◌≤◌, true, List, [], ◌∷◌, ◌++◌, length, refl, sym, ap, subst, append-nil, append_assoc, All}
use Rattle.std.specs.List.{AllByRecursion as Each}
use Rattle.std.proofs.lemmas.List.Elements.{All-from_recursion}
use Rattle.frac_core.specs.Fraction.{Fraction}
use Rattle.frac_core.proofs.Lists.{each-joined}
use Rattle.problem_core.specs.Layout.{Problem}
use Rattle.sweep_laws.specs.Stretches.{AreRight, Cover, IsClash, IsInForm, IsLong, IsPieceOf, IsSweep, Stretch}
use Rattle.sweep_param.proofs.Covers.{Steps, steps-append, steps-cover}

-- at most one conflict
pub record IsOne (clash : List Stretch) : Type 0 where
  pub few : length clash ≤ 1
  pub are : Each IsClash clash

pub record ArePieces (pieces : List Stretch) : Type 0 where
  pub are : Each IsPieceOf pieces
  pub long : Each IsLong pieces

none-of-two : (xs ys : List Stretch) → xs ≡ [] → ys ≡ [] → (l : List Stretch) → length l ≡ 1 → length (xs ++ (l ++ ys)) ≡ 1
none-of-two xs ys d e l one = ap (λ (zs : List Stretch). length (zs ++ (l ++ ys))) d ∙ ap (λ (zs : List Stretch). length (l ++ zs)) e ∙ (ap length (append-nil l) ∙ one)

module _ (p : Problem) (row : ℕ) (from mid to : Fraction) (before first lone second behind : List Stretch) where
  abbrev total : List Stretch
  total = (before ++ first) ++ (lone ++ (second ++ behind))

  abbrev pieces : List Stretch
  pieces = first ++ (lone ++ second)

  in-parts : total ≡ before ++ (pieces ++ behind)
  in-parts =
      append_assoc before first (lone ++ (second ++ behind))
      ∙ ap (λ (xs : List Stretch). before ++ xs)
      (ap (λ (xs : List Stretch). first ++ xs) (sym (append_assoc lone second behind)) ∙ sym (append_assoc first (lone ++ second) behind))

  covered : (xs : List Stretch) → Steps from to xs → (xs ≡ [] → ⊥) → Cover from to xs
  covered [] h some = absurd (some refl)
  covered (s ∷ xs) h some = steps-cover from to s xs h

  pub record IsAssembly : Type 0 where
    pub down : Steps from mid (before ++ first)
    pub here : Steps mid mid lone
    pub up : Steps mid to (second ++ behind)
    pub one_before : IsOne before
    pub one_behind : IsOne behind
    pub first_are : ArePieces first
    pub second_are : ArePieces second
    pub lone_is : Each IsPieceOf lone
    pub only : (lone ≡ []) ⊎ ((length lone ≡ 1) × (first ≡ []) × (second ≡ []))
    pub apart : pieces ≡ [] → (before ≡ []) ⊎ (behind ≡ [])
    pub long : (length total ≡ 1) ⊎ (Each IsLong before × Each IsLong behind)
    pub some : total ≡ [] → ⊥

  long-pieces : (lone ≡ []) ⊎ ((length lone ≡ 1) × (first ≡ []) × (second ≡ [])) → Each IsLong first → Each IsLong second → (length pieces ≡ 1) ⊎ All IsLong pieces
  long-pieces (inl none) a b =
      inr (All-from_recursion IsLong pieces (each-joined IsLong first (lone ++ second) a (subst (λ (xs : List Stretch). Each IsLong (xs ++ second)) (sym none) b)))
  long-pieces (inr (one, none, nothing)) a b = inl (none-of-two first second none nothing lone one)

  long-clashes : (length total ≡ 1) ⊎ (Each IsLong before × Each IsLong behind) → (length total ≡ 1) ⊎ (All IsLong before × All IsLong behind)
  long-clashes (inl one) = inl one
  long-clashes (inr (a, b)) = inr (All-from_recursion IsLong before a, All-from_recursion IsLong behind b)

  in-form : IsAssembly → IsInForm total
  in-form a = record {
    before = before;
    pieces = pieces;
    behind = behind;
    parts = in-parts;
    few_before = (a.one_before.few, All-from_recursion IsClash before a.one_before.are);
    few_behind = (a.one_behind.few, All-from_recursion IsClash behind a.one_behind.are);
    are_pieces = All-from_recursion IsPieceOf pieces (each-joined IsPieceOf first (lone ++ second) a.first_are.are (each-joined IsPieceOf lone second a.lone_is a.second_are.are));
    apart = a.apart;
    long_pieces = long-pieces a.only a.first_are.long a.second_are.long;
    long_clashes = long-clashes a.long;
  }

  pub assembled : AreRight p row true total → IsAssembly → IsSweep p row from to total
  assembled right a = record {
    covers = covered total (steps-append from mid to (before ++ first) (lone ++ (second ++ behind)) a.down (steps-append mid mid to lone (second ++ behind) a.here a.up)) a.some;
    right = right;
    form = in-form a;
  }
