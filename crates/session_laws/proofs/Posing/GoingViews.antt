-- The views that go with one are one list, where each view is newer than its parent.
use Rattle.std.proofs.Common.{◌≡◌, ◌∙◌, inl, inr, ℕ, zero, suc, ◌<◌, Bool, true, false, ◌||◌, cond, List, [], ◌∷◌, map, nat_eq, Option, None, Some, get_or, length, refl, sym, ap, subst, arith, true≢false}
use Rattle.std.specs.List.{Any}
use Rattle.std.specs.Option.{option_map_or}
use Rattle.std.specs.Prelude.{filter}
use Rattle.std.proofs.lemmas.Bool.{eqb-true, or_cases}
use Rattle.std.proofs.lemmas.List.Elements.{filter_agree}
use Rattle.frac_core.proofs.Lists.{any-here, any-later}
use Rattle.view_tree.specs.Drops.{AreGoing, goes, is_among}
use Rattle.view_tree.specs.Views.{LiveView}
use Rattle.session_laws.specs.Posed.Definite.{AreOlder}

same-tests : (a b : Bool) → (a ≡ true → b ≡ true) → (b ≡ true → a ≡ true) → a ≡ b
same-tests true b to from = sym (to refl)
same-tests false true to from = from refl
same-tests false false to from = refl

-- a number among those of the views that pass is the number of a view
is-view : (q : LiveView → Bool) (n : ℕ) (views : List LiveView) → is_among (map (λ v. v.id) (filter q views)) n ≡ true → Any (λ v. v.id ≡ n) views
is-view q n [] is = absurd (true≢false (sym is))
is-view q n (v ∷ views) is = by (is-view q n views) (q v) is
  where
    by : (is_among (map (λ w. w.id) (filter q views)) n ≡ true → Any (λ w. w.id ≡ n) views) → (b : Bool) → is_among (map (λ w. w.id) (cond b (v ∷ filter q views) (filter q views))) n ≡ true → Any (λ w. w.id ≡ n) (v ∷ views)
    by rest false more = any-later (λ (w : LiveView). w.id ≡ n) v views (rest more)
    by rest true more = elim (or_cases (nat_eq v.id n) (is_among (map (λ w. w.id) (filter q views)) n) more) [
      | inl here ↦ any-here (λ (w : LiveView). w.id ≡ n) v views (eqb-true v.id n here)
      | inr later ↦ any-later (λ (w : LiveView). w.id ≡ n) v views (rest later)
    ]

module _ (views : List LiveView) (root : ℕ) (older : AreOlder views) where
  -- what goes by the one list goes by the other, where so it is with older views
  goes-too : (g h : List ℕ) (v : LiveView) → ((n : ℕ) → n < v.id → is_among g n ≡ true → is_among h n ≡ true) → ((p : ℕ) → v.parent ≡ Some p → p < v.id) → goes root g v ≡ true → goes root h v ≡ true
  goes-too g h v below up going = by (nat_eq v.id root) v.parent up going
    where
      by : (b : Bool) (o : Option ℕ) → ((p : ℕ) → o ≡ Some p → p < v.id) → (b || option_map_or (is_among g) o false) ≡ true → (b || option_map_or (is_among h) o false) ≡ true
      by true o less is = refl
      by false None less is = is
      by false (Some p) less is = below p (less p refl) is

  -- the same of numbers below a bound
  among-too : (g h : List ℕ) → AreGoing views root g → AreGoing views root h → (bound n : ℕ) → n < bound → is_among g n ≡ true → is_among h n ≡ true
  among-too g h is also zero n less among = absurd (omega (arith, less))
  among-too g h is also (suc bound) n less among =
      at (among-too g h is also bound) (is-view (λ v. is_among g v.id) n views (subst (λ (l : List ℕ). is_among l n ≡ true) is.order among))
    where
      here : ((m : ℕ) → m < bound → is_among g m ≡ true → is_among h m ≡ true) → (i : ℕ) (v : LiveView) → i < length views → get_or views i v ≡ v → v.id ≡ n → is_among h n ≡ true
      here below i v within place same =
          let by_g : is_among g v.id ≡ goes root g v = subst (λ (w : LiveView). is_among g w.id ≡ goes root g w) place (is.each i v within) in
          let by_h : is_among h v.id ≡ goes root h v = subst (λ (w : LiveView). is_among h w.id ≡ goes root h w) place (also.each i v within) in
          let up : (p : ℕ) → v.parent ≡ Some p → p < v.id = subst (λ (w : LiveView). (p : ℕ) → w.parent ≡ Some p → p < w.id) place (older i v within) in
          let goes_g : goes root g v ≡ true = sym by_g ∙ ap (is_among g) same ∙ among in
          let goes_h : goes root h v ≡ true = goes-too g h v (λ m lower. below m (omega (arith, lower, same, less))) up goes_g in
          ap (is_among h) (sym same) ∙ by_h ∙ goes_h

      at : ((m : ℕ) → m < bound → is_among g m ≡ true → is_among h m ≡ true) → Any (λ v. v.id ≡ n) views → is_among h n ≡ true
      at below (i, v, within, place, same) = here below i v within place same

  pub one-going : (g h : List ℕ) → AreGoing views root g → AreGoing views root h → g ≡ h
  one-going g h is also =
      let same : (v : LiveView) → is_among g v.id ≡ is_among h v.id = λ v.
      same-tests (is_among g v.id) (is_among h v.id) (among-too g h is also (suc v.id) v.id (omega arith)) (among-too h g also is (suc v.id) v.id (omega arith)) in
      is.order
      ∙ ap (map (λ (v : LiveView). v.id)) (filter_agree (λ (v : LiveView). is_among g v.id) (λ (v : LiveView). is_among h v.id) same views)
      ∙ sym also.order
