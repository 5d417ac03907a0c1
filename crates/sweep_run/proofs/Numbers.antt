-- The values that are listed by number.
use Rattle.std.proofs.Common.{◌≡◌, ◌∙◌, ℕ, zero, suc, ◌+◌, ◌<◌, ◌≤◌, List, [], ◌∷◌, ◌++◌, length, map, take, get_or, refl, sym, ap, subst, arith, AllPairs}
use Rattle.std.proofs.lemmas.List.{take_all, take_more}
use Rattle.std.proofs.lemmas.List.Elements.{All-nil, All-push}
use Rattle.frac_core.specs.Fraction.{Fraction, IsKept}
use Rattle.problem_core.specs.declared.parts.Mark.{Mark}
use Rattle.problem_core.specs.declared.parts.Stay.{Stay}
use Rattle.problem_core.specs.Kept.{AreRising}
use Rattle.problem_core.specs.Layout.{Problem}
use Rattle.problem_core.specs.Corners.{attr_column}
use Rattle.problem_core.specs.Numbers.{AreNumbersOf}
use Rattle.corner_view.specs.Seen.{HasValueAt}
use Rattle.sweep_run.specs.Values.{AreListed, AreValuesAt}

pub listed_none : (p : Problem) (at : List Mark) → AreListed p at [] []
listed_none p at = record {
  attributes = refl;
  kept = All-nil (λ (v : ℕ × Fraction). IsKept v.1);
  there = All-nil (λ (v : ℕ × Fraction). HasValueAt p at (attr_column v.0) v.1);
}

map-push : (values : List (ℕ × Fraction)) (v : ℕ × Fraction) → map (λ (v : ℕ × Fraction). v.0) (values ++ v ∷ []) ≡ map (λ (v : ℕ × Fraction). v.0) values ++ v.0 ∷ []
map-push [] v = refl
map-push (w ∷ values) v = ap (λ (ns : List ℕ). w.0 ∷ ns) (map-push values v)

pub listed_more : (p : Problem) (at : List Mark) (attrs : List ℕ) (values new : List (ℕ × Fraction)) (i : ℕ) (f : Fraction) → i < length attrs → AreListed p at (take i attrs) values → IsKept f → HasValueAt p at (attr_column (get_or attrs i 0)) f → new ≡ values ++ (get_or attrs i 0, f) ∷ []
    → AreListed p at (take (i + 1) attrs) new
listed_more p at attrs values new i f within are kept has e =
    subst (AreListed p at (take (i + 1) attrs)) (sym e) (record {
      attributes = map-push values (get_or attrs i 0, f) ∙ ap (λ (ns : List ℕ). ns ++ get_or attrs i 0 ∷ []) are.attributes ∙ sym (take_more attrs i 0 within);
      kept = All-push (λ (v : ℕ × Fraction). IsKept v.1) values (get_or attrs i 0, f) are.kept kept;
      there = All-push (λ (v : ℕ × Fraction). HasValueAt p at (attr_column v.0) v.1) values (get_or attrs i 0, f) are.there has;
    })

pub listed_all : (p : Problem) (at : List Mark) (attrs : List ℕ) (values : List (ℕ × Fraction)) (i : ℕ) → length attrs ≤ i → AreListed p at (take i attrs) values → AreListed p at attrs values
listed_all p at attrs values i past are = subst (λ (ns : List ℕ). AreListed p at ns values) (take_all i attrs past) are

rising-below : (values : List (ℕ × Fraction)) (attrs : List ℕ) → map (λ (v : ℕ × Fraction). v.0) values ≡ attrs → AllPairs (λ a b. a < b) attrs → AreRising values
rising-below values attrs e rising = pairs-from (subst (AllPairs (λ a b. a < b)) (sym e) rising)
  where
    got : (vs : List (ℕ × Fraction)) (i : ℕ) (d : ℕ × Fraction) → i < length vs → get_or (map (λ (v : ℕ × Fraction). v.0) vs) i d.0 ≡ (get_or vs i d).0
    got [] i d lt = absurd (omega (arith, lt))
    got (v ∷ vs) zero d lt = refl
    got (v ∷ vs) (suc i) d lt = got vs i d (omega (arith, lt))

    long : (vs : List (ℕ × Fraction)) → length (map (λ (v : ℕ × Fraction). v.0) vs) ≡ length vs
    long [] = refl
    long (v ∷ vs) = ap suc (long vs)

    pairs-from : AllPairs (λ a b. a < b) (map (λ (v : ℕ × Fraction). v.0) values) → AreRising values
    pairs-from h i j d less within =
        let short : i < length values = omega (arith, less, within) in
        let l = long values in
        let low = h i j d.0 less (omega (arith, within, l)) in
        let a = got values i d short in
        let b = got values j d within in
        omega (arith, low, a, b)

-- their attributes rise, and they are all there are
pub listed_rise : (p q : Problem) (at : List Mark) (attrs : List ℕ) (values : List (ℕ × Fraction)) → AreNumbersOf p.stays attrs → AreListed q at attrs values → AreRising values
listed_rise p q at attrs values numbers are = rising-below values attrs are.attributes numbers.rising

pub all_listed : (p q : Problem) (at : List Mark) (attrs : List ℕ) (values : List (ℕ × Fraction)) → q.stays ≡ p.stays → AreNumbersOf p.stays attrs → AreListed q at attrs values → AreValuesAt q at values
all_listed p q at attrs values same numbers are = record {
  all = record {
    attributes = subst (AreNumbersOf q.stays) (sym are.attributes) (subst (λ (stays : List Stay). AreNumbersOf stays attrs) (sym same) numbers);
    kept = are.kept;
  };
  there = are.there;
}
