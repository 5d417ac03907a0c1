-- The steps of a search: it begins with rows that clash, the next row is needed, or fewer rows clash without it.
use Rattle.std.proofs.Common.{◌≡◌, ◌∙◌, ℕ, ◌-◌, ◌<◌, ◌≤◌, true, false, not, nat_eq, List, [], ◌∷◌, ◌++◌, map, length, take, get_or, refl, sym, ap, ap₂, subst, arith, inl, inr, Any, true≢false, eqb-true}
use Rattle.std.specs.List.{AllByRecursion as Each}
use Rattle.std.proofs.lemmas.Bool.{cases_Bool}
use Rattle.std.proofs.lemmas.List.{length-map, length-take, length_push, map-append, take_all, take_more}
use Rattle.std.proofs.lemmas.List.Elements.{recursion_from_All, All-filter, All-from_recursion, filter_passes}
use Rattle.std.proofs.lemmas.List.Kept.{AllPairs-filter}
use Rattle.frac_core.specs.Fraction.{Fraction}
use Rattle.frac_core.proofs.Lists.{any-here, any-later, each-joined, each-onto_map, pairs-map}
use Rattle.problem_core.specs.declared.limits.TheConstants.{REQUIRED}
use Rattle.problem_core.specs.Certificates.{required}
use Rattle.problem_core.specs.Layout.{Problem, Row}
use Rattle.problem_core.specs.Kept.{IsWhole}
use Rattle.problem_core.proofs.Forms.{each-both, each-filter, each-impl}
use Rattle.cert_core.specs.declared.by.By.{By}
use Rattle.cert_core.specs.Stops.{IsShownConflict}
use Rattle.conflict_core.specs.Cores.{AreRequired, is_among, trial, without}
use Rattle.conflict_core.specs.Shown.{DoWithout, IsShownCore, IsSolution}
use Rattle.conflict_core.specs.Searches.{AreOnTheWay, named}
use Rattle.conflict_core.proofs.Among.{IsPart, among-without, contains_among, part-begins, part-most, part-without, rises, without-among, without-fewer}
use Rattle.conflict_core.proofs.Naming.{named_part, named_refuted, named_required, names_are}
use Rattle.conflict_core.proofs.TrialRows.{part_satisfied}
use Rattle.conflict_core.proofs.TrialWhole.{shown_conflict}

abbrev Shown : Type 0
Shown = ℕ × List (ℕ × Fraction)

abbrev number : Shown → ℕ
number w = w.0

pub begins : (p : Problem) (ids : List ℕ) (by : List By) → IsWhole p → IsShownConflict (trial p ids) by → AreOnTheWay p (named by) by []
begins p ids by whole shown = record {
  rows = named_required p ids by shown;
  refuted = named_refuted p ids by shown whole;
  named = names_are p ids by shown;
  each = refl;
  others = All-from_recursion (DoWithout p (named by)) [] tt;
}

-- ---- the row is needed

pub needed : (p : Problem) (ids : List ℕ) (by : List By) (values : List Shown) (id : ℕ) (found : List (ℕ × Fraction)) → AreOnTheWay p ids by values → length values < length ids → get_or ids (length values) id ≡ id
    → IsSolution (trial p (without id ids)) found → AreOnTheWay p ids by (values ++ (id, found) ∷ [])
needed p ids by values id found way within is solution = record {
  rows = way.rows;
  refuted = way.refuted;
  named = way.named;
  each =
      map-append number values ((id, found) ∷ [])
      ∙ ap₂ (λ (ns : List ℕ) (n : ℕ). ns ++ n ∷ []) way.each (sym is)
      ∙ sym (take_more ids (length values) id within)
      ∙ ap (λ (k : ℕ). take k ids) (sym (length_push values (id, found)));
  others = All-from_recursion (DoWithout p ids) (values ++ (id, found) ∷ [])
      (each-joined (DoWithout p ids) values ((id, found) ∷ []) (recursion_from_All (DoWithout p ids) values way.others) (solution, tt));
}

-- ---- fewer rows clash

module _ (p : Problem) (ids : List ℕ) (by : List By) (values : List Shown) (id : ℕ) (next : List By) (whole : IsWhole p) (way : AreOnTheWay p ids by values) (shown : IsShownConflict (trial p (without id ids)) next) where
  fewer-part : IsPart (named next) ids
  fewer-part n h = (among-without id n ids (named_part p (without id ids) next shown n h)).0

  -- whatever the rows that clash are, those are among them without which the others have a solution
  clashing : (w : Shown) → DoWithout p ids w → is_among (named next) w.0 ≡ false → ⊥
  clashing w solution lacks =
      let part : IsPart (named next) (without w.0 ids) =
      λ n h. without-among w.0 n ids (fewer-part n h) (λ same. true≢false (sym h ∙ ap (is_among (named next)) same ∙ lacks)) in
      let (x, sat, gives) = solution.satisfies in
      shown_conflict p (named next) next whole (named_refuted p (without id ids) next shown whole) x (part_satisfied p (named next) (without w.0 ids) x part sat)

  kept-rows : Each (λ w. is_among (named next) w.0 ≡ true) values
  kept-rows =
      each-impl (DoWithout p ids) (λ w. is_among (named next) w.0 ≡ true) values
      (λ w solution. elim (cases_Bool (is_among (named next) w.0)) [ inl has ↦ has | inr lacks ↦ absurd (clashing w solution lacks) ])
      (recursion_from_All (DoWithout p ids) values way.others)

  count-is : length values ≤ length ids
  count-is =
      let e = sym (length-map values number) ∙ ap length way.each ∙ length-take (length values) ids in omega (arith, e)

  begins-same : take (length values) (named next) ≡ take (length values) ids
  begins-same =
      part-begins (length values) (named next) ids (rises (named next) (named_required p (without id ids) next shown).rising) (rises ids way.rows.rising) fewer-part count-is
      (subst (λ (ns : List ℕ). Each (λ n. is_among (named next) n ≡ true) ns) way.each (each-onto_map (λ n. is_among (named next) n ≡ true) number values kept-rows))

  others-stay : (w : Shown) → DoWithout p ids w → DoWithout p (named next) w
  others-stay w solution =
      let (x, sat, gives) = solution.satisfies in record {
        all = record {
          attributes = record { valued = solution.all.attributes.valued; held = solution.all.attributes.held };
          rising = solution.all.rising;
          kept = solution.all.kept;
        };
        satisfies = (x, part_satisfied p (without w.0 (named next)) (without w.0 ids) x (part-without w.0 (named next) ids fewer-part) sat, gives);
      }

  pub narrowed : AreOnTheWay p (named next) next values
  narrowed = record {
    rows = named_required p (without id ids) next shown;
    refuted = named_refuted p (without id ids) next shown whole;
    named = names_are p (without id ids) next shown;
    each = way.each ∙ sym begins-same;
    others = All-from_recursion (DoWithout p (named next)) values
        (each-impl (DoWithout p ids) (DoWithout p (named next)) values others-stay (recursion_from_All (DoWithout p ids) values way.others));
  }

  pub narrower : is_among ids id ≡ true → length (named next) < length ids
  narrower has =
      let most = part-most (named next) (without id ids) (rises (named next) (named_required p (without id ids) next shown).rising) (rises (without id ids) (AllPairs-filter (λ (a b : ℕ). a < b) (λ n. not (nat_eq n id)) ids way.rows.rising)) (named_part p (without id ids) next shown) in
      let less = without-fewer id ids has in
      omega (arith, most, less)

-- ---- the end

pub all_needed : (p : Problem) (ids : List ℕ) (by : List By) (values : List Shown) → AreOnTheWay p ids by values → length ids ≤ length values → IsShownCore p ids by values
all_needed p ids by values way end = record {
  rows = way.rows;
  refuted = way.refuted;
  named = way.named;
  each = way.each ∙ take_all (length values) ids end;
  others = way.others;
}

-- ---- as a search has it

pub begun : (p : Problem) (ids rows : List ℕ) (by : List By) (values : List Shown) → rows ≡ named by → values ≡ [] → IsWhole p → IsShownConflict (trial p ids) by → AreOnTheWay p rows by values
begun p ids rows by values are none whole shown =
    subst (λ (ns : List ℕ). AreOnTheWay p ns by values) (sym are)
    (subst (λ (vs : List Shown). AreOnTheWay p (named by) by vs) (sym none) (begins p ids by whole shown))

pub kept : (p : Problem) (ids : List ℕ) (by : List By) (values more : List Shown) (id : ℕ) (found : List (ℕ × Fraction)) → more ≡ values ++ (id, found) ∷ [] → AreOnTheWay p ids by values → (length values < length ids) × (get_or ids (length values) id ≡ id)
    → IsSolution (trial p (without id ids)) found → AreOnTheWay p ids by more × (length ids - length more < length ids - length values)
kept p ids by values more id found are way next solution = (
  subst (AreOnTheWay p ids by) (sym are) (needed p ids by values id found way next.0 next.1 solution),
  (let e = ap length are ∙ length_push values (id, found) in let within = next.0 in omega (arith, e, within)),
)

pub fewer : (p : Problem) (ids rows : List ℕ) (by : List By) (values : List Shown) (id : ℕ) (next : List By) → rows ≡ named next → IsWhole p → AreOnTheWay p ids by values → (length values < length ids) × (get_or ids (length values) id ≡ id)
    → IsShownConflict (trial p (without id ids)) next → AreOnTheWay p rows next values × (length rows - length values < length ids - length values)
fewer p ids rows by values id next are whole way place shown = (
  subst (λ (ns : List ℕ). AreOnTheWay p ns next values) (sym are) (narrowed p ids by values id next whole way shown),
  (let less = narrower p ids by values id next whole way shown (contains_among ids id (length values, place.0, place.1)) in
      let e = ap length are in
      let within = place.0 in
      omega (arith, less, e, within)),
)

-- ---- required rows

pub others_required : (p : Problem) (ids : List ℕ) (id : ℕ) → AreRequired p ids → AreRequired p (without id ids)
others_required p ids id h = record {
  rising = AllPairs-filter (λ (a b : ℕ). a < b) (λ n. not (nat_eq n id)) ids h.rising;
  held = All-filter (λ n. not (nat_eq n id)) (λ n. Any (λ r. (r.id ≡ n) × (r.rank ≡ REQUIRED)) p.rows) ids h.held;
}

abbrev IsHeld : List Row → ℕ → Type 0
IsHeld rows n = Any (λ r. (r.id ≡ n) × (r.rank ≡ REQUIRED)) rows

own-rows : (rows : List Row) → Each (λ r. nat_eq r.rank REQUIRED ≡ true → IsHeld rows r.id) rows
own-rows [] = tt
own-rows (r ∷ rows) = (
  λ e. any-here (λ s. (s.id ≡ r.id) × (s.rank ≡ REQUIRED)) r rows (refl, eqb-true r.rank REQUIRED e),
  each-impl (λ s. nat_eq s.rank REQUIRED ≡ true → IsHeld rows s.id) (λ s. nat_eq s.rank REQUIRED ≡ true → IsHeld (r ∷ rows) s.id) rows
      (λ s h e. any-later (λ t. (t.id ≡ s.id) × (t.rank ≡ REQUIRED)) r rows (h e)) (own-rows rows),
)

pub all_required : (p : Problem) (ids : List ℕ) → IsWhole p → ids ≡ map (λ r. r.id) (required p) → AreRequired p ids
all_required p ids whole are = subst (AreRequired p) (sym are) (record {
  rising = pairs-map (λ (r : Row). r.id) (λ (a b : ℕ). a < b) (required p) (AllPairs-filter (λ (r s : Row). r.id < s.id) (λ r. nat_eq r.rank REQUIRED) p.rows whole.rising);
  held = All-from_recursion (IsHeld p.rows) (map (λ r. r.id) (required p))
      (each-onto_map (IsHeld p.rows) (λ (r : Row). r.id) (required p)
      (each-impl (λ r. (nat_eq r.rank REQUIRED ≡ true → IsHeld p.rows r.id) × (nat_eq r.rank REQUIRED ≡ true)) (λ r. IsHeld p.rows r.id) (required p) (λ r h. h.0 h.1)
      (each-both _ _ (required p) (each-filter (λ r. nat_eq r.rank REQUIRED ≡ true → IsHeld p.rows r.id) (λ r. nat_eq r.rank REQUIRED) p.rows (own-rows p.rows))
      (recursion_from_All (λ r. nat_eq r.rank REQUIRED ≡ true) (required p) (filter_passes (λ r. nat_eq r.rank REQUIRED) p.rows)))));
})
