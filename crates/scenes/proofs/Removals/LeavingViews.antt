-- The rows, the attributes and the lines that go with some views.
use Rattle.std.proofs.Common.{◌≡◌, ◌≢◌, ◌||◌, inl, inr, ℕ, zero, suc, ◌+◌, ◌*◌, ◌<◌, ◌≤◌, Bool, true, false, cond, not, List, [], ◌∷◌, ◌++◌, map, filter, length, get_or, nat_eq, refl, sym, ap, ap₂, ◌∙◌, subst, arith, All, AllPairs, IsPermutation, true≢false, eq-eqb, ne_eqb}
use Rattle.std.proofs.lemmas.Bool.{cases_eq}
use Rattle.std.proofs.lemmas.List.Kept.{AllPairs-filter}
use Rattle.std.proofs.lemmas.List.Elements.{filter-append, All-from_recursion, recursion_from_All, Contains-append_left, Contains-append_right, Contains-append_cases}
use Rattle.std.proofs.lemmas.List.Sorted.{Contains-permutation}
use Rattle.std.specs.List.{Any, Contains, list_any, AllByRecursion as Each}
use Rattle.problem_core.specs.declared.parts.Stay.{Stay}
use Rattle.problem_core.specs.declared.parts.Term.{Term}
use Rattle.problem_core.specs.Layout.{Row, HasStay}
use Rattle.script_text.specs.Directions.{turned}
use Rattle.view_tree.specs.Attributes.{height_of, width_of}
use Rattle.view_tree.specs.Views.{LiveView}
use Rattle.view_tree.specs.Drops.{AreGoing, goes, is_among}
use Rattle.view_tree.proofs.DropLemmas.{closed}
use Rattle.compile_parts.specs.Meaning.{MetricList}
use Rattle.layout_solver.specs.Removals.{other_stays}
use Rattle.held_items.specs.Attributes.{HasOwner, IsClose, all_attributes, view_attributes}
use Rattle.held_items.specs.Items.{Item, OfWindow, OfView, Sized, OfLine, Suggested, Intrinsic, AreItemRows, AreRows}
use Rattle.held_items.specs.Leaving.{attributes_in, goes_with, item_numbers, numbers_of}
use Rattle.held_items.specs.Kept.{IsNamed}
use Rattle.held_items.proofs.Removals.LeavingRows.{among-append, item-ids, none-among, Up, pairs-up}
use Rattle.held_items.proofs.Lists.{contains-cons, contains-first}
use Rattle.held_items.proofs.Permuted.{permuted_part}
use Rattle.held_items.proofs.HeldRows.NextRows.{each-now}
use Rattle.held_items.proofs.HeldRows.RequiredRows.{once}
use Rattle.constraint_compile.specs.Suggestions.{suggested_row}
use Rattle.constraint_compile.specs.declared.suggestion.Suggestion.{Suggestion}
use Rattle.held_items.proofs.Suggestions.SuggestionTerms.{own-terms}
use Rattle.frac_core.proofs.Lists.{pairs-map, each-of as each-of-itself}
use Rattle.scenes.proofs.Views.Places.{stay-of}

-- ---- among a list, and in it

pub among-contained : (xs : List ℕ) (a : ℕ) → Contains xs a → is_among xs a ≡ true
among-contained [] a h = absurd (omega (arith, h.1))
among-contained (x ∷ xs) a (zero, within, is) = ap (λ b. b || is_among xs a) (eq-eqb x a is)
among-contained (x ∷ xs) a (suc k, within, is) = by (nat_eq x a) (among-contained xs a (k, omega (arith, within), is))
  where
    by : (b : Bool) → is_among xs a ≡ true → (b || is_among xs a) ≡ true
    by true h = refl
    by false h = h

pub contained-among : (xs : List ℕ) (a : ℕ) → is_among xs a ≡ true → Contains xs a
contained-among [] a h = absurd (true≢false (sym h))
contained-among (x ∷ xs) a h = elim (cases_eq x a) [
  | inl same ↦ contains-first x xs a same
  | inr other ↦ contains-cons x xs a (contained-among xs a (sym (ap (λ b. b || is_among xs a) (ne_eqb x a other)) ∙ h))
]

-- ---- attributes of views

four-range : (id a : ℕ) → Contains (view_attributes id) a → (4 * id + 1 ≤ a) × (a ≤ 4 * id + 4)
four-range id a (zero, within, is) = (omega (arith, is), omega (arith, is))
four-range id a (suc zero, within, is) = (omega (arith, is), omega (arith, is))
four-range id a (suc (suc zero), within, is) = (omega (arith, is), omega (arith, is))
four-range id a (suc (suc (suc zero)), within, is) = (omega (arith, is), omega (arith, is))
four-range id a (suc (suc (suc (suc k))), within, is) = absurd (omega (arith, within))

four : (g id a : ℕ) → Contains (view_attributes id) a → is_among (view_attributes g) a ≡ nat_eq g id
four g id a inside = elim (cases_eq g id) [
  | inl same ↦ among-contained (view_attributes g) a (subst (λ (n : ℕ). Contains (view_attributes n) a) (sym same) inside) ∙ sym (eq-eqb g id same)
  | inr other ↦ none-among (view_attributes g) a (apart other) ∙ sym (ne_eqb g id other)
]
  where
    apart : (g ≡ id → ⊥) → Each (λ n. n ≢ a) (view_attributes g)
    apart other =
        let range = four-range id a inside in (
          (λ e. other (omega (arith, e, range.0, range.1))),
          ((λ e. other (omega (arith, e, range.0, range.1))), ((λ e. other (omega (arith, e, range.0, range.1))), ((λ e. other (omega (arith, e, range.0, range.1))), tt))),
        )

-- an attribute goes where its view does
pub attribute-goes : (gone : List ℕ) (id a : ℕ) → Contains (view_attributes id) a → is_among (attributes_in gone) a ≡ is_among gone id
attribute-goes [] id a inside = refl
attribute-goes (g ∷ gone) id a inside = among-append (view_attributes g) (attributes_in gone) a ∙ ap₂ (λ (b c : Bool). b || c) (four g id a inside) (attribute-goes gone id a inside)

-- numbers that all go, or all stay
numbers-go : (ns : List ℕ) (b : Bool) (xs : List ℕ) → Each (λ a. is_among ns a ≡ b) xs → filter (λ a. not (is_among ns a)) xs ≡ cond b [] xs
numbers-go ns true [] h = refl
numbers-go ns false [] h = refl
numbers-go ns true (x ∷ xs) h = ap (λ b. cond (not b) (x ∷ filter (λ a. not (is_among ns a)) xs) (filter (λ a. not (is_among ns a)) xs)) h.0 ∙ numbers-go ns true xs h.1
numbers-go ns false (x ∷ xs) h = ap (λ b. cond (not b) (x ∷ filter (λ a. not (is_among ns a)) xs) (filter (λ a. not (is_among ns a)) xs)) h.0 ∙ ap (λ ys. x ∷ ys) (numbers-go ns false xs h.1)

four-go : (gone : List ℕ) (id : ℕ) → Each (λ a. is_among (attributes_in gone) a ≡ is_among gone id) (view_attributes id)
four-go gone id = (
  attribute-goes gone id (4 * id + 1) (0, omega arith, refl),
  (attribute-goes gone id (4 * id + 2) (1, omega arith, refl), (attribute-goes gone id (4 * id + 3) (2, omega arith, refl), (attribute-goes gone id (4 * id + 4) (3, omega arith, refl), tt))),
)

attributes-left : (gone : List ℕ) (views : List LiveView) → filter (λ a. not (is_among (attributes_in gone) a)) (all_attributes views) ≡ all_attributes (filter (λ v. not (is_among gone v.id)) views)
attributes-left gone [] = refl
attributes-left gone (v ∷ views) =
    filter-append (λ a. not (is_among (attributes_in gone) a)) (view_attributes v.id) (all_attributes views)
    ∙ ap₂ (λ (xs ys : List ℕ). xs ++ ys) (numbers-go (attributes_in gone) (is_among gone v.id) (view_attributes v.id) (four-go gone v.id)) (attributes-left gone views)
    ∙ joined (is_among gone v.id)
  where
    joined : (b : Bool) → cond b [] (view_attributes v.id) ++ all_attributes (filter (λ w. not (is_among gone w.id)) views)
        ≡ all_attributes (cond (not b) (v ∷ filter (λ w. not (is_among gone w.id)) views) (filter (λ w. not (is_among gone w.id)) views))
    joined true = refl
    joined false = refl

stays-left : (attrs : List ℕ) (stays : List Stay) → map (λ s. s.attr) (other_stays attrs stays) ≡ filter (λ a. not (is_among attrs a)) (map (λ s. s.attr) stays)
stays-left attrs [] = refl
stays-left attrs (s ∷ stays) = by (is_among attrs s.attr) (stays-left attrs stays)
  where
    by : (b : Bool) → map (λ t. t.attr) (other_stays attrs stays) ≡ filter (λ a. not (is_among attrs a)) (map (λ t. t.attr) stays) → map (λ t. t.attr) (cond (not b) (s ∷ other_stays attrs stays) (other_stays attrs stays)) ≡ cond (not b) (s.attr ∷ filter (λ a. not (is_among attrs a)) (map (λ t. t.attr) stays)) (filter (λ a. not (is_among attrs a)) (map (λ t. t.attr) stays))
    by true rest = rest
    by false rest = ap (λ ns. s.attr ∷ ns) rest

-- the stays that are left are those of the views that are left
pub left-attributes : (gone : List ℕ) (views : List LiveView) (stays : List Stay) → IsPermutation (all_attributes views) (map (λ s. s.attr) stays)
    → IsPermutation (all_attributes (filter (λ v. not (is_among gone v.id)) views)) (map (λ s. s.attr) (other_stays (attributes_in gone) stays))
left-attributes gone views stays are =
    subst (λ (ns : List ℕ). IsPermutation ns (map (λ s. s.attr) (other_stays (attributes_in gone) stays))) (attributes-left gone views)
    (subst (IsPermutation (filter (λ a. not (is_among (attributes_in gone) a)) (all_attributes views))) (sym (stays-left (attributes_in gone) stays))
    (permuted_part (λ a. not (is_among (attributes_in gone) a)) (all_attributes views) (map (λ s. s.attr) stays) are))

-- ---- the numbers that go

module _ (views : List LiveView) (root : ℕ) (gone : List ℕ) (are : AreGoing views root gone) (rising : AllPairs (λ v w. v.id < w.id) views) where
  pub gone-up : Up gone
  gone-up =
      subst Up (sym are.order)
      (pairs-up (map (λ v. v.id) (filter (λ v. is_among gone v.id) views)) (pairs-map (λ (v : LiveView). v.id) (λ a b. a < b) (filter (λ v. is_among gone v.id) views) (AllPairs-filter (λ v w. v.id < w.id) (λ v. is_among gone v.id) views rising)))

above-four : (g : ℕ) (gone : List ℕ) → Each (λ m. g < m) gone → Each (λ a. 4 * g + 4 < a) (attributes_in gone)
above-four g [] h = tt
above-four g (m ∷ gone) h = (omega (arith, h.0), (omega (arith, h.0), (omega (arith, h.0), (omega (arith, h.0), above-four g gone h.1))))

lower-four : (n g : ℕ) (xs : List ℕ) → n ≤ 4 * g + 4 → Each (λ a. 4 * g + 4 < a) xs → Each (λ a. n < a) xs
lower-four n g [] le h = tt
lower-four n g (x ∷ xs) le h = (omega (arith, le, h.0), lower-four n g xs le h.1)

pub attributes-up : (gone : List ℕ) → Up gone → Up (attributes_in gone)
attributes-up [] h = tt
attributes-up (g ∷ gone) h =
    let above = above-four g gone h.0 in (
      (omega arith, (omega arith, (omega arith, lower-four (4 * g + 1) g (attributes_in gone) (omega arith) above))),
      (
        (omega arith, (omega arith, lower-four (4 * g + 2) g (attributes_in gone) (omega arith) above)),
        ((omega arith, lower-four (4 * g + 3) g (attributes_in gone) (omega arith) above), (lower-four (4 * g + 4) g (attributes_in gone) (omega arith) above, attributes-up gone h.1)),
      ),
    )

-- ---- each of them has a stay

-- the attributes of some of the views are those of views
module _ (p : LiveView → Bool) where
  some-attributes : (views : List LiveView) (a : ℕ) → Contains (attributes_in (map (λ v. v.id) (filter p views))) a → Contains (all_attributes views) a
  some-attributes [] a h = absurd (omega (arith, h.1))
  some-attributes (v ∷ views) a h = by (p v) h (some-attributes views a)
    where
      by : (b : Bool) → Contains (attributes_in (map (λ w. w.id) (cond b (v ∷ filter p views) (filter p views)))) a → (Contains (attributes_in (map (λ w. w.id) (filter p views))) a → Contains (all_attributes views) a) → Contains (all_attributes (v ∷ views)) a
      by true g rest = elim (Contains-append_cases (view_attributes v.id) (attributes_in (map (λ w. w.id) (filter p views))) a g) [
        | inl here ↦ Contains-append_left (view_attributes v.id) (all_attributes views) a here
        | inr there ↦ Contains-append_right (view_attributes v.id) (all_attributes views) a (rest there)
      ]
      by false g rest = Contains-append_right (view_attributes v.id) (all_attributes views) a (rest g)

pub have-stays : (views : List LiveView) (root : ℕ) (gone : List ℕ) (stays : List Stay) → AreGoing views root gone → IsPermutation (all_attributes views) (map (λ s. s.attr) stays) → All (HasStay stays) (attributes_in gone)
have-stays views root gone stays are attrs =
    All-from_recursion (HasStay stays) (attributes_in gone)
    (each-of-itself (HasStay stays) (attributes_in gone)
    (λ a h. stay-of stays a (Contains-permutation (all_attributes views) (map (λ s. s.attr) stays) a attrs
    (some-attributes (λ v. is_among gone v.id) views a (subst (λ (ns : List ℕ). Contains (attributes_in ns) a) are.order h)))))

-- ---- rows that name a leaving attribute leave

any-later : (vs : List ℕ) (g : ℕ) (gone : List ℕ) (b : Bool) → list_any (λ id. list_any (λ v. nat_eq v id) vs) gone ≡ true → (b || list_any (λ id. list_any (λ v. nat_eq v id) vs) gone) ≡ true
any-later vs g gone true h = refl
any-later vs g gone false h = h

-- a view that goes and is named
pub names-gone : (vs gone : List ℕ) (id : ℕ) → Contains vs id → Contains gone id → list_any (λ g. list_any (λ v. nat_eq v g) vs) gone ≡ true
names-gone vs [] id named h = absurd (omega (arith, h.1))
names-gone vs (g ∷ gone) id named (zero, within, is) = ap (λ b. b || list_any (λ k. list_any (λ v. nat_eq v k) vs) gone) (among-contained vs g (subst (Contains vs) (sym is) named))
names-gone vs (g ∷ gone) id named (suc k, within, is) = any-later vs g gone (list_any (λ v. nat_eq v g) vs) (names-gone vs gone id named (k, omega (arith, within), is))

-- a line that stays names none that goes
pub names-none : (vs gone : List ℕ) (id : ℕ) → list_any (λ g. list_any (λ v. nat_eq v g) vs) gone ≡ false → Contains vs id → is_among gone id ≡ false
names-none vs gone id none named = by (is_among gone id) refl
  where
    by : (b : Bool) → is_among gone id ≡ b → is_among gone id ≡ false
    by true e = absurd (true≢false (sym (names-gone vs gone id named (contained-among gone id e)) ∙ none))
    by false e = e

module _ (views : List LiveView) (root : ℕ) (gone : List ℕ) (are : AreGoing views root gone) (window : is_among gone 0 ≡ false) where
  -- the row has an attribute that goes
  abbrev pub Leaves : Row → Type 0
  Leaves r = Any (λ t. Contains (attributes_in gone) t.attr) r.terms

  goes-there : (id a : ℕ) → Contains (view_attributes id) a → Contains (attributes_in gone) a → is_among gone id ≡ true
  goes-there id a inside h = sym (attribute-goes gone id a inside) ∙ among-contained (attributes_in gone) a h

  not-window : (a : ℕ) → Contains (view_attributes 0) a → Contains (attributes_in gone) a → ⊥
  not-window a inside h = true≢false (sym (goes-there 0 a inside h) ∙ window)

  one-term : (P : Type 0) (attr : ℕ) (t : Term) → t.attr ≡ attr → (Contains (attributes_in gone) attr → P) → Any (λ u. Contains (attributes_in gone) u.attr) (t ∷ []) → P
  one-term P attr t is to (zero, u, within, same, h) = to (subst (Contains (attributes_in gone)) (ap (λ (x : Term). x.attr) (sym same) ∙ is) h)
  one-term P attr t is to (suc k, u, within, same, h) = absurd (omega (arith, within))

  close-goes : (vs : List ℕ) (id : ℕ) → IsClose views vs id → is_among gone id ≡ true → list_any (λ g. list_any (λ v. nat_eq v g) vs) gone ≡ true
  close-goes vs id (inl named) h = names-gone vs gone id named (contained-among gone id h)
  close-goes vs id (inr (child, named, has)) h = by (is_among gone child) refl
    where
      by : (b : Bool) → is_among gone child ≡ b → list_any (λ g. list_any (λ v. nat_eq v g) vs) gone ≡ true
      by true e = names-gone vs gone child named (contained-among gone child e)
      by false e = absurd (true≢false (sym h ∙ closed views root gone are child id has e))

  row-goes : (vs : List ℕ) (r : Row) → All (λ t. HasOwner views vs t.attr) r.terms → Leaves r → list_any (λ g. list_any (λ v. nat_eq v g) vs) gone ≡ true
  row-goes vs r owned (k, t, within, is, h) =
      let owner = owned k t within in
      let inside : Contains (view_attributes owner.0) t.attr = subst (λ (u : Term). Contains (view_attributes owner.0) u.attr) is owner.2 in
      close-goes vs owner.0 owner.1 (goes-there owner.0 t.attr inside h)

  rows-go : (vs : List ℕ) (rows : List Row) → Each (λ r. All (λ t. HasOwner views vs t.attr) r.terms) rows → Each (λ r. Leaves r → list_any (λ g. list_any (λ v. nat_eq v g) vs) gone ≡ true) rows
  rows-go vs [] h = tt
  rows-go vs (r ∷ rows) h = ((λ leaves. row-goes vs r h.0 leaves), rows-go vs rows h.1)

  suggestion-goes : (s : Suggestion) → Leaves (suggested_row s) → is_among gone s.view ≡ true
  suggestion-goes s (k, t, within, same, h) =
      goes-there s.view t.attr (subst (λ (u : Term). Contains (view_attributes s.view) u.attr) same (own-terms s.view (turned s.direction s.word) k t within)) h

  item-goes : (ms : MetricList) (item : Item) (rows : List Row) → AreItemRows ms item rows → IsNamed views item → Each (λ r. Leaves r → goes_with gone item ≡ true) rows
  item-goes ms OfWindow rows is named =
      subst (Each (λ (r : Row). Leaves r → false ≡ true)) (sym is) (
        one-term (false ≡ true) 1 _ refl (λ h. absurd (not-window 1 (0, omega arith, refl) h)),
        (
          one-term (false ≡ true) 2 _ refl (λ h. absurd (not-window 2 (1, omega arith, refl) h)),
          (one-term (false ≡ true) 3 _ refl (λ h. absurd (not-window 3 (2, omega arith, refl) h)), (one-term (false ≡ true) 4 _ refl (λ h. absurd (not-window 4 (3, omega arith, refl) h)), tt)),
        ),
      )
  item-goes ms (OfView first id) rows is named =
      subst (Each (λ (r : Row). Leaves r → is_among gone id ≡ true)) (sym is) (
        one-term (is_among gone id ≡ true) (4 * id + 3) _ refl (λ h. goes-there id (4 * id + 3) (2, omega arith, refl) h),
        (one-term (is_among gone id ≡ true) (4 * id + 4) _ refl (λ h. goes-there id (4 * id + 4) (3, omega arith, refl) h), tt),
      )
  item-goes ms (Sized first width height) rows is named =
      subst (Each (λ (r : Row). Leaves r → false ≡ true)) (sym is)
      (one-term (false ≡ true) 3 _ refl (λ h. absurd (not-window 3 (2, omega arith, refl) h)), (one-term (false ≡ true) 4 _ refl (λ h. absurd (not-window 4 (3, omega arith, refl) h)), tt))
  item-goes ms (OfLine name line) rows is named =
      rows-go line.views rows
      (recursion_from_All (λ (r : Row). All (λ t. HasOwner views line.views t.attr) r.terms) rows (each-now (λ s. All (λ t. HasOwner views line.views t.attr) s.1) ms line.rows rows is named))
  item-goes ms (Suggested s) rows is named =
      subst (Each (λ (r : Row). Leaves r → is_among gone s.view ≡ true)) (sym is)
      (suggestion-goes s, tt)
  item-goes ms (Intrinsic s) rows is named =
      subst (Each (λ (r : Row). Leaves r → is_among gone s.view ≡ true)) (sym is) (across, (across, (down, (down, tt))))
    where
      across : Any (λ t. Contains (attributes_in gone) t.attr) (once (width_of s.view) ∷ []) → is_among gone s.view ≡ true
      across = one-term (is_among gone s.view ≡ true) (width_of s.view) (once (width_of s.view)) refl (λ h. goes-there s.view (width_of s.view) (2, omega arith, refl) h)

      down : Any (λ t. Contains (attributes_in gone) t.attr) (once (height_of s.view) ∷ []) → is_among gone s.view ≡ true
      down = one-term (is_among gone s.view ≡ true) (height_of s.view) (once (height_of s.view)) refl (λ h. goes-there s.view (height_of s.view) (3, omega arith, refl) h)

  -- the numbers of an item that goes are among those of all that goes
  placed : (goes : Bool) (nums rest : List ℕ) (n : ℕ) → goes ≡ true → Contains nums n → Contains (cond goes nums [] ++ rest) n
  placed goes nums rest n is inside = subst (λ b. Contains (cond b nums [] ++ rest) n) (sym is) (Contains-append_left nums rest n inside)

  first-covered : (item : Item) (more : List Item) (front : List Row) (nums : List ℕ) → map (λ r. r.id) front ≡ nums → ((n : ℕ) → Contains nums n → Contains (item_numbers item) n) → Each (λ r. Leaves r → goes_with gone item ≡ true) front
      → Each (λ r. Leaves r → Contains (numbers_of (goes_with gone) (item ∷ more)) r.id) front
  first-covered item more [] nums is to h = tt
  first-covered item more (r ∷ front) [] is to h = absurd (omega (arith, ap length is))
  first-covered item more (r ∷ front) (n ∷ nums) is to h = (
    (λ leaves. placed (goes_with gone item) (item_numbers item) (numbers_of (goes_with gone) more) r.id (h.0 leaves) (to r.id (contains-first n nums r.id (sym (first-of is))))),
    first-covered item more front nums (rest-of is) (λ m g. to m (contains-cons n nums m g)) h.1,
  )
    where
      first-of : {m k : ℕ} {xs ys : List ℕ} → m ∷ xs ≡ k ∷ ys → m ≡ k
      first-of e = ap (λ (zs : List ℕ). get_or zs 0 0) e

      rest-of : {m k : ℕ} {xs ys : List ℕ} → m ∷ xs ≡ k ∷ ys → xs ≡ ys
      rest-of e = cc

  later-covered : (item : Item) (more : List Item) (back : List Row) → Each (λ r. Leaves r → Contains (numbers_of (goes_with gone) more) r.id) back → Each (λ r. Leaves r → Contains (numbers_of (goes_with gone) (item ∷ more)) r.id) back
  later-covered item more [] h = tt
  later-covered item more (r ∷ back) h =
      ((λ leaves. Contains-append_right (cond (goes_with gone item) (item_numbers item) []) (numbers_of (goes_with gone) more) r.id (h.0 leaves)), later-covered item more back h.1)

  each-covered : (P : Row → Type 0) (xs ys : List Row) → Each P xs → Each P ys → Each P (xs ++ ys)
  each-covered P [] ys h g = g
  each-covered P (x ∷ xs) ys h g = (h.0, each-covered P xs ys h.1 g)

  pub rows-covered : (ms : MetricList) (held : List Item) (rows : List Row) → AreRows ms held rows → Each (IsNamed views) held → Each (λ r. Leaves r → Contains (numbers_of (goes_with gone) held) r.id) rows
  rows-covered ms [] rows is named = subst (Each (λ (r : Row). Leaves r → Contains (numbers_of (goes_with gone) []) r.id)) (sym is) tt
  rows-covered ms (item ∷ more) rows (front, back, is, first, rest) named =
      subst (Each (λ (r : Row). Leaves r → Contains (numbers_of (goes_with gone) (item ∷ more)) r.id)) (sym is)
      (each-covered (λ r. Leaves r → Contains (numbers_of (goes_with gone) (item ∷ more)) r.id) front back
      (first-covered item more front (item_numbers item) (item-ids ms item front first) (λ n h. h) (item-goes ms item front first named.0))
      (later-covered item more back (rows-covered ms more back rest named.1)))
