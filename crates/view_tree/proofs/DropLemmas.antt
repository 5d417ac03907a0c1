-- The views that go with a view, and the tree that is left.
use Rattle.std.proofs.Common.{◌≡◌, ◌≢◌, ◌||◌, ℕ, zero, suc, ◌+◌, ◌<◌, ◌≤◌, Bool, true, false, cond, not, List, [], ◌∷◌, ◌++◌, Option, None, Some, All, AllPairs, filter, length, map, nat_eq, remove, slice_get, refl, sym, ap, subst, ◌∙◌, ◌-◌, true≢false, unwrap_or, arith, add-one, append_assoc, append-nil, drop}
use Rattle.std.proofs.lemmas.Bool.{eqb-true}
use Rattle.std.proofs.lemmas.Grind.{common_steps}
use Rattle.std.proofs.lemmas.List.Elements.{All-filter, All-from_recursion, filter_passes, recursion_from_All}
use Rattle.std.proofs.lemmas.List.Kept.{AllPairs-filter}
use Rattle.std.proofs.lemmas.Option.{none-some}
use Rattle.std.specs.List.{AllByRecursion}
use Rattle.std.specs.Option.{option_map, option_map_or}
use Rattle.view_tree.specs.Drops.{AreGoing, goes, is_among}
use Rattle.view_tree.specs.Nodes.{AreKept, live_view, kept_tree}
use Rattle.view_tree.specs.Views.{AreAbove, HasParent, IsAtDepth, IsTree, LiveView, ViewTree, view_of, window}
use Rattle.view_tree.specs.declared.tree.Node.{Node}
use Rattle.view_tree.proofs.BranchLemmas.{or-right}
use Rattle.frac_core.proofs.Bools.{nat_eq-self as same, or-false}
use Rattle.frac_core.proofs.Lists.{pairs-unmapped, pairs-map}
use Rattle.span_text.proofs.TokensLemmas.{not_true as kept-out}

-- ---- numbers among others

other : (n m : ℕ) → n < m → nat_eq n m ≡ false
other n m less = grind (arith, common_steps, less)

other-back : (n m : ℕ) → m < n → nat_eq n m ≡ false
other-back n m less = grind (arith, common_steps, less)

pub or-assoc : (a b c : Bool) → (a || (b || c)) ≡ ((a || b) || c)
or-assoc true b c = refl
or-assoc false b c = refl

among-push : (xs : List ℕ) (n m : ℕ) → is_among (xs ++ n ∷ []) m ≡ (is_among xs m || nat_eq n m)
among-push [] n m = or-false (nat_eq n m)
among-push (x ∷ xs) n m = ap (λ b. nat_eq x m || b) (among-push xs n m) ∙ or-assoc (nat_eq x m) (is_among xs m) (nat_eq n m)

-- ---- the numbers, one view after the other

abbrev pub grown : Bool → List ℕ → ℕ → List ℕ
grown true gone id = gone ++ id ∷ []
grown false gone id = gone

abbrev pub grow : ℕ → List ℕ → List LiveView → List ℕ
grow root gone [] = gone
grow root gone (v ∷ views) = grow root (grown (goes root gone v) gone v.id) views

abbrev Ascend : List LiveView → Type 0
Ascend [] = Unit {0}
Ascend (v ∷ views) = AllByRecursion (λ w. v.id < w.id) views × Ascend views

ascend : (views : List LiveView) → AllPairs (λ v w. v.id < w.id) views → Ascend views
ascend [] h = tt
ascend (v ∷ views) h = (
  recursion_from_All (λ (w : LiveView). v.id < w.id) views (λ k d l. h zero (suc k) d (omega arith) (omega (arith, l))),
  ascend views (λ i j d l m. h (suc i) (suc j) d (omega (arith, l)) (omega (arith, m))),
)

further : (n m : ℕ) (views : List LiveView) → n < m → AllByRecursion (λ w. m < w.id) views → AllByRecursion (λ w. n < w.id) views
further n m [] less h = tt
further n m (w ∷ views) less h = (omega (arith, less, h.0), further n m views less h.1)

among-grown : (b : Bool) (gone : List ℕ) (n m : ℕ) → nat_eq n m ≡ false → is_among (grown b gone n) m ≡ is_among gone m
among-grown true gone n m apart = among-push gone n m ∙ ap (λ b. is_among gone m || b) apart ∙ or-false (is_among gone m)
among-grown false gone n m apart = refl

among-own : (b : Bool) (gone : List ℕ) (n : ℕ) → is_among gone n ≡ false → is_among (grown b gone n) n ≡ b
among-own true gone n none = among-push gone n n ∙ ap (λ b. b || nat_eq n n) none ∙ same n
among-own false gone n none = none

apart : (b : Bool) (gone : List ℕ) (n : ℕ) (views : List LiveView) → AllByRecursion (λ w. is_among gone w.id ≡ false) views → AllByRecursion (λ w. n < w.id) views
    → AllByRecursion (λ w. is_among (grown b gone n) w.id ≡ false) views
apart b gone n [] h g = tt
apart b gone n (w ∷ views) h g = (among-grown b gone n w.id (other n w.id g.0) ∙ h.0, apart b gone n views h.1 g.1)

none-among : (views : List LiveView) → AllByRecursion (λ w. is_among [] w.id ≡ false) views
none-among [] = tt
none-among (w ∷ views) = (refl, none-among views)

module _ (root : ℕ) where
  -- later views change nothing of what is known of lower numbers
  among-grow : (gone : List ℕ) (views : List LiveView) (m : ℕ) → AllByRecursion (λ w. m < w.id) views → is_among (grow root gone views) m ≡ is_among gone m
  among-grow gone [] m h = refl
  among-grow gone (v ∷ views) m h = among-grow (grown (goes root gone v) gone v.id) views m h.1 ∙ among-grown (goes root gone v) gone v.id m (other-back v.id m h.0)

  above-grow : (gone : List ℕ) (views : List LiveView) (o : Option ℕ) → ((p : ℕ) → o ≡ Some p → AllByRecursion (λ w. p < w.id) views)
      → option_map_or (is_among (grow root gone views)) o false ≡ option_map_or (is_among gone) o false
  above-grow gone views None h = refl
  above-grow gone views (Some p) h = among-grow gone views p (h p refl)

  each-grow : (gone : List ℕ) (views : List LiveView) → Ascend views → AllByRecursion (λ v. (p : ℕ) → v.parent ≡ Some p → p < v.id) views
      → AllByRecursion (λ w. is_among gone w.id ≡ false) views → AllByRecursion (λ v. is_among (grow root gone views) v.id ≡ goes root (grow root gone views) v) views
  each-grow gone [] up old out = tt
  each-grow gone (v ∷ views) up old out =
      let more : List ℕ = grown (goes root gone v) gone v.id in
      let lower : (p : ℕ) → v.parent ≡ Some p → AllByRecursion (λ w. p < w.id) (v ∷ views) = λ p is. (old.0 p is, further p v.id views (old.0 p is) up.0) in (
        among-grow more views v.id up.0 ∙ among-own (goes root gone v) gone v.id out.0
            ∙ ap (λ b. nat_eq v.id root || b) (sym (above-grow gone (v ∷ views) v.parent lower)),
        each-grow more views up.1 old.1 (apart (goes root gone v) gone v.id views out.1 up.0),
      )

  joined : (q : LiveView → Bool) (b : Bool) (gone : List ℕ) (v : LiveView) (views : List LiveView) → q v ≡ b
      → grown b gone v.id ++ map (λ w. w.id) (filter q views) ≡ gone ++ map (λ w. w.id) (filter q (v ∷ views))
  joined q true gone v views is = append_assoc gone (v.id ∷ []) (map (λ w. w.id) (filter q views)) ∙ ap (λ c. gone ++ map (λ w. w.id) (cond c (v ∷ filter q views) (filter q views))) (sym is)
  joined q false gone v views is = ap (λ c. gone ++ map (λ w. w.id) (cond c (v ∷ filter q views) (filter q views))) (sym is)

  order-grow : (gone : List ℕ) (views : List LiveView) → Ascend views → AllByRecursion (λ w. is_among gone w.id ≡ false) views
      → grow root gone views ≡ gone ++ map (λ v. v.id) (filter (λ v. is_among (grow root gone views) v.id) views)
  order-grow gone [] up out = sym (append-nil gone)
  order-grow gone (v ∷ views) up out =
      let more : List ℕ = grown (goes root gone v) gone v.id in
      order-grow more views up.1 (apart (goes root gone v) gone v.id views out.1 up.0)
      ∙ joined (λ w. is_among (grow root more views) w.id) (goes root gone v) gone v views (among-grow more views v.id up.0 ∙ among-own (goes root gone v) gone v.id out.0)

  pub AreGoing-grow : (t : ViewTree) → IsTree t → AreGoing t.views root (grow root [] t.views)
  AreGoing-grow t h =
      let up : Ascend t.views = ascend t.views h.rising in
      let old : AllByRecursion (λ v. (p : ℕ) → v.parent ≡ Some p → p < v.id) t.views = recursion_from_All (λ v. (p : ℕ) → v.parent ≡ Some p → p < v.id) t.views h.older in
      record {
        each = All-from_recursion (λ v. is_among (grow root [] t.views) v.id ≡ goes root (grow root [] t.views) v) t.views (each-grow [] t.views up old (none-among t.views));
        order = order-grow [] t.views up (none-among t.views);
      }

-- ---- what is left

pub shorter : {X : Type 0} (p : X → Bool) (xs : List X) → length (filter p xs) ≤ length xs
shorter p [] = omega arith
shorter p (x ∷ xs) = by (p x) (shorter p xs)
  where
    by : (b : Bool) → length (filter p xs) ≤ length xs → length (cond b (x ∷ filter p xs) (filter p xs)) ≤ length (x ∷ xs)
    by true h = omega (arith, h)
    by false h = omega (arith, h)

module _ (go : ℕ → Bool) where
  abbrev pub left : List LiveView → List LiveView
  left views = filter (λ v. not (go v.id)) views

  -- a view that stays is found as before
  view_of-left : (id : ℕ) → go id ≡ false → (views : List LiveView) → view_of (left views) id ≡ view_of views id
  view_of-left id out [] = refl
  view_of-left id out (v ∷ views) = by (go v.id) refl (nat_eq v.id id) refl (view_of-left id out views)
    where
      by : (b : Bool) → go v.id ≡ b → (c : Bool) → nat_eq v.id id ≡ c → view_of (left views) id ≡ view_of views id
          → view_of (cond (not (go v.id)) (v ∷ left views) (left views)) id ≡ cond (nat_eq v.id id) (Some v) (view_of views id)
      by true e true is rest = absurd (true≢false (sym e ∙ ap go (eqb-true v.id id is) ∙ out))
      by true e false is rest = ap (λ b. view_of (cond (not b) (v ∷ left views) (left views)) id) e ∙ rest ∙ sym (ap (λ c. cond c (Some v) (view_of views id)) is)
      by false e c is rest = ap (λ b. view_of (cond (not b) (v ∷ left views) (left views)) id) e ∙ ap (cond (nat_eq v.id id) (Some v)) rest

  pub HasParent-left : (views : List LiveView) (id : ℕ) (parent : Option ℕ) → go id ≡ false → HasParent views id parent → HasParent (left views) id parent
  HasParent-left views id parent out h = ap (option_map (λ (v : LiveView). v.parent)) (view_of-left id out views) ∙ h

  AreAbove-left : (views : List LiveView) → ((id p : ℕ) → HasParent views id (Some p) → go id ≡ false → go p ≡ false) → (id : ℕ) (above : List ℕ) → go id ≡ false → AreAbove views id above → AreAbove (left views) id above
  AreAbove-left views closed id [] out h = HasParent-left views id None out h
  AreAbove-left views closed id (p ∷ above) out h = (HasParent-left views id (Some p) out h.0, AreAbove-left views closed p above (closed id p h.0 out) h.1)

  pub IsAtDepth-left : (views : List LiveView) → ((id p : ℕ) → HasParent views id (Some p) → go id ≡ false → go p ≡ false) → (id depth : ℕ) → go id ≡ false → IsAtDepth views id depth → IsAtDepth (left views) id depth
  IsAtDepth-left views closed id depth out h = record { above = h.above; chain = AreAbove-left views closed id h.above out h.chain; count = h.count }

  root-left : (views : List LiveView) → go 0 ≡ false → slice_get views 0 ≡ Some window → slice_get (left views) 0 ≡ Some window
  root-left [] stays h = h
  root-left (v ∷ views) stays h =
      let is : v ≡ window = ap (λ o. unwrap_or o window) h in
      let out : go v.id ≡ false = ap (λ (w : LiveView). go w.id) is ∙ stays in
      ap (λ b. slice_get (cond (not b) (v ∷ left views) (left views)) 0) out ∙ h

  pub IsTree-left : (t : ViewTree) → IsTree t → go 0 ≡ false → ((id p : ℕ) → HasParent t.views id (Some p) → go id ≡ false → go p ≡ false) → IsTree (record t { views = left t.views })
  IsTree-left t h stays closed =
      let keeps : LiveView → Bool = λ v. not (go v.id) in
      record {
        root = root-left t.views stays h.root;
        few = omega (arith, shorter keeps t.views, h.few);
        within = omega (arith, shorter keeps t.views, h.within);
        most = h.most;
        ids = h.ids;
        below = All-filter keeps (λ v. v.id < t.next) t.views h.below;
        rising = AllPairs-filter (λ v w. v.id < w.id) keeps t.views h.rising;
        short = All-filter keeps (λ v. length v.name ≤ 64) t.views h.short;
        names = pairs-map (λ v. v.name) (λ a b. a ≢ b) (left t.views) (AllPairs-filter (λ v w. v.name ≢ w.name) keeps t.views (pairs-unmapped (λ v. v.name) (λ a b. a ≢ b) t.views h.names));
        depths = λ k d l.
            (let were = All-filter keeps (λ v. (depth : ℕ) × IsAtDepth t.views v.id depth × (depth ≤ 32)) t.views h.depths k d l in
            (were.0, IsAtDepth-left t.views closed _ _ (kept-out _ (filter_passes keeps t.views k d l)) were.1, were.2));
        older = All-filter keeps (λ v. (p : ℕ) → v.parent ≡ Some p → p < v.id) t.views h.older;
      }

  map-left : (es : List (List ℕ × Node)) → map live_view (filter (λ e. not (go e.1.id.0)) es) ≡ left (map live_view es)
  map-left [] = refl
  map-left (e ∷ es) = by (go e.1.id.0) (map-left es)
    where
      by : (b : Bool) → map live_view (filter (λ f. not (go f.1.id.0)) es) ≡ left (map live_view es)
          → map live_view (cond (not b) (e ∷ filter (λ f. not (go f.1.id.0)) es) (filter (λ f. not (go f.1.id.0)) es)) ≡ cond (not b) (live_view e ∷ left (map live_view es)) (left (map live_view es))
      by true rest = rest
      by false rest = ap (λ vs. live_view e ∷ vs) rest

  pub kept_tree-left : (es : List (List ℕ × Node)) (next most : ℕ) → kept_tree (filter (λ e. not (go e.1.id.0)) es) next most ≡ record (kept_tree es next most) { views = left (map live_view es) }
  kept_tree-left es next most = ap (λ views. record { views = views; next = next; most = most }) (map-left es)

  pub AreKept-left : (es : List (List ℕ × Node)) (next most : ℕ) → AreKept es next most → go 0 ≡ false → ((id p : ℕ) → HasParent (map live_view es) id (Some p) → go id ≡ false → go p ≡ false)
      → AreKept (filter (λ e. not (go e.1.id.0)) es) next most
  AreKept-left es next most h stays closed =
      let keeps : List ℕ × Node → Bool = λ e. not (go e.1.id.0) in
      let depths : All (λ e. IsAtDepth (left (map live_view es)) e.1.id.0 e.1.depth) (filter keeps es) = λ k d l.
      IsAtDepth-left (map live_view es) closed _ _ (kept-out _ (filter_passes keeps es k d l))
      (All-filter keeps (λ e. IsAtDepth (map live_view es) e.1.id.0 e.1.depth) es h.depths k d l) in
      record {
        tree = subst IsTree (sym (kept_tree-left es next most)) (IsTree-left (kept_tree es next most) h.tree stays closed);
        depths = subst (λ views. All (λ e. IsAtDepth views e.1.id.0 e.1.depth) (filter keeps es)) (sym (map-left es)) depths;
      }

-- ---- a view whose parent goes doesn't stay

pub found-each : (P : LiveView → Type 0) (id : ℕ) (views : List LiveView) (v : LiveView) → view_of views id ≡ Some v → AllByRecursion P views → P v × (v.id ≡ id)
found-each P id [] v is h = absurd (none-some v is)
found-each P id (w ∷ views) v is h = by (nat_eq w.id id) refl is (λ e. found-each P id views v e h.1)
  where
    by : (b : Bool) → nat_eq w.id id ≡ b → cond b (Some w) (view_of views id) ≡ Some v → (view_of views id ≡ Some v → P v × (v.id ≡ id)) → P v × (v.id ≡ id)
    by true alike e rest =
        let here : w ≡ v = ap (λ o. unwrap_or o w) e in
        (subst P here h.0, sym (ap (λ (u : LiveView). u.id) here) ∙ eqb-true w.id id alike)
    by false unlike e rest = rest e

module _ (views : List LiveView) (root : ℕ) (gone : List ℕ) (are : AreGoing views root gone) where
  closed-at : (id p : ℕ) (o : Option LiveView) → view_of views id ≡ o → option_map (λ v. v.parent) o ≡ Some (Some p) → is_among gone id ≡ false → is_among gone p ≡ false
  closed-at id p None is h out = absurd (none-some (Some p) h)
  closed-at id p (Some v) is h out =
      let here = found-each (λ w. is_among gone w.id ≡ goes root gone w) id views v is (recursion_from_All (λ w. is_among gone w.id ≡ goes root gone w) views are.each) in
      let up : v.parent ≡ Some p = ap (λ o. unwrap_or o None) h in
      let stays : is_among gone v.id ≡ false = ap (is_among gone) here.1 ∙ out in
      sym (ap (λ o. option_map_or (is_among gone) o false) up) ∙ or-right (nat_eq v.id root) (option_map_or (is_among gone) v.parent false) (sym here.0 ∙ stays)

  pub closed : (id p : ℕ) → HasParent views id (Some p) → is_among gone id ≡ false → is_among gone p ≡ false
  closed id p h out = closed-at id p (view_of views id) refl h out

  pub window-stays : root ≢ 0 → slice_get views 0 ≡ Some window → is_among gone 0 ≡ false
  window-stays below first = by views first (recursion_from_All (λ w. is_among gone w.id ≡ goes root gone w) views are.each)
    where
      apart-root : nat_eq 0 root ≡ false
      apart-root = grind (arith, common_steps, below)

      by : (vs : List LiveView) → slice_get vs 0 ≡ Some window → AllByRecursion (λ w. is_among gone w.id ≡ goes root gone w) vs → is_among gone 0 ≡ false
      by [] e h = absurd (none-some window e)
      by (v ∷ vs) e h =
          let is : v ≡ window = ap (λ o. unwrap_or o window) e in
          subst (λ (w : LiveView). is_among gone w.id ≡ goes root gone w) is h.0 ∙ ap (λ b. b || false) apart-root

-- ---- nodes that are taken out from the back

module _ {X : Type 0} (go : X → Bool) where
  -- the first ones as they are, and of the others those that stay
  abbrev pub back : ℕ → List X → List X
  back zero xs = filter (λ x. not (go x)) xs
  back (suc n) [] = []
  back (suc n) (x ∷ xs) = x ∷ back n xs

  pub back-all : (xs : List X) → back (length xs) xs ≡ xs
  back-all [] = refl
  back-all (x ∷ xs) = ap (λ ys. x ∷ ys) (back-all xs)

  pub back-stays : (n : ℕ) (xs : List X) → n < length xs → option_map_or go (slice_get (back (suc n) xs) n) false ≡ false → back (suc n) xs ≡ back n xs
  back-stays n [] within h = absurd (omega (arith, within))
  back-stays zero (x ∷ xs) within h = ap (λ b. cond (not b) (x ∷ filter (λ y. not (go y)) xs) (filter (λ y. not (go y)) xs)) (sym h)
  back-stays (suc n) (x ∷ xs) within h = ap (λ ys. x ∷ ys) (back-stays n xs (omega (arith, within)) h)

  pub back-goes : (n : ℕ) (xs : List X) → n < length xs → option_map_or go (slice_get (back (suc n) xs) n) false ≡ true → remove (back (suc n) xs) n ≡ back n xs
  back-goes n [] within h = absurd (omega (arith, within))
  back-goes zero (x ∷ xs) within h = ap (λ b. cond (not b) (x ∷ filter (λ y. not (go y)) xs) (filter (λ y. not (go y)) xs)) (sym h)
  back-goes (suc n) (x ∷ xs) within h = ap (λ ys. x ∷ ys) (back-goes n xs (omega (arith, within)) h)

module _ {X : Type 0} (go : X → Bool) (xs : List X) where
  pub next-stays : (place : ℕ) (t : List X) → 0 < place → place ≤ length xs → t ≡ back go place xs → option_map_or go (slice_get t (place - 1)) false ≡ false → t ≡ back go (place - 1) xs
  next-stays zero t some within is h = absurd (omega (arith, some))
  next-stays (suc n) t some within is h =
      let e : suc n - 1 ≡ n = omega arith in
      let at : option_map_or go (slice_get (back go (suc n) xs) n) false ≡ false = ap (λ (ys : List X). option_map_or go (slice_get ys n) false) (sym is) ∙ ap (λ m. option_map_or go (slice_get t m) false) (sym e) ∙ h in
      is ∙ back-stays go n xs (omega (arith, within)) at ∙ ap (λ m. back go m xs) (sym e)

  pub next-goes : (place : ℕ) (t : List X) → 0 < place → place ≤ length xs → t ≡ back go place xs → option_map_or go (slice_get t (place - 1)) false ≡ true → remove t (place - 1) ≡ back go (place - 1) xs
  next-goes zero t some within is h = absurd (omega (arith, some))
  next-goes (suc n) t some within is h =
      let e : suc n - 1 ≡ n = omega arith in
      let at : option_map_or go (slice_get (back go (suc n) xs) n) false ≡ true = ap (λ (ys : List X). option_map_or go (slice_get ys n) false) (sym is) ∙ ap (λ m. option_map_or go (slice_get t m) false) (sym e) ∙ h in
      ap (λ (ys : List X). remove ys (suc n - 1)) is ∙ ap (λ m. remove (back go (suc n) xs) m) e ∙ back-goes go n xs (omega (arith, within)) at ∙ ap (λ m. back go m xs) (sym e)

-- ---- the numbers, place by place

grow-next : (root : ℕ) (gone : List ℕ) (views : List LiveView) (place : ℕ) (v : LiveView) → slice_get views place ≡ Some v
    → grow root gone (drop place views) ≡ grow root (grown (goes root gone v) gone v.id) (drop (suc place) views)
grow-next root gone [] place v at = absurd (none-some v at)
grow-next root gone (w ∷ views) zero v at = ap (λ (o : Option LiveView). grow root (grown (goes root gone (unwrap_or o w)) gone (unwrap_or o w).id) views) at
grow-next root gone (w ∷ views) (suc n) v at = grow-next root gone views n v at

pub grow-goes : (root : ℕ) (gone more : List ℕ) (views : List LiveView) (place : ℕ) (v : LiveView) (all : List ℕ) → Some v ≡ slice_get views place → goes root gone v ≡ true → more ≡ gone ++ v.id ∷ []
    → grow root gone (drop place views) ≡ all → grow root more (drop (place + 1) views) ≡ all
grow-goes root gone more views place v all at go is before =
    rw (add-one place) (ap (λ xs. grow root xs (drop (suc place) views)) is ∙ ap (λ b. grow root (grown b gone v.id) (drop (suc place) views)) (sym go) ∙ sym (grow-next root gone views place v (sym at)) ∙ before)

pub grow-stays : (root : ℕ) (gone more : List ℕ) (views : List LiveView) (place : ℕ) (v : LiveView) (all : List ℕ) → Some v ≡ slice_get views place → goes root gone v ≡ false → more ≡ gone
    → grow root gone (drop place views) ≡ all → grow root more (drop (place + 1) views) ≡ all
grow-stays root gone more views place v all at stays is before =
    rw (add-one place) (ap (λ xs. grow root xs (drop (suc place) views)) is ∙ ap (λ b. grow root (grown b gone v.id) (drop (suc place) views)) (sym stays) ∙ sym (grow-next root gone views place v (sym at)) ∙ before)

drop-past : {X : Type 0} (xs : List X) (n : ℕ) → length xs ≤ n → drop n xs ≡ []
drop-past [] zero h = refl
drop-past [] (suc n) h = refl
drop-past (x ∷ xs) zero h = absurd (omega (arith, h))
drop-past (x ∷ xs) (suc n) h = drop-past xs n (omega (arith, h))

pub grow-end : (t : ViewTree) (root : ℕ) (gone : List ℕ) (place : ℕ) → IsTree t → length t.views ≤ place → grow root gone (drop place t.views) ≡ grow root [] t.views → AreGoing t.views root gone
grow-end t root gone place tree past h = subst (AreGoing t.views root) (sym (sym (ap (grow root gone) (drop-past t.views place past)) ∙ h)) (AreGoing-grow root t tree)
