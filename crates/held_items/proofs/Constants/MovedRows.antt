-- The rows for metrics of which one has another value.
use Rattle.std.proofs.Common.{◌≡◌, ◌∙◌, ℕ, zero, suc, ◌<◌, Bool, true, false, cond, List, [], ◌∷◌, ◌++◌, length, map, filter, get_or, refl, sym, ap, subst, arith, All, inl, inr}
use Rattle.std.specs.List.{AllZip, AllByRecursion as Each}
use Rattle.std.proofs.lemmas.List.{map-append}
use Rattle.std.proofs.lemmas.List.Elements.{filter-append, recursion_from_All, All-from_recursion}
use Rattle.problem_core.specs.Layout.{Row}
use Rattle.compile_parts.specs.Meaning.{MetricList}
use Rattle.constraint_compile.specs.Compiled.{RowForm, AreSmallForms, IsRowNow}
use Rattle.compile_parts.specs.Steps.{AreSmallSteps}
use Rattle.constraint_compile.specs.Naming.{names_metric, naming, AreSameBut, IsConstantOf, AreConstantsOf}
use Rattle.constraint_compile.specs.declared.naming.RowConstant.{RowConstant}
use Rattle.constraint_compile.proofs.RowConstants.Named.{other_row, other_small}
use Rattle.layout_solver.specs.declared.engine.Change.{Change}
use Rattle.held_items.specs.Items.{Item, OfWindow, OfView, Sized, OfLine, Suggested, Intrinsic, AreItemRows, AreRows, IsSmallItem}
use Rattle.problem_core.specs.Unfit.{at_constant}
use Rattle.held_items.specs.Moving.{forms_in, forms_of, change_to}
use Rattle.held_items.proofs.Constants.ConstantChanges.{AreChanges, change, changes-none, changes-append}
use Rattle.frac_core.proofs.Lists.{zip-length as zip-long}

abbrev pub changes_to : List RowConstant → List Change
changes_to constants = map change_to constants

-- ---- place by place

zipped : {A B : Type 0} (R : A → B → Type 0) (xs : List A) (ys : List B) → length ys ≡ length xs → ((i : ℕ) (x : A) (y : B) → i < length xs → R (get_or xs i x) (get_or ys i y)) → AllZip R xs ys
zipped R [] [] long each = tt
zipped R [] (y ∷ ys) long each = absurd (omega (arith, long))
zipped R (x ∷ xs) [] long each = absurd (omega (arith, long))
zipped R (x ∷ xs) (y ∷ ys) long each = (each zero x y (omega arith), zipped R xs ys (omega (arith, long)) (λ i a b within. each (suc i) a b (omega (arith, within))))

pub zip-at : {A B : Type 0} (R : A → B → Type 0) (xs : List A) (ys : List B) → AllZip R xs ys → (i : ℕ) (x : A) (y : B) → i < length xs → R (get_or xs i x) (get_or ys i y)
zip-at R [] ys are i a b within = absurd (omega (arith, within))
zip-at R (x ∷ xs) [] are i a b within = absurd are
zip-at R (x ∷ xs) (y ∷ ys) are zero a b within = are.0
zip-at R (x ∷ xs) (y ∷ ys) are (suc i) a b within = zip-at R xs ys are.1 i a b (omega (arith, within))

-- what goes with two lists, one after the other
record IsSplit {A B : Type 0} (R : A → B → Type 0) (xs ys : List A) (zs : List B) : Type 0 where
  front : List B
  back : List B
  is : zs ≡ front ++ back
  first : AllZip R xs front
  rest : AllZip R ys back

split : {A B : Type 0} (R : A → B → Type 0) (xs ys : List A) (zs : List B) → AllZip R (xs ++ ys) zs → IsSplit R xs ys zs
split R [] ys zs are = record { front = []; back = zs; is = refl; first = tt; rest = are }
split R (x ∷ xs) ys [] are = absurd are
split R (x ∷ xs) ys (z ∷ zs) are =
    let s : IsSplit R xs ys zs = split R xs ys zs are.1 in
    record { front = z ∷ s.front; back = s.back; is = ap (λ (bs : List _). z ∷ bs) s.is; first = (are.0, s.first); rest = s.rest }

pub zip-joined : {A B : Type 0} (R : A → B → Type 0) (xs ys : List A) (us vs : List B) → AllZip R xs us → AllZip R ys vs → AllZip R (xs ++ ys) (us ++ vs)
zip-joined R [] ys [] vs first rest = rest
zip-joined R [] ys (u ∷ us) vs first rest = absurd first
zip-joined R (x ∷ xs) ys [] vs first rest = absurd first
zip-joined R (x ∷ xs) ys (u ∷ us) vs first rest = (first.0, zip-joined R xs ys us vs first.1 rest)

pub naming-append : (name : List ℕ) (xs ys : List RowForm) → naming name (xs ++ ys) ≡ naming name xs ++ naming name ys
naming-append name xs ys = filter-append (names_metric name) xs ys

-- ---- with one item more

forms-more : (held : List Item) (item : Item) → forms_of (held ++ item ∷ []) ≡ forms_of held ++ forms_in item
forms-more [] item = end (forms_in item)
  where
    end : (xs : List RowForm) → xs ++ [] ≡ xs
    end [] = refl
    end (x ∷ xs) = ap (λ (ys : List RowForm). x ∷ ys) (end xs)
forms-more (x ∷ held) item = ap (λ (fs : List RowForm). forms_in x ++ fs) (forms-more held item) ∙ assoc (forms_in x) (forms_of held) (forms_in item)
  where
    assoc : (us vs ws : List RowForm) → us ++ (vs ++ ws) ≡ (us ++ vs) ++ ws
    assoc [] vs ws = refl
    assoc (u ∷ us) vs ws = ap (λ (ys : List RowForm). u ∷ ys) (assoc us vs ws)

pub constants-more : (ms : MetricList) (name : List ℕ) (held : List Item) (item : Item) (constants more : List RowConstant) → AreConstantsOf ms (naming name (forms_of held)) constants → AreConstantsOf ms (naming name (forms_in item)) more
    → AreConstantsOf ms (naming name (forms_of (held ++ item ∷ []))) (constants ++ more)
constants-more ms name held item constants more are new =
    subst (λ (fs : List RowForm). AreConstantsOf ms fs (constants ++ more)) (sym (ap (naming name) (forms-more held item) ∙ naming-append name (forms_of held) (forms_in item)))
    (zip-joined (IsConstantOf ms) (naming name (forms_of held)) (naming name (forms_in item)) constants more are new)

-- ---- the rows of an item

module _ (name : List ℕ) (old new : MetricList) (same : AreSameBut name old new) where
  -- rows for the new metrics, with the changes that lead to them
  record AreAfter (forms : List RowForm) (rows : List Row) (constants : List RowConstant) : Type 0 where
    after : List Row
    are : AllZip (IsRowNow new) forms after
    small : Each (λ f. AreSmallSteps new f.steps) forms
    changes : AreChanges rows after (changes_to constants)

  renewed : (f : RowForm) (r : Row) (c : RowConstant) → IsRowNow old f r → IsConstantOf new f c → IsRowNow new f (at_constant c.constant r)
  renewed f r c is own = record { id = is.id; rank = is.rank; weight = is.weight; rel = is.rel; scale = is.scale; terms = is.terms; constant = own.constant }

  forms-after : (forms : List RowForm) (rows : List Row) (constants : List RowConstant) → AllZip (IsRowNow old) forms rows → Each (λ f. AreSmallSteps old f.steps) forms → AreConstantsOf new (naming name forms) constants
      → AreAfter forms rows constants
  forms-after [] [] [] are small own = record { after = []; are = tt; small = tt; changes = refl }
  forms-after [] [] (c ∷ constants) are small own = absurd own
  forms-after [] (r ∷ rows) constants are small own = absurd are
  forms-after (f ∷ forms) [] constants are small own = absurd are
  forms-after (f ∷ forms) (r ∷ rows) constants are small own = by (λ cs h. forms-after forms rows cs are.1 small.1 h) (names_metric name f) refl constants own
    where
      by : ((cs : List RowConstant) → AreConstantsOf new (naming name forms) cs → AreAfter forms rows cs) → (b : Bool) → names_metric name f ≡ b → (cs : List RowConstant) → AreConstantsOf new (cond b (f ∷ naming name forms) (naming name forms)) cs
          → AreAfter (f ∷ forms) (r ∷ rows) cs
      by later true e [] h = absurd h
      by later true e (c ∷ cs) h =
          let rest : AreAfter forms rows cs = later cs h.1 in
          record {
            after = at_constant c.constant r ∷ rest.after;
            are = (renewed f r c are.0 h.0, rest.are);
            small = (h.0.small, rest.small);
            changes = inr (changes_to cs, ap (λ (n : ℕ). change n c.constant ∷ changes_to cs) (h.0.row ∙ sym are.0.id), rest.changes);
          }
      by later false e cs h =
          let rest : AreAfter forms rows cs = later cs h in
          record {
            after = r ∷ rest.after;
            are = (other_row name old new same f r e are.0, rest.are);
            small = (other_small name old new same f.steps e small.0, rest.small);
            changes = inl (refl, rest.changes);
          }

  -- the same of the rows of an item, and of those of some
  pub record HasAfter (Are : List Row → Type 0) (rows : List Row) (constants : List RowConstant) : Type 0 where
    pub after : List Row
    pub are : Are after
    pub changes : AreChanges rows after (changes_to constants)

  still : (Are : List Row → Type 0) (rows : List Row) (constants : List RowConstant) → AllZip (IsConstantOf new) [] constants → Are rows → HasAfter Are rows constants
  still Are rows [] none are = record { after = rows; are = are; changes = changes-none rows }
  still Are rows (c ∷ constants) none are = absurd none

  item-after : (item : Item) (rows : List Row) (constants : List RowConstant) → AreItemRows old item rows → AreConstantsOf new (naming name (forms_in item)) constants → HasAfter (AreItemRows new item) rows constants
  item-after OfWindow rows constants are own = still (AreItemRows new OfWindow) rows constants own are
  item-after (OfView first id) rows constants are own = still (AreItemRows new (OfView first id)) rows constants own are
  item-after (Sized first w h) rows constants are own = still (AreItemRows new (Sized first w h)) rows constants own are
  item-after (Suggested s) rows constants are own = still (AreItemRows new (Suggested s)) rows constants own are
  item-after (Intrinsic s) rows constants are own = still (AreItemRows new (Intrinsic s)) rows constants own are
  item-after (OfLine group line) rows constants are own =
      let a : AreAfter line.rows rows constants = forms-after line.rows rows constants (zipped (IsRowNow old) line.rows rows are.long are.each) (recursion_from_All (λ (f : RowForm). AreSmallSteps old f.steps) line.rows are.small) own in
      record {
        after = a.after;
        are = record {
          long = zip-long (IsRowNow new) line.rows a.after a.are;
          each = zip-at (IsRowNow new) line.rows a.after a.are;
          small = All-from_recursion (λ (f : RowForm). AreSmallSteps new f.steps) line.rows a.small;
        };
        changes = a.changes;
      }

  pub rows-after : (held : List Item) (rows : List Row) (constants : List RowConstant) → AreRows old held rows → AreConstantsOf new (naming name (forms_of held)) constants → HasAfter (AreRows new held) rows constants
  rows-after [] rows constants are own = still (AreRows new []) rows constants own are
  rows-after (item ∷ held) rows constants (front, back, is, first, rest) own =
      let s : IsSplit (IsConstantOf new) (naming name (forms_in item)) (naming name (forms_of held)) constants =
      split (IsConstantOf new) (naming name (forms_in item)) (naming name (forms_of held)) constants
      (subst (λ (fs : List RowForm). AreConstantsOf new fs constants) (naming-append name (forms_in item) (forms_of held)) own) in
      let one : HasAfter (AreItemRows new item) front s.front = item-after item front s.front first s.first in
      let more : HasAfter (AreRows new held) back s.back = rows-after held back s.back rest s.rest in
      record {
        after = one.after ++ more.after;
        are = (one.after, more.after, refl, one.are, more.are);
        changes = subst (λ (rs : List Row). AreChanges rs (one.after ++ more.after) (changes_to constants)) (sym is)
            (subst (AreChanges (front ++ back) (one.after ++ more.after)) (sym (ap changes_to s.is ∙ map-append change_to s.front s.back))
            (changes-append front one.after back more.after (changes_to s.front) (changes_to s.back) one.changes more.changes));
      }

-- ---- what isn't small

each-join : (ms : MetricList) (fs gs : List RowForm) → Each (λ f. AreSmallSteps ms f.steps) fs → Each (λ f. AreSmallSteps ms f.steps) gs → Each (λ f. AreSmallSteps ms f.steps) (fs ++ gs)
each-join ms [] gs h rest = rest
each-join ms (f ∷ fs) gs h rest = (h.0, each-join ms fs gs h.1 rest)

small-forms : (ms : MetricList) (held : List Item) → Each (IsSmallItem ms) held → Each (λ f. AreSmallSteps ms f.steps) (forms_of held)
small-forms ms [] small = tt
small-forms ms (OfWindow ∷ held) small = small-forms ms held small.1
small-forms ms (OfView first id ∷ held) small = small-forms ms held small.1
small-forms ms (Sized first w h ∷ held) small = small-forms ms held small.1
small-forms ms (Suggested s ∷ held) small = small-forms ms held small.1
small-forms ms (Intrinsic s ∷ held) small = small-forms ms held small.1
small-forms ms (OfLine group line ∷ held) small = each-join ms line.rows (forms_of held) (recursion_from_All (λ (f : RowForm). AreSmallSteps ms f.steps) line.rows small.0) (small-forms ms held small.1)

each-filtered : (P : RowForm → Type 0) (p : RowForm → Bool) (forms : List RowForm) → Each P forms → Each P (filter p forms)
each-filtered P p [] h = tt
each-filtered P p (f ∷ forms) h = by (p f) (each-filtered P p forms h.1)
  where
    by : (b : Bool) → Each P (filter p forms) → Each P (cond b (f ∷ filter p forms) (filter p forms))
    by true rest = (h.0, rest)
    by false rest = rest

-- where all that is held is small, so are the rows that name the metric
pub small-naming : (ms : MetricList) (name : List ℕ) (held : List Item) → All (IsSmallItem ms) held → AreSmallForms ms (naming name (forms_of held))
small-naming ms name held small =
    All-from_recursion (λ (f : RowForm). AreSmallSteps ms f.steps) (naming name (forms_of held))
    (each-filtered (λ f. AreSmallSteps ms f.steps) (names_metric name) (forms_of held) (small-forms ms held (recursion_from_All (IsSmallItem ms) held small)))
