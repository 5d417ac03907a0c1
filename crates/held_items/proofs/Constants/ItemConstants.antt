-- The constants of items that name a metric, item by item.
use Rattle.std.proofs.Common.{◌≡◌, ℕ, zero, suc, ◌+◌, ◌<◌, List, [], ◌∷◌, ◌++◌, length, take, get_or, sym, subst, arith}
use Rattle.std.specs.List.{AllByRecursion as Each}
use Rattle.std.proofs.lemmas.List.Elements.{recursion_from_All, All-from_recursion}
use Rattle.compile_parts.specs.Meaning.{MetricList}
use Rattle.constraint_compile.specs.Compiled.{RowForm, AreSmallForms}
use Rattle.compile_parts.specs.Steps.{AreSmallSteps}
use Rattle.constraint_compile.specs.Naming.{naming, AreConstantsOf}
use Rattle.constraint_compile.specs.Stops.{IsConstantStop}
use Rattle.constraint_compile.specs.declared.naming.RowConstant.{RowConstant}
use Rattle.frac_core.specs.declared.memory.Stop.{Stop}
use Rattle.frac_core.specs.declared.memory.Stop.TheVariants as stop
use Rattle.compile_parts.specs.declared.stops.LargeConstant.{LargeConstant}
use Rattle.held_items.specs.declared.item.Item as declared
use Rattle.held_items.specs.Items.{Item}
use Rattle.held_items.specs.Kept.{items_of, item_of}
use Rattle.held_items.specs.Moving.{forms_in, forms_of}
use Rattle.held_items.proofs.HeldRows.ItemRows.{line-more}
use Rattle.held_items.proofs.Removals.LeavingRows.{each-split}
use Rattle.held_items.proofs.Constants.MovedRows.{constants-more, naming-append}

pub constants-next : (ms : MetricList) (name : List ℕ) (items : List declared.Item) (i : ℕ) (item : declared.Item) (constants more new : List RowConstant) → i < length items → item ≡ get_or items i item
    → AreConstantsOf ms (naming name (forms_of (items_of (take i items)))) constants → AreConstantsOf ms (naming name (forms_in (item_of item))) more → new ≡ constants ++ more
    → AreConstantsOf ms (naming name (forms_of (items_of (take (i + 1) items)))) new
constants-next ms name items i item constants more new within read are next is =
    subst (λ (xs : List Item). AreConstantsOf ms (naming name (forms_of xs)) new) (sym (line-more items i item within read))
    (subst (AreConstantsOf ms (naming name (forms_of (items_of (take i items) ++ item_of item ∷ [])))) (sym is)
    (constants-more ms name (items_of (take i items)) (item_of item) constants more are next))

module _ (ms : MetricList) (xs ys : List RowForm) (to : AreSmallForms ms ys → AreSmallForms ms xs) where
  -- rows that are not small are not where they are among others
  pub stop-among : (s : Stop LargeConstant) → IsConstantStop ms xs s → IsConstantStop ms ys s
  stop-among (stop.Refused cause) h = λ small. h (to small)
  stop-among stop.OutOfMemory h = h

-- where all are small, those of an item are
pub item-small : (ms : MetricList) (name : List ℕ) (items : List declared.Item) (i : ℕ) (item : declared.Item) → i < length items → item ≡ get_or items i item → AreSmallForms ms (naming name (forms_of (items_of items)))
    → AreSmallForms ms (naming name (forms_in (item_of item)))
item-small ms name items i item within read small =
    All-from_recursion Small (naming name (forms_in (item_of item))) (at items i within read (recursion_from_All Small (naming name (forms_of (items_of items))) small))
  where
    Small : RowForm → Type 0
    Small f = AreSmallSteps ms f.steps

    at : (xs : List declared.Item) (k : ℕ) → k < length xs → item ≡ get_or xs k item → Each Small (naming name (forms_of (items_of xs))) → Each Small (naming name (forms_in (item_of item)))
    at [] k inside is h = absurd (omega (arith, inside))
    at (x ∷ xs) zero inside is h =
        subst (λ (y : declared.Item). Each Small (naming name (forms_in (item_of y)))) (sym is)
        (each-split Small (naming name (forms_in (item_of x))) (naming name (forms_of (items_of xs))) (subst (Each Small) (naming-append name (forms_in (item_of x)) (forms_of (items_of xs))) h)).0
    at (x ∷ xs) (suc k) inside is h =
        at xs k (omega (arith, inside)) is (each-split Small (naming name (forms_in (item_of x))) (naming name (forms_of (items_of xs))) (subst (Each Small) (naming-append name (forms_in (item_of x)) (forms_of (items_of xs))) h)).1
