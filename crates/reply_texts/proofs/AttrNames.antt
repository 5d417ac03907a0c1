-- The names of attributes.
use Rattle.std.proofs.Common.{◌≡◌, ◌∙◌, ◌++◌, ◌≤◌, ◌+◌, ℕ, zero, suc, List, [], ◌∷◌, length, drop, Option, Some, None, refl, sym, ap, arith, add-one}
use Rattle.std.specs.Prelude.{slice_get}
use Rattle.std.proofs.lemmas.Option.{none-some, same_Some}
use Rattle.view_tree.specs.Views.{LiveView}
use Rattle.reply_texts.specs.Found.{attr_name, name_or, word_at}

skip : (views : List LiveView) (i attr : ℕ) (v : LiveView) → slice_get views i ≡ Some v → word_at v.id attr ≡ None → attr_name (drop i views) attr ≡ attr_name (drop (suc i) views) attr
skip [] i attr v is none = absurd (none-some v is)
skip (w ∷ views) zero attr v is none =
    ap (λ (u : LiveView). name_or u.name (word_at u.id attr) (attr_name views attr)) (same_Some w v is) ∙ ap (λ (o : Option (List ℕ)). name_or v.name o (attr_name views attr)) none
skip (w ∷ views) (suc i) attr v is none = skip views i attr v is none

-- a view that hasn't the attribute is passed over
pub name_skip : (views : List LiveView) (i attr : ℕ) (v : LiveView) → slice_get views i ≡ Some v → word_at v.id attr ≡ None → attr_name views attr ≡ attr_name (drop i views) attr → attr_name views attr ≡ attr_name (drop (i + 1) views) attr
name_skip views i attr v is none before = before ∙ skip views i attr v is none ∙ ap (λ (n : ℕ). attr_name (drop n views) attr) (sym (add-one i))

-- the view that has it gives the name
pub name_found : (views : List LiveView) (i attr : ℕ) (v : LiveView) (word : List ℕ) → slice_get views i ≡ Some v → word_at v.id attr ≡ Some word → attr_name (drop i views) attr ≡ v.name ++ (46 ∷ word)
name_found [] i attr v word is some = absurd (none-some v is)
name_found (w ∷ views) zero attr v word is some =
    ap (λ (u : LiveView). name_or u.name (word_at u.id attr) (attr_name views attr)) (same_Some w v is) ∙ ap (λ (o : Option (List ℕ)). name_or v.name o (attr_name views attr)) some
name_found (w ∷ views) (suc i) attr v word is some = name_found views i attr v word is some

-- past the end no view has it
pub name_none : (views : List LiveView) (i attr : ℕ) → length views ≤ i → attr_name (drop i views) attr ≡ []
name_none [] zero attr over = refl
name_none [] (suc i) attr over = refl
name_none (w ∷ views) zero attr over = absurd (omega (arith, over))
name_none (w ∷ views) (suc i) attr over = name_none views i attr (omega (arith, over))
