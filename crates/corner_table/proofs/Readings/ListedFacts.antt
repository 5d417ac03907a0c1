-- Lists of slots with flags.
use Rattle.std.proofs.Common.{◌≡◌, ◌∙◌, ◌<◌, ℕ, ◌+◌, ◌∷◌, ◌++◌, [], Bool, true, false, List, length, map, take, arith, ap, inl, inr, subst, sym}
use Rattle.std.specs.Prelude.{Contains, slice_index_or, slice_set}
use Rattle.std.proofs.lemmas.Bool.{cases_eq}
use Rattle.std.proofs.lemmas.List.{get_or-set_other, length-set, map_more}
use Rattle.std.proofs.lemmas.List.Elements.{All-push, Contains-append_left, Contains-push}
use Rattle.corner_table.specs.Reads.Listing.{AreFlagged}

-- one more is listed, and flagged
pub flagged_more :
    (lines : List ℕ) (flags : List Bool) (w : ℕ) → AreFlagged lines flags → w < length flags
    → AreFlagged (lines ++ w ∷ []) (slice_set flags w true)
flagged_more lines flags w are within =
    let same : length (slice_set flags w true) ≡ length flags = length-set flags w true in record {
      within = All-push (λ v. v < length (slice_set flags w true)) lines w
          (subst (λ (n : ℕ). (k d : ℕ) → k < length lines → slice_index_or lines k d < n) (sym same) are.within)
          (omega (arith, same, within));
      listed = λ v flagged.
          elim (cases_eq v w) [
            | inl here ↦ subst (Contains (lines ++ w ∷ [])) (sym here) (Contains-push lines w)
            | inr other ↦
                Contains-append_left lines (w ∷ []) v
                (are.listed v (sym (get_or-set_other flags w v true false other) ∙ flagged))
          ];
    }

-- one more has another slot
pub renamed_more :
    (places xs ys zs : List ℕ) (i : ℕ) → i < length xs
    → zs ≡ ys ++ slice_index_or places (slice_index_or xs i 0) 0 ∷ []
    → ys ≡ map (λ w. slice_index_or places w 0) (take i xs)
    → zs ≡ map (λ w. slice_index_or places w 0) (take (i + 1) xs)
renamed_more places xs ys zs i within pushed before =
    pushed ∙ ap (λ ws. ws ++ slice_index_or places (slice_index_or xs i 0) 0 ∷ []) before
    ∙ sym (map_more (λ w. slice_index_or places w 0) xs i 0 within)
