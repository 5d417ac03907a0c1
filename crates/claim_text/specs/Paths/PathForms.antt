-- Which lines may follow in a path, and which paths can be written.
use Rattle.std.specs.Prelude.{◌≡◌, ℕ, Bool, List, [], ◌∷◌, ◌++◌, All, AllPairs, Option, None, Some, codes}
use Rattle.problem_core.specs.declared.parts.Mark.{Mark}
use Rattle.problem_core.specs.declared.stops.Quantity.{Quantity}
use Rattle.problem_core.specs.Corners.{Swap}
use Rattle.cert_core.specs.Paths.{Path}
use Rattle.claim_text.specs.declared.claim.path_lines.PathLine.{PathLine}
use Rattle.claim_text.specs.declared.claim.path_lines.PathLine.TheVariants.{OfIn, OfSwap, OfUnfit}
use Rattle.claim_text.specs.declared.claim.path_lines.Part.{Part}
use Rattle.claim_text.specs.declared.claim.path_lines.Part.TheVariants.{Terms, Rows, Shifts}
use Rattle.problem_reading.specs.Words.{words}
use Rattle.claim_writing.specs.Names.{IsRowName, IsRowBefore}
use Rattle.claim_writing.specs.PathTexts.{in_words, swap_words, unfit_words, IsSwapName, IsQuantityName}

-- the content of a line after the first, by itself
abbrev pub SaysPart : List ℕ → PathLine → Type 0
SaysPart line (OfIn m) = IsRowName m.row × (words line ≡ in_words m)
SaysPart line (OfSwap s) = IsSwapName s × (words line ≡ swap_words s)
SaysPart line (OfUnfit q) = IsQuantityName q × (words line ≡ unfit_words q)

-- the word for the first terms, rows or changed constants in a partial sum
abbrev pub part_word : Part → List ℕ
part_word Terms = codes "terms"
part_word Rows = codes "rows"
part_word Shifts = codes "shifts"

-- the parts of a path read so far
pub record PathDraft : Type 0 where
  pub dual : Bool
  pub corner : List Mark
  pub swaps : List Swap
  pub unfit : Option Quantity

-- a path of which only the kind has been read
abbrev pub path_begun : Bool → PathDraft
path_begun dual = record { dual = dual; corner = []; swaps = []; unfit = None }

-- the path read so far, without a quantity
abbrev pub path_of : PathDraft → Path
path_of d = record { dual = d.dual; corner = d.corner; swaps = d.swaps }

-- marks, then exchanges, then at most one quantity
abbrev pub PartMayFollow : PathDraft → PathLine → Type 0
PartMayFollow d (OfIn m) = (d.swaps ≡ []) × (d.unfit ≡ None) × All (λ k. IsRowBefore k.row m.row) d.corner
PartMayFollow d (OfSwap s) = d.unfit ≡ None
PartMayFollow d (OfUnfit q) = d.unfit ≡ None

-- the parts read so far, with the content of a line
abbrev pub with_part : PathDraft → PathLine → PathDraft
with_part d (OfIn m) = record {
  dual = d.dual;
  corner = d.corner
      ++ m ∷ [];
  swaps = d.swaps;
  unfit = d.unfit;
}
with_part d (OfSwap s) = record {
  dual = d.dual;
  corner = d.corner;
  swaps = d.swaps
      ++ s ∷ [];
  unfit = d.unfit;
}
with_part d (OfUnfit q) = record { dual = d.dual; corner = d.corner; swaps = d.swaps; unfit = Some q }

-- no quantity, or one that may be named
abbrev pub IsQuantityWritten : Option Quantity → Type 0
IsQuantityWritten None = Unit {0}
IsQuantityWritten (Some q) = IsQuantityName q

-- the marks' rows rise and come before the stays, and none is there twice
pub record IsPathWritten (p : Path) (unfit : Option Quantity) : Type 0 where
  pub marks : All (λ m. IsRowName m.row) p.corner
  pub order : AllPairs (λ m n. IsRowBefore m.row n.row) p.corner
  pub swaps : All IsSwapName p.swaps
  pub quantity : IsQuantityWritten unfit
