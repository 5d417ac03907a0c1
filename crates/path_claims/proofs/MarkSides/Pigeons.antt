-- So many different marks among as many are all of them.
use Rattle.std.proofs.Common.{◌≡◌, ◌≢◌, ◌∙◌, ℕ, ◌≤◌, List, ◌∷◌, length, sym, subst, arith, inl, inr, All, AllPairs}
use Rattle.std.proofs.lemmas.List.Elements.{All-from_recursion, recursion_from_All}
use Rattle.std.proofs.lemmas.List.Kept.{AllPairs-cons}
use Rattle.problem_core.specs.declared.parts.Mark.{Mark}
use Rattle.problem_core.specs.Layout.{Problem}
use Rattle.problem_core.specs.Corners.{IsCorner, IsIn, SameMarks, place}
use Rattle.problem_core.proofs.Forms.{each-impl}
use Rattle.corner_laws.proofs.PathEnds.Ends.{decided}
use Rattle.corner_laws.proofs.ZeroColumns.{all-marks}
use Rattle.corner_lines.proofs.SameMarks.{no-more, same_corner}

-- so many different ones among as many
pub all_of_them : (xs ys : List Mark) → AllPairs (λ m n. place m ≢ place n) xs → All (λ m. IsIn (place m) ys) xs → length xs ≡ length ys → All (λ m. IsIn (place m) xs) ys
all_of_them xs ys apart all same =
    All-from_recursion (λ m. IsIn (place m) xs) ys
    (each-impl (λ m. IsIn (place m) ys) (λ m. IsIn (place m) xs) ys
    (λ m i.
    elim (decided xs m) [
      | inl here ↦ here
      | inr out ↦
          let far : All (λ n. place m ≢ place n) xs =
          All-from_recursion (λ n. place m ≢ place n) xs (each-impl (λ n. IsIn (place n) xs) (λ n. place m ≢ place n) xs (λ n here e. out (subst (λ (c : ℕ). IsIn c xs) (sym e) here)) (all-marks xs)) in
          let more : length (m ∷ xs) ≤ length ys = no-more (m ∷ xs) ys (AllPairs-cons (λ m n. place m ≢ place n) m xs far apart) (i, recursion_from_All (λ m. IsIn (place m) ys) xs all) in
          absurd (omega (arith, more, same))
    ])
    (all-marks ys))

-- and where they are inside at a corner, they are one
pub corner_of_all : (p : Problem) (at wanted : List Mark) → IsCorner p at → All (λ m. IsIn (place m) at) wanted → length wanted ≡ length p.rows → AllPairs (λ m n. place m ≢ place n) wanted → IsCorner p wanted × SameMarks at wanted
corner_of_all p at wanted corner inside long apart =
    let same : SameMarks at wanted = (all_of_them wanted at apart inside (long ∙ sym corner.count), inside) in
    (same_corner p at wanted same apart corner, same)
