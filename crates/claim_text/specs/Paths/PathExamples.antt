-- Lines inside and outside the form of paths.
use Rattle.std.specs.Prelude.{ℕ, List, [], ◌∷◌, codes}
use Rattle.claim_writing.specs.declared.claim.Claim.{Claim}
use Rattle.claim_text.specs.Claims.ClaimForms.{AreLinesOf, IsFirstOutside}

-- these are the lines of a claim
abbrev pub AreClaimLines : List (List ℕ) → Type 0
AreClaimLines all = (c : Claim) × AreLinesOf all c

-- a path of its first line alone is a claim, and so is one with each kind of line
pub record SomePathsAreInside : Type 0 where
  pub alone : AreClaimLines (codes "path dual" ∷ [])
  pub whole : AreClaimLines (codes "path primal" ∷ codes "in 1-" ∷ codes "in s1+" ∷ codes "swap s2+ 1-"
      ∷ codes "unfit attr 1 shifts 2" ∷ [])
  pub terms : AreClaimLines (codes "path primal" ∷ codes "unfit mark 1- terms 4294967295" ∷ [])
  pub rows : AreClaimLines (codes "path primal" ∷ codes "unfit level 0 rows 1" ∷ [])

-- marks come by row number, stays last, no row twice, before the exchanges; the quantity is the last line;
-- parts are counted from 1 to 2^32 - 1, and terms are of marks; the lines before a printed path are outside
pub record SomePathsAreOutside : Type 0 where
  pub falling : IsFirstOutside (codes "path primal" ∷ codes "in 2+" ∷ codes "in 1+" ∷ []) 3
  pub same_row : IsFirstOutside (codes "path primal" ∷ codes "in 1+" ∷ codes "in 1-" ∷ []) 3
  pub stay_first : IsFirstOutside (codes "path primal" ∷ codes "in s1+" ∷ codes "in 1+" ∷ []) 3
  pub same_stay : IsFirstOutside (codes "path primal" ∷ codes "in s1+" ∷ codes "in s1-" ∷ []) 3
  pub late_mark : IsFirstOutside (codes "path primal" ∷ codes "swap 1+ 2+" ∷ codes "in 3+" ∷ []) 3
  pub behind : IsFirstOutside (codes "path dual" ∷ codes "unfit attr 1" ∷ codes "swap 1+ 2+" ∷ []) 3
  pub no_count : IsFirstOutside (codes "path dual" ∷ codes "unfit attr 1 shifts 0" ∷ []) 2
  pub many : IsFirstOutside (codes "path dual" ∷ codes "unfit attr 1 shifts 4294967296" ∷ []) 2
  pub attr_terms : IsFirstOutside (codes "path dual" ∷ codes "unfit attr 1 terms 1" ∷ []) 2
  pub still : IsFirstOutside (codes "still 1" ∷ codes "path primal" ∷ []) 1
  pub probe : IsFirstOutside (codes "probe a.left up" ∷ codes "path primal" ∷ []) 1
  pub refused : IsFirstOutside (codes "refused 7 overflow" ∷ codes "path primal" ∷ []) 1
