-- Marks in a list, exchanges of them, and paths that go one exchange further.
use Rattle.std.proofs.Common.{List, [], ap, arith, cond, eq-eqb, false, inl, inr, ne_eqb, refl, rules, suc, sym, zero, ℕ, ◌++◌, ◌∙◌, ◌∷◌, ◌≡◌, ◌≢◌}
use Rattle.std.proofs.lemmas.Bool.{cases_Bool}
use Rattle.std.specs.List.{AllByRecursion as Each}
use Rattle.problem_core.proofs.Forms.{each-impl}
use Rattle.problem_core.specs.Certificates.{Multipliers}
use Rattle.problem_core.specs.Changes.Begins.{AreExchanges, ChangeNoValue, ChangesNoValue, IsFreeing, is_one_of, without_marks}
use Rattle.problem_core.specs.Changes.Paths.{IsPath, last_marks}
use Rattle.problem_core.specs.Corners.{AreMultipliersAt, ArePairwiseDifferent, IsCorner, IsExchange, IsIn, NoNegativeValue, SameMarks, Swap, exchanged, place, place_of}
use Rattle.problem_core.specs.Layout.{Problem}
use Rattle.problem_core.specs.declared.parts.Mark.{Mark}
use Rattle.problem_core.specs.declared.parts.RowName.{RowName}
use Rattle.problem_core.specs.declared.parts.RowName.TheVariants.{Held, Stay as StayOf}
use Rattle.problem_core.specs.declared.parts.Side.{Side}
use Rattle.problem_core.specs.declared.parts.Side.TheVariants.{Under, Over}

pub entered-in : (s : Swap) (at : List Mark) → IsIn (place s.leave) at → IsIn (place s.enter) (exchanged s at)
entered-in s [] (k, within, is) = absurd (omega (arith, within))
entered-in s (m ∷ ms) (zero, within, is) = (0, omega arith, ap (λ b. place (cond b s.enter m)) (eq-eqb (place m) (place s.leave) is))
entered-in s (m ∷ ms) (suc k, within, is) = let i = entered-in s ms (k, omega (arith, within), is) in (suc i.0, omega (arith, i.1), i.2)

pub same-back : (a b : List Mark) → SameMarks a b → SameMarks b a
same-back a b f = (f.1, f.0)

pub kept-in : (s : Swap) (at : List Mark) (c : ℕ) → IsIn c at → c ≢ place s.leave → IsIn c (exchanged s at)
kept-in s [] c (k, within, is) ne = absurd (omega (arith, within))
kept-in s (m ∷ ms) c (zero, within, is) ne = (0, omega arith, ap (λ b. place (cond b s.enter m)) (ne_eqb (place m) (place s.leave) (λ e. ne (sym is ∙ e))) ∙ is)
kept-in s (m ∷ ms) c (suc k, within, is) ne = let i = kept-in s ms c (k, omega (arith, within), is) ne in (suc i.0, omega (arith, i.1), i.2)

pub later-in : (m : Mark) (xs : List Mark) (c : ℕ) → IsIn c xs → IsIn c (m ∷ xs)
later-in m xs c (k, within, is) = (suc k, omega (arith, within), is)

pub in-list : (ms : List Mark) → Each (λ m. IsIn (place m) ms) ms
in-list [] = tt
in-list (m ∷ ms) = ((0, omega arith, refl), each-impl (λ n. IsIn (place n) ms) (λ n. IsIn (place n) (m ∷ ms)) ms (λ n i. (suc i.0, omega (arith, i.1), i.2)) (in-list ms))

pub same-multipliers : (p : Problem) (at other : List Mark) (m : Multipliers) → ((v : ℕ) → IsIn v at → IsIn v other) → AreMultipliersAt p other m → AreMultipliersAt p at m
same-multipliers p at other m to h = record { scales = h.scales; cancel = h.cancel; inside_zero = λ side i d within here. h.inside_zero side i d within (to _ here) }

-- no mark of a leaving row stays
pub kept-rows : (ids : List ℕ) (ms : List Mark) → Each (λ m. is_one_of ids m.row ≡ false) (without_marks ids ms)
kept-rows ids [] = tt
kept-rows ids (m ∷ ms) =
    elim (cases_Bool (is_one_of ids m.row)) [
      | inl t ↦ rw t (kept-rows ids ms)
      | inr f ↦ rw f (f, kept-rows ids ms)
    ]

-- a path of no exchange
pub no-swaps : (p : Problem) (at : List Mark) → IsCorner p at → NoNegativeValue p at → IsPath false p at []
no-swaps p at corner values = record { corner = corner; apart = alone at; lawful = values }
  where
    alone : (at : List Mark) → ArePairwiseDifferent (at ∷ [])
    alone at = search rules

pub last-more : (at : List Mark) (done : List Swap) (s : Swap) → last_marks at (done ++ s ∷ []) ≡ exchanged s (last_marks at done)
last-more at [] s = refl
last-more at (t ∷ done) s = last-more (exchanged t at) done s

pub mark-there : (P : Mark → Type 0) (ms : List Mark) (c : ℕ) → Each P ms → IsIn c ms → (m : Mark) × (place m ≡ c) × P m
mark-there P [] c h (k, within, is) = absurd (omega (arith, within))
mark-there P (m ∷ ms) c h (zero, within, is) = (m, is, h.0)
mark-there P (m ∷ ms) c h (suc k, within, is) = mark-there P ms c h.1 (k, omega (arith, within), is)

pub exchanges-more : (p : Problem) (at : List Mark) (swaps : List Swap) (s : Swap) → AreExchanges p at swaps → IsExchange p (last_marks at swaps) s → AreExchanges p at (swaps ++ s ∷ [])
exchanges-more p at [] s h ex = (ex, tt)
exchanges-more p at (t ∷ swaps) s h ex = (h.0, exchanges-more p (exchanged t at) swaps s h.1 ex)

pub changes-more : (p : Problem) (at : List Mark) (swaps : List Swap) (s : Swap) → ChangeNoValue p at swaps → ChangesNoValue p (last_marks at swaps) s → ChangeNoValue p at (swaps ++ s ∷ [])
changes-more p at [] s h same = (same, tt)
changes-more p at (t ∷ swaps) s h same = (h.0, changes-more p (exchanged t at) swaps s h.1 same)

-- ---- the marks of rows stay where those of stays leave

places-apart : (id attr : ℕ) (a b : Side) → place_of (Held id) a ≡ place_of (StayOf attr) b → ⊥
places-apart id attr Under Under e = absurd (omega (arith, e))
places-apart id attr Under Over e = absurd (omega (arith, e))
places-apart id attr Over Under e = absurd (omega (arith, e))
places-apart id attr Over Over e = absurd (omega (arith, e))

pub rows-stay : (kept at : List Mark) (leaving : List ℕ) (frees : List Swap) (id : ℕ) (side : Side) → Each (IsFreeing kept leaving) frees → IsIn (place_of (Held id) side) at → IsIn (place_of (Held id) side) (last_marks at frees)
rows-stay kept at leaving [] id side h i = i
rows-stay kept at leaving (s ∷ frees) id side h i =
    rows-stay kept (exchanged s at) leaving frees id side h.1
    (kept-in s at (place_of (Held id) side) i (λ e. places-apart id h.0.stay.0 side s.leave.side (e ∙ ap (λ (r : RowName). place_of r s.leave.side) h.0.stay.1)))
