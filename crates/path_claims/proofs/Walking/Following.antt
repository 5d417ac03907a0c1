-- Along the swaps of a path, from its first corner.
use Rattle.std.proofs.Common.{◌≡◌, ◌≢◌, ◌∙◌, ℕ, ◌+◌, ◌<◌, ◌++◌, List, [], ◌∷◌, length, take, drop, get_or, refl, sym, ap, ap₂, subst, arith, Option, All, length-append}
use Rattle.std.proofs.lemmas.List.{take_more}
use Rattle.problem_core.specs.declared.stops.Quantity.{Quantity}
use Rattle.problem_core.specs.Layout.{Problem}
use Rattle.problem_core.specs.Changes.Begins.{AreExchanges}
use Rattle.problem_core.specs.Corners.{IsExchange, IsIn, Swap, place}
use Rattle.problem_core.specs.Changes.Paths.{last_marks}
use Rattle.cert_core.specs.Paths.{Path}
use Rattle.path_claims.specs.declared.way.WayStop.{WayStop}
use Rattle.path_claims.specs.declared.way.WayStop.TheVariants.{Fails, NoRoom, OutOfMemory}
use Rattle.path_lines.specs.Room.{HasNoRoom}
use Rattle.path_lines.specs.Route.{IsWholeRoute, over_marks}
use Rattle.path_claims.specs.Ways.{AreNew, IsSwapStop}
use Rattle.path_lines.proofs.MarkSides.Walks.{split_there}
use Rattle.path_claims.proofs.Walking.WaySteps.{new_after}
use Rattle.corner_laws.proofs.RunSteps.RunPaths.{contains_in as in_all}
use Rattle.path_lines.proofs.Walking.PlacedSwaps.{exchange_there}

-- ---- a part of the swaps is not the whole route

-- the longer list goes on where the shorter one ends
splits : (b c x y : List Swap) → b ++ x ≡ c ++ y → length y < length x → (s : Swap) × (more : List Swap) × (c ≡ b ++ s ∷ more)
splits [] [] x y same less = absurd (let e = ap (λ (z : List Swap). length z) same in omega (arith, e, less))
splits [] (s ∷ c) x y same less = (s, c, refl)
splits (t ∷ b) [] x y same less = absurd (let e = ap (λ (z : List Swap). length z) same in let l = length-append b x in omega (arith, e, l, less))
splits (t ∷ b) (s ∷ c) x y same less =
    let rest = splits b c x y (ap tail_of same) less in
    (rest.0, rest.1, ap₂ (λ (h : Swap) (hs : List Swap). h ∷ hs) (sym (ap (head_of t) same)) rest.2)
  where
    tail_of : List Swap → List Swap
    tail_of [] = []
    tail_of (h ∷ hs) = hs

    head_of : Swap → List Swap → Swap
    head_of d [] = d
    head_of d (h ∷ hs) = h

pub not_whole : (p : Problem) (path : Path) (done more : List Swap) → AreNew path.corner (over_marks p) done → length more < length path.swaps → IsWholeRoute p path (done ++ more) → ⊥
not_whole p path done more new less whole =
    let b : List Swap = whole.1.0 in
    let all : All (λ m. IsIn (place m) (last_marks (over_marks p) b)) path.corner = whole.1.2 in
    let s = splits b done path.swaps more (sym whole.1.1) less in
    let here = new_after path.corner (over_marks p) b (s.0 ∷ s.1) (subst (AreNew path.corner (over_marks p)) s.2 new) in
    here.1 (in_all path.corner (last_marks (over_marks p) b) (place s.0.enter) all here.0)

pub take_next : (path : Path) (i : ℕ) (d s : Swap) → i < length path.swaps → s ≡ get_or path.swaps i d → take (i + 1) path.swaps ≡ take i path.swaps ++ s ∷ []
take_next path i d s within is = take_more path.swaps i d within ∙ ap (λ (x : Swap). take i path.swaps ++ x ∷ []) (sym is)

-- ---- where it stops

pub no_exchange_here : (p : Problem) (path : Path) (i : ℕ) (d : Swap) → i < length path.swaps → (IsExchange p (last_marks path.corner (take i path.swaps)) (get_or path.swaps i d) → ⊥) → AreExchanges p path.corner path.swaps → ⊥
no_exchange_here p path i d less none are = none (exchange_there p path.corner (take i path.swaps) (get_or path.swaps i d) (drop (i + 1) path.swaps) (subst (AreExchanges p path.corner) (split_there path.swaps i d less) are))

-- ---- what stops them

pub swap_stuck : (p : Problem) (path : Path) (stop : WayStop) (n : ℕ) → (stop ≢ OutOfMemory → (stop ≡ NoRoom n) × ((unfit : Option Quantity) → HasNoRoom p path unfit n)) → IsSwapStop p path stop
swap_stuck p path Fails n h = let e : Fails ≡ NoRoom n = (h (λ o. cc)).0 in absurd (cc)
swap_stuck p path (NoRoom k) n h =
    let there = h (λ o. cc) in
    let e : NoRoom k ≡ NoRoom n = there.0 in
    let same : n ≡ k = cc in
    λ unfit. subst (HasNoRoom p path unfit) same (there.1 unfit)
swap_stuck p path OutOfMemory n h = tt
