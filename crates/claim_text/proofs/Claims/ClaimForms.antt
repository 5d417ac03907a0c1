-- What is read line by line is a front of a claim's lines, and the other way round.
use Rattle.std.proofs.Common.{◌≡◌, ◌∙◌, ℕ, ◌+◌, ◌<◌, List, [], ◌∷◌, ◌++◌, length, map, All, refl, sym, ap, ap₂, subst, arith, inl, inr}
use Rattle.std.specs.Prelude.{AllPairs}
use Rattle.std.proofs.lemmas.List.{append_assoc, append-nil, length-append, map-append}
use Rattle.std.proofs.lemmas.List.Elements.{All-append, All-from_recursion, All-nil}
use Rattle.frac_core.specs.Fraction.{Fraction}
use Rattle.cert_core.specs.declared.by.By.{By}
use Rattle.cert_core.specs.Claims.{BestLevel}
use Rattle.claim_text.specs.declared.claim.lines.ClaimLine.{ClaimLine}
use Rattle.claim_text.specs.declared.claim.lines.ClaimLine.TheVariants.{OfValue, OfBest, OfConflict, OfLevel, OfBy, OfPath, OfPart}
use Rattle.claim_writing.specs.declared.claim.LevelLine.{LevelLine}
use Rattle.claim_text.specs.declared.claim.draft.Stage.{Stage}
use Rattle.claim_text.specs.declared.claim.draft.Stage.TheVariants.{Values, Levels, Bys, Conflict, Path}
use Rattle.claim_writing.specs.declared.claim.Claim.{Claim}
use Rattle.claim_writing.specs.declared.claim.Claim.TheVariants.{IsBest, IsConflict, IsPath}
use Rattle.problem_reading.specs.Stops.{bad_line}
use Rattle.claim_writing.specs.Words.{line_of}
use Rattle.claim_writing.specs.ClaimLines.{IsValue, best_lines, best_words, by_line, conflict_words, level_line, lines_of_levels, value_line}
use Rattle.claim_text.specs.Claims.ClaimTexts.{Draft, Ends, TakesBys, TakesLevels, IsBestWritten, IsDraft, IsLevelRead, MayFollow, ReadFrom, Reads, Says, Step, IsClaimStop, closed, nothing_read, with_line}
use Rattle.claim_writing.specs.Names.{IsLevelBefore}
use Rattle.std.proofs.Common.{Bool, Option, suc}
use Rattle.std.specs.Str.Lines.{lines}
use Rattle.std.proofs.lemmas.List.{length-map}
use Rattle.problem_core.specs.declared.stops.Quantity.{Quantity}
use Rattle.problem_core.specs.Corners.{Swap}
use Rattle.claim_text.specs.declared.claim.path_lines.PathLine.{PathLine}
use Rattle.claim_text.specs.declared.claim.path_lines.PathLine.TheVariants.{OfIn, OfSwap, OfUnfit}
use Rattle.claim_writing.specs.PathTexts.{kind_words, in_words, swap_words, unfit_words, in_line, swap_line, unfit_line, path_lines, unfit_lines}
use Rattle.claim_text.specs.Paths.PathForms.{PathDraft, SaysPart, PartMayFollow, path_of, with_part}
use Rattle.claim_text.specs.Claims.ClaimTexts.{HasNoMoreParts, IsStage, stage_with}
use Rattle.problem_reading.proofs.LineLists.{longer, same-number, line-is}
use Rattle.problem_reading.proofs.Problems.Readings.{lines_count}
use Rattle.claim_text.proofs.Claims.ClaimReadings.{draft_nothing, draft_read, no_bad_line, one_reading, read_more, read_split as read-split}
use Rattle.claim_text.proofs.Claims.ClaimRoundTrip.{reads_lines}
use Rattle.claim_text.specs.Claims.ClaimForms.{AreLinesOf, ClaimsAreTheForm, IsFirstOutside, IsFront, LeavesForm}
use Rattle.claim_writing.proofs.LevelTexts.{lines_of_levels-append as levels-more}

-- ---- the lines of a draft

abbrev stage_lines : Stage → List (ℕ × Fraction) → List BestLevel → List By → List (List ℕ)
stage_lines Values values levels bys = map value_line values
stage_lines Levels values levels bys = best_lines values levels
stage_lines (Bys l) values levels bys = best_lines values (levels ++ record { level = l.level; scale = l.scale; by = bys } ∷ [])
stage_lines Conflict values levels bys = line_of conflict_words ∷ map by_line bys
stage_lines (Path d) values levels bys = path_lines (path_of d) ++ unfit_lines d.unfit

abbrev IsStart : Stage → List BestLevel → List By → Type 0
IsStart Values levels bys = (levels ≡ []) × (bys ≡ [])
IsStart Levels levels bys = Unit {0}
IsStart (Bys l) levels bys = Unit {0}
IsStart Conflict levels bys = Unit {0}
IsStart (Path d) levels bys = Unit {0}

-- the draft is what these lines say
record Says-so (d : Draft) (ls : List (List ℕ)) : Type 0 where
  lines : ls ≡ stage_lines d.stage d.values d.levels d.bys
  values : All IsValue d.values
  start : IsStart d.stage d.levels d.bys

-- a level and multipliers
abbrev level_of : LevelLine → List By → BestLevel
level_of l bys = record { level = l.level; scale = l.scale; by = bys }

one-level : (levels : List BestLevel) (l : LevelLine) (bys : List By) → lines_of_levels (levels ++ level_of l bys ∷ []) ≡ lines_of_levels levels ++ (level_line l ∷ map by_line bys)
one-level levels l bys = levels-more levels (level_of l bys ∷ []) ∙ ap (λ (ls : List (List ℕ)). lines_of_levels levels ++ (level_line l ∷ ls)) (append-nil (map by_line bys))

-- what stands behind `best` goes on
best-more : (values : List (ℕ × Fraction)) (xs ys zs : List (List ℕ)) → zs ≡ xs ++ ys → (map value_line values ++ line_of best_words ∷ xs) ++ ys ≡ map value_line values ++ line_of best_words ∷ zs
best-more values xs ys zs e = append_assoc (map value_line values) (line_of best_words ∷ xs) ys ∙ ap (λ (ls : List (List ℕ)). map value_line values ++ line_of best_words ∷ ls) (sym e)

has-levels : (s : Stage) (values : List (ℕ × Fraction)) (levels : List BestLevel) (bys : List By) → TakesLevels s → stage_lines s values levels bys ≡ best_lines values (closed s levels bys)
has-levels Values values levels bys h = absurd h
has-levels Levels values levels bys h = refl
has-levels (Bys l) values levels bys h = refl
has-levels Conflict values levels bys h = absurd h
has-levels (Path d) values levels bys h = absurd h

level-more : (values : List (ℕ × Fraction)) (levels : List BestLevel) (l : LevelLine) → best_lines values levels ++ level_line l ∷ [] ≡ best_lines values (levels ++ level_of l [] ∷ [])
level-more values levels l = best-more values (lines_of_levels levels) (level_line l ∷ []) (lines_of_levels (levels ++ level_of l [] ∷ [])) (one-level levels l [])

by-more : (s : Stage) (values : List (ℕ × Fraction)) (levels : List BestLevel) (bys : List By) (b : By) → TakesBys s → stage_lines s values levels bys ++ by_line b ∷ [] ≡ stage_lines s values levels (bys ++ b ∷ [])
by-more Values values levels bys b h = absurd h
by-more Levels values levels bys b h = absurd h
by-more (Bys l) values levels bys b h =
    best-more values (lines_of_levels (levels ++ level_of l bys ∷ [])) (by_line b ∷ []) (lines_of_levels (levels ++ level_of l (bys ++ b ∷ []) ∷ []))
    (one-level levels l (bys ++ b ∷ []) ∙ ap (λ (ls : List (List ℕ)). lines_of_levels levels ++ (level_line l ∷ ls)) (map-append by_line bys (b ∷ []))
    ∙ sym (append_assoc (lines_of_levels levels) (level_line l ∷ map by_line bys) (by_line b ∷ []))
    ∙ ap (λ (ls : List (List ℕ)). ls ++ by_line b ∷ []) (sym (one-level levels l bys)))
by-more Conflict values levels bys b h = ap (λ (ls : List (List ℕ)). line_of conflict_words ∷ ls) (sym (map-append by_line bys (b ∷ [])))
by-more (Path d) values levels bys b h = absurd h

same-start : (s : Stage) (levels : List BestLevel) (bys more : List By) → TakesBys s → IsStart s levels more
same-start Values levels bys more h = absurd h
same-start Levels levels bys more h = absurd h
same-start (Bys l) levels bys more h = tt
same-start Conflict levels bys more h = tt
same-start (Path d) levels bys more h = absurd h

-- ---- one part of a path more

abbrev part-line : PathLine → List ℕ
part-line (OfIn m) = in_line m
part-line (OfSwap s) = swap_line s
part-line (OfUnfit q) = unfit_line q

part-is : (line : List ℕ) (part : PathLine) → SaysPart line part → line ≡ part-line part
part-is line (OfIn m) says = line-is line (in_words m) says.1
part-is line (OfSwap s) says = line-is line (swap_words s) says.1
part-is line (OfUnfit q) says = line-is line (unfit_words q) says.1

mark-more : (k m : List ℕ) (ms us : List (List ℕ)) → us ≡ ms ++ m ∷ [] → ((k ∷ ms ++ []) ++ []) ++ m ∷ [] ≡ (k ∷ us ++ []) ++ []
mark-more k m ms us e =
    ap (λ (ls : List (List ℕ)). ls ++ m ∷ []) (append-nil (k ∷ ms ++ [])) ∙ ap (λ (ls : List (List ℕ)). (k ∷ ls) ++ m ∷ []) (append-nil ms)
    ∙ ap (λ (ls : List (List ℕ)). k ∷ ls) (sym e) ∙ ap (λ (ls : List (List ℕ)). k ∷ ls) (sym (append-nil us)) ∙ sym (append-nil (k ∷ us ++ []))

swap-more : (k w : List ℕ) (ms ss us : List (List ℕ)) → us ≡ ss ++ w ∷ [] → ((k ∷ ms ++ ss) ++ []) ++ w ∷ [] ≡ (k ∷ ms ++ us) ++ []
swap-more k w ms ss us e =
    ap (λ (ls : List (List ℕ)). ls ++ w ∷ []) (append-nil (k ∷ ms ++ ss)) ∙ append_assoc (k ∷ ms) ss (w ∷ [])
    ∙ ap (λ (ls : List (List ℕ)). k ∷ ms ++ ls) (sym e) ∙ sym (append-nil (k ∷ ms ++ us))

path-more : (d : PathDraft) (part : PathLine) → PartMayFollow d part
    → (path_lines (path_of d) ++ unfit_lines d.unfit) ++ part-line part ∷ [] ≡ path_lines (path_of (with_part d part)) ++ unfit_lines (with_part d part).unfit
path-more d (OfIn m) may =
    let k = line_of (kind_words d.dual) in
    subst (λ (ss : List Swap). ((k ∷ map in_line d.corner ++ map swap_line ss) ++ unfit_lines d.unfit) ++ in_line m ∷ [] ≡ (k ∷ map in_line (d.corner ++ m ∷ []) ++ map swap_line ss) ++ unfit_lines d.unfit) (sym may.0)
    (subst (λ (q : Option Quantity). ((k ∷ map in_line d.corner ++ []) ++ unfit_lines q) ++ in_line m ∷ [] ≡ (k ∷ map in_line (d.corner ++ m ∷ []) ++ []) ++ unfit_lines q) (sym may.1)
    (mark-more k (in_line m) (map in_line d.corner) (map in_line (d.corner ++ m ∷ [])) (map-append in_line d.corner (m ∷ []))))
path-more d (OfSwap s) may =
    let k = line_of (kind_words d.dual) in
    subst (λ (q : Option Quantity). ((k ∷ map in_line d.corner ++ map swap_line d.swaps) ++ unfit_lines q) ++ swap_line s ∷ [] ≡ (k ∷ map in_line d.corner ++ map swap_line (d.swaps ++ s ∷ [])) ++ unfit_lines q) (sym may)
    (swap-more k (swap_line s) (map in_line d.corner) (map swap_line d.swaps) (map swap_line (d.swaps ++ s ∷ [])) (map-append swap_line d.swaps (s ∷ [])))
path-more d (OfUnfit q) may =
    subst (λ (u : Option Quantity). (path_lines (path_of d) ++ unfit_lines u) ++ unfit_line q ∷ [] ≡ path_lines (path_of d) ++ unfit_line q ∷ []) (sym may)
    (ap (λ (ls : List (List ℕ)). ls ++ unfit_line q ∷ []) (append-nil (path_lines (path_of d))))

-- ---- one line more

module _ (d : Draft) (ls : List (List ℕ)) (line : List ℕ) (h : Says-so d ls) where
  abbrev at : Stage → List (List ℕ)
  at s = stage_lines s d.values d.levels d.bys

  -- the lines before, and this one
  then : (s : Stage) (own : List ℕ) → d.stage ≡ s → line ≡ own → ls ++ line ∷ [] ≡ at s ++ own ∷ []
  then s own stage is = ap₂ (λ (xs : List (List ℕ)) (x : List ℕ). xs ++ x ∷ []) (h.lines ∙ ap at stage) is

  of-value : (v : ℕ × Fraction) → Says line (OfValue v) → d.stage ≡ Values → Says-so (with_line d (OfValue v)) (ls ++ line ∷ [])
  of-value v says stage = record {
    lines = then Values (value_line v) stage (line-is line _ says.1) ∙ sym (map-append value_line d.values (v ∷ []))
        ∙ sym (ap (λ (s : Stage). stage_lines s (d.values ++ v ∷ []) d.levels d.bys) stage);
    values = All-append IsValue d.values (v ∷ []) h.values (All-from_recursion IsValue (v ∷ []) (says.0, tt));
    start = h.start;
  }

  began : d.stage ≡ Values → (d.levels ≡ []) × (d.bys ≡ [])
  began stage = subst (λ (s : Stage). IsStart s d.levels d.bys) stage h.start

  of-best : Says line OfBest → d.stage ≡ Values → Says-so (with_line d OfBest) (ls ++ line ∷ [])
  of-best says stage = record {
    lines = then Values (line_of best_words) stage (line-is line _ says) ∙ ap (λ (levels : List BestLevel). best_lines d.values levels) (sym (began stage).0);
    values = h.values;
    start = tt;
  }

  of-conflict : Says line OfConflict → d.stage ≡ Values → d.values ≡ [] → Says-so (with_line d OfConflict) (ls ++ line ∷ [])
  of-conflict says stage none = record {
    lines = then Values (line_of conflict_words) stage (line-is line _ says) ∙ ap (λ (values : List (ℕ × Fraction)). map value_line values ++ line_of conflict_words ∷ []) none
        ∙ ap (λ (bys : List By). line_of conflict_words ∷ map by_line bys) (sym (began stage).1);
    values = h.values;
    start = tt;
  }

  of-level : (l : LevelLine) → Says line (OfLevel l) → TakesLevels d.stage → Says-so (with_line d (OfLevel l)) (ls ++ line ∷ [])
  of-level l says has = record {
    lines = then d.stage (level_line l) refl (line-is line _ says.1) ∙ ap (λ (xs : List (List ℕ)). xs ++ level_line l ∷ []) (has-levels d.stage d.values d.levels d.bys has)
        ∙ level-more d.values (closed d.stage d.levels d.bys) l;
    values = h.values;
    start = tt;
  }

  of-by : (b : By) → Says line (OfBy b) → TakesBys d.stage → Says-so (with_line d (OfBy b)) (ls ++ line ∷ [])
  of-by b says has = record {
    lines = then d.stage (by_line b) refl (line-is line _ says.1) ∙ by-more d.stage d.values d.levels d.bys b has;
    values = h.values;
    start = same-start d.stage d.levels d.bys (d.bys ++ b ∷ []) has;
  }

  of-path : (dual : Bool) → Says line (OfPath dual) → d.stage ≡ Values → d.values ≡ [] → Says-so (with_line d (OfPath dual)) (ls ++ line ∷ [])
  of-path dual says stage none = record {
    lines = then Values (line_of (kind_words dual)) stage (line-is line _ says) ∙ ap (λ (values : List (ℕ × Fraction)). map value_line values ++ line_of (kind_words dual) ∷ []) none;
    values = h.values;
    start = tt;
  }

  of-part : (part : PathLine) → Says line (OfPart part) → (p : PathDraft) → d.stage ≡ Path p → PartMayFollow p part → Says-so (with_line d (OfPart part)) (ls ++ line ∷ [])
  of-part part says p stage may = record {
    lines = then (Path p) (part-line part) stage (part-is line part says) ∙ path-more p part may
        ∙ sym (ap (λ (s : Stage). at (stage_with s part)) stage);
    values = h.values;
    start = subst (λ (s : Stage). IsStart (stage_with s part) d.levels d.bys) (sym stage) tt;
  }

  of-item : (item : ClaimLine) → Says line item → MayFollow d item → Says-so (with_line d item) (ls ++ line ∷ [])
  of-item (OfValue v) says may = of-value v says may.0
  of-item OfBest says may = of-best says may
  of-item OfConflict says may = of-conflict says may.0 may.1
  of-item (OfLevel l) says may = of-level l says may.0
  of-item (OfBy b) says may = of-by b says may.0
  of-item (OfPath dual) says may = of-path dual says may.0 may.1
  of-item (OfPart part) says may = of-part part says may.0 may.1 may.2

  of-step : (new : Draft) → Step d line new → Says-so new (ls ++ line ∷ [])
  of-step new step = subst (λ (n : Draft). Says-so n (ls ++ line ∷ [])) (sym step.is) (of-item step.item step.says step.may)

read-so : (old new : Draft) (ls xs : List (List ℕ)) → Says-so old ls → ReadFrom old xs new → Says-so new (ls ++ xs)
read-so old new ls [] h read = subst (λ (d : Draft). Says-so d (ls ++ [])) (sym read) (subst (Says-so old) (sym (append-nil ls)) h)
read-so old new ls (line ∷ xs) h (mid, step, read) =
    subst (Says-so new) (append_assoc ls (line ∷ []) xs) (read-so mid new (ls ++ line ∷ []) xs (of-step old ls line h mid step) read)

all-so : (all : List (List ℕ)) (d : Draft) → ReadFrom nothing_read all d → Says-so d all
all-so all d read = read-so nothing_read d [] all (record { lines = refl; values = All-nil IsValue; start = (refl, refl) }) read

-- ---- claims

abbrev best-of : Draft → Claim
best-of d = IsBest d.values (closed d.stage d.levels d.bys)

written : (d : Draft) (all : List (List ℕ)) → Says-so d all → IsDraft d → IsBestWritten d.values (closed d.stage d.levels d.bys)
written d all h is = record { values = h.values; rising = is.values; levels = is.levels; level_order = is.level_order }

whole-best : (d : Draft) (all : List (List ℕ)) → Says-so d all → IsDraft d → TakesLevels d.stage → AreLinesOf all (IsBest d.values (closed d.stage d.levels d.bys))
whole-best d all h is has = (written d all h is, h.lines ∙ has-levels d.stage d.values d.levels d.bys has)

whole-conflict : (d : Draft) (all : List (List ℕ)) → Says-so d all → IsDraft d → d.stage ≡ Conflict → AreLinesOf all (IsConflict d.bys)
whole-conflict d all h is stage = (is.bys, h.lines ∙ ap (λ (s : Stage). stage_lines s d.values d.levels d.bys) stage)

whole-path : (d : Draft) (all : List (List ℕ)) → Says-so d all → IsDraft d → (p : PathDraft) → d.stage ≡ Path p → AreLinesOf all (IsPath (path_of p) p.unfit)
whole-path d all h is p stage = (subst IsStage stage is.stage, h.lines ∙ ap (λ (s : Stage). stage_lines s d.values d.levels d.bys) stage)

ended : (d : Draft) (all : List (List ℕ)) (c : Claim) → Says-so d all → IsDraft d → Ends d c → AreLinesOf all c
ended d all (IsBest values best) h is (has, same, levels) =
    subst (AreLinesOf all) (ap₂ IsBest (sym same) (sym levels)) (whole-best d all h is has)
ended d all (IsConflict bys) h is (stage, same) = subst (AreLinesOf all) (ap IsConflict (sym same)) (whole-conflict d all h is stage)
ended d all (IsPath path unfit) h is (p, stage, same, quantity) = subst (AreLinesOf all) (ap₂ IsPath (sym same) (sym quantity)) (whole-path d all h is p stage)

kept : (all : List (List ℕ)) (d : Draft) → ReadFrom nothing_read all d → IsDraft d
kept all d read = draft_read all nothing_read d read draft_nothing

read-form : (all : List (List ℕ)) (c : Claim) → Reads all c → AreLinesOf all c
read-form all c (last, read, ends) = ended last all c (all-so all last read) (kept all last read) ends

form-read : (all : List (List ℕ)) (c : Claim) → AreLinesOf all c → Reads all c
form-read all c (is, lines) = subst (λ (ls : List (List ℕ)). Reads ls c) (sym lines) (reads_lines c is)

-- ---- fronts

all-front : (all : List (List ℕ)) (c : Claim) → AreLinesOf all c → IsFront all
all-front all c (is, lines) = (c, is, ([], sym lines ∙ sym (append-nil all)))

draft-front : (all : List (List ℕ)) (d : Draft) → Says-so d all → IsDraft d → (s : Stage) → d.stage ≡ s → IsFront all
draft-front all d h is Values stage = (
  IsBest d.values [],
  record { values = h.values; rising = is.values; levels = All-nil IsLevelRead; level_order = none },
  (line_of best_words ∷ [], ap (λ (ls : List (List ℕ)). ls ++ line_of best_words ∷ []) (sym (h.lines ∙ ap (λ (s : Stage). stage_lines s d.values d.levels d.bys) stage))),
)
  where
    none : AllPairs (λ (k l : BestLevel). IsLevelBefore k.level l.level) []
    none i j x less within = absurd (omega (arith, less, within))
draft-front all d h is Levels stage = all-front all (best-of d) (whole-best d all h is (subst TakesLevels (sym stage) tt))
draft-front all d h is (Bys l) stage = all-front all (best-of d) (whole-best d all h is (subst TakesLevels (sym stage) tt))
draft-front all d h is Conflict stage = all-front all (IsConflict d.bys) (whole-conflict d all h is stage)
draft-front all d h is (Path p) stage = all-front all (IsPath (path_of p) p.unfit) (whole-path d all h is p stage)

read-front : (all : List (List ℕ)) (d : Draft) → ReadFrom nothing_read all d → IsFront all
read-front all d read = draft-front all d (all-so all d read) (kept all d read) d.stage refl

front-read : (front : List (List ℕ)) → IsFront front → (d : Draft) × ReadFrom nothing_read front d
front-read front (c, is, (rest, lines)) =
    let all = reads_lines c is in
    let cut = read-split front rest nothing_read all.0 (subst (λ (ls : List (List ℕ)). ReadFrom nothing_read ls all.0) lines all.1) in
    (cut.0, cut.1)

-- ---- the first line outside

bad-leaves : (before : List (List ℕ)) (line : List ℕ) (d : Draft) → ReadFrom nothing_read before d → ((new : Draft) → Step d line new → ⊥) → IsFront (before ++ line ∷ []) → ⊥
bad-leaves before line d read bad front =
    let more = front-read (before ++ line ∷ []) front in
    let cut = read-split before (line ∷ []) nothing_read more.0 more.1 in
    let same : cut.0 ≡ d = one_reading before nothing_read cut.0 d cut.1 read in
    bad cut.2.0 (subst (λ (m : Draft). Step m line cut.2.0) same cut.2.1)

open-none : (d : Draft) (c : Claim) → d.stage ≡ Values → Ends d c → ⊥
open-none d (IsBest values best) stage (has, same, levels) = subst TakesLevels stage has
open-none d (IsConflict bys) stage (is, same) = let e : Conflict ≡ Values = sym is ∙ stage in subst TakesBys e tt
open-none d (IsPath path unfit) stage (p, is, same, quantity) = let e : Path p ≡ Values = sym is ∙ stage in cc

early-leaves : (all : List (List ℕ)) (d : Draft) → ReadFrom nothing_read all d → d.stage ≡ Values → (c : Claim) → AreLinesOf all c → ⊥
early-leaves all d read stage c are =
    let whole = form-read all c are in
    let same : whole.0 ≡ d = one_reading all nothing_read whole.0 d whole.1 read in
    open-none d c stage (subst (λ (m : Draft). Ends m c) same whole.2)

stop-outside : (all : List (List ℕ)) (n : ℕ) → IsClaimStop all (bad_line n) → IsFirstOutside all n
stop-outside all n (inl bad) = record {
  before = bad.before;
  after = bad.line ∷ bad.after;
  parts = bad.parts;
  number = bad.number;
  front = read-front bad.before bad.so_far bad.reads;
  leaves = bad-leaves bad.before bad.line bad.so_far bad.reads bad.bad;
}
stop-outside all n (inr early) = record {
  before = all;
  after = [];
  parts = sym (append-nil all);
  number = early.number;
  front = read-front all early.so_far early.reads;
  leaves = early-leaves all early.so_far early.reads early.waits;
}

-- a front that isn't all of a claim waits for `best`
waits : (all : List (List ℕ)) (d : Draft) → ReadFrom nothing_read all d → ((c : Claim) → AreLinesOf all c → ⊥) → (s : Stage) → d.stage ≡ s → d.stage ≡ Values
waits all d read none Values stage = stage
waits all d read none Levels stage = absurd (none (best-of d) (whole-best d all (all-so all d read) (kept all d read) (subst TakesLevels (sym stage) tt)))
waits all d read none (Bys l) stage = absurd (none (best-of d) (whole-best d all (all-so all d read) (kept all d read) (subst TakesLevels (sym stage) tt)))
waits all d read none Conflict stage = absurd (none (IsConflict d.bys) (whole-conflict d all (all-so all d read) (kept all d read) stage))
waits all d read none (Path p) stage = absurd (none (IsPath (path_of p) p.unfit) (whole-path d all (all-so all d read) (kept all d read) p stage))

outside-at : (all before after : List (List ℕ)) (n : ℕ) → all ≡ before ++ after → n ≡ length before + 1 → IsFront before → LeavesForm before after → IsClaimStop all (bad_line n)
outside-at all before [] n parts number front leaves =
    let read = front-read before front in
    let same : before ≡ all = sym (append-nil before) ∙ sym parts in
    inr (record {
      number = number ∙ ap (λ (ls : List (List ℕ)). length ls + 1) same;
      so_far = read.0;
      reads = subst (λ (ls : List (List ℕ)). ReadFrom nothing_read ls read.0) same read.1;
      waits = waits before read.0 read.1 leaves read.0.stage refl;
    })
outside-at all before (line ∷ more) n parts number front leaves =
    let read = front-read before front in
    inl (record {
      before = before;
      line = line;
      after = more;
      parts = parts;
      number = number;
      so_far = read.0;
      reads = read.1;
      bad = λ new step. leaves (read-front (before ++ line ∷ []) new (read_more before nothing_read read.0 new line read.1 step));
    })

-- ---- one line alone

shorter-front : (xs rest : List (List ℕ)) → IsFront (xs ++ rest) → IsFront xs
shorter-front xs rest (c, is, (more, lines)) = (c, is, (rest ++ more, lines ∙ append_assoc xs rest more))

not-before : (all a us b vs : List (List ℕ)) → all ≡ a ++ us → all ≡ b ++ vs → LeavesForm a us → IsFront b → length a < length b → ⊥
not-before all a [] b vs of_a of_b leaves front less =
    let one = ap length of_a in
    let two = ap length of_b in
    absurd (omega (arith, less, one, two, length-append a [], length-append b vs))
not-before all a (line ∷ us) b vs of_a of_b leaves front less =
    let more = longer a b line us vs (sym of_a ∙ of_b) less in
    leaves (shorter-front (a ++ line ∷ []) more.0 (subst IsFront more.1 front))

one-outside : (all : List (List ℕ)) (m n : ℕ) → IsFirstOutside all m → IsFirstOutside all n → m ≡ n
one-outside all m n h k =
    same-number (length h.before) (length k.before) m n h.number k.number
    (not-before all h.before h.after k.before k.after h.parts k.parts h.leaves k.front)
    (not-before all k.before k.after h.before h.after k.parts h.parts k.leaves h.front)

apart-outside : (all : List (List ℕ)) (c : Claim) (n : ℕ) → AreLinesOf all c → IsFirstOutside all n → ⊥
apart-outside all c n are h = clash (outside-at all h.before h.after n h.parts h.number h.front h.leaves)
  where
    clash : IsClaimStop all (bad_line n) → ⊥
    clash (inl bad) = let read = form-read all c are in no_bad_line all read.0 n read.1 bad
    clash (inr early) = early-leaves all early.so_far early.reads early.waits c are

pub claims-are-the-form : ClaimsAreTheForm
claims-are-the-form = record {
  read = read-form;
  form = form-read;
  stop = stop-outside;
  outside = λ all n h. outside-at all h.before h.after n h.parts h.number h.front h.leaves;
  one = one-outside;
  apart = apart-outside;
}

-- ---- the parts of a path

-- each part has a line of its own
pub few-parts : (c : Claim) (text : List ℕ) → Reads (lines text) c → HasNoMoreParts c (length text)
few-parts (IsBest values best) text read = tt
few-parts (IsConflict bys) text read = tt
few-parts (IsPath path unfit) text read =
    let are = read-form (lines text) (IsPath path unfit) read in
    let all : length (lines text) ≡ length (path_lines path ++ unfit_lines unfit) = ap length are.1 in
    let two : length (path_lines path ++ unfit_lines unfit) ≡ length (path_lines path) + length (unfit_lines unfit) = length-append (path_lines path) (unfit_lines unfit) in
    let one : length (path_lines path) ≡ length (map in_line path.corner) + length (map swap_line path.swaps) + 1 = parted (map in_line path.corner) (map swap_line path.swaps) in
    let marks : length (map in_line path.corner) ≡ length path.corner = length-map path.corner in_line in
    let swaps : length (map swap_line path.swaps) ≡ length path.swaps = length-map path.swaps swap_line in
    omega (arith, all, two, one, marks, swaps, lines_count text)
  where
    parted : (ms ss : List (List ℕ)) → suc (length (ms ++ ss)) ≡ length ms + length ss + 1
    parted ms ss = omega (arith, length-append ms ss)
