-- Readings of the lines of claims, one after the other.
use Rattle.std.proofs.Common.{◌≡◌, ◌≢◌, ℕ, ◌+◌, ◌<◌, List, [], ◌∷◌, ◌++◌, length, take, get_or, All, sym, ap, ◌∙◌, arith, refl, subst}
use Rattle.std.specs.Prelude.{AllPairs}
use Rattle.std.proofs.lemmas.List.{length-take, get_or-take, get_or_default}
use Rattle.std.proofs.lemmas.List.Elements.{All-push, All-nil, All-weaker}
use Rattle.std.proofs.lemmas.List.Quantifiers.{all_pairs_push}
use Rattle.frac_core.specs.Fraction.{Fraction, IsFitting}
use Rattle.problem_core.specs.declared.parts.RowName.{RowName}
use Rattle.problem_core.specs.declared.parts.RowName.TheVariants.{Held, Stay as StayRow}
use Rattle.problem_core.specs.declared.parts.Level.{Level}
use Rattle.problem_core.specs.declared.parts.Level.TheVariants.{Priority, Stay as StayLevel}
use Rattle.cert_core.specs.declared.by.By.{By}
use Rattle.cert_core.specs.Claims.{BestLevel, AreBys, IsLevel, AreLevels, IsRanked}
use Rattle.claim_text.specs.declared.claim.lines.ClaimLine.{ClaimLine}
use Rattle.claim_text.specs.declared.claim.lines.ClaimLine.TheVariants.{OfValue, OfBest, OfConflict, OfLevel, OfBy, OfPath, OfPart}
use Rattle.claim_text.specs.declared.claim.draft.Stage.{Stage}
use Rattle.claim_text.specs.declared.claim.draft.Stage.TheVariants.{Values, Levels, Bys, Conflict, Path}
use Rattle.claim_writing.specs.ClaimLines.{IsBy}
use Rattle.claim_writing.specs.Names.{IsLevelName}
use Rattle.claim_text.specs.Claims.ClaimTexts.{Says, MayFollow, Draft, Step, ReadFrom, nothing_read, closed, with_line, AreRead, IsLevelRead, IsDraft}
use Rattle.problem_reading.specs.FirstBad.{IsFirstBad}
use Rattle.claim_writing.specs.Names.{IsRowName, IsRowBefore, IsLevelBefore}
use Rattle.std.proofs.Common.{Bool, None}
use Rattle.problem_core.specs.declared.parts.Mark.{Mark}
use Rattle.claim_text.specs.declared.claim.path_lines.PathLine.{PathLine}
use Rattle.claim_text.specs.declared.claim.path_lines.PathLine.TheVariants.{OfIn, OfSwap, OfUnfit}
use Rattle.claim_writing.specs.PathTexts.{IsSwapName}
use Rattle.claim_text.specs.Paths.PathForms.{PathDraft, SaysPart, PartMayFollow, IsPathWritten, path_begun, path_of, with_part}
use Rattle.claim_text.specs.Claims.ClaimTexts.{IsStage}
use Rattle.problem_reading.proofs.LineLists.{line_here}
use Rattle.claim_text.proofs.Claims.SameClaims.{one_line}
use Rattle.problem_reading.proofs.Rising.{All-last, All-at_end}
use Rattle.frac_core.proofs.Lists.{pairs-nil as none_pairs, all-front as All-front, pairs-front as AllPairs-front}

pub read_more : (xs : List (List ℕ)) (old mid new : Draft) (line : List ℕ) → ReadFrom old xs mid → Step mid line new → ReadFrom old (xs ++ line ∷ []) new
read_more [] old mid new line read step = (new, (rw read at step), refl)
read_more (x ∷ xs) old mid new line read step = (read.0, read.1, read_more xs read.0 mid new line read.2 step)

pub first_bad : (all before left : List (List ℕ)) (line : List ℕ) (more : List (List ℕ)) (so_far : Draft) (n : ℕ)
    → all ≡ before ++ left → left ≡ line ∷ more → n ≡ length before → ReadFrom nothing_read before so_far
    → ((new : Draft) → Step so_far line new → ⊥) → IsFirstBad (ReadFrom nothing_read) Step all (n + 1)
first_bad all before left line more so_far n is left_is count read none = record {
  before = before;
  line = line;
  after = more;
  parts = line_here all before left line more is left_is;
  number = omega (arith, count);
  so_far = so_far;
  reads = read;
  bad = none;
}

-- ---- a claim has one reading

step_one : (old a b : Draft) (line : List ℕ) → Step old line a → Step old line b → a ≡ b
step_one old a b line of_a of_b = of_a.is ∙ (ap (with_line old) (one_line line of_a.item of_b.item of_a.says of_b.says) ∙ sym of_b.is)

pub one_reading : (xs : List (List ℕ)) (old a b : Draft) → ReadFrom old xs a → ReadFrom old xs b → a ≡ b
one_reading [] old a b of_a of_b = of_a ∙ sym of_b
one_reading (x ∷ xs) old a b of_a of_b =
    let mid : of_a.0 ≡ of_b.0 = step_one old of_a.0 of_b.0 x of_a.1 of_b.1 in
    one_reading xs of_b.0 a b (rw mid at of_a.2) of_b.2

pub read_two : (xs ys : List (List ℕ)) (old mid new : Draft) → ReadFrom old xs mid → ReadFrom mid ys new → ReadFrom old (xs ++ ys) new
read_two [] ys old mid new first second = rw (← first) second
read_two (x ∷ xs) ys old mid new first second = (first.0, first.1, read_two xs ys first.0 mid new first.2 second)

pub read_split : (xs ys : List (List ℕ)) (old new : Draft) → ReadFrom old (xs ++ ys) new → (mid : Draft) × ReadFrom old xs mid × ReadFrom mid ys new
read_split [] ys old new read = (old, refl, read)
read_split (x ∷ xs) ys old new read =
    let rest = read_split xs ys read.0 new read.2 in
    (rest.0, (read.0, read.1, rest.1), rest.2)

bad_here : (all : List (List ℕ)) (last : Draft) (n : ℕ) (bad : IsFirstBad (ReadFrom nothing_read) Step all n) → ReadFrom nothing_read (bad.before ++ bad.line ∷ bad.after) last → ⊥
bad_here all last n bad read =
    let cut = read_split bad.before (bad.line ∷ bad.after) nothing_read last read in
    let same : cut.0 ≡ bad.so_far = one_reading bad.before nothing_read cut.0 bad.so_far cut.1 bad.reads in
    let next = cut.2 in
    bad.bad next.0 (rw same at next.1)

-- a text that is read to its end has no bad line
pub no_bad_line : (all : List (List ℕ)) (last : Draft) (n : ℕ) → ReadFrom nothing_read all last → IsFirstBad (ReadFrom nothing_read) Step all n → ⊥
no_bad_line all last n read bad = bad_here all last n bad (subst (λ (ls : List (List ℕ)). ReadFrom nothing_read ls last) bad.parts read)

-- ---- what a reading keeps

pub rows_apart : (a b : RowName) → IsRowBefore a b → a ≢ b
rows_apart (Held a) (Held b) before = λ same. let h : a ≡ b = cc in omega (arith, before, h)
rows_apart (Held a) (StayRow b) before = λ same. cc
rows_apart (StayRow a) (Held b) before = λ same. absurd before
rows_apart (StayRow a) (StayRow b) before = λ same. before (cc)

pub levels_apart : (a b : Level) → IsLevelBefore a b → a ≢ b
levels_apart (Priority a) (Priority b) before = λ same. let h : a ≡ b = cc in omega (arith, before, h)
levels_apart (Priority a) (StayLevel b) before = λ same. cc
levels_apart (StayLevel a) (Priority b) before = λ same. absurd before
levels_apart (StayLevel a) (StayLevel b) before = λ same. before (cc)

none_read : AreRead []
none_read = record { each = All-nil IsBy; order = none_pairs (λ (a : By) (b : By). IsRowBefore a.row b.row) }

by_read : (bys : List By) (b : By) → AreRead bys → IsBy b → All (λ k. IsRowBefore k.row b.row) bys → AreRead (bys ++ b ∷ [])
by_read bys b are is before = record {
  each = All-push IsBy bys b are.each is;
  order = all_pairs_push (λ a c. IsRowBefore a.row c.row) bys b are.order before;
}

pub draft_nothing : IsDraft nothing_read
draft_nothing = record {
  stage = tt;
  values = none_pairs (λ (u : ℕ × Fraction) (v : ℕ × Fraction). u.0 < v.0);
  levels = All-nil IsLevelRead;
  level_order = none_pairs (λ (k : BestLevel) (l : BestLevel). IsLevelBefore k.level l.level);
  bys = none_read;
}

-- the open level with one multiplier more
closed_levels : (stage : Stage) (levels : List BestLevel) (bys : List By) (b : By) → All IsLevelRead (closed stage levels bys) → AreRead (bys ++ b ∷ []) → All IsLevelRead (closed stage levels (bys ++ b ∷ []))
closed_levels Values levels bys b are more = are
closed_levels Levels levels bys b are more = are
closed_levels (Bys l) levels bys b are more =
    let last : IsLevelRead (record { level = l.level; scale = l.scale; by = bys }) = All-at_end IsLevelRead levels (record { level = l.level; scale = l.scale; by = bys }) are in
    All-push IsLevelRead levels (record { level = l.level; scale = l.scale; by = bys ++ b ∷ [] }) (All-front IsLevelRead levels (record { level = l.level; scale = l.scale; by = bys } ∷ []) are)
    (record { level = last.level; scale = last.scale; by = more })
closed_levels Conflict levels bys b are more = are
closed_levels (Path d) levels bys b are more = are

closed_order : (stage : Stage) (levels : List BestLevel) (bys new : List By) → AllPairs (λ k l. IsLevelBefore k.level l.level) (closed stage levels bys) → AllPairs (λ k l. IsLevelBefore k.level l.level) (closed stage levels new)
closed_order Values levels bys new are = are
closed_order Levels levels bys new are = are
closed_order (Bys l) levels bys new are =
    all_pairs_push (λ k m. IsLevelBefore k.level m.level) levels (record { level = l.level; scale = l.scale; by = new })
    (AllPairs-front (λ (k : BestLevel) (m : BestLevel). IsLevelBefore k.level m.level) levels (record { level = l.level; scale = l.scale; by = bys } ∷ []) are)
    (All-last (λ (k : BestLevel) (m : BestLevel). IsLevelBefore k.level m.level) levels (record { level = l.level; scale = l.scale; by = bys }) are)
closed_order Conflict levels bys new are = are
closed_order (Path d) levels bys new are = are

path_nothing : (dual : Bool) → IsPathWritten (path_of (path_begun dual)) None
path_nothing dual = record {
  marks = All-nil (λ (m : Mark). IsRowName m.row);
  order = none_pairs (λ (m : Mark) (n : Mark). IsRowBefore m.row n.row);
  swaps = All-nil IsSwapName;
  quantity = tt;
}

path_part : (d : PathDraft) (line : List ℕ) (part : PathLine) → SaysPart line part → PartMayFollow d part → IsPathWritten (path_of d) d.unfit → IsPathWritten (path_of (with_part d part)) (with_part d part).unfit
path_part d line (OfIn m) says may good = record {
  marks = All-push (λ m. IsRowName m.row) d.corner m good.marks says.0;
  order = all_pairs_push (λ m n. IsRowBefore m.row n.row) d.corner m good.order may.2;
  swaps = good.swaps;
  quantity = good.quantity;
}
path_part d line (OfSwap s) says may good = record {
  marks = good.marks;
  order = good.order;
  swaps = All-push IsSwapName d.swaps s good.swaps says.0;
  quantity = good.quantity;
}
path_part d line (OfUnfit q) says may good = record { marks = good.marks; order = good.order; swaps = good.swaps; quantity = says.0 }

draft_line : (old : Draft) (line : List ℕ) (item : ClaimLine) → Says line item → MayFollow old item → IsDraft old → IsDraft (with_line old item)
draft_line old line (OfValue v) says may good = record {
  stage = good.stage;
  values = all_pairs_push (λ u w. u.0 < w.0) old.values v good.values may.1;
  levels = good.levels;
  level_order = good.level_order;
  bys = good.bys;
}
draft_line old line OfBest says may good = record {
  stage = tt;
  values = good.values;
  levels = subst (λ (s : Stage). All IsLevelRead (closed s old.levels old.bys)) may good.levels;
  level_order = subst (λ (s : Stage). AllPairs (λ k l. IsLevelBefore k.level l.level) (closed s old.levels old.bys)) may good.level_order;
  bys = good.bys;
}
draft_line old line OfConflict says may good = record {
  stage = tt;
  values = good.values;
  levels = subst (λ (s : Stage). All IsLevelRead (closed s old.levels old.bys)) may.0 good.levels;
  level_order = subst (λ (s : Stage). AllPairs (λ k l. IsLevelBefore k.level l.level) (closed s old.levels old.bys)) may.0 good.level_order;
  bys = good.bys;
}
draft_line old line (OfLevel l) says may good = record {
  stage = says.0;
  values = good.values;
  levels = All-push IsLevelRead (closed old.stage old.levels old.bys) (record { level = l.level; scale = l.scale; by = [] }) good.levels (record { level = (says.0).level; scale = (says.0).scale; by = none_read });
  level_order = all_pairs_push (λ k m. IsLevelBefore k.level m.level) (closed old.stage old.levels old.bys) (record { level = l.level; scale = l.scale; by = [] }) good.level_order may.1;
  bys = none_read;
}
draft_line old line (OfBy b) says may good = record {
  stage = good.stage;
  values = good.values;
  levels = closed_levels old.stage old.levels old.bys b good.levels (by_read old.bys b good.bys says.0 may.1);
  level_order = closed_order old.stage old.levels old.bys (old.bys ++ b ∷ []) good.level_order;
  bys = by_read old.bys b good.bys says.0 may.1;
}
draft_line old line (OfPath dual) says may good = record {
  stage = path_nothing dual;
  values = good.values;
  levels = subst (λ (s : Stage). All IsLevelRead (closed s old.levels old.bys)) may.0 good.levels;
  level_order = subst (λ (s : Stage). AllPairs (λ k l. IsLevelBefore k.level l.level) (closed s old.levels old.bys)) may.0 good.level_order;
  bys = good.bys;
}
draft_line old line (OfPart part) says (d, stage, may) good = rw stage (record {
  stage = path_part d line part says may (subst IsStage stage good.stage);
  values = good.values;
  levels = subst (λ (s : Stage). All IsLevelRead (closed s old.levels old.bys)) stage good.levels;
  level_order = subst (λ (s : Stage). AllPairs (λ k l. IsLevelBefore k.level l.level) (closed s old.levels old.bys)) stage good.level_order;
  bys = good.bys;
})

pub draft_read : (xs : List (List ℕ)) (old new : Draft) → ReadFrom old xs new → IsDraft old → IsDraft new
draft_read [] old new read good = rw read good
draft_read (x ∷ xs) old new read good =
    let step = read.1 in
    draft_read xs read.0 new read.2 (rw step.is (draft_line old x step.item step.says step.may good))

-- ---- what is kept is what the types ask

pub bys_kept : (bys : List By) → AreRead bys → AreBys bys
bys_kept bys are = record {
  fitting = All-weaker IsBy (λ b. IsFitting b.times) (λ b is. is.times) bys are.each;
  apart = λ i j d lt in_range. rows_apart _ _ (are.order i j d lt in_range);
}

is_ranked : (l : Level) → IsLevelName l → IsRanked l
is_ranked (Priority rank) is = is
is_ranked (StayLevel attr) is = tt

pub levels_kept : (levels : List BestLevel) → All IsLevelRead levels → AllPairs (λ k l. IsLevelBefore k.level l.level) levels → AreLevels levels
levels_kept levels are order = record {
  each = All-weaker IsLevelRead IsLevel (λ l is. record { ranked = is_ranked l.level is.level; scale = is.scale; by = bys_kept l.by is.by }) levels are;
  apart = λ i j d lt in_range. levels_apart _ _ (order i j d lt in_range);
}

-- a level is none of those before it
pub fresh_level : (levels best : List BestLevel) (i : ℕ) (l : BestLevel) (level : Level) → AreLevels levels → best ≡ take i levels → i < length levels → l ≡ get_or levels i l → level ≡ l.level → All (λ k. k.level ≢ level) best
fresh_level levels best i l level are best_is lt read level_is = λ k d in_range.
    let front : k < i = omega (arith, ap length best_is, length-take i levels, in_range, lt) in
    let at_k : get_or best k d ≡ get_or levels k d = ap (λ ls. get_or ls k d) best_is ∙ get_or-take i levels k d front in
    let at_i : get_or levels i d ≡ l = get_or_default levels i d l lt ∙ sym read in
    let apart : (get_or levels k d).level ≢ (get_or levels i d).level = are.apart k i d front lt in
    λ same. apart (ap (λ (m : BestLevel). m.level) (sym at_k) ∙ (same ∙ (level_is ∙ ap (λ (m : BestLevel). m.level) (sym at_i))))
