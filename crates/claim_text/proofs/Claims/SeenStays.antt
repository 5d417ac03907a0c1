-- The stays that a claim has named, and what may stand behind them.
use Rattle.std.proofs.Common.{nat_lt, ◌≡◌, ℕ, ◌+◌, ◌-◌, ◌<◌, Bool, true, false, List, [], ◌∷◌, ◌++◌, map, length, take, take_all, get_or, Option, Some, None, BTreeMap, refl, sym, ap, subst, ◌∙◌, inl, inr, arith, All, MatchOption, IsTrue, ◌↔◌, pos}
use Rattle.std.specs.Prelude.{AllPairs, IfOk}
use Rattle.std.specs.declared.result.Result.{Result}
use Rattle.std.specs.declared.result.Result.TheVariants.{Ok, Err}
use Rattle.std.specs.Option.{is_some}
use mathlib.Core.Bool.{not}
use Rattle.std.proofs.lemmas.Bool.Decides.{nat_tests}
use Rattle.std.specs.Ordering.{nat_cmp}
use Rattle.std.specs.BTreeMap.{Updates, get}
use Rattle.std.proofs.lemmas.Bool.{cases_eq}
use Rattle.std.proofs.lemmas.List.{take_more, length-map, get_or-map, get_or_default, map-append}
use Rattle.std.proofs.lemmas.List.Elements.{All-push, All-weaker}
use Rattle.frac_core.specs.Fraction.{Fraction}
use Rattle.frac_core.proofs.Orders.{not-at}
use Rattle.problem_core.specs.declared.parts.RowName.{RowName}
use Rattle.problem_core.specs.declared.parts.RowName.TheVariants.{Held, Stay as StayRow}
use Rattle.problem_core.specs.declared.parts.Level.{Level}
use Rattle.problem_core.specs.declared.parts.Level.TheVariants.{Priority, Stay as StayLevel}
use Rattle.cert_core.specs.Claims.{BestLevel}
use Rattle.claim_writing.specs.declared.claim.LevelLine.{LevelLine}
use Rattle.claim_text.specs.declared.claim.draft.Stage.{Stage}
use Rattle.claim_text.specs.declared.claim.draft.Stage.TheVariants.{Values, Levels, Bys, Conflict, Path}
use Rattle.claim_text.specs.Claims.ClaimTexts.{Draft, closed}
use Rattle.claim_writing.specs.Names.{IsRowBefore, IsLevelBefore}
use Rattle.claim_text.specs.declared.claim.lines.ClaimLine.{ClaimLine}
use Rattle.claim_text.specs.declared.claim.lines.ClaimLine.TheVariants.{OfLevel, OfPart}
use Rattle.claim_text.specs.declared.claim.path_lines.PathLine.TheVariants.{OfIn}
use Rattle.claim_text.specs.declared.claim.path_lines.PathLine.{PathLine}
use Rattle.claim_text.specs.Paths.PathForms.{PathDraft}
use Rattle.problem_core.specs.declared.parts.Mark.{Mark}
use Rattle.claim_text.specs.declared.claim.seen.Seen.{Seen}
use Rattle.claim_text.specs.Claims.ClaimTexts.{MayFollow, with_line}
use Rattle.claim_text.specs.Claims.Seen.{AreKeys, AreRowKeys, AreLevelKeys, AreSeen, MayStandBehind, levels_of, marked_rows}
use Rattle.claim_text.specs.Claims.ClaimTexts.{TakesLevels, stage_with}
use Rattle.problem_reading.proofs.Rising.{All-at_end, All-last}
use Rattle.frac_core.proofs.Lists.{all-front as All-front}

-- ---- keys

kept : {A : Type 0} (P : A → ℕ → Type 0) (xs : List A) (x : A) (q : ℕ) (o : Option ℕ) → P x q → MatchOption o (All (λ x. P x q) xs) (λ _. All (λ x. P x q) xs → ⊥) → MatchOption o (All (λ x. P x q) (xs ++ x ∷ [])) (λ _. All (λ x. P x q) (xs ++ x ∷ []) → ⊥)
kept P xs x q None p all = All-push (λ x. P x q) xs x all p
kept P xs x q (Some k) p none = λ all. none (All-front (λ x. P x q) xs (x ∷ []) all)

plain_push : {A : Type 0} (P : A → ℕ → Type 0) (m : BTreeMap ℕ ℕ) (xs : List A) (x : A) → ((q : ℕ) → P x q) → AreKeys P xs m → AreKeys P (xs ++ x ∷ []) m
plain_push P m xs x may keys q = kept P xs x q (get nat_cmp m q) (may q) (keys q)

key_push : {A : Type 0} (P : A → ℕ → Type 0) (m n : BTreeMap ℕ ℕ) (xs : List A) (x : A) (attr v : ℕ) → Updates nat_cmp m n attr (Some v) → (P x attr → ⊥) → ((q : ℕ) → (attr ≡ q → ⊥) → P x q) → AreKeys P xs m → AreKeys P (xs ++ x ∷ []) n
key_push P m n xs x attr v u never may keys q =
    elim (cases_eq attr q) [
      | inl e ↦
          let found : get nat_cmp n q ≡ Some v = ap (get nat_cmp n) (sym e) ∙ u.1 in
          subst (λ (o : Option ℕ). MatchOption o (All (λ x. P x q) (xs ++ x ∷ [])) (λ _. All (λ x. P x q) (xs ++ x ∷ []) → ⊥)) (sym found)
          (λ all. never (subst (P x) (sym e) (All-at_end (λ x. P x q) xs x all)))
      | inr e ↦
          subst (λ (o : Option ℕ). MatchOption o (All (λ x. P x q) (xs ++ x ∷ [])) (λ _. All (λ x. P x q) (xs ++ x ∷ []) → ⊥)) (sym (u.2 q (not-at attr q e)))
          (kept P xs x q (get nat_cmp m q) (may q e) (keys q))
    ]

pub priority_level : (m : BTreeMap ℕ ℕ) (levels : List Level) (rank : ℕ) → AreLevelKeys levels m → AreLevelKeys (levels ++ Priority rank ∷ []) m
priority_level m levels rank keys = plain_push (λ level attr. IsLevelBefore level (StayLevel attr)) m levels (Priority rank) (λ q. tt) keys

pub stay_level : (m n : BTreeMap ℕ ℕ) (levels : List Level) (attr v : ℕ) → Updates nat_cmp m n attr (Some v) → AreLevelKeys levels m → AreLevelKeys (levels ++ StayLevel attr ∷ []) n
stay_level m n levels attr v u keys = key_push (λ level attr. IsLevelBefore level (StayLevel attr)) m n levels (StayLevel attr) attr v u (λ h. h refl) (λ q h. h) keys

decided : (T : Type 0) (o : Option ℕ) (b : Bool) → b ≡ is_some o → MatchOption o T (λ _. T → ⊥) → IsTrue (not b) ↔ T
decided T None b e t = (λ h. t, λ h. ap not e)
decided T (Some k) b e none = (λ h. absurd (let g : false ≡ true = sym (ap not e) ∙ h in cc), λ t. absurd (none t))

-- ---- lists

map_all : {A B : Type 0} (P : B → Type 0) (f : A → B) (xs : List A) → All P (map f xs) → All (λ x. P (f x)) xs
map_all P f xs all i d l = subst P (get_or-map f xs i d (f d) l) (all i (f d) (omega (arith, l, length-map xs f)))

all_map : {A B : Type 0} (P : B → Type 0) (f : A → B) (xs : List A) (d : A) → All (λ x. P (f x)) xs → All P (map f xs)
all_map P f xs d all i e l =
    let m : i < length xs = omega (arith, l, length-map xs f) in
    subst P (sym (get_or-map f xs i d e m)) (all i d m)

last_all : {A : Type 0} (R : A → A → Type 0) (P : A → Type 0) (xs : List A) (d : A) → ((a b : A) → R a b → P b → P a) → AllPairs R xs → P (get_or xs (length xs - 1) d) → All P xs
last_all R P xs d step pairs last i e l =
    let below : length xs - 1 < length xs = omega (arith, l) in
    elim (cases_eq i (length xs - 1)) [
      | inl q ↦ subst P (get_or_default xs (length xs - 1) d e below ∙ ap (λ (n : ℕ). get_or xs n e) (sym q)) last
      | inr q ↦ step (get_or xs i e) (get_or xs (length xs - 1) e) (pairs i (length xs - 1) e (omega (arith, l, q)) below) (subst P (get_or_default xs (length xs - 1) d e below) last)
    ]

held_before : (a b : RowName) (id : ℕ) → IsRowBefore a b → IsRowBefore b (Held id) → IsRowBefore a (Held id)
held_before (Held a) (Held b) id h k = omega (arith, h, k)
held_before (Held a) (StayRow b) id h k = absurd k
held_before (StayRow a) (Held b) id h k = absurd h
held_before (StayRow a) (StayRow b) id h k = absurd k

priority_before : (a b : Level) (rank : ℕ) → IsLevelBefore a b → IsLevelBefore b (Priority rank) → IsLevelBefore a (Priority rank)
priority_before (Priority a) (Priority b) rank h k = omega (arith, h, k)
priority_before (Priority a) (StayLevel b) rank h k = absurd k
priority_before (StayLevel a) (Priority b) rank h k = absurd h
priority_before (StayLevel a) (StayLevel b) rank h k = absurd k

-- ---- which may follow

pub values_below : (values : List (ℕ × Fraction)) (attr : ℕ) (d : ℕ × Fraction) → AllPairs (λ u v. u.0 < v.0) values → (get_or values (length values - 1) d).0 < attr → All (λ v. v.0 < attr) values
values_below values attr d rising last = last_all (λ u v. u.0 < v.0) (λ v. v.0 < attr) values d (λ u v l m. omega (arith, l, m)) rising last

rows_before : {A : Type 0} (f : A → RowName) (xs : List A) (id : ℕ) (d : A) → AllPairs (λ a b. IsRowBefore (f a) (f b)) xs → IsRowBefore (f (get_or xs (length xs - 1) d)) (Held id) → All (λ x. IsRowBefore (f x) (Held id)) xs
rows_before f xs id d order last =
    last_all (λ a b. IsRowBefore (f a) (f b)) (λ b. IsRowBefore (f b) (Held id)) xs d (λ a b h k. held_before (f a) (f b) id h k) order last

no_key : (T : Type 0) (o : Option ℕ) → MatchOption o T (λ _. T → ⊥) → (o ≡ None) ↔ T
no_key T None t = (λ h. t, λ h. refl)
no_key T (Some k) none = (λ h. absurd (let g : true ≡ false = ap is_some h in cc), λ t. absurd (none t))

pub rows_behind : {A : Type 0} (f : A → RowName) (xs : List A) (d : A) (keys : BTreeMap ℕ ℕ) (last row : RowName) → 0 < length xs → AllPairs (λ a b. IsRowBefore (f a) (f b)) xs → AreRowKeys (map f xs) keys → last ≡ f (get_or xs (length xs - 1) d) → MayStandBehind keys last row ↔ All (λ x. IsRowBefore (f x) row) xs
rows_behind f xs d keys last (Held id) some order are is = (
  λ h. rows_before f xs id d order (subst (λ (r : RowName). IsRowBefore r (Held id)) is h),
  λ all. subst (λ (r : RowName). IsRowBefore r (Held id)) (sym is) (all (length xs - 1) d (omega (arith, some))),
)
rows_behind f xs d keys last (StayRow attr) some order are is =
    let both = no_key (All (λ r. IsRowBefore r (StayRow attr)) (map f xs)) (get nat_cmp keys attr) (are attr) in (
      λ h. map_all (λ r. IsRowBefore r (StayRow attr)) f xs (both.0 h),
      λ all. both.1 (all_map (λ r. IsRowBefore r (StayRow attr)) f xs d all),
    )

no_level : BestLevel
no_level = record { level = Priority 0; scale = pos 0; by = [] }

pub level_decided : (levels : List BestLevel) (keys : BTreeMap ℕ ℕ) (level : Level) (attr : ℕ) (b : Bool) → level ≡ StayLevel attr → AreLevelKeys (map (λ l. l.level) levels) keys → b ≡ is_some (get nat_cmp keys attr) → IsTrue (not b) ↔ All (λ l. IsLevelBefore l.level level) levels
level_decided levels keys level attr b e are is =
    let both = decided (All (λ r. IsLevelBefore r (StayLevel attr)) (map (λ (l : BestLevel). l.level) levels)) (get nat_cmp keys attr) b is (are attr) in (
      λ h. subst (λ (r : Level). All (λ l. IsLevelBefore l.level r) levels) (sym e) (map_all (λ r. IsLevelBefore r (StayLevel attr)) (λ (l : BestLevel). l.level) levels (both.0 h)),
      λ all. both.1 (all_map (λ r. IsLevelBefore r (StayLevel attr)) (λ (l : BestLevel). l.level) levels no_level (subst (λ (r : Level). All (λ l. IsLevelBefore l.level r) levels) e all)),
    )

map_pairs : (levels : List BestLevel) → AllPairs (λ k l. IsLevelBefore k.level l.level) levels → AllPairs (λ k l. IsLevelBefore k l) (map (λ l. l.level) levels)
map_pairs levels pairs i j e l m =
    let n : j < length levels = omega (arith, m, length-map levels (λ (l : BestLevel). l.level)) in
    subst (λ (k : Level). IsLevelBefore k (get_or (map (λ l. l.level) levels) j e)) (sym (get_or-map (λ (l : BestLevel). l.level) levels i no_level e (omega (arith, l, n))))
    (subst (IsLevelBefore (get_or levels i no_level).level) (sym (get_or-map (λ (l : BestLevel). l.level) levels j no_level e n)) (pairs i j no_level l n))

-- the levels before a priority are those of which the last is before it
pub levels_before : (levels : List BestLevel) (front : List Level) (last level : Level) (rank : ℕ) → level ≡ Priority rank → map (λ l. l.level) levels ≡ front ++ last ∷ [] → AllPairs (λ k l. IsLevelBefore k.level l.level) levels → (b : Bool) → (IsTrue b ↔ IsLevelBefore last level) → IsTrue b ↔ All (λ l. IsLevelBefore l.level level) levels
levels_before levels front last level rank e ends pairs b (f, g) =
    let order : AllPairs (λ k l. IsLevelBefore k l) (front ++ last ∷ []) = subst (λ (ls : List Level). AllPairs (λ k l. IsLevelBefore k l) ls) ends (map_pairs levels pairs) in (
      λ h.
          let here : IsLevelBefore last (Priority rank) = subst (IsLevelBefore last) e (f h) in
          let all : All (λ k. IsLevelBefore k (Priority rank)) (front ++ last ∷ []) =
          All-push (λ k. IsLevelBefore k (Priority rank)) front last (All-weaker (λ k. IsLevelBefore k last) (λ k. IsLevelBefore k (Priority rank)) (λ k r. priority_before k last rank r here) front (All-last (λ k l. IsLevelBefore k l) front last order)) here in
          subst (λ (r : Level). All (λ l. IsLevelBefore l.level r) levels) (sym e) (map_all (λ k. IsLevelBefore k (Priority rank)) (λ (l : BestLevel). l.level) levels (subst (λ (ls : List Level). All (λ k. IsLevelBefore k (Priority rank)) ls) (sym ends) all)),
      λ all. g (All-at_end (λ k. IsLevelBefore k level) front last (subst (λ (ls : List Level). All (λ k. IsLevelBefore k level) ls) ends (all_map (λ k. IsLevelBefore k level) (λ (l : BestLevel). l.level) levels no_level all))),
    )

-- ---- the last level

pub last_level : (levels : List BestLevel) (d : BestLevel) → 0 < length levels → (front : List Level) × (map (λ l. l.level) levels ≡ front ++ (get_or levels (length levels - 1) d).level ∷ [])
last_level levels d some =
    let below : length levels - 1 < length levels = omega (arith, some) in
    let whole : levels ≡ take (length levels - 1) levels ++ get_or levels (length levels - 1) d ∷ [] =
    sym (take_all (length levels - 1 + 1) levels (omega (arith, some))) ∙ take_more levels (length levels - 1) d below in
    (map (λ (l : BestLevel). l.level) (take (length levels - 1) levels), ap (map (λ (l : BestLevel). l.level)) whole ∙ map-append (λ (l : BestLevel). l.level) (take (length levels - 1) levels) (get_or levels (length levels - 1) d ∷ []))

pub open_last : (levels : List BestLevel) (final : BestLevel) → map (λ l. l.level) (levels ++ final ∷ []) ≡ map (λ l. l.level) levels ++ final.level ∷ []
open_last levels final = map-append (λ (l : BestLevel). l.level) levels (final ∷ [])

-- ---- a level more

-- where levels may come no mark was named
no_marks : (s : Stage) → TakesLevels s → marked_rows s ≡ []
no_marks Values h = absurd h
no_marks Levels h = refl
no_marks (Bys l) h = refl
no_marks Conflict h = absurd h
no_marks (Path d) h = absurd h

pub level_noted : {T E : Type 0} (r : Result T E) (item : ClaimLine) (l : LevelLine) (old : Seen) (rows levels : BTreeMap ℕ ℕ) → item ≡ OfLevel l → AreRowKeys [] rows
    → IfOk r (λ _. (ls : List Level) → AreLevelKeys ls old.levels → AreLevelKeys (ls ++ l.level ∷ []) levels)
    → IfOk r (λ _. (d : Draft) → MayFollow d item → AreSeen d old → AreSeen (with_line d item) (record { rows = rows; levels = levels; marks = old.marks }))
level_noted (Ok x) item l old rows levels is empty h = λ d may seen.
    let named : map (λ l. l.level) (closed d.stage d.levels d.bys ++ record { level = l.level; scale = l.scale; by = [] } ∷ []) ≡ levels_of d ++ l.level ∷ [] =
    open_last (closed d.stage d.levels d.bys) (record { level = l.level; scale = l.scale; by = [] }) in
    let has : TakesLevels d.stage = (subst (λ (i : ClaimLine). MayFollow d i) is may).0 in
    subst (λ (i : ClaimLine). AreSeen (with_line d i) (record { rows = rows; levels = levels; marks = old.marks })) (sym is)
    (record {
      rows = empty;
      marks = subst (λ (rs : List RowName). AreRowKeys rs old.marks) (no_marks d.stage has) seen.marks;
      levels = subst (λ (ls : List Level). AreLevelKeys ls levels) (sym named) (h (levels_of d) seen.levels);
    })
level_noted (Err e) item l old rows levels is empty h = h

-- ---- a mark more

mark_seen : (s : Stage) (p : PathDraft) (m : Mark) (d : Draft) (old : Seen) (keys : BTreeMap ℕ ℕ) → s ≡ Path p → (AreRowKeys (map (λ m. m.row) p.corner) old.marks → AreRowKeys (map (λ m. m.row) p.corner ++ m.row ∷ []) keys)
    → AreSeen (record { stage = s; values = d.values; levels = d.levels; bys = d.bys }) old
    → AreSeen (record { stage = stage_with s (OfIn m); values = d.values; levels = d.levels; bys = d.bys }) (record { rows = old.rows; levels = old.levels; marks = keys })
mark_seen s p m d old keys is more =
    subst (λ (t : Stage). AreSeen (record { stage = t; values = d.values; levels = d.levels; bys = d.bys }) old
    → AreSeen (record { stage = stage_with t (OfIn m); values = d.values; levels = d.levels; bys = d.bys }) (record { rows = old.rows; levels = old.levels; marks = keys })) (sym is)
    (λ seen. record {
      rows = seen.rows;
      levels = seen.levels;
      marks = subst (λ (rs : List RowName). AreRowKeys rs keys) (sym (map-append (λ (k : Mark). k.row) p.corner (m ∷ []))) (more seen.marks);
    })

pub mark_noted : {T E : Type 0} (r : Result T E) (part : PathLine) (m : Mark) (old : Seen) (keys : BTreeMap ℕ ℕ) → part ≡ OfIn m
    → IfOk r (λ _. (rows : List RowName) → AreRowKeys rows old.marks → AreRowKeys (rows ++ m.row ∷ []) keys)
    → IfOk r (λ _. (d : Draft) → MayFollow d (OfPart part) → AreSeen d old → AreSeen (with_line d (OfPart part)) (record { rows = old.rows; levels = old.levels; marks = keys }))
mark_noted (Ok x) part m old keys is h = λ d may seen.
    let (p, stage, rest) = subst (λ (i : PathLine). MayFollow d (OfPart i)) is may in
    subst (λ (i : PathLine). AreSeen (with_line d (OfPart i)) (record { rows = old.rows; levels = old.levels; marks = keys })) (sym is)
    (mark_seen d.stage p m d old keys stage (h (map (λ (k : Mark). k.row) p.corner)) seen)
mark_noted (Err e) part m old keys is h = h

pub bys_last : (d : Draft) (l : LevelLine) (last : Level) → d.stage ≡ Bys l → last ≡ l.level → (front : List Level) × (levels_of d ≡ front ++ last ∷ [])
bys_last d l last is named = (
  map (λ l. l.level) d.levels,
  ap (λ (s : Stage). map (λ l. l.level) (closed s d.levels d.bys)) is ∙ open_last d.levels (record { level = l.level; scale = l.scale; by = d.bys })
      ∙ ap (λ (k : Level). map (λ l. l.level) d.levels ++ k ∷ []) (sym named),
)

-- ---- tests

pub less_is : (a b : ℕ) → IsTrue (nat_lt a b) ↔ (a < b)
less_is a b = (λ yes. grind (arith, nat_tests), λ less. grind (arith, nat_tests))
