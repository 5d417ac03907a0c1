-- The verdict on a path that is the corner where the route begins.
use Rattle.std.proofs.Common.{◌≡◌, ◌≢◌, ◌∙◌, ◌↔◌, ℕ, ◌-◌, ◌<◌, ◌≤◌, zero, suc, Bool, true, false, true≢false, IsTrue, List, [], ◌∷◌, length, get_or, refl, sym, subst, arith, inl, inr, Option, None, Some}
use Rattle.std.proofs.lemmas.Bool.{cases_lt}
use Rattle.problem_core.specs.declared.parts.Mark.{Mark}
use Rattle.problem_core.specs.declared.stops.Quantity.{Quantity}
use Rattle.problem_core.specs.declared.stops.Quantity.TheVariants.{Plain, Terms, Rows, Shifts}
use Rattle.problem_core.specs.Kept.{IsWhole}
use Rattle.problem_core.specs.Layout.{Problem, Row}
use Rattle.problem_core.specs.Corners.{IsCorner, SameMarks, Swap}
use Rattle.problem_core.specs.Unfit.{IsUnfitAt, over_mark}
use Rattle.cert_core.specs.Paths.{Path}
use Rattle.cert_core.specs.Stops.{IsBefore}
use Rattle.path_lines.specs.declared.table.Inside.{Inside}
use Rattle.path_claims.specs.declared.verdict.PathVerdict.{PathVerdict}
use Rattle.path_claims.specs.declared.verdict.PathVerdict.TheVariants.{Yes, No, NoRoom as NoRoomFor}
use Rattle.path_lines.specs.Walking.FirstLines.{AreFirstLines}
use Rattle.path_claims.specs.PathClauses.{AreSoundBefore, HoldToApart, IsPathVerdict, IsSoundPath, row_of_terms}
use Rattle.cert_core.specs.Stops.{IsPartial}
use Rattle.path_lines.specs.Room.{ComesBefore, CountsAtEnd, HasNoRoom, IsSumOf}
use Rattle.path_lines.specs.Route.{GoesBy, over_marks}
use Rattle.path_lines.specs.Tables.{AreJudged, IsThere, IsUp, line_count, name_at}
use Rattle.path_lines.proofs.Walking.FirstCorner.{begins_there}
use Rattle.path_lines.proofs.Walking.FirstLines.{count_lines, outside_line, row_name}
use Rattle.path_lines.proofs.Iffs.{never_true, yes}
use Rattle.path_lines.proofs.Arithmetic.ValueSigns.{all_up, judged_all, judged_is_up, outside_is_up, up_at_all}
use Rattle.path_fits.specs.declared.last.Fit.{Fit}
use Rattle.path_fits.specs.declared.last.Fit.TheVariants.{Fits, Unfit, NoRoom}
use Rattle.path_levels.specs.declared.outline.Outline.{Outline}
use Rattle.path_levels.specs.declared.sums.LevelSum.{LevelSum}
use Rattle.path_claims.specs.Begun.{IsBegunUntil, IsWholeBegun, Reaches}
use Rattle.path_claims.specs.Orders.{IsFitBefore, IsJudgedTo}
use Rattle.path_claims.specs.Starts.{AreUpTo, IsAtStart}
use Rattle.path_fits.proofs.Beginning.FirstSums.{over_number}
use Rattle.path_claims.proofs.Beginning.StartFits.{all_fit}
use Rattle.path_claims.proofs.Beginning.SumOrders.{any_row}
use Rattle.path_claims.proofs.MarkOrders.{before_same, unfit_same}
use Rattle.problem_core.proofs.Marks.{same-back as same_back}
use Rattle.corner_lines.proofs.LevelRows.SameLevels.{sound_same}

-- ---- the values there

stay_up : (p : Problem) (k : ℕ) → length p.rows ≤ k → k < line_count p → IsUp p (over_marks p) (name_at p k)
stay_up p k from within =
    outside_is_up p (over_marks p) (name_at p k) (outside_line p k (k - length p.rows) (omega (arith, from)) (omega (arith, from, within, count_lines p)))

-- as many first lines as are judged
pub sound_before : (p : Problem) (row : Option ℕ) (judged n : ℕ) (lines : List (Option Inside)) → IsWhole p → IsJudgedTo p row judged → judged ≤ n → AreFirstLines p n lines → AreUpTo p judged ↔ AreSoundBefore false p (over_marks p) [] row
sound_before p None judged n lines whole is most are =
    let there : IsThere p (over_marks p) = begins_there p whole in (
      λ up. all_up p (over_marks p) there
          (λ k within. elim (cases_lt k (length p.rows)) [
            | inl before ↦ up k (omega (arith, before, is))
            | inr from ↦ stay_up p k from within
          ]),
      λ sound k less. judged_all p (over_marks p) k (get_or lines k None) there (omega (arith, less, is, count_lines p)) (are.each k None (omega (arith, less, most))) sound,
    )
sound_before p (Some id) judged n lines whole is most are =
    let there : IsThere p (over_marks p) = begins_there p whole in (
      λ up. up_at_all p (over_marks p) id judged (length p.rows) there is.1
          (λ k within judges. elim judges [
            | inl less ↦ up k less
            | inr from ↦ stay_up p k from within
          ]),
      λ sound k less. judged_is_up p (over_marks p) id judged (length p.rows) k (get_or lines k None) there is.1 (omega (arith, less, is.0, count_lines p)) (inl less) (are.each k None (omega (arith, less, most))) sound,
    )

pub judged_most : (p : Problem) (row : Option ℕ) (judged : ℕ) → IsJudgedTo p row judged → judged ≤ length p.rows
judged_most p None judged is = omega (arith, is)
judged_most p (Some id) judged is = is.0

sound_there : (dual : Bool) (p : Problem) (a b : List Mark) (row : Option ℕ) → SameMarks a b → AreSoundBefore dual p a [] row → AreSoundBefore dual p b [] row
sound_there true p a b row same h = sound_same true p a b same h
sound_there false p a b None same h = sound_same false p a b same h
sound_there false p a b (Some id) same h = before_same p a b id same h

-- ---- the verdicts

abbrev bare : Path → List Swap → Path
bare path swaps = record { dual = path.dual; corner = path.corner; swaps = swaps }

with_none : (P : Path → Type 0) (path : Path) → path.swaps ≡ [] → P (bare path []) → P path
with_none P path none h = subst (λ (ss : List Swap). P (bare path ss)) (sym none) h

held_apart : (p : Problem) (path : Path) → IsCorner p path.corner → HoldToApart p (bare path [])
held_apart p path corner = (record { corner = corner; exchanges = tt }, λ i j d less within. absurd (omega (arith, less, within)))

sound_on : (p : Problem) (path : Path) (named : Quantity) → IsAtStart p path → AreSoundBefore path.dual p (over_marks p) [] (row_of_terms (Some named)) → IsSoundPath p (bare path []) (Some named)
sound_on p path named start sound = sound_there path.dual p (over_marks p) path.corner (row_of_terms (Some named)) (same_back path.corner (over_marks p) start.marks) sound

pub is_unsound : (p : Problem) (path : Path) (named : Quantity) → IsAtStart p path → (AreSoundBefore path.dual p (over_marks p) [] (row_of_terms (Some named)) → ⊥) → IsPathVerdict p path (Some named) (No 12)
is_unsound p path named start unsound =
    with_none (λ (q : Path). IsPathVerdict p q (Some named) (No 12)) path start.swaps
    (inr (inr (inr (inl (refl, held_apart p path start.corner, λ sound. unsound (sound_there path.dual p path.corner (over_marks p) (row_of_terms (Some named)) start.marks sound))))))

pub is_fitting : (p : Problem) (path : Path) (named : Quantity) → IsAtStart p path → AreSoundBefore path.dual p (over_marks p) [] (row_of_terms (Some named)) → (IsUnfitAt p (over_marks p) named → ⊥) → IsPathVerdict p path (Some named) (No 14)
is_fitting p path named start sound fits =
    with_none (λ (q : Path). IsPathVerdict p q (Some named) (No 14)) path start.swaps
    (inr (inr (inr (inr (inr (refl, ((held_apart p path start.corner, sound_on p path named start sound), tt), λ unfit. fits (unfit_same p path.corner (over_marks p) named start.marks unfit)))))))

pub is_lawful : (p : Problem) (path : Path) (named : Quantity) → IsAtStart p path → AreSoundBefore path.dual p (over_marks p) [] (row_of_terms (Some named)) → IsUnfitAt p (over_marks p) named → IsPathVerdict p path (Some named) Yes
is_lawful p path named start sound unfit =
    with_none (λ (q : Path). IsPathVerdict p q (Some named) Yes) path start.swaps
    (((held_apart p path start.corner, sound_on p path named start sound), tt), unfit_same p (over_marks p) path.corner named (same_back path.corner (over_marks p) start.marks) unfit)

no_way : (p : Problem) (wanted at rest : List Mark) → GoesBy p wanted [] at rest []
no_way p wanted at [] = (refl, tt)
no_way p wanted at (m ∷ rest) = tt

pub has_no_room : (p : Problem) (path : Path) (named q : Quantity) → IsAtStart p path → CountsAtEnd path.dual p [] named q → IsUnfitAt p (over_marks p) q → IsPathVerdict p path (Some named) (NoRoomFor 0)
has_no_room p path named q start counts unfit =
    with_none (λ (x : Path). HasNoRoom p x (Some named) 0) path start.swaps (record {
      done = [];
      count = refl;
      route = no_way p path.corner (over_marks p) path.corner;
      quantity = q;
      counts = inr ((no_way p path.corner (over_marks p) path.corner, ([], refl, start.marks.0)), counts);
      does_not_fit = unfit;
    })

-- ---- where a sum does not fit

partial_there : (p : Problem) (n : ℕ) (q : Quantity) → Reaches p n q → IsPartial q
partial_there p n (Plain what) reaches = reaches
partial_there p n (Terms mark j) reaches = tt
partial_there p n (Rows level j) reaches = tt
partial_there p n (Shifts what j) reaches = reaches

counts_dual : (dual : Bool) (p : Problem) (named q : Quantity) → dual ≡ true → IsPartial q → CountsAtEnd dual p [] named q
counts_dual true p named q is partial = inr (partial, tt)
counts_dual false p named q is partial = absurd (true≢false (sym is))

counts_primal : (dual : Bool) (p : Problem) (named q : Quantity) → dual ≡ false → IsPartial q → (IsSumOf p named → ComesBefore p q named) → CountsAtEnd dual p [] named q
counts_primal true p named q is partial earlier = inr (partial, tt)
counts_primal false p named q is partial earlier = inr (partial, earlier)

pub dual_has_no_room : (p : Problem) (path : Path) (named q : Quantity) (lines : List (Option Inside)) → path.dual ≡ true → IsAtStart p path → IsBegunUntil p lines q → IsPathVerdict p path (Some named) (NoRoomFor 0)
dual_has_no_room p path named q lines dual start begun =
    has_no_room p path named q start (counts_dual path.dual p named q dual (partial_there p (length lines) q begun.reaches)) begun.unfit

pub primal_has_no_room : (p : Problem) (path : Path) (named q : Quantity) (lines : List (Option Inside)) → path.dual ≡ false → IsAtStart p path → IsBegunUntil p lines q → IsFitBefore p named q NoRoom → IsPathVerdict p path (Some named) (NoRoomFor 0)
primal_has_no_room p path named q lines primal start begun earlier =
    has_no_room p path named q start (counts_primal path.dual p named q primal (partial_there p (length lines) q begun.reaches) earlier) begun.unfit

-- ---- as many lines as are judged

few_judged : (p : Problem) (a id judged n : ℕ) → a ≤ id → ((k : ℕ) (d : Row) → k < length p.rows → (get_or p.rows k d).id < id → k < n) → (judged ≤ length p.rows) × AreJudged p a judged (length p.rows) → judged ≤ n
few_judged p a id zero n low reach is = omega arith
few_judged p a id (suc k) n low reach is =
    let here : k < length p.rows = omega (arith, is.0) in
    let before : IsBefore a (name_at p k) = (is.1 k (omega (arith, here, count_lines p))).0 (inl (omega arith)) in
    let less : (get_or p.rows k any_row).id < a = subst (IsBefore a) (row_name p k any_row here) before in
    let below : k < n = reach k any_row here (omega (arith, less, low)) in
    omega (arith, below)

judged_over : (p : Problem) (mark : Mark) (j a judged : ℕ) → mark ≡ over_mark a → IsJudgedTo p (row_of_terms (Some (Terms mark j))) judged → (judged ≤ length p.rows) × AreJudged p a judged (length p.rows)
judged_over p mark j a judged is h = subst (λ (m : Mark). IsJudgedTo p (row_of_terms (Some (Terms m j))) judged) is h

same_within : (p : Problem) (q : Quantity) (n judged : ℕ) → Reaches p n q → IsJudgedTo p (row_of_terms (Some q)) judged → judged ≤ n
same_within p (Plain what) n judged reaches is = absurd reaches
same_within p (Terms mark j) n judged (id, mark_is, below) is = few_judged p id id judged n (omega arith) below (judged_over p mark j id judged mark_is is)
same_within p (Rows level j) n judged reaches is = omega (arith, reaches, is)
same_within p (Shifts what j) n judged reaches is = absurd reaches

before_within : (p : Problem) (named unfit : Quantity) (n judged : ℕ) → ComesBefore p named unfit → Reaches p n unfit → IsJudgedTo p (row_of_terms (Some named)) judged → judged ≤ n
before_within p (Plain what) unfit n judged earlier reaches is = absurd earlier
before_within p (Shifts what i) unfit n judged earlier reaches is = absurd earlier
before_within p (Terms m i) (Plain what) n judged earlier reaches is = absurd reaches
before_within p (Terms m i) (Shifts what j) n judged earlier reaches is = absurd reaches
before_within p (Terms m i) (Rows level j) n judged earlier reaches is = let most = judged_most p (row_of_terms (Some (Terms m i))) judged is in omega (arith, most, reaches)
before_within p (Terms m i) (Terms mark j) n judged (a, b, m_is, mark_is, order) (id, over_is, below) is =
    let same : id ≡ b = over_number id b (sym over_is ∙ mark_is) in
    few_judged p a id judged n (elim order [
      | inl less ↦ omega (arith, less, same)
      | inr e ↦ omega (arith, e.0, same)
    ]) below (judged_over p m i a judged m_is is)
before_within p (Rows level i) (Plain what) n judged earlier reaches is = absurd reaches
before_within p (Rows level i) (Shifts what j) n judged earlier reaches is = absurd reaches
before_within p (Rows level i) (Terms mark j) n judged earlier reaches is = absurd earlier
before_within p (Rows level i) (Rows other j) n judged earlier reaches is = omega (arith, is, reaches)

pub judged_within : (p : Problem) (named unfit : Quantity) (fit : Fit) (n judged : ℕ) → IsFitBefore p named unfit fit → fit ≢ NoRoom → Reaches p n unfit → IsJudgedTo p (row_of_terms (Some named)) judged → judged ≤ n
judged_within p named unfit Fits n judged is ne reaches to = before_within p named unfit n judged is reaches to
judged_within p named unfit Unfit n judged is ne reaches to = same_within p unfit n judged reaches (subst (λ (q : Quantity). IsJudgedTo p (row_of_terms (Some q)) judged) is to)
judged_within p named unfit NoRoom n judged is ne reaches to = absurd (ne refl)

-- ---- the last two verdicts

primal_sound : (p : Problem) (path : Path) (row : Option ℕ) → path.dual ≡ false → AreSoundBefore false p (over_marks p) [] row → AreSoundBefore path.dual p (over_marks p) [] row
primal_sound p path row primal h = subst (λ (b : Bool). AreSoundBefore b p (over_marks p) [] row) (sym primal) h

sound_primal : (p : Problem) (path : Path) (row : Option ℕ) → path.dual ≡ false → AreSoundBefore path.dual p (over_marks p) [] row → AreSoundBefore false p (over_marks p) [] row
sound_primal p path row primal h = subst (λ (b : Bool). AreSoundBefore b p (over_marks p) [] row) primal h

pub until_unsound : (p : Problem) (path : Path) (named : Quantity) (judged : ℕ) (lines : List (Option Inside)) → path.dual ≡ false → IsWhole p → IsAtStart p path → AreFirstLines p (length lines) lines → judged ≤ length lines → IsJudgedTo p (row_of_terms (Some named)) judged
    → (AreUpTo p judged → ⊥) → IsPathVerdict p path (Some named) (No 12)
until_unsound p path named judged lines primal whole start are most to none =
    is_unsound p path named start (λ sound. none ((sound_before p (row_of_terms (Some named)) judged (length lines) lines whole to most are).1 (sound_primal p path (row_of_terms (Some named)) primal sound)))

pub until_fits : (p : Problem) (path : Path) (named unfit : Quantity) (judged : ℕ) (lines : List (Option Inside)) → path.dual ≡ false → IsWhole p → IsAtStart p path → IsBegunUntil p lines unfit → judged ≤ length lines → IsJudgedTo p (row_of_terms (Some named)) judged
    → AreUpTo p judged → ComesBefore p named unfit → IsPathVerdict p path (Some named) (No 14)
until_fits p path named unfit judged lines primal whole start begun most to up earlier =
    is_fitting p path named start (primal_sound p path (row_of_terms (Some named)) primal ((sound_before p (row_of_terms (Some named)) judged (length lines) lines whole to most begun.lines_are).0 up))
    (λ u. begun.before named earlier u)

pub until_unfit : (p : Problem) (path : Path) (named unfit : Quantity) (judged : ℕ) (lines : List (Option Inside)) → path.dual ≡ false → IsWhole p → IsAtStart p path → IsBegunUntil p lines unfit → judged ≤ length lines → IsJudgedTo p (row_of_terms (Some named)) judged
    → AreUpTo p judged → named ≡ unfit → IsPathVerdict p path (Some named) Yes
until_unfit p path named unfit judged lines primal whole start begun most to up is =
    is_lawful p path named start (primal_sound p path (row_of_terms (Some named)) primal ((sound_before p (row_of_terms (Some named)) judged (length lines) lines whole to most begun.lines_are).0 up))
    (subst (IsUnfitAt p (over_marks p)) (sym is) begun.unfit)

pub last_fit : (p : Problem) (named unfit : Quantity) (fit : Fit) → IsFitBefore p named unfit fit → fit ≢ NoRoom → fit ≢ Fits → named ≡ unfit
last_fit p named unfit Fits is ne nf = absurd (nf refl)
last_fit p named unfit Unfit is ne nf = is
last_fit p named unfit NoRoom is ne nf = absurd (ne refl)

-- ---- what holds there, where all is made

pub dual_sound : (dual b : Bool) (p : Problem) (row : Option ℕ) → dual ≡ true → IsTrue b ↔ AreSoundBefore true p (over_marks p) [] row → IsTrue b ↔ AreSoundBefore dual p (over_marks p) [] row
dual_sound dual b p row is h = subst (λ (d : Bool). IsTrue b ↔ AreSoundBefore d p (over_marks p) [] row) (sym is) h

pub primal_by : (dual b : Bool) (p : Problem) (row : Option ℕ) → dual ≡ false → IsTrue b ↔ AreSoundBefore false p (over_marks p) [] row → IsTrue b ↔ AreSoundBefore dual p (over_marks p) [] row
primal_by dual b p row is h = subst (λ (d : Bool). IsTrue b ↔ AreSoundBefore d p (over_marks p) [] row) (sym is) h

pub whole_lines : (p : Problem) (outline : Outline) (lines : List (Option Inside)) (levels : List LevelSum) → IsWholeBegun p outline lines levels → AreFirstLines p (length lines) lines
whole_lines p outline lines levels begun = record { count = refl; each = λ k d within. begun.kept.lines_are.each k d (omega (arith, within, begun.kept.lines_are.count)) }

pub whole_verdict : (p : Problem) (path : Path) (named : Quantity) (outline : Outline) (lines : List (Option Inside)) (levels : List LevelSum) (dual b : Bool) (v : PathVerdict) → IsWhole p → IsAtStart p path → dual ≡ path.dual → IsWholeBegun p outline lines levels
    → IsTrue b ↔ AreSoundBefore dual p (over_marks p) [] (row_of_terms (Some named)) → (b ≡ true → v ≡ No 14) × (b ≡ false → v ≡ No 12) → IsPathVerdict p path (Some named) v
whole_verdict p path named outline lines levels dual true v whole start is begun sound told =
    subst (IsPathVerdict p path (Some named)) (sym (told.0 refl))
    (is_fitting p path named start (subst (λ (d : Bool). AreSoundBefore d p (over_marks p) [] (row_of_terms (Some named))) is (sound.0 yes)) (λ unfit. all_fit p named whole begun.fits unfit))
whole_verdict p path named outline lines levels dual false v whole start is begun sound told =
    subst (IsPathVerdict p path (Some named)) (sym (told.1 refl))
    (is_unsound p path named start (λ h. never_true (sound.1 (subst (λ (d : Bool). AreSoundBefore d p (over_marks p) [] (row_of_terms (Some named))) (sym is) h))))
