-- What is read of a level's writing.
use Rattle.std.proofs.Common.{◌≡◌, ◌∙◌, inl, inr, ℕ, zero, suc, ◌+◌, ◌<◌, ◌≤◌, List, [], ◌∷◌, ◌++◌, map, length, take, get_or, ℤ, pos, ◌<ℤ◌, unsigned_abs, refl, sym, ap, subst, arith, All, Any}
use Rattle.std.proofs.lemmas.Bool.{cases_lt}
use Rattle.std.proofs.lemmas.List.{take_all, take_more}
use borrow.Author.Differences.{ints}
use Rattle.frac_core.specs.Fraction.{IsFitting}
use Rattle.frac_core.specs.declared.frac.TheConstants.{PART_BOUND}
use Rattle.problem_core.specs.declared.parts.Level.{Level}
use Rattle.problem_core.specs.declared.parts.Mark.{Mark}
use Rattle.problem_core.specs.declared.parts.RowName.{RowName}
use Rattle.problem_core.specs.declared.parts.RowName.TheVariants.{Held, Stay as StayOf}
use Rattle.problem_core.specs.declared.parts.Stay.{Stay}
use Rattle.problem_core.specs.declared.stops.What.TheVariants.{Level as LevelOf}
use Rattle.problem_core.specs.Layout.{Line, Problem, Row, line_of_row, lines, stay_lines}
use Rattle.problem_core.specs.Levels.{AreFitting, IsLevelAt, IsLevelWriting}
use Rattle.corner_laws.proofs.LevelCosts.Equal.{numbers_are_equal}
use Rattle.corner_laws.proofs.LevelCosts.LevelExists.{level_writing_exists}
use Rattle.cert_core.specs.declared.by.By.{By}
use Rattle.cert_checker.specs.LinePlaces.{names}
use Rattle.corner_view.specs.Seen.{HasNumbers, IsKeptCorner, IsLevelOf, IsNamed}
use Rattle.certificates.specs.OwnLevels.{nonzero_times}
use Rattle.certificates.specs.Reading.{AreNumbersAt}
use Rattle.certificates.proofs.MultiplierLists.{nonzero_append}
use Rattle.corner_ends.proofs.RequiredTimes.{at-name}
use Rattle.problem_core.proofs.Lines.{later-line, stay-line}
use Rattle.corner_lines.proofs.LevelRows.StayRows.{level_one}

abbrev Alike : (RowName → ℤ) → (RowName → ℤ) → RowName → Type 0
Alike y z name = y name ≡ z name

-- ---- all writings of a level have the same numbers

same-level : (p : Problem) (at : List Mark) (level : Level) (j k scale : ℕ) (times : RowName → ℤ) (reduced : ℕ → ℤ) → IsKeptCorner p at → IsLevelAt p level j → IsLevelAt p level k → IsLevelWriting p at j scale times reduced → IsLevelWriting p at k scale times reduced
same-level p at level j k scale times reduced kept here there w = subst (λ (n : ℕ). IsLevelWriting p at n scale times reduced) (level_one p level j k kept.whole here there) w

pub scale_is : (p : Problem) (at : List Mark) (level : Level) (z : ℤ) → IsKeptCorner p at → HasNumbers p at level (λ scale times reduced. z ≡ pos scale) → (scale : ℕ) (times : RowName → ℤ) → AreNumbersAt p at level scale times → z ≡ pos scale
scale_is p at level z kept (k, here, (s, t, r, w, e)) scale times are =
    e ∙ ap pos (numbers_are_equal p at are.number s scale t times r are.reduced kept.whole kept.rays (same-level p at level k are.number s t r kept here are.place w) are.writing).0

pub times_is : (p : Problem) (at : List Mark) (level : Level) (name : RowName) (z : ℤ) → IsKeptCorner p at → IsNamed p name → HasNumbers p at level (λ scale times reduced. z ≡ times name) → (scale : ℕ) (times : RowName → ℤ) → AreNumbersAt p at level scale times → z ≡ times name
times_is p at level name z kept named (k, here, (s, t, r, w, e)) scale times are =
    e ∙ at-name (Alike t times) (lines p) name (λ i d within. ((numbers_are_equal p at are.number s scale t times r are.reduced kept.whole kept.rays (same-level p at level k are.number s t r kept here are.place w) are.writing).1 i d within).0) named

pub numbers_exist : (p : Problem) (at : List Mark) (level : Level) → IsKeptCorner p at → IsLevelOf p level → (scale : ℕ) × (times : RowName → ℤ) × AreNumbersAt p at level scale times
numbers_exist p at level kept (k, here) =
    let w = level_writing_exists p at k kept.whole kept.corner kept.rays in
    (w.0, w.1, record { number = k; place = here; reduced = w.2; writing = w.3 })

-- ---- they fit

fits-there : (p : Problem) (at : List Mark) (level : Level) (z : ℤ) → IsKeptCorner p at → (k : ℕ) → IsLevelAt p level k → ((scale : ℕ) (times : RowName → ℤ) (reduced : ℕ → ℤ) → IsLevelWriting p at k scale times reduced → AreFitting p scale times reduced → IsFitting z) → IsFitting z
fits-there p at level z kept k here fit =
    elim (cases_lt (unsigned_abs z) PART_BOUND) [
      | inl less ↦ less
      | inr more ↦ absurd (kept.fits (LevelOf level) (k, here, λ scale times reduced value w cost fitting whole. let small : IsFitting z = fit scale times reduced w fitting in omega (arith, more, small)))
    ]

pub scale_fits : (p : Problem) (at : List Mark) (level : Level) (z : ℤ) → IsKeptCorner p at → HasNumbers p at level (λ scale times reduced. z ≡ pos scale) → IsFitting z
scale_fits p at level z kept (k, here, (s, t, r, w, e)) =
    fits-there p at level z kept k here
    (λ scale times reduced v fitting. subst IsFitting (ap pos (sym (numbers_are_equal p at k s scale t times r reduced kept.whole kept.rays w v).0) ∙ sym e) fitting.scale_fits)

pub times_fit : (p : Problem) (at : List Mark) (level : Level) (name : RowName) (z : ℤ) → IsKeptCorner p at → IsNamed p name → HasNumbers p at level (λ scale times reduced. z ≡ times name) → IsFitting z
times_fit p at level name z kept named (k, here, (s, t, r, w, e)) =
    fits-there p at level z kept k here
    (λ scale times reduced v fitting.
    let same : t name ≡ times name = at-name (Alike t times) (lines p) name (λ i d within. ((numbers_are_equal p at k s scale t times r reduced kept.whole kept.rays w v).1 i d within).0) named in
    subst IsFitting (sym same ∙ sym e) (at-name (λ n. IsFitting (times n)) (lines p) name fitting.times_fit named))

pub scale_above : (p : Problem) (at : List Mark) (level : Level) (z : ℤ) → HasNumbers p at level (λ scale times reduced. z ≡ pos scale) → pos 0 <ℤ z
scale_above p at level z (k, here, (s, t, r, w, e)) = let some = w.scale_positive in omega (arith, ints, some, e)

-- ---- the names of rows and stays

abbrev pub row_names : List Row → List RowName
row_names rows = map (λ r. Held r.id) rows

abbrev pub stay_names : List Stay → List RowName
stay_names stays = map (λ s. StayOf s.attr) stays

names-of-stays : (k : ℕ) (stays : List Stay) → map (λ l. l.name) (stay_lines k stays) ≡ stay_names stays
names-of-stays k [] = refl
names-of-stays k (s ∷ stays) = ap (λ (ns : List RowName). StayOf s.attr ∷ ns) (names-of-stays (k + 1) stays)

names-of-rows : (rows : List Row) (ls : List Line) → map (λ l. l.name) (map line_of_row rows ++ ls) ≡ row_names rows ++ map (λ l. l.name) ls
names-of-rows [] ls = refl
names-of-rows (r ∷ rows) ls = ap (λ (ns : List RowName). Held r.id ∷ ns) (names-of-rows rows ls)

pub names_are : (p : Problem) → names p ≡ row_names p.rows ++ stay_names p.stays
names_are p = names-of-rows p.rows (stay_lines 1001 p.stays) ∙ ap (λ (ns : List RowName). row_names p.rows ++ ns) (names-of-stays 1001 p.stays)

row-line : (rows : List Row) (ls : List Line) (i : ℕ) (x : Row) → i < length rows → get_or rows i x ≡ x → Any (λ l. l.name ≡ Held x.id) (map line_of_row rows ++ ls)
row-line [] ls i x within is = absurd (omega (arith, within))
row-line (r ∷ rows) ls zero x within is = (0, line_of_row r, omega arith, refl, ap (λ (s : Row). Held s.id) is)
row-line (r ∷ rows) ls (suc i) x within is =
    let t = row-line rows ls i x (omega (arith, within)) is in
    (suc t.0, t.1, (let less = t.2 in omega (arith, less)), t.3, t.4)

row_is_named : (p : Problem) (i : ℕ) (x : Row) → i < length p.rows → x ≡ get_or p.rows i x → IsNamed p (Held x.id)
row_is_named p i x within is = row-line p.rows (stay_lines 1001 p.stays) i x within (sym is)

pub row_named : (p : Problem) (i : ℕ) (x : Row) (id : ℕ) → i < length p.rows → x ≡ get_or p.rows i x → id ≡ x.id → IsNamed p (Held id)
row_named p i x id within is same = subst (λ (n : ℕ). IsNamed p (Held n)) (sym same) (row_is_named p i x within is)

pub stay_is_named : (p : Problem) (i : ℕ) (x : Stay) → i < length p.stays → x ≡ get_or p.stays i x → IsNamed p (StayOf x.attr)
stay_is_named p i x within is = later-line (λ l. l.name ≡ StayOf x.attr) p.rows (stay_lines 1001 p.stays) (stay-line 1001 p.stays i x within (sym is))

-- ---- one more

map-append : {X Y : Type 0} (f : X → Y) (xs ys : List X) → map f (xs ++ ys) ≡ map f xs ++ map f ys
map-append f [] ys = refl
map-append f (x ∷ xs) ys = ap (λ (zs : List _). f x ∷ zs) (map-append f xs ys)

pub map_more : {X Y : Type 0} (f : X → Y) (xs : List X) (i : ℕ) (x : X) → i < length xs → x ≡ get_or xs i x → map f (take (i + 1) xs) ≡ map f (take i xs) ++ f x ∷ []
map_more f xs i x within is =
    ap (map f) (take_more xs i x within) ∙ map-append f (take i xs) (get_or xs i x ∷ []) ∙ ap (λ (y : _). map f (take i xs) ++ f y ∷ []) (sym is)

pub pushed_more : (times : RowName → ℤ) (done : List RowName) (name : RowName) (old new : List By) → old ≡ nonzero_times times done → new ≡ old ++ nonzero_times times (name ∷ []) → new ≡ nonzero_times times (done ++ name ∷ [])
pushed_more times done name old new e f = f ∙ ap (λ (bys : List By). bys ++ nonzero_times times (name ∷ [])) e ∙ sym (nonzero_append times done (name ∷ []))

-- ---- what has been read

pub record Read (p : Problem) (at : List Mark) (level : Level) (done : List RowName) (items : List By) : Type 0 where
  pub value : (scale : ℕ) (times : RowName → ℤ) → AreNumbersAt p at level scale times → items ≡ nonzero_times times done
  pub fits : All (λ b. IsFitting b.times) items

pub read_more : (p : Problem) (at : List Mark) (level : Level) (done : List RowName) (name : RowName) (old new : List By) → Read p at level done old
    → ((scale : ℕ) (times : RowName → ℤ) → AreNumbersAt p at level scale times → new ≡ old ++ nonzero_times times (name ∷ []))
    → (All (λ b. IsFitting b.times) old → All (λ b. IsFitting b.times) new) → Read p at level (done ++ name ∷ []) new
read_more p at level done name old new h pushed fits = record {
  value = λ scale times are. pushed_more times done name old new (h.value scale times are) (pushed scale times are);
  fits = fits h.fits;
}

pub row_read : (p : Problem) (at : List Mark) (level : Level) (i : ℕ) (x : Row) (id : ℕ) (old new : List By) → i < length p.rows → x ≡ get_or p.rows i x → id ≡ x.id → Read p at level (row_names (take i p.rows)) old
    → ((scale : ℕ) (times : RowName → ℤ) → AreNumbersAt p at level scale times → new ≡ old ++ nonzero_times times (Held id ∷ []))
    → (All (λ b. IsFitting b.times) old → All (λ b. IsFitting b.times) new) → Read p at level (row_names (take (i + 1) p.rows)) new
row_read p at level i x id old new within is same h pushed fits =
    subst (λ (ns : List RowName). Read p at level ns new)
    (ap (λ (n : ℕ). row_names (take i p.rows) ++ Held n ∷ []) same ∙ sym (map_more (λ (r : Row). Held r.id) p.rows i x within is))
    (read_more p at level (row_names (take i p.rows)) (Held id) old new h pushed fits)

pub stay_read : (p : Problem) (at : List Mark) (level : Level) (i : ℕ) (x : Stay) (old new : List By) → i < length p.stays → x ≡ get_or p.stays i x → Read p at level (row_names p.rows ++ stay_names (take i p.stays)) old
    → ((scale : ℕ) (times : RowName → ℤ) → AreNumbersAt p at level scale times → new ≡ old ++ nonzero_times times (StayOf x.attr ∷ []))
    → (All (λ b. IsFitting b.times) old → All (λ b. IsFitting b.times) new) → Read p at level (row_names p.rows ++ stay_names (take (i + 1) p.stays)) new
stay_read p at level i x old new within is h pushed fits =
    subst (λ (ns : List RowName). Read p at level ns new)
    (append_assoc (row_names p.rows) (stay_names (take i p.stays)) (StayOf x.attr ∷ []) ∙ ap (λ (ns : List RowName). row_names p.rows ++ ns) (sym (map_more (λ (s : Stay). StayOf s.attr) p.stays i x within is)))
    (read_more p at level (row_names p.rows ++ stay_names (take i p.stays)) (StayOf x.attr) old new h pushed fits)
  where
    append_assoc : (xs ys zs : List RowName) → (xs ++ ys) ++ zs ≡ xs ++ (ys ++ zs)
    append_assoc [] ys zs = refl
    append_assoc (x ∷ xs) ys zs = ap (λ (ws : List RowName). x ∷ ws) (append_assoc xs ys zs)

pub all_read : (p : Problem) (at : List Mark) (level : Level) (i : ℕ) (items : List By) → length p.stays ≤ i → Read p at level (row_names p.rows ++ stay_names (take i p.stays)) items → Read p at level (names p) items
all_read p at level i items over h =
    subst (λ (ns : List RowName). Read p at level ns items) (ap (λ (ss : List Stay). row_names p.rows ++ stay_names ss) (take_all i p.stays over) ∙ sym (names_are p)) h
