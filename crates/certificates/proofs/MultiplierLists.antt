-- Lists of multipliers.
use Rattle.std.proofs.Common.{◌≡◌, ◌≢◌, ◌∙◌, ℕ, suc, Bool, true, false, cond, nat_eq, List, [], ◌∷◌, ◌++◌, map, ℤ, pos, ◌+ℤ◌, ◌*ℤ◌, unsigned_abs, refl, sym, ap, ap₂, arith, AllPairs, Contains, eq-eqb, eqb-true, ne_eqb}
use Rattle.std.specs.List.{AllByRecursion as Each}
use Rattle.std.proofs.lemmas.List.Elements.{All-from_recursion}
use Rattle.std.proofs.lemmas.List.Kept.{AllPairs-cons}
use borrow.Author.Differences.{ints}
use Rattle.frac_core.proofs.Integers.{mul-add_left, mul-zero_ℤ}
use Rattle.problem_core.specs.declared.parts.RowName.{RowName}
use Rattle.problem_core.specs.declared.parts.Side.TheVariants.{Under}
use Rattle.problem_core.specs.Layout.{Line, Problem, lines}
use Rattle.problem_core.specs.Corners.{place_of}
use Rattle.problem_core.specs.Kept.{IsWhole}
use Rattle.problem_core.proofs.Forms.{each-impl}
use Rattle.cert_core.specs.declared.by.By.{By}
use Rattle.cert_core.specs.Claims.{same_row, times_of}
use Rattle.cert_checker.specs.LinePlaces.{names}
use Rattle.cert_checker.proofs.Written.Swapping.{same-true, same-false}
use Rattle.corner_laws.proofs.LinePlaces.{AllApart, AreApart, lines_apart}
use Rattle.certificates.specs.OwnLevels.{multiplied, nonzero_times}
use Rattle.frac_core.proofs.Numbers.{size-zero as none-is}

abbrev by_of : RowName → ℤ → By
by_of name z = record { row = name; times = z }

-- ---- one name more

front-or : (b : Bool) (x : By) (us vs : List By) → cond b (us ++ vs) (x ∷ (us ++ vs)) ≡ cond b us (x ∷ us) ++ vs
front-or true x us vs = refl
front-or false x us vs = refl

pub nonzero_append : (times : RowName → ℤ) (xs ys : List RowName) → nonzero_times times (xs ++ ys) ≡ nonzero_times times xs ++ nonzero_times times ys
nonzero_append times [] ys = refl
nonzero_append times (n ∷ xs) ys =
    ap (λ (zs : List By). cond (nat_eq (unsigned_abs (times n)) 0) zs (by_of n (times n) ∷ zs)) (nonzero_append times xs ys)
    ∙ front-or (nat_eq (unsigned_abs (times n)) 0) (by_of n (times n)) (nonzero_times times xs) (nonzero_times times ys)

-- ---- different names

abbrev pub AllDifferent : List RowName → Type 0
AllDifferent [] = Unit {0}
AllDifferent (n ∷ ns) = Each (λ m. n ≢ m) ns × AllDifferent ns

apart-names : (k l : Line) → AreApart k l → k.name ≢ l.name
apart-names k l a e = a.under_under (ap (λ (n : RowName). place_of n Under) e)

each-name : (P : RowName → Type 0) (ls : List Line) → Each (λ l. P l.name) ls → Each P (map (λ l. l.name) ls)
each-name P [] h = tt
each-name P (l ∷ ls) h = (h.0, each-name P ls h.1)

pub each_line : (P : RowName → Type 0) (ls : List Line) → Each P (map (λ l. l.name) ls) → Each (λ l. P l.name) ls
each_line P [] h = tt
each_line P (l ∷ ls) h = (h.0, each_line P ls h.1)

all-different : (ls : List Line) → AllApart ls → AllDifferent (map (λ l. l.name) ls)
all-different [] h = tt
all-different (l ∷ ls) h = (each-name (λ m. l.name ≢ m) ls (each-impl (AreApart l) (λ k. l.name ≢ k.name) ls (λ k a. apart-names l k a) h.0), all-different ls h.1)

pub names_different : (p : Problem) → IsWhole p → AllDifferent (names p)
names_different p whole = all-different (lines p) (lines_apart p whole)

-- ---- what is written for a name

picked-next : (b : Bool) (n m : RowName) (y : ℤ) (us : List By) → times_of (cond b us (by_of n y ∷ us)) m ≡ cond b (times_of us m) (cond (same_row n m) y (pos 0) +ℤ times_of us m)
picked-next true n m y us = refl
picked-next false n m y us = refl

skipped : (b c : Bool) (y t : ℤ) → c ≡ false → cond b t (cond c y (pos 0) +ℤ t) ≡ t
skipped true c y t e = refl
skipped false c y t e = ap (λ (k : Bool). cond k y (pos 0) +ℤ t) e ∙ (let z : pos 0 +ℤ t ≡ t = omega (arith, ints) in z)

taken : (b c : Bool) (y t : ℤ) → (b ≡ true → y ≡ pos 0) → c ≡ true → t ≡ pos 0 → cond b t (cond c y (pos 0) +ℤ t) ≡ y
taken true c y t zero-if e none = none ∙ sym (zero-if refl)
taken false c y t zero-if e none = ap₂ (λ (k : Bool) (z : ℤ). cond k y (pos 0) +ℤ z) e none ∙ (let z : y +ℤ pos 0 ≡ y = omega (arith, ints) in z)

absent : (times : RowName → ℤ) (ns : List RowName) (m : RowName) → Each (λ n. n ≢ m) ns → times_of (nonzero_times times ns) m ≡ pos 0
absent times [] m h = refl
absent times (n ∷ ns) m h =
    picked-next (nat_eq (unsigned_abs (times n)) 0) n m (times n) (nonzero_times times ns)
    ∙ skipped (nat_eq (unsigned_abs (times n)) 0) (same_row n m) (times n) (times_of (nonzero_times times ns) m) (same-false n m h.0)
    ∙ absent times ns m h.1

turned : (n : RowName) (ns : List RowName) → Each (λ m. n ≢ m) ns → Each (λ m. m ≢ n) ns
turned n ns h = each-impl (λ m. n ≢ m) (λ m. m ≢ n) ns (λ m k e. k (sym e)) h

abbrev IsFound : (RowName → ℤ) → List By → RowName → Type 0
IsFound times bys n = times_of bys n ≡ times n

still-found : (times : RowName → ℤ) (n : RowName) (us : List By) (b : Bool) (ns : List RowName) → Each (λ m. n ≢ m) ns → Each (IsFound times us) ns → Each (IsFound times (cond b us (by_of n (times n) ∷ us))) ns
still-found times n us b [] h k = tt
still-found times n us b (m ∷ ns) h k = (
  picked-next b n m (times n) us ∙ skipped b (same_row n m) (times n) (times_of us m) (same-false n m h.0) ∙ k.0,
  still-found times n us b ns h.1 k.1,
)

pub nonzero_found : (times : RowName → ℤ) (ns : List RowName) → AllDifferent ns → Each (λ n. times_of (nonzero_times times ns) n ≡ times n) ns
nonzero_found times [] h = tt
nonzero_found times (n ∷ ns) h = (
  picked-next (nat_eq (unsigned_abs (times n)) 0) n n (times n) (nonzero_times times ns)
      ∙ taken (nat_eq (unsigned_abs (times n)) 0) (same_row n n) (times n) (times_of (nonzero_times times ns) n)
      (λ e. none-is (times n) (eqb-true (unsigned_abs (times n)) 0 e)) (same-true n n refl) (absent times ns n (turned n ns h.0)),
  still-found times n (nonzero_times times ns) (nat_eq (unsigned_abs (times n)) 0) ns h.0 (nonzero_found times ns h.1),
)

-- where nothing is written all are 0
pub none_written : (times : RowName → ℤ) (ns : List RowName) → AllDifferent ns → nonzero_times times ns ≡ [] → Each (λ n. times n ≡ pos 0) ns
none_written times ns h e = each-impl (λ n. times_of (nonzero_times times ns) n ≡ times n) (λ n. times n ≡ pos 0) ns (λ n found. sym found ∙ ap (λ (bys : List By). times_of bys n) e) (nonzero_found times ns h)

-- ---- the rows that are written

abbrev pub Rows : List RowName → List By → Type 0
Rows ns bys = Each (λ b. Contains ns b.row) bys

contains-next : (n m : RowName) (ns : List RowName) → Contains ns m → Contains (n ∷ ns) m
contains-next n m ns (k, within, is) = (suc k, omega (arith, within), is)

wider : (n : RowName) (ns : List RowName) (bys : List By) → Rows ns bys → Rows (n ∷ ns) bys
wider n ns bys h = each-impl (λ b. Contains ns b.row) (λ b. Contains (n ∷ ns) b.row) bys (λ b k. contains-next n b.row ns k) h

either-rows : (b : Bool) (n : RowName) (y : ℤ) (ns : List RowName) (us : List By) → Rows (n ∷ ns) us → Rows (n ∷ ns) (cond b us (by_of n y ∷ us))
either-rows true n y ns us h = h
either-rows false n y ns us h = ((0, omega arith, refl), h)

pub nonzero_rows : (times : RowName → ℤ) (ns : List RowName) → Rows ns (nonzero_times times ns)
nonzero_rows times [] = tt
nonzero_rows times (n ∷ ns) = either-rows (nat_eq (unsigned_abs (times n)) 0) n (times n) ns (nonzero_times times ns) (wider n ns (nonzero_times times ns) (nonzero_rows times ns))

abbrev pub DifferentRows : List By → Type 0
DifferentRows [] = Unit {0}
DifferentRows (b ∷ bys) = Each (λ c. b.row ≢ c.row) bys × DifferentRows bys

either-apart : (b : Bool) (n : RowName) (y : ℤ) (us : List By) → Each (λ c. n ≢ c.row) us → DifferentRows us → DifferentRows (cond b us (by_of n y ∷ us))
either-apart true n y us h k = k
either-apart false n y us h k = (h, k)

either-not : (b : Bool) (n m : RowName) (y : ℤ) (us : List By) → n ≢ m → Each (λ c. n ≢ c.row) us → Each (λ c. n ≢ c.row) (cond b us (by_of m y ∷ us))
either-not true n m y us ne h = h
either-not false n m y us ne h = (ne, h)

not-written : (times : RowName → ℤ) (n : RowName) (ns : List RowName) → Each (λ m. n ≢ m) ns → Each (λ c. n ≢ c.row) (nonzero_times times ns)
not-written times n [] h = tt
not-written times n (m ∷ ns) h = either-not (nat_eq (unsigned_abs (times m)) 0) n m (times m) (nonzero_times times ns) h.0 (not-written times n ns h.1)

pub nonzero_different : (times : RowName → ℤ) (ns : List RowName) → AllDifferent ns → DifferentRows (nonzero_times times ns)
nonzero_different times [] h = tt
nonzero_different times (n ∷ ns) h = either-apart (nat_eq (unsigned_abs (times n)) 0) n (times n) (nonzero_times times ns) (not-written times n ns h.0) (nonzero_different times ns h.1)

pub all_different : (bys : List By) → DifferentRows bys → AllPairs (λ b c. b.row ≢ c.row) bys
all_different [] h = λ i j d less within. absurd (omega (arith, within))
all_different (b ∷ bys) h = AllPairs-cons (λ b c. b.row ≢ c.row) b bys (All-from_recursion (λ c. b.row ≢ c.row) bys h.0) (all_different bys h.1)

-- ---- times a factor

many-times : (c : Bool) (f : ℕ) (y : ℤ) → cond c (pos f *ℤ y) (pos 0) ≡ pos f *ℤ cond c y (pos 0)
many-times true f y = refl
many-times false f y = sym (mul-zero_ℤ (pos f))

pub multiplied_times : (f : ℕ) (bys : List By) (m : RowName) → times_of (multiplied f bys) m ≡ pos f *ℤ times_of bys m
multiplied_times f [] m = sym (mul-zero_ℤ (pos f))
multiplied_times f (b ∷ bys) m =
    ap₂ ◌+ℤ◌ (many-times (same_row b.row m) f b.times) (multiplied_times f bys m)
    ∙ sym (mul-add_left (pos f) (cond (same_row b.row m) b.times (pos 0)) (times_of bys m))

pub multiplied_rows : (f : ℕ) (ns : List RowName) (bys : List By) → Rows ns (multiplied f bys) → Rows ns bys
multiplied_rows f ns [] h = tt
multiplied_rows f ns (b ∷ bys) h = (h.0, multiplied_rows f ns bys h.1)

not-multiplied : (f : ℕ) (n : RowName) (bys : List By) → Each (λ c. n ≢ c.row) (multiplied f bys) → Each (λ c. n ≢ c.row) bys
not-multiplied f n [] h = tt
not-multiplied f n (b ∷ bys) h = (h.0, not-multiplied f n bys h.1)

pub multiplied_different : (f : ℕ) (bys : List By) → DifferentRows (multiplied f bys) → DifferentRows bys
multiplied_different f [] h = tt
multiplied_different f (b ∷ bys) h = (not-multiplied f b.row bys h.0, multiplied_different f bys h.1)

pub multiplied_append : (f : ℕ) (xs ys : List By) → multiplied f (xs ++ ys) ≡ multiplied f xs ++ multiplied f ys
multiplied_append f [] ys = refl
multiplied_append f (b ∷ xs) ys = ap (λ (zs : List By). by_of b.row (pos f *ℤ b.times) ∷ zs) (multiplied_append f xs ys)

-- ---- one name

written-or : (b : Bool) (x y : By) → b ≡ false → x ≡ y → cond b [] (x ∷ []) ≡ y ∷ []
written-or b x y e h = ap₂ (λ (k : Bool) (z : By). cond k [] (z ∷ [])) e h

size-some : (z : ℤ) → z ≢ pos 0 → unsigned_abs z ≢ 0
size-some z h e = h (none-is z e)

pub some_written : (times : RowName → ℤ) (name : RowName) (z : ℤ) → z ≡ times name → z ≢ pos 0 → nonzero_times times (name ∷ []) ≡ by_of name z ∷ []
some_written times name z e some =
    written-or (nat_eq (unsigned_abs (times name)) 0) (by_of name (times name)) (by_of name z) (ne_eqb (unsigned_abs (times name)) 0 (size-some (times name) (λ h. some (e ∙ h)))) (ap (by_of name) (sym e))

pub zero_unwritten : (times : RowName → ℤ) (name : RowName) (z : ℤ) → z ≡ times name → z ≡ pos 0 → nonzero_times times (name ∷ []) ≡ []
zero_unwritten times name z e none =
    ap (λ (b : Bool). cond b [] (by_of name (times name) ∷ [])) (eq-eqb (unsigned_abs (times name)) 0 (ap unsigned_abs (sym e ∙ none)))
