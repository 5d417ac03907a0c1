-- The rows that multipliers name: they refute these alone.
use Rattle.std.proofs.Common.{◌≡◌, ◌∙◌, ℕ, ◌+◌, ◌<◌, ◌++◌, length, take, get_or, pos, Bool, true, cond, nat_eq, List, [], ◌∷◌, map, filter, refl, sym, ap, subst, arith, inl, inr, AllPairs, Any, eqb-true}
use Rattle.std.specs.List.{AllByRecursion as Each}
use Rattle.std.proofs.lemmas.Bool.{and_from, and_parts, cases_Bool}
use Rattle.std.proofs.lemmas.List.Elements.{recursion_from_All, All-from_recursion}
use Rattle.std.proofs.lemmas.List.{get_or_default, take_more}
use Rattle.frac_core.proofs.Lists.{any-cases, any-here, any-later, each-from_map, each-onto_map, pairs-map, pairs-unmapped}
use Rattle.problem_core.specs.declared.limits.TheConstants.{REQUIRED}
use Rattle.problem_core.specs.declared.parts.RowName.{RowName}
use Rattle.problem_core.specs.declared.parts.RowName.TheVariants.{Held, Stay as StayOf}
use Rattle.problem_core.specs.Layout.{Problem, Row}
use Rattle.problem_core.specs.Kept.{IsWhole}
use Rattle.problem_core.specs.Certificates.{required}
use Rattle.problem_core.proofs.Forms.{each-impl}
use Rattle.problem_core.proofs.RowNames.{held-same}
use Rattle.cert_core.specs.declared.by.By.{By}
use Rattle.cert_core.specs.Claims.{times_of}
use Rattle.cert_core.specs.Stops.{ComesBefore, IsShownConflict}
use Rattle.conflict_core.specs.Cores.{AreRequired, is_among, is_tried, trial}
use Rattle.conflict_core.specs.Searches.{named, numbered}
use Rattle.conflict_core.proofs.Among.{IsPart, among-each, each-among}
use Rattle.conflict_core.proofs.Refuting.{part_refutes, required_trial, unnamed_times}

-- ---- some row that passes a test

any-unfiltered : (P : Row → Type 0) (f : Row → Bool) (rows : List Row) → Any P (filter f rows) → Any (λ r. (f r ≡ true) × P r) rows
any-unfiltered P f [] (k, x, within, is, h) = absurd (omega (arith, within))
any-unfiltered P f (r ∷ rows) h =
    elim (cases_Bool (f r)) [
      | inl passes ↦
          elim (any-cases P r (filter f rows) (subst (λ (b : Bool). Any P (cond b (r ∷ filter f rows) (filter f rows))) passes h)) [
            | inl here ↦ any-here (λ r. (f r ≡ true) × P r) r rows (passes, here)
            | inr later ↦ any-later (λ r. (f r ≡ true) × P r) r rows (any-unfiltered P f rows later)
          ]
      | inr fails ↦
          any-later (λ r. (f r ≡ true) × P r) r rows
          (any-unfiltered P f rows (subst (λ (b : Bool). Any P (cond b (r ∷ filter f rows) (filter f rows))) fails h))
    ]

pub any-filtered : (P : Row → Type 0) (f : Row → Bool) (rows : List Row) → Any (λ r. (f r ≡ true) × P r) rows → Any P (filter f rows)
any-filtered P f [] (k, x, within, is, h) = absurd (omega (arith, within))
any-filtered P f (r ∷ rows) h =
    elim (any-cases (λ r. (f r ≡ true) × P r) r rows h) [
      | inl here ↦ subst (λ (b : Bool). Any P (cond b (r ∷ filter f rows) (filter f rows))) (sym here.0) (any-here P r (filter f rows) here.1)
      | inr later ↦
          let rest = any-filtered P f rows later in
          elim (cases_Bool (f r)) [
            | inl passes ↦ subst (λ (b : Bool). Any P (cond b (r ∷ filter f rows) (filter f rows))) (sym passes) (any-later P r (filter f rows) rest)
            | inr fails ↦ subst (λ (b : Bool). Any P (cond b (r ∷ filter f rows) (filter f rows))) (sym fails) rest
          ]
    ]

any-impl : (P Q : Row → Type 0) (rows : List Row) → ((r : Row) → P r → Q r) → Any P rows → Any Q rows
any-impl P Q rows f (k, x, within, is, h) = (k, x, within, is, f x h)

-- ---- reading names

numbered-joined : (row : RowName) (xs ys : List ℕ) → numbered row (xs ++ ys) ≡ numbered row xs ++ ys
numbered-joined (Held id) xs ys = refl
numbered-joined (StayOf attr) xs ys = refl

named-more : (by : List By) (b : By) → named (by ++ b ∷ []) ≡ named by ++ numbered b.row []
named-more [] b = refl
named-more (a ∷ by) b = ap (numbered a.row) (named-more by b) ∙ numbered-joined a.row (named by) (numbered b.row [])

-- the numbers that were read, with the next name's
pub next_named : (by : List By) (i : ℕ) (b : By) (out : List ℕ) → i < length by → get_or by i b ≡ b → out ≡ named (take i by) → out ++ numbered b.row [] ≡ named (take (i + 1) by)
next_named by i b out within is are =
    ap (λ (ns : List ℕ). ns ++ numbered b.row []) are ∙ sym (named-more (take i by) b)
    ∙ ap (λ (c : By). named (take i by ++ c ∷ [])) (sym is) ∙ ap named (sym (take_more by i b within))

abbrev pub no-by : By
no-by = record { row = Held 0; times = pos 0 }

-- the same where the names are read from a list that is this one
pub next_read : (by items : List By) (i : ℕ) (out more : List ℕ) → items ≡ by → i < length items → out ≡ named (take i by) → more ≡ out ++ numbered (get_or items i no-by).row [] → more ≡ named (take (i + 1) by)
next_read by items i out more same within are pushed =
    let inside : i < length by = subst (λ (bs : List By). i < length bs) same within in
    subst (λ (bs : List By). more ≡ out ++ numbered (get_or bs i no-by).row []) same pushed
    ∙ next_named by i (get_or by i no-by) out inside (get_or_default by i (get_or by i no-by) no-by inside) are

-- ---- names

-- it is the name of one of these rows
abbrev NamesOne : List Row → RowName → Type 0
NamesOne rows name = Any (λ r. name ≡ Held r.id) rows

name-step : (row : RowName) (more : List ℕ) (rest : List RowName) (id : ℕ) → row ≡ Held id → rest ≡ map Held more → row ∷ rest ≡ map Held (numbered row more)
name-step row more rest id e h = subst (λ (w : RowName). w ∷ rest ≡ map Held (numbered w more)) (sym e) (ap (λ (ns : List RowName). Held id ∷ ns) h)

names-are : (rows : List Row) (by : List By) → Each (λ b. NamesOne rows b.row) by → map (λ b. b.row) by ≡ map Held (named by)
names-are rows [] h = refl
names-are rows (b ∷ by) h =
    let one = h.0 in name-step b.row (named by) (map (λ b. b.row) by) one.1.id one.4 (names-are rows by h.1)

abbrev row_of : By → RowName
row_of b = b.row

names-rise : (by : List By) → map row_of by ≡ map Held (named by) → AllPairs (λ a b. ComesBefore a.row b.row) by → AllPairs (λ a b. a < b) (named by)
names-rise by are rising =
    pairs-unmapped Held ComesBefore (named by)
    (subst (λ (names : List RowName). AllPairs ComesBefore names) are (pairs-map row_of ComesBefore by rising))

-- of each named number there is a row that is tried
abbrev IsOfTried : List ℕ → ℕ → Row → Type 0
IsOfTried ids n r = (is_tried ids r ≡ true) × (Held n ≡ Held r.id)

module _ (p : Problem) (ids : List ℕ) (by : List By) (shown : IsShownConflict (trial p ids) by) where
  name-rows : Each (λ b. NamesOne (filter (is_tried ids) p.rows) b.row) by
  name-rows =
      subst (λ (rows : List Row). Each (λ b. NamesOne rows b.row) by) (required_trial p ids)
      (recursion_from_All (λ b. NamesOne (required (trial p ids)) b.row) by shown.named)

  pub names_are : map (λ b. b.row) by ≡ map Held (named by)
  names_are = names-are (filter (is_tried ids) p.rows) by name-rows

  tried-names : Each (λ n. Any (IsOfTried ids n) p.rows) (named by)
  tried-names =
      each-impl (λ n. NamesOne (filter (is_tried ids) p.rows) (Held n)) (λ n. Any (IsOfTried ids n) p.rows) (named by)
      (λ n h. any-unfiltered (λ r. Held n ≡ Held r.id) (is_tried ids) p.rows h)
      (each-from_map (NamesOne (filter (is_tried ids) p.rows)) Held (named by)
      (subst (λ (names : List RowName). Each (NamesOne (filter (is_tried ids) p.rows)) names) names_are
      (each-onto_map (NamesOne (filter (is_tried ids) p.rows)) row_of by name-rows)))

  -- the named rows are some of those that were tried
  pub named_part : IsPart (named by) ids
  named_part n h =
      let (k, r, within, is, (passes, same)) = each-among (λ n. Any (IsOfTried ids n) p.rows) (named by) n tried-names h in
      subst (λ (m : ℕ). is_among ids m ≡ true) (sym (held-same n r.id same)) (and_parts (nat_eq r.rank REQUIRED) (is_among ids r.id) passes).1

  pub named_required : AreRequired p (named by)
  named_required = record {
    rising = names-rise by names_are shown.rising;
    held = All-from_recursion (λ id. Any (λ r. (r.id ≡ id) × (r.rank ≡ REQUIRED)) p.rows) (named by)
        (each-impl (λ n. Any (IsOfTried ids n) p.rows) (λ id. Any (λ r. (r.id ≡ id) × (r.rank ≡ REQUIRED)) p.rows) (named by)
        (λ n h. any-impl (IsOfTried ids n) (λ r. (r.id ≡ n) × (r.rank ≡ REQUIRED)) p.rows
        (λ r both. (sym (held-same n r.id both.1), eqb-true r.rank REQUIRED (and_parts (nat_eq r.rank REQUIRED) (is_among ids r.id) both.0).0)) h)
        tried-names);
  }

  among-named : (n : ℕ) → is_among (named by) n ≡ true → NamesOne (filter (is_tried (named by)) p.rows) (Held n)
  among-named n h =
      any-filtered (λ r. Held n ≡ Held r.id) (is_tried (named by)) p.rows
      (any-impl (IsOfTried ids n) (IsOfTried (named by) n) p.rows
      (λ r both. (and_from (nat_eq r.rank REQUIRED) (is_among (named by) r.id) (and_parts (nat_eq r.rank REQUIRED) (is_among ids r.id) both.0).0 (subst (λ (m : ℕ). is_among (named by) m ≡ true) (held-same n r.id both.1) h), both.1))
      (each-among (λ n. Any (IsOfTried ids n) p.rows) (named by) n tried-names h))

  own-names : Each (λ b. NamesOne (filter (is_tried (named by)) p.rows) b.row) by
  own-names =
      each-from_map (NamesOne (filter (is_tried (named by)) p.rows)) row_of by
      (subst (λ (names : List RowName). Each (NamesOne (filter (is_tried (named by)) p.rows)) names) (sym names_are)
      (each-onto_map (NamesOne (filter (is_tried (named by)) p.rows)) Held (named by)
      (among-each (λ n. NamesOne (filter (is_tried (named by)) p.rows) (Held n)) (named by) among-named)))

  -- the multipliers refute these alone
  pub named_refuted : IsWhole p → IsShownConflict (trial p (named by)) by
  named_refuted whole = record {
    refutes = part_refutes p (named by) ids (λ id. times_of by (Held id)) whole named_part (unnamed_times by) shown.refutes;
    named = All-from_recursion (λ b. NamesOne (required (trial p (named by))) b.row) by
        (subst (λ (rows : List Row). Each (λ b. NamesOne rows b.row) by) (sym (required_trial p (named by))) own-names);
    nonzero = shown.nonzero;
    rising = shown.rising;
    lowest = shown.lowest;
  }
