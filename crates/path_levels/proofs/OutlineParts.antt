-- The levels and the facts of lines, one after the other.
use Rattle.std.proofs.Common.{◌≡◌, ◌≢◌, ◌∙◌, ℕ, zero, suc, ◌+◌, ◌-◌, ◌<◌, ◌≤◌, ◌++◌, List, [], ◌∷◌, length, get_or, refl, sym, ap, subst, arith, inl, inr, length-append, pos}
use Rattle.std.proofs.Common.{ℤ, ◌≤ℤ◌}
use Rattle.std.specs.List.{All}
use Rattle.std.proofs.lemmas.Bool.{cases_eq, cases_lt}
use Rattle.std.proofs.lemmas.List.{get_or_append_left, get_or_default, get_or_push, get_or-map}
use Rattle.std.proofs.lemmas.List.Elements.{All-push}
use Rattle.std.proofs.lemmas.List.Quantifiers.{all_pairs_push}
use borrow.Author.Differences.{ints}
use Rattle.problem_core.specs.declared.parts.Level.TheVariants.{Priority, Stay as StayLevel}
use Rattle.problem_core.specs.declared.parts.Rel.{Rel}
use Rattle.problem_core.specs.declared.parts.Rel.TheVariants.{Eq, Le, Ge}
use Rattle.problem_core.specs.declared.parts.RowName.TheVariants.{Stay as StayOf}
use Rattle.problem_core.specs.declared.parts.Stay.{Stay}
use Rattle.problem_core.specs.Certificates.{over_weight, under_weight}
use Rattle.problem_core.specs.Kept.{IsRow, IsWhole}
use Rattle.problem_core.specs.Layout.{Line, Problem, Row, line_of_row, line_of_stay, lines, stay_lines}
use Rattle.problem_core.specs.Levels.{IsLevelAt}
use Rattle.path_lines.specs.Tables.{line_count}
use Rattle.path_lines.proofs.Walking.FirstLines.{count_lines, row_at, later_line}
use Rattle.path_levels.specs.declared.outline.Outline.{Outline}
use Rattle.path_levels.specs.declared.outline.LevelFacts.{LevelFacts}
use Rattle.path_levels.specs.declared.outline.LineFacts.{LineFacts}
use Rattle.path_levels.specs.Outlines.{AreFactsOf, IsFactsOf, IsOutline, IsSizedFacts, number_at}
use Rattle.path_levels.specs.OutlineParts.{AreFactsTo, AreLevelsTo, AreRankLevels, HasNumber, IsRankLevel}
use Rattle.path_lines.proofs.Places.{any_line}
use Rattle.path_lines.proofs.Places.{any_stay}

-- ---- numbers

pub number_is : (levels : List LevelFacts) (k : ℕ) (d : LevelFacts) → k < length levels → number_at levels k ≡ (get_or levels k d).number
number_is levels k d within = get_or-map (λ (f : LevelFacts). f.number) levels k d 0 within

still_has : (levels : List LevelFacts) (f : LevelFacts) (number : ℕ) → HasNumber levels number → HasNumber (levels ++ f ∷ []) number
still_has levels f number (k, g, within, is, same) =
    (k, g, (let l = length-append levels (f ∷ []) in omega (arith, within, l)), get_or_append_left levels (f ∷ []) g k within ∙ is, same)

last_has : (levels : List LevelFacts) (f : LevelFacts) → HasNumber (levels ++ f ∷ []) f.number
last_has levels f =
    (length levels, f, (let l = length-append levels (f ∷ []) in omega (arith, l)), get_or_push levels f f (length levels) refl, refl)

old_number : (levels : List LevelFacts) (f : LevelFacts) (k : ℕ) → k < length levels → number_at (levels ++ f ∷ []) k ≡ number_at levels k
old_number levels f k within =
    number_is (levels ++ f ∷ []) k f (let l = length-append levels (f ∷ []) in omega (arith, within, l))
    ∙ ap (λ (g : LevelFacts). g.number) (get_or_append_left levels (f ∷ []) f k within) ∙ sym (number_is levels k f within)

last_number : (levels : List LevelFacts) (f : LevelFacts) (k : ℕ) → k ≡ length levels → number_at (levels ++ f ∷ []) k ≡ f.number
last_number levels f k is =
    number_is (levels ++ f ∷ []) k f (let l = length-append levels (f ∷ []) in omega (arith, is, l))
    ∙ ap (λ (g : LevelFacts). g.number) (get_or_push levels f f k (sym is))

-- ---- the levels of rows

pub rank_pushed : (rows : List Row) (n rank : ℕ) (levels : List LevelFacts) → n ≤ 1000 → rank ≡ 1000 - n → AreRankLevels rows n levels
    → AreRankLevels rows (n + 1) (levels ++ record { level = Priority rank; number = n } ∷ [])
rank_pushed rows n rank levels small is old =
    let f : LevelFacts = record { level = Priority rank; number = n } in
    record {
      each = All-push (IsRankLevel (n + 1)) levels f (λ k d within. let h = old.each k d within in (omega (arith, h.0), h.1)) (omega arith, (rank, refl, omega (arith, small, is)));
      rising = all_pairs_push (λ (f g : LevelFacts). f.number < g.number) levels f old.rising (λ k d within. (old.each k d within).0);
      rows_have = λ k d within less.
          elim (cases_lt (1000 - (get_or rows k d).rank) n) [
            | inl before ↦ still_has levels f (1000 - (get_or rows k d).rank) (old.rows_have k d within before)
            | inr from ↦ subst (λ (m : ℕ). HasNumber (levels ++ f ∷ []) m) (let e : n ≡ 1000 - (get_or rows k d).rank = omega (arith, less, from) in e) (last_has levels f)
          ];
    }

pub rank_skipped : (rows : List Row) (n rank : ℕ) (levels : List LevelFacts) → n ≤ 1000 → rank ≡ 1000 - n → All IsRow rows → All (λ (r : Row). r.rank ≢ rank) rows
    → AreRankLevels rows n levels → AreRankLevels rows (n + 1) levels
rank_skipped rows n rank levels small is proper none old = record {
  each = λ k d within. let h = old.each k d within in (omega (arith, h.0), h.1);
  rising = old.rising;
  rows_have = λ k d within less.
      old.rows_have k d within (let ne = none k d within in let most = (proper k d within).rank in omega (arith, less, small, is, ne, most));
}

-- ---- the levels of stays

stay_line : (level : ℕ) (stays : List Stay) (i : ℕ) (d : Line) (s : Stay) → i < length stays → get_or (stay_lines level stays) i d ≡ line_of_stay (level + i) (get_or stays i s)
stay_line level [] i d s within = absurd (omega (arith, within))
stay_line level (x ∷ stays) zero d s within = ap (λ (n : ℕ). line_of_stay n x) (omega arith)
stay_line level (x ∷ stays) (suc i) d s within =
    stay_line (level + 1) stays i d s (omega (arith, within)) ∙ ap (λ (n : ℕ). line_of_stay n (get_or stays i s)) (omega arith)

pub stay_at : (p : Problem) (i : ℕ) (d : Line) (s : Stay) → i < length p.stays → get_or (lines p) (length p.rows + i) d ≡ line_of_stay (1001 + i) (get_or p.stays i s)
stay_at p i d s within = later_line p.rows (stay_lines 1001 p.stays) i d ∙ stay_line 1001 p.stays i d s within

pub stay_level : (p : Problem) (i : ℕ) (s : Stay) → i < length p.stays → s ≡ get_or p.stays i s → IsLevelAt p (StayLevel s.attr) (1001 + i)
stay_level p i s within is =
    let here : get_or (lines p) (length p.rows + i) any_line ≡ line_of_stay (1001 + i) (get_or p.stays i s) = stay_at p i any_line s within in
    let there : length p.rows + i < line_count p = omega (arith, within, count_lines p) in (
      length p.rows + i,
      get_or (lines p) (length p.rows + i) any_line,
      there,
      get_or_default (lines p) (length p.rows + i) (get_or (lines p) (length p.rows + i) any_line) any_line there,
      (ap (λ (l : Line). l.name) here ∙ ap (λ (t : Stay). StayOf t.attr) (sym is), ap (λ (l : Line). l.level) here),
    )

pub stay_pushed : (p : Problem) (ranks n number : ℕ) (s : Stay) (levels : List LevelFacts) → n < length p.stays → s ≡ get_or p.stays n s → number ≡ 1001 + n → AreLevelsTo p ranks n levels
    → AreLevelsTo p ranks (n + 1) (levels ++ record { level = StayLevel s.attr; number = number } ∷ [])
stay_pushed p ranks n number s levels within is numbered old =
    let f : LevelFacts = record { level = StayLevel s.attr; number = number } in
    record {
      count = let l = length-append levels (f ∷ []) in omega (arith, l, old.count);
      each = All-push (λ (f : LevelFacts). IsLevelAt p f.level f.number) levels f old.each (subst (IsLevelAt p (StayLevel s.attr)) (sym numbered) (stay_level p n s within is));
      below = All-push (λ (f : LevelFacts). f.number < 1001 + (n + 1)) levels f (λ k d here. let h = old.below k d here in omega (arith, h)) (omega (arith, numbered));
      rising = all_pairs_push (λ (f g : LevelFacts). f.number < g.number) levels f old.rising (λ k d here. let h = old.below k d here in omega (arith, h, numbered));
      rows_have = λ k d here. still_has levels f (1000 - (get_or p.rows k d).rank) (old.rows_have k d here);
      stays_are = λ i less.
          elim (cases_lt i n) [
            | inl before ↦ old_number levels f (ranks + i) (omega (arith, before, old.count)) ∙ old.stays_are i before
            | inr from ↦ last_number levels f (ranks + i) (omega (arith, from, less, old.count)) ∙ numbered ∙ (let e : 1001 + n ≡ 1001 + i = omega (arith, from, less) in e)
          ];
    }

-- ---- the facts of lines

pub one_more : (p : Problem) (levels : List LevelFacts) (n : ℕ) (facts : List LineFacts) (new : LineFacts) → ((l : Line) → IsFactsOf levels (get_or (lines p) n l) new) → AreFactsTo p levels n facts
    → AreFactsTo p levels (n + 1) (facts ++ new ∷ [])
one_more p levels n facts new here old = record {
  count = let l = length-append facts (new ∷ []) in omega (arith, l, old.count);
  each = λ k l f less.
      elim (cases_eq k n) [
        | inl e ↦ subst (IsFactsOf levels (get_or (lines p) k l)) (sym (get_or_push facts new f k (old.count ∙ sym e))) (subst (λ (m : ℕ). IsFactsOf levels (get_or (lines p) m l) new) (sym e) (here l))
        | inr ne ↦ subst (IsFactsOf levels (get_or (lines p) k l)) (sym (get_or_append_left facts (new ∷ []) f k (omega (arith, less, ne, old.count)))) (old.each k l f (omega (arith, less, ne)))
      ];
}

pub row_more : (p : Problem) (levels : List LevelFacts) (n : ℕ) (facts : List LineFacts) (r : Row) (new : LineFacts) → n < length p.rows → r ≡ get_or p.rows n r → IsFactsOf levels (line_of_row r) new
    → AreFactsTo p levels n facts → AreFactsTo p levels (n + 1) (facts ++ new ∷ [])
row_more p levels n facts r new within is here old =
    one_more p levels n facts new (λ l. subst (λ (m : Line). IsFactsOf levels m new) (ap line_of_row is ∙ sym (row_at p n l r within)) here) old

stay_facts : (levels : List LevelFacts) (s : Stay) (n level : ℕ) → level < length levels → number_at levels level ≡ n
    → IsFactsOf levels (line_of_stay n s) (record { name = StayOf s.attr; level = level; under = pos 1; over = pos 1; scale = pos 1 })
stay_facts levels s n level within is = record { name = refl; under = refl; over = refl; scale = refl; level = within; number = is }

pub stay_more : (p : Problem) (levels : List LevelFacts) (ranks i level : ℕ) (facts : List LineFacts) (s : Stay) → i < length p.stays → s ≡ get_or p.stays i s → level ≡ ranks + i
    → AreLevelsTo p ranks (length p.stays) levels → AreFactsTo p levels (length p.rows + i) facts
    → AreFactsTo p levels (length p.rows + (i + 1)) (facts ++ record { name = StayOf s.attr; level = level; under = pos 1; over = pos 1; scale = pos 1 } ∷ [])
stay_more p levels ranks i level facts s within is there are old =
    let new : LineFacts = record { name = StayOf s.attr; level = level; under = pos 1; over = pos 1; scale = pos 1 } in
    let next : (length p.rows + i) + 1 ≡ length p.rows + (i + 1) = omega arith in
    subst (λ (n : ℕ). AreFactsTo p levels n (facts ++ new ∷ [])) next
    (one_more p levels (length p.rows + i) facts new
    (λ l. subst (λ (m : Line). IsFactsOf levels m new) (ap (line_of_stay (1001 + i)) is ∙ sym (stay_at p i l s within))
    (stay_facts levels s (1001 + i) level (omega (arith, there, within, are.count)) (ap (number_at levels) there ∙ are.stays_are i within))) old)

facts_of_list : (levels : List LevelFacts) (ls : List Line) (facts : List LineFacts) → length facts ≡ length ls → ((k : ℕ) (l : Line) (f : LineFacts) → k < length ls → IsFactsOf levels (get_or ls k l) (get_or facts k f))
    → AreFactsOf levels ls facts
facts_of_list levels [] [] count each = tt
facts_of_list levels [] (f ∷ facts) count each = absurd (omega (arith, count))
facts_of_list levels (l ∷ ls) [] count each = absurd (omega (arith, count))
facts_of_list levels (l ∷ ls) (f ∷ facts) count each =
    (each 0 l f (omega arith), facts_of_list levels ls facts (omega (arith, count)) (λ k m g within. each (suc k) m g (omega (arith, within))))

pub facts_are : (p : Problem) (levels : List LevelFacts) (facts : List LineFacts) → AreFactsTo p levels (line_count p) facts → AreFactsOf levels (lines p) facts
facts_are p levels facts all = facts_of_list levels (lines p) facts all.count all.each

pub is_outline : (p : Problem) (ranks : ℕ) (outline : Outline) → AreLevelsTo p ranks (length p.stays) outline.levels.items → AreFactsTo p outline.levels.items (line_count p) outline.lines.items → outline.rows ≡ length p.rows → IsOutline p outline
is_outline p ranks outline levels facts rows = record {
  lines_are = facts_are p outline.levels.items outline.lines.items facts;
  levels_are = record { each = levels.each; rising = levels.rising };
  rows_are = rows;
}

-- ---- sizes

low_weight : (rel : Rel) (weight : ℕ) → weight ≤ 1000 → (under_weight rel weight ≤ 1000) × (over_weight rel weight ≤ 1000)
low_weight Eq weight most = (most, most)
low_weight Ge weight most = (most, omega arith)
low_weight Le weight most = (omega arith, most)

record IsSmallLine (l : Line) : Type 0 where
  weight : l.weight ≤ 1000
  above : 0 < l.scale
  scale : l.scale ≤ 1073741824

small_number : (z : ℤ) (n : ℕ) → z ≡ pos n → n ≤ 1000 → (pos 0 ≤ℤ z) × (z ≤ℤ pos 1000)
small_number z n is most = (omega (arith, ints, is), omega (arith, ints, is, most))

sized_facts : (levels : List LevelFacts) (l : Line) (f : LineFacts) → IsSmallLine l → IsFactsOf levels l f → IsSizedFacts (length levels) f
sized_facts levels l f small is =
    let low = low_weight l.rel l.weight small.weight in
    record {
      priced = record {
        under = small_number f.under (under_weight l.rel l.weight) is.under low.0;
        over = small_number f.over (over_weight l.rel l.weight) is.over low.1;
        scale = (let a = small.above in omega (arith, ints, is.scale, a), let b = small.scale in omega (arith, ints, is.scale, b));
      };
      level = is.level;
    }

small_line : (p : Problem) (k : ℕ) (d : Line) → IsWhole p → k < line_count p → IsSmallLine (get_or (lines p) k d)
small_line p k d whole within =
    elim (cases_lt k (length p.rows)) [
      | inl row ↦
          subst IsSmallLine (sym (row_at p k d any_row row))
          (let r = whole.rows k any_row row in record { weight = r.weight.1; above = r.scale.0; scale = r.scale.1 })
      | inr stay ↦
          subst (λ (n : ℕ). IsSmallLine (get_or (lines p) n d)) (let e : length p.rows + (k - length p.rows) ≡ k = omega (arith, stay) in e)
          (subst IsSmallLine (sym (stay_at p (k - length p.rows) d any_stay (omega (arith, stay, within, count_lines p)))) (record { weight = omega arith; above = omega arith; scale = omega arith }))
    ]
  where
    any_row : Row
    any_row = record { id = 0; rank = 0; weight = 0; rel = Eq; scale = 1; constant = record { num = pos 0; den = 1 }; terms = [] }

pub sized_outline : (p : Problem) (levels : List LevelFacts) (facts : List LineFacts) → IsWhole p → AreFactsTo p levels (line_count p) facts → All (IsSizedFacts (length levels)) facts
sized_outline p levels facts whole all k f within =
    sized_facts levels (get_or (lines p) k any_line) (get_or facts k f) (small_line p k any_line whole (omega (arith, within, all.count))) (all.each k any_line f (omega (arith, within, all.count)))
