-- Scenes run alone: what is told under a name is a run of the name's lines.
use Rattle.std.proofs.Common.{◌≡◌, ◌≢◌, ◌∙◌, ◌⊎◌, ◌<◌, ◌≤◌, ℕ, Bool, true, false, true≢false, ◌==◌, ◌&&◌, ◌||◌, cond, List, [], ◌∷◌, ◌++◌, length, Option, None, Some, Result, Ok, Err, codes, decimal, refl, sym, ap, subst, inl, inr, arith, append_assoc, append-nil, length-append}
use Rattle.std.proofs.lemmas.Bool.Decides.{nat_tests}
use Rattle.std.proofs.lemmas.Cmp.{nat_list_eq_equiv}
use Rattle.std.proofs.lemmas.Map.{length-set_value, lookup-set_value}
use Rattle.std.proofs.lemmas.Option.{none-some}
use Rattle.std.proofs.lemmas.Slice.Eq.{bytes_eq-Decides}
use Rattle.std.specs.Prelude.{is_some, nat_le}
use Rattle.std.specs.Str.{bytes_eq}
use Rattle.span_text.specs.Classes.{is_digit, is_letter, is_space, is_word}
use Rattle.span_text.specs.Language.{AllIn, Answers as Reads, NotStart}
use Rattle.span_text.specs.Reading.{back}
use Rattle.name_tables.specs.Names.{value_of, with_value}
use Rattle.line_by_line.specs.Answers.{AreAnswered, AreWholeLines, Machine}
use Rattle.scene_host.specs.Hosts.{AnswersAs, AnswersNamed, HostAnswers, Named, limit_line, mark_of, syntax_line}
use Rattle.scene_host.specs.Laws.{SaysWholeLines, ScenesRunAlone, line_for, lines_for, read_for, told_under}
use Rattle.scene_host.specs.Lines.{IsQuiet, NamedLine, named_line_at}
use Rattle.scene_host.specs.Marks.{marked, marked_byte, marked_from}
use Rattle.scene_host.proofs.Apart.{all_told, limit_is, others_untold, syntax_is}
use Rattle.scene_host.proofs.NamedLines.{named_answers}
use Rattle.scene_host.proofs.Told.{none_behind, told_more}

-- ---- lines that are for a name

same_name : (a b : List ℕ) → bytes_eq a b ≡ true → a ≡ b
same_name a b is = (bytes_eq-Decides a b).0 is

other_name : (a b : List ℕ) → bytes_eq a b ≡ false → a ≢ b
other_name a b differ is = absurd (true≢false (sym ((bytes_eq-Decides a b).1 is) ∙ differ))

own_name : (a : List ℕ) → bytes_eq a a ≡ true
own_name a = (bytes_eq-Decides a a).1 refl

-- a line for a name is read as it
is_read : (line : List ℕ) (v : List ℕ × List ℕ) → NamedLine line v → named_line_at line ≡ Ok v
is_read line v is = by (named_line_at line) (named_answers line)
  where
    by : (r : Result (List ℕ × List ℕ) ℕ) → Reads NamedLine line r → r ≡ Ok v
    by (Ok w) (reads, one) = ap (λ (p : List ℕ × List ℕ). Ok p) (sym (one v is))
    by (Err m) stops = absurd (stops.outside v is)

-- nothing is for a name of a line that has no name
none_read : (name line : List ℕ) → ((v : List ℕ × List ℕ) → NamedLine line v → ⊥) → read_for name (named_line_at line) ≡ []
none_read name line none = by (named_line_at line) (named_answers line)
  where
    by : (r : Result (List ℕ × List ℕ) ℕ) → Reads NamedLine line r → read_for name r ≡ []
    by (Ok w) (reads, one) = absurd (none w reads)
    by (Err m) stops = refl

-- the text behind blanks
behind_blanks : (x t : List ℕ) → AllIn is_space x → NotStart is_space t → back is_space (x ++ t) ≡ t
unfolding back
behind_blanks [] [] blank differ = refl
behind_blanks [] (b ∷ t) blank differ = rw differ refl
behind_blanks (b ∷ x) t blank differ = rw (blank.0) (behind_blanks x t blank.1 differ)

-- a line that is blank or a comment has no name
quiet_unnamed : (line : List ℕ) → IsQuiet line → (v : List ℕ × List ℕ) → NamedLine line v → ⊥
quiet_unnamed line (x, t, is, blank, differ, quiet) v (y, u, is_too, blank_too, no_too, (b, w, starts, letter, rest)) =
    let same : t ≡ u = sym (behind_blanks x t blank differ) ∙ (ap (back is_space) (sym is ∙ is_too) ∙ behind_blanks y u blank_too no_too) in
    by (same ∙ starts) quiet
  where
    by : t ≡ b ∷ w → ((s : List ℕ) × (t ≡ codes "#" ++ s) × (tt {0} ≡ tt {0})) ⊎ ((t ≡ []) × (tt {0} ≡ tt {0})) → ⊥
    by front (inl (s, comment, _)) =
        let hash : 35 ∷ s ≡ b ∷ w = sym comment ∙ front in
        let byte : 35 ≡ b = cc in
        true≢false (sym letter ∙ ap is_letter (sym byte))
    by front (inr (empty, _)) =
        let none : [] ≡ b ∷ w = sym empty ∙ front in
        absurd (cc)

-- a name is a word
name_is_word : (line name rest : List ℕ) → NamedLine line (name, rest) → AllIn is_word name
name_is_word line name rest (y, u, is, blank, differ, (b, w, starts, letter, (x, t, parts, word, apart, (z, s, others, blank_too, no_too, (r, colon, value))))) =
    let same : name ≡ b ∷ x = ap (λ (p : List ℕ × List ℕ). p.0) value in
    subst (AllIn is_word) (sym same) (ap (λ (c : Bool). c || is_digit b) letter, word)

-- ---- marked texts are whole lines

marked_ends : (mark : List ℕ) (begins : Bool) (front : List ℕ) → (text : List ℕ) × (marked_from mark begins (front ++ 10 ∷ []) ≡ text ++ 10 ∷ [])
marked_ends mark true [] = (mark, append-nil (mark ++ 10 ∷ []))
marked_ends mark false [] = ([], refl)
marked_ends mark begins (b ∷ front) =
    let rest = marked_ends mark (b == 10) front in
    (marked_byte mark begins b ++ rest.0, ap (λ (t : List ℕ). marked_byte mark begins b ++ t) rest.1 ∙ sym (append_assoc (marked_byte mark begins b) rest.0 (10 ∷ [])))

marked_whole : (mark text : List ℕ) → AreWholeLines text → AreWholeLines (marked mark text)
marked_whole mark text whole = elim whole [
  | inl none ↦ inl (ap (marked mark) none)
  | inr (front, is) ↦ (let ends = marked_ends mark true front in inr (ends.0, ap (marked mark) is ∙ ends.1))
]

limit_whole : (word : List ℕ) → AreWholeLines (limit_line word)
limit_whole word = inr (codes "refused 4 limit " ++ word, limit_is word)

syntax_whole : (at : ℕ) → AreWholeLines (syntax_line at)
syntax_whole at = inr (codes "refused 1 syntax " ++ decimal at, syntax_is at)

-- a host's words are words
line_word : AllIn is_word (codes "line")
line_word = (refl, (refl, (refl, (refl, tt))))

name_word : AllIn is_word (codes "name")
name_word = (refl, (refl, (refl, (refl, tt))))

scenes_word : AllIn is_word (codes "scenes")
scenes_word = (refl, (refl, (refl, (refl, (refl, (refl, tt))))))

-- ---- scenes by name

module _ {S : Type 0} where
  put_value : (n q : List ℕ) (was now : S) (es : Named S) → value_of es n ≡ Some was → value_of (with_value es n now) q ≡ cond (bytes_eq n q) (Some now) (value_of es q)
  put_value n q was now es found =
      lookup-set_value nat_list_eq_equiv (bytes_eq n) (λ x y is. nat_list_eq_equiv.congr n x y is) q now es (ap is_some found)

  added_other : (n q : List ℕ) (now : S) (es : Named S) → bytes_eq q n ≡ false → value_of (es ++ (n, now) ∷ []) q ≡ value_of es q
  added_other n q now [] differ = rw differ refl
  added_other n q now (e ∷ es) differ = ap (cond (bytes_eq q e.0) (Some e.1)) (added_other n q now es differ)

  added_own : (n : List ℕ) (now : S) (es : Named S) → value_of es n ≡ None → value_of (es ++ (n, now) ∷ []) n ≡ Some now
  added_own n now [] none = rw (own_name n) refl
  added_own n now (e ∷ es) none =
      elim (bytes_eq n e.0) as (λ b. cond b (Some e.1) (value_of es n) ≡ None → cond b (Some e.1) (value_of (es ++ (n, now) ∷ []) n) ≡ Some now) [
        | true ↦ λ h. absurd (none-some e.1 (sym h))
        | false ↦ λ h. added_own n now es h
      ] none

-- ---- a line

-- a name that a scene may have
abbrev IsName : List ℕ → Type 0
IsName name = AllIn is_word name × (length name ≤ 64)

-- all scenes have such names
abbrev AreNames : {S : Type 0} → Named S → Type 0
AreNames {S = S} es = (name : List ℕ) (v : S) → value_of es name ≡ Some v → IsName name

-- the line isn't for the name, and nothing is told under it
record Passes {S : Type 0} (name : List ℕ) (old : Named S) (line text : List ℕ) (new : Named S) : Type 0 where
  pub lines : line_for name line ≡ []
  pub told : told_under name text ≡ []
  pub same : value_of new name ≡ value_of old name
  pub more : length old ≤ length new

-- the scene under the name answers the line
record GoesOn {S : Type 0} (Says : Machine S) (name : List ℕ) (old : Named S) (line text : List ℕ) (new : Named S) : Type 0 where
  pub was : S
  pub now : S
  pub rest : List ℕ
  pub good : Bool
  pub before : value_of old name ≡ Some was
  pub lines : line_for name line ≡ rest ∷ []
  pub says : Says was rest (told_under name text) good now
  pub after : value_of new name ≡ Some now

-- a new scene answers the line, and stands under the name then
record Begins {S : Type 0} (Says : Machine S) (IsFirst : S → Type 0) (name : List ℕ) (old : Named S) (line text : List ℕ) (new : Named S) : Type 0 where
  pub first : S
  pub now : S
  pub rest : List ℕ
  pub good : Bool
  pub is_first : IsFirst first
  pub before : value_of old name ≡ None
  pub room : length old < 64
  pub lines : line_for name line ≡ rest ∷ []
  pub says : Says first rest (told_under name text) good now
  pub after : value_of new name ≡ Some now

-- there is no scene under the name, and no room for one more
record IsFull {S : Type 0} (name : List ℕ) (old new : Named S) : Type 0 where
  pub before : value_of old name ≡ None
  pub full : 64 ≤ length old
  pub same : new ≡ old

-- what a line comes to for a name
abbrev ComesTo : {S : Type 0} → Machine S → (S → Type 0) → List ℕ → Named S → (line text : List ℕ) → Named S → Type 0
ComesTo Says IsFirst name old line text new =
    Passes name old line text new ⊎ (GoesOn Says name old line text new ⊎ (Begins Says IsFirst name old line text new ⊎ IsFull name old new))

-- a short line that is read so
short_line : (name line : List ℕ) → length line ≤ 4096 → line_for name line ≡ read_for name (named_line_at line)
short_line name line short =
    let within : nat_le (length line) 4096 ≡ true = grind (arith, nat_tests) in
    rw within refl

long_line : (name line : List ℕ) → 4096 < length line → line_for name line ≡ []
long_line name line long =
    let over : nat_le (length line) 4096 ≡ false = grind (arith, nat_tests) in
    rw over refl

other_line : (name line n rest : List ℕ) → length line ≤ 4096 → NamedLine line (n, rest) → bytes_eq name n ≡ false → line_for name line ≡ []
other_line name line n rest short reads differ =
    short_line name line short ∙ (ap (read_for name) (is_read line (n, rest) reads) ∙ ap (λ (b : Bool). cond b (rest ∷ []) []) differ)

own_line : (name line rest : List ℕ) → length line ≤ 4096 → NamedLine line (name, rest) → line_for name line ≡ rest ∷ []
own_line name line rest short reads =
    short_line name line short ∙ (ap (read_for name) (is_read line (name, rest) reads) ∙ ap (λ (b : Bool). cond b (rest ∷ []) []) (own_name name))

apart : (a b : List ℕ) → bytes_eq a b ≡ false → bytes_eq b a ≡ false
apart a b differ = nat_list_eq_equiv.symm b a ∙ differ

module _ {S : Type 0} (Says : Machine S) (IsFirst : S → Type 0) (whole : SaysWholeLines Says) where
  -- the host itself says something, and nothing changes
  refused : (name : List ℕ) (old new : Named S) (line text told : List ℕ) → line_for name line ≡ [] → told_under name told ≡ [] → text ≡ told → new ≡ old → Passes name old line text new
  refused name old new line text told none untold is same = record {
    lines = none;
    told = ap (told_under name) is ∙ untold;
    same = ap (λ (es : Named S). value_of es name) same;
    more = rw same (omega arith);
  }

  -- another scene answers
  others : (name n : List ℕ) → IsName name → IsName n → bytes_eq name n ≡ false → (old new : Named S) (line rest text : List ℕ) (good : Bool) → length line ≤ 4096 → NamedLine line (n, rest)
      → (o : Option S) → value_of old n ≡ o → AnswersAs Says IsFirst old n rest o text good new → Passes name old line text new
  others name n is n_is differ old new line rest text good short reads (Some was) found (now, (said, says, shown), put) = record {
    lines = other_line name line n rest short reads differ;
    told = ap (told_under name) shown ∙ others_untold.other name n said is.0 n_is.0 (other_name name n differ) (whole was now rest said good says);
    same = ap (λ (es : Named S). value_of es name) put ∙ (put_value n name was now old found ∙ ap (λ (b : Bool). cond b (Some now) (value_of old name)) (apart name n differ));
    more = rw (put, length-set_value (bytes_eq n) old now) (omega arith);
  }
  others name n is n_is differ old new line rest text good short reads None found (inl (full, (text_is, bad, same))) =
      refused name old new line text (limit_line (codes "scenes")) (other_line name line n rest short reads differ) (others_untold.limit name (codes "scenes") is.0 scenes_word) text_is same
  others name n is n_is differ old new line rest text good short reads None found (inr (room, (first, now, is_first, (said, says, shown), put))) = record {
    lines = other_line name line n rest short reads differ;
    told = ap (told_under name) shown ∙ others_untold.other name n said is.0 n_is.0 (other_name name n differ) (whole first now rest said good says);
    same = ap (λ (es : Named S). value_of es name) put ∙ added_other n name now old differ;
    more = rw (put, length-append old ((n, now) ∷ [])) (omega arith);
  }

  -- the name's own scene answers, or a new one
  own : (name : List ℕ) → IsName name → (old new : Named S) (line rest text : List ℕ) (good : Bool) → length line ≤ 4096 → NamedLine line (name, rest)
      → (o : Option S) → value_of old name ≡ o → AnswersAs Says IsFirst old name rest o text good new → ComesTo Says IsFirst name old line text new
  own name is old new line rest text good short reads (Some was) found (now, (said, says, shown), put) =
      let told : told_under name text ≡ said = ap (told_under name) shown ∙ all_told name said is.0 (whole was now rest said good says) in
      inr (inl (record {
        was = was;
        now = now;
        rest = rest;
        good = good;
        before = found;
        lines = own_line name line rest short reads;
        says = subst (λ (t : List ℕ). Says was rest t good now) (sym told) says;
        after = ap (λ (es : Named S). value_of es name) put ∙ (put_value name name was now old found ∙ ap (λ (b : Bool). cond b (Some now) (value_of old name)) (own_name name));
      }))
  own name is old new line rest text good short reads None found (inl (full, (text_is, bad, same))) = inr (inr (inr (record { before = found; full = full; same = same })))
  own name is old new line rest text good short reads None found (inr (room, (first, now, is_first, (said, says, shown), put))) =
      let told : told_under name text ≡ said = ap (told_under name) shown ∙ all_told name said is.0 (whole first now rest said good says) in
      inr (inr (inl (record {
        first = first;
        now = now;
        rest = rest;
        good = good;
        is_first = is_first;
        before = found;
        room = room;
        lines = own_line name line rest short reads;
        says = subst (λ (t : List ℕ). Says first rest t good now) (sym told) says;
        after = ap (λ (es : Named S). value_of es name) put ∙ added_own name now old found;
      })))

  -- a line for a name
  named : (name n : List ℕ) → IsName name → (old new : Named S) (line rest text : List ℕ) (good : Bool) → length line ≤ 4096 → NamedLine line (n, rest) → AllIn is_word n
      → (same : Bool) → bytes_eq name n ≡ same → AnswersNamed Says IsFirst old n rest text good new → ComesTo Says IsFirst name old line text new
  named name n is old new line rest text good short reads word true equal (inl (long, refuses)) =
      let few : length n ≤ 64 = subst (λ (m : List ℕ). length m ≤ 64) (same_name name n equal) is.1 in
      absurd (omega (arith, long, few))
  named name n is old new line rest text good short reads word false differ (inl (long, (text_is, bad, same))) =
      inl (refused name old new line text (limit_line (codes "name")) (other_line name line n rest short reads differ) (others_untold.limit name (codes "name") is.0 name_word) text_is same)
  named name n is old new line rest text good short reads word true equal (inr (few, answers)) =
      let one : n ≡ name = sym (same_name name n equal) in
      own name is old new line rest text good short (subst (λ (m : List ℕ). NamedLine line (m, rest)) one reads) (value_of old name) refl
      (subst (λ (m : List ℕ). AnswersAs Says IsFirst old m rest (value_of old m) text good new) one answers)
  named name n is old new line rest text good short reads word false differ (inr (few, answers)) =
      inl (others name n is (word, few) differ old new line rest text good short reads (value_of old n) refl answers)

  -- any line
  comes_to : (name : List ℕ) → IsName name → (old new : Named S) (line text : List ℕ) (good : Bool) → HostAnswers Says IsFirst old line text good new → ComesTo Says IsFirst name old line text new
  comes_to name is old new line text good (inl (long, (text_is, bad, same))) =
      inl (refused name old new line text (limit_line (codes "line")) (long_line name line long) (others_untold.limit name (codes "line") is.0 line_word) text_is same)
  comes_to name is old new line text good (inr (inl (short, quiet, text_is, fine, same))) =
      inl (refused name old new line text [] (short_line name line short ∙ none_read name line (quiet_unnamed line quiet)) (none_behind (mark_of name)) text_is same)
  comes_to name is old new line text good (inr (inr (short, loud, inl (at, leaves, (text_is, bad, same))))) =
      inl (refused name old new line text (syntax_line at) (short_line name line short ∙ none_read name line leaves.outside) (others_untold.syntax name at is.0) text_is same)
  comes_to name is old new line text good (inr (inr (short, loud, inr (n, rest, reads, answers)))) =
      named name n is old new line rest text good short reads (name_is_word line n rest reads) (bytes_eq name n) refl answers

  -- ---- what is said is whole lines

  said_as : (n : List ℕ) (old new : Named S) (rest text : List ℕ) (good : Bool) → (o : Option S) → AnswersAs Says IsFirst old n rest o text good new → AreWholeLines text
  said_as n old new rest text good (Some was) (now, (said, says, shown), put) =
      subst AreWholeLines (sym shown) (marked_whole (mark_of n) said (whole was now rest said good says))
  said_as n old new rest text good None (inl (full, (text_is, bad, same))) = subst AreWholeLines (sym text_is) (limit_whole (codes "scenes"))
  said_as n old new rest text good None (inr (room, (first, now, is_first, (said, says, shown), put))) =
      subst AreWholeLines (sym shown) (marked_whole (mark_of n) said (whole first now rest said good says))

  said : (old new : Named S) (line text : List ℕ) (good : Bool) → HostAnswers Says IsFirst old line text good new → AreWholeLines text
  said old new line text good (inl (long, (text_is, bad, same))) = subst AreWholeLines (sym text_is) (limit_whole (codes "line"))
  said old new line text good (inr (inl (short, quiet, text_is, fine, same))) = inl text_is
  said old new line text good (inr (inr (short, loud, inl (at, leaves, (text_is, bad, same))))) = subst AreWholeLines (sym text_is) (syntax_whole at)
  said old new line text good (inr (inr (short, loud, inr (n, rest, reads, inl (long, (text_is, bad, same)))))) = subst AreWholeLines (sym text_is) (limit_whole (codes "name"))
  said old new line text good (inr (inr (short, loud, inr (n, rest, reads, inr (few, answers))))) = said_as n old new rest text good (value_of old n) answers

  -- ---- all scenes have names

  still_names : (old new : Named S) → new ≡ old → AreNames old → AreNames new
  still_names old new same are = subst AreNames (sym same) are

  names_as : (n : List ℕ) → IsName n → (old new : Named S) (rest text : List ℕ) (good : Bool) → (o : Option S) → value_of old n ≡ o → AnswersAs Says IsFirst old n rest o text good new → AreNames old → AreNames new
  names_as n is old new rest text good (Some was) found (now, says, put) are =
      subst AreNames (sym put) (λ q v stands. by q v (bytes_eq n q) (sym (put_value n q was now old found) ∙ stands) refl)
    where
      by : (q : List ℕ) (v : S) (same : Bool) → cond (bytes_eq n q) (Some now) (value_of old q) ≡ Some v → bytes_eq n q ≡ same → IsName q
      by q v true stands equal = subst IsName (same_name n q equal) is
      by q v false stands differ = are q v (ap (λ (b : Bool). cond b (Some now) (value_of old q)) (sym differ) ∙ stands)
  names_as n is old new rest text good None found (inl (full, (text_is, bad, same))) are = still_names old new same are
  names_as n is old new rest text good None found (inr (room, (first, now, is_first, says, put))) are =
      subst AreNames (sym put) (λ q v stands. by q v (bytes_eq q n) refl stands)
    where
      by : (q : List ℕ) (v : S) (same : Bool) → bytes_eq q n ≡ same → value_of (old ++ (n, now) ∷ []) q ≡ Some v → IsName q
      by q v true equal stands = subst IsName (sym (same_name q n equal)) is
      by q v false differ stands = are q v (sym (added_other n q now old differ) ∙ stands)

  names : (old new : Named S) (line text : List ℕ) (good : Bool) → HostAnswers Says IsFirst old line text good new → AreNames old → AreNames new
  names old new line text good (inl (long, (text_is, bad, same))) are = still_names old new same are
  names old new line text good (inr (inl (short, quiet, text_is, fine, same))) are = still_names old new same are
  names old new line text good (inr (inr (short, loud, inl (at, leaves, (text_is, bad, same))))) are = still_names old new same are
  names old new line text good (inr (inr (short, loud, inr (n, rest, reads, inl (long, (text_is, bad, same)))))) are = still_names old new same are
  names old new line text good (inr (inr (short, loud, inr (n, rest, reads, inr (few, answers))))) are =
      names_as n (name_is_word line n rest reads, few) old new rest text good (value_of old n) refl answers are

  all_names : (lines : List (List ℕ)) (old new : Named S) (text : List ℕ) (good : Bool) → AreAnswered (HostAnswers Says IsFirst) old lines text good new → AreNames old → AreNames new
  all_names [] old new text good (is, fine, same) are = still_names old new same are
  all_names (line ∷ more) old new text good (told, is_good, rest, rest_good, mid, answers, is, goods, run) are =
      all_names more mid new rest rest_good run (names old mid line told is_good answers are)

  -- ---- a run of a name's lines

  -- where there is no room for one more, no scene comes under the name
  none_comes : (name : List ℕ) → IsName name → (lines : List (List ℕ)) (old new : Named S) (text : List ℕ) (good : Bool) → AreAnswered (HostAnswers Says IsFirst) old lines text good new
      → value_of old name ≡ None → 64 ≤ length old → value_of new name ≡ None
  none_comes name is [] old new text good (text_is, fine, same) none full = ap (λ (es : Named S). value_of es name) same ∙ none
  none_comes name is (line ∷ more) old new text good (told, is_good, rest, rest_good, mid, answers, text_is, goods, run) none full =
      elim (comes_to name is old mid line told is_good answers) [
        | inl passes ↦ none_comes name is more mid new rest rest_good run (passes.same ∙ none) (omega (arith, passes.more, full))
        | inr (inl goes) ↦ absurd (none-some goes.was (sym none ∙ goes.before))
        | inr (inr (inl begins)) ↦ absurd (omega (arith, begins.room, full))
        | inr (inr (inr stays)) ↦ none_comes name is more mid new rest rest_good run (ap (λ (es : Named S). value_of es name) stays.same ∙ none) (rw (stays.same) full)
      ]

  -- from the scene under the name, or from a new one, its lines are answered alone
  abbrev RunsFrom : Option S → List (List ℕ) → List ℕ → S → Type 0
  RunsFrom (Some was) lines text last = (good : Bool) × AreAnswered Says was lines text good last
  RunsFrom None lines text last = (first : S) × (good : Bool) × IsFirst first × AreAnswered Says first lines text good last

  runs : (name : List ℕ) → IsName name → (lines : List (List ℕ)) (old new : Named S) (text : List ℕ) (good : Bool) → AreAnswered (HostAnswers Says IsFirst) old lines text good new
      → (last : S) → value_of new name ≡ Some last → RunsFrom (value_of old name) (lines_for name lines) (told_under name text) last
  runs name is [] old new text good (text_is, fine, same) last stands =
      let before : value_of old name ≡ Some last = ap (λ (es : Named S). value_of es name) (sym same) ∙ stands in
      let none : told_under name text ≡ [] = ap (told_under name) text_is ∙ none_behind (mark_of name) in
      subst (λ (o : Option S). RunsFrom o [] (told_under name text) last) (sym before) (true, (none, refl, refl))
  runs name is (line ∷ more) old new text good (told, is_good, rest, rest_good, mid, answers, text_is, goods, run) last stands =
      let all : told_under name text ≡ told_under name told ++ told_under name rest = ap (told_under name) text_is ∙ told_more name told rest (said old mid line told is_good answers) in
      elim (comes_to name is old mid line told is_good answers) [
        | inl passes ↦ (
            let lines_are : lines_for name (line ∷ more) ≡ lines_for name more = ap (λ (l : List (List ℕ)). l ++ lines_for name more) passes.lines in
            let text_are : told_under name text ≡ told_under name rest = all ∙ ap (λ (t : List ℕ). t ++ told_under name rest) passes.told in
            let on : RunsFrom (value_of old name) (lines_for name more) (told_under name rest) last =
            subst (λ (o : Option S). RunsFrom o (lines_for name more) (told_under name rest) last) passes.same (runs name is more mid new rest rest_good run last stands) in
            subst (λ (l : List (List ℕ)). RunsFrom (value_of old name) l (told_under name text) last) (sym lines_are)
            (subst (λ (t : List ℕ). RunsFrom (value_of old name) (lines_for name more) t last) (sym text_are) on))
        | inr (inl goes) ↦ (
            let lines_are : lines_for name (line ∷ more) ≡ goes.rest ∷ lines_for name more = ap (λ (l : List (List ℕ)). l ++ lines_for name more) goes.lines in
            let on : RunsFrom (Some goes.now) (lines_for name more) (told_under name rest) last =
            subst (λ (o : Option S). RunsFrom o (lines_for name more) (told_under name rest) last) goes.after (runs name is more mid new rest rest_good run last stands) in
            let both : RunsFrom (Some goes.was) (goes.rest ∷ lines_for name more) (told_under name text) last =
            ((goes.good && on.0), (told_under name told, goes.good, told_under name rest, on.0, goes.now, goes.says, all, refl, on.1)) in
            subst (λ (o : Option S). RunsFrom o (lines_for name (line ∷ more)) (told_under name text) last) (sym goes.before)
            (subst (λ (l : List (List ℕ)). RunsFrom (Some goes.was) l (told_under name text) last) (sym lines_are) both))
        | inr (inr (inl begins)) ↦ (
            let lines_are : lines_for name (line ∷ more) ≡ begins.rest ∷ lines_for name more = ap (λ (l : List (List ℕ)). l ++ lines_for name more) begins.lines in
            let on : RunsFrom (Some begins.now) (lines_for name more) (told_under name rest) last =
            subst (λ (o : Option S). RunsFrom o (lines_for name more) (told_under name rest) last) begins.after (runs name is more mid new rest rest_good run last stands) in
            let both : RunsFrom None (begins.rest ∷ lines_for name more) (told_under name text) last =
            (begins.first, (begins.good && on.0), begins.is_first, (told_under name told, begins.good, told_under name rest, on.0, begins.now, begins.says, all, refl, on.1)) in
            subst (λ (o : Option S). RunsFrom o (lines_for name (line ∷ more)) (told_under name text) last) (sym begins.before)
            (subst (λ (l : List (List ℕ)). RunsFrom None l (told_under name text) last) (sym lines_are) both))
        | inr (inr (inr stays)) ↦ (
            let none : value_of new name ≡ None =
            none_comes name is more mid new rest rest_good run (ap (λ (es : Named S). value_of es name) stays.same ∙ stays.before) (rw (stays.same) stays.full) in
            absurd (none-some last (sym none ∙ stands)))
      ]

-- over any lines
pub runs-alone : {S : Type 0} (Says : Machine S) (IsFirst : S → Type 0) → ScenesRunAlone Says IsFirst
runs-alone {S = S} Says IsFirst whole lines text good new run name last stands =
    let is : IsName name = all_names Says IsFirst whole lines [] new text good run (λ q v found. absurd (none-some v found)) name last stands in
    runs Says IsFirst whole name is lines [] new text good run last stands
