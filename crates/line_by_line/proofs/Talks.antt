-- A script that is answered line by line.
use Rattle.std.proofs.Common.{◌≡◌, ◌∙◌, ◌⊎◌, inl, inr, ℕ, ◌<◌, ◌==◌, Bool, true, false, true≢false, ◌&&◌, cond, List, [], ◌∷◌, ◌++◌, length, Option, None, refl, sym, ap, subst, arith, append_assoc, length-append}
use Rattle.std.specs.Str.Lines.{lines, strip_carriage_return}
use Rattle.std.specs.Io.KnownBytes.{Appends, Consumes, IsAtEnd}
use Rattle.std.proofs.lemmas.List.{append-nil}
use Rattle.std.proofs.lemmas.List.Elements.{All-nil, All-append}
use Rattle.std.proofs.lemmas.Bool.{cases_Bool}
use Rattle.std.proofs.lemmas.Bool.Decides.{leb_tells}
use Rattle.edge_io.specs.Feed.{Pending, nothing, cut, given_as, IsUnended}
use Rattle.edge_io.specs.Feeding.{Gives, Waits}
use Rattle.edge_io.proofs.Feeds.{lines_at, lines_last, strip_keeps}
use Rattle.edge_io.proofs.Moves.{appends_both, appends_none, front_then}
use Rattle.line_by_line.specs.Answers.{AnswersWhole, AnswersFirst, AnswersInPart, AreAnswered, AreWholeLines, IsAnswered, IsAnsweredInPart, IsGivenAs, Machine, texts_of}
use Rattle.line_by_line.specs.Talks.{IsTalk, joined}

and_assoc : (a b c : Bool) → ((a && b) && c) ≡ (a && (b && c))
and_assoc true b c = refl
and_assoc false b c = refl

and_true : (a : Bool) → (a && true) ≡ a
and_true true = refl
and_true false = refl

-- the answers go on by one line
pub run_more : {A : Type 0} (Is : Machine A) (all : List (List ℕ)) (start old new : A) (line text told : List ℕ) (good is_good : Bool)
    → AreAnswered Is start all text good old → Is old line told is_good new → AreAnswered Is start (all ++ line ∷ []) (text ++ told) (good && is_good) new
run_more {A = A} Is [] start old new line text told good is_good run step =
    let this : Is start line told is_good new = subst (λ (s : A). Is s line told is_good new) run.2 step in
    let both : text ++ told ≡ told ++ [] = ap (λ (t : List ℕ). t ++ told) run.0 ∙ sym (append-nil told) in
    let was : (good && is_good) ≡ (is_good && true) = ap (λ (b : Bool). b && is_good) run.1 ∙ sym (and_true is_good) in
    (told, is_good, [], true, new, this, both, was, (refl, refl, refl))
run_more Is (this ∷ more) start old new line text told good is_good (first, first_good, rest, rest_good, mid, step_is, text_is, good_is, run) step = (
  first,
  first_good,
  rest ++ told,
  (rest_good && is_good),
  mid,
  step_is,
  ap (λ (t : List ℕ). t ++ told) text_is ∙ append_assoc first rest told,
  ap (λ (b : Bool). b && is_good) good_is ∙ and_assoc first_good rest_good is_good,
  run_more Is more mid old new line rest told rest_good is_good run step,
)

-- ---- lines

abbrev Splits : List ℕ → Type 0
Splits whole = (more : List ℕ) → lines (whole ++ more) ≡ lines whole ++ lines more

-- one line more is whole
more_lines : (whole line : List ℕ) → Splits whole → IsUnended line → lines (whole ++ (line ++ 10 ∷ [])) ≡ lines whole ++ strip_carriage_return line ∷ []
more_lines whole line splits none = splits (line ++ 10 ∷ []) ∙ ap (λ (ls : List (List ℕ)). lines whole ++ ls) (lines_at line [] none)

more_splits : (whole line : List ℕ) → Splits whole → IsUnended line → Splits (whole ++ (line ++ 10 ∷ []))
more_splits whole line splits none more =
    let bytes : (whole ++ (line ++ 10 ∷ [])) ++ more ≡ whole ++ (line ++ 10 ∷ more) = append_assoc whole (line ++ 10 ∷ []) more ∙ ap (λ (bs : List ℕ). whole ++ bs) (append_assoc line (10 ∷ []) more) in
    let left : lines ((whole ++ (line ++ 10 ∷ [])) ++ more) ≡ lines whole ++ strip_carriage_return line ∷ lines more =
    ap lines bytes ∙ splits (line ++ 10 ∷ more) ∙ ap (λ (ls : List (List ℕ)). lines whole ++ ls) (lines_at line more none) in
    let right : lines (whole ++ (line ++ 10 ∷ [])) ++ lines more ≡ lines whole ++ strip_carriage_return line ∷ lines more =
    ap (λ (ls : List (List ℕ)). ls ++ lines more) (more_lines whole line splits none) ∙ append_assoc (lines whole) (strip_carriage_return line ∷ []) (lines more) in
    left ∙ sym right

whole_more : (whole line : List ℕ) → AreWholeLines (whole ++ (line ++ 10 ∷ []))
whole_more whole line = inr (whole ++ line, sym (append_assoc whole line (10 ∷ [])))

-- ---- how a line is given

given_is : (line : List ℕ) → IsGivenAs (given_as line) line
given_is line = elim (leb_tells (length line) 4096) [
  | inl is ↦ rw is.0 refl
  | inr is ↦ rw is.0 is.1
]

-- the line that ends, with what was given up of it
ends_as : (was : Bool) (gone line : List ℕ) (piece : Option (List ℕ)) → (was ≡ false → gone ≡ []) → (was ≡ true → 4097 < length gone)
    → piece ≡ cond was None (given_as (strip_carriage_return line)) → IsGivenAs piece (strip_carriage_return (gone ++ line))
ends_as true gone line piece kept long is =
    rw is (omega (arith, strip_keeps (gone ++ line), length-append gone line, long refl))
ends_as false gone line piece kept long is =
    rw (is, kept refl) (given_is (strip_carriage_return line))

last_as : (was : Bool) (gone bytes : List ℕ) (piece : Option (List ℕ)) → (was ≡ false → gone ≡ []) → (was ≡ true → 4097 < length gone)
    → piece ≡ cond was None (given_as bytes) → IsGivenAs piece (gone ++ bytes)
last_as true gone bytes piece kept long is = rw is (omega (arith, length-append gone bytes, long refl))
last_as false gone bytes piece kept long is = rw (is, kept refl) (given_is bytes)

-- ---- a talk

-- the first talk
pub talk_begins : {A : Type 0} (Is : Machine A) (first : A) (before : Option (List ℕ)) → IsTalk Is first before before [] nothing true first
talk_begins Is first before = record {
  whole = [];
  rest = [];
  parts = refl;
  ended = inl refl;
  splits = λ more. refl;
  stands = record { gone = []; parts = refl; unended = All-nil (λ b. (b == 10) ≡ false); kept = λ _. refl; long = λ is. absurd (true≢false (sym is)) };
  text = [];
  run = (refl, refl, refl);
  written = appends_none before;
}

-- more bytes are taken
pub talk_takes : {A : Type 0} (Is : Machine A) (first : A) (before held : Option (List ℕ)) (taken bytes : List ℕ) (p next : Pending) (good : Bool) (last : A)
    → IsTalk Is first before held taken p good last → next ≡ joined p bytes → IsTalk Is first before held (taken ++ bytes) next good last
talk_takes Is first before held taken bytes p next good last talk joins =
    let s = talk.stands in
    subst (λ (q : Pending). IsTalk Is first before held (taken ++ bytes) q good last) (sym joins) (record {
      whole = talk.whole;
      rest = talk.rest ++ bytes;
      parts = ap (λ (bs : List ℕ). bs ++ bytes) talk.parts ∙ append_assoc talk.whole talk.rest bytes;
      ended = talk.ended;
      splits = talk.splits;
      stands = record {
        gone = s.gone;
        parts = ap (λ (bs : List ℕ). bs ++ bytes) s.parts ∙ append_assoc s.gone p.bytes bytes;
        unended = s.unended;
        kept = s.kept;
        long = s.long;
      };
      text = talk.text;
      run = talk.run;
      written = talk.written;
    })

-- what is pending waits for the end of its line
pub talk_waits : {A : Type 0} (Is : Machine A) (first : A) (before held : Option (List ℕ)) (taken : List ℕ) (p next : Pending) (good : Bool) (last : A)
    → IsTalk Is first before held taken p good last → Waits p next → IsTalk Is first before held taken next good last
talk_waits Is first before held taken p next good last talk waits =
    let s = talk.stands in
    let gives_up : 4097 < length (s.gone ++ p.bytes) → next ≡ cut → IsTalk Is first before held taken next good last = λ long is.
    subst (λ (q : Pending). IsTalk Is first before held taken q good last) (sym is) (record {
      whole = talk.whole;
      rest = talk.rest;
      parts = talk.parts;
      ended = talk.ended;
      splits = talk.splits;
      stands = record {
        gone = s.gone ++ p.bytes;
        parts = s.parts ∙ sym (append-nil (s.gone ++ p.bytes));
        unended = All-append (λ b. (b == 10) ≡ false) s.gone p.bytes s.unended waits.unended;
        kept = λ no_cut. absurd (true≢false no_cut);
        long = λ _. long;
      };
      text = talk.text;
      run = talk.run;
      written = talk.written;
    }) in
    elim (cases_Bool p.is_cut) [
      | inl is ↦ gives_up (omega (arith, length-append s.gone p.bytes, s.long is)) (waits.long (inl is))
      | inr is ↦ elim (leb_tells (length p.bytes) 4097) [
        | inl small ↦ subst (λ (q : Pending). IsTalk Is first before held taken q good last) (sym (waits.short is small.1)) talk
        | inr over ↦ gives_up (omega (arith, length-append s.gone p.bytes, over.1)) (waits.long (inr over.1))
      ]
    ]

-- the line that ends first, with what was given up of it
abbrev this_line : {A : Type 0} {Is : Machine A} {first : A} {before held : Option (List ℕ)} {taken : List ℕ} {p next : Pending} {good : Bool} {old : A} {piece : Option (List ℕ)}
    → IsTalk Is first before held taken p good old → Gives p piece next → List ℕ
this_line talk gives = talk.stands.gone ++ gives.line

-- where the bytes were cut
cut_at : {A : Type 0} (Is : Machine A) (first : A) (before held : Option (List ℕ)) (taken : List ℕ) (p next : Pending) (good : Bool) (old : A) (piece : Option (List ℕ))
    (talk : IsTalk Is first before held taken p good old) (gives : Gives p piece next) → taken ≡ (talk.whole ++ (this_line talk gives ++ 10 ∷ [])) ++ next.bytes
cut_at Is first before held taken p next good old piece talk gives =
    let line = this_line talk gives in
    let begun : talk.rest ≡ line ++ 10 ∷ next.bytes =
    talk.stands.parts ∙ ap (λ (bs : List ℕ). talk.stands.gone ++ bs) gives.leaves ∙ sym (append_assoc talk.stands.gone gives.line (10 ∷ next.bytes)) in
    let inner : (line ++ 10 ∷ []) ++ next.bytes ≡ line ++ 10 ∷ next.bytes = append_assoc line (10 ∷ []) next.bytes in
    talk.parts ∙ ap (λ (bs : List ℕ). talk.whole ++ bs) (begun ∙ sym inner) ∙ sym (append_assoc talk.whole (line ++ 10 ∷ []) next.bytes)

this_unended : {A : Type 0} (Is : Machine A) (first : A) (before held : Option (List ℕ)) (taken : List ℕ) (p next : Pending) (good : Bool) (old : A) (piece : Option (List ℕ))
    (talk : IsTalk Is first before held taken p good old) (gives : Gives p piece next) → IsUnended (this_line talk gives)
this_unended Is first before held taken p next good old piece talk gives = All-append (λ b. (b == 10) ≡ false) talk.stands.gone gives.line talk.stands.unended gives.unended

this_given : {A : Type 0} (Is : Machine A) (first : A) (before held : Option (List ℕ)) (taken : List ℕ) (p next : Pending) (good : Bool) (old : A) (piece : Option (List ℕ))
    (talk : IsTalk Is first before held taken p good old) (gives : Gives p piece next) → IsGivenAs piece (strip_carriage_return (this_line talk gives))
this_given Is first before held taken p next good old piece talk gives = ends_as p.is_cut talk.stands.gone gives.line piece talk.stands.kept talk.stands.long gives.given

-- the line that ends first is answered
pub talk_answers : {A : Type 0} (Is : Machine A) (first : A) (before held now : Option (List ℕ)) (taken : List ℕ) (p next : Pending) (good better : Bool) (old new : A) (piece : Option (List ℕ))
    → IsTalk Is first before held taken p good old → Gives p piece next
    → IsAnswered Is old piece new held now better
    → IsTalk Is first before now taken next (good && better) new
talk_answers Is first before held now taken p next good better old new piece talk gives answers =
    let line = this_line talk gives in
    let none = this_unended Is first before held taken p next good old piece talk gives in
    let told = answers (strip_carriage_return line) (this_given Is first before held taken p next good old piece talk gives) in
    let text = told.0 in
    let run : AreAnswered Is first (lines talk.whole ++ strip_carriage_return line ∷ []) (talk.text ++ text) (good && better) new =
    run_more Is (lines talk.whole) first old new (strip_carriage_return line) talk.text text good better talk.run told.1 in
    record {
      whole = talk.whole ++ (line ++ 10 ∷ []);
      rest = next.bytes;
      parts = cut_at Is first before held taken p next good old piece talk gives;
      ended = whole_more talk.whole line;
      splits = more_splits talk.whole line talk.splits none;
      stands = record { gone = []; parts = refl; unended = All-nil (λ b. (b == 10) ≡ false); kept = λ _. refl; long = λ is. absurd (true≢false (sym is ∙ gives.closed)) };
      text = talk.text ++ text;
      run = rw (more_lines talk.whole line talk.splits none) run;
      written = appends_both before held now talk.text text talk.written told.2;
    }

-- the line that ends first is answered in part
pub talk_breaks : {A : Type 0} (Is : Machine A) (first : A) (before held now left : Option (List ℕ)) (taken : List ℕ) (p next : Pending) (good : Bool) (old : A) (piece : Option (List ℕ))
    → IsTalk Is first before held taken p good old → Gives p piece next
    → IsAnsweredInPart Is old piece held now
    → AnswersInPart (texts_of Is first) before now left taken
talk_breaks Is first before held now left taken p next good old piece talk gives answers =
    let line = this_line talk gives in
    let none = this_unended Is first before held taken p next good old piece talk gives in
    let told = answers (strip_carriage_return line) (this_given Is first before held taken p next good old piece talk gives) in
    let text = told.0 in
    let run : AreAnswered Is first (lines talk.whole ++ strip_carriage_return line ∷ []) (talk.text ++ text) (good && told.1) told.2 =
    run_more Is (lines talk.whole) first old told.2 (strip_carriage_return line) talk.text text good told.1 talk.run told.3 in
    record {
      whole = talk.whole ++ (line ++ 10 ∷ []);
      rest = next.bytes;
      parts = cut_at Is first before held taken p next good old piece talk gives;
      ended = inl (whole_more talk.whole line);
      text = talk.text ++ text;
      good = (good && told.1);
      run = (told.2, rw (more_lines talk.whole line talk.splits none) run);
      written = front_then before held now talk.text text talk.written told.4;
    }

-- ---- ends

-- no line ends in what is pending
pub talk_whole : {A : Type 0} (Is : Machine A) (first : A) (before held : Option (List ℕ)) (taken : List ℕ) (p : Pending) (good : Bool) (last : A)
    → IsTalk Is first before held taken p good last → IsUnended p.bytes → AnswersWhole (texts_of Is first) before held taken
talk_whole Is first before held taken p good last talk none =
    let both : IsUnended (talk.stands.gone ++ p.bytes) = All-append (λ b. (b == 10) ≡ false) talk.stands.gone p.bytes talk.stands.unended none in
    record {
      whole = talk.whole;
      begun = talk.rest;
      parts = talk.parts;
      ended = talk.ended;
      unended = subst IsUnended (sym talk.stands.parts) both;
      text = talk.text;
      good = good;
      run = (last, talk.run);
      written = talk.written;
    }

pub talk_first : {A : Type 0} (Is : Machine A) (first : A) (before held : Option (List ℕ)) (taken : List ℕ) (p : Pending) (good : Bool) (last : A)
    → IsTalk Is first before held taken p good last → AnswersFirst (texts_of Is first) before held taken
talk_first Is first before held taken p good last talk = record {
  whole = talk.whole;
  rest = talk.rest;
  parts = talk.parts;
  ended = talk.ended;
  text = talk.text;
  good = good;
  run = (last, talk.run);
  written = talk.written;
}

pub whole_begins : {A : Type 0} (Is : Machine A) (first : A) (before : Option (List ℕ)) → AnswersWhole (texts_of Is first) before before []
whole_begins Is first before = talk_whole Is first before before [] nothing true first (talk_begins Is first before) (All-nil (λ b. (b == 10) ≡ false))

pub first_begins : {A : Type 0} (Is : Machine A) (first : A) (before : Option (List ℕ)) → AnswersFirst (texts_of Is first) before before []
first_begins Is first before = talk_first Is first before before [] nothing true first (talk_begins Is first before)

-- the last line is all that is left
last_lines : {A : Type 0} (Is : Machine A) (first : A) (before held : Option (List ℕ)) (taken : List ℕ) (p : Pending) (good : Bool) (old : A) (talk : IsTalk Is first before held taken p good old)
    → IsUnended p.bytes → (p.is_cut ≡ true) ⊎ (0 < length p.bytes) → lines taken ≡ lines talk.whole ++ (talk.stands.gone ++ p.bytes) ∷ []
last_lines Is first before held taken p good old talk none why =
    let s = talk.stands in
    let len = length-append s.gone p.bytes in
    let some : 0 < length (s.gone ++ p.bytes) = elim why [
      | inl is ↦ omega (arith, len, s.long is)
      | inr more ↦ omega (arith, len, more)
    ] in
    ap lines (talk.parts ∙ ap (λ (bs : List ℕ). talk.whole ++ bs) s.parts) ∙ talk.splits (s.gone ++ p.bytes)
    ∙ ap (λ (ls : List (List ℕ)). lines talk.whole ++ ls) (lines_last (s.gone ++ p.bytes) some (All-append (λ b. (b == 10) ≡ false) s.gone p.bytes s.unended none))

-- the last line is answered
pub talk_ends : {A : Type 0} (Is : Machine A) (first : A) (before held now : Option (List ℕ)) (taken : List ℕ) (p : Pending) (good better : Bool) (old new : A) (piece : Option (List ℕ))
    → IsTalk Is first before held taken p good old → IsUnended p.bytes → (p.is_cut ≡ true) ⊎ (0 < length p.bytes) → piece ≡ cond p.is_cut None (given_as p.bytes)
    → IsAnswered Is old piece new held now better
    → (text : List ℕ) × texts_of Is first taken text (good && better) × Appends before now text
talk_ends Is first before held now taken p good better old new piece talk none why is answers =
    let s = talk.stands in
    let told = answers (s.gone ++ p.bytes) (last_as p.is_cut s.gone p.bytes piece s.kept s.long is) in
    let text = told.0 in
    let run : AreAnswered Is first (lines talk.whole ++ (s.gone ++ p.bytes) ∷ []) (talk.text ++ text) (good && better) new =
    run_more Is (lines talk.whole) first old new (s.gone ++ p.bytes) talk.text text good better talk.run told.1 in
    (talk.text ++ text, (new, rw (last_lines Is first before held taken p good old talk none why) run), appends_both before held now talk.text text talk.written told.2)

-- there is no last line
pub talk_ended : {A : Type 0} (Is : Machine A) (first : A) (before held : Option (List ℕ)) (taken : List ℕ) (p : Pending) (good : Bool) (last : A)
    → IsTalk Is first before held taken p good last → p ≡ nothing → (text : List ℕ) × texts_of Is first taken text good × Appends before held text
talk_ended Is first before held taken p good last talk is =
    let s = talk.stands in
    let gone : s.gone ≡ [] = s.kept (ap (λ (q : Pending). q.is_cut) is) in
    let none : talk.rest ≡ [] = s.parts ∙ ap (λ (bs : List ℕ). bs ++ p.bytes) gone ∙ ap (λ (q : Pending). q.bytes) is in
    let all : taken ≡ talk.whole = talk.parts ∙ ap (λ (bs : List ℕ). talk.whole ++ bs) none ∙ append-nil talk.whole in
    (talk.text, (last, rw all talk.run), talk.written)

-- the last line is answered in part
pub talk_breaks_last : {A : Type 0} (Is : Machine A) (first : A) (before held now left : Option (List ℕ)) (taken : List ℕ) (p : Pending) (good : Bool) (old : A) (piece : Option (List ℕ))
    → IsTalk Is first before held taken p good old → IsUnended p.bytes → (p.is_cut ≡ true) ⊎ (0 < length p.bytes) → piece ≡ cond p.is_cut None (given_as p.bytes)
    → IsAnsweredInPart Is old piece held now
    → IsAtEnd left → AnswersInPart (texts_of Is first) before now left taken
talk_breaks_last Is first before held now left taken p good old piece talk none why is answers end =
    let s = talk.stands in
    let told = answers (s.gone ++ p.bytes) (last_as p.is_cut s.gone p.bytes piece s.kept s.long is) in
    let text = told.0 in
    let run : AreAnswered Is first (lines talk.whole ++ (s.gone ++ p.bytes) ∷ []) (talk.text ++ text) (good && told.1) told.2 =
    run_more Is (lines talk.whole) first old told.2 (s.gone ++ p.bytes) talk.text text good told.1 talk.run told.3 in
    record {
      whole = taken;
      rest = [];
      parts = sym (append-nil taken);
      ended = inr (refl, end);
      text = talk.text ++ text;
      good = (good && told.1);
      run = (told.2, rw (last_lines Is first before held taken p good old talk none why) run);
      written = front_then before held now talk.text text talk.written told.4;
    }

-- the byte past the limit
pub one_byte : (left rest : Option (List ℕ)) (bytes : List ℕ) → length bytes ≡ 1 → Consumes left rest bytes → (byte : ℕ) × Consumes left rest (byte ∷ [])
one_byte left rest [] is taken = absurd (omega (arith, is))
one_byte left rest (b ∷ []) is taken = (b, taken)
one_byte left rest (b ∷ c ∷ more) is taken = absurd (omega (arith, is))
