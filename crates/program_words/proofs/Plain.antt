-- Words that are no flags: what `clap` makes of them, word by word.
use Rattle.std.proofs.Common.{◌≡◌, ◌∙◌, ℕ, false, refl, sym, ap, ap₂, subst, List, [], ◌∷◌, ◌++◌, Some, None, codes, append_assoc}
use Rattle.std.specs.Prelude.{unwrap_or, is_some, fold}
use Rattle.std.specs.Str.{bytes_eq}
use Rattle.clap.specs.Lexer.{long_of, short_of}
use Rattle.clap.specs.Kinds.{Kinds, or_else}
use Rattle.clap.specs.Walk.{Held, Row, Rule, Step, Text, Walk, after_step, all_of, first_of, finished, idle, positional, value, nothing_held, settled, walk, walk_from, walked, word_met}
use Rattle.clap.specs.Simple.{App, Shape, built, entered, matches_of}
use Rattle.clap.specs.Faults.{check_fault, defaults_fault, entered_fault, fault_of, settle_fault, step_fault, turn_fault, walk_fault, word_fault}
use Rattle.clap.specs.declared.parser.matches.ValueSource.TheVariants.{CommandLine}
use Rattle.clap.specs.declared.builder.value_parser.Reading.TheVariants.{AsWritten}
use Rattle.clap.proofs.OnLiterals.{clap_on_literals}
use Rattle.program_words.specs.declared.mode.Mode.{Mode}
use Rattle.program_words.specs.Words.{IsPlain, ArePlain, AskFor, Says, program}

-- the word is neither `--` nor a flag of either kind
record IsNoFlag (word : Text) : Type 0 where
  pub no_end : bytes_eq word (45 ∷ 45 ∷ []) ≡ false
  pub no_long : long_of word ≡ None
  pub no_short : short_of word ≡ None

no_flag : (word : Text) → IsPlain word → IsNoFlag word
no_flag [] plain = record { no_end = refl; no_long = refl; no_short = refl }
no_flag (d ∷ ds) plain = record {
  no_end = rw plain refl;
  no_long = rw plain refl;
  no_short = rw plain refl;
}

-- ---- the walk stands behind a word

abbrev app : App
app = built program

abbrev shape : Shape
shape = app.top

abbrev rules : List Rule
rules = shape.rules

abbrev begun : Walk
begun = walk_from nothing_held

abbrev mode_row : Text → Row
mode_row name = record { id = codes "MODE"; values = name ∷ []; count = None; source = Some CommandLine; reading = AsWritten }

abbrev number_rows : List Text → List Row
number_rows [] = []
number_rows (n ∷ ns) = record { id = codes "NUMBER"; values = n ∷ ns; count = None; source = Some CommandLine; reading = AsWritten } ∷ []

-- behind the name
abbrev named : Text → Walk
named name = record {
  held = record { rows = []; pending = Some (codes "MODE", name ∷ []); skip = 0 };
  waiting = idle;
  position = 2;
  is_trailing = false;
  stopped = None;
}

-- behind the name, some numbers and a last one
abbrev numbered : Text → List Text → Text → Walk
numbered name front last = record {
  held = record { rows = mode_row name ∷ number_rows front; pending = Some (codes "NUMBER", last ∷ []); skip = 0 };
  waiting = positional;
  position = 2;
  is_trailing = false;
  stopped = None;
}

-- ---- one word more

met_idle : (position : ℕ) (word : Text) (h : Held) → IsNoFlag word → word_met rules [] false idle position word h ≡ (h, value)
met_idle position word h p = rw (p.no_end, p.no_long, p.no_short) refl

met_positional : (position : ℕ) (word : Text) (h : Held) → IsNoFlag word → word_met rules [] false positional position word h ≡ (h, value)
met_positional position word h p = rw (p.no_end, p.no_long, p.no_short) refl

to_name : (name : Text) → IsPlain name → walked rules [] begun name ≡ named name
unfolding walked
to_name name p = ap (λ (m : Held × Step). after_step rules name begun m.0 m.1) (met_idle 1 name nothing_held (no_flag name p))

to_first : (name n : Text) → IsPlain n → walked rules [] (named name) n ≡ numbered name [] n
unfolding walked
to_first name n p = ap (λ (m : Held × Step). after_step rules n (named name) m.0 m.1) (met_idle 2 n (named name).held (no_flag n p))

to_next : (name : Text) (front : List Text) (last n : Text) → IsPlain n → walked rules [] (numbered name front last) n ≡ numbered name (front ++ last ∷ []) n
unfolding walked
to_next name [] last n p = ap (λ (m : Held × Step). after_step rules n (numbered name [] last) m.0 m.1) (met_positional 2 n (numbered name [] last).held (no_flag n p))
to_next name (x ∷ xs) last n p = ap (λ (m : Held × Step). after_step rules n (numbered name (x ∷ xs) last) m.0 m.1) (met_positional 2 n (numbered name (x ∷ xs) last).held (no_flag n p))

-- ---- no word is refused

idle_fault : (position : ℕ) (word : Text) (h : Held) → IsNoFlag word
    → or_else (word_fault shape [] false idle word h) (step_fault shape position (word_met rules [] false idle position word h).0 (word_met rules [] false idle position word h).1) ≡ step_fault shape position h value
idle_fault position word h p = rw (p.no_end, p.no_long, p.no_short) refl

positional_fault : (position : ℕ) (word : Text) (h : Held) → IsNoFlag word
    → or_else (word_fault shape [] false positional word h) (step_fault shape position (word_met rules [] false positional position word h).0 (word_met rules [] false positional position word h).1) ≡ step_fault shape position h value
positional_fault position word h p = rw (p.no_end, p.no_long, p.no_short) refl

name_taken : (name : Text) → IsPlain name → turn_fault shape [] begun name ≡ []
name_taken name p = idle_fault 1 name nothing_held (no_flag name p)

first_taken : (name n : Text) → IsPlain n → turn_fault shape [] (named name) n ≡ []
first_taken name n p = idle_fault 2 n (named name).held (no_flag n p)

next_taken : (name : Text) (front : List Text) (last n : Text) → IsPlain n → turn_fault shape [] (numbered name front last) n ≡ []
next_taken name front last n p = positional_fault 2 n (numbered name front last).held (no_flag n p)

-- ---- all numbers

numbers_taken : (name : Text) (front : List Text) (last : Text) (ns : List Text) → ArePlain ns → walk_fault shape [] (numbered name front last) ns ≡ []
unfolding walk_fault
numbers_taken name front last [] p = refl
numbers_taken name front last (n ∷ ns) p =
    ap₂ or_else (next_taken name front last n p.0)
    (ap (λ (w : Walk). walk_fault shape [] w ns) (to_next name front last n p.0) ∙ numbers_taken name (front ++ last ∷ []) n ns p.1)

record Ends (name : Text) (w : Walk) (numbers : List Text) : Type 0 where
  pub front : List Text
  pub last : Text
  pub stands : w ≡ numbered name front last
  pub all : front ++ last ∷ [] ≡ numbers

to_end : (name : Text) (front : List Text) (last : Text) (ns : List Text) → ArePlain ns → Ends name (fold (walked rules []) (numbered name front last) ns) (front ++ last ∷ ns)
to_end name front last [] p = record { front = front; last = last; stands = refl; all = refl }
to_end name front last (n ∷ ns) p =
    let rest : Ends name (fold (walked rules []) (numbered name (front ++ last ∷ []) n) ns) ((front ++ last ∷ []) ++ n ∷ ns) = to_end name (front ++ last ∷ []) n ns p.1 in
    record {
      front = rest.front;
      last = rest.last;
      stands = ap (λ (w : Walk). fold (walked rules []) w ns) (to_next name front last n p.0) ∙ rest.stands;
      all = rest.all ∙ append_assoc front (last ∷ []) (n ∷ ns);
    }

-- ---- the end

abbrev closing : Walk → Kinds
closing w = or_else (entered_fault app w.stopped) (or_else (settle_fault rules shape.args_override_self w.held)
    (or_else (defaults_fault (settled rules w.held).rows rules) (check_fault shape (finished rules w.held) (is_some (entered app w.stopped)))))

abbrev found : Walk → List Row
found w = finished rules w.held

none_closes : (name : Text) → closing (named name) ≡ []
unfolding clap_on_literals
none_closes name = refl

some_closes : (name : Text) (front : List Text) (last : Text) → closing (numbered name front last) ≡ []
unfolding clap_on_literals
some_closes name [] last = refl
some_closes name (x ∷ xs) last = refl

name_found : (name : Text) (front : List Text) (last : Text) → first_of (codes "MODE") (found (numbered name front last)) ≡ Some name
name_found name [] last = refl
name_found name (x ∷ xs) last = refl

numbers_found : (name : Text) (front : List Text) (last : Text) → unwrap_or (all_of (codes "NUMBER") (found (numbered name front last))) [] ≡ front ++ last ∷ []
numbers_found name [] last = refl
numbers_found name (x ∷ xs) last = refl

-- ---- all words

pub record AreFound (name : Text) (numbers : List Text) : Type 0 where
  pub taken : fault_of program (codes "layout" ∷ name ∷ numbers) ≡ []
  pub mode : first_of (codes "MODE") (matches_of program (codes "layout" ∷ name ∷ numbers)) ≡ Some name
  pub all : unwrap_or (all_of (codes "NUMBER") (matches_of program (codes "layout" ∷ name ∷ numbers))) [] ≡ numbers

walk_to : (name n : Text) (ns : List Text) → IsPlain name → IsPlain n → walk rules [] nothing_held (name ∷ n ∷ ns) ≡ fold (walked rules []) (numbered name [] n) ns
walk_to name n ns p q =
    ap (λ (w : Walk). fold (walked rules []) (walked rules [] w n) ns) (to_name name p)
    ∙ ap (λ (w : Walk). fold (walked rules []) w ns) (to_first name n q)

-- behind the program's name, a word and any numbers that are no flags are taken, and found as they are
pub are_found : (name : Text) (numbers : List Text) → IsPlain name → ArePlain numbers → AreFound name numbers
unfolding walk_fault
are_found name [] p q = record {
  taken = ap₂ or_else (ap₂ or_else (name_taken name p) refl) (ap closing (to_name name p) ∙ none_closes name);
  mode = ap (λ (w : Walk). first_of (codes "MODE") (found w)) (to_name name p);
  all = ap (λ (w : Walk). unwrap_or (all_of (codes "NUMBER") (found w)) []) (to_name name p);
}
are_found name (n ∷ ns) p q =
    let end : Ends name (fold (walked rules []) (numbered name [] n) ns) (n ∷ ns) = to_end name [] n ns q.1 in
    let stands : walk rules [] nothing_held (name ∷ n ∷ ns) ≡ numbered name end.front end.last = walk_to name n ns p q.0 ∙ end.stands in
    let after_name : walk_fault shape [] (named name) (n ∷ ns) ≡ [] =
    ap₂ or_else (first_taken name n q.0) (ap (λ (w : Walk). walk_fault shape [] w ns) (to_first name n q.0) ∙ numbers_taken name [] n ns q.1) in
    let all_taken : walk_fault shape [] begun (name ∷ n ∷ ns) ≡ [] =
    ap₂ or_else (name_taken name p) (ap (λ (w : Walk). walk_fault shape [] w (n ∷ ns)) (to_name name p) ∙ after_name) in
    record {
      taken = ap₂ or_else all_taken (ap closing stands ∙ some_closes name end.front end.last);
      mode = ap (λ (w : Walk). first_of (codes "MODE") (found w)) stands ∙ name_found name end.front end.last;
      all = ap (λ (w : Walk). unwrap_or (all_of (codes "NUMBER") (found w)) []) stands ∙ (numbers_found name end.front end.last ∙ end.all);
    }

-- ---- what plain words ask for

pub plain-says : (name : Text) (numbers : List Text) (mode : Mode) → IsPlain name → ArePlain numbers → Says name numbers mode → AskFor (name ∷ numbers) mode
plain-says name numbers mode p q says =
    let are = are_found name numbers p q in
    (are.taken, (name, are.mode, subst (λ (ns : List Text). Says name ns mode) (sym are.all) says))

pub plain-asks : (name : Text) (numbers : List Text) (mode : Mode) → IsPlain name → ArePlain numbers → AskFor (name ∷ numbers) mode → Says name numbers mode
plain-asks name numbers mode p q (taken, (other, found, says)) =
    let are = are_found name numbers p q in
    let same : Some other ≡ Some name = sym found ∙ are.mode in
    let name_same : other ≡ name = cc in
    subst (λ (n : Text). Says n numbers mode) name_same (subst (λ (ns : List Text). Says other ns mode) are.all says)

pub no-words : (mode : Mode) → AskFor [] mode → ⊥
no-words mode (taken, (name, found, says)) = absurd (none_is name found)
  where
    none_is : (n : Text) → None ≡ Some n → ⊥
    none_is n e = absurd (cc)

pub help-asks : (mode : Mode) → AskFor (codes "--help" ∷ []) mode → ⊥
unfolding clap_on_literals
help-asks mode (taken, found) = absurd (cc)
