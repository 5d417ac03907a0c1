-- What `clap` finds of the words.
use Rattle.std.proofs.Common.{◌≡◌, ◌∙◌, true, refl, sym, ap, subst, List, ◌∷◌, Option, Some, None, codes, IfSome, IfNone, inl, inr}
use Rattle.std.specs.Prelude.{unwrap_or, option_map, []}
use Rattle.clap.specs.Words.{App, Row, Text, HasKind, HasMatchesOf, Kinds, all_of, first_of, fault_of, first_value, found_of, is_simple, is_simple_and_free, kind_of, matched_of, matches_of, raw_values, rows_of}
use Rattle.clap.specs.declared.parser.matches.ArgMatches.{ArgMatches}
use Rattle.clap.specs.declared.parser.matches.Found.{Found}
use Rattle.clap.specs.declared.error.Error.{Error}
use Rattle.clap.specs.declared.error.kind.ErrorKind.TheVariants.{OutOfMemory}
use Rattle.clap.proofs.WalkLemmas.{first_value-rows, raw_values-rows}
use Rattle.program_words.specs.declared.mode.Mode.{Mode}
use Rattle.program_words.specs.Words.{AskFor, IsFound, Says, program}

simple : is_simple program ≡ true
simple = refl

free : is_simple_and_free program ≡ true
free = refl

-- ---- MODE and the NUMBERs

-- the first value of MODE, as the rows have it
pub name_of : (f : Found) (name : Text) → Some name ≡ first_value f (codes "MODE") → first_of (codes "MODE") (rows_of f) ≡ Some name
name_of f name is = sym (first_value-rows f (codes "MODE")) ∙ sym is

pub no_name : (f : Found) → None ≡ first_value f (codes "MODE") → (mode : Mode) → IsFound (rows_of f) mode → ⊥
no_name f is mode (name, name_is, says) =
    let other : None ≡ Some name = is ∙ (first_value-rows f (codes "MODE") ∙ name_is) in
    absurd (cc)

-- the values of NUMBER, as the rows have them
pub numbers_of : (f : Found) (o : Option (List Text)) → o ≡ option_map raw_values (matched_of f (codes "NUMBER")) → unwrap_or o [] ≡ unwrap_or (all_of (codes "NUMBER") (rows_of f)) []
numbers_of f o is = ap (λ (x : Option (List Text)). unwrap_or x []) (is ∙ raw_values-rows f (codes "NUMBER"))

pub said : (rows : List Row) (o : Option Mode) (name : Text) (numbers : List Text) → first_of (codes "MODE") rows ≡ Some name
    → numbers ≡ unwrap_or (all_of (codes "NUMBER") rows) [] → IfSome o (Says name numbers) → IfSome o (IsFound rows)
said rows None name numbers name_is numbers_are says = says
said rows (Some mode) name numbers name_is numbers_are says = (name, name_is, subst (λ (ns : List Text). Says name ns mode) numbers_are says)

pub none_said : (rows : List Row) (o : Option Mode) (name : Text) (numbers : List Text) → first_of (codes "MODE") rows ≡ Some name
    → numbers ≡ unwrap_or (all_of (codes "NUMBER") rows) [] → IfNone o ((mode : Mode) → Says name numbers mode → ⊥) → IfNone o ((mode : Mode) → IsFound rows mode → ⊥)
none_said rows (Some mode) name numbers name_is numbers_are none = none
none_said rows None name numbers name_is numbers_are none = λ mode found.
    let same : Some found.0 ≡ Some name = sym found.1 ∙ name_is in
    let name_same : found.0 ≡ name = cc in
    none mode (subst (λ (n : Text). Says n numbers mode) name_same (subst (λ (ns : List Text). Says found.0 ns mode) (sym numbers_are) found.2))

-- ---- the parse

-- what the parse found is what the words ask for
found_rows : (app : App) (words all : List Text) (m : ArgMatches) → app ≡ program → words ≡ codes "layout" ∷ all → HasMatchesOf app words m → rows_of (found_of m) ≡ matches_of program (codes "layout" ∷ all)
found_rows app words all m is words_are has =
    (subst (λ (a : App). HasMatchesOf a words m) is has simple).0 ∙ ap (λ (ws : List Text). matches_of program ws) words_are

pub asked : (app : App) (words all : List Text) (m : ArgMatches) (o : Option Mode) → app ≡ program → words ≡ codes "layout" ∷ all → HasMatchesOf app words m
    → (is_simple_and_free app ≡ true → fault_of app words ≡ []) → IfSome o (IsFound (rows_of (found_of m))) → IfSome o (AskFor all)
asked app words all m None is words_are has taken says = says
asked app words all m (Some mode) is words_are has taken says = (
  subst (λ (ws : List Text). fault_of program ws ≡ []) words_are (subst (λ (a : App). is_simple_and_free a ≡ true → fault_of a words ≡ []) is taken free),
  subst (λ (rows : List Row). IsFound rows mode) (found_rows app words all m is words_are has) says,
)

pub unasked : (app : App) (words all : List Text) (m : ArgMatches) (o : Option Mode) → app ≡ program → words ≡ codes "layout" ∷ all → HasMatchesOf app words m
    → IfNone o ((mode : Mode) → IsFound (rows_of (found_of m)) mode → ⊥) → IfNone o ((mode : Mode) → AskFor all mode → ⊥)
unasked app words all m (Some mode) is words_are has none = none
unasked app words all m None is words_are has none = λ mode asks.
    none mode (subst (λ (rows : List Row). IsFound rows mode) (sym (found_rows app words all m is words_are has)) asks.1)

-- what is refused for another reason than want of memory asks for nothing
pub refused : (app : App) (words all : List Text) (e : Error) → app ≡ program → words ≡ codes "layout" ∷ all → (is_simple_and_free app ≡ true → HasKind (fault_of app words) e)
    → (kind_of e ≡ OutOfMemory → ⊥) → (mode : Mode) → AskFor all mode → ⊥
refused app words all e is words_are fails other mode asks =
    let has : HasKind (fault_of program words) e = subst (λ (a : App). is_simple_and_free a ≡ true → HasKind (fault_of a words) e) is fails free in
    let none : fault_of program words ≡ [] = ap (λ (ws : List Text). fault_of program ws) words_are ∙ asks.0 in
    let no_other : HasKind [] e = subst (λ (ks : Kinds). HasKind ks e) none has in
    elim no_other [
      | inl memory ↦ other memory
      | inr among ↦ absurd among
    ]
