-- Words ask for one mode at most.
use Rattle.std.proofs.Common.{◌≡◌, ◌∙◌, ℕ, refl, sym, ap₂, subst, List, [], ◌∷◌, Some, codes, slice_index, arith}
use Rattle.std.specs.Prelude.{unwrap_or}
use Rattle.clap.specs.Words.{Text, all_of, matches_of}
use Rattle.program_words.specs.declared.mode.Mode.{Mode}
use Rattle.program_words.specs.declared.mode.Mode.TheVariants.{Run, Check, Host, Make}
use Rattle.program_words.specs.Words.{AskFor, Says, program}

first_run : (t : Text) → t ≡ codes "run" → slice_index t 0 ≡ 114
first_run t e = rw e refl

first_check : (t : Text) → t ≡ codes "check" → slice_index t 0 ≡ 99
first_check t e = rw e refl

first_host : (t : Text) → t ≡ codes "host" → slice_index t 0 ≡ 104
first_host t e = rw e refl

first_make : (t : Text) → t ≡ codes "make" → slice_index t 0 ≡ 109
first_make t e = rw e refl

same_first : (a b s t : Text) (ns : List Text) → ns ≡ a ∷ b ∷ [] → ns ≡ s ∷ t ∷ [] → a ≡ s
same_first a b s t ns is other = let same : a ∷ b ∷ [] ≡ s ∷ t ∷ [] = sym is ∙ other in cc

same_second : (a b s t : Text) (ns : List Text) → ns ≡ a ∷ b ∷ [] → ns ≡ s ∷ t ∷ [] → b ≡ t
same_second a b s t ns is other = let same : a ∷ b ∷ [] ≡ s ∷ t ∷ [] = sym is ∙ other in cc

says_one : (name : Text) (ns : List Text) (m n : Mode) → Says name ns m → Says name ns n → m ≡ n
says_one name ns Run Run a b = refl
says_one name ns Run Check a b = absurd (omega (arith, first_run name a.0, first_check name b.0))
says_one name ns Run Host a b = absurd (omega (arith, first_run name a.0, first_host name b.0))
says_one name ns Run (Make x y) a b = absurd (omega (arith, first_run name a.0, first_make name b.0))
says_one name ns Check Run a b = absurd (omega (arith, first_check name a.0, first_run name b.0))
says_one name ns Check Check a b = refl
says_one name ns Check Host a b = absurd (omega (arith, first_check name a.0, first_host name b.0))
says_one name ns Check (Make x y) a b = absurd (omega (arith, first_check name a.0, first_make name b.0))
says_one name ns Host Run a b = absurd (omega (arith, first_host name a.0, first_run name b.0))
says_one name ns Host Check a b = absurd (omega (arith, first_host name a.0, first_check name b.0))
says_one name ns Host Host a b = refl
says_one name ns Host (Make x y) a b = absurd (omega (arith, first_host name a.0, first_make name b.0))
says_one name ns (Make x y) Run a b = absurd (omega (arith, first_make name a.0, first_run name b.0))
says_one name ns (Make x y) Check a b = absurd (omega (arith, first_make name a.0, first_check name b.0))
says_one name ns (Make x y) Host a b = absurd (omega (arith, first_make name a.0, first_host name b.0))
says_one name ns (Make x y) (Make z w) (a, s, v, are, seed, views) (b, t, u, others, other_seed, other_views) =
    let seeds : s ≡ t = same_first s v t u ns are others in
    let counts : v ≡ u = same_second s v t u ns are others in
    let x_is : x ≡ z = seed.value ∙ (rw seeds refl ∙ sym other_seed.value) in
    let y_is : y ≡ w = views.0.value ∙ (rw counts refl ∙ sym other_views.0.value) in
    ap₂ (λ (k l : ℕ). Make k l) x_is y_is

-- the same for another name of the same text
says_same : (name other : Text) (ns : List Text) (m n : Mode) → Some name ≡ Some other → Says name ns m → Says other ns n → m ≡ n
says_same name other ns m n same a b =
    let name_same : name ≡ other = cc in
    says_one other ns m n (subst (λ (t : Text). Says t ns m) name_same a) b

pub asks-one : (words : List Text) (m n : Mode) → AskFor words m → AskFor words n → m ≡ n
asks-one words m n (taken, (name, found, says)) (again, (other, found_too, says_too)) =
    says_same name other (unwrap_or (all_of (codes "NUMBER") (matches_of program (codes "layout" ∷ words))) []) m n (sym found ∙ found_too) says says_too
