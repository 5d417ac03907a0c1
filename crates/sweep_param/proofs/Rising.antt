-- Stretches by rising constant.
use Rattle.std.proofs.Common.{◌≡◌, ◌∙◌, false, List, [], ◌∷◌, ◌++◌, length, refl, sym, ap, arith, append-nil, append_assoc}
use Rattle.std.specs.List.{AllByRecursion as Each}
use Rattle.std.proofs.lemmas.List.{length-append, map-append}
use Rattle.frac_core.proofs.Lists.{each-joined}
use Rattle.sweep_laws.specs.Stretches.{Stretch}
use Rattle.sweep_run.specs.Slides.{rising}
use Rattle.sweep_run.specs.Told.{stretch_of, stretches_of}
use Rattle.sweep_run.specs.declared.stretches.Stretch as declared

pub rising-append : (xs ys : List Stretch) → rising false (xs ++ ys) ≡ rising false ys ++ rising false xs
rising-append [] ys = sym (append-nil (rising false ys))
rising-append (x ∷ xs) ys = ap (λ (zs : List Stretch). zs ++ (x ∷ [])) (rising-append xs ys) ∙ append_assoc (rising false ys) (rising false xs) (x ∷ [])

pub rising-each : (P : Stretch → Type 0) (xs : List Stretch) → Each P xs → Each P (rising false xs)
rising-each P [] h = tt
rising-each P (x ∷ xs) h = each-joined P (rising false xs) (x ∷ []) (rising-each P xs h.1) (h.0, tt)

pub rising-length : (xs : List Stretch) → length (rising false xs) ≡ length xs
rising-length [] = refl
rising-length (x ∷ xs) = let e = rising-length xs in let f = length-append (rising false xs) (x ∷ []) in omega (arith, e, f)

-- the last stretch of the one list becomes the next of the other
pub popped : (out items rest : List declared.Stretch) (s : declared.Stretch) → items ≡ rest ++ (s ∷ []) → stretches_of (out ++ (s ∷ [])) ++ rising false (stretches_of rest) ≡ stretches_of out ++ rising false (stretches_of items)
popped out items rest s e =
    let last : stretches_of (out ++ (s ∷ [])) ≡ stretches_of out ++ (stretch_of s ∷ []) = map-append stretch_of out (s ∷ []) in
    let whole : stretches_of items ≡ stretches_of rest ++ (stretch_of s ∷ []) = ap stretches_of e ∙ map-append stretch_of rest (s ∷ []) in
    ap (λ (xs : List Stretch). xs ++ rising false (stretches_of rest)) last
    ∙ (append_assoc (stretches_of out) (stretch_of s ∷ []) (rising false (stretches_of rest))
    ∙ ap (λ (xs : List Stretch). stretches_of out ++ xs) (sym (ap (rising false) whole ∙ rising-append (stretches_of rest) (stretch_of s ∷ []))))
