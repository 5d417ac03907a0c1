use Rattle.std.proofs.Common.{◌≡◌, ◌⊎◌, ◌<◌, ◌∷◌, [], true, cond, Err, None, length, subst, ap}
use Rattle.std.specs.Prelude.{IfSome, IfNone, Option}
use Rattle.std.proofs.lemmas.Result.{err_from_is_err_and}
use Rattle.edge_io.specs.Feed.{nothing, given_as, to_come}
use Rattle.edge_io.specs.Feeding.{shown}
use Rattle.edge_io.specs.declared.feed.Piece.{Piece}
use Rattle.edge_io.specs.declared.traits.Failed.{Failed}
use Rattle.frac_core.specs.declared.memory.Stop.{Stop}
use Rattle.line_by_line.proofs.Stops.{passed_on}
use Rattle.line_by_line.proofs.Talks.{talk_ended, talk_ends, talk_first, talk_breaks_last}
use Rattle.line_by_line.proofs.talk.answer_last.Goals as goal

pub returns-in_ok-good-in-Some-clause-whole : goal.returns-in_ok-good-in-Some-clause-whole
returns-in_ok-good-in-Some-clause-whole g c =
    let p = c.args.feed.now in
    let last : ((p.is_cut ≡ true) ⊎ (0 < length p.bytes)) × (shown c.in-Some.piece ≡ cond p.is_cut None (given_as p.bytes)) × (to_come p [] ≡ shown c.in-Some.piece ∷ []) =
    subst (λ (r : Option Piece). IfSome r (λ piece. ((p.is_cut ≡ true) ⊎ (0 < length p.bytes)) × (shown piece ≡ cond p.is_cut None (given_as p.bytes)) × (to_come p [] ≡ shown piece ∷ []))) c.in-Some.is c.end.follows.holds-at-none.some in
    λ first before taken talk. talk_ends _ first before _ _ taken p _ _ _ _ _ talk c.requires.unended last.0 last.1 c.in_ok-good-in-Some.ensures.told

pub returns-in_err-good-in-Some-clause-front : goal.returns-in_err-good-in-Some-clause-front
returns-in_err-good-in-Some-clause-front g c =
    let p = c.args.feed.now in
    let last : ((p.is_cut ≡ true) ⊎ (0 < length p.bytes)) × (shown c.in-Some.piece ≡ cond p.is_cut None (given_as p.bytes)) × (to_come p [] ≡ shown c.in-Some.piece ∷ []) =
    subst (λ (r : Option Piece). IfSome r (λ piece. ((p.is_cut ≡ true) ⊎ (0 < length p.bytes)) × (shown piece ≡ cond p.is_cut None (given_as p.bytes)) × (to_come p [] ≡ shown piece ∷ []))) c.in-Some.is c.end.follows.holds-at-none.some in
    let exit = err_from_is_err_and c.from_residual.result c.from_residual.ensures.1 in
    λ is first left end before taken talk. talk_breaks_last _ first before _ _ left taken p _ _ _ talk c.requires.unended last.0 last.1
    (c.in_err-good-in-Some.ensures.front (ap (λ (e : Stop Failed). Err e) (passed_on _ _ exit.0 _ exit.1 exit.2 is))) end

pub returns-in_err-good-in-Some-clause-first : goal.returns-in_err-good-in-Some-clause-first
returns-in_err-good-in-Some-clause-first g c =
    let exit = err_from_is_err_and c.from_residual.result c.from_residual.ensures.1 in
    λ is first before taken talk. rw (c.in_err-good-in-Some.ensures.cause.unwritten (ap (λ (e : Stop Failed). Err e) (passed_on _ _ exit.0 _ exit.1 exit.2 is)))
    (talk_first _ first before _ taken _ _ _ talk)

pub returns-in_err-good-in-Some-clause-unfailed_first : goal.returns-in_err-good-in-Some-clause-unfailed_first
returns-in_err-good-in-Some-clause-unfailed_first g c =
    let exit = err_from_is_err_and c.from_residual.result c.from_residual.ensures.1 in
    λ is. ap g.K.Sink.faults (c.in_err-good-in-Some.ensures.cause.unwritten (ap (λ (e : Stop Failed). Err e) (passed_on _ _ exit.0 _ exit.1 exit.2 is)))

pub returns-in-None-clause-whole : goal.returns-in-None-clause-whole
returns-in-None-clause-whole g c =
    let none : c.args.feed.now ≡ nothing =
    (subst (λ (r : Option Piece). IfNone r ((c.args.feed.now ≡ nothing) × (to_come c.args.feed.now [] ≡ []))) c.in-None.is c.end.follows.holds-at-none.none).0 in
    λ first before taken talk. talk_ended _ first before _ taken _ _ _ talk none
