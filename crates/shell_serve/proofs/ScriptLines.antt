-- The namespaces that a script opens, call by call and session by session.
use Rattle.std.proofs.Common.{◌≡◌, ℕ, ◌+◌, ◌<◌, List, [], ◌∷◌, ◌++◌, length, take, get_or, Option, Some, None, sym, ap, ◌∙◌, append_assoc, append-nil}
use Rattle.std.specs.Prelude.{filter_map, flat_map}
use Rattle.std.specs.List.{cons_option}
use Rattle.std.proofs.lemmas.List.{take_more}
use Rattle.std.proofs.lemmas.List.Concat.{flat_map-append}
use Rattle.std.proofs.lemmas.List.Elements.{filter_map-append}
use Rattle.session_script.specs.declared.script.Line.{Line}
use Rattle.session_script.specs.declared.script.SessionLines.{SessionLines}
use Rattle.shell_serve.specs.Scripts.{opens}

more : (lines : List Line) (k : ℕ) (line : Line) (found : Option (List ℕ)) → k < length lines → line ≡ get_or lines k line → found ≡ opens line
    → filter_map opens (take (k + 1) lines) ≡ filter_map opens (take k lines) ++ cons_option found []
more lines k line found lt is opened =
    ap (filter_map opens) (take_more lines k line lt) ∙ filter_map-append opens (take k lines) (get_or lines k line ∷ [])
    ∙ ap (λ (o : Option (List ℕ)). filter_map opens (take k lines) ++ cons_option o []) (sym (opened ∙ ap opens is))

-- one more call, which opens a namespace
pub one_opens : (lines : List Line) (k : ℕ) (line : Line) (found : Option (List ℕ)) (uuid : List ℕ) (first old new : List (List ℕ)) → k < length lines → line ≡ get_or lines k line → found ≡ opens line
    → found ≡ Some uuid → new ≡ old ++ uuid ∷ [] → old ≡ first ++ filter_map opens (take k lines) → new ≡ first ++ filter_map opens (take (k + 1) lines)
one_opens lines k line found uuid first old new lt is opened some pushed before =
    pushed ∙ ap (λ (us : List (List ℕ)). us ++ uuid ∷ []) before ∙ append_assoc first (filter_map opens (take k lines)) (uuid ∷ [])
    ∙ ap (λ (o : Option (List ℕ)). first ++ (filter_map opens (take k lines) ++ cons_option o [])) (sym some) ∙ ap (λ (us : List (List ℕ)). first ++ us) (sym (more lines k line found lt is opened))

-- one that opens none
pub one_passes : (lines : List Line) (k : ℕ) (line : Line) (found : Option (List ℕ)) (first old : List (List ℕ)) → k < length lines → line ≡ get_or lines k line → found ≡ opens line → found ≡ None
    → old ≡ first ++ filter_map opens (take k lines) → old ≡ first ++ filter_map opens (take (k + 1) lines)
one_passes lines k line found first old lt is opened none before =
    before
    ∙ ap (λ (us : List (List ℕ)). first ++ us)
    (sym (more lines k line found lt is opened ∙ ap (λ (o : Option (List ℕ)). filter_map opens (take k lines) ++ cons_option o []) none ∙ append-nil (filter_map opens (take k lines))))

-- one more session
pub one_session : (sessions : List SessionLines) (k : ℕ) (session : SessionLines) (old new : List (List ℕ)) → k < length sessions → session ≡ get_or sessions k session
    → new ≡ old ++ filter_map opens session.calls → old ≡ flat_map (λ (s : SessionLines). filter_map opens s.calls) (take k sessions)
    → new ≡ flat_map (λ (s : SessionLines). filter_map opens s.calls) (take (k + 1) sessions)
one_session sessions k session old new lt is added before =
    added ∙ ap (λ (us : List (List ℕ)). us ++ filter_map opens session.calls) before
    ∙ ap (λ (us : List (List ℕ)). flat_map (λ (s : SessionLines). filter_map opens s.calls) (take k sessions) ++ us) (sym (append-nil (filter_map opens session.calls)))
    ∙ ap (λ (s : SessionLines). flat_map (λ (s : SessionLines). filter_map opens s.calls) (take k sessions) ++ flat_map (λ (s : SessionLines). filter_map opens s.calls) (s ∷ [])) is
    ∙ sym (flat_map-append (λ (s : SessionLines). filter_map opens s.calls) (take k sessions) (get_or sessions k session ∷ []))
    ∙ ap (flat_map (λ (s : SessionLines). filter_map opens s.calls)) (sym (take_more sessions k session lt))
