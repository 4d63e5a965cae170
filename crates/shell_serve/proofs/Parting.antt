-- One more namespace is parted.
use Rattle.std.proofs.Common.{◌≡◌, List, [], ◌∷◌, ◌++◌, map, sym, ap, ◌∙◌}
use Rattle.std.proofs.lemmas.List.{map-append}
use Rattle.arena_open.specs.declared.state.ArenaState.{ArenaState}
use Rattle.served_namespaces.specs.declared.places.OpenedNamespace.{OpenedNamespace}
use Rattle.session_service.specs.declared.namespaces.ServedNamespace.{ServedNamespace}
use Rattle.std.specs.Prelude.{ℕ}
use Rattle.shell_serve.specs.Answering.{AreSame}

pub mapped_more : {A B : Type 0} (f : A → B) (xs : List A) (x : A) (ys new : List B) (y : B) → new ≡ ys ++ y ∷ [] → ys ≡ map f xs → y ≡ f x → new ≡ map f (xs ++ x ∷ [])
mapped_more {A} {B} f xs x ys new y pushed are is =
    pushed ∙ ap (λ (zs : List B). zs ++ y ∷ []) are ∙ ap (λ (z : B). map f xs ++ z ∷ []) is ∙ sym (map-append f xs (x ∷ []))

pub same_more : (namespaces : List OpenedNamespace) (o : OpenedNamespace) (served new : List ServedNamespace) (n : ServedNamespace) → new ≡ served ++ n ∷ [] → AreSame namespaces served
    → n.uuid ≡ o.place.uuid → n.arenas.items ≡ o.states → AreSame (namespaces ++ o ∷ []) new
same_more namespaces o served new n pushed same uuid arenas = record {
  uuids =
      ap (λ (ns : List ServedNamespace). map (λ (n : ServedNamespace). n.uuid) ns) pushed ∙ map-append (λ (n : ServedNamespace). n.uuid) served (n ∷ [])
      ∙ ap (λ (us : List (List ℕ)). us ++ n.uuid ∷ []) same.uuids ∙ ap (λ (u : List ℕ). map (λ (o : OpenedNamespace). o.place.uuid) namespaces ++ u ∷ []) uuid
      ∙ sym (map-append (λ (o : OpenedNamespace). o.place.uuid) namespaces (o ∷ []));
  arenas =
      ap (λ (ns : List ServedNamespace). map (λ (n : ServedNamespace). n.arenas.items) ns) pushed ∙ map-append (λ (n : ServedNamespace). n.arenas.items) served (n ∷ [])
      ∙ ap (λ (us : List (List ArenaState)). us ++ n.arenas.items ∷ []) same.arenas ∙ ap (λ (s : List ArenaState). map (λ (o : OpenedNamespace). o.states) namespaces ++ s ∷ []) arenas
      ∙ sym (map-append (λ (o : OpenedNamespace). o.states) namespaces (o ∷ []));
}
