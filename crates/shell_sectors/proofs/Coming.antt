-- From a loaded set to what a command on the arenas of one of its namespaces comes to.
use Rattle.std.proofs.Common.{◌≡◌, ℕ, List, [], ◌∷◌, Option, None, Result, Ok, refl, sym, subst, inl, inr}
use Rattle.std.specs.Prelude.{MatchOption}
use Rattle.std.proofs.lemmas.List.Elements.{All-cons, All-nil}
use Rattle.cut_words.specs.Words.{settled}
use Rattle.cut_words.specs.WordBytes.{words_in}
use Rattle.arena_open.specs.declared.chain_refused.ChainRefused.{ChainRefused}
use Rattle.arena_open.specs.declared.state.ArenaState.{ArenaState}
use Rattle.power_cut.specs.Namespace.{words_of}
use Rattle.image_set.specs.Load.{ImageSet}
use Rattle.namespace_map.specs.declared.refused.OpRefused.{OpRefused}
use Rattle.namespace_areas.specs.declared.found.Found.{Found}
use Rattle.namespace_ops.specs.declared.registry.OpenFault.{OpenFault}
use Rattle.sector_namespaces.specs.Creation.{AreSettled}
use Rattle.sector_namespaces.specs.View.{opened_view, rows_of, view_words}
use Rattle.shell_reports.specs.Causes.{fault_in, found_in, opened_in}
use Rattle.shell_reports.specs.List.{open_outcome}
use Rattle.shell_reports.specs.Outcome.{Outcome}
use Rattle.shell_sectors.specs.Found.{IsUnfound, OnArenas, OnFound, OnSet, place_of}

-- ---- the relation

module _ (on : Found → List ArenaState → Type 0) (uuid : List ℕ) (loaded : ImageSet) (outcome : Outcome) where
  abbrev OnFault : Option OpenFault → Type 0
  OnFault f = MatchOption f (OnFound on uuid loaded outcome (found_in loaded uuid)) (λ fault. outcome ≡ open_outcome fault)

  pub unfound_comes : IsUnfound loaded uuid outcome → OnSet on uuid loaded outcome
  unfound_comes (inl (fault, is, said)) = subst (λ (f : Option OpenFault). OnFault f) (sym is) said
  unfound_comes (inr (none, (refusal, is, said))) =
      subst (λ (f : Option OpenFault). OnFault f) (sym none) (subst (λ (r : Result Found OpRefused). OnFound on uuid loaded outcome r) (sym is) said)

  pub named_comes : (found : Found) → fault_in loaded ≡ None → found_in loaded uuid ≡ Ok found → OnArenas (on found) uuid outcome (opened_in loaded uuid found) → OnSet on uuid loaded outcome
  named_comes found none is arenas =
      subst (λ (o : Option OpenFault). OnFault o) (sym none) (subst (λ (r : Result Found OpRefused). OnFound on uuid loaded outcome r) (sym is) arenas)

  -- the arenas are those in the namespace's words
  pub on_words : (found : Found) (r : Result (List ArenaState) ChainRefused) → opened_view (words_of (place_of loaded found (rows_of loaded.contents))).kept uuid ≡ r
      → OnArenas (on found) uuid outcome r → OnArenas (on found) uuid outcome (opened_in loaded uuid found)
  unfolding view_words
  on_words found r is arenas = subst (λ (x : Result (List ArenaState) ChainRefused). OnArenas (on found) uuid outcome x) (sym is) arenas

-- ---- the contents as they were loaded

pub rows_settled : (contents : List (List ℕ)) → AreSettled (rows_of contents)
rows_settled [] = All-nil (λ words. words ≡ settled words.kept)
rows_settled (bytes ∷ contents) = All-cons (λ words. words ≡ settled words.kept) (settled (words_in bytes)) (rows_of contents) refl (rows_settled contents)
