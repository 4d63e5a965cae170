use Rattle.std.proofs.Common.{ℕ, true, List, map, Option, ◌≡◌, subst}
use Rattle.namespace_areas.specs.Seen.{AreHeld, AreLeft as AreasLeft, areas_shown, words_of}
use Rattle.namespace_areas.specs.Steps.{rows_of}
use Rattle.namespace_ops.specs.Registered.{opening_of}
use Rattle.session_account.specs.Journal.{AreLeft, IsJournal}
use Rattle.session_account.specs.Words.{AreasHold}
use Rattle.registry_service.specs.Served.{AreKept, Served, answered}
use Rattle.registry_service.proofs.Serving.{served_journal, served_left, served_words}
use Rattle.registry_service.proofs.served.ServedRegistry.into_parts.Goals as goal

pub returns-clause-journal : goal.returns-clause-journal
returns-clause-journal c =
    subst (λ (s : Served). IsJournal s.registry.sets (opening_of s.registry) s.first (answered s.registry.journal)) c.self.view_is
    (served_journal (record { registry = c.self.inside.registry; left = c.self.inside.fuse; first = c.self.inside.first; opens = c.self.inside.opens.items }) c.self.invariant)

pub returns-clause-left : goal.returns-clause-left
returns-clause-left c =
    subst (λ (s : Served). s.registry.stopped ≡ true → (rows : List (Option (List ℕ))) → AreasLeft s.registry.areas rows → AreLeft s.registry.sets (opening_of s.registry) s.first (answered s.registry.journal) (areas_shown rows)) c.self.view_is
    (served_left (record { registry = c.self.inside.registry; left = c.self.inside.fuse; first = c.self.inside.first; opens = c.self.inside.opens.items }) c.self.invariant)

pub returns-clause-words : goal.returns-clause-words
returns-clause-words c =
    subst (λ (s : Served). AreHeld s.registry.opening → AreasHold s.registry.sets (opening_of s.registry) (rows_of s.registry.opening) s.first (answered s.registry.journal) (map words_of s.registry.areas)) c.self.view_is
    (served_words (record { registry = c.self.inside.registry; left = c.self.inside.fuse; first = c.self.inside.first; opens = c.self.inside.opens.items }) c.self.invariant)

pub returns-clause-areas : goal.returns-clause-areas
returns-clause-areas c = subst (λ (s : Served). AreKept s.registry.opening s.registry.areas s.registry.stopped) c.self.view_is c.self.invariant.areas
