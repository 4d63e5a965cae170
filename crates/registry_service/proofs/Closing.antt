-- What a lock's last value says of its first.
use Rattle.std.proofs.Common.{◌≡◌, ℕ, true, false, List, map, Option, sym, ap, ◌∙◌, subst}
use Rattle.namespace_areas.specs.declared.area.Area.{Area}
use Rattle.namespace_areas.specs.Seen.{AreHeld, AreLeft as AreasLeft, areas_shown, words_of}
use Rattle.namespace_areas.specs.Steps.{rows_of}
use Rattle.namespace_ops.specs.Registered.{Registered, kept_of, opening_of, state_of}
use Rattle.session_account.specs.Journal.{AreLeft, IsJournal}
use Rattle.session_account.specs.Registering.{IsOn}
use Rattle.session_account.specs.Words.{AreasHold}
use Rattle.registry_service.specs.declared.served.Began.{Began}
use Rattle.registry_service.specs.declared.served.OrdersPart.{OrdersPart}
use Rattle.registry_service.specs.Served.{AreKept, Served, answered, began_of, part_at}
use Rattle.registry_service.proofs.Journals.{opening_on}

-- the registry r comes back from the last value; what the first one began with stands in every part
module _ (first last : Served) (r : Registered) (left : Option ℕ) (back : (r ≡ last.registry) × (left ≡ last.left)) (n : ℕ) (same : part_at last n ≡ part_at first n) where
  began : began_of last ≡ began_of first
  began = ap (λ (m : OrdersPart). m.began) same

  pub areas_of : AreKept last.registry.opening last.registry.areas last.registry.stopped → (r.sets ≡ first.registry.sets) × AreKept first.registry.opening r.areas r.stopped
  areas_of kept = (
    ap (λ (x : Registered). x.sets) back.0 ∙ ap (λ (b : Began). b.sets) began,
    subst (λ (x : Registered). AreKept first.registry.opening x.areas x.stopped) (sym back.0)
        (subst (λ (o : List Area). AreKept o last.registry.areas last.registry.stopped) (ap (λ (b : Began). b.areas) began) kept),
  )

  pub journal_of : IsJournal last.registry.sets (opening_of last.registry) last.first (answered last.registry.journal) → IsJournal first.registry.sets (opening_of first.registry) first.first (answered r.journal)
  journal_of j =
      subst (λ (x : Registered). IsJournal first.registry.sets (opening_of first.registry) first.first (answered x.journal)) (sym back.0)
      (subst (λ (b : Began). IsJournal b.sets (opening_on b.areas) b.labelcut (answered last.registry.journal)) began j)

  pub left_of : (last.registry.stopped ≡ true → (rows : List (Option (List ℕ))) → AreasLeft last.registry.areas rows → AreLeft last.registry.sets (opening_of last.registry) last.first (answered last.registry.journal) (areas_shown rows))
      → r.stopped ≡ true → (rows : List (Option (List ℕ))) → AreasLeft r.areas rows → AreLeft first.registry.sets (opening_of first.registry) first.first (answered r.journal) (areas_shown rows)
  left_of are =
      subst (λ (x : Registered). x.stopped ≡ true → (rows : List (Option (List ℕ))) → AreasLeft x.areas rows → AreLeft first.registry.sets (opening_of first.registry) first.first (answered x.journal) (areas_shown rows)) (sym back.0)
      (subst (λ (b : Began). last.registry.stopped ≡ true → (rows : List (Option (List ℕ))) → AreasLeft last.registry.areas rows → AreLeft b.sets (opening_on b.areas) b.labelcut (answered last.registry.journal) (areas_shown rows)) began are)

  pub words_of_all : (AreHeld last.registry.opening → AreasHold last.registry.sets (opening_of last.registry) (rows_of last.registry.opening) last.first (answered last.registry.journal) (map words_of last.registry.areas))
      → AreHeld first.registry.opening → AreasHold first.registry.sets (opening_of first.registry) (rows_of first.registry.opening) first.first (answered r.journal) (map words_of r.areas)
  words_of_all hold =
      subst (λ (x : Registered). AreHeld first.registry.opening → AreasHold first.registry.sets (opening_of first.registry) (rows_of first.registry.opening) first.first (answered x.journal) (map words_of x.areas)) (sym back.0)
      (subst (λ (b : Began). AreHeld b.areas → AreasHold b.sets (opening_on b.areas) (rows_of b.areas) b.labelcut (answered last.registry.journal) (map words_of last.registry.areas)) began hold)

  pub on_of : (last.registry.stopped ≡ false → IsOn last.registry.sets (opening_of last.registry) (rows_of last.registry.opening) last.first (answered last.registry.journal) (kept_of (state_of last.registry)) (rows_of last.registry.areas) last.left)
      → r.stopped ≡ false → IsOn first.registry.sets (opening_of first.registry) (rows_of first.registry.opening) first.first (answered r.journal) (kept_of (state_of r)) (rows_of r.areas) left
  on_of on =
      subst (λ (x : Registered). x.stopped ≡ false → IsOn first.registry.sets (opening_of first.registry) (rows_of first.registry.opening) first.first (answered x.journal) (kept_of (state_of x)) (rows_of x.areas) left) (sym back.0)
      (subst (λ (f : Option ℕ). last.registry.stopped ≡ false → IsOn first.registry.sets (opening_of first.registry) (rows_of first.registry.opening) first.first (answered last.registry.journal) (kept_of (state_of last.registry)) (rows_of last.registry.areas) f) (sym back.1)
      (subst (λ (b : Began). last.registry.stopped ≡ false → IsOn b.sets (opening_on b.areas) (rows_of b.areas) b.labelcut (answered last.registry.journal) (kept_of (state_of last.registry)) (rows_of last.registry.areas) last.left) began on))
