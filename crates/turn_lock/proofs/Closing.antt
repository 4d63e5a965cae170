-- The value in the slot once each pass is handed in.
use Rattle.std.proofs.Common.{◌≡◌, ℕ, ◌<◌, ◌≤◌, List, [], Option, Some, None, sym, ap, ◌∙◌, subst}
use Rattle.std.specs.Prelude.{All, Any, slice_index_or}
use mathlib.Core.Option.{some, some-injective}
use lib.ListN.{get_elem?}
use Rattle.atomic_table.specs.Table.{Me, Final, Seen}
use Rattle.turn_lock.specs.declared.table.Role.{Role}
use Rattle.turn_lock.specs.declared.table.Role.TheVariants.{Keeper}
use Rattle.turn_lock.specs.declared.parted.Parted.{Ghosts}
use Rattle.turn_lock.specs.declared.pass.TurnPass.{TurnPass}
use Rattle.turn_lock.specs.Turns.{Turning}
use Rattle.turn_lock.specs.Passes.{number_of, part_of, entries_of}
use Rattle.turn_lock.proofs.Keeps.{AllKnown, ends}
use Rattle.turn_lock.proofs.Entries.{entry_at}

module _ {T D : Type 0} {g : Ghosts T D} (callers : ℕ) (first : T) (id : ℕ) (ps : List (TurnPass T D g)) (me : Me (Option T) (Role T D)) (ws : List ℕ) (xs : List (Option T)) where
  pub closes : me ≡ (Keeper (entries_of ps), []) → ((q : ℕ) → q < callers → Any (λ p. number_of p ≡ q) ps) → Final (Seen (Turning g.part callers first) id me.0) ws xs
      → (r : Option T) → get_elem? xs 4 ≡ some r → (x : T) × (r ≡ Some x) × All (λ p. part_of p ≡ Some (g.part x (number_of p))) ps × ((q : ℕ) → callers ≤ q → g.part x q ≡ g.part first q)
  closes known every final r there =
      let all : AllKnown g.part callers first (entries_of ps) = λ q h.
      let a = every q h in
      let e = entry_at ps a.0 a.1 a.2 in
      (a.0, (number_of (slot a.0 a.1), e.0), e.1, ap number_of a.3 ∙ a.4) in
      let e = ends g.part callers first id (entries_of ps) me.0 ws xs (ap (λ m. m.0) known) final all in
      (e.0, some-injective r (Some e.0) (sym there ∙ e.1), λ k d h. let at = entry_at ps k d h in at.2 ∙ ap Some (e.2 k (number_of (slot k d), at.0) at.1), e.3)
    where
      slot : ℕ → TurnPass T D g → TurnPass T D g
      slot k d = slice_index_or ps k d

  pub closes_at : me ≡ (Keeper (entries_of ps), []) → ((q : ℕ) → q < callers → Any (λ p. number_of p ≡ q) ps) → Final (Seen (Turning g.part callers first) id me.0) ws xs
      → (x : T) → get_elem? xs 4 ≡ some (Some x) → All (λ p. part_of p ≡ Some (g.part x (number_of p))) ps × ((q : ℕ) → callers ≤ q → g.part x q ≡ g.part first q)
  closes_at known every final x there =
      let c = closes known every final (Some x) there in
      let same : c.0 ≡ x = cc in
      subst (λ y. All (λ p. part_of p ≡ Some (g.part y (number_of p))) ps × ((q : ℕ) → callers ≤ q → g.part y q ≡ g.part first q)) same (c.2, c.3)

  pub closes_some : me ≡ (Keeper (entries_of ps), []) → ((q : ℕ) → q < callers → Any (λ p. number_of p ≡ q) ps) → Final (Seen (Turning g.part callers first) id me.0) ws xs
      → get_elem? xs 4 ≡ some None → ⊥
  closes_some known every final there =
      let c = closes known every final None there in
      let none : None ≡ Some c.0 = c.1 in cc
