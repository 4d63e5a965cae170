-- An order that was cut in its command switched power off.
use Rattle.std.proofs.Common.{◌≡◌, inr, ℕ, true, false, refl, Option, Some, None, sym, ap, ◌∙◌, subst}
use Rattle.std.specs.Prelude.{IsSome}
use Rattle.turn_lock.specs.declared.parted.Parted.{Ghosts}
use Rattle.turn_lock.specs.declared.pass.TurnPass.{TurnPass}
use Rattle.lane_pool.specs.declared.pool.PoolPart.{PoolPart}
use Rattle.lane_pool.specs.declared.sets.PowerOff.{PowerOff}
use Rattle.lane_pool.specs.Parts as pool
use Rattle.lane_pool.specs.Parts.{Stops, stop_with}
use Rattle.lane_pool.specs.Pools.{Now}
use Rattle.session_account.specs.declared.reply.Reply.{Reply}
use Rattle.session_account.specs.declared.reply.Reply.TheVariants as reply
use Rattle.session_script.specs.declared.script.Order.{Order}
use Rattle.registry_service.specs.declared.served.OrdersPart.{OrdersPart}
use Rattle.registry_service.specs.Served.{Served}
use Rattle.registry_service.specs.Parts.{IsOrdered, PartGoes}
use Rattle.registry_service.specs.Switch.{IsCutShort, LastsFor, labels_off}

in_some : {A : Type 0} {x y : A} → Some x ≡ Some y → x ≡ y
in_some e = cc

-- a number that is there is the one that every such number is
some_so : (o : Option ℕ) (n : ℕ) → IsSome o → ((k : ℕ) → o ≡ Some k → n ≡ k) → o ≡ Some n
some_so None n is same = let e : false ≡ true = is in absurd (cc)
some_so (Some k) n is same = ap (λ (x : ℕ). Some x) (sym (same k refl))

-- of a caller that was told nothing of the power, and stops it
stopped_so : (off first : PowerOff) (m m' : PoolPart) → pool.WasOn m → Stops None off first m m' → m' ≡ record m { stop = Some (record { off = off; told = false }); told = m'.told }
stopped_so off first m m' on is =
    let stop : m'.stop ≡ Some (record { off = off; told = false }) = is.stop ∙ (λ i. stop_with off (on.0 i) (on.1 i)) in
    λ i. record {
      first = is.first_same i;
      placed = is.placed i;
      left = is.left i;
      hand = is.hands.0 i;
      handed = is.hands.1 i;
      stop = stop i;
      told = m'.told;
    }

module _ {g : Ghosts Served OrdersPart} {d : Ghosts Now PoolPart} (q call : ℕ) (o : Order) (p p' : TurnPass Served OrdersPart g) (s s1 s2 : TurnPass Now PoolPart d) where
  pub cut_in_command : (r : Reply) (steps : ℕ) (first : PowerOff) → r ≡ reply.Cut → PartGoes (IsOrdered q call o r) p p' → LastsFor steps p
      → pool.KeepsStopped s s1 → pool.IsOn s1 → pool.PartGoes (Stops None (labels_off steps) first) s1 s2 → IsCutShort q call o p p' s s2
  cut_in_command r steps first cut ordered lasted asked on stops = inr (
    steps,
    (λ m is.
        let went = ordered m is in
        let is_cut_so = subst (λ (x : Reply). IsOrdered q call o x m went.0) cut went.2 in
        (went.0, went.1, (is_cut_so, some_so m.began.labelcut steps (is_cut_so.cause refl).0 (λ n has. lasted m n is has)))),
    (λ m is.
        let told = asked m is in
        let goes = stops told.0 told.1 in
        let same : on.0 ≡ told.0 = in_some (sym on.1 ∙ told.1) in
        let was = subst pool.WasOn same on.2 in
        (goes.0, goes.1, stopped_so (labels_off steps) first told.0 goes.0 was goes.2 ∙ (λ i. record (told.2 i) { stop = Some (record { off = labels_off steps; told = false }); told = goes.0.told }))),
  )
