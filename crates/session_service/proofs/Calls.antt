-- A session's call on a sector, as a step of its account.
use Rattle.std.proofs.Common.{◌≡◌, ◌≢◌, ◌⊎◌, inl, inr, ℕ, ◌+◌, ◌-◌, ◌*◌, ◌/◌, ◌≤◌, Bool, true, false, ◌&&◌, List, [], ◌∷◌, ◌++◌, length, Option, Some, None, refl, sym, ap, ◌∙◌, subst, arith, eq-eqb}
use Rattle.std.specs.Prelude.{◌==◌, if◌then◌else◌, option_to_list}
use Rattle.std.specs.List.{AllByRecursion}
use mathlib.Core.Logic.{dite}
use native.Mathlib.Decide.{ℕ_discrete}
use Rattle.arena_open.specs.declared.cell.Cell.{Cell}
use Rattle.lane_core.specs.declared.history.Act.{Act}
use Rattle.lane_core.specs.declared.shape.Shape.{Shape as LaneShape}
use Rattle.lane_core.specs.declared.history.Act.TheVariants as act
use Rattle.lane_core.specs.declared.in_call.InCall.{InCall}
use Rattle.namespace_ops.specs.Entries.{JournalEntry}
use Rattle.session_parts.specs.Parts.{stand_at}
use Rattle.session_script.specs.declared.payload.Payload.{Payload}
use Rattle.session_script.specs.declared.script.Line.{Line}
use Rattle.session_script.specs.declared.script.Line.TheVariants as line
use Rattle.session_script.specs.declared.script.Script.{Script}
use Rattle.session_account.specs.declared.reply.Reply.{Reply}
use Rattle.session_account.specs.declared.reply.Reply.TheVariants as reply
use Rattle.session_account.specs.Account.{session_at}
use Rattle.session_account.specs.Going.{IsAnswered, IsStopped, NextIs}
use Rattle.session_account.specs.Made.{Made, cut_of, made, made_by, uncut}
use Rattle.session_account.specs.Orders.{entry_for}
use Rattle.session_account.specs.Parts.{IsOfCut, more}
use Rattle.session_account.specs.Sectors.{Stand, act_for, check_of, IsChecked, on_spot, size_of, spot_of, stand_as, stand_by, stand_of, stands_of, steps_at, words_of, wrong_length}
use Rattle.session_account.specs.Serving.{Serving, Shape, Spot, IsArena, arenas_of}
use Rattle.session_account.proofs.Calling.{call_ends, call_stops}
use Rattle.session_account.proofs.Going.{map_more, stopped_cut, stopped_uncut}
use Rattle.registry_service.specs.declared.served.OrdersPart.{OrdersPart}
use Rattle.session_parts.specs.declared.parts.CorePart.{CorePart}
use Rattle.lane_pool.specs.declared.pool.PoolPart.{PoolPart}
use Rattle.lane_calls.specs.declared.parts.ArenaPart.{ArenaPart}
use Rattle.lane_calls.specs.Calls as lanes
use Rattle.lane_calls.specs.Calls.{IsOpenWrite, answered, write_at_least}
use Rattle.lane_calls.specs.Lanes.{Fewer}
use Rattle.lane_calls.specs.Sessions.{Parts, shape_of, with_part}
use Rattle.lane_calls.proofs.Sessions.{with_other, with_same}
use Rattle.session_service.specs.declared.finding.FoundSector.{FoundSector}
use Rattle.session_service.specs.Namespaces.{IsFound, number_at, shape_by}
use Rattle.session_service.specs.Runners.{Standing, calls_by, stands_by}
use Rattle.session_service.proofs.Numbers.{number_apart}

-- of the steps that are left, at least so many went
abbrev pub Paid : ℕ → Option ℕ → Option ℕ → Type 0
Paid n left left' = (l : ℕ) → left ≡ Some l → (l' : ℕ) × (left' ≡ Some l') × (n + l' ≤ l)

pub paid_least : (n made : ℕ) (left left' : Option ℕ) → n ≤ made → Fewer made left left' → Paid n left left'
paid_least n made left left' enough paid l is = let p = paid.fewer l is in (p.0, p.1, let sum = p.2 in omega (arith, enough, sum))

both : (a b : ℕ) → ((a == a) && (b == b)) ≡ true
both a b = (λ i. (eq-eqb a a refl i) && (eq-eqb b b refl i))

-- the checks of a write
module _ (all : List Serving) (held : Option (List ℕ)) (sector : ℕ) (f : FoundSector) (found : IsFound all held sector f) where
  pub write_checks : (value : Payload) → check_of all held (line.Write sector value) ≡ wrong_length (size_of value f.bytes) f.bytes
  write_checks value =
      ap (λ (o : Option (List ℕ)). check_of all o (line.Write sector value)) found.is_open
      ∙ ap (λ (s : Option Spot). on_spot (arenas_of all found.uuid) s (λ (shape : Shape). wrong_length (size_of value shape.bytes) shape.bytes)) found.spot_is
      ∙ ap (λ (b : ℕ). wrong_length (size_of value b) b) (sym found.bytes_is)

module _ (all : List Serving) (held : Option (List ℕ)) (sector : ℕ) (f : FoundSector) (found : IsFound all held sector f) (known : Parts) where
  abbrev pub j : ℕ
  j = number_at all found.spot.place found.spot.arena

  pub here : (m : ArenaPart) → stands_by all (with_part known j m) found.spot.place found.spot.arena ≡ m.mine.stands
  here m = ap (λ (x : ArenaPart). x.mine.stands) (with_same known j m)

  pub apart : (m : ArenaPart) (p n : ℕ) → IsArena all p n → (p ≢ found.spot.place) ⊎ (n ≢ found.spot.arena) → with_part known j m (number_at all p n) ≡ known (number_at all p n)
  apart m p n there ne = with_other known j (number_at all p n) m (λ e. number_apart all p n found.spot.place found.spot.arena there found.there ne e)

  pub others : (m : ArenaPart) (p n : ℕ) → IsArena all p n → (p ≢ found.spot.place) ⊎ (n ≢ found.spot.arena) → stands_by all (with_part known j m) p n ≡ stands_by all known p n
  others m p n there ne = ap (λ (x : ArenaPart). x.mine.stands) (apart m p n there ne)

  -- what the call stands as, in its arena
  module _ (n : ℕ) (l : Line) (r : Reply) (a : Act) (on_spot_is : spot_of all (made n held l r) ≡ Some found.spot) (acts : act_for l r found.spot.shape ≡ Some a) where
    pub stand_is : stand_of all found.spot.place found.spot.arena (made n held l r) ≡ Some (stand_at n f.sector a)
    stand_is =
        ap (stand_by found.spot.place found.spot.arena (made n held l r)) on_spot_is
        ∙ ap (λ (b : Bool). if b then stand_as n found.spot.own (act_for l r found.spot.shape) else None) (both found.spot.place found.spot.arena)
        ∙ ap (stand_as n found.spot.own) acts
        ∙ ap (λ (s : ℕ). Some (stand_at n s a)) (sym found.sector_is)

    pub stands_more : (m : ArenaPart) → m.mine ≡ answered (stand_at n f.sector a) (known j).mine
        → stands_by all (with_part known j m) found.spot.place found.spot.arena ≡ stands_by all known found.spot.place found.spot.arena ++ option_to_list (stand_of all found.spot.place found.spot.arena (made n held l r))
    stands_more m is = here m ∙ ap (λ (x : CorePart). x.stands) is ∙ ap (λ (o : Option Stand). stands_by all known found.spot.place found.spot.arena ++ option_to_list o) (sym stand_is)

  -- ---- a read

  pub read_spot : (n : ℕ) (r : Reply) → spot_of all (made n held (line.Read sector) r) ≡ Some found.spot
  read_spot n r = ap (λ (o : Option (List ℕ)). spot_of all (made n o (line.Read sector) r)) found.is_open ∙ found.spot_is

  read_check : check_of all held (line.Read sector) ≡ None
  read_check =
      ap (λ (o : Option (List ℕ)). check_of all o (line.Read sector)) found.is_open
      ∙ ap (λ (s : Option Spot). on_spot (arenas_of all found.uuid) s (λ (shape : Shape). None)) found.spot_is

  pub read_answered : (q n : ℕ) (cell : Cell) (entries : List JournalEntry) (left left' : Option ℕ) (m : ArenaPart) → m.mine ≡ answered (stand_at n f.sector (act.Read cell)) (known j).mine → Paid 1 left left'
      → IsAnswered all q (made n held (line.Read sector) (reply.Value cell)) entries entries (stands_by all known) (stands_by all (with_part known j m)) left left'
  read_answered q n cell entries left left' m is paid =
      call_ends all q (made n held (line.Read sector) (reply.Value cell)) found.spot entries (stands_by all known) (stands_by all (with_part known j m)) left left'
      (read_spot n (reply.Value cell)) refl refl
      (λ _. subst (λ (o : Option Reply). IsChecked o (reply.Value cell)) (sym read_check) refl)
      (λ _ _. refl)
      (stands_more n (line.Read sector) (reply.Value cell) (act.Read cell) (read_spot n (reply.Value cell)) refl m is)
      (others m)
      (λ l e. let p = paid l e in (p.0, p.1, let s = ap (steps_at (line.Read sector)) (read_spot n (reply.Value cell)) in let le = p.2 in omega (arith, s, le)))

  -- ---- a write

  module _ (value : Payload) (fits : wrong_length (size_of value f.bytes) f.bytes ≡ None) where
    pub write_spot : (n : ℕ) (r : Reply) → spot_of all (made n held (line.Write sector value) r) ≡ Some found.spot
    write_spot n r = ap (λ (o : Option (List ℕ)). spot_of all (made n o (line.Write sector value) r)) found.is_open ∙ found.spot_is

    write_check : check_of all held (line.Write sector value) ≡ None
    write_check = write_checks all held sector f found value ∙ fits

    fits_is : (said had : ℕ) → wrong_length said had ≡ None → (said == had) ≡ true
    fits_is said had h = by (said == had) h
      where
        by : (b : Bool) → (if b then None else Some (reply.Length said had)) ≡ None → b ≡ true
        by true h = refl
        by false h = absurd (cc)

    abbrev pub words : List ℕ
    words = words_of value f.bytes

    done_act : act_for (line.Write sector value) reply.Done found.spot.shape ≡ Some (act.Write words)
    done_act = ap (λ (b : ℕ). Some (act.Write (words_of value b))) (sym found.bytes_is)

    pub cut_act : act_for (line.Write sector value) reply.Cut found.spot.shape ≡ Some (act.Write words)
    cut_act =
        ap (λ (b : ℕ). if size_of value b == b then Some (act.Write (words_of value b)) else None) (sym found.bytes_is)
        ∙ ap (λ (b : Bool). if b then Some (act.Write words) else None) (fits_is (size_of value f.bytes) f.bytes fits)

    pub write_answered : (q n : ℕ) (entries : List JournalEntry) (left left' : Option ℕ) (m : ArenaPart) → shape_by (known j).first ≡ found.spot.shape → m.mine ≡ answered (stand_at n f.sector (act.Write words)) (known j).mine → Paid (write_at_least (shape_of (known j))) left left'
        → IsAnswered all q (made n held (line.Write sector value) reply.Done) entries entries (stands_by all known) (stands_by all (with_part known j m)) left left'
    write_answered q n entries left left' m layout is paid =
        call_ends all q (made n held (line.Write sector value) reply.Done) found.spot entries (stands_by all known) (stands_by all (with_part known j m)) left left'
        (write_spot n reply.Done) refl refl
        (λ _. subst (λ (o : Option Reply). IsChecked o reply.Done) (sym write_check) refl)
        (λ _ _. refl)
        (stands_more n (line.Write sector value) reply.Done (act.Write words) (write_spot n reply.Done) done_act m is)
        (others m)
        (λ l e.
        let p = paid l e in (
          p.0,
          p.1,
          let s = ap (steps_at (line.Write sector value)) (write_spot n reply.Done) in
              let t = ap (λ (x : Shape). x.lanes - 1 + 2 * (x.bytes / 8) + 9) layout in
              let le = p.2 in omega (arith, s, t, le),
        ))

  -- ---- a call that was cut

  module _ (script : Script) (q : ℕ) (replies : List Reply) (orders : OrdersPart) (pool : PoolPart) (used : ℕ) (left : Option ℕ) (held_is : held ≡ orders.held) (s : Standing all script q replies orders known pool used left) (l : Line) (next : NextIs (session_at script q) replies l) where
    abbrev pub at_cut : Made
    at_cut = made (length replies) held l reply.Cut

    abbrev pub calls : List Made
    calls = made_by (session_at script q).calls (more replies reply.Cut)

    only_before : uncut calls ≡ made_by (session_at script q).calls replies
    only_before = stopped_uncut (session_at script q) replies l reply.Cut next.0 next.1 s.at.goes_on refl

    only_it : cut_of calls ≡ at_cut ∷ []
    only_it =
        stopped_cut (session_at script q) replies l reply.Cut next.0 next.1 s.at.goes_on refl
        ∙ ap (λ (on : Option (List ℕ)). made (length replies) on l reply.Cut ∷ []) (sym (held_is ∙ s.held))

    stands_so : (p n : ℕ) → IsArena all p n → stands_by all known p n ≡ stands_of all p n (uncut calls)
    stands_so p n there = s.at.arenas p n there ∙ ap (stands_of all p n) (sym only_before)

    its_stand : (a : Act) → stand_of all found.spot.place found.spot.arena at_cut ≡ Some (stand_at (length replies) f.sector a) → stands_of all found.spot.place found.spot.arena (cut_of calls) ≡ stand_at (length replies) f.sector a ∷ []
    its_stand a is = ap (stands_of all found.spot.place found.spot.arena) only_it ∙ map_more (stand_of all found.spot.place found.spot.arena) [] at_cut ∙ ap (λ (o : Option Stand). option_to_list o) is

    -- its writes in flight: none, or one in the arena of the sector
    still_at : (m : ArenaPart) → AllByRecursion (IsOfCut all found.spot.place found.spot.arena calls m.mine.stands) m.mine.calls
        → (p n : ℕ) → IsArena all p n → AllByRecursion (IsOfCut all p n calls (stands_by all (with_part known j m) p n)) (calls_by all (with_part known j m) p n)
    still_at m lanes p n there = dite (ℕ_discrete p found.spot.place)
        (λ same. dite (ℕ_discrete n found.spot.arena)
        (λ same'.
        subst (λ (x : ℕ). AllByRecursion (IsOfCut all x n calls (stands_by all (with_part known j m) x n)) (calls_by all (with_part known j m) x n)) (sym same)
        (subst (λ (x : ℕ). AllByRecursion (IsOfCut all found.spot.place x calls (stands_by all (with_part known j m) found.spot.place x)) (calls_by all (with_part known j m) found.spot.place x)) (sym same')
        (subst (λ (x : ArenaPart). AllByRecursion (IsOfCut all found.spot.place found.spot.arena calls x.mine.stands) x.mine.calls) (sym (with_same known j m)) lanes)))
        (λ other. elsewhere (inr other)))
        (λ other. elsewhere (inl other))
      where
        elsewhere : (p ≢ found.spot.place) ⊎ (n ≢ found.spot.arena) → AllByRecursion (IsOfCut all p n calls (stands_by all (with_part known j m) p n)) (calls_by all (with_part known j m) p n)
        elsewhere ne =
            let none : calls_by all (with_part known j m) p n ≡ [] = ap (λ (x : ArenaPart). x.mine.calls) (apart m p n there ne) ∙ s.free (number_at all p n) in
            subst (λ (cs : List InCall). AllByRecursion (IsOfCut all p n calls (stands_by all (with_part known j m) p n)) cs) (sym none) tt

    none_here : (m : ArenaPart) → m.mine.calls ≡ [] → AllByRecursion (IsOfCut all found.spot.place found.spot.arena calls m.mine.stands) m.mine.calls
    none_here m none = subst (λ (cs : List InCall). AllByRecursion (IsOfCut all found.spot.place found.spot.arena calls m.mine.stands) cs) (sym none) tt

    -- a read leaves nothing
    module _ (m : ArenaPart) (at : l ≡ line.Read sector) (same : m.mine ≡ (known j).mine) where
      pub read_stops : (entries : List JournalEntry) → IsStopped all q at_cut entries entries (stands_by all known) (stands_by all (with_part known j m))
      read_stops entries =
          call_stops all q at_cut found.spot entries (stands_by all known) (stands_by all (with_part known j m))
          (ap (λ (x : Line). spot_of all (made (length replies) held x reply.Cut)) at ∙ read_spot (length replies) reply.Cut)
          (no_entry l at) refl (inl (here m ∙ ap (λ (x : CorePart). x.stands) same)) (others m)
        where
          no_entry : (x : Line) → x ≡ line.Read sector → entry_for q (made (length replies) held x reply.Cut) ≡ None
          no_entry x e = ap (λ (x : Line). entry_for q (made (length replies) held x reply.Cut)) e

      pub read_still : (p n : ℕ) → IsArena all p n → AllByRecursion (IsOfCut all p n calls (stands_by all (with_part known j m) p n)) (calls_by all (with_part known j m) p n)
      read_still = still_at m (none_here m (ap (λ (x : CorePart). x.calls) same ∙ s.free j))

    -- a write stands or doesn't
    module _ (value : Payload) (fits : wrong_length (size_of value f.bytes) f.bytes ≡ None) (m : ArenaPart) (x : LaneShape) (steps : ℕ) (at : l ≡ line.Write sector value) (goes : lanes.IsStopped q (length replies) f.sector (words value fits) x steps (known j).mine m.mine) where
      abbrev its : Act
      its = act.Write (words value fits)

      spot_here : spot_of all at_cut ≡ Some found.spot
      spot_here = ap (λ (x : Line). spot_of all (made (length replies) held x reply.Cut)) at ∙ write_spot value fits (length replies) reply.Cut

      flies : stand_of all found.spot.place found.spot.arena at_cut ≡ Some (stand_at (length replies) f.sector its)
      flies = stand_is (length replies) l reply.Cut its spot_here (ap (λ (x : Line). act_for x reply.Cut found.spot.shape) at ∙ cut_act value fits)

      pub write_stops : (entries : List JournalEntry) → IsStopped all q at_cut entries entries (stands_by all known) (stands_by all (with_part known j m))
      write_stops entries =
          call_stops all q at_cut found.spot entries (stands_by all known) (stands_by all (with_part known j m)) spot_here
          (ap (λ (x : Line). entry_for q (made (length replies) held x reply.Cut)) at) refl (by goes) (others m)
        where
          by : lanes.IsStopped q (length replies) f.sector (words value fits) x steps (known j).mine m.mine
              → (stands_by all (with_part known j m) found.spot.place found.spot.arena ≡ stands_by all known found.spot.place found.spot.arena)
              ⊎ (stands_by all (with_part known j m) found.spot.place found.spot.arena ≡ stands_by all known found.spot.place found.spot.arena ++ option_to_list (stand_of all found.spot.place found.spot.arena at_cut))
          by (inl is) = inl (here m ∙ ap (λ (x : CorePart). x.stands) is)
          by (inr (inl h)) = inl (here m ∙ ap (λ (x : CorePart). x.stands) h.1.2)
          by (inr (inr h)) = inr (here m ∙ ap (λ (x : CorePart). x.stands) h.1 ∙ ap (λ (o : Option Stand). (known j).mine.stands ++ option_to_list o) (sym flies))

      pub write_still : (p n : ℕ) → IsArena all p n → AllByRecursion (IsOfCut all p n calls (stands_by all (with_part known j m) p n)) (calls_by all (with_part known j m) p n)
      write_still = still_at m (by goes)
        where
          acts : (a : Act) → Some its ≡ Some a → its ≡ a
          acts a e = cc

          -- in flight
          lane : (c : InCall) → IsOpenWrite q (length replies) f.sector (words value fits) c → IsOfCut all found.spot.place found.spot.arena calls (known j).mine.stands c
          lane c h = record {
            call = λ a e. its_stand its flies ∙ (λ i. stand_at (sym h.tag_is i).call (sym h.sector_is i) (acts a (sym h.act_is ∙ e) i) ∷ []);
            not_yet = λ _. stands_so found.spot.place found.spot.arena found.there;
          }

          by : lanes.IsStopped q (length replies) f.sector (words value fits) x steps (known j).mine m.mine → AllByRecursion (IsOfCut all found.spot.place found.spot.arena calls m.mine.stands) m.mine.calls
          by (inl is) = none_here m (ap (λ (x : CorePart). x.calls) is ∙ s.free j)
          by (inr (inl h)) = subst (λ (x : CorePart). AllByRecursion (IsOfCut all found.spot.place found.spot.arena calls x.stands) x.calls) (sym h.1.2) (lane h.1.0 h.1.1, tt)
          by (inr (inr h)) = none_here m (ap (λ (x : CorePart). x.calls) h.1)
