-- What a registry keeps after one call more.
use Rattle.std.proofs.Common.{◌≡◌, ℕ, false, true, Bool, Result, Ok, Err, ◌+◌, ◌≤◌, ◌<◌, ◌^◌, ◌++◌, List, [], ◌∷◌, length, Option, refl, sym, ap, ◌∙◌, subst, arith, length-append}
use Rattle.std.specs.Prelude.{sum, OnOk, OnErr}
use Rattle.nfit_reader.specs.declared.table.Mapping.{Mapping}
use Rattle.nvd_words.specs.declared.tag.Tag.{Tag}
use Rattle.namespace_map.specs.Changes.{recovery_changes}
use Rattle.namespace_map.specs.declared.commands.Command.{Command}
use Rattle.namespace_areas.specs.declared.area.Area.{Area}
use Rattle.namespace_areas.specs.Seen.{areas_seen}
use Rattle.namespace_areas.specs.Went.{Went}
use Rattle.namespace_ops.specs.Claims.{count_of}
use Rattle.namespace_ops.specs.Counted.{Answered, State}
use Rattle.namespace_ops.specs.Entries.{JournalEntry, Reply}
use Rattle.namespace_ops.specs.Registered.{IsJournaled, IsKept, Registered, opened_on, registered, state_of}
use Rattle.namespace_ops.specs.Room.{room_of, taken}
use Rattle.namespace_ops.proofs.RegistryCounts.{answered_grows, AreWithin, count_within, Grows}
use Rattle.namespace_ops.proofs.Journaled.{journaled_after, journaled_cut, journaled_first, journaled_recovered, journaled_with_room}
use Rattle.namespace_ops.proofs.Sums.{sum_taken}

pub kept_by_call : (old : Registered) (new : State) (fuse left : Option ℕ) (tag : Tag) (c : Command) (reply : Reply) (journal : List JournalEntry) (room : List ℕ) (cap cap' : ℕ)
    → IsKept old cap → 1 ≤ room_of old.room tag.session → Answered (state_of old) new fuse left c reply → journal ≡ old.journal ++ record { tag = tag; command = c; reply = reply } ∷ [] → room ≡ taken old.room tag.session → cap' ≡ cap
    → IsKept (registered new journal room old.opening) cap'
kept_by_call old new fuse left tag c reply journal room cap cap' kept some is entered taken_is same =
    let entry : JournalEntry = record { tag = tag; command = c; reply = reply } in
    let len : length journal ≡ length old.journal + 1 = ap (λ (es : List JournalEntry). length es) entered ∙ length-append old.journal (entry ∷ []) in
    let less : sum room + 1 ≡ sum old.room = ap (λ (xs : List ℕ). sum xs + 1) taken_is ∙ sum_taken old.room tag.session some in
    let grows : Grows (length old.journal) old.claims new.claims = answered_grows (length old.journal) (state_of old) new fuse left c reply is kept.claimed in
    record {
      journaled = subst (λ (es : List JournalEntry). IsJournaled (registered new es room old.opening)) (sym entered) (journaled_after old new fuse left tag c reply room is kept.journaled);
      countable = omega (arith, kept.countable, less, grows.longer, same);
      few = omega (arith, kept.few, less, len);
      claimed = subst (λ (n : ℕ). AreWithin n new.claims) (sym len) grows.within;
    }

-- one claim more can be counted
pub few_claims : (r : Registered) (cap session : ℕ) (uuid : List ℕ) → IsKept r cap → 1 ≤ room_of r.room session → count_of r.claims uuid + 1 < 2 ^ 32
few_claims r cap session uuid kept some =
    let less : sum (taken r.room session) + 1 ≡ sum r.room = sum_taken r.room session some in
    let within : count_of r.claims uuid ≤ length r.journal = count_within (length r.journal) uuid r.claims kept.claimed in
    omega (arith, kept.few, less, within)

-- with other room, which is made
pub kept_with_room : (old : Registered) (room : List ℕ) (cap cap' : ℕ) → IsKept old cap
    → length old.claims + sum room ≤ cap' → length old.journal + sum room < 2 ^ 32 → IsKept (record old { room = room }) cap'
kept_with_room old room cap cap' kept countable few = record {
  journaled = journaled_with_room old room kept.journaled;
  countable = countable;
  few = few;
  claimed = kept.claimed;
}

-- the first
pub kept_first : (r : Registered) (cap : ℕ) → r.stopped ≡ false → r.claims ≡ [] → r.journal ≡ [] → r.room ≡ [] → r.opening ≡ r.areas → IsKept r cap
kept_first r cap running none empty roomless began = record {
  journaled = subst IsJournaled (sym same) (journaled_first r.sets r.areas);
  countable =
      let a : length r.claims ≡ 0 = ap (λ (xs : List (List ℕ × ℕ)). length xs) none in
      let b : sum r.room ≡ 0 = ap sum roomless in omega (arith, a, b);
  few =
      let a : length r.journal ≡ 0 = ap (λ (xs : List JournalEntry). length xs) empty in
      let b : sum r.room ≡ 0 = ap sum roomless in omega (arith, a, b);
  claimed = subst (λ (xs : List (List ℕ × ℕ)). AreWithin (length r.journal) xs) (sym none) tt;
}
  where
    same : r ≡ opened_on r.sets r.areas
    same = λ i. record { sets = r.sets; areas = r.areas; stopped = running i; claims = none i; journal = empty i; room = roomless i; opening = began i }

-- after room was made, or memory ran out
pub kept_by_give : {A E : Type 0} (r : Result A E) (old : Registered) (counts : List (List ℕ × ℕ)) (journal : List JournalEntry) (room given : List ℕ) (cap cap' : ℕ) → IsKept old cap
    → counts ≡ old.claims → journal ≡ old.journal → cap ≤ cap' → length counts + sum given ≤ cap' → length old.journal + sum given < 2 ^ 32 → OnOk r (room ≡ given) → OnErr r (room ≡ old.room)
    → IsKept (record old { claims = counts; journal = journal; room = room }) cap'
kept_by_give {A} {E} r old counts journal room given cap cap' kept same_counts same_journal grows fits few ok err =
    subst (λ (cs : List (List ℕ × ℕ)). IsKept (record old { claims = cs; journal = journal; room = room }) cap') (sym same_counts)
    (subst (λ (es : List JournalEntry). IsKept (record old { journal = es; room = room }) cap') (sym same_journal) (by r ok err))
  where
    with : (now : List ℕ) → room ≡ now → length old.claims + sum now ≤ cap' → length old.journal + sum now < 2 ^ 32 → IsKept (record old { room = room }) cap'
    with now is countable small = subst (λ (xs : List ℕ). IsKept (record old { room = xs }) cap') (sym is) (kept_with_room old now cap cap' kept countable small)

    by : (x : Result A E) → OnOk x (room ≡ given) → OnErr x (room ≡ old.room) → IsKept (record old { room = room }) cap'
    by (Ok a) is _ = with given is (subst (λ (cs : List (List ℕ × ℕ)). length cs + sum given ≤ cap') same_counts fits) few
    by (Err e) _ is = with old.room is (let k : length old.claims + sum old.room ≤ cap = kept.countable in omega (arith, k, grows)) kept.few

-- ---- after recovery, with an empty journal

with_state : (old new : Registered) (cap : ℕ) → IsKept old cap → new.claims ≡ old.claims → new.journal ≡ old.journal → new.room ≡ old.room → IsJournaled new → IsKept new cap
with_state old new cap kept claims journal room journaled = record {
  journaled = journaled;
  countable = omega (arith, kept.countable, ap (λ (xs : List (List ℕ × ℕ)). length xs) claims, ap sum room);
  few = omega (arith, kept.few, ap (λ (es : List JournalEntry). length es) journal, ap sum room);
  claimed = subst (λ (n : ℕ). AreWithin n new.claims) (sym (ap (λ (es : List JournalEntry). length es) journal)) (subst (AreWithin (length old.journal)) (sym claims) kept.claimed);
}

pub kept_recovered : (old : Registered) (sets : List (List Mapping)) (areas opening : List Area) (stopped : Bool) (cap : ℕ) → IsKept old cap → old.stopped ≡ false → old.journal ≡ [] → stopped ≡ false → opening ≡ areas
    → IsKept (record old { sets = sets; areas = areas; stopped = stopped; opening = opening }) cap
kept_recovered old sets areas opening stopped cap kept running empty on began =
    let new : Registered = record old { sets = sets; areas = areas; stopped = stopped; opening = opening } in
    with_state old new cap kept refl refl refl (journaled_recovered old new running empty kept.journaled on refl empty began)

pub kept_cut : (old : Registered) (sets : List (List Mapping)) (areas : List Area) (stopped : Bool) (fuse left : Option ℕ) (cap : ℕ) → IsKept old cap → old.stopped ≡ false → old.journal ≡ []
    → Went old.areas areas fuse left (recovery_changes old.sets (areas_seen old.areas)) false → stopped ≡ true → sets ≡ old.sets
    → IsKept (record old { sets = sets; areas = areas; stopped = stopped }) cap
kept_cut old sets areas stopped fuse left cap kept running empty went off same =
    let new : Registered = record old { sets = sets; areas = areas; stopped = stopped } in
    with_state old new cap kept refl refl refl
    (journaled_cut old new fuse left running empty kept.journaled went off same refl empty refl)
