-- A registry behind a lock goes on serving its sessions.
use Rattle.std.proofs.Common.{◌≡◌, ℕ, zero, suc, ◌+◌, ◌-◌, ◌<◌, ◌≤◌, max, Bool, true, false, not, cond, List, [], ◌∷◌, ◌++◌, length, get_or, map, set, Option, Some, None, Ok, Err, refl, sym, ap, ◌∙◌, subst, arith, eq-eqb, get_or-set_same, length-set, replicate, count_by}
use Rattle.std.specs.Prelude.{◌==◌, IsSome}
use Rattle.std.proofs.lemmas.List.{length-replicate, set-get_or}
use Rattle.std.proofs.lemmas.List.FromFn.{length-map-range_with_len}
use Rattle.std.proofs.lemmas.List.Elements.{filter-append}
use Rattle.nvd_words.specs.declared.tag.Tag.{Tag}
use Rattle.namespace_map.specs.Commands.{deleted_entry, done, name_in, renamed_entry}
use Rattle.namespace_map.specs.Namespaces.{NamespaceEntry, Namespaces, lookup}
use Rattle.namespace_map.specs.declared.commands.Command.{Command}
use Rattle.namespace_map.specs.declared.commands.Command.TheVariants as command
use Rattle.namespace_areas.specs.declared.area.Area.{Area}
use Rattle.namespace_ops.specs.Carried.{is_cut}
use Rattle.namespace_ops.specs.Claims.{count_of, with_count}
use Rattle.namespace_ops.specs.Counted.{State, Answered, makes_sectors, namespaces_in}
use Rattle.namespace_ops.specs.Entries.{JournalEntry, Reply as Answer}
use Rattle.namespace_ops.specs.Registered.{Entered, IsJournaled, Registered, kept_of, opening_of, state_of}
use Rattle.namespace_ops.specs.Replay.{Kept, is_memory, remade}
use Rattle.namespace_ops.specs.Room.{room_of, with_room}
use Rattle.namespace_areas.specs.Seen.{AreHeld, AreLeft as AreasLeft, areas_shown, words_of}
use Rattle.namespace_areas.specs.Steps.{rows_of}
use Rattle.namespace_areas.proofs.Steps.{held_words}
use Rattle.session_account.specs.Claims.{AreOpen, has_open}
use Rattle.session_account.specs.Journal.{AreLeft, IsJournal}
use Rattle.session_account.specs.Registering.{AllOn, IsOn}
use Rattle.session_account.specs.Words.{AreasHold}
use Rattle.session_account.specs.Orders.{own_entries}
use Rattle.session_account.specs.Parts.{open_with}
use Rattle.session_account.proofs.Claims.{claim_opens, open_is_claimed, unclaim_closes}
use Rattle.session_account.proofs.Registering.{off_is_journal, on_is_journal}
use Rattle.registry_service.specs.Asking.{Suits}
use Rattle.registry_service.specs.Parts.{HasRoom, call_entry, carried}
use Rattle.registry_service.proofs.Areas.{first_kept, still_kept}
use Rattle.registry_service.specs.Served.{AreKept, IsServing, Served, answered, began_of, part_at, part_of_session}
use Rattle.registry_service.proofs.Journals.{Keeps, answered_more, cut_has_fuse, keeps_more}

-- a session with room has a place
pub has_place : (room : List ℕ) (q : ℕ) → 1 ≤ get_or room q 0 → q < length room
has_place [] q h = absurd (omega (arith, h))
has_place (x ∷ xs) zero h = omega arith
has_place (x ∷ xs) (suc q) h = let k = has_place xs q h in omega (arith, k)

-- ---- claims

deleted_claims : (ns : Namespaces) (o : Option NamespaceEntry) → (deleted_entry ns o).claims ≡ ns.claims
deleted_claims ns None = refl
deleted_claims ns (Some e) = refl

renamed_claims : (ns : Namespaces) (name : List ℕ) (o : Option NamespaceEntry) → (renamed_entry ns name o).claims ≡ ns.claims
renamed_claims ns name None = refl
renamed_claims ns name (Some e) = refl

-- what is open changes with what is claimed
module _ (claims : List (List ℕ × ℕ)) (opens : List (Option (List ℕ))) (q : ℕ) (inside : q < length opens) (are : AreOpen claims opens) where
  stays_open : AreOpen claims (set opens q (get_or opens q None))
  stays_open = subst (AreOpen claims) (sym (set-get_or opens q None)) are

  pub done_open : (ns : Namespaces) (c : Command) → ns.claims ≡ claims → Suits (get_or opens q None) c
      → AreOpen (done ns c).claims (set opens q (open_with (get_or opens q None) c (Ok tt)))
  done_open ns (command.Create spec) same suits = subst (λ (cs : List (List ℕ × ℕ)). AreOpen cs (set opens q (get_or opens q None))) (sym same) stays_open
  done_open ns (command.Delete uuid) same suits = subst (λ (cs : List (List ℕ × ℕ)). AreOpen cs (set opens q (get_or opens q None))) (sym (deleted_claims ns (lookup uuid ns.entries) ∙ same)) stays_open
  done_open ns (command.Rename uuid name) same suits = subst (λ (cs : List (List ℕ × ℕ)). AreOpen cs (set opens q (get_or opens q None))) (sym (renamed_claims ns (name_in name) (lookup uuid ns.entries) ∙ same)) stays_open
  done_open ns (command.Claim uuid) same suits = subst (λ (cs : List (List ℕ × ℕ)). AreOpen (with_count cs uuid (count_of cs uuid + 1)) (set opens q (Some uuid))) (sym same) (claim_opens claims opens q uuid inside suits are)
  done_open ns (command.Unclaim uuid) same suits = subst (λ (cs : List (List ℕ × ℕ)). AreOpen (with_count cs uuid (count_of cs uuid - 1)) (set opens q None)) (sym same) (unclaim_closes claims opens q uuid inside suits are)

claims_go : (s s' : State) (left left' : Option ℕ) (c : Command) (a : Answer) (opens : List (Option (List ℕ))) (q : ℕ) → Answered s s' left left' c a → q < length opens → Suits (get_or opens q None) c → AreOpen s.claims opens
    → AreOpen s'.claims (set opens q (open_with (get_or opens q None) c a))
claims_go s s' left left' c (Ok tt) opens q is inside suits are =
    subst (λ (cs : List (List ℕ × ℕ)). AreOpen cs (set opens q (open_with (get_or opens q None) c (Ok tt)))) (sym (ap (λ (ns : Namespaces). ns.claims) is.done)) (done_open s.claims opens q inside are (namespaces_in s) c refl suits)
claims_go s s' left left' c (Err f) opens q is inside suits are =
    subst (λ (cs : List (List ℕ × ℕ)). AreOpen cs (set opens q (get_or opens q None))) (sym (is.claims refl)) (stays_open s.claims opens q inside are)

-- ---- entries

own_one : (e : JournalEntry) (q : ℕ) → e.tag.session ≡ q → own_entries q (answered (e ∷ [])) ≡ answered (e ∷ [])
own_one e q is = by (is_memory e.reply)
  where
    by : (b : Bool) → own_entries q (cond (not b) (e ∷ []) []) ≡ cond (not b) (e ∷ []) []
    by true = refl
    by false = ap (λ (b : Bool). cond b (e ∷ []) []) (eq-eqb e.tag.session q is)

own_more : (journal : List JournalEntry) (e : JournalEntry) (q : ℕ) → own_entries q (answered (journal ++ e ∷ [])) ≡ own_entries q (answered journal) ++ own_entries q (answered (e ∷ []))
own_more journal e q = ap (own_entries q) (answered_more journal e) ∙ filter-append (λ (e : JournalEntry). e.tag.session == q) (answered journal) (answered (e ∷ []))

-- ---- a call

module _ (old : Served) (r : Registered) (left : Option ℕ) (tag : Tag) (c : Command) (a : Answer) (entered : Entered old.registry r tag c a) (is : Answered (state_of old.registry) (state_of r) old.left left c a) where
  -- what stands behind the lock after it
  abbrev pub after : Served
  after = record { registry = r; left = left; first = old.first; opens = set old.opens tag.session (open_with (get_or old.opens tag.session None) c a) }

  began_same : began_of after ≡ began_of old
  began_same = λ i. record { sets = is.sets i; areas = entered.opening i; labelcut = old.first }

  module _ (h : IsServing old) (some : 1 ≤ room_of old.registry.room tag.session) where
    pub placed : tag.session < length old.opens
    placed = let k = has_place old.registry.room tag.session some in omega (arith, k, h.places)

    pub serves_on : makes_sectors c ≡ false → Suits (get_or old.opens tag.session None) c → IsServing after
    serves_on plain suits =
        let was : Keeps old.registry.sets old.registry.opening old.first (answered old.registry.journal) (state_of old.registry) old.left = record { on = h.on; off = h.off } in
        let went = keeps_more old.registry.opening old.first (answered old.registry.journal) (state_of old.registry) (state_of r) old.left left tag c a is plain was in
        let journal : answered r.journal ≡ answered old.registry.journal ++ answered (call_entry tag c a ∷ []) = ap answered entered.entry ∙ answered_more old.registry.journal (call_entry tag c a) in
        let k : Keeps r.sets r.opening old.first (answered r.journal) (state_of r) left =
        subst (λ (es : List JournalEntry). Keeps r.sets r.opening old.first es (state_of r) left) (sym journal)
        (subst (λ (o : List Area). Keeps r.sets o old.first (answered old.registry.journal ++ answered (call_entry tag c a ∷ [])) (state_of r) left) (sym entered.opening)
        (subst (λ sets. Keeps sets old.registry.opening old.first (answered old.registry.journal ++ answered (call_entry tag c a ∷ [])) (state_of r) left) (sym is.sets) went)) in
        record {
          on = k.on;
          off = k.off;
          claims = claims_go (state_of old.registry) (state_of r) old.left left c a old.opens tag.session is placed suits h.claims;
          places =
              let taken_length : length r.room ≡ length old.registry.room = ap length entered.room ∙ length-set old.registry.room tag.session (room_of old.registry.room tag.session - 1) in
              let opens_length : length after.opens ≡ length old.opens = length-set old.opens tag.session (open_with (get_or old.opens tag.session None) c a) in
              omega (arith, taken_length, opens_length, h.places);
          areas = subst (λ (o : List Area). AreKept o r.areas r.stopped) (sym entered.opening) (still_kept old.registry.opening (state_of old.registry) (state_of r) old.left left c a is h.areas);
        }

    pub own_goes : part_at after tag.session ≡ carried tag c a (part_at old tag.session)
    own_goes =
        let entries : own_entries tag.session (answered r.journal) ≡ own_entries tag.session (answered old.registry.journal) ++ answered (call_entry tag c a ∷ []) =
        ap (λ (es : List JournalEntry). own_entries tag.session (answered es)) entered.entry ∙ own_more old.registry.journal (call_entry tag c a) tag.session
        ∙ ap (λ (es : List JournalEntry). own_entries tag.session (answered old.registry.journal) ++ es) (own_one (call_entry tag c a) tag.session refl) in
        let room : room_of r.room tag.session ≡ room_of old.registry.room tag.session - 1 =
        ap (λ (ns : List ℕ). room_of ns tag.session) entered.room ∙ get_or-set_same old.registry.room tag.session (room_of old.registry.room tag.session - 1) 0 (has_place old.registry.room tag.session some) in
        let held : get_or after.opens tag.session None ≡ open_with (get_or old.opens tag.session None) c a = get_or-set_same old.opens tag.session (open_with (get_or old.opens tag.session None) c a) None placed in
        λ i. part_of_session (began_same i) (entries i) (room i) (held i)

  -- a cut has a cause
  pub cut_caused : makes_sectors c ≡ false → IsServing after → is_cut a ≡ true → IsSome old.first
  cut_caused plain h cut = by (old.registry.stopped) refl
    where
      by : (b : Bool) → old.registry.stopped ≡ b → IsSome old.first
      by false on = cut_has_fuse r.sets (opening_of r) (rows_of r.opening) old.first (answered r.journal) r.areas (h.off (is.stopped on ∙ cut))
      by true off = cut_has_fuse r.sets (opening_of r) (rows_of r.opening) old.first (answered r.journal) r.areas (h.off (ap (λ (s : State). s.stopped) (is.off off).1 ∙ off))

-- ---- a call, by the value that callers see

module _ (v w : Served) (at : v ≡ w) (h : IsServing v) (tag : Tag) (c : Command) (room : HasRoom (part_at w tag.session)) (fits : Suits (part_at w tag.session).held c) where
  some : 1 ≤ room_of v.registry.room tag.session
  some = subst (λ (s : Served). HasRoom (part_at s tag.session)) (sym at) room

  suits : Suits (get_or v.opens tag.session None) c
  suits = subst (λ (s : Served). Suits (part_at s tag.session).held c) (sym at) fits

  -- what is given back is claimed
  pub unclaim_held : (uuid : List ℕ) → c ≡ command.Unclaim uuid → 0 < count_of v.registry.claims uuid
  unclaim_held uuid is =
      let inside : tag.session < length v.opens = let k = has_place v.registry.room tag.session some in omega (arith, k, h.places) in
      open_is_claimed v.registry.claims v.opens tag.session uuid inside (subst (λ (k : Command). Suits (get_or v.opens tag.session None) k) is suits) h.claims

  module _ (plain : makes_sectors c ≡ false) (r : Registered) (left : Option ℕ) (a : Answer) (held opened : Option (List ℕ)) (entered : Entered v.registry r tag c a) (is : Answered (state_of v.registry) (state_of r) v.left left c a)
      (was : held ≡ get_or w.opens tag.session None) (goes : opened ≡ open_with held c a) where
    opens : open_with (get_or v.opens tag.session None) c a ≡ opened
    opens = sym (goes ∙ ap (λ (o : Option (List ℕ)). open_with o c a) (was ∙ ap (λ (s : Served). get_or s.opens tag.session None) (sym at)))

    pub serves_so : IsServing (record { registry = r; left = left; first = v.first; opens = set v.opens tag.session opened })
    serves_so = subst (λ (o : Option (List ℕ)). IsServing (record { registry = r; left = left; first = v.first; opens = set v.opens tag.session o })) opens (serves_on v r left tag c a entered is h some plain suits)

    pub own_so : part_at (record { registry = r; left = left; first = v.first; opens = set v.opens tag.session opened }) tag.session ≡ carried tag c a (part_at w tag.session)
    own_so =
        subst (λ (o : Option (List ℕ)). part_at (record { registry = r; left = left; first = v.first; opens = set v.opens tag.session o }) tag.session ≡ carried tag c a (part_at v tag.session)) opens (own_goes v r left tag c a entered is h some)
        ∙ ap (λ (s : Served). carried tag c a (part_at s tag.session)) at

    pub cause_so : is_cut a ≡ true → IsSome w.first
    cause_so cut = subst (λ (s : Served). IsSome s.first) at (cut_caused v r left tag c a entered is plain (serves_on v r left tag c a entered is h some plain suits) cut)

-- ---- when the lock is made

abbrev the_none : Option (List ℕ)
the_none = None

none_open : (uuid : List ℕ) (n : ℕ) → count_by (has_open uuid) (replicate n None) ≡ 0
none_open uuid zero = refl
none_open uuid (suc n) = none_open uuid n

module _ (r : Registered) (fuse : Option ℕ) (calls : List ℕ) (on : r.stopped ≡ false) (empty : r.journal ≡ []) (none : r.room ≡ with_room [] calls) (says : IsJournaled r) (opened : r.opening ≡ r.areas) where
  began_so : opening_of r ≡ kept_of (state_of r)
  unfolding remade
  began_so = subst (λ (es : List JournalEntry). remade r.sets (opening_of r) es ≡ kept_of (state_of r)) empty (says.on on).changes

  first_on : IsOn r.sets (opening_of r) (rows_of r.opening) fuse [] (kept_of (state_of r)) (rows_of r.areas) fuse
  unfolding AllOn
  first_on = record { all = tt; kept = began_so; words_are = ap rows_of opened; left_is = refl }

  first_serving : IsServing (record { registry = r; left = fuse; first = fuse; opens = replicate (length calls) None })
  first_serving = record {
    on = λ _. subst (λ (es : List JournalEntry). IsOn r.sets (opening_of r) (rows_of r.opening) fuse (answered es) (kept_of (state_of r)) (rows_of r.areas) fuse) (sym empty) first_on;
    off = λ stopped. let e : true ≡ false = sym stopped ∙ on in absurd (cc);
    claims = λ uuid. ap (λ (cs : List (List ℕ × ℕ)). count_of cs uuid) (sym (ap (λ (k : Kept). k.claims) began_so)) ∙ sym (none_open uuid (length calls));
    places =
        let rooms : length (with_room [] calls) ≡ max 0 (length calls) = length-map-range_with_len (λ (session : ℕ). room_of [] session + room_of calls session) 0 (max 0 (length calls)) in
        let there : length r.room ≡ length (with_room [] calls) = ap (λ (ns : List ℕ). length ns) none in
        let places : length (replicate (length calls) the_none) ≡ length calls = length-replicate (length calls) the_none in
        omega (arith, rooms, there, places);
    areas = first_kept r.opening r.areas r.stopped opened;
  }

  pub new_serving : (first : Option ℕ) (opens : List (Option (List ℕ))) → first ≡ fuse → opens ≡ replicate (length calls) None → IsServing (record { registry = r; left = fuse; first = first; opens = opens })
  new_serving first opens same are =
      subst (λ (f : Option ℕ). IsServing (record { registry = r; left = fuse; first = f; opens = opens })) (sym same)
      (subst (λ (os : List (Option (List ℕ))). IsServing (record { registry = r; left = fuse; first = fuse; opens = os })) (sym are) first_serving)

-- ---- what its journal says

pub served_journal : (s : Served) → IsServing s → IsJournal s.registry.sets (opening_of s.registry) s.first (answered s.registry.journal)
served_journal s h = by s.registry.stopped refl
  where
    by : (b : Bool) → s.registry.stopped ≡ b → IsJournal s.registry.sets (opening_of s.registry) s.first (answered s.registry.journal)
    by false on = (on_is_journal s.registry.sets (opening_of s.registry) (kept_of (state_of s.registry)) (rows_of s.registry.opening) (rows_of s.registry.areas) s.first s.left (answered s.registry.journal) (h.on on)).0
    by true off =
        let w = h.off off in
        subst (IsJournal s.registry.sets (opening_of s.registry) s.first) (sym w.split)
        (off_is_journal s.registry.sets (opening_of s.registry) w.began (rows_of s.registry.opening) w.words s.first w.left w.before w.later w.entry s.registry.areas w.on w.off w.same).0

pub served_left : (s : Served) → IsServing s → s.registry.stopped ≡ true → (rows : List (Option (List ℕ))) → AreasLeft s.registry.areas rows
    → AreLeft s.registry.sets (opening_of s.registry) s.first (answered s.registry.journal) (areas_shown rows)
served_left s h off rows left =
    let w = h.off off in
    subst (λ (es : List JournalEntry). AreLeft s.registry.sets (opening_of s.registry) s.first es (areas_shown rows)) (sym w.split)
    ((off_is_journal s.registry.sets (opening_of s.registry) w.began (rows_of s.registry.opening) w.words s.first w.left w.before w.later w.entry s.registry.areas w.on w.off w.same).1 rows left)

-- whether power was cut or not
pub served_words : (s : Served) → IsServing s → AreHeld s.registry.opening → AreasHold s.registry.sets (opening_of s.registry) (rows_of s.registry.opening) s.first (answered s.registry.journal) (map words_of s.registry.areas)
served_words s h held = by s.registry.stopped refl
  where
    by : (b : Bool) → s.registry.stopped ≡ b → AreasHold s.registry.sets (opening_of s.registry) (rows_of s.registry.opening) s.first (answered s.registry.journal) (map words_of s.registry.areas)
    by false on =
        subst (AreasHold s.registry.sets (opening_of s.registry) (rows_of s.registry.opening) s.first (answered s.registry.journal)) (sym (held_words s.registry.areas (h.areas.held held on)))
        (on_is_journal s.registry.sets (opening_of s.registry) (kept_of (state_of s.registry)) (rows_of s.registry.opening) (rows_of s.registry.areas) s.first s.left (answered s.registry.journal) (h.on on)).2
    by true off =
        let w = h.off off in
        subst (λ (es : List JournalEntry). AreasHold s.registry.sets (opening_of s.registry) (rows_of s.registry.opening) s.first es (map words_of s.registry.areas)) (sym w.split)
        (off_is_journal s.registry.sets (opening_of s.registry) w.began (rows_of s.registry.opening) w.words s.first w.left w.before w.later w.entry s.registry.areas w.on w.off w.same).2
