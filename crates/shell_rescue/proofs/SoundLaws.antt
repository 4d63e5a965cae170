-- The laws on what is read of a sound namespace.
use Rattle.std.proofs.Common.{◌≡◌, ◌≢◌, ℕ, zero, suc, ◌+◌, ◌/◌, Bool, true, false, cond, eqb, List, [], ◌∷◌, ◌++◌, drop, length, map, get_or, Option, Some, None, Result, Ok, Err, refl, sym, ap, ◌∙◌, arith, not, ◌||◌}
use Rattle.std.specs.Prelude.{filter, find, is_some}
use Rattle.std.specs.List.{flat_map, range_with_len}
use Rattle.std.proofs.lemmas.Bool.{eqb-false, eqb-true, ne_eqb}
use Rattle.std.proofs.lemmas.List.{length-drop}
use Rattle.std.proofs.lemmas.List.Sums.{sum_by-cons}
use Rattle.cut_words.specs.WordBytes.{bytes_of}
use Rattle.nfit_reader.specs.declared.table.Mapping.{Mapping}
use Rattle.label_codec.specs.declared.mode.Mode.{Mode}
use Rattle.map_table.specs.declared.kinds.Kind.{Kind}
use Rattle.map_table.specs.declared.kinds.Kind.TheVariants as kind
use Rattle.map_table.specs.Entry.{entry_of}
use Rattle.arena_open.specs.declared.opened.Opened.{Opened}
use Rattle.arena_open.specs.declared.state.ArenaState.{ArenaState}
use Rattle.arena_open.specs.Chain.{Link, chain_of, state_at}
use Rattle.arena_open.specs.Reading.{opening}
use Rattle.arena_open.proofs.Opening.{Parts, Sound, parts, sound}
use Rattle.arena_check.specs.declared.info.InfoSource.{InfoSource}
use Rattle.arena_check.specs.declared.info.InfoSource.TheVariants as source
use Rattle.arena_check.specs.Check.{in_arena, info_used, next_of, source_of}
use Rattle.arena_rescue.specs.declared.loss.Loss.{Loss}
use Rattle.arena_rescue.specs.declared.loss.Loss.TheVariants as loss
use Rattle.arena_rescue.specs.Laws.{marks}
use Rattle.arena_rescue.specs.Rescue.{is_marked}
use Rattle.namespace_map.specs.Commands.{is_complete, is_sector}
use Rattle.namespace_map.specs.Namespaces.{NamespaceEntry, Part, entry_at}
use Rattle.namespace_map.specs.declared.refused.OpRefused.{OpRefused}
use Rattle.namespace_map.specs.declared.refused.OpRefused.TheVariants.{NotComplete, NotSector}
use Rattle.label_rescue.specs.declared.rescued.RescueFound.{RescueFound}
use Rattle.label_rescue.proofs.Whole.{complete_found}
use Rattle.namespace_areas.specs.declared.found.Found.{Found}
use Rattle.namespace_areas.specs.Finding.{found_at, found_by, found_of, set_at}
use Rattle.namespace_ops.specs.Opening.{sets_of}
use Rattle.sector_namespaces.specs.View.{opened_view, rows_of, view_words}
use Rattle.namespace_bytes.specs.Bad.{bad_from, bad_in as bad_in_arena, first_bad, or_behind, says_bad}
use Rattle.namespace_bytes.proofs.Flagged.{first_bad_is}
use Rattle.shell_reports.specs.Causes.{fault_in}
use Rattle.shell_reports.specs.List.{labels_in_set}
use Rattle.shell_reports.specs.Outcome.{printed}
use Rattle.shell_reports.specs.Sectors.{on_arenas, unless_fault}
use Rattle.shell_check.specs.Comes.{bad_in}
use Rattle.shell_export.specs.Export.{export_outcome, is_raw, on_place, place_of, sectors_bytes, sectors_outcome}
use Rattle.shell_rescue.specs.declared.arena.ArenaLost.{ArenaLost}
use Rattle.shell_rescue.specs.declared.arena.ArenaRescued.{ArenaRescued}
use Rattle.shell_rescue.specs.Comes.{bytes_unless, on_named, rescue_outcome}
use Rattle.shell_rescue.specs.Laws.{NoneBad, SoundListEndsAsExport, SoundListIsMarks, SoundRescueEndsAsExport, SoundRescueIsExport, listed_of}
use Rattle.shell_rescue.specs.Lost.{count_in, lost_arenas, lost_by, lost_in, lost_within}
use Rattle.shell_rescue.specs.Reading.{refused_by}
use Rattle.shell_rescue.specs.Rescue.{arena_by, arenas_bytes, arenas_within, behind, rescued_bytes}
use Rattle.shell_rescue.proofs.SoundArena.{arena_is, first_used, losses_are, moves_are, no_notes, state_bytes}
use Rattle.shell_rescue.proofs.SoundChain.{FirstOpens, GoesOn, OpensAs, all_parts, are_all, first_opens, opens_as}
use Rattle.shell_rescue.proofs.SoundSectors.{sectors_are}

-- ---- lists

flat_mapped : {X Y Z : Type 0} (f : X → Y) (g : Y → List Z) (xs : List X) → flat_map (λ x. g (f x)) xs ≡ flat_map g (map f xs)
flat_mapped f g [] = refl
flat_mapped f g (x ∷ xs) = ap (λ zs. g (f x) ++ zs) (flat_mapped f g xs)

one_each : {X Y : Type 0} (f : X → Y) (xs : List X) → flat_map (λ x. f x ∷ []) xs ≡ map f xs
one_each f [] = refl
one_each f (x ∷ xs) = ap (λ ys. f x ∷ ys) (one_each f xs)

module _ (bad : ℕ → Bool) (words parent : List ℕ) (none : NoneBad bad words) where
  own_none : (at : ℕ) → NoneBad (in_arena at bad) (drop at words)
  own_none at i lt = none (at + i) (omega (arith, lt, length-drop at words))

  -- ---- the bytes

  abbrev link_bytes : Link → List ℕ
  link_bytes link = state_bytes (state_at words link)

  bytes_behind : (next at : ℕ) (b : Bool) (arenas : ℕ → List ArenaRescued)
      → arenas_bytes words (cond b [] (arenas (at + next / 8))) ≡ cond b [] (arenas_bytes words (arenas (at + next / 8)))
  bytes_behind next at true arenas = refl
  bytes_behind next at false arenas = refl

  bytes_on : GoesOn words parent (λ n at. arenas_bytes words (arenas_within n bad words parent at)) link_bytes
  unfolding arenas_within
  bytes_on n at opened is =
      ap (λ (s : InfoSource). arenas_bytes words (arena_by at bad (drop at words) (info_used s) ++ behind (next_of s) at (arenas_within n bad words parent)))
      (first_used (drop at words) parent opened is)
      ∙ (λ i. arena_is (drop at words) parent opened is (in_arena at bad) (own_none at) i
      ++ bytes_behind opened.info.next at (eqb opened.info.next 0) (arenas_within n bad words parent) i)

  -- ---- the list

  listed : (at : ℕ) (opened : Opened) → opening (drop at words) parent ≡ Ok opened
      → lost_by at bad (drop at words) (source.First opened.info) ≡ listed_of (record { at = at; opened = opened })
  listed at opened is =
      let p : Parts (drop at words) parent opened = parts (drop at words) parent opened is in
      let s : Sound (drop at words) parent opened = sound (drop at words) parent opened is in
      λ i. record {
        notes = no_notes at bad (drop at words) opened.info.layout opened.groups s.arena.sound.layout p.groups_is
            (λ k lt. own_none at k (omega (arith, lt, s.arena.size_inside))) i;
        moves = moves_are (drop at words) parent opened is (in_arena at bad) (own_none at) i;
        losses = losses_are (drop at words) parent opened is (in_arena at bad) (own_none at) i;
        whole = true;
      }

  list_on : GoesOn words parent (λ n at. lost_within n bad words parent at) (λ link. listed_of link ∷ [])
  unfolding lost_within
  list_on n at opened is =
      ap (λ (s : InfoSource). lost_by at bad (drop at words) s ∷ behind (next_of s) at (lost_within n bad words parent))
      (first_used (drop at words) parent opened is)
      ∙ ap (λ (a : ArenaLost). a ∷ behind opened.info.next at (lost_within n bad words parent)) (listed at opened is)

pub sound_rescue_is_export : SoundRescueIsExport
sound_rescue_is_export uuid bad words states none is =
    let o : OpensAs words uuid states = opens_as words uuid states is in
    all_parts words uuid (λ n at. arenas_bytes words (arenas_within n bad words uuid at)) (λ link. state_bytes (state_at words link)) (bytes_on bad words uuid none) states o
    ∙ flat_mapped (state_at words) state_bytes (chain_of words uuid 0).links
    ∙ ap (flat_map state_bytes) o.are
    ∙ sym (sectors_are states)

pub sound_list_is_marks : SoundListIsMarks
sound_list_is_marks uuid bad words states none is =
    all_parts words uuid (λ n at. lost_within n bad words uuid at) (λ link. listed_of link ∷ []) (list_on bad words uuid none) states (opens_as words uuid states is)
    ∙ one_each listed_of (chain_of words uuid 0).links

-- ---- whether a sector is listed

not_not : (b : Bool) → not (not b) ≡ b
not_not true = refl
not_not false = refl

-- the map and the cells say the same of a kind
says_so : (k : Kind) → is_marked k ≡ says_bad k
says_so kind.Initial = refl
says_so kind.Zero = refl
says_so kind.Bad = refl
says_so kind.Normal = refl

-- none of the numbers passes, or a first one does
one_more : (f : ℕ → Loss) (a : ℕ) (b c : Bool) (passed : List ℕ) (first : Option ℕ) → b ≡ c → eqb (length (map f passed)) 0 ≡ not (is_some first)
    → eqb (length (map f (cond b (a ∷ passed) passed))) 0 ≡ not (is_some (cond c (Some a) first))
one_more f a true true passed first same rest = ne_eqb (suc (length (map f passed))) 0 (λ e. absurd (omega (arith, e)))
one_more f a true false passed first same rest = absurd (let e = same in cc)
one_more f a false true passed first same rest = absurd (let e = same in cc)
one_more f a false false passed first same rest = rest

found_by_count : (f : ℕ → Loss) (p q : ℕ → Bool) (a n : ℕ) → ((k : ℕ) → p k ≡ q k)
    → eqb (length (map f (filter p (range_with_len a n)))) 0 ≡ not (is_some (find q (range_with_len a n)))
found_by_count f p q a zero same = refl
found_by_count f p q a (suc n) same =
    one_more f a (p a) (q a) (filter p (range_with_len (a + 1) n)) (find q (range_with_len (a + 1) n)) (same a) (found_by_count f p q (a + 1) n same)

both_none : (a b before : ℕ) (o p : Option ℕ) → eqb a 0 ≡ not (is_some o) → eqb b 0 ≡ not (is_some p) → eqb (a + b) 0 ≡ not (is_some (or_behind before o p))
both_none a b before (Some own) p some rest = let more : a ≢ 0 = eqb-false a 0 some in ne_eqb (a + b) 0 (λ e. more (omega (arith, e)))
both_none a b before None p none rest = ap (λ (n : ℕ). eqb n 0) (let e : a + b ≡ b = omega (arith, eqb-true a 0 none) in e) ∙ rest

count_none : (links : List Link) (before : ℕ) → eqb (count_in (map listed_of links)) 0 ≡ not (is_some (bad_from before links))
count_none [] before = refl
count_none (link ∷ links) before =
    ap (λ (n : ℕ). eqb n 0) (sum_by-cons lost_in (listed_of link) (map listed_of links))
    ∙ both_none (lost_in (listed_of link)) (count_in (map listed_of links)) before (bad_in_arena link.opened) (bad_from (before + link.opened.info.layout.external) links)
    (found_by_count loss.Marked (marks link.opened.entries) (λ own. says_bad (entry_of (get_or link.opened.entries own 0) own).kind) 0 link.opened.info.layout.external
    (λ own. says_so (entry_of (get_or link.opened.entries own 0) own).kind))
    (count_none links (before + link.opened.info.layout.external))

pub sound_list_ends_as_export : SoundListEndsAsExport
sound_list_ends_as_export uuid bad words states none is =
    let o : OpensAs words uuid states = opens_as words uuid states is in
    let count : eqb (count_in (lost_arenas bad words uuid)) 0 ≡ not (is_some (first_bad states)) =
    ap (λ (arenas : List ArenaLost). eqb (count_in arenas) 0) (sound_list_is_marks uuid bad words states none is)
    ∙ count_none (chain_of words uuid 0).links 0
    ∙ ap (λ (first : Option ℕ). not (is_some first)) (first_bad_is (chain_of words uuid 0).links words uuid (are_all words uuid states is))
    ∙ ap (λ (ss : List ArenaState). not (is_some (first_bad ss))) o.are in
    ap not count ∙ not_not (is_some (first_bad states))

-- ---- the whole command

-- a namespace of sectors that is found has its place for `export` too
record Placed (sets : List (List Mapping)) (o : Option NamespaceEntry) (found : Found) : Type 0 where
  place : place_of sets o ≡ Ok found
  sectors : is_sector found.mode ≡ true

mode_of : (sets : List (List Mapping)) (mode : Mode) (region : Option ℕ) (parts : List Part) (found : Found) → found_by sets mode region parts ≡ Ok found → found.mode ≡ mode
mode_of sets mode None parts found is = absurd (let e = is in cc)
mode_of sets mode (Some region) [] found is = absurd (let e = is in cc)
mode_of sets mode (Some region) (part ∷ parts) found is =
    let same : found_at sets mode region part.extent ≡ found = let e = is in cc in
    ap (λ (f : Found). f.mode) (sym same)

by_tests : (sets : List (List Mapping)) (e : NamespaceEntry) (found : Found) (complete sectors : Bool) → is_complete e.status ≡ complete → is_sector e.mode ≡ sectors
    → cond (not complete) (Err NotComplete) (cond (not sectors) (Err NotSector) (found_by sets e.mode e.region e.parts)) ≡ Ok found → Placed sets (Some e) found
by_tests sets e found false sectors c s is = absurd (let f = is in cc)
by_tests sets e found true false c s is = absurd (let f = is in cc)
by_tests sets e found true true c s is = record {
  place = (λ i. cond (not (c i)) (Err NotComplete) (cond (not (s i || is_raw e.mode)) (Err NotSector) (found_by sets e.mode e.region e.parts))) ∙ is;
  sectors = ap is_sector (mode_of sets e.mode e.region e.parts found is) ∙ s;
}

placed : (sets : List (List Mapping)) (o : Option NamespaceEntry) (found : Found) → found_of sets o ≡ Ok found → Placed sets o found
placed sets None found is = absurd (let e = is in cc)
placed sets (Some e) found is = by_tests sets e found (is_complete e.status) (is_sector e.mode) refl refl is

-- the first arena is read by its first info block
none_refused : (words parent : List ℕ) (states : List ArenaState) → opened_view words parent ≡ Ok states → refused_by (source_of words parent) ≡ None
none_refused words parent states is = let f : FirstOpens words parent = first_opens words parent states (opens_as words parent states is) in ap refused_by (first_used words parent f.opened f.is)

pub sound_rescue_ends_as_export : SoundRescueEndsAsExport
unfolding rescue_outcome export_outcome view_words
sound_rescue_ends_as_export loaded uuid found states is none opens =
    let words : List ℕ = view_words (set_at (sets_of loaded.nfit) found.region) found (rows_of loaded.contents) in
    let bytes : rescued_bytes (bad_in loaded found) words uuid ≡ sectors_bytes states = sound_rescue_is_export uuid (bad_in loaded found) words states none opens in
    let first : refused_by (source_of words uuid) ≡ None = none_refused words uuid states opens in
    let p : Placed (sets_of loaded.nfit) (entry_at (sets_of loaded.nfit) (labels_in_set loaded) uuid) found =
    placed (sets_of loaded.nfit) (entry_at (sets_of loaded.nfit) (labels_in_set loaded) uuid) found is in
    ap (λ (r : Result RescueFound OpRefused). unless_fault (fault_in loaded) (on_named uuid false loaded r))
    (complete_found (sets_of loaded.nfit) (labels_in_set loaded) (λ e. 0) uuid found is)
    ∙ (λ i. unless_fault (fault_in loaded) (bytes_unless uuid (first i) (bytes i)))
    ∙ sym (
    ap (λ (r : Result Found OpRefused). unless_fault (fault_in loaded) (on_place uuid true (sets_of loaded.nfit) loaded.contents r)) p.place
    ∙ (λ i. unless_fault (fault_in loaded) (cond (p.sectors i) (on_arenas uuid (sectors_outcome true) (opens i)) (printed (bytes_of words))))
    )
