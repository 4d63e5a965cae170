-- The words of a namespace with the runs of a write: its pending moves are made, and one sector has the value.
use Rattle.std.proofs.Common.{◌≡◌, ℕ, zero, suc, ◌+◌, ◌/◌, ◌<◌, ◌≤◌, List, [], ◌∷◌, ◌++◌, length, map, get_or, take, drop, Ok, refl, sym, ap, ◌∙◌, subst, inl, inr, arith}
use Rattle.std.proofs.lemmas.List.{get_or-map, length-map}
use Rattle.std.proofs.lemmas.List.Elements.{All-get_or}
use Rattle.std.proofs.lemmas.List.Sums.{sum_by-cons}
use Rattle.cut_words.specs.WordBytes.{put_at, words_in}
use Rattle.arena_open.specs.declared.state.ArenaState.{ArenaState}
use Rattle.arena_open.specs.Chain.{Link, state_at}
use Rattle.arena_open.specs.InPlace.{LiesInLink, external_in}
use Rattle.arena_open.specs.Moves.{IsOpenState}
use Rattle.arena_open.specs.Reading.{opening}
use Rattle.arena_open.proofs.ChainInPlace.{lies_in}
use Rattle.arena_open.proofs.States.{open_state}
use Rattle.sector_namespaces.specs.Changing.{start_of}
use Rattle.sector_namespaces.proofs.Chains.{one_arena_changes}
use Rattle.lane_alone.specs.Lone.{lone_words}
use Rattle.lane_alone.proofs.Written.{written}
use Rattle.namespace_bytes.specs.Putting.{AreAll, Linked}
use Rattle.namespace_bytes.specs.Runs.{runs_byte}
use Rattle.namespace_bytes.specs.SectorBytes.{HasMapOfBytes, HaveMapsOfBytes}
use Rattle.namespace_bytes.proofs.ByteWords.{changed}
use Rattle.namespace_bytes.proofs.RunWords.{all_changed}
use Rattle.namespace_words.specs.Moves.{HaveMoves, move_runs}
use Rattle.namespace_words.proofs.MadeMoves.{moves_are_made}
use Rattle.shell_sectors.specs.LoneRuns.{lone_runs}
use Rattle.shell_sectors.specs.Write.{HasSector}
use Rattle.shell_sectors.proofs.Answered.{since}
use Rattle.shell_sectors.proofs.Changes.{found_words, has_sector}
use Rattle.shell_sectors.proofs.Changes.{fits as room_in}
use Rattle.shell_sectors.proofs.LonePuts.{lone_put, values_count}

-- where an arena begins, and that it opens there
starts_at : (links : List Link) (words parent : List ℕ) (at k : ℕ) (d : Link) → Linked words parent at links → k < length links
    → ((get_or links k d).at ≡ at + start_of (take k (map (state_at words) links))) × (opening (drop (get_or links k d).at words) parent ≡ Ok (get_or links k d).opened)
starts_at [] words parent at k d l lt = absurd (omega (arith, lt))
starts_at (first ∷ links) words parent at zero d l lt = (omega (arith, l.0), subst (λ (p : ℕ). opening (drop p words) parent ≡ Ok first.opened) (sym l.0) l.2)
starts_at (first ∷ links) words parent at (suc k) d l lt = elim l.3 [
  | inl last ↦ absurd (omega (arith, lt, ap length last.1))
  | inr more ↦
      let rest = starts_at links words parent (at + first.opened.info.next / 8) k d more.1 (omega (arith, lt)) in
      let sum : start_of (state_at words first ∷ take k (map (state_at words) links)) ≡ first.opened.info.next / 8 + start_of (take k (map (state_at words) links)) =
      sum_by-cons (λ (state : ArenaState). state.info.next / 8) (state_at words first) (take k (map (state_at words) links)) in
      (omega (arith, rest.0, sum), rest.1)
]

module _ (links : List Link) (uuid row : List ℕ) (all : AreAll (words_in row) uuid links) (small : HaveMapsOfBytes row links) (sector which own : ℕ) (lies : LiesInLink links sector which own)
    (link : Link) (is : (d : Link) → link ≡ get_or links which d) (value : List ℕ) (fits : length value ≡ link.opened.info.layout.sector) where
  abbrev words : List ℕ
  words = words_in row

  abbrev states : List ArenaState
  states = map (state_at (words_in row)) links

  abbrev state : ArenaState
  state = state_at (words_in row) link

  m : HaveMoves uuid row (changed (runs_byte (move_runs links)) row) links
  m = moves_are_made links uuid row all small

  abbrev made : List ℕ
  made = changed (runs_byte (move_runs links)) row

  opens : opening (drop link.at (words_in row)) uuid ≡ Ok link.opened
  opens = subst (λ (it : Link). opening (drop it.at (words_in row)) uuid ≡ Ok it.opened) (sym (is link)) (starts_at links (words_in row) uuid 0 which link all.linked lies.there).1

  there : which < length states
  there = omega (arith, lies.there, length-map links (state_at (words_in row)))

  at_which : (d : ArenaState) → state ≡ get_or states which d
  at_which d = ap (state_at (words_in row)) (is link) ∙ sym (get_or-map (state_at (words_in row)) links which link d lies.there)

  start : link.at ≡ start_of (take which states)
  start =
      let from : 0 + start_of (take which states) ≡ start_of (take which states) = omega arith in
      ap (λ (it : Link). it.at) (is link) ∙ (starts_at links (words_in row) uuid 0 which link all.linked lies.there).0 ∙ from

  h : IsOpenState state
  h = open_state (drop link.at (words_in row)) uuid link.opened opens

  inside : own < link.opened.info.layout.external
  inside = subst (λ (it : Link). own < external_in it) (sym (is link)) (lies.inside link)

  -- the arena's words, with its moves made
  own_words : take (link.opened.info.layout.size / 8) (drop link.at (words_in made)) ≡ state.words
  own_words =
      subst (λ (p : ℕ). take (link.opened.info.layout.size / 8) (drop p (words_in made)) ≡ state.words) (sym start)
      (found_words (words_in made) states which state at_which there h state.words refl uuid m.found)

  own_room : link.at + link.opened.info.layout.size / 8 ≤ length (words_in made)
  own_room =
      let room : start_of (take which states) + length state.words ≤ length (words_in made) = room_in (words_in made) states which state at_which there h state.words refl uuid m.found in
      omega (arith, room, start, h.count)

  left_is : words_in (changed (runs_byte (lone_runs link own value)) made) ≡ put_at (words_in made) (start_of (take which states)) (lone_words state own (words_in value))
  left_is =
      lone_put link (words_in row) uuid opens made own value inside fits own_room own_words
      (subst (HasMapOfBytes made) (sym (is link)) (All-get_or (HasMapOfBytes made) links which link lies.there m.maps))
      ∙ ap (λ (p : ℕ). put_at (words_in made) p (lone_words state own (words_in value))) start

  long : length (words_in value) ≡ state.info.layout.sector / 8
  long = values_count link (words_in row) uuid opens value fits

  pub written_runs : HasSector uuid sector (words_in value) (map (state_at (words_in row)) links) (words_in row) (words_in (changed (runs_byte (move_runs links ++ lone_runs link own value)) row))
  written_runs =
      subst (HasSector uuid sector (words_in value) states (words_in row)) (sym (ap words_in (all_changed (move_runs links) (lone_runs link own value) row) ∙ left_is))
      (since uuid sector (words_in value) states (words_in row) (words_in made) (put_at (words_in made) (start_of (take which states)) (lone_words state own (words_in value))) m.behind
      (has_sector (words_in made) states which own (words_in value) state at_which there h (lone_words state own (words_in value)) (written state h own inside (words_in value) long) uuid m.found one_arena_changes sector
      (lies_in (words_in row) links sector which own lies)))
