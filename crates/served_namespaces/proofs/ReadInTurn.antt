-- The arenas of namespaces are read, one namespace after another.
use Rattle.std.proofs.Common.{◌≡◌, ℕ, ◌+◌, ◌*◌, ◌/◌, ◌%◌, ◌^◌, ◌<◌, ◌≤◌, List, [], ◌∷◌, ◌++◌, length, drop, take, get_or, map, Option, Result, Ok, Err, refl, sym, ap, ◌∙◌, subst, arith, append-nil, append_assoc}
use Rattle.std.specs.List.{All}
use Rattle.std.proofs.Math.Nat.{div-add-mod'}
use Rattle.std.proofs.lemmas.List.{drop_all, map-append}
use Rattle.std.proofs.lemmas.List.Elements.{All-append, All-cons, All-nil}
use Rattle.std.proofs.lemmas.List.Sums.{sum_by-cons}
use Rattle.std.proofs.lemmas.Nat.{mod-mul-add, mul-le}
use Rattle.nvd_media.specs.Images.{Images}
use Rattle.nfit_reader.specs.declared.table.Mapping.{Mapping}
use Rattle.interleave.specs.Places.{unit_of}
use Rattle.interleave.specs.Sound.{span_of}
use Rattle.arena_open.specs.declared.chain_refused.ChainRefused.{ChainRefused}
use Rattle.arena_open.specs.declared.state.ArenaState.{ArenaState}
use Rattle.arena_open.specs.Chain.{Link, state_at}
use Rattle.namespace_areas.specs.declared.found.Found.{Found}
use Rattle.namespace_areas.specs.Finding.{LiesInSet, set_at}
use Rattle.namespace_words.specs.Source.{HasEnds, size_of, sizes_of}
use Rattle.sector_namespaces.specs.View.{opened_view, rows_of}
use Rattle.served_namespaces.specs.declared.places.FoundNamespace.{FoundNamespace}
use Rattle.served_namespaces.specs.declared.places.OpenedNamespace.{OpenedNamespace}
use Rattle.served_namespaces.specs.declared.places.ReadNamespace.{ReadNamespace}
use Rattle.served_namespaces.specs.Opening.{Broken, and_opened, on_states, opened_each}
use Rattle.served_namespaces.specs.Places.{words_at}
use Rattle.served_namespaces.specs.Reading.{AreReadable, HaveEnds, IsReadIn, IsSoundRead, RevealsAll, opened_all, opened_bytes, opened_in, read_bytes, states_bytes}
use Rattle.served_namespaces.proofs.Parts.{next_item}
use Rattle.served_namespaces.proofs.Steps.{take_next}

-- ---- a namespace that was found

-- whole units are whole pages
pub whole_pages : (unit raw ways : ℕ) → unit % 4096 ≡ 0 → raw % unit ≡ 0 → ways * raw % 4096 ≡ 0
whole_pages unit raw ways pages units =
    let unit_is : unit ≡ 4096 * (unit / 4096) = omega (arith, pages) in
    let raw_is : raw ≡ raw / unit * unit = omega (arith, div-add-mod' raw unit, units) in
    let raw_pages : raw ≡ raw / unit * (unit / 4096) * 4096 = raw_is ∙ ap (λ (u : ℕ). raw / unit * u) unit_is ∙ omega arith in
    let product : ways * raw ≡ ways * (raw / unit * (unit / 4096)) * 4096 + 0 = ap (λ (r : ℕ). ways * r) raw_pages ∙ omega arith in
    ap (λ (n : ℕ). n % 4096) product ∙ mod-mul-add (ways * (raw / unit * (unit / 4096))) 4096 0 (omega arith)

module _ (sets : List (List Mapping)) (readable : AreReadable sets) (found : Found) (lies : LiesInSet sets found) (set : List Mapping) (is : set ≡ set_at sets found.region) where
  pub read_pages : length set * found.raw % 4096 ≡ 0
  read_pages =
      subst (λ (ms : List Mapping). length ms * found.raw % 4096 ≡ 0) (sym is)
      (whole_pages (unit_of (set_at sets found.region)) found.raw (length (set_at sets found.region)) (readable found.region lies.region).pages lies.to)

  few_at : length (set_at sets found.region) * found.raw ≤ 2 ^ 55
  few_at =
      let ways = length (set_at sets found.region) in
      let span = span_of (set_at sets found.region) in
      let within : length (set_at sets found.region) * found.raw ≤ length (set_at sets found.region) * span_of (set_at sets found.region) = mul-le ways found.raw ways span (omega arith) (omega (arith, lies.inside)) in
      omega (arith, within, (readable found.region lies.region).few)

  pub read_few : length set * found.raw ≤ 2 ^ 55
  read_few = subst (λ (ms : List Mapping). length ms * found.raw ≤ 2 ^ 55) (sym is) few_at

  pub read_ends : (held : Option Images) → HaveEnds held sets → HasEnds held set
  read_ends held ends = subst (λ (ms : List Mapping). HasEnds held ms) (sym is) (ends found.region lies.region)

-- ---- the answer

-- for those that were read, and the rest
abbrev pub behind_of : List OpenedNamespace → Result (List OpenedNamespace) Broken → Result (List OpenedNamespace) Broken
behind_of opened (Ok rest) = Ok (opened ++ rest)
behind_of opened (Err broken) = Err broken

behind_one : (opened : List OpenedNamespace) (o : OpenedNamespace) (rest : Result (List OpenedNamespace) Broken) → behind_of opened (and_opened o rest) ≡ behind_of (opened ++ o ∷ []) rest
behind_one opened o (Ok rest) = ap (λ (os : List OpenedNamespace). Ok os) (sym (append_assoc opened (o ∷ []) rest))
behind_one opened o (Err broken) = refl

-- with nothing before it it is the same
behind_none : (rest : Result (List OpenedNamespace) Broken) → behind_of [] rest ≡ rest
behind_none (Ok rest) = refl
behind_none (Err broken) = refl

-- the next opens
answer_next : (sets : List (List Mapping)) (contents : List (List ℕ)) (opened : List OpenedNamespace) (place : FoundNamespace) (places : List FoundNamespace) (states : List ArenaState)
    → opened_view (words_at sets place.found (rows_of contents)) place.uuid ≡ Ok states
    → behind_of opened (opened_each sets (rows_of contents) (place ∷ places)) ≡ behind_of (opened ++ record { place = place; states = states } ∷ []) (opened_each sets (rows_of contents) places)
answer_next sets contents opened place places states read =
    ap (λ (r : Result (List ArenaState) ChainRefused). behind_of opened (on_states place r (opened_each sets (rows_of contents) places))) read
    ∙ behind_one opened (record { place = place; states = states }) (opened_each sets (rows_of contents) places)

-- ---- the first ones were read

abbrev pub place_read : ReadNamespace → FoundNamespace
place_read n = n.place

pub record ReadFirst (sets : List (List Mapping)) (held : Option Images) (places : List FoundNamespace) (i : ℕ) (read : List ReadNamespace) : Type 0 where
  pub front : map place_read read ≡ take i places
  pub sound : All (IsSoundRead sets) read
  pub all : (contents : List (List ℕ)) → RevealsAll held sets contents → All (IsReadIn sets contents) read
  pub answer : (contents : List (List ℕ)) → RevealsAll held sets contents
      → behind_of (opened_all sets contents read) (opened_each sets (rows_of contents) (drop i places)) ≡ opened_each sets (rows_of contents) places

pub none_read : (sets : List (List Mapping)) (held : Option Images) (places : List FoundNamespace) → ReadFirst sets held places 0 []
none_read sets held places = record {
  front = refl;
  sound = All-nil (IsSoundRead sets);
  all = λ contents reveals. All-nil (IsReadIn sets contents);
  answer = λ contents reveals. behind_none (opened_each sets (rows_of contents) places);
}

module _ (sets : List (List Mapping)) (held : Option Images) (places : List FoundNamespace) (i : ℕ) (read : List ReadNamespace) (first : ReadFirst sets held places i read) (place : FoundNamespace) (lt : i < length places)
    (is : place ≡ get_or places i place) where
  next : drop i places ≡ place ∷ drop (i + 1) places
  next = next_item places i place lt is

  -- one more
  pub read_next : (one : ReadNamespace) (longer : List ReadNamespace) → longer ≡ read ++ one ∷ [] → one.place ≡ place → IsSoundRead sets one
      → ((contents : List (List ℕ)) → RevealsAll held sets contents → IsReadIn sets contents one) → ReadFirst sets held places (i + 1) longer
  read_next one longer list here sound told = subst (ReadFirst sets held places (i + 1)) (sym list) (record {
    front = map-append place_read read (one ∷ []) ∙ (λ j. first.front j ++ here j ∷ []) ∙ sym (take_next places i place lt is);
    sound = All-append (IsSoundRead sets) read (one ∷ []) first.sound (All-cons (IsSoundRead sets) one [] sound (All-nil (IsSoundRead sets)));
    all = λ contents reveals.
        All-append (IsReadIn sets contents) read (one ∷ []) (first.all contents reveals) (All-cons (IsReadIn sets contents) one [] (told contents reveals) (All-nil (IsReadIn sets contents)));
    answer = λ contents reveals.
        let r : IsReadIn sets contents one = told contents reveals in
        let rest = opened_each sets (rows_of contents) (drop (i + 1) places) in
        let opened : List OpenedNamespace = opened_all sets contents read in
        let states : List ArenaState = map (state_at (words_at sets one.place.found (rows_of contents))) one.arenas in
        ap (λ (os : List OpenedNamespace). behind_of os (opened_each sets (rows_of contents) (drop (i + 1) places))) (map-append (opened_in sets contents) read (one ∷ []))
        ∙ sym (answer_next sets contents opened one.place (drop (i + 1) places) states r.all.read)
        ∙ ap (λ (ps : List FoundNamespace). behind_of (opened_all sets contents read) (opened_each sets (rows_of contents) ps)) ((λ j. here j ∷ drop (i + 1) places) ∙ sym next)
        ∙ first.answer contents reveals;
  })

  -- or the next doesn't open
  pub broken_next : (contents : List (List ℕ)) → RevealsAll held sets contents → (uuid : List ℕ) (fault : ChainRefused) → uuid ≡ place.uuid → opened_view (words_at sets place.found (rows_of contents)) place.uuid ≡ Err fault
      → opened_each sets (rows_of contents) places ≡ Err (record { uuid = uuid; fault = fault })
  broken_next contents reveals uuid fault same view =
      sym (first.answer contents reveals)
      ∙ ap (λ (ps : List FoundNamespace). behind_of (opened_all sets contents read) (opened_each sets (rows_of contents) ps)) next
      ∙ ap (λ (r : Result (List ArenaState) ChainRefused). behind_of (opened_all sets contents read) (on_states place r (opened_each sets (rows_of contents) (drop (i + 1) places)))) view
      ∙ (λ j. Err (record { uuid = sym same j; fault = fault }))

-- all of them
module _ (sets : List (List Mapping)) (held : Option Images) (places : List FoundNamespace) (i : ℕ) (read : List ReadNamespace) (first : ReadFirst sets held places i read) (past : length places ≤ i) where
  pub all_opened : (contents : List (List ℕ)) → RevealsAll held sets contents → opened_each sets (rows_of contents) places ≡ Ok (opened_all sets contents read)
  all_opened contents reveals =
      sym (first.answer contents reveals)
      ∙ ap (λ (ps : List FoundNamespace). behind_of (opened_all sets contents read) (opened_each sets (rows_of contents) ps)) (drop_all i places past)
      ∙ ap (λ (os : List OpenedNamespace). Ok os) (append-nil (opened_all sets contents read))

-- ---- how many bytes the arenas have

pub sizes_more : (links : List Link) (i : ℕ) (link : Link) → i < length links → link ≡ get_or links i link → sizes_of (drop i links) ≡ link.opened.info.layout.size + sizes_of (drop (i + 1) links)
sizes_more links i link lt is = ap sizes_of (next_item links i link lt is) ∙ sum_by-cons size_of link (drop (i + 1) links)

pub bytes_more : (read : List ReadNamespace) (i : ℕ) (n : ReadNamespace) → i < length read → n ≡ get_or read i n → read_bytes (drop i read) ≡ sizes_of n.arenas + read_bytes (drop (i + 1) read)
bytes_more read i n lt is = ap read_bytes (next_item read i n lt is) ∙ sum_by-cons (λ (m : ReadNamespace). sizes_of m.arenas) n (drop (i + 1) read)

states_same : (words : List ℕ) (links : List Link) → states_bytes (map (state_at words) links) ≡ sizes_of links
states_same words [] = refl
states_same words (link ∷ links) =
    sum_by-cons (λ (s : ArenaState). s.info.layout.size) (state_at words link) (map (state_at words) links)
    ∙ ap (λ (k : ℕ). link.opened.info.layout.size + k) (states_same words links) ∙ sym (sum_by-cons size_of link links)

pub opened_same : (sets : List (List Mapping)) (contents : List (List ℕ)) (read : List ReadNamespace) → opened_bytes (opened_all sets contents read) ≡ read_bytes read
opened_same sets contents [] = refl
opened_same sets contents (n ∷ read) =
    sum_by-cons (λ (o : OpenedNamespace). states_bytes o.states) (opened_in sets contents n) (opened_all sets contents read)
    ∙ (λ i. states_same (words_at sets n.place.found (rows_of contents)) n.arenas i + opened_same sets contents read i)
    ∙ sym (sum_by-cons (λ (m : ReadNamespace). sizes_of m.arenas) n read)
