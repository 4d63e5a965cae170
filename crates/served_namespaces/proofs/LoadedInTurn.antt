-- The arenas of namespaces are opened in memory, one namespace after another.
use Rattle.std.proofs.Common.{◌≡◌, ◌≢◌, ℕ, ◌*◌, ◌/◌, ◌^◌, ◌≤◌, List, [], ◌∷◌, ◌++◌, length, drop, map, Option, Result, Ok, Err, refl, sym, ap, ◌∙◌, subst, inl, inr, arith}
use Rattle.std.specs.List.{All}
use Rattle.std.proofs.lemmas.List.{map-append}
use Rattle.std.proofs.lemmas.List.Elements.{All-append, All-cons, All-head, All-nil, All-tail, Contains-push_cases}
use Rattle.nvd_media.specs.Images.{Images}
use Rattle.cut_words.specs.WordBytes.{words_in}
use Rattle.nfit_reader.specs.declared.table.Mapping.{Mapping}
use Rattle.arena_open.specs.declared.chain_refused.ChainRefused.{ChainRefused}
use Rattle.arena_open.specs.declared.refused.OpenRefused.TheVariants as open_refused
use Rattle.arena_open.specs.declared.state.ArenaState.{ArenaState}
use Rattle.arena_open.specs.Chain.{HasMemory, Link, found_again, state_at, wants_memory}
use Rattle.arena_open.proofs.Bytes.{length_words}
use Rattle.power_cut.specs.Namespace.{IsLaid, Namespace, over}
use Rattle.namespace_areas.specs.Finding.{set_at}
use Rattle.namespace_bytes.specs.Patching.{bytes_by_place}
use Rattle.namespace_bytes.specs.Putting.{AreAll}
use Rattle.namespace_bytes.specs.Runs.{runs_byte}
use Rattle.namespace_bytes.proofs.ByteWords.{changed}
use Rattle.namespace_words.specs.Moves.{HaveMoves, move_runs}
use Rattle.namespace_words.specs.Source.{Reveals, words_by}
use Rattle.namespace_words.proofs.HeldBytes.{words_are}
use Rattle.namespace_words.proofs.MadeMoves.{moves_are_made}
use Rattle.namespace_words.proofs.UncutArenas.{read_uncut}
use Rattle.sector_namespaces.specs.Changing.{IsFinding}
use Rattle.sector_namespaces.specs.View.{opened_view, rows_of}
use Rattle.sector_namespaces.proofs.Chains.{view_walk}
use Rattle.served_namespaces.specs.declared.places.FoundNamespace.{FoundNamespace}
use Rattle.served_namespaces.specs.declared.places.NotOpened.{NotOpened}
use Rattle.served_namespaces.specs.declared.places.NotOpened.TheVariants.{Broken}
use Rattle.served_namespaces.specs.declared.places.OpenedNamespace.{OpenedNamespace}
use Rattle.served_namespaces.specs.declared.places.ReadNamespace.{ReadNamespace}
use Rattle.served_namespaces.specs.Places.{arena_words, place_in, words_at}
use Rattle.served_namespaces.specs.Reading.{AreHeld, IsHeld, IsOpened, IsReadIn, IsSoundRead, RevealsAll, opened_all, opened_in}
use Rattle.served_namespaces.specs.Steps.{IsRefused}
use Rattle.served_namespaces.proofs.Arenas.{all_inside}
use Rattle.served_namespaces.proofs.ReadInTurn.{place_read}
use Rattle.served_namespaces.proofs.Steps.{place_of}

-- ---- what was loaded

-- the states that were loaded, if memory lasted
pub chain_is : (r : Result (List ArenaState) ChainRefused) (states due : List ArenaState) → r ≡ Ok states → (HasMemory r → r ≡ Ok due) → states ≡ due
chain_is r states due is told =
    let both : Ok states ≡ Ok due = sym is ∙ told (λ k e. let clash = sym is ∙ e in cc) in cc

-- what a source reveals opens again
pub never_refused : (r : Result (List ArenaState) ChainRefused) (refused : ChainRefused) (due : List ArenaState) → r ≡ Err refused → IsFinding refused → (HasMemory r → r ≡ Ok due) → ⊥
never_refused r refused due is finding told =
    let has : HasMemory r = λ k e.
    finding (let both = sym is ∙ e in let same : refused ≡ wants_memory k = cc in ap (λ (f : ChainRefused). f.fault) same) in
    let clash = sym is ∙ told has in cc

-- there is a place for the arenas in the words in which they were opened
pub few_words : (r : Result (List ArenaState) ChainRefused) (states : List ArenaState) (words uuid : List ℕ) (bytes : ℕ) → r ≡ Ok states → 8 * length words ≤ bytes → bytes ≤ 2 ^ 55
    → (HasMemory r → r ≡ opened_view words uuid) → arena_words states ≤ 2 ^ 52
few_words r states words uuid bytes is long few told =
    let view : opened_view words uuid ≡ Ok states = sym (told (λ k e. let clash = sym is ∙ e in cc)) ∙ is in
    omega (arith, all_inside words uuid 0 states (view_walk words uuid states view), long, few)

-- ---- the words of a namespace that was read

module _ (sets : List (List Mapping)) (held : Option Images) (contents : List (List ℕ)) (reveals : RevealsAll held sets contents) (n : ReadNamespace) (can : IsSoundRead sets n) (read : IsReadIn sets contents n)
    (laid : IsLaid (place_in sets n.place.found [])) where
  abbrev row : List ℕ
  row = bytes_by_place (set_at sets n.place.found.region) n.place.found.offset n.place.found.raw contents

  abbrev was : List ℕ
  was = words_at sets n.place.found (rows_of contents)

  here : was ≡ words_in row
  here =
      let r : Reveals held (set_at sets n.place.found.region) contents = reveals n.place.found.region can.can.lies.region in
      words_are (place_in sets n.place.found []) contents laid r.reach

  moves : HaveMoves n.place.uuid row (changed (runs_byte (move_runs n.arenas)) row) n.arenas
  moves = moves_are_made n.arenas n.place.uuid row (subst (λ (ws : List ℕ). AreAll ws n.place.uuid n.arenas) here read.all) read.maps

  states_are : map (state_at (words_in row)) n.arenas ≡ map (state_at was) n.arenas
  states_are = ap (λ (ws : List ℕ). map (state_at ws) n.arenas) (sym here)

  pub is_held : IsHeld sets (rows_of contents) (opened_in sets contents n)
  is_held = record {
    moved = words_in (changed (runs_byte (move_runs n.arenas)) row);
    long = omega (arith, length_words (changed (runs_byte (move_runs n.arenas)) row), length_words row, ap (λ (k : ℕ). k / 8) moves.size, ap (λ (ws : List ℕ). length ws) here);
    found = moves.found ∙ ap (λ (ss : List ArenaState). Ok (map found_again ss)) states_are;
    behind =
        subst (λ (ss : List ArenaState). drop (arena_words ss) (words_in (changed (runs_byte (move_runs n.arenas)) row)) ≡ drop (arena_words ss) (words_in row)) states_are moves.behind
        ∙ ap (drop (arena_words (map (state_at was) n.arenas))) (sym here);
  }

-- what was loaded, if memory lasted
abbrev Told : Option Images → List (List ℕ) → List ℕ → Result (List ArenaState) ChainRefused → List Link → Namespace → Type 0
Told held contents uuid r links e = Reveals held e.set contents → AreAll (words_by e contents) uuid links → HasMemory r → r ≡ Ok (map (state_at (words_by e contents)) links)

pub loaded_here : (sets : List (List Mapping)) (held : Option Images) (contents : List (List ℕ)) → RevealsAll held sets contents → (n : ReadNamespace) → IsSoundRead sets n → IsReadIn sets contents n
    → (set : List Mapping) → set ≡ set_at sets n.place.found.region → (e : Namespace) → e ≡ over set n.place.found.offset n.place.found.raw [] → (links : List Link) → links ≡ n.arenas
    → (r : Result (List ArenaState) ChainRefused) → Told held contents n.place.uuid r links e → HasMemory r → r ≡ Ok (opened_in sets contents n).states
loaded_here sets held contents reveals n can read set is e made links same r told =
    let here : Told held contents n.place.uuid r n.arenas (over (set_at sets n.place.found.region) n.place.found.offset n.place.found.raw []) =
    subst (λ (s : List Mapping). Told held contents n.place.uuid r n.arenas (over s n.place.found.offset n.place.found.raw [])) is
    (subst (λ (m : Namespace). Told held contents n.place.uuid r n.arenas m) made (subst (λ (ls : List Link). Told held contents n.place.uuid r ls e) same told)) in
    here (reveals n.place.found.region can.can.lies.region) read.all

-- ---- the first ones are loaded

pub record LoadedFirst (sets : List (List Mapping)) (held : Option Images) (done : List ReadNamespace) (opened : List OpenedNamespace) : Type 0 where
  pub front : map place_of opened ≡ map place_read done
  pub each : All (IsOpened sets) opened
  pub are : (contents : List (List ℕ)) → RevealsAll held sets contents → All (IsReadIn sets contents) done → opened ≡ opened_all sets contents done
  pub holds : (contents : List (List ℕ)) → RevealsAll held sets contents → All (IsReadIn sets contents) done → AreHeld sets (rows_of contents) opened

none_in : (sets : List (List Mapping)) (contents : List (List ℕ)) → AreHeld sets (rows_of contents) []
none_in sets contents o among = absurd (omega (arith, among.1))

pub none_loaded : (sets : List (List Mapping)) (held : Option Images) → LoadedFirst sets held [] []
none_loaded sets held = record {
  front = refl;
  each = All-nil (IsOpened sets);
  are = λ contents reveals all. refl;
  holds = λ contents reveals all. none_in sets contents;
}

-- the front of a list, and an item of it
all_front : {X : Type 0} (P : X → Type 0) (xs ys : List X) → All P (xs ++ ys) → All P xs
all_front P [] ys all = All-nil P
all_front P (x ∷ xs) ys all = All-cons P x xs (All-head P x (xs ++ ys) all) (all_front P xs ys (All-tail P x (xs ++ ys) all))

pub all_next : {X : Type 0} (P : X → Type 0) (xs : List X) (x : X) (ys : List X) → All P (xs ++ x ∷ ys) → P x
all_next P [] x ys all = All-head P x ys all
all_next P (z ∷ xs) x ys all = all_next P xs x ys (All-tail P z (xs ++ x ∷ ys) all)

-- one more
pub loaded_next : (sets : List (List Mapping)) (held : Option Images) (done : List ReadNamespace) (opened : List OpenedNamespace) (n : ReadNamespace) (o : OpenedNamespace) (longer : List OpenedNamespace) → longer ≡ opened ++ o ∷ []
    → LoadedFirst sets held done opened → o.place ≡ n.place → IsOpened sets o
    → ((contents : List (List ℕ)) → RevealsAll held sets contents → IsReadIn sets contents n → (o ≡ opened_in sets contents n) × IsHeld sets (rows_of contents) o)
    → LoadedFirst sets held (done ++ n ∷ []) longer
loaded_next sets held done opened n o longer list first here is_open told = subst (LoadedFirst sets held (done ++ n ∷ [])) (sym list) (record {
  front = map-append place_of opened (o ∷ []) ∙ (λ j. first.front j ++ here j ∷ []) ∙ sym (map-append place_read done (n ∷ []));
  each = All-append (IsOpened sets) opened (o ∷ []) first.each (All-cons (IsOpened sets) o [] is_open (All-nil (IsOpened sets)));
  are = λ contents reveals all.
      let front : All (IsReadIn sets contents) done = all_front (IsReadIn sets contents) done (n ∷ []) all in
      let one : o ≡ opened_in sets contents n = (told contents reveals (all_next (IsReadIn sets contents) done n [] all)).0 in
      (λ j. first.are contents reveals front j ++ one j ∷ []) ∙ sym (map-append (opened_in sets contents) done (n ∷ []));
  holds = λ contents reveals all x among.
      let front : All (IsReadIn sets contents) done = all_front (IsReadIn sets contents) done (n ∷ []) all in
      elim (Contains-push_cases opened o x among) [
        | inl before ↦ first.holds contents reveals front x before
        | inr last ↦ subst (λ (y : OpenedNamespace). IsHeld sets (rows_of contents) y) last (told contents reveals (all_next (IsReadIn sets contents) done n [] all)).1
      ];
})

-- ---- refusals

-- a power cut isn't found
pub refused_uncut : (place : FoundNamespace) (refused : ChainRefused) (why : NotOpened) → IsRefused place refused why → (words : List ℕ) (r : Result (List ArenaState) ChainRefused) → r ≡ Err refused
    → (HasMemory r → r ≡ opened_view words place.uuid) → (uuid : List ℕ) (fault : ChainRefused) → why ≡ Broken uuid fault → fault.fault ≢ open_refused.PowerCut
refused_uncut place refused why is words r err told uuid fault e =
    let broken : IsRefused place refused (Broken uuid fault) = subst (IsRefused place refused) e is in
    λ cut. read_uncut words place.uuid refused (subst (λ (x : Result (List ArenaState) ChainRefused). HasMemory x → x ≡ opened_view words place.uuid) err told) (ap (λ (f : ChainRefused). f.fault) (sym broken.1) ∙ cut)
