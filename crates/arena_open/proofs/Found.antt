-- The words of arenas after their pending moves were made.
use Rattle.std.specs.Prelude.{⊤}
use Rattle.std.proofs.Common.{◌≡◌, ℕ, ◌+◌, ◌/◌, List, [], ◌∷◌, ◌++◌, length, map, take, drop, None, Ok, refl, ap, ◌∙◌, arith}
use Rattle.arena_open.specs.Moves.{lane_of, recovered}
use Rattle.arena_open.specs.Chain.{Link, link_made, state_at, states_from, with_state, found_again}
use Rattle.arena_open.proofs.Own.{Lies, lies}
use Rattle.arena_open.proofs.Joined.{Joined, Far, far, take_part}

-- the words of an arena's extent are those with its moves made
abbrev pub WasMade : List ℕ → List ℕ → Link → Type 0
WasMade old now link = take (link.opened.info.layout.size / 8) (drop link.at now) ≡ take (link.opened.info.layout.size / 8) (recovered (drop link.at old) link.opened)

abbrev pub AreMade : List ℕ → List ℕ → List Link → Type 0
AreMade old now [] = ⊤
AreMade old now (link ∷ links) = WasMade old now link × AreMade old now links

-- a change behind these arenas leaves them
pub made_same : (old now new parent : List ℕ) (at : ℕ) (links : List Link) (end : ℕ) → Joined old parent at links end → take end new ≡ take end now → AreMade old now links → AreMade old new links
made_same old now new parent at [] end j same m = tt
made_same old now new parent at (link ∷ links) end j same m =
    let l : Lies (length old) at link.opened = lies old parent at link.opened j.1 j.2 in
    let f : Far (at + link.opened.info.next / 8) links end = far old parent (at + link.opened.info.next / 8) links end j.4 in
    let here : take (link.opened.info.layout.size / 8) (drop link.at new) ≡ take (link.opened.info.layout.size / 8) (drop link.at now) =
    take_part end link.at (link.opened.info.layout.size / 8) new now same (omega (arith, j.0, f.ahead, l.next_is j.3)) in
    (here ∙ m.0, made_same old now new parent (at + link.opened.info.next / 8) links end j.4 same m.1)

-- one arena more
pub made_more : (old now : List ℕ) (links : List Link) (link : Link) → AreMade old now links → WasMade old now link → AreMade old now (links ++ link ∷ [])
made_more old now [] link m here = (here, tt)
made_more old now (first ∷ links) link m here = (m.0, made_more old now links link m.1 here)

-- they are found again
pub found_all : (old now : List ℕ) (links : List Link) → AreMade old now links → map (state_at now) (map link_made links) ≡ map found_again (map (state_at old) links)
found_all old now [] m = refl
found_all old now (link ∷ links) m =
    λ i. record { info = link.opened.info; words = m.0 i; lanes = map lane_of link.opened.groups; made = 0 } ∷ found_all old now links m.1 i

-- without a power cut all states are answered
pub all_states : (k : ℕ) (words : List ℕ) (links : List Link) → states_from k None words None links ≡ Ok (map (state_at words) links)
all_states k words [] = refl
all_states k words (link ∷ links) = ap (with_state (state_at words link)) (all_states (k + 1) words links)
