-- How an arena opens depends only on its own words, and on the number of words.
use Rattle.std.proofs.Common.{◌≡◌, ◌≢◌, ℕ, ◌+◌, ◌-◌, ◌*◌, ◌/◌, ◌%◌, ◌<◌, ◌≤◌, List, length, take, drop, Ok, sym, ap, ◌∙◌, inl, inr, arith}
use Rattle.std.specs.Prelude.{IsTrue, ◌==◌, ◌||◌}
use Rattle.std.proofs.lemmas.Bool.{cases_eq, ne_eqb}
use Rattle.std.proofs.lemmas.List.{length-drop}
use Rattle.arena_layout.specs.declared.layout.Layout.{Layout}
use Rattle.arena_layout.specs.Layout.{IsLayout}
use Rattle.arena_layout.specs.Info.{IsArenaOf, info_reading}
use Rattle.arena_open.specs.declared.opened.Opened.{Opened}
use Rattle.arena_open.specs.Places.{group_words}
use Rattle.arena_open.specs.Reading.{info_bytes, map_in, groups_in, on_map, opening}
use Rattle.arena_open.proofs.Opening.{Parts, Sound, parts, sound_parts, sound, opening_map}
use Rattle.arena_open.proofs.Rewritten.{groups_same}
use Rattle.arena_open.proofs.States.{own_info, own_group, own_map}

-- ---- own words

pub opening_same : (a b parent : List ℕ) (opened : Opened) → opening a parent ≡ Ok opened → length b ≡ length a
    → take (opened.info.layout.size / 8) a ≡ take (opened.info.layout.size / 8) b → opening b parent ≡ Ok opened
opening_same a b parent opened is count same =
    let l : Layout = opened.info.layout in
    let p : Parts a parent opened = parts a parent opened is in
    let ok : IsLayout opened.info.layout = (sound_parts a parent opened p).arena.sound.layout in
    let bytes : info_bytes b ≡ info_bytes a =
    sym (own_info opened.info.layout b ok) ∙ ap info_bytes (sym same) ∙ own_info opened.info.layout a ok in
    let info : info_reading (info_bytes b) parent (8 * length b) ≡ Ok opened.info = (λ i. info_reading (bytes i) parent (8 * count i)) ∙ p.info_is in
    let group : (lane : ℕ) → lane < opened.info.layout.lanes → group_words opened.info.layout b lane ≡ group_words opened.info.layout a lane =
    λ lane lt. sym (own_group opened.info.layout b ok lane lt) ∙ ap (λ (ws : List ℕ). group_words opened.info.layout ws lane) (sym same) ∙ own_group opened.info.layout a ok lane lt in
    let groups : groups_in opened.info.layout b ≡ Ok opened.groups = groups_same opened.info.layout a b 0 opened.info.layout.lanes group (omega arith) ∙ p.groups_is in
    let map_is : map_in opened.info.layout b ≡ map_in opened.info.layout a =
    sym (own_map opened.info.layout b ok) ∙ ap (map_in opened.info.layout) (sym same) ∙ own_map opened.info.layout a ok in
    opening_map b parent opened.info opened.groups info groups
    ∙ ap (on_map opened.info opened.groups) map_is
    ∙ sym (opening_map a parent opened.info opened.groups p.info_is p.groups_is)
    ∙ is

-- ---- the place of the arena and of the next one

pub record Lies (count at : ℕ) (opened : Opened) : Type 0 where
  pub whole : opened.info.layout.size % 4096 ≡ 0
  pub large : 16777216 ≤ opened.info.layout.size
  pub inside : at + opened.info.layout.size / 8 ≤ count
  pub next_is : opened.info.next ≢ 0 → opened.info.next ≡ opened.info.layout.size
  pub next_inside : opened.info.next ≢ 0 → at + opened.info.layout.size / 8 < count

next_size : (next size : ℕ) → IsTrue ((next == 0) || (next == size)) → next ≢ 0 → next ≡ size
next_size next size said some = elim (cases_eq next 0) [
  | inl zero ↦ absurd (some zero)
  | inr other ↦ elim (cases_eq next size) [ inl same ↦ same | inr apart ↦ absurd (let e = rw (ne_eqb next 0 other, ne_eqb next size apart) at said in cc) ]
]

pub lies : (words parent : List ℕ) (at : ℕ) (opened : Opened) → at ≤ length words → opening (drop at words) parent ≡ Ok opened → Lies (length words) at opened
lies words parent at opened le is =
    let s : Sound (drop at words) parent opened = sound (drop at words) parent opened is in
    let a : IsArenaOf parent (8 * length (drop at words)) opened.info = s.arena in
    let ok : IsLayout opened.info.layout = a.sound.layout in
    let n : length (drop at words) ≡ length words - at = length-drop at words in
    let next : opened.info.next ≢ 0 → opened.info.next ≡ opened.info.layout.size = next_size opened.info.next opened.info.layout.size a.sound.next in
    record {
      whole = omega (arith, ok.size_is, ok.info_whole);
      large = ok.size_low;
      inside = omega (arith, n, a.size_inside, le);
      next_is = next;
      next_inside = λ some. omega (arith, n, next some, a.next_inside, le);
    }
