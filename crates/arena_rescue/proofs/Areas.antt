-- Words of the map area and of the data area.
use Rattle.std.proofs.Common.{◌≡◌, ℕ, ◌+◌, ◌*◌, ◌/◌, ◌<◌, ◌≤◌, Bool, true, false, not, refl, ap, ◌∙◌, arith, ◌&&◌}
use Rattle.std.specs.List.{range_with_len, list_any}
use Rattle.std.proofs.Math.Nat.{mul-le-mul_left}
use Rattle.std.proofs.lemmas.Bool.{and_parts, not-true}
use Rattle.arena_layout.specs.declared.layout.Layout.{Layout}
use Rattle.arena_layout.specs.Layout.{IsLayout}
use Rattle.arena_open.proofs.Apart.{ordered}
use Rattle.arena_check.specs.Check.{has_bad_word, in_arena}
use Rattle.arena_check.proofs.Picked.{none_any, none_in}
use Rattle.arena_rescue.specs.Rescue.{is_known}
use Rattle.arena_rescue.specs.Counting.{are_sound}

-- no word is bad
pub never_any : (a n : ℕ) → list_any (λ (i : ℕ). false) (range_with_len a n) ≡ false
never_any a n = none_any (λ i. false) a n (λ b low high. refl)

-- the test of both areas, by the test of each
pub sound_by : (l : Layout) (bad : ℕ → Bool) (at n m : ℕ) (a b : Bool) → n ≡ l.internal * (l.inner / 8) → m ≡ (l.external + 1) / 2
    → a ≡ list_any bad (range_with_len (at + l.data_off / 8) n) → b ≡ list_any bad (range_with_len (at + l.map_off / 8) m) → (not a && not b) ≡ are_sound l bad at
unfolding are_sound
sound_by l bad at n m a b blocks entries is is' =
    (λ i. not (is i) && not (is' i))
    ∙ (λ i. not (list_any bad (range_with_len (at + l.data_off / 8) (blocks i))) && not (list_any bad (range_with_len (at + l.map_off / 8) (entries i))))

module _ (l : Layout) (ok : IsLayout l) where
  -- a sector's map word is inside the map area, and that one inside the arena
  pub map_inside : (sector : ℕ) → sector < l.external → l.map_off / 8 + sector / 2 < l.size / 8
  map_inside sector lt = let o = ordered l ok in omega (arith, lt, o.after_map, o.after_log, o.size_is)

  pub map_area_inside : l.map_off / 8 + (l.external + 1) / 2 ≤ l.size / 8
  map_area_inside = let o = ordered l ok in omega (arith, o.after_map, o.after_log, o.size_is)

  -- a block's words are inside the data area, and that one inside the arena
  pub block_inside : (block : ℕ) → block < l.internal → block * (l.inner / 8) + l.sector / 8 ≤ l.internal * (l.inner / 8)
  block_inside block lt =
      let up : (l.inner / 8) * (block + 1) ≤ (l.inner / 8) * l.internal = mul-le-mul_left (l.inner / 8) (let le : block + 1 ≤ l.internal = omega arith in le) in
      omega (arith, up, ok.inner_enough)

  pub data_area_inside : l.data_off / 8 + l.internal * (l.inner / 8) ≤ l.size / 8
  data_area_inside = let o = ordered l ok in omega (arith, o.after_data, o.after_map, o.after_log, o.size_is)

  -- ---- no word of the arena is bad

  module _ (bad : ℕ → Bool) (none : (i : ℕ) → i < l.size / 8 → bad i ≡ false) where
    pub all_known : (sector : ℕ) → sector < l.external → is_known l bad sector ≡ true
    all_known sector lt = ap not (none (l.map_off / 8 + sector / 2) (map_inside sector lt))

    pub no_bad_word : (block : ℕ) → block < l.internal → has_bad_word l bad block ≡ false
    no_bad_word block lt =
        none_any (λ k. bad (l.data_off / 8 + (block * (l.inner / 8) + k))) 0 (l.sector / 8)
        (λ k low high. none (l.data_off / 8 + (block * (l.inner / 8) + k)) (omega (arith, high, block_inside block lt, data_area_inside)))

  -- ---- no word of both areas is bad

  module _ (bad : ℕ → Bool) (at : ℕ) (sound : are_sound l bad at ≡ true) where
    no_data : list_any bad (range_with_len (at + l.data_off / 8) (l.internal * (l.inner / 8))) ≡ false
    unfolding are_sound
    no_data = not-true (list_any bad (range_with_len (at + l.data_off / 8) (l.internal * (l.inner / 8))))
        (and_parts (not (list_any bad (range_with_len (at + l.data_off / 8) (l.internal * (l.inner / 8)))))
        (not (list_any bad (range_with_len (at + l.map_off / 8) ((l.external + 1) / 2)))) sound).0

    no_map : list_any bad (range_with_len (at + l.map_off / 8) ((l.external + 1) / 2)) ≡ false
    unfolding are_sound
    no_map = not-true (list_any bad (range_with_len (at + l.map_off / 8) ((l.external + 1) / 2)))
        (and_parts (not (list_any bad (range_with_len (at + l.data_off / 8) (l.internal * (l.inner / 8)))))
        (not (list_any bad (range_with_len (at + l.map_off / 8) ((l.external + 1) / 2)))) sound).1

    pub known_here : (sector : ℕ) → sector < l.external → is_known l (in_arena at bad) sector ≡ true
    known_here sector lt =
        ap not (none_in bad (at + l.map_off / 8) ((l.external + 1) / 2) (at + (l.map_off / 8 + sector / 2)) no_map (omega arith) (omega (arith, lt)))

    pub no_bad_word_here : (block : ℕ) → block < l.internal → has_bad_word l (in_arena at bad) block ≡ false
    no_bad_word_here block lt =
        none_any (λ k. bad (at + (l.data_off / 8 + (block * (l.inner / 8) + k)))) 0 (l.sector / 8)
        (λ k low high. none_in bad (at + l.data_off / 8) (l.internal * (l.inner / 8)) (at + (l.data_off / 8 + (block * (l.inner / 8) + k))) no_data (omega arith)
        (omega (arith, high, block_inside block lt)))
