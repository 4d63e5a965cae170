-- Each word of the areas, by its place, and the bytes of the first ones.
use Rattle.std.proofs.Common.{◌≡◌, ℕ, ◌+◌, ◌-◌, ◌*◌, ◌<◌, ◌≤◌, List, [], ◌∷◌, ◌++◌, length, take, get_or, sym, ap, ◌∙◌, append-nil, arith}
use Rattle.std.specs.Int.{w64, to_le_bytes}
use Rattle.std.proofs.lemmas.List.{get_or-append_right, get_or_append_left, take_more}
use Rattle.nvd_words.specs.Bytes.{number_at}
use Rattle.cut_words.specs.WordBytes.{bytes_of, words_in}
use Rattle.cut_words.proofs.Put.{bytes_of-append}
use Rattle.arena_layout.specs.declared.layout.Layout.{Layout}
use Rattle.arena_open.specs.Areas.{new_log, new_log_word, new_map, new_map_word}
use Rattle.arena_open.specs.Format.{log_count, map_count}
use Rattle.arena_open.proofs.Bytes.{word_index}
use Rattle.arena_open.proofs.Counts.{length_log, length_map, log_index, map_index}
use Rattle.format_patch.specs.Format.{words_behind}

pub in_map : (l : Layout) (block : List ℕ) (i : ℕ) → i < map_count l → get_or (words_behind l block) i 0 ≡ new_map_word l.external i
in_map l block i lt =
    get_or_append_left (new_map l.external (map_count l)) (new_log l.external l.lanes (log_count l) ++ block) 0 i (omega (arith, lt, length_map l.external (map_count l)))
    ∙ map_index l.external (map_count l) i lt

pub in_log : (l : Layout) (block : List ℕ) (i : ℕ) → map_count l ≤ i → i < map_count l + log_count l → get_or (words_behind l block) i 0 ≡ new_log_word l.external l.lanes (i - map_count l)
in_log l block i from lt =
    get_or-append_right (new_map l.external (map_count l)) (new_log l.external l.lanes (log_count l) ++ block) (map_count l) i 0 (length_map l.external (map_count l)) from
    ∙ get_or_append_left (new_log l.external l.lanes (log_count l)) block 0 (i - map_count l) (omega (arith, from, lt, length_log l.external l.lanes (log_count l)))
    ∙ log_index l.external l.lanes (log_count l) (i - map_count l) (omega (arith, from, lt))

pub in_block : (l : Layout) (block : List ℕ) (i : ℕ) → map_count l + log_count l ≤ i → get_or (words_behind l block) i 0 ≡ get_or block (i - map_count l - log_count l) 0
in_block l block i from =
    get_or-append_right (new_map l.external (map_count l)) (new_log l.external l.lanes (log_count l) ++ block) (map_count l) i 0 (length_map l.external (map_count l)) (omega (arith, from))
    ∙ get_or-append_right (new_log l.external l.lanes (log_count l)) block (log_count l) (i - map_count l) 0 (length_log l.external l.lanes (log_count l)) (omega (arith, from))

pub read_block : (bytes : List ℕ) (v k : ℕ) → k < length (words_in bytes) → v ≡ number_at w64 bytes (8 * k) → v ≡ get_or (words_in bytes) k 0
read_block bytes v k lt is = is ∙ sym (word_index bytes k lt)

-- one word more
pub more_bytes : (xs : List ℕ) (i v : ℕ) (items new : List ℕ) → items ≡ bytes_of (take i xs) → i < length xs → v ≡ get_or xs i 0 → new ≡ items ++ to_le_bytes w64 v → new ≡ bytes_of (take (i + 1) xs)
more_bytes xs i v items new so_far lt is more =
    more ∙ (λ k. so_far k ++ to_le_bytes w64 (is k)) ∙ ap (λ (rest : List ℕ). bytes_of (take i xs) ++ rest) (sym (append-nil (to_le_bytes w64 (get_or xs i 0))))
    ∙ sym (ap bytes_of (take_more xs i 0 lt) ∙ bytes_of-append (take i xs) (get_or xs i 0 ∷ []))
