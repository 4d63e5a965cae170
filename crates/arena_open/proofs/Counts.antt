-- How many words a format writes, and how many steps it makes.
use Rattle.std.proofs.Common.{◌≡◌, ℕ, ◌+◌, ◌*◌, ◌/◌, ◌%◌, ◌<◌, ◌≤◌, List, ◌++◌, length, get_or, replicate, refl, ap, ◌∙◌, arith}
use Rattle.std.specs.Int.{w64, to_le_bytes}
use Rattle.std.proofs.lemmas.Bool.{lt-ltb, le-ltb}
use Rattle.std.proofs.lemmas.List.{length-append}
use Rattle.std.proofs.lemmas.List.FromFn.{length-map-range_with_len, get_or-map-range_with_len}
use Rattle.nvd_words.specs.Fletcher.{fletcher64_of}
use Rattle.cut_words.specs.WordBytes.{words_in}
use Rattle.arena_layout.specs.declared.layout.Layout.{Layout}
use Rattle.arena_layout.specs.declared.info.Info.{Info}
use Rattle.arena_layout.specs.Info.{signature}
use Rattle.arena_layout.specs.Spelling.{fields_of, body_of, spelling_of}
use Rattle.arena_layout.proofs.Spelled.{head_of, length_body_by}
use Rattle.arena_open.specs.Areas.{new_map_word, new_group_word, new_log_word, new_map, new_log, new_info}
use Rattle.arena_open.specs.Writes.{run_at}
use Rattle.arena_open.specs.Format.{map_count, log_count, area_writes, FormatCounts}
use Rattle.arena_open.proofs.Bytes.{length_words}
use Rattle.arena_open.proofs.Written.{length_steps, length_run}

length_head : (info : Info) → length info.uuid ≡ 16 → length info.parent ≡ 16 → length (head_of info) ≡ 120
length_head info uuid parent =
    length-append signature (info.uuid ++ (info.parent ++ fields_of info))
    ∙ omega (arith, length-append info.uuid (info.parent ++ fields_of info), length-append info.parent (fields_of info), uuid, parent)

pub length_spelling : (info : Info) → length info.uuid ≡ 16 → length info.parent ≡ 16 → length (spelling_of info) ≡ 4096
unfolding spelling_of
length_spelling info uuid parent =
    length-append (body_of info) (to_le_bytes w64 (fletcher64_of (body_of info ++ replicate 8 0)))
    ∙ omega (arith, length_body_by info (length_head info uuid parent))

-- ---- the areas

pub map_index : (external count i : ℕ) → i < count → get_or (new_map external count) i 0 ≡ new_map_word external i
map_index external count i lt = get_or-map-range_with_len (new_map_word external) 0 count i i 0 lt (omega arith)

pub log_index : (external lanes count i : ℕ) → i < count → get_or (new_log external lanes count) i 0 ≡ new_log_word external lanes i
log_index external lanes count i lt = get_or-map-range_with_len (new_log_word external lanes) 0 count i i 0 lt (omega arith)

pub log_index_in : (external lanes count i : ℕ) → i < count → i / 8 < lanes → get_or (new_log external lanes count) i 0 ≡ new_group_word external (i / 8) (i % 8)
log_index_in external lanes count i lt inside = log_index external lanes count i lt ∙ rw (lt-ltb (i / 8) lanes inside) refl

pub log_index_past : (external lanes count i : ℕ) → i < count → lanes ≤ i / 8 → get_or (new_log external lanes count) i 0 ≡ 0
log_index_past external lanes count i lt past = log_index external lanes count i lt ∙ rw (le-ltb (i / 8) lanes past) refl

pub length_map : (external count : ℕ) → length (new_map external count) ≡ count
length_map external count = length-map-range_with_len (new_map_word external) 0 count

pub length_log : (external lanes count : ℕ) → length (new_log external lanes count) ≡ count
length_log external lanes count = length-map-range_with_len (new_log_word external lanes) 0 count

pub length_areas : (at : ℕ) (l : Layout) (block : List ℕ) → length (area_writes at l block) ≡ map_count l + log_count l + 2 * length block
length_areas at l block =
    length-append (run_at (at + l.map_off / 8) (new_map l.external (map_count l)))
    (run_at (at + l.flog_off / 8) (new_log l.external l.lanes (log_count l)) ++ (run_at (at + l.info_off / 8) block ++ run_at at block))
    ∙ omega (
      arith,
      length-append (run_at (at + l.flog_off / 8) (new_log l.external l.lanes (log_count l))) (run_at (at + l.info_off / 8) block ++ run_at at block),
      length-append (run_at (at + l.info_off / 8) block) (run_at at block),
      length_run (at + l.map_off / 8) (new_map l.external (map_count l)),
      length_run (at + l.flog_off / 8) (new_log l.external l.lanes (log_count l)),
      length_run (at + l.info_off / 8) block,
      length_run at block,
      length_map l.external (map_count l),
      length_log l.external l.lanes (log_count l),
    )

pub format_counts : FormatCounts
format_counts at l uuid parent uuid_len parent_len =
    let block : List ℕ = words_in (spelling_of (new_info l uuid parent)) in
    let len : length (words_in (spelling_of (new_info l uuid parent))) ≡ 512 =
    length_words (spelling_of (new_info l uuid parent)) ∙ ap (λ (n : ℕ). n / 8) (length_spelling (new_info l uuid parent) uuid_len parent_len) in
    length_steps (area_writes at l (words_in (spelling_of (new_info l uuid parent))))
    ∙ omega (arith, length_areas at l (words_in (spelling_of (new_info l uuid parent))), len)
