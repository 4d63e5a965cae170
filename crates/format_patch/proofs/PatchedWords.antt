-- The words of a namespace into which a format is put while its bytes are copied.
use Rattle.std.proofs.Common.{◌≡◌, ℕ, ◌+◌, ◌-◌, ◌*◌, ◌/◌, ◌≤◌, List, [], ◌∷◌, length, take, refl, sym, ap, ◌∙◌, arith}
use Rattle.nfit_reader.specs.declared.table.Mapping.{Mapping}
use Rattle.cut_words.specs.Words.{Words, settled}
use Rattle.cut_words.specs.WordBytes.{bytes_of, put_at, words_in}
use Rattle.cut_words.proofs.Bytes.{length_bytes}
use Rattle.arena_layout.specs.declared.layout.Layout.{Layout}
use Rattle.arena_layout.specs.Layout.{IsLayout}
use Rattle.arena_open.specs.Format.{area_writes}
use Rattle.arena_open.specs.Writes.{written_over}
use Rattle.arena_open.proofs.Bytes.{length_words}
use Rattle.image_set.specs.Patches.{patched_contents}
use Rattle.image_set.specs.Sound.{AreWords}
use Rattle.power_cut.specs.Namespace.{IsLaid, ReachEnds, beside_of, over, place_of, words_of}
use Rattle.power_cut.proofs.Spread.{length_range}
use Rattle.sector_namespaces.specs.View.{rows_of}
use Rattle.namespace_bytes.specs.declared.new_bytes.NewBytes.TheVariants.{Runs}
use Rattle.namespace_bytes.specs.declared.runs.Run.{Run}
use Rattle.namespace_bytes.specs.Patching.{ArePatched, AreWhole, BytePatch, byte_in, byte_patched, bytes_by_place}
use Rattle.namespace_bytes.specs.Runs.{run_byte, runs_byte}
use Rattle.namespace_bytes.proofs.ByteWords.{changed, from_first}
use Rattle.namespace_bytes.proofs.RunWords.{more_changed, none_changed, whole_run}
use Rattle.namespace_bytes.proofs.WholePatch.{are_patched}
use Rattle.format_patch.specs.Format.{count_behind, format_runs, words_behind}
use Rattle.format_patch.proofs.Bounds.{behind_words, take_words, words_back}
use Rattle.format_patch.proofs.Order.{behind_fits, first_written, front_fits}

module _ (l : Layout) (ok : IsLayout l) (block : List ℕ) (long : length block ≡ 512) (fit : AreWords block) (k : ℕ) where
  -- ---- the bytes of a namespace

  module _ (row : List ℕ) (room : l.size ≤ length row) where
    abbrev behind : List ℕ
    behind = take k (words_behind l block)

    abbrev front : List ℕ
    front = take (k - count_behind l) block

    abbrev first_run : Run
    first_run = record { first = l.map_off; bytes = bytes_of behind }

    abbrev last_run : Run
    last_run = record { first = 0; bytes = bytes_of front }

    in_words : l.size / 8 ≤ length (words_in row)
    in_words = omega (arith, room, length_words row)

    first_at : l.map_off ≡ 8 * (l.map_off / 8)
    first_at = omega (arith, ok.map_whole)

    first_room : l.map_off + length (bytes_of behind) ≤ length row
    first_room = omega (arith, behind_fits l ok block long k (words_in row) in_words, length_bytes behind, length_words row, first_at)

    first_put : words_in (changed (run_byte first_run) row) ≡ put_at (words_in row) (l.map_off / 8) behind
    first_put =
        whole_run first_run row (l.map_off / 8) (length behind) first_at (length_bytes behind) first_room
        ∙ ap (put_at (words_in row) (l.map_off / 8)) (words_back behind (take_words k (words_behind l block) (behind_words l block ok fit)))

    last_room : 0 + length (bytes_of front) ≤ length (changed (run_byte first_run) row)
    last_room =
        omega (arith, front_fits l ok block long k (words_in row) in_words, ap (λ (ws : List ℕ). length ws) first_put, length_words (changed (run_byte first_run) row), length_bytes front)

    last_put : words_in (changed (run_byte last_run) (changed (run_byte first_run) row)) ≡ put_at (words_in (changed (run_byte first_run) row)) 0 front
    last_put =
        whole_run last_run (changed (run_byte first_run) row) 0 (length front) refl (length_bytes front) last_room
        ∙ ap (put_at (words_in (changed (run_byte first_run) row)) 0) (words_back front (take_words (k - count_behind l) block fit))

    pub runs_put : words_in (changed (runs_byte (format_runs k l block)) row) ≡ written_over (words_in row) (take k (area_writes 0 l block))
    runs_put =
        ap words_in (more_changed first_run (last_run ∷ []) row ∙ more_changed last_run [] (changed (run_byte first_run) row) ∙ none_changed (changed (run_byte last_run) (changed (run_byte first_run) row)))
        ∙ last_put ∙ ap (λ (ws : List ℕ). put_at ws 0 front) first_put
        ∙ sym (first_written l ok block long k (words_in row) in_words)

  -- ---- the contents of modules

  module _ (set : List Mapping) (offset raw : ℕ) (laid : (modules : List Words) → IsLaid (over set offset raw modules)) (room : l.size ≤ length set * raw) (contents : List (List ℕ)) (whole : AreWhole contents)
      (reach : ReachEnds set (rows_of contents)) where
    abbrev pub patch : BytePatch
    patch = record { set = set; offset = offset; raw = raw; bytes = Runs (format_runs k l block) }

    abbrev bytes : List ℕ
    bytes = bytes_by_place set offset raw contents

    bytes_long : length (bytes_by_place set offset raw contents) ≡ length set * raw
    bytes_long = length_range (λ i. byte_in contents (place_of set (length set * offset + i))) (length set * raw)

    are : ArePatched (record { set = set; offset = offset; raw = raw; bytes = Runs (format_runs k l block) }) contents
    are = are_patched (record { set = set; offset = offset; raw = raw; bytes = Runs (format_runs k l block) }) (record { laid = laid }) contents whole reach

    pub patched_words : words_of (over set offset raw (rows_of (patched_contents (byte_patched patch) contents))) ≡ settled (written_over (words_of (over set offset raw (rows_of contents))).kept (take k (area_writes 0 l block)))
    patched_words =
        are.words ∙ ap settled (ap words_in (from_first (runs_byte (format_runs k l block)) bytes) ∙ runs_put bytes (omega (arith, room, bytes_long))
        ∙ ap (λ (w : Words). written_over w.kept (take k (area_writes 0 l block))) (sym are.was))

    pub patched_beside : beside_of (over set offset raw (rows_of (patched_contents (byte_patched patch) contents))) ≡ beside_of (over set offset raw (rows_of contents))
    patched_beside = are.beside

    pub was_settled : words_of (over set offset raw (rows_of contents)) ≡ settled (words_of (over set offset raw (rows_of contents))).kept
    was_settled = are.was ∙ sym (ap (λ (w : Words). settled w.kept) are.was)
