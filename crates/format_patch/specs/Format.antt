-- What the format of an arena writes, in its order, and how far it comes before a crash: UEFI 2.10, section 6.2 (BTT Info Block). That each word
-- is stored and flushed before the next one is this project's rule.
use Rattle.std.specs.Prelude.{ℕ, ◌+◌, ◌-◌, ◌/◌, ◌%◌, ◌==◌, nat_lt, Bool, ◌&&◌, if◌then◌else◌, List, [], ◌∷◌, ◌++◌, take}
use Rattle.cut_words.specs.WordBytes.{bytes_of}
use Rattle.arena_layout.specs.declared.layout.Layout.{Layout}
use Rattle.arena_open.specs.Areas.{new_log, new_map}
use Rattle.arena_open.specs.Format.{log_count, map_count}
use Rattle.namespace_bytes.specs.declared.runs.Run.{Run}

-- the words of the map, of the log and of the backup of the info block, which lie one behind the other
abbrev pub words_behind : Layout → List ℕ → List ℕ
words_behind l block = new_map l.external (map_count l) ++ (new_log l.external l.lanes (log_count l) ++ block)

-- how many they are
abbrev pub count_behind : Layout → ℕ
count_behind l = map_count l + log_count l + 512

-- the place of word i of the format's order in the arena: the info block comes last
abbrev pub place_of_write : Layout → ℕ → ℕ
place_of_write l i = if nat_lt i (count_behind l) then l.map_off / 8 + i else i - count_behind l

-- after n steps n / 2 words are written, and the next one is pending if n is odd
abbrev pub is_pending : ℕ → Bool
is_pending n = n % 2 == 1

-- how many are written after a crash that follows n steps, by whether a pending one stays
abbrev pub words_left : ℕ → Bool → ℕ
words_left n stays = if is_pending n && stays then n / 2 + 1 else n / 2

-- the runs of bytes of the first k words
abbrev pub format_runs : ℕ → Layout → List ℕ → List Run
format_runs k l block =
    record { first = l.map_off; bytes = bytes_of (take k (words_behind l block)) }
    ∷ record { first = 0; bytes = bytes_of (take (k - count_behind l) block) }
    ∷ []
