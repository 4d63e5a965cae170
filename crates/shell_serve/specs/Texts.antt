-- The texts of sessions: their lines one session after another, and the summary of a load. This project's rules.
use Rattle.std.specs.Prelude.{ℕ, ◌+◌, ◌-◌, ◌%◌, Bool, true, false, List, [], ◌∷◌, ◌++◌, length, count_by, sum_by, replicate, codes}
use Rattle.std.specs.Int.{w64, to_be_bytes}
use Rattle.std.specs.Fmt.{decimal}
use Rattle.hex.specs.Hex.{encode_lower}
use Rattle.nvd_words.specs.Fletcher.{fletcher64_of}
use Rattle.session_account.specs.declared.reply.Reply.{Reply}
use Rattle.session_script.specs.declared.script.Line.{Line}
use Rattle.session_script.specs.declared.script.Line.TheVariants.{Read, Write}
use Rattle.session_script.specs.declared.script.Script.{Script}
use Rattle.session_texts.specs.Texts.{replies_text}
use Rattle.shell_reports.specs.Outcome.{joined, lf}

-- ---- the text of `serve`

-- session Q
abbrev pub session_line : ℕ → List ℕ
session_line q = joined (codes "session " ∷ decimal q ∷ lf ∷ [])

abbrev pub session_text : ℕ → List Reply → List ℕ
session_text q replies = session_line q ++ replies_text replies

-- session by session, from session q on
unfoldable pub sessions_text : ℕ → List (List Reply) → List ℕ
sessions_text q [] = []
sessions_text q (own ∷ replies) = session_text q own ++ sessions_text (q + 1) replies

abbrev pub serve_text : List (List Reply) → List ℕ
serve_text replies = sessions_text 0 replies

-- ---- the text of `load`

abbrev pub is_read : Line → Bool
is_read (Read sector) = true
is_read other = false

abbrev pub is_write : Line → Bool
is_write (Write sector value) = true
is_write other = false

abbrev pub reads_in : Script → ℕ
reads_in script = sum_by (λ session. count_by is_read session.calls) script.sessions

abbrev pub writes_in : Script → ℕ
writes_in script = sum_by (λ session. count_by is_write session.calls) script.sessions

-- with zero bytes to a multiple of 4
abbrev pub filled : List ℕ → List ℕ
filled text = text ++ replicate ((4 - length text % 4) % 4) 0

-- a checksum of the replies in sixteen digits: Fletcher64 (UEFI 2.10, section 6.3) of the text that `serve` prints
abbrev pub replies_sum : List (List Reply) → List ℕ
replies_sum replies = encode_lower (to_be_bytes w64 (fletcher64_of (filled (serve_text replies))))

-- sessions S calls C reads R writes W, and replies H; C counts the calls on sectors
abbrev pub summary : Script → List (List Reply) → List ℕ
summary script replies =
    joined (codes "sessions " ∷ decimal (length script.sessions) ∷ codes " calls " ∷ decimal (reads_in script + writes_in script) ∷ codes " reads " ∷ decimal (reads_in script)
    ∷ codes " writes " ∷ decimal (writes_in script) ∷ lf ∷ codes "replies " ∷ replies_sum replies ∷ lf ∷ [])
