-- Worked rows of the texts of sessions, and of the namespaces that a script opens.
use Rattle.std.proofs.Common.{◌≡◌, ℕ, List, [], ◌∷◌, None, replicate, codes, refl}
use Rattle.std.specs.Fmt.{digits}
use Rattle.hex.specs.Hex.{encode_with}
use Rattle.arena_open.specs.declared.cell.Cell.TheVariants as cell
use Rattle.namespace_map.specs.declared.refused.OpRefused.TheVariants.{Busy}
use Rattle.served_namespaces.specs.Opening.{firsts}
use Rattle.session_account.specs.declared.reply.Reply.{Reply}
use Rattle.session_account.specs.declared.reply.Reply.TheVariants as reply
use Rattle.session_script.specs.declared.script.Line.{Line}
use Rattle.session_script.specs.declared.script.Line.TheVariants.{Order}
use Rattle.session_script.specs.declared.script.Order.TheVariants.{Open}
use Rattle.session_script.specs.Load.{load_script}
use Rattle.shell_serve.specs.Scripts.{opened_by}
use Rattle.session_texts.specs.Texts.{replies_text}
use Rattle.shell_serve.specs.Texts.{serve_text, sessions_text, summary}

abbrev u : List ℕ
u = replicate 16 0x11

abbrev v : List ℕ
v = replicate 16 0x22

-- ---- the text of a load of two sessions with one call each

abbrev load_replies : List (List Reply)
load_replies = (reply.Done ∷ reply.Done ∷ reply.Done ∷ []) ∷ (reply.Done ∷ reply.Value (cell.Bytes (replicate 64 0)) ∷ reply.Done ∷ []) ∷ []

pub load_text : serve_text load_replies ≡ codes "session 0\nok\nok\nok\nsession 1\nok\nok fill:00\nok\n"
unfolding digits encode_with replies_text sessions_text
load_text = refl

pub load_summary : summary (load_script 0 u 64716 2 1) load_replies ≡ codes "sessions 2 calls 2 reads 1 writes 1\nreplies 59777aea315d1cd6\n"
unfolding digits encode_with replies_text sessions_text
load_summary = refl

-- ---- other replies

pub other_texts : serve_text ((reply.Range 64716 ∷ reply.Length 1 512 ∷ reply.NotOpen ∷ reply.IsOpen ∷ reply.Op (Busy 1) ∷ reply.Value cell.Bad ∷ reply.Cut ∷ []) ∷ [])
    ≡ codes "session 0\nrefused Range 64716\nrefused Length 1 512\nrefused NotOpen\nrefused IsOpen\nrefused Busy 1\nbad\ncut\n"
unfolding digits encode_with replies_text sessions_text
other_texts = refl

pub nothing_printed : serve_text [] ≡ []
unfolding sessions_text
nothing_printed = refl

-- ---- namespaces, each once, in order of its first line

abbrev opening : List ℕ → Line
opening uuid = Order (Open uuid)

pub opened_once : opened_by (record { labelcut = None; sessions = record { cut = None; calls = opening v ∷ opening u ∷ [] } ∷ record { cut = None; calls = opening u ∷ opening v ∷ [] } ∷ [] }) ≡ v ∷ u ∷ []
unfolding firsts
opened_once = refl
