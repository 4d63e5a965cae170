-- What a session's calls ask of the registry, and its entries in the journal.
use Rattle.std.specs.Prelude.{◌≡◌, ◌⊎◌, ℕ, ◌<◌, ◌==◌, List, [], ◌∷◌, ◌++◌, filter, filter_map, length, MatchBool, Option, Some, None, option_map, option_and_then, Ok, Err}
use Rattle.std.specs.List.{AllByRecursion}
use Rattle.nvd_words.specs.declared.tag.Tag.{Tag}
use Rattle.namespace_map.specs.declared.commands.Command.{Command}
use Rattle.namespace_map.specs.declared.commands.Command.TheVariants as command
use Rattle.namespace_map.specs.declared.commands.Make.TheVariants.{Raw}
use Rattle.namespace_map.specs.declared.refused.OpRefused.TheVariants.{PowerCut, OutOfMemory}
use Rattle.namespace_map.specs.Commands.{named_of}
use Rattle.namespace_ops.specs.Entries.{JournalEntry, Reply as Answer}
use Rattle.session_script.specs.declared.script.Line.{Line}
use Rattle.session_script.specs.declared.script.Line.TheVariants as line
use Rattle.session_script.specs.declared.script.Order.{Order}
use Rattle.session_script.specs.declared.script.Order.TheVariants as order
use Rattle.session_account.specs.declared.reply.Reply.{Reply}
use Rattle.session_account.specs.declared.reply.Reply.TheVariants as reply
use Rattle.session_account.specs.Made.{Made, made_by, on_end, has_cut, uncut, cut_of}

-- ---- commands

-- what an order asks if a namespace is open or none is; an open with one, and a close without one, ask nothing
abbrev pub command_of : Option (List ℕ) → Order → Option Command
command_of None (order.Open uuid) = Some (command.Claim uuid)
command_of (Some held) (order.Open uuid) = None
command_of None order.Close = None
command_of (Some held) order.Close = Some (command.Unclaim held)
command_of on (order.Create uuid region size name) = Some (command.Create (record { uuid = uuid; name = named_of name; region = region; size = size; make = Raw }))
command_of on (order.Delete uuid) = Some (command.Delete uuid)
command_of on (order.Rename uuid name) = Some (command.Rename uuid (named_of name))

abbrev pub asked : Option (List ℕ) → Line → Option Command
asked on (line.Order o) = command_of on o
asked on other = None

-- ---- replies

-- what the registry answered, by what was printed: a cut there is printed as one here. No other reply is one to a command.
abbrev pub answer_of : Reply → Option Answer
answer_of reply.Done = Some (Ok tt)
answer_of (reply.Op PowerCut) = None
answer_of (reply.Op OutOfMemory) = None
answer_of (reply.Op refused) = Some (Err refused)
answer_of reply.Cut = Some (Err PowerCut)
answer_of other = None

-- ---- entries

abbrev pub tag_of : ℕ → ℕ → Tag
tag_of session call = record { session = session; call = call }

abbrev pub entry : ℕ → ℕ → Command → Answer → JournalEntry
entry session call c answer = record { tag = tag_of session call; command = c; reply = answer }

-- the entry of a call, if it asks something
abbrev pub entry_for : ℕ → Made → Option JournalEntry
entry_for q m = option_and_then (λ c. option_map (entry q m.call c) (answer_of m.reply)) (asked m.on m.line)

abbrev pub entries_for : ℕ → List Made → List JournalEntry
entries_for q calls = filter_map (entry_for q) calls

-- a session's entries, in their order
abbrev pub own_entries : ℕ → List JournalEntry → List JournalEntry
own_entries q journal = filter (λ e. e.tag.session == q) journal

-- a claim that a session has at its end is given back; if power is off, it isn't
abbrev pub IsGivenBack : ℕ → ℕ → Option (List ℕ) → List JournalEntry → Type 0
IsGivenBack q calls None last = last ≡ []
IsGivenBack q calls (Some uuid) last = (last ≡ entry q calls (command.Unclaim uuid) (Ok tt) ∷ []) ⊎ (last ≡ entry q calls (command.Unclaim uuid) (Err PowerCut) ∷ [])

-- what stands behind the entries of the calls that weren't cut: nothing, or that of the call that was; or the claim is given back
abbrev pub IsLastEntry : ℕ → List Line → List Reply → List JournalEntry → Type 0
IsLastEntry q lines replies last =
    MatchBool (has_cut replies)
    ((last ≡ []) ⊎ (last ≡ entries_for q (cut_of (made_by lines replies))))
    (IsGivenBack q (length lines) (on_end lines replies) last)

-- the part on the journal
pub record InJournal (q : ℕ) (lines : List Line) (replies : List Reply) (own : List JournalEntry) : Type 0 where
  pub last : List JournalEntry
  pub entries : own ≡ entries_for q (uncut (made_by lines replies)) ++ last
  pub is_last : IsLastEntry q lines replies last

-- no entry is of a session that there isn't
abbrev pub IsOfSessions : ℕ → List JournalEntry → Type 0
IsOfSessions count journal = AllByRecursion (λ e. e.tag.session < count) journal
