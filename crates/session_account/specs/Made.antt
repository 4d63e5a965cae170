-- The calls that a session made, with what they were answered, and the namespace that was open at each.
use Rattle.std.specs.Prelude.{ℕ, ◌+◌, Bool, true, false, not, ◌&&◌, List, [], ◌∷◌, filter, Option, Some, None}
use Rattle.std.specs.List.{list_any}
use Rattle.session_script.specs.declared.script.Line.{Line}
use Rattle.session_script.specs.declared.script.Line.TheVariants as line
use Rattle.session_script.specs.declared.script.Order.TheVariants as order
use Rattle.session_account.specs.declared.reply.Reply.{Reply}
use Rattle.session_account.specs.declared.reply.Reply.TheVariants as reply

pub record Made : Type 0 where
  -- counted from 0
  pub call : ℕ
  -- the UUID of the namespace that was open
  pub on : Option (List ℕ)
  pub line : Line
  pub reply : Reply

-- which namespace is open after a call: replies decide
abbrev pub on_after : Option (List ℕ) → Line → Reply → Option (List ℕ)
on_after on (line.Order (order.Open uuid)) reply.Done = Some uuid
on_after on (line.Order order.Close) reply.Done = None
on_after on line answer = on

abbrev pub made : ℕ → Option (List ℕ) → Line → Reply → Made
made call on line answer = record { call = call; on = on; line = line; reply = answer }

-- the calls that were answered, from one on
abbrev pub made_from : ℕ → Option (List ℕ) → List Line → List Reply → List Made
made_from call on lines [] = []
made_from call on [] (answer ∷ replies) = []
made_from call on (line ∷ lines) (answer ∷ replies) = made call on line answer ∷ made_from (call + 1) (on_after on line answer) lines replies

abbrev pub made_by : List Line → List Reply → List Made
made_by lines replies = made_from 0 None lines replies

-- which namespace is open after the answered calls
abbrev pub on_from : Option (List ℕ) → List Line → List Reply → Option (List ℕ)
on_from on lines [] = on
on_from on [] (answer ∷ replies) = on
on_from on (line ∷ lines) (answer ∷ replies) = on_from (on_after on line answer) lines replies

abbrev pub on_end : List Line → List Reply → Option (List ℕ)
on_end lines replies = on_from None lines replies

-- ---- cuts

abbrev pub is_cut : Reply → Bool
is_cut reply.Cut = true
is_cut answer = false

abbrev pub has_cut : List Reply → Bool
has_cut replies = list_any is_cut replies

-- no reply but the last one is a cut
abbrev pub is_cut_last : List Reply → Bool
is_cut_last [] = true
is_cut_last (answer ∷ []) = true
is_cut_last (answer ∷ next ∷ replies) = not (is_cut answer) && is_cut_last (next ∷ replies)

-- the calls that weren't answered by a cut, and the one that was
abbrev pub uncut : List Made → List Made
uncut calls = filter (λ m. not (is_cut m.reply)) calls

abbrev pub cut_of : List Made → List Made
cut_of calls = filter (λ m. is_cut m.reply) calls
