-- Parts of a schedule, one after another, and the text that they print.
use Rattle.std.proofs.Common.{◌≡◌, ℕ, ◌+◌, false, List, [], ◌∷◌, ◌++◌, Option, Some, None, option_to_list, append_assoc, append-nil, add-one, refl, sym, ap, ◌∙◌}
use Rattle.lane_core.specs.declared.machine.Core.{Core}
use Rattle.lane_core.specs.Machines.{IsSomeCore}
use Rattle.session_script.specs.declared.schedule.ReplayLine.{ReplayLine}
use Rattle.lane_core.specs.Held.{Held}
use Rattle.lane_core.specs.Keeping.{Keeps}
use Rattle.lane_replay.specs.Steps.{Played, Plays, and_text, steps}
use Rattle.lane_replay.specs.Playing.{all_cuts, cut_line, cut_lines, played, played_all, replay_text, replayed}
use Rattle.lane_replay.proofs.ManySteps.{only, text_joined}

-- ---- what is kept

pub keeps_same : (core : Core) → IsSomeCore core → Keeps core core
keeps_same core sound = record { sound = sound; core = λ o h. h; arena = λ s h. h; shape = refl }

pub keeps_on : (a b c : Core) → Keeps a b → Keeps b c → Keeps a c
keeps_on a b c h k = record { sound = k.sound; core = λ o x. k.core o (h.core o x); arena = λ s x. k.arena s (h.arena s x); shape = k.shape ∙ h.shape }

-- ---- from the first part on

-- one part was played, and what comes behind it follows
part_on : (before after : List ℕ) (part : Played) (new : Held) (rest : Held → Played) → Plays part new before after → and_text after (rest new) ≡ and_text before (and_text part.text (rest part.held))
part_on before after part new rest h = (λ i. and_text (h.text i) (rest (h.held i))) ∙ text_joined before part.text (rest part.held)

-- no part is left
pub ends : (due : Played) (new : Held) (before after : List ℕ) → and_text after (only new) ≡ and_text before due → Plays due new before after
ends due new before after e = record { held = ap (λ (p : Played). p.held) e; text = sym (append-nil after) ∙ ap (λ (p : Played). p.text) e }

pub no_steps : (lane : ℕ) (new : Held) (due : Played) (before after : List ℕ) → and_text after (steps 0 lane false new) ≡ and_text before due → Plays due new before after
unfolding steps
no_steps lane new due before after e = ends due new before after e

-- nothing was done and printed
pub nothing_more : (held new : Held) (before after : List ℕ) → new ≡ held → after ≡ before → Plays (only held) new before after
nothing_more held new before after is same = record { held = is; text = same ∙ sym (append-nil before) }

-- ---- lines

-- a line was there, and it was the next
pub next_is : (left new : List ReplayLine) (found : Option ReplayLine) (line : ReplayLine) → left ≡ option_to_list found ++ new → found ≡ Some line → left ≡ line ∷ new
next_is left new found line e is = e ∙ ap (λ (o : Option ReplayLine). option_to_list o ++ new) is

pub none_left : (left new : List ReplayLine) (found : Option ReplayLine) → left ≡ option_to_list found ++ new → found ≡ None → new ≡ [] → left ≡ []
none_left left new found e is end = e ∙ ap (λ (o : Option ReplayLine). option_to_list o ++ new) is ∙ end

line_on : (number : ℕ) (held : Held) (line : ReplayLine) (lines : List ReplayLine)
    → played_all number held (line ∷ lines) ≡ and_text (played held number line).text (played_all (number + 1) (played held number line).held lines)
unfolding played_all
line_on number held line lines = refl

no_line : (number : ℕ) (held : Held) → played_all number held [] ≡ only held
unfolding played_all
no_line number held = refl

pub lines_on : (number : ℕ) (old new : Held) (line : ReplayLine) (all lines : List ReplayLine) (before after start : List ℕ) (due : Played) → all ≡ line ∷ lines → Plays (played old number line) new before after
    → and_text before (played_all number old all) ≡ and_text start due → and_text after (played_all (number + 1) new lines) ≡ and_text start due
lines_on number old new line all lines before after start due is h so_far =
    part_on before after (played old number line) new (λ h. played_all (number + 1) h lines) h
    ∙ ap (and_text before) (sym (line_on number old line lines) ∙ ap (played_all number old) (sym is)) ∙ so_far

pub lines_end : (number : ℕ) (new : Held) (lines : List ReplayLine) (before after : List ℕ) (due : Played) → lines ≡ [] → and_text after (played_all number new lines) ≡ and_text before due → Plays due new before after
lines_end number new lines before after due is e = ends due new before after (ap (and_text after) (sym (no_line number new) ∙ ap (played_all number new) (sym is)) ∙ e)

-- ---- lanes in calls at the end

pub cuts_none : (held : Held) (text : List ℕ) → text ≡ text ++ cut_lines 0 held
unfolding cut_lines
cuts_none held text = sym (append-nil text)

pub cuts_on : (lane : ℕ) (held : Held) (start before after : List ℕ) → before ≡ start ++ cut_lines lane held → after ≡ before ++ cut_line held lane → after ≡ start ++ cut_lines (lane + 1) held
unfolding cut_lines
cuts_on lane held start before after was more =
    more ∙ ap (λ t. t ++ cut_line held lane) was ∙ append_assoc start (cut_lines lane held) (cut_line held lane) ∙ ap (λ n. start ++ cut_lines n held) (sym (add-one lane))

-- ---- the whole text

pub whole_text : (old new : Held) (lines : List ReplayLine) (text after : List ℕ) → Plays (replayed old lines) new [] text → after ≡ text ++ all_cuts new → after ≡ replay_text old lines
whole_text old new lines text after h e = e ∙ (λ i. h.text i ++ all_cuts (h.held i))
