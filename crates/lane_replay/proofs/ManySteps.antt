-- Steps of a lane, one after another.
use Rattle.std.proofs.Common.{◌≡◌, ℕ, zero, suc, ◌+◌, ◌*◌, ◌/◌, ◌%◌, ◌≤◌, Bool, true, false, List, [], ◌++◌, append_assoc, refl, sym, ap, ◌∙◌, arith}
use Rattle.std.proofs.lemmas.Nat.{div-add-mod'}
use Rattle.lane_core.specs.declared.stepped.Answer.{Answer}
use Rattle.lane_core.specs.declared.stepped.Step.{Step}
use Rattle.lane_core.specs.declared.stepped.Stepped.{Stepped}
use Rattle.lane_core.specs.declared.stepped.Stepped.TheVariants as told
use Rattle.nvd_words.specs.declared.tag.Tag.{Tag}
use Rattle.lane_core.specs.Held.{Held}
use Rattle.lane_replay.specs.Lanes.{answered, stepped}
use Rattle.lane_replay.specs.Texts.{answer_text, idle_text, lane_line}
use Rattle.lane_replay.specs.Steps.{Played, and_text, step_text, steps, was_said}
use Rattle.lane_replay.specs.Scanning.{Leads}
use Rattle.lane_replay.proofs.OneStep.{nothing_keeps}

abbrev pub only : Held → Played
only held = record { held = held; text = [] }

pub text_joined : (a b : List ℕ) (p : Played) → and_text (a ++ b) p ≡ and_text a (and_text b p)
text_joined a b p = λ i. record { held = p.held; text = append_assoc a b p.text i }

-- ---- the first of some steps, by what it answers

first_by : (m lane : ℕ) (said : Bool) (held : Held) (a : Stepped) → answered held lane ≡ a
    → steps (suc m) lane said held ≡ and_text (step_text lane said a) (steps m lane (was_said said a) (stepped held lane))
unfolding steps
first_by m lane said held a e = ap (λ a. and_text (step_text lane said a) (steps m lane (was_said said a) (stepped held lane))) e

none_left : (lane : ℕ) (said : Bool) (held : Held) → steps 0 lane said held ≡ only held
unfolding steps
none_left lane said held = refl

pub went_on : (m lane : ℕ) (held : Held) (s : Step) → answered held lane ≡ told.Went s → steps (suc m) lane false held ≡ steps m lane false (stepped held lane)
went_on m lane held s e = first_by m lane false held (told.Went s) e

pub was_answered : (m lane : ℕ) (held : Held) (tag : Tag) (answer : Answer) → answered held lane ≡ told.Done tag answer
    → steps (suc m) lane false held ≡ and_text (lane_line lane (answer_text answer)) (steps m lane false (stepped held lane))
was_answered m lane held tag answer e = first_by m lane false held (told.Done tag answer) e

-- an idle lane stays as it is
still_idle : (n lane : ℕ) (held : Held) → answered held lane ≡ told.Nothing → steps n lane true held ≡ only held
still_idle zero lane held e = none_left lane true held
still_idle (suc n) lane held e =
    first_by n lane true held told.Nothing e ∙ ap (steps n lane true) (nothing_keeps held lane e) ∙ still_idle n lane held e

pub was_idle : (m lane : ℕ) (held : Held) → answered held lane ≡ told.Nothing → steps (suc m) lane false held ≡ and_text (lane_line lane idle_text) (only held)
was_idle m lane held e =
    first_by m lane false held told.Nothing e
    ∙ ap (λ p. and_text (lane_line lane idle_text) p) (ap (steps m lane true) (nothing_keeps held lane e) ∙ still_idle m lane held e)

-- ---- the same for several steps of which some are left, with a text before them

pub after_went : (n m lane : ℕ) (old new : Held) (before : List ℕ) (s : Step) → n ≡ suc m → told.Went s ≡ answered old lane → new ≡ stepped old lane
    → and_text before (steps m lane false new) ≡ and_text before (steps n lane false old)
after_went n m lane old new before s count answer is =
    ap (and_text before) (ap (steps m lane false) is ∙ sym (went_on m lane old s (sym answer)) ∙ ap (λ k. steps k lane false old) (sym count))

pub after_answer : (n m lane : ℕ) (old new : Held) (before after : List ℕ) (tag : Tag) (answer : Answer) → n ≡ suc m → told.Done tag answer ≡ answered old lane → new ≡ stepped old lane
    → after ≡ before ++ lane_line lane (answer_text answer) → and_text after (steps m lane false new) ≡ and_text before (steps n lane false old)
after_answer n m lane old new before after tag answer count said is text =
    ap (λ t. and_text t (steps m lane false new)) text ∙ text_joined before (lane_line lane (answer_text answer)) (steps m lane false new)
    ∙ ap (and_text before) (ap (λ h. and_text (lane_line lane (answer_text answer)) (steps m lane false h)) is ∙ sym (was_answered m lane old tag answer (sym said)) ∙ ap (λ k. steps k lane false old) (sym count))

pub after_idle : (n m lane : ℕ) (old new : Held) (before after : List ℕ) → n ≡ suc m → told.Nothing ≡ answered old lane → new ≡ stepped old lane
    → after ≡ before ++ lane_line lane idle_text → and_text after (steps 0 lane false new) ≡ and_text before (steps n lane false old)
after_idle n m lane old new before after count said is text =
    ap (λ t. and_text t (steps 0 lane false new)) text ∙ text_joined before (lane_line lane idle_text) (steps 0 lane false new)
    ∙ ap (and_text before)
    (ap (and_text (lane_line lane idle_text)) (none_left lane false new ∙ ap only (is ∙ nothing_keeps old lane (sym said)))
    ∙ sym (was_idle m lane old (sym said)) ∙ ap (λ k. steps k lane false old) (sym count))

-- ---- steps that lead on and print nothing

pub leads_none : (lane : ℕ) (held : Held) → Leads 0 lane held held
leads_none lane held = λ n. let e : 0 + n ≡ n = omega arith in ap (λ k. steps k lane false held) e

pub leads_more : (k lane : ℕ) (a b : Held) (s : Step) → Leads k lane a b → answered b lane ≡ told.Went s → Leads (k + 1) lane a (stepped b lane)
leads_more k lane a b s leads answer = λ n.
    let e : k + 1 + n ≡ k + suc n = omega arith in
    ap (λ k. steps k lane false a) e ∙ leads (suc n) ∙ went_on n lane b s answer

-- if they lead back, whole rounds make no difference
rounds : (d lane : ℕ) (a : Held) → Leads d lane a a → (r q : ℕ) → steps (q * d + r) lane false a ≡ steps r lane false a
rounds d lane a leads r zero = let e : 0 * d + r ≡ r = omega arith in ap (λ k. steps k lane false a) e
rounds d lane a leads r (suc q) =
    let e : suc q * d + r ≡ d + (q * d + r) = omega arith in
    ap (λ k. steps k lane false a) e ∙ leads (q * d + r) ∙ rounds d lane a leads r q

pub rest_of_rounds : (d lane n : ℕ) (a : Held) → Leads d lane a a → steps (n % d) lane false a ≡ steps n lane false a
rest_of_rounds d lane n a leads = sym (rounds d lane a leads (n % d) (n / d)) ∙ ap (λ k. steps k lane false a) (div-add-mod' n d)

pub rest_le : (n d : ℕ) → n % d ≤ n
rest_le n d = let e : n / d * d + n % d ≡ n = div-add-mod' n d in omega arith

-- a lane that can't go on
pub stays : (lane n : ℕ) (a : Held) → Leads 1 lane a a → steps 0 lane false a ≡ steps n lane false a
stays lane n a leads = let e : n * 1 + 0 ≡ n = omega arith in sym (rounds 1 lane a leads 0 n) ∙ ap (λ k. steps k lane false a) e
