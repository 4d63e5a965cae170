use Rattle.std.proofs.Common.{◌≡◌, ◌<◌, ℕ, ◌+◌, [], ◌∷◌, length, length-append, map, get_or, sym, ap, ◌∙◌, subst, arith}
use Rattle.std.specs.Prelude.{All}
use Rattle.std.proofs.lemmas.List.{length-map}
use Rattle.turn_lock.specs.Passes.{lock_id, first_of}
use Rattle.turn_lock.specs.Rows.{items_at}
use Rattle.turn_callers.specs.Replay.{entries_by}
use Rattle.turn_callers.specs.Orders.{made_at}
use Rattle.turn_callers.specs.Sessions.{IsNew, IsJournal}
use Rattle.turn_lock.proofs.Places.{all_pop}
use Rattle.turn_callers.proofs.Passing.{all_out, every_one, done_before, tied}
use Rattle.turn_callers.proofs.Closing.{done_split, journal_same, nothing_else, journals_push}
use Rattle.turn_callers.proofs.shelf.+close_all.Goals as goal

pub close-requires-clause-passes : goal.close-requires-clause-passes
close-requires-clause-passes t c =
    let xs = c.pop.new.self.items in
    let scripts = c.args.scripts.now in
    let ss = c.args.sessions.now in
    let done = done_split c.args.turns.items xs c.in-Some.turn scripts ss c.in-Some.ensures.items c.requires.done in
    let same : length c.take_back.new.sessions ≡ length ss = omega arith in
    all_out (map lock_id xs) (lock_id c.in-Some.turn) scripts ss c.take_back.new.sessions c.in_ok-passes.passes.items done same c.in_ok-passes.ensures.count c.in_ok-passes.ensures.passes c.in_ok-passes.ensures.others

pub close-requires-clause-every : goal.close-requires-clause-every
close-requires-clause-every t c = λ q h.
    let xs = c.pop.new.self.items in
    let scripts = c.args.scripts.now in
    let ss = c.args.sessions.now in
    let done = done_split c.args.turns.items xs c.in-Some.turn scripts ss c.in-Some.ensures.items c.requires.done in
    let same : length c.take_back.new.sessions ≡ length ss = omega arith in
    let new = all_pop (IsNew (length ss)) c.args.turns.items xs c.in-Some.turn c.in-Some.ensures.items c.requires.new in
    every_one (map lock_id xs) (lock_id c.in-Some.turn) scripts ss c.take_back.new.sessions c.in_ok-passes.passes.items done same c.in_ok-passes.ensures.count c.in_ok-passes.ensures.passes c.in_ok-passes.ensures.others q (omega (arith, h, new.1.0))

pub close_all-requires : goal.close_all-requires
close_all-requires t c =
    let xs = c.pop.new.self.items in
    let scripts = c.args.scripts.now in
    let ss = c.args.sessions.now in
    let done = done_split c.args.turns.items xs c.in-Some.turn scripts ss c.in-Some.ensures.items c.requires.done in
    let same : length c.take_back.new.sessions ≡ length ss = omega arith in
    let new = all_pop (IsNew (length ss)) c.args.turns.items xs c.in-Some.turn c.in-Some.ensures.items c.requires.new in
    (omega (arith, ap length c.in-Some.ensures.items, length-append xs (c.in-Some.turn ∷ [])), (subst (λ (n : ℕ). All (IsNew n) xs) (sym same) new.0, done_before (map lock_id xs) (lock_id c.in-Some.turn) scripts ss c.take_back.new.sessions c.in_ok-passes.passes.items done same c.in_ok-passes.ensures.count c.in_ok-passes.ensures.passes c.in_ok-passes.ensures.others))

pub returns-clause-journals : goal.returns-clause-journals
returns-clause-journals t c =
    let xs = c.pop.new.self.items in
    let scripts = c.args.scripts.now in
    let ss = c.args.sessions.now in
    let lock = c.in-Some.turn in
    let done = done_split c.args.turns.items xs lock scripts ss c.in-Some.ensures.items c.requires.done in
    let same : length c.take_back.new.sessions ≡ length ss = omega arith in
    let new = all_pop (IsNew (length ss)) c.args.turns.items xs lock c.in-Some.ensures.items c.requires.new in
    let journals = c.in_ok-journals.journals.items in
    let long : length journals ≡ length xs = c.in_ok-journals.ensures.count in
    let more : length c.args.turns.items ≡ length journals + 1 = omega (arith, ap length c.in-Some.ensures.items, length-append xs (lock ∷ []), long) in
    let front = λ (j : ℕ) (h : j < length journals). journal_same scripts ss c.take_back.new.sessions j (items_at journals j) same (λ q d i. (c.in_ok-passes.ensures.others q d i).1) (c.in_ok-journals.ensures.journals j (omega (arith, h, long))) in
    let journal = c.into_journal-journal.result in
    let here = ap (λ v. v.items) c.into_journal-journal.ensures.same in
    let places : length (map lock_id xs) ≡ length journals = omega (arith, length-map xs lock_id, long) in
    let last : IsJournal scripts ss (length journals) journal.items = record {
      legal = c.into_journal-journal.ensures.legal;
      tied = λ q d i. ap (λ es. entries_by q es) here
          ∙ tied (map lock_id xs) (lock_id lock) scripts ss c.take_back.new.sessions c.in_ok-passes.passes.items done same c.in_ok-passes.ensures.count c.in_ok-passes.ensures.passes c.in_ok-passes.ensures.others c.close.result c.close.ensures.callers q d i
          ∙ ap (λ (j : ℕ). made_at q j (items_at scripts q) (get_or ss q d).replies.items) places;
      no_other = λ q over. ap (λ es. entries_by q es) here ∙ nothing_else c.close.result (first_of lock) q (c.close.ensures.strangers q (omega (arith, over, new.1.0))) new.1.1;
    } in
    λ j h. subst (λ l. IsJournal scripts ss j (items_at l j)) (sym c.in_ok-push.ensures.items) (journals_push scripts ss journals journal front last j (omega (arith, h, more)))

pub returns-clause-same : goal.returns-clause-same
returns-clause-same t c = λ q d h.
    let same : length c.take_back.new.sessions ≡ length c.args.sessions.now = omega arith in
    c.in_ok-journals.ensures.same q d (omega (arith, h, same)) ∙ (c.in_ok-passes.ensures.others q d h).1
