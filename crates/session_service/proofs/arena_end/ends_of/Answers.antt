use Rattle.std.proofs.Common.{◌≡◌, [], ◌∷◌, ◌++◌, length, sym, ap, ◌∙◌, append_assoc}
use mathlib.Core.List.{map-append}
use Rattle.lane_core.specs.declared.arena_words.ArenaWords.{ArenaWords}
use Rattle.turn_lock.proofs.Places.{all_at_seam}
use Rattle.session_service.specs.Ends.{two_valued}
use Rattle.session_service.proofs.arena_end.ends_of.Goals as goal

pub of_words-requires : goal.of_words-requires
of_words-requires c =
    let behind = ap (λ r. c.loop-words.yielded ++ r) (sym c.in-Some.ensures.steps.0) ∙ c.loop-words.invariant.rest in
    record { both = all_at_seam (λ (w : ArenaWords). length w.seen.items ≡ length w.kept.items) c.args.arenas.items c.loop-words.yielded c.next.new.self.rest.items c.in-Some.words behind c.requires }

pub loop-words-preserved : goal.loop-words-preserved
loop-words-preserved c =
    let i = c.loop-words.invariant in
    let words = c.in-Some.words in
    record {
      rest = append_assoc c.loop-words.yielded (words ∷ []) c.next.new.self.rest.items ∙ ap (λ r. c.loop-words.yielded ++ r) (sym c.in-Some.ensures.steps.0) ∙ i.rest;
      ends = c.in_ok-push.ensures.items ∙ (λ k. i.ends k ++ c.of_words.ensures k ∷ []) ∙ sym (map-append (λ (w : ArenaWords). two_valued w.kept.items w.seen.items) c.loop-words.yielded (words ∷ []));
    }
