use Rattle.std.proofs.Common.{◌≡◌, ◌∙◌, ◌<◌, ◌^◌, ℕ, List, [], None, Result, refl, ap, sym, subst, length}
use Rattle.std.specs.Prelude.{is_ok, map, not}
use Rattle.std.proofs.lemmas.List.{length-map}
use Rattle.cut_words.specs.declared.fuse.PowerCut.{PowerCut}
use Rattle.nfit_reader.specs.declared.table.Mapping.{Mapping}
use Rattle.namespace_areas.specs.declared.area.Area.{Area}
use Rattle.namespace_areas.specs.Seen.{words_of}
use Rattle.namespace_areas.specs.Went.{size_of}
use Rattle.shell_reports.proofs.More.{if_both, if_more}
use Rattle.shell_changes.specs.declared.answer.Answer.{Answer}
use Rattle.shell_changes.specs.Answers.{outcome_with}
use Rattle.shell_changes.specs.Going.{GoesFrom, SavesCut}
use Rattle.shell_changes.specs.Remains.{AnswersCut, AreOf, LeavesBy, remains_of}
use Rattle.shell_changes.specs.Rest.{HoldSets, objects_by, objects_for, words_for}
use Rattle.namespace_ops.specs.Counted.{makes_sectors}
use Rattle.shell_changes.proofs.Remains.{kept_cut}
use Rattle.shell_changes.proofs.Runs.{goes_then, left_none, stops_first, went_given}
use Rattle.shell_changes.proofs.changing.opened_answer.Goals as goal

-- areas that recovery has changed are as many
kept : (olds news : List Area) (areas : List Area) (n : ℕ) → map size_of news ≡ map size_of olds → olds ≡ areas → length areas ≡ n → length news ≡ n
kept olds news areas n sizes is count = sym (length-map news size_of) ∙ ap length sizes ∙ length-map olds size_of ∙ ap length is ∙ count

pub command_answer-requires-clause-run : goal.command_answer-requires-clause-run
command_answer-requires-clause-run g c =
    let sets : c.recover.new.self.sets ≡ c.args.registry.sets = c.recover.ensures.kept.sets in
    record {
      few_sets = subst (λ (s : List (List Mapping)). length s < 2 ^ 32) (sym sets) c.requires.run.few_sets;
      name = c.requires.run.name;
      rest_is = c.requires.run.rest_is;
      whole = c.requires.run.whole;
      count = kept c.args.registry.areas c.recover.new.self.areas c.args.registry.areas (length c.args.rest.sizes) c.recover.ensures.went.sizes refl c.requires.run.count;
    }

pub command_answer-requires-clause-fresh : goal.command_answer-requires-clause-fresh
command_answer-requires-clause-fresh g c =
    let fresh = c.requires.fresh in
    record {
      running = c.recover.ensures.stopped ∙ ap (λ (r : Result (Unit {0}) PowerCut). not (is_ok r)) c.in-Ok.is;
      claims = c.recover.ensures.kept.claims ∙ fresh.claims;
      journal = c.recover.ensures.kept.journal ∙ fresh.journal;
      room = c.recover.ensures.kept.room ∙ fresh.room;
    }

pub command_answer-requires-clause-given : goal.command_answer-requires-clause-given
command_answer-requires-clause-given g c = λ none. left_none _ _ c.fuse_of-fuse.result c.recover.new.fuse _ _ c.recover.ensures.went (c.fuse_of-fuse.ensures ∙ none)

pub stopped_answer-requires-clause-areas : goal.stopped_answer-requires-clause-areas
stopped_answer-requires-clause-areas g c =
    subst (λ (xs : List Area). AreOf c.args.rest (map words_of xs)) (sym c.into_areas.ensures.areas)
    (record {
      rest_is = c.requires.run.rest_is;
      whole = c.requires.run.whole;
      count = length-map c.recover.new.self.areas words_of
          ∙ kept c.args.registry.areas c.recover.new.self.areas c.args.registry.areas (length c.args.rest.sizes) c.recover.ensures.went.sizes refl c.requires.run.count;
    })

pub stopped_answer-requires-clause-given : goal.stopped_answer-requires-clause-given
stopped_answer-requires-clause-given g c = λ none.
    went_given _ _ c.fuse_of-fuse.result c.recover.new.fuse _ _ c.recover.ensures.went (ap (λ (r : Result (Unit {0}) PowerCut). is_ok r) c.in-Err.is) (c.fuse_of-fuse.ensures ∙ none)

pub returns-in-Ok-clause-comes : goal.returns-in-Ok-clause-comes
returns-in-Ok-clause-comes g c =
    let leaves = LeavesBy g.C.Chooser.begins g.C.Chooser.picks c.args.choose.now in
    let makes = makes_sectors c.args.change.now in
    let sets : c.recover.new.self.sets ≡ c.args.registry.sets = c.recover.ensures.kept.sets in
    if_both _ _ (λ (answer : Answer). (contents : List (List ℕ)) → HoldSets c.args.registry.sets contents
    → GoesFrom leaves (objects_by c.args.rest contents) (objects_for makes c.args.rest contents) c.args.power c.args.registry.sets c.args.registry.areas (words_for makes contents) c.args.change.now (outcome_with answer contents)) c.command_answer.result
    (λ answer refused went contents holds.
    goes_then leaves (objects_by c.args.rest contents) (objects_for makes c.args.rest contents) c.args.power c.args.registry.sets c.args.registry.sets c.args.registry.areas c.args.registry.areas c.recover.new.self.areas (words_for makes contents)
    c.fuse_of-fuse.result c.recover.new.fuse c.args.change.now (outcome_with answer contents) (is_ok c.recover.result) refl c.fuse_of-fuse.ensures refl c.recover.ensures.went
    c.recover.new.self.sets c.recover.ensures.kept.sets (ap (λ (r : Result (Unit {0}) PowerCut). is_ok r) c.in-Ok.is) (refused contents)
    (went contents (subst (λ (ss : List (List Mapping)). HoldSets ss contents) (sym sets) holds)))
    c.command_answer.ensures.refused c.command_answer.ensures.went

pub returns-in-Err-clause-comes : goal.returns-in-Err-clause-comes
returns-in-Err-clause-comes g c =
    let leaves = LeavesBy g.C.Chooser.begins g.C.Chooser.picks c.args.choose.now in
    let makes = makes_sectors c.args.change.now in
    if_more (AnswersCut g.C.Chooser.begins g.C.Chooser.picks c.args.power (remains_of c.args.rest (map words_of c.into_areas.result.items) None) c.args.choose.now)
    (λ (answer : Answer). (contents : List (List ℕ)) → HoldSets c.args.registry.sets contents
    → GoesFrom leaves (objects_by c.args.rest contents) (objects_for makes c.args.rest contents) c.args.power c.args.registry.sets c.args.registry.areas (words_for makes contents) c.args.change.now (outcome_with answer contents)) c.stopped_answer.result
    (λ answer cut contents holds.
    stops_first leaves (objects_by c.args.rest contents) (objects_for makes c.args.rest contents) c.args.power c.args.registry.sets c.args.registry.sets c.args.registry.areas c.args.registry.areas c.recover.new.self.areas (words_for makes contents)
    c.fuse_of-fuse.result c.recover.new.fuse c.args.change.now (outcome_with answer contents) (is_ok c.recover.result) refl c.fuse_of-fuse.ensures refl c.recover.ensures.went
    (ap (λ (r : Result (Unit {0}) PowerCut). is_ok r) c.in-Err.is)
    (subst (λ (xs : List Area). SavesCut leaves (λ rows left. objects_by c.args.rest contents rows) c.args.power xs [] (outcome_with answer contents)) c.into_areas.ensures.areas
    (kept_cut g.C.Chooser.begins g.C.Chooser.picks c.args.power c.args.choose.now answer c.into_areas.result.items contents c.args.rest cut)))
    c.stopped_answer.ensures.cut
