-- A command whose format is counted, and the set that is saved with the words of the arena in the contents.
use Rattle.std.proofs.Common.{◌≡◌, ◌≢◌, ℕ, ◌/◌, ◌<◌, ◌≤◌, min, Bool, true, false, List, [], length, map, take, Option, Some, None, Result, Ok, Err, refl, sym, ap, ◌∙◌, subst, inl, inr, arith}
use Rattle.std.specs.Prelude.{is_ok}
use Rattle.std.proofs.lemmas.Bool.{cases_lt, false≢true}
use Rattle.std.proofs.lemmas.List.{take_all}
use Rattle.std.proofs.lemmas.Option.{none-some}
use Rattle.nvd_media.specs.Images.{Images}
use Rattle.nfit_reader.specs.declared.table.Mapping.{Mapping}
use Rattle.cut_words.specs.Words.{Step, Words}
use Rattle.cut_words.specs.WordBytes.{bytes_of, words_in}
use Rattle.cut_words.specs.Fuses.{allowed, burnt, lasts}
use Rattle.arena_layout.specs.declared.layout.Layout.{Layout}
use Rattle.arena_open.specs.Format.{format_count, format_steps}
use Rattle.arena_open.proofs.Counts.{format_counts}
use Rattle.image_set.specs.declared.changing.OutlineRest.{OutlineRest}
use Rattle.image_set.specs.Patches.{patched_contents}
use Rattle.power_cut.specs.Namespace.{Namespace, ReachEnds, over}
use Rattle.sector_namespaces.specs.Creation.{CanLie, IsFormattedIn, has_sectors, layout_for, place_in}
use Rattle.sector_namespaces.specs.View.{rows_of}
use Rattle.namespace_areas.specs.declared.area.Area.{Area}
use Rattle.namespace_areas.specs.Finding.{set_at}
use Rattle.namespace_areas.specs.Refusals.{offset_for, shown}
use Rattle.namespace_areas.specs.Seen.{words_of}
use Rattle.namespace_bytes.specs.Patching.{byte_patched}
use Rattle.namespace_map.specs.Namespaces.{Namespaces}
use Rattle.namespace_map.specs.declared.commands.Command.{Command}
use Rattle.namespace_map.specs.declared.commands.Command.TheVariants.{Create, Delete, Rename, Claim, Unclaim}
use Rattle.namespace_map.specs.declared.commands.CreateSpec.{CreateSpec}
use Rattle.namespace_map.specs.declared.refused.OpRefused.{OpRefused}
use Rattle.namespace_map.specs.declared.refused.OpRefused.TheVariants.{PowerCut}
use Rattle.namespace_map.specs.Commands.{refusal_of, set_of, share_of}
use Rattle.namespace_ops.specs.declared.formatter.Begun.{Begun as FormatBegun}
use Rattle.namespace_ops.specs.Counted.{makes_sectors, steps_made}
use Rattle.namespace_ops.proofs.Layouts.{layout_can, room_can}
use Rattle.namespace_ops.proofs.Lies.{IsGood, good_has}
use Rattle.format_patch.specs.Cut.{FormatIsLeft}
use Rattle.format_patch.proofs.Cut.{left_patched}
use Rattle.shell_reports.specs.declared.power.Power.{Power}
use Rattle.shell_changes.specs.declared.answer.Answer.{Answer}
use Rattle.shell_changes.specs.declared.saving.NewArena.{NewArena}
use Rattle.shell_changes.specs.declared.saving.Remains.TheVariants as kind
use Rattle.shell_changes.specs.Answers.{outcome_with}
use Rattle.shell_changes.specs.Going.{Begins, CanPut, FormatsIn, GoesOn, IsBegun, IsCounted, Runs}
use Rattle.shell_changes.specs.Remains.{AnswersCut, AnswersDone, LeavesBy, LeavesFormatted, remains_of}
use Rattle.shell_changes.specs.Rest.{HoldSets, objects_by, objects_for, words_for}
use Rattle.shell_changes.specs.Work.{Arena, arena_by, arena_of}
use Rattle.shell_changes.proofs.Remains.{formatted_cut, formatted_done, kept_cut, kept_done}
use Rattle.shell_changes.proofs.Runs.{cut_reply, no_arena, ok_reply, went_on}

-- ---- the arena that a command began

steps_few : (fuse : Option ℕ) (count : ℕ) → steps_made fuse count ≤ count
steps_few None count = omega arith
steps_few (Some n) count = omega arith

module _ (sets : List (List Mapping)) (areas : List Area) (spec : CreateSpec) (fuse : Option ℕ) (b : FormatBegun) (counted : IsCounted sets areas (Create spec) fuse (Some b)) where
  abbrev ns : Namespaces
  ns = shown sets areas

  sectors : has_sectors spec.make ≡ true
  sectors = by (has_sectors spec.make) refl
    where
      by : (x : Bool) → has_sectors spec.make ≡ x → has_sectors spec.make ≡ true
      by true is = is
      by false raw = absurd (none-some b (sym (counted.plain raw)))

  allowed_it : refusal_of (shown sets areas) (Create spec) ≡ None
  allowed_it = by (refusal_of (shown sets areas) (Create spec)) refl
    where
      by : (o : Option OpRefused) → refusal_of (shown sets areas) (Create spec) ≡ o → refusal_of (shown sets areas) (Create spec) ≡ None
      by None is = is
      by (Some f) at = absurd (none-some b (sym (counted.refused f at)))

  good : IsGood sets areas spec
  good = good_has sets areas spec sectors allowed_it

  pub region_there : spec.region < length sets
  region_there = good.there

  abbrev made : NewArena
  made = record {
    set = set_of (shown sets areas) spec.region;
    offset = offset_for (shown sets areas) spec;
    raw = share_of (set_of (shown sets areas) spec.region) spec.size;
    layout = layout_for spec;
    uuid = spec.uuid;
    steps = steps_made fuse (format_count (layout_for spec));
  }

  is_made : IsBegun sets (record { place = place_in (shown sets areas) spec; layout = layout_for spec; uuid = spec.uuid }) fuse made
  is_made =
      let can : CanLie (set_of (shown sets areas) spec.region) (offset_for (shown sets areas) spec) spec = good.lies in
      record {
        among = (spec.region, good.there, sym good.set_is);
        place = refl;
        layout = refl;
        uuid = refl;
        steps = refl;
        can = record {
          from = can.from;
          to = can.to;
          inside = can.inside;
          layout = layout_can (set_of (shown sets areas) spec.region) (offset_for (shown sets areas) spec) spec can;
          room = room_can (set_of (shown sets areas) spec.region) (offset_for (shown sets areas) spec) spec can;
          few = steps_few fuse (format_count (layout_for spec));
        };
      }

  some_same : {A : Type 0} {x y : A} → Some x ≡ Some y → x ≡ y
  some_same e = cc

  b_is : b ≡ record { offset = offset_for (shown sets areas) spec; layout = layout_for spec; steps = steps_made fuse (format_count (layout_for spec)) }
  b_is = some_same (counted.some allowed_it spec refl sectors).1

  module _ (set : List Mapping) (raw : ℕ) (set_is : set ≡ set_at sets spec.region) (raw_is : raw ≡ spec.size / length set) where
    abbrev new : NewArena
    new = record { set = set; offset = b.offset; raw = raw; layout = b.layout; uuid = spec.uuid; steps = b.steps }

    new_is : made ≡ new
    new_is =
        let set_eq : set_of (shown sets areas) spec.region ≡ set = sym (set_is ∙ good.set_is) in
        let raw_eq : share_of (set_of (shown sets areas) spec.region) spec.size ≡ raw = ap (λ (s : List Mapping). spec.size / length s) set_eq ∙ sym raw_is in
        let b_eq = sym b_is in
        λ i. record { set = set_eq i; offset = (b_eq i).offset; raw = raw_eq i; layout = (b_eq i).layout; uuid = spec.uuid; steps = (b_eq i).steps }

    begun_is : IsBegun sets (record { place = place_in (shown sets areas) spec; layout = layout_for spec; uuid = spec.uuid }) fuse new
    begun_is = subst (λ (n : NewArena). IsBegun sets (record { place = place_in (shown sets areas) spec; layout = layout_for spec; uuid = spec.uuid }) fuse n) new_is is_made

    pub can_put : CanPut (record { set = set; offset = b.offset; raw = raw; layout = b.layout; uuid = spec.uuid; steps = b.steps })
    can_put = begun_is.can

    pub begins_some : Begins sets (arena_of (shown sets areas) (Create spec)) fuse (Some (record { set = set; offset = b.offset; raw = raw; layout = b.layout; uuid = spec.uuid; steps = b.steps }))
    begins_some = subst (λ (x : Bool). Begins sets (arena_by (shown sets areas) spec x) fuse (Some new)) (sym sectors) (new, refl, begun_is)

-- a command that began none
pub begins_none : (sets : List (List Mapping)) (areas : List Area) (c : Command) (fuse : Option ℕ) → IsCounted sets areas c fuse None → refusal_of (shown sets areas) c ≡ None → Begins sets (arena_of (shown sets areas) c) fuse None
begins_none sets areas (Create spec) fuse counted allowed = by (has_sectors spec.make) refl
  where
    by : (x : Bool) → has_sectors spec.make ≡ x → Begins sets (arena_by (shown sets areas) spec x) fuse None
    by false raw = refl
    by true sectors = absurd (none-some _ ((counted.some allowed spec refl sectors).1))
begins_none sets areas (Delete uuid) fuse counted allowed = refl
begins_none sets areas (Rename uuid name) fuse counted allowed = refl
begins_none sets areas (Claim uuid) fuse counted allowed = refl
begins_none sets areas (Unclaim uuid) fuse counted allowed = refl

pub begins_other : (sets : List (List Mapping)) (areas : List Area) (c : Command) (fuse : Option ℕ) → ((spec : CreateSpec) → c ≢ Create spec) → Begins sets (arena_of (shown sets areas) c) fuse None
begins_other sets areas (Create spec) fuse other = absurd (other spec refl)
begins_other sets areas (Delete uuid) fuse other = refl
begins_other sets areas (Rename uuid name) fuse other = refl
begins_other sets areas (Claim uuid) fuse other = refl
begins_other sets areas (Unclaim uuid) fuse other = refl

-- ---- the steps that were made

allowed_made : (fuse : Option ℕ) (steps : List Step) (count : ℕ) → length steps ≡ count → allowed fuse steps ≡ take (steps_made fuse count) steps
allowed_made None steps count long = sym (take_all count steps (omega (arith, long)))
allowed_made (Some n) steps count long = elim (cases_lt n count) [
  | inl less ↦ ap (λ (m : ℕ). take m steps) (let e : n ≡ min n count = omega (arith, less) in e)
  | inr more ↦ take_all n steps (omega (arith, more, long)) ∙ sym (take_all (min n count) steps (omega (arith, more, long)))
]

some_arena : (names : Namespaces) (c : Command) → makes_sectors c ≡ true → (arena : Arena) × (arena_of names c ≡ Some arena)
some_arena names (Create spec) makes = (record { place = place_in names spec; layout = layout_for spec; uuid = spec.uuid }, ap (arena_by names spec) makes)
some_arena names (Delete uuid) makes = absurd (false≢true makes)
some_arena names (Rename uuid name) makes = absurd (false≢true makes)
some_arena names (Claim uuid) makes = absurd (false≢true makes)
some_arena names (Unclaim uuid) makes = absurd (false≢true makes)

-- what is left of an arena that was begun, as the patch puts it
module _ {C : Type 0} (picks : C → ℕ → Bool → C → Type 0) (sets : List (List Mapping)) (arena : Arena) (fuse : Option ℕ) (new : NewArena) (is : IsBegun sets arena fuse new) (contents : List (List ℕ)) (holds : HoldSets sets contents) where
  reach : ReachEnds new.set (rows_of contents)
  reach = subst (λ (s : List Mapping). ReachEnds s (rows_of contents)) (sym is.among.2) (holds.usable is.among.0 is.among.1).reach

  pub is_left : (rest : OutlineRest) (labels : List (Option Words)) (set : _) (before after : C) (l : LeavesFormatted picks rest labels new set before after)
      → FormatIsLeft picks (over new.set new.offset new.raw) new.layout new.uuid (rows_of contents) fuse (map words_in (patched_contents (byte_patched l.patch) contents)) l.between after
  is_left rest labels set before after l =
      left_patched picks new.set new.offset new.raw new.layout new.uuid is.can.layout is.can.room l.words l.patch l.puts contents holds.whole reach fuse new.steps is.can.few
      (allowed_made fuse (format_steps 0 new.layout new.uuid new.uuid) (format_count new.layout) (format_counts 0 new.layout new.uuid new.uuid l.puts.block.uuid_is l.puts.block.uuid_is)
      ∙ ap (λ (n : ℕ). take n (format_steps 0 new.layout new.uuid new.uuid)) (sym is.steps)) l.between after l.asks

  pub formats_in : (made : List Words) → IsFormattedIn (over new.set new.offset new.raw) new.layout new.uuid (rows_of contents) made fuse (burnt fuse (format_count new.layout)) (lasts fuse (format_count new.layout))
      → FormatsIn (Some arena) (rows_of contents) made fuse
  formats_in made it =
      subst (λ (place : List Words → Namespace). IsFormattedIn place arena.layout arena.uuid (rows_of contents) made fuse (burnt fuse (format_count arena.layout)) (lasts fuse (format_count arena.layout))) (sym is.place)
      (subst (λ (l : Layout). IsFormattedIn (over new.set new.offset new.raw) l arena.uuid (rows_of contents) made fuse (burnt fuse (format_count l)) (lasts fuse (format_count l))) (sym is.layout)
      (subst (λ (uuid : List ℕ). IsFormattedIn (over new.set new.offset new.raw) new.layout uuid (rows_of contents) made fuse (burnt fuse (format_count new.layout)) (lasts fuse (format_count new.layout))) (sym is.uuid) it))

-- ---- a command that isn't refused

module _ {C : Type 0} (begins : C → ℕ → C → Type 0) (picks : C → ℕ → Bool → C → Type 0) (power : Power) (choose : C) (answer : Answer) (contents : List (List ℕ)) (rest : OutlineRest)
    (sets : List (List Mapping)) (old news : List Area) (fuse left : Option ℕ) (c : Command) (reply : Result (Unit {0}) OpRefused) (runs : Runs sets old news fuse left c reply) (begun : Option NewArena)
    (done : reply ≡ Ok tt → AnswersDone picks (remains_of rest (map words_of news) begun) choose answer)
    (cut : reply ≡ Err PowerCut → AnswersCut begins picks power (remains_of rest (map words_of news) begun) choose answer) (none : refusal_of (shown sets old) c ≡ None) where
  abbrev here : Namespaces
  here = shown sets old

  -- no arena is formatted
  plain_on : makes_sectors c ≡ false → begun ≡ None
      → GoesOn (LeavesBy begins picks choose) (λ rows ls. objects_by rest contents rows) power sets old [] fuse c (outcome_with answer contents)
  plain_on plain nothing =
      went_on sets old news fuse left c reply runs (LeavesBy begins picks choose) (λ rows ls. objects_by rest contents rows) power [] [] (outcome_with answer contents)
      (subst (λ (o : Option Arena). FormatsIn o [] [] fuse) (sym (no_arena here c plain)) refl) none
      (λ ok. kept_done begins picks power choose answer news contents rest
      (subst (λ (o : Option NewArena). AnswersDone picks (remains_of rest (map words_of news) o) choose answer) nothing (done (ok_reply sets old news fuse left c reply runs ok))))
      (λ err. kept_cut begins picks power choose answer news contents rest
      (subst (λ (o : Option NewArena). AnswersCut begins picks power (remains_of rest (map words_of news) o) choose answer) nothing (cut (cut_reply sets old news fuse left c reply runs none err))))

  -- one is
  module _ (holds : HoldSets sets contents) (arena : Arena) (at : arena_of here c ≡ Some arena) (new : NewArena) (is_new : begun ≡ Some new) (is : IsBegun sets arena fuse new) where
    abbrev objects : List (Option (List ℕ)) → List (List ℕ) → Images
    objects = λ rows ls. objects_by rest (map bytes_of ls) rows

    sectors_by : (b : Bool) → is_ok reply ≡ b → GoesOn (LeavesBy begins picks choose) (λ rows ls. objects_by rest (map bytes_of ls) rows) power sets old (rows_of contents) fuse c (outcome_with answer contents)
    sectors_by true ok =
        let it : AnswersDone picks (kind.Formatted rest (map words_of news) new) choose answer =
        subst (λ (o : Option NewArena). AnswersDone picks (remains_of rest (map words_of news) o) choose answer) is_new (done (ok_reply sets old news fuse left c reply runs ok)) in
        let is_it = is_left picks sets arena fuse new is contents holds rest (map words_of news) it.saved.set choose it.after it.saved.leaves in
        went_on sets old news fuse left c reply runs (LeavesBy begins picks choose) objects power (rows_of contents) is_it.made (outcome_with answer contents)
        (subst (λ (o : Option Arena). FormatsIn o (rows_of contents) is_it.made fuse) (sym at) (formats_in picks sets arena fuse new is contents holds is_it.made is_it.formatted)) none
        (λ _. formatted_done begins picks power choose answer news contents rest new it is_it.made is_it.left_of)
        (λ err. absurd (false≢true (sym err ∙ ok)))
    sectors_by false err =
        let it : AnswersCut begins picks power (kind.Formatted rest (map words_of news) new) choose answer =
        subst (λ (o : Option NewArena). AnswersCut begins picks power (remains_of rest (map words_of news) o) choose answer) is_new (cut (cut_reply sets old news fuse left c reply runs none err)) in
        let is_it = is_left picks sets arena fuse new is contents holds rest (map words_of news) it.saved.set it.begun it.after it.saved.leaves in
        went_on sets old news fuse left c reply runs (LeavesBy begins picks choose) objects power (rows_of contents) is_it.made (outcome_with answer contents)
        (subst (λ (o : Option Arena). FormatsIn o (rows_of contents) is_it.made fuse) (sym at) (formats_in picks sets arena fuse new is contents holds is_it.made is_it.formatted)) none
        (λ ok. absurd (false≢true (sym err ∙ ok)))
        (λ _. formatted_cut begins picks power choose answer news contents rest new it is_it.made is_it.left_of is_it.asked)

    sectors_on : GoesOn (LeavesBy begins picks choose) (λ rows ls. objects_by rest (map bytes_of ls) rows) power sets old (rows_of contents) fuse c (outcome_with answer contents)
    sectors_on = sectors_by (is_ok reply) refl

  pub goes_on : HoldSets sets contents → Begins sets (arena_of here c) fuse begun
      → GoesOn (LeavesBy begins picks choose) (objects_for (makes_sectors c) rest contents) power sets old (words_for (makes_sectors c) contents) fuse c (outcome_with answer contents)
  goes_on holds it = by (makes_sectors c) refl
    where
      by : (m : Bool) → makes_sectors c ≡ m
          → GoesOn (LeavesBy begins picks choose) (objects_for m rest contents) power sets old (words_for m contents) fuse c (outcome_with answer contents)
      by false plain = plain_on plain (subst (λ (o : Option Arena). Begins sets o fuse begun) (no_arena here c plain) it)
      by true makes =
          let (arena, at) = some_arena here c makes in
          let (new, is_new, is) = subst (λ (o : Option Arena). Begins sets o fuse begun) at it in
          sectors_on holds arena at new is_new is
