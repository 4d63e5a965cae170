-- What became of label areas and contents by a command, by what carried it out.
use Rattle.std.proofs.Common.{◌≡◌, ◌≢◌, ℕ, Bool, true, false, List, [], length, Option, Some, None, Result, Ok, Err, refl, sym, ap, ◌∙◌, subst, inl, inr}
use Rattle.std.specs.Prelude.{is_ok}
use Rattle.std.proofs.lemmas.Bool.{false≢true, true≢false}
use Rattle.std.proofs.lemmas.Option.{none-some}
use Rattle.std.proofs.lemmas.List.{length-map}
use Rattle.nvd_media.specs.Images.{Images}
use Rattle.cut_words.specs.Words.{Words}
use Rattle.cut_words.specs.Fuses.{burnt, lasts}
use Rattle.nfit_reader.specs.declared.table.Mapping.{Mapping}
use Rattle.namespace_areas.specs.declared.area.Area.{Area}
use Rattle.namespace_map.specs.Namespaces.{Namespaces}
use Rattle.namespace_map.specs.declared.commands.Command.{Command}
use Rattle.namespace_map.specs.declared.commands.Command.TheVariants.{Create, Delete, Rename, Claim, Unclaim}
use Rattle.namespace_map.specs.declared.commands.CreateSpec.{CreateSpec}
use Rattle.namespace_map.specs.declared.refused.OpRefused.{OpRefused}
use Rattle.namespace_map.specs.declared.refused.OpRefused.TheVariants.{OutOfMemory, PowerCut}
use Rattle.namespace_map.specs.Areas.{Change, steps_of_all}
use Rattle.namespace_map.specs.Commands.{refusal_of}
use Rattle.namespace_map.specs.Changes.{changes_of, recovery_changes}
use Rattle.namespace_areas.specs.Seen.{areas_seen}
use Rattle.namespace_areas.specs.Refusals.{shown}
use Rattle.namespace_areas.specs.Went.{Went, size_of}
use Rattle.namespace_ops.specs.Carried.{is_cut}
use Rattle.namespace_ops.proofs.Findings.{claim_finding, create_finding, delete_finding, not_cut as finding_uncut, rename_finding}
use Rattle.namespace_ops.specs.Counted.{Answered, Formats, GoesOn as Goes, State, namespaces_in, steps_before, steps_made, with_claims}
use Rattle.namespace_ops.specs.declared.formatter.Counted.{Counted}
use Rattle.arena_open.specs.Format.{format_count}
use Rattle.sector_namespaces.specs.Creation.{CanLie, arena_steps, has_sectors, layout_for}
use Rattle.namespace_ops.proofs.Answers.{arena_count, plain_steps}
use Rattle.shell_reports.specs.declared.power.Power.{Power}
use Rattle.shell_reports.specs.Outcome.{Outcome}
use Rattle.shell_changes.specs.Going.{FormatsIn, GoesFrom, GoesOn, IsCounted, Runs, SavesCut, SavesDone, WorksOn}
use Rattle.shell_reports.specs.Faults.{refusal_text, refused_outcome}
use Rattle.namespace_ops.specs.Counted.{makes_sectors}
use Rattle.shell_changes.specs.Work.{arena_by, arena_of, count_of}

-- ---- results

pub err_same : (f g : OpRefused) → ◌≡◌ {A = Result (Unit {0}) OpRefused} (Err f) (Err g) → f ≡ g
err_same f g e = let e' = e in cc

-- a refusal doesn't say that power was cut
finding_of : (ns : Namespaces) (c : Command) (f : OpRefused) → refusal_of ns c ≡ Some f → is_cut (Err f) ≡ false
finding_of ns (Create spec) f some = finding_uncut f (create_finding ns spec f some)
finding_of ns (Delete uuid) f some = finding_uncut f (delete_finding ns uuid f some)
finding_of ns (Rename uuid name) f some = finding_uncut f (rename_finding ns uuid name f some)
finding_of ns (Claim uuid) f some = finding_uncut f (claim_finding ns uuid f some)
finding_of ns (Unclaim uuid) f some = absurd (none-some f some)

-- ---- by a registry

-- a command that makes no sectors formats no arena
none_by : (ns : Namespaces) (spec : CreateSpec) (b : Bool) → b ≡ false → arena_by ns spec b ≡ None
none_by ns spec false plain = refl
none_by ns spec true plain = absurd (true≢false plain)

pub no_arena : (ns : Namespaces) (c : Command) → makes_sectors c ≡ false → arena_of ns c ≡ None
no_arena ns (Create spec) plain = none_by ns spec (has_sectors spec.make) plain
no_arena ns (Delete uuid) plain = refl
no_arena ns (Rename uuid name) plain = refl
no_arena ns (Claim uuid) plain = refl
no_arena ns (Unclaim uuid) plain = refl

-- the arena's steps come before the label changes
count_is : (ns : Namespaces) (c : Command) → count_of (arena_of ns c) ≡ steps_before c
count_is ns (Create spec) = by (has_sectors spec.make) refl
  where
    by : (b : Bool) → has_sectors spec.make ≡ b → count_of (arena_by ns spec b) ≡ arena_steps spec
    by false raw = sym (plain_steps spec.size spec.make raw)
    by true sectors = arena_count spec.size spec.make sectors
count_is ns (Delete uuid) = refl
count_is ns (Rename uuid name) = refl
count_is ns (Claim uuid) = refl
count_is ns (Unclaim uuid) = refl

-- that counts no claims, while power is on and memory is found
pub answered_runs : (s new : State) (fuse left : Option ℕ) (c : Command) (reply : Result (Unit {0}) OpRefused) → s.claims ≡ [] → s.stopped ≡ false → reply ≢ Err OutOfMemory
    → Answered s new fuse left c reply → Runs s.sets s.areas new.areas fuse left c reply
answered_runs s new fuse left c reply none running other is =
    let goes : Goes s reply = (running, other) in
    let same : namespaces_in s ≡ shown s.sets s.areas = ap (with_claims (shown s.sets s.areas)) none in
    let refusal : refusal_of (namespaces_in s) c ≡ refusal_of (shown s.sets s.areas) c = ap (λ (ns : Namespaces). refusal_of ns c) same in
    let count : count_of (arena_of (shown s.sets s.areas) c) ≡ steps_before c = count_is (shown s.sets s.areas) c in
    record {
      refused = λ f at. let it = is.refused goes f (refusal ∙ at) in (it.0, ap (λ (x : State). x.areas) it.1);
      went = λ allowed. record {
        within = λ short. let it = is.within goes (refusal ∙ allowed) (ap (lasts fuse) (sym count) ∙ short) in (ap (λ (r : Result (Unit {0}) OpRefused). is_ok r) it.0, it.1);
        labels = λ long.
            subst (λ (n : ℕ). Went s.areas new.areas (burnt fuse n) left (changes_of (shown s.sets s.areas) (areas_seen s.areas) c) (is_ok reply)) (sym count)
            (subst (λ (ns : Namespaces). Went s.areas new.areas (burnt fuse (steps_before c)) left (changes_of ns (areas_seen s.areas) c) (is_ok reply)) same
            (is.went goes (refusal ∙ allowed) (ap (lasts fuse) (sym count) ∙ long)));
      };
      cut = λ allowed f err. is.cut goes (refusal ∙ allowed) f err;
    }

-- what it counted of a format
pub is_counted : (s : State) (was now : Counted) (fuse : Option ℕ) (c : Command) (reply : Result (Unit {0}) OpRefused) → s.claims ≡ [] → s.stopped ≡ false → reply ≢ Err OutOfMemory → was.begun ≡ None
    → Formats (λ (old : Counted) (new : Counted) (set : List Mapping) (offset : ℕ) (spec : CreateSpec) (f : Option ℕ). CanLie set offset spec
    × (new.begun ≡ Some (record { offset = offset; layout = layout_for spec; steps = steps_made f (format_count (layout_for spec)) }))) s was now fuse c reply
    → IsCounted s.sets s.areas c fuse now.begun
is_counted s was now fuse c reply none running other nothing is =
    let goes : Goes s reply = (running, other) in
    let same : namespaces_in s ≡ shown s.sets s.areas = ap (with_claims (shown s.sets s.areas)) none in
    let refusal : refusal_of (namespaces_in s) c ≡ refusal_of (shown s.sets s.areas) c = ap (λ (ns : Namespaces). refusal_of ns c) same in
    record {
      refused = λ f at. ap (λ (x : Counted). x.begun) (is.refused goes f (refusal ∙ at)) ∙ nothing;
      plain = λ raw. ap (λ (x : Counted). x.begun) (is.plain raw) ∙ nothing;
      some = λ allowed spec at sectors. is.formatted goes (refusal ∙ allowed) spec at sectors;
    }

-- ---- a fuse that doesn't last has a number of steps

steps_given : (fuse : Option ℕ) (count : ℕ) → lasts fuse count ≡ false → fuse ≢ None
steps_given None count short none = true≢false short
steps_given (Some n) count short none = let e = none in cc

pub left_none : (old new : List Area) (fuse left : Option ℕ) (changes : List Change) (whole : Bool) → Went old new fuse left changes whole → fuse ≡ None → left ≡ None
left_none old new fuse left changes whole went none = went.left_is ∙ ap (λ (f : Option ℕ). burnt f (steps_of_all (areas_seen old) changes)) none

pub went_given : (old new : List Area) (fuse left : Option ℕ) (changes : List Change) (whole : Bool) → Went old new fuse left changes whole → whole ≡ false → fuse ≢ None
went_given old new fuse left changes whole went short = steps_given fuse (steps_of_all (areas_seen old) changes) (sym went.made ∙ short)

works_given : (count : ℕ) (old news : List Area) (fuse left : Option ℕ) (changes : List Change) (whole : Bool) → WorksOn count old news fuse left changes whole → whole ≡ false → fuse ≢ None
works_given count old news fuse left changes whole works short none = by (lasts fuse count) refl
  where
    by : (b : Bool) → lasts fuse count ≡ b → ⊥
    by true long = went_given old news (burnt fuse count) left changes whole (works.labels long) short (ap (λ (f : Option ℕ). burnt f count) none)
    by false within = steps_given fuse count within none

-- ---- how many areas there are

areas_in : (count : ℕ) (old news : List Area) (fuse left : Option ℕ) (changes : List Change) (whole : Bool) → WorksOn count old news fuse left changes whole → length news ≡ length old
areas_in count old news fuse left changes whole works = by (lasts fuse count) refl
  where
    by : (b : Bool) → lasts fuse count ≡ b → length news ≡ length old
    by true long = sym (length-map news size_of) ∙ ap (λ (ns : List ℕ). length ns) (works.labels long).sizes ∙ length-map old size_of
    by false short = ap (λ (xs : List Area). length xs) (works.within short).1

module _ (sets : List (List Mapping)) (old news : List Area) (fuse left : Option ℕ) (c : Command) (reply : Result (Unit {0}) OpRefused) (runs : Runs sets old news fuse left c reply) where
  pub count_same : length news ≡ length old
  count_same = by (refusal_of (shown sets old) c) refl
    where
      by : (o : Option OpRefused) → refusal_of (shown sets old) c ≡ o → length news ≡ length old
      by (Some f) some = ap (λ (xs : List Area). length xs) (runs.refused f some).1
      by None none = areas_in (count_of (arena_of (shown sets old) c)) old news fuse left _ (is_ok reply) (runs.went none)

  -- ---- the answer

  -- a refusal says neither that power was cut
  uncut : (f : OpRefused) → refusal_of (shown sets old) c ≡ Some f → f ≢ PowerCut
  uncut f some is = true≢false (ap (λ (x : OpRefused). is_cut (Err x)) (sym is) ∙ finding_of (shown sets old) c f some)

  pub refused_is : (outcome : Outcome) → ((f : OpRefused) → reply ≡ Err f → f ≢ PowerCut → outcome ≡ refused_outcome (refusal_text f)) → (f : OpRefused) → refusal_of (shown sets old) c ≡ Some f → outcome ≡ refused_outcome (refusal_text f)
  refused_is outcome said f some = said f (runs.refused f some).0 (uncut f some)

  pub runs_given : reply ≡ Err PowerCut → fuse ≢ None
  runs_given cut none = by (refusal_of (shown sets old) c) refl
    where
      by : (o : Option OpRefused) → refusal_of (shown sets old) c ≡ o → ⊥
      by (Some f) some = uncut f some (err_same f PowerCut (sym (runs.refused f some).0 ∙ cut))
      by None allowed =
          works_given _ old news fuse left _ (is_ok reply) (runs.went allowed) (ap (λ (r : Result (Unit {0}) OpRefused). is_ok r) cut) none

  ok_is : (r : Result (Unit {0}) OpRefused) → is_ok r ≡ true → r ≡ Ok tt
  ok_is (Ok u) e = refl
  ok_is (Err f) e = absurd (false≢true e)

  cut_is : (r : Result (Unit {0}) OpRefused) → ((f : OpRefused) → r ≡ Err f → f ≡ PowerCut) → is_ok r ≡ false → r ≡ Err PowerCut
  cut_is (Ok u) only e = absurd (true≢false e)
  cut_is (Err f) only e = ap (λ (x : OpRefused). Err x) (only f refl)

  -- contents in which the arena is formatted, if the command makes one, and the set that is saved with them
  pub went_on : (leaves : ℕ → List (Option Words) → List (Option (List ℕ)) → Type 0) (objects : List (Option (List ℕ)) → List (List ℕ) → Images) (power : Power) (contents made : List Words) (outcome : Outcome)
      → FormatsIn (arena_of (shown sets old) c) contents made fuse → refusal_of (shown sets old) c ≡ None
      → (is_ok reply ≡ true → SavesDone objects news made outcome) → (is_ok reply ≡ false → SavesCut leaves objects power news made outcome) → GoesOn leaves objects power sets old contents fuse c outcome
  went_on leaves objects power contents made outcome formats none done cut =
      let works = runs.went none in
      record {
        news = news;
        made = made;
        left = left;
        whole = is_ok reply;
        works = record { formats = formats; within = works.within; labels = works.labels };
        done = done;
        cut = cut;
      }

  pub ok_reply : is_ok reply ≡ true → reply ≡ Ok tt
  ok_reply ok = ok_is reply ok

  pub cut_reply : refusal_of (shown sets old) c ≡ None → is_ok reply ≡ false → reply ≡ Err PowerCut
  cut_reply none err = cut_is reply (runs.cut none) err

-- ---- behind recovery

moved_went : (a a' mid : List Area) (f f' left : Option ℕ) (s s' : List (List Mapping)) (b b' : Bool) → a ≡ a' → f ≡ f' → s ≡ s' → b ≡ b'
    → Went a mid f left (recovery_changes s (areas_seen a)) b → Went a' mid f' left (recovery_changes s' (areas_seen a')) b'
moved_went a a' mid f f' left s s' b b' p q u v went =
    subst (λ (x : List Area). Went x mid f' left (recovery_changes s' (areas_seen x)) b') p
    (subst (λ (x : Option ℕ). Went a mid x left (recovery_changes s' (areas_seen a)) b') q
    (subst (λ (x : List (List Mapping)). Went a mid f left (recovery_changes x (areas_seen a)) b') u
    (subst (λ (x : Bool). Went a mid f left (recovery_changes s (areas_seen a)) x) v went)))

module _ (leaves : ℕ → List (Option Words) → List (Option (List ℕ)) → Type 0) (kept : List (Option (List ℕ)) → Images) (objects : List (Option (List ℕ)) → List (List ℕ) → Images) (power : Power) (sets held : List (List Mapping)) (areas a mid : List Area) (contents : List Words) (f left : Option ℕ) (c : Command) (outcome : Outcome) (b : Bool)
    (p : a ≡ areas) (q : f ≡ power.steps) (u : held ≡ sets) (went : Went a mid f left (recovery_changes held (areas_seen a)) b) where
  pub goes_then : (now : List (List Mapping)) → now ≡ held → b ≡ true
      → ((g : OpRefused) → refusal_of (shown now mid) c ≡ Some g → outcome ≡ refused_outcome (refusal_text g))
      → (refusal_of (shown now mid) c ≡ None → GoesOn leaves objects power now mid contents left c outcome) → GoesFrom leaves kept objects power sets areas contents c outcome
  goes_then now w v refused on = inr (record {
    mid = mid;
    left = left;
    first = moved_went a areas mid f power.steps left held sets b true p q u v went;
    refused = subst (λ (s : List (List Mapping)). (g : OpRefused) → refusal_of (shown s mid) c ≡ Some g → outcome ≡ refused_outcome (refusal_text g)) (w ∙ u) refused;
    went = subst (λ (s : List (List Mapping)). refusal_of (shown s mid) c ≡ None → GoesOn leaves objects power s mid contents left c outcome) (w ∙ u) on;
  })

  pub stops_first : b ≡ false → SavesCut leaves (λ rows left. kept rows) power mid [] outcome → GoesFrom leaves kept objects power sets areas contents c outcome
  stops_first v cut = inl (record { news = mid; left = left; went = moved_went a areas mid f power.steps left held sets b false p q u v went; cut = cut })
