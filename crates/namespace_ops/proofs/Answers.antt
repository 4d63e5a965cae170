-- What commands come to on namespaces with counts of claims.
use Rattle.std.proofs.Common.{◌≡◌, ◌≢◌, ℕ, ◌+◌, ◌-◌, Bool, true, false, List, [], ◌∷◌, length, Option, Some, None, Ok, Err, refl, sym, ap, ◌∙◌, subst, arith, if◌then◌else◌}
use Rattle.std.specs.Prelude.{nat_lt, nat_le, is_ok, OnOk}
use Rattle.std.specs.Option.{option_map}
use Rattle.std.proofs.lemmas.Bool.{false≢true, le-leb}
use Rattle.std.proofs.lemmas.Option.{none-some}
use Rattle.nvd_words.specs.Checks.{value_unless, fault_if}
use Rattle.cut_words.specs.Fuses.{burnt, lasts}
use Rattle.arena_open.specs.Format.{format_count}
use Rattle.sector_namespaces.specs.Creation.{arena_steps, arena_steps_of, has_sectors, layout_for, layout_of}
use Rattle.nfit_reader.specs.declared.table.Mapping.{Mapping}
use Rattle.namespace_map.specs.Namespaces.{NamespaceEntry, Namespaces, lookup}
use Rattle.namespace_map.specs.Areas.{Change}
use Rattle.namespace_map.specs.declared.commands.CreateSpec.{CreateSpec}
use Rattle.namespace_map.specs.declared.commands.Make.{Make}
use Rattle.namespace_map.specs.declared.commands.Make.TheVariants as make
use Rattle.namespace_map.specs.declared.commands.Named.{Named}
use Rattle.namespace_map.specs.declared.commands.Command.{Command}
use Rattle.namespace_map.specs.declared.commands.Command.TheVariants.{Claim, Create, Delete, Rename, Unclaim}
use Rattle.namespace_map.specs.declared.refused.OpRefused.{OpRefused}
use Rattle.namespace_map.specs.declared.refused.OpRefused.TheVariants.{Busy, OutOfMemory, PowerCut, ReadOnlyLabel}
use Rattle.namespace_map.specs.Changes.{changes_of}
use Rattle.namespace_map.specs.Commands.{deleted_entry, delete_refusal, done, entry_modules, entry_refusal, name_in, refusal_of, renamed_entry, set_of, short_of}
use Rattle.namespace_areas.specs.declared.area.Area.{Area}
use Rattle.namespace_areas.specs.Seen.{AreHeld, areas_seen}
use Rattle.namespace_areas.specs.Went.{Went}
use Rattle.namespace_areas.specs.Refusals.{offset_for, shown}
use Rattle.namespace_ops.specs.Held.{Held}
use Rattle.namespace_ops.specs.Carried.{Carried, is_cut}
use Rattle.namespace_ops.specs.Created.{Creates, refusal_for}
use Rattle.namespace_ops.specs.Claims.{count_of, with_count}
use Rattle.namespace_ops.specs.Counted.{Answered, Formats, State, makes_sectors, namespaces_in, steps_before, with_claims}
use Rattle.namespace_ops.specs.Entries.{Reply}
use Rattle.namespace_ops.proofs.Findings.{carried_memory, create_finding, delete_finding, held_unchanged, not_cut, rename_finding}

-- label areas with counts of claims
abbrev pub with_held : Held → List (List ℕ × ℕ) → State
with_held h claims = record { sets = h.sets; areas = h.areas; stopped = h.stopped; claims = claims }

abbrev pub held_of : State → Held
held_of s = record { sets = s.sets; areas = s.areas; stopped = s.stopped }

-- a command that is refused
pub refused_answered : (old : State) (fuse : Option ℕ) (c : Command) (f : OpRefused) → old.stopped ≡ false → refusal_of (namespaces_in old) c ≡ Some f → is_cut (Err f) ≡ false → Answered old old fuse fuse c (Err f)
refused_answered old fuse c f running at uncut = record {
  off = λ off. absurd (false≢true (sym running ∙ off));
  memory = λ _. (refl, refl);
  refused = λ goes g is. (let both : Some f ≡ Some g = sym at ∙ is in cc, refl, refl);
  within = λ goes none. absurd (none-some f (sym none ∙ at));
  went = λ goes none. absurd (none-some f (sym none ∙ at));
  cut = λ goes none. absurd (none-some f (sym none ∙ at));
  done = tt;
  claims = λ _. refl;
  sets = refl;
  stopped = λ _. running ∙ sym uncut;
}

-- power was cut before
pub off_answered : (old : State) (fuse : Option ℕ) (c : Command) → old.stopped ≡ true → Answered old old fuse fuse c (Err PowerCut)
off_answered old fuse c off = record {
  off = λ _. (refl, refl, refl);
  memory = λ _. (refl, refl);
  refused = λ goes f at. absurd (false≢true (sym goes.0 ∙ off));
  within = λ goes none short. absurd (false≢true (sym goes.0 ∙ off));
  went = λ goes none whole. absurd (false≢true (sym goes.0 ∙ off));
  cut = λ goes none f e. absurd (false≢true (sym goes.0 ∙ off));
  done = tt;
  claims = λ _. refl;
  sets = refl;
  stopped = λ running. absurd (false≢true (sym running ∙ off));
}

-- ---- a command without an arena

lasts_none : (fuse : Option ℕ) → lasts fuse 0 ≡ true
lasts_none None = refl
lasts_none (Some n) = le-leb 0 n (omega arith)

burnt_none : (fuse : Option ℕ) → burnt fuse 0 ≡ fuse
burnt_none None = refl
burnt_none (Some n) = ap (λ (k : ℕ). Some k) (omega arith)

-- its label changes are made under the whole fuse
plain_went : (k : ℕ) → k ≡ 0 → (old new : List Area) (fuse left : Option ℕ) (changes : List Change) (whole : Bool) → Went old new fuse left changes whole → Went old new (burnt fuse k) left changes whole
plain_went k none old new fuse left changes whole went =
    subst (λ (f : Option ℕ). Went old new f left changes whole) (sym (ap (burnt fuse) none ∙ burnt_none fuse)) went

plain_within : (k : ℕ) → k ≡ 0 → (fuse : Option ℕ) → lasts fuse k ≡ false → ⊥
plain_within k none fuse short = false≢true (sym short ∙ ap (lasts fuse) none ∙ lasts_none fuse)

-- a command that counts alone
pub counted_answered : (old : State) (counts : List (List ℕ × ℕ)) (fuse : Option ℕ) (c : Command) → steps_before c ≡ 0 → old.stopped ≡ false → refusal_of (namespaces_in old) c ≡ None
    → Went old.areas old.areas fuse fuse (changes_of (namespaces_in old) (areas_seen old.areas) c) true
    → with_claims (shown old.sets old.areas) counts ≡ done (namespaces_in old) c → Answered old (record { sets = old.sets; areas = old.areas; stopped = old.stopped; claims = counts }) fuse fuse c (Ok tt)
counted_answered old counts fuse c plain running none went is = record {
  off = λ off. absurd (false≢true (sym running ∙ off));
  memory = λ e. absurd (let both : Ok tt ≡ Err OutOfMemory = e in cc);
  refused = λ goes f at. absurd (none-some f (sym none ∙ at));
  within = λ goes _ short. absurd (plain_within (steps_before c) plain fuse short);
  went = λ goes _ _. plain_went (steps_before c) plain old.areas old.areas fuse fuse (changes_of (namespaces_in old) (areas_seen old.areas) c) true went;
  cut = λ goes _ f e. absurd (let both : Ok tt ≡ Err f = e in cc);
  done = is;
  claims = λ e. absurd (false≢true (sym e));
  sets = refl;
  stopped = λ _. running;
}

-- ---- delete

-- its refusal, by a count of claims
abbrev refusal_at : Namespaces → List ℕ → ℕ → Option OpRefused
refusal_at ns uuid n = entry_refusal (lookup uuid ns.entries) (λ e.
    fault_if (nat_lt 0 n) (Busy n)
    ∷ option_map (λ number. ReadOnlyLabel number) e.read_only
    ∷ (if nat_le 2 (length e.parts) then short_of ns 1 (entry_modules e) else None)
    ∷ [])

unclaimed : (old : State) (uuid : List ℕ) → count_of old.claims uuid ≡ 0 → delete_refusal (namespaces_in old) uuid ≡ delete_refusal (shown old.sets old.areas) uuid
unclaimed old uuid zero = ap (refusal_at (shown old.sets old.areas) uuid) zero

deleted_with : (ns : Namespaces) (claims : List (List ℕ × ℕ)) (o : Option NamespaceEntry) → with_claims (deleted_entry ns o) claims ≡ deleted_entry (with_claims ns claims) o
deleted_with ns claims None = refl
deleted_with ns claims (Some e) = refl

deleted_done : (old : State) (held : Held) (uuid : List ℕ) (r : Reply) → OnOk r (shown held.sets held.areas ≡ done (shown old.sets old.areas) (Delete uuid))
    → OnOk r (namespaces_in (record { sets = held.sets; areas = held.areas; stopped = held.stopped; claims = old.claims }) ≡ done (namespaces_in old) (Delete uuid))
deleted_done old held uuid (Err f) is = tt
deleted_done old held uuid (Ok x) is =
    let ns : Namespaces = shown old.sets old.areas in
    ap (λ (n : Namespaces). with_claims n old.claims) is ∙ deleted_with ns old.claims (lookup uuid ns.entries)

pub delete_answered : (old : State) (held : Held) (fuse left : Option ℕ) (uuid : List ℕ) (r : Reply) → old.stopped ≡ false → count_of old.claims uuid ≡ 0
    → Carried old.sets old.areas held.areas fuse left (Delete uuid) r
    → ((f : OpRefused) → refusal_of (shown old.sets old.areas) (Delete uuid) ≡ Some f → (held ≡ held_of old) × (left ≡ fuse))
    → OnOk r (shown held.sets held.areas ≡ done (shown old.sets old.areas) (Delete uuid)) → held.sets ≡ old.sets → held.stopped ≡ is_cut r
    → Answered old (record { sets = held.sets; areas = held.areas; stopped = held.stopped; claims = old.claims }) fuse left (Delete uuid) r
delete_answered old held fuse left uuid r running zero carried unchanged made sets stopped =
    let same = unclaimed old uuid zero in
    record {
      off = λ off. absurd (false≢true (sym running ∙ off));
      memory = λ e. absurd (carried_memory old.sets old.areas held.areas fuse left (Delete uuid) r (delete_finding (shown old.sets old.areas) uuid) carried e);
      refused = λ goes f at.
          let was = unchanged f (sym same ∙ at) in ((carried.refused f (sym same ∙ at)).0, ap (λ (h : Held). with_held h old.claims) was.0, was.1);
      within = λ goes none short. absurd (plain_within 0 refl fuse short);
      went = λ goes none _. plain_went 0 refl old.areas held.areas fuse left (changes_of (shown old.sets old.areas) (areas_seen old.areas) (Delete uuid)) (is_ok r) (carried.went (sym same ∙ none));
      cut = λ goes none. carried.cut (sym same ∙ none);
      done = deleted_done old held uuid r made;
      claims = λ _. refl;
      sets = sets;
      stopped = λ _. stopped;
    }

-- ---- claim

none_left : (o : Option OpRefused) (r : Reply) → r ≡ value_unless tt o → is_ok r ≡ true → o ≡ None
none_left None r e ok = refl
none_left (Some f) r e ok = absurd (false≢true (sym (ap (λ (x : Reply). is_ok x) e) ∙ ok))

pub claim_answered : (old : State) (counts : List (List ℕ × ℕ)) (fuse : Option ℕ) (uuid : List ℕ) → old.stopped ≡ false
    → (r : Reply) → r ≡ value_unless tt (refusal_of (shown old.sets old.areas) (Claim uuid)) → is_ok r ≡ true
    → Carried old.sets old.areas old.areas fuse fuse (Claim uuid) (Ok tt) → counts ≡ with_count old.claims uuid (count_of old.claims uuid + 1) → Answered old (record { sets = old.sets; areas = old.areas; stopped = old.stopped; claims = counts }) fuse fuse (Claim uuid) (Ok tt)
claim_answered old counts fuse uuid running r answer ok carried is =
    let none : refusal_of (shown old.sets old.areas) (Claim uuid) ≡ None = none_left _ r answer ok in
    counted_answered old counts fuse (Claim uuid) refl running none (carried.went none) (ap (with_claims (shown old.sets old.areas)) is)

pub unclaim_answered : (old : State) (counts : List (List ℕ × ℕ)) (fuse : Option ℕ) (uuid : List ℕ) → old.stopped ≡ false → Went old.areas old.areas fuse fuse [] true
    → counts ≡ with_count old.claims uuid (count_of old.claims uuid - 1) → Answered old (record { sets = old.sets; areas = old.areas; stopped = old.stopped; claims = counts }) fuse fuse (Unclaim uuid) (Ok tt)
unclaim_answered old counts fuse uuid running went is =
    counted_answered old counts fuse (Unclaim uuid) refl running refl went (ap (with_claims (shown old.sets old.areas)) is)

-- ---- rename, and a create without sectors

renamed_with : (ns : Namespaces) (claims : List (List ℕ × ℕ)) (name : List ℕ) (o : Option NamespaceEntry) → with_claims (renamed_entry ns name o) claims ≡ renamed_entry (with_claims ns claims) name o
renamed_with ns claims name None = refl
renamed_with ns claims name (Some e) = refl

done_with : (P Q : Namespaces) (claims : List (List ℕ × ℕ)) (due : Namespaces) → with_claims Q claims ≡ due → (r : Reply) → OnOk r (P ≡ Q) → OnOk r (with_claims P claims ≡ due)
done_with P Q claims due e (Err f) is = tt
done_with P Q claims due e (Ok x) is = ap (λ (n : Namespaces). with_claims n claims) is ∙ e

pub rename_answered : (old : State) (held : Held) (fuse left : Option ℕ) (uuid : List ℕ) (name : Named) (r : Reply) → old.stopped ≡ false
    → Carried old.sets old.areas held.areas fuse left (Rename uuid name) r
    → ((f : OpRefused) → refusal_of (shown old.sets old.areas) (Rename uuid name) ≡ Some f → (held ≡ held_of old) × (left ≡ fuse))
    → OnOk r (shown held.sets held.areas ≡ done (shown old.sets old.areas) (Rename uuid name)) → held.sets ≡ old.sets → held.stopped ≡ is_cut r
    → Answered old (with_held held old.claims) fuse left (Rename uuid name) r
rename_answered old held fuse left uuid name r running carried unchanged made sets stopped = record {
  off = λ off. absurd (false≢true (sym running ∙ off));
  memory = λ e. absurd (carried_memory old.sets old.areas held.areas fuse left (Rename uuid name) r (rename_finding (shown old.sets old.areas) uuid name) carried e);
  refused = λ goes f at. let was = unchanged f at in ((carried.refused f at).0, ap (λ (h : Held). with_held h old.claims) was.0, was.1);
  within = λ goes none short. absurd (plain_within 0 refl fuse short);
  went = λ goes none _. plain_went 0 refl old.areas held.areas fuse left (changes_of (shown old.sets old.areas) (areas_seen old.areas) (Rename uuid name)) (is_ok r) (carried.went none);
  cut = λ goes none. carried.cut none;
  done = done_with (shown held.sets held.areas) (done (shown old.sets old.areas) (Rename uuid name)) old.claims (done (namespaces_in old) (Rename uuid name))
      (renamed_with (shown old.sets old.areas) old.claims (name_in name) (lookup uuid (shown old.sets old.areas).entries)) r made;
  claims = λ _. refl;
  sets = sets;
  stopped = λ _. stopped;
}

pub plain_steps : (size : ℕ) (m : Make) → has_sectors m ≡ false → arena_steps_of size m ≡ 0
plain_steps size make.Raw e = refl
plain_steps size (make.Sector sector lanes) e = absurd (false≢true (sym e))

pub arena_count : (size : ℕ) (m : Make) → has_sectors m ≡ true → format_count (layout_of size m) ≡ arena_steps_of size m
arena_count size make.Raw e = absurd (false≢true e)
arena_count size (make.Sector sector lanes) e = refl

-- areas after out of memory
memory_held : (h : Held) (new : Held) (r : Reply) → h.stopped ≡ false → r ≡ Err OutOfMemory → new.sets ≡ h.sets → new.areas ≡ h.areas → new.stopped ≡ is_cut r → new ≡ h
memory_held h new r running e sets areas stopped = λ i. record { sets = sets i; areas = areas i; stopped = (stopped ∙ ap is_cut e ∙ sym running) i }

module _ (old : State) (held : Held) (fuse left : Option ℕ) (spec : CreateSpec) (r : Reply) (running : old.stopped ≡ false) (sets : held.sets ≡ old.sets) (stopped : held.stopped ≡ is_cut r)
    (memory : r ≡ Err OutOfMemory → (held.areas ≡ old.areas) × (left ≡ fuse)) (made : OnOk r (shown held.sets held.areas ≡ done (shown old.sets old.areas) (Create spec)))
  where
    same_memory : r ≡ Err OutOfMemory → (with_held held old.claims ≡ old) × (left ≡ fuse)
    same_memory e = let was = memory e in (ap (λ (h : Held). with_held h old.claims) (memory_held (held_of old) held r running e sets was.0 stopped), was.1)

    same_refused : (f : OpRefused) → refusal_of (shown old.sets old.areas) (Create spec) ≡ Some f → r ≡ Err f → held.areas ≡ old.areas → with_held held old.claims ≡ old
    same_refused f at e areas =
        ap (λ (h : Held). with_held h old.claims) (held_unchanged (held_of old) held.sets held.areas held.stopped r f sets areas stopped e (not_cut f (create_finding (shown old.sets old.areas) spec f at)) running)

    made_done : OnOk r (namespaces_in (with_held held old.claims) ≡ done (namespaces_in old) (Create spec))
    made_done = done_with (shown held.sets held.areas) (done (shown old.sets old.areas) (Create spec)) old.claims (done (namespaces_in old) (Create spec)) refl r made

    pub raw_answered : has_sectors spec.make ≡ false → (r ≢ Err OutOfMemory → Carried old.sets old.areas held.areas fuse left (Create spec) r) → Answered old (with_held held old.claims) fuse left (Create spec) r
    raw_answered raw carried =
        let none : arena_steps spec ≡ 0 = plain_steps spec.size spec.make raw in
        record {
          off = λ off. absurd (false≢true (sym running ∙ off));
          memory = same_memory;
          refused = λ goes f at. let was = (carried goes.1).refused f at in (was.0, same_refused f at was.0 was.1, was.2);
          within = λ goes _ short. absurd (plain_within (arena_steps spec) none fuse short);
          went = λ goes good _. plain_went (arena_steps spec) none old.areas held.areas fuse left (changes_of (shown old.sets old.areas) (areas_seen old.areas) (Create spec)) (is_ok r) ((carried goes.1).went good);
          cut = λ goes good. (carried goes.1).cut good;
          done = made_done;
          claims = λ _. refl;
          sets = sets;
          stopped = λ _. stopped;
        }

    pub sectors_answered : has_sectors spec.make ≡ true → AreHeld old.areas → (r ≢ Err OutOfMemory → Creates old.sets old.areas held.areas fuse left spec r)
        → Answered old (with_held held old.claims) fuse left (Create spec) r
    sectors_answered sectors are_held creates =
        let count : format_count (layout_for spec) ≡ arena_steps spec = arena_count spec.size spec.make sectors in
        record {
          off = λ off. absurd (false≢true (sym running ∙ off));
          memory = same_memory;
          refused = λ goes f at. let was = (creates goes.1).refused f at in (was.0, same_refused f at was.0 was.1, was.2);
          within = λ goes good short.
              let was = ((creates goes.1).made good).within (ap (lasts fuse) count ∙ short) in (was.0, was.1, are_held, was.2 ∙ ap (burnt fuse) count);
          went = λ goes good whole.
              subst (λ (f : Option ℕ). Went old.areas held.areas f left (changes_of (shown old.sets old.areas) (areas_seen old.areas) (Create spec)) (is_ok r)) (ap (burnt fuse) count)
              (((creates goes.1).made good).labels (ap (lasts fuse) count ∙ whole));
          cut = λ goes good. ((creates goes.1).made good).cut;
          done = made_done;
          claims = λ _. refl;
          sets = sets;
          stopped = λ _. stopped;
        }

-- ---- what formats arenas

module _ {F : Type 0} (formats : F → F → List Mapping → ℕ → CreateSpec → Option ℕ → Type 0) where
  pub same_formats : (old : State) (was now : F) (fuse : Option ℕ) (c : Command) (r : Reply) → makes_sectors c ≡ false → now ≡ was → Formats formats old was now fuse c r
  same_formats old was now fuse c r plain same = record {
    off = λ _. same;
    memory = λ _. same;
    refused = λ _ f at. same;
    plain = λ _. same;
    formatted = λ goes good spec is sectors. absurd (false≢true (sym plain ∙ ap makes_sectors is ∙ sectors));
  }

  -- nothing was begun
  pub off_formats : (old : State) (was : F) (fuse : Option ℕ) (c : Command) (r : Reply) → old.stopped ≡ true → Formats formats old was was fuse c r
  off_formats old was fuse c r off = record {
    off = λ _. refl;
    memory = λ _. refl;
    refused = λ _ f at. refl;
    plain = λ _. refl;
    formatted = λ goes good spec is sectors. absurd (false≢true (sym goes.0 ∙ off));
  }

  pub sectors_formats : (old : State) (was now : F) (fuse : Option ℕ) (spec : CreateSpec) (r : Reply) → old.stopped ≡ false → has_sectors spec.make ≡ true
      → (r ≡ Err OutOfMemory → now ≡ was) → ((f : OpRefused) → r ≢ Err OutOfMemory → refusal_for old.sets old.areas spec ≡ Some f → now ≡ was)
      → (r ≢ Err OutOfMemory → refusal_for old.sets old.areas spec ≡ None → formats was now (set_of (shown old.sets old.areas) spec.region) (offset_for (shown old.sets old.areas) spec) spec fuse)
      → Formats formats old was now fuse (Create spec) r
  sectors_formats old was now fuse spec r running sectors memory refused formatted = record {
    off = λ off. absurd (false≢true (sym running ∙ off));
    memory = memory;
    refused = λ goes f at. refused f goes.1 at;
    plain = λ raw. absurd (false≢true (sym raw ∙ sectors));
    formatted = λ goes good asked is _.
        subst (λ (s : CreateSpec). formats was now (set_of (shown old.sets old.areas) s.region) (offset_for (shown old.sets old.areas) s) s fuse) (same_spec is) (formatted goes.1 good);
  }
    where
      same_spec : {s t : CreateSpec} → Create s ≡ Create t → s ≡ t
      same_spec e = cc
