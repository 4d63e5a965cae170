-- A refusal is a finding: it never says that power was cut, or that memory ran out.
use Rattle.std.proofs.Common.{◌≡◌, ◌≢◌, ℕ, Bool, true, false, List, [], ◌∷◌, Option, Some, None, Result, Ok, Err, refl, sym, ap, ◌∙◌, cond}
use Rattle.std.specs.Prelude.{nat_lt, not}
use Rattle.std.specs.Option.{option_map}
use Rattle.std.specs.List.{AllByRecursion}
use Rattle.std.proofs.lemmas.Bool.{false≢true}
use Rattle.std.proofs.lemmas.Option.{none-some}
use Rattle.nvd_words.specs.Checks.{first_fault, fault_if}
use Rattle.nfit_reader.specs.declared.table.Mapping.{Mapping}
use Rattle.label_set.specs.Rules.{modules_of}
use Rattle.namespace_map.specs.Namespaces.{NamespaceEntry, Namespaces, claims_of, lookup}
use Rattle.namespace_map.specs.declared.commands.Named.{Named}
use Rattle.namespace_map.specs.declared.commands.Named.TheVariants as named
use Rattle.namespace_map.specs.declared.commands.CreateSpec.{CreateSpec}
use Rattle.namespace_map.specs.declared.commands.Command.{Command}
use Rattle.namespace_map.specs.declared.refused.OpRefused.{OpRefused}
use Rattle.namespace_map.specs.declared.refused.OpRefused.TheVariants.{BadName, BadSize, Busy, Exists, ModuleLabels, NoRegion, NoSlot, NoSpace, NoSuch, NotComplete, NotSector, OutOfMemory, PowerCut, ReadOnlyLabel}
use Rattle.namespace_map.specs.Commands.{bad_name, claim_refusal, create_refusal, delete_refusal, entry_modules, entry_refusal, is_complete, is_sector, least_module, refusal_of, rename_refusal, set_of, share_of, short_of}
use Rattle.namespace_areas.specs.declared.area.Area.{Area}
use Rattle.namespace_areas.specs.Refusals.{shown}
use Rattle.namespace_ops.specs.Carried.{Carried, is_cut}
use Rattle.namespace_ops.specs.Entries.{Reply}
use Rattle.namespace_ops.specs.Held.{Held}
use Rattle.namespace_ops.specs.Replay.{is_memory}

abbrev is_finding : OpRefused → Bool
is_finding PowerCut = false
is_finding OutOfMemory = false
is_finding other = true

abbrev pub IsFinding : Option OpRefused → Type 0
IsFinding o = (f : OpRefused) → o ≡ Some f → is_finding f ≡ true

-- so it isn't either
pub not_cut : (f : OpRefused) → is_finding f ≡ true → is_cut (Err f) ≡ false
not_cut PowerCut e = absurd (false≢true e)
not_cut f e = refl

pub not_memory : (f : OpRefused) → is_finding f ≡ true → is_memory (Err f) ≡ false
not_memory OutOfMemory e = absurd (false≢true e)
not_memory f e = refl

-- ---- the checks of a refusal

first_finding : (os : List (Option OpRefused)) → AllByRecursion IsFinding os → IsFinding (first_fault os)
unfolding first_fault
first_finding [] all f e = absurd (none-some f e)
first_finding (None ∷ os) (one, rest) f e = first_finding os rest f e
first_finding (Some g ∷ os) (one, rest) f e = one f e

some_finding : (g : OpRefused) → is_finding g ≡ true → IsFinding (Some g)
some_finding g fine f e = ap is_finding (same f e) ∙ fine
  where
    same : (f : OpRefused) → Some g ≡ Some f → f ≡ g
    same f e = cc

none_finding : IsFinding None
none_finding f e = absurd (none-some f e)

if_finding : (b : Bool) (g : OpRefused) → is_finding g ≡ true → IsFinding (fault_if b g)
if_finding true g fine = some_finding g fine
if_finding false g fine = none_finding

map_finding : (make : ℕ → OpRefused) (o : Option ℕ) → ((n : ℕ) → is_finding (make n) ≡ true) → IsFinding (option_map make o)
map_finding make None fine = none_finding
map_finding make (Some n) fine = some_finding (make n) (fine n)

name_finding : (name : Named) → IsFinding (bad_name name)
name_finding (named.Good n) = none_finding
name_finding (named.Refused bytes) = some_finding (BadName bytes) refl

short_finding : (ns : Namespaces) (wanted : ℕ) (modules : List ℕ) → IsFinding (short_of ns wanted modules)
short_finding ns wanted modules = map_finding (λ number. NoSlot number) (least_module (λ number. nat_lt _ wanted) modules) (λ n. refl)

entry_finding : (o : Option NamespaceEntry) (further : NamespaceEntry → List (Option OpRefused)) → ((e : NamespaceEntry) → AllByRecursion IsFinding (further e)) → IsFinding (entry_refusal o further)
entry_finding None further fine = some_finding NoSuch refl
entry_finding (Some e) further fine = first_finding (fault_if (not (is_complete e.status)) NotComplete ∷ further e) (if_finding _ NotComplete refl, fine e)

choice_finding : (b : Bool) (o : Option OpRefused) → IsFinding o → IsFinding (cond b o None)
choice_finding true o fine = fine
choice_finding false o fine = none_finding

-- ---- the refusals

pub create_finding : (ns : Namespaces) (spec : CreateSpec) → IsFinding (create_refusal ns spec)
create_finding ns spec =
    let set : List Mapping = set_of ns spec.region in
    first_finding _ (
      name_finding spec.name,
      (
        if_finding _ (NoRegion spec.region) refl,
        (
          map_finding (λ number. ModuleLabels number) _ (λ n. refl),
          (
            if_finding _ Exists refl,
            (if_finding _ (BadSize spec.size) refl, (short_finding ns 2 (modules_of set), (if_finding _ (NoSpace (share_of set spec.size)) refl, tt))),
          ),
        ),
      ),
    )

pub delete_finding : (ns : Namespaces) (uuid : List ℕ) → IsFinding (delete_refusal ns uuid)
delete_finding ns uuid =
    entry_finding (lookup uuid ns.entries) _
    (λ e. (if_finding _ (Busy (claims_of ns uuid)) refl, (map_finding (λ number. ReadOnlyLabel number) e.read_only (λ n. refl), (choice_finding _ _ (short_finding ns 1 (entry_modules e)), tt))))

pub rename_finding : (ns : Namespaces) (uuid : List ℕ) (name : Named) → IsFinding (rename_refusal ns uuid name)
rename_finding ns uuid name =
    first_finding _
    (name_finding name, (entry_finding (lookup uuid ns.entries) _ (λ e. (map_finding (λ number. ReadOnlyLabel number) e.read_only (λ n. refl), (short_finding ns 1 (entry_modules e), tt))), tt))

pub claim_finding : (ns : Namespaces) (uuid : List ℕ) → IsFinding (claim_refusal ns uuid)
claim_finding ns uuid = entry_finding (lookup uuid ns.entries) _ (λ e. (if_finding (not (is_sector e.mode)) NotSector refl, tt))

-- an error of a plan is no power cut
pub planned_uncut : (ns : Namespaces) (spec : CreateSpec) (f : OpRefused) → (f ≢ OutOfMemory → create_refusal ns spec ≡ Some f) → is_cut (Err f) ≡ false
planned_uncut ns spec PowerCut told = not_cut PowerCut (create_finding ns spec PowerCut (told (λ (e : PowerCut ≡ OutOfMemory). let h = e in cc)))
planned_uncut ns spec f told = refl

-- ---- what is held after a refusal

pub refused_as : (c : Command) (s s' : List (List Mapping)) (o o' : List Area) (f : OpRefused) → s ≡ s' → o ≡ o' → refusal_of (shown s' o') c ≡ Some f → refusal_of (shown s o) c ≡ Some f
refused_as c s s' o o' f a b is = ap (λ (t : List (List Mapping)). refusal_of (shown t o) c) a ∙ ap (λ (x : List Area). refusal_of (shown s' x) c) b ∙ is

pub held_unchanged : (h : Held) (sets : List (List Mapping)) (areas : List Area) (stopped : Bool) (r : Result (Unit {0}) OpRefused) (f : OpRefused) → sets ≡ h.sets → areas ≡ h.areas → stopped ≡ is_cut r → r ≡ Err f
    → is_cut (Err f) ≡ false → h.stopped ≡ false → record { sets = sets; areas = areas; stopped = stopped } ≡ h
held_unchanged h sets areas stopped r f a b c d e running =
    ap (λ (s : List (List Mapping)). record { sets = s; areas = areas; stopped = stopped }) a
    ∙ ap (λ (x : List Area). record { sets = h.sets; areas = x; stopped = stopped }) b
    ∙ ap (λ (t : Bool). record { sets = h.sets; areas = h.areas; stopped = t }) (c ∙ ap is_cut d ∙ e ∙ sym running)

-- ---- so of replies

pub other_reply : (r : Reply) → is_memory r ≡ false → r ≢ Err OutOfMemory
other_reply r other is = false≢true (sym other ∙ ap is_memory is)

pub carried_memory : (sets : List (List Mapping)) (old new : List Area) (fuse left : Option ℕ) (c : Command) (r : Reply) → IsFinding (refusal_of (shown sets old) c) → Carried sets old new fuse left c r → r ≢ Err OutOfMemory
carried_memory sets old new fuse left c r other carried = other_reply r (by (refusal_of (shown sets old) c) refl)
  where
    answer : refusal_of (shown sets old) c ≡ None → (x : Reply) → r ≡ x → is_memory r ≡ false
    answer none (Ok x) is = ap is_memory is
    answer none (Err f) is = ap is_memory (is ∙ ap (λ (g : OpRefused). Err g) (carried.cut none f is))

    by : (o : Option OpRefused) → refusal_of (shown sets old) c ≡ o → is_memory r ≡ false
    by (Some f) is = ap is_memory (carried.refused f is).0 ∙ not_memory f (other f is)
    by None is = answer is r refl
