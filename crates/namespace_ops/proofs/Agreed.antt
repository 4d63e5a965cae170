-- A command that was carried out makes of the map what its definition makes of it.
use Rattle.std.proofs.Common.{◌≡◌, ◌≢◌, ℕ, true, List, Option, Some, None, Result, Ok, Err, refl, ap, ◌∙◌, sym, length, take, ◌++◌}
use Rattle.std.proofs.Math.Seq.{take-append_seam}
use Rattle.std.specs.Prelude.{OnOk}
use Rattle.nfit_reader.specs.declared.table.Mapping.{Mapping}
use Rattle.namespace_areas.specs.declared.area.Area.{Area}
use Rattle.namespace_map.specs.declared.commands.Command.{Command}
use Rattle.namespace_map.specs.declared.commands.Command.TheVariants as command
use Rattle.namespace_map.specs.declared.commands.CreateSpec.{CreateSpec}
use Rattle.namespace_map.specs.declared.commands.Named.{Named}
use Rattle.namespace_map.specs.declared.refused.OpRefused.{OpRefused}
use Rattle.namespace_map.specs.declared.refused.OpRefused.TheVariants.{OutOfMemory}
use Rattle.namespace_map.specs.Commands.{done, refusal_of}
use Rattle.namespace_map.specs.Changes.{changes_of, namespaces_of}
use Rattle.namespace_map.specs.Left.{AreRegions}
use Rattle.namespace_laws.specs.Whole.{Agrees}
use Rattle.namespace_laws.proofs.AgreesCreate.{create_agrees}
use Rattle.namespace_laws.proofs.First.{delete_agrees, rename_agrees}
use Rattle.namespace_areas.specs.Seen.{areas_seen}
use Rattle.namespace_areas.specs.Went.{Went}
use Rattle.namespace_areas.proofs.Seen.{seen_read}
use Rattle.namespace_areas.specs.Refusals.{shown}
use Rattle.namespace_ops.specs.Carried.{Carried}

module _ (sets : List (List Mapping)) (old new : List Area) (fuse left : Option ℕ) (c : Command) (agrees : refusal_of (shown sets old) c ≡ None → Agrees sets (areas_seen old) c) where
  done_by : (r : Result (Unit {0}) OpRefused) → Carried sets old new fuse left c r → OnOk r (shown sets new ≡ done (shown sets old) c)
  done_by (Err f) carried = tt
  done_by (Ok x) carried = by (refusal_of (shown sets old) c) refl
    where
      by : (o : Option OpRefused) → refusal_of (shown sets old) c ≡ o → shown sets new ≡ done (shown sets old) c
      by None is =
          let went : Went old new fuse left (changes_of (shown sets old) (areas_seen old) c) true = carried.went is in
          ap (namespaces_of sets) (went.done refl) ∙ agrees is
      by (Some f) is = absurd (let e = (carried.refused f is).0 in cc)

pub delete_done : (sets : List (List Mapping)) (old new : List Area) (fuse left : Option ℕ) (uuid : List ℕ) → AreRegions sets → (r : Result (Unit {0}) OpRefused) → Carried sets old new fuse left (command.Delete uuid) r
    → OnOk r (shown sets new ≡ done (shown sets old) (command.Delete uuid))
delete_done sets old new fuse left uuid regions = done_by sets old new fuse left (command.Delete uuid) (delete_agrees sets (areas_seen old) uuid regions (seen_read old))

pub rename_done : (sets : List (List Mapping)) (old new : List Area) (fuse left : Option ℕ) (uuid : List ℕ) (name : Named) → AreRegions sets → (r : Result (Unit {0}) OpRefused)
    → Carried sets old new fuse left (command.Rename uuid name) r → OnOk r (shown sets new ≡ done (shown sets old) (command.Rename uuid name))
rename_done sets old new fuse left uuid name regions = done_by sets old new fuse left (command.Rename uuid name) (rename_agrees sets (areas_seen old) uuid name regions (seen_read old))

pub create_done : (sets : List (List Mapping)) (old new : List Area) (fuse left : Option ℕ) (spec : CreateSpec) → AreRegions sets → (r : Result (Unit {0}) OpRefused)
    → (r ≢ Err OutOfMemory → Carried sets old new fuse left (command.Create spec) r) → OnOk r (shown sets new ≡ done (shown sets old) (command.Create spec))
create_done sets old new fuse left spec regions (Err f) carried = tt
create_done sets old new fuse left spec regions (Ok x) carried =
    done_by sets old new fuse left (command.Create spec) (create_agrees sets (areas_seen old) spec.uuid spec.name spec.region spec.size spec.make regions) (Ok x) (carried (λ e. cc))

-- the same of equal sets and areas
pub done_as : (c : Command) (sets sets' now : List (List Mapping)) (old old' new new' : List Area) (r : Result (Unit {0}) OpRefused) → sets ≡ sets' → sets ≡ now → old ≡ old' → new ≡ new'
    → OnOk r (shown sets new ≡ done (shown sets old) c) → OnOk r (shown sets' new' ≡ done (shown now old') c)
done_as c sets sets' now old old' new new' (Err f) a b o n h = tt
done_as c sets sets' now old old' new new' (Ok x) a b o n h =
    ap (λ (s : List (List Mapping)). shown s new') (sym a) ∙ ap (shown sets) (sym n) ∙ h ∙ ap (λ (as' : List Area). done (shown sets as') c) o ∙ ap (λ (s : List (List Mapping)). done (shown s old') c) b

pub whole_front : {X : Type 0} (n : ℕ) (xs ys : List X) → length xs ≡ n → xs ≡ take n (xs ++ ys)
whole_front n xs ys e = sym (ap (λ (k : ℕ). take k (xs ++ ys)) (sym e) ∙ take-append_seam xs ys)
